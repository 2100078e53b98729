-- Assignments, and paths with steps.
use Rattle.std.proofs.Common.{◌≡◌, ℕ, List, [], ◌∷◌, refl, ap, ◌∙◌, sym, Bool, true, false}
use Rattle.std.specs.Prelude.{Option, Some, None, is_some}
use Rattle.grammar.specs.Description.{rule}
use Rattle.grammar.specs.Tree.{Mark, n-rule}
use Rattle.ir_code.specs.Pieces.{leave, with_op}
use Rattle.ir_code.specs.declared.code.Code.{Code}
use Rattle.tu_token.specs.declared.class.Class.TheVariants.{SignComma, SignRange}
use Rattle.tu_token.specs.Rules.{r-expr, r-path, r-shown, r-statement}
use Rattle.tu_token.specs.Syntax.{Of}
use Rattle.tu_expr.specs.declared.leaf.Leaf.{Leaf}
use Rattle.tu_expr.specs.declared.path.Step.{Step}
use Rattle.tu_expr.specs.Forms.{More, NoMore, Path}
use Rattle.tu_expr.specs.Parts.{chain}
use Rattle.tu_tree.specs.Parts.{flag}
use Rattle.tu_expr.specs.Views.{path_view}
use Rattle.tu_tree.specs.declared.statement.StatementForm.{StatementForm}
use Rattle.tu_tree.specs.declared.statement.StatementForm.TheVariants.{Assign, Exit, ExitWhen, Put}
use Rattle.tu_tree.specs.declared.statement.StatementForm.TheVariants as statement
use Rattle.tu_tree.specs.StatementViews.{statement_view}
use Rattle.tu_value.specs.declared.pieces.Fixed.{Fixed}
use Rattle.ir_build.specs.Code.{Made, named, code_expr}
use Rattle.ir_build.specs.Keeps.{Named}
use Rattle.ir_stmt.specs.Code.{code_end, code_shown, code_shown_more, code_simple, stored}
use Rattle.ir_stmt.specs.Made.{assigned, left_where}

-- a statement by its form
pub with_form : (s : Of r-statement) (m : Mark) (form other : StatementForm) → n-rule m (statement_view form) ≡ s → form ≡ other → n-rule m (statement_view other) ≡ s
with_form s m form other is form_is = ap (λ f. n-rule m (statement_view f)) (sym form_is) ∙ is

module _ (k : Fixed) (names : List Named) where
  -- to what is no variable nothing is assigned
  pub steps_more : (line : ℕ) (p : Of r-path) (m : Mark) (root : Leaf) (more : List Step) (e : Of r-expr) (code : Code) → n-rule m (path_view root more) ≡ p → (more ≡ [] → ⊥) → code ≡ assigned k names line p e code
  steps_more line p m root [] e code is some = absurd (some refl)
  steps_more line p m root (x ∷ more) e code is some = ap (λ z. assigned k names line z e code) is

  pub root_alone : (line : ℕ) (p : Of r-path) (m : Mark) (root : Leaf) (more : List Step) (e : Of r-expr) (before : Code) (x : Made) → n-rule m (path_view root more) ≡ p → more ≡ [] → x ≡ code_expr k names line e before
      → stored k names x.code (named root.text names) x.value ≡ assigned k names line p e before
  root_alone line p m root more e before x is none made =
      (λ j. stored k names (made j).code (named root.text names) (made j).value) ∙ (ap (λ l. assigned k names line (n-rule m (path_view root l)) e before) (sym none) ∙ ap (λ z. assigned k names line z e before) is)

  pub assign_is : (outside : ℕ) (m : Mark) (p : Of r-path) (e : Of r-expr) (code : Code) → assigned k names m.line p e code ≡ code_simple k names outside (n-rule m (statement_view (Assign p e))) code
  assign_is outside m (Path at root NoMore) e code = refl
  assign_is outside m (Path at root (More x more)) e code = refl

  -- no code for other statements
  pub other_is : (outside : ℕ) (m : Mark) (form : StatementForm) (s : Of r-statement) (code : Code) → n-rule m (statement_view form) ≡ s → ((p : Of r-path) (e : Of r-expr) → form ≡ Assign p e → ⊥) → (form ≡ Exit → ⊥)
      → ((e : Of r-expr) → form ≡ ExitWhen e → ⊥) → ((stream : Option (Of r-expr)) (first : Of r-shown) (more : List (Of r-shown)) (is_open : Bool) → form ≡ Put stream first more is_open → ⊥) → code ≡ code_simple k names outside s code
  other_is outside m form s code is no_assign no_exit no_when no_put = by form no_assign no_exit no_when no_put ∙ ap (λ z. code_simple k names outside z code) is where
    call : (p : Of r-path) → code ≡ code_simple k names outside (n-rule m (statement_view (statement.Call p))) code
    call (Path at root NoMore) = refl
    call (Path at root (More x more)) = refl

    by : (f : StatementForm) → ((p : Of r-path) (e : Of r-expr) → f ≡ Assign p e → ⊥) → (f ≡ Exit → ⊥) → ((e : Of r-expr) → f ≡ ExitWhen e → ⊥)
        → ((stream : Option (Of r-expr)) (first : Of r-shown) (more : List (Of r-shown)) (is_open : Bool) → f ≡ Put stream first more is_open → ⊥) → code ≡ code_simple k names outside (n-rule m (statement_view f)) code
    by (Assign p e) a b c d = absurd (a p e refl)
    by Exit a b c d = absurd (b refl)
    by (ExitWhen e) a b c d = absurd (c e refl)
    by (Put stream first more is_open) a b c d = absurd (d stream first more is_open refl)
    by (statement.Call p) a b c d = call p
    by (statement.If condition block elsifs otherwise) a b c d = refl
    by (statement.Loop invariant block) a b c d = refl
    by (statement.For is_decreasing name range invariant block) a b c d = refl
    by (statement.Case subject arms otherwise) a b c d = refl
    by (statement.Begin block) a b c d = refl
    by statement.Return a b c d = refl
    by (statement.Result value) a b c d = refl
    by (statement.Assert condition) a b c d = refl
    by (statement.New collection pointer) a b c d = refl
    by (statement.Free collection pointer) a b c d = refl
    by (statement.Tag path value) a b c d = refl
    by (statement.Get stream first more) a b c d = refl
    by (statement.Open path name mode) a b c d = refl
    by (statement.Close stream) a b c d = refl
    by statement.Quit a b c d = refl
    by (statement.QuitWith number) a b c d = refl

  module _ (outside : ℕ) (s : Of r-statement) (m : Mark) (form : StatementForm) (code : Code) (is : n-rule m (statement_view form) ≡ s) where
    pub exit_is : form ≡ Exit → with_op code (leave outside) ≡ code_simple k names outside s code
    exit_is form_is = ap (λ z. code_simple k names outside z code) (with_form s m form Exit is form_is)

    pub exit_when_is : (e : Of r-expr) → form ≡ ExitWhen e → left_where k names outside m.line e code ≡ code_simple k names outside s code
    exit_when_is e form_is = ap (λ z. code_simple k names outside z code) (with_form s m form (ExitWhen e) is form_is)

    -- what is put without a stream, and with one
    pub put_is : (stream : Option (Of r-expr)) (first : Of r-shown) (more : List (Of r-shown)) (is_open : Bool) → form ≡ Put stream first more is_open → is_some stream ≡ false
        → code_end k names m.line (flag SignRange is_open) (code_shown_more k names m.line (chain SignComma (rule r-shown) more) (code_shown k names m.line first code)) ≡ code_simple k names outside s code
    put_is None first more is_open form_is none = ap (λ z. code_simple k names outside z code) (with_form s m form (Put None first more is_open) is form_is)
    put_is (Some x) first more is_open form_is none = absurd (cc none)

    pub put_elsewhere : (stream : Option (Of r-expr)) (first : Of r-shown) (more : List (Of r-shown)) (is_open : Bool) → form ≡ Put stream first more is_open → is_some stream ≡ true → code ≡ code_simple k names outside s code
    put_elsewhere None first more is_open form_is some = absurd (cc some)
    put_elsewhere (Some x) first more is_open form_is some = ap (λ z. code_simple k names outside z code) (with_form s m form (Put (Some x) first more is_open) is form_is)
