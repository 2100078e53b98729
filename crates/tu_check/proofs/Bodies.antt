-- Statements: what tells of each form, and of the parts of one with blocks.
use Rattle.std.proofs.Common.{◌≡◌, ℕ, Bool, true, if◌then◌else◌, List, refl, ap, ◌∙◌, sym}
use Rattle.std.specs.Prelude.{Option, Some, None}
use Rattle.std.specs.Option.{option_or}
use Rattle.grammar.specs.Description.{rule}
use Rattle.grammar.specs.Tree.{Mark, n-rule}
use Rattle.tu_token.specs.declared.class.Class.TheVariants.{SignComma}
use Rattle.tu_token.specs.Rules.{r-expr, r-block, r-elsif, r-statement, r-invariant, r-path, r-shown}
use Rattle.tu_token.specs.Syntax.{Of}
use Rattle.tu_expr.specs.Parts.{chain}
use Rattle.tu_tree.specs.declared.statement.BlockPart.{BlockPart}
use Rattle.tu_tree.specs.declared.statement.StatementForm.{StatementForm}
use Rattle.tu_tree.specs.declared.statement.StatementForm.TheVariants as statement
use Rattle.tu_tree.specs.StatementViews.{block_part_view, block_view, else_view, statement_view}
use Rattle.tu_check.specs.Built.{unbuilt_block, unbuilt_condition, unbuilt_elsif, unbuilt_else, unbuilt_part, unbuilt_plain, unbuilt_shown, unbuilt_shown_more, unbuilt_statement}
use Rattle.tu_check.proofs.Lists.{first_of, elsifs_first, parts_first}

module _ (declared : List (List ℕ)) (is_inside : Bool) where
  -- the parts of a block
  pub block_says : (s : Of r-block) (m : Mark) (parts xs : List (BlockPart × Bool)) → n-rule m (block_view parts) ≡ s → xs ≡ parts → unbuilt_block declared is_inside s ≡ first_of (λ x. unbuilt_part declared is_inside (block_part_view x.0)) xs
  block_says s m parts xs is same = ap (unbuilt_block declared is_inside) (sym is) ∙ (ap (λ l. unbuilt_block declared is_inside (n-rule m (block_view l))) (sym same) ∙ parts_first declared is_inside xs)

  -- the condition and the block of an `if`
  abbrev pub unbuilt_head : Of r-expr → Of r-block → Option ℕ
  unbuilt_head condition block = option_or (unbuilt_condition declared condition) (unbuilt_block declared is_inside block)

  module _ (s : Of r-statement) (m : Mark) (form : StatementForm) (is : n-rule m (statement_view form) ≡ s) where
    form_says : (f : StatementForm) → form ≡ f → unbuilt_statement declared is_inside s ≡ unbuilt_statement declared is_inside (n-rule m (statement_view f))
    form_says f form_is = ap (unbuilt_statement declared is_inside) (sym is) ∙ ap (λ g. unbuilt_statement declared is_inside (n-rule m (statement_view g))) form_is

    module _ (condition : Of r-expr) (block : Of r-block) (elsifs : List (Of r-elsif)) (otherwise : Option (Of r-block)) (form_is : form ≡ statement.If condition block elsifs otherwise) where
      if_says : unbuilt_statement declared is_inside s ≡ option_or (unbuilt_head condition block) (option_or (first_of (unbuilt_elsif declared is_inside) elsifs) (unbuilt_else declared is_inside (else_view otherwise)))
      if_says = form_says (statement.If condition block elsifs otherwise) form_is
          ∙ ap (λ o. option_or (unbuilt_head condition block) (option_or o (unbuilt_else declared is_inside (else_view otherwise)))) (elsifs_first declared is_inside elsifs)

      pub head_found : (line : ℕ) → Some line ≡ unbuilt_head condition block → unbuilt_statement declared is_inside s ≡ Some line
      head_found line e = if_says ∙ ap (λ o. option_or o (option_or (first_of (unbuilt_elsif declared is_inside) elsifs) (unbuilt_else declared is_inside (else_view otherwise)))) (sym e)

      tail_says : None ≡ unbuilt_head condition block → unbuilt_statement declared is_inside s ≡ option_or (first_of (unbuilt_elsif declared is_inside) elsifs) (unbuilt_else declared is_inside (else_view otherwise))
      tail_says e = if_says ∙ ap (λ o. option_or o (option_or (first_of (unbuilt_elsif declared is_inside) elsifs) (unbuilt_else declared is_inside (else_view otherwise)))) (sym e)

      pub elsif_found : (line : ℕ) → None ≡ unbuilt_head condition block → first_of (unbuilt_elsif declared is_inside) elsifs ≡ Some line → unbuilt_statement declared is_inside s ≡ Some line
      elsif_found line e f = tail_says e ∙ ap (λ o. option_or o (unbuilt_else declared is_inside (else_view otherwise))) f

      pub else_says : None ≡ unbuilt_head condition block → first_of (unbuilt_elsif declared is_inside) elsifs ≡ None → unbuilt_statement declared is_inside s ≡ unbuilt_else declared is_inside (else_view otherwise)
      else_says e f = tail_says e ∙ ap (λ o. option_or o (unbuilt_else declared is_inside (else_view otherwise))) f

    pub loop_says : (invariant : Option (Of r-invariant)) (block : Of r-block) → form ≡ statement.Loop invariant block → invariant ≡ None → unbuilt_statement declared is_inside s ≡ unbuilt_block declared true block
    loop_says None block form_is none = form_says (statement.Loop None block) form_is
    loop_says (Some x) block form_is none = absurd (cc)

    pub loop_with_invariant : (invariant : Option (Of r-invariant)) (block : Of r-block) (x : Of r-invariant) → form ≡ statement.Loop invariant block → invariant ≡ Some x → unbuilt_statement declared is_inside s ≡ Some m.line
    loop_with_invariant None block x form_is some = absurd (cc)
    loop_with_invariant (Some y) block x form_is some = form_says (statement.Loop (Some y) block) form_is

    pub other_says : ((condition : Of r-expr) (block : Of r-block) (elsifs : List (Of r-elsif)) (otherwise : Option (Of r-block)) → form ≡ statement.If condition block elsifs otherwise → ⊥)
        → ((invariant : Option (Of r-invariant)) (block : Of r-block) → form ≡ statement.Loop invariant block → ⊥)
        → unbuilt_statement declared is_inside s ≡ unbuilt_plain declared is_inside s
    other_says not_if not_loop = ap (unbuilt_statement declared is_inside) (sym is) ∙ (by form not_if not_loop ∙ ap (unbuilt_plain declared is_inside) is) where
      by : (f : StatementForm) → ((condition : Of r-expr) (block : Of r-block) (elsifs : List (Of r-elsif)) (otherwise : Option (Of r-block)) → f ≡ statement.If condition block elsifs otherwise → ⊥)
          → ((invariant : Option (Of r-invariant)) (block : Of r-block) → f ≡ statement.Loop invariant block → ⊥)
          → unbuilt_statement declared is_inside (n-rule m (statement_view f)) ≡ unbuilt_plain declared is_inside (n-rule m (statement_view f))
      by (statement.Assign path value) h k = refl
      by (statement.Call path) h k = refl
      by (statement.If condition block elsifs otherwise) h k = absurd (h condition block elsifs otherwise refl)
      by (statement.Loop invariant block) h k = absurd (k invariant block refl)
      by (statement.For is_decreasing name range invariant block) h k = refl
      by (statement.Case subject arms otherwise) h k = refl
      by (statement.Begin block) h k = refl
      by statement.Exit h k = refl
      by (statement.ExitWhen condition) h k = refl
      by statement.Return h k = refl
      by (statement.Result value) h k = refl
      by (statement.Assert condition) h k = refl
      by (statement.New collection pointer) h k = refl
      by (statement.Free collection pointer) h k = refl
      by (statement.Tag path value) h k = refl
      by (statement.Put stream first more is_open) h k = refl
      by (statement.Get stream first more) h k = refl
      by (statement.Open path name mode) h k = refl
      by (statement.Close stream) h k = refl
      by statement.Quit h k = refl
      by (statement.QuitWith number) h k = refl

    -- a statement without a block
    pub plain_says : (f : StatementForm) → form ≡ f → unbuilt_plain declared is_inside s ≡ unbuilt_plain declared is_inside (n-rule m (statement_view f))
    plain_says f form_is = ap (unbuilt_plain declared is_inside) (sym is) ∙ ap (λ g. unbuilt_plain declared is_inside (n-rule m (statement_view g))) form_is

    -- exit: in a loop, or not
    pub exit_says : form ≡ statement.Exit → unbuilt_plain declared is_inside s ≡ if is_inside then None else Some m.line
    exit_says form_is = plain_says statement.Exit form_is

    pub exit_when_says : (condition : Of r-expr) → form ≡ statement.ExitWhen condition → unbuilt_plain declared is_inside s ≡ if is_inside then unbuilt_condition declared condition else Some m.line
    exit_when_says condition form_is = plain_says (statement.ExitWhen condition) form_is

    -- put: over a stream, or not
    pub put_says : (stream : Option (Of r-expr)) (first : Of r-shown) (more : List (Of r-shown)) (is_open : Bool) → form ≡ statement.Put stream first more is_open → stream ≡ None →
        unbuilt_plain declared is_inside s ≡ option_or (unbuilt_shown declared first) (unbuilt_shown_more declared (chain SignComma (rule r-shown) more))
    put_says None first more is_open form_is none = plain_says (statement.Put None first more is_open) form_is
    put_says (Some x) first more is_open form_is none = absurd (cc)

    pub put_to_stream : (stream : Option (Of r-expr)) (first : Of r-shown) (more : List (Of r-shown)) (is_open : Bool) (x : Of r-expr) → form ≡ statement.Put stream first more is_open → stream ≡ Some x → unbuilt_plain declared is_inside s ≡ Some m.line
    put_to_stream None first more is_open x form_is some = absurd (cc)
    put_to_stream (Some y) first more is_open x form_is some = plain_says (statement.Put (Some y) first more is_open) form_is

    -- each other form
    pub rest_says : ((path : Of r-path) (value : Of r-expr) → form ≡ statement.Assign path value → ⊥) → (form ≡ statement.Exit → ⊥) → ((condition : Of r-expr) → form ≡ statement.ExitWhen condition → ⊥)
        → ((stream : Option (Of r-expr)) (first : Of r-shown) (more : List (Of r-shown)) (is_open : Bool) → form ≡ statement.Put stream first more is_open → ⊥) → unbuilt_plain declared is_inside s ≡ Some m.line
    rest_says not_assign not_exit not_exit_when not_put = sym (ap (unbuilt_plain declared is_inside) is) ∙ by form not_assign not_exit not_exit_when not_put where
      by : (f : StatementForm) → ((path : Of r-path) (value : Of r-expr) → f ≡ statement.Assign path value → ⊥) → (f ≡ statement.Exit → ⊥) → ((condition : Of r-expr) → f ≡ statement.ExitWhen condition → ⊥)
          → ((stream : Option (Of r-expr)) (first : Of r-shown) (more : List (Of r-shown)) (is_open : Bool) → f ≡ statement.Put stream first more is_open → ⊥) → unbuilt_plain declared is_inside (n-rule m (statement_view f)) ≡ Some m.line
      by (statement.Assign path value) a e w p = absurd (a path value refl)
      by (statement.Call path) a e w p = refl
      by (statement.If condition block elsifs otherwise) a e w p = refl
      by (statement.Loop invariant block) a e w p = refl
      by (statement.For is_decreasing name range invariant block) a e w p = refl
      by (statement.Case subject arms otherwise) a e w p = refl
      by (statement.Begin block) a e w p = refl
      by statement.Exit a e w p = absurd (e refl)
      by (statement.ExitWhen condition) a e w p = absurd (w condition refl)
      by statement.Return a e w p = refl
      by (statement.Result value) a e w p = refl
      by (statement.Assert condition) a e w p = refl
      by (statement.New collection pointer) a e w p = refl
      by (statement.Free collection pointer) a e w p = refl
      by (statement.Tag path value) a e w p = refl
      by (statement.Put stream first more is_open) a e w p = absurd (p stream first more is_open refl)
      by (statement.Get stream first more) a e w p = refl
      by (statement.Open path name mode) a e w p = refl
      by (statement.Close stream) a e w p = refl
      by statement.Quit a e w p = refl
      by (statement.QuitWith number) a e w p = refl
