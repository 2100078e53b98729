-- Statements and blocks by their forms.
use Rattle.std.specs.Prelude.{◌≡◌, Bool, List, ◌++◌, Option, refl}
use Rattle.std.proofs.Common.{sym, ap, ◌∙◌}
use Rattle.std.proofs.lemmas.List.{append-nil}
use Rattle.grammar.specs.Description.{Description, rule}
use Rattle.grammar.specs.Tree.{n-rule, n-sequence, Mark}
use Rattle.tu_token.specs.declared.class.Class.TheVariants.{SignSemicolon}
use Rattle.tu_token.specs.Rules.{Rule, r-block, r-ending, r-givens, r-handler, r-post, r-pre, r-rest, r-statement}
use Rattle.tu_token.specs.Syntax.{Of}
use Rattle.tu_expr.specs.Parts.{Part, optional}
use Rattle.tu_tree.specs.Parts.{flag}
use Rattle.tu_tree.specs.StatementViews.{statement_view}
use Rattle.tu_tree.specs.SubprogramViews.{rest_view}
use Rattle.tu_tree.specs.declared.statement.StatementForm.{StatementForm}
use Rattle.tu_tree.specs.declared.statement.StatementForm.TheVariants as statement
use Rattle.tu_scope_rules.specs.declared.event.Context.{Context}
use Rattle.tu_scope_rules.specs.declared.event.Context.TheVariants.{Elsewhere, InPost}
use Rattle.tu_scope_rules.specs.declared.event.Event.{Event}
use Rattle.tu_scope_parts.specs.Adds.{Adds, Extends}
use Rattle.tu_scope_parts.specs.Walk.{events}
use Rattle.tu_scope_parts.proofs.Turns.{flag_does}
use Rattle.tu_scope.specs.Statements.{IsSimple, within}

-- a semicolon does nothing
pub separated : {d : Description Rule} {context : Context} {x : Part d} {u v : List Event} (semicolon : Bool) → Adds context x u v → Adds context (n-sequence x (flag SignSemicolon semicolon)) u v
separated {context = context} {x = x} {u = u} semicolon p =
    record { is = p.is ∙ (ap (λ es. u ++ es) (sym (append-nil (events context x))) ∙ ap (λ es. u ++ (events context x ++ es)) (sym (flag_does context SignSemicolon semicolon))) }

-- a statement without blocks does what its parts do
simple_does : (context : Context) (m : Mark) (form : StatementForm) → IsSimple form → events context (statement_view form) ≡ events context (n-rule {n = r-statement} m (statement_view form))
simple_does context m (statement.If condition block elsifs otherwise) h = absurd h
simple_does context m (statement.Loop invariant block) h = absurd h
simple_does context m (statement.For is_decreasing name range invariant block) h = absurd h
simple_does context m (statement.Case subject arms otherwise) h = absurd h
simple_does context m (statement.Begin block) h = absurd h
simple_does context m (statement.Assign path value) h = refl
simple_does context m (statement.Call path) h = refl
simple_does context m statement.Exit h = refl
simple_does context m (statement.ExitWhen condition) h = refl
simple_does context m statement.Return h = refl
simple_does context m (statement.Result value) h = refl
simple_does context m (statement.Assert condition) h = refl
simple_does context m (statement.New collection pointer) h = refl
simple_does context m (statement.Free collection pointer) h = refl
simple_does context m (statement.Tag path value) h = refl
simple_does context m (statement.Put stream first more is_open) h = refl
simple_does context m (statement.Get stream first more) h = refl
simple_does context m (statement.Open path name mode) h = refl
simple_does context m (statement.Close stream) h = refl
simple_does context m statement.Quit h = refl
simple_does context m (statement.QuitWith number) h = refl

pub simple_done : {context : Context} {m : Mark} (form : StatementForm) {x : Of r-statement} {u v : List Event} → n-rule m (statement_view form) ≡ x → IsSimple form → Adds context (statement_view form) u v → Adds context x u v
simple_done {context = context} {m = m} form {u = u} is simple p =
    record { is = p.is ∙ (ap (λ es. u ++ es) (simple_does context m form simple) ∙ ap (λ (y : Of r-statement). u ++ events context y) is) }

-- what follows the head of a subprogram
rest_does : (context : Context) (m : Mark) (pre : Option (Of r-pre)) (givens : Option (Of r-givens)) (post : Option (Of r-post)) (handler : Option (Of r-handler)) (block : Of r-block) (ending : Of r-ending)
    → events Elsewhere (optional (rule r-pre) pre) ++ events Elsewhere (optional (rule r-givens) givens) ++ events InPost (optional (rule r-post) post) ++ events Elsewhere (optional (rule r-handler) handler) ++ within block
    ≡ events context (n-rule {n = r-rest} m (rest_view pre givens post handler block ending))
rest_does context m pre givens post handler (n-rule n parts) ending = refl

pub rest_done : {context : Context} {m : Mark} (pre : Option (Of r-pre)) (givens : Option (Of r-givens)) (post : Option (Of r-post)) (handler : Option (Of r-handler)) (block : Of r-block) (ending : Of r-ending) {x : Of r-rest} {u v : List Event}
    → n-rule m (rest_view pre givens post handler block ending) ≡ x
    → Extends (events Elsewhere (optional (rule r-pre) pre) ++ events Elsewhere (optional (rule r-givens) givens) ++ events InPost (optional (rule r-post) post) ++ events Elsewhere (optional (rule r-handler) handler) ++ within block) u v
    → Adds context x u v
rest_done {context = context} {m = m} pre givens post handler block ending {u = u} is p =
    record { is = p.is ∙ (ap (λ es. u ++ es) (rest_does context m pre givens post handler block ending) ∙ ap (λ (y : Of r-rest). u ++ events context y) is) }
