-- Each type of the tree of a subprogram, as the rule that it stands for.
use Rattle.std.specs.Prelude.{Bool, List, Option}
use Rattle.grammar.specs.Description.{Description, rule}
use Rattle.grammar.specs.Tree.{n-token, n-sequence, n-left, n-right}
use Rattle.tu_token.specs.declared.class.Class.TheVariants.{Name, WordFunction, WordProcedure, WordVar}
use Rattle.tu_token.specs.Rules.{Rule, ◌∣◌, t, body, r-block, r-names, r-spec, r-subprogram, r-head, r-formals, r-formal, r-rest, r-import, r-pre, r-givens, r-post, r-handler, r-ending}
use Rattle.tu_token.specs.Syntax.{Of}
use Rattle.tu_expr.specs.declared.leaf.Leaf.{Leaf}
use Rattle.tu_expr.specs.Leaves.{leaf_view}
use Rattle.tu_expr.specs.Parts.{Part, any_listing, optional}
use Rattle.tu_tree.specs.declared.subprogram.SubprogramForm.{SubprogramForm}
use Rattle.tu_tree.specs.declared.subprogram.SubprogramForm.TheVariants as subprogram
use Rattle.tu_tree.specs.declared.subprogram.SubprogramKind.{SubprogramKind}
use Rattle.tu_tree.specs.declared.subprogram.SubprogramKind.TheVariants.{Procedure, Function}
use Rattle.tu_tree.specs.declared.subprogram.HeadForm.{HeadForm}
use Rattle.tu_tree.specs.declared.subprogram.HeadForm.TheVariants as head
use Rattle.tu_tree.specs.Parts.{flag}
use Rattle.tu_tree.specs.TypeViews.{tag_view}

-- the word of a procedure or function
abbrev pub kinds : Description Rule
kinds = t WordProcedure ∣ t WordFunction

abbrev pub kind_view : SubprogramKind → Part kinds
kind_view Procedure = n-left n-token
kind_view Function = n-right n-token

abbrev pub subprogram_view : SubprogramForm → Part (body r-subprogram)
subprogram_view (subprogram.Forward head import) = n-left (n-sequence n-token (n-sequence head (optional (rule r-import) import)))
subprogram_view (subprogram.Whole head import rest) = n-right (n-left (n-sequence head (n-sequence (optional (rule r-import) import) rest)))
subprogram_view (subprogram.Body kind name rest) = n-right (n-right (n-sequence n-token (n-sequence (kind_view kind) (n-sequence (leaf_view Name name) rest))))

abbrev pub head_view : HeadForm → Part (body r-head)
head_view (head.Procedure name formals) = n-left (n-sequence n-token (n-sequence (leaf_view Name name) (optional (rule r-formals) formals)))
head_view (head.Function name formals result spec) =
    n-right (n-sequence n-token (n-sequence (leaf_view Name name) (n-sequence (optional (rule r-formals) formals) (n-sequence (tag_view result) (n-sequence n-token spec)))))

abbrev pub formals_view : List (Of r-formal) → Part (body r-formals)
formals_view items = n-sequence n-token (n-sequence (any_listing r-formal items) n-token)

abbrev pub formal_view : Bool → Of r-names → Of r-spec → Part (body r-formal)
formal_view is_var names spec = n-sequence (flag WordVar is_var) (n-sequence names (n-sequence n-token spec))

abbrev pub handler_view : Leaf → Of r-block → Part (body r-handler)
handler_view name block = n-sequence n-token (n-sequence n-token (n-sequence (leaf_view Name name) (n-sequence n-token (n-sequence block (n-sequence n-token n-token)))))

abbrev pub rest_view : Option (Of r-pre) → Option (Of r-givens) → Option (Of r-post) → Option (Of r-handler) → Of r-block → Of r-ending → Part (body r-rest)
rest_view pre givens post handler block ending =
    n-sequence (optional (rule r-pre) pre) (n-sequence (optional (rule r-givens) givens) (n-sequence (optional (rule r-post) post) (n-sequence (optional (rule r-handler) handler) (n-sequence block ending))))
