-- Each type of the tree of an import or export, as the rule that it stands for.
use Rattle.std.specs.Prelude.{Bool}
use Rattle.grammar.specs.Tree.{n-token, n-sequence, n-left, n-right}
use Rattle.tu_token.specs.declared.class.Class.TheVariants.{Name, WordOpaque, WordVar}
use Rattle.tu_token.specs.Rules.{body, r-import, r-imp, r-export, r-exp}
use Rattle.tu_expr.specs.declared.leaf.Leaf.{Leaf}
use Rattle.tu_expr.specs.Leaves.{leaf_view}
use Rattle.tu_expr.specs.Parts.{Part, listing, any_listing}
use Rattle.tu_tree.specs.declared.import.ImportForm.{ImportForm}
use Rattle.tu_tree.specs.declared.import.ImportForm.TheVariants as import
use Rattle.tu_tree.specs.declared.import.ExportForm.{ExportForm}
use Rattle.tu_tree.specs.declared.import.ExportForm.TheVariants as export
use Rattle.tu_tree.specs.Parts.{flag}

abbrev pub import_view : ImportForm → Part (body r-import)
import_view (import.Bracketed items) = n-sequence n-token (n-left (n-sequence n-token (n-sequence (any_listing r-imp items) n-token)))
import_view (import.Plain first more) = n-sequence n-token (n-right (listing r-imp first more))

abbrev pub import_item_view : Bool → Leaf → Part (body r-imp)
import_item_view is_var name = n-sequence (flag WordVar is_var) (leaf_view Name name)

abbrev pub export_view : ExportForm → Part (body r-export)
export_view (export.Bracketed items) = n-sequence n-token (n-left (n-sequence n-token (n-sequence (any_listing r-exp items) n-token)))
export_view (export.Plain first more) = n-sequence n-token (n-right (listing r-exp first more))

abbrev pub export_item_view : Bool → Leaf → Part (body r-exp)
export_item_view is_opaque name = n-sequence (flag WordOpaque is_opaque) (leaf_view Name name)
