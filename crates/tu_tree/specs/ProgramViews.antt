-- Each type of the tree of a program or module, as the rule that it stands for.
use Rattle.std.specs.Prelude.{Bool, List, Option}
use Rattle.grammar.specs.Description.{Description, rule}
use Rattle.grammar.specs.Tree.{n-token, n-sequence, n-left, n-right}
use Rattle.tu_token.specs.declared.class.Class.TheVariants.{Name}
use Rattle.tu_token.specs.Rules.{Rule, ◌∣◌, body, r-program, r-item, r-const, r-var, r-type, r-subprogram, r-import, r-export, r-module, r-statement, r-invariant, r-ending}
use Rattle.tu_token.specs.Syntax.{Of}
use Rattle.tu_expr.specs.declared.leaf.Leaf.{Leaf}
use Rattle.tu_expr.specs.Leaves.{leaf_view}
use Rattle.tu_expr.specs.Parts.{Part, optional}
use Rattle.tu_tree.specs.declared.program.ItemForm.{ItemForm}
use Rattle.tu_tree.specs.declared.program.ItemForm.TheVariants as item
use Rattle.tu_tree.specs.declared.program.ModulePart.{ModulePart}
use Rattle.tu_tree.specs.declared.program.ModulePart.TheVariants as part
use Rattle.tu_tree.specs.Parts.{sequel}

abbrev pub item_view : ItemForm → Part (body r-item)
item_view (item.Const x) = n-left x
item_view (item.Var x) = n-right (n-left x)
item_view (item.Type x) = n-right (n-right (n-left x))
item_view (item.Subprogram x) = n-right (n-right (n-right (n-left x)))
item_view (item.Module x) = n-right (n-right (n-right (n-right (n-left x))))
item_view (item.Statement x) = n-right (n-right (n-right (n-right (n-right x))))

abbrev pub program_view : List (Of r-item × Bool) → Part (body r-program)
program_view items = sequel (rule r-item) (λ x. x) items

-- what stands in a module
abbrev pub module_part : Description Rule
module_part = rule r-const ∣ rule r-var ∣ rule r-type ∣ rule r-subprogram ∣ rule r-statement ∣ rule r-invariant

abbrev pub module_part_view : ModulePart → Part module_part
module_part_view (part.Const x) = n-left x
module_part_view (part.Var x) = n-right (n-left x)
module_part_view (part.Type x) = n-right (n-right (n-left x))
module_part_view (part.Subprogram x) = n-right (n-right (n-right (n-left x)))
module_part_view (part.Statement x) = n-right (n-right (n-right (n-right (n-left x))))
module_part_view (part.Invariant x) = n-right (n-right (n-right (n-right (n-right x))))

abbrev pub module_view : Leaf → Option (Of r-import) → Option (Of r-export) → List (ModulePart × Bool) → Of r-ending → Part (body r-module)
module_view name import export parts ending =
    n-sequence n-token (n-sequence (leaf_view Name name) (n-sequence (optional (rule r-import) import) (n-sequence (optional (rule r-export) export) (n-sequence (sequel module_part module_part_view parts) ending))))
