-- Programs: what is told of a tree whose names are resolved, or its core.
use Rattle.std.specs.Prelude.{ℕ, false, List, [], ◌∷◌, ◌++◌, map, nat_le, Option, Some, None}
use Rattle.grammar.specs.Description.{rule}
use Rattle.grammar.specs.Tree.{Mark}
use Rattle.tu_base.specs.Shapes.{all_words}
use Rattle.tu_scope_rules.specs.declared.name_use.NameUse.{NameUse}
use Rattle.tu_core.specs.Core.{Program as CoreProgram}
use Rattle.tu_core.specs.Rooms.{main_room}
use Rattle.tu_token.specs.Rules.{r-item, r-program, many}
use Rattle.tu_token.specs.Syntax.{Of}
use Rattle.tu_expr.specs.Parts.{Part}
use Rattle.tu_tree.specs.Parts.{separated}
use Rattle.tu_tree.specs.Forms.{More, NoMore, Separated, Program, ItemConst, ItemVar, ItemType, ItemSubprogram, ItemModule, ItemStatement}
use Rattle.tu_type_base.specs.declared.fault.FaultKind.TheVariants.{TooLarge}
use Rattle.tu_type_base.specs.declared.fault.Fault.{Fault}
use Rattle.tu_type_base.specs.Checked.{Checked, Good, Faulty, least, ◌⊳◌, asks}
use Rattle.tu_type_table.specs.Types.{bare_of, shapes_of}
use Rattle.tu_type_operands.specs.declared.state.State.{State}
use Rattle.tu_type_operands.specs.Names.{start}
use Rattle.tu_type_parts.specs.Declarations.{Piece, OfStatement, block_of, constant, variable, type}
use Rattle.tu_types.specs.Statements.{statement}
use Rattle.tu_types.specs.Subprograms.{subprogram}
use Rattle.tu_types.specs.Modules.{«module»}

-- the most words of the room of the main program
abbrev pub most_room : ℕ
most_room = 8388608

abbrev pub item : State → Of r-item → Checked (State × List Piece)
item s (ItemConst m x) = constant s x
item s (ItemVar m x) = variable false s x
item s (ItemType m x) = type s x
item s (ItemSubprogram m x) = subprogram s x ⊳ λ new. Good (new, [])
item s (ItemModule m x) = «module» s x
item s (ItemStatement m x) = statement s x ⊳ λ a. Good (a.0, OfStatement a.1 ∷ [])

abbrev pub items : State → Part (many (separated (rule r-item))) → Checked (State × List Piece)
items s NoMore = Good (s, [])
items s (More (Separated x _) more) = item s x ⊳ λ a. items a.0 more ⊳ λ b. Good (b.0, a.1 ++ b.1)

-- the core of a program whose parts are these
abbrev pub core_of : State × List Piece → CoreProgram
core_of z = record {
  shapes = shapes_of z.0.types;
  globals = z.0.globals;
  collections = map (bare_of z.0.types) z.0.elements;
  routines = z.0.routines;
  locals = z.0.locals;
  main = block_of z.1;
}

abbrev pub roomy : Mark → CoreProgram → Checked CoreProgram
roomy m p = asks (nat_le (main_room (all_words p.shapes) p) most_room) TooLarge m ⊳ λ _. Good p

abbrev pub program : List NameUse → Of r-program → Checked CoreProgram
program uses (Program m xs) = items (start uses) xs ⊳ λ z. roomy m (core_of z)

-- the fault that is told
abbrev pub told : {A : Type 0} → Checked A → Option Fault
told (Good a) = None
told (Faulty f fs) = Some (least f fs)
