-- Statements that are built.
use Rattle.std.specs.Prelude.{Bool, true, false, ◌&&◌, not, List, [], ◌∷◌}
use Rattle.grammar.specs.Description.{rule}
use Rattle.tu_token.specs.declared.class.Class.TheVariants.{SignColon, SignComma, WordElse}
use Rattle.tu_token.specs.Rules.{r-program, r-item, r-var, r-block, r-elsif, r-expr, r-shown, r-statement, ◌⨟◌, many, maybe, t as lexeme}
use Rattle.tu_token.specs.Syntax.{Of}
use Rattle.tu_expr.specs.Parts.{Part}
use Rattle.tu_expr.specs.Forms.{Present, Absent, More, NoMore, Behind, Listed}
use Rattle.tu_tree.specs.Forms.{Program, ItemVar, ItemStatement, StartedDeclaration, TypedDeclaration, Spec, IntType, ValueStart, Block, BlockStatement, Assign, If, Loop, Simple, Exit, ExitWhen, Put, Shown, Elsif, Separated}
use Rattle.tu_tree.specs.Parts.{separated}
use Rattle.tu_tree.specs.StatementViews.{block_part}
use Rattle.tu_tree_meaning.specs.Values.{Variable}
use Rattle.tu_tree_meaning.specs.Interpreter.{names_of}
use Rattle.ir_build.specs.Built.{is_declared, is_built, is_built_path, is_tested}

module _ (declared : List Variable) where
  abbrev pub is_width_built : Part (maybe (lexeme SignColon ⨟ rule r-expr)) → Bool
  is_width_built Absent = true
  is_width_built (Present (Behind _ e)) = is_built declared e

  abbrev pub is_shown_built : Of r-shown → Bool
  is_shown_built (Shown m e width) = is_built declared e && is_width_built width

  abbrev pub are_shown_built : Part (many (lexeme SignComma ⨟ rule r-shown)) → Bool
  are_shown_built NoMore = true
  are_shown_built (More (Behind _ part) more) = is_shown_built part && are_shown_built more

  abbrev pub is_simple_built : (is_inside : Bool) → Of r-statement → Bool
  is_simple_built is_inside (Assign m path _ e) = is_built_path declared path && is_built declared e
  is_simple_built is_inside (Simple m (Exit _)) = is_inside
  is_simple_built is_inside (Simple m (ExitWhen _ _ e)) = is_inside && is_tested declared e
  is_simple_built is_inside (Simple m (Put _ Absent (Listed first more) dots)) = is_shown_built first && are_shown_built more
  is_simple_built is_inside other = false

  abbrev mutual
    pub is_statement_built : (is_inside : Bool) → Of r-statement → Bool
    is_statement_built is_inside (If m _ e _ block elsifs otherwise _ _) = is_tested declared e && (is_block_built is_inside block && (are_elsifs_built is_inside elsifs && is_otherwise_built is_inside otherwise))
    is_statement_built is_inside (Loop m _ Absent block _ _) = is_block_built true block
    is_statement_built is_inside other = is_simple_built is_inside other

    pub are_elsifs_built : (is_inside : Bool) → Part (many (rule r-elsif)) → Bool
    are_elsifs_built is_inside NoMore = true
    are_elsifs_built is_inside (More (Elsif m _ e _ block) more) = is_tested declared e && (is_block_built is_inside block && are_elsifs_built is_inside more)

    pub is_otherwise_built : (is_inside : Bool) → Part (maybe (lexeme WordElse ⨟ rule r-block)) → Bool
    is_otherwise_built is_inside Absent = true
    is_otherwise_built is_inside (Present (Behind _ block)) = is_block_built is_inside block

    pub is_block_built : (is_inside : Bool) → Of r-block → Bool
    is_block_built is_inside (Block m parts) = are_parts_built is_inside parts

    pub are_parts_built : (is_inside : Bool) → Part (many (separated block_part)) → Bool
    are_parts_built is_inside NoMore = true
    are_parts_built is_inside (More (Separated (BlockStatement s) _) more) = is_statement_built is_inside s && are_parts_built is_inside more
    are_parts_built is_inside other = false

-- whether a name that is declared is none of those declared before it
abbrev pub are_new : (declared : List Variable) → List Variable → Bool
are_new declared [] = true
are_new declared (x ∷ more) = not (is_declared declared x) && are_new (x ∷ declared) more

-- with the names of a declaration, the newest first
abbrev pub with_names : (declared : List Variable) → List Variable → List Variable
with_names declared [] = declared
with_names declared (x ∷ more) = with_names (x ∷ declared) more

-- A start sees the names that were declared before it.
abbrev pub is_var_built : (declared : List Variable) → Of r-var → Bool
is_var_built declared (StartedDeclaration m _ names _ e) = are_new declared (names_of names) && is_built declared e
is_var_built declared (TypedDeclaration m _ names _ (Spec at NoMore (IntType base _)) Absent) = are_new declared (names_of names)
is_var_built declared (TypedDeclaration m _ names _ (Spec at NoMore (IntType base _)) (Present (Behind _ (ValueStart start e)))) = are_new declared (names_of names) && is_built declared e
is_var_built declared other = false

abbrev pub names_in : Of r-var → List Variable
names_in (StartedDeclaration m _ names _ e) = names_of names
names_in (TypedDeclaration m _ names _ spec start) = names_of names
names_in other = []

abbrev pub is_item_built : (declared : List Variable) → Of r-item → Bool
is_item_built declared (ItemVar m x) = is_var_built declared x
is_item_built declared (ItemStatement m s) = is_statement_built declared false s
is_item_built declared other = false

abbrev pub declared_after : (declared : List Variable) → Of r-item → List Variable
declared_after declared (ItemVar m x) = with_names declared (names_in x)
declared_after declared other = declared

abbrev pub are_items_built : (declared : List Variable) → Part (many (separated (rule r-item))) → Bool
are_items_built declared NoMore = true
are_items_built declared (More (Separated item _) more) = is_item_built declared item && are_items_built (declared_after declared item) more

abbrev pub is_program_built : Of r-program → Bool
is_program_built (Program m items) = are_items_built [] items
