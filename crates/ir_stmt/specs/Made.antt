-- What the parts of statements and declarations come to.
use Rattle.std.specs.Prelude.{ℕ, ◌+◌, List, [], ◌∷◌}
use Rattle.ir_code.specs.Pieces.{leave, with_op}
use Rattle.ir_code.specs.declared.code.Code.{Code}
use Rattle.ir_form.specs.declared.unit.Routine.{Routine}
use Rattle.ir_form.specs.declared.unit.Unit.{Unit}
use Rattle.rt_stream.specs.Routines.{put_int_routine, put_line_routine}
use Rattle.tu_token.specs.Rules.{r-expr, r-item, r-path}
use Rattle.tu_token.specs.Syntax.{Of}
use Rattle.tu_expr.specs.Forms.{NoMore, Path}
use Rattle.tu_tree.specs.Forms.{ItemVar}
use Rattle.tu_tree_meaning.specs.Values.{Variable, variable_of}
use Rattle.tu_value.specs.declared.pieces.Fixed.{Fixed}
use Rattle.ir_build.specs.Code.{where_tested, named, code_expr, test_expr}
use Rattle.ir_build.specs.Keeps.{Named}
use Rattle.ir_stmt.specs.Built.{names_in}
use Rattle.ir_stmt.specs.Code.{Declared, stored}

module _ (k : Fixed) (names : List Named) where
  -- the value of an expression goes to a variable
  abbrev pub assigned : (line : ℕ) → Of r-path → Of r-expr → Code → Code
  assigned line (Path at root NoMore) e code = let x = code_expr k names line e code in stored k names x.code (named (variable_of root) names) x.value
  assigned line other e code = code

  -- Where a condition holds the loop so many loops outside is left.
  abbrev pub left_where : (outside line : ℕ) → Of r-expr → Code → Code
  left_where outside line e code = let test = test_expr k names line e code in with_op test.code (where_tested test (leave outside ∷ []) [])

abbrev pub declared : Code → List Named → Declared
declared code names = record { code = code; names = names }

abbrev pub names_in_item : Of r-item → List Variable
names_in_item (ItemVar m x) = names_in x
names_in_item other = []

-- a unit with a main program, behind the routines of the run time
abbrev pub whole_unit : Code → (globals : ℕ) → Unit
whole_unit code globals =
    let main : Routine = record { body = record { parameters = []; ops = code.ops; results = [] }; results = 0; room = code.next + 32; words = 0; depth = 0 } in
    record { globals = globals; main = 2; routines = put_int_routine ∷ put_line_routine ∷ main ∷ []; texts = [] }
