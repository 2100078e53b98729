-- A well formed program is never stuck.
use Rattle.std.proofs.Common.{◌≡◌, ◌≢◌, ◌&&◌, None, arith}
use Rattle.std.specs.List.{list_all}
use Rattle.tu_base.specs.Shapes.{all_words}
use Rattle.tu_core.specs.Core.{Program}
use Rattle.tu_core.specs.Rooms.{scalars_from}
use Rattle.tu_core.specs.Places.{main_names}
use Rattle.tu_core.specs.Leaving.{exits_leave_loops, results_differ}
use Rattle.tu_core.specs.TypeTest.{is_typed}
use Rattle.tu_core.specs.WellFormed.{good_block, good_routine, good_tables, is_formed}
use Rattle.tu_meaning.specs.Laws.{NeverStuck}
use Rattle.tu_meaning.specs.Meaning.{Ends, Stops, GoesOn, IsStuck, stands}
use Rattle.tu_meaning.specs.Programs.{start, execution_over}
use Rattle.tu_meaning.specs.Words.{Flow}
use Rattle.tu_meaning.specs.Steps.{Outcome, Done, Raised, Going, NoRule}
use Rattle.tu_meaning.specs.Store.{Passing}
use Rattle.tu_meaning.specs.Subprograms.{calls}
use Rattle.tu_meaning.proofs.WordForms.{Any}
use Rattle.tu_core.proofs.Tests.{no_so, left, right}
use Rattle.tu_meaning.proofs.Finds.{Fine}
use Rattle.tu_meaning.proofs.FindsForms.{finds_parts, finds_calls}

module _ (S : Type 0) (p : Passing S) (store : S) where
  fine_stands : (o : Outcome S Flow) → Fine Any o → stands o ≢ IsStuck
  fine_stands (Done a s) fine e = let q : Ends ≡ IsStuck = e in grind (arith, q)
  fine_stands (Raised kind line s) fine e = let q : Stops kind line ≡ IsStuck = e in grind (arith, q)
  fine_stands (Going s) fine e = let q : GoesOn ≡ IsStuck = e in grind (arith, q)
  fine_stands (NoRule s) fine e = absurd fine

  pub never_stuck : (program : Program) → NeverStuck S p store program
  never_stuck program w input files t =
      let words = all_words program.shapes in
      let formed = left (is_formed program) ((exits_leave_loops program && results_differ program) && is_typed program) w in
      let main = left (good_block (main_names program) program.main) (list_all (good_routine program) program.routines && good_tables program) formed in
      let routines = left (list_all (good_routine program) program.routines) (good_tables program) (right (good_block (main_names program) program.main) (list_all (good_routine program) program.routines && good_tables program) formed) in
      fine_stands (execution_over S p store program input files t t).1
      ((finds_parts S p t words (main_names program) t (calls S p t program words t) (finds_calls S p t words program routines t) (scalars_from program.shapes 0 program.locals) None (λ e. no_so e) program.main main).by (start store words program input files))
