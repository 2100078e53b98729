-- The unit of a program does what the program does.
use Rattle.std.proofs.Common.{◌≡◌, ℕ, suc, ◌+◌, ◌*◌, ◌%◌, ◌<◌, ◌≤◌, Bool, true, false, List, [], ◌++◌, length, refl, sym, ◌∙◌, ap, subst, arith, Option, Some}
use Rattle.std.specs.Prelude.{◌==◌, ◌&&◌, if◌then◌else◌, nat_le, nat_lt, slice_get}
use Rattle.std.proofs.lemmas.List.{append-nil}
use Rattle.std.proofs.lemmas.Bool.Decides.{nat_tests}
use Rattle.tu_base.specs.Files.{Files}
use Rattle.tu_base.specs.Trace.{Trace}
use Rattle.tu_base.specs.declared.event.Verdict.{Verdict}
use Rattle.tu_base.specs.declared.event.Verdict.TheVariants.{Ended, Stopped, Going as still_going}
use Rattle.rv_image.specs.Streams.{Folder, World, start_world, traced, kept}
use Rattle.ir_form.specs.declared.unit.Routine.{Routine}
use Rattle.ir_form.specs.Cells.{Cells, Byte, Unset as not_stored, is_open, is_open_word, with_range, start_cells}
use Rattle.ir_form.specs.Place.{Place, IsPlace, Setting, stack_at, end_at}
use Rattle.ir_form.specs.Plain.{stack_top}
use Rattle.ir_form.specs.Meaning.{run_list, ended, ended_run}
use Rattle.ir_form.specs.State.{State as CodeState, How, Run, on_run}
use Rattle.ir_form.specs.Units.{Meant, head_of, start as start_state, meant, meaning, setting_of, unit_run, calls_within}
use Rattle.ir_code.proofs.Running.{runs_in_order}
use Rattle.tu_token.specs.Rules.{r-program}
use Rattle.tu_token.specs.Syntax.{Of}
use Rattle.tu_tree.specs.Forms.{Program}
use Rattle.tu_tree_meaning.specs.Interpreter.{execute_items}
use Rattle.tu_tree_meaning.specs.Meaning.{verdict_of}
use Rattle.tu_tree_meaning.specs.Programs.{start as start_of, execution, meaning as program_meaning}
use Rattle.tu_tree_meaning.specs.Steps.{Added, Outcome, Done, Raised, Going}
use Rattle.tu_tree_meaning.specs.Store.{Store, by_copying}
use Rattle.rt_stream.specs.Routines.{put_int_routine, put_line_routine}
use Rattle.rt_stream.proofs.Calls.{put_int_meets, put_line_meets}
use Rattle.tu_value.specs.Pieces.{fixed_from, fixed_code}
use Rattle.tu_value.specs.Meets.{HasFixed}
use Rattle.tu_value.specs.Laws.{GivesFixed}
use Rattle.tu_value.proofs.Leaves.{fixed_are_given}
use Rattle.ir_build.specs.Keeps.{factor, spare, Site, word_at, Holds, Ends}
use Rattle.ir_stmt.specs.Built.{is_program_built}
use Rattle.ir_stmt.specs.Code.{Declared, put_int, put_line}
use Rattle.ir_stmt.specs.Leaves.{GoesOn}
use Rattle.ir_stmt.specs.Unit.{begun, code_program, main_routine, unit_of, start, region_verdict, IsKept}
use Rattle.ir_stmt.proofs.Shown.{RunTime}
use Rattle.ir_stmt.proofs.Items.{stores_then}
use Rattle.ir_stmt.proofs.Wider.{both_are}
use Rattle.ir_stmt.proofs.Sequences.{ItemsDo, items_do}

-- the routines of the run time, at their places
run_time : (x : Site) (rs : List Routine) (n : ℕ) → end_at x.setting ≤ 4294967296 → slice_get rs put_int ≡ Some put_int_routine → slice_get rs put_line ≡ Some put_line_routine → RunTime x (calls_within x.setting rs (suc n))
run_time x rs n high first second = record {
  int = λ a b line z width st c ea eb lz lw room rounds. put_int_meets x.setting rs n put_int a b line z width st c high first ea eb lz lw room rounds;
  line = λ line st c room. put_line_meets x.setting rs n put_line line st c second room;
}

-- no words are taken
none_taken : (cells : Cells) (top a : ℕ) → with_range cells top 0 not_stored a ≡ cells a
none_taken cells top a = by (nat_le top a && nat_lt a (top + 4 * 0)) refl
  where
    by : (b : Bool) → (nat_le top a && nat_lt a (top + 4 * 0)) ≡ b → (if b then not_stored else cells a) ≡ cells a
    by true e = absurd (grind (arith, nat_tests, e))
    by false e = refl

-- the globals are zero at the start
zero_cell : (g : Setting) (a : ℕ) → g.place.globals_at ≤ a → a < stack_at g → start_cells g [] a ≡ Byte 0
zero_cell g a low high =
    let no_text : (nat_le g.place.texts_at a && nat_lt a (g.place.texts_at + 0)) ≡ false = grind (arith, nat_tests) in
    let global : (nat_le g.place.globals_at a && nat_lt a (stack_at g)) ≡ true = both_are (nat_le g.place.globals_at a) (nat_lt a (stack_at g)) (grind (arith, nat_tests, low)) (grind (arith, nat_tests, high)) in
    rw no_text (rw global refl)

zero_open : (cells : Cells) (a : ℕ) → (a % 4 == 0) ≡ true → cells a ≡ Byte 0 → cells (a + 1) ≡ Byte 0 → cells (a + 2) ≡ Byte 0 → cells (a + 3) ≡ Byte 0 → is_open_word cells a ≡ true
zero_open cells a e h i j k =
    both_are (a % 4 == 0) _ e (both_are (is_open (cells a)) _ (ap is_open h) (both_are (is_open (cells (a + 1))) _ (ap is_open i) (both_are (is_open (cells (a + 2))) (is_open (cells (a + 3))) (ap is_open j) (ap is_open k))))

-- and may be stored in
start_open : (g : Setting) (top word : ℕ) → g.place.globals_at % 4 ≡ 0 → word < g.globals → is_open_word (with_range (start_cells g []) top 0 not_stored) (word_at g word) ≡ true
start_open g top word aligned lt =
    let a = word_at g word in
    let cell : (i : ℕ) → i ≤ 3 → with_range (start_cells g []) top 0 not_stored (a + i) ≡ Byte 0 = λ i le. none_taken (start_cells g []) top (a + i) ∙ zero_cell g (a + i) (omega arith) (omega (arith, lt, le)) in
    let even : (a % 4 == 0) ≡ true = let r : a % 4 ≡ 0 = omega (arith, aligned) in grind (arith, nat_tests, r) in
    zero_open (with_range (start_cells g []) top 0 not_stored) a even (none_taken (start_cells g []) top a ∙ zero_cell g a (omega arith) (omega (arith, lt))) (cell 1 (omega arith)) (cell 2 (omega arith)) (cell 3 (omega arith))

-- what a run leaves agrees with what a program leaves
record Agrees (trace : Trace) (verdict : Verdict) (units : ℕ) (m : Meant) : Type 0 where
  same_trace : m.trace ≡ trace
  same_verdict : m.verdict ≡ region_verdict verdict
  paid : m.cost ≤ factor * units + start

-- the end of the main routine
ends_so : (x : Site) (left : ℕ) (input : List ℕ) (added : Added) (o : Outcome Store (Unit {0})) (how : How) (st : CodeState) (c : ℕ) → Ends (GoesOn x left) o how st c → st.world ≡ traced (start_world input) added.trace → c ≤ 10 + factor * added.units + spare o →
    Agrees added.trace (verdict_of o) added.units (meant (ended [] how st c))
ends_so x left input added (Done a s) how st c e w le = subst (λ z. Agrees added.trace Ended added.units (meant (ended [] z st c))) (sym e.way) (record {
  same_trace = ap (λ (v : World). v.trace ++ kept v.streams) w ∙ append-nil added.trace;
  same_verdict = refl;
  paid = omega arith;
})
ends_so x left input added (Raised kind line s) how st c e w le = subst (λ z. Agrees added.trace (Stopped kind line) added.units (meant (ended [] z st c))) (sym e) (record {
  same_trace = ap (λ (v : World). v.trace ++ kept v.streams) w ∙ append-nil added.trace;
  same_verdict = refl;
  paid = omega arith;
})
ends_so x left input added (Going s) how st c e w le = subst (λ z. Agrees added.trace still_going added.units (meant (ended [] z st c))) (sym e) (record {
  same_trace = ap (λ (v : World). v.trace) w;
  same_verdict = refl;
  paid = omega arith;
})

-- the main program's activation is where the program starts
start_holds : (g : Setting) (tree : Of r-program) (d : Declared) (input : List ℕ) (files : Option Files) (t s c : ℕ) (st : CodeState) → g.place.globals_at % 4 ≡ 0 → d.code.next + 32 ≤ 8388608 →
    st ≡ record (start_state g (head_of (main_routine d)) [] input t s) { env = st.env } → HasFixed (fixed_from 0) 2 st →
    Holds (record { setting = g; fixed = fixed_from 0; names = []; low = 2; world = start_world input; turns = t; most = s }) t (start_of tree input files) st c
start_holds g tree d input files t s c st aligned room same fixed =
    let st0 = start_state g (head_of (main_routine d)) [] input t s in
    let y : Site = record { setting = g; fixed = fixed_from 0; names = []; low = 2; world = start_world input; turns = t; most = s } in
    let top = stack_top g (record st0 { frame = 0; cells = start_cells g [] }) in
    subst (λ z. Holds y t (start_of tree input files) z c) (sym same) (record {
      fixed = record { zero_below = fixed.zero_below; zero_is = fixed.zero_is; top_below = fixed.top_below; top_is = fixed.top_is };
      variables = tt;
      values = λ v. tt;
      writable = λ word lt. start_open g top word aligned lt;
      turns = omega arith;
      few = omega arith;
      others = omega arith;
      rooms = omega (arith, room);
    })

place_fits : (place : Place) (globals : ℕ) (folder : Folder) → place.globals_at ≤ 67174400 → globals ≤ 65536 → end_at (setting_of place globals folder) ≤ 4294967296
place_fits place globals folder high few = omega (arith, high, few)

ten_more : (t : ℕ) → t + 10 ≡ suc (t + 9)
ten_more t = omega arith

abbrev setting_for : Of r-program → Place → Folder → Setting
setting_for tree place folder = setting_of place (length (code_program tree).names) folder

-- the run of the main routine, with calls of that depth
abbrev main_run : Of r-program → Place → List ℕ → Folder → (t s depth : ℕ) → Run
main_run tree place input folder t s depth =
    let d = code_program tree in
    let g = setting_for tree place folder in
    ended_run [] (run_list g (calls_within g (unit_of tree).routines depth) d.code.ops (start_state g (head_of (main_routine d)) [] input t s) 0)

unit_run_is : (tree : Of r-program) (place : Place) (input : List ℕ) (folder : Folder) (t s : ℕ) → unit_run (unit_of tree) place input folder t s ≡ main_run tree place input folder t s (suc (t + 9))
unfolding unit_run
unit_run_is tree place input folder t s = ap (main_run tree place input folder t s) (ten_more t)

module _ (place : Place) (input : List ℕ) (folder : Folder) (files : Option Files) (t s : ℕ) where
  main_agrees : (tree : Of r-program) → is_program_built tree ≡ true → length (code_program tree).names ≤ 65536 → (code_program tree).code.next + 32 ≤ 8388608 → IsPlace place 0 → factor * (program_meaning tree input files t).units + start ≤ s →
      Agrees (program_meaning tree input files t).trace (program_meaning tree input files t).verdict (program_meaning tree input files t).units (meant (main_run tree place input folder t s (suc (t + 9))))
  main_agrees (Program mark items) built few room is_place enough =
      let tree : Of r-program = Program mark items in
      let d = code_program tree in
      let g = setting_for tree place folder in
      let calls = calls_within g (unit_of tree).routines (suc (t + 9)) in
      let y : Site = record { setting = g; fixed = fixed_from 0; names = []; low = 2; world = start_world input; turns = t; most = s } in
      let rt : RunTime y calls = run_time y (unit_of tree).routines (t + 9) (place_fits place (length d.names) folder is_place.globals_high few) refl refl in
      let e : ItemsDo y calls (execute_items Store by_copying t t [] items) begun d = items_do y calls rt t (omega arith) items begun built (record { ordered = tt; below = tt }) in
      let st0 = start_state g (head_of (main_routine d)) [] input t s in
      let r = run_list g calls (fixed_code 0) st0 0 in
      let f : GivesFixed 0 st0 0 r = fixed_are_given g calls 0 st0 0 in
      let h : Holds y t (start_of tree input files) r.state r.cost = start_holds g tree d input files t s r.cost r.state is_place.globals_aligned room f.only.same f.fixed in
      let x = execution tree input files t t in
      let run = run_list g calls e.ops r.state r.cost in
      let k = e.keeps (omega arith) (start_of tree input files) r.state r.cost [] 10 h (ap (λ (z : CodeState). z.world) f.only.same) (let u = f.costs.bound in omega arith) in
      let m = k.met (omega (arith, enough)) in
      subst (λ z. Agrees x.0.trace (verdict_of x.1) x.0.units (meant (ended_run [] z)))
      (sym (ap (λ z. run_list g calls z st0 0) e.is ∙ runs_in_order g calls (fixed_code 0) e.ops st0 0 ∙ ap (λ z. on_run z (run_list g calls e.ops)) (stores_then r f.how)))
      (ends_so _ t input x.0 x.1 run.how run.state run.cost m.ends m.world m.cost)

-- Where its variables and values are not too many, the unit of a program that is built keeps the program's meaning.
pub program_is_kept : (tree : Of r-program) → is_program_built tree ≡ true → length (code_program tree).names ≤ 65536 → (code_program tree).code.next + 32 ≤ 8388608 → IsKept tree (unit_of tree)
program_is_kept tree built few room place input folder files t s is_place enough =
    let x = program_meaning tree input files t in
    let a : Agrees x.trace x.verdict x.units (meaning (unit_of tree) place input folder t s) = subst (λ z. Agrees x.trace x.verdict x.units (meant z)) (sym (unit_run_is tree place input folder t s)) (main_agrees place input folder files t s tree built few room is_place enough) in
    record { trace = a.same_trace; verdict = a.same_verdict; cost = a.paid }
