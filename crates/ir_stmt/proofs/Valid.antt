-- The unit of a program is valid and light.
use Rattle.std.proofs.Common.{◌≡◌, ℕ, zero, suc, ◌+◌, ◌*◌, ◌<◌, ◌≤◌, ◌==◌, Bool, true, false, List, [], ◌∷◌, length, get_or, refl, ◌∙◌, ap, arith, All, count_by, cond}
use Rattle.std.proofs.lemmas.Bool.Decides.{Decides-eqb, nat_tests}
use Rattle.std.proofs.lemmas.List.Elements.{All-nil, All-cons}
use Rattle.grammar.specs.Description.{print}
use Rattle.grammar.specs.Tree.{erase}
use Rattle.ir_form.specs.declared.unit.Routine.{Routine}
use Rattle.ir_form.specs.Values.{defined_list, marks_of}
use Rattle.ir_form.specs.Valid.{outermost, IsOnce, IsValidRoutine, IsValid, leaves_list}
use Rattle.ir_form.specs.Weight.{unit_weight}
use Rattle.ir_form.specs.Tests.{fits_region}
use Rattle.ir_form.proofs.Decisions.{decides_region}
use Rattle.ir_form.proofs.Tallies.{count-cons}
use Rattle.rt_stream.specs.Routines.{put_int_routine, put_line_routine}
use Rattle.rt_stream.proofs.Valid.{are_valid, are_unguarded, are_light}
use Rattle.tu_token.specs.Rules.{r-program}
use Rattle.tu_token.specs.Syntax.{Of}
use Rattle.tu_tree.specs.Forms.{Program}
use Rattle.tu_value.specs.Pieces.{fixed_from}
use Rattle.ir_build.specs.Behind.{AreFrom, IsTidy}
use Rattle.ir_build.specs.Tokens.{tokens_in}
use Rattle.ir_build.proofs.Tokens.{tokens_are}
use Rattle.ir_build.proofs.Fits.{is_and}
use Rattle.ir_build.proofs.Regions.{none_taken}
use Rattle.ir_stmt.specs.Built.{is_program_built}
use Rattle.ir_stmt.specs.Unit.{begun, code_program, main_routine, unit_of, HasNoGuards}
use Rattle.ir_stmt.proofs.Fitting.{Calls}
use Rattle.ir_stmt.proofs.FittingItems.{Declares, items_do}

number_at : (n : ℕ) (xs : List ℕ) → AreFrom n xs → (i d : ℕ) → i < length xs → get_or xs i d ≡ n + i
number_at n [] h i d lt = absurd (omega arith)
number_at n (x ∷ xs) h zero d lt = let e = h.0 in omega arith
number_at n (x ∷ xs) h (suc i) d lt = let e = number_at (n + 1) xs h.1 i d (omega arith) in omega arith

none_below : (n v : ℕ) (xs : List ℕ) → AreFrom n xs → v < n → count_by (λ x. x == v) xs ≡ 0
none_below n v [] h lt = refl
none_below n v (x ∷ xs) h lt =
    let e = h.0 in
    let f : (x == v) ≡ false = grind (arith, nat_tests, e, lt) in
    let c : count_by (λ y. y == v) (x ∷ xs) ≡ 0 + count_by (λ y. y == v) xs = count-cons (λ y. y == v) x xs ∙ ap (λ b. cond b 1 0 + count_by (λ y. y == v) xs) f in
    let k = none_below (n + 1) v xs h.1 (omega arith) in
    omega arith

counted_once : (n v : ℕ) (xs : List ℕ) → AreFrom n xs → n ≤ v → v < n + length xs → count_by (λ x. x == v) xs ≡ 1
counted_once n v [] h le lt = absurd (omega arith)
counted_once n v (x ∷ xs) h le lt = by (x == v) refl (λ ne. counted_once (n + 1) v xs h.1 (omega arith) (omega (arith, lt)))
  where
    by : (b : Bool) → (x == v) ≡ b → (n < v → count_by (λ y. y == v) xs ≡ 1) → count_by (λ y. y == v) (x ∷ xs) ≡ 1
    by true t rest =
        let e = h.0 in let f : x ≡ v = (Decides-eqb x v).0 t in
        let c : count_by (λ y. y == v) (x ∷ xs) ≡ 1 + count_by (λ y. y == v) xs = count-cons (λ y. y == v) x xs ∙ ap (λ b. cond b 1 0 + count_by (λ y. y == v) xs) t in
        let k = none_below (n + 1) v xs h.1 (omega arith) in
        omega arith
    by false t rest =
        let e = h.0 in
        let ne : n < v = grind (arith, nat_tests, t, e, le) in
        let c : count_by (λ y. y == v) (x ∷ xs) ≡ 0 + count_by (λ y. y == v) xs = count-cons (λ y. y == v) x xs ∙ ap (λ b. cond b 1 0 + count_by (λ y. y == v) xs) t in
        let k = rest ne in
        omega arith

-- numbers in order stand once each
all_once : (xs : List ℕ) → AreFrom 0 xs → All (IsOnce xs) xs
all_once xs h i d lt = let e = number_at 0 xs h i d lt in counted_once 0 (get_or xs i d) xs h (omega arith) (omega arith)

begun_tidy : IsTidy 0 begun.code
begun_tidy = record { values = (refl, (omega arith, tt)); last = omega arith }

program_calls : (tree : Of r-program) → Calls (unit_of tree) (main_routine (code_program tree))
program_calls tree = record { int = refl; line = refl; depth = refl }

program_declares : (tree : Of r-program) → Declares (unit_of tree) (main_routine (code_program tree)) (program_calls tree) (fixed_from 0) (is_program_built tree ≡ true) (12 * tokens_in tree) (tokens_in tree) begun (code_program tree)
program_declares (Program m items) = items_do (unit_of (Program m items)) (main_routine (code_program (Program m items))) (program_calls (Program m items)) (fixed_from 0) [] items begun

-- few values and few variables
pub program_has_few : (tree : Of r-program) → length (print (erase tree)) ≤ 65536 → ((code_program tree).code.next ≤ 12 * 65536 + 20) × (length (code_program tree).names ≤ 65536)
program_has_few tree le =
    let p = program_declares tree in let t = tokens_are tree in let f = p.grows.few in let n = p.many in
    (omega (arith, le), omega (arith, le))

main_fits : (tree : Of r-program) → is_program_built tree ≡ true → fits_region (unit_of tree) (main_routine (code_program tree)) outermost 0 0 (main_routine (code_program tree)).body ≡ true
main_fits tree b =
    let d = code_program tree in
    let f = (program_declares tree).fits outermost b (omega arith) (refl, (refl, (refl, tt))) refl in
    is_and f.0 (none_taken (leaves_list false d.code.ops))

main_is_unguarded : (tree : Of r-program) → marks_of (main_routine (code_program tree)) ≡ []
main_is_unguarded tree = (program_declares tree).grows.unguarded refl

main_is_valid : (tree : Of r-program) → is_program_built tree ≡ true → IsValidRoutine (unit_of tree) (main_routine (code_program tree))
main_is_valid tree b =
    let u = unit_of tree in let d = code_program tree in let r = main_routine d in
    let t = (program_declares tree).grows.tidy 0 begun_tidy in
    let l = t.last in
    let g = ap length (main_is_unguarded tree) in
    record {
      once = all_once (defined_list d.code.ops) t.values;
      body = (decides_region u r outermost 0 0 r.body).0 (main_fits tree b);
      room = omega arith;
      depth = omega arith;
      small = λ n. absurd (n refl);
    }

-- the unit of a program that is built is valid
pub program_is_valid : (tree : Of r-program) → is_program_built tree ≡ true → length (print (erase tree)) ≤ 65536 → IsValid (unit_of tree)
program_is_valid tree b le =
    let u = unit_of tree in let v = are_valid u in let few = (program_has_few tree le).0 in
    record {
      routines = All-cons (IsValidRoutine u) put_int_routine (put_line_routine ∷ main_routine (code_program tree) ∷ []) v.0 (All-cons (IsValidRoutine u) put_line_routine (main_routine (code_program tree) ∷ []) v.1 (All-cons (IsValidRoutine u) (main_routine (code_program tree)) [] (main_is_valid tree b) (All-nil (IsValidRoutine u))));
      main = record { depth = refl; room = omega arith; parameters = refl; results = refl };
    }

-- the unit of a program has no Guards
pub program_is_unguarded : (tree : Of r-program) → HasNoGuards (unit_of tree)
program_is_unguarded tree =
    let free = λ (r : Routine). marks_of r ≡ [] in let main = main_routine (code_program tree) in
    All-cons free put_int_routine (put_line_routine ∷ main ∷ []) are_unguarded.0 (All-cons free put_line_routine (main ∷ []) are_unguarded.1 (All-cons free main [] (main_is_unguarded tree) (All-nil free)))

-- the unit of a program is light
pub program_is_light : (tree : Of r-program) → length (print (erase tree)) ≤ 65536 → unit_weight (unit_of tree) ≤ 1179648
program_is_light tree le =
    let t = tokens_are tree in let w = (program_declares tree).grows.light in let l = are_light in
    omega (arith, le)
