-- The same as specs/Valid by tests, for the code that decides it.
use Rattle.std.specs.Prelude.{ℕ, ◌+◌, ◌-◌, ◌*◌, ◌^◌, Bool, true, false, ◌==◌, nat_le, nat_lt, min, not, ◌&&◌, ◌||◌, if◌then◌else◌, List, [], ◌∷◌, length, Option, Some, None, slice_get, count_by}
use Rattle.std.specs.List.{list_any, list_all}
use Rattle.ir_form.specs.declared.plain.Plain.{Plain}
use Rattle.ir_form.specs.declared.plain.Plain.TheVariants.{Global, Frame, Text, Call, Take, Give}
use Rattle.ir_form.specs.declared.op.Exit.{Exit}
use Rattle.ir_form.specs.declared.op.Exit.TheVariants.{Routine as OfRoutine, Loop as OfLoop}
use Rattle.ir_form.specs.declared.op.Op.{Op, Plain as Simple, If', Case', Loop', Guard', Leave, Row_of-Op, end_of-Op, more_of-Op, Row_of-Arm, end_of-Arm, more_of-Arm}
use Rattle.ir_form.specs.declared.op.Region.{Region}
use Rattle.ir_form.specs.declared.op.Arm.{Arm}
use Rattle.ir_form.specs.declared.unit.Routine.{Routine}
use Rattle.ir_form.specs.declared.unit.Unit.{Unit as Program}
use Rattle.ir_form.specs.declared.around.Around.{Around, Nothing, Region' as InRegion, Loop' as InLoop, Guard' as InGuard}
use Rattle.ir_form.specs.declared.tally.Tally.{Tally}
use Rattle.ir_form.specs.Values.{used, given, values_of, marks_of}
use Rattle.ir_form.specs.Valid.{Scope, with, looped, guarded, outermost, leaves_last, leaves_list, given_all, given_list}

-- the scope that lies around
abbrev pub scope_of : Around → Scope
scope_of Nothing = outermost
scope_of (InRegion _ outer parameters before) = with (with (scope_of outer) parameters.now) (given_list before.now)
scope_of (InLoop _ outer taken) = looped (scope_of outer) taken
scope_of (InGuard _ outer mark) = guarded (scope_of outer) mark

abbrev pub contains : List ℕ → ℕ → Bool
contains values value = list_any (λ x. x == value) values

abbrev pub sees : Scope → List ℕ → Bool
sees s wanted = list_all (contains s.values) wanted

abbrev pub is_new : Scope → ℕ → Bool
is_new s mark = not (contains s.marks mark)

abbrev pub may_call : Routine → Routine → Bool
may_call caller callee = caller.depth == 0 || (not (callee.depth == 0) && nat_lt callee.depth caller.depth)

abbrev pub call_fits : Routine → Routine → ℕ → ℕ → Bool
call_fits caller callee arguments to = arguments == length callee.body.parameters && (to == callee.results && may_call caller callee)

abbrev pub is_call : Routine → List ℕ → List ℕ → Option Routine → Bool
is_call caller arguments to None = false
is_call caller arguments to (Some callee) = call_fits caller callee (length arguments) (length to)

abbrev pub is_placed : Program → Routine → Plain → Bool
is_placed u r (Global to word) = nat_lt word u.globals
is_placed u r (Frame to word) = nat_lt word r.words
is_placed u r (Text to byte) = nat_lt byte (length u.texts)
is_placed u r (Call routine arguments to line) = is_call r arguments to (slice_get u.routines routine)
is_placed u r (Take to words line) = r.depth == 0
is_placed u r (Give words) = r.depth == 0
is_placed u r _ = true

abbrev pub is_number : Option ℕ → ℕ → Bool
is_number None n = false
is_number (Some m) n = m == n

abbrev pub is_taken : Routine → Scope → Exit → ℕ → Bool
is_taken r s OfRoutine n = r.results == n
is_taken r s (OfLoop outside) n = is_number (slice_get s.loops outside) n

abbrev pub closes : Scope → ℕ → List ℕ → List ℕ → Bool → List ℕ → ℕ → Bool
closes s handed parameters inner gone results taken = length parameters == handed && (sees (with (with s parameters) inner) results && length results == (if gone then 0 else taken))

abbrev mutual
  pub fits : Program → Routine → Scope → Op → Bool
  fits u r s (Simple p) = sees s (used p) && is_placed u r p
  fits u r s (If' relation left right yes_parameters _ yes_ops yes_results no_parameters _ no_ops no_results to) =
      sees s (left ∷ right ∷ []) && ((fits_all u r (with s yes_parameters) yes_ops && closes s 0 yes_parameters (given_all yes_ops) (leaves_last false yes_ops) yes_results (length to))
      && (fits_all u r (with s no_parameters) no_ops && closes s 0 no_parameters (given_all no_ops) (leaves_last false no_ops) no_results (length to)))
  fits u r s (Case' value _ arms parameters _ ops results to) =
      sees s (value ∷ []) && (fits_arms u r s (length to) arms && (fits_all u r (with s parameters) ops && closes s 0 parameters (given_all ops) (leaves_last false ops) results (length to)))
  fits u r s (Loop' marked start parameters _ ops results to) =
      sees s start && (fits_all u r (with (looped s (length to)) parameters) ops && closes s (length start) parameters (given_all ops) (leaves_last false ops) results (length parameters))
  fits u r s (Guard' mark body_parameters _ ops results parameters _ others others_results to) =
      is_new s mark && ((fits_all u r (with (guarded s mark) body_parameters) ops && closes s 0 body_parameters (given_all ops) (leaves_last false ops) results (length to))
      && (fits_all u r (with s parameters) others && closes s 2 parameters (given_all others) (leaves_last false others) others_results (length to)))
  fits u r s (Leave exit gives) = sees s gives && is_taken r s exit (length gives)

  pub fits_all : Program → Routine → Scope → {n : _} → Row_of-Op n → Bool
  fits_all u r s end_of-Op = true
  fits_all u r s (more_of-Op op ops) = fits u r s op && fits_all u r (with s (given op)) ops

  pub fits_arms : Program → Routine → Scope → ℕ → {n : _} → Row_of-Arm n → Bool
  fits_arms u r s taken end_of-Arm = true
  fits_arms u r s taken (more_of-Arm ranges parameters _ ops results arms) =
      (fits_all u r (with s parameters) ops && closes s 0 parameters (given_all ops) (leaves_last false ops) results taken) && fits_arms u r s taken arms

abbrev pub fits_list : Program → Routine → Scope → List Op → Bool
fits_list u r s [] = true
fits_list u r s (op ∷ ops) = fits u r s op && fits_list u r (with s (given op)) ops

abbrev pub fits_region : Program → Routine → Scope → ℕ → ℕ → Region → Bool
fits_region u r s handed taken region =
    fits_list u r (with s region.parameters) region.ops && closes s handed region.parameters (given_list region.ops) (leaves_list false region.ops) region.results taken

abbrev pub loop_closes : Program → Routine → Scope → List ℕ → ℕ → Region → Bool
loop_closes u r s start taken body = sees s start && fits_region u r (looped s taken) (length start) (length body.parameters) body

abbrev pub fits_each : Program → Routine → Scope → ℕ → List Arm → Bool
fits_each u r s taken arms = list_all (λ arm. fits_region u r s 0 taken arm.region) arms

-- what a walk over definitions has met at its start, after one more and after some more
abbrev pub started : ℕ → Tally
started sought = record { values = 0; sought = sought; found = 0; rises = true; next = 0 }

abbrev pub met : Tally → ℕ → Tally
met t value = record t {
  values = min (t.values + 1) (2 ^ 64 - 1);
  found = (if value == t.sought then min (t.found + 1) (2 ^ 64 - 1) else t.found);
  rises = t.rises && nat_le t.next value;
  next = value + 1;
}

abbrev pub tally_of : Tally → List ℕ → Tally
tally_of t [] = t
tally_of t (value ∷ values) = tally_of (met t value) values

abbrev pub is_once : List ℕ → ℕ → Bool
is_once values value = count_by (λ x. x == value) values == 1

abbrev pub has_room : Routine → (values guards : ℕ) → Bool
has_room r values guards = nat_le (r.words + values + 24 * guards + 32) r.room

abbrev pub is_small : Routine → Bool
is_small r = nat_le r.depth 8 && (r.depth == 0 || nat_le r.room 512)

abbrev pub is_valid_routine : Program → Routine → Bool
is_valid_routine u r =
    is_small r && (has_room r (length (values_of r)) (length (marks_of r)) && (list_all (is_once (values_of r)) (values_of r) && fits_region u r outermost (length r.body.parameters) r.results r.body))

abbrev pub is_main : Routine → Bool
is_main r = r.depth == 0 && (nat_le r.room 8388608 && (length r.body.parameters == 0 && r.results == 0))
