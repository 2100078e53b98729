-- The routines fit every unit.
use Rattle.std.proofs.Common.{◌≡◌, ◌+◌, [], ◌∷◌, true, refl, All, arith}
use Rattle.std.specs.List.{list_all}
use Rattle.ir_form.specs.declared.unit.Unit.{Unit as RegionUnit}
use Rattle.ir_form.specs.Tests.{is_valid_routine}
use Rattle.ir_form.specs.Valid.{IsValidRoutine}
use Rattle.ir_form.specs.Values.{marks_of}
use Rattle.ir_form.specs.Weight.{routine_weight}
use Rattle.ir_form.proofs.Decisions.{decides_routines}
use Rattle.rt_stream.specs.Laws.{AreValid, AreUnguarded, AreLight}
use Rattle.rt_stream.specs.Routines.{put_int_routine, put_line_routine}

tested : (u : RegionUnit) → list_all (is_valid_routine u) (put_int_routine ∷ put_line_routine ∷ []) ≡ true
unfolding Rattle.ir_form.specs.declared.op.Op.TheBlock.hidden-the_row-Op-0 denote.Hole.Carrier.hidden
tested u = refl

pub are_valid : AreValid
are_valid u =
    let both : All (IsValidRoutine u) (put_int_routine ∷ put_line_routine ∷ []) = (decides_routines u (put_int_routine ∷ put_line_routine ∷ [])).0 (tested u) in
    (both 0 put_int_routine (omega arith), both 1 put_int_routine (omega arith))

int_unguarded : marks_of put_int_routine ≡ []
unfolding Rattle.ir_form.specs.declared.op.Op.TheBlock.hidden-the_row-Op-0 denote.Hole.Carrier.hidden
int_unguarded = refl

pub are_unguarded : AreUnguarded
are_unguarded = (int_unguarded, refl)

weighed : routine_weight put_int_routine + routine_weight put_line_routine ≡ 81
unfolding Rattle.ir_form.specs.declared.op.Op.TheBlock.hidden-the_row-Op-0 denote.Hole.Carrier.hidden
weighed = refl

pub are_light : AreLight
are_light = omega (arith, weighed)
