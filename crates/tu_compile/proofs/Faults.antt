-- Where codes may lie, and that lawful code never faults.
use Rattle.std.proofs.Common.{◌≢◌, ℕ, ◌+◌, ◌%◌, ◌≤◌, length, refl, arith}
use Rattle.std.specs.Prelude.{nat_le}
use Rattle.std.specs.Bool.{Decides}
use Rattle.std.proofs.lemmas.Bool.Decides.{Decides-eqb, Decides-and, Decides-like, nat_tests}
use Rattle.rv_isa.specs.declared.service.FaultKind.{FaultKind}
use Rattle.rv_image.specs.Run.{Fault}
use Rattle.ir_form.specs.declared.unit.Unit.{Unit as RegionUnit}
use Rattle.ir_form.specs.Place.{IsPlace}
use Rattle.ir_form.specs.State.{Verdict, Ended, Stopped, Going, Stuck}
use Rattle.ir_form.specs.Lawful.{IsLawful as IsLawfulUnit}
use Rattle.rv_flat.specs.declared.linear.Linear.{Linear}
use Rattle.rv_flat.specs.Lawful.{IsLawful as IsLawfulLinear}
use Rattle.rv_alloc.specs.declared.assigned.Assigned.{Assigned}
use Rattle.rv_alloc.specs.Keeps.{IsLawful as IsLawfulAssigned}
use Rattle.rv_text.specs.Agrees.{code_verdict}
use Rattle.tu_compile.specs.Meant.{place_at, fits_at, TestsPlaces, region_meant, linear_meant, assigned_meant, NeverFaults}

at_most : (a b : ℕ) → Decides (nat_le a b) (a ≤ b)
at_most a b = (λ e. grind (arith, nat_tests), λ h. grind (arith, nat_tests))

-- the test of a place decides it
decides_place : (texts g a : ℕ) → Decides (fits_at texts g a) (IsPlace (place_at g a) texts)
decides_place texts g a =
    Decides-like _ (λ p. record { globals_aligned = p.0; globals_low = p.1.0; globals_high = p.1.1.0; texts_aligned = p.1.1.1.0; texts_low = p.1.1.1.1.0; texts_high = p.1.1.1.1.1 })
    (λ (k : IsPlace (place_at g a) texts). (k.globals_aligned, (k.globals_low, (k.globals_high, (k.texts_aligned, (k.texts_low, k.texts_high))))))
    (Decides-and _ _ (Decides-eqb (g % 4) 0) (Decides-and _ _ (at_most 65536 g) (Decides-and _ _ (at_most g 67174400) (Decides-and _ _ (Decides-eqb (a % 4) 0) (Decides-and _ _ (at_most 65536 a) (at_most (a + texts) g))))))

pub tests_places : TestsPlaces
tests_places texts g a = decides_place texts g a

-- only a run that is stuck faults
never_faults : (v : Verdict) → v ≢ Stuck → (kind : FaultKind) (pc : ℕ) → code_verdict v ≢ Fault kind pc
never_faults Ended h kind pc = λ e. cc
never_faults (Stopped k line) h kind pc = λ e. cc
never_faults Going h kind pc = λ e. cc
never_faults Stuck h kind pc = λ e. h refl

pub unit_never_faults : (unit : RegionUnit) → IsLawfulUnit unit → NeverFaults (region_meant unit)
unit_never_faults unit lawful g a fits input folder t s kind pc = never_faults _ (lawful.never_stuck (place_at g a) input folder t s ((decides_place (length unit.texts) g a).0 fits)) kind pc

pub linear_never_faults : (linear : Linear) → IsLawfulLinear linear → NeverFaults (linear_meant linear)
linear_never_faults linear lawful g a fits input folder t s kind pc = never_faults _ (lawful.never_stuck (place_at g a) input folder t s ((decides_place (length linear.texts) g a).0 fits)) kind pc

pub assigned_never_faults : (assigned : Assigned) → IsLawfulAssigned assigned → NeverFaults (assigned_meant assigned)
assigned_never_faults assigned lawful g a fits input folder t s kind pc = never_faults _ (lawful.never_stuck (place_at g a) input folder t s ((decides_place (length assigned.linear.texts) g a).0 fits)) kind pc
