-- What holds of linear code holds of its assigned code, and of what that becomes.
use Rattle.std.proofs.Common.{◌≡◌, ◌≤◌, sym, subst, length}
use Rattle.std.specs.List.{AllZip}
use Rattle.rv_image.specs.Picture.{Picture}
use Rattle.ir_form.specs.declared.unit.Unit.{Unit as RegionUnit}
use Rattle.rv_flat.specs.declared.linear.Linear.{Linear}
use Rattle.rv_flat.specs.Lawful.{IsLawful as IsLawfulLinear}
use Rattle.rv_flat.specs.Parts.{KeepsParts, IsUnguarded}
use Rattle.rv_flat.specs.Size.{linear_size}
use Rattle.rv_alloc.specs.declared.assigned.Assigned.{Assigned}
use Rattle.rv_alloc.specs.Assigned.{placed_code, assigned_size}
use Rattle.rv_alloc.specs.Holds.{Holds, HoldsRoutine, IsSlotted, HasRoom}
use Rattle.rv_alloc.specs.Keeps.{IsLawful as IsLawfulAssigned}
use Rattle.rv_text.specs.Text.{image_of}
use Rattle.tu_compile.specs.Ready.{most_words, most_texts, IsReadyLinear, IsAssigned, IsFlattened, IsPlacedCode, IsImageOfUnit}

pub is_assigned : (linear : Linear) (a : Assigned) → IsReadyLinear linear → Holds linear a → AllZip IsSlotted linear.routines a.places → (IsLawfulLinear linear → AllZip HasRoom linear.routines a.places) → (IsLawfulLinear linear → IsLawfulAssigned a) → assigned_size a ≡ linear_size linear → IsAssigned linear a
is_assigned linear a before holds slots room lawful size =
    let same = sym holds.code in
    record {
      ready = record {
        lawful = lawful before.lawful;
        unguarded = subst IsUnguarded same before.unguarded;
        places = subst (λ (l : Linear). AllZip HoldsRoutine l.routines a.places) same holds.routines;
        slots = subst (λ (l : Linear). AllZip IsSlotted l.routines a.places) same slots;
        room = subst (λ (l : Linear). AllZip HasRoom l.routines a.places) same (room before.lawful);
        size = subst (λ n. n ≤ most_words) (sym size) before.size;
        texts = subst (λ (l : Linear). length l.texts ≤ most_texts) same before.texts;
      };
      code = holds.code;
    }

pub is_placed : (unit : RegionUnit) (linear : Linear) (a : Assigned) → IsFlattened unit linear → IsAssigned linear a → IsPlacedCode unit a
is_placed unit linear a flat assigned = record { ready = assigned.ready; parts = subst (KeepsParts unit) (sym assigned.code) flat.parts }

pub is_image : (unit : RegionUnit) (a : Assigned) (image : Picture) → IsPlacedCode unit a → image ≡ image_of (placed_code a) → IsImageOfUnit unit image
is_image unit a image placed same = record { assigned = a; placed = placed; is = same }
