-- The labels of a routine, instruction by instruction.
use Rattle.std.proofs.Common.{◌≡◌, ℕ, suc, ◌+◌, ◌*◌, ◌<◌, List, ◌∷◌, length, map, drop, get_or, drop-cons, add-one, Bool, true, false, Option, Some, None, refl, ap, sym, ◌∙◌, arith}
use Rattle.std.specs.Prelude.{nat_eq, if◌then◌else◌}
use Rattle.std.specs.HashMap.{get}
use Rattle.std.specs.Option.{unwrap_or, is_some}
use Rattle.ir_form.specs.Units.{Head}
use Rattle.rv_flat.specs.declared.linear.Instruction.{Instruction}
use Rattle.rv_flat.specs.declared.linear.Instruction.TheVariants.{Plain, Guarded, Open, Branch, Within, Hand, Jump, Label, Back}
use Rattle.rv_flat.specs.declared.linear.LinearRoutine.{LinearRoutine}
use Rattle.rv_alloc.specs.Renamed.{renamed}
use Rattle.rv_text.specs.Lengths.{instruction_length, label_offset}
use Rattle.rv_emit.specs.declared.site.Labels.{Labels}
use Rattle.rv_emit.specs.Site.{stands, Passes}

module _ (rs : List LinearRoutine) (h : Head) (f : ℕ → ℕ) (label : ℕ) where
  offset_here : (i : Instruction) (more : List Instruction) → label_offset rs h label (renamed f i ∷ more) ≡ (if stands i label then 0 else instruction_length rs h (renamed f i) + label_offset rs h label more)
  offset_here (Plain p) more = refl
  offset_here (Guarded p handler) more = refl
  offset_here (Open mark) more = refl
  offset_here (Branch relation left right other) more = refl
  offset_here (Within value range other) more = refl
  offset_here (Hand to from) more = refl
  offset_here (Jump other) more = refl
  offset_here (Label other marked) more = refl
  offset_here (Back values) more = refl

  by_cases : (o : Option ℕ) (b : Bool) (at size offset : ℕ) →
      unwrap_or (if is_some o then o else if b then Some at else None) (at + 4 * size + 4 * offset) ≡ unwrap_or o (at + 4 * (if b then 0 else size + offset))
  by_cases (Some place) b at size offset = refl
  by_cases None true at size offset = omega arith
  by_cases None false at size offset = omega arith

  pub passed : (before after : Labels) (i : Instruction) (more : List Instruction) (at next target : ℕ) → Passes before after i at → next ≡ at + 4 * instruction_length rs h (renamed f i)
      → unwrap_or (get nat_eq before.places label) (at + 4 * label_offset rs h label (renamed f i ∷ more)) ≡ target
      → unwrap_or (get nat_eq after.places label) (next + 4 * label_offset rs h label more) ≡ target
  passed before after i more at next target p n w =
      rw (p.places label, n) (by_cases (get nat_eq before.places label) (stands i label) at (instruction_length rs h (renamed f i)) (label_offset rs h label more)
      ∙ (ap (λ k. unwrap_or (get nat_eq before.places label) (at + 4 * k)) (sym (offset_here i more)) ∙ w))

-- the code from a number on begins with the instruction there
pub next_of : (f : ℕ → ℕ) (code : List Instruction) (k : ℕ) (i : Instruction) → k < length code → i ≡ get_or code k i → map (renamed f) (drop k code) ≡ renamed f i ∷ map (renamed f) (drop (k + 1) code)
next_of f code k i within is =
    ap (map (renamed f)) (drop-cons code k i within ∙ ap (λ x. x ∷ drop (suc k) code) (sym is)) ∙ ap (λ n. renamed f i ∷ map (renamed f) (drop n code)) (sym (add-one k))
