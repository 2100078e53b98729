-- The bytes of the literals where a run starts.
use Rattle.std.proofs.Common.{◌≡◌, ℕ, zero, suc, ◌+◌, ◌-◌, ◌*◌, ◌/◌, ◌%◌, ◌<◌, ◌≤◌, List, [], ◌∷◌, ◌++◌, length, refl, arith, ap, ◌∙◌}
use Rattle.std.specs.Prelude.{slice_index}
use Rattle.std.specs.List.{AllByRecursion as Each}
use Rattle.std.proofs.Math.Nat.{zero-div}
use Rattle.std.proofs.lemmas.List.{get_or_past}
use Rattle.std.proofs.lemmas.Bool.{le-ltb}
use Rattle.rv_image.specs.Start.{text_byte, start_memory}
use Rattle.rv_text.specs.Text.{packed}

abbrev pub IsByte : ℕ → Type 0
IsByte b = b < 256

-- a byte of the words behind the first one
next_byte : (w : ℕ) (ws : List ℕ) (i : ℕ) → text_byte (w ∷ ws) (4 + i) ≡ text_byte ws i
next_byte w ws i =
    let index : (4 + i) / 4 ≡ suc (i / 4) = omega arith in
    let part : (4 + i) % 4 ≡ i % 4 = omega arith in
    rw (index, part) refl

-- and of the words behind some
pub byte_behind : (ws more : List ℕ) (i : ℕ) → text_byte (ws ++ more) (4 * length ws + i) ≡ text_byte more i
byte_behind [] more i = let e : 4 * 0 + i ≡ i = omega arith in rw e refl
byte_behind (w ∷ ws) more i =
    let e : 4 * length (w ∷ ws) + i ≡ 4 + (4 * length ws + i) = omega arith in
    rw e (next_byte w (ws ++ more) (4 * length ws + i) ∙ byte_behind ws more i)

pub byte_past : (ws : List ℕ) (i : ℕ) → 4 * length ws ≤ i → text_byte ws i ≡ 0
byte_past ws i h =
    let e : slice_index ws (i / 4) ≡ 0 = get_or_past ws (i / 4) 0 (omega arith) in
    rw e (rw zero-div refl)

-- four bytes are in a word
pub packed_byte : (bs : List ℕ) (i : ℕ) → Each IsByte bs → i < length bs → text_byte (packed bs) i ≡ slice_index bs i
packed_byte [] i small h = absurd (omega arith)
packed_byte (a ∷ []) zero small h = let a0 : a < 256 = small.0 in omega arith
packed_byte (a ∷ []) (suc i) small h = absurd (omega arith)
packed_byte (a ∷ (b ∷ [])) zero small h = let a0 : a < 256 = small.0 in omega arith
packed_byte (a ∷ (b ∷ [])) (suc zero) small h = let a0 : a < 256 = small.0 in let b0 : b < 256 = small.1.0 in omega arith
packed_byte (a ∷ (b ∷ [])) (suc (suc i)) small h = absurd (omega arith)
packed_byte (a ∷ (b ∷ (c ∷ []))) zero small h = let a0 : a < 256 = small.0 in omega arith
packed_byte (a ∷ (b ∷ (c ∷ []))) (suc zero) small h = let a0 : a < 256 = small.0 in let b0 : b < 256 = small.1.0 in omega arith
packed_byte (a ∷ (b ∷ (c ∷ []))) (suc (suc zero)) small h = let a0 : a < 256 = small.0 in let b0 : b < 256 = small.1.0 in let c0 : c < 256 = small.1.1.0 in omega arith
packed_byte (a ∷ (b ∷ (c ∷ []))) (suc (suc (suc i))) small h = absurd (omega arith)
packed_byte (a ∷ (b ∷ (c ∷ (d ∷ more)))) zero small h = let a0 : a < 256 = small.0 in omega arith
packed_byte (a ∷ (b ∷ (c ∷ (d ∷ more)))) (suc zero) small h = let a0 : a < 256 = small.0 in let b0 : b < 256 = small.1.0 in omega arith
packed_byte (a ∷ (b ∷ (c ∷ (d ∷ more)))) (suc (suc zero)) small h = let a0 : a < 256 = small.0 in let b0 : b < 256 = small.1.0 in let c0 : c < 256 = small.1.1.0 in omega arith
packed_byte (a ∷ (b ∷ (c ∷ (d ∷ more)))) (suc (suc (suc zero))) small h =
    let a0 : a < 256 = small.0 in let b0 : b < 256 = small.1.0 in let c0 : c < 256 = small.1.1.0 in let d0 : d < 256 = small.1.1.1.0 in omega arith
packed_byte (a ∷ (b ∷ (c ∷ (d ∷ more)))) (suc (suc (suc (suc i)))) small h =
    let w : ℕ = a + 256 * b + 65536 * c + 16777216 * d in
    let e : suc (suc (suc (suc i))) ≡ 4 + i = omega arith in
    ap (text_byte (w ∷ packed more)) e ∙ (next_byte w (packed more) i ∙ packed_byte more i small.1.1.1.1 (omega arith))

-- the text, and zeros behind it
pub start_byte : (ws : List ℕ) (a : ℕ) → 65536 ≤ a → start_memory ws a ≡ text_byte ws (a - 65536)
unfolding start_memory
start_byte ws a h = rw (le-ltb a 65536 h) refl

pub start_zero : (ws : List ℕ) (a : ℕ) → 65536 + 4 * length ws ≤ a → start_memory ws a ≡ 0
start_zero ws a h = start_byte ws a (omega arith) ∙ byte_past ws (a - 65536) (omega arith)

pub start_packed : (ws bs : List ℕ) (i : ℕ) → Each IsByte bs → i < length bs → start_memory (ws ++ packed bs) (65536 + 4 * length ws + i) ≡ slice_index bs i
start_packed ws bs i small h =
    let at : 65536 + 4 * length ws + i - 65536 ≡ 4 * length ws + i = omega arith in
    start_byte (ws ++ packed bs) (65536 + 4 * length ws + i) (omega arith) ∙ (ap (text_byte (ws ++ packed bs)) at ∙ (byte_behind ws (packed bs) i ∙ packed_byte bs i small h))
