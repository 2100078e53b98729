-- The text is copied word by word.
use Rattle.std.proofs.Common.{◌≡◌, ◌≢◌, ℕ, ◌+◌, ◌-◌, ◌*◌, ◌/◌, ◌%◌, ◌^◌, ◌<◌, ◌≤◌, ◌⊎◌, inl, inr, List, [], ◌++◌, length, get_or, take, length-take, replicate, ltb, false, true, refl, arith, ap, sym, ◌∙◌}
use Rattle.std.proofs.Math.Path.{fun_ext}
use Rattle.std.proofs.lemmas.Bool.{cases_lt, cases_eq}
use Rattle.std.proofs.lemmas.List.{get_or-replicate, length-replicate}
use Rattle.std.proofs.lemmas.List.{get_or-take, get_or_past, take-append-le, take_all}
use Rattle.rv_isa.specs.Memory.{byte_at, with_word}
use Rattle.rv_machine.specs.Lists.{memory_of, registers_of, text_in}
use Rattle.rv_image.specs.Start.{text_byte, start_memory, no_registers}
use Rattle.rv_isa.proofs.Words.{byte_same, byte_other, outside}
use Rattle.rv_isa.specs.Fixed.{HoldsText}
use Rattle.rv_machine.proofs.Texts.{text_held}

taken : (ws : List ℕ) (k : ℕ) → k < length ws → get_or (take (k + 1) ws) k 0 ≡ get_or ws k 0
taken ws k h = get_or-take (k + 1) ws k 0 (omega arith)

not_taken : (ws : List ℕ) (k q : ℕ) → k < length ws → q ≢ k → get_or (take (k + 1) ws) q 0 ≡ get_or (take k ws) q 0
not_taken ws k q h n =
    elim (cases_lt q k) [
      | inl l ↦ get_or-take (k + 1) ws q 0 (omega arith) ∙ sym (get_or-take k ws q 0 l)
      | inr l ↦
          let a : length (take (k + 1) ws) ≤ q = omega (arith, length-take (k + 1) ws) in
          let b : length (take k ws) ≤ q = omega (arith, length-take k ws) in
          get_or_past (take (k + 1) ws) q 0 a ∙ sym (get_or_past (take k ws) q 0 b)
    ]

byte_start : (ws : List ℕ) (i a : ℕ) → a ≡ i + 65536 → byte_at (start_memory ws) a ≡ text_byte ws i
unfolding start_memory
byte_start ws i a e = let k : a - 65536 ≡ i = omega arith in let f : ltb a 65536 ≡ false = grind arith in rw (f, k) refl

byte_low : (ws : List ℕ) (a : ℕ) → a < 65536 → byte_at (start_memory ws) a ≡ 0
unfolding start_memory
byte_low ws a h = let f : ltb a 65536 ≡ true = grind arith in rw f refl

here : (ws : List ℕ) (k j i : ℕ) → k < length ws → j < 4 → i ≡ 4 * k + j → text_byte (take (k + 1) ws) i ≡ get_or ws k 0 / 256 ^ j % 256
here ws k j i h l e =
    let q : i / 4 ≡ k = omega arith in
    let r : i % 4 ≡ j = omega arith in
    let t = taken ws k h in
    rw (q, r, t) refl

there : (ws : List ℕ) (k i : ℕ) → k < length ws → (i < 4 * k) ⊎ (4 * k + 4 ≤ i) → text_byte (take (k + 1) ws) i ≡ text_byte (take k ws) i
there ws k i h o =
    let q : i / 4 ≢ k = elim o [ inl p ↦ omega arith | inr p ↦ omega arith ] in
    let t = not_taken ws k (i / 4) h q in
    rw t refl

last : (v : ℕ) → v < 4294967296 → v / 16777216 ≡ v / 256 ^ 3 % 256
last v h = omega arith

first : (v : ℕ) → v % 256 ≡ v / 256 ^ 0 % 256
first v = omega arith

-- the byte at a, in and outside the word
in_word : (ws : List ℕ) (k v j a : ℕ) → k < length ws → v ≡ get_or ws k 0 → v < 4294967296 → j < 4 → a ≡ 4 * k + 65536 + j →
    byte_at (with_word (start_memory (take k ws)) (4 * k + 65536) v) a ≡ v / 256 ^ j % 256 →
    byte_at (with_word (start_memory (take k ws)) (4 * k + 65536) v) a ≡ byte_at (start_memory (take (k + 1) ws)) a
in_word ws k v j a h is fits l e w =
    let s = byte_start (take (k + 1) ws) (4 * k + j) a (omega arith) in
    let t = here ws k j (4 * k + j) h l refl in
    w ∙ (ap (λ n. n / 256 ^ j % 256) is ∙ (sym t ∙ sym s))

out_of_word : (ws : List ℕ) (k v a : ℕ) → k < length ws → (a < 4 * k + 65536) ⊎ (4 * k + 65536 + 4 ≤ a) →
    byte_at (with_word (start_memory (take k ws)) (4 * k + 65536) v) a ≡ byte_at (start_memory (take (k + 1) ws)) a
out_of_word ws k v a h o =
    outside (start_memory (take k ws)) (4 * k + 65536) v a o ∙
    (elim (cases_lt a 65536) [
      | inl l ↦ byte_low (take k ws) a l ∙ sym (byte_low (take (k + 1) ws) a l)
      | inr l ↦
          let e : a ≡ a - 65536 + 65536 = omega arith in
          let p : (a - 65536 < 4 * k) ⊎ (4 * k + 4 ≤ a - 65536) = elim o [ inl q ↦ inl (omega arith) | inr q ↦ inr (omega arith) ] in
          byte_start (take k ws) (a - 65536) a e ∙ (sym (there ws k (a - 65536) h p) ∙ sym (byte_start (take (k + 1) ws) (a - 65536) a e))
    ])

point : (ws : List ℕ) (k v a : ℕ) → k < length ws → v ≡ get_or ws k 0 → v < 4294967296 →
    byte_at (with_word (start_memory (take k ws)) (4 * k + 65536) v) a ≡ byte_at (start_memory (take (k + 1) ws)) a
point ws k v a h is fits =
    let m = start_memory (take k ws) in
    let x : ℕ = 4 * k + 65536 in
    elim (cases_eq a (x + 3)) [
      | inl e ↦ in_word ws k v 3 a h is fits (omega arith) e (rw e (byte_same _ (x + 3) _ ∙ last v fits))
      | inr n3 ↦ elim (cases_eq a (x + 2)) [
        | inl e ↦ in_word ws k v 2 a h is fits (omega arith) e (byte_other _ (x + 3) _ a n3 ∙ rw e (byte_same _ (x + 2) _))
        | inr n2 ↦ elim (cases_eq a (x + 1)) [
          | inl e ↦ in_word ws k v 1 a h is fits (omega arith) e (byte_other _ (x + 3) _ a n3 ∙ (byte_other _ (x + 2) _ a n2 ∙ rw e (byte_same _ (x + 1) _)))
          | inr n1 ↦ elim (cases_eq a x) [
            | inl e ↦ in_word ws k v 0 a h is fits (omega arith) (omega arith) (byte_other _ (x + 3) _ a n3 ∙ (byte_other _ (x + 2) _ a n2 ∙ (byte_other _ (x + 1) _ a n1 ∙ rw e (byte_same _ x _ ∙ first v))))
            | inr n0 ↦ out_of_word ws k v a h (elim (cases_lt a x) [ inl l ↦ inl l | inr l ↦ inr (omega arith) ])
          ]
        ]
      ]
    ]

pub start_more : (ws : List ℕ) (k v : ℕ) → k < length ws → v ≡ get_or ws k 0 → v < 4294967296 → with_word (start_memory (take k ws)) (4 * k + 65536) v ≡ start_memory (take (k + 1) ws)
start_more ws k v h is fits = fun_ext (λ a. point ws k v a h is fits)

pub start_none : (bytes : List ℕ) → ((i : ℕ) → get_or bytes i 0 ≡ 0) → memory_of bytes ≡ start_memory []
unfolding memory_of start_memory
start_none bytes zero = fun_ext (λ a. let z = zero (a - 65536) in rw z (grind arith))

zeros : (n r z : ℕ) → get_or (replicate n z) r z ≡ z
zeros n r z =
    elim (cases_lt r n) [
      | inl l ↦ get_or-replicate n r z z l
      | inr l ↦ get_or_past (replicate n z) r z (let e = length-replicate n z in omega arith)
    ]

pub no_registers_are : registers_of (replicate 32 0) ≡ no_registers
unfolding registers_of no_registers
no_registers_are = fun_ext (λ r. zeros 32 r 0)

byte_of : (ws : List ℕ) (k j : ℕ) → j < 4 → byte_at (start_memory ws) (65536 + 4 * k + j) ≡ get_or ws k 0 / 256 ^ j % 256
byte_of ws k j l =
    let s = byte_start ws (4 * k + j) (65536 + 4 * k + j) (omega arith) in
    let q : (4 * k + j) / 4 ≡ k = omega arith in
    let r : (4 * k + j) % 4 ≡ j = omega arith in
    s ∙ rw (q, r) refl

-- the text of an image stands in memory at the start
start_holds : (ws : List ℕ) → ((k : ℕ) → k < length ws → get_or ws k 0 < 4294967296) → HoldsText ws (start_memory ws)
start_holds ws below = λ k l.
    let v : ℕ = get_or ws k 0 in
    let h : v < 4294967296 = below k l in
    let zero : 65536 + 4 * k + 0 ≡ 65536 + 4 * k = omega arith in
    let e0 : byte_at (start_memory ws) (65536 + 4 * k) ≡ v / 256 ^ 0 % 256 = rw zero at (byte_of ws k 0 (omega arith)) in
    let e1 : byte_at (start_memory ws) (65536 + 4 * k + 1) ≡ v / 256 ^ 1 % 256 = byte_of ws k 1 (omega arith) in
    let e2 : byte_at (start_memory ws) (65536 + 4 * k + 2) ≡ v / 256 ^ 2 % 256 = byte_of ws k 2 (omega arith) in
    let e3 : byte_at (start_memory ws) (65536 + 4 * k + 3) ≡ v / 256 ^ 3 % 256 = byte_of ws k 3 (omega arith) in
    let sum : v / 256 ^ 0 % 256 + 256 * (v / 256 ^ 1 % 256) + 65536 * (v / 256 ^ 2 % 256) + 16777216 * (v / 256 ^ 3 % 256) ≡ v = omega arith in
    rw (e0, e1, e2, e3) sum

pub start_text : (ws : List ℕ) → ((k : ℕ) → k < length ws → get_or ws k 0 < 4294967296) → text_in (length ws) (start_memory ws) ≡ ws
start_text ws below = text_held (start_memory ws) (length ws) ws refl (start_holds ws below)

-- what stands in a list of the length of its first part
pub written : (n : ℕ) (xs ys : List ℕ) → length xs ≡ n → take n (xs ++ ys) ≡ xs
written n xs ys e = grind (arith, take-append-le, take_all)
