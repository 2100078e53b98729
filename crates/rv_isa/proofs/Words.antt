-- What is stored is read again, and elsewhere nothing changes.
use Rattle.std.proofs.Common.{◌≡◌, ◌≢◌, ℕ, ◌+◌, ◌*◌, ◌/◌, ◌%◌, ◌<◌, ◌≤◌, ◌⊎◌, inl, inr, refl, arith, ◌∙◌}
use Rattle.std.proofs.lemmas.Bool.{ne_eqb, eq-eqb}
use Rattle.rv_isa.specs.declared.instr.StoreKind.{StoreKind}
use Rattle.rv_isa.specs.declared.instr.StoreKind.TheVariants.{Byte, Half, Word}
use Rattle.rv_isa.specs.Memory.{Memory, byte_at, half_at, word_at, with_byte, with_half, with_word, stored, store_size}

pub byte_same : (m : Memory) (a v : ℕ) → byte_at (with_byte m a v) a ≡ v
unfolding with_byte
byte_same m a v = rw (eq-eqb a a refl) refl

pub byte_other : (m : Memory) (a v b : ℕ) → b ≢ a → byte_at (with_byte m a v) b ≡ byte_at m b
unfolding with_byte
byte_other m a v b h = rw (ne_eqb b a h) refl

-- a byte outside a half that is stored
pub half_outside : (m : Memory) (a v b : ℕ) → (b < a) ⊎ (a + 2 ≤ b) → byte_at (with_half m a v) b ≡ byte_at m b
half_outside m a v b h =
    let n0 : b ≢ a = elim h [ inl p ↦ omega arith | inr p ↦ omega arith ] in
    let n1 : b ≢ a + 1 = elim h [ inl p ↦ omega arith | inr p ↦ omega arith ] in
    byte_other _ (a + 1) _ b n1 ∙ byte_other _ a _ b n0

-- a byte outside a word that is stored
pub outside : (m : Memory) (a v b : ℕ) → (b < a) ⊎ (a + 4 ≤ b) → byte_at (with_word m a v) b ≡ byte_at m b
outside m a v b h =
    let apart : (b < a) ⊎ (a + 2 ≤ b) = elim h [ inl p ↦ inl p | inr p ↦ inr (omega arith) ] in
    let n2 : b ≢ a + 2 = elim h [ inl p ↦ omega arith | inr p ↦ omega arith ] in
    let n3 : b ≢ a + 3 = elim h [ inl p ↦ omega arith | inr p ↦ omega arith ] in
    byte_other _ (a + 3) _ b n3 ∙ (byte_other _ (a + 2) _ b n2 ∙ half_outside m a v b apart)

-- a byte outside what is stored
pub stored_outside : (kind : StoreKind) (m : Memory) (a v b : ℕ) → (b < a) ⊎ (a + store_size kind ≤ b) → byte_at (stored kind m a v) b ≡ byte_at m b
stored_outside Byte m a v b h =
    let n : b ≢ a = elim h [ inl p ↦ omega arith | inr p ↦ omega arith ] in
    byte_other m a (v % 256) b n
stored_outside Half m a v b h = half_outside m a v b h
stored_outside Word m a v b h = outside m a v b h

-- a half whose bytes are the same in two memories
pub half_kept : (m n : Memory) (b : ℕ) → ((k : ℕ) → k < 2 → byte_at n (b + k) ≡ byte_at m (b + k)) → half_at n b ≡ half_at m b
half_kept m n b h =
    let zero : b + 0 ≡ b = omega arith in
    let e0 : byte_at n b ≡ byte_at m b = rw zero at (h 0 (omega arith)) in
    let e1 : byte_at n (b + 1) ≡ byte_at m (b + 1) = h 1 (omega arith) in
    rw (e0, e1) refl

-- a word whose bytes are the same in two memories
pub word_kept : (m n : Memory) (b : ℕ) → ((k : ℕ) → k < 4 → byte_at n (b + k) ≡ byte_at m (b + k)) → word_at n b ≡ word_at m b
word_kept m n b h =
    let zero : b + 0 ≡ b = omega arith in
    let e0 : byte_at n b ≡ byte_at m b = rw zero at (h 0 (omega arith)) in
    let e1 : byte_at n (b + 1) ≡ byte_at m (b + 1) = h 1 (omega arith) in
    let e2 : byte_at n (b + 2) ≡ byte_at m (b + 2) = h 2 (omega arith) in
    let e3 : byte_at n (b + 3) ≡ byte_at m (b + 3) = h 3 (omega arith) in
    rw (e0, e1, e2, e3) refl

-- a half and a word apart from what is stored
pub half_apart : (kind : StoreKind) (m : Memory) (a v b : ℕ) → (b + 2 ≤ a) ⊎ (a + store_size kind ≤ b) → half_at (stored kind m a v) b ≡ half_at m b
half_apart kind m a v b h =
    half_kept m (stored kind m a v) b (λ k l. stored_outside kind m a v (b + k) (elim h [ inl p ↦ inl (omega arith) | inr p ↦ inr (omega arith) ]))

pub word_apart : (kind : StoreKind) (m : Memory) (a v b : ℕ) → (b + 4 ≤ a) ⊎ (a + store_size kind ≤ b) → word_at (stored kind m a v) b ≡ word_at m b
word_apart kind m a v b h =
    word_kept m (stored kind m a v) b (λ k l. stored_outside kind m a v (b + k) (elim h [ inl p ↦ inl (omega arith) | inr p ↦ inr (omega arith) ]))

pub half_other : (m : Memory) (a v b : ℕ) → (b + 2 ≤ a) ⊎ (a + 2 ≤ b) → half_at (with_half m a v) b ≡ half_at m b
half_other m a v b h = half_apart Half m a v b h

pub word_other : (m : Memory) (a v b : ℕ) → (b + 4 ≤ a) ⊎ (a + 4 ≤ b) → word_at (with_word m a v) b ≡ word_at m b
word_other m a v b h = word_apart Word m a v b h

pub half_same : (m : Memory) (a v : ℕ) → half_at (with_half m a v) a ≡ v % 65536
half_same m a v =
    let e1 : byte_at (with_half m a v) (a + 1) ≡ v / 256 % 256 = byte_same _ (a + 1) _ in
    let e0 : byte_at (with_half m a v) a ≡ v % 256 = byte_other _ (a + 1) _ a (omega arith) ∙ byte_same _ a _ in
    let sum : v % 256 + 256 * (v / 256 % 256) ≡ v % 65536 = omega arith in
    rw (e0, e1) sum

pub word_same : (m : Memory) (a v : ℕ) → v < 4294967296 → word_at (with_word m a v) a ≡ v
word_same m a v h =
    let e3 : byte_at (with_word m a v) (a + 3) ≡ v / 16777216 = byte_same _ (a + 3) _ in
    let e2 : byte_at (with_word m a v) (a + 2) ≡ v / 65536 % 256 = byte_other _ (a + 3) _ (a + 2) (omega arith) ∙ byte_same _ (a + 2) _ in
    let e1 : byte_at (with_word m a v) (a + 1) ≡ v / 256 % 256 = byte_other _ (a + 3) _ (a + 1) (omega arith) ∙ (byte_other _ (a + 2) _ (a + 1) (omega arith) ∙ byte_same _ (a + 1) _) in
    let e0 : byte_at (with_word m a v) a ≡ v % 256 =
    byte_other _ (a + 3) _ a (omega arith) ∙ (byte_other _ (a + 2) _ a (omega arith) ∙ (byte_other _ (a + 1) _ a (omega arith) ∙ byte_same _ a _)) in
    let sum : v % 256 + 256 * (v / 256 % 256) + 65536 * (v / 65536 % 256) + 16777216 * (v / 16777216) ≡ v = omega arith in
    rw (e0, e1, e2, e3) sum
