-- What the short sequences of instructions lead to.
use Rattle.std.proofs.Common.{◌≡◌, ℕ, ◌+◌, ◌*◌, ◌/◌, ◌%◌, ◌<◌, Bool, true, false, eqb, List, [], ◌∷◌, ◌++◌, length, refl, arith, ap, sym, ◌∙◌, subst}
use Rattle.std.specs.Prelude.{if◌then◌else◌}
use Rattle.std.proofs.Math.Path.{fun_ext}
use Rattle.std.proofs.lemmas.Bool.{eqb-true, eq-eqb}
use Rattle.rv_isa.specs.declared.instr.Instr.{Instr}
use Rattle.rv_isa.specs.declared.instr.Instr.TheVariants.{Lui, Load, Store, Immediate, Register}
use Rattle.rv_isa.specs.declared.instr.LoadKind.TheVariants.{Word}
use Rattle.rv_isa.specs.declared.instr.StoreKind.TheVariants.{Word as whole_word}
use Rattle.rv_isa.specs.declared.instr.RegisterOp.TheVariants.{Add}
use Rattle.rv_isa.specs.declared.instr.ImmediateOp.TheVariants.{Addi}
use Rattle.rv_isa.specs.Memory.{Memory, word_at, with_word}
use Rattle.rv_isa.specs.Step.{Registers, Space, with_any}
use Rattle.rv_image.specs.Streams.{World}
use Rattle.rv_runs.specs.Moments.{Ground, Moment, Live, Comes}
use Rattle.rv_runs.specs.Stands.{Stands}
use Rattle.rv_runs.proofs.Comes.{widen}
use Rattle.rv_runs.proofs.Places.{stands_right}
use Rattle.rv_runs.proofs.Steps.{cpu, Loadable, Storable, lui, immediate, combine, load, store, jump, link}
use Rattle.rv_layout.specs.Pieces.{upper, lower, long, constant_by, load_by, store_by, address_by, go_to, call_to}
use Rattle.rv_layout.specs.Held.{Code}

-- two parts of a word
pub joined : (w x : ℕ) → w < 4294967296 → w + x < 4294967296 → ((upper w + x) % 4294967296 + lower w) % 4294967296 ≡ x + w
joined w x h k = omega arith

pub halves : (w : ℕ) → w < 4294967296 → (upper w + lower w) % 4294967296 ≡ w
halves w h = omega arith

pub halves_even : (w : ℕ) → w % 4 ≡ 0 → w < 4294967296 → (upper w + lower w) % 4294967296 / 2 * 2 ≡ w
halves_even w e h = let q = halves w h in rw q (omega arith)

-- what register q has is kept
kept_at : (r : Registers) (p q : ℕ) (b : Bool) → eqb q p ≡ b → (b ≡ true → q ≡ p) → (if b then r p else r q) ≡ r q
kept_at r p q true e h = ap r (sym (h refl))
kept_at r p q false e h = refl

pub kept : (r : Registers) (p : ℕ) → with_any r p (r p) ≡ r
unfolding with_any
kept r p = fun_ext (λ q. kept_at r p q (eqb q p) refl (eqb-true q p))

-- what is written last is there
over_at : (b : Bool) (u v w : ℕ) → (if b then v else if b then u else w) ≡ (if b then v else w)
over_at true u v w = refl
over_at false u v w = refl

pub over : (r : Registers) (p u v : ℕ) → with_any (with_any r p u) p v ≡ with_any r p v
unfolding with_any
over r p u v = fun_ext (λ q. over_at (eqb q p) u v (r q))

at_seven : (r : Registers) (u o x : ℕ) → (u + o) % 4294967296 ≡ x → (with_any r 7 u 7 + o) % 4294967296 ≡ x
unfolding with_any
at_seven r u o x e = e

other : (r : Registers) (q u : ℕ) → eqb q 7 ≡ false → with_any r 7 u q ≡ r q
unfolding with_any
other r q u n = rw n refl

-- code behind code
pub behind : (s : Space) (pc to : ℕ) (xs ys : List Instr) → Code s pc (xs ++ ys) to → Code s (pc + 4 * length xs) ys to
behind s pc to xs ys c = record { stand = stands_right s pc xs ys c.stand; end = let e = lengths xs ys in let z = c.end in omega arith }
  where
    lengths : (xs ys : List Instr) → length (xs ++ ys) ≡ length xs + length ys
    lengths [] ys = omega arith
    lengths (x ∷ xs) ys = let e = lengths xs ys in omega arith

pub after : (s : Space) (pc to : ℕ) (x : Instr) (ys : List Instr) → Code s pc (x ∷ ys) to → Code s (pc + 4) ys to
after s pc to x ys c = record { stand = c.stand.1; end = let z = c.end in omega arith }

module _ (g : Ground) (a b : ℕ) (r : Registers) (m : Memory) (pc : ℕ) (w : World) (P : Moment → Type 0) where
  abbrev Then : Registers → Memory → ℕ → Type 0
  Then q n at = Comes g a b (Live (cpu q n at) w) P

  -- register 7 has the upper part of an offset, from a base
  far : (c d : ℕ) (base offset : ℕ) (ops : List Instr) → Stands g.space pc (Lui 7 (upper offset) ∷ Register Add 7 7 base ∷ ops) → eqb base 7 ≡ false →
      Comes g c d (Live (cpu (with_any r 7 ((upper offset + r base) % 4294967296)) m (pc + 4 + 4)) w) P → Comes g (c + 1 + 1) (d + 1 + 1) (Live (cpu r m pc) w) P
  unfolding with_any
  far c d base offset ops h n k =
      let e : (if eqb base 7 then upper offset else r base) ≡ r base = rw n refl in
      lui g (c + 1) (d + 1) r m pc w P 7 (upper offset) h.0 refl
      (combine g c d (with_any r 7 (upper offset)) m (pc + 4) w P Add 7 7 base ((upper offset + r base) % 4294967296) h.1.0 refl (ap (λ v. (upper offset + v) % 4294967296) e)
      (subst (λ q. Comes g c d (Live (cpu q m (pc + 4 + 4)) w) P) (sym (over r 7 (upper offset) ((upper offset + r base) % 4294967296))) k))

  pub load_then : (near : Bool) (to base offset x : ℕ) → Stands g.space pc (load_by near to base offset) → eqb to 0 ≡ false → eqb base 7 ≡ false → r base + offset ≡ x → Loadable g.space 4 x →
      ((y : ℕ) → Then (with_any (with_any r 7 y) to (word_at m x)) m (pc + 4 * length (load_by near to base offset))) → Comes g (a + 1) (b + 3) (Live (cpu r m pc) w) P
  load_then true to base offset x h t n e l k =
      let z = l.small in
      widen g (a + 1) (b + 1) (a + 1) (b + 3) _ P
      (load g a b r m pc w P Word to base offset x h.0 t (omega arith) l
      (subst (λ q. Comes g a b (Live (cpu (with_any q to (word_at m x)) m (pc + 4)) w) P) (kept r 7) (k (r 7))))
      (omega arith) (omega arith)
  load_then false to base offset x h t n e l k =
      let z = l.small in
      let u : ℕ = (upper offset + r base) % 4294967296 in
      let q : pc + 12 ≡ pc + 4 + 4 + 4 = omega arith in
      widen g (a + 1 + 1 + 1) (b + 1 + 1 + 1) (a + 1) (b + 3) _ P
      (far (a + 1) (b + 1) base offset (Load Word to 7 (lower offset) ∷ []) h n
      (load g a b (with_any r 7 u) m (pc + 4 + 4) w P Word to 7 (lower offset) x h.1.1.0 t (at_seven r u (lower offset) x (joined offset (r base) (omega arith) (omega arith) ∙ e)) l
      (subst (λ i. Comes g a b (Live (cpu (with_any (with_any r 7 u) to (word_at m x)) m i) w) P) q (k u))))
      (omega arith) (omega arith)

  pub store_then : (near : Bool) (from base offset x v : ℕ) → Stands g.space pc (store_by near from base offset) → eqb from 7 ≡ false → eqb base 7 ≡ false → r base + offset ≡ x → r from ≡ v → Storable g.space 4 x →
      ((y : ℕ) → Then (with_any r 7 y) (with_word m x v) (pc + 4 * length (store_by near from base offset))) → Comes g (a + 1) (b + 3) (Live (cpu r m pc) w) P
  store_then true from base offset x v h t n e f l k =
      let z = l.small in
      widen g (a + 1) (b + 1) (a + 1) (b + 3) _ P
      (store g a b r m pc w P whole_word base from offset x h.0 (omega arith) l
      (rw f (subst (λ q. Comes g a b (Live (cpu q (with_word m x v) (pc + 4)) w) P) (kept r 7) (k (r 7)))))
      (omega arith) (omega arith)
  store_then false from base offset x v h t n e f l k =
      let z = l.small in
      let u : ℕ = (upper offset + r base) % 4294967296 in
      let q : pc + 12 ≡ pc + 4 + 4 + 4 = omega arith in
      widen g (a + 1 + 1 + 1) (b + 1 + 1 + 1) (a + 1) (b + 3) _ P
      (far (a + 1) (b + 1) base offset (Store whole_word 7 from (lower offset) ∷ []) h n
      (store g a b (with_any r 7 u) m (pc + 4 + 4) w P whole_word 7 from (lower offset) x h.1.1.0 (at_seven r u (lower offset) x (joined offset (r base) (omega arith) (omega arith) ∙ e)) l
      (rw (other r from u t, f) (subst (λ i. Comes g a b (Live (cpu (with_any r 7 u) (with_word m x v) i) w) P) q (k u)))))
      (omega arith) (omega arith)

  pub address_then : (near : Bool) (to base offset x : ℕ) → Stands g.space pc (address_by near to base offset) → eqb to 0 ≡ false → eqb base 7 ≡ false → r base + offset ≡ x → x < 4294967296 →
      ((y : ℕ) → Then (with_any (with_any r 7 y) to x) m (pc + 4 * length (address_by near to base offset))) → Comes g (a + 1) (b + 3) (Live (cpu r m pc) w) P
  address_then true to base offset x h t n e l k =
      widen g (a + 1) (b + 1) (a + 1) (b + 3) _ P
      (immediate g a b r m pc w P Addi to base offset x h.0 t (omega arith)
      (subst (λ q. Comes g a b (Live (cpu (with_any q to x) m (pc + 4)) w) P) (kept r 7) (k (r 7))))
      (omega arith) (omega arith)
  address_then false to base offset x h t n e l k =
      let u : ℕ = (upper offset + r base) % 4294967296 in
      let q : pc + 12 ≡ pc + 4 + 4 + 4 = omega arith in
      widen g (a + 1 + 1 + 1) (b + 1 + 1 + 1) (a + 1) (b + 3) _ P
      (far (a + 1) (b + 1) base offset (Immediate Addi to 7 (lower offset) ∷ []) h n
      (immediate g a b (with_any r 7 u) m (pc + 4 + 4) w P Addi to 7 (lower offset) x h.1.1.0 t (at_seven r u (lower offset) x (joined offset (r base) (omega arith) (omega arith) ∙ e))
      (subst (λ i. Comes g a b (Live (cpu (with_any (with_any r 7 u) to x) m i) w) P) q (k u))))
      (omega arith) (omega arith)

  pub long_then : (to v : ℕ) → Stands g.space pc (long to v) → eqb to 0 ≡ false → v < 4294967296 → Then (with_any r to v) m (pc + 8) → Comes g (a + 2) (b + 2) (Live (cpu r m pc) w) P
  unfolding with_any
  long_then to v h n l k =
      let e : (upper v + lower v) % 4294967296 ≡ v = halves v l in
      let q : pc + 8 ≡ pc + 4 + 4 = omega arith in
      let same : eqb to to ≡ true = eq-eqb to to refl in
      let at : (if eqb to to then upper v else r to) ≡ upper v = rw same refl in
      widen g (a + 1 + 1) (b + 1 + 1) (a + 2) (b + 2) _ P
      (lui g (a + 1) (b + 1) r m pc w P to (upper v) h.0 n
      (immediate g a b (with_any r to (upper v)) m (pc + 4) w P Addi to to (lower v) v h.1.0 n (ap (λ i. (i + lower v) % 4294967296) at ∙ e)
      (subst (λ p. Comes g a b (Live (cpu p m (pc + 4 + 4)) w) P) (sym (over r to (upper v) v)) (subst (λ i. Comes g a b (Live (cpu (with_any r to v) m i) w) P) q k))))
      (omega arith) (omega arith)

  pub constant_then : (near : Bool) (to v : ℕ) → Stands g.space pc (constant_by near to v) → eqb to 0 ≡ false → r 0 ≡ 0 → v < 4294967296 →
      Then (with_any r to v) m (pc + 4 * length (constant_by near to v)) → Comes g (a + 1) (b + 2) (Live (cpu r m pc) w) P
  constant_then true to v h n z l k =
      widen g (a + 1) (b + 1) (a + 1) (b + 2) _ P
      (immediate g a b r m pc w P Addi to 0 v v h.0 n (rw z (omega arith)) k)
      (omega arith) (omega arith)
  constant_then false to v h n z l k = widen g (a + 2) (b + 2) (a + 1) (b + 2) _ P (long_then to v h n l k) (omega arith) (omega arith)

  pub go_then : (to : ℕ) → Stands g.space pc (go_to to) → to % 4 ≡ 0 → to < 4294967296 → Then (with_any r 7 (upper to)) m to → Comes g (a + 2) (b + 2) (Live (cpu r m pc) w) P
  unfolding with_any
  go_then to h n l k =
      widen g (a + 1 + 1) (b + 1 + 1) (a + 2) (b + 2) _ P
      (lui g (a + 1) (b + 1) r m pc w P 7 (upper to) h.0 refl
      (jump g a b (with_any r 7 (upper to)) m (pc + 4) w P 7 (lower to) to h.1.0 (halves_even to n l) k))
      (omega arith) (omega arith)

  pub call_then : (to : ℕ) → Stands g.space pc (call_to to) → to % 4 ≡ 0 → to < 4294967296 → Then (with_any (with_any r 7 (upper to)) 8 (pc + 8)) m to → Comes g (a + 2) (b + 2) (Live (cpu r m pc) w) P
  unfolding with_any
  call_then to h n l k =
      let q : pc + 8 ≡ pc + 4 + 4 = omega arith in
      widen g (a + 1 + 1) (b + 1 + 1) (a + 2) (b + 2) _ P
      (lui g (a + 1) (b + 1) r m pc w P 7 (upper to) h.0 refl
      (link g a b (with_any r 7 (upper to)) m (pc + 4) w P 8 7 (lower to) to h.1.0 refl (halves_even to n l)
      (subst (λ i. Comes g a b (Live (cpu (with_any (with_any r 7 (upper to)) 8 i) m to) w) P) q k)))
      (omega arith) (omega arith)
