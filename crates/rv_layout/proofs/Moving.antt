-- Copies and exchanges one after the other do what a hand-over does at once.
use Rattle.std.proofs.Common.{◌≡◌, ◌≢◌, ◌⊎◌, inl, inr, ℕ, suc, ◌≤◌, List, [], ◌∷◌, ◌++◌, length, length-append, Bool, true, false, eqb, Option, Some, None, refl, arith, ap, sym, ◌∙◌, subst}
use Rattle.std.specs.Prelude.{◌||◌, if◌then◌else◌, map}
use Rattle.std.specs.List.{AllByRecursion as Each}
use Rattle.std.proofs.lemmas.Bool.{eqb-true, eq-eqb, ne_eqb}
use Rattle.ir_form.specs.State.{Env, with_value, words_of, listed, bound}
use Rattle.rv_layout.specs.Moves.{Move, Copy, Swap, is_among, exchanged, moves}

-- what a move does to what is in places
abbrev pub moved_by : Move → (ℕ → ℕ) → ℕ → ℕ
moved_by (Copy t f) v x = if eqb x t then v f else v x
moved_by (Swap t f) v x = v (exchanged t f x)

abbrev pub moved : List Move → (ℕ → ℕ) → ℕ → ℕ
moved [] v = v
moved (m ∷ ms) v = moved ms (moved_by m v)

-- all at once
abbrev pub given : (to from : List ℕ) → (ℕ → ℕ) → ℕ → ℕ
given [] from v x = v x
given (t ∷ ts) [] v x = v x
given (t ∷ ts) (f ∷ fs) v x = if eqb x t then v f else given ts fs v x

abbrev pub Differ : List ℕ → Type 0
Differ [] = Unit {0}
Differ (x ∷ xs) = (is_among xs x ≡ false) × Differ xs

no_both : true ≡ false → ⊥
no_both e = cc

pub either : (a b : Bool) → (a || b) ≡ false → (a ≡ false) × (b ≡ false)
either true b e = absurd (cc)
either false b e = (refl, e)

-- exchanged twice is as before
back_at : (a b x : ℕ) (p q : Bool) → eqb x a ≡ p → eqb x b ≡ q → (p ≡ true → x ≡ a) → (q ≡ true → x ≡ b) → exchanged a b (if p then b else if q then a else x) ≡ x
back_at a b x true q e f h k = back_first (eqb b a) refl (eqb-true b a)
  where
    back_first : (t : Bool) → eqb b a ≡ t → (t ≡ true → b ≡ a) → (if eqb b a then b else if eqb b b then a else b) ≡ x
    back_first true d g = rw d (g refl ∙ sym (h refl))
    back_first false d g = rw (d, eq-eqb b b refl) (sym (h refl))
back_at a b x false true e f h k = rw (eq-eqb a a refl) (sym (k refl))
back_at a b x false false e f h k = rw (e, f) refl

back : (a b x : ℕ) → exchanged a b (exchanged a b x) ≡ x
back a b x = back_at a b x (eqb x a) (eqb x b) refl refl (eqb-true x a) (eqb-true x b)

-- what is no target stays
pub stays : (to from : List ℕ) (v : ℕ → ℕ) (x : ℕ) → is_among to x ≡ false → given to from v x ≡ v x
stays [] from v x e = refl
stays (t ∷ ts) [] v x e = refl
stays (t ∷ ts) (f ∷ fs) v x e = let o = either (eqb x t) (is_among ts x) e in rw o.0 (stays ts fs v x o.1)

-- what is a target depends on the values alone
alike_at : (b : Bool) (u w p q : ℕ) (c : Bool) → u ≡ w → (c ≡ true → p ≡ q) → (b || c) ≡ true → (if b then u else p) ≡ (if b then w else q)
alike_at true u w p q c e k h = e
alike_at false u w p q c e k h = k h

alike : (a b : ℕ) (to from : List ℕ) (v : ℕ → ℕ) (x : ℕ) → length to ≡ length from → is_among to x ≡ true → given to (map (exchanged a b) from) (λ y. v (exchanged a b y)) x ≡ given to from v x
alike a b [] from v x n h = absurd (cc)
alike a b (t ∷ ts) [] v x n h = absurd (omega arith)
alike a b (t ∷ ts) (f ∷ fs) v x n h =
    alike_at (eqb x t) (v (exchanged a b (exchanged a b f))) (v f) (given ts (map (exchanged a b) fs) (λ y. v (exchanged a b y)) x) (given ts fs v x) (is_among ts x) (ap v (back a b f)) (alike a b ts fs v x (omega arith)) h

-- by an exchange, the first value is in its place
swapped : (t s : ℕ) (ts fs : List ℕ) (v : ℕ → ℕ) (x : ℕ) → length ts ≡ length fs → is_among ts s ≡ true → is_among ts t ≡ false → (b c : Bool) → eqb x t ≡ b → (b ≡ true → x ≡ t) → is_among ts x ≡ c →
    given ts (map (exchanged t s) fs) (λ y. v (exchanged t s y)) x ≡ (if b then v s else given ts fs v x)
swapped t s ts fs v x n hs ht true c e h i =
    let at : x ≡ t = h refl in
    stays ts (map (exchanged t s) fs) _ x (ap (is_among ts) at ∙ ht) ∙ rw e refl
swapped t s ts fs v x n hs ht false true e h i = alike t s ts fs v x n i
swapped t s ts fs v x n hs ht false false e h i =
    let ne : x ≢ s = λ d. absurd (no_both (sym hs ∙ ap (is_among ts) (sym d) ∙ i)) in
    stays ts (map (exchanged t s) fs) _ x i ∙ rw (e, ne_eqb x s ne) (sym (stays ts fs v x i))

moved_last : (ms : List Move) (m : Move) (v : ℕ → ℕ) → moved (ms ++ (m ∷ [])) v ≡ moved_by m (moved ms v)
moved_last [] m v = refl
moved_last (n ∷ ms) m v = moved_last ms m (moved_by n v)

pub length_map : (f : ℕ → ℕ) (xs : List ℕ) → length (map f xs) ≡ length xs
length_map f [] = refl
length_map f (x ∷ xs) = let e = length_map f xs in omega arith

one_step : (t f : ℕ) (ts fs : List ℕ) (v : ℕ → ℕ) (x : ℕ) (b : Bool) → is_among ts f ≡ b → is_among ts t ≡ false → length ts ≡ length fs → ((gs : List ℕ) (u : ℕ → ℕ) (z : ℕ) → length ts ≡ length gs → moved (moves ts gs) u z ≡ given ts gs u z) →
    moved (if b then Swap t f ∷ moves ts (map (exchanged t f) fs) else moves ts fs ++ Copy t f ∷ []) v x ≡ given (t ∷ ts) (f ∷ fs) v x
one_step t f ts fs v x true e d n ih =
    ih (map (exchanged t f) fs) (λ y. v (exchanged t f y)) x (n ∙ sym (length_map (exchanged t f) fs)) ∙ swapped t f ts fs v x n e d (eqb x t) (is_among ts x) refl (eqb-true x t) refl
one_step t f ts fs v x false e d n ih =
    ap (λ g. g x) (moved_last (moves ts fs) (Copy t f) v) ∙ rw (ih fs v f n, ih fs v x n, stays ts fs v f e) refl

pub at_once : (to from : List ℕ) → Differ to → length to ≡ length from → (v : ℕ → ℕ) (x : ℕ) → moved (moves to from) v x ≡ given to from v x
at_once [] from d n v x = refl
at_once (t ∷ ts) [] d n v x = refl
at_once (t ∷ ts) (f ∷ fs) d n v x = one_step t f ts fs v x (is_among ts f) refl d.0 (omega arith) (λ gs u z e. at_once ts gs d.1 e u z)

-- how many moves there are
count_at : (t f : ℕ) (ts fs : List ℕ) (b : Bool) → ((gs : List ℕ) → length (moves ts gs) ≤ length gs) → length (if b then Swap t f ∷ moves ts (map (exchanged t f) fs) else moves ts fs ++ Copy t f ∷ []) ≤ suc (length fs)
count_at t f ts fs true ih = let e = length_map (exchanged t f) fs in let c = ih (map (exchanged t f) fs) in omega arith
count_at t f ts fs false ih = let e = length-append (moves ts fs) (Copy t f ∷ []) in let c = ih fs in omega arith

pub count : (to from : List ℕ) → length (moves to from) ≤ length from
count [] from = omega arith
count (t ∷ ts) [] = omega arith
count (t ∷ ts) (f ∷ fs) = count_at t f ts fs (is_among ts f) (λ gs. count ts gs)

-- what moves name
module _ (P : ℕ → Type 0) where
  abbrev pub Names : List Move → Type 0
  Names [] = Unit {0}
  Names (Copy t f ∷ ms) = P t × P f × Names ms
  Names (Swap t f ∷ ms) = P t × P f × Names ms

  named_last : (ms : List Move) (t f : ℕ) → Names ms → P t → P f → Names (ms ++ Copy t f ∷ [])
  named_last [] t f h p q = (p, q, tt)
  named_last (Copy a b ∷ ms) t f h p q = (h.0, h.1, named_last ms t f h.2 p q)
  named_last (Swap a b ∷ ms) t f h p q = (h.0, h.1, named_last ms t f h.2 p q)

  exchanged_named : (a b x : ℕ) (c d : Bool) → P a → P b → P x → P (if c then b else if d then a else x)
  exchanged_named a b x true d p q r = q
  exchanged_named a b x false true p q r = p
  exchanged_named a b x false false p q r = r

  all_exchanged : (a b : ℕ) (xs : List ℕ) → P a → P b → Each P xs → Each P (map (exchanged a b) xs)
  all_exchanged a b [] p q h = tt
  all_exchanged a b (x ∷ xs) p q h = (exchanged_named a b x (eqb x a) (eqb x b) p q h.0, all_exchanged a b xs p q h.1)

  named_at : (t f : ℕ) (ts fs : List ℕ) (b : Bool) → P t → P f → Each P fs → ((gs : List ℕ) → Each P gs → Names (moves ts gs)) → Names (if b then Swap t f ∷ moves ts (map (exchanged t f) fs) else moves ts fs ++ Copy t f ∷ [])
  named_at t f ts fs true p q h ih = (p, q, ih (map (exchanged t f) fs) (all_exchanged t f fs p q h))
  named_at t f ts fs false p q h ih = named_last (moves ts fs) t f (ih fs h) p q

  pub named : (to from : List ℕ) → Each P to → Each P from → Names (moves to from)
  named [] from h k = tt
  named (t ∷ ts) [] h k = tt
  named (t ∷ ts) (f ∷ fs) h k = named_at t f ts fs (is_among ts f) h.0 k.0 k.1 (λ gs e. named ts gs h.1 e)

-- where words are bound, the values that are handed on are there
pub listed_parts : (o : Option ℕ) (p : Option (List ℕ)) (ws : List ℕ) → listed o p ≡ Some ws → (w : ℕ) × (vs : List ℕ) × (o ≡ Some w) × (p ≡ Some vs) × (ws ≡ w ∷ vs)
listed_parts None p ws e = absurd (cc)
listed_parts (Some w) None ws e = absurd (cc)
listed_parts (Some w) (Some vs) ws e = (w, vs, refl, refl, (let d : w ∷ vs ≡ ws = cc in sym d))

pub record Handed (to from : List ℕ) (v : ℕ → ℕ) (e : Env) (x w : ℕ) : Type 0 where
  pub is : ((is_among to x ≡ true) × (given to from v x ≡ w)) ⊎ ((is_among to x ≡ false) × (e x ≡ Some w))

handed_step : (t f : ℕ) (ts fs : List ℕ) (v : ℕ → ℕ) (e : Env) (x w w0 : ℕ) (b : Bool) → eqb x t ≡ b → (b ≡ true → x ≡ t) → is_among ts t ≡ false → v f ≡ w0 →
    ((is_among ts x ≡ true) × (given ts fs v x ≡ w)) ⊎ ((is_among ts x ≡ false) × ((if b then Some w0 else e x) ≡ Some w)) → Handed (t ∷ ts) (f ∷ fs) v e x w
handed_step t f ts fs v e x w w0 true q same d vf (inl p) = absurd (no_both (sym p.0 ∙ ap (is_among ts) (same refl) ∙ d))
handed_step t f ts fs v e x w w0 true q same d vf (inr p) = let h = p.1 in let a : w0 ≡ w = cc in record { is = inl (rw q refl, rw q (vf ∙ a)) }
handed_step t f ts fs v e x w w0 false q same d vf (inl p) = record { is = inl (rw q p.0, rw q p.1) }
handed_step t f ts fs v e x w w0 false q same d vf (inr p) = record { is = inr (rw q p.0, p.1) }

pub handed : (env : Env) (v : ℕ → ℕ) → ((x w : ℕ) → env x ≡ Some w → v x ≡ w) → (to from ws : List ℕ) → words_of env from ≡ Some ws → (e after : Env) → bound to ws e ≡ Some after → Differ to → (x w : ℕ) → after x ≡ Some w → Handed to from v e x w
handed env v agree [] from [] ew e after b d x w q = let same : e ≡ after = cc in record { is = inr (refl, ap (λ h. h x) same ∙ q) }
handed env v agree [] from (w0 ∷ ws) ew e after b d x w q = absurd (cc)
handed env v agree (t ∷ ts) from [] ew e after b d x w q = absurd (cc)
handed env v agree (t ∷ ts) [] (w0 ∷ ws) ew e after b d x w q = absurd (cc)
handed env v agree (t ∷ ts) (f ∷ fs) (w0 ∷ ws) ew e after b d x w q =
    let p = listed_parts (env f) (words_of env fs) (w0 ∷ ws) ew in
    let pp = p.4 in
    let a : w0 ≡ p.0 = cc in
    let c : p.1 ≡ ws = cc in
    let r = handed env v agree ts fs ws (p.3 ∙ ap Some c) (with_value e t w0) after b d.1 x w q in
    handed_step t f ts fs v e x w w0 (eqb x t) refl (eqb-true x t) d.0 (agree f w0 (p.2 ∙ ap Some (sym a))) r.is

-- as many values take words as there are
pub as_many : (env : Env) (to from ws : List ℕ) (e after : Env) → words_of env from ≡ Some ws → bound to ws e ≡ Some after → length to ≡ length from
as_many env [] [] ws e after ew b = refl
as_many env [] (f ∷ fs) ws e after ew b = let p = listed_parts (env f) (words_of env fs) ws ew in absurd (none (p.0) (p.1) e after (subst (λ n. bound [] n e ≡ Some after) p.4 b))
  where
    none : (w : ℕ) (ws : List ℕ) (e after : Env) → bound [] (w ∷ ws) e ≡ Some after → ⊥
    none w ws e after b = cc
as_many env (t ∷ ts) [] ws e after ew b = absurd (none t ts ws e after (let s : [] ≡ ws = cc in s) b)
  where
    none : (t : ℕ) (ts ws : List ℕ) (e after : Env) → [] ≡ ws → bound (t ∷ ts) ws e ≡ Some after → ⊥
    none t ts [] e after s b = cc
    none t ts (w ∷ ws) e after s b = cc
as_many env (t ∷ ts) (f ∷ fs) ws e after ew b =
    let p = listed_parts (env f) (words_of env fs) ws ew in
    let r = as_many env ts fs p.1 (with_value e t p.0) after p.3 (subst (λ n. bound (t ∷ ts) n e ≡ Some after) p.4 b) in
    ap suc r
