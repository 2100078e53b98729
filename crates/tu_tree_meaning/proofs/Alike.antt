-- Two runs side by side, over two stores and two numbers of turns: one relation, and one lemma for each word that a program is made of.
use Rattle.std.proofs.Common.{◌≡◌, ℕ, suc, ◌+◌, ◌<◌, ◌≤◌, Bool, true, false, [], ◌++◌, ◌⊎◌, inl, inr, refl, sym, ◌∙◌, ap, subst, arith, append_assoc, nat_lt, nat_le, if◌then◌else◌}
use Rattle.std.proofs.lemmas.List.{append-nil}
use Rattle.std.proofs.lemmas.Bool.Decides.{nat_tests}
use Rattle.tu_base.specs.Trace.{Trace}
use Rattle.tu_base.specs.declared.kind.Kind.{Kind}
use Rattle.tu_base.specs.declared.kind.Kind.TheVariants.{Storage}
use Rattle.tu_tree_meaning.specs.Steps.{Added, nothing, joined, State, Outcome, Done, Raised, Going, Step, adding, after, turned, closing, taken, give, raise, stop, look, change, pay, happen, turn, take_room, most_rooms, scope, handled, ◌>>=◌}

-- y is x, and what was added behind it
pub record Longer (x y : Added) : Type 0 where
  pub more : Trace
  pub trace : y.trace ≡ x.trace ++ more
  pub units : x.units ≤ y.units

pub longer_refl : (x : Added) → Longer x x
longer_refl x = record { more = []; trace = sym (append-nil x.trace); units = omega arith }

longer_nothing : (x : Added) → Longer nothing x
longer_nothing x = record { more = x.trace; trace = refl; units = omega arith }

longer_joined : (x y z : Added) → Longer x y → Longer x (joined y z)
longer_joined x y z h = record { more = h.more ++ z.trace; trace = ap (λ e. e ++ z.trace) h.trace ∙ append_assoc x.trace h.more z.trace; units = omega arith }

longer_under : (x y z : Added) → Longer y z → Longer (joined x y) (joined x z)
longer_under x y z h = record { more = h.more; trace = ap (λ e. x.trace ++ e) h.trace ∙ sym (append_assoc x.trace y.trace h.more); units = omega arith }

-- the same state with another store
abbrev pub with_store : {S S' : Type 0} → State S → S' → State S'
with_store s r = record { store = r; counts = s.counts; outside = s.outside }

abbrev pub IsOut : {S A : Type 0} → Outcome S A → Type 0
IsOut (Done a s) = ⊥
IsOut (Raised kind line s) = ⊥
IsOut (Going s) = Unit {0}

-- Within t turns on the left and t' on the right; Raise holds of the stores where an exception is raised.
module _ (S S' : Type 0) (t t' : ℕ) (Raise : S → S' → Type 0) where
  -- the left run is out of turns, with x added: so is the right one with the same, or it has more turns and only adds to this
  pub record Cut {A : Type 0} (x : Added) (r : Added × Outcome S' A) : Type 0 where
    pub longer : Longer x r.0
    pub reason : (t < t') ⊎ ((x ≡ r.0) × IsOut r.1)

  -- The left run from a state with u turns has the end o, with x added. The right one has the same end, but for the store: a value of which Q
  -- holds in stores that T relates, or an exception. Where the left one is out of turns, t turns have begun.
  abbrev pub Alike : {A : Type 0} → (u : ℕ) → (T : S → S' → Type 0) → (Q : A → Type 0) → Added → Outcome S A → Added × Outcome S' A → Type 0
  Alike u T Q x (Done a s) r = (store : S') × (r ≡ (x, Done a (with_store s store))) × T s.store store × Q a × (u ≤ s.counts.turns) × (s.counts.turns ≤ t)
  Alike u T Q x (Raised kind line s) r = (store : S') × (r ≡ (x, Raised kind line (with_store s store))) × Raise s.store store × (u ≤ s.counts.turns) × (s.counts.turns ≤ t)
  Alike u T Q x (Going s) r = Cut x r × (s.counts.turns ≡ t)

  -- from stores that R relates, m and m' have the same end, where m is as deep as the turns that are left
  pub record Sim (n : ℕ) (R T : S → S' → Type 0) (A : Type 0) (Q : A → Type 0) (m : Step S A) (m' : Step S' A) : Type 0 where
    pub by : (s : State S) (r : S') → t ≤ n + s.counts.turns → s.counts.turns ≤ t → R s.store r → Alike s.counts.turns T Q (m s).0 (m s).1 (m' (with_store s r))

  cut_adding : (A : Type 0) (x y : Added) (r : Added × Outcome S' A) → Cut y r → Cut (joined x y) (adding x r)
  cut_adding A x y r h = record { longer = longer_under x y r.0 h.longer; reason = elim h.reason [ inl w ↦ inl w | inr e ↦ inr (ap (λ z. joined x z) e.0, e.1) ] }

  -- what is added before, and turns that began before
  alike_adding : (T : S → S' → Type 0) (A : Type 0) (Q : A → Type 0) (u v : ℕ) (x y : Added) (o : Outcome S A) (r : Added × Outcome S' A) → u ≤ v → Alike v T Q y o r → Alike u T Q (joined x y) o (adding x r)
  alike_adding T A Q u v x y (Done a s) r le h = (h.0, ap (λ z. adding x z) h.1, h.2, h.3, omega (arith, h.4), h.5)
  alike_adding T A Q u v x y (Raised kind line s) r le h = (h.0, ap (λ z. adding x z) h.1, h.2, omega (arith, h.3), h.4)
  alike_adding T A Q u v x y (Going s) r le h = (cut_adding A x y r h.0, h.1)

  cut_after : (A B : Type 0) (x : Added) (r : Added × Outcome S' A) (f : A → Step S' B) → Cut x r → Cut x (after r.0 r.1 f)
  cut_after A B x r f h = by r.1 h.reason
    where
      longer : (o : Outcome S' A) → Longer x (after r.0 o f).0
      longer (Done a s) = longer_joined x r.0 (f a s).0 h.longer
      longer (Raised kind line s) = h.longer
      longer (Going s) = h.longer

      by : (o : Outcome S' A) → (t < t') ⊎ ((x ≡ r.0) × IsOut o) → Cut x (after r.0 o f)
      by o (inl w) = record { longer = longer o; reason = inl w }
      by (Done a s) (inr e) = absurd e.1
      by (Raised kind line s) (inr e) = absurd e.1
      by (Going s) (inr e) = record { longer = h.longer; reason = inr e }

  alike_after : (n : ℕ) (T U : S → S' → Type 0) (A B : Type 0) (Q : A → Type 0) (Z : B → Type 0) (u : ℕ) (x : Added) (o : Outcome S A) (r : Added × Outcome S' A) (f : A → Step S B) (f' : A → Step S' B) → t ≤ n + u → ((a : A) → Q a → Sim n T U B Z (f a) (f' a)) → Alike u T Q x o r → Alike u U Z (after x o f).0 (after x o f).1 (after r.0 r.1 f')
  alike_after n T U A B Q Z u x (Done a s) r f f' le each h =
      subst (λ z. Alike u U Z (joined x (f a s).0) (f a s).1 (after z.0 z.1 f')) (sym h.1)
      (alike_adding U B Z u s.counts.turns x (f a s).0 (f a s).1 (f' a (with_store s h.0)) h.4 ((each a h.3).by s h.0 (omega (arith, le, h.4)) h.5 h.2))
  alike_after n T U A B Q Z u x (Raised kind line s) r f f' le each h = (h.0, ap (λ z. after z.0 z.1 f') h.1, h.2, h.3, h.4)
  alike_after n T U A B Q Z u x (Going s) r f f' le each h = (cut_after A B x r f' h.0, h.1)

-- the words
module _ {S S' : Type 0} {t t' : ℕ} {Raise : S → S' → Type 0} {n : ℕ} where
  pub sim_bind : {R T U : S → S' → Type 0} {A B : Type 0} {Q : A → Type 0} {Z : B → Type 0} {m : Step S A} {m' : Step S' A} {f : A → Step S B} {f' : A → Step S' B} → Sim S S' t t' Raise n R T A Q m m' → ((a : A) → Q a → Sim S S' t t' Raise n T U B Z (f a) (f' a)) → Sim S S' t t' Raise n R U B Z (m >>= f) (m' >>= f')
  unfolding ◌>>=◌
  sim_bind {R} {T} {U} {A} {B} {Q} {Z} {m} {m'} {f} {f'} h each = record {
    by = λ s r le within rel. alike_after S S' t t' Raise n T U A B Q Z s.counts.turns (m s).0 (m s).1 (m' (with_store s r)) f f' le each (h.by s r le within rel);
  }

  pub sim_give : {R : S → S' → Type 0} {A : Type 0} {Q : A → Type 0} (a : A) → Q a → Sim S S' t t' Raise n R R A Q (give a) (give a)
  unfolding give
  sim_give a q = record { by = λ s r le within rel. (r, refl, rel, q, omega arith, within) }

  pub sim_raise : {R T : S → S' → Type 0} {A : Type 0} {Q : A → Type 0} (kind : Kind) (line : ℕ) → ((s : S) (r : S') → R s r → Raise s r) → Sim S S' t t' Raise n R T A Q (raise kind line) (raise kind line)
  unfolding raise
  sim_raise kind line h = record { by = λ s r le within rel. (r, refl, h s.store r rel, omega arith, within) }

  pub sim_look : {R : S → S' → Type 0} {A : Type 0} {Q : A → Type 0} (f : S → A) (f' : S' → A) → ((s : S) (r : S') → R s r → (f s ≡ f' r) × Q (f s)) → Sim S S' t t' Raise n R R A Q (look f) (look f')
  unfolding look
  sim_look f f' h = record { by = λ s r le within rel. let e = h s.store r rel in (r, ap (λ a. (nothing, Done a (with_store s r))) (sym e.0), rel, e.1, omega arith, within) }

  pub sim_change : {R T : S → S' → Type 0} (f : S → S) (f' : S' → S') → ((s : S) (r : S') → R s r → T (f s) (f' r)) → Sim S S' t t' Raise n R T (Unit {0}) (λ _. Unit {0}) (change f) (change f')
  unfolding change
  sim_change f f' h = record { by = λ s r le within rel. (f' r, refl, h s.store r rel, tt, omega arith, within) }

  pub sim_pay : {R : S → S' → Type 0} (units : ℕ) → Sim S S' t t' Raise n R R (Unit {0}) (λ _. Unit {0}) (pay units) (pay units)
  unfolding pay
  sim_pay units = record { by = λ s r le within rel. (r, refl, rel, tt, omega arith, within) }

  pub sim_happen : {R : S → S' → Type 0} (actions : Trace) → Sim S S' t t' Raise n R R (Unit {0}) (λ _. Unit {0}) (happen actions) (happen actions)
  unfolding happen
  sim_happen actions = record { by = λ s r le within rel. (r, refl, rel, tt, omega arith, within) }

  pub sim_if : {R T : S → S' → Type 0} {A : Type 0} {Q : A → Type 0} {m k : Step S A} {m' k' : Step S' A} (b : Bool) → (b ≡ true → Sim S S' t t' Raise n R T A Q m m') → (b ≡ false → Sim S S' t t' Raise n R T A Q k k') → Sim S S' t t' Raise n R T A Q (if b then m else k) (if b then m' else k')
  sim_if true h g = h refl
  sim_if false h g = g refl

  -- a relation that says more before
  pub sim_from : {R R' T : S → S' → Type 0} {A : Type 0} {Q : A → Type 0} {m : Step S A} {m' : Step S' A} → ((s : S) (r : S') → R' s r → R s r) → Sim S S' t t' Raise n R T A Q m m' → Sim S S' t t' Raise n R' T A Q m m'
  sim_from h sim = record { by = λ s r le within rel. sim.by s r le within (h s.store r rel) }

  pub sim_room : {R : S → S' → Type 0} (room line : ℕ) → ((s : S) (r : S') → R s r → Raise s r) → Sim S S' t t' Raise n R R (Unit {0}) (λ _. Unit {0}) (take_room room line) (take_room room line)
  unfolding take_room
  sim_room {R} room line h = record { by = λ s r le within rel. alike (nat_le (s.counts.rooms + room) most_rooms) s r within rel }
    where
      result : {S : Type 0} → Bool → State S → Added × Outcome S (Unit {0})
      result b s = if b then (nothing, Done tt (record s { counts = record s.counts { rooms = s.counts.rooms + room } })) else (nothing, Raised Storage line s)

      alike : (b : Bool) (s : State S) (r : S') → s.counts.turns ≤ t → R s.store r → Alike S S' t t' Raise s.counts.turns R (λ _. Unit {0}) (result b s).0 (result b s).1 (result b (with_store s r))
      alike true s r within rel = (r, refl, rel, tt, omega arith, within)
      alike false s r within rel = (r, refl, h s.store r rel, omega arith, within)

-- what is alike at a depth is so at a smaller one
pub sim_less : {S S' : Type 0} {t t' : ℕ} {Raise : S → S' → Type 0} {n n' : ℕ} {R T : S → S' → Type 0} {A : Type 0} {Q : A → Type 0} {m : Step S A} {m' : Step S' A} → n' ≤ n → Sim S S' t t' Raise n R T A Q m m' → Sim S S' t t' Raise n' R T A Q m m'
sim_less less sim = record { by = λ s r le within rel. sim.by s r (omega (arith, less, le)) within rel }

-- both are cut at their depth
pub sim_stop : {S S' : Type 0} {t t' : ℕ} {Raise : S → S' → Type 0} {R T : S → S' → Type 0} {A : Type 0} {Q : A → Type 0} → Sim S S' t t' Raise 0 R T A Q stop stop
unfolding stop
sim_stop = record { by = λ s r le within rel. (record { longer = longer_refl nothing; reason = inr (refl, tt) }, omega arith) }

-- a turn where b, and what follows it
begin_turn : {S : Type 0} → Bool → State S → Added × Outcome S (Unit {0})
begin_turn b s = if b then (record { trace = []; units = 1 }, Done tt (record s { counts = turned s.counts })) else (nothing, Going s)

abbrev begun : {S B : Type 0} → (Unit {0} → Step S B) → Bool → State S → Added × Outcome S B
begun f b s = after (begin_turn b s).0 (begin_turn b s).1 f

module _ {S S' : Type 0} {t t' : ℕ} {Raise : S → S' → Type 0} where
  out : {B : Type 0} (f' : Unit {0} → Step S' B) (s : State S') (b : Bool) → (b ≡ true → t < t') → Cut S S' t t' Raise nothing (begun f' b s)
  unfolding begin_turn
  out f' s true h = record { longer = longer_nothing (begun f' true s).0; reason = inl (h refl) }
  out f' s false h = record { longer = longer_refl nothing; reason = inr (refl, tt) }

  -- the left run is cut at its depth before a turn
  pub sim_cut : {R T : S → S' → Type 0} {B : Type 0} {Z : B → Type 0} (f' : Unit {0} → Step S' B) → t ≤ t' → Sim S S' t t' Raise 0 R T B Z stop (turn t' >>= f')
  unfolding stop ◌>>=◌ turn begin_turn
  sim_cut f' more = record { by = λ s r le within rel. (out f' (with_store s r) (nat_lt s.counts.turns t') (λ e. grind (arith, nat_tests)), omega arith) }

  pub sim_turn : {n : ℕ} {R U : S → S' → Type 0} {B : Type 0} {Z : B → Type 0} {f : Unit {0} → Step S B} {f' : Unit {0} → Step S' B} → t ≤ t' → ((a : Unit {0}) → Sim S S' t t' Raise n R U B Z (f a) (f' a)) → Sim S S' t t' Raise (suc n) R U B Z (turn t >>= f) (turn t' >>= f')
  unfolding ◌>>=◌ turn begin_turn
  sim_turn {n} {R} {U} {B} {Z} {f} {f'} more each = record {
    by = λ s r le within rel. alike (nat_lt s.counts.turns t) (nat_lt s.counts.turns t') s r (λ e. grind (arith, nat_tests)) (λ e. grind (arith, nat_tests)) (λ e. grind (arith, nat_tests)) (λ e. grind (arith, nat_tests)) le within rel;
  }
    where
      alike : (b b' : Bool) (s : State S) (r : S') → (b ≡ true → s.counts.turns < t) → (b ≡ false → t ≤ s.counts.turns) → (b' ≡ true → s.counts.turns < t') → (b' ≡ false → t' ≤ s.counts.turns) → t ≤ suc n + s.counts.turns → s.counts.turns ≤ t → R s.store r → Alike S S' t t' Raise s.counts.turns U Z (begun f b s).0 (begun f b s).1 (begun f' b' (with_store s r))
      alike true true s r under over under' over' le within rel =
          let s' : State S = record s { counts = turned s.counts } in
          let lt : s.counts.turns < t = under refl in
          alike_adding S S' t t' Raise U B Z s.counts.turns (s.counts.turns + 1) (record { trace = []; units = 1 }) (f tt s').0 (f tt s').1 (f' tt (with_store s' r)) (omega arith) ((each tt).by s' r (omega arith) (omega arith) rel)
      alike true false s r under over under' over' le within rel = absurd (let lt : s.counts.turns < t = under refl in let ge : t' ≤ s.counts.turns = over' refl in omega (arith, more, lt, ge))
      alike false b' s r under over under' over' le within rel =
          let ge : t ≤ s.counts.turns = over refl in
          (out f' (with_store s r) b' (λ e. let lt : s.counts.turns < t' = under' e in omega (arith, within, ge, lt)), omega (arith, within, ge))

-- a scope: m runs between opened stores, and what follows goes on from the closed ones
pub sim_scope : {S S' : Type 0} {t t' n : ℕ} {A : Type 0} {Outer Inner R T U V : S → S' → Type 0} {Q : A → Type 0} {m : Step S A} {m' : Step S' A} (enter : S → S) (leave : S → S → S) (enter' : S' → S') (leave' : S' → S' → S') → ((s : S) (r : S') → R s r → T (enter s) (enter' r)) → ((o s : S) (o' r : S') → R o o' → U s r → V (leave o s) (leave' o' r)) → ((o s : S) (o' r : S') → R o o' → Inner s r → Outer (leave o s) (leave' o' r)) → Sim S S' t t' Inner n T U A Q m m' → Sim S S' t t' Outer n R V A Q (scope enter leave m) (scope enter' leave' m')
unfolding scope
sim_scope {S} {S'} {t} {t'} {n} {A} {Outer} {Inner} {R} {T} {U} {V} {Q} {m} {m'} enter leave enter' leave' opens closes fails sim = record {
  by = λ s r le within rel.
      let i : State S = record s { store = enter s.store } in
      alike s r rel (m i).0 (m i).1 (m' (with_store i (enter' r))) (sim.by i (enter' r) le within (opens s.store r rel));
}
  where
    alike : (o : State S) (q : S') → R o.store q → (x : Added) (e : Outcome S A) (r : Added × Outcome S' A) → Alike S S' t t' Inner o.counts.turns U Q x e r → Alike S S' t t' Outer o.counts.turns V Q x (closing leave o e) (r.0, closing leave' (with_store o q) r.1)
    alike o q rel x (Done a s) r h = (leave' q h.0, ap (λ z. (z.0, closing leave' (with_store o q) z.1)) h.1, closes o.store s.store q h.0 rel h.2, h.3, h.4, h.5)
    alike o q rel x (Raised kind line s) r h = (leave' q h.0, ap (λ z. (z.0, closing leave' (with_store o q) z.1)) h.1, fails o.store s.store q h.0 rel h.2, h.3, h.4)
    alike o q rel x (Going s) r h = (by r.1 h.0.reason, h.1)
      where
        by : (e : Outcome S' A) → (t < t') ⊎ ((x ≡ r.0) × IsOut e) → Cut S S' t t' Outer x (r.0, closing leave' (with_store o q) e)
        by e (inl w) = record { longer = h.0.longer; reason = inl w }
        by (Done a s) (inr e) = absurd e.1
        by (Raised kind line s) (inr e) = absurd e.1
        by (Going s) (inr e) = record { longer = h.0.longer; reason = inr e }

-- an exception is taken: the handler begins in the stores where it was raised
pub sim_handled : {S S' : Type 0} {t t' n : ℕ} {A : Type 0} {Outer Inner R T : S → S' → Type 0} {Q : A → Type 0} {m : Step S A} {m' : Step S' A} {g : Kind → ℕ → Step S A} {g' : Kind → ℕ → Step S' A} → Sim S S' t t' Inner n R T A Q m m' → ((kind : Kind) (line : ℕ) → Sim S S' t t' Outer n Inner T A Q (g kind line) (g' kind line)) → Sim S S' t t' Outer n R T A Q (handled m g) (handled m' g')
unfolding handled
sim_handled {S} {S'} {t} {t'} {n} {A} {Outer} {Inner} {R} {T} {Q} {m} {m'} {g} {g'} sim each = record {
  by = λ s r le within rel. alike s.counts.turns le (m s).0 (m s).1 (m' (with_store s r)) (sim.by s r le within rel);
}
  where
    alike : (u : ℕ) → t ≤ n + u → (x : Added) (o : Outcome S A) (r : Added × Outcome S' A) → Alike S S' t t' Inner u T Q x o r → Alike S S' t t' Outer u T Q (taken x o g).0 (taken x o g).1 (taken r.0 r.1 g')
    alike u le x (Done a s) r h = (h.0, ap (λ z. taken z.0 z.1 g') h.1, h.2, h.3, h.4, h.5)
    alike u le x (Raised kind line s) r h =
        subst (λ z. Alike S S' t t' Outer u T Q (joined x (g kind line s).0) (g kind line s).1 (taken z.0 z.1 g')) (sym h.1)
        (alike_adding S S' t t' Outer T A Q u s.counts.turns x (g kind line s).0 (g kind line s).1 (g' kind line (with_store s h.0)) h.3 ((each kind line).by s h.0 (omega (arith, le, h.3)) h.4 h.2))
    alike u le x (Going s) r h = (by r.1 h.0.reason, h.1)
      where
        longer : (e : Outcome S' A) → Longer x (taken r.0 e g').0
        longer (Done a s) = h.0.longer
        longer (Raised kind line s) = longer_joined x r.0 (g' kind line s).0 h.0.longer
        longer (Going s) = h.0.longer

        by : (e : Outcome S' A) → (t < t') ⊎ ((x ≡ r.0) × IsOut e) → Cut S S' t t' Outer x (taken r.0 e g')
        by e (inl w) = record { longer = longer e; reason = inl w }
        by (Done a s) (inr e) = absurd e.1
        by (Raised kind line s) (inr e) = absurd e.1
        by (Going s) (inr e) = record { longer = h.0.longer; reason = inr e }
