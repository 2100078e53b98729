-- Words of the interpreter of whose value more is known, and changes of the relation that two runs keep.
use Rattle.std.proofs.Common.{◌≡◌, ℕ, Bool, true, List, [], ◌∷◌, ◌⊎◌, inl, inr, Option, Some, None, refl, sym, subst}
use Rattle.std.specs.Prelude.{ℤ}
use Rattle.tu_base.specs.declared.kind.Kind.{Kind}
use Rattle.tu_base.specs.declared.kind.Kind.TheVariants as kind
use Rattle.tu_base.specs.declared.operator.Unary.{Unary}
use Rattle.tu_base.specs.declared.shape.Span.{Span}
use Rattle.tu_base.specs.declared.shape.Shape.{Shape}
use Rattle.tu_base.specs.declared.shape.Shape.TheVariants.{Scalar as scalar_shape, Text as text_shape, Set as set_shape, Pointer as pointer_shape, Array as array_shape, Record as record_shape, Union as union_shape}
use Rattle.tu_base.specs.Scalars.{Answer, Gives, Raises, unary, truth_number}
use Rattle.tu_base.specs.Values.{Value, Unset, Number, scalar_in}
use Rattle.tu_core.specs.Constants.{answer_value, prefixed_value, unless_decided_value}
use Rattle.tu_meaning.specs.Steps.{Added, State, Outcome, Done, Raised, Going, NoRule, Step, give, scope, ◌>>=◌}
use Rattle.tu_meaning.specs.Words.{answered, present, found, demand, prefixed, unless_decided, subscribed, indexes_of, are_within, row_number}
use Rattle.tu_meaning.proofs.Alike.{Alike, Sim, sim_bind, sim_give, sim_raise, sim_lost, sim_if, sim_pay, with_store}
use Rattle.tu_alias_forms.proofs.Overlaps.{indexes_in}

-- a value that is known beforehand
abbrev pub IsValue : Option ℤ → ℤ → Type 0
IsValue None z = Unit {0}
IsValue (Some w) z = z ≡ w

-- what stands where a known value may be
abbrev pub IsUnsetOr : Value → ℤ → Type 0
IsUnsetOr v z = (v ≡ Unset) ⊎ (v ≡ Number z)

-- a relation that says less at an exception and at the end, and less of the value
less_alike : (S S' : Type 0) (t : ℕ) (Raise Raise' T T' : S → S' → Type 0) (A : Type 0) (Q Z : A → Type 0) → ((s : S) (r : S') → Raise s r → Raise' s r) → ((s : S) (r : S') → T s r → T' s r) → ((a : A) → Q a → Z a) → (u : ℕ) (x : Added) (o : Outcome S A) (r : Added × Outcome S' A) → Alike S S' t t Raise u T Q x o r → Alike S S' t t Raise' u T' Z x o r
less_alike S S' t Raise Raise' T T' A Q Z raise after value u x (Done a s) r h = (h.0, h.1, after s.store h.0 h.2, value a h.3, h.4, h.5)
less_alike S S' t Raise Raise' T T' A Q Z raise after value u x (Raised kind line s) r h = (h.0, h.1, raise s.store h.0 h.2, h.3, h.4)
less_alike S S' t Raise Raise' T T' A Q Z raise after value u x (Going s) r h = (record { longer = h.0.longer; reason = h.0.reason }, h.1)
less_alike S S' t Raise Raise' T T' A Q Z raise after value u x (NoRule s) r h = h

module _ {S S' : Type 0} {t : ℕ} {n : ℕ} where
  pub sim_less_known : {Raise Raise' R T T' : S → S' → Type 0} {A : Type 0} {Q Z : A → Type 0} {m : Step S A} {m' : Step S' A} → ((s : S) (r : S') → Raise s r → Raise' s r) → ((s : S) (r : S') → T s r → T' s r) → ((a : A) → Q a → Z a) → Sim S S' t t Raise n R T A Q m m' → Sim S S' t t Raise' n R T' A Z m m'
  sim_less_known {Raise} {Raise'} {R} {T} {T'} {A} {Q} {Z} {m} {m'} raise after value sim = record { by = λ s r le within rel. less_alike S S' t Raise Raise' T T' A Q Z raise after value s.counts.turns (m s).0 (m s).1 (m' (with_store s r)) (sim.by s r le within rel) }

  -- what holds of the stores as a step begins may be used
  pub sim_given : {P : Type 0} {Raise R T : S → S' → Type 0} {A : Type 0} {Q : A → Type 0} {m : Step S A} {m' : Step S' A} → ((s : S) (r : S') → R s r → P) → (P → Sim S S' t t Raise n R T A Q m m') → Sim S S' t t Raise n R T A Q m m'
  sim_given holds each = record { by = λ s r le within rel. (each (holds s.store r rel)).by s r le within rel }

  -- a step that is known once the stores are
  pub sim_at : {Raise R T : S → S' → Type 0} {A : Type 0} {Q : A → Type 0} {m : Step S A} {m' : Step S' A} → ((s : S) (r : S') → R s r → Sim S S' t t Raise n (λ z z'. (z ≡ s) × (z' ≡ r)) T A Q m m') → Sim S S' t t Raise n R T A Q m m'
  sim_at each = record { by = λ s r le within rel. (each s.store r rel).by s r le within (refl, refl) }

value_then : (operator : Unary) (known : Option ℤ) (x y : ℤ) → IsValue known x → IsValue (answer_value (unary operator x)) y → IsValue (elim known [ None ↦ None | Some w ↦ answer_value (unary operator w) ]) y
value_then operator None x y h g = tt
value_then operator (Some w) x y h g = subst (λ v. IsValue (answer_value (unary operator v)) y) h g

module _ (S S' : Type 0) (t : ℕ) (R : S → S' → Type 0) where
  abbrev pub Keeps : (n : ℕ) (A : Type 0) (Q : A → Type 0) → Step S A → Step S' A → Type 0
  Keeps n A Q m m' = Sim S S' t t R n R R A Q m m'

module _ {S S' : Type 0} {t : ℕ} {R : S → S' → Type 0} {n : ℕ} where
  infixr 10 ◌▹◌
  -- one step, and then the one that its value chooses
  pub ◌▹◌ : {A B : Type 0} {Q : A → Type 0} {Z : B → Type 0} {m : Step S A} {m' : Step S' A} {f : A → Step S B} {f' : A → Step S' B} → Keeps S S' t R n A Q m m' → ((a : A) → Keeps S S' t R n B Z (f a) (f' a)) → Keeps S S' t R n B Z (m >>= f) (m' >>= f')
  h ▹ each = sim_bind h λ a _. each a

  pub raises : {A : Type 0} {Q : A → Type 0} (exception : Kind) (line : ℕ) → Keeps S S' t R n A Q (Rattle.tu_meaning.specs.Steps.raise exception line) (Rattle.tu_meaning.specs.Steps.raise exception line)
  raises exception line = sim_raise exception line (λ s r rel. rel)

  pub weaker : {A : Type 0} {Q Z : A → Type 0} {m : Step S A} {m' : Step S' A} → ((a : A) → Q a → Z a) → Keeps S S' t R n A Q m m' → Keeps S S' t R n A Z m m'
  weaker value sim = sim_less_known (λ s r rel. rel) (λ s r rel. rel) value sim

  pub answers : (line : ℕ) (answer : Answer ℤ) → Keeps S S' t R n ℤ (IsValue (answer_value answer)) (answered line answer) (answered line answer)
  answers line (Gives a units) = sim_pay units ▹ λ _. sim_give a refl
  answers line (Raises exception units) = sim_pay units ▹ λ _. raises exception line

  pub finds : {A : Type 0} (o : Option A) → Keeps S S' t R n A (λ a. o ≡ Some a) (found o) (found o)
  finds None = sim_lost
  finds (Some a) = sim_give a refl

  pub demands : (exception : Kind) (line : ℕ) (holds : Bool) → Keeps S S' t R n (Unit {0}) (λ _. holds ≡ true) (demand exception line holds) (demand exception line holds)
  demands exception line holds = sim_if holds (λ so. sim_give tt so) (λ _. raises exception line)

  pub subscribes : (line : ℕ) (spans : List Span) (xs : List ℤ) → Keeps S S' t R n ℕ (λ k. (are_within spans xs ≡ true) × (k ≡ row_number spans xs)) (subscribed line spans xs) (subscribed line spans xs)
  subscribes line spans xs = sim_bind (demands kind.Subscript line (are_within spans xs)) λ _ so. sim_give (row_number spans xs) (so, refl)

  pub indexes : (s : Shape) → Keeps S S' t R n (List Span) (λ spans. spans ≡ indexes_in s) (indexes_of s) (indexes_of s)
  indexes (scalar_shape s) = sim_lost
  indexes (text_shape most) = sim_lost
  indexes (set_shape low members) = sim_lost
  indexes (pointer_shape c) = sim_lost
  indexes (array_shape spans component) = sim_give spans refl
  indexes (record_shape fields) = sim_lost
  indexes (union_shape tag variants) = sim_lost

  -- what stands where a known value may be
  pub presents_known : (line : ℕ) (v : Value) (z : ℤ) → IsUnsetOr v z → Keeps S S' t R n ℤ (λ x. x ≡ z) (present line (scalar_in v)) (present line (scalar_in v))
  presents_known line v z (inl e) = subst (λ y. Keeps S S' t R n ℤ (λ x. x ≡ z) (present line (scalar_in y)) (present line (scalar_in y))) (sym e) (raises kind.Unset line)
  presents_known line v z (inr e) = subst (λ y. Keeps S S' t R n ℤ (λ x. x ≡ z) (present line (scalar_in y)) (present line (scalar_in y))) (sym e) (sim_give z refl)

  pub prefixes : (line : ℕ) (operators : List Unary) (z : ℤ) (known : Option ℤ) → IsValue known z → Keeps S S' t R n ℤ (IsValue (prefixed_value operators known)) (prefixed line operators z) (prefixed line operators z)
  prefixes line [] z known h = sim_give z h
  prefixes line (operator ∷ more) z known h = sim_bind (prefixes line more z known h) λ x is. weaker (λ y g. value_then operator (prefixed_value more known) x y is g) (answers line (unary operator x))

  pub unless_decides : (left : Option Bool) (right : Option ℤ) (m : Step S ℤ) (m' : Step S' ℤ) → Keeps S S' t R n ℤ (IsValue right) m m' → Keeps S S' t R n ℤ (IsValue (unless_decided_value left right)) (unless_decided left m) (unless_decided left m')
  unless_decides None right m m' h = h
  unless_decides (Some b) right m m' h = sim_give (truth_number b) refl
