-- Steps to which a rule applies: one predicate, and one lemma for each word that a program is made of.
use Rattle.std.proofs.Common.{ℕ, zero, suc, ◌+◌, Bool, true, false, List, [], ◌∷◌, length, Option, Some, None, nat_lt, nat_le, if◌then◌else◌}
use Rattle.std.specs.Prelude.{ℤ, unsigned_abs}
use Rattle.tu_base.specs.Trace.{Trace}
use Rattle.tu_base.specs.declared.kind.Kind.{Kind}
use Rattle.tu_base.specs.declared.kind.Kind.TheVariants as kind
use Rattle.tu_base.specs.declared.operator.Unary.{Unary}
use Rattle.tu_base.specs.declared.shape.Span.{Span}
use Rattle.tu_base.specs.Scalars.{Answer, Gives, Raises, unary}
use Rattle.tu_base.specs.Reading.{Source, Reading}
use Rattle.tu_base.specs.Streams.{Outside, put_stream}
use Rattle.tu_meaning.specs.Steps.{Note, Added, nothing, one_unit, limit_passed, World, State, Outcome, Done, Raised, Going, NoRule, Step, after, turned, closing, taken, give, raise, stop, look, change, consult, pay, happen, note, turn, take_room, most_rooms, scope, handled, ◌>>=◌}
use Rattle.tu_meaning.specs.Words.{answered, present, demand, unless_raised, truth, prefixed, unless_decided, subscribed, bound_in, ask, outside, living, or_no_room, make_element, remove_element, keep_file, put, put_part, end_line, width_of, is_source, source_there, Read, take_text, read_from, Flow, Next, Exits, Returns, GivesBack, and_then, unless_left, rounds, next, rounds_over}
use Rattle.tu_meaning.proofs.WordForms.{Any}

-- a value of which Q holds, or an exception, or no turn is left
abbrev pub Fine : {S A : Type 0} → (Q : A → Type 0) → Outcome S A → Type 0
Fine Q (Done a s) = Q a
Fine Q (Raised kind line s) = Unit {0}
Fine Q (Going s) = Unit {0}
Fine Q (NoRule s) = ⊥

-- From each state a rule applies, and Q holds of the value.
pub record Finds (S A : Type 0) (Q : A → Type 0) (m : Step S A) : Type 0 where
  pub by : (s : State S) → Fine Q (m s).1

module _ {S : Type 0} where
  pub finds_bind : {A B : Type 0} {Q : A → Type 0} {Z : B → Type 0} {m : Step S A} {f : A → Step S B} → Finds S A Q m → ((a : A) → Q a → Finds S B Z (f a)) → Finds S B Z (m >>= f)
  unfolding ◌>>=◌
  finds_bind {A} {B} {Q} {Z} {m} {f} h each = record { by = λ s. go (m s).0 (m s).1 (h.by s) }
    where
      go : (x : Added) (o : Outcome S A) → Fine Q o → Fine Z (after x o f).1
      go x (Done a s) q = (each a q).by s
      go x (Raised kind line s) q = tt
      go x (Going s) q = tt
      go x (NoRule s) q = absurd q

  infixr 10 ◌▹◌
  -- one step, and then the one that its value chooses
  pub ◌▹◌ : {A B : Type 0} {Z : B → Type 0} {m : Step S A} {f : A → Step S B} → Finds S A Any m → ((a : A) → Finds S B Z (f a)) → Finds S B Z (m >>= f)
  ◌▹◌ {A} {B} {Z} h each = finds_bind {Q = Any} {Z = Z} h λ a _. each a

  pub finds_give : {A : Type 0} {Q : A → Type 0} (a : A) → Q a → Finds S A Q (give a)
  unfolding give
  finds_give a q = record { by = λ s. q }

  pub gives : {A : Type 0} (a : A) → Finds S A Any (give a)
  gives a = finds_give {Q = Any} a tt

  pub raises : {A : Type 0} {Q : A → Type 0} (exception : Kind) (line : ℕ) → Finds S A Q (raise exception line)
  unfolding raise
  raises exception line = record { by = λ s. tt }

  pub stops : {A : Type 0} {Q : A → Type 0} → Finds S A Q stop
  unfolding stop
  stops = record { by = λ s. tt }

  pub finds_look : {A : Type 0} (f : S → A) → Finds S A Any (look f)
  unfolding look
  finds_look f = record { by = λ s. tt }

  pub finds_change : (f : S → S) → Finds S (Unit {0}) Any (change f)
  unfolding change
  finds_change f = record { by = λ s. tt }

  pub finds_consult : {A : Type 0} (f : World → A × World) → Finds S A Any (consult f)
  unfolding consult
  finds_consult f = record { by = λ s. tt }

  pub finds_pay : (units : ℕ) → Finds S (Unit {0}) Any (pay units)
  unfolding pay
  finds_pay units = record { by = λ s. tt }

  pub finds_happen : (actions : Trace) → Finds S (Unit {0}) Any (happen actions)
  unfolding happen
  finds_happen actions = record { by = λ s. tt }

  pub finds_note : (tells : Note) → Finds S (Unit {0}) Any (note tells)
  unfolding note
  finds_note tells = record { by = λ s. tt }

  pub finds_if : {A : Type 0} {Q : A → Type 0} {m k : Step S A} (b : Bool) → Finds S A Q m → Finds S A Q k → Finds S A Q (if b then m else k)
  finds_if true h g = h
  finds_if false h g = g

  pub finds_turn : (t : ℕ) → Finds S (Unit {0}) Any (turn t)
  unfolding turn
  finds_turn t = record { by = λ s. go (nat_lt s.counts.turns t) s }
    where
      result : Bool → State S → Added × Outcome S (Unit {0})
      result b s = if b then (one_unit, Done tt (record s { counts = turned s.counts })) else (nothing, Going s)

      go : (b : Bool) (s : State S) → Fine Any (result b s).1
      go true s = tt
      go false s = tt

  pub finds_room : (room line : ℕ) → Finds S (Unit {0}) Any (take_room room line)
  unfolding take_room
  finds_room room line = record { by = λ s. go (nat_le (s.counts.rooms + room) most_rooms) s }
    where
      result : Bool → State S → Added × Outcome S (Unit {0})
      result b s = if b then (nothing, Done tt (record s { counts = record s.counts { rooms = s.counts.rooms + room } })) else (limit_passed, Raised kind.Storage line s)

      go : (b : Bool) (s : State S) → Fine Any (result b s).1
      go true s = tt
      go false s = tt

  pub finds_scope : {A : Type 0} {Q : A → Type 0} {m : Step S A} (enter : S → S) (leave : S → S → S) → Finds S A Q m → Finds S A Q (scope enter leave m)
  unfolding scope
  finds_scope {A} {Q} {m} enter leave h = record { by = λ s. let i : State S = record s { store = enter s.store } in go s (m i).1 (h.by i) }
    where
      go : (opened : State S) (o : Outcome S A) → Fine Q o → Fine Q (closing leave opened o)
      go opened (Done a s) q = q
      go opened (Raised kind line s) q = tt
      go opened (Going s) q = tt
      go opened (NoRule s) q = absurd q

  pub finds_handled : {A : Type 0} {Q : A → Type 0} {m : Step S A} {g : Kind → ℕ → Step S A} → Finds S A Q m → ((kind : Kind) (line : ℕ) → Finds S A Q (g kind line)) → Finds S A Q (handled m g)
  unfolding handled
  finds_handled {A} {Q} {m} {g} h each = record { by = λ s. go (m s).0 (m s).1 (h.by s) }
    where
      go : (x : Added) (o : Outcome S A) → Fine Q o → Fine Q (taken x o g).1
      go x (Done a s) q = q
      go x (Raised kind line s) q = (each kind line).by s
      go x (Going s) q = tt
      go x (NoRule s) q = absurd q

module _ {S : Type 0} where
  pub finds_answered : {A : Type 0} (line : ℕ) (answer : Answer A) → Finds S A Any (answered line answer)
  finds_answered line (Gives a units) = finds_pay units ▹ λ _. gives a
  finds_answered line (Raises exception units) = finds_pay units ▹ λ _. raises exception line

  pub finds_present : {A : Type 0} (line : ℕ) (a : Option A) → Finds S A Any (present line a)
  finds_present line None = raises kind.Unset line
  finds_present line (Some a) = gives a

  pub finds_demand : (exception : Kind) (line : ℕ) (holds : Bool) → Finds S (Unit {0}) Any (demand exception line holds)
  finds_demand exception line holds = finds_if holds (gives tt) (raises exception line)

  pub finds_unless_raised : (line : ℕ) (exception : Option Kind) → Finds S (Unit {0}) Any (unless_raised line exception)
  finds_unless_raised line None = gives tt
  finds_unless_raised line (Some exception) = raises exception line

  pub finds_truth : (b : Bool) → Finds S ℤ Any (truth b)
  finds_truth b = gives _

  pub finds_prefixed : (line : ℕ) (operators : List Unary) (z : ℤ) → Finds S ℤ Any (prefixed line operators z)
  finds_prefixed line [] z = gives z
  finds_prefixed line (operator ∷ more) z = finds_prefixed line more z ▹ λ x. finds_answered line (unary operator x)

  pub finds_unless_decided : (left : Option Bool) (m : Step S ℤ) → Finds S ℤ Any m → Finds S ℤ Any (unless_decided left m)
  finds_unless_decided None m h = h
  finds_unless_decided (Some b) m h = finds_truth b

  pub finds_subscribed : (line : ℕ) (spans : List Span) (xs : List ℤ) → Finds S ℕ Any (subscribed line spans xs)
  finds_subscribed line spans xs = finds_demand kind.Subscript line _ ▹ λ _. gives _

  pub finds_bound_in : (line : ℕ) (is_upper : Bool) (spans : List Span) (d : ℤ) → Finds S ℤ Any (bound_in line is_upper spans d)
  finds_bound_in line is_upper spans d = finds_demand kind.Subscript line _ ▹ λ _. gives _

  pub finds_ask : {A : Type 0} (f : World → A) → Finds S A Any (ask f)
  finds_ask f = finds_consult _

  pub finds_outside : {A : Type 0} (f : Outside → A × Outside) → Finds S A Any (outside f)
  finds_outside f = finds_consult _

  pub finds_living : (line c k : ℕ) → Finds S (Unit {0}) Any (living line c k)
  finds_living line c k = finds_ask _ ▹ λ lives. finds_demand kind.Pointer line lives

  finds_or_no_room : (line : ℕ) (made : Option ℕ) → Finds S ℕ Any (or_no_room line made)
  finds_or_no_room line (Some k) = gives k
  finds_or_no_room line None = finds_note _ ▹ λ _. raises kind.Storage line

  pub finds_make_element : (line c words : ℕ) → Finds S ℕ Any (make_element line c words)
  finds_make_element line c words = finds_consult _ ▹ λ made. finds_or_no_room line made ▹ λ k. finds_pay words ▹ λ _. gives k

  pub finds_remove_element : (c k : ℕ) → Finds S (Unit {0}) Any (remove_element c k)
  finds_remove_element c k = finds_consult _

  pub finds_keep_file : (line : ℕ) (kept : Option Trace) → Finds S (Unit {0}) Any (keep_file line kept)
  finds_keep_file line None = raises kind.Stream line
  finds_keep_file line (Some kept) = finds_happen kept

  finds_put : (line : ℕ) (stream : Option ℤ) (units : ℕ) (bytes : List ℕ) → Finds S (Unit {0}) Any (put line stream units bytes)
  finds_put line None units bytes = finds_pay (units + length bytes) ▹ λ _. finds_happen _
  finds_put line (Some k) units bytes = finds_outside (put_stream k bytes) ▹ λ is_put. finds_demand kind.Stream line is_put ▹ λ _. finds_pay (units + length bytes)

  pub finds_put_part : (line : ℕ) (stream : Option ℤ) (text : Answer (List ℕ)) → Finds S (Unit {0}) Any (put_part line stream text)
  finds_put_part line stream (Gives bytes units) = finds_put line stream units bytes
  finds_put_part line stream (Raises exception units) = finds_pay units ▹ λ _. raises exception line

  pub finds_end_line : (line : ℕ) (stream : Option ℤ) (ends : Bool) → Finds S (Unit {0}) Any (end_line line stream ends)
  finds_end_line line stream true = finds_put line stream 0 _
  finds_end_line line stream false = gives tt

  pub finds_width_of : (line : ℕ) (z : ℤ) → Finds S ℕ Any (width_of line z)
  finds_width_of line z = finds_demand kind.Range line _ ▹ λ _. gives (unsigned_abs z)

  pub finds_source_there : (line : ℕ) (stream : Option ℤ) → Finds S (Unit {0}) Any (source_there line stream)
  finds_source_there line stream = finds_ask (is_source stream) ▹ λ can_read. finds_demand kind.Stream line can_read

  pub finds_take_text : (line : ℕ) (stream : Option ℤ) (f : Source → Reading) → Finds S Read Any (take_text line stream f)
  finds_take_text line stream f = finds_outside (read_from stream f) ▹ λ r. finds_happen r.shows ▹ λ _. finds_pay r.reading.taken ▹ λ _. finds_unless_raised line r.reading.exception ▹ λ _. gives r

  pub finds_and_then : (flow : Flow) (m : Step S Flow) → Finds S Flow Any m → Finds S Flow Any (and_then flow m)
  finds_and_then Next m h = h
  finds_and_then Exits m h = gives Exits
  finds_and_then Returns m h = gives Returns
  finds_and_then (GivesBack b) m h = gives (GivesBack b)

  finds_unless_left : (flow : Flow) (m : Step S Flow) → Finds S Flow Any m → Finds S Flow Any (unless_left flow m)
  finds_unless_left Next m h = h
  finds_unless_left Exits m h = gives Next
  finds_unless_left Returns m h = gives Returns
  finds_unless_left (GivesBack b) m h = gives (GivesBack b)

  pub finds_rounds : (t joins depth : ℕ) (m : Step S Flow) → Finds S Flow Any m → Finds S Flow Any (rounds t joins depth m)
  finds_rounds t joins zero m h = stops
  finds_rounds t joins (suc depth) m h = finds_turn t ▹ λ _. finds_pay joins ▹ λ _. h ▹ λ flow. finds_unless_left flow _ (finds_rounds t joins depth m h)

  pub finds_rounds_over : (t joins : ℕ) (decreasing : Bool) (m : ℤ → Step S Flow) → ((z : ℤ) → Finds S Flow Any (m z)) → (depth count : ℕ) (z : ℤ) → Finds S Flow Any (rounds_over t joins decreasing m depth count z)
  finds_rounds_over t joins decreasing m h depth zero z = gives Next
  finds_rounds_over t joins decreasing m h zero (suc count) z = stops
  finds_rounds_over t joins decreasing m h (suc depth) (suc count) z = finds_turn t ▹ λ _. finds_pay joins ▹ λ _. h z ▹ λ flow. finds_unless_left flow _ (finds_rounds_over t joins decreasing m h depth count (next decreasing z))
