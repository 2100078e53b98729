-- The words of the interpreter that touch no store: from related stores they have the same end.
use Rattle.std.proofs.Common.{ℕ, ◌+◌, zero, suc, ◌≤◌, Bool, true, false, List, [], ◌∷◌, length, Option, Some, None, arith}
use Rattle.std.specs.Prelude.{ℤ, unsigned_abs}
use Rattle.tu_base.specs.Trace.{Trace}
use Rattle.tu_base.specs.declared.kind.Kind.{Kind}
use Rattle.tu_base.specs.declared.kind.Kind.TheVariants as kind
use Rattle.tu_base.specs.declared.operator.Unary.{Unary}
use Rattle.tu_base.specs.declared.shape.Span.{Span}
use Rattle.tu_base.specs.declared.shape.Shape.{Shape}
use Rattle.tu_base.specs.declared.shape.Shape.TheVariants.{Scalar as scalar_shape, Text as text_shape, Set as set_shape, Pointer as pointer_shape, Array as array_shape, Record as record_shape, Union as union_shape}
use Rattle.tu_base.specs.declared.shape.Variant.{Variant}
use Rattle.tu_base.specs.Scalars.{Answer, Gives, Raises, unary}
use Rattle.tu_base.specs.Reading.{Source, Reading}
use Rattle.tu_base.specs.Streams.{Outside, put_stream}
use Rattle.tu_meaning.specs.Steps.{Step, World, give, raise, ◌>>=◌}
use Rattle.tu_meaning.specs.Words.{answered, present, found, demand, unless_raised, truth, prefixed, unless_decided, subscribed, indexes_of, union_of, span_of, bound_in, ask, outside, living, or_no_room, make_element, remove_element, keep_file, put, put_part, end_line, width_of, is_source, source_there, Read, take_text, read_from, Flow, Next, Exits, Returns, GivesBack, and_then, unless_left, rounds, next, rounds_over}
use Rattle.tu_meaning.proofs.Alike.{Sim, sim_bind, sim_give, sim_raise, sim_lost, sim_note, sim_consult, sim_pay, sim_happen, sim_if, sim_less, sim_stop, sim_cut, sim_turn}

abbrev pub Any : {A : Type 0} → A → Type 0
Any a = Unit {0}

module _ (S S' : Type 0) (turns turns' : ℕ) (R : S → S' → Type 0) where
  abbrev pub Sims : (n : ℕ) (A : Type 0) → Step S A → Step S' A → Type 0
  Sims n A m m' = Sim S S' turns turns' R n R R A Any m m'

module _ {S S' : Type 0} {turns turns' : ℕ} {R : S → S' → Type 0} {n : ℕ} where
  infixr 10 ◌▹◌
  -- one step, and then the one that its value chooses
  pub ◌▹◌ : {A B : Type 0} {m : Step S A} {m' : Step S' A} {f : A → Step S B} {f' : A → Step S' B} → Sims S S' turns turns' R n A m m' → ((a : A) → Sims S S' turns turns' R n B (f a) (f' a)) → Sims S S' turns turns' R n B (m >>= f) (m' >>= f')
  h ▹ each = sim_bind h λ a _. each a

  pub gives : {A : Type 0} (a : A) → Sims S S' turns turns' R n A (give a) (give a)
  gives a = sim_give a tt

  pub raises : {A : Type 0} (exception : Kind) (line : ℕ) → Sims S S' turns turns' R n A (raise exception line) (raise exception line)
  raises exception line = sim_raise exception line (λ s r rel. rel)

module _ {S S' : Type 0} {turns turns' : ℕ} {R : S → S' → Type 0} {n : ℕ} where
  pub sim_answered : {A : Type 0} (line : ℕ) (answer : Answer A) → Sims S S' turns turns' R n A (answered line answer) (answered line answer)
  sim_answered line (Gives a units) = sim_pay units ▹ λ _. gives a
  sim_answered line (Raises exception units) = sim_pay units ▹ λ _. raises exception line

  pub sim_present : {A : Type 0} (line : ℕ) (a : Option A) → Sims S S' turns turns' R n A (present line a) (present line a)
  sim_present line None = raises kind.Unset line
  sim_present line (Some a) = gives a

  pub sim_found : {A : Type 0} (a : Option A) → Sims S S' turns turns' R n A (found a) (found a)
  sim_found None = sim_lost
  sim_found (Some a) = gives a

  pub sim_demand : (exception : Kind) (line : ℕ) (holds : Bool) → Sims S S' turns turns' R n (Unit {0}) (demand exception line holds) (demand exception line holds)
  sim_demand exception line holds = sim_if holds (λ _. gives tt) (λ _. raises exception line)

  pub sim_unless_raised : (line : ℕ) (exception : Option Kind) → Sims S S' turns turns' R n (Unit {0}) (unless_raised line exception) (unless_raised line exception)
  sim_unless_raised line None = gives tt
  sim_unless_raised line (Some exception) = raises exception line

  pub sim_truth : (b : Bool) → Sims S S' turns turns' R n ℤ (truth b) (truth b)
  sim_truth b = gives _

  pub sim_prefixed : (line : ℕ) (operators : List Unary) (z : ℤ) → Sims S S' turns turns' R n ℤ (prefixed line operators z) (prefixed line operators z)
  sim_prefixed line [] z = gives z
  sim_prefixed line (operator ∷ more) z = sim_prefixed line more z ▹ λ x. sim_answered line (unary operator x)

  pub sim_unless_decided : (left : Option Bool) (m : Step S ℤ) (m' : Step S' ℤ) → Sims S S' turns turns' R n ℤ m m' → Sims S S' turns turns' R n ℤ (unless_decided left m) (unless_decided left m')
  sim_unless_decided None m m' h = h
  sim_unless_decided (Some b) m m' h = sim_truth b

  pub sim_subscribed : (line : ℕ) (spans : List Span) (xs : List ℤ) → Sims S S' turns turns' R n ℕ (subscribed line spans xs) (subscribed line spans xs)
  sim_subscribed line spans xs = sim_demand kind.Subscript line _ ▹ λ _. gives _

  pub sim_indexes_of : (s : Shape) → Sims S S' turns turns' R n (List Span) (indexes_of s) (indexes_of s)
  sim_indexes_of (scalar_shape s) = sim_lost
  sim_indexes_of (text_shape most) = sim_lost
  sim_indexes_of (set_shape low members) = sim_lost
  sim_indexes_of (pointer_shape c) = sim_lost
  sim_indexes_of (array_shape indexes component) = gives indexes
  sim_indexes_of (record_shape fields) = sim_lost
  sim_indexes_of (union_shape tag variants) = sim_lost

  pub sim_union_of : (s : Shape) → Sims S S' turns turns' R n (ℕ × List Variant) (union_of s) (union_of s)
  sim_union_of (scalar_shape s) = sim_lost
  sim_union_of (text_shape most) = sim_lost
  sim_union_of (set_shape low members) = sim_lost
  sim_union_of (pointer_shape c) = sim_lost
  sim_union_of (array_shape indexes component) = sim_lost
  sim_union_of (record_shape fields) = sim_lost
  sim_union_of (union_shape tag variants) = gives (tag, variants)

  pub sim_span_of : (s : Shape) → Sims S S' turns turns' R n Span (span_of s) (span_of s)
  sim_span_of (scalar_shape s) = gives s
  sim_span_of (text_shape most) = sim_lost
  sim_span_of (set_shape low members) = sim_lost
  sim_span_of (pointer_shape c) = sim_lost
  sim_span_of (array_shape indexes component) = sim_lost
  sim_span_of (record_shape fields) = sim_lost
  sim_span_of (union_shape tag variants) = sim_lost

  pub sim_bound_in : (line : ℕ) (is_upper : Bool) (spans : List Span) (d : ℤ) → Sims S S' turns turns' R n ℤ (bound_in line is_upper spans d) (bound_in line is_upper spans d)
  sim_bound_in line is_upper spans d = sim_demand kind.Subscript line _ ▹ λ _. gives _

  pub sim_ask : {A : Type 0} (f : World → A) → Sims S S' turns turns' R n A (ask f) (ask f)
  sim_ask f = sim_consult _

  pub sim_outside : {A : Type 0} (f : Outside → A × Outside) → Sims S S' turns turns' R n A (outside f) (outside f)
  sim_outside f = sim_consult _

  pub sim_living : (line c k : ℕ) → Sims S S' turns turns' R n (Unit {0}) (living line c k) (living line c k)
  sim_living line c k = sim_ask _ ▹ λ lives. sim_demand kind.Pointer line lives

  sim_or_no_room : (line : ℕ) (made : Option ℕ) → Sims S S' turns turns' R n ℕ (or_no_room line made) (or_no_room line made)
  sim_or_no_room line (Some k) = gives k
  sim_or_no_room line None = sim_note _ ▹ λ _. raises kind.Storage line

  pub sim_make_element : (line c words : ℕ) → Sims S S' turns turns' R n ℕ (make_element line c words) (make_element line c words)
  sim_make_element line c words = sim_consult _ ▹ λ made. sim_or_no_room line made ▹ λ k. sim_pay words ▹ λ _. gives k

  pub sim_remove_element : (c k : ℕ) → Sims S S' turns turns' R n (Unit {0}) (remove_element c k) (remove_element c k)
  sim_remove_element c k = sim_consult _

  pub sim_keep_file : (line : ℕ) (kept : Option Trace) → Sims S S' turns turns' R n (Unit {0}) (keep_file line kept) (keep_file line kept)
  sim_keep_file line None = raises kind.Stream line
  sim_keep_file line (Some kept) = sim_happen kept

  pub sim_put : (line : ℕ) (stream : Option ℤ) (units : ℕ) (bytes : List ℕ) → Sims S S' turns turns' R n (Unit {0}) (put line stream units bytes) (put line stream units bytes)
  sim_put line None units bytes = sim_pay (units + length bytes) ▹ λ _. sim_happen _
  sim_put line (Some k) units bytes = sim_outside (put_stream k bytes) ▹ λ is_put. sim_demand kind.Stream line is_put ▹ λ _. sim_pay (units + length bytes)

  pub sim_put_part : (line : ℕ) (stream : Option ℤ) (text : Answer (List ℕ)) → Sims S S' turns turns' R n (Unit {0}) (put_part line stream text) (put_part line stream text)
  sim_put_part line stream (Gives bytes units) = sim_put line stream units bytes
  sim_put_part line stream (Raises exception units) = sim_pay units ▹ λ _. raises exception line

  pub sim_end_line : (line : ℕ) (stream : Option ℤ) (ends : Bool) → Sims S S' turns turns' R n (Unit {0}) (end_line line stream ends) (end_line line stream ends)
  sim_end_line line stream true = sim_put line stream 0 _
  sim_end_line line stream false = gives tt

  pub sim_width_of : (line : ℕ) (z : ℤ) → Sims S S' turns turns' R n ℕ (width_of line z) (width_of line z)
  sim_width_of line z = sim_demand kind.Range line _ ▹ λ _. gives (unsigned_abs z)

  pub sim_source_there : (line : ℕ) (stream : Option ℤ) → Sims S S' turns turns' R n (Unit {0}) (source_there line stream) (source_there line stream)
  sim_source_there line stream = sim_ask (is_source stream) ▹ λ can_read. sim_demand kind.Stream line can_read

  pub sim_take_text : (line : ℕ) (stream : Option ℤ) (f : Source → Reading) → Sims S S' turns turns' R n Read (take_text line stream f) (take_text line stream f)
  sim_take_text line stream f = sim_outside (read_from stream f) ▹ λ r. sim_happen r.shows ▹ λ _. sim_pay r.reading.taken ▹ λ _. sim_unless_raised line r.reading.exception ▹ λ _. gives r

  pub sim_and_then : (flow : Flow) (m : Step S Flow) (m' : Step S' Flow) → Sims S S' turns turns' R n Flow m m' → Sims S S' turns turns' R n Flow (and_then flow m) (and_then flow m')
  sim_and_then Next m m' h = h
  sim_and_then Exits m m' h = gives Exits
  sim_and_then Returns m m' h = gives Returns
  sim_and_then (GivesBack b) m m' h = gives (GivesBack b)

  pub sim_unless_left : (flow : Flow) (m : Step S Flow) (m' : Step S' Flow) → Sims S S' turns turns' R n Flow m m' → Sims S S' turns turns' R n Flow (unless_left flow m) (unless_left flow m')
  sim_unless_left Next m m' h = h
  sim_unless_left Exits m m' h = gives Next
  sim_unless_left Returns m m' h = gives Returns
  sim_unless_left (GivesBack b) m m' h = gives (GivesBack b)

-- loops with more rounds
module _ {S S' : Type 0} {turns turns' : ℕ} {R : S → S' → Type 0} (more : turns ≤ turns') where
  pub sim_rounds : (j n n' : ℕ) → n ≤ n' → (m : Step S Flow) (m' : Step S' Flow) → Sims S S' turns turns' R n Flow m m' → Sims S S' turns turns' R n Flow (rounds turns j n m) (rounds turns' j n' m')
  sim_rounds j zero zero le m m' h = sim_stop
  sim_rounds j zero (suc n') le m m' h = sim_cut _ more
  sim_rounds j (suc n) zero le m m' h = absurd (omega (arith, le))
  sim_rounds j (suc n) (suc n') le m m' h = sim_turn more λ _. sim_pay j ▹ λ _. sim_less (omega arith) h ▹ λ flow. sim_unless_left flow _ _ (sim_rounds j n n' (omega (arith, le)) m m' (sim_less (omega arith) h))

  pub sim_rounds_over : (j : ℕ) (decreasing : Bool) (n n' count : ℕ) (z : ℤ) → n ≤ n' → (m : ℤ → Step S Flow) (m' : ℤ → Step S' Flow) → ((x : ℤ) → Sims S S' turns turns' R n Flow (m x) (m' x)) → Sims S S' turns turns' R n Flow (rounds_over turns j decreasing m n count z) (rounds_over turns' j decreasing m' n' count z)
  sim_rounds_over j decreasing zero zero zero z le m m' h = gives Next
  sim_rounds_over j decreasing zero zero (suc count) z le m m' h = sim_stop
  sim_rounds_over j decreasing zero (suc n') zero z le m m' h = gives Next
  sim_rounds_over j decreasing zero (suc n') (suc count) z le m m' h = sim_cut _ more
  sim_rounds_over j decreasing (suc n) zero count z le m m' h = absurd (omega (arith, le))
  sim_rounds_over j decreasing (suc n) (suc n') zero z le m m' h = gives Next
  sim_rounds_over j decreasing (suc n) (suc n') (suc count) z le m m' h = sim_turn more λ _. sim_pay j ▹ λ _. sim_less (omega arith) (h z) ▹ λ flow. sim_unless_left flow _ _ (sim_rounds_over j decreasing n n' count (next decreasing z) (omega (arith, le)) m m' (λ x. sim_less (omega arith) (h x)))
