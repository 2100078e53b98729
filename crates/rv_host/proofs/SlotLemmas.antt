-- The streams of a host as a list.
use Rattle.std.proofs.Common.{◌≡◌, ℕ, zero, suc, ◌+◌, ◌<◌, ◌≤◌, List, [], ◌∷◌, length, map, get_or, refl, arith, ap, sym, ◌∙◌, subst}
use Rattle.std.specs.Prelude.{slice_set, ◌⊎◌, ◌||◌, Result, Ok, Err, OnOk, OnErr}
use Rattle.std.specs.List.{list_any}
use Rattle.std.proofs.lemmas.List.{map-set, length-map}
use Rattle.rv_image.specs.Streams.{Stream, Free, is_named}
use Rattle.rv_host.specs.declared.stream.Stream.{Stream as Slot}
use Rattle.rv_host.specs.Slots.{shown, stream_at, placed}

at_length : (streams : List Stream) (i : ℕ) → length streams ≤ i → stream_at streams (suc i) ≡ Free
at_length [] i h = refl
at_length (s ∷ streams) zero h = absurd (omega arith)
at_length (s ∷ streams) (suc i) h = at_length streams i (omega arith)

at_map : (slots : List Slot) (i : ℕ) (s : Slot) → i < length slots → s ≡ get_or slots i s → stream_at (map shown slots) (suc i) ≡ shown s
at_map [] i s h is = absurd (omega arith)
at_map (t ∷ slots) zero s h is = ap shown (sym is)
at_map (t ∷ slots) (suc i) s h is = at_map slots i s (omega arith) is

-- the stream at a place that there is
at_slot : (slots : List Slot) (streams : List Stream) (i n : ℕ) (s : Slot) → map shown slots ≡ streams → i + 1 ≡ n → i < length slots → s ≡ get_or slots i s →
    stream_at streams n ≡ shown s
at_slot slots streams i zero s view place within is = absurd (omega arith)
at_slot slots streams i (suc n) s view place within is =
    let same : i ≡ n = omega arith in
    let P : ℕ → Type 0 = λ m. stream_at streams (suc m) ≡ shown s in
    subst P same (ap (λ l. stream_at l (suc i)) (sym view) ∙ at_map slots i s within is)

pub slot_at : (slots : List Slot) (streams : List Stream) (i n : ℕ) (s : Slot) → map shown slots ≡ streams → length slots ≡ 10 → (i + 1 ≡ n) × (i < 10) → s ≡ get_or slots i s →
    shown (get_or slots i s) ≡ stream_at streams n
slot_at slots streams i n s view ten place is =
    let within : i < length slots = omega (arith, ten, place.1) in
    ap shown (sym is) ∙ sym (at_slot slots streams i n s view place.0 within is)

-- there is none elsewhere
pub at_none : (slots : List Slot) (streams : List Stream) (n : ℕ) → map shown slots ≡ streams → length slots ≡ 10 → (n ≡ 0) ⊎ (10 < n) → stream_at streams n ≡ Free
at_none slots streams zero view ten none = refl
at_none slots streams (suc n) view ten none = at_length streams n (omega (arith, ap length view, length-map slots shown))

-- another stream in a place that there is
pub placed_slot : (slots : List Slot) (streams : List Stream) (i n : ℕ) (s : Slot) (x : Stream) → map shown slots ≡ streams → i + 1 ≡ n → shown s ≡ x →
    map shown (slice_set slots i s) ≡ placed streams n x
placed_slot slots streams i zero s x view place is = absurd (omega arith)
placed_slot slots streams i (suc n) s x view place is =
    let same : i ≡ n = omega arith in
    map-set shown slots i s ∙ ap (λ l. slice_set l i (shown s)) view ∙ ap (slice_set streams i) is ∙ ap (λ m. slice_set streams m x) same

set_at : (streams : List Stream) (i : ℕ) → slice_set streams i (stream_at streams (suc i)) ≡ streams
set_at [] i = refl
set_at (s ∷ streams) zero = refl
set_at (s ∷ streams) (suc i) = ap (λ l. s ∷ l) (set_at streams i)

-- a stream in its own place
pub placed_same : (streams : List Stream) (n : ℕ) (x : Stream) → x ≡ stream_at streams n → placed streams n x ≡ streams
placed_same streams zero x is = refl
placed_same streams (suc i) x is = ap (slice_set streams i) is ∙ set_at streams i

pub any_slot : (name : List ℕ) (slots : List Slot) → list_any (λ s. is_named name (shown s)) slots ≡ list_any (is_named name) (map shown slots)
any_slot name [] = refl
any_slot name (s ∷ slots) = ap (λ b. is_named name (shown s) || b) (any_slot name slots)

set_length : (streams : List Stream) (i : ℕ) (x : Stream) → length streams ≤ i → slice_set streams i x ≡ streams
set_length [] i x h = refl
set_length (s ∷ streams) zero x h = absurd (omega arith)
set_length (s ∷ streams) (suc i) x h = ap (λ l. s ∷ l) (set_length streams i x (omega arith))

pub placed_none : (slots : List Slot) (streams : List Stream) (n : ℕ) (x : Stream) → map shown slots ≡ streams → length slots ≡ 10 → (n ≡ 0) ⊎ (10 < n) →
    placed streams n x ≡ streams
placed_none slots streams zero x view ten none = refl
placed_none slots streams (suc n) x view ten none = set_length streams n x (omega (arith, ap length view, length-map slots shown))

-- what follows from a fact of one outcome
pub on_ok : {A E : Type 0} {P Q : Type 0} (result : Result A E) → (P → Q) → OnOk result P → OnOk result Q
on_ok (Ok value) f h = f h
on_ok (Err error) f h = tt

pub on_err : {A E : Type 0} {P Q : Type 0} (result : Result A E) → (P → Q) → OnErr result P → OnErr result Q
on_err (Ok value) f h = tt
on_err (Err error) f h = f h
