-- The services on streams.
use Rattle.std.proofs.Common.{◌≡◌, ◌≢◌, ℕ, zero, suc, ◌+◌, ◌-◌, ◌<◌, List, [], ◌∷◌, ◌++◌, length, take, replicate, Bool, true, false, cond, Option, Some, None, refl, arith, ap, sym, ◌∙◌, subst}
use Rattle.std.specs.Prelude.{Result, slice_get, slice_set, nat_le, ◌==◌, ◌&&◌, not}
use Rattle.std.specs.List.{list_any}
use Rattle.std.specs.FinMap as finite
use Rattle.tu_base.specs.Files.{Files}
use Rattle.tu_base.specs.Trace.{Keep, Trace, events_of, files_of}
use Rattle.tu_base.specs.declared.event.Event.{Event}
use Rattle.tu_outside.specs.Told.{with_more}
use Rattle.rv_isa.specs.declared.service.Service.{Service}
use Rattle.rv_isa.specs.declared.service.Service.TheVariants.{Open}
use Rattle.rv_isa.specs.Memory.{Memory}
use Rattle.rv_machine.specs.Device.{lends}
use Rattle.rv_image.specs.Streams.{Holding, Stream, Free, Reading, Writing, World, Over, Served, Finishes, Replies, traced, stream, with_stream, kept, taken, is_file_name, is_named, free_stream, reads, opens_at, opens, closes, puts, gets, no_byte, bytes_at, served}
use Rattle.rv_host.specs.Told.{ShowsPart}
use Rattle.rv_host.specs.Slots.{stream_at, placed, Comes, with_trace, HasPartOf, next_byte, after_next, put_answer, after_put}
use Rattle.rv_host.specs.Served.{Seen, seen, ShowsWorld, IsClosed, IsServed, IsCut, Serves, served_as, world_of, reading_of, opened_of}
use Rattle.rv_host.specs.declared.service.Reply.{Reply}
use Rattle.rv_host.specs.declared.service.Reply.TheVariants.{Word}
use Rattle.rv_host.specs.declared.service.ServiceError.{ServiceError}
use Rattle.rv_host.proofs.SlotLemmas.{placed_same}
use Rattle.rv_host.proofs.Keeping.{with_no_trace}
use Rattle.rv_host.proofs.Telling.{nothing_more, tells_more, part_more, part_none, part_all, byte_taken}

stream_is : (w : World) (n : ℕ) → stream_at w.streams n ≡ stream w n
stream_is w zero = refl
stream_is w (suc n) = refl

pub at_world : (w : World) (streams : List Stream) (n : ℕ) → streams ≡ w.streams → stream_at streams n ≡ stream w n
at_world w streams n is = ap (λ l. stream_at l n) is ∙ stream_is w n

free_among : (n i : ℕ) → elim (slice_get (replicate n Free) i) [ Some s ↦ s | None ↦ Free ] ≡ Free
free_among zero i = refl
free_among (suc n) zero = refl
free_among (suc n) (suc i) = free_among n i

-- no stream is open where all are free
pub stream_free : (w : World) (n : ℕ) → w.streams ≡ replicate 10 Free → stream w n ≡ Free
stream_free w zero closed = refl
stream_free w (suc n) closed = ap (λ l. elim (slice_get l n) [ Some s ↦ s | None ↦ Free ]) closed ∙ free_among 10 n

true_unless_false : (b : Bool) → (b ≡ false → ⊥) → b ≡ true
true_unless_false true never = refl
true_unless_false false never = absurd (never refl)

-- a stream is open only where the program has asked for it
pub opened_by : (w : World) → IsClosed w → w.streams ≢ replicate 10 Free → w.opened ≡ true
opened_by w closed open_ones = true_unless_false w.opened (λ unopened. open_ones (closed unopened))

pub opened_at : (w : World) (n : ℕ) → IsClosed w → stream w n ≢ Free → w.opened ≡ true
opened_at w n closed used = opened_by w closed (λ free. used (stream_free w n free))

-- the end of a run

no_events : (streams : List Stream) → events_of (kept streams) ≡ []
no_events [] = refl
no_events (Free ∷ streams) = no_events streams
no_events (Reading name left ∷ streams) = no_events streams
no_events (Writing name contents ∷ streams) = no_events streams

no_events_some : (k : ℕ) (streams : List Stream) → events_of (take k (kept streams)) ≡ []
no_events_some zero streams = refl
no_events_some (suc k) [] = refl
no_events_some (suc k) (Free ∷ streams) = no_events_some (suc k) streams
no_events_some (suc k) (Reading name left ∷ streams) = no_events_some (suc k) streams
no_events_some (suc k) (Writing name contents ∷ streams) = no_events_some k streams

silent : (told : Option (List Event)) (trace : Trace) → events_of trace ≡ [] → told ≡ with_more told (events_of trace)
silent told trace none = nothing_more told ∙ ap (with_more told) (sym none)

pub finish_served : (reply : Reply) (how : Over) (stands : (w : World) → Finishes how w ≡ served_as reply w) (left : Option (List ℕ)) (eo : Option (List Event)) (fo fn : Option Files)
    (streams : List Stream) (w : World) (events : List Event) (files : Files) → ShowsWorld events files (seen left eo fo streams) w → fn ≡ with_trace fo (kept streams) →
    IsServed reply (Finishes how (traced w (kept w.streams))) events files (seen left eo fn streams)
finish_served reply how stands left eo fo fn streams w events files tells kept_are = record {
  world = traced w (kept w.streams);
  is = stands (traced w (kept w.streams));
  told =
      tells_more events files (seen left eo fo streams) (seen left eo fn streams) w (kept w.streams) w.left w.streams w.opened tells tells.input
      (silent eo (kept w.streams) (no_events w.streams)) (kept_are ∙ ap (λ l. with_trace fo (kept l)) tells.streams) tells.streams;
}

pub finish_cut : (error : ServiceError) (how : Over) (left : Option (List ℕ)) (eo : Option (List Event)) (fo fn : Option Files) (streams : List Stream) (w : World)
    (events : List Event) (files : Files) → ShowsWorld events files (seen left eo fo streams) w → HasPartOf fo fn (kept streams) → streams ≢ replicate 10 Free →
    IsCut error w (Finishes how (traced w (kept w.streams))) events files (record { left = left; events = eo; files = fn })
finish_cut error how left eo fo fn streams w events files tells part open_ones = record {
  part =
      part_more events files (seen left eo fo streams) (record { left = left; events = eo; files = fn }) w (kept w.streams) part.count tells
      (silent eo (take part.count (kept w.streams)) (no_events_some part.count w.streams))
      (part.is ∙ ap (λ l. with_trace fo (take part.count (kept l))) tells.streams);
  opened = λ _ closed. opened_by w closed (λ none. open_ones (tells.streams ∙ none));
}

-- closing

placed_above : (streams : List Stream) (n : ℕ) (s x : Stream) → s ≡ stream_at streams n → s ≢ Free → placed streams n x ≡ slice_set streams (n - 1) x
placed_above streams zero s x is used = absurd (used is)
placed_above streams (suc n) s x is used = let same : n ≡ suc n - 1 = omega arith in ap (λ m. slice_set streams m x) same

-- the streams where one of them is closed
with_freed : (w : World) (streams : List Stream) (n : ℕ) (s : Stream) → streams ≡ w.streams → s ≡ stream w n → s ≢ Free → placed streams n Free ≡ (with_stream w n Free).streams
with_freed w streams n s same is used =
    ap (λ l. placed l n Free) same ∙ placed_above w.streams n s Free (is ∙ sym (stream_is w n)) used

pub close_free : (n : ℕ) (left : Option (List ℕ)) (eo : Option (List Event)) (fo : Option Files) (old new : List Stream) (w : World) (events : List Event) (files : Files) →
    ShowsWorld events files (seen left eo fo old) w → Free ≡ stream_at old n → new ≡ placed old n Free →
    IsServed (Word 1) (closes w n (stream w n)) events files (seen left eo fo new)
close_free n left eo fo old new w events files tells free placed_is = record {
  world = w;
  is = ap (closes w n) (sym (free ∙ at_world w old n tells.streams));
  told = record { input = tells.input; shows = tells.shows; streams = placed_is ∙ placed_same old n Free free ∙ tells.streams };
}

close_at : (n : ℕ) (s : Stream) (left : Option (List ℕ)) (eo : Option (List Event)) (fo fn : Option Files) (old new : List Stream) (w : World) (events : List Event) (files : Files) →
    ShowsWorld events files (seen left eo fo old) w → s ≡ stream w n → s ≢ Free → new ≡ placed old n Free → fn ≡ with_trace fo (kept (s ∷ [])) →
    IsServed (Word 0) (closes w n s) events files (seen left eo fn new)
close_at n Free left eo fo fn old new w events files tells is used placed_is kept_is = absurd (used refl)
close_at n (Reading name rest_of) left eo fo fn old new w events files tells is used placed_is kept_is = record {
  world = with_stream w n Free;
  is = refl;
  told = record {
    input = tells.input;
    shows = record { done = tells.shows.done; kept = kept_is ∙ sym (with_no_trace fo) ∙ tells.shows.kept };
    streams = placed_is ∙ with_freed w old n (Reading name rest_of) tells.streams is used;
  };
}
close_at n (Writing name contents) left eo fo fn old new w events files tells is used placed_is kept_is = record {
  world = traced (with_stream w n Free) (Keep name contents ∷ []);
  is = refl;
  told =
      tells_more events files (seen left eo fo old) (seen left eo fn new) w (Keep name contents ∷ []) w.left (with_stream w n Free).streams w.opened tells tells.input
      (nothing_more eo) kept_is (placed_is ∙ with_freed w old n (Writing name contents) tells.streams is used);
}

pub close_served : (n : ℕ) (s : Stream) (left : Option (List ℕ)) (eo : Option (List Event)) (fo fn : Option Files) (old new : List Stream) (w : World) (events : List Event) (files : Files) →
    ShowsWorld events files (seen left eo fo old) w → s ≡ stream_at old n → s ≢ Free → new ≡ placed old n Free → fn ≡ with_trace fo (kept (s ∷ [])) →
    IsServed (Word 0) (closes w n (stream w n)) events files (seen left eo fn new)
close_served n s left eo fo fn old new w events files tells is used placed_is kept_is =
    let here : s ≡ stream w n = is ∙ at_world w old n tells.streams in
    let P : Stream → Type 0 = λ x. IsServed (Word 0) (closes w n x) events files (seen left eo fn new) in
    subst P here (close_at n s left eo fo fn old new w events files tells here used placed_is kept_is)

close_part : (n : ℕ) (s : Stream) (before : Seen) (w : World) (events : List Event) (files : Files) → ShowsWorld events files before w →
    ShowsPart events files w.trace (world_of (closes w n s)).trace before.told
close_part n Free before w events files tells = part_all events files before w w.trace tells refl
close_part n (Reading name left) before w events files tells = part_all events files before w w.trace tells refl
close_part n (Writing name contents) before w events files tells = part_none events files before w (Keep name contents ∷ []) tells

pub close_opened : (n : ℕ) (s : Stream) (w : World) → (world_of (closes w n s)).opened ≡ w.opened
close_opened n Free w = refl
close_opened n (Reading name left) w = refl
close_opened n (Writing name contents) w = refl

pub close_cut : (error : ServiceError) (n : ℕ) (s : Stream) (left : Option (List ℕ)) (eo : Option (List Event)) (fo fn : Option Files) (old : List Stream) (w : World)
    (events : List Event) (files : Files) → ShowsWorld events files (seen left eo fo old) w → s ≡ stream_at old n → s ≢ Free → fn ≡ fo →
    IsCut error w (closes w n (stream w n)) events files (record { left = left; events = eo; files = fn })
close_cut error n s left eo fo fn old w events files tells is used same =
    let p : ShowsPart events files w.trace (world_of (closes w n (stream w n))).trace (record { left = left; events = eo; files = fo }) =
    close_part n (stream w n) (seen left eo fo old) w events files tells in
    record {
      part = record { done = p.done; shows = record { done = p.shows.done; kept = same ∙ p.shows.kept }; nothing_held_back = p.nothing_held_back; nothing_else = p.nothing_else };
      opened = λ _ closed. close_opened n (stream w n) w ∙ opened_at w n closed (λ free. used (is ∙ at_world w old n tells.streams ∙ free));
    }

-- bytes to a stream

unchanged : (w : World) (n reply : ℕ) (s : Stream) → s ≡ stream w n → Replies reply w ≡ Replies reply (record w { streams = placed w.streams n s })
unchanged w n reply s is = ap (λ l. Replies reply (record w { streams = l })) (sym (placed_same w.streams n s (is ∙ sym (stream_is w n))))

put_writing : (b : Bool) (w : World) (n : ℕ) (name contents more : List ℕ) → Writing name contents ≡ stream w n →
    cond b (Replies 0 (with_stream w n (Writing name more))) (Replies 2 w)
    ≡ Replies (cond b 0 2) (record w { streams = placed w.streams n (Writing name (cond b more contents)) })
put_writing true w n name contents more is =
    ap (λ l. Replies 0 (record w { streams = l })) (sym (placed_above w.streams n (Writing name contents) (Writing name more) (is ∙ sym (stream_is w n)) (λ free. absurd cc)))
put_writing false w n name contents more is = unchanged w n 2 (Writing name contents) is

put_at : (w : World) (n : ℕ) (bytes : List ℕ) (s : Stream) → s ≡ stream w n →
    puts w n bytes s ≡ Replies (put_answer s bytes) (record w { streams = placed w.streams n (after_put s bytes) })
put_at w n bytes Free is = unchanged w n 1 Free is
put_at w n bytes (Reading name left) is = unchanged w n 1 (Reading name left) is
put_at w n bytes (Writing name contents) is = put_writing (nat_le (length contents + length bytes) 16777216) w n name contents (contents ++ bytes) is

pub put_comes : (n : ℕ) (bytes : List ℕ) (answer : ℕ) (old new : List Stream) → answer ≡ put_answer (stream_at old n) bytes →
    new ≡ placed old n (after_put (stream_at old n) bytes) → Comes (λ w. puts w n bytes (stream w n)) answer old new
put_comes n bytes answer old new answer_is new_is w same =
    let here : stream w n ≡ stream_at old n = sym (at_world w old n (sym same)) in
    put_at w n bytes (stream w n) refl
    ∙ ap (λ s. Replies (put_answer s bytes) (record w { streams = placed w.streams n (after_put s bytes) })) here
    ∙ ap (λ l. Replies (put_answer (stream_at old n) bytes) (record w { streams = placed l n (after_put (stream_at old n) bytes) })) same
    ∙ ap (λ r. Replies r (record w { streams = placed old n (after_put (stream_at old n) bytes) })) (sym answer_is)
    ∙ ap (λ l. Replies answer (record w { streams = l })) (sym new_is)

either_world : {X : Type 0} (f : World → X) (b : Bool) (w : World) (u v : Served) → f (world_of u) ≡ f w → f (world_of v) ≡ f w → f (world_of (cond b u v)) ≡ f w
either_world f true w u v h k = h
either_world f false w u v h k = k

pub put_keeps : {X : Type 0} (f : World → X) (w : World) (n : ℕ) (bytes : List ℕ) (s : Stream) → ((x : Stream) → f (with_stream w n x) ≡ f w) → f (world_of (puts w n bytes s)) ≡ f w
put_keeps f w n bytes Free same = refl
put_keeps f w n bytes (Reading name left) same = refl
put_keeps f w n bytes (Writing name contents) same =
    either_world f (nat_le (length contents + length bytes) 16777216) w (Replies 0 (with_stream w n (Writing name (contents ++ bytes)))) (Replies 2 w)
    (same (Writing name (contents ++ bytes))) refl

pub put_cut : (error : ServiceError) (n : ℕ) (bytes : List ℕ) (left : Option (List ℕ)) (eo : Option (List Event)) (fo : Option Files) (old : List Stream) (w : World)
    (events : List Event) (files : Files) → ShowsWorld events files (seen left eo fo old) w → stream_at old n ≢ Free →
    IsCut error w (puts w n bytes (stream w n)) events files (record { left = left; events = eo; files = fo })
put_cut error n bytes left eo fo old w events files tells used = record {
  part = part_all events files (seen left eo fo old) w _ tells (sym (put_keeps (λ v. v.trace) w n bytes (stream w n) (λ _. refl)));
  opened = λ _ closed. put_keeps (λ v. v.opened) w n bytes (stream w n) (λ _. refl) ∙ opened_at w n closed (λ free. used (at_world w old n tells.streams ∙ free));
}

-- a byte of a stream

word_of : Option ℕ → ℕ
word_of None = no_byte
word_of (Some byte) = taken byte

get_at : (w : World) (n : ℕ) (s : Stream) → s ≡ stream w n → gets w n s ≡ Replies (word_of (next_byte s)) (record w { streams = placed w.streams n (after_next s) })
unfolding word_of
get_at w n Free is = unchanged w n no_byte Free is
get_at w n (Reading name []) is = unchanged w n no_byte (Reading name []) is
get_at w n (Reading name (byte ∷ left)) is =
    ap (λ l. Replies (taken byte) (record w { streams = l }))
    (sym (placed_above w.streams n (Reading name (byte ∷ left)) (Reading name left) (is ∙ sym (stream_is w n)) (λ free. absurd cc)))
get_at w n (Writing name contents) is = unchanged w n no_byte (Writing name contents) is

get_comes : (n : ℕ) (byte : Option ℕ) (old new : List Stream) → byte ≡ next_byte (stream_at old n) → new ≡ placed old n (after_next (stream_at old n)) →
    Comes (λ w. gets w n (stream w n)) (word_of byte) old new
get_comes n byte old new byte_is new_is w same =
    let here : stream w n ≡ stream_at old n = sym (at_world w old n (sym same)) in
    get_at w n (stream w n) refl
    ∙ ap (λ s. Replies (word_of (next_byte s)) (record w { streams = placed w.streams n (after_next s) })) here
    ∙ ap (λ l. Replies (word_of (next_byte (stream_at old n))) (record w { streams = placed l n (after_next (stream_at old n)) })) same
    ∙ ap (λ b. Replies (word_of b) (record w { streams = placed old n (after_next (stream_at old n)) })) (sym byte_is)
    ∙ ap (λ l. Replies (word_of byte) (record w { streams = l })) (sym new_is)

pub get_byte_comes : (n byte : ℕ) (old new : List Stream) → byte < 256 → Some byte ≡ next_byte (stream_at old n) → new ≡ placed old n (after_next (stream_at old n)) →
    Comes (λ w. gets w n (stream w n)) byte old new
unfolding word_of
get_byte_comes n byte old new small byte_is new_is =
    subst (λ b. Comes (λ w. gets w n (stream w n)) b old new) (byte_taken byte small) (get_comes n (Some byte) old new byte_is new_is)

pub get_none_comes : (n : ℕ) (old new : List Stream) → None ≡ next_byte (stream_at old n) → new ≡ placed old n (after_next (stream_at old n)) →
    Comes (λ w. gets w n (stream w n)) 4294967295 old new
unfolding word_of
get_none_comes n old new byte_is new_is = get_comes n None old new byte_is new_is

-- opening

answer_of : World → ℕ → Option Stream → Served
answer_of w i None = Replies 0 w
answer_of w i (Some s) = Replies i (with_stream w i s)

reading_at : (b : Bool) (w : World) (i : ℕ) (name contents : List ℕ) →
    cond b (Replies i (with_stream w i (Reading name contents))) (Replies 0 w) ≡ answer_of w i (cond b (Some (Reading name contents)) None)
unfolding answer_of
reading_at true w i name contents = refl
reading_at false w i name contents = refl

reads_at : (w : World) (i : ℕ) (name : List ℕ) (found : Option (List ℕ)) → reads w i name found ≡ answer_of w i (reading_of name found)
unfolding answer_of
reads_at w i name None = refl
reads_at w i name (Some contents) = reading_at (nat_le (length contents) 16777216) w i name contents

moded : (b : Bool) (w : World) (i : ℕ) (name : List ℕ) (found : Option (List ℕ)) →
    cond b (reads w i name found) (Replies i (with_stream w i (Writing name []))) ≡ answer_of w i (cond b (reading_of name found) (Some (Writing name [])))
unfolding answer_of
moded true w i name found = reads_at w i name found
moded false w i name found = refl

opens_as : (files : Files) (w : World) (i : ℕ) (name : List ℕ) (mode : ℕ) →
    opens_at (Holding files) w i name mode ≡ answer_of w i (opened_of (files_of files w.trace) name mode)
opens_as files w i name mode = moded (mode == 0) w i name (finite.get (files_of files w.trace) name)

answer_keeps : {X : Type 0} (f : World → X) (w : World) (i : ℕ) (found : Option Stream) → ((x : Stream) → f (with_stream w i x) ≡ f w) → f (world_of (answer_of w i found)) ≡ f w
unfolding answer_of
answer_keeps f w i None same = refl
answer_keeps f w i (Some s) same = same s

-- what opening leaves as it is
pub opens_keeps : {X : Type 0} (f : World → X) (files : Files) (w : World) (name : List ℕ) (mode : ℕ) → ((i : ℕ) (x : Stream) → f (with_stream w i x) ≡ f w) →
    f (world_of (opens (Holding files) w name mode)) ≡ f w
opens_keeps f files w name mode same =
    let i : ℕ = free_stream w.streams 1 in
    either_world f (not (i == 0) && (is_file_name name && not (list_any (is_named name) w.streams))) w (opens_at (Holding files) w i name mode) (Replies 0 w)
    (ap (λ v. f (world_of v)) (opens_as files w i name mode) ∙ answer_keeps f w i (opened_of (files_of files w.trace) name mode) (same i)) refl

-- the world where the program has asked to open a stream
abbrev asked_to : World → World
asked_to w = record { left = w.left; trace = w.trace; streams = w.streams; opened = true }

-- nothing was done
pub open_cut : (error : ServiceError) (name : List ℕ) (mode : ℕ) (left : Option (List ℕ)) (eo : Option (List Event)) (fo fn : Option Files) (old : List Stream) (w : World)
    (events : List Event) (files : Files) → ShowsWorld events files (seen left eo fo old) w → fn ≡ fo →
    IsCut error w (opens (Holding files) (record w { opened = true }) name mode) events files (record { left = left; events = eo; files = fn })
open_cut error name mode left eo fo fn old w events files tells same =
    let p : ShowsPart events files w.trace (world_of (opens (Holding files) (asked_to w) name mode)).trace (record { left = left; events = eo; files = fo }) =
    part_all events files (seen left eo fo old) w _ tells (sym (opens_keeps (λ v. v.trace) files (asked_to w) name mode (λ _ _. refl))) in
    record {
      part = record { done = p.done; shows = record { done = p.shows.done; kept = same ∙ p.shows.kept }; nothing_held_back = p.nothing_held_back; nothing_else = p.nothing_else };
      opened = λ _ closed. opens_keeps (λ v. v.opened) files (asked_to w) name mode (λ _ _. refl);
    }

-- a test for a free stream failed
pub open_when : (free : Bool) (s : Stream) → (s ≡ Free → free ≡ true) → free ≡ false → s ≢ Free
open_when free s test failed is = let held : free ≡ true = test is in absurd cc

-- the name is the one that the machine lends
pub open_asked : (m : Memory) (waiting : Option Service) (service : Service) (at size mode : ℕ) (name : List ℕ) (before after : Seen) (result : Result Reply ServiceError) →
    waiting ≡ Some service → service ≡ Open at size mode → name ≡ lends m waiting →
    Serves (λ folder w. opens folder (record w { opened = true }) name mode) before after result → Serves (λ folder w. served folder m service w) before after result
open_asked m waiting service at size mode name before after result waits is lent serves =
    let name_is : name ≡ bytes_at m at size = lent ∙ ap (lends m) (waits ∙ ap Some is) in
    let P : Service → Type 0 = λ s. Serves (λ folder w. served folder m s w) before after result in
    let Q : List ℕ → Type 0 = λ l. Serves (λ folder w. opens folder (record w { opened = true }) l mode) before after result in
    subst P (sym is) (subst Q name_is serves)
