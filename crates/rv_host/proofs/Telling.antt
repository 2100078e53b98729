-- What console, cabinet and streams hold after a service.
use Rattle.std.proofs.Common.{◌≡◌, ℕ, zero, suc, List, [], ◌∷◌, ◌++◌, ◌<◌, map, take, drop, Bool, Option, Some, None, refl, arith, ap, sym, ◌∙◌, append_assoc, append-nil}
use Rattle.std.proofs.lemmas.List.{take-append-drop}
use Rattle.tu_base.specs.Files.{Files}
use Rattle.tu_base.specs.Trace.{Put, Got, AtEnd, Keep, Trace, events_of, files_of}
use Rattle.tu_base.specs.declared.event.Event.{Event}
use Rattle.tu_base.specs.declared.event.Event.TheVariants.{Put as event_put}
use Rattle.tu_outside.specs.Told.{with_more, HasSomeOf}
use Rattle.tu_outside.specs.Events.{puts, got as got_events, Takes}
use Rattle.rv_image.specs.Streams.{Stream, World, Served, Replies, traced, taken, got}
use Rattle.rv_host.specs.Told.{Told, ShowsTrace, ShowsPart}
use Rattle.rv_host.specs.Slots.{Comes, with_trace}
use Rattle.rv_host.specs.Served.{Seen, seen, ShowsWorld, IsServed, IsCut, world_of}
use Rattle.rv_host.specs.declared.service.Reply.TheVariants.{Word}
use Rattle.rv_host.specs.declared.service.ServiceError.TheVariants.{Console}
use Rattle.rv_host.proofs.Keeping.{files_append, with_no_trace}

pub events_append : (first second : Trace) → events_of (first ++ second) ≡ events_of first ++ events_of second
events_append [] second = refl
events_append (Put byte ∷ first) second = ap (λ l. event_put byte ∷ l) (events_append first second)
events_append (Got byte ∷ first) second = simp (events_append first second)
events_append (AtEnd ∷ first) second = simp (events_append first second)
events_append (Keep name contents ∷ first) second = events_append first second

pub nothing_more : (told : Option (List Event)) → told ≡ with_more told []
nothing_more None = refl
nothing_more (Some events) = ap Some (sym (append-nil events))

-- what is told of a trace, and then more of it
shows_more : (events : List Event) (files : Files) (trace more : Trace) (old new : Told) → ShowsTrace events files trace old → new.events ≡ with_more old.events (events_of more) →
    new.files ≡ with_trace old.files more → ShowsTrace events files (trace ++ more) new
shows_more events files trace more old new shows events_are files_are = record {
  done =
      events_are ∙ ap (λ o. with_more o (events_of more)) shows.done
      ∙ ap Some (append_assoc events (events_of trace) (events_of more) ∙ ap (λ l. events ++ l) (sym (events_append trace more)));
  kept = files_are ∙ ap (λ o. with_trace o more) shows.kept ∙ ap Some (sym (files_append trace more files));
}

pub tells_more : (events : List Event) (files : Files) (before after : Seen) (w : World) (more : Trace) (left : List ℕ) (streams : List Stream) (opened : Bool) →
    ShowsWorld events files before w → after.told.left ≡ Some left → after.told.events ≡ with_more before.told.events (events_of more) →
    after.told.files ≡ with_trace before.told.files more → after.streams ≡ streams →
    ShowsWorld events files after (record { left = left; trace = w.trace ++ more; streams = streams; opened = opened })
tells_more events files before after w more left streams opened tells left_is events_are files_are streams_are = record {
  input = left_is;
  shows = shows_more events files w.trace more before.told after.told tells.shows events_are files_are;
  streams = streams_are;
}

pub part_more : (events : List Event) (files : Files) (before : Seen) (told : Told) (w : World) (more : Trace) (k : ℕ) → ShowsWorld events files before w →
    told.events ≡ with_more before.told.events (events_of (take k more)) → told.files ≡ with_trace before.told.files (take k more) →
    ShowsPart events files w.trace (w.trace ++ more) told
part_more events files before told w more k tells events_are files_are = record {
  done = w.trace ++ take k more;
  shows = shows_more events files w.trace (take k more) before.told told tells.shows events_are files_are;
  nothing_held_back = record { rest = take k more; is = refl };
  nothing_else = record { rest = drop k more; is = ap (λ l. w.trace ++ l) (sym (take-append-drop k more)) ∙ sym (append_assoc w.trace (take k more) (drop k more)) };
}

-- all of the trace so far, where nothing was done
pub part_all : (events : List Event) (files : Files) (before : Seen) (w : World) (trace : Trace) → ShowsWorld events files before w → w.trace ≡ trace →
    ShowsPart events files w.trace trace before.told
part_all events files before w trace tells same = record {
  done = w.trace;
  shows = tells.shows;
  nothing_held_back = record { rest = []; is = sym (append-nil w.trace) };
  nothing_else = record { rest = []; is = sym same ∙ sym (append-nil w.trace) };
}

-- none of what was to be done
pub part_none : (events : List Event) (files : Files) (before : Seen) (w : World) (more : Trace) → ShowsWorld events files before w → ShowsPart events files w.trace (w.trace ++ more) before.told
part_none events files before w more tells = part_more events files before before.told w more 0 tells (nothing_more before.told.events) (with_no_trace before.told.files)

-- a word that streams come to
pub comes_served : (service : World → Served) (reply : ℕ) (old new : List Stream) (left : Option (List ℕ)) (eo : Option (List Event)) (fo : Option Files) →
    Comes service reply old new → (w : World) (events : List Event) (files : Files) → ShowsWorld events files (seen left eo fo old) w →
    IsServed (Word reply) (service w) events files (seen left eo fo new)
comes_served service reply old new left eo fo comes w events files tells = record {
  world = record { left = w.left; trace = w.trace; streams = new; opened = w.opened };
  is = comes w (sym tells.streams);
  told = record { input = tells.input; shows = tells.shows; streams = refl };
}

-- bytes to the console

events_put : (bytes : List ℕ) → events_of (map Put bytes) ≡ puts bytes
events_put [] = refl
events_put (byte ∷ bytes) = ap (λ l. event_put byte ∷ l) (events_put bytes)

events_some : (k : ℕ) (bytes : List ℕ) → take k (puts bytes) ≡ events_of (take k (map Put bytes))
events_some zero bytes = refl
events_some (suc k) [] = refl
events_some (suc k) (byte ∷ bytes) = ap (λ l. event_put byte ∷ l) (events_some k bytes)

files_put : (bytes : List ℕ) (files : Files) → files ≡ files_of files (map Put bytes)
files_put [] files = refl
files_put (byte ∷ bytes) files = files_put bytes files

files_some : (k : ℕ) (bytes : List ℕ) (files : Files) → files ≡ files_of files (take k (map Put bytes))
files_some zero bytes files = refl
files_some (suc k) [] files = refl
files_some (suc k) (byte ∷ bytes) files = files_some k bytes files

told_same : (told : Option Files) (trace : Trace) → ((files : Files) → files ≡ files_of files trace) → told ≡ with_trace told trace
told_same None trace same = refl
told_same (Some files) trace same = ap Some (same files)

pub put_served : (events : List Event) (files : Files) (w : World) (bytes : List ℕ) (lo ln : Option (List ℕ)) (eo en : Option (List Event)) (fo : Option Files) (streams : List Stream) →
    ShowsWorld events files (seen lo eo fo streams) w → ln ≡ lo → en ≡ with_more eo (puts bytes) →
    IsServed (Word 0) (Replies 0 (traced w (map Put bytes))) events files (seen ln en fo streams)
put_served events files w bytes lo ln eo en fo streams tells left_is events_are = record {
  world = traced w (map Put bytes);
  is = refl;
  told =
      tells_more events files (seen lo eo fo streams) (seen ln en fo streams) w (map Put bytes) w.left w.streams w.opened tells
      (left_is ∙ tells.input) (events_are ∙ ap (with_more eo) (sym (events_put bytes))) (told_same fo (map Put bytes) (files_put bytes)) tells.streams;
}

pub put_cut : (events : List Event) (files : Files) (w : World) (bytes : List ℕ) (lo ln : Option (List ℕ)) (eo en : Option (List Event)) (fo : Option Files) (streams : List Stream) →
    ShowsWorld events files (seen lo eo fo streams) w → HasSomeOf eo en (puts bytes) →
    IsCut Console w (Replies 0 (traced w (map Put bytes))) events files (record { left = ln; events = en; files = fo })
put_cut events files w bytes lo ln eo en fo streams tells some = record {
  part =
      part_more events files (seen lo eo fo streams) (record { left = ln; events = en; files = fo }) w (map Put bytes) some.count tells
      (some.is ∙ ap (with_more eo) (events_some some.count bytes)) (told_same fo (take some.count (map Put bytes)) (files_some some.count bytes));
  opened = λ other. absurd (other refl);
}

-- a byte of the console

-- a byte is taken as it is
pub byte_taken : (byte : ℕ) → byte < 256 → taken byte ≡ byte
byte_taken byte small = omega arith

pub byte_served : (events : List Event) (files : Files) (w : World) (byte : ℕ) → byte < 256 → (lo ln : Option (List ℕ)) (eo en : Option (List Event)) (fo : Option Files) (streams : List Stream) →
    ShowsWorld events files (seen lo eo fo streams) w → Takes lo (Some byte) ln → en ≡ with_more eo (got_events (Some byte)) →
    IsServed (Word byte) (got w w.left) events files (seen ln en fo streams)
byte_served events files w byte small lo None eo en fo streams tells takes events_are = let none : None ≡ Some w.left = sym takes ∙ tells.input in absurd cc
byte_served events files w byte small lo (Some rest) eo en fo streams tells takes events_are =
    let some : Some (byte ∷ rest) ≡ Some w.left = sym takes ∙ tells.input in
    let is : w.left ≡ byte ∷ rest = cc in
    record {
      world = record { left = rest; trace = w.trace ++ Got byte ∷ []; streams = w.streams; opened = w.opened };
      is =
          ap (got w) is
          ∙ ap (λ b. Replies b (record { left = rest; trace = w.trace ++ Got b ∷ []; streams = w.streams; opened = w.opened })) (byte_taken byte small);
      told =
          tells_more events files (seen lo eo fo streams) (seen (Some rest) en fo streams) w (Got byte ∷ []) rest w.streams w.opened tells refl events_are
          (told_same fo (Got byte ∷ []) (λ f. refl)) tells.streams;
    }

pub end_served : (events : List Event) (files : Files) (w : World) (lo ln : Option (List ℕ)) (eo en : Option (List Event)) (fo : Option Files) (streams : List Stream) →
    ShowsWorld events files (seen lo eo fo streams) w → Takes lo None ln → en ≡ with_more eo (got_events None) →
    IsServed (Word 4294967295) (got w w.left) events files (seen ln en fo streams)
end_served events files w lo ln eo en fo streams tells taken events_are = record {
  world = traced w (AtEnd ∷ []);
  is = ap (got w) (taken.1 w.left tells.input);
  told =
      tells_more events files (seen lo eo fo streams) (seen ln en fo streams) w (AtEnd ∷ []) w.left w.streams w.opened tells (taken.0 ∙ tells.input) events_are
      (told_same fo (AtEnd ∷ []) (λ f. refl)) tells.streams;
}

get_part : (events : List Event) (files : Files) (w : World) (left : List ℕ) (before : Seen) → ShowsWorld events files before w → ShowsPart events files w.trace (world_of (got w left)).trace before.told
get_part events files w [] before tells = part_none events files before w (AtEnd ∷ []) tells
get_part events files w (byte ∷ left) before tells = part_none events files before w (Got (taken byte) ∷ []) tells

pub get_cut : (events : List Event) (files : Files) (w : World) (lo ln : Option (List ℕ)) (eo en : Option (List Event)) (fo : Option Files) (streams : List Stream) →
    ShowsWorld events files (seen lo eo fo streams) w → en ≡ eo → IsCut Console w (got w w.left) events files (record { left = ln; events = en; files = fo })
get_cut events files w lo ln eo en fo streams tells same =
    let p : ShowsPart events files w.trace (world_of (got w w.left)).trace (record { left = lo; events = eo; files = fo }) = get_part events files w w.left (seen lo eo fo streams) tells in
    record {
      part = record { done = p.done; shows = record { done = same ∙ p.shows.done; kept = p.shows.kept }; nothing_held_back = p.nothing_held_back; nothing_else = p.nothing_else };
      opened = λ other. absurd (other refl);
    }
