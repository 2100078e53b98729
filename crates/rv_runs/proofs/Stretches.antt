-- A run, cut into stretches.
use Rattle.std.proofs.Common.{◌≡◌, ℕ, zero, suc, ◌+◌, ◌-◌, ◌<◌, ◌≤◌, Bool, true, false, cond, eqb, leb, ◌&&◌, not, length, List, [], ◌∷◌, ◌++◌, Option, Some, None, refl, sym, ap, subst, ◌∙◌, arith, append_assoc}
use Rattle.std.specs.List.{list_any}
use Rattle.std.specs.FinMap as finite
use Rattle.std.proofs.lemmas.List.{append-nil}
use Rattle.tu_base.specs.Trace.{files_of}
use Rattle.rv_isa.specs.declared.service.FaultKind.{FaultKind}
use Rattle.rv_isa.specs.declared.service.Service.{Service}
use Rattle.rv_isa.specs.declared.service.Service.TheVariants.{End, Stop, PutConsole, GetConsole, Open, Close, PutStream, GetStream, State}
use Rattle.rv_isa.specs.Memory.{Memory}
use Rattle.rv_isa.specs.Step.{Cpu, Outcome, Goes, Asks, Faults, step}
use Rattle.rv_image.specs.Streams.{Folder, Closed, Holding, Stream, Free, Reading, Writing, World, Over, Served, Finishes, Replies, served, got, opens, opens_at, reads, closes, puts, gets, stream, with_stream, free_stream, is_file_name, is_named, bytes_at}
use Rattle.rv_image.specs.Run.{Going, run, continued, resumed, answered, verdict_of}
use Rattle.rv_runs.specs.Moments.{Ground, Moment, Live, Finished, Broken, told, heard, next_moment, later}
use Rattle.tu_base.specs.Prefix.{IsPrefix}
use Rattle.rv_runs.specs.Laws.{Shows, IsUnderway, run_on, world_at, verdict_at}

pub later_add : (g : Ground) (a b : ℕ) (m : Moment) → later g (a + b) m ≡ later g b (later g a m)
later_add g zero b m = let e : 0 + b ≡ b = omega arith in ap (λ n. later g n m) e
later_add g (suc a) b m = let e : suc a + b ≡ suc (a + b) = omega arith in ap (λ n. later g n m) e ∙ later_add g a b (next_moment g m)

pub later_from : (g : Ground) (a b : ℕ) (m : Moment) → a ≤ b → later g b m ≡ later g (b - a) (later g a m)
later_from g a b m le = let e : b ≡ a + (b - a) = omega arith in ap (λ i. later g i m) e ∙ later_add g a (b - a) m

pub over_stays : (g : Ground) (n : ℕ) (how : Over) (w : World) → later g n (Finished how w) ≡ Finished how w
over_stays g zero how w = refl
over_stays g (suc n) how w = over_stays g n how w

pub broken_stays : (g : Ground) (n : ℕ) (why : FaultKind) (pc : ℕ) (w : World) → later g n (Broken why pc w) ≡ Broken why pc w
broken_stays g zero why pc w = refl
broken_stays g (suc n) why pc w = broken_stays g n why pc w

-- what a run is, by how it stands
shows_told : (g : Ground) (n count : ℕ) (c : Cpu) (sv : Served) → ((count : ℕ) (c : Cpu) (w : World) → Shows (run_on g n count c w) (later g n (Live c w))) → Shows (resumed (run g.folder g.space n (count + 1)) (count + 1) c sv) (later g n (told c sv))
shows_told g n count c (Finishes how w) ih = let e = over_stays g n how w in record { verdict = sym (ap verdict_at e); world = sym (ap world_at e) }
shows_told g n count c (Replies reply w) ih = ih (count + 1) (answered c reply) w

shows_heard : (g : Ground) (n count : ℕ) (w : World) (o : Outcome) → ((count : ℕ) (c : Cpu) (w : World) → Shows (run_on g n count c w) (later g n (Live c w))) → Shows (continued g.folder (run g.folder g.space n (count + 1)) count w o) (later g n (heard g.folder w o))
shows_heard g n count w (Goes to) ih = ih (count + 1) to w
shows_heard g n count w (Asks what to) ih = shows_told g n count to (served g.folder to.memory what w) ih
shows_heard g n count w (Faults why at) ih = let e = broken_stays g n why at.pc w in record { verdict = sym (ap verdict_at e); world = sym (ap world_at e) }

pub run_shows : (g : Ground) (n count : ℕ) (c : Cpu) (w : World) → Shows (run_on g n count c w) (later g n (Live c w))
unfolding run
run_shows g zero count c w = record { verdict = refl; world = refl }
run_shows g (suc n) count c w = shows_heard g n count w (step g.space c) (run_shows g n)

-- a run goes on
abbrev GoesOn : Ground → ℕ → Type 0
GoesOn g k = (n count : ℕ) (c d : Cpu) (w x : World) → later g k (Live c w) ≡ Live d x → run_on g (k + n) count c w ≡ run_on g n (count + k) d x

on_told : (g : Ground) (k n count : ℕ) (c d : Cpu) (x : World) (sv : Served) → GoesOn g k → later g k (told c sv) ≡ Live d x → resumed (run g.folder g.space (k + n) (count + 1)) (count + 1) c sv ≡ run_on g n (count + 1 + k) d x
on_told g k n count c d x (Finishes how w) ih h = let e = over_stays g k how w in absurd (cc)
on_told g k n count c d x (Replies reply w) ih h = ih n (count + 1) (answered c reply) d w x h

on_heard : (g : Ground) (k n count : ℕ) (d : Cpu) (w x : World) (o : Outcome) → GoesOn g k → later g k (heard g.folder w o) ≡ Live d x → continued g.folder (run g.folder g.space (k + n) (count + 1)) count w o ≡ run_on g n (count + 1 + k) d x
on_heard g k n count d w x (Goes to) ih h = ih n (count + 1) to d w x h
on_heard g k n count d w x (Asks what to) ih h = on_told g k n count to d x (served g.folder to.memory what w) ih h
on_heard g k n count d w x (Faults why at) ih h = let e = broken_stays g k why at.pc w in absurd (cc)

pub goes_on : (g : Ground) (k n count : ℕ) (c d : Cpu) (w x : World) → later g k (Live c w) ≡ Live d x → run_on g (k + n) count c w ≡ run_on g n (count + k) d x
unfolding run
goes_on g zero n count c d w x h =
    let a : 0 + n ≡ n = omega arith in
    let b : count + 0 ≡ count = omega arith in
    let same : c ≡ d = cc in
    let alike : w ≡ x = cc in
    rw (a, b) (ap (λ i. run_on g n count i w) same ∙ ap (run_on g n count d) alike)
goes_on g (suc k) n count c d w x h =
    let a : suc k + n ≡ suc (k + n) = omega arith in
    let b : count + 1 + k ≡ count + suc k = omega arith in
    rw (a, ← b) (on_heard g k n count d w x (step g.space c) (goes_on g k) h)

-- traces grow
pub grows_none : (w : World) → IsPrefix w.trace w.trace
grows_none w = record { rest = []; is = sym (append-nil w.trace) }

pub grows_then : (u v w : World) → IsPrefix u.trace v.trace → IsPrefix v.trace w.trace → IsPrefix u.trace w.trace
grows_then u v w a b = record { rest = a.rest ++ b.rest; is = b.is ∙ ap (λ t. t ++ b.rest) a.is ∙ append_assoc u.trace a.rest b.rest }

abbrev world_served : Served → World
world_served (Finishes how w) = w
world_served (Replies reply w) = w

abbrev Goes_from : World → Served → Type 0
Goes_from w sv = IsPrefix w.trace (world_served sv).trace

either : (w : World) (b : Bool) (x y : Served) → Goes_from w x → Goes_from w y → Goes_from w (cond b x y)
either w true x y f h = f
either w false x y f h = h

read_grows : (w : World) (i : ℕ) (name : List ℕ) (o : Option (List ℕ)) → Goes_from w (reads w i name o)
read_grows w i name None = grows_none w
read_grows w i name (Some contents) = either w (leb (length contents) 16777216) (Replies i (with_stream w i (Reading name contents))) (Replies 0 w) (grows_none w) (grows_none w)

open_grows : (folder : Folder) (w : World) (i : ℕ) (name : List ℕ) (mode : ℕ) → Goes_from w (opens_at folder w i name mode)
open_grows Closed w i name mode = grows_none w
open_grows (Holding files) w i name mode =
    either w (eqb mode 0) (reads w i name (finite.get (files_of files w.trace) name)) (Replies i (with_stream w i (Writing name []))) (read_grows w i name (finite.get (files_of files w.trace) name)) (grows_none w)

opens_grow : (folder : Folder) (w : World) (name : List ℕ) (mode : ℕ) → Goes_from w (opens folder w name mode)
opens_grow folder w name mode =
    let i = free_stream w.streams 1 in
    either w (not (eqb i 0) && (is_file_name name && not (list_any (is_named name) w.streams))) (opens_at folder w i name mode) (Replies 0 w) (open_grows folder w i name mode) (grows_none w)

close_grows : (w : World) (i : ℕ) (s : Stream) → Goes_from w (closes w i s)
close_grows w i Free = grows_none w
close_grows w i (Reading name left) = grows_none w
close_grows w i (Writing name contents) = record { rest = _; is = refl }

put_grows : (w : World) (i : ℕ) (bytes : List ℕ) (s : Stream) → Goes_from w (puts w i bytes s)
put_grows w i bytes Free = grows_none w
put_grows w i bytes (Reading name left) = grows_none w
put_grows w i bytes (Writing name contents) =
    either w (leb (length contents + length bytes) 16777216) (Replies 0 (with_stream w i (Writing name (contents ++ bytes)))) (Replies 2 w) (grows_none w) (grows_none w)

get_grows : (w : World) (i : ℕ) (s : Stream) → Goes_from w (gets w i s)
get_grows w i Free = grows_none w
get_grows w i (Reading name []) = grows_none w
get_grows w i (Reading name (b ∷ left)) = grows_none w
get_grows w i (Writing name contents) = grows_none w

got_grows : (w : World) (left : List ℕ) → Goes_from w (got w left)
got_grows w [] = record { rest = _; is = refl }
got_grows w (b ∷ left) = record { rest = _; is = refl }

served_grows : (folder : Folder) (m : Memory) (what : Service) (w : World) → Goes_from w (served folder m what w)
served_grows folder m End w = record { rest = _; is = refl }
served_grows folder m (Stop kind line) w = record { rest = _; is = refl }
served_grows folder m (PutConsole at size) w = record { rest = _; is = refl }
served_grows folder m GetConsole w = got_grows w w.left
served_grows folder m (Open at size mode) w = opens_grow folder (record w { opened = true }) (bytes_at m at size) mode
served_grows folder m (Close i) w = close_grows w i (stream w i)
served_grows folder m (PutStream i at size) w = put_grows w i (bytes_at m at size) (stream w i)
served_grows folder m (GetStream i) w = get_grows w i (stream w i)
served_grows folder m (State i) w = grows_none w

told_world : (c : Cpu) (sv : Served) → world_at (told c sv) ≡ world_served sv
told_world c (Finishes how w) = refl
told_world c (Replies reply w) = refl

heard_grows : (g : Ground) (w : World) (o : Outcome) → IsPrefix w.trace (world_at (heard g.folder w o)).trace
heard_grows g w (Goes to) = grows_none w
heard_grows g w (Asks what to) = subst (λ v. IsPrefix w.trace v.trace) (sym (told_world to (served g.folder to.memory what w))) (served_grows g.folder to.memory what w)
heard_grows g w (Faults why at) = grows_none w

next_grows : (g : Ground) (m : Moment) → IsPrefix (world_at m).trace (world_at (next_moment g m)).trace
next_grows g (Live c w) = heard_grows g w (step g.space c)
next_grows g (Finished how w) = grows_none w
next_grows g (Broken why pc w) = grows_none w

pub later_grows : (g : Ground) (n : ℕ) (m : Moment) → IsPrefix (world_at m).trace (world_at (later g n m)).trace
later_grows g zero m = grows_none (world_at m)
later_grows g (suc n) m = grows_then (world_at m) (world_at (next_moment g m)) (world_at (later g n (next_moment g m))) (next_grows g m) (later_grows g n (next_moment g m))

pub grows_between : (g : Ground) (a b : ℕ) (m : Moment) → a ≤ b → IsPrefix (world_at (later g a m)).trace (world_at (later g b m)).trace
grows_between g a b m le = subst (λ x. IsPrefix (world_at (later g a m)).trace (world_at x).trace) (sym (later_from g a b m le)) (later_grows g (b - a) (later g a m))

pub trace_grows : (g : Ground) (k n count : ℕ) (c : Cpu) (w : World) → k ≤ n → IsPrefix (run_on g k count c w).world.trace (run_on g n count c w).world.trace
trace_grows g k n count c w le =
    let a = (run_shows g k count c w).world in
    let b = (run_shows g n count c w).world in
    rw (a, b) (grows_between g k n (Live c w) le)

-- before the machine comes somewhere, it goes on
live_before : (g : Ground) (n : ℕ) (m : Moment) (d : Cpu) (x : World) → later g n m ≡ Live d x → (c : Cpu) × (w : World) × (m ≡ Live c w)
live_before g n (Live c w) d x h = (c, w, refl)
live_before g n (Finished how w) d x h = let e = over_stays g n how w in absurd (cc)
live_before g n (Broken why pc w) d x h = let e = broken_stays g n why pc w in absurd (cc)

pub underway : (g : Ground) (k n count : ℕ) (c d : Cpu) (w x : World) → later g k (Live c w) ≡ Live d x → n ≤ k → IsUnderway (run_on g n count c w) (count + n) x
unfolding run
underway g k n count c d w x h le =
    let e = later_from g n k (Live c w) le in
    let at = live_before g (k - n) (later g n (Live c w)) d x (sym e ∙ h) in
    let on = goes_on g n 0 count c at.0 w at.1 at.2 in
    let z : n + 0 ≡ n = omega arith in
    let r : run_on g n count c w ≡ record { verdict = Going; count = count + n; world = at.1 } = rw z at on in
    rw r (record { going = refl; counted = refl; so_far = subst (λ m. IsPrefix (world_at m).trace x.trace) at.2 (subst (λ m. IsPrefix (world_at (later g n (Live c w))).trace (world_at m).trace) h (grows_between g n k (Live c w) le)) })

-- where the host ends a run
ends_told : (g : Ground) (n count : ℕ) (c : Cpu) (how : Over) (v : World) (sv : Served) → told c sv ≡ Finished how v → resumed (run g.folder g.space n (count + 1)) (count + 1) c sv ≡ record { verdict = verdict_of how; count = count + 1; world = v }
ends_told g n count c how v (Finishes other w) h = let a : other ≡ how = cc in let b : w ≡ v = cc in rw (a, b) refl
ends_told g n count c how v (Replies reply w) h = absurd (cc)

ends_heard : (g : Ground) (n count : ℕ) (w v : World) (how : Over) (o : Outcome) → heard g.folder w o ≡ Finished how v → continued g.folder (run g.folder g.space n (count + 1)) count w o ≡ record { verdict = verdict_of how; count = count + 1; world = v }
ends_heard g n count w v how (Goes to) h = absurd (cc)
ends_heard g n count w v how (Asks what to) h = ends_told g n count to how v (served g.folder to.memory what w) h
ends_heard g n count w v how (Faults why at) h = absurd (cc)

pub run_is_over : (g : Ground) (k n count : ℕ) (c d : Cpu) (w x v : World) (how : Over) →
    later g k (Live c w) ≡ Live d x → later g (k + 1) (Live c w) ≡ Finished how v → k < n → run_on g n count c w ≡ record { verdict = verdict_of how; count = count + k + 1; world = v }
unfolding run
run_is_over g k n count c d w x v how h f l =
    let e : n ≡ k + suc (n - k - 1) = omega arith in
    let one : next_moment g (Live d x) ≡ Finished how v = sym (ap (later g 1) h) ∙ (sym (later_add g k 1 (Live c w)) ∙ f) in
    ap (λ i. run_on g i count c w) e ∙ (goes_on g k (suc (n - k - 1)) count c d w x h ∙ ends_heard g (n - k - 1) (count + k) x v how (step g.space d) one)
