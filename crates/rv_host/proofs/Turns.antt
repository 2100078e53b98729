-- One turn of the host.
use Rattle.std.proofs.Common.{◌≡◌, ◌≢◌, ℕ, ◌+◌, ◌-◌, ◌<◌, ◌≤◌, List, true, replicate, append-nil, Some, None, refl, arith, ap, sym, ◌∙◌, subst}
use Rattle.tu_base.specs.declared.event.Event.{Event}
use Rattle.tu_base.specs.Files.{Files}
use Rattle.rv_isa.specs.declared.service.Service.{Service}
use Rattle.rv_isa.specs.Step.{Cpu, Space}
use Rattle.rv_image.specs.Steps.{steps}
use Rattle.rv_image.specs.Streams.{Folder, Holding, Free, World, start_world, Over, Served, Finishes, Replies, served}
use Rattle.rv_image.specs.Run.{MachineVerdict, verdict_of, Ran, run, rests, resumed, answered}
use Rattle.rv_machine.specs.Device.{Device, space_of, cpu_of, came}
use Rattle.rv_machine.specs.Lists.{memory_of}
use Rattle.rv_machine.specs.declared.pause.Pause.TheVariants.{Ask, Paused}
use Rattle.rv_machine.specs.declared.pause.Pause.{Pause}
use Rattle.rv_host.specs.Told.{Told, ShowsTrace, ShowsPart}
use Rattle.rv_host.specs.Served.{Seen, ShowsWorld, IsClosed, served_as, IsServed, IsCut, world_of}
use Rattle.rv_host.specs.Host.{run_on, verdict_told, IsWhole, Leaves}
use Rattle.rv_host.specs.declared.service.Reply.{Reply}
use Rattle.rv_host.specs.declared.service.Reply.TheVariants.{Word}
use Rattle.rv_host.specs.declared.service.ServiceError.{ServiceError}
use Rattle.rv_host.specs.declared.service.ServiceError.TheVariants.{Console}
use Rattle.rv_host.specs.declared.host.HostEnd.{HostEnd}
use Rattle.rv_host.specs.declared.host.HostEnd.TheVariants.{ConsoleFault as console_fault}
use Rattle.rv_host.proofs.Asking.{HasAsked, IsPaused, has_asked, paused_all}
use Rattle.rv_host.proofs.Closed.{stays_closed}

abbrev pub RunsRest : Type 0
RunsRest = (folder : Folder) (s : Space) (n k : ℕ) (c : Cpu) (w : World) → run folder s n k c w ≡ rests folder s (k + n) w (steps s n k c)

-- The run goes on from the machine as it is, in a world that is seen.
pub record IsUnderway (ran : ℕ → Ran) (events : List Event) (files : Files) (d : Device) (now : Seen) : Type 0 where
  pub world : World
  pub told : ShowsWorld events files now world
  pub closed : IsClosed world
  pub goes : (n : ℕ) → d.count ≤ n → run (Holding files) (space_of d) (n - d.count) d.count (cpu_of d) world ≡ ran n

pub begins : (d : Device) (input : List ℕ) (events : List Event) (files : Files) (now : Seen) → d.count ≡ 0 →
    now.told.left ≡ Some input → now.told.events ≡ Some events → now.told.files ≡ Some files → now.streams ≡ replicate 10 Free →
    IsUnderway (run_on d input files) events files d now
begins d input events files now fresh left_is events_are files_are streams_are = record {
  world = start_world input;
  told = record {
    input = left_is;
    shows = record { done = events_are ∙ ap Some (sym (append-nil events)); kept = files_are };
    streams = streams_are;
  };
  closed = λ _. refl;
  goes = λ n h. let all : n - 0 ≡ n = omega arith in rw (fresh, all) refl;
}

-- all that the budget allows, from where the machine rests
pub turn : RunsRest → (ran : ℕ → Ran) (events : List Event) (files : Files) (d e : Device) (now : Seen) (budget : ℕ) (p : Pause) →
    (u : IsUnderway ran events files d now) → d.count ≤ budget → came p e ≡ steps (space_of d) (budget - d.count) d.count (cpu_of d) →
    ran budget ≡ rests (Holding files) (space_of d) budget u.world (came p e)
turn law ran events files d e now budget p u h is =
    let all : d.count + (budget - d.count) ≡ budget = omega arith in
    sym (u.goes budget h) ∙ law (Holding files) (space_of d) (budget - d.count) d.count (cpu_of d) u.world
    ∙ ap (λ n. rests (Holding files) (space_of d) n u.world (steps (space_of d) (budget - d.count) d.count (cpu_of d))) all
    ∙ ap (rests (Holding files) (space_of d) budget u.world) (sym is)

pub asked_well : (d e : Device) (n : ℕ) (what : Service) → came (Ask what) e ≡ steps (space_of d) n d.count (cpu_of d) →
    HasAsked (space_of d) d.count (cpu_of d) what e.count (cpu_of e)
asked_well d e n what is = has_asked (space_of d) n d.count (cpu_of d) what e.count (cpu_of e) is

-- any number of instructions from a service on
asked_turn : RunsRest → (ran : ℕ → Ran) (events : List Event) (files : Files) (d e : Device) (now : Seen) (what : Service) →
    (u : IsUnderway ran events files d now) → HasAsked (space_of d) d.count (cpu_of d) what e.count (cpu_of e) → (n : ℕ) → e.count ≤ n →
    ran n ≡ resumed (run (Holding files) (space_of d) (n - e.count) e.count) e.count (cpu_of e) (served (Holding files) (memory_of e.bytes) what u.world)
asked_turn law ran events files d e now what u has n h =
    let past : d.count < e.count = has.later in
    let all : d.count + (n - d.count) ≡ n = omega arith in
    sym (u.goes n (omega arith)) ∙ law (Holding files) (space_of d) (n - d.count) d.count (cpu_of d) u.world
    ∙ ap (λ m. rests (Holding files) (space_of d) m u.world (steps (space_of d) (n - d.count) d.count (cpu_of d))) all
    ∙ ap (rests (Holding files) (space_of d) n u.world) (has.again (n - d.count) (omega arith))

moved : (files : Files) (s t : Space) (k j : ℕ) (c d : Cpu) (n : ℕ) (w : World) → t ≡ s → j ≡ k → d ≡ c →
    run (Holding files) t (n - j) j d w ≡ run (Holding files) s (n - k) k c w
moved files s t k j c d n w space count cpu = rw (space, count, cpu) refl

-- after a reply the run goes on
pub goes_on : RunsRest → (ran : ℕ → Ran) (events : List Event) (files : Files) (d e f : Device) (before after : Seen) (what : Service) (reply : ℕ) →
    (u : IsUnderway ran events files d before) → HasAsked (space_of d) d.count (cpu_of d) what e.count (cpu_of e) →
    IsServed (Word reply) (served (Holding files) (memory_of e.bytes) what u.world) events files after →
    space_of f ≡ space_of d → f.count ≡ e.count → cpu_of f ≡ answered (cpu_of e) reply → IsUnderway ran events files f after
goes_on law ran events files d e f before after what reply u has is_served space count cpu = record {
  world = is_served.world;
  told = is_served.told;
  closed = let P : Served → Type 0 = λ v. IsClosed (world_of v) in subst P is_served.is (stays_closed files (memory_of e.bytes) what u.world u.closed);
  goes = λ n h.
      let within : e.count ≤ n = omega arith in
      moved files (space_of d) (space_of f) e.count f.count (answered (cpu_of e) reply) (cpu_of f) n is_served.world space count cpu
      ∙ sym (ap (resumed (run (Holding files) (space_of d) (n - e.count) e.count) e.count (cpu_of e)) is_served.is)
      ∙ sym (asked_turn law ran events files d e before what u has n within);
}

whole_of : (ran : Ran) (verdict : MachineVerdict) (count : ℕ) (w : World) (events : List Event) (files : Files) (now : Seen) →
    ran ≡ record { verdict = verdict; count = count; world = w } → ShowsWorld events files now w → IsWhole ran verdict count events files now.told
whole_of ran verdict count w events files now is tells = record {
  ends = ap (λ (r : Ran). r.verdict) is;
  after = ap (λ (r : Ran). r.count) is;
  left = tells.input ∙ ap (λ (r : Ran). Some r.world.left) (sym is);
  shows = let P : Ran → Type 0 = λ r. ShowsTrace events files r.world.trace now.told in subst P (sym is) tells.shows;
}

pub leaves_whole : (ran : ℕ → Ran) (budget : ℕ) (end : HostEnd) (verdict : MachineVerdict) (count : ℕ) (w : World) (events : List Event) (files : Files) (now : Seen) →
    verdict_told end ≡ Some verdict → ran budget ≡ record { verdict = verdict; count = count; world = w } → ShowsWorld events files now w →
    Leaves ran budget end count events files now.told
leaves_whole ran budget end verdict count w events files now told is tells = record {
  whole = λ v is_v.
      let same : verdict ≡ v = cc in
      let P : MachineVerdict → Type 0 = λ x. IsWhole (ran budget) x count events files now.told in
      subst P same (whole_of (ran budget) verdict count w events files now is tells);
  broken = λ none. let never : Some verdict ≡ None = sym told ∙ none in absurd cc;
  opened = λ none. let never : Some verdict ≡ None = sym told ∙ none in absurd cc;
}

-- after the last service the run is over
pub leaves_over : RunsRest → (ran : ℕ → Ran) (budget : ℕ) (end : HostEnd) (events : List Event) (files : Files) (d e : Device) (before after : Seen)
    (what : Service) (reply : Reply) (how : Over) → verdict_told end ≡ Some (verdict_of how) → ((w : World) → served_as reply w ≡ Finishes how w) →
    (u : IsUnderway ran events files d before) → HasAsked (space_of d) d.count (cpu_of d) what e.count (cpu_of e) →
    IsServed reply (served (Holding files) (memory_of e.bytes) what u.world) events files after → e.count ≤ budget →
    Leaves ran budget end e.count events files after.told
leaves_over law ran budget end events files d e before after what reply how told stands u has is_served h =
    leaves_whole ran budget end (verdict_of how) e.count is_served.world events files after told
    (asked_turn law ran events files d e before what u has budget h
    ∙ ap (resumed (run (Holding files) (space_of d) (budget - e.count) e.count) e.count (cpu_of e)) (is_served.is ∙ stands is_served.world))
    is_served.told

pub spent_all : (d e : Device) (budget : ℕ) → d.count ≤ budget → came Paused e ≡ steps (space_of d) (budget - d.count) d.count (cpu_of d) → e.count ≡ budget
spent_all d e budget h is = let all : e.count ≡ d.count + (budget - d.count) = paused_all (space_of d) (budget - d.count) d.count (cpu_of d) e.count (cpu_of e) is in omega arith

world_left : (files : Files) (s : Space) (n k : ℕ) (c : Cpu) (v : Served) → n ≡ 0 → (resumed (run (Holding files) s n k) k c v).world ≡ world_of v
unfolding run
world_left files s n k c (Finishes how w) none = refl
world_left files s n k c (Replies reply w) none = rw none refl

-- one instruction before the machine asks for a service, the run is in the world before that service
one_before : RunsRest → (ran : ℕ → Ran) (events : List Event) (files : Files) (d e : Device) (now : Seen) (what : Service) →
    (u : IsUnderway ran events files d now) → HasAsked (space_of d) d.count (cpu_of d) what e.count (cpu_of e) → (ran (e.count - 1)).world ≡ u.world
one_before law ran events files d e now what u has =
    let past : d.count < e.count = has.later in
    let n : ℕ = e.count - 1 in
    let p : IsPaused (steps (space_of d) (n - d.count) d.count (cpu_of d)) (d.count + (n - d.count)) = has.before (n - d.count) (omega arith) in
    ap (λ (r : Ran). r.world)
    (sym (u.goes n (omega arith)) ∙ law (Holding files) (space_of d) (n - d.count) d.count (cpu_of d) u.world
    ∙ ap (rests (Holding files) (space_of d) (d.count + (n - d.count)) u.world) p.is)

-- a service was cut off
pub leaves_cut : RunsRest → (ran : ℕ → Ran) (budget : ℕ) (end : HostEnd) (error : ServiceError) (events : List Event) (files : Files) (d e : Device) (before : Seen) (told : Told)
    (what : Service) → verdict_told end ≡ None → (end ≢ console_fault → error ≢ Console) → (u : IsUnderway ran events files d before) →
    HasAsked (space_of d) d.count (cpu_of d) what e.count (cpu_of e) →
    IsCut error u.world (served (Holding files) (memory_of e.bytes) what u.world) events files told → Leaves ran budget end e.count events files told
leaves_cut law ran budget end error events files d e before told what none why u has cut =
    let v : Served = served (Holding files) (memory_of e.bytes) what u.world in
    let left : (ran e.count).world ≡ world_of v =
    ap (λ (r : Ran). r.world) (asked_turn law ran events files d e before what u has e.count (omega arith))
    ∙ world_left files (space_of d) (e.count - e.count) e.count (cpu_of e) v (omega arith) in
    let due : (ran (e.count - 1)).world ≡ u.world = one_before law ran events files d e before what u has in
    let P : World → World → Type 0 = λ x w. ShowsPart events files x.trace w.trace told in
    let Q : World → Type 0 = λ w. w.opened ≡ true in
    record {
      whole = λ verdict is. let never : None ≡ Some verdict = sym none ∙ is in absurd cc;
      broken = λ _. subst (λ x. P x (ran e.count).world) (sym due) (subst (P u.world) (sym left) cut.part);
      opened = λ _ other. subst Q (sym left) (cut.opened (why other) u.closed);
    }
