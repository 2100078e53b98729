-- What a run leaves, as a command answers it.
use Rattle.std.proofs.Common.{◌≡◌, ◌≢◌, ℕ, ◌-◌, ◌≤◌, List, [], append-nil, true, refl, ap, sym, ◌∙◌, subst, arith}
use Rattle.std.specs.Prelude.{Some, None}
use Rattle.tu_base.specs.declared.event.Event.{Event}
use Rattle.tu_base.specs.Files.{Files}
use Rattle.rv_image.specs.Picture.{Picture}
use Rattle.rv_image.specs.Start.{start_space, start_cpu}
use Rattle.rv_image.specs.Streams.{Holding}
use Rattle.rv_image.specs.Run.{Ran, machine_run, run}
use Rattle.rv_machine.specs.Device.{Device, space_of, cpu_of}
use Rattle.rv_host.specs.Told.{ShowsPart}
use Rattle.rv_host.specs.Host.{IsWhole, Leaves, run_on, verdict_told}
use Rattle.rv_host.specs.declared.host.HostEnd.{HostEnd}
use Rattle.rv_host.specs.declared.host.HostEnd.TheVariants.{Ended, Stopped, Spent, Fault, ConsoleFault, CabinetFault, Memory}
use Rattle.tu_run.specs.declared.report.Status.{Status}
use Rattle.tu_run.specs.declared.report.Status.TheVariants.{OutOfMemory, Spent as spent, CabinetFault as cabinet_fault}
use Rattle.tu_run.specs.Outside.{Outside, told_of}
use Rattle.tu_run.specs.Ran.{RunsImage, verdict_shown}
use Rattle.tu_run.specs.Made.{status_of}

same_verdict : (end : HostEnd) → verdict_shown (status_of end) ≡ verdict_told end
same_verdict Ended = refl
same_verdict (Stopped kind line) = refl
same_verdict Spent = refl
same_verdict (Fault kind pc) = refl
same_verdict ConsoleFault = refl
same_verdict CabinetFault = refl
same_verdict Memory = refl

same_run : (d : Device) (p : Picture) → space_of d ≡ start_space p → cpu_of d ≡ start_cpu p → (input : List ℕ) (files : Files) (n : ℕ) → run_on d input files n ≡ machine_run p input (Holding files) n
same_run d p s c input files n = rw (s, c) refl

spent_end : (end : HostEnd) → status_of end ≡ spent → end ≡ Spent
spent_end Ended e = absurd (cc e)
spent_end (Stopped kind line) e = absurd (cc e)
spent_end Spent e = refl
spent_end (Fault kind pc) e = absurd (cc e)
spent_end ConsoleFault e = absurd (cc e)
spent_end CabinetFault e = absurd (cc e)
spent_end Memory e = absurd (cc e)

memory_end : (end : HostEnd) → status_of end ≡ OutOfMemory → end ≡ Memory
memory_end Ended e = absurd (cc e)
memory_end (Stopped kind line) e = absurd (cc e)
memory_end Spent e = absurd (cc e)
memory_end (Fault kind pc) e = absurd (cc e)
memory_end ConsoleFault e = absurd (cc e)
memory_end CabinetFault e = absurd (cc e)
memory_end Memory e = refl

cabinet_end : (end : HostEnd) → status_of end ≡ cabinet_fault → end ≡ CabinetFault
cabinet_end Ended e = absurd (cc e)
cabinet_end (Stopped kind line) e = absurd (cc e)
cabinet_end Spent e = absurd (cc e)
cabinet_end (Fault kind pc) e = absurd (cc e)
cabinet_end ConsoleFault e = absurd (cc e)
cabinet_end CabinetFault e = refl
cabinet_end Memory e = absurd (cc e)

-- what the host's call says of a machine
abbrev pub LeavesRun : Device → ℕ → HostEnd → ℕ → Outside → Outside → Type 0
LeavesRun d budget end count before after =
    (input : List ℕ) (events : List Event) (files : Files) → before.left ≡ Some input → before.events ≡ Some events → before.files ≡ Some files →
    Leaves (run_on d input files) budget end count events files (told_of after)

-- a loaded image that was run
pub image_ran : (d : Device) (p : Picture) (budget count : ℕ) (end : HostEnd) (status : Status) (before after : Outside) → space_of d ≡ start_space p → cpu_of d ≡ start_cpu p → status ≡ status_of end
    → LeavesRun d budget end count before after → count ≤ budget → (end ≡ Spent → count ≡ budget) → RunsImage p budget before after status count
image_ran d p budget count end status before after s c is leaves within all = record {
  told = λ input events files t.
      let l = leaves input events files t.left t.done t.kept in
      let same = same_run d p s c input files in
      let asked : (other : HostEnd) → end ≡ other → verdict_told other ≡ None → other ≢ ConsoleFault → (machine_run p input (Holding files) count).world.opened ≡ true =
      λ other e none apart. subst (λ (r : Ran). r.world.opened ≡ true) (same count) (l.opened (ap verdict_told e ∙ none) (λ f. apart (sym e ∙ f))) in
      record {
        verdict_leaves_all = λ verdict v. subst (λ r. IsWhole r verdict count events files (told_of after)) (same budget) (l.whole verdict (sym (same_verdict end) ∙ (ap verdict_shown (sym is) ∙ v)));
        fault_leaves_prefix = λ v.
            let part = l.broken (sym (same_verdict end) ∙ (ap verdict_shown (sym is) ∙ v)) in
            subst (λ (r : Ran). ShowsPart events files (machine_run p input (Holding files) (count - 1)).world.trace r.world.trace (told_of after)) (same count)
            (subst (λ (r : Ran). ShowsPart events files r.world.trace (run_on d input files count).world.trace (told_of after)) (same (count - 1)) part);
        out_of_memory = λ e closed.
            let opened : (machine_run p input (Holding files) count).world.opened ≡ true = asked Memory (memory_end end (sym is ∙ e)) refl (λ c. cc c) in
            absurd (cc (opened, closed));
        cabinet_fault = λ e. asked CabinetFault (cabinet_end end (sym is ∙ e)) refl (λ c. cc c);
      };
  within = within;
  spent = λ e. all (spent_end end (sym is ∙ e));
}

-- an image for which there is no memory
pub not_loaded : (p : Picture) (budget : ℕ) (before : Outside) → RunsImage p budget before before OutOfMemory 0
unfolding run
not_loaded p budget before = record {
  told = λ input events files t. record {
    verdict_leaves_all = λ verdict v. absurd (cc v);
    fault_leaves_prefix = λ _. record {
      done = [];
      shows = record { done = t.done ∙ ap Some (sym (append-nil events)); kept = t.kept };
      nothing_held_back = record { rest = []; is = refl };
      nothing_else = record { rest = []; is = refl };
    };
    out_of_memory = λ _ _. refl;
    cabinet_fault = λ e. absurd (cc e);
  };
  within = omega arith;
  spent = λ e. absurd (cc e);
}
