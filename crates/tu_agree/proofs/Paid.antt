-- What the run of an image costs.
use Rattle.std.proofs.Common.{◌≡◌, ℕ, zero, suc, ◌+◌, arith}
use Rattle.rv_isa.specs.Step.{Cpu, Space, Outcome, Goes, Asks, Faults, step}
use Rattle.rv_image.specs.Start.{start_space, start_cpu}
use Rattle.rv_image.specs.Streams.{Folder, World, start_world, Over, AtItsEnd, StoppedBy, Served, Finishes, Replies, served}
use Rattle.rv_image.specs.Run.{Going, Ran, verdict_of, resumed, continued, run}
use Rattle.tu_agree.specs.Laws.{GoingCountsAll}

finished : (how : Over) (count total : ℕ) → verdict_of how ≡ Going → count ≡ total
finished AtItsEnd count total going = cc
finished (StoppedBy kind line) count total going = cc

after_service : (next : Cpu → World → Ran) (count total : ℕ) → ((c : Cpu) (w : World) → (next c w).verdict ≡ Going → (next c w).count ≡ total) → (c : Cpu) (answer : Served) → (resumed next count c answer).verdict ≡ Going → (resumed next count c answer).count ≡ total
after_service next count total later c (Finishes how w) going = finished how count total going
after_service next count total later c (Replies reply w) going = later _ w going

after_step : (folder : Folder) (next : Cpu → World → Ran) (count total : ℕ) → ((c : Cpu) (w : World) → (next c w).verdict ≡ Going → (next c w).count ≡ total) → (w : World) (o : Outcome) → (continued folder next count w o).verdict ≡ Going → (continued folder next count w o).count ≡ total
after_step folder next count total later w (Goes to) going = later to w going
after_step folder next count total later w (Asks what to) going = after_service next (count + 1) total later to (served folder to.memory what w) going
after_step folder next count total later w (Faults why at) going = cc

counts : (folder : Folder) (s : Space) (n count total : ℕ) → count + n ≡ total → (c : Cpu) (w : World) → (run folder s n count c w).verdict ≡ Going → (run folder s n count c w).count ≡ total
unfolding run
counts folder s zero count total e c w going = omega arith
counts folder s (suc n) count total e c w going = after_step folder (run folder s n (count + 1)) count total (counts folder s n (count + 1) total (omega arith)) w (step s c) going

pub going_counts_all : GoingCountsAll
going_counts_all image input folder n going = counts folder (start_space image) n 0 n (omega arith) (start_cpu image) (start_world input) going
