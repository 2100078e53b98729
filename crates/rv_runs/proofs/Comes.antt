-- Where a run comes to, put together.
use Rattle.std.proofs.Common.{◌≡◌, ℕ, suc, ◌+◌, ◌≤◌, sym, ap, subst, ◌∙◌, arith}
use Rattle.rv_isa.specs.declared.instr.Instr.{Instr}
use Rattle.rv_isa.specs.Step.{Cpu, execute, executes, performs, step}
use Rattle.rv_isa.proofs.RoundTrip.{again}
use Rattle.rv_image.specs.Streams.{World}
use Rattle.rv_runs.specs.Moments.{Ground, Moment, Live, heard, next_moment, later, Comes}
use Rattle.rv_runs.specs.Stands.{StandsAt}
use Rattle.rv_runs.proofs.Stretches.{later_add}

pub done : (g : Ground) (m : Moment) (P : Moment → Type 0) → P m → Comes g 0 0 m P
done g m P h = record { count = 0; low = omega arith; high = omega arith; there = h }

pub widen : (g : Ground) (a b x y : ℕ) (m : Moment) (P : Moment → Type 0) → Comes g a b m P → x ≤ a → b ≤ y → Comes g x y m P
widen g a b x y m P c l h = record { count = c.count; low = let z = c.low in omega arith; high = let z = c.high in omega arith; there = c.there }

pub comes_then : (g : Ground) (a b c d : ℕ) (m : Moment) (P Q : Moment → Type 0) → Comes g a b m P → ((x : Moment) → P x → Comes g c d x Q) → Comes g (a + c) (b + d) m Q
comes_then g a b c d m P Q h f =
    let k = f (later g h.count m) h.there in
    record { count = h.count + k.count; low = let x = h.low in let y = k.low in omega arith; high = let x = h.high in let y = k.high in omega arith; there = subst Q (sym (later_add g h.count k.count m)) k.there }

pub next : (g : Ground) (a b : ℕ) (m n : Moment) (P : Moment → Type 0) → next_moment g m ≡ n → Comes g a b n P → Comes g (a + 1) (b + 1) m P
next g a b m n P e c =
    record { count = suc c.count; low = let z = c.low in omega arith; high = let z = c.high in omega arith; there = subst (λ x. P (later g c.count x)) (sym e) c.there }

-- the machine executes what stands at its place
pub executed : (g : Ground) (c : Cpu) (op : Instr) → StandsAt g.space c.pc op → step g.space c ≡ execute g.space op c
unfolding step
executed g c op h = ap (λ o. executes g.space o c) h.word ∙ ap (λ o. performs g.space o c) (again op h.fits)

-- one instruction
pub does : (g : Ground) (a b : ℕ) (c : Cpu) (w : World) (op : Instr) (P : Moment → Type 0) → StandsAt g.space c.pc op → Comes g a b (heard g.folder w (execute g.space op c)) P → Comes g (a + 1) (b + 1) (Live c w) P
does g a b c w op P h k = next g a b (Live c w) (heard g.folder w (execute g.space op c)) P (ap (heard g.folder w) (executed g c op h)) k
