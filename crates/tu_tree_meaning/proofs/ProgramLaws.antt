-- The laws of the meaning of programs: the same run, or a longer one.
use Rattle.std.proofs.Common.{◌≡◌, ◌≢◌, ℕ, ◌+◌, ◌≤◌, List, [], Option, ◌⊎◌, inl, inr, refl, sym, ap, subst, arith}
use Rattle.std.specs.Prelude.{◌<◌}
use Rattle.tu_base.specs.Files.{Files}
use Rattle.tu_base.specs.declared.event.Verdict.TheVariants.{Going as verdict_going}
use Rattle.tu_token.specs.Rules.{r-program}
use Rattle.tu_token.specs.Syntax.{Of}
use Rattle.tu_tree_meaning.specs.Laws.{IsFinal, TraceGrows, UnitsGrow}
use Rattle.tu_tree_meaning.specs.Meaning.{meant}
use Rattle.tu_tree_meaning.specs.ProgramLaws.{BeganTurns, TurnsAreExact, DepthIsEnough}
use Rattle.tu_tree_meaning.specs.Programs.{start, execution, meaning}
use Rattle.tu_tree_meaning.specs.Steps.{Added, Outcome, Done, Raised, Going}
use Rattle.tu_tree_meaning.specs.Store.{Store, unset_store, by_copying}
use Rattle.tu_tree_meaning.proofs.Alike.{Alike, IsOut, Longer, longer_refl}
use Rattle.tu_tree_meaning.proofs.Forms.{Any, Kept, sim_program}

abbrev Same : Store → Store → Type 0
Same s r = s ≡ r

kept : (t u : ℕ) → t ≤ u → Kept Store Store by_copying by_copying t u Same
kept t u le = record {
  more = le;
  fetch = λ place s r e. ap (λ x. by_copying.fetch x place) e;
  assign = λ place v s r e. ap (λ x. by_copying.assign x place v) e;
  declare = λ x v s r e. ap (λ y. by_copying.declare y x v) e;
}

-- a run beside one with no fewer turns and no smaller depth
alike : (program : Of r-program) (input : List ℕ) (files : Option Files) (t u n m : ℕ) → t ≤ u → n ≤ m → t ≤ n → Alike Store Store t u Same 0 Same Any (execution program input files t n).0 (execution program input files t n).1 (execution program input files u m)
alike program input files t u n m le deeper enough =
    (sim_program Store Store by_copying by_copying t u Same (kept t u le) n m deeper [] program).by (start program input files) unset_store (omega (arith, enough)) (omega arith) refl

module _ (t u : ℕ) (x : Added) (r : Added × Outcome Store (Unit {0})) where
  -- what is over is the same
  settled : (o : Outcome Store (Unit {0})) → Alike Store Store t u Same 0 Same Any x o r → (meant (x, o)).verdict ≢ verdict_going → meant r ≡ meant (x, o)
  settled (Done a s) h over = ap (λ z. meant z) h.1
  settled (Raised kind line s) h over = ap (λ z. meant z) h.1
  settled (Going s) h over = absurd (over refl)

  longer : (o : Outcome Store (Unit {0})) → Alike Store Store t u Same 0 Same Any x o r → Longer x r.0
  longer (Done a s) h = subst (λ z. Longer x z.0) (sym h.1) (longer_refl x)
  longer (Raised kind line s) h = subst (λ z. Longer x z.0) (sym h.1) (longer_refl x)
  longer (Going s) h = h.0.longer

  turns : (o : Outcome Store (Unit {0})) → Alike Store Store t u Same 0 Same Any x o r → BeganTurns t o
  turns (Done a s) h = h.5
  turns (Raised kind line s) h = h.4
  turns (Going s) h = h.1

  -- with no more turns all is the same
  unmoved : (o : Outcome Store (Unit {0})) → ¬ (t < u) → Alike Store Store t u Same 0 Same Any x o r → meant r ≡ meant (x, o)
  unmoved (Done a s) none h = ap (λ z. meant z) h.1
  unmoved (Raised kind line s) none h = ap (λ z. meant z) h.1
  unmoved (Going s) none h = by r.1 h.0.reason
    where
      by : (e : Outcome Store (Unit {0})) → (t < u) ⊎ ((x ≡ r.0) × IsOut e) → meant (r.0, e) ≡ meant {A = Unit {0}} (x, Going s)
      by e (inl w) = absurd (none w)
      by (Done a z) (inr e) = absurd e.1
      by (Raised kind line z) (inr e) = absurd e.1
      by (Going z) (inr e) = ap (λ (y : Added). record { trace = y.trace; verdict = verdict_going; units = y.units }) (sym e.0)

pub is_final : (program : Of r-program) → IsFinal (meaning program)
is_final program input files t u le = settled t u _ (execution program input files u u) _ (alike program input files t u t u le le (omega arith))

one_more : (program : Of r-program) (input : List ℕ) (files : Option Files) (t : ℕ) → Longer (execution program input files t t).0 (execution program input files (t + 1) (t + 1)).0
one_more program input files t = longer t (t + 1) _ (execution program input files (t + 1) (t + 1)) _ (alike program input files t (t + 1) t (t + 1) (omega arith) (omega arith) (omega arith))

pub trace_grows : (program : Of r-program) → TraceGrows (meaning program)
trace_grows program input files t = record { rest = (one_more program input files t).more; is = (one_more program input files t).trace }

pub units_grow : (program : Of r-program) → UnitsGrow (meaning program)
units_grow program input files t = (one_more program input files t).units

pub turns_are_exact : TurnsAreExact
turns_are_exact program input files t = turns t t _ (execution program input files t t) _ (alike program input files t t t t (omega arith) (omega arith) (omega arith))

pub depth_is_enough : DepthIsEnough
depth_is_enough program input files t depth le = unmoved t t _ (execution program input files t depth) _ (λ w. omega (arith, w)) (alike program input files t t t depth (omega arith) le (omega arith))
