-- The laws of the meaning of programs: the same run, or a longer one.
use Rattle.std.proofs.Common.{◌≡◌, ◌≢◌, ◌<◌, ℕ, ◌+◌, ◌≤◌, List, [], ◌++◌, Option, None, ◌⊎◌, inl, inr, refl, sym, ◌∙◌, ap, arith, append_assoc}
use Rattle.std.proofs.lemmas.List.{append-nil}
use Rattle.tu_base.specs.Prefix.{IsPrefix}
use Rattle.tu_base.specs.Shapes.{all_words}
use Rattle.tu_base.specs.Streams.{Folder}
use Rattle.tu_core.specs.Core.{Program}
use Rattle.tu_core.specs.Rooms.{scalars_from}
use Rattle.tu_meaning.specs.Laws.{BeganTurns, KeepsTurns}
use Rattle.tu_meaning.specs.Meaning.{Meant, GoesOn, meant, last_kept}
use Rattle.tu_meaning.specs.Programs.{start, execution_over}
use Rattle.tu_meaning.specs.Words.{Flow}
use Rattle.tu_meaning.specs.Steps.{Added, Outcome, Done, Raised, Going, NoRule}
use Rattle.tu_meaning.specs.Store.{Passing}
use Rattle.tu_meaning.proofs.Alike.{Alike, IsOut}
use Rattle.tu_meaning.proofs.WordForms.{Any}
use Rattle.tu_meaning.proofs.Forms.{Kept, sim_parts, sim_calls}

both : {A B C : Type 0} (f : A → B → C) {a a' : A} {b b' : B} → a ≡ a' → b ≡ b' → f a b ≡ f a' b'
both f {a} {a'} {b} {b'} e d = ap (λ x. f x b) e ∙ ap (f a') d

-- a beginning of what is meant, at no greater cost
record Grows (m m' : Meant) : Type 0 where
  trace : IsPrefix m.trace m'.trace
  log : IsPrefix m.log m'.log
  units : m.units ≤ m'.units

grows_same : (m m' : Meant) → m' ≡ m → Grows m m'
grows_same m m' e = record {
  trace = record { rest = []; is = ap (λ z. z.trace) e ∙ sym (append-nil m.trace) };
  log = record { rest = []; is = ap (λ z. z.log) e ∙ sym (append-nil m.log) };
  units = omega (arith, ap (λ z. z.units) e);
}

module _ (S : Type 0) (p : Passing S) (store : S) where
  abbrev Same : S → S → Type 0
  Same s r = s ≡ r

  kept : (t u : ℕ) → t ≤ u → Kept S S p p t u Same
  kept t u le = record {
    more = le;
    fetch = λ q s r e. ap (λ x. p.fetch x q) e;
    bounds = λ root s r e. ap (λ x. p.bounds x root) e;
    assign = λ q content s r e. ap (λ x. p.assign x q content) e;
    declare = λ root h s r e. ap (λ x. p.declare x root h) e;
    enter = λ actuals s r e. ap (λ x. p.enter actuals x) e;
    leave = λ actuals o s o' r d e. both (λ x y. p.leave actuals x y) d e;
    bind = λ is_var x q s r e. ap (λ y. p.bind is_var x q y) e;
    unbind = λ is_var x q o s o' r d e. both (λ y z. p.unbind is_var x q y z) d e;
  }

  abbrev run_of : Program → List ℕ → Option Folder → (t depth : ℕ) → Added × Outcome S Flow
  run_of program input files t depth = execution_over S p store program input files t depth

  abbrev means : Program → List ℕ → Option Folder → ℕ → Meant
  means program input files t = meant (run_of program input files t t)

  -- a run beside one with no fewer turns and no smaller depth
  alike : (program : Program) (input : List ℕ) (files : Option Folder) (t u n m : ℕ) → t ≤ u → n ≤ m → t ≤ n → Alike S S t u Same 0 Same Any (run_of program input files t n).0 (run_of program input files t n).1 (run_of program input files u m)
  alike program input files t u n m le deeper enough =
      let k = kept t u le in
      let words = all_words program.shapes in
      (sim_parts S S p p t u Same k program words n m deeper _ _ (sim_calls S S p p t u Same k program words n m deeper) (scalars_from program.shapes 0 program.locals) None program.main).by
      (start store words program input files) store (omega (arith, enough)) (omega arith) refl

  module _ (t u : ℕ) (x : Added) (r : Added × Outcome S Flow) where
    -- what is over is the same
    over : (o : Outcome S Flow) → Alike S S t u Same 0 Same Any x o r → (meant (x, o)).standing ≢ GoesOn → meant r ≡ meant (x, o)
    over (Done a s) h done = ap (λ z. meant z) h.1
    over (Raised kind line s) h done = ap (λ z. meant z) h.1
    over (Going s) h done = absurd (done refl)
    over (NoRule s) h done = ap (λ z. meant z) h.1

    -- what was added so far, and what came later, with what is kept at the end
    grows : (o : Outcome S Flow) → Alike S S t u Same 0 Same Any x o r → Grows (meant (x, o)) (meant r)
    grows (Done a s) h = grows_same (meant (x, Done a s)) (meant r) (ap (λ z. meant z) h.1)
    grows (Raised kind line s) h = grows_same (meant {A = Flow} (x, Raised kind line s)) (meant r) (ap (λ z. meant z) h.1)
    grows (Going s) h = record {
      trace = record { rest = h.0.longer.more ++ last_kept r.1; is = ap (λ z. z ++ last_kept r.1) h.0.longer.trace ∙ append_assoc x.trace h.0.longer.more (last_kept r.1) ∙ ap (λ z. z ++ (h.0.longer.more ++ last_kept r.1)) (sym (append-nil x.trace)) };
      log = record { rest = h.0.longer.later; is = h.0.longer.log };
      units = h.0.longer.units;
    }
    grows (NoRule s) h = grows_same (meant {A = Flow} (x, NoRule s)) (meant r) (ap (λ z. meant z) h.1)

    turns : (o : Outcome S Flow) → Alike S S t u Same 0 Same Any x o r → BeganTurns t o
    turns (Done a s) h = h.5
    turns (Raised kind line s) h = h.4
    turns (Going s) h = h.1
    turns (NoRule s) h = h.3

    -- with no more turns all is the same
    unmoved : (o : Outcome S Flow) → ¬ (t < u) → Alike S S t u Same 0 Same Any x o r → meant r ≡ meant (x, o)
    unmoved (Done a s) none h = ap (λ z. meant z) h.1
    unmoved (Raised kind line s) none h = ap (λ z. meant z) h.1
    unmoved (NoRule s) none h = ap (λ z. meant z) h.1
    unmoved (Going s) none h = by r.1 h.0.reason
      where
        by : (e : Outcome S Flow) → (t < u) ⊎ ((x ≡ r.0) × IsOut e) → meant (r.0, e) ≡ meant {A = Flow} (x, Going s)
        by e (inl w) = absurd (none w)
        by (Done a z) (inr e) = absurd e.1
        by (Raised kind line z) (inr e) = absurd e.1
        by (NoRule z) (inr e) = absurd e.1
        by (Going z) (inr e) = ap (λ (y : Added). record { trace = y.trace ++ []; standing = GoesOn; units = y.units; log = y.log }) (sym e.0)

  one_more : (program : Program) (input : List ℕ) (files : Option Folder) (t : ℕ) → Grows (means program input files t) (means program input files (t + 1))
  one_more program input files t = grows t (t + 1) _ (run_of program input files (t + 1) (t + 1)) _ (alike program input files t (t + 1) t (t + 1) (omega arith) (omega arith) (omega arith))

  pub keeps_turns : (program : Program) → KeepsTurns S p store program
  keeps_turns program = record {
    final = λ input files t u le. over t u _ (run_of program input files u u) _ (alike program input files t u t u le le (omega arith));
    trace = λ input files t. (one_more program input files t).trace;
    log = λ input files t. (one_more program input files t).log;
    units = λ input files t. (one_more program input files t).units;
    exact = λ input files t. turns t t _ (run_of program input files t t) _ (alike program input files t t t t (omega arith) (omega arith) (omega arith));
    deep = λ input files t depth le. unmoved t t _ (run_of program input files t depth) _ (λ w. omega (arith, w)) (alike program input files t t t depth (omega arith) le (omega arith));
  }
