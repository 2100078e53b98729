-- What two passes keep, one after the other.
use Rattle.std.proofs.Common.{◌≡◌, ℕ, ◌+◌, ◌*◌, ◌≤◌, List, sym, ◌∙◌, subst, arith, max}
use Rattle.std.proofs.Math.Nat.{mul-le-mul_left, mul-add, mul_assoc, le-max_left, le-max_right}
use Rattle.tu_base.specs.Prefix.{IsPrefix}
use Rattle.tu_agree.specs.Outcomes.{CodeOutcome, CodeMeaning}
use Rattle.tu_agree.specs.Keep.{Eventually, SameOutcome, KeepsAnswer, KeepsThere, KeepsTurns, KeepsRun, KeepsInstructions, Bound, Turns, Instructions, Keeps}

-- the factors and the starts of costs x, y and z
dearer : (p ps q qs x y z : ℕ) → y ≤ p * x + ps → z ≤ q * y + qs → z ≤ (q * p) * x + (q * ps + qs)
dearer p ps q qs x y z first second =
    let grown : q * y ≤ q * (p * x + ps) = mul-le-mul_left q first in
    let parts : q * (p * x + ps) ≡ q * (p * x) + q * ps = mul-add q (p * x) ps in
    let factor : q * p * x ≡ q * (p * x) = mul_assoc q p x in
    omega arith

-- what is enough for both is enough for the second
enough : (p ps q qs n x y : ℕ) → y ≤ p * x + ps → (q * p) * x + (q * ps + qs) ≤ n → q * y + qs ≤ n
enough p ps q qs n x y first le = let both : q * y + qs ≤ (q * p) * x + (q * ps + qs) = dearer p ps q qs x y (q * y + qs) first (omega arith) in omega arith

-- two facts that hold from some numbers on
both : (P Q R : ℕ → Type 0) → ((s : ℕ) → P s → Q s → R s) → Eventually P → Eventually Q → Eventually R
both P Q R join p q = record {
  least = max p.least q.least;
  holds = λ s le. join s (p.holds s (let left : p.least ≤ max p.least q.least = le-max_left p.least q.least in omega arith)) (q.holds s (let right : q.least ≤ max p.least q.least = le-max_right p.least q.least in omega arith));
}

same_both : (x y z : CodeOutcome) → SameOutcome x y → SameOutcome y z → SameOutcome x z
same_both x y z first second = record { trace = second.trace ∙ first.trace; verdict = second.verdict ∙ first.verdict }

answer_both : (p ps q qs t s : ℕ) (x y z : CodeOutcome) → KeepsAnswer p ps t s x y → KeepsAnswer q qs t s y z → KeepsAnswer (q * p) (q * ps + qs) t s x z
answer_both p ps q qs t s x y z first second = record {
  same = same_both x y z first.same second.same;
  cost = dearer p ps q qs x.cost y.cost z.cost first.cost second.cost;
  covers = second.covers;
  paid = second.paid;
}

there_both : (p ps q qs g a : ℕ) (l m n : CodeMeaning) → KeepsThere p ps g a l m → KeepsThere q qs g a m n → KeepsThere (q * p) (q * ps + qs) g a l n
there_both p ps q qs g a l m n first second = record {
  fits = first.fits;
  answer = λ input folder t. both _ _ _ (λ s x y. answer_both p ps q qs t s (l.outcome g a input folder t s) (m.outcome g a input folder t s) (n.outcome g a input folder t s) x y) (first.answer input folder t) (second.answer input folder t);
}

turns_turns : (p ps q qs : ℕ) (l m n : CodeMeaning) → KeepsTurns p ps l m → KeepsTurns q qs m n → KeepsTurns (q * p) (q * ps + qs) l n
turns_turns p ps q qs l m n first second = record {
  there = λ g a fits. there_both p ps q qs g a l m n (first.there g a (second.there g a fits).fits) (second.there g a fits);
}

-- a run that keeps one meaning keeps the meaning before it
run_both : (p ps q qs n : ℕ) (x y : (t s : ℕ) → CodeOutcome) (z : CodeOutcome) → ((t : ℕ) → Eventually (λ s. KeepsAnswer p ps t s (x t s) (y t s))) → KeepsRun q qs n y z → KeepsRun (q * p) (q * ps + qs) n x z
run_both p ps q qs n x y z first second = record {
  same_end = λ over. both _ _ _ (λ s (k : KeepsAnswer p ps n s (x n s) (y n s)) e. same_both (x n s) (y n s) z k.same e) (first n) (second.same_end over);
  no_fault = second.no_fault;
  spent = λ going t. both _ _ _ (λ s (k : KeepsAnswer p ps t s (x t s) (y t s)) e le. sym k.same.verdict ∙ e (enough p ps q qs n (x t s).cost (y t s).cost k.cost le)) (first t) (second.spent going t);
  nothing_else = both _ _ _ (λ s (k : KeepsAnswer p ps n s (x n s) (y n s)) e. subst (λ trace. IsPrefix z.trace trace) k.same.trace e) (first n) second.nothing_else;
  nothing_held_back = λ t. both _ _ _ (λ s (k : KeepsAnswer p ps t s (x t s) (y t s)) e le. subst (λ trace. IsPrefix trace z.trace) k.same.trace (e (enough p ps q qs n (x t s).cost (y t s).cost k.cost le))) (first t) (second.nothing_held_back t);
  covers = second.covers;
  paid = second.paid;
}

run_there : (p ps q qs g a : ℕ) (l m n : CodeMeaning) → KeepsThere p ps g a l m → ((any_global any_text : ℕ) (input : List ℕ) (folder : _) (bound any_round : ℕ) → KeepsRun q qs bound (m.outcome g a input folder) (n.outcome any_global any_text input folder bound any_round)) → KeepsInstructions (q * p) (q * ps + qs) l n
run_there p ps q qs g a l m n first second = record {
  first_global = g;
  texts_at = a;
  fits = first.fits;
  run = λ any_global any_text input folder bound any_round. run_both p ps q qs bound (l.outcome g a input folder) (m.outcome g a input folder) (n.outcome any_global any_text input folder bound any_round) (first.answer input folder) (second any_global any_text input folder bound any_round);
}

turns_instructions : (p ps q qs : ℕ) (l m n : CodeMeaning) → KeepsTurns p ps l m → KeepsInstructions q qs m n → KeepsInstructions (q * p) (q * ps + qs) l n
turns_instructions p ps q qs l m n first second = run_there p ps q qs second.first_global second.texts_at l m n (first.there second.first_global second.texts_at second.fits) second.run

after_turns : (bound : Bound) (p ps q qs : ℕ) (l m n : CodeMeaning) → KeepsTurns p ps l m → Keeps bound q qs m n → Keeps bound (q * p) (q * ps + qs) l n
after_turns Turns p ps q qs l m n first second = turns_turns p ps q qs l m n first second
after_turns Instructions p ps q qs l m n first second = turns_instructions p ps q qs l m n first second

-- a pass that keeps a meaning by turns, and one after it
pub keeps_both : (first_bound bound : Bound) (p ps q qs : ℕ) (l m n : CodeMeaning) → first_bound ≡ Turns → Keeps first_bound p ps l m → Keeps bound q qs m n → Keeps bound (q * p) (q * ps + qs) l n
keeps_both first_bound bound p ps q qs l m n turns first second = after_turns bound p ps q qs l m n (subst (λ b. Keeps b p ps l m) turns first) second
