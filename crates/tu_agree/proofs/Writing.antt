-- The passes of the example keep what is written.
use Rattle.std.proofs.Common.{◌≡◌, ◌≢◌, ℕ, zero, suc, ◌+◌, ◌*◌, ◌<◌, ◌≤◌, ◌⊎◌, inl, inr, List, [], ◌∷◌, length, map, reverse, refl, sym, ap, ◌∙◌, subst, arith}
use Rattle.tu_base.specs.Trace.{Trace, Put}
use Rattle.rv_isa.specs.declared.service.FaultKind.{FaultKind}
use Rattle.rv_image.specs.Run.{Ended, Fault, Going, IsOver}
use Rattle.tu_base.specs.Prefix.{IsPrefix}
use Rattle.tu_agree.specs.Outcomes.{CodeOutcome}
use Rattle.tu_agree.specs.Keep.{SameOutcome, KeepsAnswer, KeepsThere, KeepsTurns, KeepsRun, KeepsInstructions}
use Rattle.tu_agree.proofs.Everywhere.{kept_everywhere}
use Rattle.tu_agree.specs.Example.{wrote, written, text_meant, unstacked, stack_meant, ran, words_meant}

-- one more byte before what is kept
answer_more : (byte t s : ℕ) (before after : CodeOutcome) → KeepsAnswer 3 2 t s before after → KeepsAnswer 3 2 (suc t) (suc s) (wrote byte 1 1 before) (wrote byte 3 2 after)
answer_more byte t s before after kept = record {
  same = record { trace = ap (λ trace. Put byte ∷ trace) kept.same.trace; verdict = kept.same.verdict };
  cost = let cost : after.cost ≤ 3 * before.cost + 2 = kept.cost in omega arith;
  covers = let covers : after.begun ≤ after.cost = kept.covers in omega arith;
  paid = λ going. elim (kept.paid going) [ inl le ↦ inl (omega arith) | inr le ↦ inr (omega arith) ];
}

-- with a round for each byte
text_kept : (bytes : List ℕ) (t s : ℕ) → length bytes ≤ s → KeepsAnswer 3 2 t s (written bytes t) (unstacked bytes t s)
text_kept [] t s le = record { same = record { trace = refl; verdict = refl }; cost = omega arith; covers = omega arith; paid = λ going. cc }
text_kept (byte ∷ bytes) zero s le = record { same = record { trace = refl; verdict = refl }; cost = omega arith; covers = omega arith; paid = λ going. inl (omega arith) }
text_kept (byte ∷ bytes) (suc t) zero le = absurd (omega arith)
text_kept (byte ∷ bytes) (suc t) (suc s) le = answer_more byte t s (written bytes t) (unstacked bytes t s) (text_kept bytes t s (omega arith))

stack_there : (bytes stack : List ℕ) (g a : ℕ) → reverse stack ≡ bytes → KeepsThere 3 2 g a (text_meant bytes) (stack_meant stack)
stack_there bytes stack g a e = record {
  fits = refl;
  answer = λ input folder t. record { least = length bytes; holds = λ s le. subst (λ xs. KeepsAnswer 3 2 t s (written bytes t) (unstacked xs t s)) (sym e) (text_kept bytes t s le) };
}

pub stack_keeps : (bytes stack : List ℕ) → reverse stack ≡ bytes → KeepsTurns 3 2 (text_meant bytes) (stack_meant stack)
stack_keeps bytes stack e = record { there = λ g a fits. stack_there bytes stack g a e }

unstacked_paid : (bytes : List ℕ) (t s : ℕ) → (unstacked bytes t s).verdict ≡ Going → (t ≤ (unstacked bytes t s).cost) ⊎ (s ≤ (unstacked bytes t s).cost)
unstacked_paid [] t s going = cc
unstacked_paid (byte ∷ bytes) zero s going = inl (omega arith)
unstacked_paid (byte ∷ bytes) (suc t) zero going = inr (omega arith)
unstacked_paid (byte ∷ bytes) (suc t) (suc s) going = elim (unstacked_paid bytes t s going) [ inl le ↦ inl (omega arith) | inr le ↦ inr (omega arith) ]

unstacked_covers : (bytes : List ℕ) (t s : ℕ) → (unstacked bytes t s).begun ≤ (unstacked bytes t s).cost
unstacked_covers [] t s = omega arith
unstacked_covers (byte ∷ bytes) zero s = omega arith
unstacked_covers (byte ∷ bytes) (suc t) zero = omega arith
unstacked_covers (byte ∷ bytes) (suc t) (suc s) = let covers : (unstacked bytes t s).begun ≤ (unstacked bytes t s).cost = unstacked_covers bytes t s in omega arith

pub same_keeps : (stack : List ℕ) → KeepsTurns 1 0 (stack_meant stack) (stack_meant stack)
same_keeps stack = kept_everywhere 1 0 (stack_meant stack) (stack_meant stack) (λ g a fits. fits) (λ g a fits input folder t s. record { same = record { trace = refl; verdict = refl }; cost = omega arith; covers = unstacked_covers (reverse stack) t s; paid = unstacked_paid (reverse stack) t s })

-- how the machine stands: it has ended, with all of it written, or it has run n instructions of those that it needs
data Stands (bytes : List ℕ) (needs n : ℕ) (o : CodeOutcome) : Type 0 where
  Over : o.verdict ≡ Ended → o.trace ≡ map Put bytes → needs ≤ n → Stands bytes needs n o
  Underway : o.verdict ≡ Going → o.cost ≡ n → n < needs → Stands bytes needs n o

needed : (bytes : List ℕ) (waits : ℕ) → ℕ
needed bytes waits = 6 * length bytes + (waits + 1)

waited : (bytes : List ℕ) (waits n : ℕ) → Stands bytes (needed bytes waits) n (ran bytes waits n) → Stands bytes (needed bytes (suc waits)) (suc n) (ran bytes (suc waits) (suc n))
unfolding needed
waited bytes waits n (Over verdict trace le) = Over verdict trace (omega arith)
waited bytes waits n (Underway verdict cost lt) = Underway verdict (omega arith) (omega arith)

put : (byte : ℕ) (bytes : List ℕ) (n : ℕ) → Stands bytes (needed bytes 5) n (ran bytes 5 n) → Stands (byte ∷ bytes) (needed (byte ∷ bytes) 0) (suc n) (ran (byte ∷ bytes) 0 (suc n))
unfolding needed
put byte bytes n (Over verdict trace le) = Over verdict (ap (λ trace. Put byte ∷ trace) trace) (omega arith)
put byte bytes n (Underway verdict cost lt) = Underway verdict (omega arith) (omega arith)

machine_stands : (bytes : List ℕ) (waits n : ℕ) → Stands bytes (needed bytes waits) n (ran bytes waits n)
unfolding needed
machine_stands bytes waits zero = Underway refl refl (omega arith)
machine_stands bytes (suc waits) (suc n) = waited bytes waits n (machine_stands bytes waits n)
machine_stands [] zero (suc n) = Over refl refl (omega arith)
machine_stands (byte ∷ bytes) zero (suc n) = put byte bytes n (machine_stands bytes 5 n)

-- how a stack stands: it has ended, with all of it written, or it needs more turns or more rounds
data Unstacks (bytes : List ℕ) (t s : ℕ) (o : CodeOutcome) : Type 0 where
  All : o.verdict ≡ Ended → o.trace ≡ map Put bytes → o.cost ≡ 3 * length bytes + 2 → Unstacks bytes t s o
  Part : o.verdict ≡ Going → (t < length bytes) ⊎ (s < length bytes) → Unstacks bytes t s o

unstacks_more : (byte : ℕ) (bytes : List ℕ) (t s : ℕ) → Unstacks bytes t s (unstacked bytes t s) → Unstacks (byte ∷ bytes) (suc t) (suc s) (unstacked (byte ∷ bytes) (suc t) (suc s))
unstacks_more byte bytes t s (All verdict trace cost) = All verdict (ap (λ trace. Put byte ∷ trace) trace) (omega arith)
unstacks_more byte bytes t s (Part verdict few) = Part verdict (elim few [ inl lt ↦ inl (omega arith) | inr lt ↦ inr (omega arith) ])

stack_stands : (bytes : List ℕ) (t s : ℕ) → Unstacks bytes t s (unstacked bytes t s)
stack_stands [] t s = All refl refl refl
stack_stands (byte ∷ bytes) zero s = Part refl (inl (omega arith))
stack_stands (byte ∷ bytes) (suc t) zero = Part refl (inr (omega arith))
stack_stands (byte ∷ bytes) (suc t) (suc s) = unstacks_more byte bytes t s (stack_stands bytes t s)

-- with as many turns and rounds as there are bytes the stack is over, and so it is as the machine is
same_end : (bytes : List ℕ) (t s n needs : ℕ) (before after : CodeOutcome) → length bytes ≤ t → length bytes ≤ s → Unstacks bytes t s before → Stands bytes needs n after → IsOver after.verdict → SameOutcome before after
same_end bytes t s n needs before after turns rounds (All v tr c) (Over verdict trace le) over = record { trace = trace ∙ sym tr; verdict = verdict ∙ sym v }
same_end bytes t s n needs before after turns rounds (Part v few) (Over verdict trace le) over = absurd (elim few [ inl lt ↦ omega arith | inr lt ↦ omega arith ])
same_end bytes t s n needs before after turns rounds before_stands (Underway verdict cost lt) over = absurd (subst IsOver verdict over)

same_end_within : (bytes : List ℕ) (n s : ℕ) → length bytes ≤ s → IsOver (ran bytes 5 n).verdict → SameOutcome (unstacked bytes n s) (ran bytes 5 n)
unfolding needed
same_end_within bytes n s rounds over = over_at (machine_stands bytes 5 n) where
  over_at : Stands bytes (needed bytes 5) n (ran bytes 5 n) → SameOutcome (unstacked bytes n s) (ran bytes 5 n)
  over_at (Over verdict trace le) = same_end bytes n s n (needed bytes 5) (unstacked bytes n s) (ran bytes 5 n) (omega arith) rounds (stack_stands bytes n s) (Over verdict trace le) over
  over_at (Underway verdict cost lt) = absurd (subst IsOver verdict over)

no_fault : (bytes : List ℕ) (needs n : ℕ) (o : CodeOutcome) → Stands bytes needs n o → (kind : FaultKind) (pc : ℕ) → o.verdict ≢ Fault kind pc
no_fault bytes needs n o (Over verdict trace le) kind pc = λ e. cc
no_fault bytes needs n o (Underway verdict cost lt) kind pc = λ e. cc

paid : (bytes : List ℕ) (needs n : ℕ) (o : CodeOutcome) → Stands bytes needs n o → o.verdict ≡ Going → o.cost ≡ n
paid bytes needs n o (Over verdict trace le) going = cc
paid bytes needs n o (Underway verdict cost lt) going = cost

ran_covers : (bytes : List ℕ) (waits n : ℕ) → (ran bytes waits n).begun ≤ (ran bytes waits n).cost
ran_covers bytes waits zero = omega arith
ran_covers bytes (suc waits) (suc n) = let covers : (ran bytes waits n).begun ≤ (ran bytes waits n).cost = ran_covers bytes waits n in omega arith
ran_covers [] zero (suc n) = omega arith
ran_covers (byte ∷ bytes) zero (suc n) = let covers : (ran bytes 5 n).begun ≤ (ran bytes 5 n).cost = ran_covers bytes 5 n in omega arith

spent : (bytes : List ℕ) (t s n : ℕ) (before after : CodeOutcome) → Unstacks bytes t s before → Stands bytes (6 * length bytes + 6) n after → after.verdict ≡ Going → 2 * before.cost + 2 ≤ n → before.verdict ≡ Going
spent bytes t s n before after (Part v few) stands going le = v
spent bytes t s n before after (All v tr c) (Over verdict trace enough) going le = cc
spent bytes t s n before after (All v tr c) (Underway verdict cost lt) going le = absurd (omega arith)

empty : (xs : Trace) → IsPrefix [] xs
empty xs = record { rest = xs; is = refl }

more : (byte : ℕ) (xs ys : Trace) → IsPrefix xs ys → IsPrefix (Put byte ∷ xs) (Put byte ∷ ys)
more byte xs ys before = record { rest = before.rest; is = ap (λ trace. Put byte ∷ trace) before.is }

-- the machine writes no more than the stack
prefix : (bytes : List ℕ) (waits n t s : ℕ) → n ≤ t → length bytes ≤ s → IsPrefix (ran bytes waits n).trace (unstacked bytes t s).trace
prefix bytes waits zero t s turns rounds = empty (unstacked bytes t s).trace
prefix bytes (suc waits) (suc n) t s turns rounds = prefix bytes waits n t s (omega arith) rounds
prefix [] zero (suc n) t s turns rounds = empty []
prefix (byte ∷ bytes) zero (suc n) zero s turns rounds = absurd (omega arith)
prefix (byte ∷ bytes) zero (suc n) (suc t) zero turns rounds = absurd (omega arith)
prefix (byte ∷ bytes) zero (suc n) (suc t) (suc s) turns rounds = more byte (ran bytes 5 n).trace (unstacked bytes t s).trace (prefix bytes 5 n t s (omega arith) (omega arith))

-- and holds nothing back for which it has the instructions
shown : (bytes : List ℕ) (waits n t s : ℕ) → 2 * (unstacked bytes t s).cost + 2 + waits ≤ n + 5 → IsPrefix (unstacked bytes t s).trace (ran bytes waits n).trace
shown [] waits n t s le = empty (ran [] waits n).trace
shown (byte ∷ bytes) waits n zero s le = empty (ran (byte ∷ bytes) waits n).trace
shown (byte ∷ bytes) waits n (suc t) zero le = empty (ran (byte ∷ bytes) waits n).trace
shown (byte ∷ bytes) waits zero (suc t) (suc s) le = absurd (omega arith)
shown (byte ∷ bytes) (suc waits) (suc n) (suc t) (suc s) le = shown (byte ∷ bytes) waits n (suc t) (suc s) (omega arith)
shown (byte ∷ bytes) zero (suc n) (suc t) (suc s) le = more byte (unstacked bytes t s).trace (ran bytes 5 n).trace (shown bytes 5 n t s (omega arith))

keeps_run : (bytes : List ℕ) (n : ℕ) → KeepsRun 2 2 n (unstacked bytes) (ran bytes 5 n)
unfolding needed
keeps_run bytes n = record {
  same_end = λ over. record { least = length bytes; holds = λ s le. same_end_within bytes n s le over };
  no_fault = no_fault bytes (needed bytes 5) n (ran bytes 5 n) (machine_stands bytes 5 n);
  spent = λ going t. record { least = 0; holds = λ s le enough. spent bytes t s n (unstacked bytes t s) (ran bytes 5 n) (stack_stands bytes t s) (machine_stands bytes 5 n) going enough };
  nothing_else = record { least = length bytes; holds = λ s le. prefix bytes 5 n n s (omega arith) le };
  nothing_held_back = λ t. record { least = 0; holds = λ s le enough. shown bytes 5 n t s (omega arith) };
  covers = ran_covers bytes 5 n;
  paid = paid bytes (needed bytes 5) n (ran bytes 5 n) (machine_stands bytes 5 n);
}

pub words_keep : (stack bytes : List ℕ) → bytes ≡ reverse stack → KeepsInstructions 2 2 (stack_meant stack) (words_meant bytes)
words_keep stack bytes e = record {
  first_global = 0;
  texts_at = 0;
  fits = refl;
  run = λ any_global any_text input folder n any_round. subst (λ xs. KeepsRun 2 2 n (unstacked xs) (ran bytes 5 n)) e (keeps_run bytes n);
}
