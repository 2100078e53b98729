-- The marks in the code of an operation are those of its Guards.
use Rattle.std.proofs.Common.{◌≡◌, ℕ, ◌+◌, List, [], ◌∷◌, ◌++◌, Option, Some, None, refl, subst}
use Rattle.std.specs.List.{AllByRecursion as Each}
use Rattle.ir_form.specs.declared.plain.Plain.{Plain as PlainOp}
use Rattle.ir_form.specs.declared.op.Op.{Op, Plain as Simple, If', Case', Loop', Guard', Leave, Row_of-Op, end_of-Op, more_of-Op, Row_of-Arm, end_of-Arm, more_of-Arm}
use Rattle.ir_form.specs.declared.op.Range.{Range}
use Rattle.ir_form.specs.Values.{marks, marks_all, marks_arms, marks_list}
use Rattle.ir_form.proofs.Each.{front, back}
use Rattle.rv_flat.specs.declared.linear.Instruction.{Instruction}
use Rattle.rv_flat.specs.declared.linear.Instruction.TheVariants.{Plain, Guarded, Open, Branch, Within, Hand, Jump, Label, Back}
use Rattle.rv_flat.specs.declared.linear.Target.{Target}
use Rattle.rv_flat.specs.declared.linear.Handler.{Handler}
use Rattle.rv_flat.specs.Flat.{Around, in_loop, in_guard, plain_code, labels, labels_all, arm_count, hand_code, leave_code, target_of, range_tests, tests, code_of, code_all, code_arms, code_list}
use Rattle.rv_flat.specs.Parts.{gathered, instruction_marks, IsUnguardedInstruction}
use Rattle.rv_flat.proofs.Parts.{Stands, stands_none, stands_more, stands_both}

module _ (P : ℕ → Type 0) where
  abbrev pub Marks : List Instruction → Type 0
  Marks code = Stands P instruction_marks code

  none : Marks []
  none = stands_none P instruction_marks

  more : (i : Instruction) (is : List Instruction) → Each P (instruction_marks i) → Marks is → Marks (i ∷ is)
  more i is h k = stands_more P instruction_marks i is h k

  join : (a b : List Instruction) → Marks a → Marks b → Marks (a ++ b)
  join a b h k = stands_both P instruction_marks a b h k

  -- the Guard around has such a mark
  pub record Handled (around : Around) : Type 0 where
    pub known : (h : Handler) → around.handler ≡ Some h → P h.mark

  handled_in_guard : (around : Around) (x : Handler) → P x.mark → Handled (in_guard x around)
  handled_in_guard around x k = record { known = known }
    where
      known : (y : Handler) → Some x ≡ Some y → P y.mark
      known y e = let same : x ≡ y = cc in subst (λ (u : Handler). P u.mark) same k

  marks_plain : (o : Option Handler) (p : PlainOp) → ((h : Handler) → o ≡ Some h → P h.mark) → Marks (plain_code o p ∷ [])
  marks_plain None p f = more _ [] tt none
  marks_plain (Some h) p f = more _ [] (f h refl, tt) none

  marks_hand : (to from : List ℕ) → Marks (hand_code to from)
  marks_hand to [] = none
  marks_hand to (x ∷ xs) = more _ [] tt none

  marks_ranges : (value n : ℕ) (ranges : List Range) → Marks (range_tests value n ranges)
  marks_ranges value n [] = none
  marks_ranges value n (r ∷ rs) = more _ _ tt (marks_ranges value n rs)

  marks_tests : (value n : ℕ) {k : _} (arms : Row_of-Arm k) → Marks (tests value n arms)
  marks_tests value n end_of-Arm = none
  marks_tests value n (more_of-Arm ranges a b ops results arms) = join _ _ (marks_ranges value n ranges) (marks_tests value (n + 1) arms)

  marks_leave : (o : Option Target) (values : List ℕ) → Marks (leave_code o values)
  marks_leave None values = more _ [] tt none
  marks_leave (Some t) values = join _ _ (marks_hand t.to values) (more _ [] tt none)

  mutual
    marks_code : (around : Around) → Handled around → (n : ℕ) (op : Op) → Each P (marks op) → Marks (code_of around n op)
    marks_code around a n (Simple p) h = marks_plain around.handler p a.known
    marks_code around a n (If' relation left right p b ops results q c others others_results to) h =
        more _ _ tt (join _ _ (join _ _ (marks_in around a (n + 2) ops (front P (marks_all ops) (marks_all others) h)) (marks_hand to results))
        (more _ _ tt (more _ _ tt
        (join _ _ (join _ _ (marks_in around a (n + 2 + labels_all ops) others (back P (marks_all ops) (marks_all others) h)) (marks_hand to others_results)) (more _ [] tt none)))))
    marks_code around a n (Case' value b arms p c ops results to) h =
        join _ _ (marks_tests value (n + 1) arms)
        (join _ _ (join _ _ (marks_in around a (n + 1 + arm_count arms) ops (back P (marks_arms arms) (marks_all ops) h)) (marks_hand to results))
        (join _ _ (marks_in_arms around a to n (n + 1) (n + 1 + arm_count arms + labels_all ops) arms (front P (marks_arms arms) (marks_all ops) h)) (more _ [] tt none)))
    marks_code around a n (Loop' marked start p b ops results to) h =
        join _ _ (marks_hand p start) (more _ _ tt (join _ _ (marks_in (in_loop (record { label = n + 1; to = to }) around) (record { known = a.known }) (n + 2) ops h)
        (join _ _ (marks_hand p results) (more _ _ tt (more _ [] tt none)))))
    marks_code around a n (Guard' mark p b ops results q c others others_results to) h =
        let t : Handler = record { label = n; mark = mark; to = q } in
        more _ _ (h.0, tt) (join _ _ (join _ _ (marks_in (in_guard t around) (handled_in_guard around t h.0) (n + 2) ops (front P (marks_all ops) (marks_all others) h.1)) (marks_hand to results))
        (more _ _ tt (more _ _ tt
        (join _ _ (join _ _ (marks_in around a (n + 2 + labels_all ops) others (back P (marks_all ops) (marks_all others) h.1)) (marks_hand to others_results)) (more _ [] tt none)))))
    marks_code around a n (Leave exit values) h = marks_leave (target_of around exit) values

    marks_in : (around : Around) → Handled around → (n : ℕ) {k : _} (ops : Row_of-Op k) → Each P (marks_all ops) → Marks (code_all around n ops)
    marks_in around a n end_of-Op h = none
    marks_in around a n (more_of-Op op ops) h =
        join _ _ (marks_code around a n op (front P (marks op) (marks_all ops) h)) (marks_in around a (n + labels op) ops (back P (marks op) (marks_all ops) h))

    marks_in_arms : (around : Around) → Handled around → (to : List ℕ) (end n m : ℕ) {k : _} (arms : Row_of-Arm k) → Each P (marks_arms arms) → Marks (code_arms around to end n m arms)
    marks_in_arms around a to end n m end_of-Arm h = none
    marks_in_arms around a to end n m (more_of-Arm [] p b ops results arms) h = marks_in_arms around a to end (n + 1) (m + 0) arms (back P (marks_all ops) (marks_arms arms) h)
    marks_in_arms around a to end n m (more_of-Arm (r ∷ rs) p b ops results arms) h =
        more _ _ tt (more _ _ tt (join _ _ (join _ _ (marks_in around a m ops (front P (marks_all ops) (marks_arms arms) h)) (marks_hand to results))
        (marks_in_arms around a to end (n + 1) (m + labels_all ops) arms (back P (marks_all ops) (marks_arms arms) h))))

  pub marks_in_list : (around : Around) → Handled around → (n : ℕ) (ops : List Op) → Each P (marks_list ops) → Marks (code_list around n ops)
  marks_in_list around a n [] h = none
  marks_in_list around a n (op ∷ ops) h =
      join _ _ (marks_code around a n op (front P (marks op) (marks_list ops) h)) (marks_in_list around a (n + labels op) ops (back P (marks op) (marks_list ops) h))

-- code without marks has nothing of a Guard
pub unmarked : (code : List Instruction) → Each (λ m. ⊥) (gathered instruction_marks code) → Each IsUnguardedInstruction code
unmarked [] h = tt
unmarked (Plain p ∷ is) h = (tt, unmarked is h)
unmarked (Guarded p t ∷ is) h = absurd h.0
unmarked (Open mark ∷ is) h = absurd h.0
unmarked (Branch relation left right label ∷ is) h = (tt, unmarked is h)
unmarked (Within value range label ∷ is) h = (tt, unmarked is h)
unmarked (Hand to from ∷ is) h = (tt, unmarked is h)
unmarked (Jump label ∷ is) h = (tt, unmarked is h)
unmarked (Label label marked ∷ is) h = (tt, unmarked is h)
unmarked (Back values ∷ is) h = (tt, unmarked is h)
