-- Sums and differences meet what the operators answer.
use Rattle.std.proofs.Common.{◌≡◌, ℕ, ◌+◌, ◌-◌, ◌%◌, ◌<◌, true, false, List, [], ◌∷◌, arith, nat_lt, Some, ap, ◌∙◌}
use Rattle.std.specs.Prelude.{◌==◌, not, ℤ, pos, ◌+ℤ◌, ◌-ℤ◌}
use Rattle.tu_base.specs.declared.kind.Kind.TheVariants as kind
use Rattle.rv_isa.specs.Arithmetic.{one_if, register_value}
use Rattle.rv_isa.specs.declared.instr.RegisterOp.{RegisterOp}
use Rattle.rv_isa.specs.declared.instr.RegisterOp.TheVariants.{Add, Sub, Sltu}
use Rattle.rv_isa.specs.declared.instr.Relation.TheVariants.{Equal, NotEqual, LessUnsigned, GreaterOrEqualUnsigned}
use Rattle.ir_form.specs.Meaning.{run_list}
use Rattle.ir_form.specs.Place.{Setting}
use Rattle.ir_form.specs.Plain.{Calls}
use Rattle.ir_form.specs.State.{State}
use Rattle.ir_form.specs.declared.op.Op.{Op}
use Rattle.ir_code.specs.Pieces.{compute, raise_unless}
use Rattle.ir_code.proofs.Steps.{set, set_same, AllGo, AllStop, none, stops, ◌▸◌, ◌▹◌, constant_goes, compute_goes, check_goes, check_stops}
use Rattle.tu_base.specs.Scalars.{is_int, exact}
use Rattle.tu_value.specs.Words.{word_of_int}
use Rattle.tu_value.specs.Pieces.{less_code, more_code}
use Rattle.tu_value.specs.Meets.{OnlyFrom, GivesInt, RaisesAt, Meets, HasFixed}
use Rattle.tu_value.specs.Laws.{DifferenceMeets, LessMeets, MoreMeets, SumMeets, sum_most, more_most}
use Rattle.tu_value.specs.declared.pieces.Fixed.{Fixed}
use Rattle.tu_value.proofs.Numbers.{Tested, sum_tested, difference_tested, more_tested, less_tested}
use Rattle.tu_value.proofs.Outcomes.{unchanged, also, past, held, gives_int, raises_at, exact_meets, on_test}

-- a result as a word, from the result less 2^31
abbrev raised_word : ℕ → ℕ
raised_word r = (r + 2147483648) % 4294967296

abbrev two_set : State → (n r : ℕ) → State
two_set st n r = set (set st n r) (n + 1) (raised_word r)

abbrev three_set : State → (n r a b : ℕ) → State
three_set st n r a b = set (two_set st n r) (n + 2) (one_if (nat_lt a b))

abbrev four_set : State → (n r a b w : ℕ) → State
four_set st n r a b w = set (three_set st n r a b) (n + 3) (one_if (nat_lt w 2147483648))

-- the code of a sum or of a difference: the values p and q are compared
abbrev tested_code : Fixed → RegisterOp → (p q line left right n : ℕ) → List Op
tested_code k op p q line left right n =
    compute n op left right ∷ compute (n + 1) Add n k.top ∷ compute (n + 2) Sltu p q ∷ compute (n + 3) Sltu right k.top
    ∷ raise_unless Equal (n + 2) (n + 3) kind.Overflow line ∷ raise_unless NotEqual (n + 1) k.zero kind.Overflow line ∷ []

-- what is known of its operands
record Operands (k : Fixed) (op : RegisterOp) (p q left right n v w a b : ℕ) (st : State) : Type 0 where
  fixed : HasFixed k n st
  left_is : st.env left ≡ Some v
  right_below : right < n
  right_is : st.env right ≡ Some w
  p_is : (two_set st n (register_value op v w)).env p ≡ Some a
  q_is : (two_set st n (register_value op v w)).env q ≡ Some b

only_two : (n r : ℕ) (st : State) → OnlyFrom n st (two_set st n r)
only_two n r st = also n (n + 1) (raised_word r) (omega arith) (also n n r (omega arith) (unchanged n st))

only_three : (n r a b : ℕ) (st : State) → OnlyFrom n st (three_set st n r a b)
only_three n r a b st = also n (n + 2) (one_if (nat_lt a b)) (omega arith) (only_two n r st)

only_four : (n r a b w : ℕ) (st : State) → OnlyFrom n st (four_set st n r a b w)
only_four n r a b w st = also n (n + 3) (one_if (nat_lt w 2147483648)) (omega arith) (only_three n r a b st)

module _ (g : Setting) (calls : Calls) (k : Fixed) (op : RegisterOp) (p q line left right n v w a b : ℕ) (st : State) (c : ℕ) (o : Operands k op p q left right n v w a b st) where
  goes : {ops : List Op} {su : State} {i : ℕ} → AllGo g calls ops (four_set st n (register_value op v w) a b w) (c + 10 + 10 + 10 + 10) su i → AllGo g calls (compute n op left right ∷ compute (n + 1) Add n k.top ∷ compute (n + 2) Sltu p q ∷ compute (n + 3) Sltu right k.top ∷ ops) st c su i
  goes f = let r = register_value op v w in
      compute_goes n op left right o.left_is o.right_is
      ▸ compute_goes (n + 1) Add n k.top (set_same st.env n r) (past st n r k.top o.fixed.top_below o.fixed.top_is)
      ▸ compute_goes (n + 2) Sltu p q o.p_is o.q_is
      ▸ compute_goes (n + 3) Sltu right k.top (held right (only_three n r a b st) o.right_below o.right_is) (held k.top (only_three n r a b st) o.fixed.top_below o.fixed.top_is)
      ▸ f

  stop : {ops : List Op} {su : State} {kind i : ℕ} → AllStop g calls ops (four_set st n (register_value op v w) a b w) (c + 10 + 10 + 10 + 10) kind line su i → AllStop g calls (compute n op left right ∷ compute (n + 1) Add n k.top ∷ compute (n + 2) Sltu p q ∷ compute (n + 3) Sltu right k.top ∷ ops) st c kind line su i
  stop f = let r = register_value op v w in
      compute_goes n op left right o.left_is o.right_is
      ▹ compute_goes (n + 1) Add n k.top (set_same st.env n r) (past st n r k.top o.fixed.top_below o.fixed.top_is)
      ▹ compute_goes (n + 2) Sltu p q o.p_is o.q_is
      ▹ compute_goes (n + 3) Sltu right k.top (held right (only_three n r a b st) o.right_below o.right_is) (held k.top (only_three n r a b st) o.fixed.top_below o.fixed.top_is)
      ▹ f

  result_is : (four_set st n (register_value op v w) a b w).env (n + 1) ≡ Some (raised_word (register_value op v w))
  result_is = let r = register_value op v w in
      past (three_set st n r a b) (n + 3) (one_if (nat_lt w 2147483648)) (n + 1) (omega arith) (past (two_set st n r) (n + 2) (one_if (nat_lt a b)) (n + 1) (omega arith) (set_same (set st n r).env (n + 1) (raised_word r)))

  first_is : (four_set st n (register_value op v w) a b w).env (n + 2) ≡ Some (one_if (nat_lt a b))
  first_is = let r = register_value op v w in
      past (three_set st n r a b) (n + 3) (one_if (nat_lt w 2147483648)) (n + 2) (omega arith) (set_same (two_set st n r).env (n + 2) (one_if (nat_lt a b)))

  second_is : (four_set st n (register_value op v w) a b w).env (n + 3) ≡ Some (one_if (nat_lt w 2147483648))
  second_is = set_same (three_set st n (register_value op v w) a b).env (n + 3) (one_if (nat_lt w 2147483648))

  zero_is : (four_set st n (register_value op v w) a b w).env k.zero ≡ Some 0
  zero_is = held k.zero (only_four n (register_value op v w) a b w st) o.fixed.zero_below o.fixed.zero_is

  gives_result : (z : ℤ) → Tested z (raised_word (register_value op v w)) (one_if (nat_lt a b) == one_if (nat_lt w 2147483648)) (not (raised_word (register_value op v w) == 0)) → is_int z ≡ true → GivesInt n (n + 1) sum_most z st c (run_list g calls (tested_code k op p q line left right n) st c)
  gives_result z t i = let f = t.fits i in gives_int z
      (goes (check_goes Equal (n + 2) (n + 3) kind.Overflow line first_is second_is f.0 ▸ check_goes NotEqual (n + 1) k.zero kind.Overflow line result_is zero_is f.1 ▸ none))
      (only_four n (register_value op v w) a b w st) (result_is ∙ ap (λ x. Some x) f.2) i (omega arith) (omega arith)

  raises_second : (one_if (nat_lt a b) == one_if (nat_lt w 2147483648)) ≡ true → not (raised_word (register_value op v w) == 0) ≡ false → RaisesAt line n sum_most kind.Overflow st c (run_list g calls (tested_code k op p q line left right n) st c)
  raises_second e f = raises_at kind.Overflow
      (stop (check_goes Equal (n + 2) (n + 3) kind.Overflow line first_is second_is e ▹ stops [] (check_stops NotEqual (n + 1) k.zero kind.Overflow line result_is zero_is f)))
      (only_four n (register_value op v w) a b w st) (omega arith) (omega arith)

  raises_first : (one_if (nat_lt a b) == one_if (nat_lt w 2147483648)) ≡ false → RaisesAt line n sum_most kind.Overflow st c (run_list g calls (tested_code k op p q line left right n) st c)
  raises_first e = raises_at kind.Overflow
      (stop (stops (raise_unless NotEqual (n + 1) k.zero kind.Overflow line ∷ []) (check_stops Equal (n + 2) (n + 3) kind.Overflow line first_is second_is e)))
      (only_four n (register_value op v w) a b w st) (omega arith) (omega arith)

  tested_meets : (z : ℤ) → Tested z (raised_word (register_value op v w)) (one_if (nat_lt a b) == one_if (nat_lt w 2147483648)) (not (raised_word (register_value op v w) == 0)) → Meets line n (n + 1) sum_most (exact z) st c (run_list g calls (tested_code k op p q line left right n) st c)
  tested_meets z t = exact_meets line n (n + 1) sum_most z st c (run_list g calls (tested_code k op p q line left right n) st c) (gives_result z t)
      (λ i. on_test (one_if (nat_lt a b) == one_if (nat_lt w 2147483648)) (λ e. raises_second e (t.fails i e)) raises_first)

pub sum_meets : SumMeets
sum_meets g calls k x y line left right n st c h l m =
    let v = word_of_int x in let w = word_of_int y in let r = (v + w) % 4294967296 in
    tested_meets g calls k Add (n + 1) left line left right n v w (raised_word r) v st c
    (record { fixed = h; left_is = l.is; right_below = m.below; right_is = m.is; p_is = set_same (set st n r).env (n + 1) (raised_word r); q_is = held left (only_two n r st) l.below l.is })
    (x +ℤ y) (sum_tested x y l.small m.small)

pub difference_meets : DifferenceMeets
difference_meets g calls k x y line left right n st c h l m =
    let v = word_of_int x in let w = word_of_int y in let r = (v + (4294967296 - w)) % 4294967296 in
    tested_meets g calls k Sub left (n + 1) line left right n v w v (raised_word r) st c
    (record { fixed = h; left_is = l.is; right_below = m.below; right_is = m.is; p_is = held left (only_two n r st) l.below l.is; q_is = set_same (set st n r).env (n + 1) (raised_word r) })
    (x -ℤ y) (difference_tested x y l.small m.small)

-- the state with a number and the result
abbrev counted : State → (n number s : ℕ) → State
counted st n number s = set (set st n number) (n + 1) s

only_counted : (n number s : ℕ) (st : State) → OnlyFrom n st (counted st n number s)
only_counted n number s st = also n (n + 1) s (omega arith) (also n n number (omega arith) (unchanged n st))

pub more_meets : MoreMeets
more_meets g calls x line left number n st c l le = exact_meets line n (n + 1) more_most (x +ℤ pos number) st c (run_list g calls (more_code line left number n) st c) gives stop
  where
    gives : is_int (x +ℤ pos number) ≡ true → GivesInt n (n + 1) more_most (x +ℤ pos number) st c (run_list g calls (more_code line left number n) st c)
    gives i = let w = word_of_int x in let s = (w + number) % 4294967296 in let f = (more_tested x number l.small le).fits i in gives_int (x +ℤ pos number)
        (constant_goes n number ▸ compute_goes (n + 1) Add left n (past st n number left l.below l.is) (set_same st.env n number)
        ▸ check_goes GreaterOrEqualUnsigned (n + 1) left kind.Overflow line (set_same (set st n number).env (n + 1) s) (held left (only_counted n number s st) l.below l.is) f.0 ▸ none)
        (only_counted n number s st) (set_same (set st n number).env (n + 1) s ∙ ap (λ x. Some x) f.1) i (omega arith) (omega arith)

    stop : is_int (x +ℤ pos number) ≡ false → RaisesAt line n more_most kind.Overflow st c (run_list g calls (more_code line left number n) st c)
    stop i = let w = word_of_int x in let s = (w + number) % 4294967296 in raises_at kind.Overflow
        (constant_goes n number ▹ compute_goes (n + 1) Add left n (past st n number left l.below l.is) (set_same st.env n number)
        ▹ stops [] (check_stops GreaterOrEqualUnsigned (n + 1) left kind.Overflow line (set_same (set st n number).env (n + 1) s) (held left (only_counted n number s st) l.below l.is) ((more_tested x number l.small le).fails i)))
        (only_counted n number s st) (omega arith) (omega arith)

pub less_meets : LessMeets
less_meets g calls x line left number n st c l le = exact_meets line n (n + 1) more_most (x -ℤ pos number) st c (run_list g calls (less_code line left number n) st c) gives stop
  where
    gives : is_int (x -ℤ pos number) ≡ true → GivesInt n (n + 1) more_most (x -ℤ pos number) st c (run_list g calls (less_code line left number n) st c)
    gives i = let w = word_of_int x in let s = (w + (4294967296 - number)) % 4294967296 in let f = (less_tested x number l.small le).fits i in gives_int (x -ℤ pos number)
        (constant_goes n number ▸ compute_goes (n + 1) Sub left n (past st n number left l.below l.is) (set_same st.env n number)
        ▸ check_goes LessUnsigned n left kind.Overflow line (past (set st n number) (n + 1) s n (omega arith) (set_same st.env n number)) (held left (only_counted n number s st) l.below l.is) f.0 ▸ none)
        (only_counted n number s st) (set_same (set st n number).env (n + 1) s ∙ ap (λ x. Some x) f.1) i (omega arith) (omega arith)

    stop : is_int (x -ℤ pos number) ≡ false → RaisesAt line n more_most kind.Overflow st c (run_list g calls (less_code line left number n) st c)
    stop i = let w = word_of_int x in let s = (w + (4294967296 - number)) % 4294967296 in raises_at kind.Overflow
        (constant_goes n number ▹ compute_goes (n + 1) Sub left n (past st n number left l.below l.is) (set_same st.env n number)
        ▹ stops [] (check_stops LessUnsigned n left kind.Overflow line (past (set st n number) (n + 1) s n (omega arith) (set_same st.env n number)) (held left (only_counted n number s st) l.below l.is) ((less_tested x number l.small le).fails i)))
        (only_counted n number s st) (omega arith) (omega arith)
