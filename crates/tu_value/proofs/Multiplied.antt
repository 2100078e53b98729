-- Products meet what the operator answers.
use Rattle.std.proofs.Common.{◌≡◌, ℕ, ◌+◌, ◌*◌, ◌/◌, ◌%◌, true, false, List, [], ◌∷◌, arith, Some, ap, ◌∙◌}
use Rattle.std.specs.Prelude.{◌==◌, not, ℤ, ◌*ℤ◌}
use Rattle.tu_base.specs.declared.kind.Kind.TheVariants as kind
use Rattle.rv_isa.specs.Arithmetic.{wide}
use Rattle.rv_isa.specs.declared.instr.RegisterOp.TheVariants.{Add, Mul, Mulh, Sra}
use Rattle.rv_isa.specs.declared.instr.Relation.TheVariants.{Equal, NotEqual}
use Rattle.ir_form.specs.Meaning.{run_list}
use Rattle.ir_form.specs.Place.{Setting}
use Rattle.ir_form.specs.Plain.{Calls}
use Rattle.ir_form.specs.State.{State}
use Rattle.ir_form.specs.declared.op.Op.{Op}
use Rattle.ir_code.specs.Pieces.{constant, compute, raise_unless}
use Rattle.ir_code.proofs.Steps.{set, set_same, AllGo, AllStop, none, stops, ◌▸◌, ◌▹◌, constant_goes, compute_goes, check_goes, check_stops}
use Rattle.tu_base.specs.Scalars.{is_int, exact}
use Rattle.tu_value.specs.Pieces.{product_code}
use Rattle.tu_value.specs.Meets.{OnlyFrom, GivesInt, RaisesAt, Meets, HasFixed, HasInt}
use Rattle.tu_value.specs.Laws.{ProductMeets, product_most}
use Rattle.tu_value.specs.declared.pieces.Fixed.{Fixed}
use Rattle.tu_value.proofs.Numbers.{Tested}
use Rattle.tu_value.proofs.Products.{sign_of, signed_word, is_signed, product_is, product_tested}
use Rattle.tu_value.proofs.Outcomes.{unchanged, also, past, held, gives_int, raises_at, exact_meets, on_test}

-- the states after each value, from the signed numbers of the operands
abbrev lower : (a b : ℕ) → ℕ
lower a b = a * b % 4294967296

abbrev upper : (a b : ℕ) → ℕ
upper a b = wide a * wide b % 18446744073709551616 / 4294967296

abbrev result : (a b : ℕ) → ℕ
result a b = (lower a b + 2147483648) % 4294967296

abbrev two_set : State → (n a b : ℕ) → State
two_set st n a b = set (set st n a) (n + 1) b

abbrev three_set : State → (n a b : ℕ) → State
three_set st n a b = set (two_set st n a b) (n + 2) (lower a b)

abbrev four_set : State → (n a b : ℕ) → State
four_set st n a b = set (three_set st n a b) (n + 3) (upper a b)

abbrev five_set : State → (n a b : ℕ) → State
five_set st n a b = set (four_set st n a b) (n + 4) 31

abbrev six_set : State → (n a b : ℕ) → State
six_set st n a b = set (five_set st n a b) (n + 5) (sign_of (lower a b))

abbrev seven_set : State → (n a b : ℕ) → State
seven_set st n a b = set (six_set st n a b) (n + 6) (result a b)

only_one : (n a : ℕ) (st : State) → OnlyFrom n st (set st n a)
only_one n a st = also n n a (omega arith) (unchanged n st)

only_six : (n a b : ℕ) (st : State) → OnlyFrom n st (six_set st n a b)
only_six n a b st =
    also n (n + 5) (sign_of (lower a b)) (omega arith) (also n (n + 4) 31 (omega arith) (also n (n + 3) (upper a b) (omega arith)
    (also n (n + 2) (lower a b) (omega arith) (also n (n + 1) b (omega arith) (only_one n a st)))))

only_seven : (n a b : ℕ) (st : State) → OnlyFrom n st (seven_set st n a b)
only_seven n a b st = also n (n + 6) (result a b) (omega arith) (only_six n a b st)

module _ (st : State) (n a b : ℕ) where
  left_in_two : (two_set st n a b).env n ≡ Some a
  left_in_two = past (set st n a) (n + 1) b n (omega arith) (set_same st.env n a)

  right_in_two : (two_set st n a b).env (n + 1) ≡ Some b
  right_in_two = set_same (set st n a).env (n + 1) b

  left_in_three : (three_set st n a b).env n ≡ Some a
  left_in_three = past (two_set st n a b) (n + 2) (lower a b) n (omega arith) left_in_two

  right_in_three : (three_set st n a b).env (n + 1) ≡ Some b
  right_in_three = past (two_set st n a b) (n + 2) (lower a b) (n + 1) (omega arith) right_in_two

  lower_in_five : (five_set st n a b).env (n + 2) ≡ Some (lower a b)
  lower_in_five = past (four_set st n a b) (n + 4) 31 (n + 2) (omega arith) (past (three_set st n a b) (n + 3) (upper a b) (n + 2) (omega arith) (set_same (two_set st n a b).env (n + 2) (lower a b)))

  count_in_five : (five_set st n a b).env (n + 4) ≡ Some 31
  count_in_five = set_same (four_set st n a b).env (n + 4) 31

  upper_in_six : (six_set st n a b).env (n + 3) ≡ Some (upper a b)
  upper_in_six = past (five_set st n a b) (n + 5) (sign_of (lower a b)) (n + 3) (omega arith) (past (four_set st n a b) (n + 4) 31 (n + 3) (omega arith) (set_same (three_set st n a b).env (n + 3) (upper a b)))

  sign_in_six : (six_set st n a b).env (n + 5) ≡ Some (sign_of (lower a b))
  sign_in_six = set_same (five_set st n a b).env (n + 5) (sign_of (lower a b))

  lower_in_six : (six_set st n a b).env (n + 2) ≡ Some (lower a b)
  lower_in_six = past (five_set st n a b) (n + 5) (sign_of (lower a b)) (n + 2) (omega arith) lower_in_five

  result_in_seven : (seven_set st n a b).env (n + 6) ≡ Some (result a b)
  result_in_seven = set_same (six_set st n a b).env (n + 6) (result a b)

-- the code up to the test of the sign, and what follows
abbrev product_from : Fixed → (left right n : ℕ) → List Op → List Op
product_from k left right n ops =
    compute n Add left k.top ∷ compute (n + 1) Add right k.top ∷ compute (n + 2) Mul n (n + 1) ∷ compute (n + 3) Mulh n (n + 1) ∷ constant (n + 4) 31
    ∷ compute (n + 5) Sra (n + 2) (n + 4) ∷ ops

module _ (g : Setting) (calls : Calls) (k : Fixed) (x y : ℤ) (line left right n : ℕ) (st : State) (c : ℕ) (h : HasFixed k n st) (l : HasInt x left n st) (m : HasInt y right n st) where
  goes : {ops : List Op} {su : State} {i : ℕ} → AllGo g calls ops (six_set st n (signed_word x) (signed_word y)) (c + 10 + 10 + 10 + 10 + 5 + 10) su i → AllGo g calls (product_from k left right n ops) st c su i
  goes f = let a = signed_word x in let b = signed_word y in
      compute_goes n Add left k.top l.is h.top_is
      ▸ compute_goes (n + 1) Add right k.top (past st n a right m.below m.is) (past st n a k.top h.top_below h.top_is)
      ▸ compute_goes (n + 2) Mul n (n + 1) (left_in_two st n a b) (right_in_two st n a b)
      ▸ compute_goes (n + 3) Mulh n (n + 1) (left_in_three st n a b) (right_in_three st n a b)
      ▸ constant_goes (n + 4) 31
      ▸ compute_goes (n + 5) Sra (n + 2) (n + 4) (lower_in_five st n a b) (count_in_five st n a b)
      ▸ f

  stop : {ops : List Op} {su : State} {kind i : ℕ} → AllStop g calls ops (six_set st n (signed_word x) (signed_word y)) (c + 10 + 10 + 10 + 10 + 5 + 10) kind line su i → AllStop g calls (product_from k left right n ops) st c kind line su i
  stop f = let a = signed_word x in let b = signed_word y in
      compute_goes n Add left k.top l.is h.top_is
      ▹ compute_goes (n + 1) Add right k.top (past st n a right m.below m.is) (past st n a k.top h.top_below h.top_is)
      ▹ compute_goes (n + 2) Mul n (n + 1) (left_in_two st n a b) (right_in_two st n a b)
      ▹ compute_goes (n + 3) Mulh n (n + 1) (left_in_three st n a b) (right_in_three st n a b)
      ▹ constant_goes (n + 4) 31
      ▹ compute_goes (n + 5) Sra (n + 2) (n + 4) (lower_in_five st n a b) (count_in_five st n a b)
      ▹ f

  top_in_six : (six_set st n (signed_word x) (signed_word y)).env k.top ≡ Some 2147483648
  top_in_six = held k.top (only_six n (signed_word x) (signed_word y) st) h.top_below h.top_is

  zero_in_seven : (seven_set st n (signed_word x) (signed_word y)).env k.zero ≡ Some 0
  zero_in_seven = held k.zero (only_seven n (signed_word x) (signed_word y) st) h.zero_below h.zero_is

  tested : let a = signed_word x in let b = signed_word y in Tested (x *ℤ y) (result a b) (upper a b == sign_of (lower a b)) (not (result a b == 0))
  tested = let a = signed_word x in let b = signed_word y in
      let p = product_is x y a b (wide a) (wide b) l.small m.small (is_signed x l.small) (is_signed y m.small) in
      product_tested (x *ℤ y) (wide a * wide b % 18446744073709551616) (lower a b) p.wide_is p.low_is p.bounded

  gives_result : is_int (x *ℤ y) ≡ true → GivesInt n (n + 6) product_most (x *ℤ y) st c (run_list g calls (product_code k line left right n) st c)
  gives_result i = let a = signed_word x in let b = signed_word y in let f = tested.fits i in gives_int (x *ℤ y)
      (goes (check_goes Equal (n + 3) (n + 5) kind.Overflow line (upper_in_six st n a b) (sign_in_six st n a b) f.0
      ▸ compute_goes (n + 6) Add (n + 2) k.top (lower_in_six st n a b) top_in_six
      ▸ check_goes NotEqual (n + 6) k.zero kind.Overflow line (result_in_seven st n a b) zero_in_seven f.1 ▸ none))
      (only_seven n a b st) (result_in_seven st n a b ∙ ap (λ x. Some x) f.2) i (omega arith) (omega arith)

  raises_second : (upper (signed_word x) (signed_word y) == sign_of (lower (signed_word x) (signed_word y))) ≡ true → not (result (signed_word x) (signed_word y) == 0) ≡ false → RaisesAt line n product_most kind.Overflow st c (run_list g calls (product_code k line left right n) st c)
  raises_second e f = let a = signed_word x in let b = signed_word y in raises_at kind.Overflow
      (stop (check_goes Equal (n + 3) (n + 5) kind.Overflow line (upper_in_six st n a b) (sign_in_six st n a b) e
      ▹ compute_goes (n + 6) Add (n + 2) k.top (lower_in_six st n a b) top_in_six
      ▹ stops [] (check_stops NotEqual (n + 6) k.zero kind.Overflow line (result_in_seven st n a b) zero_in_seven f)))
      (only_seven n a b st) (omega arith) (omega arith)

  raises_first : (upper (signed_word x) (signed_word y) == sign_of (lower (signed_word x) (signed_word y))) ≡ false → RaisesAt line n product_most kind.Overflow st c (run_list g calls (product_code k line left right n) st c)
  raises_first e = let a = signed_word x in let b = signed_word y in raises_at kind.Overflow
      (stop (stops (compute (n + 6) Add (n + 2) k.top ∷ raise_unless NotEqual (n + 6) k.zero kind.Overflow line ∷ []) (check_stops Equal (n + 3) (n + 5) kind.Overflow line (upper_in_six st n a b) (sign_in_six st n a b) e)))
      (only_six n a b st) (omega arith) (omega arith)

  meets : Meets line n (n + 6) product_most (exact (x *ℤ y)) st c (run_list g calls (product_code k line left right n) st c)
  meets = exact_meets line n (n + 6) product_most (x *ℤ y) st c (run_list g calls (product_code k line left right n) st c) gives_result
      (λ i. on_test (upper (signed_word x) (signed_word y) == sign_of (lower (signed_word x) (signed_word y))) (λ e. raises_second e (tested.fails i e)) raises_first)

pub product_meets : ProductMeets
product_meets g calls k x y line left right n st c h l m = meets g calls k x y line left right n st c h l m
