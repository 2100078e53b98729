-- What stands in the code of an operation stands in the operation.
use Rattle.std.proofs.Common.{◌≡◌, ℕ, zero, suc, ◌+◌, List, [], ◌∷◌, ◌++◌, Option, Some, None, refl, subst}
use Rattle.std.specs.Prelude.{slice_get}
use Rattle.std.specs.List.{AllByRecursion as Each}
use Rattle.ir_form.specs.declared.plain.Plain.{Plain as PlainOp}
use Rattle.ir_form.specs.declared.op.Op.{Op, Plain as Simple, If', Case', Loop', Guard', Leave, Row_of-Op, end_of-Op, more_of-Op, Row_of-Arm, end_of-Arm, more_of-Arm}
use Rattle.ir_form.specs.declared.op.Exit.{Exit}
use Rattle.ir_form.specs.declared.op.Exit.TheVariants.{Routine as the_routine, Loop as the_loop}
use Rattle.ir_form.specs.declared.op.Range.{Range}
use Rattle.ir_form.specs.Lawful.{plain_numbers, numbers, numbers_all, numbers_arms, numbers_list, plains, plains_all, plains_arms, plains_list}
use Rattle.ir_form.proofs.Each.{both, front, back}
use Rattle.rv_flat.specs.declared.linear.Instruction.{Instruction}
use Rattle.rv_flat.specs.declared.linear.Target.{Target}
use Rattle.rv_flat.specs.declared.linear.Handler.{Handler}
use Rattle.rv_flat.specs.Flat.{Around, in_loop, in_guard, plain_code, labels, labels_all, arm_count, hand_code, leave_code, target_of, range_tests, tests, code_of, code_all, code_arms, code_list}
use Rattle.rv_flat.specs.Parts.{gathered, instruction_numbers, instruction_plains}

-- facts of what stands in code
module _ {X : Type 0} (P : X → Type 0) where
  module _ (part : Instruction → List X) where
    pub record Stands (code : List Instruction) : Type 0 where
      pub each : Each P (gathered part code)

    pub stands_none : Stands []
    stands_none = record { each = tt }

    pub stands_more : (i : Instruction) (is : List Instruction) → Each P (part i) → Stands is → Stands (i ∷ is)
    stands_more i is h k = record { each = both P (part i) (gathered part is) h k.each }

    pub stands_both : (a b : List Instruction) → Stands a → Stands b → Stands (a ++ b)
    stands_both [] b h k = k
    stands_both (i ∷ is) b h k =
        stands_more i (is ++ b) (front P (part i) (gathered part is) h.each) (stands_both is b (record { each = back P (part i) (gathered part is) h.each }) k)

    pub stands_front : (a b : List Instruction) → Stands (a ++ b) → Stands a
    stands_front [] b h = stands_none
    stands_front (i ∷ is) b h =
        stands_more i is (front P (part i) (gathered part (is ++ b)) h.each) (stands_front is b (record { each = back P (part i) (gathered part (is ++ b)) h.each }))

    pub stands_back : (a b : List Instruction) → Stands (a ++ b) → Stands b
    stands_back [] b h = h
    stands_back (i ∷ is) b h = stands_back is b (record { each = back P (part i) (gathered part (is ++ b)) h.each })

-- values
module _ (P : ℕ → Type 0) where
  abbrev pub Names : List Instruction → Type 0
  Names code = Stands P instruction_numbers code

  none : Names []
  none = stands_none P instruction_numbers

  more : (i : Instruction) (is : List Instruction) → Each P (instruction_numbers i) → Names is → Names (i ∷ is)
  more i is h k = stands_more P instruction_numbers i is h k

  names_both : (a b : List Instruction) → Names a → Names b → Names (a ++ b)
  names_both a b h k = stands_both P instruction_numbers a b h k

  pub record Lies (around : Around) : Type 0 where
    pub loops : (k : ℕ) (t : Target) → slice_get around.loops k ≡ Some t → Each P t.to
    pub handler : (h : Handler) → around.handler ≡ Some h → Each P h.to

  lies_in_loop : (around : Around) (l : ℕ) (to : List ℕ) → Lies around → Each P to → Lies (in_loop (record { label = l; to = to }) around)
  lies_in_loop around l to h k = record { loops = known; handler = h.handler }
    where
      known : (i : ℕ) (t : Target) → slice_get (record { label = l; to = to } ∷ around.loops) i ≡ Some t → Each P t.to
      known zero t e = let same : record { label = l; to = to } ≡ t = cc in subst (λ (u : Target). Each P u.to) same k
      known (suc i) t e = h.loops i t e

  lies_in_guard : (around : Around) (x : Handler) → Lies around → Each P x.to → Lies (in_guard x around)
  lies_in_guard around x h k = record { loops = h.loops; handler = known }
    where
      known : (y : Handler) → Some x ≡ Some y → Each P y.to
      known y e = let same : x ≡ y = cc in subst (λ (u : Handler). Each P u.to) same k

  names_plain : (o : Option Handler) (p : PlainOp) → ((h : Handler) → o ≡ Some h → Each P h.to) → Each P (plain_numbers p) → Names (plain_code o p ∷ [])
  names_plain None p f h = more _ [] h none
  names_plain (Some t) p f h = more _ [] (both P (plain_numbers p) t.to h (f t refl)) none

  names_hand : (to from : List ℕ) → Each P to → Each P from → Names (hand_code to from)
  names_hand to [] h k = none
  names_hand to (x ∷ xs) h k = more _ [] (both P to (x ∷ xs) h k) none

  names_ranges : (value n : ℕ) (ranges : List Range) → P value → Names (range_tests value n ranges)
  names_ranges value n [] h = none
  names_ranges value n (r ∷ rs) h = more _ _ (h, tt) (names_ranges value n rs h)

  names_tests : (value n : ℕ) {k : _} (arms : Row_of-Arm k) → P value → Names (tests value n arms)
  names_tests value n end_of-Arm h = none
  names_tests value n (more_of-Arm ranges a b ops results arms) h = names_both _ _ (names_ranges value n ranges h) (names_tests value (n + 1) arms h)

  names_leave : (o : Option Target) (values : List ℕ) → ((t : Target) → o ≡ Some t → Each P t.to) → Each P values → Names (leave_code o values)
  names_leave None values h k = more _ [] k none
  names_leave (Some t) values h k = names_both _ _ (names_hand t.to values (h t refl) k) (more _ [] tt none)

  names_exit : (around : Around) → Lies around → (exit : Exit) (t : Target) → target_of around exit ≡ Some t → Each P t.to
  names_exit around a the_routine t e = cc
  names_exit around a (the_loop k) t e = a.loops k t e

  -- the parts of what an operation names
  record Region (p ns rs : List ℕ) : Type 0 where
    parameters : Each P p
    inside : Each P ns
    results : Each P rs

  region_parts : (p ns results : List ℕ) → Each P (p ++ (ns ++ results)) → Region p ns results
  region_parts p ns results h =
      let i = back P p (ns ++ results) h in
      record { parameters = front P p (ns ++ results) h; inside = front P ns results i; results = back P ns results i }

  mutual
    pub names_code : (around : Around) → Lies around → (n : ℕ) (op : Op) → Each P (numbers op) → Names (code_of around n op)
    names_code around a n (Simple p) h = names_plain around.handler p a.handler h
    names_code around a n (If' relation left right p b ops results q c others others_results to) h =
        let x = p ++ (numbers_all ops ++ results) in let y = q ++ (numbers_all others ++ others_results) in
        let taken = back P y to (back P x (y ++ to) h.1.1) in
        let first = region_parts p (numbers_all ops) results (front P x (y ++ to) h.1.1) in
        let second = region_parts q (numbers_all others) others_results (front P y to (back P x (y ++ to) h.1.1)) in
        more _ _ (h.0, (h.1.0, tt))
        (names_both _ _ (names_both _ _ (names_all around a (n + 2) ops first.inside) (names_hand to results taken first.results))
        (more _ _ tt (more _ _ tt
        (names_both _ _ (names_both _ _ (names_all around a (n + 2 + labels_all ops) others second.inside) (names_hand to others_results taken second.results)) (more _ [] tt none)))))
    names_code around a n (Case' value b arms p c ops results to) h =
        let x = p ++ (numbers_all ops ++ results) in let y = numbers_arms arms in
        let first = region_parts p (numbers_all ops) results (front P x (y ++ to) h.1) in
        let inner = front P y to (back P x (y ++ to) h.1) in
        let taken = back P y to (back P x (y ++ to) h.1) in
        names_both _ _ (names_tests value (n + 1) arms h.0)
        (names_both _ _ (names_both _ _ (names_all around a (n + 1 + arm_count arms) ops first.inside) (names_hand to results taken first.results))
        (names_both _ _ (names_arms around a to n (n + 1) (n + 1 + arm_count arms + labels_all ops) arms inner taken) (more _ [] tt none)))
    names_code around a n (Loop' marked start p b ops results to) h =
        let x = p ++ (numbers_all ops ++ results) in
        let handed = front P start (x ++ to) h in
        let body = region_parts p (numbers_all ops) results (front P x to (back P start (x ++ to) h)) in
        let taken = back P x to (back P start (x ++ to) h) in
        names_both _ _ (names_hand p start body.parameters handed) (more _ _ tt
        (names_both _ _ (names_all (in_loop (record { label = n + 1; to = to }) around) (lies_in_loop around (n + 1) to a taken) (n + 2) ops body.inside)
        (names_both _ _ (names_hand p results body.parameters body.results) (more _ _ tt (more _ [] tt none)))))
    names_code around a n (Guard' mark p b ops results q c others others_results to) h =
        let x = p ++ (numbers_all ops ++ results) in let y = q ++ (numbers_all others ++ others_results) in
        let taken = back P y to (back P x (y ++ to) h) in
        let first = region_parts p (numbers_all ops) results (front P x (y ++ to) h) in
        let second = region_parts q (numbers_all others) others_results (front P y to (back P x (y ++ to) h)) in
        let t : Handler = record { label = n; mark = mark; to = q } in
        more _ _ tt
        (names_both _ _ (names_both _ _ (names_all (in_guard t around) (lies_in_guard around t a second.parameters) (n + 2) ops first.inside) (names_hand to results taken first.results))
        (more _ _ tt (more _ _ tt
        (names_both _ _ (names_both _ _ (names_all around a (n + 2 + labels_all ops) others second.inside) (names_hand to others_results taken second.results)) (more _ [] tt none)))))
    names_code around a n (Leave exit values) h = names_leave (target_of around exit) values (names_exit around a exit) h

    names_all : (around : Around) → Lies around → (n : ℕ) {k : _} (ops : Row_of-Op k) → Each P (numbers_all ops) → Names (code_all around n ops)
    names_all around a n end_of-Op h = none
    names_all around a n (more_of-Op op ops) h =
        names_both _ _ (names_code around a n op (front P (numbers op) (numbers_all ops) h)) (names_all around a (n + labels op) ops (back P (numbers op) (numbers_all ops) h))

    names_arms : (around : Around) → Lies around → (to : List ℕ) (end n m : ℕ) {k : _} (arms : Row_of-Arm k) → Each P (numbers_arms arms) → Each P to → Names (code_arms around to end n m arms)
    names_arms around a to end n m end_of-Arm h k = none
    names_arms around a to end n m (more_of-Arm [] p b ops results arms) h k =
        names_arms around a to end (n + 1) (m + 0) arms (back P (p ++ (numbers_all ops ++ results)) (numbers_arms arms) h) k
    names_arms around a to end n m (more_of-Arm (r ∷ rs) p b ops results arms) h k =
        let x = p ++ (numbers_all ops ++ results) in
        let region = region_parts p (numbers_all ops) results (front P x (numbers_arms arms) h) in
        more _ _ tt (more _ _ tt
        (names_both _ _ (names_both _ _ (names_all around a m ops region.inside) (names_hand to results k region.results))
        (names_arms around a to end (n + 1) (m + labels_all ops) arms (back P x (numbers_arms arms) h) k)))

  pub names_list : (around : Around) → Lies around → (n : ℕ) (ops : List Op) → Each P (numbers_list ops) → Names (code_list around n ops)
  names_list around a n [] h = none
  names_list around a n (op ∷ ops) h =
      names_both _ _ (names_code around a n op (front P (numbers op) (numbers_list ops) h)) (names_list around a (n + labels op) ops (back P (numbers op) (numbers_list ops) h))

-- operations with no region
module _ (P : PlainOp → Type 0) where
  abbrev pub Does : List Instruction → Type 0
  Does code = Stands P instruction_plains code

  idle : Does []
  idle = stands_none P instruction_plains

  also : (i : Instruction) (is : List Instruction) → Each P (instruction_plains i) → Does is → Does (i ∷ is)
  also i is h k = stands_more P instruction_plains i is h k

  does_both : (a b : List Instruction) → Does a → Does b → Does (a ++ b)
  does_both a b h k = stands_both P instruction_plains a b h k

  does_plain : (o : Option Handler) (p : PlainOp) → Each P (p ∷ []) → Does (plain_code o p ∷ [])
  does_plain None p h = also _ [] h idle
  does_plain (Some t) p h = also _ [] h idle

  does_hand : (to from : List ℕ) → Does (hand_code to from)
  does_hand to [] = idle
  does_hand to (x ∷ xs) = also _ [] tt idle

  does_ranges : (value n : ℕ) (ranges : List Range) → Does (range_tests value n ranges)
  does_ranges value n [] = idle
  does_ranges value n (r ∷ rs) = also _ _ tt (does_ranges value n rs)

  does_tests : (value n : ℕ) {k : _} (arms : Row_of-Arm k) → Does (tests value n arms)
  does_tests value n end_of-Arm = idle
  does_tests value n (more_of-Arm ranges a b ops results arms) = does_both _ _ (does_ranges value n ranges) (does_tests value (n + 1) arms)

  does_leave : (o : Option Target) (values : List ℕ) → Does (leave_code o values)
  does_leave None values = also _ [] tt idle
  does_leave (Some t) values = does_both _ _ (does_hand t.to values) (also _ [] tt idle)

  mutual
    does_code : (around : Around) (n : ℕ) (op : Op) → Each P (plains op) → Does (code_of around n op)
    does_code around n (Simple p) h = does_plain around.handler p h
    does_code around n (If' relation left right p b ops results q c others others_results to) h =
        also _ _ tt (does_both _ _ (does_both _ _ (does_all around (n + 2) ops (front P (plains_all ops) (plains_all others) h)) (does_hand to results))
        (also _ _ tt (also _ _ tt
        (does_both _ _ (does_both _ _ (does_all around (n + 2 + labels_all ops) others (back P (plains_all ops) (plains_all others) h)) (does_hand to others_results)) (also _ [] tt idle)))))
    does_code around n (Case' value b arms p c ops results to) h =
        does_both _ _ (does_tests value (n + 1) arms)
        (does_both _ _ (does_both _ _ (does_all around (n + 1 + arm_count arms) ops (front P (plains_all ops) (plains_arms arms) h)) (does_hand to results))
        (does_both _ _ (does_arms around to n (n + 1) (n + 1 + arm_count arms + labels_all ops) arms (back P (plains_all ops) (plains_arms arms) h)) (also _ [] tt idle)))
    does_code around n (Loop' marked start p b ops results to) h =
        does_both _ _ (does_hand p start) (also _ _ tt (does_both _ _ (does_all (in_loop (record { label = n + 1; to = to }) around) (n + 2) ops h)
        (does_both _ _ (does_hand p results) (also _ _ tt (also _ [] tt idle)))))
    does_code around n (Guard' mark p b ops results q c others others_results to) h =
        also _ _ tt (does_both _ _ (does_both _ _ (does_all (in_guard (record { label = n; mark = mark; to = q }) around) (n + 2) ops (front P (plains_all ops) (plains_all others) h)) (does_hand to results))
        (also _ _ tt (also _ _ tt
        (does_both _ _ (does_both _ _ (does_all around (n + 2 + labels_all ops) others (back P (plains_all ops) (plains_all others) h)) (does_hand to others_results)) (also _ [] tt idle)))))
    does_code around n (Leave exit values) h = does_leave (target_of around exit) values

    does_all : (around : Around) (n : ℕ) {k : _} (ops : Row_of-Op k) → Each P (plains_all ops) → Does (code_all around n ops)
    does_all around n end_of-Op h = idle
    does_all around n (more_of-Op op ops) h =
        does_both _ _ (does_code around n op (front P (plains op) (plains_all ops) h)) (does_all around (n + labels op) ops (back P (plains op) (plains_all ops) h))

    does_arms : (around : Around) (to : List ℕ) (end n m : ℕ) {k : _} (arms : Row_of-Arm k) → Each P (plains_arms arms) → Does (code_arms around to end n m arms)
    does_arms around to end n m end_of-Arm h = idle
    does_arms around to end n m (more_of-Arm [] p b ops results arms) h = does_arms around to end (n + 1) (m + 0) arms (back P (plains_all ops) (plains_arms arms) h)
    does_arms around to end n m (more_of-Arm (r ∷ rs) p b ops results arms) h =
        also _ _ tt (also _ _ tt (does_both _ _ (does_both _ _ (does_all around m ops (front P (plains_all ops) (plains_arms arms) h)) (does_hand to results))
        (does_arms around to end (n + 1) (m + labels_all ops) arms (back P (plains_all ops) (plains_arms arms) h))))

  pub does_list : (around : Around) (n : ℕ) (ops : List Op) → Each P (plains_list ops) → Does (code_list around n ops)
  does_list around n [] h = idle
  does_list around n (op ∷ ops) h =
      does_both _ _ (does_code around n op (front P (plains op) (plains_list ops) h)) (does_list around (n + labels op) ops (back P (plains op) (plains_list ops) h))
