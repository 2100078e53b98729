-- Each label of the code of an operation stands once, and so does each that is gone to.
use Rattle.std.proofs.Common.{◌≡◌, ℕ, zero, suc, ◌+◌, ◌<◌, ◌≤◌, List, [], ◌∷◌, ◌++◌, Option, Some, None, Bool, true, false, refl, ap, subst, arith, inl, inr}
use Rattle.std.specs.Prelude.{if◌then◌else◌, ◌==◌, ◌⊎◌, slice_get}
use Rattle.std.specs.List.{AllByRecursion as Each}
use Rattle.std.proofs.lemmas.Bool.{ne_eqb, eq-eqb, cases_lt}
use Rattle.std.proofs.lemmas.List.Elements.{All-from_recursion}
use Rattle.ir_form.specs.declared.plain.Plain.{Plain as PlainOp}
use Rattle.ir_form.specs.declared.op.Op.{Op, Plain as Simple, If', Case', Loop', Guard', Leave, Row_of-Op, end_of-Op, more_of-Op, Row_of-Arm, end_of-Arm, more_of-Arm}
use Rattle.ir_form.specs.declared.op.Exit.{Exit}
use Rattle.ir_form.specs.declared.op.Exit.TheVariants.{Routine as the_routine, Loop as the_loop}
use Rattle.ir_form.specs.declared.op.Range.{Range}
use Rattle.rv_flat.specs.declared.linear.Instruction.{Instruction}
use Rattle.rv_flat.specs.declared.linear.Instruction.TheVariants.{Plain, Guarded, Open, Branch, Within, Hand, Jump, Label, Back}
use Rattle.rv_flat.specs.declared.linear.Target.{Target}
use Rattle.rv_flat.specs.declared.linear.Handler.{Handler}
use Rattle.rv_flat.specs.Flat.{Around, nothing_around, in_loop, in_guard, plain_code, labels, labels_all, labels_arms, arm_count, hand_code, leave_code, target_of, range_tests, tests, code_of, code_all, code_arms, code_list, labels_list}
use Rattle.rv_flat.specs.Parts.{gathered, instruction_labels, instruction_targets, times, HasItsLabels}
use Rattle.rv_flat.proofs.Parts.{Stands, stands_none, stands_more, stands_both, stands_front, stands_back}

-- 1 for the label that stands there
abbrev here : ℕ → ℕ → ℕ
here l x = if l == x then 1 else 0

here_at_most : (b : Bool) → (if b then 1 else 0) ≤ 1
here_at_most true = omega arith
here_at_most false = omega arith

-- how often a label stands in code with labels from n to below n + k: at most once, and nowhere else
record Once (l n k c : ℕ) : Type 0 where
  once : c ≤ 1
  low : l < n → c ≡ 0
  high : n + k ≤ l → c ≡ 0

one_here : (l x : ℕ) → Once l x 1 (here l x)
one_here l x = record {
  once = here_at_most (l == x);
  low = λ lt. ap (λ b. if b then 1 else 0) (ne_eqb l x (λ e. absurd (omega arith)));
  high = λ le. ap (λ b. if b then 1 else 0) (ne_eqb l x (λ e. absurd (omega arith)));
}

-- two ranges, one behind the other
merge : (l a k c b j d n m t : ℕ) → Once l a k c → Once l b j d → a + k ≤ b → n ≤ a → b + j ≤ n + m → t ≡ c + d → Once l n m t
merge l a k c b j d n m t x y le1 le2 le3 e =
    let x0 = x.once in let x1 = x.low in let x2 = x.high in let y0 = y.once in let y1 = y.low in let y2 = y.high in
    record { once = at_once (cases_lt l b); low = λ lt. let c0 = x1 (omega arith) in let d0 = y1 (omega arith) in omega arith; high = λ le. let c0 = x2 (omega arith) in let d0 = y2 (omega arith) in omega arith }
  where
    at_once : (l < b) ⊎ (b ≤ l) → t ≤ 1
    at_once (inr le) = let c0 = x.high (omega arith) in let d0 = y.once in omega arith
    at_once (inl lt) = let d0 = y.low lt in let c0 = x.once in omega arith

wider : (l a k c n m : ℕ) → Once l a k c → n ≤ a → a + k ≤ n + m → Once l n m c
wider l a k c n m x le1 le2 = record { once = x.once; low = λ lt. x.low (omega arith); high = λ le. x.high (omega arith) }

nowhere : (l n k c : ℕ) → c ≡ 0 → Once l n k c
nowhere l n k c e = record { once = omega arith; low = λ a. e; high = λ a. e }

times_append : (l : ℕ) (a b : List Instruction) → times l (a ++ b) ≡ times l a + times l b
times_append l [] b = omega arith
times_append l (Plain p ∷ is) b = times_append l is b
times_append l (Guarded p h ∷ is) b = times_append l is b
times_append l (Open mark ∷ is) b = times_append l is b
times_append l (Branch relation x y z ∷ is) b = times_append l is b
times_append l (Within value range z ∷ is) b = times_append l is b
times_append l (Hand to from ∷ is) b = times_append l is b
times_append l (Jump z ∷ is) b = times_append l is b
times_append l (Label label marked ∷ is) b = let e = times_append l is b in omega arith
times_append l (Back values ∷ is) b = times_append l is b

times_plain : (l : ℕ) (o : Option Handler) (p : PlainOp) → times l (plain_code o p ∷ []) ≡ 0
times_plain l None p = refl
times_plain l (Some h) p = refl

times_hand : (l : ℕ) (to from : List ℕ) → times l (hand_code to from) ≡ 0
times_hand l to [] = refl
times_hand l to (x ∷ xs) = refl

times_ranges : (l value n : ℕ) (ranges : List Range) → times l (range_tests value n ranges) ≡ 0
times_ranges l value n [] = refl
times_ranges l value n (r ∷ rs) = times_ranges l value n rs

times_tests : (l value n : ℕ) {k : _} (arms : Row_of-Arm k) → times l (tests value n arms) ≡ 0
times_tests l value n end_of-Arm = refl
times_tests l value n (more_of-Arm ranges a b ops results arms) =
    let e = times_append l (range_tests value n ranges) (tests value (n + 1) arms) in let u = times_ranges l value n ranges in let v = times_tests l value (n + 1) arms in omega arith

times_leave : (l : ℕ) (o : Option Target) (values : List ℕ) → times l (leave_code o values) ≡ 0
times_leave l None values = refl
times_leave l (Some t) values = let e = times_append l (hand_code t.to values) (Jump t.label ∷ []) in let u = times_hand l t.to values in omega arith

-- the code of a region, with what it hands on
times_region : (l : ℕ) (x rest : List Instruction) (to results : List ℕ) → times l ((x ++ hand_code to results) ++ rest) ≡ times l x + times l rest
times_region l x rest to results =
    let a = times_append l (x ++ hand_code to results) rest in let b = times_append l x (hand_code to results) in let c = times_hand l to results in omega arith

-- arms, with their labels from n and those of their code from m
record OnceArms (l n c m k t : ℕ) : Type 0 where
  heads : ℕ
  codes : ℕ
  total : t ≡ heads + codes
  at_heads : Once l n c heads
  at_codes : Once l m k codes

mutual
  once_code : (around : Around) (n l : ℕ) (op : Op) → Once l n (labels op) (times l (code_of around n op))
  once_code around n l (Simple p) = nowhere l n 0 _ (times_plain l around.handler p)
  once_code around n l (If' relation left right p a ops results q b others others_results to) =
      let f = n + 2 + labels_all ops in
      let x = times l (code_all around (n + 2) ops) in let y = times l (code_all around f others) in
      let e1 = times_region l (code_all around (n + 2) ops) (Jump (n + 1) ∷ Label n false ∷ ((code_all around f others ++ hand_code to others_results) ++ Label (n + 1) false ∷ [])) to results in
      let e2 = times_region l (code_all around f others) (Label (n + 1) false ∷ []) to others_results in
      let own = merge l n 1 (here l n) (n + 1) 1 (here l (n + 1)) n 2 (here l n + here l (n + 1)) (one_here l n) (one_here l (n + 1)) (omega arith) (omega arith) (omega arith) refl in
      let first = merge l n 2 _ (n + 2) (labels_all ops) x n (2 + labels_all ops) (here l n + here l (n + 1) + x) own (once_all around (n + 2) l ops) (omega arith) (omega arith) (omega arith) refl in
      merge l n (2 + labels_all ops) _ f (labels_all others) y n (2 + labels_all ops + labels_all others) _ first (once_all around f l others) (omega arith) (omega arith) (omega arith) (omega arith)
  once_code around n l (Case' value a arms p b ops results to) =
      let c = arm_count arms in let i = n + 1 + c in let f = i + labels_all ops in
      let code = code_arms around to n (n + 1) f arms in
      let x = times l (code_all around i ops) in
      let y = once_arms around to n (n + 1) f l arms in
      let t = y.total in
      let e1 = times_append l (tests value (n + 1) arms) ((code_all around i ops ++ hand_code to results) ++ (code ++ Label n false ∷ [])) in
      let e2 = times_region l (code_all around i ops) (code ++ Label n false ∷ []) to results in
      let e3 = times_append l code (Label n false ∷ []) in let e4 = times_tests l value (n + 1) arms in
      let heads = merge l n 1 (here l n) (n + 1) c y.heads n (1 + c) (here l n + y.heads) (one_here l n) y.at_heads (omega arith) (omega arith) (omega arith) refl in
      let first = merge l n (1 + c) _ i (labels_all ops) x n (1 + c + labels_all ops) (here l n + y.heads + x) heads (once_all around i l ops) (omega arith) (omega arith) (omega arith) refl in
      merge l n (1 + c + labels_all ops) _ f (labels_arms arms) y.codes n (1 + c + labels_all ops + labels_arms arms) _ first y.at_codes (omega arith) (omega arith) (omega arith) (omega arith)
  once_code around n l (Loop' marked start p a ops results to) =
      let inner : Around = in_loop (record { label = n + 1; to = to }) around in
      let x = times l (code_all inner (n + 2) ops) in
      let e1 = times_append l (hand_code p start) (Label n marked ∷ (code_all inner (n + 2) ops ++ (hand_code p results ++ Jump n ∷ Label (n + 1) false ∷ []))) in
      let e2 = times_append l (code_all inner (n + 2) ops) (hand_code p results ++ Jump n ∷ Label (n + 1) false ∷ []) in
      let e3 = times_append l (hand_code p results) (Jump n ∷ Label (n + 1) false ∷ []) in let e4 = times_hand l p start in let e5 = times_hand l p results in
      let own = merge l n 1 (here l n) (n + 1) 1 (here l (n + 1)) n 2 (here l n + here l (n + 1)) (one_here l n) (one_here l (n + 1)) (omega arith) (omega arith) (omega arith) refl in
      merge l n 2 _ (n + 2) (labels_all ops) x n (2 + labels_all ops) _ own (once_all inner (n + 2) l ops) (omega arith) (omega arith) (omega arith) (omega arith)
  once_code around n l (Guard' mark p a ops results q b others others_results to) =
      let inner : Around = in_guard (record { label = n; mark = mark; to = q }) around in
      let f = n + 2 + labels_all ops in
      let x = times l (code_all inner (n + 2) ops) in let y = times l (code_all around f others) in
      let e1 = times_region l (code_all inner (n + 2) ops) (Jump (n + 1) ∷ Label n false ∷ ((code_all around f others ++ hand_code to others_results) ++ Label (n + 1) false ∷ [])) to results in
      let e2 = times_region l (code_all around f others) (Label (n + 1) false ∷ []) to others_results in
      let own = merge l n 1 (here l n) (n + 1) 1 (here l (n + 1)) n 2 (here l n + here l (n + 1)) (one_here l n) (one_here l (n + 1)) (omega arith) (omega arith) (omega arith) refl in
      let first = merge l n 2 _ (n + 2) (labels_all ops) x n (2 + labels_all ops) (here l n + here l (n + 1) + x) own (once_all inner (n + 2) l ops) (omega arith) (omega arith) (omega arith) refl in
      merge l n (2 + labels_all ops) _ f (labels_all others) y n (2 + labels_all ops + labels_all others) _ first (once_all around f l others) (omega arith) (omega arith) (omega arith) (omega arith)
  once_code around n l (Leave exit values) = nowhere l n 0 _ (times_leave l (target_of around exit) values)

  once_all : (around : Around) (n l : ℕ) {k : _} (ops : Row_of-Op k) → Once l n (labels_all ops) (times l (code_all around n ops))
  once_all around n l end_of-Op = nowhere l n 0 0 refl
  once_all around n l (more_of-Op op ops) =
      merge l n (labels op) _ (n + labels op) (labels_all ops) _ n (labels op + labels_all ops) _ (once_code around n l op) (once_all around (n + labels op) l ops) (omega arith) (omega arith) (omega arith)
      (times_append l (code_of around n op) (code_all around (n + labels op) ops))

  once_arms : (around : Around) (to : List ℕ) (end n m l : ℕ) {k : _} (arms : Row_of-Arm k) → OnceArms l n (arm_count arms) m (labels_arms arms) (times l (code_arms around to end n m arms))
  once_arms around to end n m l end_of-Arm = record { heads = 0; codes = 0; total = omega arith; at_heads = nowhere l n 0 0 refl; at_codes = nowhere l m 0 0 refl }
  once_arms around to end n m l (more_of-Arm [] p a ops results arms) =
      let y = once_arms around to end (n + 1) (m + 0) l arms in
      record { heads = y.heads; codes = y.codes; total = y.total; at_heads = wider l (n + 1) (arm_count arms) y.heads n (1 + arm_count arms) y.at_heads (omega arith) (omega arith); at_codes = wider l (m + 0) (labels_arms arms) y.codes m (0 + labels_arms arms) y.at_codes (omega arith) (omega arith) }
  once_arms around to end n m l (more_of-Arm (r ∷ rs) p a ops results arms) =
      let y = once_arms around to end (n + 1) (m + labels_all ops) l arms in
      let t = y.total in
      let x = times l (code_all around m ops) in
      let e = times_region l (code_all around m ops) (code_arms around to end (n + 1) (m + labels_all ops) arms) to results in
      record {
        heads = here l n + y.heads;
        codes = x + y.codes;
        total = omega arith;
        at_heads = merge l n 1 (here l n) (n + 1) (arm_count arms) y.heads n (1 + arm_count arms) (here l n + y.heads) (one_here l n) y.at_heads (omega arith) (omega arith) (omega arith) refl;
        at_codes = merge l m (labels_all ops) x (m + labels_all ops) (labels_arms arms) y.codes m (labels_all ops + labels_arms arms) (x + y.codes) (once_all around m l ops) y.at_codes (omega arith) (omega arith) (omega arith) refl;
      }

once_list : (around : Around) (n l : ℕ) (ops : List Op) → Once l n (labels_list ops) (times l (code_list around n ops))
once_list around n l [] = nowhere l n 0 0 refl
once_list around n l (op ∷ ops) =
    merge l n (labels op) _ (n + labels op) (labels_list ops) _ n (labels op + labels_list ops) _ (once_code around n l op) (once_list around (n + labels op) l ops) (omega arith) (omega arith) (omega arith)
    (times_append l (code_of around n op) (code_list around (n + labels op) ops))

-- a label that stands somewhere stands at least once
weaker : (P Q : ℕ → Type 0) (xs : List ℕ) → ((x : ℕ) → P x → Q x) → Each P xs → Each Q xs
weaker P Q [] h k = tt
weaker P Q (x ∷ xs) h k = (h x k.0, weaker P Q xs h k.1)

present : (code : List Instruction) → Each (λ l. 1 ≤ times l code) (gathered instruction_labels code)
present [] = tt
present (Plain p ∷ is) = present is
present (Guarded p h ∷ is) = present is
present (Open mark ∷ is) = present is
present (Branch relation x y z ∷ is) = present is
present (Within value range z ∷ is) = present is
present (Hand to from ∷ is) = present is
present (Jump z ∷ is) = present is
present (Label label marked ∷ is) =
    let e : here label label ≡ 1 = ap (λ b. if b then 1 else 0) (eq-eqb label label refl) in
    (omega arith, weaker (λ l. 1 ≤ times l is) (λ l. 1 ≤ times l (Label label marked ∷ is)) (gathered instruction_labels is) (λ x h. omega arith) (present is))
present (Back values ∷ is) = present is

-- labels that are gone to, where those that stand there have a property
module _ (P : ℕ → Type 0) where
  abbrev Has : List Instruction → Type 0
  Has code = Stands P instruction_labels code

  abbrev Goes : List Instruction → Type 0
  Goes code = Stands P instruction_targets code

  has_front : (a b : List Instruction) → Has (a ++ b) → Has a
  has_front a b h = stands_front P instruction_labels a b h

  has_back : (a b : List Instruction) → Has (a ++ b) → Has b
  has_back a b h = stands_back P instruction_labels a b h

  none : Goes []
  none = stands_none P instruction_targets

  more : (i : Instruction) (is : List Instruction) → Each P (instruction_targets i) → Goes is → Goes (i ∷ is)
  more i is h k = stands_more P instruction_targets i is h k

  goes_both : (a b : List Instruction) → Goes a → Goes b → Goes (a ++ b)
  goes_both a b h k = stands_both P instruction_targets a b h k

  goes_hand : (to from : List ℕ) → Goes (hand_code to from)
  goes_hand to [] = none
  goes_hand to (x ∷ xs) = more _ [] tt none

  record Known (around : Around) : Type 0 where
    loops : (k : ℕ) (t : Target) → slice_get around.loops k ≡ Some t → P t.label
    handler : (h : Handler) → around.handler ≡ Some h → P h.label

  known_in_loop : (around : Around) (l : ℕ) (to : List ℕ) → Known around → P l → Known (in_loop (record { label = l; to = to }) around)
  known_in_loop around l to h k = record { loops = known; handler = h.handler }
    where
      known : (i : ℕ) (t : Target) → slice_get (record { label = l; to = to } ∷ around.loops) i ≡ Some t → P t.label
      known zero t e = let same : record { label = l; to = to } ≡ t = cc in subst (λ (u : Target). P u.label) same k
      known (suc i) t e = h.loops i t e

  known_in_guard : (around : Around) (x : Handler) → Known around → P x.label → Known (in_guard x around)
  known_in_guard around x h k = record { loops = h.loops; handler = known }
    where
      known : (y : Handler) → Some x ≡ Some y → P y.label
      known y e = let same : x ≡ y = cc in subst (λ (u : Handler). P u.label) same k

  goes_plain : (o : Option Handler) (p : PlainOp) → ((h : Handler) → o ≡ Some h → P h.label) → Goes (plain_code o p ∷ [])
  goes_plain None p f = more _ [] tt none
  goes_plain (Some h) p f = more _ [] (f h refl, tt) none

  goes_leave : (o : Option Target) (values : List ℕ) → ((t : Target) → o ≡ Some t → P t.label) → Goes (leave_code o values)
  goes_leave None values h = more _ [] tt none
  goes_leave (Some t) values h = goes_both _ _ (goes_hand t.to values) (more _ [] (h t refl, tt) none)

  goes_exit : (around : Around) → Known around → (exit : Exit) (t : Target) → target_of around exit ≡ Some t → P t.label
  goes_exit around a the_routine t e = cc
  goes_exit around a (the_loop k) t e = a.loops k t e

  goes_ranges : (value n : ℕ) (ranges : List Range) → P n → Goes (range_tests value n ranges)
  goes_ranges value n [] h = none
  goes_ranges value n (r ∷ rs) h = more _ _ (h, tt) (goes_ranges value n rs h)

  goes_tests : (around : Around) (to : List ℕ) (end n m value : ℕ) {k : _} (arms : Row_of-Arm k) → Has (code_arms around to end n m arms) → Goes (tests value n arms)
  goes_tests around to end n m value end_of-Arm h = none
  goes_tests around to end n m value (more_of-Arm [] p a ops results arms) h = goes_tests around to end (n + 1) (m + 0) value arms h
  goes_tests around to end n m value (more_of-Arm (r ∷ rs) p a ops results arms) h =
      goes_both _ _ (goes_ranges value n (r ∷ rs) h.each.0)
      (goes_tests around to end (n + 1) (m + labels_all ops) value arms (has_back (code_all around m ops ++ hand_code to results) (code_arms around to end (n + 1) (m + labels_all ops) arms) (record { each = h.each.1 })))

  mutual
    goes_code : (around : Around) → Known around → (n : ℕ) (op : Op) → Has (code_of around n op) → Goes (code_of around n op)
    goes_code around a n (Simple p) h = goes_plain around.handler p a.handler
    goes_code around a n (If' relation left right p b ops results q c others others_results to) h =
        let f = n + 2 + labels_all ops in
        let x = code_all around (n + 2) ops ++ hand_code to results in let y = code_all around f others ++ hand_code to others_results in
        let end = Label (n + 1) false ∷ [] in
        let rest = Jump (n + 1) ∷ Label n false ∷ (y ++ end) in
        let tail : Has rest = has_back x rest (record { each = h.each }) in
        let first : Has x = has_front x rest (record { each = h.each }) in
        let second : Has y = has_front y end (record { each = tail.each.1 }) in
        let last : Has end = has_back y end (record { each = tail.each.1 }) in
        more _ _ (tail.each.0, tt)
        (goes_both _ _ (goes_both _ _ (goes_all around a (n + 2) ops (has_front (code_all around (n + 2) ops) (hand_code to results) first)) (goes_hand to results))
        (more _ _ (last.each.0, tt) (more _ _ tt
        (goes_both _ _ (goes_both _ _ (goes_all around a f others (has_front (code_all around f others) (hand_code to others_results) second)) (goes_hand to others_results)) (more _ [] tt none)))))
    goes_code around a n (Case' value b arms p c ops results to) h =
        let i = n + 1 + arm_count arms in let f = i + labels_all ops in
        let t = tests value (n + 1) arms in let x = code_all around i ops ++ hand_code to results in let y = code_arms around to n (n + 1) f arms in
        let end = Label n false ∷ [] in
        let rest : Has (x ++ (y ++ end)) = has_back t (x ++ (y ++ end)) h in
        let inner : Has (y ++ end) = has_back x (y ++ end) rest in
        let last : Has end = has_back y end inner in
        let of_arms : Has y = has_front y end inner in
        let first : Has x = has_front x (y ++ end) rest in
        goes_both _ _ (goes_tests around to n (n + 1) f value arms of_arms)
        (goes_both _ _ (goes_both _ _ (goes_all around a i ops (has_front (code_all around i ops) (hand_code to results) first)) (goes_hand to results))
        (goes_both _ _ (goes_arms around a to n (n + 1) f arms last.each.0 of_arms) (more _ [] tt none)))
    goes_code around a n (Loop' marked start p b ops results to) h =
        let inner : Around = in_loop (record { label = n + 1; to = to }) around in
        let x = code_all inner (n + 2) ops in
        let end = hand_code p results ++ Jump n ∷ Label (n + 1) false ∷ [] in
        let rest : Has (Label n marked ∷ (x ++ end)) = has_back (hand_code p start) (Label n marked ∷ (x ++ end)) h in
        let body : Has (x ++ end) = record { each = rest.each.1 } in
        let last : Has (Jump n ∷ Label (n + 1) false ∷ []) = has_back (hand_code p results) (Jump n ∷ Label (n + 1) false ∷ []) (has_back x end body) in
        goes_both _ _ (goes_hand p start) (more _ _ tt
        (goes_both _ _ (goes_all inner (known_in_loop around (n + 1) to a last.each.0) (n + 2) ops (has_front x end body))
        (goes_both _ _ (goes_hand p results) (more _ _ (rest.each.0, tt) (more _ [] tt none)))))
    goes_code around a n (Guard' mark p b ops results q c others others_results to) h =
        let t : Handler = record { label = n; mark = mark; to = q } in
        let inner : Around = in_guard t around in
        let f = n + 2 + labels_all ops in
        let x = code_all inner (n + 2) ops ++ hand_code to results in let y = code_all around f others ++ hand_code to others_results in
        let end = Label (n + 1) false ∷ [] in
        let rest = Jump (n + 1) ∷ Label n false ∷ (y ++ end) in
        let tail : Has rest = has_back x rest (record { each = h.each }) in
        let first : Has x = has_front x rest (record { each = h.each }) in
        let second : Has y = has_front y end (record { each = tail.each.1 }) in
        let last : Has end = has_back y end (record { each = tail.each.1 }) in
        more _ _ tt
        (goes_both _ _ (goes_both _ _ (goes_all inner (known_in_guard around t a tail.each.0) (n + 2) ops (has_front (code_all inner (n + 2) ops) (hand_code to results) first)) (goes_hand to results))
        (more _ _ (last.each.0, tt) (more _ _ tt
        (goes_both _ _ (goes_both _ _ (goes_all around a f others (has_front (code_all around f others) (hand_code to others_results) second)) (goes_hand to others_results)) (more _ [] tt none)))))
    goes_code around a n (Leave exit values) h = goes_leave (target_of around exit) values (goes_exit around a exit)

    goes_all : (around : Around) → Known around → (n : ℕ) {k : _} (ops : Row_of-Op k) → Has (code_all around n ops) → Goes (code_all around n ops)
    goes_all around a n end_of-Op h = none
    goes_all around a n (more_of-Op op ops) h =
        let x = code_of around n op in let y = code_all around (n + labels op) ops in
        goes_both _ _ (goes_code around a n op (has_front x y h)) (goes_all around a (n + labels op) ops (has_back x y h))

    goes_arms : (around : Around) → Known around → (to : List ℕ) (end n m : ℕ) {k : _} (arms : Row_of-Arm k) → P end → Has (code_arms around to end n m arms) → Goes (code_arms around to end n m arms)
    goes_arms around a to end n m end_of-Arm pe h = none
    goes_arms around a to end n m (more_of-Arm [] p b ops results arms) pe h = goes_arms around a to end (n + 1) (m + 0) arms pe h
    goes_arms around a to end n m (more_of-Arm (r ∷ rs) p b ops results arms) pe h =
        let x = code_all around m ops ++ hand_code to results in let y = code_arms around to end (n + 1) (m + labels_all ops) arms in
        let rest : Has (x ++ y) = record { each = h.each.1 } in
        more _ _ (pe, tt) (more _ _ tt
        (goes_both _ _ (goes_both _ _ (goes_all around a m ops (has_front (code_all around m ops) (hand_code to results) (has_front x y rest))) (goes_hand to results))
        (goes_arms around a to end (n + 1) (m + labels_all ops) arms pe (has_back x y rest))))

  goes_list : (around : Around) → Known around → (n : ℕ) (ops : List Op) → Has (code_list around n ops) → Goes (code_list around n ops)
  goes_list around a n [] h = none
  goes_list around a n (op ∷ ops) h =
      let x = code_of around n op in let y = code_list around (n + labels op) ops in
      goes_both _ _ (goes_code around a n op (has_front x y h)) (goes_list around a (n + labels op) ops (has_back x y h))

pub routine_labels : (ops : List Op) (values : List ℕ) → HasItsLabels (code_list nothing_around 0 ops ++ Back values ∷ [])
routine_labels ops values =
    let code = code_list nothing_around 0 ops in let whole = code ++ Back values ∷ [] in
    let P : ℕ → Type 0 = λ (l : ℕ). times l whole ≡ 1 in
    let once : Each P (gathered instruction_labels whole) = weaker (λ l. 1 ≤ times l whole) P (gathered instruction_labels whole) (λ l h. let o = (once_list nothing_around 0 l ops).once in let e = times_append l code (Back values ∷ []) in omega arith) (present whole) in
    let goes = goes_both P code (Back values ∷ []) (goes_list P nothing_around (record { loops = λ k t e. cc; handler = λ h e. cc }) 0 ops (has_front P code (Back values ∷ []) (record { each = once }))) (more P (Back values) [] tt (none P)) in
    record { once = All-from_recursion P _ once; there = All-from_recursion P _ goes.each }
