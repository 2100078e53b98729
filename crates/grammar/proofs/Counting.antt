-- How many numbers a tree takes.
use Rattle.std.proofs.Common.{◌≡◌, ℕ, ◌+◌, ◌-◌, ◌*◌, ◌≤◌, Bool, true, false, not, cond, nat_le, ◌&&◌, ◌||◌, length, refl, ap, length-append, arith}
use Rattle.std.proofs.lemmas.Bool.{and_parts, not-true, leb-true}
use Rattle.grammar.specs.Counted.{one_if_numbered, counted, cost, pays_turns, pays, NumbersArePaid}
use Rattle.grammar.specs.Description.{Description, Derivation, d-token, d-empty, d-sequence, d-left, d-right, d-none, d-more, d-rule, d-span, d-short, print}
use Rattle.grammar.specs.Grammar.{Grammar, Marking, numbered, placed, unmarked, IsLl1, nullable}
use Rattle.grammar.specs.Placed.{Input, inside, marked}
use Rattle.grammar.proofs.Beginning.{rule_nullable}

-- a lexeme's worth is kept aside where a part takes one
abbrev spare : ℕ → Bool → ℕ
spare most e = cond e 0 most

both_paid : (most : ℕ) (p q : Bool) (m n x y a b : ℕ) → x + spare most p ≤ most * m + a → y + spare most q ≤ most * n + b → x + y + spare most (p && q) ≤ most * (m + n) + cond (p || q) (a + b) (a + b - most)
both_paid most true true m n x y a b h k = omega (arith, h, k)
both_paid most true false m n x y a b h k = omega (arith, h, k)
both_paid most false true m n x y a b h k = omega (arith, h, k)
both_paid most false false m n x y a b h k = omega (arith, h, k)

less_spare : (most : ℕ) (p q : Bool) → spare most (p || q) ≤ spare most p
less_spare most true q = omega arith
less_spare most false true = omega arith
less_spare most false false = omega arith

less_spare_right : (most : ℕ) (p q : Bool) → spare most (p || q) ≤ spare most q
less_spare_right most true q = omega arith
less_spare_right most false q = omega arith

module _ {Rule : Type 0} {body : Rule → Description Rule} (g : Grammar body) (l : IsLl1 g) (most : ℕ) (costs : Rule → ℕ) (paid : (n : Rule) → pays g most costs n ≡ true) where
  rule_paid : (n : Rule) → (cost g most costs (body n) + one_if_numbered (g.marking n) ≤ costs n) × (pays_turns g most costs (body n) ≡ true)
  rule_paid n = let p = and_parts _ (pays_turns g most costs (body n)) (paid n) in (leb-true _ (costs n) p.0, p.1)

  rule_spare : (n : Rule) → spare most (g.can_be_empty n) ≤ spare most (nullable g (body n))
  rule_spare n = by (nullable g (body n)) refl
    where
      by : (z : Bool) → nullable g (body n) ≡ z → spare most (g.can_be_empty n) ≤ spare most z
      by true e = let k = rule_nullable g l n e in omega (arith, ap (spare most) k)
      by false e = low (g.can_be_empty n)
        where
          low : (z : Bool) → spare most z ≤ most
          low true = omega arith
          low false = omega arith

  -- the numbers of a derivation, and a lexeme's worth aside
  counted_paid : {d : Description Rule} (x : Derivation body d) → pays_turns g most costs d ≡ true → counted g x + spare most (nullable g d) ≤ most * length (print x) + cost g most costs d
  counted_paid (d-token text) t = omega arith
  counted_paid d-empty t = omega arith
  counted_paid (d-sequence {a = a} {b = b} x y) t =
      let p = and_parts (pays_turns g most costs a) (pays_turns g most costs b) t in
      let h = both_paid most (nullable g a) (nullable g b) (length (print x)) (length (print y)) (counted g x) (counted g y) (cost g most costs a) (cost g most costs b) (counted_paid x p.0) (counted_paid y p.1) in
      rw (length-append (print x) (print y)) h
  counted_paid (d-left {a = a} {b = b} x) t =
      let p = and_parts (pays_turns g most costs a) (pays_turns g most costs b) t in
      omega (arith, counted_paid x p.0, less_spare most (nullable g a) (nullable g b))
  counted_paid (d-right {a = a} {b = b} y) t =
      let p = and_parts (pays_turns g most costs a) (pays_turns g most costs b) t in
      omega (arith, counted_paid y p.1, less_spare_right most (nullable g a) (nullable g b))
  counted_paid d-none t = omega arith
  counted_paid (d-more {a = a} x xs) t =
      let p = and_parts (not (nullable g a)) (nat_le (cost g most costs a) most && pays_turns g most costs a) t in
      let q = and_parts (nat_le (cost g most costs a) most) (pays_turns g most costs a) p.1 in
      let turn = counted_paid x q.1 in
      let kept = ap (spare most) (not-true (nullable g a) p.0) in
      rw (length-append (print x) (print xs)) (omega (arith, turn, kept, leb-true (cost g most costs a) most q.0, counted_paid xs t))
  counted_paid (d-rule {n = n} x) t = let p = rule_paid n in omega (arith, counted_paid x p.1, p.0, rule_spare n)
  counted_paid (d-span {long = long} {short = short} {b = b} x y) t =
      let h = both_paid most (g.can_be_empty long) (nullable g b) (length (print x)) (length (print y)) (counted g x) (counted g y) (costs long) (cost g most costs b) (counted_paid x refl) (counted_paid y t) in
      rw (length-append (print x) (print y)) (omega (arith, h, less_spare most (g.can_be_empty long && nullable g b) (g.can_be_empty short)))
  counted_paid (d-short {long = long} {short = short} {b = b} z) t = omega (arith, counted_paid z refl, less_spare_right most (g.can_be_empty long && nullable g b) (g.can_be_empty short))

module _ {Rule : Type 0} {body : Rule → Description Rule} (g : Grammar body) where
  inside_number : (m : Marking) (i : Input) → (inside m i).number ≡ i.number + one_if_numbered m
  inside_number numbered i = refl
  inside_number placed i = omega arith
  inside_number unmarked i = omega arith

  -- the number behind a tree
  number_behind : {d : Description Rule} (x : Derivation body d) (i : Input) → (marked g x i).1.number ≡ i.number + counted g x
  number_behind (d-token text) i = omega arith
  number_behind d-empty i = omega arith
  number_behind (d-sequence x y) i = omega (arith, number_behind x i, number_behind y (marked g x i).1)
  number_behind (d-left x) i = number_behind x i
  number_behind (d-right y) i = number_behind y i
  number_behind d-none i = omega arith
  number_behind (d-more x xs) i = omega (arith, number_behind x i, number_behind xs (marked g x i).1)
  number_behind (d-rule {n = n} x) i = omega (arith, number_behind x (inside (g.marking n) i), inside_number (g.marking n) i)
  number_behind (d-span x y) i = omega (arith, number_behind x i, number_behind y (marked g x i).1)
  number_behind (d-short z) i = number_behind z i

  pub numbers_paid : IsLl1 g → (most : ℕ) (costs : Rule → ℕ) → NumbersArePaid g most costs
  numbers_paid l most costs paid n x i = omega (arith, number_behind x i, counted_paid g l most costs paid x refl)
