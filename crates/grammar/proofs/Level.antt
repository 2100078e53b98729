-- The reader never runs out of depth: one step of it is a reader over itself.
use Rattle.std.proofs.Common.{◌≡◌, ◌≢◌, ℕ, zero, suc, ◌+◌, ◌*◌, ◌<◌, ◌≤◌, Bool, true, false, not, cond, ◌&&◌, ◌==◌, ◌⊎◌, inl, inr, List, [], ◌∷◌, ◌++◌, length, nat_lt, Option, Some, None, refl, sym, ◌∙◌, ap, subst, length-append, arith}
use Rattle.std.proofs.Math.Nat.{mul-le-mul_left}
use Rattle.std.proofs.lemmas.Bool.{and_parts, cases_lt, ltb-true}
use Rattle.grammar.specs.Classes.{starts}
use Rattle.grammar.specs.Description.{Lexeme, Description, token, empty, sequence, choice, repetition, rule, span, Derivation, d-none, d-more, d-rule, print}
use Rattle.grammar.specs.Grammar.{Grammar, IsLl1, nullable, first, begins_below}
use Rattle.grammar.specs.Reading.{Outcome, found, fault, unfinished, and_then, as_part, Reader, goes_on, read_shortened, step, read_within, read}
use Rattle.grammar.proofs.Beginning.{rule_begins, takes_some}
use Rattle.grammar.proofs.Sound.{Sound, IsSound, leaving, read_sound}

-- the first is unfinished, or both are the same
abbrev Agree : {A : Type 0} → Outcome A → Outcome A → Type 0
Agree o o' = (o ≡ unfinished) ⊎ (o ≡ o')

then_agree : {A B : Type 0} (o o' : Outcome A) (k k' : A → List Lexeme → Outcome B) → Agree o o' → ((x : A) (r : List Lexeme) → Agree (k x r) (k' x r)) → Agree (and_then o k) (and_then o' k')
then_agree o o' k k' (inl e) h = inl (ap (λ z. and_then z k) e)
then_agree (found x r) o' k k' (inr e) h = by (h x r)
  where
    by : Agree (k x r) (k' x r) → Agree (k x r) (and_then o' k')
    by (inl z) = inl z
    by (inr z) = inr (z ∙ ap (λ z. and_then z k') e)
then_agree (fault s) o' k k' (inr e) h = inr (ap (λ z. and_then z k') e)
then_agree unfinished o' k k' (inr e) h = inl refl

part_agree : {A B : Type 0} (o o' : Outcome A) (make : A → B) → Agree o o' → Agree (as_part make o) (as_part make o')
part_agree o o' make h = then_agree o o' _ _ h (λ x r. inr refl)

cond_agree : {A : Type 0} (b : Bool) (x y x' y' : Outcome A) → Agree x x' → Agree y y' → Agree (cond b x y) (cond b x' y')
cond_agree true x y x' y' h k = h
cond_agree false x y x' y' h k = k

then_finishes : {A B : Type 0} (o : Outcome A) (k : A → List Lexeme → Outcome B) → o ≢ unfinished → ((x : A) (r : List Lexeme) → o ≡ found x r → k x r ≢ unfinished) → and_then o k ≢ unfinished
then_finishes (found x r) k h next = next x r refl
then_finishes (fault s) k h next = λ e. cc
then_finishes unfinished k h next = absurd (h refl)

part_finishes : {A B : Type 0} (o : Outcome A) (make : A → B) → o ≢ unfinished → as_part make o ≢ unfinished
part_finishes o make h = then_finishes o _ h (λ x r e. λ z. cc)

cond_finishes : {A : Type 0} (b : Bool) (x y : Outcome A) → x ≢ unfinished → y ≢ unfinished → cond b x y ≢ unfinished
cond_finishes true x y h k = h
cond_finishes false x y h k = k

module _ {Rule : Type 0} {body : Rule → Description Rule} (g : Grammar body) where
  step_agrees : (P R : (d : Description Rule) → Reader g d) → ((d : Description Rule) (u : List Lexeme) → Agree (P d u) (R d u)) → (d : Description Rule) (u : List Lexeme) → Agree (step g P d u) (step g R d u)
  step_agrees P R h (token c) u = inr refl
  step_agrees P R h empty u = inr refl
  step_agrees P R h (sequence a b) u = then_agree _ _ _ _ (step_agrees P R h a u) (λ x r. part_agree _ _ _ (step_agrees P R h b r))
  step_agrees P R h (choice a b) u = cond_agree (starts (first g a) u) _ _ _ _ (part_agree _ _ _ (step_agrees P R h a u)) (part_agree _ _ _ (step_agrees P R h b u))
  step_agrees P R h (repetition a) u = cond_agree (goes_on g a u) _ _ _ _ (then_agree _ _ _ _ (step_agrees P R h a u) (λ x r. part_agree _ _ _ (h (repetition a) r))) (inr refl)
  step_agrees P R h (rule n) u = part_agree _ _ _ (h (body n) u)
  step_agrees P R h (span long short b) u =
      then_agree _ _ _ _ (part_agree _ _ _ (h (body long) u)) (λ x r. cond_agree (starts (first g b) r) _ _ _ _ (part_agree _ _ _ (step_agrees P R h b r)) (inr refl))

  deep_agrees : (depth deep : ℕ) (d : Description Rule) (u : List Lexeme) → depth ≤ deep → Agree (read_within g depth d u) (read_within g deep d u)
  deep_agrees zero deep d u h = inl refl
  deep_agrees (suc depth) zero d u h = absurd (omega (arith, h))
  deep_agrees (suc depth) (suc deep) d u h = step_agrees (read_within g depth) (read_within g deep) (λ d u. deep_agrees depth deep d u (omega (arith, h))) d u

  -- what was read stands before what is left
  splits_within : (l : IsLl1 g) (depth : ℕ) (d : Description Rule) (u : List Lexeme) (x : Derivation body d) (rest : List Lexeme) → read_within g depth d u ≡ found x rest → u ≡ print x ++ rest
  splits_within l depth d u x rest e =
      let S : Outcome (Derivation body d) → Type 0 = λ o. IsSound g d [] (read_within g depth d) u o in
      let h = subst S e (read_sound g l depth d u) in
      h.splits ∙ ap (λ w. w ++ rest) (sym h.says)

  -- a depth that suffices for what begins below rank r
  abbrev need : List Lexeme → ℕ → ℕ
  need u r = (g.ranks + 1) * length u + r + 1

  need_shorter : (u s : List Lexeme) → length s + 1 ≤ length u → need s g.ranks ≤ (g.ranks + 1) * length u
  need_shorter u s h = let m = mul-le-mul_left (g.ranks + 1) h in omega (arith, m)

  need_same : (u s : List Lexeme) (r : ℕ) → length s ≤ length u → need s r ≤ need u r
  need_same u s r h = let m = mul-le-mul_left (g.ranks + 1) h in omega (arith, m)

  module _ (l : IsLl1 g) where
    from_either : (z : Bool) (b : Description Rule) → begins_below g g.ranks b ≡ true → begins_below g (cond z g.ranks g.ranks) b ≡ true
    from_either true b h = h
    from_either false b h = h

    all_begin : (d : Description Rule) → begins_below g g.ranks d ≡ true
    all_begin (token c) = refl
    all_begin empty = refl
    all_begin (sequence a b) = ap (λ z. z && begins_below g (cond (nullable g a) g.ranks g.ranks) b) (all_begin a) ∙ from_either (nullable g a) b (all_begin b)
    all_begin (choice a b) = ap (λ z. z && begins_below g g.ranks b) (all_begin a) ∙ all_begin b
    all_begin (repetition a) = all_begin a
    all_begin (rule n) = (rule_begins g l n).1
    all_begin (span long short b) = ap (λ z. z && begins_below g (cond (g.can_be_empty long) g.ranks g.ranks) b) (rule_begins g l long).1 ∙ from_either (g.can_be_empty long) b (all_begin b)

    Finishes : ℕ → Type 0
    Finishes depth = (d : Description Rule) (u : List Lexeme) (r : ℕ) → begins_below g r d ≡ true → r ≤ g.ranks → need u r ≤ depth → read_within g depth d u ≢ unfinished

    -- the rest, behind what was read
    behind : (depth : ℕ) (u : List Lexeme) (r : ℕ) (a b : Description Rule) (x : Derivation body a) (s : List Lexeme) (z : Bool)
        → (z ≡ false → nullable g a ≡ false) → u ≡ print x ++ s → begins_below g (cond z r g.ranks) b ≡ true → r ≤ g.ranks → need u r ≤ suc depth
        → ((r' : ℕ) → begins_below g r' b ≡ true → r' ≤ g.ranks → need s r' ≤ suc depth → step g (read_within g depth) b s ≢ unfinished)
        → step g (read_within g depth) b s ≢ unfinished
    behind depth u r a b x s true h e k le n go = go r k le (let m = need_same u s r (omega (arith, ap length e, length-append (print x) s)) in omega (arith, m))
    behind depth u r a b x s false h e k le n go = go g.ranks k (omega arith) (let m = need_shorter u s (takes_some g l x u s (h refl) e) in omega (arith, m))

    turns_finish : (depth : ℕ) → Finishes depth → (a : Description Rule) (u : List Lexeme) (r : ℕ) → need u r ≤ suc depth → step g (read_within g depth) a u ≢ unfinished → (z : Bool) → nullable g a ≡ z
        → cond (not z && starts (first g a) u) (and_then (step g (read_within g depth) a u) (λ x rest. as_part (d-more x) (read_within g depth (repetition a) rest))) (found d-none u) ≢ unfinished
    unfolding Finishes
    turns_finish depth h a u r n once true e = λ z. cc
    turns_finish depth h a u r n once false e =
        let again : (x : Derivation body a) (s : List Lexeme) → step g (read_within g depth) a u ≡ found x s → read_within g depth (repetition a) s ≢ unfinished =
        λ x s k. let m = need_shorter u s (takes_some g l x u s e (splits_within l (suc depth) a u x s k)) in h (repetition a) s g.ranks (all_begin a) (omega arith) (omega (arith, m)) in
        cond_finishes (starts (first g a) u) _ _ (then_finishes _ _ once (λ x s k. part_finishes _ _ (again x s k))) (λ z. cc)

    step_finishes : (depth : ℕ) → Finishes depth → (d : Description Rule) (u : List Lexeme) (r : ℕ) → begins_below g r d ≡ true → r ≤ g.ranks → need u r ≤ suc depth → step g (read_within g depth) d u ≢ unfinished
    unfolding Finishes
    step_finishes depth h (token c) [] r b le n = λ e. cc
    step_finishes depth h (token c) (x ∷ u) r b le n = cond_finishes (x.0 == c) _ _ (λ e. cc) (λ e. cc)
    step_finishes depth h empty u r b le n = λ e. cc
    step_finishes depth h (sequence a b) u r k le n =
        let p = and_parts (begins_below g r a) (begins_below g (cond (nullable g a) r g.ranks) b) k in
        let rest : (x : Derivation body a) (s : List Lexeme) → step g (read_within g depth) a u ≡ found x s → step g (read_within g depth) b s ≢ unfinished =
        λ x s e. behind depth u r a b x s (nullable g a) (λ z. z) (splits_within l (suc depth) a u x s e) p.1 le n (step_finishes depth h b s) in
        then_finishes _ _ (step_finishes depth h a u r p.0 le n) (λ x s e. part_finishes _ _ (rest x s e))
    step_finishes depth h (choice a b) u r k le n =
        let p = and_parts (begins_below g r a) (begins_below g r b) k in
        cond_finishes (starts (first g a) u) _ _ (part_finishes _ _ (step_finishes depth h a u r p.0 le n)) (part_finishes _ _ (step_finishes depth h b u r p.1 le n))
    step_finishes depth h (repetition a) u r k le n = turns_finish depth h a u r n (step_finishes depth h a u r k le n) (nullable g a) refl
    step_finishes depth h (rule m) u r k le n =
        let lt : g.rank m < r = ltb-true (g.rank m) r k in
        part_finishes _ _ (h (body m) u (g.rank m) (rule_begins g l m).0 (omega arith) (omega arith))
    step_finishes depth h (span long short b) u r k le n =
        let p = and_parts (nat_lt (g.rank long) r) (begins_below g (cond (g.can_be_empty long) r g.ranks) b) k in
        let lt : g.rank long < r = ltb-true (g.rank long) r p.0 in
        let rest : (x : Derivation body (rule long)) (s : List Lexeme) → as_part d-rule (read_within g depth (body long) u) ≡ found x s → step g (read_within g depth) b s ≢ unfinished =
        λ x s e. behind depth u r (rule long) b x s (g.can_be_empty long) (λ z. z) (splits_within l (suc depth) (rule long) u x s e) p.1 le n (step_finishes depth h b s) in
        then_finishes _ _ (part_finishes _ _ (h (body long) u (g.rank long) (rule_begins g l long).0 (omega arith) (omega arith)))
        (λ x s e. cond_finishes (starts (first g b) s) _ _ (part_finishes _ _ (rest x s e)) (shortened (g.shorten long short x) s))
      where
        shortened : (o : Option (Derivation body (rule short))) (s : List Lexeme) → read_shortened g long short b o s ≢ unfinished
        shortened None s = λ z. cc
        shortened (Some z) s = λ e. cc

    finishes : (depth : ℕ) → Finishes depth
    unfolding Finishes
    finishes zero d u r b le n = absurd (omega arith)
    finishes (suc depth) d u r b le n = step_finishes depth (finishes depth) d u r b le n

    agrees : (depth : ℕ) (d : Description Rule) (u : List Lexeme) → Agree (read_within g depth d u) (read g d u)
    unfolding read Finishes
    agrees depth d u = by (cases_lt depth (need u g.ranks))
      where
        back : Agree (read_within g (need u g.ranks) d u) (read_within g depth d u) → Agree (read_within g depth d u) (read_within g (need u g.ranks) d u)
        back (inl e) = absurd (finishes (need u g.ranks) d u g.ranks (all_begin d) (omega arith) (omega arith) e)
        back (inr e) = inr (sym e)

        by : (depth < need u g.ranks) ⊎ (need u g.ranks ≤ depth) → Agree (read_within g depth d u) (read_within g (need u g.ranks) d u)
        by (inl h) = deep_agrees depth (need u g.ranks) d u (omega arith)
        by (inr h) = back (deep_agrees (need u g.ranks) depth d u h)

    -- one step of the reader is a reader over itself
    pub level : (d : Description Rule) (u : List Lexeme) → read g d u ≡ step g (read g) d u
    unfolding read Finishes
    level d u = by (step_agrees (read_within g depth) (read g) (agrees depth) d u)
      where
        depth : ℕ
        depth = (g.ranks + 1) * length u + g.ranks

        is : suc depth ≡ need u g.ranks
        is = omega arith

        by : Agree (step g (read_within g depth) d u) (step g (read g) d u) → read_within g (need u g.ranks) d u ≡ step g (read g) d u
        by (inl e) = absurd (finishes (suc depth) d u g.ranks (all_begin d) (omega arith) (omega arith) e)
        by (inr e) = sym (ap (λ z. read_within g z d u) is) ∙ e

    pub read_finishes : (d : Description Rule) (u : List Lexeme) → read g d u ≢ unfinished
    unfolding read Finishes
    read_finishes d u = finishes (need u g.ranks) d u g.ranks (all_begin d) (omega arith) (omega arith)

    -- what reading within some depth gives is what the reader gives
    within_is : (depth : ℕ) (d : Description Rule) (u : List Lexeme) (o : Outcome (Derivation body d)) → read_within g depth d u ≡ o → o ≢ unfinished → read g d u ≡ o
    within_is depth d u o e n = by (agrees depth d u)
      where
        by : Agree (read_within g depth d u) (read g d u) → read g d u ≡ o
        by (inl h) = absurd (n (sym e ∙ h))
        by (inr h) = sym h ∙ e

    finished : {A : Type 0} (o : Outcome A) (r : List Lexeme) → o ≢ unfinished → leaving o r ≢ unfinished
    finished (found x rest) r h = λ e. cc
    finished (fault rest) r h = λ e. cc
    finished unfinished r h = h

    -- the reader is sound
    pub sound : (d : Description Rule) → Sound g d [] (read g d)
    unfolding read
    sound d u =
        let h = read_sound g l (need u g.ranks) d u in
        record { took = h.took; splits = h.splits; says = h.says; local = λ r e. within_is (need u g.ranks) d (h.took ++ r) _ (h.local r e) (finished (read g d u) r (read_finishes d u)) }
