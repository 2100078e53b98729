-- The table spells the same lists as the printed rules.
use Rattle.std.specs.Prelude.{◌≡◌, List, ◌++◌, refl}
use Rattle.std.proofs.Common.{ap, sym, ◌∙◌, arith, append_assoc, append-nil}
use Rattle.grammar.specs.Description.{Lexeme, Description, token, empty, sequence, choice, repetition, rule, span, Derivation, d-token, d-empty, d-sequence, d-left, d-right, d-none, d-more, d-rule, d-span, d-short, print}
use Rattle.tu_token.specs.Rules.{Rule, r-var, r-index, r-range, r-statement, r-pre, r-givens, r-post, r-handler, r-invariant, r-ending, r-elsif, r-arm, r-any, maybe, many, body}
use Rattle.tu_token.specs.Printed.{IsSpelled, printed, labelled, unlabelled, SpellsTheSame}

joined : {a b c d : List Lexeme} → a ≡ b → c ≡ d → a ++ c ≡ b ++ d
joined {b = b} {c = c} p q = ap (λ u. u ++ c) p ∙ ap (λ v. b ++ v) q

given : {g : Rule → Description Rule} {d : Description Rule} (x : Derivation g d) → IsSpelled g d (print x)
given x = record { derivation = x; prints = refl }

module _ (g h : Rule → Description Rule) (step : (n : Rule) (x : Derivation h (g n)) → IsSpelled h (h n) (print x)) where
  -- the same list by other rules, each of which spells what the first spells
  moved : {d : Description Rule} (x : Derivation g d) → IsSpelled h d (print x)
  moved (d-token text) = record { derivation = d-token text; prints = refl }
  moved d-empty = record { derivation = d-empty; prints = refl }
  moved (d-sequence x y) = let a = moved x in let b = moved y in record { derivation = d-sequence a.derivation b.derivation; prints = joined a.prints b.prints }
  moved (d-left x) = let a = moved x in record { derivation = d-left a.derivation; prints = a.prints }
  moved (d-right y) = let b = moved y in record { derivation = d-right b.derivation; prints = b.prints }
  moved d-none = record { derivation = d-none; prints = refl }
  moved (d-more x xs) = let a = moved x in let b = moved xs in record { derivation = d-more a.derivation b.derivation; prints = joined a.prints b.prints }
  moved (d-rule {n = n} x) = let a = moved x in let b = step n a.derivation in record { derivation = d-rule b.derivation; prints = b.prints ∙ a.prints }
  moved (d-span x y) = let a = moved x in let b = moved y in record { derivation = d-span a.derivation b.derivation; prints = joined a.prints b.prints }
  moved (d-short z) = let a = moved z in record { derivation = d-short a.derivation; prints = a.prints }

-- the parts that the table has as rules of their own
abbrev part : Rule → Description Rule
part r-pre = body r-pre
part r-givens = body r-givens
part r-post = body r-post
part r-handler = body r-handler
part r-invariant = body r-invariant
part r-ending = body r-ending
part r-elsif = body r-elsif
part r-any = body r-any
part n = rule n

-- a description with those parts in it
abbrev inlined : Description Rule → Description Rule
inlined (token c) = token c
inlined empty = empty
inlined (sequence a b) = sequence (inlined a) (inlined b)
inlined (choice a b) = choice (inlined a) (inlined b)
inlined (repetition a) = repetition (inlined a)
inlined (rule n) = part n
inlined (span long short b) = span long short (inlined b)

part_in : (n : Rule) (x : Derivation printed (rule n)) → IsSpelled printed (part n) (print x)
part_in r-pre (d-rule x) = given x
part_in r-givens (d-rule x) = given x
part_in r-post (d-rule x) = given x
part_in r-handler (d-rule x) = given x
part_in r-invariant (d-rule x) = given x
part_in r-ending (d-rule x) = given x
part_in r-elsif (d-rule x) = given x
part_in r-any (d-rule x) = given x
part_in n x = given x

part_out : (n : Rule) (x : Derivation body (part n)) → IsSpelled body (rule n) (print x)
part_out r-pre x = given (d-rule x)
part_out r-givens x = given (d-rule x)
part_out r-post x = given (d-rule x)
part_out r-handler x = given (d-rule x)
part_out r-invariant x = given (d-rule x)
part_out r-ending x = given (d-rule x)
part_out r-elsif x = given (d-rule x)
part_out r-any x = given (d-rule x)
part_out n x = given x

put_in : {d : Description Rule} (x : Derivation printed d) → IsSpelled printed (inlined d) (print x)
put_in (d-token text) = record { derivation = d-token text; prints = refl }
put_in d-empty = record { derivation = d-empty; prints = refl }
put_in (d-sequence x y) = let a = put_in x in let b = put_in y in record { derivation = d-sequence a.derivation b.derivation; prints = joined a.prints b.prints }
put_in (d-left x) = let a = put_in x in record { derivation = d-left a.derivation; prints = a.prints }
put_in (d-right y) = let b = put_in y in record { derivation = d-right b.derivation; prints = b.prints }
put_in d-none = record { derivation = d-none; prints = refl }
put_in (d-more x xs) = let a = put_in x in let b = put_in xs in record { derivation = d-more a.derivation b.derivation; prints = joined a.prints b.prints }
put_in (d-rule {n = n} x) = part_in n (d-rule x)
put_in (d-span x y) = let b = put_in y in record { derivation = d-span x b.derivation; prints = ap (λ v. print x ++ v) b.prints }
put_in (d-short z) = record { derivation = d-short z; prints = refl }

many_out : {a b : Description Rule} → ((x : Derivation body a) → IsSpelled body b (print x)) → (x : Derivation body (repetition a)) → IsSpelled body (repetition b) (print x)
many_out f d-none = record { derivation = d-none; prints = refl }
many_out f (d-more x xs) = let p = f x in let q = many_out f xs in record { derivation = d-more p.derivation q.derivation; prints = joined p.prints q.prints }

take_out : (d : Description Rule) (x : Derivation body (inlined d)) → IsSpelled body d (print x)
take_out (token c) x = given x
take_out empty x = given x
take_out (sequence a b) (d-sequence x y) = let p = take_out a x in let q = take_out b y in record { derivation = d-sequence p.derivation q.derivation; prints = joined p.prints q.prints }
take_out (choice a b) (d-left x) = let p = take_out a x in record { derivation = d-left p.derivation; prints = p.prints }
take_out (choice a b) (d-right y) = let q = take_out b y in record { derivation = d-right q.derivation; prints = q.prints }
take_out (repetition a) x = many_out (take_out a) x
take_out (rule n) x = part_out n x
take_out (span long short b) (d-span x y) = let q = take_out b y in record { derivation = d-span x q.derivation; prints = ap (λ v. print x ++ v) q.prints }
take_out (span long short b) (d-short z) = record { derivation = d-short z; prints = refl }

-- the arms of a `case` as printed
record Arms (u : List Lexeme) : Type 0 where
  labels : Derivation printed (many labelled)
  other : Derivation printed (maybe unlabelled)
  prints : print labels ++ print other ≡ u

arms_of : (x : Derivation printed (rule r-arm)) → Arms (print x)
arms_of (d-rule (d-sequence l (d-left (d-sequence c b)))) = record { labels = d-none; other = d-left (d-sequence l (d-sequence c b)); prints = refl }
arms_of (d-rule (d-sequence l (d-right (d-sequence es (d-sequence c (d-sequence b (d-left more))))))) =
    let a = arms_of more in
    let e = a.prints in
    record { labels = d-more (d-sequence l (d-sequence es (d-sequence c b))) a.labels; other = a.other; prints = grind (arith, append_assoc, e) }
arms_of (d-rule (d-sequence l (d-right (d-sequence es (d-sequence c (d-sequence b (d-right d-empty))))))) = record { labels = d-more (d-sequence l (d-sequence es (d-sequence c b))) d-none; other = d-right d-empty; prints = grind (arith, append_assoc, append-nil) }

some_arms : (x : Derivation printed (maybe (rule r-arm))) → Arms (print x)
some_arms (d-left x) = arms_of x
some_arms (d-right d-empty) = record { labels = d-none; other = d-right d-empty; prints = refl }

arms_from : (labels : Derivation body (many labelled)) (other : Derivation body (maybe unlabelled)) → IsSpelled body (maybe (rule r-arm)) (print labels ++ print other)
arms_from d-none (d-left (d-sequence l (d-sequence c b))) = record { derivation = d-left (d-rule (d-sequence l (d-left (d-sequence c b)))); prints = refl }
arms_from d-none (d-right d-empty) = record { derivation = d-right d-empty; prints = refl }
arms_from (d-more (d-sequence l (d-sequence es (d-sequence c b))) labels) other =
    let a = arms_from labels other in
    let e = a.prints in
    record { derivation = d-left (d-rule (d-sequence l (d-right (d-sequence es (d-sequence c (d-sequence b a.derivation)))))); prints = grind (arith, append_assoc, e) }

-- a rule with its parts in it spells what is printed
spread : (n : Rule) (x : Derivation printed (inlined (body n))) → IsSpelled printed (printed n) (print x)
spread r-var (d-sequence v (d-sequence ns (d-left (d-sequence c (d-left y))))) = record { derivation = d-left (d-sequence v (d-sequence ns (d-sequence c y))); prints = refl }
spread r-var (d-sequence v (d-sequence ns (d-left (d-sequence c (d-right y))))) = record { derivation = d-right (d-left (d-sequence v (d-sequence ns (d-sequence c y)))); prints = refl }
spread r-var (d-sequence v (d-sequence ns (d-right y))) = record { derivation = d-right (d-right (d-sequence v (d-sequence ns y))); prints = refl }
spread r-index (d-span x y) = record { derivation = d-left (d-sequence x y); prints = refl }
spread r-index (d-short z) = record { derivation = d-right z; prints = refl }
spread r-range (d-span x y) = record { derivation = d-left (d-sequence x y); prints = refl }
spread r-range (d-short z) = record { derivation = d-right z; prints = refl }
spread r-statement (d-left (d-sequence p (d-left y))) = record { derivation = d-left (d-sequence p y); prints = refl }
spread r-statement (d-left (d-sequence p (d-right d-empty))) = record { derivation = d-right (d-left p); prints = sym (append-nil (print p)) }
spread r-statement (d-right (d-left x)) = given (d-right (d-right (d-left x)))
spread r-statement (d-right (d-right (d-left x))) = given (d-right (d-right (d-right (d-left x))))
spread r-statement (d-right (d-right (d-right (d-left x)))) = given (d-right (d-right (d-right (d-right (d-left x)))))
spread r-statement (d-right (d-right (d-right (d-right (d-left (d-sequence c (d-sequence e (d-sequence o (d-sequence arms ends))))))))) =
    let a = some_arms arms in
    let q = a.prints in
    record { derivation = d-right (d-right (d-right (d-right (d-right (d-left (d-sequence c (d-sequence e (d-sequence o (d-sequence a.labels (d-sequence a.other ends)))))))))); prints = grind (arith, append_assoc, q) }
spread r-statement (d-right (d-right (d-right (d-right (d-right x))))) = given (d-right (d-right (d-right (d-right (d-right (d-right x))))))
spread n x = given x

gathered : (n : Rule) (x : Derivation body (printed n)) → IsSpelled body (inlined (body n)) (print x)
gathered r-var (d-left (d-sequence v (d-sequence ns (d-sequence c y)))) = record { derivation = d-sequence v (d-sequence ns (d-left (d-sequence c (d-left y)))); prints = refl }
gathered r-var (d-right (d-left (d-sequence v (d-sequence ns (d-sequence c y))))) = record { derivation = d-sequence v (d-sequence ns (d-left (d-sequence c (d-right y)))); prints = refl }
gathered r-var (d-right (d-right (d-sequence v (d-sequence ns y)))) = record { derivation = d-sequence v (d-sequence ns (d-right y)); prints = refl }
gathered r-index (d-left (d-sequence x y)) = record { derivation = d-span x y; prints = refl }
gathered r-index (d-right z) = record { derivation = d-short z; prints = refl }
gathered r-range (d-left (d-sequence x y)) = record { derivation = d-span x y; prints = refl }
gathered r-range (d-right z) = record { derivation = d-short z; prints = refl }
gathered r-statement (d-left (d-sequence p y)) = record { derivation = d-left (d-sequence p (d-left y)); prints = refl }
gathered r-statement (d-right (d-left p)) = record { derivation = d-left (d-sequence p (d-right d-empty)); prints = append-nil (print p) }
gathered r-statement (d-right (d-right (d-left x))) = given (d-right (d-left x))
gathered r-statement (d-right (d-right (d-right (d-left x)))) = given (d-right (d-right (d-left x)))
gathered r-statement (d-right (d-right (d-right (d-right (d-left x))))) = given (d-right (d-right (d-right (d-left x))))
gathered r-statement (d-right (d-right (d-right (d-right (d-right (d-left (d-sequence c (d-sequence e (d-sequence o (d-sequence labels (d-sequence other ends))))))))))) =
    let a = arms_from labels other in
    let q = a.prints in
    record { derivation = d-right (d-right (d-right (d-right (d-left (d-sequence c (d-sequence e (d-sequence o (d-sequence a.derivation ends)))))))); prints = grind (arith, append_assoc, q) }
gathered r-statement (d-right (d-right (d-right (d-right (d-right (d-right x)))))) = given (d-right (d-right (d-right (d-right (d-right x)))))
gathered n x = given x

as_printed : (n : Rule) (x : Derivation printed (body n)) → IsSpelled printed (printed n) (print x)
as_printed n x = let a = put_in x in let b = spread n a.derivation in record { derivation = b.derivation; prints = b.prints ∙ a.prints }

as_tabled : (n : Rule) (x : Derivation body (printed n)) → IsSpelled body (body n) (print x)
as_tabled n x = let a = gathered n x in let b = take_out (body n) a.derivation in record { derivation = b.derivation; prints = b.prints ∙ a.prints }

to_printed : (d : Description Rule) (u : List Lexeme) → IsSpelled body d u → IsSpelled printed d u
to_printed d u s = let a = moved body printed as_printed s.derivation in record { derivation = a.derivation; prints = a.prints ∙ s.prints }

to_table : (d : Description Rule) (u : List Lexeme) → IsSpelled printed d u → IsSpelled body d u
to_table d u s = let a = moved printed body as_tabled s.derivation in record { derivation = a.derivation; prints = a.prints ∙ s.prints }

pub same_lists : SpellsTheSame
same_lists d u = (to_printed d u, to_table d u)
