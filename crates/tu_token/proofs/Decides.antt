-- The table of the grammar passes the test.
use Rattle.std.specs.Prelude.{◌≡◌, true, List, [], ◌++◌, Option, Some, None, refl}
use Rattle.std.proofs.Common.{ap, sym, ◌∙◌, arith, append-nil}
use Rattle.grammar.specs.Description.{rule, Lexeme, Derivation, d-token, d-empty, d-sequence, d-left, d-right, d-none, d-more, d-rule, print}
use Rattle.grammar.specs.Grammar.{passes, Lengthened, IsLl1}
use Rattle.tu_token.specs.Rules.{Rule, r-program, r-expr, r-name, r-path, body}
use Rattle.tu_token.specs.Table.{table, only_path, path_in, name_in, shorten, covers}

test : (n : Rule) → passes table n ≡ true
test r-program = refl
test n = refl

none : {A : Type 0} {P : Type 0} {x : A} → None ≡ Some x → P
none e = absurd (grind (arith, e))

the : {A : Type 0} {x y : A} → Some x ≡ Some y → x ≡ y
the e = grind (arith, e)

behind_nothing : (u : List Lexeme) → ((((((u ++ []) ++ []) ++ []) ++ []) ++ []) ++ []) ++ [] ≡ u
behind_nothing u = grind (arith, append-nil)

path_printed : (e : Derivation body (rule r-expr)) (p : Derivation body (rule r-path)) → path_in e ≡ Some p → print e ≡ print p
path_printed (only_path q) p h = behind_nothing (print q) ∙ ap print (the h)
path_printed e p h = none h

name_printed : (p : Derivation body (rule r-path)) (z : Derivation body (rule r-name)) → name_in (Some p) ≡ Some z → print z ≡ print p
name_printed (d-rule (d-sequence (d-token x) d-none)) z h = ap print (sym (the h))
name_printed (d-rule (d-sequence (d-token x) (d-more (d-left (d-sequence (d-token dot) (d-token y))) d-none))) z h = ap print (sym (the h))
name_printed p z h = none h

shortened : (long short : Rule) (x : Derivation body (rule long)) (z : Derivation body (rule short)) → shorten long short x ≡ Some z → print z ≡ print x
shortened r-expr r-name x z h = by (path_in x) refl h
  where
    by : (o : Option (Derivation body (rule r-path))) → path_in x ≡ o → name_in o ≡ Some z → print z ≡ print x
    by None e h = none h
    by (Some p) e h = name_printed p z h ∙ sym (path_printed x p e)
shortened long short x z h = none h

lengthened_name : (z : Derivation body (rule r-name)) → Lengthened table r-expr r-name z
lengthened_name (d-rule (d-sequence (d-token x) (d-right d-empty))) = record { whole = only_path (d-rule (d-sequence (d-token x) d-none)); is_shortened = refl; same = refl; plain = omega arith }
lengthened_name (d-rule (d-sequence (d-token x) (d-left (d-sequence (d-token dot) (d-token y))))) = record { whole = only_path (d-rule (d-sequence (d-token x) (d-more (d-left (d-sequence (d-token dot) (d-token y))) d-none))); is_shortened = refl; same = refl; plain = omega arith }

lengthened : (long short : Rule) → covers long short ≡ true → (z : Derivation body (rule short)) → Lengthened table long short z
lengthened r-expr r-name h z = lengthened_name z
lengthened long short h z = absurd (grind (arith, h))

pub decides : IsLl1 table
decides = record { test = test; shortened = shortened; lengthened = lengthened }
