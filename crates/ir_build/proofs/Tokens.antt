-- How many tokens parts of a tree have.
use Rattle.std.proofs.Common.{◌≡◌, ℕ, length, refl, arith}
use Rattle.std.proofs.lemmas.List.{length-append}
use Rattle.grammar.specs.Description.{Description, token, print}
use Rattle.grammar.specs.Tree.{Node, n-token, n-text, n-empty, n-sequence, n-left, n-right, n-none, n-more, n-rule, n-span, n-short, erase}
use Rattle.ir_build.specs.Tokens.{tokens_in}

-- they are those that it spells
pub tokens_are : {Rule : Type 0} {body : Rule → Description Rule} {d : Description Rule} (x : Node body d) → tokens_in x ≡ length (print (erase x))
tokens_are n-token = refl
tokens_are (n-text text start line) = refl
tokens_are n-empty = refl
tokens_are (n-sequence x y) = let a = tokens_are x in let b = tokens_are y in let c = length-append (print (erase x)) (print (erase y)) in omega arith
tokens_are (n-left x) = tokens_are x
tokens_are (n-right y) = tokens_are y
tokens_are n-none = refl
tokens_are (n-more x xs) = let a = tokens_are x in let b = tokens_are xs in let c = length-append (print (erase x)) (print (erase xs)) in omega arith
tokens_are (n-rule mark x) = tokens_are x
tokens_are (n-span x y) = let a = tokens_are x in let b = tokens_are y in let c = length-append (print (erase x)) (print (erase y)) in omega arith
tokens_are (n-short z) = tokens_are z

-- a sign or a word is one
pub one_token : {Rule : Type 0} {body : Rule → Description Rule} {c : ℕ} (x : Node body (token c)) → tokens_in x ≡ 1
one_token n-token = refl
one_token (n-text text start line) = refl
