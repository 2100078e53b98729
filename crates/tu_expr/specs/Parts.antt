-- Parts of trees, and lists that they show.
use Rattle.std.specs.Prelude.{ℕ, List, [], ◌∷◌, Option, Some, None}
use Rattle.grammar.specs.Description.{Description, token, rule}
use Rattle.grammar.specs.Tree.{Mark, Node, n-token, n-text, n-empty, n-sequence, n-left, n-right, n-rule, repeated}
use Rattle.tu_token.specs.declared.class.Class.{Class}
use Rattle.tu_token.specs.declared.class.Class.TheVariants.{SignComma}
use Rattle.tu_token.specs.Rules.{Rule, ◌⨟◌, many, maybe, t, listed, body}
use Rattle.tu_token.specs.Syntax.{Of}

-- a part of a tree
abbrev pub Part : Description Rule → Type 0
Part d = Node body d

-- a further one behind a comma
abbrev pub further : Rule → Description Rule
further n = t SignComma ⨟ rule n

-- parts, each behind a sign or word
abbrev pub chain : (c : Class) (d : Description Rule) → List (Part d) → Part (many (t c ⨟ d))
chain c d xs = repeated (t c ⨟ d) (λ x. n-sequence n-token x) xs

-- once or more, with commas between
abbrev pub listing : (n : Rule) → Of n → List (Of n) → Part (listed n)
listing n first more = n-sequence first (chain SignComma (rule n) more)

-- any number, with commas between
abbrev pub any_listing : (n : Rule) → List (Of n) → Part (maybe (listed n))
any_listing n [] = n-right n-empty
any_listing n (x ∷ xs) = n-left (listing n x xs)

-- once or not
abbrev pub optional : (d : Description Rule) → Option (Part d) → Part (maybe d)
optional d None = n-right n-empty
optional d (Some x) = n-left x

-- a node's number, start and line
abbrev pub mark_of : {n : Rule} → Of n → Mark
mark_of (n-rule m x) = m

-- the bytes of a name or a literal, and where it stands
abbrev pub text_of : {c : ℕ} → Part (token c) → List ℕ
text_of n-token = []
text_of (n-text text start line) = text

abbrev pub start_of : {c : ℕ} → Part (token c) → ℕ
start_of n-token = 0
start_of (n-text text start line) = start

abbrev pub line_of : {c : ℕ} → Part (token c) → ℕ
line_of n-token = 0
line_of (n-text text start line) = line
