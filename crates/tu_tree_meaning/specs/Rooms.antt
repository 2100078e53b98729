-- Nodes, joins and rooms of texts.
use Rattle.std.specs.Prelude.{ℕ, ◌+◌, ◌*◌, ◌==◌, nat_lt, List, [], ◌∷◌, length, count_by, if◌then◌else◌}
use Rattle.std.specs.Str.{bytes_eq}
use Rattle.grammar.specs.Description.{Description}
use Rattle.grammar.specs.Tree.{n-token, n-text, n-empty, n-sequence, n-left, n-right, n-none, n-more, n-rule, n-span, n-short}
use Rattle.tu_token.specs.declared.class.Class.{Class}
use Rattle.tu_token.specs.declared.class.Class.TheVariants.{Name, Number, Text, SignImplies, SignPower, SignPlus, SignMinus, SignStar, WordAnd, WordDiv, WordElsif, WordFalse, WordMod, WordNil, WordNot, WordOr, WordTrue}
use Rattle.tu_token.specs.ClassNumbers.{number}
use Rattle.tu_token.specs.Rules.{Rule, r-statement, r-relation, r-spec}
use Rattle.tu_token.specs.Syntax.{Of}
use Rattle.tu_expr.specs.Forms.{Behind, Path}
use Rattle.tu_expr.specs.Parts.{Part}
use Rattle.tu_tree.specs.Forms.{Assign, If, Loop}
use Rattle.tu_tree_meaning.specs.Values.{Variable, variable_of}

-- What a tree comes to, where `lexeme` says what a lexeme of a class does, and `own` what a rule does whose parts come to a number.
abbrev pub total : (lexeme : ℕ → ℕ) → (own : (n : Rule) → Of n → ℕ → ℕ) → {d : Description Rule} → Part d → ℕ
total lexeme own (n-token {c = c}) = lexeme c
total lexeme own (n-text {c = c} text start line) = lexeme c
total lexeme own n-empty = 0
total lexeme own (n-sequence x y) = total lexeme own x + total lexeme own y
total lexeme own (n-left x) = total lexeme own x
total lexeme own (n-right y) = total lexeme own y
total lexeme own n-none = 0
total lexeme own (n-more x xs) = total lexeme own x + total lexeme own xs
total lexeme own (n-rule {n = n} m x) = own n (n-rule m x) (total lexeme own x)
total lexeme own (n-span x y) = total lexeme own x + total lexeme own y
total lexeme own (n-short z) = total lexeme own z

-- names that are declared or used, literals, operators, and the word of an arm
abbrev pub node_classes : List Class
node_classes = Name ∷ Number ∷ Text ∷ WordTrue ∷ WordFalse ∷ WordNil ∷ SignPlus ∷ SignMinus ∷ SignStar ∷ WordDiv ∷ WordMod ∷ SignPower ∷ SignImplies ∷ WordAnd ∷ WordOr ∷ WordNot ∷ WordElsif ∷ []

-- A statement is a node, and so is a relation, whatever its words are. In a type there is none.
abbrev pub own_nodes : (n : Rule) → Of n → ℕ → ℕ
own_nodes r-statement x k = 1 + k
own_nodes r-relation x k = 1
own_nodes r-spec x k = 0
own_nodes n x k = k

-- how many nodes a text has
abbrev pub nodes : {d : Description Rule} → Part d → ℕ
nodes x = total (λ c. count_by (λ class. number class == c) node_classes) own_nodes x

-- an assignment changes the variable at its root
abbrev pub own_changes : Variable → (n : Rule) → Of n → ℕ → ℕ
own_changes x r-statement (Assign m (Path at root steps) _ value) k = if bytes_eq (variable_of root) x then 1 + k else k
own_changes x n other k = k

-- how often a text changes a variable
abbrev pub changes : Variable → {d : Description Rule} → Part d → ℕ
changes x text = total (λ c. 0) (own_changes x) text

-- how many of the scalar locals a text changes
abbrev pub joins : (locals : List Variable) → {d : Description Rule} → Part d → ℕ
joins locals text = count_by (λ x. nat_lt 0 (changes x text)) locals

-- a statement with blocks has the joins of its blocks
abbrev pub own_joins : (locals : List Variable) → (n : Rule) → Of n → ℕ → ℕ
own_joins locals r-statement (If m _ e _ block elsifs otherwise _ _) k = joins locals (Behind block (Behind elsifs otherwise)) + k
own_joins locals r-statement (Loop m _ invariant block _ _) k = joins locals block + k
own_joins locals n other k = k

-- the joins of all statements of a text together
abbrev pub all_joins : (locals : List Variable) → {d : Description Rule} → Part d → ℕ
all_joins locals text = total (λ c. 0) (own_joins locals) text

-- the words that a text takes, with one for each local
abbrev pub room_of : (locals : List Variable) → {d : Description Rule} → Part d → ℕ
room_of locals text = 64 + length locals + 12 * (nodes text + all_joins locals text)
