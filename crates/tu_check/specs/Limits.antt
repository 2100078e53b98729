-- What stands in a tree, as far as the limits of tokens bound it.
use Rattle.std.specs.Prelude.{◌≡◌, ℕ, ◌+◌, ◌≤◌, length}
use Rattle.grammar.specs.Description.{Description, print}
use Rattle.grammar.specs.Tree.{n-token, n-text, n-empty, n-sequence, n-left, n-right, n-none, n-more, n-rule, n-span, n-short, erase}
use Rattle.tu_base.specs.declared.limits.TheConstants.{MOST_SOURCE_BYTES, MOST_TOKENS}
use Rattle.tu_token.specs.declared.class.Class.TheVariants.{Number}
use Rattle.tu_token.specs.ClassNumbers.{number}
use Rattle.tu_token.specs.Rules.{Rule, r-program}
use Rattle.tu_token.specs.Syntax.{Of}
use Rattle.tu_lex.specs.Laws.{IsSmallNumber}
use Rattle.tu_expr.specs.Parts.{Part}

-- each number in a part is digits of an int
abbrev pub HasSmallNumbers : {d : Description Rule} → Part d → Type 0
HasSmallNumbers n-token = Unit {0}
HasSmallNumbers (n-text {c = c} text start line) = c ≡ number Number → IsSmallNumber text
HasSmallNumbers n-empty = Unit {0}
HasSmallNumbers (n-sequence x y) = HasSmallNumbers x × HasSmallNumbers y
HasSmallNumbers (n-left x) = HasSmallNumbers x
HasSmallNumbers (n-right y) = HasSmallNumbers y
HasSmallNumbers n-none = Unit {0}
HasSmallNumbers (n-more x xs) = HasSmallNumbers x × HasSmallNumbers xs
HasSmallNumbers (n-rule m x) = HasSmallNumbers x
HasSmallNumbers (n-span x y) = HasSmallNumbers x × HasSmallNumbers y
HasSmallNumbers (n-short z) = HasSmallNumbers z

-- each node of a part is on a line up to this one
abbrev pub HasLinesTo : (most : ℕ) → {d : Description Rule} → Part d → Type 0
HasLinesTo most n-token = Unit {0}
HasLinesTo most (n-text text start line) = Unit {0}
HasLinesTo most n-empty = Unit {0}
HasLinesTo most (n-sequence x y) = HasLinesTo most x × HasLinesTo most y
HasLinesTo most (n-left x) = HasLinesTo most x
HasLinesTo most (n-right y) = HasLinesTo most y
HasLinesTo most n-none = Unit {0}
HasLinesTo most (n-more x xs) = HasLinesTo most x × HasLinesTo most xs
HasLinesTo most (n-rule m x) = (m.line ≤ most) × HasLinesTo most x
HasLinesTo most (n-span x y) = HasLinesTo most x × HasLinesTo most y
HasLinesTo most (n-short z) = HasLinesTo most z

-- a tree of no more tokens than there may be, whose numbers are small, on no more lines than a source can have
pub record HasLimits (tree : Of r-program) : Type 0 where
  pub few : length (print (erase tree)) ≤ MOST_TOKENS
  pub numbers : HasSmallNumbers tree
  pub lines : HasLinesTo (MOST_SOURCE_BYTES + 1) tree
