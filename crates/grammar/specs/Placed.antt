-- Where a tree stands: its marks and the places of its texts follow from the places of the tokens alone.
use Rattle.std.specs.Prelude.{◌≡◌, ℕ, ◌+◌, false, cond, List, [], ◌∷◌}
use Rattle.grammar.specs.Description.{Lexeme, Description, Derivation, d-token, d-empty, d-sequence, d-left, d-right, d-none, d-more, d-rule, d-span, d-short}
use Rattle.grammar.specs.Grammar.{Grammar, Marking, numbered, placed, unmarked}
use Rattle.grammar.specs.Tree.{Mark, no_mark, Node, n-token, n-text, n-empty, n-sequence, n-left, n-right, n-none, n-more, n-rule, n-span, n-short, erase}

pub record Place : Type 0 where
  pub start : ℕ
  pub line : ℕ

-- the places of the tokens that are left, that of the end, and the number of the next node
pub record Input : Type 0 where
  pub places : List Place
  pub end : Place
  pub number : ℕ

abbrev pub first_of : List Place → Place → Place
first_of [] end = end
first_of (place ∷ places) end = place

abbrev pub here : Input → Place
here i = first_of i.places i.end

abbrev pub rest_of : List Place → List Place
rest_of [] = []
rest_of (place ∷ places) = places

-- behind one token
abbrev pub behind_one : Input → Input
behind_one i = record i { places = rest_of i.places }

abbrev pub mark_at : Marking → Input → Mark
mark_at numbered i = record { number = i.number; start = (here i).start; line = (here i).line }
mark_at placed i = record { number = 0; start = (here i).start; line = (here i).line }
mark_at unmarked i = no_mark

-- inside a node, which has taken its number
abbrev pub inside : Marking → Input → Input
inside numbered i = record i { number = i.number + 1 }
inside placed i = i
inside unmarked i = i

module _ {Rule : Type 0} {body : Rule → Description Rule} (g : Grammar body) where
  -- the derivation with its marks from i on, and where it ends
  abbrev pub marked : {d : Description Rule} → Derivation body d → Input → Node body d × Input
  marked (d-token {c = c} text) i = (cond (g.keeps_text c) (n-text text (here i).start (here i).line) n-token, behind_one i)
  marked d-empty i = (n-empty, i)
  marked (d-sequence x y) i = let p = marked x i in let q = marked y p.1 in (n-sequence p.0 q.0, q.1)
  marked (d-left x) i = let p = marked x i in (n-left p.0, p.1)
  marked (d-right y) i = let p = marked y i in (n-right p.0, p.1)
  marked d-none i = (n-none, i)
  marked (d-more x xs) i = let p = marked x i in let q = marked xs p.1 in (n-more p.0 q.0, q.1)
  marked (d-rule {n = n} x) i = let p = marked x (inside (g.marking n) i) in (n-rule (mark_at (g.marking n) i) p.0, p.1)
  marked (d-span x y) i = let p = marked x i in let q = marked y p.1 in (n-span p.0 q.0, q.1)
  marked (d-short z) i = let p = marked z i in (n-short p.0, p.1)

  -- the tree stands from i to j
  unfoldable pub Stands : {d : Description Rule} → Input → Node body d → Input → Type 0
  Stands i x j = marked (erase x) i ≡ (x, j)

  -- the whole tree has the marks that tokens at these places give it
  abbrev pub IsPlaced : {d : Description Rule} → Node body d → List Place → Place → Type 0
  IsPlaced x places end = (marked (erase x) (record { places = places; end = end; number = 0 })).0 ≡ x

  -- only the classes whose texts stand in a tree have a text
  abbrev pub HasKeptTexts : List Lexeme → Type 0
  HasKeptTexts [] = Unit {0}
  HasKeptTexts (x ∷ u) = (g.keeps_text x.0 ≡ false → x.1 ≡ []) × HasKeptTexts u
