-- What a variable holds, and its parts.
use Rattle.std.specs.Prelude.{ℕ, ◌==◌, Bool, List, [], ◌∷◌, ◌++◌, ℤ, Option, Some, None, if◌then◌else◌}

-- what a scalar, a text, a set or a pointer holds
pub data Value : Type 0 where
  -- nothing was stored since its declaration
  Unset : Value
  -- an int, a truth value as 0 or 1, or an enumeration value by its place
  Number : ℤ → Value
  Bytes : List ℕ → Value
  -- for each number of its base, in their order, whether it is a member
  Members : List Bool → Value
  -- an element of a collection by its creation number; `nil` is 0
  Creation : ℕ → Value

-- What is read as a scalar, a text, a set or a pointer; all else is unset there.
abbrev pub scalar_in : Value → Option ℤ
scalar_in (Number z) = Some z
scalar_in v = None

abbrev pub text_in : Value → Option (List ℕ)
text_in (Bytes bytes) = Some bytes
text_in v = None

abbrev pub set_in : Value → Option (List Bool)
set_in (Members members) = Some members
set_in v = None

abbrev pub pointer_in : Value → Option ℕ
pointer_in (Creation creation) = Some creation
pointer_in v = None

-- The way to a part of what a variable holds, by the numbers of components, outermost first. Fields of a record are numbered from 0, those
-- of a union from 1 behind its tag, and elements of an array from 0 in row order, the last index running fastest.
abbrev pub Way : Type 0
Way = List ℕ

-- What a place holds, by what stands at the end of each way into it. What has no parts stands at the empty way.
abbrev pub Content : Type 0
Content = Way → Value

abbrev pub unset : Content
unset way = Unset

-- of a place without parts
abbrev pub alone : Value → Content
alone v [] = v
alone v (k ∷ way) = Unset

-- what is left of a way behind another
abbrev pub behind : (front : Way) → Way → Option Way
behind [] way = Some way
behind (k ∷ front) [] = None
behind (k ∷ front) (j ∷ way) = if k == j then behind front way else None

-- the part at a way
abbrev pub part : Content → Way → Content
part content way = λ more. content (way ++ more)

-- the same with another part at a way
abbrev pub with_part : Content → Way → Content → Content
with_part content to new = λ way. elim (behind to way) [ None ↦ content way | Some more ↦ new more ]

-- a union whose tag has just been set
abbrev pub tagged : (tag : ℤ) → Content
tagged tag = with_part unset (0 ∷ []) (alone (Number tag))
