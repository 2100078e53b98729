-- How input is read: tokens, lines and counts of bytes, with at most one byte ahead.
use Rattle.std.specs.Prelude.{ℕ, zero, suc, ◌+◌, ◌%◌, ◌==◌, Bool, true, false, not, ◌||◌, List, [], ◌∷◌, ◌++◌, length, map, take, drop, Option, Some, None, ℤ, pos, unsigned_abs, int_lt, nat_lt, if◌then◌else◌}
use Rattle.tu_base.specs.Trace.{Trace, Got, AtEnd}
use Rattle.tu_base.specs.declared.kind.Kind.{Kind}
use Rattle.tu_base.specs.declared.kind.Kind.TheVariants.{Range, StringSize, EndOfInput}

-- What is read from: the bytes still to come, and whether the first of them, or the end where there is none, has been looked at.
pub record Source : Type 0 where
  pub left : List ℕ
  pub seen : Bool

-- Of whatever numbers stand in the input, a byte is the remainder by 256.
abbrev pub source_of : List ℕ → Source
source_of input = record { left = map (λ b. b % 256) input; seen = false }

-- A reading takes some bytes, and may see the next one, or the end. It gives a text, or raises an exception.
pub record Reading : Type 0 where
  pub taken : ℕ
  pub seen : Bool
  pub exception : Option Kind
  pub text : List ℕ

abbrev pub reads : (taken : ℕ) → (seen : Bool) → (text : List ℕ) → Reading
reads taken seen text = record { taken = taken; seen = seen; exception = None; text = text }

abbrev pub fails : (taken : ℕ) → (seen : Bool) → Kind → Reading
fails taken seen exception = record { taken = taken; seen = seen; exception = Some exception; text = [] }

-- The bytes of a list up to the first for which a test does not hold, and the others.
pub record Parted : Type 0 where
  pub front : List ℕ
  pub rest : List ℕ

abbrev pub parted_behind : (test : ℕ → Bool) → (front : List ℕ) → List ℕ → Parted
parted_behind test front [] = record { front = front; rest = [] }
parted_behind test front (b ∷ more) = if test b then parted_behind test (front ++ b ∷ []) more else record { front = front; rest = b ∷ more }

abbrev pub parted : (test : ℕ → Bool) → List ℕ → Parted
parted test bytes = parted_behind test [] bytes

-- a tab, a line end, a carriage return or a blank
abbrev pub is_white : ℕ → Bool
is_white b = (b == 9) || ((b == 10) || ((b == 13) || (b == 32)))

-- white that ends no line
abbrev pub is_blank : ℕ → Bool
is_blank b = (b == 9) || ((b == 13) || (b == 32))

-- one line end is taken, if it is ahead
abbrev pub line_end_behind : (taken : ℕ) → (text rest : List ℕ) → Reading
line_end_behind taken text [] = reads taken true text
line_end_behind taken text (b ∷ rest) = if b == 10 then reads (taken + 1) false text else reads taken true text

abbrev pub blanks_behind : (taken : ℕ) → (text : List ℕ) → Parted → Reading
blanks_behind taken text p = line_end_behind (taken + length p.front) text p.rest

-- the bytes up to white, of which at most so many are taken, and blanks behind them
abbrev pub token_behind : (most white : ℕ) → Parted → Reading
token_behind most white p = if nat_lt most (length p.front)
    then fails (white + most) true StringSize
    else blanks_behind (white + length p.front) p.front (parted is_blank p.rest)

abbrev pub token_in : (most white : ℕ) → (rest : List ℕ) → Reading
token_in most white [] = fails white true EndOfInput
token_in most white (b ∷ rest) = token_behind most white (parted (λ c. not (is_white c)) (b ∷ rest))

abbrev pub token_of : (most : ℕ) → Parted → Reading
token_of most p = token_in most (length p.front) p.rest

-- A token of at most so many bytes: white is passed over before it.
abbrev pub token : (most : ℕ) → Source → Reading
token most source = token_of most (parted is_white source.left)

abbrev pub line_with : (most : ℕ) → Parted → Reading
line_with most p = if nat_lt most (length p.front) then fails most true StringSize else line_end_behind (length p.front) p.front p.rest

abbrev pub line_in : (most : ℕ) → List ℕ → Reading
line_in most [] = fails 0 true EndOfInput
line_in most (b ∷ rest) = line_with most (parted (λ c. not (c == 10)) (b ∷ rest))

-- A line of at most so many bytes, and its end. Of a longer one the first byte that does not fit stays ahead.
abbrev pub line : (most : ℕ) → Source → Reading
line most source = line_in most source.left

-- Where no byte is wanted none is looked at.
abbrev pub bytes_in : (seen : Bool) → (n : ℕ) → List ℕ → Reading
bytes_in seen zero left = reads 0 seen []
bytes_in seen (suc n) [] = fails 0 true EndOfInput
bytes_in seen (suc n) (b ∷ left) = reads (length (take (suc n) (b ∷ left))) (nat_lt (length (b ∷ left)) (suc n)) (take (suc n) (b ∷ left))

-- A count of bytes, or as many as there are.
abbrev pub count : (most : ℕ) → (n : ℤ) → Source → Reading
count most n source =
    if int_lt n (pos 0) then fails 0 source.seen Range else (if int_lt (pos most) n then fails 0 source.seen StringSize else bytes_in source.seen (unsigned_abs n) source.left)

-- whether a byte is ahead is looked at
abbrev pub look : Source → Reading
look source = reads 0 true []

abbrev pub is_at_end : Source → Bool
is_at_end source = length source.left == 0

-- the source after a reading
abbrev pub after_reading : Source → Reading → Source
after_reading source r = record { left = drop r.taken source.left; seen = r.seen }

abbrev pub count_seen : Bool → ℕ
count_seen true = 1
count_seen false = 0

-- the end is seen where one more byte is looked at than there are
abbrev pub end_seen : (looked : ℕ) → List ℕ → Trace
end_seen looked left = if nat_lt (length left) looked then AtEnd ∷ [] else []

abbrev pub shown_between : (before looked : ℕ) → List ℕ → Trace
shown_between before looked left = if nat_lt before looked then map Got (drop before (take looked left)) ++ end_seen looked left else []

-- What a reading of the console shows: each byte as it is looked at for the first time, and the end at most once.
abbrev pub shown : Source → Reading → Trace
shown source r = shown_between (count_seen source.seen) (r.taken + count_seen r.seen) source.left
