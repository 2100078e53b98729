-- The operators and predefined functions on texts, and the texts of ints and truth values. A text costs the bytes of its operands and of its
-- result; what raises an exception costs nothing, but for a conversion.
use Rattle.std.specs.Prelude.{ℕ, zero, suc, ◌+◌, ◌-◌, ◌*◌, ◌==◌, Bool, true, false, ◌&&◌, List, [], ◌∷◌, ◌++◌, length, take, drop, replicate, codes, ℤ, pos, neg_ℤ, ◌+ℤ◌, ◌-ℤ◌, unsigned_abs, int_le, nat_le, nat_lt, Option, Some, None, if◌then◌else◌}
use Rattle.std.specs.Fmt.{signed_decimal}
use Rattle.tu_base.specs.declared.limits.TheConstants.{MOST_TEXT_BYTES, MOST_WIDTH}
use Rattle.tu_base.specs.declared.kind.Kind.TheVariants.{Range, StringSize, StringPlace, Input}
use Rattle.tu_base.specs.declared.operator.Relation.{Relation}
use Rattle.tu_base.specs.Scalars.{Answer, Gives, Raises, exact_for, conversion_units, is_int, by_order}

abbrev pub are_equal_texts : List ℕ → List ℕ → Bool
are_equal_texts [] [] = true
are_equal_texts [] (b ∷ others) = false
are_equal_texts (a ∷ more) [] = false
are_equal_texts (a ∷ more) (b ∷ others) = (a == b) && are_equal_texts more others

-- by the first byte that differs; a text comes before one that it begins
abbrev pub is_before : List ℕ → List ℕ → Bool
is_before [] [] = false
is_before [] (b ∷ others) = true
is_before (a ∷ more) [] = false
is_before (a ∷ more) (b ∷ others) = if a == b then is_before more others else nat_lt a b

abbrev pub text_compared : Relation → List ℕ → List ℕ → Bool
text_compared relation a b = by_order relation (is_before a b) (are_equal_texts a b) (is_before b a)

abbrev pub compare_texts : Relation → List ℕ → List ℕ → Answer Bool
compare_texts relation a b = Gives (text_compared relation a b) (length a + length b)

-- a text of at most 255 bytes
abbrev pub text_for : (units : ℕ) → List ℕ → Answer (List ℕ)
text_for units bytes = if nat_le (length bytes) MOST_TEXT_BYTES then Gives bytes units else Raises StringSize 0

abbrev pub joined : List ℕ → List ℕ → Answer (List ℕ)
joined a b = text_for (2 * (length a + length b)) (a ++ b)

abbrev pub times_text : (n : ℕ) → List ℕ → List ℕ
times_text zero bytes = []
times_text (suc n) bytes = bytes ++ times_text n bytes

-- An empty text stays empty, and one that would be too long is not written out.
abbrev pub repeated_so_often : List ℕ → (n : ℕ) → Answer (List ℕ)
repeated_so_often [] n = Gives [] 0
repeated_so_often (b ∷ more) n = if nat_le (length (b ∷ more) * n) MOST_TEXT_BYTES then Gives (times_text n (b ∷ more)) (length (b ∷ more) + length (b ∷ more) * n) else Raises StringSize 0

abbrev pub repeated : List ℕ → ℤ → Answer (List ℕ)
repeated bytes n = if int_le n (pos 0) then Gives [] (length bytes) else repeated_so_often bytes (unsigned_abs n)

abbrev pub begins : (front : List ℕ) → List ℕ → Bool
begins [] others = true
begins (a ∷ more) [] = false
begins (a ∷ more) (b ∷ others) = (a == b) && begins more others

-- the least place from n on at which a text stands in another, or 0
abbrev pub place_from : (n : ℕ) → (bytes wanted : List ℕ) → ℕ
place_from n [] wanted = if begins wanted [] then n else 0
place_from n (b ∷ more) wanted = if begins wanted (b ∷ more) then n else place_from (suc n) more wanted

abbrev pub place_in : (bytes wanted : List ℕ) → Answer ℤ
place_in bytes wanted = Gives (pos (place_from 1 bytes wanted)) (length bytes * (length wanted + 1))

-- the character at a place
abbrev pub character_at : List ℕ → ℤ → Answer (List ℕ)
character_at bytes i =
    if int_le (pos 1) i && int_le i (pos (length bytes)) then Gives (take 1 (drop (unsigned_abs i - 1) bytes)) (length bytes + 1) else Raises StringPlace 0

-- the part from one place to another; an empty one may begin behind the last place
abbrev pub part_from : List ℕ → (first last : ℤ) → Answer (List ℕ)
part_from bytes first last =
    if int_le (pos 1) first && (int_le first (last +ℤ pos 1) && int_le last (pos (length bytes)))
    then Gives (take (unsigned_abs (last -ℤ first +ℤ pos 1)) (drop (unsigned_abs first - 1) bytes)) (length bytes + unsigned_abs (last -ℤ first +ℤ pos 1))
    else Raises StringPlace 0

abbrev pub byte_of : List ℕ → Answer ℤ
byte_of [] = Raises StringPlace 0
byte_of (b ∷ []) = Gives (pos b) 0
byte_of (b ∷ (c ∷ more)) = Raises StringPlace 0

-- a width, a byte, or the number of a character
abbrev pub is_width : ℤ → Bool
is_width z = int_le (pos 0) z && int_le z (pos MOST_WIDTH)

abbrev pub text_of_byte : ℤ → Answer (List ℕ)
text_of_byte z = if is_width z then Gives (unsigned_abs z ∷ []) 0 else Raises Range 0

-- blanks before a text, or behind it, up to a width; a longer text is not cut
abbrev pub padded_left : (width : ℕ) → List ℕ → List ℕ
padded_left width bytes = replicate (width - length bytes) 32 ++ bytes

abbrev pub padded_right : (width : ℕ) → List ℕ → List ℕ
padded_right width bytes = bytes ++ replicate (width - length bytes) 32

abbrev pub int_text : ℤ → (width : ℤ) → Answer (List ℕ)
int_text z width = if is_width width then Gives (padded_left (unsigned_abs width) (signed_decimal z)) conversion_units else Raises Range 0

abbrev pub is_digit : ℕ → Bool
is_digit b = nat_le 48 b && nat_le b 57

-- the number that digits write behind others, if each is a digit
abbrev pub digits_behind : (before : ℕ) → List ℕ → Option ℕ
digits_behind before [] = Some before
digits_behind before (b ∷ more) = if is_digit b then digits_behind (10 * before + (b - 48)) more else None

-- one digit or more
abbrev pub digits_in : List ℕ → Option ℕ
digits_in [] = None
digits_in (b ∷ more) = digits_behind 0 (b ∷ more)

abbrev pub signed_by : (is_negative : Bool) → Option ℕ → Option ℤ
signed_by is_negative None = None
signed_by true (Some n) = Some (neg_ℤ (pos n))
signed_by false (Some n) = Some (pos n)

-- the number that a text writes, of any size: an optional sign and digits
abbrev pub number_in : List ℕ → Option ℤ
number_in [] = None
number_in (b ∷ more) = if b == 45 then signed_by true (digits_in more) else (if b == 43 then signed_by false (digits_in more) else signed_by false (digits_in (b ∷ more)))

abbrev pub written : Option ℤ → Answer ℤ
written None = Raises Range conversion_units
written (Some z) = exact_for conversion_units z

-- the int that a text writes; Range where it writes none, Overflow where that is no int
abbrev pub text_int : List ℕ → Answer ℤ
text_int bytes = written (number_in bytes)

-- What `put` writes: ints in decimal with blanks before them, truth values and texts with blanks behind them. Each byte that is put costs
-- a unit besides.
abbrev pub put_int : ℤ → (width : ℕ) → Answer (List ℕ)
put_int z width = Gives (padded_left width (signed_decimal z)) conversion_units

abbrev pub truth_text : Bool → List ℕ
truth_text true = codes "true"
truth_text false = codes "false"

abbrev pub put_truth : Bool → (width : ℕ) → Answer (List ℕ)
put_truth b width = Gives (padded_right width (truth_text b)) 0

abbrev pub put_text : List ℕ → (width : ℕ) → Answer (List ℕ)
put_text bytes width = Gives (padded_right width bytes) (length bytes)

-- What `get` makes of a token: an int, a truth value, or the token itself.
abbrev pub token_written : Option ℤ → Answer ℤ
token_written None = Raises Input conversion_units
token_written (Some z) = if is_int z then Gives z conversion_units else Raises Input conversion_units

abbrev pub token_int : List ℕ → Answer ℤ
token_int bytes = token_written (number_in bytes)

abbrev pub token_truth : List ℕ → Answer Bool
token_truth bytes = if are_equal_texts bytes (truth_text true) then Gives true 0 else (if are_equal_texts bytes (truth_text false) then Gives false 0 else Raises Input 0)

abbrev pub token_text : List ℕ → Answer (List ℕ)
token_text bytes = Gives bytes (length bytes)
