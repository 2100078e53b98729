-- Worked rows of shapes, operators and predefined functions.
use Rattle.std.proofs.Common.{◌≡◌, true, false, [], ◌∷◌, pos, refl}
use Rattle.std.specs.Prelude.{codes, neg_ℤ, replicate}
use Rattle.std.specs.Fmt.{digits}
use Rattle.tu_base.specs.declared.kind.Kind.TheVariants.{Overflow, Divide as divide_kind, Range, StringSize, StringPlace, Input}
use Rattle.tu_base.specs.declared.operator.Relation.TheVariants.{Equal, Less, LessOrEqual}
use Rattle.tu_base.specs.declared.operator.Unary.TheVariants.{Not, Successor, Next, Previous}
use Rattle.tu_base.specs.declared.operator.Binary.TheVariants.{Subtract, Divide, Modulo, Power, Compare}
use Rattle.tu_base.specs.declared.operator.Combination.TheVariants.{Union, Difference}
use Rattle.tu_base.specs.declared.shape.Shape.TheVariants.{Scalar, Text, Set, Pointer, Array, Record, Union as union_shape}
use Rattle.tu_base.specs.Scalars.{Gives, Raises, unary, binary}
use Rattle.tu_base.specs.Texts.{compare_texts, joined, repeated, place_in, character_at, part_from, byte_of, text_of_byte, int_text, text_int, put_int, put_truth, put_text, token_int, token_truth}
use Rattle.tu_base.specs.Sets.{Base, empty_set, full_set, with_member, membership, combined, compare_sets}
use Rattle.tu_base.specs.Shapes.{all_words, selected, variant_of}

-- a record, `string (255)`, a set of 33 numbers, a pointer, an array of 2 by 3 records of them, and a union
words : all_words (
    Scalar (record { low = pos 1; high = pos 3 })
    ∷ (Text 255
    ∷ (Set (pos 0) 33
    ∷ (Pointer 0
    ∷ (Record (0 ∷ (1 ∷ (2 ∷ (3 ∷ []))))
    ∷ (Array (record { low = pos 1; high = pos 2 } ∷ (record { low = pos 0; high = pos 2 } ∷ [])) 4
    ∷ (union_shape 0 (record { labels = pos 1 ∷ []; fields = 0 ∷ [] } ∷ (record { labels = pos 2 ∷ []; fields = 3 ∷ (0 ∷ []) } ∷ [])) ∷ []))))))) ≡ 1 ∷ (65 ∷ (3 ∷ (2 ∷ (71 ∷ (426 ∷ (4 ∷ []))))))
words = refl

-- An array whose upper bound lies below its lower one has no element.
no_elements : all_words (Scalar (record { low = pos 1; high = pos 1 }) ∷ (Array (record { low = pos 1; high = pos 0 } ∷ []) 0 ∷ [])) ≡ 1 ∷ (0 ∷ [])
no_elements = refl

-- A label that stands in two variants belongs to the first, and what has none to the variant without labels.
variants : (selected (record { labels = pos 1 ∷ []; fields = 0 ∷ (0 ∷ []) } ∷ (record { labels = pos 1 ∷ (pos 2 ∷ []); fields = 0 ∷ [] } ∷ (record { labels = []; fields = [] } ∷ []))) (pos 1) ≡ 0)
    × (selected (record { labels = pos 1 ∷ []; fields = 0 ∷ (0 ∷ []) } ∷ (record { labels = pos 1 ∷ (pos 2 ∷ []); fields = 0 ∷ [] } ∷ (record { labels = []; fields = [] } ∷ []))) (pos 7) ≡ 2)
    × (variant_of (record { labels = pos 1 ∷ []; fields = 0 ∷ (0 ∷ []) } ∷ (record { labels = pos 2 ∷ []; fields = 0 ∷ [] } ∷ [])) 2 ≡ 0)
    × (variant_of (record { labels = pos 1 ∷ []; fields = 0 ∷ (0 ∷ []) } ∷ (record { labels = pos 2 ∷ []; fields = 0 ∷ [] } ∷ [])) 3 ≡ 1)
variants = (refl, refl, refl, refl)

-- `-7 div 2`, `-7 mod 2`, `7 div 0`, `-2147483647 - 1`, `0 ** 0`, `(-2) ** 3` and `2 ** -1`
arithmetic : (binary Divide (neg_ℤ (pos 7)) (pos 2) ≡ Gives (neg_ℤ (pos 3)) 0)
    × (binary Modulo (neg_ℤ (pos 7)) (pos 2) ≡ Gives (neg_ℤ (pos 1)) 0)
    × (binary Divide (pos 7) (pos 0) ≡ Raises divide_kind 0)
    × (binary Subtract (neg_ℤ (pos 2147483647)) (pos 1) ≡ Raises Overflow 0)
    × (binary Power (pos 0) (pos 0) ≡ Gives (pos 1) 32)
    × (binary Power (neg_ℤ (pos 2)) (pos 3) ≡ Gives (neg_ℤ (pos 8)) 32)
    × (binary Power (pos 2) (neg_ℤ (pos 1)) ≡ Raises Range 32)
arithmetic = (refl, refl, refl, refl, refl, refl, refl)

-- `succ` at the end of int and of an enumeration of three values, `pred` at its begin, `not true`, and a comparison
functions : (unary Successor (pos 2147483647) ≡ Raises Overflow 0)
    × (unary (Next 2) (pos 2) ≡ Raises Range 0)
    × (unary (Next 2) (pos 1) ≡ Gives (pos 2) 0)
    × (unary (Previous 2) (pos 0) ≡ Raises Range 0)
    × (unary Not (pos 1) ≡ Gives (pos 0) 0)
    × (binary (Compare LessOrEqual) (pos 3) (pos 3) ≡ Gives (pos 1) 0)
functions = (refl, refl, refl, refl, refl, refl)

-- `"abc" (2 .. *)`, `"abc" (0)`, an empty part behind the end, and one that is too far
parts : (part_from (codes "abc") (pos 2) (pos 3) ≡ Gives (codes "bc") 5)
    × (character_at (codes "abc") (pos 0) ≡ Raises StringPlace 0)
    × (character_at (codes "abc") (pos 3) ≡ Gives (codes "c") 4)
    × (part_from (codes "abc") (pos 4) (pos 3) ≡ Gives [] 3)
    × (part_from (codes "abc") (pos 5) (pos 4) ≡ Raises StringPlace 0)
parts = (refl, refl, refl, refl, refl)

-- a proper first part comes first; `"ab" + "c"`; a text above 255 bytes; `repeat` of a negative number and of an empty text
texts : (compare_texts Less (codes "ab") (codes "abc") ≡ Gives true 5)
    × (compare_texts Less (codes "b") (codes "abc") ≡ Gives false 4)
    × (joined (codes "ab") (codes "c") ≡ Gives (codes "abc") 6)
    × (joined (replicate 255 120) (codes "y") ≡ Raises StringSize 0)
    × (repeated (codes "ab") (pos 2) ≡ Gives (codes "abab") 6)
    × (repeated (codes "ab") (neg_ℤ (pos 1)) ≡ Gives [] 2)
    × (repeated [] (pos 2147483647) ≡ Gives [] 0)
    × (repeated (codes "x") (pos 256) ≡ Raises StringSize 0)
texts = (refl, refl, refl, refl, refl, refl, refl, refl)

-- `index ("abcab", "ca")`, of an empty text, and of one that is not there
places : (place_in (codes "abcab") (codes "ca") ≡ Gives (pos 3) 15)
    × (place_in (codes "abcab") [] ≡ Gives (pos 1) 5)
    × (place_in [] [] ≡ Gives (pos 1) 0)
    × (place_in (codes "abcab") (codes "x") ≡ Gives (pos 0) 10)
places = (refl, refl, refl, refl)

-- `intstr (-5, 4)`, `intstr (1, 256)`, `strint ("+12")`, `strint ("x")`, `strint ("99999999999")`, `strint ("-")`, `ord ("ab")`, `chr (256)`
conversions : (int_text (neg_ℤ (pos 5)) (pos 4) ≡ Gives (codes "  -5") 32)
    × (int_text (pos 1) (pos 256) ≡ Raises Range 0)
    × (text_int (codes "+12") ≡ Gives (pos 12) 32)
    × (text_int (codes "x") ≡ Raises Range 32)
    × (text_int (codes "99999999999") ≡ Raises Overflow 32)
    × (text_int (codes "-") ≡ Raises Range 32)
    × (byte_of (codes "ab") ≡ Raises StringPlace 0)
    × (text_of_byte (pos 256) ≡ Raises Range 0)
unfolding digits
conversions = (refl, refl, refl, refl, refl, refl, refl, refl)

-- widths pad ints on the left and other values on the right, and cut nothing
shown : (put_int (neg_ℤ (pos 7)) 4 ≡ Gives (codes "  -7") 32)
    × (put_int (pos 1234) 2 ≡ Gives (codes "1234") 32)
    × (put_truth true 6 ≡ Gives (codes "true  ") 0)
    × (put_text (codes "Ann") 5 ≡ Gives (codes "Ann  ") 3)
unfolding digits
shown = (refl, refl, refl, refl)

tokens : (token_int (codes "-7") ≡ Gives (neg_ℤ (pos 7)) 32)
    × (token_int (codes "2147483648") ≡ Raises Input 32)
    × (token_int (codes "7x") ≡ Raises Input 32)
    × (token_truth (codes "true") ≡ Gives true 0)
    × (token_truth (codes "True") ≡ Raises Input 0)
tokens = (refl, refl, refl, refl, refl)

abbrev base : Base
base = record { low = pos 1; members = 5 }

-- `S (1, 3) + S (5) - S (1)` over 1 to 5; a member outside the base; a proper part
sets : (with_member base (pos 3) (true ∷ (false ∷ (false ∷ (false ∷ (false ∷ []))))) ≡ Gives (true ∷ (false ∷ (true ∷ (false ∷ (false ∷ []))))) 0)
    × (combined base Union (true ∷ (false ∷ (true ∷ (false ∷ (false ∷ []))))) (false ∷ (false ∷ (false ∷ (false ∷ (true ∷ []))))) ≡ Gives (true ∷ (false ∷ (true ∷ (false ∷ (true ∷ []))))) 2)
    × (combined base Difference (true ∷ (false ∷ (true ∷ (false ∷ (true ∷ []))))) (true ∷ (false ∷ (false ∷ (false ∷ (false ∷ []))))) ≡ Gives (false ∷ (false ∷ (true ∷ (false ∷ (true ∷ []))))) 2)
    × (membership base true (pos 3) (false ∷ (false ∷ (true ∷ (false ∷ (true ∷ []))))) ≡ Gives true 2)
    × (membership base false (pos 1) (false ∷ (false ∷ (true ∷ (false ∷ (true ∷ []))))) ≡ Gives true 2)
    × (membership base true (pos 6) (full_set base) ≡ Raises Range 0)
    × (with_member base (pos 0) (empty_set base) ≡ Raises Range 0)
    × (compare_sets base Less (empty_set base) (full_set base) ≡ Gives true 2)
    × (compare_sets base LessOrEqual (full_set base) (full_set base) ≡ Gives true 2)
    × (compare_sets base Equal (empty_set base) (full_set base) ≡ Gives false 2)
sets = (refl, refl, refl, refl, refl, refl, refl, refl, refl, refl)
