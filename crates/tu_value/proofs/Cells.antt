-- A word in memory is what was stored last.
use Rattle.std.proofs.Common.{◌≡◌, ℕ, ◌+◌, ◌*◌, ◌/◌, ◌%◌, ◌<◌, ◌≤◌, ◌⊎◌, inl, inr, Bool, true, false, ◌&&◌, Option, Some, None, refl, arith, ap, ap₂, ◌∙◌, sym}
use Rattle.std.specs.Prelude.{◌==◌, if◌then◌else◌}
use Rattle.std.proofs.lemmas.Bool.Decides.{nat_tests}
use Rattle.ir_form.specs.Cells.{Cell, Byte, Cells, byte_of, is_open, is_open_word, loaded, with_byte, with_word, word_of}
use Rattle.ir_form.specs.declared.plain.Width.TheVariants.{Word}
use Rattle.tu_value.specs.Laws.{StoreKeeps}
use Rattle.tu_value.proofs.Outcomes.{on_test}
use Rattle.tu_value.proofs.Tests.{equal_test, test_equal}

unequal_test : (m n : ℕ) → (m < n) ⊎ (n < m) → (m == n) ≡ false
unequal_test m n h = grind (arith, nat_tests)

byte_same : (cells : Cells) (a v : ℕ) → with_byte cells a v a ≡ Byte v
byte_same cells a v = ap (λ b. if b then Byte v else cells a) (equal_test a a refl)

byte_other : (cells : Cells) (a v b : ℕ) → (b < a) ⊎ (a < b) → with_byte cells a v b ≡ cells b
byte_other cells a v b h = ap (λ t. if t then Byte v else cells b) (unequal_test b a h)

module _ (cells : Cells) (a w : ℕ) where
  abbrev one : Cells
  one = with_byte cells a (w % 256)

  abbrev two : Cells
  two = with_byte one (a + 1) (w / 256 % 256)

  abbrev three : Cells
  three = with_byte two (a + 2) (w / 65536 % 256)

  outside : (b : ℕ) → (b < a) ⊎ (a + 4 ≤ b) → with_word cells a w b ≡ cells b
  outside b h =
      byte_other three (a + 3) (w / 16777216) b (apart (a + 3) (omega arith) (omega arith))
      ∙ byte_other two (a + 2) (w / 65536 % 256) b (apart (a + 2) (omega arith) (omega arith))
      ∙ byte_other one (a + 1) (w / 256 % 256) b (apart (a + 1) (omega arith) (omega arith))
      ∙ byte_other cells a (w % 256) b (apart a (omega arith) (omega arith))
    where
      apart : (d : ℕ) → a ≤ d → d < a + 4 → (b < d) ⊎ (d < b)
      apart d lo hi = grind arith

  byte_0 : with_word cells a w a ≡ Byte (w % 256)
  byte_0 =
      byte_other three (a + 3) (w / 16777216) a (inl (omega arith)) ∙ byte_other two (a + 2) (w / 65536 % 256) a (inl (omega arith))
      ∙ byte_other one (a + 1) (w / 256 % 256) a (inl (omega arith)) ∙ byte_same cells a (w % 256)

  byte_1 : with_word cells a w (a + 1) ≡ Byte (w / 256 % 256)
  byte_1 =
      byte_other three (a + 3) (w / 16777216) (a + 1) (inl (omega arith)) ∙ byte_other two (a + 2) (w / 65536 % 256) (a + 1) (inl (omega arith))
      ∙ byte_same one (a + 1) (w / 256 % 256)

  byte_2 : with_word cells a w (a + 2) ≡ Byte (w / 65536 % 256)
  byte_2 = byte_other three (a + 3) (w / 16777216) (a + 2) (inl (omega arith)) ∙ byte_same two (a + 2) (w / 65536 % 256)

  byte_3 : with_word cells a w (a + 3) ≡ Byte (w / 16777216)
  byte_3 = byte_same three (a + 3) (w / 16777216)

abbrev word_from : (p q r s : Cell) → Option ℕ
word_from p q r s = word_of (byte_of p) (byte_of q) (byte_of r) (byte_of s)

from_same : {p q r s x y z t : Cell} → p ≡ x → q ≡ y → r ≡ z → s ≡ t → word_from p q r s ≡ word_from x y z t
from_same {p = p} {q = q} {r = r} {y = y} {z = z} {t = t} e f h i =
    ap (λ u. word_from p q r u) i ∙ ap (λ u. word_from p q u t) h ∙ ap (λ u. word_from p u z t) f ∙ ap (λ u. word_from u y z t) e

whole : (w : ℕ) → w < 4294967296 → w % 256 + 256 * (w / 256 % 256) + 65536 * (w / 65536 % 256) + 16777216 * (w / 16777216) ≡ w
whole w lt = omega arith

and_left : (a b : Bool) → (a && b) ≡ true → a ≡ true
and_left true b e = refl
and_left false b e = e

and_right : (a b : Bool) → (a && b) ≡ true → b ≡ true
and_right true b e = e
and_right false true e = refl
and_right false false e = e

-- what is open stays open
open_byte : (cells : Cells) (a v b : ℕ) → is_open (cells a) ≡ true → is_open (with_byte cells a v b) ≡ is_open (cells b)
open_byte cells a v b h = on_test (b == a)
    (λ e. ap (λ t. is_open (if t then Byte v else cells b)) e ∙ sym (ap (λ j. is_open (cells j)) (test_equal b a e) ∙ h))
    (λ e. ap (λ t. is_open (if t then Byte v else cells b)) e)

module _ (cells : Cells) (a w : ℕ) (h : is_open_word cells a ≡ true) where
  aligned : (a % 4 == 0) ≡ true
  aligned = and_left (a % 4 == 0) (is_open (cells a) && (is_open (cells (a + 1)) && (is_open (cells (a + 2)) && is_open (cells (a + 3))))) h

  all_open : (is_open (cells a) && (is_open (cells (a + 1)) && (is_open (cells (a + 2)) && is_open (cells (a + 3))))) ≡ true
  all_open = and_right (a % 4 == 0) (is_open (cells a) && (is_open (cells (a + 1)) && (is_open (cells (a + 2)) && is_open (cells (a + 3))))) h

  open_0 : is_open (cells a) ≡ true
  open_0 = and_left (is_open (cells a)) (is_open (cells (a + 1)) && (is_open (cells (a + 2)) && is_open (cells (a + 3)))) all_open

  others_1 : (is_open (cells (a + 1)) && (is_open (cells (a + 2)) && is_open (cells (a + 3)))) ≡ true
  others_1 = and_right (is_open (cells a)) (is_open (cells (a + 1)) && (is_open (cells (a + 2)) && is_open (cells (a + 3)))) all_open

  open_1 : is_open (cells (a + 1)) ≡ true
  open_1 = and_left (is_open (cells (a + 1))) (is_open (cells (a + 2)) && is_open (cells (a + 3))) others_1

  others_2 : (is_open (cells (a + 2)) && is_open (cells (a + 3))) ≡ true
  others_2 = and_right (is_open (cells (a + 1))) (is_open (cells (a + 2)) && is_open (cells (a + 3))) others_1

  open_2 : is_open (cells (a + 2)) ≡ true
  open_2 = and_left (is_open (cells (a + 2))) (is_open (cells (a + 3))) others_2

  open_3 : is_open (cells (a + 3)) ≡ true
  open_3 = and_right (is_open (cells (a + 2))) (is_open (cells (a + 3))) others_2

  opens_1 : (b : ℕ) → is_open (one cells a w b) ≡ is_open (cells b)
  opens_1 b = open_byte cells a (w % 256) b open_0

  opens_2 : (b : ℕ) → is_open (two cells a w b) ≡ is_open (cells b)
  opens_2 b = open_byte (one cells a w) (a + 1) (w / 256 % 256) b (opens_1 (a + 1) ∙ open_1) ∙ opens_1 b

  opens_3 : (b : ℕ) → is_open (three cells a w b) ≡ is_open (cells b)
  opens_3 b = open_byte (two cells a w) (a + 2) (w / 65536 % 256) b (opens_2 (a + 2) ∙ open_2) ∙ opens_2 b

  opens : (b : ℕ) → is_open (with_word cells a w b) ≡ is_open (cells b)
  opens b = open_byte (three cells a w) (a + 3) (w / 16777216) b (opens_3 (a + 3) ∙ open_3) ∙ opens_3 b

  opens_word : (b : ℕ) → is_open_word (with_word cells a w) b ≡ is_open_word cells b
  opens_word b = ap (λ t. (b % 4 == 0) && t) (ap₂ (λ s t. s && t) (opens b) (ap₂ (λ s t. s && t) (opens (b + 1)) (ap₂ (λ s t. s && t) (opens (b + 2)) (opens (b + 3)))))

  loads : w < 4294967296 → loaded Word (with_word cells a w) a ≡ Some w
  loads lt =
      ap (λ t. if t then word_from (with_word cells a w a) (with_word cells a w (a + 1)) (with_word cells a w (a + 2)) (with_word cells a w (a + 3)) else None) aligned
      ∙ from_same (byte_0 cells a w) (byte_1 cells a w) (byte_2 cells a w) (byte_3 cells a w) ∙ ap (λ x. Some x) (whole w lt)

loads_other : (cells : Cells) (a w b : ℕ) → (b + 4 ≤ a) ⊎ (a + 4 ≤ b) → loaded Word (with_word cells a w) b ≡ loaded Word cells b
loads_other cells a w b h = ap (λ x. if b % 4 == 0 then x else None)
    (from_same (outside cells a w b (apart b (omega arith) (omega arith))) (outside cells a w (b + 1) (apart (b + 1) (omega arith) (omega arith))) (outside cells a w (b + 2) (apart (b + 2) (omega arith) (omega arith))) (outside cells a w (b + 3) (apart (b + 3) (omega arith) (omega arith))))
  where
    apart : (d : ℕ) → b ≤ d → d < b + 4 → (d < a) ⊎ (a + 4 ≤ d)
    apart d lo hi = grind arith

pub store_keeps : StoreKeeps
store_keeps cells a w h lt = record {
  here = loads cells a w h lt;
  before = λ b le. loads_other cells a w b (inl le);
  behind = λ b le. loads_other cells a w b (inr le);
  open_words = opens_word cells a w h;
}
