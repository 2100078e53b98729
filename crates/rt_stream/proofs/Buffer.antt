-- The bytes that are stored so far, and the values that all of the routine uses.
use Rattle.std.proofs.Common.{◌≡◌, ℕ, ◌+◌, ◌*◌, ◌<◌, ◌≤◌, ◌⊎◌, inl, inr, List, [], ◌∷◌, Bool, true, false, Some, refl, ap, ◌∙◌, length, arith}
use Rattle.std.specs.Prelude.{◌==◌, ◌&&◌, nat_le, nat_lt, if◌then◌else◌}
use Rattle.std.proofs.lemmas.Bool.Decides.{nat_tests}
use Rattle.rv_image.specs.Streams.{bytes_at}
use Rattle.ir_form.specs.Cells.{Cell, Cells, Byte, is_open, is_set, are_set, byte_seen, memory_of, with_byte, with_range}
use Rattle.ir_form.specs.State.{Env, with_value}
use Rattle.ir_code.proofs.Steps.{set_below}

-- what tests of an order say
pub is_below : (x y : ℕ) → nat_lt x y ≡ true → x < y
is_below x y t = grind (arith, nat_tests, t)

pub not_below : (x y : ℕ) → nat_lt x y ≡ false → y ≤ x
not_below x y t = grind (arith, nat_tests, t)

apart_test : (x y : ℕ) → (x < y) ⊎ (y < x) → (x == y) ≡ false
apart_test x y (inl lt) = grind (arith, nat_tests)
apart_test x y (inr lt) = grind (arith, nat_tests)

same_test : (x : ℕ) → (x == x) ≡ true
same_test x = grind (arith, nat_tests)

pub byte_apart : (cells : Cells) (a v y : ℕ) → (y < a) ⊎ (a < y) → with_byte cells a v y ≡ cells y
byte_apart cells a v y h = ap (λ t. if t then Byte v else cells y) (apart_test y a h)

byte_same : (cells : Cells) (a v : ℕ) → with_byte cells a v a ≡ Byte v
byte_same cells a v = ap (λ t. if t then Byte v else cells a) (same_test a)

-- these bytes are stored from an address on
pub data Holds (cells : Cells) : ℕ → List ℕ → Type 0 where
  holds_none : {a : ℕ} → Holds cells a []
  holds_more : {a b : ℕ} {bytes : List ℕ} → cells a ≡ Byte b → Holds cells (a + 1) bytes → Holds cells a (b ∷ bytes)

pub bytes_seen : {cells : Cells} {a : ℕ} {bytes : List ℕ} → Holds cells a bytes → bytes_at (memory_of cells) a (length bytes) ≡ bytes
bytes_seen holds_none = refl
bytes_seen (holds_more e h) = λ i. byte_seen (e i) ∷ bytes_seen h i

pub bytes_set : {cells : Cells} {a : ℕ} {bytes : List ℕ} → Holds cells a bytes → are_set cells a (length bytes) ≡ true
bytes_set holds_none = refl
bytes_set (holds_more e h) = λ i. is_set (e i) && bytes_set h i

-- a store before them leaves them
holds_below : {cells : Cells} {a : ℕ} {bytes : List ℕ} (at v : ℕ) → at < a → Holds cells a bytes → Holds (with_byte cells at v) a bytes
holds_below at v lt holds_none = holds_none
holds_below {cells} at v lt (holds_more {a = a} e h) = holds_more (byte_apart cells at v a (inr lt) ∙ e) (holds_below at v (omega arith) h)

pub holds_next : {cells : Cells} {a : ℕ} {bytes : List ℕ} (v : ℕ) → Holds cells (a + 1) bytes → Holds (with_byte cells a v) a (v ∷ bytes)
holds_next {cells} {a} v h = holds_more (byte_same cells a v) (holds_below a v (omega arith) h)

-- the 256 bytes of the buffer are open, and outside the frame of 260 bytes all is as before
pub record Inside (base : ℕ) (before cells : Cells) : Type 0 where
  pub open_at : (y : ℕ) → base ≤ y → y < base + 256 → is_open (cells y) ≡ true
  pub same : (y : ℕ) → (y < base) ⊎ (base + 260 ≤ y) → cells y ≡ before y

open_where : (t : Bool) (v : ℕ) (cell : Cell) → is_open cell ≡ true → is_open (if t then Byte v else cell) ≡ true
open_where true v cell e = refl
open_where false v cell e = e

apart_from : (base a y : ℕ) → base ≤ a → a < base + 256 → (y < base) ⊎ (base + 260 ≤ y) → (y < a) ⊎ (a < y)
apart_from base a y low high (inl h) = inl (omega arith)
apart_from base a y low high (inr h) = inr (omega arith)

-- the bytes lie from an address to the end of the buffer
pub record Lies (base : ℕ) (before : Cells) (at : ℕ) (bytes : List ℕ) (cells : Cells) : Type 0 where
  pub text : Holds cells at bytes
  pub inside : Inside base before cells
  pub size : at + length bytes ≡ base + 256

pub lies_next : {base : ℕ} {before cells : Cells} {a : ℕ} {bytes : List ℕ} (v : ℕ) → base ≤ a → Lies base before (a + 1) bytes cells → Lies base before a (v ∷ bytes) (with_byte cells a v)
lies_next {base} {before} {cells} {a} {bytes} v low l =
    let size : a + 1 + length bytes ≡ base + 256 = l.size in
    record {
      text = holds_next v l.text;
      inside = record {
        open_at = λ y le lt. open_where (y == a) v (cells y) (l.inside.open_at y le lt);
        same = λ y h. byte_apart cells a v y (apart_from base a y low (omega arith) h) ∙ l.inside.same y h;
      };
      size = omega arith;
    }

pub open_next : {base : ℕ} {before cells : Cells} {a : ℕ} {bytes : List ℕ} → base ≤ a → Lies base before (a + 1) bytes cells → is_open (cells a) ≡ true
open_next {base} {a = a} {bytes = bytes} low l = let size : a + 1 + length bytes ≡ base + 256 = l.size in l.inside.open_at a low (omega arith)

-- a range that is taken or handed back
outside_test : (from words y : ℕ) → (y < from) ⊎ (from + 4 * words ≤ y) → (nat_le from y && nat_lt y (from + 4 * words)) ≡ false
outside_test from words y (inl h) = grind (arith, nat_tests)
outside_test from words y (inr h) = grind (arith, nat_tests)

pub range_apart : (cells : Cells) (from words : ℕ) (cell : Cell) (y : ℕ) → (y < from) ⊎ (from + 4 * words ≤ y) → with_range cells from words cell y ≡ cells y
range_apart cells from words cell y h = ap (λ t. if t then cell else cells y) (outside_test from words y h)

within_test : (from words y : ℕ) → from ≤ y → y < from + 4 * words → (nat_le from y && nat_lt y (from + 4 * words)) ≡ true
within_test from words y low high = grind (arith, nat_tests)

pub range_within : (cells : Cells) (from words : ℕ) (cell : Cell) (y : ℕ) → from ≤ y → y < from + 4 * words → with_range cells from words cell y ≡ cell
range_within cells from words cell y low high = ap (λ t. if t then cell else cells y) (within_test from words y low high)

-- the width, the constants of the routine and the number
pub record Known (word width end : ℕ) (env : Env) : Type 0 where
  pub width_is : env 1 ≡ Some width
  pub glyph : env 2 ≡ Some 48
  pub end_is : env 3 ≡ Some end
  pub ten : env 4 ≡ Some 10
  pub one : env 5 ≡ Some 1
  pub none : env 6 ≡ Some 0
  pub top : env 7 ≡ Some 2147483648
  pub minus : env 8 ≡ Some 45
  pub blank : env 9 ≡ Some 32
  pub word_is : env 10 ≡ Some word

pub known_with : {word width end : ℕ} {env : Env} (x w : ℕ) → 11 ≤ x → Known word width end env → Known word width end (with_value env x w)
known_with {env = env} x w le k = record {
  width_is = set_below env x w 1 (omega arith) ∙ k.width_is;
  glyph = set_below env x w 2 (omega arith) ∙ k.glyph;
  end_is = set_below env x w 3 (omega arith) ∙ k.end_is;
  ten = set_below env x w 4 (omega arith) ∙ k.ten;
  one = set_below env x w 5 (omega arith) ∙ k.one;
  none = set_below env x w 6 (omega arith) ∙ k.none;
  top = set_below env x w 7 (omega arith) ∙ k.top;
  minus = set_below env x w 8 (omega arith) ∙ k.minus;
  blank = set_below env x w 9 (omega arith) ∙ k.blank;
  word_is = set_below env x w 10 (omega arith) ∙ k.word_is;
}
