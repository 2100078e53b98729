-- What the pieces of code do, and what relations say on words.
use Rattle.std.specs.Prelude.{◌≡◌, ℕ, ◌+◌, ◌<◌, ◌≤◌, true, Option, Some, None, ℤ, pos, ◌+ℤ◌, ◌-ℤ◌, ◌*ℤ◌}
use Rattle.std.specs.Int.{w32, cast_unsigned}
use Rattle.tu_base.specs.declared.limits.TheConstants.{MOST_INT}
use Rattle.tu_base.specs.declared.operator.Relation.{Relation}
use Rattle.tu_base.specs.Scalars.{Gives, exact, is_int, compared}
use Rattle.ir_form.specs.Cells.{Cells, is_open_word, loaded, with_word}
use Rattle.ir_form.specs.Meaning.{run_list}
use Rattle.ir_form.specs.Place.{Setting}
use Rattle.ir_form.specs.Plain.{Calls}
use Rattle.ir_form.specs.State.{State, Next, Run, next, with_value}
use Rattle.ir_form.specs.declared.plain.Width.TheVariants.{Word}
use Rattle.tu_value.specs.declared.pieces.Fixed.{Fixed}
use Rattle.tu_value.specs.Words.{word_of, word_of_int, IsSmall}
use Rattle.tu_value.specs.Pieces.{difference_code, fetch_code, fixed_code, fixed_from, less_code, literal_code, more_code, number_code, product_code, store_code, sum_code, unset_code}
use Rattle.tu_value.specs.Meets.{OnlyFrom, Costs, Meets, HasFixed, HasInt, StoresWord, HoldsWord, fetched}
use Rattle.tu_value.specs.Comparisons.{comparison_of, compares}

-- what reading a variable costs at most, a sum or a difference, a product, and a sum or a difference with a number: an exception that they raise
-- is the dearest
abbrev pub fetch_most : ℕ
fetch_most = 40

abbrev pub sum_most : ℕ
sum_most = 86

abbrev pub product_most : ℕ
product_most = 111

abbrev pub more_most : ℕ
more_most = 48

-- a run that defines the two values from n on
pub record GivesFixed (n : ℕ) (st : State) (c : ℕ) (r : Run) : Type 0 where
  pub how : r.how ≡ Next
  pub only : OnlyFrom n st r.state
  pub fixed : HasFixed (fixed_from n) (n + 2) r.state
  pub costs : Costs 10 c r

abbrev pub FixedAreGiven : Type 0
FixedAreGiven = (g : Setting) (calls : Calls) (n : ℕ) (st : State) (c : ℕ) → GivesFixed n st c (run_list g calls (fixed_code n) st c)

abbrev pub LiteralMeets : Type 0
LiteralMeets = (g : Setting) (calls : Calls) (number line n : ℕ) (st : State) (c : ℕ) → number ≤ MOST_INT → Meets line n n 5 (Gives (pos number) 0) st c (run_list g calls (literal_code number n) st c)

-- the word of a scalar is one of 32 bits
abbrev pub WordsFit : Type 0
WordsFit = (v : Option ℤ) → IsSmall v → word_of v < 4294967296

abbrev pub FetchMeets : Type 0
FetchMeets = (g : Setting) (calls : Calls) (k : Fixed) (v : Option ℤ) (line at n a : ℕ) (st : State) (c : ℕ) → HasFixed k n st → st.env at ≡ Some a → loaded Word st.cells a ≡ Some (word_of v) → IsSmall v → Meets line n n fetch_most (fetched v) st c (run_list g calls (fetch_code k line at n) st c)

abbrev pub StoreRuns : Type 0
StoreRuns = (g : Setting) (calls : Calls) (at from a w : ℕ) (st : State) (c : ℕ) → st.env at ≡ Some a → st.env from ≡ Some w → is_open_word st.cells a ≡ true → StoresWord a w st c (run_list g calls (store_code at from) st c)

-- the word of a variable that is not set
abbrev pub UnsetRuns : Type 0
UnsetRuns = (g : Setting) (calls : Calls) (k : Fixed) (at n a : ℕ) (st : State) (c : ℕ) → HasFixed k n st → st.env at ≡ Some a → is_open_word st.cells a ≡ true → StoresWord a (word_of None) st c (run_list g calls (unset_code k at) st c)

abbrev pub StoreKeeps : Type 0
StoreKeeps = (cells : Cells) (a w : ℕ) → is_open_word cells a ≡ true → w < 4294967296 → HoldsWord a w cells (with_word cells a w)

-- the number of an int, in two's complement
abbrev pub NumberIsGiven : Type 0
NumberIsGiven = (g : Setting) (calls : Calls) (k : Fixed) (z : ℤ) (value n : ℕ) (st : State) (c : ℕ) → HasFixed k n st → HasInt z value n st → run_list g calls (number_code k value n) st c ≡ next (record st { env = with_value st.env n (cast_unsigned w32 z) }) (c + 10)

abbrev pub SumMeets : Type 0
SumMeets = (g : Setting) (calls : Calls) (k : Fixed) (x y : ℤ) (line left right n : ℕ) (st : State) (c : ℕ) → HasFixed k n st → HasInt x left n st → HasInt y right n st → Meets line n (n + 1) sum_most (exact (x +ℤ y)) st c (run_list g calls (sum_code k line left right n) st c)

abbrev pub DifferenceMeets : Type 0
DifferenceMeets = (g : Setting) (calls : Calls) (k : Fixed) (x y : ℤ) (line left right n : ℕ) (st : State) (c : ℕ) → HasFixed k n st → HasInt x left n st → HasInt y right n st → Meets line n (n + 1) sum_most (exact (x -ℤ y)) st c (run_list g calls (difference_code k line left right n) st c)

abbrev pub ProductMeets : Type 0
ProductMeets = (g : Setting) (calls : Calls) (k : Fixed) (x y : ℤ) (line left right n : ℕ) (st : State) (c : ℕ) → HasFixed k n st → HasInt x left n st → HasInt y right n st → Meets line n (n + 6) product_most (exact (x *ℤ y)) st c (run_list g calls (product_code k line left right n) st c)

abbrev pub MoreMeets : Type 0
MoreMeets = (g : Setting) (calls : Calls) (x : ℤ) (line left number n : ℕ) (st : State) (c : ℕ) → HasInt x left n st → number ≤ MOST_INT → Meets line n (n + 1) more_most (exact (x +ℤ pos number)) st c (run_list g calls (more_code line left number n) st c)

abbrev pub LessMeets : Type 0
LessMeets = (g : Setting) (calls : Calls) (x : ℤ) (line left number n : ℕ) (st : State) (c : ℕ) → HasInt x left n st → number ≤ MOST_INT → Meets line n (n + 1) more_most (exact (x -ℤ pos number)) st c (run_list g calls (less_code line left number n) st c)

-- what a relation says of two ints is what its comparison says of their words
abbrev pub RelationsHold : Type 0
RelationsHold = (relation : Relation) (x y : ℤ) → is_int x ≡ true → is_int y ≡ true → compared relation x y ≡ compares (comparison_of relation) (word_of_int x) (word_of_int y)
