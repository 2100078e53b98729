-- What operations come to that work out an answer of the meaning.
use Rattle.std.specs.Prelude.{◌≡◌, ℕ, ◌+◌, ◌<◌, ◌≤◌, Option, Some, None, true, ℤ}
use Rattle.tu_base.specs.declared.kind.Kind.{Kind}
use Rattle.tu_base.specs.declared.kind.Kind.TheVariants.{Unset}
use Rattle.tu_base.specs.Kind.{kind_number}
use Rattle.tu_base.specs.Scalars.{Answer, Gives, Raises, is_int}
use Rattle.ir_form.specs.Cells.{Cells, is_open_word, loaded, with_word}
use Rattle.ir_form.specs.State.{State, Next, Throws, Run}
use Rattle.ir_form.specs.declared.plain.Width.TheVariants.{Word}
use Rattle.tu_value.specs.Words.{word_of_int}
use Rattle.tu_value.specs.declared.pieces.Fixed.{Fixed}

-- the values from n on may have changed, and nothing else
pub record OnlyFrom (n : ℕ) (st su : State) : Type 0 where
  pub same : su ≡ record st { env = su.env }
  pub kept : (j : ℕ) → j < n → su.env j ≡ st.env j

-- a run that begins at one cost and costs at most so much
pub record Costs (most c : ℕ) (r : Run) : Type 0 where
  pub begun : c ≤ r.cost
  pub bound : r.cost ≤ c + most

-- the value at is the word of an int
pub record GivesInt (n at most : ℕ) (z : ℤ) (st : State) (c : ℕ) (r : Run) : Type 0 where
  pub how : r.how ≡ Next
  pub only : OnlyFrom n st r.state
  pub result : r.state.env at ≡ Some (word_of_int z)
  pub small : is_int z ≡ true
  pub costs : Costs most c r

pub record RaisesAt (line n most : ℕ) (kind : Kind) (st : State) (c : ℕ) (r : Run) : Type 0 where
  pub how : r.how ≡ Throws (kind_number kind) line
  pub only : OnlyFrom n st r.state
  pub costs : Costs most c r

-- A run that begins in a state at a cost gives the int, or raises the exception at a line. What the answer costs beside its node is paid by
-- whoever pays the node.
abbrev pub Meets : (line n at most : ℕ) → Answer ℤ → State → ℕ → Run → Type 0
Meets line n at most (Gives z units) st c r = GivesInt n at most z st c r
Meets line n at most (Raises kind units) st c r = RaisesAt line n most kind st c r

-- the two values that each routine begins with
pub record HasFixed (k : Fixed) (n : ℕ) (st : State) : Type 0 where
  pub zero_below : k.zero < n
  pub zero_is : st.env k.zero ≡ Some 0
  pub top_below : k.top < n
  pub top_is : st.env k.top ≡ Some 2147483648

-- a value below n is the word of an int in its range
pub record HasInt (z : ℤ) (value n : ℕ) (st : State) : Type 0 where
  pub small : is_int z ≡ true
  pub below : value < n
  pub is : st.env value ≡ Some (word_of_int z)

-- what is fetched is to be set
abbrev pub fetched : Option ℤ → Answer ℤ
fetched None = Raises Unset 0
fetched (Some z) = Gives z 0

-- the run stores a word at an address, and does nothing else
pub record StoresWord (a w : ℕ) (st : State) (c : ℕ) (r : Run) : Type 0 where
  pub how : r.how ≡ Next
  pub state : r.state ≡ record st { cells = with_word st.cells a w }
  pub costs : Costs 7 c r

-- The word at an address is a new one. No other word has changed, and it can be stored just where it could be before.
pub record HoldsWord (a w : ℕ) (old new : Cells) : Type 0 where
  pub here : loaded Word new a ≡ Some w
  pub before : (b : ℕ) → b + 4 ≤ a → loaded Word new b ≡ loaded Word old b
  pub behind : (b : ℕ) → a + 4 ≤ b → loaded Word new b ≡ loaded Word old b
  pub open_words : (b : ℕ) → is_open_word new b ≡ is_open_word old b
