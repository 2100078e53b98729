-- Region code beside a step of the meaning: what they have in common, and what the code costs.
use Rattle.std.specs.Prelude.{◌≡◌, ℕ, ◌+◌, ◌*◌, ◌≤◌, ◌<◌, true, Bool, List, [], ◌∷◌, ◌++◌, map, Some, ℤ}
use Rattle.tu_base.specs.Kind.{kind_number}
use Rattle.tu_base.specs.Trace.{Trace}
use Rattle.rv_image.specs.Streams.{World, traced}
use Rattle.ir_form.specs.declared.plain.Width.TheVariants.{Word}
use Rattle.ir_form.specs.Cells.{loaded, is_open_word}
use Rattle.ir_form.specs.Place.{Setting}
use Rattle.ir_form.specs.State.{State as CodeState, Env, How, Next, Throws, Over, Going as code_going, Run}
use Rattle.tu_base.specs.Scalars.{is_int}
use Rattle.tu_tree_meaning.specs.Steps.{Added, Outcome, Done, Raised, Going, State}
use Rattle.tu_tree_meaning.specs.Store.{Store}
use Rattle.tu_tree_meaning.specs.Values.{Value, Unset, Int, Truth, Variable, int_in}
use Rattle.tu_value.specs.Words.{word_of, word_of_int}
use Rattle.tu_value.specs.Comparisons.{Comparison, compares}
use Rattle.tu_value.specs.Meets.{HasFixed}
use Rattle.tu_value.specs.declared.pieces.Fixed.{Fixed}

-- what a unit of the meaning costs at most
abbrev pub factor : ℕ
factor = 1000

-- what an exception may cost beside its units
abbrev pub exception_most : ℕ
exception_most = 200

-- a variable that is declared: the word of the globals where it lies, and the value of region code that has its address
pub record Named : Type 0 where
  pub name : Variable
  pub word : ℕ
  pub at : ℕ

abbrev pub variables_of : List Named → List Variable
variables_of names = map (λ (n : Named). n.name) names

-- Where code stands: its setting, the values that its routine begins with, the variables that are declared, a number above those of all these
-- values, the world at the start of the program, and the bounds on turns and other rounds.
pub record Site : Type 0 where
  pub setting : Setting
  pub fixed : Fixed
  pub names : List Named
  pub low : ℕ
  pub world : World
  pub turns : ℕ
  pub most : ℕ

-- the address of a word of the globals
abbrev pub word_at : Setting → ℕ → ℕ
word_at g word = g.place.globals_at + 4 * word

-- what a variable may hold
abbrev pub IsStored : Value → Type 0
IsStored Unset = Unit {0}
IsStored (Int z) = is_int z ≡ true
IsStored (Truth b) = ⊥

-- the word of what a variable holds
abbrev pub stored_word : Value → ℕ
stored_word v = word_of (int_in v)

-- a variable's address is there, and the word of its value lies at it
pub record Lies (x : Site) (s : Store) (st : CodeState) (n : Named) : Type 0 where
  pub below : n.at < x.low
  pub address : st.env n.at ≡ Some (word_at x.setting n.word)
  pub inside : n.word < x.setting.globals
  pub stored : loaded Word st.cells (word_at x.setting n.word) ≡ Some (stored_word (s.globals n.name))

abbrev pub AllLie : Site → Store → CodeState → List Named → Type 0
AllLie x s st [] = Unit {0}
AllLie x s st (n ∷ names) = Lies x s st n × AllLie x s st names

-- The meaning's state and the code's state at a cost belong together, where at most so many turns are left.
pub record Holds (x : Site) (left : ℕ) (s : State Store) (st : CodeState) (c : ℕ) : Type 0 where
  pub fixed : HasFixed x.fixed x.low st
  pub variables : AllLie x s.store st x.names
  pub values : (y : Variable) → IsStored (s.store.globals y)
  pub writable : (word : ℕ) → word < x.setting.globals → is_open_word st.cells (word_at x.setting word) ≡ true
  pub turns : s.counts.turns + st.turns ≡ x.turns
  pub few : st.turns ≤ left
  -- each other round that was used is paid
  pub others : x.most ≤ st.others + c
  pub rooms : st.rooms + st.deeper ≤ 8388608

-- what is to hold where a step is done, of how the code then ends and of both states
abbrev pub Post : Type 0 → Type 1
Post A = A → State Store → How → CodeState → ℕ → Type 0

-- the code ends as the step does
abbrev pub Ends : {A : Type 0} → Post A → Outcome Store A → How → CodeState → ℕ → Type 0
Ends P (Done a s) how st c = P a s how st c
Ends P (Raised kind line s) how st c = how ≡ Throws (kind_number kind) line
Ends P (Going s) how st c = how ≡ Over code_going

-- an exception, which ends the program, may cost some more
abbrev pub spare : {A : Type 0} → Outcome Store A → ℕ
spare (Done a s) = 0
spare (Raised kind line s) = exception_most
spare (Going s) = 0

-- the code did what the step adds, at a cost of at most so much and the factor for each unit
pub record Met {A : Type 0} (x : Site) (P : Post A) (trace : Trace) (b : ℕ) (added : Added) (o : Outcome Store A) (f : Run) : Type 0 where
  pub world : f.state.world ≡ traced x.world (trace ++ added.trace)
  pub cost : f.cost ≤ b + factor * added.units + spare o
  pub ends : Ends P o f.how f.state f.cost

-- where there are enough of other rounds for that cost
pub record Keeps {A : Type 0} (x : Site) (P : Post A) (trace : Trace) (b : ℕ) (r : Added × Outcome Store A) (f : Run) : Type 0 where
  pub met : b + factor * r.0.units ≤ x.most → Met x P trace b r.0 r.1 f

-- the code goes on, its value at is the word of an int, and the values below base are as before
pub record Gives (x : Site) (left at base : ℕ) (env : Env) (v : Value) (s : State Store) (how : How) (st : CodeState) (c : ℕ) : Type 0 where
  pub goes : how ≡ Next
  pub holds : Holds x left s st c
  pub int : ℤ
  pub is : v ≡ Int int
  pub small : is_int int ≡ true
  pub result : st.env at ≡ Some (word_of_int int)
  pub kept : (j : ℕ) → j < base → st.env j ≡ env j

-- the code goes on, its two values compare as the truth value says, and the values below base are as before
pub record Tells (x : Site) (left : ℕ) (comparison : Comparison) (first second base : ℕ) (env : Env) (b : Bool) (s : State Store) (how : How) (st : CodeState) (c : ℕ) : Type 0 where
  pub goes : how ≡ Next
  pub holds : Holds x left s st c
  pub word : ℕ
  pub other : ℕ
  pub first_is : st.env first ≡ Some word
  pub second_is : st.env second ≡ Some other
  pub says : compares comparison word other ≡ b
  pub kept : (j : ℕ) → j < base → st.env j ≡ env j
