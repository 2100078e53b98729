-- What a step of a program does. From a state it leads to another and gives a value, or raises an exception, or runs out of
-- turns. What it adds to the trace and to the units stands beside that, so a program can only add to both.
use Rattle.std.specs.Prelude.{ℕ, ◌+◌, List, [], ◌++◌, Option, nat_lt, nat_le, if◌then◌else◌}
use Rattle.tu_base.specs.Files.{Files}
use Rattle.tu_base.specs.Trace.{Trace}
use Rattle.tu_base.specs.declared.kind.Kind.{Kind}
use Rattle.tu_base.specs.declared.kind.Kind.TheVariants.{Storage}

-- what is added to the trace and to the units
pub record Added : Type 0 where
  pub trace : Trace
  pub units : ℕ

abbrev pub nothing : Added
nothing = record { trace = []; units = 0 }

-- the one, and then the other
abbrev pub joined : Added → Added → Added
joined x y = record { trace = x.trace ++ y.trace; units = x.units + y.units }

-- how many turns have begun, and how many words of rooms are in use
pub record Counts : Type 0 where
  pub turns : ℕ
  pub rooms : ℕ

-- what can still come from outside: the input that was not read, and the files that can be opened, unless all are closed
pub record Outside : Type 0 where
  pub input : List ℕ
  pub files : Option Files

-- where a program stands; S is the type of what it stores
pub record State (S : Type 0) : Type 0 where
  pub store : S
  pub counts : Counts
  pub outside : Outside

-- a value, an exception with the line that raised it, or no turn is left; each with the state that it leaves
pub data Outcome (S A : Type 0) : Type 0 where
  Done : A → State S → Outcome S A
  Raised : Kind → (line : ℕ) → State S → Outcome S A
  Going : State S → Outcome S A

-- a step of a program that stores an S, and that gives an A where it is done
abbrev pub Step : Type 0 → Type 0 → Type 0
Step S A = State S → Added × Outcome S A

abbrev pub adding : {S A : Type 0} → Added → Added × Outcome S A → Added × Outcome S A
adding x r = (joined x r.0, r.1)

-- f goes on with the value, where there is one
abbrev pub after : {S A B : Type 0} → Added → Outcome S A → (A → Step S B) → Added × Outcome S B
after x (Done a s) f = adding x (f a s)
after x (Raised kind line s) f = (x, Raised kind line s)
after x (Going s) f = (x, Going s)

infixl 10 ◌>>=◌
-- the one step, and then the one that its value chooses
unfoldable pub ◌>>=◌ : {S A B : Type 0} → Step S A → (A → Step S B) → Step S B
m >>= f = λ s. after (m s).0 (m s).1 f

infixl 10 ◌>>◌
-- the one step, and then the other
abbrev pub ◌>>◌ : {S A B : Type 0} → Step S A → Step S B → Step S B
m >> n = m >>= (λ _. n)

-- does nothing and gives a value
unfoldable pub give : {S A : Type 0} → A → Step S A
give a = λ s. (nothing, Done a s)

-- raises an exception at a line
unfoldable pub raise : {S A : Type 0} → Kind → (line : ℕ) → Step S A
raise kind line = λ s. (nothing, Raised kind line s)

-- no turn is left
unfoldable pub stop : {S A : Type 0} → Step S A
stop = λ s. (nothing, Going s)

-- looks at the store
unfoldable pub look : {S A : Type 0} → (S → A) → Step S A
look f = λ s. (nothing, Done (f s.store) s)

-- changes the store
unfoldable pub change : {S : Type 0} → (S → S) → Step S (Unit {0})
change f = λ s. (nothing, Done tt (record s { store = f s.store }))

-- counts this many units
unfoldable pub pay : {S : Type 0} → ℕ → Step S (Unit {0})
pay units = λ s. (record { trace = []; units = units }, Done tt s)

-- these actions happen
unfoldable pub happen : {S : Type 0} → Trace → Step S (Unit {0})
happen actions = λ s. (record { trace = actions; units = 0 }, Done tt s)

abbrev pub turned : Counts → Counts
turned counts = record counts { turns = counts.turns + 1 }

-- begins a turn, which costs a unit, where fewer than t have begun
unfoldable pub turn : {S : Type 0} → (t : ℕ) → Step S (Unit {0})
turn t = λ s. if nat_lt s.counts.turns t then (record { trace = []; units = 1 }, Done tt (record s { counts = turned s.counts })) else (nothing, Going s)

-- the most words that rooms can take
abbrev pub most_rooms : ℕ
most_rooms = 8388608

-- takes a room, or raises Storage at a line
unfoldable pub take_room : {S : Type 0} → (room line : ℕ) → Step S (Unit {0})
take_room room line = λ s.
    let rooms = s.counts.rooms + room in
    if nat_le rooms most_rooms then (nothing, Done tt (record s { counts = record s.counts { rooms = rooms } })) else (nothing, Raised Storage line s)

abbrev pub closed : {S : Type 0} → (S → S → S) → State S → State S → State S
closed close opened s = record s { store = close opened.store s.store; counts = record s.counts { rooms = opened.counts.rooms } }

abbrev pub closing : {S A : Type 0} → (S → S → S) → State S → Outcome S A → Outcome S A
closing close opened (Done a s) = Done a (closed close opened s)
closing close opened (Raised kind line s) = Raised kind line (closed close opened s)
closing close opened (Going s) = Going s

-- A scope: the store is opened as it begins. As it is left by a value or an exception, the store is closed, which sees the store from
-- before the scope too, and the rooms are given back.
unfoldable pub scope : {S A : Type 0} → (S → S) → (S → S → S) → Step S A → Step S A
scope enter leave m = λ s. let r = m (record s { store = enter s.store }) in (r.0, closing leave s r.1)

abbrev pub taken : {S A : Type 0} → Added → Outcome S A → (Kind → ℕ → Step S A) → Added × Outcome S A
taken x (Done a s) handler = (x, Done a s)
taken x (Raised kind line s) handler = adding x (handler kind line s)
taken x (Going s) handler = (x, Going s)

-- a step whose exceptions go to a handler
unfoldable pub handled : {S A : Type 0} → Step S A → (Kind → ℕ → Step S A) → Step S A
handled m handler = λ s. taken (m s).0 (m s).1 handler
