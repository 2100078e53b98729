-- The locals that a text changes, in the order of the text, each as often as it is changed.
use Rattle.std.specs.Prelude.{ℕ, ◌+◌, ◌==◌, Bool, true, false, List, [], ◌∷◌, ◌++◌}
use Rattle.tu_core.specs.declared.names.Variable.{Variable}
use Rattle.tu_core.specs.declared.names.Variable.TheVariants.{Global, Local}
use Rattle.tu_core.specs.Core.{Path, Name, OpenItem, Element, ResultOf, Actuals, NoActual, Given, Lent, Taken, NoneTaken, TakeInt, TakeTruth, TakeToken, TakeLine, TakeCount, Plain, Assign, Copy, Exit, Return, Give, GiveCopy, Check, New, Free, Tag, Put, Get, OpenStream, Close, Do, Quit}
use Rattle.tu_core.specs.Rooms.{one_if}
use Rattle.tu_core.specs.Measures.{Measure, nothing}

abbrev pub local_of : Variable → List ℕ
local_of (Global x) = []
local_of (Local x) = x ∷ []

-- the local that a place has as its root
abbrev pub root_of : Path → List ℕ
root_of (Name at x steps) = local_of x
root_of (OpenItem at x indexes es steps) = local_of x
root_of (Element at c e steps) = []
root_of (ResultOf at k call steps) = []

abbrev pub var_root_of : (is_var : Bool) → Path → List ℕ
var_root_of true p = root_of p
var_root_of false p = []

abbrev pub actual_changes : Actuals → List ℕ
actual_changes NoActual = []
actual_changes (Given at size e more) = []
actual_changes (Lent at is_var bounds p more) = var_root_of is_var p

abbrev pub taken_changes : Taken → List ℕ
taken_changes NoneTaken = []
taken_changes (TakeInt s p more) = root_of p
taken_changes (TakeTruth p more) = root_of p
taken_changes (TakeToken size p more) = root_of p
taken_changes (TakeLine size p more) = root_of p
taken_changes (TakeCount size p e more) = root_of p

abbrev pub plain_changes : Plain → List ℕ
plain_changes (Assign target p e) = root_of p
plain_changes (Copy shape to from) = root_of to
plain_changes (Exit condition) = []
plain_changes Return = []
plain_changes (Give target e) = []
plain_changes (GiveCopy shape p) = []
plain_changes (Check claim e) = []
plain_changes (New c at p) = root_of p
plain_changes (Free c at p) = root_of p
plain_changes (Tag shape p e) = root_of p
plain_changes (Put stream shown ends_line) = []
plain_changes (Get stream taken) = []
plain_changes (OpenStream s p e is_put) = root_of p
plain_changes (Close e) = []
plain_changes (Do call) = []
plain_changes (Quit number) = []

abbrev pub changed : Measure (List ℕ)
changed = record (nothing [] (λ xs ys. xs ++ ys)) { actual = actual_changes; taken = taken_changes; plain = plain_changes; binding = λ at is_var p. var_root_of is_var p }

-- how often a number stands in a list
abbrev pub times : ℕ → List ℕ → ℕ
times x [] = 0
times x (y ∷ ys) = one_if (x == y) + times x ys
