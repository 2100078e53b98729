-- Brackets and constructs that are open.
use Rattle.std.specs.Prelude.{ℕ, Bool, true, false, List, [], ◌∷◌, length, if◌then◌else◌}
use Rattle.tu_token.specs.declared.class.Class.{Class}
use Rattle.tu_token.specs.declared.class.Class.TheVariants.{SignLeftBracket, SignRightBracket, WordIf, WordLoop, WordFor, WordCase, WordRecord, WordUnion, WordBegin, WordModule, WordProcedure, WordFunction, WordHandler, WordEnd, WordForward}
use Rattle.tu_token.specs.declared.nest.Construct.{Construct}
use Rattle.tu_token.specs.declared.nest.Construct.TheVariants.{Bracket, If, Loop, For, Case, Record, Union, Begin, Module, Handler, Subprogram}
use Rattle.tu_token.specs.declared.nest.Role.{Role}
use Rattle.tu_token.specs.declared.nest.Role.TheVariants.{Opens, Closes, Ends, Forwards, Plain}
use Rattle.tu_token.specs.declared.nest.Before.{Before}
use Rattle.tu_token.specs.declared.nest.Before.TheVariants.{Forward, End, Other}

abbrev pub role_of : Class → Role
role_of SignLeftBracket = Opens Bracket
role_of WordIf = Opens If
role_of WordLoop = Opens Loop
role_of WordFor = Opens For
role_of WordCase = Opens Case
role_of WordRecord = Opens Record
role_of WordUnion = Opens Union
role_of WordBegin = Opens Begin
role_of WordModule = Opens Module
role_of WordHandler = Opens Handler
role_of WordProcedure = Opens Subprogram
role_of WordFunction = Opens Subprogram
role_of SignRightBracket = Closes
role_of WordEnd = Ends
role_of WordForward = Forwards
role_of class = Plain

-- what is open, the innermost first, and the token before
pub record Nest : Type 0 where
  pub stack : List Construct
  pub before : Before

abbrev pub no_nest : Nest
no_nest = record { stack = []; before = Other }

abbrev pub depth : Nest → ℕ
depth nest = length nest.stack

-- A word opens its construct, but not one that repeats the word that its `end` has ended, and not that of a subprogram behind `forward`.
abbrev pub is_opened : Before → Construct → Bool
is_opened Forward Subprogram = false
is_opened (End If) If = false
is_opened (End Loop) Loop = false
is_opened (End For) For = false
is_opened (End Case) Case = false
is_opened (End Record) Record = false
is_opened (End Union) Union = false
is_opened (End Handler) Handler = false
is_opened before construct = true

abbrev pub opened : Nest → Construct → Nest
opened nest construct = record { stack = if is_opened nest.before construct then construct ∷ nest.stack else nest.stack; before = Other }

-- `)` closes the innermost, where that is a bracket
abbrev pub closed : List Construct → List Construct
closed [] = []
closed (Bracket ∷ stack) = stack
closed (construct ∷ stack) = construct ∷ stack

-- `end` ends the innermost, where that is no bracket
abbrev pub ended : List Construct → Nest
ended [] = no_nest
ended (Bracket ∷ stack) = record { stack = Bracket ∷ stack; before = Other }
ended (construct ∷ stack) = record { stack = stack; before = End construct }

abbrev pub nest_by : Nest → Role → Nest
nest_by nest (Opens construct) = opened nest construct
nest_by nest Closes = record { stack = closed nest.stack; before = Other }
nest_by nest Ends = ended nest.stack
nest_by nest Forwards = record { stack = nest.stack; before = Forward }
nest_by nest Plain = record { stack = nest.stack; before = Other }

-- what is open behind a token of this class
abbrev pub nest_after : Nest → Class → Nest
nest_after nest class = nest_by nest (role_of class)
