-- Worked rows: small texts as lists of what they do with names.
use Rattle.std.proofs.Common.{◌≡◌, ℕ, List, [], ◌∷◌, Some, None, refl}
use Rattle.std.specs.Prelude.{reverse, codes}
use Rattle.tu_scope_rules.specs.Names.{NameAt}
use Rattle.tu_scope_rules.specs.declared.event.Visibility.TheVariants.{All, Listed}
use Rattle.tu_scope_rules.specs.declared.event.Context.TheVariants.{Elsewhere, AfterPointer, InPost}
use Rattle.tu_scope_rules.specs.declared.event.BodyKind.TheVariants.{Procedure, Function}
use Rattle.tu_scope_rules.specs.declared.event.Entity.TheVariants.{Plain, Module, Subprogram}
use Rattle.tu_scope_rules.specs.declared.event.Declaration.{Declaration}
use Rattle.tu_scope_rules.specs.declared.event.Event.{Event}
use Rattle.tu_scope_rules.specs.declared.event.Event.TheVariants.{Open, Close, Declare, Member, Own, Early, Outcome, Import, Export, Use, Select, Forward, Body, Await, End}
use Rattle.tu_scope_rules.specs.declared.fault.FaultKind.{FaultKind}
use Rattle.tu_scope_rules.specs.declared.fault.FaultKind.TheVariants.{Unknown, NotImported, NotExported, Twice, BodyMissing, WrongEnd}
use Rattle.tu_scope_rules.specs.declared.fault.Fault.{Fault}
use Rattle.tu_scope_rules.specs.declared.name_use.NameUse.{NameUse}
use Rattle.tu_scope_rules.specs.Search.{predefined}
use Rattle.tu_scope_rules.specs.Least.{least}
use Rattle.tu_scope_rules.specs.Faults.{faults_of}
use Rattle.tu_scope_rules.specs.Uses.{uses_of}
use Rattle.tu_scope_rules.specs.Views.{view_of}

-- the name that begins here, on line 1
abbrev n : List ℕ → ℕ → NameAt
n text start = record { text = text; start = start; line = 1 }

abbrev plain : ℕ → Declaration
plain number = record { number = number; entity = Plain }

abbrev fault : FaultKind → ℕ → Fault
fault kind start = record { kind = kind; start = start; line = 1 }

-- the name that begins at the first is declared by the second
abbrev by : ℕ → ℕ → NameUse
by start number = record { start = start; declaration = Some number }

abbrev free : ℕ → NameUse
free start = record { start = start; declaration = None }

abbrev faults : List Event → List Fault
faults events = reverse (faults_of (reverse events))

abbrev uses : List Event → List NameUse
uses events = uses_of (reverse events)

abbrev x : List ℕ
x = codes "x"

abbrev y : List ℕ
y = codes "y"

abbrev p : List ℕ
p = codes "p"

abbrev m : List ℕ
m = codes "m"

-- `var x : int := x`
own_start : faults (Use (n x 15) Elsewhere ∷ Declare (n x 4) (plain 1) ∷ []) ≡ fault Unknown 15 ∷ []
unfolding view_of faults_of predefined
own_start = refl

-- `var x : int  begin var x : int  x := 1 end  x := 1`: the inner one hides the outer one, to its block's end
abbrev hiding : List Event
hiding = Declare (n x 4) (plain 1) ∷ Open 2 All ∷ Declare (n x 20) (plain 3) ∷ Use (n x 30) Elsewhere ∷ Close ∷ Use (n x 50) Elsewhere ∷ []

hidden : uses hiding ≡ by 30 3 ∷ by 50 1 ∷ []
unfolding view_of uses_of predefined
hidden = refl

hidden_right : faults hiding ≡ []
unfolding view_of faults_of predefined
hidden_right = refl

-- `var x, x : int`
twice : faults (Declare (n x 4) (plain 1) ∷ Declare (n x 7) (plain 2) ∷ []) ≡ fault Twice 7 ∷ []
unfolding view_of faults_of predefined
twice = refl

-- `procedure p (x : int) var x : int  p (abs (x)) end p`: formals count as declared in the body's block, and the own name is visible
abbrev formal : List Event
formal = Declare (n p 10) (record { number = 1; entity = Subprogram 1 All }) ∷ Open 1 All ∷ Own (n p 10) (record { number = 1; entity = Subprogram 1 All }) ∷ Declare (n x 13) (plain 2)
    ∷ Declare (n x 26) (plain 3) ∷ Use (n p 35) Elsewhere ∷ Use (n (codes "abs") 38) Elsewhere ∷ Close ∷ End (n p 60) (n p 10) ∷ []

formal_twice : faults formal ≡ fault Twice 26 ∷ []
unfolding view_of faults_of predefined
formal_twice = refl

formal_uses : uses formal ≡ by 35 1 ∷ free 38 ∷ []
unfolding view_of uses_of predefined
formal_uses = refl

-- `var x, y : int  procedure p import (x) x := y  p end p`: y is not imported, p is its own name
abbrev listing : List Event
listing = Declare (n x 4) (plain 1) ∷ Declare (n y 7) (plain 2) ∷ Import (n x 40) 3 ∷ Declare (n p 20) (record { number = 3; entity = Subprogram 3 Listed }) ∷ Open 3 Listed
    ∷ Own (n p 20) (record { number = 3; entity = Subprogram 3 Listed }) ∷ Use (n x 50) Elsewhere ∷ Use (n y 55) Elsewhere ∷ Use (n p 60) Elsewhere ∷ Close ∷ End (n p 70) (n p 20) ∷ []

listing_faults : faults listing ≡ fault NotImported 55 ∷ []
unfolding view_of faults_of predefined
listing_faults = refl

listing_uses : uses listing ≡ by 40 1 ∷ by 50 1 ∷ by 60 3 ∷ []
unfolding view_of uses_of predefined
listing_uses = refl

-- `procedure p import (p) end q`
own_list : faults (Import (n p 20) 1 ∷ Declare (n p 10) (plain 1) ∷ Open 1 Listed ∷ Own (n p 10) (plain 1) ∷ Close ∷ End (n (codes "q") 30) (n p 10) ∷ []) ≡ fault Unknown 20 ∷ fault WrongEnd 30 ∷ []
unfolding view_of faults_of predefined
own_list = refl

-- `var x : int  module m export (y) var y : int  y := x  m end m  m.y := 1  m.x := 1`
abbrev unit : List Event
unit = Declare (n x 4) (plain 1) ∷ Open 2 Listed ∷ Declare (n y 40) (plain 3) ∷ Use (n y 50) Elsewhere ∷ Use (n x 55) Elsewhere ∷ Use (n m 60) Elsewhere ∷ Export (n y 30) ∷ Close
    ∷ End (n m 70) (n m 20) ∷ Declare (n m 20) (record { number = 2; entity = Module 2 }) ∷ Select (n m 80) (n y 82) Elsewhere ∷ Select (n m 90) (n x 92) Elsewhere ∷ []

unit_faults : faults unit ≡ fault NotImported 55 ∷ fault Unknown 60 ∷ fault Unknown 92 ∷ []
unfolding view_of faults_of predefined
unit_faults = refl

unit_uses : uses unit ≡ by 50 3 ∷ by 30 3 ∷ by 80 2 ∷ by 82 3 ∷ by 90 2 ∷ []
unfolding view_of uses_of predefined
unit_uses = refl

-- `module m export (x) var y : int end m  m.y := 1`: x is not declared there, y is not exported
kept : faults (Open 2 Listed ∷ Declare (n y 40) (plain 3) ∷ Export (n x 30) ∷ Close ∷ Declare (n m 20) (record { number = 2; entity = Module 2 }) ∷ Select (n m 80) (n y 82) Elsewhere ∷ []) ≡ fault Unknown 30 ∷ fault NotExported 80 ∷ []
unfolding view_of faults_of predefined
kept = refl

-- `r.x` of a record: a field is found by its type
field : faults (Open 1 All ∷ Member (n x 10) (plain 2) ∷ Use (n x 15) Elsewhere ∷ Member (n x 20) (plain 3) ∷ Close ∷ Declare (n y 4) (plain 1) ∷ Select (n y 30) (n x 32) Elsewhere ∷ []) ≡ fault Unknown 15 ∷ fault Twice 20 ∷ []
unfolding view_of faults_of predefined
field = refl

-- `forward procedure p (x : int)  p (1)  body procedure p x := 1 end p`: the body sees the formal
abbrev ahead : Declaration
ahead = record { number = 1; entity = Subprogram 1 All }

abbrev forwarded : List Event
forwarded = Declare (n p 18) ahead ∷ Forward (n p 18) Procedure ahead ∷ Open 1 All ∷ Own (n p 18) ahead ∷ Declare (n x 21) (plain 2) ∷ Close ∷ Use (n p 30) Elsewhere
    ∷ Declare (n x 40) (plain 3) ∷ Body (n p 60) Procedure 4 ∷ Use (n x 65) Elsewhere ∷ Close ∷ Use (n x 80) Elsewhere ∷ Await (n p 18) Procedure ∷ []

forwarded_right : faults forwarded ≡ []
unfolding view_of faults_of predefined
forwarded_right = refl

forwarded_uses : uses forwarded ≡ by 30 1 ∷ by 60 1 ∷ by 65 2 ∷ by 80 3 ∷ []
unfolding view_of uses_of predefined
forwarded_uses = refl

-- `forward procedure p  body function p .. end p`: the procedure has no body, which is told, though it is known last
abbrev crossed : List Event
crossed = Declare (n p 18) ahead ∷ Forward (n p 18) Procedure ahead ∷ Body (n p 60) Function 4 ∷ Close ∷ Await (n p 18) Procedure ∷ []

crossed_faults : faults crossed ≡ fault Twice 60 ∷ fault BodyMissing 18 ∷ []
unfolding view_of faults_of predefined
crossed_faults = refl

crossed_least : least (faults_of (reverse crossed)) ≡ Some (fault BodyMissing 18)
unfolding view_of faults_of predefined
crossed_least = refl

-- a second body, and a body of nothing
bodies : faults (Declare (n p 18) ahead ∷ Forward (n p 18) Procedure ahead ∷ Body (n p 60) Procedure 4 ∷ Close ∷ Body (n p 70) Procedure 5 ∷ Close ∷ Body (n x 80) Procedure 6 ∷ Close ∷ Await (n p 18) Procedure ∷ [])
    ≡ fault Twice 70 ∷ fault Unknown 80 ∷ []
unfolding view_of faults_of predefined
bodies = refl

-- `var x : collection of record y : pointer to x  y : x end record`
collection : faults (Open 1 All ∷ Early (n x 4) (plain 1) ∷ Open 2 All ∷ Use (n x 40) AfterPointer ∷ Member (n y 30) (plain 3) ∷ Use (n x 60) Elsewhere ∷ Member (n y 50) (plain 4) ∷ Close ∷ Close ∷ Declare (n x 4) (plain 1) ∷ [])
    ≡ fault Unknown 60 ∷ fault Twice 50 ∷ []
unfolding view_of faults_of predefined
collection = refl

-- `var x : int  module m import (x) x := 1  var x : int  x := 1 end m`: a declaration hides what is imported
again : uses (Declare (n x 4) (plain 1) ∷ Import (n x 30) 2 ∷ Open 2 Listed ∷ Use (n x 40) Elsewhere ∷ Declare (n x 50) (plain 3) ∷ Use (n x 60) Elsewhere ∷ Close ∷ []) ≡ by 30 1 ∷ by 40 1 ∷ by 60 3 ∷ []
unfolding view_of uses_of predefined
again = refl

-- `procedure abs .. end abs`: a predefined name may be hidden, and is seen again where it is not imported
abs : uses (Declare (n (codes "abs") 10) (plain 1) ∷ Use (n (codes "abs") 30) Elsewhere ∷ Open 2 Listed ∷ Use (n (codes "abs") 40) Elsewhere ∷ Close ∷ []) ≡ by 30 1 ∷ free 40 ∷ []
unfolding view_of uses_of predefined
abs = refl

-- `function p (x : int) x : int post x > 0  put x end p`: the result's name is seen in `post` alone, where it hides the formal
abbrev result_name : List Event
result_name = Declare (n p 9) (plain 9) ∷ Open 1 All ∷ Outcome (n x 21) (plain 21) ∷ Declare (n x 12) (plain 12) ∷ Use (n x 35) InPost ∷ Use (n x 45) Elsewhere ∷ Close ∷ []

result_faults : faults result_name ≡ []
unfolding view_of faults_of predefined
result_faults = refl

result_uses : uses result_name ≡ by 35 21 ∷ by 45 12 ∷ []
unfolding view_of uses_of predefined
result_uses = refl
