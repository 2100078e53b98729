-- Worked rows: texts, and the fault that is told, or each used name with its declaration. Lexemes stand between blanks and line ends.
use Rattle.std.proofs.Common.{◌≡◌, ℕ, List, [], ◌∷◌, Option, Some, None, codes, refl}
use Rattle.std.specs.Prelude.{reverse, ◌==◌, ◌||◌, if◌then◌else◌}
use Rattle.tu_scope_rules.specs.declared.event.Context.TheVariants.{Elsewhere}
use Rattle.tu_scope_rules.specs.declared.event.Event.{Event}
use Rattle.tu_scope_rules.specs.declared.fault.FaultKind.{FaultKind}
use Rattle.tu_scope_rules.specs.declared.fault.FaultKind.TheVariants.{Unknown, NotImported, NotExported, Twice, BodyMissing, WrongEnd}
use Rattle.tu_scope_rules.specs.declared.name_use.NameUse.{NameUse}
use Rattle.tu_scope_rules.specs.Faults.{faults_of}
use Rattle.tu_scope_rules.specs.Least.{least}
use Rattle.tu_scope_rules.specs.Search.{predefined}
use Rattle.tu_scope_rules.specs.Uses.{uses_of}
use Rattle.tu_scope_rules.specs.Views.{view_of}
use Rattle.tu_scope_parts.specs.Walk.{events}
use Rattle.tu_token.specs.Words.{words}
use Rattle.tu_token.specs.Lexemes.{tokens_of}
use Rattle.tu_token.specs.ClassNumbers.{lexemes, places}
use Rattle.grammar.specs.Reading.{Outcome, found, read}
use Rattle.tu_token.specs.Table.{table}
use Rattle.grammar.specs.Placed.{marked}
use Rattle.tu_token.specs.declared.token.Token.{Token}
use Rattle.grammar.specs.Description.{rule, Derivation}
use Rattle.tu_token.specs.Rules.{r-program, body}

-- blanks and line ends, and what stands between two of them; what has been read of the next piece is given backwards
abbrev split : (piece : List ℕ) → List ℕ → List (List ℕ)
split piece [] = reverse piece ∷ []
split piece (b ∷ rest) = if (b == 32) || (b == 10) then reverse piece ∷ (b ∷ []) ∷ split [] rest else split (b ∷ piece) rest

-- what the program that was read does with names; a text that is no program is a row that fails
abbrev of_reading : List Token → Outcome (Derivation body (rule r-program)) → Option (List Event)
of_reading tokens (found x []) = Some (reverse (events Elsewhere (marked table x (record { places = places tokens; end = record { start = 0; line = 0 }; number = 0 })).0))
of_reading tokens other = None

unfoldable past : (source : List ℕ) → Option (List Event)
unfolding read
past source = let tokens = tokens_of 0 1 (split [] source) in of_reading tokens (read table (rule r-program) (lexemes tokens))

abbrev tells : Option (List Event) → FaultKind → (start line : ℕ) → Type 0
tells None kind start line = ⊥
tells (Some past) kind start line = least (faults_of past) ≡ Some (record { kind = kind; start = start; line = line })

abbrev is_refused : (source : List ℕ) → FaultKind → (start line : ℕ) → Type 0
is_refused source = tells (past source)

abbrev resolves : Option (List Event) → List NameUse → Type 0
resolves None uses = ⊥
resolves (Some past) uses = (faults_of past ≡ []) × (uses_of past ≡ uses)

abbrev is_scoped : (source : List ℕ) → List NameUse → Type 0
is_scoped source = resolves (past source)

-- the name that begins at the first is declared by the one that begins at the second
abbrev by : ℕ → ℕ → NameUse
by start number = record { start = start; declaration = Some number }

-- the name that begins here is predefined
abbrev free : ℕ → NameUse
free start = record { start = start; declaration = None }

own_start : is_refused (codes "var x : int := x") Unknown 15 1
unfolding words past predefined view_of faults_of
own_start = refl

unknown_type : is_refused (codes "var x : real") Unknown 8 1
unfolding words past predefined view_of faults_of
unknown_type = refl

from_its_end : is_refused (codes "var x : int := 1\nput y , x\nvar y : int") Unknown 21 2
unfolding words past predefined view_of faults_of
from_its_end = refl

after_its_block : is_refused (codes "begin\nvar x : int\nx := 1\nend\nx := 2") Unknown 29 5
unfolding words past predefined view_of faults_of
after_its_block = refl

twice : is_refused (codes "var x , x : int") Twice 8 1
unfolding words past predefined view_of faults_of
twice = refl

twice_in_block : is_refused (codes "var x : int\nbegin\nvar x : int\nconst x := 1\nend") Twice 36 4
unfolding words past predefined view_of faults_of
twice_in_block = refl

index_in_its_block : is_refused (codes "for i : 1 .. 2\nvar i : int\nend for") Twice 19 2
unfolding words past predefined view_of faults_of
index_in_its_block = refl

formal_in_body : is_refused (codes "procedure p ( x : int )\nvar x : int\nend p") Twice 28 2
unfolding words past predefined view_of faults_of
formal_in_body = refl

given_and_formal : is_refused (codes "procedure p ( x : int )\ninit x := 1\nend p") Twice 29 2
unfolding words past predefined view_of faults_of
given_and_formal = refl

fields : is_refused (codes "type t : record a : int b : int a : int end record") Twice 32 1
unfolding words past predefined view_of faults_of
fields = refl

tag_and_field : is_refused (codes "type t : union a : 1 .. 2 of label 1 : a : int end union") Twice 39 1
unfolding words past predefined view_of faults_of
tag_and_field = refl

values : is_refused (codes "type t : enum ( a , b , a )") Twice 24 1
unfolding words past predefined view_of faults_of
values = refl

field_is_no_name : is_refused (codes "type t : record a : int b : a end record") Unknown 28 1
unfolding words past predefined view_of faults_of
field_is_no_name = refl

wrong_end : is_refused (codes "procedure p\nend q") WrongEnd 16 2
unfolding words past predefined view_of faults_of
wrong_end = refl

wrong_end_of_module : is_refused (codes "module m\nend p") WrongEnd 13 2
unfolding words past predefined view_of faults_of
wrong_end_of_module = refl

listed_alone : is_refused (codes "var x , y : int\nprocedure p import ( x )\nx := y\nend p") NotImported 46 3
unfolding words past predefined view_of faults_of
listed_alone = refl

types_too : is_refused (codes "type t : 1 .. 2\nprocedure p import ( )\nvar x : t\nend p") NotImported 47 3
unfolding words past predefined view_of faults_of
types_too = refl

own_list : is_refused (codes "procedure p import ( p )\nend p") Unknown 21 1
unfolding words past predefined view_of faults_of
own_list = refl

module_sees_nothing : is_refused (codes "var x : int\nmodule m\nx := 1\nend m") NotImported 21 3
unfolding words past predefined view_of faults_of
module_sees_nothing = refl

list_in_module : is_refused (codes "var x : int\nmodule m\nprocedure p import ( x )\nx := 1\nend p\nend m") NotImported 42 3
unfolding words past predefined view_of faults_of
list_in_module = refl

module_in_itself : is_refused (codes "module m\nvar x : int\nm . x := 1\nend m") Unknown 21 3
unfolding words past predefined view_of faults_of
module_in_itself = refl

not_exported : is_refused (codes "module m\nvar x : int\nend m\nm . x := 1") NotExported 27 4
unfolding words past predefined view_of faults_of
not_exported = refl

not_declared : is_refused (codes "module m export ( x )\nvar x : int\nend m\nm . y := 1") Unknown 44 4
unfolding words past predefined view_of faults_of
not_declared = refl

exports_unknown : is_refused (codes "module m export ( y )\nvar x : int\nend m") Unknown 18 1
unfolding words past predefined view_of faults_of
exports_unknown = refl

exports_imported : is_refused (codes "var x : int\nmodule m import ( x ) export ( x )\nend m") Unknown 43 2
unfolding words past predefined view_of faults_of
exports_imported = refl

body_missing : is_refused (codes "forward procedure p\nprocedure q\nend q") BodyMissing 18 1
unfolding words past predefined view_of faults_of
body_missing = refl

body_of_other_kind : is_refused (codes "forward procedure p\nbody function p\nend p") BodyMissing 18 1
unfolding words past predefined view_of faults_of
body_of_other_kind = refl

no_forward : is_refused (codes "body procedure p\nend p") Unknown 15 1
unfolding words past predefined view_of faults_of
no_forward = refl

body_of_variable : is_refused (codes "var p : int\nbody procedure p\nend p") Twice 27 2
unfolding words past predefined view_of faults_of
body_of_variable = refl

second_body : is_refused (codes "forward procedure p\nbody procedure p\nend p\nbody procedure p\nend p") Twice 58 4
unfolding words past predefined view_of faults_of
second_body = refl

whole_after_forward : is_refused (codes "forward procedure p\nprocedure p\nend p") BodyMissing 18 1
unfolding words past predefined view_of faults_of
whole_after_forward = refl

body_repeats_no_formals : is_refused (codes "forward procedure p ( x : int )\nbody procedure p\nvar x : int\nend p") Twice 53 3
unfolding words past predefined view_of faults_of
body_repeats_no_formals = refl

list_of_forward : is_refused (codes "var x : int\nforward procedure p import ( )\nbody procedure p\nx := 1\nend p") NotImported 60 4
unfolding words past predefined view_of faults_of
list_of_forward = refl

result_in_post_alone : is_refused (codes "function f r : int\npost r > 0\nresult r\nend f") Unknown 37 3
unfolding words past predefined view_of faults_of
result_in_post_alone = refl

result_of_forward : is_refused (codes "forward function f r : int\nbody function f\npost r > 0\nresult r\nend f") Unknown 61 4
unfolding words past predefined view_of faults_of
result_of_forward = refl

result_is_no_collection : is_refused (codes "function f r : int\nvar x : pointer to r\nresult 1\nend f") Unknown 38 2
unfolding words past predefined view_of faults_of
result_is_no_collection = refl

collection_in_itself : is_refused (codes "var c : collection of record a : c end record") Unknown 33 1
unfolding words past predefined view_of faults_of
collection_in_itself = refl

head_sees_no_formals : is_refused (codes "procedure p ( n : int , a : array 1 .. n of int )\nend p") Unknown 39 1
unfolding words past predefined view_of faults_of
head_sees_no_formals = refl

bind_in_order : is_refused (codes "var a : int\nbegin\nbind x to y , y to a\nend") Unknown 28 3
unfolding words past predefined view_of faults_of
bind_in_order = refl

forward_twice : is_refused (codes "forward procedure p\nforward procedure p\nbody procedure p\nend p") Twice 38 2
unfolding words past predefined view_of faults_of
forward_twice = refl

module_and_variable : is_refused (codes "module m\nend m\nvar m : int") Twice 19 3
unfolding words past predefined view_of faults_of
module_and_variable = refl

module_behind_list : is_refused (codes "module m export ( x )\nvar x : int\nend m\nprocedure p import ( )\nm . x := 1\nend p") NotImported 63 5
unfolding words past predefined view_of faults_of
module_behind_list = refl

not_exported_behind_list : is_refused (codes "module m\nvar x : int\nend m\nprocedure p import ( m )\nm . x := 1\nend p") NotExported 52 5
unfolding words past predefined view_of faults_of
not_exported_behind_list = refl

else_has_its_own_scope : is_refused (codes "if true then\nvar x : int\nx := 1\nelse\nx := 2\nend if") Unknown 37 5
unfolding words past predefined view_of faults_of
else_has_its_own_scope = refl

body_in_module : is_refused (codes "module m\nforward procedure p\nend m\nprocedure p\nend p") BodyMissing 27 2
unfolding words past predefined view_of faults_of
body_in_module = refl

invariant_before_declaration : is_refused (codes "module m\ninvariant x > 0\nvar x : int\nend m") Unknown 19 2
unfolding words past predefined view_of faults_of
invariant_before_declaration = refl

type_of_result_in_head : is_refused (codes "type t : 1 .. 2\nmodule m\nfunction f : t\nresult 1\nend f\nend m") NotImported 38 3
unfolding words past predefined view_of faults_of
type_of_result_in_head = refl

least_of_all : is_refused (codes "forward procedure p\nvar x , x : int\nput y") BodyMissing 18 1
unfolding words past predefined view_of faults_of
least_of_all = refl

handler_alone_sees_its_name : is_refused (codes "procedure p\nhandler ( k )\nput k\nend handler\nput k\nend p") Unknown 48 5
unfolding words past predefined view_of faults_of
handler_alone_sees_its_name = refl

handler_sees_no_body : is_refused (codes "procedure p\nhandler ( k )\nput x\nend handler\nvar x : int\nend p") Unknown 30 3
unfolding words past predefined view_of faults_of
handler_sees_no_body = refl

handler_declares_again : is_refused (codes "procedure p\nhandler ( k )\nvar k : int\nend handler\nput 1\nend p") Twice 30 3
unfolding words past predefined view_of faults_of
handler_declares_again = refl

quit_uses_names : is_refused (codes "quit : x") Unknown 7 1
unfolding words past predefined view_of faults_of
quit_uses_names = refl

hides : is_scoped (codes "var x : int begin var x : int x := x end x := 1") (by 30 22 ∷ by 35 22 ∷ by 41 4 ∷ [])
unfolding words past predefined view_of faults_of uses_of
hides = (refl, refl)

hidden_in_its_own_start : is_scoped (codes "var x : int := 1 begin var x : int := x x := 1 end") (by 38 4 ∷ by 40 27 ∷ [])
unfolding words past predefined view_of faults_of uses_of
hidden_in_its_own_start = (refl, refl)

recursion : is_scoped (codes "function f ( n : int ) : int result f ( n - 1 ) end f") (by 36 9 ∷ by 40 13 ∷ [])
unfolding words past predefined view_of faults_of uses_of
recursion = (refl, refl)

predefined_names : is_scoped (codes "var x : int := abs ( 1 ) function abs ( n : int ) : int result n end abs x := abs ( 2 )") (free 15 ∷ by 63 40 ∷ by 73 4 ∷ by 78 34 ∷ [])
unfolding words past predefined view_of faults_of uses_of
predefined_names = (refl, refl)

import_is_of_its_place : is_scoped (codes "var x : int module m import ( x ) forward procedure p import ( x ) var x : int body procedure p x := 1 end p procedure q x := 2 end q end m") (by 30 4 ∷ by 63 4 ∷ by 94 52 ∷ by 96 4 ∷ by 121 71 ∷ [])
unfolding words past predefined view_of faults_of uses_of
import_is_of_its_place = (refl, refl)

body_sees_formals : is_scoped (codes "forward function f ( x : int ) r : int var x : int body function f post r > x result x end f x := f ( 1 )") (by 65 17 ∷ by 72 31 ∷ by 76 21 ∷ by 85 21 ∷ by 93 43 ∷ by 98 17 ∷ [])
unfolding words past predefined view_of faults_of uses_of
body_sees_formals = (refl, refl)

result_hides_formal : is_scoped (codes "function f ( r : int ) r : int pre r > 0 post r > 0 result r end f") (by 35 13 ∷ by 46 23 ∷ by 59 13 ∷ [])
unfolding words past predefined view_of faults_of uses_of
result_hides_formal = (refl, refl)

pointers : is_scoped (codes "var c : collection of record next : pointer to c end record var p : pointer to c new c , p c ( p ) . next := nil ( c )") (by 47 4 ∷ by 79 4 ∷ by 85 4 ∷ by 89 64 ∷ by 91 4 ∷ by 95 64 ∷ by 115 4 ∷ [])
unfolding words past predefined view_of faults_of uses_of
pointers = (refl, refl)

members_by_type : is_scoped (codes "type t : enum ( a , b ) var x : t := t . a var r : record f : int end record r . f := ord ( x )") (by 32 5 ∷ by 37 5 ∷ by 77 47 ∷ free 86 ∷ by 92 28 ∷ [])
unfolding words past predefined view_of faults_of uses_of
members_by_type = (refl, refl)

exported : is_scoped (codes "var x : int module m import ( var x ) type t : 0 .. 9 function make : t result 3 end make x := make end m procedure p import ( x ) put x end p") (by 34 4 ∷ by 70 43 ∷ by 90 4 ∷ by 95 63 ∷ by 127 4 ∷ by 135 4 ∷ [])
unfolding words past predefined view_of faults_of uses_of
exported = (refl, refl)

head_is_looked_up_around : is_scoped (codes "type t : 1 .. 2 procedure p ( a : t ) import ( ) put a end p p ( 1 )") (by 34 5 ∷ by 53 30 ∷ by 61 26 ∷ [])
unfolding words past predefined view_of faults_of uses_of
head_is_looked_up_around = (refl, refl)

given_sees_formal_not_itself : is_scoped (codes "var y : int procedure p ( x : int ) init y := x + y put y end p") (by 46 26 ∷ by 50 4 ∷ by 56 41 ∷ [])
unfolding words past predefined view_of faults_of uses_of
given_sees_formal_not_itself = (refl, refl)

givens_in_order : is_scoped (codes "procedure p ( x : int ) init y := x , z := y post z > 0 put z end p") (by 34 14 ∷ by 43 29 ∷ by 50 38 ∷ by 60 38 ∷ [])
unfolding words past predefined view_of faults_of uses_of
givens_in_order = (refl, refl)

for_index : is_scoped (codes "var i : int for i : 1 .. i invariant i > 0 put i end for put i") (by 25 4 ∷ by 37 16 ∷ by 47 16 ∷ by 61 4 ∷ [])
unfolding words past predefined view_of faults_of uses_of
for_index = (refl, refl)

binds : is_scoped (codes "var a : int begin bind var x to a , y to x y := 1 end") (by 32 4 ∷ by 41 27 ∷ by 43 36 ∷ [])
unfolding words past predefined view_of faults_of uses_of
binds = (refl, refl)

handlers : is_scoped (codes "procedure p ( y : int ) handler ( k ) put k , y quit end handler var k : int k := y end p") (by 42 34 ∷ by 46 14 ∷ by 77 69 ∷ by 82 14 ∷ [])
unfolding words past predefined view_of faults_of uses_of
handlers = (refl, refl)
