-- Rows of statements, subprograms and modules.
use Rattle.std.proofs.Common.{◌≡◌, codes, true, refl}
use Rattle.tu_type_base.specs.declared.fault.FaultKind.TheVariants.{Misplaced, Mismatch, NotConstant, OutOfRange, NotVariable, TooLarge}
use Rattle.tu_type_rules.specs.Functions.{functions}
use Rattle.tu_scope_rules.specs.Search.{predefined}
use Rattle.tu_scope_rules.specs.Views.{view_of}
use Rattle.tu_scope_rules.specs.Uses.{uses_of}
use Rattle.tu_token.specs.Words.{words}
use Rattle.tu_types.proofs.Reading.{checked, accepts, refuses}

statements : accepts (codes "var x : int := 1 if x = 1 then x := 2 elsif x = 2 then x := 3 else x := 4 end if loop invariant x > 0 exit when x > 5 x := x + 1 end loop for decreasing i : 1 .. x invariant i > 0 put i end for begin var x : boolean x := true end assert x > 0") ≡ true
unfolding words checked predefined view_of uses_of functions
statements = refl

if_number : refuses (codes "var x : int if 1 then x := true end if") Mismatch 15 ≡ true
unfolding words checked predefined view_of uses_of functions
if_number = refl

block_in_if : refuses (codes "var x : int if true then x := true end if") Mismatch 30 ≡ true
unfolding words checked predefined view_of uses_of functions
block_in_if = refl

elsif_number : refuses (codes "if true then elsif 1 then end if") Mismatch 19 ≡ true
unfolding words checked predefined view_of uses_of functions
elsif_number = refl

exit_outside : refuses (codes "exit") Misplaced 0 ≡ true
unfolding words checked predefined view_of uses_of functions
exit_outside = refl

exit_in_subprogram : refuses (codes "loop exit end loop procedure p exit end p") Misplaced 31 ≡ true
unfolding words checked predefined view_of uses_of functions
exit_in_subprogram = refl

exit_faulty : refuses (codes "exit when 1 + true") Mismatch 14 ≡ true
unfolding words checked predefined view_of uses_of functions
exit_faulty = refl

return_outside : refuses (codes "return") Misplaced 0 ≡ true
unfolding words checked predefined view_of uses_of functions
return_outside = refl

return_in_function : refuses (codes "function f : int return end f") Misplaced 17 ≡ true
unfolding words checked predefined view_of uses_of functions
return_in_function = refl

result_outside : refuses (codes "result 1") Misplaced 0 ≡ true
unfolding words checked predefined view_of uses_of functions
result_outside = refl

result_in_procedure : refuses (codes "procedure p result 1 end p") Misplaced 12 ≡ true
unfolding words checked predefined view_of uses_of functions
result_in_procedure = refl

result_type : refuses (codes "function f : int result true end f") Mismatch 24 ≡ true
unfolding words checked predefined view_of uses_of functions
result_type = refl

quit_outside : refuses (codes "quit") Misplaced 0 ≡ true
unfolding words checked predefined view_of uses_of functions
quit_outside = refl

quit_in_handler : accepts (codes "procedure p handler ( k ) put k quit end handler quit : 3 end p") ≡ true
unfolding words checked predefined view_of uses_of functions
quit_in_handler = refl

quit_number : refuses (codes "quit : true") Mismatch 7 ≡ true
unfolding words checked predefined view_of uses_of functions
quit_number = refl

collection_in_block : refuses (codes "begin var C : collection of int end") Misplaced 6 ≡ true
unfolding words checked predefined view_of uses_of functions
collection_in_block = refl

collection_in_subprogram : refuses (codes "procedure p var C : collection of int end p") Misplaced 12 ≡ true
unfolding words checked predefined view_of uses_of functions
collection_in_subprogram = refl

cases : accepts (codes "type T : enum ( a , b ) var d : T := T . b case d of label T . a : put 1 label : put ord ( d ) end case case 1 + 1 of label 1 , 2 : put 1 end case") ≡ true
unfolding words checked predefined view_of uses_of functions
cases = refl

case_of_string : refuses (codes "case \"a\" of label 1 : put 1 end case") Mismatch 5 ≡ true
unfolding words checked predefined view_of uses_of functions
case_of_string = refl

case_label_type : refuses (codes "case 1 of label true : put 1 end case") Mismatch 16 ≡ true
unfolding words checked predefined view_of uses_of functions
case_label_type = refl

case_label_outside : refuses (codes "var x : 1 .. 3 := 1 case x of label 1 : put 1 label 4 : put 2 end case") OutOfRange 52 ≡ true
unfolding words checked predefined view_of uses_of functions
case_label_outside = refl

case_label_variable : refuses (codes "var x : int case 1 of label x : put 1 end case") NotConstant 28 ≡ true
unfolding words checked predefined view_of uses_of functions
case_label_variable = refl

for_over_type : accepts (codes "type T : 1 .. 3 for i : T var x : int := i bind y to i put y end for type E : enum ( a , b ) for decreasing e : E put ord ( e ) end for") ≡ true
unfolding words checked predefined view_of uses_of functions
for_over_type = refl

for_over_int : refuses (codes "type I : int for i : I end for") Mismatch 21 ≡ true
unfolding words checked predefined view_of uses_of functions
for_over_int = refl

for_bounds : refuses (codes "for i : 1 .. true end for") Mismatch 13 ≡ true
unfolding words checked predefined view_of uses_of functions
for_bounds = refl

for_truths : refuses (codes "for i : false .. true end for") Mismatch 8 ≡ true
unfolding words checked predefined view_of uses_of functions
for_truths = refl

for_run_time : accepts (codes "var n : int := 3 for i : n .. n - 5 put i end for") ≡ true
unfolding words checked predefined view_of uses_of functions
for_run_time = refl

shown : accepts (codes "var f : int put : f , 1 : 2 , true , \"a\" : 3 ..") ≡ true
unfolding words checked predefined view_of uses_of functions
shown = refl

shown_set : refuses (codes "type S : set of 1 .. 2 put S ( 1 )") Mismatch 27 ≡ true
unfolding words checked predefined view_of uses_of functions
shown_set = refl

shown_width : refuses (codes "put 1 : true") Mismatch 8 ≡ true
unfolding words checked predefined view_of uses_of functions
shown_width = refl

shown_stream : refuses (codes "put : true , 1") Mismatch 6 ≡ true
unfolding words checked predefined view_of uses_of functions
shown_stream = refl

shown_faulty : refuses (codes "put : true , 1 + true") Mismatch 17 ≡ true
unfolding words checked predefined view_of uses_of functions
shown_faulty = refl

takes : accepts (codes "var n : 1 .. 3 var b : boolean var s : string ( 4 ) get n , b , s , s : * , s : 2 get : n , n") ≡ true
unfolding words checked predefined view_of uses_of functions
takes = refl

take_any_string : accepts (codes "procedure p ( var s : string ( * ) ) get s , s : * , s : 3 end p") ≡ true
unfolding words checked predefined view_of uses_of functions
take_any_string = refl

take_faulty_count : refuses (codes "const s := \"a\" get s : true") NotVariable 19 ≡ true
unfolding words checked predefined view_of uses_of functions
take_faulty_count = refl

take_enumeration : refuses (codes "type T : enum ( a ) var x : T get x") Mismatch 34 ≡ true
unfolding words checked predefined view_of uses_of functions
take_enumeration = refl

take_constant : refuses (codes "const c := 1 get c") NotVariable 17 ≡ true
unfolding words checked predefined view_of uses_of functions
take_constant = refl

take_line_of_int : refuses (codes "var x : int get x : *") Mismatch 16 ≡ true
unfolding words checked predefined view_of uses_of functions
take_line_of_int = refl

take_count : refuses (codes "var s : string get s : true") Mismatch 23 ≡ true
unfolding words checked predefined view_of uses_of functions
take_count = refl

opens : accepts (codes "var f : 0 .. 10 open : f , \"a\" , put close : f") ≡ true
unfolding words checked predefined view_of uses_of functions
opens = refl

open_string : refuses (codes "var s : string open : s , \"a\" , get") Mismatch 22 ≡ true
unfolding words checked predefined view_of uses_of functions
open_string = refl

open_number : refuses (codes "var f : int open : f , 1 , get") Mismatch 23 ≡ true
unfolding words checked predefined view_of uses_of functions
open_number = refl

open_constant : refuses (codes "const f := 1 open : f , \"a\" , get") NotVariable 20 ≡ true
unfolding words checked predefined view_of uses_of functions
open_constant = refl

binds : accepts (codes "var a : array 1 .. 2 of int begin bind var x to a ( 1 ) , y to a x := y ( 2 ) bind var z to x z := 1 end") ≡ true
unfolding words checked predefined view_of uses_of functions
binds = refl

bind_of_function : refuses (codes "function f : int result 1 end f begin bind x to f end") Mismatch 48 ≡ true
unfolding words checked predefined view_of uses_of functions
bind_of_function = refl

bind_of_part : refuses (codes "var s : string begin bind x to s ( 1 ) end") Mismatch 31 ≡ true
unfolding words checked predefined view_of uses_of functions
bind_of_part = refl

bind_of_value : refuses (codes "type T : enum ( a ) begin bind x to T . a end") Mismatch 36 ≡ true
unfolding words checked predefined view_of uses_of functions
bind_of_value = refl

bind_constant : refuses (codes "const c := 1 begin bind var x to c end") NotVariable 33 ≡ true
unfolding words checked predefined view_of uses_of functions
bind_constant = refl

bind_changed : refuses (codes "var a : int begin bind x to a x := 1 end") NotVariable 30 ≡ true
unfolding words checked predefined view_of uses_of functions
bind_changed = refl

bind_open : accepts (codes "procedure p ( var s : string ( * ) , var a : array 1 .. * of int ) bind var t to s , var b to a t := \"x\" b ( 1 ) := upper ( b ) p ( t , b ) end p") ≡ true
unfolding words checked predefined view_of uses_of functions
bind_open = refl

bind_of_any_string : refuses (codes "procedure q ( var s : string ) end q procedure p ( var s : string ( * ) ) bind var t to s q ( t ) end p") Mismatch 94 ≡ true
unfolding words checked predefined view_of uses_of functions
bind_of_any_string = refl

subprograms : accepts (codes "function fact ( n : int ) r : int pre n >= 0 init m := n post r >= m if n = 0 then result 1 end if result n * fact ( n - 1 ) end fact put fact ( 12 )") ≡ true
unfolding words checked predefined view_of uses_of functions
subprograms = refl

forwards : accepts (codes "forward procedure p ( x : int ) procedure q p ( 1 ) end q body procedure p q put x end p p ( 2 )") ≡ true
unfolding words checked predefined view_of uses_of functions
forwards = refl

pre_number : refuses (codes "procedure p pre 1 end p") Mismatch 16 ≡ true
unfolding words checked predefined view_of uses_of functions
pre_number = refl

post_number : refuses (codes "procedure p post 1 end p") Mismatch 17 ≡ true
unfolding words checked predefined view_of uses_of functions
post_number = refl

given_faulty : refuses (codes "procedure p init n := 1 + true end p") Mismatch 26 ≡ true
unfolding words checked predefined view_of uses_of functions
given_faulty = refl

most_formals : accepts (codes "procedure p ( x1 , x2 , x3 , x4 , x5 , x6 , x7 , x8 , x9 , x10 , x11 , x12 , x13 , x14 , x15 , x16 , x17 , x18 , x19 , x20 , x21 , x22 , x23 , x24 , x25 , x26 , x27 , x28 , x29 , x30 , x31 , x32 : int ) end p") ≡ true
unfolding words checked predefined view_of uses_of functions
most_formals = refl

too_many_formals : refuses (codes "procedure p ( x1 , x2 , x3 , x4 , x5 , x6 , x7 , x8 , x9 , x10 , x11 , x12 , x13 , x14 , x15 , x16 , x17 , x18 , x19 , x20 , x21 , x22 , x23 , x24 , x25 , x26 , x27 , x28 , x29 , x30 , x31 , x32 , x33 : int ) end p") TooLarge 10 ≡ true
unfolding words checked predefined view_of uses_of functions
too_many_formals = refl

modules : accepts (codes "module M export ( x , C , p ) var x : int := 0 var C : collection of int invariant x >= 0 procedure p ( y : int ) x := y end p x := 1 end M M . p ( 2 ) put M . x var q : pointer to M . C") ≡ true
unfolding words checked predefined view_of uses_of functions
modules = refl

invariant_number : refuses (codes "module M invariant 1 end M") Mismatch 19 ≡ true
unfolding words checked predefined view_of uses_of functions
invariant_number = refl

second_invariant : refuses (codes "module M invariant true invariant true end M") Misplaced 24 ≡ true
unfolding words checked predefined view_of uses_of functions
second_invariant = refl

second_faulty_invariant : refuses (codes "module M invariant true invariant 1 + true end M") Mismatch 38 ≡ true
unfolding words checked predefined view_of uses_of functions
second_faulty_invariant = refl

change_exported : refuses (codes "module M export ( x ) var x : int end M M . x := 1") NotVariable 40 ≡ true
unfolding words checked predefined view_of uses_of functions
change_exported = refl

lend_exported : refuses (codes "module M export ( x ) var x : int end M procedure p ( var y : int ) end p p ( M . x )") NotVariable 78 ≡ true
unfolding words checked predefined view_of uses_of functions
lend_exported = refl

new_exported : refuses (codes "module M export ( C ) var C : collection of int end M var p : pointer to M . C new M . C , p") NotVariable 83 ≡ true
unfolding words checked predefined view_of uses_of functions
new_exported = refl

change_exported_element : refuses (codes "module M export ( C ) var C : collection of int end M var p : pointer to M . C M . C ( p ) := 1") NotVariable 79 ≡ true
unfolding words checked predefined view_of uses_of functions
change_exported_element = refl

module_name : refuses (codes "module M end M put M") Mismatch 19 ≡ true
unfolding words checked predefined view_of uses_of functions
module_name = refl

module_as_type : refuses (codes "module M end M var x : M") Mismatch 23 ≡ true
unfolding words checked predefined view_of uses_of functions
module_as_type = refl

no_type_of_module : refuses (codes "module M export ( x ) var x : int end M var y : M . x") Mismatch 48 ≡ true
unfolding words checked predefined view_of uses_of functions
no_type_of_module = refl

opaques : accepts (codes "module M export ( opaque T , make , show ) type T : 0 .. 9 function make : T var x : T := 3 result x + 1 end make procedure show ( t : T ) put t end show end M var s : M . T := M . make var r : M . T r := s M . show ( r ) const c := M . make M . show ( c )") ≡ true
unfolding words checked predefined view_of uses_of functions
opaques = refl

opaque_put : refuses (codes "module M export ( opaque T , make ) type T : 0 .. 9 function make : T result 3 end make end M var s : M . T := M . make put s") Mismatch 124 ≡ true
unfolding words checked predefined view_of uses_of functions
opaque_put = refl

opaque_compared : refuses (codes "module M export ( opaque T , make ) type T : 0 .. 9 function make : T result 3 end make end M put M . make = M . make") Mismatch 98 ≡ true
unfolding words checked predefined view_of uses_of functions
opaque_compared = refl

opaque_selected : refuses (codes "module M export ( opaque T ) type T : record x : int end record end M var s : M . T put s . x") Mismatch 88 ≡ true
unfolding words checked predefined view_of uses_of functions
opaque_selected = refl

opaque_and_its_type : refuses (codes "module M export ( opaque T , p ) type T : 0 .. 9 procedure p ( t : T ) end p end M M . p ( 3 )") Mismatch 91 ≡ true
unfolding words checked predefined view_of uses_of functions
opaque_and_its_type = refl

opaque_in_array : refuses (codes "module M export ( opaque T , a ) type T : 0 .. 9 var a : array 1 .. 2 of T end M var b : array 1 .. 2 of 0 .. 9 b := M . a") Mismatch 117 ≡ true
unfolding words checked predefined view_of uses_of functions
opaque_in_array = refl

opaque_array : accepts (codes "module M export ( opaque T , a ) type T : 0 .. 9 var a : array 1 .. 2 of T var b : array 1 .. 2 of 0 .. 9 a := b a ( 1 ) := 3 end M var c : array 1 .. 2 of M . T c := M . a c ( 1 ) := M . a ( 2 )") ≡ true
unfolding words checked predefined view_of uses_of functions
opaque_array = refl

opaque_index : refuses (codes "module M export ( opaque T ) type T : 0 .. 9 end M var a : array M . T of int") Mismatch 65 ≡ true
unfolding words checked predefined view_of uses_of functions
opaque_index = refl

opaque_value : refuses (codes "module M export ( opaque T ) type T : enum ( a ) end M var x : M . T := M . T . a") Mismatch 72 ≡ true
unfolding words checked predefined view_of uses_of functions
opaque_value = refl

opaque_variable : refuses (codes "module M export ( opaque x ) var x : int end M") Mismatch 25 ≡ true
unfolding words checked predefined view_of uses_of functions
opaque_variable = refl

room_of_the_program : refuses (codes "type A : array 1 .. 4194304 of int function f : A end f procedure p ( a : A ) end p p ( f ) p ( f ) p ( f )") TooLarge 0 ≡ true
unfolding words checked predefined view_of uses_of functions
room_of_the_program = refl

imports : accepts (codes "var x , y : int module M import ( var x , y ) export ( p ) procedure p import ( x ) x := 1 end p procedure q x := y end q end M") ≡ true
unfolding words checked predefined view_of uses_of functions
imports = refl

handlers : accepts (codes "procedure p ( var y : int ) handler ( k ) put \"caught\" , k , y y := y + 1 if k = 3 then return else quit end if end handler y := 1 div 0 end p") ≡ true
unfolding words checked predefined view_of uses_of functions
handlers = refl

constants_of_modules : accepts (codes "module M export ( c ) const c := 3 end M var a : array 1 .. M . c of int put a ( M . c )") ≡ true
unfolding words checked predefined view_of uses_of functions
constants_of_modules = refl

constants_in_subprograms : accepts (codes "const g := 2 function f : int const c := g + 1 var a : array 1 .. c of int a ( c ) := 1 result a ( c ) end f put f") ≡ true
unfolding words checked predefined view_of uses_of functions
constants_in_subprograms = refl

unset_constant : accepts (codes "const c : 1 .. 2 := 3 put c") ≡ true
unfolding words checked predefined view_of uses_of functions
unset_constant = refl

types_of_modules : accepts (codes "module M export ( T , U ) type T : 1 .. 3 type U : enum ( a , b ) end M var x : M . T := 1 var u : M . U := M . U . b for i : M . T x := i end for var a : array M . T , M . U of set of M . T a ( x , u ) := a ( 1 , M . U . a )") ≡ true
unfolding words checked predefined view_of uses_of functions
types_of_modules = refl

opaque_structure : accepts (codes "module M export ( opaque T , zero ) type T : record x : int end record function zero : T var t : T t . x := 0 result t end zero end M var s , t : M . T := M . zero s := t") ≡ true
unfolding words checked predefined view_of uses_of functions
opaque_structure = refl
