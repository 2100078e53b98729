-- Rows of paths, changes and calls.
use Rattle.std.proofs.Common.{◌≡◌, codes, true, refl}
use Rattle.tu_type_base.specs.declared.fault.FaultKind.TheVariants.{Mismatch, NotVariable, BadCount}
use Rattle.tu_type_rules.specs.Functions.{functions}
use Rattle.tu_scope_rules.specs.Search.{predefined}
use Rattle.tu_scope_rules.specs.Views.{view_of}
use Rattle.tu_scope_rules.specs.Uses.{uses_of}
use Rattle.tu_token.specs.Words.{words}
use Rattle.tu_types.proofs.Reading.{checked, accepts, refuses}

places : accepts (codes "type R : record x : int y : array 1 .. 3 of int end record var r : R var a : array 1 .. 2 of R r . x := 1 r . y ( 2 ) := r . x a ( 1 ) := r a ( 2 ) . y ( 3 ) := a ( 1 ) . x") ≡ true
unfolding words checked predefined view_of uses_of functions
places = refl

unions : accepts (codes "var u : union t : 1 .. 2 of label 1 : a : int label 2 : b , c : boolean end union tag u , 2 put u . t u . b := true u . c := u . b") ≡ true
unfolding words checked predefined view_of uses_of functions
unions = refl

no_such_field : refuses (codes "var r : record x : int end record put r . z") Mismatch 38 ≡ true
unfolding words checked predefined view_of uses_of functions
no_such_field = refl

subscript_count : refuses (codes "var a : array 1 .. 2 of int put a ( 1 , 2 )") BadCount 32 ≡ true
unfolding words checked predefined view_of uses_of functions
subscript_count = refl

subscript_faulty : refuses (codes "var a : array 1 .. 2 of int put a ( 1 + true , 2 )") Mismatch 40 ≡ true
unfolding words checked predefined view_of uses_of functions
subscript_faulty = refl

subscript_type : refuses (codes "var a : array 1 .. 2 of int put a ( true )") Mismatch 36 ≡ true
unfolding words checked predefined view_of uses_of functions
subscript_type = refl

change_constant : refuses (codes "const c := 1 c := 2") NotVariable 13 ≡ true
unfolding words checked predefined view_of uses_of functions
change_constant = refl

change_index : refuses (codes "for i : 1 .. 2 i := 3 end for") NotVariable 15 ≡ true
unfolding words checked predefined view_of uses_of functions
change_index = refl

change_formal : refuses (codes "procedure p ( x : int ) x := 1 end p") NotVariable 24 ≡ true
unfolding words checked predefined view_of uses_of functions
change_formal = refl

change_tag : refuses (codes "var u : union t : 1 .. 2 of label 1 : a : int end union u . t := 1") NotVariable 56 ≡ true
unfolding words checked predefined view_of uses_of functions
change_tag = refl

change_function : refuses (codes "function f : int result 1 end f f := 2") NotVariable 32 ≡ true
unfolding words checked predefined view_of uses_of functions
change_function = refl

change_given : refuses (codes "procedure p init n := 1 n := 2 end p") NotVariable 24 ≡ true
unfolding words checked predefined view_of uses_of functions
change_given = refl

change_value : refuses (codes "type T : enum ( a ) T . a := T . a") NotVariable 20 ≡ true
unfolding words checked predefined view_of uses_of functions
change_value = refl

change_part : refuses (codes "var s : string s ( 1 ) := \"a\"") NotVariable 15 ≡ true
unfolding words checked predefined view_of uses_of functions
change_part = refl

change_handlers_name : refuses (codes "procedure p handler ( k ) k := 1 end handler end p") NotVariable 26 ≡ true
unfolding words checked predefined view_of uses_of functions
change_handlers_name = refl

assigned_type : refuses (codes "var x : int x := true") Mismatch 17 ≡ true
unfolding words checked predefined view_of uses_of functions
assigned_type = refl

assigned_both : refuses (codes "const c := 1 c := true") NotVariable 13 ≡ true
unfolding words checked predefined view_of uses_of functions
assigned_both = refl

assigned_set_value : refuses (codes "type S : set of 1 .. 2 S ( 1 ) := S ( 2 )") NotVariable 23 ≡ true
unfolding words checked predefined view_of uses_of functions
assigned_set_value = refl

assigned_predefined : refuses (codes "var s : string length ( s ) := 1") NotVariable 15 ≡ true
unfolding words checked predefined view_of uses_of functions
assigned_predefined = refl

assigned_faulty_value : refuses (codes "const c := 1 c := 1 + true") Mismatch 22 ≡ true
unfolding words checked predefined view_of uses_of functions
assigned_faulty_value = refl

assigned_procedure : refuses (codes "procedure p end p p := 1") Mismatch 18 ≡ true
unfolding words checked predefined view_of uses_of functions
assigned_procedure = refl

calls : accepts (codes "procedure p ( x : int , var y : int , s : string ( 3 ) ) y := x end p var a : int p ( 1 , a , \"a\" ) p ( a , a , \"b\" )") ≡ true
unfolding words checked predefined view_of uses_of functions
calls = refl

call_count : refuses (codes "procedure p ( x : int ) end p p ( 1 , 2 )") BadCount 30 ≡ true
unfolding words checked predefined view_of uses_of functions
call_count = refl

call_none : refuses (codes "procedure p ( x : int ) end p p") BadCount 30 ≡ true
unfolding words checked predefined view_of uses_of functions
call_none = refl

call_faulty_actual : refuses (codes "procedure p ( x : int ) end p p ( 1 + true , 2 )") Mismatch 38 ≡ true
unfolding words checked predefined view_of uses_of functions
call_faulty_actual = refl

call_type : refuses (codes "procedure p ( x : int ) end p p ( true )") Mismatch 34 ≡ true
unfolding words checked predefined view_of uses_of functions
call_type = refl

call_subrange_as_root : refuses (codes "procedure p ( var x : int ) end p var a : 1 .. 3 p ( a )") Mismatch 53 ≡ true
unfolding words checked predefined view_of uses_of functions
call_subrange_as_root = refl

call_root_as_subrange : refuses (codes "type T : 1 .. 3 procedure p ( var x : T ) end p var a : int p ( a )") Mismatch 64 ≡ true
unfolding words checked predefined view_of uses_of functions
call_root_as_subrange = refl

call_number_as_variable : refuses (codes "procedure p ( var x : int ) end p p ( 1 )") NotVariable 38 ≡ true
unfolding words checked predefined view_of uses_of functions
call_number_as_variable = refl

call_mismatch_first : refuses (codes "procedure p ( var x : int ) end p p ( true )") Mismatch 38 ≡ true
unfolding words checked predefined view_of uses_of functions
call_mismatch_first = refl

call_constant_as_variable : refuses (codes "procedure p ( var x : int ) end p const c := 1 p ( c )") NotVariable 51 ≡ true
unfolding words checked predefined view_of uses_of functions
call_constant_as_variable = refl

call_function_as_variable : refuses (codes "procedure p ( var x : int ) end p function f : int result 1 end f p ( f )") NotVariable 70 ≡ true
unfolding words checked predefined view_of uses_of functions
call_function_as_variable = refl

call_brackets : accepts (codes "procedure p ( var x : int ) x := 1 end p var a : int p ( ( a ) )") ≡ true
unfolding words checked predefined view_of uses_of functions
call_brackets = refl

call_any_string : accepts (codes "procedure p ( var s : string ( * ) ) end p var a : string ( 3 ) var b : string p ( a ) p ( b )") ≡ true
unfolding words checked predefined view_of uses_of functions
call_any_string = refl

any_string_as_sized : refuses (codes "procedure q ( var s : string ) end q procedure p ( var s : string ( * ) ) q ( s ) end p") Mismatch 78 ≡ true
unfolding words checked predefined view_of uses_of functions
any_string_as_sized = refl

any_string_on : accepts (codes "procedure p ( var s : string ( * ) ) p ( s ) end p") ≡ true
unfolding words checked predefined view_of uses_of functions
any_string_on = refl

call_open_array : accepts (codes "function total ( a : array 1 .. * of int ) : int var t : int := 0 for i : 1 .. upper ( a ) t := t + a ( i ) end for result t end total var b : array 1 .. 3 of int := init ( 4 , 5 , 6 ) put total ( b )") ≡ true
unfolding words checked predefined view_of uses_of functions
call_open_array = refl

call_open_array_on : accepts (codes "procedure p ( a : array 1 .. * of int ) p ( a ) end p var n : int := 3 var a : array 1 .. n of int p ( a )") ≡ true
unfolding words checked predefined view_of uses_of functions
call_open_array_on = refl

call_other_lower : refuses (codes "procedure p ( a : array 1 .. * of int ) end p var a : array 0 .. 3 of int p ( a )") Mismatch 78 ≡ true
unfolding words checked predefined view_of uses_of functions
call_other_lower = refl

call_open_as_whole : refuses (codes "procedure q ( a : array 1 .. 3 of int ) end q procedure p ( a : array 1 .. * of int ) q ( a ) end p") Mismatch 90 ≡ true
unfolding words checked predefined view_of uses_of functions
call_open_as_whole = refl

function_of_record : accepts (codes "type R : record x : int end record function f : R var r : R result r end f put f . x put f ( ) . x var r : R := f r := f") ≡ true
unfolding words checked predefined view_of uses_of functions
function_of_record = refl

function_count : refuses (codes "function f : int result 1 end f put f ( 1 )") BadCount 36 ≡ true
unfolding words checked predefined view_of uses_of functions
function_count = refl

procedure_as_value : refuses (codes "procedure p end p put p") Mismatch 22 ≡ true
unfolding words checked predefined view_of uses_of functions
procedure_as_value = refl

function_as_statement : refuses (codes "function f : int result 1 end f f") Mismatch 32 ≡ true
unfolding words checked predefined view_of uses_of functions
function_as_statement = refl

variable_as_statement : refuses (codes "var x : int x") Mismatch 12 ≡ true
unfolding words checked predefined view_of uses_of functions
variable_as_statement = refl

collections : accepts (codes "var C : collection of record n : int next : pointer to C end record var p , q : pointer to C new C , p C ( p ) . n := 1 q := C ( p ) . next free C , p put q = nil ( C ) , C ( q ) . n") ≡ true
unfolding words checked predefined view_of uses_of functions
collections = refl

pointer_order : refuses (codes "var C : collection of int var p : pointer to C put p < p") Mismatch 51 ≡ true
unfolding words checked predefined view_of uses_of functions
pointer_order = refl

pointer_of_other : refuses (codes "var C , D : collection of int var p : pointer to C put D ( p )") Mismatch 59 ≡ true
unfolding words checked predefined view_of uses_of functions
pointer_of_other = refl

nil_of_variable : refuses (codes "var x : int put nil ( x ) = nil ( x )") Mismatch 22 ≡ true
unfolding words checked predefined view_of uses_of functions
nil_of_variable = refl

collection_count : refuses (codes "var C : collection of int var p : pointer to C put C ( p , p )") Mismatch 51 ≡ true
unfolding words checked predefined view_of uses_of functions
collection_count = refl

collection_all : refuses (codes "var C : collection of int var p : pointer to C put C ( all , p )") Mismatch 51 ≡ true
unfolding words checked predefined view_of uses_of functions
collection_all = refl

collection_range : refuses (codes "var C : collection of int var p : pointer to C put C ( p .. p )") Mismatch 55 ≡ true
unfolding words checked predefined view_of uses_of functions
collection_range = refl

collection_alone : refuses (codes "var C : collection of int put C") Mismatch 30 ≡ true
unfolding words checked predefined view_of uses_of functions
collection_alone = refl

new_of_variable : refuses (codes "var x : int new x , x") Mismatch 16 ≡ true
unfolding words checked predefined view_of uses_of functions
new_of_variable = refl

new_of_other : refuses (codes "var C , D : collection of int var p : pointer to C new D , p") Mismatch 59 ≡ true
unfolding words checked predefined view_of uses_of functions
new_of_other = refl

new_constant : refuses (codes "var C : collection of int const p := nil ( C ) new C , p") NotVariable 55 ≡ true
unfolding words checked predefined view_of uses_of functions
new_constant = refl

pointer_to_variable : refuses (codes "var x : int var p : pointer to x") Mismatch 31 ≡ true
unfolding words checked predefined view_of uses_of functions
pointer_to_variable = refl

tag_of_record : refuses (codes "var r : record x : int end record tag r , 1") Mismatch 38 ≡ true
unfolding words checked predefined view_of uses_of functions
tag_of_record = refl

tag_type : refuses (codes "var u : union t : 1 .. 2 of label 1 : a : int end union tag u , true") Mismatch 64 ≡ true
unfolding words checked predefined view_of uses_of functions
tag_type = refl

structured_formals : accepts (codes "type R : record x : int end record procedure p ( a : R , var b : R ) b := a end p var r , s : R p ( r , s )") ≡ true
unfolding words checked predefined view_of uses_of functions
structured_formals = refl

structured_value : refuses (codes "type R : record x : int end record procedure p ( a : R ) end p p ( 1 )") Mismatch 67 ≡ true
unfolding words checked predefined view_of uses_of functions
structured_value = refl

constant_of_structure : accepts (codes "type R : record x : int end record var r : R const c := r put c . x") ≡ true
unfolding words checked predefined view_of uses_of functions
constant_of_structure = refl
