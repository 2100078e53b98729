-- Rows of types: bounds, sizes, labels, and the types that are the same.
use Rattle.std.proofs.Common.{◌≡◌, codes, true, refl}
use Rattle.tu_type_base.specs.declared.fault.FaultKind.TheVariants.{Misplaced, Mismatch, NotConstant, OutOfRange, BadCount, TooLarge}
use Rattle.tu_type_rules.specs.Functions.{functions}
use Rattle.tu_scope_rules.specs.Search.{predefined}
use Rattle.tu_scope_rules.specs.Views.{view_of}
use Rattle.tu_scope_rules.specs.Uses.{uses_of}
use Rattle.tu_token.specs.Words.{words}
use Rattle.tu_types.proofs.Reading.{checked, accepts, refuses}

types : accepts (codes "type I : 0 .. 1 type R : record a , b : int c : string ( 3 ) end record type U : union t : 1 .. 3 of label 1 , 2 : x : int label : y : boolean end union type A : array 1 .. 3 , 0 .. 1 of array I of R") ≡ true
unfolding words checked predefined view_of uses_of functions
types = refl

subranges : accepts (codes "const n := 3 type T : - n .. n * 2 var x : T := 0 x := x + 1") ≡ true
unfolding words checked predefined view_of uses_of functions
subranges = refl

enumeration_ranges : accepts (codes "type T : enum ( a , b , c ) type U : T . a .. T . b var x : U := T . a var y : T := x") ≡ true
unfolding words checked predefined view_of uses_of functions
enumeration_ranges = refl

run_time_type : refuses (codes "var n : int := 3 type A : array 1 .. n of int") NotConstant 37 ≡ true
unfolding words checked predefined view_of uses_of functions
run_time_type = refl

raising_bound : refuses (codes "type T : 1 .. 1 div 0") NotConstant 14 ≡ true
unfolding words checked predefined view_of uses_of functions
raising_bound = refl

raising_constant : refuses (codes "const c := 1 div 0 type T : 1 .. c") NotConstant 33 ≡ true
unfolding words checked predefined view_of uses_of functions
raising_constant = refl

constant_outside_its_type : refuses (codes "const c : 1 .. 2 := 3 type T : 1 .. c") NotConstant 36 ≡ true
unfolding words checked predefined view_of uses_of functions
constant_outside_its_type = refl

function_in_bound : refuses (codes "type T : 1 .. abs ( 2 )") NotConstant 14 ≡ true
unfolding words checked predefined view_of uses_of functions
function_in_bound = refl

not_looked_at : accepts (codes "case true of label false and 1 div 0 = 1 : put 1 end case") ≡ true
unfolding words checked predefined view_of uses_of functions
not_looked_at = refl

not_looked_at_variable : refuses (codes "var x : int case true of label false and x = 1 : put 1 end case") NotConstant 31 ≡ true
unfolding words checked predefined view_of uses_of functions
not_looked_at_variable = refl

upper_below_lower : refuses (codes "type T : 2 .. 1") OutOfRange 14 ≡ true
unfolding words checked predefined view_of uses_of functions
upper_below_lower = refl

bound_of_truths : refuses (codes "type T : false .. true") Mismatch 9 ≡ true
unfolding words checked predefined view_of uses_of functions
bound_of_truths = refl

bounds_of_two_roots : refuses (codes "type T : enum ( a ) type U : 1 .. T . a") Mismatch 34 ≡ true
unfolding words checked predefined view_of uses_of functions
bounds_of_two_roots = refl

mismatch_before_constant : refuses (codes "var b : boolean type T : b .. 1") Mismatch 25 ≡ true
unfolding words checked predefined view_of uses_of functions
mismatch_before_constant = refl

string_size : refuses (codes "var s : string ( 256 )") OutOfRange 17 ≡ true
unfolding words checked predefined view_of uses_of functions
string_size = refl

string_size_none : refuses (codes "var s : string ( 0 )") OutOfRange 17 ≡ true
unfolding words checked predefined view_of uses_of functions
string_size_none = refl

string_size_type : refuses (codes "var s : string ( true )") Mismatch 17 ≡ true
unfolding words checked predefined view_of uses_of functions
string_size_type = refl

string_size_variable : refuses (codes "var n : int var s : string ( n )") NotConstant 29 ≡ true
unfolding words checked predefined view_of uses_of functions
string_size_variable = refl

largest_set : accepts (codes "type S : set of 1 .. 1024") ≡ true
unfolding words checked predefined view_of uses_of functions
largest_set = refl

set_too_large : refuses (codes "type S : set of 1 .. 1025") OutOfRange 16 ≡ true
unfolding words checked predefined view_of uses_of functions
set_too_large = refl

set_of_int : refuses (codes "type I : int type S : set of I") Mismatch 29 ≡ true
unfolding words checked predefined view_of uses_of functions
set_of_int = refl

index_of_int : refuses (codes "type I : int type A : array I of int") Mismatch 28 ≡ true
unfolding words checked predefined view_of uses_of functions
index_of_int = refl

index_of_name : refuses (codes "var x : int type A : array x of int") Mismatch 27 ≡ true
unfolding words checked predefined view_of uses_of functions
index_of_name = refl

name_is_no_type : refuses (codes "var x : int var y : x") Mismatch 20 ≡ true
unfolding words checked predefined view_of uses_of functions
name_is_no_type = refl

label_outside : refuses (codes "type U : union t : 1 .. 2 of label 3 : x : int end union") OutOfRange 35 ≡ true
unfolding words checked predefined view_of uses_of functions
label_outside = refl

label_of_other_type : refuses (codes "type U : union t : 1 .. 2 of label true : x : int end union") Mismatch 35 ≡ true
unfolding words checked predefined view_of uses_of functions
label_of_other_type = refl

label_variable : refuses (codes "var n : int type U : union t : 1 .. 2 of label n : x : int end union") NotConstant 47 ≡ true
unfolding words checked predefined view_of uses_of functions
label_variable = refl

empty_variant_first : refuses (codes "type U : union t : 1 .. 2 of label : x : int label 1 : y : int end union") Misplaced 29 ≡ true
unfolding words checked predefined view_of uses_of functions
empty_variant_first = refl

star_in_type : refuses (codes "type A : array 1 .. * of int") Misplaced 20 ≡ true
unfolding words checked predefined view_of uses_of functions
star_in_type = refl

star_in_variable : refuses (codes "var s : string ( * )") Misplaced 17 ≡ true
unfolding words checked predefined view_of uses_of functions
star_in_variable = refl

star_of_second_index : refuses (codes "procedure p ( a : array 1 .. 2 , 1 .. * of int ) end p") Misplaced 38 ≡ true
unfolding words checked predefined view_of uses_of functions
star_of_second_index = refl

star_of_first_of_two : refuses (codes "procedure p ( a : array 1 .. * , 1 .. 2 of int ) end p") Misplaced 29 ≡ true
unfolding words checked predefined view_of uses_of functions
star_of_first_of_two = refl

star_of_second_list : refuses (codes "procedure p ( a : array 1 .. 2 of array 1 .. * of int ) end p") Misplaced 45 ≡ true
unfolding words checked predefined view_of uses_of functions
star_of_second_list = refl

star_in_component : refuses (codes "procedure p ( a : array 1 .. 2 of string ( * ) ) end p") Misplaced 43 ≡ true
unfolding words checked predefined view_of uses_of functions
star_in_component = refl

star_in_result : refuses (codes "function f : string ( * ) result \"a\" end f") Misplaced 22 ≡ true
unfolding words checked predefined view_of uses_of functions
star_in_result = refl

stars_of_formals : accepts (codes "procedure p ( s : string ( * ) , var t : string ( * ) , a : array 1 .. * of int ) t := s end p") ≡ true
unfolding words checked predefined view_of uses_of functions
stars_of_formals = refl

equal_unions_apart : refuses (codes "var a : union t : 1 .. 2 of label 1 : x : int end union var b : union t : 1 .. 2 of label 1 : x : int end union a := b") Mismatch 117 ≡ true
unfolding words checked predefined view_of uses_of functions
equal_unions_apart = refl

equal_records_apart : refuses (codes "var a : record x : int end record var b : record x : int end record a := b") Mismatch 73 ≡ true
unfolding words checked predefined view_of uses_of functions
equal_records_apart = refl

equal_arrays : accepts (codes "var a : array 1 .. 2 of int var b : array 1 .. 2 of int a := b") ≡ true
unfolding words checked predefined view_of uses_of functions
equal_arrays = refl

other_arrays : refuses (codes "var a : array 1 .. 2 of int var b : array 1 .. 3 of int a := b") Mismatch 61 ≡ true
unfolding words checked predefined view_of uses_of functions
other_arrays = refl

one_type_twice : accepts (codes "type R : record x : int end record var a : R var b : R a := b") ≡ true
unfolding words checked predefined view_of uses_of functions
one_type_twice = refl

strings_of_sizes : accepts (codes "var s : string ( 3 ) var t : string s := t t := s") ≡ true
unfolding words checked predefined view_of uses_of functions
strings_of_sizes = refl

run_time_array : accepts (codes "var n : int := 3 var a , b : array 1 .. n , 1 .. 2 of int put upper ( a ) , lower ( a , 2 ) a ( 1 , 2 ) := b ( 2 , 1 )") ≡ true
unfolding words checked predefined view_of uses_of functions
run_time_array = refl

run_time_start : refuses (codes "var n : int := 3 var a : array 1 .. n of int := init ( 1 )") Mismatch 48 ≡ true
unfolding words checked predefined view_of uses_of functions
run_time_start = refl

run_time_assigned : refuses (codes "var n : int := 3 var a , b : array 1 .. n of int a := b") Mismatch 49 ≡ true
unfolding words checked predefined view_of uses_of functions
run_time_assigned = refl

run_time_raising : accepts (codes "var a : array 1 .. 1 div 0 of int") ≡ true
unfolding words checked predefined view_of uses_of functions
run_time_raising = refl

run_time_below : refuses (codes "var a : array 2 .. 1 of int") OutOfRange 19 ≡ true
unfolding words checked predefined view_of uses_of functions
run_time_below = refl

run_time_lower : refuses (codes "var n : int := 3 var a : array n .. 5 of int") NotConstant 31 ≡ true
unfolding words checked predefined view_of uses_of functions
run_time_lower = refl

run_time_constant : refuses (codes "var n : int := 1 const a : array 1 .. n of int := init ( 1 )") NotConstant 38 ≡ true
unfolding words checked predefined view_of uses_of functions
run_time_constant = refl

run_time_start_of_other : refuses (codes "var n : int := 3 var a : array 1 .. n of int var b := a") Mismatch 54 ≡ true
unfolding words checked predefined view_of uses_of functions
run_time_start_of_other = refl

inits : accepts (codes "var a : array 1 .. 2 , 1 .. 2 of int := init ( 1 , 2 , 3 , 4 ) var b : record x : int y : array 1 .. 2 of boolean end record := init ( 1 , init ( true , false ) )") ≡ true
unfolding words checked predefined view_of uses_of functions
inits = refl

init_count : refuses (codes "var a : array 1 .. 2 of int := init ( 1 )") BadCount 31 ≡ true
unfolding words checked predefined view_of uses_of functions
init_count = refl

init_faulty_part : refuses (codes "var a : array 1 .. 2 of int := init ( 1 + true )") Mismatch 42 ≡ true
unfolding words checked predefined view_of uses_of functions
init_faulty_part = refl

init_part : refuses (codes "var a : array 1 .. 2 of int := init ( 1 , true )") Mismatch 42 ≡ true
unfolding words checked predefined view_of uses_of functions
init_part = refl

init_of_int : refuses (codes "var a : int := init ( 1 )") Mismatch 15 ≡ true
unfolding words checked predefined view_of uses_of functions
init_of_int = refl

init_without_type : refuses (codes "const a := init ( 1 )") Mismatch 11 ≡ true
unfolding words checked predefined view_of uses_of functions
init_without_type = refl

inner_init_count : refuses (codes "var b : array 1 .. 2 of array 1 .. 2 of int := init ( init ( 1 ) )") BadCount 54 ≡ true
unfolding words checked predefined view_of uses_of functions
inner_init_count = refl

two_dimensions : refuses (codes "type E : enum ( a , b ) var x : array 1 .. 2 , E of int var n : int put lower ( x , n )") Mismatch 84 ≡ true
unfolding words checked predefined view_of uses_of functions
two_dimensions = refl

dimension_by_constant : accepts (codes "type E : enum ( a , b ) var x : array 1 .. 2 , E of int var e : E := lower ( x , 2 ) put upper ( x , 1 ) + 1") ≡ true
unfolding words checked predefined view_of uses_of functions
dimension_by_constant = refl

bound_of_no_array : refuses (codes "put upper ( 1 )") Mismatch 12 ≡ true
unfolding words checked predefined view_of uses_of functions
bound_of_no_array = refl

too_many_indexes : refuses (codes "type A : array 1 .. 1 , 1 .. 1 , 1 .. 1 , 1 .. 1 , 1 .. 1 , 1 .. 1 , 1 .. 1 , 1 .. 1 , 1 .. 1 , 1 .. 1 , 1 .. 1 , 1 .. 1 , 1 .. 1 , 1 .. 1 , 1 .. 1 , 1 .. 1 , 1 .. 1 , 1 .. 1 , 1 .. 1 , 1 .. 1 , 1 .. 1 , 1 .. 1 , 1 .. 1 , 1 .. 1 , 1 .. 1 , 1 .. 1 , 1 .. 1 , 1 .. 1 , 1 .. 1 , 1 .. 1 , 1 .. 1 , 1 .. 1 , 1 .. 1 of int") TooLarge 5 ≡ true
unfolding words checked predefined view_of uses_of functions
too_many_indexes = refl

most_indexes : accepts (codes "type A : array 1 .. 1 , 1 .. 1 , 1 .. 1 , 1 .. 1 , 1 .. 1 , 1 .. 1 , 1 .. 1 , 1 .. 1 , 1 .. 1 , 1 .. 1 , 1 .. 1 , 1 .. 1 , 1 .. 1 , 1 .. 1 , 1 .. 1 , 1 .. 1 , 1 .. 1 , 1 .. 1 , 1 .. 1 , 1 .. 1 , 1 .. 1 , 1 .. 1 , 1 .. 1 , 1 .. 1 , 1 .. 1 , 1 .. 1 , 1 .. 1 , 1 .. 1 , 1 .. 1 , 1 .. 1 , 1 .. 1 , 1 .. 1 of int") ≡ true
unfolding words checked predefined view_of uses_of functions
most_indexes = refl

too_many_labels : refuses (codes "type U : union t : 1 .. 40 of label 1 , 2 , 3 , 4 , 5 , 6 , 7 , 8 , 9 , 10 , 11 , 12 , 13 , 14 , 15 , 16 , 17 , 18 , 19 , 20 , 21 , 22 , 23 , 24 , 25 , 26 , 27 , 28 , 29 , 30 , 31 , 32 , 33 : x : int end union") TooLarge 5 ≡ true
unfolding words checked predefined view_of uses_of functions
too_many_labels = refl

too_many_words : refuses (codes "var a : array 1 .. 4194305 of int") TooLarge 4 ≡ true
unfolding words checked predefined view_of uses_of functions
too_many_words = refl

most_words : accepts (codes "var a : array 1 .. 4194304 of int") ≡ true
unfolding words checked predefined view_of uses_of functions
most_words = refl

past_the_globals : refuses (codes "var a : array 1 .. 4194304 of int var b : int") TooLarge 38 ≡ true
unfolding words checked predefined view_of uses_of functions
past_the_globals = refl

too_large_element : refuses (codes "var C : collection of array 1 .. 4194305 of int") TooLarge 4 ≡ true
unfolding words checked predefined view_of uses_of functions
too_large_element = refl

too_large_formal : refuses (codes "procedure p ( a : array 1 .. 4194305 of int ) end p") TooLarge 14 ≡ true
unfolding words checked predefined view_of uses_of functions
too_large_formal = refl

too_large_result : refuses (codes "function f : array 1 .. 4194305 of int end f") TooLarge 9 ≡ true
unfolding words checked predefined view_of uses_of functions
too_large_result = refl
