-- Rows of expressions: what operators, functions and parts of strings take.
use Rattle.std.proofs.Common.{◌≡◌, codes, true, refl}
use Rattle.tu_type_base.specs.declared.fault.FaultKind.TheVariants.{Mismatch, BadCount}
use Rattle.tu_type_rules.specs.Functions.{functions}
use Rattle.tu_scope_rules.specs.Search.{predefined}
use Rattle.tu_scope_rules.specs.Views.{view_of}
use Rattle.tu_scope_rules.specs.Uses.{uses_of}
use Rattle.tu_token.specs.Words.{words}
use Rattle.tu_types.proofs.Reading.{checked, accepts, refuses}

sums : accepts (codes "put 1 + 2 * 3 - 4 div 5 mod 6 ** 7 , - 1 , + + 2") ≡ true
unfolding words checked predefined view_of uses_of functions
sums = refl

texts : accepts (codes "put \"a\" + \"b\" + \"c\" , \"abc\" ( 1 ) , \"abc\" ( 1 .. 2 ) ( * ) , \"abc\" ( * - 1 .. * )") ≡ true
unfolding words checked predefined view_of uses_of functions
texts = refl

truths : accepts (codes "put true and not false or 1 < 2 => \"a\" < \"b\" , 1 = 1 = true") ≡ true
unfolding words checked predefined view_of uses_of functions
truths = refl

one_and_true : refuses (codes "put 1 + true") Mismatch 8 ≡ true
unfolding words checked predefined view_of uses_of functions
one_and_true = refl

true_and_one : refuses (codes "put true + 1") Mismatch 4 ≡ true
unfolding words checked predefined view_of uses_of functions
true_and_one = refl

inner_fault_alone : refuses (codes "put true + ( 1 + true )") Mismatch 17 ≡ true
unfolding words checked predefined view_of uses_of functions
inner_fault_alone = refl

chain_of_relations : refuses (codes "put 1 < 2 < 3") Mismatch 4 ≡ true
unfolding words checked predefined view_of uses_of functions
chain_of_relations = refl

order_of_truths : refuses (codes "put true < false") Mismatch 4 ≡ true
unfolding words checked predefined view_of uses_of functions
order_of_truths = refl

text_and_number : refuses (codes "put \"a\" + 1") Mismatch 10 ≡ true
unfolding words checked predefined view_of uses_of functions
text_and_number = refl

number_and_text : refuses (codes "put 1 = \"a\"") Mismatch 8 ≡ true
unfolding words checked predefined view_of uses_of functions
number_and_text = refl

minus_text : refuses (codes "put - \"a\"") Mismatch 6 ≡ true
unfolding words checked predefined view_of uses_of functions
minus_text = refl

not_number : refuses (codes "put not 1") Mismatch 8 ≡ true
unfolding words checked predefined view_of uses_of functions
not_number = refl

and_number : refuses (codes "put true and 1") Mismatch 13 ≡ true
unfolding words checked predefined view_of uses_of functions
and_number = refl

functions_of_all : accepts (codes "put abs ( - 1 ) , min ( 1 , 2 ) , max ( 1 , 2 ) , ord ( \"a\" ) , chr ( 65 ) , succ ( 1 ) , pred ( 1 ) , length ( \"a\" ) , index ( \"ab\" , \"b\" ) , repeat ( \"a\" , 2 ) , intstr ( 1 ) , intstr ( 1 , 2 ) , strint ( \"1\" ) , eof , eof ( 1 )") ≡ true
unfolding words checked predefined view_of uses_of functions
functions_of_all = refl

function_count : refuses (codes "put abs ( 1 , 2 )") BadCount 4 ≡ true
unfolding words checked predefined view_of uses_of functions
function_count = refl

function_without_parts : refuses (codes "put length") BadCount 4 ≡ true
unfolding words checked predefined view_of uses_of functions
function_without_parts = refl

function_faulty_part : refuses (codes "put abs ( 1 + true , 2 )") Mismatch 14 ≡ true
unfolding words checked predefined view_of uses_of functions
function_faulty_part = refl

function_type : refuses (codes "put length ( 1 )") Mismatch 13 ≡ true
unfolding words checked predefined view_of uses_of functions
function_type = refl

ord_of_int : refuses (codes "put ord ( 1 )") Mismatch 10 ≡ true
unfolding words checked predefined view_of uses_of functions
ord_of_int = refl

succ_of_truth : refuses (codes "put succ ( true )") Mismatch 11 ≡ true
unfolding words checked predefined view_of uses_of functions
succ_of_truth = refl

function_as_statement : refuses (codes "abs ( 1 )") Mismatch 0 ≡ true
unfolding words checked predefined view_of uses_of functions
function_as_statement = refl

all_in_function : refuses (codes "put abs ( all )") Mismatch 10 ≡ true
unfolding words checked predefined view_of uses_of functions
all_in_function = refl

enumerations : accepts (codes "type T : enum ( a , b , c ) var x : T := T . b put ord ( x ) , x < T . c , succ ( x ) = T . c") ≡ true
unfolding words checked predefined view_of uses_of functions
enumerations = refl

no_such_value : refuses (codes "type T : enum ( a , b ) var x : T := T . c") Mismatch 37 ≡ true
unfolding words checked predefined view_of uses_of functions
no_such_value = refl

other_enumeration : refuses (codes "type T : enum ( a ) type U : enum ( a ) put T . a = U . a") Mismatch 52 ≡ true
unfolding words checked predefined view_of uses_of functions
other_enumeration = refl

type_as_value : refuses (codes "type T : enum ( a ) put T") Mismatch 24 ≡ true
unfolding words checked predefined view_of uses_of functions
type_as_value = refl

sets : accepts (codes "type S : set of 1 .. 5 var s : S := S ( 1 , 3 ) s := s + S ( 5 ) - S ( 1 ) * S ( all ) put 3 in s , 1 not in s , s <= S ( ) , s = S ( 2 )") ≡ true
unfolding words checked predefined view_of uses_of functions
sets = refl

set_order : refuses (codes "type S : set of 1 .. 5 put S ( 1 ) < S ( 2 )") Mismatch 27 ≡ true
unfolding words checked predefined view_of uses_of functions
set_order = refl

set_member : refuses (codes "type S : set of 1 .. 5 var s : S := S ( true )") Mismatch 40 ≡ true
unfolding words checked predefined view_of uses_of functions
set_member = refl

in_no_set : refuses (codes "put 1 in 2") Mismatch 9 ≡ true
unfolding words checked predefined view_of uses_of functions
in_no_set = refl

in_other_root : refuses (codes "type T : enum ( a ) type S : set of 1 .. 5 put T . a in S ( 1 )") Mismatch 56 ≡ true
unfolding words checked predefined view_of uses_of functions
in_other_root = refl

truth_in_set : refuses (codes "type S : set of 1 .. 5 put true in S ( 1 )") Mismatch 27 ≡ true
unfolding words checked predefined view_of uses_of functions
truth_in_set = refl

sets_of_other_bases : refuses (codes "type S : set of 1 .. 5 type R : set of 1 .. 6 put S ( 1 ) = R ( 1 )") Mismatch 60 ≡ true
unfolding words checked predefined view_of uses_of functions
sets_of_other_bases = refl

all_among_members : refuses (codes "type S : set of 1 .. 5 var s : S := S ( 1 , all )") Mismatch 44 ≡ true
unfolding words checked predefined view_of uses_of functions
all_among_members = refl

string_with_two : refuses (codes "var s : string put s ( 1 , 2 )") Mismatch 19 ≡ true
unfolding words checked predefined view_of uses_of functions
string_with_two = refl

string_with_none : refuses (codes "var s : string put s ( )") Mismatch 19 ≡ true
unfolding words checked predefined view_of uses_of functions
string_with_none = refl

string_with_all : refuses (codes "var s : string put s ( all )") Mismatch 23 ≡ true
unfolding words checked predefined view_of uses_of functions
string_with_all = refl

string_place : refuses (codes "var s : string put s ( true )") Mismatch 23 ≡ true
unfolding words checked predefined view_of uses_of functions
string_place = refl

less_than_star : refuses (codes "var s : string put s ( * - true )") Mismatch 27 ≡ true
unfolding words checked predefined view_of uses_of functions
less_than_star = refl

part_of_int : refuses (codes "var x : int put x ( 1 )") Mismatch 16 ≡ true
unfolding words checked predefined view_of uses_of functions
part_of_int = refl

field_of_int : refuses (codes "var x : int put x . y") Mismatch 16 ≡ true
unfolding words checked predefined view_of uses_of functions
field_of_int = refl

faulty_part_of_int : refuses (codes "var x : int put x ( 1 )") Mismatch 16 ≡ true
unfolding words checked predefined view_of uses_of functions
faulty_part_of_int = refl

constants_of_texts : accepts (codes "const c := \"a\" + \"b\" case true of label c = \"ab\" : put 1 end case") ≡ true
unfolding words checked predefined view_of uses_of functions
constants_of_texts = refl
