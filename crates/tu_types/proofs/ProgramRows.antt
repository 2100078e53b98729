-- Rows of longer programs.
use Rattle.std.proofs.Common.{◌≡◌, codes, true, refl}
use Rattle.tu_type_base.specs.declared.fault.FaultKind.TheVariants.{Mismatch}
use Rattle.tu_type_rules.specs.Functions.{functions}
use Rattle.tu_scope_rules.specs.Search.{predefined}
use Rattle.tu_scope_rules.specs.Views.{view_of}
use Rattle.tu_scope_rules.specs.Uses.{uses_of}
use Rattle.tu_token.specs.Words.{words}
use Rattle.tu_types.proofs.Reading.{checked, accepts, refuses}

swap_elements : accepts (codes "procedure swap ( var x , y : int ) const t : int := x x := y y := t end swap var a : array 1 .. 2 of int := init ( 5 , 6 ) swap ( a ( 1 ) , a ( 2 ) ) put a ( 1 ) , \"_\" , a ( 2 ) var i : int := 1 var j : int := 1 swap ( a ( i ) , a ( j ) )") ≡ true
unfolding words checked predefined view_of uses_of functions
swap_elements = refl

elements_of_collections : accepts (codes "var C : collection of record n : int next : pointer to C end record var p , q , r : pointer to C new C , p C ( p ) . n := 1 q := p free C , p new C , r put C ( q ) . n") ≡ true
unfolding words checked predefined view_of uses_of functions
elements_of_collections = refl

union_without_name : accepts (codes "var u : union t : 1 .. 2 of label 1 : a : int label 2 : b : int end union tag u , 2 put u . a") ≡ true
unfolding words checked predefined view_of uses_of functions
union_without_name = refl

large_arrays : accepts (codes "var a : array 1 .. 1000000 of int procedure touch ( var x : array 1 .. 1000000 of int ) x ( 1 ) := 1 end touch for i : 1 .. 10000 touch ( a ) end for put a ( 1 )") ≡ true
unfolding words checked predefined view_of uses_of functions
large_arrays = refl

marks_of_a_class : accepts (codes "type Grade : enum ( fail , pass , high ) module Marks import ( Grade ) export ( add , count , total , grade ) var n , sum : int := 0 var names : array 1 .. 10 of string ( 20 ) invariant n >= 0 and n <= 10 procedure add ( name : string , mark : int ) pre mark >= 0 and mark <= 100 n := n + 1 names ( n ) := name sum := sum + mark end add function count : int result n end count function total : int result sum end total function grade ( mark : int ) : Grade if mark >= 80 then result Grade . high elsif mark >= 50 then result Grade . pass end if result Grade . fail end grade end Marks var name : string var mark , out : int var best : record name : string ( 20 ) mark : int end record best . mark := - 1 open : out , \"report.txt\" , put loop exit when eof get name , mark Marks . add ( name , mark ) if mark > best . mark then best . name := name best . mark := mark end if case Marks . grade ( mark ) of label Grade . high : put : out , name : 8 , mark : 4 , \"_high\" label Grade . pass : put : out , name : 8 , mark : 4 , \"_pass\" label : put : out , name : 8 , mark : 4 , \"_fail\" end case end loop close : out put \"best_\" , best . name put \"average_\" , Marks . total div Marks . count") ≡ true
unfolding words checked predefined view_of uses_of functions
marks_of_a_class = refl

sets_of_a_type : accepts (codes "type S : set of 1 .. 5 var s : S := S ( 1 , 3 ) s := s + S ( 5 ) - S ( 1 ) put 3 in s , \"_\" , 1 in s") ≡ true
unfolding words checked predefined view_of uses_of functions
sets_of_a_type = refl

sealed_items : refuses (codes "module Box export ( opaque Item , make ) type Item : 0 .. 9 function make : Item result 3 end make end Box var s : Box . Item := Box . make put s") Mismatch 144 ≡ true
unfolding words checked predefined view_of uses_of functions
sealed_items = refl

handled_calls : accepts (codes "var g : int := 0 procedure q ( var x : int ) x := 5 assert false end q procedure p ( var y : int ) handler ( k ) put \"caught_\" , k , \"_\" , y y := y + 1 end handler q ( y ) put \"not_here\" end p p ( g ) put g") ≡ true
unfolding words checked predefined view_of uses_of functions
handled_calls = refl

lent_by_constants : accepts (codes "const c := 2 module M export ( k ) const k := 1 end M var a : array 1 .. 3 of array 1 .. 3 of int procedure p ( var x , y : int ) const d := c - 1 var b : array 1 .. 3 of int if x = y then p ( b ( d ) , b ( d + 1 ) ) end if x := y end p p ( a ( c ) ( M . k ) , a ( c + 1 ) ( - M . k + 3 ) )") ≡ true
unfolding words checked predefined view_of uses_of functions
lent_by_constants = refl

lent_everywhere : accepts (codes "type R : record n : int s : string ( 5 ) a : array 1 .. 2 , 1 .. 2 of boolean end record type U : union t : 1 .. 3 of label 1 , 2 : r : R label : p : set of 1 .. 3 end union var C : collection of U var p : pointer to C procedure q ( var n : int , var s : string ( * ) , var b : boolean , var r : R , u : U ) bind var v to r . a ( 1 , 1 ) , w to u . r v := w . a ( 2 , 2 ) or b n := length ( s ) s := w . s end q new C , p tag C ( p ) , 1 q ( C ( p ) . r . n , C ( p ) . r . s , C ( p ) . r . a ( 2 , 1 ) , C ( p ) . r , C ( p ) )") ≡ true
unfolding words checked predefined view_of uses_of functions
lent_everywhere = refl

functions_of_all : accepts (codes "var C : collection of int type P : pointer to C type S : set of 1 .. 40 type R : record p : P s : S t : string ( 3 ) end record forward function f ( p : P ) r : R function g ( s : S ) : S result s + S ( 1 ) end g function h ( p : P ) : P if p = nil ( C ) then result p end if result h ( nil ( C ) ) end h function k ( t : string ( * ) ) : string ( 3 ) result t ( 1 .. 3 ) end k body function f post r . p = p and 1 in r . s var x : R x . p := h ( p ) x . s := g ( S ( all ) - S ( 2 , 3 ) ) x . t := k ( \"abcd\" ( 2 .. * ) ) result x end f put f ( nil ( C ) ) . t , 3 in f ( nil ( C ) ) . s , f ( h ( nil ( C ) ) ) . t ( 1 ) const y := f ( nil ( C ) ) var z : R := y z := f ( y . p )") ≡ true
unfolding words checked predefined view_of uses_of functions
functions_of_all = refl

loops_of_all : accepts (codes "type E : enum ( a , b , c ) var x : array E of array E of 0 .. 9 for e : E for decreasing f : E . a .. e invariant ord ( f ) <= ord ( e ) x ( e ) ( f ) := ord ( e ) * 3 + ord ( f ) exit when x ( e ) ( f ) > 5 end for end for begin var n := 3 var y , z : array 1 .. n , E of E loop invariant n >= 0 exit when n = 0 y ( n , E . b ) := succ ( E . a ) n := n - 1 bind var u to y , v to y ( 1 , E . a ) z ( 1 , lower ( z , 2 ) ) := u ( upper ( u , 1 ) , pred ( E . b ) ) end loop end") ≡ true
unfolding words checked predefined view_of uses_of functions
loops_of_all = refl

open_texts : accepts (codes "procedure p ( var s : string ( * ) , t : string ( * ) , var a : array 0 .. * of string ( 4 ) ) s := t + \"x\" const c := s a ( upper ( a ) ) := c bind var u to s , v to t , var w to a ( 0 ) u := v get w , u : * , s : length ( t ) if t = u then p ( u , v , a ) p ( w , s + t , a ) end if end p var x : string ( 7 ) var n := 4 var y : array 0 .. n of string ( 4 ) p ( x , \"a\" , y ) p ( y ( 1 ) , x , y )") ≡ true
unfolding words checked predefined view_of uses_of functions
open_texts = refl
