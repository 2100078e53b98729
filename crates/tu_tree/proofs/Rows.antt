-- Small programs, and what they spell.
use Rattle.std.specs.Prelude.{◌≡◌, ℕ, ◌+◌, max, true, false, List, [], ◌∷◌, ◌++◌, Some, None, refl}
use Rattle.grammar.specs.Description.{Lexeme, Description, rule, print}
use Rattle.grammar.specs.Tree.{no_mark, n-rule, erase}
use Rattle.tu_token.specs.declared.class.Class.{Class}
use Rattle.tu_token.specs.declared.class.Class.TheVariants.{Name, Number, SignAssign, SignRange, SignStar, SignLeftBracket, SignRightBracket, SignComma, SignColon, SignSemicolon, SignDot, WordArray, WordAssert, WordBegin, WordBind, WordBody, WordBoolean, WordCase, WordClose, WordCollection, WordConst, WordDecreasing, WordElse, WordElsif, WordEnd, WordEnum, WordExit, WordExport, WordFor, WordForward, WordFree, WordFunction, WordGet, WordHandler, WordIf, WordImport, WordInit, WordInt, WordInvariant, WordLabel, WordLoop, WordModule, WordNew, WordOf, WordOpaque, WordOpen, WordPointer, WordPost, WordPre, WordProcedure, WordPut, WordQuit, WordRecord, WordResult, WordReturn, WordSet, WordString, WordTag, WordThen, WordTo, WordType, WordUnion, WordVar, WordWhen}
use Rattle.tu_token.specs.ClassNumbers.{number}
use Rattle.tu_expr.specs.declared.leaf.Leaf.{Leaf}
use Rattle.tu_expr.specs.declared.leaf.Spot.{Spot}
use Rattle.tu_expr.specs.declared.expr.PrimaryForm.TheVariants as primary
use Rattle.tu_expr.specs.Views.{expr_view, or_view, and_view, not_view, compare_view, sum_view, term_view, prefix_view, power_view, primary_view, path_view}
use Rattle.tu_tree.specs.declared.declaration.VarForm.TheVariants as var
use Rattle.tu_tree.specs.declared.declaration.StartForm.TheVariants as start
use Rattle.tu_tree.specs.declared.spec.RangeForm.TheVariants as range
use Rattle.tu_tree.specs.declared.spec.IndexForm.TheVariants as index
use Rattle.tu_tree.specs.declared.spec.BaseForm.{BaseForm}
use Rattle.tu_tree.specs.declared.spec.BaseForm.TheVariants as base
use Rattle.tu_tree.specs.declared.spec.StringSize.TheVariants as size
use Rattle.tu_tree.specs.declared.statement.BlockPart.TheVariants as part
use Rattle.tu_tree.specs.declared.statement.StatementForm.{StatementForm}
use Rattle.tu_tree.specs.declared.statement.StatementForm.TheVariants as statement
use Rattle.tu_tree.specs.declared.statement.OpenMode.TheVariants as mode
use Rattle.tu_tree.specs.declared.statement.Amount.TheVariants as amount
use Rattle.tu_tree.specs.declared.import.ImportForm.TheVariants as import
use Rattle.tu_tree.specs.declared.import.ExportForm.TheVariants as export
use Rattle.tu_tree.specs.declared.subprogram.SubprogramForm.TheVariants as subprogram
use Rattle.tu_tree.specs.declared.subprogram.SubprogramKind.TheVariants as kind
use Rattle.tu_tree.specs.declared.subprogram.HeadForm.TheVariants as head
use Rattle.tu_tree.specs.declared.program.ItemForm.{ItemForm}
use Rattle.tu_tree.specs.declared.program.ItemForm.TheVariants as item
use Rattle.tu_tree.specs.declared.program.ModulePart.TheVariants as module_part
use Rattle.tu_tree.specs.Syntax.{Rule, many, maybe, body, r-program, r-item, r-block, r-var, r-names, r-spec, r-base, r-range, r-name, r-field, r-variant, r-subprogram, r-rest, r-statement, r-expr, r-path, r-elsif, r-arm, Of, Part, text_of}
use Rattle.tu_tree.specs.Parts.{separated}
use Rattle.tu_tree.specs.Forms.{Present, Absent, More, NoMore, Behind, Listed, Path, Separated, Program, ItemConst, ItemVar, ItemType, ItemSubprogram, ItemModule, ItemStatement, Block, BlockConst, BlockVar, BlockType, BlockBind, BlockStatement, CollectionDeclaration, TypedDeclaration, StartedDeclaration, Spec, ArrayOf, IntType, BooleanType, StringType, RangeType, EnumType, SetType, PointerType, RecordType, UnionType, Field, Variant, ForwardSubprogram, WholeSubprogram, BodySubprogram, Rest, Module, ModuleConst, ModuleVar, ModuleType, ModuleSubprogram, ModuleStatement, ModuleInvariant, Assign, CallOf, If, Elsif, Loop, For, Case, Arm, LastArm, Begin, Simple, Exit, ExitWhen, Return, Result, Assert, New, Free, Tag, Put, Get, Open, Close, Quit, QuitWith}
use Rattle.tu_tree.specs.TypeViews.{arrays, name_view, names_view, range_view, index_view, spec_view, base_view, field_view, variant_view}
use Rattle.tu_tree.specs.DeclarationViews.{const_view, var_view, type_view, start_view, bind_view, binding_view}
use Rattle.tu_tree.specs.ClauseViews.{pre_view, post_view, invariant_view, givens_view, given_view, ending_view}
use Rattle.tu_tree.specs.StatementViews.{block_part, elses, simple, block_view, elsif_view, statement_view, shown_view, taken_view}
use Rattle.tu_tree.specs.ImportViews.{import_view, import_item_view, export_view, export_item_view}
use Rattle.tu_tree.specs.SubprogramViews.{subprogram_view, head_view, formals_view, formal_view, handler_view, rest_view}
use Rattle.tu_tree.specs.ProgramViews.{module_part, item_view, program_view, module_view}

abbrev word : Class → Lexeme
word c = (number c, [])

abbrev name_at : ℕ → Lexeme
name_at c = (number Name, c ∷ [])

abbrev number_at : ℕ → Lexeme
number_at c = (number Number, c ∷ [])

-- the leaf of a name or literal of one byte
abbrev letter : ℕ → Leaf
letter c = record { text = c ∷ []; start = 0; line = 1 }

abbrev spot : Spot
spot = record { start = 0; line = 1 }

abbrev made : {n : Rule} → Part (body n) → Of n
made x = n-rule no_mark x

-- a number as an expression, a name as a path
abbrev value : ℕ → Of r-expr
value c =
    made (expr_view (made (or_view (made (and_view (made (not_view 0 (made (compare_view (made (sum_view (made (term_view (made (prefix_view []
    (made (power_view (made (primary_view (primary.Number (letter c)))) [])))) [])) [])) [])))) [])) [])) [])

abbrev path : ℕ → Of r-path
path c = made (path_view (letter c) [])

abbrev statement_of : StatementForm → Of r-statement
statement_of x = made (statement_view x)

abbrev block_of : List StatementForm → Of r-block
block_of [] = made (block_view [])
block_of (x ∷ xs) = made (block_view ((part.Statement (statement_of x), true) ∷ []))

abbrev program_of : ItemForm → Of r-program
program_of x = made (program_view ((made (item_view x), false) ∷ []))

abbrev spells : ItemForm → List Lexeme
spells x = print (erase (program_of x))

abbrev spec_of : BaseForm → Of r-spec
spec_of x = made (spec_view [] (made (base_view x)))

abbrev names_of : ℕ → Of r-names
names_of c = made (names_view (letter c) [])

abbrev name_of : ℕ → Of r-name
name_of c = made (name_view (letter c) None)

abbrev range_of : ℕ → Of r-range
range_of c = made (range_view (range.Named (name_of c)))

-- const c : int := 1
const_row : spells (item.Const (made (const_view (letter 99) (Some (spec_of base.Int)) (made (start_view (start.Value (value 49)))))))
    ≡ word WordConst ∷ name_at 99 ∷ word SignColon ∷ word WordInt ∷ word SignAssign ∷ number_at 49 ∷ []
const_row = refl

-- const c := init ( 1 , 2 )
const_without_type_row : spells (item.Const (made (const_view (letter 99) None (made (start_view (start.Init (made (start_view (start.Value (value 49)))) (made (start_view (start.Value (value 50))) ∷ [])))))))
    ≡ word WordConst ∷ name_at 99 ∷ word SignAssign ∷ word WordInit ∷ word SignLeftBracket ∷ number_at 49 ∷ word SignComma ∷ number_at 50 ∷ word SignRightBracket ∷ []
const_without_type_row = refl

-- var c , d : collection of boolean
collection_row : spells (item.Var (made (var_view (made (names_view (letter 99) (letter 100 ∷ []))) (var.Collection (spec_of base.Boolean)))))
    ≡ word WordVar ∷ name_at 99 ∷ word SignComma ∷ name_at 100 ∷ word SignColon ∷ word WordCollection ∷ word WordOf ∷ word WordBoolean ∷ []
collection_row = refl

-- var c : array 1 .. 2 , 1 .. * of array m . t of string ( * ) := 3
typed_row : spells (item.Var (made (var_view (names_of 99) (var.Typed (made (spec_view (record { first = made (index_view (index.Bounds (value 49) (value 50))); more = made (index_view (index.Open (value 49) spot)) ∷ [] } ∷ record { first = made (index_view (index.Named (made (name_view (letter 109) (Some (letter 116)))))); more = [] } ∷ []) (made (base_view (base.String (size.Open spot)))))) (Some (made (start_view (start.Value (value 51)))))))))
    ≡ word WordVar ∷ name_at 99 ∷ word SignColon ∷ word WordArray ∷ number_at 49 ∷ word SignRange ∷ number_at 50 ∷ word SignComma ∷ number_at 49 ∷ word SignRange ∷ word SignStar ∷ word WordOf ∷ word WordArray ∷ name_at 109 ∷ word SignDot ∷ name_at 116 ∷ word WordOf ∷ word WordString ∷ word SignLeftBracket ∷ word SignStar ∷ word SignRightBracket ∷ word SignAssign ∷ number_at 51 ∷ []
typed_row = refl

-- var c := 1
started_row : spells (item.Var (made (var_view (names_of 99) (var.Started (value 49)))))
    ≡ word WordVar ∷ name_at 99 ∷ word SignAssign ∷ number_at 49 ∷ []
started_row = refl

-- type t : string ( 5 )
string_row : spells (item.Type (made (type_view (letter 116) (spec_of (base.String (size.Most (value 53)))))))
    ≡ word WordType ∷ name_at 116 ∷ word SignColon ∷ word WordString ∷ word SignLeftBracket ∷ number_at 53 ∷ word SignRightBracket ∷ []
string_row = refl

-- type t : 1 .. 2
range_row : spells (item.Type (made (type_view (letter 116) (spec_of (base.Range (made (range_view (range.Bounds (value 49) (value 50)))))))))
    ≡ word WordType ∷ name_at 116 ∷ word SignColon ∷ number_at 49 ∷ word SignRange ∷ number_at 50 ∷ []
range_row = refl

-- type t : enum ( a , b )
enum_row : spells (item.Type (made (type_view (letter 116) (spec_of (base.Enum (made (names_view (letter 97) (letter 98 ∷ []))))))))
    ≡ word WordType ∷ name_at 116 ∷ word SignColon ∷ word WordEnum ∷ word SignLeftBracket ∷ name_at 97 ∷ word SignComma ∷ name_at 98 ∷ word SignRightBracket ∷ []
enum_row = refl

-- type t : set of a
set_row : spells (item.Type (made (type_view (letter 116) (spec_of (base.Set (range_of 97))))))
    ≡ word WordType ∷ name_at 116 ∷ word SignColon ∷ word WordSet ∷ word WordOf ∷ name_at 97 ∷ []
set_row = refl

-- type t : pointer to c
pointer_row : spells (item.Type (made (type_view (letter 116) (spec_of (base.Pointer (name_of 99))))))
    ≡ word WordType ∷ name_at 116 ∷ word SignColon ∷ word WordPointer ∷ word WordTo ∷ name_at 99 ∷ []
pointer_row = refl

-- type t : record a : int ; b : int end record
record_row : spells (item.Type (made (type_view (letter 116) (spec_of (base.Record (made (field_view (names_of 97) (spec_of base.Int) true)) (made (field_view (names_of 98) (spec_of base.Int) false) ∷ []))))))
    ≡ word WordType ∷ name_at 116 ∷ word SignColon ∷ word WordRecord ∷ name_at 97 ∷ word SignColon ∷ word WordInt ∷ word SignSemicolon ∷ name_at 98 ∷ word SignColon ∷ word WordInt ∷ word WordEnd ∷ word WordRecord ∷ []
record_row = refl

-- type t : union u : a of label 1 , 2 : b : int label : end union
union_row : spells (item.Type (made (type_view (letter 116) (spec_of (base.Union (Some (letter 117)) (range_of 97) (made (variant_view (value 49 ∷ value 50 ∷ []) (made (field_view (names_of 98) (spec_of base.Int) false) ∷ [])) ∷ made (variant_view [] []) ∷ []))))))
    ≡ word WordType ∷ name_at 116 ∷ word SignColon ∷ word WordUnion ∷ name_at 117 ∷ word SignColon ∷ name_at 97 ∷ word WordOf ∷ word WordLabel ∷ number_at 49 ∷ word SignComma ∷ number_at 50 ∷ word SignColon ∷ name_at 98 ∷ word SignColon ∷ word WordInt ∷ word WordLabel ∷ word SignColon ∷ word WordEnd ∷ word WordUnion ∷ []
union_row = refl

-- x := 1
assign_row : spells (item.Statement (statement_of (statement.Assign (path 120) (value 49))))
    ≡ name_at 120 ∷ word SignAssign ∷ number_at 49 ∷ []
assign_row = refl

-- p
call_row : spells (item.Statement (statement_of (statement.Call (path 112))))
    ≡ name_at 112 ∷ []
call_row = refl

-- if 1 then p ; end if
if_alone_row : spells (item.Statement (statement_of (statement.If (value 49) (block_of (statement.Call (path 112) ∷ [])) [] None)))
    ≡ word WordIf ∷ number_at 49 ∷ word WordThen ∷ name_at 112 ∷ word SignSemicolon ∷ word WordEnd ∷ word WordIf ∷ []
if_alone_row = refl

-- if 1 then p ; elsif 2 then q ; elsif 3 then else return ; end if
if_row : spells (item.Statement (statement_of (statement.If (value 49) (block_of (statement.Call (path 112) ∷ [])) (made (elsif_view (value 50) (block_of (statement.Call (path 113) ∷ []))) ∷ made (elsif_view (value 51) (block_of [])) ∷ []) (Some (block_of (statement.Return ∷ []))))))
    ≡ word WordIf ∷ number_at 49 ∷ word WordThen ∷ name_at 112 ∷ word SignSemicolon ∷ word WordElsif ∷ number_at 50 ∷ word WordThen ∷ name_at 113 ∷ word SignSemicolon ∷ word WordElsif ∷ number_at 51 ∷ word WordThen ∷ word WordElse ∷ word WordReturn ∷ word SignSemicolon ∷ word WordEnd ∷ word WordIf ∷ []
if_row = refl

-- loop invariant 1 exit ; end loop
loop_row : spells (item.Statement (statement_of (statement.Loop (Some (made (invariant_view (value 49)))) (block_of (statement.Exit ∷ [])))))
    ≡ word WordLoop ∷ word WordInvariant ∷ number_at 49 ∷ word WordExit ∷ word SignSemicolon ∷ word WordEnd ∷ word WordLoop ∷ []
loop_row = refl

-- for decreasing i : 1 .. 3 invariant 1 p ; end for
for_row : spells (item.Statement (statement_of (statement.For true (letter 105) (made (range_view (range.Bounds (value 49) (value 51)))) (Some (made (invariant_view (value 49)))) (block_of (statement.Call (path 112) ∷ [])))))
    ≡ word WordFor ∷ word WordDecreasing ∷ name_at 105 ∷ word SignColon ∷ number_at 49 ∷ word SignRange ∷ number_at 51 ∷ word WordInvariant ∷ number_at 49 ∷ name_at 112 ∷ word SignSemicolon ∷ word WordEnd ∷ word WordFor ∷ []
for_row = refl

-- case 1 of label 1 , 2 : p ; label 3 : q ; label : end case
case_row : spells (item.Statement (statement_of (statement.Case (value 49) (record { spot = spot; first = value 49; more = value 50 ∷ []; block = block_of (statement.Call (path 112) ∷ []) } ∷ record { spot = spot; first = value 51; more = []; block = block_of (statement.Call (path 113) ∷ []) } ∷ []) (Some (record { spot = spot; block = block_of [] })))))
    ≡ word WordCase ∷ number_at 49 ∷ word WordOf ∷ word WordLabel ∷ number_at 49 ∷ word SignComma ∷ number_at 50 ∷ word SignColon ∷ name_at 112 ∷ word SignSemicolon ∷ word WordLabel ∷ number_at 51 ∷ word SignColon ∷ name_at 113 ∷ word SignSemicolon ∷ word WordLabel ∷ word SignColon ∷ word WordEnd ∷ word WordCase ∷ []
case_row = refl

-- begin exit when 1 ; end
begin_row : spells (item.Statement (statement_of (statement.Begin (block_of (statement.ExitWhen (value 49) ∷ [])))))
    ≡ word WordBegin ∷ word WordExit ∷ word WordWhen ∷ number_at 49 ∷ word SignSemicolon ∷ word WordEnd ∷ []
begin_row = refl

-- begin const c := 1 var v := 2 type t : int ; bind var x to y , z to w end
block_row : spells (item.Statement (statement_of (statement.Begin (made (block_view ((part.Const (made (const_view (letter 99) None (made (start_view (start.Value (value 49)))))), false) ∷ (part.Var (made (var_view (names_of 118) (var.Started (value 50)))), false) ∷ (part.Type (made (type_view (letter 116) (spec_of base.Int))), true) ∷ (part.Bind (made (bind_view (made (binding_view true (letter 120) (path 121))) (made (binding_view false (letter 122) (path 119)) ∷ []))), false) ∷ []))))))
    ≡ word WordBegin ∷ word WordConst ∷ name_at 99 ∷ word SignAssign ∷ number_at 49 ∷ word WordVar ∷ name_at 118 ∷ word SignAssign ∷ number_at 50 ∷ word WordType ∷ name_at 116 ∷ word SignColon ∷ word WordInt ∷ word SignSemicolon ∷ word WordBind ∷ word WordVar ∷ name_at 120 ∷ word WordTo ∷ name_at 121 ∷ word SignComma ∷ name_at 122 ∷ word WordTo ∷ name_at 119 ∷ word WordEnd ∷ []
block_row = refl

-- result 1
result_row : spells (item.Statement (statement_of (statement.Result (value 49))))
    ≡ word WordResult ∷ number_at 49 ∷ []
result_row = refl

-- assert 1
assert_row : spells (item.Statement (statement_of (statement.Assert (value 49))))
    ≡ word WordAssert ∷ number_at 49 ∷ []
assert_row = refl

-- new c , p
new_row : spells (item.Statement (statement_of (statement.New (path 99) (path 112))))
    ≡ word WordNew ∷ name_at 99 ∷ word SignComma ∷ name_at 112 ∷ []
new_row = refl

-- free c , p
free_row : spells (item.Statement (statement_of (statement.Free (path 99) (path 112))))
    ≡ word WordFree ∷ name_at 99 ∷ word SignComma ∷ name_at 112 ∷ []
free_row = refl

-- tag u , 1
tag_row : spells (item.Statement (statement_of (statement.Tag (path 117) (value 49))))
    ≡ word WordTag ∷ name_at 117 ∷ word SignComma ∷ number_at 49 ∷ []
tag_row = refl

-- put : 1 , 2 : 3 , 4 ..
put_row : spells (item.Statement (statement_of (statement.Put (Some (value 49)) (made (shown_view (value 50) (Some (value 51)))) (made (shown_view (value 52) None) ∷ []) true)))
    ≡ word WordPut ∷ word SignColon ∷ number_at 49 ∷ word SignComma ∷ number_at 50 ∷ word SignColon ∷ number_at 51 ∷ word SignComma ∷ number_at 52 ∷ word SignRange ∷ []
put_row = refl

-- get x , y : * , z : 5
get_row : spells (item.Statement (statement_of (statement.Get None (made (taken_view (path 120) amount.Token)) (made (taken_view (path 121) amount.Line) ∷ made (taken_view (path 122) (amount.Count (value 53))) ∷ []))))
    ≡ word WordGet ∷ name_at 120 ∷ word SignComma ∷ name_at 121 ∷ word SignColon ∷ word SignStar ∷ word SignComma ∷ name_at 122 ∷ word SignColon ∷ number_at 53 ∷ []
get_row = refl

-- open : f , 1 , get
open_row : spells (item.Statement (statement_of (statement.Open (path 102) (value 49) mode.Get)))
    ≡ word WordOpen ∷ word SignColon ∷ name_at 102 ∷ word SignComma ∷ number_at 49 ∷ word SignComma ∷ word WordGet ∷ []
open_row = refl

-- close : 1
close_row : spells (item.Statement (statement_of (statement.Close (value 49))))
    ≡ word WordClose ∷ word SignColon ∷ number_at 49 ∷ []
close_row = refl

-- quit, and quit : 1
quit_row : spells (item.Statement (statement_of statement.Quit)) ≡ word WordQuit ∷ []
quit_row = refl

quit_with_row : spells (item.Statement (statement_of (statement.QuitWith (value 49)))) ≡ word WordQuit ∷ word SignColon ∷ number_at 49 ∷ []
quit_with_row = refl

-- forward procedure p ( var a : int , b : int ) import ( var a , b )
forward_row : spells (item.Subprogram (made (subprogram_view (subprogram.Forward (made (head_view (head.Procedure (letter 112) (Some (made (formals_view (made (formal_view true (names_of 97) (spec_of base.Int)) ∷ made (formal_view false (names_of 98) (spec_of base.Int)) ∷ []))))))) (Some (made (import_view (import.Bracketed (made (import_item_view true (letter 97)) ∷ made (import_item_view false (letter 98)) ∷ [])))))))))
    ≡ word WordForward ∷ word WordProcedure ∷ name_at 112 ∷ word SignLeftBracket ∷ word WordVar ∷ name_at 97 ∷ word SignColon ∷ word WordInt ∷ word SignComma ∷ name_at 98 ∷ word SignColon ∷ word WordInt ∷ word SignRightBracket ∷ word WordImport ∷ word SignLeftBracket ∷ word WordVar ∷ name_at 97 ∷ word SignComma ∷ name_at 98 ∷ word SignRightBracket ∷ []
forward_row = refl

-- function f ( ) r : int import a , var b pre 1 init x := 2 , y := 3 post 4 handler ( k ) quit ; end handler result 5 ; end f
function_row : spells (item.Subprogram (made (subprogram_view (subprogram.Whole (made (head_view (head.Function (letter 102) (Some (made (formals_view []))) (Some (letter 114)) (spec_of base.Int)))) (Some (made (import_view (import.Plain (made (import_item_view false (letter 97))) (made (import_item_view true (letter 98)) ∷ []))))) (made (rest_view (Some (made (pre_view (value 49)))) (Some (made (givens_view (made (given_view (letter 120) (value 50))) (made (given_view (letter 121) (value 51)) ∷ [])))) (Some (made (post_view (value 52)))) (Some (made (handler_view (letter 107) (block_of (statement.Quit ∷ []))))) (block_of (statement.Result (value 53) ∷ [])) (made (ending_view (letter 102)))))))))
    ≡ word WordFunction ∷ name_at 102 ∷ word SignLeftBracket ∷ word SignRightBracket ∷ name_at 114 ∷ word SignColon ∷ word WordInt ∷ word WordImport ∷ name_at 97 ∷ word SignComma ∷ word WordVar ∷ name_at 98 ∷ word WordPre ∷ number_at 49 ∷ word WordInit ∷ name_at 120 ∷ word SignAssign ∷ number_at 50 ∷ word SignComma ∷ name_at 121 ∷ word SignAssign ∷ number_at 51 ∷ word WordPost ∷ number_at 52 ∷ word WordHandler ∷ word SignLeftBracket ∷ name_at 107 ∷ word SignRightBracket ∷ word WordQuit ∷ word SignSemicolon ∷ word WordEnd ∷ word WordHandler ∷ word WordResult ∷ number_at 53 ∷ word SignSemicolon ∷ word WordEnd ∷ name_at 102 ∷ []
function_row = refl

-- body procedure p end p
body_row : spells (item.Subprogram (made (subprogram_view (subprogram.Body kind.Procedure (letter 112) (made (rest_view None None None None (block_of []) (made (ending_view (letter 112)))))))))
    ≡ word WordBody ∷ word WordProcedure ∷ name_at 112 ∷ word WordEnd ∷ name_at 112 ∷ []
body_row = refl

-- module m import ( ) export opaque t , u const c := 1 ; invariant 2 p end m
module_row : spells (item.Module (made (module_view (letter 109) (Some (made (import_view (import.Bracketed [])))) (Some (made (export_view (export.Plain (made (export_item_view true (letter 116))) (made (export_item_view false (letter 117)) ∷ []))))) ((module_part.Const (made (const_view (letter 99) None (made (start_view (start.Value (value 49)))))), true) ∷ (module_part.Invariant (made (invariant_view (value 50))), false) ∷ (module_part.Statement (statement_of (statement.Call (path 112))), false) ∷ []) (made (ending_view (letter 109))))))
    ≡ word WordModule ∷ name_at 109 ∷ word WordImport ∷ word SignLeftBracket ∷ word SignRightBracket ∷ word WordExport ∷ word WordOpaque ∷ name_at 116 ∷ word SignComma ∷ name_at 117 ∷ word WordConst ∷ name_at 99 ∷ word SignAssign ∷ number_at 49 ∷ word SignSemicolon ∷ word WordInvariant ∷ number_at 50 ∷ name_at 112 ∷ word WordEnd ∷ name_at 109 ∷ []
module_row = refl

-- how often a part stands there
abbrev turns : {d : Description Rule} → Part (many d) → ℕ
turns NoMore = 0
turns (More x more) = 1 + turns more

-- a definition by the forms: the procedures that a program calls
abbrev called : Of r-path → List (List ℕ)
called (Path m root more) = text_of root ∷ []

abbrev mutual
  calls : Of r-block → List (List ℕ)
  calls (Block m parts) = calls_in_parts parts

  calls_in_parts : Part (many (separated block_part)) → List (List ℕ)
  calls_in_parts NoMore = []
  calls_in_parts (More (Separated x _) more) = calls_in_part x ++ calls_in_parts more

  calls_in_part : Part block_part → List (List ℕ)
  calls_in_part (BlockConst x) = []
  calls_in_part (BlockVar x) = []
  calls_in_part (BlockType x) = []
  calls_in_part (BlockBind x) = []
  calls_in_part (BlockStatement x) = calls_of x

  calls_of : Of r-statement → List (List ℕ)
  calls_of (Assign m path _ value) = []
  calls_of (CallOf m path) = called path
  calls_of (If m _ condition _ block elsifs last _ _) = calls block ++ (calls_in_elsifs elsifs ++ calls_in_else last)
  calls_of (Loop m _ invariant block _ _) = calls block
  calls_of (For m _ decreasing name _ range invariant block _ _) = calls block
  calls_of (Case m _ subject _ arms _ _) = calls_in_arms arms
  calls_of (Begin m _ block _) = calls block
  calls_of (Simple m x) = []

  calls_in_elsifs : Part (many (rule r-elsif)) → List (List ℕ)
  calls_in_elsifs NoMore = []
  calls_in_elsifs (More (Elsif m _ condition _ block) more) = calls block ++ calls_in_elsifs more

  calls_in_else : Part (maybe elses) → List (List ℕ)
  calls_in_else Absent = []
  calls_in_else (Present (Behind _ block)) = calls block

  calls_in_arms : Part (maybe (rule r-arm)) → List (List ℕ)
  calls_in_arms Absent = []
  calls_in_arms (Present (LastArm m _ _ block)) = calls block
  calls_in_arms (Present (Arm m _ labels _ block arms)) = calls block ++ calls_in_arms arms

abbrev calls_in_rest : Of r-rest → List (List ℕ)
calls_in_rest (Rest m pre givens post handler block ending) = calls block

abbrev calls_in_subprogram : Of r-subprogram → List (List ℕ)
calls_in_subprogram (ForwardSubprogram m _ head import) = []
calls_in_subprogram (WholeSubprogram m head import rest) = calls_in_rest rest
calls_in_subprogram (BodySubprogram m _ kind name rest) = calls_in_rest rest

abbrev calls_in_module : Part (many (separated module_part)) → List (List ℕ)
calls_in_module NoMore = []
calls_in_module (More (Separated (ModuleConst x) _) more) = calls_in_module more
calls_in_module (More (Separated (ModuleVar x) _) more) = calls_in_module more
calls_in_module (More (Separated (ModuleType x) _) more) = calls_in_module more
calls_in_module (More (Separated (ModuleSubprogram x) _) more) = calls_in_subprogram x ++ calls_in_module more
calls_in_module (More (Separated (ModuleStatement x) _) more) = calls_of x ++ calls_in_module more
calls_in_module (More (Separated (ModuleInvariant x) _) more) = calls_in_module more

abbrev calls_in_item : Of r-item → List (List ℕ)
calls_in_item (ItemConst m x) = []
calls_in_item (ItemVar m x) = []
calls_in_item (ItemType m x) = []
calls_in_item (ItemSubprogram m x) = calls_in_subprogram x
calls_in_item (ItemModule m (Module n _ name import export parts ending)) = calls_in_module parts
calls_in_item (ItemStatement m x) = calls_of x

abbrev calls_in_items : Part (many (separated (rule r-item))) → List (List ℕ)
calls_in_items NoMore = []
calls_in_items (More (Separated x _) more) = calls_in_item x ++ calls_in_items more

abbrev calls_in_program : Of r-program → List (List ℕ)
calls_in_program (Program m items) = calls_in_items items

-- a definition by the forms of statements without blocks: how many parts one puts or takes
abbrev parts_of : Part simple → ℕ
parts_of (Exit _) = 0
parts_of (ExitWhen _ _ condition) = 0
parts_of (Return _) = 0
parts_of (Result _ value) = 0
parts_of (Assert _ condition) = 0
parts_of (New _ collection _ pointer) = 0
parts_of (Free _ collection _ pointer) = 0
parts_of (Tag _ path _ value) = 0
parts_of (Put _ stream (Listed first more) end) = 1 + turns more
parts_of (Get _ stream (Listed first more)) = 1 + turns more
parts_of (Open _ _ path _ name _ mode) = 0
parts_of (Close _ _ stream) = 0
parts_of (Quit _) = 0
parts_of (QuitWith _ _ number) = 0

-- a definition by the forms of types: how deep arrays, records and unions lie in one another
abbrev mutual
  layers : Of r-spec → ℕ
  layers (Spec m before base) = array_layers before + base_layers base

  array_layers : Part (many arrays) → ℕ
  array_layers NoMore = 0
  array_layers (More (ArrayOf _ indices _) more) = 1 + array_layers more

  base_layers : Of r-base → ℕ
  base_layers (IntType m _) = 0
  base_layers (BooleanType m _) = 0
  base_layers (StringType m _ size) = 0
  base_layers (RangeType m range) = 0
  base_layers (EnumType m _ _ names _) = 0
  base_layers (SetType m _ _ range) = 0
  base_layers (PointerType m _ _ name) = 0
  base_layers (RecordType m _ first more _ _) = 1 + max (field_layers first) (fields_layers more)
  base_layers (UnionType m _ tag _ range _ variants _ _) = 1 + variants_layers variants

  field_layers : Of r-field → ℕ
  field_layers (Field m names _ spec _) = layers spec

  fields_layers : Part (many (rule r-field)) → ℕ
  fields_layers NoMore = 0
  fields_layers (More x more) = max (field_layers x) (fields_layers more)

  variants_layers : Part (many (rule r-variant)) → ℕ
  variants_layers NoMore = 0
  variants_layers (More (Variant m _ labels _ fields) more) = max (fields_layers fields) (variants_layers more)

abbrev declared_layers : Of r-var → ℕ
declared_layers (CollectionDeclaration m _ names _ _ _ spec) = layers spec
declared_layers (TypedDeclaration m _ names _ spec start) = layers spec
declared_layers (StartedDeclaration m _ names _ value) = 0

calls_row : calls_in_program (program_of (item.Statement (statement_of (statement.If (value 49) (block_of (statement.Call (path 112) ∷ [])) (made (elsif_view (value 50) (block_of (statement.Call (path 113) ∷ []))) ∷ made (elsif_view (value 51) (block_of [])) ∷ []) (Some (block_of (statement.Return ∷ []))))))) ++ calls_in_program (program_of (item.Statement (statement_of (statement.Case (value 49) (record { spot = spot; first = value 49; more = value 50 ∷ []; block = block_of (statement.Call (path 112) ∷ []) } ∷ record { spot = spot; first = value 51; more = []; block = block_of (statement.Call (path 113) ∷ []) } ∷ []) (Some (record { spot = spot; block = block_of [] })))))) ≡ (112 ∷ []) ∷ (113 ∷ []) ∷ (112 ∷ []) ∷ (113 ∷ []) ∷ []
calls_row = refl

layers_row : declared_layers (made (var_view (names_of 99) (var.Typed (made (spec_view (record { first = made (index_view (index.Bounds (value 49) (value 50))); more = made (index_view (index.Open (value 49) spot)) ∷ [] } ∷ record { first = made (index_view (index.Named (made (name_view (letter 109) (Some (letter 116)))))); more = [] } ∷ []) (made (base_view (base.String (size.Open spot)))))) (Some (made (start_view (start.Value (value 51)))))))) ≡ 2
layers_row = refl

abbrev parts_in : Of r-statement → ℕ
parts_in (Simple m x) = parts_of x
parts_in x = 0

parts_row : parts_in (statement_of (statement.Put (Some (value 49)) (made (shown_view (value 50) (Some (value 51)))) (made (shown_view (value 52) None) ∷ []) true)) ≡ 2
parts_row = refl
