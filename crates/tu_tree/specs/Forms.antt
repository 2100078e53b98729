-- The forms of programs by their names: a node's mark first, and then its parts as they stand in the text, with the signs and
-- words between them, which a definition passes over. Those of expressions are passed on.
use Rattle.grammar.specs.Description.{Description, rule}
use Rattle.grammar.specs.Tree.{Mark, n-empty, n-sequence, n-left, n-right, n-rule, n-span, n-short}
use Rattle.tu_token.specs.declared.class.Class.TheVariants.{Name, SignAssign, SignRange, SignStar, SignLeftBracket, SignRightBracket, SignComma, SignColon, SignSemicolon, WordArray, WordAssert, WordBegin, WordBind, WordBody, WordBoolean, WordCase, WordClose, WordCollection, WordConst, WordDecreasing, WordElsif, WordEnd, WordEnum, WordExit, WordExport, WordFor, WordForward, WordFree, WordFunction, WordGet, WordHandler, WordIf, WordImport, WordInit, WordInt, WordInvariant, WordLabel, WordLoop, WordModule, WordNew, WordOf, WordOpaque, WordOpen, WordPointer, WordPost, WordPre, WordProcedure, WordPut, WordQuit, WordRecord, WordResult, WordReturn, WordSet, WordString, WordTag, WordThen, WordTo, WordType, WordUnion, WordVar, WordWhen}
use Rattle.tu_token.specs.Rules.{Rule, many, maybe, t, listed, r-program, r-item, r-block, r-const, r-var, r-type, r-names, r-start, r-bind, r-binding, r-spec, r-index, r-base, r-range, r-name, r-field, r-variant, r-subprogram, r-head, r-formals, r-formal, r-rest, r-given, r-import, r-imp, r-export, r-exp, r-module, r-statement, r-shown, r-taken, r-expr, r-path, r-pre, r-givens, r-post, r-handler, r-invariant, r-ending, r-elsif, r-arm, r-any}
use Rattle.tu_token.specs.Syntax.{Of}
use Rattle.tu_expr.specs.Parts.{Part}
pub use Rattle.tu_expr.specs.Forms.{Present, Absent, More, NoMore, Behind, Listed, Expr, Or, And, Not, Compare, Sum, Term, Prefix, Power, Related, Equal, NotEqual, Less, Greater, LessOrEqual, GreaterOrEqual, In, NotIn, Added, Subtracted, Multiplied, Divided, Reduced, Plus, Minus, NumberValue, TrueValue, FalseValue, PathValue, Brackets, TextValue, NilValue, Bracketed, Path, FieldStep, ArgumentStep, OneArg, PartArg, AllArg, ValuePlace, LengthPlace, LengthLessPlace}
use Rattle.tu_tree.specs.Parts.{separated}
use Rattle.tu_tree.specs.TypeViews.{member, named, arrays, sizes}
use Rattle.tu_tree.specs.DeclarationViews.{typed, started}
use Rattle.tu_tree.specs.StatementViews.{block_part, elses, simple, streams, modes, widths, amounts}
use Rattle.tu_tree.specs.SubprogramViews.{kinds}
use Rattle.tu_tree.specs.ProgramViews.{module_part}

-- a part that a semicolon may follow
pattern abbrev pub Separated : {d : Description Rule} → Part d → Part (maybe (t SignSemicolon)) → Part (separated d)
Separated x semicolon = n-sequence x semicolon

-- a program, and what its items are
pattern abbrev pub Program : Mark → Part (many (separated (rule r-item))) → Of r-program
Program m items = n-rule m items

pattern abbrev pub ItemConst : Mark → Of r-const → Of r-item
ItemConst m x = n-rule m (n-left x)

pattern abbrev pub ItemVar : Mark → Of r-var → Of r-item
ItemVar m x = n-rule m (n-right (n-left x))

pattern abbrev pub ItemType : Mark → Of r-type → Of r-item
ItemType m x = n-rule m (n-right (n-right (n-left x)))

pattern abbrev pub ItemSubprogram : Mark → Of r-subprogram → Of r-item
ItemSubprogram m x = n-rule m (n-right (n-right (n-right (n-left x))))

pattern abbrev pub ItemModule : Mark → Of r-module → Of r-item
ItemModule m x = n-rule m (n-right (n-right (n-right (n-right (n-left x)))))

pattern abbrev pub ItemStatement : Mark → Of r-statement → Of r-item
ItemStatement m x = n-rule m (n-right (n-right (n-right (n-right (n-right x)))))

-- a block, and what its parts are
pattern abbrev pub Block : Mark → Part (many (separated block_part)) → Of r-block
Block m parts = n-rule m parts

pattern abbrev pub BlockConst : Of r-const → Part block_part
BlockConst x = n-left x

pattern abbrev pub BlockVar : Of r-var → Part block_part
BlockVar x = n-right (n-left x)

pattern abbrev pub BlockType : Of r-type → Part block_part
BlockType x = n-right (n-right (n-left x))

pattern abbrev pub BlockBind : Of r-bind → Part block_part
BlockBind x = n-right (n-right (n-right (n-left x)))

pattern abbrev pub BlockStatement : Of r-statement → Part block_part
BlockStatement x = n-right (n-right (n-right (n-right x)))

-- declarations
pattern abbrev pub ConstDeclaration : Mark → Part (t WordConst) → Part (t Name) → Part (maybe typed) → Part (t SignAssign) → Of r-start → Of r-const
ConstDeclaration m word name spec assign start = n-rule m (n-sequence word (n-sequence name (n-sequence spec (n-sequence assign start))))

pattern abbrev pub CollectionDeclaration : Mark → Part (t WordVar) → Of r-names → Part (t SignColon) → Part (t WordCollection) → Part (t WordOf) → Of r-spec → Of r-var
CollectionDeclaration m word names colon collection of spec = n-rule m (n-sequence word (n-sequence names (n-left (n-sequence colon (n-left (n-sequence collection (n-sequence of spec)))))))

pattern abbrev pub TypedDeclaration : Mark → Part (t WordVar) → Of r-names → Part (t SignColon) → Of r-spec → Part (maybe started) → Of r-var
TypedDeclaration m word names colon spec start = n-rule m (n-sequence word (n-sequence names (n-left (n-sequence colon (n-right (n-sequence spec start))))))

pattern abbrev pub StartedDeclaration : Mark → Part (t WordVar) → Of r-names → Part (t SignAssign) → Of r-expr → Of r-var
StartedDeclaration m word names assign value = n-rule m (n-sequence word (n-sequence names (n-right (n-sequence assign value))))

pattern abbrev pub TypeDeclaration : Mark → Part (t WordType) → Part (t Name) → Part (t SignColon) → Of r-spec → Of r-type
TypeDeclaration m word name colon spec = n-rule m (n-sequence word (n-sequence name (n-sequence colon spec)))

pattern abbrev pub Names : Mark → Part (t Name) → Part (many named) → Of r-names
Names m first more = n-rule m (n-sequence first more)

pattern abbrev pub ValueStart : Mark → Of r-expr → Of r-start
ValueStart m value = n-rule m (n-left value)

pattern abbrev pub InitStart : Mark → Part (t WordInit) → Part (t SignLeftBracket) → Part (listed r-start) → Part (t SignRightBracket) → Of r-start
InitStart m word left parts right = n-rule m (n-right (n-sequence word (n-sequence left (n-sequence parts right))))

pattern abbrev pub BindDeclaration : Mark → Part (t WordBind) → Part (listed r-binding) → Of r-bind
BindDeclaration m word bindings = n-rule m (n-sequence word bindings)

pattern abbrev pub Binding : Mark → Part (maybe (t WordVar)) → Part (t Name) → Part (t WordTo) → Of r-path → Of r-binding
Binding m var name to path = n-rule m (n-sequence var (n-sequence name (n-sequence to path)))

-- types
pattern abbrev pub Spec : Mark → Part (many arrays) → Of r-base → Of r-spec
Spec m before base = n-rule m (n-sequence before base)

pattern abbrev pub ArrayOf : Part (t WordArray) → Part (listed r-index) → Part (t WordOf) → Part arrays
ArrayOf word indices of = n-sequence word (n-sequence indices of)

pattern abbrev pub BoundedIndex : Mark → Of r-expr → Part (t SignRange) → Of r-expr → Of r-index
BoundedIndex m from sign to = n-rule m (n-span from (n-sequence sign (n-left to)))

pattern abbrev pub OpenIndex : Mark → Of r-expr → Part (t SignRange) → Of r-any → Of r-index
OpenIndex m from sign star = n-rule m (n-span from (n-sequence sign (n-right star)))

pattern abbrev pub NamedIndex : Mark → Of r-name → Of r-index
NamedIndex m name = n-rule m (n-short name)

pattern abbrev pub Any : Mark → Part (t SignStar) → Of r-any
Any m star = n-rule m star

pattern abbrev pub BoundedRange : Mark → Of r-expr → Part (t SignRange) → Of r-expr → Of r-range
BoundedRange m from sign to = n-rule m (n-span from (n-sequence sign to))

pattern abbrev pub NamedRange : Mark → Of r-name → Of r-range
NamedRange m name = n-rule m (n-short name)

pattern abbrev pub IntType : Mark → Part (t WordInt) → Of r-base
IntType m word = n-rule m (n-left word)

pattern abbrev pub BooleanType : Mark → Part (t WordBoolean) → Of r-base
BooleanType m word = n-rule m (n-right (n-left word))

pattern abbrev pub StringType : Mark → Part (t WordString) → Part (maybe sizes) → Of r-base
StringType m word size = n-rule m (n-right (n-right (n-left (n-sequence word size))))

pattern abbrev pub MostSize : Part (t SignLeftBracket) → Of r-expr → Part (t SignRightBracket) → Part sizes
MostSize left most right = n-sequence left (n-sequence (n-left most) right)

pattern abbrev pub OpenSize : Part (t SignLeftBracket) → Of r-any → Part (t SignRightBracket) → Part sizes
OpenSize left star right = n-sequence left (n-sequence (n-right star) right)

pattern abbrev pub RangeType : Mark → Of r-range → Of r-base
RangeType m range = n-rule m (n-right (n-right (n-right (n-left range))))

pattern abbrev pub EnumType : Mark → Part (t WordEnum) → Part (t SignLeftBracket) → Of r-names → Part (t SignRightBracket) → Of r-base
EnumType m word left names right = n-rule m (n-right (n-right (n-right (n-right (n-left (n-sequence word (n-sequence left (n-sequence names right))))))))

pattern abbrev pub SetType : Mark → Part (t WordSet) → Part (t WordOf) → Of r-range → Of r-base
SetType m word of range = n-rule m (n-right (n-right (n-right (n-right (n-right (n-left (n-sequence word (n-sequence of range))))))))

pattern abbrev pub PointerType : Mark → Part (t WordPointer) → Part (t WordTo) → Of r-name → Of r-base
PointerType m word to name = n-rule m (n-right (n-right (n-right (n-right (n-right (n-right (n-left (n-sequence word (n-sequence to name)))))))))

pattern abbrev pub RecordType : Mark → Part (t WordRecord) → Of r-field → Part (many (rule r-field)) → Part (t WordEnd) → Part (t WordRecord) → Of r-base
RecordType m word first more end again = n-rule m (n-right (n-right (n-right (n-right (n-right (n-right (n-right (n-left (n-sequence word (n-sequence first (n-sequence more (n-sequence end again))))))))))))

pattern abbrev pub UnionType : Mark → Part (t WordUnion) → Part (maybe (t Name)) → Part (t SignColon) → Of r-range → Part (t WordOf) → Part (many (rule r-variant)) → Part (t WordEnd) → Part (t WordUnion) → Of r-base
UnionType m word tag colon range of variants end again =
    n-rule m (n-right (n-right (n-right (n-right (n-right (n-right (n-right (n-right
    (n-sequence word (n-sequence tag (n-sequence colon (n-sequence range (n-sequence of (n-sequence variants (n-sequence end again)))))))))))))))

pattern abbrev pub NameOf : Mark → Part (t Name) → Part (maybe member) → Of r-name
NameOf m first second = n-rule m (n-sequence first second)

pattern abbrev pub Field : Mark → Of r-names → Part (t SignColon) → Of r-spec → Part (maybe (t SignSemicolon)) → Of r-field
Field m names colon spec semicolon = n-rule m (n-sequence names (n-sequence colon (n-sequence spec semicolon)))

pattern abbrev pub Variant : Mark → Part (t WordLabel) → Part (maybe (listed r-expr)) → Part (t SignColon) → Part (many (rule r-field)) → Of r-variant
Variant m word labels colon fields = n-rule m (n-sequence word (n-sequence labels (n-sequence colon fields)))

-- subprograms
pattern abbrev pub ForwardSubprogram : Mark → Part (t WordForward) → Of r-head → Part (maybe (rule r-import)) → Of r-subprogram
ForwardSubprogram m word head import = n-rule m (n-left (n-sequence word (n-sequence head import)))

pattern abbrev pub WholeSubprogram : Mark → Of r-head → Part (maybe (rule r-import)) → Of r-rest → Of r-subprogram
WholeSubprogram m head import rest = n-rule m (n-right (n-left (n-sequence head (n-sequence import rest))))

pattern abbrev pub BodySubprogram : Mark → Part (t WordBody) → Part kinds → Part (t Name) → Of r-rest → Of r-subprogram
BodySubprogram m word kind name rest = n-rule m (n-right (n-right (n-sequence word (n-sequence kind (n-sequence name rest)))))

pattern abbrev pub ProcedureKind : Part (t WordProcedure) → Part kinds
ProcedureKind word = n-left word

pattern abbrev pub FunctionKind : Part (t WordFunction) → Part kinds
FunctionKind word = n-right word

pattern abbrev pub ProcedureHead : Mark → Part (t WordProcedure) → Part (t Name) → Part (maybe (rule r-formals)) → Of r-head
ProcedureHead m word name formals = n-rule m (n-left (n-sequence word (n-sequence name formals)))

pattern abbrev pub FunctionHead : Mark → Part (t WordFunction) → Part (t Name) → Part (maybe (rule r-formals)) → Part (maybe (t Name)) → Part (t SignColon) → Of r-spec → Of r-head
FunctionHead m word name formals result colon spec = n-rule m (n-right (n-sequence word (n-sequence name (n-sequence formals (n-sequence result (n-sequence colon spec))))))

pattern abbrev pub Formals : Mark → Part (t SignLeftBracket) → Part (maybe (listed r-formal)) → Part (t SignRightBracket) → Of r-formals
Formals m left items right = n-rule m (n-sequence left (n-sequence items right))

pattern abbrev pub Formal : Mark → Part (maybe (t WordVar)) → Of r-names → Part (t SignColon) → Of r-spec → Of r-formal
Formal m var names colon spec = n-rule m (n-sequence var (n-sequence names (n-sequence colon spec)))

pattern abbrev pub Rest : Mark → Part (maybe (rule r-pre)) → Part (maybe (rule r-givens)) → Part (maybe (rule r-post)) → Part (maybe (rule r-handler)) → Of r-block → Of r-ending → Of r-rest
Rest m pre givens post handler block ending = n-rule m (n-sequence pre (n-sequence givens (n-sequence post (n-sequence handler (n-sequence block ending)))))

-- clauses, handlers and ends
pattern abbrev pub Pre : Mark → Part (t WordPre) → Of r-expr → Of r-pre
Pre m word condition = n-rule m (n-sequence word condition)

pattern abbrev pub Post : Mark → Part (t WordPost) → Of r-expr → Of r-post
Post m word condition = n-rule m (n-sequence word condition)

pattern abbrev pub Handler : Mark → Part (t WordHandler) → Part (t SignLeftBracket) → Part (t Name) → Part (t SignRightBracket) → Of r-block → Part (t WordEnd) → Part (t WordHandler) → Of r-handler
Handler m word left name right block end again = n-rule m (n-sequence word (n-sequence left (n-sequence name (n-sequence right (n-sequence block (n-sequence end again))))))

pattern abbrev pub Invariant : Mark → Part (t WordInvariant) → Of r-expr → Of r-invariant
Invariant m word condition = n-rule m (n-sequence word condition)

pattern abbrev pub Givens : Mark → Part (t WordInit) → Part (listed r-given) → Of r-givens
Givens m word items = n-rule m (n-sequence word items)

pattern abbrev pub Given : Mark → Part (t Name) → Part (t SignAssign) → Of r-expr → Of r-given
Given m name assign value = n-rule m (n-sequence name (n-sequence assign value))

pattern abbrev pub Ending : Mark → Part (t WordEnd) → Part (t Name) → Of r-ending
Ending m word name = n-rule m (n-sequence word name)

-- imports and exports
pattern abbrev pub BracketedImport : Mark → Part (t WordImport) → Part (t SignLeftBracket) → Part (maybe (listed r-imp)) → Part (t SignRightBracket) → Of r-import
BracketedImport m word left items right = n-rule m (n-sequence word (n-left (n-sequence left (n-sequence items right))))

pattern abbrev pub PlainImport : Mark → Part (t WordImport) → Part (listed r-imp) → Of r-import
PlainImport m word items = n-rule m (n-sequence word (n-right items))

pattern abbrev pub ImportItem : Mark → Part (maybe (t WordVar)) → Part (t Name) → Of r-imp
ImportItem m var name = n-rule m (n-sequence var name)

pattern abbrev pub BracketedExport : Mark → Part (t WordExport) → Part (t SignLeftBracket) → Part (maybe (listed r-exp)) → Part (t SignRightBracket) → Of r-export
BracketedExport m word left items right = n-rule m (n-sequence word (n-left (n-sequence left (n-sequence items right))))

pattern abbrev pub PlainExport : Mark → Part (t WordExport) → Part (listed r-exp) → Of r-export
PlainExport m word items = n-rule m (n-sequence word (n-right items))

pattern abbrev pub ExportItem : Mark → Part (maybe (t WordOpaque)) → Part (t Name) → Of r-exp
ExportItem m opaque name = n-rule m (n-sequence opaque name)

-- a module, and what its parts are
pattern abbrev pub Module : Mark → Part (t WordModule) → Part (t Name) → Part (maybe (rule r-import)) → Part (maybe (rule r-export)) → Part (many (separated module_part)) → Of r-ending → Of r-module
Module m word name import export parts ending = n-rule m (n-sequence word (n-sequence name (n-sequence import (n-sequence export (n-sequence parts ending)))))

pattern abbrev pub ModuleConst : Of r-const → Part module_part
ModuleConst x = n-left x

pattern abbrev pub ModuleVar : Of r-var → Part module_part
ModuleVar x = n-right (n-left x)

pattern abbrev pub ModuleType : Of r-type → Part module_part
ModuleType x = n-right (n-right (n-left x))

pattern abbrev pub ModuleSubprogram : Of r-subprogram → Part module_part
ModuleSubprogram x = n-right (n-right (n-right (n-left x)))

pattern abbrev pub ModuleStatement : Of r-statement → Part module_part
ModuleStatement x = n-right (n-right (n-right (n-right (n-left x))))

pattern abbrev pub ModuleInvariant : Of r-invariant → Part module_part
ModuleInvariant x = n-right (n-right (n-right (n-right (n-right x))))

-- statements: those with a path, those with blocks, and the others, which hold no block, so that a recursion needs one case for them
pattern abbrev pub Assign : Mark → Of r-path → Part (t SignAssign) → Of r-expr → Of r-statement
Assign m path assign value = n-rule m (n-left (n-sequence path (n-left (n-sequence assign value))))

pattern abbrev pub CallOf : Mark → Of r-path → Of r-statement
CallOf m path = n-rule m (n-left (n-sequence path (n-right n-empty)))

pattern abbrev pub If : Mark → Part (t WordIf) → Of r-expr → Part (t WordThen) → Of r-block → Part (many (rule r-elsif)) → Part (maybe elses) → Part (t WordEnd) → Part (t WordIf) → Of r-statement
If m word condition then block elsifs last end again =
    n-rule m (n-right (n-left (n-sequence word (n-sequence condition (n-sequence then (n-sequence block (n-sequence elsifs (n-sequence last (n-sequence end again)))))))))

pattern abbrev pub Elsif : Mark → Part (t WordElsif) → Of r-expr → Part (t WordThen) → Of r-block → Of r-elsif
Elsif m word condition then block = n-rule m (n-sequence word (n-sequence condition (n-sequence then block)))

pattern abbrev pub Loop : Mark → Part (t WordLoop) → Part (maybe (rule r-invariant)) → Of r-block → Part (t WordEnd) → Part (t WordLoop) → Of r-statement
Loop m word invariant block end again = n-rule m (n-right (n-right (n-left (n-sequence word (n-sequence invariant (n-sequence block (n-sequence end again)))))))

pattern abbrev pub For : Mark → Part (t WordFor) → Part (maybe (t WordDecreasing)) → Part (t Name) → Part (t SignColon) → Of r-range → Part (maybe (rule r-invariant)) → Of r-block → Part (t WordEnd) → Part (t WordFor) → Of r-statement
For m word decreasing name colon range invariant block end again =
    n-rule m (n-right (n-right (n-right (n-left (n-sequence word (n-sequence decreasing (n-sequence name (n-sequence colon (n-sequence range (n-sequence invariant (n-sequence block (n-sequence end again))))))))))))

pattern abbrev pub Case : Mark → Part (t WordCase) → Of r-expr → Part (t WordOf) → Part (maybe (rule r-arm)) → Part (t WordEnd) → Part (t WordCase) → Of r-statement
Case m word subject of arms end again = n-rule m (n-right (n-right (n-right (n-right (n-left (n-sequence word (n-sequence subject (n-sequence of (n-sequence arms (n-sequence end again))))))))))

-- an arm with labels, and the arms behind it; and the last one, without labels
pattern abbrev pub Arm : Mark → Part (t WordLabel) → Part (listed r-expr) → Part (t SignColon) → Of r-block → Part (maybe (rule r-arm)) → Of r-arm
Arm m word labels colon block arms = n-rule m (n-sequence word (n-right (n-sequence labels (n-sequence colon (n-sequence block arms)))))

pattern abbrev pub LastArm : Mark → Part (t WordLabel) → Part (t SignColon) → Of r-block → Of r-arm
LastArm m word colon block = n-rule m (n-sequence word (n-left (n-sequence colon block)))

pattern abbrev pub Begin : Mark → Part (t WordBegin) → Of r-block → Part (t WordEnd) → Of r-statement
Begin m word block end = n-rule m (n-right (n-right (n-right (n-right (n-right (n-left (n-sequence word (n-sequence block end))))))))

-- a statement that is none of the above, and its forms
pattern abbrev pub Simple : Mark → Part simple → Of r-statement
Simple m x = n-rule m (n-right (n-right (n-right (n-right (n-right (n-right x))))))

pattern abbrev pub Exit : Part (t WordExit) → Part simple
Exit word = n-left (n-sequence word (n-right n-empty))

pattern abbrev pub ExitWhen : Part (t WordExit) → Part (t WordWhen) → Of r-expr → Part simple
ExitWhen word when condition = n-left (n-sequence word (n-left (n-sequence when condition)))

pattern abbrev pub Return : Part (t WordReturn) → Part simple
Return word = n-right (n-left word)

pattern abbrev pub Result : Part (t WordResult) → Of r-expr → Part simple
Result word value = n-right (n-right (n-left (n-sequence word value)))

pattern abbrev pub Assert : Part (t WordAssert) → Of r-expr → Part simple
Assert word condition = n-right (n-right (n-right (n-left (n-sequence word condition))))

pattern abbrev pub New : Part (t WordNew) → Of r-path → Part (t SignComma) → Of r-path → Part simple
New word collection comma pointer = n-right (n-right (n-right (n-right (n-left (n-sequence word (n-sequence collection (n-sequence comma pointer)))))))

pattern abbrev pub Free : Part (t WordFree) → Of r-path → Part (t SignComma) → Of r-path → Part simple
Free word collection comma pointer = n-right (n-right (n-right (n-right (n-right (n-left (n-sequence word (n-sequence collection (n-sequence comma pointer))))))))

pattern abbrev pub Tag : Part (t WordTag) → Of r-path → Part (t SignComma) → Of r-expr → Part simple
Tag word path comma value = n-right (n-right (n-right (n-right (n-right (n-right (n-left (n-sequence word (n-sequence path (n-sequence comma value)))))))))

pattern abbrev pub Put : Part (t WordPut) → Part (maybe streams) → Part (listed r-shown) → Part (maybe (t SignRange)) → Part simple
Put word stream parts open_end = n-right (n-right (n-right (n-right (n-right (n-right (n-right (n-left (n-sequence word (n-sequence stream (n-sequence parts open_end))))))))))

pattern abbrev pub Get : Part (t WordGet) → Part (maybe streams) → Part (listed r-taken) → Part simple
Get word stream parts = n-right (n-right (n-right (n-right (n-right (n-right (n-right (n-right (n-left (n-sequence word (n-sequence stream parts))))))))))

pattern abbrev pub Open : Part (t WordOpen) → Part (t SignColon) → Of r-path → Part (t SignComma) → Of r-expr → Part (t SignComma) → Part modes → Part simple
Open word colon path comma name again mode =
    n-right (n-right (n-right (n-right (n-right (n-right (n-right (n-right (n-right (n-left (n-sequence word (n-sequence colon (n-sequence path (n-sequence comma (n-sequence name (n-sequence again mode)))))))))))))))

pattern abbrev pub Close : Part (t WordClose) → Part (t SignColon) → Of r-expr → Part simple
Close word colon stream = n-right (n-right (n-right (n-right (n-right (n-right (n-right (n-right (n-right (n-right (n-left (n-sequence word (n-sequence colon stream))))))))))))

pattern abbrev pub Quit : Part (t WordQuit) → Part simple
Quit word = n-right (n-right (n-right (n-right (n-right (n-right (n-right (n-right (n-right (n-right (n-right (n-sequence word (n-right n-empty))))))))))))

pattern abbrev pub QuitWith : Part (t WordQuit) → Part (t SignColon) → Of r-expr → Part simple
QuitWith word colon number = n-right (n-right (n-right (n-right (n-right (n-right (n-right (n-right (n-right (n-right (n-right (n-sequence word (n-left (n-sequence colon number)))))))))))))

-- what is put or taken, from where, and how
pattern abbrev pub Stream : Part (t SignColon) → Of r-expr → Part (t SignComma) → Part streams
Stream colon number comma = n-sequence colon (n-sequence number comma)

pattern abbrev pub Shown : Mark → Of r-expr → Part (maybe widths) → Of r-shown
Shown m value width = n-rule m (n-sequence value width)

pattern abbrev pub Taken : Mark → Of r-path → Part (maybe amounts) → Of r-taken
Taken m path amount = n-rule m (n-sequence path amount)

pattern abbrev pub WholeLine : Part (t SignColon) → Part (t SignStar) → Part amounts
WholeLine colon star = n-sequence colon (n-left star)

pattern abbrev pub CountOf : Part (t SignColon) → Of r-expr → Part amounts
CountOf colon count = n-sequence colon (n-right count)

pattern abbrev pub PutMode : Part (t WordPut) → Part modes
PutMode word = n-left word

pattern abbrev pub GetMode : Part (t WordGet) → Part modes
GetMode word = n-right word
