-- The grammar of the language: its rules, and what each of them is.
use Rattle.grammar.specs.Description.{Description, token, empty, sequence, choice, repetition, rule, span}
use Rattle.tu_token.specs.declared.class.Class.{Class}
use Rattle.tu_token.specs.declared.class.Class.TheVariants.{Name, Number, Text, SignAssign, SignImplies, SignLessOrEqual, SignGreaterOrEqual, SignRange, SignPower, SignNotEqual, SignPlus, SignMinus, SignStar, SignLess, SignGreater, SignEqual, SignLeftBracket, SignRightBracket, SignComma, SignColon, SignSemicolon, SignDot, WordAll, WordAnd, WordArray, WordAssert, WordBegin, WordBind, WordBody, WordBoolean, WordCase, WordClose, WordCollection, WordConst, WordDecreasing, WordDiv, WordElse, WordElsif, WordEnd, WordEnum, WordExit, WordExport, WordFalse, WordFor, WordForward, WordFree, WordFunction, WordGet, WordHandler, WordIf, WordImport, WordIn, WordInit, WordInt, WordInvariant, WordLabel, WordLoop, WordMod, WordModule, WordNew, WordNil, WordNot, WordOf, WordOpaque, WordOpen, WordOr, WordPointer, WordPost, WordPre, WordProcedure, WordPut, WordQuit, WordRecord, WordResult, WordReturn, WordSet, WordString, WordTag, WordThen, WordTo, WordTrue, WordType, WordUnion, WordVar, WordWhen}
use Rattle.tu_token.specs.ClassNumbers.{number}

-- the productions, and below them parts that have a place of their own: clauses, handlers, ends, the arms of `if` and `case`, and the
-- bounds and sizes that are left open
pub data Rule : Type 0 where
  r-program : Rule
  r-item : Rule
  r-block : Rule
  r-const : Rule
  r-var : Rule
  r-type : Rule
  r-names : Rule
  r-start : Rule
  r-bind : Rule
  r-binding : Rule
  r-spec : Rule
  r-index : Rule
  r-base : Rule
  r-range : Rule
  r-name : Rule
  r-field : Rule
  r-variant : Rule
  r-subprogram : Rule
  r-head : Rule
  r-formals : Rule
  r-formal : Rule
  r-rest : Rule
  r-given : Rule
  r-import : Rule
  r-imp : Rule
  r-export : Rule
  r-exp : Rule
  r-module : Rule
  r-statement : Rule
  r-shown : Rule
  r-taken : Rule
  r-expr : Rule
  r-or : Rule
  r-and : Rule
  r-not : Rule
  r-compare : Rule
  r-relation : Rule
  r-sum : Rule
  r-term : Rule
  r-prefix : Rule
  r-power : Rule
  r-primary : Rule
  r-path : Rule
  r-arg : Rule
  r-place : Rule
  r-pre : Rule
  r-givens : Rule
  r-post : Rule
  r-handler : Rule
  r-invariant : Rule
  r-ending : Rule
  r-elsif : Rule
  r-arm : Rule
  r-any : Rule

infixr 6 ◌⨟◌
infixr 4 ◌∣◌
-- one behind the other
abbrev pub ◌⨟◌ : Description Rule → Description Rule → Description Rule
a ⨟ b = sequence a b

abbrev pub ◌∣◌ : Description Rule → Description Rule → Description Rule
a ∣ b = choice a b

abbrev pub many : Description Rule → Description Rule
many a = repetition a

abbrev pub maybe : Description Rule → Description Rule
maybe a = choice a empty

abbrev pub t : Class → Description Rule
t class = token (number class)

-- once or more, with commas between
abbrev pub listed : Rule → Description Rule
listed n = rule n ⨟ many (t SignComma ⨟ rule n)

abbrev pub body : Rule → Description Rule
body r-program = many (rule r-item ⨟ maybe (t SignSemicolon))
body r-item = rule r-const ∣ rule r-var ∣ rule r-type ∣ rule r-subprogram ∣ rule r-module ∣ rule r-statement
body r-block = many ((rule r-const ∣ rule r-var ∣ rule r-type ∣ rule r-bind ∣ rule r-statement) ⨟ maybe (t SignSemicolon))
body r-const = t WordConst ⨟ t Name ⨟ maybe (t SignColon ⨟ rule r-spec) ⨟ t SignAssign ⨟ rule r-start
body r-var =
    t WordVar ⨟ rule r-names ⨟ (t SignColon ⨟ (t WordCollection ⨟ t WordOf ⨟ rule r-spec ∣ rule r-spec ⨟ maybe (t SignAssign ⨟ rule r-start)) ∣ t SignAssign ⨟ rule r-expr)
body r-type = t WordType ⨟ t Name ⨟ t SignColon ⨟ rule r-spec
body r-names = t Name ⨟ many (t SignComma ⨟ t Name)
body r-start = rule r-expr ∣ t WordInit ⨟ t SignLeftBracket ⨟ listed r-start ⨟ t SignRightBracket
body r-bind = t WordBind ⨟ listed r-binding
body r-binding = maybe (t WordVar) ⨟ t Name ⨟ t WordTo ⨟ rule r-path
body r-spec = many (t WordArray ⨟ listed r-index ⨟ t WordOf) ⨟ rule r-base
body r-index = span r-expr r-name (t SignRange ⨟ (rule r-expr ∣ rule r-any))
body r-base =
    t WordInt
    ∣ t WordBoolean
    ∣ t WordString ⨟ maybe (t SignLeftBracket ⨟ (rule r-expr ∣ rule r-any) ⨟ t SignRightBracket)
    ∣ rule r-range
    ∣ t WordEnum ⨟ t SignLeftBracket ⨟ rule r-names ⨟ t SignRightBracket
    ∣ t WordSet ⨟ t WordOf ⨟ rule r-range
    ∣ t WordPointer ⨟ t WordTo ⨟ rule r-name
    ∣ t WordRecord ⨟ rule r-field ⨟ many (rule r-field) ⨟ t WordEnd ⨟ t WordRecord
    ∣ t WordUnion ⨟ maybe (t Name) ⨟ t SignColon ⨟ rule r-range ⨟ t WordOf ⨟ many (rule r-variant) ⨟ t WordEnd ⨟ t WordUnion
body r-range = span r-expr r-name (t SignRange ⨟ rule r-expr)
body r-name = t Name ⨟ maybe (t SignDot ⨟ t Name)
body r-field = rule r-names ⨟ t SignColon ⨟ rule r-spec ⨟ maybe (t SignSemicolon)
body r-variant = t WordLabel ⨟ maybe (listed r-expr) ⨟ t SignColon ⨟ many (rule r-field)
body r-subprogram =
    t WordForward ⨟ rule r-head ⨟ maybe (rule r-import)
    ∣ rule r-head ⨟ maybe (rule r-import) ⨟ rule r-rest
    ∣ t WordBody ⨟ (t WordProcedure ∣ t WordFunction) ⨟ t Name ⨟ rule r-rest
body r-head =
    t WordProcedure ⨟ t Name ⨟ maybe (rule r-formals)
    ∣ t WordFunction ⨟ t Name ⨟ maybe (rule r-formals) ⨟ maybe (t Name) ⨟ t SignColon ⨟ rule r-spec
body r-formals = t SignLeftBracket ⨟ maybe (listed r-formal) ⨟ t SignRightBracket
body r-formal = maybe (t WordVar) ⨟ rule r-names ⨟ t SignColon ⨟ rule r-spec
body r-rest = maybe (rule r-pre) ⨟ maybe (rule r-givens) ⨟ maybe (rule r-post) ⨟ maybe (rule r-handler) ⨟ rule r-block ⨟ rule r-ending
body r-given = t Name ⨟ t SignAssign ⨟ rule r-expr
body r-import = t WordImport ⨟ (t SignLeftBracket ⨟ maybe (listed r-imp) ⨟ t SignRightBracket ∣ listed r-imp)
body r-imp = maybe (t WordVar) ⨟ t Name
body r-export = t WordExport ⨟ (t SignLeftBracket ⨟ maybe (listed r-exp) ⨟ t SignRightBracket ∣ listed r-exp)
body r-exp = maybe (t WordOpaque) ⨟ t Name
body r-module =
    t WordModule ⨟ t Name ⨟ maybe (rule r-import) ⨟ maybe (rule r-export) ⨟ many ((rule r-const ∣ rule r-var ∣ rule r-type ∣ rule r-subprogram ∣ rule r-statement ∣ rule r-invariant) ⨟ maybe (t SignSemicolon)) ⨟ rule r-ending
body r-statement =
    rule r-path ⨟ maybe (t SignAssign ⨟ rule r-expr)
    ∣ t WordIf ⨟ rule r-expr ⨟ t WordThen ⨟ rule r-block ⨟ many (rule r-elsif) ⨟ maybe (t WordElse ⨟ rule r-block) ⨟ t WordEnd ⨟ t WordIf
    ∣ t WordLoop ⨟ maybe (rule r-invariant) ⨟ rule r-block ⨟ t WordEnd ⨟ t WordLoop
    ∣ t WordFor ⨟ maybe (t WordDecreasing) ⨟ t Name ⨟ t SignColon ⨟ rule r-range ⨟ maybe (rule r-invariant) ⨟ rule r-block ⨟ t WordEnd ⨟ t WordFor
    ∣ t WordCase ⨟ rule r-expr ⨟ t WordOf ⨟ maybe (rule r-arm) ⨟ t WordEnd ⨟ t WordCase
    ∣ t WordBegin ⨟ rule r-block ⨟ t WordEnd
    ∣ t WordExit ⨟ maybe (t WordWhen ⨟ rule r-expr)
    ∣ t WordReturn
    ∣ t WordResult ⨟ rule r-expr
    ∣ t WordAssert ⨟ rule r-expr
    ∣ t WordNew ⨟ rule r-path ⨟ t SignComma ⨟ rule r-path
    ∣ t WordFree ⨟ rule r-path ⨟ t SignComma ⨟ rule r-path
    ∣ t WordTag ⨟ rule r-path ⨟ t SignComma ⨟ rule r-expr
    ∣ t WordPut ⨟ maybe (t SignColon ⨟ rule r-expr ⨟ t SignComma) ⨟ listed r-shown ⨟ maybe (t SignRange)
    ∣ t WordGet ⨟ maybe (t SignColon ⨟ rule r-expr ⨟ t SignComma) ⨟ listed r-taken
    ∣ t WordOpen ⨟ t SignColon ⨟ rule r-path ⨟ t SignComma ⨟ rule r-expr ⨟ t SignComma ⨟ (t WordPut ∣ t WordGet)
    ∣ t WordClose ⨟ t SignColon ⨟ rule r-expr
    ∣ t WordQuit ⨟ maybe (t SignColon ⨟ rule r-expr)
body r-shown = rule r-expr ⨟ maybe (t SignColon ⨟ rule r-expr)
body r-taken = rule r-path ⨟ maybe (t SignColon ⨟ (t SignStar ∣ rule r-expr))
body r-expr = rule r-or ⨟ many (t SignImplies ⨟ rule r-or)
body r-or = rule r-and ⨟ many (t WordOr ⨟ rule r-and)
body r-and = rule r-not ⨟ many (t WordAnd ⨟ rule r-not)
body r-not = many (t WordNot) ⨟ rule r-compare
body r-compare = rule r-sum ⨟ many (rule r-relation ⨟ rule r-sum)
body r-relation =
    t SignEqual
    ∣ t SignNotEqual
    ∣ t SignLess
    ∣ t SignGreater
    ∣ t SignLessOrEqual
    ∣ t SignGreaterOrEqual
    ∣ t WordIn
    ∣ t WordNot ⨟ t WordIn
body r-sum = rule r-term ⨟ many ((t SignPlus ∣ t SignMinus) ⨟ rule r-term)
body r-term = rule r-prefix ⨟ many ((t SignStar ∣ t WordDiv ∣ t WordMod) ⨟ rule r-prefix)
body r-prefix = many (t SignPlus ∣ t SignMinus) ⨟ rule r-power
body r-power = rule r-primary ⨟ many (t SignPower ⨟ rule r-primary)
body r-primary =
    t Number
    ∣ t WordTrue
    ∣ t WordFalse
    ∣ rule r-path
    ∣ t SignLeftBracket ⨟ rule r-expr ⨟ t SignRightBracket
    ∣ t Text ⨟ many (t SignLeftBracket ⨟ rule r-arg ⨟ t SignRightBracket)
    ∣ t WordNil ⨟ t SignLeftBracket ⨟ rule r-path ⨟ t SignRightBracket
body r-path = t Name ⨟ many (t SignDot ⨟ t Name ∣ t SignLeftBracket ⨟ maybe (listed r-arg) ⨟ t SignRightBracket)
body r-arg = rule r-place ⨟ maybe (t SignRange ⨟ rule r-place) ∣ t WordAll
body r-place = rule r-expr ∣ t SignStar ⨟ maybe (t SignMinus ⨟ rule r-term)
body r-pre = t WordPre ⨟ rule r-expr
body r-givens = t WordInit ⨟ listed r-given
body r-post = t WordPost ⨟ rule r-expr
body r-handler = t WordHandler ⨟ t SignLeftBracket ⨟ t Name ⨟ t SignRightBracket ⨟ rule r-block ⨟ t WordEnd ⨟ t WordHandler
body r-invariant = t WordInvariant ⨟ rule r-expr
body r-ending = t WordEnd ⨟ t Name
body r-elsif = t WordElsif ⨟ rule r-expr ⨟ t WordThen ⨟ rule r-block
body r-arm = t WordLabel ⨟ (t SignColon ⨟ rule r-block ∣ listed r-expr ⨟ t SignColon ⨟ rule r-block ⨟ maybe (rule r-arm))
body r-any = t SignStar
