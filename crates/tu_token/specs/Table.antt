-- The grammar of the language with what a reader by one lexeme ahead must know of it.
use Rattle.std.specs.Prelude.{ℕ, Bool, true, false, List, [], ◌∷◌, ◌++◌, map, Option, Some, None}
use Rattle.grammar.specs.Description.{rule, Derivation, d-token, d-empty, d-sequence, d-left, d-right, d-none, d-more, d-rule}
use Rattle.grammar.specs.Grammar.{Grammar, Marking, numbered, placed}
use Rattle.grammar.specs.Tree.{no_mark, Node, n-token, n-empty, n-sequence, n-left, n-right, n-none, n-rule, n-short}
use Rattle.tu_token.specs.declared.class.Class.{Class}
use Rattle.tu_token.specs.declared.class.Class.TheVariants.{Name, Number, Text, SignAssign, SignImplies, SignLessOrEqual, SignGreaterOrEqual, SignRange, SignPower, SignNotEqual, SignPlus, SignMinus, SignStar, SignLess, SignGreater, SignEqual, SignLeftBracket, SignRightBracket, SignComma, SignColon, SignSemicolon, WordAll, WordAnd, WordArray, WordAssert, WordBegin, WordBind, WordBody, WordBoolean, WordCase, WordClose, WordConst, WordDiv, WordElse, WordElsif, WordEnd, WordEnum, WordExit, WordExport, WordFalse, WordFor, WordForward, WordFree, WordFunction, WordGet, WordHandler, WordIf, WordImport, WordIn, WordInit, WordInt, WordInvariant, WordLabel, WordLoop, WordMod, WordModule, WordNew, WordNil, WordNot, WordOf, WordOpaque, WordOpen, WordOr, WordPointer, WordPost, WordPre, WordProcedure, WordPut, WordQuit, WordRecord, WordResult, WordReturn, WordSet, WordString, WordTag, WordThen, WordTrue, WordType, WordUnion, WordVar}
use Rattle.tu_token.specs.ClassNumbers.{number, keeps_text}
use Rattle.tu_token.specs.Rules.{Rule, r-program, r-item, r-block, r-const, r-var, r-type, r-names, r-start, r-bind, r-binding, r-spec, r-index, r-base, r-range, r-name, r-field, r-variant, r-subprogram, r-head, r-formals, r-formal, r-rest, r-given, r-import, r-imp, r-export, r-exp, r-module, r-statement, r-shown, r-taken, r-expr, r-or, r-and, r-not, r-compare, r-relation, r-sum, r-term, r-prefix, r-power, r-primary, r-path, r-arg, r-place, r-pre, r-givens, r-post, r-handler, r-invariant, r-ending, r-elsif, r-arm, r-any, body}

abbrev pub statement_starts : List Class
statement_starts = Name ∷ WordIf ∷ WordLoop ∷ WordFor ∷ WordCase ∷ WordBegin ∷ WordExit ∷ WordReturn ∷ WordResult ∷ WordAssert ∷ WordNew ∷ WordFree ∷ WordTag ∷ WordPut ∷ WordGet ∷ WordOpen ∷ WordClose ∷ WordQuit ∷ []

abbrev pub block_starts : List Class
block_starts = WordConst ∷ WordVar ∷ WordType ∷ WordBind ∷ statement_starts

abbrev pub item_starts : List Class
item_starts = WordConst ∷ WordVar ∷ WordType ∷ WordForward ∷ WordBody ∷ WordProcedure ∷ WordFunction ∷ WordModule ∷ statement_starts

abbrev pub primary_starts : List Class
primary_starts = Number ∷ WordTrue ∷ WordFalse ∷ Name ∷ SignLeftBracket ∷ Text ∷ WordNil ∷ []

abbrev pub prefix_starts : List Class
prefix_starts = SignPlus ∷ SignMinus ∷ primary_starts

abbrev pub expr_starts : List Class
expr_starts = WordNot ∷ prefix_starts

abbrev pub base_starts : List Class
base_starts = WordInt ∷ WordBoolean ∷ WordString ∷ WordEnum ∷ WordSet ∷ WordPointer ∷ WordRecord ∷ WordUnion ∷ expr_starts

abbrev pub relations : List Class
relations = SignEqual ∷ SignNotEqual ∷ SignLess ∷ SignGreater ∷ SignLessOrEqual ∷ SignGreaterOrEqual ∷ WordIn ∷ WordNot ∷ []

abbrev pub behind_block : List Class
behind_block = WordEnd ∷ WordElse ∷ WordElsif ∷ WordLabel ∷ []

-- behind a declaration or statement
abbrev pub behind_part : List Class
behind_part = SignSemicolon ∷ WordBind ∷ WordInvariant ∷ (behind_block ++ item_starts)

abbrev pub behind_clause : List Class
behind_clause = WordInit ∷ WordPost ∷ WordHandler ∷ behind_part

abbrev pub behind_head : List Class
behind_head = WordImport ∷ WordPre ∷ behind_clause

abbrev pub behind_spec : List Class
behind_spec = SignAssign ∷ SignComma ∷ SignRightBracket ∷ behind_head

abbrev pub behind_expr : List Class
behind_expr = SignRange ∷ SignColon ∷ WordOf ∷ WordThen ∷ behind_spec

abbrev pub behind_or : List Class
behind_or = SignImplies ∷ behind_expr

abbrev pub behind_and : List Class
behind_and = WordOr ∷ behind_or

abbrev pub behind_not : List Class
behind_not = WordAnd ∷ behind_and

abbrev pub behind_sum : List Class
behind_sum = relations ++ behind_not

abbrev pub behind_term : List Class
behind_term = SignPlus ∷ SignMinus ∷ behind_sum

abbrev pub behind_prefix : List Class
behind_prefix = SignStar ∷ WordDiv ∷ WordMod ∷ behind_term

-- the classes with which a rule begins
abbrev pub starts_of : Rule → List Class
starts_of r-program = item_starts
starts_of r-item = item_starts
starts_of r-block = block_starts
starts_of r-const = WordConst ∷ []
starts_of r-var = WordVar ∷ []
starts_of r-type = WordType ∷ []
starts_of r-names = Name ∷ []
starts_of r-start = WordInit ∷ expr_starts
starts_of r-bind = WordBind ∷ []
starts_of r-binding = WordVar ∷ Name ∷ []
starts_of r-spec = WordArray ∷ base_starts
starts_of r-index = expr_starts
starts_of r-base = base_starts
starts_of r-range = expr_starts
starts_of r-name = Name ∷ []
starts_of r-field = Name ∷ []
starts_of r-variant = WordLabel ∷ []
starts_of r-subprogram = WordForward ∷ WordBody ∷ WordProcedure ∷ WordFunction ∷ []
starts_of r-head = WordProcedure ∷ WordFunction ∷ []
starts_of r-formals = SignLeftBracket ∷ []
starts_of r-formal = WordVar ∷ Name ∷ []
starts_of r-rest = WordPre ∷ WordInit ∷ WordPost ∷ WordHandler ∷ WordEnd ∷ block_starts
starts_of r-given = Name ∷ []
starts_of r-import = WordImport ∷ []
starts_of r-imp = WordVar ∷ Name ∷ []
starts_of r-export = WordExport ∷ []
starts_of r-exp = WordOpaque ∷ Name ∷ []
starts_of r-module = WordModule ∷ []
starts_of r-statement = statement_starts
starts_of r-shown = expr_starts
starts_of r-taken = Name ∷ []
starts_of r-expr = expr_starts
starts_of r-or = expr_starts
starts_of r-and = expr_starts
starts_of r-not = expr_starts
starts_of r-compare = prefix_starts
starts_of r-relation = relations
starts_of r-sum = prefix_starts
starts_of r-term = prefix_starts
starts_of r-prefix = prefix_starts
starts_of r-power = primary_starts
starts_of r-primary = primary_starts
starts_of r-path = Name ∷ []
starts_of r-arg = WordAll ∷ SignStar ∷ expr_starts
starts_of r-place = SignStar ∷ expr_starts
starts_of r-pre = WordPre ∷ []
starts_of r-givens = WordInit ∷ []
starts_of r-post = WordPost ∷ []
starts_of r-handler = WordHandler ∷ []
starts_of r-invariant = WordInvariant ∷ []
starts_of r-ending = WordEnd ∷ []
starts_of r-elsif = WordElsif ∷ []
starts_of r-arm = WordLabel ∷ []
starts_of r-any = SignStar ∷ []

-- the classes that can follow a rule
abbrev pub behind : Rule → List Class
behind r-program = []
behind r-item = behind_part
behind r-block = behind_block
behind r-const = behind_part
behind r-var = behind_part
behind r-type = behind_part
behind r-names = SignColon ∷ SignAssign ∷ SignRightBracket ∷ []
behind r-start = SignComma ∷ SignRightBracket ∷ behind_part
behind r-bind = behind_part
behind r-binding = SignComma ∷ behind_part
behind r-spec = behind_spec
behind r-index = SignComma ∷ WordOf ∷ []
behind r-base = behind_spec
behind r-range = WordOf ∷ behind_spec
behind r-name = WordOf ∷ behind_spec
behind r-field = Name ∷ WordEnd ∷ WordLabel ∷ []
behind r-variant = WordEnd ∷ WordLabel ∷ []
behind r-subprogram = behind_part
behind r-head = behind_head
behind r-formals = SignColon ∷ behind_head
behind r-formal = SignComma ∷ SignRightBracket ∷ []
behind r-rest = behind_part
behind r-given = SignComma ∷ behind_clause
behind r-import = WordExport ∷ behind_head
behind r-imp = SignComma ∷ SignRightBracket ∷ WordExport ∷ behind_head
behind r-export = behind_part
behind r-exp = SignComma ∷ SignRightBracket ∷ behind_part
behind r-module = behind_part
behind r-statement = behind_part
behind r-shown = SignComma ∷ SignRange ∷ behind_part
behind r-taken = SignComma ∷ behind_part
behind r-expr = behind_expr
behind r-or = behind_or
behind r-and = behind_and
behind r-not = behind_not
behind r-compare = behind_not
behind r-relation = prefix_starts
behind r-sum = behind_sum
behind r-term = behind_term
behind r-prefix = behind_prefix
behind r-power = behind_prefix
behind r-primary = SignPower ∷ behind_prefix
behind r-path = SignPower ∷ behind_prefix
behind r-arg = SignComma ∷ SignRightBracket ∷ []
behind r-place = SignRange ∷ SignComma ∷ SignRightBracket ∷ []
behind r-pre = behind_clause
behind r-givens = behind_clause
behind r-post = behind_clause
behind r-handler = behind_clause
behind r-invariant = behind_part
behind r-ending = behind_part
behind r-elsif = WordElsif ∷ WordElse ∷ WordEnd ∷ []
behind r-arm = WordEnd ∷ []
behind r-any = SignComma ∷ SignRightBracket ∷ WordOf ∷ []

-- above the ranks of the rules with which a rule begins
abbrev pub rank : Rule → ℕ
rank r-program = 3
rank r-item = 2
rank r-block = 2
rank r-start = 11
rank r-spec = 13
rank r-index = 11
rank r-base = 12
rank r-range = 11
rank r-field = 1
rank r-subprogram = 1
rank r-formal = 1
rank r-rest = 3
rank r-statement = 1
rank r-shown = 11
rank r-taken = 1
rank r-expr = 10
rank r-or = 9
rank r-and = 8
rank r-not = 7
rank r-compare = 6
rank r-sum = 5
rank r-term = 4
rank r-prefix = 3
rank r-power = 2
rank r-primary = 1
rank r-arg = 12
rank r-place = 11
rank n = 0

-- whether a rule spells the empty list
abbrev pub can_be_empty : Rule → Bool
can_be_empty r-program = true
can_be_empty r-block = true
can_be_empty n = false

-- the productions have numbers, and the parts below them start and line alone
abbrev pub marking : Rule → Marking
marking r-pre = placed
marking r-givens = placed
marking r-post = placed
marking r-handler = placed
marking r-invariant = placed
marking r-ending = placed
marking r-elsif = placed
marking r-arm = placed
marking r-any = placed
marking n = numbered

-- an expression that is a path alone
pattern abbrev pub only_path : Derivation body (rule r-path) → Derivation body (rule r-expr)
only_path p =
    d-rule (d-sequence (d-rule (d-sequence (d-rule (d-sequence (d-rule (d-sequence d-none (d-rule (d-sequence (d-rule (d-sequence
    (d-rule (d-sequence (d-rule (d-sequence d-none (d-rule (d-sequence (d-rule (d-right (d-right (d-right (d-left p))))) d-none))))
    d-none)) d-none)) d-none)))) d-none)) d-none)) d-none)

abbrev pub path_in : Derivation body (rule r-expr) → Option (Derivation body (rule r-path))
path_in (only_path p) = Some p
path_in e = None

-- a path that is a name
abbrev pub name_in : Option (Derivation body (rule r-path)) → Option (Derivation body (rule r-name))
name_in (Some (d-rule (d-sequence (d-token x) d-none))) = Some (d-rule (d-sequence (d-token x) (d-right d-empty)))
name_in (Some (d-rule (d-sequence (d-token x) (d-more (d-left (d-sequence (d-token dot) (d-token y))) d-none)))) = Some (d-rule (d-sequence (d-token x) (d-left (d-sequence (d-token dot) (d-token y)))))
name_in p = None

-- an expression that is a name
abbrev pub shorten : (long short : Rule) → Derivation body (rule long) → Option (Derivation body (rule short))
shorten r-expr r-name x = name_in (path_in x)
shorten long short x = None

abbrev pub covers : Rule → Rule → Bool
covers r-expr r-name = true
covers long short = false

-- a tree without place
abbrev pub made : {n : Rule} → Node body (body n) → Node body (rule n)
made x = n-rule no_mark x

abbrev pub some-names : Node body (body r-names)
some-names = n-sequence n-token n-none

abbrev pub some-path : Node body (body r-path)
some-path = n-sequence n-token n-none

abbrev pub some-name : Node body (body r-name)
some-name = n-sequence n-token (n-right n-empty)

abbrev pub some-primary : Node body (body r-primary)
some-primary = n-left n-token

abbrev pub some-power : Node body (body r-power)
some-power = n-sequence (made some-primary) n-none

abbrev pub some-prefix : Node body (body r-prefix)
some-prefix = n-sequence n-none (made some-power)

abbrev pub some-term : Node body (body r-term)
some-term = n-sequence (made some-prefix) n-none

abbrev pub some-sum : Node body (body r-sum)
some-sum = n-sequence (made some-term) n-none

abbrev pub some-compare : Node body (body r-compare)
some-compare = n-sequence (made some-sum) n-none

abbrev pub some-not : Node body (body r-not)
some-not = n-sequence n-none (made some-compare)

abbrev pub some-and : Node body (body r-and)
some-and = n-sequence (made some-not) n-none

abbrev pub some-or : Node body (body r-or)
some-or = n-sequence (made some-and) n-none

abbrev pub some-expr : Node body (body r-expr)
some-expr = n-sequence (made some-or) n-none

abbrev pub some-base : Node body (body r-base)
some-base = n-left n-token

abbrev pub some-spec : Node body (body r-spec)
some-spec = n-sequence n-none (made some-base)

abbrev pub some-relation : Node body (body r-relation)
some-relation = n-left n-token

abbrev pub some-place : Node body (body r-place)
some-place = n-left (made some-expr)

abbrev pub some-arg : Node body (body r-arg)
some-arg = n-right n-token

abbrev pub some-shown : Node body (body r-shown)
some-shown = n-sequence (made some-expr) (n-right n-empty)

abbrev pub some-taken : Node body (body r-taken)
some-taken = n-sequence (made some-path) (n-right n-empty)

abbrev pub some-program : Node body (body r-program)
some-program = n-none

abbrev pub some-block : Node body (body r-block)
some-block = n-none

abbrev pub some-start : Node body (body r-start)
some-start = n-left (made some-expr)

abbrev pub some-const : Node body (body r-const)
some-const = n-sequence n-token (n-sequence n-token (n-sequence (n-right n-empty) (n-sequence n-token (made some-start))))

abbrev pub some-var : Node body (body r-var)
some-var = n-sequence n-token (n-sequence (made some-names) (n-right (n-sequence n-token (made some-expr))))

abbrev pub some-type : Node body (body r-type)
some-type = n-sequence n-token (n-sequence n-token (n-sequence n-token (made some-spec)))

abbrev pub some-binding : Node body (body r-binding)
some-binding = n-sequence (n-right n-empty) (n-sequence n-token (n-sequence n-token (made some-path)))

abbrev pub some-bind : Node body (body r-bind)
some-bind = n-sequence n-token (n-sequence (made some-binding) n-none)

abbrev pub some-index : Node body (body r-index)
some-index = n-short (made some-name)

abbrev pub some-range : Node body (body r-range)
some-range = n-short (made some-name)

abbrev pub some-field : Node body (body r-field)
some-field = n-sequence (made some-names) (n-sequence n-token (n-sequence (made some-spec) (n-right n-empty)))

abbrev pub some-variant : Node body (body r-variant)
some-variant = n-sequence n-token (n-sequence (n-right n-empty) (n-sequence n-token n-none))

abbrev pub some-head : Node body (body r-head)
some-head = n-left (n-sequence n-token (n-sequence n-token (n-right n-empty)))

abbrev pub some-subprogram : Node body (body r-subprogram)
some-subprogram = n-left (n-sequence n-token (n-sequence (made some-head) (n-right n-empty)))

abbrev pub some-formals : Node body (body r-formals)
some-formals = n-sequence n-token (n-sequence (n-right n-empty) n-token)

abbrev pub some-formal : Node body (body r-formal)
some-formal = n-sequence (n-right n-empty) (n-sequence (made some-names) (n-sequence n-token (made some-spec)))

abbrev pub some-ending : Node body (body r-ending)
some-ending = n-sequence n-token n-token

abbrev pub some-rest : Node body (body r-rest)
some-rest = n-sequence (n-right n-empty) (n-sequence (n-right n-empty) (n-sequence (n-right n-empty) (n-sequence (n-right n-empty) (n-sequence (made some-block) (made some-ending)))))

abbrev pub some-given : Node body (body r-given)
some-given = n-sequence n-token (n-sequence n-token (made some-expr))

abbrev pub some-imp : Node body (body r-imp)
some-imp = n-sequence (n-right n-empty) n-token

abbrev pub some-import : Node body (body r-import)
some-import = n-sequence n-token (n-right (n-sequence (made some-imp) n-none))

abbrev pub some-exp : Node body (body r-exp)
some-exp = n-sequence (n-right n-empty) n-token

abbrev pub some-export : Node body (body r-export)
some-export = n-sequence n-token (n-right (n-sequence (made some-exp) n-none))

abbrev pub some-module : Node body (body r-module)
some-module = n-sequence n-token (n-sequence n-token (n-sequence (n-right n-empty) (n-sequence (n-right n-empty) (n-sequence n-none (made some-ending)))))

abbrev pub some-statement : Node body (body r-statement)
some-statement = n-left (n-sequence (made some-path) (n-right n-empty))

abbrev pub some-item : Node body (body r-item)
some-item = n-right (n-right (n-right (n-right (n-right (made some-statement)))))

abbrev pub some-pre : Node body (body r-pre)
some-pre = n-sequence n-token (made some-expr)

abbrev pub some-post : Node body (body r-post)
some-post = n-sequence n-token (made some-expr)

abbrev pub some-handler : Node body (body r-handler)
some-handler = n-sequence n-token (n-sequence n-token (n-sequence n-token (n-sequence n-token (n-sequence (made some-block) (n-sequence n-token n-token)))))

abbrev pub some-invariant : Node body (body r-invariant)
some-invariant = n-sequence n-token (made some-expr)

abbrev pub some-givens : Node body (body r-givens)
some-givens = n-sequence n-token (n-sequence (made some-given) n-none)

abbrev pub some-elsif : Node body (body r-elsif)
some-elsif = n-sequence n-token (n-sequence (made some-expr) (n-sequence n-token (made some-block)))

abbrev pub some-arm : Node body (body r-arm)
some-arm = n-sequence n-token (n-left (n-sequence n-token (made some-block)))

abbrev pub some-any : Node body (body r-any)
some-any = n-token

-- a tree of each rule
abbrev pub some : (n : Rule) → Node body (body n)
some r-program = some-program
some r-item = some-item
some r-block = some-block
some r-const = some-const
some r-var = some-var
some r-type = some-type
some r-names = some-names
some r-start = some-start
some r-bind = some-bind
some r-binding = some-binding
some r-spec = some-spec
some r-index = some-index
some r-base = some-base
some r-range = some-range
some r-name = some-name
some r-field = some-field
some r-variant = some-variant
some r-subprogram = some-subprogram
some r-head = some-head
some r-formals = some-formals
some r-formal = some-formal
some r-rest = some-rest
some r-given = some-given
some r-import = some-import
some r-imp = some-imp
some r-export = some-export
some r-exp = some-exp
some r-module = some-module
some r-statement = some-statement
some r-shown = some-shown
some r-taken = some-taken
some r-expr = some-expr
some r-or = some-or
some r-and = some-and
some r-not = some-not
some r-compare = some-compare
some r-relation = some-relation
some r-sum = some-sum
some r-term = some-term
some r-prefix = some-prefix
some r-power = some-power
some r-primary = some-primary
some r-path = some-path
some r-arg = some-arg
some r-place = some-place
some r-pre = some-pre
some r-givens = some-givens
some r-post = some-post
some r-handler = some-handler
some r-invariant = some-invariant
some r-ending = some-ending
some r-elsif = some-elsif
some r-arm = some-arm
some r-any = some-any

abbrev pub table : Grammar body
table = record {
  can_be_empty = can_be_empty;
  firsts = λ n. map number (starts_of n);
  follows = λ n. map number (behind n);
  rank = rank;
  ranks = 14;
  shorten = shorten;
  covers = covers;
  some = some;
  marking = marking;
  keeps_text = keeps_text;
}
