-- The classes of lexemes as numbers, and tokens as lexemes and places of a grammar.
use Rattle.std.specs.Prelude.{ℕ, Bool, nat_lt, cond, List, [], map}
use Rattle.grammar.specs.Description.{Lexeme}
use Rattle.grammar.specs.Placed.{Place}
use Rattle.tu_token.specs.TokenList.{TokenList}
use Rattle.tu_token.specs.declared.token.Token.{Token}
use Rattle.tu_token.specs.declared.class.Class.{Class}
use Rattle.tu_token.specs.declared.class.Class.TheVariants.{Name, Number, Text, SignAssign, SignImplies, SignLessOrEqual, SignGreaterOrEqual, SignRange, SignPower, SignNotEqual, SignPlus, SignMinus, SignStar, SignLess, SignGreater, SignEqual, SignLeftBracket, SignRightBracket, SignComma, SignColon, SignSemicolon, SignDot, WordAll, WordAnd, WordArray, WordAssert, WordBegin, WordBind, WordBody, WordBoolean, WordCase, WordClose, WordCollection, WordConst, WordDecreasing, WordDiv, WordElse, WordElsif, WordEnd, WordEnum, WordExit, WordExport, WordFalse, WordFor, WordForward, WordFree, WordFunction, WordGet, WordHandler, WordIf, WordImport, WordIn, WordInit, WordInt, WordInvariant, WordLabel, WordLoop, WordMod, WordModule, WordNew, WordNil, WordNot, WordOf, WordOpaque, WordOpen, WordOr, WordPointer, WordPost, WordPre, WordProcedure, WordPut, WordQuit, WordRecord, WordResult, WordReturn, WordSet, WordString, WordTag, WordThen, WordTo, WordTrue, WordType, WordUnion, WordVar, WordWhen}

abbrev pub number : Class → ℕ
number Name = 0
number Number = 1
number Text = 2
number SignAssign = 3
number SignImplies = 4
number SignLessOrEqual = 5
number SignGreaterOrEqual = 6
number SignRange = 7
number SignPower = 8
number SignNotEqual = 9
number SignPlus = 10
number SignMinus = 11
number SignStar = 12
number SignLess = 13
number SignGreater = 14
number SignEqual = 15
number SignLeftBracket = 16
number SignRightBracket = 17
number SignComma = 18
number SignColon = 19
number SignSemicolon = 20
number SignDot = 21
number WordAll = 22
number WordAnd = 23
number WordArray = 24
number WordAssert = 25
number WordBegin = 26
number WordBind = 27
number WordBody = 28
number WordBoolean = 29
number WordCase = 30
number WordClose = 31
number WordCollection = 32
number WordConst = 33
number WordDecreasing = 34
number WordDiv = 35
number WordElse = 36
number WordElsif = 37
number WordEnd = 38
number WordEnum = 39
number WordExit = 40
number WordExport = 41
number WordFalse = 42
number WordFor = 43
number WordForward = 44
number WordFree = 45
number WordFunction = 46
number WordGet = 47
number WordHandler = 48
number WordIf = 49
number WordImport = 50
number WordIn = 51
number WordInit = 52
number WordInt = 53
number WordInvariant = 54
number WordLabel = 55
number WordLoop = 56
number WordMod = 57
number WordModule = 58
number WordNew = 59
number WordNil = 60
number WordNot = 61
number WordOf = 62
number WordOpaque = 63
number WordOpen = 64
number WordOr = 65
number WordPointer = 66
number WordPost = 67
number WordPre = 68
number WordProcedure = 69
number WordPut = 70
number WordQuit = 71
number WordRecord = 72
number WordResult = 73
number WordReturn = 74
number WordSet = 75
number WordString = 76
number WordTag = 77
number WordThen = 78
number WordTo = 79
number WordTrue = 80
number WordType = 81
number WordUnion = 82
number WordVar = 83
number WordWhen = 84

-- names, numbers and texts keep their text; of the others the class says all
abbrev pub keeps_text : ℕ → Bool
keeps_text c = nat_lt c 3

abbrev pub lexeme_of : Token → Lexeme
lexeme_of token = (number token.class, cond (keeps_text (number token.class)) token.text [])

abbrev pub lexemes : List Token → List Lexeme
lexemes tokens = map lexeme_of tokens

abbrev pub place_of : Token → Place
place_of token = record { start = token.start; line = token.line }

abbrev pub places : List Token → List Place
places tokens = map place_of tokens

abbrev pub end_of : TokenList → Place
end_of tokens = record { start = tokens.start; line = tokens.line }
