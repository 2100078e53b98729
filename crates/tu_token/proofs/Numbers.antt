-- Classes with the same number are the same.
use Rattle.std.specs.Prelude.{◌≡◌, ℕ, List, [], ◌∷◌, slice_get, unwrap_or, refl}
use Rattle.std.proofs.Common.{ap, sym, ◌∙◌}
use Rattle.tu_token.specs.ClassNumbers.{number}
use Rattle.tu_token.specs.declared.class.Class.{Class}
use Rattle.tu_token.specs.declared.class.Class.TheVariants.{Name, Number, Text, SignAssign, SignImplies, SignLessOrEqual, SignGreaterOrEqual, SignRange, SignPower, SignNotEqual, SignPlus, SignMinus, SignStar, SignLess, SignGreater, SignEqual, SignLeftBracket, SignRightBracket, SignComma, SignColon, SignSemicolon, SignDot, WordAll, WordAnd, WordArray, WordAssert, WordBegin, WordBind, WordBody, WordBoolean, WordCase, WordClose, WordCollection, WordConst, WordDecreasing, WordDiv, WordElse, WordElsif, WordEnd, WordEnum, WordExit, WordExport, WordFalse, WordFor, WordForward, WordFree, WordFunction, WordGet, WordHandler, WordIf, WordImport, WordIn, WordInit, WordInt, WordInvariant, WordLabel, WordLoop, WordMod, WordModule, WordNew, WordNil, WordNot, WordOf, WordOpaque, WordOpen, WordOr, WordPointer, WordPost, WordPre, WordProcedure, WordPut, WordQuit, WordRecord, WordResult, WordReturn, WordSet, WordString, WordTag, WordThen, WordTo, WordTrue, WordType, WordUnion, WordVar, WordWhen}

abbrev all_classes : List Class
all_classes = Name ∷ Number ∷ Text ∷ SignAssign ∷ SignImplies ∷ SignLessOrEqual ∷ SignGreaterOrEqual ∷ SignRange ∷ SignPower ∷ SignNotEqual ∷ SignPlus ∷ SignMinus ∷ SignStar ∷ SignLess ∷ SignGreater ∷ SignEqual ∷ SignLeftBracket ∷ SignRightBracket ∷ SignComma ∷ SignColon ∷ SignSemicolon ∷ SignDot ∷ WordAll ∷ WordAnd ∷ WordArray ∷ WordAssert ∷ WordBegin ∷ WordBind ∷ WordBody ∷ WordBoolean ∷ WordCase ∷ WordClose ∷ WordCollection ∷ WordConst ∷ WordDecreasing ∷ WordDiv ∷ WordElse ∷ WordElsif ∷ WordEnd ∷ WordEnum ∷ WordExit ∷ WordExport ∷ WordFalse ∷ WordFor ∷ WordForward ∷ WordFree ∷ WordFunction ∷ WordGet ∷ WordHandler ∷ WordIf ∷ WordImport ∷ WordIn ∷ WordInit ∷ WordInt ∷ WordInvariant ∷ WordLabel ∷ WordLoop ∷ WordMod ∷ WordModule ∷ WordNew ∷ WordNil ∷ WordNot ∷ WordOf ∷ WordOpaque ∷ WordOpen ∷ WordOr ∷ WordPointer ∷ WordPost ∷ WordPre ∷ WordProcedure ∷ WordPut ∷ WordQuit ∷ WordRecord ∷ WordResult ∷ WordReturn ∷ WordSet ∷ WordString ∷ WordTag ∷ WordThen ∷ WordTo ∷ WordTrue ∷ WordType ∷ WordUnion ∷ WordVar ∷ WordWhen ∷ []

abbrev class_of : ℕ → Class
class_of n = unwrap_or (slice_get all_classes n) Name

again : (c : Class) → class_of (number c) ≡ c
again Name = refl
again c = refl

pub same_class : (c d : Class) → number c ≡ number d → c ≡ d
same_class c d e = sym (again c) ∙ (ap class_of e ∙ again d)
