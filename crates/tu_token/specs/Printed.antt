-- The rules as they are printed, where the table has them in another form, so that one lexeme ahead decides, or has a part of
-- them as a rule of its own, so that the part has a place.
use Rattle.std.specs.Prelude.{◌≡◌, ◌↔◌, List}
use Rattle.grammar.specs.Description.{Lexeme, Description, rule, Derivation, print}
use Rattle.tu_token.specs.declared.class.Class.TheVariants.{Name, SignAssign, SignRange, SignStar, SignLeftBracket, SignRightBracket, SignComma, SignColon, SignSemicolon, WordAssert, WordBegin, WordBoolean, WordCase, WordClose, WordCollection, WordDecreasing, WordElse, WordElsif, WordEnd, WordEnum, WordExit, WordFor, WordFree, WordGet, WordHandler, WordIf, WordInit, WordInt, WordInvariant, WordLabel, WordLoop, WordModule, WordNew, WordOf, WordOpen, WordPointer, WordPost, WordPre, WordPut, WordQuit, WordRecord, WordResult, WordReturn, WordSet, WordString, WordTag, WordThen, WordTo, WordUnion, WordVar, WordWhen}
use Rattle.tu_token.specs.Rules.{Rule, r-expr, r-block, r-var, r-names, r-spec, r-start, r-index, r-name, r-base, r-range, r-field, r-variant, r-rest, r-given, r-module, r-import, r-export, r-const, r-type, r-subprogram, r-statement, r-path, r-shown, r-taken, ◌⨟◌, ◌∣◌, many, maybe, t, listed, body}

-- an arm of a `case`, and its last arm without labels
abbrev pub labelled : Description Rule
labelled = t WordLabel ⨟ listed r-expr ⨟ t SignColon ⨟ rule r-block

abbrev pub unlabelled : Description Rule
unlabelled = t WordLabel ⨟ t SignColon ⨟ rule r-block

abbrev pub printed : Rule → Description Rule
printed r-var =
    t WordVar ⨟ rule r-names ⨟ t SignColon ⨟ t WordCollection ⨟ t WordOf ⨟ rule r-spec
    ∣ t WordVar ⨟ rule r-names ⨟ t SignColon ⨟ rule r-spec ⨟ maybe (t SignAssign ⨟ rule r-start)
    ∣ t WordVar ⨟ rule r-names ⨟ t SignAssign ⨟ rule r-expr
printed r-index =
    rule r-expr ⨟ t SignRange ⨟ (rule r-expr ∣ t SignStar)
    ∣ rule r-name
printed r-base =
    t WordInt
    ∣ t WordBoolean
    ∣ t WordString ⨟ maybe (t SignLeftBracket ⨟ (rule r-expr ∣ t SignStar) ⨟ t SignRightBracket)
    ∣ rule r-range
    ∣ t WordEnum ⨟ t SignLeftBracket ⨟ rule r-names ⨟ t SignRightBracket
    ∣ t WordSet ⨟ t WordOf ⨟ rule r-range
    ∣ t WordPointer ⨟ t WordTo ⨟ rule r-name
    ∣ t WordRecord ⨟ rule r-field ⨟ many (rule r-field) ⨟ t WordEnd ⨟ t WordRecord
    ∣ t WordUnion ⨟ maybe (t Name) ⨟ t SignColon ⨟ rule r-range ⨟ t WordOf ⨟ many (rule r-variant) ⨟ t WordEnd ⨟ t WordUnion
printed r-range =
    rule r-expr ⨟ t SignRange ⨟ rule r-expr
    ∣ rule r-name
printed r-rest =
    maybe (t WordPre ⨟ rule r-expr) ⨟ maybe (t WordInit ⨟ listed r-given) ⨟ maybe (t WordPost ⨟ rule r-expr) ⨟ maybe (t WordHandler ⨟ t SignLeftBracket ⨟ t Name ⨟ t SignRightBracket ⨟ rule r-block ⨟ t WordEnd ⨟ t WordHandler) ⨟ rule r-block ⨟ t WordEnd ⨟ t Name
printed r-module =
    t WordModule ⨟ t Name ⨟ maybe (rule r-import) ⨟ maybe (rule r-export) ⨟ many ((rule r-const ∣ rule r-var ∣ rule r-type ∣ rule r-subprogram ∣ rule r-statement ∣ t WordInvariant ⨟ rule r-expr) ⨟ maybe (t SignSemicolon)) ⨟ t WordEnd ⨟ t Name
printed r-statement =
    rule r-path ⨟ t SignAssign ⨟ rule r-expr
    ∣ rule r-path
    ∣ t WordIf ⨟ rule r-expr ⨟ t WordThen ⨟ rule r-block ⨟ many (t WordElsif ⨟ rule r-expr ⨟ t WordThen ⨟ rule r-block) ⨟ maybe (t WordElse ⨟ rule r-block) ⨟ t WordEnd ⨟ t WordIf
    ∣ t WordLoop ⨟ maybe (t WordInvariant ⨟ rule r-expr) ⨟ rule r-block ⨟ t WordEnd ⨟ t WordLoop
    ∣ t WordFor ⨟ maybe (t WordDecreasing) ⨟ t Name ⨟ t SignColon ⨟ rule r-range ⨟ maybe (t WordInvariant ⨟ rule r-expr) ⨟ rule r-block ⨟ t WordEnd ⨟ t WordFor
    ∣ t WordCase ⨟ rule r-expr ⨟ t WordOf ⨟ many labelled ⨟ maybe unlabelled ⨟ t WordEnd ⨟ t WordCase
    ∣ t WordBegin ⨟ rule r-block ⨟ t WordEnd
    ∣ t WordExit ⨟ maybe (t WordWhen ⨟ rule r-expr)
    ∣ t WordReturn
    ∣ t WordResult ⨟ rule r-expr
    ∣ t WordAssert ⨟ rule r-expr
    ∣ t WordNew ⨟ rule r-path ⨟ t SignComma ⨟ rule r-path
    ∣ t WordFree ⨟ rule r-path ⨟ t SignComma ⨟ rule r-path
    ∣ t WordTag ⨟ rule r-path ⨟ t SignComma ⨟ rule r-expr
    ∣ t WordPut ⨟ maybe (t SignColon ⨟ rule r-expr ⨟ t SignComma) ⨟ listed r-shown ⨟ maybe (t SignRange)
    ∣ t WordGet ⨟ maybe (t SignColon ⨟ rule r-expr ⨟ t SignComma) ⨟ listed r-taken
    ∣ t WordOpen ⨟ t SignColon ⨟ rule r-path ⨟ t SignComma ⨟ rule r-expr ⨟ t SignComma ⨟ (t WordPut ∣ t WordGet)
    ∣ t WordClose ⨟ t SignColon ⨟ rule r-expr
    ∣ t WordQuit ⨟ maybe (t SignColon ⨟ rule r-expr)
printed n = body n

-- some derivation prints the list
pub record IsSpelled {Rule : Type 0} (body : Rule → Description Rule) (d : Description Rule) (u : List Lexeme) : Type 0 where
  pub derivation : Derivation body d
  pub prints : print derivation ≡ u

-- each description, and so each rule and the whole program, spells the same lists by the rules of the table and as printed
abbrev pub SpellsTheSame : Type 0
SpellsTheSame = (d : Description Rule) (u : List Lexeme) → IsSpelled body d u ↔ IsSpelled printed d u
