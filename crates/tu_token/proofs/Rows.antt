-- Worked rows of the definitions.
use Rattle.std.proofs.Common.{◌≡◌, [], ◌∷◌, Some, None, true, false, codes, refl}
use Rattle.tu_token.specs.declared.class.Class.TheVariants.{Name, Number, Text, SignNotEqual, SignAssign, SignRange, WordPut, WordIf, WordEnd, WordForward, WordProcedure, WordBegin, SignLeftBracket}
use Rattle.tu_token.specs.declared.nest.Construct.TheVariants.{Begin, Bracket}
use Rattle.tu_token.specs.Words.{words}
use Rattle.tu_token.specs.Scans.{bad_place, contents, literal_of}
use Rattle.tu_token.specs.Lexemes.{shape_of, Separator, Lexeme, tokens_of}
use Rattle.tu_token.specs.Nests.{no_nest, nest_after}
use Rattle.tu_token.specs.LexFaults.{is_bad_number}

put : shape_of (codes "put") ≡ Some (Lexeme WordPut)
unfolding words
put = refl

names : (shape_of (codes "putt") ≡ Some (Lexeme Name)) × (shape_of (codes "p_1") ≡ Some (Lexeme Name)) × (shape_of (codes "_p") ≡ None) × (shape_of (codes "Put") ≡ Some (Lexeme Name))
unfolding words
names = (refl, refl, refl, refl)

signs : (shape_of (codes "not=") ≡ Some (Lexeme SignNotEqual)) × (shape_of (codes "not==") ≡ None) × (shape_of (codes ":=") ≡ Some (Lexeme SignAssign)) × (shape_of (codes "..") ≡ Some (Lexeme SignRange)) × (shape_of (codes "...") ≡ None) × (shape_of (codes "/") ≡ None)
signs = (refl, refl, refl, refl, refl, refl)

-- a comment that begins with `/*/` is still open
comments : (shape_of (codes "/*/") ≡ None) × (shape_of (codes "/**/") ≡ Some Separator) × (shape_of (codes "/* a % b */") ≡ Some Separator) × (shape_of (codes "/**/*/") ≡ None) × (shape_of (codes "%/*") ≡ Some Separator)
comments = (refl, refl, refl, refl, refl)

-- `"a\"b"`, `"a\q"`, `"a` and `"a"b"`
texts : (shape_of (34 ∷ (97 ∷ (92 ∷ (34 ∷ (98 ∷ (34 ∷ [])))))) ≡ Some (Lexeme Text)) × (shape_of (34 ∷ (97 ∷ (92 ∷ (113 ∷ (34 ∷ []))))) ≡ None) × (shape_of (34 ∷ (97 ∷ [])) ≡ None) × (shape_of (34 ∷ (97 ∷ (34 ∷ (98 ∷ (34 ∷ []))))) ≡ None)
texts = (refl, refl, refl, refl)

-- `a\tb` stands for three bytes; the unknown escape in `a\q"` stands at place 2 of its text
escapes : (contents false (97 ∷ (92 ∷ (116 ∷ (98 ∷ [])))) ≡ 97 ∷ (9 ∷ (98 ∷ []))) × (bad_place false 1 (97 ∷ (92 ∷ (113 ∷ (34 ∷ [])))) ≡ Some 2) × (bad_place false 1 (97 ∷ (13 ∷ (34 ∷ []))) ≡ Some 2)
escapes = (refl, refl, refl)

literal : literal_of (34 ∷ (97 ∷ (92 ∷ (116 ∷ (98 ∷ (34 ∷ [])))))) ≡ 97 ∷ (9 ∷ (98 ∷ []))
literal = refl

numbers : (is_bad_number (codes "2147483647") ≡ false) × (is_bad_number (codes "2147483648") ≡ true) × (is_bad_number (codes "1a") ≡ true) × (is_bad_number (codes "1..2") ≡ false) × (is_bad_number (codes "1.5") ≡ true) × (is_bad_number (codes "1.x") ≡ false)
numbers = (refl, refl, refl, refl, refl, refl)

-- `if`, `end` and `if` leave nothing open, and `begin`, `end` and `begin` do
nests : ((nest_after (nest_after (nest_after no_nest WordIf) WordEnd) WordIf).stack ≡ []) × ((nest_after (nest_after (nest_after no_nest WordBegin) WordEnd) WordBegin).stack ≡ Begin ∷ []) × ((nest_after (nest_after no_nest WordForward) WordProcedure).stack ≡ []) × ((nest_after (nest_after no_nest SignLeftBracket) WordEnd).stack ≡ Bracket ∷ [])
nests = (refl, refl, refl, refl)

-- `put`, a line end, a blank and `1`
tokens : tokens_of 0 1 (codes "put" ∷ ((10 ∷ (32 ∷ [])) ∷ (codes "1" ∷ []))) ≡ record { class = WordPut; text = codes "put"; start = 0; length = 3; line = 1 } ∷ (record { class = Number; text = codes "1"; start = 5; length = 1; line = 2 } ∷ [])
unfolding words
tokens = refl
