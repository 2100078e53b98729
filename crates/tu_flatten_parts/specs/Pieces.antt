-- A piece as a lexeme.
use Rattle.std.specs.Prelude.{[]}
use Rattle.grammar.specs.Description.{Lexeme}
use Rattle.tu_token.specs.declared.class.Class.TheVariants as class
use Rattle.tu_token.specs.ClassNumbers.{number}
use Rattle.tu_flatten_parts.specs.declared.pieces.Piece.{Piece}
use Rattle.tu_flatten_parts.specs.declared.pieces.Piece.TheVariants.{Name, Number, Text, Word}

-- its class and text, where that of a sign or word is left out
abbrev pub lexeme_of : Piece → Lexeme
lexeme_of (Name text) = (number class.Name, text)
lexeme_of (Number text) = (number class.Number, text)
lexeme_of (Text text) = (number class.Text, text)
lexeme_of (Word c) = (number c, [])
