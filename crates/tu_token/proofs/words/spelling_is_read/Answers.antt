use Rattle.std.proofs.Common.{◌≡◌, false, refl}
use Rattle.std.specs.Prelude.{Some}
use Rattle.tu_token.specs.declared.class.Class.{Class}
use Rattle.tu_token.specs.declared.class.Class.TheVariants.{Name, Number, Text}
use Rattle.tu_token.specs.ClassNumbers.{number, keeps_text}
use Rattle.tu_token.specs.Lexemes.{shape_of, Lexeme}
use Rattle.tu_token.specs.Words.{words}
use Rattle.tu_token.specs.Spellings.{spelling}
use Rattle.tu_token.proofs.words.spelling_is_read.Goals as goal

read : (class : Class) → keeps_text (number class) ≡ false → shape_of (spelling (number class)) ≡ Some (Lexeme class)
unfolding words
read Name h = absurd (cc)
read Number h = absurd (cc)
read Text h = absurd (cc)
read class h = refl

pub returns : goal.returns
returns c = read
