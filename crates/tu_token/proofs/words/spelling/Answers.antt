use Rattle.std.specs.Prelude.{◌≡◌, ℕ, ◌<◌, List, [], ◌∷◌, length, refl}
use Rattle.std.proofs.Common.{sym, subst, ◌∙◌, arith}
use Rattle.tu_token.specs.ClassNumbers.{number}
use Rattle.tu_token.specs.Spellings.{or_else, spelled_in}
use Rattle.tu_token.specs.Words.{signs, words}
use Rattle.tu_token.proofs.words.spelling.Goals as goal

-- what is empty gives way
gives_way : (text other : List ℕ) → length text < 1 → or_else text other ≡ other
gives_way [] other h = refl
gives_way (b ∷ text) other h = absurd (omega arith)

pub returns-in-empty : goal.returns-in-empty
unfolding words
returns-in-empty c =
    let h : length (spelled_in signs (number c.args.class)) < 1 = subst (λ (t : List ℕ). length t < 1) c.spelling_in.ensures c.in-empty.len_below in
    c.spelling_in-in-empty.ensures ∙ sym (gives_way (spelled_in signs (number c.args.class)) (spelled_in words (number c.args.class)) h)
