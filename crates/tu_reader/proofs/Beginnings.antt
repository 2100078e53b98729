-- What was read began with one of its first lexemes, and where none of them stands the reader stops at once.
use Rattle.std.proofs.Common.{◌≡◌, Bool, true, false, not, ◌&&◌, List, [], ◌∷◌, ◌++◌, refl, sym, ◌∙◌, ap, subst}
use Rattle.grammar.specs.Classes.{starts, next_class}
use Rattle.grammar.specs.Description.{Lexeme, Description, Derivation, print}
use Rattle.grammar.specs.Fault.{CanBegin}
use Rattle.grammar.specs.Grammar.{nullable, first}
use Rattle.grammar.specs.Reading.{Outcome, found, fault, unfinished, goes_on, read}
use Rattle.grammar.proofs.Beginning.{Begins, begins, will_start}
use Rattle.grammar.proofs.Level.{sound, read_finishes}
use Rattle.grammar.proofs.Places.{is_spelled}
use Rattle.grammar.proofs.Sound.{IsSound}
use Rattle.tu_token.proofs.Decides.{decides}
use Rattle.tu_token.specs.Rules.{Rule, body}
use Rattle.tu_token.specs.Table.{table}

pub starts_found : (d : Description Rule) (u rest : List Lexeme) (x : Derivation body d) → nullable table d ≡ false → read table d u ≡ found x rest → starts (first table d) u ≡ true
starts_found d u rest x n e =
    ap (λ v. starts (first table d) v) (is_spelled table decides d u rest x e)
    ∙ will_start table decides d (print x) rest (ap not n) (begins table decides x)

pub goes_on_starts : (d : Description Rule) (u : List Lexeme) (b : Bool) → nullable table d ≡ false → starts (first table d) u ≡ b → goes_on table d u ≡ b
goes_on_starts d u b n e = ap (λ z. not z && starts (first table d) u) n ∙ e

module _ (d : Description Rule) (u : List Lexeme) where
  none_taken : (took rest : List Lexeme) → u ≡ took ++ rest → CanBegin body d took → starts (first table d) u ≡ false → u ≡ rest
  none_taken [] rest e c h = e
  none_taken (y ∷ took) rest e c h =
      let b = subst (λ w. Begins table decides d (next_class w)) c.begins (begins table decides c.whole) in
      let s : starts (first table d) u ≡ true = ap (λ v. starts (first table d) v) e ∙ b in cc

  stops_by : (o : Outcome (Derivation body d)) → read table d u ≡ o → IsSound table d [] (read table d) u o → nullable table d ≡ false → starts (first table d) u ≡ false → read table d u ≡ fault u
  stops_by (found x rest) e s n h = absurd (let k = starts_found d u rest x n e in cc)
  stops_by (fault rest) e s n h = e ∙ ap fault (sym (none_taken s.took rest s.splits s.says h))
  stops_by unfinished e s n h = absurd (read_finishes table decides d u e)

  pub stops_at_once : nullable table d ≡ false → starts (first table d) u ≡ false → read table d u ≡ fault u
  stops_at_once n h = stops_by (read table d u) refl (sound table decides d u) n h
