-- Lists with commas between.
use Rattle.std.proofs.Common.{◌≡◌, ◌&&◌, true, false, List, [], ◌∷◌, ◌++◌, refl, sym, ◌∙◌, ap, subst}
use Rattle.grammar.specs.Description.{empty, rule}
use Rattle.grammar.specs.Grammar.{nullable}
use Rattle.grammar.specs.Tree.{n-token, n-empty, n-sequence}
use Rattle.tu_token.specs.declared.class.Class.TheVariants.{SignComma}
use Rattle.tu_token.specs.Rules.{Rule, ◌⨟◌, t, many, maybe, listed}
use Rattle.tu_token.specs.Syntax.{Of}
use Rattle.tu_token.specs.Table.{table}
use Rattle.tu_expr.specs.Parts.{Part, listing, any_listing}
use Rattle.tu_reader.specs.Ahead.{Ahead}
use Rattle.tu_reader.specs.Reads.{Takes, Stops, Sees}
use Rattle.tu_reader.specs.declared.stop.Stop.{Stop}
use Rattle.tu_reader.proofs.Steps.{◌▸◌, ◌▹◌, left_takes, left_stops, Turns, no_turns, turns_more, turns_stop, turns_end, starts_taken, sequence_begins}

abbrev pub behind_comma : (n : Rule) → Of n → Part (t SignComma ⨟ rule n)
behind_comma n x = n-sequence n-token x

-- the first and then more
pub record FirstOf (n : Rule) (x : Of n) (more : List (Of n)) (i k : Ahead) : Type 0 where
  pub behind : Ahead
  pub first : Takes (rule n) i x behind
  pub turns : Turns (t SignComma ⨟ rule n) (behind_comma n) more behind k

-- some were read, one at least
abbrev Nonempty : (n : Rule) → List (Of n) → Ahead → Ahead → Type 0
Nonempty n [] i k = ⊥
Nonempty n (x ∷ more) i k = FirstOf n x more i k

pub record Listed (n : Rule) (xs : List (Of n)) (i k : Ahead) : Type 0 where
  pub is : Nonempty n xs i k

pub listed_first : {n : Rule} {none xs : List (Of n)} {x : Of n} {i j : Ahead} → none ≡ [] → xs ≡ none ++ x ∷ [] → Takes (rule n) i x j → Listed n xs i j
listed_first {n = n} {x = x} {i = i} {j = j} h e p = let L : List (Of n) → Type 0 = λ z. Listed n z i j in subst L (sym (e ∙ ap (λ z. z ++ x ∷ []) h)) (record { is = record { behind = j; first = p; turns = no_turns refl } })

pub listed_more : {n : Rule} {xs ys : List (Of n)} {x : Of n} {i k j : Ahead} → ys ≡ xs ++ x ∷ [] → Listed n xs i k → Takes (t SignComma ⨟ rule n) k (behind_comma n x) j → Listed n ys i j
listed_more {n = n} {xs = xs} {x = x} {i = i} {k = k} {j = j} e l p = let L : List (Of n) → Type 0 = λ z. Listed n z i j in subst L (sym e) (by xs l.is)
  where
    by : (zs : List (Of n)) → Nonempty n zs i k → Listed n (zs ++ x ∷ []) i j
    by [] h = absurd h
    by (z ∷ zs) h = record { is = record { behind = h.behind; first = h.first; turns = turns_more refl refl h.turns p } }

pub listed_end : {n : Rule} {x : Of n} {more : List (Of n)} {i k j : Ahead} → Listed n (x ∷ more) i k → Sees SignComma k false → Takes empty k n-empty j → Takes (listed n) i (listing n x more) j
listed_end l s p = l.is.first ▸ turns_end refl l.is.turns s p

pub any_listed_takes : {n : Rule} {xs : List (Of n)} {i k j : Ahead} → nullable table (rule n) ≡ false → Listed n xs i k → Sees SignComma k false → Takes empty k n-empty j → Takes (maybe (listed n)) i (any_listing n xs) j
any_listed_takes {n = n} {xs = xs} {i = i} {k = k} {j = j} h l s p = by xs l
  where
    by : (zs : List (Of n)) → Listed n zs i k → Takes (maybe (listed n)) i (any_listing n zs) j
    by [] l = absurd l.is
    by (z ∷ zs) l = left_takes (ap (λ b. b && true) h) (listed_end l s p)

-- a fault in a further one
pub listed_stops : {n : Rule} {xs : List (Of n)} {i k s : Ahead} {e : Stop} → Listed n xs i k → Sees SignComma k true → Stops (t SignComma ⨟ rule n) k e s → Stops (listed n) i e s
listed_stops {n = n} {xs = xs} {i = i} {k = k} {s = s} {e = e} l q p = by xs l
  where
    by : (zs : List (Of n)) → Listed n zs i k → Stops (listed n) i e s
    by [] l = absurd l.is
    by (z ∷ zs) l = l.is.first ▹ turns_stop refl l.is.turns q p

pub any_listed_stops : {n : Rule} {xs : List (Of n)} {i k s : Ahead} {e : Stop} → nullable table (rule n) ≡ false → Listed n xs i k → Sees SignComma k true → Stops (t SignComma ⨟ rule n) k e s → Stops (maybe (listed n)) i e s
any_listed_stops {n = n} {xs = xs} {i = i} {k = k} {s = s} {e = e} h l q p = by xs l
  where
    by : (zs : List (Of n)) → Listed n zs i k → Stops (maybe (listed n)) i e s
    by [] l = absurd l.is
    by (z ∷ zs) l = left_stops (sequence_begins (rule n) (many (t SignComma ⨟ rule n)) (starts_taken h l.is.first)) (listed_stops l q p)
