-- Two parts that were read together, with a third behind them.
use Rattle.std.proofs.Common.{◌≡◌, List, [], refl, sym, ◌∙◌, ap}
use Rattle.grammar.specs.Description.{Lexeme, Description, Derivation, d-sequence, sequence}
use Rattle.grammar.specs.Reading.{Outcome, found, fault, unfinished, read}
use Rattle.grammar.specs.Tree.{n-sequence, erase}
use Rattle.grammar.proofs.Level.{read_finishes}
use Rattle.grammar.proofs.Standing.{sequence_stands}
use Rattle.grammar.proofs.Steps.{sequence_found, sequence_fault, sequence_fault_behind}
use Rattle.tu_token.proofs.Decides.{decides}
use Rattle.tu_token.specs.ClassNumbers.{lexemes}
use Rattle.tu_token.specs.Rules.{Rule, body}
use Rattle.tu_token.specs.Table.{table}
use Rattle.tu_expr.specs.Parts.{Part}
use Rattle.tu_reader.specs.Ahead.{Ahead, input}
use Rattle.tu_reader.specs.Reads.{Takes, Stops}
use Rattle.tu_reader.specs.declared.stop.Stop.{Stop}
use Rattle.tu_types_reader.proofs.NamePlaces.{Standing, parts_stand}

abbrev D : Description Rule → Type 0
D d = Derivation body d

abbrev fault_of : (d : Description Rule) → List Lexeme → Outcome (D d)
fault_of d u = fault u

abbrev first_of : {a b : Description Rule} → D a → Outcome (D (sequence a b)) → D a
first_of z (found (d-sequence x y) rest) = x
first_of z (fault rest) = z
first_of z unfinished = z

abbrev second_of : {a b : Description Rule} → D b → Outcome (D (sequence a b)) → D b
second_of z (found (d-sequence x y) rest) = y
second_of z (fault rest) = z
second_of z unfinished = z

abbrev left_of : {d : Description Rule} → Outcome (D d) → List Lexeme
left_of (found x rest) = rest
left_of (fault rest) = rest
left_of unfinished = []

-- both parts were read, with a place between them
record Split (a b : Description Rule) (u v : List Lexeme) (x : D a) (y : D b) : Type 0 where
  between : List Lexeme
  first : read table a u ≡ found x between
  second : read table b between ≡ found y v

module _ (a b : Description Rule) (u : List Lexeme) where
  split : (v : List Lexeme) (x : D a) (y : D b) → read table (sequence a b) u ≡ found (d-sequence x y) v → Split a b u v x y
  split v x y h = by (read table a u) refl
    where
      inside : (z : D a) (r : List Lexeme) → read table a u ≡ found z r → (o : Outcome (D b)) → read table b r ≡ o → Split a b u v x y
      inside z r e (found w s) k =
          let both = sym (sequence_found table decides a b u r s z w e k) ∙ h in
          record {
            between = r;
            first = e ∙ ap (λ q. found q r) (ap (first_of z) both);
            second = k ∙ ap (λ q. found q s) (ap (second_of w) both) ∙ ap (found y) (ap left_of both);
          }
      inside z r e (fault s) k = absurd (let f = sequence_fault_behind table decides a b u r s z e k in cc)
      inside z r e unfinished k = absurd (read_finishes table decides b r k)

      by : (o : Outcome (D a)) → read table a u ≡ o → Split a b u v x y
      by (found z r) e = inside z r e (read table b r) refl
      by (fault r) e = absurd (let f = sequence_fault table decides a b u r e in cc)
      by unfinished e = absurd (read_finishes table decides a u e)

  fault_grouped : (c : Description Rule) (v : List Lexeme) → read table (sequence a b) u ≡ fault v → read table (sequence a (sequence b c)) u ≡ fault v
  fault_grouped c v h = by (read table a u) refl
    where
      same : (s : List Lexeme) → read table (sequence a b) u ≡ fault s → fault_of (sequence a (sequence b c)) s ≡ fault_of (sequence a (sequence b c)) v
      same s f = ap (λ o. fault_of (sequence a (sequence b c)) (left_of o)) (sym f ∙ h)

      inside : (z : D a) (r : List Lexeme) → read table a u ≡ found z r → (o : Outcome (D b)) → read table b r ≡ o → read table (sequence a (sequence b c)) u ≡ fault v
      inside z r e (found w s) k = absurd (let f = sequence_found table decides a b u r s z w e k in cc)
      inside z r e (fault s) k = sequence_fault_behind table decides a (sequence b c) u r s z e (sequence_fault table decides b c r s k) ∙ same s (sequence_fault_behind table decides a b u r s z e k)
      inside z r e unfinished k = absurd (read_finishes table decides b r k)

      by : (o : Outcome (D a)) → read table a u ≡ o → read table (sequence a (sequence b c)) u ≡ fault v
      by (found z r) e = inside z r e (read table b r) refl
      by (fault r) e = sequence_fault table decides a (sequence b c) u r e ∙ same r (sequence_fault table decides a b u r e)
      by unfinished e = absurd (read_finishes table decides a u e)

pub takes_together : {a b c : Description Rule} {i j k : Ahead} {x : Part a} {y : Part b} {z : Part c} → Takes (sequence a b) i (n-sequence x y) j → Takes c j z k → Takes (sequence a (sequence b c)) i (n-sequence x (n-sequence y z)) k
takes_together {a = a} {b = b} {c = c} {i = i} {j = j} {k = k} {x = x} {y = y} {z = z} p q =
    let s = split a b (lexemes i.tokens) (lexemes j.tokens) (erase x) (erase y) p.is_read in
    let whole : Standing (input i) (n-sequence x y) (input j) = record { stands = p.stands } in
    let parts = parts_stand whole in
    record {
      is_read = sequence_found table decides a (sequence b c) (lexemes i.tokens) s.between (lexemes k.tokens) (erase x) (d-sequence (erase y) (erase z)) s.first (sequence_found table decides b c s.between (lexemes j.tokens) (lexemes k.tokens) (erase y) (erase z) s.second q.is_read);
      stands = sequence_stands table a (sequence b c) (input i) parts.between (input k) x (n-sequence y z) parts.before.stands (sequence_stands table b c parts.between (input j) (input k) y z parts.behind.stands q.stands);
    }

pub stops_together : {a b c : Description Rule} {i s : Ahead} {e : Stop} → Stops (sequence a b) i e s → Stops (sequence a (sequence b c)) i e s
stops_together {a = a} {b = b} {c = c} {i = i} {s = s} p = record { is_fault = λ h. fault_grouped a b (lexemes i.tokens) c (lexemes s.tokens) (p.is_fault h) }

-- a fault in the third
pub stops_behind : {a b c : Description Rule} {i j s : Ahead} {x : Part a} {y : Part b} {e : Stop} → Takes (sequence a b) i (n-sequence x y) j → Stops c j e s → Stops (sequence a (sequence b c)) i e s
stops_behind {a = a} {b = b} {c = c} {i = i} {j = j} {s = s} {x = x} {y = y} q p =
    let parts = split a b (lexemes i.tokens) (lexemes j.tokens) (erase x) (erase y) q.is_read in
    record { is_fault = λ h. sequence_fault_behind table decides a (sequence b c) (lexemes i.tokens) parts.between (lexemes s.tokens) (erase x) parts.first (sequence_fault_behind table decides b c parts.between (lexemes j.tokens) (lexemes s.tokens) (erase y) parts.second (p.is_fault h)) }
