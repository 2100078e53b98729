-- A long rule with more behind it, or a short one.
use Rattle.std.proofs.Common.{◌≡◌, ◌+◌, ◌≤◌, length, true, false, Some, None, Ok, Err, refl, sym, ◌∙◌, ap, subst, arith}
use Rattle.grammar.specs.Description.{Description, rule, span}
use Rattle.grammar.specs.Grammar.{nullable}
use Rattle.grammar.specs.Placed.{Stands}
use Rattle.grammar.specs.Reading.{found}
use Rattle.grammar.specs.Tree.{Mark, n-span, n-short, erase}
use Rattle.grammar.proofs.Standing.{span_stands, short_stands}
use Rattle.grammar.proofs.Steps.{span_found, span_fault, span_fault_behind, short_found, short_fault}
use Rattle.tu_token.proofs.Decides.{decides}
use Rattle.tu_token.specs.ClassNumbers.{lexemes}
use Rattle.tu_token.specs.Rules.{Rule, r-expr, r-name}
use Rattle.tu_token.specs.Syntax.{Of}
use Rattle.tu_token.specs.Table.{table}
use Rattle.tu_expr.specs.Parts.{Part}
use Rattle.tu_reader.specs.Ahead.{Ahead, input, weight}
use Rattle.tu_reader.specs.Reads.{Takes, Stops, Begins}
use Rattle.tu_reader.specs.declared.stop.Stop.{Stop}
use Rattle.tu_reader.specs.declared.stop.Stop.TheVariants.{Unexpected, Memory}
use Rattle.tu_reader.proofs.Beginnings.{starts_found}
use Rattle.tu_reader.proofs.Steps.{out_of_memory}
use Rattle.tu_types_reader.specs.Shortened.{Shortens}
use Rattle.tu_types_reader.proofs.NamePlaces.{mark_read, name_stands, shorter}
use Rattle.tu_types_reader.proofs.Shortenings.{erased, shortens}

module _ {long short : Rule} {b : Description Rule} {i k : Ahead} where
  pub span_takes : {x : Of long} {y : Part b} {j : Ahead} → nullable table b ≡ false → Takes (rule long) i x k → Takes b k y j → Takes (span long short b) i (n-span x y) j
  span_takes {x = x} {y = y} {j = j} n p q = record {
    is_read = span_found table decides long short b (lexemes i.tokens) (lexemes k.tokens) (lexemes j.tokens) (erase x) (erase y) p.is_read (starts_found b (lexemes k.tokens) (lexemes j.tokens) (erase y) n q.is_read) q.is_read;
    stands = span_stands table long short b (input i) (input k) (input j) x y p.stands q.stands;
  }

  pub span_stops : {e : Stop} → Stops (rule long) i e k → Stops (span long short b) i e k
  span_stops p = record { is_fault = λ h. span_fault table decides long short b (lexemes i.tokens) (lexemes k.tokens) (p.is_fault h) }

  pub span_stops_behind : {x : Of long} {e : Stop} {s : Ahead} → Takes (rule long) i x k → Begins b k true → Stops b k e s → Stops (span long short b) i e s
  span_stops_behind {x = x} {s = s} q h p = record { is_fault = λ z. span_fault_behind table decides long short b (lexemes i.tokens) (lexemes k.tokens) (lexemes s.tokens) (erase x) q.is_read h.is (p.is_fault z) }

  pub short_takes : {x : Of long} {z : Of short} {j : Ahead} → Takes (rule long) i x k → Begins b k false → table.shorten long short (erase x) ≡ Some (erase z) → j.tokens ≡ k.tokens → Stands table (input i) z (input j) → Takes (span long short b) i (n-short z) j
  short_takes {x = x} {z = z} {j = j} p h e same s = record {
    is_read = short_found table decides long short b (lexemes i.tokens) (lexemes k.tokens) (erase x) (erase z) p.is_read h.is e ∙ ap (λ w. found (erase (n-short {long = long} {b = b} z)) (lexemes w)) (sym same);
    stands = short_stands table long short b (input i) (input j) z s;
  }

  pub short_stops : {x : Of long} → Takes (rule long) i x k → Begins b k false → table.shorten long short (erase x) ≡ None → Stops (span long short b) i Unexpected k
  short_stops {x = x} p h e = record { is_fault = λ q. short_fault table decides long short b (lexemes i.tokens) (lexemes k.tokens) (erase x) p.is_read h.is e }

module _ {b : Description Rule} {i k : Ahead} {x : Of r-expr} where
  pub name_takes : {z : Of r-name} {j : Ahead} → Takes (rule r-expr) i x k → Begins b k false → Shortens x (Ok z) k j → Takes (span r-expr r-name b) i (n-short z) j
  name_takes {z = z} {j = j} p h s =
      let S : Ahead → Type 0 = λ w. Stands table (input i) z (input w) in
      short_takes p h (shortens x ∙ ap erased s.0) (ap (λ (w : Ahead). w.tokens) s.1) (subst S (sym s.1) (name_stands p s.0))

  pub name_stops : (e : Stop) {j : Ahead} → Takes (rule r-expr) i x k → Begins b k false → Shortens x (Err e) k j → Stops (span r-expr r-name b) i e j
  name_stops Unexpected p h s = let S : Ahead → Type 0 = λ w. Stops (span r-expr r-name b) i Unexpected w in subst S (sym s.1) (short_stops p h (shortens x ∙ ap erased s.0))
  name_stops Memory p h s = out_of_memory

-- a name in place of an expression numbers no more than the expression
pub name_weight : {i k j : Ahead} {x : Of r-expr} {z : Of r-name} → Takes (rule r-expr) i x k → Shortens x (Ok z) k j → weight j + 21 ≤ weight i
name_weight {i = i} {k = k} {j = j} {x = x} p s =
    let number : j.number ≡ i.number + 1 = ap (λ (w : Ahead). w.number) s.1 ∙ ap (λ (m : Mark). m.number + 1) (mark_read {n = r-expr} refl p) in
    let tokens : length j.tokens ≡ length k.tokens = ap (λ (w : Ahead). length w.tokens) s.1 in
    let less : length k.tokens + 1 ≤ length i.tokens = shorter refl p in
    omega arith
