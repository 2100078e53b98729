-- The code of expressions fits, defines its values in order, and weighs at most 12 for each token.
use Rattle.std.proofs.Common.{◌≡◌, ℕ, zero, suc, ◌+◌, ◌*◌, ◌<◌, ◌≤◌, Bool, true, false, List, [], ◌∷◌, ◌++◌, refl, subst, arith, Option, Some, None}
use Rattle.std.specs.Prelude.{if◌then◌else◌}
use Rattle.std.specs.Str.{bytes_eq}
use Rattle.grammar.specs.Tree.{height}
use Rattle.ir_form.specs.declared.unit.Routine.{Routine}
use Rattle.ir_form.specs.declared.unit.Unit.{Unit as RegionUnit}
use Rattle.ir_form.specs.Valid.{Scope}
use Rattle.ir_form.specs.Tests.{contains}
use Rattle.ir_code.specs.declared.code.Code.{Code}
use Rattle.tu_token.specs.Rules.{r-expr, r-compare, r-sum, r-term, r-prefix, r-primary, r-path, many}
use Rattle.tu_token.specs.Syntax.{Of}
use Rattle.tu_expr.specs.Parts.{Part, text_of}
use Rattle.tu_expr.specs.Views.{signed, multiplied}
use Rattle.tu_expr.specs.Levels.{OnlyCompare, OnlySum, OnlyPrimary}
use Rattle.tu_expr.specs.Forms.{NoMore, More, Compare, Related, Sum, Term, Added, Subtracted, Multiplied, Divided, Reduced, NumberValue, TrueValue, FalseValue, PathValue, Brackets, TextValue, NilValue, Path}
use Rattle.tu_tree_meaning.specs.Values.{Variable, variable_of}
use Rattle.tu_value.specs.Pieces.{literal_code, fetch_code, sum_code, difference_code, product_code, more_code, less_code}
use Rattle.tu_value.specs.Comparisons.{Comparison}
use Rattle.ir_build.specs.Relations.{comparison_of}
use Rattle.tu_value.specs.declared.pieces.Fixed.{Fixed}
use Rattle.ir_build.specs.Keeps.{Named}
use Rattle.ir_build.specs.Behind.{behind, SeesAll, Grows, addresses, known, Makes, Tests}
use Rattle.ir_build.specs.Laws.{ExpressionsFit, ConditionsFit}
use Rattle.ir_build.specs.Code.{Made, Tested, no_code, no_test, number_of, literal_of, named, fetched, plus, minus, times, tested, code_expr, code_sum, code_terms, code_term, code_factors, code_prefix, code_primary, code_path, test_compare, test_expr}
use Rattle.ir_build.proofs.States.{some_inj, none_is_some}
use Rattle.ir_build.specs.Tokens.{tokens_in}
use Rattle.ir_build.proofs.Tokens.{one_token}
use Rattle.ir_build.proofs.Fits.{kept_back, same_grows, grows_then, grows_more, behind_fits, behind_seen}
use Rattle.ir_build.proofs.Operations.{here, there, literal_grows, fetch_grows, sum_grows, difference_grows, product_grows, more_grows, less_grows, literal_fits, fetch_fits, sum_fits, difference_fits, product_fits, more_fits, less_fits}

pub still_sees : {most : ℕ} {code made : Code} (s : Scope) (vs : List ℕ) → Grows most code made → SeesAll (behind s code) vs → SeesAll (behind s made) vs
still_sees s [] g h = tt
still_sees s (v ∷ vs) g h = (g.kept s v h.0, still_sees s vs g h.1)

address_in : (y : Variable) (it n : Named) (names : List Named) (s : Scope) (b : Bool) → (if b then Some n else named y names) ≡ Some it → contains s.values n.at ≡ true → (named y names ≡ Some it → contains s.values it.at ≡ true) → contains s.values it.at ≡ true
address_in y it n names s true e h rest = subst (λ (z : Named). contains s.values z.at ≡ true) (some_inj e) h
address_in y it n names s false e h rest = rest e

pub address_seen : (y : Variable) (it : Named) (names : List Named) (s : Scope) → named y names ≡ Some it → SeesAll s (addresses names) → contains s.values it.at ≡ true
address_seen y it [] s e h = absurd (none_is_some e)
address_seen y it (n ∷ names) s e h = address_in y it n names s (bytes_eq y n.name) e h.0 (λ f. address_seen y it names s f h.1)

module _ (u : RegionUnit) (r : Routine) (k : Fixed) (names : List Named) where
  pub makes_more : {a most : ℕ} {code : Code} {made : Made} → Makes u r k names a code made → a ≤ most → Makes u r k names most code made
  makes_more m le = record { grows = grows_more m.grows le; fits = m.fits; seen = m.seen }

  nothing_made : (most : ℕ) (code : Code) → Makes u r k names most code (no_code code)
  nothing_made most code = record { grows = same_grows most code; fits = λ s h e. e; seen = λ s h. h.1.1.0 }

  literal_made : (number : ℕ) (code : Code) → Makes u r k names 1 code (record { code = record { ops = code.ops ++ literal_code number code.next; next = code.next + 1 }; value = code.next })
  literal_made number code = record {
    grows = literal_grows code number;
    fits = λ s h e. behind_fits u r 1 s code (literal_code number code.next) e (literal_fits (behind s code) number code.next);
    seen = λ s h. behind_seen 1 s code (literal_code number code.next) code.next (here code.next []);
  }

  fetched_made : (line : ℕ) (y : Variable) (code : Code) → Makes u r k names 3 code (fetched k names line code (named y names))
  fetched_made line y code = by (named y names) refl
    where
      by : (o : Option Named) → named y names ≡ o → Makes u r k names 3 code (fetched k names line code o)
      by None is = nothing_made 3 code
      by (Some n) is = record {
        grows = fetch_grows k line n.at code;
        fits = λ s h e. behind_fits u r 1 s code (fetch_code k line n.at code.next) e (fetch_fits (behind s code) k line n.at code.next (address_seen y n names (behind s code) is h.1.1.1, (h.0, tt)));
        seen = λ s h. behind_seen 1 s code (fetch_code k line n.at code.next) code.next (here code.next []);
      }

  -- the operands of an operator and the fixed values
  operands : {a b : ℕ} {code : Code} {x y : Made} → Makes u r k names a code x → Makes u r k names b x.code y → (s : Scope) → SeesAll (behind s code) (known k names) → SeesAll (behind s y.code) (x.value ∷ y.value ∷ k.zero ∷ k.top ∷ [])
  operands {a} {b} {code} {x} {y} m o s h =
      let g = still_sees s (known k names) m.grows h in
      let j = still_sees s (known k names) o.grows g in
      (o.grows.kept s x.value (m.seen s h), (o.seen s g, (j.0, (j.1.0, tt))))

  plus_made : {a b most : ℕ} {code : Code} {x y : Made} (line : ℕ) (number : Option ℕ) → Makes u r k names a code x → Makes u r k names b x.code y → a + b + 8 ≤ most → Makes u r k names most code (plus k names line x number y)
  plus_made {x = x} {y = y} line (Some number) m o le = record {
    grows = grows_then m.grows (more_grows line x.value number x.code) (omega (arith, le));
    fits = λ s h e. behind_fits u r 2 s x.code (more_code line x.value number x.code.next) (m.fits s h e) (more_fits (behind s x.code) line x.value number x.code.next (m.seen s h, tt));
    seen = λ s h. behind_seen 2 s x.code (more_code line x.value number x.code.next) (x.code.next + 1) (there x.code.next (x.code.next + 1) ((x.code.next + 1) ∷ []) (here (x.code.next + 1) []));
  }
  plus_made {x = x} {y = y} line None m o le = record {
    grows = grows_then (grows_then m.grows o.grows (omega arith)) (sum_grows k line x.value y.value y.code) le;
    fits = λ s h e. behind_fits u r 4 s y.code (sum_code k line x.value y.value y.code.next) (o.fits s (still_sees s (known k names) m.grows h) (m.fits s h e)) (sum_fits (behind s y.code) k line x.value y.value y.code.next (operands m o s h));
    seen = λ s h. behind_seen 4 s y.code (sum_code k line x.value y.value y.code.next) (y.code.next + 1) (there y.code.next (y.code.next + 1) ((y.code.next + 1) ∷ (y.code.next + 2) ∷ (y.code.next + 3) ∷ []) (here (y.code.next + 1) ((y.code.next + 2) ∷ (y.code.next + 3) ∷ [])));
  }

  minus_made : {a b most : ℕ} {code : Code} {x y : Made} (line : ℕ) (number : Option ℕ) → Makes u r k names a code x → Makes u r k names b x.code y → a + b + 8 ≤ most → Makes u r k names most code (minus k names line x number y)
  minus_made {x = x} {y = y} line (Some number) m o le = record {
    grows = grows_then m.grows (less_grows line x.value number x.code) (omega (arith, le));
    fits = λ s h e. behind_fits u r 2 s x.code (less_code line x.value number x.code.next) (m.fits s h e) (less_fits (behind s x.code) line x.value number x.code.next (m.seen s h, tt));
    seen = λ s h. behind_seen 2 s x.code (less_code line x.value number x.code.next) (x.code.next + 1) (there x.code.next (x.code.next + 1) ((x.code.next + 1) ∷ []) (here (x.code.next + 1) []));
  }
  minus_made {x = x} {y = y} line None m o le = record {
    grows = grows_then (grows_then m.grows o.grows (omega arith)) (difference_grows k line x.value y.value y.code) le;
    fits = λ s h e. behind_fits u r 4 s y.code (difference_code k line x.value y.value y.code.next) (o.fits s (still_sees s (known k names) m.grows h) (m.fits s h e)) (difference_fits (behind s y.code) k line x.value y.value y.code.next (operands m o s h));
    seen = λ s h. behind_seen 4 s y.code (difference_code k line x.value y.value y.code.next) (y.code.next + 1) (there y.code.next (y.code.next + 1) ((y.code.next + 1) ∷ (y.code.next + 2) ∷ (y.code.next + 3) ∷ []) (here (y.code.next + 1) ((y.code.next + 2) ∷ (y.code.next + 3) ∷ [])));
  }

  times_made : {a b most : ℕ} {code : Code} {x y : Made} (line : ℕ) → Makes u r k names a code x → Makes u r k names b x.code y → a + b + 11 ≤ most → Makes u r k names most code (times k names line x y)
  times_made {x = x} {y = y} line m o le = record {
    grows = grows_then (grows_then m.grows o.grows (omega arith)) (product_grows k line x.value y.value y.code) le;
    fits = λ s h e. behind_fits u r 7 s y.code (product_code k line x.value y.value y.code.next) (o.fits s (still_sees s (known k names) m.grows h) (m.fits s h e)) (product_fits (behind s y.code) k line x.value y.value y.code.next (operands m o s h));
    seen = λ s h. let n = y.code.next in behind_seen 7 s y.code (product_code k line x.value y.value n) (n + 6) (kept_back (n ∷ (n + 1) ∷ (n + 2) ∷ (n + 3) ∷ (n + 4) ∷ (n + 5) ∷ []) ((n + 6) ∷ []) (n + 6) (here (n + 6) []));
  }

  module _ (line : ℕ) where
    -- n: above the heights of the expressions in brackets
    module _ (n : ℕ) (inner : (e : Of r-expr) → height e < n → (code : Code) → Makes u r k names (12 * tokens_in e) code (code_expr k names line e code)) where
      path_made : (e : Of r-path) → (code : Code) → Makes u r k names (12 * tokens_in e) code (code_path k names line e code)
      path_made (Path m root NoMore) code = let one = one_token root in makes_more (fetched_made line (variable_of root) code) (omega arith)
      path_made (Path m root (More z zs)) code = nothing_made (12 * tokens_in (Path m root (More z zs))) code

      primary_made : (e : Of r-primary) → height e ≤ n → (code : Code) → Makes u r k names (12 * tokens_in e) code (code_primary k names line e code)
      primary_made (NumberValue m digits) h code = let one = one_token digits in makes_more (literal_made (number_of (text_of digits)) code) (omega arith)
      primary_made (PathValue m path) h code = path_made path code
      primary_made (Brackets m left e right) h code = makes_more (inner e (omega (arith, h)) code) (omega arith)
      primary_made (TrueValue m word) h code = nothing_made (12 * tokens_in (TrueValue m word)) code
      primary_made (FalseValue m word) h code = nothing_made (12 * tokens_in (FalseValue m word)) code
      primary_made (TextValue m text parts) h code = nothing_made (12 * tokens_in (TextValue m text parts)) code
      primary_made (NilValue m word left path right) h code = nothing_made (12 * tokens_in (NilValue m word left path right)) code

      prefix_made : (e : Of r-prefix) → height e ≤ n → (code : Code) → Makes u r k names (12 * tokens_in e) code (code_prefix k names line e code)
      prefix_made (OnlyPrimary m a y) h code = makes_more (primary_made y (omega (arith, h)) code) (omega arith)
      prefix_made other h code = nothing_made (12 * tokens_in other) code

      factors_made : (more : Part (many multiplied)) → height more ≤ n → {code : Code} {x : Made} (a : ℕ) → Makes u r k names a code x → Makes u r k names (a + 12 * tokens_in more) code (code_factors k names line x more)
      factors_made NoMore h a made = makes_more made (omega arith)
      factors_made (More (Multiplied sign operand) more) h {code} {x} a made =
          let one = one_token sign in
          let m = times_made {most = a + 12 * tokens_in operand + 11} line made (prefix_made operand (omega (arith, h)) x.code) (omega arith) in
          makes_more (factors_made more (omega (arith, h)) (a + 12 * tokens_in operand + 11) m) (omega arith)
      factors_made (More (Divided word operand) more) h a made = makes_more made (omega arith)
      factors_made (More (Reduced word operand) more) h a made = makes_more made (omega arith)

      term_made : (e : Of r-term) → height e ≤ n → (code : Code) → Makes u r k names (12 * tokens_in e) code (code_term k names line e code)
      term_made (Term m first more) h code = makes_more (factors_made more (omega (arith, h)) (12 * tokens_in first) (prefix_made first (omega (arith, h)) code)) (omega arith)

      terms_made : (more : Part (many signed)) → height more ≤ n → {code : Code} {x : Made} (a : ℕ) → Makes u r k names a code x → Makes u r k names (a + 12 * tokens_in more) code (code_terms k names line x more)
      terms_made NoMore h a made = makes_more made (omega arith)
      terms_made (More (Added sign operand) more) h {code} {x} a made =
          let one = one_token sign in
          let m = plus_made {most = a + 12 * tokens_in operand + 8} line (literal_of operand) made (term_made operand (omega (arith, h)) x.code) (omega arith) in
          makes_more (terms_made more (omega (arith, h)) (a + 12 * tokens_in operand + 8) m) (omega arith)
      terms_made (More (Subtracted sign operand) more) h {code} {x} a made =
          let one = one_token sign in
          let m = minus_made {most = a + 12 * tokens_in operand + 8} line (literal_of operand) made (term_made operand (omega (arith, h)) x.code) (omega arith) in
          makes_more (terms_made more (omega (arith, h)) (a + 12 * tokens_in operand + 8) m) (omega arith)

      sum_made : (e : Of r-sum) → height e ≤ n → (code : Code) → Makes u r k names (12 * tokens_in e) code (code_sum k names line e code)
      sum_made (Sum m first more) h code = makes_more (terms_made more (omega (arith, h)) (12 * tokens_in first) (term_made first (omega (arith, h)) code)) (omega arith)

      level_made : (e : Of r-expr) → height e ≤ n → (code : Code) → Makes u r k names (12 * tokens_in e) code (code_expr k names line e code)
      level_made (OnlySum m a b c d y) h code = makes_more (sum_made y (omega (arith, h)) code) (omega arith)
      level_made other h code = nothing_made (12 * tokens_in other) code

    below_made : (n : ℕ) (e : Of r-expr) → height e < n → (code : Code) → Makes u r k names (12 * tokens_in e) code (code_expr k names line e code)
    below_made zero e lt = absurd (omega (arith, lt))
    below_made (suc n) e lt = level_made n (below_made n) e (omega (arith, lt))

    -- an expression
    pub expr_made : (e : Of r-expr) (code : Code) → Makes u r k names (12 * tokens_in e) code (code_expr k names line e code)
    expr_made e code = below_made (suc (height e)) e (omega arith) code

    pub sum_is_made : (e : Of r-sum) (code : Code) → Makes u r k names (12 * tokens_in e) code (code_sum k names line e code)
    sum_is_made e code = sum_made (height e) (λ e lt. expr_made e) e (omega arith) code

  nothing_tested : (most : ℕ) (code : Code) → Tests u r k names most code (no_test code)
  nothing_tested most code = record { grows = same_grows most code; fits = λ s h e. e; left = λ s h. h.1.1.0; right = λ s h. h.1.1.0 }

  tested_of : {a b most : ℕ} {code : Code} {x y : Made} (c : Option Comparison) → Makes u r k names a code x → Makes u r k names b x.code y → a + b ≤ most → Tests u r k names most code (tested c x y)
  tested_of None m o le = record {
    grows = grows_then m.grows o.grows le;
    fits = λ s h e. o.fits s (still_sees s (known k names) m.grows h) (m.fits s h e);
    left = λ s h. o.grows.kept s 0 (m.grows.kept s 0 h.1.1.0);
    right = λ s h. o.grows.kept s 0 (m.grows.kept s 0 h.1.1.0);
  }
  tested_of (Some c) m o le = record {
    grows = grows_then m.grows o.grows le;
    fits = λ s h e. o.fits s (still_sees s (known k names) m.grows h) (m.fits s h e);
    left = λ s h. (operands m o s h).0;
    right = λ s h. (operands m o s h).1.0;
  }

  module _ (line : ℕ) where
    test_compare_made : (e : Of r-compare) (code : Code) → Tests u r k names (12 * tokens_in e) code (test_compare k names line e code)
    test_compare_made (Compare m first (More (Related relation operand) NoMore)) code =
        tested_of (comparison_of relation) (sum_is_made line first code) (sum_is_made line operand (code_sum k names line first code).code) (omega arith)
    test_compare_made (Compare m first NoMore) code = nothing_tested (12 * tokens_in (Compare m first NoMore)) code
    test_compare_made (Compare m first (More (Related relation operand) (More x xs))) code = nothing_tested (12 * tokens_in (Compare m first (More (Related relation operand) (More x xs)))) code

    tests_more : {a most : ℕ} {code : Code} {made : Tested} → Tests u r k names a code made → a ≤ most → Tests u r k names most code made
    tests_more m le = record { grows = grows_more m.grows le; fits = m.fits; left = m.left; right = m.right }

    -- a condition
    pub test_made : (e : Of r-expr) (code : Code) → Tests u r k names (12 * tokens_in e) code (test_expr k names line e code)
    test_made (OnlyCompare m a b c x) code = tests_more (test_compare_made x code) (omega arith)
    test_made other code = nothing_tested (12 * tokens_in other) code

pub expressions_fit : ExpressionsFit
expressions_fit u r k names line e code = expr_made u r k names line e code

pub conditions_fit : ConditionsFit
conditions_fit u r k names line e code = test_made u r k names line e code
