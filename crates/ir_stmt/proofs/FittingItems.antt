-- The code of declarations and items fits, and weighs at most 12 for each token.
use Rattle.std.proofs.Common.{◌≡◌, ℕ, ◌+◌, ◌*◌, ◌<◌, ◌≤◌, true, false, List, [], ◌∷◌, length, refl, arith}
use Rattle.std.specs.Prelude.{nat_lt}
use Rattle.std.proofs.lemmas.Bool.Decides.{nat_tests}
use Rattle.grammar.specs.Description.{rule}
use Rattle.grammar.specs.Tree.{n-rule, n-right}
use Rattle.ir_form.specs.declared.unit.Routine.{Routine}
use Rattle.ir_form.specs.declared.unit.Unit.{Unit as RegionUnit}
use Rattle.ir_form.specs.Valid.{Scope, with}
use Rattle.ir_form.specs.Tests.{contains}
use Rattle.ir_code.specs.declared.code.Code.{Code}
use Rattle.tu_token.specs.Rules.{r-expr, r-item, r-names, r-var, many}
use Rattle.tu_token.specs.Syntax.{Of}
use Rattle.tu_expr.specs.Parts.{Part}
use Rattle.tu_expr.specs.Forms.{Present, Absent, More, NoMore, Behind}
use Rattle.tu_tree.specs.Forms.{ItemConst, ItemVar, ItemType, ItemSubprogram, ItemModule, ItemStatement, CollectionDeclaration, StartedDeclaration, TypedDeclaration, ValueStart, Names, Separated}
use Rattle.tu_tree.specs.Parts.{separated}
use Rattle.tu_tree.specs.TypeViews.{named}
use Rattle.tu_tree_meaning.specs.Interpreter.{names_of, more_names}
use Rattle.tu_tree_meaning.specs.Values.{Variable}
use Rattle.tu_value.specs.Pieces.{with_piece}
use Rattle.tu_value.specs.declared.pieces.Fixed.{Fixed}
use Rattle.ir_build.specs.Behind.{Grows, IsFit, Makes, SeesAll, behind, known}
use Rattle.ir_build.specs.Keeps.{Named}
use Rattle.ir_build.specs.Code.{code_expr}
use Rattle.ir_build.proofs.Forms.{both}
use Rattle.ir_build.specs.Tokens.{tokens_in}
use Rattle.ir_build.proofs.Tokens.{one_token}
use Rattle.ir_build.proofs.Fits.{is_and, same_grows, grows_then, grows_more, behind_grows, behind_seen, behind_fits, FitIn}
use Rattle.ir_build.proofs.Operations.{here, sees_next, store_fits}
use Rattle.ir_build.proofs.Makes.{still_sees, makes_more, expressions_fit}
use Rattle.ir_stmt.specs.Code.{Declared, declare_code, declare_all, store_all, started, code_var, code_item, code_items}
use Rattle.ir_stmt.specs.Built.{is_item_built, are_items_built, declared_after}
use Rattle.ir_stmt.proofs.Fitting.{Calls}
use Rattle.ir_stmt.proofs.FittingLevels.{not_so, stored_made, statement_fits}

more_few : (more : Part (many named)) → length (more_names more) ≤ tokens_in more
more_few NoMore = omega arith
more_few (More (Behind comma name) more) = let one = one_token name in let le = more_few more in omega arith

names_few : (names : Of r-names) → length (names_of names) ≤ tokens_in names
names_few (Names m first more) = let one = one_token first in let le = more_few more in omega arith

module _ (u : RegionUnit) (r : Routine) (calls : Calls u r) (k : Fixed) where
  -- Code behind other code, with at most so many declared names more.
  pub record Declares (P : Type 0) (most count : ℕ) (d made : Declared) : Type 0 where
    pub grows : Grows most d.code made.code
    pub fewer : length d.names ≤ length made.names
    pub many : length made.names ≤ length d.names + count
    pub fits : (s : Scope) → P → length made.names ≤ u.globals → SeesAll (behind s d.code) (known k d.names) → IsFit u r s d.code → IsFit u r s made.code × SeesAll (behind s made.code) (known k made.names)

  declares_then : {P Q R : Type 0} {a b i j most count : ℕ} {d middle made : Declared} → Declares P a i d middle → Declares Q b j middle made → (R → P × Q) → a + b ≤ most → i + j ≤ count → Declares R most count d made
  declares_then f g split le few = record {
    grows = grows_then f.grows g.grows le;
    fewer = let p = f.fewer in let q = g.fewer in omega arith;
    many = let p = f.many in let q = g.many in omega (arith, few);
    fits = λ s p n h e. let q = g.fewer in let z = f.fits s (split p).0 (omega (arith, n)) h e in g.fits s (split p).1 n z.1 z.0;
  }

  declares_more : {P R : Type 0} {a i most count : ℕ} {d made : Declared} → Declares P a i d made → (R → P) → a ≤ most → i ≤ count → Declares R most count d made
  declares_more f weaker le few = record { grows = grows_more f.grows le; fewer = f.fewer; many = let p = f.many in omega (arith, few); fits = λ s p n h e. f.fits s (weaker p) n h e }

  nothing_declared : (P : Type 0) (most count : ℕ) (d : Declared) → Declares P most count d d
  nothing_declared P most count d = record { grows = same_grows most d.code; fewer = omega arith; many = omega arith; fits = λ s p n h e. (e, h) }

  declare_fits : (s : Scope) (word n : ℕ) → word < u.globals → contains s.values k.zero ≡ true → FitIn u r s (declare_code k word n)
  declare_fits s word n lt h =
      let placed : nat_lt word u.globals ≡ true = grind (arith, nat_tests, lt) in
      let g = sees_next s n (k.zero ∷ []) (h, tt) in
      record { is = is_and placed (store_fits {u = u} {r = r} (with s (n ∷ [])) n k.zero g).is }

  one_declared : (x : Variable) (d : Declared) → Declares Unit 2 1 d (record { code = with_piece d.code (declare_code k (length d.names) d.code.next) 1; names = record { name = x; word = length d.names; at = d.code.next } ∷ d.names })
  one_declared x d =
      let n = d.code.next in
      let ops = declare_code k (length d.names) n in
      let g = behind_grows 2 1 d.code ops (omega arith) (omega arith) (refl, tt) refl refl in
      record {
        grows = g;
        fewer = omega arith;
        many = omega arith;
        fits = λ s p le h e.
            let z = still_sees s (known k d.names) g h in
            (behind_fits u r 1 s d.code ops e (declare_fits (behind s d.code) (length d.names) n (omega (arith, le)) h.0), (z.0, (z.1.0, (z.1.1.0, (behind_seen 1 s d.code ops n (here n []), z.1.1.1)))));
      }

  all_declared : (xs : List Variable) (d : Declared) → Declares Unit (2 * length xs) (length xs) d (declare_all k xs d)
  all_declared [] d = nothing_declared Unit 0 0 d
  all_declared (x ∷ xs) d = declares_then (one_declared x d) (all_declared xs _) (λ p. (tt, tt)) (omega arith) (omega arith)

  all_stored : (names : List Named) (value : ℕ) (xs : List Variable) {a most : ℕ} {code made : Code} → Makes u r k names a code (record { code = made; value = value }) → a + length xs ≤ most → Makes u r k names most code (record { code = store_all k names value xs made; value = value })
  all_stored names value [] m le = makes_more u r k names m (omega (arith, le))
  all_stored names value (x ∷ xs) {a} m le = all_stored names value xs (stored_made u r calls k names {most = a + 1} x m (omega arith)) (omega (arith, le))

  start_does : (line : ℕ) (xs : List Variable) (e : Of r-expr) (d : Declared) → Declares Unit (12 * tokens_in e + length xs) 0 d (started k line xs e d)
  start_does line xs e d =
      let x = code_expr k d.names line e d.code in
      let m = all_stored d.names x.value xs {most = 12 * tokens_in e + length xs} (expressions_fit u r k d.names line e d.code) (omega arith) in
      record { grows = m.grows; fewer = omega arith; many = omega arith; fits = λ s p n h z. (m.fits s h z, still_sees s (known k d.names) m.grows h) }

  started_does : (line : ℕ) (names : Of r-names) (e : Of r-expr) (d : Declared) → Declares Unit (12 * tokens_in names + 12 * tokens_in e) (tokens_in names) d (started k line (names_of names) e (declare_all k (names_of names) d))
  started_does line names e d =
      let few = names_few names in
      let a = all_declared (names_of names) d in
      declares_then a (start_does line (names_of names) e (declare_all k (names_of names) d)) (λ p. (tt, tt)) (omega arith) (omega arith)

  typed_does : (names : Of r-names) (d : Declared) → Declares Unit (12 * tokens_in names) (tokens_in names) d (declare_all k (names_of names) d)
  typed_does names d = let few = names_few names in declares_more (all_declared (names_of names) d) (λ p. p) (omega arith) (omega arith)

  var_does : (x : Of r-var) (d : Declared) → Declares Unit (12 * tokens_in x) (tokens_in x) d (code_var k x d)
  var_does (StartedDeclaration m word names sign e) d = declares_more (started_does m.line names e d) (λ p. p) (omega arith) (omega arith)
  var_does (TypedDeclaration m word names colon spec Absent) d = declares_more (typed_does names d) (λ p. p) (omega arith) (omega arith)
  var_does (TypedDeclaration m word names colon spec (Present (Behind sign (ValueStart start e)))) d = declares_more (started_does m.line names e d) (λ p. p) (omega arith) (omega arith)
  var_does (TypedDeclaration m word names colon spec (Present (Behind sign (n-rule start (n-right z))))) d = nothing_declared Unit _ _ d
  var_does (CollectionDeclaration m word names colon collection of spec) d = nothing_declared Unit _ _ d

  item_does : (declared : List Variable) (x : Of r-item) (d : Declared) → Declares (is_item_built declared x ≡ true) (12 * tokens_in x) (tokens_in x) d (code_item k x d)
  item_does declared (ItemVar m x) d = declares_more (var_does x d) (λ p. tt) (omega arith) (omega arith)
  item_does declared (ItemStatement m x) d =
      let f = statement_fits u r calls k d.names declared false 0 x d.code in
      record { grows = f.grows; fewer = omega arith; many = omega arith; fits = λ s p n h e. (f.fits s (p, λ i. not_so i) h e, still_sees s (known k d.names) f.grows h) }
  item_does declared (ItemConst m x) d = nothing_declared _ _ _ d
  item_does declared (ItemType m x) d = nothing_declared _ _ _ d
  item_does declared (ItemSubprogram m x) d = nothing_declared _ _ _ d
  item_does declared (ItemModule m x) d = nothing_declared _ _ _ d

  -- items
  pub items_do : (declared : List Variable) (items : Part (many (separated (rule r-item)))) (d : Declared) → Declares (are_items_built declared items ≡ true) (12 * tokens_in items) (tokens_in items) d (code_items k items d)
  items_do declared NoMore d = nothing_declared _ _ _ d
  items_do declared (More (Separated x semicolon) more) d =
      declares_then (item_does declared x d) (items_do (declared_after declared x) more (code_item k x d)) (λ p. both (is_item_built declared x) (are_items_built (declared_after declared x) more) p) (omega arith) (omega arith)
