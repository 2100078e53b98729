-- Rows of the rules on effects and overlap: a program that keeps them all, and one that breaks each.
use Rattle.std.proofs.Common.{◌≡◌, ℕ, zero, suc, Bool, true, false, List, [], ◌∷◌, map, Some, None, ◌⊎◌, inl, inr, refl, sym, ◌∙◌, subst, arith, pos}
use Rattle.std.specs.List.{Contains, list_any}
use Rattle.tu_base.specs.declared.shape.Span.{Span}
use Rattle.tu_base.specs.declared.shape.Shape.TheVariants.{Scalar as scalar_shape, Array as array_shape}
use Rattle.tu_core.specs.Core.{Scalar, Literal, Use, Path, Name, End, Calls, Actuals, NoActual, Lent, AScalar, Assign, Do, Simply, Begin, Statement, Block, Empty, Then, Bind, NoHandler, Routine, Program}
use Rattle.tu_core.specs.declared.names.At.{At}
use Rattle.tu_core.specs.declared.names.Variable.TheVariants.{Global, Local}
use Rattle.tu_core.specs.declared.targets.Target.{Target}
use Rattle.tu_core.specs.declared.targets.Target.TheVariants.{TakesScalar}
use Rattle.tu_core.specs.declared.names.Formal.{Formal}
use Rattle.tu_core.specs.declared.names.Formal.TheVariants.{ByCopy, ByVar}
use Rattle.tu_core.specs.declared.names.LocalName.TheVariants.{BoundName}
use Rattle.tu_core.specs.declared.names.PlaceKind.TheVariants.{OfShape}
use Rattle.tu_core.specs.declared.names.CallResult.{CallResult}
use Rattle.tu_core.specs.declared.names.CallResult.TheVariants.{Nothing, OneValue}
use Rattle.tu_core.specs.declared.names.GlobalName.TheVariants.{GlobalOf}
use Rattle.tu_core.specs.Acts.{AVariable, Act, Reading, Changing, Calling, main_acts, routine_acts}
use Rattle.tu_core.specs.Walk.{Apart, Same}
use Rattle.tu_core.specs.Effects.{Leads, here, step, CallsOne, Reads, Writes, Among, tails, acts_of, texts_of, FunctionVar, FunctionWrites, IsVarFormal, ChangesOutside, is_function}
use Rattle.tu_core.specs.Overlap.{SharedOf, ImportedOf, HiddenIn, ChangedIn, IsHidden, IsChanged, SharedActual, ImportedActual, HiddenRoot, ChangedBound}
use Rattle.tu_core.specs.WellFormed.{is_well_formed}
use Rattle.tu_core.specs.Typed.{IsTyped}
use Rattle.tu_core.specs.Rules.{KeepsTheRules}
use Rattle.tu_core.proofs.WellTyped.{well_formed_is_typed}

abbrev on : (line : ℕ) → At
on n = record { start = 0; line = n }

abbrev digit : Span
digit = record { low = pos 0; high = pos 9 }

abbrev a_digit : Target
a_digit = TakesScalar digit

abbrev number : Path → Scalar
number p = Use 0 p

abbrev global : (line x : ℕ) → Path
global n x = Name (on n) (Global x) End

abbrev local : (line x : ℕ) → Path
local n x = Name (on n) (Local x) End

abbrev set : (line : ℕ) → Path → Scalar → Statement
set n p e = Simply (on n) (Assign a_digit p (AScalar e))

abbrev call : (line callee : ℕ) → Actuals → Statement
call n callee actuals = Simply (on n) (Do (Calls (on n) callee None actuals))

abbrev lent : (line : ℕ) → Path → Actuals → Actuals
lent n p more = Lent (on n) true (Some []) p more

abbrev shared : (line : ℕ) → Path → Actuals → Actuals
shared n p more = Lent (on n) false (Some []) p more

abbrev only : Statement → Block
only s = Then s Empty

abbrev routine : CallResult → List Formal → Block → Routine
routine gives formals body = record { gives = gives; is_invariant = false; result = None; formals = formals; stars = 0; locals = []; before = Empty; body = body; handler = NoHandler; after = Empty; end_line = 9; fixed = []; fixed_collections = [] }

-- two ints a and b, an array c, a subprogram, and two names of `bind`
abbrev program : Routine → Block → Program
program r main = record { shapes = scalar_shape digit ∷ (array_shape (digit ∷ []) 0 ∷ []); globals = map GlobalOf (0 ∷ (0 ∷ (1 ∷ []))); collections = []; routines = r ∷ []; locals = BoundName 0 ∷ (BoundName 0 ∷ []); main = main }

-- what holds of each of a list
infixr 10 ◌▹◌
data Each {X : Type 0} (P : X → Type 0) : List X → Type 0 where
  ends : Each P []
  ◌▹◌ : {x : X} {xs : List X} → P x → Each P xs → Each P (x ∷ xs)

each_has : {X : Type 0} (P : X → Type 0) (xs : List X) → Each P xs → (x : X) → Contains xs x → P x
each_has P [] ends x is = absurd (omega (arith, is.1))
each_has P (y ∷ xs) (first ▹ all) x (zero, under, e) = subst P e first
each_has P (y ∷ xs) (first ▹ all) x (suc k, under, e) = each_has P xs all x (k, omega (arith, under), e)

nowhere : {X : Type 0} (Has : X → At → Type 0) (xs : List X) → Each (λ x. (at : At) → Has x at → ⊥) xs → (at : At) → Among Has xs at → ⊥
nowhere Has xs none at found = each_has (λ x. (at : At) → Has x at → ⊥) xs none found.0 found.1 at found.2

not_false : {A : Type 0} → false ≡ true → A
not_false e = absurd (let q : false ≡ true = e in cc)

-- procedure swap (var x, y : int)
--   x := y
-- end swap
-- swap (a, b)
-- begin
--   bind var x to a
--   x := b
-- end
-- begin
--   bind y to b
--   a := y
-- end
abbrev swap : Routine
swap = routine Nothing (ByVar (on 1) (OfShape 0) ∷ (ByVar (on 1) (OfShape 0) ∷ [])) (only (set 2 (local 2 0) (number (local 2 1))))

abbrev kept : Program
kept = program swap
    (Then (call 4 0 (lent 4 (global 4 0) (lent 4 (global 4 1) NoActual)))
    (Then (Begin (on 5) (Bind (on 6) 0 true (global 6 0) (only (set 7 (local 7 0) (number (global 7 1))))))
    (only (Begin (on 9) (Bind (on 10) 1 false (global 10 1) (only (set 11 (global 11 0) (number (local 11 1)))))))))

-- swap calls nothing
stays : {q : ℕ} → Leads (CallsOne kept) 0 q → (test : Act → Bool) → list_any test (acts_of kept 0) ≡ false → list_any test (acts_of kept q) ≡ true → ⊥
stays here test not_so so = absurd (let q : true ≡ false = sym so ∙ not_so in cc)
stays (step call more) test not_so so = absurd (omega (arith, call.1))

-- and does nothing with a variable of the program
untouched : (x : ℕ) → Reads kept 0 (AVariable (Global x)) ⊎ Writes kept 0 (AVariable (Global x)) → ⊥
untouched x (inl h) = stays h.1.1 _ refl h.1.2
untouched x (inr h) = stays h.1.1 _ refl h.1.2

none : (at : At) → ⊥ → ⊥
none at h = h

row_kept : KeepsTheRules kept
row_kept = record {
  no_var = nowhere (λ r at. (is_function r ≡ true) × Among IsVarFormal r.formals at) kept.routines ((λ at h. not_false h.0) ▹ ends);
  no_writes = nowhere (λ r at. (is_function r ≡ true) × Among (ChangesOutside kept) (routine_acts r) at) kept.routines ((λ at h. not_false h.0) ▹ ends);
  no_shared = nowhere (Among SharedOf) (texts_of kept) (nowhere SharedOf (main_acts kept) (none ▹ none ▹ shared_not ▹ none ▹ none ▹ none ▹ none ▹ none ▹ none ▹ none ▹ none ▹ ends) ▹ nowhere SharedOf (acts_of kept 0) (none ▹ none ▹ none ▹ ends) ▹ ends);
  no_imported = nowhere (Among (ImportedOf kept)) (texts_of kept) (nowhere (ImportedOf kept) (main_acts kept) (none ▹ none ▹ imported_not ▹ none ▹ none ▹ none ▹ none ▹ none ▹ none ▹ none ▹ none ▹ ends) ▹ nowhere (ImportedOf kept) (acts_of kept 0) (none ▹ none ▹ none ▹ ends) ▹ ends);
  no_hidden = nowhere (λ acts. Among (HiddenIn kept) (tails acts)) (texts_of kept)
      (nowhere (HiddenIn kept) (tails (main_acts kept)) (none ▹ none ▹ none ▹ none ▹ nowhere (IsHidden kept (AVariable (Global 0))) (Changing (on 7) (AVariable (Local 0)) ∷ (Reading (on 7) (AVariable (Global 1)) ∷ [])) ((λ at h. not_false h.0) ▹ (λ at h. not_false h.0) ▹ ends) ▹ none ▹ none ▹ none ▹ none ▹ none ▹ none ▹ ends) ▹
      nowhere (HiddenIn kept) (tails (acts_of kept 0)) (none ▹ none ▹ none ▹ ends) ▹ ends);
  no_changed = nowhere (λ acts. Among (ChangedIn kept) (tails acts)) (texts_of kept)
      (nowhere (ChangedIn kept) (tails (main_acts kept)) (none ▹ none ▹ none ▹ none ▹ none ▹ none ▹ none ▹ none ▹ nowhere (IsChanged kept (AVariable (Global 1))) (Changing (on 11) (AVariable (Global 0)) ∷ (Reading (on 11) (AVariable (Local 1)) ∷ [])) ((λ at h. not_false h.0) ▹ none ▹ ends) ▹ none ▹ none ▹ ends) ▹
      nowhere (ChangedIn kept) (tails (acts_of kept 0)) (none ▹ none ▹ none ▹ ends) ▹ ends);
}
  where
    not_same : Apart ≡ Same → ⊥
    not_same e = let q : Apart ≡ Same = e in cc

    shared_not : (at : At) → SharedOf (Calling (Calls (on 4) 0 None (lent 4 (global 4 0) (lent 4 (global 4 1) NoActual)))) at → ⊥
    shared_not at (inl (inl h)) = not_same h.1
    shared_not at (inl (inr h)) = h
    shared_not at (inr (inl h)) = h
    shared_not at (inr (inr h)) = h

    imported_not : (at : At) → ImportedOf kept (Calling (Calls (on 4) 0 None (lent 4 (global 4 0) (lent 4 (global 4 1) NoActual)))) at → ⊥
    imported_not at (inl h) = untouched 0 h.0
    imported_not at (inr (inl h)) = untouched 1 h.0
    imported_not at (inr (inr h)) = h

-- It is well formed, and typed.
row_formed : is_well_formed kept ≡ true
row_formed = refl

row_typed : IsTyped kept
row_typed = well_formed_is_typed kept row_formed

-- swap (a, a): the later actual
row_shared : SharedActual (program (routine Nothing (ByVar (on 1) (OfShape 0) ∷ (ByVar (on 1) (OfShape 0) ∷ [])) Empty) (only (call 4 0 (lent 5 (global 4 0) (lent 6 (global 4 0) NoActual))))) (on 6)
row_shared = (_, (0, omega arith, refl), (_, (2, omega arith, refl), inl (inl (refl, refl, refl))))

-- procedure p (var x : int)
--   x := a
-- end p
-- p (a)
row_imported : ImportedActual (program (routine Nothing (ByVar (on 1) (OfShape 0) ∷ []) (only (set 2 (local 2 0) (number (global 2 0))))) (only (call 4 0 (lent 5 (global 4 0) NoActual)))) (on 5)
row_imported = (_, (0, omega arith, refl), (_, (1, omega arith, refl), inl (inl (refl, (0, here, refl)), refl)))

-- a procedure that changes c, and to which c is lent as a constant
row_imported_constant : ImportedActual (program (routine Nothing (ByCopy (OfShape 1) ∷ []) (only (set 2 (global 2 2) (Literal 0 (pos 1))))) (only (call 4 0 (shared 5 (global 4 2) NoActual)))) (on 5)
row_imported_constant = (_, (0, omega arith, refl), (_, (1, omega arith, refl), inl ((refl, (0, here, refl)), refl)))

-- bind var x to a, and in its scope b := a
row_hidden : HiddenRoot (program (routine Nothing [] Empty) (only (Begin (on 1) (Bind (on 2) 0 true (global 2 0) (only (set 3 (global 3 1) (number (global 4 0)))))))) (on 4)
row_hidden = (_, (0, omega arith, refl), (_, (1, omega arith, refl), (_, (1, omega arith, refl), (refl, refl))))

-- bind x to a, and in its scope a call of what changes a
row_changed : ChangedBound (program (routine Nothing [] (only (set 2 (global 2 0) (Literal 0 (pos 1))))) (only (Begin (on 3) (Bind (on 4) 0 false (global 4 0) (only (call 5 0 NoActual)))))) (on 5)
row_changed = (_, (0, omega arith, refl), (_, (1, omega arith, refl), (_, (0, omega arith, refl), ((0, (0, omega arith, refl), (refl, (0, here, refl))), refl))))

-- a function that changes a, and one with a `var` formal
row_function_writes : FunctionWrites (program (routine (OneValue a_digit) [] (only (set 2 (global 3 0) (Literal 0 (pos 1))))) Empty) (on 3)
row_function_writes = (_, (0, omega arith, refl), (refl, (_, (1, omega arith, refl), (refl, refl))))

row_function_var : FunctionVar (program (routine (OneValue a_digit) (ByVar (on 3) (OfShape 0) ∷ []) Empty) Empty) (on 3)
row_function_var = (_, (0, omega arith, refl), (refl, (_, (0, omega arith, refl), refl)))
