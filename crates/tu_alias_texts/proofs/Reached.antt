-- What is reached by calls, and what is known of each act of a list.
use Rattle.std.proofs.Common.{◌≡◌, ℕ, zero, suc, Bool, true, false, ◌||◌, List, [], ◌∷◌, Some, None, refl, sym, ap, subst, arith}
use Rattle.std.specs.Prelude.{slice_get, take, map}
use Rattle.std.specs.List.{Contains, list_any, flat_map}
use Rattle.std.proofs.lemmas.List.Elements.{Contains-append_left, Contains-append_right}
use Rattle.tu_core.specs.Core.{Call, Routine, Program}
use Rattle.tu_core.specs.declared.names.At.{At}
use Rattle.tu_core.specs.Acts.{Subject, Act, Reading, Calling, routine_acts, main_acts}
use Rattle.tu_core.specs.Effects.{is_outer, reads, changes, called_by, called, acts_of, here, step, CallsOne, Does, Reads, Writes, tails, texts_of}
use Rattle.tu_alias_forms.proofs.Fits.{Leave, InScope, ActFits, Fits, is_itself}

pub first_of : {X : Type 0} (x : X) (xs : List X) → Contains (x ∷ xs) x
first_of x xs = (0, omega arith, refl)

pub later : {X : Type 0} (y x : X) (xs : List X) → Contains xs x → Contains (y ∷ xs) x
later y x xs h = (suc h.0, omega (arith, h.1), h.2)

pub in_list : {X : Type 0} (xs : List X) (n : ℕ) (x : X) → slice_get xs n ≡ Some x → Contains xs x
in_list [] n x e = absurd (let h : None ≡ Some x = e in cc)
in_list (y ∷ xs) zero x e = let same : y ≡ x = (let h : Some y ≡ Some x = e in cc) in subst (λ z. Contains (z ∷ xs) x) (sym same) (first_of x xs)
in_list (y ∷ xs) (suc n) x e = later y x xs (in_list xs n x e)

pub in_map : {X Y : Type 0} (f : X → Y) (xs : List X) (x : X) → Contains xs x → Contains (map f xs) (f x)
in_map f [] x h = absurd (omega (arith, h.1))
in_map f (y ∷ xs) x (zero, under, e) = subst (λ z. Contains (f z ∷ map f xs) (f x)) (sym e) (first_of (f x) (map f xs))
in_map f (y ∷ xs) x (suc k, under, e) = later (f y) (f x) (map f xs) (in_map f xs x (k, omega (arith, under), e))

in_flat_map : {X Y : Type 0} (f : X → List Y) (xs : List X) (x : X) (y : Y) → Contains xs x → Contains (f x) y → Contains (flat_map f xs) y
in_flat_map f [] x y h g = absurd (omega (arith, h.1))
in_flat_map f (z ∷ xs) x y (zero, under, e) g = Contains-append_left (f z) (flat_map f xs) y (subst (λ w. Contains (f w) y) (sym e) g)
in_flat_map f (z ∷ xs) x y (suc k, under, e) g = Contains-append_right (f z) (flat_map f xs) y (in_flat_map f xs x y (k, omega (arith, under), e) g)

or_left : (a b : Bool) → a ≡ true → (a || b) ≡ true
or_left true b e = refl
or_left false b e = absurd (let h : false ≡ true = e in cc)

or_right : (a b : Bool) → b ≡ true → (a || b) ≡ true
or_right true b e = refl
or_right false b e = e

any_of : {X : Type 0} (test : X → Bool) (xs : List X) (x : X) → Contains xs x → test x ≡ true → list_any test xs ≡ true
any_of test [] x h e = absurd (omega (arith, h.1))
any_of test (y ∷ xs) x (zero, under, is) e = or_left (test y) (list_any test xs) (subst (λ z. test z ≡ true) (sym is) e)
any_of test (y ∷ xs) x (suc k, under, is) e = or_right (test y) (list_any test xs) (any_of test xs x (k, omega (arith, under), is) e)

-- an act with those behind it is an act of the list
pub in_tails : {X : Type 0} (xs : List X) (rest : X × List X) → Contains (tails xs) rest → Contains xs rest.0
in_tails [] rest h = absurd (omega (arith, h.1))
in_tails (x ∷ xs) rest (zero, under, e) = subst (λ z. Contains (x ∷ xs) z) (ap (λ z. z.0) e) (first_of x xs)
in_tails (x ∷ xs) rest (suc k, under, e) = later x rest.0 xs (in_tails xs rest (k, omega (arith, under), e))

-- what holds of each of the first of a list
pub in_scope_of : (P : Act → Type 0) (n : ℕ) (acts : List Act) → ((act : Act) → Contains (take n acts) act → P act) → InScope P n acts
in_scope_of P zero acts h = tt
in_scope_of P (suc n) [] h = tt
in_scope_of P (suc n) (act ∷ acts) h = (h act (first_of act (take n acts)), in_scope_of P n acts (λ a i. h a (later act a (take n acts) i)))

-- a text keeps to what it may do where each of its acts does
pub fits_of : (program : Program) (may : Leave) (acts : List Act) → ((rest : Act × List Act) → Contains (tails acts) rest → ActFits program may rest.0 rest.1) → Fits program may acts
fits_of program may [] h = tt
fits_of program may (act ∷ acts) h = (h (act, acts) (first_of (act, acts) (tails acts)), fits_of program may acts (λ rest i. h rest (later (act, acts) rest (tails acts) i)))

module _ (program : Program) where
  acts_found : (g : ℕ) (r : Routine) → slice_get program.routines g ≡ Some r → acts_of program g ≡ routine_acts r
  acts_found g r e = ap (λ o. elim o [ None ↦ [] | Some q ↦ routine_acts q ]) e

  does_itself : (g : ℕ) (r : Routine) → slice_get program.routines g ≡ Some r → (test : Act → Bool) (act : Act) → Contains (routine_acts r) act → test act ≡ true → Does program test g
  does_itself g r e test act is so = (g, here, subst (λ acts. list_any test acts ≡ true) (sym (acts_found g r e)) (any_of test (routine_acts r) act is so))

  -- what a text reads and changes its routine does
  pub reads_itself : (g : ℕ) (r : Routine) → slice_get program.routines g ≡ Some r → (at : At) (x : Subject) → is_outer x ≡ true → Contains (routine_acts r) (Reading at x) → Reads program g x
  reads_itself g r e at x outer is = (outer, does_itself g r e (reads x) (Reading at x) is (is_itself x))

  pub writes_itself : (g : ℕ) (r : Routine) → slice_get program.routines g ≡ Some r → (act : Act) (x : Subject) → is_outer x ≡ true → changes x act ≡ true → Contains (routine_acts r) act → Writes program g x
  writes_itself g r e act x outer so is = (outer, does_itself g r e (changes x) act is so)

  pub calls_itself : (g : ℕ) (r : Routine) → slice_get program.routines g ≡ Some r → (call : Call) (p : ℕ) → Contains (routine_acts r) (Calling call) → Contains (called_by call) p → CallsOne program g p
  calls_itself g r e call p is h = subst (λ acts. Contains (flat_map called acts) p) (sym (acts_found g r e)) (in_flat_map called (routine_acts r) (Calling call) p is h)

  does_by_call : (g p : ℕ) (test : Act → Bool) → CallsOne program g p → Does program test p → Does program test g
  does_by_call g p test call h = (h.0, step call h.1, h.2)

  pub reads_by_call : (g p : ℕ) (x : Subject) → CallsOne program g p → Reads program p x → Reads program g x
  reads_by_call g p x call h = (h.0, does_by_call g p (reads x) call h.1)

  pub writes_by_call : (g p : ℕ) (x : Subject) → CallsOne program g p → Writes program p x → Writes program g x
  writes_by_call g p x call h = (h.0, does_by_call g p (changes x) call h.1)

  -- the texts of a program
  pub main_is_text : Contains (texts_of program) (main_acts program)
  main_is_text = first_of (main_acts program) (map routine_acts program.routines)

  pub routine_is_text : (g : ℕ) (r : Routine) → slice_get program.routines g ≡ Some r → Contains (texts_of program) (routine_acts r)
  routine_is_text g r e = later (main_acts program) (routine_acts r) (map routine_acts program.routines) (in_map routine_acts program.routines r (in_list program.routines g r e))
