-- The faults of a kind, over all texts.
use Rattle.std.proofs.Common.{◌≡◌, ℕ, ◌+◌, ◌<◌, Bool, true, false, List, ◌∷◌, length, get_or, drop, map, take, sym, ◌∙◌, ap, subst, arith, Option}
use Rattle.std.proofs.lemmas.Bool.{false≢true}
use Rattle.std.proofs.lemmas.List.{get_or_default}
use Rattle.std.specs.List.{Contains}
use Rattle.tu_core.specs.declared.names.At.{At}
use Rattle.tu_core.specs.Core.{Path, Calls, Actuals, Program}
use Rattle.tu_core.specs.Acts.{Act, Binding, Calling, main_acts, routine_acts}
use Rattle.tu_core.specs.Effects.{Among, tails, texts_of}
use Rattle.tu_core.specs.Overlap.{ImportedOf, SharedOf}
use Rattle.tu_effects.specs.Least.{IsLeast}
use Rattle.tu_effects.proofs.FirstPlace.{least_same}
use Rattle.tu_effects.proofs.Tails.{length-tails, tails_at}
use Rattle.tu_overlap.specs.declared.fault.OverlapKind.{OverlapKind}
use Rattle.tu_overlap.specs.declared.fault.OverlapKind.TheVariants.{SharedActual, ImportedActual, HiddenRoot, ChangedBound}
use Rattle.tu_overlap.specs.Faults.{BreaksBind, CallHas, HasFault, HasFaultIn, is_of_bind}

-- what holds of an act among those of a text holds of it with those behind it
to_tails : {X : Type 0} (xs : List X) (x : X) → Contains xs x → (rest : List X) × Contains (tails xs) (x, rest)
to_tails xs x (k, lt, is) =
    let e = tails_at xs k x (x, drop (k + 1) xs) lt (sym is) in
    (drop (k + 1) xs, (k, omega (arith, length-tails xs), sym e))

of_tails : {X : Type 0} (xs : List X) (p : X × List X) → Contains (tails xs) p → Contains xs p.0
of_tails {X} xs p (k, lt, is) =
    let lt' : k < length xs = omega (arith, length-tails xs) in
    let x = get_or xs k p.0 in
    let e = tails_at xs k x p lt' (get_or_default xs k p.0 x lt') in
    (k, lt', ap (λ (q : X × List X). q.0) (e ∙ is))

module _ (Has : Act → At → Type 0) where
  abbrev pub OfFirst : Act × List Act → At → Type 0
  OfFirst pair at = Has pair.0 at

  pub among_tails : (acts : List Act) (at : At) → Among Has acts at → Among OfFirst (tails acts) at
  among_tails acts at (x, c, h) = let t = to_tails acts x c in ((x, t.0), t.1, h)

  pub tails_among : (acts : List Act) (at : At) → Among OfFirst (tails acts) at → Among Has acts at
  tails_among acts at (p, c, h) = (p.0, of_tails acts p c, h)

-- of a text
abbrev pub OfText : Program → OverlapKind → List Act → At → Type 0
OfText program kind acts at = Among (HasFaultIn program kind) (tails acts) at

each : (P Q : List Act → At → Type 0) → ((acts : List Act) (at : At) → P acts at → Q acts at) → (texts : List (List Act)) (at : At) → Among P texts at → Among Q texts at
each P Q to texts at (acts, c, h) = (acts, c, to acts at h)

first_kind : (Has : Act → At → Type 0) (texts : List (List Act)) (found : Option At) → IsLeast (Among (λ acts. Among (OfFirst Has) (tails acts)) texts) found → IsLeast (Among (Among Has) texts) found
first_kind Has texts found h =
    least_same (Among (λ acts. Among (OfFirst Has) (tails acts)) texts) (Among (Among Has) texts)
    (each (λ acts. Among (OfFirst Has) (tails acts)) (Among Has) (tails_among Has) texts) (each (Among Has) (λ acts. Among (OfFirst Has) (tails acts)) (among_tails Has) texts) found h

pub kind_found : (program : Program) (kind : OverlapKind) (found : Option At) → IsLeast (Among (OfText program kind) (texts_of program)) found → IsLeast (HasFault program kind) found
kind_found program SharedActual found h = first_kind SharedOf (texts_of program) found h
kind_found program ImportedActual found h = first_kind (ImportedOf program) (texts_of program) found h
kind_found program HiddenRoot found h = h
kind_found program ChangedBound found h = h

pub texts_found : (program : Program) (kind : OverlapKind) (main : List Act) (routines : List (List Act)) (found : Option At) → main ≡ main_acts program → routines ≡ map routine_acts program.routines →
    IsLeast (Among (OfText program kind) (main ∷ routines)) found → IsLeast (HasFault program kind) found
texts_found program kind main routines found m r h =
    kind_found program kind found (subst (λ xs. IsLeast (Among (OfText program kind) xs) found) (ap (λ x. x ∷ routines) m ∙ ap (λ xs. main_acts program ∷ xs) r) h)

-- a bind has the faults of its own kind alone
pub of_bind : (program : Program) (kind : OverlapKind) (at : At) (name : ℕ) (is_var : Bool) (path : Path) (extent : ℕ) (behind : List Act) (found : Option At) → is_of_bind kind is_var ≡ true →
    IsLeast (BreaksBind is_var program path (take extent behind)) found → IsLeast (HasFaultIn program kind (Binding at name is_var path extent, behind)) found
of_bind program SharedActual at name is_var path extent behind found e h = absurd (false≢true e)
of_bind program ImportedActual at name is_var path extent behind found e h = absurd (false≢true e)
of_bind program HiddenRoot at name true path extent behind found e h = h
of_bind program HiddenRoot at name false path extent behind found e h = absurd (false≢true e)
of_bind program ChangedBound at name true path extent behind found e h = absurd (false≢true e)
of_bind program ChangedBound at name false path extent behind found e h = h

pub call_fault : (program : Program) (kind : OverlapKind) (at : At) (callee : ℕ) (invariant : Option ℕ) (actuals : Actuals) (behind : List Act) (found : Option At) → IsLeast (CallHas program kind callee actuals) found →
    IsLeast (HasFaultIn program kind (Calling (Calls at callee invariant actuals), behind)) found
call_fault program SharedActual at callee invariant actuals behind found h = h
call_fault program ImportedActual at callee invariant actuals behind found h = h
call_fault program HiddenRoot at callee invariant actuals behind found h = h
call_fault program ChangedBound at callee invariant actuals behind found h = h
