-- What is done outside, and what is changed that may only be read.
use Rattle.std.proofs.Common.{◌≡◌, ℕ, zero, suc, ◌<◌, ap, arith, ◌||◌, Bool, true, false, List, [], ◌∷◌, ◌++◌, length, get_or, map, take, refl, sym, ◌∙◌, subst, Option}
use Rattle.std.specs.List.{list_any}
use Rattle.tu_core.specs.declared.names.At.{At}
use Rattle.tu_core.specs.declared.names.Variable.{Variable}
use Rattle.tu_core.specs.Core.{Program}
use Rattle.tu_core.specs.Acts.{AVariable, ACollection, Act, Fixing, main_acts, routine_acts}
use Rattle.tu_core.specs.Effects.{Among, ChangesFixed, UnlistedIn, UnlistedWrite, tails}
use Rattle.tu_effects.specs.declared.outside.Deed.{Deed}
use Rattle.tu_effects.specs.declared.outside.Deed.TheVariants as deed
use Rattle.tu_effects.specs.Faults.{FunctionDoes, HasFault, kind_of}
use Rattle.tu_effects.specs.Least.{IsLeast}

-- an act of a text changes what an import list lets be read alone
abbrev pub IsUnlisted : List Act → At → Type 0
IsUnlisted acts at = Among UnlistedIn (tails acts) at

pub any_mapped : {X Y : Type 0} (t : Y → Bool) (f : X → Y) (xs : List X) (i : ℕ) (d : X) → i < length xs → t (f (get_or xs i d)) ≡ true → list_any t (map f xs) ≡ true
any_mapped t f [] i d lt h = absurd (omega arith)
any_mapped t f (x ∷ xs) zero d lt h = ap (λ b. b || list_any t (map f xs)) h
any_mapped t f (x ∷ xs) (suc i) d lt h = or_right (t (f x)) (list_any t (map f xs)) (any_mapped t f xs i d (omega arith) h)
  where
    or_right : (a b : Bool) → b ≡ true → (a || b) ≡ true
    or_right true b e = refl
    or_right false b e = e

pub fixing_found : (act : Act) (variables : List Variable) (collections : List ℕ) (extent : ℕ) (behind scope : List Act) (vs : List Variable) (cs : List ℕ) (found : Option At) →
    act ≡ Fixing (map AVariable variables ++ map ACollection collections) extent → vs ≡ variables → cs ≡ collections → scope ≡ take extent behind →
    IsLeast (Among (ChangesFixed (map AVariable vs ++ map ACollection cs)) scope) found → IsLeast (UnlistedIn (act, behind)) found
fixing_found act variables collections extent behind scope vs cs found is v c s h =
    subst (λ a. IsLeast (UnlistedIn (a, behind)) found) (sym is)
    (subst (λ xs. IsLeast (Among (ChangesFixed (map AVariable variables ++ map ACollection collections)) xs) found) s
    (subst (λ xs. IsLeast (Among (ChangesFixed (map AVariable variables ++ map ACollection xs)) scope) found) c
    (subst (λ xs. IsLeast (Among (ChangesFixed (map AVariable xs ++ map ACollection cs)) scope) found) v h)))

pub unlisted_all : (program : Program) (main : List Act) (items : List (List Act)) (found : Option At) → main ≡ main_acts program → items ≡ map routine_acts program.routines →
    IsLeast (Among IsUnlisted (main ∷ items)) found → IsLeast (UnlistedWrite program) found
unlisted_all program main items found m i h =
    subst (λ xs. IsLeast (Among IsUnlisted xs) found) (ap (λ x. x ∷ items) m ∙ ap (λ xs. main_acts program ∷ xs) i) h

pub deed_found : (forbidden : Deed) (program : Program) (found : Option At) → IsLeast (Among (FunctionDoes forbidden program) program.routines) found → IsLeast (HasFault program (kind_of forbidden)) found
deed_found deed.Writes program found h = h
deed_found deed.Talks program found h = h
