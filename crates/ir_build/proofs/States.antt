-- What stays where only values of region code change.
use Rattle.std.proofs.Common.{◌≡◌, ℕ, ◌<◌, ◌≤◌, Bool, true, false, List, [], ◌∷◌, refl, sym, ◌∙◌, ap, subst, arith, Option, Some, None, map}
use Rattle.std.specs.Prelude.{◌||◌, if◌then◌else◌}
use Rattle.std.specs.List.{list_any}
use Rattle.std.specs.Str.{bytes_eq}
use Rattle.std.proofs.lemmas.Slice.Eq.{bytes_eq-Decides}
use Rattle.ir_form.specs.State.{State as CodeState, Env}
use Rattle.tu_tree_meaning.specs.Steps.{State}
use Rattle.tu_tree_meaning.specs.Store.{Store}
use Rattle.tu_tree_meaning.specs.Values.{Variable}
use Rattle.tu_value.specs.Meets.{OnlyFrom, HasFixed}
use Rattle.ir_build.specs.Keeps.{Named, Site, Lies, AllLie, Holds}
use Rattle.ir_build.specs.Code.{named}

some_or : Named → Option Named → Named
some_or d None = d
some_or d (Some n) = n

pub some_inj : {a b : Named} → Some a ≡ Some b → a ≡ b
unfolding some_or
some_inj {a} e = ap (some_or a) e

IsNone : Option Named → Type 0
IsNone None = Unit {0}
IsNone (Some n) = ⊥

pub none_is_some : {a : Named} → None ≡ Some a → ⊥
unfolding IsNone
none_is_some e = subst IsNone e tt

lie_still : (x : Site) (s : Store) (st : CodeState) (env : Env) → ((j : ℕ) → j < x.low → env j ≡ st.env j) → (names : List Named) → AllLie x s st names → AllLie x s (record st { env = env }) names
lie_still x s st env kept [] h = tt
lie_still x s st env kept (n ∷ names) h = (record { below = h.0.below; address = kept n.at h.0.below ∙ h.0.address; inside = h.0.inside; stored = h.0.stored }, lie_still x s st env kept names h.1)

pub fixed_still : (x : Site) (st : CodeState) (env : Env) → ((j : ℕ) → j < x.low → env j ≡ st.env j) → HasFixed x.fixed x.low st → HasFixed x.fixed x.low (record st { env = env })
fixed_still x st env kept h = record { zero_below = h.zero_below; zero_is = kept x.fixed.zero h.zero_below ∙ h.zero_is; top_below = h.top_below; top_is = kept x.fixed.top h.top_below ∙ h.top_is }

pub holds_still : {x : Site} {left : ℕ} {s : State Store} {st : CodeState} {c c' : ℕ} (env : Env) → ((j : ℕ) → j < x.low → env j ≡ st.env j) → c ≤ c' → Holds x left s st c → Holds x left s (record st { env = env }) c'
holds_still {x} {left} {s} {st} {c} {c'} env kept le h = record {
  fixed = fixed_still x st env kept h.fixed;
  variables = lie_still x s.store st env kept x.names h.variables;
  values = h.values;
  writable = h.writable;
  turns = h.turns;
  few = h.few;
  others = let o = h.others in omega arith;
  rooms = h.rooms;
}

pub holds_only : {x : Site} {left n : ℕ} {s : State Store} {st su : CodeState} {c c' : ℕ} → OnlyFrom n st su → x.low ≤ n → c ≤ c' → Holds x left s st c → Holds x left s su c'
holds_only {x} {left} {n} {s} {st} {su} {c} {c'} o ln le h = subst (λ z. Holds x left s z c') (sym o.same) (holds_still su.env (λ j lt. o.kept j (omega arith)) le h)

pub fixed_above : (x : Site) {n : ℕ} {st : CodeState} → x.low ≤ n → HasFixed x.fixed x.low st → HasFixed x.fixed n st
fixed_above x le h = record { zero_below = let b = h.zero_below in omega arith; zero_is = h.zero_is; top_below = let b = h.top_below in omega arith; top_is = h.top_is }

-- a declared variable is among those that have a place
pub record Found (y : Variable) (names : List Named) : Type 0 where
  pub it : Named
  pub is : named y names ≡ Some it
  pub name : y ≡ it.name

find_in : (y : Variable) (n : Named) (names : List Named) (b : Bool) → bytes_eq y n.name ≡ b → (b ≡ false → Found y names) → Found y (n ∷ names)
find_in y n names true e rest = record { it = n; is = ap (λ z. if z then Some n else named y names) e; name = (bytes_eq-Decides y n.name).0 e }
find_in y n names false e rest = let r = rest refl in record { it = r.it; is = ap (λ z. if z then Some n else named y names) e ∙ r.is; name = r.name }

pub find : (y : Variable) (names : List Named) → list_any (bytes_eq y) (map (λ (n : Named). n.name) names) ≡ true → Found y names
find y [] d = absurd (let q : false ≡ true = d in grind (arith, q))
find y (n ∷ names) d = find_in y n names (bytes_eq y n.name) refl λ e. find y names (ap (λ z. z || list_any (bytes_eq y) (map (λ (n : Named). n.name) names)) (sym e) ∙ d)

lies_in : (x : Site) (s : Store) (st : CodeState) (y : Variable) (it n : Named) (names : List Named) (b : Bool) → (if b then Some n else named y names) ≡ Some it → Lies x s st n → (named y names ≡ Some it → Lies x s st it) → Lies x s st it
lies_in x s st y it n names true e h rest = subst (λ z. Lies x s st z) (some_inj e) h
lies_in x s st y it n names false e h rest = rest e

-- and lies there
pub lies_of : (x : Site) (s : Store) (st : CodeState) (y : Variable) (it : Named) (names : List Named) → named y names ≡ Some it → AllLie x s st names → Lies x s st it
lies_of x s st y it [] e h = absurd (none_is_some e)
lies_of x s st y it (n ∷ names) e h = lies_in x s st y it n names (bytes_eq y n.name) e h.0 (λ f. lies_of x s st y it names f h.1)
