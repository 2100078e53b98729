-- Assigned code whose places are right means what its linear code means.
use Rattle.std.proofs.Common.{◌≡◌, ℕ, zero, suc, ◌+◌, List, [], ◌∷◌, length, map, Option, Some, None, refl, sym, ap, ◌∙◌, subst, arith}
use Rattle.std.specs.Prelude.{Contains, IsSome, slice_get}
use Rattle.std.specs.List.{AllZip, AllByRecursion as Each}
use Rattle.std.proofs.lemmas.List.Elements.{recursion_from_All, All-contains_itself, All-contains}
use Rattle.rv_image.specs.Streams.{Folder}
use Rattle.ir_form.specs.Place.{Place as Area, Setting, IsPlace}
use Rattle.ir_form.specs.State.{Env, State, How, Next, Left, Ends, Throws, Over, Run}
use Rattle.ir_form.specs.Plain.{Calls}
use Rattle.ir_form.specs.Units.{Meant, concluded, meant, no_values, start, setting_of}
use Rattle.rv_flat.specs.declared.linear.LinearRoutine.{LinearRoutine}
use Rattle.rv_flat.specs.declared.linear.Linear.{Linear}
use Rattle.rv_flat.specs.Linear.{run_code}
use Rattle.rv_flat.specs.Units.{head_of, calls_to, calls_within, runs_main, linear_run, linear_meaning}
use Rattle.rv_flat.specs.Parts.{gathered, instruction_numbers, linear_numbers}
use Rattle.rv_flat.specs.Lawful.{IsLawful as IsLawfulLinear}
use Rattle.ir_form.proofs.Each.{front, back}
use Rattle.rv_alloc.specs.declared.place.Place.{Place}
use Rattle.rv_alloc.specs.declared.place.Place.TheVariants.{Slot, Register}
use Rattle.rv_alloc.specs.declared.place.Places.{Places}
use Rattle.rv_alloc.specs.declared.assigned.Assigned.{Assigned}
use Rattle.rv_alloc.specs.Places.{place_of, number_of, number_at}
use Rattle.rv_alloc.specs.Renamed.{renamed, renamed_routine}
use Rattle.rv_alloc.specs.Assigned.{placed_routines, assigned_meaning}
use Rattle.rv_alloc.specs.Holds.{HoldsRoutine, Holds}
use Rattle.rv_alloc.specs.Keeps.{Keeps, IsLawful}
use Rattle.rv_alloc.proofs.Alike.{OneToOne, Agrees, Alike, SameRun, CallsAlike, near, code_alike, called_alike}

pub number_of-one : (o p : Option Place) → IsSome o → IsSome p → number_of o ≡ number_of p → o ≡ p
number_of-one None p h k e = cc
number_of-one (Some x) None h k e = cc
number_of-one (Some (Slot a)) (Some (Slot b)) h k e = let same : a ≡ b = omega arith in ap (λ s. Some (Slot s)) same
number_of-one (Some (Slot a)) (Some (Register b)) h k e = let wrong : ⊥ = omega arith in absurd wrong
number_of-one (Some (Register a)) (Some (Slot b)) h k e = let wrong : ⊥ = omega arith in absurd wrong
number_of-one (Some (Register a)) (Some (Register b)) h k e = let same : a ≡ b = omega arith in ap (λ s. Some (Register s)) same

numbers_apart : (r : LinearRoutine) (p : Places) → HoldsRoutine r p → OneToOne (number_at p) (linear_numbers r)
numbers_apart r p h = record {
  same = λ v w i j e.
      h.apart.apart v w i j (number_of-one (place_of p v) (place_of p w) (All-contains (λ x. IsSome (place_of p x)) _ v h.placed i) (All-contains (λ x. IsSome (place_of p x)) _ w h.placed j) e);
}

names_itself : (r : LinearRoutine) → Each (Contains (linear_numbers r)) (linear_numbers r)
names_itself r = recursion_from_All _ _ (All-contains_itself (linear_numbers r))

names_parameters : (r : LinearRoutine) → Each (Contains (linear_numbers r)) r.parameters
names_parameters r = front (Contains (linear_numbers r)) r.parameters (gathered instruction_numbers r.code) (names_itself r)

names_code : (r : LinearRoutine) → Each (Contains (linear_numbers r)) (gathered instruction_numbers r.code)
names_code r = back (Contains (linear_numbers r)) r.parameters (gathered instruction_numbers r.code) (names_itself r)

-- the routine at a place, over its places
data RoutineAlike : Option LinearRoutine → Option LinearRoutine → Type 0 where
  neither : RoutineAlike None None
  both : (r : LinearRoutine) (p : Places) → HoldsRoutine r p → RoutineAlike (Some r) (Some (renamed_routine (number_at p) r))

routine_alike : (rs : List LinearRoutine) (ps : List Places) (k : ℕ) → AllZip HoldsRoutine rs ps → RoutineAlike (slice_get rs k) (slice_get (placed_routines rs ps) k)
routine_alike [] [] k h = neither
routine_alike [] (p ∷ ps) k h = absurd h
routine_alike (r ∷ rs) [] k h = absurd h
routine_alike (r ∷ rs) (p ∷ ps) zero h = both r p h.0
routine_alike (r ∷ rs) (p ∷ ps) (suc k) h = routine_alike rs ps k h.1

body_alike : (g : Setting) (cl cr : Calls) → CallsAlike cl cr → (r : LinearRoutine) (p : Places) → HoldsRoutine r p → (st : State) (e : Env) (c : ℕ) → Agrees (number_at p) (linear_numbers r) st.env e
    → SameRun (run_code g cl r.code st c) (run_code g cr (map (renamed (number_at p)) r.code) (record st { env = e }) c)
body_alike g cl cr calls r p h st e c a = code_alike (number_at p) (linear_numbers r) (numbers_apart r p h) g cl cr calls r.code (names_code r) st e c a

call_alike : (g : Setting) (cl cr : Calls) → CallsAlike cl cr → (f : ℕ → ℕ) (named : List ℕ) → OneToOne f named → (o q : Option LinearRoutine) → RoutineAlike o q
    → (arguments to : List ℕ) (line : ℕ) (st : State) (e : Env) (c : ℕ) → Agrees f named st.env e → Each (Contains named) arguments → Each (Contains named) to
    → Alike f named (calls_to g cl o arguments to line st c) (calls_to g cr q (map f arguments) (map f to) line (record st { env = e }) c)
call_alike g cl cr calls f named one None None neither arguments to line st e c a k l = near f named _ st e c tt
call_alike g cl cr calls f named one _ _ (both r p h) arguments to line st e c a k l =
    called_alike g (number_at p) (linear_numbers r) (head_of r) f named (numbers_apart r p h) (names_parameters r) _ _ (body_alike g cl cr calls r p h) one arguments to line st e c a k l

calls_alike : (g : Setting) (rs : List LinearRoutine) (ps : List Places) → AllZip HoldsRoutine rs ps → (n : ℕ) → CallsAlike (calls_within g rs n) (calls_within g (placed_routines rs ps) n)
calls_alike g rs ps h zero = record { alike = λ f named one k arguments to line st e c a i j. near f named _ st e c tt }
calls_alike g rs ps h (suc n) = record {
  alike = λ f named one k arguments to line st e c a i j.
      call_alike g _ _ (calls_alike g rs ps h n) f named one _ _ (routine_alike rs ps k h) arguments to line st e c a i j;
}

meant_same : (r s : Run) → SameRun r s → meant s ≡ meant r
meant_same r s h = ap meant h.same ∙ at r.how
  where
    at : (how : How) → concluded how (record r.state { env = h.env }) r.cost ≡ concluded how r.state r.cost
    at Next = refl
    at (Left k ws) = refl
    at (Ends ws) = refl
    at (Throws kind line) = refl
    at (Over v) = refl

main_alike : (g : Setting) (cl cr : Calls) → CallsAlike cl cr → (o q : Option LinearRoutine) → RoutineAlike o q → (texts input : List ℕ) (t s : ℕ) → meant (runs_main g cr q texts input t s) ≡ meant (runs_main g cl o texts input t s)
main_alike g cl cr calls None None neither texts input t s = refl
main_alike g cl cr calls _ _ (both r p h) texts input t s =
    meant_same _ _ (body_alike g cl cr calls r p h (start g (head_of r) texts input t s) no_values 0 (record { at = λ v k. refl }))

-- over right places the code means the same
placed_same : (l : Linear) (a : Assigned) → Holds l a → (place : Area) (input : List ℕ) (folder : Folder) (t s : ℕ) → assigned_meaning a place input folder t s ≡ linear_meaning l place input folder t s
unfolding linear_run
placed_same l a h place input folder t s =
    let g = setting_of place l.globals folder in
    ap (λ (code : Linear). linear_meaning (record code { routines = placed_routines code.routines a.places }) place input folder t s) h.code
    ∙ main_alike g _ _ (calls_alike g l.routines a.places h.routines (t + 10)) _ _ (routine_alike l.routines a.places l.main h.routines) l.texts input t s

pub holds_keep : (l : Linear) (a : Assigned) → Holds l a → Keeps l a
holds_keep l a h = record {
  keeps = λ place input folder t s.
      let same = placed_same l a h place input folder t s in
      record { trace = ap (λ (m : Meant). m.trace) same; verdict = ap (λ (m : Meant). m.verdict) same; cost = let same_cost = ap (λ (m : Meant). m.cost) same in omega arith };
}

pub holds_lawful : (l : Linear) (a : Assigned) → Holds l a → IsLawfulLinear l → IsLawful a
holds_lawful l a h k =
    let P = λ (x : Linear). IsLawfulLinear x in
    let own = subst P (sym h.code) k in
    record {
      sound = own.sound;
      labels = own.labels;
      once = own.once;
      never_stuck = λ place input folder t s i e.
          k.never_stuck place input folder t s (subst (λ (x : Linear). IsPlace place (length x.texts)) h.code i) (sym (ap (λ (m : Meant). m.verdict) (placed_same l a h place input folder t s)) ∙ e);
    }
