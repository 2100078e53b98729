-- The first of the places of a list of things, one after the other.
use Rattle.std.proofs.Common.{◌≡◌, ℕ, ◌+◌, ◌<◌, ◌≤◌, Bool, true, false, List, [], ◌∷◌, ◌++◌, length, get_or, take, Option, Some, None, refl, sym, subst, arith, inl, inr, ◌⊎◌, ⊎_elim, ltb, if◌then◌else◌}
use Rattle.std.proofs.lemmas.Bool.{ltb-true, ltb-false, false≢true}
use Rattle.std.proofs.lemmas.List.{take_more, take_all}
use Rattle.std.proofs.lemmas.List.Elements.{Contains-push_cases, Contains-push, Contains-append_left}
use Rattle.std.specs.List.{Contains}
use Rattle.tu_core.specs.declared.names.At.{At}
use Rattle.tu_core.specs.Effects.{Among}
use Rattle.tu_effects.specs.Least.{at_if, earlier, IsLeast}

none_in : {X : Type 0} {P : Type 0} (a : X) → Contains [] a → P
none_in a (k, lt, is) = absurd (omega arith)

the_one : {X : Type 0} (b a : X) → Contains (b ∷ []) a → b ≡ a
the_one b a h = ⊎_elim (λ e. none_in a e) (λ e. e) (Contains-push_cases [] b a h)

pub least_same : (P Q : At → Type 0) → ((a : At) → P a → Q a) → ((a : At) → Q a → P a) → (found : Option At) → IsLeast P found → IsLeast Q found
least_same P Q to back None h = λ a q. h a (back a q)
least_same P Q to back (Some least) h = (to least h.0, λ a q. h.1 a (back a q))

least_two : (P Q : At → Type 0) (one other : At) (b : Bool) → ltb other.start one.start ≡ b → IsLeast P (Some one) → IsLeast Q (Some other) →
    IsLeast (λ a. P a ⊎ Q a) (if b then Some other else Some one)
least_two P Q one other true e g h = (inr h.0, λ a k. ⊎_elim (λ p. let l = g.1 a p in let m = ltb-true other.start one.start e in omega arith) (λ q. h.1 a q) k)
least_two P Q one other false e g h = (inl g.0, λ a k. ⊎_elim (λ p. g.1 a p) (λ q. let l = h.1 a q in let m = ltb-false other.start one.start e in omega arith) k)

pub least_or : (P Q : At → Type 0) (first second : Option At) → IsLeast P first → IsLeast Q second → IsLeast (λ a. P a ⊎ Q a) (earlier first second)
least_or P Q None None g h = λ a k. ⊎_elim (λ p. g a p) (λ q. h a q) k
least_or P Q None (Some other) g h = (inr h.0, λ a k. ⊎_elim (λ p. absurd (g a p)) (λ q. h.1 a q) k)
least_or P Q (Some one) None g h = (inl g.0, λ a k. ⊎_elim (λ p. g.1 a p) (λ q. absurd (h a q)) k)
least_or P Q (Some one) (Some other) g h = least_two P Q one other (ltb other.start one.start) refl g h

pub least_push : {X : Type 0} (Has : X → At → Type 0) (xs : List X) (x : X) (first second : Option At) →
    IsLeast (Among Has xs) first → IsLeast (Has x) second → IsLeast (Among Has (xs ++ x ∷ [])) (earlier first second)
least_push Has xs x first second g h =
    least_same (λ a. Among Has xs a ⊎ Has x a) (Among Has (xs ++ x ∷ []))
    (λ a k. ⊎_elim (λ (y, has, is). (y, Contains-append_left xs (x ∷ []) y has, is)) (λ is. (x, Contains-push xs x, is)) k)
    (λ a (y, has, is). ⊎_elim (λ l. inl (y, l, is)) (λ e. inr (subst (λ z. Has z a) (sym e) is)) (Contains-push_cases xs x y has))
    (earlier first second)
    (least_or (Among Has xs) (Has x) first second g h)

-- one step of a loop over the list
pub least_item : {X : Type 0} (Has : X → At → Type 0) (xs : List X) (i : ℕ) (x : X) (first second next : Option At) → i < length xs → x ≡ get_or xs i x →
    next ≡ earlier first second → IsLeast (Among Has (take i xs)) first → IsLeast (Has x) second → IsLeast (Among Has (take (i + 1) xs)) next
least_item Has xs i x first second next lt is e g h =
    subst (λ o. IsLeast (Among Has (take (i + 1) xs)) o) (sym e)
    (subst (λ ys. IsLeast (Among Has ys) (earlier first second)) (sym (take_more xs i x lt))
    (least_push Has (take i xs) (get_or xs i x) first second g (subst (λ y. IsLeast (Has y) second) is h)))

pub least_all : {X : Type 0} (Has : X → At → Type 0) (xs : List X) (i : ℕ) (found : Option At) → length xs ≤ i →
    IsLeast (Among Has (take i xs)) found → IsLeast (Among Has xs) found
least_all Has xs i found le h = subst (λ ys. IsLeast (Among Has ys) found) (take_all i xs le) h

-- what holds at one place, where Q holds
pub least_if : (Q : Type 0) (holds : Bool) (at : At) → (holds ≡ true → Q) → (Q → holds ≡ true) → IsLeast (λ b. Q × (b ≡ at)) (at_if holds at)
least_if Q true at to back = ((to refl, refl), λ b (q, e). subst (λ (c : At). at.start ≤ c.start) (sym e) (omega arith))
least_if Q false at to back = λ b (q, e). false≢true (back q)

-- what holds only under a condition
pub least_under : (Q : Type 0) (P : At → Type 0) (found : Option At) → Q → IsLeast P found → IsLeast (λ a. Q × P a) found
least_under Q P found q h = least_same P (λ a. Q × P a) (λ a p. (q, p)) (λ a (k, p). p) found h

-- a loop behind one thing that was looked at first
pub least_one : {X : Type 0} (Has : X → At → Type 0) (x : X) (found : Option At) → IsLeast (Has x) found → IsLeast (Among Has (x ∷ [])) found
least_one Has x found h = least_same (Has x) (Among Has (x ∷ [])) (λ a p. (x, Contains-push [] x, p)) (λ a (y, has, p). subst (λ z. Has z a) (sym (the_one x y has)) p) found h

pub least_behind : {X : Type 0} (Has : X → At → Type 0) (front : X) (xs : List X) (i : ℕ) (x : X) (first second next : Option At) → i < length xs → x ≡ get_or xs i x →
    next ≡ earlier first second → IsLeast (Among Has (front ∷ take i xs)) first → IsLeast (Has x) second → IsLeast (Among Has (front ∷ take (i + 1) xs)) next
least_behind Has front xs i x first second next lt is e g h =
    subst (λ o. IsLeast (Among Has (front ∷ take (i + 1) xs)) o) (sym e)
    (subst (λ ys. IsLeast (Among Has (front ∷ ys)) (earlier first second)) (sym (take_more xs i x lt))
    (least_push Has (front ∷ take i xs) (get_or xs i x) first second g (subst (λ y. IsLeast (Has y) second) is h)))

pub least_behind_all : {X : Type 0} (Has : X → At → Type 0) (front : X) (xs : List X) (i : ℕ) (found : Option At) → length xs ≤ i →
    IsLeast (Among Has (front ∷ take i xs)) found → IsLeast (Among Has (front ∷ xs)) found
least_behind_all Has front xs i found le h = subst (λ ys. IsLeast (Among Has (front ∷ ys)) found) (take_all i xs le) h
