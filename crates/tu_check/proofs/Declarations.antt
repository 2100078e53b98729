-- Types and names of declarations.
use Rattle.std.proofs.Common.{◌≡◌, ℕ, ◌+◌, ◌<◌, ◌≤◌, Bool, true, false, cond, List, [], ◌∷◌, length, drop, get_or, refl, ap, ◌∙◌, sym}
use Rattle.std.specs.Prelude.{Some, None, not, if◌then◌else◌}
use Rattle.grammar.specs.Tree.{Mark, n-rule, repeated}
use Rattle.tu_token.specs.declared.class.Class.TheVariants.{Name}
use Rattle.tu_token.specs.Rules.{r-spec, r-base, r-names, t}
use Rattle.tu_token.specs.Syntax.{Of}
use Rattle.tu_expr.specs.declared.leaf.Leaf.{Leaf}
use Rattle.tu_expr.specs.Leaves.{leaf_view}
use Rattle.tu_expr.specs.Parts.{Part}
use Rattle.tu_tree.specs.declared.spec.Array.{Array}
use Rattle.tu_tree.specs.TypeViews.{spec_view, named, named_view, names_view}
use Rattle.tu_check.specs.Built.{is_declared, more_names, names_of, unbuilt_names, unbuilt_spec, with_names}
use Rattle.tu_check.proofs.Lists.{from_place, nothing_left}

pub spec_more : (e : Of r-spec) (m : Mark) (before : List Array) (base : Of r-base) → n-rule m (spec_view before base) ≡ e → (before ≡ [] → ⊥) → unbuilt_spec e ≡ Some m.line
spec_more e m [] base is some = absurd (some refl)
spec_more e m (x ∷ before) base is some = ap unbuilt_spec (sym is)

-- the names of leaves
pub leaves : List Leaf → List (Part (t Name))
leaves [] = []
leaves (x ∷ xs) = leaf_view Name x ∷ leaves xs

more_leaves : (xs : List Leaf) → more_names (repeated named named_view xs) ≡ leaves xs
unfolding leaves
more_leaves [] = refl
more_leaves (x ∷ xs) = ap (λ l. leaf_view Name x ∷ l) (more_leaves xs)

pub names_are : (e : Of r-names) (m : Mark) (first : Leaf) (more : List Leaf) → n-rule m (names_view first more) ≡ e → names_of e ≡ leaf_view Name first ∷ leaves more
names_are e m first more is = ap names_of (sym is) ∙ ap (λ l. leaf_view Name first ∷ l) (more_leaves more)

-- what is told of names behind those that are passed is told of all, and so is what is declared
pub record IsPassed (start now : List (List ℕ)) (names : List (Part (t Name))) (xs : List Leaf) (i : ℕ) : Type 0 where
  pub told : unbuilt_names start names ≡ unbuilt_names now (leaves (drop i xs))
  pub added : with_names start names ≡ with_names now (leaves (drop i xs))

-- the name at a place is new, or it is not
pub new_name : (declared : List (List ℕ)) (x : Leaf) (more : List (Part (t Name))) → is_declared declared x.text ≡ false → unbuilt_names declared (leaf_view Name x ∷ more) ≡ unbuilt_names (x.text ∷ declared) more
new_name declared x more e = ap (λ b. cond b (Some x.line) (unbuilt_names (x.text ∷ declared) more)) e

pub known_name : (declared : List (List ℕ)) (x : Leaf) (more : List (Part (t Name))) → is_declared declared x.text ≡ true → unbuilt_names declared (leaf_view Name x ∷ more) ≡ Some x.line
known_name declared x more e = ap (λ b. cond b (Some x.line) (unbuilt_names (x.text ∷ declared) more)) e

-- where a name was declared or not, as the answer of the one who declares it tells
pub was_new : {b known : Bool} → b ≡ not known → b ≡ true → known ≡ false
was_new {known = true} h e = absurd (cc)
was_new {known = false} h e = refl

pub was_known : {b known : Bool} → b ≡ not known → b ≡ false → known ≡ true
was_known {known = true} h e = refl
was_known {known = false} h e = absurd (cc)

pub added_if : {A : Type 0} {b : Bool} (new more old : A) → new ≡ (if b then more else old) → b ≡ true → new ≡ more
added_if {b = true} new more old h e = h
added_if {b = false} new more old h e = absurd (cc)

pub first_passed : (start now : List (List ℕ)) (names : List (Part (t Name))) (first : Leaf) (xs : List Leaf) → names ≡ leaf_view Name first ∷ leaves xs → is_declared start first.text ≡ false → now ≡ first.text ∷ start → IsPassed start now names xs 0
first_passed start now names first xs same unknown is = record {
  told = ap (unbuilt_names start) same ∙ (new_name start first (leaves xs) unknown ∙ ap (λ d. unbuilt_names d (leaves xs)) (sym is));
  added = ap (with_names start) same ∙ ap (λ d. with_names d (leaves xs)) (sym is);
}

pub next_passed : (start now later : List (List ℕ)) (names : List (Part (t Name))) (xs : List Leaf) (i : ℕ) (x : Leaf) → IsPassed start now names xs i → i < length xs → x ≡ get_or xs i x → is_declared now x.text ≡ false → later ≡ x.text ∷ now → IsPassed start later names xs (i + 1)
unfolding leaves
next_passed start now later names xs i x p h at unknown is = record {
  told = p.told ∙ (ap (λ l. unbuilt_names now (leaves l)) (from_place xs i x h at) ∙ (new_name now x (leaves (drop (i + 1) xs)) unknown ∙ ap (λ d. unbuilt_names d (leaves (drop (i + 1) xs))) (sym is)));
  added = p.added ∙ (ap (λ l. with_names now (leaves l)) (from_place xs i x h at) ∙ ap (λ d. with_names d (leaves (drop (i + 1) xs))) (sym is));
}

pub known_at : (start now : List (List ℕ)) (names : List (Part (t Name))) (xs : List Leaf) (i : ℕ) (x : Leaf) → IsPassed start now names xs i → i < length xs → x ≡ get_or xs i x → is_declared now x.text ≡ true → unbuilt_names start names ≡ Some x.line
unfolding leaves
known_at start now names xs i x p h at known = p.told ∙ (ap (λ l. unbuilt_names now (leaves l)) (from_place xs i x h at) ∙ known_name now x (leaves (drop (i + 1) xs)) known)

pub all_passed : (start now : List (List ℕ)) (names : List (Part (t Name))) (xs : List Leaf) (i : ℕ) → IsPassed start now names xs i → length xs ≤ i → (unbuilt_names start names ≡ None) × (now ≡ with_names start names)
unfolding leaves
all_passed start now names xs i p h = (p.told ∙ ap (λ l. unbuilt_names now (leaves l)) (nothing_left xs i h), sym (p.added ∙ ap (λ l. with_names now (leaves l)) (nothing_left xs i h)))
