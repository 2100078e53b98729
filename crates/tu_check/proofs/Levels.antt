-- What the parts of an expression tell of it.
use Rattle.std.proofs.Common.{◌≡◌, ℕ, Bool, false, IsTrue, cond, List, [], ◌∷◌, length, refl, ap, ◌∙◌, sym, arith}
use Rattle.std.specs.Prelude.{Option, Some, None, Result, Ok, Err, slice_get}
use Rattle.std.specs.Option.{option_or}
use Rattle.grammar.specs.Tree.{Mark, n-rule}
use Rattle.tu_token.specs.Rules.{r-expr, r-compare, r-relation, r-sum, r-prefix, r-primary, r-path}
use Rattle.tu_token.specs.Syntax.{Of}
use Rattle.tu_expr.specs.declared.expr.PrimaryForm.{PrimaryForm}
use Rattle.tu_expr.specs.declared.expr.PrimaryForm.TheVariants.{Brackets}
use Rattle.tu_expr.specs.declared.leaf.Leaf.{Leaf}
use Rattle.tu_expr.specs.declared.path.Step.{Step}
use Rattle.tu_expr.specs.Levels.{OnlyCompare, OnlySum, OnlyPrimary, compare_of, sum_of, primary_of}
use Rattle.tu_expr.specs.Views.{compare_view, primary_view, path_view}
use Rattle.tu_check.specs.Built.{is_comparing, is_declared, unbuilt, unbuilt_sum, unbuilt_prefix, unbuilt_primary, unbuilt_path, unbuilt_comparison, unbuilt_condition}

-- a test that is false tells that what it tests is not
pub fails : {A : Type 0} {b : Bool} → (A → IsTrue b) → b ≡ false → A → ⊥
fails h e a = let t = h a in absurd (cc)

some_same : {A : Type 0} (a b : A) → ◌≡◌ {A = Option A} (Some a) (Some b) → a ≡ b
some_same a b e = cc

-- the line that f tells of a part, or that of an operator above it
abbrev pub line_by : {A : Type 0} → (A → Option ℕ) → Result A ℕ → Option ℕ
line_by f (Ok x) = f x
line_by f (Err line) = Some line

module _ (declared : List (List ℕ)) where
  -- a value by its sum, a condition by its comparison, and a factor by what it is
  pub by_sum : (e : Of r-expr) → unbuilt declared e ≡ line_by (unbuilt_sum declared) (sum_of e)
  by_sum (OnlySum m a b c d x) = refl
  by_sum other = refl

  pub by_compare : (e : Of r-expr) → unbuilt_condition declared e ≡ line_by (unbuilt_comparison declared) (compare_of e)
  by_compare (OnlyCompare m a b c x) = refl
  by_compare other = refl

  pub by_primary : (e : Of r-prefix) → unbuilt_prefix declared e ≡ line_by (unbuilt_primary declared) (primary_of e)
  by_primary (OnlyPrimary m a x) = refl
  by_primary other = refl

  -- brackets tell what stands in them
  pub brackets_alone : (e : Of r-primary) (m : Mark) (form : PrimaryForm) (inner : Of r-expr) → n-rule m (primary_view form) ≡ e → form ≡ Brackets inner → unbuilt_primary declared e ≡ unbuilt declared inner
  brackets_alone e m form inner is form_is = ap (unbuilt_primary declared) (sym is) ∙ ap (λ f. unbuilt_primary declared (n-rule m (primary_view f))) form_is

  -- a path with steps, and one of a name that is not declared
  pub path_more : (e : Of r-path) (m : Mark) (root : Leaf) (more : List Step) → n-rule m (path_view root more) ≡ e → (more ≡ [] → ⊥) → unbuilt_path declared e ≡ Some m.line
  path_more e m root [] is some = absurd (some refl)
  path_more e m root (x ∷ more) is some = ap (unbuilt_path declared) (sym is)

  pub path_unknown : (e : Of r-path) (m : Mark) (root : Leaf) (more : List Step) → n-rule m (path_view root more) ≡ e → is_declared declared root.text ≡ false → unbuilt_path declared e ≡ Some m.line
  path_unknown e m root [] is unknown = ap (unbuilt_path declared) (sym is) ∙ ap (λ b. cond b None (Some m.line)) unknown
  path_unknown e m root (x ∷ more) is unknown = ap (unbuilt_path declared) (sym is)

  -- no relation, one, and more
  pub comparison_of_none : (e : Of r-compare) (m : Mark) (first : Of r-sum) (more : List (Of r-relation × Of r-sum)) → n-rule m (compare_view first more) ≡ e → slice_get more 0 ≡ None → unbuilt_comparison declared e ≡ Some m.line
  comparison_of_none e m first [] is none = ap (unbuilt_comparison declared) (sym is)
  comparison_of_none e m first (x ∷ more) is none = absurd (cc)

  pub comparison_of_one : (e : Of r-compare) (m : Mark) (first : Of r-sum) (more : List (Of r-relation × Of r-sum)) (x : Of r-relation × Of r-sum) → n-rule m (compare_view first more) ≡ e → length more ≡ 1 → slice_get more 0 ≡ Some x
      → unbuilt_comparison declared e ≡ cond (is_comparing x.0) (option_or (unbuilt_sum declared first) (unbuilt_sum declared x.1)) (Some m.line)
  comparison_of_one e m first [] x is one at = absurd (omega (arith, one))
  comparison_of_one e m first (y ∷ []) x is one at = ap (unbuilt_comparison declared) (sym is) ∙ ap (λ (z : Of r-relation × Of r-sum). cond (is_comparing z.0) (option_or (unbuilt_sum declared first) (unbuilt_sum declared z.1)) (Some m.line)) (some_same y x at)
  comparison_of_one e m first (y ∷ z ∷ more) x is one at = absurd (omega (arith, one))

  pub comparison_of_more : (e : Of r-compare) (m : Mark) (first : Of r-sum) (more : List (Of r-relation × Of r-sum)) → n-rule m (compare_view first more) ≡ e → (length more ≡ 1 → ⊥) → unbuilt_comparison declared e ≡ Some m.line
  comparison_of_more e m first [] is some = ap (unbuilt_comparison declared) (sym is)
  comparison_of_more e m first (x ∷ []) is some = absurd (some refl)
  comparison_of_more e m first (x ∷ y ∷ more) is some = ap (unbuilt_comparison declared) (sym is)
