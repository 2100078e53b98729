-- Rows of expressions as the locals that their elements change.
use Rattle.std.specs.Prelude.{◌≡◌, ℕ, List, [], ◌∷◌, ◌++◌}
use Rattle.std.proofs.Common.{sym, refl, append_assoc}
use Rattle.tu_core.specs.Core.{Scalar, Text}
use Rattle.tu_core.specs.Measures.{of_scalar, of_links, of_text, of_texts, of_cuts, of_spot, of_combinations, of_path, of_scalars, of_selectors, of_subscripts, of_actuals}
use Rattle.tu_core_expressions.specs.declared.scalar.Link.{Link}
use Rattle.tu_core_expressions.specs.declared.scalar.Link.TheVariants as link
use Rattle.tu_core_expressions.specs.declared.text.Cut.{Cut}
use Rattle.tu_core_expressions.specs.declared.text.Cut.TheVariants as cut
use Rattle.tu_core_expressions.specs.declared.set.SetLink.{SetLink}
use Rattle.tu_core_expressions.specs.declared.path.Selector.{Selector}
use Rattle.tu_core_expressions.specs.declared.path.Selector.TheVariants as selector
use Rattle.tu_core_expressions.specs.declared.path.Subscript.{Subscript}
use Rattle.tu_core_expressions.specs.declared.call.Actual.{Actual}
use Rattle.tu_core_expressions.specs.declared.call.Actual.TheVariants as actual
use Rattle.tu_core_expressions.specs.ExpressionViews.{links_view, texts_view, cuts_view, combinations_view, scalars_view, subscripts_view, selectors_view, actuals_view}
use Rattle.tu_room_parts.specs.Rows.{one_link, one_cut, one_set, one_selector, one_actual}
use Rattle.tu_room_changes.specs.Changed.{changed, var_root_of}
use Rattle.tu_room_changes.proofs.Grown.{Rows}

abbrev pub all_links : List Link → List ℕ
all_links xs = of_links changed (links_view xs)

more_links : (x : Link) (xs : List Link) → all_links (x ∷ xs) ≡ one_link changed x ++ all_links xs
more_links (link.Operate operator e) xs = refl
more_links (link.Decide operator e) xs = refl

pub rows_of_links : Rows all_links (one_link changed) []
rows_of_links = record { none = refl; more = more_links }

abbrev pub all_texts : List Text → List ℕ
all_texts xs = of_texts changed (texts_view xs)

pub rows_of_texts : Rows all_texts (of_text changed) []
rows_of_texts = record { none = refl; more = λ x xs. refl }

abbrev pub all_cuts : List Cut → List ℕ
all_cuts xs = of_cuts changed (cuts_view xs)

more_cuts : (x : Cut) (xs : List Cut) → all_cuts (x ∷ xs) ≡ one_cut changed x ++ all_cuts xs
more_cuts (cut.CutCharacter i) xs = refl
more_cuts (cut.CutPart i j) xs = sym (append_assoc (of_spot changed i) (of_spot changed j) (all_cuts xs))

pub rows_of_cuts : Rows all_cuts (one_cut changed) []
rows_of_cuts = record { none = refl; more = more_cuts }

abbrev pub all_sets : List SetLink → List ℕ
all_sets xs = of_combinations changed (combinations_view xs)

pub rows_of_sets : Rows all_sets (one_set changed) []
rows_of_sets = record { none = refl; more = λ x xs. refl }

abbrev pub all_scalars : List Scalar → List ℕ
all_scalars xs = of_scalars changed (scalars_view xs)

pub rows_of_scalars : Rows all_scalars (of_scalar changed) []
rows_of_scalars = record { none = refl; more = λ x xs. refl }

abbrev pub one_subscript : Subscript → List ℕ
one_subscript x = of_scalar changed x.index

abbrev pub all_subscripts : List Subscript → List ℕ
all_subscripts xs = of_subscripts changed (subscripts_view xs)

pub rows_of_subscripts : Rows all_subscripts one_subscript []
rows_of_subscripts = record { none = refl; more = λ x xs. refl }

abbrev pub all_selectors : List Selector → List ℕ
all_selectors xs = of_selectors changed (selectors_view xs)

more_selectors : (x : Selector) (xs : List Selector) → all_selectors (x ∷ xs) ≡ one_selector changed x ++ all_selectors xs
more_selectors (selector.Field shape k) xs = refl
more_selectors (selector.VariantField shape k) xs = refl
more_selectors (selector.Item shape es) xs = refl

pub rows_of_selectors : Rows all_selectors (one_selector changed) []
rows_of_selectors = record { none = refl; more = more_selectors }

abbrev pub all_actuals : List Actual → List ℕ
all_actuals xs = of_actuals changed (actuals_view xs)

more_actuals : (x : Actual) (xs : List Actual) → all_actuals (x ∷ xs) ≡ one_actual changed x ++ all_actuals xs
more_actuals (actual.Given at size e) xs = refl
more_actuals (actual.Lent at is_var bounds p) xs = sym (append_assoc (var_root_of is_var p) (of_path changed p) (all_actuals xs))

pub rows_of_actuals : Rows all_actuals (one_actual changed) []
rows_of_actuals = record { none = refl; more = more_actuals }
