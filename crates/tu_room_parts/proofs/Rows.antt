-- Rows of expressions are sums of their elements.
use Rattle.std.specs.Prelude.{◌≡◌, ℕ, ◌+◌, List, ◌∷◌}
use Rattle.std.proofs.Common.{ap, ◌∙◌, refl}
use Rattle.tu_core.specs.Core.{Scalar, Text}
use Rattle.tu_core.specs.Measures.{of_scalar, of_links, of_text, of_texts, of_cuts, of_spot, of_set, of_combinations, of_scalars, of_selectors, of_subscripts, of_actuals, of_path, of_simple}
use Rattle.tu_core_expressions.specs.declared.scalar.Link.{Link}
use Rattle.tu_core_expressions.specs.declared.scalar.Link.TheVariants as link
use Rattle.tu_core_expressions.specs.declared.text.Cut.{Cut}
use Rattle.tu_core_expressions.specs.declared.text.Cut.TheVariants as cut
use Rattle.tu_core_expressions.specs.declared.set.SetLink.{SetLink}
use Rattle.tu_core_expressions.specs.declared.path.Selector.{Selector}
use Rattle.tu_core_expressions.specs.declared.path.Selector.TheVariants as selector
use Rattle.tu_core_expressions.specs.declared.path.Subscript.{Subscript}
use Rattle.tu_core_expressions.specs.declared.call.Actual.{Actual}
use Rattle.tu_core_expressions.specs.declared.call.Actual.TheVariants as actual
use Rattle.tu_core_expressions.specs.ExpressionViews.{links_view, texts_view, cuts_view, combinations_view, scalars_view, subscripts_view, selectors_view, actuals_view}
use Rattle.tu_room_parts.specs.declared.count.Count.{Count}
use Rattle.tu_room_parts.specs.Capped.{capped}
use Rattle.tu_room_parts.specs.Counts.{where_nodes, counting}
use Rattle.tu_room_parts.specs.Rows.{one_link, one_text, one_cut, one_set, one_selector, one_actual}
use Rattle.tu_room_parts.proofs.Sums.{Sums, regrouped}

module _ (c : Count) where
  abbrev pub all_links : List Link → ℕ
  all_links xs = of_links (counting c) (links_view xs)

  more_links : (x : Link) (xs : List Link) → all_links (x ∷ xs) ≡ capped (one_link (counting c) x + all_links xs)
  more_links (link.Operate operator e) xs = regrouped (where_nodes c 1) (of_scalar (counting c) e) (all_links xs)
  more_links (link.Decide operator e) xs = regrouped (where_nodes c 1) (of_scalar (counting c) e) (all_links xs)

  pub sum_links : Sums all_links (one_link (counting c)) 0
  sum_links = record { none = refl; more = more_links }

  abbrev pub all_texts : List Text → ℕ
  all_texts xs = of_texts (counting c) (texts_view xs)

  pub sum_texts : Sums all_texts (one_text (counting c)) 0
  sum_texts = record { none = refl; more = λ x xs. regrouped (where_nodes c 1) (of_text (counting c) x) (all_texts xs) }

  abbrev pub all_cuts : List Cut → ℕ
  all_cuts xs = of_cuts (counting c) (cuts_view xs)

  more_cuts : (x : Cut) (xs : List Cut) → all_cuts (x ∷ xs) ≡ capped (one_cut (counting c) x + all_cuts xs)
  more_cuts (cut.CutCharacter i) xs = regrouped (where_nodes c 1) (of_spot (counting c) i) (all_cuts xs)
  more_cuts (cut.CutPart i j) xs =
      ap (λ n. capped (where_nodes c 1 + n)) (regrouped (of_spot (counting c) i) (of_spot (counting c) j) (all_cuts xs)) ∙ regrouped (where_nodes c 1) (capped (of_spot (counting c) i + of_spot (counting c) j)) (all_cuts xs)

  pub sum_cuts : Sums all_cuts (one_cut (counting c)) 0
  sum_cuts = record { none = refl; more = more_cuts }

  abbrev pub all_sets : List SetLink → ℕ
  all_sets xs = of_combinations (counting c) (combinations_view xs)

  pub sum_sets : Sums all_sets (one_set (counting c)) 0
  sum_sets = record { none = refl; more = λ x xs. regrouped (where_nodes c 1) (of_set (counting c) x.set) (all_sets xs) }

  abbrev pub all_scalars : List Scalar → ℕ
  all_scalars xs = of_scalars (counting c) (scalars_view xs)

  pub sum_scalars : Sums all_scalars (of_scalar (counting c)) 0
  sum_scalars = record { none = refl; more = λ x xs. refl }

  abbrev pub one_subscript : Subscript → ℕ
  one_subscript x = of_scalar (counting c) x.index

  abbrev pub all_subscripts : List Subscript → ℕ
  all_subscripts xs = of_subscripts (counting c) (subscripts_view xs)

  pub sum_subscripts : Sums all_subscripts one_subscript 0
  sum_subscripts = record { none = refl; more = λ x xs. refl }

  abbrev pub all_selectors : List Selector → ℕ
  all_selectors xs = of_selectors (counting c) (selectors_view xs)

  more_selectors : (x : Selector) (xs : List Selector) → all_selectors (x ∷ xs) ≡ capped (one_selector (counting c) x + all_selectors xs)
  more_selectors (selector.Field shape k) xs = refl
  more_selectors (selector.VariantField shape k) xs = refl
  more_selectors (selector.Item shape es) xs = regrouped (where_nodes c 1) (all_subscripts es) (all_selectors xs)

  pub sum_selectors : Sums all_selectors (one_selector (counting c)) 0
  sum_selectors = record { none = refl; more = more_selectors }

  abbrev pub all_actuals : List Actual → ℕ
  all_actuals xs = of_actuals (counting c) (actuals_view xs)

more_actuals : (c : Count) (x : Actual) (xs : List Actual) → all_actuals c (x ∷ xs) ≡ capped (one_actual (counting c) x + all_actuals c xs)
more_actuals c (actual.Given at size e) xs = regrouped 0 (of_simple (counting c) e) (all_actuals c xs)
more_actuals c (actual.Lent at is_var bounds p) xs = regrouped 0 (of_path (counting c) p) (all_actuals c xs)

pub sum_actuals : (c : Count) → Sums (all_actuals c) (one_actual (counting c)) 0
sum_actuals c = record { none = refl; more = more_actuals c }
