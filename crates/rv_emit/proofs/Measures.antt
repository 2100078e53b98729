-- The words of a text are not more than the size of its code.
use Rattle.std.proofs.Common.{◌≡◌, ℕ, ◌+◌, ◌/◌, ◌≤◌, List, [], ◌∷◌, length, refl, ap, ◌∙◌, arith}
use Rattle.rv_flat.specs.declared.linear.LinearRoutine.{LinearRoutine}
use Rattle.rv_flat.specs.Size.{routines_size}
use Rattle.rv_alloc.specs.declared.place.Places.{Places}
use Rattle.rv_alloc.specs.declared.assigned.Assigned.{Assigned}
use Rattle.rv_alloc.specs.Places.{number_at}
use Rattle.rv_alloc.specs.Assigned.{placed_routines, placed_code, assigned_size}
use Rattle.rv_text.specs.Agrees.{TextsAreLong, TextsAreSmall}
use Rattle.rv_text.specs.Lengths.{routines_length}
use Rattle.rv_text.specs.Text.{text_of}
use Rattle.rv_emit.proofs.Renaming.{code_size_renamed}

size_placed : (rs : List LinearRoutine) (ps : List Places) → routines_size (placed_routines rs ps) ≤ routines_size rs
size_placed [] ps = omega arith
size_placed (r ∷ rs) [] = omega arith
size_placed (r ∷ rs) (p ∷ ps) = let e = code_size_renamed (number_at p) r.code in let ih = size_placed rs ps in omega arith

-- a code none of whose routines has places has the words around the routines alone
by_routines : (rs placed : List LinearRoutine) (words texts : ℕ) → 1 ≤ length rs → routines_size placed ≤ routines_size rs → (1 ≤ length placed → words ≤ routines_size placed + texts) → (placed ≡ [] → words ≡ 20 + texts) → words ≤ routines_size rs + texts
by_routines [] placed words texts l s small none = absurd (omega arith)
by_routines (r ∷ rs) [] words texts l s small none = let e = none refl in omega arith
by_routines (r ∷ rs) (q ∷ qs) words texts l s small none = let e = small (omega arith) in omega arith

pub text_bounded : TextsAreLong → TextsAreSmall → (a : Assigned) → 1 ≤ length a.linear.routines → length (text_of (placed_code a)) ≤ assigned_size a + (length a.linear.texts + 3) / 4
text_bounded long small a l =
    let p = placed_code a in
    by_routines a.linear.routines p.routines (length (text_of p)) ((length a.linear.texts + 3) / 4) l (size_placed a.linear.routines a.places) (small p)
    (λ e. long p ∙ ap (λ rs. 20 + routines_length rs rs + (length a.linear.texts + 3) / 4) e ∙ omega arith)
