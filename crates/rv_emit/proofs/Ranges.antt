-- What holds of each element so far.
use Rattle.std.proofs.Common.{◌≡◌, ℕ, ◌+◌, ◌<◌, List, [], ◌∷◌, ◌++◌, length, map, take, get_or, Some, ap, sym, ◌∙◌}
use Rattle.std.specs.Prelude.{All, slice_get}
use Rattle.std.proofs.lemmas.List.{map_more, take_more}
use Rattle.std.proofs.lemmas.List.Elements.{All-push, All-same}
use Rattle.std.proofs.lemmas.Option.{slice_get_within, get_or_from_slice_get}

module _ {X Y : Type 0} (P : Y → Type 0) where
  pub mapped_more : (g : X → Y) (xs : List X) (i : ℕ) (x : X) → i < length xs → x ≡ get_or xs i x → P (g x) → All P (map g (take i xs)) → All P (map g (take (i + 1) xs))
  mapped_more g xs i x l e p h =
      All-same P _ _ (map_more g xs i x l ∙ ap (λ y. map g (take i xs) ++ g y ∷ []) (sym e)) (All-push P (map g (take i xs)) (g x) h p)

module _ {X : Type 0} (P : X → Type 0) where
  pub taken_more : (xs : List X) (i : ℕ) (x : X) → slice_get xs i ≡ Some x → P x → All P (take i xs) → All P (take (i + 1) xs)
  taken_more xs i x e p h =
      All-same P _ _ (take_more xs i x (slice_get_within xs i x e) ∙ ap (λ y. take i xs ++ y ∷ []) (get_or_from_slice_get xs i x x e)) (All-push P (take i xs) x h p)
