-- One move of a hand-over in which a value is handed on to which another one is handed.
use Rattle.std.proofs.Common.{◌≡◌, ℕ, suc, ◌+◌, ◌<◌, List, [], ◌∷◌, ◌++◌, length, map, drop, get_or, Bool, true, false, refl, ap, sym, ◌∙◌, add-one, drop-cons, append_assoc, append-nil}
use Rattle.std.specs.Prelude.{All, if◌then◌else◌, nat_eq}
use Rattle.std.proofs.lemmas.List.{map-append}
use Rattle.std.proofs.lemmas.List.Elements.{All-map, All-weaker}
use Rattle.rv_isa.specs.declared.instr.Instr.{Instr}
use Rattle.rv_isa.specs.Encoding.{encoding}
use Rattle.rv_runs.specs.Stands.{codes_of}
use Rattle.ir_form.specs.Units.{Head}
use Rattle.rv_layout.specs.Rooms.{slot}
use Rattle.rv_layout.specs.Moves.{Move, Copy, Swap, exchanged, moves, is_among, move_words, copy_words, swap_words}
use Rattle.rv_emit.specs.declared.handing.PutOff.{PutOff}
use Rattle.rv_emit.specs.Mixed.{put_off}
use Rattle.rv_emit.proofs.Moving.{drop_map, words_append}
use Rattle.rv_emit.proofs.PuttingOff.{put_off_last}

-- an exchange gives no other numbers
exchanged_by : (P : ℕ → Type 0) (a b : Bool) (t f x : ℕ) → P t → P f → P x → P (if a then f else if b then t else x)
exchanged_by P true b t f x p q r = q
exchanged_by P false true t f x p q r = p
exchanged_by P false false t f x p q r = r

pub all_exchanged : (P : ℕ → Type 0) (t f : ℕ) (xs ys : List ℕ) → ys ≡ map (exchanged t f) xs → P t → P f → All P xs → All P ys
all_exchanged P t f xs ys e p q r = rw e (All-map P (exchanged t f) xs (All-weaker P (λ x. P (exchanged t f x)) (λ x s. exchanged_by P (nat_eq x t) (nat_eq x f) t f x p q s) xs r))

codes-append : (xs ys : List Instr) → codes_of (xs ++ ys) ≡ codes_of xs ++ codes_of ys
codes-append xs ys = map-append encoding xs ys

module _ (h : Head) (near : Bool) (g : ℕ → ℕ) (to rest : List ℕ) (i : ℕ) (copies : List PutOff) (t f a b : ℕ) (out after : List ℕ) where
  abbrev left : (others : List ℕ) (k : ℕ) → List PutOff → List Instr
  left others k cs = move_words h near true (moves (drop k (map g to)) (drop k others)) ++ put_off near cs

  chosen : Bool → List Move
  chosen among = if among then Swap t f ∷ moves (map g (drop (suc i) to)) (map (exchanged t f) (drop (suc i) rest)) else moves (map g (drop (suc i) to)) (drop (suc i) rest) ++ Copy t f ∷ []

  here : i < length to → i < length rest → t ≡ g (get_or to i 0) → f ≡ get_or rest i f → moves (drop i (map g to)) (drop i rest) ≡ chosen (is_among (map g (drop (suc i) to)) f)
  unfolding chosen
  here l m e d = rw (drop_map g to i, drop-cons to i 0 l, drop-cons rest i f m, sym e, sym d) refl

  pub next_swap : (renamed : List ℕ) → i < length to → i < length rest → t ≡ g (get_or to i 0) → f ≡ get_or rest i f → is_among (map g (drop (i + 1) to)) f ≡ true → renamed ≡ map (exchanged t f) rest
      → a ≡ slot h t → b ≡ slot h f → after ≡ out ++ codes_of (swap_words near a b)
      → after ++ codes_of (left renamed (i + 1) copies) ≡ out ++ codes_of (left rest i copies)
  unfolding chosen
  next_swap renamed l m e d among r p q w =
      let more = move_words h near true (moves (map g (drop (suc i) to)) (map (exchanged t f) (drop (suc i) rest))) ++ put_off near copies in
      let there : left renamed (i + 1) copies ≡ more = rw (r, add-one, drop_map g to (suc i), drop_map (exchanged t f) rest (suc i)) refl in
      let among' : is_among (map g (drop (suc i) to)) f ≡ true = rw add-one at among in
      let now : left rest i copies ≡ swap_words near (slot h t) (slot h f) ++ more =
      ap (λ ms. move_words h near true ms ++ put_off near copies) (here l m e d ∙ ap chosen among')
      ∙ append_assoc (swap_words near (slot h t) (slot h f)) _ (put_off near copies) in
      rw (there, now, w, p, q, codes-append (swap_words near (slot h t) (slot h f)) more) (append_assoc out _ _)

  pub next_copy : (longer : List PutOff) → i < length to → i < length rest → t ≡ g (get_or to i 0) → f ≡ get_or rest i f → is_among (map g (drop (i + 1) to)) f ≡ false
      → a ≡ slot h t → b ≡ slot h f → longer ≡ copies ++ record { to = a; from = b } ∷ []
      → out ++ codes_of (left rest (i + 1) longer) ≡ out ++ codes_of (left rest i copies)
  unfolding chosen
  next_copy longer l m e d among p q r =
      let later = move_words h near true (moves (map g (drop (suc i) to)) (drop (suc i) rest)) in
      let one = copy_words near true (slot h t) (slot h f) in
      let among' : is_among (map g (drop (suc i) to)) f ≡ false = rw add-one at among in
      let there : left rest (i + 1) longer ≡ later ++ (one ++ put_off near copies) =
      rw (r, add-one, drop_map g to (suc i), put_off_last near copies (record { to = a; from = b }), p, q) refl in
      let now : left rest i copies ≡ later ++ (one ++ put_off near copies) =
      ap (λ ms. move_words h near true ms ++ put_off near copies) (here l m e d ∙ ap chosen among')
      ∙ (ap (λ ops. ops ++ put_off near copies) (words_append h near true _ (Copy t f ∷ []) ∙ ap (λ ops. later ++ ops) (append-nil one))
      ∙ append_assoc later one (put_off near copies)) in
      ap (λ ops. out ++ codes_of ops) (there ∙ sym now)
