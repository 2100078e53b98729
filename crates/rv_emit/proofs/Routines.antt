-- The words of the routines, one behind the other.
use Rattle.std.proofs.Common.{◌≡◌, ℕ, zero, suc, ◌+◌, ◌*◌, List, [], ◌∷◌, ◌++◌, drop, Some, None, refl, ap, sym, ◌∙◌, add-one, append_assoc, append-nil}
use Rattle.std.proofs.Math.Path.{fun_ext}
use Rattle.std.proofs.lemmas.List.{map-append, drop_all}
use Rattle.std.specs.Prelude.{slice_get}
use Rattle.rv_isa.specs.declared.instr.Instr.{Instr}
use Rattle.rv_isa.specs.Encoding.{encoding}
use Rattle.rv_runs.specs.Stands.{codes_of}
use Rattle.rv_flat.specs.Units.{head_of}
use Rattle.rv_flat.specs.declared.linear.LinearRoutine.{LinearRoutine}
use Rattle.rv_flat.specs.declared.linear.Linear.{Linear}
use Rattle.rv_layout.specs.Calling.{entering}
use Rattle.rv_text.specs.Lengths.{routine_length}
use Rattle.rv_layout.specs.Words.{Addresses, code_words, far_jump}
use Rattle.rv_text.specs.Text.{addresses, entry_at, label_at, shared_at, routine_words, routines_words}
use Rattle.rv_emit.specs.declared.site.Site.{Site}
use Rattle.rv_emit.specs.declared.site.Labels.{Labels}
use Rattle.rv_emit.specs.Site.{addresses_of, label_place, IsSite}
use Rattle.rv_emit.proofs.Entries.{entry_next, no_more}

same_record : (g g' t t' : ℕ) (e e' : ℕ → ℕ) → g ≡ g' → t ≡ t' → e ≡ e' →
    let one : Addresses = record { globals = g; texts = t; shared = shared_at; entry = e } in let other : Addresses = record { globals = g'; texts = t'; shared = shared_at; entry = e' } in one ≡ other
same_record g g' t t' e e' p q r = rw (p, q, r) refl

pub same_addresses : (l : Linear) (s : Site) → IsSite l s → addresses_of s ≡ addresses l
same_addresses l s h = same_record _ _ _ _ _ _ h.globals h.texts (fun_ext h.entries)

pub drop_at : {X : Type 0} → (xs : List X) (k : ℕ) (x : X) → slice_get xs k ≡ Some x → drop k xs ≡ x ∷ drop (suc k) xs
drop_at [] k x e = absurd (cc)
drop_at (y ∷ ys) zero x e = let same : y ≡ x = cc in rw same refl
drop_at (y ∷ ys) (suc k) x e = drop_at ys k x e

module _ (l : Linear) (s : Site) (h : IsSite l s) (k : ℕ) where
  abbrev more_words : ℕ → List Instr
  more_words j = routines_words (addresses l) l.routines (entry_at l.routines j) (drop j l.routines)

  pub routine_pushed : (r : LinearRoutine) (labels : Labels) (out after target : List ℕ) → slice_get l.routines k ≡ Some r → slice_get s.labels.items k ≡ Some labels
      → out ++ codes_of (more_words k) ≡ target
      → after ≡ out ++ codes_of (entering (head_of r) ++ code_words (addresses_of s) l.routines (head_of r) (far_jump (label_place labels)) r.code)
      → after ++ codes_of (more_words (k + 1)) ≡ target
  routine_pushed r labels out after target e f w a =
      let here = entering (head_of r) ++ code_words (addresses_of s) l.routines (head_of r) (far_jump (label_place labels)) r.code in
      let places : label_place labels ≡ label_at l.routines (entry_at l.routines k) r = fun_ext ((h.labels k labels f).places r e) in
      let same : routine_words (addresses l) l.routines (entry_at l.routines k) r ≡ here =
      ap (λ x. entering (head_of r) ++ code_words x l.routines (head_of r) (far_jump (label_at l.routines (entry_at l.routines k) r)) r.code) (sym (same_addresses l s h))
      ∙ ap (λ x. entering (head_of r) ++ code_words (addresses_of s) l.routines (head_of r) (far_jump x) r.code) (sym places) in
      let both : more_words k ≡ here ++ more_words (k + 1) =
      ap (routines_words (addresses l) l.routines (entry_at l.routines k)) (drop_at l.routines k r e)
      ∙ (ap (λ ops. ops ++ routines_words (addresses l) l.routines (entry_at l.routines k + 4 * routine_length l.routines r) (drop (suc k) l.routines)) same
      ∙ ap (λ n. here ++ routines_words (addresses l) l.routines n (drop (suc k) l.routines)) (sym (entry_next l.routines k r e))
      ∙ rw add-one refl) in
      ap (λ xs. xs ++ codes_of (more_words (k + 1))) a
      ∙ (append_assoc out (codes_of here) (codes_of (more_words (k + 1)))
      ∙ (ap (λ xs. out ++ xs) (sym (ap codes_of both ∙ map-append encoding here (more_words (k + 1)))) ∙ w))

  pub routines_pushed : (out target : List ℕ) → slice_get l.routines k ≡ None → out ++ codes_of (more_words k) ≡ target → out ≡ target
  routines_pushed out target e w =
      sym (append-nil out) ∙ (ap (λ rs. out ++ codes_of (routines_words (addresses l) l.routines (entry_at l.routines k) rs)) (sym (drop_all k l.routines (no_more l.routines k e))) ∙ w)
