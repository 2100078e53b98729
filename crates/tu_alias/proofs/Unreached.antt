-- What is lent is not reached by the callee's own names.
use Rattle.std.proofs.Common.{◌≡◌, ℕ, true, false, ◌⊎◌, inl, inr, refl, sym, subst, Option, Some, None}
use Rattle.tu_core.specs.Core.{Path, Calls, Actuals, NoActual, Given, Lent, Program}
use Rattle.tu_core.specs.declared.names.At.{At}
use Rattle.tu_core.specs.Acts.{Subject, subject_of, Calling}
use Rattle.tu_core.specs.Effects.{Reads, Writes}
use Rattle.tu_core.specs.Overlap.{OfSubject, ImportedIn}
use Rattle.tu_alias.specs.Laws.{AreUnreached, LentIsUnreached}

-- what holds of the subject of a path
of_subject : (P : Subject → Type 0) (path : Path) (x : Subject) → subject_of path ≡ Some x → P x → OfSubject P path
of_subject P path x e h = let M : Option Subject → Type 0 = λ o. elim o [ None ↦ ⊥ | Some y ↦ P y ] in subst M (sym e) h

module _ (program : Program) (callee : ℕ) where
  unreached : (actuals : Actuals) → ((place : At) → ImportedIn program callee actuals place → ⊥) → AreUnreached program callee actuals
  unreached NoActual none = tt
  unreached (Given at size e more) none = unreached more none
  unreached (Lent at true bounds path more) none = (
    (λ x e. (
      (λ reads. none at (inl (of_subject (λ y. Reads program callee y ⊎ Writes program callee y) path x e (inl reads), refl))),
      (λ writes. none at (inl (of_subject (λ y. Reads program callee y ⊎ Writes program callee y) path x e (inr writes), refl))),
    )),
    unreached more (λ place i. none place (inr i)),
  )
  unreached (Lent at false bounds path more) none = (
    (λ x e writes. none at (inl (of_subject (Writes program callee) path x e writes, refl))),
    unreached more (λ place i. none place (inr i)),
  )

pub lent_is_unreached : (program : Program) → LentIsUnreached program
lent_is_unreached program keeps acts text at callee invariant actuals call =
    unreached program callee actuals (λ place imported. keeps.no_imported place (acts, text, (Calling (Calls at callee invariant actuals), call, imported)))
