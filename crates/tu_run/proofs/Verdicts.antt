-- What a status shows.
use Rattle.std.proofs.Common.{◌≡◌, ℕ, true, false, [], ◌∷◌, List, get_or, refl, ap, sym, ◌∙◌}
use Rattle.std.specs.Prelude.{Some}
use Rattle.tu_base.specs.Kind.{kind_number}
use Rattle.tu_base.specs.declared.kind.Kind.{Kind}
use Rattle.tu_base.specs.declared.kind.Kind.TheVariants.{Overflow, Divide, Subscript, Range, Unset, Tag, Pointer, Overlap, StringSize, StringPlace, Case, Assert, Pre, Post, Invariant, Result as kind_result, Input, EndOfInput, Stream, Bounds, Storage}
use Rattle.tu_base.specs.declared.event.Verdict.{Verdict}
use Rattle.tu_base.specs.declared.event.Verdict.TheVariants.{Ended as verdict_ended, Stopped as verdict_stopped, Going as verdict_going}
use Rattle.rv_image.specs.Run.{MachineVerdict, Ended as machine_ended, Stopped as machine_stopped, Going as machine_going, machine_verdict}
use Rattle.tu_run.specs.declared.report.Status.{Status}
use Rattle.tu_run.specs.declared.report.Status.TheVariants.{Ended, Stopped, Refused, Usage, NoFile, BadImage, Spent, ConsoleFault, CabinetFault, NoteFault, OutOfMemory, MachineFault}
use Rattle.tu_run.specs.Ran.{verdict_shown}
use Rattle.tu_run.specs.Answer.{yields_to, status_of_verdict, is_of_run}

-- the exceptions in the order of their numbers, with one in front for 0
kinds : List Kind
kinds =
    Overflow ∷ (Overflow ∷ (Divide ∷ (Subscript ∷ (Range ∷ (Unset ∷ (Tag ∷ (Pointer ∷ (Overlap ∷ (StringSize ∷ (StringPlace ∷ (Case ∷ (Assert ∷ (Pre ∷ (Post ∷ (
    Invariant ∷ (kind_result ∷ (Input ∷ (EndOfInput ∷ (Stream ∷ (Bounds ∷ (Storage ∷ [])))))))))))))))))))))

kind_again : (k : Kind) → get_or kinds (kind_number k) Overflow ≡ k
unfolding kinds
kind_again Overflow = refl
kind_again Divide = refl
kind_again Subscript = refl
kind_again Range = refl
kind_again Unset = refl
kind_again Tag = refl
kind_again Pointer = refl
kind_again Overlap = refl
kind_again StringSize = refl
kind_again StringPlace = refl
kind_again Case = refl
kind_again Assert = refl
kind_again Pre = refl
kind_again Post = refl
kind_again Invariant = refl
kind_again kind_result = refl
kind_again Input = refl
kind_again EndOfInput = refl
kind_again Stream = refl
kind_again Bounds = refl
kind_again Storage = refl

same_kind : (k l : Kind) → kind_number k ≡ kind_number l → k ≡ l
same_kind k l e = sym (kind_again k) ∙ (ap (λ n. get_or kinds n Overflow) e ∙ kind_again l)

shows_ended : (status : Status) → verdict_shown status ≡ Some machine_ended → status ≡ Ended
shows_ended Ended e = refl
shows_ended (Stopped kind line) e = absurd (cc e)
shows_ended (Refused refusal) e = absurd (cc e)
shows_ended Usage e = absurd (cc e)
shows_ended NoFile e = absurd (cc e)
shows_ended (BadImage error) e = absurd (cc e)
shows_ended Spent e = absurd (cc e)
shows_ended ConsoleFault e = absurd (cc e)
shows_ended CabinetFault e = absurd (cc e)
shows_ended NoteFault e = absurd (cc e)
shows_ended OutOfMemory e = absurd (cc e)
shows_ended (MachineFault kind pc) e = absurd (cc e)

shows_stopped : (status : Status) (kind : Kind) (line : ℕ) → verdict_shown status ≡ Some (machine_stopped (kind_number kind) line) → status ≡ Stopped kind line
shows_stopped Ended kind line e = absurd (cc e)
shows_stopped (Stopped k l) kind line e = let a : kind_number k ≡ kind_number kind = cc e in let b : l ≡ line = cc e in let c = same_kind k kind a in cc
shows_stopped (Refused refusal) kind line e = absurd (cc e)
shows_stopped Usage kind line e = absurd (cc e)
shows_stopped NoFile kind line e = absurd (cc e)
shows_stopped (BadImage error) kind line e = absurd (cc e)
shows_stopped Spent kind line e = absurd (cc e)
shows_stopped ConsoleFault kind line e = absurd (cc e)
shows_stopped CabinetFault kind line e = absurd (cc e)
shows_stopped NoteFault kind line e = absurd (cc e)
shows_stopped OutOfMemory kind line e = absurd (cc e)
shows_stopped (MachineFault k pc) kind line e = absurd (cc e)

pub shows_going : (status : Status) → verdict_shown status ≡ Some machine_going → status ≡ Spent
shows_going Ended e = absurd (cc e)
shows_going (Stopped kind line) e = absurd (cc e)
shows_going (Refused refusal) e = absurd (cc e)
shows_going Usage e = absurd (cc e)
shows_going NoFile e = absurd (cc e)
shows_going (BadImage error) e = absurd (cc e)
shows_going Spent e = refl
shows_going ConsoleFault e = absurd (cc e)
shows_going CabinetFault e = absurd (cc e)
shows_going NoteFault e = absurd (cc e)
shows_going OutOfMemory e = absurd (cc e)
shows_going (MachineFault kind pc) e = absurd (cc e)

-- the status that shows the verdict of a meaning is its status
pub shows_verdict : (status : Status) (verdict : Verdict) → verdict_shown status ≡ Some (machine_verdict verdict) → status ≡ status_of_verdict verdict
shows_verdict status verdict_ended e = shows_ended status e
shows_verdict status (verdict_stopped kind line) e = shows_stopped status kind line e
shows_verdict status verdict_going e = shows_going status e

-- a status of a run to which none yields shows a verdict
pub record Shows (status : Status) : Type 0 where
  pub verdict : MachineVerdict
  pub is : verdict_shown status ≡ Some verdict

pub shown_by : (status : Status) → is_of_run status ≡ true → yields_to status ≡ false → Shows status
shown_by Ended r y = record { verdict = _; is = refl }
shown_by (Stopped kind line) r y = record { verdict = _; is = refl }
shown_by (Refused refusal) r y = absurd (cc r)
shown_by Usage r y = absurd (cc r)
shown_by NoFile r y = absurd (cc r)
shown_by (BadImage error) r y = absurd (cc r)
shown_by Spent r y = record { verdict = _; is = refl }
shown_by ConsoleFault r y = absurd (cc y)
shown_by CabinetFault r y = absurd (cc y)
shown_by NoteFault r y = absurd (cc r)
shown_by OutOfMemory r y = absurd (cc y)
shown_by (MachineFault kind pc) r y = record { verdict = _; is = refl }
