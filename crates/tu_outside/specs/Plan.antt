-- Which calls of a device in memory fail.
use Rattle.std.specs.Prelude.{ℕ, ◌-◌, Bool, not, ◌&&◌, ◌==◌, nat_le, refl, List, if◌then◌else◌}
use Rattle.std.specs.List.{list_any}
use Rattle.std.specs.Coded.{Coded, code_by, coded×, coded_ℕ, coded_list}
use Rattle.tu_outside.specs.Causes.{one_more}

pub record PlanState : Type 0 where
  -- the numbers of the calls that are to fail
  pub fail : List ℕ
  -- how many calls there were, and how many of them failed
  pub calls : ℕ
  pub faults : ℕ
  -- what is left of the reserve
  pub reserve : ℕ

abbrev pub fresh : List ℕ → PlanState
fresh fail = record { fail = fail; calls = 0; faults = 0; reserve = 0 }

-- the next call is not chosen to fail, and a record of this size fits what is left of the reserve
abbrev pub admits : PlanState → ℕ → Bool
admits plan size = not (list_any (λ number. number == one_more plan.calls) plan.fail) && nat_le size plan.reserve

-- a call is counted, and takes its size of the reserve or raises the faults
abbrev pub after_call : PlanState → ℕ → PlanState
after_call plan size = record {
  fail = plan.fail;
  calls = one_more plan.calls;
  faults = if admits plan size then plan.faults else one_more plan.faults;
  reserve = if admits plan size then plan.reserve - size else plan.reserve;
}

abbrev pub plan_code : Coded PlanState
plan_code = code_by (List ℕ × (ℕ × (ℕ × ℕ))) (coded× (coded_list coded_ℕ) (coded× coded_ℕ (coded× coded_ℕ coded_ℕ)))
    (λ p. (p.fail, (p.calls, (p.faults, p.reserve)))) (λ t. record { fail = t.0; calls = t.1.0; faults = t.1.1.0; reserve = t.1.1.1 }) (λ _. refl)
