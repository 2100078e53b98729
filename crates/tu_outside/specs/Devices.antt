-- The devices in memory, and what each call does to them.
use Rattle.std.specs.Prelude.{ℕ, ◌+◌, List, [], ◌∷◌, ◌++◌, length, drop, slice_get, refl, if◌then◌else◌}
use Rattle.tu_base.specs.Files.{Files}
use Rattle.tu_base.specs.declared.event.Event.{Event}
use Rattle.tu_outside.specs.Plan.{PlanState, plan_code, fresh, admits, after_call}
use Rattle.tu_outside.specs.Events.{puts, got}
use Rattle.std.specs.FinMap as map
use Rattle.std.specs.Coded.{Coded, code_by, coded×, coded_ℕ, coded_list}

pub record ConsoleState : Type 0 where
  pub left : List ℕ
  pub events : List Event
  pub plan : PlanState

abbrev pub fresh_console : List ℕ → List ℕ → ConsoleState
fresh_console input fail = record { left = input; events = []; plan = fresh fail }

-- a record of a put has an event for each byte
abbrev pub after_put : ConsoleState → List ℕ → ConsoleState
after_put console bytes = record {
  left = console.left;
  events = if admits console.plan (length bytes) then console.events ++ puts bytes else console.events;
  plan = after_call console.plan (length bytes);
}

-- a record of a get is one event
abbrev pub after_get : ConsoleState → ConsoleState
after_get console = record {
  left = if admits console.plan 1 then drop 1 console.left else console.left;
  events = if admits console.plan 1 then console.events ++ got (slice_get console.left 0) else console.events;
  plan = after_call console.plan 1;
}

pub record CabinetState : Type 0 where
  pub files : Files
  pub plan : PlanState

abbrev pub cabinet_code : Coded CabinetState
cabinet_code = code_by (Files × PlanState) (coded× (map.code (coded_list coded_ℕ) (coded_list coded_ℕ)) plan_code)
    (λ c. (c.files, c.plan)) (λ t. record { files = t.0; plan = t.1 }) (λ _. refl)

abbrev pub fresh_cabinet : List ℕ → CabinetState
fresh_cabinet fail = record { files = map.empty; plan = fresh fail }

pub record NotesState : Type 0 where
  pub lines : List (List ℕ)
  pub plan : PlanState

abbrev pub fresh_notes : List ℕ → NotesState
fresh_notes fail = record { lines = []; plan = fresh fail }

-- a record of a line takes its bytes and one more
abbrev pub after_line : NotesState → List ℕ → NotesState
after_line notes text = record {
  lines = if admits notes.plan (length text + 1) then notes.lines ++ text ∷ [] else notes.lines;
  plan = after_call notes.plan (length text + 1);
}
