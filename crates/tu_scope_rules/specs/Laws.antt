-- What holds of all texts: the fault that is told is the least, and behind the end of a scope nothing of it is seen.
use Prim.Native.Nat.{zero, suc}
use Rattle.std.specs.Prelude.{◌≡◌, ℕ, ◌<◌, ◌≤◌, List, [], ◌∷◌, Some, None}
use Rattle.tu_scope_rules.specs.Names.{NameAt}
use Rattle.tu_scope_rules.specs.declared.event.Context.{Context}
use Rattle.tu_scope_rules.specs.declared.fault.Fault.{Fault}
use Rattle.tu_scope_rules.specs.Least.{least, IsLeast}
use Rattle.tu_scope_rules.specs.declared.event.Event.{Event}
use Rattle.tu_scope_rules.specs.declared.event.Event.TheVariants.{Open, Close, Import, Body}
use Rattle.tu_scope_rules.specs.declared.search.Scope.{Scope}
use Rattle.tu_scope_rules.specs.Views.{View, view_behind, look_up}

-- of several faults one is told, which is one of them, and none is before it
pub record LeastIsTold : Type 0 where
  pub none : (faults : List Fault) → least faults ≡ None → faults ≡ []
  pub some : (faults : List Fault) (fault : Fault) → least faults ≡ Some fault → IsLeast fault faults

-- the view behind events, in the order of the text
abbrev pub views : View → List Event → View
views view [] = view
views view (event ∷ events) = views (view_behind view event) events

-- In this many open scopes, events that open and close scopes of numbers from n on alone, and end with all of them closed. Bodies are left out: they go on in a scope that was there before.
abbrev pub IsClosed : (n depth : ℕ) → List Event → Type 0
IsClosed n zero [] = Unit {0}
IsClosed n zero (Open scope visibility ∷ events) = (n ≤ scope) × IsClosed n 1 events
IsClosed n zero (other ∷ events) = ⊥
IsClosed n (suc depth) [] = ⊥
IsClosed n (suc depth) (Open scope visibility ∷ events) = (n ≤ scope) × IsClosed n (suc (suc depth)) events
IsClosed n (suc depth) (Close ∷ events) = IsClosed n depth events
IsClosed n (suc depth) (Import name scope ∷ events) = (n ≤ scope) × IsClosed n (suc depth) events
IsClosed n (suc depth) (Body name kind scope ∷ events) = ⊥
IsClosed n (suc depth) (other ∷ events) = IsClosed n (suc depth) events

abbrev pub AllBelow : (n : ℕ) → List Scope → Type 0
AllBelow n [] = Unit {0}
AllBelow n (scope ∷ scopes) = (scope.number < n) × AllBelow n scopes

-- the open scopes have numbers below n, the closed ones from n on: each name means the same before and behind them
abbrev pub ClosedIsUnseen : Type 0
ClosedIsUnseen = (n : ℕ) (view : View) (events : List Event) → AllBelow n view.scopes → IsClosed n 0 events → (context : Context) (name : NameAt) → look_up (views view events) context name ≡ look_up view context name
