-- Behind the end of a scope nothing of it is seen.
use Rattle.std.proofs.Common.{◌≡◌, ℕ, ◌<◌, ◌≤◌, false, List, [], ◌∷◌, ◌++◌, Option, Some, None, refl, ap, ◌∙◌, arith, length}
use Rattle.std.specs.Prelude.{◌&&◌, ◌||◌, if◌then◌else◌, nat_eq, is_some}
use Rattle.std.specs.Option.{option_or}
use Rattle.std.specs.Str.{bytes_eq}
use Rattle.std.proofs.lemmas.Bool.{ne_eqb}
use Rattle.tu_scope_rules.specs.Names.{NameAt}
use Rattle.tu_scope_rules.specs.Namespaces.{namespace_number}
use Rattle.tu_scope_rules.specs.declared.event.Context.{Context}
use Rattle.tu_scope_rules.specs.declared.event.Context.TheVariants.{Elsewhere, AfterPointer, InPost}
use Rattle.tu_scope_rules.specs.declared.event.Visibility.{Visibility}
use Rattle.tu_scope_rules.specs.declared.event.Visibility.TheVariants.{All, Listed}
use Rattle.tu_scope_rules.specs.declared.event.Declaration.{Declaration}
use Rattle.tu_scope_rules.specs.declared.event.Event.{Event}
use Rattle.tu_scope_rules.specs.declared.event.Event.TheVariants.{Open, Close, Declare, Member as IsMember, Own, Early as IsEarly, Outcome as IsOutcome, Import, Export, Use, Select, Forward, Body, Await, End}
use Rattle.tu_scope_rules.specs.declared.table.Namespace.{Namespace}
use Rattle.tu_scope_rules.specs.declared.table.Namespace.TheVariants.{Declared, Member, Imported, Exported, Early, Outcome}
use Rattle.tu_scope_rules.specs.declared.search.Scope.{Scope}
use Rattle.tu_scope_rules.specs.declared.search.Found.{Found}
use Rattle.tu_scope_rules.specs.Search.{search, in_scope, special, is_declared_around, outside, beyond, known_or}
use Rattle.tu_scope_rules.specs.Views.{View, view_behind, look_up, here, declaration_found, recorded, put_any, innermost, around, forward_namespace}
use Rattle.tu_scope_rules.specs.Laws.{views, IsClosed, AllBelow, ClosedIsUnseen}

-- the same is recorded in the scopes with numbers below n
abbrev IsSame : (n : ℕ) → View → View → Type 0
IsSame n outer view = (scope : ℕ) → scope < n → (namespace : Namespace) (name : List ℕ) → view.at scope namespace name ≡ outer.at scope namespace name

abbrev AllFrom : (n : ℕ) → List Scope → Type 0
AllFrom n [] = Unit {0}
AllFrom n (scope ∷ scopes) = (n ≤ scope.number) × AllFrom n scopes

-- what is put into another scope changes nothing there
put_same : (n : ℕ) (outer view : View) (to : ℕ) (namespace : Namespace) (name : NameAt) (declaration : Option Declaration) → n ≤ to → IsSame n outer view
    → (scope : ℕ) → scope < n → (c : Namespace) (s : List ℕ) → recorded view (put_any to namespace name declaration) scope c s ≡ outer.at scope c s
put_same n outer view to namespace name None high same scope low c s = same scope low c s
put_same n outer view to namespace name (Some declaration) high same scope low c s =
    let apart : nat_eq scope to ≡ false = ne_eqb scope to (λ e. absurd (omega arith)) in
    ap (λ b. if b && (nat_eq (namespace_number c) (namespace_number namespace) && bytes_eq s name.text) then Some declaration else view.at scope c s) apart ∙ same scope low c s

module _ (n : ℕ) (outer : View) where
  keeps : (inner : List Scope) (view : View) (events : List Event) → AllFrom n inner → view.scopes ≡ inner ++ outer.scopes → IsSame n outer view → IsClosed n (length inner) events
      → ((views view events).scopes ≡ outer.scopes) × IsSame n outer (views view events)
  keeps [] view [] high is same h = (is, same)
  keeps [] view (Open scope visibility ∷ events) high is same h =
      keeps (record { number = scope; visibility = visibility } ∷ []) (view_behind view (Open scope visibility)) events (h.0, tt) (ap (λ fs. record { number = scope; visibility = visibility } ∷ fs) is) same h.1
  keeps [] view (other ∷ events) high is same h = absurd h
  keeps (f ∷ inner) view [] high is same h = absurd h
  keeps (f ∷ inner) view (Open scope visibility ∷ events) high is same h =
      keeps (record { number = scope; visibility = visibility } ∷ (f ∷ inner)) (view_behind view (Open scope visibility)) events (h.0, high) (ap (λ fs. record { number = scope; visibility = visibility } ∷ fs) is) same h.1
  keeps (f ∷ inner) view (Close ∷ events) high is same h = keeps inner (view_behind view Close) events high.1 (ap around is) same h
  keeps (f ∷ inner) view (Import name scope ∷ events) high is same h =
      keeps (f ∷ inner) (view_behind view (Import name scope)) events high is (put_same n outer view scope Imported name (declaration_found (look_up view Elsewhere name)) h.0 same) h.1
  keeps (f ∷ inner) view (Body name kind scope ∷ events) high is same h = absurd h
  keeps (f ∷ inner) view (Declare name declaration ∷ events) high is same h =
      keeps (f ∷ inner) (view_behind view (Declare name declaration)) events high is (put_same n outer view (innermost view.scopes) Declared name (Some declaration) (omega (arith, ap innermost is, high.0)) same) h
  keeps (f ∷ inner) view (IsMember name declaration ∷ events) high is same h =
      keeps (f ∷ inner) (view_behind view (IsMember name declaration)) events high is (put_same n outer view (innermost view.scopes) Member name (Some declaration) (omega (arith, ap innermost is, high.0)) same) h
  keeps (f ∷ inner) view (Own name declaration ∷ events) high is same h =
      keeps (f ∷ inner) (view_behind view (Own name declaration)) events high is (put_same n outer view (innermost view.scopes) Imported name (Some declaration) (omega (arith, ap innermost is, high.0)) same) h
  keeps (f ∷ inner) view (IsEarly name declaration ∷ events) high is same h =
      keeps (f ∷ inner) (view_behind view (IsEarly name declaration)) events high is (put_same n outer view (innermost view.scopes) Early name (Some declaration) (omega (arith, ap innermost is, high.0)) same) h
  keeps (f ∷ inner) view (IsOutcome name declaration ∷ events) high is same h =
      keeps (f ∷ inner) (view_behind view (IsOutcome name declaration)) events high is (put_same n outer view (innermost view.scopes) Outcome name (Some declaration) (omega (arith, ap innermost is, high.0)) same) h
  keeps (f ∷ inner) view (Export name ∷ events) high is same h =
      keeps (f ∷ inner) (view_behind view (Export name)) events high is (put_same n outer view (innermost view.scopes) Exported name (here view Declared name) (omega (arith, ap innermost is, high.0)) same) h
  keeps (f ∷ inner) view (Forward name kind declaration ∷ events) high is same h =
      keeps (f ∷ inner) (view_behind view (Forward name kind declaration)) events high is (put_same n outer view (innermost view.scopes) (forward_namespace kind) name (Some declaration) (omega (arith, ap innermost is, high.0)) same) h
  keeps (f ∷ inner) view (Use name context ∷ events) high is same h = keeps (f ∷ inner) view events high is same h
  keeps (f ∷ inner) view (Select name second context ∷ events) high is same h = keeps (f ∷ inner) view events high is same h
  keeps (f ∷ inner) view (Await name kind ∷ events) high is same h = keeps (f ∷ inner) view events high is same h
  keeps (f ∷ inner) view (End name opened ∷ events) high is same h = keeps (f ∷ inner) view events high is same h

-- the search through scopes in which the same is recorded
module _ (n : ℕ) (outer view : View) (same : IsSame n outer view) (name : List ℕ) where
  special_same : (context : Context) (scope : ℕ) → scope < n → special view.at name context scope ≡ special outer.at name context scope
  special_same Elsewhere scope low = refl
  special_same AfterPointer scope low = same scope low Early name
  special_same InPost scope low = same scope low Outcome name

  in_scope_same : (context : Context) (scope : ℕ) → scope < n → in_scope view.at name context scope ≡ in_scope outer.at name context scope
  in_scope_same context scope low =
      let a = special_same context scope low in
      let b = same scope low Declared name in
      let c = same scope low Imported name in
      ap (λ x. option_or x (option_or (view.at scope Declared name) (view.at scope Imported name))) a
      ∙ (ap (λ x. option_or (special outer.at name context scope) (option_or x (view.at scope Imported name))) b
      ∙ ap (λ x. option_or (special outer.at name context scope) (option_or (outer.at scope Declared name) x)) c)

  around_same : (scopes : List Scope) → AllBelow n scopes → is_declared_around view.at name scopes ≡ is_declared_around outer.at name scopes
  around_same [] low = refl
  around_same (f ∷ scopes) low =
      ap (λ x. is_some x || is_declared_around view.at name scopes) (same f.number low.0 Declared name) ∙ ap (λ b. is_some (outer.at f.number Declared name) || b) (around_same scopes low.1)

  beyond_same : (visibility : Visibility) (scopes : List Scope) (further : Found) → AllBelow n scopes → beyond view.at name visibility scopes further ≡ beyond outer.at name visibility scopes further
  beyond_same All scopes further low = refl
  beyond_same Listed scopes further low = ap (outside name) (around_same scopes low)

  found_same : (context : Context) (scopes : List Scope) → AllBelow n scopes → search view.at name context scopes ≡ search outer.at name context scopes
  found_same context [] low = refl
  found_same context (f ∷ scopes) low =
      ap (λ x. known_or x (beyond view.at name f.visibility scopes (search view.at name context scopes))) (in_scope_same context f.number low.0)
      ∙ (ap (λ x. known_or (in_scope outer.at name context f.number) x) (beyond_same f.visibility scopes (search view.at name context scopes) low.1)
      ∙ ap (λ x. known_or (in_scope outer.at name context f.number) (beyond outer.at name f.visibility scopes x)) (found_same context scopes low.1))

pub closed_is_unseen : ClosedIsUnseen
closed_is_unseen n view events low h context name =
    let kept = keeps n view [] view events tt refl (λ scope below namespace s. refl) h in
    ap (λ fs. search (views view events).at name.text context fs) kept.0 ∙ found_same n view (views view events) kept.1 name.text context view.scopes low
