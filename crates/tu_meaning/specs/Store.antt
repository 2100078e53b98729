-- What a program stores, in the copying meaning: values by names, and no addresses.
use Rattle.std.specs.Prelude.{ℕ, zero, suc, ◌==◌, Bool, true, false, ◌&&◌, List, [], ◌∷◌, Option, Some, None, ℤ, slice_index_or}
use Rattle.tu_base.specs.Values.{Value, Content, unset, alone, Way, part, with_part}
use Rattle.tu_core.specs.Walk.{Noted, AtElements, AtStep}

-- What a path begins with: a name of the program, a name or a temporary of the running activation, or an element of a collection by its
-- creation number.
pub data Root : Type 0 where
  OfProgram : ℕ → Root
  OfActivation : ℕ → Root
  OfCall : (temporary : ℕ) → Root
  OfCollection : (collection creation : ℕ) → Root

-- what a path names: a root, and the way from it
pub record Place : Type 0 where
  pub root : Root
  pub way : Way

abbrev pub place_of : Root → Place
place_of root = record { root = root; way = [] }

-- What a name holds: its content, and the upper bounds of an array with run-time bounds or of an open formal, or the size of a `string (*)`.
pub record Held : Type 0 where
  pub content : Content
  pub bounds : List ℤ

abbrev pub holds : Content → Held
holds content = record { content = content; bounds = [] }

abbrev pub holds_nothing : Held
holds_nothing = holds unset

-- an actual as a call receives it, with its bounds or its size for an open formal
pub data Actual : Type 0 where
  GivenValue : (bounds : List ℤ) → Value → Actual
  -- a structured constant actual, or a `var` actual
  LentPlace : (is_var : Bool) → (bounds : List ℤ) → Place → Actual

-- what a program needs of a store
pub record Passing (S : Type 0) : Type 0 where
  pub fetch : S → Place → Content
  pub bounds : S → Root → List ℤ
  pub assign : S → Place → Content → S
  -- a declaration, a new element, or the result of a call
  pub declare : S → Root → Held → S
  -- A call begins: its formals receive their actuals. As it is left, in the store of its caller, which stands first.
  pub enter : List Actual → S → S
  pub leave : List Actual → S → S → S
  -- A name of the activation is bound to a place. As its scope is left, in the store that it began in, which stands first.
  pub bind : (is_var : Bool) → (name : ℕ) → Place → S → S
  pub unbind : (is_var : Bool) → (name : ℕ) → Place → S → S → S

-- the names of the program, those and the temporaries of the running activation, and the elements of collections
pub record Store : Type 0 where
  pub globals : ℕ → Held
  pub locals : ℕ → Held
  pub temporaries : ℕ → Held
  pub elements : (collection creation : ℕ) → Held

-- as a program begins all is unset
abbrev pub unset_store : Store
unset_store = record { globals = λ x. holds_nothing; locals = λ x. holds_nothing; temporaries = λ x. holds_nothing; elements = λ c k. holds_nothing }

abbrev pub held : Store → Root → Held
held s (OfProgram x) = s.globals x
held s (OfActivation x) = s.locals x
held s (OfCall x) = s.temporaries x
held s (OfCollection c k) = s.elements c k

abbrev pub with_held : Store → Root → Held → Store
with_held s (OfProgram x) h = record s { globals = λ y. elim (y == x) [ true ↦ h | false ↦ s.globals y ] }
with_held s (OfActivation x) h = record s { locals = λ y. elim (y == x) [ true ↦ h | false ↦ s.locals y ] }
with_held s (OfCall x) h = record s { temporaries = λ y. elim (y == x) [ true ↦ h | false ↦ s.temporaries y ] }
with_held s (OfCollection c k) h = record s { elements = λ d j. elim ((d == c) && (j == k)) [ true ↦ h | false ↦ s.elements d j ] }

abbrev pub fetch : Store → Place → Content
fetch s p = part (held s p.root).content p.way

abbrev pub assign : Store → Place → Content → Store
assign s p content = with_held s p.root (record (held s p.root) { content = with_part (held s p.root).content p.way content })

-- a formal receives a value, or a copy of what it is lent
abbrev pub received : Store → Actual → Held
received s (GivenValue bounds v) = record { content = alone v; bounds = bounds }
received s (LentPlace is_var bounds p) = record { content = fetch s p; bounds = bounds }

abbrev pub formals : Store → List Actual → ℕ → Held
formals s [] x = holds_nothing
formals s (a ∷ more) zero = received s a
formals s (a ∷ more) (suc x) = formals s more x

-- the bounds of a bound name are those of its root, where it is all of that
abbrev pub bounds_at : Store → Place → List ℤ
bounds_at s p = elim p.way [ [] ↦ (held s p.root).bounds | x ∷ way ↦ [] ]

abbrev pub copied : Store → Place → Held
copied s p = record { content = fetch s p; bounds = bounds_at s p }

-- The `var` formals are copied back in order, the first of these being name x of the activation.
abbrev pub copied_back : List Actual → (x : ℕ) → (ended : Store) → Store → Store
copied_back [] x ended s = s
copied_back (GivenValue bounds v ∷ more) x ended s = copied_back more (suc x) ended s
copied_back (LentPlace false bounds p ∷ more) x ended s = copied_back more (suc x) ended s
copied_back (LentPlace true bounds p ∷ more) x ended s = copied_back more (suc x) ended (assign s p (ended.locals x).content)

-- the activation has ended, and its caller's names are there again
abbrev pub with_names_of : Store → Store → Store
with_names_of caller ended = record ended { locals = caller.locals; temporaries = caller.temporaries }

-- A name of `bind var` is copied back, and each name is as it was before.
abbrev pub unbound : Bool → (name : ℕ) → Place → (opened : Store) → Store → Store
unbound false name p opened s = with_held s (OfActivation name) (opened.locals name)
unbound true name p opened s = with_held (assign s p (s.locals name).content) (OfActivation name) (opened.locals name)

-- Values are copied, and nothing shares them.
abbrev pub by_copying : Passing Store
by_copying = record {
  fetch = fetch;
  bounds = λ s root. (held s root).bounds;
  assign = assign;
  declare = with_held;
  enter = λ actuals s. record s { locals = formals s actuals; temporaries = λ x. holds_nothing };
  leave = λ actuals caller ended. copied_back actuals 0 ended (with_names_of caller ended);
  bind = λ is_var name p s. with_held s (OfActivation name) (copied s p);
  unbind = unbound;
}

abbrev pub lent_place : Actual → Option Place
lent_place (GivenValue bounds v) = None
lent_place (LentPlace is_var bounds p) = Some p

abbrev pub lent_at : List Actual → ℕ → Option Place
lent_at [] i = None
lent_at (a ∷ more) zero = lent_place a
lent_at (a ∷ more) (suc i) = lent_at more i

abbrev pub creation_of : Root → ℕ
creation_of (OfProgram x) = 0
creation_of (OfActivation x) = 0
creation_of (OfCall x) = 0
creation_of (OfCollection c k) = k

-- whether a noted test finds two places equal
abbrev pub is_equal_at : Place → Place → Noted → Bool
is_equal_at p q AtElements = creation_of p.root == creation_of q.root
is_equal_at p q (AtStep position) = slice_index_or p.way position 0 == slice_index_or q.way position 0

-- whether each noted test finds two places equal
abbrev pub are_equal_at : Place → Place → List Noted → Bool
are_equal_at p q [] = true
are_equal_at p q (n ∷ more) = is_equal_at p q n && are_equal_at p q more

abbrev pub actuals_meet : Option Place → Option Place → List Noted → Bool
actuals_meet None q tests = false
actuals_meet (Some p) None tests = false
actuals_meet (Some p) (Some q) tests = are_equal_at p q tests
