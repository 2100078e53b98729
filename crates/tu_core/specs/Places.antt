-- What stands at the places of a text, and which of them can be lent or bound.
use Rattle.std.specs.Prelude.{ℕ, zero, suc, ◌-◌, ◌==◌, Bool, true, false, not, ◌&&◌, List, [], ◌∷◌, ◌++◌, length, slice_get, is_some, is_none, nat_lt, Option, Some, None, ℤ, pos, if◌then◌else◌}
use Rattle.tu_base.specs.declared.shape.Variant.{Variant}
use Rattle.tu_base.specs.declared.shape.Shape.{Shape}
use Rattle.tu_base.specs.declared.shape.Shape.TheVariants.{Array as array_shape, Record as record_shape, Union as union_shape}
use Rattle.tu_core.specs.declared.names.Variable.{Variable}
use Rattle.tu_core.specs.declared.names.Variable.TheVariants.{Global, Local}
use Rattle.tu_core.specs.declared.names.GlobalName.{GlobalName}
use Rattle.tu_core.specs.declared.names.GlobalName.TheVariants.{GlobalOf, GlobalArray}
use Rattle.tu_core.specs.declared.names.LocalName.{LocalName}
use Rattle.tu_core.specs.declared.names.LocalName.TheVariants.{Declared, DeclaredArray, BoundName, BoundText, BoundArray, Counter, Caught, ResultName}
use Rattle.tu_core.specs.declared.names.PlaceKind.{PlaceKind}
use Rattle.tu_core.specs.declared.names.PlaceKind.TheVariants.{OfShape, AnyText, AnyArray}
use Rattle.tu_core.specs.declared.names.Formal.{Formal}
use Rattle.tu_core.specs.declared.names.Formal.TheVariants.{ByValue, ByCopy, ByVar}
use Rattle.tu_core.specs.declared.names.CallResult.{CallResult}
use Rattle.tu_core.specs.declared.names.CallResult.TheVariants.{Nothing, OneValue, OnePlace}
use Rattle.tu_core.specs.declared.targets.Index.{Index}
use Rattle.tu_core.specs.declared.targets.Size.TheVariants.{Most, AtName}
use Rattle.tu_core.specs.declared.targets.Target.{Target}
use Rattle.tu_core.specs.declared.targets.Target.TheVariants.{TakesScalar, TakesText}
use Rattle.tu_core.specs.Targets.{ints, is_same_target, shape_target, are_same_indexes, take_spans, upper_bounds, known_indexes, are_numbers}
use Rattle.tu_core.specs.Core.{Path, Name, OpenItem, Element, ResultOf, Selectors, End, Field, VariantField, Item, Subscripts, NoSubscript, Subscript, Call, Calls, Routine, Program}

-- what stands at a place, as far as the text tells
pub data Stands : Type 0 where
  NoPlace : Stands
  -- a value of a shape, by its number
  Shaped : (shape : ℕ) → Stands
  -- a value without parts, at a name that has no shape of its own
  Takes : Target → Stands
  -- an array whose open bounds stand at its name
  OpenArray : List Index → (component : ℕ) → Stands

-- the names of a text, and what may stand in it
pub record Names : Type 0 where
  pub program : Program
  pub formals : List Formal
  pub locals : List LocalName
  -- what stands at the result's name
  pub gives : CallResult
  -- what a statement `result` may give
  pub may_give : CallResult
  -- whether a statement `return` may stand there
  pub may_return : Bool
  -- whether it is a handler's block
  pub in_handler : Bool

abbrev pub has_some : {A : Type 0} → (A → Bool) → Option A → Bool
has_some test None = false
has_some test (Some a) = test a

-- Those of the main program, which gives nothing back and is not left by `return`.
abbrev pub main_names : Program → Names
main_names p = record { program = p; formals = []; locals = p.locals; gives = Nothing; may_give = Nothing; may_return = false; in_handler = false }

-- those of a routine, in blocks that give this
abbrev pub names_of : Program → Routine → (may_give : CallResult) → (in_handler : Bool) → Names
names_of p r may_give in_handler = record { program = p; formals = r.formals; locals = r.locals; gives = r.gives; may_give = may_give; may_return = false; in_handler = in_handler }

abbrev pub gives_nothing : CallResult → Bool
gives_nothing Nothing = true
gives_nothing (OneValue target) = false
gives_nothing (OnePlace n) = false

-- Those of the body of a routine, or of its handler's block. These alone give a result, and those of a procedure alone are left by `return`.
abbrev pub body_names : Program → Routine → (in_handler : Bool) → Names
body_names p r in_handler = record { program = p; formals = r.formals; locals = r.locals; gives = r.gives; may_give = r.gives; may_return = gives_nothing r.gives && not r.is_invariant; in_handler = in_handler }

-- whether there is an item with a number
abbrev pub is_there : {A : Type 0} → List A → ℕ → Bool
is_there xs n = is_some (slice_get xs n)

abbrev pub is_place : Stands → Bool
is_place NoPlace = false
is_place (Shaped n) = true
is_place (Takes target) = true
is_place (OpenArray indexes component) = true

-- whether a value of a shape, by its number, stands there
abbrev pub has_shape : ℕ → Stands → Bool
has_shape n NoPlace = false
has_shape n (Shaped m) = m == n
has_shape n (Takes target) = false
has_shape n (OpenArray indexes component) = false

abbrev pub shaped : Option ℕ → Stands
shaped None = NoPlace
shaped (Some n) = Shaped n

-- The components of a record are numbered from 0. Of a union 0 is the tag, and from 1 on all fields of its variants follow.
abbrev pub variant_fields : List Variant → List ℕ
variant_fields [] = []
variant_fields (v ∷ more) = v.fields ++ variant_fields more

abbrev pub field_at : Option Shape → ℕ → Stands
field_at (Some (record_shape fields)) k = shaped (slice_get fields k)
field_at (Some (union_shape tag variants)) zero = Shaped tag
field_at s k = NoPlace

abbrev pub variant_field_at : Option Shape → ℕ → Stands
variant_field_at (Some (union_shape tag variants)) (suc k) = shaped (slice_get (variant_fields variants) k)
variant_field_at s k = NoPlace

-- an element of an array with so many dimensions
abbrev pub item_at : Option Shape → (dimensions : ℕ) → Stands
item_at (Some (array_shape indexes component)) n = if length indexes == n then Shaped component else NoPlace
item_at s n = NoPlace

abbrev pub count_subscripts : Subscripts → ℕ
count_subscripts NoSubscript = 0
count_subscripts (Subscript constant e more) = suc (count_subscripts more)

abbrev pub result_stands : CallResult → Stands
result_stands Nothing = NoPlace
result_stands (OneValue target) = Takes target
result_stands (OnePlace n) = Shaped n

-- the structured result of a call
abbrev pub place_given : CallResult → Stands
place_given Nothing = NoPlace
place_given (OneValue target) = NoPlace
place_given (OnePlace n) = Shaped n

-- what a call gives without parts
abbrev pub value_given : CallResult → Option Target
value_given Nothing = None
value_given (OneValue target) = Some target
value_given (OnePlace n) = None

abbrev pub kind_stands : PlaceKind → Stands
kind_stands (OfShape n) = Shaped n
kind_stands AnyText = Takes (TakesText AtName)
kind_stands (AnyArray indexes component) = OpenArray indexes component

abbrev pub formal_stands : Formal → Stands
formal_stands (ByValue target) = Takes target
formal_stands (ByCopy kind) = kind_stands kind
formal_stands (ByVar at kind) = kind_stands kind

abbrev pub global_stands : GlobalName → Stands
global_stands (GlobalOf n) = Shaped n
global_stands (GlobalArray indexes component) = OpenArray indexes component

-- the element of an array whose open bounds stand at its name
abbrev pub open_item : List Index → Stands → Stands
open_item indexes NoPlace = NoPlace
open_item indexes (Shaped n) = NoPlace
open_item indexes (Takes target) = NoPlace
open_item indexes (OpenArray others component) = if are_same_indexes others indexes then Shaped component else NoPlace

-- an open array of these indexes and this component
abbrev pub is_open_array : List Index → (component : ℕ) → Stands → Bool
is_open_array indexes m NoPlace = false
is_open_array indexes m (Shaped n) = false
is_open_array indexes m (Takes target) = false
is_open_array indexes m (OpenArray others component) = are_same_indexes others indexes && (component == m)

abbrev pub selectors_of : Path → Selectors
selectors_of (Name at x steps) = steps
selectors_of (OpenItem at x indexes es steps) = steps
selectors_of (Element at c e steps) = steps
selectors_of (ResultOf at k call steps) = steps

-- the size of a text, which is known, or stands at the name
abbrev pub is_sized : (bounds : Option (List ℤ)) → Target → Bool
is_sized bounds (TakesText (Most most)) = has_some (are_numbers (pos most ∷ [])) bounds
is_sized bounds (TakesText AtName) = is_none bounds
is_sized bounds target = false

-- an array of these indexes, which are known
abbrev pub is_array_of : List Index → Shape → Bool
is_array_of indexes (array_shape spans component) = are_same_indexes (known_indexes spans) indexes
is_array_of indexes s = false

-- In a text of these names.
module _ (names : Names) where
  abbrev pub shape_at : ℕ → Option Shape
  shape_at n = slice_get names.program.shapes n

  abbrev pub is_collection : ℕ → Bool
  is_collection c = is_there names.program.collections c

  abbrev pub can_have_shape : ℕ → Bool
  can_have_shape n = is_there names.program.shapes n

  abbrev pub local_stands : LocalName → Stands
  local_stands (Declared n) = Shaped n
  local_stands (DeclaredArray indexes component) = OpenArray indexes component
  local_stands (BoundName n) = Shaped n
  local_stands BoundText = Takes (TakesText AtName)
  local_stands (BoundArray indexes component) = OpenArray indexes component
  local_stands (Counter s) = Takes (TakesScalar s)
  local_stands Caught = Takes (TakesScalar ints)
  local_stands ResultName = result_stands names.gives

  -- a local that is no formal
  abbrev pub local_name : ℕ → Option LocalName
  local_name x = if nat_lt x (length names.formals) then None else slice_get names.locals (x - length names.formals)

  abbrev pub stands_at : Variable → Stands
  stands_at (Global x) = elim (slice_get names.program.globals x) [ None ↦ NoPlace | Some g ↦ global_stands g ]
  stands_at (Local x) = elim (slice_get names.formals x) [ Some f ↦ formal_stands f | None ↦ elim (local_name x) [ None ↦ NoPlace | Some l ↦ local_stands l ] ]

  abbrev pub is_known : Variable → Bool
  is_known x = is_place (stands_at x)

  abbrev pub element_of : (collection : ℕ) → Stands
  element_of c = shaped (slice_get names.program.collections c)

  -- the structured result that a call gives
  abbrev pub call_stands : Call → Stands
  call_stands (Calls at callee invariant actuals) = elim (slice_get names.program.routines callee) [ None ↦ NoPlace | Some r ↦ place_given r.gives ]

  -- where selectors lead to from a place
  abbrev pub stands_behind : Stands → Selectors → Stands
  stands_behind s End = s
  stands_behind s (Field n k more) = stands_behind (field_at (shape_at n) k) more
  stands_behind s (VariantField n k more) = stands_behind (variant_field_at (shape_at n) k) more
  stands_behind s (Item n es more) = stands_behind (item_at (shape_at n) (count_subscripts es)) more

  -- where the selectors of a path begin
  abbrev pub root_stands : Path → Stands
  root_stands (Name at x steps) = stands_at x
  root_stands (OpenItem at x indexes es steps) = open_item indexes (stands_at x)
  root_stands (Element at c e steps) = element_of c
  root_stands (ResultOf at k call steps) = call_stands call

  abbrev pub path_stands : Path → Stands
  path_stands path = stands_behind (root_stands path) (selectors_of path)

  -- what a place without parts takes
  abbrev pub target_at : Stands → Option Target
  target_at NoPlace = None
  target_at (Shaped n) = elim (shape_at n) [ None ↦ None | Some s ↦ shape_target s ]
  target_at (Takes target) = Some target
  target_at (OpenArray indexes component) = None

  -- a place that takes what passes a test
  abbrev pub is_of : (Target → Bool) → Stands → Bool
  is_of test s = has_some test (target_at s)

  -- a place that takes exactly this
  abbrev pub takes : Target → Stands → Bool
  takes target s = is_of (is_same_target target) s

  -- a place of a shape, or one without parts that takes what the shape takes
  abbrev pub is_of_shape : ℕ → Stands → Bool
  is_of_shape n NoPlace = false
  is_of_shape n (Shaped m) = m == n
  is_of_shape n (Takes target) = takes target (Shaped n)
  is_of_shape n (OpenArray indexes component) = false

  -- an array with bounds that take these
  abbrev pub is_array : List Index → (component : ℕ) → (bounds : Option (List ℤ)) → Option Shape → Bool
  is_array indexes m bounds (Some (array_shape spans component)) = (take_spans indexes spans && (component == m)) && has_some (are_numbers (upper_bounds indexes spans)) bounds
  is_array indexes m bounds s = false

  -- Whether what stands there can be lent or bound as a place of a kind, with these bounds. A place of a shape has none beside. The bounds of
  -- an open array, and the size of a text, are known, or those at the name.
  abbrev pub takes_place : PlaceKind → (bounds : Option (List ℤ)) → Stands → Bool
  takes_place (OfShape n) bounds s = has_some (are_numbers []) bounds && is_of_shape n s
  takes_place AnyText bounds s = is_of (is_sized bounds) s
  takes_place (AnyArray indexes m) bounds NoPlace = false
  takes_place (AnyArray indexes m) bounds (Shaped n) = is_array indexes m bounds (shape_at n)
  takes_place (AnyArray indexes m) bounds (Takes target) = false
  takes_place (AnyArray indexes m) bounds (OpenArray others component) = is_open_array indexes m (OpenArray others component) && is_none bounds

  -- an array of these indexes
  abbrev pub has_indexes : List Index → Stands → Bool
  has_indexes indexes NoPlace = false
  has_indexes indexes (Shaped n) = has_some (is_array_of indexes) (shape_at n)
  has_indexes indexes (Takes target) = false
  has_indexes indexes (OpenArray others component) = are_same_indexes others indexes
