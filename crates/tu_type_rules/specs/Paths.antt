-- What a path stands for: its root, and then one step after the other. One syntax is an element of an array, a part of a string, an element
-- of a collection, a set value, a call, an enumeration value, or a name that a module exports.
use Rattle.std.specs.Prelude.{ℕ, suc, ◌+◌, Bool, true, false, not, List, [], ◌∷◌, map, length, pos, Option, Some, None, if◌then◌else◌}
use Rattle.grammar.specs.Tree.{Mark}
use Rattle.tu_base.specs.Texts.{are_equal_texts}
use Rattle.tu_core.specs.Core.{Text, Literal, Cut, Cuts, NoCut, CutCharacter, CutPart, SetOf, FullSet, Scalars, NoScalar, AndScalar, Path, Name as named_path, OpenItem, Element, ResultOf, Selectors, End, Field, VariantField, Item, Subscripts, Call, Calls}
use Rattle.tu_type_base.specs.declared.fault.FaultKind.TheVariants.{Mismatch}
use Rattle.tu_type_base.specs.Checked.{Checked, Good, fault, both, ◌⊳◌}
use Rattle.tu_type_constants.specs.declared.constant.Constant.TheVariants.{NoConstant, Is}
use Rattle.tu_type_table.specs.declared.types.Field.{Field as TypeField}
use Rattle.tu_type_table.specs.declared.types.Variant.{Variant}
use Rattle.tu_type_table.specs.declared.types.TypeForm.{TypeForm}
use Rattle.tu_type_table.specs.declared.types.TypeForm.TheVariants.{Enumeration, SetOf as set_type, ArrayOf, Record, Union}
use Rattle.tu_type_table.specs.Types.{Name, row_at, bare_of, root_of, base_of}
use Rattle.tu_type_operands.specs.declared.kind.Bounds.{Bounds}
use Rattle.tu_type_operands.specs.declared.kind.Bounds.TheVariants.{Within}
use Rattle.tu_type_operands.specs.declared.kind.Kind.{Kind}
use Rattle.tu_type_operands.specs.declared.kind.Kind.TheVariants.{Whole, AnyText, AnyArray}
use Rattle.tu_type_operands.specs.declared.value.Value.{Value}
use Rattle.tu_type_operands.specs.declared.value.Value.TheVariants.{String, Members, Parts}
use Rattle.tu_type_operands.specs.declared.operand.Place.{Place}
use Rattle.tu_type_operands.specs.Operands.{Operand, OfCall, at_mark, value_of_sort, sort_of_form, index_of, a_value, a_number, a_text, number_of, pointer_of_part, value_of, place_of}
use Rattle.tu_type_operands.specs.declared.names.Parameter.{Parameter}
use Rattle.tu_type_operands.specs.declared.names.Head.{Head}
use Rattle.tu_type_operands.specs.declared.names.Entity.{Entity}
use Rattle.tu_type_operands.specs.declared.names.Entity.TheVariants.{Holds, TypeName, CollectionName, SubprogramName, ModuleName}
use Rattle.tu_type_operands.specs.declared.state.State.{State}
use Rattle.tu_type_operands.specs.Names.{entity_at, here, kind_here, form_of, element_type, stands, held, head_of}
use Rattle.tu_type_rules.specs.Arguments.{Argument, One, Two, All, value_in, spot_at, subscripts, actuals}
use Rattle.tu_type_rules.specs.Functions.{Function, functions, named_in, predefined}

-- what the front of a path stands for
pub data Standing : Type 0 where
  Stands : Operand → Standing
  StandsForType : (type : ℕ) → Standing
  -- is_foreign: a module has exported it
  StandsForCollection : (collection : ℕ) → (is_foreign : Bool) → Standing
  -- not called yet; with the invariant of the module that has exported it
  StandsForSubprogram : (routine : ℕ) → (invariant : Option ℕ) → Standing
  StandsForFunction : Function → Standing
  StandsForModule : (invariant : Option ℕ) → Standing
  -- the call of a procedure
  StandsForCall : Call → Standing

-- a path with one selector more
abbrev pub selectors_with : Selectors → Selectors → Selectors
selectors_with End last = last
selectors_with (Field shape k more) last = Field shape k (selectors_with more last)
selectors_with (VariantField shape k more) last = VariantField shape k (selectors_with more last)
selectors_with (Item shape es more) last = Item shape es (selectors_with more last)

abbrev pub path_with : Path → Selectors → Path
path_with (named_path at x more) last = named_path at x (selectors_with more last)
path_with (OpenItem at x indexes es more) last = OpenItem at x indexes es (selectors_with more last)
path_with (Element at c e more) last = Element at c e (selectors_with more last)
path_with (ResultOf at n call more) last = ResultOf at n call (selectors_with more last)

-- the number of a name among some, from one on
abbrev pub place_from : (number : ℕ) → Name → List Name → Option ℕ
place_from n name [] = None
place_from n name (other ∷ more) = elim (are_equal_texts other name) [ true ↦ Some n | false ↦ place_from (suc n) name more ]

abbrev pub field_from : (number : ℕ) → Name → List TypeField → Option (ℕ × ℕ)
field_from n name [] = None
field_from n name (f ∷ more) = elim (are_equal_texts f.name name) [ true ↦ Some (n, f.type_number) | false ↦ field_from (suc n) name more ]

-- the fields of a union are numbered through all its variants
abbrev pub variant_field_from : (number : ℕ) → Name → List Variant → Option (ℕ × ℕ)
variant_field_from n name [] = None
variant_field_from n name (v ∷ more) = elim (field_from n name v.fields) [ Some found ↦ Some found | None ↦ variant_field_from (n + length v.fields) name more ]

abbrev pub is_named : Option Name → Name → Bool
is_named None name = false
is_named (Some other) name = are_equal_texts other name

abbrev pub cuts_with : Cuts → Cuts → Cuts
cuts_with NoCut last = last
cuts_with (CutCharacter i more) last = CutCharacter i (cuts_with more last)
cuts_with (CutPart i j more) last = CutPart i j (cuts_with more last)

-- a part of a string, behind parts that were taken before
abbrev pub cut : (node : ℕ) → Text → Cuts → Text
cut node (Cut n e cuts) last = Cut n e (cuts_with cuts last)
cut node e last = Cut node e last

-- `s (i)` and `s (i .. j)`
abbrev pub part_of_string : Mark → Text → List Argument → Checked Operand
part_of_string m e (One n x ∷ []) = spot_at n x ⊳ λ i. Good (a_text (cut n.number e (CutCharacter i NoCut)) NoConstant)
part_of_string m e (Two n x l y ∷ []) = both (spot_at n x) (spot_at l y) ⊳ λ z. Good (a_text (cut n.number e (CutPart z.0 z.1 NoCut)) NoConstant)
part_of_string m e (All n ∷ []) = fault Mismatch n
part_of_string m e args = fault Mismatch m

-- At a place of the text, in a path that begins at m.
module _ (s : State) (m : Mark) where
  -- a part of a place
  abbrev pub part_at : (is_variable : Bool) → Place → Selectors → (type : ℕ) → Operand
  part_at is_variable place last n = stands s m.number (Whole n) (record { path = path_with place.path last; is_variable = is_variable; through = None }) NoConstant

  -- ---- a root

  abbrev pub named_by : (is_foreign : Bool) → (invariant : Option ℕ) → Entity → Standing
  named_by is_foreign invariant (Holds x) = Stands (held s m is_foreign x)
  named_by is_foreign invariant (TypeName n) = StandsForType n
  named_by is_foreign invariant (CollectionName c) = StandsForCollection c is_foreign
  named_by is_foreign invariant (SubprogramName r) = StandsForSubprogram r invariant
  named_by is_foreign invariant (ModuleName i) = StandsForModule i

  abbrev pub named : (is_foreign : Bool) → (invariant : Option ℕ) → Option Entity → Checked Standing
  named is_foreign invariant None = fault Mismatch m
  named is_foreign invariant (Some e) = Good (named_by is_foreign invariant e)

  abbrev pub root_by : (name : Name) → Option Entity → Checked Standing
  root_by name (Some e) = Good (named_by false None e)
  root_by name None = elim (named_in functions name) [ None ↦ fault Mismatch m | Some f ↦ Good (StandsForFunction f) ]

  abbrev pub root : (name : Name) → (start : ℕ) → Checked Standing
  root name start = root_by name (entity_at s start)

  -- ---- calls

  -- a value of a declared type
  abbrev pub typed : (type : ℕ) → Value → Operand
  typed n value = record (a_value (here s n) value NoConstant) { declared = Whole n }

  -- what a function gives: a value, or a place of its own that is no variable
  abbrev pub given_by : (type : ℕ) → Call → Value → Operand
  given_by n call Parts = stands s m.number (Whole n) (record { path = ResultOf (at_mark m) m.number call End; is_variable = false; through = None }) NoConstant
  given_by n call value = typed n value

  abbrev pub called : (result : Option ℕ) → Call → Standing
  called None call = StandsForCall call
  called (Some n) call = Stands (given_by n call (value_of_sort m.number (OfCall call) (sort_of_form s.types (here s n) (form_of s n))))

  abbrev pub parameter_here : Parameter → Parameter
  parameter_here p = record p { kind = kind_here s p.kind }

  abbrev pub parameters_here : Head → List Parameter
  parameters_here head = map parameter_here head.parameters

  abbrev pub call_by : (routine : ℕ) → Head → (invariant : Option ℕ) → List Argument → Checked Standing
  call_by r head invariant args =
      actuals s.types m (parameters_here head) args ⊳ λ given. Good (called head.result (Calls (at_mark m) r invariant given))

  abbrev pub call : (routine : ℕ) → (invariant : Option ℕ) → List Argument → Checked Standing
  call r invariant args = call_by r (head_of s r) invariant args

  -- a path that ends here, or goes on with a dot: what takes no parts is called
  abbrev pub completed : Standing → Checked Standing
  completed (StandsForSubprogram r invariant) = call r invariant []
  completed (StandsForFunction f) = predefined s.types m f [] ⊳ λ a. Good (Stands a)
  completed x = Good x

  -- ---- behind a dot

  abbrev pub value_of_enumeration : (type : ℕ) → Name → TypeForm → Checked Standing
  value_of_enumeration n name (Enumeration written values) = elim (place_from 0 name values) [
    | None ↦ fault Mismatch m
    | Some k ↦ Good (Stands (a_number (here s n) (Literal m.number (pos k)) (Is (pos k))))
  ]
  value_of_enumeration n name form = fault Mismatch m

  abbrev pub found_field : Place → (selector : ℕ → Selectors) → Option (ℕ × ℕ) → Checked Standing
  found_field place selector None = fault Mismatch m
  found_field place selector (Some f) = Good (Stands (part_at place.is_variable place (selector f.0) f.1))

  -- a tag may be read and not changed
  abbrev pub field_of_form : (shape : ℕ) → Name → Place → TypeForm → Checked Standing
  field_of_form shape name place (Record written fields) = found_field place (λ k. Field shape k End) (field_from 0 name fields)
  field_of_form shape name place (Union written tag_name tag variants) =
      if is_named tag_name name then Good (Stands (part_at false place (Field shape 0 End) tag)) else found_field place (λ k. VariantField shape k End) (variant_field_from 1 name variants)
  field_of_form shape name place form = fault Mismatch m

  abbrev pub field_of : Name → Kind → Option Place → Checked Standing
  field_of name (Whole n) (Some place) = field_of_form (bare_of s.types n) name place (form_of s n)
  field_of name kind place = fault Mismatch m

  abbrev pub dotted_by : (name : Name) → (start : ℕ) → Standing → Checked Standing
  dotted_by name start (Stands a) = field_of name a.kind (place_of a)
  dotted_by name start (StandsForType n) = value_of_enumeration n name (form_of s n)
  dotted_by name start (StandsForModule invariant) = named true invariant (entity_at s start)
  dotted_by name start other = fault Mismatch m

  abbrev pub dotted : (name : Name) → (start : ℕ) → Standing → Checked Standing
  dotted name start x = completed x ⊳ dotted_by name start

  -- ---- brackets

  abbrev pub members_of : (root : ℕ) → List Argument → Checked Scalars
  members_of root [] = Good NoScalar
  members_of root (x ∷ more) = both (value_in x ⊳ λ a. number_of root a.0 (value_of a.1)) (members_of root more) ⊳ λ z. Good (AndScalar z.0 z.1)

  -- `S (a, b)` and `S (all)` of a set type
  abbrev pub set_of : (type base : ℕ) → List Argument → Checked Standing
  set_of n base (All l ∷ []) = Good (Stands (typed n (Members base (FullSet m.number (base_of s.types base)))))
  set_of n base args = members_of (root_of s.types base) args ⊳ λ es. Good (Stands (typed n (Members base (SetOf m.number (base_of s.types base) es))))

  abbrev pub set_of_form : (type : ℕ) → List Argument → TypeForm → Checked Standing
  set_of_form n args (set_type base) = set_of n base args
  set_of_form n args form = fault Mismatch m

  -- the element that a pointer names
  abbrev pub element_of : (collection : ℕ) → (is_foreign : Bool) → List Argument → Checked Standing
  element_of c is_foreign (x ∷ []) = value_in x ⊳ λ a. pointer_of_part c a.0 (value_of a.1) ⊳ λ e.
      Good (Stands (stands s m.number (Whole (element_type s c)) (record { path = Element (at_mark m) c e End; is_variable = not is_foreign; through = None }) NoConstant))
  element_of c is_foreign xs = fault Mismatch m

  -- an element of an array has a subscript for each index
  abbrev pub item : (selected : Subscripts → Path) → Place → List Bounds → (component : ℕ) → List Argument → Checked Standing
  item selected place indexes component args =
      subscripts s.types m indexes args ⊳ λ es.
      Good (Stands (stands s m.number (Whole component) (record { path = selected es; is_variable = place.is_variable; through = None }) NoConstant))

  -- the component as it was declared
  abbrev pub component_by : (seen : ℕ) → TypeForm → ℕ
  component_by n (ArrayOf indexes component) = component
  component_by n form = n

  abbrev pub component_of : (declared : Kind) → (seen : ℕ) → ℕ
  component_of (Whole n) seen = component_by seen (row_at s.types n).form
  component_of AnyText seen = seen
  component_of (AnyArray indexes component) seen = component

  abbrev pub item_of_form : (shape : ℕ) → (declared : Kind) → Place → List Argument → TypeForm → Checked Standing
  item_of_form shape declared place args (ArrayOf indexes component) = item (λ es. path_with place.path (Item shape es End)) place (map Within indexes) (component_of declared component) args
  item_of_form shape declared place args form = fault Mismatch m

  -- an array whose bounds stand at its name is a name alone
  abbrev pub open_item : List Bounds → Subscripts → Path → Path
  open_item indexes es (named_path at x more) = OpenItem at x (map (index_of s.types) indexes) es more
  open_item indexes es path = path

  abbrev pub item_of : (kind declared : Kind) → Option Place → List Argument → Checked Standing
  item_of (Whole n) declared (Some place) args = item_of_form (bare_of s.types n) declared place args (form_of s n)
  item_of (AnyArray indexes component) declared (Some place) args = item (λ es. open_item indexes es place.path) place indexes (component_of declared component) args
  item_of kind declared place args = fault Mismatch m

  abbrev pub bracketed_value : Operand → List Argument → Value → Checked Standing
  bracketed_value a args (String e) = part_of_string m e args ⊳ λ b. Good (Stands b)
  bracketed_value a args other = item_of a.kind a.declared (place_of a) args

  abbrev pub bracketed : Standing × List Argument → Checked Standing
  bracketed (Stands a, args) = bracketed_value a args (value_of a)
  bracketed (StandsForType n, args) = set_of_form n args (form_of s n)
  bracketed (StandsForCollection c is_foreign, args) = element_of c is_foreign args
  bracketed (StandsForSubprogram r invariant, args) = call r invariant args
  bracketed (StandsForFunction f, args) = predefined s.types m f args ⊳ λ a. Good (Stands a)
  bracketed (StandsForModule invariant, args) = fault Mismatch m
  bracketed (StandsForCall other, args) = fault Mismatch m

-- a path that is a value or a place
abbrev pub operand_of : Mark → Standing → Checked Operand
operand_of m (Stands a) = Good a
operand_of m other = fault Mismatch m
