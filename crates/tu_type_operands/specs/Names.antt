-- What names stand for, and what is known at a place of the text.
use Rattle.std.specs.Prelude.{ℕ, ◌+◌, Bool, false, not, ◌&&◌, List, [], ◌∷◌, ◌++◌, length, map, slice_get, Option, Some, None}
use Rattle.grammar.specs.Tree.{Mark}
use Rattle.tu_scope_rules.specs.declared.name_use.NameUse.{NameUse}
use Rattle.tu_core.specs.declared.names.GlobalName.{GlobalName}
use Rattle.tu_core.specs.declared.names.GlobalName.TheVariants.{GlobalOf, GlobalArray}
use Rattle.tu_core.specs.declared.names.LocalName.{LocalName}
use Rattle.tu_core.specs.declared.names.LocalName.TheVariants.{Declared, DeclaredArray}
use Rattle.tu_core.specs.Core.{Name as named_path, End}
use Rattle.tu_type_constants.specs.declared.constant.Constant.{Constant}
use Rattle.tu_type_table.specs.declared.types.TypeForm.{TypeForm}
use Rattle.tu_type_table.specs.declared.types.TypeForm.TheVariants.{PointerTo}
use Rattle.tu_type_table.specs.Types.{row_at, bare_of, found_from, seen, first_types, int}
use Rattle.tu_type_operands.specs.declared.kind.Kind.{Kind}
use Rattle.tu_type_operands.specs.declared.kind.Kind.TheVariants.{Whole, AnyText, AnyArray}
use Rattle.tu_type_operands.specs.declared.kind.Bounds.{Bounds}
use Rattle.tu_type_operands.specs.declared.kind.Bounds.TheVariants.{Within, From}
use Rattle.tu_type_operands.specs.declared.operand.Place.{Place}
use Rattle.tu_type_operands.specs.Operands.{Operand, at_place, at_mark, index_of}
use Rattle.tu_type_operands.specs.Tables.{declaration_at, entity_in, uses_by_start, with_entry}
use Rattle.tu_type_operands.specs.declared.names.Head.{Head}
use Rattle.tu_type_operands.specs.declared.names.Holder.{Holder}
use Rattle.tu_type_operands.specs.declared.names.Entity.{Entity}
use Rattle.tu_type_operands.specs.declared.state.Owner.TheVariants.{OfMain}
use Rattle.tu_type_operands.specs.declared.state.ModuleText.{ModuleText}
use Rattle.tu_type_operands.specs.declared.state.State.{State}

abbrev pub no_module : ModuleText
no_module = record { opaques = []; fixed = []; fixed_collections = []; invariant = None }

-- where a program begins
abbrev pub start : List NameUse → State
start uses = record { uses = uses_by_start uses; types = first_types; entities = []; heads = []; elements = []; globals = []; global_words = 0; routines = []; formals = 0; locals = []; mentions = []; own = no_module; around = record { owner = OfMain; in_loop = false; in_handler = false; home = None } }

-- an invariant's head
abbrev pub no_head : Head
no_head = record { parameters = []; result = None; result_name = None; stars = 0; fixed = []; fixed_collections = [] }

module _ (s : State) where
  -- what the name that begins at a place stands for; nothing for a predefined name
  abbrev pub entity_of : Option ℕ → Option Entity
  entity_of None = None
  entity_of (Some n) = entity_in s.entities n

  abbrev pub entity_at : (start : ℕ) → Option Entity
  entity_at start = entity_of (declaration_at s.uses start)

  abbrev pub head_of : (routine : ℕ) → Head
  head_of r = elim (slice_get s.heads r) [ Some head ↦ head | None ↦ no_head ]

  -- types as they are seen here
  abbrev pub here : (type : ℕ) → ℕ
  here n = seen s.types s.around.home n

  abbrev pub bounds_here : Bounds → Bounds
  bounds_here (Within n) = Within (here n)
  bounds_here (From root low) = From root low

  abbrev pub kind_here : Kind → Kind
  kind_here (Whole n) = Whole (here n)
  kind_here AnyText = AnyText
  kind_here (AnyArray indexes component) = AnyArray (map bounds_here indexes) (here component)

  abbrev pub form_of : (type : ℕ) → TypeForm
  form_of n = (row_at s.types (here n)).form

  -- the type of pointers to a collection, which stands in the table from its declaration on
  abbrev pub pointer_type : (collection : ℕ) → ℕ
  pointer_type c = elim (found_from s.types (PointerTo c) 0 s.types) [ Some n ↦ n | None ↦ int ]

  abbrev pub element_type : (collection : ℕ) → ℕ
  element_type c = elim (slice_get s.elements c) [ Some n ↦ n | None ↦ int ]

  -- what stands at a place of a declared type, and has the node's number where it is read
  abbrev pub stands : (node : ℕ) → (declared : Kind) → Place → Constant → Operand
  stands node declared place constant = at_place s.types node (kind_here declared) declared place constant

  -- what a name at m holds; what a module exports is not changed outside
  abbrev pub held : Mark → (is_foreign : Bool) → Holder → Operand
  held m is_foreign x = stands m.number x.kind (record { path = named_path (at_mark m) x.variable End; is_variable = x.is_variable && not is_foreign; through = x.through }) x.constant

  abbrev pub with_entity : (declaration : ℕ) → Entity → State
  with_entity n e = record s { entities = with_entry n e s.entities }

  abbrev pub with_local : LocalName → State
  with_local x = record s { locals = s.locals ++ x ∷ [] }

  -- the number that the next local has
  abbrev pub next_local : ℕ
  next_local = s.formals + length s.locals

  abbrev pub with_global : GlobalName → (words : ℕ) → State
  with_global x words = record s { globals = s.globals ++ x ∷ []; global_words = s.global_words + words }

  abbrev pub global_name : Kind → GlobalName
  global_name (Whole n) = GlobalOf (bare_of s.types n)
  global_name AnyText = GlobalOf (bare_of s.types int)
  global_name (AnyArray indexes component) = GlobalArray (map (index_of s.types) indexes) (bare_of s.types component)

  abbrev pub local_name : Kind → LocalName
  local_name (Whole n) = Declared (bare_of s.types n)
  local_name AnyText = Declared (bare_of s.types int)
  local_name (AnyArray indexes component) = DeclaredArray (map (index_of s.types) indexes) (bare_of s.types component)

  -- the words of a variable; an array with run-time bounds has one for each dimension and one more
  abbrev pub kind_words : Kind → ℕ
  kind_words (Whole n) = (row_at s.types n).words
  kind_words AnyText = 2
  kind_words (AnyArray indexes component) = 1 + length indexes
