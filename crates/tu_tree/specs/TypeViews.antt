-- Each type of the tree of a type, as the rule that it stands for.
use Rattle.std.specs.Prelude.{Bool, List, Option, Some, None}
use Rattle.grammar.specs.Description.{Description, rule}
use Rattle.grammar.specs.Tree.{n-token, n-empty, n-sequence, n-left, n-right, n-rule, n-span, n-short, repeated}
use Rattle.tu_token.specs.declared.class.Class.TheVariants.{Name, SignComma, SignLeftBracket, SignRightBracket, SignSemicolon, SignDot, WordArray, WordOf}
use Rattle.tu_token.specs.Rules.{Rule, ◌⨟◌, ◌∣◌, many, maybe, t, listed, body, r-expr, r-names, r-spec, r-index, r-base, r-range, r-name, r-field, r-variant, r-any}
use Rattle.tu_token.specs.Syntax.{Of}
use Rattle.tu_expr.specs.declared.leaf.Leaf.{Leaf}
use Rattle.tu_expr.specs.declared.leaf.Spot.{Spot}
use Rattle.tu_expr.specs.Leaves.{leaf_view, spot_mark}
use Rattle.tu_expr.specs.Parts.{Part, listing, any_listing}
use Rattle.tu_tree.specs.declared.spec.RangeForm.{RangeForm}
use Rattle.tu_tree.specs.declared.spec.RangeForm.TheVariants as range
use Rattle.tu_tree.specs.declared.spec.IndexForm.{IndexForm}
use Rattle.tu_tree.specs.declared.spec.IndexForm.TheVariants as index
use Rattle.tu_tree.specs.declared.spec.Array.{Array}
use Rattle.tu_tree.specs.declared.spec.BaseForm.{BaseForm}
use Rattle.tu_tree.specs.declared.spec.BaseForm.TheVariants as base
use Rattle.tu_tree.specs.declared.spec.StringSize.{StringSize}
use Rattle.tu_tree.specs.declared.spec.StringSize.TheVariants as size
use Rattle.tu_tree.specs.Parts.{flag}

-- a name behind a dot
abbrev pub member : Description Rule
member = t SignDot ⨟ t Name

-- the name behind a dot, where there is one
abbrev pub member_view : Option Leaf → Part (maybe member)
member_view None = n-right n-empty
member_view (Some name) = n-left (n-sequence n-token (leaf_view Name name))

abbrev pub name_view : Leaf → Option Leaf → Part (body r-name)
name_view first second = n-sequence (leaf_view Name first) (member_view second)

-- a further name behind a comma
abbrev pub named : Description Rule
named = t SignComma ⨟ t Name

abbrev pub named_view : Leaf → Part named
named_view name = n-sequence n-token (leaf_view Name name)

abbrev pub names_view : Leaf → List Leaf → Part (body r-names)
names_view first more = n-sequence (leaf_view Name first) (repeated named named_view more)

-- a `*` that stands for a bound or size
abbrev pub any_view : Spot → Of r-any
any_view spot = n-rule (spot_mark spot) n-token

abbrev pub range_view : RangeForm → Part (body r-range)
range_view (range.Bounds from to) = n-span from (n-sequence n-token to)
range_view (range.Named name) = n-short name

abbrev pub index_view : IndexForm → Part (body r-index)
index_view (index.Bounds from to) = n-span from (n-sequence n-token (n-left to))
index_view (index.Open from star) = n-span from (n-sequence n-token (n-right (any_view star)))
index_view (index.Named name) = n-short name

-- the dimensions of an array
abbrev pub arrays : Description Rule
arrays = t WordArray ⨟ listed r-index ⨟ t WordOf

abbrev pub array_view : Array → Part arrays
array_view array = n-sequence n-token (n-sequence (listing r-index array.first array.more) n-token)

abbrev pub spec_view : List Array → Of r-base → Part (body r-spec)
spec_view before base = n-sequence (repeated arrays array_view before) base

-- the greatest length of a string in brackets
abbrev pub sizes : Description Rule
sizes = t SignLeftBracket ⨟ (rule r-expr ∣ rule r-any) ⨟ t SignRightBracket

abbrev pub size_view : StringSize → Part (maybe sizes)
size_view size.Whole = n-right n-empty
size_view (size.Most most) = n-left (n-sequence n-token (n-sequence (n-left most) n-token))
size_view (size.Open star) = n-left (n-sequence n-token (n-sequence (n-right (any_view star)) n-token))

abbrev pub fields_view : List (Of r-field) → Part (many (rule r-field))
fields_view fields = repeated (rule r-field) (λ x. x) fields

abbrev pub variants_view : List (Of r-variant) → Part (many (rule r-variant))
variants_view variants = repeated (rule r-variant) (λ x. x) variants

abbrev pub tag_view : Option Leaf → Part (maybe (t Name))
tag_view None = n-right n-empty
tag_view (Some name) = n-left (leaf_view Name name)

abbrev pub base_view : BaseForm → Part (body r-base)
base_view base.Int = n-left n-token
base_view base.Boolean = n-right (n-left n-token)
base_view (base.String most) = n-right (n-right (n-left (n-sequence n-token (size_view most))))
base_view (base.Range range) = n-right (n-right (n-right (n-left range)))
base_view (base.Enum names) = n-right (n-right (n-right (n-right (n-left (n-sequence n-token (n-sequence n-token (n-sequence names n-token)))))))
base_view (base.Set range) = n-right (n-right (n-right (n-right (n-right (n-left (n-sequence n-token (n-sequence n-token range)))))))
base_view (base.Pointer name) = n-right (n-right (n-right (n-right (n-right (n-right (n-left (n-sequence n-token (n-sequence n-token name))))))))
base_view (base.Record first more) =
    n-right (n-right (n-right (n-right (n-right (n-right (n-right (n-left (n-sequence n-token (n-sequence first (n-sequence (fields_view more) (n-sequence n-token n-token)))))))))))
base_view (base.Union tag range variants) =
    n-right (n-right (n-right (n-right (n-right (n-right (n-right (n-right
    (n-sequence n-token (n-sequence (tag_view tag) (n-sequence n-token (n-sequence range (n-sequence n-token (n-sequence (variants_view variants) (n-sequence n-token n-token))))))))))))))

abbrev pub field_view : Of r-names → Of r-spec → Bool → Part (body r-field)
field_view names spec semicolon = n-sequence names (n-sequence n-token (n-sequence spec (flag SignSemicolon semicolon)))

abbrev pub variant_view : List (Of r-expr) → List (Of r-field) → Part (body r-variant)
variant_view labels fields = n-sequence n-token (n-sequence (any_listing r-expr labels) (n-sequence n-token (fields_view fields)))
