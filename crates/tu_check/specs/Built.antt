-- Forms that are not built yet: the line of the first token of the first one in a tree, of forms inside each other the outer one. A name
-- that is used where it is not declared counts as one, and so do a second declaration of a name and an `exit` outside all loops.
use Rattle.std.specs.Prelude.{ℕ, Bool, true, false, List, [], ◌∷◌, Option, Some, None, if◌then◌else◌}
use Rattle.std.specs.List.{list_any}
use Rattle.std.specs.Option.{option_or}
use Rattle.std.specs.Str.{bytes_eq}
use Rattle.grammar.specs.Description.{rule}
use Rattle.grammar.specs.Tree.{n-rule}
use Rattle.tu_token.specs.declared.class.Class.TheVariants.{Name}
use Rattle.tu_token.specs.Rules.{r-program, r-item, r-var, r-names, r-spec, r-block, r-elsif, r-statement, r-shown, r-expr, r-compare, r-relation, r-sum, r-term, r-prefix, r-primary, r-path, many, maybe, t}
use Rattle.tu_token.specs.Syntax.{Of}
use Rattle.tu_expr.specs.Levels.{OnlyCompare, OnlySum, OnlyPrimary, operator_line, factor_line}
use Rattle.tu_expr.specs.Parts.{Part, further, mark_of, text_of, line_of}
use Rattle.tu_expr.specs.Views.{signed, multiplied}
use Rattle.tu_tree.specs.Forms.{Present, Absent, More, NoMore, Behind, Listed, Separated, Program, ItemVar, ItemStatement, CollectionDeclaration, TypedDeclaration, StartedDeclaration, Names, Spec, IntType, ValueStart, Block, BlockConst, BlockVar, BlockType, BlockBind, BlockStatement, Assign, If, Elsif, Loop, Simple, Exit, ExitWhen, Put, Shown, Compare, Related, In, NotIn, Sum, Term, Added, Subtracted, Multiplied, NumberValue, PathValue, Brackets, Path}
use Rattle.tu_tree.specs.Parts.{separated}
use Rattle.tu_tree.specs.TypeViews.{named}
use Rattle.tu_tree.specs.DeclarationViews.{started}
use Rattle.tu_tree.specs.StatementViews.{block_part, elses, widths}

-- all operators of a product are `*`
abbrev pub are_times : Part (many multiplied) → Bool
are_times NoMore = true
are_times (More (Multiplied _ x) more) = are_times more
are_times other = false

-- `=`, `not=`, `<`, `>`, `<=` or `>=`
abbrev pub is_comparing : Of r-relation → Bool
is_comparing (In _ _) = false
is_comparing (NotIn _ _ _) = false
is_comparing other = true

abbrev pub is_declared : (declared : List (List ℕ)) → List ℕ → Bool
is_declared declared name = list_any (bytes_eq name) declared

-- in the scope of these names, the newest first
module _ (declared : List (List ℕ)) where
  -- a declared name alone
  abbrev pub unbuilt_path : Of r-path → Option ℕ
  unbuilt_path (Path m root NoMore) = if is_declared declared (text_of root) then None else Some m.line
  unbuilt_path (n-rule m other) = Some m.line

  -- A value is made of numbers, declared names and brackets, with `+`, `-` and `*` between two operands.
  abbrev mutual
    pub unbuilt : Of r-expr → Option ℕ
    unbuilt (OnlySum _ _ _ _ _ x) = unbuilt_sum x
    unbuilt other = Some (operator_line other)

    pub unbuilt_sum : Of r-sum → Option ℕ
    unbuilt_sum (Sum m first more) = option_or (unbuilt_term first) (unbuilt_terms more)

    pub unbuilt_terms : Part (many signed) → Option ℕ
    unbuilt_terms NoMore = None
    unbuilt_terms (More (Added _ x) more) = option_or (unbuilt_term x) (unbuilt_terms more)
    unbuilt_terms (More (Subtracted _ x) more) = option_or (unbuilt_term x) (unbuilt_terms more)

    pub unbuilt_term : Of r-term → Option ℕ
    unbuilt_term (Term m first more) = if are_times more then option_or (unbuilt_prefix first) (unbuilt_factors more) else Some m.line

    pub unbuilt_factors : Part (many multiplied) → Option ℕ
    unbuilt_factors NoMore = None
    unbuilt_factors (More (Multiplied _ x) more) = option_or (unbuilt_prefix x) (unbuilt_factors more)
    unbuilt_factors other = None

    pub unbuilt_prefix : Of r-prefix → Option ℕ
    unbuilt_prefix (OnlyPrimary _ _ x) = unbuilt_primary x
    unbuilt_prefix other = Some (factor_line other)

    pub unbuilt_primary : Of r-primary → Option ℕ
    unbuilt_primary (NumberValue m digits) = None
    unbuilt_primary (PathValue m path) = unbuilt_path path
    unbuilt_primary (Brackets m _ x _) = unbuilt x
    unbuilt_primary (n-rule m other) = Some m.line

  -- A condition is one comparison of two sums, without brackets round it.
  abbrev pub unbuilt_comparison : Of r-compare → Option ℕ
  unbuilt_comparison (Compare m first (More (Related relation second) NoMore)) = if is_comparing relation then option_or (unbuilt_sum first) (unbuilt_sum second) else Some m.line
  unbuilt_comparison (n-rule m other) = Some m.line

  abbrev pub unbuilt_condition : Of r-expr → Option ℕ
  unbuilt_condition (OnlyCompare _ _ _ _ x) = unbuilt_comparison x
  unbuilt_condition other = Some (operator_line other)

  -- What `put` shows is values, each with its least width or without, which is a value too.
  abbrev pub unbuilt_width : Part (maybe widths) → Option ℕ
  unbuilt_width Absent = None
  unbuilt_width (Present (Behind _ width)) = unbuilt width

  abbrev pub unbuilt_shown : Of r-shown → Option ℕ
  unbuilt_shown (Shown m value width) = option_or (unbuilt value) (unbuilt_width width)

  abbrev pub unbuilt_shown_more : Part (many (further r-shown)) → Option ℕ
  unbuilt_shown_more NoMore = None
  unbuilt_shown_more (More (Behind _ x) more) = option_or (unbuilt_shown x) (unbuilt_shown_more more)

  -- Of the statements without a block, assignments to names, `exit` in a loop and `put` without a stream are built. is_inside: in a loop.
  abbrev pub unbuilt_plain : (is_inside : Bool) → Of r-statement → Option ℕ
  unbuilt_plain is_inside (Assign m path _ value) = option_or (unbuilt_path path) (unbuilt value)
  unbuilt_plain is_inside (Simple m (Exit _)) = if is_inside then None else Some m.line
  unbuilt_plain is_inside (Simple m (ExitWhen _ _ condition)) = if is_inside then unbuilt_condition condition else Some m.line
  unbuilt_plain is_inside (Simple m (Put _ Absent (Listed first more) _)) = option_or (unbuilt_shown first) (unbuilt_shown_more more)
  unbuilt_plain is_inside (n-rule m other) = Some m.line

  -- Of those with a block, `if` and `loop` without an invariant are built.
  abbrev mutual
    pub unbuilt_statement : (is_inside : Bool) → Of r-statement → Option ℕ
    unbuilt_statement is_inside (If m _ condition _ block elsifs last _ _) =
        option_or (option_or (unbuilt_condition condition) (unbuilt_block is_inside block)) (option_or (unbuilt_elsifs is_inside elsifs) (unbuilt_else is_inside last))
    unbuilt_statement is_inside (Loop m _ Absent block _ _) = unbuilt_block true block
    unbuilt_statement is_inside other = unbuilt_plain is_inside other

    pub unbuilt_elsifs : (is_inside : Bool) → Part (many (rule r-elsif)) → Option ℕ
    unbuilt_elsifs is_inside NoMore = None
    unbuilt_elsifs is_inside (More x more) = option_or (unbuilt_elsif is_inside x) (unbuilt_elsifs is_inside more)

    pub unbuilt_elsif : (is_inside : Bool) → Of r-elsif → Option ℕ
    unbuilt_elsif is_inside (Elsif m _ condition _ block) = option_or (unbuilt_condition condition) (unbuilt_block is_inside block)

    pub unbuilt_else : (is_inside : Bool) → Part (maybe elses) → Option ℕ
    unbuilt_else is_inside Absent = None
    unbuilt_else is_inside (Present (Behind _ block)) = unbuilt_block is_inside block

    pub unbuilt_block : (is_inside : Bool) → Of r-block → Option ℕ
    unbuilt_block is_inside (Block m parts) = unbuilt_parts is_inside parts

    pub unbuilt_parts : (is_inside : Bool) → Part (many (separated block_part)) → Option ℕ
    unbuilt_parts is_inside NoMore = None
    unbuilt_parts is_inside (More (Separated part _) more) = option_or (unbuilt_part is_inside part) (unbuilt_parts is_inside more)

    -- a block holds statements alone
    pub unbuilt_part : (is_inside : Bool) → Part block_part → Option ℕ
    unbuilt_part is_inside (BlockStatement x) = unbuilt_statement is_inside x
    unbuilt_part is_inside (BlockConst x) = Some (mark_of x).line
    unbuilt_part is_inside (BlockVar x) = Some (mark_of x).line
    unbuilt_part is_inside (BlockType x) = Some (mark_of x).line
    unbuilt_part is_inside (BlockBind x) = Some (mark_of x).line

  -- A variable starts with a value.
  abbrev pub unbuilt_start : Part (maybe started) → Option ℕ
  unbuilt_start Absent = None
  unbuilt_start (Present (Behind _ (ValueStart m value))) = unbuilt value
  unbuilt_start (Present (Behind _ (n-rule m other))) = Some m.line

-- the names in a declaration
abbrev pub more_names : Part (many named) → List (Part (t Name))
more_names NoMore = []
more_names (More (Behind _ name) more) = name ∷ more_names more

abbrev pub names_of : Of r-names → List (Part (t Name))
names_of (Names m first more) = first ∷ more_names more

-- No name is declared before, nor twice.
abbrev pub unbuilt_names : (declared : List (List ℕ)) → List (Part (t Name)) → Option ℕ
unbuilt_names declared [] = None
unbuilt_names declared (name ∷ more) = if is_declared declared (text_of name) then Some (line_of name) else unbuilt_names (text_of name ∷ declared) more

-- with these names declared too
abbrev pub with_names : (declared : List (List ℕ)) → List (Part (t Name)) → List (List ℕ)
with_names declared [] = declared
with_names declared (name ∷ more) = with_names (text_of name ∷ declared) more

-- The only type is `int`.
abbrev pub unbuilt_spec : Of r-spec → Option ℕ
unbuilt_spec (Spec m NoMore (IntType base _)) = None
unbuilt_spec (n-rule m other) = Some m.line

-- Variables are built, and collections are not. A start sees the names that are declared before.
abbrev pub unbuilt_var : (declared : List (List ℕ)) → Of r-var → Option ℕ
unbuilt_var declared (StartedDeclaration m _ names _ value) = option_or (unbuilt_names declared (names_of names)) (unbuilt declared value)
unbuilt_var declared (TypedDeclaration m _ names _ spec start) = option_or (unbuilt_names declared (names_of names)) (option_or (unbuilt_spec spec) (unbuilt_start declared start))
unbuilt_var declared (n-rule m other) = Some m.line

-- Of the items, variables and statements are built.
abbrev pub unbuilt_item : (declared : List (List ℕ)) → Of r-item → Option ℕ
unbuilt_item declared (ItemVar m x) = unbuilt_var declared x
unbuilt_item declared (ItemStatement m x) = unbuilt_statement declared false x
unbuilt_item declared (n-rule m other) = Some m.line

-- the names that a declaration declares
abbrev pub names_in : Of r-var → List (Part (t Name))
names_in (CollectionDeclaration m _ names _ _ _ _) = names_of names
names_in (TypedDeclaration m _ names _ _ _) = names_of names
names_in (StartedDeclaration m _ names _ _) = names_of names

-- what is declared behind an item
abbrev pub declared_after : (declared : List (List ℕ)) → Of r-item → List (List ℕ)
declared_after declared (ItemVar m x) = with_names declared (names_in x)
declared_after declared other = declared

abbrev pub unbuilt_items : (declared : List (List ℕ)) → Part (many (separated (rule r-item))) → Option ℕ
unbuilt_items declared NoMore = None
unbuilt_items declared (More (Separated item _) more) = option_or (unbuilt_item declared item) (unbuilt_items (declared_after declared item) more)

-- the line of the first token of the first form that is not built
abbrev pub unbuilt_program : Of r-program → Option ℕ
unbuilt_program (Program m items) = unbuilt_items [] items
