-- The joins of a statement are those that the definition counts.
use Rattle.std.specs.Prelude.{◌≡◌, ℕ, ◌+◌, List, [], ◌∷◌, ◌++◌, length, drop, Option, nat_lt, count_by}
use Rattle.std.proofs.Common.{ap, sym, subst, ◌∙◌, refl, append_assoc, arith, Result, IfOk}
use Rattle.tu_base.specs.declared.memory.Memory.{Memory}
use Rattle.std.proofs.lemmas.List.{drop_at}
use Rattle.tu_core.specs.declared.names.At.{At}
use Rattle.tu_core.specs.Core as core
use Rattle.tu_core.specs.Core.{Scalar, Path, Range, Test, Plain, Declaration, Statement, Block}
use Rattle.tu_core.specs.Measures.{of_scalar, of_path, of_range, of_test, of_plain, of_declaration, of_statement, of_block, of_otherwise, of_arms}
use Rattle.tu_core.specs.Nodes.{nodes}
use Rattle.tu_core.specs.Rooms.{joins, own_joins, all_joins}
use Rattle.tu_core_types.specs.declared.statement.StatementForm.{StatementForm}
use Rattle.tu_core_types.specs.declared.statement.Elsif.{Elsif}
use Rattle.tu_core_types.specs.declared.statement.Arm.{Arm}
use Rattle.tu_core_types.specs.declared.statement.Part.{Part}
use Rattle.tu_core_types.specs.declared.statement.Part.TheVariants as part
use Rattle.tu_core_types.specs.StatementViews.{statement_view, elsifs_view, last_view, arms_view, parts_view}
use Rattle.tu_room_parts.specs.Capped.{capped}
use Rattle.tu_room_parts.proofs.Fusion.{Fuses, fuse_scalar, fuse_path}
use Rattle.tu_room_parts.proofs.Sums.{Sums}
use Rattle.tu_room_counts.specs.StatementRows.{one_elsif, one_part}
use Rattle.tu_room_counts.proofs.StatementFusion.{FusesPlain, fuse_range, fuse_test, fuse_plain, fuse_declaration, fuse_statement}
use Rattle.tu_room_changes.specs.Changed.{changed, var_root_of}
use Rattle.tu_room_changes.proofs.Counted.{changes_fuse}
use Rattle.tu_room_changes.proofs.Grown.{Rows}
use Rattle.tu_room_joins.specs.Flags.{stands}
use Rattle.tu_room_joins.specs.Inner.{inner_of}

-- a statement by itself, and what is in it
pub changes_whole : (s : Statement) → inner_of changed s ≡ of_statement changed s
changes_whole (core.Simply at s) = refl
changes_whole (core.If at e block otherwise) = refl
changes_whole (core.Loop at invariant block) = refl
changes_whole (core.For at x is_decreasing range invariant block) = refl
changes_whole (core.Case at e arms) = refl
changes_whole (core.Begin at block) = refl
changes_whole (core.Module at fixed collections invariant line block) = refl

pub joins_whole : (xs : List ℕ) (s : Statement) → own_joins xs s + inner_of (all_joins xs) s ≡ of_statement (all_joins xs) s
joins_whole xs (core.Simply at s) = refl
joins_whole xs (core.If at e block otherwise) = refl
joins_whole xs (core.Loop at invariant block) = refl
joins_whole xs (core.For at x is_decreasing range invariant block) = refl
joins_whole xs (core.Case at e arms) = refl
joins_whole xs (core.Begin at block) = refl
joins_whole xs (core.Module at fixed collections invariant line block) = refl

-- the scalars that stand among the changes are those that the statement changes
pub joins_are : (xs : List ℕ) (s : Statement) → count_by (λ x. stands x (of_statement changed s)) xs ≡ joins xs s
joins_are xs s = sym (λ i. count_by (λ x. nat_lt 0 (fuse_statement (changes_fuse x) s i)) xs)

-- by the form of a statement
pub own_of_form : (xs : List ℕ) (at : At) (form chosen : StatementForm) (s : Statement) → statement_view at form ≡ s → form ≡ chosen → own_joins xs (statement_view at chosen) ≡ joins xs (statement_view at chosen) → joins xs s ≡ own_joins xs s
own_of_form xs at form chosen s v e is =
    let whole : statement_view at chosen ≡ s = ap (statement_view at) (sym e) ∙ v in
    ap (joins xs) (sym whole) ∙ sym is ∙ ap (own_joins xs) whole

pub inner_of_form : (xs : List ℕ) (at : At) (form chosen : StatementForm) (s : Statement) → statement_view at form ≡ s → form ≡ chosen → inner_of (all_joins xs) (statement_view at chosen) ≡ inner_of (all_joins xs) s
inner_of_form xs at form chosen s v e = ap (λ f. inner_of (all_joins xs) (statement_view at f)) (sym e) ∙ ap (inner_of (all_joins xs)) v

-- what was noted last
pub noted_last : (old noted new : List ℕ) (n : ℕ) → length old ≡ n → new ≡ old ++ noted → drop n new ≡ noted
noted_last old noted new n e is = ap (drop n) is ∙ drop_at old noted n e

-- nothing but statements joins
module _ (xs : List ℕ) where
  expressions_fuse : Fuses (λ (n : ℕ). 0) nodes (all_joins xs)
  expressions_fuse = record { none = refl; plus = λ a b. refl; scalar = λ e. refl; link = refl; text = λ e. refl; set = λ e. refl; pointer = λ e. refl; spot = λ i. refl; path = λ p. refl; selector = refl; actual = λ a. refl; call = λ c. refl }

  plain_fuse : FusesPlain (λ (n : ℕ). 0) nodes (all_joins xs)
  plain_fuse = record { expressions = expressions_fuse; parts = refl; taken = λ t. refl; test = refl; plain = λ s. refl; declaration = λ d. refl }

  pub no_scalar : (e : Scalar) → of_scalar (all_joins xs) e ≡ 0
  no_scalar e = fuse_scalar expressions_fuse e

  pub no_path : (p : Path) → of_path (all_joins xs) p ≡ 0
  no_path p = fuse_path expressions_fuse p

  pub no_range : (r : Range) → of_range (all_joins xs) r ≡ 0
  no_range r = fuse_range plain_fuse r

  pub no_test : (t : Option Test) → of_test (all_joins xs) t ≡ 0
  no_test t = fuse_test plain_fuse t

  pub no_plain : (s : Plain) → of_plain (all_joins xs) s ≡ 0
  no_plain s = fuse_plain plain_fuse s

  pub no_declaration : (d : Declaration) → of_declaration (all_joins xs) d ≡ 0
  no_declaration d = fuse_declaration plain_fuse d

  -- rows
  abbrev pub elsifs_joins : Block → List Elsif → ℕ
  elsifs_joins last es = capped (of_otherwise (all_joins xs) (elsifs_view es last))

  abbrev pub elsif_joins : Elsif → ℕ
  elsif_joins e = capped (of_block (all_joins xs) e.block)

  abbrev pub block_joins : Block → ℕ
  block_joins b = capped (of_block (all_joins xs) b)

  pub sum_elsifs : (last : Block) → Sums (elsifs_joins last) elsif_joins (block_joins last)
  sum_elsifs last = record { none = refl; more = λ e es. omega (arith, no_scalar e.condition) }

  abbrev pub arms_joins : Option Block → List Arm → ℕ
  arms_joins last es = capped (of_arms (all_joins xs) (arms_view es last))

  abbrev pub arm_joins : Arm → ℕ
  arm_joins e = capped (of_block (all_joins xs) e.block)

  abbrev pub last_joins : Option Block → ℕ
  last_joins last = capped (of_arms (all_joins xs) (last_view last))

  pub sum_arms : (last : Option Block) → Sums (arms_joins last) arm_joins (last_joins last)
  sum_arms last = record { none = refl; more = λ e es. omega arith }

  abbrev pub parts_joins : List Part → ℕ
  parts_joins es = capped (of_block (all_joins xs) (parts_view es))

  abbrev pub part_joins : Part → ℕ
  part_joins e = capped (one_part (all_joins xs) e)

  more_parts : (e : Part) (es : List Part) → parts_joins (e ∷ es) ≡ capped (part_joins e + parts_joins es)
  more_parts (part.Then s) es = omega arith
  more_parts (part.Declare at d) es = omega arith
  more_parts (part.Bind at x is_var p) es = omega arith

  pub sum_parts : Sums parts_joins part_joins 0
  sum_parts = record { none = refl; more = more_parts }

-- and their changes
abbrev pub elsifs_changes : Block → List Elsif → List ℕ
elsifs_changes last es = of_otherwise changed (elsifs_view es last)

pub rows_of_elsifs : (last : Block) → Rows (elsifs_changes last) (one_elsif changed) (of_block changed last)
rows_of_elsifs last = record { none = refl; more = λ e es. sym (append_assoc (of_scalar changed e.condition) (of_block changed e.block) (elsifs_changes last es)) }

abbrev pub arms_changes : Option Block → List Arm → List ℕ
arms_changes last es = of_arms changed (arms_view es last)

abbrev pub arm_changes : Arm → List ℕ
arm_changes e = of_block changed e.block

pub rows_of_arms : (last : Option Block) → Rows (arms_changes last) arm_changes (of_arms changed (last_view last))
rows_of_arms last = record { none = refl; more = λ e es. refl }

abbrev pub parts_changes : List Part → List ℕ
parts_changes es = of_block changed (parts_view es)

more_changes : (e : Part) (es : List Part) → parts_changes (e ∷ es) ≡ one_part changed e ++ parts_changes es
more_changes (part.Then s) es = refl
more_changes (part.Declare at d) es = refl
more_changes (part.Bind at x is_var p) es = sym (append_assoc (var_root_of is_var p) (of_path changed p) (parts_changes es))

pub rows_of_parts : Rows parts_changes (one_part changed) []
rows_of_parts = record { none = refl; more = more_changes }

-- forms in which nothing but a block joins
pub no_joins : (n : ℕ) → n ≡ 0 → 0 ≡ capped n
no_joins n e = omega (arith, e)

pub no_joins_first : (a b : ℕ) → a ≡ 0 → capped b ≡ capped (a + b)
no_joins_first a b e = omega (arith, e)

-- the same result by another name
pub if_ok : (r : Result ℕ Memory) {a b : ℕ} → a ≡ b → IfOk r (λ n. n ≡ a) → IfOk r (λ n. n ≡ b)
if_ok r e h = subst (λ z. IfOk r (λ n. n ≡ z)) e h
