-- A program in which all forms are built, as the checker tells, has code.
use Rattle.std.proofs.Common.{◌≡◌, ℕ, zero, suc, ◌<◌, ◌≤◌, Bool, true, false, cond, nat_le, List, [], ◌∷◌, Option, None, Some, refl, subst, arith}
use Rattle.std.specs.Prelude.{◌&&◌, not, is_some}
use Rattle.std.specs.Option.{option_or}
use Rattle.grammar.specs.Description.{rule}
use Rattle.grammar.specs.Tree.{Mark, n-token, n-text, n-left, n-right, n-rule, n-sequence, height}
use Rattle.tu_token.specs.declared.class.Class.TheVariants.{Number, SignAssign, SignColon, WordEnd, WordIf, WordInt, WordLoop, WordThen, WordVar}
use Rattle.tu_token.specs.LexFaults.{value_after}
use Rattle.tu_token.specs.Rules.{r-program, r-item, r-var, r-names, r-spec, r-block, r-elsif, r-statement, r-shown, r-invariant, r-expr, r-compare, r-relation, r-sum, r-term, r-prefix, r-primary, r-path, ◌⨟◌, many, maybe, t as lexeme}
use Rattle.tu_token.specs.Syntax.{Of}
use Rattle.tu_expr.specs.Levels.{OnlyCompare, OnlySum, OnlyPrimary}
use Rattle.tu_expr.specs.Parts.{Part, further, text_of, line_of}
use Rattle.tu_expr.specs.Views.{signed, multiplied}
use Rattle.tu_tree.specs.Forms.{Present, Absent, More, NoMore, Behind, Listed, Separated, Program, ItemVar, ItemStatement, CollectionDeclaration, TypedDeclaration, StartedDeclaration, Names, Spec, IntType, ValueStart, Block, BlockConst, BlockVar, BlockType, BlockBind, BlockStatement, If, Elsif, Loop, Simple, Exit, ExitWhen, Put, Shown, Compare, Related, Equal, NotEqual, Less, Greater, LessOrEqual, GreaterOrEqual, In, NotIn, Sum, Term, Added, Subtracted, Multiplied, NumberValue, PathValue, Brackets, Path}
use Rattle.tu_tree.specs.Parts.{separated}
use Rattle.tu_tree.specs.TypeViews.{named}
use Rattle.tu_tree.specs.DeclarationViews.{started}
use Rattle.tu_tree.specs.StatementViews.{block_part, elses, simple, widths}
use Rattle.tu_check.specs.Built.{are_times, is_comparing, is_declared, unbuilt_path, unbuilt, unbuilt_sum, unbuilt_terms, unbuilt_term, unbuilt_factors, unbuilt_prefix, unbuilt_primary, unbuilt_comparison, unbuilt_condition, unbuilt_width, unbuilt_shown, unbuilt_shown_more, unbuilt_plain, unbuilt_statement, unbuilt_elsifs, unbuilt_else, unbuilt_block, unbuilt_parts, unbuilt_start, unbuilt_spec, unbuilt_names, unbuilt_var, unbuilt_item, unbuilt_items, unbuilt_program, declared_after, names_in, names_of, more_names, with_names}
use Rattle.tu_check.specs.Limits.{HasSmallNumbers}
use Rattle.ir_build.specs.Relations.{comparison_of}
use Rattle.tu_tree_meaning.specs.Interpreter.{more_names as more_variables, names_of as variables_of}
use Rattle.ir_build.specs.Built.{is_built_path, is_built, is_built_sum, are_built_terms, is_built_term, are_built_factors, is_built_prefix, is_built_primary, is_tested, is_tested_compare}
use Rattle.ir_stmt.specs.Built.{is_width_built, is_shown_built, are_shown_built, is_simple_built, is_statement_built, are_elsifs_built, is_otherwise_built, is_block_built, are_parts_built, are_new, with_names as with_variables, is_var_built, names_in as variables_in, is_item_built, declared_after as variables_after, are_items_built, is_program_built}

both_so : {a b : Bool} → a ≡ true → b ≡ true → (a && b) ≡ true
both_so {a = true} e f = f
both_so {a = false} e f = absurd (cc)

none_of_both : (a b : Option ℕ) → option_or a b ≡ None → (a ≡ None) × (b ≡ None)
none_of_both None b e = (refl, e)
none_of_both (Some x) b e = absurd (cc)

none_where : (b : Bool) (a : Option ℕ) (line : ℕ) → cond b a (Some line) ≡ None → (b ≡ true) × (a ≡ None)
none_where true a line e = (refl, e)
none_where false a line e = absurd (cc)

none_unless : (b : Bool) (line : ℕ) (a : Option ℕ) → cond b (Some line) a ≡ None → (not b ≡ true) × (a ≡ None)
none_unless true line a e = absurd (cc)
none_unless false line a e = (refl, e)

none_so : {A : Type 0} {line : ℕ} → ◌≡◌ {A = Option ℕ} (Some line) None → A
none_so e = absurd (cc)

small_number : (digits : Part (lexeme Number)) → HasSmallNumbers digits → nat_le (value_after 0 (text_of digits)) 2147483647 ≡ true
small_number n-token h = refl
small_number (n-text text start line) h = let small = (h refl).small in let n = value_after 0 text in grind (arith, small)

comparing : (relation : Of r-relation) → is_comparing relation ≡ true → is_some (comparison_of relation) ≡ true
comparing (Equal m word) e = refl
comparing (NotEqual m word) e = refl
comparing (Less m word) e = refl
comparing (Greater m word) e = refl
comparing (LessOrEqual m word) e = refl
comparing (GreaterOrEqual m word) e = refl
comparing (In m word) e = absurd (cc)
comparing (NotIn m word next) e = absurd (cc)

module _ (declared : List (List ℕ)) where
  path_built : (x : Of r-path) → unbuilt_path declared x ≡ None → is_built_path declared x ≡ true
  path_built (Path m root NoMore) b = (none_where (is_declared declared (text_of root)) None m.line b).0
  path_built (n-rule m other) b = absurd (cc)

  mutual
    value_built : (x : Of r-expr) → unbuilt declared x ≡ None → HasSmallNumbers x → is_built declared x ≡ true
    value_built (OnlySum _ _ _ _ _ x) b n = sum_built x b n.0.0.0.1.0
    value_built other b n = absurd (cc)

    sum_built : (x : Of r-sum) → unbuilt_sum declared x ≡ None → HasSmallNumbers x → is_built_sum declared x ≡ true
    sum_built (Sum m first more) b n =
        let q = none_of_both (unbuilt_term declared first) (unbuilt_terms declared more) b in both_so (term_built first q.0 n.0) (terms_built more q.1 n.1)

    terms_built : (x : Part (many signed)) → unbuilt_terms declared x ≡ None → HasSmallNumbers x → are_built_terms declared x ≡ true
    terms_built NoMore b n = refl
    terms_built (More (Added sign x) more) b n =
        let q = none_of_both (unbuilt_term declared x) (unbuilt_terms declared more) b in both_so (term_built x q.0 n.0.1) (terms_built more q.1 n.1)
    terms_built (More (Subtracted sign x) more) b n =
        let q = none_of_both (unbuilt_term declared x) (unbuilt_terms declared more) b in both_so (term_built x q.0 n.0.1) (terms_built more q.1 n.1)

    term_built : (x : Of r-term) → unbuilt_term declared x ≡ None → HasSmallNumbers x → is_built_term declared x ≡ true
    term_built (Term m first more) b n =
        let p = none_where (are_times more) (option_or (unbuilt_prefix declared first) (unbuilt_factors declared more)) m.line b in
        let q = none_of_both (unbuilt_prefix declared first) (unbuilt_factors declared more) p.1 in
        both_so (prefix_built first q.0 n.0) (factors_built more p.0 q.1 n.1)

    factors_built : (x : Part (many multiplied)) → are_times x ≡ true → unbuilt_factors declared x ≡ None → HasSmallNumbers x → are_built_factors declared x ≡ true
    factors_built NoMore t b n = refl
    factors_built (More (Multiplied sign x) more) t b n =
        let q = none_of_both (unbuilt_prefix declared x) (unbuilt_factors declared more) b in both_so (prefix_built x q.0 n.0.1) (factors_built more t q.1 n.1)
    factors_built other t b n = absurd (cc)

    prefix_built : (x : Of r-prefix) → unbuilt_prefix declared x ≡ None → HasSmallNumbers x → is_built_prefix declared x ≡ true
    prefix_built (OnlyPrimary _ _ x) b n = primary_built x b n.1.0
    prefix_built other b n = absurd (cc)

    primary_built : (x : Of r-primary) → unbuilt_primary declared x ≡ None → HasSmallNumbers x → is_built_primary declared x ≡ true
    primary_built (NumberValue m digits) b n = small_number digits n
    primary_built (PathValue m path) b n = path_built path b
    primary_built (Brackets m left x right) b n = value_built x b n.1.0
    primary_built (n-rule m other) b n = absurd (cc)

  comparison_built : (x : Of r-compare) → unbuilt_comparison declared x ≡ None → HasSmallNumbers x → is_tested_compare declared x ≡ true
  comparison_built (Compare m first (More (Related relation second) NoMore)) b n =
      let p = none_where (is_comparing relation) (option_or (unbuilt_sum declared first) (unbuilt_sum declared second)) m.line b in
      let q = none_of_both (unbuilt_sum declared first) (unbuilt_sum declared second) p.1 in
      both_so (sum_built first q.0 n.0) (both_so (comparing relation p.0) (sum_built second q.1 n.1.0.1))
  comparison_built (n-rule m other) b n = absurd (cc)

  condition_built : (x : Of r-expr) → unbuilt_condition declared x ≡ None → HasSmallNumbers x → is_tested declared x ≡ true
  condition_built (OnlyCompare _ _ _ _ x) b n = comparison_built x b n.0.0.0.1
  condition_built other b n = absurd (cc)

  width_built : (x : Part (maybe widths)) → unbuilt_width declared x ≡ None → HasSmallNumbers x → is_width_built declared x ≡ true
  width_built Absent b n = refl
  width_built (Present (Behind sign x)) b n = value_built x b n.1

  shown_built : (x : Of r-shown) → unbuilt_shown declared x ≡ None → HasSmallNumbers x → is_shown_built declared x ≡ true
  shown_built (Shown m value width) b n = let q = none_of_both (unbuilt declared value) (unbuilt_width declared width) b in both_so (value_built value q.0 n.0) (width_built width q.1 n.1)

  shown_more_built : (x : Part (many (further r-shown))) → unbuilt_shown_more declared x ≡ None → HasSmallNumbers x → are_shown_built declared x ≡ true
  shown_more_built NoMore b n = refl
  shown_more_built (More (Behind sign x) more) b n =
      let q = none_of_both (unbuilt_shown declared x) (unbuilt_shown_more declared more) b in both_so (shown_built x q.0 n.0.1) (shown_more_built more q.1 n.1)

  path_form : (is_inside : Bool) (m : Mark) (z : Part (rule r-path ⨟ maybe (lexeme SignAssign ⨟ rule r-expr))) → unbuilt_plain declared is_inside (n-rule m (n-left z)) ≡ None → HasSmallNumbers z → is_simple_built declared is_inside (n-rule m (n-left z)) ≡ true
  path_form is_inside m (n-sequence path (n-left (n-sequence sign value))) b n = let q = none_of_both (unbuilt_path declared path) (unbuilt declared value) b in both_so (path_built path q.0) (value_built value q.1 n.1.1)
  path_form is_inside m (n-sequence path (n-right z)) b n = none_so b

  simple_form : (is_inside : Bool) (m : Mark) (y : Part simple) → unbuilt_plain declared is_inside (Simple m y) ≡ None → HasSmallNumbers y → is_simple_built declared is_inside (Simple m y) ≡ true
  simple_form is_inside m (Exit word) b n = (none_where is_inside None m.line b).0
  simple_form is_inside m (ExitWhen word next condition) b n = let q = none_where is_inside (unbuilt_condition declared condition) m.line b in both_so q.0 (condition_built condition q.1 n.1.1)
  simple_form is_inside m (Put word Absent (Listed first more) dots) b n =
      let q = none_of_both (unbuilt_shown declared first) (unbuilt_shown_more declared more) b in both_so (shown_built first q.0 n.1.1.0.0) (shown_more_built more q.1 n.1.1.0.1)
  simple_form is_inside m (Put word (Present z) parts dots) b n = none_so b
  simple_form is_inside m (n-right (n-left z)) b n = none_so b
  simple_form is_inside m (n-right (n-right (n-left z))) b n = none_so b
  simple_form is_inside m (n-right (n-right (n-right (n-left z)))) b n = none_so b
  simple_form is_inside m (n-right (n-right (n-right (n-right (n-left z))))) b n = none_so b
  simple_form is_inside m (n-right (n-right (n-right (n-right (n-right (n-left z)))))) b n = none_so b
  simple_form is_inside m (n-right (n-right (n-right (n-right (n-right (n-right (n-left z))))))) b n = none_so b
  simple_form is_inside m (n-right (n-right (n-right (n-right (n-right (n-right (n-right (n-right z)))))))) b n = none_so b

  -- bound: above the heights of the statements inside
  module _ (bound : ℕ) (inner : (is_inside : Bool) (x : Of r-statement) → height x < bound → unbuilt_statement declared is_inside x ≡ None → HasSmallNumbers x → is_statement_built declared is_inside x ≡ true) where
    parts_built : (is_inside : Bool) (x : Part (many (separated block_part))) → height x < bound → unbuilt_parts declared is_inside x ≡ None → HasSmallNumbers x → are_parts_built declared is_inside x ≡ true
    parts_built is_inside NoMore h b n = refl
    parts_built is_inside (More (Separated (BlockStatement x) semicolon) more) h b n =
        let q = none_of_both (unbuilt_statement declared is_inside x) (unbuilt_parts declared is_inside more) b in
        both_so (inner is_inside x (omega (arith, h)) q.0 n.0.0) (parts_built is_inside more (omega (arith, h)) q.1 n.1)
    parts_built is_inside (More (Separated (BlockConst z) semicolon) more) h b n = none_so b
    parts_built is_inside (More (Separated (BlockVar z) semicolon) more) h b n = none_so b
    parts_built is_inside (More (Separated (BlockType z) semicolon) more) h b n = none_so b
    parts_built is_inside (More (Separated (BlockBind z) semicolon) more) h b n = none_so b

    block_built : (is_inside : Bool) (x : Of r-block) → height x ≤ bound → unbuilt_block declared is_inside x ≡ None → HasSmallNumbers x → is_block_built declared is_inside x ≡ true
    block_built is_inside (Block m parts) h b n = parts_built is_inside parts (omega (arith, h)) b n

    elsifs_built : (is_inside : Bool) (x : Part (many (rule r-elsif))) → height x ≤ bound → unbuilt_elsifs declared is_inside x ≡ None → HasSmallNumbers x → are_elsifs_built declared is_inside x ≡ true
    elsifs_built is_inside NoMore h b n = refl
    elsifs_built is_inside (More (Elsif m word condition next block) more) h b n =
        let p = none_of_both (option_or (unbuilt_condition declared condition) (unbuilt_block declared is_inside block)) (unbuilt_elsifs declared is_inside more) b in
        let q = none_of_both (unbuilt_condition declared condition) (unbuilt_block declared is_inside block) p.0 in
        both_so (condition_built condition q.0 n.0.1.0) (both_so (block_built is_inside block (omega (arith, h)) q.1 n.0.1.1.1) (elsifs_built is_inside more (omega (arith, h)) p.1 n.1))

    else_built : (is_inside : Bool) (x : Part (maybe elses)) → height x ≤ bound → unbuilt_else declared is_inside x ≡ None → HasSmallNumbers x → is_otherwise_built declared is_inside x ≡ true
    else_built is_inside Absent h b n = refl
    else_built is_inside (Present (Behind word block)) h b n = block_built is_inside block (omega (arith, h)) b n.1

    if_level : (is_inside : Bool) (m : Mark) (word : Part (lexeme WordIf)) (condition : Of r-expr) (next : Part (lexeme WordThen)) (block : Of r-block) (elsifs : Part (many (rule r-elsif))) (last : Part (maybe elses)) (end : Part (lexeme WordEnd)) (again : Part (lexeme WordIf))
        → height (If m word condition next block elsifs last end again) ≤ bound → unbuilt_statement declared is_inside (If m word condition next block elsifs last end again) ≡ None → HasSmallNumbers (If m word condition next block elsifs last end again)
        → is_statement_built declared is_inside (If m word condition next block elsifs last end again) ≡ true
    if_level is_inside m word condition next block elsifs last end again h b n =
        let p = none_of_both (option_or (unbuilt_condition declared condition) (unbuilt_block declared is_inside block)) (option_or (unbuilt_elsifs declared is_inside elsifs) (unbuilt_else declared is_inside last)) b in
        let q = none_of_both (unbuilt_condition declared condition) (unbuilt_block declared is_inside block) p.0 in
        let r = none_of_both (unbuilt_elsifs declared is_inside elsifs) (unbuilt_else declared is_inside last) p.1 in
        both_so (condition_built condition q.0 n.1.0) (both_so (block_built is_inside block (omega (arith, h)) q.1 n.1.1.1.0)
        (both_so (elsifs_built is_inside elsifs (omega (arith, h)) r.0 n.1.1.1.1.0) (else_built is_inside last (omega (arith, h)) r.1 n.1.1.1.1.1.0)))

    loop_level : (is_inside : Bool) (m : Mark) (word : Part (lexeme WordLoop)) (invariant : Part (maybe (rule r-invariant))) (block : Of r-block) (end : Part (lexeme WordEnd)) (again : Part (lexeme WordLoop))
        → height (Loop m word invariant block end again) ≤ bound → unbuilt_statement declared is_inside (Loop m word invariant block end again) ≡ None → HasSmallNumbers (Loop m word invariant block end again)
        → is_statement_built declared is_inside (Loop m word invariant block end again) ≡ true
    loop_level is_inside m word Absent block end again h b n = block_built true block (omega (arith, h)) b n.1.1.0
    loop_level is_inside m word (Present z) block end again h b n = none_so b

    level_built : (is_inside : Bool) (x : Of r-statement) → height x ≤ bound → unbuilt_statement declared is_inside x ≡ None → HasSmallNumbers x → is_statement_built declared is_inside x ≡ true
    level_built is_inside (n-rule m (n-left z)) h b n = path_form is_inside m z b n
    level_built is_inside (If m word condition next block elsifs last end again) h b n = if_level is_inside m word condition next block elsifs last end again h b n
    level_built is_inside (Loop m word invariant block end again) h b n = loop_level is_inside m word invariant block end again h b n
    level_built is_inside (n-rule m (n-right (n-right (n-right (n-left z))))) h b n = none_so b
    level_built is_inside (n-rule m (n-right (n-right (n-right (n-right (n-left z)))))) h b n = none_so b
    level_built is_inside (n-rule m (n-right (n-right (n-right (n-right (n-right (n-left z))))))) h b n = none_so b
    level_built is_inside (Simple m y) h b n = simple_form is_inside m y b n

  below_built : (bound : ℕ) (is_inside : Bool) (x : Of r-statement) → height x < bound → unbuilt_statement declared is_inside x ≡ None → HasSmallNumbers x → is_statement_built declared is_inside x ≡ true
  below_built zero is_inside x lt b n = absurd (omega (arith, lt))
  below_built (suc bound) is_inside x lt b n = level_built bound (below_built bound) is_inside x (omega (arith, lt)) b n

  statement_built : (is_inside : Bool) (x : Of r-statement) → unbuilt_statement declared is_inside x ≡ None → HasSmallNumbers x → is_statement_built declared is_inside x ≡ true
  statement_built is_inside x b n = below_built (suc (height x)) is_inside x (omega arith) b n

  start_built : (x : Part (maybe started)) (m : Mark) (word : Part (lexeme WordVar)) (names : Of r-names) (colon : Part (lexeme SignColon)) (at mb : Mark) (int : Part (lexeme WordInt))
      → unbuilt_start declared x ≡ None → HasSmallNumbers x → are_new declared (variables_of names) ≡ true → is_var_built declared (TypedDeclaration m word names colon (Spec at NoMore (IntType mb int)) x) ≡ true
  start_built Absent m word names colon at mb int b n new = new
  start_built (Present (Behind sign (ValueStart ms value))) m word names colon at mb int b n new = both_so new (value_built value b n.1)
  start_built (Present (Behind sign (n-rule ms (n-right z)))) m word names colon at mb int b n new = none_so b

-- names that are new are new variables
more_new : (declared : List (List ℕ)) (x : Part (many named)) → unbuilt_names declared (more_names x) ≡ None → are_new declared (more_variables x) ≡ true
more_new declared NoMore b = refl
more_new declared (More (Behind sign name) more) b =
    let q = none_unless (is_declared declared (text_of name)) (line_of name) (unbuilt_names (text_of name ∷ declared) (more_names more)) b in both_so q.0 (more_new (text_of name ∷ declared) more q.1)

names_new : (declared : List (List ℕ)) (x : Of r-names) → unbuilt_names declared (names_of x) ≡ None → are_new declared (variables_of x) ≡ true
names_new declared (Names m first more) b =
    let q = none_unless (is_declared declared (text_of first)) (line_of first) (unbuilt_names (text_of first ∷ declared) (more_names more)) b in both_so q.0 (more_new (text_of first ∷ declared) more q.1)

more_with : (declared : List (List ℕ)) (x : Part (many named)) → with_names declared (more_names x) ≡ with_variables declared (more_variables x)
more_with declared NoMore = refl
more_with declared (More (Behind sign name) more) = more_with (text_of name ∷ declared) more

names_with : (declared : List (List ℕ)) (x : Of r-names) → with_names declared (names_of x) ≡ with_variables declared (variables_of x)
names_with declared (Names m first more) = more_with (text_of first ∷ declared) more

spec_is_int : (x : Of r-spec) → unbuilt_spec x ≡ None → (at : Mark) × (mb : Mark) × (int : Part (lexeme WordInt)) × (Spec at NoMore (IntType mb int) ≡ x)
spec_is_int (Spec m NoMore (IntType mb int)) b = (m, mb, int, refl)
spec_is_int (n-rule m other) b = absurd (cc)

var_built : (declared : List (List ℕ)) (x : Of r-var) → unbuilt_var declared x ≡ None → HasSmallNumbers x → is_var_built declared x ≡ true
var_built declared (StartedDeclaration m word names sign value) b n =
    let q = none_of_both (unbuilt_names declared (names_of names)) (unbuilt declared value) b in both_so (names_new declared names q.0) (value_built declared value q.1 n.1.1.1)
var_built declared (TypedDeclaration m word names colon spec start) b n =
    let p = none_of_both (unbuilt_names declared (names_of names)) (option_or (unbuilt_spec spec) (unbuilt_start declared start)) b in
    let q = none_of_both (unbuilt_spec spec) (unbuilt_start declared start) p.1 in
    let i = spec_is_int spec q.0 in
    subst (λ s. is_var_built declared (TypedDeclaration m word names colon s start) ≡ true) i.3 (start_built declared start m word names colon i.0 i.1 i.2 q.1 n.1.1.1.1 (names_new declared names p.0))
var_built declared (CollectionDeclaration m word names colon collection of spec) b n = none_so b

variables_same : (declared : List (List ℕ)) (x : Of r-var) → unbuilt_var declared x ≡ None → with_names declared (names_in x) ≡ with_variables declared (variables_in x)
variables_same declared (StartedDeclaration m word names sign value) b = names_with declared names
variables_same declared (TypedDeclaration m word names colon spec start) b = names_with declared names
variables_same declared (CollectionDeclaration m word names colon collection of spec) b = none_so b

-- an item is built, and declares the same variables
item_built : (declared : List (List ℕ)) (x : Of r-item) → unbuilt_item declared x ≡ None → HasSmallNumbers x → (is_item_built declared x ≡ true) × (declared_after declared x ≡ variables_after declared x)
item_built declared (ItemVar m x) b n = (var_built declared x b n, variables_same declared x b)
item_built declared (ItemStatement m x) b n = (statement_built declared false x b n, refl)
item_built declared (n-rule m other) b n = absurd (cc)

items_built : (declared : List (List ℕ)) (x : Part (many (separated (rule r-item)))) → unbuilt_items declared x ≡ None → HasSmallNumbers x → are_items_built declared x ≡ true
items_built declared NoMore b n = refl
items_built declared (More (Separated item semicolon) more) b n =
    let q = none_of_both (unbuilt_item declared item) (unbuilt_items (declared_after declared item) more) b in
    let i = item_built declared item q.0 n.0.0 in
    both_so i.0 (subst (λ d. are_items_built d more ≡ true) i.1 (items_built (declared_after declared item) more q.1 n.1))

pub checked_is_built : (tree : Of r-program) → unbuilt_program tree ≡ None → HasSmallNumbers tree → is_program_built tree ≡ true
checked_is_built (Program m items) b n = items_built [] items b n
