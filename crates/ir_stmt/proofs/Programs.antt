-- Items of a program, one after the other: what is declared and appended so far, and what is still to come.
use Rattle.std.proofs.Common.{◌≡◌, ℕ, ◌+◌, ◌<◌, ◌≤◌, Bool, true, false, ◌&&◌, List, [], ◌∷◌, length, drop, get_or, refl, ap, ◌∙◌, sym, arith}
use Rattle.grammar.specs.Description.{rule}
use Rattle.grammar.specs.Tree.{Mark, n-left, n-right, n-sequence, n-rule}
use Rattle.ir_code.specs.declared.code.Code.{Code}
use Rattle.tu_token.specs.Rules.{r-item, r-program, r-var, many}
use Rattle.tu_token.specs.Syntax.{Of}
use Rattle.tu_expr.specs.Forms.{Present, Absent, More, NoMore, Behind}
use Rattle.tu_expr.specs.Parts.{Part}
use Rattle.tu_tree.specs.Forms.{ItemVar, ItemStatement, StartedDeclaration, TypedDeclaration, Spec, IntType, ValueStart}
use Rattle.tu_tree.specs.Parts.{separated}
use Rattle.tu_tree.specs.ProgramViews.{program_view}
use Rattle.tu_tree_meaning.specs.Interpreter.{names_of}
use Rattle.tu_tree_meaning.specs.Values.{Variable}
use Rattle.tu_value.specs.Pieces.{with_piece, fixed_code, fixed_from}
use Rattle.tu_value.specs.declared.pieces.Fixed.{Fixed}
use Rattle.ir_build.specs.Keeps.{Named, variables_of}
use Rattle.ir_build.specs.Tokens.{tokens_in}
use Rattle.ir_build.proofs.Operands.{from_place}
use Rattle.ir_stmt.specs.Built.{are_new, with_names, names_in, is_var_built, is_item_built, declared_after, are_items_built, is_program_built}
use Rattle.ir_stmt.specs.Code.{Declared, declare_all, code_var, code_item, code_items}
use Rattle.ir_stmt.specs.Made.{declared, names_in_item}
use Rattle.ir_stmt.specs.Unit.{code_program}

abbrev pub items : List (Of r-item × Bool) → Part (many (separated (rule r-item)))
items xs = program_view xs

both_hold : (a b : Bool) → (a && b) ≡ true → (a ≡ true) × (b ≡ true)
both_hold true b h = (refl, h)
both_hold false b h = absurd (cc)

-- the variables of a declaration are new where it is built
var_new : (d : List Variable) (x : Of r-var) → is_var_built d x ≡ true → are_new d (names_in x) ≡ true
var_new d (StartedDeclaration m word names assign e) h = (both_hold (are_new d (names_of names)) _ h).0
var_new d (TypedDeclaration m word names colon (Spec at NoMore (IntType base int)) Absent) h = h
var_new d (TypedDeclaration m word names colon (Spec at NoMore (IntType base int)) (Present (Behind sign (ValueStart start e)))) h = (both_hold (are_new d (names_of names)) _ h).0
var_new d (TypedDeclaration m word names colon (Spec at NoMore (IntType base int)) (Present (Behind sign (n-rule start (n-right other))))) h = absurd (cc)
var_new d (TypedDeclaration m word names colon (Spec at NoMore (n-rule base (n-right other))) start) h = absurd (cc)
var_new d (TypedDeclaration m word names colon (Spec at (More array more) base) start) h = absurd (cc)
var_new d (n-rule m (n-sequence word (n-sequence names (n-left (n-sequence colon (n-left other)))))) h = absurd (cc)

all_named : (k : Fixed) (xs : List Variable) (e : Declared) → variables_of (declare_all k xs e).names ≡ with_names (variables_of e.names) xs
all_named k [] e = refl
all_named k (x ∷ xs) e = all_named k xs _

var_named : (k : Fixed) (e : Declared) (d : List Variable) (x : Of r-var) → is_var_built d x ≡ true → variables_of (code_var k x e).names ≡ with_names (variables_of e.names) (names_in x)
var_named k e d (StartedDeclaration m word names assign value) h = all_named k (names_of names) e
var_named k e d (TypedDeclaration m word names colon spec Absent) h = all_named k (names_of names) e
var_named k e d (TypedDeclaration m word names colon spec (Present (Behind sign (ValueStart start value)))) h = all_named k (names_of names) e
var_named k e d (TypedDeclaration m word names colon (Spec at NoMore (IntType base int)) (Present (Behind sign (n-rule start (n-right other))))) h = absurd (cc)
var_named k e d (TypedDeclaration m word names colon (Spec at NoMore (n-rule base (n-right no_int))) (Present (Behind sign (n-rule start (n-right other))))) h = absurd (cc)
var_named k e d (TypedDeclaration m word names colon (Spec at (More array more) base) (Present (Behind sign (n-rule start (n-right other))))) h = absurd (cc)
var_named k e d (n-rule m (n-sequence word (n-sequence names (n-left (n-sequence colon (n-left other)))))) h = absurd (cc)

pub item_new : (d : List Variable) (x : Of r-item) → is_item_built d x ≡ true → are_new d (names_in_item x) ≡ true
item_new d (ItemVar m x) h = var_new d x h
item_new d (n-rule m (n-left other)) h = refl
item_new d (n-rule m (n-right (n-right other))) h = refl

pub item_named : (k : Fixed) (e : Declared) (x : Of r-item) → is_item_built (variables_of e.names) x ≡ true → variables_of (code_item k x e).names ≡ declared_after (variables_of e.names) x
item_named k e (ItemVar m x) h = var_named k e (variables_of e.names) x h
item_named k e (ItemStatement m s) h = refl
item_named k e (n-rule m (n-left other)) h = refl
item_named k e (n-rule m (n-right (n-right (n-left other)))) h = refl
item_named k e (n-rule m (n-right (n-right (n-right (n-left other))))) h = refl
item_named k e (n-rule m (n-right (n-right (n-right (n-right (n-left other)))))) h = refl

item_tokens : (x : Of r-item × Bool) (xs : List (Of r-item × Bool)) → tokens_in x.0 + tokens_in (items xs) ≤ tokens_in (items (x ∷ xs))
item_tokens (x, true) xs = omega arith
item_tokens (x, false) xs = omega arith

pub item_tokens_at : (xs : List (Of r-item × Bool)) (i : ℕ) (x : Of r-item × Bool) → i < length xs → x ≡ get_or xs i x → tokens_in x.0 + tokens_in (items (drop (i + 1) xs)) ≤ tokens_in (items (drop i xs))
item_tokens_at xs i x h is = omega (arith, item_tokens x (drop (i + 1) xs), ap (λ l. tokens_in (items l)) (from_place xs i x h is))

-- the next item is built, and so are those behind it
pub built_at : (d : List Variable) (xs : List (Of r-item × Bool)) (i : ℕ) (x : Of r-item × Bool) → i < length xs → x ≡ get_or xs i x → are_items_built d (items (drop i xs)) ≡ true
    → (is_item_built d x.0 ≡ true) × (are_items_built (declared_after d x.0) (items (drop (i + 1) xs)) ≡ true)
built_at d xs i x h is built = both_hold (is_item_built d x.0) (are_items_built (declared_after d x.0) (items (drop (i + 1) xs))) (sym (ap (λ l. are_items_built d (items l)) (from_place xs i x h is)) ∙ built)

pub built_on : (k : Fixed) (before after : Declared) (xs : List (Of r-item × Bool)) (i : ℕ) (x : Of r-item × Bool) → i < length xs → x ≡ get_or xs i x → are_items_built (variables_of before.names) (items (drop i xs)) ≡ true
    → after ≡ code_item k x.0 before → are_items_built (variables_of after.names) (items (drop (i + 1) xs)) ≡ true
built_on k before after xs i x h is built made =
    let b = built_at (variables_of before.names) xs i x h is built in
    let n : variables_of after.names ≡ declared_after (variables_of before.names) x.0 = ap (λ (e : Declared). variables_of e.names) made ∙ item_named k before x.0 b.0 in
    ap (λ d. are_items_built d (items (drop (i + 1) xs))) n ∙ b.1

pub item_at : (k : Fixed) (before after : Declared) (xs : List (Of r-item × Bool)) (i : ℕ) (x : Of r-item × Bool) → i < length xs → x ≡ get_or xs i x → after ≡ code_item k x.0 before
    → code_items k (items (drop (i + 1) xs)) after ≡ code_items k (items (drop i xs)) before
item_at k before after xs i x h is made = ap (code_items k (items (drop (i + 1) xs))) made ∙ sym (ap (λ l. code_items k (items l) before) (from_place xs i x h is))

-- a program begins with the fixed values, and without variables
pub program_begin : (s : Of r-program) (m : Mark) (more xs : List (Of r-item × Bool)) (k : Fixed) (start code : Code) (names : List Named) → n-rule m (program_view more) ≡ s → xs ≡ more → start ≡ record { ops = []; next = 0 } → k ≡ fixed_from start.next
    → code ≡ with_piece start (fixed_code start.next) 2 → names ≡ [] → code_items k (items xs) (declared code names) ≡ code_program s
program_begin s m more xs k start code names is same start_is k_is code_is names_is =
    let fixed = k_is ∙ ap (λ (c : Code). fixed_from c.next) start_is in
    let begun = code_is ∙ ap (λ (c : Code). with_piece c (fixed_code c.next) 2) start_is in
    (λ j. code_items (fixed j) (items (same j)) (declared (begun j) (names_is j))) ∙ ap code_program is

pub built_begin : (s : Of r-program) (m : Mark) (more xs : List (Of r-item × Bool)) (names : List Named) → n-rule m (program_view more) ≡ s → xs ≡ more → names ≡ [] → is_program_built s ≡ true → are_items_built (variables_of names) (items xs) ≡ true
built_begin s m more xs names is same names_is built = (λ j. are_items_built (variables_of (names_is j)) (items (same j))) ∙ (ap is_program_built is ∙ built)

pub tokens_begin : (s : Of r-program) (m : Mark) (more xs : List (Of r-item × Bool)) → n-rule m (program_view more) ≡ s → xs ≡ more → tokens_in (items xs) ≡ tokens_in s
tokens_begin s m more xs is same = ap (λ l. tokens_in (items l)) same ∙ ap tokens_in is
