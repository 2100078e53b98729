-- Names in a list, one after the other, and declarations.
use Rattle.std.proofs.Common.{◌≡◌, ℕ, ◌+◌, ◌<◌, Bool, true, false, not, ◌&&◌, ◌||◌, List, [], ◌∷◌, length, drop, get_or, if◌then◌else◌, None, Some, refl, ap, ◌∙◌, sym, arith}
use Rattle.std.specs.Str.{bytes_eq}
use Rattle.grammar.specs.Tree.{Mark, n-rule, repeated}
use Rattle.ir_code.specs.declared.code.Code.{Code}
use Rattle.tu_token.specs.Rules.{r-expr, r-names, many}
use Rattle.tu_token.specs.Syntax.{Of}
use Rattle.tu_expr.specs.Parts.{Part}
use Rattle.tu_expr.specs.declared.leaf.Leaf.{Leaf}
use Rattle.tu_tree.specs.TypeViews.{named as further_name, named_view, names_view}
use Rattle.tu_tree_meaning.specs.Interpreter.{more_names, names_of}
use Rattle.tu_tree_meaning.specs.Values.{Variable}
use Rattle.tu_value.specs.declared.pieces.Fixed.{Fixed}
use Rattle.ir_build.specs.Built.{is_declared}
use Rattle.ir_build.specs.Code.{Made, named, code_expr}
use Rattle.ir_build.specs.Keeps.{Named, variables_of}
use Rattle.ir_build.specs.Tokens.{tokens_in}
use Rattle.ir_build.proofs.Operands.{from_place}
use Rattle.ir_stmt.specs.Built.{are_new}
use Rattle.ir_stmt.specs.Code.{Declared, declare_all, started, store_all, stored}
use Rattle.ir_stmt.specs.Made.{declared}

abbrev pub listed : List Leaf → Part (many further_name)
listed xs = repeated further_name named_view xs

pub names_at : (xs : List Leaf) (i : ℕ) (x : Leaf) → i < length xs → x ≡ get_or xs i x → more_names (listed (drop i xs)) ≡ x.text ∷ more_names (listed (drop (i + 1) xs))
names_at xs i x h is = ap (λ s. more_names (listed s)) (from_place xs i x h is)

pub names_begin : (s : Of r-names) (m : Mark) (first : Leaf) (more xs : List Leaf) → n-rule m (names_view first more) ≡ s → xs ≡ more → first.text ∷ more_names (listed xs) ≡ names_of s
names_begin s m first more xs is same = ap (λ l. first.text ∷ more_names (listed l)) same ∙ ap names_of is

pub listed_tokens_at : (xs : List Leaf) (i : ℕ) (x : Leaf) → i < length xs → x ≡ get_or xs i x → tokens_in (listed (drop i xs)) ≡ 2 + tokens_in (listed (drop (i + 1) xs))
listed_tokens_at xs i x h is = let e = ap (λ s. tokens_in (listed s)) (from_place xs i x h is) in omega (arith, e)

-- what is not declared has no value
pub not_named : (x : Variable) (names : List Named) → is_declared (variables_of names) x ≡ false → named x names ≡ None
not_named x [] h = refl
not_named x (n ∷ names) h = by (bytes_eq x n.name) h (not_named x names) where
  by : (b : Bool) → (b || is_declared (variables_of names) x) ≡ false → (is_declared (variables_of names) x ≡ false → named x names ≡ None) → (if b then Some n else named x names) ≡ None
  by true h rest = absurd (cc)
  by false h rest = rest h

-- the first name is new, and so are those behind it
pub first_new : (d : List Variable) (x : Variable) (more : List Variable) → are_new d (x ∷ more) ≡ true → (is_declared d x ≡ false) × (are_new (x ∷ d) more ≡ true)
first_new d x more h = by (is_declared d x) refl h where
  by : (b : Bool) → is_declared d x ≡ b → (not b && are_new (x ∷ d) more) ≡ true → (b ≡ false) × (are_new (x ∷ d) more ≡ true)
  by true e h = absurd (cc)
  by false e h = (refl, h)

-- a variable that is declared is the newest
pub one_declared : (k : Fixed) (x : Variable) (before after : Declared) → after ≡ declare_all k (x ∷ []) before
    → (after.code.next ≡ before.code.next + 1) × (length after.names ≡ length before.names + 1) × (variables_of after.names ≡ x ∷ variables_of before.names)
one_declared k x before after made =
    let l = ap (λ (d : Declared). length d.names) made in (ap (λ (d : Declared). d.code.next) made, omega (arith, l), ap (λ (d : Declared). variables_of d.names) made)

-- the next variable of a list
pub declared_at : (k : Fixed) (xs : List Leaf) (i : ℕ) (x : Leaf) (name : Variable) (before after : Declared) → i < length xs → x ≡ get_or xs i x → name ≡ x.text → after ≡ declare_all k (name ∷ []) before
    → declare_all k (more_names (listed (drop (i + 1) xs))) after ≡ declare_all k (more_names (listed (drop i xs))) before
declared_at k xs i x name before after h is name_is made =
    ap (declare_all k (more_names (listed (drop (i + 1) xs)))) (made ∙ ap (λ z. declare_all k (z ∷ []) before) name_is) ∙ sym (ap (λ l. declare_all k l before) (names_at xs i x h is))

pub new_at : (d : List Variable) (xs : List Leaf) (i : ℕ) (x : Leaf) (name : Variable) → i < length xs → x ≡ get_or xs i x → name ≡ x.text → are_new d (more_names (listed (drop i xs))) ≡ true
    → (is_declared d name ≡ false) × (are_new (name ∷ d) (more_names (listed (drop (i + 1) xs))) ≡ true)
new_at d xs i x name h is name_is new =
    first_new d name (more_names (listed (drop (i + 1) xs))) ((λ j. are_new d (name_is j ∷ more_names (listed (drop (i + 1) xs)))) ∙ (sym (ap (λ l. are_new d l) (names_at xs i x h is)) ∙ new))

pub declared_begin : (k : Fixed) (s : Of r-names) (m : Mark) (first : Leaf) (more xs : List Leaf) (name : Variable) (before after : Declared) → n-rule m (names_view first more) ≡ s → xs ≡ more → name ≡ first.text
    → after ≡ declare_all k (name ∷ []) before → declare_all k (more_names (listed xs)) after ≡ declare_all k (names_of s) before
declared_begin k s m first more xs name before after is same name_is made =
    ap (declare_all k (more_names (listed xs))) (made ∙ ap (λ z. declare_all k (z ∷ []) before) name_is) ∙ ap (λ l. declare_all k l before) (names_begin s m first more xs is same)

pub new_begin : (d : List Variable) (s : Of r-names) (m : Mark) (first : Leaf) (more xs : List Leaf) (name : Variable) → n-rule m (names_view first more) ≡ s → xs ≡ more → name ≡ first.text → are_new d (names_of s) ≡ true
    → (is_declared d name ≡ false) × (are_new (name ∷ d) (more_names (listed xs)) ≡ true)
new_begin d s m first more xs name is same name_is new =
    first_new d name (more_names (listed xs)) ((λ j. are_new d (name_is j ∷ more_names (listed xs))) ∙ (ap (λ l. are_new d l) (names_begin s m first more xs is same) ∙ new))

pub listed_tokens : (s : Of r-names) (m : Mark) (first : Leaf) (more xs : List Leaf) → n-rule m (names_view first more) ≡ s → xs ≡ more → tokens_in s ≡ 1 + tokens_in (listed xs)
listed_tokens s m first more xs is same = let e = ap tokens_in is in let f = ap (λ l. tokens_in (listed l)) same in omega (arith, e, f)

-- the next variable in which a value is stored
pub stored_at : (k : Fixed) (names : List Named) (value : ℕ) (xs : List Leaf) (i : ℕ) (x : Leaf) (name : Variable) (before after : Code) → i < length xs → x ≡ get_or xs i x → name ≡ x.text → after ≡ stored k names before (named name names) value
    → store_all k names value (more_names (listed (drop (i + 1) xs))) after ≡ store_all k names value (more_names (listed (drop i xs))) before
stored_at k names value xs i x name before after h is name_is made =
    ap (store_all k names value (more_names (listed (drop (i + 1) xs)))) (made ∙ ap (λ z. stored k names before (named z names) value) name_is) ∙ sym (ap (λ l. store_all k names value l before) (names_at xs i x h is))

pub stored_begin : (k : Fixed) (names : List Named) (value : ℕ) (s : Of r-names) (m : Mark) (first : Leaf) (more xs : List Leaf) (name : Variable) (before after : Code) → n-rule m (names_view first more) ≡ s → xs ≡ more → name ≡ first.text
    → after ≡ stored k names before (named name names) value → store_all k names value (more_names (listed xs)) after ≡ store_all k names value (names_of s) before
stored_begin k names value s m first more xs name before after is same name_is made =
    ap (store_all k names value (more_names (listed xs))) (made ∙ ap (λ z. stored k names before (named z names) value) name_is) ∙ ap (λ l. store_all k names value l before) (names_begin s m first more xs is same)

-- variables begin with a value
pub start_made : (k : Fixed) (names : List Named) (line : ℕ) (variables : List Variable) (e : Of r-expr) (before after : Code) (x : Made) → x ≡ code_expr k names line e before → after ≡ store_all k names x.value variables x.code
    → declared after names ≡ started k line variables e (declared before names)
start_made k names line variables e before after x made stored = ap (λ z. declared z names) stored ∙ ap (λ (y : Made). declared (store_all k names y.value variables y.code) names) made
