-- Lists of parts, one behind the other.
use Rattle.std.specs.Prelude.{◌≡◌, Bool, true, false, ℕ, zero, suc, ◌+◌, ◌<◌, ◌≤◌, List, [], ◌∷◌, ◌++◌, length, drop, replicate, refl}
use Rattle.std.proofs.Common.{sym, ap, ◌∙◌, get_or, append_assoc}
use Rattle.std.proofs.lemmas.List.{append-nil, drop_more, at_drop_all}
use Rattle.grammar.specs.Description.{Description, token}
use Rattle.grammar.specs.Tree.{repeated, n-token, n-text, n-none, n-more, n-rule, n-left, n-right, n-sequence, Mark}
use Rattle.tu_token.specs.declared.class.Class.TheVariants.{Name, WordNot, WordVar}
use Rattle.tu_token.specs.Rules.{Rule, many, t, body, r-formal, r-names, r-spec, r-relation, r-not, r-compare, r-prefix, r-power, r-sum, r-path}
use Rattle.tu_token.specs.Syntax.{Of}
use Rattle.tu_expr.specs.Parts.{Part}
use Rattle.tu_expr.specs.declared.expr.Sign.{Sign}
use Rattle.tu_expr.specs.declared.expr.Sign.TheVariants.{Plus, Minus}
use Rattle.tu_expr.specs.declared.expr.Multiplication.{Multiplication}
use Rattle.tu_expr.specs.declared.expr.Multiplication.TheVariants.{Times, Div, Mod}
use Rattle.tu_expr.specs.Views.{sign_view, signs, multiplication_view, not_view, prefix_view, related_view, path_view, steps, step_view}
use Rattle.tu_expr.specs.Leaves.{leaf_view}
use Rattle.tu_expr.specs.declared.leaf.Leaf.{Leaf}
use Rattle.tu_expr.specs.declared.path.Step.{Step}
use Rattle.tu_scope_rules.specs.declared.event.Context.{Context}
use Rattle.tu_scope_rules.specs.declared.event.Event.{Event}
use Rattle.tu_token.specs.declared.class.Class.{Class}
use Rattle.tu_tree.specs.Parts.{flag}
use Rattle.tu_tree.specs.TypeViews.{named}
use Rattle.tu_tree.specs.SubprogramViews.{formal_view}
use Rattle.tu_scope_parts.specs.Walk.{events, root_use}
use Rattle.tu_scope_parts.specs.Adds.{Adds, Extends}

-- what a list of parts does
abbrev pub told : {A : Type 0} (context : Context) (d : Description Rule) → (A → Part d) → List A → List Event
told context d show xs = events context (repeated d show xs)

-- the events of the first k parts of a list were added
pub record Turns {A : Type 0} (context : Context) (d : Description Rule) (show : A → Part d) (xs : List A) (k : ℕ) (old new : List Event) : Type 0 where
  pub is : new ++ events context (repeated d show (drop k xs)) ≡ old ++ events context (repeated d show xs)

-- operators do nothing
pub sign_does : (context : Context) (s : Sign) → events context (sign_view s) ≡ []
sign_does context Plus = refl
sign_does context Minus = refl

pub signs_do : (context : Context) (xs : List Sign) → events context (repeated signs sign_view xs) ≡ []
signs_do context [] = refl
signs_do context (Plus ∷ xs) = signs_do context xs
signs_do context (Minus ∷ xs) = signs_do context xs

pub multiplication_does : (context : Context) (s : Multiplication) → events context (multiplication_view s) ≡ []
multiplication_does context Times = refl
multiplication_does context Div = refl
multiplication_does context Mod = refl

pub lexeme_does : {c : ℕ} (context : Context) (x : Part (token c)) → events context x ≡ []
lexeme_does context n-token = refl
lexeme_does context (n-text text start line) = refl

pub relation_does : (context : Context) (x : Of r-relation) → events context x ≡ []
relation_does context (n-rule m (n-left a)) = lexeme_does context a
relation_does context (n-rule m (n-right (n-left a))) = lexeme_does context a
relation_does context (n-rule m (n-right (n-right (n-left a)))) = lexeme_does context a
relation_does context (n-rule m (n-right (n-right (n-right (n-left a))))) = lexeme_does context a
relation_does context (n-rule m (n-right (n-right (n-right (n-right (n-left a)))))) = lexeme_does context a
relation_does context (n-rule m (n-right (n-right (n-right (n-right (n-right (n-left a))))))) = lexeme_does context a
relation_does context (n-rule m (n-right (n-right (n-right (n-right (n-right (n-right (n-left a)))))))) = lexeme_does context a
relation_does context (n-rule m (n-right (n-right (n-right (n-right (n-right (n-right (n-right (n-sequence a b))))))))) = ap (λ es. es ++ events context b) (lexeme_does context a) ∙ lexeme_does context b

pub nots_do : (context : Context) (n : ℕ) → events context (repeated {A = ℕ} (t WordNot) (λ x. n-token) (replicate n 0)) ≡ []
nots_do context zero = refl
nots_do context (suc n) = nots_do context n

-- one more
pub turn : {A : Type 0} {context : Context} {d : Description Rule} {show : A → Part d} {xs : List A} {k : ℕ} {u v w : List Event} {x : A} → Turns context d show xs k u v → k < length xs → x ≡ get_or xs k x → Adds context (show x) v w → Turns context d show xs (k + 1) u w
turn {context = context} {d = d} {show = show} {xs = xs} {k = k} {u = u} {v = v} {w = w} {x = x} h lt e p =
    let rest = told context d show (drop (k + 1) xs) in
    let next : drop k xs ≡ x ∷ drop (k + 1) xs = drop_more xs k x lt ∙ ap (λ z. z ∷ drop (k + 1) xs) (sym e) in
    record { is = ap (λ (z : List Event). z ++ rest) p.is ∙ append_assoc v (events context (show x)) rest ∙ ap (λ z. v ++ told context d show z) (sym next) ∙ h.is }

-- all of them
pub turned : {A : Type 0} {context : Context} {d : Description Rule} {show : A → Part d} {xs ys : List A} {k : ℕ} {u v : List Event} → Turns context d show xs k u v → length xs ≤ k → xs ≡ ys → Adds context (repeated d show ys) u v
turned {context = context} {d = d} {show = show} {xs = xs} {k = k} {u = u} {v = v} h le e =
    record { is = sym (append-nil v) ∙ ap (λ z. v ++ z) (sym (at_drop_all (told context d show) xs k le)) ∙ h.is ∙ ap (λ z. u ++ told context d show z) e }

-- nots before a comparison, signs before a power, and a relation before a sum
pub not_done : (context : Context) (m : Mark) (nots : ℕ) (compare : Of r-compare) (x : Of r-not) (u v : List Event) → n-rule m (not_view nots compare) ≡ x → Adds context compare u v → Adds context x u v
not_done context m nots compare x u v e p = record { is = p.is ∙ (ap (λ es. u ++ (es ++ events context compare)) (sym (nots_do context nots)) ∙ ap (λ (y : Of r-not). u ++ events context y) e) }

pub prefix_done : (context : Context) (m : Mark) (before : List Sign) (power : Of r-power) (x : Of r-prefix) (u v : List Event) → n-rule m (prefix_view before power) ≡ x → Adds context power u v → Adds context x u v
prefix_done context m before power x u v e p = record { is = p.is ∙ (ap (λ es. u ++ (es ++ events context power)) (sym (signs_do context before)) ∙ ap (λ (y : Of r-prefix). u ++ events context y) e) }

pub related_done : (context : Context) (x : Of r-relation × Of r-sum) (u v : List Event) → Adds context x.1 u v → Adds context (related_view x) u v
related_done context x u v p = record { is = p.is ∙ ap (λ es. u ++ (es ++ events context x.1)) (sym (relation_does context x.0)) }

-- a path: its root and then its steps
pub path_done : (context : Context) (m : Mark) (root : Leaf) (ys zs : List Step) (x : Of r-path) (u v w : List Event) (event : Event) (k : ℕ)
    → n-rule m (path_view root ys) ≡ x → zs ≡ ys → event ≡ root_use context (leaf_view Name root) (repeated steps step_view zs) → Extends (event ∷ []) u v
    → Turns context steps step_view zs k v w → length zs ≤ k → Adds context x u w
path_done context m root ys zs x u v w event k is same told pushed turns past =
    let p = turned {context = context} {d = steps} {show = step_view} {xs = zs} {ys = ys} {k = k} {u = v} {v = w} turns past same in
    let e : event ≡ root_use context (leaf_view Name root) (repeated steps step_view ys) = told ∙ ap (λ l. root_use context (leaf_view Name root) (repeated steps step_view l)) same in
    let rest = events context (repeated steps step_view ys) in
    record {
      is = p.is ∙ (ap (λ (z : List Event). z ++ rest) (pushed.is ∙ ap (λ z. u ++ z ∷ []) e)
          ∙ (append_assoc u (root_use context (leaf_view Name root) (repeated steps step_view ys) ∷ []) rest ∙ ap (λ (y : Of r-path). u ++ events context y) is));
    }

-- words that may be there do nothing, and names of formals
pub flag_does : (context : Context) (c : Class) (b : Bool) → events context (flag c b) ≡ []
flag_does context c true = refl
flag_does context c false = refl

all_names_do : (context : Context) (names : Of r-names) → events context names ≡ []
all_names_do context (n-rule m (n-sequence first more)) = ap (λ es. es ++ events context more) (lexeme_does context first) ∙ more_do more
  where
    more_do : (more : Part (many named)) → events context more ≡ []
    more_do n-none = refl
    more_do (n-more (n-sequence comma name) more) =
        ap (λ es. es ++ events context name ++ events context more) (lexeme_does context comma)
        ∙ (ap (λ es. es ++ events context more) (lexeme_does context name) ∙ more_do more)

pub formal_done : {context : Context} {m : Mark} {x : Of r-formal} {spec : Of r-spec} {u v : List Event} (is_var : Bool) (names : Of r-names)
    → n-rule m (formal_view is_var names spec) ≡ x → Adds context spec u v → Adds context x u v
formal_done {context = context} {spec = spec} {u = u} is_var names is p =
    record {
      is = p.is ∙ (ap (λ es. u ++ (es ++ events context spec)) (sym (all_names_do context names))
          ∙ (ap (λ es. u ++ (es ++ (events context names ++ events context spec))) (sym (flag_does context WordVar is_var)) ∙ ap (λ (y : Of r-formal). u ++ events context y) is));
    }

-- a node of a rule with clauses of its own, by its form
pub arm : {A : Type 0} {n : Rule} {context : Context} {m : Mark} (view : A → Part (body n)) {form chosen : A} {x : Of n} {u v : List Event}
    → n-rule m (view form) ≡ x → form ≡ chosen → Extends (events context (n-rule {n = n} m (view chosen))) u v → Adds context x u v
arm {n = n} {context = context} {m = m} view {u = u} is e p =
    record { is = p.is ∙ (ap (λ f. u ++ events context (n-rule {n = n} m (view f))) (sym e) ∙ ap (λ (y : Of n). u ++ events context y) is) }

-- the events of a part
pub of : {d : Description Rule} {context : Context} {x : Part d} {u v : List Event} → Adds context x u v → Extends (events context x) u v
of p = record { is = p.is }

-- those of the same part
pub same : {d : Description Rule} {context : Context} {x y : Part d} {u v : List Event} → x ≡ y → Adds context x u v → Extends (events context y) u v
same {context = context} {u = u} e p = record { is = p.is ∙ ap (λ z. u ++ events context z) e }

-- no events
pub none : {u : List Event} → Extends [] u u
none {u = u} = record { is = sym (append-nil u) }

infixl 5 ◌▸◌
-- events that were added one after the other
pub ◌▸◌ : {u v w xs ys : List Event} → Extends xs u v → Extends ys v w → Extends (xs ++ ys) u w
◌▸◌ {u = u} {xs = xs} {ys = ys} p q = record { is = q.is ∙ (ap (λ (z : List Event). z ++ ys) p.is ∙ append_assoc u xs ys) }
