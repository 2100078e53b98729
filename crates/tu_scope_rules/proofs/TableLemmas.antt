-- A table of names, as a function.
use Rattle.std.proofs.Common.{◌≡◌, ℕ, Bool, true, false, List, [], ◌∷◌, Some, refl, sym, ap, ◌∙◌, arith}
use Rattle.std.specs.Prelude.{◌&&◌, if◌then◌else◌, nat_eq}
use Rattle.std.specs.Str.{bytes_eq}
use Rattle.std.specs.Map.{lookup}
use Rattle.std.specs.Cmp.Lexicographic.{slice_cmp}
use Rattle.std.specs.declared.cmp.Ordering.{Ordering}
use Rattle.std.specs.declared.cmp.Ordering.TheVariants.{Less, Equal, Greater}
use Rattle.std.specs.Ordering.{is_eq, nat_cmp, ordering_then, match_ordering}
use Rattle.std.specs.BTreeMap.{insert_entry}
use Rattle.std.proofs.lemmas.Bool.{and_parts, and_from}
use Rattle.std.proofs.lemmas.Bool.Decides.{Decides-eqb}
use Rattle.std.proofs.lemmas.Map.Text.{is_eq-slice_cmp}
use Rattle.std.proofs.lemmas.Slice.Eq.{bytes_eq-Decides}
use mathlib.Core.Path.{fun_ext}
use Rattle.tu_scope_rules.specs.declared.event.Declaration.{Declaration}
use Rattle.tu_scope_rules.specs.declared.table.Key.{Key}
use Rattle.tu_scope_rules.specs.declared.table.Namespace.{Namespace}
use Rattle.tu_scope_rules.specs.Namespaces.{namespace_number}
use Rattle.tu_scope_rules.specs.Entries.{entry_at, entry_under, put_at, is_under}
use Rattle.tu_scope_rules.specs.Table.{entries_of}

-- the order of keys
abbrev pub key_cmp : Key → Key → Ordering
key_cmp j k = ordering_then (nat_cmp j.scope k.scope) (ordering_then (nat_cmp j.namespace k.namespace) (slice_cmp nat_cmp j.name.now k.name.now))

abbrev pub is_key : Key → Key → Bool
is_key j k = is_under j.scope j.namespace j.name.now k.scope k.namespace k.name.now

equal_then : (x y : ℕ) (more : Ordering) → is_eq (ordering_then (nat_cmp x y) more) ≡ (nat_eq x y && is_eq more)
equal_then x y more = grind arith

pub equal_keys : (j k : Key) → is_eq (key_cmp j k) ≡ is_key j k
equal_keys j k =
    equal_then j.scope k.scope (ordering_then (nat_cmp j.namespace k.namespace) (slice_cmp nat_cmp j.name.now k.name.now))
    ∙ ap (λ b. nat_eq j.scope k.scope && b) (equal_then j.namespace k.namespace (slice_cmp nat_cmp j.name.now k.name.now)
    ∙ ap (λ b. nat_eq j.namespace k.namespace && b) (is_eq-slice_cmp j.name.now k.name.now))

pub lookup-key : (j : Key) (es : List (Key × Declaration)) → lookup (λ k. is_eq (key_cmp j k)) es ≡ entry_under (entries_of es) j.scope j.namespace j.name.now
lookup-key j [] = refl
lookup-key j (e ∷ es) =
    ap (λ b. if b then Some e.1 else lookup (λ k. is_eq (key_cmp j k)) es) (equal_keys j e.0)
    ∙ ap (λ rest. if is_key j e.0 then Some e.1 else rest) (lookup-key j es)

-- equal names in one scope
record IsSame (scope namespace : ℕ) (name : List ℕ) (scope' namespace' : ℕ) (name' : List ℕ) : Type 0 where
  scopes : scope ≡ scope'
  namespaces : namespace ≡ namespace'
  names : name ≡ name'

same_from : (scope namespace : ℕ) (name : List ℕ) (scope' namespace' : ℕ) (name' : List ℕ) → is_under scope namespace name scope' namespace' name' ≡ true → IsSame scope namespace name scope' namespace' name'
same_from s c n s' c' n' h =
    let a = and_parts (nat_eq s s') (nat_eq c c' && bytes_eq n n') h in
    let b = and_parts (nat_eq c c') (bytes_eq n n') a.1 in
    record { scopes = (Decides-eqb s s').0 a.0; namespaces = (Decides-eqb c c').0 b.0; names = (bytes_eq-Decides n n').0 b.1 }

to_same : (scope namespace : ℕ) (name : List ℕ) (scope' namespace' : ℕ) (name' : List ℕ) → IsSame scope namespace name scope' namespace' name' → is_under scope namespace name scope' namespace' name' ≡ true
to_same s c n s' c' n' h =
    and_from (nat_eq s s') (nat_eq c c' && bytes_eq n n') ((Decides-eqb s s').1 h.scopes)
    (and_from (nat_eq c c') (bytes_eq n n') ((Decides-eqb c c').1 h.namespaces) ((bytes_eq-Decides n n').1 h.names))

both_same : {A : Type 0} (there other : Bool) (a x rest : A) → there ≡ other → (if other then a else rest) ≡ (if there then a else (if other then x else rest))
both_same true true a x rest e = refl
both_same false false a x rest e = refl
both_same true false a x rest e = absurd (cc)
both_same false true a x rest e = absurd (cc)

one_at_most : {A : Type 0} (there other : Bool) (a x rest inner : A) → (there ≡ true → other ≡ true → ⊥) → inner ≡ (if there then a else rest)
    → (if other then x else inner) ≡ (if there then a else (if other then x else rest))
one_at_most true true a x rest inner never e = absurd (never refl refl)
one_at_most true false a x rest inner never e = e
one_at_most false true a x rest inner never e = refl
one_at_most false false a x rest inner never e = e

-- what is found after an insert
module _ (scope namespace : ℕ) (name : List ℕ) where
  at : Key → Bool
  at k = is_under scope namespace name k.scope k.namespace k.name.now

  at-same : (j k : Key) → is_key j k ≡ true → at j ≡ at k
  unfolding at
  at-same j k h =
      let same = same_from j.scope j.namespace j.name.now k.scope k.namespace k.name.now h in
      ap (λ s. is_under scope namespace name s j.namespace j.name.now) same.scopes
      ∙ (ap (λ c. is_under scope namespace name k.scope c j.name.now) same.namespaces ∙ ap (λ n. is_under scope namespace name k.scope k.namespace n) same.names)

  at-apart : (j k : Key) → is_key j k ≡ false → at j ≡ true → at k ≡ true → ⊥
  unfolding at
  at-apart j k h a b =
      let x = same_from scope namespace name j.scope j.namespace j.name.now a in
      let y = same_from scope namespace name k.scope k.namespace k.name.now b in
      let same : is_key j k ≡ true = to_same j.scope j.namespace j.name.now k.scope k.namespace k.name.now (record { scopes = sym x.scopes ∙ y.scopes; namespaces = sym x.namespaces ∙ y.namespaces; names = sym x.names ∙ y.names }) in
      absurd (cc)

  pub found-insert : (k : Key) (v : Declaration) (es : List (Key × Declaration))
      → entry_under (entries_of (insert_entry key_cmp es k v)) scope namespace name
      ≡ (if is_under scope namespace name k.scope k.namespace k.name.now then Some v else entry_under (entries_of es) scope namespace name)
  unfolding at
  found-insert k v [] = refl
  found-insert k v (e ∷ es) = by (key_cmp k e.0) refl (found-insert k v es) where
    by : (o : Ordering) → key_cmp k e.0 ≡ o
        → entry_under (entries_of (insert_entry key_cmp es k v)) scope namespace name ≡ (if at k then Some v else entry_under (entries_of es) scope namespace name)
        → entry_under (entries_of (match_ordering o ((k, v) ∷ e ∷ es) ((e.0, v) ∷ es) (e ∷ insert_entry key_cmp es k v))) scope namespace name
        ≡ (if at k then Some v else entry_under (entries_of (e ∷ es)) scope namespace name)
    by Less h before = refl
    by Equal h before =
        let same : is_key k e.0 ≡ true = sym (equal_keys k e.0) ∙ ap is_eq h in
        both_same (at k) (at e.0) (Some v) (Some e.1) (entry_under (entries_of es) scope namespace name) (at-same k e.0 same)
    by Greater h before =
        let apart : is_key k e.0 ≡ false = sym (equal_keys k e.0) ∙ ap is_eq h in
        one_at_most (at k) (at e.0) (Some v) (Some e.1) (entry_under (entries_of es) scope namespace name)
        (entry_under (entries_of (insert_entry key_cmp es k v)) scope namespace name) (at-apart k e.0 apart) before

pub put-is : (k : Key) (namespace' : Namespace) (v : Declaration) (es : List (Key × Declaration)) → k.namespace ≡ namespace_number namespace'
    → entry_at (entries_of (insert_entry key_cmp es k v)) ≡ put_at (entry_at (entries_of es)) k.scope namespace' k.name.now v
put-is k namespace' v es e = fun_ext (λ scope. fun_ext (λ namespace. fun_ext (λ name.
    found-insert scope (namespace_number namespace) name k v es
    ∙ ap (λ c. if is_under scope (namespace_number namespace) name k.scope c k.name.now then Some v else entry_under (entries_of es) scope (namespace_number namespace) name) e)))
