-- What storing a value and declaring a variable leave.
use Rattle.std.proofs.Common.{◌≡◌, ℕ, ◌<◌, ◌≤◌, Bool, true, false, List, [], ◌∷◌, ◌⊎◌, inl, inr, refl, sym, ◌∙◌, ap, subst, arith, Some}
use Rattle.std.specs.Prelude.{if◌then◌else◌}
use Rattle.std.specs.Str.{bytes_eq}
use Rattle.std.proofs.lemmas.Slice.Eq.{bytes_eq-Decides}
use Rattle.ir_form.specs.declared.plain.Width.TheVariants.{Word}
use Rattle.ir_form.specs.Cells.{Cells, loaded, with_word}
use Rattle.ir_form.specs.State.{State as CodeState}
use Rattle.tu_tree_meaning.specs.Steps.{State}
use Rattle.tu_tree_meaning.specs.Store.{Store, assign_root}
use Rattle.tu_tree_meaning.specs.Values.{Value, Unset, Int, Truth, Variable, Global, int_in}
use Rattle.tu_value.specs.Words.{IsSmall}
use Rattle.tu_value.specs.Meets.{HoldsWord}
use Rattle.tu_value.proofs.Cells.{store_keeps}
use Rattle.tu_value.proofs.Leaves.{words_fit}
use Rattle.ir_build.specs.Keeps.{Named, Site, word_at, stored_word, IsStored, Lies, AllLie, Holds}
use Rattle.ir_build.specs.Code.{named}
use Rattle.ir_build.proofs.States.{some_inj, none_is_some, lies_of}

-- older variables lie before newer ones, under other names
abbrev pub AllBelow : Named → List Named → Type 0
AllBelow n [] = Unit {0}
AllBelow n (m ∷ names) = (m.word < n.word) × (m.name ≡ n.name → ⊥) × AllBelow n names

abbrev pub IsOrdered : List Named → Type 0
IsOrdered [] = Unit {0}
IsOrdered (n ∷ names) = AllBelow n names × IsOrdered names

-- a variable is the one, or has another name and lies elsewhere
abbrev Related : (it n : Named) → Type 0
Related it n = ((n.word ≡ it.word) × (n.name ≡ it.name)) ⊎ (((n.word < it.word) ⊎ (it.word < n.word)) × (n.name ≡ it.name → ⊥))

abbrev AllRelated : (it : Named) → List Named → Type 0
AllRelated it [] = Unit {0}
AllRelated it (n ∷ names) = Related it n × AllRelated it names

pub older : (n : Named) (names : List Named) → AllBelow n names → AllRelated n names
older n [] h = tt
older n (m ∷ names) h = (inr (inl h.0, h.1), older n names h.2)

below_in : (y : Variable) (n it m : Named) (names : List Named) (b : Bool) → (if b then Some m else named y names) ≡ Some it → (m.word < n.word) × (m.name ≡ n.name → ⊥) → (named y names ≡ Some it → (it.word < n.word) × (it.name ≡ n.name → ⊥)) → (it.word < n.word) × (it.name ≡ n.name → ⊥)
below_in y n it m names true e h rest = subst (λ (z : Named). (z.word < n.word) × (z.name ≡ n.name → ⊥)) (some_inj e) h
below_in y n it m names false e h rest = rest e

below_of : (y : Variable) (n it : Named) (names : List Named) → named y names ≡ Some it → AllBelow n names → (it.word < n.word) × (it.name ≡ n.name → ⊥)
below_of y n it [] e h = absurd (none_is_some e)
below_of y n it (m ∷ names) e h = below_in y n it m names (bytes_eq y m.name) e (h.0, h.1) (λ f. below_of y n it names f h.2)

related_in : (y : Variable) (it n : Named) (names : List Named) (b : Bool) → (if b then Some n else named y names) ≡ Some it → AllBelow n names → (named y names ≡ Some it → AllRelated it names) → AllRelated it (n ∷ names)
related_in y it n names true e h rest = subst (λ z. AllRelated z (n ∷ names)) (some_inj e) (inl (refl, refl), older n names h)
related_in y it n names false e h rest = let q = below_of y n it names e h in (inr (inr q.0, λ f. q.1 (sym f)), rest e)

related_of : (y : Variable) (it : Named) (names : List Named) → named y names ≡ Some it → IsOrdered names → AllRelated it names
related_of y it [] e h = tt
related_of y it (n ∷ names) e h = related_in y it n names (bytes_eq y n.name) e h.0 (λ f. related_of y it names f h.1)

pub apart_names : (a b : List ℕ) → (a ≡ b → ⊥) → bytes_eq a b ≡ false
apart_names a b h = by (bytes_eq a b) refl
  where
    by : (t : Bool) → bytes_eq a b ≡ t → t ≡ false
    by true e = absurd (h ((bytes_eq-Decides a b).0 e))
    by false e = refl

-- the word at another place is as before
elsewhere : (x : Site) (cells new : Cells) (w a b : ℕ) → HoldsWord (word_at x.setting a) w cells new → (b < a) ⊎ (a < b) → loaded Word new (word_at x.setting b) ≡ loaded Word cells (word_at x.setting b)
elsewhere x cells new w a b h (inl lt) = h.before (word_at x.setting b) (omega (arith, lt))
elsewhere x cells new w a b h (inr lt) = h.behind (word_at x.setting b) (omega (arith, lt))

lies_after : (x : Site) (s : Store) (st : CodeState) (it n : Named) (v : Value) → HoldsWord (word_at x.setting it.word) (stored_word v) st.cells (with_word st.cells (word_at x.setting it.word) (stored_word v)) → Related it n → Lies x s st n → Lies x (assign_root s (Global it.name) v) (record st { cells = with_word st.cells (word_at x.setting it.word) (stored_word v) }) n
lies_after x s st it n v h (inl r) l = record {
  below = l.below;
  address = l.address;
  inside = l.inside;
  stored = ap (λ z. loaded Word (with_word st.cells (word_at x.setting it.word) (stored_word v)) (word_at x.setting z)) r.0 ∙ h.here ∙ ap (λ b. Some (stored_word (if b then v else s.globals n.name))) (sym ((bytes_eq-Decides n.name it.name).1 r.1));
}
lies_after x s st it n v h (inr r) l = record {
  below = l.below;
  address = l.address;
  inside = l.inside;
  stored = elsewhere x st.cells _ (stored_word v) it.word n.word h r.0 ∙ l.stored ∙ ap (λ b. Some (stored_word (if b then v else s.globals n.name))) (sym (apart_names n.name it.name r.1));
}

pub lie_after : (x : Site) (s : Store) (st : CodeState) (it : Named) (v : Value) → HoldsWord (word_at x.setting it.word) (stored_word v) st.cells (with_word st.cells (word_at x.setting it.word) (stored_word v)) → (names : List Named) → AllRelated it names → AllLie x s st names → AllLie x (assign_root s (Global it.name) v) (record st { cells = with_word st.cells (word_at x.setting it.word) (stored_word v) }) names
lie_after x s st it v h [] r l = tt
lie_after x s st it v h (n ∷ names) r l = (lies_after x s st it n v h r.0 l.0, lie_after x s st it v h names r.1 l.1)

pub stored_value : (v w : Value) (b : Bool) → IsStored v → IsStored w → IsStored (if b then v else w)
stored_value v w true h g = h
stored_value v w false h g = g

small_stored : (v : Value) → IsStored v → IsSmall (int_in v)
small_stored Unset h = tt
small_stored (Int z) h = h
small_stored (Truth b) h = absurd h

-- a variable that is declared holds another value
pub stored_holds : (x : Site) (left : ℕ) (s : State Store) (st : CodeState) (c c' : ℕ) (y : Variable) (it : Named) (v : Value) → IsOrdered x.names → named y x.names ≡ Some it → IsStored v → c ≤ c' → Holds x left s st c →
    Holds x left (record s { store = assign_root s.store (Global it.name) v }) (record st { cells = with_word st.cells (word_at x.setting it.word) (stored_word v) }) c'
stored_holds x left s st c c' y it v o e i le h =
    let l = lies_of x s.store st y it x.names e h.variables in
    let k = store_keeps st.cells (word_at x.setting it.word) (stored_word v) (h.writable it.word l.inside) (words_fit (int_in v) (small_stored v i)) in
    record {
      fixed = record { zero_below = h.fixed.zero_below; zero_is = h.fixed.zero_is; top_below = h.fixed.top_below; top_is = h.fixed.top_is };
      variables = lie_after x s.store st it v k x.names (related_of y it x.names e o) h.variables;
      values = λ z. stored_value v (s.store.globals z) (bytes_eq z it.name) i (h.values z);
      writable = λ word lt. k.open_words (word_at x.setting word) ∙ h.writable word lt;
      turns = h.turns;
      few = h.few;
      others = let q = h.others in omega arith;
      rooms = h.rooms;
    }
