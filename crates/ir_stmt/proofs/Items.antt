-- Declarations and items.
use Rattle.std.proofs.Common.{◌≡◌, ℕ, suc, ◌+◌, ◌*◌, ◌<◌, ◌≤◌, List, [], ◌∷◌, ◌++◌, length, refl, sym, ◌∙◌, ap, subst, arith, append_assoc, Some}
use Rattle.std.specs.Prelude.{if◌then◌else◌}
use Rattle.std.specs.Str.{bytes_eq}
use Rattle.std.proofs.lemmas.Slice.Eq.{bytes_eq-Decides}
use Rattle.std.proofs.lemmas.List.{append-nil}
use Rattle.tu_base.specs.Trace.{Trace}
use Rattle.rv_image.specs.Streams.{traced}
use Rattle.ir_form.specs.declared.op.Op.{Op}
use Rattle.ir_form.specs.declared.plain.Width.TheVariants.{Word}
use Rattle.ir_form.specs.Cells.{loaded, with_word}
use Rattle.ir_form.specs.Plain.{Calls}
use Rattle.ir_form.specs.Meaning.{run_list}
use Rattle.ir_form.specs.State.{State as CodeState, Next as goes_on, Run, next, on_run}
use Rattle.ir_code.proofs.Running.{runs_in_order}
use Rattle.ir_code.proofs.Steps.{set, set_same, set_below}
use Rattle.tu_tree_meaning.specs.Steps.{Added, Outcome, State, Step, pay, change, ◌>>◌}
use Rattle.tu_tree_meaning.specs.Store.{Store, by_copying, assign_root}
use Rattle.tu_tree_meaning.specs.Values.{Unset, Variable, Global}
use Rattle.tu_tree_meaning.specs.Interpreter.{declare_all}
use Rattle.tu_value.specs.Pieces.{unset_code}
use Rattle.tu_value.specs.Meets.{HasFixed, StoresWord}
use Rattle.tu_value.proofs.Cells.{store_keeps}
use Rattle.tu_value.proofs.Leaves.{unset_runs}
use Rattle.ir_build.specs.Keeps.{factor, Named, Site, word_at, stored_word, AllLie, Holds, Post, Keeps, variables_of}
use Rattle.ir_build.proofs.Words.{keeps_is, keeps_more, keeps_paid, keeps_given, keeps_grouped, keeps_change}
use Rattle.ir_stmt.specs.Code.{Declared, declare_code, declare_all as code_declare_all}
use Rattle.ir_stmt.proofs.Stores.{AllBelow, IsOrdered, older, lie_after, stored_value}

-- a site with other variables
abbrev pub at_site : Site → Declared → Site
at_site x d = record x { names = d.names; low = d.code.next }

-- what holds at one site holds at another, of which it says the same
pub keeps_site : {x y : Site} {A : Type 0} {P : Post A} {tr : Trace} {b : ℕ} {r : Added × Outcome Store A} {f : Run} → y.world ≡ x.world → y.most ≡ x.most → Keeps y P tr b r f → Keeps x P tr b r f
keeps_site {x} {y} {A} {P} {tr} {b} {r} {f} e m h = record {
  met = λ le.
      let q = h.met (subst (λ z. b + factor * r.0.units ≤ z) (sym m) le) in
      record { world = q.world ∙ ap (λ z. traced z (tr ++ r.0.trace)) e; cost = q.cost; ends = q.ends };
}

-- a name is new
abbrev pub IsNew : Variable → List Variable → Type 0
IsNew y [] = Unit {0}
IsNew y (z ∷ declared) = (z ≡ y → ⊥) × IsNew y declared

-- each name is new where it is declared
abbrev pub AreNew : List Variable → List Variable → Type 0
AreNew [] declared = Unit {0}
AreNew (y ∷ more) declared = IsNew y declared × AreNew more (y ∷ declared)

-- the words of variables are taken in order
abbrev pub AreBelow : ℕ → List Named → Type 0
AreBelow word [] = Unit {0}
AreBelow word (n ∷ names) = (n.word < word) × AreBelow word names

new_below : (y : Variable) (word at : ℕ) (names : List Named) → IsNew y (variables_of names) → AreBelow word names → AllBelow (record { name = y; word = word; at = at }) names
new_below y word at [] h l = tt
new_below y word at (n ∷ names) h l = (l.0, h.0, new_below y word at names h.1 l.1)

-- declared variables at a site with one more
pub lie_more : (x y : Site) (s : Store) (st su : CodeState) → y.setting ≡ x.setting → su.cells ≡ st.cells → x.low ≤ y.low → ((j : ℕ) → j < x.low → su.env j ≡ st.env j) → (names : List Named) → AllLie x s st names → AllLie y s su names
lie_more x y s st su e c le k [] l = tt
lie_more x y s st su e c le k (n ∷ names) l = (
  record {
    below = let b = l.0.below in omega arith;
    address = k n.at l.0.below ∙ l.0.address ∙ ap (λ g. Some (word_at g n.word)) (sym e);
    inside = subst (λ g. n.word < g.globals) (sym e) l.0.inside;
    stored = ap (λ g. loaded Word su.cells (word_at g n.word)) e ∙ ap (λ z. loaded Word z (word_at x.setting n.word)) c ∙ l.0.stored;
  },
  lie_more x y s st su e c le k names l.1,
)

below_more : (a b : ℕ) (names : List Named) → a ≤ b → AreBelow a names → AreBelow b names
below_more a b [] le h = tt
below_more a b (n ∷ names) le h = (let q = h.0 in omega arith, below_more a b names le h.1)

-- variables as they are declared
pub record AreFine (names : List Named) : Type 0 where
  pub ordered : IsOrdered names
  pub below : AreBelow (length names) names

fine_more : (y : Variable) (at : ℕ) (names : List Named) → IsNew y (variables_of names) → AreFine names → AreFine (record { name = y; word = length names; at = at } ∷ names)
fine_more y at names new f = record { ordered = (new_below y (length names) at names new f.below, f.ordered); below = (omega arith, below_more (length names) (suc (length names)) names (omega arith) f.below) }

abbrev declared_state : Site → CodeState → (n word : ℕ) → CodeState
declared_state x st n word = record (set st n (word_at x.setting word)) { cells = with_word st.cells (word_at x.setting word) 0 }

-- a variable more, which is unset
declared_holds : (x : Site) (left : ℕ) (s : State Store) (st : CodeState) (c c' n word : ℕ) (y : Variable) → IsNew y (variables_of x.names) → AreBelow word x.names → word < x.setting.globals → x.low ≤ n → c ≤ c' → Holds x left s st c →
    Holds (record x { names = record { name = y; word = word; at = n } ∷ x.names; low = n + 1 }) left (record s { store = assign_root s.store (Global y) Unset }) (declared_state x st n word) c'
declared_holds x left s st c c' n word y new below lt low le h =
    let a = word_at x.setting word in
    let k = store_keeps st.cells a 0 (h.writable word lt) (omega arith) in
    let it : Named = record { name = y; word = word; at = n } in
    let z : Site = record x { names = it ∷ x.names; low = n + 1 } in
    record {
      fixed = record {
        zero_below = let q = h.fixed.zero_below in omega arith;
        zero_is = set_below st.env n a x.fixed.zero (let q = h.fixed.zero_below in omega arith) ∙ h.fixed.zero_is;
        top_below = let q = h.fixed.top_below in omega arith;
        top_is = set_below st.env n a x.fixed.top (let q = h.fixed.top_below in omega arith) ∙ h.fixed.top_is;
      };
      variables = (
        record {
          below = omega arith;
          address = set_same st.env n a;
          inside = lt;
          stored = k.here ∙ ap (λ b. Some (stored_word (if b then Unset else s.store.globals y))) (sym ((bytes_eq-Decides y y).1 refl));
        },
        lie_more x z (assign_root s.store (Global y) Unset) (record st { cells = with_word st.cells a 0 }) (declared_state x st n word) refl refl (omega arith) (λ j l. set_below st.env n a j (omega arith)) x.names
            (lie_after x s.store st it Unset k x.names (older it x.names (new_below y word n x.names new below)) h.variables),
      );
      values = λ v. stored_value Unset (s.store.globals v) (bytes_eq v y) tt (h.values v);
      writable = λ w l. k.open_words (word_at x.setting w) ∙ h.writable w l;
      turns = h.turns;
      few = h.few;
      others = let q = h.others in omega arith;
      rooms = h.rooms;
    }

-- the operations of declarations, from a value and a word on
abbrev pub declare_ops : Site → List Variable → (n word : ℕ) → List Op
declare_ops x [] n word = []
declare_ops x (y ∷ more) n word = declare_code x.fixed word n ++ declare_ops x more (n + 1) (suc word)

pub declare_is : (x : Site) (variables : List Variable) (d : Declared) → (code_declare_all x.fixed variables d).code.ops ≡ d.code.ops ++ declare_ops x variables d.code.next (length d.names)
declare_is x [] d = sym (append-nil d.code.ops)
declare_is x (y ∷ more) d =
    let n = d.code.next in let word = length d.names in let p = declare_code x.fixed word n in
    declare_is x more (record { code = record { ops = d.code.ops ++ p; next = n + 1 }; names = record { name = y; word = word; at = n } ∷ d.names }) ∙ append_assoc d.code.ops p (declare_ops x more (n + 1) (suc word))

pub declare_next : (x : Site) (variables : List Variable) (d : Declared) → d.code.next ≤ (code_declare_all x.fixed variables d).code.next
declare_next x [] d = omega arith
declare_next x (y ∷ more) d =
    let n = d.code.next in let word = length d.names in
    let q = declare_next x more (record { code = record { ops = d.code.ops ++ declare_code x.fixed word n; next = n + 1 }; names = record { name = y; word = word; at = n } ∷ d.names }) in omega arith

pub declare_fine : (x : Site) (variables : List Variable) (d : Declared) → AreNew variables (variables_of d.names) → AreFine d.names → AreFine (code_declare_all x.fixed variables d).names
declare_fine x [] d new fine = fine
declare_fine x (y ∷ more) d new fine =
    let n = d.code.next in let word = length d.names in
    declare_fine x more (record { code = record { ops = d.code.ops ++ declare_code x.fixed word n; next = n + 1 }; names = record { name = y; word = word; at = n } ∷ d.names }) new.1 (fine_more y n d.names new.0 fine)

pub stores_then : (r : Run) → r.how ≡ goes_on → r ≡ next r.state r.cost
stores_then r e = ap (λ h. record { how = h; state = r.state; cost = r.cost }) e

module _ (x : Site) (calls : Calls) (depth : ℕ) where
  -- Declarations, and what follows them. Each pays some more than its code costs.
  pub declares_then : {A : Type 0} {P : Post A} (k : Step Store A) (go : CodeState → ℕ → Run) (variables : List Variable) (d : Declared) (p : ℕ) → AreNew variables (variables_of d.names) → AreFine d.names → length d.names + length variables ≤ x.setting.globals →
      ((left : ℕ) (s : State Store) (st : CodeState) (c : ℕ) (tr : Trace) (b : ℕ) → Holds (at_site x (code_declare_all x.fixed variables d)) left s st c → st.world ≡ traced x.world tr → c ≤ b → Keeps x P tr (b + p + 200 * length variables) (k s) (go st c)) →
      (left : ℕ) (s : State Store) (st : CodeState) (c : ℕ) (tr : Trace) (b : ℕ) → Holds (at_site x d) left s st c → st.world ≡ traced x.world tr → c ≤ b →
      Keeps x P tr (b + p) ((declare_all Store by_copying x.turns depth [] variables >> k) s) (on_run (run_list x.setting calls (declare_ops x variables d.code.next (length d.names)) st c) go)
  declares_then k go [] d p new fine few cont left s st c tr b h w le = keeps_given tt (λ _. k) s _ (keeps_more (omega arith) (cont left s st c tr b h w le))
  declares_then {A} {P} k go (y ∷ more) d p new fine few cont left s st c tr b h w le =
      let n = d.code.next in
      let word = length d.names in
      let q : List Op = declare_code x.fixed word n in
      let d1 : Declared = record { code = record { ops = d.code.ops ++ q; next = n + 1 }; names = record { name = y; word = word; at = n } ∷ d.names } in
      let D = declare_all Store by_copying x.turns depth [] more in
      let R : List Op = declare_ops x more (n + 1) (suc word) in
      let a = word_at x.setting word in
      let lt : word < x.setting.globals = omega (arith, few) in
      let st1 = set st n a in
      let r = run_list x.setting calls (unset_code x.fixed n) st1 (c + 7) in
      let fixed : HasFixed x.fixed n st1 = record { zero_below = h.fixed.zero_below; zero_is = set_below st.env n a x.fixed.zero h.fixed.zero_below ∙ h.fixed.zero_is; top_below = h.fixed.top_below; top_is = set_below st.env n a x.fixed.top h.fixed.top_below ∙ h.fixed.top_is } in
      let u : StoresWord a (stored_word Unset) st1 (c + 7) r = unset_runs x.setting calls x.fixed n n a st1 (c + 7) fixed (set_same st.env n a) (h.writable word lt) in
      let s1 : State Store = record s { store = assign_root s.store (Global y) Unset } in
      keeps_grouped (pay 2) (λ _. change (λ s. assign_root s (Global y) Unset) >> D) (λ _. k) s _ (keeps_paid 2 s ((change (λ s. assign_root s (Global y) Unset) >> D) >> k) _
      (keeps_grouped (change (λ s. assign_root s (Global y) Unset)) (λ _. D) (λ _. k) s _ (keeps_change (λ s. assign_root s (Global y) Unset) (D >> k) s _
      (keeps_is (ap (λ z. on_run z go) (runs_in_order x.setting calls q R st c ∙ ap (λ z. on_run z (run_list x.setting calls R)) (stores_then r u.how)))
      (subst (λ z. Keeps x P tr (b + p + factor * 2) ((D >> k) s1) (on_run (run_list x.setting calls R z r.cost) go)) (sym u.state)
      (keeps_more (omega arith) (declares_then k go more d1 (p + 200) new.1 (fine_more y n d.names new.0 fine) (omega (arith, few))
      (λ left2 s2 st2 c2 tr2 b2 h2 w2 le2. keeps_more (omega arith) (cont left2 s2 st2 c2 tr2 b2 h2 w2 le2))
      left s1 (declared_state x st n word) r.cost tr (b + 14) (declared_holds (at_site x d) left s st c r.cost n word y new.0 fine.below lt (omega arith) (let v = u.costs.begun in omega arith) h) w (let v = u.costs.bound in omega arith))))))))
