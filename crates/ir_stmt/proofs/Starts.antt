-- Declarations with and without a start.
use Rattle.std.proofs.Common.{◌≡◌, ℕ, ◌+◌, ◌*◌, ◌≤◌, Bool, true, false, List, [], ◌∷◌, ◌++◌, length, refl, sym, ◌∙◌, ap, subst, arith, append_assoc, Option, Some, None}
use Rattle.std.specs.Prelude.{◌||◌, not, ℤ}
use Rattle.std.specs.Str.{bytes_eq}
use Rattle.std.proofs.lemmas.Slice.Eq.{bytes_eq-Decides}
use Rattle.std.proofs.lemmas.List.{append-nil}
use Rattle.tu_base.specs.Trace.{Trace}
use Rattle.rv_image.specs.Streams.{traced}
use Rattle.ir_form.specs.declared.op.Op.{Op}
use Rattle.ir_form.specs.Cells.{with_word}
use Rattle.ir_form.specs.Plain.{Calls}
use Rattle.ir_form.specs.Meaning.{run_list}
use Rattle.ir_form.specs.State.{State as CodeState, next, on_run, on_how}
use Rattle.ir_code.specs.declared.code.Code.{Code}
use Rattle.ir_code.proofs.Running.{runs_in_order}
use Rattle.tu_token.specs.Rules.{r-expr}
use Rattle.tu_token.specs.Syntax.{Of}
use Rattle.tu_tree_meaning.specs.Steps.{State, Step, give, ◌>>=◌, ◌>>◌}
use Rattle.tu_tree_meaning.specs.Store.{Store, by_copying, assign_root}
use Rattle.tu_base.specs.Scalars.{is_int}
use Rattle.tu_tree_meaning.specs.Values.{Value, Int, Variable, Global}
use Rattle.tu_tree_meaning.specs.Interpreter.{Flow, Next, evaluate, declare_all, assign_all}
use Rattle.tu_value.specs.Words.{word_of_int}
use Rattle.tu_value.specs.Pieces.{store_code}
use Rattle.tu_value.specs.Meets.{StoresWord}
use Rattle.tu_value.specs.declared.pieces.Fixed.{Fixed}
use Rattle.tu_value.proofs.Leaves.{store_runs}
use Rattle.ir_build.specs.Does.{Does}
use Rattle.ir_build.specs.Keeps.{Named, Site, word_at, Holds, Keeps, variables_of}
use Rattle.ir_build.specs.Code.{named, code_expr}
use Rattle.ir_build.specs.Built.{is_declared, is_built}
use Rattle.ir_build.proofs.Words.{passes_next, keeps_flow, keeps_is, keeps_more, keeps_give, keeps_grouped, keeps_change}
use Rattle.ir_build.proofs.States.{find, fixed_above, lies_of}
use Rattle.ir_build.proofs.Values.{then_none}
use Rattle.ir_build.proofs.Conditions.{expressions_do}
use Rattle.ir_build.proofs.Forms.{no_so, both}
use Rattle.ir_stmt.specs.Built.{are_new, with_names}
use Rattle.ir_stmt.specs.Code.{Declared, declare_code, declare_all as code_declare_all, store_all, stored, started}
use Rattle.ir_stmt.specs.Leaves.{GoesOn, Leaves}
use Rattle.ir_stmt.proofs.Stores.{IsOrdered, stored_holds}
use Rattle.ir_stmt.proofs.Items.{at_site, keeps_site, IsNew, AreNew, AreFine, lie_more, declare_ops, declare_is, declare_next, declare_fine, declares_then, stores_then}
use Rattle.ir_stmt.proofs.Wider.{AreDeclared, built_wider, names_wider, names_declared}

-- a name that is not among those declared is new
new_of : (y : Variable) (declared : List Variable) → not (is_declared declared y) ≡ true → IsNew y declared
new_of y [] e = tt
new_of y (z ∷ declared) e = by (bytes_eq y z) refl e (new_of y declared)
  where
    by : (b : Bool) → bytes_eq y z ≡ b → not (b || is_declared declared y) ≡ true → (not (is_declared declared y) ≡ true → IsNew y declared) → IsNew y (z ∷ declared)
    by true is e rest = no_so e
    by false is e rest = (λ same. no_so (sym is ∙ (bytes_eq-Decides y z).1 (sym same)), rest e)

pub all_new : (variables declared : List Variable) → are_new declared variables ≡ true → AreNew variables declared
all_new [] declared e = tt
all_new (y ∷ more) declared e = let q = both (not (is_declared declared y)) (are_new (y ∷ declared) more) e in (new_of y declared q.0, all_new more (y ∷ declared) q.1)

-- a variable more
abbrev declared_with : Fixed → Variable → Declared → Declared
declared_with k y d = record { code = record { ops = d.code.ops ++ declare_code k (length d.names) d.code.next; next = d.code.next + 1 }; names = record { name = y; word = length d.names; at = d.code.next } ∷ d.names }

declare_names : (k : Fixed) (variables : List Variable) (d : Declared) → variables_of (code_declare_all k variables d).names ≡ with_names (variables_of d.names) variables
declare_names k [] d = refl
declare_names k (y ∷ more) d = declare_names k more (declared_with k y d)

declare_length : (k : Fixed) (variables : List Variable) (d : Declared) → length (code_declare_all k variables d).names ≡ length d.names + length variables
declare_length k [] d = omega arith
declare_length k (y ∷ more) d = let q = declare_length k more (declared_with k y d) in omega arith

-- a site whose bound is higher
pub holds_higher : {x : Site} {left : ℕ} {s : State Store} {st : CodeState} {c : ℕ} (low : ℕ) → x.low ≤ low → Holds x left s st c → Holds (record x { low = low }) left s st c
holds_higher {x} {left} {s} {st} low le h = record {
  fixed = fixed_above x le h.fixed;
  variables = lie_more x (record x { low = low }) s.store st st refl refl le (λ j lt. refl) x.names h.variables;
  values = h.values;
  writable = h.writable;
  turns = h.turns;
  few = h.few;
  others = h.others;
  rooms = h.rooms;
}

-- no more turns are left than there are
pub holds_all : {x : Site} {left : ℕ} {s : State Store} {st : CodeState} {c : ℕ} → Holds x left s st c → Holds x x.turns s st c
holds_all h = record {
  fixed = h.fixed;
  variables = h.variables;
  values = h.values;
  writable = h.writable;
  turns = h.turns;
  few = let q = h.turns in omega arith;
  others = h.others;
  rooms = h.rooms;
}

-- the operations that store a value in each of the variables
abbrev store_op : Option Named → (value : ℕ) → List Op
store_op None value = []
store_op (Some n) value = store_code n.at value

abbrev store_ops : List Named → (value : ℕ) → List Variable → List Op
store_ops names value [] = []
store_ops names value (y ∷ more) = store_op (named y names) value ++ store_ops names value more

stored_is : (k : Fixed) (names : List Named) (code : Code) (n : Option Named) (value : ℕ) → (stored k names code n value).ops ≡ code.ops ++ store_op n value
stored_is k names code None value = sym (append-nil code.ops)
stored_is k names code (Some n) value = refl

stored_next : (k : Fixed) (names : List Named) (code : Code) (n : Option Named) (value : ℕ) → code.next ≤ (stored k names code n value).next
stored_next k names code None value = omega arith
stored_next k names code (Some n) value = omega arith

store_is : (k : Fixed) (names : List Named) (value : ℕ) (variables : List Variable) (code : Code) → (store_all k names value variables code).ops ≡ code.ops ++ store_ops names value variables
store_is k names value [] code = sym (append-nil code.ops)
store_is k names value (y ∷ more) code =
    let p = store_op (named y names) value in let q = store_ops names value more in
    store_is k names value more (stored k names code (named y names) value) ∙ ap (λ z. z ++ q) (stored_is k names code (named y names) value) ∙ append_assoc code.ops p q

store_next : (k : Fixed) (names : List Named) (value : ℕ) (variables : List Variable) (code : Code) → code.next ≤ (store_all k names value variables code).next
store_next k names value [] code = omega arith
store_next k names value (y ∷ more) code =
    let p = store_next k names value more (stored k names code (named y names) value) in let q = stored_next k names code (named y names) value in omega arith

module _ (y : Site) (calls : Calls) (depth : ℕ) (ordered : IsOrdered y.names) where
  -- an int goes to each of the variables
  stores_keep : (left value : ℕ) (z : ℤ) → is_int z ≡ true → (variables : List Variable) → AreDeclared (variables_of y.names) variables → (s : State Store) (st : CodeState) (c : ℕ) (tr : Trace) (b : ℕ) → Holds y left s st c → st.env value ≡ Some (word_of_int z) → st.world ≡ traced y.world tr → c ≤ b →
      Keeps y (GoesOn y left) tr (b + 7 * length variables) (assign_all Store by_copying y.turns depth [] (Int z) variables s) (run_list y.setting calls (store_ops y.names value variables) st c)
  stores_keep left value z small [] all s st c tr b h e w le = keeps_give tt s _ (record { way = refl; holds = h }) w (omega arith)
  stores_keep left value z small (v ∷ more) all s st c tr b h e w le =
      let f = find v y.names all.0 in
      let l = lies_of y s.store st v f.it y.names f.is h.variables in
      let a = word_at y.setting f.it.word in
      let p : List Op = store_code f.it.at value in
      let R : List Op = store_ops y.names value more in
      let r = run_list y.setting calls p st c in
      let q : StoresWord a (word_of_int z) st c r = store_runs y.setting calls f.it.at value a (word_of_int z) st c l.address e (h.writable f.it.word l.inside) in
      let M = assign_all Store by_copying y.turns depth [] (Int z) more in
      let s1 : State Store = record s { store = assign_root s.store (Global v) (Int z) } in
      let st1 : CodeState = record st { cells = with_word st.cells a (word_of_int z) } in
      let h1 : Holds y left s1 st1 r.cost = subst (λ n. Holds y left (record s { store = assign_root s.store (Global n) (Int z) }) st1 r.cost) (sym f.name) (stored_holds y left s st c r.cost v f.it (Int z) ordered f.is small q.costs.begun h) in
      keeps_change (λ s. assign_root s (Global v) (Int z)) M s _
      (keeps_is (ap (λ n. run_list y.setting calls (store_op n value ++ R) st c) f.is ∙ runs_in_order y.setting calls p R st c ∙ ap (λ u. on_run u (run_list y.setting calls R)) (stores_then r q.how))
      (subst (λ u. Keeps y (GoesOn y left) tr (b + 7 * length (v ∷ more)) (M s1) (run_list y.setting calls R u r.cost)) (sym q.state)
      (keeps_more (omega arith) (stores_keep left value z small more all.1 s1 st1 r.cost tr (b + 7) h1 e w (let u = q.costs.bound in omega arith)))))

-- Code that does an item, in its place behind the code so far, with the variables that are declared behind it.
pub record ItemDoes (x : Site) (calls : Calls) (m : Step Store Flow) (declared : List Variable) (d made : Declared) : Type 0 where
  pub ops : List Op
  pub is : made.code.ops ≡ d.code.ops ++ ops
  pub more : d.code.next ≤ made.code.next
  pub longer : length d.names ≤ length made.names
  pub fine : AreFine made.names
  pub names : variables_of made.names ≡ declared
  pub keeps : length made.names ≤ x.setting.globals → (s : State Store) (st : CodeState) (c : ℕ) (tr : Trace) (b : ℕ) → Holds (at_site x d) x.turns s st c → st.world ≡ traced x.world tr → c ≤ b →
      Keeps x (Leaves (at_site x made) x.turns false 0) tr b (m s) (run_list x.setting calls ops st c)

module _ (x : Site) (calls : Calls) (depth : ℕ) where
  pub declaration_does : (variables : List Variable) (d : Declared) → are_new (variables_of d.names) variables ≡ true → AreFine d.names →
      ItemDoes x calls (declare_all Store by_copying x.turns depth [] variables >> give Next) (with_names (variables_of d.names) variables) d (code_declare_all x.fixed variables d)
  declaration_does variables d fresh fine =
      let made = code_declare_all x.fixed variables d in
      let new = all_new variables (variables_of d.names) fresh in
      let n = declare_length x.fixed variables d in
      let ops = declare_ops x variables d.code.next (length d.names) in
      record {
        ops = ops;
        is = declare_is x variables d;
        more = declare_next x variables d;
        longer = omega arith;
        fine = declare_fine x variables d new fine;
        names = declare_names x.fixed variables d;
        keeps = λ few s st c tr b h w le. keeps_is (sym (then_none (run_list x.setting calls ops st c))) (keeps_more (omega arith)
            (declares_then x calls depth {P = Leaves (at_site x made) x.turns false 0} (give Next) next variables d 0 new fine (omega arith)
            (λ left s1 st1 c1 tr1 b1 h1 w1 le1. keeps_give Next s1 _ (record { way = refl; holds = holds_all h1 }) w1 (omega arith)) x.turns s st c tr b h w le));
      }

  -- a start is evaluated, and goes to each of the variables
  start_keeps : (line : ℕ) (variables : List Variable) (e : Of r-expr) (d : Declared) (a : Does (at_site x d) calls (evaluate Store by_copying x.turns depth [] line e) d.code (code_expr x.fixed d.names line e d.code)) → IsOrdered d.names → AreDeclared (variables_of d.names) variables →
      (left : ℕ) (s : State Store) (st : CodeState) (c : ℕ) (tr : Trace) (b : ℕ) → Holds (at_site x d) left s st c → st.world ≡ traced x.world tr → c ≤ b →
      Keeps x (Leaves (at_site x (started x.fixed line variables e d)) x.turns false 0) tr (b + 7 * length variables) (((evaluate Store by_copying x.turns depth [] line e >>= λ v. assign_all Store by_copying x.turns depth [] v variables) >> give Next) s)
      (run_list x.setting calls (a.ops ++ store_ops d.names (code_expr x.fixed d.names line e d.code).value variables) st c)
  start_keeps line variables e d a ordered all left s st c tr b h w le =
      let y : Site = at_site x d in
      let made = code_expr x.fixed d.names line e d.code in
      let done = started x.fixed line variables e d in
      let R : List Op = store_ops d.names made.value variables in
      let n = 7 * length variables in
      let E = evaluate Store by_copying x.turns depth [] line e in
      let A : Value → Step Store (Unit {0}) = λ v. assign_all Store by_copying x.turns depth [] v variables in
      let more : d.code.next ≤ done.code.next = let p = a.more in let q = store_next x.fixed d.names made.value variables made.code in omega arith in
      keeps_site refl refl (keeps_grouped {x = y} {Q = Leaves (at_site x done) x.turns false 0} E A (λ _. give Next) s _
      (keeps_is (runs_in_order x.setting calls a.ops R st c)
      (keeps_flow {x = y} {b = b} n s E (λ v. A v >> give Next) (run_list x.setting calls a.ops st c) (λ how st c. on_how how st c (run_list x.setting calls R)) (passes_next (run_list x.setting calls R)) (a.keeps left s st c tr b h w le)
      (λ v s1 how1 st1 c1 tr1 b1 g w1 le1.
      subst (λ z. Keeps y (Leaves (at_site x done) x.turns false 0) tr1 (b1 + n) ((A v >> give Next) s1) (on_how z st1 c1 (run_list x.setting calls R))) (sym g.goes)
      (subst (λ z. Keeps y (Leaves (at_site x done) x.turns false 0) tr1 (b1 + n) ((A z >> give Next) s1) (run_list x.setting calls R st1 c1)) (sym g.is)
      (keeps_is (sym (then_none (run_list x.setting calls R st1 c1)))
      (keeps_more (omega arith) (keeps_flow {x = y} {b = b1 + n} 0 s1 (A (Int g.int)) (λ _. give Next) (run_list x.setting calls R st1 c1) (λ how st c. on_how how st c next) (passes_next next)
      (stores_keep y calls depth ordered left made.value g.int g.small variables all s1 st1 c1 tr1 b1 g.holds g.result w1 le1)
      (λ u s2 how2 st2 c2 tr2 b2 g2 w2 le2.
      subst (λ z. Keeps y (Leaves (at_site x done) x.turns false 0) tr2 (b2 + 0) (give Next s2) (on_how z st2 c2 next)) (sym g2.way)
      (keeps_give Next s2 _ (record { way = refl; holds = holds_all (holds_higher done.code.next more g2.holds) }) w2 (omega arith)))))))))))

  pub started_does : (line : ℕ) (variables : List Variable) (e : Of r-expr) (d : Declared) → are_new (variables_of d.names) variables ≡ true → is_built (variables_of d.names) e ≡ true → AreFine d.names →
      ItemDoes x calls ((declare_all Store by_copying x.turns depth [] variables >> (evaluate Store by_copying x.turns depth [] line e >>= λ v. assign_all Store by_copying x.turns depth [] v variables)) >> give Next) (with_names (variables_of d.names) variables) d (started x.fixed line variables e (code_declare_all x.fixed variables d))
  started_does line variables e d fresh built fine =
      let D = code_declare_all x.fixed variables d in
      let made = code_expr x.fixed D.names line e D.code in
      let done = started x.fixed line variables e D in
      let new = all_new variables (variables_of d.names) fresh in
      let fine_all = declare_fine x variables d new fine in
      let names = declare_names x.fixed variables d in
      let n = declare_length x.fixed variables d in
      let all : AreDeclared (variables_of D.names) variables = subst (λ z. AreDeclared z variables) (sym names) (names_declared variables (variables_of d.names)) in
      let wide : is_built (variables_of D.names) e ≡ true = subst (λ z. is_built z e ≡ true) (sym names) (built_wider (variables_of d.names) (with_names (variables_of d.names) variables) (names_wider variables (variables_of d.names)) e built) in
      let a : Does (at_site x D) calls (evaluate Store by_copying x.turns depth [] line e) D.code made = expressions_do (at_site x D) calls depth line e wide D.code (omega arith) in
      let first : List Op = declare_ops x variables d.code.next (length d.names) in
      let S : List Op = store_ops D.names made.value variables in
      let rest : List Op = a.ops ++ S in
      let E : Step Store (Unit {0}) = evaluate Store by_copying x.turns depth [] line e >>= λ v. assign_all Store by_copying x.turns depth [] v variables in
      record {
        ops = first ++ rest;
        is = store_is x.fixed D.names made.value variables made.code ∙ ap (λ z. z ++ S) a.is ∙ append_assoc D.code.ops a.ops S ∙ ap (λ z. z ++ rest) (declare_is x variables d) ∙ append_assoc d.code.ops first rest;
        more = let p = a.more in let q = declare_next x variables d in let r = store_next x.fixed D.names made.value variables made.code in omega arith;
        longer = omega arith;
        fine = fine_all;
        names = names;
        keeps = λ few s st c tr b h w le. keeps_grouped (declare_all Store by_copying x.turns depth [] variables) (λ _. E) (λ _. give Next) s _
            (keeps_is (runs_in_order x.setting calls first rest st c)
            (keeps_more (omega arith) (declares_then x calls depth {P = Leaves (at_site x done) x.turns false 0} (E >> give Next) (run_list x.setting calls rest) variables d 0 new fine (omega arith)
            (λ left s1 st1 c1 tr1 b1 h1 w1 le1. keeps_more (omega arith) (start_keeps line variables e D a fine_all.ordered all left s1 st1 c1 tr1 b1 h1 w1 le1)) x.turns s st c tr b h w le)));
      }
