-- The items of a program, one after the other.
use Rattle.std.proofs.Common.{◌≡◌, ℕ, ◌+◌, ◌≤◌, true, false, List, [], ◌++◌, length, refl, sym, ◌∙◌, ap, subst, arith, append_assoc}
use Rattle.std.proofs.lemmas.List.{append-nil}
use Rattle.grammar.specs.Description.{rule}
use Rattle.grammar.specs.Tree.{n-rule, n-right}
use Rattle.tu_base.specs.Trace.{Trace}
use Rattle.rv_image.specs.Streams.{traced}
use Rattle.ir_form.specs.declared.op.Op.{Op}
use Rattle.ir_form.specs.Plain.{Calls}
use Rattle.ir_form.specs.Meaning.{run_list}
use Rattle.ir_form.specs.State.{State as CodeState, How, Run, on_how}
use Rattle.ir_code.proofs.Running.{runs_in_order}
use Rattle.tu_token.specs.Rules.{r-item, r-var, r-statement, many}
use Rattle.tu_token.specs.Syntax.{Of}
use Rattle.tu_expr.specs.Parts.{Part}
use Rattle.tu_expr.specs.Forms.{Present, Absent, More, NoMore, Behind}
use Rattle.tu_tree.specs.Forms.{ItemConst, ItemVar, ItemType, ItemSubprogram, ItemModule, ItemStatement, StartedDeclaration, TypedDeclaration, CollectionDeclaration, Spec, IntType, ValueStart, Separated}
use Rattle.tu_tree.specs.Parts.{separated}
use Rattle.tu_tree_meaning.specs.Steps.{Added, Outcome, Done, Raised, Going, State, Step, give, ◌>>=◌, ◌>>◌}
use Rattle.tu_tree_meaning.specs.Store.{Store, by_copying}
use Rattle.tu_tree_meaning.specs.Values.{Variable}
use Rattle.tu_tree_meaning.specs.Interpreter.{Flow, Next, Exits, only_next, names_of, execute, execute_var, execute_item, execute_items}
use Rattle.ir_build.specs.Keeps.{Site, Holds, Post, Ends, Keeps, variables_of}
use Rattle.ir_build.specs.Built.{is_built}
use Rattle.ir_build.proofs.Words.{passes_next, keeps_flow, keeps_is, keeps_more, keeps_give}
use Rattle.ir_build.proofs.Forms.{no_so, both}
use Rattle.ir_stmt.specs.Built.{are_new, with_names, is_statement_built, is_var_built, is_item_built, are_items_built, declared_after, names_in as variables_in}
use Rattle.ir_stmt.specs.Code.{Declared, code_statement, code_var, code_item, code_items}
use Rattle.ir_stmt.specs.Leaves.{GoesOn, Leaves}
use Rattle.ir_stmt.proofs.Shown.{RunTime}
use Rattle.ir_stmt.proofs.Simple.{StatementDoes}
use Rattle.ir_stmt.proofs.Levels.{statement_does}
use Rattle.ir_stmt.proofs.Items.{at_site, keeps_site, AreFine}
use Rattle.ir_stmt.proofs.Starts.{holds_higher, ItemDoes, declaration_does, started_does}

ends_post : {A : Type 0} (P Q : Post A) (o : Outcome Store A) {how : How} {st : CodeState} {c : ℕ} → ((a : A) (s : State Store) → P a s how st c → Q a s how st c) → Ends P o how st c → Ends Q o how st c
ends_post P Q (Done a s) f h = f a s h
ends_post P Q (Raised kind line s) f h = h
ends_post P Q (Going s) f h = h

-- less may be said of how the code ends
pub keeps_post : {x : Site} {A : Type 0} {P Q : Post A} {tr : Trace} {b : ℕ} {r : Added × Outcome Store A} {f : Run} → ((a : A) (s : State Store) → P a s f.how f.state f.cost → Q a s f.how f.state f.cost) → Keeps x P tr b r f → Keeps x Q tr b r f
keeps_post {P = P} {Q = Q} {r = r} g h = record { met = λ le. let m = h.met le in record { world = m.world; cost = m.cost; ends = ends_post P Q r.1 g m.ends } }

-- Code that does items, in its place behind the code so far.
pub record ItemsDo (x : Site) (calls : Calls) (m : Step Store (Unit {0})) (d made : Declared) : Type 0 where
  pub ops : List Op
  pub is : made.code.ops ≡ d.code.ops ++ ops
  pub longer : length d.names ≤ length made.names
  pub keeps : length made.names ≤ x.setting.globals → (s : State Store) (st : CodeState) (c : ℕ) (tr : Trace) (b : ℕ) → Holds (at_site x d) x.turns s st c → st.world ≡ traced x.world tr → c ≤ b →
      Keeps x (GoesOn (at_site x made) x.turns) tr b (m s) (run_list x.setting calls ops st c)

module _ {x : Site} {calls : Calls} where
  -- an item, and those behind it; no loop is around them that could be left
  items_in_order : {m : Step Store Flow} {n : Step Store (Unit {0})} {declared : List Variable} {d middle made : Declared} → ItemDoes x calls m declared d middle → ItemsDo x calls n middle made → ItemsDo x calls (m >>= λ flow. only_next flow n) d made
  items_in_order {m} {n} {declared} {d} {middle} {made} a e = record {
    ops = a.ops ++ e.ops;
    is = e.is ∙ ap (λ z. z ++ e.ops) a.is ∙ append_assoc d.code.ops a.ops e.ops;
    longer = let p = a.longer in let q = e.longer in omega arith;
    keeps = λ few s st c tr b h w le. keeps_is (runs_in_order x.setting calls a.ops e.ops st c)
        (keeps_more (omega arith) (keeps_flow {b = b} 0 s m (λ flow. only_next flow n) (run_list x.setting calls a.ops st c) (λ how st c. on_how how st c (run_list x.setting calls e.ops)) (passes_next (run_list x.setting calls e.ops)) (a.keeps (let p = e.longer in omega arith) s st c tr b h w le)
        (λ flow s1 how1 st1 c1 tr1 b1 g w1 le1. goes few flow s1 how1 st1 c1 tr1 b1 g w1 le1)));
  }
    where
      goes : length made.names ≤ x.setting.globals → (flow : Flow) (s : State Store) (how : How) (st : CodeState) (c : ℕ) (tr : Trace) (b : ℕ) → Leaves (at_site x middle) x.turns false 0 flow s how st c → st.world ≡ traced x.world tr → c ≤ b →
          Keeps x (GoesOn (at_site x made) x.turns) tr (b + 0) (only_next flow n s) (on_how how st c (run_list x.setting calls e.ops))
      goes few Next s how st c tr b g w le = subst (λ z. Keeps x (GoesOn (at_site x made) x.turns) tr (b + 0) (n s) (on_how z st c (run_list x.setting calls e.ops))) (sym g.way) (keeps_more (omega arith) (e.keeps few s st c tr b g.holds w le))
      goes few Exits s how st c tr b g w le = no_so g.way.1

module _ (x : Site) (calls : Calls) (rt : RunTime x calls) (depth : ℕ) (enough : x.turns ≤ depth) where
  statement_item_does : (s : Of r-statement) (d : Declared) → is_statement_built (variables_of d.names) false s ≡ true → AreFine d.names →
      ItemDoes x calls (execute Store by_copying x.turns depth [] s) (variables_of d.names) d (record { code = code_statement x.fixed d.names 0 s d.code; names = d.names })
  statement_item_does s d built fine =
      let y : Site = at_site x d in
      let made : Declared = record { code = code_statement x.fixed d.names 0 s d.code; names = d.names } in
      let a : StatementDoes y calls false 0 (execute Store by_copying x.turns depth [] s) d.code made.code = statement_does y calls (record { int = rt.int; line = rt.line }) fine.ordered depth enough false 0 s built d.code (omega arith) in
      record {
        ops = a.ops;
        is = a.is;
        more = a.more;
        longer = omega arith;
        fine = fine;
        names = refl;
        keeps = λ few s st c tr b h w le. keeps_site refl refl (keeps_post {x = y} {P = Leaves y x.turns false 0} (λ flow s1 g. record { way = g.way; holds = holds_higher made.code.next a.more g.holds }) (a.keeps x.turns s st c tr b h w le));
      }

  var_does : (v : Of r-var) (d : Declared) → is_var_built (variables_of d.names) v ≡ true → AreFine d.names → ItemDoes x calls (execute_var Store by_copying x.turns depth [] v >> give Next) (with_names (variables_of d.names) (variables_in v)) d (code_var x.fixed v d)
  var_does (StartedDeclaration m word names sign e) d b fine =
      let q = both (are_new (variables_of d.names) (names_of names)) (is_built (variables_of d.names) e) b in started_does x calls depth m.line (names_of names) e d q.0 q.1 fine
  var_does (TypedDeclaration m word names colon (Spec at NoMore (IntType base int)) Absent) d b fine = declaration_does x calls depth (names_of names) d b fine
  var_does (TypedDeclaration m word names colon (Spec at NoMore (IntType base int)) (Present (Behind sign (ValueStart start e)))) d b fine =
      let q = both (are_new (variables_of d.names) (names_of names)) (is_built (variables_of d.names) e) b in started_does x calls depth m.line (names_of names) e d q.0 q.1 fine
  var_does (TypedDeclaration m word names colon (Spec at NoMore (IntType base int)) (Present (Behind sign (n-rule start (n-right z))))) d b fine = no_so b
  var_does (TypedDeclaration m word names colon (Spec at NoMore (n-rule base (n-right z))) start) d b fine = no_so b
  var_does (TypedDeclaration m word names colon (Spec at (More z zs) base) start) d b fine = no_so b
  var_does (CollectionDeclaration m word names colon collection of spec) d b fine = no_so b

  item_does : (i : Of r-item) (d : Declared) → is_item_built (variables_of d.names) i ≡ true → AreFine d.names → ItemDoes x calls (execute_item Store by_copying x.turns depth [] i) (declared_after (variables_of d.names) i) d (code_item x.fixed i d)
  item_does (ItemVar m v) d b fine = var_does v d b fine
  item_does (ItemStatement m s) d b fine = statement_item_does s d b fine
  item_does (ItemConst m z) d b fine = no_so b
  item_does (ItemType m z) d b fine = no_so b
  item_does (ItemSubprogram m z) d b fine = no_so b
  item_does (ItemModule m z) d b fine = no_so b

  pub items_do : (items : Part (many (separated (rule r-item)))) (d : Declared) → are_items_built (variables_of d.names) items ≡ true → AreFine d.names → ItemsDo x calls (execute_items Store by_copying x.turns depth [] items) d (code_items x.fixed items d)
  items_do NoMore d b fine = record { ops = []; is = sym (append-nil d.code.ops); longer = omega arith; keeps = λ few s st c tr b h w le. keeps_give tt s _ (record { way = refl; holds = h }) w le }
  items_do (More (Separated item semicolon) more) d b fine =
      let q = both (is_item_built (variables_of d.names) item) (are_items_built (declared_after (variables_of d.names) item) more) b in
      let a = item_does item d q.0 fine in
      items_in_order a (items_do more (code_item x.fixed item d) (subst (λ z. are_items_built z more ≡ true) (sym a.names) q.1) a.fine)
