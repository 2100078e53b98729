-- `put`.
use Rattle.std.proofs.Common.{◌≡◌, ℕ, suc, ◌+◌, ◌-◌, ◌*◌, ◌<◌, ◌≤◌, Bool, true, false, List, [], ◌∷◌, ◌++◌, length, map, refl, sym, ◌∙◌, ap, subst, arith, append_assoc, Some}
use Rattle.std.specs.Prelude.{if◌then◌else◌, nat_lt, ℤ, pos, negsuc, unsigned_abs}
use Rattle.std.specs.Int.{w32, cast_unsigned}
use Rattle.std.specs.Fmt.{signed_decimal}
use Rattle.std.proofs.lemmas.List.{append-nil}
use Rattle.std.proofs.lemmas.Bool.Decides.{nat_tests}
use Rattle.tu_base.specs.Trace.{Trace, Put as put_byte}
use Rattle.tu_base.specs.declared.kind.Kind.TheVariants as kind
use Rattle.rv_image.specs.Streams.{traced}
use Rattle.rv_isa.specs.declared.instr.Relation.TheVariants.{LessUnsigned}
use Rattle.ir_form.specs.declared.op.Op.{Op}
use Rattle.ir_form.specs.Plain.{Calls}
use Rattle.ir_form.specs.Meaning.{run_list}
use Rattle.ir_form.specs.State.{State as CodeState, next, on_run, on_how}
use Rattle.ir_code.specs.Pieces.{call, constant, raise_unless}
use Rattle.ir_code.specs.declared.code.Code.{Code}
use Rattle.ir_code.proofs.Running.{runs_in_order}
use Rattle.ir_code.proofs.Steps.{set, set_same, set_below, none, stops, ◌▸◌, ◌▹◌, constant_goes, check_goes, check_stops}
use Rattle.tu_tree_meaning.specs.Interpreter.{Flow, Next, execute_simple, evaluate, show, show_more, end_line, is_width, width_of, put, put_value}
use Rattle.grammar.specs.Description.{rule}
use Rattle.tu_token.specs.declared.class.Class.TheVariants.{SignComma, SignRange, WordPut}
use Rattle.tu_token.specs.Rules.{r-shown, ◌⨟◌, many, maybe, t as lexeme}
use Rattle.tu_expr.specs.Parts.{Part}
use Rattle.tu_expr.specs.Forms.{Present, Absent, More, NoMore, Behind, Listed}
use Rattle.tu_base.specs.Scalars.{is_int}
use Rattle.tu_tree_meaning.specs.Steps.{State, Step, give, raise, pay, happen, ◌>>=◌, ◌>>◌}
use Rattle.tu_tree_meaning.specs.Store.{Store, by_copying}
use Rattle.tu_tree_meaning.specs.Values.{Value, Int, Variable}
use Rattle.tu_value.specs.Meets.{HasInt}
use Rattle.tu_value.specs.Pieces.{number_code}
use Rattle.tu_value.specs.Words.{word_of_int}
use Rattle.tu_value.proofs.Leaves.{number_is_given}
use Rattle.rt_stream.specs.Laws.{Puts, padded, put_int_rounds, put_int_most, put_line_most, HasRoom}
use Rattle.rt_stream.specs.Routines.{put_int_routine, put_line_routine}
use Rattle.ir_build.specs.Keeps.{factor, Named, Site, Holds, Keeps, Met}
use Rattle.ir_build.specs.Code.{code_expr}
use Rattle.ir_build.proofs.Conditions.{expressions_do}
use Rattle.ir_build.proofs.Forms.{both}
use Rattle.ir_build.proofs.Words.{passes_next, keeps_flow, keeps_is, keeps_more, keeps_paid, keeps_give, keeps_given, keeps_grouped, keeps_raise_then}
use Rattle.ir_build.proofs.States.{holds_still, fixed_above}
use Rattle.ir_build.proofs.Values.{then_none}
use Rattle.ir_stmt.specs.Code.{put_int, put_line, width_code, code_shown, code_shown_more, code_end, code_simple}
use Rattle.ir_stmt.specs.Built.{is_shown_built, are_shown_built}
use Rattle.ir_build.specs.Built.{is_built}
use Rattle.tu_tree.specs.Forms.{Shown, Simple, Put}
use Rattle.grammar.specs.Tree.{Mark}
use Rattle.ir_stmt.proofs.Simple.{StatementDoes}
use Rattle.tu_token.specs.Syntax.{Of}
use Rattle.ir_stmt.specs.Leaves.{GoesOn, Leaves}
use Rattle.ir_stmt.proofs.Puts.{puts_holds}

-- what calls of the routines of the run time do
pub record RunTime (x : Site) (calls : Calls) : Type 0 where
  pub int : (a b line : ℕ) (z : ℤ) (width : ℕ) (st : CodeState) (c : ℕ) → st.env a ≡ Some (word_of_int z) → st.env b ≡ Some width → is_int z ≡ true → width ≤ 255 → HasRoom put_int_routine st → put_int_rounds ≤ st.others →
      let bytes = padded width (signed_decimal z) in
      Puts x.setting put_int_routine bytes (put_int_most bytes) st c (calls put_int (a ∷ b ∷ []) [] line st c)
  pub line : (line : ℕ) (st : CodeState) (c : ℕ) → HasRoom put_line_routine st → Puts x.setting put_line_routine (10 ∷ []) put_line_most st c (calls put_line [] [] line st c)

plus_none : (n : ℕ) → n + 0 ≡ n
plus_none n = omega arith

module _ (x : Site) (calls : Calls) (rt : RunTime x calls) where
  -- an int is put
  pub int_keeps : (left a w line : ℕ) (z : ℤ) (width : ℕ) (s : State Store) (st : CodeState) (c : ℕ) (tr : Trace) (b : ℕ) → Holds x left s st c → st.world ≡ traced x.world tr → c ≤ b + 60 → is_int z ≡ true → st.env a ≡ Some (word_of_int z) → st.env w ≡ Some width → width ≤ 255 →
      Keeps x (GoesOn x left) tr b (put_value (Int z) width s) (run_list x.setting calls (call put_int (a ∷ w ∷ []) line ∷ []) st c)
  unfolding ◌>>=◌ pay happen
  int_keeps left a w line z width s st c tr b h wd le small ea ew lw = record {
    met = λ enough.
        let bytes = padded width (signed_decimal z) in
        let n = length bytes in
        let en : b + factor * (32 + (n + 0)) ≤ x.most = enough in
        let r = calls put_int (a ∷ w ∷ []) [] line st (c + 104) in
        let o = h.others in let rm = h.rooms in
        let p : Puts x.setting put_int_routine bytes (put_int_most bytes) st (c + 104) r = rt.int a w line z width st (c + 104) ea ew small lw (omega arith) (omega arith) in
        subst (λ f. Met x (GoesOn x left) tr b (put_value (Int z) width s).0 (put_value (Int z) width s).1 f) (sym (then_none r)) (record {
          world = p.world ∙ ap (λ v. traced v (map put_byte bytes)) wd ∙ ap (λ t. record x.world { trace = t }) (append_assoc x.world.trace tr (map put_byte bytes));
          cost = let q = p.bound in let k : r.cost ≤ b + factor * (32 + (n + 0)) + 0 = omega arith in k;
          ends = record { way = p.how; holds = puts_holds x left s put_int_routine bytes (put_int_most bytes) st (c + 104) r (omega arith) (later (c + 104) (omega arith) h) p };
        });
  }
    where
      later : (c' : ℕ) → c ≤ c' → Holds x left s st c → Holds x left s st c'
      later c' lc h = holds_still st.env (λ j lt. refl) lc h

  -- the end of a line
  pub line_keeps : (left line : ℕ) (s : State Store) (st : CodeState) (c : ℕ) (tr : Trace) (b : ℕ) → Holds x left s st c → st.world ≡ traced x.world tr → c ≤ b →
      Keeps x (GoesOn x left) tr b (put (10 ∷ []) s) (run_list x.setting calls (call put_line [] line ∷ []) st c)
  unfolding ◌>>=◌ pay happen
  line_keeps left line s st c tr b h wd le = record {
    met = λ enough.
        let r = calls put_line [] [] line st (c + 90) in
        let o = h.others in let rm = h.rooms in
        let p : Puts x.setting put_line_routine (10 ∷ []) put_line_most st (c + 90) r = rt.line line st (c + 90) (omega arith) in
        subst (λ f. Met x (GoesOn x left) tr b (put (10 ∷ []) s).0 (put (10 ∷ []) s).1 f) (sym (then_none r)) (record {
          world = p.world ∙ ap (λ v. traced v (map put_byte (10 ∷ []))) wd ∙ ap (λ t. record x.world { trace = t }) (append_assoc x.world.trace tr (map put_byte (10 ∷ [])));
          cost = let q = p.bound in let k : r.cost ≤ b + factor * (1 + 0) + 0 = omega arith in k;
          ends = record { way = p.how; holds = puts_holds x left s put_line_routine (10 ∷ []) put_line_most st (c + 90) r (omega arith) (later (c + 90) (omega arith) h) p };
        });
  }
    where
      later : (c' : ℕ) → c ≤ c' → Holds x left s st c → Holds x left s st c'
      later c' lc h = holds_still st.env (λ j lt. refl) lc h

-- a width is tested on its number as a word of the machine
number_tells : (z : ℤ) → is_int z ≡ true → (is_width z ≡ nat_lt (cast_unsigned w32 z) 256) × (nat_lt (cast_unsigned w32 z) 256 ≡ true → cast_unsigned w32 z ≡ unsigned_abs z)
number_tells (pos n) e = (grind (arith, nat_tests), λ t. refl)
number_tells (negsuc n) e =
    let le : suc n ≤ 2147483647 = grind (arith, nat_tests, e) in
    let large : nat_lt (4294967296 - suc n) 256 ≡ false = grind (arith, nat_tests, le) in
    (sym large, λ t. absurd (let q : false ≡ true = sym large ∙ t in grind (arith, q)))

module _ (x : Site) (calls : Calls) (rt : RunTime x calls) where
  -- a width is tested, and then an int is put
  width_fits : (left a value n line : ℕ) (z y : ℤ) (fits : Bool) (s : State Store) (st : CodeState) (c : ℕ) (tr : Trace) (b : ℕ) → let w = cast_unsigned w32 y in nat_lt w 256 ≡ fits → (fits ≡ true → w ≡ unsigned_abs y) → x.low ≤ n → a < n → value < n → Holds x left s st c → is_int z ≡ true → is_int y ≡ true → st.env a ≡ Some (word_of_int z) → st.env value ≡ Some (word_of_int y) → st.world ≡ traced x.world tr → c ≤ b →
      Keeps x (GoesOn x left) tr b (((if fits then give (unsigned_abs y) else raise kind.Range line) >>= put_value (Int z)) s) (run_list x.setting calls (width_code x.fixed line value n ++ call put_int (a ∷ n ∷ []) line ∷ []) st c)
  width_fits left a value n line z y true s st c tr b t r low la lv h small whole ea ev wd le =
      let f = fixed_above x low h.fixed in
      let i : HasInt y value n st = record { small = whole; below = lv; is = ev } in
      let w = cast_unsigned w32 y in
      let p : List Op = call put_int (a ∷ n ∷ []) line ∷ [] in
      let tests : List Op = constant (n + 1) 256 ∷ raise_unless LessUnsigned n (n + 1) kind.Range line ∷ [] in
      let go = constant_goes {g = x.setting} {calls = calls} (n + 1) 256 {st = set st n w} {c = c + 10} ▸ check_goes LessUnsigned n (n + 1) kind.Range line (set_below (set st n w).env (n + 1) 256 n (omega arith) ∙ set_same st.env n w) (set_same (set st n w).env (n + 1) 256) t ▸ none in
      let gone = runs_in_order x.setting calls (number_code x.fixed value n) tests st c ∙ ap (λ v. on_run v (run_list x.setting calls tests)) (number_is_given x.setting calls x.fixed y value n st c f i) ∙ go.is in
      let su = set (set st n w) (n + 1) 256 in
      let few : w < 256 = grind (arith, nat_tests, t) in
      keeps_is (runs_in_order x.setting calls (width_code x.fixed line value n) p st c ∙ ap (λ v. on_run v (run_list x.setting calls p)) gone)
      (keeps_given (unsigned_abs y) (put_value (Int z)) s _
      (int_keeps x calls rt left a n line z (unsigned_abs y) s su (c + 10 + 5 + 13) tr b
      (holds_still su.env (λ j lt. set_below (set st n w).env (n + 1) 256 j (omega arith) ∙ set_below st.env n w j (omega arith)) (omega arith) h) wd (omega arith) small
      (set_below (set st n w).env (n + 1) 256 a (omega arith) ∙ set_below st.env n w a la ∙ ea) (set_below (set st n w).env (n + 1) 256 n (omega arith) ∙ set_same st.env n w ∙ ap Some (r refl)) (let q = r refl in omega arith)))
  width_fits left a value n line z y false s st c tr b t r low la lv h small whole ea ev wd le =
      let f = fixed_above x low h.fixed in
      let i : HasInt y value n st = record { small = whole; below = lv; is = ev } in
      let w = cast_unsigned w32 y in
      let p : List Op = call put_int (a ∷ n ∷ []) line ∷ [] in
      let tests : List Op = constant (n + 1) 256 ∷ raise_unless LessUnsigned n (n + 1) kind.Range line ∷ [] in
      let go = constant_goes {g = x.setting} {calls = calls} (n + 1) 256 {st = set st n w} {c = c + 10} ▹ stops [] (check_stops LessUnsigned n (n + 1) kind.Range line (set_below (set st n w).env (n + 1) 256 n (omega arith) ∙ set_same st.env n w) (set_same (set st n w).env (n + 1) 256) t) in
      let gone = runs_in_order x.setting calls (number_code x.fixed value n) tests st c ∙ ap (λ v. on_run v (run_list x.setting calls tests)) (number_is_given x.setting calls x.fixed y value n st c f i) ∙ go.is in
      keeps_is (runs_in_order x.setting calls (width_code x.fixed line value n) p st c ∙ ap (λ v. on_run v (run_list x.setting calls p)) gone)
      (keeps_raise_then kind.Range line (put_value (Int z)) s _ refl wd (omega arith))

  width_keeps : (left a value n line : ℕ) (z y : ℤ) (s : State Store) (st : CodeState) (c : ℕ) (tr : Trace) (b : ℕ) → x.low ≤ n → a < n → value < n → Holds x left s st c → is_int z ≡ true → is_int y ≡ true → st.env a ≡ Some (word_of_int z) → st.env value ≡ Some (word_of_int y) → st.world ≡ traced x.world tr → c ≤ b →
      Keeps x (GoesOn x left) tr b ((width_of line (Int y) >>= put_value (Int z)) s) (run_list x.setting calls (width_code x.fixed line value n ++ call put_int (a ∷ n ∷ []) line ∷ []) st c)
  width_keeps left a value n line z y s st c tr b low la lv h sz sy ea ev wd le =
      let q = number_tells y sy in
      width_fits left a value n line z y (is_width y) s st c tr b (sym q.0) (λ t. q.1 (sym q.0 ∙ t)) low la lv h sz sy ea ev wd le

-- Code that does a step which gives nothing, in its place behind the code so far.
pub record UnitDoes (x : Site) (calls : Calls) (m : Step Store (Unit {0})) (code made : Code) : Type 0 where
  pub ops : List Op
  pub is : made.ops ≡ code.ops ++ ops
  pub more : code.next ≤ made.next
  pub keeps : (left : ℕ) (s : State Store) (st : CodeState) (c : ℕ) (tr : Trace) (b : ℕ) → Holds x left s st c → st.world ≡ traced x.world tr → c ≤ b → Keeps x (GoesOn x left) tr b (m s) (run_list x.setting calls ops st c)

module _ {x : Site} {calls : Calls} where
  -- the one, and then the other
  units_do : {m n : Step Store (Unit {0})} {code middle made : Code} → UnitDoes x calls m code middle → UnitDoes x calls n middle made → UnitDoes x calls (m >> n) code made
  units_do {m} {n} {code} {middle} {made} a d = record {
    ops = a.ops ++ d.ops;
    is = d.is ∙ ap (λ z. z ++ d.ops) a.is ∙ append_assoc code.ops a.ops d.ops;
    more = let p = a.more in let q = d.more in omega arith;
    keeps = λ left s st c tr b h w le. keeps_is (runs_in_order x.setting calls a.ops d.ops st c)
        (keeps_more (omega arith) (keeps_flow {b = b} 0 s m (λ _. n) (run_list x.setting calls a.ops st c) (λ how st c. on_how how st c (run_list x.setting calls d.ops)) (passes_next (run_list x.setting calls d.ops)) (a.keeps left s st c tr b h w le)
        (λ v s1 how1 st1 c1 tr1 b1 g w1 le1. subst (λ z. Keeps x (GoesOn x left) tr1 (b1 + 0) (n s1) (on_how z st1 c1 (run_list x.setting calls d.ops))) (sym g.way) (keeps_more (omega arith) (d.keeps left s1 st1 c1 tr1 b1 g.holds w1 le1)))));
  }

  -- a part of a statement, and the rest
  unit_then : {is_inside : Bool} {outside : ℕ} {m : Step Store (Unit {0})} {n : Step Store Flow} {code middle made : Code} → UnitDoes x calls m code middle → StatementDoes x calls is_inside outside n middle made → StatementDoes x calls is_inside outside (m >> n) code made
  unit_then {is_inside} {outside} {m} {n} {code} {middle} {made} a d = record {
    ops = a.ops ++ d.ops;
    is = d.is ∙ ap (λ z. z ++ d.ops) a.is ∙ append_assoc code.ops a.ops d.ops;
    more = let p = a.more in let q = d.more in omega arith;
    keeps = λ left s st c tr b h w le. keeps_is (runs_in_order x.setting calls a.ops d.ops st c)
        (keeps_more (omega arith) (keeps_flow {b = b} 0 s m (λ _. n) (run_list x.setting calls a.ops st c) (λ how st c. on_how how st c (run_list x.setting calls d.ops)) (passes_next (run_list x.setting calls d.ops)) (a.keeps left s st c tr b h w le)
        (λ v s1 how1 st1 c1 tr1 b1 g w1 le1. subst (λ z. Keeps x (Leaves x left is_inside outside) tr1 (b1 + 0) (n s1) (on_how z st1 c1 (run_list x.setting calls d.ops))) (sym g.way) (keeps_more (omega arith) (d.keeps left s1 st1 c1 tr1 b1 g.holds w1 le1)))));
  }

  -- nothing comes behind the last part
  unit_last : (is_inside : Bool) (outside : ℕ) {m : Step Store (Unit {0})} {code made : Code} → UnitDoes x calls m code made → StatementDoes x calls is_inside outside (m >> give Next) code made
  unit_last is_inside outside {m} {code} {made} a = record {
    ops = a.ops;
    is = a.is;
    more = a.more;
    keeps = λ left s st c tr b h w le. keeps_is (sym (then_none (run_list x.setting calls a.ops st c)))
        (keeps_more (omega arith) (keeps_flow {b = b} 0 s m (λ _. give Next) (run_list x.setting calls a.ops st c) (λ how st c. on_how how st c next) (passes_next next) (a.keeps left s st c tr b h w le)
        (λ v s1 how1 st1 c1 tr1 b1 g w1 le1. subst (λ z. Keeps x (Leaves x left is_inside outside) tr1 (b1 + 0) (give Next s1) (on_how z st1 c1 next)) (sym g.way) (keeps_give Next s1 _ (record { way = refl; holds = g.holds }) w1 (omega arith)))));
  }

  -- a statement costs a unit
  pub paid_does : {is_inside : Bool} {outside : ℕ} {m : Step Store Flow} {code made : Code} → StatementDoes x calls is_inside outside m code made → StatementDoes x calls is_inside outside (pay 1 >> m) code made
  paid_does {m = m} a = record { ops = a.ops; is = a.is; more = a.more; keeps = λ left s st c tr b h w le. keeps_paid 1 s m _ (keeps_more (omega arith) (a.keeps left s st c tr b h w le)) }

module _ (x : Site) (calls : Calls) (depth : ℕ) (rt : RunTime x calls) where
  abbrev declared : List Variable
  declared = map (λ (n : Named). n.name) x.names

  shown_does : (line : ℕ) (part : Of r-shown) → is_shown_built declared part ≡ true → (code : Code) → x.low ≤ code.next → UnitDoes x calls (show Store by_copying x.turns depth [] line part) code (code_shown x.fixed x.names line part code)
  shown_does line (Shown m e Absent) b code low =
      let q = both (is_built declared e) true b in
      let a = expressions_do x calls depth line e q.0 code low in
      let first = code_expr x.fixed x.names line e code in
      let p : List Op = call put_int (first.value ∷ x.fixed.zero ∷ []) line ∷ [] in
      let K : Value → Step Store (Unit {0}) = λ v. give 0 >>= put_value v in
      record {
        ops = a.ops ++ p;
        is = ap (λ z. z ++ p) a.is ∙ append_assoc code.ops a.ops p;
        more = a.more;
        keeps = λ left s st c tr b h w le. keeps_is (runs_in_order x.setting calls a.ops p st c)
            (keeps_more (omega arith) (keeps_flow {b = b} 0 s (evaluate Store by_copying x.turns depth [] line e) K (run_list x.setting calls a.ops st c) (λ how st c. on_how how st c (run_list x.setting calls p)) (passes_next (run_list x.setting calls p)) (a.keeps left s st c tr b h w le)
            (λ v s1 how1 st1 c1 tr1 b1 g w1 le1.
            subst (λ z. Keeps x (GoesOn x left) tr1 (b1 + 0) (K v s1) (on_how z st1 c1 (run_list x.setting calls p))) (sym g.goes)
            (subst (λ z. Keeps x (GoesOn x left) tr1 (b1 + 0) (K z s1) (run_list x.setting calls p st1 c1)) (sym g.is)
            (keeps_given 0 (put_value (Int g.int)) s1 _ (int_keeps x calls rt left first.value x.fixed.zero line g.int 0 s1 st1 c1 tr1 (b1 + 0) g.holds w1 (omega arith) g.small g.result g.holds.fixed.zero_is (omega arith)))))));
      }
  shown_does line (Shown m e (Present (Behind colon width))) b code low =
      let q = both (is_built declared e) (is_built declared width) b in
      let a = expressions_do x calls depth line e q.0 code low in
      let first = code_expr x.fixed x.names line e code in
      let le1 = a.more in let av = a.value in
      let d = expressions_do x calls depth line width q.1 first.code (omega arith) in
      let second = code_expr x.fixed x.names line width first.code in
      let le2 = d.more in
      let W : List Op = width_code x.fixed line second.value second.code.next in
      let p : List Op = W ++ call put_int (first.value ∷ second.code.next ∷ []) line ∷ [] in
      let K : Value → Step Store (Unit {0}) = λ v. (evaluate Store by_copying x.turns depth [] line width >>= λ u. width_of line u) >>= λ w. put_value v w in
      record {
        ops = a.ops ++ (d.ops ++ p);
        is = ap (λ z. (second.code.ops ++ W) ++ call put_int (first.value ∷ z ∷ []) line ∷ []) (plus_none second.code.next) ∙ append_assoc second.code.ops W (call put_int (first.value ∷ second.code.next ∷ []) line ∷ []) ∙ ap (λ z. z ++ p) d.is ∙ append_assoc first.code.ops d.ops p ∙ ap (λ z. z ++ (d.ops ++ p)) a.is ∙ append_assoc code.ops a.ops (d.ops ++ p);
        more = omega arith;
        keeps = λ left s st c tr b h w le. keeps_is (runs_in_order x.setting calls a.ops (d.ops ++ p) st c)
            (keeps_more (omega arith) (keeps_flow {b = b} 0 s (evaluate Store by_copying x.turns depth [] line e) K (run_list x.setting calls a.ops st c) (λ how st c. on_how how st c (run_list x.setting calls (d.ops ++ p))) (passes_next (run_list x.setting calls (d.ops ++ p))) (a.keeps left s st c tr b h w le)
            (λ v s1 how1 st1 c1 tr1 b1 g w1 le1.
            subst (λ z. Keeps x (GoesOn x left) tr1 (b1 + 0) (K v s1) (on_how z st1 c1 (run_list x.setting calls (d.ops ++ p)))) (sym g.goes)
            (subst (λ z. Keeps x (GoesOn x left) tr1 (b1 + 0) (K z s1) (run_list x.setting calls (d.ops ++ p) st1 c1)) (sym g.is)
            (keeps_is (runs_in_order x.setting calls d.ops p st1 c1)
            (keeps_grouped (evaluate Store by_copying x.turns depth [] line width) (width_of line) (put_value (Int g.int)) s1 _
            (keeps_flow {b = b1} 0 s1 (evaluate Store by_copying x.turns depth [] line width) (λ u. width_of line u >>= put_value (Int g.int)) (run_list x.setting calls d.ops st1 c1) (λ how st c. on_how how st c (run_list x.setting calls p)) (passes_next (run_list x.setting calls p)) (d.keeps left s1 st1 c1 tr1 b1 g.holds w1 le1)
            (λ u s2 how2 st2 c2 tr2 b2 g2 w2 le2.
            subst (λ z. Keeps x (GoesOn x left) tr2 (b2 + 0) ((width_of line u >>= put_value (Int g.int)) s2) (on_how z st2 c2 (run_list x.setting calls p))) (sym g2.goes)
            (subst (λ z. Keeps x (GoesOn x left) tr2 (b2 + 0) ((width_of line z >>= put_value (Int g.int)) s2) (run_list x.setting calls p st2 c2)) (sym g2.is)
            (width_keeps x calls rt left first.value second.value second.code.next line g.int g2.int s2 st2 c2 tr2 (b2 + 0) (omega arith) (omega arith) d.value g2.holds g.small g2.small (g2.kept first.value av ∙ g.result) g2.result w2 (omega arith)))))))))));
      }

  shown_more_does : (line : ℕ) (more : Part (many (lexeme SignComma ⨟ rule r-shown))) → are_shown_built declared more ≡ true → (code : Code) → x.low ≤ code.next → UnitDoes x calls (show_more Store by_copying x.turns depth [] line more) code (code_shown_more x.fixed x.names line more code)
  shown_more_does line NoMore b code low = record {
    ops = [];
    is = sym (append-nil code.ops);
    more = omega arith;
    keeps = λ left s st c tr b h w le. keeps_give tt s _ (record { way = refl; holds = h }) w le;
  }
  shown_more_does line (More (Behind comma part) more) b code low =
      let q = both (is_shown_built declared part) (are_shown_built declared more) b in
      let a = shown_does line part q.0 code low in
      let le = a.more in
      units_do a (shown_more_does line more q.1 (code_shown x.fixed x.names line part code) (omega arith))

  end_does : (line : ℕ) (dots : Part (maybe (lexeme SignRange))) (code : Code) → UnitDoes x calls (end_line Store by_copying x.turns depth [] dots) code (code_end x.fixed x.names line dots code)
  end_does line Absent code = record {
    ops = call put_line [] line ∷ [];
    is = refl;
    more = omega arith;
    keeps = λ left s st c tr b h w le. line_keeps x calls rt left line s st c tr b h w le;
  }
  end_does line (Present word) code = record {
    ops = [];
    is = sym (append-nil code.ops);
    more = omega arith;
    keeps = λ left s st c tr b h w le. keeps_give tt s _ (record { way = refl; holds = h }) w le;
  }

  pub put_does : (is_inside : Bool) (outside : ℕ) (m : Mark) (word : Part (lexeme WordPut)) (first : Of r-shown) (more : Part (many (lexeme SignComma ⨟ rule r-shown))) (dots : Part (maybe (lexeme SignRange))) → is_shown_built declared first ≡ true → are_shown_built declared more ≡ true → (code : Code) → x.low ≤ code.next →
      StatementDoes x calls is_inside outside (execute_simple Store by_copying x.turns depth [] (Simple m (Put word Absent (Listed first more) dots))) code (code_simple x.fixed x.names outside (Simple m (Put word Absent (Listed first more) dots)) code)
  put_does is_inside outside m word first more dots p q code low =
      let a = shown_does m.line first p code low in
      let le = a.more in
      let d = shown_more_does m.line more q (code_shown x.fixed x.names m.line first code) (omega arith) in
      let e = end_does m.line dots (code_shown_more x.fixed x.names m.line more (code_shown x.fixed x.names m.line first code)) in
      paid_does (unit_then a (unit_then d (unit_last is_inside outside e)))
