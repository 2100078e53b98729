-- The linear code of a unit does what the unit does.
use Rattle.std.proofs.Common.{◌≡◌, ℕ, zero, suc, ◌+◌, ◌*◌, ◌<◌, ◌≤◌, List, [], ◌∷◌, ◌++◌, length, map, Option, Some, None, true, refl, sym, ◌∙◌, subst, arith, append_assoc}
use Rattle.std.specs.Prelude.{slice_get}
use Rattle.std.specs.Option.{option_map}
use Rattle.std.proofs.lemmas.Option.{slice_get-map}
use Rattle.rv_image.specs.Streams.{Folder}
use Rattle.ir_form.specs.declared.op.Op.{Op}
use Rattle.ir_form.specs.declared.unit.Routine.{Routine}
use Rattle.ir_form.specs.declared.unit.Unit.{Unit as RegionUnit}
use Rattle.ir_form.specs.Place.{Place, Setting}
use Rattle.ir_form.specs.State.{State, How, Next, Left, Ends, Throws, Over, Run, needs, words_of}
use Rattle.ir_form.specs.Cost.{value_price, end_price}
use Rattle.ir_form.specs.Plain.{Calls}
use Rattle.ir_form.specs.Meaning.{run, run_list, ended}
use Rattle.ir_form.specs.Units.{head_of, body_of, calls_to, calls_within, runs_main, start, concluded, meant, setting_of, unit_run}
use Rattle.ir_form.proofs.Spends.{CallsSpend, calls_spend}
use Rattle.rv_flat.specs.declared.linear.Instruction.{Instruction}
use Rattle.rv_flat.specs.declared.linear.Instruction.TheVariants.{Back}
use Rattle.rv_flat.specs.Linear.{At, Done, wants, finish, run_code}
use Rattle.rv_flat.specs.Units.{linear_run}
use Rattle.rv_flat.specs.Units as linear
use Rattle.rv_flat.specs.Flat.{labels, labels_list, code_of, code_list, flat_routine, flat_unit, Around, nothing_around}
use Rattle.rv_flat.specs.Keeps.{Cheaper, Keeps}
use Rattle.rv_flat.proofs.Close.{CheaperBy, Close, CallsClose, called_close}
use Rattle.rv_flat.proofs.Sweeps.{Lacks, Outside, lacks_none, lacks_append, within, lacks_code}
use Rattle.rv_flat.proofs.Runs.{left, Below, Well, AfterHow, Here, Beyond, CodeWell, op_well, flow_how, skips_code, skips_none, below_more, outside_below, outside_above, IsLabel, OfLoop, OfHandler}

lacks_list : (around : Around) (n l : ℕ) (ops : List Op) → Outside l n (labels_list ops) → Lacks l (code_list around n ops)
lacks_list around n l [] o = lacks_none l
lacks_list around n l (op ∷ ops) o =
    lacks_append l (code_of around n op) _ (lacks_code around n l op (within l n _ n _ o (omega arith) (omega arith))) (lacks_list around (n + labels op) l ops (within l n _ (n + labels op) _ o (omega arith) (omega arith)))

list_well : (Q : Run → Type 0) (g : Setting) (cl cr : Calls) (code : List Instruction) → CallsClose cl cr → CallsSpend cr → (ops : List Op) (around : Around) (n : ℕ) (rest : List Instruction) → Below around n
    → Here Q g cl cr code n (labels_list ops) (code_list around n ops ++ rest) → Beyond Q g cl cr code n (labels_list ops) rest → CodeWell Q g cl cr code around (code_list around n ops) rest (run_list g cr ops)
list_well Q g cl cr code ch sh [] around n rest be he bo d st k h = h
list_well Q g cl cr code ch sh (op ∷ ops) around n rest be he bo d st k h =
    let x = code_of around n op in
    let y = code_list around (n + labels op) ops in
    let split : (x ++ y) ++ rest ≡ x ++ (y ++ rest) = append_assoc x y rest in
    let here = subst (Here Q g cl cr code n (labels op + labels_list ops)) split he in
    let r = run g cr op st k in
    subst (λ z. Well Q g cl cr code d z (At st) (left st) k) (sym split)
    (op_well Q g cl cr code ch sh op around n (y ++ rest) be (record { finds = λ l su o a b. here.finds l su o a (omega arith) })
    (record { lacks = λ l a b. lacks_append l y rest (lacks_list around (n + labels op) l ops (outside_below Q g cl cr code l _ _ (omega arith))) (bo.lacks l a (omega arith)) })
    d st k
    (flow_how Q g cl cr code r.how d around (y ++ rest) rest r.state r.cost (run_list g cr ops)
    (record { by = λ lb e. let low : lb < n = be.below lb e in skips_code Q g cl cr code lb y rest rest (lacks_list around (n + labels op) lb ops (outside_below Q g cl cr code lb _ _ (omega arith))) (skips_none Q g cl cr code lb rest) })
    h
    (λ su o a. list_well Q g cl cr code ch sh ops around (n + labels op) rest (below_more Q g cl cr code around n _ (omega arith) be)
    (record { finds = λ l sv i c e. here.finds l sv i (omega arith) (omega arith) ∙ (skips_code Q g cl cr code l x (y ++ rest) (y ++ rest) (lacks_code around n l op (outside_above Q g cl cr code l _ _ c)) (skips_none Q g cl cr code l (y ++ rest))).by true sv i })
    (record { lacks = λ l c e. bo.lacks l (omega arith) (omega arith) })
    d su o a)))

-- the end of a routine: its results are given back
back_cheaper : (o : Option (List ℕ)) (g : Setting) (cl : Calls) (code : List Instruction) (count d : ℕ) (st : State) (n j m : ℕ) → m + d ≤ n
    → CheaperBy d (finish g cl code j (wants o st (m + 7) (λ ws. Done (Ends ws) st (m + 7 + 8 * count)))) (needs o st (n + end_price) (λ ws. record { how = Ends ws; state = st; cost = n + end_price + value_price * count }))
back_cheaper None g cl code count d st n zero m le = record { how = refl; state = refl; cost = omega arith }
back_cheaper None g cl code count d st n (suc j) m le = record { how = refl; state = refl; cost = omega arith }
back_cheaper (Some ws) g cl code count d st n zero m le = record { how = refl; state = refl; cost = omega arith }
back_cheaper (Some ws) g cl code count d st n (suc j) m le = record { how = refl; state = refl; cost = omega arith }

done_cheaper : (g : Setting) (cl : Calls) (code : List Instruction) (how : How) (d : ℕ) (st : State) (n j m : ℕ) → m + d ≤ n → CheaperBy d (finish g cl code j (Done how st m)) (record { how = how; state = st; cost = n })
done_cheaper g cl code how d st n zero m le = record { how = refl; state = refl; cost = le }
done_cheaper g cl code how d st n (suc j) m le = record { how = refl; state = refl; cost = le }

-- what is asked of the end of a routine
ends_well : (g : Setting) (cl cr : Calls) (code : List Instruction) (results : List ℕ) (d : ℕ) (how : How) (st : State) (n : ℕ) → AfterHow (λ e. CheaperBy d e (ended results how st n)) g cl cr code d nothing_around (Back results ∷ []) how st n
ends_well g cl cr code results d Next st n = record { by = λ j m lt le. back_cheaper (words_of st.env results) g cl code (length results) d st n j m le }
ends_well g cl cr code results d (Left k ws) st n = record { by = λ j m lt le. done_cheaper g cl code (Ends ws) d st n j m le }
ends_well g cl cr code results d (Ends ws) st n = λ m le. record { how = refl; state = refl; cost = le }
ends_well g cl cr code results d (Throws kind line) st n = λ m le. record { how = refl; state = refl; cost = le }
ends_well g cl cr code results d (Over v) st n = λ m le. record { how = refl; state = refl; cost = le }

none_around : (l : ℕ) → IsLabel nothing_around l → l < 0
none_around l (OfLoop k t e q) = cc
none_around l (OfHandler h e q) = cc

body_cheaper : (g : Setting) (cl cr : Calls) → CallsClose cl cr → CallsSpend cr → (r : Routine) (st : State) (m n d : ℕ) → m + d ≤ n → CheaperBy d (run_code g cl (flat_routine r).code st m) (body_of g cr r st n)
body_cheaper g cl cr ch sh r st m n d le =
    let ops = r.body.ops in
    let back = Back r.body.results ∷ [] in
    let code = code_list nothing_around 0 ops ++ back in
    let f = run_list g cr ops st n in
    let Q : Run → Type 0 = λ (e : Run). CheaperBy d e (ended r.body.results f.how f.state f.cost) in
    let w = list_well Q g cl cr code ch sh ops nothing_around 0 back
    (record { below = none_around })
    (record { finds = λ l su o a b. refl })
    (record { lacks = λ l a b. record { passes = λ h calls again su o. refl } })
    d st n (ends_well g cl cr code r.body.results d f.how f.state f.cost) in
    w.by (suc (left st)) m (omega arith) le

some_close : (g : Setting) (cl cr : Calls) → CallsClose cl cr → CallsSpend cr → (o : Option Routine) (arguments to : List ℕ) (line : ℕ) (st : State) (m n d : ℕ) → m + d ≤ n → Close d (linear.calls_to g cl (option_map flat_routine o) arguments to line st m) (calls_to g cr o arguments to line st n)
some_close g cl cr ch sh None arguments to line st m n d le = record { how = refl; state = refl; cost = le; step = tt }
some_close g cl cr ch sh (Some r) arguments to line st m n d le =
    called_close g (head_of r) (run_code g cl (flat_routine r).code) (body_of g cr r) (record { cheaper = λ su i k e l. body_cheaper g cl cr ch sh r su i k e l }) arguments to line st m n d le

calls_close : (g : Setting) (rs : List Routine) (n : ℕ) → CallsClose (linear.calls_within g (map flat_routine rs) n) (calls_within g rs n)
calls_close g rs zero = record { close = λ k arguments to line st m i d le. record { how = refl; state = refl; cost = le; step = tt } }
calls_close g rs (suc n) = record {
  close = λ k arguments to line st m i d le.
      let cl = linear.calls_within g (map flat_routine rs) n in let cr = calls_within g rs n in
      subst (λ o. Close d (linear.calls_to g cl o arguments to line st m) (calls_to g cr (slice_get rs k) arguments to line st i)) (sym (slice_get-map flat_routine rs k))
      (some_close g cl cr (calls_close g rs n) (calls_spend g rs n) (slice_get rs k) arguments to line st m i d le);
}

main_cheaper : (g : Setting) (cl cr : Calls) → CallsClose cl cr → CallsSpend cr → (o : Option Routine) (texts input : List ℕ) (t s : ℕ) → CheaperBy 0 (linear.runs_main g cl (option_map flat_routine o) texts input t s) (runs_main g cr o texts input t s)
main_cheaper g cl cr ch sh None texts input t s = record { how = refl; state = refl; cost = omega arith }
main_cheaper g cl cr ch sh (Some r) texts input t s = body_cheaper g cl cr ch sh r (start g (head_of r) texts input t s) 0 0 0 (omega arith)

concluded_cheaper : (how : How) (st : State) (m n : ℕ) → m ≤ n → Cheaper (concluded how st m) (concluded how st n)
concluded_cheaper Next st m n le = record { trace = refl; verdict = refl; cost = le }
concluded_cheaper (Left k ws) st m n le = record { trace = refl; verdict = refl; cost = le }
concluded_cheaper (Ends ws) st m n le = record { trace = refl; verdict = refl; cost = le }
concluded_cheaper (Throws kind line) st m n le = record { trace = refl; verdict = refl; cost = le }
concluded_cheaper (Over v) st m n le = record { trace = refl; verdict = refl; cost = le }

meant_cheaper : (r s : Run) → CheaperBy 0 r s → Cheaper (meant r) (meant s)
meant_cheaper r s c =
    subst (λ x. Cheaper (concluded x r.state r.cost) (meant s)) (sym c.how)
    (subst (λ y. Cheaper (concluded s.how y r.cost) (meant s)) (sym c.state)
    (concluded_cheaper s.how s.state r.cost s.cost (let le = c.cost in omega arith)))

run_cheaper : (u : RegionUnit) (place : Place) (input : List ℕ) (folder : Folder) (t s : ℕ) → CheaperBy 0 (linear_run (flat_unit u) place input folder t s) (unit_run u place input folder t s)
unfolding unit_run linear_run
run_cheaper u place input folder t s =
    let g = setting_of place u.globals folder in
    let cl = linear.calls_within g (map flat_routine u.routines) (t + 10) in let cr = calls_within g u.routines (t + 10) in
    subst (λ o. CheaperBy 0 (linear.runs_main g cl o u.texts input t s) (runs_main g cr (slice_get u.routines u.main) u.texts input t s)) (sym (slice_get-map flat_routine u.routines u.main))
    (main_cheaper g cl cr (calls_close g u.routines (t + 10)) (calls_spend g u.routines (t + 10)) (slice_get u.routines u.main) u.texts input t s)

pub flat_keeps : (u : RegionUnit) → Keeps u (flat_unit u)
flat_keeps u = record { keeps = λ place input folder t s. meant_cheaper _ _ (run_cheaper u place input folder t s) }
