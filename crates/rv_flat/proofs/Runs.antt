-- The linear code does what the region code does: what is asked of the end of a run holds of the linear run wherever the region run comes to it.
use Rattle.std.proofs.Common.{◌≡◌, ◌≢◌, ℕ, zero, suc, ◌+◌, ◌*◌, ◌<◌, ◌≤◌, List, [], ◌∷◌, ◌++◌, length, Option, Some, None, Bool, true, false, refl, sym, ap, ◌∙◌, subst, arith, append_assoc, ◌-◌}
use Rattle.std.specs.Prelude.{if◌then◌else◌, slice_get}
use Rattle.rv_isa.specs.Arithmetic.{holds, signed_of}
use Rattle.rv_isa.specs.declared.instr.Relation.{Relation}
use Rattle.ir_form.specs.declared.plain.Plain.{Plain as PlainOp}
use Rattle.ir_form.specs.declared.op.Op.{Op, Plain as Simple, If', Case', Loop', Guard', Leave, Row_of-Op, end_of-Op, more_of-Op, Row_of-Arm, end_of-Arm, more_of-Arm}
use Rattle.ir_form.specs.declared.op.Exit.TheVariants.{Routine as the_routine, Loop as the_loop}
use Rattle.ir_form.specs.declared.op.Range.{Range}
use Rattle.ir_form.specs.Place.{Setting}
use Rattle.ir_form.specs.State.{Env, State, Stuck, How, Next, Left, Ends, Throws, Over, Run, next, on_how, on_run, needs, chosen, words_of, bound, turn_from, other_from, begins, binds}
use Rattle.ir_form.specs.Cost.{value_price, if_price, case_price, range_price, round_price, leave_price, guard_price}
use Rattle.ir_form.specs.Plain.{Calls, act, without_array}
use Rattle.ir_form.specs.Meaning.{takes_words, hands, gives, is_in, is_in_any, compared, picks, Cycle, after_round, after_run, rounds, looped, run, run_all, run_arms, takes_up, caught, opens}
use Rattle.ir_form.proofs.Spends.{Spends, CallsSpend, binds_spend, begins_spend, act_spends, hands_spend, ops_spend}
use Rattle.rv_flat.specs.declared.linear.Instruction.{Instruction}
use Rattle.rv_flat.specs.declared.linear.Instruction.TheVariants.{Branch, Jump, Label, Open}
use Rattle.rv_flat.specs.declared.linear.Target.{Target}
use Rattle.rv_flat.specs.declared.linear.Handler.{Handler}
use Rattle.rv_flat.specs.Linear.{Config, At, Seek, Done, config, config_of, wants, one, sweep, finish, seek_how, seek_run, handled, open_price}
use Rattle.rv_flat.specs.Flat.{labels, labels_all, labels_arms, arm_count, hand_code, leave_code, if_code, loop_code, range_tests, tests, code_of, code_all, code_arms, Around, in_loop, in_guard, plain_code, guard_code}
use Rattle.rv_flat.proofs.Close.{IsStep, Close, CallsClose, takes_words_close, hands_close, begins_close, act_close}
use Rattle.rv_flat.proofs.Sweeps.{sweep_append, sweep_done, Lacks, Outside, label_other, label_same, lacks_append, lacks_label, lacks_hand_code, lacks_jump, lacks_range_tests, lacks_tests, lacks_code, lacks_all, lacks_arms}

-- what is left of the bounds
abbrev pub left : State → ℕ
left st = st.turns + st.others

abbrev pub leaving : Option Target → List ℕ → State → ℕ → Config
leaving None ws st m = Done (Ends ws) st m
leaving (Some t) ws st m = let r = takes_words t.to ws st m in seek_how t.label r.how r.state r.cost

-- a label that is gone to from within what lies around
pub data IsLabel (around : Around) (l : ℕ) : Type 0 where
  OfLoop : (k : ℕ) (t : Target) → slice_get around.loops k ≡ Some t → t.label ≡ l → IsLabel around l
  OfHandler : (h : Handler) → around.handler ≡ Some h → h.label ≡ l → IsLabel around l

-- each is below n
pub record Below (around : Around) (n : ℕ) : Type 0 where
  pub below : (l : ℕ) → IsLabel around l → l < n

-- operations that raise nothing
abbrev pub IsQuiet : How → Type 0
IsQuiet Next = Unit {0}
IsQuiet (Left k ws) = ⊥
IsQuiet (Ends ws) = Unit {0}
IsQuiet (Throws kind line) = ⊥
IsQuiet (Over v) = Unit {0}

binds_quiet : (to ws : List ℕ) (st : State) (m : ℕ) → IsQuiet (binds to ws st m).how
binds_quiet to ws st m = at (bound to ws st.env)
  where
    at : (o : Option Env) → IsQuiet (needs o st m (λ env. next (record st { env = env }) m)).how
    at None = tt
    at (Some env) = tt

words_quiet : (to ws : List ℕ) (st : State) (m : ℕ) → IsQuiet (takes_words to ws st m).how
words_quiet to [] st m = tt
words_quiet to (w ∷ ws) st m = binds_quiet to (w ∷ ws) st m

hands_quiet : (to from : List ℕ) (st : State) (m : ℕ) → IsQuiet (hands to from st m).how
hands_quiet to from st m = at (words_of st.env from)
  where
    at : (o : Option (List ℕ)) → IsQuiet (needs o st m (λ ws. takes_words to ws st (m + value_price * length from))).how
    at None = tt
    at (Some ws) = words_quiet to ws st _

turn_quiet : (t : ℕ) (st : State) (m : ℕ) → IsQuiet (turn_from t st m).how
turn_quiet zero st m = tt
turn_quiet (suc t) st m = tt

other_quiet : (s : ℕ) (st : State) (m : ℕ) → IsQuiet (other_from s st m).how
other_quiet zero st m = tt
other_quiet (suc s) st m = tt

begins_quiet : (marked again : Bool) (st : State) (m : ℕ) → IsQuiet (begins marked again st m).how
begins_quiet true again st m = turn_quiet st.turns st m
begins_quiet false true st m = other_quiet st.others st m
begins_quiet false false st m = tt

-- what is left falls
turn_uses : (t : ℕ) (st : State) (m : ℕ) → t ≡ st.turns → (turn_from t st m).how ≡ Next → left (turn_from t st m).state < left st
turn_uses zero st m e h = cc
turn_uses (suc t) st m e h = omega arith

other_uses : (s : ℕ) (st : State) (m : ℕ) → s ≡ st.others → (other_from s st m).how ≡ Next → left (other_from s st m).state < left st
other_uses zero st m e h = cc
other_uses (suc s) st m e h = omega arith

begins_use : (marked : Bool) (st : State) (m : ℕ) → (begins marked true st m).how ≡ Next → left (begins marked true st m).state < left st
begins_use true st m h = turn_uses st.turns st m refl h
begins_use false st m h = other_uses st.others st m refl h

spent : (st : State) (c : ℕ) (r : Run) → Spends st c r → left r.state ≤ left st
spent st c r h = let a = h.turns in let b = h.others in omega arith

begins_fall : (marked again : Bool) (st : State) (m : ℕ) → left (begins marked again st (m + 1)).state ≤ left st
begins_fall marked again st m = spent st m _ (begins_spend marked again st m (m + 1) (omega arith))

hands_fall : (to from : List ℕ) (st : State) (m : ℕ) → left (hands to from st m).state ≤ left st
hands_fall to from st m = spent st m _ (hands_spend to from st m m (omega arith))

-- Q is asked of the end of the run
module _ (Q : Run → Type 0) (g : Setting) (cl cr : Calls) (code : List Instruction) where
  -- a linear run that comes to this configuration before the rest of the code ends well
  pub record Well (d : ℕ) (rest : List Instruction) (c : ℕ → Config) (lft most : ℕ) : Type 0 where
    pub by : (j m : ℕ) → lft < j → m + d ≤ most → Q (finish g cl code j (sweep g cl rest (c m)))

  -- an exception ends well, which leaves the code or is taken
  abbrev pub Caught : ℕ → Option Handler → List Instruction → (kind line : ℕ) → State → ℕ → Type 0
  Caught d None rest kind line st n = (m : ℕ) → m + d ≤ n → Q (record { how = Throws kind line; state = st; cost = m })
  Caught d (Some h) rest kind line st n = Well d rest (λ m. seek_run h.label (takes_up g h.mark h.to kind line st (m + guard_price))) (left st) n

  -- a run that goes on from here ends well
  abbrev pub AfterHow : ℕ → Around → List Instruction → How → State → ℕ → Type 0
  AfterHow d around rest Next st n = Well d rest (At st) (left st) n
  AfterHow d around rest (Left k ws) st n = Well d rest (leaving (slice_get around.loops k) ws st) (left st) n
  AfterHow d around rest (Ends ws) st n = (m : ℕ) → m + d ≤ n → Q (record { how = Ends ws; state = st; cost = m })
  AfterHow d around rest (Throws kind line) st n = Caught d around.handler rest kind line st n
  AfterHow d around rest (Over v) st n = (m : ℕ) → m + d ≤ n → Q (record { how = Over v; state = st; cost = m })

  abbrev pub After : ℕ → Around → List Instruction → Run → Type 0
  After d around rest r = AfterHow d around rest r.how r.state r.cost

  -- from this code on a run to the label goes as from the other
  pub record Skips (l : ℕ) (a b : List Instruction) : Type 0 where
    pub by : (again : Bool) (st : State) (m : ℕ) → sweep g cl a (Seek again l st m) ≡ sweep g cl b (Seek again l st m)

  -- and a run that leaves a loop around
  pub record Passes (around : Around) (a b : List Instruction) : Type 0 where
    pub by : (l : ℕ) → IsLabel around l → Skips l a b

  -- from here a run comes there, at a cost of at most e
  pub record Joins (e : ℕ) (a b : List Instruction) : Type 0 where
    pub by : (st : State) (m : ℕ) → (c : ℕ) × (c ≤ e) × (sweep g cl a (At st m) ≡ sweep g cl b (At st (m + c)))

  -- what a jump back from behind finds, and that the rest of the code has none of the labels
  pub record Here (n k : ℕ) (rest : List Instruction) : Type 0 where
    pub finds : (l : ℕ) (st : State) (m : ℕ) → n ≤ l → l < n + k → sweep g cl code (Seek true l st m) ≡ sweep g cl rest (Seek true l st m)

  pub record Beyond (n k : ℕ) (rest : List Instruction) : Type 0 where
    pub lacks : (l : ℕ) → n ≤ l → l < n + k → Lacks l rest

  pub skips_none : (l : ℕ) (a : List Instruction) → Skips l a a
  skips_none l a = record { by = λ again st m. refl }

  pub skips_code : (l : ℕ) (a b c : List Instruction) → Lacks l a → Skips l b c → Skips l (a ++ b) c
  skips_code l a b c h k = record { by = λ again st m. sweep_append g cl a b _ ∙ ap (sweep g cl b) (h.passes g cl again st m) ∙ k.by again st m }

  skips_label : (l x : ℕ) (marked : Bool) (b c : List Instruction) → l ≢ x → Skips l b c → Skips l (Label x marked ∷ b) c
  skips_label l x marked b c h k = record { by = λ again st m. ap (sweep g cl b) (label_other l x marked again st m h) ∙ k.by again st m }

  skips_jump : (l x : ℕ) (b c : List Instruction) → Skips l b c → Skips l (Jump x ∷ b) c
  skips_jump l x b c h = record { by = λ again st m. h.by again st m }

  finished : (j : ℕ) (how : How) (st : State) (m : ℕ) → Q (record { how = how; state = st; cost = m }) → Q (finish g cl code j (Done how st m))
  finished zero how st m q = q
  finished (suc j) how st m q = q

  done : (j : ℕ) (rest : List Instruction) (how : How) (st : State) (m : ℕ) → Q (record { how = how; state = st; cost = m }) → Q (finish g cl code j (sweep g cl rest (Done how st m)))
  done j rest how st m q = subst (λ c. Q (finish g cl code j c)) (sym (sweep_done g cl rest how st m)) (finished j how st m q)

  -- a step, and what follows it
  step_how : (how : How) (d d' j : ℕ) (around : Around) (rest rest' : List Instruction) (st : State) (m n : ℕ) (go : State → ℕ → Run) → IsQuiet how → m + d' ≤ n → (how ≡ Next → left st < j) → d ≤ d' → After d around rest (on_how how st n go) → (how ≡ Next → After d around rest (go st n) → Well d' rest' (At st) (left st) n) → Q (finish g cl code j (sweep g cl rest' (config how st m)))
  step_how Next d d' j around rest rest' st m n go i le lt l a h = (h refl a).by j m (lt refl) le
  step_how (Left k ws) d d' j around rest rest' st m n go i le lt l a h = absurd i
  step_how (Ends ws) d d' j around rest rest' st m n go i le lt l a h = done j rest' (Ends ws) st m (a m (omega arith))
  step_how (Throws kind line) d d' j around rest rest' st m n go i le lt l a h = absurd i
  step_how (Over v) d d' j around rest rest' st m n go i le lt l a h = done j rest' (Over v) st m (a m (omega arith))

  step_well : (d d' j : ℕ) (around : Around) (rest rest' : List Instruction) (s t : Run) (go : State → ℕ → Run) → Close d' s t → IsQuiet t.how → (t.how ≡ Next → left t.state < j) → d ≤ d' → After d around rest (on_run t go) → (t.how ≡ Next → After d around rest (go t.state t.cost) → Well d' rest' (At t.state) (left t.state) t.cost) → Q (finish g cl code j (sweep g cl rest' (config_of s)))
  step_well d d' j around rest rest' s t go c q lt le a h =
      subst (λ x. Q (finish g cl code j (sweep g cl rest' (config x s.state s.cost)))) (sym c.how)
      (subst (λ y. Q (finish g cl code j (sweep g cl rest' (config t.how y s.cost)))) (sym c.state)
      (step_how t.how d d' j around rest rest' t.state s.cost t.cost go q c.cost lt le a h))

  -- a last step
  last_how : (how : How) (d j : ℕ) (around : Around) (rest : List Instruction) (st : State) (m n : ℕ) → IsQuiet how → m + d ≤ n → left st < j → AfterHow d around rest how st n → Q (finish g cl code j (sweep g cl rest (config how st m)))
  last_how Next d j around rest st m n i le lt a = a.by j m lt le
  last_how (Left k ws) d j around rest st m n i le lt a = absurd i
  last_how (Ends ws) d j around rest st m n i le lt a = done j rest (Ends ws) st m (a m le)
  last_how (Throws kind line) d j around rest st m n i le lt a = absurd i
  last_how (Over v) d j around rest st m n i le lt a = done j rest (Over v) st m (a m le)

  last_well : (d j : ℕ) (around : Around) (rest : List Instruction) (s t : Run) → Close d s t → IsQuiet t.how → left t.state < j → After d around rest t → Q (finish g cl code j (sweep g cl rest (config_of s)))
  last_well d j around rest s t c q lt a =
      subst (λ x. Q (finish g cl code j (sweep g cl rest (config x s.state s.cost)))) (sym c.how)
      (subst (λ y. Q (finish g cl code j (sweep g cl rest (config t.how y s.cost)))) (sym c.state)
      (last_how t.how d j around rest t.state s.cost t.cost q c.cost lt a))

  -- an operation, with what takes its exception
  abbrev acted : Option Handler → How → State → ℕ → Config
  acted None how st m = config how st m
  acted (Some h) how st m = handled g h how st m

  acted_how : (how : How) (o : Option Handler) (d j : ℕ) (around : Around) (rest : List Instruction) (st : State) (m n : ℕ) → around.handler ≡ o → IsStep how → m + d ≤ n → left st < j → AfterHow d around rest how st n → Q (finish g cl code j (sweep g cl rest (acted o how st m)))
  acted_how Next None d j around rest st m n e i le lt a = a.by j m lt le
  acted_how Next (Some h) d j around rest st m n e i le lt a = a.by j m lt le
  acted_how (Left k ws) o d j around rest st m n e i le lt a = absurd i
  acted_how (Ends ws) None d j around rest st m n e i le lt a = done j rest (Ends ws) st m (a m le)
  acted_how (Ends ws) (Some h) d j around rest st m n e i le lt a = done j rest (Ends ws) st m (a m le)
  acted_how (Throws kind line) None d j around rest st m n e i le lt a = done j rest (Throws kind line) st m (subst (λ o. Caught d o rest kind line st n) e a m le)
  acted_how (Throws kind line) (Some h) d j around rest st m n e i le lt a = (subst (λ o. Caught d o rest kind line st n) e a).by j m lt le
  acted_how (Over v) None d j around rest st m n e i le lt a = done j rest (Over v) st m (a m le)
  acted_how (Over v) (Some h) d j around rest st m n e i le lt a = done j rest (Over v) st m (a m le)

  acted_well : (o : Option Handler) (d j : ℕ) (around : Around) (rest : List Instruction) (s t : Run) → around.handler ≡ o → Close d s t → left t.state < j → After d around rest t → Q (finish g cl code j (sweep g cl rest (acted o s.how s.state s.cost)))
  acted_well o d j around rest s t e c lt a =
      subst (λ x. Q (finish g cl code j (sweep g cl rest (acted o x s.state s.cost)))) (sym c.how)
      (subst (λ y. Q (finish g cl code j (sweep g cl rest (acted o t.how y s.cost)))) (sym c.state)
      (acted_how t.how o d j around rest t.state s.cost t.cost e c.step c.cost lt a))

  plain_in : CallsClose cl cr → CallsSpend cr → (o : Option Handler) (p : PlainOp) (d : ℕ) (around : Around) (rest : List Instruction) (st : State) (n : ℕ) → around.handler ≡ o → After d around rest (act g cr p st n) → Well d (plain_code o p ∷ rest) (At st) (left st) n
  plain_in ch sh None p d around rest st n e h = record {
    by = λ j m lt le. acted_well None d j around rest (act g cl p st m) (act g cr p st n) e (act_close g cl cr ch p st m n d le) (let f = spent st n _ (act_spends g cr sh p st n n (omega arith)) in omega arith) h;
  }
  plain_in ch sh (Some x) p d around rest st n e h = record {
    by = λ j m lt le. acted_well (Some x) d j around rest (act g cl p st m) (act g cr p st n) e (act_close g cl cr ch p st m n d le) (let f = spent st n _ (act_spends g cr sh p st n n (omega arith)) in omega arith) h;
  }

  plain_well : CallsClose cl cr → CallsSpend cr → (p : PlainOp) (d : ℕ) (around : Around) (rest : List Instruction) (st : State) (n : ℕ) → After d around rest (act g cr p st n) → Well d (plain_code around.handler p ∷ rest) (At st) (left st) n
  plain_well ch sh p d around rest st n h = plain_in ch sh around.handler p d around rest st n refl h

  -- values are handed on, and what follows
  hand_well : (to from : List ℕ) (d d' : ℕ) (around : Around) (rest rest' : List Instruction) (st : State) (n : ℕ) (go : State → ℕ → Run) → d ≤ d' → After d around rest (on_run (hands to from st n) go) → ((su : State) (k : ℕ) → left su ≤ left st → After d around rest (go su k) → Well d' rest' (At su) (left su) k) → Well (d' + 1) (hand_code to from ++ rest') (At st) (left st) n
  hand_well to [] d d' around rest rest' st n go le a h = record { by = λ j m lt l. (h st (n + 0) (omega arith) a).by j m lt (omega arith) }
  hand_well to (x ∷ xs) d d' around rest rest' st n go le a h = record {
    by = λ j m lt l. let fall = hands_fall to (x ∷ xs) st n in
        step_well d d' j around rest rest' (hands to (x ∷ xs) st (m + 1)) (hands to (x ∷ xs) st n) go (hands_close to (x ∷ xs) st (m + 1) n d' (omega arith)) (hands_quiet to (x ∷ xs) st n) (λ e. omega arith) le a (λ e. h _ _ fall);
  }

  -- values are handed on at the end of a region
  hand_last : (to from : List ℕ) (d : ℕ) (around : Around) (rest : List Instruction) (st : State) (n : ℕ) → After d around rest (hands to from st n) → Well (d + 1) (hand_code to from ++ rest) (At st) (left st) n
  hand_last to [] d around rest st n a = record { by = λ j m lt l. a.by j m lt (omega arith) }
  hand_last to (x ∷ xs) d around rest st n a = record {
    by = λ j m lt l. let fall = hands_fall to (x ∷ xs) st n in
        last_well d j around rest (hands to (x ∷ xs) st (m + 1)) (hands to (x ∷ xs) st n) (hands_close to (x ∷ xs) st (m + 1) n d (omega arith)) (hands_quiet to (x ∷ xs) st n) (omega arith) a;
  }

  -- a run that leaves a loop passes code that lacks the label
  seek_passes : (how : How) (l : ℕ) (a b : List Instruction) (st : State) (m : ℕ) → Skips l a b → sweep g cl a (seek_how l how st m) ≡ sweep g cl b (seek_how l how st m)
  seek_passes Next l a b st m h = h.by false st m
  seek_passes (Left k ws) l a b st m h = sweep_done g cl a _ st m ∙ sym (sweep_done g cl b _ st m)
  seek_passes (Ends ws) l a b st m h = sweep_done g cl a _ st m ∙ sym (sweep_done g cl b _ st m)
  seek_passes (Throws kind line) l a b st m h = sweep_done g cl a _ st m ∙ sym (sweep_done g cl b _ st m)
  seek_passes (Over v) l a b st m h = sweep_done g cl a _ st m ∙ sym (sweep_done g cl b _ st m)

  leaving_passes : (o : Option Target) (ws : List ℕ) (st : State) (m : ℕ) (a b : List Instruction) → ((t : Target) → o ≡ Some t → Skips t.label a b) → sweep g cl a (leaving o ws st m) ≡ sweep g cl b (leaving o ws st m)
  leaving_passes None ws st m a b h = sweep_done g cl a _ st m ∙ sym (sweep_done g cl b _ st m)
  leaving_passes (Some t) ws st m a b h = let r = takes_words t.to ws st m in seek_passes r.how t.label a b r.state r.cost (h t refl)

  left_passes : (d d' k : ℕ) (around : Around) (ws : List ℕ) (st : State) (n : ℕ) (a b : List Instruction) → d' ≤ d → Passes around a b → Well d' b (leaving (slice_get around.loops k) ws st) (left st) n → Well d a (leaving (slice_get around.loops k) ws st) (left st) n
  left_passes d d' k around ws st n a b le p w = record { by = λ j m lt l. subst (λ c. Q (finish g cl code j c)) (sym (leaving_passes (slice_get around.loops k) ws st m a b (λ t e. p.by t.label (OfLoop k t e refl)))) (w.by j m lt (omega arith)) }

  -- and one that is on its way to its handler
  caught_passes : (d d' : ℕ) (o : Option Handler) (kind line : ℕ) (st : State) (n : ℕ) (a b : List Instruction) → d' ≤ d → ((h : Handler) → o ≡ Some h → Skips h.label a b) → Caught d' o b kind line st n → Caught d o a kind line st n
  caught_passes d d' None kind line st n a b le p c = λ m l. c m (omega arith)
  caught_passes d d' (Some h) kind line st n a b le p c = record {
    by = λ j m lt l. let r = takes_up g h.mark h.to kind line st (m + guard_price) in
        subst (λ z. Q (finish g cl code j z)) (sym (seek_passes r.how h.label a b r.state r.cost (p h refl))) (c.by j m lt (omega arith));
  }

  throws_passes : (d d' : ℕ) (around : Around) (kind line : ℕ) (st : State) (n : ℕ) (a b : List Instruction) → d' ≤ d → Passes around a b → Caught d' around.handler b kind line st n → Caught d around.handler a kind line st n
  throws_passes d d' around kind line st n a b le p c = caught_passes d d' around.handler kind line st n a b le (λ h e. p.by h.label (OfHandler h e refl)) c

  -- what follows an operation is the code of the others
  pub flow_how : (how : How) (d : ℕ) (around : Around) (a rest : List Instruction) (st : State) (n : ℕ) (go : State → ℕ → Run) → Passes around a rest → After d around rest (on_how how st n go) → ((su : State) (k : ℕ) → After d around rest (go su k) → Well d a (At su) (left su) k) → AfterHow d around a how st n
  flow_how Next d around a rest st n go p h k = k st n h
  flow_how (Left i ws) d around a rest st n go p h k = left_passes d d i around ws st n a rest (omega arith) p h
  flow_how (Ends ws) d around a rest st n go p h k = h
  flow_how (Throws kind line) d around a rest st n go p h k = throws_passes d d around kind line st n a rest (omega arith) p h
  flow_how (Over v) d around a rest st n go p h k = h

  -- the end of a region comes behind what it is in
  join_how : (how : How) (d e : ℕ) (around : Around) (a rest : List Instruction) (st : State) (n : ℕ) → Passes around a rest → Joins e a rest → AfterHow d around rest how st n → AfterHow (d + e) around a how st n
  join_how Next d e around a rest st n p c h = record { by = λ j m lt le. let i = c.by st m in let small = i.1 in subst (λ z. Q (finish g cl code j z)) (sym i.2) (h.by j (m + i.0) lt (omega arith)) }
  join_how (Left k ws) d e around a rest st n p c h = left_passes (d + e) d k around ws st n a rest (omega arith) p h
  join_how (Ends ws) d e around a rest st n p c h = λ m le. h m (omega arith)
  join_how (Throws kind line) d e around a rest st n p c h = throws_passes (d + e) d around kind line st n a rest (omega arith) p h
  join_how (Over v) d e around a rest st n p c h = λ m le. h m (omega arith)

  joined : (d e : ℕ) (around : Around) (a rest : List Instruction) (r : Run) → Passes around a rest → Joins e a rest → After d around rest r → After (d + e) around a r
  joined d e around a rest r p c h = join_how r.how d e around a rest r.state r.cost p c h

  -- the end of a region hands values on
  give_how : (how : How) (d : ℕ) (around : Around) (to from : List ℕ) (rest : List Instruction) (st : State) (n : ℕ) → After d around rest (on_how how st n (hands to from)) → AfterHow (d + 1) around (hand_code to from ++ rest) how st n
  give_how Next d around to from rest st n h = hand_last to from d around rest st n h
  give_how (Left k ws) d around to from rest st n h =
      left_passes (d + 1) d k around ws st n (hand_code to from ++ rest) rest (omega arith) (record { by = λ lb e. skips_code lb (hand_code to from) rest rest (lacks_hand_code lb to from) (skips_none lb rest) }) h
  give_how (Ends ws) d around to from rest st n h = λ m le. h m (omega arith)
  give_how (Throws kind line) d around to from rest st n h =
      throws_passes (d + 1) d around kind line st n (hand_code to from ++ rest) rest (omega arith) (record { by = λ lb e. skips_code lb (hand_code to from) rest rest (lacks_hand_code lb to from) (skips_none lb rest) }) h
  give_how (Over v) d around to from rest st n h = λ m le. h m (omega arith)

  -- a body and its code, for whatever follows it
  abbrev pub CodeWell : Around → List Instruction → List Instruction → (State → ℕ → Run) → Type 0
  CodeWell around x rest body = (d : ℕ) (st : State) (n : ℕ) → After d around rest (body st n) → Well d (x ++ rest) (At st) (left st) n

  -- a region, with what it hands on
  region_well : (around : Around) (x rest : List Instruction) (to results : List ℕ) (body : State → ℕ → Run) → CodeWell around x (hand_code to results ++ rest) body → (d : ℕ) (st : State) (n : ℕ) → After d around rest (gives body to results st n) → Well (d + 1) ((x ++ hand_code to results) ++ rest) (At st) (left st) n
  region_well around x rest to results body w d st n h =
      let r = body st n in
      subst (λ z. Well (d + 1) z (At st) (left st) n) (sym (append_assoc x (hand_code to results) rest)) (w (d + 1) st n (give_how r.how d around to results rest r.state r.cost h))

  -- leaving a loop, or the routine
  back_well : (values : List ℕ) (o : Option (List ℕ)) (d : ℕ) (rest : List Instruction) (st : State) (n j m : ℕ) → m + d ≤ n → (around : Around) → After d around rest (needs o st (n + leave_price) (λ ws. record { how = Ends ws; state = st; cost = n + leave_price + value_price * length values })) → Q (finish g cl code j (sweep g cl rest (wants o st (m + 7) (λ ws. Done (Ends ws) st (m + 7 + 8 * length values)))))
  back_well values None d rest st n j m le around h = done j rest (Over Stuck) st (m + 7) (h (m + 7) (omega arith))
  back_well values (Some ws) d rest st n j m le around h = done j rest (Ends ws) st (m + 7 + 8 * length values) (h (m + 7 + 8 * length values) (omega arith))

  -- what is left where words of values were given to a loop so many loops out
  abbrev LeftFrom : ℕ → List Instruction → Option Target → Option (List ℕ) → State → (c e : ℕ) → Type 0
  LeftFrom d rest o None st c e = (m : ℕ) → m + d ≤ c → Q (record { how = Over Stuck; state = st; cost = m })
  LeftFrom d rest o (Some ws) st c e = Well d rest (leaving o ws st) (left st) e

  left_from : (d : ℕ) (around : Around) (rest : List Instruction) (k : ℕ) (w : Option (List ℕ)) (st : State) (c e : ℕ) → After d around rest (needs w st c (λ ws. record { how = Left k ws; state = st; cost = e })) → LeftFrom d rest (slice_get around.loops k) w st c e
  left_from d around rest k None st c e h = h
  left_from d around rest k (Some ws) st c e h = h

  -- a return in the place of a loop that is not there
  lost_well : (w : Option (List ℕ)) (values : List ℕ) (d : ℕ) (rest : List Instruction) (st : State) (n j m : ℕ) → left st < j → m + d ≤ n → LeftFrom d rest None w st (n + leave_price) (n + leave_price + value_price * length values) → Q (finish g cl code j (sweep g cl rest (wants w st (m + 7) (λ ws. Done (Ends ws) st (m + 7 + 8 * length values)))))
  lost_well None values d rest st n j m lt le h = done j rest (Over Stuck) st (m + 7) (h (m + 7) (omega arith))
  lost_well (Some ws) values d rest st n j m lt le h = h.by j (m + 7 + 8 * length values) lt (omega arith)

  -- hands the words on, and jumps behind the loop
  jump_bound : (b : Option Env) (l d lft most j : ℕ) (rest : List Instruction) (st : State) (m : ℕ) → Well d rest (λ k. let r = needs b st k (λ env. next (record st { env = env }) k) in seek_how l r.how r.state r.cost) lft most → lft < j → m + 2 + d ≤ most → Q (finish g cl code j (sweep g cl rest (one g cl (Jump l) (config_of (needs b st m (λ env. next (record st { env = env }) m))))))
  jump_bound None l d lft most j rest st m h lt le = h.by j m lt (omega arith)
  jump_bound (Some env) l d lft most j rest st m h lt le = h.by j (m + 2) lt le

  jump_words : (ws : List ℕ) (t : Target) (d most j : ℕ) (rest : List Instruction) (st : State) (m : ℕ) → Well d rest (leaving (Some t) ws st) (left st) most → left st < j → m + 2 + d ≤ most → Q (finish g cl code j (sweep g cl rest (one g cl (Jump t.label) (config_of (takes_words t.to ws st m)))))
  jump_words [] t d most j rest st m h lt le = h.by j (m + 2) lt le
  jump_words (w ∷ ws) t d most j rest st m h lt le = jump_bound (bound t.to (w ∷ ws) st.env) t.label d (left st) most j rest st m h lt le

  jump_well : (w : Option (List ℕ)) (t : Target) (count : ℕ) (d : ℕ) (rest : List Instruction) (st : State) (n j m : ℕ) → left st < j → m + d ≤ n → LeftFrom d rest (Some t) w st (n + leave_price) (n + leave_price + value_price * count) → Q (finish g cl code j (sweep g cl rest (one g cl (Jump t.label) (config_of (needs w st (m + 1) (λ ws. takes_words t.to ws st (m + 1 + value_price * count)))))))
  jump_well None t count d rest st n j m lt le h = done j rest (Over Stuck) st (m + 1) (h (m + 1) (omega arith))
  jump_well (Some ws) t count d rest st n j m lt le h = jump_words ws t d _ j rest st (m + 1 + value_price * count) h lt (omega arith)

  leave_well : (o : Option Target) (values : List ℕ) (d : ℕ) (rest : List Instruction) (st : State) (n : ℕ) → LeftFrom d rest o (words_of st.env values) st (n + leave_price) (n + leave_price + value_price * length values) → Well d (leave_code o values ++ rest) (At st) (left st) n
  leave_well None values d rest st n h = record { by = λ j m lt le. lost_well (words_of st.env values) values d rest st n j m lt le h }
  leave_well (Some t) [] d rest st n h = record { by = λ j m lt le. h.by j (m + 2) lt (omega arith) }
  leave_well (Some t) (x ∷ xs) d rest st n h = record { by = λ j m lt le. jump_well (words_of st.env (x ∷ xs)) t (length (x ∷ xs)) d rest st n j m lt le h }

  -- a choice between two regions, whose labels are n and the next one
  module _ (n : ℕ) (x y rest : List Instruction) (d : ℕ) (around : Around) (st : State) (k : ℕ) (first second : State → ℕ → Run) where
    abbrev behind_first : List Instruction
    behind_first = Jump (n + 1) ∷ Label n false ∷ (y ++ Label (n + 1) false ∷ rest)

    record Choice : Type 0 where
      below : Below around n
      low : (l : ℕ) → l < n → Lacks l y
      first_lacks : Lacks n x
      second_lacks : Lacks (n + 1) y
      first_well : After (d + 3) around behind_first (first st (k + if_price)) → Well (d + 3 + 1) (x ++ behind_first) (At st) (left st) (k + if_price)
      second_well : After (d + 1) around (Label (n + 1) false ∷ rest) (second st (k + if_price)) → Well (d + 1 + 1) (y ++ Label (n + 1) false ∷ rest) (At st) (left st) (k + if_price)

    joins_end : Joins 1 (Label (n + 1) false ∷ rest) rest
    joins_end = record { by = λ su m. (1, omega arith, refl) }

    passes_end : Choice → Passes around (Label (n + 1) false ∷ rest) rest
    passes_end c = record { by = λ lb e. let low : lb < n = c.below.below lb e in skips_label lb (n + 1) false rest rest (λ q. absurd (omega arith)) (skips_none lb rest) }

    joins_first : Choice → Joins 3 behind_first rest
    joins_first c = record {
      by = λ su m. (
        3,
        omega arith,
        (skips_label (n + 1) n false _ _ (λ q. absurd (omega arith)) (skips_code (n + 1) y _ _ c.second_lacks (skips_none (n + 1) _))).by false su (m + 2)
            ∙ ap (sweep g cl rest) (label_same (n + 1) false false su (m + 2))
            ∙ ap (λ z. sweep g cl rest (At su z)) (omega arith),
      );
    }

    passes_first : Choice → Passes around behind_first rest
    passes_first c = record {
      by = λ lb e. let low : lb < n = c.below.below lb e in
          skips_jump lb (n + 1) _ _ (skips_label lb n false _ _ (λ q. absurd (omega arith)) (skips_code lb y _ _ (c.low lb low) (skips_label lb (n + 1) false rest rest (λ q. absurd (omega arith)) (skips_none lb rest))));
    }

    choice_well : Choice → (b : Bool) → After d around rest (chosen b first second st (k + if_price)) → (j m : ℕ) → left st < j → m + d ≤ k → Q (finish g cl code j (sweep g cl (x ++ behind_first) (if b then At st (m + 9) else Seek false n st (m + 9))))
    choice_well c true h j m lt le = (c.first_well (joined d 3 around behind_first rest (first st (k + if_price)) (passes_first c) (joins_first c) h)).by j (m + 9) lt (omega arith)
    choice_well c false h j m lt le =
        subst (λ z. Q (finish g cl code j z)) (sym ((skips_code n x _ _ c.first_lacks (skips_none n _)).by false st (m + 9) ∙ ap (sweep g cl (y ++ Label (n + 1) false ∷ rest)) (label_same n false false st (m + 9))))
        ((c.second_well (joined d 1 around (Label (n + 1) false ∷ rest) rest (second st (k + if_price)) (passes_end c) joins_end h)).by j (m + 9 + 1) lt (omega arith))

    branch_right : Choice → (test : ℕ → Bool) (o : Option ℕ) → After d around rest (needs o st (k + if_price) (λ w. chosen (test w) first second st (k + if_price))) → (j m : ℕ) → left st < j → m + d ≤ k → Q (finish g cl code j (sweep g cl (x ++ behind_first) (wants o st (m + 9) (λ w. if test w then At st (m + 9) else Seek false n st (m + 9)))))
    branch_right c test None h j m lt le = done j (x ++ behind_first) (Over Stuck) st (m + 9) (h (m + 9) (omega arith))
    branch_right c test (Some w) h j m lt le = choice_well c (test w) h j m lt le

    branch_left : Choice → (test : ℕ → ℕ → Bool) (o p : Option ℕ) → After d around rest (needs o st (k + if_price) (λ v. needs p st (k + if_price) (λ w. chosen (test v w) first second st (k + if_price)))) → (j m : ℕ) → left st < j → m + d ≤ k → Q (finish g cl code j (sweep g cl (x ++ behind_first) (wants o st (m + 9) (λ v. wants p st (m + 9) (λ w. if test v w then At st (m + 9) else Seek false n st (m + 9))))))
    branch_left c test None p h j m lt le = done j (x ++ behind_first) (Over Stuck) st (m + 9) (h (m + 9) (omega arith))
    branch_left c test (Some v) p h j m lt le = branch_right c (test v) p h j m lt le

  -- a loop, whose first label is n
  module _ (y : Cycle) (start : List ℕ) (n : ℕ) (b : List Instruction) (around : Around) (rest : List Instruction) (d : ℕ) (body : State → ℕ → Run) where
    abbrev tail : List Instruction
    tail = hand_code y.parameters y.results ++ Jump n ∷ Label (n + 1) false ∷ rest

    abbrev all : List Instruction
    all = hand_code y.parameters start ++ Label n y.marked ∷ (b ++ tail)

    abbrev inside : Around
    inside = in_loop (record { label = n + 1; to = y.to }) around

    -- what is known of the body and of where the loop stands
    record Stands : Type 0 where
      body_well : (st : State) (k : ℕ) → After (d + 2) inside tail (body st k) → Well (d + 2) (b ++ tail) (At st) (left st) k
      body_falls : (st : State) (k : ℕ) → left (body st k).state ≤ left st
      finds : (st : State) (m : ℕ) → sweep g cl code (Seek true n st m) ≡ sweep g cl all (Seek true n st m)
      below : Below around n
      lacks : Lacks n rest

    -- the loop is left: to the label behind it
    exit_how : (how : How) (lft j : ℕ) (st : State) (m k : ℕ) → IsQuiet how → m + (d + 2) ≤ k → left st < j → AfterHow d around rest how st k → Q (finish g cl code j (sweep g cl tail (seek_how (n + 1) how st m)))
    exit_how Next lft j st m k i le lt h =
        subst (λ z. Q (finish g cl code j z)) (sym ((skips_code (n + 1) (hand_code y.parameters y.results) _ _ (lacks_hand_code (n + 1) y.parameters y.results) (skips_none (n + 1) _)).by false st m ∙ ap (sweep g cl rest) (label_same (n + 1) false false st m)))
        (h.by j (m + 1) lt (omega arith))
    exit_how (Left i ws) lft j st m k q le lt h = absurd q
    exit_how (Ends ws) lft j st m k i le lt h = done j tail (Ends ws) st m (h m (omega arith))
    exit_how (Throws kind line) lft j st m k i le lt h = absurd i
    exit_how (Over v) lft j st m k i le lt h = done j tail (Over v) st m (h m (omega arith))

    exit_well : (ws : List ℕ) (st : State) (k j m : ℕ) → left st < j → m + (d + 2) ≤ k → After d around rest (takes_words y.to ws st k) → Q (finish g cl code j (sweep g cl tail (leaving (Some (record { label = n + 1; to = y.to })) ws st m)))
    exit_well ws st k j m lt le h =
        let s = takes_words y.to ws st m in let t = takes_words y.to ws st k in let c = takes_words_close y.to ws st m k (d + 2) le in
        let fall : left t.state ≤ left st = words_fall y.to ws st k in
        subst (λ x. Q (finish g cl code j (sweep g cl tail (seek_how (n + 1) x s.state s.cost)))) (sym c.how)
        (subst (λ z. Q (finish g cl code j (sweep g cl tail (seek_how (n + 1) t.how z s.cost)))) (sym c.state)
        (exit_how t.how (left st) j t.state s.cost t.cost (words_quiet y.to ws st k) c.cost (omega arith) h))
      where
        words_fall : (to ws : List ℕ) (st : State) (k : ℕ) → left (takes_words to ws st k).state ≤ left st
        words_fall to [] st k = omega arith
        words_fall to (w ∷ ws) st k = spent st k _ (binds_spend to (w ∷ ws) st k k (omega arith))

    -- what a jump back comes to, within so many rounds
    abbrev Again : ℕ → Type 0
    Again fuel = (st : State) (k : ℕ) → left st < fuel → After d around rest (rounds y body fuel true st k) → (j m : ℕ) → left st < j → m + (d + 3) ≤ k → Q (finish g cl code j (Seek false n st m))

    tail_passes : Stands → Passes around tail rest
    tail_passes s = record {
      by = λ lb e. let low : lb < n = s.below.below lb e in
          skips_code lb (hand_code y.parameters y.results) _ _ (lacks_hand_code lb y.parameters y.results) (skips_jump lb n _ _ (skips_label lb (n + 1) false rest rest (λ e. absurd (omega arith)) (skips_none lb rest)));
    }

    -- the end of a round
    round_how : Stands → (fuel : ℕ) → Again fuel → (how : How) (st : State) (k : ℕ) → left st < fuel → After d around rest (after_round y (rounds y body fuel true) how st k) → AfterHow (d + 2) inside tail how st k
    round_how s fuel again Next st k lt h =
        let w = hand_well y.parameters y.results d (d + 5) around rest (Jump n ∷ Label (n + 1) false ∷ rest) st (k + round_price) (rounds y body fuel true) (omega arith) h (λ su p l x. record {
          by = λ j q lj lq. subst (λ z. Q (finish g cl code j z)) (sym (ap (sweep g cl rest) (label_other n (n + 1) false false su (q + 2) (λ e. absurd (omega arith))) ∙ s.lacks.passes g cl false su (q + 2))) (again su p (omega arith) x j (q + 2) lj (omega arith));
        }) in record { by = λ j m lj le. w.by j m lj (omega arith) }
    round_how s fuel again (Left zero ws) st k lt h = record { by = λ j m lj le. exit_well ws st k j m lj le h }
    round_how s fuel again (Left (suc i) ws) st k lt h = left_passes (d + 2) d i around ws st k tail rest (omega arith) (tail_passes s) h
    round_how s fuel again (Ends ws) st k lt h = λ m le. h m (omega arith)
    round_how s fuel again (Throws kind line) st k lt h = throws_passes (d + 2) d around kind line st k tail rest (omega arith) (tail_passes s) h
    round_how s fuel again (Over v) st k lt h = λ m le. h m (omega arith)

    round_well : Stands → (fuel : ℕ) → Again fuel → (st : State) (k : ℕ) → left st < fuel → After d around rest (after_run y (rounds y body fuel true) (body st k)) → Well (d + 2) (b ++ tail) (At st) (left st) k
    round_well s fuel again st k lt h =
        let r = body st k in let f : left r.state ≤ left st = s.body_falls st k in
        s.body_well st k (round_how s fuel again r.how r.state r.cost (omega arith) h)

    top_well : Stands → (fuel : ℕ) → Again fuel
    top_well s zero st k lt h j m lj le = absurd (omega arith)
    top_well s (suc fuel) st k lt h zero m lj le = absurd (omega arith)
    top_well s (suc fuel) st k lt h (suc j) m lj le =
        let t = begins y.marked true st k in
        subst (λ z. Q (finish g cl code j z)) (sym (s.finds st m ∙ (skips_code n (hand_code y.parameters start) _ _ (lacks_hand_code n y.parameters start) (skips_none n _)).by true st m ∙ ap (sweep g cl (b ++ tail)) (label_same n y.marked true st m)))
        (step_well d (d + 2) j around rest (b ++ tail) (begins y.marked true st (m + 1)) t _ (begins_close y.marked true st (m + 1) k (d + 2) (omega arith)) (begins_quiet y.marked true st k) (λ e. let used = begins_use y.marked st k e in omega arith) (omega arith) h
        (λ e a. let used = begins_use y.marked st k e in round_well s fuel (top_well s fuel) t.state t.cost (omega arith) a))

    loop_well : Stands → (st : State) (k : ℕ) → After d around rest (looped y start body st k) → Well d all (At st) (left st) k
    loop_well s st k h =
        let w = hand_well y.parameters start d (d + 3) around rest (Label n y.marked ∷ (b ++ tail)) st (k + round_price) _ (omega arith) h (λ su p l x. record {
          by = λ i q li lq. let t = begins y.marked false su p in let fall : left t.state ≤ left su = first_falls y.marked su p in
              step_well d (d + 2) i around rest (b ++ tail) (begins y.marked false su (q + 1)) t _ (begins_close y.marked false su (q + 1) p (d + 2) (omega arith)) (begins_quiet y.marked false su p) (λ e. omega arith) (omega arith) x
              (λ e a. round_well s (suc (left su)) (top_well s (suc (left su))) t.state t.cost (omega arith) a);
        }) in record { by = λ j m lj le. w.by j m lj (omega arith) }
      where
        turn_falls : (t : ℕ) (st : State) (m : ℕ) → t ≡ st.turns → left (turn_from t st m).state ≤ left st
        turn_falls zero st m e = omega arith
        turn_falls (suc t) st m e = omega arith

        first_falls : (marked : Bool) (st : State) (m : ℕ) → left (begins marked false st m).state ≤ left st
        first_falls true st m = turn_falls st.turns st m refl
        first_falls false st m = omega arith

  -- the ranges of an arm, for a value with a word
  ranges_sweep : (value n w : ℕ) (ranges : List Range) (rest : List Instruction) (st : State) (m : ℕ) → st.env value ≡ Some w
      → sweep g cl (range_tests value n ranges ++ rest) (At st m) ≡ sweep g cl rest (if is_in_any (signed_of w) ranges then Seek false n st (m + range_price * compared (signed_of w) ranges) else At st (m + range_price * compared (signed_of w) ranges))
  ranges_sweep value n w [] rest st m e = ap (λ z. sweep g cl rest (At st z)) (omega arith)
  ranges_sweep value n w (r ∷ rs) rest st m e =
      ap (λ o. sweep g cl (range_tests value n rs ++ rest) (wants o st (m + range_price) (λ v. if is_in (signed_of v) r then Seek false n st (m + range_price) else At st (m + range_price)))) e
      ∙ tested (is_in (signed_of w) r) (ranges_sweep value n w rs rest st (m + range_price) e)
    where
      tested : (b : Bool)
          → sweep g cl (range_tests value n rs ++ rest) (At st (m + range_price)) ≡ sweep g cl rest (if is_in_any (signed_of w) rs then Seek false n st (m + range_price + range_price * compared (signed_of w) rs) else At st (m + range_price + range_price * compared (signed_of w) rs))
          → sweep g cl (range_tests value n rs ++ rest) (if b then Seek false n st (m + range_price) else At st (m + range_price))
          ≡ sweep g cl rest (if (if b then true else is_in_any (signed_of w) rs) then Seek false n st (m + range_price * (if b then 1 else 1 + compared (signed_of w) rs)) else At st (m + range_price * (if b then 1 else 1 + compared (signed_of w) rs)))
      tested true h = (skips_code n (range_tests value n rs) rest rest (lacks_range_tests n value n rs) (skips_none n rest)).by false st (m + range_price)
      tested false h =
          let more : m + range_price + range_price * compared (signed_of w) rs ≡ m + range_price * (1 + compared (signed_of w) rs) = omega arith in
          h ∙ ap (λ z. sweep g cl rest (if is_in_any (signed_of w) rs then Seek false n st z else At st z)) more

  -- an arm with ranges: its label is come to, or what follows the tests
  module _ (value n : ℕ) (r : Range) (rs : List Range) (more rest' rest : List Instruction) (d : ℕ) (around : Around) (st : State) (first second : State → ℕ → Run) where
    record Arm : Type 0 where
      hit : (m k : ℕ) → m + d + 5 ≤ k → After d around rest (first st k) → (j : ℕ) → left st < j → Q (finish g cl code j (sweep g cl (more ++ rest') (Seek false n st m)))
      miss : (k : ℕ) → After d around rest (second st k) → Well (d + 5) (more ++ rest') (At st) (left st) k

    arm_chosen : Arm → (b : Bool) (m k j : ℕ) → left st < j → m + d + 5 ≤ k → After d around rest (chosen b first second st k) → Q (finish g cl code j (sweep g cl (more ++ rest') (if b then Seek false n st m else At st m)))
    arm_chosen a true m k j lt le h = a.hit m k le h j lt
    arm_chosen a false m k j lt le h = (a.miss k h).by j m lt (omega arith)

    arm_tested : Arm → (o : Option ℕ) → st.env value ≡ o → (k : ℕ) → After d around rest (needs o st (k + range_price) (λ v. chosen (is_in_any (signed_of v) (r ∷ rs)) first second st (k + range_price * compared (signed_of v) (r ∷ rs))))
        → (j m : ℕ) → left st < j → m + (d + 5) ≤ k → Q (finish g cl code j (sweep g cl (range_tests value n (r ∷ rs) ++ (more ++ rest')) (At st m)))
    arm_tested a None e k h j m lt le =
        subst (λ o. Q (finish g cl code j (sweep g cl (range_tests value n rs ++ (more ++ rest')) (wants o st (m + range_price) (λ v. if is_in (signed_of v) r then Seek false n st (m + range_price) else At st (m + range_price)))))) (sym e)
        (done j (range_tests value n rs ++ (more ++ rest')) (Over Stuck) st (m + range_price) (h (m + range_price) (omega arith)))
    arm_tested a (Some w) e k h j m lt le =
        subst (λ z. Q (finish g cl code j z)) (sym (ranges_sweep value n w (r ∷ rs) (more ++ rest') st m e))
        (arm_chosen a (is_in_any (signed_of w) (r ∷ rs)) (m + range_price * compared (signed_of w) (r ∷ rs)) (k + range_price * compared (signed_of w) (r ∷ rs)) j lt (omega arith) h)

    arm_well : Arm → (k : ℕ) → After d around rest (picks value (r ∷ rs) first second st k) → Well (d + 5) ((range_tests value n (r ∷ rs) ++ more) ++ rest') (At st) (left st) k
    arm_well a k h = subst (λ z. Well (d + 5) z (At st) (left st) k) (sym (append_assoc (range_tests value n (r ∷ rs)) more rest')) (record { by = λ j m lt le. arm_tested a (st.env value) refl k h j m lt le })

  -- from the end of an arm, or of the others, a run comes behind the Case
  joins_arms : {i : _} (arms : Row_of-Arm i) (around : Around) (to : List ℕ) (end n m : ℕ) (rest : List Instruction) → end < n → end < m → Joins 3 (code_arms around to end n m arms ++ Label end false ∷ rest) rest
  joins_arms end_of-Arm around to end n m rest a b = record { by = λ st c. (1, omega arith, ap (sweep g cl rest) (label_at end st c)) }
    where
      label_at : (l : ℕ) (st : State) (c : ℕ) → At st (c + 1) ≡ At st (c + 1)
      label_at l st c = refl
  joins_arms (more_of-Arm [] p q ops results arms) around to end n m rest a b = joins_arms arms around to end (n + 1) (m + 0) rest (omega arith) (omega arith)
  joins_arms (more_of-Arm (r ∷ rs) p q ops results arms) around to end n m rest a b =
      let whole = code_arms around to end n m (more_of-Arm (r ∷ rs) p q ops results arms) in
      let lacks = lacks_arms around to end n m end (more_of-Arm (r ∷ rs) p q ops results arms) (record { differs = λ x c e f. absurd (omega arith) }) (record { differs = λ x c e f. absurd (omega arith) }) in
      record {
        by = λ st c. (3, omega arith, (skips_code end whole (Label end false ∷ rest) (Label end false ∷ rest) lacks (skips_none end _)).by false st (c + 2) ∙ ap (sweep g cl rest) (label_same end false false st (c + 2)) ∙ ap (λ z. sweep g cl rest (At st z)) (omega arith));
      }

  -- a run that leaves a loop passes the arms
  passes_arms : {i : _} (arms : Row_of-Arm i) (around : Around) (to : List ℕ) (end n m : ℕ) (rest : List Instruction) → Below around end → end < n → end < m → Passes around (code_arms around to end n m arms ++ Label end false ∷ rest) rest
  passes_arms arms around to end n m rest be a b = record {
    by = λ lb e. let low : lb < end = be.below lb e in
        skips_code lb (code_arms around to end n m arms) _ _ (lacks_arms around to end n m lb arms (record { differs = λ x c u v. absurd (omega arith) }) (record { differs = λ x c u v. absurd (omega arith) }))
        (skips_label lb end false rest rest (λ q. absurd (omega arith)) (skips_none lb rest));
  }

  pub outside_below : (l n k : ℕ) → l < n → Outside l n k
  outside_below l n k lt = record { differs = λ x a b e. absurd (omega arith) }

  pub outside_above : (l n k : ℕ) → n + k ≤ l → Outside l n k
  outside_above l n k le = record { differs = λ x a b e. absurd (omega arith) }

  pub below_more : (around : Around) (n k : ℕ) → n ≤ k → Below around n → Below around k
  below_more around n k le h = record { below = λ lb e. let b = h.below lb e in omega arith }

  below_loop : (around : Around) (n : ℕ) (to : List ℕ) → Below around n → Below (in_loop (record { label = n + 1; to = to }) around) (n + 2)
  below_loop around n to h = record { below = low }
    where
      low : (l : ℕ) → IsLabel (in_loop (record { label = n + 1; to = to }) around) l → l < n + 2
      low l (OfLoop zero t e q) = let same : n + 1 ≡ t.label = ap (λ (o : Option Target). elim o [ None ↦ 0 | Some u ↦ u.label ]) e in omega arith
      low l (OfLoop (suc k) t e q) = let b = h.below l (OfLoop k t e q) in omega arith
      low l (OfHandler x e q) = let b = h.below l (OfHandler x e q) in omega arith

  below_guard : (around : Around) (n mark : ℕ) (to : List ℕ) → Below around n → Below (in_guard (record { label = n; mark = mark; to = to }) around) (n + 2)
  below_guard around n mark to h = record { below = low }
    where
      low : (l : ℕ) → IsLabel (in_guard (record { label = n; mark = mark; to = to }) around) l → l < n + 2
      low l (OfLoop k t e q) = let b = h.below l (OfLoop k t e q) in omega arith
      low l (OfHandler x e q) = let same : n ≡ x.label = ap (λ (o : Option Handler). elim o [ None ↦ 0 | Some u ↦ u.label ]) e in omega arith

  -- a region, whose code is well before whatever lacks its labels
  region_of : (around : Around) (n k : ℕ) (x a : List Instruction) (to results : List ℕ) (body : State → ℕ → Run) → ((rest : List Instruction) → Here n k (x ++ rest) → Beyond n k rest → CodeWell around x rest body)
      → Here n k ((x ++ hand_code to results) ++ a) → Beyond n k a → (d : ℕ) (st : State) (m : ℕ) → After d around a (gives body to results st m) → Well (d + 1) ((x ++ hand_code to results) ++ a) (At st) (left st) m
  region_of around n k x a to results body w he bo d st m h =
      region_well around x a to results body
      (w (hand_code to results ++ a) (subst (Here n k) (append_assoc x (hand_code to results) a) he) (record { lacks = λ l p q. lacks_append l (hand_code to results) a (lacks_hand_code l to results) (bo.lacks l p q) })) d st m h

  if_split : (relation : Relation) (a b n : ℕ) (x y rest : List Instruction) → if_code relation a b n x y ++ rest ≡ Branch relation a b n ∷ (x ++ Jump (n + 1) ∷ Label n false ∷ (y ++ Label (n + 1) false ∷ rest))
  if_split relation a b n x y rest =
      ap (λ z. Branch relation a b n ∷ z) (append_assoc x (Jump (n + 1) ∷ Label n false ∷ (y ++ Label (n + 1) false ∷ [])) rest
      ∙ ap (λ z. x ++ Jump (n + 1) ∷ Label n false ∷ z) (append_assoc y (Label (n + 1) false ∷ []) rest))

  loop_split : (y : Cycle) (start : List ℕ) (n : ℕ) (x rest : List Instruction) → loop_code y start n x ++ rest ≡ hand_code y.parameters start ++ Label n y.marked ∷ (x ++ (hand_code y.parameters y.results ++ Jump n ∷ Label (n + 1) false ∷ rest))
  loop_split y start n x rest =
      append_assoc (hand_code y.parameters start) (Label n y.marked ∷ (x ++ (hand_code y.parameters y.results ++ Jump n ∷ Label (n + 1) false ∷ []))) rest
      ∙ ap (λ z. hand_code y.parameters start ++ Label n y.marked ∷ z) (append_assoc x (hand_code y.parameters y.results ++ Jump n ∷ Label (n + 1) false ∷ []) rest
      ∙ ap (λ z. x ++ z) (append_assoc (hand_code y.parameters y.results) (Jump n ∷ Label (n + 1) false ∷ []) rest))

  case_split : (t x a : List Instruction) (n : ℕ) (rest : List Instruction) → (t ++ (x ++ (a ++ Label n false ∷ []))) ++ rest ≡ t ++ (x ++ (a ++ Label n false ∷ rest))
  case_split t x a n rest = append_assoc t (x ++ (a ++ Label n false ∷ [])) rest ∙ ap (λ z. t ++ z) (append_assoc x (a ++ Label n false ∷ []) rest ∙ ap (λ z. x ++ z) (append_assoc a (Label n false ∷ []) rest))

  guard_split : (mark n : ℕ) (x y rest : List Instruction) → guard_code mark n x y ++ rest ≡ Open mark ∷ (x ++ Jump (n + 1) ∷ Label n false ∷ (y ++ Label (n + 1) false ∷ rest))
  guard_split mark n x y rest =
      ap (λ z. Open mark ∷ z) (append_assoc x (Jump (n + 1) ∷ Label n false ∷ (y ++ Label (n + 1) false ∷ [])) rest
      ∙ ap (λ z. x ++ Jump (n + 1) ∷ Label n false ∷ z) (append_assoc y (Label (n + 1) false ∷ []) rest))

  -- a guard, whose handler's label is n
  module _ (n mark : ℕ) (to : List ℕ) (y rest : List Instruction) (d : ℕ) (around : Around) (second : State → ℕ → Run) (be : Below around n) (low : (l : ℕ) → l < n → Lacks l y) (last_lacks : Lacks (n + 1) y)
      (second_well : (st : State) (k : ℕ) → After (d + 1) around (Label (n + 1) false ∷ rest) (second st k) → Well (d + 1 + 1) (y ++ Label (n + 1) false ∷ rest) (At st) (left st) k) where
    abbrev after_body : List Instruction
    after_body = Jump (n + 1) ∷ Label n false ∷ (y ++ Label (n + 1) false ∷ rest)

    abbrev guarding : Around
    guarding = in_guard (record { label = n; mark = mark; to = to }) around

    body_passes : Passes around after_body rest
    body_passes = record {
      by = λ lb e. let b : lb < n = be.below lb e in
          skips_jump lb (n + 1) _ _ (skips_label lb n false _ _ (λ q. absurd (omega arith)) (skips_code lb y _ _ (low lb b) (skips_label lb (n + 1) false rest rest (λ q. absurd (omega arith)) (skips_none lb rest))));
    }

    body_joins : (su : State) (m : ℕ) → sweep g cl after_body (At su m) ≡ sweep g cl rest (At su (m + 3))
    body_joins su m =
        (skips_label (n + 1) n false _ _ (λ q. absurd (omega arith)) (skips_code (n + 1) y _ _ last_lacks (skips_none (n + 1) _))).by false su (m + 2)
        ∙ ap (sweep g cl rest) (label_same (n + 1) false false su (m + 2))
        ∙ ap (λ z. sweep g cl rest (At su z)) (omega arith)

    end_passes : Passes around (Label (n + 1) false ∷ rest) rest
    end_passes = record { by = λ lb e. let b : lb < n = be.below lb e in skips_label lb (n + 1) false rest rest (λ q. absurd (omega arith)) (skips_none lb rest) }

    end_joins : Joins 1 (Label (n + 1) false ∷ rest) rest
    end_joins = record { by = λ su m. (1, omega arith, refl) }

    -- the handler begins, if its values take the exception
    lands_bound : (o : Option Env) (sv : State) (c j m : ℕ) → After d around rest (on_run (needs o sv (c + guard_price) (λ env. next (record sv { env = env }) (c + guard_price))) second) → left sv < j → m + (d + 3) ≤ c →
        Q (finish g cl code j (sweep g cl after_body (seek_run n (needs o sv (m + guard_price) (λ env. next (record sv { env = env }) (m + guard_price))))))
    lands_bound None sv c j m h lt le = done j after_body (Over Stuck) sv (m + guard_price) (h (m + guard_price) (omega arith))
    lands_bound (Some env) sv c j m h lt le =
        let sw : State = record sv { env = env } in
        let w = second_well sw (c + guard_price) (joined d 1 around (Label (n + 1) false ∷ rest) rest (second sw (c + guard_price)) end_passes end_joins h) in
        subst (λ z. Q (finish g cl code j z)) (sym (ap (sweep g cl (y ++ Label (n + 1) false ∷ rest)) (label_same n false false sw (m + guard_price)))) (w.by j (m + guard_price + 1) lt (omega arith))

    lands : (o : Option ℕ) (kind line : ℕ) (su : State) (c j m : ℕ) → After d around rest (on_run (needs o su (c + guard_price) (λ taken. binds to (kind ∷ line ∷ []) (without_array g (su.taken - taken) su) (c + guard_price))) second) → left su < j → m + (d + 3) ≤ c →
        Q (finish g cl code j (sweep g cl after_body (seek_run n (needs o su (m + guard_price) (λ taken. binds to (kind ∷ line ∷ []) (without_array g (su.taken - taken) su) (m + guard_price))))))
    lands None kind line su c j m h lt le = done j after_body (Over Stuck) su (m + guard_price) (h (m + guard_price) (omega arith))
    lands (Some taken) kind line su c j m h lt le = lands_bound (bound to (kind ∷ line ∷ []) su.env) (without_array g (su.taken - taken) su) c j m h lt le

    guard_how : (how : How) (su : State) (c : ℕ) → After d around rest (caught g mark to second how su c) → AfterHow (d + 3) guarding after_body how su c
    guard_how Next su c h = record { by = λ j m lt le. subst (λ z. Q (finish g cl code j z)) (sym (body_joins su m)) (h.by j (m + 3) lt (omega arith)) }
    guard_how (Left k ws) su c h = left_passes (d + 3) d k around ws su c after_body rest (omega arith) body_passes h
    guard_how (Ends ws) su c h = λ m le. h m (omega arith)
    guard_how (Throws kind line) su c h = record { by = λ j m lt le. lands (su.marks mark) kind line su c j m h lt le }
    guard_how (Over v) su c h = λ m le. h m (omega arith)

  -- where the arms of a Case stand: behind the others and the arms before, with their labels and those of their code lacked there
  record Placed (around : Around) (end n c m k : ℕ) (mid arms rest : List Instruction) : Type 0 where
    below : Below around end
    order : end < n
    apart : n + c ≤ m
    here : Here m k (mid ++ (arms ++ Label end false ∷ rest))
    arms_lack : Beyond n c mid
    codes_lack : Beyond m k mid
    beyond : Beyond m k rest

  module _ (ch : CallsClose cl cr) (sh : CallsSpend cr) where
    mutual
      pub op_well : (op : Op) (around : Around) (n : ℕ) (rest : List Instruction) → Below around n → Here n (labels op) (code_of around n op ++ rest) → Beyond n (labels op) rest → CodeWell around (code_of around n op) rest (run g cr op)
      op_well (Simple p) around n rest be he bo d st k h = plain_well ch sh p d around rest st k h
      op_well (If' relation a b p q ops results u v others others_results to) around n rest be he bo d st k h =
          let f = n + 2 + labels_all ops in
          let x = code_all around (n + 2) ops ++ hand_code to results in
          let y = code_all around f others ++ hand_code to others_results in
          let here = subst (Here n (labels (If' relation a b p q ops results u v others others_results to))) (if_split relation a b n x y rest) he in
          let y_lacks : (l : ℕ) → Outside l f (labels_all others) → Lacks l y = λ l o. lacks_append l _ _ (lacks_all around f l others o) (lacks_hand_code l to others_results) in
          let x_lacks : (l : ℕ) → Outside l (n + 2) (labels_all ops) → Lacks l x = λ l o. lacks_append l _ _ (lacks_all around (n + 2) l ops o) (lacks_hand_code l to results) in
          let first = gives (run_all g cr ops) to results in
          let second = gives (run_all g cr others) to others_results in
          let behind = Label (n + 1) false ∷ rest in
          let choice : Choice n x y rest d around st k first second = record {
            below = be;
            low = λ l lt. y_lacks l (outside_below l _ _ (omega arith));
            first_lacks = x_lacks n (outside_below n _ _ (omega arith));
            second_lacks = y_lacks (n + 1) (outside_below (n + 1) _ _ (omega arith));
            first_well = region_of around (n + 2) (labels_all ops) (code_all around (n + 2) ops) (Jump (n + 1) ∷ Label n false ∷ (y ++ behind)) to results (run_all g cr ops)
                (λ z he' bo'. all_well ops around (n + 2) z (below_more around n (n + 2) (omega arith) be) he' bo')
                (record { finds = λ l su o i j. here.finds l su o (omega arith) (omega arith) })
                (record { lacks = λ l i j. lacks_jump l (n + 1) _ (lacks_label l n false _ (λ e. absurd (omega arith)) (lacks_append l y _ (y_lacks l (outside_below l _ _ (omega arith))) (lacks_label l (n + 1) false rest (λ e. absurd (omega arith)) (bo.lacks l (omega arith) (omega arith))))) })
                (d + 3) st (k + if_price);
            second_well = region_of around f (labels_all others) (code_all around f others) behind to others_results (run_all g cr others)
                (λ z he' bo'. all_well others around f z (below_more around n f (omega arith) be) he' bo')
                (record { finds = λ l su o i j. here.finds l su o (omega arith) (omega arith) ∙ (skips_code l x _ _ (x_lacks l (outside_above l _ _ i)) (skips_jump l (n + 1) _ _ (skips_label l n false _ _ (λ e. absurd (omega arith)) (skips_none l (y ++ behind))))).by true su o })
                (record { lacks = λ l i j. lacks_label l (n + 1) false rest (λ e. absurd (omega arith)) (bo.lacks l (omega arith) (omega arith)) })
                (d + 1) st (k + if_price);
          } in
          subst (λ z. Well d z (At st) (left st) k) (sym (if_split relation a b n x y rest))
          (record { by = λ j m lt le. branch_left n x y rest d around st k first second choice (holds relation) (st.env a) (st.env b) h j m lt le })
      op_well (Case' value p arms q u ops results to) around n rest be he bo d st k h =
          let c = arm_count arms in
          let f = n + 1 + c + labels_all ops in
          let t = tests value (n + 1) arms in
          let x = code_all around (n + 1 + c) ops ++ hand_code to results in
          let a = code_arms around to n (n + 1) f arms in
          let split = case_split t x a n rest in
          let here = subst (Here n (labels (Case' value p arms q u ops results to))) split he in
          let x_lacks : (l : ℕ) → Outside l (n + 1 + c) (labels_all ops) → Lacks l x = λ l o. lacks_append l _ _ (lacks_all around (n + 1 + c) l ops o) (lacks_hand_code l to results) in
          let a_lacks : (l : ℕ) → Outside l (n + 1) c → Outside l f (labels_arms arms) → Lacks l a = λ l o i. lacks_arms around to n (n + 1) f l arms o i in
          let behind = a ++ Label n false ∷ rest in
          let placed : Placed around n (n + 1) c f (labels_arms arms) x a rest = record {
            below = be;
            order = omega arith;
            apart = omega arith;
            here = record { finds = λ l su o i j. here.finds l su o (omega arith) (omega arith) ∙ (skips_code l t _ _ (lacks_tests l value (n + 1) arms) (skips_none l (x ++ behind))).by true su o };
            arms_lack = record { lacks = λ l i j. x_lacks l (outside_below l _ _ (omega arith)) };
            codes_lack = record { lacks = λ l i j. x_lacks l (outside_above l _ _ (omega arith)) };
            beyond = record { lacks = λ l i j. bo.lacks l (omega arith) (omega arith) };
          } in
          let others = gives (run_all g cr ops) to results in
          let others_well : (i : ℕ) → After d around rest (others st i) → Well (d + 3 + 1) (x ++ behind) (At st) (left st) i = λ i s.
          region_of around (n + 1 + c) (labels_all ops) (code_all around (n + 1 + c) ops) behind to results (run_all g cr ops)
          (λ z he' bo'. all_well ops around (n + 1 + c) z (below_more around n _ (omega arith) be) he' bo')
          (record { finds = λ l su o i j. here.finds l su o (omega arith) (omega arith) ∙ (skips_code l t _ _ (lacks_tests l value (n + 1) arms) (skips_none l (x ++ behind))).by true su o })
          (record { lacks = λ l i j. lacks_append l a _ (a_lacks l (outside_above l _ _ (omega arith)) (outside_below l _ _ (omega arith))) (lacks_label l n false rest (λ e. absurd (omega arith)) (bo.lacks l (omega arith) (omega arith))) })
          (d + 3) st i (joined d 3 around behind rest (others st i) (passes_arms arms around to n (n + 1) f rest be (omega arith) (omega arith)) (joins_arms arms around to n (n + 1) f rest (omega arith) (omega arith)) s) in
          let w = arms_well arms around to n (n + 1) f value x rest placed others d st others_well (k + case_price) h in
          subst (λ z. Well d z (At st) (left st) k) (sym split) (record { by = λ j m lt le. w.by j m lt (omega arith) })
      op_well (Loop' marked start parameters p ops results to) around n rest be he bo d st k h =
          let y : Cycle = record { marked = marked; parameters = parameters; results = results; to = to } in
          let inner : Around = in_loop (record { label = n + 1; to = to }) around in
          let x = code_all inner (n + 2) ops in
          let behind = hand_code parameters results ++ Jump n ∷ Label (n + 1) false ∷ rest in
          let here = subst (Here n (labels (Loop' marked start parameters p ops results to))) (loop_split y start n x rest) he in
          let stands : Stands y start n x around rest d (run_all g cr ops) = record {
            body_well = λ su o. all_well ops inner (n + 2) behind (below_loop around n to be)
                (record { finds = λ l sv i a b. here.finds l sv i (omega arith) (omega arith) ∙ (skips_code l (hand_code parameters start) _ _ (lacks_hand_code l parameters start) (skips_label l n marked _ _ (λ e. absurd (omega arith)) (skips_none l (x ++ behind)))).by true sv i })
                (record { lacks = λ l a b. lacks_append l (hand_code parameters results) _ (lacks_hand_code l parameters results) (lacks_jump l n _ (lacks_label l (n + 1) false rest (λ e. absurd (omega arith)) (bo.lacks l (omega arith) (omega arith)))) })
                (d + 2) su o;
            body_falls = λ su o. spent su o _ (ops_spend g cr sh ops su o o (omega arith));
            finds = λ su o. here.finds n su o (omega arith) (omega arith);
            below = be;
            lacks = bo.lacks n (omega arith) (omega arith);
          } in
          subst (λ z. Well d z (At st) (left st) k) (sym (loop_split y start n x rest)) (loop_well y start n x around rest d (run_all g cr ops) stands st k h)
      op_well (Guard' mark p q ops results parameters u others others_results to) around n rest be he bo d st k h =
          let f = n + 2 + labels_all ops in
          let inner : Around = in_guard (record { label = n; mark = mark; to = parameters }) around in
          let x = code_all inner (n + 2) ops ++ hand_code to results in
          let y = code_all around f others ++ hand_code to others_results in
          let here = subst (Here n (labels (Guard' mark p q ops results parameters u others others_results to))) (guard_split mark n x y rest) he in
          let y_lacks : (l : ℕ) → Outside l f (labels_all others) → Lacks l y = λ l o. lacks_append l _ _ (lacks_all around f l others o) (lacks_hand_code l to others_results) in
          let x_lacks : (l : ℕ) → Outside l (n + 2) (labels_all ops) → Lacks l x = λ l o. lacks_append l _ _ (lacks_all inner (n + 2) l ops o) (lacks_hand_code l to results) in
          let first = gives (run_all g cr ops) to results in
          let second = gives (run_all g cr others) to others_results in
          let behind = Label (n + 1) false ∷ rest in
          let second_well : (su : State) (o : ℕ) → After (d + 1) around behind (second su o) → Well (d + 1 + 1) (y ++ behind) (At su) (left su) o = λ su o.
          region_of around f (labels_all others) (code_all around f others) behind to others_results (run_all g cr others)
          (λ z he' bo'. all_well others around f z (below_more around n f (omega arith) be) he' bo')
          (record { finds = λ l sv i a b. here.finds l sv i (omega arith) (omega arith) ∙ (skips_code l x _ _ (x_lacks l (outside_above l _ _ a)) (skips_jump l (n + 1) _ _ (skips_label l n false _ _ (λ e. absurd (omega arith)) (skips_none l (y ++ behind))))).by true sv i })
          (record { lacks = λ l a b. lacks_label l (n + 1) false rest (λ e. absurd (omega arith)) (bo.lacks l (omega arith) (omega arith)) })
          (d + 1) su o in
          let first_well = region_of inner (n + 2) (labels_all ops) (code_all inner (n + 2) ops) (Jump (n + 1) ∷ Label n false ∷ (y ++ behind)) to results (run_all g cr ops)
          (λ z he' bo'. all_well ops inner (n + 2) z (below_guard around n mark parameters be) he' bo')
          (record { finds = λ l sv o i j. here.finds l sv o (omega arith) (omega arith) })
          (record { lacks = λ l i j. lacks_jump l (n + 1) _ (lacks_label l n false _ (λ e. absurd (omega arith)) (lacks_append l y _ (y_lacks l (outside_below l _ _ (omega arith))) (lacks_label l (n + 1) false rest (λ e. absurd (omega arith)) (bo.lacks l (omega arith) (omega arith))))) })
          (d + 3) (opens mark st) (k + guard_price) in
          let r = first (opens mark st) (k + guard_price) in
          let w = first_well (guard_how n mark parameters y rest d around second be (λ l lt. y_lacks l (outside_below l _ _ (omega arith))) (y_lacks (n + 1) (outside_below (n + 1) _ _ (omega arith))) second_well r.how r.state r.cost h) in
          subst (λ z. Well d z (At st) (left st) k) (sym (guard_split mark n x y rest)) (record { by = λ j m lt le. w.by j (m + open_price) lt (omega arith) })
      op_well (Leave the_routine values) around n rest be he bo d st k h =
          record { by = λ j m lt le. back_well values (words_of st.env values) d rest st k j m le around h }
      op_well (Leave (the_loop i) values) around n rest be he bo d st k h = leave_well (slice_get around.loops i) values d rest st k (left_from d around rest i (words_of st.env values) st _ _ h)

      pub all_well : {i : _} (ops : Row_of-Op i) (around : Around) (n : ℕ) (rest : List Instruction) → Below around n → Here n (labels_all ops) (code_all around n ops ++ rest) → Beyond n (labels_all ops) rest → CodeWell around (code_all around n ops) rest (run_all g cr ops)
      all_well end_of-Op around n rest be he bo d st k h = h
      all_well (more_of-Op op ops) around n rest be he bo d st k h =
          let x = code_of around n op in
          let y = code_all around (n + labels op) ops in
          let split : (x ++ y) ++ rest ≡ x ++ (y ++ rest) = append_assoc x y rest in
          let here = subst (Here n (labels op + labels_all ops)) split he in
          let r = run g cr op st k in
          subst (λ z. Well d z (At st) (left st) k) (sym split)
          (op_well op around n (y ++ rest) be (record { finds = λ l su o a b. here.finds l su o a (omega arith) })
          (record { lacks = λ l a b. lacks_append l y rest (lacks_all around (n + labels op) l ops (outside_below l _ _ (omega arith))) (bo.lacks l a (omega arith)) })
          d st k
          (flow_how r.how d around (y ++ rest) rest r.state r.cost (run_all g cr ops)
          (record { by = λ lb e. let low : lb < n = be.below lb e in skips_code lb y rest rest (lacks_all around (n + labels op) lb ops (outside_below lb _ _ (omega arith))) (skips_none lb rest) })
          h
          (λ su o a. all_well ops around (n + labels op) rest (below_more around n _ (omega arith) be)
          (record { finds = λ l sv i c e. here.finds l sv i (omega arith) (omega arith) ∙ (skips_code l x (y ++ rest) (y ++ rest) (lacks_code around n l op (outside_above l _ _ c)) (skips_none l (y ++ rest))).by true sv i })
          (record { lacks = λ l c e. bo.lacks l (omega arith) (omega arith) })
          d su o a)))

      arms_well : {i : _} (arms : Row_of-Arm i) (around : Around) (to : List ℕ) (end n m value : ℕ) (mid rest : List Instruction) → Placed around end n (arm_count arms) m (labels_arms arms) mid (code_arms around to end n m arms) rest
          → (others : State → ℕ → Run) (d : ℕ) (st : State) → ((k : ℕ) → After d around rest (others st k) → Well (d + 3 + 1) (mid ++ (code_arms around to end n m arms ++ Label end false ∷ rest)) (At st) (left st) k)
          → (k : ℕ) → After d around rest (run_arms g cr value to arms others st k) → Well (d + 5) (tests value n arms ++ (mid ++ (code_arms around to end n m arms ++ Label end false ∷ rest))) (At st) (left st) k
      arms_well end_of-Arm around to end n m value mid rest pl others d st ow k h = let w = ow k h in record { by = λ j i lt le. w.by j i lt (omega arith) }
      arms_well (more_of-Arm [] p q ops results arms) around to end n m value mid rest pl others d st ow k h =
          let o = pl.order in let a = pl.apart in
          arms_well arms around to end (n + 1) (m + 0) value mid rest (record {
            below = pl.below;
            order = omega arith;
            apart = omega arith;
            here = record { finds = λ l su i u v. pl.here.finds l su i (omega arith) (omega arith) };
            arms_lack = record { lacks = λ l u v. pl.arms_lack.lacks l (omega arith) (omega arith) };
            codes_lack = record { lacks = λ l u v. pl.codes_lack.lacks l (omega arith) (omega arith) };
            beyond = record { lacks = λ l u v. pl.beyond.lacks l (omega arith) (omega arith) };
          }) others d st ow k h
      arms_well (more_of-Arm (r ∷ rs) p q ops results arms) around to end n m value mid rest pl others d st ow k h =
          let o : end < n = pl.order in let a : n + (1 + arm_count arms) ≤ m = pl.apart in
          let m' = m + labels_all ops in
          let x = code_all around m ops in
          let b = Jump end ∷ Label n false ∷ (x ++ hand_code to results) in
          let later = code_arms around to end (n + 1) m' arms in
          let behind = later ++ Label end false ∷ rest in
          let t = tests value (n + 1) arms in
          let first = gives (run_all g cr ops) to results in
          let second = run_arms g cr value to arms others in
          let inner : (b ++ later) ++ Label end false ∷ rest ≡ b ++ behind = append_assoc b later (Label end false ∷ rest) in
          let split : mid ++ ((b ++ later) ++ Label end false ∷ rest) ≡ (mid ++ b) ++ behind = ap (λ z. mid ++ z) inner ∙ sym (append_assoc mid b behind) in
          let unsplit : mid ++ ((b ++ later) ++ Label end false ∷ rest) ≡ mid ++ (b ++ behind) = ap (λ z. mid ++ z) inner in
          let here = subst (Here m (labels_all ops + labels_arms arms)) unsplit pl.here in
          let b_lacks : (l : ℕ) → l ≢ n → Outside l m (labels_all ops) → Lacks l b = λ l e u. lacks_jump l end _ (lacks_label l n false _ e (lacks_append l x _ (lacks_all around m l ops u) (lacks_hand_code l to results))) in
          let first_well = region_of around m (labels_all ops) x behind to results (run_all g cr ops)
          (λ z he' bo'. all_well ops around m z (below_more around end m (omega arith) pl.below) he' bo')
          (record { finds = λ l su i u v. here.finds l su i (omega arith) (omega arith) ∙ (skips_code l mid _ _ (pl.codes_lack.lacks l (omega arith) (omega arith)) (skips_jump l end _ _ (skips_label l n false _ _ (λ e. absurd (omega arith)) (skips_none l _)))).by true su i })
          (record { lacks = λ l u v. lacks_append l later _ (lacks_arms around to end (n + 1) m' l arms (outside_above l _ _ (omega arith)) (outside_below l _ _ (omega arith))) (lacks_label l end false rest (λ e. absurd (omega arith)) (pl.beyond.lacks l (omega arith) (omega arith))) }) in
          let placed : Placed around end (n + 1) (arm_count arms) m' (labels_arms arms) (mid ++ b) later rest = record {
            below = pl.below;
            order = omega arith;
            apart = omega arith;
            here = subst (Here m' (labels_arms arms)) split (record { finds = λ l su i u v. pl.here.finds l su i (omega arith) (omega arith) });
            arms_lack = record { lacks = λ l u v. lacks_append l mid b (pl.arms_lack.lacks l (omega arith) (omega arith)) (b_lacks l (λ e. absurd (omega arith)) (outside_below l _ _ (omega arith))) };
            codes_lack = record { lacks = λ l u v. lacks_append l mid b (pl.codes_lack.lacks l (omega arith) (omega arith)) (b_lacks l (λ e. absurd (omega arith)) (outside_above l _ _ u)) };
            beyond = record { lacks = λ l u v. pl.beyond.lacks l (omega arith) (omega arith) };
          } in
          let arm : Arm value n r rs t (mid ++ ((b ++ later) ++ Label end false ∷ rest)) rest d around st first second = record {
            hit = λ i c le s j lt.
                subst (λ z. Q (finish g cl code j z))
                (sym (ap (λ z. sweep g cl (t ++ z) (Seek false n st i)) unsplit
                ∙ (skips_code n t _ _ (lacks_tests n value (n + 1) arms) (skips_code n mid _ _ (pl.arms_lack.lacks n (omega arith) (omega arith)) (skips_jump n end _ _ (skips_none n _)))).by false st i
                ∙ ap (sweep g cl ((x ++ hand_code to results) ++ behind)) (label_same n false false st i)))
                ((first_well (d + 3) st c (joined d 3 around behind rest (first st c) (passes_arms arms around to end (n + 1) m' rest pl.below (omega arith) (omega arith)) (joins_arms arms around to end (n + 1) m' rest (omega arith) (omega arith)) s)).by j (i + 1) lt (omega arith));
            miss = λ c s. subst (λ z. Well (d + 5) (t ++ z) (At st) (left st) c) (sym split)
                (arms_well arms around to end (n + 1) m' value (mid ++ b) rest placed others d st (λ i u. subst (λ z. Well (d + 3 + 1) z (At st) (left st) i) split (ow i u)) c s);
          } in
          arm_well value n r rs t (mid ++ ((b ++ later) ++ Label end false ∷ rest)) rest d around st first second arm k h
