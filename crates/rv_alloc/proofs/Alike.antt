-- Linear code over other numbers for its values does the same, where no two of its values get the same number.
use Rattle.std.proofs.Common.{◌≡◌, ℕ, zero, suc, ◌+◌, ◌*◌, List, [], ◌∷◌, length, map, Option, Some, None, Bool, true, false, refl, sym, ap, ◌∙◌, subst, arith}
use Rattle.std.specs.Prelude.{◌==◌, nat_eq, nat_le, ◌&&◌, ◌-◌, if◌then◌else◌, Contains}
use Rattle.std.specs.List.{AllByRecursion as Each}
use Rattle.rv_isa.specs.Arithmetic.{holds, signed_of}
use Rattle.rv_isa.specs.declared.service.Service.{Service}
use Rattle.rv_isa.specs.declared.service.Service.TheVariants.{End, Stop, PutConsole, GetConsole, Open, Close, PutStream, GetStream, State as state_of}
use Rattle.rv_image.specs.Streams.{Served, Finishes, Replies, served}
use Rattle.ir_form.specs.declared.plain.Plain.{Plain as PlainOp}
use Rattle.ir_form.specs.declared.plain.Plain.TheVariants.{Constant, Global, Heap, Frame, Text, Compute, Load, Store, Ask, Call, Raise, Throw, Take, Give}
use Rattle.ir_form.specs.Place.{Setting}
use Rattle.ir_form.specs.Cells.{memory_of, loaded, stored}
use Rattle.ir_form.specs.State.{Env, State, Stuck, How, Next, Left, Ends, Throws, Over, Run, next, raised, over, on_how, on_run, needs, with_value, listed, words_of, bound, binds, turn_from, other_from, begins}
use Rattle.ir_form.specs.Cost.{plain_price, range_price, guard_price}
use Rattle.ir_form.specs.Plain.{Calls, most_rooms, storage, defines, stack_top, with_array, without_array, on_word, service_of, is_accepted, replied, does, act}
use Rattle.ir_form.specs.Meaning.{takes_words, hands, is_in, takes_up}
use Rattle.ir_form.specs.Units.{Head, no_values, opened, enters_at, restored, returned, called}
use Rattle.ir_form.specs.Lawful.{plain_numbers}
use Rattle.ir_form.specs.Values.{asked}
use Rattle.rv_flat.specs.declared.linear.Handler.{Handler}
use Rattle.rv_flat.specs.declared.linear.Instruction.{Instruction}
use Rattle.rv_flat.specs.declared.linear.Instruction.TheVariants.{Plain, Guarded, Open as Opens, Branch, Within, Hand, Jump, Label, Back}
use Rattle.rv_flat.specs.Linear.{Config, At, Seek, Done, config, config_of, wants, seek_run, handled, handled_run, do_one, pass_one, one as one', sweep, finish, run_code}
use Rattle.rv_flat.specs.Parts.{gathered, instruction_numbers}
use Rattle.ir_form.proofs.Each.{front, back}
use Rattle.rv_alloc.specs.Renamed.{renamed_service, renamed_plain, renamed_handler, renamed}

-- no two of these values get the same number
pub record OneToOne (f : ℕ → ℕ) (named : List ℕ) : Type 0 where
  pub same : (v w : ℕ) → Contains named v → Contains named w → f v ≡ f w → v ≡ w

-- one environment has at each value's number what the other has at the value
pub record Agrees (f : ℕ → ℕ) (named : List ℕ) (env e : Env) : Type 0 where
  pub at : (v : ℕ) → Contains named v → e (f v) ≡ env v

-- they are asked to agree only where the activation goes on, or has an exception
abbrev pub KeptAt : (going thrown : Env → Env → Type 0) → How → (env e : Env) → Type 0
KeptAt going thrown Next env e = going env e
KeptAt going thrown (Left k ws) env e = Unit {0}
KeptAt going thrown (Ends ws) env e = Unit {0}
KeptAt going thrown (Throws kind line) env e = thrown env e
KeptAt going thrown (Over v) env e = Unit {0}

abbrev pub with_env : Run → Env → Run
with_env r e = record { how = r.how; state = record r.state { env = e }; cost = r.cost }

-- the same run but for its environment, of which this is known
pub record AlikeBy (going thrown : Env → Env → Type 0) (r s : Run) : Type 0 where
  pub env : Env
  pub kept : KeptAt going thrown r.how r.state.env env
  pub same : s ≡ with_env r env

-- the environment agrees by the numbers of one routine
abbrev pub Alike : (f : ℕ → ℕ) (named : List ℕ) → (r s : Run) → Type 0
Alike f named r s = AlikeBy (Agrees f named) (Agrees f named) r s

-- the same run but for its environment
pub record SameRun (r s : Run) : Type 0 where
  pub env : Env
  pub same : s ≡ with_env r env

pub record CallsAlike (cl cr : Calls) : Type 0 where
  pub alike : (f : ℕ → ℕ) (named : List ℕ) → OneToOne f named → (k : ℕ) (arguments to : List ℕ) (line : ℕ) (st : State) (e : Env) (c : ℕ) → Agrees f named st.env e
      → Each (Contains named) arguments → Each (Contains named) to → Alike f named (cl k arguments to line st c) (cr k (map f arguments) (map f to) line (record st { env = e }) c)

eq_same : (a b c d : ℕ) → (a ≡ b → c ≡ d) → (c ≡ d → a ≡ b) → nat_eq a b ≡ nat_eq c d
eq_same a b c d h k = grind arith

near_by : (going thrown : Env → Env → Type 0) (how : How) (st : State) (e : Env) (c : ℕ) → KeptAt going thrown how st.env e → AlikeBy going thrown (record { how = how; state = st; cost = c }) (record { how = how; state = record st { env = e }; cost = c })
near_by going thrown how st e c k = record { env = e; kept = k; same = refl }

needs_by : (going thrown : Env → Env → Type 0) {A : Type 0} (o p : Option A) → p ≡ o → (st : State) (e : Env) (c : ℕ) (gl gr : A → Run) → ((v : A) → AlikeBy going thrown (gl v) (gr v)) → AlikeBy going thrown (needs o st c gl) (needs p (record st { env = e }) c gr)
needs_by going thrown {A} o p same st e c gl gr h = subst (λ q. AlikeBy going thrown (needs o st c gl) (needs q (record st { env = e }) c gr)) (sym same) (at o)
  where
    at : (q : Option A) → AlikeBy going thrown (needs q st c gl) (needs q (record st { env = e }) c gr)
    at None = near_by going thrown _ st e c tt
    at (Some v) = h v

module _ (f : ℕ → ℕ) (named : List ℕ) where
  pub near : (how : How) (st : State) (e : Env) (c : ℕ) → KeptAt (Agrees f named) (Agrees f named) how st.env e → Alike f named (record { how = how; state = st; cost = c }) (record { how = how; state = record st { env = e }; cost = c })
  near how st e c k = near_by (Agrees f named) (Agrees f named) how st e c k

  needs_alike : {A : Type 0} (o p : Option A) → p ≡ o → (st : State) (e : Env) (c : ℕ) (gl gr : A → Run) → ((v : A) → Alike f named (gl v) (gr v)) → Alike f named (needs o st c gl) (needs p (record st { env = e }) c gr)
  needs_alike o p same st e c gl gr h = needs_by (Agrees f named) (Agrees f named) o p same st e c gl gr h

  words_same : (env e : Env) → Agrees f named env e → (values : List ℕ) → Each (Contains named) values → words_of e (map f values) ≡ words_of env values
  words_same env e a [] h = refl
  words_same env e a (v ∷ vs) h = ap (λ o. listed o (words_of e (map f vs))) (a.at v h.0) ∙ ap (listed (env v)) (words_same env e a vs h.1)

  module _ (one : OneToOne f named) where
    with_agrees : (env e : Env) (x w : ℕ) → Agrees f named env e → Contains named x → Agrees f named (with_value env x w) (with_value e (f x) w)
    with_agrees env e x w a h = record {
      at = λ v k.
          ap (λ b. if b then Some w else e (f v)) (eq_same (f v) (f x) v x (one.same v x k h) (λ i. ap f i)) ∙ ap (λ o. if v == x then Some w else o) (a.at v k);
    }

    abbrev BoundAlike : Option Env → Option Env → Type 0
    BoundAlike None None = Unit {0}
    BoundAlike None (Some b) = ⊥
    BoundAlike (Some a) None = ⊥
    BoundAlike (Some a) (Some b) = Agrees f named a b

    bound_alike : (to ws : List ℕ) (env e : Env) → Agrees f named env e → Each (Contains named) to → BoundAlike (bound to ws env) (bound (map f to) ws e)
    bound_alike [] [] env e a h = a
    bound_alike [] (w ∷ ws) env e a h = tt
    bound_alike (x ∷ xs) [] env e a h = tt
    bound_alike (x ∷ xs) (w ∷ ws) env e a h = bound_alike xs ws (with_value env x w) (with_value e (f x) w) (with_agrees env e x w a h.0) h.1

    taken_alike : (thrown : Env → Env → Type 0) (o p : Option Env) → BoundAlike o p → (st : State) (e : Env) (c : ℕ) → AlikeBy (Agrees f named) thrown (needs o st c (λ env. next (record st { env = env }) c)) (needs p (record st { env = e }) c (λ env. next (record st { env = env }) c))
    taken_alike thrown None None b st e c = near_by (Agrees f named) thrown _ st e c tt
    taken_alike thrown None (Some y) b st e c = absurd b
    taken_alike thrown (Some x) None b st e c = absurd b
    taken_alike thrown (Some x) (Some y) b st e c = near_by (Agrees f named) thrown Next (record st { env = x }) y c b

    -- no exception comes from there
    pub binds_by : (thrown : Env → Env → Type 0) (to ws : List ℕ) (st : State) (e : Env) (c : ℕ) → Agrees f named st.env e → Each (Contains named) to → AlikeBy (Agrees f named) thrown (binds to ws st c) (binds (map f to) ws (record st { env = e }) c)
    binds_by thrown to ws st e c a h = taken_alike thrown _ _ (bound_alike to ws st.env e a h) st e c

    pub binds_alike : (to ws : List ℕ) (st : State) (e : Env) (c : ℕ) → Agrees f named st.env e → Each (Contains named) to → Alike f named (binds to ws st c) (binds (map f to) ws (record st { env = e }) c)
    binds_alike to ws st e c a h = binds_by (Agrees f named) to ws st e c a h

    takes_up_alike : (g : Setting) (mark : ℕ) (to : List ℕ) (kind line : ℕ) (st : State) (e : Env) (c : ℕ) → Agrees f named st.env e → Each (Contains named) to
        → Alike f named (takes_up g mark to kind line st c) (takes_up g mark (map f to) kind line (record st { env = e }) c)
    takes_up_alike g mark to kind line st e c a h =
        needs_alike (st.marks mark) (st.marks mark) refl st e c _ _ (λ taken. binds_alike to (kind ∷ line ∷ []) (without_array g (st.taken - taken) st) e c a h)

    takes_words_alike : (to ws : List ℕ) (st : State) (e : Env) (c : ℕ) → Agrees f named st.env e → Each (Contains named) to → Alike f named (takes_words to ws st c) (takes_words (map f to) ws (record st { env = e }) c)
    takes_words_alike to [] st e c a h = near Next st e c a
    takes_words_alike to (w ∷ ws) st e c a h = binds_alike to (w ∷ ws) st e c a h

    length_map : (values : List ℕ) → length (map f values) ≡ length values
    length_map [] = refl
    length_map (v ∷ vs) = ap suc (length_map vs)

    hands_alike : (to from : List ℕ) (st : State) (e : Env) (c : ℕ) → Agrees f named st.env e → Each (Contains named) to → Each (Contains named) from → Alike f named (hands to from st c) (hands (map f to) (map f from) (record st { env = e }) c)
    hands_alike to from st e c a h k =
        subst (λ n. Alike f named (hands to from st c) (needs (words_of e (map f from)) (record st { env = e }) c (λ ws. takes_words (map f to) ws (record st { env = e }) (c + 12 * n)))) (sym (length_map from))
        (needs_alike (words_of st.env from) (words_of e (map f from)) (words_same st.env e a from k) st e c _ _ (λ ws. takes_words_alike to ws st e (c + 12 * length from) a h))

    turn_alike : (t : ℕ) (st : State) (e : Env) (c : ℕ) → Agrees f named st.env e → Alike f named (turn_from t st c) (turn_from t (record st { env = e }) c)
    turn_alike zero st e c a = near _ st e c tt
    turn_alike (suc t) st e c a = near Next (record st { turns = t }) e c a

    other_alike : (s : ℕ) (st : State) (e : Env) (c : ℕ) → Agrees f named st.env e → Alike f named (other_from s st c) (other_from s (record st { env = e }) c)
    other_alike zero st e c a = near _ st e c tt
    other_alike (suc s) st e c a = near Next (record st { others = s }) e c a

    begins_alike : (marked again : Bool) (st : State) (e : Env) (c : ℕ) → Agrees f named st.env e → Alike f named (begins marked again st c) (begins marked again (record st { env = e }) c)
    begins_alike true again st e c a = turn_alike st.turns st e c a
    begins_alike false true st e c a = other_alike st.others st e c a
    begins_alike false false st e c a = near Next st e c a

    defines_alike : (x w : ℕ) (st : State) (e : Env) (c : ℕ) → Agrees f named st.env e → Contains named x → Alike f named (defines x w st c) (defines (f x) w (record st { env = e }) c)
    defines_alike x w st e c a h = near Next (record st { env = with_value st.env x w }) (with_value e (f x) w) c (with_agrees st.env e x w a h)

    replied_alike : (x : ℕ) (s : Served) (st : State) (e : Env) (c : ℕ) → Agrees f named st.env e → Contains named x → Alike f named (replied x s st c) (replied (f x) s (record st { env = e }) c)
    replied_alike x (Finishes how w) st e c a h = near _ (record st { world = w }) e c tt
    replied_alike x (Replies reply w) st e c a h = defines_alike x reply (record st { world = w }) e c a h

    takes_alike : (b : Bool) (g : Setting) (x line w : ℕ) (st : State) (e : Env) (c : ℕ) → Agrees f named st.env e → Contains named x
        → Alike f named (if b then defines x (stack_top g (with_array g w st)) (with_array g w st) c else raised storage line st c)
        (if b then defines (f x) (stack_top g (with_array g w st)) (record (with_array g w st) { env = e }) c else raised storage line (record st { env = e }) c)
    takes_alike true g x line w st e c a h = defines_alike x (stack_top g (with_array g w st)) (with_array g w st) e c a h
    takes_alike false g x line w st e c a h = near _ st e c a

    word_same : (env e : Env) → Agrees f named env e → (x : ℕ) → Contains named x → (gl gr : ℕ → Option Service) → ((w : ℕ) → gr w ≡ gl w) → on_word e (f x) gr ≡ on_word env x gl
    word_same env e a x h gl gr k = ap (λ o. on_word (λ y. o) x gr) (a.at x h) ∙ at (env x)
      where
        at : (o : Option ℕ) → on_word (λ y. o) x gr ≡ on_word (λ y. o) x gl
        at None = refl
        at (Some w) = k w

    service_same : (env e : Env) → Agrees f named env e → (s : Service) → Each (Contains named) (asked s) → service_of e (renamed_service f s) ≡ service_of env s
    service_same env e a End h = refl
    service_same env e a (Stop kind line) h = word_same env e a kind h.0 _ _ (λ k. word_same env e a line h.1.0 _ _ (λ l. refl))
    service_same env e a (PutConsole at size) h = word_same env e a at h.0 _ _ (λ k. word_same env e a size h.1.0 _ _ (λ l. refl))
    service_same env e a GetConsole h = refl
    service_same env e a (Open at size mode) h = word_same env e a at h.0 _ _ (λ k. word_same env e a size h.1.0 _ _ (λ l. word_same env e a mode h.1.1.0 _ _ (λ m. refl)))
    service_same env e a (Close stream) h = word_same env e a stream h.0 _ _ (λ k. refl)
    service_same env e a (PutStream stream at size) h = word_same env e a stream h.0 _ _ (λ s. word_same env e a at h.1.0 _ _ (λ k. word_same env e a size h.1.1.0 _ _ (λ l. refl)))
    service_same env e a (GetStream stream) h = word_same env e a stream h.0 _ _ (λ k. refl)
    service_same env e a (state_of stream) h = word_same env e a stream h.0 _ _ (λ k. refl)

    raised_alike : (b : Bool) (kind line : ℕ) (st : State) (e : Env) (c : ℕ) → Agrees f named st.env e
        → Alike f named (if b then raised kind line st c else over Stuck st c) (if b then raised kind line (record st { env = e }) c else over Stuck (record st { env = e }) c)
    raised_alike true kind line st e c a = near _ st e c a
    raised_alike false kind line st e c a = near _ st e c tt

    module _ (g : Setting) (cl cr : Calls) (calls : CallsAlike cl cr) where
      does_alike : (p : PlainOp) (st : State) (e : Env) (c : ℕ) → Agrees f named st.env e → Each (Contains named) (plain_numbers p) → Alike f named (does g cl p st c) (does g cr (renamed_plain f p) (record st { env = e }) c)
      does_alike (Constant x word) st e c a h = defines_alike x _ st e c a h.0
      does_alike (Global x word) st e c a h = defines_alike x _ st e c a h.0
      does_alike (Heap x) st e c a h = defines_alike x _ st e c a h.0
      does_alike (Frame x word) st e c a h = defines_alike x _ st e c a h.0
      does_alike (Text x byte) st e c a h = defines_alike x _ st e c a h.0
      does_alike (Compute x op l r) st e c a h =
          needs_alike (st.env l) (e (f l)) (a.at l h.0) st e c _ _ (λ v. needs_alike (st.env r) (e (f r)) (a.at r h.1.0) st e c _ _ (λ w. defines_alike x _ st e c a h.1.1.0))
      does_alike (Load x width at) st e c a h =
          needs_alike (st.env at) (e (f at)) (a.at at h.0) st e c _ _ (λ v. needs_alike (loaded width st.cells v) (loaded width st.cells v) refl st e c _ _ (λ w. defines_alike x w st e c a h.1.0))
      does_alike (Store width at from) st e c a h =
          needs_alike (st.env at) (e (f at)) (a.at at h.0) st e c _ _ (λ v. needs_alike (st.env from) (e (f from)) (a.at from h.1.0) st e c _ _ (λ w.
          needs_alike (stored width st.cells v w) (stored width st.cells v w) refl st e c _ _ (λ cells. near Next (record st { cells = cells }) e c a)))
      does_alike (Ask x service) st e c a h =
          needs_alike (service_of st.env service) (service_of e (renamed_service f service)) (service_same st.env e a service (front (Contains named) (asked service) (x ∷ []) h)) st e c _ _ (λ what.
          needs_alike (if is_accepted g st.cells what then Some what else None) _ refl st e c _ _ (λ s.
          replied_alike x (served g.folder (memory_of st.cells) s st.world) st e c a (back (Contains named) (asked service) (x ∷ []) h).0))
      does_alike (Call k arguments to line) st e c a h = calls.alike f named one k arguments to line st e c a (front (Contains named) arguments to h) (back (Contains named) arguments to h)
      does_alike (Raise kind line) st e c a h = near _ st e c a
      does_alike (Throw kind line) st e c a h =
          needs_alike (st.env kind) (e (f kind)) (a.at kind h.0) st e c _ _ (λ k. needs_alike (st.env line) (e (f line)) (a.at line h.1.0) st e c _ _ (λ w.
          raised_alike (nat_le 1 k && nat_le k 21) k w st e c a))
      does_alike (Take x words line) st e c a h =
          needs_alike (st.env words) (e (f words)) (a.at words h.0) st e c _ _ (λ w. takes_alike (nat_le (st.rooms + w) most_rooms) g x line w st e c a h.1.0)
      does_alike (Give words) st e c a h = needs_alike (st.env words) (e (f words)) (a.at words h.0) st e c _ _ (λ w. near Next _ e c a)

      pub act_alike : (p : PlainOp) (st : State) (e : Env) (c : ℕ) → Agrees f named st.env e → Each (Contains named) (plain_numbers p) → Alike f named (act g cl p st c) (act g cr (renamed_plain f p) (record st { env = e }) c)
      act_alike p st e c a h =
          subst (λ n. Alike f named (act g cl p st c) (does g cr (renamed_plain f p) (record st { env = e }) (c + n))) (sym (price_same p)) (does_alike p st e (c + plain_price p) a h)
        where
          price_same : (q : PlainOp) → plain_price (renamed_plain f q) ≡ plain_price q
          price_same (Constant x word) = refl
          price_same (Global x word) = refl
          price_same (Heap x) = refl
          price_same (Frame x word) = refl
          price_same (Text x byte) = refl
          price_same (Compute x op l r) = refl
          price_same (Load x width at) = refl
          price_same (Store width at from) = refl
          price_same (Ask x service) = refl
          price_same (Call k arguments to line) = ap (λ n. 90 + 7 * n + 4 * length (map f to)) (length_map arguments) ∙ ap (λ n. 90 + 7 * length arguments + 4 * n) (length_map to)
          price_same (Raise kind line) = refl
          price_same (Throw kind line) = refl
          price_same (Take x words line) = refl
          price_same (Give words) = refl

  -- where two runs of an activation are
  abbrev ConfigAlike : Config → Config → Type 0
  ConfigAlike (At st c) k = (e : Env) × Agrees f named st.env e × (k ≡ At (record st { env = e }) c)
  ConfigAlike (Seek again label st c) k = (e : Env) × Agrees f named st.env e × (k ≡ Seek again label (record st { env = e }) c)
  ConfigAlike (Done how st c) k = (e : Env) × (k ≡ Done how (record st { env = e }) c)

  how_config : (how : How) (st : State) (e : Env) (c : ℕ) → KeptAt (Agrees f named) (Agrees f named) how st.env e → ConfigAlike (config how st c) (config how (record st { env = e }) c)
  how_config Next st e c k = (e, k, refl)
  how_config (Left i ws) st e c k = (e, refl)
  how_config (Ends ws) st e c k = (e, refl)
  how_config (Throws kind line) st e c k = (e, refl)
  how_config (Over v) st e c k = (e, refl)

  config_alike : (r s : Run) → Alike f named r s → ConfigAlike (config_of r) (config_of s)
  config_alike r s h = subst (λ (x : Run). ConfigAlike (config_of r) (config_of x)) (sym h.same) (how_config r.how r.state h.env r.cost h.kept)

  -- an exception that is taken
  seek_alike : (label : ℕ) (r s : Run) → Alike f named r s → ConfigAlike (seek_run label r) (seek_run label s)
  seek_alike label r s h = subst (λ (x : Run). ConfigAlike (seek_run label r) (seek_run label x)) (sym h.same) (at r.how r.state h.env r.cost h.kept)
    where
      at : (how : How) (st : State) (e : Env) (c : ℕ) → KeptAt (Agrees f named) (Agrees f named) how st.env e → ConfigAlike (seek_run label (record { how = how; state = st; cost = c })) (seek_run label (record { how = how; state = record st { env = e }; cost = c }))
      at Next st e c k = (e, k, refl)
      at (Left i ws) st e c k = (e, refl)
      at (Ends ws) st e c k = (e, refl)
      at (Throws kind line) st e c k = (e, refl)
      at (Over v) st e c k = (e, refl)

  handled_alike : OneToOne f named → (g : Setting) (t : Handler) → Each (Contains named) t.to → (r s : Run) → Alike f named r s → ConfigAlike (handled_run g t r) (handled_run g (renamed_handler f t) s)
  handled_alike one g t to r s h = subst (λ (x : Run). ConfigAlike (handled_run g t r) (handled_run g (renamed_handler f t) x)) (sym h.same) (at r.how r.state h.env r.cost h.kept)
    where
      at : (how : How) (st : State) (e : Env) (c : ℕ) → KeptAt (Agrees f named) (Agrees f named) how st.env e → ConfigAlike (handled g t how st c) (handled g (renamed_handler f t) how (record st { env = e }) c)
      at Next st e c k = (e, k, refl)
      at (Left i ws) st e c k = (e, refl)
      at (Ends ws) st e c k = (e, refl)
      at (Throws kind line) st e c k = seek_alike t.label _ _ (takes_up_alike one g t.mark t.to kind line st e (c + guard_price) k to)
      at (Over v) st e c k = (e, refl)

  wants_alike : {A : Type 0} (o p : Option A) → p ≡ o → (st : State) (e : Env) (c : ℕ) (gl gr : A → Config) → ((v : A) → ConfigAlike (gl v) (gr v)) → ConfigAlike (wants o st c gl) (wants p (record st { env = e }) c gr)
  wants_alike {A} o p same st e c gl gr h = subst (λ q. ConfigAlike (wants o st c gl) (wants q (record st { env = e }) c gr)) (sym same) (at o)
    where
      at : (q : Option A) → ConfigAlike (wants q st c gl) (wants q (record st { env = e }) c gr)
      at None = (e, refl)
      at (Some v) = h v

  either_alike : (b : Bool) (x y u v : Config) → ConfigAlike x u → ConfigAlike y v → ConfigAlike (if b then x else y) (if b then u else v)
  either_alike true x y u v h k = h
  either_alike false x y u v h k = k

  module _ (one : OneToOne f named) (g : Setting) (cl cr : Calls) (calls : CallsAlike cl cr) where
    here_alike : (i : Instruction) (st : State) (e : Env) (c : ℕ) → Agrees f named st.env e → Each (Contains named) (instruction_numbers i) → ConfigAlike (do_one g cl i st c) (do_one g cr (renamed f i) (record st { env = e }) c)
    here_alike (Plain p) st e c a h = config_alike _ _ (act_alike one g cl cr calls p st e c a h)
    here_alike (Guarded p t) st e c a h =
        handled_alike one g t (back (Contains named) (plain_numbers p) t.to h) _ _ (act_alike one g cl cr calls p st e c a (front (Contains named) (plain_numbers p) t.to h))
    here_alike (Opens mark) st e c a h = (e, a, refl)
    here_alike (Branch relation l r label) st e c a h =
        wants_alike (st.env l) (e (f l)) (a.at l h.0) st e (c + 9) _ _ (λ v. wants_alike (st.env r) (e (f r)) (a.at r h.1.0) st e (c + 9) _ _ (λ w.
        either_alike (holds relation v w) (At st (c + 9)) (Seek false label st (c + 9)) _ _ (e, a, refl) (e, a, refl)))
    here_alike (Within x range label) st e c a h =
        wants_alike (st.env x) (e (f x)) (a.at x h.0) st e (c + range_price) _ _ (λ v.
        either_alike (is_in (signed_of v) range) (Seek false label st (c + range_price)) (At st (c + range_price)) _ _ (e, a, refl) (e, a, refl))
    here_alike (Hand to from) st e c a h = config_alike _ _ (hands_alike one to from st e (c + 1) a (front (Contains named) to from h) (back (Contains named) to from h))
    here_alike (Jump label) st e c a h = (e, a, refl)
    here_alike (Label label marked) st e c a h = config_alike _ _ (begins_alike one marked false st e (c + 1) a)
    here_alike (Back values) st e c a h =
        subst (λ n. ConfigAlike (do_one g cl (Back values) st c) (wants (words_of e (map f values)) (record st { env = e }) (c + 7) (λ ws. Done (Ends ws) (record st { env = e }) (c + 7 + 8 * n)))) (sym (length_map one values))
        (wants_alike (words_of st.env values) (words_of e (map f values)) (words_same st.env e a values h) st e (c + 7) _ _ (λ ws. (e, refl)))

    label_alike : (b : Bool) (again : Bool) (sought : ℕ) (marked : Bool) (st : State) (e : Env) (c : ℕ) → Agrees f named st.env e
        → ConfigAlike (if b then config_of (begins marked again st (c + 1)) else Seek again sought st c) (if b then config_of (begins marked again (record st { env = e }) (c + 1)) else Seek again sought (record st { env = e }) c)
    label_alike true again sought marked st e c a = config_alike _ _ (begins_alike one marked again st e (c + 1) a)
    label_alike false again sought marked st e c a = (e, a, refl)

    past_alike : (i : Instruction) (again : Bool) (sought : ℕ) (st : State) (e : Env) (c : ℕ) → Agrees f named st.env e → ConfigAlike (pass_one i again sought st c) (pass_one (renamed f i) again sought (record st { env = e }) c)
    past_alike (Plain p) again sought st e c a = (e, a, refl)
    past_alike (Guarded p t) again sought st e c a = (e, a, refl)
    past_alike (Opens mark) again sought st e c a = (e, a, refl)
    past_alike (Branch relation l r label) again sought st e c a = (e, a, refl)
    past_alike (Within x range label) again sought st e c a = (e, a, refl)
    past_alike (Hand to from) again sought st e c a = (e, a, refl)
    past_alike (Jump label) again sought st e c a = (e, a, refl)
    past_alike (Label label marked) again sought st e c a = label_alike (sought == label) again sought marked st e c a
    past_alike (Back values) again sought st e c a = (e, a, refl)

    one_alike : (i : Instruction) (k l : Config) → Each (Contains named) (instruction_numbers i) → ConfigAlike k l → ConfigAlike (one' g cl i k) (one' g cr (renamed f i) l)
    one_alike i (At st c) l h (e, a, same) = subst (λ x. ConfigAlike (do_one g cl i st c) (one' g cr (renamed f i) x)) (sym same) (here_alike i st e c a h)
    one_alike i (Seek again label st c) l h (e, a, same) = subst (λ x. ConfigAlike (pass_one i again label st c) (one' g cr (renamed f i) x)) (sym same) (past_alike i again label st e c a)
    one_alike i (Done how st c) l h (e, same) = subst (λ x. ConfigAlike (Done how st c) (one' g cr (renamed f i) x)) (sym same) (e, refl)

    sweep_alike : (code : List Instruction) (k l : Config) → Each (Contains named) (gathered instruction_numbers code) → ConfigAlike k l → ConfigAlike (sweep g cl code k) (sweep g cr (map (renamed f) code) l)
    sweep_alike [] k l h a = a
    sweep_alike (i ∷ is) k l h a =
        sweep_alike is _ _ (back (Contains named) (instruction_numbers i) (gathered instruction_numbers is) h) (one_alike i k l (front (Contains named) (instruction_numbers i) (gathered instruction_numbers is) h) a)

    finish_alike : (code : List Instruction) → Each (Contains named) (gathered instruction_numbers code) → (n : ℕ) (k l : Config) → ConfigAlike k l → SameRun (finish g cl code n k) (finish g cr (map (renamed f) code) n l)
    finish_alike code h zero (At st c) l (e, a, same) = record { env = e; same = ap (finish g cr (map (renamed f) code) zero) same }
    finish_alike code h (suc n) (At st c) l (e, a, same) = record { env = e; same = ap (finish g cr (map (renamed f) code) (suc n)) same }
    finish_alike code h zero (Done how st c) l (e, same) = record { env = e; same = ap (finish g cr (map (renamed f) code) zero) same }
    finish_alike code h (suc n) (Done how st c) l (e, same) = record { env = e; same = ap (finish g cr (map (renamed f) code) (suc n)) same }
    finish_alike code h zero (Seek again label st c) l (e, a, same) = record { env = e; same = ap (finish g cr (map (renamed f) code) zero) same }
    finish_alike code h (suc n) (Seek again label st c) l (e, a, same) =
        subst (λ x. SameRun (finish g cl code n (sweep g cl code (Seek true label st c))) (finish g cr (map (renamed f) code) (suc n) x)) (sym same)
        (finish_alike code h n _ _ (sweep_alike code (Seek true label st c) (Seek true label (record st { env = e }) c) h (e, a, refl)))

    pub code_alike : (code : List Instruction) → Each (Contains named) (gathered instruction_numbers code) → (st : State) (e : Env) (c : ℕ) → Agrees f named st.env e → SameRun (run_code g cl code st c) (run_code g cr (map (renamed f) code) (record st { env = e }) c)
    code_alike code h st e c a =
        let k = sweep g cl code (At st c) in let l = sweep g cr (map (renamed f) code) (At (record st { env = e }) c) in
        finish_alike code h (suc (st.turns + st.others)) k l (sweep_alike code (At st c) (At (record st { env = e }) c) h (e, a, refl))

-- a run behind another one, whose exceptions are those of the caller
run_alike : (before going thrown : Env → Env → Type 0) (r s : Run) (gl gr : State → ℕ → Run) → AlikeBy before thrown r s
    → ((st : State) (e : Env) (c : ℕ) → before st.env e → AlikeBy going thrown (gl st c) (gr (record st { env = e }) c)) → AlikeBy going thrown (on_run r gl) (on_run s gr)
run_alike before going thrown r s gl gr a k = subst (λ (x : Run). AlikeBy going thrown (on_run r gl) (on_run x gr)) (sym a.same) (at r.how r.state a.env r.cost a.kept)
  where
    at : (how : How) (st : State) (e : Env) (c : ℕ) → KeptAt before thrown how st.env e → AlikeBy going thrown (on_how how st c gl) (on_how how (record st { env = e }) c gr)
    at Next st e c i = k st e c i
    at (Left l ws) st e c i = near_by going thrown _ st e c tt
    at (Ends ws) st e c i = near_by going thrown _ st e c tt
    at (Throws kind line) st e c i = near_by going thrown _ st e c i
    at (Over v) st e c i = near_by going thrown _ st e c tt

abbrev pub head_over : (ℕ → ℕ) → Head → Head
head_over f h = record h { parameters = map f h.parameters }

-- a call, from a routine with other numbers
module _ (g : Setting) (f : ℕ → ℕ) (named : List ℕ) (callee : Head) (h : ℕ → ℕ) (hs : List ℕ) where
  room_alike : (b : Bool) (line : ℕ) (st : State) (e : Env) (c : ℕ) → Agrees h hs st.env e
      → AlikeBy (Agrees f named) (Agrees h hs) (if b then next (opened g callee (record st { rooms = st.rooms + callee.room })) c else raised storage line st c)
      (if b then next (opened g (head_over f callee) (record st { env = e; rooms = st.rooms + callee.room })) c else raised storage line (record st { env = e }) c)
  room_alike true line st e c a = near_by (Agrees f named) (Agrees h hs) Next (opened g callee (record st { rooms = st.rooms + callee.room })) no_values c (record { at = λ v k. refl })
  room_alike false line st e c a = near_by (Agrees f named) (Agrees h hs) _ st e c a

  enters_alike : (depth line : ℕ) (st : State) (e : Env) (c : ℕ) → Agrees h hs st.env e → AlikeBy (Agrees f named) (Agrees h hs) (enters_at depth g callee line st c) (enters_at depth g (head_over f callee) line (record st { env = e }) c)
  enters_alike zero line st e c a = at st.turns
    where
      at : (t : ℕ) → AlikeBy (Agrees f named) (Agrees h hs) (on_run (turn_from t st c) (λ su k. if nat_le (su.rooms + callee.room) most_rooms then next (opened g callee (record su { rooms = su.rooms + callee.room })) k else raised storage line su k))
          (on_run (turn_from t (record st { env = e }) c) (λ su k. if nat_le (su.rooms + callee.room) most_rooms then next (opened g (head_over f callee) (record su { rooms = su.rooms + callee.room })) k else raised storage line su k))
      at zero = near_by (Agrees f named) (Agrees h hs) _ st e c tt
      at (suc t) = room_alike (nat_le (st.rooms + callee.room) most_rooms) line (record st { turns = t }) e c a
  enters_alike (suc depth) line st e c a = near_by (Agrees f named) (Agrees h hs) Next (opened g callee (record st { deeper = st.deeper + callee.room })) no_values c (record { at = λ v k. refl })

  returned_alike : OneToOne h hs → (to : List ℕ) (st : State) (e : Env) → Agrees h hs st.env e → Each (Contains hs) to
      → (how : How) (su : State) (i : Env) (c : ℕ) → Alike h hs (returned callee to st how su c) (returned (head_over f callee) (map h to) (record st { env = e }) how (record su { env = i }) c)
  returned_alike one to st e a k Next su i c = near h hs _ su i c tt
  returned_alike one to st e a k (Left l ws) su i c = near h hs _ su i c tt
  returned_alike one to st e a k (Ends ws) su i c = binds_alike h hs one to ws (restored callee st su) e c a k
  returned_alike one to st e a k (Throws kind line) su i c = near h hs _ (restored callee st su) e c a
  returned_alike one to st e a k (Over v) su i c = near h hs _ su i c tt

  pub called_alike : OneToOne f named → Each (Contains named) callee.parameters → (bl br : State → ℕ → Run)
      → ((st : State) (e : Env) (c : ℕ) → Agrees f named st.env e → SameRun (bl st c) (br (record st { env = e }) c))
      → OneToOne h hs → (arguments to : List ℕ) (line : ℕ) (st : State) (e : Env) (c : ℕ) → Agrees h hs st.env e → Each (Contains hs) arguments → Each (Contains hs) to
      → Alike h hs (called g bl callee arguments to line st c) (called g br (head_over f callee) (map h arguments) (map h to) line (record st { env = e }) c)
  called_alike inner known bl br body one arguments to line st e c a k l =
      needs_alike h hs (words_of st.env arguments) (words_of e (map h arguments)) (words_same h hs st.env e a arguments k) st e c _ _ (λ ws.
      run_alike (Agrees f named) (Agrees h hs) (Agrees h hs) _ _ _ _ (enters_alike callee.depth line st e c a) (λ su i m b.
      run_alike (Agrees f named) (Agrees h hs) (Agrees h hs) _ _ _ _ (binds_by f named inner (Agrees h hs) callee.parameters ws su i m b known) (λ sv j n d.
      let r = bl sv n in let s = body sv j n d in
      subst (λ (x : Run). Alike h hs (returned callee to st r.how r.state r.cost) (returned (head_over f callee) (map h to) (record st { env = e }) x.how x.state x.cost)) (sym s.same)
      (returned_alike one to st e a l r.how r.state s.env r.cost))))
