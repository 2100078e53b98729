-- What statements and declarations do, over any store.
use Rattle.std.specs.Prelude.{ℕ, suc, ◌+◌, ◌*◌, Bool, true, false, List, [], ◌∷◌, length, slice_get, slice_index, Option, Some, None, ℤ, pos, int_le, if◌then◌else◌}
use Rattle.tu_base.specs.declared.kind.Kind.TheVariants as kind
use Rattle.tu_base.specs.declared.shape.Span.{Span}
use Rattle.tu_base.specs.Shapes.{span_length, elements, copy_words}
use Rattle.tu_base.specs.Values.{Value, Number, Bytes, Creation, Content, unset, alone, with_part, tagged, pointer_in}
use Rattle.tu_base.specs.Scalars.{are_equal, is_true, truth_number}
use Rattle.tu_base.specs.Texts.{put_int, put_truth, put_text, token_int, token_truth, token_text}
use Rattle.tu_base.specs.Reading.{token, line as whole_line, count}
use Rattle.tu_base.specs.Streams.{open_stream, close_stream}
use Rattle.tu_core.specs.declared.names.At.{At}
use Rattle.tu_core.specs.declared.names.Variable.{Variable}
use Rattle.tu_core.specs.declared.targets.Index.{Index}
use Rattle.tu_core.specs.declared.targets.Index.TheVariants.{Known, Open}
use Rattle.tu_core.specs.declared.targets.Size.{Size}
use Rattle.tu_core.specs.declared.targets.Target.{Target}
use Rattle.tu_core.specs.declared.targets.Target.TheVariants.{TakesScalar}
use Rattle.tu_core.specs.Core.{Scalar, Scalars, NoScalar, AndScalar, Optional, Absent, Present, Start, WithValue, WithCopy, WithParts, Starts, NoStart, AndStart, Range, FromTo, Through, Shown, NoneShown, ShowInt, ShowTruth, ShowText, Taken, NoneTaken, TakeInt, TakeTruth, TakeToken, TakeLine, TakeCount, Test, Plain, Assign, Copy, Exit, Return, Give, GiveCopy, Check, New, Free, Tag, Put, Get, OpenStream, Close, Do, Quit, Named, Declaration, Constant, InitClause, Variables, Started, Arrays, Collections, Mention, Statement, Simply, If, Loop, For, Case, Begin, Module, Block, Empty, Then, Declare, Bind, Otherwise, Else, Elsif, Arms, NoArm, Default, Labelled}
use Rattle.tu_core.specs.Nodes.{plain_nodes, statement_nodes, taken_nodes}
use Rattle.tu_core.specs.Rooms.{joins, target_words, open_words}
use Rattle.tu_meaning.specs.Steps.{Step, give, raise, change, pay, note, Began, take_room, scope, ◌>>=◌, ◌>>◌}
use Rattle.tu_meaning.specs.Store.{OfActivation, OfCollection, Place, place_of, Held, holds, holds_nothing}
use Rattle.tu_meaning.specs.Words.{answered, present, found, demand, unless_raised, kind_of, numbered, size_at, misfit, spans_of, union_of, span_of, living, make_element, remove_element, outside, keep_file, put_part, end_line, width_of, source_there, take_text, ValueBack, ContentBack, Flow, Next, Exits, Returns, GivesBack, and_then, rounds, rounds_over}
use Rattle.tu_meaning.specs.Expressions.{root_of, Taken as Caught, Running, shape, keep_invariant, fetched, bounds_of, value_at, evaluate, optional, stream_of, evaluate_text, evaluate_simple, locate, do_call}

-- the most bytes of a token that is no text
abbrev pub most_token : ℕ
most_token = 255

module _ {S : Type 0} (here : Running S) where
  abbrev pub words_at : (shape : ℕ) → ℕ
  words_at n = slice_index here.words n

  abbrev pub condition : (line : ℕ) → Scalar → Step S Bool
  condition line e = do
    z ← evaluate here line e
    give (is_true z)

  -- a value is tested against its target and stored there
  abbrev pub store : (line : ℕ) → Target → Place → Value → Step S (Unit {0})
  store line target p v = do
    bounds ← bounds_of here p.root
    unless_raised line (misfit target bounds v)
    change (λ s. here.passing.assign s p (alone v))

  -- What a name begins with, and the words that it costs to copy it. Each part of an `init` is tested before the next one is evaluated.
  abbrev mutual
    pub begin : (line : ℕ) → Start → Step S Content
    begin line (WithValue target e) = do
      v ← evaluate_simple here line e
      unless_raised line (misfit target [] v)
      give (alone v)
    begin line (WithCopy n path) = do
      p ← locate here line path
      fetched here p
    begin line (WithParts n starts) = do
      pay 1
      begin_all line 0 unset starts

    pub begin_all : (line : ℕ) → (component : ℕ) → Content → Starts → Step S Content
    begin_all line k content NoStart = give content
    begin_all line k content (AndStart start more) = do
      c ← begin line start
      begin_all line (suc k) (with_part content (k ∷ []) c) more

  abbrev pub start_words : Start → ℕ
  start_words (WithValue target e) = copy_words (target_words target)
  start_words (WithCopy n path) = copy_words (words_at n)
  start_words (WithParts n starts) = copy_words (words_at n)

  -- each name holds this, at a cost
  abbrev pub declare_all : List Variable → (units : ℕ) → Held → Step S (Unit {0})
  declare_all [] units h = give tt
  declare_all (x ∷ more) units h = do
    pay units
    change (λ s. here.passing.declare s (root_of x) h)
    declare_all more units h

  abbrev pub assign_all : List Variable → (units : ℕ) → Content → Step S (Unit {0})
  assign_all [] units content = give tt
  assign_all (x ∷ more) units content = do
    pay units
    change (λ s. here.passing.assign s (place_of (root_of x)) content)
    assign_all more units content

  -- a constant costs no words but those of a copy
  abbrev pub name_constant : (line : ℕ) → Named → Step S (Unit {0})
  name_constant line x = do
    pay 1
    content ← begin line x.start
    pay (start_words x.start)
    change (λ s. here.passing.declare s (root_of x.name) (holds content))

  abbrev pub name_constants : (line : ℕ) → List Named → Step S (Unit {0})
  name_constants line [] = give tt
  name_constants line (x ∷ more) = do
    name_constant line x
    name_constants line more

  -- The upper bounds that are evaluated, each tested before the next one is evaluated.
  abbrev pub upper_bounds : (line : ℕ) → List Index → Scalars → Step S (List ℤ)
  upper_bounds line [] es = give []
  upper_bounds line (Known s ∷ more) es = upper_bounds line more es
  upper_bounds line (Open low ∷ more) NoScalar = found None
  upper_bounds line (Open low ∷ more) (AndScalar e es) = do
    x ← evaluate here line e
    demand kind.Bounds line (int_le low x)
    rest ← upper_bounds line more es
    give (x ∷ rest)

  -- Arrays with run-time bounds: each takes the words of its elements, which it costs too.
  abbrev pub declare_arrays : (line : ℕ) → List Variable → (own_words element_words : ℕ) → (bounds : List ℤ) → Step S (Unit {0})
  declare_arrays line [] n m bounds = give tt
  declare_arrays line (x ∷ more) n m bounds = do
    take_room m line
    pay (n + m)
    change (λ s. here.passing.declare s (root_of x) (record { content = unset; bounds = bounds }))
    declare_arrays line more n m bounds

  -- Each declaration costs its nodes as it begins, a name in turn.
  abbrev pub declare : (line : ℕ) → Declaration → Step S (Unit {0})
  declare line (Constant x) = name_constant line x
  declare line (InitClause xs) = do
    pay 1
    name_constants line xs
  declare line (Variables xs n) = declare_all xs (1 + words_at n) holds_nothing
  -- the names are unset while their start is evaluated
  declare line (Started xs n start) = do
    declare_all xs (1 + words_at n) holds_nothing
    content ← begin line start
    assign_all xs (start_words start) content
  declare line (Arrays xs indexes component es) = do
    declare_all xs 1 holds_nothing
    bounds ← upper_bounds line indexes es
    declare_arrays line xs (open_words indexes) (elements (spans_of indexes bounds) * words_at component) bounds
  declare line (Collections cs) = pay (length cs)
  declare line (Mention c) = give tt

  abbrev pub width : (line : ℕ) → Optional → Step S ℕ
  width line e = do
    z ← optional here line (pos 0) e
    width_of line z

  -- each part is put before the next one is evaluated
  abbrev pub show : (line : ℕ) → (stream : Option ℤ) → Shown → Step S (Unit {0})
  show line stream NoneShown = give tt
  show line stream (ShowInt e w more) = do
    z ← evaluate here line e
    n ← width line w
    put_part line stream (put_int z n)
    show line stream more
  show line stream (ShowTruth e w more) = do
    b ← condition line e
    n ← width line w
    put_part line stream (put_truth b n)
    show line stream more
  show line stream (ShowText e w more) = do
    text ← evaluate_text here line e
    n ← width line w
    put_part line stream (put_text text n)
    show line stream more

  -- the most bytes that a place can take
  abbrev pub most_at : Size → Place → Step S ℕ
  most_at size p = do
    bounds ← bounds_of here p.root
    give (size_at size bounds)

  -- a text that was read is stored, at the cost of its bytes
  abbrev pub store_text : (line : ℕ) → Place → List ℕ → Step S (Unit {0})
  store_text line p text = do
    bytes ← answered line (token_text text)
    change (λ s. here.passing.assign s p (alone (Bytes bytes)))

  -- targets one after the other: the path, the input, the store
  abbrev pub get : (line : ℕ) → (stream : Option ℤ) → Taken → Step S (Unit {0})
  get line stream NoneTaken = give tt
  get line stream (TakeInt s path more) = do
    p ← locate here line path
    source_there line stream
    r ← take_text line stream (token most_token)
    z ← answered line (token_int r.reading.text)
    store line (TakesScalar s) p (Number z)
    get line stream more
  get line stream (TakeTruth path more) = do
    p ← locate here line path
    source_there line stream
    r ← take_text line stream (token most_token)
    b ← answered line (token_truth r.reading.text)
    change (λ s. here.passing.assign s p (alone (Number (truth_number b))))
    get line stream more
  get line stream (TakeToken size path more) = do
    p ← locate here line path
    source_there line stream
    most ← most_at size p
    r ← take_text line stream (token most)
    store_text line p r.reading.text
    get line stream more
  get line stream (TakeLine size path more) = do
    p ← locate here line path
    source_there line stream
    pay (taken_nodes (TakeLine size path more))
    most ← most_at size p
    r ← take_text line stream (whole_line most)
    store_text line p r.reading.text
    get line stream more
  get line stream (TakeCount size path e more) = do
    p ← locate here line path
    source_there line stream
    z ← evaluate here line e
    most ← most_at size p
    r ← take_text line stream (count most z)
    store_text line p r.reading.text
    get line stream more

  -- `quit` with the number of an exception, or with the exception that the handler took, at its own line
  abbrev pub quit : (line : ℕ) → Caught → Option ℤ → Step S Flow
  quit line taken (Some z) = raise (numbered z) line
  quit line None None = found None
  quit line (Some e) None = raise e.0 e.1

  -- A statement without blocks costs its nodes as it begins.
  abbrev pub execute_plain : (line : ℕ) → Plain → Step S Flow
  execute_plain line (Assign target path e) = do
    pay (plain_nodes (Assign target path e))
    p ← locate here line path
    v ← evaluate_simple here line e
    store line target p v
    pay (copy_words (target_words target))
    give Next
  execute_plain line (Copy n to from) = do
    pay (plain_nodes (Copy n to from))
    p ← locate here line to
    q ← locate here line from
    content ← fetched here q
    change (λ s. here.passing.assign s p content)
    pay (copy_words (words_at n))
    give Next
  execute_plain line (Exit Absent) = do
    pay (plain_nodes (Exit Absent))
    give Exits
  execute_plain line (Exit (Present e)) = do
    pay (plain_nodes (Exit (Present e)))
    leaves ← condition line e
    give (if leaves then Exits else Next)
  execute_plain line Return = do
    pay (plain_nodes Return)
    give Returns
  execute_plain line (Give target e) = do
    pay (plain_nodes (Give target e))
    v ← evaluate_simple here line e
    unless_raised line (misfit target [] v)
    pay (copy_words (target_words target))
    give (GivesBack (ValueBack v))
  execute_plain line (GiveCopy n path) = do
    pay (plain_nodes (GiveCopy n path))
    p ← locate here line path
    content ← fetched here p
    pay (copy_words (words_at n))
    give (GivesBack (ContentBack content))
  execute_plain line (Check claim e) = do
    pay (plain_nodes (Check claim e))
    holds ← condition line e
    demand (kind_of claim) line holds
    give Next
  -- the path, then the element with the next creation number, which is unset, and last the pointer
  execute_plain line (New c at path) = do
    pay (plain_nodes (New c at path))
    p ← locate here line path
    n ← found (slice_get here.program.collections c)
    k ← make_element line c (words_at n)
    change (λ s. here.passing.declare s (OfCollection c k) holds_nothing)
    change (λ s. here.passing.assign s p (alone (Creation k)))
    give Next
  -- the pointer becomes `nil` before its element is removed
  execute_plain line (Free c at path) = do
    pay (plain_nodes (Free c at path))
    p ← locate here line path
    v ← value_at here p
    k ← present line (pointer_in v)
    living line c k
    change (λ s. here.passing.assign s p (alone (Creation 0)))
    remove_element c k
    give Next
  -- a union's fields become unset as its tag is set
  execute_plain line (Tag n path e) = do
    pay (plain_nodes (Tag n path e))
    p ← locate here line path
    z ← evaluate here line e
    s ← shape here n
    u ← union_of s
    tag ← shape here u.0
    span ← span_of tag
    unless_raised line (misfit (TakesScalar span) [] (Number z))
    pay (words_at n)
    change (λ s. here.passing.assign s p (tagged z))
    give Next
  execute_plain line (Put stream shown ends_line) = do
    pay (plain_nodes (Put stream shown ends_line))
    k ← stream_of here line stream
    show line k shown
    end_line line k ends_line
    give Next
  execute_plain line (Get stream taken) = do
    pay (plain_nodes (Get stream taken))
    k ← stream_of here line stream
    get line k taken
    give Next
  -- `open` and `close` cost 64 beside their node, once their operands are there
  execute_plain line (OpenStream s path e is_put) = do
    pay (plain_nodes (OpenStream s path e is_put))
    p ← locate here line path
    name ← evaluate_text here line e
    pay 64
    k ← outside (open_stream is_put name)
    store line (TakesScalar s) p (Number (pos k))
    give Next
  execute_plain line (Close e) = do
    pay (plain_nodes (Close e))
    k ← evaluate here line e
    pay 64
    kept ← outside (close_stream k)
    keep_file line kept
    give Next
  execute_plain line (Do call) = do
    pay (plain_nodes (Do call))
    back ← do_call here line call
    give Next
  execute_plain line (Quit number) = do
    pay (plain_nodes (Quit number))
    k ← stream_of here line number
    quit line here.taken k

  -- the first value of a range, and how many there are
  abbrev pub range_of : (decreasing : Bool) → Span → ℤ × ℕ
  range_of false s = (s.low, span_length s)
  range_of true s = (s.high, span_length s)

  abbrev pub first_and_count : (line : ℕ) → (decreasing : Bool) → Range → Step S (ℤ × ℕ)
  first_and_count line false (FromTo a b) = do
    x ← evaluate here line a
    y ← evaluate here line b
    give (x, span_length (record { low = x; high = y }))
  first_and_count line true (FromTo a b) = do
    x ← evaluate here line a
    y ← evaluate here line b
    give (x, span_length (record { low = y; high = x }))
  first_and_count line decreasing (Through s) = give (range_of decreasing s)

  -- the labels that are compared with a number, each for a unit, and whether one is equal
  abbrev pub is_labelled : List ℤ → ℤ → Step S Bool
  is_labelled [] z = give false
  is_labelled (l ∷ more) z = do
    pay 1
    if are_equal l z then give true else is_labelled more z

  -- A clause is a node, and has a line of its own.
  abbrev pub test : Option Test → Step S (Unit {0})
  test None = give tt
  test (Some t) = do
    pay 1
    holds ← condition t.at.line t.condition
    demand (kind_of t.claim) t.at.line holds

  -- a round: its invariant, and its block
  abbrev pub execute_round : Option Test → Step S Flow → Step S Flow
  execute_round invariant block = do
    test invariant
    block

  abbrev pub execute_indexed : (index : ℕ) → Step S Flow → ℤ → Step S Flow
  execute_indexed x round z = do
    change (λ s. here.passing.declare s (OfActivation x) (holds (alone (Number z))))
    round

  abbrev pub execute_arm : Step S Flow → Step S Flow
  execute_arm block = do
    pay 1
    block

  -- a block is a scope of its own, whose run-time arrays end with it
  abbrev pub in_scope : Step S Flow → Step S Flow
  in_scope block = scope (λ s. s) (λ opened s. s) block

  -- A statement with blocks costs its joins beside its node, and the log tells that it began.
  abbrev pub begun : At → Statement → Step S (Unit {0})
  begun at s = do
    note (Began at.start)
    pay (statement_nodes s + joins here.scalars s)

  abbrev mutual
    pub execute : Statement → Step S Flow
    execute (Simply at s) = do
      note (Began at.start)
      execute_plain at.line s
    execute (If at e block otherwise) = do
      begun at (If at e block otherwise)
      holds ← condition at.line e
      if holds then in_scope (execute_parts block) else execute_otherwise otherwise
    execute (Loop at invariant block) = do
      begun at (Loop at invariant block)
      rounds here.turns (joins here.scalars (Loop at invariant block)) here.depth (execute_round invariant (in_scope (execute_parts block)))
    execute (For at x decreasing range invariant block) = do
      begun at (For at x decreasing range invariant block)
      r ← first_and_count at.line decreasing range
      rounds_over here.turns (joins here.scalars (For at x decreasing range invariant block)) decreasing (execute_indexed x (execute_round invariant (in_scope (execute_parts block)))) here.depth r.1 r.0
    execute (Case at e arms) = do
      begun at (Case at e arms)
      z ← evaluate here at.line e
      choose at.line z arms
    execute (Begin at block) = do
      begun at (Begin at block)
      in_scope (execute_parts block)
    -- its body, and then its invariant
    execute (Module at fixed collections invariant invariant_line block) = do
      flow ← execute_parts block
      keep_invariant here invariant_line invariant
      give flow

    -- the first arm whose condition holds; each costs a unit as it is looked at, and has a line of its own
    pub execute_otherwise : Otherwise → Step S Flow
    execute_otherwise (Else block) = in_scope (execute_parts block)
    execute_otherwise (Elsif at e block more) = do
      pay 1
      holds ← condition at.line e
      if holds then in_scope (execute_parts block) else execute_otherwise more

    -- the first arm with an equal label, then the arm without labels; the arm that is taken costs a unit
    pub choose : (line : ℕ) → ℤ → Arms → Step S Flow
    choose line z NoArm = raise kind.Case line
    choose line z (Default block) = execute_arm (in_scope (execute_parts block))
    choose line z (Labelled labels block more) = do
      hit ← is_labelled labels z
      if hit then execute_arm (in_scope (execute_parts block)) else choose line z more

    -- Statements in order. A bound name is left as the rest of its block is.
    pub execute_parts : Block → Step S Flow
    execute_parts Empty = give Next
    execute_parts (Then s more) = do
      flow ← execute s
      and_then flow (execute_parts more)
    execute_parts (Declare at d more) = do
      declare at.line d
      execute_parts more
    execute_parts (Bind at x is_var path more) = do
      pay 1
      p ← locate here at.line path
      scope (here.passing.bind is_var x p) (here.passing.unbind is_var x p) (execute_parts more)
