-- One measure is a function of another in all that a text adds, where it is so in what each form adds.
use Rattle.std.specs.Prelude.{◌≡◌, Bool, List, [], ◌∷◌, Option, Some, None}
use Rattle.tu_core.specs.declared.names.At.{At}
use Rattle.tu_core.specs.Core.{Path, Start, WithValue, WithCopy, WithParts, Starts, NoStart, AndStart, Range, FromTo, Through, Shown, NoneShown, ShowInt, ShowTruth, ShowText, Taken, NoneTaken, TakeInt, TakeTruth, TakeToken, TakeLine, TakeCount, Test, Plain, Assign, Copy, Exit, Return, Give, GiveCopy, Check, New, Free, Tag, Put, Get, OpenStream, Close, Do, Quit, Named, Declaration, Constant, InitClause, Variables, Started, Arrays, Collections, Mention, Statement, Simply, If, Loop, For, Case, Begin, Module, Block, Empty, Then, Declare, Bind, Otherwise, Else, Elsif, Arms, NoArm, Default, Labelled}
use Rattle.tu_core.specs.Measures.{Measure, of_start, of_starts, of_range, of_shown, of_taken, of_test, of_plain, of_named, of_declaration, of_statement, of_block, of_otherwise, of_arms}
use Rattle.tu_room_parts.proofs.Fusion.{Fuses, both, fuse_scalar, fuse_text, fuse_scalars, fuse_optional, fuse_path, fuse_call, fuse_simple}

pub record FusesPlain {A B : Type 0} (g : A → B) (m : Measure A) (m' : Measure B) : Type 0 where
  pub expressions : Fuses g m m'
  pub parts : m'.parts ≡ g m.parts
  pub taken : (x : Taken) → m'.taken x ≡ g (m.taken x)
  pub test : m'.test ≡ g m.test
  pub plain : (x : Plain) → m'.plain x ≡ g (m.plain x)
  pub declaration : (x : Declaration) → m'.declaration x ≡ g (m.declaration x)

module _ {A B : Type 0} {g : A → B} {m : Measure A} {m' : Measure B} (f : FusesPlain g m m') where
  mutual
    pub fuse_start : (x : Start) → of_start m' x ≡ g (of_start m x)
    fuse_start (WithValue target e) = fuse_simple f.expressions e
    fuse_start (WithCopy shape p) = fuse_path f.expressions p
    fuse_start (WithParts shape starts) = both f.expressions f.parts (fuse_starts starts)

    pub fuse_starts : (x : Starts) → of_starts m' x ≡ g (of_starts m x)
    fuse_starts NoStart = f.expressions.none
    fuse_starts (AndStart s more) = both f.expressions (fuse_start s) (fuse_starts more)

  pub fuse_range : (x : Range) → of_range m' x ≡ g (of_range m x)
  fuse_range (FromTo first last) = both f.expressions (fuse_scalar f.expressions first) (fuse_scalar f.expressions last)
  fuse_range (Through s) = f.expressions.none

  pub fuse_shown : (x : Shown) → of_shown m' x ≡ g (of_shown m x)
  fuse_shown NoneShown = f.expressions.none
  fuse_shown (ShowInt e width more) = both f.expressions (fuse_scalar f.expressions e) (both f.expressions (fuse_optional f.expressions width) (fuse_shown more))
  fuse_shown (ShowTruth e width more) = both f.expressions (fuse_scalar f.expressions e) (both f.expressions (fuse_optional f.expressions width) (fuse_shown more))
  fuse_shown (ShowText e width more) = both f.expressions (fuse_text f.expressions e) (both f.expressions (fuse_optional f.expressions width) (fuse_shown more))

  pub fuse_taken : (x : Taken) → of_taken m' x ≡ g (of_taken m x)
  fuse_taken NoneTaken = f.expressions.none
  fuse_taken (TakeInt s p more) = both f.expressions (f.taken (TakeInt s p more)) (both f.expressions (fuse_path f.expressions p) (fuse_taken more))
  fuse_taken (TakeTruth p more) = both f.expressions (f.taken (TakeTruth p more)) (both f.expressions (fuse_path f.expressions p) (fuse_taken more))
  fuse_taken (TakeToken size p more) = both f.expressions (f.taken (TakeToken size p more)) (both f.expressions (fuse_path f.expressions p) (fuse_taken more))
  fuse_taken (TakeLine size p more) = both f.expressions (f.taken (TakeLine size p more)) (both f.expressions (fuse_path f.expressions p) (fuse_taken more))
  fuse_taken (TakeCount size p e more) = both f.expressions (f.taken (TakeCount size p e more)) (both f.expressions (fuse_path f.expressions p) (both f.expressions (fuse_scalar f.expressions e) (fuse_taken more)))

  pub fuse_test : (x : Option Test) → of_test m' x ≡ g (of_test m x)
  fuse_test None = f.expressions.none
  fuse_test (Some test) = both f.expressions f.test (fuse_scalar f.expressions test.condition)

  pub fuse_plain : (x : Plain) → of_plain m' x ≡ g (of_plain m x)
  fuse_plain (Assign target p e) = both f.expressions (f.plain (Assign target p e)) (both f.expressions (fuse_path f.expressions p) (fuse_simple f.expressions e))
  fuse_plain (Copy shape to from) = both f.expressions (f.plain (Copy shape to from)) (both f.expressions (fuse_path f.expressions to) (fuse_path f.expressions from))
  fuse_plain (Exit condition) = both f.expressions (f.plain (Exit condition)) (fuse_optional f.expressions condition)
  fuse_plain Return = f.plain Return
  fuse_plain (Give target e) = both f.expressions (f.plain (Give target e)) (fuse_simple f.expressions e)
  fuse_plain (GiveCopy shape p) = both f.expressions (f.plain (GiveCopy shape p)) (fuse_path f.expressions p)
  fuse_plain (Check claim e) = both f.expressions (f.plain (Check claim e)) (fuse_scalar f.expressions e)
  fuse_plain (New c at p) = both f.expressions (f.plain (New c at p)) (fuse_path f.expressions p)
  fuse_plain (Free c at p) = both f.expressions (f.plain (Free c at p)) (fuse_path f.expressions p)
  fuse_plain (Tag shape p e) = both f.expressions (f.plain (Tag shape p e)) (both f.expressions (fuse_path f.expressions p) (fuse_scalar f.expressions e))
  fuse_plain (Put stream shown ends_line) = both f.expressions (f.plain (Put stream shown ends_line)) (both f.expressions (fuse_optional f.expressions stream) (fuse_shown shown))
  fuse_plain (Get stream taken) = both f.expressions (f.plain (Get stream taken)) (both f.expressions (fuse_optional f.expressions stream) (fuse_taken taken))
  fuse_plain (OpenStream s p e is_put) = both f.expressions (f.plain (OpenStream s p e is_put)) (both f.expressions (fuse_path f.expressions p) (fuse_text f.expressions e))
  fuse_plain (Close e) = both f.expressions (f.plain (Close e)) (fuse_scalar f.expressions e)
  fuse_plain (Do call) = both f.expressions (f.plain (Do call)) (fuse_call f.expressions call)
  fuse_plain (Quit number) = both f.expressions (f.plain (Quit number)) (fuse_optional f.expressions number)

  pub fuse_named : (x : List Named) → of_named m' x ≡ g (of_named m x)
  fuse_named [] = f.expressions.none
  fuse_named (x ∷ more) = both f.expressions (fuse_start x.start) (fuse_named more)

  pub fuse_declaration : (x : Declaration) → of_declaration m' x ≡ g (of_declaration m x)
  fuse_declaration (Constant x) = both f.expressions (f.declaration (Constant x)) (fuse_start x.start)
  fuse_declaration (InitClause xs) = both f.expressions (f.declaration (InitClause xs)) (fuse_named xs)
  fuse_declaration (Variables xs shape) = f.declaration (Variables xs shape)
  fuse_declaration (Started xs shape start) = both f.expressions (f.declaration (Started xs shape start)) (fuse_start start)
  fuse_declaration (Arrays xs indexes component bounds) = both f.expressions (f.declaration (Arrays xs indexes component bounds)) (fuse_scalars f.expressions bounds)
  fuse_declaration (Collections cs) = f.declaration (Collections cs)
  fuse_declaration (Mention c) = f.declaration (Mention c)

-- and in all statements
pub record FusesAll {A B : Type 0} (g : A → B) (m : Measure A) (m' : Measure B) : Type 0 where
  pub all_plain : FusesPlain g m m'
  pub statement : (x : Statement) → m'.statement x ≡ g (m.statement x)
  pub binding : (at : At) (is_var : Bool) (p : Path) → m'.binding at is_var p ≡ g (m.binding at is_var p)
  pub arm : m'.arm ≡ g m.arm

module _ {A B : Type 0} {g : A → B} {m : Measure A} {m' : Measure B} (f : FusesAll g m m') where
  mutual
    pub fuse_statement : (x : Statement) → of_statement m' x ≡ g (of_statement m x)
    fuse_statement (Simply at s) = both f.all_plain.expressions (f.statement (Simply at s)) (fuse_plain f.all_plain s)
    fuse_statement (If at e block otherwise) = both f.all_plain.expressions (f.statement (If at e block otherwise)) (both f.all_plain.expressions (fuse_scalar f.all_plain.expressions e) (both f.all_plain.expressions (fuse_block block) (fuse_otherwise otherwise)))
    fuse_statement (Loop at invariant block) = both f.all_plain.expressions (f.statement (Loop at invariant block)) (both f.all_plain.expressions (fuse_test f.all_plain invariant) (fuse_block block))
    fuse_statement (For at x decreasing range invariant block) = both f.all_plain.expressions (f.statement (For at x decreasing range invariant block)) (both f.all_plain.expressions (fuse_range f.all_plain range) (both f.all_plain.expressions (fuse_test f.all_plain invariant) (fuse_block block)))
    fuse_statement (Case at e arms) = both f.all_plain.expressions (f.statement (Case at e arms)) (both f.all_plain.expressions (fuse_scalar f.all_plain.expressions e) (fuse_arms arms))
    fuse_statement (Begin at block) = both f.all_plain.expressions (f.statement (Begin at block)) (fuse_block block)
    fuse_statement (Module at fixed collections invariant line block) = both f.all_plain.expressions (f.statement (Module at fixed collections invariant line block)) (fuse_block block)

    pub fuse_block : (x : Block) → of_block m' x ≡ g (of_block m x)
    fuse_block Empty = f.all_plain.expressions.none
    fuse_block (Then s more) = both f.all_plain.expressions (fuse_statement s) (fuse_block more)
    fuse_block (Declare at d more) = both f.all_plain.expressions (fuse_declaration f.all_plain d) (fuse_block more)
    fuse_block (Bind at x is_var p more) = both f.all_plain.expressions (f.binding at is_var p) (both f.all_plain.expressions (fuse_path f.all_plain.expressions p) (fuse_block more))

    pub fuse_otherwise : (x : Otherwise) → of_otherwise m' x ≡ g (of_otherwise m x)
    fuse_otherwise (Else block) = fuse_block block
    fuse_otherwise (Elsif at e block more) = both f.all_plain.expressions f.arm (both f.all_plain.expressions (fuse_scalar f.all_plain.expressions e) (both f.all_plain.expressions (fuse_block block) (fuse_otherwise more)))

    pub fuse_arms : (x : Arms) → of_arms m' x ≡ g (of_arms m x)
    fuse_arms NoArm = f.all_plain.expressions.none
    fuse_arms (Default block) = both f.all_plain.expressions f.arm (fuse_block block)
    fuse_arms (Labelled labels block more) = both f.all_plain.expressions f.arm (both f.all_plain.expressions (fuse_block block) (fuse_arms more))
