-- `put`, `get`, `open` and `close`.
use Rattle.std.specs.Prelude.{◌==◌, Bool, true, false, List, [], ◌∷◌, Option, Some, None}
use Rattle.grammar.specs.Tree.{Mark}
use Rattle.tu_base.specs.declared.shape.Span.{Span}
use Rattle.tu_core.specs.declared.targets.Size.{Size}
use Rattle.tu_core.specs.declared.targets.Target.{Target}
use Rattle.tu_core.specs.declared.targets.Target.TheVariants.{TakesScalar, TakesText}
use Rattle.tu_core.specs.Core.{Scalar, Optional, Absent as NoneThere, Present as OneThere, Path, Shown, NoneShown, ShowInt, ShowTruth, ShowText, Taken, NoneTaken, TakeInt, TakeTruth, TakeToken, TakeLine, TakeCount, Plain, Put, Get, OpenStream, Close}
use Rattle.tu_token.specs.declared.class.Class.TheVariants.{SignRange}
use Rattle.tu_token.specs.Rules.{r-expr, r-path, r-shown, r-taken, many, maybe, listed, t}
use Rattle.tu_token.specs.Syntax.{Of}
use Rattle.tu_expr.specs.Parts.{Part, further, mark_of}
use Rattle.tu_tree.specs.StatementViews.{streams, modes, widths, amounts}
use Rattle.tu_tree.specs.Forms.{Present, Absent, More, NoMore, Behind, Listed, Stream, Shown as ShownNode, Taken as TakenNode, WholeLine, CountOf, PutMode, GetMode}
use Rattle.tu_type_base.specs.declared.fault.FaultKind.TheVariants.{Mismatch}
use Rattle.tu_type_base.specs.Checked.{Checked, Good, fault, both, ◌⊳◌, asks}
use Rattle.tu_type_table.specs.Types.{int, boolean}
use Rattle.tu_type_operands.specs.declared.value.Value.{Value}
use Rattle.tu_type_operands.specs.declared.value.Value.TheVariants.{Number, String}
use Rattle.tu_type_operands.specs.declared.operand.Place.{Place}
use Rattle.tu_type_operands.specs.Operands.{Operand, target_at, number_of, text_of_part, value_of, place_of}
use Rattle.tu_type_operands.specs.declared.state.State.{State}
use Rattle.tu_type_parts.specs.Expressions.{expr}
use Rattle.tu_types.specs.Simple.{changed, operand_at}

-- an expression at its place, if it is there
abbrev pub Maybe : Type 0
Maybe = Option (Mark × Operand)

abbrev pub stream : State → Part (maybe streams) → Checked Maybe
stream s Absent = Good None
stream s (Present (Stream _ e _)) = expr s e ⊳ λ a. Good (Some (mark_of e, a))

abbrev pub width : State → Part (maybe widths) → Checked Maybe
width s Absent = Good None
width s (Present (Behind _ e)) = expr s e ⊳ λ a. Good (Some (mark_of e, a))

-- an int, if it is there
abbrev pub optional_int : Maybe → Checked Optional
optional_int None = Good NoneThere
optional_int (Some x) = number_of int x.0 (value_of x.1) ⊳ λ e. Good (OneThere e)

-- ---- put

pub record ShownPart : Type 0 where
  pub at : Mark
  pub operand : Operand
  pub width : Maybe

abbrev pub shown_part : State → Of r-shown → Checked ShownPart
shown_part s (ShownNode m e w) = both (expr s e) (width s w) ⊳ λ z. Good (record { at = m; operand = z.0; width = z.1 })

abbrev pub more_shown : State → Part (many (further r-shown)) → Checked (List ShownPart)
more_shown s NoMore = Good []
more_shown s (More (Behind _ x) more) = both (shown_part s x) (more_shown s more) ⊳ λ z. Good (z.0 ∷ z.1)

abbrev pub shown_parts : State → Part (listed r-shown) → Checked (List ShownPart)
shown_parts s (Listed x more) = both (shown_part s x) (more_shown s more) ⊳ λ z. Good (z.0 ∷ z.1)

-- ints, truth values and strings are put
abbrev pub shows : Mark → Value → Checked (Optional → Shown → Shown)
shows m (Number root e) = elim (root == int) [
  | true ↦ Good (ShowInt e)
  | false ↦ asks (root == boolean) Mismatch m ⊳ λ _. Good (ShowTruth e)
]
shows m (String e) = Good (ShowText e)
shows m other = fault Mismatch m

abbrev pub shown : List ShownPart → Checked Shown
shown [] = Good NoneShown
shown (x ∷ more) = both (both (shows x.at (value_of x.operand)) (optional_int x.width)) (shown more) ⊳ λ z. Good (z.0.0 z.0.1 z.1)

abbrev pub ends_line : Part (maybe (t SignRange)) → Bool
ends_line Absent = true
ends_line (Present word) = false

abbrev pub put : State → Part (maybe streams) → Part (listed r-shown) → Part (maybe (t SignRange)) → Checked Plain
put s x parts open_end = both (stream s x) (shown_parts s parts) ⊳ λ z. both (optional_int z.0) (shown z.1) ⊳ λ y. Good (Put y.0 y.1 (ends_line open_end))

-- ---- get

-- a token, a line, or a count
pub data Amount : Type 0 where
  Token : Amount
  Line : Amount
  Count : Mark → Operand → Amount

pub record TakenPart : Type 0 where
  pub at : Mark
  pub operand : Operand
  pub amount : Amount

abbrev pub amount : State → Part (maybe amounts) → Checked Amount
amount s Absent = Good Token
amount s (Present (WholeLine _ _)) = Good Line
amount s (Present (CountOf _ e)) = expr s e ⊳ λ a. Good (Count (mark_of e) a)

abbrev pub taken_part : State → Of r-taken → Checked TakenPart
taken_part s (TakenNode m x n) = both (operand_at s x) (amount s n) ⊳ λ z. Good (record { at = m; operand = z.0; amount = z.1 })

abbrev pub more_taken : State → Part (many (further r-taken)) → Checked (List TakenPart)
more_taken s NoMore = Good []
more_taken s (More (Behind _ x) more) = both (taken_part s x) (more_taken s more) ⊳ λ z. Good (z.0 ∷ z.1)

abbrev pub taken_parts : State → Part (listed r-taken) → Checked (List TakenPart)
taken_parts s (Listed x more) = both (taken_part s x) (more_taken s more) ⊳ λ z. Good (z.0 ∷ z.1)

-- how much is taken
pub data How : Type 0 where
  AToken : How
  ALine : How
  ACount : Scalar → How

abbrev pub how : Amount → Checked How
how Token = Good AToken
how Line = Good ALine
how (Count m a) = number_of int m (value_of a) ⊳ λ e. Good (ACount e)

abbrev pub is_token : Amount → Bool
is_token Token = true
is_token amount = false

-- a text as a token, a line or a count
abbrev pub take_text : Size → How → Path → Taken → Taken
take_text size AToken path more = TakeToken size path more
take_text size ALine path more = TakeLine size path more
take_text size (ACount e) path more = TakeCount size path e more

-- Variables of int, of subranges of int, of boolean and of strings are taken, and as a line or a count strings alone.
abbrev pub takes : Mark → (as_token : Bool) → Value → Option Target → Checked (How → Path → Taken → Taken)
takes m true (Number root e) (Some (TakesScalar span)) = elim (root == int) [
  | true ↦ Good (λ how. TakeInt span)
  | false ↦ asks (root == boolean) Mismatch m ⊳ λ _. Good (λ how. TakeTruth)
]
takes m as_token (String e) (Some (TakesText size)) = Good (take_text size)
takes m as_token value target = fault Mismatch m

-- a target that is a variable
abbrev pub takes_variable : State → TakenPart → Checked (How → Taken → Taken)
takes_variable s x = takes x.at (is_token x.amount) (value_of x.operand) (target_at s.types x.operand.kind) ⊳ λ f. changed x.at (place_of x.operand) ⊳ λ p. Good (λ h. f h p)

abbrev pub takes_one : State → TakenPart → Checked (Taken → Taken)
takes_one s x = both (how x.amount) (takes_variable s x) ⊳ λ z. Good (z.1 z.0)

abbrev pub taken : State → List TakenPart → Checked Taken
taken s [] = Good NoneTaken
taken s (x ∷ more) = both (takes_one s x) (taken s more) ⊳ λ z. Good (z.0 z.1)

abbrev pub get : State → Part (maybe streams) → Part (listed r-taken) → Checked Plain
get s x parts = both (stream s x) (taken_parts s parts) ⊳ λ z. both (optional_int z.0) (taken s z.1) ⊳ λ y. Good (Get y.0 y.1)

-- ---- open and close

abbrev pub is_put : Part modes → Bool
is_put (PutMode word) = true
is_put (GetMode word) = false

-- a variable of int, with its span
abbrev pub int_variable : Mark → Option Place → Value → Option Target → Checked (Span × Path)
int_variable m place (Number root e) (Some (TakesScalar span)) = asks (root == int) Mismatch m ⊳ λ _. changed m place ⊳ λ p. Good (span, p)
int_variable m place value target = fault Mismatch m

abbrev pub opened : State → (m n : Mark) → (for_put : Bool) → Operand × Operand → Checked Plain
opened s m n for_put z =
    both (int_variable m (place_of z.0) (value_of z.0) (target_at s.types z.0.kind)) (text_of_part n (value_of z.1)) ⊳ λ y. Good (OpenStream y.0.0 y.0.1 y.1 for_put)

abbrev pub open_statement : State → Of r-path → Of r-expr → Part modes → Checked Plain
open_statement s x e mode = both (operand_at s x) (expr s e) ⊳ opened s (mark_of x) (mark_of e) (is_put mode)

abbrev pub close : State → Of r-expr → Checked Plain
close s e = expr s e ⊳ λ a. number_of int (mark_of e) (value_of a) ⊳ λ k. Good (Close k)
