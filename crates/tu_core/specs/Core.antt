-- The core: a program as the checks leave it. Names are numbers, each expression has a sort, each operator the operands of its own, types
-- are shapes by their numbers, and brackets, type declarations, import lists and unused forms are gone. The meaning of a program is that of
-- its core. What a form does is said where it is interpreted.
use Rattle.std.specs.Prelude.{ℕ, Bool, List, ℤ, Option}
use Rattle.tu_base.specs.declared.shape.Span.{Span}
use Rattle.tu_base.specs.declared.shape.Shape.{Shape}
use Rattle.tu_base.specs.declared.operator.Relation.{Relation}
use Rattle.tu_base.specs.declared.operator.Unary.{Unary}
use Rattle.tu_base.specs.declared.operator.Binary.{Binary}
use Rattle.tu_base.specs.declared.operator.Junction.{Junction}
use Rattle.tu_base.specs.declared.operator.Combination.{Combination}
use Rattle.tu_base.specs.Sets.{Base}
use Rattle.tu_core.specs.declared.names.At.{At}
use Rattle.tu_core.specs.declared.names.Variable.{Variable}
use Rattle.tu_core.specs.declared.names.GlobalName.{GlobalName}
use Rattle.tu_core.specs.declared.names.LocalName.{LocalName}
use Rattle.tu_core.specs.declared.names.Formal.{Formal}
use Rattle.tu_core.specs.declared.names.CallResult.{CallResult}
use Rattle.tu_core.specs.declared.targets.Index.{Index}
use Rattle.tu_core.specs.declared.targets.Size.{Size}
use Rattle.tu_core.specs.declared.targets.Target.{Target}
use Rattle.tu_core.specs.declared.claim.Claim.{Claim}

-- Expressions have a number each, by which code and tools name them. A place, a text, a set and a chain of operators are no deeper than
-- their text: what stands in a row is a list.
mutual
  -- an int, a truth value or an enumeration value
  pub data Scalar : Type 0 where
    Literal : (node : ℕ) → ℤ → Scalar
    Use : (node : ℕ) → Path → Scalar
    -- prefix operators and functions of one number, of which the last one is applied first
    Prefixed : (node : ℕ) → List Unary → Scalar → Scalar
    -- operators of one level, from the left
    Chain : (node : ℕ) → Scalar → Links → Scalar
    CompareTexts : (node : ℕ) → Relation → Text → Text → Scalar
    CompareSets : (node : ℕ) → Relation → Base → Set → Set → Scalar
    -- `=`, and `not=` where is_equal is false
    ComparePointers : (node : ℕ) → (is_equal : Bool) → Pointer → Pointer → Scalar
    -- `in`, and `not in` where is_wanted is false
    Member : (node : ℕ) → (is_wanted : Bool) → Base → Scalar → Set → Scalar
    Length : (node : ℕ) → Text → Scalar
    -- `index`, `ord` of a text, and `strint`
    PlaceIn : (node : ℕ) → Text → Text → Scalar
    ByteOf : (node : ℕ) → Text → Scalar
    TextInt : (node : ℕ) → Text → Scalar
    -- `lower` and `upper` of an array at a path, of the first dimension or of one by its number
    Bound : (node : ℕ) → (is_upper : Bool) → List Index → Path → (dimension : Optional) → Scalar
    -- of the console, or of a stream
    AtEnd : (node : ℕ) → At → (stream : Optional) → Scalar
    CallScalar : (node : ℕ) → Call → Scalar

  -- an operator and its right operand
  pub data Links : Type 0 where
    NoLink : Links
    Link : Binary → Scalar → Links → Links
    -- the right operand is looked at only where the left one does not decide
    Decide : Junction → Scalar → Links → Links

  pub data Text : Type 0 where
    Written : (node : ℕ) → (bytes : List ℕ) → Text
    UseText : (node : ℕ) → Path → Text
    -- `+`, from the left
    Joined : (node : ℕ) → Text → Texts → Text
    -- `s (i)` and `s (i .. j)`, one behind the other
    Cut : (node : ℕ) → Text → Cuts → Text
    -- `chr`, `intstr` without and with a width, and `repeat`
    Character : (node : ℕ) → Scalar → Text
    IntText : (node : ℕ) → Scalar → (width : Optional) → Text
    Repeat : (node : ℕ) → Text → Scalar → Text
    CallText : (node : ℕ) → Call → Text

  pub data Texts : Type 0 where
    NoText : Texts
    AndText : Text → Texts → Texts

  pub data Cuts : Type 0 where
    NoCut : Cuts
    CutCharacter : Spot → Cuts → Cuts
    CutPart : (first last : Spot) → Cuts → Cuts

  -- a place in a text: an expression, `*`, or `* - e`
  pub data Spot : Type 0 where
    Exactly : Scalar → Spot
    Last : Spot
    BeforeLast : Scalar → Spot

  pub data Set : Type 0 where
    -- `S (a, b)` and `S (all)`
    SetOf : (node : ℕ) → Base → Scalars → Set
    FullSet : (node : ℕ) → Base → Set
    UseSet : (node : ℕ) → Path → Set
    -- `+`, `*` and `-`, from the left
    Combined : (node : ℕ) → Base → Set → Combinations → Set
    CallSet : (node : ℕ) → Call → Set

  pub data Combinations : Type 0 where
    NoSet : Combinations
    AndSet : Combination → Set → Combinations → Combinations

  pub data Pointer : Type 0 where
    Nil : (node : ℕ) → At → (collection : ℕ) → Pointer
    UsePointer : (node : ℕ) → Path → Pointer
    CallPointer : (node : ℕ) → Call → Pointer

  pub data Scalars : Type 0 where
    NoScalar : Scalars
    AndScalar : Scalar → Scalars → Scalars

  -- an expression that may be left out
  pub data Optional : Type 0 where
    Absent : Optional
    Present : Scalar → Optional

  -- A place: its root, and selectors from left to right.
  pub data Path : Type 0 where
    Name : At → Variable → Selectors → Path
    -- an element of an array with run-time bounds
    OpenItem : At → Variable → List Index → Subscripts → Selectors → Path
    -- the element of a collection that a pointer names
    Element : At → (collection : ℕ) → Pointer → Selectors → Path
    -- the structured result of a call, in a temporary of the text by its number
    ResultOf : At → (number : ℕ) → Call → Selectors → Path

  -- each with the shape that it selects from
  pub data Selectors : Type 0 where
    End : Selectors
    -- a component of a record, by its number, or 0, the tag of a union
    Field : (shape component : ℕ) → Selectors → Selectors
    -- a component of a union, from 1 on
    VariantField : (shape component : ℕ) → Selectors → Selectors
    Item : (shape : ℕ) → Subscripts → Selectors → Selectors

  -- each with its value where it is a constant expression
  pub data Subscripts : Type 0 where
    NoSubscript : Subscripts
    Subscript : (constant : Option ℤ) → Scalar → Subscripts → Subscripts

  -- with the module whose invariant is called before and after, by the number of that routine
  pub data Call : Type 0 where
    Calls : At → (callee : ℕ) → (invariant : Option ℕ) → Actuals → Call

  pub data Actuals : Type 0 where
    NoActual : Actuals
    -- a value without parts, with the size that it has for a formal `string (*)`
    Given : At → (size : Option ℕ) → Simple → Actuals → Actuals
    -- A place: a structured constant actual, or a `var` actual. The upper bounds or the size that it has for an open formal are known, or those
    -- at the name of its root.
    Lent : At → (is_var : Bool) → (bounds : Option (List ℤ)) → Path → Actuals → Actuals

  -- an expression of any sort
  pub data Simple : Type 0 where
    AScalar : Scalar → Simple
    AText : Text → Simple
    ASet : Set → Simple
    APointer : Pointer → Simple

-- What a name begins with: a value, a copy of a place of a shape, or `init (..)` with the parts of a shape in their order.
mutual
  pub data Start : Type 0 where
    WithValue : Target → Simple → Start
    WithCopy : (shape : ℕ) → Path → Start
    WithParts : (shape : ℕ) → Starts → Start

  pub data Starts : Type 0 where
    NoStart : Starts
    AndStart : Start → Starts → Starts

-- the range of a `for`: bounds that are evaluated, or those of a type
pub data Range : Type 0 where
  FromTo : (first last : Scalar) → Range
  Through : Span → Range

-- a part of `put`, with its width
pub data Shown : Type 0 where
  NoneShown : Shown
  ShowInt : Scalar → (width : Optional) → Shown → Shown
  ShowTruth : Scalar → (width : Optional) → Shown → Shown
  ShowText : Text → (width : Optional) → Shown → Shown

-- a target of `get`: an int, a truth value or a text as a token, a line, or a count of bytes
pub data Taken : Type 0 where
  NoneTaken : Taken
  TakeInt : Span → Path → Taken → Taken
  TakeTruth : Path → Taken → Taken
  TakeToken : Size → Path → Taken → Taken
  TakeLine : Size → Path → Taken → Taken
  TakeCount : Size → Path → Scalar → Taken → Taken

-- an `assert`, a `pre`, a `post` or an invariant
pub record Test : Type 0 where
  pub at : At
  pub claim : Claim
  pub condition : Scalar

-- a statement with no block in it
pub data Plain : Type 0 where
  Assign : Target → Path → Simple → Plain
  -- of a shape with parts
  Copy : (shape : ℕ) → (to from : Path) → Plain
  Exit : (condition : Optional) → Plain
  Return : Plain
  -- `result`
  Give : Target → Simple → Plain
  GiveCopy : (shape : ℕ) → Path → Plain
  Check : Claim → Scalar → Plain
  -- the collection's name has a place of its own
  New : (collection : ℕ) → At → Path → Plain
  Free : (collection : ℕ) → At → Path → Plain
  -- the tag of a union of this shape
  Tag : (shape : ℕ) → Path → Scalar → Plain
  -- `..` leaves out the line's end
  Put : (stream : Optional) → Shown → (ends_line : Bool) → Plain
  Get : (stream : Optional) → Taken → Plain
  OpenStream : Span → Path → Text → (is_put : Bool) → Plain
  Close : Scalar → Plain
  Do : Call → Plain
  -- with the number of an exception, or with the one that the handler has taken
  Quit : (number : Optional) → Plain

-- a constant with its start
pub record Named : Type 0 where
  pub name : Variable
  pub start : Start

pub data Declaration : Type 0 where
  Constant : Named → Declaration
  -- the clause `init` of a subprogram, whose names have its line
  InitClause : List Named → Declaration
  Variables : List Variable → (shape : ℕ) → Declaration
  Started : List Variable → (shape : ℕ) → Start → Declaration
  -- arrays with run-time bounds, which are evaluated once
  Arrays : List Variable → List Index → (component : ℕ) → (bounds : Scalars) → Declaration
  Collections : List ℕ → Declaration
  -- a type in the scope of a `bind` that names a collection
  Mention : (collection : ℕ) → Declaration

mutual
  pub data Statement : Type 0 where
    Simply : At → Plain → Statement
    If : At → Scalar → Block → Otherwise → Statement
    Loop : At → (invariant : Option Test) → Block → Statement
    For : At → (index : ℕ) → (decreasing : Bool) → Range → (invariant : Option Test) → Block → Statement
    Case : At → Scalar → Arms → Statement
    Begin : At → Block → Statement
    -- The body of a module, in which these globals and collections may not be changed. Its invariant, a routine, is called as it ends, at the
    -- line of its clause.
    Module : At → (fixed : List Variable) → (fixed_collections : List ℕ) → (invariant : Option ℕ) → (invariant_line : ℕ) → Block → Statement

  -- Statements in order. What is declared or bound has the rest of the block as its scope.
  pub data Block : Type 0 where
    Empty : Block
    Then : Statement → Block → Block
    Declare : At → Declaration → Block → Block
    -- the name is a copy of the part at the place, or with is_var stands for it
    Bind : At → (name : ℕ) → (is_var : Bool) → Path → Block → Block

  -- the arms of `if` behind the first
  pub data Otherwise : Type 0 where
    Else : Block → Otherwise
    Elsif : At → Scalar → Block → Otherwise → Otherwise

  -- the arms of `case`, the one without labels last
  pub data Arms : Type 0 where
    NoArm : Arms
    Default : Block → Arms
    Labelled : (labels : List ℤ) → Block → Arms → Arms

-- what takes the exceptions of a body: the exception's number stands in a local
pub data Handler : Type 0 where
  NoHandler : Handler
  Handles : At → (name : ℕ) → Block → Handler

-- a subprogram, or the invariant of a module, whose body tests its clause
pub record Routine : Type 0 where
  pub gives : CallResult
  -- whether it is an invariant, which gives nothing back; the truth value that it finds is a word of its room
  pub is_invariant : Bool
  -- the local that stands for the result in `post`
  pub result : Option ℕ
  pub formals : List Formal
  -- each `*` in the types of the formals
  pub stars : ℕ
  -- the locals behind the formals, by their numbers from there on
  pub locals : List LocalName
  -- `pre` and `init`, the body, and `post`
  pub before : Block
  pub body : Block
  pub handler : Handler
  pub after : Block
  -- the line of its `end`
  pub end_line : ℕ
  -- the globals and collections that import lists let it read and not change
  pub fixed : List Variable
  pub fixed_collections : List ℕ

pub record Program : Type 0 where
  pub shapes : List Shape
  pub globals : List GlobalName
  -- the shape of the elements of each collection
  pub collections : List ℕ
  pub routines : List Routine
  pub locals : List LocalName
  pub main : Block
