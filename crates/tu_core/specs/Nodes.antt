-- How many nodes each form of a text is. Brackets, callees, types, fields, constant bounds and labels are none. What is evaluated or executed
-- costs a unit for each of its nodes.
use Rattle.std.specs.Prelude.{ℕ, suc, ◌+◌, length}
use Rattle.tu_core.specs.Core.{Scalar, Literal, Use, Prefixed, Chain, CompareTexts, CompareSets, ComparePointers, Member, Length, PlaceIn, ByteOf, TextInt, Bound, AtEnd, CallScalar, Links, NoLink, Link, Decide, Text, Written, UseText, Joined, Cut, Character, IntText, Repeat, CallText, Texts, NoText, AndText, Cuts, NoCut, CutCharacter, CutPart, Spot, Exactly, Last, BeforeLast, Set, SetOf, FullSet, UseSet, Combined, CallSet, Combinations, NoSet, AndSet, Pointer, Nil, UsePointer, CallPointer, Path, Name, OpenItem, Element, ResultOf, Taken, NoneTaken, TakeInt, TakeTruth, TakeToken, TakeLine, TakeCount, Plain, Assign, Copy, Exit, Return, Give, GiveCopy, Check, New, Free, Tag, Put, Get, OpenStream, Close, Do, Quit, Declaration, Constant, InitClause, Variables, Started, Arrays, Collections, Mention, Statement, Simply, If, Loop, For, Case, Begin, Module}
use Rattle.tu_core.specs.Measures.{Measure, nothing}

-- A literal, a prefix operator, or a call of a function. A use is that of its place, and operators in a row count one by one.
abbrev pub scalar_nodes : Scalar → ℕ
scalar_nodes (Literal n z) = 1
scalar_nodes (Use n p) = 0
scalar_nodes (Prefixed n operators e) = length operators
scalar_nodes (Chain n e links) = 0
scalar_nodes (CompareTexts n relation a b) = 1
scalar_nodes (CompareSets n relation base a b) = 1
scalar_nodes (ComparePointers n is_equal a b) = 1
scalar_nodes (Member n is_wanted base e s) = 1
scalar_nodes (Length n e) = 1
scalar_nodes (PlaceIn n a b) = 1
scalar_nodes (ByteOf n e) = 1
scalar_nodes (TextInt n e) = 1
scalar_nodes (Bound n is_upper indexes p dimension) = 1
scalar_nodes (AtEnd n at stream) = 1
scalar_nodes (CallScalar n call) = 1

abbrev pub text_nodes : Text → ℕ
text_nodes (Written n bytes) = 1
text_nodes (UseText n p) = 0
text_nodes (Joined n e more) = 0
text_nodes (Cut n e cuts) = 0
text_nodes (Character n e) = 1
text_nodes (IntText n e width) = 1
text_nodes (Repeat n e k) = 1
text_nodes (CallText n call) = 1

-- `*`, and `* - e`
abbrev pub spot_nodes : Spot → ℕ
spot_nodes (Exactly e) = 0
spot_nodes Last = 1
spot_nodes (BeforeLast e) = 2

abbrev pub set_nodes : Set → ℕ
set_nodes (SetOf n base es) = 1
set_nodes (FullSet n base) = 1
set_nodes (UseSet n p) = 0
set_nodes (Combined n base e more) = 0
set_nodes (CallSet n call) = 1

-- `nil (C)` is `nil` and the name of C
abbrev pub pointer_nodes : Pointer → ℕ
pointer_nodes (Nil n at c) = 2
pointer_nodes (UsePointer n p) = 0
pointer_nodes (CallPointer n call) = 1

-- a root, with a call or a collection's selector; all other selectors count one by one
abbrev pub path_nodes : Path → ℕ
path_nodes (Name at x steps) = 1
path_nodes (OpenItem at x indexes es steps) = 1
path_nodes (Element at c e steps) = 2
path_nodes (ResultOf at k call steps) = 1

-- the `*` of a line
abbrev pub taken_nodes : Taken → ℕ
taken_nodes NoneTaken = 0
taken_nodes (TakeInt s p more) = 0
taken_nodes (TakeTruth p more) = 0
taken_nodes (TakeToken size p more) = 0
taken_nodes (TakeLine size p more) = 1
taken_nodes (TakeCount size p e more) = 0

-- a statement, and the name of a collection in `new` and `free`
abbrev pub plain_nodes : Plain → ℕ
plain_nodes (Assign target p e) = 1
plain_nodes (Copy shape to from) = 1
plain_nodes (Exit condition) = 1
plain_nodes Return = 1
plain_nodes (Give target e) = 1
plain_nodes (GiveCopy shape p) = 1
plain_nodes (Check claim e) = 1
plain_nodes (New c at p) = 2
plain_nodes (Free c at p) = 2
plain_nodes (Tag shape p e) = 1
plain_nodes (Put stream shown ends_line) = 1
plain_nodes (Get stream taken) = 1
plain_nodes (OpenStream s p e is_put) = 1
plain_nodes (Close e) = 1
plain_nodes (Do call) = 1
plain_nodes (Quit number) = 1

-- each name, and the clause `init`
abbrev pub declaration_nodes : Declaration → ℕ
declaration_nodes (Constant x) = 1
declaration_nodes (InitClause xs) = 1 + length xs
declaration_nodes (Variables xs shape) = length xs
declaration_nodes (Started xs shape start) = length xs
declaration_nodes (Arrays xs indexes component bounds) = length xs
declaration_nodes (Collections cs) = length cs
declaration_nodes (Mention c) = 0

-- A module is no statement.
abbrev pub statement_nodes : Statement → ℕ
statement_nodes (Simply at s) = 0
statement_nodes (If at e block otherwise) = 1
statement_nodes (Loop at invariant block) = 1
statement_nodes (For at x decreasing range invariant block) = 1
statement_nodes (Case at e arms) = 1
statement_nodes (Begin at block) = 1
statement_nodes (Module at fixed collections invariant line block) = 0

-- operators in a row, and parts of a text one behind the other
abbrev pub link_count : Links → ℕ
link_count NoLink = 0
link_count (Link operator e more) = suc (link_count more)
link_count (Decide operator e more) = suc (link_count more)

abbrev pub text_count : Texts → ℕ
text_count NoText = 0
text_count (AndText e more) = suc (text_count more)

abbrev pub cut_count : Cuts → ℕ
cut_count NoCut = 0
cut_count (CutCharacter i more) = suc (cut_count more)
cut_count (CutPart i j more) = suc (cut_count more)

abbrev pub set_count : Combinations → ℕ
set_count NoSet = 0
set_count (AndSet operator e more) = suc (set_count more)

abbrev pub sums : Measure ℕ
sums = nothing 0 (λ x y. x + y)

-- Selectors, operators in a row, arms, clauses, a list `init (..)` and names of `bind` are a node each.
abbrev pub nodes : Measure ℕ
nodes = record sums { scalar = scalar_nodes; link = 1; text = text_nodes; set = set_nodes; pointer = pointer_nodes; spot = spot_nodes; path = path_nodes; selector = 1; parts = 1; taken = taken_nodes; test = 1; plain = plain_nodes; declaration = declaration_nodes; statement = statement_nodes; binding = λ at is_var p. 1; arm = 1 }
