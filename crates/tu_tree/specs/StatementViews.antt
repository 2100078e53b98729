-- Each type of the tree of a block or a statement, as the rule that it stands for.
use Rattle.std.specs.Prelude.{Bool, List, [], ◌∷◌, Option, Some, None}
use Rattle.grammar.specs.Description.{Description, rule}
use Rattle.grammar.specs.Tree.{n-token, n-empty, n-sequence, n-left, n-right, n-rule, repeated}
use Rattle.tu_token.specs.declared.class.Class.TheVariants.{Name, SignRange, SignStar, SignComma, SignColon, WordAssert, WordClose, WordDecreasing, WordElse, WordExit, WordFree, WordGet, WordNew, WordOpen, WordPut, WordQuit, WordResult, WordReturn, WordTag, WordWhen}
use Rattle.tu_token.specs.Rules.{Rule, ◌⨟◌, ◌∣◌, many, maybe, t, listed, body, r-block, r-const, r-var, r-type, r-bind, r-statement, r-shown, r-taken, r-expr, r-path, r-invariant, r-elsif, r-arm}
use Rattle.tu_token.specs.Syntax.{Of}
use Rattle.tu_expr.specs.Leaves.{leaf_view, spot_mark}
use Rattle.tu_expr.specs.Parts.{Part, listing, optional}
use Rattle.tu_tree.specs.declared.statement.BlockPart.{BlockPart}
use Rattle.tu_tree.specs.declared.statement.BlockPart.TheVariants as part
use Rattle.tu_tree.specs.declared.statement.StatementForm.{StatementForm}
use Rattle.tu_tree.specs.declared.statement.StatementForm.TheVariants as statement
use Rattle.tu_tree.specs.declared.statement.OpenMode.{OpenMode}
use Rattle.tu_tree.specs.declared.statement.OpenMode.TheVariants as mode
use Rattle.tu_tree.specs.declared.statement.Arm.{Arm}
use Rattle.tu_tree.specs.declared.statement.Otherwise.{Otherwise}
use Rattle.tu_tree.specs.declared.statement.Amount.{Amount}
use Rattle.tu_tree.specs.declared.statement.Amount.TheVariants as amount
use Rattle.tu_tree.specs.Parts.{flag, sequel}

-- what stands in a block
abbrev pub block_part : Description Rule
block_part = rule r-const ∣ rule r-var ∣ rule r-type ∣ rule r-bind ∣ rule r-statement

abbrev pub block_part_view : BlockPart → Part block_part
block_part_view (part.Const x) = n-left x
block_part_view (part.Var x) = n-right (n-left x)
block_part_view (part.Type x) = n-right (n-right (n-left x))
block_part_view (part.Bind x) = n-right (n-right (n-right (n-left x)))
block_part_view (part.Statement x) = n-right (n-right (n-right (n-right x)))

abbrev pub block_view : List (BlockPart × Bool) → Part (body r-block)
block_view parts = sequel block_part block_part_view parts

abbrev pub elsif_view : Of r-expr → Of r-block → Part (body r-elsif)
elsif_view condition block = n-sequence n-token (n-sequence condition (n-sequence n-token block))

abbrev pub elsifs_view : List (Of r-elsif) → Part (many (rule r-elsif))
elsifs_view elsifs = repeated (rule r-elsif) (λ x. x) elsifs

-- a block behind `else`
abbrev pub elses : Description Rule
elses = t WordElse ⨟ rule r-block

abbrev pub else_view : Option (Of r-block) → Part (maybe elses)
else_view None = n-right n-empty
else_view (Some block) = n-left (n-sequence n-token block)

-- the arms, each of which holds those behind it, and the arm without labels, where there is one
abbrev pub last_arm_view : Option Otherwise → Part (maybe (rule r-arm))
last_arm_view None = n-right n-empty
last_arm_view (Some arm) = n-left (n-rule (spot_mark arm.spot) (n-sequence n-token (n-left (n-sequence n-token arm.block))))

abbrev pub arms_view : List Arm → Option Otherwise → Part (maybe (rule r-arm))
arms_view [] otherwise = last_arm_view otherwise
arms_view (arm ∷ arms) otherwise =
    n-left (n-rule (spot_mark arm.spot) (n-sequence n-token (n-right (n-sequence (listing r-expr arm.first arm.more) (n-sequence n-token (n-sequence arm.block (arms_view arms otherwise)))))))

-- the number of a stream
abbrev pub streams : Description Rule
streams = t SignColon ⨟ rule r-expr ⨟ t SignComma

abbrev pub stream_view : Option (Of r-expr) → Part (maybe streams)
stream_view None = n-right n-empty
stream_view (Some stream) = n-left (n-sequence n-token (n-sequence stream n-token))

-- what a stream is opened for
abbrev pub modes : Description Rule
modes = t WordPut ∣ t WordGet

abbrev pub mode_view : OpenMode → Part modes
mode_view mode.Put = n-left n-token
mode_view mode.Get = n-right n-token

-- the statements behind the last one with a block
abbrev pub simple : Description Rule
simple =
    t WordExit ⨟ maybe (t WordWhen ⨟ rule r-expr)
    ∣ t WordReturn
    ∣ t WordResult ⨟ rule r-expr
    ∣ t WordAssert ⨟ rule r-expr
    ∣ t WordNew ⨟ rule r-path ⨟ t SignComma ⨟ rule r-path
    ∣ t WordFree ⨟ rule r-path ⨟ t SignComma ⨟ rule r-path
    ∣ t WordTag ⨟ rule r-path ⨟ t SignComma ⨟ rule r-expr
    ∣ t WordPut ⨟ maybe streams ⨟ listed r-shown ⨟ maybe (t SignRange)
    ∣ t WordGet ⨟ maybe streams ⨟ listed r-taken
    ∣ t WordOpen ⨟ t SignColon ⨟ rule r-path ⨟ t SignComma ⨟ rule r-expr ⨟ t SignComma ⨟ modes
    ∣ t WordClose ⨟ t SignColon ⨟ rule r-expr
    ∣ t WordQuit ⨟ maybe (t SignColon ⨟ rule r-expr)

abbrev pub statement_view : StatementForm → Part (body r-statement)
statement_view (statement.Assign path value) = n-left (n-sequence path (n-left (n-sequence n-token value)))
statement_view (statement.Call path) = n-left (n-sequence path (n-right n-empty))
statement_view (statement.If condition block elsifs otherwise) =
    n-right (n-left (n-sequence n-token (n-sequence condition (n-sequence n-token (n-sequence block (n-sequence (elsifs_view elsifs) (n-sequence (else_view otherwise) (n-sequence n-token n-token))))))))
statement_view (statement.Loop invariant block) =
    n-right (n-right (n-left (n-sequence n-token (n-sequence (optional (rule r-invariant) invariant) (n-sequence block (n-sequence n-token n-token))))))
statement_view (statement.For is_decreasing name range invariant block) =
    n-right (n-right (n-right (n-left (n-sequence n-token (n-sequence (flag WordDecreasing is_decreasing) (n-sequence (leaf_view Name name) (n-sequence n-token
    (n-sequence range (n-sequence (optional (rule r-invariant) invariant) (n-sequence block (n-sequence n-token n-token)))))))))))
statement_view (statement.Case subject arms otherwise) =
    n-right (n-right (n-right (n-right (n-left (n-sequence n-token (n-sequence subject (n-sequence n-token (n-sequence (arms_view arms otherwise) (n-sequence n-token n-token)))))))))
statement_view (statement.Begin block) = n-right (n-right (n-right (n-right (n-right (n-left (n-sequence n-token (n-sequence block n-token)))))))
statement_view statement.Exit = n-right (n-right (n-right (n-right (n-right (n-right (n-left (n-sequence n-token (n-right n-empty))))))))
statement_view (statement.ExitWhen condition) = n-right (n-right (n-right (n-right (n-right (n-right (n-left (n-sequence n-token (n-left (n-sequence n-token condition)))))))))
statement_view statement.Return = n-right (n-right (n-right (n-right (n-right (n-right (n-right (n-left n-token)))))))
statement_view (statement.Result value) = n-right (n-right (n-right (n-right (n-right (n-right (n-right (n-right (n-left (n-sequence n-token value)))))))))
statement_view (statement.Assert condition) = n-right (n-right (n-right (n-right (n-right (n-right (n-right (n-right (n-right (n-left (n-sequence n-token condition))))))))))
statement_view (statement.New collection pointer) =
    n-right (n-right (n-right (n-right (n-right (n-right (n-right (n-right (n-right (n-right (n-left (n-sequence n-token (n-sequence collection (n-sequence n-token pointer)))))))))))))
statement_view (statement.Free collection pointer) =
    n-right (n-right (n-right (n-right (n-right (n-right (n-right (n-right (n-right (n-right (n-right (n-left (n-sequence n-token (n-sequence collection (n-sequence n-token pointer))))))))))))))
statement_view (statement.Tag path value) =
    n-right (n-right (n-right (n-right (n-right (n-right (n-right (n-right (n-right (n-right (n-right (n-right (n-left (n-sequence n-token (n-sequence path (n-sequence n-token value)))))))))))))))
statement_view (statement.Put stream first more is_open) =
    n-right (n-right (n-right (n-right (n-right (n-right (n-right (n-right (n-right (n-right (n-right (n-right (n-right (n-left
    (n-sequence n-token (n-sequence (stream_view stream) (n-sequence (listing r-shown first more) (flag SignRange is_open)))))))))))))))))
statement_view (statement.Get stream first more) =
    n-right (n-right (n-right (n-right (n-right (n-right (n-right (n-right (n-right (n-right (n-right (n-right (n-right (n-right (n-left
    (n-sequence n-token (n-sequence (stream_view stream) (listing r-taken first more)))))))))))))))))
statement_view (statement.Open path name mode) =
    n-right (n-right (n-right (n-right (n-right (n-right (n-right (n-right (n-right (n-right (n-right (n-right (n-right (n-right (n-right (n-left
    (n-sequence n-token (n-sequence n-token (n-sequence path (n-sequence n-token (n-sequence name (n-sequence n-token (mode_view mode))))))))))))))))))))))
statement_view (statement.Close stream) =
    n-right (n-right (n-right (n-right (n-right (n-right (n-right (n-right (n-right (n-right (n-right (n-right (n-right (n-right (n-right (n-right (n-left (n-sequence n-token (n-sequence n-token stream))))))))))))))))))
statement_view statement.Quit =
    n-right (n-right (n-right (n-right (n-right (n-right (n-right (n-right (n-right (n-right (n-right (n-right (n-right (n-right (n-right (n-right (n-right (n-sequence n-token (n-right n-empty))))))))))))))))))
statement_view (statement.QuitWith number) =
    n-right (n-right (n-right (n-right (n-right (n-right (n-right (n-right (n-right (n-right (n-right (n-right (n-right (n-right (n-right (n-right (n-right (n-sequence n-token (n-left (n-sequence n-token number)))))))))))))))))))

-- the least width of a value that is put, and how much a variable takes
abbrev pub widths : Description Rule
widths = t SignColon ⨟ rule r-expr

abbrev pub amounts : Description Rule
amounts = t SignColon ⨟ (t SignStar ∣ rule r-expr)

abbrev pub width_view : Option (Of r-expr) → Part (maybe widths)
width_view None = n-right n-empty
width_view (Some width) = n-left (n-sequence n-token width)

abbrev pub shown_view : Of r-expr → Option (Of r-expr) → Part (body r-shown)
shown_view value width = n-sequence value (width_view width)

abbrev pub amount_view : Amount → Part (maybe amounts)
amount_view amount.Token = n-right n-empty
amount_view amount.Line = n-left (n-sequence n-token (n-left n-token))
amount_view (amount.Count count) = n-left (n-sequence n-token (n-right count))

abbrev pub taken_view : Of r-path → Amount → Part (body r-taken)
taken_view path amount = n-sequence path (amount_view amount)
