-- The region code of statements and of a program.
use Rattle.std.specs.Prelude.{ℕ, ◌+◌, List, [], ◌∷◌, ◌++◌, length, Option, Some, None}
use Rattle.grammar.specs.Description.{rule}
use Rattle.tu_base.specs.declared.kind.Kind.TheVariants as kind
use Rattle.rv_isa.specs.declared.instr.Relation.TheVariants.{LessUnsigned}
use Rattle.ir_form.specs.declared.op.Op.{Op}
use Rattle.ir_code.specs.Pieces.{call, constant, global, leave, once, raise_unless, repeat, with_op}
use Rattle.ir_code.specs.declared.code.Code.{Code}
use Rattle.tu_token.specs.declared.class.Class.TheVariants.{SignColon, SignComma, SignRange, WordElse}
use Rattle.tu_token.specs.Rules.{r-item, r-block, r-var, r-statement, r-elsif, r-shown, r-expr, ◌⨟◌, many, maybe, t as lexeme}
use Rattle.tu_token.specs.Syntax.{Of}
use Rattle.tu_expr.specs.Forms.{Present, Absent, More, NoMore, Behind, Listed, Path}
use Rattle.tu_expr.specs.Parts.{Part}
use Rattle.tu_tree.specs.Forms.{ItemVar, ItemStatement, Block, BlockStatement, StartedDeclaration, TypedDeclaration, ValueStart, Assign, If, Loop, Simple, Exit, ExitWhen, Put, Shown, Elsif, Separated}
use Rattle.tu_tree.specs.Parts.{separated}
use Rattle.tu_tree.specs.StatementViews.{block_part}
use Rattle.tu_tree_meaning.specs.Interpreter.{names_of}
use Rattle.tu_tree_meaning.specs.Values.{Variable, variable_of}
use Rattle.tu_value.specs.Pieces.{with_piece, number_code, store_code, unset_code}
use Rattle.tu_value.specs.declared.pieces.Fixed.{Fixed}
use Rattle.ir_build.specs.Keeps.{Named}
use Rattle.ir_build.specs.Code.{Made, with_values, Tested, where_tested, named, code_expr, test_expr}

-- the places of the routines of the run time
abbrev pub put_int : ℕ
put_int = 0

abbrev pub put_line : ℕ
put_line = 1

-- operations inside a region of their own
abbrev pub inside : Code → Code
inside code = record { ops = []; next = code.next }

-- and behind the code so far, as the region of an operation
abbrev pub enclosed : Code → (List Op → Op) → Code → Code
enclosed code operation inner = record { ops = code.ops ++ operation inner.ops ∷ []; next = inner.next }

-- the operations that test a width, whose number is the value n
abbrev pub width_code : Fixed → (line value n : ℕ) → List Op
width_code k line value n = number_code k value n ++ constant (n + 1) 256 ∷ raise_unless LessUnsigned n (n + 1) kind.Range line ∷ []

-- the operations where a test holds are done, and then the loop around is left
abbrev pub with_arm : Tested → Code → Code
with_arm test body = record { ops = test.code.ops ++ where_tested test (body.ops ++ leave 0 ∷ []) [] ∷ []; next = body.next }

module _ (k : Fixed) (names : List Named) where
  abbrev pub code_width : (line : ℕ) → Part (maybe (lexeme SignColon ⨟ rule r-expr)) → Code → Made
  code_width line Absent code = record { code = code; value = k.zero }
  code_width line (Present (Behind _ e)) code = let x = code_expr k names line e code in with_values x.code (width_code k line x.value) 2 0

  -- a part of `put`: its value, its width, and a call that puts it
  abbrev pub code_shown : (line : ℕ) → Of r-shown → Code → Code
  code_shown line (Shown m e width) code = let x = code_expr k names line e code in let w = code_width line width x.code in with_op w.code (call put_int (x.value ∷ w.value ∷ []) line)

  abbrev pub code_shown_more : (line : ℕ) → Part (many (lexeme SignComma ⨟ rule r-shown)) → Code → Code
  code_shown_more line NoMore code = code
  code_shown_more line (More (Behind _ part) more) code = code_shown_more line more (code_shown line part code)

  abbrev pub code_end : (line : ℕ) → Part (maybe (lexeme SignRange)) → Code → Code
  code_end line Absent code = with_op code (call put_line [] line)
  code_end line (Present _) code = code

  -- a value goes to a variable's address
  abbrev pub stored : Code → Option Named → (value : ℕ) → Code
  stored code None value = code
  stored code (Some n) value = with_piece code (store_code n.at value) 0

  -- A statement without blocks, with so many loops around it that are none of the program, up to the innermost one of the program.
  abbrev pub code_simple : (outside : ℕ) → Of r-statement → Code → Code
  code_simple outside (Assign m (Path at root NoMore) _ e) code = let x = code_expr k names m.line e code in stored x.code (named (variable_of root) names) x.value
  code_simple outside (Simple m (Exit _)) code = with_op code (leave outside)
  code_simple outside (Simple m (ExitWhen _ _ e)) code = let test = test_expr k names m.line e code in with_op test.code (where_tested test (leave outside ∷ []) [])
  code_simple outside (Simple m (Put _ Absent (Listed first more) dots)) code = code_end m.line dots (code_shown_more m.line more (code_shown m.line first code))
  code_simple outside other code = code

  -- The arms of an `if` are done one after the other, in a loop that the first one leaves whose condition holds.
  abbrev mutual
    pub code_statement : (outside : ℕ) → Of r-statement → Code → Code
    code_statement outside (If m _ e _ block elsifs otherwise _ _) code =
        let test = test_expr k names m.line e (inside code) in
        enclosed code once (with_op (code_otherwise (outside + 1) otherwise (code_elsifs (outside + 1) elsifs (with_arm test (code_block (outside + 1) block (inside test.code))))) (leave 0))
    code_statement outside (Loop m _ Absent block _ _) code = enclosed code repeat (code_block 0 block (inside code))
    code_statement outside other code = code_simple outside other code

    pub code_elsifs : (outside : ℕ) → Part (many (rule r-elsif)) → Code → Code
    code_elsifs outside NoMore code = code
    code_elsifs outside (More (Elsif m _ e _ block) more) code =
        let test = test_expr k names m.line e code in code_elsifs outside more (with_arm test (code_block outside block (inside test.code)))

    pub code_otherwise : (outside : ℕ) → Part (maybe (lexeme WordElse ⨟ rule r-block)) → Code → Code
    code_otherwise outside Absent code = code
    code_otherwise outside (Present (Behind _ block)) code = code_block outside block code

    pub code_block : (outside : ℕ) → Of r-block → Code → Code
    code_block outside (Block m parts) code = code_parts outside parts code

    pub code_parts : (outside : ℕ) → Part (many (separated block_part)) → Code → Code
    code_parts outside NoMore code = code
    code_parts outside (More (Separated (BlockStatement s) _) more) code = code_parts outside more (code_statement outside s code)
    code_parts outside other code = code

-- code, and the variables that are declared behind it, the newest first
pub record Declared : Type 0 where
  pub code : Code
  pub names : List Named

module _ (k : Fixed) where
  -- A variable's address is the value n, and the variable is unset.
  abbrev pub declare_code : (word n : ℕ) → List Op
  declare_code word n = global n word ∷ unset_code k n

  abbrev pub declare_all : List Variable → Declared → Declared
  declare_all [] d = d
  declare_all (x ∷ more) d =
      declare_all more (record { code = with_piece d.code (declare_code (length d.names) d.code.next) 1; names = record { name = x; word = length d.names; at = d.code.next } ∷ d.names })

  -- a value goes to each of the variables
  abbrev pub store_all : List Named → (value : ℕ) → List Variable → Code → Code
  store_all names value [] code = code
  store_all names value (x ∷ more) code = store_all names value more (stored k names code (named x names) value)

  abbrev pub started : (line : ℕ) → List Variable → Of r-expr → Declared → Declared
  started line variables e d = let x = code_expr k d.names line e d.code in record { code = store_all d.names x.value variables x.code; names = d.names }

  abbrev pub code_var : Of r-var → Declared → Declared
  code_var (StartedDeclaration m _ names _ e) d = started m.line (names_of names) e (declare_all (names_of names) d)
  code_var (TypedDeclaration m _ names _ spec Absent) d = declare_all (names_of names) d
  code_var (TypedDeclaration m _ names _ spec (Present (Behind _ (ValueStart start e)))) d = started m.line (names_of names) e (declare_all (names_of names) d)
  code_var other d = d

  abbrev pub code_item : Of r-item → Declared → Declared
  code_item (ItemVar m x) d = code_var x d
  code_item (ItemStatement m s) d = record { code = code_statement k d.names 0 s d.code; names = d.names }
  code_item other d = d

  abbrev pub code_items : Part (many (separated (rule r-item))) → Declared → Declared
  code_items NoMore d = d
  code_items (More (Separated item _) more) d = code_items more (code_item item d)
