-- All statements that are built.
use Rattle.std.proofs.Common.{◌≡◌, ℕ, zero, suc, ◌+◌, ◌<◌, ◌≤◌, Bool, true, false, List, [], refl, sym, subst, arith, map}
use Rattle.std.specs.Prelude.{◌&&◌}
use Rattle.std.proofs.lemmas.List.{append-nil}
use Rattle.grammar.specs.Description.{rule}
use Rattle.grammar.specs.Tree.{Mark, n-rule, n-sequence, n-left, n-right, height}
use Rattle.ir_form.specs.Plain.{Calls}
use Rattle.ir_code.specs.Pieces.{leave, with_op}
use Rattle.ir_code.specs.declared.code.Code.{Code}
use Rattle.tu_token.specs.declared.class.Class.TheVariants.{SignAssign, WordElse, WordEnd, WordIf, WordLoop, WordThen}
use Rattle.tu_token.specs.Rules.{r-block, r-elsif, r-expr, r-invariant, r-path, r-statement, ◌⨟◌, many, maybe, t as lexeme}
use Rattle.tu_token.specs.Syntax.{Of}
use Rattle.tu_expr.specs.Parts.{Part}
use Rattle.tu_expr.specs.Forms.{Present, Absent, More, NoMore, Behind, Listed, Path}
use Rattle.tu_tree.specs.Forms.{Block, BlockConst, BlockVar, BlockType, BlockBind, BlockStatement, If, Loop, Simple, Exit, ExitWhen, Put, Elsif, Separated}
use Rattle.tu_tree.specs.Parts.{separated}
use Rattle.tu_tree.specs.StatementViews.{simple, block_part}
use Rattle.tu_tree_meaning.specs.Interpreter.{Flow, Next, execute_simple, execute, execute_elsifs, execute_otherwise, execute_block, execute_parts}
use Rattle.tu_tree_meaning.specs.Steps.{Step, give}
use Rattle.tu_tree_meaning.specs.Store.{Store, by_copying}
use Rattle.tu_tree_meaning.specs.Values.{Variable}
use Rattle.ir_build.specs.Keeps.{Named, Site}
use Rattle.ir_build.specs.Code.{test_expr}
use Rattle.ir_build.specs.Built.{is_built, is_built_path, is_tested}
use Rattle.ir_build.proofs.Words.{keeps_give}
use Rattle.ir_build.proofs.Forms.{both}
use Rattle.ir_build.proofs.Conditions.{conditions_do}
use Rattle.ir_stmt.specs.Code.{inside, with_arm, code_simple, code_statement, code_elsifs, code_otherwise, code_block, code_parts}
use Rattle.ir_stmt.specs.Built.{is_shown_built, are_shown_built, is_simple_built, is_statement_built, are_elsifs_built, is_otherwise_built, is_block_built, are_parts_built}
use Rattle.ir_stmt.proofs.Stores.{IsOrdered}
use Rattle.ir_stmt.proofs.Simple.{StatementDoes, assign_does, exit_does, exit_when_does}
use Rattle.ir_stmt.proofs.Shown.{RunTime, put_does}
use Rattle.ir_stmt.proofs.Blocks.{ArmsDo, closed, arm_does, paid_arm, once_does, in_order, loop_does}

not_so : {A : Type 0} → false ≡ true → A
not_so e = absurd (let q : false ≡ true = e in grind (arith, q))

inside_is : {b : Bool} (A : Bool → Type 0) → b ≡ true → A true → A b
inside_is A e h = subst A (sym e) h

module _ (x : Site) (calls : Calls) (rt : RunTime x calls) (ordered : IsOrdered x.names) (depth : ℕ) (enough : x.turns ≤ depth) where
  abbrev declared : List Variable
  declared = map (λ (n : Named). n.name) x.names

  abbrev Does : Bool → ℕ → Step Store Flow → (Code → Code) → Type 0
  Does is_inside outside m make = (code : Code) → x.low ≤ code.next → StatementDoes x calls is_inside outside m code (make code)

  simple_does : (is_inside : Bool) (outside : ℕ) (m : Mark) (y : Part simple) → is_simple_built declared is_inside (Simple m y) ≡ true → Does is_inside outside (execute_simple Store by_copying x.turns depth [] (Simple m y)) (code_simple x.fixed x.names outside (Simple m y))
  simple_does is_inside outside m (Exit word) b code low = inside_is (λ z. StatementDoes x calls z outside (execute_simple Store by_copying x.turns depth [] (Simple m (Exit word))) code (code_simple x.fixed x.names outside (Simple m (Exit word)) code)) b (exit_does x calls depth ordered outside m word code low)
  simple_does is_inside outside m (ExitWhen word when e) b code low =
      let q = both is_inside (is_tested declared e) b in
      inside_is (λ z. StatementDoes x calls z outside (execute_simple Store by_copying x.turns depth [] (Simple m (ExitWhen word when e))) code (code_simple x.fixed x.names outside (Simple m (ExitWhen word when e)) code)) q.0 (exit_when_does x calls depth ordered outside m word when e q.1 code low)
  simple_does is_inside outside m (Put word Absent (Listed first more) dots) b code low =
      let q = both (is_shown_built declared first) (are_shown_built declared more) b in put_does x calls depth rt is_inside outside m word first more dots q.0 q.1 code low
  simple_does is_inside outside m (Put word (Present z) parts dots) b code low = not_so b
  simple_does is_inside outside m (n-right (n-left z)) b code low = not_so b
  simple_does is_inside outside m (n-right (n-right (n-left z))) b code low = not_so b
  simple_does is_inside outside m (n-right (n-right (n-right (n-left z)))) b code low = not_so b
  simple_does is_inside outside m (n-right (n-right (n-right (n-right (n-left z))))) b code low = not_so b
  simple_does is_inside outside m (n-right (n-right (n-right (n-right (n-right (n-left z)))))) b code low = not_so b
  simple_does is_inside outside m (n-right (n-right (n-right (n-right (n-right (n-right (n-left z))))))) b code low = not_so b
  simple_does is_inside outside m (n-right (n-right (n-right (n-right (n-right (n-right (n-right (n-right z)))))))) b code low = not_so b

  nothing_does : (is_inside : Bool) (outside : ℕ) (code : Code) → StatementDoes x calls is_inside outside (give Next) code code
  nothing_does is_inside outside code = record { ops = []; is = sym (append-nil code.ops); more = omega arith; keeps = λ left s st c tr b h w le. keeps_give Next s _ (record { way = refl; holds = h }) w le }

  -- n: above the heights of the statements inside
  module _ (n : ℕ) (inner : (is_inside : Bool) (outside : ℕ) (s : Of r-statement) → height s < n → is_statement_built declared is_inside s ≡ true → Does is_inside outside (execute Store by_copying x.turns depth [] s) (code_statement x.fixed x.names outside s)) where
    parts_do : (is_inside : Bool) (outside : ℕ) (parts : Part (many (separated block_part))) → height parts < n → are_parts_built declared is_inside parts ≡ true → Does is_inside outside (execute_parts Store by_copying x.turns depth [] parts) (code_parts x.fixed x.names outside parts)
    parts_do is_inside outside NoMore h b code low = nothing_does is_inside outside code
    parts_do is_inside outside (More (Separated (BlockStatement s) semicolon) more) h b code low =
        let q = both (is_statement_built declared is_inside s) (are_parts_built declared is_inside more) b in
        let a = inner is_inside outside s (omega (arith, h)) q.0 code low in
        let le = a.more in
        in_order a (parts_do is_inside outside more (omega (arith, h)) q.1 (code_statement x.fixed x.names outside s code) (omega arith))
    parts_do is_inside outside (More (Separated (BlockConst z) semicolon) more) h b code low = not_so b
    parts_do is_inside outside (More (Separated (BlockVar z) semicolon) more) h b code low = not_so b
    parts_do is_inside outside (More (Separated (BlockType z) semicolon) more) h b code low = not_so b
    parts_do is_inside outside (More (Separated (BlockBind z) semicolon) more) h b code low = not_so b

    block_does : (is_inside : Bool) (outside : ℕ) (block : Of r-block) → height block ≤ n → is_block_built declared is_inside block ≡ true → Does is_inside outside (execute_block Store by_copying x.turns depth [] block) (code_block x.fixed x.names outside block)
    block_does is_inside outside (Block m parts) h b code low = parts_do is_inside outside parts (omega (arith, h)) b code low

    otherwise_does : (is_inside : Bool) (outside : ℕ) (otherwise : Part (maybe (lexeme WordElse ⨟ rule r-block))) → height otherwise ≤ n → is_otherwise_built declared is_inside otherwise ≡ true → Does is_inside outside (execute_otherwise Store by_copying x.turns depth [] otherwise) (code_otherwise x.fixed x.names outside otherwise)
    otherwise_does is_inside outside Absent h b code low = nothing_does is_inside outside code
    otherwise_does is_inside outside (Present (Behind word block)) h b code low = block_does is_inside outside block (omega (arith, h)) b code low

    elsifs_do : (is_inside : Bool) (outside : ℕ) (elsifs : Part (many (rule r-elsif))) (otherwise : Part (maybe (lexeme WordElse ⨟ rule r-block))) → height elsifs ≤ n → height otherwise ≤ n → are_elsifs_built declared is_inside elsifs ≡ true → is_otherwise_built declared is_inside otherwise ≡ true → (code : Code) → x.low ≤ code.next →
        ArmsDo x calls is_inside outside 60 (execute_elsifs Store by_copying x.turns depth [] elsifs (execute_otherwise Store by_copying x.turns depth [] otherwise)) code (with_op (code_otherwise x.fixed x.names (outside + 1) otherwise (code_elsifs x.fixed x.names (outside + 1) elsifs code)) (leave 0))
    elsifs_do is_inside outside NoMore otherwise h k b d code low = closed (otherwise_does is_inside (outside + 1) otherwise k d code low)
    elsifs_do is_inside outside (More (Elsif m word e next_word block) more) otherwise h k b d code low =
        let q = both (is_tested declared e) (is_block_built declared is_inside block && are_elsifs_built declared is_inside more) b in
        let r = both (is_block_built declared is_inside block) (are_elsifs_built declared is_inside more) q.1 in
        let a = conditions_do x calls depth m.line e q.0 code low in
        let test = test_expr x.fixed x.names m.line e code in
        let la = a.more in
        let body = block_does is_inside (outside + 1) block (omega (arith, h)) r.0 (inside test.code) (omega arith) in
        let lb = body.more in
        paid_arm (arm_does a body (elsifs_do is_inside outside more otherwise (omega (arith, h)) k r.1 d (with_arm test (code_block x.fixed x.names (outside + 1) block (inside test.code))) (omega arith)))

    path_level : (is_inside : Bool) (outside : ℕ) (m : Mark) (z : Part (rule r-path ⨟ maybe (lexeme SignAssign ⨟ rule r-expr))) → is_statement_built declared is_inside (n-rule m (n-left z)) ≡ true → Does is_inside outside (execute Store by_copying x.turns depth [] (n-rule m (n-left z))) (code_statement x.fixed x.names outside (n-rule m (n-left z)))
    path_level is_inside outside m (n-sequence (Path mp root NoMore) (n-left (n-sequence sign e))) b code low = let q = both (is_built_path declared (Path mp root NoMore)) (is_built declared e) b in assign_does x calls depth ordered is_inside outside m mp root sign e q.0 q.1 code low
    path_level is_inside outside m (n-sequence (Path mp root (More z zs)) (n-left (n-sequence sign e))) b code low = not_so b
    path_level is_inside outside m (n-sequence path (n-right z)) b code low = not_so b

    if_level : (is_inside : Bool) (outside : ℕ) (m : Mark) (word : Part (lexeme WordIf)) (e : Of r-expr) (next_word : Part (lexeme WordThen)) (block : Of r-block) (elsifs : Part (many (rule r-elsif))) (otherwise : Part (maybe (lexeme WordElse ⨟ rule r-block))) (end : Part (lexeme WordEnd)) (again : Part (lexeme WordIf)) → height (If m word e next_word block elsifs otherwise end again) ≤ n → is_statement_built declared is_inside (If m word e next_word block elsifs otherwise end again) ≡ true →
        Does is_inside outside (execute Store by_copying x.turns depth [] (If m word e next_word block elsifs otherwise end again)) (code_statement x.fixed x.names outside (If m word e next_word block elsifs otherwise end again))
    if_level is_inside outside m word e next_word block elsifs otherwise end again h b code low =
        let q = both (is_tested declared e) (is_block_built declared is_inside block && (are_elsifs_built declared is_inside elsifs && is_otherwise_built declared is_inside otherwise)) b in
        let r = both (is_block_built declared is_inside block) (are_elsifs_built declared is_inside elsifs && is_otherwise_built declared is_inside otherwise) q.1 in
        let u = both (are_elsifs_built declared is_inside elsifs) (is_otherwise_built declared is_inside otherwise) r.1 in
        let a = conditions_do x calls depth m.line e q.0 (inside code) low in
        let test = test_expr x.fixed x.names m.line e (inside code) in
        let la = a.more in
        let body = block_does is_inside (outside + 1) block (omega (arith, h)) r.0 (inside test.code) (omega arith) in
        let lb = body.more in
        once_does (arm_does a body (elsifs_do is_inside outside elsifs otherwise (omega (arith, h)) (omega (arith, h)) u.0 u.1 (with_arm test (code_block x.fixed x.names (outside + 1) block (inside test.code))) (omega arith)))

    loop_level : (is_inside : Bool) (outside : ℕ) (m : Mark) (word : Part (lexeme WordLoop)) (invariant : Part (maybe (rule r-invariant))) (block : Of r-block) (end : Part (lexeme WordEnd)) (again : Part (lexeme WordLoop)) → height (Loop m word invariant block end again) ≤ n → is_statement_built declared is_inside (Loop m word invariant block end again) ≡ true →
        Does is_inside outside (execute Store by_copying x.turns depth [] (Loop m word invariant block end again)) (code_statement x.fixed x.names outside (Loop m word invariant block end again))
    loop_level is_inside outside m word Absent block end again h b code low = loop_does x calls enough (block_does true 0 block (omega (arith, h)) b (inside code) low)
    loop_level is_inside outside m word (Present z) block end again h b code low = not_so b

    level_does : (is_inside : Bool) (outside : ℕ) (s : Of r-statement) → height s ≤ n → is_statement_built declared is_inside s ≡ true → Does is_inside outside (execute Store by_copying x.turns depth [] s) (code_statement x.fixed x.names outside s)
    level_does is_inside outside (n-rule m (n-left z)) h b code low = path_level is_inside outside m z b code low
    level_does is_inside outside (If m word e next_word block elsifs otherwise end again) h b code low = if_level is_inside outside m word e next_word block elsifs otherwise end again h b code low
    level_does is_inside outside (Loop m word invariant block end again) h b code low = loop_level is_inside outside m word invariant block end again h b code low
    level_does is_inside outside (n-rule m (n-right (n-right (n-right (n-left z))))) h b code low = not_so b
    level_does is_inside outside (n-rule m (n-right (n-right (n-right (n-right (n-left z)))))) h b code low = not_so b
    level_does is_inside outside (n-rule m (n-right (n-right (n-right (n-right (n-right (n-left z))))))) h b code low = not_so b
    level_does is_inside outside (Simple m y) h b code low = simple_does is_inside outside m y b code low

  below_does : (n : ℕ) (is_inside : Bool) (outside : ℕ) (s : Of r-statement) → height s < n → is_statement_built declared is_inside s ≡ true → Does is_inside outside (execute Store by_copying x.turns depth [] s) (code_statement x.fixed x.names outside s)
  below_does zero is_inside outside s lt b code low = absurd (omega (arith, lt))
  below_does (suc n) is_inside outside s lt b code low = level_does n (below_does n) is_inside outside s (omega (arith, lt)) b code low

  -- a statement
  pub statement_does : (is_inside : Bool) (outside : ℕ) (s : Of r-statement) → is_statement_built declared is_inside s ≡ true → Does is_inside outside (execute Store by_copying x.turns depth [] s) (code_statement x.fixed x.names outside s)
  statement_does is_inside outside s b code low = below_does (suc (height s)) is_inside outside s (omega arith) b code low
