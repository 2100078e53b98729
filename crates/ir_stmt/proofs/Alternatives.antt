-- Arms of an `if`, rounds of a loop and statements of a block, as they are made.
use Rattle.std.proofs.Common.{◌≡◌, ℕ, ◌+◌, ◌*◌, ◌<◌, ◌≤◌, Bool, true, false, List, [], ◌∷◌, ◌++◌, length, drop, get_or, refl, ap, ◌∙◌, sym, arith}
use Rattle.std.specs.Prelude.{Option, Some, None}
use denote.Param.Weighed.{most}
use Rattle.grammar.specs.Tree.{Mark, n-rule, height}
use Rattle.ir_code.specs.Pieces.{leave, once, repeat, with_op}
use Rattle.ir_code.specs.declared.code.Code.{Code}
use Rattle.ir_form.specs.declared.op.Op.{Op}
use Rattle.tu_token.specs.Rules.{r-block, r-elsif, r-expr, r-invariant, r-statement}
use Rattle.tu_token.specs.Syntax.{Of}
use Rattle.tu_tree.specs.StatementViews.{block_part_view, block_view, elsif_view, elsifs_view, else_view, statement_view}
use Rattle.tu_tree.specs.declared.statement.Block.TheDeep.{size-Elsif}
use Rattle.tu_tree.specs.declared.statement.BlockPart.{BlockPart}
use Rattle.tu_tree.specs.declared.statement.BlockPart.TheVariants as part
use Rattle.tu_tree.specs.declared.statement.StatementForm.{StatementForm}
use Rattle.tu_tree.specs.declared.statement.StatementForm.TheVariants.{If, Loop}
use Rattle.tu_tree.specs.declared.statement.StatementForm.TheVariants as statement
use Rattle.tu_value.specs.declared.pieces.Fixed.{Fixed}
use Rattle.ir_build.specs.Code.{Tested, test_expr, where_tested}
use Rattle.ir_build.specs.Keeps.{Named}
use Rattle.ir_build.specs.Tokens.{tokens_in}
use Rattle.ir_build.proofs.Operands.{from_place}
use Rattle.ir_stmt.specs.Code.{code_block, code_elsifs, code_otherwise, code_parts, code_simple, code_statement, enclosed, inside, with_arm}

pub if_tokens : (s : Of r-statement) (m : Mark) (condition : Of r-expr) (block : Of r-block) (elsifs : List (Of r-elsif)) (otherwise : Option (Of r-block)) → n-rule m (statement_view (If condition block elsifs otherwise)) ≡ s
    → (tokens_in condition + tokens_in block) + (tokens_in (elsifs_view elsifs) + tokens_in (else_view otherwise)) + 4 ≡ tokens_in s
if_tokens s m condition block elsifs otherwise is = let e = ap tokens_in is in omega (arith, e)

size_is : (x : Of r-elsif) → size-Elsif x ≡ 3 * height x + 3
size_is x = let e : size-Elsif x ≡ 3 * (height x + 1) + 0 = refl in omega (arith, e)

further_fall : (xs : List (Of r-elsif)) → most (λ x. size-Elsif x) xs ≤ 3 * height (elsifs_view xs) + 3
further_fall [] = omega arith
further_fall (x ∷ xs) = let rest = further_fall xs in omega (arith, rest, size_is x)

-- the arms lie lower than the statement
pub elsifs_fall : (s : Of r-statement) (m : Mark) (condition : Of r-expr) (block : Of r-block) (elsifs : List (Of r-elsif)) (otherwise : Option (Of r-block)) → n-rule m (statement_view (If condition block elsifs otherwise)) ≡ s
    → most (λ x. size-Elsif x) elsifs ≤ 3 * height s
elsifs_fall s m condition block elsifs otherwise is = let e = ap height is in let f = further_fall elsifs in omega (arith, e, f)

pub elsif_tokens : (x : Of r-elsif) (m : Mark) (condition : Of r-expr) (block : Of r-block) → n-rule m (elsif_view condition block) ≡ x → (tokens_in condition + tokens_in block) + 2 ≡ tokens_in x
elsif_tokens x m condition block is = let e = ap tokens_in is in omega (arith, e)

pub elsifs_tokens_at : (xs : List (Of r-elsif)) (i : ℕ) (x : Of r-elsif) → i < length xs → x ≡ get_or xs i x → tokens_in (elsifs_view (drop i xs)) ≡ tokens_in x + tokens_in (elsifs_view (drop (i + 1) xs))
elsifs_tokens_at xs i x h is = ap (λ s. tokens_in (elsifs_view s)) (from_place xs i x h is)

part_tokens : (x : BlockPart × Bool) (xs : List (BlockPart × Bool)) → tokens_in (block_part_view x.0) + tokens_in (block_view xs) ≤ tokens_in (block_view (x ∷ xs))
part_tokens (x, true) xs = omega arith
part_tokens (x, false) xs = omega arith

pub parts_tokens_at : (xs : List (BlockPart × Bool)) (i : ℕ) (x : BlockPart × Bool) (s : Of r-statement) → i < length xs → x ≡ get_or xs i x → x.0 ≡ part.Statement s
    → tokens_in s + tokens_in (block_view (drop (i + 1) xs)) ≤ tokens_in (block_view (drop i xs))
parts_tokens_at xs i x s h is statement =
    omega (arith, part_tokens x (drop (i + 1) xs), ap (λ p. tokens_in (block_part_view p)) statement, ap (λ l. tokens_in (block_view l)) (from_place xs i x h is))

module _ (k : Fixed) (names : List Named) where
  pub if_made : (outside : ℕ) (m : Mark) (condition : Of r-expr) (block : Of r-block) (elsifs : List (Of r-elsif)) (otherwise : Option (Of r-block)) (s : Of r-statement) (code begun armed others last : Code) (test : Tested) (e : Of r-expr) (xs : List (Of r-elsif))
      → n-rule m (statement_view (If condition block elsifs otherwise)) ≡ s → e ≡ condition → begun ≡ inside code
      → test ≡ test_expr k names m.line e begun → armed ≡ with_arm test (code_block k names (outside + 1) block (inside test.code))
      → xs ≡ elsifs → others ≡ code_elsifs k names (outside + 1) (elsifs_view xs) armed → last ≡ code_otherwise k names (outside + 1) (else_view otherwise) others
      → enclosed code once (with_op last (leave 0)) ≡ code_statement k names outside s code
  if_made outside m condition block elsifs otherwise s code begun armed others last test e xs is e_is begun_is test_is armed_is xs_is others_is last_is =
      let tested : test ≡ test_expr k names m.line condition (inside code) = test_is ∙ (λ j. test_expr k names m.line (e_is j) (begun_is j)) in
      let first : armed ≡ with_arm (test_expr k names m.line condition (inside code)) (code_block k names (outside + 1) block (inside (test_expr k names m.line condition (inside code)).code)) =
      armed_is ∙ ap (λ z. with_arm z (code_block k names (outside + 1) block (inside z.code))) tested in
      let further = others_is ∙ (λ j. code_elsifs k names (outside + 1) (elsifs_view (xs_is j)) (first j)) in
      let all = last_is ∙ (λ j. code_otherwise k names (outside + 1) (else_view otherwise) (further j)) in
      (λ j. enclosed code once (with_op (all j) (leave 0))) ∙ ap (λ z. code_statement k names outside z code) is

  pub loop_made : (outside : ℕ) (m : Mark) (block : Of r-block) (s : Of r-statement) (code : Code) → n-rule m (statement_view (Loop None block)) ≡ s
      → enclosed code repeat (code_block k names 0 block (inside code)) ≡ code_statement k names outside s code
  loop_made outside m block s code is = ap (λ z. code_statement k names outside z code) is

  pub invariant_made : (outside : ℕ) (m : Mark) (invariant : Of r-invariant) (block : Of r-block) (s : Of r-statement) (code : Code) → n-rule m (statement_view (Loop (Some invariant) block)) ≡ s → code ≡ code_statement k names outside s code
  invariant_made outside m invariant block s code is = ap (λ z. code_statement k names outside z code) is

  -- other statements have no blocks that are built
  pub simple_made : (outside : ℕ) (m : Mark) (form : StatementForm) (s : Of r-statement) (code : Code) → n-rule m (statement_view form) ≡ s
      → ((condition : Of r-expr) (block : Of r-block) (elsifs : List (Of r-elsif)) (otherwise : Option (Of r-block)) → form ≡ If condition block elsifs otherwise → ⊥)
      → ((invariant : Option (Of r-invariant)) (block : Of r-block) → form ≡ Loop invariant block → ⊥)
      → code_simple k names outside s code ≡ code_statement k names outside s code
  simple_made outside m form s code is no_if no_loop =
      sym (ap (λ z. code_simple k names outside z code) is) ∙ (by form no_if no_loop ∙ ap (λ z. code_statement k names outside z code) is) where
        by : (f : StatementForm) → ((condition : Of r-expr) (block : Of r-block) (elsifs : List (Of r-elsif)) (otherwise : Option (Of r-block)) → f ≡ If condition block elsifs otherwise → ⊥)
            → ((invariant : Option (Of r-invariant)) (block : Of r-block) → f ≡ Loop invariant block → ⊥)
            → code_simple k names outside (n-rule m (statement_view f)) code ≡ code_statement k names outside (n-rule m (statement_view f)) code
        by (If condition block elsifs otherwise) a b = absurd (a condition block elsifs otherwise refl)
        by (Loop invariant block) a b = absurd (b invariant block refl)
        by (statement.Assign path value) a b = refl
        by (statement.Call path) a b = refl
        by (statement.For is_decreasing name range invariant block) a b = refl
        by (statement.Case subject arms otherwise) a b = refl
        by (statement.Begin block) a b = refl
        by statement.Exit a b = refl
        by (statement.ExitWhen condition) a b = refl
        by statement.Return a b = refl
        by (statement.Result value) a b = refl
        by (statement.Assert condition) a b = refl
        by (statement.New collection pointer) a b = refl
        by (statement.Free collection pointer) a b = refl
        by (statement.Tag path value) a b = refl
        by (statement.Put stream first more is_open) a b = refl
        by (statement.Get stream first more) a b = refl
        by (statement.Open path name mode) a b = refl
        by (statement.Close stream) a b = refl
        by statement.Quit a b = refl
        by (statement.QuitWith number) a b = refl

  -- the operations of an arm
  pub arm_made : (outside : ℕ) (block : Of r-block) (begun body : Code) (test : Tested) (op : Op) (first : List Op) → begun ≡ inside test.code → body ≡ code_block k names outside block begun → first ≡ body.ops ++ leave 0 ∷ []
      → op ≡ where_tested test first [] → with_op (record { ops = test.code.ops; next = body.next }) op ≡ with_arm test (code_block k names outside block (inside test.code))
  arm_made outside block begun body test op first begun_is body_is first_is op_is =
      let made : body ≡ code_block k names outside block (inside test.code) = body_is ∙ ap (code_block k names outside block) begun_is in
      let chosen = op_is ∙ ap (λ xs. where_tested test xs []) (first_is ∙ ap (λ b. b.ops ++ leave 0 ∷ []) made) in
      (λ j. record { ops = test.code.ops ++ chosen j ∷ []; next = (made j).next })

  pub elsif_at : (outside : ℕ) (code armed : Code) (xs : List (Of r-elsif)) (i : ℕ) (x : Of r-elsif) (m : Mark) (condition e : Of r-expr) (block : Of r-block) (test : Tested) → i < length xs → x ≡ get_or xs i x → n-rule m (elsif_view condition block) ≡ x
      → e ≡ condition → test ≡ test_expr k names m.line e code → armed ≡ with_arm test (code_block k names outside block (inside test.code))
      → code_elsifs k names outside (elsifs_view (drop (i + 1) xs)) armed ≡ code_elsifs k names outside (elsifs_view (drop i xs)) code
  elsif_at outside code armed xs i x m condition e block test h at is e_is test_is made =
      let rest = elsifs_view (drop (i + 1) xs) in
      let with_condition : armed ≡ with_arm (test_expr k names m.line condition code) (code_block k names outside block (inside (test_expr k names m.line condition code).code)) =
      made ∙ ap (λ z. with_arm z (code_block k names outside block (inside z.code))) (test_is ∙ ap (λ z. test_expr k names m.line z code) e_is) in
      ap (code_elsifs k names outside rest) with_condition
      ∙ (ap (λ z. code_elsifs k names outside (elsifs_view (z ∷ drop (i + 1) xs)) code) is ∙ sym (ap (λ l. code_elsifs k names outside (elsifs_view l) code) (from_place xs i x h at)))

  pub part_at : (outside : ℕ) (code after : Code) (xs : List (BlockPart × Bool)) (i : ℕ) (x : BlockPart × Bool) (s : Of r-statement) → i < length xs → x ≡ get_or xs i x → x.0 ≡ part.Statement s → after ≡ code_statement k names outside s code
      → code_parts k names outside (block_view (drop (i + 1) xs)) after ≡ code_parts k names outside (block_view (drop i xs)) code
  part_at outside code after xs i x s h at is made =
      ap (code_parts k names outside (block_view (drop (i + 1) xs))) made
      ∙ (ap (λ p. code_parts k names outside (block_view ((p, x.1) ∷ drop (i + 1) xs)) code) (sym is) ∙ sym (ap (λ l. code_parts k names outside (block_view l) code) (from_place xs i x h at)))
