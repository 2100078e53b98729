-- The code of all statements fits, and weighs at most 12 for each token.
use Rattle.std.proofs.Common.{◌≡◌, ℕ, zero, suc, ◌+◌, ◌*◌, ◌<◌, ◌≤◌, Bool, true, false, List, [], ◌∷◌, length, refl, ◌∙◌, ap, subst, add-one, arith, Option, Some, None}
use Rattle.std.specs.Prelude.{◌&&◌, slice_get}
use Rattle.grammar.specs.Description.{rule}
use Rattle.grammar.specs.Tree.{Mark, n-rule, n-sequence, n-left, n-right, height}
use Rattle.tu_base.specs.declared.kind.Kind.TheVariants.{Range}
use Rattle.ir_form.specs.declared.unit.Routine.{Routine}
use Rattle.ir_form.specs.declared.unit.Unit.{Unit as RegionUnit}
use Rattle.ir_form.specs.Values.{defined_list, marks_list}
use Rattle.ir_form.specs.Valid.{Scope, with}
use Rattle.ir_form.specs.Weight.{weight_list}
use Rattle.ir_code.specs.Pieces.{call, leave, with_op}
use Rattle.ir_code.specs.declared.code.Code.{Code}
use Rattle.tu_token.specs.declared.class.Class.TheVariants.{SignAssign, SignColon, SignComma, SignRange, WordElse, WordEnd, WordIf, WordLoop, WordThen}
use Rattle.tu_token.specs.Rules.{r-block, r-elsif, r-expr, r-invariant, r-path, r-shown, r-statement, ◌⨟◌, many, maybe, t as lexeme}
use Rattle.tu_token.specs.Syntax.{Of}
use Rattle.tu_expr.specs.Parts.{Part}
use Rattle.tu_expr.specs.Forms.{Present, Absent, More, NoMore, Behind, Listed, Path}
use Rattle.tu_tree.specs.Forms.{Block, BlockConst, BlockVar, BlockType, BlockBind, BlockStatement, If, Loop, Simple, Exit, ExitWhen, Put, Shown, Elsif, Separated}
use Rattle.tu_tree.specs.Parts.{separated}
use Rattle.tu_tree.specs.StatementViews.{simple, block_part}
use Rattle.tu_tree_meaning.specs.Values.{Variable, variable_of}
use Rattle.tu_value.specs.Pieces.{with_piece, store_code}
use Rattle.tu_value.specs.declared.pieces.Fixed.{Fixed}
use Rattle.ir_build.specs.Behind.{AreFrom, Makes, Seen, SeesAll, behind, known}
use Rattle.ir_build.specs.Keeps.{Named}
use Rattle.ir_build.specs.Built.{is_tested}
use Rattle.ir_build.specs.Code.{Made, named, code_expr, test_expr}
use Rattle.ir_build.proofs.Forms.{both}
use Rattle.ir_build.specs.Tokens.{tokens_in}
use Rattle.ir_build.proofs.Tokens.{one_token}
use Rattle.ir_build.proofs.Fits.{same_grows, grows_then, behind_grows, behind_seen, behind_fits, FitIn}
use Rattle.ir_build.proofs.Operations.{here, sees_next, store_grows, store_fits, none, constants, computes, raises}
use Rattle.ir_build.proofs.Makes.{still_sees, address_seen, makes_more, expressions_fit, conditions_fit}
use Rattle.ir_stmt.specs.Code.{put_int, put_line, inside, width_code, with_arm, code_width, code_shown, code_shown_more, code_end, stored, code_simple, code_statement, code_elsifs, code_otherwise, code_block, code_parts}
use Rattle.ir_stmt.specs.Built.{is_simple_built, is_statement_built, are_elsifs_built, is_otherwise_built, is_block_built, are_parts_built}
use Rattle.ir_stmt.proofs.Fitting.{Calls, op_fits, put_int_fits, put_line_fits, pushed_grows, Does, does_then, does_more, nothing_does, made_does, Takes, leave_does, when_does, arm_does, once_does, repeat_does}

pub not_so : {A : Type 0} → false ≡ true → A
not_so e = absurd (let q : false ≡ true = e in grind (arith, q))

width_weight : (k : Fixed) (line value n : ℕ) → weight_list (width_code k line value n) ≡ 4
unfolding Rattle.ir_form.specs.declared.op.Op.TheBlock.hidden-the_row-Op-0 denote.Hole.Carrier.hidden
width_weight k line value n = refl

width_values : (k : Fixed) (line value n : ℕ) → AreFrom n (defined_list (width_code k line value n)) × (length (defined_list (width_code k line value n)) ≡ 2)
unfolding Rattle.ir_form.specs.declared.op.Op.TheBlock.hidden-the_row-Op-0 denote.Hole.Carrier.hidden
width_values k line value n = ((refl, (refl, tt)), refl)

width_unguarded : (k : Fixed) (line value n : ℕ) → marks_list (width_code k line value n) ≡ []
unfolding Rattle.ir_form.specs.declared.op.Op.TheBlock.hidden-the_row-Op-0 denote.Hole.Carrier.hidden
width_unguarded k line value n = refl

module _ (u : RegionUnit) (r : Routine) (calls : Calls u r) (k : Fixed) (names : List Named) where
  -- nothing is asked of the loops
  abbrev pub Any : List ℕ → Type 0
  Any loops = Unit {0}

  width_fits : (s : Scope) (line value n : ℕ) → SeesAll s (value ∷ k.top ∷ []) → FitIn u r s (width_code k line value n)
  width_fits s line value n h =
      let g1 = sees_next s n (value ∷ k.top ∷ []) h in
      let g2 = sees_next (with s (n ∷ [])) (n + 1) (n ∷ value ∷ k.top ∷ []) g1 in
      computes h.0 h.1.0 (constants (raises Range line g2.1.0 g2.0 none))

  width_made : (line : ℕ) (width : Part (maybe (lexeme SignColon ⨟ rule r-expr))) (code : Code) → Makes u r k names (12 * tokens_in width) code (code_width k names line width code)
  width_made line Absent code = record { grows = same_grows _ code; fits = λ s h e. e; seen = λ s h. h.0 }
  width_made line (Present (Behind colon e)) code =
      let x = code_expr k names line e code in
      let m = expressions_fit u r k names line e code in
      let one = one_token colon in
      let n = x.code.next in
      let ops = width_code k line x.value n in
      let w = width_weight k line x.value n in
      let v = width_values k line x.value n in
      record {
        grows = grows_then m.grows (behind_grows 4 2 x.code ops (omega arith) (omega arith) v.0 v.1 (width_unguarded k line x.value n)) (omega arith);
        fits = λ s h z. behind_fits u r 2 s x.code ops (m.fits s h z) (width_fits (behind s x.code) line x.value n (m.seen s h, ((still_sees s (known k names) m.grows h).1.0, tt)));
        seen = λ s h. subst (λ i. Seen s (with_piece x.code ops 2) i) (let q : n ≡ n + 0 = omega arith in q) (behind_seen 2 s x.code ops n (here n ((n + 1) ∷ [])));
      }

  shown_does : (line : ℕ) (part : Of r-shown) (code : Code) → Does u r k names Any (12 * tokens_in part + 3) code (code_shown k names line part code)
  shown_does line (Shown m e width) code =
      let x = code_expr k names line e code in
      let w = code_width k names line width x.code in
      let a = expressions_fit u r k names line e code in
      let b = width_made line width x.code in
      let op = call put_int (x.value ∷ w.value ∷ []) line in
      record {
        grows = grows_then {a = 12 * tokens_in e + 12 * tokens_in width} (grows_then a.grows b.grows (omega arith)) (pushed_grows 3 w.code op (omega arith) refl refl) (omega arith);
        fits = λ s p h z.
            let g = still_sees s (known k names) a.grows h in
            behind_fits u r 0 s w.code (op ∷ []) (b.fits s g (a.fits s h z)) (op_fits u r (behind s w.code) op (put_int_fits u r calls (behind s w.code) x.value w.value line (b.grows.kept s x.value (a.seen s h)) (b.seen s g)));
      }

  shown_more_does : (line : ℕ) (more : Part (many (lexeme SignComma ⨟ rule r-shown))) (code : Code) → Does u r k names Any (12 * tokens_in more) code (code_shown_more k names line more code)
  shown_more_does line NoMore code = nothing_does u r k names Any 0 code
  shown_more_does line (More (Behind comma part) more) code =
      let one = one_token comma in does_then u r k names (shown_does line part code) (shown_more_does line more (code_shown k names line part code)) (λ loops p. (tt, tt)) (omega arith)

  end_does : (line : ℕ) (dots : Part (maybe (lexeme SignRange))) (code : Code) → Does u r k names Any 1 code (code_end k names line dots code)
  end_does line Absent code = record {
    grows = pushed_grows 1 code (call put_line [] line) (omega arith) refl refl;
    fits = λ s p h e. behind_fits u r 0 s code (call put_line [] line ∷ []) e (op_fits u r (behind s code) (call put_line [] line) (put_line_fits u r calls (behind s code) line));
  }
  end_does line (Present sign) code = nothing_does u r k names Any 1 code

  -- a value goes to a variable
  pub stored_made : {a most : ℕ} {code : Code} {x : Made} (y : Variable) → Makes u r k names a code x → a + 1 ≤ most → Makes u r k names most code (record { code = stored k names x.code (named y names) x.value; value = x.value })
  stored_made {a} {most} {code} {x} y m le = by (named y names) refl
    where
      by : (o : Option Named) → named y names ≡ o → Makes u r k names most code (record { code = stored k names x.code o x.value; value = x.value })
      by None is = makes_more u r k names m (omega (arith, le))
      by (Some n) is = record {
        grows = grows_then m.grows (store_grows n.at x.value x.code) le;
        fits = λ s h e. behind_fits u r 0 s x.code (store_code n.at x.value) (m.fits s h e) (store_fits (behind s x.code) n.at x.value (address_seen y n names (behind s x.code) is (still_sees s (known k names) m.grows h).1.1.1, (m.seen s h, tt)));
        seen = λ s h. (store_grows n.at x.value x.code).kept s x.value (m.seen s h);
      }

  module _ (declared : List Variable) where
    -- what is built fits where it may leave the loop of the program around it
    abbrev pub IsBuilt : Bool → (is_inside : Bool) → (outside : ℕ) → List ℕ → Type 0
    IsBuilt b is_inside outside loops = (b ≡ true) × (is_inside ≡ true → Takes u r k names outside loops)

    next_outside : (outside : ℕ) (loops : List ℕ) → Takes u r k names outside loops → Takes u r k names (outside + 1) (0 ∷ loops)
    next_outside outside loops h = ap (λ n. slice_get (0 ∷ loops) n) (add-one outside) ∙ h

    simple_does : (is_inside : Bool) (outside : ℕ) (m : Mark) (y : Part simple) (code : Code) → Does u r k names (IsBuilt (is_simple_built declared is_inside (Simple m y)) is_inside outside) (12 * tokens_in (Simple m y)) code (code_simple k names outside (Simple m y) code)
    simple_does is_inside outside m (Exit word) code = let one = one_token word in does_more u r k names (leave_does u r k names outside code) (λ loops p. p.1 p.0) (omega arith)
    simple_does is_inside outside m (ExitWhen word when e) code =
        let one = one_token word in
        does_more u r k names (when_does u r k names outside (conditions_fit u r k names m.line e code)) (λ loops p. p.1 (both is_inside (is_tested declared e) p.0).0) (omega arith)
    simple_does is_inside outside m (Put word Absent (Listed first more) dots) code =
        let one = one_token word in
        let a = shown_does m.line first code in
        let b = shown_more_does m.line more (code_shown k names m.line first code) in
        let c = end_does m.line dots (code_shown_more k names m.line more (code_shown k names m.line first code)) in
        does_then u r k names (does_then u r k names {R = Any} {most = 12 * tokens_in first + 3 + 12 * tokens_in more} a b (λ loops p. (tt, tt)) (omega arith)) c (λ loops p. (tt, tt)) (omega arith)
    simple_does is_inside outside m (Put word (Present z) parts dots) code = nothing_does u r k names _ _ code
    simple_does is_inside outside m (n-right (n-left z)) code = nothing_does u r k names _ _ code
    simple_does is_inside outside m (n-right (n-right (n-left z))) code = nothing_does u r k names _ _ code
    simple_does is_inside outside m (n-right (n-right (n-right (n-left z)))) code = nothing_does u r k names _ _ code
    simple_does is_inside outside m (n-right (n-right (n-right (n-right (n-left z))))) code = nothing_does u r k names _ _ code
    simple_does is_inside outside m (n-right (n-right (n-right (n-right (n-right (n-left z)))))) code = nothing_does u r k names _ _ code
    simple_does is_inside outside m (n-right (n-right (n-right (n-right (n-right (n-right (n-left z))))))) code = nothing_does u r k names _ _ code
    simple_does is_inside outside m (n-right (n-right (n-right (n-right (n-right (n-right (n-right (n-right z)))))))) code = nothing_does u r k names _ _ code

    -- n: above the heights of the statements inside
    module _ (n : ℕ) (inner : (is_inside : Bool) (outside : ℕ) (s : Of r-statement) → height s < n → (code : Code) → Does u r k names (IsBuilt (is_statement_built declared is_inside s) is_inside outside) (12 * tokens_in s) code (code_statement k names outside s code)) where
      parts_do : (is_inside : Bool) (outside : ℕ) (parts : Part (many (separated block_part))) → height parts < n → (code : Code) → Does u r k names (IsBuilt (are_parts_built declared is_inside parts) is_inside outside) (12 * tokens_in parts) code (code_parts k names outside parts code)
      parts_do is_inside outside NoMore h code = nothing_does u r k names _ _ code
      parts_do is_inside outside (More (Separated (BlockStatement s) semicolon) more) h code =
          does_then u r k names (inner is_inside outside s (omega (arith, h)) code) (parts_do is_inside outside more (omega (arith, h)) (code_statement k names outside s code))
          (λ loops p. let q = both (is_statement_built declared is_inside s) (are_parts_built declared is_inside more) p.0 in ((q.0, p.1), (q.1, p.1))) (omega arith)
      parts_do is_inside outside (More (Separated (BlockConst z) semicolon) more) h code = nothing_does u r k names _ _ code
      parts_do is_inside outside (More (Separated (BlockVar z) semicolon) more) h code = nothing_does u r k names _ _ code
      parts_do is_inside outside (More (Separated (BlockType z) semicolon) more) h code = nothing_does u r k names _ _ code
      parts_do is_inside outside (More (Separated (BlockBind z) semicolon) more) h code = nothing_does u r k names _ _ code

      block_does : (is_inside : Bool) (outside : ℕ) (block : Of r-block) → height block ≤ n → (code : Code) → Does u r k names (IsBuilt (is_block_built declared is_inside block) is_inside outside) (12 * tokens_in block) code (code_block k names outside block code)
      block_does is_inside outside (Block m parts) h code = parts_do is_inside outside parts (omega (arith, h)) code

      otherwise_does : (is_inside : Bool) (outside : ℕ) (otherwise : Part (maybe (lexeme WordElse ⨟ rule r-block))) → height otherwise ≤ n → (code : Code) → Does u r k names (IsBuilt (is_otherwise_built declared is_inside otherwise) is_inside outside) (12 * tokens_in otherwise) code (code_otherwise k names outside otherwise code)
      otherwise_does is_inside outside Absent h code = nothing_does u r k names _ _ code
      otherwise_does is_inside outside (Present (Behind word block)) h code = does_more u r k names (block_does is_inside outside block (omega (arith, h)) code) (λ loops p. p) (omega arith)

      elsifs_do : (is_inside : Bool) (outside : ℕ) (elsifs : Part (many (rule r-elsif))) → height elsifs ≤ n → (code : Code) → Does u r k names (λ loops. IsBuilt (are_elsifs_built declared is_inside elsifs) is_inside outside loops × Takes u r k names 0 loops) (12 * tokens_in elsifs) code (code_elsifs k names outside elsifs code)
      elsifs_do is_inside outside NoMore h code = nothing_does u r k names _ _ code
      elsifs_do is_inside outside (More (Elsif m word e next_word block) more) h code =
          let one = one_token word in
          let test = test_expr k names m.line e code in
          let a = arm_does u r k names {most = 12 * tokens_in e + 12 * tokens_in block + 2} (conditions_fit u r k names m.line e code) (block_does is_inside outside block (omega (arith, h)) (inside test.code)) (omega arith) in
          does_then u r k names a (elsifs_do is_inside outside more (omega (arith, h)) (with_arm test (code_block k names outside block (inside test.code))))
          (λ loops p.
          let q = both (is_tested declared e) (is_block_built declared is_inside block && are_elsifs_built declared is_inside more) p.0.0 in
          let z = both (is_block_built declared is_inside block) (are_elsifs_built declared is_inside more) q.1 in
          (((z.0, p.0.1), p.1), ((z.1, p.0.1), p.1))) (omega arith)

      if_level : (is_inside : Bool) (outside : ℕ) (m : Mark) (word : Part (lexeme WordIf)) (e : Of r-expr) (next_word : Part (lexeme WordThen)) (block : Of r-block) (elsifs : Part (many (rule r-elsif))) (otherwise : Part (maybe (lexeme WordElse ⨟ rule r-block))) (end : Part (lexeme WordEnd)) (again : Part (lexeme WordIf)) → height (If m word e next_word block elsifs otherwise end again) ≤ n → (code : Code) →
          Does u r k names (IsBuilt (is_statement_built declared is_inside (If m word e next_word block elsifs otherwise end again)) is_inside outside) (12 * tokens_in (If m word e next_word block elsifs otherwise end again)) code (code_statement k names outside (If m word e next_word block elsifs otherwise end again) code)
      if_level is_inside outside m word e next_word block elsifs otherwise end again h code =
          let one = one_token word in
          let test = test_expr k names m.line e (inside code) in
          let body = code_block k names (outside + 1) block (inside test.code) in
          let arms = code_elsifs k names (outside + 1) elsifs (with_arm test body) in
          let B = is_block_built declared is_inside block in let E = are_elsifs_built declared is_inside elsifs in let O = is_otherwise_built declared is_inside otherwise in
          let a = arm_does u r k names {most = 12 * tokens_in e + 12 * tokens_in block + 2} (conditions_fit u r k names m.line e (inside code)) (block_does is_inside (outside + 1) block (omega (arith, h)) (inside test.code)) (omega arith) in
          let b = elsifs_do is_inside (outside + 1) elsifs (omega (arith, h)) (with_arm test body) in
          let c = otherwise_does is_inside (outside + 1) otherwise (omega (arith, h)) arms in
          let d = leave_does u r k names 0 (code_otherwise k names (outside + 1) otherwise arms) in
          let first : Does u r k names (λ loops. (IsBuilt B is_inside (outside + 1) loops × IsBuilt E is_inside (outside + 1) loops) × Takes u r k names 0 loops) (12 * tokens_in e + 12 * tokens_in block + 2 + 12 * tokens_in elsifs) (inside code) arms = does_then u r k names a b (λ loops p. ((p.0.0, p.1), (p.0.1, p.1))) (omega arith) in
          let last : Does u r k names (λ loops. IsBuilt O is_inside (outside + 1) loops × Takes u r k names 0 loops) (12 * tokens_in otherwise + 1) arms (with_op (code_otherwise k names (outside + 1) otherwise arms) (leave 0)) = does_then u r k names c d (λ loops p. p) (omega arith) in
          let all : Does u r k names (λ loops. ((IsBuilt B is_inside (outside + 1) loops × IsBuilt E is_inside (outside + 1) loops) × IsBuilt O is_inside (outside + 1) loops) × Takes u r k names 0 loops) (12 * tokens_in e + 12 * tokens_in block + 12 * tokens_in elsifs + 12 * tokens_in otherwise + 3) (inside code) (with_op (code_otherwise k names (outside + 1) otherwise arms) (leave 0)) = does_then u r k names first last (λ loops p. ((p.0.0, p.1), (p.0.1, p.1))) (omega arith) in
          once_does u r k names _ all (λ loops p.
          let q = both (is_tested declared e) (B && (E && O)) p.0 in let v = both B (E && O) q.1 in let w = both E O v.1 in
          let o : is_inside ≡ true → Takes u r k names (outside + 1) (0 ∷ loops) = λ i. next_outside outside loops (p.1 i) in
          ((((v.0, o), (w.0, o)), (w.1, o)), refl)) (omega arith)

      loop_level : (is_inside : Bool) (outside : ℕ) (m : Mark) (word : Part (lexeme WordLoop)) (invariant : Part (maybe (rule r-invariant))) (block : Of r-block) (end : Part (lexeme WordEnd)) (again : Part (lexeme WordLoop)) → height (Loop m word invariant block end again) ≤ n → (code : Code) →
          Does u r k names (IsBuilt (is_statement_built declared is_inside (Loop m word invariant block end again)) is_inside outside) (12 * tokens_in (Loop m word invariant block end again)) code (code_statement k names outside (Loop m word invariant block end again) code)
      loop_level is_inside outside m word Absent block end again h code =
          let one = one_token word in repeat_does u r k names _ (block_does true 0 block (omega (arith, h)) (inside code)) (λ loops p. (p.0, λ i. refl)) (omega arith)
      loop_level is_inside outside m word (Present z) block end again h code = nothing_does u r k names _ _ code

      path_level : (is_inside : Bool) (outside : ℕ) (m : Mark) (z : Part (rule r-path ⨟ maybe (lexeme SignAssign ⨟ rule r-expr))) (code : Code) → Does u r k names (IsBuilt (is_statement_built declared is_inside (n-rule m (n-left z))) is_inside outside) (12 * tokens_in z) code (code_statement k names outside (n-rule m (n-left z)) code)
      path_level is_inside outside m (n-sequence (Path mp root NoMore) (n-left (n-sequence sign e))) code = let one = one_token sign in made_does u r k names (stored_made {most = 12 * (tokens_in (Path mp root NoMore) + (tokens_in sign + tokens_in e))} (variable_of root) (expressions_fit u r k names m.line e code) (omega arith))
      path_level is_inside outside m (n-sequence (Path mp root (More z zs)) (n-left (n-sequence sign e))) code = nothing_does u r k names _ _ code
      path_level is_inside outside m (n-sequence (Path mp root NoMore) (n-right z)) code = nothing_does u r k names _ _ code
      path_level is_inside outside m (n-sequence (Path mp root (More y ys)) (n-right z)) code = nothing_does u r k names _ _ code

      level_does : (is_inside : Bool) (outside : ℕ) (s : Of r-statement) → height s ≤ n → (code : Code) → Does u r k names (IsBuilt (is_statement_built declared is_inside s) is_inside outside) (12 * tokens_in s) code (code_statement k names outside s code)
      level_does is_inside outside (n-rule m (n-left z)) h code = path_level is_inside outside m z code
      level_does is_inside outside (If m word e next_word block elsifs otherwise end again) h code = if_level is_inside outside m word e next_word block elsifs otherwise end again h code
      level_does is_inside outside (Loop m word invariant block end again) h code = loop_level is_inside outside m word invariant block end again h code
      level_does is_inside outside (n-rule m (n-right (n-right (n-right (n-left z))))) h code = nothing_does u r k names _ _ code
      level_does is_inside outside (n-rule m (n-right (n-right (n-right (n-right (n-left z)))))) h code = nothing_does u r k names _ _ code
      level_does is_inside outside (n-rule m (n-right (n-right (n-right (n-right (n-right (n-left z))))))) h code = nothing_does u r k names _ _ code
      level_does is_inside outside (Simple m y) h code = simple_does is_inside outside m y code

    below_does : (n : ℕ) (is_inside : Bool) (outside : ℕ) (s : Of r-statement) → height s < n → (code : Code) → Does u r k names (IsBuilt (is_statement_built declared is_inside s) is_inside outside) (12 * tokens_in s) code (code_statement k names outside s code)
    below_does zero is_inside outside s lt code = absurd (omega (arith, lt))
    below_does (suc n) is_inside outside s lt code = level_does n (below_does n) is_inside outside s (omega (arith, lt)) code

    -- a statement
    pub statement_fits : (is_inside : Bool) (outside : ℕ) (s : Of r-statement) (code : Code) → Does u r k names (IsBuilt (is_statement_built declared is_inside s) is_inside outside) (12 * tokens_in s) code (code_statement k names outside s code)
    statement_fits is_inside outside s code = below_does (suc (height s)) is_inside outside s (omega arith) code
