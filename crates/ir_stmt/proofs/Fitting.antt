-- The code of statements fits, defines its values in order, and weighs at most 12 for each token.
use Rattle.std.proofs.Common.{◌≡◌, ℕ, ◌+◌, ◌≤◌, ◌==◌, Bool, true, false, List, [], ◌∷◌, ◌++◌, length, refl, sym, ◌∙◌, ap, subst, arith, Some}
use Rattle.std.specs.Prelude.{◌||◌, if◌then◌else◌, slice_get}
use Rattle.std.proofs.lemmas.List.{append-nil}
use Rattle.ir_form.specs.declared.op.Op.{Op}
use Rattle.ir_form.specs.declared.unit.Routine.{Routine}
use Rattle.ir_form.specs.declared.unit.Unit.{Unit as RegionUnit}
use Rattle.ir_form.specs.Values.{defined, defined_list, marks, marks_list}
use Rattle.ir_form.specs.Valid.{Scope, with, looped}
use Rattle.ir_form.specs.Weight.{weight, weight_list}
use Rattle.ir_form.specs.Tests.{contains, is_call, fits, fits_list}
use Rattle.ir_code.specs.Pieces.{call, choice, leave, once, repeat, with_op}
use Rattle.ir_code.specs.declared.code.Code.{Code}
use Rattle.rt_stream.specs.Routines.{put_int_routine, put_line_routine}
use Rattle.tu_value.specs.declared.pieces.Fixed.{Fixed}
use Rattle.ir_build.specs.Behind.{AreFrom, Grows, IsFit, IsTidy, Makes, SeesAll, Tests, behind, known}
use Rattle.ir_build.specs.Keeps.{Named}
use Rattle.ir_build.specs.Code.{Made, Tested, where_tested}
use Rattle.ir_build.proofs.Fits.{is_and, kept_front, same_grows, grows_then, grows_more, appended_grows, behind_fits, FitIn, defined_append, marks_append, weight_append}
use Rattle.ir_build.proofs.Regions.{weight_choice, weight_once, weight_repeat, defined_choice, defined_once, defined_repeat, marks_choice, marks_once, marks_repeat, choice_fits, once_fits, repeat_fits, leave_fits}
use Rattle.ir_build.proofs.Operations.{sees_more}
use Rattle.ir_build.proofs.Makes.{still_sees}
use Rattle.ir_stmt.specs.Code.{put_int, put_line, inside, enclosed, with_arm}

-- one scope sees what another one sees
pub sees_also : (s t : Scope) (vs : List ℕ) → ((v : ℕ) → contains s.values v ≡ true → contains t.values v ≡ true) → SeesAll s vs → SeesAll t vs
sees_also s t [] f h = tt
sees_also s t (v ∷ vs) f h = (f v h.0, sees_also s t vs f h.1)

-- an operation behind the code that defines the values up to the next one
pub operation_grows : (most next : ℕ) (code : Code) (op : Op) → weight op ≤ most → next ≤ code.next + most → AreFrom code.next (defined op) → code.next + length (defined op) ≡ next → marks op ≡ [] → Grows most code (record { ops = code.ops ++ op ∷ []; next = next })
operation_grows most next code op light few from is free =
    let e = append-nil (defined op) in
    appended_grows most next code (op ∷ []) (omega (arith, light)) few (subst (AreFrom code.next) (sym e) from) (let l = ap length e in omega (arith, is)) (append-nil (marks op) ∙ free)

-- and one that defines no values
pub pushed_grows : (most : ℕ) (code : Code) (op : Op) → weight op ≤ most → defined op ≡ [] → marks op ≡ [] → Grows most code (with_op code op)
pushed_grows most code op light e free = operation_grows most code.next code op light (omega arith) (subst (AreFrom code.next) (sym e) tt) (let l = ap length e in omega arith) free

begun_inside : (code : Code) → IsTidy code.next (inside code)
begun_inside code = record { values = tt; last = omega arith }

module _ (u : RegionUnit) (r : Routine) where
  -- the unit has the routines of the run time at their places, and the routine may call them
  pub record Calls : Type 0 where
    pub int : slice_get u.routines put_int ≡ Some put_int_routine
    pub line : slice_get u.routines put_line ≡ Some put_line_routine
    pub depth : r.depth ≡ 0

  pub op_fits : (s : Scope) (op : Op) → fits u r s op ≡ true → FitIn u r s (op ∷ [])
  op_fits s op h = record { is = is_and h refl }

  may_call : Calls → (b : Bool) → ((r.depth == 0) || b) ≡ true
  may_call c b = ap (λ z. (z == 0) || b) c.depth

  pub put_int_fits : Calls → (s : Scope) (value width line : ℕ) → contains s.values value ≡ true → contains s.values width ≡ true → fits u r s (call put_int (value ∷ width ∷ []) line) ≡ true
  put_int_fits c s value width line a b = is_and (is_and a (is_and b refl)) (ap (is_call r (value ∷ width ∷ []) []) c.int ∙ may_call c _)

  pub put_line_fits : Calls → (s : Scope) (line : ℕ) → fits u r s (call put_line [] line) ≡ true
  put_line_fits c s line = ap (is_call r [] []) c.line ∙ may_call c _

  module _ (k : Fixed) (names : List Named) where
    -- Code that was made behind other code, where the loops around it are such.
    pub record Does (P : List ℕ → Type 0) (most : ℕ) (code made : Code) : Type 0 where
      pub grows : Grows most code made
      pub fits : (s : Scope) → P s.loops → SeesAll (behind s code) (known k names) → IsFit u r s code → IsFit u r s made

    pub does_then : {P Q R : List ℕ → Type 0} {a b most : ℕ} {code middle made : Code} → Does P a code middle → Does Q b middle made → ((loops : List ℕ) → R loops → P loops × Q loops) → a + b ≤ most → Does R most code made
    does_then d f split le = record {
      grows = grows_then d.grows f.grows le;
      fits = λ s p h e. f.fits s (split s.loops p).1 (still_sees s (known k names) d.grows h) (d.fits s (split s.loops p).0 h e);
    }

    pub does_more : {P R : List ℕ → Type 0} {a most : ℕ} {code made : Code} → Does P a code made → ((loops : List ℕ) → R loops → P loops) → a ≤ most → Does R most code made
    does_more d weaker le = record { grows = grows_more d.grows le; fits = λ s p h e. d.fits s (weaker s.loops p) h e }

    pub nothing_does : (P : List ℕ → Type 0) (most : ℕ) (code : Code) → Does P most code code
    nothing_does P most code = record { grows = same_grows most code; fits = λ s p h e. e }

    pub made_does : {P : List ℕ → Type 0} {a : ℕ} {code : Code} {made : Made} → Makes u r k names a code made → Does P a code made.code
    made_does m = record { grows = m.grows; fits = λ s p h e. m.fits s h e }

    -- the loop that lies so many loops outside takes no values
    abbrev pub Takes : ℕ → List ℕ → Type 0
    Takes outside loops = slice_get loops outside ≡ Some 0

    pub leave_does : (outside : ℕ) (code : Code) → Does (Takes outside) 1 code (with_op code (leave outside))
    leave_does outside code = record {
      grows = pushed_grows 1 code (leave outside) (omega arith) refl refl;
      fits = λ s p h e. behind_fits u r 0 s code (leave outside ∷ []) e (op_fits (behind s code) (leave outside) (leave_fits u r (behind s code) outside p));
    }

    tested_weight : (t : Tested) (first : List Op) → weight (where_tested t first []) ≡ 1 + weight_list first
    tested_weight t first = by t.comparison.swapped
      where
        by : (b : Bool) → weight (if b then choice t.comparison.relation t.right t.left first [] else choice t.comparison.relation t.left t.right first []) ≡ 1 + weight_list first
        by true = let e = weight_choice t.comparison.relation t.right t.left first [] in omega arith
        by false = let e = weight_choice t.comparison.relation t.left t.right first [] in omega arith

    tested_defined : (t : Tested) (first : List Op) → defined (where_tested t first []) ≡ defined_list first
    tested_defined t first = by t.comparison.swapped
      where
        by : (b : Bool) → defined (if b then choice t.comparison.relation t.right t.left first [] else choice t.comparison.relation t.left t.right first []) ≡ defined_list first
        by true = defined_choice t.comparison.relation t.right t.left first [] ∙ append-nil (defined_list first)
        by false = defined_choice t.comparison.relation t.left t.right first [] ∙ append-nil (defined_list first)

    tested_marks : (t : Tested) (first : List Op) → marks (where_tested t first []) ≡ marks_list first
    tested_marks t first = by t.comparison.swapped
      where
        by : (b : Bool) → marks (if b then choice t.comparison.relation t.right t.left first [] else choice t.comparison.relation t.left t.right first []) ≡ marks_list first
        by true = marks_choice t.comparison.relation t.right t.left first [] ∙ append-nil (marks_list first)
        by false = marks_choice t.comparison.relation t.left t.right first [] ∙ append-nil (marks_list first)

    tested_fits : (s : Scope) (t : Tested) (first : List Op) → contains s.values t.left ≡ true → contains s.values t.right ≡ true → fits_list u r s first ≡ true → fits u r s (where_tested t first []) ≡ true
    tested_fits s t first a b h = by t.comparison.swapped
      where
        by : (swapped : Bool) → fits u r s (if swapped then choice t.comparison.relation t.right t.left first [] else choice t.comparison.relation t.left t.right first []) ≡ true
        by true = choice_fits u r s t.comparison.relation t.right t.left first [] b a h refl
        by false = choice_fits u r s t.comparison.relation t.left t.right first [] a b h refl

    -- an exit under a condition
    pub when_does : {a : ℕ} {code : Code} {t : Tested} (outside : ℕ) → Tests u r k names a code t → Does (Takes outside) (a + 2) code (with_op t.code (where_tested t (leave outside ∷ []) []))
    when_does {a} {code} {t} outside m = record {
      grows = grows_then m.grows (pushed_grows 2 t.code (where_tested t (leave outside ∷ []) []) (let w = tested_weight t (leave outside ∷ []) in omega arith) (tested_defined t (leave outside ∷ [])) (tested_marks t (leave outside ∷ []))) (omega arith);
      fits = λ s p h e.
          let at = behind s t.code in
          behind_fits u r 0 s t.code (where_tested t (leave outside ∷ []) [] ∷ []) (m.fits s h e) (op_fits at (where_tested t (leave outside ∷ []) []) (tested_fits at t (leave outside ∷ []) (m.left s h) (m.right s h) (is_and (leave_fits u r at outside p) refl)));
    }

    -- an arm of an `if`
    pub arm_does : {P : List ℕ → Type 0} {a b most : ℕ} {code body : Code} {t : Tested} → Tests u r k names a code t → Does P b (inside t.code) body → a + b + 2 ≤ most → Does (λ loops. P loops × Takes 0 loops) most code (with_arm t body)
    arm_does {P} {a} {b} {most} {code} {body} {t} m d le =
        let ops = body.ops ++ leave 0 ∷ [] in
        let i = d.grows.tidy t.code.next (begun_inside t.code) in
        let e = defined_append body.ops (leave 0 ∷ []) ∙ append-nil (defined_list body.ops) in
        record {
          grows = grows_then m.grows (operation_grows (b + 2) body.next t.code (where_tested t ops [])
              (let w = tested_weight t ops in let v = weight_append body.ops (leave 0 ∷ []) in let l = d.grows.light in omega arith)
              (let f = d.grows.few in omega arith)
              (subst (AreFrom t.code.next) (sym (tested_defined t ops ∙ e)) i.values)
              (let q = ap length (tested_defined t ops ∙ e) in let l = i.last in omega arith)
              (tested_marks t ops ∙ marks_append body.ops (leave 0 ∷ []) ∙ append-nil (marks_list body.ops) ∙ d.grows.unguarded refl)) (omega (arith, le));
          fits = λ s p h z.
              let at = behind s t.code in
              let inner = d.fits at p.0 (sees_more at [] (known k names) (still_sees s (known k names) m.grows h)) refl in
              let closed = behind_fits u r 0 at body (leave 0 ∷ []) inner (op_fits (behind at body) (leave 0) (leave_fits u r (behind at body) 0 p.1)) in
              behind_fits u r 0 s t.code (where_tested t ops [] ∷ []) (m.fits s h z) (op_fits at (where_tested t ops []) (tested_fits at t ops (m.left s h) (m.right s h) closed));
        }

    -- operations inside a loop
    pub once_does : {P : List ℕ → Type 0} (R : List ℕ → Type 0) {a most : ℕ} {code inner : Code} → Does P a (inside code) inner → ((loops : List ℕ) → R loops → P (0 ∷ loops)) → a + 1 ≤ most → Does R most code (enclosed code once inner)
    once_does R {a} {most} {code} {inner} d into le =
        let i = d.grows.tidy code.next (begun_inside code) in
        record {
          grows = operation_grows most inner.next code (once inner.ops) (let w = weight_once inner.ops in let l = d.grows.light in omega (arith, le)) (let f = d.grows.few in omega (arith, le)) (subst (AreFrom code.next) (sym (defined_once inner.ops)) i.values) (let q = ap length (defined_once inner.ops) in let l = i.last in omega arith) (marks_once inner.ops ∙ d.grows.unguarded refl);
          fits = λ s p h z.
              let at = behind s code in
              behind_fits u r 0 s code (once inner.ops ∷ []) z (op_fits at (once inner.ops) (once_fits u r at inner.ops (d.fits (looped at 0) (into s.loops p) (sees_also at (with (looped at 0) []) (known k names) (λ v. kept_front at.values [] v) h) refl)));
        }

    pub repeat_does : {P : List ℕ → Type 0} (R : List ℕ → Type 0) {a most : ℕ} {code inner : Code} → Does P a (inside code) inner → ((loops : List ℕ) → R loops → P (0 ∷ loops)) → a + 1 ≤ most → Does R most code (enclosed code repeat inner)
    repeat_does R {a} {most} {code} {inner} d into le =
        let i = d.grows.tidy code.next (begun_inside code) in
        record {
          grows = operation_grows most inner.next code (repeat inner.ops) (let w = weight_repeat inner.ops in let l = d.grows.light in omega (arith, le)) (let f = d.grows.few in omega (arith, le)) (subst (AreFrom code.next) (sym (defined_repeat inner.ops)) i.values) (let q = ap length (defined_repeat inner.ops) in let l = i.last in omega arith) (marks_repeat inner.ops ∙ d.grows.unguarded refl);
          fits = λ s p h z.
              let at = behind s code in
              behind_fits u r 0 s code (repeat inner.ops ∷ []) z (op_fits at (repeat inner.ops) (repeat_fits u r at inner.ops (d.fits (looped at 0) (into s.loops p) (sees_also at (with (looped at 0) []) (known k names) (λ v. kept_front at.values [] v) h) refl)));
        }
