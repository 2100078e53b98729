-- How many Guards operations have.
use Rattle.std.proofs.Common.{◌≡◌, ℕ, suc, ◌+◌, ◌<◌, Bool, List, ap, ◌∙◌, length, drop, get_or, add-one}
use Rattle.std.proofs.Math.Seq.{drop-cons}
use Rattle.std.proofs.lemmas.List.{length-append}
use Rattle.rv_isa.specs.declared.instr.Relation.{Relation}
use Rattle.ir_form.specs.declared.op.Op.{Op}
use Rattle.ir_form.specs.declared.op.Op.TheViews.{If, Case, Loop, Guard}
use Rattle.ir_form.specs.declared.op.Region.{Region}
use Rattle.ir_form.specs.declared.op.Arm.{Arm}
use Rattle.ir_form.specs.Values.{marks, marks_list, marks_each}
use Rattle.ir_form.proofs.Lists.{marks-If, marks-Case, marks-Loop, marks-Guard}

pub guards-If : (op : Op) (relation : Relation) (left right : ℕ) (a b : Region) (to : List ℕ) → op ≡ If relation left right a b to → length (marks op) ≡ length (marks_list a.ops) + length (marks_list b.ops)
guards-If op relation left right a b to e = ap (λ o. length (marks o)) e ∙ ap length (marks-If relation left right a b to) ∙ length-append (marks_list a.ops) (marks_list b.ops)

pub guards-Case : (op : Op) (value : ℕ) (arms : List Arm) (a : Region) (to : List ℕ) → op ≡ Case value arms a to → length (marks op) ≡ length (marks_each arms) + length (marks_list a.ops)
guards-Case op value arms a to e = ap (λ o. length (marks o)) e ∙ ap length (marks-Case value arms a to) ∙ length-append (marks_each arms) (marks_list a.ops)

pub guards-Loop : (op : Op) (marked : Bool) (start : List ℕ) (a : Region) (to : List ℕ) → op ≡ Loop marked start a to → length (marks op) ≡ length (marks_list a.ops)
guards-Loop op marked start a to e = ap (λ o. length (marks o)) e ∙ ap length (marks-Loop marked start a to)

pub guards-Guard : (op : Op) (mark : ℕ) (a b : Region) (to : List ℕ) → op ≡ Guard mark a b to → length (marks op) ≡ suc (length (marks_list a.ops) + length (marks_list b.ops))
guards-Guard op mark a b to e = ap (λ o. length (marks o)) e ∙ ap length (marks-Guard mark a b to) ∙ ap suc (length-append (marks_list a.ops) (marks_list b.ops))

-- those from one place on: those of the operation there, and those from the next place on
pub guards_more : (i : ℕ) (ops : List Op) (d : Op) → i < length ops → length (marks_list (drop i ops)) ≡ length (marks (get_or ops i d)) + length (marks_list (drop (i + 1) ops))
guards_more i ops d h = rw (add-one, drop-cons ops i d) (length-append (marks (get_or ops i d)) _)

pub guards_more_arms : (i : ℕ) (arms : List Arm) (d : Arm) → i < length arms → length (marks_each (drop i arms)) ≡ length (marks_list (get_or arms i d).region.ops) + length (marks_each (drop (i + 1) arms))
guards_more_arms i arms d h = rw (add-one, drop-cons arms i d) (length-append (marks_list (get_or arms i d).region.ops) _)
