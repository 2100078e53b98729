-- Each value that is defined is defined once.
use Rattle.std.proofs.Common.{◌≡◌, ℕ, Bool, List, ap, ◌∙◌}
use Rattle.std.specs.Prelude.{◌&&◌}
use Rattle.std.specs.List.{list_all}
use Rattle.std.proofs.lemmas.List.Folds.{list_all-append}
use Rattle.rv_isa.specs.declared.instr.Relation.{Relation}
use Rattle.ir_form.specs.declared.op.Op.{Op}
use Rattle.ir_form.specs.declared.op.Op.TheViews.{If, Case, Loop, Guard}
use Rattle.ir_form.specs.declared.op.Region.{Region}
use Rattle.ir_form.specs.declared.op.Arm.{Arm}
use Rattle.ir_form.specs.Values.{defined, defined_region, defined_each}
use Rattle.ir_form.proofs.Lists.{defined-If, defined-Case, defined-Loop, defined-Guard}

pub all-If : (p : ℕ → Bool) (op : Op) (relation : Relation) (left right : ℕ) (a b : Region) (to : List ℕ) → op ≡ If relation left right a b to
    → list_all p (defined op) ≡ (list_all p (defined_region a) && (list_all p (defined_region b) && list_all p to))
all-If p op relation left right a b to e =
    ap (λ o. list_all p (defined o)) e ∙ ap (list_all p) (defined-If relation left right a b to) ∙ list_all-append p (defined_region a) _ ∙ ap (λ z. list_all p (defined_region a) && z) (list_all-append p (defined_region b) to)

pub all-Case : (p : ℕ → Bool) (op : Op) (value : ℕ) (arms : List Arm) (a : Region) (to : List ℕ) → op ≡ Case value arms a to
    → list_all p (defined op) ≡ (list_all p (defined_each arms) && (list_all p (defined_region a) && list_all p to))
all-Case p op value arms a to e =
    ap (λ o. list_all p (defined o)) e ∙ ap (list_all p) (defined-Case value arms a to) ∙ list_all-append p (defined_each arms) _ ∙ ap (λ z. list_all p (defined_each arms) && z) (list_all-append p (defined_region a) to)

pub all-Loop : (p : ℕ → Bool) (op : Op) (marked : Bool) (start : List ℕ) (a : Region) (to : List ℕ) → op ≡ Loop marked start a to
    → list_all p (defined op) ≡ (list_all p (defined_region a) && list_all p to)
all-Loop p op marked start a to e = ap (λ o. list_all p (defined o)) e ∙ ap (list_all p) (defined-Loop marked start a to) ∙ list_all-append p (defined_region a) to

pub all-Guard : (p : ℕ → Bool) (op : Op) (mark : ℕ) (a b : Region) (to : List ℕ) → op ≡ Guard mark a b to
    → list_all p (defined op) ≡ (list_all p (defined_region a) && (list_all p (defined_region b) && list_all p to))
all-Guard p op mark a b to e =
    ap (λ o. list_all p (defined o)) e ∙ ap (list_all p) (defined-Guard mark a b to) ∙ list_all-append p (defined_region a) _ ∙ ap (λ z. list_all p (defined_region a) && z) (list_all-append p (defined_region b) to)
