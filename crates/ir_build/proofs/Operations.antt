-- The pieces of code of values fit, define their values in order, and have small weights.
use Rattle.std.proofs.Common.{◌≡◌, ℕ, ◌+◌, true, List, [], ◌∷◌, length, refl, ◌∙◌, ap, arith}
use Rattle.std.specs.Prelude.{◌||◌}
use Rattle.std.proofs.lemmas.Bool.Decides.{Decides-eqb}
use Rattle.tu_base.specs.declared.kind.Kind.{Kind}
use Rattle.tu_base.specs.declared.kind.Kind.TheVariants.{Overflow, Unset}
use Rattle.rv_isa.specs.declared.instr.RegisterOp.{RegisterOp}
use Rattle.rv_isa.specs.declared.instr.Relation.{Relation}
use Rattle.ir_form.specs.declared.op.Op.{Op}
use Rattle.ir_form.specs.declared.plain.Width.TheVariants.{Word}
use Rattle.ir_form.specs.declared.unit.Routine.{Routine}
use Rattle.ir_form.specs.declared.unit.Unit.{Unit as RegionUnit}
use Rattle.ir_form.specs.Values.{defined_list, marks_list}
use Rattle.ir_form.specs.Valid.{Scope, with}
use Rattle.ir_form.specs.Weight.{weight_list}
use Rattle.ir_form.specs.Tests.{contains, fits_list}
use Rattle.ir_code.specs.Pieces.{constant, compute, load, raise_unless}
use Rattle.ir_code.specs.declared.code.Code.{Code}
use Rattle.tu_value.specs.Pieces.{with_piece, literal_code, fetch_code, store_code, sum_code, difference_code, product_code, more_code, less_code}
use Rattle.tu_value.specs.declared.pieces.Fixed.{Fixed}
use Rattle.ir_build.specs.Behind.{SeesAll, AreFrom, Grows}
use Rattle.ir_build.proofs.Fits.{is_and, kept_front, kept_back, with_none, behind_grows, FitIn}
use Rattle.ir_build.proofs.Regions.{raise_fits}

pub here : (v : ℕ) (xs : List ℕ) → contains (v ∷ xs) v ≡ true
here v xs = ap (λ z. z || contains xs v) ((Decides-eqb v v).1 refl)

pub there : (x v : ℕ) (xs : List ℕ) → contains xs v ≡ true → contains (x ∷ xs) v ≡ true
there x v xs h = kept_back (x ∷ []) xs v h

pub sees_more : (s : Scope) (given vs : List ℕ) → SeesAll s vs → SeesAll (with s given) vs
sees_more s given [] h = tt
sees_more s given (v ∷ vs) h = (kept_front s.values given v h.0, sees_more s given vs h.1)

-- and a value more
pub sees_next : (s : Scope) (n : ℕ) (vs : List ℕ) → SeesAll s vs → SeesAll (with s (n ∷ [])) (n ∷ vs)
sees_next s n vs h = (kept_back s.values (n ∷ []) n (here n []), sees_more s (n ∷ []) vs h)

pub literal_grows : (code : Code) (number : ℕ) → Grows 1 code (with_piece code (literal_code number code.next) 1)
literal_grows code number = behind_grows 1 1 code (literal_code number code.next) (omega arith) (omega arith) (refl, tt) refl refl

fetch_weight : (k : Fixed) (line at n : ℕ) → weight_list (fetch_code k line at n) ≡ 3
unfolding Rattle.ir_form.specs.declared.op.Op.TheBlock.hidden-the_row-Op-0 denote.Hole.Carrier.hidden
fetch_weight k line at n = refl

fetch_values : (k : Fixed) (line at n : ℕ) → AreFrom n (defined_list (fetch_code k line at n)) × (length (defined_list (fetch_code k line at n)) ≡ 1)
unfolding Rattle.ir_form.specs.declared.op.Op.TheBlock.hidden-the_row-Op-0 denote.Hole.Carrier.hidden
fetch_values k line at n = ((refl, tt), refl)

fetch_unguarded : (k : Fixed) (line at n : ℕ) → marks_list (fetch_code k line at n) ≡ []
unfolding Rattle.ir_form.specs.declared.op.Op.TheBlock.hidden-the_row-Op-0 denote.Hole.Carrier.hidden
fetch_unguarded k line at n = refl

pub fetch_grows : (k : Fixed) (line at : ℕ) (code : Code) → Grows 3 code (with_piece code (fetch_code k line at code.next) 1)
fetch_grows k line at code =
    let w = fetch_weight k line at code.next in let v = fetch_values k line at code.next in behind_grows 3 1 code (fetch_code k line at code.next) (omega arith) (omega arith) v.0 v.1 (fetch_unguarded k line at code.next)

sum_weight : (k : Fixed) (line left right n : ℕ) → weight_list (sum_code k line left right n) ≡ 8
unfolding Rattle.ir_form.specs.declared.op.Op.TheBlock.hidden-the_row-Op-0 denote.Hole.Carrier.hidden
sum_weight k line left right n = refl

sum_values : (k : Fixed) (line left right n : ℕ) → AreFrom n (defined_list (sum_code k line left right n)) × (length (defined_list (sum_code k line left right n)) ≡ 4)
unfolding Rattle.ir_form.specs.declared.op.Op.TheBlock.hidden-the_row-Op-0 denote.Hole.Carrier.hidden
sum_values k line left right n = ((refl, (omega arith, (omega arith, (omega arith, tt)))), refl)

sum_unguarded : (k : Fixed) (line left right n : ℕ) → marks_list (sum_code k line left right n) ≡ []
unfolding Rattle.ir_form.specs.declared.op.Op.TheBlock.hidden-the_row-Op-0 denote.Hole.Carrier.hidden
sum_unguarded k line left right n = refl

pub sum_grows : (k : Fixed) (line left right : ℕ) (code : Code) → Grows 8 code (with_piece code (sum_code k line left right code.next) 4)
sum_grows k line left right code =
    let w = sum_weight k line left right code.next in let v = sum_values k line left right code.next in behind_grows 8 4 code (sum_code k line left right code.next) (omega arith) (omega arith) v.0 v.1 (sum_unguarded k line left right code.next)

difference_weight : (k : Fixed) (line left right n : ℕ) → weight_list (difference_code k line left right n) ≡ 8
unfolding Rattle.ir_form.specs.declared.op.Op.TheBlock.hidden-the_row-Op-0 denote.Hole.Carrier.hidden
difference_weight k line left right n = refl

difference_values : (k : Fixed) (line left right n : ℕ) → AreFrom n (defined_list (difference_code k line left right n)) × (length (defined_list (difference_code k line left right n)) ≡ 4)
unfolding Rattle.ir_form.specs.declared.op.Op.TheBlock.hidden-the_row-Op-0 denote.Hole.Carrier.hidden
difference_values k line left right n = ((refl, (omega arith, (omega arith, (omega arith, tt)))), refl)

difference_unguarded : (k : Fixed) (line left right n : ℕ) → marks_list (difference_code k line left right n) ≡ []
unfolding Rattle.ir_form.specs.declared.op.Op.TheBlock.hidden-the_row-Op-0 denote.Hole.Carrier.hidden
difference_unguarded k line left right n = refl

pub difference_grows : (k : Fixed) (line left right : ℕ) (code : Code) → Grows 8 code (with_piece code (difference_code k line left right code.next) 4)
difference_grows k line left right code =
    let w = difference_weight k line left right code.next in let v = difference_values k line left right code.next in behind_grows 8 4 code (difference_code k line left right code.next) (omega arith) (omega arith) v.0 v.1 (difference_unguarded k line left right code.next)

product_weight : (k : Fixed) (line left right n : ℕ) → weight_list (product_code k line left right n) ≡ 11
unfolding Rattle.ir_form.specs.declared.op.Op.TheBlock.hidden-the_row-Op-0 denote.Hole.Carrier.hidden
product_weight k line left right n = refl

product_values : (k : Fixed) (line left right n : ℕ) → AreFrom n (defined_list (product_code k line left right n)) × (length (defined_list (product_code k line left right n)) ≡ 7)
unfolding Rattle.ir_form.specs.declared.op.Op.TheBlock.hidden-the_row-Op-0 denote.Hole.Carrier.hidden
product_values k line left right n = ((refl, (omega arith, (omega arith, (omega arith, (omega arith, (omega arith, (omega arith, tt))))))), refl)

product_unguarded : (k : Fixed) (line left right n : ℕ) → marks_list (product_code k line left right n) ≡ []
unfolding Rattle.ir_form.specs.declared.op.Op.TheBlock.hidden-the_row-Op-0 denote.Hole.Carrier.hidden
product_unguarded k line left right n = refl

pub product_grows : (k : Fixed) (line left right : ℕ) (code : Code) → Grows 11 code (with_piece code (product_code k line left right code.next) 7)
product_grows k line left right code =
    let w = product_weight k line left right code.next in let v = product_values k line left right code.next in behind_grows 11 7 code (product_code k line left right code.next) (omega arith) (omega arith) v.0 v.1 (product_unguarded k line left right code.next)

more_weight : (line left number n : ℕ) → weight_list (more_code line left number n) ≡ 4
unfolding Rattle.ir_form.specs.declared.op.Op.TheBlock.hidden-the_row-Op-0 denote.Hole.Carrier.hidden
more_weight line left number n = refl

more_values : (line left number n : ℕ) → AreFrom n (defined_list (more_code line left number n)) × (length (defined_list (more_code line left number n)) ≡ 2)
unfolding Rattle.ir_form.specs.declared.op.Op.TheBlock.hidden-the_row-Op-0 denote.Hole.Carrier.hidden
more_values line left number n = ((refl, (refl, tt)), refl)

more_unguarded : (line left number n : ℕ) → marks_list (more_code line left number n) ≡ []
unfolding Rattle.ir_form.specs.declared.op.Op.TheBlock.hidden-the_row-Op-0 denote.Hole.Carrier.hidden
more_unguarded line left number n = refl

pub more_grows : (line left number : ℕ) (code : Code) → Grows 4 code (with_piece code (more_code line left number code.next) 2)
more_grows line left number code =
    let w = more_weight line left number code.next in let v = more_values line left number code.next in behind_grows 4 2 code (more_code line left number code.next) (omega arith) (omega arith) v.0 v.1 (more_unguarded line left number code.next)

less_weight : (line left number n : ℕ) → weight_list (less_code line left number n) ≡ 4
unfolding Rattle.ir_form.specs.declared.op.Op.TheBlock.hidden-the_row-Op-0 denote.Hole.Carrier.hidden
less_weight line left number n = refl

less_values : (line left number n : ℕ) → AreFrom n (defined_list (less_code line left number n)) × (length (defined_list (less_code line left number n)) ≡ 2)
unfolding Rattle.ir_form.specs.declared.op.Op.TheBlock.hidden-the_row-Op-0 denote.Hole.Carrier.hidden
less_values line left number n = ((refl, (refl, tt)), refl)

less_unguarded : (line left number n : ℕ) → marks_list (less_code line left number n) ≡ []
unfolding Rattle.ir_form.specs.declared.op.Op.TheBlock.hidden-the_row-Op-0 denote.Hole.Carrier.hidden
less_unguarded line left number n = refl

pub less_grows : (line left number : ℕ) (code : Code) → Grows 4 code (with_piece code (less_code line left number code.next) 2)
less_grows line left number code =
    let w = less_weight line left number code.next in let v = less_values line left number code.next in behind_grows 4 2 code (less_code line left number code.next) (omega arith) (omega arith) v.0 v.1 (less_unguarded line left number code.next)

pub store_grows : (at from : ℕ) (code : Code) → Grows 1 code (with_piece code (store_code at from) 0)
store_grows at from code = behind_grows 1 0 code (store_code at from) (omega arith) (omega arith) tt refl refl

module _ {u : RegionUnit} {r : Routine} where
  -- operations in their order
  pub none : {s : Scope} → FitIn u r s []
  none = record { is = refl }

  pub constants : {s : Scope} {to word : ℕ} {rest : List Op} → FitIn u r (with s (to ∷ [])) rest → FitIn u r s (constant to word ∷ rest)
  constants h = record { is = h.is }

  pub computes : {s : Scope} {to left right : ℕ} {op : RegisterOp} {rest : List Op} → contains s.values left ≡ true → contains s.values right ≡ true → FitIn u r (with s (to ∷ [])) rest → FitIn u r s (compute to op left right ∷ rest)
  computes a b h = record { is = is_and (is_and (is_and a (is_and b refl)) refl) h.is }

  loads : {s : Scope} {to at : ℕ} {rest : List Op} → contains s.values at ≡ true → FitIn u r (with s (to ∷ [])) rest → FitIn u r s (load to Word at ∷ rest)
  loads a h = record { is = is_and (is_and (is_and a refl) refl) h.is }

  pub raises : {s : Scope} {relation : Relation} {left right : ℕ} (kind : Kind) (line : ℕ) {rest : List Op} → contains s.values left ≡ true → contains s.values right ≡ true → FitIn u r s rest → FitIn u r s (raise_unless relation left right kind line ∷ rest)
  raises {s} {relation} {left} {right} kind line {rest} a b h = record { is = is_and (raise_fits u r s relation left right kind line a b) (ap (λ z. fits_list u r z rest) (with_none s) ∙ h.is) }

  pub literal_fits : (s : Scope) (number n : ℕ) → FitIn u r s (literal_code number n)
  literal_fits s number n = constants none

  pub fetch_fits : (s : Scope) (k : Fixed) (line at n : ℕ) → SeesAll s (at ∷ k.zero ∷ []) → FitIn u r s (fetch_code k line at n)
  fetch_fits s k line at n h = let g = sees_next s n (at ∷ k.zero ∷ []) h in loads h.0 (raises Unset line g.0 g.1.1.0 none)

  pub store_fits : (s : Scope) (at from : ℕ) → SeesAll s (at ∷ from ∷ []) → FitIn u r s (store_code at from)
  store_fits s at from h = record { is = is_and (is_and (is_and h.0 (is_and h.1.0 refl)) refl) refl }

  pub more_fits : (s : Scope) (line left number n : ℕ) → SeesAll s (left ∷ []) → FitIn u r s (more_code line left number n)
  more_fits s line left number n h =
      let s1 = with s (n ∷ []) in let g1 = sees_next s n (left ∷ []) h in
      let g2 = sees_next s1 (n + 1) (n ∷ left ∷ []) g1 in
      constants (computes g1.1.0 g1.0 (raises Overflow line g2.0 g2.1.1.0 none))

  pub less_fits : (s : Scope) (line left number n : ℕ) → SeesAll s (left ∷ []) → FitIn u r s (less_code line left number n)
  less_fits s line left number n h =
      let s1 = with s (n ∷ []) in let g1 = sees_next s n (left ∷ []) h in
      let g2 = sees_next s1 (n + 1) (n ∷ left ∷ []) g1 in
      constants (computes g1.1.0 g1.0 (raises Overflow line g2.1.0 g2.1.1.0 none))

  pub sum_fits : (s : Scope) (k : Fixed) (line left right n : ℕ) → SeesAll s (left ∷ right ∷ k.zero ∷ k.top ∷ []) → FitIn u r s (sum_code k line left right n)
  sum_fits s k line left right n h =
      let v1 = n ∷ left ∷ right ∷ k.zero ∷ k.top ∷ [] in let s1 = with s (n ∷ []) in let g1 = sees_next s n (left ∷ right ∷ k.zero ∷ k.top ∷ []) h in
      let s2 = with s1 ((n + 1) ∷ []) in let g2 = sees_next s1 (n + 1) v1 g1 in
      let s3 = with s2 ((n + 2) ∷ []) in let g3 = sees_next s2 (n + 2) ((n + 1) ∷ v1) g2 in
      let g4 = sees_next s3 (n + 3) ((n + 2) ∷ (n + 1) ∷ v1) g3 in
      computes h.0 h.1.0 (computes g1.0 g1.1.1.1.1.0 (computes g2.0 g2.1.1.0 (computes g3.1.1.1.1.0 g3.1.1.1.1.1.1.0 (raises Overflow line g4.1.0 g4.0 (raises Overflow line g4.1.1.0 g4.1.1.1.1.1.1.0 none)))))

  pub difference_fits : (s : Scope) (k : Fixed) (line left right n : ℕ) → SeesAll s (left ∷ right ∷ k.zero ∷ k.top ∷ []) → FitIn u r s (difference_code k line left right n)
  difference_fits s k line left right n h =
      let v1 = n ∷ left ∷ right ∷ k.zero ∷ k.top ∷ [] in let s1 = with s (n ∷ []) in let g1 = sees_next s n (left ∷ right ∷ k.zero ∷ k.top ∷ []) h in
      let s2 = with s1 ((n + 1) ∷ []) in let g2 = sees_next s1 (n + 1) v1 g1 in
      let s3 = with s2 ((n + 2) ∷ []) in let g3 = sees_next s2 (n + 2) ((n + 1) ∷ v1) g2 in
      let g4 = sees_next s3 (n + 3) ((n + 2) ∷ (n + 1) ∷ v1) g3 in
      computes h.0 h.1.0 (computes g1.0 g1.1.1.1.1.0 (computes g2.1.1.0 g2.0 (computes g3.1.1.1.1.0 g3.1.1.1.1.1.1.0 (raises Overflow line g4.1.0 g4.0 (raises Overflow line g4.1.1.0 g4.1.1.1.1.1.1.0 none)))))

  pub product_fits : (s : Scope) (k : Fixed) (line left right n : ℕ) → SeesAll s (left ∷ right ∷ k.zero ∷ k.top ∷ []) → FitIn u r s (product_code k line left right n)
  product_fits s k line left right n h =
      let v1 = n ∷ left ∷ right ∷ k.zero ∷ k.top ∷ [] in let s1 = with s (n ∷ []) in let g1 = sees_next s n (left ∷ right ∷ k.zero ∷ k.top ∷ []) h in
      let v2 = (n + 1) ∷ v1 in let s2 = with s1 ((n + 1) ∷ []) in let g2 = sees_next s1 (n + 1) v1 g1 in
      let v3 = (n + 2) ∷ v2 in let s3 = with s2 ((n + 2) ∷ []) in let g3 = sees_next s2 (n + 2) v2 g2 in
      let v4 = (n + 3) ∷ v3 in let s4 = with s3 ((n + 3) ∷ []) in let g4 = sees_next s3 (n + 3) v3 g3 in
      let v5 = (n + 4) ∷ v4 in let s5 = with s4 ((n + 4) ∷ []) in let g5 = sees_next s4 (n + 4) v4 g4 in
      let v6 = (n + 5) ∷ v5 in let s6 = with s5 ((n + 5) ∷ []) in let g6 = sees_next s5 (n + 5) v5 g5 in
      let g7 = sees_next s6 (n + 6) v6 g6 in
      computes h.0 h.1.1.1.0 (computes g1.1.1.0 g1.1.1.1.1.0 (computes g2.1.0 g2.0 (computes g3.1.1.0 g3.1.0 (constants (computes g5.1.1.0 g5.0 (raises Overflow line g6.1.1.0 g6.0
      (computes g6.1.1.1.0 g6.1.1.1.1.1.1.1.1.1.0 (raises Overflow line g7.0 g7.1.1.1.1.1.1.1.1.1.0 none))))))))
