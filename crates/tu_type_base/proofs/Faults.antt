-- Of the faults of two parts the lesser of their least ones is the least.
use Rattle.std.proofs.Common.{◌≡◌, ℕ, List, [], ◌∷◌, ◌++◌, refl, ap, ◌∙◌, arith}
use Rattle.std.specs.Prelude.{Err}
use Rattle.std.proofs.lemmas.Grind.{common_steps}
use Rattle.tu_type_base.specs.declared.fault.Fault.{Fault}
use Rattle.tu_type_base.specs.declared.stop.Stop.{Stop}
use Rattle.tu_type_base.specs.declared.stop.Stop.TheVariants.{Told, Memory}
use Rattle.tu_type_base.specs.Checked.{Checked, Good, Faulty, both, fault_number, lesser, least}
use Rattle.tu_type_base.specs.Answers.{IsTold, IsAnswer, joined}

lesser_cases : (a b c : ℕ) (f g h : Fault) → a ≡ fault_number f → b ≡ fault_number g → c ≡ fault_number h → lesser f (lesser g h) ≡ lesser (lesser f g) h
lesser_cases a b c f g h p q r = grind (arith, common_steps)

lesser_groups : (f g h : Fault) → lesser f (lesser g h) ≡ lesser (lesser f g) h
lesser_groups f g h = lesser_cases (fault_number f) (fault_number g) (fault_number h) f g h refl refl refl

least_of_both : (f : Fault) (fs : List Fault) (g : Fault) (gs : List Fault) → least f (fs ++ g ∷ gs) ≡ lesser (least f fs) (least g gs)
least_of_both f [] g gs = refl
least_of_both f (h ∷ fs) g gs = ap (lesser f) (least_of_both h fs g gs) ∙ lesser_groups f (least h fs) (least g gs)

both_told : {A B : Type 0} (f g : Fault) (x : Checked A) (y : Checked B) → IsTold f x → IsTold g y → IsTold (lesser f g) (both x y)
both_told f g (Good a) y h k = absurd h
both_told f g (Faulty i is) (Good b) h k = absurd k
both_told f g (Faulty i is) (Faulty j js) h k = least_of_both i is j js ∙ (ap (λ z. lesser z (least j js)) h ∙ ap (lesser f) k)

pub both_stopped : {A B : Type 0} (s t : Stop) (x : Checked A) (y : Checked B) → IsAnswer {A = A} (Err s) x → IsAnswer {A = B} (Err t) y → IsAnswer {A = A × B} (Err (joined s t)) (both x y)
both_stopped Memory t x y h k = tt
both_stopped (Told f) Memory x y h k = tt
both_stopped (Told f) (Told g) x y h k = both_told f g x y h k

pub left_stopped : {A B : Type 0} (s : Stop) (b : B) (x : Checked A) (y : Checked B) → IsAnswer {A = A} (Err s) x → y ≡ Good b → IsAnswer {A = A × B} (Err s) (both x y)
left_stopped (Told f) b (Good a) (Good d) h e = absurd h
left_stopped (Told f) b (Faulty i is) (Good d) h e = h
left_stopped (Told f) b x (Faulty j js) h e = absurd (cc)
left_stopped Memory b x y h e = tt
