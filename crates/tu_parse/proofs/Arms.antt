-- The arms of a `case`, of which some were read.
use Rattle.std.proofs.Common.{◌≡◌, List, [], ◌∷◌, ◌++◌, Option, refl, sym, ap, subst}
use Rattle.grammar.specs.Description.{rule}
use Rattle.grammar.specs.Tree.{n-token, n-sequence, n-left, n-right, n-rule}
use Rattle.tu_token.specs.Rules.{maybe, r-arm, r-expr}
use Rattle.tu_expr.specs.Leaves.{spot_mark}
use Rattle.tu_expr.specs.Parts.{Part, listing}
use Rattle.tu_tree.specs.declared.statement.Arm.{Arm}
use Rattle.tu_tree.specs.declared.statement.Otherwise.{Otherwise}
use Rattle.tu_tree.specs.StatementViews.{arms_view, last_arm_view}
use Rattle.tu_reader.specs.Ahead.{Ahead}
use Rattle.tu_reader.specs.Reads.{Takes, Stops}
use Rattle.tu_reader.specs.declared.stop.Stop.{Stop}

-- the arms, and others behind them
abbrev pub arms_before : List Arm → Part (maybe (rule r-arm)) → Part (maybe (rule r-arm))
arms_before [] others = others
arms_before (arm ∷ arms) others =
    n-left (n-rule (spot_mark arm.spot) (n-sequence n-token (n-right (n-sequence (listing r-expr arm.first arm.more) (n-sequence n-token (n-sequence arm.block (arms_before arms others)))))))

arms_more : (arms : List Arm) (arm : Arm) (others : Part (maybe (rule r-arm))) → arms_before (arms ++ arm ∷ []) others ≡ arms_before arms (arms_before (arm ∷ []) others)
arms_more [] arm others = refl
arms_more (x ∷ arms) arm others = ap (λ z. arms_before (x ∷ []) z) (arms_more arms arm others)

arms_whole : (arms : List Arm) (last : Option Otherwise) → arms_before arms (last_arm_view last) ≡ arms_view arms last
arms_whole [] last = refl
arms_whole (x ∷ arms) last = ap (λ z. arms_before (x ∷ []) z) (arms_whole arms last)

-- The arms were read, from i to k: what is read from k on is read behind them.
pub record Arms (arms : List Arm) (i k : Ahead) : Type 0 where
  pub takes : {y : Part (maybe (rule r-arm))} {j : Ahead} → Takes (maybe (rule r-arm)) k y j → Takes (maybe (rule r-arm)) i (arms_before arms y) j
  pub stops : {e : Stop} {s : Ahead} → Stops (maybe (rule r-arm)) k e s → Stops (maybe (rule r-arm)) i e s

pub no_arms : {arms : List Arm} {i : Ahead} → arms ≡ [] → Arms arms i i
no_arms {i = i} e = let A : List Arm → Type 0 = λ z. Arms z i i in subst A (sym e) (record { takes = λ p. p; stops = λ p. p })

-- one more arm
pub arm_more : {arms more : List Arm} (arm : Arm) {i k j : Ahead} → more ≡ arms ++ arm ∷ [] → Arms arms i k
    → ((y : Part (maybe (rule r-arm))) (s : Ahead) → Takes (maybe (rule r-arm)) j y s → Takes (maybe (rule r-arm)) k (arms_before (arm ∷ []) y) s)
    → ((e : Stop) (s : Ahead) → Stops (maybe (rule r-arm)) j e s → Stops (maybe (rule r-arm)) k e s) → Arms more i j
arm_more {arms = arms} arm {i = i} {j = j} e a p q =
    let A : List Arm → Type 0 = λ z. Arms z i j in
    subst A (sym e) (record {
      takes = λ {y} {j = s} h. (let T : Part (maybe (rule r-arm)) → Type 0 = λ z. Takes (maybe (rule r-arm)) i z s in subst T (sym (arms_more arms arm y)) (a.takes (p y s h)));
      stops = λ {e} {s} h. a.stops (q e s h);
    })

-- all arms, and the last one
pub arms_end : {arms : List Arm} (last : Option Otherwise) {i k j : Ahead} → Arms arms i k → Takes (maybe (rule r-arm)) k (last_arm_view last) j → Takes (maybe (rule r-arm)) i (arms_view arms last) j
arms_end {arms = arms} last {i = i} {j = j} a p = let T : Part (maybe (rule r-arm)) → Type 0 = λ z. Takes (maybe (rule r-arm)) i z j in subst T (arms_whole arms last) (a.takes p)
