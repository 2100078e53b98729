use Rattle.std.proofs.Common.{◌≡◌, ◌≢◌, ℕ, List, take, get_or, refl, sym, ap, subst, ◌∙◌, arith, take_all}
use Rattle.std.specs.Prelude.{Contains, IsSome, nat_eq}
use Rattle.std.specs.Option.{is_some, unwrap_or}
use Rattle.std.specs.HashMap.{get}
use Rattle.std.proofs.lemmas.List.{take_more}
use Rattle.std.proofs.lemmas.List.Elements.{Contains-get_or}
use Rattle.rv_flat.specs.Parts.{linear_numbers}
use Rattle.rv_alloc.specs.Places.{place_of, number_of, number_at}
use Rattle.rv_alloc.proofs.Owners.{Owned, owned_more, owned_holds, owned_refuses, seen_named}
use Rattle.rv_alloc.proofs.checker.holds_routine.Goals as goal

pub returns-then-first-value : goal.returns-then-first-value
returns-then-first-value c =
    let items = c.deref-value-items.result.now in let i = c.loop-value.value-index in let v = get_or items i 0 in let p = c.args.places.now in
    let number : number_at p v ≡ c.number.result = ap number_of (sym c.in-Some.ensures) ∙ sym c.number.ensures in
    let named : Contains (linear_numbers c.args.r.now) v = subst (λ (xs : List ℕ). Contains xs v) c.loop-value.invariant.numbers (Contains-get_or items i 0 (omega arith)) in
    let differs : unwrap_or (get nat_eq c.loop-value.owners c.number.result) v ≢ v = λ e. c.if-first-value.true (c.unwrap_or-first.ensures ∙ ap (λ o. unwrap_or o v) c.in_ok-owner.ensures.old ∙ e) in
    let refuses = owned_refuses c.args.r.now p (take i items) c.loop-value.owners v c.number.result c.loop-value.invariant.owned (seen_named items (linear_numbers c.args.r.now) i c.loop-value.invariant.numbers) named number differs in
    ((λ h. cc), (λ h. absurd (refuses h)))

pub loop-value-preserved : goal.loop-value-preserved
loop-value-preserved c =
    let items = c.deref-value-items.result.now in let i = c.loop-value.value-index in let v = get_or items i 0 in let p = c.args.places.now in
    let number : number_at p v ≡ c.number.result = ap number_of (sym c.in-Some.ensures) ∙ sym c.number.ensures in
    let placed : IsSome (place_of p v) = ap is_some (sym c.in-Some.ensures) in
    let own : unwrap_or (get nat_eq c.loop-value.owners c.number.result) v ≡ v = ap (λ o. unwrap_or o v) (sym c.in_ok-owner.ensures.old) ∙ sym c.unwrap_or-first.ensures ∙ c.if-first-value.false in
    record {
      numbers = c.loop-value.invariant.numbers;
      owned = subst (λ (seen : List ℕ). Owned p seen c.insert.new.self) (sym (take_more items i 0 (omega arith)))
          (owned_more p (take i items) c.loop-value.owners c.insert.new.self v c.number.result c.loop-value.invariant.owned placed number c.in_ok-owner.ensures.updates own);
    }

pub returns : goal.returns
returns c =
    let p = c.args.places.now in
    let whole : take c.loop-value.value-index c.deref-value-items.result.now ≡ linear_numbers c.args.r.now = take_all c.loop-value.value-index c.deref-value-items.result.now (omega arith) ∙ c.loop-value.invariant.numbers in
    let holds = owned_holds c.args.r.now p c.loop-value.owners (subst (λ (seen : List ℕ). Owned p seen c.loop-value.owners) whole c.loop-value.invariant.owned) in
    ((λ h. holds), (λ h. refl))
