-- What is told grows in parts: a call that appends calls others that append.
use Rattle.std.proofs.Common.{◌≡◌, ℕ, ◌+◌, ◌≤◌, min, List, ◌++◌, length, take, refl, ap, subst, sym, ◌∙◌, append_assoc, append-nil, arith}
use Rattle.std.specs.Prelude.{Option, Some, None}
use Rattle.std.proofs.lemmas.List.{take_min, take-append-le, map-append}
use Rattle.std.proofs.Math.Seq.{take-append-add, take-length}
use Rattle.tu_base.specs.declared.event.Event.{Event}
use Rattle.tu_base.specs.declared.event.Event.TheVariants.{Put}
use Rattle.tu_outside.specs.Events.{puts}
use Rattle.tu_outside.specs.Told.{with_more, HasSomeOf}

-- one part and then another are both at once
pub with_more_twice : {A : Type 0} (told : Option (List A)) (first second : List A) → with_more (with_more told first) second ≡ with_more told (first ++ second)
with_more_twice None first second = refl
with_more_twice (Some known) first second = ap Some (append_assoc known first second)

-- all of them are some of them
pub some_of_all : {A : Type 0} (old new : Option (List A)) (more : List A) → new ≡ with_more old more → HasSomeOf old new more
some_of_all old new more all = record { count = length more; is = all ∙ ap (with_more old) (sym (take-length more)) }

-- none of them is some of them
pub some_of_none : {A : Type 0} (old : Option (List A)) (more : List A) → HasSomeOf old old more
some_of_none None more = record { count = 0; is = refl }
some_of_none (Some known) more = record { count = 0; is = ap Some (sym (append-nil known)) }

-- some of the first part is some of the whole
pub some_of_first : {A : Type 0} (old new : Option (List A)) (first second : List A) → HasSomeOf old new first → HasSomeOf old new (first ++ second)
some_of_first old new first second some =
    let within : min some.count (length first) ≤ length first = omega arith in
    record {
      count = min some.count (length first);
      is = some.is ∙ ap (with_more old) (sym (take_min some.count first) ∙ sym (take-append-le (min some.count (length first)) first second within));
    }

-- the whole first part and some of the second are some of the whole
pub some_of_second : {A : Type 0} (old mid new : Option (List A)) (first second : List A) → mid ≡ with_more old first → HasSomeOf mid new second → HasSomeOf old new (first ++ second)
some_of_second old mid new first second all some = record {
  count = length first + some.count;
  is = some.is ∙ ap (λ m. with_more m (take some.count second)) all ∙ with_more_twice old first (take some.count second)
      ∙ ap (with_more old) (sym (take-append-add first second some.count));
}

pub puts_append : (first second : List ℕ) → puts (first ++ second) ≡ puts first ++ puts second
puts_append first second = map-append Put first second

-- the same for bytes that are written
pub put_first : (old new : Option (List Event)) (first second : List ℕ) → HasSomeOf old new (puts first) → HasSomeOf old new (puts (first ++ second))
put_first old new first second some =
    let P : List Event → Type 0 = HasSomeOf old new in
    subst P (sym (puts_append first second)) (some_of_first old new (puts first) (puts second) some)

pub put_second : (old mid new : Option (List Event)) (first second : List ℕ) → mid ≡ with_more old (puts first) → HasSomeOf mid new (puts second) → HasSomeOf old new (puts (first ++ second))
put_second old mid new first second all some =
    let P : List Event → Type 0 = HasSomeOf old new in
    subst P (sym (puts_append first second)) (some_of_second old mid new (puts first) (puts second) all some)
