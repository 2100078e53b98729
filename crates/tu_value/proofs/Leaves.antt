-- What the pieces of code do that read and store values.
use Rattle.std.proofs.Common.{◌≡◌, ℕ, suc, ◌+◌, ◌-◌, ◌%◌, ◌≤◌, true, false, [], refl, arith, Option, Some, None, ap, ◌∙◌, sym, subst}
use Rattle.std.specs.Prelude.{if◌then◌else◌, ℤ, pos, negsuc}
use Rattle.std.specs.Int.{w32, cast_unsigned}
use Rattle.tu_base.specs.declared.kind.Kind.TheVariants as kind
use Rattle.rv_isa.specs.declared.instr.RegisterOp.TheVariants.{Add}
use Rattle.rv_isa.specs.declared.instr.Relation.TheVariants.{NotEqual}
use Rattle.ir_form.specs.Cells.{loaded, with_word}
use Rattle.ir_form.specs.Meaning.{run_list}
use Rattle.ir_form.specs.Place.{Setting}
use Rattle.ir_form.specs.Plain.{Calls}
use Rattle.ir_form.specs.State.{State, next}
use Rattle.ir_form.specs.declared.plain.Width.TheVariants.{Word}
use Rattle.ir_code.proofs.Steps.{set, set_same, set_below, AllGo, none, stops, ◌▸◌, ◌▹◌, constant_goes, compute_goes, load_goes, store_goes, check_goes, check_stops}
use Rattle.tu_base.specs.Scalars.{is_int}
use Rattle.tu_value.specs.Words.{word_of, word_of_int, IsSmall}
use Rattle.tu_value.specs.Pieces.{fetch_code, fixed_code, literal_code, store_code}
use Rattle.tu_value.specs.Meets.{GivesInt, RaisesAt, Meets, HasFixed, StoresWord, fetched}
use Rattle.tu_value.specs.Laws.{FetchMeets, FixedAreGiven, GivesFixed, LiteralMeets, NumberIsGiven, StoreRuns, UnsetRuns, WordsFit, fetch_most}
use Rattle.tu_value.specs.declared.pieces.Fixed.{Fixed}
use Rattle.tu_value.proofs.Numbers.{small_of, small_word}
use Rattle.tu_value.proofs.Outcomes.{unchanged, also, past, gives_int, raises_at}
use Rattle.tu_value.proofs.Tests.{at_most_test, is_set}

module _ (g : Setting) (calls : Calls) (k : Fixed) where
  fetch_unset : (line at n a : ℕ) (st : State) (c : ℕ) → HasFixed k n st → st.env at ≡ Some a → loaded Word st.cells a ≡ Some 0 → RaisesAt line n fetch_most kind.Unset st c (run_list g calls (fetch_code k line at n) st c)
  fetch_unset line at n a st c h e m = raises_at kind.Unset
      (load_goes n Word at e m ▹ stops [] (check_stops NotEqual n k.zero kind.Unset line (set_same st.env n 0) (set_below st.env n 0 k.zero h.zero_below ∙ h.zero_is) refl))
      (also n n 0 (omega arith) (unchanged n st)) (omega arith) (omega arith)

  fetch_set : (z : ℤ) (line at n a : ℕ) (st : State) (c : ℕ) → HasFixed k n st → st.env at ≡ Some a → loaded Word st.cells a ≡ Some (word_of_int z) → is_int z ≡ true → GivesInt n n fetch_most z st c (run_list g calls (fetch_code k line at n) st c)
  fetch_set z line at n a st c h e m small = gives_int z
      (load_goes n Word at e m ▸ check_goes NotEqual n k.zero kind.Unset line (set_same st.env n (word_of_int z)) (set_below st.env n (word_of_int z) k.zero h.zero_below ∙ h.zero_is) (is_set (word_of_int z) (small_word z small).0) ▸ none)
      (also n n (word_of_int z) (omega arith) (unchanged n st)) (set_same st.env n (word_of_int z)) small (omega arith) (omega arith)

  fetches : (v : Option ℤ) (line at n a : ℕ) (st : State) (c : ℕ) → HasFixed k n st → st.env at ≡ Some a → loaded Word st.cells a ≡ Some (word_of v) → IsSmall v → Meets line n n fetch_most (fetched v) st c (run_list g calls (fetch_code k line at n) st c)
  fetches None line at n a st c h e m small = fetch_unset line at n a st c h e m
  fetches (Some z) line at n a st c h e m small = fetch_set z line at n a st c h e m small

pub fetch_meets : FetchMeets
fetch_meets g calls k v line at n a st c h e m small = fetches g calls k v line at n a st c h e m small

pub fixed_are_given : FixedAreGiven
fixed_are_given g calls n st c =
    given (constant_goes n 0 ▸ constant_goes (n + 1) 2147483648 ▸ none)
  where
    given : AllGo g calls (fixed_code n) st c (set (set st n 0) (n + 1) 2147483648) (c + 5 + 5) → GivesFixed n st c (run_list g calls (fixed_code n) st c)
    given e = subst (λ r. GivesFixed n st c r) (sym e.is) (record {
      how = refl;
      only = also n (n + 1) 2147483648 (omega arith) (also n n 0 (omega arith) (unchanged n st));
      fixed = record { zero_below = omega arith; zero_is = past (set st n 0) (n + 1) 2147483648 n (omega arith) (set_same st.env n 0); top_below = omega arith; top_is = set_same (set st n 0).env (n + 1) 2147483648 };
      costs = record { begun = omega arith; bound = omega arith };
    })

pub literal_meets : LiteralMeets
literal_meets g calls number line n st c le = gives_int {g = g} {calls = calls} {ops = literal_code number n} {at = n} (pos number) (constant_goes n (2147483648 + number) ▸ none)
    (also n n (2147483648 + number) (omega arith) (unchanged n st)) (set_same st.env n (2147483648 + number)) (at_most_test number 2147483647 le) (omega arith) (omega arith)

pub words_fit : WordsFit
words_fit None small = omega arith
words_fit (Some z) small = (small_word z small).1

pub store_runs : StoreRuns
store_runs g calls at from a w st c e f open_word = runs (store_goes Word at from e f (ap (λ b. if b then Some (with_word st.cells a w) else None) open_word) ▸ none)
  where
    runs : AllGo g calls (store_code at from) st c (record st { cells = with_word st.cells a w }) (c + 7) → StoresWord a w st c (run_list g calls (store_code at from) st c)
    runs e = subst (λ r. StoresWord a w st c r) (sym e.is) (record { how = refl; state = refl; costs = record { begun = omega arith; bound = omega arith } })

pub unset_runs : UnsetRuns
unset_runs g calls k at n a st c h e open_word = store_runs g calls at k.zero a 0 st c e h.zero_is open_word

number_word : (z : ℤ) → is_int z ≡ true → (word_of_int z + 2147483648) % 4294967296 ≡ cast_unsigned w32 z
number_word (pos n) e = let le : n ≤ 2147483647 = small_of n e in omega arith
number_word (negsuc n) e = let le : suc n ≤ 2147483647 = small_of (suc n) e in let q : (2147483647 - n + 2147483648) % 4294967296 ≡ 4294967296 - suc n = omega arith in q

pub number_is_given : NumberIsGiven
number_is_given g calls k z value n st c h i =
    let goes = compute_goes {g = g} {calls = calls} n Add value k.top {st = st} {c = c} i.is h.top_is ▸ none in
    goes.is ∙ ap (λ w. next (set st n w) (c + 10)) (number_word z i.small)
