-- The meanings in which no rule says what comes at a call that lends places that overlap.
use Rattle.std.specs.Prelude.{ℕ, zero, suc, ◌==◌, Bool, true, false, not, ◌&&◌, ◌||◌, List, [], ◌∷◌, slice_get, Option, None, if◌then◌else◌}
use Rattle.tu_base.specs.Shapes.{all_words}
use Rattle.tu_base.specs.Streams.{Folder}
use Rattle.tu_base.specs.Values.{Way}
use Rattle.tu_core.specs.Core.{Program}
use Rattle.tu_core.specs.Overlap.{are_compared}
use Rattle.tu_core.specs.Rooms.{scalars_from}
use Rattle.tu_meaning.specs.Steps.{stop, lost, turn, ◌>>◌}
use Rattle.tu_meaning.specs.Store.{Root, OfProgram, OfActivation, OfCall, OfCollection, Place, Actual, GivenValue, LentPlace, Passing}
use Rattle.tu_meaning.specs.Expressions.{Performs}
use Rattle.tu_meaning.specs.Subprograms.{activation, execute_text}
use Rattle.tu_meaning.specs.Meaning.{Meant, meant}
use Rattle.tu_meaning.specs.Programs.{start}

abbrev pub are_one : Root → Root → Bool
are_one (OfProgram x) (OfProgram y) = x == y
are_one (OfActivation x) (OfActivation y) = x == y
are_one (OfCall x) (OfCall y) = x == y
are_one (OfCollection c k) (OfCollection d j) = (c == d) && (k == j)
are_one r q = false

abbrev pub begins : (front : Way) → Way → Bool
begins [] way = true
begins (k ∷ front) [] = false
begins (k ∷ front) (j ∷ way) = (k == j) && begins front way

-- Two places overlap where one is in the other: of one root, with the same components as far as both go.
abbrev pub overlap : Place → Place → Bool
overlap p q = are_one p.root q.root && (begins p.way q.way || begins q.way p.way)

abbrev pub is_apart : (is_var : Bool) → Place → List Actual → Bool
is_apart is_var p [] = true
is_apart is_var p (GivenValue bounds v ∷ more) = is_apart is_var p more
is_apart is_var p (LentPlace other_is_var bounds q ∷ more) = not (are_compared is_var other_is_var && overlap p q) && is_apart is_var p more

-- No two lent places overlap of which one is `var`.
abbrev pub are_apart : List Actual → Bool
are_apart [] = true
are_apart (GivenValue bounds v ∷ more) = are_apart more
are_apart (LentPlace is_var bounds p ∷ more) = is_apart is_var p more && are_apart more

module _ (S : Type 0) (passing : Passing S) (t : ℕ) (program : Program) (words : List ℕ) where
  abbrev pub guarded_calls : (depth : ℕ) → Performs S
  guarded_calls zero line callee actuals = stop
  guarded_calls (suc depth) line callee actuals = do
    turn t
    if are_apart actuals then activation S passing t program words depth (guarded_calls depth) line actuals (slice_get program.routines callee) else lost

abbrev pub guarded_meaning : (S : Type 0) → Passing S → S → Program → (input : List ℕ) → (files : Option Folder) → (t : ℕ) → Meant
guarded_meaning S passing store p input files t =
    meant (execute_text S passing t p (all_words p.shapes) t (guarded_calls S passing t p (all_words p.shapes) t) (scalars_from p.shapes 0 p.locals) None p.main (start store (all_words p.shapes) p input files))
