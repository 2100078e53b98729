-- A local is told as often as the definition counts its changes.
use Rattle.std.specs.Prelude.{◌≡◌, ℕ, ◌+◌, Bool, true, false, List, [], ◌∷◌, ◌++◌}
use Rattle.std.proofs.Common.{refl, arith}
use Rattle.tu_core.specs.declared.names.Variable.{Variable}
use Rattle.tu_core.specs.declared.names.Variable.TheVariants.{Global, Local}
use Rattle.tu_core.specs.Core as core
use Rattle.tu_core.specs.Core.{Path, Actuals, Taken, Plain}
use Rattle.tu_core.specs.Rooms as rooms
use Rattle.tu_core.specs.Rooms.{one_if, is_same, has_root, var_root, changes}
use Rattle.tu_room_parts.proofs.Fusion.{Fuses}
use Rattle.tu_room_counts.proofs.StatementFusion.{FusesPlain, FusesAll}
use Rattle.tu_room_changes.specs.Changed.{times, changed, local_of, root_of, var_root_of, actual_changes, taken_changes, plain_changes}

pub times_append : (x : ℕ) (xs ys : List ℕ) → times x xs + times x ys ≡ times x (xs ++ ys)
times_append x [] ys = omega arith
times_append x (y ∷ xs) ys = omega (arith, times_append x xs ys)

module _ (x : ℕ) where
  local_is : (y : Variable) → one_if (is_same (Local x) y) ≡ times x (local_of y)
  local_is (Global y) = refl
  local_is (Local y) = omega arith

  root_is : (p : Path) → has_root (Local x) p ≡ times x (root_of p)
  root_is (core.Name at y steps) = local_is y
  root_is (core.OpenItem at y indexes es steps) = local_is y
  root_is (core.Element at c e steps) = refl
  root_is (core.ResultOf at k call steps) = refl

  var_root_is : (is_var : Bool) (p : Path) → var_root is_var (Local x) p ≡ times x (var_root_of is_var p)
  var_root_is true p = root_is p
  var_root_is false p = refl

  actual_is : (a : Actuals) → rooms.actual_changes (Local x) a ≡ times x (actual_changes a)
  actual_is core.NoActual = refl
  actual_is (core.Given at size e more) = refl
  actual_is (core.Lent at is_var bounds p more) = var_root_is is_var p

  taken_is : (t : Taken) → rooms.taken_changes (Local x) t ≡ times x (taken_changes t)
  taken_is core.NoneTaken = refl
  taken_is (core.TakeInt s p more) = root_is p
  taken_is (core.TakeTruth p more) = root_is p
  taken_is (core.TakeToken size p more) = root_is p
  taken_is (core.TakeLine size p more) = root_is p
  taken_is (core.TakeCount size p e more) = root_is p

  plain_is : (s : Plain) → rooms.plain_changes (Local x) s ≡ times x (plain_changes s)
  plain_is (core.Assign target p e) = root_is p
  plain_is (core.Copy shape to from) = root_is to
  plain_is (core.Exit condition) = refl
  plain_is core.Return = refl
  plain_is (core.Give target e) = refl
  plain_is (core.GiveCopy shape p) = refl
  plain_is (core.Check claim e) = refl
  plain_is (core.New c at p) = root_is p
  plain_is (core.Free c at p) = root_is p
  plain_is (core.Tag shape p e) = root_is p
  plain_is (core.Put stream shown ends_line) = refl
  plain_is (core.Get stream taken) = refl
  plain_is (core.OpenStream s p e is_put) = root_is p
  plain_is (core.Close e) = refl
  plain_is (core.Do call) = refl
  plain_is (core.Quit number) = refl

  expressions_fuse : Fuses (times x) changed (changes (Local x))
  expressions_fuse = record { none = refl; plus = times_append x; scalar = λ e. refl; link = refl; text = λ e. refl; set = λ e. refl; pointer = λ e. refl; spot = λ i. refl; path = λ p. refl; selector = refl; actual = actual_is; call = λ c. refl }

  plain_fuse : FusesPlain (times x) changed (changes (Local x))
  plain_fuse = record { expressions = expressions_fuse; parts = refl; taken = taken_is; test = refl; plain = plain_is; declaration = λ d. refl }

  pub changes_fuse : FusesAll (times x) changed (changes (Local x))
  changes_fuse = record { all_plain = plain_fuse; statement = λ s. refl; binding = λ at is_var p. var_root_is is_var p; arm = refl }
