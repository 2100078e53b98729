-- What is read of files, and how they change.
use Rattle.std.specs.Prelude.{◌≡◌, ℕ, ◌≤◌, List, length, drop, Option, Some, None, nat_le, if◌then◌else◌}
use Rattle.std.specs.Option.{option_map}
use Rattle.std.specs.FinMap as map
use Rattle.tu_base.specs.Files.{Files}
use Rattle.tu_outside.specs.declared.cabinet.Fetched.{Fetched}
use Rattle.tu_outside.specs.declared.cabinet.Fetched.TheVariants.{Whole, Absent, TooLong}

-- the answer to a fetch of at most this many bytes
abbrev pub fetched : Option (List ℕ) → ℕ → Fetched
fetched None most = Absent
fetched (Some contents) most = if nat_le (length contents) most then Whole contents else TooLong

-- the answer is right where the files are told, and never longer than was asked for
pub record IsFetched (files : Option Files) (name : List ℕ) (most : ℕ) (answer : Fetched) : Type 0 where
  pub told : (known : Files) → files ≡ Some known → answer ≡ fetched (map.get known name) most
  pub bound : (bytes : List ℕ) → answer ≡ Whole bytes → length bytes ≤ most

-- the files with one that is set
abbrev pub with_file : Option Files → List ℕ → List ℕ → Option Files
with_file files name contents = option_map (λ known. map.insert known name contents) files

-- the answer is right for a source that tells what it has to give, and never longer than was asked for
pub record IsReadOf (source : Option (List ℕ)) (most : ℕ) (answer : Fetched) : Type 0 where
  pub told : (contents : List ℕ) → source ≡ Some contents → answer ≡ fetched (Some contents) most
  pub bound : (bytes : List ℕ) → answer ≡ Whole bytes → length bytes ≤ most

-- a source that tells what it has to give has lost at most this many bytes
pub record LosesAtMost (limit : ℕ) (old new : Option (List ℕ)) : Type 0 where
  pub count : ℕ
  pub within : count ≤ limit
  pub rest : (contents : List ℕ) → old ≡ Some contents → new ≡ Some (drop count contents)
