-- The words of a command.
use Rattle.std.specs.Prelude.{◌≡◌, ℕ, ◌+◌, ◌-◌, ◌*◌, ◌<◌, ◌≤◌, ◌^◌, true, List, [], ◌∷◌, ◌++◌, length, codes}
use Rattle.std.specs.List.{list_all}
use Rattle.std.specs.Char.{is_ascii_digit}

-- the number that decimal digits spell, where those before them spell n
abbrev pub value_behind : ℕ → List ℕ → ℕ
value_behind n [] = n
value_behind n (d ∷ digits) = value_behind (10 * n + (d - 48)) digits

-- `budget=N`, with 1 to 19 decimal digits of a number below 2 ^ 63
pub record IsBudget (word : List ℕ) (n : ℕ) : Type 0 where
  pub digits : List ℕ
  pub spelled : word ≡ codes "budget=" ++ digits
  pub some : 0 < length digits
  pub few : length digits ≤ 19
  pub decimal : list_all is_ascii_digit digits ≡ true
  pub value : value_behind 0 digits ≡ n
  pub bound : n < 2 ^ 63

-- at most one word, which says the budget; without it that is 10,000,000,000
abbrev pub SaysBudget : List (List ℕ) → ℕ → Type 0
SaysBudget [] n = n ≡ 10000000000
SaysBudget (word ∷ []) n = IsBudget word n
SaysBudget (word ∷ (next ∷ more)) n = ⊥

-- `run FILE [budget=N]`; a name is a word that is not empty
pub record IsRun (words : List (List ℕ)) (file : List ℕ) (budget : ℕ) : Type 0 where
  pub more : List (List ℕ)
  pub spelled : words ≡ codes "run" ∷ (file ∷ more)
  pub named : 0 < length file
  pub budgeted : SaysBudget more budget

-- `check FILE`
pub record IsCheck (words : List (List ℕ)) (file : List ℕ) : Type 0 where
  pub spelled : words ≡ codes "check" ∷ (file ∷ [])
  pub named : 0 < length file

-- `build FILE IMAGE`
pub record IsBuild (words : List (List ℕ)) (file image : List ℕ) : Type 0 where
  pub spelled : words ≡ codes "build" ∷ (file ∷ (image ∷ []))
  pub named : 0 < length file
  pub image_named : 0 < length image

-- `exec IMAGE [budget=N]`
pub record IsExec (words : List (List ℕ)) (image : List ℕ) (budget : ℕ) : Type 0 where
  pub more : List (List ℕ)
  pub spelled : words ≡ codes "exec" ∷ (image ∷ more)
  pub named : 0 < length image
  pub budgeted : SaysBudget more budget

-- no command
pub record IsUsage (words : List (List ℕ)) : Type 0 where
  pub no_run : (file : List ℕ) (budget : ℕ) → ¬ (IsRun words file budget)
  pub no_check : (file : List ℕ) → ¬ (IsCheck words file)
  pub no_build : (file image : List ℕ) → ¬ (IsBuild words file image)
  pub no_exec : (image : List ℕ) (budget : ℕ) → ¬ (IsExec words image budget)
