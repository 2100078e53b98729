-- The commands that words ask for.
use Rattle.std.specs.Prelude.{ℕ, List}
use Rattle.tu_run.specs.declared.command.Command.{Command}
use Rattle.tu_run.specs.declared.command.Command.TheVariants.{Run, Check, Build, Exec}
use Rattle.tu_run.specs.Command.{IsRun, IsCheck, IsBuild, IsExec}

-- the words are this command
abbrev pub IsCommand : List (List ℕ) → Command → Type 0
IsCommand words (Run file budget) = IsRun words file.now budget
IsCommand words (Check file) = IsCheck words file.now
IsCommand words (Build file image) = IsBuild words file.now image.now
IsCommand words (Exec image budget) = IsExec words image.now budget
