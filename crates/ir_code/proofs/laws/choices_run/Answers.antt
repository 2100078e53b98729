use Rattle.ir_code.proofs.Running.{choice_runs, raise_runs}
use Rattle.ir_code.proofs.laws.choices_run.Goals as goal

pub returns-clause-choice : goal.returns-clause-choice
returns-clause-choice c = choice_runs

pub returns-clause-raise : goal.returns-clause-raise
returns-clause-raise c = raise_runs
