use Rattle.tu_value.proofs.Leaves.{fetch_meets, store_runs, unset_runs, words_fit}
use Rattle.tu_value.proofs.Cells.{store_keeps}
use Rattle.tu_value.proofs.laws.values_are_kept.Goals as goal

pub returns-clause-fetch : goal.returns-clause-fetch
returns-clause-fetch c = fetch_meets

pub returns-clause-store : goal.returns-clause-store
returns-clause-store c = store_runs

pub returns-clause-unset : goal.returns-clause-unset
returns-clause-unset c = unset_runs

pub returns-clause-kept : goal.returns-clause-kept
returns-clause-kept c = store_keeps

pub returns-clause-words : goal.returns-clause-words
returns-clause-words c = words_fit
