use Rattle.std.proofs.Common.{◌≡◌, ◌<◌, ℕ, take, arith}
use Rattle.std.specs.Prelude.{slice_get, Some}
use Rattle.std.proofs.lemmas.Option.{get_or_from_slice_get}
use Rattle.std.proofs.lemmas.List.{take_all}
use Rattle.rv_machine.proofs.Texts.{all_decoded}
use Rattle.rv_machine.proofs.load.decoded.Goals as goal

pub returns-clause-decoded : goal.returns-clause-decoded
returns-clause-decoded c =
    let below : (k w : ℕ) → slice_get c.args.words.now k ≡ Some w → w < 4294967296 =
    λ k w e. (let f = c.type_inv.words k in let g = get_or_from_slice_get c.args.words.now k w 0 e in omega arith) in
    let whole : take c.loop-word.word-index c.args.words.now ≡ c.args.words.now = take_all _ _ (omega arith) in
    rw (c.loop-word.invariant, whole) (all_decoded c.args.words.now below c.decoded_fits.ensures)
