-- The parts of what is stored of a form: its number, and its parts behind it.
use Rattle.std.specs.Prelude.{◌≡◌, ℕ}
use Rattle.std.proofs.Common.{ap}
use base.Stored.{Gv, gnil, gnum, gcons}

abbrev pub head : Gv → Gv
head gnil = gnil
head (gnum n) = gnil
head (gcons a b) = a

abbrev pub tail : Gv → Gv
tail gnil = gnil
tail (gnum n) = gnil
tail (gcons a b) = b

abbrev number : Gv → ℕ
number gnil = 0
number (gnum n) = n
number (gcons a b) = 0

-- the numbers of two forms that are stored alike
pub tags : {a b : Gv} → a ≡ b → number (head a) ≡ number (head b)
tags p = ap (λ g. number (head g)) p
