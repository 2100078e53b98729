-- What is counted is what the definition counts, cut off.
use Rattle.std.specs.Prelude.{◌≡◌, ℕ, ◌+◌}
use Rattle.std.proofs.Common.{refl, arith}
use Rattle.tu_core.specs.Nodes.{nodes}
use Rattle.tu_room_parts.specs.declared.count.Count.TheVariants as count
use Rattle.tu_room_parts.specs.Capped.{capped}
use Rattle.tu_room_parts.specs.Counts.{counting}
use Rattle.tu_room_parts.proofs.Fusion.{Fuses}
use Rattle.tu_room_counts.proofs.StatementFusion.{FusesPlain, FusesAll}

pub capped_sum : (a b : ℕ) → capped (capped a + capped b) ≡ capped (a + b)
capped_sum a b = omega arith

expressions_fuse : Fuses capped nodes (counting count.Nodes)
expressions_fuse = record { none = refl; plus = capped_sum; scalar = λ e. refl; link = refl; text = λ e. refl; set = λ e. refl; pointer = λ e. refl; spot = λ i. refl; path = λ p. refl; selector = refl; actual = λ a. refl; call = λ c. refl }

plain_fuse : FusesPlain capped nodes (counting count.Nodes)
plain_fuse = record { expressions = expressions_fuse; parts = refl; taken = λ t. refl; test = refl; plain = λ s. refl; declaration = λ d. refl }

pub nodes_fuse : FusesAll capped nodes (counting count.Nodes)
nodes_fuse = record { all_plain = plain_fuse; statement = λ s. refl; binding = λ at is_var p. refl; arm = refl }
