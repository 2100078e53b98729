-- Reads of a source, piece by piece.
use Rattle.std.proofs.Common.{◌≡◌, ℕ, ◌≤◌, List, ◌++◌, length, drop, ap, sym, ◌∙◌, append_assoc}
use Rattle.std.specs.Prelude.{Option, Some, None}
use Rattle.std.proofs.Math.Seq.{drop-append_seam}
use Rattle.std.specs.Io.KnownBytes.{Consumes}
use Rattle.tu_outside.specs.Files.{LosesAtMost}

-- one read after another
pub consumes_more : (old mid new : Option (List ℕ)) (x y : List ℕ) → Consumes old mid x → Consumes mid new y → Consumes old new (x ++ y)
consumes_more None mid new x y first second = tt
consumes_more (Some xs) None new x y first second = absurd first
consumes_more (Some xs) (Some ys) None x y first second = absurd second
consumes_more (Some xs) (Some ys) (Some zs) x y first second = first ∙ ap (λ l. x ++ l) second ∙ sym (append_assoc x y zs)

left_after : (old new : Option (List ℕ)) (bytes contents : List ℕ) → Consumes old new bytes → old ≡ Some contents → new ≡ Some (drop (length bytes) contents)
left_after None new bytes contents read told = cc
left_after (Some xs) None bytes contents read told = absurd read
left_after (Some xs) (Some ys) bytes contents read told =
    let same : xs ≡ contents = cc in
    ap Some (sym (ap (drop (length bytes)) (sym same ∙ read) ∙ drop-append_seam bytes ys))

-- what was read is what is lost
pub loses : (old new : Option (List ℕ)) (bytes : List ℕ) (limit : ℕ) → Consumes old new bytes → length bytes ≤ limit → LosesAtMost limit old new
loses old new bytes limit read few = record {
  count = length bytes;
  within = few;
  rest = λ contents told. left_after old new bytes contents read told;
}
