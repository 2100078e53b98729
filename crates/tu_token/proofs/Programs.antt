-- Trees and faults of programs, by the laws of grammars.
use Rattle.std.specs.Prelude.{◌≡◌, ℕ, ◌⊎◌, Bool, false, cond, List, [], ◌∷◌, refl}
use Rattle.std.proofs.Common.{ap, inl, inr, ◌∙◌}
use Rattle.grammar.proofs.Places.{place_is_one, not_spelled, spelled_or_faulty}
use Rattle.grammar.proofs.Standing.{one_tree, marked_again, stands_placed}
use Rattle.grammar.specs.Description.{rule, Derivation, print}
use Rattle.grammar.specs.Placed.{Input, marked, HasKeptTexts}
use Rattle.grammar.specs.Tree.{erase}
use Rattle.tu_token.proofs.Decides.{decides}
use Rattle.tu_token.specs.declared.token.Token.{Token}
use Rattle.tu_token.specs.ClassNumbers.{number, keeps_text, lexemes, places, end_of}
use Rattle.tu_token.specs.Rules.{r-program, body}
use Rattle.tu_token.specs.Syntax.{Of, Spells, IsPlaced, IsSyntaxFault}
use Rattle.tu_token.specs.Table.{table}
use Rattle.tu_token.specs.TokenList.{TokenList}

pub one_program : (tokens : TokenList) (x y : Of r-program) → Spells x tokens → IsPlaced x tokens → Spells y tokens → IsPlaced y tokens → x ≡ y
one_program tokens x y s p t q = one_tree table decides r-program (lexemes tokens.items) (places tokens.items) (end_of tokens) x y s t p q

pub one_place : (tokens : TokenList) (j k : ℕ) → IsSyntaxFault tokens j → IsSyntaxFault tokens k → j ≡ k
one_place tokens j k p q = place_is_one body (rule r-program) (lexemes tokens.items) j k p q

pub no_tree : (tokens : TokenList) (k : ℕ) (x : Of r-program) → IsSyntaxFault tokens k → Spells x tokens → ⊥
no_tree tokens k x p s = not_spelled body (rule r-program) (lexemes tokens.items) k p (erase x) s

has_kept_texts : (tokens : List Token) → HasKeptTexts table (lexemes tokens)
has_kept_texts [] = tt
has_kept_texts (token ∷ tokens) = (by (keeps_text (number token.class)) refl, has_kept_texts tokens)
  where
    by : (b : Bool) → keeps_text (number token.class) ≡ b → keeps_text (number token.class) ≡ false → cond (keeps_text (number token.class)) token.text [] ≡ []
    by b e h = ap (λ c. cond c token.text []) h

pub tree_or_fault : (tokens : TokenList) → ((x : Of r-program) × Spells x tokens × IsPlaced x tokens) ⊎ ((k : ℕ) × IsSyntaxFault tokens k)
tree_or_fault tokens = by (spelled_or_faulty table decides r-program (lexemes tokens.items))
  where
    start : Input
    start = record { places = places tokens.items; end = end_of tokens; number = 0 }

    tree : (x : Derivation body (rule r-program)) → print x ≡ lexemes tokens.items → (y : Of r-program) × Spells y tokens × IsPlaced y tokens
    tree x p =
        let m = marked_again table (rule r-program) x start (kept x p) in
        ((marked table x start).0, ap print m.0 ∙ p, stands_placed table (rule r-program) (places tokens.items) (end_of tokens) (marked table x start).0 (marked table x start).1 m.1)
      where
        kept : (x : Derivation body (rule r-program)) → print x ≡ lexemes tokens.items → HasKeptTexts table (print x)
        kept x p = rw p (has_kept_texts tokens.items)

    by : ((x : Derivation body (rule r-program)) × (print x ≡ lexemes tokens.items)) ⊎ ((k : ℕ) × IsSyntaxFault tokens k) → ((x : Of r-program) × Spells x tokens × IsPlaced x tokens) ⊎ ((k : ℕ) × IsSyntaxFault tokens k)
    by (inl s) = inl (tree s.0 s.1)
    by (inr f) = inr f
