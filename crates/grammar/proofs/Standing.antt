-- The marks of a tree, form by form.
use Rattle.std.proofs.Common.{◌≡◌, ℕ, Bool, true, false, cond, List, [], ◌∷◌, ◌++◌, refl, sym, ◌∙◌, ap}
use Rattle.grammar.specs.Description.{Lexeme, Description, repetition, rule, Derivation, d-token, d-empty, d-sequence, d-left, d-right, d-none, d-more, d-rule, d-span, d-short, print}
use Rattle.grammar.specs.Grammar.{Grammar, IsLl1}
use Rattle.grammar.specs.Laws.{HasOneTree, IsMarkedAgain}
use Rattle.grammar.specs.Placed.{Place, Input, here, behind_one, mark_at, inside, marked, Stands, IsPlaced, HasKeptTexts}
use Rattle.grammar.specs.Tree.{Mark, Node, n-token, n-text, n-empty, n-sequence, n-left, n-right, n-none, n-more, n-rule, n-span, n-short, erase, repeated}
use Rattle.grammar.proofs.Places.{one_derivation}

module _ {Rule : Type 0} {body : Rule → Description Rule} (g : Grammar body) where
  pub token_stands : (c : ℕ) (i j : Input) → g.keeps_text c ≡ false → j ≡ behind_one i → Stands g i (n-token {c = c}) j
  unfolding Stands
  token_stands c i j e k = ap (λ b. (cond b (n-text {c = c} [] (here i).start (here i).line) n-token, behind_one i)) e ∙ ap (λ z. (n-token, z)) (sym k)

  pub text_stands : (c : ℕ) (text : List ℕ) (start line : ℕ) (i j : Input) → g.keeps_text c ≡ true → start ≡ (here i).start → line ≡ (here i).line → j ≡ behind_one i → Stands g i (n-text {c = c} text start line) j
  unfolding Stands
  text_stands c text start line i j e s t k =
      ap (λ b. (cond b (n-text {c = c} text (here i).start (here i).line) n-token, behind_one i)) e
      ∙ ap (λ z. (n-text text z (here i).line, behind_one i)) (sym s) ∙ ap (λ z. (n-text text start z, behind_one i)) (sym t) ∙ ap (λ z. (n-text text start line, z)) (sym k)

  pub empty_stands : (i : Input) → Stands g i n-empty i
  unfolding Stands
  empty_stands i = refl

  pub sequence_stands : (a b : Description Rule) (i j k : Input) (x : Node body a) (y : Node body b) → Stands g i x j → Stands g j y k → Stands g i (n-sequence x y) k
  unfolding Stands
  sequence_stands a b i j k x y h e = ap (λ p. let q = marked g (erase y) p.1 in (n-sequence p.0 q.0, q.1)) h ∙ ap (λ q. (n-sequence x q.0, q.1)) e

  pub left_stands : (a b : Description Rule) (i j : Input) (x : Node body a) → Stands g i x j → Stands g i (n-left {b = b} x) j
  unfolding Stands
  left_stands a b i j x h = ap (λ p. (n-left p.0, p.1)) h

  pub right_stands : (a b : Description Rule) (i j : Input) (y : Node body b) → Stands g i y j → Stands g i (n-right {a = a} y) j
  unfolding Stands
  right_stands a b i j y h = ap (λ p. (n-right p.0, p.1)) h

  pub none_stands : (a : Description Rule) (i : Input) → Stands g i (n-none {a = a}) i
  unfolding Stands
  none_stands a i = refl

  pub more_stands : (a : Description Rule) (i j k : Input) (x : Node body a) (xs : Node body (repetition a)) → Stands g i x j → Stands g j xs k → Stands g i (n-more x xs) k
  unfolding Stands
  more_stands a i j k x xs h e = ap (λ p. let q = marked g (erase xs) p.1 in (n-more p.0 q.0, q.1)) h ∙ ap (λ q. (n-more x q.0, q.1)) e

  pub rule_stands : (n : Rule) (i j : Input) (m : Mark) (x : Node body (body n)) → m ≡ mark_at (g.marking n) i → Stands g (inside (g.marking n) i) x j → Stands g i (n-rule m x) j
  unfolding Stands
  rule_stands n i j m x e h = ap (λ p. (n-rule (mark_at (g.marking n) i) p.0, p.1)) h ∙ ap (λ z. (n-rule z x, j)) (sym e)

  pub span_stands : (long short : Rule) (b : Description Rule) (i j k : Input) (x : Node body (rule long)) (y : Node body b) → Stands g i x j → Stands g j y k → Stands g i (n-span {short = short} x y) k
  unfolding Stands
  span_stands long short b i j k x y h e = ap (λ p. let q = marked g (erase y) p.1 in (n-span p.0 q.0, q.1)) h ∙ ap (λ q. (n-span x q.0, q.1)) e

  pub short_stands : (long short : Rule) (b : Description Rule) (i j : Input) (z : Node body (rule short)) → Stands g i z j → Stands g i (n-short {long = long} {b = b} z) j
  unfolding Stands
  short_stands long short b i j z h = ap (λ p. (n-short p.0, p.1)) h

  first_turn : {d : Description Rule} → Node body d → Node body (repetition d) → Node body d
  first_turn y n-none = y
  first_turn y (n-more x xs) = x

  other_turns : {d : Description Rule} → Node body (repetition d) → Node body (repetition d)
  other_turns n-none = n-none
  other_turns (n-more x xs) = xs

  -- one more turn, as a loop adds it
  pub turn_stands : {A : Type 0} (d : Description Rule) (show : A → Node body d) (xs : List A) (x : A) (i j k : Input) → Stands g i (repeated d show xs) j → Stands g j (show x) k → Stands g i (repeated d show (xs ++ x ∷ [])) k
  unfolding Stands first_turn other_turns
  turn_stands d show [] x i j k h e = more_stands d i k k (show x) n-none (ap (marked g (erase (show x))) (ap (λ z. z.1) h) ∙ e) refl
  turn_stands d show (y ∷ ys) x i j k h e =
      let p = marked g (erase (show y)) i in
      let here_first : p ≡ (show y, p.1) = ap (λ z. (first_turn (show y) z.0, p.1)) h in
      let here_rest : marked g (erase (repeated d show ys)) p.1 ≡ (repeated d show ys, j) = ap (λ z. (other_turns z.0, z.1)) h in
      more_stands d i p.1 k (show y) (repeated d show (ys ++ x ∷ [])) here_first (turn_stands d show ys x p.1 j k here_rest e)

  -- a whole tree that stands from its first token has its place
  pub stands_placed : (d : Description Rule) (places : List Place) (end : Place) (x : Node body d) (j : Input) → Stands g (record { places = places; end = end; number = 0 }) x j → IsPlaced g x places end
  unfolding Stands
  stands_placed d places end x j h = ap (λ p. p.0) h

  kept_parts : (u v : List Lexeme) → HasKeptTexts g (u ++ v) → HasKeptTexts g u × HasKeptTexts g v
  kept_parts [] v h = (tt, h)
  kept_parts (x ∷ u) v h = let p = kept_parts u v h.1 in ((h.0, p.0), p.1)

  erased : {d : Description Rule} (x : Derivation body d) (i : Input) → HasKeptTexts g (print x) → erase (marked g x i).0 ≡ x
  erased (d-token {c = c} text) i h = by (g.keeps_text c) h.0
    where
      by : (b : Bool) → (b ≡ false → text ≡ []) → erase {body = body} (cond b (n-text {c = c} text (here i).start (here i).line) n-token) ≡ d-token text
      by true k = refl
      by false k = ap d-token (sym (k refl))
  erased d-empty i h = refl
  erased (d-sequence x y) i h = let p = kept_parts (print x) (print y) h in ap (λ z. d-sequence z (erase (marked g y (marked g x i).1).0)) (erased x i p.0) ∙ ap (d-sequence x) (erased y (marked g x i).1 p.1)
  erased (d-left x) i h = ap d-left (erased x i h)
  erased (d-right y) i h = ap d-right (erased y i h)
  erased d-none i h = refl
  erased (d-more x xs) i h = let p = kept_parts (print x) (print xs) h in ap (λ z. d-more z (erase (marked g xs (marked g x i).1).0)) (erased x i p.0) ∙ ap (d-more x) (erased xs (marked g x i).1 p.1)
  erased (d-rule {n = n} x) i h = ap d-rule (erased x (inside (g.marking n) i) h)
  erased (d-span x y) i h = let p = kept_parts (print x) (print y) h in ap (λ z. d-span z (erase (marked g y (marked g x i).1).0)) (erased x i p.0) ∙ ap (d-span x) (erased y (marked g x i).1 p.1)
  erased (d-short z) i h = ap d-short (erased z i h)

  pub marked_again : IsMarkedAgain g
  unfolding Stands
  marked_again d x i h = (erased x i h, ap (λ z. marked g z i) (erased x i h))

  pub one_tree : IsLl1 g → HasOneTree g
  one_tree l n u places end x y sx sy px py =
      let same : erase x ≡ erase y = one_derivation g l n (erase x) (erase y) (sx ∙ sym sy) in
      sym px ∙ ap (λ z. (marked g z (record { places = places; end = end; number = 0 })).0) same ∙ py

-- what a search backwards needs for marks
pub ruleset standing = (token_stands, text_stands, empty_stands, sequence_stands, left_stands, right_stands, none_stands, more_stands, rule_stands, span_stands, short_stands, turn_stands)
