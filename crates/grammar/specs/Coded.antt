-- A tree as a list of numbers that gives it back, as a type whose value is a tree needs it.
use Rattle.std.specs.Prelude.{◌≡◌, ℕ, zero, suc, ◌+◌, ◌≤◌, List, [], ◌∷◌, ◌++◌, length, take, drop, refl}
use Rattle.std.proofs.Common.{ap, sym, ◌∙◌, append_assoc, arith}
use Rattle.std.proofs.Math.Seq.{take-append_seam, drop-append_seam}
use Rattle.std.proofs.lemmas.List.{append-nil}
use Rattle.std.specs.Coded.{Coded, code_by, coded_list, coded_ℕ}
use Rattle.grammar.specs.Description.{Description, token, empty, sequence, choice, repetition, rule, span}
use Rattle.grammar.specs.Tree.{no_mark, Node, n-token, n-text, n-empty, n-sequence, n-left, n-right, n-none, n-more, n-rule, n-span, n-short, height}

abbrev pub code : {Rule : Type 0} {body : Rule → Description Rule} {d : Description Rule} → Node body d → List ℕ
code n-token = 0 ∷ []
code (n-text text start line) = 1 ∷ start ∷ line ∷ length text ∷ text
code n-empty = []
code (n-sequence x y) = code x ++ code y
code (n-left x) = 0 ∷ code x
code (n-right y) = 1 ∷ code y
code n-none = 0 ∷ []
code (n-more x xs) = 1 ∷ (code x ++ code xs)
code (n-rule m x) = m.number ∷ m.start ∷ m.line ∷ code x
code (n-span x y) = 0 ∷ (code x ++ code y)
code (n-short z) = 1 ∷ code z

module _ {Rule : Type 0} (body : Rule → Description Rule) (some : (n : Rule) → Node body (body n)) where
  -- some tree of each description
  abbrev pub blank : (d : Description Rule) → Node body d
  blank (token c) = n-token
  blank empty = n-empty
  blank (sequence a b) = n-sequence (blank a) (blank b)
  blank (choice a b) = n-left (blank a)
  blank (repetition a) = n-none
  blank (rule n) = n-rule no_mark (some n)
  blank (span long short b) = n-short (n-rule no_mark (some short))

  -- reads a tree from the front of a list
  abbrev pub Decoder : Type 0
  Decoder = (d : Description Rule) → List ℕ → Node body d × List ℕ

  abbrev pub decode_rule : Decoder → (n : Rule) → List ℕ → Node body (rule n) × List ℕ
  decode_rule P n (number ∷ start ∷ line ∷ u) = let x = P (body n) u in (n-rule (record { number = number; start = start; line = line }) x.0, x.1)
  decode_rule P n u = (blank (rule n), u)

  -- down to rules and further turns, which P reads
  abbrev pub decode_step : Decoder → Decoder
  decode_step P (token c) (zero ∷ u) = (n-token, u)
  decode_step P (token c) (suc k ∷ start ∷ line ∷ n ∷ u) = (n-text (take n u) start line, drop n u)
  decode_step P (token c) u = (n-token, u)
  decode_step P empty u = (n-empty, u)
  decode_step P (sequence a b) u = let x = decode_step P a u in let y = decode_step P b x.1 in (n-sequence x.0 y.0, y.1)
  decode_step P (choice a b) (zero ∷ u) = let x = decode_step P a u in (n-left x.0, x.1)
  decode_step P (choice a b) (suc k ∷ u) = let y = decode_step P b u in (n-right y.0, y.1)
  decode_step P (choice a b) [] = (blank (choice a b), [])
  decode_step P (repetition a) (zero ∷ u) = (n-none, u)
  decode_step P (repetition a) (suc k ∷ u) = let x = decode_step P a u in let y = P (repetition a) x.1 in (n-more x.0 y.0, y.1)
  decode_step P (repetition a) [] = (n-none, [])
  decode_step P (rule n) u = decode_rule P n u
  decode_step P (span long short b) (zero ∷ u) = let x = decode_rule P long u in let y = decode_step P b x.1 in (n-span x.0 y.0, y.1)
  decode_step P (span long short b) (suc k ∷ u) = let z = decode_rule P short u in (n-short z.0, z.1)
  decode_step P (span long short b) [] = (blank (span long short b), [])

  abbrev pub decode_within : ℕ → Decoder
  decode_within zero d u = (blank d, u)
  decode_within (suc depth) d u = decode_step (decode_within depth) d u

  deeper : (depth : ℕ) (d : Description Rule) (m : ℕ) (u : List ℕ) (o : Node body d × List ℕ) → m + 1 ≤ depth → ((n : ℕ) → m ≤ n → decode_step (decode_within n) d u ≡ o) → decode_within depth d u ≡ o
  deeper zero d m u o h k = absurd (omega (arith, h))
  deeper (suc depth) d m u o h k = k depth (omega (arith, h))

  decodes : {d : Description Rule} (x : Node body d) (depth : ℕ) (r : List ℕ) → height x ≤ depth → decode_step (decode_within depth) d (code x ++ r) ≡ (x, r)
  decodes n-token depth r h = refl
  decodes (n-text text start line) depth r h = ap (λ z. (n-text z start line, drop (length text) (text ++ r))) (take-append_seam text r) ∙ ap (λ z. (n-text text start line, z)) (drop-append_seam text r)
  decodes n-empty depth r h = refl
  decodes (n-sequence {a = a} {b = b} x y) depth r h =
      ap (decode_step (decode_within depth) (sequence a b)) (append_assoc (code x) (code y) r)
      ∙ ap (λ z. let w = decode_step (decode_within depth) b z.1 in (n-sequence z.0 w.0, w.1)) (decodes x depth (code y ++ r) (omega (arith, h)))
      ∙ ap (λ w. (n-sequence x w.0, w.1)) (decodes y depth r (omega (arith, h)))
  decodes (n-left x) depth r h = ap (λ z. (n-left z.0, z.1)) (decodes x depth r h)
  decodes (n-right y) depth r h = ap (λ z. (n-right z.0, z.1)) (decodes y depth r h)
  decodes n-none depth r h = refl
  decodes (n-more {a = a} x xs) depth r h =
      ap (λ u. decode_step (decode_within depth) (repetition a) (1 ∷ u)) (append_assoc (code x) (code xs) r)
      ∙ ap (λ z. let w = decode_within depth (repetition a) z.1 in (n-more z.0 w.0, w.1)) (decodes x depth (code xs ++ r) (omega (arith, h)))
      ∙ ap (λ w. (n-more x w.0, w.1)) (deeper depth (repetition a) (height xs) (code xs ++ r) (xs, r) (omega (arith, h)) (λ n le. decodes xs n r le))
  decodes (n-rule {n = n} m x) depth r h = ap (λ z. (n-rule m z.0, z.1)) (deeper depth (body n) (height x) (code x ++ r) (x, r) h (λ n le. decodes x n r le))
  decodes (n-span {long = long} {short = short} {b = b} x y) depth r h =
      ap (λ u. decode_step (decode_within depth) (span long short b) (0 ∷ u)) (append_assoc (code x) (code y) r)
      ∙ ap (λ z. let w = decode_step (decode_within depth) b z.1 in (n-span z.0 w.0, w.1)) (decodes x depth (code y ++ r) (omega (arith, h)))
      ∙ ap (λ w. (n-span x w.0, w.1)) (decodes y depth r (omega (arith, h)))
  decodes (n-short z) depth r h = ap (λ w. (n-short w.0, w.1)) (decodes z depth r h)

  abbrev pub encode : {d : Description Rule} → Node body d → List ℕ
  encode x = height x ∷ code x

  abbrev pub decode : (d : Description Rule) → List ℕ → Node body d
  decode d [] = blank d
  decode d (h ∷ u) = (decode_step (decode_within h) d u).0

  pub decode-encode : (d : Description Rule) (x : Node body d) → decode d (encode x) ≡ x
  decode-encode d x = ap (λ u. (decode_step (decode_within (height x)) d u).0) (sym (append-nil (code x))) ∙ ap (λ z. z.0) (decodes x (height x) [] (omega arith))

  abbrev pub coded : (d : Description Rule) → Coded (Node body d)
  coded d = code_by (List ℕ) (coded_list coded_ℕ) encode (decode d) (decode-encode d)
