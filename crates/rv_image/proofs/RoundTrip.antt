-- What is read is spelled so, and what is spelled so is read.
use Rattle.std.proofs.Common.{◌≡◌, ℕ, ◌+◌, ◌*◌, ◌%◌, ◌<◌, ◌≤◌, List, ◌∷◌, Result, Ok, Err, Bool, true, false, cond, not, ◌&&◌, eqb, ltb, length, get_or, drop, length-drop, refl, arith, sym, ◌∙◌, subst}
use Rattle.std.proofs.lemmas.Bool.{eqb-true, eq-eqb, ltb-true, ltb-false, le-ltb, lt-ltb}
use Rattle.std.proofs.lemmas.List.{get_or-drop}
use Rattle.rv_image.specs.Picture.{Picture, InRange, IsImage, numbers, spelling}
use Rattle.rv_image.specs.Reading.{number_at, words_of, magic, text_words, global_words, entry_offset, picture, reading, Gives}
use Rattle.rv_image.specs.declared.image.ImageError.{ImageError}
use Rattle.rv_image.specs.declared.image.ImageError.TheVariants.{Size, Short, Magic, Version, Length, Entry, Globals}
use Rattle.rv_image.proofs.Words.{value-number, words_of-numbers, length-numbers, number-value, numbers-words_of, drop-four}

-- no condition fails
record Passes (above below is_magic is_version is_whole is_aligned is_within many : Bool) : Type 0 where
  size : above ≡ false
  short : below ≡ false
  magic : is_magic ≡ true
  version : is_version ≡ true
  whole : is_whole ≡ true
  aligned : is_aligned ≡ true
  within : is_within ≡ true
  globals : many ≡ false

passes : (above below is_magic is_version is_whole is_aligned is_within many : Bool) (q p : Picture) →
    cond above (Err Size) (cond below (Err Short) (cond (not is_magic) (Err Magic) (cond (not is_version) (Err Version) (cond (not is_whole) (Err Length)
    (cond (not (is_aligned && is_within)) (Err Entry) (cond many (Err Globals) (Ok q))))))) ≡ Ok p →
    Passes above below is_magic is_version is_whole is_aligned is_within many × (q ≡ p)
passes true below is_magic is_version is_whole is_aligned is_within many q p h = absurd (cc)
passes false true is_magic is_version is_whole is_aligned is_within many q p h = absurd (cc)
passes false false false is_version is_whole is_aligned is_within many q p h = absurd (cc)
passes false false true false is_whole is_aligned is_within many q p h = absurd (cc)
passes false false true true false is_aligned is_within many q p h = absurd (cc)
passes false false true true true false is_within many q p h = absurd (cc)
passes false false true true true true false many q p h = absurd (cc)
passes false false true true true true true true q p h = absurd (cc)
passes false false true true true true true false q p h =
    (record { size = refl; short = refl; magic = refl; version = refl; whole = refl; aligned = refl; within = refl; globals = refl }, cc)

-- the bytes of a header
header : (bytes : List ℕ) → 20 ≤ length bytes → ((i : ℕ) → get_or bytes i 0 < 256) → number_at bytes 0 ≡ magic → number_at bytes 4 ≡ 1 →
    bytes ≡ 84 ∷ (85 ∷ (82 ∷ (73 ∷ (1 ∷ (0 ∷ (0 ∷ (0 ∷ (
    get_or bytes 8 0 ∷ (get_or bytes 9 0 ∷ (get_or bytes 10 0 ∷ (get_or bytes 11 0 ∷ (
    get_or bytes 12 0 ∷ (get_or bytes 13 0 ∷ (get_or bytes 14 0 ∷ (get_or bytes 15 0 ∷ (
    get_or bytes 16 0 ∷ (get_or bytes 17 0 ∷ (get_or bytes 18 0 ∷ (get_or bytes 19 0 ∷ drop 20 bytes)))))))))))))))))))
header bytes long fits is_magic is_version =
    let f0 = fits 0 in let f1 = fits 1 in let f2 = fits 2 in let f3 = fits 3 in
    let f4 = fits 4 in let f5 = fits 5 in let f6 = fits 6 in let f7 = fits 7 in
    let m0 : get_or bytes 0 0 ≡ 84 = omega arith in
    let m1 : get_or bytes 1 0 ≡ 85 = omega arith in
    let m2 : get_or bytes 2 0 ≡ 82 = omega arith in
    let m3 : get_or bytes 3 0 ≡ 73 = omega arith in
    let v0 : get_or bytes 4 0 ≡ 1 = omega arith in
    let v1 : get_or bytes 5 0 ≡ 0 = omega arith in
    let v2 : get_or bytes 6 0 ≡ 0 = omega arith in
    let v3 : get_or bytes 7 0 ≡ 0 = omega arith in
    let d0 : bytes ≡ get_or bytes 0 0 ∷ (get_or bytes 1 0 ∷ (get_or bytes 2 0 ∷ (get_or bytes 3 0 ∷ drop 4 bytes))) = drop-four bytes 0 (omega arith) in
    let d1 = drop-four bytes 4 (omega arith) in
    let d2 = drop-four bytes 8 (omega arith) in
    let d3 = drop-four bytes 12 (omega arith) in
    let d4 = drop-four bytes 16 (omega arith) in
    d0 ∙ rw (m0, m1, m2, m3, d1, v0, v1, v2, v3, d2, d3, d4) refl

-- what passes all conditions is spelled by its bytes
spelled : (bytes : List ℕ) → ((i : ℕ) → get_or bytes i 0 < 256) →
    Passes (ltb 67108884 (length bytes)) (ltb (length bytes) 20) (eqb (number_at bytes 0) magic) (eqb (number_at bytes 4) 1) (eqb (length bytes) (20 + 4 * text_words bytes))
    (eqb (entry_offset bytes % 4) 0) (ltb (entry_offset bytes) (4 * text_words bytes)) (ltb 4259840 (global_words bytes)) →
    IsImage bytes (picture bytes)
spelled bytes fits passed =
    let size : length bytes ≤ 67108884 = ltb-false _ _ passed.size in
    let long : 20 ≤ length bytes = ltb-false _ _ passed.short in
    let is_magic : number_at bytes 0 ≡ magic = eqb-true _ _ passed.magic in
    let is_version : number_at bytes 4 ≡ 1 = eqb-true _ _ passed.version in
    let whole : length bytes ≡ 20 + 4 * text_words bytes = eqb-true _ _ passed.whole in
    let aligned : entry_offset bytes % 4 ≡ 0 = eqb-true _ _ passed.aligned in
    let within : entry_offset bytes < 4 * text_words bytes = ltb-true _ _ passed.within in
    let globals : global_words bytes ≤ 4259840 = ltb-false _ _ passed.globals in
    let behind : length (drop 20 bytes) ≡ 4 * text_words bytes = omega (arith, length-drop 20 bytes) in
    let text = numbers-words_of (drop 20 bytes) (text_words bytes) behind (λ i. rw (get_or-drop 20 bytes i 0) (fits (20 + i))) in
    let count : length (words_of (drop 20 bytes)) ≡ text_words bytes = text.1 in
    let range : InRange (picture bytes) = record { size = omega arith; aligned = aligned; within = omega arith; globals = globals } in
    let n8 = number-value (get_or bytes 8 0) (get_or bytes 9 0) (get_or bytes 10 0) (get_or bytes 11 0) (fits 8) (fits 9) (fits 10) (fits 11) in
    let n12 = number-value (get_or bytes 12 0) (get_or bytes 13 0) (get_or bytes 14 0) (get_or bytes 15 0) (fits 12) (fits 13) (fits 14) (fits 15) in
    let n16 = number-value (get_or bytes 16 0) (get_or bytes 17 0) (get_or bytes 18 0) (get_or bytes 19 0) (fits 16) (fits 17) (fits 18) (fits 19) in
    (rw (count, n8.0, n8.1, n8.2, n8.3, n12.0, n12.1, n12.2, n12.3, n16.0, n16.1, n16.2, n16.3, text.0) (header bytes long fits is_magic is_version), range)

-- what is read is spelled so
pub found : (bytes : List ℕ) (p : Picture) → ((i : ℕ) → get_or bytes i 0 < 256) → reading bytes ≡ Ok p → IsImage bytes p
found bytes p fits e =
    let passed = passes (ltb 67108884 (length bytes)) (ltb (length bytes) 20) (eqb (number_at bytes 0) magic) (eqb (number_at bytes 4) 1)
    (eqb (length bytes) (20 + 4 * text_words bytes)) (eqb (entry_offset bytes % 4) 0) (ltb (entry_offset bytes) (4 * text_words bytes))
    (ltb 4259840 (global_words bytes)) (picture bytes) p e in
    subst (λ (image : Picture). IsImage bytes image) passed.1 (spelled bytes fits passed.0)

-- what is spelled so is read
pub again : (p : Picture) → InRange p → reading (spelling p) ≡ Ok p
again p in_range =
    let n8 : text_words (spelling p) ≡ length p.text = value-number (length p.text) in
    let n12 : global_words (spelling p) ≡ p.globals = value-number p.globals in
    let n16 : entry_offset (spelling p) ≡ p.entry = value-number p.entry in
    let text : words_of (numbers p.text) ≡ p.text = words_of-numbers p.text in
    let all : length (spelling p) ≡ 20 + 4 * length p.text = omega (arith, length-numbers p.text) in
    let size : ltb 67108884 (length (spelling p)) ≡ false = le-ltb _ _ (omega (arith, in_range.size)) in
    let short : ltb (length (spelling p)) 20 ≡ false = le-ltb _ _ (omega arith) in
    let whole : eqb (length (spelling p)) (20 + 4 * text_words (spelling p)) ≡ true = eq-eqb _ _ (rw n8 all) in
    let aligned : eqb (entry_offset (spelling p) % 4) 0 ≡ true = eq-eqb _ _ (rw n16 in_range.aligned) in
    let within : ltb (entry_offset (spelling p)) (4 * text_words (spelling p)) ≡ true = lt-ltb _ _ (rw (n16, n8) in_range.within) in
    let globals : ltb 4259840 (global_words (spelling p)) ≡ false = le-ltb _ _ (rw n12 in_range.globals) in
    rw (size, short, whole, aligned, within, globals, n12, n16, text) refl

only : (bytes : List ℕ) (p : Picture) → IsImage bytes p → reading bytes ≡ Ok p
only bytes p image = subst (λ (b : List ℕ). reading b ≡ Ok p) (sym image.0) (again p image.1)

pub only_if : (bytes : List ℕ) (r : Result Picture ImageError) → Gives r (reading bytes) → (p : Picture) → IsImage bytes p → Gives r (Ok p)
only_if bytes r gives p image = subst (λ (read : Result Picture ImageError). Gives r read) (only bytes p image) gives

-- bytes spell one image at most
pub once : (p q : Picture) → InRange p → InRange q → spelling p ≡ spelling q → p ≡ q
once p q in_range_p in_range_q e =
    let read_p = again p in_range_p in
    let read_q = only (spelling p) q (e, in_range_q) in
    cc
