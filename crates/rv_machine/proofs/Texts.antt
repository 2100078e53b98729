-- The words of the text in memory.
use Rattle.std.proofs.Common.{◌≡◌, ◌≢◌, ℕ, zero, suc, ◌+◌, ◌-◌, ◌*◌, ◌/◌, ◌%◌, ◌<◌, ◌≤◌, inl, inr, List, [], ◌∷◌, length, map, get_or, Option, Some, None, Bool, true, false, cond, leb, eqb, refl, arith, ap, sym, ◌∙◌}
use Rattle.std.specs.Prelude.{slice_get, option_map}
use Rattle.std.proofs.lemmas.Option.{slice_get_within, slice_get_past, slice_get-get_or, slice_get-map}
use Rattle.std.proofs.lemmas.Bool.{cases_lt}
use Rattle.rv_isa.specs.declared.instr.Instr.{Instr}
use Rattle.rv_isa.specs.declared.service.FaultKind.TheVariants.{Fetch}
use Rattle.rv_isa.specs.Encoding.{Fits, decoding, encoding}
use Rattle.rv_isa.specs.Memory.{Memory, word_at}
use Rattle.rv_isa.specs.Step.{Cpu, Space, Outcome, Faults, performs, executes, fetched, step}
use Rattle.rv_isa.specs.Fixed.{HoldsText, left_memory}
use Rattle.rv_isa.proofs.TextStays.{step_keeps}
use Rattle.rv_machine.specs.Lists.{words_at, text_in}
use Rattle.rv_machine.specs.Seen.{seen, IsDecoded}
use Rattle.rv_machine.specs.declared.stepped.Stepped.{Stepped}
use Rattle.rv_machine.specs.declared.stepped.Stepped.TheVariants.{To, Asks as asked_for, Faults as faulted}

pub length_words : (m : Memory) (a n : ℕ) → length (words_at m a n) ≡ n
unfolding words_at
length_words m a zero = refl
length_words m a (suc n) = ap suc (length_words m (a + 4) n)

pub get_word : (m : Memory) (a n k : ℕ) → k < n → get_or (words_at m a n) k 0 ≡ word_at m (a + 4 * k)
unfolding words_at
get_word m a zero k h = absurd (omega arith)
get_word m a (suc n) zero h = let e : a + 4 * 0 ≡ a = omega arith in rw e refl
get_word m a (suc n) (suc k) h =
    let e : a + 4 * suc k ≡ a + 4 + 4 * k = omega arith in
    rw e (get_word m (a + 4) n k (omega arith))

pub get_text : (m : Memory) (n k : ℕ) → k < n → slice_get (text_in n m) k ≡ Some (word_at m (65536 + 4 * k))
get_text m n k h =
    let l : k < length (text_in n m) = omega (arith, length_words m 65536 n) in
    slice_get-get_or (text_in n m) k 0 l ∙ ap Some (get_word m 65536 n k h)

pub past_text : (m : Memory) (n k : ℕ) → n ≤ k → slice_get (text_in n m) k ≡ None
past_text m n k h = slice_get_past (text_in n m) k (omega (arith, length_words m 65536 n))

-- two lists of one length with the same words
same_words : (xs ys : List ℕ) → length xs ≡ length ys → ((k : ℕ) → k < length ys → get_or xs k 0 ≡ get_or ys k 0) → xs ≡ ys
same_words [] [] e h = refl
same_words [] (y ∷ ys) e h = absurd (omega arith)
same_words (x ∷ xs) [] e h = absurd (omega arith)
same_words (x ∷ xs) (y ∷ ys) e h =
    let f : x ≡ y = h 0 (omega arith) in
    let r : xs ≡ ys = same_words xs ys (omega arith) (λ k l. h (suc k) (omega arith)) in
    rw (f, r) refl

-- the words of memory are a text that stands there
pub text_held : (m : Memory) (n : ℕ) (text : List ℕ) → length text ≡ n → HoldsText text m → text_in n m ≡ text
text_held m n text e h =
    same_words (text_in n m) text (length_words m 65536 n ∙ sym e) (λ k l. get_word m 65536 n k (omega arith) ∙ h k l)

pub holds_text : (m : Memory) (n : ℕ) → HoldsText (text_in n m) m
holds_text m n = λ k l. sym (get_word m 65536 n k (omega (arith, length_words m 65536 n)))

left_seen : (r : Stepped) (c : Cpu) → left_memory (seen r c) ≡ c.memory
left_seen (To pc) c = refl
left_seen (asked_for what) c = refl
left_seen (faulted why) c = refl

-- an instruction leaves the text in memory as it is
pub text_kept : (n end : ℕ) (c d : Cpu) (r : Stepped) →
    seen r d ≡ step (record { text = text_in n c.memory; end = end }) c → text_in n d.memory ≡ text_in n c.memory
text_kept n end c d r is =
    let s : Space = record { text = text_in n c.memory; end = end } in
    let e : left_memory (step s c) ≡ d.memory = ap left_memory (sym is) ∙ left_seen r d in
    let k : HoldsText s.text (left_memory (step s c)) = step_keeps s c (holds_text c.memory n) in
    text_held d.memory n (text_in n c.memory) (length_words c.memory 65536 n) (rw e at k)

pub fetched_at : (s : Space) (pc : ℕ) → 65536 ≤ pc → pc % 4 ≡ 0 → fetched s pc ≡ slice_get s.text ((pc - 65536) / 4)
fetched_at s pc a b =
    let t : leb 65536 pc ≡ true = grind arith in
    let u : eqb (pc % 4) 0 ≡ true = grind arith in
    rw (t, u) refl

-- what an instruction comes to, by the entry of its word
abbrev pub performed : Space → Option (Option Instr) → Cpu → Outcome
performed s None c = Faults Fetch c
performed s (Some entry) c = performs s entry c

executes_entry : (s : Space) (word : Option ℕ) (c : Cpu) → executes s word c ≡ performed s (option_map decoding word) c
executes_entry s None c = refl
executes_entry s (Some word) c = refl

pub executed : (s : Space) (c : Cpu) (entry : Option (Option Instr)) → entry ≡ option_map decoding (fetched s c.pc) → step s c ≡ performed s entry c
unfolding step
executed s c entry e = executes_entry s (fetched s c.pc) c ∙ ap (λ o. performed s o c) (sym e)

pub word_fetched : (m : Memory) (n end pc : ℕ) → 65536 ≤ pc → pc % 4 ≡ 0 → (pc - 65536) / 4 < n →
    fetched (record { text = text_in n m; end = end }) pc ≡ Some (word_at m (pc - 65536 + 65536))
word_fetched m n end pc a b h =
    let e : 65536 + 4 * ((pc - 65536) / 4) ≡ pc - 65536 + 65536 = omega arith in
    fetched_at (record { text = text_in n m; end = end }) pc a b ∙ (get_text m n ((pc - 65536) / 4) h ∙ ap (λ p. Some (word_at m p)) e)

if_none : (b : Bool) (o : Option ℕ) → o ≡ None → cond b o None ≡ None
if_none true o e = e
if_none false o e = refl

pub none_fetched : (m : Memory) (n end pc : ℕ) → n ≤ (pc - 65536) / 4 → fetched (record { text = text_in n m; end = end }) pc ≡ None
none_fetched m n end pc h = if_none _ _ (past_text m n ((pc - 65536) / 4) h)

map_some : (o : Option ℕ) (entry : Option Instr) → option_map decoding o ≡ Some entry → o ≢ None
map_some None entry e = absurd cc
map_some (Some word) entry e = λ f. absurd cc

-- an entry stands for a word of the text
pub entry_within : (m : Memory) (n k : ℕ) (entry : Option Instr) → option_map decoding (slice_get (text_in n m) k) ≡ Some entry → k < n
entry_within m n k entry e =
    elim (cases_lt k n) [
      | inl l ↦ l
      | inr l ↦ absurd (map_some _ entry e (past_text m n k l))
    ]

-- The decoded words of a text, all of them or none.
fits_at : (o : Option ℕ) (op : Instr) → ((w : ℕ) → o ≡ Some w → w < 4294967296) → ((w : ℕ) → w < 4294967296 → decoding w ≡ Some op → Fits op) →
    option_map decoding o ≡ Some (Some op) → Fits op
fits_at None op below fit e = absurd cc
fits_at (Some w) op below fit e = fit w (below w refl) cc

pub all_decoded : (ws : List ℕ) → ((k w : ℕ) → slice_get ws k ≡ Some w → w < 4294967296) →
    ((w : ℕ) → w < 4294967296 → (op : Instr) → decoding w ≡ Some op → Fits op × (encoding op ≡ w)) → IsDecoded (map decoding ws) ws
all_decoded ws below fit = record {
  entries = λ k entry e. sym (slice_get-map decoding ws k) ∙ e;
  fit = λ k op e. fits_at (slice_get ws k) op (below k) (λ w l d. (fit w l op d).0) (sym (slice_get-map decoding ws k) ∙ e);
}

no_entry : (k : ℕ) (entry : Option Instr) → slice_get {X = Option Instr} [] k ≡ Some entry → ⊥
no_entry k entry e = let w = slice_get_within [] k entry e in omega arith

pub none_decoded : (ws : List ℕ) → IsDecoded [] ws
none_decoded ws = record {
  entries = λ k entry e. absurd (no_entry k entry e);
  fit = λ k op e. absurd (no_entry k (Some op) e);
}

-- the outcome at what was fetched
pub came_to : (s : Space) (c : Cpu) (entry was : Option (Option Instr)) (o : Outcome) →
    entry ≡ option_map decoding (fetched s c.pc) → entry ≡ was → o ≡ performed s was c → o ≡ step s c
came_to s c entry was o is e h = h ∙ sym (executed s c entry is ∙ ap (λ x. performed s x c) e)
