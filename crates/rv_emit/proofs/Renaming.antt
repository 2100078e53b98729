-- What code over other numbers keeps of itself.
use Rattle.std.proofs.Common.{◌≡◌, ◌≢◌, ℕ, ◌+◌, List, [], ◌∷◌, ◌++◌, map, get_or, refl, ap, sym, ◌∙◌}
use Rattle.std.specs.Prelude.{Contains, ◌==◌, if◌then◌else◌}
use Rattle.std.specs.List.{AllByRecursion as Each}
use Rattle.std.proofs.lemmas.List.{map-append, length-map}
use Rattle.std.proofs.lemmas.List.Elements.{All-map, All-weaker, All-same, All-from_recursion, recursion_from_All}
use Rattle.rv_isa.specs.declared.service.Service.{Service}
use Rattle.rv_isa.specs.declared.service.Service.TheVariants.{End, Stop, PutConsole, GetConsole, Open, Close, PutStream, GetStream, State}
use Rattle.ir_form.specs.declared.plain.Plain.{Plain as PlainOp}
use Rattle.ir_form.specs.declared.plain.Plain.TheVariants.{Constant, Global, Heap, Frame, Text, Compute, Load, Store, Ask, Call, Raise, Throw, Take, Give}
use Rattle.ir_form.specs.Lawful.{plain_numbers}
use Rattle.ir_form.specs.Values.{asked}
use Rattle.ir_form.proofs.Each.{front, back, both}
use Rattle.rv_flat.specs.declared.linear.Instruction.{Instruction}
use Rattle.rv_flat.specs.declared.linear.Instruction.TheVariants.{Plain, Guarded, Open as Opens, Branch, Within, Hand, Jump, Label, Back}
use Rattle.rv_flat.specs.declared.linear.LinearRoutine.{LinearRoutine}
use Rattle.rv_flat.specs.Parts.{gathered, instruction_numbers, linear_numbers, instruction_plains, code_plains, instruction_labels, instruction_targets, instruction_marks, IsUnguardedInstruction, IsUnguardedCode, times, HasItsLabels, IsDistinct, plain_takers, instruction_takers, TakesOnce}
use Rattle.rv_flat.specs.Size.{instruction_size, code_size, plain_size}
use Rattle.rv_alloc.specs.Renamed.{renamed, renamed_plain, renamed_service, renamed_routine}

-- different values have different numbers
pub record Apart (f : ℕ → ℕ) (named : List ℕ) : Type 0 where
  pub same : (v w : ℕ) → Contains named v → Contains named w → f v ≡ f w → v ≡ w

module _ (f : ℕ → ℕ) where
  joined : (xs ys : List ℕ) → map f xs ++ map f ys ≡ map f (xs ++ ys)
  joined xs ys = sym (map-append f xs ys)

  asked_renamed : (s : Service) → asked (renamed_service f s) ≡ map f (asked s)
  asked_renamed End = refl
  asked_renamed (Stop kind line) = refl
  asked_renamed (PutConsole at size) = refl
  asked_renamed GetConsole = refl
  asked_renamed (Open at size mode) = refl
  asked_renamed (Close stream) = refl
  asked_renamed (PutStream stream at size) = refl
  asked_renamed (GetStream stream) = refl
  asked_renamed (State stream) = refl

  plain_renamed : (p : PlainOp) → plain_numbers (renamed_plain f p) ≡ map f (plain_numbers p)
  plain_renamed (Constant to word) = refl
  plain_renamed (Global to word) = refl
  plain_renamed (Heap to) = refl
  plain_renamed (Frame to word) = refl
  plain_renamed (Text to byte) = refl
  plain_renamed (Compute to op left right) = refl
  plain_renamed (Load to width at) = refl
  plain_renamed (Store width at from) = refl
  plain_renamed (Ask to service) = ap (λ xs. xs ++ f to ∷ []) (asked_renamed service) ∙ joined (asked service) (to ∷ [])
  plain_renamed (Call routine arguments to line) = joined arguments to
  plain_renamed (Raise kind line) = refl
  plain_renamed (Throw kind line) = refl
  plain_renamed (Take to words line) = refl
  plain_renamed (Give words) = refl

  instruction_renamed : (i : Instruction) → instruction_numbers (renamed f i) ≡ map f (instruction_numbers i)
  instruction_renamed (Plain p) = plain_renamed p
  instruction_renamed (Guarded p handler) = ap (λ xs. xs ++ map f handler.to) (plain_renamed p) ∙ joined (plain_numbers p) handler.to
  instruction_renamed (Opens mark) = refl
  instruction_renamed (Branch relation left right label) = refl
  instruction_renamed (Within value range label) = refl
  instruction_renamed (Hand to from) = joined to from
  instruction_renamed (Jump label) = refl
  instruction_renamed (Label label marked) = refl
  instruction_renamed (Back values) = refl

  numbers_renamed : (code : List Instruction) → gathered instruction_numbers (map (renamed f) code) ≡ map f (gathered instruction_numbers code)
  numbers_renamed [] = refl
  numbers_renamed (i ∷ is) =
      ap (λ xs. xs ++ gathered instruction_numbers (map (renamed f) is)) (instruction_renamed i)
      ∙ (ap (λ xs. map f (instruction_numbers i) ++ xs) (numbers_renamed is) ∙ joined (instruction_numbers i) (gathered instruction_numbers is))

  pub routine_renamed : (r : LinearRoutine) → linear_numbers (renamed_routine f r) ≡ map f (linear_numbers r)
  routine_renamed r = ap (λ xs. map f r.parameters ++ xs) (numbers_renamed r.code) ∙ joined r.parameters (gathered instruction_numbers r.code)

  instruction_plains_renamed : (i : Instruction) → instruction_plains (renamed f i) ≡ map (renamed_plain f) (instruction_plains i)
  instruction_plains_renamed (Plain p) = refl
  instruction_plains_renamed (Guarded p handler) = refl
  instruction_plains_renamed (Opens mark) = refl
  instruction_plains_renamed (Branch relation left right label) = refl
  instruction_plains_renamed (Within value range label) = refl
  instruction_plains_renamed (Hand to from) = refl
  instruction_plains_renamed (Jump label) = refl
  instruction_plains_renamed (Label label marked) = refl
  instruction_plains_renamed (Back values) = refl

  pub plains_renamed : (code : List Instruction) → code_plains (map (renamed f) code) ≡ map (renamed_plain f) (code_plains code)
  plains_renamed [] = refl
  plains_renamed (i ∷ is) =
      ap (λ xs. xs ++ code_plains (map (renamed f) is)) (instruction_plains_renamed i)
      ∙ (ap (λ xs. map (renamed_plain f) (instruction_plains i) ++ xs) (plains_renamed is) ∙ sym (map-append (renamed_plain f) (instruction_plains i) (code_plains is)))

  pub marks_renamed : (code : List Instruction) → gathered instruction_marks (map (renamed f) code) ≡ gathered instruction_marks code
  marks_renamed [] = refl
  marks_renamed (Plain p ∷ is) = marks_renamed is
  marks_renamed (Guarded p handler ∷ is) = ap (λ xs. handler.mark ∷ xs) (marks_renamed is)
  marks_renamed (Opens mark ∷ is) = ap (λ xs. mark ∷ xs) (marks_renamed is)
  marks_renamed (Branch relation left right label ∷ is) = marks_renamed is
  marks_renamed (Within value range label ∷ is) = marks_renamed is
  marks_renamed (Hand to from ∷ is) = marks_renamed is
  marks_renamed (Jump label ∷ is) = marks_renamed is
  marks_renamed (Label label marked ∷ is) = marks_renamed is
  marks_renamed (Back values ∷ is) = marks_renamed is

  unguarded_instruction : (i : Instruction) → IsUnguardedInstruction i → IsUnguardedInstruction (renamed f i)
  unguarded_instruction (Plain p) h = tt
  unguarded_instruction (Guarded p handler) h = h
  unguarded_instruction (Opens mark) h = h
  unguarded_instruction (Branch relation left right label) h = tt
  unguarded_instruction (Within value range label) h = tt
  unguarded_instruction (Hand to from) h = tt
  unguarded_instruction (Jump label) h = tt
  unguarded_instruction (Label label marked) h = tt
  unguarded_instruction (Back values) h = tt

  pub unguarded_renamed : (code : List Instruction) → IsUnguardedCode code → IsUnguardedCode (map (renamed f) code)
  unguarded_renamed code h = All-map IsUnguardedInstruction (renamed f) code (All-weaker IsUnguardedInstruction (λ i. IsUnguardedInstruction (renamed f i)) unguarded_instruction code h)

  times_renamed : (l : ℕ) (code : List Instruction) → times l (map (renamed f) code) ≡ times l code
  times_renamed l [] = refl
  times_renamed l (Plain p ∷ is) = times_renamed l is
  times_renamed l (Guarded p handler ∷ is) = times_renamed l is
  times_renamed l (Opens mark ∷ is) = times_renamed l is
  times_renamed l (Branch relation left right label ∷ is) = times_renamed l is
  times_renamed l (Within value range label ∷ is) = times_renamed l is
  times_renamed l (Hand to from ∷ is) = times_renamed l is
  times_renamed l (Jump label ∷ is) = times_renamed l is
  times_renamed l (Label label marked ∷ is) = ap (λ n. (if l == label then 1 else 0) + n) (times_renamed l is)
  times_renamed l (Back values ∷ is) = times_renamed l is

  labels_renamed : (code : List Instruction) → gathered instruction_labels (map (renamed f) code) ≡ gathered instruction_labels code
  labels_renamed [] = refl
  labels_renamed (Plain p ∷ is) = labels_renamed is
  labels_renamed (Guarded p handler ∷ is) = labels_renamed is
  labels_renamed (Opens mark ∷ is) = labels_renamed is
  labels_renamed (Branch relation left right label ∷ is) = labels_renamed is
  labels_renamed (Within value range label ∷ is) = labels_renamed is
  labels_renamed (Hand to from ∷ is) = labels_renamed is
  labels_renamed (Jump label ∷ is) = labels_renamed is
  labels_renamed (Label label marked ∷ is) = ap (λ xs. label ∷ xs) (labels_renamed is)
  labels_renamed (Back values ∷ is) = labels_renamed is

  targets_renamed : (code : List Instruction) → gathered instruction_targets (map (renamed f) code) ≡ gathered instruction_targets code
  targets_renamed [] = refl
  targets_renamed (Plain p ∷ is) = targets_renamed is
  targets_renamed (Guarded p handler ∷ is) = ap (λ xs. handler.label ∷ xs) (targets_renamed is)
  targets_renamed (Opens mark ∷ is) = targets_renamed is
  targets_renamed (Branch relation left right label ∷ is) = ap (λ xs. label ∷ xs) (targets_renamed is)
  targets_renamed (Within value range label ∷ is) = ap (λ xs. label ∷ xs) (targets_renamed is)
  targets_renamed (Hand to from ∷ is) = targets_renamed is
  targets_renamed (Jump label ∷ is) = ap (λ xs. label ∷ xs) (targets_renamed is)
  targets_renamed (Label label marked ∷ is) = targets_renamed is
  targets_renamed (Back values ∷ is) = targets_renamed is

  pub has_its_labels : (code : List Instruction) → HasItsLabels code → HasItsLabels (map (renamed f) code)
  has_its_labels code h =
      let P : ℕ → Type 0 = λ l. times l (map (renamed f) code) ≡ 1 in
      record {
        once = All-same P _ _ (labels_renamed code) (All-weaker _ P (λ l e. times_renamed l code ∙ e) (gathered instruction_labels code) h.once);
        there = All-same P _ _ (targets_renamed code) (All-weaker _ P (λ l e. times_renamed l code ∙ e) (gathered instruction_targets code) h.there);
      }

  pub code_size_renamed : (code : List Instruction) → code_size (map (renamed f) code) ≡ code_size code
  code_size_renamed [] = refl
  code_size_renamed (i ∷ is) = ap (λ n. n + code_size (map (renamed f) is)) (one i) ∙ ap (λ n. instruction_size i + n) (code_size_renamed is)
    where
      plain : (p : PlainOp) → plain_size (renamed_plain f p) ≡ plain_size p
      plain (Constant to word) = refl
      plain (Global to word) = refl
      plain (Heap to) = refl
      plain (Frame to word) = refl
      plain (Text to byte) = refl
      plain (Compute to op left right) = refl
      plain (Load to width at) = refl
      plain (Store width at from) = refl
      plain (Ask to service) = refl
      plain (Call routine arguments to line) = rw (length-map arguments f, length-map to f) refl
      plain (Raise kind line) = refl
      plain (Throw kind line) = refl
      plain (Take to words line) = refl
      plain (Give words) = refl

      one : (i : Instruction) → instruction_size (renamed f i) ≡ instruction_size i
      one (Plain p) = plain p
      one (Guarded p handler) = plain p
      one (Opens mark) = refl
      one (Branch relation left right label) = refl
      one (Within value range label) = refl
      one (Hand to from) = rw (length-map from f) refl
      one (Jump label) = refl
      one (Label label marked) = refl
      one (Back values) = rw (length-map values f) refl

  module _ (named : List ℕ) (apart : Apart f named) where
    pub distinct_renamed : (xs : List ℕ) → Each (Contains named) xs → IsDistinct xs → IsDistinct (map f xs)
    distinct_renamed [] h d = tt
    distinct_renamed (x ∷ xs) h d =
        let known = All-from_recursion (Contains named) xs h.1 in
        (All-map (λ y. y ≢ f x) f xs (λ k e l. λ q. d.0 k e l (apart.same (get_or xs k e) x (known k e l) h.0 q)), distinct_renamed xs h.1 d.1)

    plain_takers_renamed : (p : PlainOp) → Each (Contains named) (plain_numbers p) → Each IsDistinct (plain_takers p) → Each IsDistinct (plain_takers (renamed_plain f p))
    plain_takers_renamed (Constant to word) h d = tt
    plain_takers_renamed (Global to word) h d = tt
    plain_takers_renamed (Heap to) h d = tt
    plain_takers_renamed (Frame to word) h d = tt
    plain_takers_renamed (Text to byte) h d = tt
    plain_takers_renamed (Compute to op left right) h d = tt
    plain_takers_renamed (Load to width at) h d = tt
    plain_takers_renamed (Store width at from) h d = tt
    plain_takers_renamed (Ask to service) h d = tt
    plain_takers_renamed (Call routine arguments to line) h d = (distinct_renamed to (back (Contains named) arguments to h) d.0, tt)
    plain_takers_renamed (Raise kind line) h d = tt
    plain_takers_renamed (Throw kind line) h d = tt
    plain_takers_renamed (Take to words line) h d = tt
    plain_takers_renamed (Give words) h d = tt

    instruction_takers_renamed : (i : Instruction) → Each (Contains named) (instruction_numbers i) → Each IsDistinct (instruction_takers i) → Each IsDistinct (instruction_takers (renamed f i))
    instruction_takers_renamed (Plain p) h d = plain_takers_renamed p h d
    instruction_takers_renamed (Guarded p handler) h d =
        (distinct_renamed handler.to (back (Contains named) (plain_numbers p) handler.to h) d.0, plain_takers_renamed p (front (Contains named) (plain_numbers p) handler.to h) d.1)
    instruction_takers_renamed (Opens mark) h d = tt
    instruction_takers_renamed (Branch relation left right label) h d = tt
    instruction_takers_renamed (Within value range label) h d = tt
    instruction_takers_renamed (Hand to from) h d = (distinct_renamed to (front (Contains named) to from h) d.0, tt)
    instruction_takers_renamed (Jump label) h d = tt
    instruction_takers_renamed (Label label marked) h d = tt
    instruction_takers_renamed (Back values) h d = tt

    takers_renamed : (code : List Instruction) → Each (Contains named) (gathered instruction_numbers code) → Each IsDistinct (gathered instruction_takers code) → Each IsDistinct (gathered instruction_takers (map (renamed f) code))
    takers_renamed [] h d = tt
    takers_renamed (i ∷ is) h d =
        both IsDistinct (instruction_takers (renamed f i)) _
        (instruction_takers_renamed i (front (Contains named) (instruction_numbers i) (gathered instruction_numbers is) h) (front IsDistinct (instruction_takers i) (gathered instruction_takers is) d))
        (takers_renamed is (back (Contains named) (instruction_numbers i) (gathered instruction_numbers is) h) (back IsDistinct (instruction_takers i) (gathered instruction_takers is) d))

    pub takes_once : (r : LinearRoutine) → Each (Contains named) (linear_numbers r) → TakesOnce r → TakesOnce (renamed_routine f r)
    takes_once r h t = record {
      parameters = distinct_renamed r.parameters (front (Contains named) r.parameters (gathered instruction_numbers r.code) h) t.parameters;
      taken = All-from_recursion IsDistinct (gathered instruction_takers (map (renamed f) r.code))
          (takers_renamed r.code (back (Contains named) r.parameters (gathered instruction_numbers r.code) h) (recursion_from_All IsDistinct (gathered instruction_takers r.code) t.taken));
    }
