-- Files that are kept, one after another.
use Rattle.std.proofs.Common.{◌≡◌, ◌≢◌, ℕ, ◌+◌, ◌<◌, List, [], ◌∷◌, ◌++◌, length, map, replicate, take, drop, get_or, add-one, Option, Some, None, refl, arith, ap, sym, ◌∙◌}
use Rattle.std.proofs.lemmas.List.{take-append-drop, map-append, get_or-map, get_or-replicate}
use Rattle.std.proofs.Math.Seq.{take-suc, take-append_seam}
use Rattle.std.specs.FinMap as finite
use Rattle.tu_base.specs.Files.{Files}
use Rattle.tu_base.specs.Trace.{Put, Got, AtEnd, Keep, Trace, files_of}
use Rattle.rv_image.specs.Streams.{Stream, Free, Reading, Writing, kept}
use Rattle.rv_host.specs.declared.stream.Stream.{Stream as Slot}
use Rattle.rv_host.specs.Slots.{shown, with_trace, HasPartOf}

pub files_append : (first second : Trace) (files : Files) → files_of files (first ++ second) ≡ files_of (files_of files first) second
files_append [] second files = refl
files_append (Put byte ∷ first) second files = files_append first second files
files_append (Got byte ∷ first) second files = files_append first second files
files_append (AtEnd ∷ first) second files = files_append first second files
files_append (Keep name contents ∷ first) second files = files_append first second (finite.insert files name contents)

pub with_trace_twice : (told : Option Files) (first second : Trace) → with_trace (with_trace told first) second ≡ with_trace told (first ++ second)
with_trace_twice None first second = refl
with_trace_twice (Some files) first second = ap Some (sym (files_append first second files))

pub with_no_trace : (told : Option Files) → told ≡ with_trace told []
with_no_trace None = refl
with_no_trace (Some files) = refl

kept_append : (first second : List Stream) → kept (first ++ second) ≡ kept first ++ kept second
kept_append [] second = refl
kept_append (Free ∷ first) second = kept_append first second
kept_append (Reading name left ∷ first) second = kept_append first second
kept_append (Writing name contents ∷ first) second = ap (λ l. Keep name contents ∷ l) (kept_append first second)

-- one more stream was kept
pub kept_next : (old mid new : Option Files) (slots : List Slot) (i : ℕ) (s : Slot) → mid ≡ with_trace old (kept (map shown (take i slots))) →
    new ≡ with_trace mid (kept (shown (get_or slots i s) ∷ [])) → length slots ≡ 10 → i < 10 → new ≡ with_trace old (kept (map shown (take (i + 1) slots)))
kept_next old mid new slots i s so_far then ten h =
    let x : Slot = get_or slots i s in
    let within : i < length slots = omega arith in
    let one : take (i + 1) slots ≡ take i slots ++ x ∷ [] = ap (λ j. take j slots) (add-one i) ∙ take-suc slots i s within in
    let all : kept (map shown (take (i + 1) slots)) ≡ kept (map shown (take i slots)) ++ kept (shown x ∷ []) =
    ap (λ l. kept (map shown l)) one ∙ ap kept (map-append shown (take i slots) (x ∷ [])) ∙ kept_append (map shown (take i slots)) (shown x ∷ []) in
    then ∙ ap (λ told. with_trace told (kept (shown x ∷ []))) so_far ∙ with_trace_twice old (kept (map shown (take i slots))) (kept (shown x ∷ []))
    ∙ ap (with_trace old) (sym all)

-- the first streams alone are kept
pub kept_part : (old new : Option Files) (slots : List Slot) (streams : List Stream) (i : ℕ) → map shown slots ≡ streams → new ≡ with_trace old (kept (map shown (take i slots))) →
    HasPartOf old new (kept streams)
kept_part old new slots streams i view so_far =
    let first : Trace = kept (map shown (take i slots)) in
    let second : Trace = kept (map shown (drop i slots)) in
    let all : kept streams ≡ first ++ second =
    ap kept (sym view) ∙ ap (λ l. kept (map shown l)) (sym (take-append-drop i slots)) ∙ ap kept (map-append shown (take i slots) (drop i slots))
    ∙ kept_append (map shown (take i slots)) (map shown (drop i slots)) in
    record {
      count = length first;
      is = so_far ∙ ap (with_trace old) (sym (take-append_seam first second) ∙ ap (take (length first)) (sym all));
    }

-- some stream is open
pub some_open : (slots : List Slot) (streams : List Stream) (i : ℕ) (s : Slot) → map shown slots ≡ streams → length slots ≡ 10 → i < 10 → shown (get_or slots i s) ≢ Free →
    streams ≢ replicate 10 Free
some_open slots streams i s view ten h used closed =
    let within : i < length slots = omega arith in
    used (sym (get_or-map shown slots i s Free within) ∙ ap (λ l. get_or l i Free) (view ∙ closed) ∙ get_or-replicate 10 i Free Free h)
