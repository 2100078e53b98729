-- Refusals, and their notes: the line, the group and the kind.
use Rattle.std.specs.Prelude.{◌≢◌, ℕ, List, ◌++◌, codes, decimal}
use Rattle.tu_token.specs.declared.fault.LexError.{LexError}
use Rattle.tu_token.specs.declared.fault.LexError.TheVariants.{BadByte, BadNumber, OpenText, LongText, OpenComment, LongName, TooMany, TooDeep, Memory as lexical_memory}
use Rattle.tu_scope_rules.specs.declared.error.ScopeError.{ScopeError}
use Rattle.tu_scope_rules.specs.declared.error.ScopeError.TheVariants.{Unknown, NotImported, NotExported, Twice, BodyMissing, WrongEnd, Memory as scope_memory}
use Rattle.tu_check.specs.declared.refusal.TypeError.{TypeError}
use Rattle.tu_check.specs.declared.refusal.TypeError.TheVariants.{Misplaced, Mismatch, NotConstant, OutOfRange, NotVariable, BadCount, TooLarge, NotBuilt, Memory as types_memory}
use Rattle.tu_check.specs.declared.refusal.EffectError.{EffectError}
use Rattle.tu_check.specs.declared.refusal.EffectError.TheVariants.{FunctionVar, FunctionWrites, FunctionTalks, UnlistedWrite, Memory as effects_memory}
use Rattle.tu_check.specs.declared.refusal.AliasError.{AliasError}
use Rattle.tu_check.specs.declared.refusal.AliasError.TheVariants.{SharedActual, ImportedActual, HiddenRoot, ChangedBound, Memory as overlap_memory}
use Rattle.tu_check.specs.declared.refusal.Refusal.{Refusal}
use Rattle.tu_check.specs.declared.refusal.Refusal.TheVariants.{Size, Lexical, Syntax, Scope, Types, Effects, Overlap}

-- the refusal tells of a source, and not of want of memory
abbrev pub HasReason : Refusal → Type 0
HasReason Size = Unit {0}
HasReason (Lexical error) = error ≢ lexical_memory
HasReason (Syntax line) = Unit {0}
HasReason (Scope error) = error ≢ scope_memory
HasReason (Types error) = error ≢ types_memory
HasReason (Effects error) = error ≢ effects_memory
HasReason (Overlap error) = error ≢ overlap_memory

abbrev pub at_line : ℕ → List ℕ → List ℕ
at_line line text = codes "line " ++ (decimal line ++ (codes ": " ++ text))

-- want of memory is no refusal, so its text is never seen
abbrev pub no_reason : List ℕ
no_reason = codes "out of memory"

abbrev pub lexical_text : LexError → List ℕ
lexical_text (BadByte line) = at_line line (codes "Lexical BadByte")
lexical_text (BadNumber line) = at_line line (codes "Lexical BadNumber")
lexical_text (OpenText line) = at_line line (codes "Lexical OpenText")
lexical_text (LongText line) = at_line line (codes "Lexical LongText")
lexical_text (OpenComment line) = at_line line (codes "Lexical OpenComment")
lexical_text (LongName line) = at_line line (codes "Lexical LongName")
lexical_text (TooMany line) = at_line line (codes "Lexical TooMany")
lexical_text (TooDeep line) = at_line line (codes "Lexical TooDeep")
lexical_text lexical_memory = no_reason

abbrev pub scope_text : ScopeError → List ℕ
scope_text (Unknown line) = at_line line (codes "Scope Unknown")
scope_text (NotImported line) = at_line line (codes "Scope NotImported")
scope_text (NotExported line) = at_line line (codes "Scope NotExported")
scope_text (Twice line) = at_line line (codes "Scope Twice")
scope_text (BodyMissing line) = at_line line (codes "Scope BodyMissing")
scope_text (WrongEnd line) = at_line line (codes "Scope WrongEnd")
scope_text scope_memory = no_reason

abbrev pub types_text : TypeError → List ℕ
types_text (Misplaced line) = at_line line (codes "Types Misplaced")
types_text (Mismatch line) = at_line line (codes "Types Mismatch")
types_text (NotConstant line) = at_line line (codes "Types NotConstant")
types_text (OutOfRange line) = at_line line (codes "Types OutOfRange")
types_text (NotVariable line) = at_line line (codes "Types NotVariable")
types_text (BadCount line) = at_line line (codes "Types BadCount")
types_text (TooLarge line) = at_line line (codes "Types TooLarge")
types_text (NotBuilt line) = at_line line (codes "Types NotBuilt")
types_text types_memory = no_reason

abbrev pub effects_text : EffectError → List ℕ
effects_text (FunctionVar line) = at_line line (codes "Effects FunctionVar")
effects_text (FunctionWrites line) = at_line line (codes "Effects FunctionWrites")
effects_text (FunctionTalks line) = at_line line (codes "Effects FunctionTalks")
effects_text (UnlistedWrite line) = at_line line (codes "Effects UnlistedWrite")
effects_text effects_memory = no_reason

abbrev pub overlap_text : AliasError → List ℕ
overlap_text (SharedActual line) = at_line line (codes "Overlap SharedActual")
overlap_text (ImportedActual line) = at_line line (codes "Overlap ImportedActual")
overlap_text (HiddenRoot line) = at_line line (codes "Overlap HiddenRoot")
overlap_text (ChangedBound line) = at_line line (codes "Overlap ChangedBound")
overlap_text overlap_memory = no_reason

abbrev pub refusal_text : Refusal → List ℕ
refusal_text Size = codes "refused: Size"
refusal_text (Lexical error) = lexical_text error
refusal_text (Syntax line) = at_line line (codes "Syntax Unexpected")
refusal_text (Scope error) = scope_text error
refusal_text (Types error) = types_text error
refusal_text (Effects error) = effects_text error
refusal_text (Overlap error) = overlap_text error
