-- What is encoded is decoded again, and what is decoded has this word.
use Rattle.std.proofs.Common.{◌≡◌, ℕ, ◌+◌, ◌*◌, ◌/◌, ◌%◌, ◌<◌, List, [], ◌∷◌, Option, Some, None, true, false, cond, eqb, refl, sym, ap, ◌∙◌, subst, arith, option_map, option_and_then}
use Rattle.std.specs.List.{AllByRecursion}
use Rattle.std.specs.Prelude.{IfNone}
use Rattle.std.proofs.lemmas.Bool.{eqb-true}
use Rattle.std.proofs.Common.{Bool, inl, inr, ◌⊎◌}
use Rattle.rv_isa.specs.Tables.{entry, relations, relation_number, loads, load_number, stores, store_number, immediate_ops, immediate_number, shifts, shift_number, register_ops, register_number}
use Rattle.rv_isa.specs.Encoding.{signed, Fits, word, encoding, decoding, opcodes, rd_of, funct3_of, rs1_of, rs2_of, funct7_of, upper_of, immediate_of, store_offset_of, branch_offset_of, jump_offset_of, jalr_at, branch_at, load_at, store_at, shift_at, immediate_at, register_at, fence_at, system_at}
use Rattle.rv_isa.proofs.Fields.{jump_spelled, branch_spelled, store_spelled, IsWord, word_fields, word_again, signed_12, signed_12_fits, signed_12_low, store_again, branch_again, jump_again, signed_13_fits, signed_13_low, signed_21_fits, signed_21_low}
use Rattle.rv_isa.specs.declared.instr.Instr.{Instr}
use Rattle.rv_isa.specs.declared.instr.Instr.TheVariants.{Lui, Auipc, Jal, Jalr, Branch, Load, Store, Immediate, Shift, Register, Fence, Ecall, Ebreak}
use Rattle.rv_isa.specs.declared.instr.Relation.{Relation}
use Rattle.rv_isa.specs.declared.instr.Relation.TheVariants.{Equal, NotEqual, Less, GreaterOrEqual, LessUnsigned, GreaterOrEqualUnsigned}
use Rattle.rv_isa.specs.declared.instr.LoadKind.{LoadKind}
use Rattle.rv_isa.specs.declared.instr.LoadKind.TheVariants.{Byte, Half, Word, ByteUnsigned, HalfUnsigned}
use Rattle.rv_isa.specs.declared.instr.StoreKind.{StoreKind}
use Rattle.rv_isa.specs.declared.instr.StoreKind.TheVariants.{Byte as store_byte, Half as store_half, Word as store_word}
use Rattle.rv_isa.specs.declared.instr.ImmediateOp.{ImmediateOp}
use Rattle.rv_isa.specs.declared.instr.ImmediateOp.TheVariants.{Addi, Slti, Sltiu, Xori, Ori, Andi}
use Rattle.rv_isa.specs.declared.instr.ShiftOp.{ShiftOp}
use Rattle.rv_isa.specs.declared.instr.ShiftOp.TheVariants.{Slli, Srli, Srai}
use Rattle.rv_isa.specs.declared.instr.RegisterOp.{RegisterOp}
use Rattle.rv_isa.specs.declared.instr.RegisterOp.TheVariants.{Add, Sub, Sll, Slt, Sltu, Xor, Srl, Sra, Or, And, Mul, Mulh, Mulhsu, Mulhu, Div, Divu, Rem, Remu}

-- the opcode alone chooses how a word is read
by_opcode : (w op : ℕ) → w % 128 ≡ op → decoding w ≡ option_and_then (λ at. at w) (entry opcodes op)
unfolding decoding
by_opcode w op e = ap (λ n. option_and_then (λ at. at w) (entry opcodes n)) e

-- each operation is found by its number
relation_again : (r : Relation) → (relation_number r < 8) × (entry relations (relation_number r) ≡ Some r)
relation_again Equal = (omega arith, refl)
relation_again NotEqual = (omega arith, refl)
relation_again Less = (omega arith, refl)
relation_again GreaterOrEqual = (omega arith, refl)
relation_again LessUnsigned = (omega arith, refl)
relation_again GreaterOrEqualUnsigned = (omega arith, refl)

load_again : (r : LoadKind) → (load_number r < 8) × (entry loads (load_number r) ≡ Some r)
load_again Byte = (omega arith, refl)
load_again Half = (omega arith, refl)
load_again Word = (omega arith, refl)
load_again ByteUnsigned = (omega arith, refl)
load_again HalfUnsigned = (omega arith, refl)

store_kind_again : (r : StoreKind) → (store_number r < 8) × (entry stores (store_number r) ≡ Some r)
store_kind_again store_byte = (omega arith, refl)
store_kind_again store_half = (omega arith, refl)
store_kind_again store_word = (omega arith, refl)

immediate_again : (r : ImmediateOp) → (immediate_number r < 8) × (eqb (immediate_number r % 4) 1 ≡ false) × (entry immediate_ops (immediate_number r) ≡ Some r)
immediate_again Addi = (omega arith, refl, refl)
immediate_again Slti = (omega arith, refl, refl)
immediate_again Sltiu = (omega arith, refl, refl)
immediate_again Xori = (omega arith, refl, refl)
immediate_again Ori = (omega arith, refl, refl)
immediate_again Andi = (omega arith, refl, refl)

shift_again : (r : ShiftOp) → (shift_number r < 1024) × (eqb (shift_number r % 8 % 4) 1 ≡ true) × (entry shifts (shift_number r) ≡ Some r)
shift_again Slli = (omega arith, refl, refl)
shift_again Srli = (omega arith, refl, refl)
shift_again Srai = (omega arith, refl, refl)

register_again : (r : RegisterOp) → (register_number r < 1024) × (entry register_ops (register_number r) ≡ Some r)
register_again Add = (omega arith, refl)
register_again Sub = (omega arith, refl)
register_again Sll = (omega arith, refl)
register_again Slt = (omega arith, refl)
register_again Sltu = (omega arith, refl)
register_again Xor = (omega arith, refl)
register_again Srl = (omega arith, refl)
register_again Sra = (omega arith, refl)
register_again Or = (omega arith, refl)
register_again And = (omega arith, refl)
register_again Mul = (omega arith, refl)
register_again Mulh = (omega arith, refl)
register_again Mulhsu = (omega arith, refl)
register_again Mulhu = (omega arith, refl)
register_again Div = (omega arith, refl)
register_again Divu = (omega arith, refl)
register_again Rem = (omega arith, refl)
register_again Remu = (omega arith, refl)

-- the low five bits of the upper twelve
part_low : (b c w : ℕ) → w / 1048576 ≡ b + 32 * c → b < 32 → w / 1048576 % 32 ≡ b
part_low b c w e h = omega arith

-- what is encoded is decoded again
pub again : (i : Instr) → Fits i → decoding (encoding i) ≡ Some i
again (Lui rd u) h =
    let w : ℕ = encoding (Lui rd u) in
    let e : w % 128 ≡ 0x37 = omega arith in
    let d : rd_of w ≡ rd = omega arith in
    let x : upper_of w ≡ u = omega arith in
    by_opcode w 0x37 e ∙ (rw (d, x) refl)
again (Auipc rd u) h =
    let w : ℕ = encoding (Auipc rd u) in
    let e : w % 128 ≡ 0x17 = omega arith in
    let d : rd_of w ≡ rd = omega arith in
    let x : upper_of w ≡ u = omega arith in
    by_opcode w 0x17 e ∙ (rw (d, x) refl)
again (Jal rd o) h =
    let w : ℕ = encoding (Jal rd o) in
    let a : ℕ = o / 4096 % 256 in
    let e : w % 128 ≡ 0x6f = omega arith in
    let d : rd_of w ≡ rd = omega arith in
    let x1 : w / 2097152 % 1024 ≡ o / 2 % 1024 = omega arith in
    let x2 : w / 1048576 % 2 ≡ o / 2048 % 2 = omega arith in
    let x3 : w / 4096 % 256 ≡ o / 4096 % 256 = omega arith in
    let x4 : w / 2147483648 ≡ o / 1048576 % 2 = omega arith in
    by_opcode w 0x6f e ∙ rw (d, x1, x2, x3, x4, jump_again o h.1 h.2) refl
again (Jalr rd rs1 o) h =
    let w : ℕ = encoding (Jalr rd rs1 o) in
    let f : IsWord w 0x67 rd 0 rs1 (o % 4096) = word_fields 0x67 rd 0 rs1 (o % 4096) (omega arith) h.0 (omega arith) h.1 in
    by_opcode w 0x67 f.opcode ∙ rw (f.funct3, f.rd, f.rs1, f.high, signed_12 o h.2) refl
again (Branch r rs1 rs2 o) h =
    let w : ℕ = encoding (Branch r rs1 rs2 o) in
    let n = relation_again r in
    let low : ℕ = o / 2048 % 2 + 2 * (o / 2 % 16) in
    let high : ℕ = rs2 + 32 * (o / 32 % 64) + 2048 * (o / 4096 % 2) in
    let f : IsWord w 0x63 low (relation_number r) rs1 high = word_fields 0x63 low (relation_number r) rs1 high (omega arith) (omega arith) n.0 h.0 in
    let b : rs2_of w ≡ rs2 = part_low (rs2) (o / 32 % 64 + 64 * (o / 4096 % 2)) w (omega arith) h.1 in
    let x1 : w / 256 % 16 ≡ o / 2 % 16 = omega (arith, f.rd) in
    let x2 : w / 33554432 % 64 ≡ o / 32 % 64 = omega (arith, f.high) in
    let x3 : w / 128 % 2 ≡ o / 2048 % 2 = omega (arith, f.rd) in
    let x4 : w / 2147483648 ≡ o / 4096 % 2 = omega (arith, f.high) in
    by_opcode w 0x63 f.opcode ∙ rw (f.funct3, n.1, f.rs1, b, x1, x2, x3, x4, branch_again o h.2 h.3) refl
again (Load k rd rs1 o) h =
    let w : ℕ = encoding (Load k rd rs1 o) in
    let n = load_again k in
    let f : IsWord w 0x03 rd (load_number k) rs1 (o % 4096) = word_fields 0x03 rd (load_number k) rs1 (o % 4096) (omega arith) h.0 n.0 h.1 in
    by_opcode w 0x03 f.opcode ∙ rw (f.funct3, n.1, f.rd, f.rs1, f.high, signed_12 o h.2) refl
again (Store k rs1 rs2 o) h =
    let w : ℕ = encoding (Store k rs1 rs2 o) in
    let n = store_kind_again k in
    let high : ℕ = rs2 + 32 * (o / 32 % 128) in
    let f : IsWord w 0x23 (o % 32) (store_number k) rs1 high = word_fields 0x23 (o % 32) (store_number k) rs1 high (omega arith) (omega arith) n.0 h.0 in
    let b : rs2_of w ≡ rs2 = part_low rs2 (o / 32 % 128) w (omega arith) h.1 in
    let x1 : w / 33554432 ≡ o / 32 % 128 = omega (arith, f.high) in
    by_opcode w 0x23 f.opcode ∙ rw (f.funct3, n.1, f.rs1, b, f.rd, x1, store_again o h.2) refl
again (Immediate k rd rs1 o) h =
    let w : ℕ = encoding (Immediate k rd rs1 o) in
    let n = immediate_again k in
    let f : IsWord w 0x13 rd (immediate_number k) rs1 (o % 4096) = word_fields 0x13 rd (immediate_number k) rs1 (o % 4096) (omega arith) h.0 n.0 h.1 in
    by_opcode w 0x13 f.opcode ∙ rw (f.funct3, n.1, n.2, f.rd, f.rs1, f.high, signed_12 o h.2) refl
again (Shift k rd rs1 rs2) h =
    let w : ℕ = encoding (Shift k rd rs1 rs2) in
    let n = shift_again k in
    let high : ℕ = rs2 + 32 * (shift_number k / 8) in
    let f : IsWord w 0x13 rd (shift_number k % 8) rs1 high = word_fields 0x13 rd (shift_number k % 8) rs1 high (omega arith) h.0 (omega arith) h.1 in
    let b : rs2_of w ≡ rs2 = part_low rs2 (shift_number k / 8) w (omega arith) h.2 in
    let x : w / 33554432 ≡ shift_number k / 8 = omega (arith, f.high) in
    let y : shift_number k % 8 + 8 * (shift_number k / 8) ≡ shift_number k = omega arith in
    by_opcode w 0x13 f.opcode ∙ rw (f.funct3, n.1, x, y, n.2, f.rd, f.rs1, b) refl
again (Register k rd rs1 rs2) h =
    let w : ℕ = encoding (Register k rd rs1 rs2) in
    let n = register_again k in
    let high : ℕ = rs2 + 32 * (register_number k / 8) in
    let f : IsWord w 0x33 rd (register_number k % 8) rs1 high = word_fields 0x33 rd (register_number k % 8) rs1 high (omega arith) h.0 (omega arith) h.1 in
    let b : rs2_of w ≡ rs2 = part_low rs2 (register_number k / 8) w (omega arith) h.2 in
    let x : w / 33554432 ≡ register_number k / 8 = omega (arith, f.high) in
    let y : register_number k % 8 + 8 * (register_number k / 8) ≡ register_number k = omega arith in
    by_opcode w 0x33 f.opcode ∙ rw (f.funct3, x, y, n.1, f.rd, f.rs1, b) refl
again (Fence rd rs1 o) h =
    let w : ℕ = encoding (Fence rd rs1 o) in
    let f : IsWord w 0x0f rd 0 rs1 (o % 4096) = word_fields 0x0f rd 0 rs1 (o % 4096) (omega arith) h.0 (omega arith) h.1 in
    by_opcode w 0x0f f.opcode ∙ rw (f.funct3, f.rd, f.rs1, f.high, signed_12 o h.2) refl
again Ecall h = by_opcode 0x73 0x73 refl
again Ebreak h = by_opcode 0x100073 0x73 refl

-- which side of a test was taken
chosen : {A : Type 0} (b : Bool) (x y z : A) → cond b x y ≡ z → ((b ≡ true) × (x ≡ z)) ⊎ ((b ≡ false) × (y ≡ z))
chosen true x y z e = inl (refl, e)
chosen false x y z e = inr (refl, e)

-- what holds of each entry of a table holds of what is found there
entry_holds : {A : Type 0} (P : ℕ → A → Type 0) (es : List (ℕ × A)) (n : ℕ) (x : A) → AllByRecursion (λ e. P e.0 e.1) es → entry es n ≡ Some x → P n x
entry_holds P [] n x h e = absurd (cc)
entry_holds P (y ∷ es) n x h e =
    elim (chosen (eqb n y.0) (Some y.1) (entry es n) (Some x) e) [
      | inl q ↦ let m : y.0 ≡ n = sym (eqb-true n y.0 q.0) in let v : y.1 ≡ x = cc in subst (λ k. P k x) m (subst (λ k. P y.0 k) v h.0)
      | inr q ↦ entry_holds P es n x h.1 q.1
    ]

-- where a mapped option or a chain has a value, each part has one
map_some : {A B : Type 0} (f : A → B) (o : Option A) (y : B) → option_map f o ≡ Some y → (x : A) × (o ≡ Some x) × (f x ≡ y)
map_some f None y e = absurd (cc)
map_some f (Some x) y e = (x, refl, cc)

then_some : {A B : Type 0} (f : A → Option B) (o : Option A) (y : B) → option_and_then f o ≡ Some y → (x : A) × (o ≡ Some x) × (f x ≡ Some y)
then_some f None y e = absurd (cc)
then_some f (Some x) y e = (x, refl, e)

-- what is found in a table has this number
relation_found : (n : ℕ) (r : Relation) → entry relations n ≡ Some r → n ≡ relation_number r
relation_found n r = entry_holds (λ n r. n ≡ relation_number r) relations n r (refl, (refl, (refl, (refl, (refl, (refl, tt))))))

load_found : (n : ℕ) (r : LoadKind) → entry loads n ≡ Some r → n ≡ load_number r
load_found n r = entry_holds (λ n r. n ≡ load_number r) loads n r (refl, (refl, (refl, (refl, (refl, tt)))))

store_found : (n : ℕ) (r : StoreKind) → entry stores n ≡ Some r → n ≡ store_number r
store_found n r = entry_holds (λ n r. n ≡ store_number r) stores n r (refl, (refl, (refl, tt)))

immediate_found : (n : ℕ) (r : ImmediateOp) → entry immediate_ops n ≡ Some r → n ≡ immediate_number r
immediate_found n r = entry_holds (λ n r. n ≡ immediate_number r) immediate_ops n r (refl, (refl, (refl, (refl, (refl, (refl, tt))))))

shift_found : (n : ℕ) (r : ShiftOp) → entry shifts n ≡ Some r → n ≡ shift_number r
shift_found n r = entry_holds (λ n r. n ≡ shift_number r) shifts n r (refl, (refl, (refl, tt)))

register_found : (n : ℕ) (r : RegisterOp) → entry register_ops n ≡ Some r → n ≡ register_number r
register_found n r =
    entry_holds (λ n r. n ≡ register_number r) register_ops n r
    (refl, (refl, (refl, (refl, (refl, (refl, (refl, (refl, (refl, (refl, (refl, (refl, (refl, (refl, (refl, (refl, (refl, (refl, tt))))))))))))))))))

abbrev Spells : ℕ → Instr → Type 0
Spells w i = Fits i × (encoding i ≡ w)

-- what at reads in the words of an opcode has these words
abbrev Reads : ℕ → (ℕ → Option Instr) → Type 0
Reads op at = (w : ℕ) → w < 4294967296 → w % 128 ≡ op → (i : Instr) → at w ≡ Some i → Spells w i

-- what is found is the instruction that the word spells
only : (w : ℕ) (i j : Instr) → Spells w i → Some i ≡ Some j → Spells w j
only w i j h e = let q : i ≡ j = cc in subst (λ k. Spells w k) q h

lui : Reads 0x37 (λ w. Some (Lui (rd_of w) (upper_of w)))
lui w h op i e = only w (Lui (rd_of w) (upper_of w)) i ((omega arith, (omega arith, omega arith)), omega arith) e

auipc : Reads 0x17 (λ w. Some (Auipc (rd_of w) (upper_of w)))
auipc w h op i e = only w (Auipc (rd_of w) (upper_of w)) i ((omega arith, (omega arith, omega arith)), omega arith) e

jal : Reads 0x6f (λ w. Some (Jal (rd_of w) (jump_offset_of w)))
jal w h op i e =
    let x : ℕ = 2 * (w / 2097152 % 1024) + 2048 * (w / 1048576 % 2) + 4096 * (w / 4096 % 256) + 1048576 * (w / 2147483648) in
    only w (Jal (rd_of w) (jump_offset_of w)) i
    ((omega arith, signed_21_fits x, omega arith), jump_spelled (signed 1048576 x) w h op (signed_21_low x (omega arith)))
    e

-- a word of a format with an immediate of 12 bits
immediate_spelled : (w op f : ℕ) → w < 4294967296 → w % 128 ≡ op → funct3_of w ≡ f → word op (rd_of w) f (rs1_of w) (immediate_of w % 4096) ≡ w
immediate_spelled w op f h o e =
    let low : immediate_of w % 4096 ≡ w / 1048576 = signed_12_low (w / 1048576) (omega arith) in
    rw (low, ← o, ← e) (word_again w)

jalr : Reads 0x67 jalr_at
jalr w h op i e =
    elim (chosen (eqb (funct3_of w) 0) (Some (Jalr (rd_of w) (rs1_of w) (immediate_of w))) None (Some i) e) [
      | inl q ↦ only w (Jalr (rd_of w) (rs1_of w) (immediate_of w)) i ((omega arith, omega arith, signed_12_fits (w / 1048576)), immediate_spelled w 0x67 0 h op (eqb-true (funct3_of w) 0 q.0)) q.1
      | inr q ↦ absurd (cc)
    ]

fence : Reads 0x0f fence_at
fence w h op i e =
    elim (chosen (eqb (funct3_of w) 0) (Some (Fence (rd_of w) (rs1_of w) (immediate_of w))) None (Some i) e) [
      | inl q ↦ only w (Fence (rd_of w) (rs1_of w) (immediate_of w)) i ((omega arith, omega arith, signed_12_fits (w / 1048576)), immediate_spelled w 0x0f 0 h op (eqb-true (funct3_of w) 0 q.0)) q.1
      | inr q ↦ absurd (cc)
    ]

branch : Reads 0x63 branch_at
branch w h op i e =
    let m = map_some (λ r. Branch r (rs1_of w) (rs2_of w) (branch_offset_of w)) (entry relations (funct3_of w)) i e in
    let n : funct3_of w ≡ relation_number m.0 = relation_found (funct3_of w) m.0 m.1 in
    let x : ℕ = 2 * (w / 256 % 16) + 32 * (w / 33554432 % 64) + 2048 * (w / 128 % 2) + 4096 * (w / 2147483648) in
    let s = branch_spelled (signed 4096 x) w h (signed_13_low x (omega arith)) in
    subst (λ k. Spells w k) m.2 ((omega arith, omega arith, signed_13_fits x, omega arith), rw (← n, s.0, s.1, ← op) (word_again w))

load : Reads 0x03 load_at
load w h op i e =
    let m = map_some (λ k. Load k (rd_of w) (rs1_of w) (immediate_of w)) (entry loads (funct3_of w)) i e in
    let n : funct3_of w ≡ load_number m.0 = load_found (funct3_of w) m.0 m.1 in
    subst (λ k. Spells w k) m.2 ((omega arith, omega arith, signed_12_fits (w / 1048576)), immediate_spelled w 0x03 (load_number m.0) h op n)

store : Reads 0x23 store_at
store w h op i e =
    let m = map_some (λ k. Store k (rs1_of w) (rs2_of w) (store_offset_of w)) (entry stores (funct3_of w)) i e in
    let n : funct3_of w ≡ store_number m.0 = store_found (funct3_of w) m.0 m.1 in
    let x : ℕ = w / 128 % 32 + 32 * (w / 33554432) in
    let s = store_spelled (signed 2048 x) w h (signed_12_low x (omega arith)) in
    subst (λ k. Spells w k) m.2 ((omega arith, omega arith, signed_12_fits x), rw (← n, s.0, s.1, ← op) (word_again w))

shift : Reads 0x13 shift_at
shift w h op i e =
    let m = map_some (λ s. Shift s (rd_of w) (rs1_of w) (rs2_of w)) (entry shifts (funct3_of w + 8 * funct7_of w)) i e in
    let n : funct3_of w + 8 * funct7_of w ≡ shift_number m.0 = shift_found (funct3_of w + 8 * funct7_of w) m.0 m.1 in
    let f : shift_number m.0 % 8 ≡ funct3_of w = omega arith in
    let g : rs2_of w + 32 * (shift_number m.0 / 8) ≡ w / 1048576 = omega arith in
    subst (λ k. Spells w k) m.2 ((omega arith, omega arith, omega arith), rw (f, g, ← op) (word_again w))

immediate : Reads 0x13 immediate_at
immediate w h op i e =
    elim (chosen (eqb (funct3_of w % 4) 1) (shift_at w) (option_map (λ o. Immediate o (rd_of w) (rs1_of w) (immediate_of w)) (entry immediate_ops (funct3_of w))) (Some i) e) [
      | inl q ↦ shift w h op i q.1
      | inr q ↦
          let m = map_some (λ o. Immediate o (rd_of w) (rs1_of w) (immediate_of w)) (entry immediate_ops (funct3_of w)) i q.1 in
          let n : funct3_of w ≡ immediate_number m.0 = immediate_found (funct3_of w) m.0 m.1 in
          subst (λ k. Spells w k) m.2 ((omega arith, omega arith, signed_12_fits (w / 1048576)), immediate_spelled w 0x13 (immediate_number m.0) h op n)
    ]

register : Reads 0x33 register_at
register w h op i e =
    let m = map_some (λ s. Register s (rd_of w) (rs1_of w) (rs2_of w)) (entry register_ops (funct3_of w + 8 * funct7_of w)) i e in
    let n : funct3_of w + 8 * funct7_of w ≡ register_number m.0 = register_found (funct3_of w + 8 * funct7_of w) m.0 m.1 in
    let f : register_number m.0 % 8 ≡ funct3_of w = omega arith in
    let g : rs2_of w + 32 * (register_number m.0 / 8) ≡ w / 1048576 = omega arith in
    subst (λ k. Spells w k) m.2 ((omega arith, omega arith, omega arith), rw (f, g, ← op) (word_again w))

system : Reads 0x73 system_at
system w h op i e =
    elim (chosen (eqb w 0x73) (Some Ecall) (cond (eqb w 0x100073) (Some Ebreak) None) (Some i) e) [
      | inl q ↦ only w Ecall i (tt, sym (eqb-true w 0x73 q.0)) q.1
      | inr q ↦ elim (chosen (eqb w 0x100073) (Some Ebreak) None (Some i) q.1) [
        | inl p ↦ only w Ebreak i (tt, sym (eqb-true w 0x100073 p.0)) p.1
        | inr p ↦ absurd (cc)
      ]
    ]

-- what is decoded fits, and is encoded by this word
pub spelled : (w : ℕ) → w < 4294967296 → (i : Instr) → decoding w ≡ Some i → Fits i × (encoding i ≡ w)
unfolding decoding
spelled w h i e =
    let t = then_some (λ at. at w) (entry opcodes (w % 128)) i e in
    entry_holds Reads opcodes (w % 128) t.0
    (lui, (auipc, (jal, (jalr, (branch, (load, (store, (immediate, (register, (fence, (system, tt)))))))))))
    t.1 w h refl i t.2

-- where nothing is decoded, no instruction has the word
pub missed : (w : ℕ) (o : Option Instr) → o ≡ decoding w → IfNone o ((i : Instr) → Fits i → encoding i ≡ w → ⊥)
missed w (Some j) e = tt
missed w None e = λ i h q. let a = again i h in let b : decoding (encoding i) ≡ decoding w = ap decoding q in cc
