-- The routines of the run time that put what a program puts.
use Rattle.std.specs.Prelude.{List, [], ◌∷◌, ◌++◌}
use Rattle.rv_isa.specs.declared.instr.RegisterOp.TheVariants.{Add, Sub, Divu, Remu}
use Rattle.rv_isa.specs.declared.instr.Relation.TheVariants.{Equal, LessUnsigned}
use Rattle.rv_isa.specs.declared.service.Service.TheVariants.{PutConsole}
use Rattle.ir_form.specs.declared.plain.Width.TheVariants.{Byte}
use Rattle.ir_form.specs.declared.op.Op.{Op}
use Rattle.ir_form.specs.declared.unit.Routine.{Routine}
use Rattle.ir_code.specs.Pieces.{constant, frame, compute, store, ask}
use Rattle.tu_value.specs.Pieces.{fixed_code, fixed_from, number_code}
use Rattle.rt_stream.specs.Pieces.{branch, cycle_of, leave_with}

-- The values of the routine that puts an int: 0 is the word of the int and 1 the width, 2 is `0`, 3 the address where the text ends, 4 is 10, 5 is 1,
-- 6 is 0, 7 is 2^31, 8 is `-`, 9 a blank, 10 the number, which is negative where it is not below 2^31, and 12 the magnitude.
abbrev pub magnitude_op : Op
magnitude_op = branch LessUnsigned 10 7 [] (10 ∷ []) (compute 11 Sub 6 10 ∷ []) (11 ∷ []) (12 ∷ [])

-- The last digit of 13 is stored before the address 14. Where no digits are left the round is the last one.
abbrev pub digit_ops : List Op
digit_ops =
    compute 15 Remu 13 4 ∷ compute 16 Add 15 2 ∷ compute 17 Sub 14 5 ∷ store Byte 17 16 ∷ compute 18 Divu 13 4
    ∷ branch Equal 18 6 (leave_with 17 ∷ []) [] [] [] [] ∷ []

-- 19 is where the digits begin
abbrev pub digits_op : Op
digits_op = cycle_of (12 ∷ 3 ∷ []) (13 ∷ 14 ∷ []) digit_ops (18 ∷ 17 ∷ []) (19 ∷ [])

-- 21 is where the digits and their sign begin
abbrev pub sign_op : Op
sign_op = branch LessUnsigned 10 7 [] (19 ∷ []) (compute 20 Sub 19 5 ∷ store Byte 20 8 ∷ []) (20 ∷ []) (21 ∷ [])

-- 22 is where a text of the width begins. A blank is stored before the address 23, until that is not above it.
abbrev pub blank_ops : List Op
blank_ops = branch LessUnsigned 22 23 [] [] (leave_with 23 ∷ []) [] [] ∷ compute 24 Sub 23 5 ∷ store Byte 24 9 ∷ []

-- 25 is where the whole text begins
abbrev pub blanks_op : Op
blanks_op = cycle_of (21 ∷ []) (23 ∷ []) blank_ops (24 ∷ []) (25 ∷ [])

-- what lies from there to the end is put
abbrev pub text_ops : List Op
text_ops = compute 26 Sub 3 25 ∷ ask 27 (PutConsole 25 26) ∷ []

-- the values up to the number
abbrev pub value_ops : List Op
value_ops = constant 2 48 ∷ frame 3 64 ∷ constant 4 10 ∷ constant 5 1 ∷ (fixed_code 6 ++ constant 8 45 ∷ constant 9 32 ∷ number_code (fixed_from 6) 0 10)

-- what is done with the number
abbrev pub number_ops : List Op
number_ops = magnitude_op ∷ digits_op ∷ sign_op ∷ compute 22 Sub 3 1 ∷ blanks_op ∷ text_ops

abbrev pub put_int_ops : List Op
put_int_ops = value_ops ++ number_ops

-- an int in decimal with blanks before it up to a width, whose text ends where the last word of the frame begins
abbrev pub put_int_routine : Routine
put_int_routine = record { body = record { parameters = 0 ∷ 1 ∷ []; ops = put_int_ops; results = [] }; results = 0; room = 128; words = 65; depth = 1 }

abbrev pub put_line_ops : List Op
put_line_ops = frame 0 0 ∷ constant 1 10 ∷ store Byte 0 1 ∷ constant 2 1 ∷ ask 3 (PutConsole 0 2) ∷ []

-- the end of a line
abbrev pub put_line_routine : Routine
put_line_routine = record { body = record { parameters = []; ops = put_line_ops; results = [] }; results = 0; room = 40; words = 1; depth = 1 }
