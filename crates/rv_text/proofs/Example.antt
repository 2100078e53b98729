-- What is asked of linear code can be met: a main program that calls a deeper routine, and a jump over a label.
use Rattle.std.proofs.Common.{◌≡◌, ◌≢◌, ℕ, ◌<◌, [], ◌∷◌, false, refl, arith}
use Rattle.std.specs.Prelude.{Contains}
use Rattle.std.proofs.lemmas.List.Elements.{All-from_recursion}
use Rattle.ir_form.specs.declared.plain.Plain.TheVariants.{Constant, Call}
use Rattle.ir_form.specs.Lawful.{IsThere, IsSound}
use Rattle.rv_flat.specs.declared.linear.Instruction.TheVariants.{Plain, Jump, Label, Back}
use Rattle.rv_flat.specs.declared.linear.LinearRoutine.{LinearRoutine}
use Rattle.rv_flat.specs.declared.linear.Linear.{Linear}
use Rattle.rv_flat.specs.Lawful.{depths_of}
use Rattle.rv_flat.specs.Parts.{code_plains, linear_numbers, linear_marks, times, IsDistinct, IsUnguardedInstruction, IsUnguardedCode, IsUnguarded}
use Rattle.rv_flat.specs.Units.{head_of}
use Rattle.rv_layout.specs.Ready.{InSlot, IsSmall, IsReadyRoutine}
use Rattle.rv_text.specs.Ready.{IsReady}

abbrev main : LinearRoutine
main = record { parameters = []; code = Plain (Constant 1 5) ∷ Plain (Call 1 (1 ∷ []) (3 ∷ []) 7) ∷ Jump 0 ∷ Label 0 false ∷ Back [] ∷ []; room = 64; words = 2; depth = 0 }

abbrev callee : LinearRoutine
callee = record { parameters = 1 ∷ []; code = Back (1 ∷ []) ∷ []; room = 64; words = 0; depth = 1 }

abbrev program : Linear
program = record { globals = 1; main = 0; routines = main ∷ callee ∷ []; texts = 7 ∷ [] }

first_of : Contains {X = ℕ} (1 ∷ 3 ∷ []) 1
first_of = (0, omega arith, refl)

second_of : Contains {X = ℕ} (1 ∷ 3 ∷ []) 3
second_of = (1, omega arith, refl)

sound_main : IsSound 1 1 (depths_of program.routines) (head_of main) (code_plains main.code) (linear_numbers main) (linear_marks main)
sound_main = record {
  depth = omega arith;
  small = λ n. absurd (n refl);
  there = All-from_recursion (IsThere 1 1 (depths_of program.routines) 2 0) (code_plains main.code) (tt, (tt, tt));
  values = 1 ∷ 3 ∷ [];
  known = All-from_recursion (Contains {X = ℕ} (1 ∷ 3 ∷ [])) (linear_numbers main) (first_of, (first_of, (second_of, tt)));
  marks = [];
  marked = All-from_recursion (Contains {X = ℕ} []) [] tt;
  few = omega arith;
}

sound_callee : IsSound 1 1 (depths_of program.routines) (head_of callee) (code_plains callee.code) (linear_numbers callee) (linear_marks callee)
sound_callee = record {
  depth = omega arith;
  small = λ n. omega arith;
  there = All-from_recursion (IsThere 1 1 (depths_of program.routines) 0 1) [] tt;
  values = 1 ∷ 3 ∷ [];
  known = All-from_recursion (Contains {X = ℕ} (1 ∷ 3 ∷ [])) (linear_numbers callee) (first_of, (first_of, tt));
  marks = [];
  marked = All-from_recursion (Contains {X = ℕ} []) [] tt;
  few = omega arith;
}

unguarded : IsUnguarded program
unguarded = All-from_recursion (λ (r : LinearRoutine). IsUnguardedCode r.code) program.routines (All-from_recursion IsUnguardedInstruction main.code (tt, (tt, (tt, (tt, (tt, tt))))), (All-from_recursion IsUnguardedInstruction callee.code (tt, tt), tt))

ready_main : IsReadyRoutine main
ready_main = record {
  labels = record { once = All-from_recursion (λ l. times l main.code ≡ 1) (0 ∷ []) (refl, tt); there = All-from_recursion (λ l. times l main.code ≡ 1) (0 ∷ []) (refl, tt) };
  slots = All-from_recursion (InSlot (head_of main)) (linear_numbers main) (record { odd = refl; room = omega arith }, (record { odd = refl; room = omega arith }, (record { odd = refl; room = omega arith }, tt)));
  once = record { parameters = tt; taken = All-from_recursion IsDistinct ((3 ∷ []) ∷ []) ((All-from_recursion (λ y. y ≢ 3) [] tt, tt), tt) };
  small = All-from_recursion IsSmall main.code (omega arith, (omega arith, (tt, (tt, (tt, tt)))));
}

ready_callee : IsReadyRoutine callee
ready_callee = record {
  labels = record { once = All-from_recursion (λ l. times l callee.code ≡ 1) [] tt; there = All-from_recursion (λ l. times l callee.code ≡ 1) [] tt };
  slots = All-from_recursion (InSlot (head_of callee)) (linear_numbers callee) (record { odd = refl; room = omega arith }, (record { odd = refl; room = omega arith }, tt));
  once = record { parameters = (All-from_recursion (λ y. y ≢ 1) [] tt, tt); taken = All-from_recursion IsDistinct [] tt };
  small = All-from_recursion IsSmall callee.code (tt, tt);
}

ready : IsReady program
ready = record {
  code = record {
    sound = record {
      globals = omega arith;
      main = record { depth = refl; room = omega arith; parameters = refl };
      routines = All-from_recursion (λ r. IsSound 1 1 (depths_of program.routines) (head_of r) (code_plains r.code) (linear_numbers r) (linear_marks r)) program.routines (sound_main, (sound_callee, tt));
    };
    unguarded = unguarded;
    routines = All-from_recursion IsReadyRoutine program.routines (ready_main, (ready_callee, tt));
  };
  texts = All-from_recursion (λ b. b < 256) program.texts (omega arith, tt);
  size = omega arith;
}
