-- How acts are stored, which tells a proof that different ones are not equal.
use Rattle.std.specs.Prelude.{◌≡◌}
use Rattle.std.proofs.Common.{ap, arith}
use Rattle.std.specs.Coded.{Coded, coded_bool, coded_list, coded_ℕ}
use base.Stored.{Gv, gnil, gnum, gcons}
use Rattle.tu_core.specs.contracts.names.At as at_type
use Rattle.tu_core.specs.contracts.names.Variable as variable_type
use Rattle.tu_core.specs.Acts.{Subject, AVariable, ACollection, Act, Reading, Changing, Naming, Talking, Calling, Binding, Declaring, Defining, Fixing}
use Rattle.tu_core_expressions.specs.Stored.{head, tail, tags}
use Rattle.tu_core_expressions.specs.ExpressionCodes.{coded_call, coded_path}
use Rattle.tu_core_types.specs.StatementCodes.{coded_named}

abbrev pub subject_code : Subject → Gv
subject_code (AVariable a0) = gcons (gnum 0) (gcons (variable_type.the_row.coded.code a0) gnil)
subject_code (ACollection a0) = gcons (gnum 1) (gcons (coded_ℕ.code a0) gnil)

pub subject_inj : (x y : Subject) → subject_code x ≡ subject_code y → x ≡ y
subject_inj (AVariable a0) (AVariable b0) p = λ i. AVariable (variable_type.the_row.coded.inj a0 b0 (ap (λ g. head (tail g)) p) i)
subject_inj (AVariable a0) other p = absurd (omega (arith, tags p))
subject_inj (ACollection a0) (ACollection b0) p = λ i. ACollection (coded_ℕ.inj a0 b0 (ap (λ g. head (tail g)) p) i)
subject_inj (ACollection a0) other p = absurd (omega (arith, tags p))

abbrev pub coded_subject : Coded Subject
coded_subject = record { code = subject_code; inj = subject_inj }

abbrev pub act_code : Act → Gv
act_code (Reading a0 a1) = gcons (gnum 0) (gcons (at_type.the_row.coded.code a0) (gcons (coded_subject.code a1) gnil))
act_code (Changing a0 a1) = gcons (gnum 1) (gcons (at_type.the_row.coded.code a0) (gcons (coded_subject.code a1) gnil))
act_code (Naming a0 a1) = gcons (gnum 2) (gcons (at_type.the_row.coded.code a0) (gcons (coded_subject.code a1) gnil))
act_code (Talking a0) = gcons (gnum 3) (gcons (at_type.the_row.coded.code a0) gnil)
act_code (Calling a0) = gcons (gnum 4) (gcons (coded_call.code a0) gnil)
act_code (Binding a0 a1 a2 a3 a4) = gcons (gnum 5) (gcons (at_type.the_row.coded.code a0) (gcons (coded_ℕ.code a1) (gcons (coded_bool.code a2) (gcons (coded_path.code a3) (gcons (coded_ℕ.code a4) gnil)))))
act_code (Declaring a0 a1) = gcons (gnum 6) (gcons (at_type.the_row.coded.code a0) (gcons (variable_type.the_row.coded.code a1) gnil))
act_code (Defining a0 a1) = gcons (gnum 7) (gcons (at_type.the_row.coded.code a0) (gcons (coded_named.code a1) gnil))
act_code (Fixing a0 a1) = gcons (gnum 8) (gcons ((coded_list coded_subject).code a0) (gcons (coded_ℕ.code a1) gnil))

pub act_inj : (x y : Act) → act_code x ≡ act_code y → x ≡ y
act_inj (Reading a0 a1) (Reading b0 b1) p = λ i. Reading (at_type.the_row.coded.inj a0 b0 (ap (λ g. head (tail g)) p) i) (coded_subject.inj a1 b1 (ap (λ g. head (tail (tail g))) p) i)
act_inj (Reading a0 a1) other p = absurd (omega (arith, tags p))
act_inj (Changing a0 a1) (Changing b0 b1) p = λ i. Changing (at_type.the_row.coded.inj a0 b0 (ap (λ g. head (tail g)) p) i) (coded_subject.inj a1 b1 (ap (λ g. head (tail (tail g))) p) i)
act_inj (Changing a0 a1) other p = absurd (omega (arith, tags p))
act_inj (Naming a0 a1) (Naming b0 b1) p = λ i. Naming (at_type.the_row.coded.inj a0 b0 (ap (λ g. head (tail g)) p) i) (coded_subject.inj a1 b1 (ap (λ g. head (tail (tail g))) p) i)
act_inj (Naming a0 a1) other p = absurd (omega (arith, tags p))
act_inj (Talking a0) (Talking b0) p = λ i. Talking (at_type.the_row.coded.inj a0 b0 (ap (λ g. head (tail g)) p) i)
act_inj (Talking a0) other p = absurd (omega (arith, tags p))
act_inj (Calling a0) (Calling b0) p = λ i. Calling (coded_call.inj a0 b0 (ap (λ g. head (tail g)) p) i)
act_inj (Calling a0) other p = absurd (omega (arith, tags p))
act_inj (Binding a0 a1 a2 a3 a4) (Binding b0 b1 b2 b3 b4) p = λ i. Binding (at_type.the_row.coded.inj a0 b0 (ap (λ g. head (tail g)) p) i) (coded_ℕ.inj a1 b1 (ap (λ g. head (tail (tail g))) p) i) (coded_bool.inj a2 b2 (ap (λ g. head (tail (tail (tail g)))) p) i) (coded_path.inj a3 b3 (ap (λ g. head (tail (tail (tail (tail g))))) p) i) (coded_ℕ.inj a4 b4 (ap (λ g. head (tail (tail (tail (tail (tail g)))))) p) i)
act_inj (Binding a0 a1 a2 a3 a4) other p = absurd (omega (arith, tags p))
act_inj (Declaring a0 a1) (Declaring b0 b1) p = λ i. Declaring (at_type.the_row.coded.inj a0 b0 (ap (λ g. head (tail g)) p) i) (variable_type.the_row.coded.inj a1 b1 (ap (λ g. head (tail (tail g))) p) i)
act_inj (Declaring a0 a1) other p = absurd (omega (arith, tags p))
act_inj (Defining a0 a1) (Defining b0 b1) p = λ i. Defining (at_type.the_row.coded.inj a0 b0 (ap (λ g. head (tail g)) p) i) (coded_named.inj a1 b1 (ap (λ g. head (tail (tail g))) p) i)
act_inj (Defining a0 a1) other p = absurd (omega (arith, tags p))
act_inj (Fixing a0 a1) (Fixing b0 b1) p = λ i. Fixing ((coded_list coded_subject).inj a0 b0 (ap (λ g. head (tail g)) p) i) (coded_ℕ.inj a1 b1 (ap (λ g. head (tail (tail g))) p) i)
act_inj (Fixing a0 a1) other p = absurd (omega (arith, tags p))

abbrev pub coded_act : Coded Act
coded_act = record { code = act_code; inj = act_inj }
