-- Words are one command at most.
use Rattle.std.proofs.Common.{◌≡◌, ◌≢◌, ℕ, true, false, ◌||◌, List, [], ◌∷◌, ◌++◌, refl, ap, sym, ◌∙◌, subst, arith}
use Rattle.std.specs.Prelude.{codes, None}
use Rattle.tu_run.specs.declared.report.Report.{Report}
use Rattle.tu_run.specs.declared.report.Status.{Status}
use Rattle.tu_run.specs.declared.report.Status.TheVariants.{Ended, Usage, NoteFault}
use Rattle.tu_run.specs.Outside.{Outside}
use Rattle.tu_run.specs.Answer.{Answers, AnswersAny, AnswersRun, AnswersCheck, AnswersBuild, AnswersExec, is_of_run, is_of_source, is_of_image, is_of_files}
use Rattle.tu_run.specs.Command.{IsBudget, SaysBudget, IsRun, IsCheck, IsBuild, IsExec, IsUsage, value_behind}

one_budget : (word : List ℕ) (n m : ℕ) → IsBudget word n → IsBudget word m → n ≡ m
one_budget word n m a b =
    let e : codes "budget=" ++ a.digits ≡ codes "budget=" ++ b.digits = sym a.spelled ∙ b.spelled in
    let same : a.digits ≡ b.digits = cc e in
    sym a.value ∙ (ap (value_behind 0) same ∙ b.value)

says_one : (more : List (List ℕ)) (n m : ℕ) → SaysBudget more n → SaysBudget more m → n ≡ m
says_one [] n m a b = a ∙ sym b
says_one (word ∷ []) n m a b = one_budget word n m a b
says_one (word ∷ (next ∷ more)) n m a b = absurd a

pub one_run : (words : List (List ℕ)) (file other : List ℕ) (n m : ℕ) → IsRun words file n → IsRun words other m → (file ≡ other) × (n ≡ m)
one_run words file other n m a b =
    let e : codes "run" ∷ (file ∷ a.more) ≡ codes "run" ∷ (other ∷ b.more) = sym a.spelled ∙ b.spelled in
    let more : a.more ≡ b.more = cc e in
    (cc e, says_one b.more n m (subst (λ x. SaysBudget x n) more a.budgeted) b.budgeted)

pub one_exec : (words : List (List ℕ)) (file other : List ℕ) (n m : ℕ) → IsExec words file n → IsExec words other m → (file ≡ other) × (n ≡ m)
one_exec words file other n m a b =
    let e : codes "exec" ∷ (file ∷ a.more) ≡ codes "exec" ∷ (other ∷ b.more) = sym a.spelled ∙ b.spelled in
    let more : a.more ≡ b.more = cc e in
    (cc e, says_one b.more n m (subst (λ x. SaysBudget x n) more a.budgeted) b.budgeted)

pub one_build : (words : List (List ℕ)) (file other image name : List ℕ) → IsBuild words file image → IsBuild words other name → (file ≡ other) × (image ≡ name)
one_build words file other image name a b =
    let e : codes "build" ∷ (file ∷ (image ∷ [])) ≡ codes "build" ∷ (other ∷ (name ∷ [])) = sym a.spelled ∙ b.spelled in
    (cc e, cc e)

pub no_run_build : (words : List (List ℕ)) (file other image : List ℕ) (n : ℕ) → IsRun words file n → IsBuild words other image → ⊥
no_run_build words file other image n a b = let e : codes "run" ∷ (file ∷ a.more) ≡ codes "build" ∷ (other ∷ (image ∷ [])) = sym a.spelled ∙ b.spelled in cc e

pub no_run_exec : (words : List (List ℕ)) (file image : List ℕ) (n m : ℕ) → IsRun words file n → IsExec words image m → ⊥
no_run_exec words file image n m a b = let e : codes "run" ∷ (file ∷ a.more) ≡ codes "exec" ∷ (image ∷ b.more) = sym a.spelled ∙ b.spelled in cc e

pub no_build_exec : (words : List (List ℕ)) (file image name : List ℕ) (m : ℕ) → IsBuild words file image → IsExec words name m → ⊥
no_build_exec words file image name m a b = let e : codes "build" ∷ (file ∷ (image ∷ [])) ≡ codes "exec" ∷ (name ∷ b.more) = sym a.spelled ∙ b.spelled in cc e

pub one_check : (words : List (List ℕ)) (file other : List ℕ) → IsCheck words file → IsCheck words other → file ≡ other
one_check words file other a b =
    let e : codes "check" ∷ (file ∷ []) ≡ codes "check" ∷ (other ∷ []) = sym a.spelled ∙ b.spelled in
    cc e

pub no_run_check : (words : List (List ℕ)) (file other : List ℕ) (n : ℕ) → IsRun words file n → IsCheck words other → ⊥
no_run_check words file other n a b = let e : codes "run" ∷ (file ∷ a.more) ≡ codes "check" ∷ (other ∷ []) = sym a.spelled ∙ b.spelled in cc e

pub no_check_build : (words : List (List ℕ)) (file other image : List ℕ) → IsCheck words file → IsBuild words other image → ⊥
no_check_build words file other image a b = let e : codes "check" ∷ (file ∷ []) ≡ codes "build" ∷ (other ∷ (image ∷ [])) = sym a.spelled ∙ b.spelled in cc e

pub no_check_exec : (words : List (List ℕ)) (file image : List ℕ) (m : ℕ) → IsCheck words file → IsExec words image m → ⊥
no_check_exec words file image m a b = let e : codes "check" ∷ (file ∷ []) ≡ codes "exec" ∷ (image ∷ b.more) = sym a.spelled ∙ b.spelled in cc e

run_kind : (status other : Status) → (is_of_run other || is_of_source other) ≡ false → (is_of_run status || is_of_source status) ≡ true → status ≢ other
run_kind status other off on e = let f : (is_of_run status || is_of_source status) ≡ false = ap (λ s. is_of_run s || is_of_source s) e ∙ off in cc (on, f)

exec_kind : (status other : Status) → (is_of_run other || is_of_image other) ≡ false → (is_of_run status || is_of_image status) ≡ true → status ≢ other
exec_kind status other off on e = let f : (is_of_run status || is_of_image status) ≡ false = ap (λ s. is_of_run s || is_of_image s) e ∙ off in cc (on, f)

build_kind : (status other : Status) → other ≢ Ended → (is_of_source other || is_of_files other) ≡ false → (status ≢ Ended → (is_of_source status || is_of_files status) ≡ true) → status ≢ other
build_kind status other apart off on e =
    let s : (is_of_source status || is_of_files status) ≡ true = on (λ q. apart (sym e ∙ q)) in
    let f : (is_of_source status || is_of_files status) ≡ false = ap (λ s. is_of_source s || is_of_files s) e ∙ off in
    cc (s, f)

pub run_is_reached : (file : List ℕ) (budget : ℕ) (before after : Outside) (report : Report) → AnswersRun file budget before after report → report.status ≢ NoteFault
run_is_reached file budget before after report a = run_kind report.status NoteFault refl a.kind

pub build_is_reached : (file name : List ℕ) (before after : Outside) (report : Report) → AnswersBuild file name before after report → report.status ≢ NoteFault
build_is_reached file name before after report a = build_kind report.status NoteFault (λ e. cc e) refl a.kind

pub check_is_reached : (file : List ℕ) (before after : Outside) (report : Report) → AnswersCheck file before after report → report.status ≢ NoteFault
check_is_reached file before after report a = build_kind report.status NoteFault (λ e. cc e) refl a.kind

pub exec_is_reached : (image : List ℕ) (budget : ℕ) (before after : Outside) (report : Report) → AnswersExec image budget before after report → report.status ≢ NoteFault
exec_is_reached image budget before after report a = exec_kind report.status NoteFault refl a.kind

pub run_is_answered : (words : List (List ℕ)) (file : List ℕ) (budget : ℕ) (before after : Outside) (report : Report) → IsRun words file budget → AnswersRun file budget before after report → AnswersAny before after report → Answers words before after report
run_is_answered words file budget before after report is a any = record {
  usage = λ e. absurd (run_kind report.status Usage refl a.kind e);
  is_usage = λ u. absurd (u.no_run file budget is);
  run = λ other n r. let o = one_run words file other budget n is r in subst (λ m. AnswersRun other m before after report) o.1 (subst (λ f. AnswersRun f budget before after report) o.0 a);
  check = λ other k. absurd (no_run_check words file other budget is k);
  build = λ other image b. absurd (no_run_build words file other image budget is b);
  exec = λ image n x. absurd (no_run_exec words file image budget n is x);
  any = any;
}

pub check_is_answered : (words : List (List ℕ)) (file : List ℕ) (before after : Outside) (report : Report) → IsCheck words file → AnswersCheck file before after report → AnswersAny before after report → Answers words before after report
check_is_answered words file before after report is a any = record {
  usage = λ e. absurd (build_kind report.status Usage (λ q. cc q) refl a.kind e);
  is_usage = λ u. absurd (u.no_check file is);
  run = λ other n r. absurd (no_run_check words other file n r is);
  check = λ other k. subst (λ f. AnswersCheck f before after report) (one_check words file other is k) a;
  build = λ other image b. absurd (no_check_build words file other image is b);
  exec = λ image n x. absurd (no_check_exec words file image n is x);
  any = any;
}

pub build_is_answered : (words : List (List ℕ)) (file name : List ℕ) (before after : Outside) (report : Report) → IsBuild words file name → AnswersBuild file name before after report → AnswersAny before after report → Answers words before after report
build_is_answered words file name before after report is a any = record {
  usage = λ e. absurd (build_kind report.status Usage (λ q. cc q) refl a.kind e);
  is_usage = λ u. absurd (u.no_build file name is);
  run = λ other n r. absurd (no_run_build words other file name n r is);
  check = λ other k. absurd (no_check_build words other file name k is);
  build = λ other image b. let o = one_build words file other name image is b in subst (λ i. AnswersBuild other i before after report) o.1 (subst (λ f. AnswersBuild f name before after report) o.0 a);
  exec = λ image n x. absurd (no_build_exec words file name image n is x);
  any = any;
}

pub exec_is_answered : (words : List (List ℕ)) (image : List ℕ) (budget : ℕ) (before after : Outside) (report : Report) → IsExec words image budget → AnswersExec image budget before after report → AnswersAny before after report → Answers words before after report
exec_is_answered words image budget before after report is a any = record {
  usage = λ e. absurd (exec_kind report.status Usage refl a.kind e);
  is_usage = λ u. absurd (u.no_exec image budget is);
  run = λ other n r. absurd (no_run_exec words other image n budget r is);
  check = λ other k. absurd (no_check_exec words other image budget k is);
  build = λ other name b. absurd (no_build_exec words other name image budget b is);
  exec = λ other n x. let o = one_exec words image other budget n is x in subst (λ m. AnswersExec other m before after report) o.1 (subst (λ f. AnswersExec f budget before after report) o.0 a);
  any = any;
}

pub usage_is_answered : (words : List (List ℕ)) (before : Outside) → IsUsage words → Answers words before before (record { status = Usage; image = None; instructions = 0 })
usage_is_answered words before u = record {
  usage = λ _. u;
  is_usage = λ _. record { is = refl; untouched = record { left = refl; events = refl; files = refl; none = refl } };
  run = λ other n r. absurd (u.no_run other n r);
  check = λ other k. absurd (u.no_check other k);
  build = λ other name b. absurd (u.no_build other name b);
  exec = λ other n x. absurd (u.no_exec other n x);
  any = record {
    none_made = λ _. refl;
    console_fault = λ e. absurd (cc e);
    cabinet_fault = λ e. absurd (cc e);
    later = (omega arith, omega arith);
  };
}
