-- The effects of a program, and what is found from them.
use Rattle.std.proofs.Common.{◌≡◌, ◌↔◌, ℕ, Bool, true, List, [], length, map, refl, sym, ◌∙◌, ap, subst, ◌⊎◌}
use Rattle.std.proofs.lemmas.List.{length-map}
use Rattle.std.specs.List.{Contains, flat_map, list_any}
use Rattle.tu_core.specs.declared.names.Variable.TheVariants.{Global, Local}
use Rattle.tu_core.specs.Core.{Program}
use Rattle.tu_core.specs.Acts.{AVariable, ACollection, Act, routine_acts}
use Rattle.tu_core.specs.Effects.{CallsOne, Leads, acts_of, called, changes, reads}
use Rattle.tu_reach.specs.Rows.{HasNumber, IsCaller, RowsOf, row}
use Rattle.tu_reach.specs.Marks.{IsFound, IsMarked}
use Rattle.tu_effects.specs.declared.question.Question.{Question}
use Rattle.tu_effects.specs.declared.question.Question.TheVariants as asks
use Rattle.tu_effects.specs.declared.relations.Effects.{Effects}
use Rattle.tu_effects.specs.Questions.{asked, collection_number, variable_number}
use Rattle.tu_effects.specs.Relations.{AreAnswers, AreCallersIn, FindsChanging, FindsTouching, HasAddedAll, IsEffects, LeadsToAnswer, text_at}
use Rattle.tu_effects.proofs.Asking.{changers, of_collections, of_variables, touchers}
use Rattle.tu_effects.proofs.Leading.{answers_are, changing_are, local_unchanged, local_untouched, talks_are, text_is, touching_are, writes_are}

same_twice : {A B C : Type 0} → A ↔ B → B ↔ C → A ↔ C
same_twice f g = (λ a. g.0 (f.0 a), λ c. f.1 (g.1 c))

module _ (program : Program) (texts : List (List Act)) (are : texts ≡ map routine_acts program.routines) where
  acts_are : (p : ℕ) → text_at texts p ≡ acts_of program p
  acts_are p = ap (λ ts. text_at ts p) are ∙ text_is program.routines p

  pub as_many : length texts ≡ length program.routines
  as_many = ap length are ∙ length-map program.routines routine_acts

  pub answers_of : (question : Question) (rows : RowsOf) → rows.texts ≡ length texts → HasAddedAll [] rows.rows question texts → AreAnswers program question rows
  answers_of question rows n h = (n ∙ as_many, λ k p. subst (λ acts. HasNumber rows.rows k p ↔ Contains (asked question acts) k) (acts_are p) (answers_are question texts rows.rows h k p))

  pub callers_of : (rows : List (List ℕ)) → AreCallersIn texts rows → (p q : ℕ) → IsCaller rows p q ↔ CallsOne program p q
  callers_of rows h p q = subst (λ acts. IsCaller rows p q ↔ Contains (flat_map called acts) q) (acts_are p) (h p q)

  pub leading_of : (rows : List (List ℕ)) (question : Question) (marks : List Bool) → LeadsToAnswer rows texts question marks →
      (p : ℕ) → IsMarked marks p ↔ ((q : ℕ) × Leads (IsCaller rows) p q × Contains (asked question (acts_of program q)) 0)
  leading_of rows question marks h p = (
    λ m. let t = (h p).0 m in (t.0, t.1, subst (λ acts. Contains (asked question acts) 0) (acts_are t.0) t.2),
    λ (q, leads, c). (h p).1 (q, leads, subst (λ acts. Contains (asked question acts) 0) (sym (acts_are q)) c),
  )

  pub effects_are : (e : Effects) → e.callers.texts ≡ length texts → AreCallersIn texts e.callers.rows →
      e.touched_variables.texts ≡ length texts → HasAddedAll [] e.touched_variables.rows asks.TouchesVariable texts →
      e.touched_collections.texts ≡ length texts → HasAddedAll [] e.touched_collections.rows asks.TouchesCollection texts →
      e.changed_variables.texts ≡ length texts → HasAddedAll [] e.changed_variables.rows asks.ChangesVariable texts →
      e.changed_collections.texts ≡ length texts → HasAddedAll [] e.changed_collections.rows asks.ChangesCollection texts →
      LeadsToAnswer e.callers.rows texts asks.ChangesOuter e.writes → LeadsToAnswer e.callers.rows texts asks.Talks e.talks → IsEffects program e
  effects_are e n calls n1 h1 n2 h2 n3 h3 n4 h4 writes talks =
      let are_callers = callers_of e.callers.rows calls in record {
        callers = (n ∙ as_many, are_callers);
        touched_variables = answers_of asks.TouchesVariable e.touched_variables n1 h1;
        touched_collections = answers_of asks.TouchesCollection e.touched_collections n2 h2;
        changed_variables = answers_of asks.ChangesVariable e.changed_variables n3 h3;
        changed_collections = answers_of asks.ChangesCollection e.changed_collections n4 h4;
        writes = writes_are program e.callers.rows are_callers e.writes (leading_of e.callers.rows asks.ChangesOuter e.writes writes);
        talks = talks_are program e.callers.rows are_callers e.talks (leading_of e.callers.rows asks.Talks e.talks talks);
      }

module _ (e : Effects) (texts : List ℕ) (marks : List Bool) (found : IsFound e.callers.rows texts marks) where
  pub finds_touching_variable : (k : ℕ) → texts ≡ row e.touched_variables.rows k → FindsTouching e (AVariable (Global k)) marks
  finds_touching_variable k is program h p =
      touching_are program e.callers.rows h.callers.1 (AVariable (Global k)) texts marks refl
      (λ q. subst (λ ts. Contains ts q ↔ ((list_any (reads (AVariable (Global k))) (acts_of program q) ≡ true) ⊎ (list_any (changes (AVariable (Global k))) (acts_of program q) ≡ true))) (sym is)
      (same_twice (h.touched_variables.1 k q) (touchers variable_number (AVariable (Global k)) k (of_variables k) (acts_of program q)))) found p

  pub finds_touching_collection : (c : ℕ) → texts ≡ row e.touched_collections.rows c → FindsTouching e (ACollection c) marks
  finds_touching_collection c is program h p =
      touching_are program e.callers.rows h.callers.1 (ACollection c) texts marks refl
      (λ q. subst (λ ts. Contains ts q ↔ ((list_any (reads (ACollection c)) (acts_of program q) ≡ true) ⊎ (list_any (changes (ACollection c)) (acts_of program q) ≡ true))) (sym is)
      (same_twice (h.touched_collections.1 c q) (touchers collection_number (ACollection c) c (of_collections c) (acts_of program q)))) found p

  pub finds_changing_variable : (k : ℕ) → texts ≡ row e.changed_variables.rows k → FindsChanging e (AVariable (Global k)) marks
  finds_changing_variable k is program h p =
      changing_are program e.callers.rows h.callers.1 (AVariable (Global k)) texts marks refl
      (λ q. subst (λ ts. Contains ts q ↔ (list_any (changes (AVariable (Global k))) (acts_of program q) ≡ true)) (sym is)
      (same_twice (h.changed_variables.1 k q) (changers variable_number (AVariable (Global k)) k (of_variables k) (acts_of program q)))) found p

  pub finds_changing_collection : (c : ℕ) → texts ≡ row e.changed_collections.rows c → FindsChanging e (ACollection c) marks
  finds_changing_collection c is program h p =
      changing_are program e.callers.rows h.callers.1 (ACollection c) texts marks refl
      (λ q. subst (λ ts. Contains ts q ↔ (list_any (changes (ACollection c)) (acts_of program q) ≡ true)) (sym is)
      (same_twice (h.changed_collections.1 c q) (changers collection_number (ACollection c) c (of_collections c) (acts_of program q)))) found p

  pub finds_touching_local : (k : ℕ) → texts ≡ [] → FindsTouching e (AVariable (Local k)) marks
  finds_touching_local k is program h p = local_untouched program e.callers.rows h.callers.1 k marks (subst (λ ts. IsFound e.callers.rows ts marks) is found) p

  pub finds_changing_local : (k : ℕ) → texts ≡ [] → FindsChanging e (AVariable (Local k)) marks
  finds_changing_local k is program h p = local_unchanged program e.callers.rows h.callers.1 k marks (subst (λ ts. IsFound e.callers.rows ts marks) is found) p
