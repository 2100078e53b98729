-- Relations by their first tokens.
use Rattle.std.proofs.Common.{◌≡◌, Some, None, subst}
use Rattle.grammar.specs.Tree.{n-token, n-sequence}
use Rattle.tu_token.specs.declared.class.Class.{Class}
use Rattle.tu_token.specs.declared.class.Class.TheVariants.{SignEqual, SignNotEqual, SignLess, SignGreater, SignLessOrEqual, SignGreaterOrEqual, WordIn, WordNot}
use Rattle.tu_token.specs.Rules.{◌⨟◌, t, body, r-relation}
use Rattle.tu_expr.specs.declared.expr.RelationKind.{RelationKind}
use Rattle.tu_expr.specs.declared.expr.RelationKind.TheVariants.{NotIn}
use Rattle.tu_expr.specs.Views.{relation_view}
use Rattle.tu_reader.specs.Ahead.{Ahead}
use Rattle.tu_reader.specs.Kinds.{relation_of}
use Rattle.tu_reader.specs.Reads.{Takes, Stops}
use Rattle.tu_reader.specs.declared.stop.Stop.{Stop}
use Rattle.tu_reader.proofs.Choices.{IsAt, choice_takes, choice_stops}

no_kind : {A : Type 0} {k : RelationKind} → Some k ≡ None → A
no_kind e = absurd (cc)

no_single : {A : Type 0} {k : RelationKind} → None ≡ Some k → A
no_single e = absurd (cc)

module _ {i j : Ahead} where
  as_kind : {k l : RelationKind} → Some k ≡ Some l → Takes (body r-relation) i (relation_view l) j → Takes (body r-relation) i (relation_view k) j
  as_kind {k = k} {l = l} e p = let same : l ≡ k = cc in let T : RelationKind → Type 0 = λ z. Takes (body r-relation) i (relation_view z) j in subst T same p

  pub relation_takes : (c : Class) {k : RelationKind} → Some k ≡ relation_of c → IsAt c i → Takes (t c) i n-token j → Takes (body r-relation) i (relation_view k) j
  relation_takes SignEqual h at p = as_kind h (choice_takes at (body r-relation) n-token p)
  relation_takes SignNotEqual h at p = as_kind h (choice_takes at (body r-relation) n-token p)
  relation_takes SignLess h at p = as_kind h (choice_takes at (body r-relation) n-token p)
  relation_takes SignGreater h at p = as_kind h (choice_takes at (body r-relation) n-token p)
  relation_takes SignLessOrEqual h at p = as_kind h (choice_takes at (body r-relation) n-token p)
  relation_takes SignGreaterOrEqual h at p = as_kind h (choice_takes at (body r-relation) n-token p)
  relation_takes WordIn h at p = as_kind h (choice_takes at (body r-relation) n-token p)
  relation_takes c h at p = no_kind h

  pub relation_stops : (c : Class) {e : Stop} → None ≡ relation_of c → IsAt c i → Stops (t WordNot ⨟ t WordIn) i e j → Stops (body r-relation) i e j
  relation_stops SignEqual h at p = no_single h
  relation_stops SignNotEqual h at p = no_single h
  relation_stops SignLess h at p = no_single h
  relation_stops SignGreater h at p = no_single h
  relation_stops SignLessOrEqual h at p = no_single h
  relation_stops SignGreaterOrEqual h at p = no_single h
  relation_stops WordIn h at p = no_single h
  relation_stops c h at p = choice_stops at (body r-relation) p

  pub not_in_takes : (c : Class) → None ≡ relation_of c → IsAt c i → Takes (t WordNot ⨟ t WordIn) i (n-sequence n-token n-token) j → Takes (body r-relation) i (relation_view NotIn) j
  not_in_takes SignEqual h at p = no_single h
  not_in_takes SignNotEqual h at p = no_single h
  not_in_takes SignLess h at p = no_single h
  not_in_takes SignGreater h at p = no_single h
  not_in_takes SignLessOrEqual h at p = no_single h
  not_in_takes SignGreaterOrEqual h at p = no_single h
  not_in_takes WordIn h at p = no_single h
  not_in_takes c h at p = choice_takes at (body r-relation) (n-sequence n-token n-token) p
