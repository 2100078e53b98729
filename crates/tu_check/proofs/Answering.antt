-- A source is accepted as one tree or refused for one reason.
use Rattle.std.proofs.Common.{◌≡◌, ℕ, ◌<◌, ◌≤◌, Bool, true, false, List, length, refl, ap, ◌∙◌, sym, subst, arith, inl, inr, ◌⊎◌}
use Rattle.std.specs.Prelude.{Option, Some, None, nat_le}
use Rattle.tu_token.specs.declared.fault.LexError.{LexError}
use Rattle.tu_check.specs.declared.refusal.Refusal.{Refusal}
use Rattle.tu_check.specs.declared.refusal.Refusal.TheVariants.{Size, Lexical, Syntax, Scope, Types}
use Rattle.tu_check.specs.declared.refusal.TypeError.TheVariants.{NotBuilt}
use Rattle.tu_token.specs.Lexemes.{IsLexed}
use Rattle.tu_token.specs.LexFaults.{HasNoFault, IsLexFault}
use Rattle.tu_token.specs.Rules.{r-program}
use Rattle.tu_token.specs.Syntax.{Of, Spells, IsPlaced, IsSyntaxFault}
use Rattle.tu_token.specs.TokenList.{TokenList}
use Rattle.tu_parse.specs.Parsing.{line_at, IsTreeOf}
use Rattle.tu_scope_rules.specs.declared.error.ScopeError.{ScopeError}
use Rattle.tu_scope.specs.Scoped.{scope_error}
use Rattle.tu_check.specs.Built.{unbuilt_program}
use Rattle.tu_check.specs.Refusals.{HasTokens, HasTree, IsAccepted, HasSyntaxFault, HasScopeFault, HasUnbuilt, IsRefused}

-- what the crates below know of tokens and trees
pub record Known : Type 0 where
  pub tokens : (source : List ℕ) (a b : TokenList) → IsLexed source a → IsLexed source b → a ≡ b
  pub fault : (source : List ℕ) (a b : LexError) → IsLexFault source a → IsLexFault source b → a ≡ b
  pub tree : (tokens : TokenList) (x y : Of r-program) → Spells x tokens → IsPlaced x tokens → Spells y tokens → IsPlaced y tokens → x ≡ y
  pub place : (tokens : TokenList) (j k : ℕ) → IsSyntaxFault tokens j → IsSyntaxFault tokens k → j ≡ k
  pub no_tree : (tokens : TokenList) (k : ℕ) (x : Of r-program) → IsSyntaxFault tokens k → Spells x tokens → ⊥

-- why a source is refused
pub data Why (source : List ℕ) : Refusal → Type 0 where
  TooLarge : 1048576 < length source → Why source Size
  BadLexeme : (error : LexError) → length source ≤ 1048576 → IsLexFault source error → Why source (Lexical error)
  NoTree : (line : ℕ) → HasSyntaxFault source line → Why source (Syntax line)
  NoScope : (error : ScopeError) → HasScopeFault source error → Why source (Scope error)
  Unbuilt : (line : ℕ) → HasUnbuilt source line → Why source (Types (NotBuilt line))

pub why : (source : List ℕ) (refusal : Refusal) → IsRefused source refusal → Why source refusal
why source Size h = TooLarge h
why source (Lexical error) h = BadLexeme error h.0 h.1
why source (Syntax line) h = NoTree line h
why source (Scope error) h = NoScope error h
why source (Types (NotBuilt line)) h = Unbuilt line h
why source other h = absurd h

same_tokens : (known : Known) (source : List ℕ) (a b : TokenList) → HasTokens source a → HasTokens source b → a ≡ b
same_tokens known source a b x y = known.tokens source a b x.lexed y.lexed

same_tree : (known : Known) (source : List ℕ) (a b : Of r-program) → HasTree source a → HasTree source b → a ≡ b
same_tree known source a b x y =
    let e : x.tokens ≡ y.tokens = same_tokens known source x.tokens y.tokens x.spelled y.spelled in
    let p : IsTreeOf y.tokens a = subst (λ t. IsTreeOf t a) e x.parsed in
    known.tree y.tokens a b p.spelled p.placed y.parsed.spelled y.parsed.placed

fault_or_tree : (known : Known) (source : List ℕ) (line : ℕ) (tree : Of r-program) → HasSyntaxFault source line → HasTree source tree → ⊥
fault_or_tree known source line tree x y =
    let e : x.tokens ≡ y.tokens = same_tokens known source x.tokens y.tokens x.spelled y.spelled in
    known.no_tree y.tokens x.place tree (subst (λ t. IsSyntaxFault t x.place) e x.fault) y.parsed.spelled

same_line : (known : Known) (source : List ℕ) (a b : ℕ) → HasSyntaxFault source a → HasSyntaxFault source b → a ≡ b
same_line known source a b x y =
    let e : x.tokens ≡ y.tokens = same_tokens known source x.tokens y.tokens x.spelled y.spelled in
    let k : x.place ≡ y.place = known.place y.tokens x.place y.place (subst (λ t. IsSyntaxFault t x.place) e x.fault) y.fault in
    x.line_is ∙ (ap (λ t. line_at t x.place) e ∙ (ap (λ p. line_at y.tokens p) k ∙ sym y.line_is))

some_same : {A : Type 0} (a b : A) → ◌≡◌ {A = Option A} (Some a) (Some b) → a ≡ b
some_same a b e = cc

none_or_some : {A : Type 0} (a : A) → ◌≡◌ {A = Option A} None (Some a) → ⊥
none_or_some a e = absurd (cc)

same_scope : (known : Known) (source : List ℕ) (a b : ScopeError) → HasScopeFault source a → HasScopeFault source b → a ≡ b
same_scope known source a b x y =
    let e : x.tree ≡ y.tree = same_tree known source x.tree y.tree x.read y.read in
    some_same a b (sym x.found ∙ (ap scope_error e ∙ y.found))

-- a tree with a fault of names and one without are not of one source
scoped_or_not : (known : Known) (source : List ℕ) (error : ScopeError) (tree : Of r-program) → HasScopeFault source error → HasTree source tree → scope_error tree ≡ None → ⊥
scoped_or_not known source error tree x read scoped =
    let e : tree ≡ x.tree = same_tree known source tree x.tree read x.read in
    none_or_some error (sym scoped ∙ (ap scope_error e ∙ x.found))

same_unbuilt : (known : Known) (source : List ℕ) (a b : ℕ) → HasUnbuilt source a → HasUnbuilt source b → a ≡ b
same_unbuilt known source a b x y =
    let e : x.tree ≡ y.tree = same_tree known source x.tree y.tree x.read y.read in
    some_same a b (sym x.found ∙ (ap unbuilt_program e ∙ y.found))

built_or_not : (known : Known) (source : List ℕ) (line : ℕ) (tree : Of r-program) → HasUnbuilt source line → IsAccepted source tree → ⊥
built_or_not known source line tree x y =
    let e : x.tree ≡ tree = same_tree known source x.tree tree x.read y.read in
    let b : ◌≡◌ {A = Option ℕ} (Some line) None = sym x.found ∙ (ap unbuilt_program e ∙ y.built) in
    absurd (cc)

clean : (source : List ℕ) (error : LexError) → IsLexFault source error → HasNoFault source → ⊥
clean source error x none = none x.kind x.place x.fault

pub accepted_once : (known : Known) (source : List ℕ) (a b : Of r-program) → IsAccepted source a → IsAccepted source b → a ≡ b
accepted_once known source a b x y = same_tree known source a b x.read y.read

pub never_both : (known : Known) (source : List ℕ) (tree : Of r-program) (refusal : Refusal) → IsAccepted source tree → IsRefused source refusal → ⊥
never_both known source tree refusal x h = by refusal (why source refusal h) where
  by : (r : Refusal) → Why source r → ⊥
  by r (TooLarge h) = let s = x.read.spelled.size in absurd (omega arith)
  by r (BadLexeme error size h) = clean source error h x.read.spelled.no_fault
  by r (NoTree line h) = fault_or_tree known source line tree h x.read
  by r (NoScope error h) = scoped_or_not known source error tree h x.read x.scoped
  by r (Unbuilt line h) = built_or_not known source line tree h x

pub refused_once : (known : Known) (source : List ℕ) (a b : Refusal) → IsRefused source a → IsRefused source b → a ≡ b
refused_once known source a b h i = by a b (why source a h) (why source b i) where
  by : (a b : Refusal) → Why source a → Why source b → a ≡ b
  by a b (TooLarge h) (TooLarge i) = refl
  by a b (TooLarge h) (BadLexeme error size i) = absurd (omega arith)
  by a b (TooLarge h) (NoTree line i) = let s = i.spelled.size in absurd (omega arith)
  by a b (TooLarge h) (NoScope error i) = let s = i.read.spelled.size in absurd (omega arith)
  by a b (TooLarge h) (Unbuilt line i) = let s = i.read.spelled.size in absurd (omega arith)
  by a b (BadLexeme error size h) (TooLarge i) = absurd (omega arith)
  by a b (BadLexeme error size h) (BadLexeme other more i) = ap (λ e. Lexical e) (known.fault source error other h i)
  by a b (BadLexeme error size h) (NoTree line i) = absurd (clean source error h i.spelled.no_fault)
  by a b (BadLexeme error size h) (NoScope other i) = absurd (clean source error h i.read.spelled.no_fault)
  by a b (BadLexeme error size h) (Unbuilt line i) = absurd (clean source error h i.read.spelled.no_fault)
  by a b (NoTree line h) (TooLarge i) = let s = h.spelled.size in absurd (omega arith)
  by a b (NoTree line h) (BadLexeme error size i) = absurd (clean source error i h.spelled.no_fault)
  by a b (NoTree line h) (NoTree other i) = ap (λ l. Syntax l) (same_line known source line other h i)
  by a b (NoTree line h) (NoScope error i) = absurd (fault_or_tree known source line i.tree h i.read)
  by a b (NoTree line h) (Unbuilt other i) = absurd (fault_or_tree known source line i.tree h i.read)
  by a b (NoScope error h) (TooLarge i) = let s = h.read.spelled.size in absurd (omega arith)
  by a b (NoScope error h) (BadLexeme other size i) = absurd (clean source other i h.read.spelled.no_fault)
  by a b (NoScope error h) (NoTree line i) = absurd (fault_or_tree known source line h.tree i h.read)
  by a b (NoScope error h) (NoScope other i) = ap (λ e. Scope e) (same_scope known source error other h i)
  by a b (NoScope error h) (Unbuilt line i) = absurd (scoped_or_not known source error i.tree h i.read i.scoped)
  by a b (Unbuilt line h) (TooLarge i) = let s = h.read.spelled.size in absurd (omega arith)
  by a b (Unbuilt line h) (BadLexeme error size i) = absurd (clean source error i h.read.spelled.no_fault)
  by a b (Unbuilt line h) (NoTree other i) = absurd (fault_or_tree known source other h.tree i h.read)
  by a b (Unbuilt line h) (NoScope error i) = absurd (scoped_or_not known source error h.tree i h.read h.scoped)
  by a b (Unbuilt line h) (Unbuilt other i) = ap (λ l. Types (NotBuilt l)) (same_unbuilt known source line other h i)

-- what the crates below know of every source and of all tokens
pub record Total : Type 0 where
  pub lexed : (source : List ℕ) → ((tokens : TokenList) × IsLexed source tokens × HasNoFault source) ⊎ ((error : LexError) × IsLexFault source error)
  pub parsed : (tokens : TokenList) → ((x : Of r-program) × Spells x tokens × IsPlaced x tokens) ⊎ ((k : ℕ) × IsSyntaxFault tokens k)

abbrev Either : List ℕ → Type 0
Either source = ((tree : Of r-program) × IsAccepted source tree) ⊎ ((refusal : Refusal) × IsRefused source refusal)

pub either_way : (total : Total) (source : List ℕ) → Either source
either_way total source = by_size (nat_le (length source) 1048576) refl where
  small : (n : ℕ) → nat_le n 1048576 ≡ true → n ≤ 1048576
  small n e = grind arith

  large : (n : ℕ) → nat_le n 1048576 ≡ false → 1048576 < n
  large n e = grind arith

  by_form : (tree : Of r-program) → HasTree source tree → scope_error tree ≡ None → (o : Option ℕ) → unbuilt_program tree ≡ o → Either source
  by_form tree read scoped None e = inl (tree, record { read = read; scoped = scoped; built = e })
  by_form tree read scoped (Some line) e = inr (Types (NotBuilt line), record { tree = tree; read = read; scoped = scoped; found = e })

  by_names : (tree : Of r-program) → HasTree source tree → (o : Option ScopeError) → scope_error tree ≡ o → Either source
  by_names tree read None e = by_form tree read e (unbuilt_program tree) refl
  by_names tree read (Some error) e = inr (Scope error, record { tree = tree; read = read; found = e })

  by_tree : (tokens : TokenList) → HasTokens source tokens → ((x : Of r-program) × Spells x tokens × IsPlaced x tokens) ⊎ ((k : ℕ) × IsSyntaxFault tokens k) → Either source
  by_tree tokens has (inl t) = by_names t.0 (record { tokens = tokens; spelled = has; parsed = record { spelled = t.1; placed = t.2 } }) (scope_error t.0) refl
  by_tree tokens has (inr f) = inr (Syntax (line_at tokens f.0), record { tokens = tokens; spelled = has; place = f.0; fault = f.1; line_is = refl })

  by_tokens : length source ≤ 1048576 → ((tokens : TokenList) × IsLexed source tokens × HasNoFault source) ⊎ ((error : LexError) × IsLexFault source error) → Either source
  by_tokens size (inl t) = by_tree t.0 (record { size = size; no_fault = t.2; lexed = t.1 }) (total.parsed t.0)
  by_tokens size (inr f) = inr (Lexical f.0, (size, f.1))

  by_size : (b : Bool) → nat_le (length source) 1048576 ≡ b → Either source
  by_size true e = by_tokens (small (length source) e) (total.lexed source)
  by_size false e = inr (Size, large (length source) e)
