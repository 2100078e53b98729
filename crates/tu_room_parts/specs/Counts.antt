-- What is counted, as measures of texts whose sums are cut off.
use Rattle.std.specs.Prelude.{ℕ, ◌+◌, ◌*◌, List, Some, None, slice_get}
use Rattle.tu_base.specs.Shapes.{set_words}
use Rattle.tu_core.specs.Core.{Text, Written, UseText, Joined, Cut, Character, IntText, Repeat, CallText, Set, SetOf, FullSet, UseSet, Combined, CallSet, Path, Name, OpenItem, Element, ResultOf, Call, Calls}
use Rattle.tu_core.specs.Measures.{Measure}
use Rattle.tu_core.specs.Nodes.{scalar_nodes, text_nodes, set_nodes, pointer_nodes, spot_nodes, path_nodes, taken_nodes, plain_nodes, declaration_nodes, statement_nodes, text_count, cut_count, set_count}
use Rattle.tu_core.specs.Rooms.{above_two, longest_text}
use Rattle.tu_room_parts.specs.declared.count.Count.{Count}
use Rattle.tu_room_parts.specs.declared.count.Count.TheVariants.{Nodes, Results}
use Rattle.tu_room_parts.specs.Capped.{capped}

-- the words of a call's result, where those of the routines' results are known
abbrev pub known_result : (known : List ℕ) → Call → ℕ
known_result known (Calls at callee invariant actuals) = elim (slice_get known callee) [ None ↦ 0 | Some words ↦ words ]

abbrev pub known_text : (known : List ℕ) → Text → ℕ
known_text known (Written n bytes) = 0
known_text known (UseText n p) = 0
known_text known (Joined n e more) = longest_text * text_count more
known_text known (Cut n e cuts) = longest_text * cut_count cuts
known_text known (Character n e) = longest_text
known_text known (IntText n e width) = longest_text
known_text known (Repeat n e k) = longest_text
known_text known (CallText n call) = known_result known call

abbrev pub known_set : (known : List ℕ) → Set → ℕ
known_set known (SetOf n base es) = above_two (set_words base.members)
known_set known (FullSet n base) = above_two (set_words base.members)
known_set known (UseSet n p) = 0
known_set known (Combined n base e more) = above_two (set_words base.members) * set_count more
known_set known (CallSet n call) = known_result known call

abbrev pub known_path : (known : List ℕ) → Path → ℕ
known_path known (Name at x steps) = 0
known_path known (OpenItem at x indexes es steps) = 0
known_path known (Element at c e steps) = 0
known_path known (ResultOf at k call steps) = known_result known call

-- a number where nodes are counted
abbrev pub where_nodes : Count → ℕ → ℕ
where_nodes Nodes n = capped n
where_nodes (Results known) n = 0

abbrev pub text_count_of : Count → Text → ℕ
text_count_of Nodes e = capped (text_nodes e)
text_count_of (Results known) e = capped (known_text known e)

abbrev pub set_count_of : Count → Set → ℕ
set_count_of Nodes e = capped (set_nodes e)
set_count_of (Results known) e = capped (known_set known e)

abbrev pub path_count_of : Count → Path → ℕ
path_count_of Nodes p = capped (path_nodes p)
path_count_of (Results known) p = capped (known_path known p)

abbrev pub counting : Count → Measure ℕ
counting count = record { none = 0; plus = λ a b. capped (a + b); scalar = λ e. where_nodes count (scalar_nodes e); link = where_nodes count 1; text = text_count_of count; set = set_count_of count; pointer = λ e. where_nodes count (pointer_nodes e); spot = λ i. where_nodes count (spot_nodes i); path = path_count_of count; selector = where_nodes count 1; actual = λ a. 0; call = λ c. 0; parts = where_nodes count 1; taken = λ t. where_nodes count (taken_nodes t); test = where_nodes count 1; plain = λ s. where_nodes count (plain_nodes s); declaration = λ d. where_nodes count (declaration_nodes d); statement = λ s. where_nodes count (statement_nodes s); binding = λ at is_var p. where_nodes count 1; arm = where_nodes count 1 }
