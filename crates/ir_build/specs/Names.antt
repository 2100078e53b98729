-- Variables by their names, in a table that keeps their order.
use Rattle.std.specs.Prelude.{ℕ, List, [], ◌∷◌, length, refl}
use Rattle.std.specs.Coded.{Coded, code_by, coded×, coded_ℕ, coded_list}
use Rattle.ir_build.specs.Keeps.{Named}

abbrev pub coded_named : Coded Named
coded_named = code_by (List ℕ × (ℕ × ℕ)) (coded× (coded_list coded_ℕ) (coded× coded_ℕ coded_ℕ)) (λ n. (n.name, (n.word, n.at))) (λ p. record { name = p.0; word = p.1.0; at = p.1.1 }) (λ _. refl)

abbrev pub coded_names : Coded (List Named)
coded_names = coded_list coded_named

-- entries of names and values, from the oldest on, before those that are there, the newest first
abbrev pub newest : {K : Type 0} → (K → List ℕ) → List Named → List (K × ℕ) → List Named
newest name names [] = names
newest name names (e ∷ more) = newest name (record { name = name e.0; word = length names; at = e.1 } ∷ names) more
