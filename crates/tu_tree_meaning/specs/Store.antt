-- The store of the copying meaning: values by the names of variables, and no addresses.
use Rattle.std.specs.Prelude.{if◌then◌else◌}
use Rattle.std.specs.Str.{bytes_eq}
use Rattle.tu_tree_meaning.specs.Values.{Value, Unset, Variable, Root, Global, Place}

-- what a program needs of a store
pub record Passing (S : Type 0) : Type 0 where
  pub fetch : S → Place → Value
  pub assign : S → Place → Value → S
  -- a declaration makes a variable with the unset value of its type
  pub declare : S → Variable → Value → S

-- the value of each variable of the program
pub record Store : Type 0 where
  pub globals : Variable → Value

-- the variables of a program are there from the start, unset
abbrev pub unset_store : Store
unset_store = record { globals = λ x. Unset }

-- the value at a root
abbrev pub fetch_root : Store → Root → Value
fetch_root s (Global x) = s.globals x

-- the store with another value at a root
abbrev pub assign_root : Store → Root → Value → Store
assign_root s (Global x) v = record s { globals = λ y. if bytes_eq y x then v else s.globals y }

-- values are copied, and nothing shares them
abbrev pub by_copying : Passing Store
by_copying = record {
  fetch = λ s place. fetch_root s place.root;
  assign = λ s place v. assign_root s place.root v;
  declare = λ s x v. assign_root s (Global x) v;
}
