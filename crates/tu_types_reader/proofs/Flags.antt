-- A word or sign that may be there, and the forms of variables.
use Rattle.std.proofs.Common.{◌≡◌, Bool, true, false, refl}
use Rattle.grammar.specs.Tree.{n-token, n-sequence}
use Rattle.tu_token.specs.declared.class.Class.{Class}
use Rattle.tu_token.specs.Rules.{t, maybe, r-names}
use Rattle.tu_token.specs.Syntax.{Of}
use Rattle.tu_tree.specs.declared.declaration.VarForm.{VarForm}
use Rattle.tu_tree.specs.declared.declaration.VarForm.TheVariants as var
use Rattle.tu_tree.specs.DeclarationViews.{var_view}
use Rattle.tu_tree.specs.Parts.{flag}
use Rattle.tu_reader.specs.Ahead.{Ahead}
use Rattle.tu_reader.specs.Reads.{Takes, Eats}
use Rattle.tu_types_reader.specs.Variables.{variables_view}
use Rattle.tu_reader.proofs.Steps.{left_takes, none_takes}

pub flag_takes : (c : Class) (z : Bool) {i j : Ahead} → Eats c z i j → Takes (maybe (t c)) i (flag c z) j
flag_takes c true p = left_takes refl p.1
flag_takes c false p = none_takes p.0 p.1

pub variable_is : (names : Of r-names) (form : VarForm) → var_view names form ≡ n-sequence n-token (n-sequence names (variables_view form))
variable_is names (var.Collection spec) = refl
variable_is names (var.Typed spec start) = refl
variable_is names (var.Started value) = refl
