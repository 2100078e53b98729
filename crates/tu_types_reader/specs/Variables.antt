-- What stands behind the names of variables.
use Rattle.grammar.specs.Description.{Description, rule}
use Rattle.grammar.specs.Tree.{n-token, n-sequence, n-left, n-right}
use Rattle.tu_token.specs.declared.class.Class.TheVariants.{SignAssign, SignColon, WordCollection, WordOf}
use Rattle.tu_token.specs.Rules.{Rule, ◌⨟◌, ◌∣◌, t, maybe, r-expr, r-spec, r-start}
use Rattle.tu_expr.specs.Parts.{Part}
use Rattle.tu_tree.specs.declared.declaration.VarForm.{VarForm}
use Rattle.tu_tree.specs.declared.declaration.VarForm.TheVariants as var
use Rattle.tu_tree.specs.DeclarationViews.{started_view}

abbrev pub variables : Description Rule
variables = t SignColon ⨟ (t WordCollection ⨟ t WordOf ⨟ rule r-spec ∣ rule r-spec ⨟ maybe (t SignAssign ⨟ rule r-start)) ∣ t SignAssign ⨟ rule r-expr

abbrev pub variables_view : VarForm → Part variables
variables_view (var.Collection spec) = n-left (n-sequence n-token (n-left (n-sequence n-token (n-sequence n-token spec))))
variables_view (var.Typed spec start) = n-left (n-sequence n-token (n-right (n-sequence spec (started_view start))))
variables_view (var.Started value) = n-right (n-sequence n-token value)
