-- The grammar, its trees and the tokens, as one place to name them from.
pub use Rattle.tu_token.specs.Rules.{Rule, r-program, r-item, r-block, r-const, r-var, r-type, r-names, r-start, r-bind, r-binding, r-spec, r-index, r-base, r-range, r-name, r-field, r-variant, r-subprogram, r-head, r-formals, r-formal, r-rest, r-given, r-import, r-imp, r-export, r-exp, r-module, r-statement, r-shown, r-taken, r-expr, r-or, r-and, r-not, r-compare, r-relation, r-sum, r-term, r-prefix, r-power, r-primary, r-path, r-arg, r-place, r-pre, r-givens, r-post, r-invariant, r-ending, r-elsif, r-arm, r-any, ◌⨟◌, ◌∣◌, many, maybe, t, listed, body}
pub use Rattle.tu_token.specs.Syntax.{Of, coded_of, Spells, IsPlaced, IsSyntaxFault}
pub use Rattle.tu_token.specs.Table.{table}
pub use Rattle.tu_token.specs.TokenList.{TokenList}
pub use Rattle.tu_expr.specs.Parts.{Part, further, mark_of, text_of, start_of, line_of}
