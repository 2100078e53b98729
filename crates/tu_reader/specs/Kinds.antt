-- The operators that single tokens are.
use Rattle.std.specs.Prelude.{Bool, true, false, Option, Some, None}
use Rattle.tu_token.specs.declared.class.Class.{Class}
use Rattle.tu_token.specs.declared.class.Class.TheVariants.{SignEqual, SignNotEqual, SignLess, SignGreater, SignLessOrEqual, SignGreaterOrEqual, WordIn, WordNot}
use Rattle.tu_expr.specs.declared.expr.RelationKind.{RelationKind}
use Rattle.tu_expr.specs.declared.expr.RelationKind.TheVariants.{Equal, NotEqual, Less, Greater, LessOrEqual, GreaterOrEqual, In}

abbrev pub relation_of : Class → Option RelationKind
relation_of SignEqual = Some Equal
relation_of SignNotEqual = Some NotEqual
relation_of SignLess = Some Less
relation_of SignGreater = Some Greater
relation_of SignLessOrEqual = Some LessOrEqual
relation_of SignGreaterOrEqual = Some GreaterOrEqual
relation_of WordIn = Some In
relation_of class = None

abbrev pub begins_relation : Class → Bool
begins_relation SignEqual = true
begins_relation SignNotEqual = true
begins_relation SignLess = true
begins_relation SignGreater = true
begins_relation SignLessOrEqual = true
begins_relation SignGreaterOrEqual = true
begins_relation WordIn = true
begins_relation WordNot = true
begins_relation class = false
