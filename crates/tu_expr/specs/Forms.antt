-- The forms of expressions by their names: a node's mark first, and then its parts as they stand in the text, with the signs and
-- words between them, which a definition passes over.
use Rattle.grammar.specs.Description.{Description}
use Rattle.grammar.specs.Tree.{Mark, n-empty, n-sequence, n-left, n-right, n-none, n-more, n-rule}
use Rattle.tu_token.specs.declared.class.Class.TheVariants.{Name, Number, Text, SignLessOrEqual, SignGreaterOrEqual, SignRange, SignNotEqual, SignPlus, SignMinus, SignStar, SignLess, SignGreater, SignEqual, SignLeftBracket, SignRightBracket, SignDot, WordAll, WordDiv, WordFalse, WordIn, WordMod, WordNil, WordNot, WordTrue}
use Rattle.tu_token.specs.Rules.{Rule, ◌⨟◌, many, maybe, t, listed, r-expr, r-or, r-and, r-not, r-compare, r-relation, r-sum, r-term, r-prefix, r-power, r-primary, r-path, r-arg, r-place}
use Rattle.tu_token.specs.Syntax.{Of}
use Rattle.tu_expr.specs.Parts.{Part, further}
use Rattle.tu_expr.specs.Views.{implied, ored, anded, raised, related, signs, signed, multiplied, bracketed, steps}

-- what may be there: it is, or it is not
pattern abbrev pub Present : {d : Description Rule} → Part d → Part (maybe d)
Present x = n-left x

pattern abbrev pub Absent : {d : Description Rule} → Part (maybe d)
Absent = n-right n-empty

-- what is there any number of times: one and more of it, or no more
pattern abbrev pub More : {d : Description Rule} → Part d → Part (many d) → Part (many d)
More x more = n-more x more

pattern abbrev pub NoMore : {d : Description Rule} → Part (many d)
NoMore = n-none

-- what stands behind a sign or a word
pattern abbrev pub Behind : {a b : Description Rule} → Part a → Part b → Part (a ⨟ b)
Behind word x = n-sequence word x

-- the first of some, and the others with commas before them
pattern abbrev pub Listed : {n : Rule} → Of n → Part (many (further n)) → Part (listed n)
Listed first more = n-sequence first more

-- the levels of operators
pattern abbrev pub Expr : Mark → Of r-or → Part (many implied) → Of r-expr
Expr m first more = n-rule m (n-sequence first more)

pattern abbrev pub Or : Mark → Of r-and → Part (many ored) → Of r-or
Or m first more = n-rule m (n-sequence first more)

pattern abbrev pub And : Mark → Of r-not → Part (many anded) → Of r-and
And m first more = n-rule m (n-sequence first more)

pattern abbrev pub Not : Mark → Part (many (t WordNot)) → Of r-compare → Of r-not
Not m nots compare = n-rule m (n-sequence nots compare)

pattern abbrev pub Compare : Mark → Of r-sum → Part (many related) → Of r-compare
Compare m first more = n-rule m (n-sequence first more)

pattern abbrev pub Sum : Mark → Of r-term → Part (many signed) → Of r-sum
Sum m first more = n-rule m (n-sequence first more)

pattern abbrev pub Term : Mark → Of r-prefix → Part (many multiplied) → Of r-term
Term m first more = n-rule m (n-sequence first more)

pattern abbrev pub Prefix : Mark → Part (many signs) → Of r-power → Of r-prefix
Prefix m before power = n-rule m (n-sequence before power)

pattern abbrev pub Power : Mark → Of r-primary → Part (many raised) → Of r-power
Power m first more = n-rule m (n-sequence first more)

-- a sum behind its relation, and the relations
pattern abbrev pub Related : Of r-relation → Of r-sum → Part related
Related relation x = n-sequence relation x

pattern abbrev pub Equal : Mark → Part (t SignEqual) → Of r-relation
Equal m word = n-rule m (n-left word)

pattern abbrev pub NotEqual : Mark → Part (t SignNotEqual) → Of r-relation
NotEqual m word = n-rule m (n-right (n-left word))

pattern abbrev pub Less : Mark → Part (t SignLess) → Of r-relation
Less m word = n-rule m (n-right (n-right (n-left word)))

pattern abbrev pub Greater : Mark → Part (t SignGreater) → Of r-relation
Greater m word = n-rule m (n-right (n-right (n-right (n-left word))))

pattern abbrev pub LessOrEqual : Mark → Part (t SignLessOrEqual) → Of r-relation
LessOrEqual m word = n-rule m (n-right (n-right (n-right (n-right (n-left word)))))

pattern abbrev pub GreaterOrEqual : Mark → Part (t SignGreaterOrEqual) → Of r-relation
GreaterOrEqual m word = n-rule m (n-right (n-right (n-right (n-right (n-right (n-left word))))))

pattern abbrev pub In : Mark → Part (t WordIn) → Of r-relation
In m word = n-rule m (n-right (n-right (n-right (n-right (n-right (n-right (n-left word)))))))

pattern abbrev pub NotIn : Mark → Part (t WordNot) → Part (t WordIn) → Of r-relation
NotIn m word next = n-rule m (n-right (n-right (n-right (n-right (n-right (n-right (n-right (n-sequence word next))))))))

-- a term behind its sign
pattern abbrev pub Added : Part (t SignPlus) → Of r-term → Part signed
Added sign x = n-sequence (n-left sign) x

pattern abbrev pub Subtracted : Part (t SignMinus) → Of r-term → Part signed
Subtracted sign x = n-sequence (n-right sign) x

-- a factor behind its operator
pattern abbrev pub Multiplied : Part (t SignStar) → Of r-prefix → Part multiplied
Multiplied sign x = n-sequence (n-left sign) x

pattern abbrev pub Divided : Part (t WordDiv) → Of r-prefix → Part multiplied
Divided word x = n-sequence (n-right (n-left word)) x

pattern abbrev pub Reduced : Part (t WordMod) → Of r-prefix → Part multiplied
Reduced word x = n-sequence (n-right (n-right word)) x

-- the signs before a power
pattern abbrev pub Plus : Part (t SignPlus) → Part signs
Plus sign = n-left sign

pattern abbrev pub Minus : Part (t SignMinus) → Part signs
Minus sign = n-right sign

-- what stands between operators
pattern abbrev pub NumberValue : Mark → Part (t Number) → Of r-primary
NumberValue m number = n-rule m (n-left number)

pattern abbrev pub TrueValue : Mark → Part (t WordTrue) → Of r-primary
TrueValue m word = n-rule m (n-right (n-left word))

pattern abbrev pub FalseValue : Mark → Part (t WordFalse) → Of r-primary
FalseValue m word = n-rule m (n-right (n-right (n-left word)))

pattern abbrev pub PathValue : Mark → Of r-path → Of r-primary
PathValue m path = n-rule m (n-right (n-right (n-right (n-left path))))

pattern abbrev pub Brackets : Mark → Part (t SignLeftBracket) → Of r-expr → Part (t SignRightBracket) → Of r-primary
Brackets m left inner right = n-rule m (n-right (n-right (n-right (n-right (n-left (n-sequence left (n-sequence inner right)))))))

pattern abbrev pub TextValue : Mark → Part (t Text) → Part (many bracketed) → Of r-primary
TextValue m text parts = n-rule m (n-right (n-right (n-right (n-right (n-right (n-left (n-sequence text parts)))))))

pattern abbrev pub NilValue : Mark → Part (t WordNil) → Part (t SignLeftBracket) → Of r-path → Part (t SignRightBracket) → Of r-primary
NilValue m word left path right = n-rule m (n-right (n-right (n-right (n-right (n-right (n-right (n-sequence word (n-sequence left (n-sequence path right)))))))))

-- a part of a text literal
pattern abbrev pub Bracketed : Part (t SignLeftBracket) → Of r-arg → Part (t SignRightBracket) → Part bracketed
Bracketed left x right = n-sequence left (n-sequence x right)

-- a path, and its steps
pattern abbrev pub Path : Mark → Part (t Name) → Part (many steps) → Of r-path
Path m root more = n-rule m (n-sequence root more)

pattern abbrev pub FieldStep : Part (t SignDot) → Part (t Name) → Part steps
FieldStep dot name = n-left (n-sequence dot name)

pattern abbrev pub ArgumentStep : Part (t SignLeftBracket) → Part (maybe (listed r-arg)) → Part (t SignRightBracket) → Part steps
ArgumentStep left args right = n-right (n-sequence left (n-sequence args right))

-- what stands in brackets
pattern abbrev pub OneArg : Mark → Of r-place → Of r-arg
OneArg m place = n-rule m (n-left (n-sequence place (n-right n-empty)))

pattern abbrev pub PartArg : Mark → Of r-place → Part (t SignRange) → Of r-place → Of r-arg
PartArg m from sign to = n-rule m (n-left (n-sequence from (n-left (n-sequence sign to))))

pattern abbrev pub AllArg : Mark → Part (t WordAll) → Of r-arg
AllArg m word = n-rule m (n-right word)

pattern abbrev pub ValuePlace : Mark → Of r-expr → Of r-place
ValuePlace m value = n-rule m (n-left value)

pattern abbrev pub LengthPlace : Mark → Part (t SignStar) → Of r-place
LengthPlace m star = n-rule m (n-right (n-sequence star (n-right n-empty)))

pattern abbrev pub LengthLessPlace : Mark → Part (t SignStar) → Part (t SignMinus) → Of r-term → Of r-place
LengthLessPlace m star minus term = n-rule m (n-right (n-sequence star (n-left (n-sequence minus term))))
