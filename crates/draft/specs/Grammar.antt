-- Which token may follow which.
use Rattle.std.specs.Prelude.{Bool, true, false, Some, None, Option}
use Rattle.lexis.specs.declared.token.Kind.{Kind}
use Rattle.lexis.specs.declared.token.Kind.TheVariants.{Name, Variable, Integer, Float, Text, Open, Close, Comma, Dot, Neck, Query, End}
use Rattle.draft.specs.declared.grammar.Due.{Due}
use Rattle.draft.specs.declared.grammar.Due.TheVariants.{Head, Goal, GoalOrDot, Argument, NameEnd, TermEnd, Nothing}

-- a goal begins with its name
abbrev pub goal_begins : Kind → Option Due
goal_begins Name = Some NameEnd
goal_begins Variable = None
goal_begins Integer = None
goal_begins Float = None
goal_begins Text = None
goal_begins Open = None
goal_begins Close = None
goal_begins Comma = None
goal_begins Dot = None
goal_begins Neck = None
goal_begins Query = None
goal_begins End = None

abbrev pub term_begins : Kind → Option Due
term_begins Name = Some NameEnd
term_begins Variable = Some TermEnd
term_begins Integer = Some TermEnd
term_begins Float = Some TermEnd
term_begins Text = Some TermEnd
term_begins Open = None
term_begins Close = None
term_begins Comma = None
term_begins Dot = None
term_begins Neck = None
term_begins Query = None
term_begins End = None

-- inside brackets a term is followed by a comma or the closing bracket
abbrev pub inside_ends : Kind → Option Due
inside_ends Comma = Some Argument
inside_ends Close = Some TermEnd
inside_ends Name = None
inside_ends Variable = None
inside_ends Integer = None
inside_ends Float = None
inside_ends Text = None
inside_ends Open = None
inside_ends Dot = None
inside_ends Neck = None
inside_ends Query = None
inside_ends End = None

-- a body goal is followed by a comma or the dot
abbrev pub body_ends : Kind → Option Due
body_ends Comma = Some Goal
body_ends Dot = Some Nothing
body_ends Name = None
body_ends Variable = None
body_ends Integer = None
body_ends Float = None
body_ends Text = None
body_ends Open = None
body_ends Close = None
body_ends Neck = None
body_ends Query = None
body_ends End = None

-- the head is followed by the neck or the dot
abbrev pub head_ends : Kind → Option Due
head_ends Neck = Some Goal
head_ends Dot = Some Nothing
head_ends Name = None
head_ends Variable = None
head_ends Integer = None
head_ends Float = None
head_ends Text = None
head_ends Open = None
head_ends Close = None
head_ends Comma = None
head_ends Query = None
head_ends End = None

abbrev pub term_ends : (nested body : Bool) → Kind → Option Due
term_ends true body k = inside_ends k
term_ends false true k = body_ends k
term_ends false false k = head_ends k

-- a name may be followed by the arguments in brackets
abbrev pub name_ends : (nested body : Bool) → Kind → Option Due
name_ends n b Open = Some Argument
name_ends n b Name = None
name_ends n b Variable = None
name_ends n b Integer = None
name_ends n b Float = None
name_ends n b Text = None
name_ends n b Close = term_ends n b Close
name_ends n b Comma = term_ends n b Comma
name_ends n b Dot = term_ends n b Dot
name_ends n b Neck = term_ends n b Neck
name_ends n b Query = None
name_ends n b End = None

abbrev pub goal_or_dot : Kind → Option Due
goal_or_dot Dot = Some Nothing
goal_or_dot Name = Some NameEnd
goal_or_dot Variable = None
goal_or_dot Integer = None
goal_or_dot Float = None
goal_or_dot Text = None
goal_or_dot Open = None
goal_or_dot Close = None
goal_or_dot Comma = None
goal_or_dot Neck = None
goal_or_dot Query = None
goal_or_dot End = None

-- what is due after a token, or none where it does not fit
abbrev pub after : Due → (nested body : Bool) → Kind → Option Due
after Head n b k = goal_begins k
after Goal n b k = goal_begins k
after GoalOrDot n b k = goal_or_dot k
after Argument n b k = term_begins k
after NameEnd n b k = name_ends n b k
after TermEnd n b k = term_ends n b k
after Nothing n b k = None
