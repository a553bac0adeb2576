use Rattle.programs.proofs.Parsing.{parse_goals, parse_clause}
use Rattle.programs.proofs.Unique.{flat_prefix, spell_goals_injective, spell_clause_injective, program_unique}
use Rattle.programs.proofs.Equations.{parse_equation, spell_equation_injective, declared_kinds}
use Rattle.programs.proofs.Renamings.{renamed_goal, renamed_clause}
use Rattle.programs.proofs.Programs.{program_of}
use Rattle.programs.proofs.spelling_stands.Goals as goal

pub returns : goal.returns
returns c = (parse_goals, parse_clause, parse_equation, flat_prefix, spell_goals_injective, spell_clause_injective, spell_equation_injective, declared_kinds, renamed_goal, renamed_clause, program_of, program_unique)
