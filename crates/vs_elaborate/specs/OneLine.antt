-- Names without a line feed.
use Rattle.std.specs.Prelude.{IsTrue, List, ◌++◌}
use Rattle.std.specs.List.{list_all}
use Rattle.vs_syntax.specs.vs_lexer.specs.NameLines.{is_one_line}
use Rattle.vs_syntax.specs.declared.tree.Module.{Module}
use Rattle.vs_syntax.specs.SourceNames.{declared_names}
use Rattle.vs_scopes.specs.Uses.{names_used_among}

-- no name that modules declare holds a line feed, their own among them, and none that they use where an undeclared one is a net (clauses 3.7, 4.5
-- and 12.1)
abbrev pub HasModulesOfOneLine : List Module → Type 0
HasModulesOfOneLine ms = IsTrue (list_all is_one_line (declared_names ms ++ names_used_among ms))
