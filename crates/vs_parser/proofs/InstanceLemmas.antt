-- How the parts of instances make them, and where they stop.
use Rattle.std.specs.Prelude.{◌≡◌, ℕ, ◌≤◌, Bool, true, false, List, ◌∷◌, Result, Ok, Err, refl}
use Rattle.std.proofs.Common.{ap, arith}
use Rattle.vs_syntax.specs.vs_lexer.specs.declared.token.Mark.TheVariants as m
use Rattle.vs_syntax.specs.vs_lexer.specs.declared.token.Token.{Token}
use Rattle.vs_syntax.specs.Symbols.{Symbol, a_mark, the_mark, first}
use Rattle.vs_syntax.specs.Grammar.{Grammar, ◌·◌, part, mark, an_end, connections, a_connection, an_expr}
use Rattle.vs_syntax.specs.Tables.{goes}
use Rattle.vs_syntax.specs.Derivation.{Tree, empty}
use Rattle.vs_syntax.specs.Reading.{Gets, Stuck, stuck_left, stuck_right}
use Rattle.vs_syntax.specs.Views.{connections_tree}
use Rattle.vs_syntax.specs.declared.tree.Connections.{Connections}
use Rattle.vs_syntax.proofs.Gets.{gets_nothing, gets_left, gets_right}
use Rattle.vs_parse_expressions.specs.declared.reading.Parsed.{Parsed}
use Rattle.vs_parse_expressions.specs.declared.reading.ReadFault.{ReadFault}
use Rattle.vs_parse_expressions.specs.Answers.{seen, ReadsTree}
use Rattle.vs_parse_expressions.proofs.Exits.{fails_by, goes_at}
use Rattle.vs_parse_expressions.specs.Lists.{comma_tail}

-- connections in parentheses
abbrev pub within : Grammar
within = mark m.Open · connections · mark m.Close

-- connections by name, and connections in order
abbrev pub named : Grammar
named = part a_connection · comma_tail (part a_connection)

abbrev pub ordered : Grammar
ordered = an_end · comma_tail an_end

named_goes : (ts after : List Symbol) → ts ≡ a_mark m.Dot ∷ after → goes named ts ≡ true
named_goes ts after e = goes_at named ts (the_mark m.Dot) true (ap first e) refl

-- connections, by what reading them by name answers
pub named_answers : (depth : ℕ) (ts : List Token) (after : List Symbol) (r : Result (Parsed Connections) ReadFault) → seen ts ≡ a_mark m.Dot ∷ after → ReadsTree named depth ts connections_tree r → ReadsTree connections depth ts connections_tree r
named_answers depth ts after (Ok x) e p = gets_left (named_goes (seen ts) after e) p
named_answers depth ts after (Err s) e p =
    let none : 0 ≤ depth = omega arith in
    fails_by named connections depth depth (seen ts) (seen ts) (λ deep at t. stuck_left (named_goes (seen ts) after e) none t) s p

-- the same in order
pub ordered_answers : (depth : ℕ) (ts : List Token) (r : Result (Parsed Connections) ReadFault) → goes (mark m.Dot) (seen ts) ≡ false → ReadsTree ordered depth ts connections_tree r → ReadsTree connections depth ts connections_tree r
ordered_answers depth ts (Ok x) h p = gets_right h p
ordered_answers depth ts (Err s) h p =
    let none : 0 ≤ depth = omega arith in
    fails_by ordered connections depth depth (seen ts) (seen ts) (λ deep at t. stuck_right h none t) s p

-- an expression, or nothing
pub end_none : (depth : ℕ) (ts : List Symbol) → goes (part an_expr) ts ≡ false → Gets an_end depth ts empty ts
end_none depth ts h = gets_right h gets_nothing

pub end_read : (depth : ℕ) (ts rest : List Symbol) (x : Tree) → goes (part an_expr) ts ≡ true → Gets (part an_expr) depth ts x rest → Gets an_end depth ts x rest
end_read depth ts rest x h p = gets_left h p

pub end_stuck : (depth : ℕ) (deep : Bool) (ts at : List Symbol) → goes (part an_expr) ts ≡ true → Stuck (part an_expr) depth deep ts at → Stuck an_end depth deep ts at
end_stuck depth deep ts at h s =
    let none : 0 ≤ depth = omega arith in
    stuck_left h none s
