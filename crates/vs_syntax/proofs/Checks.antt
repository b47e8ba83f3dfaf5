-- The tables are those of the rules.
use Rattle.std.specs.Prelude.{◌≡◌, ℕ, zero, suc, List, [], ◌∷◌, refl}
use Rattle.vs_lexer.specs.declared.token.Mark.{Mark}
use Rattle.vs_syntax.specs.Grammar.{Nonterminal, a_source, a_module, a_header_parameter, directed_ports, net_ports, variable_ports, port_names, a_bare_name, a_generate_block, a_local, an_item, a_constant, an_instance, a_connection, a_net, a_variable, an_assignment, a_stmt, an_argument, a_dump_argument, a_case_item, an_event_expr, a_target, an_expr, a_level, operands, levels, level_at, rule}
use Rattle.vs_syntax.specs.Tables.{null_of, low_of, operand_fronts, fronts_of, null, low, fronts}

operands_null : (p : Nonterminal) (ops : List Mark) → null (operands p ops) ≡ null_of p
operands_null p [] = refl
operands_null p (op ∷ ops) = refl

operands_low : (p : Nonterminal) (ops : List Mark) → low (operands p ops) ≡ low_of p
operands_low p [] = refl
operands_low p (op ∷ ops) = refl

operands_fronts : (n : ℕ) (ops : List Mark) → fronts (operands (a_level n) ops) ≡ operand_fronts
operands_fronts n [] = refl
operands_fronts n (op ∷ ops) = refl

pub rule_null : (p : Nonterminal) → null (rule p) ≡ null_of p
rule_null a_source = refl
rule_null a_module = refl
rule_null a_header_parameter = refl
rule_null directed_ports = refl
rule_null net_ports = refl
rule_null variable_ports = refl
rule_null port_names = refl
rule_null a_bare_name = refl
rule_null a_generate_block = refl
rule_null a_local = refl
rule_null an_item = refl
rule_null a_constant = refl
rule_null an_instance = refl
rule_null a_connection = refl
rule_null a_net = refl
rule_null a_variable = refl
rule_null an_assignment = refl
rule_null a_stmt = refl
rule_null an_argument = refl
rule_null a_dump_argument = refl
rule_null a_case_item = refl
rule_null an_event_expr = refl
rule_null a_target = refl
rule_null an_expr = refl
rule_null (a_level zero) = refl
rule_null (a_level (suc n)) = operands_null (a_level n) (level_at levels n)

pub rule_low : (p : Nonterminal) → low (rule p) ≡ low_of p
rule_low a_source = refl
rule_low a_module = refl
rule_low a_header_parameter = refl
rule_low directed_ports = refl
rule_low net_ports = refl
rule_low variable_ports = refl
rule_low port_names = refl
rule_low a_bare_name = refl
rule_low a_generate_block = refl
rule_low a_local = refl
rule_low an_item = refl
rule_low a_constant = refl
rule_low an_instance = refl
rule_low a_connection = refl
rule_low a_net = refl
rule_low a_variable = refl
rule_low an_assignment = refl
rule_low a_stmt = refl
rule_low an_argument = refl
rule_low a_dump_argument = refl
rule_low a_case_item = refl
rule_low an_event_expr = refl
rule_low a_target = refl
rule_low an_expr = refl
rule_low (a_level zero) = refl
rule_low (a_level (suc n)) = operands_low (a_level n) (level_at levels n)

pub rule_fronts : (p : Nonterminal) → fronts (rule p) ≡ fronts_of p
rule_fronts a_source = refl
rule_fronts a_module = refl
rule_fronts a_header_parameter = refl
rule_fronts directed_ports = refl
rule_fronts net_ports = refl
rule_fronts variable_ports = refl
rule_fronts port_names = refl
rule_fronts a_bare_name = refl
rule_fronts a_generate_block = refl
rule_fronts a_local = refl
rule_fronts an_item = refl
rule_fronts a_constant = refl
rule_fronts an_instance = refl
rule_fronts a_connection = refl
rule_fronts a_net = refl
rule_fronts a_variable = refl
rule_fronts an_assignment = refl
rule_fronts a_stmt = refl
rule_fronts an_argument = refl
rule_fronts a_dump_argument = refl
rule_fronts a_case_item = refl
rule_fronts an_event_expr = refl
rule_fronts a_target = refl
rule_fronts an_expr = refl
rule_fronts (a_level zero) = refl
rule_fronts (a_level (suc n)) = operands_fronts n (level_at levels n)
