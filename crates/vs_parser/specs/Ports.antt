-- Ports in the header of a module and in items.
use Rattle.std.specs.Prelude.{◌≡◌, ℕ, false, List, ◌∷◌, Option, None, Some, Result, Ok, Err}
use Rattle.vs_syntax.specs.vs_lexer.specs.declared.token.Token.{Token}
use Rattle.vs_syntax.specs.vs_lexer.specs.declared.token.Mark.TheVariants as m
use Rattle.vs_syntax.specs.vs_lexer.specs.declared.token.Word.{Word}
use Rattle.vs_syntax.specs.vs_lexer.specs.declared.token.Word.TheVariants as w
use Rattle.vs_syntax.specs.Symbols.{Symbol, a_word}
use Rattle.vs_syntax.specs.Grammar.{Nonterminal, Grammar, nothing, ◌·◌, ◌or◌, part, mark, word, form, comma_list, may_value, directed_ports, net_ports, variable_ports, port_names, a_bare_name}
use Rattle.vs_syntax.specs.Tables.{goes}
use Rattle.vs_syntax.specs.Derivation.{Tree, both}
use Rattle.vs_syntax.specs.Reading.{Gets}
use Rattle.vs_syntax.specs.Views.{name_tree, value_tree, port_form_tree, port_tree, more_ports_tree}
use Rattle.vs_syntax.specs.declared.tree.PortKind.{PortKind}
use Rattle.vs_syntax.specs.declared.tree.PortKind.TheVariants as k
use Rattle.vs_syntax.specs.declared.tree.PortForm.{PortForm}
use Rattle.vs_syntax.specs.declared.tree.Port.{Port}
use Rattle.vs_parse_expressions.specs.declared.reading.Parsed.{Parsed}
use Rattle.vs_parse_expressions.specs.declared.reading.ReadFault.{ReadFault}
use Rattle.vs_parse_expressions.specs.Answers.{seen, FailsToRead}
use Rattle.vs_parse_expressions.specs.Parts.{Beyond}
use Rattle.vs_parser.specs.declared.port.Said.{Said}
use Rattle.vs_parser.specs.declared.port.Said.TheVariants as s

-- the word of the kind of a port, or nothing (clause A.2.1.2)
abbrev pub port_kind : Grammar
port_kind = word w.Wire or word w.Reg or word w.Integer or nothing

-- the word of the kind of a port
abbrev pub kind_word : PortKind → Word
kind_word k.Wire = w.Wire
kind_word k.Reg = w.Reg
kind_word k.Integer = w.Integer

-- The word of this kind is next, with these symbols behind it, or that of no kind.
abbrev pub IsKind : List Symbol → Option PortKind → List Symbol → Type 0
IsKind ts None rest = (goes port_kind ts ≡ false) × (rest ≡ ts)
IsKind ts (Some kind) rest = ts ≡ a_word (kind_word kind) ∷ rest

-- what stands behind the word of a port declaration (clause A.2.1.2)
abbrev pub after_direction : Grammar
after_direction = port_kind · form · comma_list a_bare_name

-- what stands in the parentheses of a header (clause A.1.3; profile)
abbrev pub ports_within : Grammar
ports_within = part directed_ports or part port_names or nothing

-- what the kind of a port that has a direction says of it (clause 12.3.4)
abbrev pub said_of : Option PortKind → Said
said_of None = s.Net
said_of (Some k.Wire) = s.Net
said_of (Some k.Reg) = s.Variable
said_of (Some k.Integer) = s.Variable

-- what is said of a port, by what was said of the one before it: a name alone takes that over (clause 12.3.4)
abbrev pub said_after : Said → Option PortForm → Said
said_after said None = said
said_after said (Some f) = said_of f.kind

-- a port by its name, with those behind it, where this is said of it
abbrev pub named_by : Said → Nonterminal
named_by s.Nothing = port_names
named_by s.Net = net_ports
named_by s.Variable = variable_ports

-- the value of a port of which this is said
abbrev pub value_by : Said → Grammar
value_by s.Nothing = nothing
value_by s.Net = nothing
value_by s.Variable = may_value

-- the port behind a comma and one of which this is said, with those behind it
abbrev pub other_by : Said → Grammar
other_by s.Nothing = part port_names
other_by s.Net = part directed_ports or part net_ports
other_by s.Variable = part directed_ports or part variable_ports

-- the ports behind one of which this is said
abbrev pub others_by : Said → Grammar
others_by said = mark m.Comma · other_by said or nothing

-- the name of a port with its value, and the ports behind it
abbrev pub named_port_tree : Port → Tree → Tree
named_port_tree p rest = both (name_tree p.name.items) (both (value_tree p.value) rest)

-- a port, or why and where reading it stopped, behind one of which this is said
abbrev pub LeadsOn : Said → Grammar → ℕ → List Token → Result (Parsed Port) ReadFault → Type 0
LeadsOn said g depth ts (Ok r) = Beyond (others_by (said_after said r.tree.form)) g (port_tree r.tree) depth (seen ts) (seen r.rest.now)
LeadsOn said g depth ts (Err e) = FailsToRead g depth (seen ts) e

-- what stands before the name of a port, or why and where reading it stopped
abbrev pub LeadsToName : ℕ → List Token → Result (Parsed PortForm) ReadFault → Type 0
LeadsToName depth ts (Ok r) = Beyond (part (named_by (said_of r.tree.kind))) (part directed_ports) (port_form_tree (Some r.tree)) depth (seen ts) (seen r.rest.now)
LeadsToName depth ts (Err e) = FailsToRead (part directed_ports) depth (seen ts) e

-- The list is the first port and those that were read behind it.
pub record Followed (g : Grammar) (depth : ℕ) (ts rest : List Symbol) (first : Port) (all : List Port) : Type 0 where
  pub others : List Port
  pub all_are : all ≡ first ∷ others
  pub gets : Gets g depth ts (more_ports_tree others) rest
