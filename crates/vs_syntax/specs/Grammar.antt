-- The grammar of a source (IEEE 1364-2005, annex A; profile).
use Rattle.std.specs.Prelude.{ℕ, zero, suc, List, [], ◌∷◌, ◌++◌, length, map}
use Rattle.vs_lexer.specs.declared.token.Mark.{Mark}
use Rattle.vs_lexer.specs.declared.token.Mark.TheVariants as m
use Rattle.vs_lexer.specs.declared.token.Word.{Word}
use Rattle.vs_lexer.specs.declared.token.Word.TheVariants as w
use Rattle.vs_syntax.specs.Symbols.{Class, the_mark, the_word, any_name, any_number, the_cast, any_text, the_print, the_finish, the_dump, the_time, the_directive}

-- the parts of a source that have a rule
pub data Nonterminal : Type 0 where
  -- the text of a source (clause A.1.2)
  a_source : Nonterminal
  a_module : Nonterminal
  -- a parameter in the header of a module, with the word or without (clauses A.1.3 and A.2.4)
  a_header_parameter : Nonterminal
  -- ports in the header of a module, the first with its direction (clause A.1.3)
  directed_ports : Nonterminal
  -- a port that is a net, by its name, with those behind it (clause A.1.3)
  net_ports : Nonterminal
  -- a port that is a variable, by its name, with a declaration assignment or without, with those behind it (clauses A.1.3 and A.2.4)
  variable_ports : Nonterminal
  -- a port of which the header says nothing but the name, with those behind it (clause A.1.3)
  port_names : Nonterminal
  -- a name of a declaration that says nothing of it but that (clauses A.2.1.2 and A.2.1.3)
  a_bare_name : Nonterminal
  -- what stands behind a generate `for`, `if` or `else` (clause A.4.2)
  a_generate_block : Nonterminal
  -- a name of a declaration of a named block, with the range of its words or without (clause A.2.8)
  a_local : Nonterminal
  -- an item of a module (clause A.1.4)
  an_item : Nonterminal
  -- a name of a declaration of parameters, with its value (clause A.2.4)
  a_constant : Nonterminal
  -- an instance of a module (clause A.4.1)
  an_instance : Nonterminal
  -- a connection by name (clause A.4.1)
  a_connection : Nonterminal
  -- a name of a declaration of nets, with a declaration assignment or without (clauses A.2.3 and A.2.4)
  a_net : Nonterminal
  -- a name of a declaration of variables, with a declaration assignment, with the range of its words, or alone (clauses A.2.2.1 and A.2.5)
  a_variable : Nonterminal
  -- an assignment of an `assign` item (clause A.6.1)
  an_assignment : Nonterminal
  -- a statement (clause A.6.4)
  a_stmt : Nonterminal
  -- an argument of `$display` or `$strobe` behind the text (clause A.6.9)
  an_argument : Nonterminal
  -- an argument of `$dumpfile` or `$dumpvars` (clause A.6.9)
  a_dump_argument : Nonterminal
  -- an item of a `case` statement (clause A.6.7)
  a_case_item : Nonterminal
  -- a term of an event control (clause A.6.5)
  an_event_expr : Nonterminal
  -- the left side of an assignment (clause A.8.5)
  a_target : Nonterminal
  -- an expression (clause A.8.3)
  an_expr : Nonterminal
  -- operands with operators of so many levels between them, the tightest ones; of none, one operand (clauses A.8.3 and 5.1.2)
  a_level : ℕ → Nonterminal

pub data Grammar : Type 0 where
  -- no token
  nothing : Grammar
  -- one token of this class
  token : Class → Grammar
  -- the one and then the other
  seq : Grammar → Grammar → Grammar
  -- the first where the next token can begin it, else the second
  either : Grammar → Grammar → Grammar
  -- as many as the next token can begin
  many : Grammar → Grammar
  -- what the part's rule says
  part : Nonterminal → Grammar
  -- a node of the tree, which counts for the nesting (profile)
  node : Grammar → Grammar
  -- the first alone, or a node of the first and the second where the next token can begin the second
  chain : Grammar → Grammar → Grammar
  -- a token of this class and the other behind it, or no token where the next one is of another class
  optional : Class → Grammar → Grammar

infixr 40 ◌·◌
abbrev pub ◌·◌ : Grammar → Grammar → Grammar
a · b = seq a b

infixr 30 ◌or◌
abbrev pub ◌or◌ : Grammar → Grammar → Grammar
a or b = either a b

-- a mark
abbrev pub mark : Mark → Grammar
mark x = token (the_mark x)

-- a reserved word
abbrev pub word : Word → Grammar
word x = token (the_word x)

-- a name
abbrev pub name : Grammar
name = token any_name

-- a number
abbrev pub number : Grammar
number = token any_number

-- one or more
abbrev pub one_or_more : Grammar → Grammar
one_or_more a = a · many a

-- one or more, with commas between, and the semicolon behind them
abbrev pub comma_list : Nonterminal → Grammar
comma_list p = part p · many (mark m.Comma · part p) · mark m.Semicolon

-- one of these marks
abbrev pub one_mark : Mark → List Mark → Grammar
one_mark x [] = mark x
one_mark x (y ∷ ys) = mark x or one_mark y ys

-- the operators before an operand (clause A.8.6)
abbrev pub prefixes : List Mark
prefixes = m.Plus ∷ m.Minus ∷ m.Not ∷ m.Tilde ∷ m.And ∷ m.Nand ∷ m.Or ∷ m.Nor ∷ m.Xor ∷ m.Xnor ∷ []

-- operands with one of these operators between each two of them: one alone, or a node of all of them (clause 5.1.2)
abbrev pub operands : Nonterminal → List Mark → Grammar
operands p [] = part p
operands p (op ∷ ops) = chain (part p) (one_or_more (one_mark op ops · part p))

-- the operators between operands, level by level, from the one that binds tightest (clause 5.1.2)
abbrev pub levels : List (List Mark)
levels = (m.Star ∷ m.Slash ∷ m.Percent ∷ [])
    ∷ (m.Plus ∷ m.Minus ∷ [])
    ∷ (m.ShiftLeft ∷ m.ShiftRight ∷ m.ArithmeticShiftLeft ∷ m.ArithmeticShiftRight ∷ [])
    ∷ (m.Less ∷ m.LessEqual ∷ m.Greater ∷ m.GreaterEqual ∷ [])
    ∷ (m.Equal ∷ m.NotEqual ∷ m.CaseEqual ∷ m.CaseNotEqual ∷ [])
    ∷ (m.And ∷ [])
    ∷ (m.Xor ∷ m.Xnor ∷ [])
    ∷ (m.Or ∷ [])
    ∷ (m.LogicalAnd ∷ [])
    ∷ (m.LogicalOr ∷ [])
    ∷ []

-- the operators of the level of this number; above the last level none
abbrev pub level_at : List (List Mark) → ℕ → List Mark
level_at [] n = []
level_at (ops ∷ ls) zero = ops
level_at (ops ∷ ls) (suc n) = level_at ls n

-- a condition, or an operand of a condition: operands with operators of all levels between them (clause A.8.3)
abbrev pub a_condition : Nonterminal
a_condition = a_level (length levels)

-- what stands behind a condition: the operand for it, and the next condition or the last operand (clause 5.1.13)
abbrev pub arm : Grammar
arm = mark m.Question · part an_expr · mark m.Colon · part a_condition

-- an operand: a primary, or an operator and its operand (clauses A.8.3 and A.8.4)
abbrev pub an_operand : Nonterminal
an_operand = a_level 0

-- one of the parts, each of them behind a token of its class
abbrev pub one_or : Class × Grammar → List (Class × Grammar) → Grammar
one_or x [] = token x.0 · x.1
one_or x (y ∷ ys) = token x.0 · x.1 or one_or y ys

abbrev pub one_of : List (Class × Grammar) → Grammar
one_of [] = nothing
one_of (x ∷ xs) = one_or x xs

-- the parts of a concatenation behind the first one, and the brace behind them (clause 5.1.14)
abbrev pub other_parts : Nonterminal → Grammar
other_parts p = many (mark m.Comma · part p) · mark m.CloseBrace

-- the operands that are nodes, each by its first token: an operator and its operand, an expression in parentheses, a
-- concatenation or a multiple one, a conversion to signed or to unsigned (clauses A.8.1 to A.8.4 and 5.5)
abbrev pub compounds : List (Class × Grammar)
compounds = map (λ x. (the_mark x, part an_operand)) prefixes
    ++ (the_mark m.Open, part an_expr · mark m.Close)
    ∷ (
      the_mark m.OpenBrace,
      part an_expr
          · (mark m.OpenBrace · part an_expr · other_parts an_expr · mark m.CloseBrace or other_parts an_expr),
    )
    ∷ (the_cast, mark m.Open · part an_expr · mark m.Close)
    ∷ []

-- the marks between the two expressions of a part-select (clause 5.2.1)
abbrev pub part_marks : Grammar
part_marks = one_mark m.Colon (m.PlusColon ∷ m.MinusColon ∷ [])

-- the second expression of a part-select, behind what stands between the two; nothing where there is one index (clause 5.2.1)
abbrev pub second : Grammar
second = part_marks · part an_expr or nothing

-- a bit-select, a part-select, or the index of a word (clauses 5.2.1, 5.2.2 and A.8.4)
abbrev pub select : Grammar
select = mark m.OpenBracket · part an_expr · second · mark m.CloseBracket

-- the range of a vector, or of the words of an array (clause A.2.5)
abbrev pub range : Grammar
range = mark m.OpenBracket · part an_expr · mark m.Colon · part an_expr · mark m.CloseBracket

-- whether the names of a declaration are signed, and their range, where it has one (clauses A.2.1.2 and A.2.1.3)
abbrev pub form : Grammar
form = (word w.Signed or nothing) · (range or nothing)

-- the type of parameters (clauses A.2.1.1 and A.2.4)
abbrev pub parameter_form : Grammar
parameter_form = word w.Integer or form

-- the parameters in the header of a module, the first with the word (clause A.1.3)
abbrev pub header_parameters : Grammar
header_parameters = mark m.Hash · mark m.Open · ((word w.Parameter · parameter_form) · part a_constant)
    · many (mark m.Comma · part a_header_parameter) · mark m.Close

-- the word of the kind of a port, or nothing (clause A.2.1.2)
abbrev pub port_kind : Grammar
port_kind = word w.Wire or word w.Reg or word w.Integer or nothing

-- the word of the kind of a port that is a variable (clause A.2.1.2)
abbrev pub variable_kind : Grammar
variable_kind = word w.Reg or word w.Integer

-- the word of the kind of a port that is a net, or nothing (clause A.2.1.2)
abbrev pub net_kind : Grammar
net_kind = word w.Wire or nothing

-- the direction of a port (clause A.2.1.2)
abbrev pub direction : Grammar
direction = word w.Input or word w.Output

-- a declaration assignment, or nothing (clause A.2.4)
abbrev pub may_value : Grammar
may_value = mark m.Assign · part an_expr or nothing

-- the ports behind one: the next one with its direction, or its name alone, of which the same is said; or no more (clause A.1.3)
abbrev pub more_ports : Nonterminal → Grammar
more_ports p = mark m.Comma · (part directed_ports or part p) or nothing

-- the ports in the header of a module: the first with its direction, or all by their names alone (clause A.1.3; profile)
abbrev pub header_ports : Grammar
header_ports = mark m.Open · (part directed_ports or part port_names or nothing) · mark m.Close

-- an expression, or nothing
abbrev pub an_end : Grammar
an_end = part an_expr or nothing

-- what ports are connected to, or the values of parameters: by name, or in order (clause A.4.1)
abbrev pub connections : Grammar
connections = part a_connection · many (mark m.Comma · part a_connection) or an_end · many (mark m.Comma · an_end)

-- instances of a module, behind its name (clause A.4.1)
abbrev pub instances : Grammar
instances = (mark m.Hash · mark m.Open · connections · mark m.Close or nothing) · comma_list an_instance

-- an expression in parentheses that are no node, and what stands behind them
abbrev pub guarded : Grammar → Grammar
guarded a = mark m.Open · part an_expr · mark m.Close · a

-- a name and the value that it is given
abbrev pub named_value : Grammar
named_value = name · mark m.Assign · part an_expr

-- what stands behind a generate `for` (clause A.4.2)
abbrev pub generate_loop : Grammar
generate_loop = mark m.Open · named_value · mark m.Semicolon · part an_expr · mark m.Semicolon · named_value · mark m.Close · part a_generate_block

-- what stands behind the condition of a generate `if`; an `else` belongs to the nearest `if` (clause A.4.2)
abbrev pub generate_branches : Grammar
generate_branches = part a_generate_block · optional (the_word w.Else) (part a_generate_block)

-- the name of a generate block, or nothing (clause A.4.2)
abbrev pub block_name : Grammar
block_name = mark m.Colon · name or nothing

-- a declaration of a named block (clause A.2.8)
abbrev pub local_declaration : Grammar
local_declaration = word w.Reg · form · comma_list a_local or word w.Integer · comma_list a_local

-- the name of a block with its declarations, or nothing (clause A.6.3)
abbrev pub block_head : Grammar
block_head = mark m.Colon · name · many local_declaration or nothing

-- the items of a module that begin with a word, each by it (clause A.1.4; profile)
abbrev pub items : List (Class × Grammar)
items = (the_word w.Input, port_kind · form · comma_list a_bare_name)
    ∷ (the_word w.Output, port_kind · form · comma_list a_bare_name)
    ∷ (the_word w.Genvar, comma_list a_bare_name)
    ∷ (the_word w.Generate, many (part an_item) · word w.Endgenerate)
    ∷ (the_word w.For, generate_loop)
    ∷ (the_word w.If, guarded generate_branches)
    ∷ (the_word w.Wire, form · comma_list a_net)
    ∷ (the_word w.Reg, form · comma_list a_variable)
    ∷ (the_word w.Integer, comma_list a_variable)
    ∷ (the_word w.Parameter, parameter_form · comma_list a_constant)
    ∷ (the_word w.Localparam, parameter_form · comma_list a_constant)
    ∷ (the_word w.Assign, comma_list an_assignment)
    ∷ (the_word w.Initial, part a_stmt)
    ∷ (the_word w.Always, part a_stmt)
    ∷ []

-- a statement and, where the next token is `else`, the statement behind that (clause A.6.6)
abbrev pub branches : Grammar
branches = part a_stmt · optional (the_word w.Else) (part a_stmt)

-- the items of a `case` statement, and the word behind them (clause A.6.7)
abbrev pub case_items : Grammar
case_items = one_or_more (part a_case_item) · word w.Endcase

-- an assignment without a semicolon
abbrev pub assignment : Grammar
assignment = part a_target · mark m.Assign · part an_expr

-- what stands behind `for`: two assignments with the condition between them, and the statement (clause A.6.8)
abbrev pub for_parts : Grammar
for_parts = mark m.Open · assignment · mark m.Semicolon · part an_expr · mark m.Semicolon · assignment · mark m.Close · part a_stmt

-- a delay (clause A.6.5)
abbrev pub delay : Grammar
delay = number or name or mark m.Open · part an_expr · mark m.Close

-- terms of an event control (clause A.6.5)
abbrev pub event_exprs : Grammar
event_exprs = part an_event_expr · many ((word w.Or or mark m.Comma) · part an_event_expr)

-- what an event control waits for (clause A.6.5)
abbrev pub event : Grammar
event = mark m.Star or name or mark m.Open · (mark m.Star or event_exprs) · mark m.Close

-- the arguments of `$display` or `$strobe`, where it has parentheses: a text and what it prints, or nothing (clause 17.1.1; the text first: profile)
abbrev pub print_arguments : Grammar
print_arguments = mark m.Open · (token any_text · many (mark m.Comma · part an_argument) or nothing) · mark m.Close or nothing

-- the number in the parentheses of a `$finish`, where it has them (clause 17.4.1)
abbrev pub finish_argument : Grammar
finish_argument = mark m.Open · number · mark m.Close or nothing

-- the arguments of `$dumpfile` or `$dumpvars`, where it has parentheses (clauses 18.1.1 and 18.1.2)
abbrev pub dump_arguments : Grammar
dump_arguments = mark m.Open · part a_dump_argument · many (mark m.Comma · part a_dump_argument) · mark m.Close or nothing

-- the delay of a nonblocking assignment, or nothing (clause A.6.2)
abbrev pub late : Grammar
late = mark m.Hash · delay or nothing

-- the statements that begin with a word, a mark or a system name of their own (clause A.6.4; profile)
abbrev pub statements : List (Class × Grammar)
statements = (the_mark m.Semicolon, nothing)
    ∷ (the_word w.Begin, block_head · many (part a_stmt) · word w.End)
    ∷ (the_word w.If, guarded branches)
    ∷ (the_word w.Case, guarded case_items)
    ∷ (the_word w.Casez, guarded case_items)
    ∷ (the_word w.Casex, guarded case_items)
    ∷ (the_word w.For, for_parts)
    ∷ (the_word w.While, guarded (part a_stmt))
    ∷ (the_word w.Repeat, guarded (part a_stmt))
    ∷ (the_word w.Forever, part a_stmt)
    ∷ (the_mark m.Hash, delay · part a_stmt)
    ∷ (the_mark m.At, event · part a_stmt)
    ∷ (the_print, print_arguments · mark m.Semicolon)
    ∷ (the_finish, finish_argument · mark m.Semicolon)
    ∷ (the_dump, dump_arguments · mark m.Semicolon)
    ∷ []

-- The rules of the grammar. A target is a node, though it be a name alone; the number of an expression is none, and a name only with its
-- selects.
abbrev pub rule : Nonterminal → Grammar
rule a_source = many (part a_module or token the_directive)
rule a_module = word w.Module · name · (header_parameters or nothing) · (header_ports or nothing) · mark m.Semicolon
    · many (part an_item) · word w.Endmodule
rule a_header_parameter = (word w.Parameter · parameter_form or nothing) · part a_constant
rule directed_ports = direction · (variable_kind · form · part variable_ports or net_kind · form · part net_ports)
rule net_ports = name · nothing · more_ports net_ports
rule variable_ports = name · may_value · more_ports variable_ports
rule port_names = name · nothing · (mark m.Comma · part port_names or nothing)
rule a_bare_name = name
rule a_generate_block = mark m.Semicolon or word w.Begin · block_name · many (part an_item) · word w.End or part an_item
rule a_local = name · (range or nothing)
rule an_item = node (name · instances or one_of items)
rule a_constant = name · mark m.Assign · part an_expr
rule an_instance = name · mark m.Open · connections · mark m.Close
rule a_connection = mark m.Dot · name · mark m.Open · an_end · mark m.Close
rule a_net = name · (mark m.Assign · part an_expr or nothing)
rule a_variable = name · (mark m.Assign · part an_expr or range or nothing)
rule an_assignment = part a_target · mark m.Assign · part an_expr
rule a_stmt = node (part a_target · (mark m.Assign or mark m.LessEqual · late) · part an_expr · mark m.Semicolon or one_of statements)
rule an_argument = token the_time or part an_expr
rule a_dump_argument = token any_text or part an_expr
rule a_case_item = word w.Default · (mark m.Colon or nothing) · part a_stmt
    or part an_expr · many (mark m.Comma · part an_expr) · mark m.Colon · part a_stmt
rule an_event_expr = (word w.Posedge or word w.Negedge or nothing) · name · many select
rule a_target = node (name · many select or mark m.OpenBrace · part a_target · other_parts a_target)
rule an_expr = chain (part a_condition) (one_or_more arm)
rule (a_level zero) = number or chain name (one_or_more select) or node (one_of compounds)
rule (a_level (suc n)) = operands (a_level n) (level_at levels n)
