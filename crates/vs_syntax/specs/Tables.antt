-- What can begin and end each part of a source, and how high it is at least. Laws of the crate say that the tables are those of the rules.
use Rattle.std.specs.Prelude.{ℕ, suc, max, min, Bool, true, false, cond, ◌&&◌, ◌||◌, List, [], ◌∷◌, ◌++◌}
use Rattle.vs_lexer.specs.declared.token.Mark.{Mark}
use Rattle.vs_lexer.specs.declared.token.Mark.TheVariants as m
use Rattle.vs_lexer.specs.declared.token.Word.TheVariants as w
use Rattle.vs_syntax.specs.Symbols.{Symbol, Class, the_mark, the_word, any_name, any_number, the_cast, any_text, the_print, the_finish, the_dump, the_time, the_directive, same_class, first}
use Rattle.vs_syntax.specs.Grammar.{Nonterminal, a_source, a_module, a_header_parameter, directed_ports, net_ports, variable_ports, port_names, a_bare_name, a_generate_block, a_local, an_item, a_constant, an_instance, a_connection, a_net, a_variable, an_assignment, a_stmt, an_argument, a_dump_argument, a_case_item, an_event_expr, a_target, an_expr, a_level, Grammar, nothing, token, seq, either, many, part, node, chain, optional, prefixes}

-- a class that can begin a part, and the least nesting of a part that it begins
pub record Front : Type 0 where
  pub class : Class
  pub need : ℕ

-- a class with a need
abbrev pub at_least : Class → ℕ → Front
at_least c n = record { class = c; need = n }

-- whether a part can be without tokens
abbrev pub null_of : Nonterminal → Bool
null_of a_source = true
null_of _ = false

-- the least nesting of a part
abbrev pub low_of : Nonterminal → ℕ
low_of a_source = 0
low_of a_module = 0
low_of a_header_parameter = 0
low_of directed_ports = 0
low_of net_ports = 0
low_of variable_ports = 0
low_of port_names = 0
low_of a_bare_name = 0
low_of a_generate_block = 0
low_of a_local = 0
low_of an_item = 1
low_of a_constant = 0
low_of an_instance = 0
low_of a_connection = 0
low_of a_net = 0
low_of a_variable = 0
low_of an_assignment = 1
low_of a_stmt = 1
low_of an_argument = 0
low_of a_dump_argument = 0
low_of a_case_item = 1
low_of an_event_expr = 0
low_of a_target = 1
low_of an_expr = 0
low_of (a_level n) = 0

-- marks with a need
abbrev pub mark_fronts : ℕ → List Mark → List Front
mark_fronts n [] = []
mark_fronts n (x ∷ xs) = at_least (the_mark x) n ∷ mark_fronts n xs

-- what can begin an operand
abbrev pub operand_fronts : List Front
operand_fronts = at_least any_number 0
    ∷ at_least any_name 0
    ∷ (mark_fronts 1 prefixes ++ at_least (the_mark m.Open) 1 ∷ at_least (the_mark m.OpenBrace) 1 ∷ at_least the_cast 1 ∷ [])

-- the same classes, each beside a part of this nesting
abbrev pub beside : ℕ → List Front → List Front
beside n [] = []
beside n (f ∷ fs) = at_least f.class (max n f.need) ∷ beside n fs

-- what can begin an item
abbrev pub item_fronts : List Front
item_fronts = at_least any_name 1
    ∷ at_least (the_word w.Input) 1
    ∷ at_least (the_word w.Output) 1
    ∷ at_least (the_word w.Genvar) 1
    ∷ at_least (the_word w.Generate) 1
    ∷ at_least (the_word w.For) 1
    ∷ at_least (the_word w.If) 1
    ∷ at_least (the_word w.Wire) 1
    ∷ at_least (the_word w.Reg) 1
    ∷ at_least (the_word w.Integer) 1
    ∷ at_least (the_word w.Parameter) 1
    ∷ at_least (the_word w.Localparam) 1
    ∷ at_least (the_word w.Assign) 2
    ∷ at_least (the_word w.Initial) 2
    ∷ at_least (the_word w.Always) 2
    ∷ []

-- what can begin a part
abbrev pub fronts_of : Nonterminal → List Front
fronts_of a_source = at_least (the_word w.Module) 0 ∷ at_least the_directive 0 ∷ []
fronts_of a_module = at_least (the_word w.Module) 0 ∷ []
fronts_of a_header_parameter = at_least (the_word w.Parameter) 0 ∷ at_least any_name 0 ∷ []
fronts_of directed_ports = at_least (the_word w.Input) 0 ∷ at_least (the_word w.Output) 0 ∷ []
fronts_of net_ports = at_least any_name 0 ∷ []
fronts_of variable_ports = at_least any_name 0 ∷ []
fronts_of port_names = at_least any_name 0 ∷ []
fronts_of a_bare_name = at_least any_name 0 ∷ []
fronts_of a_generate_block = at_least (the_mark m.Semicolon) 0 ∷ at_least (the_word w.Begin) 0 ∷ item_fronts
fronts_of a_local = at_least any_name 0 ∷ []
fronts_of an_item = item_fronts
fronts_of a_constant = at_least any_name 0 ∷ []
fronts_of an_instance = at_least any_name 0 ∷ []
fronts_of a_connection = at_least (the_mark m.Dot) 0 ∷ []
fronts_of a_net = at_least any_name 0 ∷ []
fronts_of a_variable = at_least any_name 0 ∷ []
fronts_of an_assignment = at_least any_name 1 ∷ at_least (the_mark m.OpenBrace) 2 ∷ []
fronts_of a_stmt = at_least any_name 2
    ∷ at_least (the_mark m.OpenBrace) 3
    ∷ at_least (the_mark m.Semicolon) 1
    ∷ at_least (the_word w.Begin) 1
    ∷ at_least (the_word w.If) 2
    ∷ at_least (the_word w.Case) 2
    ∷ at_least (the_word w.Casez) 2
    ∷ at_least (the_word w.Casex) 2
    ∷ at_least (the_word w.For) 2
    ∷ at_least (the_word w.While) 2
    ∷ at_least (the_word w.Repeat) 2
    ∷ at_least (the_word w.Forever) 2
    ∷ at_least (the_mark m.Hash) 2
    ∷ at_least (the_mark m.At) 2
    ∷ at_least the_print 1
    ∷ at_least the_finish 1
    ∷ at_least the_dump 1
    ∷ []
fronts_of an_argument = at_least the_time 0 ∷ operand_fronts
fronts_of a_dump_argument = at_least any_text 0 ∷ operand_fronts
fronts_of a_case_item = at_least (the_word w.Default) 1 ∷ beside 1 operand_fronts
fronts_of an_event_expr = at_least (the_word w.Posedge) 0 ∷ at_least (the_word w.Negedge) 0 ∷ at_least any_name 0 ∷ []
fronts_of a_target = at_least any_name 1 ∷ at_least (the_mark m.OpenBrace) 2 ∷ []
fronts_of an_expr = operand_fronts
fronts_of (a_level n) = operand_fronts

-- whether the grammar allows no token
abbrev pub null : Grammar → Bool
null nothing = true
null (token c) = false
null (seq a b) = null a && null b
null (either a b) = null a || null b
null (many a) = true
null (part p) = null_of p
null (node a) = null a
null (chain a b) = null a
null (optional c a) = true

-- the least nesting
abbrev pub low : Grammar → ℕ
low nothing = 0
low (token c) = 0
low (seq a b) = max (low a) (low b)
low (either a b) = min (low a) (low b)
low (many a) = 0
low (part p) = low_of p
low (node a) = suc (low a)
low (chain a b) = low a
low (optional c a) = 0

-- the same classes, one node up
abbrev pub above : List Front → List Front
above [] = []
above (f ∷ fs) = at_least f.class (suc f.need) ∷ above fs

-- what can begin a part of this grammar
abbrev pub fronts : Grammar → List Front
fronts nothing = []
fronts (token c) = at_least c 0 ∷ []
fronts (seq a b) = beside (low b) (fronts a) ++ cond (null a) (beside (low a) (fronts b)) []
fronts (either a b) = fronts a ++ fronts b
fronts (many a) = fronts a
fronts (part p) = fronts_of p
fronts (node a) = above (fronts a)
fronts (chain a b) = fronts a ++ cond (null a) (above (beside (low a) (fronts b))) []
fronts (optional c a) = at_least c (low a) ∷ []

-- whether the class is among them
abbrev pub among : Class → List Front → Bool
among c [] = false
among c (f ∷ fs) = same_class c f.class || among c fs

-- the need of the class, or 0 where it is not among them
abbrev pub need : Class → List Front → ℕ
need c [] = 0
need c (f ∷ fs) = cond (same_class c f.class) f.need (need c fs)

-- whether the next token can begin a part of this grammar
abbrev pub goes : Grammar → List Symbol → Bool
goes g ts = among (first ts) (fronts g)
