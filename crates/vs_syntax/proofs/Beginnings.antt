-- What is too deep is a token that is there.
use Rattle.std.specs.Prelude.{◌≡◌, ℕ, Bool, true, false, List, [], refl}
use Rattle.std.proofs.Common.{◌∙◌, ap}
use Rattle.vs_syntax.specs.Symbols.{Symbol, no_token, first}
use Rattle.vs_syntax.specs.Grammar.{Nonterminal, a_source, a_module, a_header_parameter, directed_ports, net_ports, variable_ports, port_names, a_bare_name, a_generate_block, a_local, an_item, a_constant, an_instance, a_connection, a_net, a_variable, an_assignment, a_stmt, an_argument, a_dump_argument, a_case_item, an_event_expr, a_target, an_expr, a_level, Grammar, nothing, token, seq, either, many, part, node, chain, optional}
use Rattle.vs_syntax.specs.Tables.{fronts_of, fronts, among, null, goes}
use Rattle.vs_syntax.specs.Reading.{Stuck, stuck_here, stuck_deep, stuck_first, stuck_second, stuck_left, stuck_right, stuck_many, stuck_more, stuck_part, stuck_node, stuck_one, stuck_link, stuck_high, stuck_behind}
use Rattle.vs_syntax.proofs.Fronts.{clash, goes-seq, goes-either, goes-node, goes-chain}
use Rattle.std.proofs.lemmas.Bool.{and_right as and_false}
use Rattle.vs_syntax.proofs.Least.{is_class, class_there, sound, rule_sound, sound_seq, sound_either, sound_many, sound_chain}
use Rattle.vs_logic4.proofs.Basics.{and_left, and_right}

part_there : (p : Nonterminal) → among no_token (fronts_of p) ≡ false
part_there a_source = refl
part_there a_module = refl
part_there a_header_parameter = refl
part_there directed_ports = refl
part_there net_ports = refl
part_there variable_ports = refl
part_there port_names = refl
part_there a_bare_name = refl
part_there a_generate_block = refl
part_there a_local = refl
part_there an_item = refl
part_there a_constant = refl
part_there an_instance = refl
part_there a_connection = refl
part_there a_net = refl
part_there a_variable = refl
part_there an_assignment = refl
part_there a_stmt = refl
part_there an_argument = refl
part_there a_dump_argument = refl
part_there a_case_item = refl
part_there an_event_expr = refl
part_there a_target = refl
part_there an_expr = refl
part_there (a_level n) = refl

-- the end begins no part
pub end_begins_none : (g : Grammar) → sound g ≡ true → goes g [] ≡ false
end_begins_none nothing h = refl
end_begins_none (token c) h = class_there c h
end_begins_none (seq a b) h = let s = sound_seq a b h in goes-seq a b [] ∙ rw (end_begins_none a s.0) (and_false (null a) (goes b []) (end_begins_none b s.1))
end_begins_none (either a b) h = let s = sound_either a b h in goes-either a b [] ∙ rw (end_begins_none a s.0) (end_begins_none b s.1)
end_begins_none (many a) h = end_begins_none a (sound_many a h).0
end_begins_none (part p) h = part_there p
end_begins_none (node a) h = goes-node a [] ∙ end_begins_none a h
end_begins_none (chain a b) h = let s = sound_chain a b h in goes-chain a b [] ∙ rw (end_begins_none a s.0) (and_false (null a) (goes b []) (end_begins_none b s.1))
end_begins_none (optional c a) h = class_there c (and_left (is_class c) (sound a) h)

there_by : (g : Grammar) (ts : List Symbol) → sound g ≡ true → goes g ts ≡ true → first ts ≡ no_token → ⊥
there_by g ts h i e = clash i (ap (λ c. among c (fronts g)) e ∙ end_begins_none g h)

-- Where reading stopped since it is too deep, a token is next.
pub stuck_there : {g : Grammar} {depth : ℕ} {deep : Bool} {ts rest : List Symbol} → Stuck g depth deep ts rest → sound g ≡ true → deep ≡ true → first rest ≡ no_token → ⊥
stuck_there (stuck_here n h) i d e = clash d refl
stuck_there (stuck_deep {a = a} {ts = ts} h n) i d e = there_by a ts i h e
stuck_there (stuck_first {a = a} {b = b} s) i d e = stuck_there s (sound_seq a b i).0 d e
stuck_there (stuck_second {a = a} {b = b} p s) i d e = stuck_there s (sound_seq a b i).1 d e
stuck_there (stuck_left {a = a} {b = b} h n s) i d e = stuck_there s (sound_either a b i).0 d e
stuck_there (stuck_right {a = a} {b = b} h n s) i d e = stuck_there s (sound_either a b i).1 d e
stuck_there (stuck_many {a = a} h n s) i d e = stuck_there s (sound_many a i).0 d e
stuck_there (stuck_more h p s) i d e = stuck_there s i d e
stuck_there (stuck_part {p = k} s) i d e = stuck_there s (rule_sound k) d e
stuck_there (stuck_node n s) i d e = stuck_there s i d e
stuck_there (stuck_one {a = a} {b = b} s) i d e = stuck_there s (sound_chain a b i).0 d e
stuck_there (stuck_link {a = a} {b = b} p n h s) i d e = stuck_there s (sound_chain a b i).1 d e
stuck_there (stuck_high {a = a} {b = b} {mid = mid} p h n) i d e = there_by b mid (sound_chain a b i).1 h e
stuck_there (stuck_behind {c = c} {a = a} h n s) i d e = stuck_there s (and_right (is_class c) (sound a) i) d e
