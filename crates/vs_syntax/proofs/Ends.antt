-- What can go on behind a part: another token may follow a tree where none of its parts could go on with it.
use Rattle.std.specs.Prelude.{◌≡◌, ℕ, zero, suc, Bool, true, false, not, ◌&&◌, ◌||◌, ◌⊎◌, List, [], ◌∷◌, ◌++◌, length, refl}
use Rattle.std.proofs.Common.{sym, ◌∙◌, ap, inl, inr}
use Rattle.vs_lexer.specs.declared.token.Mark.{Mark}
use Rattle.vs_lexer.specs.declared.token.Mark.TheVariants as m
use Rattle.vs_lexer.specs.declared.token.Word.TheVariants as w
use Rattle.vs_syntax.specs.Symbols.{Symbol, Class, the_mark, the_word, the_directive, same_class, first}
use Rattle.vs_syntax.specs.Grammar.{Nonterminal, a_source, a_module, a_header_parameter, directed_ports, net_ports, variable_ports, port_names, a_bare_name, a_generate_block, a_local, an_item, a_constant, an_instance, a_connection, a_net, a_variable, an_assignment, a_stmt, an_argument, a_dump_argument, a_case_item, an_event_expr, a_target, an_expr, a_level, Grammar, nothing, token, seq, either, many, part, node, chain, optional, ◌·◌, one_or_more, one_mark, operands, a_condition, arm, levels, level_at, rule}
use Rattle.vs_syntax.specs.Tables.{Front, at_least, mark_fronts, null, fronts, among, goes}
use Rattle.vs_syntax.specs.Derivation.{Tree, tokens, Is, is_nothing, is_token, is_seq, is_left, is_right, is_stop, is_more, is_part, is_node, is_one, is_chain, is_present, is_absent}
use Rattle.vs_syntax.proofs.Fronts.{clash, goes_same, among-append, among-seq}
use Rattle.std.proofs.lemmas.Bool.{or_parts as or_false}
use Rattle.vs_syntax.proofs.Starts.{quiet, is_null}
use Rattle.vs_logic4.proofs.Basics.{or_none as or_nothing}

-- with what operands of so many levels can go on: the operators of these levels, and the selects of a name
abbrev pub level_lasts : ℕ → List Front
level_lasts zero = at_least (the_mark m.OpenBracket) 0 ∷ []
level_lasts (suc n) = mark_fronts 0 (level_at levels n) ++ level_lasts n

-- with what an expression can go on
abbrev pub expr_lasts : List Front
expr_lasts = at_least (the_mark m.Question) 0 ∷ level_lasts (length levels)

-- with what a statement can go on: in the plain reading with nothing
abbrev pub stmt_lasts : Bool → List Front
stmt_lasts true = []
stmt_lasts false = at_least (the_word w.Else) 0 ∷ []

-- with what ports can go on, of which the last may be a variable
abbrev pub port_lasts : List Front
port_lasts = at_least (the_mark m.Comma) 0 ∷ at_least (the_mark m.Assign) 0 ∷ expr_lasts

-- With what a part can go on behind its last token; in the plain reading without the classes of optional parts at its end,
-- since that reading says itself that no such token stands behind.
abbrev pub lasts_of : Bool → Nonterminal → List Front
lasts_of plain a_source = at_least (the_word w.Module) 0 ∷ at_least the_directive 0 ∷ []
lasts_of plain a_header_parameter = expr_lasts
lasts_of plain a_constant = expr_lasts
lasts_of plain directed_ports = port_lasts
lasts_of plain net_ports = port_lasts
lasts_of plain variable_ports = port_lasts
lasts_of plain port_names = at_least (the_mark m.Comma) 0 ∷ []
lasts_of plain a_generate_block = stmt_lasts plain
lasts_of plain a_local = at_least (the_mark m.OpenBracket) 0 ∷ []
lasts_of plain a_net = at_least (the_mark m.Assign) 0 ∷ expr_lasts
lasts_of plain a_variable = at_least (the_mark m.Assign) 0 ∷ at_least (the_mark m.OpenBracket) 0 ∷ expr_lasts
lasts_of plain an_assignment = expr_lasts
lasts_of plain a_target = at_least (the_mark m.OpenBracket) 0 ∷ []
lasts_of plain an_event_expr = at_least (the_mark m.OpenBracket) 0 ∷ []
lasts_of plain an_item = stmt_lasts plain
lasts_of plain a_stmt = stmt_lasts plain
lasts_of plain an_argument = expr_lasts
lasts_of plain a_dump_argument = expr_lasts
lasts_of plain a_case_item = stmt_lasts plain
lasts_of plain an_expr = expr_lasts
lasts_of plain (a_level n) = level_lasts n
lasts_of plain _ = []

-- whether a part of the grammar can go on with a token of the class
abbrev pub goes_on : Bool → Grammar → Class → Bool
goes_on plain nothing c = false
goes_on plain (token k) c = false
goes_on plain (seq a b) c = goes_on plain b c || (null b && goes_on plain a c)
goes_on plain (either a b) c = goes_on plain a c || (goes_on plain b c || (null b && among c (fronts a)))
goes_on plain (many a) c = goes_on plain a c || among c (fronts a)
goes_on plain (part p) c = among c (lasts_of plain p)
goes_on plain (node a) c = goes_on plain a c
goes_on plain (chain a b) c = goes_on plain a c || (goes_on plain b c || among c (fronts b))
goes_on plain (optional k a) c = goes_on plain a c || (not plain && same_class c k)

-- a mark of several
pub one_mark-null : (op : Mark) (ops : List Mark) → null (one_mark op ops) ≡ false
one_mark-null op [] = refl
one_mark-null op (x ∷ xs) = one_mark-null x xs

pub one_mark-fronts : (op : Mark) (ops : List Mark) → fronts (one_mark op ops) ≡ mark_fronts 0 (op ∷ ops)
one_mark-fronts op [] = refl
one_mark-fronts op (x ∷ xs) = ap (λ u. at_least (the_mark op) 0 ∷ u) (one_mark-fronts x xs)

-- what can begin a part behind one of several marks
pub marked_fronts : (op : Mark) (ops : List Mark) (a : Grammar) (c : Class) → among c (fronts (one_mark op ops · a)) ≡ among c (mark_fronts 0 (op ∷ ops))
marked_fronts op ops a c = among-seq (one_mark op ops) a c
    ∙ rw (one_mark-null op ops) (or_nothing (among c (fronts (one_mark op ops))))
    ∙ ap (among c) (one_mark-fronts op ops)

-- what can begin one or more
pub more_fronts : (a : Grammar) (c : Class) → null a ≡ false → among c (fronts (one_or_more a)) ≡ among c (fronts a)
more_fronts a c n = among-seq a (many a) c ∙ rw n (or_nothing (among c (fronts a)))

-- the operators of one level and their operands
pub link_fronts : (n : ℕ) (op : Mark) (ops : List Mark) (c : Class) → among c (fronts (one_or_more (one_mark op ops · part (a_level n)))) ≡ among c (mark_fronts 0 (op ∷ ops))
link_fronts n op ops c = more_fronts (one_mark op ops · part (a_level n)) c (rw (one_mark-null op ops) refl) ∙ marked_fronts op ops (part (a_level n)) c

-- what can go on behind a part and one or more others
chain_none : (first link next all : Bool) → first ≡ false → link ≡ false → next ≡ false → all ≡ false → (first || (((link || next) || link) || all)) ≡ false
chain_none first link next all p q r s = rw (p, q, r, s) refl

chain_goes_on : (plain : Bool) (a l : Grammar) (c : Class) → null l ≡ false → goes_on plain a c ≡ false → goes_on plain l c ≡ false → among c (fronts l) ≡ false → goes_on plain (chain a (one_or_more l)) c ≡ false
chain_goes_on plain a l c n p q r = chain_none (goes_on plain a c) (goes_on plain l c) (among c (fronts l)) (among c (fronts (one_or_more l))) p q r (more_fronts l c n ∙ r)

operands_go_on : (plain : Bool) (n : ℕ) (ops : List Mark) (c : Class) → among c (mark_fronts 0 ops ++ level_lasts n) ≡ false → goes_on plain (operands (a_level n) ops) c ≡ false
operands_go_on plain n [] c h = h
operands_go_on plain n (op ∷ ops) c h =
    let o = or_false (among c (mark_fronts 0 (op ∷ ops))) (among c (level_lasts n)) (sym (among-append c (mark_fronts 0 (op ∷ ops)) (level_lasts n)) ∙ h) in
    chain_goes_on plain (part (a_level n)) (one_mark op ops · part (a_level n)) c (rw (one_mark-null op ops) refl) o.1 (or_nothing (among c (level_lasts n)) ∙ o.1) (marked_fronts op ops (part (a_level n)) c ∙ o.0)

behind_three : (low : Bool) → low ≡ false → (((low || false) || false) || false) ≡ false
behind_three low h = rw h refl

expr_goes_on : (plain : Bool) (c : Class) → among c expr_lasts ≡ false → goes_on plain (rule an_expr) c ≡ false
expr_goes_on plain c h =
    let o = or_false (same_class c (the_mark m.Question)) (among c (level_lasts (length levels))) h in
    chain_goes_on plain (part a_condition) arm c refl o.1 (behind_three (among c (level_lasts (length levels))) o.1) (or_nothing (same_class c (the_mark m.Question)) ∙ o.0)

kept_one : (low : Bool) → low ≡ false → (low || false) ≡ false
kept_one true h = cc
kept_one false h = refl

kept : (low : Bool) → low ≡ false → ((low || false) || false) ≡ false
kept true h = cc
kept false h = refl

net_goes_on : (assign value : Bool) → (assign || value) ≡ false → ((value || false) || (assign || false) || false) ≡ false
net_goes_on false false h = refl
net_goes_on _ _ h = cc

-- none of three
none_of : (a b c : Bool) → (a || (b || c)) ≡ false → (a ≡ false) × (b ≡ false) × (c ≡ false)
none_of false false false h = (refl, refl, refl)
none_of _ _ _ h = cc

ports_go_on : (all : Bool) → all ≡ false → ((((all || false) || false) || (((all || false) || false) || false)) || false) ≡ false
ports_go_on all h = rw h refl

net_ports_go_on : (all comma : Bool) → all ≡ false → comma ≡ false → ((((((all || (all || false)) || false) || (comma || false)) || false)) || false) ≡ false
net_ports_go_on all comma h k = rw (h, k) refl

variable_ports_go_on : (all comma assign value : Bool) → all ≡ false → comma ≡ false → assign ≡ false → value ≡ false →
    (((((all || (all || false)) || false) || (comma || false)) || ((value || false) || (assign || false))) || false) ≡ false
variable_ports_go_on all comma assign value h k l n = rw (h, k, l, n) refl

variable_goes_on : (assign bracket value : Bool) → (assign || (bracket || value)) ≡ false → ((value || false) || ((bracket || false) || (assign || false)) || false) ≡ false
variable_goes_on false false false h = refl
variable_goes_on _ _ _ h = cc

operand_goes_on : (plain : Bool) (c : Class) → same_class c (the_mark m.OpenBracket) ≡ false → goes_on plain (rule (a_level zero)) c ≡ false
operand_goes_on plain c h = rw h refl

pub rule_goes_on : (plain : Bool) (p : Nonterminal) (c : Class) → among c (lasts_of plain p) ≡ false → goes_on plain (rule p) c ≡ false
rule_goes_on plain a_source c h = h
rule_goes_on plain a_module c h = refl
rule_goes_on plain a_header_parameter c h = kept_one (among c expr_lasts) h
rule_goes_on plain directed_ports c h = ports_go_on (among c port_lasts) h
rule_goes_on plain net_ports c h =
    net_ports_go_on (among c port_lasts) (same_class c (the_mark m.Comma)) h (none_of (same_class c (the_mark m.Comma)) (same_class c (the_mark m.Assign)) (among c expr_lasts) h).0
rule_goes_on plain variable_ports c h =
    let k = none_of (same_class c (the_mark m.Comma)) (same_class c (the_mark m.Assign)) (among c expr_lasts) h in
    variable_ports_go_on (among c port_lasts) (same_class c (the_mark m.Comma)) (same_class c (the_mark m.Assign)) (among c expr_lasts) h k.0 k.1 k.2
rule_goes_on plain port_names c h = rw (or_false (same_class c (the_mark m.Comma)) false h).0 refl
rule_goes_on plain a_bare_name c h = refl
rule_goes_on true a_generate_block c h = refl
rule_goes_on false a_generate_block c h = rw (or_false (same_class c (the_word w.Else)) false h).0 refl
rule_goes_on plain a_local c h = rw (or_false (same_class c (the_mark m.OpenBracket)) false h).0 refl
rule_goes_on true an_item c h = refl
rule_goes_on false an_item c h = rw (or_false (same_class c (the_word w.Else)) false h).0 refl
rule_goes_on plain a_constant c h = kept (among c expr_lasts) h
rule_goes_on plain an_instance c h = refl
rule_goes_on plain a_connection c h = refl
rule_goes_on true a_stmt c h = refl
rule_goes_on false a_stmt c h = rw (or_false (same_class c (the_word w.Else)) false h).0 refl
rule_goes_on plain an_argument c h = kept_one (among c expr_lasts) h
rule_goes_on plain a_dump_argument c h = kept_one (among c expr_lasts) h
rule_goes_on true a_case_item c h = refl
rule_goes_on false a_case_item c h = rw (or_false (same_class c (the_word w.Else)) false h).0 refl
rule_goes_on plain an_event_expr c h = rw (or_false (same_class c (the_mark m.OpenBracket)) false h).0 refl
rule_goes_on plain a_target c h = kept (among c (lasts_of plain a_target)) h
rule_goes_on plain a_net c h = net_goes_on (same_class c (the_mark m.Assign)) (among c expr_lasts) h
rule_goes_on plain a_variable c h = variable_goes_on (same_class c (the_mark m.Assign)) (same_class c (the_mark m.OpenBracket)) (among c expr_lasts) h
rule_goes_on plain an_assignment c h = kept (among c expr_lasts) h
rule_goes_on plain an_expr c h = expr_goes_on plain c h
rule_goes_on plain (a_level zero) c h = operand_goes_on plain c (or_false (same_class c (the_mark m.OpenBracket)) false h).0
rule_goes_on plain (a_level (suc n)) c h = operands_go_on plain n (level_at levels n) c h

-- in the place of the symbols m others may follow
abbrev pub MayFollow : Grammar → List Symbol → List Symbol → Type 0
MayFollow g m n = (first n ≡ first m) ⊎ (goes_on false g (first n) ≡ false)

follow_map : (g a : Grammar) (m n : List Symbol) → (goes_on false g (first n) ≡ false → goes_on false a (first n) ≡ false) → MayFollow g m n → MayFollow a m n
follow_map g a m n f (inl e) = inl e
follow_map g a m n f (inr h) = inr (f h)

follow_behind : (a : Grammar) (ys m n : List Symbol) → (ys ≡ [] → MayFollow a m n) → MayFollow a (ys ++ m) (ys ++ n)
follow_behind a [] m n f = f refl
follow_behind a (y ∷ ys) m n f = inl refl

-- a part that can be begun so can be begun so, whatever stands behind
pub goes_again : (a : Grammar) (xs m n : List Symbol) → goes a (xs ++ m) ≡ true → (xs ≡ [] → goes a m ≡ false) → goes a (xs ++ n) ≡ true
goes_again a [] m n h k = absurd (clash h (k refl))
goes_again a (x ∷ xs) m n h k = h

none_again : (a : Grammar) (xs m n : List Symbol) → goes a (xs ++ m) ≡ false → (xs ≡ [] → goes a m ≡ false → goes a n ≡ false) → goes a (xs ++ n) ≡ false
none_again a [] m n h k = k refl h
none_again a (x ∷ xs) m n h k = h

stops_again : (g a : Grammar) (m n : List Symbol) → (goes_on false g (first n) ≡ false → goes a n ≡ false) → MayFollow g m n → goes a m ≡ false → goes a n ≡ false
stops_again g a m n f (inl e) h = goes_same a n m e ∙ h
stops_again g a m n f (inr k) h = f k

pub and_true : (a b : Bool) → a ≡ true → (a && b) ≡ false → b ≡ false
and_true a b p h = ap (λ u. u && b) (sym p) ∙ h

-- Other symbols may follow a tree, where they begin alike or the part can't go on with them.
pub again : {g : Grammar} {x : Tree} {m : List Symbol} → Is g x m → (n : List Symbol) → MayFollow g m n → Is g x n
again is_nothing n f = is_nothing
again (is_token p) n f = is_token p
again (is_seq {a = a} {b = b} {x = x} {y = y} {more = m} p q) n f =
    is_seq
    (again p (tokens y ++ n) (follow_behind a (tokens y) m n (λ e. follow_map (seq a b) a m n (λ h. and_true (null b) (goes_on false a (first n)) (is_null q e) (or_false (goes_on false b (first n)) (null b && goes_on false a (first n)) h).1) f)))
    (again q n (follow_map (seq a b) b m n (λ h. (or_false (goes_on false b (first n)) (null b && goes_on false a (first n)) h).0) f))
again (is_left {a = a} {b = b} {x = x} {more = m} h p) n f =
    is_left (goes_again a (tokens x) m n h (λ e. quiet p e))
    (again p n (follow_map (either a b) a m n (λ k. (or_false (goes_on false a (first n)) (goes_on false b (first n) || (null b && goes a n)) k).0) f))
again (is_right {a = a} {b = b} {x = x} {more = m} h p) n f =
    is_right
    (none_again a (tokens x) m n h (λ e i. stops_again (either a b) a m n
    (λ k. and_true (null b) (goes a n) (is_null p e) (or_false (goes_on false b (first n)) (null b && goes a n) (or_false (goes_on false a (first n)) (goes_on false b (first n) || (null b && goes a n)) k).1).1) f i))
    (again p n (follow_map (either a b) b m n (λ k. (or_false (goes_on false b (first n)) (null b && goes a n) (or_false (goes_on false a (first n)) (goes_on false b (first n) || (null b && goes a n)) k).1).0) f))
again (is_stop {a = a} {more = m} h) n f = is_stop (stops_again (many a) a m n (λ k. (or_false (goes_on false a (first n)) (goes a n) k).1) f h)
again (is_more {a = a} {x = x} {y = y} {more = m} h p q) n f =
    is_more (goes_again a (tokens x) (tokens y ++ m) (tokens y ++ n) h (λ e. quiet p e))
    (again p (tokens y ++ n) (follow_behind a (tokens y) m n (λ e. follow_map (many a) a m n (λ k. (or_false (goes_on false a (first n)) (goes a n) k).0) f)))
    (again q n f)
again (is_part {p = k} {more = m} p) n f = is_part (again p n (follow_map (part k) (rule k) m n (λ h. rule_goes_on false k (first n) h) f))
again (is_node p) n f = is_node (again p n f)
again (is_one {a = a} {b = b} {more = m} h p) n f =
    is_one (stops_again (chain a b) b m n (λ k. (or_false (goes_on false b (first n)) (goes b n) (or_false (goes_on false a (first n)) (goes_on false b (first n) || goes b n) k).1).1) f h)
    (again p n (follow_map (chain a b) a m n (λ k. (or_false (goes_on false a (first n)) (goes_on false b (first n) || goes b n) k).0) f))
again (is_chain {a = a} {b = b} {x = x} {y = y} {more = m} h p q) n f =
    is_chain (goes_again b (tokens y) m n h (λ e. quiet q e))
    (again p (tokens y ++ n) (follow_behind a (tokens y) m n (λ e. follow_map (chain a b) a m n (λ k. (or_false (goes_on false a (first n)) (goes_on false b (first n) || goes b n) k).0) f)))
    (again q n (follow_map (chain a b) b m n (λ k. (or_false (goes_on false b (first n)) (goes b n) (or_false (goes_on false a (first n)) (goes_on false b (first n) || goes b n) k).1).0) f))
again (is_present {c = c} {a = a} {more = m} h p) n f = is_present h (again p n (follow_map (optional c a) a m n (λ k. (or_false (goes_on false a (first n)) (same_class (first n) c) k).0) f))
again (is_absent {c = c} {a = a} {more = m} h) n f =
    is_absent (stops_again (optional c a) (optional c a) m n (λ k. or_nothing (same_class (first n) c) ∙ (or_false (goes_on false a (first n)) (same_class (first n) c) k).1) f h)
