-- A least tree of each part.
use Rattle.std.specs.Prelude.{◌≡◌, ℕ, zero, suc, min, ◌==◌, nat_le, not, Bool, true, false, cond, ◌&&◌, ◌||◌, List, [], ◌∷◌, ◌++◌, length, refl, replicate}
use Rattle.std.proofs.Common.{sym, ◌∙◌, ap, inr, arith}
use Rattle.std.proofs.lemmas.Bool.Decides.{nat_tests}
use Rattle.std.proofs.lemmas.Bool.{eqb-true, not-true}
use Rattle.vs_syntax.proofs.Fronts.{among-append}
use Rattle.std.proofs.lemmas.Bool.{or_parts as or_false}
use Rattle.vs_logic4.specs.declared.digit.Digit.TheVariants.{Zero}
use Rattle.vs_lexer.specs.declared.token.ImplicitNet.TheVariants.{Wire}
use Rattle.vs_lexer.specs.declared.token.Directive.TheVariants.{DefaultNettype}
use Rattle.vs_syntax.specs.declared.tree.PrintTask.TheVariants.{Display}
use Rattle.vs_syntax.specs.declared.tree.DumpTask.TheVariants.{File}
use Rattle.vs_lexer.specs.declared.token.Literal.{Literal}
use Rattle.vs_lexer.specs.declared.token.Mark.{Mark}
use Rattle.vs_lexer.specs.declared.token.Mark.TheVariants as m
use Rattle.vs_lexer.specs.declared.token.Word.TheVariants as w
use Rattle.vs_syntax.specs.Symbols.{Symbol, a_mark, a_word, a_name, a_number, a_cast, a_text, a_print, a_finish, a_dump, a_time, a_directive, another, Class, no_token, the_mark, the_word, any_name, any_number, the_cast, any_text, the_print, the_finish, the_dump, the_time, the_directive, any_other, class_of, same_class, first}
use Rattle.vs_syntax.specs.Grammar.{Nonterminal, a_source, a_module, a_header_parameter, directed_ports, net_ports, variable_ports, port_names, a_bare_name, a_generate_block, a_local, an_item, a_constant, an_instance, a_connection, a_net, a_variable, an_assignment, a_stmt, an_argument, a_dump_argument, a_case_item, an_event_expr, a_target, an_expr, a_level, Grammar, nothing, token, seq, either, many, part, node, chain, optional, select, operands, levels, level_at, rule}
use Rattle.vs_syntax.specs.Tables.{low_of, mark_fronts, null, low, fronts, among, goes}
use Rattle.vs_syntax.specs.Derivation.{Tree, empty, leaf, both, down, tokens, height, Is, is_nothing, is_token, is_seq, is_left, is_right, is_stop, is_part, is_node, is_one, is_absent}
use Rattle.vs_syntax.proofs.Ends.{goes_on, again, level_lasts, link_fronts}
use Rattle.vs_logic4.proofs.Basics.{and_left, and_right}

-- a literal of 32 zeros
abbrev pub zero_literal : Literal
zero_literal = record { value = replicate 32 Zero; signed = true; based = false }

-- a symbol of the class
abbrev pub sample : Class → Symbol
sample no_token = another
sample (the_mark x) = a_mark x
sample (the_word x) = a_word x
sample any_name = a_name (97 ∷ [])
sample any_number = a_number zero_literal
sample the_cast = a_cast true
sample any_text = a_text []
sample the_print = a_print Display
sample the_finish = a_finish
sample the_dump = a_dump File
sample the_time = a_time
sample the_directive = a_directive (DefaultNettype Wire)
sample any_other = another

-- whether a symbol has the class
abbrev pub is_class : Class → Bool
is_class no_token = false
is_class _ = true

sample-class : (c : Class) → is_class c ≡ true → class_of (sample c) ≡ c
sample-class no_token h = cc
sample-class (the_mark x) h = refl
sample-class (the_word x) h = refl
sample-class any_name h = refl
sample-class any_number h = refl
sample-class the_cast h = refl
sample-class any_text h = refl
sample-class the_print h = refl
sample-class the_finish h = refl
sample-class the_dump h = refl
sample-class the_time h = refl
sample-class the_directive h = refl
sample-class any_other h = refl

-- a least name with its value
abbrev pub least_constant : Tree
least_constant = both (leaf (sample any_name)) (both (leaf (a_mark m.Assign)) (leaf (sample any_number)))

-- a least name of a port, with none behind it
abbrev pub least_port : Tree
least_port = both (leaf (sample any_name)) (both empty empty)

-- a least statement
abbrev pub least_stmt : Tree
least_stmt = down (both (leaf (a_mark m.Semicolon)) empty)

-- a least tree of each part
abbrev pub least_of : Nonterminal → Tree
least_of a_source = empty
least_of a_module = both (leaf (a_word w.Module)) (both (leaf (sample any_name)) (both empty (both empty (both (leaf (a_mark m.Semicolon)) (both empty (leaf (a_word w.Endmodule)))))))
least_of a_header_parameter = both empty least_constant
least_of directed_ports = both (leaf (a_word w.Input)) (both empty (both (both empty empty) least_port))
least_of net_ports = least_port
least_of variable_ports = least_port
least_of port_names = least_port
least_of a_bare_name = leaf (sample any_name)
least_of a_generate_block = leaf (a_mark m.Semicolon)
least_of a_local = both (leaf (sample any_name)) empty
least_of an_item = down (both (leaf (a_word w.Reg)) (both (both empty empty) (both (both (leaf (sample any_name)) empty) (both empty (leaf (a_mark m.Semicolon))))))
least_of a_constant = least_constant
least_of an_instance = both (leaf (sample any_name)) (both (leaf (a_mark m.Open)) (both (both empty empty) (leaf (a_mark m.Close))))
least_of a_connection = both (leaf (a_mark m.Dot)) (both (leaf (sample any_name)) (both (leaf (a_mark m.Open)) (both empty (leaf (a_mark m.Close)))))
least_of a_net = both (leaf (sample any_name)) empty
least_of a_variable = both (leaf (sample any_name)) empty
least_of an_assignment = both (down (both (leaf (sample any_name)) empty)) (both (leaf (a_mark m.Assign)) (leaf (sample any_number)))
least_of a_stmt = least_stmt
least_of an_argument = leaf a_time
least_of a_dump_argument = leaf (a_text [])
least_of a_case_item = both (leaf (a_word w.Default)) (both empty least_stmt)
least_of an_event_expr = both empty (both (leaf (sample any_name)) empty)
least_of a_target = down (both (leaf (sample any_name)) empty)
least_of an_expr = leaf (sample any_number)
least_of (a_level n) = leaf (sample any_number)

-- the end goes on with nothing
pub mark_end : (ops : List Mark) → among no_token (mark_fronts 0 ops) ≡ false
mark_end [] = refl
mark_end (op ∷ ops) = mark_end ops

level_end : (n : ℕ) → among no_token (level_lasts n) ≡ false
level_end zero = refl
level_end (suc n) = among-append no_token (mark_fronts 0 (level_at levels n)) (level_lasts n) ∙ rw (mark_end (level_at levels n)) (level_end n)

operands_least : (n : ℕ) (ops : List Mark) (x : Tree) (more : List Symbol) → among (first more) (mark_fronts 0 ops ++ level_lasts n) ≡ false → (among (first more) (level_lasts n) ≡ false → Is (part (a_level n)) x more) → Is (operands (a_level n) ops) x more
operands_least n [] x more h f = f h
operands_least n (op ∷ ops) x more h f =
    let o = or_false (among (first more) (mark_fronts 0 (op ∷ ops))) (among (first more) (level_lasts n)) (sym (among-append (first more) (mark_fronts 0 (op ∷ ops)) (level_lasts n)) ∙ h) in
    is_one (link_fronts n op ops (first more) ∙ o.0) (f o.1)

-- a number alone is an expression of each level, where no operator of the level follows it
level_least : (n : ℕ) (more : List Symbol) → among (first more) (level_lasts n) ≡ false → Is (part (a_level n)) (leaf (sample any_number)) more
level_least zero more h = is_part (is_left refl (is_token refl))
level_least (suc n) more h = is_part (operands_least n (level_at levels n) (leaf (sample any_number)) more h (level_least n more))

expr_least : Is (part an_expr) (leaf (sample any_number)) []
expr_least = is_part (is_one refl (level_least (length levels) [] refl))

target_least : {more : List Symbol} → goes select more ≡ false → Is (part a_target) (least_of a_target) more
target_least h = is_part (is_node (is_left refl (is_seq (is_token refl) (is_stop h))))

constant_least : Is (part a_constant) least_constant []
constant_least = is_part (is_seq (is_token refl) (is_seq (is_token refl) expr_least))

net_ports_least : Is (part net_ports) least_port []
net_ports_least = is_part (is_seq (is_token refl) (is_seq is_nothing (is_right refl is_nothing)))

stmt_least : Is (part a_stmt) least_stmt []
stmt_least = is_part (is_node (is_right refl (is_left refl (is_seq (is_token refl) is_nothing))))

pub rule_least : (p : Nonterminal) → Is (part p) (least_of p) []
rule_least a_source = is_part (is_stop refl)
rule_least a_module = is_part (is_seq (is_token refl) (is_seq (is_token refl) (is_seq (is_right refl is_nothing) (is_seq (is_right refl is_nothing)
    (is_seq (is_token refl) (is_seq (is_stop refl) (is_token refl)))))))
rule_least a_header_parameter = is_part (is_seq (is_right refl is_nothing) constant_least)
rule_least directed_ports = is_part (is_seq (is_left refl (is_token refl)) (is_right refl (is_seq (is_right refl is_nothing) (is_seq (is_seq (is_right refl is_nothing) (is_right refl is_nothing)) net_ports_least))))
rule_least net_ports = net_ports_least
rule_least variable_ports = is_part (is_seq (is_token refl) (is_seq (is_right refl is_nothing) (is_right refl is_nothing)))
rule_least port_names = is_part (is_seq (is_token refl) (is_seq is_nothing (is_right refl is_nothing)))
rule_least a_bare_name = is_part (is_token refl)
rule_least a_generate_block = is_part (is_left refl (is_token refl))
rule_least a_local = is_part (is_seq (is_token refl) (is_right refl is_nothing))
rule_least an_item = is_part (is_node (is_right refl (is_right refl (is_right refl (is_right refl (is_right refl (is_right refl (is_right refl (is_right refl (is_left refl (is_seq (is_token refl) (is_seq (is_seq (is_right refl is_nothing) (is_right refl is_nothing))
    (is_seq (is_part (is_seq (is_token refl) (is_right refl (is_right refl is_nothing)))) (is_seq (is_stop refl) (is_token refl)))))))))))))))
rule_least a_constant = constant_least
rule_least an_instance = is_part (is_seq (is_token refl) (is_seq (is_token refl) (is_seq (is_right refl (is_seq (is_right refl is_nothing) (is_stop refl))) (is_token refl))))
rule_least a_connection = is_part (is_seq (is_token refl) (is_seq (is_token refl) (is_seq (is_token refl) (is_seq (is_right refl is_nothing) (is_token refl)))))
rule_least a_net = is_part (is_seq (is_token refl) (is_right refl is_nothing))
rule_least a_variable = is_part (is_seq (is_token refl) (is_right refl (is_right refl is_nothing)))
rule_least an_assignment = is_part (is_seq (target_least refl) (is_seq (is_token refl) expr_least))
rule_least a_stmt = stmt_least
rule_least an_argument = is_part (is_left refl (is_token refl))
rule_least a_dump_argument = is_part (is_left refl (is_token refl))
rule_least a_case_item = is_part (is_left refl (is_seq (is_token refl) (is_seq (is_right refl is_nothing) stmt_least)))
rule_least an_event_expr = is_part (is_seq (is_right refl (is_right refl is_nothing)) (is_seq (is_token refl) (is_stop refl)))
rule_least a_target = target_least refl
rule_least an_expr = expr_least
rule_least (a_level n) = level_least n [] (level_end n)

least_of-height : (p : Nonterminal) → height (least_of p) ≡ low_of p
least_of-height a_source = refl
least_of-height a_module = refl
least_of-height a_header_parameter = refl
least_of-height directed_ports = refl
least_of-height net_ports = refl
least_of-height variable_ports = refl
least_of-height port_names = refl
least_of-height a_bare_name = refl
least_of-height a_generate_block = refl
least_of-height a_local = refl
least_of-height an_item = refl
least_of-height a_constant = refl
least_of-height an_instance = refl
least_of-height a_connection = refl
least_of-height a_net = refl
least_of-height a_variable = refl
least_of-height an_assignment = refl
least_of-height a_stmt = refl
least_of-height an_argument = refl
least_of-height a_dump_argument = refl
least_of-height a_case_item = refl
least_of-height an_event_expr = refl
least_of-height a_target = refl
least_of-height an_expr = refl
least_of-height (a_level n) = refl

-- a least tree of the grammar
abbrev pub least : Grammar → Tree
least nothing = empty
least (token c) = leaf (sample c)
least (seq a b) = both (least a) (least b)
least (either a b) = cond (nat_le (low a) (low b)) (least a) (least b)
least (many a) = empty
least (part p) = least_of p
least (node a) = down (least a)
least (chain a b) = least a
least (optional c a) = empty

-- whether parts of the grammar can be ended by least ones
abbrev pub sound : Grammar → Bool
sound nothing = true
sound (token c) = is_class c
sound (seq a b) = sound a && (sound b && not (goes_on false a (first (tokens (least b)))))
sound (either a b) = sound a && (sound b && (not (null a) && cond (nat_le (low a) (low b)) (goes a (tokens (least a))) (not (goes a (tokens (least b))))))
sound (many a) = sound a && not (goes_on false a no_token || among no_token (fronts a))
sound (part p) = true
sound (node a) = sound a
sound (chain a b) = sound a && (sound b && (not (goes_on false a no_token || among no_token (fronts b)) && (low b == 0 && not (null a))))
sound (optional c a) = is_class c && sound a

-- whether each level of the table passes, by its number
abbrev pub rows_pass : (ℕ → List Mark → Bool) → List (List Mark) → Bool
rows_pass p [] = true
rows_pass p (ops ∷ ls) = p zero ops && rows_pass (λ n. p (suc n)) ls

-- what each level of the table passes, and one without operators, each level passes
pub row_passes : (p : ℕ → List Mark → Bool) → ((n : ℕ) → p n [] ≡ true) → (ls : List (List Mark)) → rows_pass p ls ≡ true → (n : ℕ) → p n (level_at ls n) ≡ true
row_passes p f [] h n = f n
row_passes p f (ops ∷ ls) h zero = and_left (p zero ops) (rows_pass (λ n. p (suc n)) ls) h
row_passes p f (ops ∷ ls) h (suc n) = row_passes (λ k. p (suc k)) (λ k. f (suc k)) ls (and_right (p zero ops) (rows_pass (λ n. p (suc n)) ls) h) n

pub rule_sound : (p : Nonterminal) → sound (rule p) ≡ true
rule_sound a_source = refl
rule_sound a_module = refl
rule_sound a_header_parameter = refl
rule_sound directed_ports = refl
rule_sound net_ports = refl
rule_sound variable_ports = refl
rule_sound port_names = refl
rule_sound a_bare_name = refl
rule_sound a_generate_block = refl
rule_sound a_local = refl
rule_sound an_item = refl
rule_sound a_constant = refl
rule_sound an_instance = refl
rule_sound a_connection = refl
rule_sound a_net = refl
rule_sound a_variable = refl
rule_sound an_assignment = refl
rule_sound a_stmt = refl
rule_sound an_argument = refl
rule_sound a_dump_argument = refl
rule_sound a_case_item = refl
rule_sound an_event_expr = refl
rule_sound a_target = refl
rule_sound an_expr = refl
rule_sound (a_level zero) = refl
rule_sound (a_level (suc n)) = row_passes (λ k ops. sound (operands (a_level k) ops)) (λ k. refl) levels refl n

-- a class that a symbol has is not that of the end
pub class_there : (c : Class) → is_class c ≡ true → (same_class no_token c || false) ≡ false
class_there no_token h = cc
class_there (the_mark m) h = refl
class_there (the_word w) h = refl
class_there any_name h = refl
class_there any_number h = refl
class_there the_cast h = refl
class_there any_text h = refl
class_there the_print h = refl
class_there the_finish h = refl
class_there the_dump h = refl
class_there the_time h = refl
class_there the_directive h = refl
class_there any_other h = refl

pub first_nil : (xs : List Symbol) → first (xs ++ []) ≡ first xs
first_nil [] = refl
first_nil (x ∷ xs) = refl

least_either : (a b : Grammar) (s : Bool) → Is a (least a) [] → Is b (least b) [] → cond s (goes a (tokens (least a))) (not (goes a (tokens (least b)))) ≡ true → Is (either a b) (cond s (least a) (least b)) []
least_either a b true p q h = is_left (ap (λ c. among c (fronts a)) (first_nil (tokens (least a))) ∙ h) p
least_either a b false p q h = is_right (ap (λ c. among c (fronts a)) (first_nil (tokens (least b))) ∙ not-true (goes a (tokens (least b))) h) q

-- with the least tree of the next part
pub before_least : (a b : Grammar) (x : Tree) (m : List Symbol) → Is a x m → goes_on false a (first (tokens (least b))) ≡ false → Is a x (tokens (least b) ++ [])
before_least a b x m p h = again p (tokens (least b) ++ []) (inr (ap (goes_on false a) (first_nil (tokens (least b))) ∙ h))

-- the premises of a sequence
pub sound_seq : (a b : Grammar) → sound (seq a b) ≡ true → (sound a ≡ true) × (sound b ≡ true) × (goes_on false a (first (tokens (least b))) ≡ false)
sound_seq a b h =
    let r = and_right (sound a) (sound b && not (goes_on false a (first (tokens (least b))))) h in
    (and_left (sound a) (sound b && not (goes_on false a (first (tokens (least b))))) h, and_left (sound b) (not (goes_on false a (first (tokens (least b))))) r, not-true (goes_on false a (first (tokens (least b)))) (and_right (sound b) (not (goes_on false a (first (tokens (least b))))) r))

pub sound_either : (a b : Grammar) → sound (either a b) ≡ true → (sound a ≡ true) × (sound b ≡ true) × (cond (nat_le (low a) (low b)) (goes a (tokens (least a))) (not (goes a (tokens (least b)))) ≡ true) × (null a ≡ false)
sound_either a b h =
    let c = cond (nat_le (low a) (low b)) (goes a (tokens (least a))) (not (goes a (tokens (least b)))) in
    let n = not (null a) in
    let r = and_right (sound a) (sound b && (n && c)) h in
    let t = and_right (sound b) (n && c) r in
    (and_left (sound a) (sound b && (n && c)) h, and_left (sound b) (n && c) r, and_right n c t, not-true (null a) (and_left n c t))

pub sound_chain : (a b : Grammar) → sound (chain a b) ≡ true → (sound a ≡ true) × (sound b ≡ true) × (goes_on false a no_token ≡ false) × (among no_token (fronts b) ≡ false) × (low b ≡ 0) × (null a ≡ false)
sound_chain a b h =
    let s = not (goes_on false a no_token || among no_token (fronts b)) in
    let z = low b == 0 in
    let n = not (null a) in
    let r = and_right (sound a) (sound b && (s && (z && n))) h in
    let t = and_right (sound b) (s && (z && n)) r in
    let v = and_right s (z && n) t in
    let o = or_false (goes_on false a no_token) (among no_token (fronts b)) (not-true (goes_on false a no_token || among no_token (fronts b)) (and_left s (z && n) t)) in
    (and_left (sound a) (sound b && (s && (z && n))) h, and_left (sound b) (s && (z && n)) r, o.0, o.1, eqb-true (low b) 0 (and_left z n v), not-true (null a) (and_right z n v))

pub sound_many : (a : Grammar) → sound (many a) ≡ true → (sound a ≡ true) × (goes_on false a no_token ≡ false) × (among no_token (fronts a) ≡ false)
sound_many a h =
    let s = not (goes_on false a no_token || among no_token (fronts a)) in
    let o = or_false (goes_on false a no_token) (among no_token (fronts a)) (not-true (goes_on false a no_token || among no_token (fronts a)) (and_right (sound a) s h)) in
    (and_left (sound a) s h, o.0, o.1)

-- The least tree is one of the grammar.
pub least_is : (g : Grammar) → sound g ≡ true → Is g (least g) []
least_is nothing h = is_nothing
least_is (token c) h = is_token (sample-class c h)
least_is (seq a b) h =
    let s = sound_seq a b h in is_seq (before_least a b (least a) [] (least_is a s.0) s.2) (least_is b s.1)
least_is (either a b) h =
    let s = sound_either a b h in least_either a b (nat_le (low a) (low b)) (least_is a s.0) (least_is b s.1) s.2
least_is (many a) h = is_stop (sound_many a h).2
least_is (part p) h = rule_least p
least_is (node a) h = is_node (least_is a h)
least_is (chain a b) h = let s = sound_chain a b h in is_one s.3 (least_is a s.0)
least_is (optional c a) h = is_absent (class_there c (and_left (is_class c) (sound a) h))

height-cond : (s : Bool) (x y : Tree) → height (cond s x y) ≡ cond s (height x) (height y)
height-cond true x y = refl
height-cond false x y = refl

min-cond : (m n : ℕ) → cond (nat_le m n) m n ≡ min m n
min-cond m n = grind (arith, nat_tests)

-- Its nesting is the least.
pub least-height : (g : Grammar) → height (least g) ≡ low g
least-height nothing = refl
least-height (token c) = refl
least-height (seq a b) = rw (least-height a, least-height b) refl
least-height (either a b) = height-cond (nat_le (low a) (low b)) (least a) (least b) ∙ rw (least-height a, least-height b) (min-cond (low a) (low b))
least-height (many a) = refl
least-height (part p) = least_of-height p
least-height (node a) = ap suc (least-height a)
least-height (chain a b) = least-height a
least-height (optional c a) = refl
