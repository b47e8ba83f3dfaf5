-- The plain reading of the grammar and the one with a look at the next token are the same.
use Rattle.std.specs.Prelude.{◌≡◌, zero, suc, Bool, true, false, not, ◌&&◌, ◌||◌, ◌⊎◌, List, [], ◌∷◌, ◌++◌, refl}
use Rattle.std.proofs.Common.{sym, ◌∙◌, ap, inl, inr, append_assoc}
use denote.Enum.Bare.{same_true}
use Rattle.vs_lexer.specs.contracts.token.Mark as marks
use Rattle.vs_lexer.specs.contracts.token.Word as words
use Rattle.vs_syntax.specs.Symbols.{Symbol, Class, no_token, the_mark, the_word, any_name, any_number, the_cast, any_text, the_print, the_finish, the_dump, the_time, the_directive, any_other, class_of, first, same_class}
use Rattle.vs_syntax.specs.Grammar.{Nonterminal, a_source, a_module, a_header_parameter, directed_ports, net_ports, variable_ports, port_names, a_bare_name, a_generate_block, a_local, an_item, a_constant, an_instance, a_connection, a_net, a_variable, an_assignment, a_stmt, an_argument, a_dump_argument, a_case_item, an_event_expr, a_target, an_expr, a_level, Grammar, nothing, token, seq, either, many, part, node, chain, optional, operands, levels, rule}
use Rattle.vs_syntax.specs.Tables.{Front, null, fronts, among, goes}
use Rattle.vs_syntax.specs.Derivation.{Tree, down, tokens, Is, is_nothing, is_token, is_seq, is_left, is_right, is_stop, is_more, is_part, is_node, is_one, is_chain, is_present, is_absent}
use Rattle.vs_syntax.specs.Plain.{IsPlain, plain_nothing, plain_token, plain_seq, plain_left, plain_right, plain_stop, plain_more, plain_part, plain_node, plain_one, plain_chain, plain_present, plain_absent}
use Rattle.vs_syntax.proofs.Checks.{rule_null}
use Rattle.vs_syntax.proofs.Fronts.{clash, same_class-refl, goes-seq, goes-either, goes-node, goes-chain, goes-present}
use Rattle.std.proofs.lemmas.Bool.{or_parts as or_false, or_left, or_right, not-true as not_true}
use Rattle.vs_syntax.proofs.Starts.{nil_left, nil_right, goes-part}
use Rattle.vs_syntax.proofs.Ends.{goes_on, rule_goes_on, and_true}
use Rattle.vs_syntax.proofs.Least.{row_passes}
use Rattle.vs_logic4.proofs.Basics.{and_left, and_right}
use Rattle.std.proofs.lemmas.Bool.{and_from as and_both}

-- One reading is the other.
pub plainly : {g : Grammar} {x : Tree} {m : List Symbol} → Is g x m → IsPlain g x m
plainly is_nothing = plain_nothing
plainly (is_token p) = plain_token p
plainly (is_seq p q) = plain_seq (plainly p) (plainly q)
plainly (is_left h p) = plain_left (plainly p)
plainly (is_right h p) = plain_right (plainly p)
plainly (is_stop h) = plain_stop
plainly (is_more h p q) = plain_more (plainly p) (plainly q)
plainly (is_part p) = plain_part (plainly p)
plainly (is_node p) = plain_node (plainly p)
plainly (is_one h p) = plain_one (plainly p)
plainly (is_chain h p q) = plain_chain (plainly p) (plainly q)
plainly (is_present h p) = plain_present h (plainly p)
plainly (is_absent {c = c} {more = m} h) = plain_absent (λ e. clash (or_left (same_class (first m) c) false (ap (λ u. same_class (first m) u) (sym e) ∙ same_class-refl (first m))) h)

-- two classes of which the test says that they are equal
pub same_class-true : (c d : Class) → same_class c d ≡ true → c ≡ d
same_class-true no_token no_token h = refl
same_class-true (the_mark m) (the_mark n) h = ap the_mark (same_true marks.the_type tt m n h)
same_class-true (the_word v) (the_word w) h = ap the_word (same_true words.the_type tt v w h)
same_class-true any_name any_name h = refl
same_class-true any_number any_number h = refl
same_class-true the_cast the_cast h = refl
same_class-true any_text any_text h = refl
same_class-true the_print the_print h = refl
same_class-true the_finish the_finish h = refl
same_class-true the_dump the_dump h = refl
same_class-true the_time the_time h = refl
same_class-true the_directive the_directive h = refl
same_class-true any_other any_other h = refl
same_class-true _ _ h = cc

-- whether none of them passes
abbrev pub none_pass : (Class → Bool) → List Front → Bool
none_pass p [] = true
none_pass p (f ∷ fs) = not (p f.class) && none_pass p fs

none_pass-among : (p : Class → Bool) (c : Class) (fs : List Front) → none_pass p fs ≡ true → among c fs ≡ true → p c ≡ false
none_pass-among p c [] h k = cc
none_pass-among p c (f ∷ fs) h k =
    elim (same_class c f.class) as (λ s. same_class c f.class ≡ s → (s || among c fs) ≡ true → p c ≡ false) [
      | true ↦ λ e i. ap p (same_class-true c f.class e) ∙ not_true (p f.class) (and_left (not (p f.class)) (none_pass p fs) h)
      | false ↦ λ e i. none_pass-among p c fs (and_right (not (p f.class)) (none_pass p fs) h) i
    ] refl k

-- whether in this grammar the next token tells how to go on
abbrev pub decided : Grammar → Bool
decided nothing = true
decided (token c) = true
decided (seq a b) = decided a && (decided b && none_pass (goes_on true a) (fronts b))
decided (either a b) = decided a && (decided b && (not (null a) && none_pass (λ c. among c (fronts a)) (fronts b)))
decided (many a) = decided a && (not (null a) && none_pass (goes_on true a) (fronts a))
decided (part p) = true
decided (node a) = decided a
decided (chain a b) = decided a && (decided b && (not (null b) && none_pass (goes_on true a) (fronts b)))
decided (optional c a) = decided a

pub rule_decided : (p : Nonterminal) → decided (rule p) ≡ true
rule_decided a_source = refl
rule_decided a_module = refl
rule_decided a_header_parameter = refl
rule_decided directed_ports = refl
rule_decided net_ports = refl
rule_decided variable_ports = refl
rule_decided port_names = refl
rule_decided a_bare_name = refl
rule_decided a_generate_block = refl
rule_decided a_local = refl
rule_decided an_item = refl
rule_decided a_constant = refl
rule_decided an_instance = refl
rule_decided a_connection = refl
rule_decided a_net = refl
rule_decided a_variable = refl
rule_decided an_assignment = refl
rule_decided a_stmt = refl
rule_decided an_argument = refl
rule_decided a_dump_argument = refl
rule_decided a_case_item = refl
rule_decided an_event_expr = refl
rule_decided a_target = refl
rule_decided an_expr = refl
rule_decided (a_level zero) = refl
rule_decided (a_level (suc n)) = row_passes (λ k ops. decided (operands (a_level k) ops)) (λ k. refl) levels refl n

-- a tree without tokens stands only where the grammar allows none
plain_null : {g : Grammar} {x : Tree} {m : List Symbol} → IsPlain g x m → tokens x ≡ [] → null g ≡ true
plain_null plain_nothing e = refl
plain_null (plain_token p) e = cc
plain_null (plain_seq {a = a} {b = b} {x = x} {y = y} p q) e = and_both (null a) (null b) (plain_null p (nil_left (tokens x) (tokens y) e)) (plain_null q (nil_right (tokens x) (tokens y) e))
plain_null (plain_left {a = a} {b = b} p) e = or_left (null a) (null b) (plain_null p e)
plain_null (plain_right {a = a} {b = b} p) e = or_right (null a) (null b) (plain_null p e)
plain_null plain_stop e = refl
plain_null (plain_more p q) e = refl
plain_null (plain_part {p = k} p) e = sym (rule_null k) ∙ plain_null p e
plain_null (plain_node p) e = plain_null p e
plain_null (plain_one p) e = plain_null p e
plain_null (plain_chain {x = x} {y = y} p q) e = plain_null p (nil_left (tokens x) (tokens y) e)
plain_null (plain_present h p) e = refl
plain_null (plain_absent h) e = refl

-- A tree has no tokens, or begins as the grammar can: first for each operator.
starts_seq : (a b : Grammar) (x y : Tree) (m : List Symbol) → (tokens x ≡ [] → null a ≡ true) → (tokens x ≡ []) ⊎ (goes a (tokens x ++ (tokens y ++ m)) ≡ true) → (tokens y ≡ []) ⊎ (goes b (tokens y ++ m) ≡ true) → (tokens x ++ tokens y ≡ []) ⊎ (goes (seq a b) ((tokens x ++ tokens y) ++ m) ≡ true)
starts_seq a b x y m n (inr h) s = inr (ap (goes (seq a b)) (append_assoc (tokens x) (tokens y) m) ∙ goes-seq a b (tokens x ++ (tokens y ++ m)) ∙ or_left (goes a (tokens x ++ (tokens y ++ m))) (null a && goes b (tokens x ++ (tokens y ++ m))) h)
starts_seq a b x y m n (inl e) (inl f) = inl (rw (e, f) refl)
starts_seq a b x y m n (inl e) (inr h) =
    let t : (tokens x ++ tokens y) ++ m ≡ tokens y ++ m = ap (λ u. (u ++ tokens y) ++ m) e in
    inr (ap (goes (seq a b)) t ∙ goes-seq a b (tokens y ++ m) ∙ or_right (goes a (tokens y ++ m)) (null a && goes b (tokens y ++ m)) (and_both (null a) (goes b (tokens y ++ m)) (n e) h))

starts_chain : (a b : Grammar) (x y : Tree) (m : List Symbol) → (tokens x ≡ [] → null a ≡ true) → (tokens x ≡ []) ⊎ (goes a (tokens x ++ (tokens y ++ m)) ≡ true) → (tokens y ≡ []) ⊎ (goes b (tokens y ++ m) ≡ true) → (tokens x ++ tokens y ≡ []) ⊎ (goes (chain a b) ((tokens x ++ tokens y) ++ m) ≡ true)
starts_chain a b x y m n (inr h) s = inr (ap (goes (chain a b)) (append_assoc (tokens x) (tokens y) m) ∙ goes-chain a b (tokens x ++ (tokens y ++ m)) ∙ or_left (goes a (tokens x ++ (tokens y ++ m))) (null a && goes b (tokens x ++ (tokens y ++ m))) h)
starts_chain a b x y m n (inl e) (inl f) = inl (rw (e, f) refl)
starts_chain a b x y m n (inl e) (inr h) =
    let t : (tokens x ++ tokens y) ++ m ≡ tokens y ++ m = ap (λ u. (u ++ tokens y) ++ m) e in
    inr (ap (goes (chain a b)) t ∙ goes-chain a b (tokens y ++ m) ∙ or_right (goes a (tokens y ++ m)) (null a && goes b (tokens y ++ m)) (and_both (null a) (goes b (tokens y ++ m)) (n e) h))

starts_more : (a : Grammar) (x y : Tree) (m : List Symbol) → (tokens x ≡ []) ⊎ (goes a (tokens x ++ (tokens y ++ m)) ≡ true) → (tokens y ≡ []) ⊎ (goes a (tokens y ++ m) ≡ true) → (tokens x ++ tokens y ≡ []) ⊎ (goes a ((tokens x ++ tokens y) ++ m) ≡ true)
starts_more a x y m (inr h) s = inr (ap (goes a) (append_assoc (tokens x) (tokens y) m) ∙ h)
starts_more a x y m (inl e) (inl f) = inl (rw (e, f) refl)
starts_more a x y m (inl e) (inr h) = inr (ap (λ u. goes a ((u ++ tokens y) ++ m)) e ∙ h)

starts_map : (a g : Grammar) (x : Tree) (m : List Symbol) → (goes a (tokens x ++ m) ≡ true → goes g (tokens x ++ m) ≡ true) → (tokens x ≡ []) ⊎ (goes a (tokens x ++ m) ≡ true) → (tokens x ≡ []) ⊎ (goes g (tokens x ++ m) ≡ true)
starts_map a g x m f (inl e) = inl e
starts_map a g x m f (inr h) = inr (f h)

plain_starts : {g : Grammar} {x : Tree} {n : List Symbol} → IsPlain g x n → (m : List Symbol) → (tokens x ≡ []) ⊎ (goes g (tokens x ++ m) ≡ true)
plain_starts plain_nothing m = inl refl
plain_starts (plain_token {c = c} {x = s} p) m = inr (or_left (same_class (class_of s) c) false (ap (λ u. same_class (class_of s) u) (sym p) ∙ same_class-refl (class_of s)))
plain_starts (plain_seq {a = a} {b = b} {x = x} {y = y} p q) m = starts_seq a b x y m (λ e. plain_null p e) (plain_starts p (tokens y ++ m)) (plain_starts q m)
plain_starts (plain_left {a = a} {b = b} {x = x} p) m = starts_map a (either a b) x m (λ h. goes-either a b (tokens x ++ m) ∙ or_left (goes a (tokens x ++ m)) (goes b (tokens x ++ m)) h) (plain_starts p m)
plain_starts (plain_right {a = a} {b = b} {x = x} p) m = starts_map b (either a b) x m (λ h. goes-either a b (tokens x ++ m) ∙ or_right (goes a (tokens x ++ m)) (goes b (tokens x ++ m)) h) (plain_starts p m)
plain_starts plain_stop m = inl refl
plain_starts (plain_more {a = a} {x = x} {y = y} p q) m = starts_more a x y m (plain_starts p (tokens y ++ m)) (plain_starts q m)
plain_starts (plain_part {p = k} {x = x} p) m = starts_map (rule k) (part k) x m (λ h. sym (goes-part k (tokens x ++ m)) ∙ h) (plain_starts p m)
plain_starts (plain_node {a = a} {x = x} p) m = starts_map a (node a) (down x) m (λ h. goes-node a (tokens x ++ m) ∙ h) (plain_starts p m)
plain_starts (plain_one {a = a} {b = b} {x = x} p) m = starts_map a (chain a b) x m (λ h. goes-chain a b (tokens x ++ m) ∙ or_left (goes a (tokens x ++ m)) (null a && goes b (tokens x ++ m)) h) (plain_starts p m)
plain_starts (plain_chain {a = a} {b = b} {x = x} {y = y} p q) m = starts_chain a b x y m (λ e. plain_null p e) (plain_starts p (tokens y ++ m)) (plain_starts q m)
plain_starts (plain_present {c = c} {a = a} {s = s} {x = x} h p) m = inr (goes-present c a s (tokens x ++ m) h)
plain_starts (plain_absent h) m = inl refl

-- what follows a part doesn't go on with it
behind : (a b : Grammar) (y : Tree) (m : List Symbol) → none_pass (goes_on true a) (fronts b) ≡ true → (tokens y ≡ [] → goes_on true a (first m) ≡ false) → (tokens y ≡ []) ⊎ (goes b (tokens y ++ m) ≡ true) → goes_on true a (first (tokens y ++ m)) ≡ false
behind a b y m h n (inl e) = ap (λ u. goes_on true a (first (u ++ m))) e ∙ n e
behind a b y m h n (inr k) = none_pass-among (goes_on true a) (first (tokens y ++ m)) (fronts b) h k

-- a part that has a token begins as it can
begins : (a : Grammar) (x : Tree) (m : List Symbol) → not (null a) ≡ true → (tokens x ≡ [] → null a ≡ true) → (tokens x ≡ []) ⊎ (goes a (tokens x ++ m) ≡ true) → goes a (tokens x ++ m) ≡ true
begins a x m h n (inl e) = absurd (clash (n e) (not_true (null a) h))
begins a x m h n (inr k) = k

not_left : (a b : Grammar) (x : Tree) (m : List Symbol) → none_pass (λ c. among c (fronts a)) (fronts b) ≡ true → (tokens x ≡ [] → goes a m ≡ false) → (tokens x ≡ []) ⊎ (goes b (tokens x ++ m) ≡ true) → goes a (tokens x ++ m) ≡ false
not_left a b x m h n (inl e) = ap (λ u. goes a (u ++ m)) e ∙ n e
not_left a b x m h n (inr k) = none_pass-among (λ c. among c (fronts a)) (first (tokens x ++ m)) (fronts b) h k

-- The plain reading is the other, where the next token tells how to go on.
pub greedy : {g : Grammar} {x : Tree} {m : List Symbol} → IsPlain g x m → decided g ≡ true → goes_on true g (first m) ≡ false → Is g x m
greedy plain_nothing d n = is_nothing
greedy (plain_token p) d n = is_token p
greedy (plain_seq {a = a} {b = b} {x = x} {y = y} {more = m} p q) d n =
    let r = and_right (decided a) (decided b && none_pass (goes_on true a) (fronts b)) d in
    let o = or_false (goes_on true b (first m)) (null b && goes_on true a (first m)) n in
    is_seq
    (greedy p (and_left (decided a) (decided b && none_pass (goes_on true a) (fronts b)) d)
    (behind a b y m (and_right (decided b) (none_pass (goes_on true a) (fronts b)) r) (λ e. and_true (null b) (goes_on true a (first m)) (plain_null q e) o.1) (plain_starts q m)))
    (greedy q (and_left (decided b) (none_pass (goes_on true a) (fronts b)) r) o.0)
greedy (plain_left {a = a} {b = b} {x = x} {more = m} p) d n =
    let apart = none_pass (λ c. among c (fronts a)) (fronts b) in
    let r = and_right (decided a) (decided b && (not (null a) && apart)) d in
    let s = and_right (decided b) (not (null a) && apart) r in
    let o = or_false (goes_on true a (first m)) (goes_on true b (first m) || (null b && goes a m)) n in
    is_left (begins a x m (and_left (not (null a)) apart s) (λ e. plain_null p e) (plain_starts p m)) (greedy p (and_left (decided a) (decided b && (not (null a) && apart)) d) o.0)
greedy (plain_right {a = a} {b = b} {x = x} {more = m} p) d n =
    let apart = none_pass (λ c. among c (fronts a)) (fronts b) in
    let r = and_right (decided a) (decided b && (not (null a) && apart)) d in
    let s = and_right (decided b) (not (null a) && apart) r in
    let o = or_false (goes_on true a (first m)) (goes_on true b (first m) || (null b && goes a m)) n in
    let u = or_false (goes_on true b (first m)) (null b && goes a m) o.1 in
    is_right (not_left a b x m (and_right (not (null a)) apart s) (λ e. and_true (null b) (goes a m) (plain_null p e) u.1) (plain_starts p m)) (greedy p (and_left (decided b) (not (null a) && apart) r) u.0)
greedy (plain_stop {a = a} {more = m}) d n = is_stop (or_false (goes_on true a (first m)) (goes a m) n).1
greedy (plain_more {a = a} {x = x} {y = y} {more = m} p q) d n =
    let apart = none_pass (goes_on true a) (fronts a) in
    let r = and_right (decided a) (not (null a) && apart) d in
    let o = or_false (goes_on true a (first m)) (goes a m) n in
    is_more (begins a x (tokens y ++ m) (and_left (not (null a)) apart r) (λ e. plain_null p e) (plain_starts p (tokens y ++ m)))
    (greedy p (and_left (decided a) (not (null a) && apart) d) (behind a a y m (and_right (not (null a)) apart r) (λ e. o.0) (plain_starts q m)))
    (greedy q d n)
greedy (plain_part {p = k} {more = m} p) d n = is_part (greedy p (rule_decided k) (rule_goes_on true k (first m) n))
greedy (plain_node p) d n = is_node (greedy p d n)
greedy (plain_one {a = a} {b = b} {more = m} p) d n =
    let o = or_false (goes_on true a (first m)) (goes_on true b (first m) || goes b m) n in
    is_one (or_false (goes_on true b (first m)) (goes b m) o.1).1 (greedy p (and_left (decided a) (decided b && (not (null b) && none_pass (goes_on true a) (fronts b))) d) o.0)
greedy (plain_chain {a = a} {b = b} {x = x} {y = y} {more = m} p q) d n =
    let apart = none_pass (goes_on true a) (fronts b) in
    let r = and_right (decided a) (decided b && (not (null b) && apart)) d in
    let s = and_right (decided b) (not (null b) && apart) r in
    let o = or_false (goes_on true a (first m)) (goes_on true b (first m) || goes b m) n in
    is_chain (begins b y m (and_left (not (null b)) apart s) (λ e. plain_null q e) (plain_starts q m))
    (greedy p (and_left (decided a) (decided b && (not (null b) && apart)) d) (behind a b y m (and_right (not (null b)) apart s) (λ e. o.0) (plain_starts q m)))
    (greedy q (and_left (decided b) (not (null b) && apart) r) (or_false (goes_on true b (first m)) (goes b m) o.1).0)
greedy (plain_present {c = c} {a = a} {more = m} h p) d n = is_present h (greedy p d (or_false (goes_on true a (first m)) false n).0)
greedy (plain_absent {c = c} {more = m} h) d n =
    is_absent (elim (same_class (first m) c) as (λ s. same_class (first m) c ≡ s → (s || false) ≡ false) [
      | true ↦ λ e. absurd (h (same_class-true (first m) c e))
      | false ↦ λ e. refl
    ] refl)
