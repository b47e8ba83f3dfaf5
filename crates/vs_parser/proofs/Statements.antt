-- How the parts of a statement make it, and where it stops.
use Rattle.std.specs.Prelude.{◌≡◌, ℕ, ◌-◌, ◌<◌, ◌≤◌, Bool, true, false, List, [], ◌∷◌, Result, Ok, Err, refl}
use Rattle.std.proofs.Common.{◌∙◌, ap, sym, subst, arith}
use Rattle.vs_syntax.specs.vs_lexer.specs.declared.token.Mark.TheVariants as m
use Rattle.vs_syntax.specs.vs_lexer.specs.declared.token.Token.{Token}
use Rattle.vs_syntax.specs.vs_lexer.specs.declared.token.Word.TheVariants as w
use Rattle.vs_syntax.specs.Symbols.{Symbol, a_word, the_word}
use Rattle.vs_syntax.specs.Grammar.{Grammar, ◌·◌, ◌or◌, many, one_or_more, optional, part, mark, word, block_head, case_items, statements, a_stmt, a_case_item, a_target, an_expr}
use Rattle.vs_syntax.specs.Tables.{low, need, fronts_of, goes}
use Rattle.vs_syntax.specs.Derivation.{Tree, empty, leaf, both, down}
use Rattle.vs_syntax.specs.Reading.{Gets, Stuck, stuck_here, stuck_deep, stuck_first, stuck_left, stuck_right, stuck_many, stuck_part, stuck_node, stuck_behind}
use Rattle.vs_syntax.specs.Views.{row_of, some_tree, stmt_tree}
use Rattle.vs_syntax.specs.declared.tree.Stmt.{Stmt}
use Rattle.vs_syntax.specs.declared.tree.Stmt.TheVariants as v
use Rattle.vs_syntax.proofs.Fronts.{clash, goes-seq}
use Rattle.std.proofs.lemmas.Bool.{or_left}
use Rattle.vs_syntax.proofs.Gets.{gets_nothing, gets_left, gets_right, gets_part, gets_node, gets_stop, gets_present}
use Rattle.vs_parser.specs.declared.head.StatementWord.{StatementWord}
use Rattle.vs_parser.specs.declared.head.StatementWord.TheVariants as s
use Rattle.vs_parser.specs.declared.head.StatementHead.{StatementHead}
use Rattle.vs_parser.specs.declared.head.StatementHead.TheVariants as h
use Rattle.vs_parser.specs.Heads.{symbol_of, grammar_after, BeginsStatement, class_of_statement}
use Rattle.vs_parser.specs.Timings.{timing}
use Rattle.vs_parse_expressions.specs.Parts.{Within, ReadsWithin, headed}
use Rattle.vs_parser.proofs.Heads.{word_branch, word_need}
use Rattle.vs_parse_expressions.proofs.ListsTrees.{tree_Null}
use Rattle.vs_parse_expressions.specs.declared.reading.Parsed.{Parsed}
use Rattle.vs_parse_expressions.specs.declared.reading.ReadFault.{ReadFault}
use Rattle.vs_parse_expressions.specs.Answers.{seen, ReadsTree}
use Rattle.vs_parse_expressions.proofs.Exits.{fails_by}
use Rattle.vs_parse_expressions.proofs.Choices.{choice_read, choice_stuck}
use Rattle.vs_parse_expressions.proofs.Rows.{Along, all_read, more_read, more_stuck, some_there}

-- what stands behind the left side of an assignment, and the whole
abbrev pub assigned_value : Grammar
assigned_value = timing · part an_expr · mark m.Semicolon

abbrev pub assigned : Grammar
assigned = part a_target · assigned_value

-- no assignment begins so
word_apart : (k : StatementWord) (after : List Symbol) → goes assigned (symbol_of k ∷ after) ≡ false
word_apart s.Null after = refl
word_apart _ after = refl

-- a statement with a word or a mark of its own
word_read : (k : StatementWord) (depth : ℕ) (ts after rest : List Symbol) (x : Tree) → ts ≡ symbol_of k ∷ after → 0 < depth → Gets (grammar_after k) (depth - 1) after x rest → Gets (part a_stmt) depth ts (headed (symbol_of k) x) rest
word_read k depth ts after rest x e h p = rw e (gets_part (gets_node h (gets_right (word_apart k after) (choice_read statements (grammar_after k) (depth - 1) (symbol_of k) after rest x (word_branch k) p))))

word_stuck : (k : StatementWord) (depth : ℕ) (deep : Bool) (ts after at : List Symbol) → ts ≡ symbol_of k ∷ after → 0 < depth → low (grammar_after k) ≤ depth - 1 → Stuck (grammar_after k) (depth - 1) deep after at → Stuck (part a_stmt) depth deep ts at
word_stuck k depth deep ts after at e h l p =
    let none : 0 ≤ depth - 1 = omega arith in
    rw e (stuck_part (stuck_node h (stuck_right (word_apart k after) none (choice_stuck statements (grammar_after k) (depth - 1) deep (symbol_of k) after at (word_branch k) l p))))

-- what was read behind the first symbol makes the statement
pub word_stmt : (k : StatementWord) (depth : ℕ) (ts after : List Token) (r : Result (Parsed Stmt) ReadFault) → seen ts ≡ symbol_of k ∷ seen after → low (grammar_after k) < depth → ReadsWithin stmt_tree (headed (symbol_of k)) (grammar_after k) (depth - 1) after r → ReadsTree (part a_stmt) depth ts stmt_tree r
word_stmt k depth ts after (Ok x) e h p = rw p.whole (word_read k depth (seen ts) (seen after) (seen x.rest.now) p.inner e (omega (arith, h)) p.gets)
word_stmt k depth ts after (Err f) e h p =
    fails_by (grammar_after k) (part a_stmt) (depth - 1) depth (seen after) (seen ts)
    (λ deep at u. word_stuck k depth deep (seen ts) (seen after) at e (omega (arith, h)) (omega (arith, h)) u) f p

-- an assignment
assigned_goes : (ts : List Symbol) → goes (part a_target) ts ≡ true → goes assigned ts ≡ true
assigned_goes ts h = goes-seq (part a_target) assigned_value ts ∙ or_left (goes (part a_target) ts) false h

pub assign_stuck : (depth : ℕ) (deep : Bool) (ts at : List Symbol) → 2 ≤ depth → goes (part a_target) ts ≡ true → Stuck assigned (depth - 1) deep ts at → Stuck (part a_stmt) depth deep ts at
assign_stuck depth deep ts at h g s = stuck_part (stuck_node (omega (arith, h)) (stuck_left (assigned_goes ts g) (omega (arith, h)) s))

pub assign_read : (depth : ℕ) (ts rest : List Symbol) (x : Tree) → 2 ≤ depth → goes (part a_target) ts ≡ true → Gets assigned (depth - 1) ts x rest → Gets (part a_stmt) depth ts (down x) rest
assign_read depth ts rest x h g p = gets_part (gets_node (omega (arith, h)) (gets_left (assigned_goes ts g) p))

-- what stands behind the `begin` of a block
abbrev pub block_body : Grammar
block_body = block_head · many (part a_stmt) · word w.End

-- one more statement of a block
pub row_stuck : (depth : ℕ) (deep : Bool) (ts at : List Symbol) → goes (part a_stmt) ts ≡ true → Stuck (part a_stmt) depth deep ts at → Stuck (many (part a_stmt)) depth deep ts at
row_stuck depth deep ts at i (stuck_here n j) = absurd (clash i j)
row_stuck depth deep ts at i (stuck_deep j n) = stuck_deep j n
row_stuck depth deep ts at i (stuck_part (stuck_here n j)) = absurd (clash i j)
row_stuck depth deep ts at i (stuck_part (stuck_deep j n)) = stuck_deep j n
row_stuck depth deep ts at i (stuck_part (stuck_node n s)) = stuck_many i (omega (arith, n)) (stuck_part (stuck_node n s))

-- `;` alone
pub null_read : (k : StatementWord) (depth : ℕ) (ts : List Symbol) → k ≡ s.Null → Within stmt_tree (headed (symbol_of k)) (grammar_after k) depth ts v.Null ts
null_read k depth ts e = subst (λ (u : StatementWord). Within stmt_tree (headed (symbol_of u)) (grammar_after u) depth ts v.Null ts) (sym e) (record { inner = empty; whole = tree_Null; gets = gets_nothing })

-- a word that is known
pub word_is : (k k' : StatementWord) (depth : ℕ) (ts : List Token) (r : Result (Parsed Stmt) ReadFault) → k ≡ k' → ReadsWithin stmt_tree (headed (symbol_of k')) (grammar_after k') depth ts r → ReadsWithin stmt_tree (headed (symbol_of k)) (grammar_after k) depth ts r
word_is k k' depth ts r e p = subst (λ (u : StatementWord). ReadsWithin stmt_tree (headed (symbol_of u)) (grammar_after u) depth ts r) (sym e) p

pub room_of : (k k' : StatementWord) (depth : ℕ) → k ≡ k' → low (grammar_after k) ≤ depth → low (grammar_after k') ≤ depth
room_of k k' depth e h = subst (λ (u : StatementWord). low (grammar_after u) ≤ depth) e h

-- there is depth behind the first symbol
pub word_room : (head : StatementHead) (k : StatementWord) (n depth : ℕ) → head ≡ h.Word k → n ≡ need (class_of_statement head) (fronts_of a_stmt) → n ≤ depth → low (grammar_after k) < depth
word_room head k n depth e i l = omega (arith, l, i, ap (λ u. need (class_of_statement u) (fronts_of a_stmt)) e, word_need k)

pub begins_of : (ts after : List Symbol) (head head' : StatementHead) → head ≡ head' → BeginsStatement ts head after → BeginsStatement ts head' after
begins_of ts after head head' e b = subst (λ (u : StatementHead). BeginsStatement ts u after) e b

-- the statement behind `else`
abbrev pub otherwise : Grammar
otherwise = optional (the_word w.Else) (part a_stmt)

pub else_stuck : (depth : ℕ) (deep : Bool) (ts after at : List Symbol) → 1 ≤ depth → ts ≡ a_word w.Else ∷ after → Stuck (part a_stmt) depth deep after at → Stuck otherwise depth deep ts at
else_stuck depth deep ts after at l e s = rw e (stuck_behind refl l s)

pub else_read : (depth : ℕ) (ts after rest : List Symbol) (x : Tree) → ts ≡ a_word w.Else ∷ after → Gets (part a_stmt) depth after x rest → Gets otherwise depth ts (both (leaf (a_word w.Else)) x) rest
else_read depth ts after rest x e p = rw e (gets_present refl p)

-- the items of a `case` statement
pub items_none : (depth : ℕ) (ts : List Symbol) → goes (part a_case_item) ts ≡ false → Stuck case_items depth false ts ts
items_none depth ts i = stuck_first (stuck_first (stuck_here refl i))

pub item_stuck : (depth : ℕ) (deep : Bool) (start rest at : List Symbol) (xs : List Tree) → 1 ≤ depth → Along (part a_case_item) depth start rest xs → goes (part a_case_item) rest ≡ true → Stuck (part a_case_item) depth deep rest at → Stuck case_items depth deep start at
item_stuck depth deep start rest at xs l a i s = stuck_first (more_stuck (a.stops deep at (stuck_many i l s)))

pub items_read : (depth : ℕ) (start rest : List Symbol) (xs : List Tree) → Along (part a_case_item) depth start rest xs → goes (part a_case_item) start ≡ true → goes (part a_case_item) rest ≡ false → Gets (one_or_more (part a_case_item)) depth start (some_tree xs) rest
items_read depth start rest [] a i j = absurd (some_there (part a_case_item) depth start rest i (all_read (part a_case_item) depth start rest rest [] a (gets_stop j)))
items_read depth start rest (x ∷ xs) a i j = more_read (part a_case_item) depth start rest (row_of (x ∷ xs)) i (all_read (part a_case_item) depth start rest rest (x ∷ xs) a (gets_stop j))
