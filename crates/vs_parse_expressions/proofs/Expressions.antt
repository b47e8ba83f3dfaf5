-- How the parts of an expression make it, and where it stops.
use Rattle.std.specs.Prelude.{◌≡◌, ℕ, zero, suc, max, ◌+◌, ◌-◌, ◌<◌, ◌≤◌, Bool, true, false, ◌||◌, List, [], ◌∷◌, ◌++◌, Some, map, refl}
use Rattle.std.proofs.Common.{sym, ◌∙◌, ap, subst, arith}
use Rattle.std.proofs.lemmas.List.{map-append}
use Rattle.vs_syntax.specs.vs_logic4.specs.declared.operators.Unary.{Unary}
use Rattle.vs_syntax.specs.vs_logic4.specs.declared.operators.Unary.TheVariants as u
use Rattle.vs_syntax.specs.vs_logic4.specs.declared.operators.Binary.{Binary}
use Rattle.vs_syntax.specs.vs_lexer.specs.declared.token.Token.{Token}
use Rattle.vs_syntax.specs.vs_lexer.specs.declared.token.Mark.{Mark}
use Rattle.vs_syntax.specs.vs_lexer.specs.declared.token.Mark.TheVariants as m
use Rattle.vs_syntax.specs.Symbols.{Symbol, a_mark, a_cast, the_mark, any_number, class_of, same_class, first}
use Rattle.vs_syntax.specs.Grammar.{Grammar, nothing, ◌·◌, ◌or◌, part, mark, name, number, a_level, a_condition, an_expr, an_operand, arm, chain, other_parts, select, compounds, one_or_more, one_mark, operands, levels, level_at}
use Rattle.vs_syntax.specs.Tables.{low, mark_fronts, operand_fronts, among, need, goes}
use Rattle.vs_syntax.specs.Derivation.{Tree, leaf, both, down, height}
use Rattle.vs_syntax.specs.Reading.{Gets, Stuck, stuck_second, stuck_left, stuck_right, stuck_many, stuck_part, stuck_node, stuck_one, stuck_link, stuck_high}
use Rattle.vs_syntax.specs.Views.{row_of, unary_mark, binary_mark, link_tree, head_of, arm_tree, arms_of, choice_tree, expr_tree}
use Rattle.vs_syntax.specs.declared.tree.Expr.{Expr}
use Rattle.vs_syntax.proofs.Fronts.{clash}
use Rattle.vs_syntax.proofs.Ends.{marked_fronts, link_fronts}
use Rattle.vs_syntax.proofs.Plainly.{same_class-true}
use Rattle.vs_syntax.proofs.Gets.{gets_token, gets_seq, gets_left, gets_right, gets_part, gets_node, gets_stop, gets_one, gets_chain}
use Rattle.vs_parse_expressions.specs.Answers.{seen}
use Rattle.vs_parse_expressions.specs.Operators.{NoOperator, BeginsLink}
use Rattle.vs_parse_expressions.proofs.Choices as choices
use Rattle.vs_parse_expressions.proofs.Choices.{branch}
use Rattle.vs_parse_expressions.proofs.Exits.{deep_at, goes_at}
use Rattle.vs_parse_expressions.proofs.Lists.{comma_by}
use Rattle.vs_parse_expressions.proofs.Rows.{Along, along_none, along_one, all_read, more_read, more_stuck, some_there, height-row_push}
use Rattle.vs_parse_expressions.proofs.Trees.{linked, paired}

-- one of several marks
one_mark-low : (op : Mark) (ops : List Mark) → low (one_mark op ops) ≡ 0
one_mark-low op [] = refl
one_mark-low op (x ∷ xs) = rw (one_mark-low x xs) refl

or_nothing : (b : Bool) → (b || false) ≡ true → b ≡ true
or_nothing true h = refl
or_nothing false h = h

mark_read : (op : Mark) (ops : List Mark) (depth : ℕ) (x : Mark) (after : List Symbol) → among (the_mark x) (mark_fronts 0 (op ∷ ops)) ≡ true → Gets (one_mark op ops) depth (a_mark x ∷ after) (leaf (a_mark x)) after
mark_read op [] depth x after h = gets_token (same_class-true (the_mark x) (the_mark op) (or_nothing (same_class (the_mark x) (the_mark op)) h))
mark_read op (y ∷ ys) depth x after h =
    elim (same_class (the_mark x) (the_mark op)) as (λ b. same_class (the_mark x) (the_mark op) ≡ b → (b || among (the_mark x) (mark_fronts 0 (y ∷ ys))) ≡ true → Gets (one_mark op (y ∷ ys)) depth (a_mark x ∷ after) (leaf (a_mark x)) after) [
      | true ↦ λ e i. gets_left (ap (λ b. b || false) e) (gets_token (same_class-true (the_mark x) (the_mark op) e))
      | false ↦ λ e i. gets_right (ap (λ b. b || false) e) (mark_read y ys depth x after i)
    ] refl h

-- the same of a list of them
abbrev pub any_mark : List Mark → Grammar
any_mark [] = nothing
any_mark (x ∷ xs) = one_mark x xs

any_read : (ops : List Mark) (depth : ℕ) (x : Mark) (after : List Symbol) → among (the_mark x) (mark_fronts 0 ops) ≡ true → Gets (any_mark ops) depth (a_mark x ∷ after) (leaf (a_mark x)) after
any_read [] depth x after h = absurd (clash h refl)
any_read (op ∷ ops) depth x after h = mark_read op ops depth x after h

any_goes : (ops : List Mark) (a : Grammar) (ts : List Symbol) → among (first ts) (mark_fronts 0 ops) ≡ true → goes (any_mark ops · a) ts ≡ true
any_goes [] a ts h = absurd (clash h refl)
any_goes (op ∷ ops) a ts h = marked_fronts op ops a (first ts) ∙ h

-- an operator of the level and an operand
abbrev pub link_at : ℕ → Grammar
link_at n = any_mark (level_at levels n) · part (a_level n)

-- the tree of an operator and an operand
abbrev pub link_of : Binary × Expr → Tree
link_of l = link_tree (linked l)

links_are : (ls : List (Binary × Expr)) → map link_tree (map linked ls) ≡ map link_of ls
links_are [] = refl
links_are (l ∷ ls) = ap (λ u. link_of l ∷ u) (links_are ls)

next_is : (n : ℕ) (ts after : List Symbol) (op : Binary) → BeginsLink n ts op after → among (first ts) (mark_fronts 0 (level_at levels n)) ≡ true
next_is n ts after op l = ap (λ u. among (first u) (mark_fronts 0 (level_at levels n))) l.text ∙ l.level

pub link_goes : (n : ℕ) (ts after : List Symbol) (op : Binary) → BeginsLink n ts op after → goes (link_at n) ts ≡ true
link_goes n ts after op l = any_goes (level_at levels n) (part (a_level n)) ts (next_is n ts after op l)

pub link_read : (n depth : ℕ) (ts after rest : List Symbol) (op : Binary) (x : Tree) → BeginsLink n ts op after → Gets (part (a_level n)) depth after x rest → Gets (link_at n) depth ts (both (leaf (a_mark (binary_mark op))) x) rest
link_read n depth ts after rest op x l p = rw (l.text) (gets_seq (any_read (level_at levels n) depth (binary_mark op) after l.level) p)

link_stuck : (n depth : ℕ) (deep : Bool) (ts after at : List Symbol) (op : Binary) → BeginsLink n ts op after → Stuck (part (a_level n)) depth deep after at → Stuck (link_at n) depth deep ts at
link_stuck n depth deep ts after at op l s = rw (l.text) (stuck_second (any_read (level_at levels n) depth (binary_mark op) after l.level) s)

-- one level more
first_stuck : (n : ℕ) (ops : List Mark) (depth : ℕ) (deep : Bool) (ts at : List Symbol) → Stuck (part (a_level n)) depth deep ts at → Stuck (operands (a_level n) ops) depth deep ts at
first_stuck n [] depth deep ts at s = s
first_stuck n (op ∷ ops) depth deep ts at s = stuck_one s

-- what stops an operand of a level stops the levels above
pub climb : (d n top : ℕ) (depth : ℕ) (deep : Bool) (ts at : List Symbol) → top ≡ d + n → Stuck (part (a_level n)) depth deep ts at → Stuck (part (a_level top)) depth deep ts at
climb zero n top depth deep ts at e s = let h : n ≡ top = omega (arith, e) in subst (λ (k : ℕ). Stuck (part (a_level k)) depth deep ts at) h s
climb (suc d) n top depth deep ts at e s = climb d (suc n) top depth deep ts at (omega (arith, e)) (stuck_part (first_stuck n (level_at levels n) depth deep ts at s))

alone : (n : ℕ) (ops : List Mark) (depth : ℕ) (ts rest : List Symbol) (x : Tree) → among (first rest) (mark_fronts 0 ops) ≡ false → Gets (part (a_level n)) depth ts x rest → Gets (operands (a_level n) ops) depth ts x rest
alone n [] depth ts rest x h p = p
alone n (op ∷ ops) depth ts rest x h p = gets_one (link_fronts n op ops (first rest) ∙ h) p

-- an operand with no operator of its level behind it
pub level_alone : (n depth : ℕ) (ts rest : List Symbol) (x : Tree) → NoOperator n rest → Gets (part (a_level n)) depth ts x rest → Gets (part (a_level (suc n))) depth ts x rest
level_alone n depth ts rest x h p = gets_part (alone n (level_at levels n) depth ts rest x h p)

high : (n : ℕ) (ops : List Mark) (depth : ℕ) (ts mid : List Symbol) (x : Tree) → among (first mid) (mark_fronts 0 ops) ≡ true → Gets (part (a_level n)) depth ts x mid → depth ≤ height x → Stuck (operands (a_level n) ops) depth true ts mid
high n [] depth ts mid x h p k = absurd (clash h refl)
high n (op ∷ ops) depth ts mid x h p k = stuck_high p (link_fronts n op ops (first mid) ∙ h) k

-- an operator behind a first operand that has all of the nodes
pub too_high : (n depth : ℕ) (ts mid after : List Symbol) (op : Binary) (x : Tree) → BeginsLink n mid op after → Gets (part (a_level n)) depth ts x mid → depth ≤ height x → Stuck (part (a_level (suc n))) depth true ts mid
too_high n depth ts mid after op x l p k = stuck_part (high n (level_at levels n) depth ts mid x (next_is n mid after op l) p k)

later_stuck : (n : ℕ) (ops : List Mark) (depth : ℕ) (deep : Bool) (ts start rest at : List Symbol) (x : Tree) (xs : List Tree) → among (first start) (mark_fronts 0 ops) ≡ true → among (first rest) (mark_fronts 0 ops) ≡ true → Gets (part (a_level n)) depth ts x start → height x < depth → Along (any_mark ops · part (a_level n)) (depth - 1) start rest xs → Stuck (any_mark ops · part (a_level n)) (depth - 1) deep rest at → Stuck (operands (a_level n) ops) depth deep ts at
later_stuck n [] depth deep ts start rest at x xs h k p l g s = absurd (clash h refl)
later_stuck n (op ∷ ops) depth deep ts start rest at x xs h k p l g s =
    let low_enough : max (low (one_mark op ops)) 0 ≤ depth - 1 = omega (arith, one_mark-low op ops) in
    stuck_link p l (link_fronts n op ops (first start) ∙ h) (more_stuck (g.stops deep at (stuck_many (marked_fronts op ops (part (a_level n)) (first rest) ∙ k) low_enough s)))

-- the operands behind the first
pub chain_stuck : (n depth : ℕ) (deep : Bool) (ts start behind rest after at : List Symbol) (op op' : Binary) (x : Tree) (xs : List Tree) → BeginsLink n start op behind → BeginsLink n rest op' after → Gets (part (a_level n)) depth ts x start → height x < depth → Along (link_at n) (depth - 1) start rest xs → Stuck (part (a_level n)) (depth - 1) deep after at → Stuck (part (a_level (suc n))) depth deep ts at
chain_stuck n depth deep ts start behind rest after at op op' x xs b l p h g s =
    stuck_part (later_stuck n (level_at levels n) depth deep ts start rest at x xs (next_is n start behind op b) (next_is n rest after op' l) p h g (link_stuck n (depth - 1) deep rest after at op' l s))

chained : (n : ℕ) (ops : List Mark) (depth : ℕ) (ts start rest : List Symbol) (x : Tree) (xs : List Tree) → among (first start) (mark_fronts 0 ops) ≡ true → among (first rest) (mark_fronts 0 ops) ≡ false → Gets (part (a_level n)) depth ts x start → height x < depth → Along (any_mark ops · part (a_level n)) (depth - 1) start rest xs → Gets (operands (a_level n) ops) depth ts (down (both x (row_of xs))) rest
chained n [] depth ts start rest x xs h k p l g = absurd (clash h refl)
chained n (op ∷ ops) depth ts start rest x xs h k p l g =
    gets_chain p l (link_fronts n op ops (first start) ∙ h)
    (more_read (one_mark op ops · part (a_level n)) (depth - 1) start rest (row_of xs) (marked_fronts op ops (part (a_level n)) (first start) ∙ h)
    (all_read (one_mark op ops · part (a_level n)) (depth - 1) start rest rest xs g (gets_stop (marked_fronts op ops (part (a_level n)) (first rest) ∙ k))))

pub chain_read : (n depth : ℕ) (ts start behind rest : List Symbol) (op : Binary) (x : Tree) (ls : List (Binary × Expr)) → BeginsLink n start op behind → NoOperator n rest → Gets (part (a_level n)) depth ts x start → height x < depth → Along (link_at n) (depth - 1) start rest (map link_of ls) → Gets (part (a_level (suc n))) depth ts (down (both x (row_of (map link_tree (map linked ls))))) rest
chain_read n depth ts start behind rest op x ls b k p h g =
    gets_part (chained n (level_at levels n) depth ts start rest x (map link_tree (map linked ls)) (next_is n start behind op b) k p h (subst (λ (u : List Tree). Along (link_at n) (depth - 1) start rest u) (sym (links_are ls)) g))

-- the nesting of the operands and the first one
pub chain_height : (x : Tree) (ls : List (Binary × Expr)) → height (down (both x (row_of (map link_tree (map linked ls))))) ≡ suc (max (height x) (height (row_of (map link_of ls))))
chain_height x ls = ap (λ u. suc (max (height x) (height (row_of u)))) (links_are ls)

-- conditions, each with the operand for it
head_push : (ps : List (Tree × Tree)) (x v y : Tree) → head_of (ps ++ (x, v) ∷ []) y ≡ head_of ps x
head_push [] x v y = refl
head_push (p ∷ ps) x v y = refl

arms_push : (ps : List (Tree × Tree)) (x v y : Tree) → arms_of (ps ++ (x, v) ∷ []) y ≡ arms_of ps x ++ arm_tree v y ∷ []
arms_push [] x v y = refl
arms_push (p ∷ ps) x v y = rw (head_push ps x v y, arms_push ps x v y) refl

pushed_pairs : (ps qs : List (Expr × Expr)) (x v : Expr) → qs ≡ ps ++ (x, v) ∷ [] → map paired qs ≡ map paired ps ++ (expr_tree x, expr_tree v) ∷ []
pushed_pairs ps qs x v e = ap (map paired) e ∙ map-append paired ps ((x, v) ∷ [])

pub head_pushed : (ps qs : List (Expr × Expr)) (x v y : Expr) (z : Tree) → qs ≡ ps ++ (x, v) ∷ [] → head_of (map paired ps) (expr_tree x) ≡ z → head_of (map paired qs) (expr_tree y) ≡ z
head_pushed ps qs x v y z e h = ap (λ u. head_of u (expr_tree y)) (pushed_pairs ps qs x v e) ∙ head_push (map paired ps) (expr_tree x) (expr_tree v) (expr_tree y) ∙ h

arms_pushed : (ps qs : List (Expr × Expr)) (x v y : Expr) → qs ≡ ps ++ (x, v) ∷ [] → arms_of (map paired qs) (expr_tree y) ≡ arms_of (map paired ps) (expr_tree x) ++ arm_tree (expr_tree v) (expr_tree y) ∷ []
arms_pushed ps qs x v y e = ap (λ u. arms_of u (expr_tree y)) (pushed_pairs ps qs x v e) ∙ arms_push (map paired ps) (expr_tree x) (expr_tree v) (expr_tree y)

pub arms_height : (ps qs : List (Expr × Expr)) (x v y : Expr) → qs ≡ ps ++ (x, v) ∷ [] → height (row_of (arms_of (map paired qs) (expr_tree y))) ≡ max (height (row_of (arms_of (map paired ps) (expr_tree x)))) (max (height (expr_tree v)) (height (expr_tree y)))
arms_height ps qs x v y e =
    let h : height (row_of (arms_of (map paired qs) (expr_tree y))) ≡ height (row_of (arms_of (map paired ps) (expr_tree x) ++ arm_tree (expr_tree v) (expr_tree y) ∷ [])) = ap (λ u. height (row_of u)) (arms_pushed ps qs x v y e) in
    let k : height (row_of (arms_of (map paired ps) (expr_tree x) ++ arm_tree (expr_tree v) (expr_tree y) ∷ [])) ≡ max (height (row_of (arms_of (map paired ps) (expr_tree x)))) (height (arm_tree (expr_tree v) (expr_tree y))) = height-row_push (arms_of (map paired ps) (expr_tree x)) (arm_tree (expr_tree v) (expr_tree y)) in
    omega (arith, h, k)

pub question_goes : (ts after : List Symbol) → ts ≡ a_mark m.Question ∷ after → goes arm ts ≡ true
question_goes ts after e = ap (goes arm) e

-- before the first of them
pub arms_start : (depth : ℕ) (ts us : List Token) (ps : List (Expr × Expr)) (x : Tree) → us ≡ ts → ps ≡ [] → Along arm depth (seen ts) (seen us) (arms_of (map paired ps) x)
arms_start depth ts us ps x e f = subst (λ (u : List Token). Along arm depth (seen ts) (seen u) (arms_of (map paired ps) x)) (sym e) (subst (λ u. Along arm depth (seen ts) (seen ts) (arms_of (map paired u) x)) (sym f) (along_none arm depth (seen ts)))

pub head_start : (ps : List (Expr × Expr)) (x : Tree) → ps ≡ [] → head_of (map paired ps) x ≡ x
head_start ps x e = ap (λ u. head_of (map paired u) x) e

pub height_start : (ps : List (Expr × Expr)) (x : Tree) → ps ≡ [] → height (row_of (arms_of (map paired ps) x)) ≡ 0
height_start ps x e = ap (λ u. height (row_of (arms_of (map paired u) x))) e

pub arm_read : (depth : ℕ) (rest after behind : List Symbol) (x y : Tree) → rest ≡ a_mark m.Question ∷ after → Gets (part an_expr · mark m.Colon · part a_condition) depth after (both x (both (leaf (a_mark m.Colon)) y)) behind → Gets arm depth rest (arm_tree x y) behind
arm_read depth rest after behind x y e p = rw e (gets_seq (gets_token refl) p)

pub arms_along : (depth : ℕ) (start rest after behind : List Symbol) (ps qs : List (Expr × Expr)) (x v y : Expr) → qs ≡ ps ++ (x, v) ∷ [] → Along arm depth start rest (arms_of (map paired ps) (expr_tree x)) → rest ≡ a_mark m.Question ∷ after → Gets (part an_expr · mark m.Colon · part a_condition) depth after (both (expr_tree v) (both (leaf (a_mark m.Colon)) (expr_tree y))) behind → Along arm depth start behind (arms_of (map paired qs) (expr_tree y))
arms_along depth start rest after behind ps qs x v y e l f p =
    subst (λ (u : List Tree). Along arm depth start behind u) (sym (arms_pushed ps qs x v y e))
    (along_one arm depth start rest behind (arms_of (map paired ps) (expr_tree x)) (arm_tree (expr_tree v) (expr_tree y)) l (question_goes rest after f) (arm_read depth rest after behind (expr_tree v) (expr_tree y) f p))

pub choice_alone : (depth : ℕ) (ts rest : List Symbol) (x : Tree) → goes (mark m.Question) rest ≡ false → Gets (part a_condition) depth ts x rest → Gets (part an_expr) depth ts x rest
choice_alone depth ts rest x h p = gets_part (gets_one h p)

pub condition_stuck : (depth : ℕ) (deep : Bool) (ts at : List Symbol) → Stuck (part a_condition) depth deep ts at → Stuck (part an_expr) depth deep ts at
condition_stuck depth deep ts at s = stuck_part (stuck_one s)

pub choice_high : (depth : ℕ) (ts mid after : List Symbol) (x : Tree) → mid ≡ a_mark m.Question ∷ after → Gets (part a_condition) depth ts x mid → depth ≤ height x → Stuck (part an_expr) depth true ts mid
choice_high depth ts mid after x e p k = stuck_part (stuck_high p (ap (goes (one_or_more arm)) e) k)

pub choice_stuck : (depth : ℕ) (deep : Bool) (ts start behind rest after at : List Symbol) (x : Tree) (xs : List Tree) → start ≡ a_mark m.Question ∷ behind → rest ≡ a_mark m.Question ∷ after → Gets (part a_condition) depth ts x start → height x < depth → Along arm (depth - 1) start rest xs → Stuck (part an_expr · mark m.Colon · part a_condition) (depth - 1) deep after at → Stuck (part an_expr) depth deep ts at
choice_stuck depth deep ts start behind rest after at x xs e f p h l s =
    let none : 0 ≤ depth - 1 = omega arith in
    let one : Stuck arm (depth - 1) deep rest at = rw f (stuck_second (gets_token refl) s) in
    stuck_part (stuck_link p h (ap (goes (one_or_more arm)) e) (more_stuck (l.stops deep at (stuck_many (question_goes rest after f) none one))))

pub choice_read : (depth : ℕ) (ts start behind rest : List Symbol) (ps : List (Tree × Tree)) (x y : Tree) → start ≡ a_mark m.Question ∷ behind → goes (mark m.Question) rest ≡ false → Gets (part a_condition) depth ts x start → height x < depth → head_of ps y ≡ x → Along arm (depth - 1) start rest (arms_of ps y) → Gets (part an_expr) depth ts (choice_tree ps y) rest
choice_read depth ts start behind rest [] x y e f p h i l =
    absurd (some_there arm (depth - 1) start rest (question_goes start behind e) (all_read arm (depth - 1) start rest rest [] l (gets_stop f)))
choice_read depth ts start behind rest (q ∷ ps) x y e f p h i l =
    let p' : Gets (part a_condition) depth ts q.0 start = subst (λ (u : Tree). Gets (part a_condition) depth ts u start) (sym i) p in
    let h' : height q.0 < depth = subst (λ (u : Tree). height u < depth) (sym i) h in
    gets_part (gets_chain p' h' (ap (goes (one_or_more arm)) e)
    (more_read arm (depth - 1) start rest (row_of (arms_of (q ∷ ps) y)) (question_goes start behind e) (all_read arm (depth - 1) start rest rest (arms_of (q ∷ ps) y) l (gets_stop f))))

pub choice_height : (depth : ℕ) (start behind rest : List Symbol) (ps : List (Tree × Tree)) (x y : Tree) → start ≡ a_mark m.Question ∷ behind → goes (mark m.Question) rest ≡ false → head_of ps y ≡ x → Along arm depth start rest (arms_of ps y) → height (choice_tree ps y) ≡ suc (max (height x) (height (row_of (arms_of ps y))))
choice_height depth start behind rest [] x y e f i l =
    absurd (some_there arm depth start rest (question_goes start behind e) (all_read arm depth start rest rest [] l (gets_stop f)))
choice_height depth start behind rest (q ∷ ps) x y e f i l = ap (λ u. suc (max (height u) (height (row_of (arms_of (q ∷ ps) y))))) i

-- a number
pub number_stuck : (depth : ℕ) (deep : Bool) (ts at : List Symbol) → first ts ≡ any_number → Stuck number depth deep ts at → Stuck (part an_operand) depth deep ts at
number_stuck depth deep ts at e s =
    let none : 0 ≤ depth = omega arith in
    stuck_part (stuck_left (goes_at number ts any_number true e refl) none s)

pub number_read : (depth : ℕ) (ts rest : List Symbol) (x : Tree) → first ts ≡ any_number → Gets number depth ts x rest → Gets (part an_operand) depth ts x rest
number_read depth ts rest x e p = gets_part (gets_left (goes_at number ts any_number true e refl) p)

-- an operand that is a node, by its first symbol
compound_stuck : (g : Grammar) (depth : ℕ) (deep : Bool) (s : Symbol) (ts after at : List Symbol) → 0 < depth → ts ≡ s ∷ after → goes number (s ∷ after) ≡ false → goes (chain name (one_or_more select)) (s ∷ after) ≡ false → branch (class_of s) compounds ≡ Some g → low g ≡ 0 → Stuck g (depth - 1) deep after at → Stuck (part an_operand) depth deep ts at
compound_stuck g depth deep s ts after at h e i j b l p =
    let none : 0 ≤ depth = omega arith in
    rw e (stuck_part (stuck_right i none (stuck_right j h (stuck_node h (choices.choice_stuck compounds g (depth - 1) deep s after at b (omega (arith, l)) p)))))

compound_read : (g : Grammar) (depth : ℕ) (s : Symbol) (ts after rest : List Symbol) (x : Tree) → 0 < depth → ts ≡ s ∷ after → goes number (s ∷ after) ≡ false → goes (chain name (one_or_more select)) (s ∷ after) ≡ false → branch (class_of s) compounds ≡ Some g → Gets g (depth - 1) after x rest → Gets (part an_operand) depth ts (down (both (leaf s) x)) rest
compound_read g depth s ts after rest x h e i j b p = rw e (gets_part (gets_right i (gets_right j (gets_node h (choices.choice_read compounds g (depth - 1) s after rest x b p)))))

-- an operator and its operand
prefix_branch : (op : Unary) → branch (the_mark (unary_mark op)) compounds ≡ Some (part an_operand)
prefix_branch u.Not = refl
prefix_branch _ = refl

pub prefixed_stuck : (op : Unary) (depth : ℕ) (deep : Bool) (ts after at : List Symbol) → 0 < depth → ts ≡ a_mark (unary_mark op) ∷ after → Stuck (part an_operand) (depth - 1) deep after at → Stuck (part an_operand) depth deep ts at
prefixed_stuck op depth deep ts after at h e s = compound_stuck (part an_operand) depth deep (a_mark (unary_mark op)) ts after at h e refl refl (prefix_branch op) refl s

pub prefixed_read : (op : Unary) (depth : ℕ) (ts after rest : List Symbol) (x : Tree) → 0 < depth → ts ≡ a_mark (unary_mark op) ∷ after → Gets (part an_operand) (depth - 1) after x rest → Gets (part an_operand) depth ts (down (both (leaf (a_mark (unary_mark op))) x)) rest
prefixed_read op depth ts after rest x h e p = compound_read (part an_operand) depth (a_mark (unary_mark op)) ts after rest x h e refl refl (prefix_branch op) p

-- an expression in parentheses
pub group_stuck : (depth : ℕ) (deep : Bool) (ts after at : List Symbol) → 0 < depth → ts ≡ a_mark m.Open ∷ after → Stuck (part an_expr · mark m.Close) (depth - 1) deep after at → Stuck (part an_operand) depth deep ts at
group_stuck depth deep ts after at h e s = compound_stuck (part an_expr · mark m.Close) depth deep (a_mark m.Open) ts after at h e refl refl refl refl s

pub group_read : (depth : ℕ) (ts after rest : List Symbol) (x : Tree) → 0 < depth → ts ≡ a_mark m.Open ∷ after → Gets (part an_expr · mark m.Close) (depth - 1) after x rest → Gets (part an_operand) depth ts (down (both (leaf (a_mark m.Open)) x)) rest
group_read depth ts after rest x h e p = compound_read (part an_expr · mark m.Close) depth (a_mark m.Open) ts after rest x h e refl refl refl p

-- a conversion
pub cast_stuck : (signed : Bool) (depth : ℕ) (deep : Bool) (ts after at : List Symbol) → 0 < depth → ts ≡ a_cast signed ∷ after → Stuck (mark m.Open · part an_expr · mark m.Close) (depth - 1) deep after at → Stuck (part an_operand) depth deep ts at
cast_stuck signed depth deep ts after at h e s = compound_stuck (mark m.Open · part an_expr · mark m.Close) depth deep (a_cast signed) ts after at h e refl refl refl refl s

pub cast_read : (signed : Bool) (depth : ℕ) (ts after rest : List Symbol) (x : Tree) → 0 < depth → ts ≡ a_cast signed ∷ after → Gets (mark m.Open · part an_expr · mark m.Close) (depth - 1) after x rest → Gets (part an_operand) depth ts (down (both (leaf (a_cast signed)) x)) rest
cast_read signed depth ts after rest x h e p = compound_read (mark m.Open · part an_expr · mark m.Close) depth (a_cast signed) ts after rest x h e refl refl refl p

-- what stands in braces behind the first expression
abbrev pub braced : Grammar
braced = mark m.OpenBrace · part an_expr · other_parts an_expr · mark m.CloseBrace or other_parts an_expr

pub braces_stuck : (depth : ℕ) (deep : Bool) (ts after at : List Symbol) → 0 < depth → ts ≡ a_mark m.OpenBrace ∷ after → Stuck (part an_expr · braced) (depth - 1) deep after at → Stuck (part an_operand) depth deep ts at
braces_stuck depth deep ts after at h e s = compound_stuck (part an_expr · braced) depth deep (a_mark m.OpenBrace) ts after at h e refl refl refl refl s

pub braces_read : (depth : ℕ) (ts after rest : List Symbol) (x : Tree) → 0 < depth → ts ≡ a_mark m.OpenBrace ∷ after → Gets (part an_expr · braced) (depth - 1) after x rest → Gets (part an_operand) depth ts (down (both (leaf (a_mark m.OpenBrace)) x)) rest
braces_read depth ts after rest x h e p = compound_read (part an_expr · braced) depth (a_mark m.OpenBrace) ts after rest x h e refl refl refl p

no_inner : (ts : List Symbol) → goes (mark m.OpenBrace) ts ≡ false → goes (mark m.OpenBrace · part an_expr · other_parts an_expr · mark m.CloseBrace) ts ≡ false
no_inner ts h = h

pub others_stuck : (depth : ℕ) (deep : Bool) (ts at : List Symbol) → goes (mark m.OpenBrace) ts ≡ false → Stuck (other_parts an_expr) depth deep ts at → Stuck braced depth deep ts at
others_stuck depth deep ts at h s =
    let none : 0 ≤ depth = omega arith in
    stuck_right (no_inner ts h) none s

pub others_read : (depth : ℕ) (ts rest : List Symbol) (x : Tree) → goes (mark m.OpenBrace) ts ≡ false → Gets (other_parts an_expr) depth ts x rest → Gets braced depth ts x rest
others_read depth ts rest x h p = gets_right (no_inner ts h) p

pub repeated_stuck : (depth : ℕ) (deep : Bool) (ts after at : List Symbol) → ts ≡ a_mark m.OpenBrace ∷ after → Stuck (part an_expr · other_parts an_expr · mark m.CloseBrace) depth deep after at → Stuck braced depth deep ts at
repeated_stuck depth deep ts after at e s =
    let none : 0 ≤ depth = omega arith in
    rw e (stuck_left refl none (stuck_second (gets_token refl) s))

pub repeated_read : (depth : ℕ) (ts after rest : List Symbol) (x : Tree) → ts ≡ a_mark m.OpenBrace ∷ after → Gets (part an_expr · other_parts an_expr · mark m.CloseBrace) depth after x rest → Gets braced depth ts (both (leaf (a_mark m.OpenBrace)) x) rest
repeated_read depth ts after rest x e p = rw e (gets_left refl (gets_seq (gets_token refl) p))

-- a part of a concatenation behind its comma
abbrev pub comma_of : Expr → Tree
comma_of x = comma_by expr_tree x

-- an operator that has no depth
prefix_among : (op : Unary) → among (the_mark (unary_mark op)) operand_fronts ≡ true
prefix_among u.Not = refl
prefix_among _ = refl

prefix_need : (op : Unary) → need (the_mark (unary_mark op)) operand_fronts ≡ 1
prefix_need u.Not = refl
prefix_need _ = refl

pub prefixed_deep : (op : Unary) (depth : ℕ) (ts after : List Symbol) → ts ≡ a_mark (unary_mark op) ∷ after → depth ≡ 0 → Stuck (part an_operand) depth true ts ts
prefixed_deep op depth ts after e h = deep_at an_operand depth ts (the_mark (unary_mark op)) (ap first e) (prefix_among op) (omega (arith, h, prefix_need op))
