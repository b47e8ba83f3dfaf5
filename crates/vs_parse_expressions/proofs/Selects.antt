-- How the parts of a select make it, and where it stops.
use Rattle.std.specs.Prelude.{◌≡◌, ℕ, max, ◌++◌, ◌-◌, ◌<◌, ◌≤◌, Bool, true, false, List, [], ◌∷◌, refl}
use Rattle.std.proofs.Common.{◌∙◌, ap, append_assoc, arith}
use Rattle.vs_syntax.specs.vs_lexer.specs.declared.token.Mark.TheVariants as m
use Rattle.vs_syntax.specs.Symbols.{Symbol, a_mark, any_name, first}
use Rattle.vs_syntax.specs.Grammar.{Grammar, ◌·◌, part, mark, name, number, many, chain, one_or_more, part_marks, second, select, a_condition, an_expr, an_operand}
use Rattle.vs_syntax.specs.Tables.{goes}
use Rattle.vs_syntax.specs.Derivation.{Tree, empty, leaf, both, down, tokens, height, Is, is_seq}
use Rattle.vs_syntax.specs.Reading.{Gets, Stuck, stuck_here, stuck_deep, stuck_first, stuck_second, stuck_left, stuck_right, stuck_many, stuck_part, stuck_link, stuck_high}
use Rattle.vs_syntax.specs.Views.{row_of, part_mark, some_tree}
use Rattle.vs_syntax.specs.declared.tree.PartSelect.{PartSelect}
use Rattle.vs_syntax.specs.declared.tree.PartSelect.TheVariants as p
use Rattle.vs_syntax.proofs.Gets.{gets_nothing, gets_token, gets_seq, gets_left, gets_right, gets_part, gets_stop, gets_one, gets_chain}
use Rattle.vs_parse_expressions.proofs.Exits.{goes_at}
use Rattle.vs_parse_expressions.proofs.Rows.{Along, all_read, more_read, more_stuck, some_there}

-- what stands between the two expressions of a part-select
pub part_goes : (ts after : List Symbol) (k : PartSelect) → ts ≡ a_mark (part_mark k) ∷ after → goes part_marks ts ≡ true
part_goes ts after p.Bounds e = ap (goes part_marks) e
part_goes ts after p.Upward e = ap (goes part_marks) e
part_goes ts after p.Downward e = ap (goes part_marks) e

pub part_read : (depth : ℕ) (ts after : List Symbol) (k : PartSelect) → ts ≡ a_mark (part_mark k) ∷ after → Gets part_marks depth ts (leaf (a_mark (part_mark k))) after
part_read depth ts after p.Bounds e = rw e (gets_left refl (gets_token refl))
part_read depth ts after p.Upward e = rw e (gets_right refl (gets_left refl (gets_token refl)))
part_read depth ts after p.Downward e = rw e (gets_right refl (gets_right refl (gets_token refl)))

-- no mark of a part-select
pub no_part : (ts : List Symbol) → goes (mark m.Colon) ts ≡ false → goes (mark m.PlusColon) ts ≡ false → goes (mark m.MinusColon) ts ≡ false → goes part_marks ts ≡ false
no_part ts h i k = cc

-- the second expression
pub second_none : (depth : ℕ) (ts : List Symbol) → goes part_marks ts ≡ false → Gets second depth ts empty ts
second_none depth ts h = gets_right h gets_nothing

pub second_stuck : (depth : ℕ) (deep : Bool) (ts after at : List Symbol) (k : PartSelect) → ts ≡ a_mark (part_mark k) ∷ after → Stuck (part an_expr) depth deep after at → Stuck second depth deep ts at
second_stuck depth deep ts after at k e s =
    let none : 0 ≤ depth = omega arith in
    stuck_left (part_goes ts after k e) none (stuck_second (part_read depth ts after k e) s)

pub second_read : (depth : ℕ) (ts after rest : List Symbol) (k : PartSelect) (x : Tree) → ts ≡ a_mark (part_mark k) ∷ after → Gets (part an_expr) depth after x rest → Gets second depth ts (both (leaf (a_mark (part_mark k))) x) rest
second_read depth ts after rest k x e q = gets_left (part_goes ts after k e) (gets_seq (part_read depth ts after k e) q)

-- the two parts of what was read in a row
seq_is : {a b : Grammar} {x y : Tree} {more : List Symbol} → Is (a · b) (both x y) more → Is a x (tokens y ++ more) × Is b y more
seq_is (is_seq p q) = (p, q)

pub seq_apart : {a b : Grammar} {depth : ℕ} {ts rest : List Symbol} {x y : Tree} → Gets (a · b) depth ts (both x y) rest → Gets a depth ts x (tokens y ++ rest) × Gets b depth (tokens y ++ rest) y rest
seq_apart {ts = ts} {rest = rest} {x = x} {y = y} g =
    let p = seq_is g.is in
    let h : max (height x) (height y) ≤ _ = g.fits in
    (record { is = p.0; text = g.text ∙ append_assoc (tokens x) (tokens y) rest; fits = omega (arith, h) }, record { is = p.1; text = refl; fits = omega (arith, h) })

-- a condition's first operand and the colon, before the other operand
pub before_stuck : {depth : ℕ} {deep : Bool} {ts at : List Symbol} → Stuck (part an_expr · mark m.Colon) depth deep ts at → Stuck (part an_expr · mark m.Colon · part a_condition) depth deep ts at
before_stuck (stuck_here n h) = stuck_here refl h
before_stuck (stuck_deep h n) = stuck_deep h n
before_stuck (stuck_first s) = stuck_first s
before_stuck (stuck_second p s) = stuck_second p (stuck_first s)

-- the second expression and the bracket behind it
pub second_closed_stuck : {depth : ℕ} {deep : Bool} {ts after at : List Symbol} (k : PartSelect) → ts ≡ a_mark (part_mark k) ∷ after → Stuck (part an_expr · mark m.CloseBracket) depth deep after at → Stuck (second · mark m.CloseBracket) depth deep ts at
second_closed_stuck k e (stuck_here n h) = stuck_first (second_stuck _ false _ _ _ k e (stuck_here refl h))
second_closed_stuck k e (stuck_deep h n) = stuck_first (second_stuck _ true _ _ _ k e (stuck_deep h n))
second_closed_stuck k e (stuck_first s) = stuck_first (second_stuck _ _ _ _ _ k e s)
second_closed_stuck k e (stuck_second p s) = stuck_second (second_read _ _ _ _ k _ e p) s

-- a select behind its bracket
abbrev pub select_rest : Grammar
select_rest = part an_expr · second · mark m.CloseBracket

pub select_goes : (ts after : List Symbol) → ts ≡ a_mark m.OpenBracket ∷ after → goes select ts ≡ true
select_goes ts after e = ap (goes select) e

pub select_stuck : (depth : ℕ) (deep : Bool) (ts after at : List Symbol) → ts ≡ a_mark m.OpenBracket ∷ after → Stuck select_rest depth deep after at → Stuck select depth deep ts at
select_stuck depth deep ts after at e s = rw e (stuck_second (gets_token refl) s)

pub select_read : (depth : ℕ) (ts after rest : List Symbol) (x : Tree) → ts ≡ a_mark m.OpenBracket ∷ after → Gets select_rest depth after x rest → Gets select depth ts (both (leaf (a_mark m.OpenBracket)) x) rest
select_read depth ts after rest x e q = rw e (gets_seq (gets_token refl) q)

-- selects one after another
pub selects_stuck : (depth : ℕ) (deep : Bool) (start rest after at : List Symbol) (xs : List Tree) → Along select depth start rest xs → rest ≡ a_mark m.OpenBracket ∷ after → Stuck select depth deep rest at → Stuck (many select) depth deep start at
selects_stuck depth deep start rest after at xs l e s =
    let none : 0 ≤ depth = omega arith in
    l.stops deep at (stuck_many (select_goes rest after e) none s)

pub selects_read : (depth : ℕ) (start rest : List Symbol) (xs : List Tree) → Along select depth start rest xs → goes (mark m.OpenBracket) rest ≡ false → Gets (many select) depth start (row_of xs) rest
selects_read depth start rest xs l h = all_read select depth start rest rest xs l (gets_stop h)

-- what stands behind a name has a select where a bracket is next
some_selects : (depth : ℕ) (start after rest : List Symbol) (xs : List Tree) → start ≡ a_mark m.OpenBracket ∷ after → Gets (many select) depth start (row_of xs) rest → some_tree xs ≡ row_of xs
some_selects depth start after rest [] e q = absurd (some_there select depth start rest (select_goes start after e) q)
some_selects depth start after rest (x ∷ xs) e q = refl

-- a name as an operand
pub named_stuck : (depth : ℕ) (deep : Bool) (ts at : List Symbol) → first ts ≡ any_name → Stuck (chain name (one_or_more select)) depth deep ts at → Stuck (part an_operand) depth deep ts at
named_stuck depth deep ts at e s =
    let none : 0 ≤ depth = omega arith in
    stuck_part (stuck_right (goes_at number ts any_name false e refl) none (stuck_left (goes_at (chain name (one_or_more select)) ts any_name true e refl) none s))

named_read : (depth : ℕ) (ts rest : List Symbol) (x : Tree) → first ts ≡ any_name → Gets (chain name (one_or_more select)) depth ts x rest → Gets (part an_operand) depth ts x rest
named_read depth ts rest x e q = gets_part (gets_right (goes_at number ts any_name false e refl) (gets_left (goes_at (chain name (one_or_more select)) ts any_name true e refl) q))

pub name_alone : (depth : ℕ) (ts rest : List Symbol) (x : Tree) → first ts ≡ any_name → Gets name depth ts x rest → goes (mark m.OpenBracket) rest ≡ false → Gets (part an_operand) depth ts x rest
name_alone depth ts rest x e q h = named_read depth ts rest x e (gets_one h q)

pub name_high : (depth : ℕ) (ts start after : List Symbol) (s : Symbol) → first ts ≡ any_name → Gets name depth ts (leaf s) start → start ≡ a_mark m.OpenBracket ∷ after → depth ≡ 0 → Stuck (part an_operand) depth true ts start
name_high depth ts start after s e q f h = named_stuck depth true ts start e (stuck_high q (ap (goes (one_or_more select)) f) (omega (arith, h)))

pub name_stuck : (depth : ℕ) (deep : Bool) (ts start after at : List Symbol) (s : Symbol) → first ts ≡ any_name → 0 < depth → Gets name depth ts (leaf s) start → start ≡ a_mark m.OpenBracket ∷ after → Stuck (many select) (depth - 1) deep start at → Stuck (part an_operand) depth deep ts at
name_stuck depth deep ts start after at s e h q f t = named_stuck depth deep ts at e (stuck_link q h (ap (goes (one_or_more select)) f) (more_stuck t))

pub name_read : (depth : ℕ) (ts start after rest : List Symbol) (s : Symbol) (xs : List Tree) → first ts ≡ any_name → 0 < depth → Gets name depth ts (leaf s) start → start ≡ a_mark m.OpenBracket ∷ after → Gets (many select) (depth - 1) start (row_of xs) rest → Gets (part an_operand) depth ts (down (both (leaf s) (some_tree xs))) rest
name_read depth ts start after rest s xs e h q f t =
    rw (some_selects (depth - 1) start after rest xs f t)
    (named_read depth ts rest (down (both (leaf s) (row_of xs))) e (gets_chain q h (ap (goes (one_or_more select)) f) (more_read select (depth - 1) start rest (row_of xs) (select_goes start after f) t)))

pub name_height : (depth : ℕ) (start after rest : List Symbol) (s : Symbol) (xs : List Tree) → start ≡ a_mark m.OpenBracket ∷ after → Gets (many select) depth start (row_of xs) rest → height (down (both (leaf s) (some_tree xs))) ≡ height (down (row_of xs))
name_height depth start after rest s xs e q = let k : height (some_tree xs) ≡ height (row_of xs) = ap height (some_selects depth start after rest xs e q) in omega (arith, k)
