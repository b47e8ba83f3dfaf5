-- How the parts of the left side of an assignment make it, and where it stops.
use Rattle.std.specs.Prelude.{◌≡◌, ℕ, ◌-◌, ◌<◌, ◌≤◌, Bool, true, List, ◌∷◌, map, refl}
use Rattle.std.proofs.Common.{sym, ◌∙◌, ap, arith}
use Rattle.vs_syntax.specs.vs_lexer.specs.declared.token.Mark.TheVariants as m
use Rattle.vs_syntax.specs.Symbols.{Symbol, a_mark, any_name, first}
use Rattle.vs_syntax.specs.Grammar.{Grammar, ◌·◌, part, name, many, select, other_parts, a_target}
use Rattle.vs_syntax.specs.Derivation.{Tree, leaf, both, down}
use Rattle.vs_syntax.specs.Reading.{Gets, Stuck, stuck_second, stuck_left, stuck_right, stuck_part, stuck_node}
use Rattle.vs_syntax.specs.Views.{row_of, name_tree, others_tree, chosen_tree, left_step, left_tree}
use Rattle.vs_syntax.specs.declared.tree.Left.{fold-roll-Left}
use Rattle.vs_syntax.specs.declared.tree.Left.TheVariants as l
use Rattle.vs_syntax.specs.declared.tree.Left.TheVariants.{rolls-Name, rolls-Concat}
use Rattle.vs_syntax.proofs.Gets.{gets_token, gets_seq, gets_left, gets_right, gets_part, gets_node}
use Rattle.vs_parse_expressions.proofs.Exits.{goes_at}

pub tree_Place : (n ss : _) → left_tree (l.Name n ss) ≡ down (both (name_tree n.items) (row_of (map chosen_tree ss.items)))
tree_Place n ss = ap left_tree (sym (rolls-Name n ss)) ∙ fold-roll-Left Tree left_step _

pub tree_Places : (x xs : _) → left_tree (l.Concat x xs) ≡ down (both (leaf (a_mark m.OpenBrace)) (both (left_tree x.value) (others_tree (map left_tree xs.items))))
tree_Places x xs = ap left_tree (sym (rolls-Concat x xs)) ∙ fold-roll-Left Tree left_step _

-- a name with its selects
abbrev pub place : Grammar
place = name · many select

pub place_stuck : (depth : ℕ) (deep : Bool) (ts at : List Symbol) → 0 < depth → first ts ≡ any_name → Stuck place (depth - 1) deep ts at → Stuck (part a_target) depth deep ts at
place_stuck depth deep ts at h e s =
    let none : 0 ≤ depth - 1 = omega arith in
    stuck_part (stuck_node h (stuck_left (goes_at place ts any_name true e refl) none s))

pub place_read : (depth : ℕ) (ts rest : List Symbol) (x : Tree) → 0 < depth → first ts ≡ any_name → Gets place (depth - 1) ts x rest → Gets (part a_target) depth ts (down x) rest
place_read depth ts rest x h e q = gets_part (gets_node h (gets_left (goes_at place ts any_name true e refl) q))

-- targets in braces, behind the first brace
abbrev pub places : Grammar
places = part a_target · other_parts a_target

pub places_stuck : (depth : ℕ) (deep : Bool) (ts after at : List Symbol) → 2 ≤ depth → ts ≡ a_mark m.OpenBrace ∷ after → Stuck places (depth - 1) deep after at → Stuck (part a_target) depth deep ts at
places_stuck depth deep ts after at h e s =
    let one : 1 ≤ depth - 1 = omega (arith, h) in
    let some : 0 < depth = omega (arith, h) in
    rw e (stuck_part (stuck_node some (stuck_right refl one (stuck_second (gets_token refl) s))))

pub places_read : (depth : ℕ) (ts after rest : List Symbol) (x : Tree) → 2 ≤ depth → ts ≡ a_mark m.OpenBrace ∷ after → Gets places (depth - 1) after x rest → Gets (part a_target) depth ts (down (both (leaf (a_mark m.OpenBrace)) x)) rest
places_read depth ts after rest x h e q =
    let some : 0 < depth = omega (arith, h) in
    rw e (gets_part (gets_node some (gets_right refl (gets_seq (gets_token refl) q))))
