-- Parts behind a separator.
use Rattle.std.specs.Prelude.{◌≡◌, ℕ, ◌≤◌, Bool, true, false, List, [], ◌∷◌, map, refl}
use Rattle.std.proofs.Common.{sym, ◌∙◌, ap, subst, arith}
use Rattle.vs_syntax.specs.Symbols.{Symbol, a_mark, class_of}
use Rattle.vs_syntax.specs.vs_lexer.specs.declared.token.Mark.{Mark}
use Rattle.vs_syntax.specs.vs_lexer.specs.declared.token.Mark.TheVariants as m
use Rattle.vs_syntax.specs.Grammar.{Nonterminal, Grammar, ◌·◌, part, mark, other_parts}
use Rattle.vs_syntax.specs.Tables.{low, low_of, goes}
use Rattle.vs_syntax.specs.Derivation.{Tree, leaf, both, height}
use Rattle.vs_syntax.specs.Reading.{Gets, Stuck, stuck_first, stuck_second, stuck_many}
use Rattle.vs_syntax.specs.Views.{row_of, commas_tree, others_tree}
use Rattle.vs_syntax.proofs.Fronts.{same_class-refl}
use Rattle.std.proofs.lemmas.Bool.{or_left}
use Rattle.vs_syntax.proofs.Gets.{gets_token, gets_seq, gets_stop}
use Rattle.vs_parse_expressions.proofs.Rows.{Along, all_read}

-- a part behind its separator
abbrev pub another : Mark → Nonterminal → Grammar
another sign p = mark sign · part p

pub goes_another : (sign : Mark) (p : Nonterminal) (ts after : List Symbol) → ts ≡ a_mark sign ∷ after → goes (another sign p) ts ≡ true
goes_another sign p ts after e = ap (goes (another sign p)) e ∙ or_left _ false (same_class-refl (class_of (a_mark sign)))

pub another_read : (sign : Mark) (p : Nonterminal) (depth : ℕ) (ts after rest : List Symbol) (x : Tree) → ts ≡ a_mark sign ∷ after → Gets (part p) depth after x rest → Gets (another sign p) depth ts (both (leaf (a_mark sign)) x) rest
another_read sign p depth ts after rest x e q = rw e (gets_seq (gets_token refl) q)

-- a part of a concatenation behind its comma
abbrev pub comma_by : {X : Type 0} → (X → Tree) → X → Tree
comma_by tree x = both (leaf (a_mark m.Comma)) (tree x)

commas_are : {X : Type 0} (tree : X → Tree) (xs : List X) → commas_tree (map tree xs) ≡ row_of (map (comma_by tree) xs)
commas_are tree [] = refl
commas_are tree (x ∷ xs) = ap (both (comma_by tree x)) (commas_are tree xs)

pub parts_height : {X : Type 0} (tree : X → Tree) (xs : List X) → height (others_tree (map tree xs)) ≡ height (row_of (map (comma_by tree) xs))
parts_height tree xs = let e : height (commas_tree (map tree xs)) ≡ height (row_of (map (comma_by tree) xs)) = ap height (commas_are tree xs) in omega (arith, e)

pub parts_read : {X : Type 0} (p : Nonterminal) (tree : X → Tree) (depth : ℕ) (start rest at : List Symbol) (xs : List X) → Along (another m.Comma p) depth start rest (map (comma_by tree) xs) → goes (mark m.Comma) rest ≡ false → Gets (mark m.CloseBrace) depth rest (leaf (a_mark m.CloseBrace)) at → Gets (other_parts p) depth start (others_tree (map tree xs)) at
parts_read p tree depth start rest at xs l h q =
    subst (λ (u : Tree). Gets (other_parts p) depth start (both u (leaf (a_mark m.CloseBrace))) at) (sym (commas_are tree xs))
    (gets_seq (all_read (another m.Comma p) depth start rest rest (map (comma_by tree) xs) l (gets_stop h)) q)

pub part_stuck : (p : Nonterminal) (depth : ℕ) (deep : Bool) (start rest after at : List Symbol) (xs : List Tree) → low_of p ≤ depth → Along (another m.Comma p) depth start rest xs → rest ≡ a_mark m.Comma ∷ after → Stuck (part p) depth deep after at → Stuck (other_parts p) depth deep start at
part_stuck p depth deep start rest after at xs n l e s =
    let k : low (another m.Comma p) ≤ depth = omega (arith, n) in
    stuck_first (l.stops deep at (stuck_many (goes_another m.Comma p rest after e) k (subst (λ (u : List Symbol). Stuck (another m.Comma p) depth deep u at) (sym e) (stuck_second (gets_token refl) s))))

pub end_of_parts : (p : Nonterminal) (depth : ℕ) (deep : Bool) (start rest at : List Symbol) (xs : List Tree) → Along (another m.Comma p) depth start rest xs → goes (mark m.Comma) rest ≡ false → Stuck (mark m.CloseBrace) depth deep rest at → Stuck (other_parts p) depth deep start at
end_of_parts p depth deep start rest at xs l h s = stuck_second (all_read (another m.Comma p) depth start rest rest xs l (gets_stop h)) s
