-- Lists with commas.
use Rattle.std.specs.Prelude.{◌≡◌, ℕ, ◌<◌, ◌≤◌, Bool, true, false, List, [], ◌∷◌, ◌++◌, length, map, drop, refl}
use Rattle.std.proofs.Common.{sym, ◌∙◌, ap, subst, append_assoc, arith}
use Rattle.std.proofs.lemmas.List.{append-nil, length-append, map-append}
use Rattle.vs_syntax.specs.vs_lexer.specs.declared.token.Mark.TheVariants as m
use Rattle.vs_syntax.specs.Symbols.{Symbol, a_mark, class_of}
use Rattle.vs_syntax.specs.Grammar.{Grammar, ◌·◌, mark}
use Rattle.vs_syntax.specs.Tables.{low, goes}
use Rattle.vs_syntax.specs.Derivation.{Tree, leaf, both, tokens}
use Rattle.vs_syntax.specs.Reading.{Gets, Stuck, stuck_second, stuck_many}
use Rattle.vs_syntax.specs.Views.{commas_tree, comma_list_tree}
use Rattle.vs_syntax.proofs.Fronts.{same_class-refl}
use Rattle.std.proofs.lemmas.Bool.{or_left}
use Rattle.vs_syntax.proofs.Gets.{gets_token, gets_seq, gets_stop}
use Rattle.vs_syntax.specs.vs_lexer.specs.declared.token.Token.{Token}
use Rattle.vs_parse_expressions.specs.Answers.{seen}
use Rattle.vs_parse_expressions.proofs.Rows.{Along, along_none, along_push, all_read}
use Rattle.vs_parse_expressions.specs.Lists.{comma_tail, Grown}

-- a tree behind its comma
abbrev pub comma_before : Tree → Tree
comma_before x = both (leaf (a_mark m.Comma)) x

-- To the elements `xs` those were added that stand from the start to the rest, each behind its comma.
pub record Adding {X : Type 0} (g : Grammar) (depth : ℕ) (tree : X → Tree) (start rest : List Symbol) (xs ys : List X) : Type 0 where
  pub others : List X
  pub all : ys ≡ xs ++ others
  pub along : Along (mark m.Comma · g) depth start rest (map comma_before (map tree others))

pub adding_none : {X : Type 0} (g : Grammar) (depth : ℕ) (tree : X → Tree) (ts : List Symbol) (xs : List X) → Adding g depth tree ts ts xs xs
adding_none g depth tree ts xs = record { others = []; all = sym (append-nil xs); along = along_none (mark m.Comma · g) depth ts }

goes_comma : (g : Grammar) (ts after : List Symbol) → ts ≡ a_mark m.Comma ∷ after → goes (mark m.Comma · g) ts ≡ true
goes_comma g ts after e = ap (goes (mark m.Comma · g)) e ∙ or_left _ false (same_class-refl (class_of (a_mark m.Comma)))

comma_read : (g : Grammar) (depth : ℕ) (ts after rest : List Symbol) (x : Tree) → ts ≡ a_mark m.Comma ∷ after → Gets g depth after x rest → Gets (mark m.Comma · g) depth ts (comma_before x) rest
comma_read g depth ts after rest x e q = rw e (gets_seq (gets_token refl) q)

-- one more
pub adding_push : {X : Type 0} (g : Grammar) (depth : ℕ) (tree : X → Tree) (start rest after behind : List Symbol) (xs ys zs : List X) (x : X) → zs ≡ ys ++ x ∷ [] → Adding g depth tree start rest xs ys → rest ≡ a_mark m.Comma ∷ after → Gets g depth after (tree x) behind → Adding g depth tree start behind xs zs
adding_push g depth tree start rest after behind xs ys zs x e l f q = record {
  others = l.others ++ x ∷ [];
  all = e ∙ ap (λ u. u ++ x ∷ []) l.all ∙ append_assoc xs l.others (x ∷ []);
  along = along_push (mark m.Comma · g) depth start rest behind comma_before (map tree l.others) _ (tree x) (map-append tree l.others (x ∷ [])) l.along (goes_comma g rest after f) (comma_read g depth rest after behind (tree x) f q);
}

-- less is left behind one more
pub comma_shorter : (g : Grammar) (depth : ℕ) (ts after rest : List Symbol) (x : Tree) → ts ≡ a_mark m.Comma ∷ after → Gets g depth after x rest → length rest < length ts
comma_shorter g depth ts after rest x e p = omega (arith, ap length e, ap length p.text, length-append (tokens x) rest)

-- what stops one of them behind its comma
pub adding_stuck : {X : Type 0} (g : Grammar) (depth : ℕ) (deep : Bool) (tree : X → Tree) (start rest after at : List Symbol) (xs ys : List X) → low g ≤ depth → Adding g depth tree start rest xs ys → rest ≡ a_mark m.Comma ∷ after → Stuck g depth deep after at → Stuck (comma_tail g) depth deep start at
adding_stuck g depth deep tree start rest after at xs ys n l e s =
    let k : low (mark m.Comma · g) ≤ depth = omega (arith, n) in
    l.along.stops deep at (stuck_many (goes_comma g rest after e) k (subst (λ (u : List Symbol). Stuck (mark m.Comma · g) depth deep u at) (sym e) (stuck_second (gets_token refl) s)))

-- all of them
pub all_added : {X : Type 0} (g : Grammar) (depth : ℕ) (tree : X → Tree) (start rest : List Symbol) (xs ys : List X) → Adding g depth tree start rest xs ys → goes (mark m.Comma) rest ≡ false → Grown g depth tree start rest xs ys
all_added g depth tree start rest xs ys l h = record {
  others = l.others;
  all = l.all;
  gets = all_read (mark m.Comma · g) depth start rest rest (map comma_before (map tree l.others)) l.along (gets_stop h);
}

-- what was added to nothing
pub grown_none : {X : Type 0} (g : Grammar) (depth : ℕ) (tree : X → Tree) (ts rest : List Symbol) (xs ys : List X) → Grown g depth tree ts rest xs ys → xs ≡ [] → Gets (comma_tail g) depth ts (commas_tree (map tree ys)) rest
grown_none g depth tree ts rest xs ys l e =
    let i : ys ≡ l.others = l.all ∙ ap (λ u. u ++ l.others) e in
    subst (λ u. Gets (comma_tail g) depth ts (commas_tree (map tree u)) rest) (sym i) l.gets

-- what was added to one
pub grown_one : {X : Type 0} (g : Grammar) (depth : ℕ) (tree : X → Tree) (ts rest : List Symbol) (x : X) (xs ys : List X) (P : List X → Type 0) → (l : Grown g depth tree ts rest xs ys) → xs ≡ x ∷ [] → P (x ∷ l.others) → P ys
grown_one g depth tree ts rest x xs ys P l e p =
    let i : ys ≡ x ∷ l.others = l.all ∙ ap (λ u. u ++ l.others) e in
    subst P (sym i) p

-- a list with its end: the first, the others and what stands behind them
pub listed_read : {X : Type 0} (g : Grammar) (depth : ℕ) (tree : X → Tree) (ts start rest at : List Symbol) (x : X) (xs ys : List X) → Gets g depth ts (tree x) start → Grown g depth tree start rest xs ys → xs ≡ x ∷ [] → Gets (mark m.Semicolon) depth rest (leaf (a_mark m.Semicolon)) at → Gets (g · comma_tail g · mark m.Semicolon) depth ts (comma_list_tree (map tree ys)) at
listed_read g depth tree ts start rest at x xs ys q l e r =
    grown_one g depth tree start rest x xs ys (λ u. Gets (g · comma_tail g · mark m.Semicolon) depth ts (comma_list_tree (map tree u)) at) l e
    (gets_seq q (gets_seq l.gets r))

-- the first of a list
pub pushed_one : {X : Type 0} (xs ys : List X) (x : X) → ys ≡ xs ++ x ∷ [] → xs ≡ [] → ys ≡ x ∷ []
pushed_one xs ys x e f = e ∙ ap (λ u. u ++ x ∷ []) f

-- before the first one
pub adding_start : {X : Type 0} (g : Grammar) (depth : ℕ) (tree : X → Tree) (ts us : List Token) (xs : List X) → us ≡ drop 0 ts → Adding g depth tree (seen ts) (seen us) xs xs
adding_start g depth tree ts us xs e = subst (λ (u : List Token). Adding g depth tree (seen ts) (seen u) xs xs) (sym e) (adding_none g depth tree (seen ts) xs)
