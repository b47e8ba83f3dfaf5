-- Parts that follow one another, and loops that read them.
use Rattle.std.specs.Prelude.{◌≡◌, ℕ, max, ◌<◌, Bool, true, false, List, [], ◌∷◌, ◌++◌, length, map, drop, refl}
use Rattle.std.proofs.Common.{sym, ◌∙◌, ap, subst, arith}
use Rattle.std.proofs.lemmas.List.{length-append, map-append}
use Rattle.vs_syntax.specs.vs_lexer.specs.declared.token.Token.{Token}
use Rattle.vs_syntax.specs.Symbols.{Symbol}
use Rattle.vs_syntax.specs.Grammar.{Grammar, many, one_or_more}
use Rattle.vs_syntax.specs.Tables.{goes}
use Rattle.vs_syntax.specs.Derivation.{Tree, empty, both, tokens, height, Is, is_seq, is_stop, is_more}
use Rattle.vs_syntax.specs.Reading.{Gets, Stuck, stuck_here, stuck_deep, stuck_first, stuck_second, stuck_many, stuck_more}
use Rattle.vs_syntax.specs.Views.{row_of}
use Rattle.vs_parse_expressions.specs.Answers.{seen}
use Rattle.vs_syntax.proofs.Fronts.{clash}
use Rattle.vs_syntax.proofs.Starts.{quiet}
use Rattle.vs_syntax.proofs.Gets.{gets_more}

-- parts that follow one another, before a tree
abbrev pub row_onto : List Tree → Tree → Tree
row_onto [] y = y
row_onto (x ∷ xs) y = both x (row_onto xs y)

pub row_onto-empty : (xs : List Tree) → row_onto xs empty ≡ row_of xs
row_onto-empty [] = refl
row_onto-empty (x ∷ xs) = ap (both x) (row_onto-empty xs)

pub row_onto-push : (xs : List Tree) (x y : Tree) → row_onto (xs ++ x ∷ []) y ≡ row_onto xs (both x y)
row_onto-push [] x y = refl
row_onto-push (w ∷ ws) x y = ap (both w) (row_onto-push ws x y)

-- From the start to the rest these parts were read, so what is read next goes on with them.
pub record Along (a : Grammar) (depth : ℕ) (start rest : List Symbol) (xs : List Tree) : Type 0 where
  pub reads : (y : Tree) (at : List Symbol) → Gets (many a) depth rest y at → Gets (many a) depth start (row_onto xs y) at
  pub stops : (deep : Bool) (at : List Symbol) → Stuck (many a) depth deep rest at → Stuck (many a) depth deep start at

pub along_none : (a : Grammar) (depth : ℕ) (ts : List Symbol) → Along a depth ts ts []
along_none a depth ts = record { reads = λ y at p. p; stops = λ deep at s. s }

pub along_one : (a : Grammar) (depth : ℕ) (start rest behind : List Symbol) (xs : List Tree) (x : Tree) → Along a depth start rest xs → goes a rest ≡ true → Gets a depth rest x behind → Along a depth start behind (xs ++ x ∷ [])
along_one a depth start rest behind xs x l h p = record {
  reads = λ y at q. subst (λ (u : Tree). Gets (many a) depth start u at) (sym (row_onto-push xs x y)) (l.reads (both x y) at (gets_more h p q));
  stops = λ deep at s. l.stops deep at (stuck_more h p s);
}

-- the same, for what was pushed to a list
pub along_push : {X : Type 0} (a : Grammar) (depth : ℕ) (start rest behind : List Symbol) (tree : X → Tree) (xs ys : List X) (x : X) → ys ≡ xs ++ x ∷ [] → Along a depth start rest (map tree xs) → goes a rest ≡ true → Gets a depth rest (tree x) behind → Along a depth start behind (map tree ys)
along_push a depth start rest behind tree xs ys x e l h p =
    subst (λ (u : List Tree). Along a depth start behind u) (sym (ap (map tree) e ∙ map-append tree xs (x ∷ []))) (along_one a depth start rest behind (map tree xs) (tree x) l h p)

shorter_by : (xs mid ts : List Symbol) → ts ≡ xs ++ mid → (xs ≡ [] → ⊥) → length mid < length ts
shorter_by [] mid ts e f = absurd (f refl)
shorter_by (z ∷ zs) mid ts e f = omega (arith, ap length e, length-append zs mid)

-- what was read has a token, if the next one could begin it
pub shorter : (a : Grammar) (depth : ℕ) (ts mid : List Symbol) (x : Tree) → goes a ts ≡ true → Gets a depth ts x mid → length mid < length ts
shorter a depth ts mid x h p = shorter_by (tokens x) mid ts p.text (λ e. clash h (ap (goes a) (p.text ∙ ap (λ u. u ++ mid) e) ∙ quiet p.is e))

-- before the first of them
pub along_start : {X : Type 0} (a : Grammar) (depth : ℕ) (ts us : List Token) (tree : X → Tree) (xs : List X) → us ≡ drop 0 ts → xs ≡ [] → Along a depth (seen ts) (seen us) (map tree xs)
along_start a depth ts us tree xs e f = subst (λ (u : List Token). Along a depth (seen ts) (seen u) (map tree xs)) (sym e) (subst (λ u. Along a depth (seen ts) (seen ts) (map tree u)) (sym f) (along_none a depth (seen ts)))

-- all of them
pub all_read : (a : Grammar) (depth : ℕ) (start rest at : List Symbol) (xs : List Tree) → Along a depth start rest xs → Gets (many a) depth rest empty at → Gets (many a) depth start (row_of xs) at
all_read a depth start rest at xs l p = subst (λ (u : Tree). Gets (many a) depth start u at) (row_onto-empty xs) (l.reads empty at p)

-- The same of one or more parts.
more_is : {a : Grammar} {y : Tree} {at : List Symbol} → Is (many a) y at → goes a (tokens y ++ at) ≡ true → Is (one_or_more a) y at
more_is (is_stop h) g = absurd (clash g h)
more_is (is_more h p q) g = is_seq p q

pub more_read : (a : Grammar) (depth : ℕ) (ts at : List Symbol) (y : Tree) → goes a ts ≡ true → Gets (many a) depth ts y at → Gets (one_or_more a) depth ts y at
more_read a depth ts at y h p = record { is = more_is p.is (ap (goes a) (sym p.text) ∙ h); text = p.text; fits = p.fits }

pub more_stuck : {a : Grammar} {depth : ℕ} {deep : Bool} {ts at : List Symbol} → Stuck (many a) depth deep ts at → Stuck (one_or_more a) depth deep ts at
more_stuck (stuck_here h i) = absurd (clash refl h)
more_stuck (stuck_deep i h) = stuck_first (stuck_deep i h)
more_stuck (stuck_many i h s) = stuck_first s
more_stuck (stuck_more i q s) = stuck_second q s

none_is : {a : Grammar} {at : List Symbol} → Is (many a) empty at → goes a at ≡ false
none_is (is_stop h) = h

-- no part is none where the next token can begin one
pub some_there : (a : Grammar) (depth : ℕ) (ts at : List Symbol) → goes a ts ≡ true → Gets (many a) depth ts empty at → ⊥
some_there a depth ts at h p = clash h (ap (goes a) p.text ∙ none_is p.is)

-- the nesting of parts that follow one another
pub height-row_push : (xs : List Tree) (x : Tree) → height (row_of (xs ++ x ∷ [])) ≡ max (height (row_of xs)) (height x)
height-row_push [] x = omega arith
height-row_push (w ∷ ws) x = let e : height (row_of (ws ++ x ∷ [])) ≡ max (height (row_of ws)) (height x) = height-row_push ws x in omega (arith, e)

pub height_none : {X : Type 0} (tree : X → Tree) (xs : List X) → xs ≡ [] → height (row_of (map tree xs)) ≡ 0
height_none tree xs e = ap (λ u. height (row_of (map tree u))) e

pub height_push : {X : Type 0} (tree : X → Tree) (xs ys : List X) (x : X) → ys ≡ xs ++ x ∷ [] → height (row_of (map tree ys)) ≡ max (height (row_of (map tree xs))) (height (tree x))
height_push tree xs ys x e = ap (λ u. height (row_of u)) (ap (map tree) e ∙ map-append tree xs (x ∷ [])) ∙ height-row_push (map tree xs) (tree x)
