-- The table of operators is that of the grammar.
use Rattle.std.specs.Prelude.{◌≡◌, ℕ, ◌==◌, Bool, true, false, ◌&&◌, ◌||◌, List, [], ◌∷◌, Option, None, Some, refl}
use Rattle.std.proofs.Common.{sym, ◌∙◌, ap}
use Rattle.std.proofs.lemmas.Bool.{eqb-true}
use Rattle.vs_syntax.specs.vs_logic4.specs.declared.operators.Unary.{Unary}
use Rattle.vs_syntax.specs.vs_logic4.specs.declared.operators.Binary.{Binary}
use Rattle.vs_syntax.specs.vs_lexer.specs.declared.token.Mark.{Mark}
use Rattle.vs_syntax.specs.vs_lexer.specs.declared.token.Mark.TheVariants as m
use Rattle.vs_syntax.specs.Symbols.{Symbol, a_mark, the_mark, same_class, first}
use Rattle.vs_syntax.specs.Grammar.{mark, levels, level_at}
use Rattle.vs_syntax.specs.Tables.{mark_fronts, operand_fronts, among, goes}
use Rattle.vs_syntax.specs.Views.{unary_mark, binary_mark}
use Rattle.vs_syntax.proofs.Fronts.{clash}
use Rattle.std.proofs.lemmas.Bool.{or_parts as or_false}
use Rattle.vs_syntax.proofs.Least.{row_passes}
use Rattle.vs_syntax.specs.vs_logic4.proofs.Basics.{and_left, and_right}
use Rattle.vs_syntax.proofs.Plainly.{same_class-true}
use Rattle.vs_parse_expressions.specs.Operators.{unary_of, binary_of, NoOperator, BeginsLink}

-- whether the table gives each of the marks this level
abbrev level_is : ℕ → Option (ℕ × Binary) → Bool
level_is n None = false
level_is n (Some x) = x.0 == n

abbrev all_marks : (Mark → Bool) → List Mark → Bool
all_marks p [] = true
all_marks p (x ∷ xs) = p x && all_marks p xs

mark_passes : (p : Mark → Bool) (x : Mark) (xs : List Mark) → all_marks p xs ≡ true → among (the_mark x) (mark_fronts 0 xs) ≡ true → p x ≡ true
mark_passes p x [] h i = absurd (clash i refl)
mark_passes p x (y ∷ ys) h i =
    elim (same_class (the_mark x) (the_mark y)) as (λ b. same_class (the_mark x) (the_mark y) ≡ b → (b || among (the_mark x) (mark_fronts 0 ys)) ≡ true → p x ≡ true) [
      | true ↦ λ e j. let f : the_mark x ≡ the_mark y = same_class-true (the_mark x) (the_mark y) e in let g : x ≡ y = cc in ap p g ∙ and_left (p y) (all_marks p ys) h
      | false ↦ λ e j. mark_passes p x ys (and_right (p y) (all_marks p ys) h) j
    ] refl i

-- each operator of a level stands in the table, with this level
level_found : (n : ℕ) (x : Mark) → among (the_mark x) (mark_fronts 0 (level_at levels n)) ≡ true → level_is n (binary_of x) ≡ true
level_found n x h = mark_passes (λ y. level_is n (binary_of y)) x (level_at levels n) (row_passes (λ k ops. all_marks (λ y. level_is k (binary_of y)) ops) (λ k. refl) levels refl n) h

-- whether an operator of the table stands in its level
abbrev is_right : Mark → Option (ℕ × Binary) → Bool
is_right x None = true
is_right x (Some y) = among (the_mark x) (mark_fronts 0 (level_at levels y.0)) && same_class (the_mark (binary_mark y.1)) (the_mark x)

right_of : (x : Mark) → is_right x (binary_of x) ≡ true
right_of m.And = refl
right_of _ = refl

none_or : (n : ℕ) (x : Mark) → (among (the_mark x) (mark_fronts 0 (level_at levels n)) ≡ true → ⊥) → among (the_mark x) (mark_fronts 0 (level_at levels n)) ≡ false
none_or n x f = elim (among (the_mark x) (mark_fronts 0 (level_at levels n))) as (λ b. (b ≡ true → ⊥) → b ≡ false) [ true ↦ λ g. absurd (g refl) | false ↦ λ g. refl ] f

-- no mark
pub no_operator_at : (ops : List Mark) (ts : List Symbol) → ((x : Mark) → goes (mark x) ts ≡ false) → among (first ts) (mark_fronts 0 ops) ≡ false
no_operator_at [] ts f = refl
no_operator_at (op ∷ ops) ts f = rw ((or_false (same_class (first ts) (the_mark op)) false (f op)).0) (no_operator_at ops ts f)

marked : (n : ℕ) (ts rest : List Symbol) (x : Mark) → ts ≡ a_mark x ∷ rest → among (the_mark x) (mark_fronts 0 (level_at levels n)) ≡ false → NoOperator n ts
marked n ts rest x e h = ap (λ u. among (first u) (mark_fronts 0 (level_at levels n))) e ∙ h

-- a mark that is no operator, or one of another level
pub no_operator : (n : ℕ) (ts rest : List Symbol) (x : Mark) → ts ≡ a_mark x ∷ rest → binary_of x ≡ None → NoOperator n ts
no_operator n ts rest x e g = marked n ts rest x e (none_or n x (λ i. clash (level_found n x i) (ap (level_is n) g)))

pub other_level : (n : ℕ) (ts rest : List Symbol) (x : Mark) (y : ℕ × Binary) → ts ≡ a_mark x ∷ rest → Some y ≡ binary_of x → (y.0 ≡ n → ⊥) → NoOperator n ts
other_level n ts rest x y e g h = marked n ts rest x e (none_or n x (λ i. h (eqb-true y.0 n (ap (level_is n) g ∙ level_found n x i))))

-- an operator of the level
pub link_begins : (n : ℕ) (ts rest : List Symbol) (x : Mark) (y : ℕ × Binary) → ts ≡ a_mark x ∷ rest → Some y ≡ binary_of x → y.0 ≡ n → BeginsLink n ts y.1 rest
link_begins n ts rest x y e g h =
    let r : is_right x (Some y) ≡ true = ap (is_right x) g ∙ right_of x in
    let i = and_left (among (the_mark x) (mark_fronts 0 (level_at levels y.0))) (same_class (the_mark (binary_mark y.1)) (the_mark x)) r in
    let j : the_mark (binary_mark y.1) ≡ the_mark x = same_class-true (the_mark (binary_mark y.1)) (the_mark x) (and_right (among (the_mark x) (mark_fronts 0 (level_at levels y.0))) (same_class (the_mark (binary_mark y.1)) (the_mark x)) r) in
    let l : binary_mark y.1 ≡ x = cc in
    record {
      level = ap (λ z. among (the_mark z) (mark_fronts 0 (level_at levels n))) l ∙ ap (λ z. among (the_mark x) (mark_fronts 0 (level_at levels z))) (sym h) ∙ i;
      text = e ∙ ap (λ z. a_mark z ∷ rest) (sym l);
    }

-- an operator before an operand, by its mark
abbrev is_marked : Mark → Option Unary → Bool
is_marked x None = true
is_marked x (Some op) = same_class (the_mark (unary_mark op)) (the_mark x)

unary_right : (x : Mark) → is_marked x (unary_of x) ≡ true
unary_right m.And = refl
unary_right _ = refl

pub unary_begins : (x : Mark) (op : Unary) → Some op ≡ unary_of x → a_mark x ≡ a_mark (unary_mark op)
unary_begins x op e =
    let j : the_mark (unary_mark op) ≡ the_mark x = same_class-true (the_mark (unary_mark op)) (the_mark x) (ap (is_marked x) e ∙ unary_right x) in
    cc

-- whether a mark is no operator before an operand
abbrev no_unary : Option Unary → Bool
no_unary None = true
no_unary (Some op) = false

-- a mark that begins no operand
pub no_operand : (x : Mark) → (x ≡ m.Open → ⊥) → (x ≡ m.OpenBrace → ⊥) → unary_of x ≡ None → among (the_mark x) operand_fronts ≡ false
no_operand m.Open f g h = absurd (f refl)
no_operand m.OpenBrace f g h = absurd (g refl)
no_operand m.Plus f g h = absurd (clash (ap no_unary h) refl)
no_operand m.Minus f g h = absurd (clash (ap no_unary h) refl)
no_operand m.Not f g h = absurd (clash (ap no_unary h) refl)
no_operand m.Tilde f g h = absurd (clash (ap no_unary h) refl)
no_operand m.And f g h = absurd (clash (ap no_unary h) refl)
no_operand m.Nand f g h = absurd (clash (ap no_unary h) refl)
no_operand m.Or f g h = absurd (clash (ap no_unary h) refl)
no_operand m.Nor f g h = absurd (clash (ap no_unary h) refl)
no_operand m.Xor f g h = absurd (clash (ap no_unary h) refl)
no_operand m.Xnor f g h = absurd (clash (ap no_unary h) refl)
no_operand _ f g h = refl
