-- Lemmas on the values of expressions, for the code that makes them.
use Rattle.std.proofs.Common.{◌≡◌, ℕ, ◌+◌, ◌-◌, ◌<◌, ◌≤◌, List, [], ◌∷◌, length, get_or, drop, map, sym, ◌∙◌, ap, arith}
use Rattle.std.proofs.lemmas.List.{drop_more}
use Rattle.vs_design.specs.vs_logic4.specs.declared.digit.Digit.{Digit}
use Rattle.vs_design.specs.vs_logic4.specs.Comparisons.{truth}
use Rattle.vs_design.specs.declared.expression.Typed.{Typed, Typed-F}
use Rattle.vs_design.specs.declared.expression.Typed.TheViews.{roll-Typed}
use Rattle.vs_design.specs.declared.expression.Typed.TheFolds.{fold-roll-Typed, map-Typed}
use Rattle.vs_design.specs.Stores.{Store}
use Rattle.vs_design.proofs.LoopLemmas.{went_on as one_on, went_through as to_the_end}
use Rattle.vs_eval.specs.Values.{picked, chosen, value_step, value_of}

-- the value of an expression is what its outermost layer gives
pub value_layer : (e : Typed) (store : Store) (time : ℕ) (layer : Typed-F Typed) → roll-Typed layer ≡ e →
    value_of e store time ≡ value_step store time (map-Typed Typed (List Digit) (λ x. value_of x store time) layer)
value_layer e store time layer is = ap (λ x. value_of x store time) (sym is) ∙ fold-roll-Typed (List Digit) (value_step store time) layer

-- a loop that takes one step for each image of an element: one element on
pub went_on : {A B S : Type 0} (whole : S → List B → S) (step : S → B → S) (f : A → B) → ((s : S) (y : B) (ys : List B) → whole s (y ∷ ys) ≡ whole (step s y) ys) →
    (xs : List A) (i : ℕ) (x : A) (now next all : S) →
    i < length xs → x ≡ get_or xs i x → next ≡ step now (f x) → whole now (map f (drop i xs)) ≡ all → whole next (map f (drop (i + 1) xs)) ≡ all
went_on whole step f law xs i x now next all =
    one_on (λ ys s. whole s (map f ys)) (λ y s. step s (f y)) (λ y ys s. law s (f y) (map f ys)) xs i x x now next all

-- the same loop at its end
pub went_through : {A B S : Type 0} (whole : S → List B → S) (f : A → B) → ((s : S) → whole s [] ≡ s) → (xs : List A) (i : ℕ) (now all : S) →
    length xs ≤ i → whole now (map f (drop i xs)) ≡ all → now ≡ all
went_through whole f law xs i now all = to_the_end (λ ys s. whole s (map f ys)) law xs i now all

-- a choice with one pair more before the others
pub chosen_before : {A : Type 0} (f : A → List Digit × List Digit) (xs : List A) (i : ℕ) (x : A) (last now next : List Digit) → 0 < i → i ≤ length xs → x ≡ get_or xs (i - 1) x →
    next ≡ picked (truth (f x).0) (f x).1 now → now ≡ chosen (map f (drop i xs)) last → next ≡ chosen (map f (drop (i - 1) xs)) last
chosen_before f xs i x last now next some most is made so_far =
    let same : i ≡ (i - 1) + 1 = omega arith in
    made ∙ ap (picked (truth (f x).0) (f x).1) (so_far ∙ ap (λ n. chosen (map f (drop n xs)) last) same)
    ∙ ap (λ y. chosen (map f (y ∷ drop ((i - 1) + 1) xs)) last) is ∙ ap (λ ys. chosen (map f ys) last) (sym (drop_more xs (i - 1) x (omega arith)))
