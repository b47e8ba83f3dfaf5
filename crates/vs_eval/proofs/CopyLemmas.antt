-- Lemmas on copies of expressions.
use Rattle.std.proofs.Common.{◌≡◌, ℕ, ◌+◌, ◌<◌, ◌≤◌, List, [], ◌∷◌, ◌++◌, map, length, get_or, take, sym, ◌∙◌, ap, ap₂}
use Rattle.std.specs.Prelude.{Result, Ok, Err, IfOk}
use Rattle.std.proofs.lemmas.List.{map-append, take_all, take_more}
use Rattle.vs_design.specs.vs_logic4.specs.declared.digit.Digit.{Digit}
use Rattle.vs_design.specs.declared.expression.Typed.{Typed, Typed-F}
use Rattle.vs_design.specs.declared.expression.Typed.TheViews.{roll-Typed}
use Rattle.vs_design.specs.declared.expression.Typed.TheFolds.{map-Typed}
use Rattle.vs_design.specs.declared.signal.Signal.{Signal}
use Rattle.vs_design.specs.Stores.{Store}
use Rattle.vs_eval.specs.Values.{value_of, value_step}
use Rattle.vs_eval.proofs.ValueLemmas.{value_layer}
use Rattle.vs_eval.specs.declared.node.Node.{Node}
use Rattle.vs_eval.specs.declared.node.Size.{Size}
use Rattle.vs_eval.specs.Copies.{HasValueOf}
use Rattle.vs_eval.specs.Meant.{AreSized, IsMeant}

-- an expression has another one's value where their outermost layers give the same
pub copied_layer : (copy e : Typed) (a b : Typed-F Typed) → roll-Typed a ≡ copy → roll-Typed b ≡ e →
    ((store : Store) (time : ℕ) → value_step store time (map-Typed Typed (List Digit) (λ x. value_of x store time) a) ≡ value_step store time (map-Typed Typed (List Digit) (λ x. value_of x store time) b)) →
    HasValueOf copy e
copied_layer copy e a b a_is b_is same = λ store time. value_layer copy store time a a_is ∙ same store time ∙ sym (value_layer e store time b b_is)

-- the value of an expression's copy, where the expression is another one
pub copied_as : (copy e x : Typed) → e ≡ x → HasValueOf copy e → HasValueOf copy x
copied_as copy e x is same = λ store time. same store time ∙ ap (λ (y : Typed). value_of y store time) is

-- pairs of equal halves
pub paired : {A B : Type 0} (a x : A) (b y : B) → a ≡ x → b ≡ y → ◌≡◌ {A = A × B} (a, b) (x, y)
paired a x b y p q = λ i. (p i, q i)

-- a loop that copies elements, of which an image is to be the same: one element on
pub copied_on : {A B : Type 0} (f : A → B) (xs : List A) (i : ℕ) (x y : A) (all more : List A) → i < length xs → x ≡ get_or xs i x → more ≡ all ++ y ∷ [] → f y ≡ f x →
    map f all ≡ map f (take i xs) → map f more ≡ map f (take (i + 1) xs)
copied_on f xs i x y all more below is pushed same so_far =
    ap (map f) pushed
    ∙ map-append f all (y ∷ [])
    ∙ ap₂ (λ bs b. bs ++ b ∷ []) so_far (same ∙ ap f is)
    ∙ sym (ap (map f) (take_more xs i x below) ∙ map-append f (take i xs) (get_or xs i x ∷ []))

-- the same loop at its end
pub copied_through : {A B : Type 0} (f : A → B) (xs : List A) (i : ℕ) (all : List A) → length xs ≤ i → map f all ≡ map f (take i xs) → map f all ≡ map f xs
copied_through f xs i all end so_far = so_far ∙ ap (map f) (take_all i xs end)

-- a copy of an expression means it, where a law of the expression says its size
pub kept_whole : {E : Type 0} (e : Typed) (width : ℕ) (signals : List Signal) (Law : Type 0) (r : Result (Node × Size) E) → (Law → AreSized signals (λ store time. value_of e store time) width) →
    IfOk r (λ a. (ss : List Signal) → AreSized ss (λ store time. value_of e store time) width → IsMeant ss e a.0 a.1.width) → IfOk r (λ a. Law → IsMeant signals e a.0 a.1.width)
kept_whole e width signals Law (Ok a) long made = λ law. made signals (long law)
kept_whole e width signals Law (Err f) long made = made
