-- Lemmas on where the items of a `case` start.
use Rattle.std.proofs.Common.{Global, add-one, ◌≡◌, ℕ, zero, suc, ◌<◌, ◌+◌, Bool, false, Option, List, [], ◌∷◌, length, drop, get_or, refl, sym, ◌∙◌, ap}
use Rattle.std.specs.Prelude.{Vec, slice_get, if◌then◌else◌}
use Rattle.std.proofs.lemmas.List.{drop_more}
use Rattle.vs_design.specs.declared.expression.Typed.{Typed}
use Rattle.vs_design.specs.declared.statement.Statement.{Statement}
use Rattle.vs_process.specs.Landings.{start_where}

drop_one : (xs : List ℕ) (i : ℕ) → drop 1 (drop i xs) ≡ drop (suc i) xs
drop_one [] zero = refl
drop_one [] (suc i) = refl
drop_one (x ∷ xs) zero = refl
drop_one (x ∷ xs) (suc i) = drop_one xs i

first_left : (xs : List ℕ) (i : ℕ) → slice_get (drop i xs) 0 ≡ slice_get xs i
first_left [] zero = refl
first_left [] (suc i) = refl
first_left (x ∷ xs) zero = refl
first_left (x ∷ xs) (suc i) = first_left xs i

-- of the items from one on: that one, else those behind it
pub start_next : (test : Vec Typed Global × Statement → Bool) (items : List (Vec Typed Global × Statement)) (starts : List ℕ) (i : ℕ) (x : Vec Typed Global × Statement) → i < length items →
    x ≡ get_or items i x → start_where test (drop i items) (drop i starts) ≡ (if test x then slice_get starts i else start_where test (drop (i + 1) items) (drop (i + 1) starts))
start_next test items starts i x within is =
    ap (λ (l : List (Vec Typed Global × Statement)). start_where test l (drop i starts)) (drop_more items i x within ∙ ap (λ (y : Vec Typed Global × Statement). y ∷ drop (i + 1) items) (sym is))
    ∙ ap (λ (o : Option ℕ). if test x then o else start_where test (drop (i + 1) items) (drop 1 (drop i starts))) (first_left starts i)
    ∙ ap (λ (l : List ℕ). if test x then slice_get starts i else start_where test (drop (i + 1) items) l) (drop_one starts i ∙ rw add-one refl)

-- behind an item that fails
pub start_more : (test : Vec Typed Global × Statement → Bool) (items : List (Vec Typed Global × Statement)) (starts : List ℕ) (i : ℕ) (x : Vec Typed Global × Statement) → i < length items →
    x ≡ get_or items i x → test x ≡ false → start_where test (drop (i + 1) items) (drop (i + 1) starts) ≡ start_where test (drop i items) (drop i starts)
start_more test items starts i x within is fails =
    sym
    (start_next test items starts i x within is
    ∙ ap (λ (b : Bool). if b then slice_get starts i else start_where test (drop (i + 1) items) (drop (i + 1) starts)) fails)
