-- Lemmas on the places of a code.
use Rattle.std.proofs.Common.{◌≡◌, ℕ, zero, suc, ◌≤◌, Option, Some, None, List, ◌∷◌, refl, ◌∙◌, ap, arith}
use Rattle.std.specs.Prelude.{slice_get}
use Rattle.vs_process.specs.Places.{Todo}
use Rattle.vs_process.specs.Links.{Link, item_of, todo_within, todo_from, todo_at, AreLinked}

-- two ways to go on that agree below a place
from_alike : (r t : ℕ → Todo) (cs : List ℕ) (i : ℕ) (l : Option Link) → ((k : Link) → l ≡ Some k → k.behind ≤ i) → ((p : ℕ) → p ≤ i → r p ≡ t p) → todo_from cs r l ≡ todo_from cs t l
from_alike r t cs i None h e = refl
from_alike r t cs i (Some l) h e = ap (λ (k : Todo). item_of cs l.job ∷ k) (e l.behind (h l refl))

-- more than enough things change nothing
same_within : (f g : ℕ) (links : List Link) (cs : List ℕ) (p : ℕ) → AreLinked links → p ≤ f → p ≤ g → todo_within f links cs p ≡ todo_within g links cs p
same_within zero zero links cs p h a b = refl
same_within zero (suc g) links cs zero h a b = refl
same_within zero (suc g) links cs (suc i) h a b = absurd (omega arith)
same_within (suc f) zero links cs zero h a b = refl
same_within (suc f) zero links cs (suc i) h a b = absurd (omega arith)
same_within (suc f) (suc g) links cs zero h a b = refl
same_within (suc f) (suc g) links cs (suc i) h a b =
    from_alike (λ p. todo_within f links cs p) (λ p. todo_within g links cs p) cs i (slice_get links i) (h i)
    (λ q c. same_within f g links cs q h (omega arith) (omega arith))

-- at a place its thing is to be done, and then what is behind it
pub todo_here : (links : List Link) (cs : List ℕ) (i : ℕ) (l : Link) → AreLinked links → slice_get links i ≡ Some l → todo_at links cs (suc i) ≡ item_of cs l.job ∷ todo_at links cs l.behind
todo_here links cs i l h e =
    let d : l.behind ≤ i = h i l e in
    ap (todo_from cs (λ p. todo_within i links cs p)) e
    ∙ ap (λ (t : Todo). item_of cs l.job ∷ t) (same_within i l.behind links cs l.behind h (omega arith) (omega arith))
