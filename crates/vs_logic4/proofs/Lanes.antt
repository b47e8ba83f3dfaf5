-- A block of lanes stored over a list.
use Rattle.std.proofs.Common.{◌≡◌, ℕ, zero, suc, ◌+◌, ◌-◌, ◌<◌, ◌≤◌, Bool, true, false, not, cond, eqb, List, [], ◌∷◌, map, replicate, length, get_or, refl, sym, ap, ap₂, ◌∙◌, ⊎_elim, arith}
use Rattle.std.specs.Simd.Lanes.{Each1, zip2, chunk, put_chunk, sel_l, top}
use Rattle.std.proofs.lemmas.Bool.{cases_lt}
use Rattle.std.proofs.lemmas.Simd.{length-zip2, length-chunk, get_or-zip2, get_or-chunk, get_or-put_chunk_below, get_or-put_chunk_at}
use Rattle.vs_logic4.specs.Changes.{change}

-- what holds of each word before a block holds of each before its end
pub block_stored : (out old new lanes : List ℕ) (at : ℕ) → length new ≡ length old → length out ≡ length old → at + 8 ≤ length old → lanes ≡ zip2 change (chunk at 8 old) (chunk at 8 new) → ((k : ℕ) → k < at → get_or out k 0 ≡ change (get_or old k 0) (get_or new k 0)) → (k : ℕ) → k < at + 8 → get_or (put_chunk at out lanes) k 0 ≡ change (get_or old k 0) (get_or new k 0)
block_stored out old new lanes at l m room e before k h =
    let left : length (chunk at 8 old) ≡ 8 = length-chunk at 8 old room in
    let right : length (chunk at 8 new) ≡ 8 = length-chunk at 8 new (omega arith) in
    let long : length lanes ≡ 8 = ap length e ∙ length-zip2 change (chunk at 8 old) (chunk at 8 new) (left ∙ sym right) ∙ left in
    ⊎_elim
    (λ (p : k < at). get_or-put_chunk_below at out lanes k 0 p ∙ before k p)
    (λ (p : at ≤ k).
    let j = k - at in
    let place : at + j ≡ k = omega arith in
    let few : j < 8 = omega arith in
    ap (λ i. get_or (put_chunk at out lanes) i 0) (sym place)
    ∙ get_or-put_chunk_at at out lanes j 0 (omega arith) (omega arith)
    ∙ rw e (get_or-zip2 change (chunk at 8 old) (chunk at 8 new) j 0 0 0 (omega arith) (omega arith)
    ∙ rw (get_or-chunk at 8 old j 0 few, get_or-chunk at 8 new j 0 few, place) refl))
    (cases_lt k at)

-- ---- a lane is 1 where two words differ, else 0
one_or_none : (cast : ℕ → ℕ) (same : Bool) → cast 1 ≡ 1 → cast 0 ≡ 0 → cast (cond (not same) 1 0) ≡ cond same 0 1
one_or_none cast true one none = none
one_or_none cast false one none = one

-- the lanes that are chosen by the top bits of a comparison, and then cast
pub changed_lanes : (cast : ℕ → ℕ) (differ : ℕ → ℕ → ℕ) → cast 1 ≡ 1 → cast 0 ≡ 0 → ((a b : ℕ) → top 63 (differ a b) ≡ not (eqb a b)) → (n : ℕ) (xs ys : List ℕ) → length xs ≡ n → length ys ≡ n
    → map cast (sel_l (map (top 63) (zip2 differ xs ys)) (replicate n 1) (replicate n 0)) ≡ zip2 change xs ys
changed_lanes cast differ one none tells n [] ys left right = refl
changed_lanes cast differ one none tells n (x ∷ xs) [] left right = refl
changed_lanes cast differ one none tells zero (x ∷ xs) (y ∷ ys) left right = absurd (omega arith)
changed_lanes cast differ one none tells (suc n) (x ∷ xs) (y ∷ ys) left right =
    ap₂ (λ z zs. z ∷ zs) (ap (λ m. cast (cond m 1 0)) (tells x y) ∙ one_or_none cast (eqb x y) one none) (changed_lanes cast differ one none tells n xs ys (omega arith) (omega arith))

-- the top bit of a lane that is all ones or all zeros
pub top_of_lane : (set : Bool) → top 63 (cond set 18446744073709551615 0) ≡ set
top_of_lane true = refl
top_of_lane false = refl

-- what is so of 1 and 0 is so of each lane that is chosen among these
pub Each1-chosen : (P : ℕ → Type 0) → P 1 → P 0 → (n : ℕ) (tests : List Bool) → Each1 P (sel_l tests (replicate n 1) (replicate n 0))
Each1-chosen P one none n [] = tt
Each1-chosen P one none zero (test ∷ tests) = tt
Each1-chosen P one none (suc n) (true ∷ tests) = (one, Each1-chosen P one none n tests)
Each1-chosen P one none (suc n) (false ∷ tests) = (none, Each1-chosen P one none n tests)
