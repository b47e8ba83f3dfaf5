-- Lemmas on what the program reads of its input.
use Rattle.std.proofs.Common.{arith, cond, ◌≡◌, ◌∙◌, ◌||◌, ◌==◌, ◌+◌, ap, refl, sym, ℕ, Bool, true, false, List, [], ◌∷◌, ◌++◌, length, min, take, take_all, ◌<◌, ◌≤◌}
use Rattle.std.proofs.lemmas.List.{length-take, length_push, take-append-le}
use Rattle.std.specs.Prelude.{Option, Some, None, option_map, IfSome}
use Rattle.vs_program.specs.Inputs.{IsFront, IsKept, after_line, first_line, has_line_feed}

-- what was read of an input that ends after so many bytes
pub front_of : (most : ℕ) (known : Option (List ℕ)) (items : List ℕ) → IfSome (option_map (take most) known) (λ xs. items ≡ [] ++ xs) → IsFront most known items
front_of most None items h = tt
front_of most (Some bytes) items h = h

-- what is kept of an input is its front
pub kept_of : (known : Option (List ℕ)) (items : List ℕ) → IsFront 8388609 known items → IsKept known items
kept_of None items h = tt
kept_of (Some bytes) items h = h

-- ---- a text of which at most so many bytes are kept

-- a byte more is kept where there is room
pub kept_more : (most : ℕ) (all text : List ℕ) (b : ℕ) → text ≡ take most all → length text < most → text ++ b ∷ [] ≡ take most (all ++ b ∷ [])
kept_more most all text b is room =
    let taken : length text ≡ min most (length all) = ap length is ∙ length-take most all in
    let whole : take most all ≡ all = take_all most all (omega arith) in
    let longer : length (all ++ b ∷ []) ≡ length all + 1 = length_push all b in
    ap (λ (l : List ℕ). l ++ b ∷ []) (is ∙ whole) ∙ sym (take_all most (all ++ b ∷ []) (omega arith))

-- and none where there is no room
pub kept_full : (most : ℕ) (all text : List ℕ) (b : ℕ) → text ≡ take most all → most ≤ length text → text ≡ take most (all ++ b ∷ [])
kept_full most all text b is full =
    let taken : length text ≡ min most (length all) = ap length is ∙ length-take most all in
    is ∙ sym (take-append-le most all (b ∷ []) (omega arith))

-- ---- a byte more of an input

-- after a line feed a byte goes to what follows the first line
pub fed_after : (xs : List ℕ) (b : ℕ) → has_line_feed xs ≡ true
    → (first_line (xs ++ b ∷ []) ≡ first_line xs) × (after_line (xs ++ b ∷ []) ≡ after_line xs ++ b ∷ []) × (has_line_feed (xs ++ b ∷ []) ≡ true)
fed_after [] b e = absurd cc
fed_after (x ∷ xs) b e = go (x == 10) e (fed_after xs b)
  where
    go : (is : Bool) → (is || has_line_feed xs) ≡ true
        → (has_line_feed xs ≡ true → (first_line (xs ++ b ∷ []) ≡ first_line xs) × (after_line (xs ++ b ∷ []) ≡ after_line xs ++ b ∷ []) × (has_line_feed (xs ++ b ∷ []) ≡ true))
        → (cond is [] (x ∷ first_line (xs ++ b ∷ [])) ≡ cond is [] (x ∷ first_line xs))
        × (cond is (xs ++ b ∷ []) (after_line (xs ++ b ∷ [])) ≡ cond is xs (after_line xs) ++ b ∷ []) × ((is || has_line_feed (xs ++ b ∷ [])) ≡ true)
    go true e more = (refl, refl, refl)
    go false e more =
        let rest = more e in
        (ap (λ (l : List ℕ). x ∷ l) rest.0, rest.1, rest.2)

-- before it, the byte ends the first line where it is a line feed, and else goes to it
pub fed_first : (xs : List ℕ) (b : ℕ) → has_line_feed xs ≡ false → (b == 10) ≡ false
    → (first_line (xs ++ b ∷ []) ≡ first_line xs ++ b ∷ []) × (after_line (xs ++ b ∷ []) ≡ after_line xs) × (has_line_feed (xs ++ b ∷ []) ≡ false)
fed_first [] b e other = rw other (refl, refl, refl)
fed_first (x ∷ xs) b e other = go (x == 10) e (λ h. fed_first xs b h other)
  where
    go : (is : Bool) → (is || has_line_feed xs) ≡ false
        → (has_line_feed xs ≡ false → (first_line (xs ++ b ∷ []) ≡ first_line xs ++ b ∷ []) × (after_line (xs ++ b ∷ []) ≡ after_line xs) × (has_line_feed (xs ++ b ∷ []) ≡ false))
        → (cond is [] (x ∷ first_line (xs ++ b ∷ [])) ≡ cond is [] (x ∷ first_line xs) ++ b ∷ [])
        × (cond is (xs ++ b ∷ []) (after_line (xs ++ b ∷ [])) ≡ cond is xs (after_line xs)) × ((is || has_line_feed (xs ++ b ∷ [])) ≡ false)
    go true e more = absurd cc
    go false e more =
        let rest = more e in
        (ap (λ (l : List ℕ). x ∷ l) rest.0, rest.1, rest.2)

pub fed_end : (xs : List ℕ) (b : ℕ) → has_line_feed xs ≡ false → (b == 10) ≡ true
    → (first_line (xs ++ b ∷ []) ≡ first_line xs) × (after_line (xs ++ b ∷ []) ≡ after_line xs) × (has_line_feed (xs ++ b ∷ []) ≡ true)
fed_end [] b e is = rw is (refl, refl, refl)
fed_end (x ∷ xs) b e is = go (x == 10) e (λ h. fed_end xs b h is)
  where
    go : (at : Bool) → (at || has_line_feed xs) ≡ false
        → (has_line_feed xs ≡ false → (first_line (xs ++ b ∷ []) ≡ first_line xs) × (after_line (xs ++ b ∷ []) ≡ after_line xs) × (has_line_feed (xs ++ b ∷ []) ≡ true))
        → (cond at [] (x ∷ first_line (xs ++ b ∷ [])) ≡ cond at [] (x ∷ first_line xs))
        × (cond at (xs ++ b ∷ []) (after_line (xs ++ b ∷ [])) ≡ cond at xs (after_line xs)) × ((at || has_line_feed (xs ++ b ∷ [])) ≡ true)
    go true e more = absurd cc
    go false e more =
        let rest = more e in
        (ap (λ (l : List ℕ). x ∷ l) rest.0, rest.1, rest.2)
