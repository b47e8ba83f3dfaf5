-- Rows of texts that are put one behind another.
use Rattle.std.proofs.Common.{◌≡◌, ℕ, ◌+◌, ◌==◌, Bool, true, false, List, [], ◌∷◌, ◌++◌, refl, sym, ◌∙◌, ap, arith}
use Rattle.std.specs.Prelude.{if◌then◌else◌}
use Rattle.std.specs.Str.{bytes_eq}
use Rattle.vs_sign_off.specs.Rows.{rows, rows_from, times}

-- the rows of a text behind one that ends with a line feed
pub rows_cut : (row begun x b : List ℕ) → times row (rows_from begun ((x ++ 10 ∷ []) ++ b)) ≡ times row (rows_from begun (x ++ 10 ∷ [])) + times row (rows b)
rows_cut row begun [] b = let hit : ℕ = if bytes_eq begun row then 1 else 0 in put hit (times row (rows b))
  where
    put : (hit n : ℕ) → hit + n ≡ (hit + 0) + n
    put hit n = omega arith
rows_cut row begun (c ∷ x) b = by (c == 10) (rows_cut row [] x b) (rows_cut row (begun ++ c ∷ []) x b)
  where
    whole : List ℕ
    whole = (x ++ 10 ∷ []) ++ b

    left : List ℕ
    left = x ++ 10 ∷ []

    by : (t : Bool) → times row (rows_from [] whole) ≡ times row (rows_from [] left) + times row (rows b) →
        times row (rows_from (begun ++ c ∷ []) whole) ≡ times row (rows_from (begun ++ c ∷ []) left) + times row (rows b) →
        times row (if t then begun ∷ rows_from [] whole else rows_from (begun ++ c ∷ []) whole)
        ≡ times row (if t then begun ∷ rows_from [] left else rows_from (begun ++ c ∷ []) left) + times row (rows b)
    by true anew on = omega (arith, anew)
    by false anew on = on
