-- What is noted in the table of writers.
use Rattle.std.proofs.Common.{◌≡◌, ℕ, ◌<◌, ◌⊎◌, ◌↔◌, inl, inr, List, [], ◌∷◌, length, get_or, refl, sym, ◌∙◌, ap, subst}
use Rattle.std.specs.List.{Contains}
use Rattle.vs_design.specs.declared.range.BitRange.{BitRange}
use Rattle.vs_maps.specs.vs_graph.proofs.RowLemmas.{length_one, one_has, head_in, tail_in, in_either as split}
use Rattle.vs_design.specs.vs_logic4.proofs.Basics.{none_in}
use Rattle.vs_drivers.specs.declared.writers.Written.{Written}
use Rattle.vs_drivers.specs.Walks.{noted, all_noted}

pub length-all_noted : (n : ℕ) (rs : List BitRange) (t : List (List Written)) → length (all_noted n rs t) ≡ length t
length-all_noted n [] t = refl
length-all_noted n (r ∷ rs) t =
    length-all_noted n rs (noted (record { driver = n; range = r }) t) ∙ length_one r.signal (record { driver = n; range = r }) t

written : ℕ → BitRange → Written
written n r = record { driver = n; range = r }

-- a range more, where what the rest adds is known
one_more : (n : ℕ) (r : BitRange) (rs : List BitRange) (t : List (List Written)) (v : ℕ) (e : Written) (now : Type 0) →
    (now ↔ (Contains (get_or (noted (record { driver = n; range = r }) t) v []) e
    ⊎ ((v < length (noted (record { driver = n; range = r }) t)) × (e.range.signal ≡ v) × (e.driver ≡ n) × Contains rs e.range))) →
    (now ↔ (Contains (get_or t v []) e ⊎ ((v < length t) × (e.range.signal ≡ v) × (e.driver ≡ n) × Contains (r ∷ rs) e.range)))
unfolding written
one_more n r rs t v e now rest = (there, back) where
  w : Written
  w = record { driver = n; range = r }

  long : length (noted w t) ≡ length t
  long = length_one r.signal w t

  here : Contains (get_or (noted w t) v []) e ↔ (Contains (get_or t v []) e ⊎ ((v < length t) × (v ≡ r.signal) × (w ≡ e)))
  here = one_has r.signal w t v e

  there : now → Contains (get_or t v []) e ⊎ ((v < length t) × (e.range.signal ≡ v) × (e.driver ≡ n) × Contains (r ∷ rs) e.range)
  there h = elim (rest.0 h) [
    | inl o ↦ elim (here.0 o) [
      | inl l ↦ inl l
      | inr y ↦ inr (
        y.0,
        ap (λ (k : Written). k.range.signal) (sym y.2) ∙ sym y.1,
        ap (λ (k : Written). k.driver) (sym y.2),
        subst (λ (k : BitRange). Contains (r ∷ rs) k) (ap (λ (k : Written). k.range) y.2) (head_in r rs),
      )
    ]
    | inr y ↦ inr (subst (λ (k : ℕ). v < k) long y.0, y.1, y.2, tail_in r e.range rs y.3)
  ]

  same : (e.driver ≡ n) → (r ≡ e.range) → w ≡ e
  same a b = ap (λ (k : ℕ). written k r) (sym a) ∙ ap (λ (k : BitRange). written e.driver k) b

  one : (v < length t) × (e.range.signal ≡ v) × (e.driver ≡ n) × Contains (r ∷ rs) e.range → (r ≡ e.range) ⊎ Contains rs e.range → now
  one y (inl s) = rest.1 (inl (here.1 (inr (y.0, sym y.1 ∙ ap (λ (k : BitRange). k.signal) (sym s), same y.2 s))))
  one y (inr l) = rest.1 (inr (subst (λ (k : ℕ). v < k) (sym long) y.0, y.1, y.2, l))

  back : Contains (get_or t v []) e ⊎ ((v < length t) × (e.range.signal ≡ v) × (e.driver ≡ n) × Contains (r ∷ rs) e.range) → now
  back (inl l) = rest.1 (inl (here.1 (inl l)))
  back (inr y) = one y (split r e.range rs y.3)

-- what a table has once all ranges are noted that a driver writes
pub all_noted_has : (n : ℕ) (rs : List BitRange) (t : List (List Written)) (v : ℕ) (e : Written) →
    (Contains (get_or (all_noted n rs t) v []) e ↔
    (Contains (get_or t v []) e ⊎ ((v < length t) × (e.range.signal ≡ v) × (e.driver ≡ n) × Contains rs e.range)))
all_noted_has n [] t v e = (inl, λ h. elim h [ inl l ↦ l | inr y ↦ absurd (none_in e.range y.3) ])
all_noted_has n (r ∷ rs) t v e =
    one_more n r rs t v e (Contains (get_or (all_noted n (r ∷ rs) t) v []) e) (all_noted_has n rs (noted (record { driver = n; range = r }) t) v e)
