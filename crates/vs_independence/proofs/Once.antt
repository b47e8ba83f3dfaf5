-- A root gets one value in a slot.
use Rattle.std.proofs.Common.{◌≡◌, ℕ, zero, suc, ◌+◌, ◌-◌, ◌≤◌, true, Option, Some, None, List, [], slice_get, refl, sym, ◌∙◌, ap, subst, inl, inr, add-zero, add-suc, add-sub_of_le, le_of_lt}
use Rattle.std.specs.List.{list_any}
use Rattle.std.proofs.lemmas.Bool.{cases_Bool, cases_lt}
use Rattle.vs_design.specs.Parts.{Parts}
use Rattle.vs_design.specs.Writes.{Write, names}
use Rattle.vs_process.specs.Nexts.{erased}
use Rattle.vs_process.specs.Places.{Place, going, sleeping, inactive, waiting, ended}
use Rattle.vs_process.specs.Steps.{step}
use Rattle.vs_independence.specs.vs_process.proofs.Stores.{put_other}
use Rattle.vs_rules.specs.vs_process.specs.Threads.{Thread, store_after, log_after, turn_at, turn, iterate, writes}
use Rattle.vs_rules.specs.Claims.{Claims, IsWriter}
use Rattle.vs_rules.specs.Rules.{IsSoundRoot}
use Rattle.vs_independence.proofs.Walks.{HotAt, IsAtPlace, Closed, Walked, walked_iterate}
use Rattle.vs_independence.proofs.Words.{step_now}

pub iterate_more : {A : Type 0} (f : A → A) (x : A) (n j : ℕ) → iterate (n + j) f x ≡ iterate j f (iterate n f x)
iterate_more f x n zero = ap (λ m. iterate m f x) (add-zero n)
iterate_more f x n (suc j) = ap (λ m. iterate m f x) (add-suc n j) ∙ ap f (iterate_more f x n j)

pub iterate_later : {A : Type 0} (f : A → A) (x : A) (n m : ℕ) → n ≤ m → iterate m f x ≡ iterate (m - n) f (iterate n f x)
iterate_later f x n m le = ap (λ k. iterate k f x) (sym (add-sub_of_le le)) ∙ iterate_more f x n (m - n)

-- what is written stays written
log_more : (log : List Write) (o : Option Write) (v : ℕ) → list_any (λ w. names w v) log ≡ true → list_any (λ w. names w v) (log_after log o) ≡ true
log_more log None v h = h
log_more log (Some w) v h = elim (cases_Bool (names w v)) [
  | inl hit ↦ rw hit refl
  | inr miss ↦ rw miss h
]

writes_turn : (time i v : ℕ) (p : Place) (th : Thread) → writes th v ≡ true → writes (turn_at time i p th) v ≡ true
writes_turn time i v (going gait k) th h = log_more th.log (step k th.view time).write v h
writes_turn time i v (inactive k) th h = h
writes_turn time i v (sleeping due k) th h = h
writes_turn time i v (waiting terms k) th h = h
writes_turn time i v ended th h = h

pub writes_iterate : (time i v j : ℕ) (th : Thread) → writes th v ≡ true → writes (iterate j (turn time i) th) v ≡ true
writes_iterate time i v zero th h = h
writes_iterate time i v (suc j) th h = let one = iterate j (turn time i) th in writes_turn time i v one.place one (writes_iterate time i v j th h)

-- a root that is written isn't written again
once_turn : (d : Parts) (c : Claims) (i time root : ℕ) → IsSoundRoot d c root → IsWriter d c root i → (p : Place) (th : Thread) → th.place ≡ p → Walked d c i time th → writes th root ≡ true →
    slice_get (turn_at time i p th).view root ≡ slice_get th.view root
once_turn d c i time root sound writer (going gait k) th e w wrote = by_write (step k th.view time).write refl
  where
    by_write : (o : Option Write) → (step k th.view time).write ≡ o → slice_get (store_after th.view o) root ≡ slice_get th.view root
    by_write None is = refl
    by_write (Some x) is = elim (cases_Bool (names x root)) [
      | inl hit ↦
          absurd (sound.once i (erased k) writer (subst (IsAtPlace d c i time) e w.stands).point (inl (step_now d k th.view time x root is hit)) (subst (HotAt d c i root) e (w.hot root wrote)))
      | inr miss ↦ put_other th.view x root miss
    ]
once_turn d c i time root sound writer (inactive k) th e w wrote = refl
once_turn d c i time root sound writer (sleeping due k) th e w wrote = refl
once_turn d c i time root sound writer (waiting terms k) th e w wrote = refl
once_turn d c i time root sound writer ended th e w wrote = refl

once_iterate : (d : Parts) (c : Claims) (i : ℕ) → Closed d c i → (time root : ℕ) → IsSoundRoot d c root → IsWriter d c root i → (n j : ℕ) (first : Thread) → first.log ≡ [] → first.made ≡ [] → IsAtPlace d c i time first.place →
    writes (iterate n (turn time i) first) root ≡ true → slice_get (iterate j (turn time i) (iterate n (turn time i) first)).view root ≡ slice_get (iterate n (turn time i) first).view root
once_iterate d c i closed time root sound writer n zero first no_log no_made stands wrote = refl
once_iterate d c i closed time root sound writer n (suc j) first no_log no_made stands wrote =
    let f = turn time i in
    let th = iterate j f (iterate n f first) in
    let walked = subst (Walked d c i time) (iterate_more f first n j) (walked_iterate d c i closed time (n + j) first no_log no_made stands) in
    once_turn d c i time root sound writer th.place th refl walked (writes_iterate time i root j (iterate n f first) wrote)
    ∙ once_iterate d c i closed time root sound writer n j first no_log no_made stands wrote

-- two threads of one opening that have written a root have one value of it
pub one_value : (d : Parts) (c : Claims) (i : ℕ) → Closed d c i → (time root : ℕ) → IsSoundRoot d c root → IsWriter d c root i → (n m : ℕ) (first : Thread) → first.log ≡ [] → first.made ≡ [] → IsAtPlace d c i time first.place →
    writes (iterate n (turn time i) first) root ≡ true → writes (iterate m (turn time i) first) root ≡ true →
    slice_get (iterate n (turn time i) first).view root ≡ slice_get (iterate m (turn time i) first).view root
one_value d c i closed time root sound writer n m first no_log no_made stands wn wm =
    let f = turn time i in
    elim (cases_lt n m) [
      | inl lt ↦
          sym (ap (λ (t : Thread). slice_get t.view root) (iterate_later f first n m (le_of_lt lt)) ∙ once_iterate d c i closed time root sound writer n (m - n) first no_log no_made stands wn)
      | inr le ↦ ap (λ (t : Thread). slice_get t.view root) (iterate_later f first m n le) ∙ once_iterate d c i closed time root sound writer m (n - m) first no_log no_made stands wm
    ]
