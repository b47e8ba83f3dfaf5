-- Processes of which one is changed, and how many of them are active.
use Rattle.std.proofs.Common.{◌≡◌, ℕ, zero, suc, ◌+◌, ◌<◌, ◌≤◌, ◌^◌, Bool, true, false, Some, None, List, [], ◌∷◌, length, slice_get, slice_set, sym, refl, ◌∙◌, ap, arith}
use Rattle.std.proofs.lemmas.Bool.{false≢true}
use Rattle.std.proofs.lemmas.Option.{none-some}
use Rattle.vs_design.specs.Stores.{changed_at}
use Rattle.vs_run_active.specs.declared.process.Process.{Process}
use Rattle.vs_run_active.specs.ProcessPlaces.{is_active}
use Rattle.vs_run_active.specs.ListCounts.{count}
use Rattle.vs_run_active.proofs.ChangedLemmas.{changed_there}
use Rattle.vs_run_active.proofs.ListCountLemmas.{count-le-length, set_itself}

pub going_fits : (xs : List Process) (n : ℕ) → n ≡ count is_active xs → length xs < 2 ^ 63 → n + 1 < 2 ^ 64
going_fits xs n is short = omega (arith, is, count-le-length is_active xs)

-- none is there
pub changed_none : {A : Type 0} (f : A → A) (xs : List A) (i : ℕ) → slice_get xs i ≡ None → xs ≡ changed_at f i xs
changed_none f [] i h = refl
changed_none f (y ∷ ys) zero h = absurd (none-some y (sym h))
changed_none {A} f (y ∷ ys) (suc i) h = ap (λ (l : List A). y ∷ l) (changed_none f ys i h)

-- one that stays as it is
pub changed_stays : {A : Type 0} (f : A → A) (xs : List A) (i : ℕ) (x : A) → slice_get xs i ≡ Some x → x ≡ f x → xs ≡ changed_at f i xs
changed_stays f xs i x here is = sym (set_itself xs i x here) ∙ changed_there f xs i x x here is

-- nothing is put past the end
set_past : {A : Type 0} (xs : List A) (i : ℕ) (y : A) → length xs ≤ i → xs ≡ slice_set xs i y
set_past [] zero y h = refl
set_past [] (suc i) y h = refl
set_past (x ∷ xs) zero y h = absurd (omega arith)
set_past {A} (x ∷ xs) (suc i) y h = ap (λ (l : List A). x ∷ l) (set_past xs i y (omega arith))

pub put_missing : {A : Type 0} (xs ys : List A) (n i : ℕ) (y : A) (found : Bool) → xs ≡ ys → n ≡ length xs → (i < n → found ≡ true) → found ≡ false → xs ≡ slice_set ys i y
put_missing {A} xs ys n i y found same size all none =
    let outside : i < n → ⊥ = λ h. false≢true (sym none ∙ all h) in
    set_past xs i y (omega (arith, size, outside)) ∙ ap (λ (l : List A). slice_set l i y) same
