-- Lemmas on processes of which some go on.
use Rattle.std.proofs.Common.{◌≡◌, ℕ, zero, suc, inl, inr, ⊎_elim, Bool, true, false, Option, Some, List, [], ◌∷◌, length, slice_get, if◌then◌else◌, refl, sym, ◌∙◌, ap}
use Rattle.std.proofs.lemmas.Bool.{false≢true}
use Rattle.std.proofs.lemmas.Option.{same_Some}
use Rattle.vs_design.specs.Stores.{changed_at}
use Rattle.vs_run_active.specs.declared.process.Process.{Process}
use Rattle.vs_run_active.specs.declared.process.Wait.{Wait}
use Rattle.vs_run_active.specs.declared.process.Wait.TheVariants.{Nothing, Until, Inactive, Terms}
use Rattle.vs_run_active.specs.ProcessPlaces.{GoneOn, HasGone, gone_on, triggered_at, waits_at, waits_some}

pub gone_none : (xs : List Process) → GoneOn xs xs
gone_none xs = record { len = refl; each = λ i p at. inl at }

-- one that has gone on waits no more
again : (p : Process) (o : Option Process) → HasGone p o → (q : Process) → o ≡ Some q → (r : Option Process) → HasGone q r → HasGone p r
again p o (inl at) q is r (inl there) = inl (there ∙ sym is ∙ at)
again p o (inl at) q is r (inr there) =
    let same : q ≡ p = same_Some q p (sym is ∙ at) in
    inr (ap (λ (x : Process). waits_some x.wait) (sym same) ∙ there.0, there.1 ∙ ap (λ (x : Process). Some (gone_on x)) same)
again p o (inr at) q is r (inl there) = inr (at.0, there ∙ sym is ∙ at.1)
again p o (inr at) q is r (inr there) =
    let same : q ≡ gone_on p = same_Some q (gone_on p) (sym is ∙ at.1) in
    absurd (false≢true (sym (ap (λ (x : Process). waits_some x.wait) same) ∙ there.0))

there_is : (p : Process) (o : Option Process) → HasGone p o → (q : Process) × (o ≡ Some q)
there_is p o (inl at) = (p, at)
there_is p o (inr at) = (gone_on p, at.1)

pub gone_more : (xs ys zs : List Process) → GoneOn xs ys → GoneOn ys zs → GoneOn xs zs
gone_more xs ys zs first next = record {
  len = next.len ∙ first.len;
  each = λ i p at.
      let h : HasGone p (slice_get ys i) = first.each i p at in
      let q = there_is p (slice_get ys i) h in
      again p (slice_get ys i) h q.0 q.1 (slice_get zs i) (next.each i q.0 q.1);
}

-- ---- one that goes on where it waits at a control

waits_there : (n : ℕ) (w : Wait) → waits_at n w ≡ true → waits_some w ≡ true
waits_there n (Nothing gait) h = absurd (false≢true h)
waits_there n (Until due) h = absurd (false≢true h)
waits_there n Inactive h = absurd (false≢true h)
waits_there n (Terms m terms) h = refl

pub triggered_by_test : (p : Process) (b : Bool) → (b ≡ true → waits_some p.wait ≡ true) → HasGone p (Some (if b then gone_on p else p))
triggered_by_test p true h = inr (h refl, refl)
triggered_by_test p false h = inl refl

gone_here : (n : ℕ) (p : Process) → HasGone p (Some (triggered_at n p))
gone_here n p = triggered_by_test p (waits_at n p.wait) (waits_there n p.wait)

gone_there : (n i : ℕ) (xs : List Process) (k : ℕ) (p : Process) → slice_get xs k ≡ Some p → HasGone p (slice_get (changed_at (triggered_at n) i xs) k)
gone_there n i [] k p at = inl at
gone_there n zero (x ∷ xs) zero p at = ⊎_elim
    (λ h. inl (h ∙ at))
    (λ h. let same : x ≡ p = same_Some x p at in
    inr (ap (λ (y : Process). waits_some y.wait) (sym same) ∙ h.0, h.1 ∙ ap (λ (y : Process). Some (gone_on y)) same))
    (gone_here n x)
gone_there n zero (x ∷ xs) (suc k) p at = inl at
gone_there n (suc i) (x ∷ xs) zero p at = inl at
gone_there n (suc i) (x ∷ xs) (suc k) p at = gone_there n i xs k p at

gone_len : (n i : ℕ) (xs : List Process) → length (changed_at (triggered_at n) i xs) ≡ length xs
gone_len n i [] = refl
gone_len n zero (x ∷ xs) = refl
gone_len n (suc i) (x ∷ xs) = ap suc (gone_len n i xs)

pub gone_at : (n i : ℕ) (xs : List Process) → GoneOn xs (changed_at (triggered_at n) i xs)
gone_at n i xs = record { len = gone_len n i xs; each = gone_there n i xs }
