-- The least time at which something is due.
use Rattle.std.proofs.Common.{◌≡◌, ◌≢◌, ℕ, ◌<◌, ◌≤◌, ◌&&◌, ◌||◌, ◌⊎◌, ◌==◌, not, min, Bool, true, false, cond, Option, Some, None, List, [], ◌∷◌, filter, refl, sym, ◌∙◌, ap, subst, inl, inr, arith}
use Rattle.std.specs.Prelude.{nat_eq}
use Rattle.std.specs.Option.{ForSome}
use Rattle.std.specs.List.{list_any}
use Rattle.std.proofs.lemmas.Bool.{eq-eqb, ne_eqb, cases_eq}
use Rattle.vs_time_wheel.specs.declared.timing.Timed.{Timed}
use Rattle.vs_time_wheel.specs.Bag.{events_at, least_time, IsFrom}
use Rattle.vs_time_wheel.proofs.Bags.{IsLeast, IsBare, IsSoonest, least_time-is_least, least_time-from, none_before}
use Rattle.vs_process.specs.Executions.{next_update}
use Rattle.vs_process.specs.States.{Update, is_due}
use Rattle.vs_run_regions.specs.declared.item.Due.{Due}
use Rattle.vs_run_regions.specs.Items.{wakes, lates, sleepers_of}
use Rattle.vs_run_regions.specs.Active.{is_active}
use Rattle.vs_run_regions.specs.Regions.{AreKept}
use Rattle.vs_run_regions.proofs.ItemsLemmas.{sleepers_at, no_items}
use Rattle.vs_run_regions.proofs.FilterLemmas.{none_any}
use Rattle.std.proofs.lemmas.Bool.{or_left as here, or_right as there}

-- no update is due before a time
abbrev pub AreFrom : ℕ → List Update → Type 0
AreFrom time [] = Unit {0}
AreFrom time (u ∷ us) = (time ≤ u.due) × AreFrom time us

-- ---- the next time bounds each
pub bounded : (time : ℕ) (best : Option ℕ) (us : List Update) → ForSome (next_update best us) (λ n. time ≤ n) → ForSome best (λ n. time ≤ n) × AreFrom time us
bounded time best [] h = (h, tt)
bounded time None (u ∷ us) h = let r = bounded time (Some u.due) us h in (λ n e. absurd cc, (r.0 u.due refl, r.1))
bounded time (Some c) (u ∷ us) h =
    let r = bounded time (Some (min c u.due)) us h in
    let low : time ≤ min c u.due = r.0 (min c u.due) refl in
    (λ n e. let same : c ≡ n = cc in omega arith, (omega arith, r.1))

and_right : (d x : Bool) → (d && x) ≡ false → d ≡ true → x ≡ false
and_right true x e f = e
and_right false x e f = cc

off_due : (t : ℕ) (u : Update) → u.due ≢ t → is_due t u ≡ false
off_due t u e = away (not u.active) (nat_eq u.due t) (ne_eqb u.due t e)
  where
    away : (d x : Bool) → x ≡ false → (d && x) ≡ false
    away true x e = e
    away false x e = refl

pub none_due_before : (time t : ℕ) (us : List Update) → AreFrom time us → t < time → filter (is_due t) us ≡ []
none_due_before time t [] h before = refl
none_due_before time t (u ∷ us) h before =
    ap (λ b. cond b (u ∷ filter (is_due t) us) (filter (is_due t) us)) (off_due t u (λ e. let low : time ≤ u.due = h.0 in omega arith)) ∙ none_due_before time t us h.1 before

-- ---- it is one of them
-- an update is due at a time
abbrev pub IsDueAt : ℕ → List Update → Type 0
IsDueAt t us = list_any (λ (u : Update). u.due == t) us ≡ true

pub reached : (best : Option ℕ) (us : List Update) (t : ℕ) → next_update best us ≡ Some t → (best ≡ Some t) ⊎ IsDueAt t us
reached best [] t e = inl e
reached None (u ∷ us) t e = elim (reached (Some u.due) us t e) [
  | inl f ↦ inr (here (nat_eq u.due t) (list_any (λ (u : Update). u.due == t) us) (eq-eqb u.due t (let same : u.due ≡ t = cc in same)))
  | inr f ↦ inr (there (nat_eq u.due t) (list_any (λ (u : Update). u.due == t) us) f)
]
reached (Some c) (u ∷ us) t e = elim (reached (Some (min c u.due)) us t e) [
  | inl f ↦
      let same : min c u.due ≡ t = cc in
      elim (cases_eq u.due t) [
        | inl now ↦ inr (here (nat_eq u.due t) (list_any (λ (u : Update). u.due == t) us) (eq-eqb u.due t now))
        | inr other ↦ inl (ap Some (let r : c ≡ t = omega arith in r))
      ]
  | inr f ↦ inr (there (nat_eq u.due t) (list_any (λ (u : Update). u.due == t) us) f)
]

pub nothing : (best : Option ℕ) (us : List Update) → next_update best us ≡ None → (best ≡ None) × (us ≡ [])
nothing best [] e = (e, refl)
nothing None (u ∷ us) e = let r = nothing (Some u.due) us e in absurd (let no : Some u.due ≡ None = r.0 in cc)
nothing (Some c) (u ∷ us) e = let r = nothing (Some (min c u.due)) us e in absurd (let no : Some (min c u.due) ≡ None = r.0 in cc)

-- ---- updates that wait, none of them activated
some_due : (a c d : Bool) (u : Update) (xs : List Update) → cond (not a && c) (u ∷ xs) xs ≡ [] → (a || d) ≡ false → (c ≡ false) × (d ≡ false) × (xs ≡ [])
some_due true c d u xs e n = absurd cc
some_due false true d u xs e n = absurd cc
some_due false false d u xs e n = (refl, n, e)

pub due_found : (t : ℕ) (us : List Update) → list_any is_active us ≡ false → filter (is_due t) us ≡ [] → list_any (λ (u : Update). u.due == t) us ≡ false
due_found t [] n e = refl
due_found t (u ∷ us) n e =
    let r = some_due u.active (nat_eq u.due t) (list_any is_active us) u (filter (is_due t) us) e n in
    ap (λ b. b || list_any (λ (u : Update). u.due == t) us) r.0 ∙ due_found t us r.1 r.2

module _ (us active due : List Update) (bag : List (Timed Due)) (time : ℕ) (kept : AreKept us active due bag time) (idle : list_any is_active us ≡ false) (done : list_any (is_due time) us ≡ false) where
  late : (t : ℕ) → lates (events_at t bag) ≡ filter (is_due t) us
  late t = elim (cases_eq time t) [
    | inl here ↦ subst (λ n. lates (events_at n bag) ≡ filter (is_due n) us) here (kept.none_now ∙ sym (none_any (is_due time) us done))
    | inr other ↦ sym (kept.late_ones t other)
  ]

  free : (t : ℕ) → events_at t (sleepers_of bag) ≡ [] → filter (is_due t) us ≡ [] → events_at t bag ≡ []
  free t a b = no_items (events_at t bag) (sym (sleepers_at t bag) ∙ a) (late t ∙ b)

  is_bare : next_update (least_time (sleepers_of bag)) us ≡ None → IsBare bag
  is_bare e =
      let r = nothing (least_time (sleepers_of bag)) us e in
      let none : IsBare (sleepers_of bag) = subst (λ o. IsLeast o (sleepers_of bag)) r.0 (least_time-is_least (sleepers_of bag)) in
      record { nothing_at = λ t. free t (none.nothing_at t) (ap (filter (is_due t)) r.1) }

  is_soonest : (t : ℕ) → next_update (least_time (sleepers_of bag)) us ≡ Some t → IsSoonest t bag
  is_soonest t e =
      let r = bounded t (least_time (sleepers_of bag)) us (λ n f. let same : t ≡ n = cc in omega arith) in
      record {
        something = λ none. elim (reached (least_time (sleepers_of bag)) us t e) [
          | inl first ↦
              let soonest : IsSoonest t (sleepers_of bag) = subst (λ o. IsLeast o (sleepers_of bag)) first (least_time-is_least (sleepers_of bag)) in
              soonest.something (sleepers_at t bag ∙ ap wakes none)
          | inr found ↦
              let missing : list_any (λ (u : Update). u.due == t) us ≡ false = due_found t us idle (sym (late t) ∙ ap lates none) in
              cc
        ];
        nothing_before = λ v before. free v (none_before (sleepers_of bag) t r.0 v before) (none_due_before t v us r.1 before);
      }

  is_least : (o : Option ℕ) → next_update (least_time (sleepers_of bag)) us ≡ o → IsLeast o bag
  is_least None e = is_bare e
  is_least (Some t) e = is_soonest t e

  -- the least time of the queue is that of what waits
  pub least_waits : least_time bag ≡ next_update (least_time (sleepers_of bag)) us
  least_waits = least_time-from (next_update (least_time (sleepers_of bag)) us) bag (is_least (next_update (least_time (sleepers_of bag)) us) refl)

  -- nothing is due before the next time
  pub none_passed : (to : ℕ) → ForSome (next_update (least_time (sleepers_of bag)) us) (λ next. to ≤ next) → IsFrom to bag
  none_passed to h =
      let r = bounded to (least_time (sleepers_of bag)) us h in
      record { none_before = λ t before. free t (none_before (sleepers_of bag) to r.0 t before) (none_due_before to t us r.1 before) }
