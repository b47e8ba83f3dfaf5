-- A step of a process keeps what the threads say of the store and the updates.
use Rattle.std.proofs.Common.{Bool, append_assoc, leb, le-leb, arith, ◌≡◌, ℕ, ◌+◌, ◌⊎◌, true, false, ◌&&◌, ◌||◌, Option, Some, None, List, [], ◌∷◌, ◌++◌, cond, slice_get, refl, sym, ◌∙◌, ap, subst, inl, inr, append-nil}
use Rattle.std.specs.List.{list_all}
use Rattle.std.proofs.lemmas.Bool.{ne_eqb, or_cases, cases_Bool, or_left, or_right, and_from}
use Rattle.std.proofs.lemmas.List.Elements.{filter-append}
use Rattle.std.proofs.lemmas.List.Folds.{list_any-append, list_all-append}
use Rattle.vs_design.specs.Parts.{Parts}
use Rattle.vs_design.specs.Stores.{Store, put}
use Rattle.vs_design.specs.Writes.{Write, names}
use Rattle.vs_process.specs.vs_strobe.specs.Lines.{Format}
use Rattle.vs_process.specs.Places.{Place}
use Rattle.vs_process.specs.States.{State, Update, Called, updates_after, calls_after}
use Rattle.vs_process.proofs.Stores.{put_other, put_local}
use Rattle.vs_process.specs.Threads.{store_after, Thread, IsThread, log_after, writes, any_names}
use Rattle.vs_process.proofs.Calls.{of, of_own, of_other}
use Rattle.vs_process.proofs.ThreadLists.{at, at_same, at_each, at_some}
use Rattle.vs_process.proofs.ThreadStores.{names_some, by}
use Rattle.vs_independence.proofs.Running.{Apart, Asks, Finishes, is_waiting, AllThreads, AllPlaced, Sources, Mades, agrees, same_made}

-- what one of the functions has, where it is the changed one
pub at_this : {A : Type 0} (P : A → Type 0) (f : ℕ → A) (i : ℕ) (x : A) → P x → (j : ℕ) × P (at f i x j)
at_this P f i x p = (i, subst P (sym (at_same f i x)) p)

-- a thread behind a step: where it is, its write, its updates and its calls
abbrev pub stepped_thread : Thread → Place → Option Write → List Update → List Called → Bool → Thread
stepped_thread th p o made asked fin = record { place = p; view = store_after th.view o; log = log_after th.log o; made = made; asked = asked; fin = fin }

-- the store behind a step of one process, against the threads behind it
pub sources_step : (d : Parts) (blocks : ℕ → Bool) (b : State) → Apart d blocks b → (store : Store) (th : ℕ → Thread) → AllPlaced d blocks b store th → Sources d blocks b store th → (i : ℕ) (p : Place) (o : Option Write) (made : List Update) (asked : List Called) (fin : Bool) →
    IsThread d blocks b i (stepped_thread (th i) p o made asked fin) → Sources d blocks b (store_after store o) (at th i (stepped_thread (th i) p o made asked fin))
sources_step d blocks b apart store th all so i p None made asked fin is = record {
  own = at_each (λ k t. (v : ℕ) → writes t v ≡ true → slice_get store v ≡ slice_get t.view v) th i (stepped_thread (th i) p None made asked fin) (so.own i) (λ k ne. so.own k);
  fresh = λ v undriven. elim (so.fresh v undriven) [
    | inl same ↦ inl same
    | inr other ↦ inr (at_some (λ t. writes t v ≡ true) th i (stepped_thread (th i) p None made asked fin) (λ h. h) other)
  ];
}
sources_step d blocks b apart store th all so i p (Some w) made asked fin is = record {
  own = at_each (λ k t. (v : ℕ) → writes t v ≡ true → slice_get (put store w) v ≡ slice_get t.view v) th i tn
      (λ v h. put_local store (th i).view w v (agrees d blocks b apart store th all so i v (apart.variables i v tn is h) (λ k other. apart.keeps.only i k v tn (th k) is (all k).is h other)))
      (λ k ne v h. put_other store w v (unnamed k ne v h) ∙ so.own k v h);
  fresh = λ v undriven. elim (cases_Bool (names w v)) [
    | inl hit ↦ inr (at_this (λ t. writes t v ≡ true) th i tn (or_left (names w v) (writes (th i) v) hit))
    | inr miss ↦ fresh_at v miss (so.fresh v undriven)
  ];
}
  where
    tn : Thread
    tn = stepped_thread (th i) p (Some w) made asked fin

    unnamed : (k : ℕ) → (k ≡ i → ⊥) → (v : ℕ) → writes (th k) v ≡ true → names w v ≡ false
    unnamed k ne v h =
        elim (cases_Bool (names w v)) [
          | inl hit ↦ absurd (ne (apart.keeps.only i k v tn (th k) is (all k).is (or_left (names w v) (writes (th i) v) hit) h))
          | inr miss ↦ miss
        ]

    fresh_at : (v : ℕ) → names w v ≡ false → ((slice_get store v ≡ slice_get b.store v) ⊎ ((k : ℕ) × (writes (th k) v ≡ true))) →
        (slice_get (put store w) v ≡ slice_get b.store v) ⊎ ((k : ℕ) × (writes (at th i tn k) v ≡ true))
    fresh_at v miss (inl same) = inl (put_other store w v miss ∙ same)
    fresh_at v miss (inr other) = inr (at_some (λ t. writes t v ≡ true) th i tn (λ h. or_right (names w v) (writes (th i) v) h) other)

-- one more update
abbrev pub one_more : ℕ → ℕ → ℕ × Write → Update
one_more i time u = record { by = i; due = time + u.0; active = false; what = u.1 }

any_more : (us : List Update) (u : Update) (v : ℕ) → any_names (us ++ u ∷ []) v ≡ (any_names us v || (names u.what v || false))
any_more us u v = list_any-append (λ (x : Update). names x.what v) us (u ∷ [])

by_more : (us : List Update) (u : Update) (v : ℕ) → by v (us ++ u ∷ []) ≡ by v us ++ by v (u ∷ [])
by_more us u v = filter-append (λ (x : Update). names x.what v) us (u ∷ [])

by_other : (us : List Update) (u : Update) (v : ℕ) → names u.what v ≡ false → by v (us ++ u ∷ []) ≡ by v us
by_other us u v miss = by_more us u v ∙ ap (λ b. by v us ++ cond b (u ∷ []) []) miss ∙ append-nil (by v us)

-- the updates behind a step of one process, against the threads behind it
pub mades_step : (d : Parts) (blocks : ℕ → Bool) (b : State) → Apart d blocks b → (updates : List Update) (th : ℕ → Thread) → AllThreads d blocks b th → Mades d blocks b updates th → (i : ℕ) (p : Place) (o : Option Write) (u : Option (ℕ × Write)) (asked : List Called) (fin : Bool) →
    ((w : ℕ × Write) → u ≡ Some w → names_some w.1 ≡ true) →
    IsThread d blocks b i (stepped_thread (th i) p o (updates_after i b.time u (th i).made) asked fin) → Mades d blocks b (updates_after i b.time u updates) (at th i (stepped_thread (th i) p o (updates_after i b.time u (th i).made) asked fin))
mades_step d blocks b apart updates th all ma i p o None asked fin some is = record {
  made = at_each (λ k t. (v : ℕ) → any_names t.made v ≡ true → by v updates ≡ by v b.updates ++ by v t.made) th i (stepped_thread (th i) p o (th i).made asked fin) (ma.made i) (λ k ne. ma.made k);
  unmade = λ v. elim (ma.unmade v) [
    | inl nil ↦ inl nil
    | inr other ↦ inr (at_some (λ t. any_names t.made v ≡ true) th i (stepped_thread (th i) p o (th i).made asked fin) (λ h. h) other)
  ];
  waiting = ma.waiting;
  undriven = ma.undriven;
}
mades_step d blocks b apart updates th all ma i p o (Some w) asked fin some is = record {
  made = at_each (λ k t. (v : ℕ) → any_names t.made v ≡ true → by v (updates ++ u ∷ []) ≡ by v b.updates ++ by v t.made) th i tn
      (λ v h. by_more updates u v ∙ ap (λ l. l ++ by v (u ∷ [])) (same_made d blocks b updates th ma i v (λ k other. apart.keeps.only_later i k v tn (th k) is (all k) h other))
      ∙ append_assoc (by v b.updates) (by v (th i).made) (by v (u ∷ [])) ∙ ap (λ l. by v b.updates ++ l) (sym (by_more (th i).made u v)))
      (λ k ne v h. by_other updates u v (unnamed k ne v h) ∙ ma.made k v h);
  unmade = λ v. elim (cases_Bool (names w.1 v)) [
    | inl hit ↦ inr (at_this (λ t. any_names t.made v ≡ true) th i tn (named v hit))
    | inr miss ↦ unmade_at v miss (ma.unmade v)
  ];
  waiting = list_all-append (is_waiting b.time) updates (u ∷ []) ∙ and_from (list_all (is_waiting b.time) updates) (leb b.time (b.time + w.0) && names_some w.1 && true) ma.waiting
      (and_from (leb b.time (b.time + w.0) && names_some w.1) true (and_from (leb b.time (b.time + w.0)) (names_some w.1) (le-leb b.time (b.time + w.0) (omega arith)) (some w refl)) refl);
  undriven = λ v h. elim (or_cases (any_names updates v) (names w.1 v || false) (sym (any_more updates u v) ∙ h)) [
    | inl old ↦ ma.undriven v old
    | inr new ↦ apart.variables_later i v tn is (any_more (th i).made u v ∙ or_right (any_names (th i).made v) (names w.1 v || false) new)
  ];
}
  where
    u : Update
    u = one_more i b.time w

    tn : Thread
    tn = stepped_thread (th i) p o ((th i).made ++ u ∷ []) asked fin

    named : (v : ℕ) → names w.1 v ≡ true → any_names tn.made v ≡ true
    named v hit = any_more (th i).made u v ∙ or_right (any_names (th i).made v) (names w.1 v || false) (or_left (names w.1 v) false hit)

    unnamed : (k : ℕ) → (k ≡ i → ⊥) → (v : ℕ) → any_names (th k).made v ≡ true → names w.1 v ≡ false
    unnamed k ne v h =
        elim (cases_Bool (names w.1 v)) [
          | inl hit ↦ absurd (ne (apart.keeps.only_later i k v tn (th k) is (all k) (named v hit) h))
          | inr miss ↦ miss
        ]

    unmade_at : (v : ℕ) → names w.1 v ≡ false → ((by v updates ≡ by v b.updates) ⊎ ((k : ℕ) × (any_names (th k).made v ≡ true))) →
        (by v (updates ++ u ∷ []) ≡ by v b.updates) ⊎ ((k : ℕ) × (any_names (at th i tn k).made v ≡ true))
    unmade_at v miss (inl nil) = inl (by_other updates u v miss ∙ nil)
    unmade_at v miss (inr other) =
        inr (at_some (λ t. any_names t.made v ≡ true) th i tn (λ h. any_more (th i).made u v ∙ or_left (any_names (th i).made v) (names w.1 v || false) h) other)

-- the calls behind a step of one process, against the threads behind it
pub asks_step : (calls : List Called) (th : ℕ → Thread) → Asks calls th → (i : ℕ) (o : Option Format) (tn : Thread) → tn.asked ≡ calls_after i o (th i).asked → Asks (calls_after i o calls) (at th i tn)
asks_step calls th asks i o tn is =
    at_each (λ k t. of k (calls_after i o calls) ≡ t.asked) th i tn
    (of_own i o calls ∙ ap (calls_after i o) (asks i) ∙ sym is)
    (λ k ne. of_other i k o calls (ne_eqb i k (λ same. ne (sym same))) ∙ asks k)

-- whether it is finishing behind a step of one process, against the threads behind it
pub finishes_step : (b : State) (finishing : Bool) (th : ℕ → Thread) → Finishes b finishing th → (i : ℕ) (p : Place) (o : Option Write) (made : List Update) (asked : List Called) (fin : Bool) →
    Finishes b (finishing || fin) (at th i (stepped_thread (th i) p o made asked ((th i).fin || fin)))
finishes_step b finishing th f i p o made asked fin = record {
  kept = λ h. or_left finishing fin (f.kept h);
  by_thread = at_each (λ k t. t.fin ≡ true → (finishing || fin) ≡ true) th i tn
      (λ h. elim (or_cases (th i).fin fin h) [
        | inl old ↦ or_left finishing fin (f.by_thread i old)
        | inr new ↦ or_right finishing fin new
      ])
      (λ k ne h. or_left finishing fin (f.by_thread k h));
  some = λ h. elim (or_cases finishing fin h) [
    | inl old ↦ elim (f.some old) [
      | inl before ↦ inl before
      | inr other ↦ inr (at_some (λ t. t.fin ≡ true) th i tn (λ g. or_left (th i).fin fin g) other)
    ]
    | inr new ↦ inr (at_this (λ t. t.fin ≡ true) th i tn (or_right (th i).fin fin new))
  ];
}
  where
    tn : Thread
    tn = stepped_thread (th i) p o made asked ((th i).fin || fin)
