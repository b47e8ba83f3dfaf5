-- Which moves wake a block whose control names sources: writes of threads and updates alone.
use Rattle.std.proofs.Common.{◌≡◌, ℕ, ◌||◌, ◌⊎◌, Bool, true, false, Option, Some, None, List, [], ◌∷◌, get_or, slice_get, refl, sym, ◌∙◌, ap, subst, inl, inr, ◌+◌, ◌==◌}
use Rattle.vs_design.specs.Parts.{Parts}
use Rattle.vs_design.specs.Stores.{Store, put, is_changed}
use Rattle.vs_design.specs.declared.range.BitRange.{BitRange}
use Rattle.vs_process.specs.declared.gait.Gait.{Gait}
use Rattle.vs_process.specs.declared.gait.Gait.TheVariants.{Fresh}
use Rattle.vs_process.specs.Places.{Place, going, sleeping, inactive, waiting, ended, Todo}
use Rattle.vs_process.specs.Steps.{Next, on, after, wait}
use Rattle.vs_process.specs.BlockDrivers.{sources, Roles, NamesSources, IsSource, puts_out, home, control}
use Rattle.vs_independence.specs.Discipline.{here}
use Rattle.vs_independence.proofs.BlocksAt.{place_after}
use Rattle.vs_process.proofs.Fares.{Fares, fresh, unfed, fed, woken, inside, home_asleep, is_awake, or_last, or_some}
use Rattle.vs_independence.proofs.BlocksAt.{Blocked, BlocksAt, IsFree, text_at}
use Rattle.std.specs.List.{Contains, list_any}
use Rattle.vs_independence.proofs.FirstQuiet.{FirstWrites}
use Rattle.vs_independence.proofs.History.{History, Seen, alters, change_local, change_named, history_still, put_log}
use Rattle.vs_process.specs.States.{State, place_after_step, wakened}
use Rattle.vs_process.proofs.Texts.{Text, home_stays, home_wakes}
use Rattle.vs_process.specs.Threads.{Thread, log_after, writes}
use Rattle.vs_design.specs.Writes.{Write, names}
use Rattle.std.proofs.lemmas.Map.Keys.{any_passes_from_place as at_any}
use Rattle.vs_design.specs.vs_logic4.proofs.Basics.{element_of as any_at}
use Rattle.vs_process.proofs.ThreadLists.{at_each, at_same, contains_at, place_of, at}
use Rattle.std.proofs.lemmas.Bool.{cases_Bool, cond_both, false≢true, or_cases, or_left, or_right, true≢false}
use Rattle.vs_process.specs.Executions.{is_first}
use Rattle.vs_process.proofs.ThreadsNamed.{named}

pub awake_ran : (d : Parts) (inputs : List BitRange) (k : ℕ) (t : Text d k) (late ran : Bool) (time : ℕ) (store : Store) (place : Place) → Fares d inputs k t late ran time store place → is_awake place ≡ true → ran ≡ true
awake_ran d inputs k t late ran time store place (fresh todo is way same none first) h = absurd (false≢true (sym (ap is_awake is) ∙ h))
awake_ran d inputs k t late ran time store place (unfed is same none) h = absurd (false≢true (sym (ap is_awake is ∙ home_asleep d k t) ∙ h))
awake_ran d inputs k t late ran time store place (fed is follows some) h = some
awake_ran d inputs k t late ran time store place (woken is some) h = some
awake_ran d inputs k t late ran time store place (inside todo from th is run sized at same some) h = some

-- a fresh block that goes on is not awake
fresh_asleep : (todo : Todo) (time : ℕ) (next : Next) → is_awake (place_after_step (going Fresh todo) time next) ≡ false
fresh_asleep todo time (on []) = refl
fresh_asleep todo time (on (i ∷ rest)) = refl
fresh_asleep todo time (after n ticks rest) = cond_both (ticks == 0) (inactive rest) (sleeping (time + ticks) rest) (λ p. is_awake p ≡ false) (λ e. refl) (λ e. refl)
fresh_asleep todo time (wait n terms rest) = refl

pub awake_own : (d : Parts) (inputs : List BitRange) (k : ℕ) (t : Text d k) (late ran : Bool) (time : ℕ) (store : Store) (place : Place) (gait : Gait) (todo : Todo) (next : Next) → place ≡ going gait todo →
    Fares d inputs k t late ran time store place → is_awake (place_after_step (going gait todo) time next) ≡ true → ran ≡ true
awake_own d inputs k t late ran time store place gait todo next at (fresh other is way same none first) h =
    let e : going gait todo ≡ going Fresh other = sym at ∙ is in
    let g : gait ≡ Fresh = cc in
    absurd (false≢true (sym (fresh_asleep todo time next) ∙ ap (λ g. is_awake (place_after_step (going g todo) time next)) (sym g) ∙ h))
awake_own d inputs k t late ran time store place gait todo next at (unfed is same none) h = let e : going gait todo ≡ waiting t.terms _ = sym at ∙ is ∙ t.home_is in cc
awake_own d inputs k t late ran time store place gait todo next at (fed is follows some) h = some
awake_own d inputs k t late ran time store place gait todo next at (woken is some) h = some
awake_own d inputs k t late ran time store place gait todo next at (inside other from th is run sized th_at same some) h = some

-- a block at its control that a write wakes: the write changes what the control names
home_changed : (d : Parts) (k : ℕ) (t : Text d k) (store : Store) (w : Write) (place : Place) → place ≡ home d k → is_awake (wakened store (put store w) place) ≡ true →
    (r : BitRange) × Contains (control d k) r × (is_changed store (put store w) r ≡ true)
home_changed d k t store w place is h =
    elim (cases_Bool (list_any (is_changed store (put store w)) (control d k))) [
      | inl hit ↦ let found = any_at (is_changed store (put store w)) (control d k) hit in (found.1, contains_at (control d k) found.0 found.1 found.2, found.3)
      | inr miss ↦ absurd (false≢true (sym (ap is_awake (ap (wakened store (put store w)) is ∙ home_stays d k t store (put store w) miss) ∙ home_asleep d k t) ∙ h))
    ]

-- it is awake behind a write that changes what its control names, but where it is fresh
pub changed_awake : (d : Parts) (inputs : List BitRange) (k : ℕ) (t : Text d k) (late ran : Bool) (time : ℕ) (store : Store) (place : Place) (w : Write) (r : BitRange) → Contains (control d k) r → is_changed store (put store w) r ≡ true →
    (late ≡ false → ⊥) → Fares d inputs k t late ran time store place → (ran || is_awake (wakened store (put store w) place)) ≡ true
changed_awake d inputs k t late ran time store place w r named changed not_first f = by_fares f
  where
    new : Store
    new = put store w

    hit : list_any (is_changed store new) (control d k) ≡ true
    hit = let at = place_of (control d k) r named in at_any (is_changed store new) (control d k) at.0 r at.1 changed

    at_home : place ≡ home d k → (ran || is_awake (wakened store new place)) ≡ true
    at_home is = or_last ran (is_awake (wakened store new place)) (ap is_awake (ap (wakened store new) is ∙ home_wakes d k t store new hit))

    by_fares : Fares d inputs k t late ran time store place → (ran || is_awake (wakened store new place)) ≡ true
    by_fares (fresh todo is way same none first) = absurd (not_first first)
    by_fares (unfed is same none) = at_home is
    by_fares (fed is follows some) = at_home is
    by_fares (woken is some) = or_some ran (is_awake (wakened store new place)) some
    by_fares (inside todo from th is run sized at same some) = or_some ran (is_awake (wakened store new place)) some

-- awake behind a write, it was awake or fed before, or waited and the write changes what its control names
pub awake_written : (d : Parts) (inputs : List BitRange) (k : ℕ) (t : Text d k) (late ran : Bool) (time : ℕ) (store : Store) (place : Place) (w : Write) →
    Fares d inputs k t late ran time store place → is_awake (wakened store (put store w) place) ≡ true → (ran ≡ true) ⊎ ((r : BitRange) × Contains (control d k) r × (is_changed store (put store w) r ≡ true))
awake_written d inputs k t late ran time store place w (fresh todo is way same none first) h = absurd (false≢true (sym (ap is_awake (ap (wakened store (put store w)) is)) ∙ h))
awake_written d inputs k t late ran time store place w (unfed is same none) h = inr (home_changed d k t store w place is h)
awake_written d inputs k t late ran time store place w (fed is follows some) h = inl some
awake_written d inputs k t late ran time store place w (woken is some) h = inl some
awake_written d inputs k t late ran time store place w (inside todo from th is run sized at same some) h = inl some

-- a write that names neither a source nor what the block writes
pub quiet_written : (d : Parts) (blocks : ℕ → Bool) (inputs : List BitRange) (k : ℕ) (t : Text d k) → NamesSources d blocks k → (late ran : Bool) (time : ℕ) (store : Store) (place : Place) (w : Write) →
    ((v : ℕ) → puts_out d k v ≡ true → names w v ≡ false) → ((v : ℕ) → IsSource d blocks v → names w v ≡ false) → Fares d inputs k t late ran time store place → is_awake (wakened store (put store w) place) ≡ true → ran ≡ true
quiet_written d blocks inputs k t only late ran time store place w free other f h = by_cases (awake_written d inputs k t late ran time store place w f h)
  where
    never : (r : BitRange) → Contains (control d k) r → is_changed store (put store w) r ≡ true → ran ≡ true
    never r named changed =
        elim (cases_Bool (puts_out d k r.signal)) [
          | inl own ↦ absurd (true≢false (sym (change_named store w r changed) ∙ free r.signal own))
          | inr miss ↦ absurd (true≢false (sym (change_named store w r changed) ∙ other r.signal (only r named miss)))
        ]

    by_cases : ((ran ≡ true) ⊎ ((r : BitRange) × Contains (control d k) r × (is_changed store (put store w) r ≡ true))) → ran ≡ true
    by_cases (inl some) = some
    by_cases (inr (r, named, changed)) = never r named changed

-- ---- a step of a thread

pub history_like : (d : Parts) (roles : Roles) (b : State) (th : ℕ → Thread) (ran0 ran new : ℕ → Bool) → ((k : ℕ) → roles.blocks k ≡ true → ran k ≡ new k) → History d roles b th ran0 ran → History d roles b th ran0 new
history_like d roles b th ran0 ran new same h = record {
  kept = λ k is s old. sym (same k is) ∙ h.kept k is s old;
  seen = λ k is s x. sym (same k is) ∙ h.seen k is s x;
  some = λ k is s run. h.some k is s (same k is ∙ run);
}

pub history_written : (d : Parts) (roles : Roles) (z : Blocked d roles) (b : State) (th : ℕ → Thread) (i : ℕ) (tn : Thread) (o : Option Write) (store : Store) (places : List Place) (time : ℕ) (ran0 ran : ℕ → Bool) (late : Bool) →
    BlocksAt d roles z late ran time store places → tn.log ≡ log_after (th i).log o → ((w : Write) → o ≡ Some w → (v : ℕ) → names w v ≡ true → slice_get (th i).view v ≡ slice_get (put_log b.store (th i).log) v) →
    ((w : Write) → o ≡ Some w → (v : ℕ) → names w v ≡ true → slice_get store v ≡ slice_get (th i).view v) → ((w : Write) → o ≡ Some w → IsFree d roles w) →
    ((late ≡ true) ⊎ FirstWrites d roles.blocks (at th i tn)) → History d roles b th ran0 ran →
    History d roles b (at th i tn) ran0 (λ k. ran k || is_awake (place_after store o (get_or places k ended)))
history_written d roles z b th i tn None store places time ran0 ran late at_them moved view agree free first h =
    history_still d roles b th (at th i tn) ran0 ran (λ k. ran k || is_awake (get_or places k ended)) (at_each (λ j t. t.log ≡ (th j).log) th i tn moved (λ j ne. refl))
    (λ k some. or_some (ran k) (is_awake (get_or places k ended)) some)
    (λ k is s run. elim (or_cases (ran k) (is_awake (get_or places k ended)) run) [
      | inl old ↦ old
      | inr awake ↦ awake_ran d (roles.inputs k) k (text_at d roles z k is) late (ran k) time store (get_or places k ended) (at_them.fares k is) awake
    ]) h
history_written d roles z b th i tn (Some w) store places time ran0 ran late at_them moved view agree free first h = record {
  kept = λ k is s old. or_some (ran k) (is_awake (wakened store new (get_or places k ended))) (h.kept k is s old);
  seen = λ k is s x. seen_at k is s x.thread x.range x.named x.other x.alters;
  some = λ k is s run. elim (or_cases (ran k) (is_awake (wakened store new (get_or places k ended))) run) [
    | inl old ↦ before_seen k (h.some k is s old)
    | inr awake ↦ now_seen k is s (awake_written d (roles.inputs k) k (text_at d roles z k is) late (ran k) time store (get_or places k ended) w (at_them.fares k is) awake)
  ];
}
  where
    new : Store
    new = put store w

    Ran : ℕ → Type 0
    Ran k = (ran k || is_awake (wakened store new (get_or places k ended))) ≡ true

    in_view : (r : BitRange) → names w r.signal ≡ true → is_changed store new r ≡ is_changed (put_log b.store (th i).log) (put (put_log b.store (th i).log) w) r
    in_view r named = change_local store (put_log b.store (th i).log) w r (agree w refl r.signal named ∙ view w refl r.signal named)

    tn_writes : (v : ℕ) → names w v ≡ true → writes (at th i tn i) v ≡ true
    tn_writes v named = subst (λ t. writes t v ≡ true) (sym (at_same th i tn)) (ap (λ l. list_any (λ w. names w v) l) moved ∙ or_left (names w v) (list_any (λ w. names w v) (th i).log) named)

    not_first : (k : ℕ) → roles.blocks k ≡ true → (r : BitRange) → Contains (control d k) r → names w r.signal ≡ true → late ≡ false → ⊥
    not_first k is r named hit is_first = elim first [
      | inl later ↦ true≢false (sym later ∙ is_first)
      | inr none ↦ none i k r.signal r is named (tn_writes r.signal hit) (here r refl)
    ]

    own_seen : (k : ℕ) (is : roles.blocks k ≡ true) → roles.start k ≡ sources → (r : BitRange) → Contains (control d k) r → puts_out d k r.signal ≡ false → alters b.store (w ∷ (th i).log) r ≡ true → Ran k
    own_seen k is s r named other hit =
        elim (or_cases (alters b.store (th i).log r) (is_changed (put_log b.store (th i).log) (put (put_log b.store (th i).log) w) r) hit) [
          | inl old ↦ or_some (ran k) (is_awake (wakened store new (get_or places k ended))) (h.seen k is s (record { thread = i; range = r; named = named; other = other; alters = old }))
          | inr now ↦
              let at_w = change_named (put_log b.store (th i).log) w r now in
              changed_awake d (roles.inputs k) k (text_at d roles z k is) late (ran k) time store (get_or places k ended) w r named (in_view r at_w ∙ now) (not_first k is r named at_w) (at_them.fares k is)
        ]

    seen_at : (k : ℕ) (is : roles.blocks k ≡ true) → roles.start k ≡ sources → (j : ℕ) (r : BitRange) → Contains (control d k) r → puts_out d k r.signal ≡ false → alters b.store (at th i tn j).log r ≡ true → Ran k
    seen_at k is s = at_each (λ j t. (r : BitRange) → Contains (control d k) r → puts_out d k r.signal ≡ false → alters b.store t.log r ≡ true → Ran k) th i tn
        (λ r named other hit. own_seen k is s r named other (ap (λ l. alters b.store l r) (sym moved) ∙ hit))
        (λ j ne r named other hit. or_some (ran k) (is_awake (wakened store new (get_or places k ended))) (h.seen k is s (record { thread = j; range = r; named = named; other = other; alters = hit })))

    grows : (r : BitRange) (j : ℕ) → alters b.store (th j).log r ≡ true → alters b.store (at th i tn j).log r ≡ true
    grows r = at_each (λ j t. alters b.store (th j).log r ≡ true → alters b.store t.log r ≡ true) th i tn
        (λ hit. ap (λ l. alters b.store l r) moved ∙ or_left (alters b.store (th i).log r) (is_changed (put_log b.store (th i).log) (put (put_log b.store (th i).log) w) r) hit)
        (λ j ne hit. hit)

    before_seen : (k : ℕ) → ((ran0 k ≡ true) ⊎ Seen d b th k) → (ran0 k ≡ true) ⊎ Seen d b (at th i tn) k
    before_seen k (inl old) = inl old
    before_seen k (inr x) = inr (record { thread = x.thread; range = x.range; named = x.named; other = x.other; alters = grows x.range x.thread x.alters })

    seen_now : (k : ℕ) → roles.blocks k ≡ true → (r : BitRange) → Contains (control d k) r → is_changed store new r ≡ true → ((puts_out d k r.signal ≡ true) ⊎ (puts_out d k r.signal ≡ false)) → (ran0 k ≡ true) ⊎ Seen d b (at th i tn) k
    seen_now k is r con changed (inl own) = absurd (true≢false (sym (change_named store w r changed) ∙ free w refl k r.signal is own))
    seen_now k is r con changed (inr other) = inr (record {
      thread = i;
      range = r;
      named = con;
      other = other;
      alters = subst (λ (t : Thread). alters b.store t.log r ≡ true) (sym (at_same th i tn)) (ap (λ l. alters b.store l r) moved
          ∙ or_right (alters b.store (th i).log r) (is_changed (put_log b.store (th i).log) (put (put_log b.store (th i).log) w) r) (sym (in_view r (change_named store w r changed)) ∙ changed));
    })

    now_seen : (k : ℕ) → roles.blocks k ≡ true → roles.start k ≡ sources → ((ran k ≡ true) ⊎ ((r : BitRange) × Contains (control d k) r × (is_changed store new r ≡ true))) → (ran0 k ≡ true) ⊎ Seen d b (at th i tn) k
    now_seen k is s (inl old) = before_seen k (h.some k is s old)
    now_seen k is s (inr (r, named, changed)) = seen_now k is r named changed (cases_Bool (puts_out d k r.signal))
