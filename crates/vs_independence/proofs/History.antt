-- Whether a block whose control names sources has been woken is fixed by the threads and by the updates.
use Rattle.std.proofs.Common.{◌≡◌, ℕ, zero, suc, ◌&&◌, ◌||◌, ◌⊎◌, Bool, true, false, cond, Option, Some, None, List, [], ◌∷◌, map, take, slice_get, refl, sym, ◌∙◌, ap, ap₂, subst, inl, inr, not}
use Rattle.vs_design.specs.Parts.{Parts}
use Rattle.vs_design.specs.Stores.{Store, put, is_changed, chosen_bits, chosen_words, content, words_in, same_words}
use Rattle.vs_design.specs.declared.range.BitRange.{BitRange}
use Rattle.vs_process.specs.Places.{Place, going, sleeping, inactive, waiting, ended}
use Rattle.vs_process.specs.Steps.{step}
use Rattle.vs_process.specs.BlockDrivers.{sources, Roles, puts_out, control}
use Rattle.std.specs.List.{Contains, list_any}
use Rattle.vs_process.specs.Threads.{IsThread, IsFiredBy, Fired, Thread, iterate, log_after, opening, store_after, turn_at, turn}
use Rattle.vs_process.specs.States.{State, Update, without}
use Rattle.vs_design.specs.Writes.{Write, shares, names}
use Rattle.std.proofs.lemmas.Bool.{cases_Bool, or_parts, true_from_ne_false, true≢false}
use Rattle.vs_process.proofs.Values.{not_changed}
use Rattle.vs_process.proofs.Stores.{put_local, put_other}
use Rattle.vs_process.proofs.ThreadStores.{put_swap, by}
use Rattle.vs_independence.proofs.Making.{unshared}
use Rattle.vs_independence.proofs.Running.{other_opened}

-- ---- changes along writes

-- a store behind writes, the newest first
abbrev pub put_log : Store → List Write → Store
put_log base [] = base
put_log base (w ∷ log) = put (put_log base log) w

-- whether one of them changes a range
abbrev pub alters : Store → List Write → BitRange → Bool
alters base [] r = false
alters base (w ∷ log) r = alters base log r || is_changed (put_log base log) (put (put_log base log) w) r

view_behind : (base view : Store) (log : List Write) (o : Option Write) → view ≡ put_log base log → store_after view o ≡ put_log base (log_after log o)
view_behind base view log None h = h
view_behind base view log (Some w) h = ap (λ s. put s w) h

view_turn : (base : Store) (time i : ℕ) (p : Place) (th : Thread) → th.view ≡ put_log base th.log → (turn_at time i p th).view ≡ put_log base (turn_at time i p th).log
view_turn base time i (going gait todo) th h = view_behind base th.view th.log (step todo th.view time).write h
view_turn base time i (inactive todo) th h = h
view_turn base time i (sleeping due todo) th h = h
view_turn base time i (waiting terms todo) th h = h
view_turn base time i ended th h = h

view_iterate : (time i n : ℕ) (o : Thread) → o.log ≡ [] → (iterate n (turn time i) o).view ≡ put_log o.view (iterate n (turn time i) o).log
view_iterate time i zero o none = ap (put_log o.view) (sym none)
view_iterate time i (suc n) o none = let th = iterate n (turn time i) o in view_turn o.view time i th.place th (view_iterate time i n o none)

opening_log : (blocks : ℕ → Bool) (b : State) (i : ℕ) (o : Option Fired) → (opening blocks b i o).log ≡ []
opening_log blocks b i None = refl
opening_log blocks b i (Some f) = refl

put_log_local : (a c : Store) (log : List Write) (v : ℕ) → slice_get a v ≡ slice_get c v → slice_get (put_log a log) v ≡ slice_get (put_log c log) v
put_log_local a c [] v h = h
put_log_local a c (w ∷ log) v h = put_local (put_log a log) (put_log c log) w v (put_log_local a c log v h)

-- a thread's store is that of its writes, but for the signal that fired it
pub view_log : (d : Parts) (blocks : ℕ → Bool) (b : State) (i : ℕ) (th : Thread) (is : IsThread d blocks b i th) → (v : ℕ) → (IsFiredBy d blocks b i th is v → ⊥) → slice_get th.view v ≡ slice_get (put_log b.store th.log) v
view_log d blocks b i th is v other =
    ap (λ (s : Store). slice_get s v) (subst (λ (t : Thread). t.view ≡ put_log (opening blocks b i is.input).view t.log) is.is (view_iterate b.time i is.count (opening blocks b i is.input) (opening_log blocks b i is.input)))
    ∙ put_log_local (opening blocks b i is.input).view b.store th.log v (other_opened d blocks b i th is v other)

-- a change of a range by a write depends on its signal alone
pub change_local : (a c : Store) (w : Write) (r : BitRange) → slice_get a r.signal ≡ slice_get c r.signal → is_changed a (put a w) r ≡ is_changed c (put c w) r
change_local a c w r h =
    ap (λ o. not (same_words (map (chosen_bits r.bits) (chosen_words r.word (words_in o))) (content r (put a w)))) h
    ∙ ap (λ o. not (same_words (content r c) (map (chosen_bits r.bits) (chosen_words r.word (words_in o))))) (put_local a c w r.signal h)

pub change_named : (a : Store) (w : Write) (r : BitRange) → is_changed a (put a w) r ≡ true → names w r.signal ≡ true
change_named a w r changed = true_from_ne_false (names w r.signal) (λ miss. true≢false (sym changed ∙ not_changed a (put a w) r (put_other a w r.signal miss)))

-- ---- changes along updates

abbrev pub altered : Store → List Update → BitRange → Bool
altered store [] r = false
altered store (u ∷ us) r = (u.active && is_changed store (put store u.what) r) || altered (cond u.active (put store u.what) store) us r

pub altered_local : (a c : Store) (us : List Update) (r : BitRange) → slice_get a r.signal ≡ slice_get c r.signal → altered a us r ≡ altered c us r
altered_local a c [] r h = refl
altered_local a c (u ∷ us) r h =
    ap₂ (λ x y. (u.active && x) || y) (change_local a c u.what r h) (altered_local (cond u.active (put a u.what) a) (cond u.active (put c u.what) c) us r (at_head u.active))
  where
    at_head : (t : Bool) → slice_get (cond t (put a u.what) a) r.signal ≡ slice_get (cond t (put c u.what) c) r.signal
    at_head true = put_local a c u.what r.signal h
    at_head false = h

unnamed_same : (store : Store) (w : Write) (r : BitRange) → names w r.signal ≡ false → is_changed store (put store w) r ≡ false
unnamed_same store w r miss = not_changed store (put store w) r (put_other store w r.signal miss)

and_none : (b : Bool) (c : Bool) → c ≡ false → (b && c) ≡ false
and_none true c h = h
and_none false c h = refl

pub altered_by : (store : Store) (us : List Update) (r : BitRange) → altered store us r ≡ altered store (by r.signal us) r
altered_by store [] r = refl
altered_by store (u ∷ us) r =
    elim (cases_Bool (names u.what r.signal)) [
      | inl hit ↦ ap (λ x. (u.active && is_changed store (put store u.what) r) || x) (altered_by (cond u.active (put store u.what) store) us r)
          ∙ ap (λ b. altered store (cond b (u ∷ by r.signal us) (by r.signal us)) r) (sym hit)
      | inr miss ↦ ap (λ x. x || altered (cond u.active (put store u.what) store) us r) (and_none u.active (is_changed store (put store u.what) r) (unnamed_same store u.what r miss))
          ∙ altered_by (cond u.active (put store u.what) store) us r
          ∙ altered_local (cond u.active (put store u.what) store) store (by r.signal us) r (at_head miss u.active)
          ∙ ap (λ b. altered store (cond b (u ∷ by r.signal us) (by r.signal us)) r) (sym miss)
    ]
  where
    at_head : names u.what r.signal ≡ false → (t : Bool) → slice_get (cond t (put store u.what) store) r.signal ≡ slice_get store r.signal
    at_head miss true = put_other store u.what r.signal miss
    at_head miss false = refl

pub altered_none : (store : Store) (us : List Update) (r : BitRange) → list_any (λ (u : Update). u.active) us ≡ false → altered store us r ≡ false
altered_none store [] r h = refl
altered_none store (u ∷ us) r h =
    let parts = or_parts u.active (list_any (λ (u : Update). u.active) us) h in
    ap (λ b. (b && is_changed store (put store u.what) r) || altered (cond b (put store u.what) store) us r) parts.0 ∙ altered_none store us r parts.1

or_swap : (a b c : Bool) → a ≡ false → (a || (b || c)) ≡ (b || (a || c))
or_swap a b c h = ap (λ x. x || (b || c)) h ∙ sym (ap (λ x. b || (x || c)) h)

or_swap_other : (a b c : Bool) → b ≡ false → (a || (b || c)) ≡ (b || (a || c))
or_swap_other a b c h = ap (λ x. a || (x || c)) h ∙ sym (ap (λ x. x || (a || c)) h)

-- an activated update that shares no signal with an older one may come first
pub altered_first : (store : Store) (us : List Update) (i : ℕ) (u : Update) (r : BitRange) → slice_get us i ≡ Some u → u.active ≡ true →
    list_any (λ (older : Update). older.active && shares older.what u.what) (take i us) ≡ false →
    altered store us r ≡ (is_changed store (put store u.what) r || altered (put store u.what) (without i us) r)
altered_first store [] i u r is on first = cc
altered_first store (x ∷ us) zero u r is on first =
    let e : x ≡ u = cc in
    ap (λ (y : Update). (y.active && is_changed store (put store y.what) r) || altered (cond y.active (put store y.what) store) us r) e
    ∙ ap (λ t. (t && is_changed store (put store u.what) r) || altered (cond t (put store u.what) store) us r) on
altered_first store (x ∷ us) (suc i) u r is on first =
    let parts = or_parts (x.active && shares x.what u.what) (list_any (λ (older : Update). older.active && shares older.what u.what) (take i us)) first in
    by_active (λ a. altered_first a us i u r is on parts.1) parts.0 (cases_Bool x.active)
  where
    rest : List Update
    rest = without i us

    by_names : shares x.what u.what ≡ false → ((names x.what r.signal ≡ true) ⊎ (names x.what r.signal ≡ false)) →
        (is_changed store (put store x.what) r || (is_changed (put store x.what) (put (put store x.what) u.what) r || altered (put (put store x.what) u.what) rest r))
        ≡ (is_changed store (put store u.what) r || (is_changed (put store u.what) (put (put store u.what) x.what) r || altered (put (put store u.what) x.what) rest r))
    by_names free (inl hit) =
        let miss : names u.what r.signal ≡ false = unshared x.what u.what r.signal free hit in
        ap₂ (λ p q. p || (is_changed (put store x.what) (put (put store x.what) u.what) r || q))
        (change_local store (put store u.what) x.what r (sym (put_other store u.what r.signal miss)))
        (altered_local (put (put store x.what) u.what) (put (put store u.what) x.what) rest r (put_swap store x.what u.what r.signal (unshared x.what u.what r.signal free)))
        ∙ ap (λ q. is_changed (put store u.what) (put (put store u.what) x.what) r || (q || altered (put (put store u.what) x.what) rest r)) (unnamed_same (put store x.what) u.what r miss)
        ∙ sym (ap (λ q. q || (is_changed (put store u.what) (put (put store u.what) x.what) r || altered (put (put store u.what) x.what) rest r)) (unnamed_same store u.what r miss))
    by_names free (inr miss) =
        ap₂ (λ p q. p || (is_changed (put store x.what) (put (put store x.what) u.what) r || q)) (unnamed_same store x.what r miss)
        (altered_local (put (put store x.what) u.what) (put (put store u.what) x.what) rest r (put_swap store x.what u.what r.signal (unshared x.what u.what r.signal free)))
        ∙ ap (λ q. q || altered (put (put store u.what) x.what) rest r) (change_local (put store x.what) store u.what r (put_other store x.what r.signal miss))
        ∙ sym (ap (λ q. is_changed store (put store u.what) r || (q || altered (put (put store u.what) x.what) rest r)) (unnamed_same (put store u.what) x.what r miss))

    by_active : ((a : Store) → altered a us r ≡ (is_changed a (put a u.what) r || altered (put a u.what) rest r)) → (x.active && shares x.what u.what) ≡ false → ((x.active ≡ true) ⊎ (x.active ≡ false)) →
        ((x.active && is_changed store (put store x.what) r) || altered (cond x.active (put store x.what) store) us r)
        ≡ (is_changed store (put store u.what) r || ((x.active && is_changed (put store u.what) (put (put store u.what) x.what) r) || altered (cond x.active (put (put store u.what) x.what) (put store u.what)) rest r))
    by_active below apart (inl e) =
        let free : shares x.what u.what ≡ false = sym (ap (λ b. b && shares x.what u.what) e) ∙ apart in
        ap (λ t. (t && is_changed store (put store x.what) r) || altered (cond t (put store x.what) store) us r) e
        ∙ ap (λ q. is_changed store (put store x.what) r || q) (below (put store x.what))
        ∙ by_names free (cases_Bool (names x.what r.signal))
        ∙ sym (ap (λ t. is_changed store (put store u.what) r || ((t && is_changed (put store u.what) (put (put store u.what) x.what) r) || altered (cond t (put (put store u.what) x.what) (put store u.what)) rest r)) e)
    by_active below apart (inr e) =
        ap (λ t. (t && is_changed store (put store x.what) r) || altered (cond t (put store x.what) store) us r) e
        ∙ below store
        ∙ sym (ap (λ t. is_changed store (put store u.what) r || ((t && is_changed (put store u.what) (put (put store u.what) x.what) r) || altered (cond t (put (put store u.what) x.what) (put store u.what)) rest r)) e)

-- ---- before the updates are activated

-- a write of a thread has changed what the control of a block names
pub record Seen (d : Parts) (b : State) (th : ℕ → Thread) (k : ℕ) : Type 0 where
  pub thread : ℕ
  pub range : BitRange
  pub named : Contains (control d k) range
  pub other : puts_out d k range.signal ≡ false
  pub alters : alters b.store (th thread).log range ≡ true

-- the blocks that start by sources: one was woken in this slot where a thread has changed what its control names, and else not
pub record History (d : Parts) (roles : Roles) (b : State) (th : ℕ → Thread) (ran0 ran : ℕ → Bool) : Type 0 where
  pub kept : (k : ℕ) → roles.blocks k ≡ true → roles.start k ≡ sources → ran0 k ≡ true → ran k ≡ true
  pub seen : (k : ℕ) → roles.blocks k ≡ true → roles.start k ≡ sources → Seen d b th k → ran k ≡ true
  pub some : (k : ℕ) → roles.blocks k ≡ true → roles.start k ≡ sources → ran k ≡ true → (ran0 k ≡ true) ⊎ Seen d b th k

-- a move by which no such block is woken
pub history_still : (d : Parts) (roles : Roles) (b : State) (th more : ℕ → Thread) (ran0 ran new : ℕ → Bool) → ((i : ℕ) → (more i).log ≡ (th i).log) →
    ((k : ℕ) → ran k ≡ true → new k ≡ true) → ((k : ℕ) → roles.blocks k ≡ true → roles.start k ≡ sources → new k ≡ true → ran k ≡ true) → History d roles b th ran0 ran → History d roles b more ran0 new
history_still d roles b th more ran0 ran new same up down h = record {
  kept = λ k is s old. up k (h.kept k is s old);
  seen = λ k is s x. up k (h.seen k is s (record { thread = x.thread; range = x.range; named = x.named; other = x.other; alters = ap (λ l. alters b.store l x.range) (sym (same x.thread)) ∙ x.alters }));
  some = λ k is s run. elim (h.some k is s (down k is s run)) [
    | inl old ↦ inl old
    | inr x ↦ inr (record { thread = x.thread; range = x.range; named = x.named; other = x.other; alters = ap (λ l. alters b.store l x.range) (same x.thread) ∙ x.alters })
  ];
}
