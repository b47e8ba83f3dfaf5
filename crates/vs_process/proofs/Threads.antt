-- Facts of threads, with no execution in sight.
use Rattle.std.proofs.Common.{◌≡◌, ℕ, zero, suc, ◌+◌, ◌-◌, ◌≤◌, Bool, true, false, Option, Some, None, List, slice_get, zero-le, refl, sym, ◌∙◌, ap, subst, inl, inr, add-zero, add-suc, add-sub_of_le, le_of_lt}
use Rattle.std.specs.List.{list_any}
use Rattle.std.proofs.lemmas.Bool.{or_parts, or_right, cases_lt, true≢false, false≢true}
use Rattle.vs_design.specs.Parts.{Parts}
use Rattle.vs_design.specs.Stores.{Store}
use Rattle.vs_design.specs.Writes.{Write, names}
use Rattle.vs_process.specs.Places.{Place, going, sleeping, inactive, waiting, ended, is_going, is_inactive}
use Rattle.vs_process.specs.Steps.{step}
use Rattle.vs_process.specs.States.{State, roused}
use Rattle.vs_process.proofs.Stores.{put_other}
use Rattle.vs_process.specs.Threads.{store_after, Thread, log_after, turn_at, turn, iterate, Fired, opening, found, is_timed, IsTimed, MayOpen, IsThread, writes}

abbrev pub is_stopped : Place → Bool
is_stopped (going gait todo) = false
is_stopped (inactive todo) = false
is_stopped (sleeping due todo) = true
is_stopped (waiting terms todo) = true
is_stopped ended = true

pub stopped_from : (p : Place) → is_going p ≡ false → is_inactive p ≡ false → is_stopped p ≡ true
stopped_from (going gait todo) g i = cc
stopped_from (inactive todo) g i = cc
stopped_from (sleeping due todo) g i = refl
stopped_from (waiting terms todo) g i = refl
stopped_from ended g i = refl

pub not_going : (p : Place) → is_stopped p ≡ true → is_going p ≡ true → ⊥
not_going (going gait todo) h g = false≢true h
not_going (sleeping due todo) h g = false≢true g
not_going (inactive todo) h g = false≢true g
not_going (waiting terms todo) h g = false≢true g
not_going ended h g = false≢true g

pub not_inactive : (p : Place) → is_stopped p ≡ true → is_inactive p ≡ true → ⊥
not_inactive (going gait todo) h g = false≢true g
not_inactive (sleeping due todo) h g = false≢true g
not_inactive (inactive todo) h g = false≢true h
not_inactive (waiting terms todo) h g = false≢true g
not_inactive ended h g = false≢true g

pub stopped_stays : (time i : ℕ) (p : Place) (th : Thread) → is_stopped p ≡ true → turn_at time i p th ≡ th
stopped_stays time i (going gait todo) th h = absurd (false≢true h)
stopped_stays time i (inactive todo) th h = absurd (false≢true h)
stopped_stays time i (sleeping due todo) th h = refl
stopped_stays time i (waiting terms todo) th h = refl
stopped_stays time i ended th h = refl

-- what has come to a stop stays
stays : {A : Type 0} (f : A → A) (x : A) (n k : ℕ) → f (iterate n f x) ≡ iterate n f x → iterate (n + k) f x ≡ iterate n f x
stays f x n zero h = ap (λ m. iterate m f x) (add-zero n)
stays f x n (suc k) h = ap (λ m. iterate m f x) (add-suc n k) ∙ ap f (stays f x n k h) ∙ h

pub stays_from : {A : Type 0} (f : A → A) (x : A) (n m : ℕ) → n ≤ m → f (iterate n f x) ≡ iterate n f x → iterate m f x ≡ iterate n f x
stays_from f x n m le h = ap (λ k. iterate k f x) (sym (add-sub_of_le le)) ∙ stays f x n (m - n) h

-- a thread stops in one way, where the same fired it or nothing
pub stopped_unique : (d : Parts) (blocks : ℕ → Bool) (b : State) (i : ℕ) (x y : Thread) (hx : IsThread d blocks b i x) (hy : IsThread d blocks b i y) → hx.input ≡ hy.input →
    is_stopped x.place ≡ true → is_stopped y.place ≡ true → x ≡ y
stopped_unique d blocks b i x y hx hy same sx sy =
    let f = turn b.time i in let o = opening blocks b i hy.input in
    let at_x : iterate hx.count f o ≡ x = ap (λ p. iterate hx.count f (opening blocks b i p)) (sym same) ∙ hx.is in
    let fx : f (iterate hx.count f o) ≡ iterate hx.count f o = subst (λ t. f t ≡ t) (sym at_x) (stopped_stays b.time i x.place x sx) in
    let fy : f (iterate hy.count f o) ≡ iterate hy.count f o = subst (λ t. f t ≡ t) (sym hy.is) (stopped_stays b.time i y.place y sy) in
    elim (cases_lt hx.count hy.count) [
      | inl lt ↦ sym at_x ∙ sym (stays_from f o hx.count hy.count (le_of_lt lt) fx) ∙ hy.is
      | inr le ↦ sym at_x ∙ stays_from f o hy.count hx.count le fy ∙ hy.is
    ]

abbrev pub thread_opens : (d : Parts) (blocks : ℕ → Bool) (b : State) (i : ℕ) → IsThread d blocks b i (opening blocks b i None)
thread_opens d blocks b i = record { count = 0; input = None; may = tt; is = refl }

abbrev pub thread_turns : (d : Parts) (blocks : ℕ → Bool) (b : State) (i : ℕ) (th : Thread) → IsThread d blocks b i th → IsThread d blocks b i (turn b.time i th)
thread_turns d blocks b i th h = record { count = suc h.count; input = h.input; may = h.may; is = ap (turn b.time i) h.is }

-- a thread whose process is roused, where it is inactive
abbrev pub rouse_thread : Thread → Thread
rouse_thread th = record th { place = roused th.place }

pub roused_count : (time i n : ℕ) (o : Thread) (p : Place) (th : Thread) → th.place ≡ p → iterate n (turn time i) o ≡ th → turn time i th ≡ turn_at time i p th →
    (m : ℕ) × (iterate m (turn time i) o ≡ record th { place = roused p })
roused_count time i n o (going gait todo) th e is turned = (n, is ∙ ap (λ p. record th { place = p }) e)
roused_count time i n o (inactive todo) th e is turned = (suc n, ap (turn time i) is ∙ turned)
roused_count time i n o (sleeping due todo) th e is turned = (n, is ∙ ap (λ p. record th { place = p }) e)
roused_count time i n o (waiting terms todo) th e is turned = (n, is ∙ ap (λ p. record th { place = p }) e)
roused_count time i n o ended th e is turned = (n, is ∙ ap (λ p. record th { place = p }) e)

abbrev pub thread_rouses : (d : Parts) (blocks : ℕ → Bool) (b : State) (i : ℕ) (th : Thread) → IsThread d blocks b i th → IsThread d blocks b i (rouse_thread th)
thread_rouses d blocks b i th h =
    let r = roused_count b.time i h.count (opening blocks b i h.input) th.place th refl h.is refl in
    record { count = r.0; input = h.input; may = h.may; is = r.1 }

-- ---- what threads write

-- a write, and what the log says of it
written_view : (view : Store) (log : List Write) (o : Option Write) (v : ℕ) → list_any (λ w. names w v) (log_after log o) ≡ false →
    (list_any (λ w. names w v) log ≡ false) × (slice_get (store_after view o) v ≡ slice_get view v)
written_view view log None v h = (h, refl)
written_view view log (Some w) v h = let parts = or_parts (names w v) (list_any (λ w. names w v) log) h in (parts.1, put_other view w v parts.0)

turned_view : (time i : ℕ) (p : Place) (th : Thread) (v : ℕ) → writes (turn_at time i p th) v ≡ false →
    (writes th v ≡ false) × (slice_get (turn_at time i p th).view v ≡ slice_get th.view v)
turned_view time i (going gait todo) th v h = written_view th.view th.log (step todo th.view time).write v h
turned_view time i (inactive todo) th v h = (h, refl)
turned_view time i (sleeping due todo) th v h = (h, refl)
turned_view time i (waiting terms todo) th v h = (h, refl)
turned_view time i ended th v h = (h, refl)

iterated_view : (time i n v : ℕ) (o : Thread) → writes (iterate n (turn time i) o) v ≡ false → slice_get (iterate n (turn time i) o).view v ≡ slice_get o.view v
iterated_view time i zero v o h = refl
iterated_view time i (suc n) v o h =
    let th = iterate n (turn time i) o in
    let r = turned_view time i th.place th v h in
    r.1 ∙ iterated_view time i n v o r.0

-- what a thread hasn't written is as it was opened
pub unwritten : (d : Parts) (blocks : ℕ → Bool) (b : State) (i v : ℕ) (th : Thread) (h : IsThread d blocks b i th) → writes th v ≡ false → slice_get th.view v ≡ slice_get (opening blocks b i h.input).view v
unwritten d blocks b i v th h n =
    ap (λ t. slice_get t.view v) (sym h.is) ∙ iterated_view b.time i h.count v (opening blocks b i h.input) (ap (λ t. writes t v) h.is ∙ n)

-- a thread keeps what it has written
writes_turn : (time i : ℕ) (p : Place) (th : Thread) (v : ℕ) → writes th v ≡ true → writes (turn_at time i p th) v ≡ true
writes_turn time i (going gait todo) th v h = log_grows (step todo th.view time).write
  where
    log_grows : (o : Option Write) → list_any (λ w. names w v) (log_after th.log o) ≡ true
    log_grows None = h
    log_grows (Some w) = or_right (names w v) (list_any (λ w. names w v) th.log) h
writes_turn time i (inactive todo) th v h = h
writes_turn time i (sleeping due todo) th v h = h
writes_turn time i (waiting terms todo) th v h = h
writes_turn time i ended th v h = h

writes_more : (time i n k v : ℕ) (o : Thread) → writes (iterate n (turn time i) o) v ≡ true → writes (iterate (n + k) (turn time i) o) v ≡ true
writes_more time i n zero v o h = ap (λ m. writes (iterate m (turn time i) o) v) (add-zero n) ∙ h
writes_more time i n (suc k) v o h =
    let th = iterate (n + k) (turn time i) o in
    ap (λ m. writes (iterate m (turn time i) o) v) (add-suc n k) ∙ writes_turn time i th.place th v (writes_more time i n k v o h)

writes_later : (time i n m v : ℕ) (o : Thread) → n ≤ m → writes (iterate n (turn time i) o) v ≡ true → writes (iterate m (turn time i) o) v ≡ true
writes_later time i n m v o le h = ap (λ k. writes (iterate k (turn time i) o) v) (sym (add-sub_of_le le)) ∙ writes_more time i n (m - n) v o h

-- ---- processes that nothing fires

-- a process that the slot doesn't find waiting has no input
pub timed_input : (d : Parts) (blocks : ℕ → Bool) (b : State) (i : ℕ) (o : Option Fired) → MayOpen d blocks b i o → is_timed (found blocks b i) ≡ true → o ≡ None
timed_input d blocks b i None may timed = refl
timed_input d blocks b i (Some f) may timed = absurd (true≢false (sym timed ∙ ap is_timed may.at))

pub timed_of : (d : Parts) (blocks : ℕ → Bool) (b : State) (i : ℕ) (th : Thread) → IsThread d blocks b i th → is_timed (found blocks b i) ≡ true → IsTimed blocks b i th
timed_of d blocks b i th h timed = record {
  count = h.count;
  timed = timed;
  is = ap (λ o. iterate h.count (turn b.time i) (opening blocks b i o)) (sym (timed_input d blocks b i h.input h.may timed)) ∙ h.is;
}

abbrev pub timed_thread : (d : Parts) (blocks : ℕ → Bool) (b : State) (i : ℕ) (th : Thread) → IsTimed blocks b i th → IsThread d blocks b i th
timed_thread d blocks b i th h = record { count = h.count; input = None; may = tt; is = h.is }

-- what a thread of such a process has written, its stopped thread has
pub timed_wrote : (d : Parts) (blocks : ℕ → Bool) (b : State) (i v : ℕ) (x y : Thread) → IsThread d blocks b i x → is_stopped x.place ≡ true → IsTimed blocks b i y → writes y v ≡ true → writes x v ≡ true
timed_wrote d blocks b i v x y hx still hy wrote =
    let s = timed_of d blocks b i x hx hy.timed in
    let f = turn b.time i in
    let o = opening blocks b i None in
    let early : writes (iterate hy.count f o) v ≡ true = ap (λ z. writes z v) hy.is ∙ wrote in
    elim (cases_lt hy.count s.count) [
      | inl lt ↦ ap (λ z. writes z v) (sym s.is) ∙ writes_later b.time i hy.count s.count v o (le_of_lt lt) early
      | inr le ↦
          let fixed : f (iterate s.count f o) ≡ iterate s.count f o = subst (λ z. f z ≡ z) (sym s.is) (stopped_stays b.time i x.place x still) in
          ap (λ z. writes z v) (sym s.is ∙ sym (stays_from f o s.count hy.count le fixed)) ∙ early
    ]

-- a process that the slot finds waiting, and that nothing fires, stays there
pub unmoved : (d : Parts) (blocks : ℕ → Bool) (b : State) (i : ℕ) (th : Thread) (is : IsThread d blocks b i th) → is.input ≡ None → is_timed (found blocks b i) ≡ false → th ≡ opening blocks b i None
unmoved d blocks b i th is none waits =
    sym is.is ∙ ap (λ o. iterate is.count (turn b.time i) (opening blocks b i o)) none
    ∙ stays_from (turn b.time i) (opening blocks b i None) 0 is.count zero-le (stopped_stays b.time i (found blocks b i) (opening blocks b i None) (waits_still (found blocks b i) waits))
  where
    waits_still : (p : Place) → is_timed p ≡ false → is_stopped p ≡ true
    waits_still (waiting terms todo) h = refl
    waits_still (going gait todo) h = absurd (true≢false h)
    waits_still (sleeping due todo) h = absurd (true≢false h)
    waits_still (inactive todo) h = absurd (true≢false h)
    waits_still ended h = absurd (true≢false h)
