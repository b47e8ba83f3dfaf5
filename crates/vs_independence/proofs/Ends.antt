-- Within a slot, and how it ends: in one state.
use Rattle.vs_process.specs.BlockDrivers.{starter, StartsMoved, StartsAs, cold, sources, SameOutputs, outputs, home, IsSource, Roles, Start}
use Rattle.vs_independence.proofs.Starters.{SameBit, level_bit, shows_same}
use Rattle.vs_independence.proofs.Inner.{AllStarted}
use Rattle.std.proofs.Common.{◌≡◌, ℕ, ◌⊎◌, Bool, true, false, ◌&&◌, ◌||◌, not, cond, Some, List, [], ◌∷◌, ◌++◌, map, length, get_or, slice_get, ltb, refl, sym, ◌∙◌, ap, ap₂, subst, inl, inr}
use Rattle.std.specs.List.{list_any, list_all}
use Rattle.std.proofs.lemmas.Bool.{and_parts, and_from, or_parts, not_from_false, true≢false, cases_Bool}
use Rattle.std.proofs.lemmas.List.{ext_get_or}
use Rattle.std.specs.Prelude.{is_none}
use Rattle.vs_design.specs.Parts.{Parts}
use Rattle.vs_design.specs.Stores.{Store, put, is_driven, start_store, word_in}
use Rattle.vs_process.specs.declared.moves.Move.TheVariants.{EndSlot}
use Rattle.vs_process.specs.Places.{Place, ended, is_going}
use Rattle.vs_process.specs.States.{State, Update, is_due, activated, start}
use Rattle.vs_process.specs.Executions.{is_enabled, ends, next_time, after_slot, places_at, time_at}
use Rattle.vs_process.specs.Threads.{Thread, writes, any_names, IsThread}
use Rattle.vs_process.proofs.ThreadAssigns.{DrivesWell}
use Rattle.vs_process.proofs.ThreadLinks.{copies_settled}
use Rattle.vs_independence.proofs.Inputs.{Stopped, one_thread, stopped_alike}
use Rattle.vs_process.proofs.ThreadStores.{names_some, by, left, put_active, put_active_local, put_active_by, by-left, by-activated, filter_hit}
use Rattle.vs_process.proofs.Settle.{AllIdle, idle_unique, assign_leaves}
use Rattle.vs_process.proofs.Calls.{of, SameCalls}
use Rattle.vs_independence.proofs.Making.{Making, is_settled, none_makes, none_activated, none_get}
use Rattle.vs_independence.proofs.Times.{is_future, same_next}
use Rattle.vs_independence.proofs.Running.{Apart, same_made}
use Rattle.vs_independence.proofs.Inner.{Before, LateBlocks, Moment, Setting, only_sources}
use Rattle.vs_process.proofs.Assigns.{drives}
use Rattle.vs_independence.proofs.FirstQuiet.{Anything, agree_back, covers_all}
use Rattle.vs_design.specs.declared.range.BitRange.{BitRange}
use Rattle.vs_independence.proofs.BlocksAt.{BlocksAt, text_at}
use Rattle.vs_process.proofs.Fares.{Fares, fresh, unfed, fed, woken, inside, Follows, agree_then}
use Rattle.vs_independence.proofs.History.{History, alters, Seen, altered, altered_by, altered_local, altered_none}
use Rattle.vs_independence.proofs.Owed.{Owed, owed_begins, Due}
use Rattle.vs_process.proofs.Texts.{Text}
use Rattle.vs_process.specs.Steps.{assignment}
use Rattle.vs_independence.proofs.Compare.{Comparing, Hangs, compared}
use Rattle.vs_process.proofs.Held.{HasBlock, held}
use Rattle.vs_design.specs.Uses.{all_words, covers}
use Rattle.vs_process.specs.vs_eval.specs.Laws.{digit_in, digit_of}
use Rattle.vs_process.proofs.Digits.{same_stores}
use Rattle.vs_process.proofs.Stores.{shape}
use Rattle.vs_design.specs.declared.design.Assign.{Assign}
use Rattle.vs_process.proofs.Ranges.{assigned_fixed}
use Rattle.vs_process.specs.vs_eval.specs.Values.{target_value}
use Rattle.vs_design.specs.vs_logic4.proofs.Basics.{same_tests as same_test}
use Rattle.vs_independence.proofs.InnerMoves.{AtEnd, at_end, all_idle, sure, quiet_moment, stopped_still, stops_of, late_of}

-- the last state of a slot
pub record Ends (d : Parts) (roles : Roles) (set : Setting d roles) (b s : State) (ran0 ran : ℕ → Bool) : Type 0 where
  pub behind : LateBlocks d roles b s ran0 true ran
  pub blocks : BlocksAt d roles set.z true ran s.time s.store s.places
  pub none : list_any (λ (u : Update). u.active) s.updates ≡ false
  pub idle : AllIdle s.assigns
  pub going : list_any is_going s.places ≡ false
  pub begun : (b ≡ start d) ⊎ AllStarted roles ran0

pub slot_ends : (d : Parts) (roles : Roles) (set : Setting d roles) (b s : State) (ran0 : ℕ → Bool) (late : Bool) (ran : ℕ → Bool) → Apart d roles.blocks b → Moment d roles set b s ran0 late ran → is_enabled s EndSlot ≡ true → Ends d roles set b s ran0 (sure roles ran)
slot_ends d roles set b s ran0 late ran apart mo h = by_phase q.phase
  where
    e : AtEnd s
    e = at_end s h

    q : Moment d roles set b s ran0 true (sure roles ran)
    q = quiet_moment d roles set b s ran0 late ran e.quiet mo

    behind_none : (x : Before d roles b s ran0 true (sure roles ran)) → LateBlocks d roles b s ran0 true (sure roles ran)
    behind_none x =
        let next = none_makes d roles.blocks b s apart x.th x.runs e.quiet.going e.inactive (all_idle s.assigns e.quiet.assigns) (ap (λ t. list_any (is_due t) s.updates) (sym x.runs.slot.time) ∙ e.due) in
        let same : map (activated b.time) s.updates ≡ s.updates = none_activated b.time s.updates x.runs.mades.waiting (ap (λ t. list_any (is_due t) s.updates) (sym x.runs.slot.time) ∙ e.due) in
        record {
          making = next.0;
          mid = sure roles ran;
          past = subst (λ th. History d roles b th ran0 (sure roles ran)) (sym next.2) x.history;
          owed = subst (λ (before : State). Owed d roles before.store (map (activated b.time) before.updates) (sure roles ran) (sure roles ran) s.store s.updates) (sym next.1)
              (subst (λ us. Owed d roles s.store us (sure roles ran) (sure roles ran) s.store s.updates) (sym same) (owed_begins d roles (sure roles ran) s.store s.updates));
          era = late_of d roles b ran0 x.th (sure roles ran) x.era;
          grown = x.grown;
          bits = λ at_start k is s_k mo. inr (level_bit d roles s.store s.assigns k is s_k mo (stops_of d roles.blocks b s next.0 at_start mo.writer) (x.level at_start));
        }

    by_phase : (Before d roles b s ran0 true (sure roles ran) ⊎ LateBlocks d roles b s ran0 true (sure roles ran)) → Ends d roles set b s ran0 (sure roles ran)
    by_phase (inl x) = record { behind = behind_none x; blocks = q.blocks; none = e.quiet.updates; idle = all_idle s.assigns e.quiet.assigns; going = e.quiet.going; begun = q.begun }
    by_phase (inr x) = record { behind = x; blocks = q.blocks; none = e.quiet.updates; idle = all_idle s.assigns e.quiet.assigns; going = e.quiet.going; begun = q.begun }

future_from : (time : ℕ) (us : List Update) → list_all (is_settled time) us ≡ true → list_any (λ (u : Update). u.active) us ≡ false → list_all (is_future time) us ≡ true
future_from time [] h g = refl
future_from time (u ∷ us) h g =
    let all = and_parts (is_settled time u) (list_all (is_settled time) us) h in
    let any = or_parts u.active (list_any (λ (u : Update). u.active) us) g in
    let last = and_parts (u.active || ltb time u.due) (names_some u.what) all.0 in
    let later : ltb time u.due ≡ true = ap (λ b. b || ltb time u.due) (sym any.0) ∙ last.0 in
    and_from (is_future time u) (list_all (is_future time) us)
    (and_from (not u.active && ltb time u.due) (names_some u.what) (and_from (not u.active) (ltb time u.due) (not_from_false u.active any.0) later) last.1)
    (future_from time us all.1 any.1)

-- the updates that are left at the end of a slot are due later
pub all_future : (d : Parts) (roles : Roles) (set : Setting d roles) (b s : State) (ran0 ran : ℕ → Bool) → Ends d roles set b s ran0 ran → list_all (is_future s.time) s.updates ≡ true
all_future d roles set b s ran0 ran e = future_from s.time s.updates (ap (λ t. list_all (is_settled t) s.updates) e.behind.making.slot.time ∙ e.behind.making.settled) e.none

-- two states in which a slot begins or ends: all but the calls of `$strobe` is the same, and updates of different signals may stand in another order
pub record Alike (a c : State) : Type 0 where
  pub store : a.store ≡ c.store
  pub places : a.places ≡ c.places
  pub assigns : a.assigns ≡ c.assigns
  pub time : a.time ≡ c.time
  pub finishing : a.finishing ≡ c.finishing
  pub over : a.over ≡ c.over
  pub updates : (v : ℕ) → by v a.updates ≡ by v c.updates

-- the same blocks have ever been woken
abbrev pub SameRan : Roles → (ℕ → Bool) → (ℕ → Bool) → Type 0
SameRan roles ran qan = (k : ℕ) → roles.blocks k ≡ true → ran k ≡ qan k

-- the processes of a slot whose updates are made have stopped
pub stopped_of : (d : Parts) (blocks : ℕ → Bool) → DrivesWell d → (b s : State) → (m : Making d blocks b s) → Stopped d blocks b m.before.store m.th
stopped_of d blocks well b s m = record {
  stands = m.runs.stands;
  own = m.runs.sources.own;
  still = m.still;
  level = copies_settled d well m.before.store m.before.assigns m.runs.sound m.idle;
}

-- two threads of one process that have stopped are one
pub same_threads : (d : Parts) (blocks : ℕ → Bool) (b c s t : State) → DrivesWell d → Apart d blocks b → Alike b c → (x : Making d blocks b s) (y : Making d blocks c t) → (i : ℕ) → x.th i ≡ y.th i
same_threads d blocks b c s t well apart al x y =
    one_thread d blocks b apart x.before.store y.before.store x.th y.th (stopped_of d blocks well b s x) (stopped_alike d blocks b c al.store al.places al.time y.before.store y.th (stopped_of d blocks well c t y))

-- the processes wrote the same
same_written : (d : Parts) (blocks : ℕ → Bool) (b c s t : State) → DrivesWell d → Apart d blocks b → Alike b c → (x : Making d blocks b s) (y : Making d blocks c t) → (v : ℕ) → IsSource d blocks v → slice_get x.before.store v ≡ slice_get y.before.store v
same_written d blocks b c s t well apart al x y v source = by_cases (x.runs.sources.fresh v source) (y.runs.sources.fresh v source)
  where
    wrote : (i : ℕ) → writes (x.th i) v ≡ true → writes (y.th i) v ≡ true → slice_get x.before.store v ≡ slice_get y.before.store v
    wrote i hx hy = x.runs.sources.own i v hx ∙ ap (λ (z : Thread). slice_get z.view v) (same_threads d blocks b c s t well apart al x y i) ∙ sym (y.runs.sources.own i v hy)

    by_cases : ((slice_get x.before.store v ≡ slice_get b.store v) ⊎ ((i : ℕ) × (writes (x.th i) v ≡ true))) → ((slice_get y.before.store v ≡ slice_get c.store v) ⊎ ((i : ℕ) × (writes (y.th i) v ≡ true))) →
        slice_get x.before.store v ≡ slice_get y.before.store v
    by_cases (inr (i, hx)) other = wrote i hx (subst (λ z. writes z v ≡ true) (same_threads d blocks b c s t well apart al x y i) hx)
    by_cases (inl same) (inr (i, hy)) = wrote i (subst (λ z. writes z v ≡ true) (sym (same_threads d blocks b c s t well apart al x y i)) hy) hy
    by_cases (inl same) (inl alike) = same ∙ ap (λ (a : Store). slice_get a v) al.store ∙ sym alike

-- they made the same calls
pub same_calls : (d : Parts) (blocks : ℕ → Bool) (b c s t : State) → DrivesWell d → Apart d blocks b → Alike b c → (x : Making d blocks b s) (y : Making d blocks c t) → SameCalls s.calls t.calls
same_calls d blocks b c s t well apart al x y i =
    ap (of i) x.calls ∙ x.runs.asks i ∙ ap (λ (z : Thread). z.asked) (same_threads d blocks b c s t well apart al x y i) ∙ sym (ap (of i) y.calls ∙ y.runs.asks i)

-- they made the same updates of each signal
same_updates : (d : Parts) (blocks : ℕ → Bool) (b c s t : State) → DrivesWell d → Apart d blocks b → Alike b c → (x : Making d blocks b s) (y : Making d blocks c t) → (v : ℕ) → by v x.before.updates ≡ by v y.before.updates
same_updates d blocks b c s t well apart al x y v = by_cases (x.runs.mades.unmade v) (y.runs.mades.unmade v)
  where
    made : (i : ℕ) → any_names (x.th i).made v ≡ true → any_names (y.th i).made v ≡ true → by v x.before.updates ≡ by v y.before.updates
    made i hx hy = x.runs.mades.made i v hx ∙ ap₂ (λ (l : List Update) (z : Thread). l ++ by v z.made) (al.updates v) (same_threads d blocks b c s t well apart al x y i) ∙ sym (y.runs.mades.made i v hy)

    by_cases : ((by v x.before.updates ≡ by v b.updates) ⊎ ((i : ℕ) × (any_names (x.th i).made v ≡ true))) → ((by v y.before.updates ≡ by v c.updates) ⊎ ((i : ℕ) × (any_names (y.th i).made v ≡ true))) →
        by v x.before.updates ≡ by v y.before.updates
    by_cases (inr (i, hx)) other = made i hx (subst (λ (z : Thread). any_names z.made v ≡ true) (same_threads d blocks b c s t well apart al x y i) hx)
    by_cases (inl nil) (inr (i, hy)) = made i (subst (λ (z : Thread). any_names z.made v ≡ true) (sym (same_threads d blocks b c s t well apart al x y i)) hy) hy
    by_cases (inl nil) (inl none) = nil ∙ al.updates v ∙ sym none

put_none : (store : Store) (us : List Update) → list_any (λ (u : Update). u.active) us ≡ false → put_active store us ≡ store
put_none store [] h = refl
put_none store (u ∷ us) h =
    let parts = or_parts u.active (list_any (λ (u : Update). u.active) us) h in
    ap (λ b. put_active (cond b (put store u.what) store) us) parts.0 ∙ put_none store us parts.1

left_all : (us : List Update) → list_any (λ (u : Update). u.active) us ≡ false → left us ≡ us
left_all [] h = refl
left_all (u ∷ us) h =
    let parts = or_parts u.active (list_any (λ (u : Update). u.active) us) h in
    filter_hit (λ (x : Update). not x.active) u us (not_from_false u.active parts.0) ∙ ap (λ l. u ∷ l) (left_all us parts.1)

-- what the updates made of a signal
ended_value : (d : Parts) (blocks : ℕ → Bool) (b s : State) (m : Making d blocks b s) → list_any (λ (u : Update). u.active) s.updates ≡ false → (v : ℕ) → IsSource d blocks v →
    slice_get s.store v ≡ slice_get (put_active m.before.store (map (activated b.time) (by v m.before.updates))) v
ended_value d blocks b s m none v source =
    ap (λ (a : Store). slice_get a v) (sym (put_none s.store s.updates none)) ∙ m.store v source
    ∙ put_active_by m.before.store (map (activated b.time) m.before.updates) v
    ∙ ap (λ us. slice_get (put_active m.before.store us) v) (by-activated b.time m.before.updates v)

-- two slots that begin alike and end
record Two (d : Parts) (roles : Roles) (set : Setting d roles) (b c s t : State) (ran0 qan0 ran qan : ℕ → Bool) : Type 0 where
  apart : Apart d roles.blocks b
  apart_other : Apart d roles.blocks c
  alike : Alike b c
  same_ran : SameRan roles ran0 qan0
  one : Ends d roles set b s ran0 ran
  other : Ends d roles set c t qan0 qan

same_sources : (d : Parts) (roles : Roles) (set : Setting d roles) (b c s t : State) (ran0 qan0 ran qan : ℕ → Bool) → Two d roles set b c s t ran0 qan0 ran qan → (v : ℕ) → IsSource d roles.blocks v → slice_get s.store v ≡ slice_get t.store v
same_sources d roles set b c s t ran0 qan0 ran qan two v source =
    let mx = two.one.behind.making in
    let my = two.other.behind.making in
    ended_value d roles.blocks b s mx two.one.none v source
    ∙ put_active_local mx.before.store my.before.store (map (activated b.time) (by v mx.before.updates)) v (same_written d roles.blocks b c s t set.well two.apart two.alike mx my v source)
    ∙ ap₂ (λ t us. slice_get (put_active my.before.store (map (activated t) us)) v) two.alike.time (same_updates d roles.blocks b c s t set.well two.apart two.alike mx my v)
    ∙ sym (ended_value d roles.blocks c t my two.other.none v source)

-- the updates of a signal that are left
ended_left : (d : Parts) (blocks : ℕ → Bool) (b s : State) (m : Making d blocks b s) → list_any (λ (u : Update). u.active) s.updates ≡ false → (v : ℕ) → by v s.updates ≡ left (map (activated b.time) (by v m.before.updates))
ended_left d blocks b s m none v =
    ap (by v) (sym (left_all s.updates none)) ∙ m.rest v ∙ by-left (map (activated b.time) m.before.updates) v ∙ ap left (by-activated b.time m.before.updates v)

same_left : (d : Parts) (roles : Roles) (set : Setting d roles) (b c s t : State) (ran0 qan0 ran qan : ℕ → Bool) → Two d roles set b c s t ran0 qan0 ran qan → (v : ℕ) → by v s.updates ≡ by v t.updates
same_left d roles set b c s t ran0 qan0 ran qan two v =
    let mx = two.one.behind.making in
    let my = two.other.behind.making in
    ended_left d roles.blocks b s mx two.one.none v ∙ ap₂ (λ t us. left (map (activated t) us)) two.alike.time (same_updates d roles.blocks b c s t set.well two.apart two.alike mx my v) ∙ sym (ended_left d roles.blocks c t my two.other.none v)

finishes_alike : (d : Parts) (blocks : ℕ → Bool) (b c s t : State) → DrivesWell d → Apart d blocks b → Alike b c → (x : Making d blocks b s) (y : Making d blocks c t) → x.before.finishing ≡ true → y.before.finishing ≡ true
finishes_alike d blocks b c s t well apart al x y h = elim (x.runs.finishes.some h) [
  | inl before ↦ y.runs.finishes.kept (sym al.finishing ∙ before)
  | inr other ↦ y.runs.finishes.by_thread other.0 (subst (λ (z : Thread). z.fin ≡ true) (same_threads d blocks b c s t well apart al x y other.0) other.1)
]

pub alike_back : (a c : State) → Alike a c → Alike c a
alike_back a c al = record { store = sym al.store; places = sym al.places; assigns = sym al.assigns; time = sym al.time; finishing = sym al.finishing; over = sym al.over; updates = λ v. sym (al.updates v) }

two_back : (d : Parts) (roles : Roles) (set : Setting d roles) (b c s t : State) (ran0 qan0 ran qan : ℕ → Bool) → Two d roles set b c s t ran0 qan0 ran qan → Two d roles set c b t s qan0 ran0 qan ran
two_back d roles set b c s t ran0 qan0 ran qan two = record { apart = two.apart_other; apart_other = two.apart; alike = alike_back b c two.alike; same_ran = λ k is. sym (two.same_ran k is); one = two.other; other = two.one }

-- ---- blocks with a starter have been woken

pub all_started : (d : Parts) (roles : Roles) (set : Setting d roles) (b s : State) (ran0 ran : ℕ → Bool) → Ends d roles set b s ran0 ran → AllStarted roles ran
all_started d roles set b s ran0 ran e k is s_k = by_begun e.begun
  where
    mo : StartsMoved d roles.blocks k
    mo = subst (StartsAs d roles.blocks k) s_k (set.starts k is)

    m : Making d roles.blocks b s
    m = e.behind.making

    th : Thread
    th = m.th mo.writer

    thread_is : b ≡ start d → (i : ℕ) → IsThread d roles.blocks (start d) i (m.th i)
    thread_is at_start i = subst (λ b. IsThread d roles.blocks b i (m.th i)) at_start ((m.runs.stands i).is)

    found_root : b ≡ start d → ((slice_get m.before.store mo.root ≡ slice_get b.store mo.root) ⊎ ((i : ℕ) × (writes (m.th i) mo.root ≡ true))) → slice_get m.before.store mo.root ≡ slice_get (start_store d) mo.root
    found_root at_start (inl same) = same ∙ ap (λ (b : State). slice_get b.store mo.root) at_start
    found_root at_start (inr (i, wrote)) = absurd (true≢false (sym wrote ∙ let still = stopped_still th.place (m.still mo.writer) in mo.untouched i (m.th i) th (thread_is at_start i) (thread_is at_start mo.writer) still.0 still.1))

    made_is : b ≡ start d → by mo.root m.before.updates ≡ by mo.root th.made
    made_is at_start =
        let still = stopped_still th.place (m.still mo.writer) in
        same_made d roles.blocks b m.before.updates m.th m.runs.mades mo.writer mo.root (λ i named. mo.alone i (m.th i) th (thread_is at_start i) named (thread_is at_start mo.writer) still.0 still.1)
        ∙ ap (λ (b : State). by mo.root b.updates ++ by mo.root th.made) at_start

    root_is : b ≡ start d → slice_get s.store mo.root ≡ slice_get (put_active (start_store d) (map (activated 0) th.made)) mo.root
    root_is at_start =
        ended_value d roles.blocks b s m e.none mo.root mo.source
        ∙ put_active_local m.before.store (start_store d) (map (activated b.time) (by mo.root m.before.updates)) mo.root (found_root at_start (m.runs.sources.fresh mo.root mo.source))
        ∙ ap (λ (b : State). slice_get (put_active (start_store d) (map (activated b.time) (by mo.root m.before.updates))) mo.root) at_start
        ∙ ap (λ us. slice_get (put_active (start_store d) (map (activated 0) us)) mo.root) (made_is at_start)
        ∙ sym (ap (λ us. slice_get (put_active (start_store d) us) mo.root) (by-activated 0 th.made mo.root))
        ∙ sym (put_active_by (start_store d) (map (activated 0) th.made) mo.root)

    left : (j : ℕ) (a : Assign) → slice_get d.assigns j ≡ Some a → put s.store (assignment a.target a.source s.store 0) ≡ s.store
    left j a at_j =
        ap (put s.store) (assigned_fixed a.target (target_value a.target a.source s.store 0) s.store 0 (set.well.places.fixed j a at_j)) ∙ assign_leaves d set.well s.store s.assigns m.sound e.idle j a at_j

    by_bits : b ≡ start d → ((ran k ≡ true) ⊎ SameBit d roles.blocks k mo s.store) → ran k ≡ true
    by_bits at_start (inl run) = run
    by_bits at_start (inr same) =
        let still = stopped_still th.place (m.still mo.writer) in
        absurd (mo.moved th (thread_is at_start mo.writer) still.0 still.1
        (λ n w p shows named. sym (ap (λ o. digit_in (word_in o w) p) (shows_same d s.store mo.root n e.blocks.sized left shows ∙ root_is at_start)) ∙ same n w p shows named))

    by_begun : ((b ≡ start d) ⊎ AllStarted roles ran0) → ran k ≡ true
    by_begun (inl at_start) = by_bits at_start (e.behind.bits at_start k is s_k mo)
    by_begun (inr all) = e.behind.grown k (all k is s_k)

-- ---- the same blocks were woken

woken_too : (d : Parts) (roles : Roles) (set : Setting d roles) (b c s t : State) (ran0 qan0 ran qan : ℕ → Bool) → Two d roles set b c s t ran0 qan0 ran qan → (k : ℕ) → roles.blocks k ≡ true → roles.start k ≡ sources → ran k ≡ true → qan k ≡ true
woken_too d roles set b c s t ran0 qan0 ran qan two k is s_k h = by_owed (two.one.behind.owed.some k is s_k h)
  where
    mx : Making d roles.blocks b s
    mx = two.one.behind.making

    my : Making d roles.blocks c t
    my = two.other.behind.making

    from_mid : two.other.behind.mid k ≡ true → qan k ≡ true
    from_mid mid = two.other.behind.owed.kept k is s_k mid

    by_seen : Seen d b mx.th k → qan k ≡ true
    by_seen x = from_mid (two.other.behind.past.seen k is s_k (record {
      thread = x.thread;
      range = x.range;
      named = x.named;
      other = x.other;
      alters = ap (λ st. alters st (my.th x.thread).log x.range) (sym two.alike.store) ∙ ap (λ (z : Thread). alters b.store z.log x.range) (sym (same_threads d roles.blocks b c s t set.well two.apart two.alike mx my x.thread)) ∙ x.alters;
    }))

    by_past : ((ran0 k ≡ true) ⊎ Seen d b mx.th k) → qan k ≡ true
    by_past (inl old) = from_mid (two.other.behind.past.kept k is s_k (sym (two.same_ran k is) ∙ old))
    by_past (inr x) = by_seen x

    due_same : (r : BitRange) → IsSource d roles.blocks r.signal → altered mx.before.store (map (activated b.time) mx.before.updates) r ≡ altered my.before.store (map (activated c.time) my.before.updates) r
    due_same r source =
        altered_by mx.before.store (map (activated b.time) mx.before.updates) r
        ∙ ap (λ us. altered mx.before.store us r) (by-activated b.time mx.before.updates r.signal)
        ∙ altered_local mx.before.store my.before.store (map (activated b.time) (by r.signal mx.before.updates)) r (same_written d roles.blocks b c s t set.well two.apart two.alike mx my r.signal source)
        ∙ ap₂ (λ n us. altered my.before.store (map (activated n) us) r) two.alike.time (same_updates d roles.blocks b c s t set.well two.apart two.alike mx my r.signal)
        ∙ sym (ap (λ us. altered my.before.store us r) (by-activated c.time my.before.updates r.signal))
        ∙ sym (altered_by my.before.store (map (activated c.time) my.before.updates) r)

    by_due : (x : Due d mx.before.store (map (activated b.time) mx.before.updates) k) → ((qan k ≡ true) ⊎ (altered t.store t.updates x.range ≡ true)) → qan k ≡ true
    by_due x (inl run) = run
    by_due x (inr hit) = absurd (true≢false (sym hit ∙ altered_none t.store t.updates x.range two.other.none))

    by_owed : ((two.one.behind.mid k ≡ true) ⊎ Due d mx.before.store (map (activated b.time) mx.before.updates) k) → qan k ≡ true
    by_owed (inl mid) = by_past (two.one.behind.past.some k is s_k mid)
    by_owed (inr x) = by_due x (two.other.behind.owed.owed k is s_k (record {
      range = x.range;
      named = x.named;
      other = x.other;
      alters = sym (due_same x.range (only_sources d roles set k is s_k x.range x.named x.other)) ∙ x.alters;
    }))

same_woken : (d : Parts) (roles : Roles) (set : Setting d roles) (b c s t : State) (ran0 qan0 ran qan : ℕ → Bool) → Two d roles set b c s t ran0 qan0 ran qan → SameRan roles ran qan
same_woken d roles set b c s t ran0 qan0 ran qan two k is = by_start (roles.start k) refl
  where
    by_start : (a : Start) → roles.start k ≡ a → ran k ≡ qan k
    by_start cold e = two.one.behind.era.cold k is e ∙ sym (two.other.behind.era.cold k is e)
    by_start starter e = all_started d roles set b s ran0 ran two.one k is e ∙ sym (all_started d roles set c t qan0 qan two.other k is e)
    by_start sources e = same_test (ran k) (qan k) (woken_too d roles set b c s t ran0 qan0 ran qan two k is e)
        (woken_too d roles set c b t s qan0 ran0 qan ran (two_back d roles set b c s t ran0 qan0 ran qan two) k is e)

-- ---- how a block ends the slot

-- it has what it had at the start, or it follows its inputs
pub record Rested (d : Parts) (inputs : List BitRange) (k : ℕ) (ran : Bool) (store : Store) (place : Place) : Type 0 where
  pub at_home : place ≡ home d k
  pub state : ((ran ≡ false) × SameOutputs d k store (start_store d)) ⊎ ((ran ≡ true) × Follows d inputs k store)

rested : (d : Parts) (inputs : List BitRange) (k : ℕ) (t : Text d k) (late ran : Bool) (time : ℕ) (store : Store) (place : Place) → Fares d inputs k t late ran time store place → is_going place ≡ false → Rested d inputs k ran store place
rested d inputs k t late ran time store place (fresh todo is way same none first) quiet = absurd (true≢false (sym (ap is_going is) ∙ quiet))
rested d inputs k t late ran time store place (unfed is same none) quiet = record { at_home = is; state = inl (none, same) }
rested d inputs k t late ran time store place (fed is follows some) quiet = record { at_home = is; state = inr (some, follows) }
rested d inputs k t late ran time store place (woken is some) quiet = absurd (true≢false (sym (ap is_going is) ∙ quiet))
rested d inputs k t late ran time store place (inside todo from th is run sized at same some) quiet = absurd (true≢false (sym (ap is_going is) ∙ quiet))

pub ends_rested : (d : Parts) (roles : Roles) (set : Setting d roles) (b s : State) (ran0 ran : ℕ → Bool) → Ends d roles set b s ran0 ran → (k : ℕ) → roles.blocks k ≡ true → Rested d (roles.inputs k) k (ran k) s.store (get_or s.places k ended)
ends_rested d roles set b s ran0 ran e k is =
    rested d (roles.inputs k) k (text_at d roles set.z k is) true (ran k) s.time s.store (get_or s.places k ended) (e.blocks.fares k is) (none_get is_going s.places k ended refl e.going)

same_blocks : (d : Parts) (roles : Roles) (set : Setting d roles) (b c s t : State) (ran0 qan0 ran qan : ℕ → Bool) → (two : Two d roles set b c s t ran0 qan0 ran qan) → (k : ℕ) → roles.blocks k ≡ true →
    SameOutputs d k s.store t.store ⊎ Hangs d roles s.store t.store Anything k
same_blocks d roles set b c s t ran0 qan0 ran qan two k is =
    by_states (ends_rested d roles set b s ran0 ran two.one k is).state (ends_rested d roles set c t qan0 qan two.other k is).state
  where
    same : ran k ≡ qan k
    same = same_woken d roles set b c s t ran0 qan0 ran qan two k is

    by_states : (((ran k ≡ false) × SameOutputs d k s.store (start_store d)) ⊎ ((ran k ≡ true) × Follows d (roles.inputs k) k s.store)) →
        (((qan k ≡ false) × SameOutputs d k t.store (start_store d)) ⊎ ((qan k ≡ true) × Follows d (roles.inputs k) k t.store)) → SameOutputs d k s.store t.store ⊎ Hangs d roles s.store t.store Anything k
    by_states (inl x) (inl y) = inl (λ v w n hit. x.1 v w n hit ∙ sym (y.1 v w n hit))
    by_states (inl x) (inr y) = absurd (true≢false (sym y.0 ∙ sym same ∙ x.0))
    by_states (inr x) (inl y) = absurd (true≢false (sym x.0 ∙ same ∙ y.0))
    by_states (inr x) (inr y) = inr (record {
      same = λ agree v w n hit.
          let f = x.1 in
          let g = y.1 in
          let between = agree_then d (roles.inputs k) k f.from s.store g.from f.agrees (agree_then d (roles.inputs k) k s.store t.store g.from agree (agree_back d (roles.inputs k) k g.from t.store g.agrees)) in
          sym (f.same v w n hit) ∙ (set.z.follows k is).function f.time g.time f.from g.from f.end g.end f.sized g.sized f.run g.run between v w n hit ∙ g.same v w n hit;
      up = λ r w n bit named other at_r. (r, tt, at_r);
    })

-- a slot ends in one way
pub ends_unique : (d : Parts) (roles : Roles) (set : Setting d roles) (b c s t : State) (ran0 qan0 ran qan : ℕ → Bool) → Apart d roles.blocks b → Apart d roles.blocks c → Alike b c → SameRan roles ran0 qan0 → Ends d roles set b s ran0 ran → Ends d roles set c t qan0 qan →
    Alike s t × SameRan roles ran qan
ends_unique d roles set b c s t ran0 qan0 ran qan apart apart_other al same_ran0 x y = (
  record {
    store = same_stores s.store t.store shaped (λ v w n. compared d roles s.store t.store Anything comparing v w n (all_words v) tt (covers_all v w n));
    places = ext_get_or ended s.places t.places (mx.slot.count ∙ ap (λ l. length l) al.places ∙ sym my.slot.count) (λ i lt. same_place i);
    assigns = idle_unique s.assigns t.assigns (mx.sound.linked ∙ sym my.sound.linked) x.idle y.idle;
    time = mx.slot.time ∙ al.time ∙ sym my.slot.time;
    finishing = mx.finishing ∙ same_test mx.before.finishing my.before.finishing (finishes_alike d roles.blocks b c s t set.well two.apart al mx my) (finishes_alike d roles.blocks c b t s set.well two.apart_other (alike_back b c al) my mx) ∙ sym my.finishing;
    over = mx.slot.over ∙ al.over ∙ sym my.slot.over;
    updates = same_left d roles set b c s t ran0 qan0 ran qan two;
  },
  same_woken d roles set b c s t ran0 qan0 ran qan two,
)
  where
    mx : Making d roles.blocks b s
    mx = x.behind.making

    my : Making d roles.blocks c t
    my = y.behind.making

    two : Two d roles set b c s t ran0 qan0 ran qan
    two = record { apart = apart; apart_other = apart_other; alike = al; same_ran = same_ran0; one = x; other = y }

    shaped : shape s.store ≡ shape t.store
    shaped = mx.sound.shaped ∙ sym my.sound.shaped

    bit : (v w n : ℕ) → drives d.assigns v w n ≡ false → ((k : ℕ) → roles.blocks k ≡ true → list_any (covers v w n) (outputs d k) ≡ false) → (IsSource d roles.blocks v ⊎ ((is_driven d.assigns v ≡ true) ⊎ HasBlock d roles.blocks v)) →
        digit_of s.store v w n ≡ digit_of t.store v w n
    bit v w n none uncovered (inl source) = ap (λ o. digit_in (word_in o w) n) (same_sources d roles set b c s t ran0 qan0 ran qan two v source)
    bit v w n none uncovered (inr (inl driven)) = mx.sound.bare v w n driven none ∙ sym (my.sound.bare v w n driven none)
    bit v w n none uncovered (inr (inr (k, is, hit))) = x.blocks.bare k v w n is hit (uncovered k is) ∙ sym (y.blocks.bare k v w n is hit (uncovered k is))

    comparing : Comparing d roles s.store t.store Anything
    comparing = record {
      well = set.well;
      z = set.z;
      order = set.order;
      started = mx.sound.shaped;
      shaped = shaped;
      left_one = λ j e is. assign_leaves d set.well s.store s.assigns mx.sound x.idle j e is;
      left_other = λ j e is. assign_leaves d set.well t.store t.assigns my.sound y.idle j e is;
      plain = λ v w n r up at_r none uncovered. bit v w n none uncovered (held d roles.blocks v);
      up = λ r q j e up is into named. tt;
      block = λ r k up is into. same_blocks d roles set b c s t ran0 qan0 ran qan two k is;
    }

    same_place : (i : ℕ) → get_or s.places i ended ≡ get_or t.places i ended
    same_place i =
        elim (cases_Bool (roles.blocks i)) [
          | inl is ↦ (ends_rested d roles set b s ran0 ran x i is).at_home ∙ sym (ends_rested d roles set c t qan0 qan y i is).at_home
          | inr other ↦ mx.places i other ∙ mx.runs.places i other ∙ ap (λ (z : Thread). z.place) (same_threads d roles.blocks b c s t set.well two.apart al mx my i) ∙ sym (my.runs.places i other) ∙ sym (my.places i other)
        ]

-- so does the next one begin
pub behind_alike : (d : Parts) (roles : Roles) (set : Setting d roles) (b c s t : State) (ran0 qan0 ran qan : ℕ → Bool) → Ends d roles set b s ran0 ran → Ends d roles set c t qan0 qan → Alike s t → Alike (after_slot s) (after_slot t)
behind_alike d roles set b c s t ran0 qan0 ran qan x y al =
    let next : next_time s ≡ next_time t = same_next s t s.time al.places (all_future d roles set b s ran0 ran x) (ap (λ n. list_all (is_future n) t.updates) al.time ∙ all_future d roles set c t qan0 qan y) al.updates in
    let over : ends s ≡ ends t = ap₂ (λ f n. f || is_none n) al.finishing next in
    record {
      store = al.store;
      places = ap₂ (λ o n. places_at o n s.places) over next ∙ ap (λ l. places_at (ends t) (next_time t) l) al.places;
      assigns = al.assigns;
      time = ap₂ (λ o n. time_at o n s.time) over next ∙ ap (λ n. time_at (ends t) (next_time t) n) al.time;
      finishing = al.finishing;
      over = over;
      updates = al.updates;
    }
