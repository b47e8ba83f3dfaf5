-- The lines of `$display` that a thread makes, turn by turn.
use Rattle.std.proofs.Common.{◌≡◌, ℕ, zero, suc, ◌+◌, ◌-◌, ◌≤◌, ◌++◌, Bool, true, Option, Some, None, List, [], slice_get, zero-le, refl, sym, ◌∙◌, ap, ap₂, subst, inl, inr, add-zero, add-suc, add-sub_of_le, le_of_lt, append-nil, arith}
use Rattle.std.proofs.lemmas.Bool.{cases_lt, false≢true}
use Rattle.std.proofs.lemmas.Option.{same_Some as same_some}
use Rattle.vs_design.specs.Parts.{Parts}
use Rattle.vs_design.specs.Stores.{Store}
use Rattle.vs_design.specs.Traces.{Line}
use Rattle.vs_process.specs.Places.{Place, going, sleeping, inactive, waiting, ended}
use Rattle.vs_process.specs.Steps.{step}
use Rattle.vs_process.specs.States.{State, roused}
use Rattle.vs_process.specs.Executions.{line_by}
use Rattle.vs_process.specs.Threads.{Thread, Fired, turn, turn_at, iterate, opening, is_timed, MayOpen, IsThread, writes}
use Rattle.vs_process.proofs.Threads.{is_stopped, stopped_stays, stays_from, rouse_thread, thread_opens, thread_turns, unmoved, unwritten}
use Rattle.vs_independence.proofs.Running.{Apart, given_value}
use Rattle.vs_independence.proofs.Fire.{IsFiredNow, fired_changed, fired_is}
use Rattle.vs_independence.proofs.Inputs.{Stopped, begins_as, final_value, same_fired, same_opening, thread_from}

-- the line that the next turn of a process makes
abbrev pub place_lines : ℕ → ℕ → Place → Store → List Line
place_lines time i (going gait todo) store = line_by i (step todo store time).line
place_lines time i _ store = []

abbrev pub turn_lines : ℕ → ℕ → Thread → List Line
turn_lines time i th = place_lines time i th.place th.view

-- the lines of so many turns, the earliest first
abbrev pub lines_along : ℕ → ℕ → ℕ → Thread → List Line
lines_along time i zero o = []
lines_along time i (suc n) o = lines_along time i n o ++ turn_lines time i (iterate n (turn time i) o)

-- what has come to a stop makes none
still_lines : (time i : ℕ) (p : Place) (store : Store) → is_stopped p ≡ true → place_lines time i p store ≡ []
still_lines time i (going gait todo) store h = absurd (false≢true h)
still_lines time i (inactive todo) store h = refl
still_lines time i (sleeping due todo) store h = refl
still_lines time i (waiting terms todo) store h = refl
still_lines time i ended store h = refl

lines_stay : (time i n k : ℕ) (o : Thread) → is_stopped (iterate n (turn time i) o).place ≡ true → lines_along time i (n + k) o ≡ lines_along time i n o
lines_stay time i n zero o h = ap (λ m. lines_along time i m o) (add-zero n)
lines_stay time i n (suc k) o h =
    ap (λ m. lines_along time i m o) (add-suc n k)
    ∙ ap₂ (λ l m. l ++ m) (lines_stay time i n k o h)
    (ap (turn_lines time i) (stays_from (turn time i) o n (n + k) (omega arith) (stopped_stays time i last.place last h)) ∙ still_lines time i last.place last.view h)
    ∙ append-nil (lines_along time i n o)
  where
    last : Thread
    last = iterate n (turn time i) o

lines_stay_from : (time i n m : ℕ) (o : Thread) → n ≤ m → is_stopped (iterate n (turn time i) o).place ≡ true → lines_along time i m o ≡ lines_along time i n o
lines_stay_from time i n m o le h = ap (λ k. lines_along time i k o) (sym (add-sub_of_le le)) ∙ lines_stay time i n (m - n) o h

-- a thread has made these lines
pub record Tells (d : Parts) (blocks : ℕ → Bool) (b : State) (i : ℕ) (th : Thread) (lines : List Line) : Type 0 where
  pub is : IsThread d blocks b i th
  pub along : lines_along b.time i is.count (opening blocks b i is.input) ≡ lines

pub tells_opens : (d : Parts) (blocks : ℕ → Bool) (b : State) (i : ℕ) → Tells d blocks b i (opening blocks b i None) []
tells_opens d blocks b i = record { is = thread_opens d blocks b i; along = refl }

-- a turn adds its line
pub tells_turns : (d : Parts) (blocks : ℕ → Bool) (b : State) (i : ℕ) (th : Thread) (lines : List Line) → Tells d blocks b i th lines →
    Tells d blocks b i (turn b.time i th) (lines ++ turn_lines b.time i th)
tells_turns d blocks b i th lines t = record { is = thread_turns d blocks b i th t.is; along = ap₂ (λ l m. l ++ m) t.along (ap (turn_lines b.time i) t.is.is) }

-- the end of a delay of zero adds none
pub tells_rouses : (d : Parts) (blocks : ℕ → Bool) (b : State) (i : ℕ) (th : Thread) (lines : List Line) → Tells d blocks b i th lines → Tells d blocks b i (rouse_thread th) lines
tells_rouses d blocks b i th lines t = by_place th.place refl
  where
    kept : (p : Place) → th.place ≡ p → roused p ≡ p → Tells d blocks b i (rouse_thread th) lines
    kept p at same =
        let is : rouse_thread th ≡ th = ap (λ (q : Place). record th { place = roused q }) at ∙ ap (λ (q : Place). record th { place = q }) same ∙ sym (ap (λ (q : Place). record th { place = q }) at) in
        subst (λ x. Tells d blocks b i x lines) (sym is) t

    by_place : (p : Place) → th.place ≡ p → Tells d blocks b i (rouse_thread th) lines
    by_place (going gait todo) at = kept (going gait todo) at refl
    by_place (sleeping due todo) at = kept (sleeping due todo) at refl
    by_place (waiting terms todo) at = kept (waiting terms todo) at refl
    by_place ended at = kept ended at refl
    by_place (inactive todo) at =
        let turned : turn b.time i th ≡ rouse_thread th = ap (λ p. turn_at b.time i p th) at ∙ sym (ap (λ (q : Place). record th { place = roused q }) at) in
        let none : turn_lines b.time i th ≡ [] = ap (λ p. place_lines b.time i p th.view) at in
        subst (λ x. Tells d blocks b i x lines) turned
        (subst (λ l. Tells d blocks b i (turn b.time i th) l) (ap (λ l. lines ++ l) none ∙ append-nil lines) (tells_turns d blocks b i th lines t))

-- a process that waits since the slot began has made none
silent : (d : Parts) (blocks : ℕ → Bool) (b : State) → Apart d blocks b → (i : ℕ) (f : Fired) → MayOpen d blocks b i (Some f) → (th : Thread) (lines : List Line) → th ≡ opening blocks b i None → Tells d blocks b i th lines → lines ≡ []
silent d blocks b apart i f may th lines at t = by_input t.is.input refl
  where
    by_input : (o : Option Fired) → t.is.input ≡ o → lines ≡ []
    by_input None e =
        sym t.along ∙ ap (λ o. lines_along b.time i t.is.count (opening blocks b i o)) e
        ∙ lines_stay_from b.time i 0 t.is.count (opening blocks b i None) zero-le (ap is_stopped may.at)
    by_input (Some g) e =
        let may_g : MayOpen d blocks b i (Some g) = subst (MayOpen d blocks b i) e t.is.may in
        let same : slice_get b.store g.signal ≡ Some g.value =
        ap (λ (x : Thread). slice_get x.view g.signal) (sym at)
        ∙ unwritten d blocks b i g.signal th t.is (ap (λ (x : Thread). writes x g.signal) at)
        ∙ ap (λ o. slice_get (opening blocks b i o).view g.signal) e
        ∙ given_value d blocks b apart i g may_g in
        absurd (fired_changed d blocks b apart i g may_g same)

-- nor has it where it is fired
pub tells_fired : (d : Parts) (blocks : ℕ → Bool) (b : State) → Apart d blocks b → (i : ℕ) (old new : Thread) (lines : List Line) → IsFiredNow d blocks b i old new → Tells d blocks b i old lines → Tells d blocks b i new lines
tells_fired d blocks b apart i old new lines f t =
    subst (λ l. Tells d blocks b i new l) (sym (silent d blocks b apart i f.fired f.may old lines f.was t))
    (subst (λ x. Tells d blocks b i x []) (sym f.is) (record { is = fired_is d blocks b i f.fired f.may; along = refl }))

-- a thread that has stopped has made its lines in one way
pub one_telling : (d : Parts) (blocks : ℕ → Bool) (b : State) (store : Store) (th : ℕ → Thread) → Apart d blocks b → Stopped d blocks b store th → (i : ℕ) (lines more : List Line) →
    Tells d blocks b i (th i) lines → Tells d blocks b i (th i) more → lines ≡ more
one_telling d blocks b store th apart x i lines more t u = by_inputs t.is.input u.is.input refl refl
  where
    alike : t.is.input ≡ u.is.input → lines ≡ more
    alike same =
        let f = turn b.time i in
        let o = opening blocks b i u.is.input in
        let at_t : iterate t.is.count f o ≡ th i = ap (λ p. iterate t.is.count f (opening blocks b i p)) (sym same) ∙ t.is.is in
        let lines_t : lines_along b.time i t.is.count o ≡ lines = ap (λ p. lines_along b.time i t.is.count (opening blocks b i p)) (sym same) ∙ t.along in
        let still_t : is_stopped (iterate t.is.count f o).place ≡ true = ap (λ (z : Thread). is_stopped z.place) at_t ∙ x.still i in
        let still_u : is_stopped (iterate u.is.count f o).place ≡ true = ap (λ (z : Thread). is_stopped z.place) u.is.is ∙ x.still i in
        elim (cases_lt t.is.count u.is.count) [
          | inl lt ↦ sym lines_t ∙ sym (lines_stay_from b.time i t.is.count u.is.count o (le_of_lt lt) still_t) ∙ u.along
          | inr le ↦ sym lines_t ∙ lines_stay_from b.time i u.is.count t.is.count o le still_u ∙ u.along
        ]

    -- a thread that nothing fired, where something can fire it
    neither : (f : Fired) → MayOpen d blocks b i (Some f) → (is : IsThread d blocks b i (th i)) → is.input ≡ None → lines ≡ more
    neither f may is none =
        let at : th i ≡ opening blocks b i None = unmoved d blocks b i (th i) is none (ap is_timed may.at) in
        silent d blocks b apart i f may (th i) lines at t ∙ sym (silent d blocks b apart i f may (th i) more at u)

    by_inputs : (o p : Option Fired) → t.is.input ≡ o → u.is.input ≡ p → lines ≡ more
    by_inputs None None e g = alike (e ∙ sym g)
    by_inputs None (Some f) e g = neither f (subst (MayOpen d blocks b i) g u.is.may) t.is e
    by_inputs (Some f) None e g = neither f (subst (MayOpen d blocks b i) e t.is.may) u.is g
    by_inputs (Some f) (Some h) e g =
        let cf = subst (MayOpen d blocks b i) e t.is.may in
        let ch = subst (MayOpen d blocks b i) g u.is.may in
        let signal : f.signal ≡ h.signal = apart.keeps.fired_by_one i (opening blocks b i None) (opening blocks b i None) f h (ap is_timed cf.at) (thread_opens d blocks b i) (thread_opens d blocks b i) cf ch in
        let value : f.value ≡ h.value = same_some f.value h.value (sym (final_value d blocks b store th apart x i f cf) ∙ ap (slice_get store) signal ∙ final_value d blocks b store th apart x i h ch) in
        alike (e ∙ ap (λ z. Some z) (same_fired f h signal value) ∙ sym g)

-- so it is in a slot that begins as another one
tells_back : (d : Parts) (blocks : ℕ → Bool) (b c : State) (i : ℕ) (th : Thread) (lines : List Line) → Tells d blocks (begins_as b c) i th lines → Tells d blocks b i th lines
tells_back d blocks b c i th lines t = record {
  is = thread_from d blocks b c i th t.is;
  along = ap (λ o. lines_along b.time i t.is.count o) (sym (same_opening blocks b c i t.is.input)) ∙ t.along;
}

pub tells_alike : (d : Parts) (blocks : ℕ → Bool) (b c : State) → b.store ≡ c.store → b.places ≡ c.places → b.time ≡ c.time → (i : ℕ) (th : Thread) (lines : List Line) → Tells d blocks c i th lines → Tells d blocks b i th lines
tells_alike d blocks b c stores places times i th lines t =
    tells_back d blocks b c i th lines (subst (λ (s : State). Tells d blocks s i th lines)
    (ap (λ (s : Store). record c { store = s }) (sym stores) ∙ ap (λ (p : List Place). record c { store = b.store; places = p }) (sym places) ∙ ap (λ t. record c { store = b.store; places = b.places; time = t }) (sym times)) t)
