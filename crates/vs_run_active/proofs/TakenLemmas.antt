-- Lemmas on steps of one process that are taken one after another.
use Rattle.std.proofs.Common.{◌≡◌, ℕ, zero, suc, ◌<◌, ◌||◌, Bool, true, false, Option, Some, None, List, [], ◌∷◌, ◌++◌, map, length, slice_get, refl, sym, ◌∙◌, ap}
use Rattle.std.specs.Prelude.{slice_set}
use Rattle.vs_design.specs.Stores.{put}
use Rattle.vs_design.specs.Writes.{Write}
use Rattle.vs_process.specs.vs_strobe.specs.Lines.{Format}
use Rattle.vs_process.specs.declared.gait.Gait.{Gait}
use Rattle.vs_process.specs.declared.gait.Gait.TheVariants.{Fresh, Woken, Inside}
use Rattle.vs_process.specs.Places.{Place, Todo, active_at, going, is_going, stepped_gait}
use Rattle.vs_process.specs.Scripts.{IsStep}
use Rattle.vs_process.specs.Steps.{Next, Out, goes, has_nothing}
use Rattle.vs_process.specs.Executions.{if_some}
use Rattle.vs_process.specs.States.{State, calls_after, performed, place_after_step, stepped, updates_after, wakened, written}
use Rattle.vs_design.specs.vs_logic4.proofs.Basics.{set_here, set_twice, or_none, or-true}
use Rattle.vs_run_active.specs.Taken.{AreTaken, left_by, line_at, placed, text_of_line}

-- ---- a list of which one element is set

set_after_map : {A : Type 0} (f : A → A) (xs : List A) (i : ℕ) (p q : A) → slice_set (map f (slice_set xs i p)) i q ≡ slice_set (map f xs) i q
set_after_map f [] i p q = refl
set_after_map f (x ∷ xs) zero p q = refl
set_after_map f (x ∷ xs) (suc i) p q = ap (λ l. f x ∷ l) (set_after_map f xs i p q)

-- ---- one step

pub gait_twice : (gait : Gait) → stepped_gait (stepped_gait gait) ≡ stepped_gait gait
gait_twice Fresh = refl
gait_twice Woken = refl
gait_twice Inside = refl

performed_by : (u : State) (i : ℕ) (p place : Place) (write : Option Write) (next : Next) (update : Option (ℕ × Write)) (call : Option Format) (line : Option (List ℕ)) (finish : Bool) →
    let out : Out = record { next = next; write = write; update = update; call = call; line = line; finish = finish } in
    performed (placed u i p) i place out ≡ placed (left_by u i out) i (place_after_step place u.time next)
performed_by u i p place None next update call line finish =
    let out : Out = record { next = next; write = None; update = update; call = call; line = line; finish = finish } in
    ap (λ (l : List Place). record (left_by u i out) { places = l }) (set_twice u.places i p (place_after_step place u.time next))
performed_by u i p place (Some w) next update call line finish =
    let out : Out = record { next = next; write = Some w; update = update; call = call; line = line; finish = finish } in
    ap (λ (l : List Place). record (left_by u i out) { places = l })
    (set_after_map (wakened u.store (put u.store w)) u.places i p (place_after_step place u.time next))

-- a step of a process leaves what comes of it, whatever place the process had in the state
pub performed_placed : (u : State) (i : ℕ) (p place : Place) (out : Out) →
    performed (placed u i p) i place out ≡ placed (left_by u i out) i (place_after_step place u.time out.next)
performed_placed u i p place out = performed_by u i p place out.write out.next out.update out.call out.line out.finish

active_going : (gait : Gait) (todo : Todo) → has_nothing todo ≡ false → active_at gait todo ≡ going gait todo
active_going gait [] h = absurd (cc)
active_going gait (x ∷ rest) h = refl

-- one more step of a process, of which this comes
pub taken_more : (n i : ℕ) (s u : State) (gait : Gait) (todo : Todo) (out : Out) (before : List ℕ) → AreTaken n i s (placed u i (active_at gait todo)) before → i < length u.places →
    IsStep todo u.store u.time out → AreTaken (suc n) i s (placed (left_by u i out) i (place_after_step (going gait todo) u.time out.next)) (before ++ text_of_line out.line)
taken_more n i s u gait todo out before taken within is =
    let mid : State = placed u i (active_at gait todo) in
    let here : slice_get mid.places i ≡ Some (going gait todo) = set_here u.places i (active_at gait todo) within ∙ ap Some (active_going gait todo is.some) in (
      mid,
      before,
      taken,
      ap (if_some is_going) here,
      sym
          (ap (stepped mid i) here
          ∙ ap (performed mid i (going gait todo)) is.out
          ∙ performed_placed u i (active_at gait todo) (going gait todo) out),
      ap (λ (t : List ℕ). before ++ t) (sym (ap (λ (o : Option Place). text_of_line (line_at mid o)) here ∙ ap (λ (o : Out). text_of_line o.line) is.out)),
    )

-- at the start none are taken, and the process stands where it is
pub taken_none : (i : ℕ) (s : State) (place : Place) → slice_get s.places i ≡ Some place → AreTaken 0 i s (placed s i place) []
taken_none i s place here = (ap (λ (l : List Place). record s { places = l }) (set_same s.places i place here), refl) where
  set_same : (xs : List Place) (k : ℕ) (x : Place) → slice_get xs k ≡ Some x → slice_set xs k x ≡ xs
  set_same [] k x h = refl
  set_same (y ∷ ys) zero x h = cc
  set_same (y ∷ ys) (suc k) x h = ap (λ l. y ∷ l) (set_same ys k x h)

-- ---- what a step leaves, by what comes of it

pub left_nothing : (u : State) (i : ℕ) (next : Next) → left_by u i (goes next) ≡ u
left_nothing u i next = ap (λ (b : Bool). record u { finishing = b }) (or_none u.finishing)

pub left_write : (u : State) (i : ℕ) (next : Next) (w : Write) → left_by u i (record (goes next) { write = Some w }) ≡ written u w
left_write u i next w = ap (λ (b : Bool). record (written u w) { finishing = b }) (or_none u.finishing)

pub left_update : (u : State) (i : ℕ) (next : Next) (ticks : ℕ) (w : Write) →
    left_by u i (record (goes next) { update = Some (ticks, w) }) ≡ record u { updates = updates_after i u.time (Some (ticks, w)) u.updates }
left_update u i next ticks w = ap (λ (b : Bool). record u { updates = updates_after i u.time (Some (ticks, w)) u.updates; finishing = b }) (or_none u.finishing)

pub left_line : (u : State) (i : ℕ) (next : Next) (text : List ℕ) → left_by u i (record (goes next) { line = Some text }) ≡ u
left_line u i next text = ap (λ (b : Bool). record u { finishing = b }) (or_none u.finishing)

pub left_call : (u : State) (i : ℕ) (next : Next) (format : Format) → left_by u i (record (goes next) { call = Some format }) ≡ record u { calls = calls_after i (Some format) u.calls }
left_call u i next format = ap (λ (b : Bool). record u { calls = calls_after i (Some format) u.calls; finishing = b }) (or_none u.finishing)

pub left_finish : (u : State) (i : ℕ) (next : Next) → left_by u i (record (goes next) { finish = true }) ≡ record u { finishing = true }
left_finish u i next = ap (λ (b : Bool). record u { finishing = b }) (or-true u.finishing)
