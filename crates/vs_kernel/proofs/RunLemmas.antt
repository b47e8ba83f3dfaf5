-- A run after moves.
use Rattle.std.proofs.Common.{◌≡◌, ℕ, zero, suc, ◌<◌, Bool, true, false, Option, List, [], ◌∷◌, ◌++◌, refl, sym, ◌∙◌, ap, subst, arith}
use Rattle.std.specs.declared.alloc.Global.{Global}
use Rattle.std.specs.declared.vec.Vec.{Vec}
use Rattle.std.specs.Io.KnownBytes.{Appends}
use Rattle.vs_design.specs.Parts.{Parts}
use Rattle.vs_run_regions.specs.vs_process.specs.declared.moves.Move.{Move}
use Rattle.vs_run_regions.specs.vs_process.specs.declared.moves.Move.TheVariants.{Step, EndSlot}
use Rattle.vs_run_regions.specs.vs_process.specs.Executions.{apply, move_lines}
use Rattle.vs_run_regions.specs.vs_process.specs.States.{State}
use Rattle.vs_run_active.specs.Taken.{AreTaken, step_text}
use Rattle.vs_run_steps.specs.declared.run.RunState.{RunState}
use Rattle.vs_run_steps.specs.Runs.{Agrees, IsRunOf, Plan, marks_of, plan_of, state_of}
use Rattle.vs_run_steps.proofs.RunsLemmas.{plan_in, plan_out}
use Rattle.vs_run_steps.proofs.TakingLemmas.{part_none}
use Rattle.vs_run_steps.specs.vs_run_active.specs.declared.queue.Queue.{Queue}
use Rattle.vs_run_steps.specs.Prints.{lines_text}
use Rattle.vs_run_steps.specs.Taken.{TakenPart}
use Rattle.vs_run_steps.specs.Turns.{AreMade, IsReached, is_silent}
use Rattle.vs_run_steps.proofs.Appending.{append_none, part_more}
use Rattle.vs_run_steps.proofs.MadeLemmas.{made_reached}
use Rattle.vs_run_steps.proofs.MoveLemmas.{silent_lines}
use Rattle.vs_run_steps.proofs.PrintsLemmas.{step_prints}
use Rattle.vs_run_active.specs.Changes.{MarkChanges}
use Rattle.vs_run_active.proofs.MarkingLemmas.{changes_more, changes_none}
use Rattle.vs_vcd_writing.specs.Sinks.{AppendsPart}
use Rattle.vs_run_regions.specs.declared.event.Event.{Event}
use Rattle.vs_run_regions.specs.declared.event.Event.TheVariants as e
use Rattle.vs_kernel.specs.Running.{IsActive, IsMade, IsSingle, move_of}

-- ---- a run of its design

pub own_run : {Q : Type 0} (d : Parts) (r : RunState Q) → IsRunOf d r → IsRunOf r.design.now r
own_run d r h = subst (λ (x : Parts). IsRunOf x r) (sym (ap (λ (p : Plan). p.design) h.1.agrees.plan)) h

pub run_of_own : {Q : Type 0} (d : Parts) (r new : RunState Q) → IsRunOf d r → IsRunOf r.design.now new → IsRunOf d new
run_of_own d r new h k = subst (λ (x : Parts). IsRunOf x new) (ap (λ (p : Plan). p.design) h.1.agrees.plan) k

-- ---- after moves

-- after a move a state is reached
pub reached_after : (d : Parts) (s t : State) (m : Move) → IsReached d s → t ≡ apply m s → IsReached d t
reached_after d s t m h made = (m ∷ h.0, ap (apply m) h.1 ∙ sym made)

-- a run after one move
pub run_after : {Q : Type 0} (d : Parts) (r new : RunState Q) (m : Move) → IsRunOf d r → Agrees (plan_of r).design (plan_of r).terms new → state_of new ≡ apply m (state_of r) → IsRunOf d new
run_after d r new m h agrees made =
    plan_out d r new h (record { reached = reached_after (plan_of r).design (state_of r) (state_of new) m (plan_in d r h).reached made; agrees = agrees })

-- after evaluations and updates
pub run_made : {Q : Type 0} (d : Parts) (r new : RunState Q) (n : ℕ) → IsRunOf d r → Agrees (plan_of r).design (plan_of r).terms new → AreMade n (state_of r) (state_of new) → IsRunOf d new
run_made d r new n h agrees made =
    plan_out d r new h (record { reached = made_reached (plan_of r).design n (state_of r) (state_of new) (plan_in d r h).reached made; agrees = agrees })

-- in the same state
pub run_same : {Q : Type 0} (d : Parts) (r new : RunState Q) → IsRunOf d r → Agrees (plan_of r).design (plan_of r).terms new → state_of new ≡ state_of r → IsRunOf d new
run_same d r new h agrees same = run_made d r new 0 h agrees same

-- after a move or none
pub either_run : {Q : Type 0} (d : Parts) (r new : RunState Q) (made : Bool) → IsRunOf d r → Agrees (plan_of r).design (plan_of r).terms new → (made ≡ true → AreMade 1 (state_of r) (state_of new)) →
    (made ≡ false → state_of new ≡ state_of r) → IsRunOf d new
either_run d r new true h agrees moved still = run_made d r new 1 h agrees (moved refl)
either_run d r new false h agrees moved still = run_same d r new h agrees (still refl)

-- ---- what the invariant of a run has no part in

-- the queue
pub queue_run : {Q : Type 0} (d : Parts) (r : RunState Q) (q : Queue) → IsRunOf d r → IsRunOf d (record r { watched = record r.watched { events = record r.watched.events { queue = q } } })
queue_run d r q h =
    let a = h.1.agrees in (
      h.0,
      record {
        reached = h.1.reached;
        agrees = record { store = a.store; watched = a.watched; rows = a.rows; kept = a.kept; signals = a.signals; counted = a.counted; scripts = a.scripts; plan = a.plan };
      },
    )

-- the marks
pub marks_run : {Q : Type 0} (d : Parts) (r : RunState Q) (marks : Vec ℕ Global) → IsRunOf d r → IsRunOf d (record r { watched = record r.watched { marks = marks } })
marks_run d r marks h =
    let a = h.1.agrees in (
      h.0,
      record {
        reached = h.1.reached;
        agrees = record { store = a.store; watched = a.watched; rows = a.rows; kept = a.kept; signals = a.signals; counted = a.counted; scripts = a.scripts; plan = a.plan };
      },
    )

-- an event is active in the same run
pub still_active : {Q : Type 0} (r t : RunState Q) → t ≡ r → (event : Event) → IsActive r event → IsActive t event
still_active {Q} r t same event h = subst (λ (x : RunState Q). IsActive x event) (sym same) h

-- a number that isn't 0
pub positive : (n : ℕ) → (n ≡ 0 → ⊥) → 0 < n
positive zero h = absurd (h refl)
positive (suc n) h = omega arith

-- ---- marks

-- what was marked of two runs, one after another; between them nothing changes
pub marks_then : {Q : Type 0} (a b mid c : RunState Q) → mid.watched.marks ≡ b.watched.marks → state_of mid ≡ state_of b → MarkChanges (marks_of a) (marks_of b) (state_of a).store (state_of b).store →
    MarkChanges (marks_of mid) (marks_of c) (state_of mid).store (state_of c).store → MarkChanges (marks_of a) (marks_of c) (state_of a).store (state_of c).store
marks_then a b mid c marks same first next =
    changes_more (marks_of a) (marks_of b) (marks_of c) (state_of a).store (state_of b).store (state_of c).store first
    (subst (λ (v : Vec ℕ Global). MarkChanges v.items (marks_of c) (state_of b).store (state_of c).store) marks
    (subst (λ (s : State). MarkChanges (marks_of mid) (marks_of c) s.store (state_of c).store) same next))

-- nothing is marked by moves that write nothing
pub marks_still : {Q : Type 0} (a b : RunState Q) → b.watched.marks ≡ a.watched.marks → (state_of b).store ≡ (state_of a).store → MarkChanges (marks_of a) (marks_of b) (state_of a).store (state_of b).store
marks_still a b marks store =
    subst (λ (v : Vec ℕ Global). MarkChanges (marks_of a) v.items (state_of a).store (state_of b).store) (sym marks)
    (subst (λ s. MarkChanges (marks_of a) (marks_of a) (state_of a).store s) (sym store) (changes_none (marks_of a) (state_of a).store))

-- ---- what a move prints

-- an event ends no slot
pub event_inner : {Q : Type 0} (r : RunState Q) (event : Event) → IsSingle event → move_of r event ≡ EndSlot → ⊥
event_inner r (e.Step i) single h = cc
event_inner r (e.Evaluate j) single h = cc
event_inner r (e.Propagate j) single h = cc
event_inner r (e.Group g) single h = absurd single
event_inner r (e.Make k) single h = cc
event_inner r e.Updates single h = absurd single

-- nothing, where it is an evaluation or an update
prints_nothing : (s : State) (m : Move) (known : Option (List ℕ)) → is_silent m ≡ true → Appends known known (lines_text (move_lines m s))
prints_nothing s m known silent = subst (λ l. Appends known known (lines_text l)) (sym (silent_lines s m silent)) (append_none known)

pub silent_made : (s t : State) (m : Move) (known : Option (List ℕ)) → is_silent m ≡ true → t ≡ apply m s → IsMade m s t known known
silent_made s t m known silent made = record { made = made; printed = prints_nothing s m known silent }

-- and nothing is a beginning of anything
pub prints_part : (s : State) (m : Move) (known : Option (List ℕ)) → AppendsPart known known (lines_text (move_lines m s))
prints_part s m known = part_none known (lines_text (move_lines m s))

-- one step of a process
pub one_taken : (n i : ℕ) (s t : State) (text : List ℕ) → n ≡ 1 → AreTaken n i s t text → (t ≡ apply (Step i) s) × (text ≡ step_text s i)
one_taken n i s t text one h =
    let all : AreTaken 1 i s t text = subst (λ (k : ℕ). AreTaken k i s t text) one h in (
      all.4 ∙ ap (apply (Step i)) all.2.0,
      all.5 ∙ ap (λ (l : List ℕ). l ++ step_text all.0 i) all.2.1 ∙ ap (λ (r : State). step_text r i) all.2.0,
    )

pub step_printed : (i : ℕ) (s : State) (old new : Option (List ℕ)) (text : List ℕ) → text ≡ step_text s i → Appends old new text → Appends old new (lines_text (move_lines (Step i) s))
step_printed i s old new text is h = subst (Appends old new) (is ∙ sym (step_prints s i)) h

-- one that failed
pub step_part : (i : ℕ) (s : State) (old new : Option (List ℕ)) → TakenPart 1 i s old new → AppendsPart old new (lines_text (move_lines (Step i) s))
step_part i s old new h =
    let none : h.taken ≡ 0 = omega (arith, h.within) in
    let all : AreTaken 0 i s h.last h.text = subst (λ (k : ℕ). AreTaken k i s h.last h.text) none h.all in
    let first : Appends old h.mid [] = subst (Appends old h.mid) all.1 h.printed in
    let part : AppendsPart h.mid new (step_text s i) = subst (λ (r : State). AppendsPart h.mid new (step_text r i)) all.0 h.part in
    subst (AppendsPart old new) (sym (step_prints s i)) (part_more old h.mid new [] (step_text s i) first part)
