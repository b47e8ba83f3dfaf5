-- What is written of a move, and which sink failed.
use Rattle.std.proofs.Common.{◌≡◌, ℕ, Bool, true, false, Option, List, [], ◌∷◌, ◌++◌, Result, Err, map, sym, ◌∙◌, ap, subst, inl, inr}
use Rattle.std.specs.Io.KnownBytes.{Appends}
use Rattle.vs_design.specs.Parts.{Parts}
use Rattle.vs_design.specs.Stores.{Store}
use Rattle.vs_design.specs.Traces.{Slot}
use Rattle.vs_run_active.specs.vs_process.specs.declared.moves.Move.{Move}
use Rattle.vs_run_active.specs.vs_process.specs.declared.moves.Move.TheVariants.{EndSlot}
use Rattle.vs_run_active.specs.vs_process.specs.Executions.{ended_slot, strobe_line}
use Rattle.vs_run_active.specs.vs_process.specs.States.{State}
use Rattle.vs_vcd_writing.specs.Progress.{Progress, is_write_fault, IsSlotAt, WritesPiece, vcd_slot}
use Rattle.vs_vcd_writing.specs.Sinks.{AppendsPart, failed_after}
use Rattle.vs_vcd_writing.specs.declared.fault.WriterFault.{WriterFault}
use Rattle.vs_vcd_writing.specs.declared.fault.WriterFault.TheVariants as fault
use Rattle.vs_vcd_writing.specs.Text.{vcd_slots}
use Rattle.vs_run_steps.specs.Failures.{OneFailed}
use Rattle.vs_run_steps.specs.Recording.{HasNoted}
use Rattle.vs_run_steps.proofs.Appending.{append_none, part_all}
use Rattle.vs_run_steps.specs.Slots.{AppendsSlots, AppendsSlotsPart}

-- the slot that a state ends
abbrev pub ended_here : State → Slot
ended_here s = record { time = s.time; store = s.store; lines = map (λ c. strobe_line c s.store s.time) s.calls }

-- a piece that wasn't written whole
pub part_failed : (cause : WriterFault) (old new : Option (List ℕ)) (piece : List ℕ) → WritesPiece {A = ℕ} (Err cause) old new piece → AppendsPart old new piece
part_failed fault.Memory old new piece h = (0, subst (λ (o : Option (List ℕ)). Appends old o []) (sym h) (append_none old))
part_failed fault.Write old new piece h = h

-- a slot that was written whole
pub slots_whole : (old new : Option (List ℕ)) (d : Parts) (before more : List Slot) → AppendsSlots old new d before more → AppendsSlotsPart old new d before more
slots_whole old new d before more h = (h.0, h.1, part_all old new h.0 h.2)

-- a slot that wasn't written whole
pub slot_failed : (fault : WriterFault) (writer : Option Progress) (old new : Option (List ℕ)) (now : State) (m : Move) (time : ℕ) (store : Store) → m ≡ EndSlot → time ≡ now.time → store ≡ now.store →
    ((d : Parts) (before : List Slot) (s : Slot) → HasNoted writer old d before → IsSlotAt s time store → WritesPiece {A = ℕ} (Err fault) old new (vcd_slot d before s)) →
    ((d : Parts) (before : List Slot) (s : Slot) → vcd_slots d (before ++ s ∷ []) ≡ vcd_slots d before ++ vcd_slot d before s) →
    (d : Parts) (before : List Slot) → HasNoted writer old d before → AppendsSlotsPart old new d before (ended_slot m now)
slot_failed fault writer old new now m time store ends here values bytes pieces d before h = (
  vcd_slot d before (ended_here now),
  ap (λ (l : Move). vcd_slots d (before ++ ended_slot l now)) ends ∙ pieces d before (ended_here now),
  part_failed fault old new (vcd_slot d before (ended_here now)) (bytes d before (ended_here now) h (record { time = sym here; values = sym values })),
)

-- the first sink failed, or none
pub first_failed : (b : Bool) (old new lold lnew : ℕ) → new ≡ failed_after b old → lnew ≡ lold → OneFailed b old new lold lnew
first_failed true old new lold lnew h k = inl (h, k)
first_failed false old new lold lnew h k = (h, k)

-- the second sink failed, or none
pub second_failed : (b : Bool) (old new lold lnew : ℕ) → new ≡ old → lnew ≡ failed_after b lold → OneFailed b old new lold lnew
second_failed true old new lold lnew h k = inr (h, k)
second_failed false old new lold lnew h k = (h, k)

-- the fault is handed on
pub failed_as : {A : Type 0} (r : Result A WriterFault) (e : WriterFault) (old new lold lnew : ℕ) → r ≡ Err e → OneFailed (is_write_fault {A = ℕ} (Err e)) old new lold lnew →
    OneFailed (is_write_fault r) old new lold lnew
failed_as {A} r fault.Memory old new lold lnew is h = subst (λ (q : Result A WriterFault). OneFailed (is_write_fault q) old new lold lnew) (sym is) h
failed_as {A} r fault.Write old new lold lnew is h = subst (λ (q : Result A WriterFault). OneFailed (is_write_fault q) old new lold lnew) (sym is) h

-- none failed before
pub failed_from : (b : Bool) (old mid new lold lmid lnew : ℕ) → mid ≡ old → lmid ≡ lold → OneFailed b mid new lmid lnew → OneFailed b old new lold lnew
failed_from b old mid new lold lmid lnew e f h = subst (λ (k : ℕ). OneFailed b k new lold lnew) e (subst (λ (k : ℕ). OneFailed b mid new k lnew) f h)
