-- What a step of a process says of its write, by its thread.
use Rattle.std.proofs.Common.{◌≡◌, ℕ, Bool, true, false, Some, None, slice_get, sym, ◌∙◌, ap, subst}
use Rattle.vs_design.specs.Parts.{Parts}
use Rattle.vs_design.specs.Stores.{is_changed}
use Rattle.vs_process.specs.Places.{Place, going, sleeping, inactive, waiting, ended, is_going, todo_of}
use Rattle.vs_process.specs.Steps.{step, Out}
use Rattle.vs_process.specs.Reads.{mute}
use Rattle.vs_independence.proofs.Running.{Apart, Running, agrees, reads_agree}
use Rattle.vs_process.specs.BlockDrivers.{IsSource}
use Rattle.vs_process.specs.Threads.{IsFiredBy, IsThread, MayOpen, opening, Thread, early_at, early_turn, log_after, place_reads, todo_reads, turn_at, turn, writes}
use Rattle.vs_process.specs.States.{State}
use Rattle.vs_design.specs.Writes.{Write, names}
use Rattle.std.proofs.lemmas.Bool.{false≢true}
use Rattle.std.proofs.lemmas.Option.{get_or_from_slice_get}
use Rattle.std.specs.List.{list_any}
use Rattle.vs_independence.proofs.Moves.{log_names}
use Rattle.vs_process.proofs.ThreadsNamed.{named}
use Rattle.vs_process.proofs.StepReads.{step_reads}
use Rattle.vs_process.proofs.Threads.{thread_opens, thread_turns, timed_input}
use Rattle.vs_process.proofs.ThreadLinks.{undriven_root}
use Rattle.vs_independence.proofs.History.{put_log, view_log}
use Rattle.vs_process.specs.Edges.{Copies, IsHeard, IsRoot}

pub record ThreadStep (d : Parts) (blocks : ℕ → Bool) (b s : State) (th : ℕ → Thread) (i : ℕ) (p : Place) : Type 0 where
  pub log : (turn b.time i (th i)).log ≡ log_after (th i).log (step (todo_of p) s.store s.time).write
  pub sources : (w : Write) → (step (todo_of p) s.store s.time).write ≡ Some w → (v : ℕ) → names w v ≡ true → IsSource d blocks v
  pub agree : (w : Write) → (step (todo_of p) s.store s.time).write ≡ Some w → (v : ℕ) → names w v ≡ true → slice_get s.store v ≡ slice_get (th i).view v
  pub turned : IsThread d blocks b i (turn b.time i (th i))
  pub view : (w : Write) → (step (todo_of p) s.store s.time).write ≡ Some w → (v : ℕ) → names w v ≡ true → slice_get (th i).view v ≡ slice_get (put_log b.store (th i).log) v
  pub early : early_turn b.time i (th i) ≡ turn b.time i (th i)

pub thread_step : (d : Parts) (blocks : ℕ → Bool) (b s : State) → Apart d blocks b → (th : ℕ → Thread) → Running d blocks b s th → (i : ℕ) → blocks i ≡ false → (p : Place) → slice_get s.places i ≡ Some p → is_going p ≡ true →
    ThreadStep d blocks b s th i p
thread_step d blocks b s apart th r i other (going gait todo) is h = record {
  log = log_is;
  sources = named_source;
  agree = λ w e v named. agrees d blocks b apart s.store th r.stands r.sources i v (named_source w e v named)
      (λ k wrote. apart.keeps.only i k v (turn b.time i (th i)) (th k) turned (r.stands k).is (in_log w e v named) wrote);
  turned = turned;
  view = λ w e v named. view_log d blocks b i (th i) (r.stands i).is v (unfired w e v named);
  early = ap (λ p. early_at b.time i p (th i)) here_is ∙ sym (ap (λ p. turn_at b.time i p (th i)) here_is);
}
  where
    here_is : (th i).place ≡ going gait todo
    here_is = sym (r.places i other) ∙ get_or_from_slice_get s.places i (going gait todo) ended is

    turned : IsThread d blocks b i (turn b.time i (th i))
    turned = thread_turns d blocks b i (th i) (r.stands i).is

    agree_reads : list_any (is_changed s.store (th i).view) (todo_reads todo) ≡ false
    agree_reads = subst (λ p. list_any (is_changed s.store (th i).view) (place_reads p) ≡ false) here_is (reads_agree d blocks b apart s.store s.assigns s.places th r.stands r.sound r.sources r.nets r.bare r.rests i)

    same_write : (step todo (th i).view b.time).write ≡ (step todo s.store s.time).write
    same_write = sym (ap (λ (out : Out). out.write) (step_reads s.store (th i).view todo s.time agree_reads ∙ ap (λ t. mute (step todo (th i).view t)) r.slot.time))

    log_is : (turn b.time i (th i)).log ≡ log_after (th i).log (step todo s.store s.time).write
    log_is = ap (λ p. (turn_at b.time i p (th i)).log) here_is ∙ ap (log_after (th i).log) same_write

    in_log : (w : Write) → (step todo s.store s.time).write ≡ Some w → (v : ℕ) → names w v ≡ true → writes (turn b.time i (th i)) v ≡ true
    in_log w e v named = ap (λ l. list_any (λ w. names w v) l) log_is ∙ log_names (th i).log (step todo s.store s.time).write w v e named

    named_source : (w : Write) → (step todo s.store s.time).write ≡ Some w → (v : ℕ) → names w v ≡ true → IsSource d blocks v
    named_source w e v named = apart.variables i v (turn b.time i (th i)) turned (in_log w e v named)

    -- what fired it, it doesn't write: a root is written by a process that nothing fires
    unfired : (w : Write) → (step todo s.store s.time).write ≡ Some w → (v : ℕ) → names w v ≡ true → IsFiredBy d blocks b i (th i) (r.stands i).is v → ⊥
    unfired w e v named (f, fired, own) =
        let may = subst (MayOpen d blocks b i) fired (r.stands i).is.may in
        let heard = subst (IsHeard d blocks) (may.fires.term ∙ own) (apart.heard i (opening blocks b i None) (thread_opens d blocks b i) may.terms may.todo may.at may.term may.is) in
        let copies = subst (Copies d may.fires.root) own may.fires.copies in
        let at_root : may.fires.root ≡ v = undriven_root d may.fires.root v copies (named_source w e v named).undriven in
        let root : IsRoot d blocks v = record { signal = v; heard = heard; copies = subst (λ r. Copies d r v) at_root copies } in
        let timed = apart.keeps.root_timed i v (turn b.time i (th i)) root turned (in_log w e v named) in
        let no_way : Some f ≡ None = sym fired ∙ timed_input d blocks b i (r.stands i).is.input (r.stands i).is.may timed in
        cc
thread_step d blocks b s apart th r i other (sleeping due todo) is h = absurd (false≢true h)
thread_step d blocks b s apart th r i other (inactive todo) is h = absurd (false≢true h)
thread_step d blocks b s apart th r i other (waiting terms todo) is h = absurd (false≢true h)
thread_step d blocks b s apart th r i other ended is h = absurd (false≢true h)
