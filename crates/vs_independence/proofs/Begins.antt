-- What is known where a slot begins.
use Rattle.std.proofs.Common.{◌≡◌, ℕ, zero, suc, ◌<◌, true, false, Option, Some, None, List, [], ◌∷◌, map, get_or, slice_get, refl, sym, ◌∙◌, ap, arith}
use Rattle.std.proofs.lemmas.Bool.{false≢true}
use Rattle.std.proofs.lemmas.Option.{none-some}
use Rattle.vs_design.specs.declared.design.Process.{Process}
use Rattle.vs_design.specs.Parts.{Parts}
use Rattle.vs_design.specs.WellFormed.{WellFormed}
use Rattle.vs_process.specs.declared.gait.Gait.{Gait}
use Rattle.vs_process.specs.Places.{Todo, Place, going, sleeping, inactive, waiting, ended, start_place, is_going}
use Rattle.vs_independence.specs.vs_process.specs.declared.moves.Grain.{Grain}
use Rattle.vs_independence.specs.vs_process.specs.declared.moves.Move.{Move}
use Rattle.vs_independence.specs.vs_process.specs.declared.moves.Move.TheVariants.{Step, Evaluate, Propagate, Make, Rouse, Activate, EndSlot}
use Rattle.vs_independence.specs.vs_process.specs.States.{start, roused, wakened, woken_at}
use Rattle.vs_independence.specs.vs_process.specs.Executions.{after as reached, Legal}
use Rattle.vs_independence.specs.vs_process.proofs.Idle.{after_sound}
use Rattle.vs_independence.specs.vs_process.proofs.Times.{enabled_of}
use Rattle.vs_independence.specs.Discipline.{IsAtStart}
use Rattle.vs_independence.proofs.InnerMoves.{at_end, all_idle}
use Rattle.vs_rules.specs.vs_process.proofs.Settle.{AllIdle}
use Rattle.vs_rules.specs.vs_process.proofs.Threads.{is_stopped}
use Rattle.vs_rules.specs.Claims.{Claims, blocks_of, IsBlock}
use Rattle.vs_rules.specs.Verdict.{Keeping}
use Rattle.vs_independence.proofs.Beginning.{Beginning, Placed, end_rests, first_beginning, placed_steady, start_placed}
use Rattle.vs_independence.proofs.Boundary.{IsSteady, holds_after}
use Rattle.vs_independence.proofs.Cones.{is_block}
use Rattle.vs_independence.proofs.RulesFire.{Begun}
use Rattle.vs_independence.proofs.Follow.{no_delay}
use Rattle.vs_independence.proofs.Shapes.{Shape, block_shape}

-- ---- a number past the end is of no process

absent_start : (ps : List Process) (i : ℕ) → slice_get ps i ≡ None → get_or (map (λ (p : Process). start_place p.body) ps) i ended ≡ ended
absent_start [] i h = refl
absent_start (p ∷ ps) zero h = absurd (none-some p (sym h))
absent_start (p ∷ ps) (suc i) h = absent_start ps i h

ended_steady : IsSteady (λ time p. p ≡ ended)
ended_steady = record {
  steps = λ time gait k store h. absurd (going_ended gait k h);
  rouses = λ time p h. ap roused h;
  wakes = λ time old new p h. ap (wakened old new) h;
  goes_on = λ time t p still up h. ap (woken_at t) h;
}
  where
    going_ended : (gait : Gait) (k : Todo) → going gait k ≡ ended → ⊥
    going_ended gait k e = cc e

-- ---- above time 0 nothing is left to do

idle_at_start : (grain : Grain) (d : Parts) (moves : List Move) → Legal grain d moves → IsAtStart moves → 0 < (reached d moves).time → AllIdle (reached d moves).assigns
idle_at_start grain d [] l a up = absurd (let no_way : 0 < 0 = up in omega (arith, no_way))
idle_at_start grain d (Step i ∷ moves) l a up = absurd a
idle_at_start grain d (Evaluate j ∷ moves) l a up = absurd a
idle_at_start grain d (Propagate j ∷ moves) l a up = absurd a
idle_at_start grain d (Make i ∷ moves) l a up = absurd a
idle_at_start grain d (Rouse ∷ moves) l a up = absurd a
idle_at_start grain d (Activate ∷ moves) l a up = absurd a
idle_at_start grain d (EndSlot ∷ moves) l a up = all_idle (reached d moves).assigns (at_end (reached d moves) (enabled_of grain d (reached d moves) EndSlot l.1).1).quiet.assigns

stopped_going : (p : Place) → is_stopped p ≡ true → is_going p ≡ false
stopped_going (going gait k) h = absurd (false≢true h)
stopped_going (inactive k) h = refl
stopped_going (sleeping due k) h = refl
stopped_going (waiting terms k) h = refl
stopped_going ended h = refl

rest_at_start : (grain : Grain) (d : Parts) (c : Claims) (k : ℕ) → Shape d k → (moves : List Move) → Legal grain d moves → IsAtStart moves → 0 < (reached d moves).time → is_going (get_or (reached d moves).places k ended) ≡ false
rest_at_start grain d c k s [] l a up = absurd (let no_way : 0 < 0 = up in omega (arith, no_way))
rest_at_start grain d c k s (Step i ∷ moves) l a up = absurd a
rest_at_start grain d c k s (Evaluate j ∷ moves) l a up = absurd a
rest_at_start grain d c k s (Propagate j ∷ moves) l a up = absurd a
rest_at_start grain d c k s (Make i ∷ moves) l a up = absurd a
rest_at_start grain d c k s (Rouse ∷ moves) l a up = absurd a
rest_at_start grain d c k s (Activate ∷ moves) l a up = absurd a
rest_at_start grain d c k s (EndSlot ∷ moves) l a up =
    stopped_going (get_or (reached d (EndSlot ∷ moves)).places k ended)
    (end_rests d k (reached d moves) (at_end (reached d moves) (enabled_of grain d (reached d moves) EndSlot l.1).1)
    (holds_after grain d (Placed d k) (placed_steady d k (λ t l number ticks p g. no_delay d k s t l number ticks p g)) k (start_placed d c k) moves l.0))

-- a block has a text
block_text : (d : Parts) (c : Claims) (k : ℕ) → IsBlock d c k → (p : Process) × (slice_get d.processes k ≡ Some p)
block_text d c k blk = by_process (slice_get d.processes k) refl
  where
    by_process : (o : Option Process) → slice_get d.processes k ≡ o → (p : Process) × (slice_get d.processes k ≡ Some p)
    by_process (Some p) is = (p, is)
    by_process None is = absurd (none-some _ (sym (ap (Rattle.vs_rules.specs.Claims.kind_for c) is) ∙ blk.1))

pub shape_at : (d : Parts) (c : Claims) → Keeping d c → (k : ℕ) → blocks_of d c k ≡ true → Shape d k
shape_at d c r k blk = let b = is_block d c k blk in let p = block_text d c k b in block_shape d c k p.0 (r.blocks k) b p.1

-- what is known where a slot begins, but for where its processes stand
pub begun_at : (grain : Grain) (d : Parts) (c : Claims) → WellFormed d → Keeping d c → (moves : List Move) → Legal grain d moves → IsAtStart moves → Beginning d c (reached d moves) → Begun d c (reached d moves)
begun_at grain d c formed r moves l at_start begin = record {
  formed = formed;
  rules = r;
  begin = begin;
  absent = λ i none. holds_after grain d (λ time p. p ≡ ended) ended_steady i (absent_start d.processes i none) moves l;
  assigns = (after_sound d formed moves).assigns;
  idle = idle_at_start grain d moves l at_start;
  rest = λ k blk. rest_at_start grain d c k (shape_at d c r k blk) moves l at_start;
}

-- so it is of the first slot
pub first_begun : (grain : Grain) (d : Parts) (c : Claims) → WellFormed d → Keeping d c → Begun d c (start d)
first_begun grain d c formed r = begun_at grain d c formed r [] tt tt (first_beginning d c)
