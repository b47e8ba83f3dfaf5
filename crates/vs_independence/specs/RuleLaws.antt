-- What the rules are for.
use Rattle.std.specs.Prelude.{◌+◌, ◌*◌, ◌%◌, ◌<◌, ◌≡◌, ◌⊎◌, ℕ, not, true, Option, Some, List, ◌∷◌}
use Rattle.std.specs.List.{Contains}
use Rattle.vs_design.specs.vs_logic4.specs.declared.digit.Digit.{Digit}
use Rattle.vs_design.specs.vs_logic4.specs.declared.digit.Digit.TheVariants.{X}
use Rattle.vs_design.specs.vs_logic4.specs.Tables.{not_digit}
use Rattle.vs_design.specs.declared.range.BitRange.{BitRange}
use Rattle.vs_design.specs.Parts.{Parts}
use Rattle.vs_design.specs.WellFormed.{WellFormed}
use Rattle.vs_independence.specs.vs_process.specs.vs_eval.specs.Laws.{digit_of}
use Rattle.vs_independence.specs.vs_process.specs.declared.moves.Grain.{Grain}
use Rattle.vs_independence.specs.vs_process.specs.declared.moves.Grain.TheVariants.{Block}
use Rattle.vs_independence.specs.vs_process.specs.declared.moves.Move.{Move}
use Rattle.vs_independence.specs.vs_process.specs.declared.moves.Move.TheVariants.{EndSlot}
use Rattle.vs_independence.specs.vs_process.specs.Executions.{after, Legal, next_time}
use Rattle.vs_independence.specs.vs_process.specs.States.{State, start}
use Rattle.vs_independence.specs.Discipline.{BeginsSlot}
use Rattle.vs_rules.specs.vs_process.specs.Threads.{Thread, writes, IsTimed, IsEarly}
use Rattle.vs_rules.specs.Claims.{Claims, Kind, block, cold, sources, starter, HasStart, IsWide, IsWriter, IsRoot, kind_of, blocks_of}
use Rattle.vs_rules.specs.vs_process.specs.BlockDrivers as r
use Rattle.vs_rules.specs.vs_process.specs.BlockDrivers.{Roles, StartsCold, control, puts_into, puts_out, IsBlock as Follows, IsSource as IsFree, NamesSources, StartsMoved}
use Rattle.vs_independence.specs.Discipline.{Independent}
use Rattle.vs_independence.specs.Displays.{DisplaysAlike}
use Rattle.vs_rules.specs.Constants.{IsKnown, IsClock}
use Rattle.vs_rules.specs.Paths.{reads_of}
use Rattle.vs_rules.specs.vs_process.specs.Edges.{Copies, IsHeard}
use Rattle.vs_independence.specs.Discipline.{Leads, Reaches, KeepsApart}
use Rattle.vs_independence.specs.Discipline.{IsOrdered}
use Rattle.vs_rules.specs.Verdict.{Disciplined}

-- ---- times

-- a slot ends before the next one
abbrev pub TimeRises : Grain → Parts → Type 0
TimeRises grain d = (moves : List Move) (t : ℕ) → Legal grain d (EndSlot ∷ moves) → next_time (after d moves) ≡ Some t → (after d moves).time < t

-- ---- clocks

-- a clock of version 3 that was never set: where a slot begins it is x, and what turns it leaves it x
abbrev pub StaysUnset : Claims → State → ℕ → Digit → Type 0
StaysUnset c b root z = IsWide c × (z ≡ X) × (digit_of b.store root 0 0 ≡ Some X)

-- where the writer of a clock that is a root writes it, it gives it the clock's digit in phase, and the other known one half a period later; in
-- version 3 it may have never been set
abbrev pub ClockTurns : Parts → Claims → State → Type 0
ClockTurns d c b =
    (root w : ℕ) (by : Thread) (digit z : Digit) (offset half : ℕ) → IsTimed (blocks_of d c) b w by → IsWriter d c root w → writes by root ≡ true →
    IsRoot d c root → IsClock d c root digit offset half → digit_of by.view root 0 0 ≡ Some z →
    IsKnown digit × (StaysUnset c b root z
    ⊎ (((z ≡ digit) × (b.time % (2 * half) ≡ offset % (2 * half))) ⊎ ((z ≡ not_digit digit) × (b.time % (2 * half) ≡ (offset + half) % (2 * half)))))

-- ---- the static half

-- how a block starts, as the dynamic half has it
abbrev pub start_in : Option Kind → r.Start
start_in (Some (block sources)) = r.sources
start_in (Some (block starter)) = r.starter
start_in _ = r.cold

-- which processes are blocks; what each follows is what its text reads, arguments of calls left out
abbrev pub roles_of : Parts → Claims → Roles
roles_of d c = record { blocks = blocks_of d c; inputs = reads_of d; start = λ k. start_in (kind_of d c k) }

-- what the rules give the dynamic half of the theorem (the hypotheses of vs_independence over the widened designs)
pub record IsRuled (grain : Grain) (d : Parts) (c : Claims) : Type 0 where
  pub ordered : IsOrdered d (roles_of d c)
  pub edges : (v : ℕ) → IsHeard d (blocks_of d c) v → (root : ℕ) × Copies d root v × IsFree d (blocks_of d c) root
  pub grained : (k : ℕ) → blocks_of d c k ≡ true → grain ≡ Block
  pub follows : (k : ℕ) → blocks_of d c k ≡ true → Follows d (reads_of d k) k
  pub exclusive : (k l v : ℕ) → blocks_of d c k ≡ true → blocks_of d c l ≡ true → puts_out d k v ≡ true → puts_out d l v ≡ true → k ≡ l
  pub starts_cold : (k : ℕ) → HasStart d c k cold → StartsCold d k
  pub starts_by_sources : (k : ℕ) → HasStart d c k sources → NamesSources d (blocks_of d c) k
  pub starts_by_starter : (k : ℕ) → HasStart d c k starter → StartsMoved d (blocks_of d c) k
  pub unstarted : (k l : ℕ) (q r : BitRange) → HasStart d c k cold → Contains (control d k) q → HasStart d c l starter → puts_into d l r ≡ true →
      Leads d (blocks_of d c) q r → ⊥
  pub first : (i k u : ℕ) (r : BitRange) (th : Thread) → IsEarly (blocks_of d c) (start d) i th → blocks_of d c k ≡ true →
      Contains (control d k) r → writes th u ≡ true → Reaches d (blocks_of d c) u r → ⊥
  pub apart : (b : State) → BeginsSlot grain d b → KeepsApart d (blocks_of d c) b

abbrev pub RulesDiscipline : Type 0
RulesDiscipline = (grain : Grain) (d : Parts) (c : Claims) → WellFormed d → Disciplined d c → c.grain ≡ grain → IsRuled grain d c

-- in a well formed design that keeps the rules of its certificate the clocks turn in phase
abbrev pub ClocksTurn : Type 0
ClocksTurn = (grain : Grain) (d : Parts) (c : Claims) → WellFormed d → Disciplined d c → (b : State) → BeginsSlot grain d b → ClockTurns d c b

-- and its traces do not depend on the order of its steps
abbrev pub RulesMakeIndependent : Type 0
RulesMakeIndependent = (d : Parts) (c : Claims) → WellFormed d → Disciplined d c → Independent c.grain d

-- nor, where its certificate says so, do the lines, and their order, that a process of another kind than comb prints by `$display` in a slot
abbrev pub RulesMakeDisplaysAlike : Type 0
RulesMakeDisplaysAlike =
    (d : Parts) (c : Claims) → WellFormed d → Disciplined d c → c.displays ≡ true → DisplaysAlike c.grain d (λ i. not (blocks_of d c i))
