-- Where instructions lead that choose among several places.
use Rattle.std.specs.Prelude.{ℕ, zero, suc, List, get_or}
use Rattle.vs_design.specs.Stores.{Store}
use Rattle.vs_strobe.specs.vs_eval.specs.Values.{value_of}
use Rattle.vs_process.specs.declared.choice.Case.{Case}
use Rattle.vs_process.specs.declared.choice.Repeat.{Repeat}
use Rattle.vs_process.specs.declared.choice.Turns.{Turns}
use Rattle.vs_process.specs.Extras.{starts_in}
use Rattle.vs_process.specs.Landings.{Landing, start_taken, turned}
use Rattle.vs_process.specs.Steps.{turns_for}

-- the index of a place among so many instructions; the end is after the last one
abbrev pub index_of : ℕ → ℕ → ℕ
index_of count zero = count
index_of count (suc i) = i

-- the place to which a `case` leads (clause 9.5)
abbrev pub case_place : Case → Store → ℕ → ℕ
case_place c store time =
    start_taken c.kind (value_of c.e.now store time) store time c.items.now (starts_in c.op.now) c.op.now.behind

abbrev pub case_index : Case → Store → ℕ → ℕ
case_index c store time = index_of c.count (case_place c store time)

-- where a `repeat` leads that reads its count (clause 9.6)
abbrev pub repeat_lands : Repeat → List ℕ → Store → ℕ → Landing
repeat_lands r counters store time = turned (turns_for r.signed (value_of r.e.now store time)) r.op.now counters

-- where a `repeat` leads that has its count
abbrev pub turns_lands : Turns → List ℕ → Landing
turns_lands t counters = turned (get_or counters t.op.now.counter 0) t.op.now counters
