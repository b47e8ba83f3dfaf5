-- What the value change dump of a trace says.
use Rattle.std.specs.Prelude.{ℕ, suc, ◌==◌, Option, Some, None, if◌then◌else◌, List, [], ◌∷◌, ◌++◌, slice_get}
use Rattle.std.specs.List.{flat_map}
use Rattle.vs_design.specs.declared.signal.Signal.{Signal}
use Rattle.vs_design.specs.declared.design.Entry.{Entry}
use Rattle.vs_design.specs.declared.design.Entry.TheVariants.{Enter, Declare, Leave}
use Rattle.vs_design.specs.Parts.{Parts}
use Rattle.vs_design.specs.Stores.{Store}
use Rattle.vs_design.specs.Traces.{Slot, Trace}
use Rattle.vs_vcd_writing.specs.Codes.{is_array, shown}
use Rattle.vs_vcd_writing.specs.Values.{shown_value}
use Rattle.vs_vcd_writing.specs.Text.{is_same, last_time, end_time}
use Rattle.vs_vcd_reader.specs.vs_vcd_lines.specs.declared.dump.ValueChange.{ValueChange}
use Rattle.vs_vcd_reader.specs.Plain.{PlainDeclaration, PlainDump, PlainMoment, PlainVariable}
use Rattle.vs_vcd_reader.specs.Plain.{PlainDeclaration as p}
use Rattle.vs_vcd_reader.specs.Layout.{moment_at}

-- ---- declarations

-- the variable that a signal is in a dump (clause 18.2.3)
abbrev pub variable_of : Signal → PlainVariable
variable_of s = record { kind = s.kind; width = s.width; name = s.name.items; range = s.range }

-- what a dump says of a signal: of an array nothing (profile)
abbrev pub said_of : Option Signal → List PlainDeclaration
said_of None = []
said_of (Some s) = if is_array s then [] else p.Variable (variable_of s) ∷ []

-- what it says of a line of the outline
abbrev pub said_by : Parts → Entry → List PlainDeclaration
said_by d (Enter kind name) = p.Scope kind name.items ∷ []
said_by d (Declare signal) = said_of (slice_get d.signals signal)
said_by d Leave = p.Upscope ∷ []

-- the scopes and variables of a design
abbrev pub declarations_of : Parts → List PlainDeclaration
declarations_of d = flat_map (said_by d) d.outline

-- ---- values

-- the value of a signal in a store, where its code has this number
abbrev pub value_in : Store → ℕ → ℕ → ValueChange
value_in store number signal = record { number = number; value = shown_value store signal }

-- the values of signals in a store, where the code of the first has this number
abbrev pub values_in : Store → ℕ → List ℕ → List ValueChange
values_in store number [] = []
values_in store number (s ∷ ss) = value_in store number s ∷ values_in store (suc number) ss

-- of these signals those whose values differ between two stores, with their values in the second
abbrev pub changes_in : Store → Store → ℕ → List ℕ → List ValueChange
changes_in before after number [] = []
changes_in before after number (s ∷ ss) =
    (if is_same before after s then [] else value_in after number s ∷ []) ++ changes_in before after (suc number) ss

-- ---- times

-- changes at a time; nothing where there are none
abbrev pub timed_changes : ℕ → List ValueChange → List PlainMoment
timed_changes time [] = []
timed_changes time (c ∷ cs) = moment_at time (c ∷ cs) ∷ []

-- the times of slots after one that ended with this store
abbrev pub moments_after : List ℕ → Store → List Slot → List PlainMoment
moments_after signals before [] = []
moments_after signals before (s ∷ ss) =
    timed_changes s.time (changes_in before s.store 0 signals) ++ moments_after signals s.store ss

-- the times of slots, the earliest first: every signal has a value at the first
abbrev pub moments_of : List ℕ → List Slot → List PlainMoment
moments_of signals [] = []
moments_of signals (s ∷ ss) = moment_at s.time (values_in s.store 0 signals) ∷ moments_after signals s.store ss

-- the end alone, unless it is the last time written
abbrev pub end_moments : Option ℕ → ℕ → List PlainMoment
end_moments None time = moment_at time [] ∷ []
end_moments (Some last) time = if last == time then [] else moment_at time [] ∷ []

-- ---- the whole

-- what a dump of these slots says, with these times after them
abbrev pub dump_with : Parts → List Slot → List PlainMoment → PlainDump
dump_with d slots ends = record {
  tick = d.timescale.precision;
  declarations = declarations_of d;
  moments = moments_of (shown d) slots ++ ends;
}

-- what the dump of a design's slots says, where it has no end
abbrev pub dump_begun : Parts → List Slot → PlainDump
dump_begun d slots = dump_with d slots []

-- what the dump of a design's trace to a moment says
abbrev pub dump_of : Parts → Trace → ℕ → PlainDump
dump_of d trace until = dump_with d trace.slots (end_moments (last_time (shown d) trace.slots) (end_time trace until))
