-- The text of a value change dump.
use Rattle.std.specs.Prelude.{ℕ, suc, ◌==◌, Bool, true, false, Option, Some, None, unwrap_or, if◌then◌else◌}
use Rattle.std.specs.Prelude.{List, [], ◌∷◌, ◌++◌, slice_get, codes, decimal}
use Rattle.std.specs.Fmt.{signed_decimal}
use Rattle.std.specs.List.{flat_map}
use Rattle.vs_design.specs.vs_logic4.specs.Vectors.{same_digits}
use Rattle.vs_design.specs.declared.timescale.Magnitude.{Magnitude}
use Rattle.vs_design.specs.declared.timescale.Magnitude.TheVariants.{One, Ten, Hundred}
use Rattle.vs_design.specs.declared.timescale.TimeUnit.{TimeUnit}
use Rattle.vs_design.specs.declared.timescale.TimeUnit.TheVariants.{Second, Millisecond, Microsecond, Nanosecond, Picosecond, Femtosecond}
use Rattle.vs_design.specs.declared.timescale.TimeSpan.{TimeSpan}
use Rattle.vs_design.specs.declared.signal.Signal.{Signal}
use Rattle.vs_design.specs.declared.signal.Bounds.{Bounds}
use Rattle.vs_design.specs.declared.signal.SignalKind.{SignalKind}
use Rattle.vs_design.specs.declared.signal.SignalKind.TheVariants.{Wire, Reg, Integer}
use Rattle.vs_design.specs.declared.design.ScopeKind.{ScopeKind}
use Rattle.vs_design.specs.declared.design.ScopeKind.TheVariants.{Module, Begin}
use Rattle.vs_design.specs.declared.design.Entry.{Entry}
use Rattle.vs_design.specs.declared.design.Entry.TheVariants.{Enter, Declare, Leave}
use Rattle.vs_design.specs.Parts.{Parts}
use Rattle.vs_design.specs.Stores.{Store}
use Rattle.vs_design.specs.Traces.{Slot, Trace}
use Rattle.vs_vcd_writing.specs.Codes.{code, shown, place_of}
use Rattle.vs_vcd_writing.specs.Values.{value_change, shown_value}

-- the text of these lines, each ended by a line feed
abbrev pub text_of : List (List ℕ) → List ℕ
text_of [] = []
text_of (l ∷ ls) = l ++ 10 ∷ text_of ls

-- ---- the header: scopes and signals in the order of the design's outline

-- how many of a unit (clause 18.2.3)
abbrev pub magnitude_word : Magnitude → List ℕ
magnitude_word One = codes "1"
magnitude_word Ten = codes "10"
magnitude_word Hundred = codes "100"

-- the word for a unit of time (clause 18.2.3)
abbrev pub unit_word : TimeUnit → List ℕ
unit_word Second = codes "s"
unit_word Millisecond = codes "ms"
unit_word Microsecond = codes "us"
unit_word Nanosecond = codes "ns"
unit_word Picosecond = codes "ps"
unit_word Femtosecond = codes "fs"

-- so many of a unit, as `10 ps` (clause 18.2.3; the space: profile)
abbrev pub span_text : TimeSpan → List ℕ
span_text span = magnitude_word span.magnitude ++ codes " " ++ unit_word span.unit

-- the time that a tick stands for: the precision of the design's time scale (clauses 18.2.3 and 19.8)
abbrev pub precision : Parts → List ℕ
precision d = span_text d.timescale.precision

-- the word for a scope's kind (clause 18.2.3)
abbrev pub scope_word : ScopeKind → List ℕ
scope_word Module = codes "module"
scope_word Begin = codes "begin"

-- the word for a signal's kind (clause 18.2.3)
abbrev pub kind_word : SignalKind → List ℕ
kind_word Wire = codes "wire"
kind_word Reg = codes "reg"
kind_word Integer = codes "integer"

-- the range of a signal's bits behind its name, as ` [3:0]` (clause 18.2.3); nothing where it was declared without one
abbrev pub range_text : Option Bounds → List ℕ
range_text None = []
range_text (Some b) = codes " [" ++ signed_decimal b.left ++ codes ":" ++ signed_decimal b.right ++ codes "]"

-- a signal's kind and its size in bits, as `reg 4` (clause 18.2.3)
abbrev pub shape_text : Signal → List ℕ
shape_text s = kind_word s.kind ++ codes " " ++ decimal s.width

-- the declaration of a signal whose code has this number (clause 18.2.3)
abbrev pub declaration : Signal → ℕ → List ℕ
declaration s number =
    codes "$var " ++ shape_text s ++ codes " " ++ code number ++ codes " " ++ s.name.items ++ range_text s.range ++ codes " $end"

-- the declaration of a signal; none where there is no such signal, or where it has no code
abbrev pub declared : Option Signal → Option ℕ → List (List ℕ)
declared None number = []
declared (Some s) None = []
declared (Some s) (Some number) = declaration s number ∷ []

-- the line that opens a scope (clause 18.2.3)
abbrev pub scope_line : ScopeKind → List ℕ → List ℕ
scope_line kind name = codes "$scope " ++ scope_word kind ++ codes " " ++ name ++ codes " $end"

-- the lines of one entry of the outline (clause 18.2.3): an array has none (profile)
abbrev pub entry_lines : Parts → Entry → List (List ℕ)
entry_lines d (Enter kind name) = scope_line kind name.items ∷ []
entry_lines d (Declare signal) = declared (slice_get d.signals signal) (place_of (shown d) signal)
entry_lines d Leave = codes "$upscope $end" ∷ []

-- the lines of an outline
abbrev pub outline_lines : Parts → List Entry → List (List ℕ)
outline_lines d outline = flat_map (entry_lines d) outline

-- the line that ends the header (clause 18.2.3)
abbrev pub end_of_definitions : List ℕ
end_of_definitions = codes "$enddefinitions $end"

-- the lines of the header (clause 18.2.1)
abbrev pub header_lines : Parts → List (List ℕ)
header_lines d = (codes "$timescale " ++ precision d ++ codes " $end") ∷ outline_lines d d.outline ++ end_of_definitions ∷ []

-- the header of a design's value change dump
abbrev pub vcd_header : Parts → List ℕ
vcd_header d = text_of (header_lines d)

-- ---- the body: the slots that ended, for the signals that are shown, in the order of their codes

-- the line of a time in ticks (clause 18.2.1)
abbrev pub time_line : ℕ → List ℕ
time_line time = 35 ∷ decimal time

-- the lines of signals one after another, where the code of the first has this number
abbrev pub coded_lines : (ℕ → ℕ → List (List ℕ)) → ℕ → List ℕ → List (List ℕ)
coded_lines lines number [] = []
coded_lines lines number (s ∷ ss) = lines number s ++ coded_lines lines (suc number) ss

-- the change of one signal, whose code has this number, to its value in a store
abbrev pub change_line : Store → ℕ → ℕ → List ℕ
change_line store number signal = value_change (shown_value store signal) (code number)

-- the value of one signal in a store
abbrev pub value_line : Store → ℕ → ℕ → List (List ℕ)
value_line store number signal = change_line store number signal ∷ []

-- the values of signals in a store
abbrev pub value_lines : Store → List ℕ → List (List ℕ)
value_lines store signals = coded_lines (value_line store) 0 signals

-- whether two stores show the same value of a signal
abbrev pub is_same : Store → Store → ℕ → Bool
is_same before after signal = same_digits (shown_value before signal) (shown_value after signal)

-- the change of one signal between two stores, where there is one
abbrev pub changed_line : Store → Store → ℕ → ℕ → List (List ℕ)
changed_line before after number signal = if is_same before after signal then [] else change_line after number signal ∷ []

-- the changes of signals between two stores
abbrev pub change_lines : Store → Store → List ℕ → List (List ℕ)
change_lines before after signals = coded_lines (changed_line before after) 0 signals

-- the first slot: its time, and the value of each signal (clause 18.1.2)
abbrev pub first_lines : List ℕ → ℕ → Store → List (List ℕ)
first_lines signals time store =
    time_line time ∷ codes "$dumpvars" ∷ value_lines store signals ++ codes "$end" ∷ []

-- changes under their time; nothing where there are none
abbrev pub timed : ℕ → List (List ℕ) → List (List ℕ)
timed time [] = []
timed time (l ∷ ls) = time_line time ∷ l ∷ ls

-- a slot after one that ended with the store `before`: its time, and the signals whose value is no longer that of the slot before
abbrev pub later_lines : List ℕ → Store → ℕ → Store → List (List ℕ)
later_lines signals before time store = timed time (change_lines before store signals)

-- the slots after one that ended with this store
abbrev pub lines_after : List ℕ → Store → List Slot → List (List ℕ)
lines_after signals before [] = []
lines_after signals before (s ∷ ss) = later_lines signals before s.time s.store ++ lines_after signals s.store ss

-- the lines of slots, the earliest first
abbrev pub slots_lines : List ℕ → List Slot → List (List ℕ)
slots_lines signals [] = []
slots_lines signals (s ∷ ss) = first_lines signals s.time s.store ++ lines_after signals s.store ss

-- the slots of a design's value change dump
abbrev pub vcd_slots : Parts → List Slot → List ℕ
vcd_slots d slots = text_of (slots_lines (shown d) slots)

-- ---- the end

-- whether there is a line
abbrev pub is_written : List (List ℕ) → Bool
is_written [] = false
is_written (l ∷ ls) = true

-- the last time written, with slots after one that ended with a store, where this time was written last before them
abbrev pub last_time_after : List ℕ → ℕ → Store → List Slot → ℕ
last_time_after signals time before [] = time
last_time_after signals time before (s ∷ ss) =
    last_time_after signals (if is_written (later_lines signals before s.time s.store) then s.time else time) s.store ss

-- the last time written, where there is one
abbrev pub last_time : List ℕ → List Slot → Option ℕ
last_time signals [] = None
last_time signals (s ∷ ss) = Some (last_time_after signals s.time s.store ss)

-- the time at the end, unless it is the last time written
abbrev pub end_lines : Option ℕ → ℕ → List (List ℕ)
end_lines None time = time_line time ∷ []
end_lines (Some last) time = if last == time then [] else time_line time ∷ []

-- the end of a value change dump of these slots
abbrev pub vcd_end : Parts → List Slot → ℕ → List ℕ
vcd_end d slots time = text_of (end_lines (last_time (shown d) slots) time)

-- the moment at which a trace ends: the time of `$finish`, else the moment asked for
abbrev pub end_time : Trace → ℕ → ℕ
end_time trace until = unwrap_or trace.finish until

-- the value change dump of a design's trace to a moment, in ticks (clause 18; the layout: profile)
abbrev pub vcd_text : Parts → Trace → ℕ → List ℕ
vcd_text d trace until =
    vcd_header d ++ vcd_slots d trace.slots ++ vcd_end d trace.slots (end_time trace until)
