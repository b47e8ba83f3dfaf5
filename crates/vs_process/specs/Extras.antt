-- What an instruction has beside its places.
use Rattle.std.specs.Prelude.{ℕ, Option, None, List, [], slice_get}
use Rattle.vs_strobe.specs.Lines.{Format}
use Rattle.vs_process.specs.declared.draft.Op.{Op}
use Rattle.vs_process.specs.declared.draft.Extra.{Extra}
use Rattle.vs_process.specs.declared.draft.Extra.TheVariants as x

-- the format of a call, where there is one
abbrev pub format_of : Extra → Option Format
format_of (x.Formats formats) = slice_get formats.items 0
format_of _ = None

-- the starts of the items of a `case`; of anything else there are none
abbrev pub starts_of : Extra → List ℕ
starts_of (x.Starts places) = places.items
starts_of _ = []

-- the same of an instruction
abbrev pub format_in : Op → Option Format
format_in op = format_of op.extra

abbrev pub starts_in : Op → List ℕ
starts_in op = starts_of op.extra
