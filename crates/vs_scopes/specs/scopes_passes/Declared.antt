-- What the functions answer that look for what items say of names.
use Rattle.std.specs.Prelude.{◌≡◌, ℕ, Bool, List, Option, Some, None, if◌then◌else◌}
use Rattle.std.specs.Option.{option_map}
use Rattle.std.specs.Borrow.{Bor}
use Rattle.std.specs.declared.vec.Vec.{Vec}
use Rattle.std.specs.declared.alloc.Global.{Global}
use Rattle.vs_syntax.specs.declared.tree.Form.{Form}
use Rattle.vs_syntax.specs.declared.tree.Range.{Range}
use Rattle.vs_syntax.specs.declared.tree.PortForm.{PortForm}
use Rattle.vs_scopes.specs.Pieces.{Piece}
use Rattle.vs_scopes.specs.vs_widths.specs.Names.{meaning_of}
use Rattle.vs_scopes.specs.declared.declared.KindSaid.{KindSaid as FoundSaid}
use Rattle.vs_scopes.specs.Ports.{is_among, KindSaid, port_said, kind_said}
use Rattle.vs_scopes.specs.scopes_passes.Parts.{read_end}

-- the first of two values that is there
abbrev pub first_of : {A : Type 0} → Option A → Option A → Option A
first_of None y = y
first_of (Some x) y = Some x

-- names with these behind them that were not there
abbrev pub AddsNames : {V : Type 0} → List (List ℕ × V) → List (List ℕ × V) → List (List ℕ × V) → Type 0
AddsNames old new bs = (n : List ℕ) → meaning_of new n ≡ first_of (meaning_of old n) (meaning_of bs n)

-- what an item says of a port, where it is one of those that it declares
abbrev pub said_by : PortForm → List (Vec ℕ Global) → List ℕ → Option PortForm
said_by form ns n = if is_among n ns then Some form else None

-- a sign and a range
abbrev pub form_of : Bool → Option Range → Form
form_of signed range = record { signed = signed; range = range }

-- what a declaration says of a name, by what it refers to
abbrev pub read_kind : FoundSaid → KindSaid
read_kind x = record { kind = x.kind; form = form_of x.signed (read_end x.range); words = read_end x.words }

abbrev pub read_said : Option FoundSaid → Option KindSaid
read_said o = option_map read_kind o

-- what the first of some pieces says of each port by `input` or `output`
abbrev pub ArePortForms : List Piece → List (List ℕ × Bor PortForm) → Type 0
ArePortForms ps forms = (n : List ℕ) → read_end (meaning_of forms n) ≡ port_said ps n

-- what the first of some pieces declares each name as
abbrev pub AreKinds : List Piece → List (List ℕ × FoundSaid) → Type 0
AreKinds ps kinds = (n : List ℕ) → read_said (meaning_of kinds n) ≡ kind_said ps n
