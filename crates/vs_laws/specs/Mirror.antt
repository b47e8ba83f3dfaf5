-- A design with a combinational block.
use Rattle.std.specs.Prelude.{[], ◌∷◌, ◌≡◌, true}
use Rattle.std.specs.declared.alloc.Global.{Global}
use Rattle.std.specs.Prelude.{Vec}
use Rattle.std.proofs.Common.{lit<, lit≤, refl}
use denote.RawPtr.{null_ptr}
use Rattle.vs_design.specs.vs_logic4.specs.declared.edge.Edge.TheVariants.{Any}
use Rattle.vs_design.specs.declared.signal.SignalKind.TheVariants.{Reg}
use Rattle.vs_design.specs.declared.design.Entry.TheVariants.{Enter, Declare, Leave}
use Rattle.vs_design.specs.declared.design.ProcessKind.TheVariants.{Always}
use Rattle.vs_design.specs.declared.design.ScopeKind.TheVariants.{Module}
use Rattle.vs_design.specs.declared.statement.EventTerm.{EventTerm}
use Rattle.vs_design.specs.declared.statement.Statement.{Statement}
use Rattle.vs_design.specs.declared.statement.Statement.TheVariants as y
use Rattle.vs_design.specs.Parts.{Parts}
use Rattle.vs_design.specs.Uses.{whole}
use Rattle.vs_design.specs.WellFormed.{WellFormed}
use Rattle.vs_independence.specs.vs_process.specs.declared.moves.Grain.TheVariants.{Block}
use Rattle.vs_independence.specs.Discipline.{Disciplined, Independent}
use Rattle.vs_laws.specs.Race.{bit, boxed, letter, name, nanosecond, operand, target}

-- one value in a list
abbrev pub one_of : {A : Type 0} → Global → A → Vec A Global
one_of g x = record { ptr = null_ptr; len = 1; cap = 1; alloc = g; items = x ∷ []; ok = (refl, lit≤ tt); small = lit< tt }

-- `a`, where a change of it is waited for
abbrev pub change : EventTerm
change = record { edge = Any; range = whole 0 }

-- `y = a`
abbrev pub copied : Global → Statement
copied g = y.Assign 2 (target g 1) (operand 0)

-- `@(a) y = a`
abbrev pub watched : Global → Statement
watched g = y.Event 1 (one_of g change) (boxed g (copied g))

-- `always @(a) y = a`
abbrev pub watching : Global → Statement
watching g = y.Forever 0 (boxed g (watched g))

-- `module t; reg a; reg y; always @(a) y = a; endmodule`
abbrev pub mirroring : Global → Parts
mirroring g = record {
  timescale = record { unit = nanosecond; precision = nanosecond };
  signals = bit g 97 Reg ∷ bit g 121 Reg ∷ [];
  assigns = [];
  processes = record { name = name g 116 35 112 48; kind = Always; body = watching g } ∷ [];
  outline = Enter Module (letter g 116) ∷ Declare 0 ∷ Declare 1 ∷ Leave ∷ [];
}

-- a well formed design with a combinational block is disciplined at grain block, and so independent
abbrev pub ABlockIsDisciplined : Type 0
ABlockIsDisciplined =
    (g : Global) → WellFormed (mirroring g) × (dis : Disciplined Block (mirroring g)) × (dis.roles.blocks 0 ≡ true) × Independent Block (mirroring g)
