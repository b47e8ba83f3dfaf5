-- How a fault is told.
use Rattle.std.specs.Prelude.{ℕ, ◌+◌, ◌/◌, ◌%◌, ◌==◌, ◌||◌, Bool, nat_lt, List, [], ◌∷◌, ◌++◌, codes, if◌then◌else◌}
use Rattle.std.specs.List.{flat_map}
use Rattle.vs_scopes.specs.declared.faults.Reason.{Reason}
use Rattle.vs_scopes.specs.declared.faults.Reason.TheVariants.{NoModule, Inside, PortMismatch, ParameterMismatch, DeclaredTwice, DrivenTwice, Limit, Width, Endless, Unnamed, Timescales, Format}
use Rattle.vs_widths.specs.declared.faults.WidthReason.TheVariants.{TooWide, Unknown, NotConstant, WrongKind}
use Rattle.vs_strobe.specs.declared.fault.FormatReason.TheVariants.{BadDirective, TooFewArguments, TooManyArguments}
use Rattle.vs_scopes.specs.declared.faults.ElabFault.{ElabFault}
use Rattle.vs_scopes.specs.declared.faults.ElabFault.TheVariants.{Memory, At}

-- the number of a fault, as it is told (profile)
abbrev pub reason_text : Reason → List ℕ
reason_text NoModule = codes "E1"
reason_text Inside = codes "E2"
reason_text PortMismatch = codes "E3"
reason_text ParameterMismatch = codes "E4"
reason_text DeclaredTwice = codes "E5"
reason_text DrivenTwice = codes "E6"
reason_text Limit = codes "E7"
reason_text (Width TooWide) = codes "E8 X1"
reason_text (Width Unknown) = codes "E8 X2"
reason_text (Width NotConstant) = codes "E8 X3"
reason_text (Width WrongKind) = codes "E8 X4"
reason_text Endless = codes "E9"
reason_text Unnamed = codes "E10"
reason_text Timescales = codes "E11"
reason_text (Format BadDirective) = codes "E12 F1"
reason_text (Format TooFewArguments) = codes "E12 F2"
reason_text (Format TooManyArguments) = codes "E12 F3"

-- a byte that is no printed character of its own: below 32, and 127 (profile)
abbrev pub is_control : ℕ → Bool
is_control c = nat_lt c 32 || (c == 127)

-- a hexadecimal digit
abbrev pub hexadecimal : ℕ → ℕ
hexadecimal d = if nat_lt d 10 then 48 + d else 87 + d

-- a byte of a path as it is told: a control byte as a backslash, `x` and two hexadecimal digits, so that a fault is one line (profile)
abbrev pub shown_byte : ℕ → List ℕ
shown_byte c = if is_control c then 92 ∷ 120 ∷ hexadecimal (c / 16) ∷ hexadecimal (c % 16) ∷ [] else c ∷ []

-- a fault as it is told: its number and its path (profile)
abbrev pub fault_text : ElabFault → List ℕ
fault_text Memory = codes "memory"
fault_text (At reason path) = reason_text reason ++ codes " at " ++ flat_map shown_byte path.items
