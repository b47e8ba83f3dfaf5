-- A design whose combinational block writes two variables, one by way of the other, and its certificates.
use Rattle.std.specs.Prelude.{ℕ, Vec, ◌≡◌, false, Some, None, List, [], ◌∷◌, replicate}
use Rattle.std.specs.declared.alloc.Global.{Global}
use Rattle.std.proofs.Common.{lit<, lit≤, refl}
use denote.RawPtr.{null_ptr}
use Rattle.vs_design.specs.vs_logic4.specs.declared.digit.Digit.{Digit}
use Rattle.vs_design.specs.vs_logic4.specs.declared.digit.Digit.TheVariants.{Zero, One}
use Rattle.vs_design.specs.declared.signal.Signal.{Signal}
use Rattle.vs_design.specs.declared.signal.SignalKind.TheVariants.{Reg}
use Rattle.vs_design.specs.declared.design.Entry.TheVariants.{Enter, Declare, Leave}
use Rattle.vs_design.specs.declared.design.Process.{Process}
use Rattle.vs_design.specs.declared.design.ProcessKind.{ProcessKind}
use Rattle.vs_design.specs.declared.design.ProcessKind.TheVariants.{Initial, Always}
use Rattle.vs_design.specs.declared.design.ScopeKind.TheVariants.{Module}
use Rattle.vs_design.specs.declared.expression.Typed.TheVariants as e
use Rattle.vs_design.specs.declared.statement.Statement.{Statement}
use Rattle.vs_design.specs.declared.statement.Statement.TheVariants as y
use Rattle.vs_design.specs.Parts.{Parts}
use Rattle.vs_independence.specs.vs_process.specs.declared.moves.Grain.TheVariants.{Block}
use Rattle.vs_independence.specs.vs_process.specs.Examples.{mixer}
use Rattle.vs_laws.specs.Race.{bit, letter, name, nanosecond, path, target}
use Rattle.vs_rules.specs.Claims.{Name, Claims, SignalClaim, Start, starter, block, delays, combinational, nonblocking}
use Rattle.vs_laws.specs.Block.{no_ticks}
use Rattle.vs_laws.specs.Kept.{KeepsRules}

-- ---- the design

-- a variable of one bit of the module m, named by one letter
abbrev pub variable_in_m : Global → ℕ → Signal
variable_in_m g a = record (bit g a Reg) { path = path g 109 46 a }

-- a number of 32 bits, of its lowest bit
abbrev pub number_of : Digit → List Digit
number_of digit = digit ∷ replicate 31 Zero

-- `SIGNAL <= DIGIT`; the signal's number is the statement's
abbrev pub sets_later : Global → ℕ → Digit → Statement
sets_later g signal digit = y.Later signal no_ticks (target g signal) (e.Number (number_of digit))

-- three values in a list
abbrev pub three_of : {A : Type 0} → Global → A → A → A → Vec A Global
three_of g a b c = record { ptr = null_ptr; len = 3; cap = 3; alloc = g; items = a ∷ b ∷ c ∷ []; ok = (refl, lit≤ tt); small = lit< tt }

-- `begin a <= 1; b <= 1; c <= 0; end`
abbrev pub inputs_set : Global → Statement
inputs_set g = y.Block (three_of g (sets_later g 0 One) (sets_later g 1 One) (sets_later g 2 Zero))

-- a process of the module m, by the last character of its name
abbrev pub process_of_m : Global → ℕ → ProcessKind → Statement → Process
process_of_m g digit kind body = record { name = name g 109 35 112 digit; kind = kind; body = body }

-- `module m; reg a, b, c, t, y; initial begin a <= 1; b <= 1; c <= 0; end always @* begin t = a & b; y = t | c; end endmodule`
abbrev pub mixing : Global → Parts
mixing g = record {
  timescale = record { unit = nanosecond; precision = nanosecond };
  signals = variable_in_m g 97 ∷ variable_in_m g 98 ∷ variable_in_m g 99 ∷ variable_in_m g 116 ∷ variable_in_m g 121 ∷ [];
  assigns = [];
  processes = process_of_m g 48 Initial (inputs_set g) ∷ process_of_m g 49 Always (mixer g).body ∷ [];
  outline = Enter Module (letter g 109) ∷ Declare 0 ∷ Declare 1 ∷ Declare 2 ∷ Declare 3 ∷ Declare 4 ∷ Leave ∷ [];
}

-- ---- its certificates

-- `m.a` and so on, by the last character; `m#p0` and `m#p1`
abbrev pub signal_in_m : ℕ → Name
signal_in_m letter = 109 ∷ 46 ∷ letter ∷ []

abbrev pub process_in_m : ℕ → Name
process_in_m digit = 109 ∷ 35 ∷ 112 ∷ digit ∷ []

-- the entry of an input, which m#p0 writes by `<=`, and of a result of the block
abbrev pub input_claim : ℕ → SignalClaim
input_claim letter = record { name = signal_in_m letter; mode = nonblocking; writer = Some (process_in_m 48); second = None }

abbrev pub result_claim : ℕ → SignalClaim
result_claim letter = record { name = signal_in_m letter; mode = combinational; writer = Some (process_in_m 49); second = None }

-- m#p0 has no delay control; m#p1 is a block with this start
abbrev pub mixing_claims : Start → Claims
mixing_claims start = record {
  version = 1;
  displays = false;
  grain = Block;
  modulus = 1;
  edges = [];
  order = process_in_m 49 ∷ [];
  processes = record { name = process_in_m 48; kind = delays [] } ∷ record { name = process_in_m 49; kind = block start } ∷ [];
  signals = input_claim 97 ∷ input_claim 98 ∷ input_claim 99 ∷ result_claim 116 ∷ result_claim 121 ∷ [];
}

-- a design whose block reads a variable that it has written just before keeps the rules, whichever start a certificate of version 1 gives the block:
-- what else it waits for are sources, and a run on the initial state changes nothing
abbrev pub AMixerKeepsTheRules : Type 0
AMixerKeepsTheRules = (g : Global) (start : Start) → (start ≡ starter → ⊥) → KeepsRules (mixing g) (mixing_claims start)
