-- What statements give bits, as a checker asks it.
use Rattle.std.specs.Prelude.{ℕ, ◌≡◌, ◌↔◌, Option, Some, None, List}
use Rattle.vs_design.specs.vs_logic4.specs.declared.digit.Digit.{Digit}
use Rattle.vs_design.specs.declared.statement.Statement.{Statement}
use Rattle.vs_design.specs.declared.statement.Statement.TheViews.{out-Statement}
use Rattle.vs_process.specs.Stops.{Stop, stop_at, stop_statement, IsText}
use Rattle.vs_rules.specs.Paths.{Bit}
use Rattle.vs_rules.specs.Constants.{given_by, statement_assigns, Gives}
use Rattle.vs_slots_constants.specs.declared.constants.Bit as b

-- a bit, as it is told
abbrev pub bit_view : b.Bit → Bit
bit_view b = record { signal = b.signal; word = b.word; place = b.place }

-- the digit that a statement, where there is one, gives a bit
abbrev pub given_here : Option Statement → Bit → Option Digit
given_here None b = None
given_here (Some s) b = given_by (statement_assigns (out-Statement s)) b

-- what is given at a point is given by the statement at its place
abbrev pub GivesByPlaces : Type 0
GivesByPlaces = (body : Statement) (stops : List Stop) (start : ℕ) (t : IsText body stops start) (p : ℕ) (b : Bit) (digit : Digit) →
    (given_here (stop_statement (stop_at stops p)) b ≡ Some digit ↔ Gives (t.at p) b digit)
