-- Two executions whose dumps show different values, or of which `$strobe` prints different rows, have different traces.
use Rattle.std.proofs.Common.{◌≡◌, ◌∙◌, ℕ, List, subst, sym}
use Rattle.vs_design.specs.vs_logic4.specs.declared.digit.Digit.{Digit}
use Rattle.vs_design.specs.Parts.{Parts}
use Rattle.vs_design.specs.Traces.{SameTrace}
use Rattle.vs_independence.specs.vs_process.specs.declared.moves.Grain.{Grain}
use Rattle.vs_independence.specs.vs_process.specs.Executions.{trace}
use Rattle.vs_vcd_reader.specs.vs_vcd_writing.specs.Shown.{Shows, ShowsOne}
use Rattle.vs_vcd_reader.specs.vs_vcd_writing.specs.Text.{vcd_text}
use Rattle.vs_independence.specs.Discipline.{Independent}
use Rattle.vs_sign_off.specs.vs_simulate.specs.Honesty.{Defines}
use Rattle.vs_sign_off.proofs.CertifiedLemmas.{legal_at}
use Rattle.vs_sign_off.proofs.TraceLemmas.{text_same}
use Rattle.vs_sign_off.specs.Strobes.{SameTracesPrintRowsAsOften}
use Rattle.vs_sign_off.specs.declared.witness.LineWitness.{LineWitness}
use Rattle.vs_sign_off.specs.declared.witness.Witness.{Witness}
use Rattle.vs_sign_off.specs.Witnesses.{Gives, IsLineWitness, IsWitness}
use Rattle.vs_sign_off.specs.Races.{IsLineRace, IsRace}

differ : (d : Parts) (time signal : ℕ) (a b : List Digit) → ShowsOne → (one : Gives d time signal a) (other : Gives d time signal b) → (a ≡ b → ⊥) →
    SameTrace (trace d one.moves time) (trace d other.moves time) → ⊥
differ d time signal a b law one other unequal same =
    unequal
    (law (vcd_text d (trace d other.moves time) time) d time signal a b
    (subst (λ (t : List ℕ). Shows t d time signal a) (text_same d time (trace d one.moves time) (trace d other.moves time) same) one.shows) other.shows)

-- so a witness is a race
pub race_of : (source top : List ℕ) (d : Parts) (w : Witness) → ShowsOne → Defines source top d → IsWitness d w → IsRace source top w
race_of source top d w law defined is =
    let apart : SameTrace (trace d is.first.moves w.time) (trace d is.other.moves w.time) → ⊥ =
    differ d w.time w.signal w.first w.other law is.first is.other is.unequal in
    record {
      design = d;
      defined = defined;
      witness = is;
      traces = apart;
      dependent = λ grain independent.
          apart
          (independent w.time is.first.moves is.other.moves (legal_at grain d is.first.moves is.first.statement is.first.block)
          (legal_at grain d is.other.moves is.other.statement is.other.block) is.first.complete is.other.complete);
    }

-- and so is one in what `$strobe` prints
pub line_race_of : (source top : List ℕ) (d : Parts) (w : LineWitness) → SameTracesPrintRowsAsOften → Defines source top d → IsLineWitness d w →
    IsLineRace source top w
line_race_of source top d w law defined is =
    let apart : SameTrace (trace d is.first.moves w.time) (trace d is.other.moves w.time) → ⊥ =
    λ same. is.unequal (sym is.first.prints ∙ law d w.time is.first.moves is.other.moves same w.row.items ∙ is.other.prints) in
    record {
      design = d;
      defined = defined;
      witness = is;
      traces = apart;
      dependent = λ grain independent.
          apart
          (independent w.time is.first.moves is.other.moves (legal_at grain d is.first.moves is.first.statement is.first.block)
          (legal_at grain d is.other.moves is.other.statement is.other.block) is.first.complete is.other.complete);
    }
