-- The design that a source defines is that of a text.
use Rattle.std.proofs.Common.{ℕ, List}
use Rattle.vs_design.specs.Parts.{Parts}
use Rattle.vs_vcd_reader.specs.Outlined.{IsOfText}
use Rattle.vs_simulate.specs.Honesty.{Defines}

pub text_of : (bytes top : List ℕ) (d : Parts) → Defines bytes top d → IsOfText bytes top d
text_of bytes top d h = record {
  tokens = h.read.tokens;
  source = h.source;
  spelled = h.read.spelled;
  derived = h.read.derived;
  defined = h.defined;
}
