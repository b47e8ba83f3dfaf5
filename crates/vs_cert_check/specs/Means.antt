-- What a yes means.
use Rattle.std.specs.Prelude.{◌≡◌, true, not}
use Rattle.vs_design.specs.Parts.{Parts}
use Rattle.vs_independence.specs.Discipline.{Independent}
use Rattle.vs_independence.specs.Displays.{DisplaysAlike}
use Rattle.vs_rules_of_starts.specs.vs_rules.specs.Claims.{Claims, blocks_of}
use Rattle.vs_cert_check.specs.declared.verdict.Verdict.{Verdict}
use Rattle.vs_cert_check.specs.declared.verdict.Verdict.TheVariants.{Yes, No}

-- of a design with its certificate: for every moment, all permitted executions at the certificate's grain that are complete to it have the same trace;
-- and where the certificate says so, each process of another kind than comb prints the same lines by `$display`, in the same order, in each slot
pub record IsIndependent (d : Parts) (c : Claims) : Type 0 where
  pub traces : Independent c.grain d
  pub lines : c.displays ≡ true → DisplaysAlike c.grain d (λ i. not (blocks_of d c i))

-- what a verdict means
abbrev pub Means : Parts → Claims → Verdict → Type 0
Means d c Yes = IsIndependent d c
Means d c (No number place) = Unit {0}
