-- What the processes of a slot that begins show is steady, where the certificate asks for it.
use Rattle.std.proofs.Common.{◌≡◌, true, refl, inr}
use Rattle.vs_design.specs.Parts.{Parts}
use Rattle.vs_independence.specs.vs_process.specs.States.{State}
use Rattle.vs_independence.specs.Displays.{ShowsApart}
use Rattle.vs_independence.proofs.Shown.{displays_alike}
use Rattle.vs_rules.specs.Claims.{Claims, blocks_of}
use Rattle.vs_independence.specs.RuleLaws.{ClockTurns, RulesMakeDisplaysAlike}
use Rattle.vs_independence.proofs.Apart.{reads_others, reads_own, reads_rested, reads_settled}
use Rattle.vs_independence.proofs.Cones.{ControlNames}
use Rattle.vs_independence.proofs.RulesFire.{Begun}
use Rattle.vs_independence.proofs.Phases.{clock_turns}
use Rattle.vs_independence.proofs.Ruled.{discipline, static_of}
use Rattle.vs_independence.proofs.Runs.{begun}
use Rattle.vs_independence.proofs.Shapes.{control_names}

shows_apart : (d : Parts) (c : Claims) (b : State) → Begun d c b → ClockTurns d c b → ControlNames d c → c.displays ≡ true → ShowsApart d (blocks_of d c) b
shows_apart d c b g clocks names displays i th is = record {
  others = λ k u r other that among wrote reach. reads_others d c b g clocks names i k u r th other is that (inr (displays, among)) wrote reach;
  own = λ u r among wrote reach. reads_own d c b g clocks names i u r th is (inr (displays, among)) wrote reach;
  settled = λ j u r x among at_j needs named reach. reads_settled d c b g clocks i j u r th x is (inr (displays, among)) at_j needs named reach;
  rested = λ k u r among blk goes puts reach. reads_rested d c b g clocks i k u r th is (inr (displays, among)) blk goes puts reach;
}

-- so what its processes print does not depend on the order of its steps
pub rules_make_displays_alike : RulesMakeDisplaysAlike
rules_make_displays_alike d c formed dis displays =
    let h = static_of c.grain d c formed dis refl in
    displays_alike c.grain d formed (discipline d c h)
    (λ b slot. shows_apart d c b (begun c.grain d c h b slot) (clock_turns c.grain d c formed h.rules h.up b slot) (control_names d c h.rules.blocks) displays)
