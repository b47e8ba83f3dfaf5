use Rattle.std.proofs.Common.{◌*◌, subst, arith}
use Rattle.std.proofs.lemmas.Bool.{false≢true}
use Rattle.std.proofs.lemmas.Bool.Decides.{Decides-ltb}
use Rattle.vs_vcd_lines.specs.Beginnings.{Reaches}
use Rattle.vs_vcd_lines.proofs.BeginningsNumberLemmas.{first_span, next_span, no_zero_reach, reach_told}
use Rattle.vs_vcd_lines.proofs.times.reaches.Goals as goal

pub returns-then-number-eq0 : goal.returns-then-number-eq0
returns-then-number-eq0 c =
    (λ e. absurd (false≢true e), λ h. absurd (no_zero_reach c.args.last (subst (λ n. Reaches n c.args.last) c.if-number-eq0.true h)))

pub loop-low-init : goal.loop-low-init
loop-low-init c = record { span = first_span c.args.number (omega (arith, c.if-number-eq0.false)); small = omega arith }

pub loop-low-preserved : goal.loop-low-preserved
loop-low-preserved c =
    let low = c.loop-low.low in
    let high = c.loop-low.high in
    let h = c.loop-low.invariant.span in
    let least = h.least in
    let test = c.loop-low-test.true in
    let most = c.stretched-high.ensures.most (10 * low) (omega (arith, test)) (omega (arith, least)) in
    record {
      span = next_span c.args.number low high (low * 10) c.stretched-high.result (omega arith) h c.stretched-high.ensures.grows (omega (arith, most))
          c.stretched-high.ensures.bound c.stretched-high.ensures.most;
      small = c.stretched-high.ensures.small;
    }

pub returns : goal.returns
returns c =
    let d = Decides-ltb c.args.last c.loop-low.high in
    let r = reach_told c.args.number c.loop-low.low c.loop-low.high c.args.last c.loop-low.invariant.span (omega arith) c.loop-low.invariant.small
    (omega (arith, c.loop-low-test.false)) in
    (λ e. r.0 (d.0 e), λ h. d.1 (r.1 h))
