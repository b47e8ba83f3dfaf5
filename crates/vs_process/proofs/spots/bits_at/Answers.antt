use Rattle.std.proofs.Common.{◌≡◌, ◌∙◌, List, Some, ap, sym, rules, arith}
use Rattle.std.specs.Prelude.{slice_get}
use Rattle.vs_design.specs.declared.signal.Signal.{Signal}
use Rattle.vs_process.proofs.SpotLemmas.{found_there}
use Rattle.vs_process.proofs.spots.bits_at.Goals as goal

pub returns-clause-inside : goal.returns-clause-inside
returns-clause-inside c =
    let at : slice_get c.args.design.now.signals c.args.s.signal ≡ Some c.in_ok-signal.signal.now =
    ap (λ (ss : List Signal). slice_get ss c.args.s.signal) (sym c.signals.ensures)
    ∙ found_there c.signals.result.now c.args.s.signal c.in_ok-signal.signal.now c.in_ok-signal.ensures.lookup.0 c.in_ok-signal.ensures.lookup.1 in
    record {
      declared = c.in_ok-signal.signal.now;
      at = at;
      below = omega (arith, c.if-s-signal.false);
      numbered = first_of (omega (arith, c.in_ok-index.ensures, c.in_ok-first.ensures), grind (arith, c.in_ok-index.ensures, c.in_ok-first.ensures));
      inside = first_of (omega (arith, c.if-shift-s.false), search rules);
      masked = c.mask_of-mask.ensures;
    }
