use Rattle.vs_drivers.proofs.wires.Wires.needed_once.Goals as goal

pub returns : goal.returns
returns c r = (λ h. (c.in_ok-ranges.ensures r).0 ((c.distinct.ensures r).0 h), λ h. (c.distinct.ensures r).1 ((c.in_ok-ranges.ensures r).1 h))
