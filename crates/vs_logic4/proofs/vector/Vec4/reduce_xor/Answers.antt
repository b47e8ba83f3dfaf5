use Rattle.std.proofs.Common.{◌∙◌}
use Rattle.vs_logic4.proofs.Comparisons.{reduced_xor_unknown, reduced_xor_parity}
use Rattle.vs_logic4.proofs.vector.Vec4.reduce_xor.Goals as goal

pub returns-then-self-eq0 : goal.returns-then-self-eq0
returns-then-self-eq0 c =
    c.from_test.ensures ∙ reduced_xor_parity c.self.invariant c.self.view_is c.if-self-eq0.true

pub returns-else-self-eq0 : goal.returns-else-self-eq0
returns-else-self-eq0 c = reduced_xor_unknown c.self.invariant c.self.view_is c.if-self-eq0.false
