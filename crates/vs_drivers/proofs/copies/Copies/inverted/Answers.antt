use Rattle.std.proofs.Common.{ℕ, true, false, Option, List, sym, subst}
use Rattle.vs_slots_constants.specs.Inverted.{AreInverted}
use Rattle.vs_drivers.specs.Copies.{AreSources}
use Rattle.vs_drivers.proofs.InverseLemmas.{none_inverted}
use Rattle.vs_drivers.proofs.copies.Copies.inverted.Goals as goal

pub inverted_of-requires-clause-sources : goal.inverted_of-requires-clause-sources
inverted_of-requires-clause-sources c = subst (λ (l : List (Option ℕ)). AreSources c.self.inside.design.now false l) (sym c.deref.ensures.value) c.self.invariant.0

pub inverted_of-requires-clause-inverses : goal.inverted_of-requires-clause-inverses
inverted_of-requires-clause-inverses c = subst (λ (l : List (Option ℕ)). AreSources c.self.inside.design.now true l) (sym c.deref-then-wide.ensures.value) c.self.invariant.1

pub returns-else-wide : goal.returns-else-wide
returns-else-wide c = subst (AreInverted c.args.self.now c.args.wide) (sym c.new.ensures.items) (none_inverted c.args.self.now c.args.wide c.if-wide.false)
