use Rattle.std.proofs.Common.{◌↔◌, IsTrue, subst}
use Rattle.std.proofs.lemmas.Result.{IfOk-weaker}
use Rattle.vs_design.specs.Parts.{Parts}
use Rattle.vs_rules.specs.vs_process.specs.Places.{Todo}
use Rattle.vs_rules_of_starts.specs.Cold.{AreFirst, IsAfterControl, StaysAtEach, StaysWithin}
use Rattle.vs_rules_of_starts.proofs.ColdLemmas.{each_is, none_is}
use Rattle.vs_rules_of_starts.proofs.cold.Beginning.stays_cold.Goals as goal

pub returns-in-None : goal.returns-in-None
returns-in-None c =
    none_is c.args.self.now c.args.i c.requires.within c.requires.shape c.self.inside.start c.self.inside.settled
    (subst (λ (d : Parts). AreFirst d c.self.inside.start c.self.inside.settled) c.self.view_is c.self.invariant) c.in-None.is

pub returns-in-Some : goal.returns-in-Some
returns-in-Some c =
    IfOk-weaker c.stays_within.result
    (λ b. (behind : Todo) → IsAfterControl c.self.inside.design.now c.args.i behind → (IsTrue b ↔ StaysWithin 10000 c.self.inside.design.now c.args.i behind c.in-Some.settled))
    (λ b. (IsTrue b ↔ StaysAtEach c.args.self.now c.args.i))
    (λ b told.
    each_is c.args.self.now c.args.i c.requires.within c.requires.shape c.self.inside.start c.self.inside.settled
    (subst (λ (d : Parts). AreFirst d c.self.inside.start c.self.inside.settled) c.self.view_is c.self.invariant) c.in-Some.settled c.in-Some.is b
    (subst (λ (d : Parts). (behind : Todo) → IsAfterControl d c.args.i behind → (IsTrue b ↔ StaysWithin 10000 d c.args.i behind c.in-Some.settled)) c.self.view_is told))
    c.stays_within.ensures
