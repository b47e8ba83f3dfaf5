use Rattle.std.proofs.Common.{◌↔◌, IsTrue, List, refl, sym, ◌∙◌, ap, subst}
use Rattle.std.proofs.lemmas.Bool.{false≢true}
use Rattle.vs_design.specs.declared.range.BitRange.{BitRange}
use Rattle.vs_claims.specs.Facts.{Case}
use Rattle.vs_rules_of_processes.specs.FirstSlot.{AreOwn}
use Rattle.vs_rules_of_processes.proofs.SlotLemmas.{reads_not, reads_mute, reads_shown}
use Rattle.vs_rules_of_processes.proofs.first_slot.FirstSlot.reads_own.Goals as goal

pub returns-then-not-are_own : goal.returns-then-not-are_own
returns-then-not-are_own c =
    let k = c.args.self.now in
    reads_not k.design k.claims c.args.i c.args.tables.now c.args.place
    (λ h. false≢true (c.if-not-are_own.ensures.1 (subst (λ (l : List BitRange). AreOwn k.design k.claims c.args.i l) (sym (c.deref.ensures.value ∙ c.in_ok-reads.ensures)) h)))

pub returns-then-not-displays : goal.returns-then-not-displays
returns-then-not-displays c =
    let k = c.args.self.now in
    reads_mute k.design k.claims c.args.i c.args.tables.now c.args.place
    (subst (λ (l : List BitRange). AreOwn k.design k.claims c.args.i l) (c.deref.ensures.value ∙ c.in_ok-reads.ensures) (c.if-not-are_own.ensures.0 refl))
    (λ e. false≢true (c.if-not-displays.ensures ∙ ap (λ (x : Case). x.claims.displays) c.self.view_is ∙ e))

pub returns : goal.returns
returns c =
    let k = c.args.self.now in
    reads_shown k.design k.claims c.args.i c.args.tables.now c.args.place c.are_own-2.result
    (subst (λ (l : List BitRange). AreOwn k.design k.claims c.args.i l) (c.deref.ensures.value ∙ c.in_ok-reads.ensures) (c.if-not-are_own.ensures.0 refl))
    (sym (c.if-not-displays.ensures ∙ ap (λ (x : Case). x.claims.displays) c.self.view_is))
    (subst (λ (l : List BitRange). (IsTrue c.are_own-2.result ↔ AreOwn k.design k.claims c.args.i l)) (c.deref-2.ensures.value ∙ c.in_ok-shows.ensures) c.are_own-2.ensures)
