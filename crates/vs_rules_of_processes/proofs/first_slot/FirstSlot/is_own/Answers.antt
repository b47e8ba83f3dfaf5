use Rattle.std.proofs.Common.{◌≡◌, Some, List, length, slice_get, refl, sym, ◌∙◌, ap, subst}
use Rattle.std.proofs.lemmas.Option.{slice_get_read}
use Rattle.vs_design.specs.declared.signal.Signal.{Signal}
use Rattle.vs_design.specs.Parts.{Parts}
use Rattle.vs_claims.specs.Facts.{Case, AreCharts}
use Rattle.vs_rules_of_processes.proofs.FirstReads.{own_narrow, own_wide}
use Rattle.vs_rules_of_processes.proofs.first_slot.FirstSlot.is_own.Goals as goal

pub returns-then-is_wide : goal.returns-then-is_wide
returns-then-is_wide c =
    let v = c.args.v in
    let k = c.args.self.now in
    let s = c.in-Some.s.now in
    let told = c.signals-signals.ensures ∙ ap (λ (e : Parts). e.signals) (c.design.ensures ∙ ap (λ (x : Case). x.design) c.self.view_is) in
    let is = subst (λ (l : List Signal). slice_get l v ≡ Some s) told
    (slice_get_read c.signals-signals.result.now (length c.signals-signals.result.now) v s refl c.in-Some.ensures.lookup.3.0 c.in-Some.ensures.lookup.1) in
    own_wide k (subst (λ (x : Case). AreCharts x.design x.charts) c.self.view_is c.maps.ensures) c.args.i v s c.is_first.result (sym c.is_wide.ensures ∙ c.if-is_wide.true) is (sym c.if-not-is_variable.ensures) c.is_first.ensures

pub returns-else-is_wide : goal.returns-else-is_wide
returns-else-is_wide c =
    let v = c.args.v in
    let k = c.args.self.now in
    let s = c.in-Some.s.now in
    let told = c.signals-signals.ensures ∙ ap (λ (e : Parts). e.signals) (c.design.ensures ∙ ap (λ (x : Case). x.design) c.self.view_is) in
    let is = subst (λ (l : List Signal). slice_get l v ≡ Some s) told
    (slice_get_read c.signals-signals.result.now (length c.signals-signals.result.now) v s refl c.in-Some.ensures.lookup.3.0 c.in-Some.ensures.lookup.1) in
    own_narrow k.design k.claims c.args.i v s c.is_sole.result (sym c.is_wide.ensures ∙ c.if-is_wide.false) is (sym c.if-not-is_variable.ensures) c.is_sole.ensures
