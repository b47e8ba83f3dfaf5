use Rattle.std.proofs.Common.{◌↔◌, IsTrue, slice_get, ◌∙◌, ap, subst}
use Rattle.std.proofs.lemmas.Result.{IfOk-weaker}
use Rattle.vs_maps.specs.vs_rules.specs.Rules.{K10_Process}
use Rattle.vs_claims.specs.Facts.{Case, AreCharts}
use Rattle.vs_rules_of_processes.specs.FirstSlot.{KeepsFirst}
use Rattle.vs_rules_of_processes.proofs.SlotLemmas.{of_process, no_process}
use Rattle.vs_rules_of_processes.proofs.first_slot.FirstSlot.keeps_first_slot.Goals as goal

pub returns-in-None : goal.returns-in-None
returns-in-None c =
    let k = c.args.self.now in
    let maps = subst (λ (x : Case). AreCharts x.design x.charts) c.self.view_is c.maps.ensures in
    record { exact = no_process k maps c.args.i (c.in-None.ensures ∙ ap (λ (x : Case). slice_get x.charts c.args.i) c.self.view_is) }

pub returns-in-Some : goal.returns-in-Some
returns-in-Some c =
    let k = c.args.self.now in
    let i = c.args.i in
    let t = c.in-Some.tables.now in
    let maps = subst (λ (x : Case). AreCharts x.design x.charts) c.self.view_is c.maps.ensures in
    let both = of_process k maps i t (c.in-Some.ensures ∙ ap (λ (x : Case). slice_get x.charts i) c.self.view_is) in
    record {
      exact = IfOk-weaker c.keeps_places.result (λ b. (IsTrue b ↔ KeepsFirst k.design k.claims i t)) (λ b. (IsTrue b ↔ K10_Process k.design k.claims i))
          (λ b h. (λ x. both.0 (h.0 x), λ y. h.1 (both.1 y))) c.keeps_places.ensures;
    }
