use Rattle.std.proofs.Common.{◌≡◌, All, refl, sym, subst, ◌∙◌}
use Rattle.std.specs.Vec.{with_items}
use Rattle.std.proofs.lemmas.List.{with_items_is}
use Rattle.vs_elab_signals.specs.Opened.{AreSeated}
use Rattle.vs_elab_hierarchy.specs.passes.Blocks.{HasNoBlocks, AreIndexed}
use Rattle.vs_elab_hierarchy.specs.hierarchy_passes.Opens.{Made}
use Rattle.vs_elab_hierarchy.proofs.SourceLemmas.{planned_none}
use Rattle.vs_elab_hierarchy.proofs.BlockLemmas.{indexed_seated, opens_all}
use Rattle.vs_elab_hierarchy.proofs.TopLemmas.{seated_index}
use Rattle.vs_elab_hierarchy.proofs.source.open_all.Goals as goal

pub open_top-requires-clause-planned : goal.open_top-requires-clause-planned
open_top-requires-clause-planned c = planned_none c.new-scopes.result.items c.new-plan.result c.new-scopes.ensures.items c.new-plan.ensures.signals c.new-plan.ensures.instances c.new-plan.ensures.turns

pub index_all-requires-clause-places : goal.index_all-requires-clause-places
index_all-requires-clause-places c =
    let made : Made c.args.modules.now c.args.top.now c.open_top.new.list.items c.open_top.new.plan = c.in_ok-open_top.ensures in
    seated_index c.deref_mut.result.now (subst AreSeated (sym c.deref_mut.ensures.value) made.planned.seated)

pub index_all-requires-clause-none : goal.index_all-requires-clause-none
index_all-requires-clause-none c =
    let made : Made c.args.modules.now c.args.top.now c.open_top.new.list.items c.open_top.new.plan = c.in_ok-open_top.ensures in
    subst (All HasNoBlocks) (sym c.deref_mut.ensures.value) made.planned.blocks

pub returns : goal.returns
returns c =
    let ms = c.args.modules.now in
    let top = c.args.top.now in
    let v = c.open_top.new.list in
    let new = c.index_all.new.list in
    let made : Made ms top v.items c.open_top.new.plan = c.in_ok-open_top.ensures in
    let told : AreIndexed c.deref_mut.result.now new = c.in_ok-index_all.ensures in
    let indexed : AreIndexed v.items new = subst (λ z. AreIndexed z new) c.deref_mut.ensures.value told in
    let same : (with_items v new).items ≡ new = with_items_is v new (indexed.many ∙ sym v.ok.0) in
    let here : AreIndexed v.items (with_items v new).items = subst (AreIndexed v.items) (sym same) indexed in
    record { opens = opens_all ms top v.items c.open_top.new.plan _ made here refl refl; seated = indexed_seated v.items (with_items v new).items here made.planned.seated }
