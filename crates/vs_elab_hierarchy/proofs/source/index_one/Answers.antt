use Rattle.std.proofs.Common.{◌<◌, ℕ, List, Option, length, ap, sym, ◌∙◌, arith}
use Rattle.std.specs.Borrow.{Bor}
use Rattle.vs_elab_signals.specs.vs_scopes.specs.Reads.{referred}
use Rattle.vs_elab_hierarchy.proofs.TopLemmas.{index_below, adds_outermost, adds_unnamed, adds_named}
use Rattle.vs_elab_hierarchy.proofs.source.index_one.Goals as goal

pub returns-in_default : goal.returns-in_default
returns-in_default c = adds_outermost c.args.list.now c.args.place _ c.requires c.in_default.is

pub returns-in_default-text_name : goal.returns-in_default-text_name
returns-in_default-text_name c = adds_unnamed c.args.list.now c.args.place c.index-list-place.result c.requires (sym c.text_name.ensures ∙ ap (λ (z : Option (Bor (List ℕ))). referred z) c.in_default-text_name.is)

pub offset_bounds-list-around : goal.offset_bounds-list-around
offset_bounds-list-around c = (let small : c.in-Some.around < length c.args.list.now = index_below c.args.list.now c.args.place c.in-Some.around _ c.requires c.in-Some.is in omega (arith, small))

pub bounds-list-around : goal.bounds-list-around
bounds-list-around c = index_below c.args.list.now c.args.place c.in-Some.around _ c.requires c.in-Some.is

pub returns-in-Ok : goal.returns-in-Ok
returns-in-Ok c =
    adds_named c.args.list.now c.args.place c.in-Some.around _ c.index-list-place.result c.index-list-around.result c.in-Some-text_name.name.now c.bind.new.self c.requires c.in-Some.is
    (sym c.text_name.ensures ∙ ap (λ (z : Option (Bor (List ℕ))). referred z) c.in-Some-text_name.is) c.in-Ok.ensures
