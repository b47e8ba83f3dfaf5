use Rattle.std.proofs.Common.{◌&&◌, is_some, ap₂, ◌∙◌}
use Rattle.std.specs.Prelude.{is_none}
use Rattle.vs_elab_signals.proofs.SiteLemmas.{opened_at}
use Rattle.vs_elab_signals.proofs.blocks.is_implicit.Goals as goal

pub returns : goal.returns
returns c ss s a h =
    let n = c.args.name.now in
    let o = c.index-list-place.result in
    let e = (opened_at c.args.list.now ss a c.args.place o c.requires.place c.index-list-place.is s h).entered in
    c.is_implicit_net.ensures ∙ ap₂ (λ t x. is_some t && is_none x) (c.find.ensures ∙ e.told n) (c.find-2.ensures ∙ e.text n)
