use Rattle.std.proofs.lemmas.Result.{on_ok_weaker}
use Rattle.vs_scopes.specs.vs_widths.specs.declared.bindings.Binding.TheVariants.{Other}
use Rattle.vs_elab_constants.proofs.EarlyLemmas.{adds_both}
use Rattle.vs_elab_constants.proofs.early.add_item_inner.Goals as goal

pub returns : goal.returns
returns c =
    on_ok_weaker c.add_blocks.result (adds_both c.args.names.now c.add_uses.new.names c.add_blocks.new.names Other _ _ c.in_ok-add_uses.ensures) (rw (c.deref.ensures.value, c.in_ok-blocks.ensures) at c.add_blocks.ensures)
