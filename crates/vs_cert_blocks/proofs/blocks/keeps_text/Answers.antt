use Rattle.std.proofs.Common.{refl, ◌∙◌}
use Rattle.vs_cert_blocks.proofs.BlockLemmas.{text_not, text_is}
use Rattle.vs_cert_blocks.proofs.blocks.keeps_text.Goals as goal

pub returns-then-not-branch : goal.returns-then-not-branch
returns-then-not-branch c =
    text_not c.args.design.now c.args.process.now c.args.tables.now c.deref.result.now c.in_ok-signals.signals.items c.deref-2.result.now
    c.in_ok-signals.signals.items c.deref-3.result.now
    (record {
      written_are = c.deref.ensures.value ∙ c.in_ok-written.ensures;
      read_are = c.deref-3.ensures.value ∙ c.in_ok-read.ensures;
      signals_are = c.in_ok-signals.ensures;
      one_is = c.deref-2.ensures.value;
      other_is = refl;
    }) c.in_ok-are_named.field-0 c.in_ok-are_named.ensures c.if-not-branch.true

pub returns : goal.returns
returns c =
    text_is c.args.design.now c.args.process.now c.args.tables.now c.deref.result.now c.in_ok-signals.signals.items c.deref-2.result.now
    c.deref-4.result.now c.deref-3.result.now
    (record {
      written_are = c.deref.ensures.value ∙ c.in_ok-written.ensures;
      read_are = c.deref-3.ensures.value ∙ c.in_ok-read.ensures;
      signals_are = c.in_ok-signals.ensures;
      one_is = c.deref-2.ensures.value;
      other_is = c.deref-4.ensures.value;
    }) c.in_ok-are_named.field-0 c.in_ok-are_named.ensures c.if-not-branch.false c.in_ok-all.all c.in_ok-all.ensures
