use Rattle.std.proofs.Common.{◌∙◌, ap, sym, Some}
use Rattle.vs_design.specs.WordWrites.{after_parts}
use Rattle.vs_design.specs.Writes.{Write}
use Rattle.vs_design.proofs.Stores.{behind_Some, behind_None}
use Rattle.vs_design.proofs.store.Store.word_after_write.Goals as goal

pub returns-in-Some : goal.returns-in-Some
returns-in-Some c =
    ap Some (c.after_parts.ensures ∙ ap (λ (w : Write). after_parts w c.args.signal c.args.word c.in-Some.before) c.parts.ensures)
    ∙ behind_Some c.args.write.now c.args.self.now c.args.signal c.args.word c.in-Some.before (sym c.in-Some.ensures)

pub returns-in-None : goal.returns-in-None
returns-in-None c = behind_None c.args.write.now c.args.self.now c.args.signal c.args.word (sym c.in-None.ensures)
