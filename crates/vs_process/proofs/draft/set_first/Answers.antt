use Rattle.std.proofs.Common.{ap, ◌∙◌, Some}
use Rattle.std.proofs.Math.Seq.{map-set_same}
use Rattle.std.proofs.lemmas.Option.{get_or_from_slice_get}
use Rattle.vs_design.specs.vs_logic4.proofs.Basics.{set_here}
use Rattle.vs_process.specs.declared.draft.Op.{Op}
use Rattle.vs_process.specs.Codes.{link_of}
use Rattle.vs_process.proofs.Lists.{set_other}
use Rattle.vs_process.proofs.draft.set_first.Goals as goal

pub returns-clause-links : goal.returns-clause-links
returns-clause-links c =
    map-set_same link_of c.args.ops.now.items c.args.i (record c.index_mut.result.now { first = c.args.first }) c.index_mut.result.now (ap link_of c.index_mut.ensures.value)

pub returns-clause-here : goal.returns-clause-here
returns-clause-here c = λ x e.
    set_here c.args.ops.now.items c.args.i (record c.index_mut.result.now { first = c.args.first }) c.requires.within
    ∙ ap (λ (z : Op). Some (record z { first = c.args.first })) (c.index_mut.ensures.value ∙ get_or_from_slice_get c.args.ops.now.items c.args.i x c.index_mut.result.now e)

pub returns-clause-others : goal.returns-clause-others
returns-clause-others c = λ j ne. set_other c.args.ops.now.items c.args.i j (record c.index_mut.result.now { first = c.args.first }) ne
