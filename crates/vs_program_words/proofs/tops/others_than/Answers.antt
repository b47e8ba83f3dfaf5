use Rattle.std.proofs.Common.{◌++◌, ap}
use Rattle.vs_scopes.specs.Reads.{read_names}
use Rattle.vs_program_words.proofs.TopsLemmas.{all_told, none_told, one_told}
use Rattle.vs_program_words.proofs.tops.others_than.Goals as goal

pub loop-module-init : goal.loop-module-init
loop-module-init c = λ names all. none_told names c.args.modules.now _ _ (ap read_names c.new-tops.ensures.items) all

pub loop-module-preserved : goal.loop-module-preserved
loop-module-preserved c = λ names all.
    let told = c.loop-module.invariant names all in
    let so_far = names ++ read_names c.loop-module.tops.items in
    one_told names c.args.modules.now _ _ c.loop-module.module-index c.module-item.result _ _ c.loop-module-test.true c.module-item.is told
    (c.in_ok-add_top.ensures.top so_far told.0) (c.in_ok-add_top.ensures.index so_far told.0)

pub returns : goal.returns
returns c = λ names all. all_told names c.args.modules.now _ c.loop-module.module-index _ c.loop-module-test.false (c.loop-module.invariant names all)
