use Rattle.std.proofs.Common.{◌≡◌, Some, List, length, slice_get, refl, subst}
use Rattle.std.proofs.lemmas.Option.{slice_get_read}
use Rattle.vs_design.specs.declared.statement.Statement.{Statement}
use Rattle.vs_race_pair.proofs.CodeLemmas.{counted}
use Rattle.vs_race_pair.proofs.course.maps_of.Goals as goal

pub of-requires : goal.of-requires
of-requires c =
    let codes = c.args.codes.now in
    let i = c.loop-code.code-index in
    let at : slice_get codes i ≡ Some c.code-item.result = slice_get_read codes (length codes) i c.code-item.result refl c.loop-code-test.true c.code-item.is in
    counted c.args.design.now c.is_well_formed.ensures i c.code-item.result (subst (λ (xs : List Statement). slice_get xs i ≡ Some c.code-item.result) c.requires at)
