use Rattle.std.proofs.Common.{ap, map, arith}
use Rattle.std.proofs.lemmas.List.{drop_more, drop_all}
use Rattle.vs_widths.specs.Names.{meaning_of}
use Rattle.vs_scopes.specs.passes.Ends.{borrowed, read_end, value_under}
use Rattle.vs_scopes.proofs.PassLemmas.{moved, ended}
use Rattle.vs_scopes.proofs.connections.found_for.Goals as goal

pub loop-name-preserved : goal.loop-name-preserved
loop-name-preserved c =
    moved read_end c.loop-name.ends.items c.push.new.self.items c.found.result _ _ _ _ c.in_ok-push.ensures.items c.found.ensures
    (ap (λ z. map (λ n. value_under (meaning_of c.args.given.now n)) (borrowed z)) (drop_more c.args.names.now c.loop-name.name-index _ (omega arith))) c.loop-name.invariant

pub returns : goal.returns
returns c = ended _ _ _ (ap (λ z. map (λ n. value_under (meaning_of c.args.given.now n)) (borrowed z)) (drop_all c.loop-name.name-index c.args.names.now (omega arith))) c.loop-name.invariant
