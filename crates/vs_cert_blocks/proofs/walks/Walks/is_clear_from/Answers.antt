use Rattle.vs_cert_blocks.specs.Walks.{bit_view}
use Rattle.vs_cert_blocks.proofs.ClearLemmas.{clear_found}
use Rattle.vs_cert_blocks.proofs.walks.Walks.is_clear_from.Goals as goal

pub returns-clause-exact : goal.returns-clause-exact
returns-clause-exact c =
    clear_found c.args.self.now.tables.now (bit_view c.args.bit) c.args.seeds.now c.in_ok-found.found.items c.deref.result.now c.in_ok-found.ensures.exact
    c.deref.ensures.value c.are_clear.result c.are_clear.ensures
