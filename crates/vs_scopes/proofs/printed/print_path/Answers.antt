use Rattle.std.proofs.Common.{ap, sym, ◌∙◌, ◌++◌, arith}
use Rattle.vs_scopes.specs.Printed.{printed, printed_part}
use Rattle.vs_scopes.specs.scopes_passes.Names.{read_title, read_path}
use Rattle.vs_scopes.proofs.PrintedLemmas.{path_more, path_all, path_first}
use Rattle.vs_scopes.proofs.printed.print_path.Goals as goal

pub loop-title-init : goal.loop-title-init
loop-title-init c = c.in_ok-push_title.ensures ∙ ap (λ t. t ++ printed_part (read_title c.in-Some.first.now)) c.new-text.ensures.items ∙ sym (path_first c.args.path.now c.in-Some.first.now c.in-Some.others.now c.in-Some.ensures.cases.0)

pub loop-title-preserved : goal.loop-title-preserved
loop-title-preserved c = path_more c.args.path.now c.in-Some.first.now c.in-Some.others.now c.loop-title.title-index _ _ _ _ c.in-Some.ensures.cases.0 (omega arith) c.loop-title.invariant c.in_ok-push.ensures.items c.in_ok-push_title-2.ensures

pub returns : goal.returns
returns c = c.loop-title.invariant ∙ ap (λ p. printed (read_path p)) (path_all c.args.path.now c.in-Some.first.now c.in-Some.others.now c.loop-title.title-index c.in-Some.ensures.cases.0 (omega arith))
