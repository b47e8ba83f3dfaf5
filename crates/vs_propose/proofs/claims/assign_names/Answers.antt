use Rattle.std.proofs.lemmas.Option.{slice_get-get_or}
use Rattle.vs_drivers.specs.vs_rules.specs.Certificates.{name_from}
use Rattle.vs_propose.specs.Claimed.{name_at}
use Rattle.vs_propose.proofs.Written.{one_written, all_written, none_written}
use Rattle.vs_propose.proofs.claims.assign_names.Goals as goal

pub loop-j-init : goal.loop-j-init
loop-j-init c = λ texts. none_written name_from (name_at c.args.design.now) c.args.order.now c.new-names.result.items c.new-names.ensures.items

pub loop-j-preserved : goal.loop-j-preserved
loop-j-preserved c = λ texts.
    one_written name_from (name_at c.args.design.now) c.args.order.now c.loop-j.j-index _ c.loop-j.names.items c.push.new.self.items c.in_ok-name.name
    (slice_get-get_or _ _ 0 c.loop-j-test.true) c.in_ok-push.ensures.items (c.in_ok-name.ensures texts) (c.loop-j.invariant texts)

pub returns : goal.returns
returns c = λ texts.
    all_written name_from (name_at c.args.design.now) c.args.order.now c.loop-j.j-index c.loop-j.names.items c.loop-j-test.false (c.loop-j.invariant texts)
