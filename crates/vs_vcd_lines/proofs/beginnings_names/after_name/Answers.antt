use Rattle.std.proofs.Common.{sym, ◌∙◌}
use Rattle.vs_vcd_lines.proofs.BeginningsNameLemmas.{escaped_after, escaped_other, escaped_within}
use Rattle.vs_vcd_lines.proofs.beginnings_names.after_name.Goals as goal

pub returns-in_default-cut : goal.returns-in_default-cut
returns-in_default-cut c = escaped_within c.args.text.now c.in-Some.escaped.now c.in-Some.ensures c.in_default-cut.ensures

pub returns-then-named : goal.returns-then-named
returns-then-named c =
    escaped_after c.args.text.now c.in-Some.escaped.now c.in-Some-cut.body.now c.in-Some-cut.rest.now c.in-Some.ensures c.in-Some-cut.ensures
    (sym c.is_body-named.ensures ∙ c.if-named.true)

pub returns-else-named : goal.returns-else-named
returns-else-named c =
    escaped_other c.args.text.now c.in-Some.escaped.now c.in-Some-cut.body.now c.in-Some-cut.rest.now c.in-Some.ensures c.in-Some-cut.ensures
    (sym c.is_body-named.ensures ∙ c.if-named.false)
