use Rattle.std.proofs.Common.{sym, ◌∙◌}
use Rattle.serde_json.specs.View.{view}
use Rattle.vs_certificate.proofs.Found.{later, second, either_displays, version_one_parts, version_two_parts, version_three_parts}
use Rattle.vs_certificate.proofs.whole.version_from_value.Goals as goal

pub returns-then-is_version_one : goal.returns-then-is_version_one
returns-then-is_version_one c =
    let p = version_one_parts (view c.args.json.now) (sym c.is_version_one.ensures ∙ c.if-is_version_one.true) in
    (p.names, p.version)

pub from_value_at-requires : goal.from_value_at-requires
from_value_at-requires c = either_displays (view c.args.json.now) (later _ _ _ c.requires (sym c.is_version_one.ensures ∙ c.if-is_version_one.false))

pub returns : goal.returns
returns c =
    let rest = later _ _ _ c.requires (sym c.is_version_one.ensures ∙ c.if-is_version_one.false) in
    let p = version_three_parts (view c.args.json.now) (second _ _ rest (sym c.is_version_two.ensures ∙ c.if-is_version_two.false)) in
    (p.names, p.version_is, c.in_ok-displays.ensures)

pub returns-then-is_version_two : goal.returns-then-is_version_two
returns-then-is_version_two c =
    let p = version_two_parts (view c.args.json.now) (sym c.is_version_two.ensures ∙ c.if-is_version_two.true) in
    (p.names, p.version_is, c.in_ok-displays.ensures)
