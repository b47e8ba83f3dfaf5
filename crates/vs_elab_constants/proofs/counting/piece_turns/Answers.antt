use Rattle.std.proofs.Common.{◌≡◌, ◌≤◌, true, length, ap, sym, subst, ◌∙◌, arith}
use Rattle.vs_widths.specs.Names.{meaning_of}
use Rattle.vs_scopes.specs.Reads.{read_piece}
use Rattle.vs_scopes.specs.Generate.{Turns, turns_of, turn_number, piece_turns}
use Rattle.vs_scopes.specs.scopes_passes.Answers.{Refuses}
use Rattle.vs_elab_constants.specs.generate_passes.Turns.{turn_fault}
use Rattle.vs_elab_constants.proofs.CountLemmas.{loop_few, refused_none}
use Rattle.vs_elab_constants.proofs.counting.piece_turns.Goals as goal

pub returns-in-Ok-clause-few : goal.returns-in-Ok-clause-few
returns-in-Ok-clause-few c =
    let t : Turns = turns_of (meaning_of c.args.names.now) c.in-Loop.header.now in
    let few : turn_number t ≤ 65536 = loop_few (meaning_of c.args.names.now) c.in-Loop.header.now in
    let many : turn_number t ≡ length c.in-Ok.values.items = ap turn_number c.in-Ok.ensures.1 in
    omega (arith, few, many, c.in-Ok.values.ok.0, c.len.ensures)

pub returns-in-Err-Refused-clause-same : goal.returns-in-Err-Refused-clause-same
returns-in-Err-Refused-clause-same c =
    let env = meaning_of c.args.names.now in
    let t : Turns = turns_of env c.in-Loop.header.now in
    let wrong : turn_fault t c.in-Err-Refused.field-0-0 ≡ true = subst (Refuses (turn_fault t)) c.in-Err-Refused.field-0-is c.in-Err-Refused.ensures in
    refused_none t c.in-Err-Refused.field-0-0 wrong ∙ ap (λ p. piece_turns env (read_piece p)) (sym c.in-Loop.is)
