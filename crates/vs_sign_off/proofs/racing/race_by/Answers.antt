use Rattle.vs_propose.specs.vs_rules.specs.Certificates.{claims_of}
use Rattle.vs_sign_off.proofs.RaceLemmas.{line_race_of, race_of}
use Rattle.vs_sign_off.proofs.racing.race_by.Goals as goal

pub seek-requires-clause-outlined : goal.seek-requires-clause-outlined
seek-requires-clause-outlined g c = c.outline_is_in_order.ensures c.args.source.now c.args.top.now c.in_ok-design.ensures

pub seek-requires-clause-names : goal.seek-requires-clause-names
seek-requires-clause-names g c = c.names_of_one_line.ensures c.args.source.now c.args.top.now c.in_ok-design.design c.in_ok-design.ensures

pub returns-in-Made-clause-answered : goal.returns-in-Made-clause-answered
returns-in-Made-clause-answered g c =
    let d = c.in_ok-design.design in
    let made = rw c.in-Made.is at c.in_ok-proposal.ensures.is in
    record {
      design = d;
      defined = c.in_ok-design.ensures;
      made = made;
      independent = c.rules_make_independent.ensures d (claims_of c.in-Made.certificate) c.is_well_formed.ensures made.kept;
    }

pub returns-in-Shown-clause-answered : goal.returns-in-Shown-clause-answered
returns-in-Shown-clause-answered g c =
    race_of c.args.source.now c.args.top.now c.in_ok-design.design c.in-Shown.witness c.shows_one_value.ensures c.in_ok-design.ensures
    (rw c.in-Shown.is at c.in_ok-sighting-in_default.ensures)

pub returns-in-ShownLine-clause-answered : goal.returns-in-ShownLine-clause-answered
returns-in-ShownLine-clause-answered g c =
    line_race_of c.args.source.now c.args.top.now c.in_ok-design.design c.in-ShownLine.witness c.same_traces_print_rows_as_often.ensures c.in_ok-design.ensures
    (rw c.in-ShownLine.is at c.in_ok-sighting-in_default.ensures)
