use Rattle.std.proofs.Common.{◌↔◌, refl, sym, subst}
use Rattle.std.specs.List.{Contains}
use Rattle.vs_design.specs.declared.statement.EventTerm.{EventTerm}
use Rattle.vs_rules.specs.Claims.{IsRootOf}
use Rattle.vs_rules.specs.Slots.{Fires}
use Rattle.vs_claims.specs.Facts.{Case}
use Rattle.vs_design.specs.vs_logic4.proofs.Basics.{one_in as only_in}
use Rattle.vs_rules_of_processes.proofs.PairLemmas.{in_only}
use Rattle.vs_rules_of_processes.proofs.edges.known.Goals as goal

pub returns : goal.returns
returns c =
    let v = c.args.term.range.signal in
    let f = c.args.slots.now in (
      refl,
      λ root. subst (λ (g : Case). (Contains c.in_ok-roots.roots.items root ↔ IsRootOf g.design g.claims root v)) c.facts.ensures (c.in_ok-roots.ensures root),
      λ r. let both = c.in_ok-fires.ensures r in (
        λ x. let y = both.0 x in subst (λ (t : EventTerm). Fires f.design f.claims t r) (sym (only_in c.args.term y.0 y.1)) y.2,
        λ h. both.1 (c.args.term, in_only c.args.term, h),
      ),
    )
