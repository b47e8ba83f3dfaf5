use Rattle.std.proofs.Common.{ℕ, ◌<◌, Bool, sym, subst}
use Rattle.vs_claims.specs.vs_maps.specs.Ranges.{pause_terms}
use Rattle.vs_claims.specs.vs_maps.specs.declared.along.Along.TheVariants.{Plain}
use Rattle.vs_claims.specs.vs_maps.specs.Reaches.{pause_at}
use Rattle.vs_slots.specs.Runs.{AreBefore}
use Rattle.vs_slots.proofs.KeptLemmas.{terms_in}
use Rattle.vs_slots.proofs.edge_runs.fired_runs.Goals as goal

pub returns : goal.returns
returns c =
    let f = c.args.facts.now in
    let t = c.args.tables.now in record {
      before_are = subst (λ (wide : Bool). AreBefore (Plain wide) t c.in_ok-before.before) c.is_wide.ensures c.in_ok-before.ensures.exact;
      ends_are = λ q r within.
          let both = c.in_ok-ends.ensures.exact q r (subst (λ (n : ℕ). q < n) (sym c.places.ensures) within) in
          let terms = terms_in f c.args.firing.now (pause_terms (pause_at t q)) r c.requires in
          (λ x. let y = both.0 x in (y.1, terms.0 y.2), λ y. both.1 (within, y.0, terms.1 y.1));
    }
