use Rattle.std.proofs.Common.{◌↔◌, IsTrue, true, Some, Option, option_map, refl, sym, ◌∙◌, ap, subst}
use Rattle.std.proofs.lemmas.Result.{IfOk-weaker}
use Rattle.std.specs.Result.{IfOk}
use Rattle.vs_claims.specs.vs_certificate.specs.declared.members.Start.{Start}
use Rattle.vs_rules.specs.Blocks.{K5, K11, Starts}
use Rattle.vs_rules.specs.Certificates.{start_from}
use Rattle.vs_drivers.specs.Wires.{IsWiringOf}
use Rattle.vs_claims.specs.Facts.{Case, kind_seen}
use Rattle.vs_drivers.proofs.ConeLemmas.{claimed_within as is_block_of}
use Rattle.vs_rules_of_starts.proofs.StartLemmas.{claimed, no_claim, one_claim}
use Rattle.vs_rules_of_starts.proofs.starts.keeps_start_by.Goals as goal

pub returns-in-None : goal.returns-in-None
returns-in-None c =
    let f = c.starts.inside.facts.now in
    record {
      exact = subst (λ (k : Case). (IsTrue true ↔ K11 k.design k.claims c.args.i)) c.starts.view_is
          (no_claim f.design f.claims c.args.i
          (claimed f.design f.claims c.args.i (kind_seen c.kind.result) (option_map start_from c.start_of.result) _ c.kind.ensures c.start_of.ensures
          (ap (λ (o : Option Start). option_map start_from o) c.in-None.is)));
    }

pub starts_as-requires-clause-wiring : goal.starts_as-requires-clause-wiring
starts_as-requires-clause-wiring c = subst (λ (k : Case). IsWiringOf k.design k.claims c.args.cones.now) (sym c.starts.view_is) c.requires.wiring

pub starts_as-requires-clause-copies : goal.starts_as-requires-clause-copies
starts_as-requires-clause-copies c = c.requires.copies ∙ sym (ap (λ (k : Case). k.design) c.starts.view_is)

pub starts_as-requires-clause-beginning : goal.starts_as-requires-clause-beginning
starts_as-requires-clause-beginning c = c.requires.beginning ∙ sym (ap (λ (k : Case). k.design) c.starts.view_is)

pub starts_as-requires-clause-apart : goal.starts_as-requires-clause-apart
starts_as-requires-clause-apart c = c.starts.invariant

pub starts_as-requires-clause-shape : goal.starts_as-requires-clause-shape
starts_as-requires-clause-shape c = subst (λ (k : Case). K5 k.design k.claims c.args.i) (sym c.starts.view_is) c.requires.shape

pub starts_as-requires-clause-start : goal.starts_as-requires-clause-start
starts_as-requires-clause-start c =
    let f = c.starts.inside.facts.now in
    (claimed f.design f.claims c.args.i (kind_seen c.kind.result) (option_map start_from c.start_of.result) (Some (start_from c.in-Some.start))
    c.kind.ensures c.start_of.ensures (ap (λ (o : Option Start). option_map start_from o) c.in-Some.is) (start_from c.in-Some.start)).1 refl

pub starts_as-requires-clause-within : goal.starts_as-requires-clause-within
starts_as-requires-clause-within c =
    let f = c.starts.inside.facts.now in
    is_block_of f.design f.claims c.args.i (
      start_from c.in-Some.start,
      (claimed f.design f.claims c.args.i (kind_seen c.kind.result) (option_map start_from c.start_of.result) (Some (start_from c.in-Some.start))
          c.kind.ensures c.start_of.ensures (ap (λ (o : Option Start). option_map start_from o) c.in-Some.is) (start_from c.in-Some.start)).1 refl,
    )

pub returns-in-Some : goal.returns-in-Some
returns-in-Some c =
    let f = c.starts.inside.facts.now in
    record {
      exact = subst (λ (k : Case). IfOk c.starts_as.result (λ b. (IsTrue b ↔ K11 k.design k.claims c.args.i))) c.starts.view_is
          (IfOk-weaker c.starts_as.result (λ b. (IsTrue b ↔ Starts f.design f.claims c.args.i (start_from c.in-Some.start)))
          (λ b. (IsTrue b ↔ K11 f.design f.claims c.args.i))
          (λ b h. one_claim f.design f.claims c.args.i (start_from c.in-Some.start)
          (claimed f.design f.claims c.args.i (kind_seen c.kind.result) (option_map start_from c.start_of.result) (Some (start_from c.in-Some.start))
          c.kind.ensures c.start_of.ensures (ap (λ (o : Option Start). option_map start_from o) c.in-Some.is)) b h)
          c.starts_as.ensures);
    }
