use Rattle.std.proofs.Common.{ℕ, Option, None, List, option_map, slice_index_or, refl, sym, ◌∙◌, ap, arith}
use Rattle.std.proofs.lemmas.Option.{slice_get_read}
use Rattle.vs_claims.specs.vs_rules.specs.Certificates.{signal_claim}
use Rattle.vs_claims.proofs.FactLemmas.{claims_are, entry_within, read_by}
use Rattle.vs_claims.proofs.facts.Facts.entry.Goals as goal

pub index-requires : goal.index-requires
index-requires c =
    let at = sym (c.in-Some.ensures ∙ ap (λ (ps : List (Option ℕ)). slice_index_or ps c.args.v None) c.deref.ensures.value) in
    let within = entry_within c.self.invariant c.args.v c.in-Some.i at in
    omega (arith, c.self.inside.certificate.now.signals.ok.0)

pub returns-in-None : goal.returns-in-None
returns-in-None c =
    let at = sym (c.in-None.ensures ∙ ap (λ (ps : List (Option ℕ)). slice_index_or ps c.args.v None) c.deref.ensures.value) in
    sym (claims_are c.self.invariant c.args.self.now c.self.view_is c.args.v ∙ ap (read_by signal_claim c.self.inside.certificate.now.signals.items) at)

pub returns-in-Some : goal.returns-in-Some
returns-in-Some c =
    let entries = c.self.inside.certificate.now.signals.items in
    let at = sym (c.in-Some.ensures ∙ ap (λ (ps : List (Option ℕ)). slice_index_or ps c.args.v None) c.deref.ensures.value) in
    let found = slice_get_read entries _ c.in-Some.i c.index.result.now refl (entry_within c.self.invariant c.args.v c.in-Some.i at) c.index.ensures in
    sym (claims_are c.self.invariant c.args.self.now c.self.view_is c.args.v ∙ ap (read_by signal_claim entries) at ∙ ap (option_map signal_claim) found)
