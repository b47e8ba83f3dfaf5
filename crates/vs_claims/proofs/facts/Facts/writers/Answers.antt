use Rattle.std.proofs.Common.{ℕ, ◌<◌, Option, None, List, length, slice_get, slice_index_or, refl, sym, ◌∙◌, ap, arith}
use Rattle.std.proofs.lemmas.Bool.{false≢true}
use Rattle.std.proofs.lemmas.Option.{none-some, slice_get_read}
use Rattle.vs_claims.specs.vs_rules.specs.Certificates.{signal_claim}
use Rattle.vs_claims.specs.vs_rules.specs.Claims.{SignalClaim, names_process, second_in, writer_in}
use Rattle.vs_claims.proofs.FactLemmas.{claims_are, entry_within, read_by, writers_are, writers_long}
use Rattle.vs_claims.proofs.facts.Facts.writers.Goals as goal

pub index-requires : goal.index-requires
index-requires c =
    let at = sym (c.in-Some.ensures ∙ ap (λ (ps : List (Option ℕ)). slice_index_or ps c.args.v None) c.deref.ensures.value) in
    let within = entry_within c.self.invariant c.args.v c.in-Some.k at in
    omega (arith, writers_long c.self.invariant, c.self.inside.names.places.writers.ok.0)

pub returns-in-None-clause-writer : goal.returns-in-None-clause-writer
returns-in-None-clause-writer c i =
    let x = c.args.self.now in
    let at = sym (c.in-None.ensures ∙ ap (λ (ps : List (Option ℕ)). slice_index_or ps c.args.v None) c.deref.ensures.value) in
    let none = claims_are c.self.invariant x c.self.view_is c.args.v ∙ ap (read_by signal_claim c.self.inside.certificate.now.signals.items) at in (
      λ y. absurd (false≢true (sym (ap (λ (o : Option SignalClaim). names_process (writer_in o) (slice_get x.design.processes i)) none) ∙ y)),
      λ y. absurd (none-some i y),
    )

pub returns-in-None-clause-second : goal.returns-in-None-clause-second
returns-in-None-clause-second c i =
    let x = c.args.self.now in
    let at = sym (c.in-None.ensures ∙ ap (λ (ps : List (Option ℕ)). slice_index_or ps c.args.v None) c.deref.ensures.value) in
    let none = claims_are c.self.invariant x c.self.view_is c.args.v ∙ ap (read_by signal_claim c.self.inside.certificate.now.signals.items) at in (
      λ y. absurd (false≢true (sym (ap (λ (o : Option SignalClaim). names_process (second_in o) (slice_get x.design.processes i)) none) ∙ y)),
      λ y. absurd (none-some i y),
    )

pub returns-in-Some-clause-writer : goal.returns-in-Some-clause-writer
returns-in-Some-clause-writer c i =
    let at = sym (c.in-Some.ensures ∙ ap (λ (ps : List (Option ℕ)). slice_index_or ps c.args.v None) c.deref.ensures.value) in
    let within : c.in-Some.k < length c.self.inside.names.places.writers.items =
    omega (arith, entry_within c.self.invariant c.args.v c.in-Some.k at, writers_long c.self.invariant) in
    let found = slice_get_read c.self.inside.names.places.writers.items _ c.in-Some.k c.index.result.now refl within c.index.ensures in
    (writers_are c.self.invariant c.args.self.now c.self.view_is c.args.v c.in-Some.k c.index.result.now at found i).0

pub returns-in-Some-clause-second : goal.returns-in-Some-clause-second
returns-in-Some-clause-second c i =
    let at = sym (c.in-Some.ensures ∙ ap (λ (ps : List (Option ℕ)). slice_index_or ps c.args.v None) c.deref.ensures.value) in
    let within : c.in-Some.k < length c.self.inside.names.places.writers.items =
    omega (arith, entry_within c.self.invariant c.args.v c.in-Some.k at, writers_long c.self.invariant) in
    let found = slice_get_read c.self.inside.names.places.writers.items _ c.in-Some.k c.index.result.now refl within c.index.ensures in
    (writers_are c.self.invariant c.args.self.now c.self.view_is c.args.v c.in-Some.k c.index.result.now at found i).1
