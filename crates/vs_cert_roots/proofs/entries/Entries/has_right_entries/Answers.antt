use Rattle.std.proofs.Common.{◌↔◌, ◌<◌, ◌≤◌, ℕ, List, length, refl, sym, ◌∙◌, ap, subst, arith}
use Rattle.std.specs.List.{Contains}
use Rattle.std.proofs.lemmas.Bool.{eqb-true}
use Rattle.vs_design.specs.declared.signal.Signal.{Signal}
use Rattle.vs_design.specs.vs_logic4.proofs.Basics.{same_self}
use Rattle.vs_design.specs.Parts.{Parts}
use Rattle.vs_rules_of_signals.specs.vs_claims.specs.Facts.{Case, NamesEntry}
use Rattle.vs_cert_roots.proofs.EntryLemmas.{past_entries, right_edge, right_none}
use Rattle.vs_cert_roots.proofs.entries.Entries.has_right_entries.Goals as goal

pub returns-then-v-signals : goal.returns-then-v-signals
returns-then-v-signals c =
    let K = c.args.self.now in
    let all = c.signals-signals.ensures ∙ ap (λ (d : Parts). d.signals) (c.design.ensures ∙ ap (λ (k : Case). k.design) c.facts-facts.ensures) in
    (λ t. past_entries K.design K.claims c.args.v (subst (λ (ss : List Signal). length ss ≤ c.args.v) all (omega (arith, c.if-v-signals.true))), λ h. refl)

pub is_edge_signal-requires : goal.is_edge_signal-requires
is_edge_signal-requires c =
    let all = c.signals-signals.ensures ∙ ap (λ (d : Parts). d.signals) (c.design.ensures ∙ ap (λ (k : Case). k.design) c.facts-facts.ensures) in
    subst (λ (ss : List Signal). c.args.v < length ss) all (omega (arith, c.if-v-signals.false))

pub returns-then-is_edge_signal : goal.returns-then-is_edge_signal
returns-then-is_edge_signal c =
    let K = c.args.self.now in
    let v = c.args.v in
    let row = c.entries_of-places.result.now in
    let all = c.signals-signals.ensures ∙ ap (λ (d : Parts). d.signals) (c.design.ensures ∙ ap (λ (k : Case). k.design) c.facts-facts.ensures) in
    let within = subst (λ (ss : List Signal). v < length ss) all (omega (arith, c.if-v-signals.false)) in
    let are = subst (λ (k : Case). (p : ℕ) → (Contains row p ↔ NamesEntry k.design k.claims.edges p v)) c.facts-facts.ensures c.entries_of-places.ensures in
    let l = right_edge K.design K.claims v row c.only.result within are (c.if-is_edge_signal.ensures.0 refl) c.only.ensures in
    (λ t. l.0 (sym c.is_some.ensures ∙ t), λ k. c.is_some.ensures ∙ l.1 k)

pub returns-else-is_edge_signal : goal.returns-else-is_edge_signal
returns-else-is_edge_signal c =
    let K = c.args.self.now in
    let v = c.args.v in
    let row = c.entries_of-places.result.now in
    let all = c.signals-signals.ensures ∙ ap (λ (d : Parts). d.signals) (c.design.ensures ∙ ap (λ (k : Case). k.design) c.facts-facts.ensures) in
    let within = subst (λ (ss : List Signal). v < length ss) all (omega (arith, c.if-v-signals.false)) in
    let are = subst (λ (k : Case). (p : ℕ) → (Contains row p ↔ NamesEntry k.design k.claims.edges p v)) c.facts-facts.ensures c.entries_of-places.ensures in
    right_none K.design K.claims v row c.is_empty.result within are (λ e. let f = c.if-is_edge_signal.ensures.1 e in cc)
    (λ t. eqb-true (length row) 0 (sym c.is_empty.ensures ∙ t), λ e. c.is_empty.ensures ∙ same_self (length row) 0 e)
