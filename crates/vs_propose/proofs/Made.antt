-- Certificates that are proposed.
use Rattle.std.proofs.Common.{◌≡◌, ◌&&◌, ◌-◌, ℕ, true, List, [], refl, sym, ap₂, subst, codes, ◌∷◌}
use Rattle.std.specs.List.{list_all}
use Rattle.std.specs.declared.alloc.Global.{Global}
use Rattle.std.specs.declared.vec.Vec.{Vec}
use Rattle.std.proofs.Common.{String}
use Rattle.serde_json.specs.Data.{Data}
use Rattle.vs_certificate.specs.declared.members.Certificate.{Certificate}
use Rattle.vs_certificate.specs.declared.members.ClaimedGrain.{ClaimedGrain}
use Rattle.vs_certificate.specs.declared.members.EdgeSignal.{EdgeSignal}
use Rattle.vs_certificate.specs.declared.members.ProcessEntry.{ProcessEntry}
use Rattle.vs_certificate.specs.declared.members.Rules.{Rules}
use Rattle.vs_certificate.specs.declared.members.Rules.TheVariants.{Narrow, Wide}
use Rattle.vs_certificate.specs.declared.members.SignalEntry.{SignalEntry}
use Rattle.vs_certificate.specs.declared.members.Version.TheVariants as versions
use Rattle.vs_certificate.specs.JsonValue.{value_of, object_with, list_value, edge_value, grain_value, process_value, signal_value, text_value, whole_value}
use Rattle.vs_certificate.specs.Limits.{is_within_limits}
use Rattle.vs_certificate.specs.Reading.{IsSound, IsSoundBy, other_by}
use Rattle.vs_certificate.specs.Versions.{has_kind, has_mode}
use Rattle.vs_certificate.proofs.Law.{sound_value, sound_weaker, own_words}
use Rattle.vs_cert_check.specs.Answers.{verdict_view, HasNumber}
use Rattle.vs_cert_check.specs.Verdicts.{rule_of}
use Rattle.vs_cert_check.specs.declared.verdict.Verdict.{Verdict}
use Rattle.vs_cert_check.specs.declared.verdict.Verdict.TheVariants as verdicts
use Rattle.vs_design.specs.Parts.{Parts}
use Rattle.vs_cert_check.specs.vs_rules.specs.Certificates.{claims_of}
use Rattle.vs_cert_check.specs.vs_rules.specs.Claims.{Claims}
use Rattle.vs_cert_check.specs.vs_rules.specs.Verdict.{Breaks, Disciplined, IsVerdict}
use Rattle.vs_propose.specs.Proposals.{IsMadeBy, IsRefusedBy}

-- what the tests of versions 1 and 2 pass, the tests by any rules pass
pub sound_by : (rules : Rules) (d : Data) → IsSound d → IsSoundBy (other_by rules) d
sound_by Narrow d sound = sound
sound_by Wide d sound = sound_weaker d sound

pub made : (rules : Rules) (d : Parts) (grain : ClaimedGrain) (c : Certificate) (v : Verdict) → c.grain ≡ grain → IsSoundBy (other_by rules) (value_of c) →
    IsVerdict d (claims_of c) (verdict_view v) → v ≡ verdicts.Yes → IsMadeBy rules d grain c
made rules d grain c v same sound verdict is = record {
  grain_is = same;
  sound = sound;
  own_words = own_words (other_by rules) c sound;
  kept = subst (λ w. IsVerdict d (claims_of c) (verdict_view w)) is verdict;
}

pub refused : (rules : Rules) (d : Parts) (grain : ClaimedGrain) (c : Certificate) (v : Verdict) (number : ℕ) (place : Vec ℕ Global) → c.grain ≡ grain →
    IsSoundBy (other_by rules) (value_of c) → IsVerdict d (claims_of c) (verdict_view v) → HasNumber v → v ≡ verdicts.No number place →
    IsRefusedBy rules d grain (record { certificate = c; number = number; place = place })
refused rules d grain c v number place same sound verdict numbered is = record {
  grain_is = same;
  sound = sound;
  numbered = subst HasNumber is numbered;
  verdict = subst (λ w. IsVerdict d (claims_of c) (verdict_view w)) is verdict;
}

-- a design that keeps all rules breaks none
pub not_refused : (d : Parts) (c : Claims) (v : Verdict) (number : ℕ) (place : Vec ℕ Global) → IsVerdict d c (verdict_view v) → v ≡ verdicts.No number place → Disciplined d c → ⊥
not_refused d c v number place verdict is kept =
    let b : Breaks d c (rule_of (number - 1)) place.items = subst (λ w. IsVerdict d c (verdict_view w)) is verdict in
    b.broken (kept (rule_of (number - 1)) b.n b.subject b.is)

-- ---- a certificate that claims nothing

abbrev nothing_with : ClaimedGrain → List EdgeSignal → List (String Global) → List ProcessEntry → List SignalEntry → Data
nothing_with grain edges order processes signals =
    object_with (
    (codes "edges", list_value edge_value edges)
    ∷ (codes "grain", grain_value grain)
    ∷ (codes "modulus", whole_value 1)
    ∷ (codes "order", list_value text_value order)
    ∷ (codes "processes", list_value process_value processes)
    ∷ (codes "signals", list_value signal_value signals)
    ∷ (codes "version", whole_value 1)
    ∷ []
    )

nothing_within : (grain : ClaimedGrain) (edges : List EdgeSignal) (order : List (String Global)) (processes : List ProcessEntry) (signals : List SignalEntry) →
    edges ≡ [] → order ≡ [] → processes ≡ [] → signals ≡ [] → is_within_limits (nothing_with grain edges order processes signals) ≡ true
nothing_within grain edges order processes signals e o p s =
    subst (λ t. is_within_limits (nothing_with grain t order processes signals) ≡ true) (sym e)
    (subst (λ t. is_within_limits (nothing_with grain [] t processes signals) ≡ true) (sym o)
    (subst (λ t. is_within_limits (nothing_with grain [] [] t signals) ≡ true) (sym p)
    (subst (λ t. is_within_limits (nothing_with grain [] [] [] t) ≡ true) (sym s) refl)))

nothing_sound : (grain : ClaimedGrain) (edges : Vec EdgeSignal Global) (order : Vec (String Global) Global) (processes : Vec ProcessEntry Global) (signals : Vec SignalEntry Global) →
    edges.items ≡ [] → order.items ≡ [] → processes.items ≡ [] → signals.items ≡ [] →
    IsSound (value_of (record { version = versions.One; grain = grain; modulus = 1; edges = edges; order = order; processes = processes; signals = signals }))
nothing_sound grain edges order processes signals e o p s =
    sound_value (record { version = versions.One; grain = grain; modulus = 1; edges = edges; order = order; processes = processes; signals = signals })
    refl (ap₂ (λ (ps : List ProcessEntry) (ss : List SignalEntry). list_all (λ (q : ProcessEntry). has_kind versions.One q.kind) ps && list_all (λ (t : SignalEntry). has_mode versions.One t.mode) ss) p s)
    (nothing_within grain edges.items order.items processes.items signals.items e o p s)

pub sound_nothing : (rules : Rules) (grain : ClaimedGrain) (edges : Vec EdgeSignal Global) (order : Vec (String Global) Global) (processes : Vec ProcessEntry Global)
    (signals : Vec SignalEntry Global) → edges.items ≡ [] → order.items ≡ [] → processes.items ≡ [] → signals.items ≡ [] →
    IsSoundBy (other_by rules) (value_of (record { version = versions.One; grain = grain; modulus = 1; edges = edges; order = order; processes = processes; signals = signals }))
sound_nothing rules grain edges order processes signals e o p s =
    sound_by rules (value_of (record { version = versions.One; grain = grain; modulus = 1; edges = edges; order = order; processes = processes; signals = signals }))
    (nothing_sound grain edges order processes signals e o p s)
