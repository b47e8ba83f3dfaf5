-- The value of a certificate has no float.
use Rattle.std.proofs.Common.{◌≡◌, false, List, [], ◌∷◌, refl}
use Rattle.serde_json.specs.Data.{Data}
use Rattle.serde_json.specs.Written.{has_float}
use Rattle.vs_certificate.specs.declared.members.Certificate.{Certificate}
use Rattle.vs_certificate.specs.declared.members.ProcessEntry.{ProcessEntry}
use Rattle.vs_certificate.specs.declared.members.ClaimedKind.{ClaimedKind}
use Rattle.vs_certificate.specs.declared.members.ClaimedKind.TheVariants as kinds
use Rattle.vs_certificate.specs.declared.members.Version.{Version}
use Rattle.vs_certificate.specs.declared.members.Version.TheVariants as versions
use Rattle.vs_certificate.specs.JsonValue.{text_value, whole_value, residues_value, slots_value, start_value, edge_value, process_value, signal_value, list_value, object_with, members_by, value_of}

no_floats : {A : Type 0} (value : A → Data) → ((x : A) → has_float (value x) ≡ false) → (xs : List A) → has_float (list_value value xs) ≡ false
no_floats value none [] = refl
no_floats value none (x ∷ xs) = rw (none x) (no_floats value none xs)

slots_have_none : (kind : ClaimedKind) → has_float (slots_value kind) ≡ false
slots_have_none (kinds.Combinational start) = refl
slots_have_none kinds.Edge = refl
slots_have_none (kinds.Delay slots) = no_floats residues_value (λ r. no_floats whole_value (λ n. refl) r.items) slots.items
slots_have_none (kinds.Mixed slots) = no_floats residues_value (λ r. no_floats whole_value (λ n. refl) r.items) slots.items

start_has_none : (kind : ClaimedKind) → has_float (start_value kind) ≡ false
start_has_none (kinds.Combinational start) = refl
start_has_none kinds.Edge = refl
start_has_none (kinds.Delay slots) = refl
start_has_none (kinds.Mixed slots) = refl

process_has_none : (p : ProcessEntry) → has_float (process_value p) ≡ false
process_has_none p = rw (slots_have_none p.kind, start_has_none p.kind)

has_none_by : (version : Version) (c : Certificate) → has_float (object_with (members_by version c)) ≡ false
has_none_by versions.One c =
    rw (no_floats edge_value (λ e. refl) c.edges.items, no_floats text_value (λ s. refl) c.order.items, no_floats process_value process_has_none c.processes.items, no_floats signal_value (λ s. refl) c.signals.items)
has_none_by (versions.Two displays) c =
    rw (no_floats edge_value (λ e. refl) c.edges.items, no_floats text_value (λ s. refl) c.order.items, no_floats process_value process_has_none c.processes.items, no_floats signal_value (λ s. refl) c.signals.items)
has_none_by (versions.Three displays) c =
    rw (no_floats edge_value (λ e. refl) c.edges.items, no_floats text_value (λ s. refl) c.order.items, no_floats process_value process_has_none c.processes.items, no_floats signal_value (λ s. refl) c.signals.items)

pub has_float-value_of : (c : Certificate) → has_float (value_of c) ≡ false
has_float-value_of c = has_none_by c.version c
