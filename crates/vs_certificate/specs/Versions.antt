-- What a certificate of each version may say of a process and of a signal.
use Rattle.std.specs.Prelude.{◌≡◌, ◌&&◌, ℕ, Bool, true, false, Some, ◌∷◌, codes}
use Rattle.std.specs.List.{list_all}
use Rattle.serde_json.specs.Data.{Data}
use Rattle.serde_json.specs.Find.{get}
use Rattle.vs_certificate.specs.declared.members.Certificate.{Certificate}
use Rattle.vs_certificate.specs.declared.members.ProcessEntry.{ProcessEntry}
use Rattle.vs_certificate.specs.declared.members.ClaimedKind.{ClaimedKind}
use Rattle.vs_certificate.specs.declared.members.ClaimedKind.TheVariants as kinds
use Rattle.vs_certificate.specs.declared.members.SignalEntry.{SignalEntry}
use Rattle.vs_certificate.specs.declared.members.SignalMode.{SignalMode}
use Rattle.vs_certificate.specs.declared.members.SignalMode.TheVariants as modes
use Rattle.vs_certificate.specs.declared.members.Start.TheVariants as starts
use Rattle.vs_certificate.specs.declared.members.Version.{Version}
use Rattle.vs_certificate.specs.declared.members.Version.TheVariants as versions
use Rattle.vs_certificate.specs.JsonValue.{flag_value, whole_value}
use Rattle.vs_certificate.specs.Shape.{has_names, names_of_one}

-- version 1 or 2
abbrev pub is_narrow : Version → Bool
is_narrow versions.One = true
is_narrow (versions.Two displays) = true
is_narrow (versions.Three displays) = false

-- a version has what is claimed of a process of this kind: version 1 has no start `starter`, and `mixed` is a kind of version 3 alone (profile)
abbrev pub has_kind : Version → ClaimedKind → Bool
has_kind versions.One (kinds.Combinational starts.Starter) = false
has_kind versions.One (kinds.Mixed slots) = false
has_kind (versions.Two displays) (kinds.Mixed slots) = false
has_kind version kind = true

-- and of a signal of this mode: `both` is a mode of version 3 alone (profile)
abbrev pub has_mode : Version → SignalMode → Bool
has_mode versions.One modes.Both = false
has_mode (versions.Two displays) modes.Both = false
has_mode version mode = true

-- a certificate's version has what is claimed of each of its processes, and of each of its signals
abbrev pub has_own_kinds : Certificate → Bool
has_own_kinds c = list_all (λ (p : ProcessEntry). has_kind c.version p.kind) c.processes.items

abbrev pub has_own_modes : Certificate → Bool
has_own_modes c = list_all (λ (s : SignalEntry). has_mode c.version s.mode) c.signals.items

abbrev pub has_own_words : Certificate → Bool
has_own_words c = has_own_kinds c && has_own_modes c

-- how many residues a list may have (profile)
abbrev pub most_residues : Version → ℕ
most_residues versions.One = 64
most_residues (versions.Two displays) = 64
most_residues (versions.Three displays) = 4096

-- for a private clause: the members of an object tell this version
abbrev pub IsOfVersion : Data → Version → Type 0
IsOfVersion d versions.One = (has_names names_of_one d ≡ true) × (get (codes "version") d ≡ Some (whole_value 1))
IsOfVersion d (versions.Two displays) =
    (has_names (codes "displays" ∷ names_of_one) d ≡ true) × (get (codes "version") d ≡ Some (whole_value 2)) × (get (codes "displays") d ≡ Some (flag_value displays))
IsOfVersion d (versions.Three displays) =
    (has_names (codes "displays" ∷ names_of_one) d ≡ true) × (get (codes "version") d ≡ Some (whole_value 3)) × (get (codes "displays") d ≡ Some (flag_value displays))
