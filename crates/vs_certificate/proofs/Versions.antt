-- The members of a certificate's value, of each version, as they are put together and as they are found.
use Rattle.std.proofs.Common.{◌≡◌, codes, Some, refl}
use Rattle.serde_json.specs.Data.{Data, Members, no_members, put}
use Rattle.serde_json.specs.Find.{get}
use Rattle.vs_certificate.specs.declared.members.Certificate.{Certificate}
use Rattle.vs_certificate.specs.declared.members.Version.{Version}
use Rattle.vs_certificate.specs.declared.members.Version.TheVariants as versions
use Rattle.vs_certificate.specs.JsonValue.{text_value, grain_value, list_value, edge_value, process_value, signal_value, whole_value, version_number, object_with, members_with, members_by, put_own}
use Rattle.vs_certificate.specs.Versions.{IsOfVersion}
use Rattle.vs_certificate.proofs.Names.{object_from}

-- what is put together, member after member
abbrev pub put_all : Version → Certificate → Members
put_all version c =
    put (codes "version") (whole_value (version_number version)) (
    put (codes "signals") (list_value signal_value c.signals.items) (
    put (codes "processes") (list_value process_value c.processes.items) (
    put (codes "order") (list_value text_value c.order.items) (
    put (codes "modulus") (whole_value c.modulus) (
    put (codes "grain") (grain_value c.grain) (put (codes "edges") (list_value edge_value c.edges.items) (put_own version no_members))
    )
    )
    )
    )
    )

pub members_by-put : (version : Version) (c : Certificate) → put_all version c ≡ members_with (members_by version c)
members_by-put versions.One c = refl
members_by-put (versions.Two displays) c = refl
members_by-put (versions.Three displays) c = refl

-- a value's members that all versions have are those of the certificate
pub record HasShared (c : Certificate) (d : Data) : Type 0 where
  pub edges : get (codes "edges") d ≡ Some (list_value edge_value c.edges.items)
  pub grain : get (codes "grain") d ≡ Some (grain_value c.grain)
  pub modulus : get (codes "modulus") d ≡ Some (whole_value c.modulus)
  pub order : get (codes "order") d ≡ Some (list_value text_value c.order.items)
  pub processes : get (codes "processes") d ≡ Some (list_value process_value c.processes.items)
  pub signals : get (codes "signals") d ≡ Some (list_value signal_value c.signals.items)

pub value_from_members : (version : Version) (c : Certificate) (d : Data) → IsOfVersion d version → HasShared c d → object_with (members_by version c) ≡ d
value_from_members versions.One c d is h =
    object_from (members_by versions.One c) d is.0 refl (h.edges, (h.grain, (h.modulus, (h.order, (h.processes, (h.signals, (is.1, tt)))))))
value_from_members (versions.Two displays) c d is h =
    object_from (members_by (versions.Two displays) c) d is.0 refl (is.2, (h.edges, (h.grain, (h.modulus, (h.order, (h.processes, (h.signals, (is.1, tt))))))))
value_from_members (versions.Three displays) c d is h =
    object_from (members_by (versions.Three displays) c) d is.0 refl (is.2, (h.edges, (h.grain, (h.modulus, (h.order, (h.processes, (h.signals, (is.1, tt))))))))
