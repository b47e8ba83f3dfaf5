use Rattle.std.proofs.Common.{[], ◌∷◌, codes, refl}
use Rattle.std.proofs.lemmas.Bool.{and_parts}
use Rattle.serde_json.specs.Data.{string}
use Rattle.serde_json.specs.View.{view}
use Rattle.vs_certificate.specs.JsonValue.{text_value, kind_word, slots_value, start_value}
use Rattle.vs_certificate.proofs.Names.{object_from}
use Rattle.vs_certificate.proofs.processes.ProcessEntryJsonForm.from_value.Goals as goal

pub kind_from_value-requires : goal.kind_from_value-requires
kind_from_value-requires c = (and_parts _ _ c.requires).1

pub from_value_at-requires : goal.from_value_at-requires
from_value_at-requires c = (and_parts _ _ (and_parts _ _ c.requires).0).1

pub returns : goal.returns
returns c =
    let named = (and_parts _ _ (and_parts _ _ c.requires).0).0 in
    let kind = c.in_ok-kind.kind in
    let k = c.in_ok-kind.ensures in
    object_from ((codes "kind", string (kind_word kind)) ∷ (codes "name", text_value c.in_ok-name.name) ∷ (codes "slots", slots_value kind) ∷ (codes "start", start_value kind) ∷ []) (view c.args.json.now) named refl
    (k.0, (c.in_ok-name.ensures, (k.1, (k.2, tt))))
