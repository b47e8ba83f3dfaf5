use Rattle.std.proofs.Common.{[], ◌∷◌, codes, refl}
use Rattle.std.proofs.lemmas.Bool.{and_parts}
use Rattle.serde_json.specs.View.{view}
use Rattle.vs_certificate.specs.JsonValue.{text_value, mode_value}
use Rattle.vs_certificate.proofs.Names.{object_from}
use Rattle.vs_certificate.proofs.entries.SignalEntryJsonForm.from_value.Goals as goal

pub from_value_at-requires : goal.from_value_at-requires
from_value_at-requires c = (and_parts _ _ (and_parts _ _ (and_parts _ _ (and_parts _ _ c.requires).0).0).0).1

pub from_value_at-requires-2 : goal.from_value_at-requires-2
from_value_at-requires-2 c = (and_parts _ _ (and_parts _ _ (and_parts _ _ c.requires).0).0).1

pub from_value_at-requires-3 : goal.from_value_at-requires-3
from_value_at-requires-3 c = (and_parts _ _ (and_parts _ _ c.requires).0).1

pub returns : goal.returns
returns c =
    let named = (and_parts _ _ (and_parts _ _ (and_parts _ _ (and_parts _ _ c.requires).0).0).0).0 in
    object_from ((codes "mode", mode_value c.in_ok-mode.mode) ∷ (codes "name", text_value c.in_ok-name.name) ∷ (codes "second", text_value c.in_ok-second.second) ∷ (codes "writer", text_value c.in_ok-writer.writer) ∷ [])
    (view c.args.json.now) named refl (c.in_ok-mode.ensures, (c.in_ok-name.ensures, (c.in_ok-second.ensures, (c.in_ok-writer.ensures, tt))))
