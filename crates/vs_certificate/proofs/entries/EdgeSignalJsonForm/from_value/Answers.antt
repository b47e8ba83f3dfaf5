use Rattle.std.proofs.Common.{[], ◌∷◌, codes, refl}
use Rattle.std.proofs.lemmas.Bool.{and_parts}
use Rattle.serde_json.specs.View.{view}
use Rattle.vs_certificate.specs.JsonValue.{text_value}
use Rattle.vs_certificate.proofs.Names.{object_from}
use Rattle.vs_certificate.proofs.entries.EdgeSignalJsonForm.from_value.Goals as goal

pub from_value_at-requires : goal.from_value_at-requires
from_value_at-requires c = (and_parts _ _ (and_parts _ _ c.requires).0).1

pub from_value_at-requires-2 : goal.from_value_at-requires-2
from_value_at-requires-2 c = (and_parts _ _ c.requires).1

pub returns : goal.returns
returns c =
    let named = (and_parts _ _ (and_parts _ _ c.requires).0).0 in
    object_from ((codes "root", text_value c.in_ok-root.root) ∷ (codes "signal", text_value c.in_ok-signal.signal) ∷ []) (view c.args.json.now) named refl (c.in_ok-root.ensures, (c.in_ok-signal.ensures, tt))
