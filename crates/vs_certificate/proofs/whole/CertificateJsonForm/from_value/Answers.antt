use Rattle.serde_json.specs.View.{view}
use Rattle.vs_certificate.specs.Shape.{is_natural}
use Rattle.vs_certificate.proofs.Found.{certificate_parts}
use Rattle.vs_certificate.proofs.Versions.{value_from_members}
use Rattle.vs_certificate.proofs.whole.CertificateJsonForm.from_value.Goals as goal

pub version_from_value-requires : goal.version_from_value-requires
version_from_value-requires c = (certificate_parts is_natural (view c.args.json.now) c.requires).version

pub from_value_at-requires : goal.from_value_at-requires
from_value_at-requires c = (certificate_parts is_natural (view c.args.json.now) c.requires).grain

pub from_value_at-requires-2 : goal.from_value_at-requires-2
from_value_at-requires-2 c = (certificate_parts is_natural (view c.args.json.now) c.requires).modulus

pub from_value_at-requires-3 : goal.from_value_at-requires-3
from_value_at-requires-3 c = (certificate_parts is_natural (view c.args.json.now) c.requires).edges

pub from_value_at-requires-4 : goal.from_value_at-requires-4
from_value_at-requires-4 c = (certificate_parts is_natural (view c.args.json.now) c.requires).order

pub from_value_at-requires-5 : goal.from_value_at-requires-5
from_value_at-requires-5 c = (certificate_parts is_natural (view c.args.json.now) c.requires).processes

pub from_value_at-requires-6 : goal.from_value_at-requires-6
from_value_at-requires-6 c = (certificate_parts is_natural (view c.args.json.now) c.requires).signals

pub returns : goal.returns
returns c =
    value_from_members c.in_ok-version.version _ (view c.args.json.now) c.in_ok-version.ensures
    record { edges = c.in_ok-edges.ensures; grain = c.in_ok-grain.ensures; modulus = c.in_ok-modulus.ensures; order = c.in_ok-order.ensures; processes = c.in_ok-processes.ensures; signals = c.in_ok-signals.ensures }
