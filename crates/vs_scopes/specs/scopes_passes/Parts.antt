-- What the functions on ports, connections and parameters answer.
use Rattle.vs_scopes.specs.Ports.{PortSource, by_header, by_item, by_items, by_none, ModulePort}
use Rattle.vs_scopes.specs.declared.ports.ModulePort.{ModulePort as FoundPort}
use Rattle.vs_scopes.specs.declared.ports.PortSource.{PortSource as FoundSource}
use Rattle.vs_scopes.specs.declared.ports.PortSource.TheVariants as q
pub use Rattle.vs_scopes.specs.declared.parameters.Parameter.{Parameter as FoundParameter}
pub use Rattle.vs_scopes.specs.declared.parameters.Given.{Given as FoundGiven}
pub use Rattle.vs_scopes.specs.passes.Ends.{read_end, read_ends, AreEnds, value_under, Gathers, IsSet, is_named_mismatch, GathersMore, GathersAll, read_parameter, read_given, AreOverrides, AreGiven}

-- what says which way a port goes
abbrev pub read_source : FoundSource → PortSource
read_source q.Header = by_header
read_source q.Item = by_item
read_source q.Items = by_items
read_source q.Nothing = by_none

-- a port, by what it refers to
abbrev pub read_port : FoundPort → ModulePort
read_port x = record {
  direction = x.direction;
  kind = x.kind;
  form = record { signed = x.signed; range = read_end x.range };
  name = x.name.now;
  value = read_end x.value;
  source = read_source x.source;
}
