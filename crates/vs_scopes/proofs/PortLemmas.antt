-- The ports of a header, an element at a time.
use Rattle.std.proofs.Common.{◌≡◌, ℕ, ◌+◌, ◌<◌, List, ◌∷◌, Option, length, drop, get_or, ap, sym, ◌∙◌}
use Rattle.vs_syntax.specs.declared.tree.Port.{Port}
use Rattle.vs_syntax.specs.declared.tree.PortForm.{PortForm}
use Rattle.vs_scopes.specs.Overrides.{said}
use Rattle.vs_design.specs.vs_logic4.proofs.Basics.{front_of as drop_at}
use Rattle.vs_scopes.specs.Ports.{port_as, ports_from}

pub port_at : (before : Option PortForm) (ps : List Port) (i : ℕ) (p : Port) (now : Option PortForm) → i < length ps → p ≡ get_or ps i p → now ≡ said before p.form → ports_from before (drop i ps) ≡ port_as now p.name.items p.value ∷ ports_from now (drop (i + 1) ps)
port_at before ps i p now h k e = ap (ports_from before) (drop_at ps i p h k) ∙ ap (λ z. port_as z p.name.items p.value ∷ ports_from z (drop (i + 1) ps)) (sym e)
