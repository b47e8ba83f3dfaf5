-- Which designs have a `$display`.
use Rattle.std.specs.Prelude.{Bool, true, false, ◌||◌}
use Rattle.std.specs.List.{list_any}
use Rattle.std.specs.declared.vec.Vec.{Vec}
use Rattle.std.specs.declared.alloc.Global.{Global}
use Rattle.vs_design.specs.declared.design.Process.{Process}
use Rattle.vs_design.specs.declared.expression.Typed.{Typed}
use Rattle.vs_design.specs.declared.statement.CallKind.{CallKind}
use Rattle.vs_design.specs.declared.statement.CallKind.TheVariants.{Display, Strobe}
use Rattle.vs_design.specs.declared.statement.Statement.{Statement}
use Rattle.vs_design.specs.declared.statement.Statement.TheOpen.{Statement-F}
use Rattle.vs_design.specs.declared.statement.Statement.TheOpen as f
use Rattle.vs_design.specs.declared.statement.Statement.TheFolds.{fold-Statement}
use Rattle.vs_design.specs.Parts.{Parts}

-- whether a call is one of `$display` (clause 17.1.1)
abbrev pub is_display : CallKind → Bool
is_display Display = true
is_display Strobe = false

-- one layer of a statement: whether it has a `$display`, with the answer for each inner statement in its place
abbrev pub has_display_step : Statement-F Bool → Bool
has_display_step (f.Null n) = false
has_display_step (f.Assign n t e) = false
has_display_step (f.Later n ticks t e) = false
has_display_step (f.Call n c) = is_display c.kind
has_display_step (f.Finish n) = false
has_display_step (f.Block all) = list_any (λ b. b) all.items
has_display_step (f.Delay n ticks body) = body.value
has_display_step (f.Event n terms body) = body.value
has_display_step (f.If n e a b) = a.value || b.value
has_display_step (f.Case n kind x items) = list_any (λ (i : Vec Typed Global × Bool). i.1) items.items
has_display_step (f.While n e body) = body.value
has_display_step (f.Repeat n signed e body) = body.value
has_display_step (f.Forever n body) = body.value

-- whether a statement has a `$display`
abbrev pub has_display : Statement → Bool
has_display = fold-Statement Bool has_display_step

-- whether a process of a design has one
abbrev pub prints_at_once : Parts → Bool
prints_at_once d = list_any (λ (p : Process). has_display p.body) d.processes
