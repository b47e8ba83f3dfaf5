use Rattle.std.proofs.Common.{rules, ◌≡◌, ◌∙◌, ap, subst, List, length, vec_len}
use Rattle.vs_design.specs.declared.design.Assign.{Assign}
use Rattle.vs_design.specs.declared.design.Process.{Process}
use Rattle.vs_design.specs.Tables.{tabled, heard, empty_rows, AreExtents}
use Rattle.vs_design.proofs.Tables.{table_is, listeners_are}
use Rattle.vs_design.proofs.design.Design.new.Goals as goal

pub invariant_of-result : goal.invariant_of-result
invariant_of-result c =
    let signals = c.args.signals.items in
    let assigns = c.args.assigns.items in
    let processes = c.args.processes.items in
    let len : vec_len c.args.signals ≡ length signals = search rules in
    let formed = c.requires.well_formed in
    (formed, table_is signals assigns c.in_ok-readers.readers.items formed.assigns (c.in_ok-readers.ensures ∙ ap (λ (l : List Assign). tabled 0 l (empty_rows c.len.result)) c.deref.ensures.value ∙ ap (λ n. tabled 0 assigns (empty_rows n)) (c.len.ensures ∙ len)), listeners_are signals processes c.in_ok-listeners.listeners.items formed.processes (c.in_ok-listeners.ensures ∙ ap (λ (l : List Process). heard 0 l (empty_rows c.len-2.result)) c.deref-2.ensures.value ∙ ap (λ n. heard 0 processes (empty_rows n)) (c.len-2.ensures ∙ len)), subst (λ ss. AreExtents ss c.in_ok-extents.extents.items) c.deref-3.ensures.value c.in_ok-extents.ensures)
