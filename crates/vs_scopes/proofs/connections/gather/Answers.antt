use Rattle.std.proofs.Common.{◌≡◌, is_some, true, ap, sym, ◌∙◌}
use Rattle.vs_widths.specs.Names.{meaning_of}
use Rattle.vs_scopes.proofs.ConnectionLemmas.{gathers_more}
use Rattle.vs_scopes.proofs.connections.gather.Goals as goal

pub returns : goal.returns
returns c ns cs s h =
    let set = c.args.set.now in
    let n = c.args.connection.now.name.items in
    let some : is_some (meaning_of set n) ≡ true = ap is_some (sym (c.find.ensures ∙ ap (meaning_of set) c.deref.ensures.value)) ∙ c.if-is_none.ensures in
    gathers_more ns cs c.args.connection.now set c.args.given.now s h c.declare.new.self c.as_ref.result c.as_ref.ensures.value c.in_ok-fresh.fresh some (rw c.deref-2.ensures.value at c.in_ok-fresh.ensures)
