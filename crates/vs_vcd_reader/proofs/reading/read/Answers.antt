use Rattle.std.proofs.Common.{◌≡◌, [], ◌∷◌, refl, sym, ◌∙◌, rules}
use Rattle.std.proofs.lemmas.Result.{err_from_is_err_and}
use Rattle.vs_vcd_reader.specs.declared.dump.Dump.{Dump}
use Rattle.vs_vcd_reader.specs.declared.dump.Moment.{Moment}
use Rattle.vs_vcd_reader.proofs.FaultLemmas.{fault_is}
use Rattle.vs_vcd_reader.proofs.ReadLemmas.{after_end, after_header, after_tick, closed_sizes, dump_read, values_sized}
use Rattle.vs_vcd_reader.proofs.reading.read.Goals as goal

pub returns-in_err-tick-clause-fault : goal.returns-in_err-tick-clause-fault
returns-in_err-tick-clause-fault c =
    let p = err_from_is_err_and c.from_residual.result c.from_residual.ensures.1 in rw (p.1, p.2) (fault_is c.args.text.now _ c.in_err-tick.ensures)

pub returns-in_err-header-clause-fault : goal.returns-in_err-header-clause-fault
returns-in_err-header-clause-fault c =
    let p = err_from_is_err_and c.from_residual-in_err-header.result c.from_residual-in_err-header.ensures.1 in
    rw (p.1, p.2) (after_tick c.args.text.now c.in_ok-tick.after_tick.now c.in_ok-tick.tick _ c.in_ok-tick.ensures c.in_err-header.ensures)

pub read_first-requires : goal.read_first-requires
read_first-requires c =
    closed_sizes c.in_ok-tick.after_tick.now c.in_ok-header.after_header.now c.in_ok-header.header c.deref.result.now c.in_ok-header.ensures c.deref.ensures.value

pub returns-in_err-changes-clause-fault : goal.returns-in_err-changes-clause-fault
returns-in_err-changes-clause-fault c =
    let p = err_from_is_err_and c.from_residual-in_err-changes.result c.from_residual-in_err-changes.ensures.1 in
    rw (p.1, p.2)
    (after_tick c.args.text.now c.in_ok-tick.after_tick.now c.in_ok-tick.tick _ c.in_ok-tick.ensures
    (after_header c.in_ok-tick.after_tick.now c.in_ok-header.after_header.now c.in_ok-header.header c.deref.result.now _ c.in_ok-header.ensures c.deref.ensures.value
    c.in_err-changes.ensures))

pub read_later-requires-clause-sizes : goal.read_later-requires-clause-sizes
read_later-requires-clause-sizes c =
    closed_sizes c.in_ok-tick.after_tick.now c.in_ok-header.after_header.now c.in_ok-header.header c.deref-3.result.now c.in_ok-header.ensures c.deref-3.ensures.value

pub read_later-requires-clause-values : goal.read_later-requires-clause-values
read_later-requires-clause-values c =
    values_sized c.in_ok-header.after_header.now c.in_ok-changes.rest.now c.deref.result.now c.deref-3.result.now c.in_ok-changes.changes.items c.deref-2.result.now
    c.in_ok-values.values.items c.in_ok-changes.ensures c.in_ok-values.ensures c.deref-2.ensures.value (c.deref-3.ensures.value ∙ sym c.deref.ensures.value)

pub returns-in_err-read_later-clause-fault : goal.returns-in_err-read_later-clause-fault
returns-in_err-read_later-clause-fault c =
    let p = err_from_is_err_and c.from_residual-in_err-read_later.result c.from_residual-in_err-read_later.ensures.1 in
    rw (p.1, p.2)
    (after_tick c.args.text.now c.in_ok-tick.after_tick.now c.in_ok-tick.tick _ c.in_ok-tick.ensures
    (after_header c.in_ok-tick.after_tick.now c.in_ok-header.after_header.now c.in_ok-header.header c.deref.result.now _ c.in_ok-header.ensures c.deref.ensures.value
    (after_end c.in_ok-header.after_header.now c.in_ok-changes.rest.now c.deref.result.now c.deref-3.result.now c.in_ok-changes.changes.items c.deref-2.result.now
    c.in_ok-values.values.items _ c.in_ok-changes.ensures c.in_ok-values.ensures c.deref-2.ensures.value (c.deref-3.ensures.value ∙ sym c.deref.ensures.value)
    c.in_err-read_later.ensures)))

pub returns-clause-dump : goal.returns-clause-dump
returns-clause-dump c =
    let first : Moment = record { time = 0; changes = c.in_ok-changes.changes } in
    let firsts : c.push.new.self.items ≡ first ∷ [] = search rules in
    let x : Dump = record { tick = c.in_ok-tick.tick; declarations = c.in_ok-header.header.declarations; moments = c.read_later.new.moments } in
    dump_read c.args.text.now c.in_ok-tick.after_tick.now c.in_ok-header.after_header.now c.in_ok-changes.rest.now c.in_ok-tick.tick c.in_ok-header.header
    c.deref.result.now c.deref-3.result.now c.in_ok-changes.changes.items c.deref-2.result.now first c.in_ok-values.values.items c.push.new.self.items
    c.read_later.new.moments.items x c.in_ok-tick.ensures c.in_ok-header.ensures c.deref.ensures.value c.in_ok-changes.ensures c.in_ok-values.ensures
    c.deref-2.ensures.value c.deref-3.ensures.value c.in_ok-read_later.ensures firsts refl refl refl refl refl
