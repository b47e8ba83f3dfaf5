use Rattle.std.proofs.Common.{◌≡◌, length, refl, arith}
use Rattle.vs_run_active.proofs.RowsLemmas.{row_added}
use Rattle.vs_run_active.proofs.rows.add_row.Goals as goal

pub returns : goal.returns
returns c =
    let a : c.len-readers.result ≡ length c.args.watchers.now.items = omega (arith, c.len-readers.ensures, c.args.watchers.now.ok.0) in
    let b : c.len-any.result ≡ length c.add.new.watchers.items = omega (arith, c.len-any.ensures, c.add.new.watchers.ok.0) in
    let d : c.len-rising.result ≡ length c.add_kind.new.watchers.items = omega (arith, c.len-rising.ensures, c.add_kind.new.watchers.ok.0) in
    let e : c.len-falling.result ≡ length c.add_kind-2.new.watchers.items = omega (arith, c.len-falling.ensures, c.add_kind-2.new.watchers.ok.0) in
    let f : c.len-end.result ≡ length c.add_kind-3.new.watchers.items = omega (arith, c.len-end.ensures, c.add_kind-3.new.watchers.ok.0) in
    row_added c.args.groups.now c.add.new.self c.args.watchers.now.items c.add.new.watchers.items c.add_kind.new.watchers.items c.add_kind-2.new.watchers.items c.add_kind-3.new.watchers.items
    c.args.plain.now c.args.terms.now c.len-readers.result c.len-any.result c.len-rising.result c.len-falling.result c.len-end.result _ c.in_ok-add.ensures a b d e f
    c.in_ok-add_kind.ensures c.in_ok-add_kind-2.ensures c.in_ok-add_kind-3.ensures refl
