use Rattle.std.proofs.Common.{◌≡◌, map, arith}
use Rattle.std.proofs.lemmas.Result.{err_from_is_err_and}
use Rattle.vs_widths.specs.Names.{meaning_of}
use Rattle.vs_scopes.specs.Reads.{read_piece}
use Rattle.vs_scopes.specs.Generate.{after_piece, constructs_fault, inner_from}
use Rattle.vs_elab_constants.specs.Reads.{read_inners}
use Rattle.vs_elab_constants.proofs.OpeningLemmas.{construct_next, plain_next, fault_on, inner_on, fault_at}
use Rattle.vs_elab_constants.proofs.opening.inners.Goals as goal
use Rattle.vs_elab_constants.proofs.opening.inners.Goals.{then-is_construct, else-is_construct}

pub returns-in_err-add_piece : goal.returns-in_err-add_piece
returns-in_err-add_piece c = λ ns a.
    let env = meaning_of c.args.names.now in
    let l = c.loop-place in
    let xs = c.args.pieces.now in
    let p = err_from_is_err_and c.from_residual.result c.from_residual.ensures.1 in
    rw (p.1, p.2)
    (fault_at env ns l.number l.number xs l.place c.index-pieces-place.result (omega arith) c.index-pieces-place.is (λ r. constructs_fault r env ns 1 (map read_piece xs)) _ (l.invariant.faults ns a) (c.in_err-add_piece.ensures ns a))

pub loop-place-preserved : goal.loop-place-preserved
loop-place-preserved c =
    let env = meaning_of c.args.names.now in
    let l = c.loop-place in
    let xs = c.args.pieces.now in
    let x = c.index-pieces-place.result in
    let next : c.if-is_construct.number ≡ after_piece l.number (read_piece x) =
    elim c.if-is_construct.branch [
      | then-is_construct w ↦ construct_next l.number c.if-is_construct.number c.is_construct.result (read_piece x) c.is_construct.ensures w.number-is w.if-is_construct.true
      | else-is_construct w ↦ plain_next l.number c.if-is_construct.number c.is_construct.result (read_piece x) c.is_construct.ensures w.number-is w.if-is_construct.false
    ] in
    record {
      few = elim c.if-is_construct.branch [ then-is_construct w ↦ omega arith | else-is_construct w ↦ omega arith ];
      faults = λ ns a r.
          fault_on env ns l.number c.if-is_construct.number xs l.place x (omega arith) c.index-pieces-place.is r (constructs_fault r env ns 1 (map read_piece xs)) next ((c.in_ok-add_piece.ensures ns a).0 r) (l.invariant.faults ns a r);
      made = λ ns a.
          inner_on env ns l.number c.if-is_construct.number xs l.place x (omega arith) c.index-pieces-place.is (read_inners l.all.items) (read_inners c.add_piece.new.inners.items) (inner_from 0 env ns 1 (map read_piece xs)) next
          (c.in_ok-add_piece.ensures ns a).1 (l.invariant.made ns a);
    }
