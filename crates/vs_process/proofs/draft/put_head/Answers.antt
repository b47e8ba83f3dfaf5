use Rattle.std.proofs.Common.{ap, ◌∙◌, ◌∷◌, [], length, arith, refl, slice_get, List}
use Rattle.std.proofs.lemmas.List.{length-append}
use Rattle.vs_process.specs.declared.draft.Op.{Op}
use Rattle.vs_process.specs.declared.draft.Extra.TheVariants.{Nothing}
use Rattle.vs_design.specs.vs_logic4.proofs.Basics.{at_end as at_seam}
use Rattle.vs_process.proofs.Drafts.{longer_put}
use Rattle.vs_process.proofs.Numbers.{adds_put}
use Rattle.vs_process.proofs.draft.put_head.Goals as goal

pub returns-clause-head : goal.returns-clause-head
returns-clause-head c =
    let op : Op = record { task = c.args.task; behind = c.args.next; first = c.args.next; second = c.args.next; counter = c.args.depth; extra = Nothing } in
    record {
      more = longer_put c.args.draft.now c.put.new.draft op c.requires.ready.linked c.in_ok-place.ensures.ops (omega (arith, c.in_ok-place.ensures.counters)) c.requires.ready.within;
      counters = c.in_ok-place.ensures.counters;
      here = c.in_ok-place.ensures.place;
      last = omega (arith, ap length c.in_ok-place.ensures.ops, length-append c.args.draft.now.ops.items (op ∷ []));
      op = op;
      is = ap (λ (k : List Op). slice_get k (length c.args.draft.now.ops.items)) c.in_ok-place.ensures.ops ∙ at_seam c.args.draft.now.ops.items op;
      does = refl;
      behind = refl;
      counter = refl;
    }

pub returns-clause-number : goal.returns-clause-number
returns-clause-number c =
    let op : Op = record { task = c.args.task; behind = c.args.next; first = c.args.next; second = c.args.next; counter = c.args.depth; extra = Nothing } in
    adds_put c.args.draft.now c.put.new.draft op c.in_ok-place.ensures.ops
