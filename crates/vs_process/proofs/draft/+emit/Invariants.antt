use Rattle.std.proofs.Common.{take, drop}
use Rattle.vs_process.specs.Drafts.{flat_all, numbers_all, numbers_in, IsEmitted, IsReady, Written, drafted, AlwaysLeadAll, Adds}
use Rattle.vs_process.proofs.draft.+emit.Given as goal

abbrev pub invariant-emit_all-loop-i : goal.invariant-emit_all-loop-i
invariant-emit_all-loop-i l = record {
  emitted : IsEmitted l.fn.draft l.draft (flat_all (drop l.i l.all)) l.next l.place;
  numbers : Adds l.fn.draft l.draft (numbers_all (drop l.i l.all));
}

abbrev pub invariant-emit_items-loop-s : goal.invariant-emit_items-loop-s
invariant-emit_items-loop-s l = record {
  ready : IsReady l.draft l.next l.depth;
  written : Written l.fn.draft l.draft;
  leads : AlwaysLeadAll (drafted l.draft) (take l.s-index l.items) l.starts.items l.next;
  numbers : Adds l.fn.draft l.draft (numbers_in (take l.s-index l.items));
}
