use Rattle.std.proofs.Common.{Some, length, sym, ap, subst, ◌∙◌}
use Rattle.vs_vcd_writing.specs.Progress.{Follows}
use Rattle.vs_vcd_writing.specs.Rooms.{IsRoom}
use Rattle.vs_vcd_writing.proofs.KeptLemmas.{changes_within, follows, length-behind}
use Rattle.vs_vcd_writing.proofs.writer.Writer.write_next.Goals as goal

pub keep-requires : goal.keep-requires
keep-requires g c =
    changes_within c.self.inside.kept c.self.inside.last c.args.all c.args.marks.now c.args.store.now c.deref.result.now
    (c.deref.ensures.value ∙ c.in_ok-written.ensures.changes)

pub returns-clause-follows : goal.returns-clause-follows
returns-clause-follows g c =
    subst (λ w. Follows w (record { kept = c.keep.new.self; last = Some c.in_ok-written.written }) c.args.all c.args.marks.now c.args.time c.args.store.now) c.self.view_is
    (follows (record { kept = c.self.inside.kept; last = c.self.inside.last }) (record { kept = c.keep.new.self; last = Some c.in_ok-written.written })
    c.args.all c.args.marks.now c.args.time c.args.store.now c.deref.result.now
    (c.deref.ensures.value ∙ c.in_ok-written.ensures.changes)
    c.keep.ensures
    (ap Some c.in_ok-written.ensures.time))

pub invariant_of-self-2 : goal.invariant_of-self-2
invariant_of-self-2 g c =
    subst (IsRoom c.write_slot.new.room) (sym (ap length c.keep.ensures ∙ length-behind c.self.inside.kept c.deref.result.now)) c.write_slot.ensures.room
