use Rattle.std.proofs.Common.{rules, refl, ◌/◌}
use Rattle.std.specs.Prelude.{slice_index}
use Rattle.vs_vcd_writing.proofs.MarkLemmas.{mark_in, mark_behind}
use Rattle.vs_vcd_writing.proofs.marks.next_mark.Goals as goal

pub returns-then-rest-eq0 : goal.returns-then-rest-eq0
returns-then-rest-eq0 c = mark_behind c.args.marks.now (c.args.from / 64) c.args.from _ c.first_mark.result refl refl c.if-rest-eq0.true c.first_mark.ensures

pub returns : goal.returns
returns c =
    (mark_in c.args.marks.now (c.args.from / 64) c.args.from (slice_index c.args.marks.now (c.args.from / 64)) _ refl refl (search rules) refl c.if-rest-eq0.false).1
