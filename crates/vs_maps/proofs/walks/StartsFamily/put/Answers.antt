use Rattle.std.proofs.Common.{IsTrue, false, slice_index_or, refl}
use Rattle.vs_process.specs.Stops.{stops_tos}
use Rattle.vs_maps.specs.Reaches.{IsPlace}
use Rattle.vs_maps.proofs.MarkLemmas.{put_more}
use Rattle.vs_maps.proofs.walks.StartsFamily.put.Goals as goal

pub returns-in_ok-extend_from_slice : goal.returns-in_ok-extend_from_slice
returns-in_ok-extend_from_slice c =
    put_more (IsPlace c.args.self.now.tables.now c.args.i × IsTrue (slice_index_or c.args.self.now.marks.now c.args.i false)) c.args.out.now.items c.tos.result.now
    c.extend_from_slice.new.self.items (stops_tos c.args.self.now.tables.now.stops c.args.i) (c.if-is_point.ensures.0 refl, c.if-self-i.true) c.in_ok-extend_from_slice.ensures.items c.tos.ensures.are
