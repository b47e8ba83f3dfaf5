use Rattle.std.proofs.Common.{arith}
use Rattle.vs_vcd_writing.proofs.PlanesLemmas.{word_at, word_put}
use Rattle.vs_vcd_writing.proofs.planes.Planes.set.Goals as goal

pub index_mut-requires : goal.index_mut-requires
index_mut-requires c =
    let s = c.self.inside in
    omega (arith, (word_at s.widths.items s.values.items s.unknowns.items c.args.index c.args.self.now c.self.invariant c.self.view_is c.requires).in_widths)

pub index_mut-requires-2 : goal.index_mut-requires-2
index_mut-requires-2 c =
    let s = c.self.inside in
    omega (arith, (word_at s.widths.items s.values.items s.unknowns.items c.args.index c.args.self.now c.self.invariant c.self.view_is c.requires).in_values)

pub index_mut-requires-3 : goal.index_mut-requires-3
index_mut-requires-3 c =
    let s = c.self.inside in
    omega (arith, (word_at s.widths.items s.values.items s.unknowns.items c.args.index c.args.self.now c.self.invariant c.self.view_is c.requires).in_unknowns)

pub invariant_of-self : goal.invariant_of-self
invariant_of-self c =
    let s = c.self.inside in
    (word_put s.widths.items s.values.items s.unknowns.items c.args.index c.width.result c.value_plane.result c.unknown_plane.result c.args.word c.args.self.now
    c.self.invariant c.self.view_is c.requires c.width.ensures.digits c.value_plane.ensures c.unknown_plane.ensures c.width.ensures.some c.width.ensures.most).0

pub returns : goal.returns
returns c =
    let s = c.self.inside in
    (word_put s.widths.items s.values.items s.unknowns.items c.args.index c.width.result c.value_plane.result c.unknown_plane.result c.args.word c.args.self.now
    c.self.invariant c.self.view_is c.requires c.width.ensures.digits c.value_plane.ensures c.unknown_plane.ensures c.width.ensures.some c.width.ensures.most).1
