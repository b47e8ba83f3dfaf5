use Rattle.std.proofs.Common.{Some, ap, sym, ◌∙◌, arith}
use Rattle.vs_vcd_writing.proofs.PlanesLemmas.{word_at, read, found_is}
use Rattle.vs_vcd_writing.proofs.planes.Planes.word.Goals as goal

pub index-requires : goal.index-requires
index-requires c =
    let s = c.self.inside in
    omega (arith, (word_at s.widths.items s.values.items s.unknowns.items c.args.index c.args.self.now c.self.invariant c.self.view_is c.requires).in_widths)

pub overflow_cast-index : goal.overflow_cast-index
overflow_cast-index c =
    let s = c.self.inside in
    let at = word_at s.widths.items s.values.items s.unknowns.items c.args.index c.args.self.now c.self.invariant c.self.view_is c.requires in
    omega (arith, read s.widths.items c.args.index c.index.result.now at.in_widths c.index.ensures, at.is_word.most)

pub index-requires-2 : goal.index-requires-2
index-requires-2 c =
    let s = c.self.inside in
    omega (arith, (word_at s.widths.items s.values.items s.unknowns.items c.args.index c.args.self.now c.self.invariant c.self.view_is c.requires).in_values)

pub index-requires-3 : goal.index-requires-3
index-requires-3 c =
    let s = c.self.inside in
    omega (arith, (word_at s.widths.items s.values.items s.unknowns.items c.args.index c.args.self.now c.self.invariant c.self.view_is c.requires).in_unknowns)

pub from_planes-requires-clause-some : goal.from_planes-requires-clause-some
from_planes-requires-clause-some c =
    let s = c.self.inside in
    let at = word_at s.widths.items s.values.items s.unknowns.items c.args.index c.args.self.now c.self.invariant c.self.view_is c.requires in
    omega (arith, read s.widths.items c.args.index c.index.result.now at.in_widths c.index.ensures, at.is_word.some)

pub from_planes-requires-clause-most : goal.from_planes-requires-clause-most
from_planes-requires-clause-most c =
    let s = c.self.inside in
    let at = word_at s.widths.items s.values.items s.unknowns.items c.args.index c.args.self.now c.self.invariant c.self.view_is c.requires in
    omega (arith, read s.widths.items c.args.index c.index.result.now at.in_widths c.index.ensures, at.is_word.most)

pub returns : goal.returns
returns c =
    let s = c.self.inside in
    let at = word_at s.widths.items s.values.items s.unknowns.items c.args.index c.args.self.now c.self.invariant c.self.view_is c.requires in
    found_is s.widths.items s.values.items s.unknowns.items c.args.index c.index.result.now c.index-2.result.now c.index-3.result.now c.args.self.now at
    c.index.ensures c.index-2.ensures c.index-3.ensures ∙ ap Some (sym c.from_planes.ensures)
