use Rattle.std.proofs.Common.{length, slice_index, slice_get, ap, ap₂, sym, ◌∙◌, arith}
use Rattle.vs_design.specs.vs_logic4.specs.Changes.{change}
use Rattle.vs_vcd_writing.proofs.PlanesLemmas.{length_by, words_same}
use Rattle.vs_vcd_writing.proofs.planes.Planes.compare.Goals as goal

pub compare_plane-requires-clause-within : goal.compare_plane-requires-clause-within
compare_plane-requires-clause-within c =
    let s = c.self.inside in
    omega (arith, c.requires.within, ap length c.deref.ensures.value, (length_by s.widths.items s.values.items s.unknowns.items c.args.self.now c.self.invariant c.self.view_is).0)

pub compare_plane-requires-clause-new_len : goal.compare_plane-requires-clause-new_len
compare_plane-requires-clause-new_len c =
    let s = c.self.inside in
    let n = c.new.inside in
    ap length c.deref-2.ensures.value ∙ (length_by n.widths.items n.values.items n.unknowns.items c.args.new.now c.new.invariant c.new.view_is).0 ∙ c.requires.new_len
    ∙ sym (ap length c.deref.ensures.value ∙ (length_by s.widths.items s.values.items s.unknowns.items c.args.self.now c.self.invariant c.self.view_is).0)

pub compare_plane-requires-clause-flags_len : goal.compare_plane-requires-clause-flags_len
compare_plane-requires-clause-flags_len c =
    let s = c.self.inside in
    c.requires.widths_len ∙ sym (ap length c.deref.ensures.value ∙ (length_by s.widths.items s.values.items s.unknowns.items c.args.self.now c.self.invariant c.self.view_is).0)

pub compare_plane-requires-2-clause-within : goal.compare_plane-requires-2-clause-within
compare_plane-requires-2-clause-within c =
    let s = c.self.inside in
    omega (arith, c.requires.within, ap length c.deref-3.ensures.value, (length_by s.widths.items s.values.items s.unknowns.items c.args.self.now c.self.invariant c.self.view_is).1)

pub compare_plane-requires-2-clause-new_len : goal.compare_plane-requires-2-clause-new_len
compare_plane-requires-2-clause-new_len c =
    let s = c.self.inside in
    let n = c.new.inside in
    ap length c.deref-4.ensures.value ∙ (length_by n.widths.items n.values.items n.unknowns.items c.args.new.now c.new.invariant c.new.view_is).1 ∙ c.requires.new_len
    ∙ sym (ap length c.deref-3.ensures.value ∙ (length_by s.widths.items s.values.items s.unknowns.items c.args.self.now c.self.invariant c.self.view_is).1)

pub compare_plane-requires-2-clause-flags_len : goal.compare_plane-requires-2-clause-flags_len
compare_plane-requires-2-clause-flags_len c =
    let s = c.self.inside in
    c.requires.values_len ∙ sym (ap length c.deref-3.ensures.value ∙ (length_by s.widths.items s.values.items s.unknowns.items c.args.self.now c.self.invariant c.self.view_is).1)

pub compare_plane-requires-3-clause-within : goal.compare_plane-requires-3-clause-within
compare_plane-requires-3-clause-within c =
    let s = c.self.inside in
    omega (arith, c.requires.within, ap length c.deref-5.ensures.value, (length_by s.widths.items s.values.items s.unknowns.items c.args.self.now c.self.invariant c.self.view_is).2)

pub compare_plane-requires-3-clause-new_len : goal.compare_plane-requires-3-clause-new_len
compare_plane-requires-3-clause-new_len c =
    let s = c.self.inside in
    let n = c.new.inside in
    ap length c.deref-6.ensures.value ∙ (length_by n.widths.items n.values.items n.unknowns.items c.args.new.now c.new.invariant c.new.view_is).2 ∙ c.requires.new_len
    ∙ sym (ap length c.deref-5.ensures.value ∙ (length_by s.widths.items s.values.items s.unknowns.items c.args.self.now c.self.invariant c.self.view_is).2)

pub compare_plane-requires-3-clause-flags_len : goal.compare_plane-requires-3-clause-flags_len
compare_plane-requires-3-clause-flags_len c =
    let s = c.self.inside in
    c.requires.unknowns_len ∙ sym (ap length c.deref-5.ensures.value ∙ (length_by s.widths.items s.values.items s.unknowns.items c.args.self.now c.self.invariant c.self.view_is).2)

pub returns : goal.returns
returns c k x y ge lt old new =
    let s = c.self.inside in
    let n = c.new.inside in
    let first = length_by s.widths.items s.values.items s.unknowns.items c.args.self.now c.self.invariant c.self.view_is in
    let second = length_by n.widths.items n.values.items n.unknowns.items c.args.new.now c.new.invariant c.new.view_is in
    words_same s.widths.items s.values.items s.unknowns.items n.widths.items n.values.items n.unknowns.items k _ _ _ x y c.self.invariant c.new.invariant
    (omega (arith, lt, c.requires.within, first.0)) (omega (arith, lt, c.requires.within, c.requires.new_len, second.0))
    (c.compare_plane.ensures k ge lt ∙ ap₂ (λ l m. change (slice_index l k) (slice_index m k)) c.deref.ensures.value c.deref-2.ensures.value)
    (c.compare_plane-2.ensures k ge lt ∙ ap₂ (λ l m. change (slice_index l k) (slice_index m k)) c.deref-3.ensures.value c.deref-4.ensures.value)
    (c.compare_plane-3.ensures k ge lt ∙ ap₂ (λ l m. change (slice_index l k) (slice_index m k)) c.deref-5.ensures.value c.deref-6.ensures.value)
    (ap (λ l. slice_get l k) c.self.view_is ∙ old) (ap (λ l. slice_get l k) c.new.view_is ∙ new)
