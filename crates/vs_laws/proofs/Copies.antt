-- Copies of signals, and the edges at which their roots have those of event terms, of designs that say the same.
use Rattle.std.proofs.Common.{◌≡◌, ℕ, Bool, true, false, not, refl, ap, sym, ◌∙◌}
use Rattle.vs_design.specs.vs_logic4.specs.declared.edge.Edge.{Edge}
use Rattle.vs_design.specs.declared.expression.Typed.{Typed}
use Rattle.vs_design.specs.declared.statement.EventTerm.{EventTerm}
use Rattle.vs_design.specs.Parts.{Parts}
use Rattle.vs_design.specs.Uses.{writes}
use Rattle.vs_elab_statements.specs.vs_elab_signals.specs.Outlines.{Declared}
use Rattle.vs_elaborate.specs.vs_widths.specs.Layers.{layer_of}
use Rattle.vs_rules.specs.Constants.{IsWhole, Inverts}
use Rattle.vs_rules.specs.Copies.{IsOneBit, IsCopyBy, IsCopy, IsInverseCopy, CopiesRoot, itself, copy, inverse, is_odd, IsInverted, SeenAs}
use Rattle.vs_laws.proofs.Clocks.{sizes}
use Rattle.vs_laws.proofs.Designs.{Twins, back, signal_there, assign_there}
use Rattle.vs_laws.proofs.Done.{listed_as}
use Rattle.vs_laws.proofs.Named.{kind_as}
use Rattle.vs_laws.proofs.Trees.{whole_as, inverts_as, whole_target_as}

one_bit_as : {d d' : Parts} → Twins d d' → (v : ℕ) → IsOneBit d v → IsOneBit d' v
one_bit_as t v h =
    let o = signal_there t v h.0 h.1 in
    (o.other, o.is, ap (λ (z : Declared). z.width) (sym o.same) ∙ h.2, ap (λ (z : Declared). z.count) (sym o.same) ∙ h.3, ap (λ (z : Declared). z.words) (sym o.same) ∙ h.4)

-- ---- copies

-- of expressions of one sort
copy_by_as : {d d' : Parts} → Twins d d' → (P P' : ℕ → Typed → Type 0) → ((u : ℕ) (e e' : Typed) → layer_of e ≡ layer_of e' → P u e → P' u e') → (v u : ℕ) → IsCopyBy d P v u → IsCopyBy d' P' v u
copy_by_as {d} {d'} t P P' passes v u h =
    let o = assign_there t h.number h.assign h.is in
    let b = back t in
    record {
      is_net = kind_as t false v h.is_net;
      number = h.number;
      assign = o.other;
      is = o.is;
      whole = whole_target_as d d' (sizes t) v h.assign.target o.other.target o.same.sides.target h.whole;
      copies = passes u h.assign.source o.other.source o.same.sides.source.layer h.copies;
      same = λ s r e f.
          let p = signal_there b v s e in
          let q = signal_there b u r f in
          ap (λ (z : Declared). z.width) p.same ∙ h.same p.other q.other p.is q.is ∙ sym (ap (λ (z : Declared). z.width) q.same);
      alone = λ j a e l.
          let p = assign_there b j a e in
          h.alone j p.other p.is (listed_as d' d (writes a.target) (writes p.other.target) v p.same.sides.target.ranges l);
    }

pub copy_as : {d d' : Parts} → Twins d d' → (v u : ℕ) → IsCopy d v u → IsCopy d' v u
copy_as {d} {d'} t v u h = copy_by_as t (IsWhole d) (IsWhole d') (whole_as d d' (sizes t)) v u h

inverse_copy_as : {d d' : Parts} → Twins d d' → (v u : ℕ) → IsInverseCopy d v u → IsInverseCopy d' v u
inverse_copy_as {d} {d'} t v u h = copy_by_as t (Inverts d) (Inverts d') (inverts_as d d' (sizes t)) v u h

pub copies_root_as : {d d' : Parts} → Twins d d' → (wide : Bool) (root v : ℕ) → CopiesRoot d wide root v → CopiesRoot d' wide root v
copies_root_as t wide root _ (itself o) = itself (one_bit_as t root o)
copies_root_as t wide root _ (copy v u o i r) = copy v u (one_bit_as t v o) (copy_as t v u i) (copies_root_as t wide root u r)
copies_root_as t wide root _ (inverse v u w o i r) = inverse v u w (one_bit_as t v o) (inverse_copy_as t v u i) (copies_root_as t wide root u r)

-- ---- edges

-- as many are inverse
odd_as : {d d' : Parts} (t : Twins d d') (wide : Bool) (root v : ℕ) (c : CopiesRoot d wide root v) → is_odd (copies_root_as t wide root v c) ≡ is_odd c
unfolding copies_root_as
odd_as t wide root _ (itself o) = refl
odd_as t wide root _ (copy v u o i r) = odd_as t wide root u r
odd_as t wide root _ (inverse v u w o i r) = ap not (odd_as t wide root u r)

inverted_as : {d d' : Parts} → Twins d d' → (wide : Bool) (v : ℕ) → IsInverted d wide v → IsInverted d' wide v
inverted_as t wide v h = record {
  root = h.root;
  variable = kind_as t true h.root h.variable;
  copies = copies_root_as t wide h.root v h.copies;
  odd = odd_as t wide h.root v h.copies ∙ h.odd;
}

pub seen_as : {d d' : Parts} → Twins d d' → (wide : Bool) (term : EventTerm) (edge : Edge) → SeenAs d wide term edge → SeenAs d' wide term edge
seen_as t wide term edge h = record {
  plain = λ n. h.plain (λ i. n (inverted_as t wide term.range.signal i));
  inverse = λ i. h.inverse (inverted_as (back t) wide term.range.signal i);
}
