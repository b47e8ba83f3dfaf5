-- The late places of all maps.
use Rattle.std.proofs.Common.{◌≡◌, ℕ, zero, suc, ◌+◌, ◌<◌, inl, inr, Bool, List, [], ◌∷◌, ◌++◌, length, get_or, slice_get, refl, sym, ◌∙◌, ap, subst, arith}
use Rattle.std.specs.declared.vec.Vec.{Vec}
use Rattle.std.specs.declared.alloc.Global.{Global}
use Rattle.std.proofs.lemmas.List.{length-append}
use Rattle.std.proofs.lemmas.Option.{slice_get-get_or, same_Some}
use Rattle.vs_design.specs.vs_logic4.proofs.Basics.{below_or}
use Rattle.vs_maps.specs.Reaches.{Chart, places}
use Rattle.vs_maps.specs.Walks.{AreMarked, InLate}
use Rattle.vs_maps.specs.Texts.{AreLate, marks_of}

-- marks of the first maps
pub record AreSoFar (charts : List Chart) (table : List (Vec Bool Global)) (n : ℕ) : Type 0 where
  pub long : length table ≡ n
  pub late : AreLate charts table n

marks_before : (table : List (Vec Bool Global)) (v : Vec Bool Global) (i : ℕ) → i < length table → marks_of (table ++ v ∷ []) i ≡ marks_of table i
marks_before [] v i h = absurd (omega (arith, h))
marks_before (x ∷ table) v zero h = refl
marks_before (x ∷ table) v (suc i) h = marks_before table v i (omega (arith, h))

marks_here : (table : List (Vec Bool Global)) (v : Vec Bool Global) → marks_of (table ++ v ∷ []) (length table) ≡ v.items
marks_here [] v = refl
marks_here (x ∷ table) v = marks_here table v

pub none_so_far : (charts : List Chart) (table : List (Vec Bool Global)) → table ≡ [] → AreSoFar charts table 0
none_so_far charts table e = record { long = ap length e; late = λ i t h. absurd (omega (arith, h)) }

pub one_more : (charts : List Chart) (table more : List (Vec Bool Global)) (v : Vec Bool Global) (n : ℕ) (t : Chart) → AreSoFar charts table n → n < length charts →
    more ≡ table ++ v ∷ [] → AreMarked (InLate (get_or charts n t)) (places (get_or charts n t)) v.items → AreSoFar charts more (n + 1)
one_more charts table more v n t so_far less made marks = record {
  long = ap length made ∙ length-append table (v ∷ []) ∙ ap (λ (k : ℕ). k + 1) so_far.long;
  late = λ i c h at. elim (below_or i n h) [
    | inl l ↦ subst (AreMarked (InLate c) (places c)) (sym (ap (λ x. marks_of x i) made ∙ marks_before table v i (omega (arith, l, so_far.long)))) (so_far.late i c l at)
    | inr e ↦ subst (AreMarked (InLate c) (places c))
        (sym (ap (λ x. marks_of x i) made ∙ ap (λ k. marks_of (table ++ v ∷ []) k) (e ∙ sym so_far.long) ∙ marks_here table v))
        (subst (λ (x : Chart). AreMarked (InLate x) (places x) v.items) (same_Some (get_or charts n t) c (sym (slice_get-get_or charts n t less) ∙ ap (slice_get charts) (sym e) ∙ at)) marks)
  ];
}

pub all_so_far : (charts : List Chart) (table : List (Vec Bool Global)) (n : ℕ) → n ≡ length charts → AreSoFar charts table n → AreLate charts table (length charts)
all_so_far charts table n e so_far = subst (AreLate charts table) e so_far.late
