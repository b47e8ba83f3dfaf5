-- Lemmas on where the words of signals are in the planes of a store.
use Rattle.std.proofs.Common.{◌≡◌, ℕ, ◌++◌, Some, List, [], ◌∷◌, map, option_map, length, slice_get, sym, ◌∙◌, ap, ap₂, subst}
use Rattle.std.specs.Prelude.{sum_by}
use Rattle.std.proofs.lemmas.List.{map-append, length-map}
use Rattle.std.proofs.lemmas.List.Sums.{sum_by_push}
use Rattle.std.proofs.lemmas.Option.{same_Some, slice_get-map}
use Rattle.vs_logic4.specs.declared.digit.Digit.{Digit}
use Rattle.vs_design.specs.declared.extent.Layout.{Layout}
use Rattle.vs_design.specs.declared.signal.Signal.{Signal}
use Rattle.vs_design.specs.Tables.{AreExtents}
use Rattle.vs_design.specs.passes.Planes.{InTurn, counts_of, widths_of}
use Rattle.vs_design.proofs.PlanesLemmas.{in_turn_added}

-- one signal more
pub extents_added : (ss : List Signal) (es : List Layout) (s : Signal) (e : Layout) → AreExtents ss es → e.first ≡ sum_by (λ (x : Layout). x.count) es →
    e.count ≡ s.count → e.width ≡ s.width → AreExtents (ss ++ s ∷ []) (es ++ e ∷ [])
extents_added ss es s e are first count width = record {
  in_turn = subst (InTurn 0 (es ++ e ∷ [])) (sym (sum_by_push (λ (x : Layout). x.count) es e)) (in_turn_added es 0 (sum_by (λ (x : Layout). x.count) es) e are.in_turn first);
  counts =
      map-append (λ (x : Layout). x.count) es (e ∷ [])
      ∙ ap₂ (λ ns n. ns ++ n ∷ []) are.counts count
      ∙ sym (map-append (λ (x : Signal). x.count) ss (s ∷ []));
  widths =
      map-append (λ (x : Layout). x.width) es (e ∷ [])
      ∙ ap₂ (λ ns n. ns ++ n ∷ []) are.widths width
      ∙ sym (map-append (λ (x : Signal). x.width) ss (s ∷ []));
}

-- ---- words of these sizes

-- words and places are as many
pub same_number : (es : List Layout) (words : List (List Digit)) → map length words ≡ widths_of es → length words ≡ length es
same_number es words h = sym (length-map words length) ∙ ap length h ∙ length-map es (λ (e : Layout). e.width)

pub same_width : (es : List Layout) (words : List (List Digit)) (i : ℕ) (e : Layout) (w : List Digit) → map length words ≡ widths_of es →
    slice_get es i ≡ Some e → slice_get words i ≡ Some w → e.width ≡ length w
same_width es words i e w h at_extent at_word =
    same_Some e.width (length w)
    (sym (slice_get-map (λ (x : Layout). x.width) es i ∙ ap (option_map (λ (x : Layout). x.width)) at_extent)
    ∙ ap (λ ns. slice_get ns i) (sym h)
    ∙ slice_get-map length words i
    ∙ ap (option_map length) at_word)

-- how many words a place has
pub count_at : (es : List Layout) (i : ℕ) (e : Layout) → slice_get es i ≡ Some e → slice_get (counts_of es) i ≡ Some e.count
count_at es i e h = slice_get-map (λ (x : Layout). x.count) es i ∙ ap (option_map (λ (x : Layout). x.count)) h
