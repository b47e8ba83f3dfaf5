-- Going over the pieces of bytes.
use Rattle.std.proofs.Common.{ℕ, ◌≡◌, Bool, true, false, List, [], ◌∷◌, refl, ap, sym, ◌∙◌}
use Rattle.std.specs.Prelude.{Option, Some, None, MatchOption}
use Rattle.vs_prep_macros.specs.Parts.{Part, parts_of, bytes_from, seen}
use Rattle.vs_prep_macros.specs.declared.piece.Piece.{Piece}
use Rattle.vs_prep_macros.specs.Folds.{Turn, Goes, Ends, over}
use Rattle.vs_prep_macros.specs.Spaces.{skip_while}

-- bytes without pieces are none
pub no_bytes : (bytes : List ℕ) → parts_of bytes ≡ [] → bytes ≡ []
unfolding parts_of
no_bytes [] e = refl
no_bytes (b ∷ bs) e = absurd cc

-- there is no piece where none was found
pub none_first : (o : Option Piece) (bytes : List ℕ) → ((p : Piece) → o ≡ Some p → ⊥) → MatchOption o (parts_of bytes ≡ []) (λ p. parts_of bytes ≡ seen p ∷ parts_of p.rest.now) → parts_of bytes ≡ []
none_first None bytes n m = m
none_first (Some p) bytes n m = absurd (n p refl)

-- ---- the first piece that doesn't pass

pub those_none : (test : Part → Bool) (rest : List ℕ) → parts_of rest ≡ [] → rest ≡ skip_while test (parts_of rest)
those_none test rest e = no_bytes rest e ∙ sym (ap (skip_while test) e)

pub those_here : (test : Part → Bool) (rest : List ℕ) (p : Part) (ps : List Part) → parts_of rest ≡ p ∷ ps → rest ≡ bytes_from p → test p ≡ false → rest ≡ skip_while test (parts_of rest)
those_here test rest p ps e w t = w ∙ sym (let h : skip_while test (parts_of rest) ≡ bytes_from p = rw (e, t) refl in h)

pub those_next : (test : Part → Bool) (rest : List ℕ) (p : Part) (ps : List Part) → parts_of rest ≡ p ∷ ps → test p ≡ true → skip_while test (parts_of rest) ≡ skip_while test ps
those_next test rest p ps e t = rw (e, t) refl

-- ---- going over pieces

pub over_next : {S A : Type 0} (step : S → Part → Turn S A) (last : S → A) (s t : S) (p : Part) (ps qs : List Part) → ps ≡ p ∷ qs → step s p ≡ Goes t → over step last s ps ≡ over step last t qs
over_next {S = S} {A = A} step last s t p ps qs e h = ap (over step last s) e ∙ ap (λ (x : Turn S A). elim x [ Goes u ↦ over step last u qs | Ends a ↦ a ]) h

pub over_ends : {S A : Type 0} (step : S → Part → Turn S A) (last : S → A) (s : S) (a : A) (p : Part) (ps qs : List Part) → ps ≡ p ∷ qs → step s p ≡ Ends a → over step last s ps ≡ a
over_ends {S = S} {A = A} step last s a p ps qs e h = ap (over step last s) e ∙ ap (λ (x : Turn S A). elim x [ Goes u ↦ over step last u qs | Ends b ↦ b ]) h

pub over_none : {S A : Type 0} (step : S → Part → Turn S A) (last : S → A) (s : S) (ps : List Part) → ps ≡ [] → over step last s ps ≡ last s
over_none step last s ps e = rw e refl
