-- Bytes are cut into pieces in one way.
use Rattle.std.proofs.Common.{ℕ, ◌≡◌, List, [], ◌∷◌, ◌++◌, refl, ap, sym, subst, ◌∙◌}
use Rattle.std.proofs.lemmas.List.{append_cancel_right}
use Rattle.vs_prep_macros.specs.Pieces.{Cut, cut_of, Pieces, none, one}
use Rattle.vs_prep_macros.specs.declared.piece.Form.{Form}

same_pieces : (f g : Form) (a b : ℕ) (t u : List ℕ) (ps qs : List (Form × List ℕ)) → f ≡ g → a ≡ b → t ≡ u → ps ≡ qs → ◌≡◌ {A = List (Form × List ℕ)} ((f, a ∷ t) ∷ ps) ((g, b ∷ u) ∷ qs)
same_pieces f g a b t u ps qs p q e h = rw (p, q, e, h) refl

nothing_first : (a : ℕ) (more : List ℕ) → [] ≡ a ∷ more → ⊥
nothing_first a more e = cc

pub one_cutting : {bytes : List ℕ} {ps qs : List (Form × List ℕ)} → Pieces bytes ps → Pieces bytes qs → ps ≡ qs
one_cutting none none = refl
one_cutting none (one {rest = r} form first text e c y) = absurd (nothing_first first (text ++ r) e)
one_cutting (one {rest = r} form first text e c x) none = absurd (nothing_first first (text ++ r) e)
one_cutting (one {rest = r} {pieces = ps} form first text e c x) (one {rest = s} {pieces = qs} other second more d k y) =
    let cuts : ◌≡◌ {A = Cut} (form, r) (other, s) = sym c ∙ k in
    let rests : r ≡ s = ap (λ (p : Cut). p.1) cuts in
    let forms : form ≡ other = ap (λ (p : Cut). p.0) cuts in
    let whole : first ∷ (text ++ r) ≡ second ∷ (more ++ s) = sym e ∙ d in
    let firsts : first ≡ second = cc in
    let tails : text ++ r ≡ more ++ s = cc in
    let texts : text ≡ more = append_cancel_right text more r (tails ∙ ap (λ z. more ++ z) (sym rests)) in
    same_pieces form other first second text more ps qs forms firsts texts (one_cutting x (subst (λ (z : List ℕ). Pieces z qs) (sym rests) y))
