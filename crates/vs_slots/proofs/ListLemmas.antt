-- The list of a control, by a walk over the controls.
use Rattle.std.proofs.Common.{◌≡◌, ℕ, zero, suc, ◌+◌, ◌<◌, ◌≤◌, ◌⊎◌, inl, inr, ◌==◌, Bool, true, false, List, [], ◌∷◌, length, map, get_or, refl, sym, ◌∙◌, ap, subst, arith, if◌then◌else◌}
use Rattle.std.specs.declared.vec.Vec.{Vec}
use Rattle.std.specs.declared.alloc.Global.{Global}
use Rattle.vs_maps.specs.vs_rules.specs.Certificates.{residues_from}
use Rattle.vs_maps.specs.vs_rules.specs.Controls.{list_of}

-- none of the first controls has the number
abbrev pub NoneYet : List ℕ → ℕ → ℕ → Type 0
NoneYet ns number i = (k : ℕ) → k < i → (get_or ns k 0 == number) ≡ false

rest_of : (n : ℕ) (ns : List ℕ) (number i : ℕ) → NoneYet (n ∷ ns) number (suc i) → NoneYet ns number i
rest_of n ns number i h k l = h (suc k) (omega (arith, l))

-- the control of this number is the one at a place
pub found : (ns : List ℕ) (ls : List (Vec ℕ Global)) (i number : ℕ) (v : Vec ℕ Global) → NoneYet ns number i → i < length ns → (get_or ns i 0 == number) ≡ true →
    i < length ls → v ≡ get_or ls i v → list_of ns (map residues_from ls) number ≡ v.items
found [] ls i number v before a here b is = absurd (omega (arith, a))
found (n ∷ ns) [] i number v before a here b is = absurd (omega (arith, b))
found (n ∷ ns) (l ∷ ls) zero number v before a here b is =
    ap (λ (x : Bool). if x then l.items else list_of ns (map residues_from ls) number) here ∙ ap (λ (x : Vec ℕ Global). x.items) (sym is)
found (n ∷ ns) (l ∷ ls) (suc i) number v before a here b is =
    ap (λ (x : Bool). if x then l.items else list_of ns (map residues_from ls) number) (before 0 (omega arith))
    ∙ found ns ls i number v (rest_of n ns number i before) (omega (arith, a)) here (omega (arith, b)) is

-- none has it, or it has no list
pub missing : (ns : List ℕ) (ls : List (Vec ℕ Global)) (i number : ℕ) → NoneYet ns number i → (length ns ≤ i) ⊎ (length ls ≤ i) →
    list_of ns (map residues_from ls) number ≡ []
missing [] ls i number before h = refl
missing (n ∷ ns) [] i number before h = refl
missing (n ∷ ns) (l ∷ ls) zero number before (inl h) = absurd (omega (arith, h))
missing (n ∷ ns) (l ∷ ls) zero number before (inr h) = absurd (omega (arith, h))
missing (n ∷ ns) (l ∷ ls) (suc i) number before h =
    ap (λ (x : Bool). if x then l.items else list_of ns (map residues_from ls) number) (before 0 (omega arith))
    ∙ missing ns ls i number (rest_of n ns number i before) (lower h) where
      lower : (suc (length ns) ≤ suc i) ⊎ (suc (length ls) ≤ suc i) → (length ns ≤ i) ⊎ (length ls ≤ i)
      lower (inl a) = inl (omega (arith, a))
      lower (inr a) = inr (omega (arith, a))

pub none_more : (ns : List ℕ) (number i : ℕ) → NoneYet ns number i → (get_or ns i 0 == number) ≡ false → NoneYet ns number (i + 1)
none_more ns number i before here k l = elim (at k l) [ inl below ↦ before k below | inr e ↦ subst (λ (n : ℕ). (get_or ns n 0 == number) ≡ false) (sym e) here ] where
  at : (k : ℕ) → k < i + 1 → (k < i) ⊎ (k ≡ i)
  at k l = grind (arith, l)

-- the lists of the same controls
pub list_for : {cs ds : List ℕ} (ls : List (Vec ℕ Global)) → cs ≡ ds → list_of cs (map residues_from ls) ≡ list_of ds (map residues_from ls)
list_for ls e = ap (λ (c : List ℕ). list_of c (map residues_from ls)) e
