-- Digits as a value change dump writes them.
use Rattle.std.proofs.Common.{◌≡◌, ℕ, zero, suc, true, false, Some, List, [], ◌∷◌, ◌++◌, length, take, reverse, refl, ap, ◌∙◌, arith}
use Rattle.std.proofs.lemmas.List.{reverse-append}
use Rattle.std.proofs.lemmas.Bool.{cond-true, cond-false}
use Rattle.std.specs.Prelude.{slice_get}
use Rattle.vs_design.specs.vs_logic4.specs.declared.digit.Digit.{Digit}
use Rattle.vs_vcd_writing.specs.Values.{is_extension, shortened}

take_snoc : {A : Type 0} (xs : List A) (i : ℕ) (x : A) → slice_get xs i ≡ Some x → take (suc i) xs ≡ take i xs ++ x ∷ []
take_snoc [] i x h = cc
take_snoc (y ∷ ys) zero x h = cc
take_snoc (y ∷ ys) (suc i) x h = ap (λ l. y ∷ l) (take_snoc ys i x h)

reverse-one : {A : Type 0} (x : A) → reverse (x ∷ []) ≡ x ∷ []
reverse-one x = refl

-- the highest of the digits taken comes first
pub reversed_top : {A : Type 0} (xs : List A) (k i : ℕ) (x : A) → k ≡ suc i → slice_get xs i ≡ Some x → reverse (take k xs) ≡ x ∷ reverse (take i xs)
reversed_top xs k i x e h =
    rw e (ap reverse (take_snoc xs i x h) ∙ reverse-append (take i xs) (x ∷ []) ∙ ap (λ l. l ++ reverse (take i xs)) (reverse-one x))

-- a left digit that extending gives back is dropped
pub shortened-less : (ds : List Digit) (k i j : ℕ) (d e : Digit) → k ≡ suc i → i ≡ suc j → slice_get ds i ≡ Some d → slice_get ds j ≡ Some e → is_extension d e ≡ true
    → shortened (reverse (take k ds)) ≡ shortened (reverse (take i ds))
shortened-less ds k i j d e p q top next h =
    rw (reversed_top ds k i d p top, reversed_top ds i j e q next) (cond-true (is_extension d e) _ _ h)

-- no digit is dropped where extending wouldn't give the first one back
pub shortened-kept : (ds : List Digit) (k i j : ℕ) (d e : Digit) → k ≡ suc i → i ≡ suc j → slice_get ds i ≡ Some d → slice_get ds j ≡ Some e → is_extension d e ≡ false
    → shortened (reverse (take k ds)) ≡ reverse (take k ds)
shortened-kept ds k i j d e p q top next h =
    rw (reversed_top ds k i d p top, reversed_top ds i j e q next) (cond-false (is_extension d e) _ _ h)

pub shortened-one : (ds : List Digit) → length ds ≡ 1 → shortened (reverse ds) ≡ reverse ds
shortened-one [] h = absurd (omega arith)
shortened-one (d ∷ []) h = rw (reverse-one d) refl
shortened-one (d ∷ e ∷ ds) h = absurd (omega arith)
