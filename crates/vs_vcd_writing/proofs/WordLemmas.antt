-- What is kept, as codes and words.
use Rattle.std.proofs.Common.{◌≡◌, ℕ, zero, suc, ◌<◌, Option, Some, List, [], ◌∷◌, length, get_or, slice_get, refl, sym, ap, ◌∙◌, arith}
use Rattle.std.specs.Prelude.{slice_set}
use Rattle.std.proofs.lemmas.Option.{none-some, same_Some}
use Rattle.vs_design.specs.vs_logic4.specs.declared.digit.Digit.{Digit}
use Rattle.vs_vcd_writing.specs.declared.kept.Kept.{Kept}
use Rattle.vs_vcd_writing.specs.Words.{kept_of}
use Rattle.vs_vcd_writing.specs.Kept.{codes_of, with_value}

pub codes_of-kept_of : (cs : List (Option ℕ)) (ws : List (List Digit)) → length ws ≡ length cs → codes_of (kept_of cs ws) ≡ cs
codes_of-kept_of [] ws h = refl
codes_of-kept_of (c ∷ cs) [] h = absurd (omega (arith, h))
codes_of-kept_of (c ∷ cs) (w ∷ ws) h = ap (λ l. c ∷ l) (codes_of-kept_of cs ws (omega (arith, h)))

length-kept_of : (cs : List (Option ℕ)) (ws : List (List Digit)) → length ws ≡ length cs → length (kept_of cs ws) ≡ length cs
length-kept_of [] ws h = refl
length-kept_of (c ∷ cs) [] h = absurd (omega (arith, h))
length-kept_of (c ∷ cs) (w ∷ ws) h = ap suc (length-kept_of cs ws (omega (arith, h)))

-- what is kept of a signal is its code and its word
pub kept_at : (cs : List (Option ℕ)) (ws : List (List Digit)) (i : ℕ) (c d : Option ℕ) (w : List Digit) → i < length cs → c ≡ get_or cs i d → slice_get ws i ≡ Some w
    → slice_get (kept_of cs ws) i ≡ Some (record { code = c; value = w })
kept_at [] ws i c d w lt is get = absurd (omega (arith, lt))
kept_at (x ∷ cs) [] i c d w lt is get = absurd (none-some w get)
kept_at (x ∷ cs) (y ∷ ws) zero c d w lt is get =
    ap (λ v. Some (record { code = x; value = v })) (same_Some y w get) ∙ ap (λ o. Some (record { code = o; value = w })) (sym is)
kept_at (x ∷ cs) (y ∷ ws) (suc i) c d w lt is get = kept_at cs ws i c d w (omega (arith, lt)) is get

-- the word of a signal that is kept
pub word_kept : (cs : List (Option ℕ)) (ws : List (List Digit)) (i : ℕ) (k : Kept) → slice_get (kept_of cs ws) i ≡ Some k → slice_get ws i ≡ Some k.value
word_kept [] ws i k get = absurd (none-some k get)
word_kept (c ∷ cs) [] i k get = absurd (none-some k get)
word_kept (c ∷ cs) (w ∷ ws) zero k get = ap (λ (e : Kept). Some e.value) (same_Some _ k get)
word_kept (c ∷ cs) (w ∷ ws) (suc i) k get = word_kept cs ws i k get

pub kept_of-set : (cs : List (Option ℕ)) (ws : List (List Digit)) (i : ℕ) (w : List Digit) → kept_of cs (slice_set ws i w) ≡ with_value (kept_of cs ws) i w
kept_of-set [] ws i w = refl
kept_of-set (c ∷ cs) [] i w = refl
kept_of-set (c ∷ cs) (x ∷ ws) zero w = refl
kept_of-set (c ∷ cs) (x ∷ ws) (suc i) w = ap (λ l. record { code = c; value = x } ∷ l) (kept_of-set cs ws i w)

pub length_of_words : (cs : List (Option ℕ)) (ws : List (List Digit)) (all : List Kept) → length ws ≡ length cs → kept_of cs ws ≡ all → length ws ≡ length all
length_of_words cs ws all h view = h ∙ sym (length-kept_of cs ws h) ∙ ap length view
