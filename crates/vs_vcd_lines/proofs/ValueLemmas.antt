-- Values without the left digits that extending gives back.
use Rattle.std.proofs.Common.{◌≡◌, ℕ, zero, suc, ◌-◌, ◌<◌, ◌≤◌, Bool, true, false, Option, Some, None, List, [], ◌∷◌, ◌++◌, length, map, reverse, replicate, take, get_or, slice_get, refl, sym, ap, subst, ◌∙◌, arith, inl, inr}
use Rattle.std.proofs.Common.{take_all, length-append}
use Rattle.std.proofs.lemmas.Bool.{false≢true, cond-true, cond-false, cases_Bool}
use Rattle.std.proofs.lemmas.List.{length-reverse, reverse-append, length-map, get_or-reverse}
use Rattle.std.proofs.lemmas.Option.{get_or_from_slice_get}
use Rattle.vs_design.specs.vs_logic4.specs.declared.digit.Digit.{Digit}
use Rattle.vs_design.specs.vs_logic4.specs.declared.digit.Digit.TheVariants.{Zero, One, X, Z}
use Rattle.vs_design.specs.vs_logic4.specs.Vectors.{extension_digit, top_digit, resized}
use Rattle.vs_vcd_writing.specs.Shown.{digit_of, extended, left_digit}
use Rattle.vs_vcd_writing.specs.Values.{digit_character, is_extension, shortened}
use Rattle.vs_vcd_lines.specs.Lines.{IsValue}
use Rattle.vs_vcd_lines.specs.Parts.{IsSpelled}
use Rattle.vs_vcd_lines.proofs.CodeLemmas.{parts_of, rest_of}
use Rattle.vs_vcd_lines.proofs.TextLemmas.{nil_of}

-- ---- characters

pub spelled_first : (text : List ℕ) → ((d : Digit) → get_or text 0 0 ≡ digit_character d → ⊥) → (ds : List Digit) → IsSpelled text ds → ⊥
spelled_first text none [] s = let h = s.some in absurd (omega (arith, h))
spelled_first text none (d ∷ ds) s = none d (ap (λ l. get_or l 0 0) s.is)

pub spelled_none : (text : List ℕ) → length text < 1 → (ds : List Digit) → IsSpelled text ds → ⊥
spelled_none text h [] s = let some = s.some in absurd (omega (arith, some))
spelled_none text h (d ∷ ds) s = let size = ap length s.is in absurd (omega (arith, size, h))

pub spelled_rest : (text : List ℕ) → 1 ≤ length text → (length text ≡ 1 → ⊥) → ((es : List Digit) → IsSpelled (rest_of text) es → ⊥) → (ds : List Digit)
    → IsSpelled text ds → ⊥
spelled_rest text some more none [] s = let h = s.some in absurd (omega (arith, h))
spelled_rest text some more none (d ∷ []) s = more (ap length s.is)
spelled_rest text some more none (d ∷ e ∷ es) s =
    let whole : get_or text 0 0 ∷ rest_of text ≡ digit_character d ∷ map digit_character (e ∷ es) = sym (parts_of text some) ∙ s.is in
    let tails : rest_of text ≡ map digit_character (e ∷ es) = cc in
    none (e ∷ es) (record { some = omega arith; is = tails })

pub spelled_one : (text : List ℕ) (d : Digit) (v : List Digit) → 1 ≤ length text → length text ≡ 1 → get_or text 0 0 ≡ digit_character d → v ≡ d ∷ []
    → (length v ≡ length text) × IsSpelled text (reverse v)
spelled_one text d v some one first is =
    let size = ap length (parts_of text some) in
    let none : rest_of text ≡ [] = nil_of (rest_of text) (omega (arith, size, one)) in
    let whole : text ≡ map digit_character (d ∷ []) = parts_of text some ∙ ap (λ l. get_or text 0 0 ∷ l) none ∙ ap (λ b. b ∷ []) first in
    (ap length is ∙ sym one, subst (λ w. IsSpelled text (reverse w)) (sym is) (record { some = omega arith; is = whole }))

pub spelled_more : (text : List ℕ) (d : Digit) (low v : List Digit) → 1 ≤ length text → get_or text 0 0 ≡ digit_character d
    → (length low ≡ length (rest_of text)) × IsSpelled (rest_of text) (reverse low) → v ≡ low ++ (d ∷ []) → (length v ≡ length text) × IsSpelled text (reverse v)
spelled_more text d low v some first h is =
    let size = ap length (parts_of text some) in
    let long = ap length is ∙ length-append low (d ∷ []) in
    let turned : reverse v ≡ d ∷ reverse low = ap reverse is ∙ reverse-append low (d ∷ []) in
    let whole : text ≡ map digit_character (d ∷ reverse low) =
    parts_of text some ∙ ap (λ b. b ∷ rest_of text) first ∙ ap (λ l. digit_character d ∷ l) h.1.is in
    (omega (arith, size, long, h.0), subst (IsSpelled text) (sym turned) (record { some = omega arith; is = whole }))

digit_of-digit_character : (d : Digit) → digit_of (digit_character d) ≡ Some d
digit_of-digit_character Zero = refl
digit_of-digit_character One = refl
digit_of-digit_character X = refl
digit_of-digit_character Z = refl

abbrev some_or : Digit → Option Digit → Digit
some_or d None = d
some_or d (Some e) = e

pub character_once : (a b : Digit) → digit_character a ≡ digit_character b → a ≡ b
character_once a b e = ap (some_or Zero) (sym (digit_of-digit_character a) ∙ ap digit_of e ∙ digit_of-digit_character b)

-- characters stand for digits in one way
pub spelled_once : (cs bs : List Digit) → map digit_character cs ≡ map digit_character bs → cs ≡ bs
spelled_once [] [] e = refl
spelled_once [] (b ∷ bs) e = let size = ap length e in absurd (omega (arith, size))
spelled_once (a ∷ cs) [] e = let size = ap length e in absurd (omega (arith, size))
spelled_once (a ∷ cs) (b ∷ bs) e =
    let heads : digit_character a ≡ digit_character b = cc in
    let tails : map digit_character cs ≡ map digit_character bs = cc in
    ap (λ d. d ∷ cs) (character_once a b heads) ∙ ap (λ l. b ∷ l) (spelled_once cs bs tails)

-- ---- left digits

pub shortened-drops : (d e : Digit) (ds : List Digit) → is_extension d e ≡ true → shortened (d ∷ e ∷ ds) ≡ shortened (e ∷ ds)
shortened-drops d e ds h = cond-true (is_extension d e) (shortened (e ∷ ds)) (d ∷ e ∷ ds) h

pub shortened-keeps : (d e : Digit) (ds : List Digit) → is_extension d e ≡ false → shortened (d ∷ e ∷ ds) ≡ d ∷ e ∷ ds
shortened-keeps d e ds h = cond-false (is_extension d e) (shortened (e ∷ ds)) (d ∷ e ∷ ds) h

pub length-shortened-le : (d : Digit) (ds : List Digit) → length (shortened (d ∷ ds)) ≤ length (d ∷ ds)
length-shortened-le d [] = omega arith
length-shortened-le d (e ∷ ds) =
    elim (cases_Bool (is_extension d e)) [
      | inl gone ↦ let size = ap length (shortened-drops d e ds gone) in let less = length-shortened-le e ds in omega (arith, size, less)
      | inr kept ↦ let size = ap length (shortened-keeps d e ds kept) in omega (arith, size)
    ]

pub length-shortened-some : (d : Digit) (ds : List Digit) → 0 < length (shortened (d ∷ ds))
length-shortened-some d [] = omega arith
length-shortened-some d (e ∷ ds) =
    elim (cases_Bool (is_extension d e)) [
      | inl gone ↦ let size = ap length (shortened-drops d e ds gone) in let some = length-shortened-some e ds in omega (arith, size, some)
      | inr kept ↦ let size = ap length (shortened-keeps d e ds kept) in omega (arith, size)
    ]

shortened-shortened : (d : Digit) (ds : List Digit) → shortened (shortened (d ∷ ds)) ≡ shortened (d ∷ ds)
shortened-shortened d [] = refl
shortened-shortened d (e ∷ ds) =
    elim (cases_Bool (is_extension d e)) [
      | inl gone ↦ ap shortened (shortened-drops d e ds gone) ∙ shortened-shortened e ds ∙ sym (shortened-drops d e ds gone)
      | inr kept ↦ ap shortened (shortened-keeps d e ds kept)
    ]

left_extends : (d : Digit) → is_extension (left_digit d) d ≡ true
left_extends Zero = refl
left_extends One = refl
left_extends X = refl
left_extends Z = refl

left_repeats : (d : Digit) → is_extension (left_digit d) (left_digit d) ≡ true
left_repeats Zero = refl
left_repeats One = refl
left_repeats X = refl
left_repeats Z = refl

left_dropped : (m : ℕ) (d : Digit) (ds : List Digit) → shortened (replicate m (left_digit d) ++ d ∷ ds) ≡ shortened (d ∷ ds)
left_dropped zero d ds = refl
left_dropped (suc zero) d ds = shortened-drops (left_digit d) d ds (left_extends d)
left_dropped (suc (suc m)) d ds =
    shortened-drops (left_digit d) (left_digit d) (replicate m (left_digit d) ++ d ∷ ds) (left_repeats d) ∙ left_dropped (suc m) d ds

-- what was put on the left is left out again
pub shortened-extended : (n : ℕ) (ds : List Digit) → shortened (extended n ds) ≡ shortened ds
shortened-extended n [] = refl
shortened-extended n (d ∷ ds) = left_dropped (n - length (d ∷ ds)) d ds

-- ---- the highest two digits

abbrev BeginsWith : Digit → Digit → List Digit → Type 0
BeginsWith a b ds = (cs : List Digit) × (ds ≡ a ∷ b ∷ cs)

begins : (ds : List Digit) (a b : Digit) → 2 ≤ length ds → get_or ds 0 X ≡ a → get_or ds 1 X ≡ b → BeginsWith a b ds
begins [] a b h e f = absurd (omega (arith, h))
begins (d ∷ []) a b h e f = absurd (omega (arith, h))
begins (d ∷ c ∷ cs) a b h e f = (cs, ap (λ x. x ∷ c ∷ cs) e ∙ ap (λ x. a ∷ x ∷ cs) f)

pub top_two : (v : List Digit) (a b : Digit) → 2 ≤ length v → slice_get v (length v - 1) ≡ Some a → slice_get v (length v - 2) ≡ Some b
    → BeginsWith a b (reverse v)
top_two v a b h e f =
    let size = length-reverse v in
    let first : length v - 1 - 0 ≡ length v - 1 = omega arith in
    let second : length v - 1 - 1 ≡ length v - 2 = omega arith in
    begins (reverse v) a b (omega (arith, size, h))
    (get_or-reverse v 0 X (omega (arith, h)) ∙ ap (λ i. get_or v i X) first ∙ get_or_from_slice_get v (length v - 1) a X e)
    (get_or-reverse v 1 X (omega (arith, h)) ∙ ap (λ i. get_or v i X) second ∙ get_or_from_slice_get v (length v - 2) b X f)

pub kept_one : (v : List Digit) → length v ≡ 1 → shortened (reverse v) ≡ reverse v
kept_one [] h = refl
kept_one (d ∷ []) h = refl
kept_one (d ∷ e ∷ ds) h = absurd (omega (arith, h))

pub kept_two : (v : List Digit) (a b : Digit) (r : Bool) → 2 ≤ length v → slice_get v (length v - 1) ≡ Some a → slice_get v (length v - 2) ≡ Some b
    → is_extension a b ≡ r → (r ≡ false → shortened (reverse v) ≡ reverse v) × (shortened (reverse v) ≡ reverse v → r ≡ false)
kept_two v a b true h e f is =
    let two = top_two v a b h e f in (
      λ no. absurd (false≢true (sym no)),
      λ same.
          let size = ap length (sym same ∙ ap shortened two.1 ∙ shortened-drops a b two.0 is) in
          let whole = ap length two.1 in
          let less = length-shortened-le b two.0 in
          absurd (omega (arith, size, less, whole)),
    )
kept_two v a b false h e f is =
    let two = top_two v a b h e f in
    (λ _. ap shortened two.1 ∙ shortened-keeps a b two.0 is ∙ sym two.1, λ _. refl)

-- ---- extending

rep_push : (m : ℕ) (e : Digit) → replicate m e ++ (e ∷ []) ≡ e ∷ replicate m e
rep_push zero e = refl
rep_push (suc m) e = ap (λ l. e ∷ l) (rep_push m e)

reverse-rep : (m : ℕ) (e : Digit) → reverse (replicate m e) ≡ replicate m e
reverse-rep zero e = refl
reverse-rep (suc m) e = reverse-append (e ∷ []) (replicate m e) ∙ ap (λ l. l ++ (e ∷ [])) (reverse-rep m e) ∙ rep_push m e

extended_onto : (n : ℕ) (ds : List Digit) (t : Digit) → 0 < length ds → get_or ds 0 X ≡ t → replicate (n - length ds) (left_digit t) ++ ds ≡ extended n ds
extended_onto n [] t h e = absurd (omega (arith, h))
extended_onto n (d ∷ ds) t h e = ap (λ x. replicate (n - length (d ∷ ds)) (left_digit x) ++ d ∷ ds) (sym e)

pub top_itself : (ds : List Digit) (t : Digit) → slice_get ds (length ds - 1) ≡ Some t → top_digit ds ≡ t
top_itself ds t e = get_or_from_slice_get ds (length ds - 1) t X e

pub extend_is : (v w : List Digit) (n : ℕ) (t : Digit) (signed : Bool) → 0 < length v → length v ≤ n → slice_get v (length v - 1) ≡ Some t
    → extension_digit signed v ≡ left_digit t → w ≡ resized signed n v → reverse w ≡ extended n (reverse v)
extend_is v w n t signed some least top left is =
    let size = length-reverse v in
    let first : length v - 1 - 0 ≡ length v - 1 = omega arith in
    let head : get_or (reverse v) 0 X ≡ t =
    get_or-reverse v 0 X some ∙ ap (λ i. get_or v i X) first ∙ get_or_from_slice_get v (length v - 1) t X top in
    ap reverse is
    ∙ reverse-append (take n v) (replicate (n - length v) (extension_digit signed v))
    ∙ ap (λ l. reverse (replicate (n - length v) (extension_digit signed v)) ++ reverse l) (take_all n v least)
    ∙ ap (λ l. l ++ reverse v) (reverse-rep (n - length v) (extension_digit signed v))
    ∙ ap (λ e. replicate (n - length v) e ++ reverse v) left
    ∙ ap (λ k. replicate (n - k) (left_digit t) ++ reverse v) (sym size)
    ∙ extended_onto n (reverse v) t (omega (arith, size, some)) head

-- ---- values

pub value_made : (text : List ℕ) (width : ℕ) (v w : List Digit) → IsSpelled text (reverse v) → shortened (reverse v) ≡ reverse v → length w ≡ width
    → reverse w ≡ extended width (reverse v) → IsValue text width w
value_made text width v w s kept wide is = record {
  wide = wide;
  is = s.is ∙ ap (map digit_character) (sym (ap shortened is ∙ shortened-extended width (reverse v) ∙ kept));
}

nonempty : (ds : List Digit) → 0 < length ds → (e : Digit) × (es : List Digit) × (ds ≡ e ∷ es)
nonempty [] h = absurd (omega (arith, h))
nonempty (d ∷ ds) h = (d, ds, refl)

pub value_spelled : (text : List ℕ) (width : ℕ) (v : List Digit) → 0 < width → IsValue text width v → IsSpelled text (shortened (reverse v))
value_spelled text width v some h =
    let size = length-reverse v in
    let wide = h.wide in
    let parts = nonempty (reverse v) (omega (arith, size, wide, some)) in
    record { some = subst (λ l. 0 < length (shortened l)) (sym parts.2) (length-shortened-some parts.0 parts.1); is = h.is }

pub value_short : (text : List ℕ) (width : ℕ) (v : List Digit) → 0 < width → IsValue text width v → length text ≤ width
value_short text width v some h =
    let size = length-reverse v in
    let wide = h.wide in
    let parts = nonempty (reverse v) (omega (arith, size, wide, some)) in
    let less : length (shortened (reverse v)) ≤ length (reverse v) =
    subst (λ l. length (shortened l) ≤ length l) (sym parts.2) (length-shortened-le parts.0 parts.1) in
    let long = ap length h.is ∙ length-map (shortened (reverse v)) digit_character in
    omega (arith, less, long, size, wide)

pub value_kept : (text : List ℕ) (width : ℕ) (v w : List Digit) → 0 < width → IsSpelled text (reverse v) → IsValue text width w → shortened (reverse v) ≡ reverse v
value_kept text width v w some s h =
    let size = length-reverse w in
    let wide = h.wide in
    let parts = nonempty (reverse w) (omega (arith, size, wide, some)) in
    let same : reverse v ≡ shortened (reverse w) = spelled_once (reverse v) (shortened (reverse w)) (sym s.is ∙ h.is) in
    let again : shortened (shortened (reverse w)) ≡ shortened (reverse w) =
    subst (λ l. shortened (shortened l) ≡ shortened l) (sym parts.2) (shortened-shortened parts.0 parts.1) in
    ap shortened same ∙ again ∙ sym same
