-- Texts of lines.
use Rattle.std.proofs.Common.{◌≡◌, ℕ, ◌+◌, ◌<◌, List, [], ◌∷◌, ◌++◌, length, take, get_or, Option, Some, false, refl, sym, ap, ap₂, ◌∙◌, append_assoc}
use Rattle.std.proofs.lemmas.List.{map-append, flat_map_more, take_more}
use Rattle.std.specs.Prelude.{codes, decimal, ◌==◌}
use Rattle.std.specs.List.{flat_map}
use Rattle.vs_vcd_writing.specs.declared.kept.DumpChange.{DumpChange}
use Rattle.vs_vcd_writing.specs.Text.{text_of, time_line}
use Rattle.vs_vcd_writing.specs.Kept.{change_text, change_texts, slot_lines, slot_time}

pub text_of-append : (xs ys : List (List ℕ)) → text_of (xs ++ ys) ≡ text_of xs ++ text_of ys
text_of-append [] ys = refl
text_of-append (x ∷ xs) ys =
    ap (λ l. x ++ 10 ∷ l) (text_of-append xs ys) ∙ sym (append_assoc x (10 ∷ text_of xs) (text_of ys))

-- more lines after those written
pub text_more : (old mid new : List ℕ) (xs ys : List (List ℕ)) → mid ≡ old ++ text_of xs → new ≡ mid ++ text_of ys → new ≡ old ++ text_of (xs ++ ys)
text_more old mid new xs ys first second =
    second ∙ ap (λ l. l ++ text_of ys) first ∙ append_assoc old (text_of xs) (text_of ys) ∙ ap (λ l. old ++ l) (sym (text_of-append xs ys))

-- one text more stands behind those written
pub texts_more : {R : Type 0} (of : R → List ℕ) (old mid new : List ℕ) (xs : List R) (i : ℕ) (d : R) → i < length xs → mid ≡ old ++ flat_map of (take i xs)
    → new ≡ mid ++ of (get_or xs i d) → new ≡ old ++ flat_map of (take (i + 1) xs)
texts_more of old mid new xs i d h first second =
    second ∙ ap (λ l. l ++ of (get_or xs i d)) first ∙ append_assoc old (flat_map of (take i xs)) (of (get_or xs i d))
    ∙ ap (λ l. old ++ l) (flat_map_more of [] (take i xs) (get_or xs i d) ∙ ap (flat_map of) (sym (take_more xs i d h)))

-- the parts of the line of a time stand one after another
pub time_whole : (old t new : List ℕ) (time : ℕ) → t ≡ decimal time → new ≡ old ++ (codes "#" ++ (t ++ codes "\n")) → new ≡ old ++ text_of (time_line time ∷ [])
time_whole old t new time p h = rw (h, p) refl

-- the parts of a first slot stand one after another
pub first_written : (old a b c new : List ℕ) (time : ℕ) (lines : List (List ℕ)) → a ≡ old ++ text_of (time_line time ∷ []) → b ≡ a ++ text_of (codes "$dumpvars" ∷ [])
    → c ≡ b ++ text_of lines → new ≡ c ++ text_of (codes "$end" ∷ []) → new ≡ old ++ text_of (time_line time ∷ codes "$dumpvars" ∷ lines ++ codes "$end" ∷ [])
first_written old a b c new time lines p q r s =
    let head = text_more old a b (time_line time ∷ []) (codes "$dumpvars" ∷ []) p q in
    let values = text_more old b c (time_line time ∷ codes "$dumpvars" ∷ []) lines head r in
    text_more old c new (time_line time ∷ codes "$dumpvars" ∷ lines) (codes "$end" ∷ []) values s

-- the lines of one change more
pub changes_more : (old mid new : List ℕ) (cs : List DumpChange) (i : ℕ) (c d : DumpChange) → i < length cs → c ≡ get_or cs i d → mid ≡ old ++ text_of (change_texts (take i cs))
    → new ≡ mid ++ text_of (change_text c ∷ []) → new ≡ old ++ text_of (change_texts (take (i + 1) cs))
changes_more old mid new cs i c d h item first second =
    text_more old mid new (change_texts (take i cs)) (change_text c ∷ []) first second
    ∙ ap (λ (x : DumpChange). old ++ text_of (change_texts (take i cs) ++ change_text x ∷ [])) item
    ∙ ap (λ l. old ++ text_of l) (sym (map-append change_text (take i cs) (get_or cs i d ∷ [])) ∙ ap change_texts (sym (take_more cs i d h)))

-- where nothing has changed, a later slot has no line and no time
pub slot_silent : (last : Option ℕ) (before time : ℕ) (cs : List DumpChange) → last ≡ Some before → cs ≡ []
    → ([] ≡ slot_lines last time (change_texts cs)) × (before ≡ slot_time last time (change_texts cs))
slot_silent last before time cs is none =
    (ap₂ (λ l ds. slot_lines l time (change_texts ds)) (sym is) (sym none), ap₂ (λ l ds. slot_time l time (change_texts ds)) (sym is) (sym none))

-- where something has changed, a later slot has its time
pub slot_timed : (last : Option ℕ) (before time : ℕ) (cs : List DumpChange) → last ≡ Some before → (length cs == 0) ≡ false
    → (time_line time ∷ change_texts cs ≡ slot_lines last time (change_texts cs)) × (time ≡ slot_time last time (change_texts cs))
slot_timed last before time [] is some = cc
slot_timed last before time (c ∷ cs) is some =
    (ap (λ l. slot_lines l time (change_texts (c ∷ cs))) (sym is), ap (λ l. slot_time l time (change_texts (c ∷ cs))) (sym is))
