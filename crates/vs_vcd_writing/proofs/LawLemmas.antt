-- A dump shows the values at the ends of its slots.
use Rattle.std.proofs.Common.{◌≡◌, ℕ, true, Option, Some, None, IfSome, List, [], ◌∷◌, ◌++◌, length, reverse, refl, sym, ap, ◌∙◌, subst, append_assoc, inl, inr}
use Rattle.std.proofs.lemmas.List.{length-reverse, reverse-reverse}
use Rattle.std.proofs.lemmas.Bool.{cases_lt}
use Rattle.std.specs.Prelude.{unwrap_or, slice_get}
use Rattle.std.specs.List.{list_all, Contains}
use Rattle.vs_design.specs.vs_logic4.specs.declared.digit.Digit.{Digit}
use Rattle.vs_design.specs.declared.signal.Signal.{Signal}
use Rattle.vs_design.specs.declared.design.Entry.{Entry}
use Rattle.vs_design.specs.declared.design.Entry.TheVariants.{Enter, Declare, Leave}
use Rattle.vs_design.specs.Parts.{Parts}
use Rattle.vs_design.specs.Traces.{Slot, AreRising}
use Rattle.vs_vcd_writing.specs.Codes.{shown, place_of}
use Rattle.vs_vcd_writing.specs.Values.{shown_value}
use Rattle.vs_vcd_writing.specs.Text.{text_of, declared, entry_lines, outline_lines, end_of_definitions, header_lines, slots_lines}
use Rattle.vs_vcd_writing.specs.Shown.{dump_lines, body_lines, extended, HasSize, Shows, ShowsOne, slot_at}
use Rattle.vs_design.specs.OneLine.{is_one_line, HasNamesOfOneLine}
use Rattle.vs_vcd_writing.proofs.CodeTableLemmas.{place_found}
use Rattle.vs_vcd_writing.proofs.LineLemmas.{text_of-append}
use Rattle.vs_vcd_writing.proofs.OneLineLemmas.{dump_lines-text_of, all-append, header_one_line, slots_one_line}
use Rattle.vs_vcd_writing.proofs.ExtendLemmas.{extended-shortened}
use Rattle.vs_vcd_writing.proofs.ChangeLemmas.{written, last_of_code, IsSilent, told_whole, slot_at-cons, slot_at-before}

-- ---- past the header

declared_skipped : (o : Option Signal) (n : Option ℕ) (ls : List (List ℕ)) → body_lines (declared o n ++ ls) ≡ body_lines ls
declared_skipped None n ls = refl
declared_skipped (Some s) None ls = refl
declared_skipped (Some s) (Some n) ls = refl

entry_skipped : (d : Parts) (e : Entry) (ls : List (List ℕ)) → body_lines (entry_lines d e ++ ls) ≡ body_lines ls
entry_skipped d (Enter k name) ls = refl
entry_skipped d (Declare i) ls = declared_skipped (slice_get d.signals i) (place_of (shown d) i) ls
entry_skipped d Leave ls = refl

outline_skipped : (d : Parts) (es : List Entry) (ls : List (List ℕ)) → body_lines (outline_lines d es ++ ls) ≡ body_lines ls
outline_skipped d [] ls = refl
outline_skipped d (e ∷ es) ls =
    ap body_lines (append_assoc (entry_lines d e) (outline_lines d es) ls) ∙ entry_skipped d e (outline_lines d es ++ ls) ∙ outline_skipped d es ls

header_skipped : (d : Parts) (ls : List (List ℕ)) → body_lines (header_lines d ++ ls) ≡ ls
header_skipped d ls =
    ap body_lines (append_assoc (outline_lines d d.outline) (end_of_definitions ∷ []) ls) ∙ outline_skipped d d.outline (end_of_definitions ∷ ls)

-- the lines of the body of a whole text
body_of_text : (d : Parts) (slots ends : List (List ℕ)) → HasNamesOfOneLine d → list_all is_one_line slots ≡ true → list_all is_one_line ends ≡ true
    → body_lines (dump_lines (text_of (header_lines d) ++ text_of slots ++ text_of ends)) ≡ slots ++ (ends ++ [] ∷ [])
body_of_text d slots ends names p q =
    let h = header_lines d in
    let joined : text_of h ++ text_of slots ++ text_of ends ≡ text_of ((h ++ slots) ++ ends) =
    ap (λ l. l ++ text_of ends) (sym (text_of-append h slots)) ∙ sym (text_of-append (h ++ slots) ends) in
    let lines = dump_lines-text_of ((h ++ slots) ++ ends) (all-append (h ++ slots) ends (all-append h slots (header_one_line d names) p) q) in
    let regrouped : ((h ++ slots) ++ ends) ++ [] ∷ [] ≡ h ++ (slots ++ (ends ++ [] ∷ [])) =
    append_assoc (h ++ slots) ends ([] ∷ []) ∙ append_assoc h slots (ends ++ [] ∷ []) in
    ap (λ l. body_lines (dump_lines l)) joined ∙ ap body_lines lines ∙ ap body_lines regrouped ∙ header_skipped d (slots ++ (ends ++ [] ∷ []))

-- the value of the last slot is shown
shows_slots : (d : Parts) (text : List ℕ) (tail : List (List ℕ)) (slots : List Slot) (time signal : ℕ)
    → body_lines (dump_lines text) ≡ slots_lines (shown d) slots ++ tail → IsSilent tail → AreRising slots → Contains (shown d) signal
    → IfSome (slot_at time slots) (λ s. HasSize d s.store signal → Shows text d time signal (shown_value s.store signal))
shows_slots d text tail [] time signal body quiet r k = tt
shows_slots d text tail (s ∷ ss) time signal body quiet r k =
    elim (cases_lt time s.time) [
      | inl early ↦ subst (λ o. IfSome o (λ (x : Slot). HasSize d x.store signal → Shows text d time signal (shown_value x.store signal))) (sym (slot_at-before time s ss early r.1)) tt
      | inr there ↦
          let current = unwrap_or (slot_at time ss) s in
          let value = shown_value current.store signal in
          let place = place_found (shown d) signal k in
          let all : HasSize d current.store signal → Shows text d time signal value = λ size. record {
            number = place.0;
            digits = written current.store signal;
            coded = place.1;
            last = ap (λ ls. last_of_code time place.0 0 ls) body ∙ told_whole time place.0 (shown d) signal s ss tail place.2 r quiet there;
            size = size;
            extends = extended-shortened (length value) (reverse value) (sym (length-reverse value));
          } in
          subst (λ o. IfSome o (λ (x : Slot). HasSize d x.store signal → Shows text d time signal (shown_value x.store signal))) (sym (slot_at-cons time s ss there)) all
    ]

-- a text of a header, of slots and of lines that tell nothing
pub shows_text : (d : Parts) (ends : List (List ℕ)) (slots : List Slot) (time signal : ℕ) → list_all is_one_line ends ≡ true → IsSilent (ends ++ [] ∷ [])
    → HasNamesOfOneLine d → AreRising slots → Contains (shown d) signal
    → IfSome (slot_at time slots) (λ s. HasSize d s.store signal → Shows (text_of (header_lines d) ++ text_of (slots_lines (shown d) slots) ++ text_of ends) d time signal (shown_value s.store signal))
shows_text d ends slots time signal plain quiet names r k =
    let numbers = shown d in
    shows_slots d (text_of (header_lines d) ++ text_of (slots_lines numbers slots) ++ text_of ends) (ends ++ [] ∷ []) slots time signal
    (body_of_text d (slots_lines numbers slots) ends names (slots_one_line numbers slots) plain) quiet r k

-- ---- one value

-- two values of one size to which the same digits extend
one_extended : (a b ds : List Digit) → length a ≡ length b → extended (length a) ds ≡ reverse a → extended (length b) ds ≡ reverse b → a ≡ b
one_extended a b ds size p q =
    let same : reverse a ≡ reverse b = sym p ∙ ap (λ n. extended n ds) size ∙ q in
    sym (reverse-reverse a) ∙ ap reverse same ∙ reverse-reverse b

-- the number of a signal's code and the digits of its last change are one
pub one_value : ShowsOne
one_value text d time signal a b p q =
    let number : p.number ≡ q.number = cc in
    let digits : p.digits ≡ q.digits = cc in
    one_extended a b p.digits (p.size ∙ sym q.size) p.extends (ap (extended (length b)) digits ∙ q.extends)
