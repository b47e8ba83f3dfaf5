-- The text of a header.
use Rattle.std.proofs.Common.{◌≡◌, ℕ, ◌+◌, ◌<◌, List, [], ◌∷◌, ◌++◌, length, take, get_or, sym, ap, ◌∙◌, subst, append_assoc, append-nil}
use Rattle.std.proofs.lemmas.List.{take_more, flat_map_more}
use Rattle.std.specs.Prelude.{codes, decimal, Option, Some}
use Rattle.std.specs.Fmt.{signed_decimal}
use Rattle.vs_design.specs.declared.signal.Bounds.{Bounds}
use Rattle.vs_design.specs.declared.signal.Signal.{Signal}
use Rattle.vs_design.specs.declared.design.Entry.{Entry}
use Rattle.vs_design.specs.declared.design.ScopeKind.{ScopeKind}
use Rattle.vs_design.specs.Parts.{Parts}
use Rattle.vs_vcd_writing.specs.Codes.{code}
use Rattle.vs_vcd_writing.specs.Text.{text_of, magnitude_word, unit_word, precision, scope_word, scope_line, kind_word, shape_text, range_text, declaration, entry_lines, outline_lines, end_of_definitions, header_lines}
use Rattle.vs_vcd_writing.proofs.LineLemmas.{text_more}

-- the parts of the line of a tick stand one after another
pub tick_whole : (old m u new : List ℕ) (d : Parts) → m ≡ magnitude_word d.timescale.precision.magnitude → u ≡ unit_word d.timescale.precision.unit
    → new ≡ old ++ (codes "$timescale " ++ (m ++ (codes " " ++ (u ++ codes " $end\n")))) → new ≡ old ++ text_of ((codes "$timescale " ++ precision d ++ codes " $end") ∷ [])
tick_whole old m u new d p q h = rw (h, p, q) (simp append_assoc)

-- the parts of the line that opens a scope stand one after another
pub scope_whole : (old w name a b new : List ℕ) (kind : ScopeKind) → w ≡ scope_word kind → a ≡ old ++ (codes "$scope " ++ (w ++ codes " "))
    → b ≡ a ++ name → new ≡ b ++ codes " $end\n" → new ≡ old ++ text_of (scope_line kind name ∷ [])
scope_whole old w name a b new kind m p q h = rw (h, q, p, m) (simp append_assoc)

-- the parts of a range stand one after another
pub range_whole : (old a b new : List ℕ) (range : Option Bounds) (r : Bounds) → range ≡ Some r → a ≡ signed_decimal r.left → b ≡ signed_decimal r.right
    → new ≡ old ++ (codes " [" ++ (a ++ (codes ":" ++ (b ++ codes "]")))) → new ≡ old ++ range_text range
range_whole old a b new range r is p q h = rw (h, p, q, is) (simp append_assoc)

-- the parts of what stands before the code stand one after another
pub shape_whole : (old k w new : List ℕ) (s : Signal) → k ≡ kind_word s.kind → w ≡ decimal s.width → new ≡ old ++ (codes "$var " ++ (k ++ (codes " " ++ (w ++ codes " "))))
    → new ≡ old ++ codes "$var " ++ shape_text s ++ codes " "
shape_whole old k w new s p q h = rw (h, p, q) (simp append_assoc)

-- the parts of what stands behind the code stand one after another
pub name_whole : (old a b new name : List ℕ) (s : Signal) → name ≡ s.name.items → a ≡ old ++ (codes " " ++ (name ++ [])) → b ≡ a ++ range_text s.range → new ≡ b ++ codes " $end\n"
    → new ≡ old ++ codes " " ++ s.name.items ++ range_text s.range ++ codes " $end\n"
name_whole old a b new name s m p q h = rw (h, q, p, m, append-nil) (simp append_assoc)

-- the parts of a declaration stand one after another
pub declared_whole : (old a b new : List ℕ) (s : Signal) (n : ℕ) → a ≡ old ++ codes "$var " ++ shape_text s ++ codes " " → b ≡ a ++ code n
    → new ≡ b ++ codes " " ++ s.name.items ++ range_text s.range ++ codes " $end\n" → new ≡ old ++ text_of (declaration s n ∷ [])
declared_whole old a b new s n p q h = rw (h, q, p) (simp append_assoc)

-- one more entry of the outline is written
pub outline_more : (old mid new : List ℕ) (d : Parts) (items : List Entry) (i : ℕ) (e : Entry) → items ≡ d.outline → i < length items → e ≡ get_or items i e
    → mid ≡ old ++ text_of (outline_lines d (take i d.outline)) → new ≡ mid ++ text_of (entry_lines d e) → new ≡ old ++ text_of (outline_lines d (take (i + 1) d.outline))
outline_more old mid new d items i e same h item first second =
    let outline = d.outline in
    let within : i < length outline = subst (λ l. i < length l) same h in
    let front : take (i + 1) outline ≡ take i outline ++ e ∷ [] =
    take_more outline i e within ∙ ap (λ x. take i outline ++ x ∷ []) (sym (item ∙ ap (λ l. get_or l i e) same)) in
    let lines : outline_lines d (take i outline) ++ entry_lines d e ≡ outline_lines d (take (i + 1) outline) =
    flat_map_more (entry_lines d) [] (take i outline) e ∙ ap (outline_lines d) (sym front) in
    text_more old mid new (outline_lines d (take i outline)) (entry_lines d e) first second ∙ ap (λ l. old ++ text_of l) lines

-- the parts of a header stand one after another
pub header_whole : (old a b new : List ℕ) (d : Parts) → old ≡ [] → a ≡ old ++ text_of ((codes "$timescale " ++ precision d ++ codes " $end") ∷ [])
    → b ≡ a ++ text_of (outline_lines d d.outline) → new ≡ b ++ text_of (end_of_definitions ∷ []) → new ≡ text_of (header_lines d)
header_whole old a b new d none p q h =
    let first = codes "$timescale " ++ precision d ++ codes " $end" in
    text_more old b new (first ∷ outline_lines d d.outline) (end_of_definitions ∷ []) (text_more old a b (first ∷ []) (outline_lines d d.outline) p q) h
    ∙ ap (λ l. l ++ text_of (header_lines d)) none
