-- What the lines of an outline say.
use Rattle.std.proofs.Common.{◌≡◌, ℕ, zero, suc, ◌+◌, Bool, true, false, Option, Some, None, List, [], ◌∷◌, ◌++◌, codes, decimal, length, map, drop, refl, sym, ap, ◌∙◌, append_assoc, arith, eqb}
use Rattle.std.proofs.lemmas.Bool.{cond-true, cond-false, eq-eqb, ne_eqb, and_parts as and_true}
use Rattle.std.specs.Prelude.{◌==◌, slice_get, if◌then◌else◌}
use Rattle.std.specs.List.{flat_map}
use Rattle.vs_design.specs.declared.signal.Signal.{Signal}
use Rattle.vs_design.specs.declared.design.Entry.{Entry}
use Rattle.vs_design.specs.declared.design.Entry.TheVariants.{Enter, Declare, Leave}
use Rattle.vs_design.specs.Parts.{Parts}
use Rattle.vs_design.specs.WellFormed.{counts_from, declared_in, width_at}
use Rattle.vs_vcd_writing.specs.Codes.{code, is_array, shown, shown_from, place_from}
use Rattle.vs_vcd_writing.specs.Text.{kind_word, range_text, declaration, declared, scope_line, outline_lines}
use Rattle.vs_vcd_writing.proofs.CodeTableLemmas.{place_below}
use Rattle.vs_vcd_reader.specs.vs_vcd_lines.proofs.CutLemmas.{eqb_gives}
use Rattle.vs_vcd_reader.specs.Plain.{PlainDeclaration}
use Rattle.vs_vcd_reader.specs.Plain.{PlainDeclaration as p}
use Rattle.vs_vcd_reader.specs.Layout.{variable_text, declaration_lines, widths_of}
use Rattle.vs_vcd_reader.specs.Said.{variable_of, said_of, said_by, declarations_of}
use Rattle.vs_vcd_reader.proofs.ListLemmas.{drop_head}

-- ---- codes

-- how many of the first signals a dump shows
abbrev pub count_before : ℕ → List Signal → ℕ
count_before zero ss = zero
count_before (suc k) [] = zero
count_before (suc k) (s ∷ ss) = if is_array s then count_before k ss else suc (count_before k ss)

line_is : (s : Signal) (number : ℕ) → declaration s number ≡ variable_text (variable_of s) number
line_is s number =
    let start = codes "$var " in
    let kind = kind_word s.kind in
    let width = decimal s.width in
    ap (λ l. l ++ codes " " ++ code number ++ codes " " ++ s.name.items ++ range_text s.range ++ codes " $end")
    (sym (append_assoc start (kind ++ codes " ") width) ∙ ap (λ l. l ++ width) (sym (append_assoc start kind (codes " "))))

-- the first of some signals
place_first : (b : Bool) (f q n m : ℕ) (s : Signal) (rest : List ℕ) → n ≡ f → m ≡ q → place_from q rest n ≡ None
    → declared (Some s) (place_from q (if b then rest else f ∷ rest) n) ≡ declaration_lines m (if b then [] else p.Variable (variable_of s) ∷ [])
place_first true f q n m s rest at is none = ap (declared (Some s)) none
place_first false f q n m s rest at is none =
    ap (declared (Some s)) (cond-true (f == n) (Some q) (place_from (suc q) rest n) (eq-eqb f n (sym at)))
    ∙ ap (λ l. l ∷ []) (line_is s q ∙ ap (variable_text (variable_of s)) (sym is))

-- one of the others
place_later : (b : Bool) (f q n m c : ℕ) (o : Option Signal) (rest : List ℕ) → (f ≡ n → ⊥) → m ≡ q + (if b then c else suc c)
    → ((r : ℕ) → m ≡ r + c → declared o (place_from r rest n) ≡ declaration_lines m (said_of o))
    → declared o (place_from q (if b then rest else f ∷ rest) n) ≡ declaration_lines m (said_of o)
place_later true f q n m c o rest other is h = h q is
place_later false f q n m c o rest other is h =
    ap (declared o) (cond-false (f == n) (Some q) (place_from (suc q) rest n) (ne_eqb f n other)) ∙ h (suc q) (omega (arith, is))

-- the code of a signal is that of as many signals as are shown before it
place_is : (f q n i m : ℕ) (ss : List Signal) → n ≡ f + i → m ≡ q + count_before i ss
    → declared (slice_get ss i) (place_from q (shown_from f ss) n) ≡ declaration_lines m (said_of (slice_get ss i))
place_is f q n i m [] at is = refl
place_is f q n zero m (s ∷ ss) at is =
    place_first (is_array s) f q n m s (shown_from (suc f) ss) (omega (arith, at)) (omega (arith, is)) (place_below (suc f) q n ss (omega (arith, at)))
place_is f q n (suc i) m (s ∷ ss) at is =
    place_later (is_array s) f q n m (count_before i ss) (slice_get ss i) (shown_from (suc f) ss) (λ e. omega (arith, at, e)) is
    (λ r e. place_is (suc f) r n i m ss (omega (arith, at)) e)

-- ---- how many are shown

count_first : (b : Bool) (x : PlainDeclaration) → (if b then 0 else 1) ≡ 0 + length (if b then [] else x ∷ [])
count_first true x = refl
count_first false x = refl

count_later : (b : Bool) (c e l : ℕ) → c ≡ e + l → (if b then c else suc c) ≡ (if b then e else suc e) + l
count_later true c e l h = h
count_later false c e l h = omega (arith, h)

count_more : (i : ℕ) (ss : List Signal) → count_before (suc i) ss ≡ count_before i ss + length (said_of (slice_get ss i))
count_more zero [] = refl
count_more (suc i) [] = refl
count_more zero (s ∷ ss) = count_first (is_array s) (p.Variable (variable_of s))
count_more (suc i) (s ∷ ss) =
    count_later (is_array s) (count_before (suc i) ss) (count_before i ss) (length (said_of (slice_get ss i))) (count_more i ss)

said_signal : (b : Bool) (s : Signal) (n : ℕ) (ds : List PlainDeclaration)
    → declaration_lines n ((if b then [] else p.Variable (variable_of s) ∷ []) ++ ds)
    ≡ declaration_lines n (if b then [] else p.Variable (variable_of s) ∷ []) ++ declaration_lines (n + length (if b then [] else p.Variable (variable_of s) ∷ [])) ds
said_signal true s n ds = ap (λ k. declaration_lines k ds) (omega arith)
said_signal false s n ds = ap (λ k. variable_text (variable_of s) n ∷ declaration_lines k ds) (omega arith)

said_lines : (o : Option Signal) (n : ℕ) (ds : List PlainDeclaration)
    → declaration_lines n (said_of o ++ ds) ≡ declaration_lines n (said_of o) ++ declaration_lines (n + length (said_of o)) ds
said_lines None n ds = ap (λ k. declaration_lines k ds) (omega arith)
said_lines (Some s) n ds = said_signal (is_array s) s n ds

-- ---- the lines

counts_head : (k i : ℕ) (is : List ℕ) → counts_from k (i ∷ is) ≡ true → (i ≡ k) × (counts_from (suc k) is ≡ true)
counts_head k i is h = let parts = and_true (eqb i k) (counts_from (suc k) is) h in (eqb_gives i k parts.0, parts.1)

outline_at : (d : Parts) (k : ℕ) (es : List Entry) → counts_from k (declared_in es) ≡ true
    → outline_lines d es ≡ declaration_lines (count_before k d.signals) (flat_map (said_by d) es)
outline_at d k [] h = refl
outline_at d k (Enter kind name ∷ es) h = ap (λ l. scope_line kind name.items ∷ l) (outline_at d k es h)
outline_at d k (Leave ∷ es) h = ap (λ l. codes "$upscope $end" ∷ l) (outline_at d k es h)
outline_at d k (Declare i ∷ es) h =
    let parts = counts_head k i (declared_in es) h in
    let n = count_before i d.signals in
    let o = slice_get d.signals i in
    let ds = flat_map (said_by d) es in
    let next : count_before (suc k) d.signals ≡ n + length (said_of o) = ap (λ x. count_before (suc x) d.signals) (sym parts.0) ∙ count_more i d.signals in
    ap (λ l. l ++ outline_lines d es) (place_is 0 0 i i n d.signals (omega arith) (omega arith))
    ∙ ap (λ l. declaration_lines n (said_of o) ++ l) (outline_at d (suc k) es parts.1 ∙ ap (λ x. declaration_lines x ds) next)
    ∙ sym (said_lines o n ds) ∙ ap (λ x. declaration_lines (count_before x d.signals) (said_of o ++ ds)) parts.0

-- the lines of a design's outline are those of its declarations
pub outline_is : (d : Parts) → counts_from 0 (declared_in d.outline) ≡ true → outline_lines d d.outline ≡ declaration_lines 0 (declarations_of d)
outline_is d h = outline_at d 0 d.outline h

-- ---- sizes

-- the sizes of those signals that a dump shows
abbrev sizes_of : List Signal → List ℕ
sizes_of [] = []
sizes_of (s ∷ ss) = if is_array s then sizes_of ss else s.width ∷ sizes_of ss

shown_size : (b : Bool) (size : ℕ → ℕ) (f w : ℕ) (rest ws : List ℕ) → size f ≡ w → map size rest ≡ ws
    → map size (if b then rest else f ∷ rest) ≡ (if b then ws else w ∷ ws)
shown_size true size f w rest ws is more = more
shown_size false size f w rest ws is more = ap (λ x. x ∷ map size rest) is ∙ ap (λ l. w ∷ l) more

shown_sizes : (all : List Signal) (f : ℕ) (ss : List Signal) → drop f all ≡ ss → map (λ n. width_at (slice_get all n)) (shown_from f ss) ≡ sizes_of ss
shown_sizes all f [] e = refl
shown_sizes all f (s ∷ ss) e =
    let h = drop_head f all s ss e in
    let size : ℕ → ℕ = λ n. width_at (slice_get all n) in
    shown_size (is_array s) size f s.width (shown_from (suc f) ss) (sizes_of ss) (ap width_at h.0) (shown_sizes all (suc f) ss h.1)

said_size : (b : Bool) (s : Signal) (ds : List PlainDeclaration) (ws : List ℕ) → widths_of ds ≡ ws
    → widths_of ((if b then [] else p.Variable (variable_of s) ∷ []) ++ ds) ≡ (if b then ws else s.width ∷ ws)
said_size true s ds ws h = h
said_size false s ds ws h = ap (λ l. s.width ∷ l) h

sizes_at : (d : Parts) (k : ℕ) (es : List Entry) (ss : List Signal) → counts_from k (declared_in es) ≡ true → drop k d.signals ≡ ss
    → length (declared_in es) ≡ length ss → widths_of (flat_map (said_by d) es) ≡ sizes_of ss
sizes_at d k [] [] h e all = refl
sizes_at d k [] (s ∷ ss) h e all = absurd (omega (arith, all))
sizes_at d k (Enter kind name ∷ es) ss h e all = sizes_at d k es ss h e all
sizes_at d k (Leave ∷ es) ss h e all = sizes_at d k es ss h e all
sizes_at d k (Declare i ∷ es) [] h e all = absurd (omega (arith, all))
sizes_at d k (Declare i ∷ es) (s ∷ ss) h e all =
    let parts = counts_head k i (declared_in es) h in
    let there = drop_head k d.signals s ss e in
    let ds = flat_map (said_by d) es in
    ap (λ o. widths_of (said_of o ++ ds)) (ap (slice_get d.signals) parts.0 ∙ there.0)
    ∙ said_size (is_array s) s ds (sizes_of ss) (sizes_at d (suc k) es ss parts.1 there.1 (omega (arith, all)))

-- the sizes of the variables are those of the signals that are shown
pub widths_are : (d : Parts) → counts_from 0 (declared_in d.outline) ≡ true → length (declared_in d.outline) ≡ length d.signals
    → widths_of (declarations_of d) ≡ map (λ n. width_at (slice_get d.signals n)) (shown d)
widths_are d h all = sizes_at d 0 d.outline d.signals h refl all ∙ sym (shown_sizes d.signals 0 d.signals refl)
