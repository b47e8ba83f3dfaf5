-- Lines from the start to an end, and the dump that they are of.
use Rattle.std.proofs.Common.{◌≡◌, ℕ, suc, true, List, [], ◌∷◌, ◌++◌, codes, map, refl, sym, ap, subst, ◌∙◌, append_assoc}
use Rattle.std.specs.List.{flat_map}
use Rattle.vs_design.specs.declared.timescale.TimeSpan.{TimeSpan}
use Rattle.vs_vcd_lines.specs.vs_vcd_writing.specs.Text.{text_of, end_of_definitions, time_line}
use Rattle.vs_vcd_lines.specs.declared.dump.ValueChange.{ValueChange}
use Rattle.vs_vcd_lines.specs.Cuts.{lacks}
use Rattle.vs_vcd_lines.specs.Lines.{change_line}
use Rattle.vs_vcd_reader.specs.Plain.{PlainDeclaration, PlainDump, PlainMoment}
use Rattle.vs_vcd_reader.specs.Plain.{PlainDeclaration as d}
use Rattle.vs_vcd_reader.specs.Layout.{declaration_lines, dump_lines, later_lines, body_lines, IsLayout}
use Rattle.vs_vcd_reader.specs.Faults.{IsNoDump}
use Rattle.vs_vcd_reader.specs.Steps.{Item, Place, Steps, Follows, IsLast, body_items, change_items, declared_items, items_of, later_items, line_of, text_from}
use Rattle.vs_vcd_reader.specs.Steps.{Item as i, Place as p}
use Rattle.vs_vcd_reader.specs.Stops.{GoesOn}
use Rattle.vs_vcd_reader.proofs.FollowLemmas.{follows, ends, part_goes_on}
use Rattle.vs_vcd_reader.proofs.PartLemmas.{IsWholePart, whole_part}
use Rattle.vs_vcd_reader.proofs.WayLemmas.{dump_end}

-- ---- lines of a dump

lines_append : (xs ys : List Item) → map line_of (xs ++ ys) ≡ map line_of xs ++ map line_of ys
lines_append [] ys = refl
lines_append (x ∷ xs) ys = ap (λ l. line_of x ∷ l) (lines_append xs ys)

declared_lines : (n : ℕ) (ds : List PlainDeclaration) → map line_of (declared_items n ds) ≡ declaration_lines n ds
declared_lines n [] = refl
declared_lines n (d.Scope kind name ∷ ds) = ap (λ l. line_of (i.Scope kind name) ∷ l) (declared_lines n ds)
declared_lines n (d.Variable v ∷ ds) = ap (λ l. line_of (i.Variable v n) ∷ l) (declared_lines (suc n) ds)
declared_lines n (d.Upscope ∷ ds) = ap (λ l. line_of i.Upscope ∷ l) (declared_lines n ds)

changed_lines : (cs : List ValueChange) → map line_of (change_items cs) ≡ map change_line cs
changed_lines [] = refl
changed_lines (c ∷ cs) = ap (λ l. change_line c ∷ l) (changed_lines cs)

later_are : (ms : List PlainMoment) → map line_of (later_items ms) ≡ flat_map later_lines ms
later_are [] = refl
later_are (m ∷ ms) =
    ap (λ l. time_line m.time ∷ l)
    (lines_append (change_items m.changes) (later_items ms) ∙ ap (λ l. l ++ map line_of (later_items ms)) (changed_lines m.changes)
    ∙ ap (λ l. map change_line m.changes ++ l) (later_are ms))

body_are : (ms : List PlainMoment) → map line_of (body_items ms) ≡ body_lines ms
body_are [] = refl
body_are (m ∷ ms) =
    ap (λ l. time_line m.time ∷ codes "$dumpvars" ∷ l)
    (lines_append (change_items m.changes) (i.End ∷ later_items ms) ∙ ap (λ l. l ++ (codes "$end" ∷ map line_of (later_items ms))) (changed_lines m.changes)
    ∙ ap (λ l. map change_line m.changes ++ (codes "$end" ∷ l)) (later_are ms)
    ∙ sym (append_assoc (map change_line m.changes) (codes "$end" ∷ []) (flat_map later_lines ms)))

pub dump_lines_are : (x : PlainDump) → map line_of (items_of x) ≡ dump_lines x
dump_lines_are x =
    ap (λ l. line_of (i.Tick x.tick) ∷ l)
    (lines_append (declared_items 0 x.declarations) (i.Definitions ∷ body_items x.moments)
    ∙ ap (λ l. l ++ (end_of_definitions ∷ map line_of (body_items x.moments))) (declared_lines 0 x.declarations)
    ∙ ap (λ l. declaration_lines 0 x.declarations ++ (end_of_definitions ∷ l)) (body_are x.moments)
    ∙ sym (append_assoc (declaration_lines 0 x.declarations) (end_of_definitions ∷ []) (body_lines x.moments)))

pub dump_text_is : (x : PlainDump) → text_of (dump_lines x) ≡ text_from (items_of x)
dump_text_is x = ap text_of (sym (dump_lines_are x))

-- ---- texts that are none

pub no_dump_ended : (text : List ℕ) (items : List Item) (place : Place) (line rest : List ℕ) → Steps p.Start items place → text ≡ text_from items ++ (line ++ 10 ∷ rest)
    → lacks 10 line ≡ true → (Follows place line → ⊥) → IsNoDump text
no_dump_ended text items place line rest steps is one bad = λ x h.
    let way = dump_end text x h in
    bad (follows p.Start place items (items_of x) way.last line rest steps way.steps one (sym is ∙ h.is ∙ dump_text_is x))

pub no_dump_cut : (text : List ℕ) (items : List Item) (place : Place) (part : List ℕ) → Steps p.Start items place → text ≡ text_from items ++ part
    → lacks 10 part ≡ true → (part ≡ [] → IsLast place → ⊥) → IsNoDump text
no_dump_cut text items place part steps is one bad = λ x h.
    let way = dump_end text x h in
    let both = ends p.Start place items (items_of x) way.last part steps way.steps one (sym is ∙ h.is ∙ dump_text_is x) in
    bad both.0 (subst IsLast (sym both.1) way.is)

-- what stands after lines of a text of the layout goes on to one there
pub no_begun_part : (items : List Item) (place : Place) (part rest : List ℕ) (x : PlainDump) → Steps p.Start items place → lacks 10 part ≡ true
    → IsLayout (text_from items ++ (part ++ rest)) x → GoesOn place part
no_begun_part items place part rest x steps one h =
    let way = dump_end (text_from items ++ (part ++ rest)) x h in
    part_goes_on p.Start place items (items_of x) way.last part rest steps way.steps one (h.is ∙ dump_text_is x)

-- ---- items of a dump, once

abbrev declared_by : List Item → List PlainDeclaration
declared_by [] = []
declared_by (i.Scope kind name ∷ xs) = d.Scope kind name ∷ declared_by xs
declared_by (i.Variable v n ∷ xs) = d.Variable v ∷ declared_by xs
declared_by (i.Upscope ∷ xs) = d.Upscope ∷ declared_by xs
declared_by (i.Tick span ∷ xs) = declared_by xs
declared_by (i.Definitions ∷ xs) = []
declared_by (i.Time time ∷ xs) = []
declared_by (i.Values ∷ xs) = []
declared_by (i.Change c ∷ xs) = []
declared_by (i.End ∷ xs) = []

declared_back : (n : ℕ) (ds : List PlainDeclaration) (rest : List Item) → declared_by (declared_items n ds ++ (i.Definitions ∷ rest)) ≡ ds
declared_back n [] rest = refl
declared_back n (d.Scope kind name ∷ ds) rest = ap (λ l. d.Scope kind name ∷ l) (declared_back n ds rest)
declared_back n (d.Variable v ∷ ds) rest = ap (λ l. d.Variable v ∷ l) (declared_back (suc n) ds rest)
declared_back n (d.Upscope ∷ ds) rest = ap (λ l. d.Upscope ∷ l) (declared_back n ds rest)

-- what stands after the line that ends the header
abbrev body_by : List Item → List Item
body_by [] = []
body_by (i.Definitions ∷ xs) = xs
body_by (i.Scope kind name ∷ xs) = body_by xs
body_by (i.Variable v n ∷ xs) = body_by xs
body_by (i.Upscope ∷ xs) = body_by xs
body_by (i.Tick span ∷ xs) = body_by xs
body_by (i.Time time ∷ xs) = body_by xs
body_by (i.Values ∷ xs) = body_by xs
body_by (i.Change c ∷ xs) = body_by xs
body_by (i.End ∷ xs) = body_by xs

body_back : (n : ℕ) (ds : List PlainDeclaration) (rest : List Item) → body_by (declared_items n ds ++ (i.Definitions ∷ rest)) ≡ rest
body_back n [] rest = refl
body_back n (d.Scope kind name ∷ ds) rest = body_back n ds rest
body_back n (d.Variable v ∷ ds) rest = body_back (suc n) ds rest
body_back n (d.Upscope ∷ ds) rest = body_back n ds rest

-- the changes before the next other line, and what stands after them
abbrev changes_by : List Item → List ValueChange
changes_by [] = []
changes_by (i.Change c ∷ xs) = c ∷ changes_by xs
changes_by (i.Scope kind name ∷ xs) = []
changes_by (i.Variable v n ∷ xs) = []
changes_by (i.Upscope ∷ xs) = []
changes_by (i.Tick span ∷ xs) = []
changes_by (i.Definitions ∷ xs) = []
changes_by (i.Time time ∷ xs) = []
changes_by (i.Values ∷ xs) = []
changes_by (i.End ∷ xs) = []

abbrev rest_by : List Item → List Item
rest_by [] = []
rest_by (i.Change c ∷ xs) = rest_by xs
rest_by (i.Scope kind name ∷ xs) = i.Scope kind name ∷ xs
rest_by (i.Variable v n ∷ xs) = i.Variable v n ∷ xs
rest_by (i.Upscope ∷ xs) = i.Upscope ∷ xs
rest_by (i.Tick span ∷ xs) = i.Tick span ∷ xs
rest_by (i.Definitions ∷ xs) = i.Definitions ∷ xs
rest_by (i.Time time ∷ xs) = i.Time time ∷ xs
rest_by (i.Values ∷ xs) = i.Values ∷ xs
rest_by (i.End ∷ xs) = i.End ∷ xs

changes_back : (cs : List ValueChange) (rest : List Item) → changes_by rest ≡ [] → changes_by (change_items cs ++ rest) ≡ cs
changes_back [] rest h = h
changes_back (c ∷ cs) rest h = ap (λ l. c ∷ l) (changes_back cs rest h)

rest_back : (cs : List ValueChange) (rest : List Item) → rest_by rest ≡ rest → rest_by (change_items cs ++ rest) ≡ rest
rest_back [] rest h = h
rest_back (c ∷ cs) rest h = rest_back cs rest h

-- later times are none or begin with a time
later_begins : (ms : List PlainMoment) → (changes_by (later_items ms) ≡ []) × (rest_by (later_items ms) ≡ later_items ms)
later_begins [] = (refl, refl)
later_begins (m ∷ ms) = (refl, refl)

moment_once : (m n : PlainMoment) → m.time ≡ n.time → m.changes ≡ n.changes → m ≡ n
moment_once m n e f =
    let made : ℕ → List ValueChange → PlainMoment = λ x y. record { time = x; changes = y } in ap (λ x. made x m.changes) e ∙ ap (made n.time) f

later_once : (ms ns : List PlainMoment) → later_items ms ≡ later_items ns → ms ≡ ns
later_once [] [] e = refl
later_once [] (n ∷ ns) e = absurd cc
later_once (m ∷ ms) [] e = absurd cc
later_once (m ∷ ms) (n ∷ ns) e =
    let times : m.time ≡ n.time = cc in
    let rest : change_items m.changes ++ later_items ms ≡ change_items n.changes ++ later_items ns = cc in
    let changes = sym (changes_back m.changes (later_items ms) (later_begins ms).0) ∙ ap changes_by rest ∙ changes_back n.changes (later_items ns) (later_begins ns).0 in
    let others = sym (rest_back m.changes (later_items ms) (later_begins ms).1) ∙ ap rest_by rest ∙ rest_back n.changes (later_items ns) (later_begins ns).1 in
    ap (λ x. x ∷ ms) (moment_once m n times changes) ∙ ap (λ l. n ∷ l) (later_once ms ns others)

body_once : (ms ns : List PlainMoment) → body_items ms ≡ body_items ns → ms ≡ ns
body_once [] [] e = refl
body_once [] (n ∷ ns) e = absurd cc
body_once (m ∷ ms) [] e = absurd cc
body_once (m ∷ ms) (n ∷ ns) e =
    let times : m.time ≡ n.time = cc in
    let rest : change_items m.changes ++ (i.End ∷ later_items ms) ≡ change_items n.changes ++ (i.End ∷ later_items ns) = cc in
    let changes = sym (changes_back m.changes (i.End ∷ later_items ms) refl) ∙ ap changes_by rest ∙ changes_back n.changes (i.End ∷ later_items ns) refl in
    let others : i.End ∷ later_items ms ≡ i.End ∷ later_items ns =
    sym (rest_back m.changes (i.End ∷ later_items ms) refl) ∙ ap rest_by rest ∙ rest_back n.changes (i.End ∷ later_items ns) refl in
    let same : later_items ms ≡ later_items ns = cc in
    ap (λ x. x ∷ ms) (moment_once m n times changes) ∙ ap (λ l. n ∷ l) (later_once ms ns same)

pub items_once : (x y : PlainDump) → items_of x ≡ items_of y → x ≡ y
items_once x y e =
    let tick : x.tick ≡ y.tick = cc in
    let rest : declared_items 0 x.declarations ++ (i.Definitions ∷ body_items x.moments) ≡ declared_items 0 y.declarations ++ (i.Definitions ∷ body_items y.moments) = cc in
    let declared = sym (declared_back 0 x.declarations (body_items x.moments)) ∙ ap declared_by rest ∙ declared_back 0 y.declarations (body_items y.moments) in
    let body = sym (body_back 0 x.declarations (body_items x.moments)) ∙ ap body_by rest ∙ body_back 0 y.declarations (body_items y.moments) in
    let moments = body_once x.moments y.moments body in
    let made : TimeSpan → List PlainDeclaration → List PlainMoment → PlainDump = λ a b c. record { tick = a; declarations = b; moments = c } in
    ap (λ a. made a x.declarations x.moments) tick ∙ ap (λ b. made y.tick b x.moments) declared ∙ ap (made y.tick y.declarations) moments

-- ---- the lines of a dump are a dump

pub whole_layout : (items : List Item) (w : IsWholePart items) → IsLayout (text_from items) w.dump
whole_layout items w = record { is = ap text_from w.are ∙ sym (dump_text_is w.dump); declared = w.declared; moments = w.moments }

pub dump_made : (text : List ℕ) (x : PlainDump) (last : Place) → text ≡ text_from (items_of x) → Steps p.Start (items_of x) last → IsLast last → IsLayout text x
dump_made text x last is steps h =
    let w = whole_part (items_of x) last steps h in
    let same = items_once w.dump x (sym w.are) in
    let whole = subst (IsLayout (text_from (items_of x))) same (whole_layout (items_of x) w) in
    record { is = is ∙ whole.is; declared = whole.declared; moments = whole.moments }
