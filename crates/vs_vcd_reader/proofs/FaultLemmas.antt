-- Why the reader stops is a fault of the text.
use Rattle.std.proofs.Common.{◌≡◌, ◌⊎◌, inl, inr, ℕ, suc, Bool, true, false, List, [], ◌∷◌, ◌++◌, length, map, refl, sym, ap, subst, ◌∙◌, append_assoc, arith}
use Rattle.std.proofs.lemmas.Bool.{false≢true}
use Rattle.std.proofs.lemmas.List.{append-nil}
use Rattle.vs_vcd_lines.specs.vs_vcd_writing.specs.Text.{end_of_definitions}
use Rattle.vs_vcd_lines.specs.Cuts.{lacks, IsCut}
use Rattle.vs_vcd_reader.specs.declared.fault.VcdFault.{VcdFault}
use Rattle.vs_vcd_reader.specs.declared.fault.VcdFault.TheVariants as f
use Rattle.vs_vcd_reader.specs.Plain.{PlainDeclaration, PlainDump, PlainMoment}
use Rattle.vs_vcd_reader.specs.Plain.{PlainDeclaration as d}
use Rattle.vs_vcd_reader.specs.Layout.{IsLayout, widths_of}
use Rattle.vs_vcd_lines.specs.declared.dump.ValueChange.{ValueChange}
use Rattle.vs_vcd_reader.specs.Faults.{IsBadInBody, IsBadInHeader, IsBadLine, IsBeginning, IsBody, IsFault, IsLineEnd, IsOfNoCode, IsOfTime}
use Rattle.vs_vcd_reader.specs.Faults.{IsLineEnd as z}
use Rattle.vs_vcd_reader.specs.Steps.{Item, Place, Step, Steps, Follows, IsLast, body_items, change_items, declared_items, items_of, later_items, line_of, text_from}
use Rattle.vs_vcd_reader.specs.Steps.{Item as i, Place as p, Step as s, Steps as t}
use Rattle.vs_vcd_reader.specs.Stops.{GoesOn, IsBodyKind, IsKindAt, IsOfOtherCode, IsStop, IsStopped, IsReportedAt, IsUnended}
use Rattle.vs_vcd_reader.specs.Stops.{IsStop as stop}
use Rattle.vs_vcd_reader.proofs.BeginLemmas.{begun, place_widths}
use Rattle.vs_vcd_reader.proofs.DumpLemmas.{dump_text_is, no_begun_part, no_dump_cut, no_dump_ended}
use Rattle.vs_vcd_reader.proofs.FollowLemmas.{all_lines, same_way, steps_append, steps_more, text_from-append}
use Rattle.vs_vcd_reader.proofs.OnceLemmas.{other_letter}
use Rattle.vs_vcd_reader.proofs.WayLemmas.{dump_end}

-- ---- the header and the body

abbrev in_body : Place → Bool
in_body p.Start = false
in_body p.Top = false
in_body (p.Header ws depth own) = false
in_body (p.Zero ws) = true
in_body (p.First ws) = true
in_body (p.Values ws vs) = true
in_body (p.Later ws vs last from bare) = true

step_out : (here : Place) (x : Item) (next : Place) → Step here x next → in_body next ≡ false → in_body here ≡ false
step_out _ _ _ (s.tick span) h = refl
step_out _ _ _ (s.top name named) h = refl
step_out _ _ _ (s.scope ws depth own kind name named) h = refl
step_out _ _ _ (s.variable ws depth v is) h = refl
step_out _ _ _ (s.upscope ws depth own) h = refl
step_out _ _ _ (s.definitions ws own) h = refl
step_out _ _ _ (s.at_zero ws) h = absurd (false≢true (sym h))
step_out _ _ _ (s.values ws) h = absurd (false≢true (sym h))
step_out _ _ _ (s.value ws vs c numbered sized) h = absurd (false≢true (sym h))
step_out _ _ _ (s.end ws vs full) h = absurd (false≢true (sym h))
step_out _ _ _ (s.time ws vs last from time after small) h = absurd (false≢true (sym h))
step_out _ _ _ (s.change ws vs last from bare c least is) h = absurd (false≢true (sym h))

steps_out : (here there : Place) (xs : List Item) → Steps here xs there → in_body there ≡ false → in_body here ≡ false
steps_out here _ _ (t.stay _) h = h
steps_out here there _ (t.go _ x next xs _ step more) h = step_out here x next step (steps_out next there xs more h)

no_end_line : (here : Place) (x : Item) (next : Place) → Step here x next → in_body next ≡ false → line_of x ≡ end_of_definitions → ⊥
no_end_line _ _ _ (s.tick span) h e = other_letter _ _ e (λ k. omega (arith, k))
no_end_line _ _ _ (s.top name named) h e = other_letter _ _ e (λ k. omega (arith, k))
no_end_line _ _ _ (s.scope ws depth own kind name named) h e = other_letter _ _ e (λ k. omega (arith, k))
no_end_line _ _ _ (s.variable ws depth v is) h e = other_letter _ _ e (λ k. omega (arith, k))
no_end_line _ _ _ (s.upscope ws depth own) h e = other_letter _ _ e (λ k. omega (arith, k))
no_end_line _ _ _ (s.definitions ws own) h e = false≢true (sym h)
no_end_line _ _ _ (s.at_zero ws) h e = false≢true (sym h)
no_end_line _ _ _ (s.values ws) h e = false≢true (sym h)
no_end_line _ _ _ (s.value ws vs c numbered sized) h e = false≢true (sym h)
no_end_line _ _ _ (s.end ws vs full) h e = false≢true (sym h)
no_end_line _ _ _ (s.time ws vs last from time after small) h e = false≢true (sym h)
no_end_line _ _ _ (s.change ws vs last from bare c least is) h e = false≢true (sym h)

no_body_by : (here there : Place) (xs : List Item) (earlier later : List (List ℕ)) → Steps here xs there → in_body there ≡ false
    → map line_of xs ≡ earlier ++ end_of_definitions ∷ later → ⊥
no_body_by here _ _ [] later (t.stay _) h e = cc
no_body_by here _ _ (l ∷ ls) later (t.stay _) h e = cc
no_body_by here there _ [] later (t.go _ x next xs _ step more) h e =
    let first : line_of x ≡ end_of_definitions = cc in no_end_line here x next step (steps_out next there xs more h) first
no_body_by here there _ (l ∷ ls) later (t.go _ x next xs _ step more) h e =
    let rest : map line_of xs ≡ ls ++ end_of_definitions ∷ later = cc in no_body_by next there xs ls later more h rest

no_body : (there : Place) (xs : List Item) → Steps p.Start xs there → in_body there ≡ false → IsBody (map line_of xs) → ⊥
no_body there xs steps h b = no_body_by p.Start there xs b.earlier b.later steps h b.is

body_after : (x : Item) (lines : List (List ℕ)) → IsBody lines → IsBody (line_of x ∷ lines)
body_after x lines b = record { earlier = line_of x ∷ b.earlier; later = b.later; is = ap (λ l. line_of x ∷ l) b.is }

step_in : (here : Place) (x : Item) (next : Place) → Step here x next → in_body here ≡ false → (x ≡ i.Definitions) ⊎ (in_body next ≡ false)
step_in _ _ _ (s.tick span) h = inr refl
step_in _ _ _ (s.top name named) h = inr refl
step_in _ _ _ (s.scope ws depth own kind name named) h = inr refl
step_in _ _ _ (s.variable ws depth v is) h = inr refl
step_in _ _ _ (s.upscope ws depth own) h = inr refl
step_in _ _ _ (s.definitions ws own) h = inl refl
step_in _ _ _ (s.at_zero ws) h = absurd (false≢true (sym h))
step_in _ _ _ (s.values ws) h = absurd (false≢true (sym h))
step_in _ _ _ (s.value ws vs c numbered sized) h = absurd (false≢true (sym h))
step_in _ _ _ (s.end ws vs full) h = absurd (false≢true (sym h))
step_in _ _ _ (s.time ws vs last from time after small) h = absurd (false≢true (sym h))
step_in _ _ _ (s.change ws vs last from bare c least is) h = absurd (false≢true (sym h))

body_by : (here there : Place) (xs : List Item) → Steps here xs there → in_body here ≡ false → in_body there ≡ true → IsBody (map line_of xs)
body_by here _ _ (t.stay _) h k = absurd (false≢true (sym h ∙ k))
body_by here there _ (t.go _ x next xs _ step more) h k =
    elim (step_in here x next step h) [
      | inl last ↦ record { earlier = []; later = map line_of xs; is = ap (λ y. line_of y ∷ map line_of xs) last }
      | inr out ↦ body_after x (map line_of xs) (body_by next there xs more out k)
    ]

-- ---- sizes

abbrev widths_by : List Item → List ℕ
widths_by [] = []
widths_by (i.Variable v n ∷ xs) = v.width ∷ widths_by xs
widths_by (i.Scope kind name ∷ xs) = widths_by xs
widths_by (i.Upscope ∷ xs) = widths_by xs
widths_by (i.Tick span ∷ xs) = widths_by xs
widths_by (i.Definitions ∷ xs) = widths_by xs
widths_by (i.Time time ∷ xs) = widths_by xs
widths_by (i.Values ∷ xs) = widths_by xs
widths_by (i.Change c ∷ xs) = widths_by xs
widths_by (i.End ∷ xs) = widths_by xs

widths-append : (xs ys : List Item) → widths_by (xs ++ ys) ≡ widths_by xs ++ widths_by ys
widths-append [] ys = refl
widths-append (i.Variable v n ∷ xs) ys = ap (λ l. v.width ∷ l) (widths-append xs ys)
widths-append (i.Scope kind name ∷ xs) ys = widths-append xs ys
widths-append (i.Upscope ∷ xs) ys = widths-append xs ys
widths-append (i.Tick span ∷ xs) ys = widths-append xs ys
widths-append (i.Definitions ∷ xs) ys = widths-append xs ys
widths-append (i.Time time ∷ xs) ys = widths-append xs ys
widths-append (i.Values ∷ xs) ys = widths-append xs ys
widths-append (i.Change c ∷ xs) ys = widths-append xs ys
widths-append (i.End ∷ xs) ys = widths-append xs ys

step_widths : (here : Place) (x : Item) (next : Place) → Step here x next → place_widths next ≡ place_widths here ++ widths_by (x ∷ [])
step_widths _ _ _ (s.tick span) = refl
step_widths _ _ _ (s.top name named) = refl
step_widths _ _ _ (s.scope ws depth own kind name named) = sym (append-nil ws)
step_widths _ _ _ (s.variable ws depth v is) = refl
step_widths _ _ _ (s.upscope ws depth own) = sym (append-nil ws)
step_widths _ _ _ (s.definitions ws own) = sym (append-nil ws)
step_widths _ _ _ (s.at_zero ws) = sym (append-nil ws)
step_widths _ _ _ (s.values ws) = sym (append-nil ws)
step_widths _ _ _ (s.value ws vs c numbered sized) = sym (append-nil ws)
step_widths _ _ _ (s.end ws vs full) = sym (append-nil ws)
step_widths _ _ _ (s.time ws vs last from time after small) = sym (append-nil ws)
step_widths _ _ _ (s.change ws vs last from bare c least is) = sym (append-nil ws)

steps_widths : (here there : Place) (xs : List Item) → Steps here xs there → place_widths there ≡ place_widths here ++ widths_by xs
steps_widths here _ _ (t.stay _) = sym (append-nil (place_widths here))
steps_widths here there _ (t.go _ x next xs _ step more) =
    steps_widths next there xs more ∙ ap (λ l. l ++ widths_by xs) (step_widths here x next step)
    ∙ append_assoc (place_widths here) (widths_by (x ∷ [])) (widths_by xs) ∙ ap (λ l. place_widths here ++ l) (sym (widths-append (x ∷ []) xs))

-- in the body the sizes stay
step_body : (here : Place) (x : Item) (next : Place) → Step here x next → in_body here ≡ true → (place_widths next ≡ place_widths here) × (in_body next ≡ true)
step_body _ _ _ (s.tick span) h = absurd (false≢true h)
step_body _ _ _ (s.top name named) h = absurd (false≢true h)
step_body _ _ _ (s.scope ws depth own kind name named) h = absurd (false≢true h)
step_body _ _ _ (s.variable ws depth v is) h = absurd (false≢true h)
step_body _ _ _ (s.upscope ws depth own) h = absurd (false≢true h)
step_body _ _ _ (s.definitions ws own) h = absurd (false≢true h)
step_body _ _ _ (s.at_zero ws) h = (refl, refl)
step_body _ _ _ (s.values ws) h = (refl, refl)
step_body _ _ _ (s.value ws vs c numbered sized) h = (refl, refl)
step_body _ _ _ (s.end ws vs full) h = (refl, refl)
step_body _ _ _ (s.time ws vs last from time after small) h = (refl, refl)
step_body _ _ _ (s.change ws vs last from bare c least is) h = (refl, refl)

body_widths : (here there : Place) (xs : List Item) → Steps here xs there → in_body here ≡ true → place_widths there ≡ place_widths here
body_widths here _ _ (t.stay _) h = refl
body_widths here there _ (t.go _ x next xs _ step more) h =
    let both = step_body here x next step h in body_widths next there xs more both.1 ∙ both.0

declared_widths : (n : ℕ) (ds : List PlainDeclaration) → widths_by (declared_items n ds) ≡ widths_of ds
declared_widths n [] = refl
declared_widths n (d.Scope kind name ∷ ds) = declared_widths n ds
declared_widths n (d.Variable v ∷ ds) = ap (λ l. v.width ∷ l) (declared_widths (suc n) ds)
declared_widths n (d.Upscope ∷ ds) = declared_widths n ds

changed_widths : (cs : List ValueChange) (rest : List Item) → widths_by rest ≡ [] → widths_by (change_items cs ++ rest) ≡ []
changed_widths [] rest h = h
changed_widths (c ∷ cs) rest h = changed_widths cs rest h

later_widths : (ms : List PlainMoment) → widths_by (later_items ms) ≡ []
later_widths [] = refl
later_widths (m ∷ ms) = changed_widths m.changes (later_items ms) (later_widths ms)

moments_widths : (ms : List PlainMoment) → widths_by (body_items ms) ≡ []
moments_widths [] = refl
moments_widths (m ∷ ms) = changed_widths m.changes (i.End ∷ later_items ms) (later_widths ms)

dump_widths : (x : PlainDump) → widths_by (items_of x) ≡ widths_of x.declarations
dump_widths x =
    widths-append (declared_items 0 x.declarations) (i.Definitions ∷ body_items x.moments)
    ∙ ap (λ l. widths_by (declared_items 0 x.declarations) ++ l) (moments_widths x.moments)
    ∙ append-nil (widths_by (declared_items 0 x.declarations)) ∙ declared_widths 0 x.declarations

-- each dump that begins so has these sizes
same_widths : (items : List Item) (place : Place) (rest : List ℕ) (x : PlainDump) → Steps p.Start items place → in_body place ≡ true → IsLayout (text_from items ++ rest) x
    → widths_of x.declarations ≡ place_widths place
same_widths items place rest x steps body h =
    let way = dump_end (text_from items ++ rest) x h in
    let after = same_way p.Start place items (items_of x) way.last rest steps way.steps (h.is ∙ dump_text_is x) in
    sym (dump_widths x) ∙ sym (steps_widths p.Start way.last (items_of x) way.steps) ∙ body_widths place way.last after.items after.steps body

-- ---- faults

-- a line stands after lines from the start, and can't
record IsRefused (text : List ℕ) (items : List Item) (place : Place) (line : List ℕ) : Type 0 where
  pub steps : Steps p.Start items place
  pub end : List ℕ
  pub rest : List ℕ
  pub is : text ≡ text_from items ++ line ++ end ++ rest
  pub ended : IsLineEnd end rest
  pub one_line : lacks 10 line ≡ true
  pub bad : IsBeginning (text_from items ++ line ++ end) → ⊥

-- an ended line that can't stand at its place
refused_ended : (text : List ℕ) (items : List Item) (place : Place) (line rest : List ℕ) → Steps p.Start items place → text ≡ text_from items ++ (line ++ 10 ∷ rest)
    → lacks 10 line ≡ true → (Follows place line → ⊥) → IsRefused text items place line
refused_ended text items place line rest steps is one bad = record {
  steps = steps;
  end = 10 ∷ [];
  rest = rest;
  is = is ∙ sym (append_assoc (text_from items) line (10 ∷ rest)) ∙ sym (append_assoc (text_from items ++ line) (10 ∷ []) rest);
  ended = z.feed rest;
  one_line = one;
  bad = λ b.
      let whole : (text_from items ++ line ++ 10 ∷ []) ++ b.rest ≡ text_from items ++ (line ++ 10 ∷ b.rest) =
      append_assoc (text_from items ++ line) (10 ∷ []) b.rest ∙ append_assoc (text_from items) line (10 ∷ b.rest) in
      no_dump_ended ((text_from items ++ line ++ 10 ∷ []) ++ b.rest) items place line b.rest steps whole one bad b.dump b.is;
}

-- a last line that goes on to none that can stand at its place
refused_part : (text : List ℕ) (items : List Item) (place : Place) (part : List ℕ) → Steps p.Start items place → text ≡ text_from items ++ part
    → lacks 10 part ≡ true → (GoesOn place part → ⊥) → IsRefused text items place part
refused_part text items place part steps is one bad = record {
  steps = steps;
  end = [];
  rest = [];
  is = is ∙ sym (append-nil (text_from items ++ part)) ∙ sym (append-nil (text_from items ++ part ++ []));
  ended = z.last;
  one_line = one;
  bad = λ b. bad (no_begun_part items place part b.rest b.dump steps one
      (subst (λ l. IsLayout l b.dump) (ap (λ l. l ++ b.rest) (append-nil (text_from items ++ part)) ∙ append_assoc (text_from items) part b.rest) b.is));
}

bad_line : (text : List ℕ) (items : List Item) (place : Place) (line : List ℕ) → IsRefused text items place line → IsBadLine text (map line_of items) line
bad_line text items place line h = record {
  end = h.end;
  rest = h.rest;
  is = h.is;
  ended = h.ended;
  lines = all_lines p.Start place items h.steps;
  one_line = h.one_line;
  begun = begun items place h.steps;
  bad = h.bad;
}

in_header : (text : List ℕ) (items : List Item) (place : Place) (line : List ℕ) → IsRefused text items place line → in_body place ≡ false → IsBadInHeader text
in_header text items place line h out = record {
  before = map line_of items;
  line = line;
  bad = bad_line text items place line h;
  header = no_body place items h.steps out;
}

in_the_body : (text : List ℕ) (items : List Item) (place : Place) (line : List ℕ) (K : List (List ℕ) → List ℕ → Type 0) → IsRefused text items place line
    → in_body place ≡ true → K (map line_of items) line → IsBadInBody text K
in_the_body text items place line K h within kind = record {
  before = map line_of items;
  line = line;
  bad = bad_line text items place line h;
  body = body_by p.Start place items h.steps refl within;
  kind = kind;
}

other_code : (items : List Item) (place : Place) (line : List ℕ) → Steps p.Start items place → in_body place ≡ true → IsOfOtherCode (length (place_widths place)) line
    → IsOfNoCode (map line_of items) line
other_code items place line steps body h = record {
  number = h.number;
  shaped = h.shaped;
  undeclared = λ rest x k.
      let same = ap length (same_widths items place rest x steps body k) in
      let least = h.least in
      omega (arith, same, least);
}

no_code : (items : List Item) (place : Place) (line : List ℕ) → Steps p.Start items place → in_body place ≡ true → IsOfNoCode (map line_of items) line
    → IsOfOtherCode (length (place_widths place)) line
no_code items place line steps body h =
    let b = begun items place steps in
    let same = ap length (same_widths items place b.rest b.dump steps body b.is) in
    let most = h.undeclared b.rest b.dump b.is in
    record { number = h.number; shaped = h.shaped; least = omega (arith, same, most) }

body_fault_is : (text : List ℕ) (items : List Item) (place : Place) (line : List ℕ) (fault : VcdFault) → IsRefused text items place line → in_body place ≡ true
    → IsBodyKind (length (place_widths place)) line fault → IsFault text fault
body_fault_is text items place line f.Memory h body kind = tt
body_fault_is text items place line f.Header h body kind = absurd kind
body_fault_is text items place line f.Cut h body kind = absurd kind
body_fault_is text items place line f.Time h body kind = in_the_body text items place line (λ before l. IsOfTime l) h body kind
body_fault_is text items place line f.Code h body kind =
    in_the_body text items place line (λ before l. IsOfNoCode before l) h body (other_code items place line h.steps body kind)
body_fault_is text items place line f.Line h body kind =
    in_the_body text items place line (λ before l. (IsOfTime l → ⊥) × (IsOfNoCode before l → ⊥)) h body
    (kind.0, λ k. kind.1 (no_code items place line h.steps body k))

header_fault_is : (text : List ℕ) (items : List Item) (place : Place) (line : List ℕ) (fault : VcdFault) → IsRefused text items place line → in_body place ≡ false
    → fault ≡ f.Header → IsFault text fault
header_fault_is text items place line fault h out is = subst (IsFault text) (sym is) (in_header text items place line h out)

fault_at : (text : List ℕ) (items : List Item) (place : Place) (line : List ℕ) (fault : VcdFault) → IsRefused text items place line → IsKindAt place line fault
    → IsFault text fault
fault_at text items p.Start line fault h kind = header_fault_is text items p.Start line fault h refl kind
fault_at text items p.Top line fault h kind = header_fault_is text items p.Top line fault h refl kind
fault_at text items (p.Header ws depth own) line fault h kind = header_fault_is text items (p.Header ws depth own) line fault h refl kind
fault_at text items (p.Zero ws) line fault h kind = body_fault_is text items (p.Zero ws) line fault h refl kind
fault_at text items (p.First ws) line fault h kind = body_fault_is text items (p.First ws) line fault h refl kind
fault_at text items (p.Values ws vs) line fault h kind = body_fault_is text items (p.Values ws vs) line fault h refl kind
fault_at text items (p.Later ws vs last from bare) line fault h kind = body_fault_is text items (p.Later ws vs last from bare) line fault h refl kind

-- some text of the layout begins with lines and the beginning of one more
begun_part : (items : List Item) (place : Place) (part : List ℕ) → Steps p.Start items place → GoesOn place part → IsBeginning (text_from items ++ part)
begun_part items place part steps (inl none) =
    subst IsBeginning (sym (append-nil (text_from items)) ∙ ap (λ l. text_from items ++ l) (sym none)) (begun items place steps)
begun_part items place part steps (inr h) =
    let more = items ++ h.follows.item ∷ [] in
    let b = begun more h.follows.next (steps_more p.Start place h.follows.next items h.follows.item steps h.follows.step) in
    let whole : text_from more ≡ (text_from items ++ part) ++ (h.rest ++ 10 ∷ []) =
    text_from-append items (h.follows.item ∷ []) ∙ ap (λ l. text_from items ++ (l ++ 10 ∷ [])) (sym h.follows.is)
    ∙ ap (λ l. text_from items ++ l) (append_assoc part h.rest (10 ∷ [])) ∙ sym (append_assoc (text_from items) part (h.rest ++ 10 ∷ [])) in
    record {
      rest = (h.rest ++ 10 ∷ []) ++ b.rest;
      dump = b.dump;
      is = subst (λ l. IsLayout l b.dump) (ap (λ l. l ++ b.rest) whole ∙ append_assoc (text_from items ++ part) (h.rest ++ 10 ∷ []) b.rest) b.is;
    }

stop_is : (text : List ℕ) (items : List Item) (place : Place) (rest : List ℕ) (fault : VcdFault) → Steps p.Start items place → text ≡ text_from items ++ rest
    → IsStop place rest fault → IsFault text fault
stop_is text items place rest _ steps is (stop.bad line after fault cut bad kind) =
    fault_at text items place line fault
    (refused_ended text items place line after steps (is ∙ ap (λ l. text_from items ++ l) cut.is) cut.first bad) kind
stop_is text items place rest _ steps is (stop.unended fault one bad kind) =
    fault_at text items place rest fault (refused_part text items place rest steps is one bad) kind
stop_is text items place rest _ steps is (stop.cut one more none) = record {
  begun = subst IsBeginning (sym is) (begun_part items place rest steps more);
  none = no_dump_cut text items place rest steps is one none;
}

stopped_is : (text : List ℕ) (fault : VcdFault) → IsStopped p.Start text fault → IsFault text fault
stopped_is text fault h = stop_is text h.items h.next h.rest fault h.steps h.is h.stop

pub fault_is : (text : List ℕ) (fault : VcdFault) → IsReportedAt p.Start text fault → IsFault text fault
fault_is text f.Memory h = tt
fault_is text f.Header h = stopped_is text f.Header h
fault_is text f.Line h = stopped_is text f.Line h
fault_is text f.Code h = stopped_is text f.Code h
fault_is text f.Time h = stopped_is text f.Time h
fault_is text f.Cut h = stopped_is text f.Cut h

-- ---- stops after lines

stopped_later : (here next : Place) (text rest : List ℕ) (items : List Item) (fault : VcdFault) → Steps here items next → text ≡ text_from items ++ rest
    → IsStopped next rest fault → IsStopped here text fault
stopped_later here next text rest items fault steps is h = record {
  items = items ++ h.items;
  next = h.next;
  rest = h.rest;
  steps = steps_append here next h.next items h.items steps h.steps;
  is =
      is ∙ ap (λ l. text_from items ++ l) h.is ∙ sym (append_assoc (text_from items) (text_from h.items) h.rest)
      ∙ ap (λ l. l ++ h.rest) (sym (text_from-append items h.items));
  stop = h.stop;
}

pub told_later : (here next : Place) (text rest : List ℕ) (items : List Item) (fault : VcdFault) → Steps here items next → text ≡ text_from items ++ rest
    → IsReportedAt next rest fault → IsReportedAt here text fault
told_later here next text rest items f.Memory steps is h = tt
told_later here next text rest items f.Header steps is h = stopped_later here next text rest items f.Header steps is h
told_later here next text rest items f.Line steps is h = stopped_later here next text rest items f.Line steps is h
told_later here next text rest items f.Code steps is h = stopped_later here next text rest items f.Code steps is h
told_later here next text rest items f.Time steps is h = stopped_later here next text rest items f.Time steps is h
told_later here next text rest items f.Cut steps is h = stopped_later here next text rest items f.Cut steps is h

told : (here : Place) (text : List ℕ) (fault : VcdFault) → IsStopped here text fault → IsReportedAt here text fault
told here text f.Memory h = tt
told here text f.Header h = h
told here text f.Line h = h
told here text f.Code h = h
told here text f.Time h = h
told here text f.Cut h = h

pub told_here : (here : Place) (text : List ℕ) (fault : VcdFault) → IsStop here text fault → IsReportedAt here text fault
told_here here text fault h = told here text fault (record { items = []; next = here; rest = text; steps = t.stay here; is = refl; stop = h })

-- the text has no ended line at this place
pub told_end : (here : Place) (text : List ℕ) (fault : VcdFault) → lacks 10 text ≡ true → (text ≡ [] → IsLast here → ⊥) → IsUnended here text fault → IsReportedAt here text fault
told_end here text f.Memory one none h = tt
told_end here text f.Cut one none h = told_here here text f.Cut (stop.cut one h none)
told_end here text f.Header one none h = told_here here text f.Header (stop.unended f.Header one h.0 h.1)
told_end here text f.Line one none h = told_here here text f.Line (stop.unended f.Line one h.0 h.1)
told_end here text f.Code one none h = told_here here text f.Code (stop.unended f.Code one h.0 h.1)
told_end here text f.Time one none h = told_here here text f.Time (stop.unended f.Time one h.0 h.1)

-- its first line is bad
pub told_bad : (here : Place) (text line rest : List ℕ) (fault : VcdFault) → IsCut 10 text line rest → (Follows here line → ⊥) → IsKindAt here line fault
    → IsReportedAt here text fault
told_bad here text line rest fault cut bad kind = told_here here text fault (stop.bad line rest fault cut bad kind)
