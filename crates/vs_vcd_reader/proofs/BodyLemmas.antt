-- The body as it is read.
use Rattle.std.proofs.Common.{◌≡◌, ◌⊎◌, inl, inr, ℕ, suc, ◌+◌, ◌<◌, ◌≤◌, ◌^◌, Bool, true, false, List, [], ◌∷◌, ◌++◌, codes, decimal, get_or, length, map, take, drop, refl, sym, ap, subst, ◌∙◌, append_assoc, length-append, arith}
use Rattle.std.proofs.Math.Seq.{take-append_seam}
use Rattle.std.specs.Prelude.{◌==◌}
use Rattle.std.proofs.lemmas.Bool.{false≢true}
use Rattle.std.proofs.lemmas.List.{append-nil, length-map}
use Rattle.std.proofs.lemmas.Option.{slice_get_within}
use Rattle.std.specs.Fmt.{digits}
use Rattle.vs_design.specs.vs_logic4.specs.declared.digit.Digit.{Digit}
use Rattle.vs_vcd_lines.specs.vs_vcd_writing.specs.Text.{time_line}
use Rattle.vs_vcd_lines.specs.declared.dump.ValueChange.{ValueChange}
use Rattle.vs_vcd_lines.proofs.CutLemmas.{eqb_not}
use Rattle.vs_vcd_lines.specs.Cuts.{lacks, IsCut}
use Rattle.vs_vcd_lines.specs.Lines.{change_line, IsSized}
use Rattle.vs_vcd_reader.specs.declared.dump.Moment.{Moment}
use Rattle.vs_vcd_reader.specs.declared.fault.VcdFault.{VcdFault}
use Rattle.vs_vcd_reader.specs.declared.fault.VcdFault.TheVariants as f
use Rattle.vs_vcd_reader.specs.Plain.{plain_moment}
use Rattle.vs_vcd_reader.specs.Layout.{values_of, with_change, IsChange}
use Rattle.vs_vcd_reader.specs.Bodies.{is_bare, AreAllLater, AreBegun, AreLast, AreSome, AreTimed, IsAtTime, IsFirst, IsNoChange, IsNoValue, IsUnexpected}
use Rattle.vs_vcd_lines.specs.Beginnings.{Begins}
use Rattle.vs_vcd_reader.specs.Bodies.{IsUnexpected as u}
use Rattle.vs_vcd_reader.specs.Faults.{IsOfTime}
use Rattle.vs_vcd_reader.specs.Steps.{Item, Place, Step, Steps, Follows, IsLast, change_items, later_items, line_of, text_from}
use Rattle.vs_vcd_reader.specs.Steps.{Item as i, Place as p, Step as s, Steps as t}
use Rattle.vs_vcd_reader.specs.Stops.{GoesOn, IsBodyKind, IsKindAt, IsReportedAt, IsUnended}
use Rattle.vs_vcd_reader.proofs.FaultLemmas.{told_bad, told_end, told_later}
use Rattle.vs_vcd_reader.proofs.FollowLemmas.{steps_append, steps_more, text_from-append, text_more, ended_some}
use Rattle.vs_vcd_reader.proofs.OnceLemmas.{change_begins}

-- ---- lines that have to stand

-- what begins a line that can stand at a place goes on there
pub begins_on : (here : Place) (wanted part : List ℕ) → Follows here wanted → Begins part wanted → GoesOn here part
begins_on here wanted part stands h = inr (record { rest = h.0; follows = subst (Follows here) h.1 stands })

-- and nothing else, where no other line can stand there
pub begins_by : (here : Place) (wanted part : List ℕ) → ((line : List ℕ) → Follows here line → line ≡ wanted) → GoesOn here part → Begins part wanted
begins_by here wanted part only (inl none) = (wanted, ap (λ l. l ++ wanted) (sym none))
begins_by here wanted part only (inr h) = (h.rest, sym (only (part ++ h.rest) h.follows))

-- what is told of the body, of a last line that doesn't go on
pub unended : (here : Place) (count : ℕ) (part : List ℕ) (fault : VcdFault) → ((line : List ℕ) (g : VcdFault) → IsBodyKind count line g → IsKindAt here line g)
    → (GoesOn here part → ⊥) → IsBodyKind count part fault → IsUnended here part fault
unended here count part f.Memory kinds none h = tt
unended here count part f.Cut kinds none h = absurd h
unended here count part f.Header kinds none h = absurd h
unended here count part f.Line kinds none h = (none, kinds part f.Line h)
unended here count part f.Code kinds none h = (none, kinds part f.Code h)
unended here count part f.Time kinds none h = (none, kinds part f.Time h)

-- the same, by a test
pub unended_by : (here : Place) (count : ℕ) (part : List ℕ) (b : Bool) (fault : VcdFault) → ((line : List ℕ) (g : VcdFault) → IsBodyKind count line g → IsKindAt here line g)
    → (b ≡ true → GoesOn here part) × (GoesOn here part → b ≡ true) → (b ≡ true → fault ≡ f.Cut) → (b ≡ false → IsBodyKind count part fault) → IsUnended here part fault
unended_by here count part true fault kinds tells cut kind = subst (IsUnended here part) (sym (cut refl)) (tells.0 refl)
unended_by here count part false fault kinds tells cut kind = unended here count part fault kinds (λ h. false≢true (tells.1 h)) (kind refl)

pub unexpected_end : (wanted : List ℕ) (count : ℕ) (text : List ℕ) (b : Bool) (fault : VcdFault) → lacks 10 text ≡ true
    → (b ≡ true → Begins text wanted) × (Begins text wanted → b ≡ true) → (b ≡ true → fault ≡ f.Cut) → (b ≡ false → IsBodyKind count text fault)
    → IsUnexpected wanted count text fault
unexpected_end wanted count text true fault one tells cut kind = subst (IsUnexpected wanted count text) (sym (cut refl)) (u.cut one (tells.0 refl))
unexpected_end wanted count text false fault one tells cut kind = u.unended fault one (λ h. false≢true (tells.1 h)) (kind refl)

pub unexpected : (here : Place) (wanted : List ℕ) (count : ℕ) (text : List ℕ) (fault : VcdFault) → Follows here wanted → ((line : List ℕ) → Follows here line → line ≡ wanted)
    → ((line : List ℕ) (g : VcdFault) → IsBodyKind count line g → IsKindAt here line g) → (IsLast here → ⊥) → IsUnexpected wanted count text fault → IsReportedAt here text fault
unexpected here wanted count text _ stands only kinds no_end (u.bad line rest fault cut other kind) =
    told_bad here text line rest fault cut (λ follows. other (only line follows)) (kinds line fault kind)
unexpected here wanted count text _ stands only kinds no_end (u.unended fault one other kind) =
    told_end here text fault one (λ _. no_end) (unended here count text fault kinds (λ h. other (begins_by here wanted text only h)) kind)
unexpected here wanted count text _ stands only kinds no_end (u.cut one begins) =
    told_end here text f.Cut one (λ _. no_end) (begins_on here wanted text stands begins)

zero_decimal : decimal 0 ≡ codes "0"
unfolding digits
zero_decimal = refl

zero_stands : (ws : List ℕ) → Follows (p.Zero ws) (codes "#0")
zero_stands ws = record { item = i.Time 0; next = p.First ws; step = s.at_zero ws; is = ap (λ l. 35 ∷ l) (sym zero_decimal) }

zero_by : (ws line : List ℕ) (x : Item) (next : Place) → Step (p.Zero ws) x next → line ≡ line_of x → line ≡ codes "#0"
zero_by ws line _ _ (s.at_zero _) is = is ∙ ap (λ l. 35 ∷ l) zero_decimal

pub zero_wanted : (ws line : List ℕ) → Follows (p.Zero ws) line → line ≡ codes "#0"
zero_wanted ws line h = zero_by ws line h.item h.next h.step h.is

first_stands : (ws : List ℕ) → Follows (p.First ws) (codes "$dumpvars")
first_stands ws = record { item = i.Values; next = p.Values ws []; step = s.values ws; is = refl }

first_by : (ws line : List ℕ) (x : Item) (next : Place) → Step (p.First ws) x next → line ≡ line_of x → line ≡ codes "$dumpvars"
first_by ws line _ _ (s.values _) is = is

pub first_wanted : (ws line : List ℕ) → Follows (p.First ws) line → line ≡ codes "$dumpvars"
first_wanted ws line h = first_by ws line h.item h.next h.step h.is

end_stands : (ws : List ℕ) (vs : List (List Digit)) → length vs ≡ length ws → Follows (p.Values ws vs) (codes "$end")
end_stands ws vs full = record { item = i.End; next = p.Later ws vs 0 (length ws) false; step = s.end ws vs full; is = refl }

end_by : (ws : List ℕ) (vs : List (List Digit)) (line : List ℕ) (x : Item) (next : Place) → length vs ≡ length ws → Step (p.Values ws vs) x next → line ≡ line_of x
    → line ≡ codes "$end"
end_by ws vs line _ _ full (s.value _ _ c numbered sized) is =
    let within = slice_get_within ws c.number (length c.value) sized in absurd (omega (arith, full, numbered, within))
end_by ws vs line _ _ full (s.end _ _ _) is = is

pub end_wanted : (ws : List ℕ) (vs : List (List Digit)) (line : List ℕ) → length vs ≡ length ws → Follows (p.Values ws vs) line → line ≡ codes "$end"
end_wanted ws vs line full h = end_by ws vs line h.item h.next full h.step h.is

value_by : (ws : List ℕ) (vs : List (List Digit)) (line : List ℕ) (x : Item) (next : Place) → length vs < length ws
    → ((c : ValueChange) → c.number ≡ length vs → IsSized ws c → line ≡ change_line c → ⊥) → Step (p.Values ws vs) x next → line ≡ line_of x → ⊥
value_by ws vs line _ _ less none (s.value _ _ c numbered sized) is = none c numbered sized is
value_by ws vs line _ _ less none (s.end _ _ full) is = omega (arith, less, full)

pub value_refuses : (ws : List ℕ) (vs : List (List Digit)) (line : List ℕ) → length vs < length ws
    → ((c : ValueChange) → c.number ≡ length vs → IsSized ws c → line ≡ change_line c → ⊥) → Follows (p.Values ws vs) line → ⊥
value_refuses ws vs line less none h = value_by ws vs line h.item h.next less none h.step h.is

-- ---- later times

time_by : (ws : List ℕ) (vs : List (List Digit)) (last from : ℕ) (bare : Bool) (line : List ℕ) (x : Item) (next : Place)
    → ((t : ℕ) → bare ≡ false → last < t → t < 2 ^ 64 → line ≡ time_line t → ⊥) → (from ≡ length ws) ⊎ IsOfTime line
    → Step (p.Later ws vs last from bare) x next → line ≡ line_of x → ⊥
time_by ws vs last from _ line _ _ none away (s.time _ _ _ _ t after small) is = none t refl after small is
time_by ws vs last from bare line _ _ none (inl full) (s.change _ _ _ _ _ c least h) is =
    let within = slice_get_within ws c.number (length c.value) h.sized in omega (arith, full, least, within)
time_by ws vs last from bare line _ _ none (inr timed) (s.change _ _ _ _ _ c least h) is = change_begins c 35 timed.0 (omega arith) (sym is ∙ timed.1)

pub time_refuses : (ws : List ℕ) (vs : List (List Digit)) (last from : ℕ) (bare : Bool) (line : List ℕ)
    → ((t : ℕ) → bare ≡ false → last < t → t < 2 ^ 64 → line ≡ time_line t → ⊥) → (from ≡ length ws) ⊎ IsOfTime line
    → Follows (p.Later ws vs last from bare) line → ⊥
time_refuses ws vs last from bare line none away h = time_by ws vs last from bare line h.item h.next none away h.step h.is

change_by : (ws : List ℕ) (vs : List (List Digit)) (last from : ℕ) (bare : Bool) (line : List ℕ) (x : Item) (next : Place)
    → ((c : ValueChange) → from ≤ c.number → IsChange ws vs c → line ≡ change_line c → ⊥) → (IsOfTime line → ⊥)
    → Step (p.Later ws vs last from bare) x next → line ≡ line_of x → ⊥
change_by ws vs last from _ line _ _ none no_time (s.time _ _ _ _ t after small) is = no_time (decimal t, is)
change_by ws vs last from bare line _ _ none no_time (s.change _ _ _ _ _ c least h) is = none c least h is

pub change_refuses : (ws : List ℕ) (vs : List (List Digit)) (last from : ℕ) (bare : Bool) (line : List ℕ)
    → ((c : ValueChange) → from ≤ c.number → IsChange ws vs c → line ≡ change_line c → ⊥) → (IsOfTime line → ⊥) → Follows (p.Later ws vs last from bare) line → ⊥
change_refuses ws vs last from bare line none no_time h = change_by ws vs last from bare line h.item h.next none no_time h.step h.is

time_first : (line rest tail : List ℕ) → line ++ 10 ∷ rest ≡ 35 ∷ tail → IsOfTime line
time_first [] rest tail e = let h : 10 ≡ 35 = ap (λ l. get_or l 0 0) e in absurd (omega (arith, h))
time_first (b ∷ bs) rest tail e = let h : b ≡ 35 = ap (λ l. get_or l 0 0) e in (bs, ap (λ x. x ∷ bs) h)

-- a text at a time begins with a line of a time
pub at_time_line : (text line rest : List ℕ) → IsAtTime text → text ≡ line ++ 10 ∷ rest → IsOfTime line
at_time_line text line rest (inl none) cut = absurd (ended_some line rest (sym cut ∙ none))
at_time_line text line rest (inr h) cut = time_first line rest h.0 (sym cut ∙ h.1)

away_from : (ws : List ℕ) (from : ℕ) (text line rest : List ℕ) → (from ≡ length ws) ⊎ IsAtTime text → text ≡ line ++ 10 ∷ rest → (from ≡ length ws) ⊎ IsOfTime line
away_from ws from text line rest (inl full) cut = inl full
away_from ws from text line rest (inr timed) cut = inr (at_time_line text line rest timed cut)

-- ---- lists with one more

values_append : (cs : List ValueChange) (c : ValueChange) → values_of cs ++ c.value ∷ [] ≡ values_of (cs ++ c ∷ [])
values_append [] c = refl
values_append (x ∷ cs) c = ap (λ l. x.value ∷ l) (values_append cs c)

changes_append : (cs : List ValueChange) (c : ValueChange) → change_items cs ++ i.Change c ∷ [] ≡ change_items (cs ++ c ∷ [])
changes_append [] c = refl
changes_append (x ∷ cs) c = ap (λ l. i.Change x ∷ l) (changes_append cs c)

later_append : (ms : List Moment) (m : Moment)
    → later_items (map plain_moment (ms ++ m ∷ [])) ≡ later_items (map plain_moment ms) ++ (i.Time m.time ∷ change_items m.changes.items)
later_append [] m = ap (λ l. i.Time m.time ∷ l) (append-nil (change_items m.changes.items))
later_append (x ∷ ms) m =
    ap (λ l. i.Time x.time ∷ l)
    (ap (λ l. change_items x.changes.items ++ l) (later_append ms m)
    ∙ sym (append_assoc (change_items x.changes.items) (later_items (map plain_moment ms)) (i.Time m.time ∷ change_items m.changes.items)))

-- ---- the first time

zero_text : (text rest : List ℕ) → text ≡ codes "#0" ++ 10 ∷ rest → text ≡ text_from (i.Time 0 ∷ []) ++ rest
zero_text text rest cut = text_more text [] (i.Time 0) text (codes "#0") rest refl cut (ap (λ l. 35 ∷ l) (sym zero_decimal))

zero_steps : (ws : List ℕ) → Steps (p.Zero ws) (i.Time 0 ∷ []) (p.First ws)
zero_steps ws = t.go (p.Zero ws) (i.Time 0) (p.First ws) [] (p.First ws) (s.at_zero ws) (t.stay (p.First ws))

word_text : (text rest : List ℕ) → text ≡ codes "$dumpvars" ++ 10 ∷ rest → text ≡ text_from (i.Values ∷ []) ++ rest
word_text text rest cut = text_more text [] i.Values text (codes "$dumpvars") rest refl cut refl

word_steps : (ws : List ℕ) → Steps (p.First ws) (i.Values ∷ []) (p.Values ws [])
word_steps ws = t.go (p.First ws) i.Values (p.Values ws []) [] (p.Values ws []) (s.values ws) (t.stay (p.Values ws []))

-- why the text is none is told of the place before
pub zero_told : (ws text : List ℕ) (fault : VcdFault) → IsUnexpected (codes "#0") (length ws) text fault → IsReportedAt (p.Zero ws) text fault
zero_told ws text fault h = unexpected (p.Zero ws) (codes "#0") (length ws) text fault (zero_stands ws) (zero_wanted ws) (λ line g k. k) (λ e. e) h

pub after_zero : (ws text rest : List ℕ) (fault : VcdFault) → text ≡ codes "#0" ++ 10 ∷ rest → IsReportedAt (p.First ws) rest fault → IsReportedAt (p.Zero ws) text fault
after_zero ws text rest fault cut h = told_later (p.Zero ws) (p.First ws) text rest (i.Time 0 ∷ []) fault (zero_steps ws) (zero_text text rest cut) h

pub first_net : (ws text : List ℕ) (fault : VcdFault) → IsUnexpected (codes "$dumpvars") (length ws) text fault → IsReportedAt (p.First ws) text fault
first_net ws text fault h = unexpected (p.First ws) (codes "$dumpvars") (length ws) text fault (first_stands ws) (first_wanted ws) (λ line g k. k) (λ e. e) h

pub after_first : (ws text rest : List ℕ) (fault : VcdFault) → text ≡ codes "$dumpvars" ++ 10 ∷ rest → IsReportedAt (p.Values ws []) rest fault → IsReportedAt (p.First ws) text fault
after_first ws text rest fault cut h = told_later (p.First ws) (p.Values ws []) text rest (i.Values ∷ []) fault (word_steps ws) (word_text text rest cut) h

pub end_told : (ws text : List ℕ) (cs : List ValueChange) (fault : VcdFault) → length cs ≡ length ws → IsUnexpected (codes "$end") (length ws) text fault
    → IsReportedAt (p.Values ws (values_of cs)) text fault
end_told ws text cs fault full h =
    unexpected (p.Values ws (values_of cs)) (codes "$end") (length ws) text fault
    (end_stands ws (values_of cs) (length-map cs (λ (c : ValueChange). c.value) ∙ full))
    (λ line. end_wanted ws (values_of cs) line (length-map cs (λ (c : ValueChange). c.value) ∙ full)) (λ line g k. k) (λ e. e) h

pub after_values : (ws text rest : List ℕ) (cs : List ValueChange) (fault : VcdFault) → AreBegun ws text cs rest → IsReportedAt (p.Values ws (values_of cs)) rest fault
    → IsReportedAt (p.Values ws []) text fault
after_values ws text rest cs fault h told = told_later (p.Values ws []) (p.Values ws (values_of cs)) text rest (change_items cs) fault h.steps h.is told

-- one more value
pub value_more : (ws text rest line after : List ℕ) (cs ds : List ValueChange) (c : ValueChange) → AreBegun ws text cs rest → rest ≡ line ++ 10 ∷ after
    → (c.number ≡ length cs) × IsSized ws c × (line ≡ change_line c) → ds ≡ cs ++ c ∷ [] → AreBegun ws text ds after
value_more ws text rest line after cs ds c h cut is more =
    let numbered : c.number ≡ length (values_of cs) = is.0 ∙ sym (length-map cs (λ (x : ValueChange). x.value)) in
    let values : values_of cs ++ c.value ∷ [] ≡ values_of (cs ++ c ∷ []) = values_append cs c in
    let items : change_items cs ++ i.Change c ∷ [] ≡ change_items (cs ++ c ∷ []) = changes_append cs c in
    let within = slice_get_within ws c.number (length c.value) is.1 in
    let steps = steps_more (p.Values ws []) (p.Values ws (values_of cs)) (p.Values ws (values_of cs ++ c.value ∷ [])) (change_items cs) (i.Change c) h.steps
    (s.value ws (values_of cs) c numbered is.1) in
    let whole : AreBegun ws text (cs ++ c ∷ []) after = record {
      steps = subst (λ l. Steps (p.Values ws []) l (p.Values ws (values_of (cs ++ c ∷ [])))) items
          (subst (λ v. Steps (p.Values ws []) (change_items cs ++ i.Change c ∷ []) (p.Values ws v)) values steps);
      within = omega (arith, length-append cs (c ∷ []), is.0, within);
      is = text_more text (change_items cs) (i.Change c) rest line after h.is cut is.2 ∙ ap (λ l. text_from l ++ after) items;
    } in
    subst (λ l. AreBegun ws text l after) (sym more) whole

pub value_bad : (ws text rest line after : List ℕ) (cs : List ValueChange) (fault : VcdFault) → AreBegun ws text cs rest → IsCut 10 rest line after → length cs < length ws
    → IsNoValue ws (length cs) line fault → IsReportedAt (p.Values ws []) text fault
value_bad ws text rest line after cs fault h cut less none =
    let size = length-map cs (λ (c : ValueChange). c.value) in
    after_values ws text rest cs fault h
    (told_bad (p.Values ws (values_of cs)) rest line after fault cut
    (value_refuses ws (values_of cs) line (omega (arith, size, less)) (λ c numbered. none.none c (numbered ∙ size))) none.kind)

pub values_end : (ws text rest : List ℕ) (cs : List ValueChange) (fault : VcdFault) → AreBegun ws text cs rest → lacks 10 rest ≡ true
    → IsUnended (p.Values ws (values_of cs)) rest fault → IsReportedAt (p.Values ws []) text fault
values_end ws text rest cs fault h one told = after_values ws text rest cs fault h (told_end (p.Values ws (values_of cs)) rest fault one (λ _ e. e) told)

-- all values and their ends
pub first_made : (ws text a b e rest : List ℕ) (cs : List ValueChange) → text ≡ codes "#0" ++ 10 ∷ a → a ≡ codes "$dumpvars" ++ 10 ∷ b → AreBegun ws b cs e
    → length cs ≡ length ws → e ≡ codes "$end" ++ 10 ∷ rest → IsFirst ws text cs rest
first_made ws text a b e rest cs timed word h full last =
    let vs = values_of cs in
    let size : length vs ≡ length ws = length-map cs (λ (c : ValueChange). c.value) ∙ full in
    let inner = steps_more (p.Values ws []) (p.Values ws vs) (p.Later ws vs 0 (length ws) false) (change_items cs) i.End h.steps (s.end ws vs size) in
    let inner_text = text_more b (change_items cs) i.End e (codes "$end") rest h.is last refl in
    record {
      steps = t.go (p.Zero ws) (i.Time 0) (p.First ws) (i.Values ∷ (change_items cs ++ i.End ∷ [])) (p.Later ws vs 0 (length ws) false) (s.at_zero ws)
          (t.go (p.First ws) i.Values (p.Values ws []) (change_items cs ++ i.End ∷ []) (p.Later ws vs 0 (length ws) false) (s.values ws) inner);
      is =
          zero_text text a timed
          ∙ ap (λ l. text_from (i.Time 0 ∷ []) ++ l)
          (word_text a b word ∙ ap (λ l. text_from (i.Values ∷ []) ++ l) inner_text
          ∙ sym (append_assoc (text_from (i.Values ∷ [])) (text_from (change_items cs ++ i.End ∷ [])) rest)
          ∙ ap (λ l. l ++ rest) (sym (text_from-append (i.Values ∷ []) (change_items cs ++ i.End ∷ []))))
          ∙ sym (append_assoc (text_from (i.Time 0 ∷ [])) (text_from (i.Values ∷ (change_items cs ++ i.End ∷ []))) rest)
          ∙ ap (λ l. l ++ rest) (sym (text_from-append (i.Time 0 ∷ []) (i.Values ∷ (change_items cs ++ i.End ∷ []))));
      all = full;
    }

-- ---- changes of one time

bare_none : (cs : List ValueChange) (c : ValueChange) → is_bare (cs ++ c ∷ []) ≡ false
bare_none [] c = refl
bare_none (x ∷ cs) c = refl

-- one more change
pub change_more : (ws text rest line after : List ℕ) (old vs new : List (List Digit)) (cs ds : List ValueChange) (from : ℕ) (c : ValueChange) → AreSome ws text old vs cs from rest
    → rest ≡ line ++ 10 ∷ after → (from ≤ c.number) × IsChange ws vs c × (line ≡ change_line c) → new ≡ with_change vs c → ds ≡ cs ++ c ∷ []
    → AreSome ws text old new ds (c.number + 1) after
change_more ws text rest line after old vs new cs ds from c h cut is now more =
    let items : change_items cs ++ i.Change c ∷ [] ≡ change_items (cs ++ c ∷ []) = changes_append cs c in
    let next : suc c.number ≡ c.number + 1 = omega arith in
    let whole : AreSome ws text old (with_change vs c) (cs ++ c ∷ []) (c.number + 1) after = record {
      steps = λ last.
          let step = steps_more (p.Later ws old last 0 true) (p.Later ws vs last from (is_bare cs)) (p.Later ws (with_change vs c) last (suc c.number) false) (change_items cs)
          (i.Change c) (h.steps last) (s.change ws vs last from (is_bare cs) c is.0 is.1) in
          subst (λ l. Steps (p.Later ws old last 0 true) l (p.Later ws (with_change vs c) last (c.number + 1) (is_bare (cs ++ c ∷ [])))) items
          (subst (λ b. Steps (p.Later ws old last 0 true) (change_items cs ++ i.Change c ∷ []) (p.Later ws (with_change vs c) last (c.number + 1) b)) (sym (bare_none cs c))
          (subst (λ n. Steps (p.Later ws old last 0 true) (change_items cs ++ i.Change c ∷ []) (p.Later ws (with_change vs c) last n false)) next step));
      is = text_more text (change_items cs) (i.Change c) rest line after h.is cut is.2 ∙ ap (λ l. text_from l ++ after) items;
    } in
    subst (λ l. AreSome ws text old new l (c.number + 1) after) (sym more)
    (subst (λ v. AreSome ws text old v (cs ++ c ∷ []) (c.number + 1) after) (sym now) whole)

after_changes : (ws text rest : List ℕ) (old vs : List (List Digit)) (cs : List ValueChange) (from last : ℕ) (fault : VcdFault) → AreSome ws text old vs cs from rest
    → IsReportedAt (p.Later ws vs last from (is_bare cs)) rest fault → IsReportedAt (p.Later ws old last 0 true) text fault
after_changes ws text rest old vs cs from last fault h told =
    told_later (p.Later ws old last 0 true) (p.Later ws vs last from (is_bare cs)) text rest (change_items cs) fault (h.steps last) h.is told

pub change_bad : (ws text rest line after : List ℕ) (old vs : List (List Digit)) (cs : List ValueChange) (from last : ℕ) (fault : VcdFault) → AreSome ws text old vs cs from rest
    → IsCut 10 rest line after → (IsAtTime rest → ⊥) → IsNoChange ws vs from line fault → IsReportedAt (p.Later ws old last 0 true) text fault
change_bad ws text rest line after old vs cs from last fault h cut away none =
    after_changes ws text rest old vs cs from last fault h
    (told_bad (p.Later ws vs last from (is_bare cs)) rest line after fault cut
    (change_refuses ws vs last from (is_bare cs) line none.none (λ timed. away (inr (timed.0 ++ 10 ∷ after, cut.is ∙ ap (λ l. l ++ 10 ∷ after) timed.1)))) none.kind)

pub changes_end : (ws text rest : List ℕ) (old vs : List (List Digit)) (cs : List ValueChange) (from last : ℕ) (fault : VcdFault) → AreSome ws text old vs cs from rest
    → lacks 10 rest ≡ true → (IsAtTime rest → ⊥) → IsUnended (p.Later ws vs last from (is_bare cs)) rest fault → IsReportedAt (p.Later ws old last 0 true) text fault
changes_end ws text rest old vs cs from last fault h one away told =
    after_changes ws text rest old vs cs from last fault h
    (told_end (p.Later ws vs last from (is_bare cs)) rest fault one (λ none _. away (inl none)) told)

-- ---- later times

pub time_bad : (ws text rest line after : List ℕ) (old vs : List (List Digit)) (last : ℕ) (bare : Bool) (ms ns : List Moment) (fault : VcdFault)
    → AreLast ws text old vs last bare ms ns rest → IsCut 10 rest line after
    → ((t : ℕ) → bare ≡ false → last < t → t < 2 ^ 64 → line ≡ time_line t → ⊥) × IsBodyKind (length ws) line fault
    → IsReportedAt (p.Later ws old 0 (length ws) false) text fault
time_bad ws text rest line after old vs last bare ms ns fault h cut none =
    told_later (p.Later ws old 0 (length ws) false) (p.Later ws vs last h.from bare) text rest (later_items (map plain_moment h.moments)) fault h.steps h.is
    (told_bad (p.Later ws vs last h.from bare) rest line after fault cut
    (time_refuses ws vs last h.from bare line none.0 (away_from ws h.from rest line after h.timed cut.is)) none.1)

pub later_told : (ws text rest : List ℕ) (old vs : List (List Digit)) (last : ℕ) (bare : Bool) (ms ns : List Moment) (fault : VcdFault)
    → (h : AreLast ws text old vs last bare ms ns rest) → lacks 10 rest ≡ true → (rest ≡ [] → ⊥) → IsUnended (p.Later ws vs last h.from bare) rest fault
    → IsReportedAt (p.Later ws old 0 (length ws) false) text fault
later_told ws text rest old vs last bare ms ns fault h one some told =
    told_later (p.Later ws old 0 (length ws) false) (p.Later ws vs last h.from bare) text rest (later_items (map plain_moment h.moments)) fault h.steps h.is
    (told_end (p.Later ws vs last h.from bare) rest fault one (λ none _. some none) told)

-- the line of a time
time_steps : (ws : List ℕ) (old vs : List (List Digit)) (last from time : ℕ) (bare : Bool) (items : List Item) → bare ≡ false → last < time → time < 2 ^ 64
    → Steps (p.Later ws old 0 (length ws) false) items (p.Later ws vs last from bare) → Steps (p.Later ws old 0 (length ws) false) (items ++ i.Time time ∷ []) (p.Later ws vs time 0 true)
time_steps ws old vs last from time bare items some after small steps =
    steps_more (p.Later ws old 0 (length ws) false) (p.Later ws vs last from false) (p.Later ws vs time 0 true) items (i.Time time)
    (subst (λ b. Steps (p.Later ws old 0 (length ws) false) items (p.Later ws vs last from b)) some steps) (s.time ws vs last from time after small)

pub changes_told : (ws text rest line after : List ℕ) (old vs : List (List Digit)) (last time : ℕ) (bare : Bool) (ms ns : List Moment) (fault : VcdFault)
    → AreLast ws text old vs last bare ms ns rest → rest ≡ line ++ 10 ∷ after → (bare ≡ false) × (last < time) × (time < 2 ^ 64) × (line ≡ time_line time)
    → IsReportedAt (p.Later ws vs time 0 true) after fault → IsReportedAt (p.Later ws old 0 (length ws) false) text fault
changes_told ws text rest line after old vs last time bare ms ns fault h cut is told =
    let items = later_items (map plain_moment h.moments) in
    told_later (p.Later ws old 0 (length ws) false) (p.Later ws vs time 0 true) text after (items ++ i.Time time ∷ []) fault
    (time_steps ws old vs last h.from time bare items is.0 is.1 is.2 h.steps) (text_more text items (i.Time time) rest line after h.is cut is.3) told

-- one more time
pub time_more : (ws text rest line after next : List ℕ) (old vs new : List (List Digit)) (last time : ℕ) (bare now : Bool) (ms ns os : List Moment) (m : Moment)
    → AreLast ws text old vs last bare ms ns rest → rest ≡ line ++ 10 ∷ after → (bare ≡ false) × (last < time) × (time < 2 ^ 64) × (line ≡ time_line time)
    → AreTimed ws after vs new m.changes.items next → m.time ≡ time → now ≡ is_bare m.changes.items → os ≡ ns ++ m ∷ []
    → AreLast ws text old new time now ms os next
time_more ws text rest line after next old vs new last time bare now ms ns os m h cut is timed timely bares more =
    let items = later_items (map plain_moment h.moments) in
    let cs = m.changes.items in
    let before = time_steps ws old vs last h.from time bare items is.0 is.1 is.2 h.steps in
    let steps = steps_append (p.Later ws old 0 (length ws) false) (p.Later ws vs time 0 true) (p.Later ws new time timed.from (is_bare cs)) (items ++ i.Time time ∷ []) (change_items cs)
    before (timed.some.steps time) in
    let all : (items ++ i.Time time ∷ []) ++ change_items cs ≡ later_items (map plain_moment (h.moments ++ m ∷ [])) =
    append_assoc items (i.Time time ∷ []) (change_items cs) ∙ ap (λ t. items ++ (i.Time t ∷ change_items cs)) (sym timely) ∙ sym (later_append h.moments m) in
    record {
      from = timed.from;
      moments = h.moments ++ m ∷ [];
      are = more ∙ ap (λ l. l ++ m ∷ []) h.are ∙ append_assoc ms h.moments (m ∷ []);
      steps = subst (λ b. Steps (p.Later ws old 0 (length ws) false) (later_items (map plain_moment (h.moments ++ m ∷ []))) (p.Later ws new time timed.from b)) (sym bares)
          (subst (λ l. Steps (p.Later ws old 0 (length ws) false) l (p.Later ws new time timed.from (is_bare cs))) all steps);
      is =
          text_more text items (i.Time time) rest line after h.is cut is.3
          ∙ ap (λ l. text_from (items ++ i.Time time ∷ []) ++ l) timed.some.is
          ∙ sym (append_assoc (text_from (items ++ i.Time time ∷ [])) (text_from (change_items cs)) next)
          ∙ ap (λ l. l ++ next) (sym (text_from-append (items ++ i.Time time ∷ []) (change_items cs)))
          ∙ ap (λ l. text_from l ++ next) all;
      timed = inr timed.timed;
    }

pub later_none : (ws text : List ℕ) (vs : List (List Digit)) (ms : List Moment) → AreLast ws text vs vs 0 false ms ms text
later_none ws text vs ms = record {
  from = length ws;
  moments = [];
  are = sym (append-nil ms);
  steps = t.stay (p.Later ws vs 0 (length ws) false);
  is = refl;
  timed = inl refl;
}

pub later_all : (ws text rest : List ℕ) (old vs : List (List Digit)) (last : ℕ) (bare : Bool) (ms ns : List Moment) → AreLast ws text old vs last bare ms ns rest → rest ≡ []
    → AreAllLater ws text old ms ns
later_all ws text rest old vs last bare ms ns h none = record {
  moments = h.moments;
  place = p.Later ws vs last h.from bare;
  are = h.are;
  steps = h.steps;
  last = tt;
  is = h.is ∙ ap (λ l. text_from (later_items (map plain_moment h.moments)) ++ l) none ∙ append-nil (text_from (later_items (map plain_moment h.moments)));
}

pub values_none : (ws text : List ℕ) (cs : List ValueChange) → cs ≡ [] → AreBegun ws text cs text
values_none ws text cs none =
    subst (λ l. AreBegun ws text l text) (sym none) (record { steps = t.stay (p.Values ws []); within = omega arith; is = refl })

pub changes_none : (ws text : List ℕ) (vs : List (List Digit)) (cs : List ValueChange) → cs ≡ [] → AreSome ws text vs vs cs 0 text
changes_none ws text vs cs none =
    subst (λ l. AreSome ws text vs vs l 0 text) (sym none) (record { steps = λ last. t.stay (p.Later ws vs last 0 true); is = refl })

-- a slice that takes the place of all of a list
pub whole_slice : (n : ℕ) (new old : List (List Digit)) → n ≡ length new → take n (new ++ drop (length new) old) ≡ new
whole_slice n new old same =
    subst (λ m. take m (new ++ drop (length new) old) ≡ new) (sym same) (take-append_seam new (drop (length new) old))

pub bare_is : (cs : List ValueChange) → (length cs == 0) ≡ is_bare cs
bare_is [] = refl
bare_is (c ∷ cs) = eqb_not (suc (length cs)) 0 (λ e. omega (arith, e))
