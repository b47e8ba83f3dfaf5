-- From each place some text of the layout goes on.
use Rattle.std.proofs.Common.{◌≡◌, ℕ, zero, suc, ◌+◌, ◌-◌, ◌≤◌, ◌&&◌, Bool, true, false, inl, Some, List, [], ◌∷◌, ◌++◌, codes, get_or, length, refl, sym, ap, subst, ◌∙◌, length-append, arith}
use Rattle.std.specs.Prelude.{nat_lt, replicate}
use Rattle.std.proofs.lemmas.Bool.{and_from, lt-ltb}
use Rattle.std.proofs.lemmas.List.Folds.{list_all-append}
use Rattle.std.proofs.lemmas.Option.{slice_get-get_or, slice_get_within}
use Rattle.vs_design.specs.vs_logic4.specs.declared.digit.Digit.{Digit}
use Rattle.vs_design.specs.vs_logic4.specs.declared.digit.Digit.TheVariants.{X}
use Rattle.vs_design.specs.declared.design.ScopeKind.TheVariants.{Module}
use Rattle.vs_design.specs.declared.timescale.Magnitude.TheVariants.{One}
use Rattle.vs_design.specs.declared.timescale.TimeSpan.{TimeSpan}
use Rattle.vs_design.specs.declared.timescale.TimeUnit.TheVariants.{Nanosecond}
use Rattle.vs_vcd_lines.specs.declared.dump.ValueChange.{ValueChange}
use Rattle.vs_vcd_lines.specs.Lines.{are_sizes, IsSized}
use Rattle.vs_vcd_reader.specs.Layout.{IsLayout}
use Rattle.vs_vcd_reader.specs.Faults.{IsBeginning}
use Rattle.vs_vcd_reader.specs.Steps.{Item, Place, Step, Steps, text_from}
use Rattle.vs_vcd_reader.specs.Steps.{Item as i, Place as p, Step as s, Steps as t}
use Rattle.vs_vcd_reader.proofs.DumpLemmas.{whole_layout}
use Rattle.vs_vcd_reader.proofs.FollowLemmas.{steps_append, text_from-append}
use Rattle.vs_vcd_reader.proofs.PartLemmas.{whole_part}
use Rattle.vs_vcd_reader.proofs.WayLemmas.{IsEnded, one_more}

-- ---- places

-- the sizes of the variables
abbrev pub place_widths : Place → List ℕ
place_widths p.Start = []
place_widths p.Top = []
place_widths (p.Header ws depth own) = ws
place_widths (p.Zero ws) = ws
place_widths (p.First ws) = ws
place_widths (p.Values ws vs) = ws
place_widths (p.Later ws vs last from bare) = ws

-- there are no more values than variables
abbrev pub IsWithin : Place → Type 0
IsWithin p.Start = Unit {0}
IsWithin p.Top = Unit {0}
IsWithin (p.Header ws depth own) = Unit {0}
IsWithin (p.Zero ws) = Unit {0}
IsWithin (p.First ws) = Unit {0}
IsWithin (p.Values ws vs) = length vs ≤ length ws
IsWithin (p.Later ws vs last from bare) = Unit {0}

step_within : (here : Place) (x : Item) (next : Place) → Step here x next → IsWithin here → IsWithin next
step_within _ _ _ (s.tick span) h = tt
step_within _ _ _ (s.top name named) h = tt
step_within _ _ _ (s.scope ws depth own kind name named) h = tt
step_within _ _ _ (s.variable ws depth v is) h = tt
step_within _ _ _ (s.upscope ws depth own) h = tt
step_within _ _ _ (s.definitions ws own) h = tt
step_within _ _ _ (s.at_zero ws) h = tt
step_within _ _ _ (s.values ws) h = omega arith
step_within _ _ _ (s.value ws vs c numbered sized) h =
    let within = slice_get_within ws c.number (length c.value) sized in
    omega (arith, length-append vs (c.value ∷ []), numbered, within)
step_within _ _ _ (s.end ws vs full) h = tt
step_within _ _ _ (s.time ws vs last from time after small) h = tt
step_within _ _ _ (s.change ws vs last from bare c least is) h = tt

steps_within : (here there : Place) (xs : List Item) → Steps here xs there → IsWithin here → IsWithin there
steps_within here _ _ (t.stay _) h = h
steps_within here there _ (t.go _ x next xs _ step more) h = steps_within next there xs more (step_within here x next step h)

-- each size is of 1 to 64 bits
step_sizes : (here : Place) (x : Item) (next : Place) → Step here x next → are_sizes (place_widths here) ≡ true → are_sizes (place_widths next) ≡ true
step_sizes _ _ _ (s.tick span) h = h
step_sizes _ _ _ (s.top name named) h = h
step_sizes _ _ _ (s.scope ws depth own kind name named) h = h
step_sizes _ _ _ (s.variable ws depth v is) h =
    let some = is.some in
    let most = is.most in
    let one = and_from (nat_lt 0 v.width) (nat_lt v.width 65) (lt-ltb 0 v.width some) (lt-ltb v.width 65 (omega (arith, most))) in
    list_all-append (λ width. nat_lt 0 width && nat_lt width 65) ws (v.width ∷ [])
    ∙ and_from (are_sizes ws) (are_sizes (v.width ∷ [])) h (and_from (nat_lt 0 v.width && nat_lt v.width 65) true one refl)
step_sizes _ _ _ (s.upscope ws depth own) h = h
step_sizes _ _ _ (s.definitions ws own) h = h
step_sizes _ _ _ (s.at_zero ws) h = h
step_sizes _ _ _ (s.values ws) h = h
step_sizes _ _ _ (s.value ws vs c numbered sized) h = h
step_sizes _ _ _ (s.end ws vs full) h = h
step_sizes _ _ _ (s.time ws vs last from time after small) h = h
step_sizes _ _ _ (s.change ws vs last from bare c least is) h = h

pub steps_sizes : (here there : Place) (xs : List Item) → Steps here xs there → are_sizes (place_widths here) ≡ true → are_sizes (place_widths there) ≡ true
steps_sizes here _ _ (t.stay _) h = h
steps_sizes here there _ (t.go _ x next xs _ step more) h = steps_sizes next there xs more (step_sizes here x next step h)

-- ---- going on

-- some lines lead to an end
record IsOpen (here : Place) : Type 0 where
  pub items : List Item
  pub ended : IsEnded here items

opened_by : (here : Place) (x : Item) (next : Place) → Step here x next → IsOpen next → IsOpen here
opened_by here x next step h = record { items = x ∷ h.items; ended = one_more here x next h.items step h.ended }

pub length-replicated : (n : ℕ) → length (replicate n X) ≡ n
length-replicated zero = refl
length-replicated (suc n) = ap suc (length-replicated n)

values_open : (k : ℕ) (ws : List ℕ) (vs : List (List Digit)) → length vs + k ≡ length ws → IsOpen (p.Values ws vs)
values_open zero ws vs size =
    opened_by (p.Values ws vs) i.End (p.Later ws vs 0 (length ws) false) (s.end ws vs (omega (arith, size)))
    (record {
      items = [];
      ended = record { last = p.Later ws vs 0 (length ws) false; steps = t.stay (p.Later ws vs 0 (length ws) false); is = tt };
    })
values_open (suc k) ws vs size =
    let width = get_or ws (length vs) 0 in
    let c : ValueChange = record { number = length vs; value = replicate width X } in
    let sized : IsSized ws c = slice_get-get_or ws (length vs) 0 (omega (arith, size)) ∙ ap Some (sym (length-replicated width)) in
    opened_by (p.Values ws vs) (i.Change c) (p.Values ws (vs ++ c.value ∷ [])) (s.value ws vs c refl sized)
    (values_open k ws (vs ++ c.value ∷ []) (omega (arith, length-append vs (c.value ∷ []), size)))

first_open : (ws : List ℕ) → IsOpen (p.First ws)
first_open ws = opened_by (p.First ws) i.Values (p.Values ws []) (s.values ws) (values_open (length ws) ws [] (omega arith))

zero_open : (ws : List ℕ) → IsOpen (p.Zero ws)
zero_open ws = opened_by (p.Zero ws) (i.Time 0) (p.First ws) (s.at_zero ws) (first_open ws)

header_open : (ws : List ℕ) (depth : ℕ) (own : Bool) → IsOpen (p.Header ws depth own)
header_open ws zero own = opened_by (p.Header ws zero own) i.Definitions (p.Zero ws) (s.definitions ws own) (zero_open ws)
header_open ws (suc depth) own = opened_by (p.Header ws (suc depth) own) i.Upscope (p.Header ws depth false) (s.upscope ws depth own) (header_open ws depth false)

top_open : IsOpen p.Top
top_open = opened_by p.Top (i.Scope Module (codes "t")) (p.Header [] 1 true) (s.top (codes "t") (inl refl)) (header_open [] 1 true)

abbrev one_tick : TimeSpan
one_tick = record { magnitude = One; unit = Nanosecond }

place_open : (here : Place) → IsWithin here → IsOpen here
place_open p.Start h = opened_by p.Start (i.Tick one_tick) p.Top (s.tick one_tick) top_open
place_open p.Top h = top_open
place_open (p.Header ws depth own) h = header_open ws depth own
place_open (p.Zero ws) h = zero_open ws
place_open (p.First ws) h = first_open ws
place_open (p.Values ws vs) h = values_open (length ws - length vs) ws vs (omega (arith, h))
place_open (p.Later ws vs last from bare) h =
    record { items = []; ended = record { last = p.Later ws vs last from bare; steps = t.stay (p.Later ws vs last from bare); is = tt } }

-- lines from the start are the beginning of a dump
pub begun : (items : List Item) (place : Place) → Steps p.Start items place → IsBeginning (text_from items)
begun items place steps =
    let more = place_open place (steps_within p.Start place items steps tt) in
    let all = items ++ more.items in
    let whole = whole_part all more.ended.last (steps_append p.Start place more.ended.last items more.items steps more.ended.steps) more.ended.is in
    record {
      rest = text_from more.items;
      dump = whole.dump;
      is = subst (λ l. IsLayout l whole.dump) (text_from-append items more.items) (whole_layout all whole);
    }
