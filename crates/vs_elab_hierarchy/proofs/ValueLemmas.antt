-- What expressions mean: a finding that lacks a size has a fault, and a value has as many digits as its context wants.
use Rattle.std.proofs.Common.{◌≡◌, ℕ, suc, ℤ, ◌-ℤ◌, unsigned_abs, nat_le, Bool, true, false, cond, List, [], ◌∷◌, Option, Some, None, length, map, refl, ap, sym, subst, ◌∙◌, true≢false}
use Rattle.std.specs.List.{list_any}
use Rattle.std.proofs.lemmas.Bool.{or_left}
use Rattle.vs_design.specs.vs_logic4.specs.declared.digit.Digit.{Digit}
use Rattle.vs_design.specs.vs_logic4.specs.declared.operators.Unary.{Unary}
use Rattle.vs_design.specs.vs_logic4.specs.declared.operators.Binary.{Binary}
use Rattle.vs_design.specs.vs_logic4.specs.declared.operators.Sizing.{Sizing}
use Rattle.vs_design.specs.vs_logic4.specs.declared.operators.Sizing.TheVariants.{Alike, Shift, Comparison, Logical}
use Rattle.vs_design.specs.vs_logic4.specs.Comparisons.{truth}
use Rattle.vs_design.specs.vs_logic4.specs.Extensions.{length-resized}
use Rattle.vs_design.specs.vs_logic4.specs.Lengths.{length-all_unknown, length-unary, length-binary}
use Rattle.vs_design.specs.vs_logic4.specs.Operators.{gives_bit, sizing_of, is_one_bit, is_even}
use Rattle.vs_design.specs.vs_logic4.specs.Vectors.{resized}
use Rattle.vs_syntax.specs.declared.tree.Expr.{Expr, Expr-F, roll-Expr, map-Expr, ind-Expr, fold-roll-Expr}
use Rattle.vs_syntax.specs.declared.tree.Expr.TheShapes.{former-Expr-Select-1-at-5}
use Rattle.vs_syntax.specs.declared.tree.Expr.TheOpen as f
use Rattle.vs_syntax.specs.declared.tree.PartSelect.{PartSelect}
use Rattle.vs_syntax.specs.declared.tree.PartSelect.TheVariants as p
use Rattle.vs_design.specs.declared.range.BitRange.{BitRange}
use Rattle.vs_design.specs.declared.signal.Bounds.{Bounds}
use Rattle.vs_design.specs.Stores.{Store, word_of}
use Rattle.vs_scopes.specs.vs_widths.specs.vs_eval.specs.Values.{left_side, right_side, operand_value, chosen}
use Rattle.vs_scopes.specs.vs_widths.specs.vs_eval.proofs.MeantLemmas.{picked_long}
use Rattle.vs_scopes.specs.vs_widths.specs.declared.shape.Shape.{Shape}
use Rattle.vs_scopes.specs.vs_widths.specs.Operations.{operated}
use Rattle.vs_scopes.specs.vs_widths.specs.declared.constants.Const.{Const}
use Rattle.vs_scopes.specs.vs_widths.specs.declared.faults.WidthReason.{WidthReason}
use Rattle.vs_scopes.specs.vs_widths.specs.declared.faults.WidthReason.TheVariants.{TooWide, Unknown, NotConstant, WrongKind}
use Rattle.vs_scopes.specs.vs_widths.specs.declared.bindings.Meaning.{Meaning}
use Rattle.vs_scopes.specs.vs_widths.specs.declared.bindings.Binding.{Binding}
use Rattle.vs_scopes.specs.vs_widths.specs.declared.bindings.Binding.TheVariants.{Signal, Constant, Pending, Other, Genvar}
use Rattle.vs_scopes.specs.vs_widths.specs.Environment.{Environment}
use Rattle.vs_scopes.specs.vs_widths.specs.Findings.{Finding, Has, Lacks, unknown, wrong_kind, not_constant, too_wide, together, alone, alike, linked_shape, second, unsigned, beside, repeated}
use Rattle.vs_scopes.specs.vs_widths.specs.Meants.{Meant, own}
use Rattle.vs_scopes.specs.vs_widths.specs.Constants.{where_none, constant_finding, whole_of, natural_of, positive, where_some, count_finding}
use Rattle.vs_scopes.specs.vs_widths.specs.Selects.{Select, select_has_fault, refused, is_reversed, between, counted, base_finding, select_span, span_of, in_array, of_words, named, constant_span, operand_meant, select_meant}
use Rattle.vs_widths.specs.Expressions.{meant, meant_step, signal_finding, name_meant, unary_meant, linked_meant, chain_meant, linked_value, choice_finding, choice_meant, sum_finding, concat_meant}

-- ---- findings

-- a size and sign, or some fault
abbrev pub IsSound : Finding → Type 0
IsSound (Has width signed) = Unit {0}
IsSound (Lacks faults) = (w : WidthReason) × (faults w ≡ true)

-- a size and sign were found
abbrev pub IsFound : Finding → Type 0
IsFound (Has width signed) = Unit {0}
IsFound (Lacks faults) = ⊥

sound_together : (g : ℕ → Bool → ℕ → Bool → Finding) (a b : Finding) → ((width : ℕ) (signed : Bool) (size : ℕ) (sign : Bool) → IsSound (g width signed size sign)) → IsSound a → IsSound b → IsSound (together g a b)
sound_together g (Has width signed) (Has size sign) each h k = each width signed size sign
sound_together g (Has width signed) (Lacks others) each h k = k
sound_together g (Lacks faults) (Has size sign) each h k = h
sound_together g (Lacks faults) (Lacks others) each h k = (h.0, or_left (faults h.0) (others h.0) h.1)

sound_alone : (g : ℕ → Bool → Finding) (a : Finding) → ((width : ℕ) (signed : Bool) → IsSound (g width signed)) → IsSound a → IsSound (alone g a)
sound_alone g (Has width signed) each h = each width signed
sound_alone g (Lacks faults) each h = h

found_together : (g : ℕ → Bool → ℕ → Bool → Finding) (a b : Finding) → IsFound (together g a b) → IsFound a × IsFound b
found_together g (Has width signed) (Has size sign) h = (tt, tt)
found_together g (Has width signed) (Lacks others) h = absurd h
found_together g (Lacks faults) (Has size sign) h = absurd h
found_together g (Lacks faults) (Lacks others) h = absurd h

pub found_alone : (g : ℕ → Bool → Finding) (a : Finding) → IsFound (alone g a) → IsFound a
found_alone g (Has width signed) h = tt
found_alone g (Lacks faults) h = absurd h

sound_cond : (a : Bool) (x y : Finding) → IsSound x → IsSound y → IsSound (cond a x y)
sound_cond true x y h k = h
sound_cond false x y h k = k

sound_unsigned : (n : ℕ) → IsSound (unsigned n)
sound_unsigned n = sound_cond (nat_le n 64) (Has n false) (Lacks too_wide) tt (TooWide, refl)

sound_linked : (z : Sizing) (width : ℕ) (signed : Bool) (size : ℕ) (sign : Bool) → IsSound (linked_shape z width signed size sign)
sound_linked Alike width signed size sign = tt
sound_linked Shift width signed size sign = tt
sound_linked Comparison width signed size sign = tt
sound_linked Logical width signed size sign = tt

sound_repeated : (o : Option ℕ) (width : ℕ) → IsSound (repeated o width)
sound_repeated None width = (NotConstant, refl)
sound_repeated (Some n) width = sound_unsigned _

sound_none : (rs : List BitRange) (width : ℕ) (signed : Bool) → IsSound (where_none rs width signed)
sound_none [] width signed = tt
sound_none (r ∷ rs) width signed = (NotConstant, refl)

pub sound_constant : (m : Meant) → IsSound m.finding → IsSound (constant_finding m)
sound_constant m h = sound_alone (where_none m.reads) m.finding (sound_none m.reads) h

sound_some : {A : Type 0} (o : Option A) (width : ℕ) (signed : Bool) → IsSound (where_some o width signed)
sound_some None width signed = (NotConstant, refl)
sound_some (Some n) width signed = tt

sound_count : (m : Meant) → IsSound m.finding → IsSound (count_finding m)
sound_count m h = sound_alone (where_some (positive (natural_of m))) (constant_finding m) (sound_some (positive (natural_of m))) (sound_constant m h)

-- ---- selects

-- the expressions of selects have sound findings
abbrev SoundSelect : Select → Type 0
SoundSelect (i, None) = IsSound i.finding
SoundSelect (i, Some (how, m)) = IsSound i.finding × IsSound m.finding

abbrev SoundSelects : List Select → Type 0
SoundSelects [] = Unit {0}
SoundSelects (x ∷ xs) = SoundSelect x × SoundSelects xs

sound_refused : (g : WidthReason → Bool) (w : WidthReason) (ss : List Select) → g w ≡ true → IsSound (refused g ss)
sound_refused g w ss h = (w, or_left (g w) (list_any (select_has_fault w) ss) h)

sound_between : (b : Bounds) (x y : Option ℤ) → IsSound (between b x y)
sound_between b None y = (NotConstant, refl)
sound_between b (Some left) None = (NotConstant, refl)
sound_between b (Some left) (Some right) = sound_cond (is_reversed b left right) (Lacks not_constant) (unsigned (suc (unsigned_abs (left -ℤ right)))) (NotConstant, refl) (sound_unsigned _)

sound_counted : (o : Option ℕ) → IsSound (counted o)
sound_counted None = (NotConstant, refl)
sound_counted (Some n) = sound_unsigned n

sound_base : (a m : Meant) → IsSound a.finding → IsSound m.finding → IsSound (base_finding a m)
sound_base a m h k = sound_together (λ n signed size sign. counted (positive (natural_of m))) a.finding (constant_finding m) (λ n signed size sign. sound_counted (positive (natural_of m))) h (sound_constant m k)

sound_span : (b : Bounds) (size : ℕ) (x : Select) → SoundSelect x → IsSound (select_span b size x).finding
sound_span b size (i, None) h = sound_alone (λ width signed. Has 1 false) i.finding (λ width signed. tt) h
sound_span b size (i, Some (p.Bounds, m)) h =
    sound_together (λ width signed n sign. between b (whole_of i) (whole_of m)) (constant_finding i) (constant_finding m) (λ width signed n sign. sound_between b (whole_of i) (whole_of m)) (sound_constant i h.0) (sound_constant m h.1)
sound_span b size (i, Some (p.Upward, m)) h = sound_base i m h.0 h.1
sound_span b size (i, Some (p.Downward, m)) h = sound_base i m h.0 h.1

sound_spans : (b : Option Bounds) (s : Shape) (xs : List Select) → SoundSelects xs → IsSound (span_of b s xs).finding
sound_spans b s [] h = tt
sound_spans None s (x ∷ xs) h = sound_refused wrong_kind WrongKind (x ∷ xs) refl
sound_spans (Some b) s (x ∷ []) h = sound_span b s.width x h.0
sound_spans (Some b) s (x ∷ y ∷ xs) h = sound_refused wrong_kind WrongKind (x ∷ y ∷ xs) refl

sound_array : (b : Bounds) (x : Meaning) (signal : ℕ) (ss : List Select) → SoundSelects ss → IsSound (in_array b x signal ss).finding
sound_array b x signal [] h = sound_refused wrong_kind WrongKind [] refl
sound_array b x signal ((i, None) ∷ ss) h = sound_together second i.finding (span_of x.bits x.shape ss).finding (λ width signed size sign. tt) h.0 (sound_spans x.bits x.shape ss h.1)
sound_array b x signal ((i, Some m) ∷ ss) h = sound_refused wrong_kind WrongKind ((i, Some m) ∷ ss) refl

sound_words : (o : Option Bounds) (x : Meaning) (signal : ℕ) (ss : List Select) → SoundSelects ss → IsSound (of_words o x signal ss).finding
sound_words None x signal ss h = sound_spans x.bits x.shape ss h
sound_words (Some b) x signal ss h = sound_array b x signal ss h

sound_named : (o : Option Binding) (ss : List Select) → SoundSelects ss → IsSound (named o ss).finding
sound_named None ss h = sound_refused unknown Unknown ss refl
sound_named (Some (Signal x signal)) ss h = sound_words x.words x signal ss h
sound_named (Some (Constant c)) ss h = sound_refused wrong_kind WrongKind ss refl
sound_named (Some Pending) ss h = sound_refused not_constant NotConstant ss refl
sound_named (Some Other) ss h = sound_refused wrong_kind WrongKind ss refl
sound_named (Some Genvar) ss h = sound_refused wrong_kind WrongKind ss refl

-- ---- what expressions mean

-- a sound finding, and as many digits as the context wants, where a size was found
pub record IsFull (m : Meant) : Type 0 where
  pub sound : IsSound m.finding
  pub long : IsFound m.finding → (store : Store) (time width : ℕ) (signed : Bool) → length (m.at store time width signed) ≡ width

-- any resized value has that many digits
resized_full : (m : Meant) (g : Store → ℕ → ℕ → Bool → List Digit) → IsSound m.finding → ((store : Store) (time width : ℕ) (signed : Bool) → m.at store time width signed ≡ resized signed width (g store time width signed)) → IsFull m
resized_full m g h same = record { sound = h; long = λ found store time width signed. ap length (same store time width signed) ∙ length-resized signed width (g store time width signed) }

operand_long : (signed : Bool) (width : ℕ) (o : Option (List Digit)) → length (operand_value signed width o) ≡ width
operand_long signed width None = length-all_unknown width
operand_long signed width (Some word) = length-resized signed width word

sound_signal : (o : Option Bounds) (s : Shape) → IsSound (signal_finding o s)
sound_signal None s = tt
sound_signal (Some b) s = (WrongKind, refl)

name_full : (o : Option Binding) → IsFull (name_meant o)
name_full None = record { sound = (Unknown, refl); long = λ found. absurd found }
name_full (Some (Signal m signal)) = record { sound = sound_signal m.words m.shape; long = λ found store time width signed. operand_long signed width (word_of store signal 0) }
name_full (Some (Constant c)) = record { sound = tt; long = λ found store time width signed. length-resized signed width c.value }
name_full (Some Pending) = record { sound = (NotConstant, refl); long = λ found. absurd found }
name_full (Some Other) = record { sound = (WrongKind, refl); long = λ found. absurd found }
name_full (Some Genvar) = record { sound = (WrongKind, refl); long = λ found. absurd found }

place_full : (o : Option Binding) (ss : List Select) → SoundSelects ss → IsFull (operand_meant (named o ss))
place_full o ss h = record { sound = sound_named o ss h; long = λ found store time width signed. length-resized signed width _ }

sound_constant_span : (c : Const) (ss : List Select) → SoundSelects ss → IsSound (constant_span c ss).finding
sound_constant_span c [] h = tt
sound_constant_span c (x ∷ []) h = sound_span c.bits (length c.value) x h.0
sound_constant_span c (x ∷ y ∷ ss) h = sound_refused wrong_kind WrongKind (x ∷ y ∷ ss) refl

select_full : (o : Option Binding) (ss : List Select) → SoundSelects ss → IsFull (select_meant o ss)
select_full None ss h = place_full None ss h
select_full (Some (Constant c)) ss h = record { sound = sound_constant_span c ss h; long = λ found store time width signed. length-resized signed width _ }
select_full (Some (Signal m signal)) ss h = place_full (Some (Signal m signal)) ss h
select_full (Some Pending) ss h = place_full (Some Pending) ss h
select_full (Some Other) ss h = place_full (Some Other) ss h
select_full (Some Genvar) ss h = place_full (Some Genvar) ss h

unary_by : (a : Bool) (op : Unary) (x : Meant) → gives_bit op ≡ a → IsFull x → IsFull (unary_meant op x)
unary_by true op x e h = rw e (record {
  sound = sound_alone (λ width signed. Has 1 false) x.finding (λ width signed. tt) h.sound;
  long = λ found store time width signed. length-resized signed width _;
})
unary_by false op x e h = rw e (record {
  sound = h.sound;
  long = λ found store time width signed. length-unary op (x.at store time width signed) ∙ ap (λ b. cond b 1 (length (x.at store time width signed))) e ∙ h.long found store time width signed;
})

-- ---- operators of two operands

left_long : (z : Sizing) (width : ℕ) (ds : List Digit) → is_one_bit z ≡ false → length (left_side z width ds) ≡ width
left_long Alike width ds h = length-resized false width ds
left_long Shift width ds h = length-resized false width ds
left_long Comparison width ds h = absurd (true≢false h)
left_long Logical width ds h = absurd (true≢false h)

sides_long : (z : Sizing) (width : ℕ) (ds es : List Digit) → is_one_bit z ≡ false → is_even z ≡ true → length (left_side z width ds) ≡ length (right_side z width es)
sides_long Alike width ds es h k = length-resized false width ds ∙ sym (length-resized false width es)
sides_long Shift width ds es h k = absurd (true≢false (sym k))
sides_long Comparison width ds es h k = absurd (true≢false h)
sides_long Logical width ds es h k = absurd (true≢false h)

-- an operator whose result has the size of its context
operated_long : (op : Binary) (width : ℕ) (signed : Bool) (ds es : List Digit) → is_one_bit (sizing_of op) ≡ false → length (operated op width signed ds es) ≡ width
operated_long op width signed ds es h =
    length-binary op signed (left_side (sizing_of op) width ds) (right_side (sizing_of op) width es) (sides_long (sizing_of op) width ds es h)
    ∙ ap (λ b. cond b 1 (length (left_side (sizing_of op) width ds))) h ∙ left_long (sizing_of op) width ds h

linked_long : (z : Sizing) (op : Binary) (a b : Meant) (store : Store) (time width : ℕ) (signed : Bool) → sizing_of op ≡ z → length (linked_value z op a b store time width signed) ≡ width
linked_long Alike op a b store time width signed e = operated_long op width signed (a.at store time width signed) (b.at store time width signed) (ap is_one_bit e)
linked_long Shift op a b store time width signed e = operated_long op width signed (a.at store time width signed) (own b store time) (ap is_one_bit e)
linked_long Comparison op a b store time width signed e = length-resized signed width _
linked_long Logical op a b store time width signed e = length-resized signed width _

linked_full : (a : Meant) (l : Binary × Meant) → IsSound a.finding → IsSound l.1.finding → IsFull (linked_meant a l)
linked_full a l h k = record {
  sound = sound_together (linked_shape (sizing_of l.0)) a.finding l.1.finding (sound_linked (sizing_of l.0)) h k;
  long = λ found store time width signed. linked_long (sizing_of l.0) l.0 a l.1 store time width signed refl;
}

-- ---- expressions

module _ (env : Environment) where
  abbrev Full : Expr → Type 0
  Full e = IsFull (meant env e)

  -- an expression of which this is known
  abbrev Known : Type 0
  Known = (e : Expr) × Full e

  abbrev bare : Known → Expr
  bare e = e.0

  map_map : {A B C : Type 0} (g : B → C) (k : A → B) (xs : List A) → map g (map k xs) ≡ map (λ x. g (k x)) xs
  map_map g k [] = refl
  map_map g k (x ∷ xs) = ap (λ ys. g (k x) ∷ ys) (map_map g k xs)

  abbrev KnownLink : Type 0
  KnownLink = Binary × Known

  abbrev bare_link : KnownLink → Binary × Expr
  bare_link l = (l.0, l.1.0)

  chain_full : (first : Meant) (links : List KnownLink) → IsFull first → IsFull (chain_meant first (map (λ (l : KnownLink). (l.0, meant env l.1.0)) links))
  chain_full first [] h = h
  chain_full first (l ∷ ls) h = chain_full (linked_meant first (l.0, meant env l.1.0)) ls (linked_full first (l.0, meant env l.1.0) h.sound l.1.1.sound)

  abbrev KnownPair : Type 0
  KnownPair = Known × Known

  abbrev pair_meant : KnownPair → Meant × Meant
  pair_meant p = (meant env p.0.0, meant env p.1.0)

  choice_sound : (found : Finding) (ps : List KnownPair) → IsSound found → IsSound (choice_finding found (map pair_meant ps))
  choice_sound found [] h = h
  choice_sound found (p ∷ ps) h =
      let c = meant env p.0.0 in
      let v = meant env p.1.0 in
      choice_sound (together second c.finding (together alike found v.finding)) ps
      (sound_together second c.finding (together alike found v.finding) (λ width signed size sign. tt) p.0.1.sound (sound_together alike found v.finding (λ width signed size sign. tt) h p.1.1.sound))

  -- the findings of all operands
  abbrev AllFound : List KnownPair → Type 0
  AllFound [] = Unit {0}
  AllFound (p ∷ ps) = IsFound (meant env p.1.0).finding × AllFound ps

  choice_found : (found : Finding) (ps : List KnownPair) → IsFound (choice_finding found (map pair_meant ps)) → IsFound found × AllFound ps
  choice_found found [] h = (h, tt)
  choice_found found (p ∷ ps) h =
      let c = meant env p.0.0 in
      let v = meant env p.1.0 in
      let rest = choice_found (together second c.finding (together alike found v.finding)) ps h in
      let both = found_together alike found v.finding (found_together second c.finding (together alike found v.finding) rest.0).1 in
      (both.0, (both.1, rest.1))

  chosen_long : (ps : List KnownPair) (last : List Digit) (store : Store) (time width : ℕ) (signed : Bool) → AllFound ps → length last ≡ width →
      length (chosen (map (λ (p : Meant × Meant). (own p.0 store time, p.1.at store time width signed)) (map pair_meant ps)) last) ≡ width
  chosen_long [] last store time width signed h k = k
  chosen_long (p ∷ ps) last store time width signed h k =
      picked_long (truth (own (meant env p.0.0) store time)) ((meant env p.1.0).at store time width signed) _ width (p.1.1.long h.0 store time width signed) (chosen_long ps last store time width signed h.1 k)

  choice_full : (ps : List KnownPair) (last : Meant) → IsFull last → IsFull (choice_meant (map pair_meant ps) last)
  choice_full ps last h = record {
    sound = choice_sound last.finding ps h.sound;
    long = λ found store time width signed.
        (let both = choice_found last.finding ps found in
        chosen_long ps (last.at store time width signed) store time width signed both.1 (h.long both.0 store time width signed));
  }

  sum_sound : (found : Finding) (parts : List Known) → IsSound found → IsSound (sum_finding found (map (meant env) (map bare parts)))
  sum_sound found [] h = h
  sum_sound found (e ∷ es) h = sum_sound (together beside found (meant env e.0).finding) es (sound_together beside found (meant env e.0).finding (λ width signed size sign. sound_unsigned _) h e.1.sound)

  concat_sound : (first : Known) (parts : List Known) → IsSound (concat_meant (meant env first.0) (map (meant env) (map bare parts))).finding
  concat_sound first parts = sum_sound (alone (λ width signed. Has width false) (meant env first.0).finding) parts (sound_alone (λ width signed. Has width false) (meant env first.0).finding (λ width signed. tt) first.1.sound)

  abbrev Selected : Type 0
  Selected = Known × Option (PartSelect × Known)

  abbrev meanings : List Selected → List Select
  meanings xs = map (λ x. former-Expr-Select-1-at-5.map Expr Meant (meant env) x) (map (λ x. former-Expr-Select-1-at-5.map Known Expr bare x) xs)

  meanings_sound : (xs : List Selected) → SoundSelects (meanings xs)
  meanings_sound [] = tt
  meanings_sound ((i, None) ∷ xs) = (i.1.sound, meanings_sound xs)
  meanings_sound ((i, Some (how, m)) ∷ xs) = ((i.1.sound, m.1.sound), meanings_sound xs)

  inner : (y : Expr-F Known) → IsFull (meant_step env (map-Expr Expr Meant (meant env) (map-Expr Known Expr bare y)))
  inner (f.Number l) = record { sound = tt; long = λ found store time width signed. length-resized signed width l.value }
  inner (f.Name m) = name_full (env m.items)
  inner (f.Select m ss) = select_full (env m.items) (meanings ss.items) (meanings_sound ss.items)
  inner (f.Group x) = x.value.1
  inner (f.Unary op x) = unary_by (gives_bit op) op (meant env x.value.0) refl x.value.1
  inner (f.Chain x links) =
      subst (λ z. IsFull (chain_meant (meant env x.value.0) z)) (sym (map_map (λ (l : Binary × Expr). (l.0, meant env l.1)) bare_link links.items)) (chain_full (meant env x.value.0) links.items x.value.1)
  inner (f.Choice pairs last) =
      subst (λ z. IsFull (choice_meant z (meant env last.value.0))) (sym (map_map (λ (p : Expr × Expr). (meant env p.0, meant env p.1)) (λ (p : KnownPair). (p.0.0, p.1.0)) pairs.items)) (choice_full pairs.items (meant env last.value.0) last.value.1)
  inner (f.Concat x parts) = record { sound = concat_sound x.value parts.items; long = λ found store time width signed. length-resized signed width _ }
  inner (f.Repeat count x parts) = record {
    sound = sound_together (λ size sign width signed. repeated (positive (natural_of (meant env count.value.0))) width) (count_finding (meant env count.value.0)) (concat_meant (meant env x.value.0) (map (meant env) (map bare parts.items))).finding
        (λ size sign width signed. sound_repeated (positive (natural_of (meant env count.value.0))) width) (sound_count (meant env count.value.0) count.value.1.sound) (concat_sound x.value parts.items);
    long = λ found store time width signed. length-resized signed width _;
  }
  inner (f.Cast sign x) = record {
    sound = sound_alone (λ width signed. Has width sign) (meant env x.value.0).finding (λ width signed. tt) x.value.1.sound;
    long = λ found store time width signed. length-resized signed width _;
  }

  layer : (y : Expr-F Known) → Full (roll-Expr (map-Expr Known Expr bare y))
  layer y = subst IsFull (sym (fold-roll-Expr Meant (meant_step env) (map-Expr Known Expr bare y))) (inner y)

  pub meant_full : (e : Expr) → IsFull (meant env e)
  meant_full e = ind-Expr Full (λ x y is. subst (λ z. Full (roll-Expr z)) is (layer y)) e
