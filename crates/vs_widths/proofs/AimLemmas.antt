-- Names with selects as places of targets.
use Rattle.std.proofs.Common.{◌≡◌, ℕ, ℤ, Bool, true, false, ◌&&◌, ◌||◌, List, [], ◌∷◌, ◌++◌, Option, Some, None, is_some, map, sum, refl, ap, ap₂, sym, subst, ◌∙◌, arith}
use Rattle.std.specs.List.{list_all, list_any}
use Rattle.std.proofs.lemmas.List.Folds.{list_all-append}
use Rattle.vs_design.specs.vs_logic4.specs.declared.digit.Digit.{Digit}
use Rattle.vs_syntax.specs.declared.tree.PartSelect.TheVariants as k
use Rattle.vs_design.specs.declared.expression.Selection.{Selection}
use Rattle.vs_design.specs.declared.expression.Slice.{Slice}
use Rattle.vs_design.specs.declared.expression.Typed.{Typed}
use Rattle.vs_design.specs.declared.range.BitRange.{BitRange}
use Rattle.vs_design.specs.declared.signal.Bounds.{Bounds}
use Rattle.vs_design.specs.declared.statement.Aim.{Aim}
use Rattle.vs_design.specs.declared.statement.Aim.TheVariants as a
use Rattle.vs_design.specs.declared.statement.Target.{Target}
use Rattle.vs_design.specs.declared.write.Part.{Part}
use Rattle.vs_design.specs.Selects.{place_of, word_place}
use Rattle.vs_design.specs.Uses.{all_words, aim_range}
use Rattle.vs_design.specs.WellFormed.{aim_width, size_of}
use Rattle.vs_syntax.proofs.Deeper.{or_nil}
use Rattle.vs_widths.specs.declared.shape.Shape.{Shape}
use Rattle.vs_widths.specs.Each.{Each, each_none, each_more}
use Rattle.vs_widths.specs.Senses.{sense, IsFitted}
use Rattle.vs_widths.specs.declared.bindings.Meaning.{Meaning}
use Rattle.vs_widths.specs.declared.bindings.Binding.{Binding}
use Rattle.vs_widths.specs.declared.bindings.Binding.TheVariants.{Signal, Constant, Pending, Other, Genvar}
use Rattle.vs_widths.specs.declared.faults.WidthReason.{WidthReason}
use Rattle.vs_widths.specs.declared.faults.WidthReason.TheVariants.{Unknown, NotConstant, WrongKind}
use Rattle.vs_widths.specs.declared.faults.WidthFault.{WidthFault}
use Rattle.vs_widths.specs.declared.faults.WidthFault.TheVariants.{Memory, Refused}
use Rattle.vs_widths.specs.declared.places.ChosenBits.{ChosenBits}
use Rattle.vs_widths.specs.Environment.{Environment}
use Rattle.vs_widths.specs.Findings.{Finding, Has, Lacks, has_width_fault, unknown, wrong_kind, not_constant, together, alone, second, Refuses}
use Rattle.vs_widths.specs.Meants.{Meant, own}
use Rattle.vs_widths.specs.Constants.{where_none, constant_finding}
use Rattle.vs_widths.specs.Selects.{Select, Named, named, of_words, span_of, select_has_fault}
use Rattle.vs_widths.specs.select_passes.Measures.{meaning}
use Rattle.vs_widths.specs.select_passes.Places.{IsPlaced, IsFixed}
use Rattle.vs_widths.proofs.FixingLemmas.{fixed_range, fixed_reads, chosen_range, both_empty}
use Rattle.vs_widths.specs.declared.kinds.AssignmentKind.{AssignmentKind}
use Rattle.vs_widths.specs.declared.kinds.AssignmentKind.TheVariants.{Procedural, Continuous, Event}
use Rattle.vs_widths.specs.Lefts.{wanted, takes_bound, takes_reads, name_aimed}
use Rattle.vs_widths.specs.Aiming.{is_none_read, is_fixed, IsPlace, IsTarget}
use Rattle.vs_widths.specs.passes.Aims.{takes_aim, IsAim, IsTakenAim, select_passes, AreWithin}
use Rattle.std.proofs.lemmas.Bool.{or_right}
use Rattle.vs_design.specs.vs_logic4.proofs.Basics.{and_left, and_right}
use Rattle.vs_widths.proofs.PlaceLemmas.{refused_by}

-- ---- faults

stands_wanted : (faults : WidthReason → Bool) (b : Bool) (x : Finding) (r : WidthReason) → has_width_fault r x ≡ true → has_width_fault r (wanted faults b x) ≡ true
stands_wanted faults true x r h = h
stands_wanted faults false x r h = or_right (faults r) (has_width_fault r x) h

-- a fault of what is named is one of the target
pub name_refused : (how : AssignmentKind) (b : Option Binding) (ss : List Select) (d : WidthFault) → Refuses (named b ss).finding d → Refuses (name_aimed how b ss).finding d
name_refused how b ss d h =
    refused_by (named b ss).finding (name_aimed how b ss).finding d
    (λ r s. stands_wanted wrong_kind (takes_bound how b) (wanted not_constant (takes_reads how (named b ss).reads) (named b ss).finding) r (stands_wanted not_constant (takes_reads how (named b ss).reads) (named b ss).finding r s)) h

either : (P : Type 0) (x y : Bool) → (x || y) ≡ true → (x ≡ true → P) → (y ≡ true → P) → P
either P true y h f g = f refl
either P false y h f g = g h

pub stands_alone : (g : ℕ → Bool → Finding) (x : Finding) (r : WidthReason) → has_width_fault r x ≡ true → has_width_fault r (alone g x) ≡ true
stands_alone g (Has w s) r h = cc
stands_alone g (Lacks q) r h = h

pub stands_left : (g : ℕ → Bool → ℕ → Bool → Finding) (x y : Finding) (r : WidthReason) → has_width_fault r x ≡ true → has_width_fault r (together g x y) ≡ true
stands_left g (Has w s) y r h = cc
stands_left g (Lacks q) (Has v t) r h = h
stands_left g (Lacks q) (Lacks p) r h = rw h refl

pub stands_right : (g : ℕ → Bool → ℕ → Bool → Finding) (x y : Finding) (r : WidthReason) → has_width_fault r y ≡ true → has_width_fault r (together g x y) ≡ true
stands_right g x (Has v t) r h = cc
stands_right g (Has w s) (Lacks p) r h = h
stands_right g (Lacks q) (Lacks p) r h = or_right (q r) (p r) h

module _ (r : WidthReason) where
  constant_stands : (m : Meant) → has_width_fault r m.finding ≡ true → has_width_fault r (constant_finding m) ≡ true
  constant_stands m h = stands_alone (where_none m.reads) m.finding r h

  base_stands : (f : ℕ → Bool → ℕ → Bool → Finding) (i m : Meant) → ((has_width_fault r i.finding || has_width_fault r m.finding) || false) ≡ true → has_width_fault r (together f i.finding (constant_finding m)) ≡ true
  base_stands f i m h =
      either _ (has_width_fault r i.finding) (has_width_fault r m.finding) (or_nil _ h) (λ z. stands_left f i.finding (constant_finding m) r z) (λ z. stands_right f i.finding (constant_finding m) r (constant_stands m z))

  bounds_stand : (f : ℕ → Bool → ℕ → Bool → Finding) (i m : Meant) → ((has_width_fault r i.finding || has_width_fault r m.finding) || false) ≡ true → has_width_fault r (together f (constant_finding i) (constant_finding m)) ≡ true
  bounds_stand f i m h =
      either _ (has_width_fault r i.finding) (has_width_fault r m.finding) (or_nil _ h) (λ z. stands_left f (constant_finding i) (constant_finding m) r (constant_stands i z))
      (λ z. stands_right f (constant_finding i) (constant_finding m) r (constant_stands m z))

  span_stands : (b : Option Bounds) (s : Shape) (ss : List Select) → list_any (select_has_fault r) ss ≡ true → has_width_fault r (span_of b s ss).finding ≡ true
  span_stands b s [] h = h
  span_stands None s (x ∷ xs) h = or_right (wrong_kind r) _ h
  span_stands (Some b) s ((i, None) ∷ []) h = stands_alone (λ width signed. Has 1 false) i.finding r (or_nil _ h)
  span_stands (Some b) s ((i, Some (k.Bounds, m)) ∷ []) h = bounds_stand _ i m h
  span_stands (Some b) s ((i, Some (k.Upward, m)) ∷ []) h = base_stands _ i m h
  span_stands (Some b) s ((i, Some (k.Downward, m)) ∷ []) h = base_stands _ i m h
  span_stands (Some b) s (x ∷ y ∷ xs) h = or_right (wrong_kind r) _ h

  words_stand : (w : Option Bounds) (m : Meaning) (k : ℕ) (ss : List Select) → list_any (select_has_fault r) ss ≡ true → has_width_fault r (of_words w m k ss).finding ≡ true
  words_stand None m k ss h = span_stands m.bits m.shape ss h
  words_stand (Some w) m k [] h = or_right (wrong_kind r) _ h
  words_stand (Some w) m k ((i, Some n) ∷ ss) h = or_right (wrong_kind r) _ h
  words_stand (Some w) m k ((i, None) ∷ ss) h =
      let rest = (span_of m.bits m.shape ss).finding in
      either _ (has_width_fault r i.finding) (list_any (select_has_fault r) ss) h (λ z. stands_left second i.finding rest r z) (λ z. stands_right second i.finding rest r (span_stands m.bits m.shape ss z))

  any_stands : (b : Option Binding) (ss : List Select) → list_any (select_has_fault r) ss ≡ true → has_width_fault r (named b ss).finding ≡ true
  any_stands None ss h = or_right (unknown r) _ h
  any_stands (Some (Signal m k)) ss h = words_stand m.words m k ss h
  any_stands (Some (Constant c)) ss h = or_right (wrong_kind r) _ h
  any_stands (Some Pending) ss h = or_right (not_constant r) _ h
  any_stands (Some Other) ss h = or_right (wrong_kind r) _ h
  any_stands (Some Genvar) ss h = or_right (wrong_kind r) _ h

-- a fault of an expression of a select is one of the target
pub selects_refused : (how : AssignmentKind) (b : Option Binding) (ss : List Select) (d : WidthFault) → Refuses (Lacks (λ r. list_any (select_has_fault r) ss)) d → Refuses (name_aimed how b ss).finding d
selects_refused how b ss d h = name_refused how b ss d (refused_by (Lacks (λ r. list_any (select_has_fault r) ss)) (named b ss).finding d (λ r s. any_stands r b ss s) h)

unwanted : (faults : WidthReason → Bool) (x : Finding) (r : WidthReason) (b : Bool) → b ≡ false → faults r ≡ true → has_width_fault r (wanted faults b x) ≡ true
unwanted faults x r true h k = cc
unwanted faults x r false h k = rw k refl

pub kind_refused : (how : AssignmentKind) (b : Binding) (ss : List Select) → takes_bound how (Some b) ≡ false → has_width_fault WrongKind (name_aimed how (Some b) ss).finding ≡ true
kind_refused how b ss h = unwanted wrong_kind (wanted not_constant (takes_reads how (named (Some b) ss).reads) (named (Some b) ss).finding) WrongKind (takes_bound how (Some b)) h refl

reads_out : (how : AssignmentKind) (x : Aim) (rs : List BitRange) → is_fixed x ≡ is_none_read rs → takes_aim how x ≡ false → takes_reads how rs ≡ false
reads_out how (a.Fixed s) rs e h = cc
reads_out Procedural (a.Chosen s word low) rs e h = h
reads_out Continuous (a.Chosen s word low) [] e h = sym e
reads_out Continuous (a.Chosen s word low) (r ∷ rs) e h = refl
reads_out Event (a.Chosen s word low) [] e h = sym e
reads_out Event (a.Chosen s word low) (r ∷ rs) e h = refl

pub reads_refused : (how : AssignmentKind) (b : Binding) (ss : List Select) (x : Aim) → IsAim (named (Some b) ss) x → takes_aim how x ≡ false → has_width_fault NotConstant (name_aimed how (Some b) ss).finding ≡ true
reads_refused how b ss x p h =
    let none : takes_reads how (named (Some b) ss).reads ≡ false = reads_out how x (named (Some b) ss).reads p.fixed h in
    stands_wanted wrong_kind (takes_bound how (Some b)) _ NotConstant (unwanted not_constant (named (Some b) ss).finding NotConstant (takes_reads how (named (Some b) ss).reads) none refl)

pub unknown_refused : (how : AssignmentKind) (ss : List Select) → has_width_fault Unknown (name_aimed how None ss).finding ≡ true
unknown_refused Procedural ss = refl
unknown_refused Continuous ss = refl
unknown_refused Event ss = refl

-- ---- places

abbrev part_from : ℕ → ℕ → ℤ → List Digit → Part
part_from signal word low digits = record { signal = signal; word = word; low = low; digits = digits }

part_same : (s s' w w' : ℕ) (l l' : ℤ) (ds : List Digit) → s ≡ s' → w ≡ w' → l ≡ l' → part_from s w l ds ≡ part_from s' w' l' ds
part_same s s' w w' l l' ds h k e = rw (h, k, e) refl

pub fixed_aim : (p : ChosenBits) (s : Slice) → IsFixed p s → (n : Named) → IsPlaced n p → IsAim n (a.Fixed s)
fixed_aim p s q n h =
    let none : n.reads ≡ [] = fixed_reads p s q n h in
    record {
      signed = p.extent.shape.signed;
      found = h.found ∙ ap (λ w. Has w p.extent.shape.signed) (sym q.width);
      fixed = ap is_none_read (sym none);
      range = fixed_range p s q n h;
      reads = sym none;
      sizes = refl;
      part = λ digits store time. part_same _ _ _ _ _ _ digits (q.signal ∙ sym h.signal) (sym (h.word store time ∙ q.word store time)) (sym (h.low store time ∙ q.low store time));
    }

some_read : (rs : List BitRange) → (rs ≡ [] → ⊥) → false ≡ is_none_read rs
some_read [] h = absurd (h refl)
some_read (r ∷ rs) h = refl

pub chosen_aim : (p : ChosenBits) (s : Selection) (word low : Typed) → IsFitted (sense p.word.form) p.word.shape.width p.word.shape.signed word →
    IsFitted (sense p.extent.index.form) p.extent.index.shape.width p.extent.index.shape.signed low →
    s.signal ≡ p.signal → s.words ≡ p.words → s.bits ≡ p.extent.axis → s.width ≡ p.extent.shape.width →
    ((sense p.word.form).reads ≡ [] → (sense p.extent.index.form).reads ≡ [] → ⊥) → (n : Named) → IsPlaced n p → IsAim n (a.Chosen s word low)
chosen_aim p s word low f g e d b w none n h = record {
  signed = p.extent.shape.signed;
  found = h.found ∙ ap (λ z. Has z p.extent.shape.signed) (sym w);
  fixed = some_read n.reads (λ z. both_empty (sense p.word.form).reads (sense p.extent.index.form).reads none (sym h.ranges ∙ z));
  range = ap all_words e ∙ chosen_range p none n h;
  reads = ap₂ (λ x y. x ++ y) f.ranges g.ranges ∙ sym h.ranges;
  sizes =
      let one : size_of word ≡ Some p.word.shape.width = f.size ∙ h.word_flexible p.word.shape.width in
      let two : size_of low ≡ Some p.extent.index.shape.width = g.size ∙ h.flexible p.extent.index.shape.width in
      ap₂ (λ x y. is_some x && is_some y) one two;
  part = λ digits store time. part_same _ _ _ _ _ _ digits (e ∙ sym h.signal)
      (ap₂ (λ x y. word_place x y) d (f.value store time) ∙ sym (h.word store time))
      (ap (λ z. place_of s.bits s.width z) (g.value store time) ∙ ap₂ (λ x y. place_of x y (own (meaning p.extent.index) store time)) b w ∙ sym (h.low store time));
}

-- ---- what is bound to a name

reads_taken : (how : AssignmentKind) (x : Aim) (rs : List BitRange) → is_fixed x ≡ is_none_read rs → takes_aim how x ≡ true → takes_reads how rs ≡ true
reads_taken Procedural x rs e h = refl
reads_taken Continuous x [] e h = refl
reads_taken Continuous (a.Fixed s) (r ∷ rs) e h = sym e
reads_taken Continuous (a.Chosen s word low) (r ∷ rs) e h = h
reads_taken Event x [] e h = refl
reads_taken Event (a.Fixed s) (r ∷ rs) e h = sym e
reads_taken Event (a.Chosen s word low) (r ∷ rs) e h = h

pub taken_aim : (how : AssignmentKind) (b : Binding) (ss : List Select) (x : Aim) → takes_bound how (Some b) ≡ true → IsAim (named (Some b) ss) x → takes_aim how x ≡ true → IsTakenAim how b ss x
taken_aim how b ss x h p k = record { is = p; taken = h; constant = reads_taken how x (named (Some b) ss).reads p.fixed k }

signal_of : (w : Option Bounds) (m : Meaning) (k : ℕ) (ss : List Select) → (of_words w m k ss).signal ≡ k
signal_of None m k ss = refl
signal_of (Some w) m k [] = refl
signal_of (Some w) m k ((i, None) ∷ ss) = refl
signal_of (Some w) m k ((i, Some n) ∷ ss) = refl

module _ (test : ℕ → Bool) where
  abbrev passes : List BitRange → Bool
  passes rs = list_all (λ (r : BitRange). test r.signal) rs

  span_within : (b : Option Bounds) (s : Shape) (ss : List Select) → list_all (select_passes test) ss ≡ true → passes (span_of b s ss).reads ≡ true
  span_within b s [] h = refl
  span_within None s (x ∷ xs) h = refl
  span_within (Some b) s ((i, None) ∷ []) h = and_left _ _ h
  span_within (Some b) s ((i, Some (k.Bounds, m)) ∷ []) h = refl
  span_within (Some b) s ((i, Some (k.Upward, m)) ∷ []) h = and_left _ _ (and_left _ _ h)
  span_within (Some b) s ((i, Some (k.Downward, m)) ∷ []) h = and_left _ _ (and_left _ _ h)
  span_within (Some b) s (x ∷ y ∷ xs) h = refl

  named_within : (w : Option Bounds) (m : Meaning) (k : ℕ) (ss : List Select) → list_all (select_passes test) ss ≡ true → passes (of_words w m k ss).reads ≡ true
  named_within None m k ss h = span_within m.bits m.shape ss h
  named_within (Some w) m k [] h = refl
  named_within (Some w) m k ((i, Some n) ∷ ss) h = refl
  named_within (Some w) m k ((i, None) ∷ ss) h =
      let rest = (span_of m.bits m.shape ss).reads in
      let one : passes i.reads ≡ true = and_left _ _ h in
      let two : passes rest ≡ true = span_within m.bits m.shape ss (and_right _ _ h) in
      list_all-append (λ (r : BitRange). test r.signal) i.reads rest ∙ ap₂ (λ x y. x && y) one two

place_of_name : (how : AssignmentKind) (env : Environment) (name : List ℕ) (b : Binding) (ss : List Select) (x : Aim) → env name ≡ Some b → AreWithin env ss → IsTakenAim how b ss x → IsPlace how env (named (Some b) ss) x
place_of_name how env name (Signal m k) ss x e w h = record {
  signed = h.is.signed;
  found = h.is.found;
  name = name;
  meaning = m;
  number = k;
  bound = e;
  signal = signal_of m.words m k ss;
  taken = h.taken;
  within = λ test holds. named_within test m.words m k ss (w test holds);
  constant = h.constant;
  scalar = λ none store time. ap (λ z. (of_words z m k ss).word store time) none;
  fixed = h.is.fixed;
  range = h.is.range;
  reads = h.is.reads;
  sizes = h.is.sizes;
  part = h.is.part;
}
place_of_name how env name (Constant c) ss x e w h = let no : false ≡ true = h.taken in cc
place_of_name how env name Pending ss x e w h = let no : false ≡ true = h.taken in cc
place_of_name how env name Other ss x e w h = let no : false ≡ true = h.taken in cc
place_of_name how env name Genvar ss x e w h = let no : false ≡ true = h.taken in cc

sum_alone : (x : ℕ) → sum (x ∷ []) ≡ x
sum_alone x = omega arith

pub name_alone : (how : AssignmentKind) (env : Environment) (name : List ℕ) (b : Binding) (ss : List Select) (x : Aim) (t : Target) → env name ≡ Some b → AreWithin env ss → IsTakenAim how b ss x →
    t.parts.items ≡ x ∷ [] → t.width ≡ aim_width x → IsTarget how env (name_aimed how (Some b) ss) t
name_alone how env name b ss x t e w h parts width =
    let n = named (Some b) ss in
    let p : IsPlace how env n x = place_of_name how env name b ss x e w h in
    let found : n.finding ≡ Has t.width p.signed = p.found ∙ ap (λ z. Has z p.signed) (sym width) in
    record {
      signed = p.signed;
      found = ap₂ (λ c d. wanted wrong_kind c (wanted not_constant d n.finding)) h.taken h.constant ∙ found;
      places = subst (λ z. Each (IsPlace how env) (n ∷ []) z) (sym parts) (each_more n x [] [] p each_none);
      width = ap (λ z. sum (map aim_width z)) parts ∙ sum_alone (aim_width x) ∙ sym width;
      ranges = ap (map aim_range) parts ∙ ap (λ z. z ∷ []) p.range;
    }
