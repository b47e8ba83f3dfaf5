-- Lemmas on what the labels of a `case` choose.
use Rattle.std.proofs.Common.{Global, ◌≡◌, ◌≢◌, ℕ, zero, suc, ◌<◌, ◌≤◌, ◌+◌, ◌-◌, ◌==◌, ◌&&◌, ◌||◌, Bool, true, false, if◌then◌else◌, Option, Some, None, List, [], ◌∷◌, ◌++◌, map, length, take, drop, get_or, replicate, refl, sym, ◌∙◌, ap, ap₂, subst, arith}
use Rattle.std.specs.Prelude.{Vec, slice_get, IfSome, MatchOption}
use Rattle.std.specs.List.{All, list_any}
use Rattle.std.proofs.lemmas.Bool.{and_parts, eq-eqb, eqb-true, false≢true, false_from_ne_true}
use Rattle.std.proofs.lemmas.List.Elements.{All-nil, All-cons}
use Rattle.std.proofs.lemmas.List.{drop_all, drop_more, map_more, get_or-set_other, get_or-set_same, take_more}
use Rattle.std.proofs.lemmas.List.Folds.{list_any-append}
use Rattle.std.proofs.Math.ListN.{set}
use Rattle.vs_design.specs.vs_logic4.specs.declared.case.CaseKind.{CaseKind}
use Rattle.vs_design.specs.vs_logic4.specs.declared.case.CaseKind.TheVariants as kinds
use Rattle.vs_design.specs.vs_logic4.specs.declared.digit.Digit.{Digit}
use Rattle.vs_design.specs.vs_logic4.specs.Arithmetic.{known_number, number}
use Rattle.vs_design.specs.vs_logic4.specs.Cases.{matches}
use Rattle.vs_design.specs.vs_logic4.specs.Comparisons.{is_known}
use Rattle.vs_design.specs.vs_logic4.specs.Sameness.{same_digits-true, same_digits_self}
use Rattle.vs_design.specs.vs_logic4.specs.Vectors.{of_number, same_digit, same_digits}
use Rattle.vs_design.specs.vs_logic4.proofs.Numbers.{of_number-number}
use Rattle.vs_design.specs.declared.expression.Typed.{Typed}
use Rattle.vs_design.specs.declared.expression.Typed.TheOpen as layer
use Rattle.vs_design.specs.declared.expression.Typed.TheVariants as t
use Rattle.vs_design.specs.declared.signal.Signal.{Signal}
use Rattle.vs_design.specs.declared.statement.Statement.{Statement}
use Rattle.vs_design.specs.Stores.{Store}
use Rattle.vs_eval.specs.Meant.{Meaning}
use Rattle.vs_strobe.specs.vs_eval.specs.Values.{value_of}
use Rattle.vs_eval.proofs.ValueLemmas.{value_layer}
use Rattle.vs_process.specs.declared.choice.Case.{Case}
use Rattle.vs_process.specs.declared.switch.Label.{Label}
use Rattle.vs_process.specs.declared.switch.Labels.{Labels}
use Rattle.vs_process.specs.Extras.{starts_in}
use Rattle.vs_process.specs.Choices.{index_of}
use Rattle.vs_process.specs.Landings.{place_or, start_where}
use Rattle.vs_process.specs.Steps.{first_of, is_default, item_matches}
use Rattle.vs_process.specs.Switches.{AreLabels, AreOfSignals, IsNumber, IsSwitch, any_index, index_or, resolved_label, switch_index, table_index, walked}
use Rattle.vs_process.proofs.Starts.{start_next}

-- ---- labels one after another

module _ (kind : CaseKind) (digits : List Digit) (store : Store) (time : ℕ) where
  -- one label more at the end
  walked_more : (all : List Label) (x : Label) (otherwise : ℕ) → walked kind digits store time (all ++ x ∷ []) otherwise
      ≡ walked kind digits store time all (if matches kind digits (value_of x.e.now store time) then x.index else otherwise)
  walked_more [] x otherwise = refl
  walked_more (y ∷ ys) x otherwise =
      ap (λ (n : ℕ). if matches kind digits (value_of y.e.now store time) then y.index else n) (walked_more ys x otherwise)

  -- one label more of an item
  pub label_step : (before all more : List Label) (x : Label) (labels : List Typed) (i : ℕ) (e : Typed) (index otherwise : ℕ) → i < length labels → e ≡ get_or labels i e → x.e.now ≡ e →
      x.index ≡ index → more ≡ all ++ x ∷ [] →
      ((o : ℕ) → walked kind digits store time all o ≡ walked kind digits store time before (if list_any (λ e. matches kind digits (value_of e store time)) (take i labels) then index else o)) →
      walked kind digits store time more otherwise
      ≡ walked kind digits store time before (if list_any (λ e. matches kind digits (value_of e store time)) (take (i + 1) labels) then index else otherwise)
  label_step before all more x labels i e index otherwise below at is leads pushed so_far =
      let test : Typed → Bool = λ e. matches kind digits (value_of e store time) in
      let front : list_any test (take (i + 1) labels) ≡ (list_any test (take i labels) || test e) =
      ap (list_any test) (take_more labels i e below) ∙ list_any-append test (take i labels) (get_or labels i e ∷ []) ∙ ap (λ (y : Typed). list_any test (take i labels) || one_only (test y)) (sym at) ∙ ap (λ (b : Bool). list_any test (take i labels) || b) (one_only_is (test e)) in
      ap (λ (l : List Label). walked kind digits store time l otherwise) pushed
      ∙ walked_more all x otherwise
      ∙ so_far (if test x.e.now then x.index else otherwise)
      ∙ ap₂ (λ (y : Typed) (n : ℕ). walked kind digits store time before (if list_any test (take i labels) then index else (if test y then n else otherwise))) is leads
      ∙ ap (walked kind digits store time before) (either (list_any test (take i labels)) (test e) index otherwise)
      ∙ ap (λ (b : Bool). walked kind digits store time before (if b then index else otherwise)) (sym front)
    where
      one_only : Bool → Bool
      one_only b = b || false

      one_only_is : (b : Bool) → one_only b ≡ b
      one_only_is true = refl
      one_only_is false = refl

      either : (a b : Bool) (n o : ℕ) → (if a then n else (if b then n else o)) ≡ (if a || b then n else o)
      either true b n o = refl
      either false b n o = refl

  -- labels that are resolved lead where they do
  pub any_walked : (signals : List Signal) (labels : List Label) (otherwise : ℕ) → any_index kind digits store time (map (resolved_label signals) labels) otherwise ≡ walked kind digits store time labels otherwise
  any_walked signals [] otherwise = refl
  any_walked signals (x ∷ xs) otherwise =
      ap (λ (n : ℕ). if matches kind digits (value_of x.e.now store time) then x.index else n) (any_walked signals xs otherwise)

-- the labels of one item more
pub item_step : (c : Case) (starts : List ℕ) (otherwise : ℕ) (digits : List Digit) (store : Store) (time : ℕ) (all more : List Label) (i index : ℕ) (x : Vec Typed Global × Statement) →
    i < length c.items.now → x ≡ get_or c.items.now i x → index ≡ index_or c.count otherwise (slice_get starts i) →
    ((o : ℕ) → walked c.kind digits store time more o ≡ walked c.kind digits store time all (if list_any (λ e. matches c.kind digits (value_of e store time)) x.0.items then index else o)) →
    walked c.kind digits store time all (index_or c.count otherwise (start_where (item_matches c.kind digits store time) (drop i c.items.now) (drop i starts)))
    ≡ index_or c.count otherwise (start_where (item_matches c.kind digits store time) c.items.now starts) →
    walked c.kind digits store time more (index_or c.count otherwise (start_where (item_matches c.kind digits store time) (drop (i + 1) c.items.now) (drop (i + 1) starts)))
    ≡ index_or c.count otherwise (start_where (item_matches c.kind digits store time) c.items.now starts)
item_step c starts otherwise digits store time all more i index x below at is pushed so_far =
    let test = item_matches c.kind digits store time in
    let later : Option ℕ = start_where test (drop (i + 1) c.items.now) (drop (i + 1) starts) in
    let here : start_where test (drop i c.items.now) (drop i starts) ≡ (if test x then slice_get starts i else later) = start_next test c.items.now starts i x below at in
    pushed (index_or c.count otherwise later)
    ∙ ap (λ (n : ℕ). walked c.kind digits store time all (if test x then n else index_or c.count otherwise later)) is
    ∙ ap (walked c.kind digits store time all) (chosen_or (test x) (slice_get starts i) later ∙ ap (index_or c.count otherwise) (sym here))
    ∙ so_far
  where
    chosen_or : (b : Bool) (a o : Option ℕ) → (if b then index_or c.count otherwise a else index_or c.count otherwise o) ≡ index_or c.count otherwise (if b then a else o)
    chosen_or true a o = refl
    chosen_or false a o = refl

-- the index of the item that is taken, else that of the `default` or of what is behind
pub index_taken : (count behind : ℕ) (w d : Option ℕ) → index_of count (place_or behind (first_of w d)) ≡ index_or count (index_of count (place_or behind d)) w
index_taken count behind None d = refl
index_taken count behind (Some p) d = refl

-- ---- numbers

-- two vectors match in a `case` where they have the same digits
case_matches : (ds es : List Digit) → matches kinds.Case ds es ≡ same_digits ds es
case_matches [] [] = refl
case_matches [] (e ∷ es) = refl
case_matches (d ∷ ds) [] = refl
case_matches (d ∷ ds) (e ∷ es) = ap (λ (b : Bool). same_digit d e && b) (case_matches ds es)

pub same_matched : (ds es : List Digit) → matches kinds.Case ds es ≡ true → ds ≡ es
same_matched ds es h = same_digits-true ds es (sym (case_matches ds es) ∙ h)

matched_self : (ds es : List Digit) → ds ≡ es → matches kinds.Case ds es ≡ true
matched_self ds es same = case_matches ds es ∙ ap (λ (xs : List Digit). same_digits xs es) same ∙ same_digits_self es

not_matched : (ds es : List Digit) → (ds ≡ es → ⊥) → matches kinds.Case ds es ≡ false
not_matched ds es other = false_from_ne_true (matches kinds.Case ds es) (λ t. other (same_matched ds es t))

-- known vectors of one size with one number are equal
same_number : (ds es : List Digit) → is_known ds ≡ true → is_known es ≡ true → length ds ≡ length es → number ds ≡ number es → ds ≡ es
same_number ds es h k long same = sym (of_number-number ds h) ∙ ap₂ of_number long same ∙ of_number-number es k

literal_value : (e : Typed) (digits : List Digit) → e ≡ t.Number digits → (store : Store) (time : ℕ) → value_of e store time ≡ digits
literal_value e digits is store time = value_layer e store time (layer.Number digits) (t.rolls-Number digits ∙ sym is)

-- whether a vector is a number of a size
abbrev pub is_sized : List Digit → ℕ → Bool
is_sized ds width = is_known ds && (length ds == width)

module _ (digits ds : List Digit) (width n index otherwise : ℕ) (indices : List ℕ) (known : is_known ds ≡ true) (long : length ds ≡ width) (counts : n ≡ number ds) (below : n < length indices) where
  by_number : (b : Bool) → (number digits == n) ≡ b → is_sized digits width ≡ true → get_or (set indices n index) (number digits) otherwise ≡ (if matches kinds.Case digits ds then index else get_or indices (number digits) otherwise)
  by_number true is sized =
      let same : number digits ≡ n = eqb-true (number digits) n is in
      let parts = and_parts (is_known digits) (length digits == width) sized in
      let wide : length digits ≡ length ds = eqb-true (length digits) width parts.1 ∙ sym long in
      ap (λ (k : ℕ). get_or (set indices n index) k otherwise) same
      ∙ get_or-set_same indices n index otherwise below
      ∙ sym (ap (λ (b : Bool). if b then index else get_or indices (number digits) otherwise) (matched_self digits ds (same_number digits ds parts.0 known wide (same ∙ counts))))
  by_number false is sized =
      let other : number digits ≢ n = λ same. false≢true (sym is ∙ ap (λ (k : ℕ). number digits == k) (sym same) ∙ eq-eqb (number digits) (number digits) refl) in
      get_or-set_other indices n (number digits) index otherwise other
      ∙ sym (ap (λ (b : Bool). if b then index else get_or indices (number digits) otherwise) (not_matched digits ds (λ same. other (ap number same ∙ sym counts))))

  by_size : (b : Bool) → is_sized digits width ≡ b → (if b then get_or (set indices n index) (number digits) otherwise else otherwise)
      ≡ (if matches kinds.Case digits ds then index else (if b then get_or indices (number digits) otherwise else otherwise))
  by_size true is = by_number (number digits == n) refl is
  by_size false is =
      sym (ap (λ (b : Bool). if b then index else otherwise) (not_matched digits ds (λ same. false≢true (sym is ∙ ap (λ (xs : List Digit). is_sized xs width) same ∙ itself))))
    where
      itself : is_sized ds width ≡ true
      itself = ap (λ (b : Bool). b && (length ds == width)) known ∙ eq-eqb (length ds) width long

  table_set : table_index digits width (set indices n index) otherwise ≡ (if matches kinds.Case digits ds then index else table_index digits width indices otherwise)
  table_set = by_size (is_sized digits width) refl

-- the label before those of a table
pub table_step : (labels : List Label) (i : ℕ) (x : Label) (width n : ℕ) (indices : List ℕ) (otherwise : ℕ) (digits : List Digit) (store : Store) (time : ℕ) →
    0 < i → i ≤ length labels → x ≡ get_or labels (i - 1) x → IsNumber x.e.now width n → n < length indices →
    table_index digits width indices otherwise ≡ walked kinds.Case digits store time (drop i labels) otherwise →
    table_index digits width (set indices n x.index) otherwise ≡ walked kinds.Case digits store time (drop (i - 1) labels) otherwise
table_step labels i x width n indices otherwise digits store time some most at is below so_far =
    let before : i - 1 < length labels = omega arith in
    let next : (i - 1) + 1 ≡ i = omega arith in
    let front : drop (i - 1) labels ≡ x ∷ drop i labels =
    drop_more labels (i - 1) x before ∙ ap₂ (λ (y : Label) (k : ℕ). y ∷ drop k labels) (sym at) next in
    table_set digits is.digits width n x.index otherwise indices is.known is.long is.counts below
    ∙ ap₂ (λ (ds : List Digit) (k : ℕ). if matches kinds.Case digits ds then x.index else k) (sym (literal_value x.e.now is.digits is.same store time)) so_far
    ∙ ap (λ (l : List Label). walked kinds.Case digits store time l otherwise) (sym front)

-- before the last label
pub table_none : (labels : List Label) (i count width otherwise : ℕ) (digits : List Digit) (store : Store) (time : ℕ) → length labels ≤ i →
    table_index digits width (replicate count otherwise) otherwise ≡ walked kinds.Case digits store time (drop i labels) otherwise
table_none labels i count width otherwise digits store time end =
    none (is_sized digits width) ∙ ap (λ (l : List Label). walked kinds.Case digits store time l otherwise) (sym (drop_all i labels end))
  where
    all_alike : (n k : ℕ) → get_or (replicate n otherwise) k otherwise ≡ otherwise
    all_alike zero k = refl
    all_alike (suc n) zero = refl
    all_alike (suc n) (suc k) = all_alike n k

    none : (b : Bool) → (if b then get_or (replicate count otherwise) (number digits) otherwise else otherwise) ≡ otherwise
    none true = all_alike count (number digits)
    none false = refl

-- ---- loops over labels

-- behind the last item
pub items_end : (c : Case) (starts : List ℕ) (otherwise : ℕ) (digits : List Digit) (store : Store) (time : ℕ) (all : List Label) (i : ℕ) → length c.items.now ≤ i →
    walked c.kind digits store time all otherwise
    ≡ walked c.kind digits store time all (index_or c.count otherwise (start_where (item_matches c.kind digits store time) (drop i c.items.now) (drop i starts)))
items_end c starts otherwise digits store time all i end =
    ap (λ (l : List (Vec Typed Global × Statement)). walked c.kind digits store time all (index_or c.count otherwise (start_where (item_matches c.kind digits store time) l (drop i starts))))
    (sym (drop_all i c.items.now end))

-- a list that is the image of another one: one element on
pub image_more : {A B : Type 0} (f : A → B) (xs : List A) (i : ℕ) (x : A) (all more : List B) (y : B) → i < length xs → x ≡ get_or xs i x → more ≡ all ++ y ∷ [] → y ≡ f x → all ≡ map f (take i xs) →
    more ≡ map f (take (i + 1) xs)
image_more f xs i x all more y below is pushed same so_far =
    pushed ∙ ap₂ (λ bs b. bs ++ b ∷ []) so_far (same ∙ ap f is) ∙ sym (map_more f xs i x below)

-- resolved labels are of the design
pub known_all : (signals : List Signal) (labels : List Label) → All (λ (x : Meaning × ℕ). x.0.signals ≡ signals) (map (resolved_label signals) labels)
known_all signals [] = All-nil (λ (x : Meaning × ℕ). x.0.signals ≡ signals)
known_all signals (x ∷ xs) = All-cons (λ (x : Meaning × ℕ). x.0.signals ≡ signals) (resolved_label signals x) (map (resolved_label signals) xs) refl (known_all signals xs)

-- the index of labels from one on: that of this one where it matches, else that of those behind it
pub any_next : (kind : CaseKind) (digits : List Digit) (store : Store) (time : ℕ) (labels : List (Meaning × ℕ)) (i : ℕ) (x : Meaning × ℕ) (otherwise : ℕ) (b : Bool) → i < length labels → x ≡ get_or labels i x →
    matches kind digits (value_of x.0.expression store time) ≡ b → any_index kind digits store time (drop i labels) otherwise ≡ (if b then x.1 else any_index kind digits store time (drop (i + 1) labels) otherwise)
any_next kind digits store time labels i x otherwise b below at is =
    ap (λ (l : List (Meaning × ℕ)). any_index kind digits store time l otherwise) (drop_more labels i x below ∙ ap (λ (y : Meaning × ℕ). y ∷ drop (i + 1) labels) (sym at))
    ∙ ap (λ (t : Bool). if t then x.1 else any_index kind digits store time (drop (i + 1) labels) otherwise) is

-- behind the last label
pub any_end : (kind : CaseKind) (digits : List Digit) (store : Store) (time : ℕ) (labels : List (Meaning × ℕ)) (i otherwise : ℕ) → length labels ≤ i → any_index kind digits store time (drop i labels) otherwise ≡ otherwise
any_end kind digits store time labels i otherwise end = ap (λ (l : List (Meaning × ℕ)). any_index kind digits store time l otherwise) (drop_all i labels end)

-- ---- numbers of labels and of subjects

-- a literal of this size is a number where it has one
pub number_told : (e : Typed) (digits : List Digit) (width : ℕ) (r : Option ℕ) → e ≡ t.Number digits → length digits ≡ width → r ≡ known_number digits → IfSome r (λ (n : ℕ). IsNumber e width n)
number_told e digits width r is long told = by_known (is_known digits) refl
  where
    by_known : (b : Bool) → is_known digits ≡ b → IfSome r (λ (n : ℕ). IsNumber e width n)
    by_known true known =
        subst (λ (o : Option ℕ). IfSome o (λ (n : ℕ). IsNumber e width n)) (sym (told ∙ ap (λ (b : Bool). if b then Some (number digits) else None) known))
        (record { digits = digits; same = is; known = known; long = long; counts = refl })
    by_known false known = subst (λ (o : Option ℕ). IfSome o (λ (n : ℕ). IsNumber e width n)) (sym (told ∙ ap (λ (b : Bool). if b then Some (number digits) else None) known)) tt

module _ (digits : List Digit) (width : ℕ) (indices : List ℕ) (otherwise : ℕ) where
  -- a value of another size
  pub looked_far : (length digits == width) ≡ false → table_index digits width indices otherwise ≡ otherwise
  looked_far other = by_known (is_known digits)
    where
      by_known : (b : Bool) → (if b && (length digits == width) then get_or indices (number digits) otherwise else otherwise) ≡ otherwise
      by_known true = ap (λ (b : Bool). if b then get_or indices (number digits) otherwise else otherwise) other
      by_known false = refl

  -- a value of this size
  pub looked_near : (o : Option ℕ) (r : ℕ) → (length digits == width) ≡ true → o ≡ known_number digits → MatchOption o (r ≡ otherwise) (λ (n : ℕ). r ≡ get_or indices n otherwise) →
      r ≡ table_index digits width indices otherwise
  looked_near o r same told found =
      by_known (is_known digits) (subst (λ (p : Option ℕ). MatchOption p (r ≡ otherwise) (λ (n : ℕ). r ≡ get_or indices n otherwise)) told found)
      ∙ sym (ap (λ (b : Bool). if is_known digits && b then get_or indices (number digits) otherwise else otherwise) same)
    where
      by_known : (b : Bool) → MatchOption (if b then Some (number digits) else None) (r ≡ otherwise) (λ (n : ℕ). r ≡ get_or indices n otherwise) →
          r ≡ (if b && true then get_or indices (number digits) otherwise else otherwise)
      by_known true h = h
      by_known false h = h

-- ---- a `case`

-- labels that lead where the items do, else where the `default` does, make a `case`
pub switch_made : (c : Case) (signals : List Signal) (subject : Meaning) (labels : Labels) (all : List Label) (otherwise : ℕ) (d : Option ℕ) →
    subject ≡ record { signals = signals; expression = c.e.now } → AreOfSignals signals labels → AreLabels c (starts_in c.op.now) otherwise all →
    ((digits : List Digit) (store : Store) (time : ℕ) → switch_index c.kind digits store time labels otherwise ≡ walked c.kind digits store time all otherwise) →
    otherwise ≡ index_of c.count (place_or c.op.now.behind d) → d ≡ start_where is_default c.items.now (starts_in c.op.now) → IsSwitch c subject labels otherwise
switch_made c signals subject labels all otherwise d is known leads same place default_is = record {
  same = ap (λ (m : Meaning). m.expression) is;
  known = subst (λ (ss : List Signal). AreOfSignals ss labels) (sym (ap (λ (m : Meaning). m.signals) is)) known;
  leads = λ store time.
      let digits : List Digit = value_of c.e.now store time in
      let w : Option ℕ = start_where (item_matches c.kind digits store time) c.items.now (starts_in c.op.now) in
      same digits store time
      ∙ leads digits store time
      ∙ ap (λ (o : ℕ). index_or c.count o w) place
      ∙ sym (index_taken c.count c.op.now.behind w d)
      ∙ ap (λ (e : Option ℕ). index_of c.count (place_or c.op.now.behind (first_of w e))) default_is;
}
