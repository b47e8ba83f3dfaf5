-- What texts that say the same read, write and control.
use Rattle.std.proofs.Common.{◌≡◌, ℕ, Bool, ◌||◌, List, [], ◌∷◌, ◌++◌, map, refl, ap, ap₂, sym, ◌∙◌}
use Rattle.std.specs.List.{AllZip, list_any}
use Rattle.std.specs.declared.vec.Vec.{Vec}
use Rattle.std.specs.declared.boxed.Box.{Box}
use Rattle.std.specs.declared.alloc.Global.{Global}
use Rattle.vs_design.specs.vs_logic4.specs.declared.case.CaseKind.{CaseKind}
use Rattle.vs_design.specs.declared.expression.Typed.{Typed}
use Rattle.vs_design.specs.declared.range.BitRange.{BitRange}
use Rattle.vs_design.specs.declared.statement.Call.{Call}
use Rattle.vs_design.specs.declared.statement.EventTerm.{EventTerm}
use Rattle.vs_design.specs.declared.statement.FormatArg.{FormatArg}
use Rattle.vs_design.specs.declared.statement.FormatArg.TheVariants as arg
use Rattle.vs_design.specs.declared.statement.Statement.{Statement}
use Rattle.vs_design.specs.declared.statement.Statement.TheFolds.{fold-Statement, map-Statement, fold-roll-Statement}
use Rattle.vs_design.specs.declared.statement.Statement.TheOpen.{Statement-F}
use Rattle.vs_design.specs.declared.statement.Statement.TheOpen as f
use Rattle.vs_design.specs.declared.statement.Statement.TheViews.{out-Statement, roll-out-Statement}
use Rattle.vs_design.specs.declared.statement.Target.{Target}
use Rattle.vs_design.specs.declared.statement.Ticks.{Ticks}
use Rattle.vs_design.specs.Statements.{all_reads, assignment_reads, arg_reads, has_control, has_control_step}
use Rattle.vs_design.specs.Uses.{joined, reads, target_reads}
use Rattle.vs_process.specs.Threads.{item_reads}
use Rattle.vs_process.specs.Writes.{statement_writes, statement_writes_step}
use Rattle.vs_elaborate.specs.Same.{SameTyped, SameSides, SameFormatArg, SameCall}
use Rattle.vs_rules.specs.Controls.{controls_in, controls_step}
use Rattle.vs_rules.specs.Paths.{text_reads, text_reads_step}
use Rattle.vs_laws.proofs.Alike.{Choice, Alike, alike, AlikeLayer, of_null, of_assign, of_later, of_call, of_finish, of_block, of_delay, of_event, of_if, of_case, of_while, of_repeat, of_forever, AlikeAll, all_end, all_more, AlikeChoices, choices_end, choices_more}

-- ---- ranges

pub beside : {A : Type 0} (a a' b b' : List A) → a ≡ a' → b ≡ b' → a ++ b ≡ a' ++ b'
beside a a' b b' h k = ap₂ (λ x y. x ++ y) h k

pub sides_read : (t t' : Target) (x x' : Typed) → SameSides t t' x x' → assignment_reads t x ≡ assignment_reads t' x'
sides_read t t' x x' m = beside (reads x) (reads x') (target_reads t) (target_reads t') m.source.ranges m.target.indices

pub all_read : (es es' : List Typed) → AllZip SameTyped es es' → all_reads es ≡ all_reads es'
all_read [] [] m = refl
all_read [] (e' ∷ es') m = absurd m
all_read (e ∷ es) [] m = absurd m
all_read (e ∷ es) (e' ∷ es') m = beside (reads e) (reads e') (all_reads es) (all_reads es') m.0.ranges (all_read es es' m.1)

pub args_read : (xs xs' : List FormatArg) → AllZip SameFormatArg xs xs' → joined (map arg_reads xs) ≡ joined (map arg_reads xs')
args_read [] [] m = refl
args_read [] (x' ∷ xs') m = absurd m
args_read (x ∷ xs) [] m = absurd m
args_read (arg.Value g x ∷ xs) (arg.Value g' x' ∷ xs') m = beside (reads x) (reads x') _ _ m.0.1.ranges (args_read xs xs' m.1)
args_read (arg.Time ∷ xs) (arg.Time ∷ xs') m = args_read xs xs' m.1
args_read (arg.Value g x ∷ xs) (arg.Time ∷ xs') m = absurd m.0
args_read (arg.Time ∷ xs) (arg.Value g' x' ∷ xs') m = absurd m.0

pub choices_read : (xs xs' : List Choice) → AlikeChoices xs xs' → joined (map item_reads xs) ≡ joined (map item_reads xs')
choices_read _ _ choices_end = refl
choices_read _ _ (choices_more x x' xs xs' h m r) = beside (item_reads x) (item_reads x') _ _ (all_read x.0.items x'.0.items h) (choices_read xs xs' r)

-- ---- folds of texts

-- an item of a `case`, with what is made of its statement
abbrev SameChoice : {A : Type 0} → Vec Typed Global × A → Vec Typed Global × A → Type 0
SameChoice i i' = AllZip SameTyped i.0.items i'.0.items × (i.1 ≡ i'.1)

-- layers that say the same, with the same in the place of each inner statement
pub data AlikeOver {A : Type 0} : Statement-F A → Statement-F A → Type 0 where
  over_null : (k : ℕ) → AlikeOver (f.Null k) (f.Null k)
  over_assign : (k : ℕ) (t t' : Target) (x x' : Typed) → SameSides t t' x x' → AlikeOver (f.Assign k t x) (f.Assign k t' x')
  over_later : (k : ℕ) (n n' : Ticks) (t t' : Target) (x x' : Typed) → SameSides t t' x x' → AlikeOver (f.Later k n t x) (f.Later k n' t' x')
  over_call : (k : ℕ) (c c' : Call) → SameCall c c' → AlikeOver (f.Call k c) (f.Call k c')
  over_finish : (k : ℕ) → AlikeOver (f.Finish k) (f.Finish k)
  over_block : (xs xs' : Vec A Global) → xs.items ≡ xs'.items → AlikeOver (f.Block xs) (f.Block xs')
  over_delay : (k : ℕ) (n n' : Ticks) (x x' : Box A Global) → x.value ≡ x'.value → AlikeOver (f.Delay k n x) (f.Delay k n' x')
  over_event : (k : ℕ) (ts ts' : Vec EventTerm Global) (x x' : Box A Global) → x.value ≡ x'.value → AlikeOver (f.Event k ts x) (f.Event k ts' x')
  over_if : (k : ℕ) (e e' : Typed) (x x' z z' : Box A Global) → SameTyped e e' → x.value ≡ x'.value → z.value ≡ z'.value →
      AlikeOver (f.If k e x z) (f.If k e' x' z')
  over_case : (k : ℕ) (kind : CaseKind) (e e' : Typed) (xs xs' : Vec (Vec Typed Global × A) Global) → SameTyped e e' →
      AllZip SameChoice xs.items xs'.items → AlikeOver (f.Case k kind e xs) (f.Case k kind e' xs')
  over_while : (k : ℕ) (e e' : Typed) (x x' : Box A Global) → SameTyped e e' → x.value ≡ x'.value → AlikeOver (f.While k e x) (f.While k e' x')
  over_repeat : (k : ℕ) (signed : Bool) (e e' : Typed) (x x' : Box A Global) → SameTyped e e' → x.value ≡ x'.value →
      AlikeOver (f.Repeat k signed e x) (f.Repeat k signed e' x')
  over_forever : (k : ℕ) (x x' : Box A Global) → x.value ≡ x'.value → AlikeOver (f.Forever k x) (f.Forever k x')

module _ (A : Type 0) (step : Statement-F A → A) (respects : (y y' : Statement-F A) → AlikeOver y y' → step y ≡ step y') where
  abbrev made : Statement → A
  made = fold-Statement A step

  by_layer : (s : Statement) → made s ≡ step (map-Statement Statement A made (out-Statement s))
  by_layer s = ap made (sym (roll-out-Statement s)) ∙ fold-roll-Statement A step (out-Statement s)

  mutual
    pub fold_same : (s s' : Statement) → Alike s s' → made s ≡ made s'
    fold_same _ _ (alike s s' l) = by_layer s ∙ respects _ _ (over (out-Statement s) (out-Statement s') l) ∙ sym (by_layer s')

    over : (x x' : Statement-F Statement) → AlikeLayer x x' → AlikeOver (map-Statement Statement A made x) (map-Statement Statement A made x')
    over _ _ (of_null k) = over_null k
    over _ _ (of_assign k t t' x x' m) = over_assign k t t' x x' m
    over _ _ (of_later k n n' t t' x x' c m) = over_later k n n' t t' x x' m
    over _ _ (of_call k c c' m) = over_call k c c' m
    over _ _ (of_finish k) = over_finish k
    over _ _ (of_block xs xs' m) = over_block _ _ (all_same xs.items xs'.items m)
    over _ _ (of_delay k n n' x x' c m) = over_delay k n n' _ _ (fold_same x.value x'.value m)
    over _ _ (of_event k ts ts' x x' c m) = over_event k ts ts' _ _ (fold_same x.value x'.value m)
    over _ _ (of_if k e e' x x' z z' h m r) = over_if k e e' _ _ _ _ h (fold_same x.value x'.value m) (fold_same z.value z'.value r)
    over _ _ (of_case k kind e e' xs xs' h m) = over_case k kind e e' _ _ h (choices_same xs.items xs'.items m)
    over _ _ (of_while k e e' x x' h m) = over_while k e e' _ _ h (fold_same x.value x'.value m)
    over _ _ (of_repeat k signed e e' x x' h m) = over_repeat k signed e e' _ _ h (fold_same x.value x'.value m)
    over _ _ (of_forever k x x' m) = over_forever k _ _ (fold_same x.value x'.value m)

    all_same : (xs xs' : List Statement) → AlikeAll xs xs' → map made xs ≡ map made xs'
    all_same _ _ all_end = refl
    all_same _ _ (all_more x x' xs xs' m r) = ap₂ (λ y ys. y ∷ ys) (fold_same x x' m) (all_same xs xs' r)

    choices_same : (xs xs' : List Choice) → AlikeChoices xs xs' → AllZip SameChoice (map (λ (i : Choice). (i.0, made i.1)) xs) (map (λ (i : Choice). (i.0, made i.1)) xs')
    choices_same _ _ choices_end = tt
    choices_same _ _ (choices_more x x' xs xs' h m r) = ((h, fold_same x.1 x'.1 m), choices_same xs xs' r)

-- what an item of a `case` has of its statement
inner_same : {A : Type 0} (xs xs' : List (Vec Typed Global × List A)) → AllZip SameChoice xs xs' →
    joined (map (λ (i : Vec Typed Global × List A). i.1) xs) ≡ joined (map (λ (i : Vec Typed Global × List A). i.1) xs')
inner_same [] [] h = refl
inner_same [] (x' ∷ xs') h = absurd h
inner_same (x ∷ xs) [] h = absurd h
inner_same (x ∷ xs) (x' ∷ xs') h = beside x.1 x'.1 _ _ h.0.1 (inner_same xs xs' h.1)

labels_same : (xs xs' : List (Vec Typed Global × List BitRange)) → AllZip SameChoice xs xs' →
    joined (map (λ (i : Vec Typed Global × List BitRange). all_reads i.0.items) xs) ≡ joined (map (λ (i : Vec Typed Global × List BitRange). all_reads i.0.items) xs')
labels_same [] [] h = refl
labels_same [] (x' ∷ xs') h = absurd h
labels_same (x ∷ xs) [] h = absurd h
labels_same (x ∷ xs) (x' ∷ xs') h = beside (all_reads x.0.items) (all_reads x'.0.items) _ _ (all_read x.0.items x'.0.items h.0.0) (labels_same xs xs' h.1)

any_same : (xs xs' : List (Vec Typed Global × Bool)) → AllZip SameChoice xs xs' →
    list_any (λ (i : Vec Typed Global × Bool). i.1) xs ≡ list_any (λ (i : Vec Typed Global × Bool). i.1) xs'
any_same [] [] h = refl
any_same [] (x' ∷ xs') h = absurd h
any_same (x ∷ xs) [] h = absurd h
any_same (x ∷ xs) (x' ∷ xs') h = ap₂ (λ a b. a || b) h.0.1 (any_same xs xs' h.1)

reads_over : (y y' : Statement-F (List BitRange)) → AlikeOver y y' → text_reads_step y ≡ text_reads_step y'
reads_over _ _ (over_assign k t t' x x' m) = ap (λ z. z ++ []) (sides_read t t' x x' m)
reads_over _ _ (over_later k n n' t t' x x' m) = ap (λ z. z ++ []) (sides_read t t' x x' m)
reads_over _ _ (over_block xs xs' h) = ap joined h
reads_over _ _ (over_delay k n n' x x' h) = h
reads_over _ _ (over_event k ts ts' x x' h) = h
reads_over _ _ (over_if k e e' x x' z z' h m r) = beside (reads e) (reads e') _ _ h.ranges (beside x.value x'.value z.value z'.value m r)
reads_over _ _ (over_case k kind e e' xs xs' h m) =
    beside _ _ _ _ (beside (reads e) (reads e') _ _ h.ranges (labels_same xs.items xs'.items m)) (inner_same xs.items xs'.items m)
reads_over _ _ (over_while k e e' x x' h m) = beside (reads e) (reads e') x.value x'.value h.ranges m
reads_over _ _ (over_repeat k signed e e' x x' h m) = beside (reads e) (reads e') x.value x'.value h.ranges m
reads_over _ _ (over_forever k x x' h) = h
reads_over _ _ _ = refl

writes_over : (y y' : Statement-F (List BitRange)) → AlikeOver y y' → statement_writes_step y ≡ statement_writes_step y'
writes_over _ _ (over_assign k t t' x x' m) = m.target.ranges
writes_over _ _ (over_later k n n' t t' x x' m) = m.target.ranges
writes_over _ _ (over_block xs xs' h) = ap joined h
writes_over _ _ (over_delay k n n' x x' h) = h
writes_over _ _ (over_event k ts ts' x x' h) = h
writes_over _ _ (over_if k e e' x x' z z' h m r) = beside x.value x'.value z.value z'.value m r
writes_over _ _ (over_case k kind e e' xs xs' h m) = inner_same xs.items xs'.items m
writes_over _ _ (over_while k e e' x x' h m) = m
writes_over _ _ (over_repeat k signed e e' x x' h m) = m
writes_over _ _ (over_forever k x x' h) = h
writes_over _ _ _ = refl

controls_over : (y y' : Statement-F (List ℕ)) → AlikeOver y y' → controls_step y ≡ controls_step y'
controls_over _ _ (over_block xs xs' h) = ap joined h
controls_over _ _ (over_delay k n n' x x' h) = ap (λ ns. k ∷ ns) h
controls_over _ _ (over_event k ts ts' x x' h) = h
controls_over _ _ (over_if k e e' x x' z z' h m r) = beside x.value x'.value z.value z'.value m r
controls_over _ _ (over_case k kind e e' xs xs' h m) = inner_same xs.items xs'.items m
controls_over _ _ (over_while k e e' x x' h m) = m
controls_over _ _ (over_repeat k signed e e' x x' h m) = m
controls_over _ _ (over_forever k x x' h) = h
controls_over _ _ _ = refl

control_over : (y y' : Statement-F Bool) → AlikeOver y y' → has_control_step y ≡ has_control_step y'
control_over _ _ (over_block xs xs' h) = ap (list_any (λ b. b)) h
control_over _ _ (over_if k e e' x x' z z' h m r) = ap₂ (λ a b. a || b) m r
control_over _ _ (over_case k kind e e' xs xs' h m) = any_same xs.items xs'.items m
control_over _ _ (over_while k e e' x x' h m) = m
control_over _ _ (over_repeat k signed e e' x x' h m) = m
control_over _ _ (over_forever k x x' h) = h
control_over _ _ _ = refl

pub reads_same : (s s' : Statement) → Alike s s' → text_reads s ≡ text_reads s'
reads_same = fold_same (List BitRange) text_reads_step reads_over

pub writes_same : (s s' : Statement) → Alike s s' → statement_writes s ≡ statement_writes s'
writes_same = fold_same (List BitRange) statement_writes_step writes_over

pub controls_same : (s s' : Statement) → Alike s s' → controls_in s ≡ controls_in s'
controls_same = fold_same (List ℕ) controls_step controls_over

pub control_same : (s s' : Statement) → Alike s s' → has_control s ≡ has_control s'
control_same = fold_same Bool has_control_step control_over
