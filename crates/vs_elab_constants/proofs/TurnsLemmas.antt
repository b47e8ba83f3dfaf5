-- Turns of generate loops, one after another.
use Rattle.std.proofs.Common.{◌≡◌, ℕ, ℤ, zero, suc, ◌+◌, ◌-◌, ◌<◌, ◌≤◌, cond, Bool, true, false, true≢false, ◌&&◌, not, max, List, [], ◌∷◌, ◌++◌, Option, Some, None, is_none, length, take, refl, ap, ap₂, sym, ◌∙◌, arith}
use Rattle.std.specs.Str.{bytes_eq}
use Rattle.std.proofs.Math.Path.{fun_ext}
use Rattle.std.proofs.lemmas.List.{append-nil}
use Rattle.vs_design.specs.vs_logic4.specs.declared.digit.Digit.{Digit}
use Rattle.vs_design.specs.vs_logic4.specs.Vectors.{resized}
use Rattle.vs_design.specs.declared.range.BitRange.{BitRange}
use Rattle.vs_syntax.specs.declared.tree.Expr.{Expr}
use Rattle.vs_syntax.specs.declared.tree.LoopHeader.{LoopHeader}
use Rattle.vs_scopes.specs.vs_widths.specs.declared.bindings.Binding.{Binding}
use Rattle.vs_scopes.specs.vs_widths.specs.declared.bindings.Binding.TheVariants.{Constant}
use Rattle.vs_scopes.specs.vs_widths.specs.declared.constants.Const.{Const}
use Rattle.vs_scopes.specs.vs_widths.specs.declared.faults.WidthReason.{WidthReason}
use Rattle.vs_scopes.specs.vs_widths.specs.declared.faults.WidthReason.TheVariants.{NotConstant}
use Rattle.vs_scopes.specs.vs_widths.specs.Environment.{Environment}
use Rattle.vs_scopes.specs.vs_widths.specs.Findings.{Finding, Has, Lacks, has_width_fault, alone, not_constant}
use Rattle.vs_scopes.specs.vs_widths.specs.Meants.{Meant}
use Rattle.vs_scopes.specs.vs_widths.specs.Constants.{where_none, constant_finding, constant_in}
use Rattle.vs_scopes.specs.vs_widths.specs.Selects.{size_found}
use Rattle.vs_widths.specs.Expressions.{meant}
use Rattle.vs_widths.specs.Names.{meaning_of, Binds}
use Rattle.vs_widths.proofs.NameLemmas.{or_else, meaning_of_append}
use Rattle.vs_scopes.specs.declared.faults.Reason.{Reason}
use Rattle.vs_scopes.specs.declared.faults.Reason.TheVariants.{Width, Endless}
use Rattle.vs_scopes.specs.declared.faults.BodyFault.{BodyFault}
use Rattle.vs_scopes.specs.Parameters.{with_constant, any_fault, neither, constant_by, sign_found}
use Rattle.vs_scopes.specs.Ranges.{sized_as, number_fault}
use Rattle.vs_scopes.specs.Generate.{holds, condition_fault, genvar_number, genvar_value, genvar_fault, Turns, turns, faulty, endless, one_more, turn_limit, turns_from, turns_of, wrong_genvar, wrong_name, header_fault}
use Rattle.vs_scopes.specs.scopes_passes.Answers.{Refuses}
use Rattle.vs_scopes.specs.scopes_passes.Sizes.{width_faults}
use Rattle.std.proofs.lemmas.Bool.{or_from as both_false}
use Rattle.vs_scopes.proofs.SizeLemmas.{no_faults}
use Rattle.vs_elab_constants.specs.generate_passes.Turns.{turn_fault, expression_fault, step_fault, next_value, with_turns, is_found, IsGenvarValue}
use Rattle.vs_elab_constants.proofs.FaultLemmas.{none_any, some_any, width_refused}
use Rattle.vs_elab_constants.proofs.ValueLemmas.{cut}
use Rattle.vs_design.specs.vs_logic4.proofs.Basics.{and_false as neither_true, none_left, one_less}

-- ---- headers

header_fine : (env : Environment) (h : LoopHeader) → bytes_eq h.name.items h.next.items ≡ true → ((r : Reason) → width_faults (wrong_genvar (env h.name.items)) r ≡ false) → (r : Reason) → width_faults (header_fault env h) r ≡ false
header_fine env h e k =
    no_faults (header_fault env h) (λ w. both_false (wrong_genvar (env h.name.items) w) _ (k (Width w)) (ap (λ t. not t && wrong_name (env h.next.items) w) e))

-- the names of a header, as they are found
pub header_known : (env : Environment) (h : LoopHeader) (found : Option Binding) (n p q : List ℕ) (t : Bool) → found ≡ env n → n ≡ h.name.items → ((r : Reason) → width_faults (wrong_genvar found) r ≡ false) × Unit {0} →
    t ≡ bytes_eq p q → p ≡ h.name.items → q ≡ h.next.items → t ≡ true → ((r : Reason) → width_faults (header_fault env h) r ≡ false) × Unit {0}
header_known env h found n p q t f e k s a b is =
    (header_fine env h (ap₂ bytes_eq (sym a) (sym b) ∙ sym s ∙ is) (λ r. ap (λ z. width_faults (wrong_genvar z) r) (sym (f ∙ ap env e)) ∙ k.0 r), tt)

-- ---- values of genvars

found_none : (reads : List BitRange) (found : Finding) (size : ℕ) (signed : Bool) → found ≡ Has size signed → ((w : WidthReason) → has_width_fault w (alone (where_none reads) found) ≡ false) →
    is_found (alone (where_none reads) found) ≡ true
found_none [] (Has width sign) size signed h k = refl
found_none (r ∷ rs) (Has width sign) size signed h k = absurd (true≢false (k NotConstant))
found_none rs (Lacks faults) size signed h k = cc

-- an expression without faults whose own size was found is a constant
is_constant : (m : Meant) (size : ℕ) (signed : Bool) → m.finding ≡ Has size signed → ((w : WidthReason) → has_width_fault w (constant_finding m) ≡ false) → is_found (constant_finding m) ≡ true
is_constant m size signed h k = found_none m.reads m.finding size signed h k

-- a value at the larger size, cut to that of a genvar
assigned_is : (m : Meant) (env : Environment) (size w : ℕ) (signed : Bool) (v r : List Digit) → m.finding ≡ Has size signed → w ≡ max 32 size →
    m.at [] 0 w signed ≡ v → length v ≡ w → r ≡ resized false 32 v → constant_in None true r ≡ constant_by (neither (sized_as env true 31 None)) m
assigned_is m env size w signed v r has wide at long given =
    let fits : 32 ≤ length v = omega (arith, wide, long) in
    let K : List Digit → Const = constant_in None true in
    let A : ℕ → Bool → Const = λ n g. K (take 32 (m.at [] 0 n g)) in
    ap K (given ∙ cut 32 v fits) ∙ ap (λ z. K (take 32 z)) (sym at) ∙ ap₂ A (wide ∙ ap (λ z. max 32 (size_found z)) (sym has)) (ap sign_found (sym has))

pub is_assigned : (m : Meant) (env : Environment) (e : Expr) (size w : ℕ) (signed : Bool) (v r : List Digit) → m ≡ meant env e → ((q : WidthReason) → has_width_fault q (constant_finding m) ≡ false) → m.finding ≡ Has size signed →
    w ≡ max 32 size → m.at [] 0 w signed ≡ v → length v ≡ w → r ≡ resized false 32 v → IsGenvarValue env e (constant_in None true r)
is_assigned m env e size w signed v r is k has wide at long given = record {
  found = ap (λ z. is_found (constant_finding z)) (sym is) ∙ is_constant m size signed has k;
  value = assigned_is m env size w signed v r has wide at long given ∙ ap (constant_by (neither (sized_as env true 31 None))) is;
}

number_known : (f : Finding) (o : Option ℤ) (w : WidthReason) → is_found f ≡ true → is_none o ≡ false → number_fault w f o ≡ false
number_known (Has width signed) o w h k = ap (λ t. not_constant w && t) k ∙ neither_true (not_constant w)
number_known (Lacks faults) o w h k = absurd (true≢false (sym h))

number_unknown : (f : Finding) (o : Option ℤ) → is_found f ≡ true → is_none o ≡ true → number_fault NotConstant f o ≡ true
number_unknown (Has width signed) o h k = k
number_unknown (Lacks faults) o h k = absurd (true≢false (sym h))

-- a genvar's value that has no x and no z
pub genvar_fine : (env : Environment) (e : Expr) (c : Const) (o : Option ℤ) (z : ℤ) → IsGenvarValue env e c → o ≡ genvar_number c → o ≡ Some z → (r : Reason) → width_faults (genvar_fault env e) r ≡ false
genvar_fine env e c o z k n is =
    let some : is_none (genvar_number (genvar_value env e)) ≡ false = ap (λ (x : Const). is_none (genvar_number x)) (sym k.value) ∙ ap is_none (sym n ∙ is) in
    no_faults (genvar_fault env e) (λ w. number_known (constant_finding (meant env e)) (genvar_number (genvar_value env e)) w k.found some)

-- one that has some
pub genvar_unknown : (env : Environment) (e : Expr) (c : Const) (o : Option ℤ) → IsGenvarValue env e c → o ≡ genvar_number c → o ≡ None → genvar_fault env e NotConstant ≡ true
genvar_unknown env e c o k n is =
    number_unknown (constant_finding (meant env e)) (genvar_number (genvar_value env e)) k.found (ap (λ (x : Const). is_none (genvar_number x)) (sym k.value) ∙ ap is_none (sym n ∙ is))

-- ---- a turn's own scope

cond_first : {V : Type 0} (t : Bool) (v : V) (there : Option V) → or_else (cond t (Some v) None) there ≡ cond t (Some v) there
cond_first true v there = refl
cond_first false v there = refl

pub level_is : (own outer : List (List ℕ × Binding)) (n : List ℕ) (c : Const) → Binds [] own n (Constant c) → meaning_of (own ++ outer) ≡ with_constant (meaning_of outer) n c
level_is own outer n c h =
    fun_ext (λ k. meaning_of_append own outer k ∙ ap (λ o. or_else o (meaning_of outer k)) (h k) ∙ cond_first (bytes_eq n k) (Constant c) (meaning_of outer k))

-- ---- one turn

condition_stands : (inner : Environment) (h : LoopHeader) (w : WidthReason) → condition_fault inner h.condition w ≡ true → expression_fault inner h w ≡ true
condition_stands inner h w k = rw (some_any (condition_fault inner h.condition) w k) k

step_stands : (inner : Environment) (h : LoopHeader) (w : WidthReason) → ((q : WidthReason) → condition_fault inner h.condition q ≡ false) → holds inner h.condition ≡ true → genvar_fault inner h.step w ≡ true →
    expression_fault inner h w ≡ true
step_stands inner h w k t g = rw (none_any (condition_fault inner h.condition) k, t) g

ends_fine : (inner : Environment) (h : LoopHeader) → ((q : WidthReason) → condition_fault inner h.condition q ≡ false) → holds inner h.condition ≡ false → (r : Reason) → step_fault inner h r ≡ false
ends_fine inner h k t = no_faults (expression_fault inner h) (λ w. rw (none_any (condition_fault inner h.condition) k, t) refl)

goes_fine : (inner : Environment) (h : LoopHeader) → ((q : WidthReason) → condition_fault inner h.condition q ≡ false) → holds inner h.condition ≡ true → ((q : WidthReason) → genvar_fault inner h.step q ≡ false) →
    (r : Reason) → step_fault inner h r ≡ false
goes_fine inner h k t g = no_faults (expression_fault inner h) (λ w. rw (none_any (condition_fault inner h.condition) k, t) (g w))

-- the next value, where the condition holds
pub turn_goes : (env : Environment) (h : LoopHeader) (t : Bool) (next : Const) → ((r : Reason) → width_faults (condition_fault env h.condition) r ≡ false) × (t ≡ holds env h.condition) → t ≡ true →
    ((r : Reason) → width_faults (genvar_fault env h.step) r ≡ false) × (next ≡ genvar_value env h.step) → ((r : Reason) → step_fault env h r ≡ false) × (Some next ≡ next_value env h)
turn_goes env h t next k is g =
    let on : holds env h.condition ≡ true = sym k.1 ∙ is in
    (goes_fine env h (λ w. k.0 (Width w)) on (λ w. g.0 (Width w)), ap Some g.1 ∙ ap (λ z. cond z (Some (genvar_value env h.step)) None) (sym on))

-- no next value, where it doesn't
pub turn_ends : (env : Environment) (h : LoopHeader) (t : Bool) → ((r : Reason) → width_faults (condition_fault env h.condition) r ≡ false) × (t ≡ holds env h.condition) → t ≡ false →
    ((r : Reason) → step_fault env h r ≡ false) × (None ≡ next_value env h)
turn_ends env h t k is =
    let off : holds env h.condition ≡ false = sym k.1 ∙ is in
    (ends_fine env h (λ w. k.0 (Width w)) off, ap (λ z. cond z (Some (genvar_value env h.step)) None) (sym off))

pub condition_refused : (env : Environment) (h : LoopHeader) (e : BodyFault) → Refuses (width_faults (condition_fault env h.condition)) e → Refuses (step_fault env h) e
condition_refused env h e k = width_refused (condition_fault env h.condition) (step_fault env h) e (condition_stands env h) k

pub step_refused : (env : Environment) (h : LoopHeader) (t : Bool) (e : BodyFault) → ((r : Reason) → width_faults (condition_fault env h.condition) r ≡ false) × (t ≡ holds env h.condition) → t ≡ true →
    Refuses (width_faults (genvar_fault env h.step)) e → Refuses (step_fault env h) e
step_refused env h t e k is g = width_refused (genvar_fault env h.step) (step_fault env h) e (λ w s. step_stands env h w (λ q. k.0 (Width q)) (sym k.1 ∙ is) s) g

-- ---- turns behind others

behind_push : (cs : List Const) (c : Const) (t : Turns) → with_turns (cs ++ c ∷ []) t ≡ with_turns cs (one_more c t)
behind_push [] c t = refl
behind_push (x ∷ xs) c t = ap (one_more x) (behind_push xs c t)

behind_turns : (cs ds : List Const) → with_turns cs (turns ds) ≡ turns (cs ++ ds)
behind_turns [] ds = refl
behind_turns (c ∷ cs) ds = ap (one_more c) (behind_turns cs ds)

behind_faulty : (cs : List Const) (f : WidthReason → Bool) → with_turns cs (faulty f) ≡ faulty f
behind_faulty [] f = refl
behind_faulty (c ∷ cs) f = ap (one_more c) (behind_faulty cs f)

behind_endless : (cs : List Const) → with_turns cs endless ≡ endless
behind_endless [] = refl
behind_endless (c ∷ cs) = ap (one_more c) (behind_endless cs)

-- a fault of turns is one of them behind others
after_fault : (cs : List Const) (t : Turns) (r : Reason) → turn_fault t r ≡ true → turn_fault (with_turns cs t) r ≡ true
after_fault cs (turns ds) r h = absurd (true≢false (sym h))
after_fault cs (faulty f) r h = ap (λ t. turn_fault t r) (behind_faulty cs f) ∙ h
after_fault cs endless r h = ap (λ t. turn_fault t r) (behind_endless cs) ∙ h

-- the turns where the condition doesn't hold
turns_end : (n : ℕ) (env : Environment) (h : LoopHeader) (c : Const) → any_fault (condition_fault (with_constant env h.name.items c) h.condition) ≡ false → holds (with_constant env h.name.items c) h.condition ≡ false →
    turns_from n env h c ≡ turns []
unfolding turns_from
turns_end zero env h c k t = rw (k, t) refl
turns_end (suc n) env h c k t = rw (k, t) refl

-- the turns where no more are left, and the condition holds
turns_endless : (env : Environment) (h : LoopHeader) (c : Const) → ((q : WidthReason) → condition_fault (with_constant env h.name.items c) h.condition q ≡ false) → holds (with_constant env h.name.items c) h.condition ≡ true →
    turns_from zero env h c ≡ endless
unfolding turns_from
turns_endless env h c k t = rw (none_any (condition_fault (with_constant env h.name.items c) h.condition) k, t) refl

-- the turns where no more are left, and the condition doesn't hold
turns_last : (env : Environment) (h : LoopHeader) (c : Const) → ((q : WidthReason) → condition_fault (with_constant env h.name.items c) h.condition q ≡ false) → holds (with_constant env h.name.items c) h.condition ≡ false →
    turns_from zero env h c ≡ turns []
turns_last env h c k t = turns_end zero env h c (none_any (condition_fault (with_constant env h.name.items c) h.condition) k) t

stands_in : (x y : Bool) (f g : WidthReason → Bool) (t : Turns) (w : WidthReason) → cond x (f w) (y && g w) ≡ true →
    turn_fault (cond x (faulty f) (cond (not y) (turns []) (cond (any_fault g) (faulty g) t))) (Width w) ≡ true
stands_in true y f g t w h = h
stands_in false true f g t w h = rw (some_any g w h) h
stands_in false false f g t w h = absurd (true≢false (sym h))

-- a fault of a turn is one of the turns from there on
turn_stands : (n : ℕ) (env : Environment) (h : LoopHeader) (c : Const) (w : WidthReason) → expression_fault (with_constant env h.name.items c) h w ≡ true → turn_fault (turns_from (suc n) env h c) (Width w) ≡ true
unfolding turns_from
turn_stands n env h c w k =
    let inner : Environment = with_constant env h.name.items c in
    stands_in (any_fault (condition_fault inner h.condition)) (holds inner h.condition) (condition_fault inner h.condition) (genvar_fault inner h.step) (one_more c (turns_from n env h (genvar_value inner h.step))) w k

turn_refused : (cs : List Const) (n : ℕ) (env : Environment) (h : LoopHeader) (c : Const) (t : Turns) (e : BodyFault) → with_turns cs (turns_from (suc n) env h c) ≡ t → Refuses (step_fault (with_constant env h.name.items c) h) e →
    Refuses (turn_fault t) e
turn_refused cs n env h c t e k =
    width_refused (expression_fault (with_constant env h.name.items c) h) (turn_fault t) e (λ w s. ap (λ z. turn_fault z (Width w)) (sym k) ∙ after_fault cs (turns_from (suc n) env h c) (Width w) (turn_stands n env h c w s))

-- a fault of the condition where no more turns are left
last_stands : (env : Environment) (h : LoopHeader) (c : Const) (w : WidthReason) → condition_fault (with_constant env h.name.items c) h.condition w ≡ true → turn_fault (turns_from zero env h c) (Width w) ≡ true
unfolding turns_from
last_stands env h c w k = rw (some_any (condition_fault (with_constant env h.name.items c) h.condition) w k) k

last_refused : (cs : List Const) (env : Environment) (h : LoopHeader) (c : Const) (t : Turns) (e : BodyFault) → with_turns cs (turns_from zero env h c) ≡ t → Refuses (width_faults (condition_fault (with_constant env h.name.items c) h.condition)) e →
    Refuses (turn_fault t) e
last_refused cs env h c t e k =
    width_refused (condition_fault (with_constant env h.name.items c) h.condition) (turn_fault t) e (λ w s. ap (λ z. turn_fault z (Width w)) (sym k) ∙ after_fault cs (turns_from zero env h c) (Width w) (last_stands env h c w s))

goes_in : (x y z : Bool) (f g : WidthReason → Bool) (t : Turns) → x ≡ false → y ≡ true → z ≡ false → cond x (faulty f) (cond (not y) (turns []) (cond z (faulty g) t)) ≡ t
goes_in x y z f g t h k l = rw (h, k, l) refl

no_first : (f g : WidthReason → Bool) (x : Bool) → x ≡ any_fault f → ((w : WidthReason) → cond x (f w) (g w) ≡ false) → x ≡ false
no_first f g true e h = absurd (true≢false (e ∙ none_any f h))
no_first f g false e h = refl

some_if : {A : Type 0} (t : Bool) (v next : A) → Some next ≡ cond t (Some v) None → (t ≡ true) × (next ≡ v)
some_if true v next h = (refl, cc)
some_if false v next h = cc

none_if : {A : Type 0} (t : Bool) (v : A) → None ≡ cond t (Some v) None → t ≡ false
none_if true v h = cc
none_if false v h = refl

-- the turns where the condition holds
turns_more : (n : ℕ) (env : Environment) (h : LoopHeader) (c next : Const) → ((r : Reason) → step_fault (with_constant env h.name.items c) h r ≡ false) → Some next ≡ next_value (with_constant env h.name.items c) h →
    turns_from (suc n) env h c ≡ one_more c (turns_from n env h next)
unfolding turns_from
turns_more n env h c next k e =
    let inner : Environment = with_constant env h.name.items c in
    let f : WidthReason → Bool = condition_fault inner h.condition in
    let g : WidthReason → Bool = genvar_fault inner h.step in
    let none : any_fault f ≡ false = no_first f (λ w. holds inner h.condition && g w) (any_fault f) refl (λ w. k (Width w)) in
    let on : (holds inner h.condition ≡ true) × (next ≡ genvar_value inner h.step) = some_if (holds inner h.condition) (genvar_value inner h.step) next e in
    let fine : (w : WidthReason) → g w ≡ false = λ w. rw (none, on.0) at (k (Width w)) in
    goes_in (any_fault f) (holds inner h.condition) (any_fault g) f g (one_more c (turns_from n env h (genvar_value inner h.step))) none on.0 (none_any g fine)
    ∙ ap (λ z. one_more c (turns_from n env h z)) (sym on.1)

turns_over : (n : ℕ) (env : Environment) (h : LoopHeader) (c : Const) → ((r : Reason) → step_fault (with_constant env h.name.items c) h r ≡ false) → None ≡ next_value (with_constant env h.name.items c) h →
    turns_from n env h c ≡ turns []
turns_over n env h c k e =
    let inner : Environment = with_constant env h.name.items c in
    let f : WidthReason → Bool = condition_fault inner h.condition in
    let none : any_fault f ≡ false = no_first f (λ w. holds inner h.condition && genvar_fault inner h.step w) (any_fault f) refl (λ w. k (Width w)) in
    turns_end n env h c none (none_if (holds inner h.condition) (genvar_value inner h.step) e)

-- ---- the turns of a loop, as they are found one after another

-- a turn more
pub more_turns : (limit i : ℕ) (env : Environment) (h : LoopHeader) (c next : Const) (o : Option Const) (done new : List Const) (t : Turns) → i < limit → new ≡ done ++ c ∷ [] →
    ((r : Reason) → step_fault (with_constant env h.name.items c) h r ≡ false) × (o ≡ next_value (with_constant env h.name.items c) h) → o ≡ Some next → with_turns done (turns_from (limit - i) env h c) ≡ t →
    with_turns new (turns_from (limit - (i + 1)) env h next) ≡ t
more_turns limit i env h c next o done new t less pushed k is inv =
    ap (λ ds. with_turns ds (turns_from (limit - (i + 1)) env h next)) pushed ∙ behind_push done c (turns_from (limit - (i + 1)) env h next)
    ∙ ap (with_turns done) (sym (turns_more (limit - (i + 1)) env h c next k.0 (sym is ∙ k.1)))
    ∙ ap (λ n. with_turns done (turns_from n env h c)) (sym (one_less limit i less)) ∙ inv

-- no turn more
pub over_turns : (n : ℕ) (env : Environment) (h : LoopHeader) (c : Const) (o : Option Const) (done : List Const) (t : Turns) →
    ((r : Reason) → step_fault (with_constant env h.name.items c) h r ≡ false) × (o ≡ next_value (with_constant env h.name.items c) h) → o ≡ None → with_turns done (turns_from n env h c) ≡ t → t ≡ turns done
over_turns n env h c o done t k is inv =
    sym inv ∙ ap (with_turns done) (turns_over n env h c k.0 (sym is ∙ k.1)) ∙ behind_turns done [] ∙ ap turns (append-nil done)

-- a fault of a turn
pub fault_of_turn : (limit i : ℕ) (env : Environment) (h : LoopHeader) (c : Const) (done : List Const) (t : Turns) (e : BodyFault) → i < limit → with_turns done (turns_from (limit - i) env h c) ≡ t →
    Refuses (step_fault (with_constant env h.name.items c) h) e → Refuses (turn_fault t) e
fault_of_turn limit i env h c done t e less inv k =
    turn_refused done (limit - (i + 1)) env h c t e (ap (λ n. with_turns done (turns_from n env h c)) (sym (one_less limit i less)) ∙ inv) k

-- a fault of the condition behind the last turn that there may be
pub fault_of_last : (limit i : ℕ) (env : Environment) (h : LoopHeader) (c : Const) (done : List Const) (t : Turns) (e : BodyFault) → limit ≤ i → with_turns done (turns_from (limit - i) env h c) ≡ t →
    Refuses (width_faults (condition_fault (with_constant env h.name.items c) h.condition)) e → Refuses (turn_fault t) e
fault_of_last limit i env h c done t e most inv k = last_refused done env h c t e (ap (λ n. with_turns done (turns_from n env h c)) (sym (none_left limit i most)) ∙ inv) k

-- the condition holds behind the last turn that there may be
pub endless_turns : (limit i : ℕ) (env : Environment) (h : LoopHeader) (c : Const) (done : List Const) (t : Turns) → limit ≤ i → with_turns done (turns_from (limit - i) env h c) ≡ t →
    ((r : Reason) → width_faults (condition_fault (with_constant env h.name.items c) h.condition) r ≡ false) → holds (with_constant env h.name.items c) h.condition ≡ true → turn_fault t Endless ≡ true
endless_turns limit i env h c done t most inv k on =
    ap (λ z. turn_fault z Endless) (sym inv ∙ ap (λ n. with_turns done (turns_from n env h c)) (none_left limit i most) ∙ ap (with_turns done) (turns_endless env h c (λ w. k (Width w)) on) ∙ behind_endless done)

-- the condition doesn't hold behind the last turn that there may be
pub all_turns : (limit i : ℕ) (env : Environment) (h : LoopHeader) (c : Const) (done : List Const) (t : Turns) → limit ≤ i → with_turns done (turns_from (limit - i) env h c) ≡ t →
    ((r : Reason) → width_faults (condition_fault (with_constant env h.name.items c) h.condition) r ≡ false) → holds (with_constant env h.name.items c) h.condition ≡ false → t ≡ turns done
all_turns limit i env h c done t most inv k off =
    sym inv ∙ ap (λ n. with_turns done (turns_from n env h c)) (none_left limit i most) ∙ ap (with_turns done) (turns_last env h c (λ w. k (Width w)) off) ∙ behind_turns done [] ∙ ap turns (append-nil done)

-- turns that are known have no fault
pub no_fault : (t : Turns) (cs : List Const) → t ≡ turns cs → (r : Reason) → turn_fault t r ≡ false
no_fault t cs h r = ap (λ z. turn_fault z r) h

-- ---- the turns of a loop

first_next : (f g : WidthReason → Bool) (t : Turns) (w : WidthReason) → any_fault f ≡ false → g w ≡ true → turn_fault (cond (any_fault f) (faulty f) (cond (any_fault g) (faulty g) t)) (Width w) ≡ true
first_next f g t w n k = rw (n, some_any g w k) k

neither_first : (f g : WidthReason → Bool) (t : Turns) → any_fault f ≡ false → any_fault g ≡ false → cond (any_fault f) (faulty f) (cond (any_fault g) (faulty g) t) ≡ t
neither_first f g t n k = rw (n, k) refl

-- a fault of the first value
pub first_refused : (env : Environment) (h : LoopHeader) (e : BodyFault) → ((r : Reason) → width_faults (header_fault env h) r ≡ false) → Refuses (width_faults (genvar_fault env h.first)) e → Refuses (turn_fault (turns_of env h)) e
first_refused env h e n k =
    width_refused (genvar_fault env h.first) (turn_fault (turns_of env h)) e
    (λ w s. first_next (header_fault env h) (genvar_fault env h.first) (turns_from turn_limit env h (genvar_value env h.first)) w (none_any (header_fault env h) (λ q. n (Width q))) s) k

-- the turns from the first value on
pub turns_of_first : (env : Environment) (h : LoopHeader) (c : Const) → ((r : Reason) → width_faults (header_fault env h) r ≡ false) → ((r : Reason) → width_faults (genvar_fault env h.first) r ≡ false) × (c ≡ genvar_value env h.first) →
    turns_from turn_limit env h c ≡ turns_of env h
turns_of_first env h c n k =
    ap (turns_from turn_limit env h) k.1
    ∙ sym (neither_first (header_fault env h) (genvar_fault env h.first) (turns_from turn_limit env h (genvar_value env h.first)) (none_any (header_fault env h) (λ q. n (Width q))) (none_any (genvar_fault env h.first) (λ q. k.0 (Width q))))
