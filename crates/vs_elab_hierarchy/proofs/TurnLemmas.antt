-- The turns of a generate loop.
use Rattle.vs_scopes.specs.Printed.{same_turn}
use Rattle.std.proofs.Common.{◌≡◌, ℕ, zero, suc, ◌^◌, ◌<◌, ◌≤◌, max, ℤ, pos, negsuc, ◌-ℤ◌, Bool, true, false, ◌||◌, not, cond, is_none, List, [], ◌∷◌, Option, Some, None, length, take, map, refl, ap, ap₂, sym, subst, ◌∙◌, true≢false, is_some, arith}
use Rattle.std.specs.List.{AllByRecursion, IsDistinct}
use Rattle.std.specs.Int.Signed.{mag}
use Rattle.std.proofs.lemmas.Bool.{false_from_ne_true}
use Rattle.std.proofs.lemmas.Bool.Decides.{Decides-int_eq}
use Rattle.std.proofs.lemmas.Int.{ints}
use Rattle.std.proofs.lemmas.Option.{none-some, same_Some}
use Rattle.std.proofs.lemmas.List.{length-take}
use Rattle.std.proofs.lemmas.List.Elements.{All-from_recursion}
use Rattle.vs_design.specs.vs_logic4.specs.declared.digit.Digit.{Digit}
use Rattle.vs_design.specs.vs_logic4.specs.declared.digit.Digit.TheVariants.{One}
use Rattle.vs_design.specs.vs_logic4.specs.Vectors.{same_digit, top_digit}
use Rattle.vs_design.specs.vs_logic4.specs.Comparisons.{is_known}
use Rattle.vs_design.specs.vs_logic4.specs.Arithmetic.{number, signed_number, of_integer, known_signed_number}
use Rattle.vs_design.specs.vs_logic4.proofs.Numbers.{number-lt}
use Rattle.vs_design.specs.vs_logic4.proofs.Properties.{of_integer-integer}
use Rattle.vs_syntax.specs.declared.tree.Expr.{Expr}
use Rattle.vs_syntax.specs.declared.tree.LoopHeader.{LoopHeader}
use Rattle.vs_scopes.specs.vs_widths.specs.declared.constants.Const.{Const}
use Rattle.vs_scopes.specs.vs_widths.specs.declared.faults.WidthReason.{WidthReason}
use Rattle.vs_scopes.specs.vs_widths.specs.declared.faults.WidthReason.TheVariants.{NotConstant}
use Rattle.vs_scopes.specs.vs_widths.specs.Environment.{Environment}
use Rattle.vs_scopes.specs.vs_widths.specs.Findings.{Finding, Has, Lacks}
use Rattle.vs_scopes.specs.vs_widths.specs.Meants.{Meant}
use Rattle.vs_scopes.specs.vs_widths.specs.Selects.{size_found}
use Rattle.vs_scopes.specs.vs_widths.specs.Constants.{where_none, constant_finding, plain_range, constant_in}
use Rattle.vs_widths.specs.Expressions.{meant}
use Rattle.vs_scopes.specs.Ranges.{number_fault}
use Rattle.vs_scopes.specs.Parameters.{sign_found, with_constant, any_fault}
use Rattle.vs_scopes.specs.Generate.{holds, condition_fault, genvar_value, genvar_number, genvar_fault, Turns, turns, faulty, endless, one_more, turns_from, header_fault, turn_limit}
use Rattle.vs_elab_constants.proofs.FindingLemmas.{no_any}
use Rattle.vs_elab_hierarchy.specs.Laws.{FitsTurn, IsTurn, TurnsDiffer}
use Rattle.vs_elab_hierarchy.proofs.ValueLemmas.{IsSound, IsFound, found_alone, sound_constant, meant_full}

-- ---- values of genvars

-- a value of 32 digits with a number
pub record IsNumber (c : Const) : Type 0 where
  pub is : ℤ
  pub signed : c.signed ≡ true
  pub bits : c.bits ≡ plain_range (length c.value)
  pub long : length c.value ≡ 32
  pub number : genvar_number c ≡ Some is

some_number : (o : Option ℤ) → is_none o ≡ false → (v : ℤ) × (o ≡ Some v)
some_number None h = absurd (true≢false h)
some_number (Some v) h = (v, refl)

-- the digits of a genvar's value
abbrev digits_at : Meant → List Digit
digits_at m = m.at [] 0 (max 32 (size_found m.finding)) (sign_found m.finding)

cut_long : (ds : List Digit) (n : ℕ) → length ds ≡ max 32 n → length (take 32 ds) ≡ 32
cut_long ds n h = omega (arith, length-take 32 ds, h)

value_is : (env : Environment) (e : Expr) → any_fault (genvar_fault env e) ≡ false → IsNumber (genvar_value env e)
value_is env e h = by (constant_finding m) refl (sound_constant m (meant_full env e).sound) (no_any (genvar_fault env e) h)
  where
    m : Meant
    m = meant env e

    by : (found : Finding) → constant_finding (meant env e) ≡ found → IsSound found → ((w : WidthReason) → number_fault w (constant_finding (meant env e)) (genvar_number (genvar_value env e)) ≡ false) → IsNumber (genvar_value env e)
    by (Lacks faults) same sound none =
        absurd (true≢false (sym sound.1 ∙ ap (λ f. number_fault sound.0 f (genvar_number (genvar_value env e))) (sym same) ∙ none sound.0))
    by (Has width signed) same sound none =
        let found : IsFound (meant env e).finding = found_alone (where_none (meant env e).reads) (meant env e).finding (subst IsFound (sym same) tt) in
        let some = some_number (genvar_number (genvar_value env e)) (ap (λ f. number_fault NotConstant f (genvar_number (genvar_value env e))) (sym same) ∙ none NotConstant) in
        record {
          is = some.0;
          signed = refl;
          bits = refl;
          long = cut_long (digits_at (meant env e)) (size_found (meant env e).finding) ((meant_full env e).long found [] 0 (max 32 (size_found (meant env e).finding)) (sign_found (meant env e).finding));
          number = some.1;
        }

-- digits of a known number
known_digits : (ds : List Digit) (v : ℤ) → known_signed_number ds ≡ Some v → (is_known ds ≡ true) × (signed_number ds ≡ v)
known_digits ds v h = by (is_known ds) refl h
  where
    by : (a : Bool) → is_known ds ≡ a → cond a (Some (signed_number ds)) None ≡ Some v → (is_known ds ≡ true) × (signed_number ds ≡ v)
    by true k e = (k, same_Some (signed_number ds) v e)
    by false k e = absurd (none-some v e)

-- the value of 32 digits of a number
abbrev value_of_number : ℤ → Const
value_of_number v = constant_in None true (of_integer 32 v)

value_of_turn : (c : Const) (n : IsNumber c) → c ≡ value_of_number n.is
value_of_turn c n =
    let known = known_digits c.value n.is n.number in
    let digits : c.value ≡ of_integer 32 n.is = sym (of_integer-integer true c.value known.0) ∙ ap₂ of_integer n.long known.1 in
    ap (λ b. record { value = c.value; signed = c.signed; bits = b }) n.bits ∙ ap₂ (λ v s. constant_in None s v) digits n.signed

-- values of one number are the same
same_values : (c d : Const) → IsNumber c → IsNumber d → genvar_number c ≡ genvar_number d → c ≡ d
same_values c d n m e =
    let same : n.is ≡ m.is = same_Some n.is m.is (sym n.number ∙ e ∙ m.number) in
    value_of_turn c n ∙ ap value_of_number same ∙ sym (value_of_turn d m)

difference_by : (z : ℤ) (a b : ℕ) → z ≡ pos a -ℤ pos b → a < 2 ^ 32 → b ≡ 2 ^ 32 → mag z < 2 ^ 63
difference_by (pos n) a b e h k = omega (arith, ints, e, h, k)
difference_by (negsuc n) a b e h k = omega (arith, ints, e, h, k)

difference_small : (a b : ℕ) → a < 2 ^ 32 → b ≡ 2 ^ 32 → mag (pos a -ℤ pos b) < 2 ^ 63
difference_small a b h k = difference_by (pos a -ℤ pos b) a b refl h k

signed_small : (ds : List Digit) → length ds ≡ 32 → mag (signed_number ds) < 2 ^ 63
signed_small ds h = by (same_digit (top_digit ds) One)
  where
    below : number ds < 2 ^ 32
    below = subst (λ n. number ds < 2 ^ n) h (number-lt ds)

    by : (a : Bool) → mag (cond a (pos (number ds) -ℤ pos (2 ^ length ds)) (pos (number ds))) < 2 ^ 63
    by true = difference_small (number ds) (2 ^ length ds) below (ap (λ n. 2 ^ n) h)
    by false = omega (arith, below)

is_turn : (c : Const) → IsNumber c → IsTurn c
is_turn c n =
    let known = known_digits c.value n.is n.number in
    let small : mag n.is < 2 ^ 63 = subst (λ v. mag v < 2 ^ 63) known.1 (signed_small c.value n.long) in
    (ap is_some n.number, subst FitsTurn (sym n.number) small)

-- ---- turns, one after another

module _ (env : Environment) (h : LoopHeader) where
  abbrev with_genvar : Const → Environment
  with_genvar c = with_constant env h.name.items c

  abbrev goes_on : Const → Bool
  goes_on c = holds (with_genvar c) h.condition

  abbrev next : Const → Const
  next c = genvar_value (with_genvar c) h.step

  -- a loop runs so from a value of its genvar on
  abbrev Runs : Const → List Const → Type 0
  Runs c [] = goes_on c ≡ false
  Runs c (d ∷ ds) = (d ≡ c) × IsNumber c × (goes_on c ≡ true) × Runs (next c) ds

  same_length : (c : Const) (cs ds : List Const) → Runs c cs → Runs c ds → length cs ≡ length ds
  same_length c [] [] r s = refl
  same_length c [] (d ∷ ds) r s = absurd (true≢false (sym s.2 ∙ r))
  same_length c (x ∷ cs) [] r s = absurd (true≢false (sym r.2 ∙ s))
  same_length c (x ∷ cs) (d ∷ ds) r s = ap suc (same_length (next c) cs ds r.3 s.3)

  all_numbers : (c : Const) (cs : List Const) → Runs c cs → AllByRecursion IsNumber cs
  all_numbers c [] r = tt
  all_numbers c (d ∷ ds) r = (subst IsNumber (sym r.0) r.1, all_numbers (next c) ds r.3)

  -- values that are not this one
  others : (c : Const) (cs : List Const) (d : Const) (ds : List Const) → Runs c cs → Runs d ds → length ds < length cs → AllByRecursion (λ x. x ≡ c → ⊥) ds
  others c cs d [] r s less = tt
  others c cs d (x ∷ xs) r s less = (
    (λ e. (let same : Runs c (x ∷ xs) = subst (λ z. Runs z (x ∷ xs)) (sym s.0 ∙ e) s in omega (arith, same_length c cs (x ∷ xs) r same, less))),
    others c cs (next d) xs r s.3 (omega (arith, less)),
  )

  turn_apart : (a b : Option ℤ) → (a ≡ b → ⊥) → same_turn a b ≡ false
  turn_apart None None n = absurd (n refl)
  turn_apart None (Some w) n = refl
  turn_apart (Some v) None n = refl
  turn_apart (Some v) (Some w) n = false_from_ne_true _ (λ e. n (ap Some ((Decides-int_eq v w).0 e)))

  numbers_apart : (c : Const) (cs : List Const) → IsNumber c → AllByRecursion IsNumber cs → AllByRecursion (λ x. x ≡ c → ⊥) cs → AllByRecursion (λ o. same_turn (genvar_number c) o ≡ false) (map genvar_number cs)
  numbers_apart c [] n all apart = tt
  numbers_apart c (d ∷ ds) n all apart =
      (turn_apart (genvar_number c) (genvar_number d) (λ e. apart.0 (sym (same_values c d n all.0 e))), numbers_apart c ds n all.1 apart.1)

  numbers_differ : (c : Const) (cs : List Const) → Runs c cs → IsDistinct same_turn (map genvar_number cs)
  unfolding IsDistinct
  numbers_differ c [] r = tt
  numbers_differ c (d ∷ ds) r =
      let whole : Runs c (c ∷ ds) = (refl, r.1, r.2, r.3) in
      let rest = numbers_apart c ds r.1 (all_numbers (next c) ds r.3) (others c (c ∷ ds) (next c) ds whole r.3 (omega arith)) in
      (subst (λ z. AllByRecursion (λ o. same_turn (genvar_number z) o ≡ false) (map genvar_number ds)) (sym r.0) rest, numbers_differ (next c) ds r.3)

  -- ---- what the definition gives

  abbrev listed_turns : Turns → List Const
  listed_turns (turns cs) = cs
  listed_turns (faulty w) = []
  listed_turns endless = []

  abbrev ends : Turns → Bool
  ends (turns cs) = true
  ends (faulty w) = false
  ends endless = false

  no_turns : (t : Turns) (cs : List Const) → ends t ≡ false → t ≡ turns cs → ⊥
  no_turns t cs k e = true≢false (sym (ap ends e) ∙ k)

  -- a run of so many turns at most
  abbrev RunsIn : ℕ → Const → List Const → Type 0
  RunsIn n c cs = Runs c cs × (length cs ≤ n)

  run_over : (n : ℕ) (c : Const) (cs : List Const) → goes_on c ≡ false → turns [] ≡ turns cs → RunsIn n c cs
  run_over n c cs k e = let same : [] ≡ cs = ap listed_turns e in subst (RunsIn n c) same (k, omega arith)

  runs_last : (c : Const) (cs : List Const) (a b : Bool) (w : WidthReason → Bool) → goes_on c ≡ b → cond a (faulty w) (cond b endless (turns [])) ≡ turns cs → RunsIn 0 c cs
  runs_last c cs true b w k e = absurd (no_turns (faulty w) cs refl e)
  runs_last c cs false true w k e = absurd (no_turns endless cs refl e)
  runs_last c cs false false w k e = run_over 0 c cs k e

  run_more : (n : ℕ) (c : Const) (cs : List Const) → IsNumber c → goes_on c ≡ true → (t : Turns) → ((ds : List Const) → t ≡ turns ds → RunsIn n (next c) ds) → one_more c t ≡ turns cs → RunsIn (suc n) c cs
  run_more n c cs i k (turns ds) rest e =
      let is = rest ds refl in
      subst (RunsIn (suc n) c) (ap listed_turns e) ((refl, i, k, is.0), omega (arith, is.1))
  run_more n c cs i k (faulty w) rest e = absurd (no_turns (faulty w) cs refl e)
  run_more n c cs i k endless rest e = absurd (no_turns endless cs refl e)

  runs_on : (n : ℕ) (c : Const) (cs : List Const) (x y z : Bool) (w w' : WidthReason → Bool) → IsNumber c → goes_on c ≡ y → (t : Turns) → (z ≡ false → (ds : List Const) → t ≡ turns ds → RunsIn n (next c) ds) →
      cond x (faulty w) (cond (not y) (turns []) (cond z (faulty w') (one_more c t))) ≡ turns cs → RunsIn (suc n) c cs
  runs_on n c cs true y z w w' i k t rest e = absurd (no_turns (faulty w) cs refl e)
  runs_on n c cs false false z w w' i k t rest e = run_over (suc n) c cs k e
  runs_on n c cs false true true w w' i k t rest e = absurd (no_turns (faulty w') cs refl e)
  runs_on n c cs false true false w w' i k t rest e = run_more n c cs i k t (rest refl) e

  runs_from : (n : ℕ) (c : Const) (cs : List Const) → IsNumber c → turns_from n env h c ≡ turns cs → RunsIn n c cs
  unfolding turns_from
  runs_from zero c cs i e =
      runs_last c cs (any_fault (condition_fault (with_genvar c) h.condition)) (goes_on c) (condition_fault (with_genvar c) h.condition) refl e
  runs_from (suc n) c cs i e =
      runs_on n c cs (any_fault (condition_fault (with_genvar c) h.condition)) (goes_on c) (any_fault (genvar_fault (with_genvar c) h.step)) (condition_fault (with_genvar c) h.condition) (genvar_fault (with_genvar c) h.step) i refl (turns_from n env h (next c))
      (λ k ds same. runs_from n (next c) ds (value_is (with_genvar c) h.step k) same) e

  -- the turns of a loop that ends
  record HasTurns (cs : List Const) : Type 0 where
    numbers : AllByRecursion IsNumber cs
    differ : IsDistinct same_turn (map genvar_number cs)
    few : length cs ≤ turn_limit

  first_runs : (cs : List Const) (a b : Bool) (w w' : WidthReason → Bool) → (b ≡ false → IsNumber (genvar_value env h.first)) → cond a (faulty w) (cond b (faulty w') (turns_from turn_limit env h (genvar_value env h.first))) ≡ turns cs → HasTurns cs
  first_runs cs true b w w' i e = absurd (no_turns (faulty w) cs refl e)
  first_runs cs false true w w' i e = absurd (no_turns (faulty w') cs refl e)
  first_runs cs false false w w' i e =
      let is = runs_from turn_limit (genvar_value env h.first) cs (i refl) e in
      record { numbers = all_numbers (genvar_value env h.first) cs is.0; differ = numbers_differ (genvar_value env h.first) cs is.0; few = is.1 }

all_turns : (cs : List Const) → AllByRecursion IsNumber cs → AllByRecursion IsTurn cs
all_turns [] h = tt
all_turns (c ∷ cs) h = (is_turn c h.0, all_turns cs h.1)

pub turns_differ : TurnsDiffer
turns_differ env h cs e =
    let is = first_runs env h cs (any_fault (header_fault env h)) (any_fault (genvar_fault env h.first)) (header_fault env h) (genvar_fault env h.first) (value_is env h.first) e in
    (All-from_recursion IsTurn cs (all_turns cs is.numbers), is.differ, is.few)
