-- Numbers whose digits begin those of others.
use Rattle.std.proofs.Common.{◌≡◌, ◌⊎◌, inl, inr, ℕ, zero, suc, ◌+◌, ◌*◌, ◌/◌, ◌%◌, ◌<◌, ◌≤◌, ◌^◌, List, [], ◌∷◌, ◌++◌, decimal, map, refl, sym, ap, subst, ◌∙◌, append_assoc, arith}
use Rattle.std.proofs.lemmas.Bool.{cases_lt}
use Rattle.std.proofs.lemmas.Fmt.{decimal-digits_of, decimal_injective}
use Rattle.std.proofs.lemmas.Int.Digits.{digits_of_step}
use Rattle.std.proofs.lemmas.List.{append-nil, map_push}
use Rattle.std.specs.Fmt.{digits}
use Rattle.std.specs.Int.Digits.{digits_of}
use Rattle.vs_vcd_lines.specs.Beginnings.{Begins, Reaches}
use Rattle.vs_vcd_lines.proofs.TextLemmas.{nil_before}

-- ---- digits

zero_digits : decimal 0 ≡ 48 ∷ []
unfolding digits
zero_digits = refl

-- the digits of a number before its last one
abbrev front : ℕ → List ℕ
front n = map (λ d. 48 + d) (digits_of 10 (n / 10))

some_step : (n : ℕ) → 0 < n → n < 2 ^ 64 → decimal n ≡ front n ++ (48 + n % 10) ∷ []
some_step n some small =
    decimal-digits_of n some small ∙ ap (map (λ d. 48 + d)) (digits_of_step 10 n (omega arith) some) ∙ map_push (λ d. 48 + d) (digits_of 10 (n / 10)) (n % 10)

pub decimal_step : (n : ℕ) → 10 ≤ n → n < 2 ^ 64 → decimal n ≡ decimal (n / 10) ++ (48 + n % 10) ∷ []
decimal_step n long small =
    some_step n (omega (arith, long)) small
    ∙ ap (λ l. l ++ (48 + n % 10) ∷ []) (sym (decimal-digits_of (n / 10) (omega (arith, long)) (omega (arith, small))))

-- a number below ten has one digit
pub decimal_short : (n : ℕ) → n < 10 → (d : ℕ) × (decimal n ≡ d ∷ [])
decimal_short zero short = (48, zero_digits)
decimal_short (suc n) short =
    let none : suc n / 10 ≡ 0 = omega (arith, short) in
    (48 + suc n % 10, some_step (suc n) (omega arith) (omega (arith, short)) ∙ ap (λ m. map (λ d. 48 + d) (digits_of 10 m) ++ (48 + suc n % 10) ∷ []) none)

-- ---- beginnings

-- what begins a text with one more at its end begins the text, or is all of it
snoc_begins : (xs : List ℕ) (d : ℕ) (ds rest : List ℕ) → xs ++ d ∷ [] ≡ ds ++ rest → (ds ≡ xs ++ d ∷ []) ⊎ Begins ds xs
snoc_begins xs d [] rest e = inr (xs, refl)
snoc_begins [] d (b ∷ []) rest e = let same : d ≡ b = cc in inl (ap (λ x. x ∷ []) (sym same))
snoc_begins [] d (b ∷ c ∷ ds) rest e = absurd cc
snoc_begins (x ∷ xs) d (b ∷ ds) rest e =
    let same : x ≡ b = cc in
    let tails : xs ++ d ∷ [] ≡ ds ++ rest = cc in
    elim (snoc_begins xs d ds rest tails) [
      | inl all ↦ inl (ap (λ l. b ∷ l) all ∙ ap (λ y. y ∷ (xs ++ d ∷ [])) (sym same))
      | inr h ↦ inr (h.0, ap (λ l. x ∷ l) h.1 ∙ ap (λ y. y ∷ (ds ++ h.0)) same)
    ]

-- what begins the digits of a number is the digits of one that isn't greater
begun_short : (t : ℕ) (ds : List ℕ) → t < 10 → (ds ≡ [] → ⊥) → Begins ds (decimal t) → (m : ℕ) × (m ≤ t) × (ds ≡ decimal m)
begun_short t [] short some h = absurd (some refl)
begun_short t (b ∷ ds) short some h =
    let one = decimal_short t short in
    elim (snoc_begins [] one.0 (b ∷ ds) h.0 (sym one.1 ∙ h.1)) [
      | inl all ↦ (t, omega arith, all ∙ sym one.1)
      | inr k ↦ absurd (let e = k.1 in cc)
    ]

begun_by_fuel : (fuel t : ℕ) (ds : List ℕ) → t ≤ fuel → t < 2 ^ 64 → (ds ≡ [] → ⊥) → Begins ds (decimal t) → (m : ℕ) × (m ≤ t) × (ds ≡ decimal m)
begun_by_fuel zero t ds most small some h = begun_short t ds (omega (arith, most)) some h
begun_by_fuel (suc fuel) t ds most small some h =
    elim (cases_lt t 10) [
      | inl short ↦ begun_short t ds short some h
      | inr long ↦ elim (snoc_begins (decimal (t / 10)) (48 + t % 10) ds h.0 (sym (decimal_step t long small) ∙ h.1)) [
        | inl all ↦ (t, omega arith, all ∙ sym (decimal_step t long small))
        | inr k ↦
            let m = begun_by_fuel fuel (t / 10) ds (omega (arith, most, long)) (omega (arith, small)) some k in
            let less = m.1 in
            (m.0, omega (arith, less), m.2)
      ]
    ]

pub begun_number : (t : ℕ) (ds : List ℕ) → t < 2 ^ 64 → (ds ≡ [] → ⊥) → Begins ds (decimal t) → (m : ℕ) × (m ≤ t) × (ds ≡ decimal m)
begun_number t ds small some h = begun_by_fuel t t ds (omega arith) small some h

-- ---- numbers under a number: it, and ten times one of them with one more digit

pub data IsUnder (a : ℕ) : ℕ → Type 0 where
  same : IsUnder a a
  more : (t : ℕ) → 10 ≤ t → IsUnder a (t / 10) → IsUnder a t

pub under_least : (a t : ℕ) → IsUnder a t → a ≤ t
under_least a _ IsUnder.same = omega arith
under_least a t (IsUnder.more _ long h) = let least = under_least a (t / 10) h in omega (arith, least)

under_begins : (a t : ℕ) → t < 2 ^ 64 → IsUnder a t → Begins (decimal a) (decimal t)
under_begins a _ small IsUnder.same = ([], sym (append-nil (decimal a)))
under_begins a t small (IsUnder.more _ long h) =
    let before = under_begins a (t / 10) (omega (arith, small)) h in (
      before.0 ++ (48 + t % 10) ∷ [],
      decimal_step t long small ∙ ap (λ l. l ++ (48 + t % 10) ∷ []) before.1 ∙ append_assoc (decimal a) before.0 ((48 + t % 10) ∷ []),
    )

snoc_some : (xs : List ℕ) (d : ℕ) → xs ++ d ∷ [] ≡ [] → ⊥
snoc_some [] d e = absurd cc
snoc_some (x ∷ xs) d e = absurd cc

decimal_some : (n : ℕ) → n < 2 ^ 64 → decimal n ≡ [] → ⊥
decimal_some zero small e = let f = sym zero_digits ∙ e in absurd cc
decimal_some (suc n) small e = snoc_some (front (suc n)) (48 + suc n % 10) (sym (some_step (suc n) (omega arith) small) ∙ e)

under_short : (a t : ℕ) → t < 10 → a < 2 ^ 64 → Begins (decimal a) (decimal t) → IsUnder a t
under_short a t short fits h =
    let one = decimal_short t short in
    elim (snoc_begins [] one.0 (decimal a) h.0 (sym one.1 ∙ h.1)) [
      | inl all ↦ subst (IsUnder a) (decimal_injective a t fits (omega (arith, short)) (all ∙ sym one.1)) IsUnder.same
      | inr k ↦ absurd (decimal_some a fits (nil_before (decimal a) k.0 (sym k.1)))
    ]

under_fuel : (fuel a t : ℕ) → t ≤ fuel → t < 2 ^ 64 → a < 2 ^ 64 → Begins (decimal a) (decimal t) → IsUnder a t
under_fuel zero a t most small fits h = under_short a t (omega (arith, most)) fits h
under_fuel (suc fuel) a t most small fits h =
    elim (cases_lt t 10) [
      | inl short ↦ under_short a t short fits h
      | inr long ↦ elim (snoc_begins (decimal (t / 10)) (48 + t % 10) (decimal a) h.0 (sym (decimal_step t long small) ∙ h.1)) [
        | inl all ↦ subst (IsUnder a) (decimal_injective a t fits small (all ∙ sym (decimal_step t long small))) IsUnder.same
        | inr k ↦ IsUnder.more t long (under_fuel fuel a (t / 10) (omega (arith, most, long)) (omega (arith, small)) fits k)
      ]
    ]

-- ---- the least and the greatest number under a number, with as many digits

-- all numbers from one to another are under a number, and all others under it are less, or have more digits
pub record IsSpan (a low high : ℕ) : Type 0 where
  pub some : 0 < low
  pub least : low ≤ high
  pub under : (t : ℕ) → low ≤ t → t ≤ high → IsUnder a t
  pub all : (t : ℕ) → t < 2 ^ 64 → IsUnder a t → (t ≤ high) ⊎ (10 * low ≤ t)

span_all : (a t : ℕ) → IsUnder a t → (t ≤ a) ⊎ (10 * a ≤ t)
span_all a _ IsUnder.same = inl (omega arith)
span_all a t (IsUnder.more _ long h) = let least = under_least a (t / 10) h in inr (omega (arith, least))

pub first_span : (a : ℕ) → 0 < a → IsSpan a a a
first_span a some = record {
  some = some;
  least = omega arith;
  under = λ t least most. let is : a ≡ t = omega (arith, least, most) in subst (IsUnder a) is IsUnder.same;
  all = λ t small h. span_all a t h;
}

span_more : (a low high new t : ℕ) → IsSpan a low high → high ≤ new → ((s : ℕ) → s < 2 ^ 64 → s ≤ 10 * high + 9 → s ≤ new) → t < 2 ^ 64 → IsUnder a t
    → (t ≤ new) ⊎ (10 * (10 * low) ≤ t)
span_more a low high new _ h grows most small IsUnder.same =
    elim (h.all a small IsUnder.same) [
      | inl below ↦ inl (omega (arith, below, grows))
      | inr above ↦
          let within = under_least a low (h.under low (omega arith) h.least) in
          let some = h.some in absurd (omega (arith, above, within, some))
    ]
span_more a low high new t h grows most small (IsUnder.more _ long k) =
    elim (h.all (t / 10) (omega (arith, small)) k) [
      | inl below ↦ inl (most t small (omega (arith, below)))
      | inr above ↦ inr (omega (arith, above))
    ]

pub next_span : (a low high next new : ℕ) → next ≡ 10 * low → IsSpan a low high → high ≤ new → next ≤ new → new ≤ 10 * high + 9
    → ((s : ℕ) → s < 2 ^ 64 → s ≤ 10 * high + 9 → s ≤ new) → IsSpan a next new
next_span a low high next new is h grows fits bound most = record {
  some = let some = h.some in omega (arith, is, some);
  least = fits;
  under = λ t least below.
      let some = h.some in
      IsUnder.more t (omega (arith, is, least, some)) (h.under (t / 10) (omega (arith, is, least)) (omega (arith, below, bound)));
  all = λ t small k. elim (span_more a low high new t h grows most small k) [ inl below ↦ inl below | inr above ↦ inr (omega (arith, is, above)) ];
}

-- the greatest one tells
pub reach_told : (a low high last : ℕ) → IsSpan a low high → a < 2 ^ 64 → high < 2 ^ 64 → 2 ^ 64 ≤ 10 * low → ((last < high) → Reaches a last) × (Reaches a last → last < high)
reach_told a low high last h fits small deep = (
  λ above. (high, above, small, under_begins a high small (h.under high h.least (omega arith))),
  λ r.
      let under = under_fuel r.0 a r.0 (omega arith) r.2 fits r.3 in
      let above = r.1 in
      let most = r.2 in
      elim (h.all r.0 r.2 under) [
        | inl below ↦ omega (arith, below, above)
        | inr beyond ↦ absurd (omega (arith, beyond, deep, most))
      ],
)

zero_alone : (last t : ℕ) → last < t → IsUnder 0 t → ⊥
zero_alone last _ above IsUnder.same = omega (arith, above)
zero_alone last t above (IsUnder.more _ long h) = zero_alone 0 (t / 10) (omega (arith, long)) h

pub no_zero_reach : (last : ℕ) → Reaches 0 last → ⊥
no_zero_reach last r = zero_alone last r.0 r.1 (under_fuel r.0 0 r.0 (omega arith) r.2 (omega arith) r.3)

-- the digit 0 begins no other number
pub zero_begins : (n : ℕ) → suc n < 2 ^ 64 → Begins (decimal 0) (decimal (suc n)) → ⊥
zero_begins n small b =
    zero_alone 0 (suc n) (omega arith) (under_fuel (suc n) 0 (suc n) (omega arith) small (omega arith) b)
