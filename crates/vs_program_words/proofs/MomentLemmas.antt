-- Lemmas on moments.
use Rattle.std.proofs.Common.{◌≡◌, ◌∙◌, ◌++◌, ◌<◌, ◌^◌, ℕ, List, Option, Some, None, ap, subst, sym}
use Rattle.std.specs.Prelude.{MatchOption}
use Rattle.std.proofs.lemmas.List.{append_cancel_right}
use Rattle.vs_design.specs.declared.timescale.TimeUnit.{TimeUnit}
use Rattle.vs_design.specs.declared.timescale.TimeUnit.TheVariants.{Second, Millisecond, Microsecond, Nanosecond, Picosecond, Femtosecond}
use Rattle.vs_program_words.specs.Moments.{IsMoment, IsNoMoment, IsNumber, letters_of}

-- a text is no moment of this unit, but for a number that is too large
abbrev pub IsNoneIn : List ℕ → Option TimeUnit → Type 0
IsNoneIn text unit = (n : ℕ) → n < 2 ^ 62 → IsMoment text n unit → ⊥

-- what stands in front of the letters is no number
pub no_count : (text letters front : List ℕ) (unit : TimeUnit) → letters ≡ letters_of unit → text ≡ front ++ letters
    → ((n : ℕ) → n < 2 ^ 62 → IsNumber (Some front) n → ⊥) → IsNoneIn text (Some unit)
no_count text letters front unit named is none n small h =
    let same : h.0 ≡ front = append_cancel_right h.0 front letters (ap (λ l. h.0 ++ l) named ∙ sym h.1 ∙ is) in
    none n small (subst (λ l. IsNumber (Some l) n) same h.2)

-- the letters don't end it
pub no_letters : (text letters : List ℕ) (unit : TimeUnit) → letters ≡ letters_of unit → ((front : List ℕ) → text ≡ front ++ letters → ⊥) → IsNoneIn text (Some unit)
no_letters text letters unit named none n small h = none h.0 (h.1 ∙ ap (λ l. h.0 ++ l) (sym named))

-- a text is no moment of any unit
pub no_moment : (text : List ℕ) → IsNoneIn text None → IsNoneIn text (Some Femtosecond) → IsNoneIn text (Some Picosecond) → IsNoneIn text (Some Nanosecond)
    → IsNoneIn text (Some Microsecond) → IsNoneIn text (Some Millisecond) → IsNoneIn text (Some Second) → IsNoMoment text
no_moment text ticks fs ps ns us ms s n None small h = ticks n small h
no_moment text ticks fs ps ns us ms s n (Some Femtosecond) small h = fs n small h
no_moment text ticks fs ps ns us ms s n (Some Picosecond) small h = ps n small h
no_moment text ticks fs ps ns us ms s n (Some Nanosecond) small h = ns n small h
no_moment text ticks fs ps ns us ms s n (Some Microsecond) small h = us n small h
no_moment text ticks fs ps ns us ms s n (Some Millisecond) small h = ms n small h
no_moment text ticks fs ps ns us ms s n (Some Second) small h = s n small h

-- nor of the last one, where that is asked of what was read
pub last_unit : {A : Type 0} (text : List ℕ) → IsNoneIn text None → IsNoneIn text (Some Femtosecond) → IsNoneIn text (Some Picosecond) → IsNoneIn text (Some Nanosecond)
    → IsNoneIn text (Some Microsecond) → IsNoneIn text (Some Millisecond) → (r : Option A) (P : A → Type 0) → MatchOption r (IsNoneIn text (Some Second)) P
    → MatchOption r (IsNoMoment text) P
last_unit text ticks fs ps ns us ms None P s = no_moment text ticks fs ps ns us ms s
last_unit text ticks fs ps ns us ms (Some x) P h = h
