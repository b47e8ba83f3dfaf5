-- Beginnings of the lines of times.
use Rattle.std.proofs.Common.{◌≡◌, inl, inr, ℕ, ◌<◌, ◌^◌, Bool, true, false, List, [], ◌∷◌, ◌++◌, decimal, get_or, refl, sym, ap, subst, ◌∙◌, arith}
use Rattle.std.proofs.lemmas.Bool.{false≢true}
use Rattle.std.proofs.lemmas.Option.{slice_get_within}
use Rattle.std.specs.Prelude.{length}
use Rattle.vs_design.specs.vs_logic4.specs.declared.digit.Digit.{Digit}
use Rattle.vs_vcd_lines.specs.vs_vcd_writing.specs.Text.{time_line}
use Rattle.vs_vcd_lines.specs.Beginnings.{Begins, Reaches}
use Rattle.vs_vcd_reader.specs.Bodies.{IsFromTime}
use Rattle.vs_vcd_reader.specs.Steps.{Item, Place, Step, line_of}
use Rattle.vs_vcd_reader.specs.Steps.{Item as i, Place as p, Step as s}
use Rattle.vs_vcd_reader.specs.Stops.{GoesOn}
use Rattle.vs_vcd_lines.proofs.BeginningsNumberLemmas.{begun_number}
use Rattle.vs_vcd_reader.proofs.OnceLemmas.{change_begins}
use Rattle.vs_vcd_lines.proofs.TextLemmas.{Tells}

-- a text begins the line of a time above the last one, which doesn't stand alone
record BeginsTime (last : ℕ) (bare : Bool) (part : List ℕ) : Type 0 where
  pub time : ℕ
  pub some : bare ≡ false
  pub after : last < time
  pub small : time < 2 ^ 64
  pub begins : Begins part (time_line time)

by_step : (ws : List ℕ) (vs : List (List Digit)) (last from : ℕ) (bare : Bool) (part rest : List ℕ) (x : Item) (next : Place) → IsFromTime ws from part → (part ≡ [] → ⊥)
    → Step (p.Later ws vs last from bare) x next → part ++ rest ≡ line_of x → BeginsTime last bare part
by_step ws vs last from _ part rest _ _ away some (s.time _ _ _ _ time after small) is =
    record { time = time; some = refl; after = after; small = small; begins = (rest, sym is) }
by_step ws vs last from bare part rest _ _ (inl full) some (s.change _ _ _ _ _ c least h) is =
    let within = slice_get_within ws c.number (length c.value) h.sized in absurd (omega (arith, full, least, within))
by_step ws vs last from bare part rest _ _ (inr (inl none)) some (s.change _ _ _ _ _ c least h) is = absurd (some none)
by_step ws vs last from bare part rest _ _ (inr (inr timed)) some (s.change _ _ _ _ _ c least h) is =
    absurd (change_begins c 35 (timed.0 ++ rest) (omega arith) (sym is ∙ ap (λ l. l ++ rest) timed.1))

on_by : (ws : List ℕ) (vs : List (List Digit)) (last from : ℕ) (bare : Bool) (part : List ℕ) → IsFromTime ws from part → (part ≡ [] → ⊥)
    → GoesOn (p.Later ws vs last from bare) part → BeginsTime last bare part
on_by ws vs last from bare part away some (inl none) = absurd (some none)
on_by ws vs last from bare part away some (inr h) = by_step ws vs last from bare part h.rest h.follows.item h.follows.next away some h.follows.step h.follows.is

on_with : (ws : List ℕ) (vs : List (List Digit)) (last from : ℕ) (bare : Bool) (part : List ℕ) → BeginsTime last bare part → GoesOn (p.Later ws vs last from bare) part
on_with ws vs last from bare part h =
    let step = s.time ws vs last from h.time h.after h.small in
    inr
    (record {
      rest = h.begins.0;
      follows = record {
        item = i.Time h.time;
        next = p.Later ws vs h.time 0 true;
        step = subst (λ b. Step (p.Later ws vs last from b) (i.Time h.time) (p.Later ws vs h.time 0 true)) (sym h.some) step;
        is = sym h.begins.1;
      };
    })

-- ---- the test

pub empty_on : (ws : List ℕ) (vs : List (List Digit)) (last from : ℕ) (bare : Bool) (part : List ℕ) → part ≡ [] → Tells true (GoesOn (p.Later ws vs last from bare) part)
empty_on ws vs last from bare part none = (λ e. inl none, λ h. refl)

pub bare_on : (ws : List ℕ) (vs : List (List Digit)) (last from : ℕ) (bare : Bool) (part : List ℕ) → IsFromTime ws from part → (part ≡ [] → ⊥) → bare ≡ true
    → Tells false (GoesOn (p.Later ws vs last from bare) part)
bare_on ws vs last from bare part away some alone =
    (λ e. absurd (false≢true e), λ h. absurd (let t = on_by ws vs last from bare part away some h in false≢true (sym t.some ∙ alone)))

pub hash_on : (ws : List ℕ) (vs : List (List Digit)) (last from : ℕ) (bare b : Bool) (part : List ℕ) → IsFromTime ws from part → part ≡ 35 ∷ [] → bare ≡ false
    → Tells b (last < 18446744073709551615) → Tells b (GoesOn (p.Later ws vs last from bare) part)
hash_on ws vs last from bare b part away is more tells = (
  λ e. on_with ws vs last from bare part
      (record {
        time = 18446744073709551615;
        some = more;
        after = tells.0 e;
        small = omega arith;
        begins = (decimal 18446744073709551615, ap (λ l. l ++ decimal 18446744073709551615) (sym is));
      }),
  λ h.
      let t = on_by ws vs last from bare part away (λ none. absurd (let e = sym is ∙ none in cc)) h in
      let after = t.after in
      let small = t.small in
      tells.1 (omega (arith, after, small)),
)

pub digits_on : (ws : List ℕ) (vs : List (List Digit)) (last from time : ℕ) (bare b : Bool) (part : List ℕ) → IsFromTime ws from part → part ≡ time_line time → bare ≡ false
    → Tells b (Reaches time last) → Tells b (GoesOn (p.Later ws vs last from bare) part)
digits_on ws vs last from time bare b part away is more tells = (
  λ e.
      let r = tells.0 e in
      on_with ws vs last from bare part
      (record {
        time = r.0;
        some = more;
        after = r.1;
        small = r.2;
        begins = (r.3.0, ap (λ l. 35 ∷ l) r.3.1 ∙ ap (λ l. l ++ r.3.0) (sym is));
      }),
  λ h.
      let t = on_by ws vs last from bare part away (λ none. absurd (let e = sym is ∙ none in cc)) h in
      let lines : 35 ∷ decimal t.time ≡ 35 ∷ (decimal time ++ t.begins.0) = t.begins.1 ∙ ap (λ l. l ++ t.begins.0) is in
      let texts : decimal t.time ≡ decimal time ++ t.begins.0 = cc in
      tells.1 (t.time, t.after, t.small, (t.begins.0, texts)),
)

no_part : (part rest : List ℕ) (t : ℕ) → (part ≡ [] → ⊥) → (part ≡ 35 ∷ [] → ⊥) → ((m : ℕ) → m < 2 ^ 64 → part ≡ time_line m → ⊥) → t < 2 ^ 64
    → time_line t ≡ part ++ rest → ⊥
no_part [] rest t some more none small e = some refl
no_part (b ∷ ds) rest t some more none small e =
    let first : b ≡ 35 = sym (ap (λ l. get_or l 0 0) e) in
    let texts : decimal t ≡ ds ++ rest = cc in
    let m = begun_number t ds small (λ nil. more (ap (λ x. x ∷ ds) first ∙ ap (λ l. 35 ∷ l) nil)) (rest, texts) in
    let most = m.1 in
    none m.0 (omega (arith, most, small)) (ap (λ x. x ∷ ds) first ∙ ap (λ l. 35 ∷ l) m.2)

pub no_time_on : (ws : List ℕ) (vs : List (List Digit)) (last from : ℕ) (bare : Bool) (part : List ℕ) → IsFromTime ws from part → (part ≡ [] → ⊥) → (part ≡ 35 ∷ [] → ⊥)
    → ((m : ℕ) → m < 2 ^ 64 → part ≡ time_line m → ⊥) → Tells false (GoesOn (p.Later ws vs last from bare) part)
no_time_on ws vs last from bare part away some more none = (
  λ e. absurd (false≢true e),
  λ h. absurd
      (let t = on_by ws vs last from bare part away some h in no_part part t.begins.0 t.time some more none t.small t.begins.1),
)
