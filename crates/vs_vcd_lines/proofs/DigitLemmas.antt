-- Beginnings of the digits of a change.
use Rattle.std.proofs.Common.{◌≡◌, ℕ, ◌+◌, ◌-◌, ◌<◌, ◌≤◌, Bool, true, false, Option, List, [], ◌∷◌, ◌++◌, length, map, reverse, replicate, refl, sym, ap, subst, ◌∙◌, length-append, arith, inl, inr}
use Rattle.std.proofs.lemmas.Bool.{cases_Bool, false≢true}
use Rattle.std.proofs.lemmas.List.{append-nil, length-map, length-replicate, length-reverse, reverse-reverse}
use Rattle.vs_design.specs.vs_logic4.specs.declared.digit.Digit.{Digit}
use Rattle.vs_design.specs.vs_logic4.specs.declared.digit.Digit.TheVariants.{Zero, One, X, Z}
use Rattle.vs_vcd_lines.specs.vs_vcd_writing.specs.Shown.{extended, left_digit}
use Rattle.vs_vcd_lines.specs.vs_vcd_writing.specs.Values.{digit_character, is_extension, shortened}
use Rattle.vs_vcd_lines.specs.Lines.{IsValue}
use Rattle.vs_vcd_lines.proofs.ValueLemmas.{length-shortened-le, shortened-drops, shortened-extended, shortened-keeps, spelled_once, value_short}
use Rattle.vs_vcd_lines.specs.Beginnings.{Begins, BeginsDigits, IsOther}
use Rattle.vs_vcd_lines.proofs.BeginningsValueLemmas.{values_once}
use Rattle.vs_vcd_lines.proofs.TextLemmas.{Tells}

-- ---- digits

-- a value of a size whose digits are written so
record IsWritten (width : ℕ) (ds : List Digit) : Type 0 where
  pub value : List Digit
  pub wide : length value ≡ width
  pub short : shortened (reverse value) ≡ ds

length-extended : (n : ℕ) (ds : List Digit) → 0 < length ds → length ds ≤ n → length (extended n ds) ≡ n
length-extended n [] some most = absurd (omega (arith, some))
length-extended n (d ∷ ds) some most =
    let left = replicate (n - length (d ∷ ds)) (left_digit d) in
    let size = length-append left (d ∷ ds) in
    let fill = length-replicate (n - length (d ∷ ds)) (left_digit d) in
    omega (arith, size, fill, most)

written : (width : ℕ) (ds : List Digit) → 0 < length ds → length ds ≤ width → shortened ds ≡ ds → IsWritten width ds
written width ds some most kept = record {
  value = reverse (extended width ds);
  wide = length-reverse (extended width ds) ∙ length-extended width ds some most;
  short = ap shortened (reverse-reverse (extended width ds)) ∙ shortened-extended width ds ∙ kept;
}

-- no digit is left out where the first two don't extend
keeps_two : (a b : Digit) (cs : List Digit) → shortened (a ∷ b ∷ cs) ≡ a ∷ b ∷ cs → is_extension a b ≡ false
keeps_two a b cs kept =
    elim (cases_Bool (is_extension a b)) [
      | inl gone ↦
          let size = ap length (sym kept ∙ shortened-drops a b cs gone) in
          let less = length-shortened-le b cs in
          absurd (omega (arith, size, less))
      | inr stays ↦ stays
    ]

-- digits go on by one more
one_more : (ds : List Digit) → 0 < length ds → shortened ds ≡ ds → (e : Digit) × (shortened (ds ++ e ∷ []) ≡ ds ++ e ∷ [])
one_more [] some kept = absurd (omega (arith, some))
one_more (Zero ∷ []) some kept = (X, refl)
one_more (One ∷ []) some kept = (Zero, refl)
one_more (X ∷ []) some kept = (Zero, refl)
one_more (Z ∷ []) some kept = (Zero, refl)
one_more (a ∷ b ∷ cs) some kept = (Zero, shortened-keeps a b (cs ++ Zero ∷ []) (keeps_two a b cs kept))

-- the first ones are written without what extending gives back too
prefix_kept : (ps qs : List Digit) → 0 < length ps → shortened (ps ++ qs) ≡ ps ++ qs → shortened ps ≡ ps
prefix_kept [] qs some kept = refl
prefix_kept (p ∷ []) qs some kept = refl
prefix_kept (a ∷ b ∷ cs) qs some kept = shortened-keeps a b cs (keeps_two a b (cs ++ qs) kept)

-- a beginning of characters of digits is of the first of them
record IsSplit (text : List ℕ) (ds : List Digit) : Type 0 where
  pub first : List Digit
  pub rest : List Digit
  pub are : ds ≡ first ++ rest
  pub is : text ≡ map digit_character first

split_at : (text rest : List ℕ) (ds : List Digit) → map digit_character ds ≡ text ++ rest → IsSplit text ds
split_at [] rest ds e = record { first = []; rest = ds; are = refl; is = refl }
split_at (t ∷ ts) rest [] e = absurd cc
split_at (t ∷ ts) rest (d ∷ ds) e =
    let same : digit_character d ≡ t = cc in
    let tails : map digit_character ds ≡ ts ++ rest = cc in
    let h = split_at ts rest ds tails in
    record {
      first = d ∷ h.first;
      rest = h.rest;
      are = ap (λ l. d ∷ l) h.are;
      is = ap (λ x. x ∷ ts) (sym same) ∙ ap (λ l. digit_character d ∷ l) h.is;
    }

nonempty_split : (text : List ℕ) (ds : List Digit) → (text ≡ [] → ⊥) → text ≡ map digit_character ds → 0 < length ds
nonempty_split text [] some is = absurd (some is)
nonempty_split text (d ∷ ds) some is = omega arith

-- what is written without those is so again
shortened_again : (ds : List Digit) → shortened (shortened ds) ≡ shortened ds
shortened_again [] = refl
shortened_again (d ∷ []) = refl
shortened_again (d ∷ e ∷ ds) =
    elim (cases_Bool (is_extension d e)) [
      | inl gone ↦ ap shortened (shortened-drops d e ds gone) ∙ shortened_again (e ∷ ds) ∙ sym (shortened-drops d e ds gone)
      | inr kept ↦ ap shortened (shortened-keeps d e ds kept)
    ]

characters_snoc : (ds : List Digit) (e : Digit) → map digit_character (ds ++ e ∷ []) ≡ map digit_character ds ++ digit_character e ∷ []
characters_snoc [] e = refl
characters_snoc (d ∷ ds) e = ap (λ l. digit_character d ∷ l) (characters_snoc ds e)

longer_than : (text rest : List ℕ) (width : ℕ) → length text + length rest ≤ width → (rest ≡ [] → ⊥) → length text < width
longer_than text [] width most some = absurd (some refl)
longer_than text (b ∷ bs) width most some = omega (arith, most)

-- ---- values

-- the digits are those of a value other than the old one
pub other_digits : (text : List ℕ) (width : ℕ) (old : Option (List Digit)) (value : List Digit) → IsValue text width value → IsOther old value
    → Tells true (BeginsDigits width old text)
other_digits text width old value h other = (
  λ e. record { value = value; wide = h.wide; other = other; begins = ([], sym h.is ∙ sym (append-nil text)) },
  λ g. refl,
)

-- another value is written with one more digit
longer : (text : List ℕ) (width : ℕ) (value : List Digit) → 0 < width → (text ≡ [] → ⊥) → IsValue text width value → length text < width
    → (v : List Digit) × (length v ≡ width) × (v ≡ value → ⊥) × Begins text (map digit_character (shortened (reverse v)))
longer text width value some begun h less =
    let ds = shortened (reverse value) in
    let size = ap length h.is ∙ length-map ds digit_character in
    let least = nonempty_split text ds begun h.is in
    let kept : shortened ds ≡ ds = shortened_again (reverse value) in
    let more = one_more ds least kept in
    let long = length-append ds (more.0 ∷ []) in
    let w = written width (ds ++ more.0 ∷ []) (omega (arith, long)) (omega (arith, long, size, less)) more.1 in (
      w.value,
      w.wide,
      λ same. absurd (let e = ap length (sym w.short ∙ ap (λ l. shortened (reverse l)) same) in omega (arith, e, long)),
      (
        digit_character more.0 ∷ [],
        ap (map digit_character) w.short ∙ characters_snoc ds more.0 ∙ ap (λ l. l ++ digit_character more.0 ∷ []) (sym h.is),
      ),
    )

-- the digits are those of the old value
pub old_digits : (text : List ℕ) (width : ℕ) (old : Option (List Digit)) (value : List Digit) (b : Bool) → 0 < width → (text ≡ [] → ⊥) → IsValue text width value
    → (IsOther old value → ⊥) → Tells b (length text < width) → Tells b (BeginsDigits width old text)
old_digits text width old value b some begun h same tells = (
  λ e.
      let v = longer text width value some begun h (tells.0 e) in
      record {
        value = v.0;
        wide = v.1;
        other = λ o is equal. same (λ p at k. v.2 (let olds : o ≡ p = cc in equal ∙ olds ∙ sym k));
        begins = v.3;
      },
  λ g.
      let rest = g.begins.0 in
      let whole = g.begins.1 in
      let short = value_short (map digit_character (shortened (reverse g.value))) width g.value some (record { wide = g.wide; is = refl }) in
      let sizes = ap length whole ∙ length-append text rest in
      tells.1 (longer_than text rest width (omega (arith, sizes, short)) (λ none.
      let texts : map digit_character (shortened (reverse value)) ≡ map digit_character (shortened (reverse g.value)) =
      sym h.is ∙ sym (append-nil text) ∙ ap (λ l. text ++ l) (sym none) ∙ sym whole in
      let one : value ≡ g.value =
      values_once value g.value (spelled_once (shortened (reverse value)) (shortened (reverse g.value)) texts) (h.wide ∙ sym g.wide) in
      same (subst (IsOther old) (sym one) g.other))),
)

-- the digits are those of no value
pub no_digits : (text : List ℕ) (width : ℕ) (old : Option (List Digit)) → 0 < width → (text ≡ [] → ⊥) → ((v : List Digit) → IsValue text width v → ⊥)
    → Tells false (BeginsDigits width old text)
no_digits text width old some begun none = (
  λ e. absurd (false≢true e),
  λ g.
      let ds = shortened (reverse g.value) in
      let parts = split_at text g.begins.0 ds g.begins.1 in
      let least = nonempty_split text parts.first begun parts.is in
      let kept : shortened ds ≡ ds = shortened_again (reverse g.value) in
      let short = value_short (map digit_character ds) width g.value some (record { wide = g.wide; is = refl }) in
      let size = length-map ds digit_character in
      let long = ap length parts.are ∙ length-append parts.first parts.rest in
      let w = written width parts.first least (omega (arith, short, size, long))
      (prefix_kept parts.first parts.rest least (ap shortened (sym parts.are) ∙ kept ∙ parts.are)) in
      absurd (none w.value (record { wide = w.wide; is = parts.is ∙ ap (map digit_character) (sym w.short) })),
)
