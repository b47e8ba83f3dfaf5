-- Codes and digits of lines that can't stand where they do.
use Rattle.std.proofs.Common.{◌≡◌, ◌⊎◌, inl, inr, ℕ, zero, suc, ◌+◌, ◌*◌, ◌-◌, ◌/◌, ◌%◌, ◌<◌, ◌≤◌, Bool, true, false, Option, Some, None, MatchOption, List, [], ◌∷◌, ◌++◌, get_or, length, map, refl, sym, ap, subst, ◌∙◌, arith}
use Rattle.std.specs.Prelude.{nat_lt, not, is_some, take, drop, IsTrue, ◌↔◌}
use Rattle.std.specs.List.{list_all}
use Rattle.std.proofs.lemmas.Bool.{and_from, cases_lt, cond_both, false≢true, and_parts as and_true}
use Rattle.std.proofs.lemmas.List.{length-map}
use Rattle.std.proofs.Math.Seq.{take-length}
use Rattle.std.proofs.lemmas.Bool.Decides.{Decides-ltb, eqb_tells}
use Rattle.vs_design.specs.vs_logic4.specs.declared.digit.Digit.{Digit}
use Rattle.vs_design.specs.vs_logic4.specs.declared.digit.Digit.TheVariants.{Zero, One, X, Z}
use Rattle.vs_vcd_lines.specs.vs_vcd_writing.specs.Codes.{code, code_with_fuel}
use Rattle.vs_vcd_lines.specs.vs_vcd_writing.specs.Values.{digit_character}
use Rattle.vs_vcd_lines.specs.vs_vcd_writing.proofs.CodeLemmas.{code-short, code-injective}
use Rattle.vs_vcd_lines.specs.Cuts.{lacks, IsCut}
use Rattle.vs_vcd_lines.proofs.CodeLemmas.{code_above}
use Rattle.vs_vcd_lines.proofs.CutLemmas.{cut_once, lacks_head}
use Rattle.vs_vcd_lines.proofs.BeginningsValueLemmas.{characters_lack}
use Rattle.vs_vcd_reader.specs.Faults.{IsShaped}
use Rattle.vs_vcd_reader.specs.Faults.{IsShaped as sh}
use Rattle.vs_vcd_reader.specs.Kinds.{are_characters, is_character, AreCharacters, AreCodeCharacters, IsOtherCode}
use Rattle.vs_vcd_reader.specs.Stops.{IsOfOtherCode}

-- ---- codes

abbrev AllCode : List ℕ → Type 0
AllCode [] = Unit {0}
AllCode (b ∷ bs) = (33 ≤ b) × (b ≤ 126) × AllCode bs

fuel_all : (f n : ℕ) → AllCode (code_with_fuel f n)
fuel_all zero n = (omega arith, omega arith, tt)
fuel_all (suc f) n =
    cond_both (nat_lt n 94) ((33 + n) ∷ []) ((33 + n % 94) ∷ code_with_fuel f (n / 94 - 1)) AllCode
    (λ e. let below = (Decides-ltb n 94).0 e in (omega arith, omega (arith, below), tt)) (λ e. (omega arith, omega arith, fuel_all f (n / 94 - 1)))

all_index : (bs : List ℕ) → AllCode bs → (k : ℕ) → k < length bs → (33 ≤ get_or bs k 0) × (get_or bs k 0 ≤ 126)
all_index [] h k within = absurd (omega (arith, within))
all_index (b ∷ bs) h zero within = (h.0, h.1)
all_index (b ∷ bs) h (suc k) within = all_index bs h.2 k (omega (arith, within))

code_some : (n : ℕ) → 0 < length (code n)
code_some zero = omega arith
code_some (suc n) =
    cond_both (nat_lt (suc n) 94) ((33 + suc n) ∷ []) ((33 + suc n % 94) ∷ code_with_fuel n (suc n / 94 - 1)) (λ l. 0 < length l) (λ e. omega arith) (λ e. omega arith)

code_characters : (text : List ℕ) (n : ℕ) → text ≡ code n → AreCodeCharacters text
code_characters text n is =
    subst AreCodeCharacters (sym is) (record { some = code_some n; all = λ k within. all_index (code n) (fuel_all n n) k within })

code_made : (text : List ℕ) → AreCodeCharacters text → (n : ℕ) × (text ≡ code n)
code_made [] h = let some = h.some in absurd (omega (arith, some))
code_made (b ∷ []) h =
    let first = h.all 0 (omega arith) in
    let back : 33 + (b - 33) ≡ b = omega (arith, first.0) in
    (b - 33, ap (λ x. x ∷ []) (sym back) ∙ sym (code-short (b - 33) (omega (arith, first.1))))
code_made (b ∷ c ∷ cs) h =
    let first = h.all 0 (omega arith) in
    let r = code_made (c ∷ cs) (record { some = omega arith; all = λ k within. h.all (suc k) (omega (arith, within)) }) in
    (94 * (r.0 + 1) + (b - 33), code_above b r.0 (94 * (r.0 + 1) + (b - 33)) (c ∷ cs) first.0 first.1 refl r.1)

pub other_made : (text : List ℕ) (count : ℕ) → AreCodeCharacters text → ((n : ℕ) → n < count → text ≡ code n → ⊥) → IsOtherCode count text
other_made text count h none =
    let r = code_made text h in
    elim (cases_lt r.0 count) [ inl below ↦ absurd (none r.0 below r.1) | inr least ↦ record { number = r.0; is = r.1; least = least } ]

pub other_is_code : (text : List ℕ) (count : ℕ) → IsOtherCode count text → AreCodeCharacters text
other_is_code text count h = code_characters text h.number h.is

pub other_is_none : (text : List ℕ) (count n : ℕ) → IsOtherCode count text → n < count → text ≡ code n → ⊥
other_is_none text count n h below is =
    let least = h.least in let same = code-injective h.number n (sym h.is ∙ is) in omega (arith, least, below, same)

-- ---- digits

abbrev pub IsCharacter : ℕ → Type 0
IsCharacter b = (d : Digit) × (b ≡ digit_character d)

-- ---- shapes

pub shaped_bit : (b : ℕ) (rest : List ℕ) (count : ℕ) → IsCharacter b → IsOtherCode count rest → IsOfOtherCode count (b ∷ rest)
shaped_bit b rest count d h = record {
  number = h.number;
  shaped = subst (IsShaped h.number) (sym (ap (λ x. x ∷ rest) d.1 ∙ ap (λ l. digit_character d.0 ∷ l) h.is)) (sh.bit d.0);
  least = h.least;
}

word_by : (line : List ℕ) (count : ℕ) (ds : List Digit) (number : ℕ) → 0 < length ds → line ≡ 98 ∷ (map digit_character ds ++ 32 ∷ code number) → count ≤ number
    → IsOfOtherCode count line
word_by line count [] number some is least = absurd (omega (arith, some))
word_by line count (d ∷ ds) number some is least = record { number = number; shaped = subst (IsShaped number) (sym is) (sh.word d ds); least = least }

pub shaped_word : (b : ℕ) (rest digits text : List ℕ) (count : ℕ) → b ≡ 98 → IsCut 32 rest digits text → AreCharacters digits → IsOtherCode count text → IsOfOtherCode count (b ∷ rest)
shaped_word b rest digits text count first cut characters h =
    word_by (b ∷ rest) count characters.digits h.number characters.some
    (ap (λ x. x ∷ rest) first ∙ ap (λ l. 98 ∷ l) (cut.is ∙ ap (λ l. l ++ 32 ∷ text) characters.is ∙ ap (λ l. map digit_character characters.digits ++ 32 ∷ l) h.is)) h.least

-- the line of a change of one bit, or of more
pub record IsWord (count : ℕ) (rest : List ℕ) : Type 0 where
  pub digits : List Digit
  pub number : ℕ
  pub some : 0 < length digits
  pub is : rest ≡ map digit_character digits ++ 32 ∷ code number
  pub least : count ≤ number

shape_cases : (count n : ℕ) (line : List ℕ) (b : ℕ) (rest : List ℕ) → count ≤ n → IsShaped n line → line ≡ b ∷ rest
    → (IsCharacter b × IsOtherCode count rest) ⊎ ((b ≡ 98) × IsWord count rest)
shape_cases count n _ b rest least (sh.bit d) e =
    let first : digit_character d ≡ b = ap (λ l. get_or l 0 0) e in
    let tail : code n ≡ rest = cc in
    inl ((d, sym first), record { number = n; is = sym tail; least = least })
shape_cases count n _ b rest least (sh.word d ds) e =
    let first : 98 ≡ b = ap (λ l. get_or l 0 0) e in
    let tail : map digit_character (d ∷ ds) ++ 32 ∷ code n ≡ rest = cc in
    inr (sym first, record { digits = d ∷ ds; number = n; some = omega arith; is = sym tail; least = least })

pub other_cases : (count b : ℕ) (rest : List ℕ) → IsOfOtherCode count (b ∷ rest) → (IsCharacter b × IsOtherCode count rest) ⊎ ((b ≡ 98) × IsWord count rest)
other_cases count b rest h = shape_cases count h.number (b ∷ rest) b rest h.least h.shaped refl

b_is_none : IsCharacter 98 → ⊥
b_is_none (Zero, e) = absurd (omega (arith, e))
b_is_none (One, e) = absurd (omega (arith, e))
b_is_none (X, e) = absurd (omega (arith, e))
b_is_none (Z, e) = absurd (omega (arith, e))

-- where a line begins with a digit, a code stands after it
pub bit_rest : (count b : ℕ) (rest : List ℕ) → IsCharacter b → IsOfOtherCode count (b ∷ rest) → IsOtherCode count rest
bit_rest count b rest d h =
    elim (other_cases count b rest h) [ inl bit ↦ bit.1 | inr word ↦ absurd (b_is_none (subst IsCharacter word.0 d)) ]

-- else it begins with `b`, and is cut at its first space
pub word_rest : (count b : ℕ) (rest : List ℕ) → (IsCharacter b → ⊥) → IsOfOtherCode count (b ∷ rest) → (b ≡ 98) × IsWord count rest
word_rest count b rest none h = elim (other_cases count b rest h) [ inl bit ↦ absurd (none bit.0) | inr word ↦ word ]

pub word_parts : (count : ℕ) (rest digits text : List ℕ) → IsCut 32 rest digits text → IsWord count rest → AreCharacters digits × IsOtherCode count text
word_parts count rest digits text cut h =
    let parts = cut_once 32 digits (map digit_character h.digits) text (code h.number) cut.first (characters_lack h.digits) (sym cut.is ∙ h.is) in
    (record { digits = h.digits; some = h.some; is = parts.0 }, record { number = h.number; is = parts.1; least = h.least })

word_feed : (ds : List Digit) (text : List ℕ) → lacks 32 (map digit_character ds ++ 32 ∷ text) ≡ true → ⊥
word_feed [] text h = (lacks_head 32 32 text h).0 refl
word_feed (d ∷ ds) text h = word_feed ds text (lacks_head 32 (digit_character d) (map digit_character ds ++ 32 ∷ text) h).1

pub word_cut : (count : ℕ) (rest : List ℕ) → lacks 32 rest ≡ true → IsWord count rest → ⊥
word_cut count rest one h = word_feed h.digits (code h.number) (ap (lacks 32) (sym h.is) ∙ one)

-- ---- what the tests of the reader say

pub character_told : (b : ℕ) → is_character b ≡ true → IsCharacter b
character_told b h =
    elim (eqb_tells b 48) [
      | inl e ↦ (Zero, e.1)
      | inr i ↦ elim (eqb_tells b 49) [
        | inl e ↦ (One, e.1)
        | inr j ↦ elim (eqb_tells b 120) [
          | inl e ↦ (X, e.1)
          | inr k ↦ elim (eqb_tells b 122) [
            | inl e ↦ (Z, e.1)
            | inr l ↦ let none : is_character b ≡ false = rw (i.0, j.0, k.0, l.0) refl in absurd (false≢true (sym none ∙ h))
          ]
        ]
      ]
    ]

is_one : (d : Digit) → is_character (digit_character d) ≡ true
is_one Zero = refl
is_one One = refl
is_one X = refl
is_one Z = refl

pub character_is : (b : ℕ) → IsCharacter b → is_character b ≡ true
character_is b d = ap is_character d.1 ∙ is_one d.0

spelled : (bs : List ℕ) → list_all is_character bs ≡ true → (ds : List Digit) × (bs ≡ map digit_character ds)
spelled [] h = ([], refl)
spelled (b ∷ bs) h =
    let both = and_true (is_character b) (list_all is_character bs) h in
    let first = character_told b both.0 in
    let rest = spelled bs both.1 in
    (first.0 ∷ rest.0, ap (λ x. x ∷ bs) first.1 ∙ ap (λ l. digit_character first.0 ∷ l) rest.1)

spelled_are : (ds : List Digit) → list_all is_character (map digit_character ds) ≡ true
spelled_are [] = refl
spelled_are (d ∷ ds) = and_from (is_character (digit_character d)) (list_all is_character (map digit_character ds)) (is_one d) (spelled_are ds)

pub characters_told : (text : List ℕ) → are_characters text ≡ true → AreCharacters text
characters_told [] h = absurd (false≢true h)
characters_told (b ∷ bs) h =
    let ds = spelled (b ∷ bs) h in
    let size = ap length ds.1 ∙ length-map ds.0 digit_character in
    record { digits = ds.0; some = omega (arith, size); is = ds.1 }

some_are : (ds : List Digit) → 0 < length ds → are_characters (map digit_character ds) ≡ true
some_are [] h = absurd (omega (arith, h))
some_are (d ∷ ds) h = spelled_are (d ∷ ds)

pub characters_are : (text : List ℕ) → AreCharacters text → are_characters text ≡ true
characters_are text h = ap are_characters h.is ∙ some_are h.digits h.some

pub line_parts : (line : List ℕ) → 1 ≤ length line → line ≡ get_or line 0 0 ∷ take (length line - 1) (drop 1 line)
line_parts [] h = absurd (omega (arith, h))
line_parts (b ∷ bs) h =
    let size : length bs ≡ length (b ∷ bs) - 1 = omega arith in ap (λ l. b ∷ l) (sym (take-length bs) ∙ ap (λ n. take n bs) size)

pub other_told : (text : List ℕ) (count : ℕ) (found : Option ℕ) (b : Bool) → AreCodeCharacters text
    → MatchOption found ((n : ℕ) → n < count → text ≡ code n → ⊥) (λ n. (n < count) × (text ≡ code n)) → is_some found ≡ not b → IsTrue b ↔ IsOtherCode count text
other_told text count None true h none same = ((λ _. other_made text count h none), (λ _. refl))
other_told text count None false h none same = absurd (false≢true same)
other_told text count (Some n) true h is same = absurd (false≢true (sym same))
other_told text count (Some n) false h is same = ((λ t. absurd (false≢true t)), (λ o. absurd (other_is_none text count n o is.0 is.1)))

pub bit_told : (line : List ℕ) (count b : ℕ) (rest : List ℕ) (r : Bool) → line ≡ b ∷ rest → IsCharacter b → (IsTrue r ↔ IsOtherCode count rest)
    → IsTrue r ↔ IsOfOtherCode count line
bit_told line count b rest r is d h =
    subst (λ l. IsTrue r ↔ IsOfOtherCode count l) (sym is) ((λ t. shaped_bit b rest count d (h.0 t)), (λ o. h.1 (bit_rest count b rest d o)))

pub word_told : (line : List ℕ) (count b : ℕ) (rest digits text : List ℕ) (r : Bool) → line ≡ b ∷ rest → b ≡ 98 → (IsCharacter b → ⊥) → IsCut 32 rest digits text
    → AreCharacters digits → (IsTrue r ↔ IsOtherCode count text) → IsTrue r ↔ IsOfOtherCode count line
word_told line count b rest digits text r is first none cut characters h =
    subst (λ l. IsTrue r ↔ IsOfOtherCode count l) (sym is) (
      (λ t. shaped_word b rest digits text count first cut characters (h.0 t)),
      (λ o. h.1 (word_parts count rest digits text cut (word_rest count b rest none o).1).1),
    )

pub no_word : (line : List ℕ) (count b : ℕ) (rest digits text : List ℕ) → line ≡ b ∷ rest → (IsCharacter b → ⊥) → IsCut 32 rest digits text
    → (AreCharacters digits → ⊥) → IsOfOtherCode count line → ⊥
no_word line count b rest digits text is none cut other o =
    other (word_parts count rest digits text cut (word_rest count b rest none (subst (IsOfOtherCode count) is o)).1).0

pub uncut_word : (line : List ℕ) (count b : ℕ) (rest : List ℕ) → line ≡ b ∷ rest → (IsCharacter b → ⊥) → lacks 32 rest ≡ true → IsOfOtherCode count line → ⊥
uncut_word line count b rest is none one o = word_cut count rest one (word_rest count b rest none (subst (IsOfOtherCode count) is o)).1
