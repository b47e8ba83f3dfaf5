-- Printed names, paths and parts tell what they print.
use Rattle.std.proofs.Common.{◌≡◌, ℕ, suc, ◌<◌, ◌^◌, ℤ, pos, negsuc, Bool, true, false, ◌&&◌, ◌||◌, ◌==◌, nat_le, cond, List, [], ◌∷◌, ◌++◌, Option, Some, None, drop, get_or, refl, ap, ap₂, sym, subst, ◌∙◌, append_assoc, append-nil, true≢false, arith}
use Rattle.std.specs.List.{flat_map, list_all}
use Rattle.std.proofs.lemmas.Bool.{and_parts, and_from, or_left, eqb-true, eqb-false}
use Rattle.std.specs.Fmt.{decimal, signed_decimal}
use Rattle.std.specs.Int.Signed.{mag}
use Rattle.std.specs.Char.{digit_value}
use Rattle.std.specs.Str.Parse.{AllDigits}
use Rattle.std.proofs.lemmas.Str.Parse.{digit_from_value}
use Rattle.std.proofs.lemmas.Fmt.{decimal_is_IsNumeral, signed_decimal_injective}
use Rattle.std.proofs.lemmas.List.Elements.{recursion_from_All}
use Rattle.std.specs.List.{AllByRecursion}
use Rattle.vs_scopes.specs.Printed.{PathName, Path, is_letter, is_name_byte, is_simple, escaped_byte, printed_name, printed_turn, printed_part, printed}
use Rattle.vs_elab_hierarchy.specs.Laws.{FitsTurn, HasTurnsThatFit, PrintedPathsDiffer, PrintedPartsDiffer}

-- ---- what ends a name

-- a text that doesn't begin with a byte of a simple name
abbrev Ends : List ℕ → Type 0
Ends [] = Unit
Ends (c ∷ cs) = is_name_byte c ≡ false

-- simple names before such texts
bytes_before : (m n x y : List ℕ) → list_all is_name_byte m ≡ true → list_all is_name_byte n ≡ true → Ends x → Ends y → m ++ x ≡ n ++ y → (m ≡ n) × (x ≡ y)
bytes_before [] [] x y h k f g e = (refl, e)
bytes_before [] (b ∷ n) x y h k f g e =
    let first : is_name_byte b ≡ false = subst Ends e f in
    absurd (true≢false (sym (and_parts (is_name_byte b) (list_all is_name_byte n) k).0 ∙ first))
bytes_before (a ∷ m) [] x y h k f g e =
    let first : is_name_byte a ≡ false = subst Ends (sym e) g in
    absurd (true≢false (sym (and_parts (is_name_byte a) (list_all is_name_byte m) h).0 ∙ first))
bytes_before (a ∷ m) (b ∷ n) x y h k f g e =
    let same : a ≡ b = cc in
    let rest : m ++ x ≡ n ++ y = cc in
    let (p, q) = bytes_before m n x y (and_parts (is_name_byte a) (list_all is_name_byte m) h).1 (and_parts (is_name_byte b) (list_all is_name_byte n) k).1 f g rest in
    (cc, q)

simple_bytes : (n : List ℕ) → is_simple n ≡ true → list_all is_name_byte n ≡ true
simple_bytes [] h = absurd (true≢false (sym h))
simple_bytes (c ∷ cs) h =
    let (first, rest) = and_parts (is_letter c) (list_all is_name_byte cs) h in
    let letter : is_name_byte c ≡ true = or_left (is_letter c || (nat_le 48 c && nat_le c 57)) (c == 36) (or_left (is_letter c) (nat_le 48 c && nat_le c 57) first) in
    and_from (is_name_byte c) (list_all is_name_byte cs) letter rest

-- ---- escaped names

-- an escaped name, with what stands behind the space that ends it
abbrev Read : Type 0
Read = List ℕ × List ℕ

abbrev with_byte : ℕ → Read → Read
with_byte c r = (c ∷ r.0, r.1)

-- which byte is spelled by this one behind the byte 127
abbrev spelled : ℕ → ℕ
spelled c = cond (c == 49) 32 127

same_parts : (r s : Read) → r ≡ s → (r.0 ≡ s.0) × (r.1 ≡ s.1)
same_parts r s e = (ap (λ (t : Read). t.0) e, ap (λ (t : Read). t.1) e)

-- reads an escaped name, behind the byte 127 or not
abbrev read : Bool → List ℕ → Read
read pending [] = ([], [])
read true (c ∷ cs) = with_byte (spelled c) (read false cs)
read false (c ∷ cs) = cond (c == 32) ([], cs) (cond (c == 127) (read true cs) (with_byte c (read false cs)))

-- an escaped byte, by what it is
abbrev spelling : Bool → Bool → ℕ → List ℕ
spelling space delete c = cond space (127 ∷ 49 ∷ []) (cond delete (127 ∷ 48 ∷ []) (c ∷ []))

read_escaped : (n x : List ℕ) → read false (flat_map escaped_byte n ++ 32 ∷ x) ≡ (n, x)
read_escaped [] x = refl
read_escaped (c ∷ n) x = by (c == 32) (c == 127) refl refl (read_escaped n x)
  where
    by : (a b : Bool) → (c == 32) ≡ a → (c == 127) ≡ b → read false (flat_map escaped_byte n ++ 32 ∷ x) ≡ (n, x) → read false ((spelling a b c ++ flat_map escaped_byte n) ++ 32 ∷ x) ≡ (c ∷ n, x)
    by true b h k e = ap (with_byte 32) e ∙ ap (λ z. (z ∷ n, x)) (sym (eqb-true c 32 h))
    by false true h k e = ap (with_byte 127) e ∙ ap (λ z. (z ∷ n, x)) (sym (eqb-true c 127 k))
    by false false h k e = rw (h, k) (ap (with_byte c) e)

-- ---- names

-- a name as it is printed where it isn't simple
abbrev escaped : List ℕ → List ℕ
escaped n = 92 ∷ flat_map escaped_byte n ++ 32 ∷ []

-- printed names before texts that end names
name_before : (m n x y : List ℕ) → Ends x → Ends y → printed_name m ++ x ≡ printed_name n ++ y → (m ≡ n) × (x ≡ y)
name_before m n x y f g = by (is_simple m) (is_simple n) refl refl
  where
    first_escaped : (k z rest : List ℕ) → is_simple k ≡ true → k ++ z ≡ 92 ∷ rest → ⊥
    first_escaped [] z rest h e = true≢false (sym h)
    first_escaped (c ∷ k) z rest h e =
        let same : c ≡ 92 = cc in
        true≢false (sym (and_parts (is_letter c) (list_all is_name_byte k) h).0 ∙ ap is_letter same)

    by : (a b : Bool) → is_simple m ≡ a → is_simple n ≡ b → cond a m (escaped m) ++ x ≡ cond b n (escaped n) ++ y → (m ≡ n) × (x ≡ y)
    by true true h k e = bytes_before m n x y (simple_bytes m h) (simple_bytes n k) f g e
    by true false h k e = absurd (first_escaped m x _ h e)
    by false true h k e = absurd (first_escaped n y _ k (sym e))
    by false false h k e =
        let behind : (flat_map escaped_byte m ++ 32 ∷ []) ++ x ≡ (flat_map escaped_byte n ++ 32 ∷ []) ++ y = cc in
        let e' : flat_map escaped_byte m ++ 32 ∷ x ≡ flat_map escaped_byte n ++ 32 ∷ y = sym (append_assoc (flat_map escaped_byte m) (32 ∷ []) x) ∙ behind ∙ append_assoc (flat_map escaped_byte n) (32 ∷ []) y in
        same_parts (m, x) (n, y) (sym (read_escaped m x) ∙ ap (read false) e' ∙ read_escaped n y)

-- ---- turns

-- no byte is `]`
abbrev Unclosed : List ℕ → Type 0
Unclosed cs = AllByRecursion (λ (c : ℕ). c ≡ 93 → ⊥) cs

-- such texts before a `]`
closed_before : (m n x y : List ℕ) → Unclosed m → Unclosed n → m ++ 93 ∷ x ≡ n ++ 93 ∷ y → (m ≡ n) × (x ≡ y)
closed_before [] [] x y h k e = (refl, ap (drop 1) e)
closed_before [] (b ∷ n) x y h k e = absurd (k.0 (sym (ap (λ l. get_or l 0 0) e)))
closed_before (a ∷ m) [] x y h k e = absurd (h.0 (ap (λ l. get_or l 0 0) e))
closed_before (a ∷ m) (b ∷ n) x y h k e =
    let (same, rest) = closed_before m n x y h.1 k.1 (ap (drop 1) e) in
    (ap₂ (λ c l. c ∷ l) (ap (λ l. get_or l 0 0) e) same, rest)

digits_unclosed : (ds : List ℕ) → AllDigits 10 ds → Unclosed ds
digits_unclosed [] h = tt
digits_unclosed (c ∷ cs) h = ((λ e. digit_open c h.0 e), digits_unclosed cs h.1)
  where
    digit_open : (c : ℕ) → digit_value c < 10 → c ≡ 93 → ⊥
    digit_open c h e = omega (arith, digit_from_value c h, e)

decimal_unclosed : (n : ℕ) → n < 2 ^ 64 → Unclosed (decimal n)
decimal_unclosed n h = digits_unclosed (decimal n) (decimal_is_IsNumeral n h).0.1

number_unclosed : (v : ℤ) → mag v < 2 ^ 63 → Unclosed (signed_decimal v)
number_unclosed (pos n) h = decimal_unclosed n (omega (arith, h))
number_unclosed (negsuc n) h = ((λ e. eqb-false 45 93 refl e), decimal_unclosed (suc n) (omega (arith, h)))

-- ---- names of paths

-- a text that ends a name of a path: it doesn't begin with `[`
abbrev EndsPart : List ℕ → Type 0
EndsPart [] = Unit
EndsPart (c ∷ cs) = (is_name_byte c ≡ false) × (c ≡ 91 → ⊥)

part_ends : (x : List ℕ) → EndsPart x → Ends x
part_ends [] f = tt
part_ends (c ∷ cs) f = f.0

turn_ends : (o : Option ℤ) (x : List ℕ) → EndsPart x → Ends (printed_turn o ++ x)
turn_ends None x f = part_ends x f
turn_ends (Some v) x f = refl

not_turn : (v : ℤ) (x rest : List ℕ) → EndsPart x → x ≡ printed_turn (Some v) ++ rest → ⊥
not_turn v [] rest f e = cc
not_turn v (c ∷ cs) rest f e = f.1 (ap (λ l. get_or l 0 0) e)

turn_before : (a b : Option ℤ) (x y : List ℕ) → FitsTurn a → FitsTurn b → EndsPart x → EndsPart y → printed_turn a ++ x ≡ printed_turn b ++ y → (a ≡ b) × (x ≡ y)
turn_before None None x y h k f g e = (refl, e)
turn_before None (Some w) x y h k f g e = absurd (not_turn w x y f e)
turn_before (Some v) None x y h k f g e = absurd (not_turn v y x g (sym e))
turn_before (Some v) (Some w) x y h k f g e =
    let behind : (signed_decimal v ++ 93 ∷ []) ++ x ≡ (signed_decimal w ++ 93 ∷ []) ++ y = ap (drop 1) e in
    let e' : signed_decimal v ++ 93 ∷ x ≡ signed_decimal w ++ 93 ∷ y = sym (append_assoc (signed_decimal v) (93 ∷ []) x) ∙ behind ∙ append_assoc (signed_decimal w) (93 ∷ []) y in
    let (same, rest) = closed_before (signed_decimal v) (signed_decimal w) x y (number_unclosed v h) (number_unclosed w k) e' in
    (ap Some (signed_decimal_injective v w h k same), rest)

part_before : (m n : PathName) (x y : List ℕ) → FitsTurn m.turn → FitsTurn n.turn → EndsPart x → EndsPart y → printed_part m ++ x ≡ printed_part n ++ y → (m ≡ n) × (x ≡ y)
part_before m n x y h k f g e =
    let e' : printed_name m.name ++ (printed_turn m.turn ++ x) ≡ printed_name n.name ++ (printed_turn n.turn ++ y) =
    sym (append_assoc (printed_name m.name) (printed_turn m.turn) x) ∙ e ∙ append_assoc (printed_name n.name) (printed_turn n.turn) y in
    let (names, behind) = name_before m.name n.name (printed_turn m.turn ++ x) (printed_turn n.turn ++ y) (turn_ends m.turn x f) (turn_ends n.turn y g) e' in
    let (turns, rest) = turn_before m.turn n.turn x y h k f g behind in
    (ap₂ (λ a b. record { name = a; turn = b }) names turns, rest)

-- ---- paths

-- a text that is empty, or a part's name
abbrev Follows : List ℕ → Type 0
Follows [] = Unit
Follows (c ∷ cs) = c ≡ 35

-- a text behind `.`
dot_ends : (x : List ℕ) → EndsPart (46 ∷ x)
dot_ends x = (refl, λ e. eqb-false 46 91 refl e)

follows_ends : (x : List ℕ) → Follows x → EndsPart x
follows_ends [] f = tt
follows_ends (c ∷ cs) f = (ap is_name_byte f, λ e. eqb-false 35 91 refl (sym f ∙ e))

not_dot : (x rest : List ℕ) → Follows x → x ≡ 46 ∷ rest → ⊥
not_dot x rest f e = absurd (eqb-false 46 35 refl (subst Follows e f))

not_name : (n x rest : List ℕ) → Follows x → x ≡ printed_name n ++ rest → ⊥
not_name n x rest f e = by (is_simple n) refl e
  where
    not_first : (c : ℕ) (cs : List ℕ) → x ≡ c ∷ cs → is_letter c ≡ true → ⊥
    not_first c cs k h = true≢false (sym h ∙ ap is_letter (subst Follows k f))

    not_simple : (l : List ℕ) → is_simple l ≡ true → x ≡ l ++ rest → ⊥
    not_simple [] h k = true≢false (sym h)
    not_simple (c ∷ cs) h k = not_first c (cs ++ rest) k (and_parts (is_letter c) (list_all is_name_byte cs) h).0

    by : (a : Bool) → is_simple n ≡ a → x ≡ cond a n (escaped n) ++ rest → ⊥
    by true h k = not_simple n h k
    by false h k = eqb-false 92 35 refl (subst Follows k f)

not_part : (n : PathName) (x rest : List ℕ) → Follows x → x ≡ printed_part n ++ rest → ⊥
not_part n x rest f e = not_name n.name x (printed_turn n.turn ++ rest) f (e ∙ append_assoc (printed_name n.name) (printed_turn n.turn) rest)

-- a path whose turns fit
abbrev Fits : Path → Type 0
Fits p = AllByRecursion (λ (n : PathName). FitsTurn n.turn) p

-- printed paths before such texts
path_before : (p q : Path) (x y : List ℕ) → Fits p → Fits q → Follows x → Follows y → printed p ++ x ≡ printed q ++ y → (p ≡ q) × (x ≡ y)
path_before [] [] x y h k f g e = (refl, e)
path_before [] (n ∷ []) x y h k f g e = absurd (not_part n x y f e)
path_before [] (n ∷ n' ∷ q) x y h k f g e = absurd (not_part n x _ f (e ∙ append_assoc (printed_part n) (46 ∷ printed (n' ∷ q)) y))
path_before (m ∷ []) [] x y h k f g e = absurd (not_part m y x g (sym e))
path_before (m ∷ m' ∷ p) [] x y h k f g e = absurd (not_part m y _ g (sym e ∙ append_assoc (printed_part m) (46 ∷ printed (m' ∷ p)) x))
path_before (m ∷ []) (n ∷ []) x y h k f g e =
    let (same, rest) = part_before m n x y h.0 k.0 (follows_ends x f) (follows_ends y g) e in
    (ap (λ z. z ∷ []) same, rest)
path_before (m ∷ []) (n ∷ n' ∷ q) x y h k f g e =
    let (same, rest) = part_before m n x (46 ∷ printed (n' ∷ q) ++ y) h.0 k.0 (follows_ends x f) (dot_ends (printed (n' ∷ q) ++ y)) (e ∙ append_assoc (printed_part n) (46 ∷ printed (n' ∷ q)) y) in
    absurd (not_dot x _ f rest)
path_before (m ∷ m' ∷ p) (n ∷ []) x y h k f g e =
    let (same, rest) = part_before m n (46 ∷ printed (m' ∷ p) ++ x) y h.0 k.0 (dot_ends (printed (m' ∷ p) ++ x)) (follows_ends y g) (sym (append_assoc (printed_part m) (46 ∷ printed (m' ∷ p)) x) ∙ e) in
    absurd (not_dot y _ g (sym rest))
path_before (m ∷ m' ∷ p) (n ∷ n' ∷ q) x y h k f g e =
    let left : printed_part m ++ (46 ∷ printed (m' ∷ p) ++ x) ≡ printed_part n ++ (46 ∷ printed (n' ∷ q) ++ y) =
    sym (append_assoc (printed_part m) (46 ∷ printed (m' ∷ p)) x) ∙ e ∙ append_assoc (printed_part n) (46 ∷ printed (n' ∷ q)) y in
    let (same, rest) = part_before m n (46 ∷ printed (m' ∷ p) ++ x) (46 ∷ printed (n' ∷ q) ++ y) h.0 k.0 (dot_ends (printed (m' ∷ p) ++ x)) (dot_ends (printed (n' ∷ q) ++ y)) left in
    let (paths, ends) = path_before (m' ∷ p) (n' ∷ q) x y h.1 k.1 f g (ap (drop 1) rest) in
    (ap (λ z. z ∷ m' ∷ p) same ∙ ap (λ l. n ∷ l) paths, ends)

fits_from : (p : Path) → HasTurnsThatFit p → Fits p
fits_from p h = recursion_from_All (λ (n : PathName). FitsTurn n.turn) p h

pub printed_same : PrintedPathsDiffer
printed_same p q h k e = (path_before p q [] [] (fits_from p h) (fits_from q k) tt tt (append-nil (printed p) ∙ e ∙ sym (append-nil (printed q)))).0

pub name_same : (m n : List ℕ) → printed_name m ≡ printed_name n → m ≡ n
name_same m n e = (name_before m n [] [] tt tt (append-nil (printed_name m) ∙ e ∙ sym (append-nil (printed_name n)))).0

pub parts_same : PrintedPartsDiffer
parts_same p q m n h k e =
    let (paths, names) = path_before p q (35 ∷ m) (35 ∷ n) (fits_from p h) (fits_from q k) refl refl e in
    (paths, ap (drop 1) names)
