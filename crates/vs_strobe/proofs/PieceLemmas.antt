-- Pieces of a text, one after another.
use Rattle.std.proofs.Common.{◌≡◌, ◌≢◌, ℕ, zero, suc, ◌-◌, ◌<◌, ◌≤◌, ◌==◌, Bool, true, false, nat_lt, if◌then◌else◌, Option, Some, None, List, [], ◌∷◌, ◌++◌, length, get_or, take, drop, refl, sym, ◌∙◌, ap, ⊎_elim, append_assoc, arith, eq-eqb}
use Rattle.std.proofs.lemmas.Bool.{ne_eqb, eqb-true, lt-ltb, le-ltb}
use Rattle.std.proofs.lemmas.Bool.Decides.{eqb_tells}
use Rattle.std.proofs.lemmas.List.{append-nil, take_all, length-drop}
use Rattle.std.specs.Prelude.{slice_get, option_map, MatchOption}
use Rattle.std.specs.Borrow.{Bor}
use Rattle.vs_strobe.specs.declared.piece.FormatPiece.{FormatPiece}
use Rattle.vs_strobe.specs.declared.piece.FormatPiece.TheVariants.{Byte, Path, Shown}
use Rattle.vs_strobe.specs.declared.fault.FormatReason.TheVariants.{TooFewArguments, TooManyArguments}
use Rattle.vs_strobe.specs.Pieces.{joined, wanted, fault_for, directive_of, pieces_of, pieces_from, after_percent, after_percent_zero}

-- pieces before others, where those are good
abbrev pub pieces_before : List FormatPiece → Option (List FormatPiece) → Option (List FormatPiece)
pieces_before ps rest = option_map (λ qs. ps ++ qs) rest

-- one more piece is read
pub behind_more : (ps : List FormatPiece) (p : FormatPiece) (rest : Option (List FormatPiece)) → pieces_before ps (joined (Some p) rest) ≡ pieces_before (ps ++ p ∷ []) rest
behind_more ps p None = refl
behind_more ps p (Some qs) = ap Some (sym (append_assoc ps (p ∷ []) qs))

-- from a place on, an item stands before those behind it
pub drop_at : {A : Type 0} (xs : List A) (i : ℕ) (x : A) → slice_get xs i ≡ Some x → drop i xs ≡ x ∷ drop (suc i) xs
drop_at [] i x h = cc
drop_at (y ∷ ys) zero x h = cc
drop_at (y ∷ ys) (suc i) x h = drop_at ys i x h

-- no more arguments than pieces
pub wanted-le : (ps : List FormatPiece) → wanted ps ≤ length ps
wanted-le [] = omega arith
wanted-le (Byte b ∷ ps) = omega (arith, wanted-le ps)
wanted-le (Path ∷ ps) = omega (arith, wanted-le ps)
wanted-le (Shown s b ∷ ps) = omega (arith, wanted-le ps)

-- none before
pub behind_none : (rest : Option (List FormatPiece)) → rest ≡ pieces_before [] rest
behind_none None = refl
behind_none (Some qs) = refl

-- where no byte is left, the pieces before are all
pub behind_all : (ps : List FormatPiece) (rest : List ℕ) → (length rest == 0) ≡ true → pieces_before ps (pieces_of rest) ≡ Some ps
behind_all ps [] h = ap Some (append-nil ps)
behind_all ps (b ∷ bs) h = absurd (omega (arith, eqb-true (length (b ∷ bs)) 0 h))

-- ---- what bytes begin with, where the rest is taken as a slice

rest_at : (bs : List ℕ) (k : ℕ) → take (length bs - k) (drop k bs) ≡ drop k bs
rest_at bs k = take_all (length bs - k) (drop k bs) (omega (arith, length-drop k bs))

pub rest_length : (bs : List ℕ) (k : ℕ) → length (take (length bs - k) (drop k bs)) ≡ length bs - k
rest_length bs k = ap length (rest_at bs k) ∙ length-drop k bs

-- a byte that is printed as it is
pub plain_byte : (bs : List ℕ) → 1 ≤ length bs → get_or bs 0 0 ≢ 37 →
    pieces_of bs ≡ joined (Some (Byte (get_or bs 0 0))) (pieces_of (take (length bs - 1) (drop 1 bs)))
plain_byte [] some other = absurd (omega arith)
plain_byte (b ∷ bs) some other =
    ap (λ t. if t then pieces_from after_percent bs else joined (Some (Byte b)) (pieces_of bs)) (ne_eqb b 37 other)
    ∙ ap (λ rest. joined (Some (Byte b)) (pieces_of rest)) (sym (rest_at (b ∷ bs) 1))

-- a `%`
plain_percent : (bs : List ℕ) → 1 ≤ length bs → get_or bs 0 0 ≡ 37 → pieces_of bs ≡ pieces_from after_percent (take (length bs - 1) (drop 1 bs))
plain_percent [] some is = absurd (omega arith)
plain_percent (b ∷ bs) some is =
    ap (λ t. if t then pieces_from after_percent bs else joined (Some (Byte b)) (pieces_of bs)) (eq-eqb b 37 is)
    ∙ ap (pieces_from after_percent) (sym (rest_at (b ∷ bs) 1))

-- a piece behind a `%` is read
pub percent_read : (bs : List ℕ) (read : Option (FormatPiece × Bor (List ℕ))) → 1 ≤ length bs → get_or bs 0 0 ≡ 37 →
    MatchOption read (pieces_from after_percent (take (length bs - 1) (drop 1 bs)) ≡ None)
    (λ x. (pieces_from after_percent (take (length bs - 1) (drop 1 bs)) ≡ joined (Some x.0) (pieces_of x.1.now)) × (length x.1.now ≤ length (take (length bs - 1) (drop 1 bs)))) →
    MatchOption read (pieces_of bs ≡ None) (λ x. (pieces_of bs ≡ joined (Some x.0) (pieces_of x.1.now)) × (length x.1.now < length bs))
percent_read bs None some is none = plain_percent bs some is ∙ none
percent_read bs (Some x) some is found = (plain_percent bs some is ∙ found.0, omega (arith, found.1, rest_length bs 1))

-- the pieces behind a `%`, by whether a `%` or a `0` comes first
behind_by : (b : ℕ) (bs : List ℕ) (percent nought : Bool) → (b == 37) ≡ percent → (b == 48) ≡ nought →
    pieces_from after_percent (b ∷ bs)
    ≡ (if percent then joined (Some (Byte 37)) (pieces_of bs) else (if nought then pieces_from after_percent_zero bs else joined (directive_of false b) (pieces_of bs)))
behind_by b bs percent nought p z =
    ap (λ t. if t then joined (Some (Byte 37)) (pieces_of bs) else (if b == 48 then pieces_from after_percent_zero bs else joined (directive_of false b) (pieces_of bs))) p
    ∙ ap (λ t. if percent then joined (Some (Byte 37)) (pieces_of bs) else (if t then pieces_from after_percent_zero bs else joined (directive_of false b) (pieces_of bs))) z

-- a second `%`
pub second_percent : (bs : List ℕ) → 1 ≤ length bs → get_or bs 0 0 ≡ 37 →
    pieces_from after_percent bs ≡ joined (Some (Byte 37)) (pieces_of (take (length bs - 1) (drop 1 bs)))
second_percent [] some is = absurd (omega arith)
second_percent (b ∷ bs) some is =
    behind_by b bs true (b == 48) (eq-eqb b 37 is) refl ∙ ap (λ rest. joined (Some (Byte 37)) (pieces_of rest)) (sym (rest_at (b ∷ bs) 1))

-- a `0` and a letter
pub zero_letter : (bs : List ℕ) → 2 ≤ length bs → get_or bs 0 0 ≡ 48 →
    pieces_from after_percent bs ≡ joined (directive_of true (get_or bs 1 0)) (pieces_of (take (length bs - 2) (drop 2 bs)))
zero_letter [] some is = absurd (omega arith)
zero_letter (b ∷ []) some is = absurd (omega arith)
zero_letter (b ∷ d ∷ bs) some is =
    behind_by b (d ∷ bs) false true (ne_eqb b 37 (omega arith)) (eq-eqb b 48 is)
    ∙ ap (λ rest. joined (directive_of true d) (pieces_of rest)) (sym (rest_at (b ∷ d ∷ bs) 2))

-- a letter, or a `0` at the end, which is none
pub letter : (bs : List ℕ) → 1 ≤ length bs → get_or bs 0 0 ≢ 37 → (get_or bs 0 0 ≡ 48 → length bs < 2) →
    pieces_from after_percent bs ≡ joined (directive_of false (get_or bs 0 0)) (pieces_of (take (length bs - 1) (drop 1 bs)))
letter [] some other last = absurd (omega arith)
letter (b ∷ bs) some other last =
    ⊎_elim
    (λ nought. alone bs nought.1 (last nought.1))
    (λ other_too. behind_by b bs false false (ne_eqb b 37 other) other_too.0)
    (eqb_tells b 48)
    ∙ ap (λ rest. joined (directive_of false b) (pieces_of rest)) (sym (rest_at (b ∷ bs) 1))
  where
    alone : (cs : List ℕ) → b ≡ 48 → suc (length cs) < 2 → pieces_from after_percent (b ∷ cs) ≡ joined (directive_of false b) (pieces_of cs)
    alone [] is short = behind_by b [] false true (ne_eqb b 37 other) (eq-eqb b 48 is) ∙ ap (λ d. joined (directive_of false d) (Some [])) (sym is)
    alone (d ∷ cs) is short = absurd (omega arith)

-- ---- what is wrong with pieces

pub too_few : (ps : List FormatPiece) (given : ℕ) → given < wanted ps → fault_for (Some ps) given ≡ Some TooFewArguments
too_few ps given less = ap (λ t. if t then Some TooFewArguments else (if nat_lt (wanted ps) given then Some TooManyArguments else None)) (lt-ltb given (wanted ps) less)

not_few : (ps : List FormatPiece) (given : ℕ) → wanted ps ≤ given → fault_for (Some ps) given ≡ (if nat_lt (wanted ps) given then Some TooManyArguments else None)
not_few ps given most = ap (λ t. if t then Some TooFewArguments else (if nat_lt (wanted ps) given then Some TooManyArguments else None)) (le-ltb given (wanted ps) most)

pub too_many : (ps : List FormatPiece) (given : ℕ) → wanted ps < given → fault_for (Some ps) given ≡ Some TooManyArguments
too_many ps given less = not_few ps given (omega arith) ∙ ap (λ t. if t then Some TooManyArguments else None) (lt-ltb (wanted ps) given less)

pub no_fault : (ps : List FormatPiece) (given : ℕ) → wanted ps ≤ given → given ≤ wanted ps → fault_for (Some ps) given ≡ None
no_fault ps given most least = not_few ps given most ∙ ap (λ t. if t then Some TooManyArguments else None) (le-ltb (wanted ps) given least)
