-- What stands behind a piece stands at the end of the bytes.
use Rattle.std.proofs.Common.{ℕ, ◌≡◌, ◌≤◌, ◌<◌, ◌+◌, ◌-◌, ◌==◌, ◌&&◌, ◌||◌, Bool, true, false, not, List, [], ◌∷◌, ◌++◌, length, Option, None, Some, refl, ap, sym, subst, ◌∙◌, arith, append_assoc, length-append, take, if◌then◌else◌}
use Rattle.std.proofs.lemmas.List.{take_at}
use Rattle.std.specs.Char.{is_ascii_digit}
use Rattle.vs_lexer.specs.Bytes.{after_run, in_line, in_escaped, in_name, starts_name}
use Rattle.vs_prep_macros.specs.Classes.{is_blank, in_based}
use Rattle.vs_prep_macros.specs.Pieces.{Cut, after_close, after_quote, block_cut, slash_cut, text_cut, quote_cut, skip_sign, is_base, based_cut, apostrophe_cut, cut_by}
use Rattle.vs_prep_macros.specs.declared.piece.Form.TheVariants as f

-- these bytes stand at the end of the others
abbrev pub IsSuffix : List ℕ → List ℕ → Type 0
IsSuffix rest bytes = (text : List ℕ) × (bytes ≡ text ++ rest)

-- one byte before does no harm
pub behind_one : (b : ℕ) (rest bytes : List ℕ) → IsSuffix rest bytes → IsSuffix rest (b ∷ bytes)
behind_one b rest bytes h = (b ∷ h.0, ap (λ z. b ∷ z) h.1)

-- all bytes stand at their own end
pub behind_none : (bytes : List ℕ) → IsSuffix bytes bytes
behind_none bytes = ([], refl)

-- nothing stands at the end of any bytes
pub behind_all : (bytes : List ℕ) → IsSuffix [] bytes
behind_all [] = ([], refl)
behind_all (b ∷ bytes) = behind_one b [] bytes (behind_all bytes)

pub run_behind : (p : ℕ → Bool) (bytes : List ℕ) → IsSuffix (after_run p bytes) bytes
run_behind p [] = behind_none []
run_behind p (b ∷ bytes) = elim (p b) as (λ v. IsSuffix (if v then after_run p bytes else b ∷ bytes) (b ∷ bytes))
    [ true ↦ behind_one b (after_run p bytes) bytes (run_behind p bytes) | false ↦ behind_none (b ∷ bytes) ]

-- an option that holds nothing holds no list
none_some : {A : Type 0} → (rest : List ℕ) → ◌≡◌ {A = Option (List ℕ)} None (Some rest) → A
none_some rest e = absurd cc

-- what two equal options hold is equal
some_same : (xs rest : List ℕ) → ◌≡◌ {A = Option (List ℕ)} (Some xs) (Some rest) → xs ≡ rest
some_same xs rest e = cc

-- what an option holds stands at the end of the bytes
abbrev pub IfSuffix : Option (List ℕ) → List ℕ → Type 0
IfSuffix o bytes = (rest : List ℕ) → o ≡ Some rest → IsSuffix rest bytes

pub close_behind : (c d : ℕ) (bytes : List ℕ) → IfSuffix (after_close c d bytes) bytes
close_behind c d [] = λ rest e. none_some rest e
close_behind c d (x ∷ []) = λ rest e. none_some rest e
close_behind c d (x ∷ y ∷ ys) = elim (x == c && y == d) as (λ v. IfSuffix (if v then Some ys else after_close c d (y ∷ ys)) (x ∷ y ∷ ys)) [
  | true ↦ λ rest e. (x ∷ y ∷ [], ap (λ z. x ∷ y ∷ z) (some_same ys rest e))
  | false ↦ λ rest e. behind_one x rest (y ∷ ys) (close_behind c d (y ∷ ys) rest e)
]

pub quote_behind : (escaped : Bool) (bytes : List ℕ) → IfSuffix (after_quote escaped bytes) bytes
quote_behind escaped [] = λ rest e. none_some rest e
quote_behind escaped (b ∷ bs) = elim (b == 10) as (λ v. IfSuffix (if v then None else (if not escaped && b == 34 then Some bs else after_quote (not escaped && b == 92) bs)) (b ∷ bs)) [
  | true ↦ λ rest e. none_some rest e
  | false ↦ elim (not escaped && b == 34) as (λ v. IfSuffix (if v then Some bs else after_quote (not escaped && b == 92) bs) (b ∷ bs)) [
    | true ↦ λ rest e. (b ∷ [], ap (λ z. b ∷ z) (some_same bs rest e))
    | false ↦ λ rest e. behind_one b rest bs (quote_behind (not escaped && b == 92) bs rest e)
  ]
]

-- either of two cuts
pub either_behind : (v : Bool) (x y : Cut) (bytes : List ℕ) → IsSuffix x.1 bytes → IsSuffix y.1 bytes → IsSuffix (if v then x else y).1 bytes
either_behind true x y bytes h k = h
either_behind false x y bytes h k = k

pub reached_block : (o : Option (List ℕ)) (bytes : List ℕ) → IfSuffix o bytes → IsSuffix (block_cut o).1 bytes
reached_block None bytes h = behind_all bytes
reached_block (Some rest) bytes h = h rest refl

pub slash_behind : (after : List ℕ) → IsSuffix (slash_cut after).1 after
slash_behind [] = behind_none []
slash_behind (b ∷ bs) =
    either_behind (b == 47) (f.LineComment, after_run in_line bs) (if b == 42 then block_cut (after_close 42 47 bs) else (f.Other, b ∷ bs)) (b ∷ bs)
    (behind_one b (after_run in_line bs) bs (run_behind in_line bs))
    (either_behind (b == 42) (block_cut (after_close 42 47 bs)) (f.Other, b ∷ bs) (b ∷ bs)
    (behind_one b (block_cut (after_close 42 47 bs)).1 bs (reached_block (after_close 42 47 bs) bs (close_behind 42 47 bs)))
    (behind_none (b ∷ bs)))

pub text_behind : (o : Option (List ℕ)) (after : List ℕ) → IfSuffix o after → IsSuffix (text_cut after o).1 after
text_behind None after h = run_behind in_line after
text_behind (Some rest) after h = h rest refl

pub sign_behind : (after : List ℕ) → IsSuffix (skip_sign after) after
sign_behind [] = behind_none []
sign_behind (b ∷ bs) = elim (b == 115 || b == 83) as (λ v. IsSuffix (if v then bs else b ∷ bs) (b ∷ bs))
    [ true ↦ behind_one b bs bs (behind_none bs) | false ↦ behind_none (b ∷ bs) ]

-- what stands behind what stands behind
pub behind_both : (rest middle bytes : List ℕ) → IsSuffix rest middle → IsSuffix middle bytes → IsSuffix rest bytes
behind_both rest middle bytes h k = (k.0 ++ h.0, k.1 ∙ ap (λ z. k.0 ++ z) h.1 ∙ sym (append_assoc k.0 h.0 rest))

pub based_behind : (sign after : List ℕ) → IsSuffix sign after → IsSuffix (based_cut after sign).1 after
based_behind [] after h = behind_none after
based_behind (b ∷ bs) after h =
    either_behind (is_base b) (f.Digits, after_run in_based bs) (f.Other, after) after
    (behind_both (after_run in_based bs) (b ∷ bs) after (behind_one b (after_run in_based bs) bs (run_behind in_based bs)) h)
    (behind_none after)

-- what stands behind a piece stands at the end of what follows its first byte
pub cut_behind : (b : ℕ) (after : List ℕ) → IsSuffix (cut_by b after).1 after
unfolding cut_by
cut_behind b after =
    let n = behind_none after in
    let other : Cut = (f.Other, after) in
    let blank : Cut = (f.Blank, after_run is_blank after) in
    let name : Cut = (f.Name, after_run in_name after) in
    let digits : Cut = (f.Digits, after_run in_name after) in
    let tick : Cut = (f.Backquote, after) in
    let escaped : Cut = (f.Escaped, after_run in_escaped after) in
    let feed : Cut = (f.LineFeed, after) in
    let c8 : Cut = if is_blank b then blank else other in
    let c7 : Cut = if starts_name b then name else c8 in
    let c6 : Cut = if is_ascii_digit b then digits else c7 in
    let c5 : Cut = if b == 96 then tick else c6 in
    let c4 : Cut = if b == 39 then apostrophe_cut after else c5 in
    let c3 : Cut = if b == 92 then escaped else c4 in
    let c2 : Cut = if b == 34 then quote_cut after else c3 in
    let c1 : Cut = if b == 47 then slash_cut after else c2 in
    either_behind (b == 10) feed c1 after n
    (either_behind (b == 47) (slash_cut after) c2 after (slash_behind after)
    (either_behind (b == 34) (quote_cut after) c3 after (text_behind (after_quote false after) after (quote_behind false after))
    (either_behind (b == 92) escaped c4 after (run_behind in_escaped after)
    (either_behind (b == 39) (apostrophe_cut after) c5 after (based_behind (skip_sign after) after (sign_behind after))
    (either_behind (b == 96) tick c6 after n
    (either_behind (is_ascii_digit b) digits c7 after (run_behind in_name after)
    (either_behind (starts_name b) name c8 after (run_behind in_name after)
    (either_behind (is_blank b) blank other after (run_behind is_blank after) n))))))))

-- bytes are those before the ones at their end, and these
pub behind_splits : (rest bytes : List ℕ) → IsSuffix rest bytes → bytes ≡ take (length bytes - length rest) bytes ++ rest
behind_splits rest bytes h = subst (λ (z : List ℕ). z ≡ take (length z - length rest) z ++ rest) (sym h.1)
    (ap (λ z. z ++ rest) (sym (take_at h.0 rest (length (h.0 ++ rest) - length rest) (omega (arith, length-append h.0 rest)))))

-- there are no more of them
pub behind_length : (rest bytes : List ℕ) → IsSuffix rest bytes → length rest ≤ length bytes
behind_length rest bytes h = omega (arith, ap length h.1, length-append h.0 rest)
