-- What an escaped name is, case by case.
use Rattle.std.proofs.Common.{◌≡◌, ◌⊎◌, inl, inr, ℕ, ◌-◌, ◌<◌, ◌≤◌, ◌==◌, ◌&&◌, Bool, true, false, true≢false, nat_lt, if◌then◌else◌, List, [], ◌∷◌, length, get_or, take, drop, refl, sym, ap, ◌∙◌, arith}
use Rattle.std.proofs.lemmas.Bool.{eqb-true, lt-ltb}
use Rattle.std.proofs.lemmas.List.{take_all}
use Rattle.vs_lexer.specs.declared.refusal.Refusal.TheVariants as r
use Rattle.vs_lexer.specs.declared.piece.Piece.{Piece}
use Rattle.vs_lexer.specs.declared.piece.Piece.TheVariants.{Refused}
use Rattle.vs_lexer.specs.declared.token.Kind.TheVariants as k
use Rattle.vs_lexer.specs.Bytes.{is_white}
use Rattle.vs_lexer.specs.Pieces.{limited, escaped_piece}

-- what stands behind the backslash
behind_first : (b : ℕ) (bs : List ℕ) → take (length (b ∷ bs) - 1) bs ≡ bs
behind_first b bs = take_all (length (b ∷ bs) - 1) bs (omega arith)

pub escaped_none : (text rest : List ℕ) → length text < 1 → Refused r.BadByte ≡ escaped_piece text rest
escaped_none [] rest few = refl
escaped_none (b ∷ bs) rest few = absurd (omega arith)

empty_name : (b : ℕ) (bs rest : List ℕ) → length bs ≡ 0 → Refused r.BadByte ≡ escaped_piece (b ∷ bs) rest
empty_name b [] [] none = refl
empty_name b [] (c ∷ cs) none = refl
empty_name b (x ∷ xs) rest none = absurd (omega arith)

pub escaped_empty : (text rest : List ℕ) → 1 ≤ length text → (length (take (length text - 1) (drop 1 text)) == 0) ≡ true → Refused r.BadByte ≡ escaped_piece text rest
escaped_empty [] rest some none = absurd (omega arith)
escaped_empty (b ∷ bs) rest some none = empty_name b bs rest (sym (ap length (behind_first b bs)) ∙ eqb-true _ 0 none)

refused_there : (some white : Bool) (piece : Piece) → white ≡ false → Refused r.BadByte ≡ (if some && white then piece else Refused r.BadByte)
refused_there some true piece black = absurd (true≢false black)
refused_there true false piece black = refl
refused_there false false piece black = refl

pub escaped_stuck : (text rest : List ℕ) → 1 ≤ length text → 1 ≤ length rest → is_white (get_or rest 0 0) ≡ false → Refused r.BadByte ≡ escaped_piece text rest
escaped_stuck [] rest some more black = absurd (omega arith)
escaped_stuck (b ∷ bs) [] some more black = absurd (omega arith)
escaped_stuck (b ∷ bs) (c ∷ cs) some more black = refused_there _ (is_white c) _ black

pub escaped_whole : (text rest : List ℕ) → 1 ≤ length text → (length (take (length text - 1) (drop 1 text)) == 0) ≡ false → (length rest < 1) ⊎ (is_white (get_or rest 0 0) ≡ true)
    → limited (take (length text - 1) (drop 1 text)) k.Name ≡ escaped_piece text rest
escaped_whole [] rest some name end = absurd (omega arith)
escaped_whole (b ∷ []) rest some name end = absurd (true≢false name)
escaped_whole (b ∷ x ∷ xs) [] some name end =
    let long : nat_lt 0 (length (x ∷ xs)) ≡ true = lt-ltb 0 (length (x ∷ xs)) (omega arith) in
    ap (λ n. limited n k.Name) (behind_first b (x ∷ xs)) ∙ sym (rw long refl)
escaped_whole (b ∷ x ∷ xs) (c ∷ cs) some name (inl few) = absurd (omega arith)
escaped_whole (b ∷ x ∷ xs) (c ∷ cs) some name (inr white) =
    let long : nat_lt 0 (length (x ∷ xs)) ≡ true = lt-ltb 0 (length (x ∷ xs)) (omega arith) in
    ap (λ n. limited n k.Name) (behind_first b (x ∷ xs)) ∙ sym (rw (long, white) refl)
