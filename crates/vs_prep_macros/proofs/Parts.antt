-- The pieces of a text in a list.
use Rattle.std.proofs.Common.{ℕ, zero, suc, ◌≡◌, ◌≤◌, ◌<◌, ◌-◌, List, [], ◌∷◌, ◌++◌, length, take, arith, refl, ap}
use Rattle.vs_prep_macros.specs.Pieces.{Cut, cut_of, cut_by}
use Rattle.vs_prep_macros.specs.Parts.{Part, part_of, parts_by, parts_of}
use Rattle.vs_prep_macros.specs.declared.piece.Form.{Form}
use Rattle.vs_prep_macros.proofs.Suffixes.{cut_behind, behind_one, behind_splits, behind_length}

-- there are no more pieces than bytes
parts_enough : (n m : ℕ) (bytes : List ℕ) → length bytes ≤ n → length bytes ≤ m → parts_by n bytes ≡ parts_by m bytes
parts_enough zero zero bytes h k = refl
parts_enough zero (suc m) [] h k = refl
parts_enough zero (suc m) (b ∷ bs) h k = absurd (omega arith)
parts_enough (suc n) zero [] h k = refl
parts_enough (suc n) zero (b ∷ bs) h k = absurd (omega arith)
parts_enough (suc n) (suc m) [] h k = refl
parts_enough (suc n) (suc m) (b ∷ bs) h k =
    let rest = (cut_by b bs).1 in
    let less : length rest ≤ length bs = behind_length rest bs (cut_behind b bs) in
    ap (λ (ps : List Part). part_of (cut_by b bs).0 (b ∷ bs) rest ∷ ps) (parts_enough n m rest (omega arith) (omega arith))

pub parts_none : parts_of [] ≡ []
unfolding parts_of
parts_none = refl

parts_first : (b : ℕ) (bs : List ℕ) → parts_of (b ∷ bs) ≡ part_of (cut_by b bs).0 (b ∷ bs) (cut_by b bs).1 ∷ parts_of (cut_by b bs).1
unfolding parts_of
parts_first b bs =
    let rest = (cut_by b bs).1 in
    let less : length rest ≤ length bs = behind_length rest bs (cut_behind b bs) in
    ap (λ (ps : List Part). part_of (cut_by b bs).0 (b ∷ bs) rest ∷ ps) (parts_enough (length bs) (length rest) rest less (omega arith))

-- the piece that a cut gives is the first one
pub parts_cut : (bytes text rest : List ℕ) (form : Form) → 0 < length bytes → (let cut : Cut = (form, rest) in cut ≡ cut_of bytes) → text ≡ take (length bytes - length rest) bytes
    → parts_of bytes ≡ record { form = form; text = text; rest = rest } ∷ parts_of rest
parts_cut [] text rest form h e t = absurd (omega arith)
parts_cut (b ∷ bs) text rest form h e t =
    let forms : form ≡ (cut_by b bs).0 = ap (λ (c : Cut). c.0) e in
    let rests : rest ≡ (cut_by b bs).1 = ap (λ (c : Cut). c.1) e in
    rw (t, forms, rests) (parts_first b bs)

-- the piece and what stands behind it are all of the bytes
pub whole_cut : (bytes text rest : List ℕ) (form : Form) → 0 < length bytes → (let cut : Cut = (form, rest) in cut ≡ cut_of bytes) → text ≡ take (length bytes - length rest) bytes
    → bytes ≡ text ++ rest
whole_cut [] text rest form h e t = absurd (omega arith)
whole_cut (b ∷ bs) text rest form h e t =
    let rests : rest ≡ (cut_by b bs).1 = ap (λ (c : Cut). c.1) e in
    rw (t, rests) (behind_splits (cut_by b bs).1 (b ∷ bs) (behind_one b (cut_by b bs).1 bs (cut_behind b bs)))

-- bytes that have no pieces are none
pub no_parts : (bytes : List ℕ) → length bytes ≡ 0 → parts_of bytes ≡ []
no_parts [] h = parts_none
no_parts (b ∷ bs) h = absurd (omega arith)
