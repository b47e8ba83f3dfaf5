-- Lemmas on the places of a target's digits.
use Rattle.std.proofs.Common.{◌≡◌, ℕ, ◌+◌, ◌≤◌, pos, if◌then◌else◌, List, [], ◌∷◌, ◌++◌, append_assoc, length, refl, sym, ◌∙◌, ap, ap₂, subst, ⊎_elim, arith}
use Rattle.std.proofs.lemmas.Bool.{cases_lt, lt-ltb, le-ltb}
use Rattle.vs_design.specs.vs_logic4.specs.declared.digit.Digit.{Digit}
use Rattle.vs_design.specs.vs_logic4.specs.Parts.{selected}
use Rattle.vs_design.specs.declared.statement.Aim.{Aim}
use Rattle.vs_design.specs.declared.write.Part.{Part}
use Rattle.vs_design.specs.Writes.{Write}
use Rattle.vs_design.specs.Stores.{Store}
use Rattle.vs_design.specs.WellFormed.{aim_width}
use Rattle.vs_eval.specs.Places.{after}
use Rattle.vs_eval.specs.Targets.{parts_from, part_at}
use Rattle.vs_eval.proofs.Digits.{selected_past}

-- ---- the parts of a target

-- past the end of a vector each part is the same
past_end : (p q : ℕ) (aims : List Aim) (digits : List Digit) (store : Store) (time : ℕ) → length digits ≤ p → length digits ≤ q →
    parts_from p aims digits store time ≡ parts_from q aims digits store time
past_end p q [] digits store time h k = refl
past_end p q (a ∷ as') digits store time h k =
    ap₂ (λ ds rest. part_at a ds store time ∷ rest)
    (selected_past p q (aim_width a) digits h k)
    (past_end (p + aim_width a) (q + aim_width a) as' digits store time (omega arith) (omega arith))

-- the place above one more part
pub parts_after : (place width : ℕ) (aims : List Aim) (digits : List Digit) (store : Store) (time : ℕ) → length digits ≤ 64 →
    parts_from (place + width) aims digits store time ≡ parts_from (after place width) aims digits store time
parts_after place width aims digits store time h =
    ⊎_elim
    (λ below. ap (λ b. parts_from (if b then place + width else 64) aims digits store time) (sym (lt-ltb (place + width) 64 below)))
    (λ above.
    past_end (place + width) 64 aims digits store time (omega arith) h
    ∙ ap (λ b. parts_from (if b then place + width else 64) aims digits store time) (sym (le-ltb (place + width) 64 above)))
    (cases_lt (place + width) 64)

pub after_most : (place width : ℕ) → after place width ≤ 64
after_most place width = ⊎_elim
    (λ below. subst (λ n. n ≤ 64) (ap (λ b. if b then place + width else 64) (sym (lt-ltb (place + width) 64 below))) (omega arith))
    (λ above. subst (λ n. n ≤ 64) (ap (λ b. if b then place + width else 64) (sym (le-ltb (place + width) 64 above))) (omega arith))
    (cases_lt (place + width) 64)

-- one part more of a write
pub parts_pushed : (made done : Write) (part : Part) (place next width : ℕ) (a : Aim) (rest : List Aim) (digits : List Digit) (store : Store) (time : ℕ) →
    done ≡ made ++ part ∷ [] → width ≡ aim_width a → part ≡ part_at a (selected (pos place) width digits) store time → next ≡ after place width → length digits ≤ 64 →
    done ++ parts_from next rest digits store time ≡ made ++ parts_from place (a ∷ rest) digits store time
parts_pushed made done part place next width a rest digits store time is size at above short =
    ap₂ (λ w n. w ++ parts_from n rest digits store time) is above
    ∙ append_assoc made (part ∷ []) (parts_from (after place width) rest digits store time)
    ∙ ap₂ (λ p ps. made ++ p ∷ ps) at (sym (parts_after place width rest digits store time short))
    ∙ ap (λ n. made ++ part_at a (selected (pos place) n digits) store time ∷ parts_from (place + n) rest digits store time) size
