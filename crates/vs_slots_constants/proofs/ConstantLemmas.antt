-- What assignments of constants give.
use Rattle.std.proofs.Common.{◌≡◌, ℕ, ◌+◌, ◌≤◌, pos, if◌then◌else◌, Option, None, List, [], ◌∷◌, length, refl, sym, ◌∙◌, ap, ⊎_elim, arith}
use Rattle.std.proofs.lemmas.Bool.{cases_lt, lt-ltb, le-ltb}
use Rattle.vs_design.specs.vs_logic4.specs.declared.digit.Digit.{Digit}
use Rattle.vs_design.specs.vs_logic4.specs.Parts.{selected}
use Rattle.vs_design.specs.declared.statement.Aim.{Aim}
use Rattle.vs_design.specs.Uses.{aim_range, is_of}
use Rattle.vs_design.specs.WellFormed.{aim_width}
use Rattle.vs_eval.specs.Places.{after}
use Rattle.vs_eval.proofs.Digits.{selected_past}
use Rattle.vs_process.specs.Places.{perform, turns, Todo}
use Rattle.vs_process.specs.Stops.{next_statement}
use Rattle.vs_rules.specs.Paths.{Bit}
use Rattle.vs_rules.specs.Constants.{any_aims, place_gives, places_give, given_by, todo_assigns}
use Rattle.vs_slots_constants.specs.Givings.{given_here, GivesByPlaces}

-- past the end of a vector each place gives the same
past_end : (p q : ℕ) (aims : List Aim) (digits : List Digit) (b : Bit) → length digits ≤ p → length digits ≤ q → places_give p aims digits b ≡ places_give q aims digits b
past_end p q [] digits b h k = refl
past_end p q (a ∷ as') digits b h k =
    ap (λ (ds : List Digit). if is_of b.signal (aim_range a) then (if any_aims b.signal as' then None else place_gives a ds b) else places_give (p + aim_width a) as' digits b)
    (selected_past p q (aim_width a) digits h k)
    ∙ ap (λ (o : Option Digit). if is_of b.signal (aim_range a) then (if any_aims b.signal as' then None else place_gives a (selected (pos q) (aim_width a) digits) b) else o)
    (past_end (p + aim_width a) (q + aim_width a) as' digits b (omega arith) (omega arith))

-- the place above one more part
pub give_after : (place width : ℕ) (aims : List Aim) (digits : List Digit) (b : Bit) → length digits ≤ 64 → places_give (place + width) aims digits b ≡ places_give (after place width) aims digits b
give_after place width aims digits b h =
    ⊎_elim
    (λ below. ap (λ c. places_give (if c then place + width else 64) aims digits b) (sym (lt-ltb (place + width) 64 below)))
    (λ above.
    past_end (place + width) 64 aims digits b (omega arith) h
    ∙ ap (λ c. places_give (if c then place + width else 64) aims digits b) (sym (le-ltb (place + width) 64 above)))
    (cases_lt (place + width) 64)

-- ---- at a place of a map

told : (k : Todo) (b : Bit) → given_by (todo_assigns k) b ≡ given_here (next_statement k) b
told [] b = refl
told (perform s ∷ rest) b = refl
told (turns n s ∷ rest) b = refl

pub gives_by_places : GivesByPlaces
gives_by_places body stops start t p b digit =
    let e = told (t.at p) b ∙ ap (λ s. given_here s b) (t.says p) in
    (λ h. e ∙ h, λ h. sym e ∙ h)
