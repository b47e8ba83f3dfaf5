-- A stop by its place.
use Rattle.std.proofs.Common.{◌≡◌, ℕ, zero, suc, ◌-◌, ◌<◌, ◌≤◌, Bool, false, Option, Some, None, List, [], ◌∷◌, map, length, get_or, slice_get, refl, sym, ◌∙◌, ap, arith}
use Rattle.std.specs.Prelude.{option_map}
use Rattle.std.proofs.lemmas.Option.{slice_get_past, slice_get-map, slice_get-get_or}
use Rattle.vs_process.specs.declared.stops.Stop as k
use Rattle.vs_process.specs.Stops.{Stop, stop_view, stop_at, stop_statement}
use Rattle.vs_maps.specs.Reaches.{statement_turns, stop_turns}

pub stop_past : (xs : List k.Stop) (place : ℕ) → length xs < place → stop_at (map stop_view xs) place ≡ None
stop_past xs zero h = refl
stop_past xs (suc i) h = slice_get-map stop_view xs i ∙ ap (option_map stop_view) (slice_get_past xs i (omega (arith, h)))

pub stop_here : (xs : List k.Stop) (place : ℕ) (d : k.Stop) → 0 < place → place ≤ length xs → d ≡ get_or xs (place - 1) d → stop_at (map stop_view xs) place ≡ Some (stop_view d)
stop_here xs zero d h l e = absurd (omega (arith, h))
stop_here xs (suc i) d h l e =
    let at : slice_get xs i ≡ Some (get_or xs i d) = slice_get-get_or xs i d (omega (arith, l)) in
    let same : get_or xs i d ≡ d = sym (e ∙ ap (λ n. get_or xs n d) (omega arith)) in
    slice_get-map stop_view xs i ∙ ap (option_map stop_view) (at ∙ ap Some same)

-- ---- its mark

abbrev told : Option Bool → Bool
told None = false
told (Some b) = b

stop_told : (o : Option Stop) → statement_turns (stop_statement o) ≡ told (option_map stop_turns o)
stop_told None = refl
stop_told (Some s) = refl

turned_at : (stops : List Stop) (turns : List Bool) (i : ℕ) → turns ≡ map stop_turns stops → statement_turns (stop_statement (slice_get stops i)) ≡ told (slice_get turns i)
turned_at stops turns i e = stop_told (slice_get stops i) ∙ ap told (sym (slice_get-map stop_turns stops i) ∙ ap (λ (l : List Bool). slice_get l i) (sym e))

pub turn_past : (stops : List Stop) (turns : List Bool) (place : ℕ) → turns ≡ map stop_turns stops → length turns < place → statement_turns (stop_statement (stop_at stops place)) ≡ false
turn_past stops turns zero e h = refl
turn_past stops turns (suc i) e h = turned_at stops turns i e ∙ ap told (slice_get_past turns i (omega (arith, h)))

pub turn_here : (stops : List Stop) (turns : List Bool) (place : ℕ) → turns ≡ map stop_turns stops → 0 < place → place ≤ length turns →
    statement_turns (stop_statement (stop_at stops place)) ≡ get_or turns (place - 1) false
turn_here stops turns zero e h l = absurd (omega (arith, h))
turn_here stops turns (suc i) e h l =
    turned_at stops turns i e ∙ ap told (slice_get-get_or turns i false (omega (arith, l))) ∙ ap (λ (n : ℕ). get_or turns n false) (omega arith)

-- the marks of the stops of a map
pub marks_told : (xs : List k.Stop) → map (λ (s : k.Stop). stop_turns (stop_view s)) xs ≡ map stop_turns (map stop_view xs)
marks_told [] = refl
marks_told (x ∷ xs) = ap (λ (l : List Bool). stop_turns (stop_view x) ∷ l) (marks_told xs)
