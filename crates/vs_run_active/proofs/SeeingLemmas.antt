-- Watchers that see a word wake what all of a row wake.
use Rattle.std.proofs.Common.{◌≡◌, ℕ, ◌==◌, not, Bool, true, false, if◌then◌else◌, List, [], ◌∷◌, bit_and, refl, sym, ◌∙◌, ap}
use Rattle.std.proofs.lemmas.Bool.{and_right}
use Rattle.vs_run_active.specs.vs_process.specs.States.{AssignState}
use Rattle.vs_run_active.specs.declared.watchers.Watcher.{Watcher}
use Rattle.vs_run_active.specs.Groups.{spelled, spelled_one}
use Rattle.vs_run_active.specs.Words.{seeing, sees_word}
use Rattle.vs_run_active.specs.Wakes.{has_one, woken_watched}
use Rattle.vs_run_active.proofs.WakesLemmas.{none_spelled, woken_watched-append}

one_seen : (word bits : ℕ) (meant : ℕ → List ℕ) (w : Watcher) (seen ws : List Watcher) (xs : List AssignState) (b : Bool) → sees_word word w ≡ b →
    ((ys : List AssignState) → woken_watched (has_one word bits) (spelled meant seen) ys ≡ woken_watched (has_one word bits) (spelled meant ws) ys) →
    woken_watched (has_one word bits) (spelled meant (if b then w ∷ seen else seen)) xs ≡ woken_watched (has_one word bits) (spelled meant (w ∷ ws)) xs
one_seen word bits meant w seen ws xs true is h =
    woken_watched-append (has_one word bits) (spelled_one meant w) (spelled meant seen) xs
    ∙ h (woken_watched (has_one word bits) (spelled_one meant w) xs)
    ∙ sym (woken_watched-append (has_one word bits) (spelled_one meant w) (spelled meant ws) xs)
one_seen word bits meant w seen ws xs false is h =
    h xs
    ∙ ap (woken_watched (has_one word bits) (spelled meant ws))
    (none_spelled word bits w (meant w.number) xs (and_right (not (bit_and w.mask.bits bits == 0)) (sees_word word w) is))
    ∙ sym (woken_watched-append (has_one word bits) (spelled_one meant w) (spelled meant ws) xs)

-- those that don't see a word wake nothing at it
seen_wake : (word bits : ℕ) (meant : ℕ → List ℕ) (ws : List Watcher) (xs : List AssignState) →
    woken_watched (has_one word bits) (spelled meant (seeing word ws)) xs ≡ woken_watched (has_one word bits) (spelled meant ws) xs
seen_wake word bits meant [] xs = refl
seen_wake word bits meant (w ∷ ws) xs = one_seen word bits meant w (seeing word ws) ws xs (sees_word word w) refl (λ ys. seen_wake word bits meant ws ys)

-- watchers of which the same see a word wake the same at it
pub same_wake : (word bits : ℕ) (meant : ℕ → List ℕ) (us ws : List Watcher) (xs : List AssignState) → seeing word us ≡ seeing word ws →
    woken_watched (has_one word bits) (spelled meant us) xs ≡ woken_watched (has_one word bits) (spelled meant ws) xs
same_wake word bits meant us ws xs h =
    sym (seen_wake word bits meant us xs) ∙ ap (λ (l : List Watcher). woken_watched (has_one word bits) (spelled meant l) xs) h ∙ seen_wake word bits meant ws xs
