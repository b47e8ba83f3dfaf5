-- Reading the text of a macro piece by piece.
use Rattle.std.proofs.Common.{ℕ, ◌≡◌, List, [], None, Ok, Err, ap, subst, sym, ◌∙◌}
use Rattle.vs_prep_macros.specs.Parts.{parts_of}
use Rattle.vs_prep_macros.specs.declared.fault.Halt.{Halt}
use Rattle.vs_prep_macros.specs.declared.fault.Halt.TheVariants as h
use Rattle.vs_prep_macros.specs.Answers.{Stops}
use Rattle.vs_prep_macros.specs.Bodies.{Found, IsBody, PutsNext, put_first, put_joint, put_next}
use Rattle.vs_prep_macros.specs.Folds.{Goes, Ends, Through, ends, goes}
use Rattle.vs_prep_macros.specs.Spaces.{after_joint, without_end}
use Rattle.vs_prep_macros.proofs.Reading.{no_bytes}

-- what is found from here on is found from the beginning
pub record SoFar (bytes body rest : List ℕ) : Type 0 where
  pub found : (found : Found) → Through PutsNext body rest found → IsBody bytes found

pub so_far_none : (bytes body : List ℕ) → body ≡ [] → SoFar bytes body bytes
so_far_none bytes body e = record { found = λ found t. subst (λ (b : List ℕ). Through PutsNext b bytes found) e t }

pub so_far_next : (bytes old at new rest : List ℕ) → SoFar bytes old at → put_next old at ≡ Goes (new, rest) → SoFar bytes new rest
so_far_next bytes old at new rest so e = record { found = λ found t. so.found found (goes e t) }

pub so_far_ends : (bytes old at text : List ℕ) → SoFar bytes old at → put_next old at ≡ Ends (Ok (text, at)) → IsBody bytes (Ok (text, at))
so_far_ends bytes old at text so e = so.found (Ok (text, at)) (ends e)

pub so_far_stops : (bytes old at : List ℕ) (e : Halt) → SoFar bytes old at → Stops (λ r. put_next old at ≡ Ends r) e → Stops (IsBody bytes) e
so_far_stops bytes old at h.Memory so s = tt
so_far_stops bytes old at (h.Here fault) so s = so.found (Err (h.Here fault)) (ends s)
so_far_stops bytes old at (h.At fault left) so s = so.found (Err (h.At fault left)) (ends s)

-- nothing comes next
pub put_none : (body bytes : List ℕ) → after_joint bytes ≡ None → parts_of bytes ≡ [] → put_next body bytes ≡ Ends (Ok (without_end body, bytes))
unfolding put_next
put_none body bytes j e = ap (put_joint body bytes) j ∙ ap (put_first body) e ∙ ap (λ (rest : List ℕ). Ends (Ok (without_end body, rest))) (sym (no_bytes bytes e))
