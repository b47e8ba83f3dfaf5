-- The last write of a thread to a signal of one bit.
use Rattle.std.proofs.Common.{◌≡◌, ℕ, zero, suc, ◌⊎◌, true, false, Option, Some, None, List, [], ◌∷◌, refl, sym, ◌∙◌, ap, subst, inl, inr}
use Rattle.std.proofs.lemmas.Bool.{cases_Bool, or_cases, true≢false, false≢true}
use Rattle.std.specs.List.{list_any}
use Rattle.vs_design.specs.vs_logic4.specs.declared.digit.Digit.{Digit}
use Rattle.vs_design.specs.Parts.{Parts}
use Rattle.vs_design.specs.Stores.{Store, put, word_in}
use Rattle.vs_design.specs.Writes.{Write, names}
use Rattle.vs_independence.specs.vs_process.specs.vs_eval.specs.Laws.{digit_of, digit_in}
use Rattle.vs_process.specs.Nexts.{erased}
use Rattle.vs_process.specs.Places.{Todo, Place, going, sleeping, inactive, waiting, ended}
use Rattle.vs_process.specs.Steps.{step}
use Rattle.vs_independence.specs.vs_process.proofs.Stores.{put_other}
use Rattle.vs_rules.specs.vs_process.specs.Threads.{Thread, store_after, log_after, turn_at, turn, iterate, writes}
use Rattle.vs_rules.specs.Claims.{Claims}
use Rattle.vs_rules.specs.Constants.{bit_of, Gives}
use Rattle.vs_rules.specs.Paths.{WritesNow}
use Rattle.vs_independence.proofs.Gave.{step_gives, still_digit}
use Rattle.vs_independence.proofs.Walks.{Here, IsAtPlace, Closed, walked_iterate}
use Rattle.vs_independence.proofs.Words.{step_now}

-- the point of the last write: where it gives a constant, the signal has it
pub record Last (d : Parts) (c : Claims) (i time v : ℕ) (store : Store) : Type 0 where
  pub k : Todo
  pub here : Here d c i time k
  pub writes : WritesNow d k v
  pub gave : (digit : Digit) → Gives k (bit_of v) digit → digit_of store v 0 0 ≡ Some digit

pub record Bitwise (d : Parts) (c : Claims) (i time v : ℕ) (th : Thread) : Type 0 where
  pub digit : Digit
  pub there : digit_of th.view v 0 0 ≡ Some digit
  pub last : writes th v ≡ true → Last d c i time v th.view

same_digit : (store : Store) (w : Write) (v : ℕ) → names w v ≡ false → digit_of (put store w) v 0 0 ≡ digit_of store v 0 0
same_digit store w v h = ap (λ o. digit_in (word_in o 0) 0) (put_other store w v h)

-- the log and the view behind a step
record LogAfterStep (d : Parts) (c : Claims) (i time v : ℕ) (log : List Write) (store : Store) : Type 0 where
  digit : Digit
  there : digit_of store v 0 0 ≡ Some digit
  last : list_any (λ w. names w v) log ≡ true → Last d c i time v store

behind_step : (d : Parts) (c : Claims) (i time v : ℕ) (k : Todo) (store : Store) (log : List Write) → Here d c i time (erased k) → LogAfterStep d c i time v log store → (o : Option Write) → (step k store time).write ≡ o →
    LogAfterStep d c i time v (log_after log o) (store_after store o)
behind_step d c i time v k store log here h None is = h
behind_step d c i time v k store log here h (Some w) is = at_name (cases_Bool (names w v))
  where
    new : (z : Digit) × (digit_of (put store w) v 0 0 ≡ Some z)
    new = still_digit store w v h.digit h.there

    at_name : (names w v ≡ true) ⊎ (names w v ≡ false) → LogAfterStep d c i time v (w ∷ log) (put store w)
    at_name (inl hit) = record {
      digit = new.0;
      there = new.1;
      last = λ any. record {
        k = erased k;
        here = here;
        writes = step_now d k store time w v is hit;
        gave = λ digit g. step_gives k store time v w digit h.digit g is h.there;
      };
    }
    at_name (inr miss) = record {
      digit = h.digit;
      there = same_digit store w v miss ∙ h.there;
      last = λ any. elim (or_cases (names w v) (list_any (λ w. names w v) log) any) [
        | inl hit ↦ absurd (true≢false (sym hit ∙ miss))
        | inr old ↦
            let l = h.last old in
            record { k = l.k; here = l.here; writes = l.writes; gave = λ digit g. same_digit store w v miss ∙ l.gave digit g }
      ];
    }

bit_turn : (d : Parts) (c : Claims) (i time v : ℕ) (p : Place) (th : Thread) → IsAtPlace d c i time p → Bitwise d c i time v th → Bitwise d c i time v (turn_at time i p th)
bit_turn d c i time v (going gait k) th h b =
    let r = behind_step d c i time v k th.view th.log h (record { digit = b.digit; there = b.there; last = b.last }) (step k th.view time).write refl in
    record { digit = r.digit; there = r.there; last = r.last }
bit_turn d c i time v (inactive k) th h b = record { digit = b.digit; there = b.there; last = b.last }
bit_turn d c i time v (sleeping due k) th h b = b
bit_turn d c i time v (waiting terms k) th h b = b
bit_turn d c i time v ended th h b = b

-- a thread knows where it wrote a signal of one bit last
pub bit_iterate : (d : Parts) (c : Claims) (i : ℕ) → Closed d c i → (time n v : ℕ) (th : Thread) (y : Digit) → th.log ≡ [] → th.made ≡ [] → IsAtPlace d c i time th.place → digit_of th.view v 0 0 ≡ Some y →
    Bitwise d c i time v (iterate n (turn time i) th)
bit_iterate d c i closed time zero v th y no_log no_made h is =
    record { digit = y; there = is; last = λ w. absurd (false≢true (subst (λ (log : List Write). list_any (λ w. names w v) log ≡ true) no_log w)) }
bit_iterate d c i closed time (suc n) v th y no_log no_made h is =
    let one = iterate n (turn time i) th in
    bit_turn d c i time v one.place one (walked_iterate d c i closed time n th no_log no_made h).stands (bit_iterate d c i closed time n v th y no_log no_made h is)
