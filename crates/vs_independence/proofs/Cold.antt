-- A block that the rules say starts cold does.
use Rattle.std.proofs.Common.{◌≡◌, ℕ, zero, suc, ◌⊎◌, true, Option, Some, List, [], ◌∷◌, ◌++◌, slice_get, refl, sym, ◌∙◌, ap, subst, inl, inr}
use Rattle.std.proofs.lemmas.Bool.{eqb-true}
use Rattle.std.proofs.lemmas.Option.{none-some, same_Some}
use Rattle.vs_design.specs.declared.statement.EventTerm.{EventTerm}
use Rattle.vs_design.specs.Parts.{Parts}
use Rattle.vs_design.specs.Stores.{Store, word_in}
use Rattle.vs_design.specs.Uses.{covers}
use Rattle.vs_independence.specs.vs_process.specs.vs_eval.specs.Laws.{digit_in}
use Rattle.vs_process.specs.declared.gait.Gait.{Gait}
use Rattle.vs_process.specs.declared.gait.Gait.TheVariants.{Woken, Inside}
use Rattle.vs_process.specs.Places.{todo_of, flat, Todo, Place, going, waiting, stepped_gait, perform}
use Rattle.vs_process.specs.Steps.{Next, on, after, wait, step}
use Rattle.vs_independence.specs.vs_process.specs.States.{place_after_step}
use Rattle.vs_design.specs.vs_logic4.proofs.Basics.{element_of as any_at}
use Rattle.vs_independence.specs.vs_process.proofs.Ranges.{covers_signal}
use Rattle.vs_rules.specs.vs_process.specs.BlockDrivers.{home, woken_on, IsRun, StartsCold}
use Rattle.vs_rules.specs.vs_process.specs.Threads.{Thread, turn, turn_at, moved, store_after}
use Rattle.vs_rules.specs.vs_process.proofs.ThreadLists.{contains_at}
use Rattle.vs_rules.specs.vs_process.proofs.Texts.{Text, text_of, GoesOrWaits, goes_on, arrives}
use Rattle.vs_rules.specs.vs_process.proofs.BlockRuns.{run_facts}
use Rattle.vs_rules.specs.Claims.{Claims, cold, HasStart}
use Rattle.vs_rules.specs.Paths.{Writes, writes_of}
use Rattle.vs_rules.specs.Blocks.{K5, K11, run_alone, arrived, StaysCold}
use Rattle.vs_independence.proofs.Shapes.{Shape}

-- ---- a run

-- nothing is left to do: it arrives nowhere
never : (most : ℕ) (store new : Store) → run_alone most [] store ≡ Some new → ⊥
never zero store new h = none-some new h
never (suc most) store new h = never most store new h

-- it has come to a control with this store
record Arrived (d : Parts) (k : ℕ) (first new : Store) : Type 0 where
  end : Thread
  run : IsRun d k 0 first end
  view : end.view ≡ new
  terms : List EventTerm
  rest : Todo
  place : end.place ≡ waiting terms rest

same_rest : (a b : Todo) → on a ≡ on b → a ≡ b
same_rest a b same = cc

comes : (d : Parts) (k most : ℕ) (first new : Store) (th : Thread) (gait : Gait) (todo : Todo) → IsRun d k 0 first th → th.place ≡ going gait todo →
    run_alone most todo th.view ≡ Some new → Arrived d k first new
comes d k zero first new th gait todo run place h = absurd (none-some new h)
comes d k (suc most) first new th gait todo run place h = by_next (λ th gait todo. comes d k most first new th gait todo) (step todo th.view 0).next refl
  where
    turned : turn 0 k th ≡ moved 0 k (going gait todo) (step todo th.view 0) th
    turned = ap (λ (p : Place). turn_at 0 k p th) place

    later : IsRun d k 0 first (turn 0 k th)
    later = record { count = suc run.count; is = ap (turn 0 k) run.is }

    view : (turn 0 k th).view ≡ store_after th.view (step todo th.view 0).write
    view = ap (λ (x : Thread). x.view) turned

    by_next : ((th : Thread) (gait : Gait) (todo : Todo) → IsRun d k 0 first th → th.place ≡ going gait todo → run_alone most todo th.view ≡ Some new → Arrived d k first new) →
        (next : Next) → (step todo th.view 0).next ≡ next → Arrived d k first new
    by_next again (on l) e = by_rest l e
      where
        goes : run_alone most l (turn 0 k th).view ≡ Some new
        goes =
            ap (run_alone most l) view
            ∙ sym (ap (λ (n : Next). arrived n (λ l new. run_alone most l new) (store_after th.view (step todo th.view 0).write)) e) ∙ h

        by_rest : (r : Todo) → (step todo th.view 0).next ≡ on r → Arrived d k first new
        by_rest [] f = absurd (never most (turn 0 k th).view new (subst (λ (r : Todo). run_alone most r (turn 0 k th).view ≡ Some new) (same_rest l [] (sym e ∙ f)) goes))
        by_rest (i ∷ r) f =
            again (turn 0 k th) (stepped_gait gait) (i ∷ r) later
            (ap (λ (x : Thread). x.place) turned ∙ ap (place_after_step (going gait todo) 0) f)
            (subst (λ (r : Todo). run_alone most r (turn 0 k th).view ≡ Some new) (same_rest l (i ∷ r) (sym e ∙ f)) goes)
    by_next again (after number ticks l) e =
        absurd (none-some new (sym (ap (λ (n : Next). arrived n (λ l new. run_alone most l new) (store_after th.view (step todo th.view 0).write)) e) ∙ h))
    by_next again (wait number terms l) e = record {
      end = turn 0 k th;
      run = later;
      view = view ∙ same_Some _ new (sym (ap (λ (n : Next). arrived n (λ l new. run_alone most l new) (store_after th.view (step todo th.view 0).write)) e) ∙ h);
      terms = terms;
      rest = l;
      place = ap (λ (x : Thread). x.place) turned ∙ ap (place_after_step (going gait todo) 0) e;
    }

-- a block that waits, waits at its control
at_home : (d : Parts) (k : ℕ) (t : Text d k) (p : Place) (terms : List EventTerm) (rest : Todo) → p ≡ waiting terms rest →
    (p ≡ going Woken (todo_of (home d k))) ⊎ GoesOrWaits d k t Inside p → p ≡ home d k
at_home d k t p terms rest is (inl e) = let f : waiting terms rest ≡ going Woken (todo_of (home d k)) = sym is ∙ e in cc
at_home d k t p terms rest is (inr (goes_on todo way e)) = let f : waiting terms rest ≡ going Inside todo = sym is ∙ e in cc
at_home d k t p terms rest is (inr (arrives e)) = e

pub starts_cold : (d : Parts) (c : Claims) (k : ℕ) → K5 d c k → K11 d c k → Shape d k → HasStart d c k cold → StartsCold d k
starts_cold d c k five r s is = record {
  store = stays.settled;
  is = stays.is;
  end = come.end;
  run = record { run = come.run; home = at_home d k text come.end.place come.terms come.rest come.place (run_facts d k text 0 stays.settled come.end come.run).stands };
  same = λ v w n cov. ap (λ (words : Option (List (List _))). digit_in (word_in words w) n) (ap (λ (x : Store). slice_get x v) come.view ∙ stays.same v (written v w n cov));
}
  where
    text : Text d k
    text = text_of d k s.process s.is (five.shape s.process (cold, is) s.is)

    behind : Todo
    behind = flat s.body ++ perform s.process.body ∷ []

    stays : StaysCold d k behind
    stays = (r cold is).stays s.waits behind s.number s.terms s.point s.goes

    come : Arrived d k stays.settled stays.store
    come =
        comes d k 10000 stays.settled stays.store (woken_on d k stays.settled) Woken behind (record { count = 0; is = refl })
        (ap (λ (p : Place). going Woken (todo_of p)) s.home) stays.arrives

    written : (v w n : ℕ) → Rattle.std.specs.List.list_any (covers v w n) (writes_of d k) ≡ true → Writes d k v
    written v w n cov =
        let found = any_at (covers v w n) (writes_of d k) cov in
        record { range = found.1; listed = (contains_at (writes_of d k) found.0 found.1 found.2, tt); of = eqb-true found.1.signal v (covers_signal v w n found.1 found.3) }
