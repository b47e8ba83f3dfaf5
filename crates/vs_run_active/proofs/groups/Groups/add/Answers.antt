use Rattle.std.proofs.Common.{◌≡◌, ℕ, ◌+◌, ◌<◌, List, ◌∷◌, ◌++◌, length, take, drop, get_or, sym, ◌∙◌, ap, subst, arith}
use Rattle.std.proofs.lemmas.List.{length-drop}
use Rattle.vs_run_active.specs.declared.watchers.Watcher.{Watcher}
use Rattle.vs_run_active.specs.Groups.{Adds}
use Rattle.vs_run_active.proofs.GroupsLemmas.{adds_both, adds_none, all_at, no_watcher, taken}
use Rattle.vs_run_active.proofs.groups.Groups.add.Goals as goal

pub loop-from-init : goal.loop-from-init
loop-from-init c = record { within = omega arith; adds = adds_none c.args.self.now c.args.watchers.now.items }

pub add_next-requires-clause-number : goal.add_next-requires-clause-number
add_next-requires-clause-number c =
    subst (λ (k : ℕ). (get_or c.args.plain.now c.loop-from.from no_watcher).number < k) (sym c.loop-from.invariant.adds.assigns_are)
    (all_at c.args.self.now.assigns c.args.plain.now c.loop-from.from no_watcher c.requires.numbers c.loop-from-test.true)

pub loop-from-preserved : goal.loop-from-preserved
loop-from-preserved c =
    let long : length c.rest_after-rest.result.now ≡ length (drop (c.loop-from.from + 1) c.args.plain.now) = ap {B = ℕ} (λ (l : List Watcher). length l) c.rest_after-rest.ensures in
    record {
      within = omega (arith, c.in_ok-more.ensures.within, long, length-drop (c.loop-from.from + 1) c.args.plain.now, c.loop-from-test.true);
      adds = subst (λ (l : List Watcher). Adds c.args.self.now c.add_next.new.self c.args.watchers.now.items c.add_next.new.watchers.items l)
          (ap (λ (l : List Watcher). take c.loop-from.from c.args.plain.now ++ get_or c.args.plain.now c.loop-from.from no_watcher ∷ take c.in_ok-more.more l) c.rest_after-rest.ensures
          ∙ taken c.args.plain.now c.loop-from.from c.in_ok-more.more no_watcher c.loop-from-test.true)
          (adds_both c.args.self.now c.loop-from.self c.add_next.new.self c.args.watchers.now.items c.loop-from.watchers.items c.add_next.new.watchers.items
          (take c.loop-from.from c.args.plain.now) _ c.loop-from.invariant.adds c.in_ok-more.ensures.adds);
    }
