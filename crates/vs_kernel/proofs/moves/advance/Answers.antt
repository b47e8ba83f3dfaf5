use Rattle.vs_kernel.proofs.LeavingLemmas.{IsAdvanced, advance_made, advance_run, none_before}
use Rattle.vs_kernel.proofs.moves.advance.Goals as goal

pub advance-requires-clause-none_before : goal.advance-requires-clause-none_before
advance-requires-clause-none_before g c = none_before c.args.run.now.design.now c.args.run.now c.args.time c.requires.run c.requires.next

pub returns-clause-run : goal.returns-clause-run
returns-clause-run g c =
    let all : IsAdvanced c.args.run.now c.args.time c.advance.new.self c.wake_each.new.events c.clear.new.self c.advance.new.woken = record {
      others = c.clear-2.new.self.items;
      woken = c.in_ok-advance.ensures.woken;
      processes = c.in_ok-wake_each.ensures.processes;
      assigns = c.in_ok-wake_each.ensures.assigns;
      calls_none = c.clear.ensures.items;
      updates = c.in_ok-advance.ensures.updates;
      time_is = c.advance.ensures.time;
      inactive = c.advance.ensures.inactive;
      signals = c.advance.ensures.signals;
      taken = c.advance.ensures.taken;
      later = c.advance.ensures.others;
    } in
    advance_run c.args.run.now.design.now c.args.run.now c.args.time c.advance.new.self c.wake_each.new.events c.clear.new.self c.advance.new.woken c.requires.run c.requires.going c.requires.goes_on
    c.requires.next all

pub returns-clause-made : goal.returns-clause-made
returns-clause-made g c =
    let all : IsAdvanced c.args.run.now c.args.time c.advance.new.self c.wake_each.new.events c.clear.new.self c.advance.new.woken = record {
      others = c.clear-2.new.self.items;
      woken = c.in_ok-advance.ensures.woken;
      processes = c.in_ok-wake_each.ensures.processes;
      assigns = c.in_ok-wake_each.ensures.assigns;
      calls_none = c.clear.ensures.items;
      updates = c.in_ok-advance.ensures.updates;
      time_is = c.advance.ensures.time;
      inactive = c.advance.ensures.inactive;
      signals = c.advance.ensures.signals;
      taken = c.advance.ensures.taken;
      later = c.advance.ensures.others;
    } in
    advance_made c.args.run.now.design.now c.args.run.now c.args.time c.advance.new.self c.wake_each.new.events c.clear.new.self c.advance.new.woken c.requires.run c.requires.going c.requires.goes_on
    c.requires.next all
