use Rattle.std.proofs.Common.{ℕ, ◌-◌, List, get_or, map, refl, sym, ◌∙◌, ap}
use Rattle.std.proofs.lemmas.Result.{on_ok_weaker}
use Rattle.vs_run_active.specs.Groups.{group_members, meaning, no_group, numbered_as}
use Rattle.vs_run_active.specs.Wakes.{has_one, woken_all, woken_watched}
use Rattle.vs_run_active.proofs.GroupsLemmas.{meant_group}
use Rattle.vs_run_active.proofs.WakesLemmas.{all_spelled, none_spelled}
use Rattle.vs_run_active.proofs.events.Events.wake_reader.Goals as goal

pub returns-then-not-has-clause-assigns : goal.returns-then-not-has-clause-assigns
returns-then-not-has-clause-assigns c =
    none_spelled c.args.word c.args.bits c.args.watcher (meaning c.args.groups.now c.args.watcher.number) c.args.self.now.assigns (sym c.has.ensures ∙ c.if-not-has.true)

pub returns-then-each-clause-assigns : goal.returns-then-each-clause-assigns
returns-then-each-clause-assigns c =
    let g = get_or c.args.groups.now.groups.items (c.args.watcher.number - c.args.groups.now.assigns) no_group in
    let members = group_members g c.args.groups.now.members.items in
    on_ok_weaker c.wake_each_member.result
    (λ h.
    h
    ∙ ap (λ (ns : List ℕ). woken_all ns c.args.self.now.assigns) c.members_of.ensures
    ∙ all_spelled c.args.word c.args.bits c.args.watcher members c.args.self.now.assigns (sym c.has.ensures ∙ c.if-not-has.false)
    ∙ sym (ap (λ (ns : List ℕ). woken_watched (has_one c.args.word c.args.bits) (map (numbered_as c.args.watcher) ns) c.args.self.now.assigns)
    (meant_group c.args.groups.now.assigns c.args.watcher.number c.args.groups.now.groups.items c.args.groups.now.members.items g c.if-watcher-groups.false refl)))
    c.wake_each_member.ensures.assigns

pub returns-clause-assigns : goal.returns-clause-assigns
returns-clause-assigns c =
    let g = get_or c.args.groups.now.groups.items (c.args.watcher.number - c.args.groups.now.assigns) no_group in
    c.wake_group.ensures.assigns
    ∙ all_spelled c.args.word c.args.bits c.args.watcher (group_members g c.args.groups.now.members.items) c.args.self.now.assigns (sym c.has.ensures ∙ c.if-not-has.false)
    ∙ sym (ap (λ (ns : List ℕ). woken_watched (has_one c.args.word c.args.bits) (map (numbered_as c.args.watcher) ns) c.args.self.now.assigns)
    (meant_group c.args.groups.now.assigns c.args.watcher.number c.args.groups.now.groups.items c.args.groups.now.members.items g c.if-watcher-groups.false refl))
