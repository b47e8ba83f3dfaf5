use Rattle.std.proofs.Common.{◌≡◌, ℕ, ◌+◌, List, ◌++◌, map, length, refl, ◌∙◌, ap, arith}
use Rattle.vs_run_active.specs.declared.watchers.Watcher.{Watcher}
use Rattle.vs_run_active.proofs.GroupsLemmas.{adds_group}
use Rattle.vs_run_active.proofs.groups.Groups.add_group.Goals as goal

pub returns : goal.returns
returns c =
    let begins : c.len-from.result ≡ length c.args.self.now.members.items = omega (arith, c.len-from.ensures, c.args.self.now.members.ok.0) in
    let ends : c.len-to.result ≡ length c.add_members.new.members.items = omega (arith, c.len-to.ensures, c.add_members.new.members.ok.0) in
    let named : c.args.self.now.assigns + c.len.result ≡ c.args.self.now.assigns + length c.args.self.now.groups.items = omega (arith, c.len.ensures, c.args.self.now.groups.ok.0) in
    adds_group c.args.self.now (record { groups = c.push-2.new.self; members = c.add_members.new.members; assigns = c.args.self.now.assigns }) c.args.watchers.now.items
    c.push-3.new.self.items c.args.first c.args.rest.now c.len-from.result c.len-to.result (c.args.self.now.assigns + c.len.result) c.requires.alike begins ends named
    (c.in_ok-add_members.ensures ∙ ap (λ (l : List ℕ). l ++ map (λ (w : Watcher). w.number) c.args.rest.now) c.in_ok-push.ensures.items)
    c.in_ok-push-2.ensures.items refl c.in_ok-push-3.ensures.items
