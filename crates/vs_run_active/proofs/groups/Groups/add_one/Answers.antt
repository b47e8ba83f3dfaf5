use Rattle.vs_run_active.proofs.GroupsLemmas.{adds_one}
use Rattle.vs_run_active.proofs.groups.Groups.add_one.Goals as goal

pub returns : goal.returns
returns c = adds_one c.args.self.now c.args.watchers.now.items c.push.new.self.items c.args.watcher c.requires c.in_ok-push.ensures.items
