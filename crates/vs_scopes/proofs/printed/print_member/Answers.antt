use Rattle.std.proofs.Common.{◌<◌, length}
use Rattle.std.proofs.lemmas.List.{length-map}
use Rattle.vs_scopes.specs.scopes_passes.Names.{read_path}
use Rattle.vs_scopes.proofs.PrintedLemmas.{member_text}
use Rattle.vs_scopes.proofs.printed.print_member.Goals as goal

pub returns : goal.returns
returns c =
    let some : 0 < length (read_path c.args.path.now) = rw length-map c.requires in
    member_text (read_path c.args.path.now) c.args.name.now _ _ _ some c.in_ok-text.ensures c.in_ok-push.ensures.items c.in_ok-push_name.ensures
