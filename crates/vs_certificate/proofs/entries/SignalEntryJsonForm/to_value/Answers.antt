use Rattle.std.proofs.Common.{refl}
use Rattle.serde_json.proofs.Views.{view-Object}
use Rattle.vs_certificate.proofs.entries.SignalEntryJsonForm.to_value.Goals as goal

pub returns : goal.returns
returns c = rw (view-Object c.in_ok-members-4.members, c.in_ok-members-4.ensures, c.in_ok-members-3.ensures, c.in_ok-members-2.ensures, c.in_ok-members.ensures, c.new.ensures.empty) refl
