use Rattle.std.proofs.Common.{ap, arith}
use Rattle.std.specs.List.{flat_map}
use Rattle.std.proofs.lemmas.List.{drop_more, drop_all}
use Rattle.vs_scopes.specs.Texts.{shown_byte}
use Rattle.vs_scopes.proofs.PassLemmas.{moved_by, ended}
use Rattle.vs_scopes.proofs.texts.push_bytes.Goals as goal

pub loop-c-preserved : goal.loop-c-preserved
loop-c-preserved c =
    moved_by c.loop-c.text.items c.push_byte.new.text.items _ _ _ _ c.in_ok-push_byte.ensures (ap (flat_map shown_byte) (drop_more c.args.bytes.now c.loop-c.c-index 0 (omega arith))) c.loop-c.invariant

pub returns : goal.returns
returns c = ended _ _ _ (ap (flat_map shown_byte) (drop_all c.loop-c.c-index c.args.bytes.now (omega arith))) c.loop-c.invariant
