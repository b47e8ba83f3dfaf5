use Rattle.std.proofs.Common.{map}
use Rattle.vs_preprocess.specs.Files.{bytes_of}
use Rattle.vs_preprocess.proofs.Segments.{expanded_from, made_from}
use Rattle.vs_preprocess.proofs.output.Output.put_expansion.Goals as goal

pub put_from-requires-clause-from : goal.put_from-requires-clause-from
put_from-requires-clause-from c = expanded_from (map bytes_of c.args.self.now.files.items) c.in_ok-spot.spot c.in-Some.number c.args.bytes.now c.in_ok-spot.ensures

pub put_from-requires-in-None-clause-from : goal.put_from-requires-in-None-clause-from
put_from-requires-in-None-clause-from c = made_from (map bytes_of c.args.self.now.files.items) c.in_ok-spot.spot c.args.bytes.now c.in_ok-spot.ensures
