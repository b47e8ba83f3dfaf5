use Rattle.std.proofs.Common.{◌≡◌, ◌<◌, ◌-◌, arith, get_or, length}
use Rattle.std.specs.List.{slice_range}
use Rattle.vs_preprocess.specs.Files.{bytes_of}
use Rattle.vs_preprocess.proofs.Segments.{copied_are_from}
use Rattle.vs_preprocess.proofs.output.Output.copy.Goals as goal

pub put_from-requires-clause-from : goal.put_from-requires-clause-from
put_from-requires-clause-from c =
    let found = c.in-Some.ensures.lookup in
    let copied = c.in_ok-bytes.ensures.cases in
    let part = c.in-Some-get.ensures.lookup in
    let files = c.args.self.now.files.items in
    let source = c.in-Some.source.now in
    let is : source ≡ get_or files c.args.spot.file source = cc in
    let less : c.args.spot.file < length files = omega arith in
    let bytes : c.in-Some-get.copied.now ≡ slice_range (bytes_of source) c.args.spot.place c.args.end = cc in
    copied_are_from files source c.args.spot c.in-Some-get.copied.now (c.args.end - c.args.spot.place) is less bytes
