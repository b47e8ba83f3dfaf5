use Rattle.std.proofs.Common.{slice_get, sym, ap, ◌∙◌, arith}
use Rattle.vs_vcd_writing.proofs.WordLemmas.{length_of_words, kept_at}
use Rattle.vs_vcd_writing.proofs.kept.Written.at.Goals as goal

pub index-requires : goal.index-requires
index-requires c = omega (arith, c.requires, length_of_words c.self.inside.codes.items c.self.inside.words c.args.self.now c.self.invariant c.self.view_is, c.self.invariant)

pub word-requires : goal.word-requires
word-requires c = omega (arith, c.requires, length_of_words c.self.inside.codes.items c.self.inside.words c.args.self.now c.self.invariant c.self.view_is)

pub returns : goal.returns
returns c =
    sym (ap (λ l. slice_get l c.args.signal) c.self.view_is)
    ∙ kept_at c.self.inside.codes.items c.self.inside.words c.args.signal c.index.result.now c.index.result.now c.word.result
    (omega (arith, c.requires, length_of_words c.self.inside.codes.items c.self.inside.words c.args.self.now c.self.invariant c.self.view_is, c.self.invariant)) c.index.ensures c.word.ensures
