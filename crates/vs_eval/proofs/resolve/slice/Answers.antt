use Rattle.std.proofs.Common.{refl, length, sym, ◌∙◌, ap, rules, w32}
use Rattle.std.proofs.lemmas.Int.{to_z-of_z}
use mir.Val.{SFits}
use Rattle.vs_design.specs.Stores.{word_of}
use Rattle.vs_eval.proofs.CopyLemmas.{kept_whole}
use Rattle.vs_eval.proofs.WordLemmas.{all_bits_mean, bits_long, some_bits_mean}
use Rattle.vs_eval.proofs.resolve.slice.Goals as goal

pub returns-in_default : goal.returns-in_default
returns-in_default c =
    kept_whole c.args.e.now c.args.s.width c.args.design.now.signals _ c.other.result
    (λ law store time is. ap length (law store time) ∙ bits_long c.args.s.low c.args.s.width (word_of store c.args.s.signal c.args.s.word)) c.other.ensures

pub returns-in_default-place_in : goal.returns-in_default-place_in
returns-in_default-place_in c =
    kept_whole c.args.e.now c.args.s.width c.args.design.now.signals _ c.other-in_default-place_in.result
    (λ law store time is. ap length (law store time) ∙ bits_long c.args.s.low c.args.s.width (word_of store c.args.s.signal c.args.s.word)) c.other-in_default-place_in.ensures

pub returns-then-s-size : goal.returns-then-s-size
returns-then-s-size c = λ law.
    let fits : SFits w32 c.args.s.low = search rules in
    all_bits_mean c.args.design.now.signals c.args.e.now c.args.s c.in-Some.number c.in-Some.size.width c.in-Some-place_in.low
    c.in-Some.ensures (sym (to_z-of_z w32 c.args.s.low fits) ∙ c.in-Some-place_in.ensures.0) c.in-Some-place_in.ensures.1 law c.if-s-size.true

pub returns : goal.returns
returns c = λ law.
    let fits : SFits w32 c.args.s.low = search rules in
    some_bits_mean c.args.design.now.signals c.args.e.now c.args.s c.in-Some.number c.in-Some.size.width c.in-Some-place_in.low
    c.in-Some.ensures (sym (to_z-of_z w32 c.args.s.low fits) ∙ c.in-Some-place_in.ensures.0) c.in-Some-place_in.ensures.1 law _ refl refl refl
