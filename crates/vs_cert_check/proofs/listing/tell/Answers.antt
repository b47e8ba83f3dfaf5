use Rattle.std.proofs.Common.{◌≡◌, ℕ, ◌+◌, ◌<◌, Some, List, get_or, length, ap, ◌∙◌, refl, arith}
use Rattle.std.proofs.lemmas.List.Elements.{All-get_or}
use Rattle.vs_rules_of_starts.specs.vs_rules.specs.Verdict.{subjects}
use Rattle.vs_cert_check.specs.declared.verdict.Broken.{Broken}
use Rattle.vs_cert_check.proofs.BrokenLemmas.{told_next}
use Rattle.vs_cert_check.proofs.Judged.{told_here}
use Rattle.vs_cert_check.proofs.listing.tell.Goals as goal

pub name-requires : goal.name-requires
name-requires c =
    let k = c.args.sheet.now in
    All-get_or (λ j. j < length (subjects k.design k.claims)) c.args.found.now c.loop-i.i-index 0 (omega (arith, c.loop-i-test.true)) c.requires.within

pub loop-i-preserved : goal.loop-i-preserved
loop-i-preserved c =
    let d = c.args.sheet.now.design in
    let n = c.args.sheet.now.claims in
    let i = get_or c.args.found.now c.loop-i.i-index 0 in
    let b : Broken = record { number = c.args.rule + 1; place = c.in_ok-place.place } in
    told_next d n c.args.rule c.loop-i.i-index c.args.list.now.items c.loop-i.list.items c.push.new.self.items c.args.found.now b (omega (arith, c.loop-i-test.true))
    c.loop-i.invariant c.in_ok-push.ensures.items (told_here d n c.args.rule i b refl (ap Some c.in_ok-place.ensures.items ∙ c.name.ensures))
