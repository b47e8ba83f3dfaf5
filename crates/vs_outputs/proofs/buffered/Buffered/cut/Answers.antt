use Rattle.std.proofs.Common.{◌≡◌, ◌∙◌, ◌≤◌, ℕ, List, ap, arith, drop, inr, length, refl, subst, sym}
use Rattle.std.specs.Io.KnownBytes.{Keeps, append_known}
use Rattle.std.proofs.lemmas.Slice.Eq.{bytes_eq-Decides}
use Rattle.vs_outputs.proofs.Buffers.{line_cut}
use Rattle.vs_outputs.proofs.buffered.Buffered.cut.Goals as goal

pub returns-then-eq-clause-cut : goal.returns-then-eq-clause-cut
returns-then-eq-clause-cut g c =
    let self = c.args.self.now in
    let all = self.gathered.items in
    let line = c.args.line.now in
    let left = c.saturating_sub-left.result in
    let held = g.W.Write.contents self.writer in
    let is : drop left all ≡ line =
    sym (c.split_at.ensures.back ∙ ap (drop left) c.deref.ensures.value) ∙ (bytes_eq-Decides c.split_at.result.1.now line).0 (sym c.eq.ensures ∙ c.if-eq.true)
    in
    let before : self.taken ≤ left = omega (arith, c.if-left-self.false) in
    let within : left ≤ length all = omega (arith, self.gathered.ok.0, c.len.ensures, c.saturating_sub-left.ensures) in (
      line,
      subst (λ (rest : List ℕ). Keeps (append_known held (drop self.taken all)) (append_known (append_known held (drop self.taken rest)) line))
          (sym c.truncate.ensures.items) (line_cut held all line self.taken left before within is),
      inr refl,
    )
