use Rattle.std.proofs.Common.{◌≡◌, ◌+◌, ◌∙◌, Some, length, slice_get, refl, ap, subst}
use Rattle.std.proofs.lemmas.Option.{slice_get_read}
use Rattle.vs_eval.proofs.resolve.word_of.Goals as goal

pub returns-in_ok-checked_add : goal.returns-in_ok-checked_add
returns-in_ok-checked_add c =
    let found = c.in_ok-s.ensures.lookup in
    record {
      declared = c.in_ok-s.s.now;
      at = subst (λ ss. slice_get ss c.args.signal ≡ Some c.in_ok-s.s.now) c.signals.ensures (slice_get_read c.signals.result.now (length c.signals.result.now) c.args.signal c.in_ok-s.s.now refl found.3.0 found.1);
      below = c.if-word-s.true;
      numbered = c.in_ok-checked_add.ensures.1 ∙ ap (λ n. n + c.args.word) c.in_ok-first.ensures;
      wide = refl;
    }
