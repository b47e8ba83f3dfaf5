use Rattle.std.proofs.Common.{◌≡◌, Some, length, slice_get, refl, subst}
use Rattle.std.proofs.lemmas.Option.{slice_get_read}
use Rattle.vs_eval.proofs.resolve.array_of.Goals as goal

pub returns : goal.returns
returns c =
    let found = c.in_ok-s.ensures.lookup in
    record {
      declared = c.in_ok-s.s.now;
      at = subst (λ ss. slice_get ss c.args.signal ≡ Some c.in_ok-s.s.now) c.signals.ensures (slice_get_read c.signals.result.now (length c.signals.result.now) c.args.signal c.in_ok-s.s.now refl found.3.0 found.1);
      first = c.in_ok-first.ensures;
      count = refl;
      width = refl;
    }
