use Rattle.std.proofs.Common.{Some, ap, sym, ◌∙◌}
use Rattle.std.proofs.lemmas.Option.{same_Some}
use Rattle.vs_rules.specs.Certificates.{kind_from}
use Rattle.vs_rules.specs.Claims.{Kind, block}
use Rattle.vs_claims.specs.Facts.{kind_seen}
use Rattle.vs_rules_of_starts.proofs.starts.start_of.Goals as goal

pub returns-in-Some : goal.returns-in-Some
returns-in-Some c s = (
  λ e. (c.kind_start.ensures s).0 (same_Some (kind_from c.in-Some.k.now) (block s) (sym (ap kind_seen c.in-Some.is) ∙ e)),
  λ e. ap kind_seen c.in-Some.is ∙ ap (λ (k : Kind). Some k) ((c.kind_start.ensures s).1 e),
)
