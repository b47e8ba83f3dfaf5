use Rattle.vs_certificate.proofs.Law.{narrow_is_wide}
use Rattle.vs_certificate.proofs.writing.narrow_is_wide.Goals as goal

pub returns : goal.returns
returns c = narrow_is_wide
