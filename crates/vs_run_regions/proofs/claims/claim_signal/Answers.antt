use Rattle.std.proofs.Common.{arith}
use Rattle.vs_run_regions.specs.Claims.{claimed}
use Rattle.vs_run_regions.proofs.ClaimLemmas.{claims_past, claims_set}
use Rattle.vs_run_regions.proofs.claims.claim_signal.Goals as goal

pub returns-then-signal-len : goal.returns-then-signal-len
returns-then-signal-len c =
    claims_set (claimed c.args.anew) c.args.claims.now.items c.args.signal c.index.result.now c.claimed.result (omega (arith, c.args.claims.now.ok.0, c.len.ensures, c.if-signal-len.true)) c.index.ensures c.claimed.ensures

pub returns-else-signal-len : goal.returns-else-signal-len
returns-else-signal-len c = claims_past (claimed c.args.anew) c.args.claims.now.items c.args.signal (omega (arith, c.args.claims.now.ok.0, c.len.ensures, c.if-signal-len.false))
