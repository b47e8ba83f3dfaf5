use Rattle.vs_lexer.proofs.CollectedDigits.{pushed, dropped}
use Rattle.vs_lexer.proofs.collector.Collector.push.Goals as goal

pub returns-then-count-lt-WIDTH_LIMIT : goal.returns-then-count-lt-WIDTH_LIMIT
returns-then-count-lt-WIDTH_LIMIT c = λ ds was. pushed c.args.self ds c.args.digit was c.fits_with-fits.result c.fits_with-fits.ensures c.if-count-lt-WIDTH_LIMIT.true

pub returns-else-count-lt-WIDTH_LIMIT : goal.returns-else-count-lt-WIDTH_LIMIT
returns-else-count-lt-WIDTH_LIMIT c = λ ds was. dropped c.args.self ds c.args.digit was c.fits_with-fits.result c.fits_with-fits.ensures c.if-count-lt-WIDTH_LIMIT.false
