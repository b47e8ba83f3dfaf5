use Rattle.vs_program_words.proofs.TargetLemmas.{meant_of}
use Rattle.vs_program_words.proofs.target.with_target.Goals as goal

pub returns-clause-meant : goal.returns-clause-meant
returns-clause-meant c = λ text is. meant_of c.args.call c.meant_top-top.result.now text c.args.target.now _ c.meant_top-top.ensures c.subcommand_at-subcommand.ensures is
