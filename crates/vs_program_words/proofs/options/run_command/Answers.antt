use Rattle.std.proofs.Common.{◌∙◌, ◌++◌, ap, codes}
use Rattle.std.specs.Prelude.{fold}
use Rattle.std.proofs.lemmas.Result.{IfOk-weaker}
use Rattle.clap.specs.Words.{new_app, rule_of, with_rule}
use Rattle.vs_program_words.specs.Options.{run_rules, shared_rules}
use Rattle.vs_program_words.proofs.options.run_command.Goals as goal

pub returns : goal.returns
returns c =
    let own = run_rules c.args.strict c.args.orders c.args.texts c.args.words in
    IfOk-weaker c.command_of.result _ _ (λ r h. h ∙ ap (λ l. (fold with_rule (new_app (codes "run")) l).top)
    (c.in_ok-options.ensures.rules ∙ ap (λ l. l ++ shared_rules (rule_of c.files.result)) c.in_ok-own.ensures.rules ∙ ap (λ f. own ++ shared_rules f) c.files.ensures.option))
    c.command_of.ensures
