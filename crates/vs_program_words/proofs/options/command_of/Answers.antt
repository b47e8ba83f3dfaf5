use Rattle.std.proofs.Common.{rules, ◌≡◌, ◌∙◌, ap, map}
use Rattle.std.specs.Prelude.{fold}
use Rattle.std.proofs.lemmas.Result.{IfOk-weaker}
use Rattle.clap.specs.Words.{App, app_of, new_app, rule_of, with_rule}
use Rattle.vs_program_words.proofs.Commands.{in_turn}
use Rattle.vs_program_words.proofs.options.command_of.Goals as goal

pub returns : goal.returns
returns c =
    let named : app_of c.after_help.result ≡ new_app c.args.name.now = search rules in
    IfOk-weaker c.args-2.result _ _ (λ r h. ap (λ (a : App). a.top) (in_turn c.after_help.result c.args.options.items r c.requires h
    ∙ ap (λ (x : App). fold with_rule x (map rule_of c.args.options.items)) named)) c.args-2.ensures
