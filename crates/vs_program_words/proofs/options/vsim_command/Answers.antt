use Rattle.std.proofs.Common.{rules, ◌≡◌, ◌∙◌, ap, refl}
use Rattle.std.proofs.lemmas.Result.{IfOk-weaker}
use Rattle.clap.specs.Words.{App, app_of, with_subcommand}
use Rattle.vs_program_words.specs.Options.{bare_options, certify_options, check_options, elab_options, preprocess_options, race_options, run_options}
use Rattle.vs_program_words.proofs.Commands.{added, plain_of}
use Rattle.vs_program_words.proofs.options.vsim_command.Goals as goal

pub with_command-requires : goal.with_command-requires
with_command-requires c = plain_of c.run_command.result (run_options c.args.strict c.as_slice.result c.as_slice-2.result c.as_slice-words.result) refl c.run_command.ensures

pub with_command-requires-2 : goal.with_command-requires-2
with_command-requires-2 c = plain_of c.check_command.result (check_options c.args.strict c.as_slice-words.result) refl c.check_command.ensures

pub with_command-requires-3 : goal.with_command-requires-3
with_command-requires-3 c = plain_of c.certify_command.result (certify_options c.args.strict c.as_slice-3.result c.as_slice-words.result) refl c.certify_command.ensures

pub with_command-requires-4 : goal.with_command-requires-4
with_command-requires-4 c = plain_of c.race_command.result (race_options c.args.strict c.as_slice-words.result) refl c.race_command.ensures

pub with_command-requires-5 : goal.with_command-requires-5
with_command-requires-5 c = plain_of c.elab_command.result (elab_options c.args.strict) refl c.elab_command.ensures

pub with_command-requires-6 : goal.with_command-requires-6
with_command-requires-6 c = plain_of c.preprocess_command.result preprocess_options refl c.preprocess_command.ensures

pub returns : goal.returns
returns c =
    let run = run_options c.args.strict c.as_slice.result c.as_slice-2.result c.as_slice-words.result in
    let certify = certify_options c.args.strict c.as_slice-3.result c.as_slice-words.result in
    let one : app_of c.in_ok-command.command ≡ with_subcommand bare_options run =
    added c.run_command.result (app_of c.bare_command-command.result) (app_of c.in_ok-command.command) run c.run_command.ensures c.in_ok-command.ensures ∙ ap (λ (a : App). with_subcommand a run) c.bare_command-command.ensures in
    let two : app_of c.in_ok-command-2.command ≡ with_subcommand (with_subcommand bare_options run) (check_options c.args.strict c.as_slice-words.result) =
    added c.check_command.result (app_of c.in_ok-command.command) (app_of c.in_ok-command-2.command) (check_options c.args.strict c.as_slice-words.result) c.check_command.ensures c.in_ok-command-2.ensures ∙ ap (λ (a : App). with_subcommand a (check_options c.args.strict c.as_slice-words.result)) one in
    let three : app_of c.in_ok-command-3.command ≡ with_subcommand (with_subcommand (with_subcommand bare_options run) (check_options c.args.strict c.as_slice-words.result)) certify =
    added c.certify_command.result (app_of c.in_ok-command-2.command) (app_of c.in_ok-command-3.command) certify c.certify_command.ensures c.in_ok-command-3.ensures ∙ ap (λ (a : App). with_subcommand a certify) two in
    let four : app_of c.in_ok-command-4.command ≡ with_subcommand (with_subcommand (with_subcommand (with_subcommand bare_options run) (check_options c.args.strict c.as_slice-words.result)) certify) (race_options c.args.strict c.as_slice-words.result) =
    added c.race_command.result (app_of c.in_ok-command-3.command) (app_of c.in_ok-command-4.command) (race_options c.args.strict c.as_slice-words.result) c.race_command.ensures c.in_ok-command-4.ensures ∙ ap (λ (a : App). with_subcommand a (race_options c.args.strict c.as_slice-words.result)) three in
    let five : app_of c.in_ok-command-5.command ≡ with_subcommand (with_subcommand (with_subcommand (with_subcommand (with_subcommand bare_options run) (check_options c.args.strict c.as_slice-words.result)) certify) (race_options c.args.strict c.as_slice-words.result)) (elab_options c.args.strict) =
    added c.elab_command.result (app_of c.in_ok-command-4.command) (app_of c.in_ok-command-5.command) (elab_options c.args.strict) c.elab_command.ensures c.in_ok-command-5.ensures ∙ ap (λ (a : App). with_subcommand a (elab_options c.args.strict)) four in
    IfOk-weaker c.with_command-6.result _ _ (λ r h. record {
      orders = c.as_slice.result;
      texts = c.as_slice-2.result;
      grains = c.as_slice-3.result;
      rules = c.as_slice-words.result;
      order_words = search rules;
      text_words = search rules;
      grain_words = search rules;
      rules_words = search rules;
      options = added c.preprocess_command.result (app_of c.in_ok-command-5.command) (app_of r) preprocess_options c.preprocess_command.ensures h ∙ ap (λ (a : App). with_subcommand a preprocess_options) five;
    }) c.with_command-6.ensures
