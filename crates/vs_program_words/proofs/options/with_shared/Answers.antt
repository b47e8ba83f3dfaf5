use Rattle.std.proofs.Common.{All, false, ◌≡◌, rules}
use Rattle.std.proofs.lemmas.List.Elements.{All-append}
use Rattle.clap.specs.declared.builder.arg.Arg.{Arg}
use Rattle.vs_program_words.proofs.options.with_shared.Goals as goal

pub returns-clause-local : goal.returns-clause-local
returns-clause-local c =
    let local : All (λ (a : Arg). a.global ≡ false) c.in_ok-shared.shared.items = search rules in
    rw (c.in_ok-append.ensures.items) (All-append (λ (a : Arg). a.global ≡ false) c.args.own.items c.in_ok-shared.shared.items c.requires.own local)
