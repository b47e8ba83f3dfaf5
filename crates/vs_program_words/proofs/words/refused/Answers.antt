use Rattle.std.proofs.Common.{List, map, true, inl, inr}
use Rattle.std.proofs.lemmas.Result.{err_from_is_err_and}
use Rattle.clap.specs.Words.{App, HasKind, Text, fault_of}
use Rattle.clap.specs.declared.error.Error.{Error}
use Rattle.vs_program_words.specs.Options.{AreOptions}
use Rattle.vs_program_words.proofs.Tables.{are_simple_and_free}
use Rattle.vs_program_words.specs.Asks.{LooseFails, WordsFail}
use Rattle.vs_program_words.specs.declared.words.WordsFault.TheVariants.{Refused}
use Rattle.vs_program_words.proofs.words.refused.Goals as goal

failed : (a : App) → AreOptions true a → (words : List Text) → LooseFails words → (e : Error) → HasKind (fault_of a words) e → WordsFail words (Refused e)
failed a o words loose e (inl memory) = inl memory
failed a o words loose e (inr kind) = inr (record { app = a; options = o; kind = kind; loose = loose })

pub returns-in_err-_matches : goal.returns-in_err-_matches
returns-in_err-_matches c =
    let p = err_from_is_err_and c.from_residual-in_err-_matches.result c.from_residual-in_err-_matches.ensures.1 in
    let options = c.in_ok-vsim_command.ensures in
    rw (p.1, p.2) (failed _ options (map (λ w. w.now) c.args.words.now) c.requires c.in_err-_matches.field-0.0
    (c.in_err-_matches.ensures.kinds (are_simple_and_free _ options)))
