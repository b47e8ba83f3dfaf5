use Rattle.std.proofs.Common.{◌≡◌, ◌∙◌, List, inl, inr, subst}
use Rattle.clap.specs.Words.{Text, kind_of}
use Rattle.clap.specs.declared.error.Error.{Error}
use Rattle.clap.specs.declared.error.kind.ErrorKind.{ErrorKind}
use Rattle.clap.specs.declared.error.kind.ErrorKind.TheVariants.{OutOfMemory}
use Rattle.vs_program_words.specs.Asks.{HaveLooseKind, IsInVain}
use Rattle.vs_program_words.specs.declared.words.WordsFault.{WordsFault}
use Rattle.vs_program_words.specs.declared.words.WordsFault.TheVariants.{Refused}
use Rattle.vs_program_words.proofs.words.refused_files.Goals as goal

-- an error that isn't want of memory is of a fault of the words
loose : (words : List Text) (fault : WordsFault) (e : Error) (k : ErrorKind) → IsInVain words fault → fault ≡ Refused e → k ≡ kind_of e → (k ≡ OutOfMemory → ⊥)
    → HaveLooseKind words (kind_of e)
loose words fault e k vain is kind other = by (subst (IsInVain words) is vain)
  where
    by : IsInVain words (Refused e) → HaveLooseKind words (kind_of e)
    by (inl memory) = absurd (other (kind ∙ memory))
    by (inr h) = h

pub returns-in-Refused : goal.returns-in-Refused
returns-in-Refused c = (c.requires.names, loose _ c.args.fault c.in-Refused.error c.kind.result c.requires.vain c.in-Refused.is c.kind.ensures c.in_default-kind.not-OutOfMemory)
