-- The options of the command line: the table that its words are read by.
use Rattle.std.specs.Prelude.{◌≡◌, ℕ, Bool, true, false, Some, List, [], ◌∷◌, ◌++◌, codes, if◌then◌else◌, map}
use Rattle.std.specs.Borrow.{Bor}
use Rattle.clap.specs.Words.{App, Rule, Shape, new_rule}
use Rattle.clap.specs.Simple.{new_shape}
use Rattle.clap.specs.declared.builder.action.ArgAction.TheVariants.{Append, Set, SetTrue}
use Rattle.clap.specs.declared.builder.value_parser.ValueParser.TheVariants as vp

-- some words
abbrev pub Words : Type 0
Words = Bor (List (Bor (List ℕ)))

-- an option `--name` with one value
abbrev pub option_of : List ℕ → Rule
option_of name = record (new_rule name) { long = Some name; action = Some Set }

-- a flag `--name`
abbrev pub flag_option : List ℕ → Rule
flag_option name = record (new_rule name) { long = Some name; action = Some SetTrue }

-- the option with the name of the top module, which by the strict table can't be left out
abbrev pub top_option : Bool → Rule
top_option strict = record (option_of (codes "top")) { value_names = 1; required = strict }

-- an option with a number from 0 to 2^62 - 1
abbrev pub number_option : List ℕ → Rule
number_option name = record (option_of name) { value_names = 1; parser = Some (vp.Unsigned 0 4611686018427387903) }

-- the moment: by the strict table a number, which can't be left out, else any text
abbrev pub until_option : Bool → Rule
until_option strict =
    if strict then record (number_option (codes "until")) { required = true } else record (option_of (codes "until")) { value_names = 1 }

-- the step limit
abbrev pub steps_option : Rule
steps_option = record (number_option (codes "steps")) { defaults = codes "10000000" ∷ [] }

-- how many orders are tried, what they are drawn from, and the time before which they are the first order
abbrev pub tries_option : Rule
tries_option = record (number_option (codes "tries")) { defaults = codes "100" ∷ [] }

abbrev pub seed_option : Rule
seed_option = record (number_option (codes "seed")) { defaults = codes "0" ∷ [] }

abbrev pub from_option : Rule
from_option = record (number_option (codes "from")) { defaults = codes "0" ∷ [] }

-- an option whose value is one of some words, and one of them where it is left out
abbrev pub choice_option : List ℕ → Words → List ℕ → Rule
choice_option name words default = record (option_of name) { parser = Some (vp.Names words); defaults = default ∷ [] }

-- the order of events: by the strict table one of some words, else any text
abbrev pub policy_option : Bool → Words → Rule
policy_option strict orders =
    if strict then choice_option (codes "policy") orders (codes "fifo")
    else record (option_of (codes "policy")) { defaults = codes "fifo" ∷ [] }

abbrev pub out_option : Words → Rule
out_option texts = choice_option (codes "out") texts (codes "lines")

abbrev pub grain_option : Words → Rule
grain_option grains = choice_option (codes "grain") grains (codes "block")

-- the rules of certificates
abbrev pub rules_option : Words → Rule
rules_option words = choice_option (codes "rules") words (codes "narrow")

-- the flag that says that a certificate is the first line of the input
abbrev pub cert_option : Rule
cert_option = flag_option (codes "cert")

-- an option with the name of a file
abbrev pub file_option : List ℕ → Rule
file_option name = record (option_of name) { value_names = 1 }

-- the file of a certificate, that of the dump, and that of another text
abbrev pub certificate_option : Rule
certificate_option = file_option (codes "certificate")

abbrev pub dump_option : Rule
dump_option = file_option (codes "vcd")

abbrev pub output_option : Rule
output_option = record (new_rule (codes "output")) { short = Some 111; action = Some Set; value_names = 1 }

-- the two files of the dumps of a race
abbrev pub pair_option : Rule
pair_option = record (file_option (codes "vcd-pair")) { range = Some (record { start_inclusive = 2; end_inclusive = 2 }) }

-- the flag that asks for a race where no certificate is made
abbrev pub race_option : Rule
race_option = flag_option (codes "race")

-- the flag that asks for faults of one line
abbrev pub short_option : Rule
short_option = flag_option (codes "short")

-- the flag that asks for what a refusal means
abbrev pub explain_option : Rule
explain_option = flag_option (codes "explain")

-- an option of one letter that may be given several times, each with a value
abbrev pub letter_option : List ℕ → ℕ → Rule
letter_option name letter = record (new_rule name) { short = Some letter; action = Some Append; value_names = 1 }

-- `-D` and `-I`: macros that are defined before the first file, and folders in which included files are sought
abbrev pub define_option : Rule
define_option = letter_option (codes "define") 68

abbrev pub folder_option : Rule
folder_option = letter_option (codes "folder") 73

-- the files, which stand without an option, and the same where there is one at least
abbrev pub files_option : Rule
files_option = record (new_rule (codes "files")) { action = Some Append; value_names = 1 }

abbrev pub some_files_option : Rule
some_files_option = record files_option { required = true }

-- the options of every subcommand, with the one that its files have
abbrev pub shared_rules : Rule → List Rule
shared_rules files = explain_option ∷ short_option ∷ define_option ∷ folder_option ∷ files ∷ []

-- `run`, with the words of `--policy`, of `--out` and of `--rules`
abbrev pub run_rules : Bool → Words → Words → Words → List Rule
run_rules strict orders texts words =
    top_option strict ∷ until_option strict ∷ steps_option ∷ policy_option strict orders ∷ out_option texts ∷ dump_option ∷ cert_option
    ∷ certificate_option ∷ rules_option words ∷ []

abbrev pub run_options : Bool → Words → Words → Words → Shape
run_options strict orders texts words =
    record (new_shape (codes "run")) { rules = run_rules strict orders texts words ++ shared_rules files_option }

-- `check`, with the words of `--rules`
abbrev pub check_rules : Bool → Words → List Rule
check_rules strict words = top_option strict ∷ certificate_option ∷ rules_option words ∷ []

abbrev pub check_options : Bool → Words → Shape
check_options strict words = record (new_shape (codes "check")) { rules = check_rules strict words ++ shared_rules files_option }

-- `certify`, with the words of `--grain` and of `--rules`
abbrev pub certify_rules : Bool → Words → Words → List Rule
certify_rules strict grains words = top_option strict ∷ grain_option grains ∷ rules_option words ∷ race_option ∷ output_option ∷ []

abbrev pub certify_options : Bool → Words → Words → Shape
certify_options strict grains words =
    record (new_shape (codes "certify")) { rules = certify_rules strict grains words ++ shared_rules files_option }

-- `elab`
abbrev pub elab_options : Bool → Shape
elab_options strict = record (new_shape (codes "elab")) { rules = top_option strict ∷ shared_rules files_option }

-- `preprocess`
abbrev pub preprocess_options : Shape
preprocess_options = record (new_shape (codes "preprocess")) { rules = output_option ∷ shared_rules some_files_option }

-- `race`, with the words of `--rules`
abbrev pub race_rules : Bool → Words → List Rule
race_rules strict words =
    top_option strict ∷ until_option strict ∷ steps_option ∷ tries_option ∷ seed_option ∷ from_option ∷ pair_option
    ∷ rules_option words ∷ []

abbrev pub race_options : Bool → Words → Shape
race_options strict words = record (new_shape (codes "race")) { rules = race_rules strict words ++ shared_rules files_option }

-- `vsim`, with its version, of whose subcommands one is asked for
abbrev pub bare_options : App
bare_options = record { top = record (new_shape (codes "vsim")) { has_version = true; subcommand_required = true }; subs = [] }

-- the same, with its subcommands
abbrev pub options_of : Bool → Words → Words → Words → Words → App
options_of strict orders texts grains words = record {
  top = record bare_options.top { is_leaf = false };
  subs = run_options strict orders texts words ∷ check_options strict words ∷ certify_options strict grains words
      ∷ race_options strict words ∷ elab_options strict ∷ preprocess_options ∷ [];
}

-- the table of all options: the strict one, by which the top and the moment can't be left out, or the one by which they can
pub record AreOptions (strict : Bool) (a : App) : Type 0 where
  pub orders : Words
  pub texts : Words
  pub grains : Words
  pub rules : Words
  pub order_words : map (λ w. w.now) orders.now ≡ codes "fifo" ∷ codes "lifo" ∷ []
  pub text_words : map (λ w. w.now) texts.now ≡ codes "lines" ∷ codes "vcd" ∷ []
  pub grain_words : map (λ w. w.now) grains.now ≡ codes "block" ∷ codes "statement" ∷ []
  pub rules_words : map (λ w. w.now) rules.now ≡ codes "narrow" ∷ codes "wide" ∷ []
  pub options : a ≡ options_of strict orders texts grains rules
