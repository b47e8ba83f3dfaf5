-- Lemmas on what the options have: words that have no fault by the table name a subcommand whose options have their values.
use Rattle.std.proofs.Common.{◌∙◌, option_map, true≢false, ◌≡◌, ◌&&◌, ◌||◌, Bool, cond, not, true, false, refl, sym, ap, subst, List, [], ◌∷◌, Option, Some, None, is_some, codes}
use Rattle.std.proofs.lemmas.Slice.Eq.{bytes_eq-Decides}
use Rattle.std.specs.List.{find, list_any}
use Rattle.std.specs.Option.{option_map_or}
use Rattle.std.specs.Str.{bytes_eq}
use Rattle.clap.specs.ValueTests.{is_unsigned_in}
use Rattle.clap.specs.Kinds.{value_kinds}
use Rattle.clap.specs.declared.builder.value_parser.ValueParser.TheVariants as vp
use Rattle.clap.specs.Walk.{Row, Text, answers_to, finished, first_of, has_row, is_empty, nothing_held, one_of, rows_after, settled, walk, walk_from}
use Rattle.clap.specs.Simple.{App, Shape, argument_words, built, built_leaf, entered, help_shape, inherited, label_of, marked_built, names_of, rows_at, subcommand_of, with_leaf_noted}
use Rattle.clap.specs.Faults.{entered_fault, fault_of, level_fault}
use Rattle.clap.proofs.ValueTestLemmas.{accepts-Accepts}
use Rattle.vs_program_words.specs.Options.{AreOptions, Words, bare_options, certify_options, check_options, elab_options, options_of, preprocess_options, race_options, run_options}
use Rattle.vs_program_words.specs.Asks.{name_of}
use Rattle.vs_program_words.specs.Given.{AreAllGiven, IsCount, IsFlag}
use Rattle.vs_program_words.proofs.Rows.{IsNoHelp, RowsFit, RulesFit, default_row, leaf_fits, level_parts, row_value, subcommand_given, walk_stops}

-- an option whose value is a number
abbrev is_number : Text → Bool
is_number id =
    bytes_eq id (codes "steps") || (bytes_eq id (codes "tries") || (bytes_eq id (codes "seed") || bytes_eq id (codes "from")))

-- a flag
abbrev is_flag : Text → Bool
is_flag id = bytes_eq id (codes "cert") || (bytes_eq id (codes "explain") || (bytes_eq id (codes "short") || bytes_eq id (codes "race")))

-- a text is `true` or `false`
abbrev is_truth : Text → Bool
is_truth v = bytes_eq v (codes "true") || bytes_eq v (codes "false")

-- what is known of the value of an option: a number is in its range, and a flag is `true` or `false`
abbrev Passed : Text → Text → Type 0
Passed id v = (is_number id ≡ true → is_unsigned_in 0 4611686018427387903 v ≡ true) × (is_flag id ≡ true → is_truth v ≡ true)

-- a number that passed the parser is in its range
passed : (v : Text) → value_kinds false (vp.Unsigned 0 4611686018427387903) v ≡ [] → is_unsigned_in 0 4611686018427387903 v ≡ true
passed v e = go (is_unsigned_in 0 4611686018427387903 v) refl
  where
    go : (b : Bool) → is_unsigned_in 0 4611686018427387903 v ≡ b → b ≡ true
    go true is = refl
    go false is =
        let some = rw is at e in
        absurd cc

-- a flag that passed the parser is `true` or `false`
flag_passed : (v : Text) → value_kinds false vp.Bool v ≡ [] → is_truth v ≡ true
flag_passed v e = go (is_truth v) refl
  where
    go : (b : Bool) → is_truth v ≡ b → b ≡ true
    go true is = refl
    go false is =
        let some = rw is at e in
        absurd cc

-- ---- one subcommand

abbrev vsim_shape : Shape
vsim_shape = record bare_options.top { is_leaf = false }

-- a subcommand of `vsim`, as it is built
abbrev built_below : Shape → Shape
built_below s = built_leaf (inherited (with_leaf_noted (marked_built vsim_shape)) s)

module _ (s : Shape) (fits : RulesFit Passed s.rules) (words : List Text) (e : level_fault s [] nothing_held words false [] ≡ []) where
  abbrev end_rows : List Row
  end_rows = rows_after s.rules [] words

  row_fits : RowsFit Passed end_rows
  row_fits = (leaf_fits Passed s fits words e).0

  -- an option that has a default has a row
  defaulted : (id : Text) → list_any (λ a. bytes_eq a.id id && not (is_empty a.defaults)) s.rules ≡ true → has_row id end_rows ≡ true
  defaulted id is = default_row id (settled s.rules (walk s.rules [] nothing_held words).held).rows s.rules is

  -- an option that has a row has a value
  word_given : (id : Text) → has_row id end_rows ≡ true → is_some (first_of id end_rows) ≡ true
  word_given id has =
      let v = row_value Passed id end_rows row_fits has in
      rw v.1 refl

  number_given : (id : Text) → is_number id ≡ true → has_row id end_rows ≡ true → IsCount (one_of id end_rows)
  number_given id number has =
      let v = row_value Passed id end_rows row_fits has in
      rw v.2 (accepts-Accepts false (vp.Unsigned 0 4611686018427387903) v.0 (v.3.0 number))

  flag_given : (id : Text) → is_flag id ≡ true → has_row id end_rows ≡ true → IsFlag (one_of id end_rows)
  flag_given id flag has =
      let v = row_value Passed id end_rows row_fits has in
      rw v.2 (v.3.1 flag)

-- ---- the subcommands

-- what a subcommand that was met gives
abbrev IsGivenBy : Text × List Row → Type 0
IsGivenBy p = AreAllGiven (name_of p.0) (λ option. first_of option p.1) (λ option. one_of option p.1)

abbrev IsGiven : Option (Text × List Row) → Type 0
IsGiven None = ⊥
IsGiven (Some p) = IsGivenBy p

-- a subcommand, where a word that isn't `help` names it, gives what it has to
abbrev Gives : Shape → Type 0
Gives s = (word : Text) (words : List Text) → bytes_eq word (codes "help") ≡ false → answers_to word (label_of s) ≡ true
    → level_fault s [] nothing_held words false [] ≡ [] → IsGivenBy (rows_at s words)

abbrev AllGive : List Shape → Type 0
AllGive [] = Unit {0}
AllGive (s ∷ rest) = Gives s × AllGive rest

-- each subcommand, by the table in which the top and the moment may be left out
abbrev elab_built : Shape
elab_built = built_below (elab_options false)

elab_fits : RulesFit Passed elab_built.rules
elab_fits = ((refl, (refl, λ v e. ((λ n. absurd cc), (λ f. absurd cc)))), ((refl, (refl, λ v e. ((λ n. absurd cc), (λ f. flag_passed v e)))), ((refl, (refl, λ v e. ((λ n. absurd cc), (λ f. flag_passed v e)))), ((refl, (refl, λ v e. ((λ n. absurd cc), (λ f. absurd cc)))), ((refl, (refl, λ v e. ((λ n. absurd cc), (λ f. absurd cc)))), ((refl, (refl, λ v e. ((λ n. absurd cc), (λ f. absurd cc)))), (tt, tt)))))))

elab_gives : Gives elab_built
elab_gives word words free is e = record {
  own = tt;
  explain = flag_given elab_built elab_fits words e (codes "explain") refl (defaulted elab_built elab_fits words e (codes "explain") refl);
  short = flag_given elab_built elab_fits words e (codes "short") refl (defaulted elab_built elab_fits words e (codes "short") refl);
}

abbrev preprocess_built : Shape
preprocess_built = built_below preprocess_options

preprocess_fits : RulesFit Passed preprocess_built.rules
preprocess_fits = ((refl, (refl, λ v e. ((λ n. absurd cc), (λ f. absurd cc)))), ((refl, (refl, λ v e. ((λ n. absurd cc), (λ f. flag_passed v e)))), ((refl, (refl, λ v e. ((λ n. absurd cc), (λ f. flag_passed v e)))), ((refl, (refl, λ v e. ((λ n. absurd cc), (λ f. absurd cc)))), ((refl, (refl, λ v e. ((λ n. absurd cc), (λ f. absurd cc)))), ((refl, (refl, λ v e. ((λ n. absurd cc), (λ f. absurd cc)))), (tt, tt)))))))

preprocess_gives : Gives preprocess_built
preprocess_gives word words free is e = record {
  own = tt;
  explain = flag_given preprocess_built preprocess_fits words e (codes "explain") refl (defaulted preprocess_built preprocess_fits words e (codes "explain") refl);
  short = flag_given preprocess_built preprocess_fits words e (codes "short") refl (defaulted preprocess_built preprocess_fits words e (codes "short") refl);
}

-- a name that isn't `help` isn't that of the subcommand `help`
abbrev help_built : Shape
help_built = built_leaf help_shape

no_help : (name : Text) → bytes_eq name (codes "help") ≡ false → (bytes_eq (codes "help") name || false) ≡ true → ⊥
no_help name free e = go (bytes_eq (codes "help") name) refl e
  where
    go : (b : Bool) → bytes_eq (codes "help") name ≡ b → (b || false) ≡ true → ⊥
    go true is e =
        let same : bytes_eq name (codes "help") ≡ true = (bytes_eq-Decides name (codes "help")).1 (sym ((bytes_eq-Decides (codes "help") name).0 is)) in
        true≢false (sym same ∙ free)
    go false is e = true≢false (sym e)

help_gives : Gives help_built
help_gives word words free is e = absurd (no_help word free is)

module _ (orders texts grains rules : Words) where
  abbrev run_built : Shape
  run_built = built_below (run_options false orders texts rules)

  run_fits : RulesFit Passed run_built.rules
  run_fits = ((refl, (refl, λ v e. ((λ n. absurd cc), (λ f. absurd cc)))), ((refl, (refl, λ v e. ((λ n. absurd cc), (λ f. absurd cc)))), ((refl, (refl, λ v e. ((λ n. passed v e), (λ f. absurd cc)))), ((refl, (refl, λ v e. ((λ n. absurd cc), (λ f. absurd cc)))), ((refl, (refl, λ v e. ((λ n. absurd cc), (λ f. absurd cc)))), ((refl, (refl, λ v e. ((λ n. absurd cc), (λ f. absurd cc)))), ((refl, (refl, λ v e. ((λ n. absurd cc), (λ f. flag_passed v e)))), ((refl, (refl, λ v e. ((λ n. absurd cc), (λ f. absurd cc)))), ((refl, (refl, λ v e. ((λ n. absurd cc), (λ f. absurd cc)))), ((refl, (refl, λ v e. ((λ n. absurd cc), (λ f. flag_passed v e)))), ((refl, (refl, λ v e. ((λ n. absurd cc), (λ f. flag_passed v e)))), ((refl, (refl, λ v e. ((λ n. absurd cc), (λ f. absurd cc)))), ((refl, (refl, λ v e. ((λ n. absurd cc), (λ f. absurd cc)))), ((refl, (refl, λ v e. ((λ n. absurd cc), (λ f. absurd cc)))), (tt, tt)))))))))))))))

  run_gives : Gives run_built
  run_gives word words free is e = record {
    own = record {
      steps = number_given run_built run_fits words e (codes "steps") refl (defaulted run_built run_fits words e (codes "steps") refl);
      out = word_given run_built run_fits words e (codes "out") (defaulted run_built run_fits words e (codes "out") refl);
      cert = flag_given run_built run_fits words e (codes "cert") refl (defaulted run_built run_fits words e (codes "cert") refl);
      rules = word_given run_built run_fits words e (codes "rules") (defaulted run_built run_fits words e (codes "rules") refl);
    };
    explain = flag_given run_built run_fits words e (codes "explain") refl (defaulted run_built run_fits words e (codes "explain") refl);
    short = flag_given run_built run_fits words e (codes "short") refl (defaulted run_built run_fits words e (codes "short") refl);
  }

  abbrev certify_built : Shape
  certify_built = built_below (certify_options false grains rules)

  certify_fits : RulesFit Passed certify_built.rules
  certify_fits = ((refl, (refl, λ v e. ((λ n. absurd cc), (λ f. absurd cc)))), ((refl, (refl, λ v e. ((λ n. absurd cc), (λ f. absurd cc)))), ((refl, (refl, λ v e. ((λ n. absurd cc), (λ f. absurd cc)))), ((refl, (refl, λ v e. ((λ n. absurd cc), (λ f. flag_passed v e)))), ((refl, (refl, λ v e. ((λ n. absurd cc), (λ f. absurd cc)))), ((refl, (refl, λ v e. ((λ n. absurd cc), (λ f. flag_passed v e)))), ((refl, (refl, λ v e. ((λ n. absurd cc), (λ f. flag_passed v e)))), ((refl, (refl, λ v e. ((λ n. absurd cc), (λ f. absurd cc)))), ((refl, (refl, λ v e. ((λ n. absurd cc), (λ f. absurd cc)))), ((refl, (refl, λ v e. ((λ n. absurd cc), (λ f. absurd cc)))), (tt, tt)))))))))))

  certify_gives : Gives certify_built
  certify_gives word words free is e = record {
    own = record {
      grain = word_given certify_built certify_fits words e (codes "grain") (defaulted certify_built certify_fits words e (codes "grain") refl);
      rules = word_given certify_built certify_fits words e (codes "rules") (defaulted certify_built certify_fits words e (codes "rules") refl);
    };
    explain = flag_given certify_built certify_fits words e (codes "explain") refl (defaulted certify_built certify_fits words e (codes "explain") refl);
    short = flag_given certify_built certify_fits words e (codes "short") refl (defaulted certify_built certify_fits words e (codes "short") refl);
  }

  abbrev check_built : Shape
  check_built = built_below (check_options false rules)

  check_fits : RulesFit Passed check_built.rules
  check_fits = ((refl, (refl, λ v e. ((λ n. absurd cc), (λ f. absurd cc)))), ((refl, (refl, λ v e. ((λ n. absurd cc), (λ f. absurd cc)))), ((refl, (refl, λ v e. ((λ n. absurd cc), (λ f. absurd cc)))), ((refl, (refl, λ v e. ((λ n. absurd cc), (λ f. flag_passed v e)))), ((refl, (refl, λ v e. ((λ n. absurd cc), (λ f. flag_passed v e)))), ((refl, (refl, λ v e. ((λ n. absurd cc), (λ f. absurd cc)))), ((refl, (refl, λ v e. ((λ n. absurd cc), (λ f. absurd cc)))), ((refl, (refl, λ v e. ((λ n. absurd cc), (λ f. absurd cc)))), (tt, tt)))))))))

  check_gives : Gives check_built
  check_gives word words free is e = record {
    own = word_given check_built check_fits words e (codes "rules") (defaulted check_built check_fits words e (codes "rules") refl);
    explain = flag_given check_built check_fits words e (codes "explain") refl (defaulted check_built check_fits words e (codes "explain") refl);
    short = flag_given check_built check_fits words e (codes "short") refl (defaulted check_built check_fits words e (codes "short") refl);
  }

  abbrev race_built : Shape
  race_built = built_below (race_options false rules)

  race_fits : RulesFit Passed race_built.rules
  race_fits = ((refl, (refl, λ v e. ((λ n. absurd cc), (λ f. absurd cc)))), ((refl, (refl, λ v e. ((λ n. absurd cc), (λ f. absurd cc)))), ((refl, (refl, λ v e. ((λ n. passed v e), (λ f. absurd cc)))), ((refl, (refl, λ v e. ((λ n. passed v e), (λ f. absurd cc)))), ((refl, (refl, λ v e. ((λ n. passed v e), (λ f. absurd cc)))), ((refl, (refl, λ v e. ((λ n. passed v e), (λ f. absurd cc)))), ((refl, (refl, λ v e. ((λ n. absurd cc), (λ f. absurd cc)))), ((refl, (refl, λ v e. ((λ n. absurd cc), (λ f. absurd cc)))), ((refl, (refl, λ v e. ((λ n. absurd cc), (λ f. flag_passed v e)))), ((refl, (refl, λ v e. ((λ n. absurd cc), (λ f. flag_passed v e)))), ((refl, (refl, λ v e. ((λ n. absurd cc), (λ f. absurd cc)))), ((refl, (refl, λ v e. ((λ n. absurd cc), (λ f. absurd cc)))), ((refl, (refl, λ v e. ((λ n. absurd cc), (λ f. absurd cc)))), (tt, tt))))))))))))))

  race_gives : Gives race_built
  race_gives word words free is e = record {
    own = record {
      steps = number_given race_built race_fits words e (codes "steps") refl (defaulted race_built race_fits words e (codes "steps") refl);
      tries = number_given race_built race_fits words e (codes "tries") refl (defaulted race_built race_fits words e (codes "tries") refl);
      seed = number_given race_built race_fits words e (codes "seed") refl (defaulted race_built race_fits words e (codes "seed") refl);
      start = number_given race_built race_fits words e (codes "from") refl (defaulted race_built race_fits words e (codes "from") refl);
      rules = word_given race_built race_fits words e (codes "rules") (defaulted race_built race_fits words e (codes "rules") refl);
    };
    explain = flag_given race_built race_fits words e (codes "explain") refl (defaulted race_built race_fits words e (codes "explain") refl);
    short = flag_given race_built race_fits words e (codes "short") refl (defaulted race_built race_fits words e (codes "short") refl);
  }

  -- ---- the whole table

  abbrev table : App
  table = built (options_of false orders texts grains rules)

  table_gives : AllGive table.subs
  table_gives = (run_gives, (check_gives, (certify_gives, (race_gives, (elab_gives, (preprocess_gives, (help_gives, tt)))))))

  found_given : (subs : List Shape) → AllGive subs → (p : Text × List Text) → bytes_eq p.0 (codes "help") ≡ false
      → is_some (option_map (λ s. rows_at s p.1) (find (λ s. answers_to p.0 (label_of s)) subs)) ≡ true
      → option_map_or (λ s. level_fault s [] nothing_held p.1 false []) (find (λ s. answers_to p.0 (label_of s)) subs) [] ≡ []
      → IsGiven (option_map (λ s. rows_at s p.1) (find (λ s. answers_to p.0 (label_of s)) subs))
  found_given [] all p free some e = absurd cc
  found_given (s ∷ rest) all p free some e = go (answers_to p.0 (label_of s)) refl some e (found_given rest all.1 p free)
    where
      found : Option Shape
      found = find (λ x. answers_to p.0 (label_of x)) rest

      go : (b : Bool) → answers_to p.0 (label_of s) ≡ b → is_some (option_map (λ x. rows_at x p.1) (cond b (Some s) found)) ≡ true
          → option_map_or (λ x. level_fault x [] nothing_held p.1 false []) (cond b (Some s) found) [] ≡ []
          → (is_some (option_map (λ x. rows_at x p.1) found) ≡ true → option_map_or (λ x. level_fault x [] nothing_held p.1 false []) found [] ≡ []
          → IsGiven (option_map (λ x. rows_at x p.1) found))
          → IsGiven (option_map (λ x. rows_at x p.1) (cond b (Some s) found))
      go true is some e more = all.0 p.0 p.1 free is e
      go false is some e more = more some e

  entered_given : (stop : Option (Text × List Text)) → IsNoHelp stop → is_some (entered table stop) ≡ true → entered_fault table stop ≡ [] → IsGiven (entered table stop)
  entered_given None free some e = absurd cc
  entered_given (Some p) free some e = found_given table.subs table_gives p free some e

  options_given : (words : List Text) → fault_of (options_of false orders texts grains rules) words ≡ [] → IsGiven (subcommand_of (options_of false orders texts grains rules) words)
  options_given words e =
      let rest = argument_words (options_of false orders texts grains rules) words in
      let end = walk table.top.rules (names_of table) nothing_held rest in
      let parts = level_parts table.top (names_of table) nothing_held rest (is_some (entered table end.stopped)) (entered_fault table end.stopped) e in
      entered_given end.stopped (walk_stops table.top (names_of table) refl (walk_from nothing_held) rest parts.0 tt)
      (subcommand_given table.top (finished table.top.rules end.held) _ refl parts.4) parts.1

-- words without a fault name a subcommand whose options have their values
pub words_given : (a : App) → AreOptions false a → (words : List Text) → fault_of a words ≡ [] → (name : Text) (rows : List Row) → subcommand_of a words ≡ Some (name, rows)
    → AreAllGiven (name_of name) (λ option. first_of option rows) (λ option. one_of option rows)
words_given a o words e name rows is =
    let given = options_given o.orders o.texts o.grains o.rules words (ap (λ (x : App). fault_of x words) (sym o.options) ∙ e) in
    subst IsGiven (ap (λ (x : App). subcommand_of x words) (sym o.options) ∙ is) given
