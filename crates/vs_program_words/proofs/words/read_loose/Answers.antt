use Rattle.std.proofs.Common.{◌≡◌, ◌∙◌, List, [], false, map, refl, sym, subst, inl, inr}
use Rattle.std.proofs.Math.Path.{fun_ext}
use Rattle.std.proofs.lemmas.Result.{err_from_is_err_and}
use Rattle.std.specs.Borrow.{Bor}
use Rattle.std.specs.Prelude.{Option, Some, None, option_map}
use Rattle.clap.specs.Words.{App, HasKind, app_of, kind_of, Row, Text, fault_of, first_of, first_value, found_of, all_of, matched_of, one_of, one_text, raw_values, rows_of, subcommand_name_of, subcommand_of, subcommand_rows_of}
use Rattle.clap.specs.declared.error.Error.{Error}
use Rattle.clap.specs.declared.parser.matches.ArgMatches.{ArgMatches}
use Rattle.clap.specs.declared.parser.matches.Found.{Found}
use Rattle.clap.proofs.WalkLemmas.{first_value-rows, one_text-rows, raw_values-rows}
use Rattle.vs_program_words.specs.Options.{AreOptions}
use Rattle.vs_program_words.proofs.Given.{words_given}
use Rattle.vs_program_words.proofs.Tables.{are_simple, are_simple_and_free}
use Rattle.vs_program_words.specs.Given.{AreAllGiven}
use Rattle.vs_program_words.specs.Asks.{AreAccepted, AsksFor, CallFails, IsInVain, Lists, Values, lists_of, name_of, values_of, words_of}
use Rattle.vs_program_words.specs.declared.words.WordsFault.{WordsFault}
use Rattle.vs_program_words.specs.declared.words.WordsFault.TheVariants.{Memory, Misused, NoOrder, NoUntil, OrderOfCertified, Refused, TwoDumps, Unread}
use Rattle.vs_program_words.proofs.words.read_loose.Goals as goal

-- a pair, by its parts
pair_of : {X : Type 0} (f : X → Text × List Row) (o : Option X) (n : Text) (rows : List Row) → option_map (λ x. (f x).0) o ≡ Some n → option_map (λ p. p.1) (option_map f o) ≡ Some rows → option_map f o ≡ Some (n, rows)
pair_of f None n rows a b = absurd cc
pair_of f (Some x) n rows a b =
    let title : n ≡ (f x).0 = cc in
    let listed : rows ≡ (f x).1 = cc in
    rw (title, listed) refl

-- the subcommand that a parse met, by what the matches hand out of it
met : (m : ArgMatches) (r : Option (Bor Text × Bor ArgMatches)) (p : Bor Text × Bor ArgMatches) → r ≡ Some p → option_map (λ q. q.0.now) r ≡ subcommand_name_of m
    → option_map (λ q. rows_of (found_of q.1.now)) r ≡ option_map (λ q. q.1) (subcommand_rows_of m) → subcommand_rows_of m ≡ Some (p.0.now, rows_of (found_of p.1.now))
met m r p is name rows = pair_of _ _ p.0.now (rows_of (found_of p.1.now)) (rw is at (sym name)) (rw is at (sym rows))

-- what the getters of the matches read is what the rows have
same_values : (C : Values → Values → Type 0) (f : Found) → C (first_value f) (one_text f) ≡ C (λ option. first_of option (rows_of f)) (λ option. one_of option (rows_of f))
same_values C f =
    let words : ◌≡◌ {A = Values} (first_value f) (λ option. first_of option (rows_of f)) = fun_ext (first_value-rows f) in
    let numbers : ◌≡◌ {A = Values} (one_text f) (λ option. one_of option (rows_of f)) = fun_ext (one_text-rows f) in
    λ i. C (words i) (numbers i)

-- what is known of the values of the matches
all_given : (a : App) → AreOptions false a → (words : List Text) → fault_of a words ≡ [] → (name : Text) (f : Found) → subcommand_of a words ≡ Some (name, rows_of f)
    → AreAllGiven (name_of name) (first_value f) (one_text f)
all_given a o words e name f found = subst (λ (X : Type 0). X) (sym (same_values (AreAllGiven (name_of name)) f)) (words_given a o words e name (rows_of f) found)

-- values that ask for nothing
in_vain : (words : List Text) (t : AreAccepted words) (f : WordsFault) → CallFails f (name_of t.name) (words_of t) (values_of t) (lists_of t) → IsInVain words f
in_vain words t OrderOfCertified h = record { taken = t; vain = h }
in_vain words t TwoDumps h = record { taken = t; vain = h }
in_vain words t (Refused e) h = absurd h
in_vain words t (Misused e) h = absurd h
in_vain words t (NoUntil text) h = record { taken = t; gives = h }
in_vain words t (NoOrder text) h = record { taken = t; gives = h }
in_vain words t Unread h = record { taken = t; unread = h }
in_vain words t Memory h = tt

-- the words have a fault by the table
failed : (a : App) → AreOptions false a → (words : List Text) (e : Error) → HasKind (fault_of a words) e → IsInVain words (Refused e)
failed a o words e (inl memory) = inl memory
failed a o words e (inr kind) = inr (record { app = a; options = o; kind = kind_of e; among = kind }, refl)

pub call_of-requires : goal.call_of-requires
call_of-requires c =
    let options = c.in_ok-vsim_command.ensures in
    let words = map (λ w. w.now) c.args.words.now in
    let found = sym (c.in_ok-matches.ensures.matches (are_simple _ options)).1 ∙ met _ _ _ c.unwrap.ensures c.subcommand.ensures.name c.subcommand.ensures.rows in
    all_given _ options words (c.in_ok-matches.ensures.kinds (are_simple_and_free _ options)) c.unwrap.result.0.now (found_of c.unwrap.result.1.now) found

pub returns-clause-err : goal.returns-clause-err
returns-clause-err c =
    let options = c.in_ok-vsim_command.ensures in
    let words = map (λ w. w.now) c.args.words.now in
    let name = c.unwrap.result.0.now in
    let f = found_of c.unwrap.result.1.now in
    let found = sym (c.in_ok-matches.ensures.matches (are_simple _ options)).1 ∙ met _ _ _ c.unwrap.ensures c.subcommand.ensures.name c.subcommand.ensures.rows in
    let taken : AreAccepted words = record {
      app = app_of c.in_ok-vsim_command.field-0;
      options = options;
      taken = c.in_ok-matches.ensures.kinds (are_simple_and_free _ options);
      name = name;
      rows = rows_of f;
      found = found;
    } in
    let lists : ◌≡◌ {A = Lists} (λ option. option_map raw_values (matched_of f option)) (λ option. all_of option (rows_of f)) = fun_ext (raw_values-rows f) in
    in_vain words taken c.in-Err.fault
    (subst (λ (all : Lists). CallFails c.in-Err.fault (name_of name) (λ option. first_of option (rows_of f)) (λ option. one_of option (rows_of f)) all) lists
    (subst (λ (X : Type 0). X) (same_values (λ words values. CallFails c.in-Err.fault (name_of name) words values (λ option. option_map raw_values (matched_of f option))) f)
    c.in-Err.ensures.err))

pub returns-in-Ok-clause-ok : goal.returns-in-Ok-clause-ok
returns-in-Ok-clause-ok c =
    let options = c.in_ok-vsim_command.ensures in
    let words = map (λ w. w.now) c.args.words.now in
    let name = c.unwrap.result.0.now in
    let f = found_of c.unwrap.result.1.now in
    let found = sym (c.in_ok-matches.ensures.matches (are_simple _ options)).1 ∙ met _ _ _ c.unwrap.ensures c.subcommand.ensures.name c.subcommand.ensures.rows in
    let lists : ◌≡◌ {A = Lists} (λ option. option_map raw_values (matched_of f option)) (λ option. all_of option (rows_of f)) = fun_ext (raw_values-rows f) in
    record {
      taken = record {
        app = app_of c.in_ok-vsim_command.field-0;
        options = options;
        taken = c.in_ok-matches.ensures.kinds (are_simple_and_free _ options);
        name = name;
        rows = rows_of f;
        found = found;
      };
      asks = subst (λ (all : Lists). AsksFor (name_of name) (λ option. first_of option (rows_of f)) (λ option. one_of option (rows_of f)) all c.in-Ok.call) lists
          (subst (λ (X : Type 0). X) (same_values (λ words values. AsksFor (name_of name) words values (λ option. option_map raw_values (matched_of f option)) c.in-Ok.call) f) c.in-Ok.ensures.ok);
    }

pub returns-in_err-matches-clause-err : goal.returns-in_err-matches-clause-err
returns-in_err-matches-clause-err c =
    let p = err_from_is_err_and c.from_residual-in_err-matches.result c.from_residual-in_err-matches.ensures.1 in
    let options = c.in_ok-vsim_command.ensures in
    rw (p.1, p.2) (failed _ options (map (λ w. w.now) c.args.words.now) c.in_err-matches.field-0.0 (c.in_err-matches.ensures.kinds (are_simple_and_free _ options)))
