-- Lemmas on the rows of words that have no fault: each row has a value, and what passed the parser of its argument is known of it.
use Rattle.std.proofs.Common.{arith, codes, ne_eqb, ◌≡◌, ◌&&◌, ◌||◌, ℕ, Bool, cond, true, false, not, zero, suc, refl, subst, List, [], ◌∷◌, ◌++◌, length, drop, Option, Some, None, is_some}
use Rattle.std.specs.Prelude.{encode_utf8, nat_lt, slice_get}
use Rattle.std.specs.List.{find, fold, list_any}
use Rattle.std.specs.Option.{option_map_or}
use Rattle.std.specs.Str.{bytes_eq, chars}
use Rattle.std.proofs.lemmas.Slice.Eq.{bytes_eq-Decides}
use Rattle.clap.specs.Facts.{explicit_source, parser_of_value, unwrap_or_range}
use Rattle.clap.specs.Lexer.{long_of, short_of}
use Rattle.clap.specs.Kinds.{Kinds, check_kinds, or_else, range_kinds, request_kinds, value_kinds}
use Rattle.clap.specs.Walk.{Held, Names, Outcome, Row, Rule, Step, Text, Waiting, Walk, action_of, after_flag, after_step, arg_by_id, arg_by_index, arg_by_long, arg_by_short, at_row, attached_value, bundle, bundle_met, bundle_step, finished, first_of, has_row, is_empty, long_met, long_or_other, long_word, more_values, nothing_held, rows_after, most_values, one_of, option_met, option_word, plain_word, positional_held, reacted, reading_by, settled, settled_rows, short_met, short_or_plain, subcommand_met, subcommand_or_other, takes_several, takes_values, to_positional, used, used_as, values_or_missing, walk, walk_from, walked, walked_from, with_default, with_values, without, word_met, is_pending, row_text}
use Rattle.clap.specs.Walk as clap
use Rattle.clap.specs.Simple.{Shape}
use Rattle.clap.specs.Takes.{is_given}
use Rattle.clap.specs.Faults.{action_fault, check_fault, level_fault, bundle_fault, bundle_step_fault, default_fault, defaults_fault, flag_word_fault, flags_fault, long_fault, option_fault, other_fault, positional_fault, react_fault, repeat_fault, set_fault, settle_fault, short_fault, step_fault, stray_fault, turn_fault, values_fault, given_default_fault, use_fault, walk_fault, word_fault}
use Rattle.clap.specs.declared.builder.action.ArgAction.{ArgAction}
use Rattle.clap.specs.declared.builder.action.ArgAction.TheVariants as action
use Rattle.clap.specs.declared.error.kind.ErrorKind.TheVariants as kind
use Rattle.clap.specs.declared.builder.value_parser.Reading.{Reading}
use Rattle.clap.specs.declared.builder.value_parser.Reading.TheVariants.{AsWritten}
use Rattle.clap.specs.declared.parser.matches.ValueSource.{ValueSource}
use Rattle.clap.specs.declared.parser.matches.ValueSource.TheVariants.{CommandLine, DefaultValue}

-- where two steps have no fault, neither has
pub none_of : (a b : Kinds) → or_else a b ≡ [] → (a ≡ []) × (b ≡ [])
none_of [] b e = (refl, e)
none_of (k ∷ ks) b e = absurd cc

-- a list with a first element isn't empty
not_empty : {X : Type 0} (x : X) (xs : List X) → is_empty (x ∷ xs) ≡ false
not_empty x xs = ne_eqb _ _ (λ e. omega arith)

-- one level of a parse that has no fault, step by step
pub level_parts : (s : Shape) (names : Names) (h : Held) (words : List Text) (has : Bool) (below : Kinds) → level_fault s names h words has below ≡ []
    → (walk_fault s names (walk_from h) words ≡ []) × (below ≡ []) × (settle_fault s.rules s.args_override_self (walk s.rules names h words).held ≡ [])
    × (defaults_fault (settled s.rules (walk s.rules names h words).held).rows s.rules ≡ []) × (check_fault s (finished s.rules (walk s.rules names h words).held) has ≡ [])
level_parts s names h words has below e =
    let end = (walk s.rules names h words).held in
    let one = none_of (walk_fault s names (walk_from h) words) _ e in
    let two = none_of below _ one.1 in
    let three = none_of (settle_fault s.rules s.args_override_self end) _ two.1 in
    let four = none_of (defaults_fault (settled s.rules end).rows s.rules) _ three.1 in
    (one.0, two.0, three.0, four.0, four.1)

-- the last checks find nothing where no subcommand and no argument is missing
check_parts : (x y z : Bool) → check_kinds x y z ≡ [] → (y ≡ false) × (z ≡ false)
check_parts true y z e = absurd cc
check_parts false true z e = absurd cc
check_parts false false true e = absurd cc
check_parts false false false e = (refl, refl)

-- a subcommand is given where one is wanted
pub subcommand_given : (s : Shape) (rows : List Row) (has : Bool) → s.subcommand_required ≡ true → check_fault s rows has ≡ [] → has ≡ true
subcommand_given s rows true wanted e = refl
subcommand_given s rows false wanted e =
    let none : s.subcommand_required ≡ false = (check_parts (s.arg_required_else_help && not (list_any (λ r. explicit_source r.source) rows)) _ _ e).0 in
    absurd cc

-- no argument of a leaf is missing
none_missing : (s : Shape) (rows : List Row) → check_fault s rows false ≡ [] → list_any (λ a. a.required && not (is_given a.id rows)) s.rules ≡ false
none_missing s rows e = go s.subcommand_negates_reqs (check_parts (s.arg_required_else_help && not (list_any (λ r. explicit_source r.source) rows)) _ _ e).1
  where
    go : (b : Bool) → (not (b && false) && list_any (λ a. a.required && not (is_given a.id rows)) s.rules) ≡ false → list_any (λ a. a.required && not (is_given a.id rows)) s.rules ≡ false
    go true e = e
    go false e = e

-- ---- which ids have a row

same_id : (id : Text) → bytes_eq id id ≡ true
same_id id = (bytes_eq-Decides id id).1 refl

-- an argument that the words give has a row
given_row : (id : Text) (rows : List Row) → is_given id rows ≡ true → has_row id rows ≡ true
given_row id [] e = e
given_row id (r ∷ rs) e = go (bytes_eq r.id id) e (given_row id rs)
  where
    go : (b : Bool) → option_map_or (λ x. explicit_source x.source) (cond b (Some r) (find (λ x. bytes_eq x.id id) rs)) false ≡ true → (is_given id rs ≡ true → has_row id rs ≡ true)
        → (b || has_row id rs) ≡ true
    go true e rest = refl
    go false e rest = rest e

-- a required argument that isn't missing has a row
pub required_row : (id : Text) (rows : List Row) (c : List Rule) → list_any (λ a. bytes_eq a.id id && a.required) c ≡ true
    → list_any (λ a. a.required && not (is_given a.id rows)) c ≡ false → has_row id rows ≡ true
required_row id rows [] is e = absurd cc
required_row id rows (a ∷ rest) is e = go (bytes_eq a.id id) a.required (is_given a.id rows) refl refl is e (required_row id rows rest)
  where
    go : (b r g : Bool) → bytes_eq a.id id ≡ b → is_given a.id rows ≡ g → ((b && r) || list_any (λ x. bytes_eq x.id id && x.required) rest) ≡ true
        → ((r && not g) || list_any (λ x. x.required && not (is_given x.id rows)) rest) ≡ false
        → (list_any (λ x. bytes_eq x.id id && x.required) rest ≡ true → list_any (λ x. x.required && not (is_given x.id rows)) rest ≡ false → has_row id rows ≡ true)
        → has_row id rows ≡ true
    go true true true same given is e more = subst (λ i. has_row i rows ≡ true) ((bytes_eq-Decides a.id id).0 same) (given_row a.id rows given)
    go true true false same given is e more = absurd cc
    go true false g same given is e more = more is e
    go false false g same given is e more = more is e
    go false true true same given is e more = more is e
    go false true false same given is e more = absurd cc

-- an argument that gets values has a row, and no other one loses its own
values_row : (id : Text) (how : Reading) (s : ValueSource) (values : List Text) (rows : List Row) → has_row id (with_values id how s values rows) ≡ true
values_row id how s values [] = rw (same_id id) refl
values_row id how s values (r ∷ rs) = go (bytes_eq r.id id) refl (values_row id how s values rs)
  where
    go : (b : Bool) → bytes_eq r.id id ≡ b → has_row id (with_values id how s values rs) ≡ true
        → has_row id (cond b (more_values s values r ++ rs) (r ∷ with_values id how s values rs)) ≡ true
    go true same rest = rw same refl
    go false same rest = rw same rest

values_keep : (id own : Text) (how : Reading) (s : ValueSource) (values : List Text) (rows : List Row) → has_row id rows ≡ true → has_row id (with_values own how s values rows) ≡ true
values_keep id own how s values [] e = absurd cc
values_keep id own how s values (r ∷ rs) e = go (bytes_eq r.id own) (bytes_eq r.id id) refl e (values_keep id own how s values rs)
  where
    go : (b d : Bool) → bytes_eq r.id id ≡ d → (d || has_row id rs) ≡ true → (has_row id rs ≡ true → has_row id (with_values own how s values rs) ≡ true)
        → has_row id (cond b (more_values s values r ++ rs) (r ∷ with_values own how s values rs)) ≡ true
    go true true same e rest = rw same refl
    go true false same e rest = rw same e
    go false true same e rest = rw same refl
    go false false same e rest = rw same (rest e)

-- nor does one by a default
default_keeps : (id : Text) (rows : List Row) (a : Rule) → has_row id rows ≡ true → has_row id (with_default rows a) ≡ true
default_keeps id rows a e = go (has_row a.id rows) a.defaults
  where
    go : (b : Bool) (defaults : List Text) → has_row id (cond b rows (clap.default_rows a.id (reading_by a) defaults rows)) ≡ true
    go true defaults = e
    go false [] = e
    go false (v ∷ vs) = values_keep id a.id (reading_by a) DefaultValue (v ∷ vs) rows e

defaults_keep : (id : Text) (rows : List Row) (c : List Rule) → has_row id rows ≡ true → has_row id (fold with_default rows c) ≡ true
defaults_keep id rows [] e = e
defaults_keep id rows (a ∷ rest) e = defaults_keep id (with_default rows a) rest (default_keeps id rows a e)

-- an argument has a row after its default
own_default : (rows : List Row) (a : Rule) → is_empty a.defaults ≡ false → has_row a.id (with_default rows a) ≡ true
own_default rows a some = go (has_row a.id rows) a.defaults refl some
  where
    go : (b : Bool) (defaults : List Text) → has_row a.id rows ≡ b → is_empty defaults ≡ false → has_row a.id (cond b rows (clap.default_rows a.id (reading_by a) defaults rows)) ≡ true
    go true defaults has some = has
    go false [] has some = absurd cc
    go false (v ∷ vs) has some = values_row a.id (reading_by a) DefaultValue (v ∷ vs) rows

-- an argument with a default has a row at the end
pub default_row : (id : Text) (rows : List Row) (c : List Rule) → list_any (λ a. bytes_eq a.id id && not (is_empty a.defaults)) c ≡ true → has_row id (fold with_default rows c) ≡ true
default_row id rows [] is = absurd cc
default_row id rows (a ∷ rest) is = go (bytes_eq a.id id) (is_empty a.defaults) refl refl is (default_row id (with_default rows a) rest)
  where
    go : (b d : Bool) → bytes_eq a.id id ≡ b → is_empty a.defaults ≡ d → ((b && not d) || list_any (λ x. bytes_eq x.id id && not (is_empty x.defaults)) rest) ≡ true
        → (list_any (λ x. bytes_eq x.id id && not (is_empty x.defaults)) rest ≡ true → has_row id (fold with_default (with_default rows a) rest) ≡ true)
        → has_row id (fold with_default (with_default rows a) rest) ≡ true
    go true false same some is more =
        defaults_keep id (with_default rows a) rest (subst (λ i. has_row i (with_default rows a) ≡ true) ((bytes_eq-Decides a.id id).0 same) (own_default rows a some))
    go true true same some is more = more is
    go false d same some is more = more is

-- ---- no word that passes names the subcommand `help`

-- a walk didn't stop, or not at `help`
abbrev pub IsNoHelp : Option (Text × List Text) → Type 0
IsNoHelp None = Unit {0}
IsNoHelp (Some p) = bytes_eq p.0 (codes "help") ≡ false

-- the same of a step
abbrev IsNoHelpStep : Step → Type 0
IsNoHelpStep (clap.subcommand name) = bytes_eq name (codes "help") ≡ false
IsNoHelpStep _ = Unit {0}

module _ (s : Shape) (names : Names) (enabled : s.disable_help_subcommand ≡ false) where
  plain_step : (waiting : Waiting) (word : Text) (h : Held) → IsNoHelpStep (plain_word s.rules waiting word h).1
  plain_step clap.idle word h = tt
  plain_step clap.positional word h = tt
  plain_step (clap.option id) word h = tt

  flag_step : (waiting : Waiting) (word : Text) (h : Held) (o : Outcome) → IsNoHelpStep (after_flag s.rules waiting word h o).1
  flag_step waiting word h clap.done = tt
  flag_step waiting word h (clap.waits id) = tt
  flag_step waiting word h clap.plain = plain_step waiting word h
  flag_step waiting word h clap.refused = plain_step waiting word h

  other_step : (o : Option (Text × Option Text)) (waiting : Waiting) (word : Text) (h : Held) → IsNoHelpStep (long_or_other s.rules waiting word o h).1
  other_step (Some p) waiting word h = flag_step waiting word _ _
  other_step None waiting word h = go (short_of word)
    where
      go : (o : Option Text) → IsNoHelpStep (short_or_plain s.rules waiting word o h).1
      go None = plain_step waiting word h
      go (Some flags) = flag_step waiting word _ _

  word_step : (is_trailing : Bool) (waiting : Waiting) (position : ℕ) (word : Text) (h : Held) → word_fault s names is_trailing waiting word h ≡ []
      → IsNoHelpStep (word_met s.rules names is_trailing waiting position word h).1
  word_step true waiting position word h e = tt
  word_step false waiting position word h e = go (subcommand_met names waiting word) e
    where
      named : (b d : Bool) → d ≡ false → cond (b && not d) (kind.DisplayHelp ∷ kind.InvalidSubcommand ∷ []) [] ≡ [] → b ≡ false
      named false d off e = refl
      named true false off e = absurd cc
      named true true off e = absurd cc

      dashes : (b : Bool) → IsNoHelpStep (cond b (h, clap.trailing position) (long_or_other s.rules waiting word (long_of word) h)).1
      dashes true = tt
      dashes false = other_step (long_of word) waiting word h

      go : (o : Option Text) → other_fault s o word h ≡ [] → IsNoHelpStep (subcommand_or_other s.rules o waiting position word h).1
      go (Some name) e = named (bytes_eq name (codes "help")) s.disable_help_subcommand enabled e
      go None e = dashes (bytes_eq word (45 ∷ 45 ∷ []))

  step_stops : (w : Walk) (word : Text) (h : Held) (step : Step) → IsNoHelpStep step → IsNoHelp w.stopped → IsNoHelp (after_step s.rules word w h step).stopped
  step_stops w word h (clap.next waiting) e k = k
  step_stops w word h (clap.trailing position) e k = k
  step_stops w word h (clap.subcommand name) e k = e
  step_stops w word h clap.value e k = go (arg_by_index s.rules w.position)
    where
      go : (o : Option Rule) → IsNoHelp (to_positional s.rules o word w h).stopped
      go None = k
      go (Some a) = tt

  turn_stops : (w : Walk) (word : Text) → turn_fault s names w word ≡ [] → IsNoHelp w.stopped → IsNoHelp (walked s.rules names w word).stopped
  unfolding walked
  turn_stops w word e k = go w.stopped e k
    where
      met : Held × Step
      met = word_met s.rules names w.is_trailing w.waiting w.position word w.held

      go : (o : Option (Text × List Text)) → cond (is_some o) [] (or_else (word_fault s names w.is_trailing w.waiting word w.held) (step_fault s w.position met.0 met.1)) ≡ []
          → IsNoHelp o → IsNoHelp (walked_from s.rules names o w word).stopped
      go (Some p) e k' = k'
      go None e k' =
          let parts = none_of (word_fault s names w.is_trailing w.waiting word w.held) _ e in
          step_stops w word met.0 met.1 (word_step w.is_trailing w.waiting w.position word w.held parts.0) k

  pub walk_stops : (w : Walk) (words : List Text) → walk_fault s names w words ≡ [] → IsNoHelp w.stopped → IsNoHelp (fold (walked s.rules names) w words).stopped
  unfolding walk_fault
  walk_stops w [] e k = k
  walk_stops w (word ∷ rest) e k =
      let parts = none_of (turn_fault s names w word) _ e in
      walk_stops (walked s.rules names w word) rest parts.1 (turn_stops w word parts.0 k)

-- ---- each row has a value

-- there is a first value, of which Q holds
abbrev pub HasFirst : (Text → Type 0) → List Text → Type 0
HasFirst Q [] = ⊥
HasFirst Q (v ∷ vs) = Q v

first_stays : (Q : Text → Type 0) (xs ys : List Text) → HasFirst Q xs → HasFirst Q (xs ++ ys)
first_stays Q [] ys h = absurd h
first_stays Q (x ∷ xs) ys h = h

-- P holds of the id of an argument and a value that passed its parser
module _ (P : Text → Text → Type 0) where
  -- a row has a value, which is read as it is written
  abbrev pub RowFits : Row → Type 0
  RowFits r = HasFirst (P r.id) r.values × (r.reading ≡ AsWritten)

  abbrev pub RowsFit : List Row → Type 0
  RowsFit [] = Unit {0}
  RowsFit (r ∷ rs) = RowFits r × RowsFit rs

  -- what passed the parser of an argument is read as it is written, and P holds of it
  abbrev pub Reads : Rule → Type 0
  Reads a = (reading_by a ≡ AsWritten) × ((v : Text) → value_kinds a.ignore_case (parser_of_value a.parser) v ≡ [] → P a.id v)

  -- an argument takes a value, or is a flag, which has one without being given it, or calls for help
  abbrev pub FitsAs : ArgAction → Rule → Type 0
  FitsAs action.Set a = (nat_lt 0 (unwrap_or_range a.range).start_inclusive ≡ true) × Reads a
  FitsAs action.Append a = (nat_lt 0 (unwrap_or_range a.range).start_inclusive ≡ true) × Reads a
  FitsAs action.SetTrue a = (is_empty a.missing ≡ false) × Reads a
  FitsAs action.Help a = Unit {0}
  FitsAs _ a = ⊥

  abbrev pub RuleFits : Rule → Type 0
  RuleFits a = FitsAs (action_of a) a

  abbrev pub RulesFit : List Rule → Type 0
  RulesFit [] = Unit {0}
  RulesFit (a ∷ rest) = RuleFits a × RulesFit rest

  abbrev FitsIfAny : Option Rule → Type 0
  FitsIfAny None = Unit {0}
  FitsIfAny (Some a) = RuleFits a

  found_fits : (p : Rule → Bool) (c : List Rule) → RulesFit c → FitsIfAny (find p c)
  found_fits p [] h = tt
  found_fits p (a ∷ rest) h = go (p a) (found_fits p rest h.1)
    where
      go : (b : Bool) → FitsIfAny (find p rest) → FitsIfAny (cond b (Some a) (find p rest))
      go true k = h.0
      go false k = k

  -- ---- rows

  both_fit : (xs ys : List Row) → RowsFit xs → RowsFit ys → RowsFit (xs ++ ys)
  both_fit [] ys h k = k
  both_fit (x ∷ xs) ys h k = (h.0, both_fit xs ys h.1 k)

  at_row_fits : (id : Text) (change : Row → List Row) (missing rows : List Row) → ((r : Row) → RowFits r → RowsFit (change r)) → RowsFit missing → RowsFit rows
      → RowsFit (at_row id change missing rows)
  at_row_fits id change missing [] changed new h = new
  at_row_fits id change missing (r ∷ rs) changed new h = go (bytes_eq r.id id) (at_row_fits id change missing rs changed new h.1)
    where
      go : (b : Bool) → RowsFit (at_row id change missing rs) → RowsFit (cond b (change r ++ rs) (r ∷ at_row id change missing rs))
      go true k = both_fit (change r) rs (changed r h.0) h.1
      go false k = (h.0, k)

  without_fits : (id : Text) (rows : List Row) → RowsFit rows → RowsFit (without id rows)
  without_fits id rows h = at_row_fits id (λ _. []) [] rows (λ r k. tt) tt h

  with_values_fits : (id : Text) (how : Reading) (s : ValueSource) (values : List Text) (rows : List Row) → how ≡ AsWritten → HasFirst (P id) values → RowsFit rows
      → RowsFit (with_values id how s values rows)
  with_values_fits id how s values rows read first h =
      at_row_fits id (more_values s values) _ rows (λ r k. ((first_stays (P r.id) r.values values k.0, k.1), tt)) ((first, read), tt) h

  -- ---- one use of an argument

  set_fits : (again : Bool) (a : Rule) (v : Text) (vs : List Text) (rows : List Row) → Reads a → set_fault again a (v ∷ vs) rows ≡ [] → RowsFit rows
      → RowsFit (with_values a.id (reading_by a) CommandLine (v ∷ vs) (without a.id rows))
  set_fits again a v vs rows reads e h =
      let values = (none_of (repeat_fault again a.id rows) _ e).1 in
      let first = (none_of (value_kinds a.ignore_case (parser_of_value a.parser) v) _ values).0 in
      with_values_fits a.id (reading_by a) CommandLine (v ∷ vs) (without a.id rows) reads.0 (reads.1 v first) (without_fits a.id rows h)

  -- a flag that is given no value has the one that it is to have then
  flag_fits_none : (again : Bool) (a : Rule) (missing : List Text) (rows : List Row) → is_empty missing ≡ false → Reads a → set_fault again a missing rows ≡ [] → RowsFit rows
      → RowsFit (with_values a.id (reading_by a) CommandLine missing (without a.id rows))
  flag_fits_none again a [] rows some reads e h = absurd cc
  flag_fits_none again a (v ∷ vs) rows some reads e h = set_fits again a v vs rows reads e h

  used_as_fits : (x : ArgAction) (again : Bool) (a : Rule) (values : List Text) (rows : List Row) → FitsAs x a
      → range_kinds (unwrap_or_range a.range).start_inclusive (most_values a) (length values) ≡ []
      → action_fault x again a (values_or_missing a values) rows ≡ [] → RowsFit rows → RowsFit (used_as x a.id (reading_by a) (values_or_missing a values) rows)
  used_as_fits action.Set again a [] rows fits range e h =
      let some = rw fits.0 at range in
      absurd cc
  used_as_fits action.Set again a (v ∷ vs) rows fits range e h = set_fits again a v vs rows fits.1 e h
  used_as_fits action.SetTrue again a [] rows fits range e h = flag_fits_none again a a.missing rows fits.0 fits.1 e h
  used_as_fits action.SetTrue again a (v ∷ vs) rows fits range e h = set_fits again a v vs rows fits.1 e h
  used_as_fits action.Help again a values rows fits range e h = absurd cc
  used_as_fits action.Append again a [] rows fits range e h =
      let some = rw fits.0 at range in
      absurd cc
  used_as_fits action.Append again a (v ∷ vs) rows fits range e h =
      let first = (none_of (value_kinds a.ignore_case (parser_of_value a.parser) v) _ e).0 in
      with_values_fits a.id (reading_by a) CommandLine (v ∷ vs) rows fits.1.0 (fits.1.1 v first) h
  used_as_fits action.SetFalse again a values rows fits range e h = absurd fits
  used_as_fits action.Count again a values rows fits range e h = absurd fits
  used_as_fits action.HelpShort again a values rows fits range e h = absurd fits
  used_as_fits action.HelpLong again a values rows fits range e h = absurd fits
  used_as_fits action.Version again a values rows fits range e h = absurd fits

  used_fits : (again : Bool) (a : Rule) (values : List Text) (rows : List Row) → RuleFits a → use_fault again a values rows ≡ [] → RowsFit rows → RowsFit (used a values rows)
  used_fits again a values rows fits e h =
      let parts = none_of (range_kinds (unwrap_or_range a.range).start_inclusive (most_values a) (length values)) _ e in
      used_as_fits (action_of a) again a values rows fits parts.0 parts.1 h

  -- ---- the walk, at a list of such arguments

  module _ (c : List Rule) (again : Bool) (rules : RulesFit c) where
    settled_fits : (h : Held) → settle_fault c again h ≡ [] → RowsFit h.rows → RowsFit (settled c h).rows
    settled_fits h e rows = go h.pending e
      where
        by_id : (o : Option Rule) (values : List Text) → FitsIfAny o → option_map_or (λ a. use_fault again a values h.rows) o [] ≡ [] → RowsFit (clap.used_by_id o values h.rows)
        by_id None values fits e = rows
        by_id (Some a) values fits e = used_fits again a values h.rows fits e rows

        go : (o : Option (Text × List Text)) → option_map_or (λ p. option_map_or (λ a. use_fault again a p.1 h.rows) (arg_by_id c p.0) []) o [] ≡ [] → RowsFit (settled_rows c o h.rows)
        go None e = rows
        go (Some p) e = by_id (arg_by_id c p.0) p.1 (found_fits _ c rules) e

    reacted_fits : (a : Rule) (values : List Text) (h : Held) → RuleFits a → react_fault c again a values h ≡ [] → RowsFit h.rows → RowsFit (reacted c a values h).rows
    reacted_fits a values h fits e rows =
        let parts = none_of (settle_fault c again h) _ e in
        used_fits again a values (settled c h).rows fits parts.1 (settled_fits h parts.0 rows)

    option_fits : (a : Rule) (v : Option Text) (h : Held) → RuleFits a → option_fault c again a v h ≡ [] → RowsFit h.rows → RowsFit (option_met c a v h).0.rows
    option_fits a (Some v) h fits e rows = reacted_fits a (v ∷ []) h fits e rows
    option_fits a None h fits e rows = settled_fits h e rows

    long_fits : (o : Option Rule) (v : Option Text) (h : Held) → FitsIfAny o → long_fault c again o v h ≡ [] → RowsFit h.rows → RowsFit (long_met c o v h).0.rows
    long_fits None v h fits e rows = rows
    long_fits (Some a) v h fits e rows = go (takes_values a) v e
      where
        go : (b : Bool) (v : Option Text) → cond b (option_fault c again a v h) (cond (is_some v) (kind.TooManyValues ∷ []) (react_fault c again a [] h)) ≡ []
            → RowsFit (cond b (option_met c a v h) (clap.flag_met c a v h)).0.rows
        go true v e = option_fits a v h fits e rows
        go false (Some v) e = rows
        go false None e = reacted_fits a [] h fits e rows

    short_fits : (o : Option Rule) (rest : Text) (h : Held) (next : Held → Held × Outcome) (fault : Held → Kinds) → FitsIfAny o
        → ((k : Held) → fault k ≡ [] → RowsFit k.rows → RowsFit (next k).0.rows)
        → short_fault c again o rest h fault ≡ [] → RowsFit h.rows → RowsFit (short_met c o rest h next).0.rows
    short_fits None rest h next fault fits then e rows = rows
    short_fits (Some a) rest h next fault fits then e rows = go (takes_values a) e
      where
        go : (b : Bool) → cond b (option_fault c again a (attached_value rest) h) (or_else (react_fault c again a [] h) (fault (reacted c a [] h))) ≡ []
            → RowsFit (cond b (option_met c a (attached_value rest) h) (next (reacted c a [] h))).0.rows
        go true e = option_fits a (attached_value rest) h fits e rows
        go false e =
            let parts = none_of (react_fault c again a [] h) _ e in
            then (reacted c a [] h) parts.1 (reacted_fits a [] h fits parts.0 rows)

    bundle_fits : (k : ℕ) (flags : Text) (skip : ℕ) (so_far : Outcome) (h : Held) → flags_fault c again k flags skip h ≡ [] → RowsFit h.rows → RowsFit (bundle_met c k flags skip so_far h).0.rows
    unfolding bundle_met flags_fault
    bundle_fits zero flags skip so_far h e rows = rows
    bundle_fits (suc k) flags skip so_far h e rows = go (slice_get (chars flags) 0) skip e (bundle_fits k)
      where
        go : (o : Option ℕ) (skip : ℕ) → bundle_step_fault c again o flags skip h (flags_fault c again k) ≡ []
            → ((text : Text) (n : ℕ) (o : Outcome) (m : Held) → flags_fault c again k text n m ≡ [] → RowsFit m.rows → RowsFit (bundle_met c k text n o m).0.rows)
            → RowsFit (bundle_step c o flags skip so_far h (bundle_met c k)).0.rows
        go None skip e then = rows
        go (Some x) zero e then =
            let rest = drop (length (encode_utf8 x)) flags in
            short_fits (arg_by_short c x) rest h (bundle_met c k rest 0 clap.done) (flags_fault c again k rest 0) (found_fits _ c rules) (then rest 0 clap.done) e rows
        go (Some x) (suc skip) e then = then (drop (length (encode_utf8 x)) flags) skip so_far h e rows

    plain_fits : (waiting : Waiting) (word : Text) (h : Held) → RowsFit h.rows → RowsFit (plain_word c waiting word h).0.rows
    plain_fits clap.idle word h rows = rows
    plain_fits clap.positional word h rows = rows
    plain_fits (clap.option id) word h rows = go (arg_by_id c id)
      where
        go : (o : Option Rule) → RowsFit (option_word o id word h).0.rows
        go None = rows
        go (Some a) = rows

    flag_fits : (waiting : Waiting) (word : Text) (h : Held) (o : Outcome) → RowsFit h.rows → RowsFit (after_flag c waiting word h o).0.rows
    flag_fits waiting word h clap.done rows = rows
    flag_fits waiting word h (clap.waits id) rows = rows
    flag_fits waiting word h clap.plain rows = plain_fits waiting word h rows
    flag_fits waiting word h clap.refused rows = plain_fits waiting word h rows

    other_fits : (o : Option (Text × Option Text)) (waiting : Waiting) (word : Text) (h : Held) → flag_word_fault c again o word h ≡ [] → RowsFit h.rows
        → RowsFit (long_or_other c waiting word o h).0.rows
    other_fits (Some p) waiting word h e rows = flag_fits waiting word _ _ (long_fits (arg_by_long c p.0) p.1 h (found_fits _ c rules) e rows)
    other_fits None waiting word h e rows = go (short_of word) e
      where
        go : (o : Option Text) → option_map_or (λ flags. bundle_fault c again flags h) o [] ≡ [] → RowsFit (short_or_plain c waiting word o h).0.rows
        go None e = plain_fits waiting word h rows
        go (Some flags) e = flag_fits waiting word _ _ (bundle_fits (length flags) flags h.skip clap.plain (record h { skip = 0 }) e rows)

  -- ---- one level of a parse, of a shape with such arguments

  module _ (s : Shape) (names : Names) (rules : RulesFit s.rules) where
    word_fits : (is_trailing : Bool) (waiting : Waiting) (position : ℕ) (word : Text) (h : Held) → word_fault s names is_trailing waiting word h ≡ [] → RowsFit h.rows
        → RowsFit (word_met s.rules names is_trailing waiting position word h).0.rows
    word_fits true waiting position word h e rows = rows
    word_fits false waiting position word h e rows = go (subcommand_met names waiting word) e
      where
        dashes : (b : Bool) → cond b [] (flag_word_fault s.rules s.args_override_self (long_of word) word h) ≡ []
            → RowsFit (cond b (h, clap.trailing position) (long_or_other s.rules waiting word (long_of word) h)).0.rows
        dashes true e = rows
        dashes false e = other_fits s.rules s.args_override_self rules (long_of word) waiting word h e rows

        go : (o : Option Text) → other_fault s o word h ≡ [] → RowsFit (subcommand_or_other s.rules o waiting position word h).0.rows
        go (Some name) e = rows
        go None e = dashes (bytes_eq word (45 ∷ 45 ∷ [])) e

    step_fits : (w : Walk) (word : Text) (h : Held) (step : Step) → step_fault s w.position h step ≡ [] → RowsFit h.rows → RowsFit (after_step s.rules word w h step).held.rows
    step_fits w word h (clap.next waiting) e rows = rows
    step_fits w word h (clap.trailing position) e rows = rows
    step_fits w word h (clap.subcommand name) e rows = rows
    step_fits w word h clap.value e rows = go (arg_by_index s.rules w.position) e
      where
        held : (b : Bool) (a : Rule) → cond b [] (settle_fault s.rules s.args_override_self h) ≡ [] → RowsFit (cond b h (settled s.rules h)).rows
        held true a e = rows
        held false a e = settled_fits s.rules s.args_override_self rules h e rows

        go : (o : Option Rule) → option_map_or (λ a. positional_fault s.rules s.args_override_self a h) o (stray_fault s) ≡ [] → RowsFit (to_positional s.rules o word w h).held.rows
        go None e = rows
        go (Some a) e = held (is_pending a h.pending && takes_several a) a e

    turn_fits : (w : Walk) (word : Text) → turn_fault s names w word ≡ [] → RowsFit w.held.rows → RowsFit (walked s.rules names w word).held.rows
    unfolding walked
    turn_fits w word e rows = go w.stopped e
      where
        met : Held × Step
        met = word_met s.rules names w.is_trailing w.waiting w.position word w.held

        go : (o : Option (Text × List Text)) → cond (is_some o) [] (or_else (word_fault s names w.is_trailing w.waiting word w.held) (step_fault s w.position met.0 met.1)) ≡ []
            → RowsFit (walked_from s.rules names o w word).held.rows
        go (Some p) e = rows
        go None e =
            let parts = none_of (word_fault s names w.is_trailing w.waiting word w.held) _ e in
            step_fits w word met.0 met.1 parts.1 (word_fits w.is_trailing w.waiting w.position word w.held parts.0 rows)

    walk_fits : (w : Walk) (words : List Text) → walk_fault s names w words ≡ [] → RowsFit w.held.rows → RowsFit (fold (walked s.rules names) w words).held.rows
    unfolding walk_fault
    walk_fits w [] e rows = rows
    walk_fits w (word ∷ rest) e rows =
        let parts = none_of (turn_fault s names w word) _ e in
        walk_fits (walked s.rules names w word) rest parts.1 (turn_fits w word parts.0 rows)

  -- ---- defaults

  given_fits : (a : Rule) (v : Text) (vs : List Text) (rows : List Row) → Reads a → values_fault a (v ∷ vs) ≡ [] → RowsFit rows
      → RowsFit (with_values a.id (reading_by a) DefaultValue (v ∷ vs) rows)
  given_fits a v vs rows reads e h =
      with_values_fits a.id (reading_by a) DefaultValue (v ∷ vs) rows reads.0 (reads.1 v (none_of (value_kinds a.ignore_case (parser_of_value a.parser) v) _ e).0) h

  default_fits : (rows : List Row) (a : Rule) → RuleFits a → default_fault rows a ≡ [] → RowsFit rows → RowsFit (with_default rows a)
  default_fits rows a fits e h = go (has_row a.id rows) a.defaults e
    where
      by_action : (x : ArgAction) (v : Text) (vs : List Text) → FitsAs x a → or_else (request_kinds x) (values_fault a (v ∷ vs)) ≡ [] → RowsFit (clap.default_rows a.id (reading_by a) (v ∷ vs) rows)
      by_action action.Set v vs fits e = given_fits a v vs rows fits.1 e h
      by_action action.SetTrue v vs fits e = given_fits a v vs rows fits.1 e h
      by_action action.Help v vs fits e = absurd cc
      by_action action.Append v vs fits e = given_fits a v vs rows fits.1 e h
      by_action action.SetFalse v vs fits e = absurd fits
      by_action action.Count v vs fits e = absurd fits
      by_action action.HelpShort v vs fits e = absurd fits
      by_action action.HelpLong v vs fits e = absurd fits
      by_action action.Version v vs fits e = absurd fits

      go : (b : Bool) (defaults : List Text) → cond (b || is_empty defaults) [] (given_default_fault a defaults) ≡ []
          → RowsFit (cond b rows (clap.default_rows a.id (reading_by a) defaults rows))
      go true defaults e = h
      go false [] e = h
      go false (v ∷ vs) e = by_action (action_of a) v vs fits (rw (not_empty v vs) at e)

  defaults_fit : (rows : List Row) (c : List Rule) → RulesFit c → defaults_fault rows c ≡ [] → RowsFit rows → RowsFit (fold with_default rows c)
  unfolding defaults_fault
  defaults_fit rows [] fits e h = h
  defaults_fit rows (a ∷ rest) fits e h =
      let parts = none_of (default_fault rows a) _ e in
      defaults_fit (with_default rows a) rest fits.1 parts.1 (default_fits rows a fits.0 parts.0 h)

  -- ---- the matches of a leaf

  -- the rows that a leaf gives, and that none of its arguments is missing
  pub leaf_fits : (s : Shape) → RulesFit s.rules → (words : List Text) → level_fault s [] nothing_held words false [] ≡ []
      → RowsFit (rows_after s.rules [] words) × (list_any (λ a. a.required && not (is_given a.id (rows_after s.rules [] words))) s.rules ≡ false)
  leaf_fits s rules words e =
      let parts = level_parts s [] nothing_held words false [] e in
      let end = walk_fits s [] rules (walk_from nothing_held) words parts.0 tt in
      (defaults_fit _ s.rules rules parts.3 (settled_fits s.rules s.args_override_self rules (walk s.rules [] nothing_held words).held parts.2 end), none_missing s _ parts.4)

  -- ---- what the getters read

  -- the row of an id that has one
  pub row_value : (id : Text) (rows : List Row) → RowsFit rows → has_row id rows ≡ true
      → (v : Text) × (first_of id rows ≡ Some v) × (one_of id rows ≡ Some v) × P id v
  row_value id [] h has = absurd cc
  row_value id (r ∷ rs) h has = go (bytes_eq r.id id) refl (row_value id rs h.1)
    where
      values : (xs : List Text) → xs ≡ r.values → HasFirst (P r.id) xs → r.id ≡ id
          → (v : Text) × (slice_get r.values 0 ≡ Some v) × (row_text r ≡ Some v) × P id v
      values [] is k same = absurd k
      values (v ∷ vs) is k same = (v, rw (← is) refl, rw (← is, h.0.1) refl, subst (λ i. P i v) same k)

      go : (b : Bool) → bytes_eq r.id id ≡ b
          → (has_row id rs ≡ true → (v : Text) × (first_of id rs ≡ Some v) × (one_of id rs ≡ Some v) × P id v)
          → (v : Text) × (first_of id (r ∷ rs) ≡ Some v) × (one_of id (r ∷ rs) ≡ Some v) × P id v
      go true e rest = rw e (values r.values refl h.0.0 ((bytes_eq-Decides r.id id).0 e))
      go false e rest = rw e (rest (rw e at has))
