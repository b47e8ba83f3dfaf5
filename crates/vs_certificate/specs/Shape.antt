-- Which JSON values have the form of a certificate, in each version: the members of each object, and of what kind each is.
-- The limits are no part of it. So numbers go by a test, `numeric`: any whole number of 64 bits, or one that isn't negative.
use Rattle.std.specs.Prelude.{List, ℕ, [], ◌∷◌, codes, Bool, true, false, not, ◌&&◌, ◌||◌, bytes_eq, is_some, Option, option_and_then, ◌==◌}
use Rattle.std.specs.Option.{option_map_or}
use Rattle.serde_json.specs.Data.{Data, Items, no_items, item, Members, no_members, member}
use Rattle.vs_certificate.specs.declared.form.Numbers.{Numbers}
use Rattle.vs_certificate.specs.declared.form.Numbers.TheVariants as numbers
use Rattle.serde_json.specs.Find.{get, as_bool, as_number, as_str, as_array, as_object, as_u64, as_integer}

-- a whole number of 64 bits
abbrev pub is_whole : Data → Bool
is_whole d = is_some (option_and_then as_integer (as_number d))

-- the number, where it is a whole number of 64 bits that isn't negative
abbrev pub natural : Data → Option ℕ
natural d = option_and_then as_u64 (as_number d)

abbrev pub is_natural : Data → Bool
is_natural d = is_some (natural d)

-- the number is one of these (profile)
abbrev pub is_number_of : Numbers → Data → Bool
is_number_of numbers.Whole d = is_whole d
is_number_of numbers.Natural d = is_natural d

-- this number
abbrev pub is_number : ℕ → Data → Bool
is_number n d = option_map_or (λ m. m == n) (natural d) false

-- true or false
abbrev pub is_flag : Data → Bool
is_flag d = is_some (as_bool d)

abbrev pub is_text : Data → Bool
is_text d = is_some (as_str d)

-- this text
abbrev pub is_word : List ℕ → Data → Bool
is_word word d = option_map_or (λ s. bytes_eq s word) (as_str d) false

-- each item passes
abbrev pub all_items : (Data → Bool) → Items → Bool
all_items test no_items = true
all_items test (item d ds) = test d && all_items test ds

-- a list whose entries all pass
abbrev pub is_list : (Data → Bool) → Data → Bool
is_list test d = option_map_or (all_items test) (as_array d) false

abbrev pub is_empty_list : Data → Bool
is_empty_list d = is_list (λ _. false) d

abbrev pub are_names : List (List ℕ) → Members → Bool
are_names [] no_members = true
are_names [] (member k d ms) = false
are_names (n ∷ ns) no_members = false
are_names (n ∷ ns) (member k d ms) = bytes_eq k n && are_names ns ms

-- an object whose members have exactly these names, which are given in byte order
abbrev pub has_names : List (List ℕ) → Data → Bool
has_names names d = option_map_or (are_names names) (as_object d) false

-- the member of this name is there, and passes
abbrev pub passes_at : (Data → Bool) → List ℕ → Data → Bool
passes_at test name d = option_map_or test (get name d) false

-- ---- words (profile)

abbrev pub is_grain : Data → Bool
is_grain d = is_word (codes "block") d || is_word (codes "statement") d

abbrev pub is_start : Data → Bool
is_start d = is_word (codes "cold") d || is_word (codes "sources") d || is_word (codes "starter") d

abbrev pub is_mode : Data → Bool
is_mode d =
    is_word (codes "net") d || is_word (codes "unwritten") d || is_word (codes "comb") d || is_word (codes "nonblocking") d || is_word (codes "blocking") d || is_word (codes "private") d
    || is_word (codes "both") d

-- ---- entries (profile)

abbrev pub is_edge_signal : Data → Bool
is_edge_signal d = has_names (codes "root" ∷ codes "signal" ∷ []) d && passes_at is_text (codes "root") d && passes_at is_text (codes "signal") d

abbrev pub is_signal_entry : Data → Bool
is_signal_entry d =
    has_names (codes "mode" ∷ codes "name" ∷ codes "second" ∷ codes "writer" ∷ []) d && passes_at is_mode (codes "mode") d && passes_at is_text (codes "name") d && passes_at is_text (codes "second") d
    && passes_at is_text (codes "writer") d

-- a combinational block has a start, and no slots
abbrev pub is_combinational : Data → Bool
is_combinational d = passes_at (is_word (codes "comb")) (codes "kind") d && passes_at is_empty_list (codes "slots") d && passes_at is_start (codes "start") d

-- a process that waits for edges has neither
abbrev pub is_edge_process : Data → Bool
is_edge_process d = passes_at (is_word (codes "edge")) (codes "kind") d && passes_at is_empty_list (codes "slots") d && passes_at (is_word (codes "none")) (codes "start") d

-- a process of this word, which waits for times, has lists of residues for slots, and no start
abbrev pub is_timed_process : List ℕ → (Data → Bool) → Data → Bool
is_timed_process word numeric d = passes_at (is_word word) (codes "kind") d && passes_at (is_list (is_list numeric)) (codes "slots") d && passes_at (is_word (codes "none")) (codes "start") d

-- for times alone, or for times and for edges
abbrev pub is_times_process : (Data → Bool) → Data → Bool
is_times_process numeric d = is_timed_process (codes "delay") numeric d || is_timed_process (codes "mixed") numeric d

abbrev pub is_process_entry : (Data → Bool) → Data → Bool
is_process_entry numeric d =
    has_names (codes "kind" ∷ codes "name" ∷ codes "slots" ∷ codes "start" ∷ []) d && passes_at is_text (codes "name") d && (is_combinational d || is_edge_process d || is_times_process numeric d)

-- ---- the whole (profile)

-- the members that all versions have are there, where numbers pass this test
abbrev pub has_shared : (Data → Bool) → Data → Bool
has_shared numeric d =
    passes_at (is_list is_edge_signal) (codes "edges") d && passes_at is_grain (codes "grain") d && passes_at numeric (codes "modulus") d && passes_at (is_list is_text) (codes "order") d
    && passes_at (is_list (is_process_entry numeric)) (codes "processes") d && passes_at (is_list is_signal_entry) (codes "signals") d

-- a member of an entry isn't this word
abbrev pub lacks : List ℕ → List ℕ → Data → Bool
lacks name word d = not (passes_at (is_word word) name d)

-- nor is it of any entry of a list
abbrev pub has_none : List ℕ → List ℕ → List ℕ → Data → Bool
has_none list name word d = passes_at (is_list (lacks name word)) list d

-- no start of a process is `starter`
abbrev pub has_no_starter : Data → Bool
has_no_starter d = has_none (codes "processes") (codes "start") (codes "starter") d

-- no signal is of mode `both`, and no process of kind `mixed`
abbrev pub has_narrow_words : Data → Bool
has_narrow_words d = has_none (codes "signals") (codes "mode") (codes "both") d && has_none (codes "processes") (codes "kind") (codes "mixed") d

abbrev pub names_of_one : List (List ℕ)
names_of_one = codes "edges" ∷ codes "grain" ∷ codes "modulus" ∷ codes "order" ∷ codes "processes" ∷ codes "signals" ∷ codes "version" ∷ []

-- version 1: no other members, and no start that is `starter`; nor a word of version 3
abbrev pub is_version_one : Data → Bool
is_version_one d = has_names names_of_one d && passes_at (is_number 1) (codes "version") d && has_no_starter d && has_narrow_words d

-- of this version: `displays` besides, true or false
abbrev pub is_of_later : ℕ → Data → Bool
is_of_later version d = has_names (codes "displays" ∷ names_of_one) d && passes_at (is_number version) (codes "version") d && passes_at is_flag (codes "displays") d

-- version 2: no word of version 3
abbrev pub is_version_two : Data → Bool
is_version_two d = is_of_later 2 d && has_narrow_words d

abbrev pub is_version_three : Data → Bool
is_version_three d = is_of_later 3 d

-- a certificate whose numbers pass this test
abbrev pub is_certificate : (Data → Bool) → Data → Bool
is_certificate numeric d = has_shared numeric d && (is_version_one d || is_version_two d || is_version_three d)
