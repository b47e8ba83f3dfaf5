-- The limits of a certificate (profile), of a JSON value that has its form.
use Rattle.std.specs.Prelude.{ℕ, ◌+◌, ◌^◌, codes, Bool, true, false, ◌&&◌, if◌then◌else◌, nat_lt, nat_le, unwrap_or, option_and_then}
use Rattle.std.specs.Option.{option_map_or}
use Rattle.serde_json.specs.Data.{Data, Items, no_items, item}
use Rattle.serde_json.specs.Events.{items_len}
use Rattle.serde_json.specs.Find.{get, as_array}
use Rattle.vs_certificate.specs.Shape.{natural, is_number, all_items, passes_at}

-- the items of a list
abbrev pub items_in : Data → Items
items_in d = unwrap_or (as_array d) no_items

-- a list of at most this many entries
abbrev pub is_within : ℕ → Data → Bool
is_within most d = nat_le (items_len (items_in d)) most

-- numbers that rise, from `low` on, and stay below `bound`
abbrev pub rise : ℕ → ℕ → Items → Bool
rise low bound no_items = true
rise low bound (item d ds) = option_map_or (λ n. nat_le low n && nat_lt n bound && rise (n + 1) bound ds) (natural d) false

-- at most so many residues, each below the modulus and above the one before
abbrev pub are_residues : ℕ → ℕ → Data → Bool
are_residues most modulus d = is_within most d && rise 0 modulus (items_in d)

-- at most 65,536 lists of residues
abbrev pub are_slots : ℕ → ℕ → Data → Bool
are_slots most modulus d = is_within 65536 d && all_items (are_residues most modulus) (items_in d)

abbrev pub are_processes : ℕ → ℕ → Data → Bool
are_processes most modulus d = is_within 65536 d && all_items (passes_at (are_slots most modulus) (codes "slots")) (items_in d)

-- how many residues a list may have: 64, in version 3 4,096
abbrev pub most_residues_in : Data → ℕ
most_residues_in d = if passes_at (is_number 3) (codes "version") d then 4096 else 64

abbrev pub is_modulus : ℕ → Bool
is_modulus n = nat_le 1 n && nat_le n (2 ^ 32)

-- the limits hold whose modulus is this one
abbrev pub holds_by : Data → ℕ → Bool
holds_by d modulus =
    is_modulus modulus && passes_at (is_within 65536) (codes "edges") d && passes_at (is_within 65536) (codes "order") d && passes_at (are_processes (most_residues_in d) modulus) (codes "processes") d
    && passes_at (is_within 65536) (codes "signals") d

-- the modulus is 1 to 2^32, no list has more than 65,536 entries, and residues are as they must be
abbrev pub is_within_limits : Data → Bool
is_within_limits d = option_map_or (holds_by d) (option_and_then natural (get (codes "modulus") d)) false
