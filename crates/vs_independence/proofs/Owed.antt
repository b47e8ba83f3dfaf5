-- Once the updates are activated, whether a block whose control names sources is woken is fixed by them.
use Rattle.std.proofs.Common.{◌≡◌, ℕ, ◌||◌, ◌⊎◌, Bool, true, false, Some, List, get_or, slice_get, sym, ◌∙◌, inl, inr, ◌&&◌, take}
use Rattle.vs_design.specs.Parts.{Parts}
use Rattle.vs_design.specs.Stores.{Store, put, is_changed}
use Rattle.vs_design.specs.declared.range.BitRange.{BitRange}
use Rattle.vs_process.specs.States.{Update, without, wakened}
use Rattle.vs_process.specs.BlockDrivers.{sources, Roles, NamesSources, IsSource, puts_out, control}
use Rattle.vs_independence.proofs.BlocksAt.{Blocked, BlocksAt, IsFree, text_at}
use Rattle.std.specs.List.{Contains, list_any}
use Rattle.vs_process.specs.Places.{Place, ended}
use Rattle.vs_independence.proofs.History.{altered, altered_first, altered_local, change_named}
use Rattle.vs_independence.proofs.Awake.{awake_written, changed_awake}
use Rattle.std.proofs.lemmas.Bool.{cases_Bool, or_cases, or_left, or_right, true≢false}
use Rattle.vs_process.proofs.Fares.{is_awake, or_some}
use Rattle.vs_design.specs.Writes.{shares}

-- an activated update changes what the control of a block names
pub record Due (d : Parts) (base : Store) (due : List Update) (k : ℕ) : Type 0 where
  pub range : BitRange
  pub named : Contains (control d k) range
  pub other : puts_out d k range.signal ≡ false
  pub alters : altered base due range ≡ true

abbrev pub StartSources : Parts → Roles → Type 0
StartSources d roles = (k : ℕ) → roles.blocks k ≡ true → roles.start k ≡ sources → NamesSources d roles.blocks k

pub record Owed (d : Parts) (roles : Roles) (base : Store) (due : List Update) (mid ran : ℕ → Bool) (store : Store) (updates : List Update) : Type 0 where
  pub kept : (k : ℕ) → roles.blocks k ≡ true → roles.start k ≡ sources → mid k ≡ true → ran k ≡ true
  pub owed : (k : ℕ) → roles.blocks k ≡ true → roles.start k ≡ sources → (x : Due d base due k) → (ran k ≡ true) ⊎ (altered store updates x.range ≡ true)
  pub some : (k : ℕ) → roles.blocks k ≡ true → roles.start k ≡ sources → ran k ≡ true → (mid k ≡ true) ⊎ Due d base due k
  pub still : (k : ℕ) (r : BitRange) → roles.blocks k ≡ true → roles.start k ≡ sources → Contains (control d k) r → puts_out d k r.signal ≡ false → altered store updates r ≡ true → altered base due r ≡ true

pub owed_begins : (d : Parts) (roles : Roles) (mid : ℕ → Bool) (store : Store) (due : List Update) → Owed d roles store due mid mid store due
owed_begins d roles mid store due = record {
  kept = λ k is s old. old;
  owed = λ k is s x. inr x.alters;
  some = λ k is s run. inl run;
  still = λ k r is s named other hit. hit;
}

-- a move by which no such block is woken, and which changes no source
pub owed_still : (d : Parts) (roles : Roles) → StartSources d roles → (base : Store) (due : List Update) (mid ran new : ℕ → Bool) (store next : Store) (updates : List Update) → ((k : ℕ) → ran k ≡ true → new k ≡ true) →
    ((k : ℕ) → roles.blocks k ≡ true → roles.start k ≡ sources → new k ≡ true → ran k ≡ true) → ((v : ℕ) → IsSource d roles.blocks v → slice_get next v ≡ slice_get store v) →
    Owed d roles base due mid ran store updates → Owed d roles base due mid new next updates
owed_still d roles only base due mid ran new store next updates up down same h = record {
  kept = λ k is s old. up k (h.kept k is s old);
  owed = λ k is s x. elim (h.owed k is s x) [
    | inl run ↦ inl (up k run)
    | inr hit ↦ inr (altered_local next store updates x.range (same x.range.signal (only k is s x.range x.named x.other)) ∙ hit)
  ];
  some = λ k is s run. h.some k is s (down k is s run);
  still = λ k r is s named other hit. h.still k r is s named other (altered_local store next updates r (sym (same r.signal (only k is s r named other))) ∙ hit);
}

pub owed_like : (d : Parts) (roles : Roles) (base : Store) (due : List Update) (mid ran new : ℕ → Bool) (store : Store) (updates : List Update) → ((k : ℕ) → roles.blocks k ≡ true → ran k ≡ new k) → Owed d roles base due mid ran store updates →
    Owed d roles base due mid new store updates
owed_like d roles base due mid ran new store updates same h = record {
  kept = λ k is s old. sym (same k is) ∙ h.kept k is s old;
  owed = λ k is s x. elim (h.owed k is s x) [
    | inl run ↦ inl (sym (same k is) ∙ run)
    | inr hit ↦ inr hit
  ];
  some = λ k is s run. h.some k is s (same k is ∙ run);
  still = h.still;
}

-- an activated update is made
pub owed_made : (d : Parts) (roles : Roles) (z : Blocked d roles) → (base : Store) (due : List Update) (mid ran : ℕ → Bool) (time : ℕ) (store : Store) (places : List Place) (updates : List Update) (i : ℕ) (u : Update) →
    slice_get updates i ≡ Some u → u.active ≡ true → list_any (λ (older : Update). older.active && shares older.what u.what) (take i updates) ≡ false → IsFree d roles u.what →
    BlocksAt d roles z true ran time store places → Owed d roles base due mid ran store updates →
    Owed d roles base due mid (λ k. ran k || is_awake (wakened store (put store u.what) (get_or places k ended))) (put store u.what) (without i updates)
owed_made d roles z base due mid ran time store places updates i u at_i active first free at_them h = record {
  kept = λ k is s old. or_some (ran k) (is_awake (wakened store new (get_or places k ended))) (h.kept k is s old);
  owed = λ k is s x. elim (h.owed k is s x) [
    | inl run ↦ inl (or_some (ran k) (is_awake (wakened store new (get_or places k ended))) run)
    | inr hit ↦ now_or_later k is x (or_cases (is_changed store new x.range) (altered new (without i updates) x.range) (sym (split x.range) ∙ hit))
  ];
  some = λ k is s run. elim (or_cases (ran k) (is_awake (wakened store new (get_or places k ended))) run) [
    | inl old ↦ h.some k is s old
    | inr awake ↦ by_change k is s (awake_written d (roles.inputs k) k (text_at d roles z k is) true (ran k) time store (get_or places k ended) u.what (at_them.fares k is) awake)
  ];
  still = λ k r is s named other hit. h.still k r is s named other (split r ∙ or_right (is_changed store new r) (altered new (without i updates) r) hit);
}
  where
    new : Store
    new = put store u.what

    split : (r : BitRange) → altered store updates r ≡ (is_changed store new r || altered new (without i updates) r)
    split r = altered_first store updates i u r at_i active first

    now_or_later : (k : ℕ) → roles.blocks k ≡ true → (x : Due d base due k) → ((is_changed store new x.range ≡ true) ⊎ (altered new (without i updates) x.range ≡ true)) →
        ((ran k || is_awake (wakened store new (get_or places k ended))) ≡ true) ⊎ (altered new (without i updates) x.range ≡ true)
    now_or_later k is x (inl now) =
        inl (changed_awake d (roles.inputs k) k (text_at d roles z k is) true (ran k) time store (get_or places k ended) u.what x.range x.named now (λ e. true≢false e) (at_them.fares k is))
    now_or_later k is x (inr later) = inr later

    changed_due : (k : ℕ) → roles.blocks k ≡ true → roles.start k ≡ sources → (r : BitRange) → Contains (control d k) r → is_changed store new r ≡ true → ((puts_out d k r.signal ≡ true) ⊎ (puts_out d k r.signal ≡ false)) →
        (mid k ≡ true) ⊎ Due d base due k
    changed_due k is s r named changed (inl own) = absurd (true≢false (sym (change_named store u.what r changed) ∙ free k r.signal is own))
    changed_due k is s r named changed (inr other) = inr (record {
      range = r;
      named = named;
      other = other;
      alters = h.still k r is s named other (split r ∙ or_left (is_changed store new r) (altered new (without i updates) r) changed);
    })

    by_change : (k : ℕ) → roles.blocks k ≡ true → roles.start k ≡ sources → ((ran k ≡ true) ⊎ ((r : BitRange) × Contains (control d k) r × (is_changed store new r ≡ true))) → (mid k ≡ true) ⊎ Due d base due k
    by_change k is s (inl old) = h.some k is s old
    by_change k is s (inr (r, named, changed)) = changed_due k is s r named changed (cases_Bool (puts_out d k r.signal))
