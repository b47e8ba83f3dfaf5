-- Groups of continuous assignments that are woken as one.
use Rattle.std.proofs.Common.{◌≡◌, ℕ, zero, suc, ◌+◌, ◌-◌, ◌<◌, ◌≤◌, ◌&&◌, Bool, false, List, [], ◌∷◌, ◌++◌, map, take, drop, length, get_or, nat_lt, if◌then◌else◌, refl, sym, ◌∙◌, ap, ap₂, subst, append_assoc, arith}
use Rattle.std.proofs.lemmas.Bool.{le-leb, lt-ltb, ltb-true, false_from_ne_true}
use Rattle.std.proofs.lemmas.List.{append-nil, length-append, map-append, take_all, take_more}
use Rattle.vs_eval.specs.declared.masks.WordMask.{WordMask}
use Rattle.vs_run_active.specs.declared.groups.Group.{Group}
use Rattle.vs_run_active.specs.declared.groups.Groups.{Groups}
use Rattle.vs_run_active.specs.declared.watchers.Watcher.{Watcher}
use Rattle.vs_run_active.specs.Groups.{Adds, AllAssigns, AreLike, Spells, group_members, meant_by, no_group, numbered_as, spelled, spelled_one}
use Rattle.vs_run_active.specs.Watchers.{between}
use Rattle.vs_run_active.proofs.RowsLemmas.{between_is}

-- ---- watchers that differ in their numbers alone

abbrev masked : ℕ → ℕ → WordMask
masked bits word = record { bits = bits; word = word }

abbrev pub no_watcher : Watcher
no_watcher = record { mask = record { bits = 0; word = 0 }; number = 0; control = 0 }

abbrev watching : ℕ → WordMask → ℕ → Watcher
watching number mask control = record { mask = mask; number = number; control = control }

pub same_watcher : (a b : Watcher) → a.mask.bits ≡ b.mask.bits → a.mask.word ≡ b.mask.word → a.control ≡ b.control → numbered_as a b.number ≡ b
same_watcher a b h k l = ap₂ (watching b.number) (ap₂ masked h k) l

pub one_like : (first : Watcher) (ws : List Watcher) (n : ℕ) (d : Watcher) → n < length ws → AreLike first (take n ws) → numbered_as first (get_or ws n d).number ≡ get_or ws n d →
    AreLike first (take (n + 1) ws)
one_like first ws n d lt so_far here =
    let f = λ (v : Watcher). numbered_as first v.number in
    let more : take (n + 1) ws ≡ take n ws ++ get_or ws n d ∷ [] = take_more ws n d lt in
    ap (map f) more ∙ map-append f (take n ws) (get_or ws n d ∷ []) ∙ ap₂ (λ (xs : List Watcher) (w : Watcher). xs ++ w ∷ []) so_far here ∙ sym more

pub all_like : (first : Watcher) (ws : List Watcher) (n : ℕ) → length ws ≤ n → AreLike first (take n ws) → AreLike first (take (length ws) ws)
all_like first ws n h like =
    subst (AreLike first) (take_all n ws h ∙ sym (take_all (length ws) ws (omega arith))) like

-- ---- what is spelled out

spelled-append : (meant : ℕ → List ℕ) (us ws : List Watcher) → spelled meant (us ++ ws) ≡ spelled meant us ++ spelled meant ws
spelled-append meant [] ws = refl
spelled-append meant (u ∷ us) ws =
    ap (λ (l : List Watcher). spelled_one meant u ++ l) (spelled-append meant us ws) ∙ sym (append_assoc (spelled_one meant u) (spelled meant us) (spelled meant ws))

-- what is spelled by some groups is so by more of them
pub spells_later : (old new : Groups) (groups : List Group) (members : List ℕ) (ws plain : List Watcher) → new.groups.items ≡ old.groups.items ++ groups →
    new.members.items ≡ old.members.items ++ members → new.assigns ≡ old.assigns → Spells old ws plain → Spells new ws plain
spells_later old new groups members ws plain g m n spell = λ more rest.
    let earlier : meant_by old.assigns (old.groups.items ++ (groups ++ more)) (old.members.items ++ (members ++ rest)) ≡ meant_by new.assigns (new.groups.items ++ more) (new.members.items ++ rest) =
    ap₂ (meant_by old.assigns) (sym (append_assoc old.groups.items groups more) ∙ ap (λ (l : List Group). l ++ more) (sym g))
    (sym (append_assoc old.members.items members rest) ∙ ap (λ (l : List ℕ). l ++ rest) (sym m))
    ∙ ap (λ (k : ℕ). meant_by k (new.groups.items ++ more) (new.members.items ++ rest)) (sym n)
    in
    ap (λ (meant : ℕ → List ℕ). spelled meant ws) (sym earlier) ∙ spell (groups ++ more) (members ++ rest)

pub adds_none : (g : Groups) (ws : List Watcher) → Adds g g ws ws []
adds_none g ws = record {
  groups = [];
  members = [];
  watchers = [];
  groups_are = sym (append-nil g.groups.items);
  members_are = sym (append-nil g.members.items);
  watchers_are = sym (append-nil ws);
  assigns_are = refl;
  spell = λ more rest. refl;
}

pub adds_both : (a b c : Groups) (x y z : List Watcher) (p q : List Watcher) → Adds a b x y p → Adds b c y z q → Adds a c x z (p ++ q)
adds_both a b c x y z p q h k = record {
  groups = h.groups ++ k.groups;
  members = h.members ++ k.members;
  watchers = h.watchers ++ k.watchers;
  groups_are = k.groups_are ∙ ap (λ (l : List Group). l ++ k.groups) h.groups_are ∙ append_assoc a.groups.items h.groups k.groups;
  members_are = k.members_are ∙ ap (λ (l : List ℕ). l ++ k.members) h.members_are ∙ append_assoc a.members.items h.members k.members;
  watchers_are = k.watchers_are ∙ ap (λ (l : List Watcher). l ++ k.watchers) h.watchers_are ∙ append_assoc x h.watchers k.watchers;
  assigns_are = k.assigns_are ∙ h.assigns_are;
  spell = λ more rest.
      spelled-append (meant_by c.assigns (c.groups.items ++ more) (c.members.items ++ rest)) h.watchers k.watchers
      ∙ ap₂ (λ (u v : List Watcher). u ++ v) (spells_later b c k.groups k.members h.watchers p k.groups_are k.members_are k.assigns_are h.spell more rest) (k.spell more rest);
}

pub adds_one : (g : Groups) (before after : List Watcher) (w : Watcher) → w.number < g.assigns → after ≡ before ++ w ∷ [] → Adds g g before after (w ∷ [])
adds_one g before after w below more = record {
  groups = [];
  members = [];
  watchers = w ∷ [];
  groups_are = sym (append-nil g.groups.items);
  members_are = sym (append-nil g.members.items);
  watchers_are = more;
  assigns_are = refl;
  spell = λ later rest.
      ap (λ (b : Bool).
      map (numbered_as w) (if b then w.number ∷ [] else group_members (get_or (g.groups.items ++ later) (w.number - g.assigns) no_group) (g.members.items ++ rest)) ++ [])
      (lt-ltb w.number g.assigns below);
}

-- the watchers of a list are those of continuous assignments
pub all_at : (assigns : ℕ) (ws : List Watcher) (i : ℕ) (d : Watcher) → AllAssigns assigns ws → i < length ws → (get_or ws i d).number < assigns
all_at assigns [] i d h lt = absurd (omega arith)
all_at assigns (w ∷ ws) zero d h lt = h.0
all_at assigns (w ∷ ws) (suc i) d h lt = all_at assigns ws i d h.1 (omega arith)

at_end : {A : Type 0} (xs zs : List A) (y d : A) → get_or (xs ++ y ∷ zs) (length xs) d ≡ y
at_end [] zs y d = refl
at_end (x ∷ xs) zs y d = at_end xs zs y d

renumbered : (w : Watcher) (ws : List Watcher) → map (numbered_as w) (map (λ (v : Watcher). v.number) ws) ≡ map (λ (v : Watcher). numbered_as w v.number) ws
renumbered w [] = refl
renumbered w (v ∷ ws) = ap (λ (l : List Watcher). numbered_as w v.number ∷ l) (renumbered w ws)

-- a number that comes after those of the continuous assignments stands for a group's members
pub meant_group : (assigns number : ℕ) (groups : List Group) (members : List ℕ) (g : Group) → assigns ≤ number → get_or groups (number - assigns) no_group ≡ g →
    meant_by assigns groups members number ≡ group_members g members
meant_group assigns number groups members g past here =
    let none : nat_lt number assigns ≡ false = false_from_ne_true (nat_lt number assigns) (λ t. let lt : number < assigns = ltb-true number assigns t in absurd (omega (arith, lt))) in
    ap (λ (b : Bool). if b then number ∷ [] else group_members (get_or groups (number - assigns) no_group) members) none ∙ ap (λ (x : Group). group_members x members) here

pub adds_group : (old new : Groups) (before after : List Watcher) (first : Watcher) (rest : List Watcher) (from to number : ℕ) → AreLike first rest →
    from ≡ length old.members.items → to ≡ length new.members.items → number ≡ old.assigns + length old.groups.items →
    new.members.items ≡ (old.members.items ++ first.number ∷ []) ++ map (λ (w : Watcher). w.number) rest →
    new.groups.items ≡ old.groups.items ++ record { from = from; to = to } ∷ [] → new.assigns ≡ old.assigns → after ≡ before ++ numbered_as first number ∷ [] →
    Adds old new before after (first ∷ rest)
adds_group old new before after first rest from to number like begins ends numbered members groups same more =
    let own = first.number ∷ map (λ (w : Watcher). w.number) rest in
    let g : Group = record { from = from; to = to } in
    let own_members : new.members.items ≡ old.members.items ++ own =
    members ∙ append_assoc old.members.items (first.number ∷ []) (map (λ (w : Watcher). w.number) rest)
    in
    record {
      groups = g ∷ [];
      members = own;
      watchers = numbered_as first number ∷ [];
      groups_are = groups;
      members_are = own_members;
      watchers_are = more;
      assigns_are = same;
      spell = λ later others.
          let index : number - new.assigns ≡ length old.groups.items = omega (arith, numbered, same) in
          let past : new.assigns ≤ number = omega (arith, numbered, same) in
          let all_groups : new.groups.items ++ later ≡ old.groups.items ++ (g ∷ later) =
          ap (λ (l : List Group). l ++ later) groups ∙ append_assoc old.groups.items (g ∷ []) later
          in
          let here : get_or (new.groups.items ++ later) (number - new.assigns) no_group ≡ g =
          ap₂ (λ (l : List Group) (i : ℕ). get_or l i no_group) all_groups index ∙ at_end old.groups.items later g no_group
          in
          let all_members : new.members.items ++ others ≡ old.members.items ++ (own ++ others) =
          ap (λ (l : List ℕ). l ++ others) own_members ∙ append_assoc old.members.items own others
          in
          let size : length new.members.items ≡ length old.members.items + length own =
          ap (λ (l : List ℕ). length l) own_members ∙ length-append old.members.items own
          in
          let long : to ≡ from + length own = omega (arith, ends, begins, size) in
          let room : to ≤ length (new.members.items ++ others) = omega (arith, ends, length-append new.members.items others) in
          let found : group_members g (new.members.items ++ others) ≡ own =
          ap₂ (λ (a b : Bool). if a && b then between from to (new.members.items ++ others) else []) (le-leb from to (omega (arith, long))) (le-leb to (length (new.members.items ++ others)) room)
          ∙ between_is from to (new.members.items ++ others) old.members.items own others begins long all_members
          in
          let means : meant_by new.assigns (new.groups.items ++ later) (new.members.items ++ others) number ≡ own =
          meant_group new.assigns number (new.groups.items ++ later) (new.members.items ++ others) g past here ∙ found
          in
          append-nil (map (numbered_as (numbered_as first number)) (meant_by new.assigns (new.groups.items ++ later) (new.members.items ++ others) number))
          ∙ ap (map (numbered_as (numbered_as first number))) means
          ∙ ap (λ (l : List Watcher). first ∷ l) (renumbered first rest ∙ like);
    }

-- ---- one step more

pub taken : {A : Type 0} (xs : List A) (i n : ℕ) (d : A) → i < length xs → take i xs ++ get_or xs i d ∷ take n (drop (i + 1) xs) ≡ take (i + 1 + n) xs
taken [] i n d h = absurd (omega arith)
taken (x ∷ xs) zero n d h = let e : suc n ≡ 0 + 1 + n = omega arith in ap (λ (k : ℕ). take k (x ∷ xs)) e
taken {A = A} (x ∷ xs) (suc i) n d h =
    let e : suc (i + 1 + n) ≡ suc i + 1 + n = omega arith in
    let f : suc (i + 1) ≡ suc i + 1 = omega arith in
    ap (λ (k : ℕ). x ∷ (take i xs ++ get_or xs i d ∷ take n (drop k (x ∷ xs)))) (sym f) ∙ ap (λ (l : List A). x ∷ l) (taken xs i n d (omega arith))
    ∙ ap (λ (k : ℕ). take k (x ∷ xs)) e
