-- Scopes of sources that say the same.
use Rattle.std.proofs.Common.{◌≡◌, ℕ, zero, suc, Bool, true, false, ◌&&◌, ◌||◌, true≢false, cond, List, [], ◌∷◌, ◌++◌, ◌+◌, Option, Some, None, length, map, filter, refl, ap, ap₂, sym, subst, ◌∙◌}
use Rattle.std.specs.Prelude.{is_some, sum}
use Rattle.std.proofs.Math.Path.{fun_ext}
use Rattle.std.specs.List.{list_any}
use Rattle.std.specs.Str.{bytes_eq}
use Rattle.vs_syntax.specs.declared.tree.Module.{Module}
use Rattle.vs_syntax.specs.Same.{Pairwise, no_pair, pair_more, SameOption, both_absent, both_there, SameValue, SameModule}
use Rattle.vs_design.specs.declared.design.ScopeKind.{ScopeKind}
use Rattle.vs_elab_statements.specs.vs_widths.specs.declared.bindings.Binding.{Binding}
use Rattle.vs_elab_statements.specs.vs_widths.specs.declared.bindings.Binding.TheVariants as b
use Rattle.vs_elab_statements.specs.vs_widths.specs.declared.constants.Const.{Const}
use Rattle.vs_elab_statements.specs.vs_widths.specs.Environment.{Environment}
use Rattle.vs_elab_statements.specs.vs_widths.specs.Names.{meaning_of}
use Rattle.vs_scopes.specs.Pieces.{Piece, pieces_of, block_pieces}
use Rattle.vs_elaborate.specs.vs_scopes.specs.Printed.{PathName, plainly, Path, same_path, printed, printed_name, printed_part}
use Rattle.vs_elaborate.specs.vs_scopes.specs.Ranges.{word_count}
use Rattle.vs_elaborate.specs.vs_scopes.specs.Connections.{ends_of}
use Rattle.vs_elaborate.specs.vs_scopes.specs.Parameters.{given_to, constants_of, known_in_module, any_fault}
use Rattle.vs_elaborate.specs.vs_scopes.specs.Ports.{ports_of, port_names}
use Rattle.vs_elaborate.specs.vs_scopes.specs.Declarations.{Bindings, DeclaredName, declared_names, Use, bound_to}
use Rattle.vs_elaborate.specs.vs_scopes.specs.Nets.{permits_nets, Sight, seen, coming, nothing_seen, pieces_with_nets, first_net, is_before, is_net}
use Rattle.vs_elaborate.specs.vs_scopes.specs.Generate.{Inner, inner_from, turns_among}
use Rattle.vs_elaborate.specs.vs_scopes.specs.Scopes.{Scope, nowhere, outward, seen_from, early, is_instance, declarations_of, numbered_names, constant_names, bindings_of, keys, environment, named, text_names, inner_of, sight_by, sight_in, module_named, Before, signal_count, instance_count, turns_in, turn_count, before_following, before, module_pieces, text_of, block_text, top_scope, instance_scope, block_scope, is_inside, has_no_values, block_fault, opened_instance, opened_block, opened, of_opened, below, within_first, scopes_within, deepest, opened_top, scopes_of, environment_at}
use Rattle.vs_elab_statements.specs.vs_elab_signals.specs.Outlines.{Declared, signal_of, signals_of, Line, enter, leave, declare_from, outline_around, outline_below, outline_within, outline_of}
use Rattle.vs_elaborate.proofs.PairLemmas.{pair_append, pair_length, pair_same, flat_one}
use Rattle.vs_elaborate.proofs.SamePieceLemmas.{one_pair, SamePiece, pieces_same, block_pieces_same}
use Rattle.vs_elaborate.proofs.SameParameterLemmas.{same_ends, same_text, same_block_text, same_known, same_values, same_no_values, same_block_known, same_block_values, same_block_fault}
use Rattle.vs_elaborate.proofs.SameNetLemmas.{same_with_nets, same_first_told, same_permits}
use Rattle.vs_elaborate.proofs.SamePortLemmas.{SameModulePort, same_pieces, same_ports, same_port_names, same_declared, SameUse, same_genvar_names, same_inner_names}
use Rattle.vs_elaborate.proofs.SameInnerLemmas.{SameInner, instance_same, generated_same, named_same, inner_same, same_turns}

-- scopes that say the same
pub record SameScope (s s' : Scope) : Type 0 where
  pub path : s.path ≡ s'.path
  pub title : s.title ≡ s'.title
  pub kind : s.kind ≡ s'.kind
  pub number : s.number ≡ s'.number
  pub base : s.base ≡ s'.base
  pub instances : s.instances ≡ s'.instances
  pub turns : s.turns ≡ s'.turns
  pub depth : s.depth ≡ s'.depth
  pub nets : s.nets ≡ s'.nets
  pub text : s.text ≡ s'.text
  pub ports : Pairwise SameModulePort s.ports s'.ports
  pub pieces : Pairwise SamePiece s.pieces s'.pieces
  pub constants : s.constants ≡ s'.constants
  pub known : s.known ≡ s'.known
  pub within : s.within ≡ s'.within
  pub home : s.home ≡ s'.home
  pub around : s.around ≡ s'.around
  pub outer : s.outer ≡ s'.outer
  pub sight : s.sight ≡ s'.sight
  pub ends : Pairwise SameValue s.ends s'.ends

module _ (s s' : Scope) (same : SameScope s s') where
  pub declarations_same : declarations_of s ≡ declarations_of s'
  declarations_same = ap (λ env. declared_names env s.ports s.pieces) same.known ∙ same_declared s'.known s.ports s'.ports s.pieces s'.pieces same.ports same.pieces

  bindings_same : bindings_of s ≡ bindings_of s'
  bindings_same =
      let constants : constant_names s.constants ≡ constant_names s'.constants = ap constant_names same.constants in
      let signals : numbered_names s.base (declarations_of s) ≡ numbered_names s'.base (declarations_of s') = ap₂ numbered_names same.base declarations_same in
      let genvars = ap (bound_to b.Genvar) (same_genvar_names s.pieces s'.pieces same.pieces) in
      let others = ap (bound_to b.Other) (same_inner_names s.pieces s'.pieces same.pieces) in
      ap₂ (λ (a c : Bindings). a ++ c) (ap₂ (λ (a c : Bindings). a ++ c) (ap₂ (λ (a c : Bindings). a ++ c) constants signals) genvars) others

  -- names are bound to the same
  pub environment_same : environment s ≡ environment s'
  environment_same = ap₂ outward bindings_same (ap₂ seen_from same.kind same.outer)

  pub inside_same : Pairwise SameInner (inner_of s) (inner_of s')
  inside_same =
      subst (λ names. Pairwise SameInner (inner_of s) (inner_from 0 (environment s') names 1 s'.pieces)) (ap keys same.text)
      (subst (λ env. Pairwise SameInner (inner_of s) (inner_from 0 env (text_names s) 1 s'.pieces)) environment_same (inner_same 0 (environment s) (text_names s) 1 s.pieces s'.pieces same.pieces))

  -- names stand in the same way before a piece
  sight_by_same : (n : List ℕ) (told : Bool) (o : Option Binding) → sight_by s n told o ≡ sight_by s' n told o
  sight_by_same n told None = ap (λ (z : List ℕ → Sight). z n) same.sight
  sight_by_same n told (Some x) = ap (λ (p : Path). cond (told && is_net x) (coming (p ++ plainly n ∷ [])) seen) same.path

  sight_same : (place : ℕ) → sight_in s place ≡ sight_in s' place
  sight_same place = fun_ext (λ n.
      ap (λ (t : Option ℕ). cond (is_before t place) seen (sight_by s n (is_some t) (meaning_of s.text n))) (same_first_told s.pieces s'.pieces same.pieces n)
      ∙ ap (λ (t : Bindings). cond (is_before (first_net s'.pieces n) place) seen (sight_by s n (is_some (first_net s'.pieces n)) (meaning_of t n))) same.text
      ∙ ap (cond (is_before (first_net s'.pieces n) place) seen) (sight_by_same n (is_some (first_net s'.pieces n)) (meaning_of s'.text n)))

  pub signals_same : signals_of s ≡ signals_of s'
  signals_same =
      (let P : Path → List Declared = λ p. map (λ (d : DeclaredName). record { name = printed_name d.name; path = printed (p ++ plainly d.name ∷ []); kind = d.kind; width = d.size.shape.width; signed = d.size.shape.signed; range = d.size.bounds; words = d.words.bounds; count = word_count d.words.bounds }) (declarations_of s) in ap P same.path)
      ∙ ap (map (signal_of s')) declarations_same

  pub around_same : (ls ls' : List Line) → ls ≡ ls' → outline_around s ls ≡ outline_around s' ls'
  around_same ls ls' h =
      let P : ScopeKind → PathName → List Line → List Line = λ kind n rest. enter kind (printed_part n) ∷ rest in
      let own : declare_from s.base (declarations_of s) ≡ declare_from s'.base (declarations_of s') = ap₂ (λ base (ds : List DeclaredName). declare_from base ds) same.base declarations_same in
      let Q : List Line → List Line → List Line = λ xs ys. enter s'.kind (printed_part s'.title) ∷ xs ++ ys ++ leave ∷ [] in
      let R : List Line = declare_from s.base (declarations_of s) ++ ls ++ leave ∷ [] in
      ap (λ kind. P kind s.title R) same.kind ∙ ap (λ n. P s'.kind n R) same.title ∙ ap₂ Q own h

-- the pieces of modules that say the same, with their implicit nets
same_module_pieces : (nets nets' : Bool) (m m' : Module) → nets ≡ nets' → SameModule m m' → Pairwise SamePiece (module_pieces nets m) (module_pieces nets' m')
same_module_pieces nets nets' m m' i k =
    let ps = pieces_of m.items.items in
    let ps' = pieces_of m'.items.items in
    subst (λ z. Pairwise SamePiece (module_pieces nets m) (module_pieces z m')) i
    (subst (λ (t : Bindings). Pairwise SamePiece (module_pieces nets m) (pieces_with_nets nets t nothing_seen ps')) (same_text m m' k) (same_with_nets nets (text_of m) nothing_seen ps ps' (same_pieces m m' k)))

-- modules of one name are both found, and say the same, or neither
pub same_found : (ms ms' : List Module) (n : List ℕ) → Pairwise SameModule ms ms' → SameOption SameModule (module_named ms n) (module_named ms' n)
same_found _ _ n no_pair = both_absent
same_found _ _ n (pair_more m m' ms ms' h r) = by (bytes_eq n m.name.items) (bytes_eq n m'.name.items) (ap (bytes_eq n) h.name) (same_found ms ms' n r)
  where
    by : (c c' : Bool) → c ≡ c' → SameOption SameModule (module_named ms n) (module_named ms' n) → SameOption SameModule (cond c (Some m) (module_named ms n)) (cond c' (Some m') (module_named ms' n))
    by true true i rest = both_there m m' h
    by true false i rest = absurd (true≢false i)
    by false true i rest = absurd (true≢false (sym i))
    by false false i rest = rest

either_same : (c c' : Bool) (t t' : Scope) → c ≡ c' → SameScope t t' → SameOption SameScope (cond c None (Some t)) (cond c' None (Some t'))
either_same true true t t' i h = both_absent
either_same true false t t' i h = absurd (true≢false i)
either_same false true t t' i h = absurd (true≢false (sym i))
either_same false false t t' i h = both_there t t' h

-- ---- the scopes that instances and blocks open

module _ (s s' : Scope) (same : SameScope s s') (at at' : Before) (i : at ≡ at') where
  module _ (nets nets' : Bool) (j : nets ≡ nets') (u u' : Use) (h : SameUse u u') where
    instance_scope_same : (m m' : Module) → SameModule m m' → SameScope (instance_scope nets s at u m) (instance_scope nets' s' at' u' m')
    instance_scope_same m m' k =
        let ports = same_ports m m' k in
        let names = same_port_names (ports_of m) (ports_of m') ports in
        let path : named s u.name ≡ named s' u'.name = ap₂ (λ (p : Path) (z : List ℕ). p ++ plainly z ∷ []) same.path h.name in
        record {
          path = path;
          title = ap plainly h.name;
          kind = refl;
          number = ap (λ (z : Before). z.scopes) i;
          base = ap (λ (z : Before). z.signals) i;
          instances = ap (λ (z : Before). z.instances) i;
          turns = ap (λ (z : Before). z.turns) i;
          depth = ap suc same.depth;
          nets = j;
          text = same_text m m' k;
          ports = ports;
          pieces = same_module_pieces nets nets' m m' j k;
          constants = ap (λ env. constants_of env (early m) (given_to u.overrides m)) (environment_same s s' same) ∙ same_values (environment s') u.overrides u'.overrides m m' h.overrides k;
          known = ap (λ env. known_in_module env (early m) (given_to u.overrides m)) (environment_same s s' same) ∙ same_known (environment s') u.overrides u'.overrides m m' h.overrides k;
          within = ap₂ (λ (z : List ℕ) (zs : List (List ℕ)). z ∷ zs) k.name same.within;
          home = path;
          around = same.path;
          outer = environment_same s s' same;
          sight = refl;
          ends = subst (λ ns. Pairwise SameValue (ends_of u.ports (port_names (ports_of m))) (ends_of u'.ports ns)) names (same_ends u.ports u'.ports (port_names (ports_of m)) h.ports);
        }

    is_inside_same : (m m' : Module) → SameModule m m' → is_inside s m ≡ is_inside s' m'
    is_inside_same m m' k = ap₂ (λ z zs. list_any (bytes_eq z) zs) k.name same.within

    opened_instance_same : (o o' : Option Module) → SameOption SameModule o o' → SameOption SameScope (opened_instance nets s at u o) (opened_instance nets' s' at' u' o')
    opened_instance_same _ _ both_absent = both_absent
    opened_instance_same _ _ (both_there m m' k) =
        let values : has_no_values (environment s) u.overrides m ≡ has_no_values (environment s') u'.overrides m' =
        ap (λ env. has_no_values env u.overrides m) (environment_same s s' same) ∙ same_no_values (environment s') u.overrides u'.overrides m m' h.overrides k in
        either_same (is_inside s m || has_no_values (environment s) u.overrides m) (is_inside s' m' || has_no_values (environment s') u'.overrides m') (instance_scope nets s at u m) (instance_scope nets' s' at' u' m')
        (ap₂ (λ a c. a || c) (is_inside_same m m' k) values) (instance_scope_same m m' k)

  block_scope_same : (place : ℕ) (n n' : PathName) (cs : List (List ℕ × Const)) (ps ps' : List Piece) → n ≡ n' → Pairwise SamePiece ps ps' → SameScope (block_scope place s at n cs ps) (block_scope place s' at' n' cs ps')
  block_scope_same place n n' cs ps ps' j h =
      let environments = environment_same s s' same in
      let text = same_block_text s s' environments cs ps ps' h in
      let own = pieces_with_nets s.nets (block_text cs ps) (sight_in s place) ps in
      let pieces : Pairwise SamePiece own (pieces_with_nets s'.nets (block_text cs ps') (sight_in s' place) ps') =
      subst (λ z. Pairwise SamePiece own (pieces_with_nets z (block_text cs ps') (sight_in s' place) ps')) same.nets
      (subst (λ (t : Bindings). Pairwise SamePiece own (pieces_with_nets s.nets t (sight_in s' place) ps')) text
      (subst (λ (a : List ℕ → Sight). Pairwise SamePiece own (pieces_with_nets s.nets (block_text cs ps) a ps')) (sight_same s s' same place) (same_with_nets s.nets (block_text cs ps) (sight_in s place) ps ps' h))) in
      record {
        path = ap₂ (λ (p : Path) (z : PathName). p ++ z ∷ []) same.path j;
        title = j;
        kind = refl;
        number = ap (λ (z : Before). z.scopes) i;
        base = ap (λ (z : Before). z.signals) i;
        instances = ap (λ (z : Before). z.instances) i;
        turns = ap (λ (z : Before). z.turns) i;
        depth = same.depth;
        nets = same.nets;
        text = text;
        ports = no_pair;
        pieces = pieces;
        constants = ap (λ (z : List (List ℕ × Const)). cs ++ z) (same_block_values s s' environments cs ps ps' h);
        known = same_block_known s s' environments cs ps ps' h;
        within = same.within;
        home = same.home;
        around = same.path;
        outer = environments;
        sight = sight_same s s' same place;
        ends = no_pair;
      }

  opened_block_same : (place : ℕ) (n n' : PathName) (cs : List (List ℕ × Const)) (ps ps' : List Piece) → n ≡ n' → Pairwise SamePiece ps ps' → SameOption SameScope (opened_block place s at n cs ps) (opened_block place s' at' n' cs ps')
  opened_block_same place n n' cs ps ps' j h =
      either_same (any_fault (block_fault s cs ps)) (any_fault (block_fault s' cs ps')) (block_scope place s at n cs ps) (block_scope place s' at' n' cs ps')
      (same_block_fault s s' (environment_same s s' same) cs ps ps' h) (block_scope_same place n n' cs ps ps' j h)

  pub opened_same : (ms ms' : List Module) → Pairwise SameModule ms ms' → (x x' : Inner) → SameInner x x' → SameOption SameScope (opened ms s at x) (opened ms' s' at' x')
  opened_same ms ms' modules _ _ (instance_same u u' h) =
      let nets : permits_nets ms u.of ≡ permits_nets ms' u'.of = same_permits ms ms' u.of modules ∙ ap (permits_nets ms') h.of in
      opened_instance_same (permits_nets ms u.of) (permits_nets ms' u'.of) nets u u' h (module_named ms u.of) (module_named ms' u'.of)
      (subst (λ z. SameOption SameModule (module_named ms u.of) (module_named ms' z)) h.of (same_found ms ms' u.of modules))
  opened_same ms ms' modules _ _ (generated_same place n cs xs xs' h) = opened_block_same place n n cs (pieces_of xs) (pieces_of xs') refl (pieces_same xs xs' h)
  opened_same ms ms' modules _ _ (named_same x x' h) =
      opened_block_same 0 (plainly x.name) (plainly x'.name) [] (block_pieces x) (block_pieces x') (ap plainly h.name) (block_pieces_same x x' h)

-- ---- what stands before scopes

pub counts_same : (ss ss' : List Scope) → Pairwise SameScope ss ss' → signal_count ss ≡ signal_count ss'
counts_same ss ss' h = ap length (flat_one SameScope declarations_of declarations_same ss ss' h)

-- as many scopes of both have what is tested
tested_same : (test : Scope → Bool) → ((s s' : Scope) → SameScope s s' → test s ≡ test s') → (ss ss' : List Scope) → Pairwise SameScope ss ss' → length (filter test ss) ≡ length (filter test ss')
tested_same test step _ _ no_pair = refl
tested_same test step _ _ (pair_more s s' ss ss' h r) = by (test s) (test s') (step s s' h) (tested_same test step ss ss' r)
  where
    by : (c c' : Bool) → c ≡ c' → length (filter test ss) ≡ length (filter test ss') → length (cond c (s ∷ filter test ss) (filter test ss)) ≡ length (cond c' (s' ∷ filter test ss') (filter test ss'))
    by true true i rest = ap suc rest
    by true false i rest = absurd (true≢false i)
    by false true i rest = absurd (true≢false (sym i))
    by false false i rest = rest

turns_in_same : (s s' : Scope) → SameScope s s' → turns_in s ≡ turns_in s'
turns_in_same s s' h = ap (λ env. turns_among env s.pieces) (environment_same s s' h) ∙ same_turns (environment s') s.pieces s'.pieces h.pieces

turn_counts_same : (ss ss' : List Scope) → Pairwise SameScope ss ss' → turn_count ss ≡ turn_count ss'
turn_counts_same ss ss' h = ap sum (pair_same SameScope turns_in turns_in_same ss ss' h)

-- what stands before a scope behind so many scopes, signals, instances and turns
abbrev behind_by : Before → ℕ → ℕ → ℕ → ℕ → Before
behind_by at scopes signals instances turns = record {
  scopes = at.scopes + scopes;
  signals = at.signals + signals;
  instances = at.instances + instances;
  turns = at.turns + turns;
}

behind_both : (at at' : Before) (ss ss' : List Scope) → at ≡ at' → Pairwise SameScope ss ss' → before_following at ss ≡ before_following at' ss'
behind_both at at' ss ss' i h =
    let scopes = pair_length SameScope ss ss' h in
    let instances = tested_same (λ (s : Scope). is_instance s.kind) (λ s s' k. ap is_instance k.kind) ss ss' h in
    let turns = turn_counts_same ss ss' h in
    ap (λ a. before_following a ss) i ∙ ap₂ (λ m n. behind_by at' m n (instance_count ss) (turn_count ss)) scopes (counts_same ss ss' h) ∙ ap₂ (behind_by at' (length ss') (signal_count ss')) instances turns

abbrev before_by : ℕ → ℕ → ℕ → ℕ → Before
before_by number base instances turns = record { scopes = number; signals = base; instances = instances; turns = turns }

before_same : (s s' : Scope) → SameScope s s' → before s ≡ before s'
before_same s s' h = ap₂ (λ m n. before_by m n s.instances s.turns) h.number h.base ∙ ap₂ (before_by s'.number s'.base) h.instances h.turns

first_same : (s s' : Scope) → SameScope s s' → within_first s ≡ within_first s'
first_same s s' h = behind_both (before s) (before s') (s ∷ []) (s' ∷ []) (before_same s s' h) (one_pair SameScope s s' h)

-- ---- scopes in scopes

listed_same : (f f' : Scope → List Scope) → ((t t' : Scope) → SameScope t t' → Pairwise SameScope (f t) (f' t')) → (o o' : Option Scope) → SameOption SameScope o o' → Pairwise SameScope (of_opened f o) (of_opened f' o')
listed_same f f' inside _ _ both_absent = no_pair
listed_same f f' inside _ _ (both_there t t' h) = inside t t' h

listed_one : (g g' : Scope → List Line) → ((t t' : Scope) → SameScope t t' → g t ≡ g' t') → (o o' : Option Scope) → SameOption SameScope o o' → of_opened g o ≡ of_opened g' o'
listed_one g g' inside _ _ both_absent = refl
listed_one g g' inside _ _ (both_there t t' h) = inside t t' h

module _ (ms ms' : List Module) (modules : Pairwise SameModule ms ms') (f f' : Scope → List Scope) (inside : (t t' : Scope) → SameScope t t' → Pairwise SameScope (f t) (f' t')) (s s' : Scope) (same : SameScope s s') where
  -- the scopes below an instance or a block
  inner_scopes : (at at' : Before) → at ≡ at' → (x x' : Inner) → SameInner x x' → Pairwise SameScope (of_opened f (opened ms s at x)) (of_opened f' (opened ms' s' at' x'))
  inner_scopes at at' i x x' h = listed_same f f' inside (opened ms s at x) (opened ms' s' at' x') (opened_same s s' same at at' i ms ms' modules x x' h)

  below_same : (at at' : Before) → at ≡ at' → (xs xs' : List Inner) → Pairwise SameInner xs xs' → Pairwise SameScope (below ms f s at xs) (below ms' f' s' at' xs')
  below_same at at' i _ _ no_pair = no_pair
  below_same at at' i _ _ (pair_more x x' xs xs' h r) =
      let inner = of_opened f (opened ms s at x) in
      let inner' = of_opened f' (opened ms' s' at' x') in
      let both : Pairwise SameScope inner inner' = inner_scopes at at' i x x' h in
      pair_append SameScope inner inner' (below ms f s (before_following at inner) xs) (below ms' f' s' (before_following at' inner') xs') both
      (below_same (before_following at inner) (before_following at' inner') (behind_both at at' inner inner' i both) xs xs' r)

  module _ (g g' : Scope → List Line) (shown : (t t' : Scope) → SameScope t t' → g t ≡ g' t') where
    lines_same : (at at' : Before) → at ≡ at' → (xs xs' : List Inner) → Pairwise SameInner xs xs' → outline_below ms f g s at xs ≡ outline_below ms' f' g' s' at' xs'
    lines_same at at' i _ _ no_pair = refl
    lines_same at at' i _ _ (pair_more x x' xs xs' h r) =
        let inner = of_opened f (opened ms s at x) in
        let inner' = of_opened f' (opened ms' s' at' x') in
        let both : Pairwise SameScope inner inner' = inner_scopes at at' i x x' h in
        ap₂ (λ (a c : List Line). a ++ c) (listed_one g g' shown (opened ms s at x) (opened ms' s' at' x') (opened_same s s' same at at' i ms ms' modules x x' h))
        (lines_same (before_following at inner) (before_following at' inner') (behind_both at at' inner inner' i both) xs xs' r)

-- ---- whole sources

-- the top scope of a source, where there is one
abbrev top_of : List Module → List ℕ → Option Scope
top_of ms top = opened_top (permits_nets ms top) (module_named ms top)

module _ (ms ms' : List Module) (modules : Pairwise SameModule ms ms') where
  within_same : (n : ℕ) (s s' : Scope) → SameScope s s' → Pairwise SameScope (scopes_within n ms s) (scopes_within n ms' s')
  unfolding scopes_within
  within_same zero s s' h = pair_more s s' [] [] h no_pair
  within_same (suc n) s s' h =
      pair_more s s' _ _ h
      (below_same ms ms' modules (scopes_within n ms) (scopes_within n ms') (within_same n) s s' h (within_first s) (within_first s') (first_same s s' h) (inner_of s) (inner_of s') (inside_same s s' h))

  outline_same : (n : ℕ) (s s' : Scope) → SameScope s s' → outline_within n ms s ≡ outline_within n ms' s'
  outline_same zero s s' h = around_same s s' h [] [] refl
  outline_same (suc n) s s' h =
      around_same s s' h _ _
      (lines_same ms ms' modules (scopes_within n ms) (scopes_within n ms') (within_same n) s s' h (outline_within n ms) (outline_within n ms') (outline_same n)
      (within_first s) (within_first s') (first_same s s' h) (inner_of s) (inner_of s') (inside_same s s' h))

  top_same : (nets nets' : Bool) (m m' : Module) → nets ≡ nets' → SameModule m m' → SameScope (top_scope nets m) (top_scope nets' m')
  top_same nets nets' m m' j k = record {
    path = ap (λ (n : List ℕ). plainly n ∷ []) k.name;
    title = ap plainly k.name;
    kind = refl;
    number = refl;
    base = refl;
    instances = refl;
    turns = refl;
    depth = refl;
    nets = j;
    text = same_text m m' k;
    ports = same_ports m m' k;
    pieces = same_module_pieces nets nets' m m' j k;
    constants = same_values nowhere None None m m' both_absent k;
    known = same_known nowhere None None m m' both_absent k;
    within = ap (λ (n : List ℕ). n ∷ []) k.name;
    home = ap (λ (n : List ℕ). plainly n ∷ []) k.name;
    around = refl;
    outer = refl;
    sight = refl;
    ends = no_pair;
  }

  opened_top_same : (nets nets' : Bool) (o o' : Option Module) → nets ≡ nets' → SameOption SameModule o o' → SameOption SameScope (opened_top nets o) (opened_top nets' o')
  opened_top_same nets nets' _ _ j both_absent = both_absent
  opened_top_same nets nets' _ _ j (both_there m m' k) =
      either_same (has_no_values nowhere None m) (has_no_values nowhere None m') (top_scope nets m) (top_scope nets' m') (same_no_values nowhere None None m m' both_absent k) (top_same nets nets' m m' j k)

  -- the top scopes of two sources that say the same
  tops_same : (top : List ℕ) → SameOption SameScope (top_of ms top) (top_of ms' top)
  tops_same top = opened_top_same (permits_nets ms top) (permits_nets ms' top) (module_named ms top) (module_named ms' top) (same_permits ms ms' top modules) (same_found ms ms' top modules)

  -- so many levels of their scopes, and of their outlines
  levels_same : (n : ℕ) (top : List ℕ) → Pairwise SameScope (of_opened (scopes_within n ms) (top_of ms top)) (of_opened (scopes_within n ms') (top_of ms' top))
  levels_same n top = listed_same (scopes_within n ms) (scopes_within n ms') (within_same n) (top_of ms top) (top_of ms' top) (tops_same top)

  lines_within : (n : ℕ) (top : List ℕ) → of_opened (outline_within n ms) (top_of ms top) ≡ of_opened (outline_within n ms') (top_of ms' top)
  lines_within n top = listed_one (outline_within n ms) (outline_within n ms') (outline_same n) (top_of ms top) (top_of ms' top) (tops_same top)

  -- the scopes of two sources that say the same
  pub scopes_same : (top : List ℕ) → Pairwise SameScope (scopes_of ms top) (scopes_of ms' top)
  scopes_same top = levels_same deepest top

  -- and their outlines
  pub outlines_same : (top : List ℕ) → outline_of ms top ≡ outline_of ms' top
  outlines_same top = lines_within deepest top

-- ---- names by paths

at_same : (ss ss' : List Scope) → Pairwise SameScope ss ss' → (p : Path) → environment_at ss p ≡ environment_at ss' p
at_same _ _ no_pair p = refl
at_same _ _ (pair_more s s' ss ss' h r) p =
    ap (λ (z : Path). cond (same_path z p) (environment s) (environment_at ss p)) h.path
    ∙ ap₂ (λ (e o : Environment). cond (same_path s'.path p) e o) (environment_same s s' h) (at_same ss ss' r p)

-- names are bound to the same in the scope of each path
pub environments_same : (ss ss' : List Scope) → Pairwise SameScope ss ss' → environment_at ss ≡ environment_at ss'
environments_same ss ss' h = fun_ext (at_same ss ss' h)
