-- Sizes, ports and names of modules that say the same.
use Rattle.std.proofs.Common.{◌≡◌, ℕ, ℤ, Bool, true, false, ◌&&◌, ◌||◌, true≢false, cond, List, [], ◌∷◌, ◌++◌, Option, Some, None, map, refl, ap, ap₂, sym, subst, ◌∙◌}
use Rattle.std.specs.Prelude.{is_none}
use Rattle.std.proofs.Math.Path.{fun_ext}
use Rattle.std.specs.List.{flat_map}
use Rattle.std.specs.Str.{bytes_eq}
use Rattle.std.specs.declared.vec.Vec.{Vec}
use Rattle.std.specs.declared.alloc.Global.{Global}
use Rattle.vs_syntax.specs.declared.tree.Declarator.{Declarator}
use Rattle.vs_syntax.specs.declared.tree.Expr.{Expr}
use Rattle.vs_syntax.specs.declared.tree.Form.{Form}
use Rattle.vs_syntax.specs.declared.tree.Item.{Item}
use Rattle.vs_syntax.specs.declared.tree.Local.{Local}
use Rattle.vs_syntax.specs.declared.tree.LocalDeclaration.{LocalDeclaration}
use Rattle.vs_syntax.specs.declared.tree.Module.{Module}
use Rattle.vs_syntax.specs.declared.tree.Port.{Port}
use Rattle.vs_syntax.specs.declared.tree.PortForm.{PortForm}
use Rattle.vs_syntax.specs.declared.tree.Range.{Range}
use Rattle.vs_syntax.specs.Same.{Pairwise, no_pair, pair_more, SameOption, both_absent, both_there, SameName, SameValue, same_no_value, SameRange, same_no_range, same_range, SameDeclarator, SameLocal, SameLocals, same_local_reg, same_local_integer, SameForm, SamePortForm, SamePort, SamePorts, SameConnections, SameInstance, SameItem, same_port_item, same_genvars, same_wire, same_reg, same_integer, same_parameters, same_localparams, same_instances, same_assigns, same_initial, same_always, SameModule}
use Rattle.vs_design.specs.declared.signal.SignalKind.{SignalKind}
use Rattle.vs_design.specs.declared.signal.SignalKind.TheVariants as k
use Rattle.vs_elab_statements.specs.vs_widths.specs.Environment.{Environment}
use Rattle.vs_elab_statements.specs.vs_widths.specs.Findings.{too_wide}
use Rattle.vs_elab_statements.specs.vs_widths.specs.Meants.{Meant, own}
use Rattle.vs_elab_statements.specs.vs_widths.specs.Constants.{constant_finding, whole_at}
use Rattle.vs_elab_statements.specs.vs_widths.specs.Expressions.{meant}
use Rattle.vs_elaborate.specs.vs_scopes.specs.declared.faults.Reason.{Reason}
use Rattle.vs_elaborate.specs.vs_scopes.specs.declared.faults.Reason.TheVariants.{NoModule, Inside, PortMismatch, ParameterMismatch, DeclaredTwice, DrivenTwice, Limit, Width, Endless, Unnamed, Timescales, Format}
use Rattle.vs_elaborate.specs.vs_scopes.specs.Ranges.{Sized, Words, range_bounds, words_fault, words_as, is_array_of_nets, number_fault, both_bounds, is_over, shape_with, distance_or, sized_as}
use Rattle.vs_elaborate.specs.vs_scopes.specs.Parameters.{said}
use Rattle.vs_elaborate.specs.vs_scopes.specs.Ports.{PortSource, ModulePort, kind_of_port, scalar_form, port_as, ports_from, is_among, said_in, port_said, KindSaid, kind_among, kind_in, kind_said, joined_port, port_of_items, port_by_items, is_name_list, ports_of_header, ports_of, port_names, port_names_in, is_of_items, is_joined, names_where, left_over, ports_again}
use Rattle.vs_elaborate.specs.vs_scopes.specs.Declarations.{DeclaredName, size_of_kind, declared_by_port, declared_as, declared_by_item, declared_local, declared_locally, declared_in, not_joined, declared_among, declared_names, Use, use_of, uses_by_item, genvars_in, each_once, inner_names_in, inner_names_among}
use Rattle.vs_scopes.specs.Pieces.{NamedBlock, blocks_of, Piece, plain, pieces_of, content_of}
use Rattle.vs_elaborate.proofs.PairLemmas.{pair_map, pair_same, flat_one}
use Rattle.vs_elaborate.proofs.SamePieceLemmas.{SameBlock, item_blocks_of, SamePiece, plain_same, loop_same, choice_same, local_same, inside_same, net_same, pieces_same, block_name_same, contents_same, branches_same, others_same}
use Rattle.vs_elaborate.proofs.SameTypedLemmas.{same_meant}

-- ---- sizes

-- sizes by what the bounds of a range mean
abbrev sized_by : Bool → ℕ → Meant → Meant → Sized
sized_by g n a b =
    let m = whole_at (constant_finding a) (own a [] 0) in
    let k = whole_at (constant_finding b) (own b [] 0) in
    record {
      shape = shape_with (distance_or n (both_bounds m k)) g;
      bounds = both_bounds m k;
      faults = λ w. (number_fault w (constant_finding a) m || number_fault w (constant_finding b) k) || (too_wide w && is_over 63 (both_bounds m k));
    }

pub range_sizes : (env : Environment) (g : Bool) (n : ℕ) (o o' : Option Range) → SameRange o o' → sized_as env g n o ≡ sized_as env g n o'
range_sizes env g n _ _ same_no_range = refl
range_sizes env g n _ _ (same_range r r' h k) = ap₂ (sized_by g n) (same_meant env r.left r'.left h) (same_meant env r.right r'.right k)

form_sizes : (env : Environment) (n : ℕ) (f f' : Form) → SameForm f f' → sized_as env f.signed n f.range ≡ sized_as env f'.signed n f'.range
form_sizes env n f f' h = ap (λ g. sized_as env g n f.range) h.signed ∙ range_sizes env f'.signed n f.range f'.range h.range

kind_sizes : (env : Environment) (kind : SignalKind) (f f' : Form) → SameForm f f' → size_of_kind env kind f ≡ size_of_kind env kind f'
kind_sizes env k.Wire f f' h = form_sizes env 0 f f' h
kind_sizes env k.Reg f f' h = form_sizes env 0 f f' h
kind_sizes env k.Integer f f' h = range_sizes env true 31 f.range f'.range h.range

-- the faults of words by the findings and the numbers of the bounds of a range
abbrev word_faults : SignalKind → Meant → Meant → Option ℤ → Option ℤ → Reason → Bool
word_faults kind a b m n (Width w) = (number_fault w (constant_finding a) m || number_fault w (constant_finding b) n) || is_array_of_nets w kind
word_faults kind a b m n Limit = is_over 65535 (both_bounds m n)
word_faults kind a b m n _ = false

-- words by what the bounds of a range mean
abbrev words_by : SignalKind → Meant → Meant → Words
words_by kind a b =
    let m = whole_at (constant_finding a) (own a [] 0) in
    let n = whole_at (constant_finding b) (own b [] 0) in
    record { bounds = both_bounds m n; faults = word_faults kind a b m n }

range_words : (env : Environment) (kind : SignalKind) (o o' : Option Range) → SameRange o o' → words_as env kind o ≡ words_as env kind o'
range_words env kind _ _ same_no_range = refl
range_words env kind _ _ (same_range r r' h k) = words_are r ∙ ap₂ (words_by kind) (same_meant env r.left r'.left h) (same_meant env r.right r'.right k) ∙ sym (words_are r')
  where
    by : (r : Range) (q : Reason) → words_fault q env kind (Some r) ≡ (words_by kind (meant env r.left) (meant env r.right)).faults q
    by r (Width w) = refl
    by r Limit = refl
    by r NoModule = refl
    by r Inside = refl
    by r PortMismatch = refl
    by r ParameterMismatch = refl
    by r DeclaredTwice = refl
    by r DrivenTwice = refl
    by r Endless = refl
    by r Unnamed = refl
    by r Timescales = refl
    by r (Format wrong) = refl

    words_are : (r : Range) → words_as env kind (Some r) ≡ words_by kind (meant env r.left) (meant env r.right)
    words_are r = let P : (Reason → Bool) → Words = λ g. record { bounds = range_bounds env (Some r); faults = g } in ap P (fun_ext (by r))

-- ---- ports

pub record SameModulePort (p p' : ModulePort) : Type 0 where
  pub direction : p.direction ≡ p'.direction
  pub kind : p.kind ≡ p'.kind
  pub form : SameForm p.form p'.form
  pub name : p.name ≡ p'.name
  pub value : SameValue p.value p'.value
  pub source : p.source ≡ p'.source

pub same_said : {A : Type 0} (R : A → A → Type 0) (a a' b b' : Option A) → SameOption R a a' → SameOption R b b' → SameOption R (said a b) (said a' b')
same_said R a a' _ _ h both_absent = h
same_said R a a' _ _ h (both_there x x' k) = both_there x x' k

same_port_as : (o o' : Option PortForm) (n n' : List ℕ) (v v' : Option Expr) → SameOption SamePortForm o o' → n ≡ n' → SameValue v v' → SameModulePort (port_as o n v) (port_as o' n' v')
same_port_as _ _ n n' v v' both_absent i h = record { direction = refl; kind = refl; form = record { signed = refl; range = same_no_range }; name = i; value = h; source = refl }
same_port_as _ _ n n' v v' (both_there f f' m) i h = record { direction = m.direction; kind = ap kind_of_port m.kind; form = m.form; name = i; value = h; source = refl }

same_ports_from : (a a' : Option PortForm) (ps ps' : List Port) → SameOption SamePortForm a a' → Pairwise SamePort ps ps' → Pairwise SameModulePort (ports_from a ps) (ports_from a' ps')
same_ports_from a a' _ _ h no_pair = no_pair
same_ports_from a a' _ _ h (pair_more p p' ps ps' i r) =
    let next = same_said SamePortForm a a' p.form p'.form h i.form in
    pair_more (port_as (said a p.form) p.name.items p.value) (port_as (said a' p'.form) p'.name.items p'.value) (ports_from (said a p.form) ps) (ports_from (said a' p'.form) ps')
    (same_port_as (said a p.form) (said a' p'.form) p.name.items p'.name.items p.value p'.value next i.name i.value) (same_ports_from (said a p.form) (said a' p'.form) ps ps' next r)

-- ---- ports that items declare

pub bare_same : (ns ns' : List (Vec ℕ Global)) → Pairwise SameName ns ns' → map (λ (n : Vec ℕ Global). n.items) ns ≡ map (λ (n : Vec ℕ Global). n.items) ns'
bare_same ns ns' h = pair_same SameName (λ (n : Vec ℕ Global). n.items) (λ n n' i. i) ns ns' h

among_same : (n : List ℕ) (ns ns' : List (Vec ℕ Global)) → Pairwise SameName ns ns' → is_among n ns ≡ is_among n ns'
among_same n _ _ no_pair = refl
among_same n _ _ (pair_more x x' xs xs' h r) = ap₂ (λ a c. a || c) (ap (bytes_eq n) h) (among_same n xs xs' r)

-- what one of two says, where both decide alike
option_by : {A : Type 0} (R : A → A → Type 0) (c c' : Bool) (a a' b b' : Option A) → c ≡ c' → SameOption R a a' → SameOption R b b' → SameOption R (cond c a b) (cond c' a' b')
option_by R true true a a' b b' i h k = h
option_by R true false a a' b b' i h k = absurd (true≢false i)
option_by R false true a a' b b' i h k = absurd (true≢false (sym i))
option_by R false false a a' b b' i h k = k

item_said : (n : List ℕ) (x x' : Item) → SameItem x x' → SameOption SamePortForm (said_in (plain x) n) (said_in (plain x') n)
item_said n _ _ (same_port_item f f' ns ns' g p) =
    option_by SamePortForm (is_among n ns.items) (is_among n ns'.items) (Some f) (Some f') None None (among_same n ns.items ns'.items p) (both_there f f' g) both_absent
item_said n _ _ (same_genvars ns ns' p) = both_absent
item_said n _ _ (same_wire f f' ds ds' g p) = both_absent
item_said n _ _ (same_reg f f' ds ds' g p) = both_absent
item_said n _ _ (same_integer ds ds' p) = both_absent
item_said n _ _ (same_parameters f f' xs xs' g p) = both_absent
item_said n _ _ (same_localparams f f' xs xs' g p) = both_absent
item_said n _ _ (same_instances m m' o o' xs xs' i g p) = both_absent
item_said n _ _ (same_assigns xs xs' p) = both_absent
item_said n _ _ (same_initial x x' p) = both_absent
item_said n _ _ (same_always x x' p) = both_absent

piece_said : (n : List ℕ) (x x' : Piece) → SamePiece x x' → SameOption SamePortForm (said_in x n) (said_in x' n)
piece_said n _ _ (plain_same x x' m) = item_said n x x' m
piece_said n _ _ (loop_same h h' x x' i m) = both_absent
piece_said n _ _ (choice_same e e' x x' o o' i m r) = both_absent
piece_said n _ _ (local_same x x' m) = both_absent
piece_said n _ _ (inside_same b b' m) = both_absent
piece_said n _ _ (net_same x) = both_absent

port_said_same : (n : List ℕ) (ps ps' : List Piece) → Pairwise SamePiece ps ps' → SameOption SamePortForm (port_said ps n) (port_said ps' n)
port_said_same n _ _ no_pair = both_absent
port_said_same n _ _ (pair_more p p' ps ps' h r) =
    same_said SamePortForm (port_said ps n) (port_said ps' n) (said_in p n) (said_in p' n) (port_said_same n ps ps' r) (piece_said n p p' h)

record SameKindSaid (x x' : KindSaid) : Type 0 where
  kind : x.kind ≡ x'.kind
  form : SameForm x.form x'.form
  words : SameRange x.words x'.words

kind_among_same : (kind : SignalKind) (f f' : Form) (n : List ℕ) (ds ds' : List Declarator) → SameForm f f' → Pairwise SameDeclarator ds ds' →
    SameOption SameKindSaid (kind_among kind f ds n) (kind_among kind f' ds' n)
kind_among_same kind f f' n _ _ g no_pair = both_absent
kind_among_same kind f f' n _ _ g (pair_more d d' ds ds' h r) =
    option_by SameKindSaid (bytes_eq n d.name.items) (bytes_eq n d'.name.items) _ _ (kind_among kind f ds n) (kind_among kind f' ds' n) (ap (bytes_eq n) h.name)
    (both_there _ _ (record { kind = refl; form = g; words = h.words })) (kind_among_same kind f f' n ds ds' g r)

item_kind : (n : List ℕ) (x x' : Item) → SameItem x x' → SameOption SameKindSaid (kind_in (plain x) n) (kind_in (plain x') n)
item_kind n _ _ (same_port_item f f' ns ns' g p) = both_absent
item_kind n _ _ (same_genvars ns ns' p) = both_absent
item_kind n _ _ (same_wire f f' ds ds' g p) = kind_among_same k.Wire f f' n ds.items ds'.items g p
item_kind n _ _ (same_reg f f' ds ds' g p) = kind_among_same k.Reg f f' n ds.items ds'.items g p
item_kind n _ _ (same_integer ds ds' p) = kind_among_same k.Integer (scalar_form true) (scalar_form true) n ds.items ds'.items (record { signed = refl; range = same_no_range }) p
item_kind n _ _ (same_parameters f f' xs xs' g p) = both_absent
item_kind n _ _ (same_localparams f f' xs xs' g p) = both_absent
item_kind n _ _ (same_instances m m' o o' xs xs' i g p) = both_absent
item_kind n _ _ (same_assigns xs xs' p) = both_absent
item_kind n _ _ (same_initial x x' p) = both_absent
item_kind n _ _ (same_always x x' p) = both_absent

piece_kind : (n : List ℕ) (x x' : Piece) → SamePiece x x' → SameOption SameKindSaid (kind_in x n) (kind_in x' n)
piece_kind n _ _ (plain_same x x' m) = item_kind n x x' m
piece_kind n _ _ (loop_same h h' x x' i m) = both_absent
piece_kind n _ _ (choice_same e e' x x' o o' i m r) = both_absent
piece_kind n _ _ (local_same x x' m) = both_absent
piece_kind n _ _ (inside_same b b' m) = both_absent
piece_kind n _ _ (net_same x) = both_absent

kind_said_same : (n : List ℕ) (ps ps' : List Piece) → Pairwise SamePiece ps ps' → SameOption SameKindSaid (kind_said ps n) (kind_said ps' n)
kind_said_same n _ _ no_pair = both_absent
kind_said_same n _ _ (pair_more p p' ps ps' h r) =
    same_said SameKindSaid (kind_said ps n) (kind_said ps' n) (kind_in p n) (kind_in p' n) (kind_said_same n ps ps' r) (piece_kind n p p' h)

joined_same : (f f' : PortForm) (n n' : List ℕ) (x x' : Option KindSaid) → SamePortForm f f' → n ≡ n' → SameOption SameKindSaid x x' → SameModulePort (joined_port f n x) (joined_port f' n' x')
joined_same f f' n n' _ _ g i both_absent = record { direction = g.direction; kind = refl; form = g.form; name = i; value = same_no_value; source = refl }
joined_same f f' n n' _ _ g i (both_there x x' h) = record {
  direction = g.direction;
  kind = h.kind;
  form = record { signed = ap₂ (λ a c. a || c) g.form.signed h.form.signed; range = g.form.range };
  name = i;
  value = same_no_value;
  source = refl;
}

port_by : (c c' : Bool) (p p' q q' : ModulePort) → c ≡ c' → SameModulePort p p' → SameModulePort q q' → SameModulePort (cond c p q) (cond c' p' q')
port_by true true p p' q q' i h k = h
port_by true false p p' q q' i h k = absurd (true≢false i)
port_by false true p p' q q' i h k = absurd (true≢false (sym i))
port_by false false p p' q q' i h k = k

port_of_items_same : (f f' : Option PortForm) (n n' : List ℕ) (x x' : Option KindSaid) → SameOption SamePortForm f f' → n ≡ n' → SameOption SameKindSaid x x' → SameModulePort (port_of_items f n x) (port_of_items f' n' x')
port_of_items_same _ _ n n' x x' both_absent i h = same_port_as None None n n' None None both_absent i same_no_value
port_of_items_same _ _ n n' x x' (both_there f f' g) i h =
    port_by (is_none f.kind) (is_none f'.kind) (joined_port f n x) (joined_port f' n' x') _ _ (ap is_none g.kind) (joined_same f f' n n' x x' g i h)
    (record { direction = g.direction; kind = ap kind_of_port g.kind; form = g.form; name = i; value = same_no_value; source = refl })

by_items_same : (ps ps' : List Piece) → Pairwise SamePiece ps ps' → (p p' : Port) → SamePort p p' → SameModulePort (port_by_items ps p) (port_by_items ps' p')
by_items_same ps ps' h p p' i =
    port_of_items_same (port_said ps p.name.items) (port_said ps' p'.name.items) p.name.items p'.name.items (kind_said ps p.name.items) (kind_said ps' p'.name.items)
    (subst (λ n. SameOption SamePortForm (port_said ps p.name.items) (port_said ps' n)) i.name (port_said_same p.name.items ps ps' h)) i.name
    (subst (λ n. SameOption SameKindSaid (kind_said ps p.name.items) (kind_said ps' n)) i.name (kind_said_same p.name.items ps ps' h))

-- ---- the ports of a module

none_same : {A : Type 0} (R : A → A → Type 0) (o o' : Option A) → SameOption R o o' → is_none o ≡ is_none o'
none_same R _ _ both_absent = refl
none_same R _ _ (both_there x x' h) = refl

name_list_same : (ps ps' : List Port) → Pairwise SamePort ps ps' → is_name_list ps ≡ is_name_list ps'
name_list_same _ _ no_pair = refl
name_list_same _ _ (pair_more p p' ps ps' h r) = none_same SamePortForm p.form p'.form h.form

ports_by : (c c' : Bool) (as' as'' bs bs' : List ModulePort) → c ≡ c' → Pairwise SameModulePort as' as'' → Pairwise SameModulePort bs bs' → Pairwise SameModulePort (cond c as' bs) (cond c' as'' bs')
ports_by true true as' as'' bs bs' i h k = h
ports_by true false as' as'' bs bs' i h k = absurd (true≢false i)
ports_by false true as' as'' bs bs' i h k = absurd (true≢false (sym i))
ports_by false false as' as'' bs bs' i h k = k

same_listed : (xs xs' : List Piece) (o o' : Option (Vec Port Global)) → Pairwise SamePiece xs xs' → SameOption SamePorts o o' → Pairwise SameModulePort (ports_of_header xs o) (ports_of_header xs' o')
same_listed xs xs' _ _ h both_absent = no_pair
same_listed xs xs' _ _ h (both_there ps ps' r) =
    ports_by (is_name_list ps.items) (is_name_list ps'.items) (map (port_by_items xs) ps.items) (map (port_by_items xs') ps'.items) (ports_from None ps.items) (ports_from None ps'.items)
    (name_list_same ps.items ps'.items r) (pair_map SamePort SameModulePort (port_by_items xs) (port_by_items xs') (by_items_same xs xs' h) ps.items ps'.items r)
    (same_ports_from None None ps.items ps'.items both_absent r)

-- the pieces of modules that say the same
pub same_pieces : (m m' : Module) → SameModule m m' → Pairwise SamePiece (pieces_of m.items.items) (pieces_of m'.items.items)
same_pieces m m' h = pieces_same m.items.items m'.items.items h.items

pub same_ports : (m m' : Module) → SameModule m m' → Pairwise SameModulePort (ports_of m) (ports_of m')
same_ports m m' h = same_listed (pieces_of m.items.items) (pieces_of m'.items.items) m.ports m'.ports (same_pieces m m' h) h.ports

pub same_port_names : (ps ps' : List ModulePort) → Pairwise SameModulePort ps ps' → port_names ps ≡ port_names ps'
same_port_names ps ps' h = pair_same SameModulePort (λ (p : ModulePort). p.name) (λ p p' r. r.name) ps ps' h

-- the names of ports by what declares them
names_where_same : (test : PortSource → Bool) (ps ps' : List ModulePort) → Pairwise SameModulePort ps ps' → names_where test ps ≡ names_where test ps'
names_where_same test _ _ no_pair = refl
names_where_same test _ _ (pair_more p p' ps ps' h r) =
    ap (λ c. cond (test c) (p.name ∷ names_where test ps) (names_where test ps)) h.source ∙ ap₂ (λ n ns. cond (test p'.source) (n ∷ ns) ns) h.name (names_where_same test ps ps' r)

item_port_names : (x x' : Item) → SameItem x x' → port_names_in (plain x) ≡ port_names_in (plain x')
item_port_names _ _ (same_port_item f f' ns ns' g p) = bare_same ns.items ns'.items p
item_port_names _ _ (same_genvars ns ns' p) = refl
item_port_names _ _ (same_wire f f' ds ds' g p) = refl
item_port_names _ _ (same_reg f f' ds ds' g p) = refl
item_port_names _ _ (same_integer ds ds' p) = refl
item_port_names _ _ (same_parameters f f' xs xs' g p) = refl
item_port_names _ _ (same_localparams f f' xs xs' g p) = refl
item_port_names _ _ (same_instances n n' o o' xs xs' i g p) = refl
item_port_names _ _ (same_assigns xs xs' p) = refl
item_port_names _ _ (same_initial x x' p) = refl
item_port_names _ _ (same_always x x' p) = refl

piece_port_names : (x x' : Piece) → SamePiece x x' → port_names_in x ≡ port_names_in x'
piece_port_names _ _ (plain_same x x' m) = item_port_names x x' m
piece_port_names _ _ (loop_same h h' x x' i m) = refl
piece_port_names _ _ (choice_same e e' x x' o o' i m r) = refl
piece_port_names _ _ (local_same x x' m) = refl
piece_port_names _ _ (inside_same b b' m) = refl
piece_port_names _ _ (net_same x) = refl

pub same_ports_again : (ps ps' : List ModulePort) (xs xs' : List Piece) → Pairwise SameModulePort ps ps' → Pairwise SamePiece xs xs' → ports_again ps xs ≡ ports_again ps' xs'
same_ports_again ps ps' xs xs' h r = ap₂ left_over (names_where_same is_of_items ps ps' h) (flat_one SamePiece port_names_in piece_port_names xs xs' r)

-- ---- declared names

port_declares : (env : Environment) (p p' : ModulePort) → SameModulePort p p' → declared_by_port env p ≡ declared_by_port env p'
port_declares env p p' h =
    let P : SignalKind → Sized → List ℕ → DeclaredName = λ kind z n. record { kind = kind; size = z; words = words_as env kind None; name = n } in
    ap (λ kind. P kind (size_of_kind env kind p.form) p.name) h.kind ∙ ap₂ (P p'.kind) (kind_sizes env p'.kind p.form p'.form h.form) h.name

declarators_declare : (env : Environment) (kind : SignalKind) (z : Sized) (ds ds' : List Declarator) → Pairwise SameDeclarator ds ds' → declared_as env kind z ds ≡ declared_as env kind z ds'
declarators_declare env kind z _ _ no_pair = refl
declarators_declare env kind z _ _ (pair_more x x' xs xs' h r) =
    (let P : List ℕ → Words → DeclaredName = λ n w. record { kind = kind; size = z; words = w; name = n } in ap₂ (λ d ds. d ∷ ds) (ap₂ P h.name (range_words env kind x.words x'.words h.words)) (declarators_declare env kind z xs xs' r))

item_declares : (env : Environment) (x x' : Item) → SameItem x x' → declared_by_item env x ≡ declared_by_item env x'
item_declares env _ _ (same_port_item f f' ns ns' g p) = refl
item_declares env _ _ (same_genvars ns ns' p) = refl
item_declares env _ _ (same_wire f f' ds ds' g p) = ap (λ z. declared_as env k.Wire z ds.items) (form_sizes env 0 f f' g) ∙ declarators_declare env _ _ ds.items ds'.items p
item_declares env _ _ (same_reg f f' ds ds' g p) = ap (λ z. declared_as env k.Reg z ds.items) (form_sizes env 0 f f' g) ∙ declarators_declare env _ _ ds.items ds'.items p
item_declares env _ _ (same_integer ds ds' p) = declarators_declare env _ _ ds.items ds'.items p
item_declares env _ _ (same_parameters f f' xs xs' g p) = refl
item_declares env _ _ (same_localparams f f' xs xs' g p) = refl
item_declares env _ _ (same_instances n n' o o' xs xs' i g p) = refl
item_declares env _ _ (same_assigns xs xs' p) = refl
item_declares env _ _ (same_initial x x' p) = refl
item_declares env _ _ (same_always x x' p) = refl

locals_declare : (env : Environment) (kind : SignalKind) (z : Sized) (xs xs' : List Local) → Pairwise SameLocal xs xs' → map (declared_local env kind z) xs ≡ map (declared_local env kind z) xs'
locals_declare env kind z xs xs' r =
    (let P : List ℕ → Words → DeclaredName = λ n w. record { kind = kind; size = z; words = w; name = n } in
    pair_same SameLocal (declared_local env kind z) (λ x x' h. ap₂ P h.name (range_words env kind x.words x'.words h.words)) xs xs' r)

local_declares : (env : Environment) (x x' : LocalDeclaration) → SameLocals x x' → declared_locally env x ≡ declared_locally env x'
local_declares env _ _ (same_local_reg f f' xs xs' g r) =
    ap (λ z. map (declared_local env k.Reg z) xs.items) (form_sizes env 0 f f' g) ∙ locals_declare env k.Reg _ xs.items xs'.items r
local_declares env _ _ (same_local_integer xs xs' r) = locals_declare env k.Integer _ xs.items xs'.items r

piece_declares : (env : Environment) (x x' : Piece) → SamePiece x x' → declared_in env x ≡ declared_in env x'
piece_declares env _ _ (plain_same x x' m) = item_declares env x x' m
piece_declares env _ _ (loop_same h h' x x' i m) = refl
piece_declares env _ _ (choice_same e e' x x' o o' i m r) = refl
piece_declares env _ _ (local_same x x' m) = local_declares env x x' m
piece_declares env _ _ (inside_same b b' m) = refl
piece_declares env _ _ (net_same x) = refl

pub among_declares : (env : Environment) (xs xs' : List Piece) → Pairwise SamePiece xs xs' → declared_among env xs ≡ declared_among env xs'
among_declares env xs xs' r = flat_one SamePiece (declared_in env) (piece_declares env) xs xs' r

pub ports_declare : (env : Environment) (ps ps' : List ModulePort) → Pairwise SameModulePort ps ps' → map (declared_by_port env) ps ≡ map (declared_by_port env) ps'
ports_declare env ps ps' h = pair_same SameModulePort (declared_by_port env) (port_declares env) ps ps' h

pub same_declared : (env : Environment) (ps ps' : List ModulePort) (xs xs' : List Piece) → Pairwise SameModulePort ps ps' → Pairwise SamePiece xs xs' → declared_names env ps xs ≡ declared_names env ps' xs'
same_declared env ps ps' xs xs' h r =
    ap₂ (λ (a c : List DeclaredName). a ++ c) (ports_declare env ps ps' h) (ap₂ not_joined (names_where_same is_joined ps ps' h) (among_declares env xs xs' r))

-- ---- instances

pub record SameUse (u u' : Use) : Type 0 where
  pub of : u.of ≡ u'.of
  pub overrides : SameOption SameConnections u.overrides u'.overrides
  pub name : u.name ≡ u'.name
  pub ports : SameConnections u.ports u'.ports

pub item_uses : (x x' : Item) → SameItem x x' → Pairwise SameUse (uses_by_item x) (uses_by_item x')
item_uses _ _ (same_port_item f f' ns ns' g p) = no_pair
item_uses _ _ (same_genvars ns ns' p) = no_pair
item_uses _ _ (same_wire f f' ds ds' g p) = no_pair
item_uses _ _ (same_reg f f' ds ds' g p) = no_pair
item_uses _ _ (same_integer ds ds' p) = no_pair
item_uses _ _ (same_parameters f f' xs xs' g p) = no_pair
item_uses _ _ (same_localparams f f' xs xs' g p) = no_pair
item_uses _ _ (same_instances n n' o o' xs xs' i g p) =
    pair_map SameInstance SameUse (use_of n.items o) (use_of n'.items o') (λ x x' h. record { of = i; overrides = g; name = h.name; ports = h.ports }) xs.items xs'.items p
item_uses _ _ (same_assigns xs xs' p) = no_pair
item_uses _ _ (same_initial x x' p) = no_pair
item_uses _ _ (same_always x x' p) = no_pair

-- ---- other names

item_genvars : (x x' : Item) → SameItem x x' → genvars_in (plain x) ≡ genvars_in (plain x')
item_genvars _ _ (same_port_item f f' ns ns' g p) = refl
item_genvars _ _ (same_genvars ns ns' p) = bare_same ns.items ns'.items p
item_genvars _ _ (same_wire f f' ds ds' g p) = refl
item_genvars _ _ (same_reg f f' ds ds' g p) = refl
item_genvars _ _ (same_integer ds ds' p) = refl
item_genvars _ _ (same_parameters f f' xs xs' g p) = refl
item_genvars _ _ (same_localparams f f' xs xs' g p) = refl
item_genvars _ _ (same_instances n n' o o' xs xs' i g p) = refl
item_genvars _ _ (same_assigns xs xs' p) = refl
item_genvars _ _ (same_initial x x' p) = refl
item_genvars _ _ (same_always x x' p) = refl

piece_genvars : (x x' : Piece) → SamePiece x x' → genvars_in x ≡ genvars_in x'
piece_genvars _ _ (plain_same x x' m) = item_genvars x x' m
piece_genvars _ _ (loop_same h h' x x' i m) = refl
piece_genvars _ _ (choice_same e e' x x' o o' i m r) = refl
piece_genvars _ _ (local_same x x' m) = refl
piece_genvars _ _ (inside_same b b' m) = refl
piece_genvars _ _ (net_same x) = refl

pub same_genvar_names : (xs xs' : List Piece) → Pairwise SamePiece xs xs' → flat_map genvars_in xs ≡ flat_map genvars_in xs'
same_genvar_names xs xs' r = flat_one SamePiece genvars_in piece_genvars xs xs' r

piece_inner_names : (x x' : Piece) → SamePiece x x' → inner_names_in x ≡ inner_names_in x'
piece_inner_names _ _ (plain_same x x' m) =
    ap₂ (λ (a c : List (List ℕ)). a ++ c) (pair_same SameUse (λ (u : Use). u.name) (λ u u' r. r.name) (uses_by_item x) (uses_by_item x') (item_uses x x' m))
    (pair_same SameBlock (λ (b : NamedBlock). b.name) (λ b b' r. r.name) (blocks_of x) (blocks_of x') (item_blocks_of x x' m))
piece_inner_names _ _ (loop_same h h' x x' i m) = block_name_same (content_of x) (content_of x') (contents_same x x' m)
piece_inner_names _ _ (choice_same e e' x x' o o' i m r) = ap₂ (λ a c. each_once (a ++ c)) (branches_same x x' m) (others_same o o' r)
piece_inner_names _ _ (local_same x x' m) = refl
piece_inner_names _ _ (inside_same b b' m) = ap (λ (n : List ℕ). n ∷ []) m.name
piece_inner_names _ _ (net_same x) = refl

pub same_inner_names : (xs xs' : List Piece) → Pairwise SamePiece xs xs' → inner_names_among xs ≡ inner_names_among xs'
same_inner_names xs xs' r = flat_one SamePiece inner_names_in piece_inner_names xs xs' r
