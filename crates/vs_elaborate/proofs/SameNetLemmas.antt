-- Implicit nets of sources that say the same.
use Rattle.std.proofs.Common.{◌≡◌, ℕ, suc, Bool, true, false, cond, List, [], ◌∷◌, ◌++◌, Option, map, refl, ap, ap₂, sym, subst, ◌∙◌}
use Rattle.std.specs.Str.{bytes_eq}
use Rattle.std.specs.declared.vec.Vec.{Vec}
use Rattle.std.specs.declared.alloc.Global.{Global}
use Rattle.vs_design.specs.vs_logic4.specs.declared.operators.Binary.{Binary}
use Rattle.vs_syntax.specs.declared.tree.Connection.{Connection}
use Rattle.vs_syntax.specs.declared.tree.Connections.{Connections}
use Rattle.vs_syntax.specs.declared.tree.Declarator.{Declarator}
use Rattle.vs_syntax.specs.declared.tree.Expr.{Expr}
use Rattle.vs_syntax.specs.declared.tree.Expr.TheOpen as f
use Rattle.vs_syntax.specs.declared.tree.Expr.TheVariants as e
use Rattle.vs_syntax.specs.declared.tree.Item.{Item}
use Rattle.vs_syntax.specs.declared.tree.Left.{Left, fold-roll-Left}
use Rattle.vs_syntax.specs.declared.tree.Left.TheOpen as g
use Rattle.vs_syntax.specs.declared.tree.Left.TheVariants as l
use Rattle.vs_syntax.specs.declared.tree.Module.{Module}
use Rattle.vs_syntax.specs.declared.tree.PartSelect.{PartSelect}
use Rattle.vs_syntax.specs.Same.{SameExpr, same_number, same_name, same_select, SameSelects, same_no_select, same_more_selects, SameSecond, same_no_second, same_second, SameLeft, same_place, same_places, SameLefts, same_no_left, same_more_lefts, same_group, same_unary, same_chain, same_choice, same_concat, same_repeat, same_cast, SameLinks, same_no_link, same_link, SamePairs, same_no_pair, same_pair, SameExprs, same_no_expr, same_more_exprs, Pairwise, no_pair, pair_more, SameValue, same_no_value, same_value, SameDeclarator, SameConnection, SameConnections, same_ordered, same_named, SameInstance, SameAssignment, SameItem, same_port_item, same_genvars, same_wire, same_reg, same_integer, same_parameters, same_localparams, same_instances, same_assigns, same_initial, same_always, SameModule}
use Rattle.vs_scopes.specs.Pieces.{Piece, plain, net}
use Rattle.vs_scopes.specs.Uses.{Bytes, expr_names, select_expr_names, left_names_step, left_names, end_names, connection_names, connections_names, instance_names, assignment_names, names_used_by, names_used}
use Rattle.vs_scopes.specs.pieces_passes.Parts.{exprs_names, links_names, pairs_names, selects_names, lefts_names}
use Rattle.vs_scopes.proofs.UsesLemmas.{names_form, names_Select, names_Chain, names_Choice, names_Concat, names_Repeat, names_Lefts}
use Rattle.vs_elaborate.specs.vs_scopes.specs.Declarations.{Bindings}
use Rattle.vs_elab_statements.specs.vs_widths.specs.Names.{meaning_of}
use Rattle.vs_elaborate.specs.vs_scopes.specs.Nets.{permits_after, permits_from, permits_nets, Sight, new_among, with_nets, is_known, pieces_with_nets, nets_in, nets_from, first_net}
use Rattle.vs_elaborate.proofs.PairLemmas.{pair_append, pair_same, flat_one}
use Rattle.vs_elaborate.proofs.SamePieceLemmas.{SamePiece, plain_same, loop_same, choice_same, local_same, inside_same, net_same}
use Rattle.vs_elaborate.proofs.SamePortLemmas.{bare_same}

-- ---- names that are used

mutual
  same_names : (x x' : Expr) → SameExpr x x' → expr_names x ≡ expr_names x'
  same_names _ _ (same_number l) = refl
  same_names _ _ (same_name n n' i) = names_form (f.Name n) (e.Name n) (e.rolls-Name n) ∙ ap (λ (z : List ℕ). z ∷ []) i ∙ sym (names_form (f.Name n') (e.Name n') (e.rolls-Name n'))
  same_names _ _ (same_select n n' ss ss' i r) = names_Select n ss ∙ ap₂ (λ (z : List ℕ) (zs : Bytes). z ∷ zs) i (select_names_same ss.items ss'.items r) ∙ sym (names_Select n' ss')
  same_names _ _ (same_group x x' m) = names_form (f.Group x) (e.Group x) (e.rolls-Group x) ∙ same_names x.value x'.value m ∙ sym (names_form (f.Group x') (e.Group x') (e.rolls-Group x'))
  same_names _ _ (same_unary op x x' m) = names_form (f.Unary op x) (e.Unary op x) (e.rolls-Unary op x) ∙ same_names x.value x'.value m ∙ sym (names_form (f.Unary op x') (e.Unary op x') (e.rolls-Unary op x'))
  same_names _ _ (same_chain x x' ls ls' m r) = names_Chain x ls ∙ ap₂ (λ (a b : Bytes). a ++ b) (same_names x.value x'.value m) (link_names_same ls.items ls'.items r) ∙ sym (names_Chain x' ls')
  same_names _ _ (same_choice ps ps' x x' r m) = names_Choice ps x ∙ ap₂ (λ (a b : Bytes). a ++ b) (pair_names_same ps.items ps'.items r) (same_names x.value x'.value m) ∙ sym (names_Choice ps' x')
  same_names _ _ (same_concat x x' xs xs' m r) = names_Concat x xs ∙ ap₂ (λ (a b : Bytes). a ++ b) (same_names x.value x'.value m) (all_names_same xs.items xs'.items r) ∙ sym (names_Concat x' xs')
  same_names _ _ (same_repeat n n' x x' xs xs' k m r) =
      names_Repeat n x xs ∙ ap₂ (λ (a b : Bytes). a ++ b) (same_names n.value n'.value k) (ap₂ (λ (a b : Bytes). a ++ b) (same_names x.value x'.value m) (all_names_same xs.items xs'.items r)) ∙ sym (names_Repeat n' x' xs')
  same_names _ _ (same_cast s x x' m) = names_form (f.Cast s x) (e.Cast s x) (e.rolls-Cast s x) ∙ same_names x.value x'.value m ∙ sym (names_form (f.Cast s x') (e.Cast s x') (e.rolls-Cast s x'))

  select_names_same : (ss ss' : List (Expr × Option (PartSelect × Expr))) → SameSelects ss ss' → selects_names ss ≡ selects_names ss'
  select_names_same _ _ same_no_select = refl
  select_names_same _ _ (same_more_selects (x, o) (x', o') xs xs' m r rs) =
      ap₂ (λ (a b : Bytes). a ++ b) (one_select x x' o o' (same_names x x' m) r) (select_names_same xs xs' rs)

  one_select : (x x' : Expr) (o o' : Option (PartSelect × Expr)) → expr_names x ≡ expr_names x' → SameSecond o o' → select_expr_names (x, o) ≡ select_expr_names (x', o')
  one_select x x' _ _ h same_no_second = ap (λ (z : Bytes). z ++ []) h
  one_select x x' _ _ h (same_second y y' i m) = ap₂ (λ (a b : Bytes). a ++ b) h (same_names y.1 y'.1 m)

  link_names_same : (ls ls' : List (Binary × Expr)) → SameLinks ls ls' → links_names ls ≡ links_names ls'
  link_names_same _ _ same_no_link = refl
  link_names_same _ _ (same_link l l' ls ls' i m r) = ap₂ (λ (a b : Bytes). a ++ b) (same_names l.1 l'.1 m) (link_names_same ls ls' r)

  pair_names_same : (ps ps' : List (Expr × Expr)) → SamePairs ps ps' → pairs_names ps ≡ pairs_names ps'
  pair_names_same _ _ same_no_pair = refl
  pair_names_same _ _ (same_pair p p' ps ps' c m r) =
      ap₂ (λ (a b : Bytes). a ++ b) (ap₂ (λ (a b : Bytes). a ++ b) (same_names p.0 p'.0 c) (same_names p.1 p'.1 m)) (pair_names_same ps ps' r)

  all_names_same : (xs xs' : List Expr) → SameExprs xs xs' → exprs_names xs ≡ exprs_names xs'
  all_names_same _ _ same_no_expr = refl
  all_names_same _ _ (same_more_exprs x x' xs xs' m r) = ap₂ (λ (a b : Bytes). a ++ b) (same_names x x' m) (all_names_same xs xs' r)

names_place : (n : Vec ℕ Global) (ss : Vec (Expr × Option (PartSelect × Expr)) Global) → left_names (l.Name n ss) ≡ n.items ∷ selects_names ss.items
names_place n ss = ap left_names (sym (l.rolls-Name n ss)) ∙ fold-roll-Left Bytes left_names_step (g.Name n ss)

mutual
  same_left_names : (x x' : Left) → SameLeft x x' → left_names x ≡ left_names x'
  same_left_names _ _ (same_place n n' ss ss' i r) =
      names_place n ss ∙ ap₂ (λ (z : List ℕ) (zs : Bytes). z ∷ zs) i (select_names_same ss.items ss'.items r) ∙ sym (names_place n' ss')
  same_left_names _ _ (same_places x x' xs xs' m r) =
      names_Lefts x xs ∙ ap₂ (λ (a b : Bytes). a ++ b) (same_left_names x.value x'.value m) (all_left_names xs.items xs'.items r) ∙ sym (names_Lefts x' xs')

  all_left_names : (xs xs' : List Left) → SameLefts xs xs' → lefts_names xs ≡ lefts_names xs'
  all_left_names _ _ same_no_left = refl
  all_left_names _ _ (same_more_lefts x x' xs xs' m r) = ap₂ (λ (a b : Bytes). a ++ b) (same_left_names x x' m) (all_left_names xs xs' r)

same_end_names : (o o' : Option Expr) → SameValue o o' → end_names o ≡ end_names o'
same_end_names _ _ same_no_value = refl
same_end_names _ _ (same_value x x' m) = same_names x x' m

same_connection_names : (c c' : Connection) → SameConnection c c' → connection_names c ≡ connection_names c'
same_connection_names c c' h = same_end_names c.value c'.value h.value

same_connections_names : (c c' : Connections) → SameConnections c c' → connections_names c ≡ connections_names c'
same_connections_names _ _ (same_ordered x x' xs xs' h r) =
    ap₂ (λ (a b : Bytes). a ++ b) (same_end_names x x' h) (flat_one SameValue end_names same_end_names xs.items xs'.items r)
same_connections_names _ _ (same_named c c' cs cs' h r) =
    ap₂ (λ (a b : Bytes). a ++ b) (same_connection_names c c' h) (flat_one SameConnection connection_names same_connection_names cs.items cs'.items r)

item_used : (x x' : Item) → SameItem x x' → names_used_by x ≡ names_used_by x'
item_used _ _ (same_port_item k k' ns ns' h p) = refl
item_used _ _ (same_genvars ns ns' p) = refl
item_used _ _ (same_wire k k' ds ds' h p) = refl
item_used _ _ (same_reg k k' ds ds' h p) = refl
item_used _ _ (same_integer ds ds' p) = refl
item_used _ _ (same_parameters k k' xs xs' h p) = refl
item_used _ _ (same_localparams k k' xs xs' h p) = refl
item_used _ _ (same_instances n n' o o' xs xs' i h p) =
    flat_one SameInstance instance_names (λ x x' m. same_connections_names x.ports x'.ports m.ports) xs.items xs'.items p
item_used _ _ (same_assigns xs xs' p) = flat_one SameAssignment assignment_names (λ a a' m. same_left_names a.target a'.target m.target) xs.items xs'.items p
item_used _ _ (same_initial x x' p) = refl
item_used _ _ (same_always x x' p) = refl

piece_used : (x x' : Piece) → SamePiece x x' → names_used x ≡ names_used x'
piece_used _ _ (plain_same x x' m) = item_used x x' m
piece_used _ _ (loop_same h h' x x' i m) = refl
piece_used _ _ (choice_same k k' x x' o o' i m r) = refl
piece_used _ _ (local_same x x' m) = refl
piece_used _ _ (inside_same b b' m) = refl
piece_used _ _ (net_same n) = refl

-- ---- nets

nets_themselves : (ns : Bytes) → Pairwise SamePiece (map net ns) (map net ns)
nets_themselves [] = no_pair
nets_themselves (n ∷ ns) = pair_more (net n) (net n) (map net ns) (map net ns) (net_same n) (nets_themselves ns)

with_same_nets : (known : List ℕ → Bool) (before : Bytes) (ps ps' : List Piece) → Pairwise SamePiece ps ps' → Pairwise SamePiece (with_nets known before ps) (with_nets known before ps')
with_same_nets known before _ _ no_pair = no_pair
with_same_nets known before _ _ (pair_more p p' ps ps' h r) =
    let new = new_among known before (names_used p) in
    let rest = with_nets known (before ++ names_used p) ps in
    subst (λ (z : Bytes). Pairwise SamePiece (map net new ++ p ∷ rest) (map net (new_among known before z) ++ p' ∷ with_nets known (before ++ z) ps')) (piece_used p p' h)
    (pair_append SamePiece (map net new) (map net new) (p ∷ rest) (p' ∷ with_nets known (before ++ names_used p) ps') (nets_themselves new)
    (pair_more p p' rest (with_nets known (before ++ names_used p) ps') h (with_same_nets known (before ++ names_used p) ps ps' r)))

-- pieces that say the same, with their implicit nets
pub same_with_nets : (nets : Bool) (text : Bindings) (around : List ℕ → Sight) (ps ps' : List Piece) → Pairwise SamePiece ps ps' → Pairwise SamePiece (pieces_with_nets nets text around ps) (pieces_with_nets nets text around ps')
same_with_nets false text around ps ps' h = h
same_with_nets true text around ps ps' h = with_same_nets (is_known text around) [] ps ps' h

-- ---- where names are declared

item_told : (x x' : Item) → SameItem x x' → nets_in (plain x) ≡ nets_in (plain x')
item_told _ _ (same_port_item k k' ns ns' h p) = bare_same ns.items ns'.items p
item_told _ _ (same_genvars ns ns' p) = refl
item_told _ _ (same_wire k k' ds ds' h p) = pair_same SameDeclarator (λ (d : Declarator). d.name.items) (λ d d' m. m.name) ds.items ds'.items p
item_told _ _ (same_reg k k' ds ds' h p) = refl
item_told _ _ (same_integer ds ds' p) = refl
item_told _ _ (same_parameters k k' xs xs' h p) = refl
item_told _ _ (same_localparams k k' xs xs' h p) = refl
item_told _ _ (same_instances n n' o o' xs xs' i h p) = refl
item_told _ _ (same_assigns xs xs' p) = refl
item_told _ _ (same_initial x x' p) = refl
item_told _ _ (same_always x x' p) = refl

piece_told : (x x' : Piece) → SamePiece x x' → nets_in x ≡ nets_in x'
piece_told _ _ (plain_same x x' m) = item_told x x' m
piece_told _ _ (loop_same h h' x x' i m) = refl
piece_told _ _ (choice_same k k' x x' o o' i m r) = refl
piece_told _ _ (local_same x x' m) = refl
piece_told _ _ (inside_same b b' m) = refl
piece_told _ _ (net_same n) = refl

told_same : (place : ℕ) (ps ps' : List Piece) → Pairwise SamePiece ps ps' → nets_from place ps ≡ nets_from place ps'
told_same place _ _ no_pair = refl
told_same place _ _ (pair_more p p' ps ps' h r) =
    ap₂ (λ (a b : List (List ℕ × ℕ)). a ++ b) (ap (map (λ (n : List ℕ). (n, place))) (piece_told p p' h)) (told_same (suc place) ps ps' r)

pub same_first_told : (ps ps' : List Piece) → Pairwise SamePiece ps ps' → (n : List ℕ) → first_net ps n ≡ first_net ps' n
same_first_told ps ps' h n = ap (λ (z : List (List ℕ × ℕ)). meaning_of z n) (told_same 0 ps ps' h)

-- ---- directives

permits_same : (before : Bool) (ms ms' : List Module) (n : List ℕ) → Pairwise SameModule ms ms' → permits_from before ms n ≡ permits_from before ms' n
permits_same before _ _ n no_pair = refl
permits_same before _ _ n (pair_more m m' ms ms' h r) =
    ap (λ (z : List ℕ). cond (bytes_eq n z) (permits_after before m.directives.items) (permits_from (permits_after before m.directives.items) ms n)) h.name
    ∙ ap (λ ds. cond (bytes_eq n m'.name.items) (permits_after before ds) (permits_from (permits_after before ds) ms n)) h.directives
    ∙ ap (cond (bytes_eq n m'.name.items) (permits_after before m'.directives.items)) (permits_same (permits_after before m'.directives.items) ms ms' n r)

-- undeclared names may be nets in a module, or in neither
pub same_permits : (ms ms' : List Module) (n : List ℕ) → Pairwise SameModule ms ms' → permits_nets ms n ≡ permits_nets ms' n
same_permits ms ms' n h = permits_same true ms ms' n h
