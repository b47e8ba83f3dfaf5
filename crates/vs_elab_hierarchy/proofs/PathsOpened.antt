-- The scopes that instances and blocks open.
use Rattle.std.proofs.Common.{◌≡◌, ℕ, Bool, true, false, ◌||◌, cond, List, [], ◌∷◌, Option, Some, None, refl, subst}
use Rattle.std.proofs.lemmas.Option.{none-some, same_Some}
use Rattle.vs_syntax.specs.declared.tree.Module.{Module}
use Rattle.vs_scopes.specs.vs_widths.specs.declared.constants.Const.{Const}
use Rattle.vs_scopes.specs.Pieces.{block_pieces, Piece, pieces_of}
use Rattle.vs_scopes.specs.Printed.{PathName, plainly}
use Rattle.vs_scopes.specs.Parameters.{any_fault, parameters_of, parameters_among}
use Rattle.vs_scopes.specs.Declarations.{Use, inner_names_among}
use Rattle.vs_scopes.specs.Ports.{ports_of}
use Rattle.vs_scopes.specs.Nets.{permits_nets, Sight, nothing_seen, pieces_with_nets}
use Rattle.vs_scopes.specs.Generate.{Inner, instance, generated}
use Rattle.vs_scopes.specs.Generate as g
use Rattle.vs_scopes.specs.Scopes.{Scope, environment, named_at, Before, before, nowhere, instance_scope, block_scope, module_named, opened, opened_instance, is_inside, has_no_values, block_fault, top_scope, opened_top, keys, text_of, block_text, sight_in}
use Rattle.vs_elab_hierarchy.specs.Laws.{IsWithin, IsTop}
use Rattle.vs_elab_hierarchy.proofs.BranchLemmas.{Among}
use Rattle.vs_elab_hierarchy.proofs.PathsText.{HasText, same_pieces, early_known, block_known}

-- the name of what opens a scope, in the path of that
abbrev pub title_of : Inner → PathName
title_of (instance u) = plainly u.name
title_of (generated i n cs xs) = n
title_of (g.named x) = plainly x.name

-- names of what opens scopes in a module, or in a block
module_known : (nets : Bool) (m : Module) (around : List ℕ → Sight) (n : List ℕ) → Among n (inner_names_among (pieces_with_nets nets (text_of m) around (pieces_of m.items.items))) → Among n (keys (text_of m))
module_known nets m around n h =
    early_known (parameters_of m) (ports_of m) (pieces_of m.items.items) n (subst (Among n) (same_pieces nets (text_of m) around (pieces_of m.items.items)) h)

in_block_known : (nets : Bool) (cs : List (List ℕ × Const)) (ps : List Piece) (around : List ℕ → Sight) (n : List ℕ) → Among n (inner_names_among (pieces_with_nets nets (block_text cs ps) around ps)) → Among n (keys (block_text cs ps))
in_block_known nets cs ps around n h = block_known cs (parameters_among ps) ps n (subst (Among n) (same_pieces nets (block_text cs ps) around ps) h)

-- a scope that is opened in another one, under this name, with so much before it
pub record IsOpened (s : Scope) (at : Before) (n : PathName) (t : Scope) : Type 0 where
  pub title : t.title ≡ n
  pub path : t.path ≡ named_at s n
  pub before : before t ≡ at
  pub within : IsWithin s t
  pub text : HasText t

instance_opened : (a nets : Bool) (s : Scope) (at : Before) (u : Use) (m : Module) (t : Scope) → cond a None (Some (instance_scope nets s at u m)) ≡ Some t → IsOpened s at (plainly u.name) t
instance_opened true nets s at u m t e = absurd (none-some t e)
instance_opened false nets s at u m t e = subst (IsOpened s at (plainly u.name)) (same_Some (instance_scope nets s at u m) t e) (record {
  title = refl;
  path = refl;
  before = refl;
  within = record { path = refl; around = refl; bound = refl; home = refl; depth = refl };
  text = module_known nets m nothing_seen;
})

of_module : (nets : Bool) (s : Scope) (at : Before) (u : Use) (o : Option Module) (t : Scope) → opened_instance nets s at u o ≡ Some t → IsOpened s at (plainly u.name) t
of_module nets s at u None t e = absurd (none-some t e)
of_module nets s at u (Some m) t e = instance_opened (is_inside s m || has_no_values (environment s) u.overrides m) nets s at u m t e

block_opened : (a : Bool) (i : ℕ) (s : Scope) (at : Before) (n : PathName) (cs : List (List ℕ × Const)) (ps : List Piece) (t : Scope) → cond a None (Some (block_scope i s at n cs ps)) ≡ Some t → IsOpened s at n t
block_opened true i s at n cs ps t e = absurd (none-some t e)
block_opened false i s at n cs ps t e = subst (IsOpened s at n) (same_Some (block_scope i s at n cs ps) t e) (record {
  title = refl;
  path = refl;
  before = refl;
  within = record { path = refl; around = refl; bound = refl; home = refl; depth = refl };
  text = in_block_known s.nets cs ps (sight_in s i);
})

pub what_is_opened : (ms : List Module) (s : Scope) (at : Before) (x : Inner) (t : Scope) → opened ms s at x ≡ Some t → IsOpened s at (title_of x) t
what_is_opened ms s at (instance u) t e = of_module (permits_nets ms u.of) s at u (module_named ms u.of) t e
what_is_opened ms s at (generated i n cs xs) t e = block_opened (any_fault (block_fault s cs (pieces_of xs))) i s at n cs (pieces_of xs) t e
what_is_opened ms s at (g.named x) t e = block_opened (any_fault (block_fault s [] (block_pieces x))) 0 s at (plainly x.name) [] (block_pieces x) t e

-- nothing stands before it
abbrev pub nothing_before : Before
nothing_before = record { scopes = 0; signals = 0; instances = 0; turns = 0 }

-- the scope that a source opens
pub record IsOpenedTop (m : Module) (t : Scope) : Type 0 where
  pub path : t.path ≡ plainly m.name.items ∷ []
  pub before : before t ≡ nothing_before
  pub top : IsTop t
  pub text : HasText t

top_by : (a nets : Bool) (m : Module) (t : Scope) → cond a None (Some (top_scope nets m)) ≡ Some t → IsOpenedTop m t
top_by true nets m t e = absurd (none-some t e)
top_by false nets m t e = subst (IsOpenedTop m) (same_Some (top_scope nets m) t e) (record {
  path = refl;
  before = refl;
  top = record { bound = λ n. refl; kind = refl; home = refl; depth = refl };
  text = module_known nets m nothing_seen;
})

pub what_is_opened_top : (nets : Bool) (o : Option Module) (t : Scope) → opened_top nets o ≡ Some t → (m : Module) × IsOpenedTop m t
what_is_opened_top nets None t e = absurd (none-some t e)
what_is_opened_top nets (Some m) t e = (m, top_by (has_no_values nowhere None m) nets m t e)
