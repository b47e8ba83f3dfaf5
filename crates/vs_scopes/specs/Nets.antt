-- Implicit nets: undeclared names in connections and on the left of continuous assignments.
use Rattle.std.specs.Prelude.{ℕ, suc, Bool, true, false, ◌||◌, not, nat_lt, is_some, List, [], ◌∷◌, ◌++◌, Option, Some, None, map, if◌then◌else◌}
use Rattle.std.specs.List.{list_any}
use Rattle.std.specs.Str.{bytes_eq}
use Rattle.std.specs.declared.vec.Vec.{Vec}
use Rattle.std.specs.declared.alloc.Global.{Global}
use Rattle.vs_syntax.specs.vs_lexer.specs.declared.token.Directive.{Directive}
use Rattle.vs_syntax.specs.vs_lexer.specs.declared.token.Directive.TheVariants as g
use Rattle.vs_syntax.specs.vs_lexer.specs.declared.token.ImplicitNet.TheVariants.{Wire, Forbidden}
use Rattle.vs_syntax.specs.declared.tree.Declarator.{Declarator}
use Rattle.vs_syntax.specs.declared.tree.Item.TheVariants as i
use Rattle.vs_syntax.specs.declared.tree.Module.{Module}
use Rattle.vs_design.specs.Kinds.{is_variable}
use Rattle.vs_widths.specs.declared.bindings.Binding.{Binding}
use Rattle.vs_widths.specs.declared.bindings.Binding.TheVariants as b
use Rattle.vs_scopes.specs.vs_widths.specs.Names.{meaning_of}
use Rattle.vs_scopes.specs.Pieces.{Piece, plain, net}
use Rattle.vs_scopes.specs.Uses.{names_used}
use Rattle.vs_scopes.specs.Printed.{Path}
use Rattle.vs_scopes.specs.Declarations.{Bindings}

-- ---- whether there are any

-- whether undeclared names are nets behind a directive, where it was so before it (clause 19.2)
abbrev pub permits : Bool → Directive → Bool
permits before (g.Timescale unit precision) = before
permits before (g.DefaultNettype Wire) = true
permits before (g.DefaultNettype Forbidden) = false

-- the same behind directives
abbrev pub permits_after : Bool → List Directive → Bool
permits_after before [] = before
permits_after before (d ∷ ds) = permits_after (permits before d) ds

-- the same in the first module of a name: a directive holds for all modules behind it
abbrev pub permits_from : Bool → List Module → List ℕ → Bool
permits_from before [] n = before
permits_from before (m ∷ ms) n =
    if bytes_eq n m.name.items then permits_after before m.directives.items
    else permits_from (permits_after before m.directives.items) ms n

-- whether undeclared names are nets in the first module of a name; without a directive they are (clause 19.2)
abbrev pub permits_nets : List Module → List ℕ → Bool
permits_nets ms n = permits_from true ms n

-- ---- where they stand

-- how a name stands at a place of the text: it isn't declared; it is; or it is that of a net of this path, which is declared behind the place
pub data Sight : Type 0 where
  unseen : Sight
  seen : Sight
  coming : Path → Sight

-- no name is declared
abbrev pub nothing_seen : List ℕ → Sight
nothing_seen n = unseen

abbrev pub is_declared : Sight → Bool
is_declared unseen = false
is_declared seen = true
is_declared (coming p) = true

-- the paths of nets that are declared behind
abbrev pub coming_paths : Sight → List Path
coming_paths (coming p) = p ∷ []
coming_paths _ = []

-- names that aren't known, each where it stands first, behind these
abbrev pub new_among : (List ℕ → Bool) → List (List ℕ) → List (List ℕ) → List (List ℕ)
new_among known before [] = []
new_among known before (n ∷ ns) =
    if known n || list_any (bytes_eq n) before then new_among known (before ++ n ∷ []) ns else n ∷ new_among known (before ++ n ∷ []) ns

-- pieces with the implicit nets of names that aren't known, each before the piece that uses it first; pieces before these use those names (clause 4.5)
abbrev pub with_nets : (List ℕ → Bool) → List (List ℕ) → List Piece → List Piece
with_nets known before [] = []
with_nets known before (p ∷ ps) =
    map net (new_among known before (names_used p)) ++ p ∷ with_nets known (before ++ names_used p) ps

-- whether a name is declared in a scope whose text declares these names, or stands declared around it
abbrev pub is_known : Bindings → (List ℕ → Sight) → List ℕ → Bool
is_known text around n = is_some (meaning_of text n) || is_declared (around n)

-- the pieces of such a scope with its implicit nets, where it may have them
abbrev pub pieces_with_nets : Bool → Bindings → (List ℕ → Sight) → List Piece → List Piece
pieces_with_nets false text around ps = ps
pieces_with_nets true text around ps = with_nets (is_known text around) [] ps

-- ---- nets that are declared behind their use

-- the names that a piece declares as ports or nets
abbrev pub nets_in : Piece → List (List ℕ)
nets_in (plain (i.Port f ns)) = map (λ (n : Vec ℕ Global). n.items) ns.items
nets_in (plain (i.Wire f ds)) = map (λ (d : Declarator). d.name.items) ds.items
nets_in (net n) = n ∷ []
nets_in _ = []

-- the same of pieces, each name with the place of its piece, where the first has this place
abbrev pub nets_from : ℕ → List Piece → List (List ℕ × ℕ)
nets_from place [] = []
nets_from place (p ∷ ps) = map (λ (n : List ℕ). (n, place)) (nets_in p) ++ nets_from (suc place) ps

-- the place of the first piece that declares a name so
abbrev pub first_net : List Piece → List ℕ → Option ℕ
first_net ps n = meaning_of (nets_from 0 ps) n

-- whether a place is before another one
abbrev pub is_before : Option ℕ → ℕ → Bool
is_before None place = false
is_before (Some k) place = nat_lt k place

-- whether a name is bound to a net
abbrev pub is_net : Binding → Bool
is_net (b.Signal m number) = not (is_variable m.kind)
is_net _ = false
