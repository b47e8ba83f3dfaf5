-- Parts of scopes, and what they generate, by one layer of the text.
use Rattle.std.proofs.Common.{◌≡◌, List, ap, sym, ◌∙◌}
use Rattle.vs_syntax.specs.declared.tree.Stmt.{Stmt}
use Rattle.vs_syntax.specs.declared.tree.Stmt.TheOpen.{Stmt-F}
use Rattle.vs_syntax.specs.declared.tree.Stmt.TheViews.{roll-Stmt, out-Stmt, out-roll-Stmt}
use Rattle.vs_syntax.specs.declared.tree.Stmt.TheFolds.{fold-Stmt, fold-roll-Stmt, map-Stmt}
use Rattle.vs_syntax.specs.declared.tree.ModuleItem.{ModuleItem}
use Rattle.vs_syntax.specs.declared.tree.ModuleItem.TheOpen.{ModuleItem-F}
use Rattle.vs_syntax.specs.declared.tree.ModuleItem.TheViews.{roll-ModuleItem, out-ModuleItem, out-roll-ModuleItem}
use Rattle.vs_syntax.specs.declared.tree.ModuleItem.TheFolds.{fold-ModuleItem, fold-roll-ModuleItem, map-ModuleItem}
use Rattle.vs_scopes.specs.Pieces.{NamedBlock, blocks_step, blocks_in, Piece, pieces_step, pieces_in, content_step, content_of}
use Rattle.vs_elab_statements.specs.vs_widths.specs.Environment.{Environment}
use Rattle.vs_elaborate.specs.vs_scopes.specs.Generate.{Taken, taken_step, branch_taken}

-- ---- named blocks

abbrev pub blocks_by : Stmt → Stmt → List NamedBlock
blocks_by = fold-Stmt (Stmt → List NamedBlock) (λ l y. blocks_step l (out-Stmt y))

-- the named blocks of one layer
abbrev pub blocks_layered : Stmt-F Stmt → List NamedBlock
blocks_layered l = blocks_step (map-Stmt Stmt (Stmt → List NamedBlock) blocks_by l) l

pub blocks_layer : (l : Stmt-F Stmt) (x : Stmt) → roll-Stmt l ≡ x → blocks_in x ≡ blocks_layered l
blocks_layer l x h =
    ap blocks_in (sym h) ∙ ap (λ (g : Stmt → List NamedBlock). g (roll-Stmt l)) (fold-roll-Stmt (Stmt → List NamedBlock) (λ l y. blocks_step l (out-Stmt y)) l)
    ∙ ap (blocks_step (map-Stmt Stmt (Stmt → List NamedBlock) blocks_by l)) (out-roll-Stmt l)

-- ---- pieces

abbrev pub pieces_by : ModuleItem → ModuleItem → List Piece
pieces_by = fold-ModuleItem (ModuleItem → List Piece) (λ l y. pieces_step l (out-ModuleItem y))

-- the pieces of one layer
abbrev pub pieces_layered : ModuleItem-F ModuleItem → List Piece
pieces_layered l = pieces_step (map-ModuleItem ModuleItem (ModuleItem → List Piece) pieces_by l) l

pub pieces_layer : (l : ModuleItem-F ModuleItem) (x : ModuleItem) → roll-ModuleItem l ≡ x → pieces_in x ≡ pieces_layered l
pieces_layer l x h =
    ap pieces_in (sym h) ∙ ap (λ (g : ModuleItem → List Piece). g (roll-ModuleItem l)) (fold-roll-ModuleItem (ModuleItem → List Piece) (λ l y. pieces_step l (out-ModuleItem y)) l)
    ∙ ap (pieces_step (map-ModuleItem ModuleItem (ModuleItem → List Piece) pieces_by l)) (out-roll-ModuleItem l)

-- ---- what constructs generate

pub content_layer : (l : ModuleItem-F ModuleItem) (x : ModuleItem) → roll-ModuleItem l ≡ x → content_of x ≡ content_step l x
content_layer l x h = ap (λ y. content_step y x) (ap out-ModuleItem (sym h) ∙ out-roll-ModuleItem l)

abbrev pub taken_by : Environment → ModuleItem → ModuleItem → Taken
taken_by env = fold-ModuleItem (ModuleItem → Taken) (λ l y. taken_step env l (out-ModuleItem y) y)

-- what one layer of a branch generates
abbrev pub taken_layered : Environment → ModuleItem-F ModuleItem → ModuleItem → Taken
taken_layered env l x = taken_step env (map-ModuleItem ModuleItem (ModuleItem → Taken) (taken_by env) l) l x

pub taken_layer : (env : Environment) (l : ModuleItem-F ModuleItem) (x : ModuleItem) → roll-ModuleItem l ≡ x → branch_taken env x ≡ taken_layered env l x
taken_layer env l x h =
    ap (λ (g : ModuleItem → Taken). g x) (ap (taken_by env) (sym h) ∙ fold-roll-ModuleItem (ModuleItem → Taken) (λ l y. taken_step env l (out-ModuleItem y) y) l)
    ∙ ap (λ o. taken_step env (map-ModuleItem ModuleItem (ModuleItem → Taken) (taken_by env) l) o x) (ap out-ModuleItem (sym h) ∙ out-roll-ModuleItem l)
