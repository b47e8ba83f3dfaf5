-- What the types of this crate say, by what they refer to.
use Rattle.std.specs.Prelude.{ℕ, List, Option, map}
use Rattle.std.specs.Option.{option_map}
use Rattle.std.specs.Borrow.{Bor}
use Rattle.vs_scopes.specs.Pieces.{NamedBlock, Piece, plain, loop, choice, local, inside, net, Content, nothing, block, unboxed}
use Rattle.vs_scopes.specs.declared.blocks.NamedBlock.{NamedBlock as FoundBlock}
use Rattle.vs_scopes.specs.declared.contents.Content.{Content as FoundContent}
use Rattle.vs_scopes.specs.declared.contents.Content.TheVariants as c
use Rattle.vs_scopes.specs.declared.scope.ScopePiece.{ScopePiece as FoundPiece}
use Rattle.vs_scopes.specs.declared.scope.ScopePiece.TheVariants as p

-- what a reference refers to, where there is one
abbrev pub referred : {A : Type 0} → Option (Bor A) → Option A
referred {A = A} o = option_map (λ (x : Bor A). x.now) o

-- names, by their bytes
abbrev pub read_names : List (Bor (List ℕ)) → List (List ℕ)
read_names ns = map (λ (n : Bor (List ℕ)). n.now) ns

-- a named block, by what it refers to
abbrev pub read_block : FoundBlock → NamedBlock
read_block b = record { name = b.name.now; locals = b.locals.now; statements = b.statements.now }

-- a piece, by what it refers to
abbrev pub read_piece : FoundPiece → Piece
read_piece (p.Plain x) = plain x.now
read_piece (p.Loop h x) = loop h.now x.now.value
read_piece (p.Choice e x o) = choice e.now x.now.value (unboxed o.now)
read_piece (p.Local x) = local x.now
read_piece (p.Inside b) = inside (read_block b)
read_piece (p.Net n) = net n.now

-- what a construct generates, by what it refers to
abbrev pub read_content : FoundContent → Content
read_content c.Nothing = nothing
read_content (c.Block n xs) = block (referred n) xs.now
