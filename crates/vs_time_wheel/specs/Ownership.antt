-- What linked nodes own, at events of the row R and an allocator of the row Z.
use Rattle.std.specs.Prelude.{ℕ, ◌+◌, List, [], ◌∷◌, map}
use base.Fraction.{full_share}
use base.Fml.{Fml, ftrue, fsep, fwand, ffalse}
use mir.Syntax.{Ty, ty_ptr, ty_struct, tcons, tnil}
use mir.Raw.{raw}
use prog.Memory.{size, align, up}
use denote.RattleType.{RattleType}
use denote.Memory.{lone}
use denote.RawPtr.{Ptr, RawPtr, lies_at, room_for, ◌+ₚ◌}
use Rattle.vs_time_wheel.specs.Links.{Link, links_of}

-- where the element lies in a node
abbrev pub elem_offset : RattleType → ℕ
elem_offset R = up (align (lone R.mir)) 8

-- where the elements lie
abbrev pub elem_places : RattleType → List Link → List Ptr
elem_places R = map (λ l. l.0 +ₚ elem_offset R)

-- the values ws, each at its place
abbrev pub spread : (V : RattleType) → List Ptr → List V.Denot → Fml
spread V [] [] = ftrue
spread V [] (w ∷ ws) = ffalse
spread V (p ∷ ps) [] = ffalse
spread V (p ∷ ps) (w ∷ ws) = fsep (lies_at V full_share p w) (spread V ps ws)

-- ownership of a node's pointer
abbrev pub link_owns : Link → Fml
link_owns l = lies_at RawPtr full_share (l.0 +ₚ 0) l.1

module _ (R Z : RattleType) where
  -- the type of `Node`, as the machine sees it
  abbrev pub node_type : Ty
  node_type = ty_struct [] (tcons ty_ptr (tcons (raw (lone R.mir)) (tcons (raw (lone Z.mir)) tnil)))

  -- where the handle lies in a node
  abbrev pub heap_offset : ℕ
  heap_offset = up (align (lone Z.mir)) (elem_offset R + size (lone R.mir))

  -- the three fields, given back empty, make the whole block
  abbrev pub fields_rejoin : Ptr → Fml
  fields_rejoin p = fwand (fsep (room_for ty_ptr (p +ₚ 0)) (fsep (room_for (raw (lone R.mir)) (p +ₚ elem_offset R)) (room_for (raw (lone Z.mir)) (p +ₚ heap_offset)))) (room_for node_type p)

  module _ (holds : Z.Denot → Ty → Ptr → Fml) where
    -- what frees the block at p: the handle h in its field, and its right to the block
    abbrev pub frees : Ptr → Z.Denot → Fml
    frees p h = fsep (lies_at Z full_share (p +ₚ heap_offset) h) (fsep (holds h node_type p) (fields_rejoin p))

    -- the nodes but for their elements
    abbrev pub frames : List (Link × Z.Denot) → Fml
    frames [] = ftrue
    frames (n ∷ ns) = fsep (fsep (link_owns n.0) (frees n.0.0 n.1)) (frames ns)

    -- the elements and the rest of the nodes
    abbrev pub nodes_own : List (Link × Z.Denot) → List R.Denot → Fml
    nodes_own ns xs = fsep (spread R (elem_places R (links_of ns)) xs) (frames ns)
