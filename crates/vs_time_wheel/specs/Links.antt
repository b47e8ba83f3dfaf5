-- How the nodes of a chain point to one another.
use Rattle.std.specs.Prelude.{◌≡◌, List, [], ◌∷◌, map}
use denote.RawPtr.{Ptr}

-- where a node lies, and its `next`
abbrev pub Link : Type 0
Link = Ptr × Ptr

-- the links of nodes that are listed with their handles
abbrev pub links_of : {Z : Type 0} → List (Link × Z) → List Link
links_of = map (λ n. n.0)

-- from the node l on each `next` but the last leads to the node after, and `last` to the last node
abbrev pub LeadsOn : Link → Ptr → List Link → Type 0
LeadsOn l last [] = last ≡ l.0
LeadsOn l last (m ∷ ls) = (l.1 ≡ m.0) × LeadsOn m last ls

-- the nodes are linked, from `first` to `last`; with no node, the two mean nothing
abbrev pub IsChained : Ptr → Ptr → List Link → Type 0
IsChained first last [] = Unit {0}
IsChained first last (l ∷ ls) = (first ≡ l.0) × LeadsOn l last ls
