-- Names of paths, by what they refer to.
use Rattle.std.specs.Prelude.{ℕ, List, map}
use Rattle.vs_scopes.specs.Printed.{PathName, Path}
use Rattle.vs_scopes.specs.Generate.{numbered_name}
use Rattle.vs_scopes.specs.declared.printed.PartName.{PartName as FoundPart}
use Rattle.vs_scopes.specs.declared.printed.PartName.TheVariants as p
use Rattle.vs_scopes.specs.declared.printed.PathName.{PathName as FoundName}

-- a name of a part of a path, by its bytes
abbrev pub read_part : FoundPart → List ℕ
read_part (p.Text n) = n.now
read_part (p.Unnamed padding number) = numbered_name padding number

-- a name of a path, by what it refers to
abbrev pub read_title : FoundName → PathName
read_title x = record { name = read_part x.name; turn = x.turn }

-- the names of a path
abbrev pub read_path : List FoundName → Path
read_path xs = map read_title xs
