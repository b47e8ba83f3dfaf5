-- The files that were opened.
use Rattle.std.specs.Prelude.{ℕ, List}
use Rattle.std.specs.Rc.{rc_slice_items}
use Rattle.vs_preprocess.specs.declared.places.SourceFile.{SourceFile}

-- the bytes of a file
abbrev pub bytes_of : SourceFile → List ℕ
bytes_of f = rc_slice_items f.bytes
