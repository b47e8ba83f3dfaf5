-- The names of directives (IEEE 1364-2005, clause 19).
use Rattle.std.specs.Prelude.{ℕ, Bool, List, [], ◌∷◌, Option, None, Some, is_some, if◌then◌else◌, codes}
use Rattle.std.specs.Str.{bytes_eq}
use Rattle.vs_prep_macros.specs.declared.directive.Directive.{Directive}
use Rattle.vs_prep_macros.specs.declared.directive.Directive.TheVariants as d

-- what stands beside a name in a table
abbrev pub directive_in : List (List ℕ × Directive) → List ℕ → Option Directive
directive_in [] name = None
directive_in (e ∷ es) name = if bytes_eq e.0 name then Some e.1 else directive_in es name

-- the directives, each with its name (clause 19)
abbrev pub directives : List (List ℕ × Directive)
directives =
    (codes "begin_keywords", d.BeginKeywords) ∷
    (codes "celldefine", d.Celldefine) ∷
    (codes "default_nettype", d.DefaultNettype) ∷
    (codes "define", d.Define) ∷
    (codes "else", d.Else) ∷
    (codes "elsif", d.Elsif) ∷
    (codes "end_keywords", d.EndKeywords) ∷
    (codes "endcelldefine", d.Endcelldefine) ∷
    (codes "endif", d.Endif) ∷
    (codes "ifdef", d.Ifdef) ∷
    (codes "ifndef", d.Ifndef) ∷
    (codes "include", d.Include) ∷
    (codes "line", d.Line) ∷
    (codes "nounconnected_drive", d.NounconnectedDrive) ∷
    (codes "pragma", d.Pragma) ∷
    (codes "resetall", d.Resetall) ∷
    (codes "timescale", d.Timescale) ∷
    (codes "unconnected_drive", d.UnconnectedDrive) ∷
    (codes "undef", d.Undef) ∷
    []

-- the directive of a name
unfoldable pub directive_of : List ℕ → Option Directive
directive_of name = directive_in directives name

-- whether a name is one of a directive
abbrev pub is_directive : List ℕ → Bool
is_directive name = is_some (directive_of name)
