use Rattle.std.proofs.Common.{◌∙◌, ap, sym}
use Rattle.vs_widths.specs.Names.{meaning_of, nested_names}
use Rattle.vs_widths.proofs.NameLemmas.{found_own, found_outward}
use Rattle.vs_widths.proofs.levels.Levels.find.Goals as goal

pub returns-in-Some : goal.returns-in-Some
returns-in-Some c =
    found_own c.self.inside.own.now (nested_names c.self.inside.outer.now) c.args.name.now c.find.result c.in-Some.binding c.find.ensures c.in-Some.is
    ∙ ap (λ names. meaning_of names c.args.name.now) c.self.view_is

pub returns-in-None : goal.returns-in-None
returns-in-None c =
    c.found_in.ensures
    ∙ sym (found_outward c.self.inside.own.now (nested_names c.self.inside.outer.now) c.args.name.now c.find.result c.find.ensures c.in-None.is)
    ∙ ap (λ names. meaning_of names c.args.name.now) c.self.view_is
