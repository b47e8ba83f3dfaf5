use Rattle.std.proofs.Common.{refl}
use Rattle.vs_elaborate.proofs.ItselfLemmas.{modules_themselves}
use Rattle.vs_elaborate.proofs.SameDesignLemmas.{one_design}
use Rattle.vs_elaborate.proofs.laws.one_design.Goals as goal

pub returns-clause-source : goal.returns-clause-source
returns-clause-source c = λ s top d d' h k. one_design s s top d d' (record { modules = modules_themselves s.modules.items; directives = refl }) h k

pub returns-clause-sources : goal.returns-clause-sources
returns-clause-sources c = λ s s' top d d' same h k. one_design s s' top d d' same h k
