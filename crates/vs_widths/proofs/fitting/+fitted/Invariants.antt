use Rattle.std.proofs.Common.{take}
use Rattle.vs_widths.specs.Each.{Each}
use Rattle.vs_widths.specs.Senses.{IsLink, IsTest, IsPair, IsPart}
use Rattle.vs_widths.proofs.fitting.+fitted.Given as goal

abbrev pub invariant-fitted_links-loop-operator : goal.invariant-fitted_links-loop-operator
invariant-fitted_links-loop-operator l = Each (IsLink l.shape.width l.shape.signed) (take l.operator-index l.links) l.done.items

abbrev pub invariant-fitted_tests-loop-link : goal.invariant-fitted_tests-loop-link
invariant-fitted_tests-loop-link l = Each IsTest (take l.link-index l.links) l.done.items

abbrev pub invariant-fitted_pairs-loop-condition : goal.invariant-fitted_pairs-loop-condition
invariant-fitted_pairs-loop-condition l = Each (IsPair l.shape.width l.shape.signed) (take l.condition-index l.pairs) l.done.items

abbrev pub invariant-fitted_parts-loop-part : goal.invariant-fitted_parts-loop-part
invariant-fitted_parts-loop-part l = Each (IsPart l.shape.width l.shape.signed) (take l.part-index l.parts) l.done.items
