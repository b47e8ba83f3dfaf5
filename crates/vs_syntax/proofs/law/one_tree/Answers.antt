use Rattle.std.proofs.Common.{◌++◌, [], refl, ap, sym}
use Rattle.vs_syntax.proofs.Unique.{unique}
use Rattle.vs_syntax.proofs.law.one_tree.Goals as goal

pub returns : goal.returns
returns c = λ x y p q e. unique q p [] (ap (λ u. u ++ []) (sym e)) refl
