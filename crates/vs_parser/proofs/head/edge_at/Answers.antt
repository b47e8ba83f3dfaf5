use Rattle.vs_syntax.proofs.Gets.{gets_right, gets_nothing}
use Rattle.vs_parser.proofs.Controls.{posedge_read, negedge_read}
use Rattle.vs_parser.proofs.head.edge_at.Goals as goal

pub returns-in-Some : goal.returns-in-Some
returns-in-Some c = λ depth. posedge_read depth _ _ c.in-Some.ensures

pub returns-in-Some-word_at : goal.returns-in-Some-word_at
returns-in-Some-word_at c = λ depth. negedge_read depth _ _ c.in-Some-word_at.ensures

pub returns-in-None-word_at : goal.returns-in-None-word_at
returns-in-None-word_at c = λ depth. gets_right c.in-None.ensures (gets_right c.in-None-word_at.ensures gets_nothing)
