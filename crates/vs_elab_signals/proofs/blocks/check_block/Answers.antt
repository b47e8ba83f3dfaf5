use Rattle.vs_elab_signals.proofs.blocks.check_block.Goals as goal

pub returns-in-Text : goal.returns-in-Text
returns-in-Text c ss s a h = rw c.in-Text.is (c.check_name.ensures ss s a h)

pub returns-in_ok-bytes-in-Unnamed : goal.returns-in_ok-bytes-in-Unnamed
returns-in_ok-bytes-in-Unnamed c ss s a h = rw c.in-Unnamed.is (rw c.in_ok-bytes-in-Unnamed.ensures at (rw c.deref.ensures.value at (c.check_name-in-Unnamed.ensures ss s a h)))
