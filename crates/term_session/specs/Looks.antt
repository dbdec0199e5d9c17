-- These definitions serve the proofs alone: no promise speaks of them.
-- What the code tells of a strand, as the definitions say it.
use Rattle.term_session.specs.Walks.{Looked, idle, failing, asking}
use Rattle.term_session.specs.declared.look.Looked as looked

-- what looking told
abbrev pub looked_view : looked.Looked → Looked
looked_view looked.TheVariants.Idle = idle
looked_view (looked.TheVariants.Failing f) = failing f
looked_view (looked.TheVariants.Asking n) = asking n.value
