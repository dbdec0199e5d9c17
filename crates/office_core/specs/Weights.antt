-- The weight of values, which limits a run.
use Rattle.std.specs.Prelude.{ℕ, ◌+◌, ◌*◌, sum_by}
use Rattle.jolie_trees.specs.Data.{Tree}
use Rattle.jolie_trees.specs.Trees.{size, text_bytes}
use Rattle.behaviour_tree.specs.declared.words.Outcome.{Outcome}
use Rattle.behaviour_tree.specs.declared.words.Outcome.TheVariants as outcome
use Rattle.office_core.specs.declared.history.Entry.{Entry}
use Rattle.office_core.specs.declared.history.Act.TheVariants as act
use Rattle.office_core.specs.Past.{Past}

-- the weight of a value: 8 for each node, and the bytes of its texts and names
abbrev pub weight : Tree → ℕ
weight t = 8 * size t + text_bytes t

-- the weight of an answer: that of its value
abbrev pub outcome_weight : Outcome → ℕ
outcome_weight (outcome.Value t) = weight t
outcome_weight (outcome.Fault name t) = weight t
outcome_weight (outcome.Refused reason) = 0

-- the weight of the reply that an entry gives a message
abbrev pub reply_weight : Entry → ℕ
reply_weight e = elim e.act [ act.Reply m o ↦ outcome_weight o | _ ↦ 0 ]

-- the weight of the accepted values and of the replies
abbrev pub total_weight : Past → ℕ
total_weight past = sum_by (λ m. weight m.value) past.messages + sum_by reply_weight past.entries
