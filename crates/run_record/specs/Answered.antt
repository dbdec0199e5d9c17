-- Exactly one answer, and postings that are posted in one piece.
use Rattle.std.specs.Prelude.{◌≡◌, ℕ, Bool, true, not, ◌&&◌, List, [], ◌∷◌, if◌then◌else◌, Some, slice_get}
use Rattle.std.specs.List.{list_any}
use Rattle.behaviour_tree.specs.declared.words.Outcome.{Outcome}
use Rattle.office_core.specs.declared.history.Act.TheVariants as act
use Rattle.office_core.specs.declared.history.Entry.{Entry}
use Rattle.office_core.specs.Limits.{Setting}
use Rattle.office_core.specs.declared.message.Message.{Message}
use Rattle.office_core.specs.Accepted.{past_of, accepted}
use Rattle.office_core.specs.Answers.{answers}
use Rattle.run_record.specs.Quiet.{posts_for}

-- each accepted message has exactly one answer
abbrev pub AnswersEach : Setting → List Entry → Type 0
AnswersEach w h =
    (n : ℕ) (m : Message) → slice_get (accepted w h) n ≡ Some m → (o : Outcome) × (answers w (past_of w h) n ≡ o ∷ [])

-- the entries after the posts that a posting begins with
abbrev pub behind_posts : ℕ → ℕ → List Entry → List Entry
behind_posts actor j [] = []
behind_posts actor j (e ∷ es) = if posts_for actor j e then behind_posts actor j es else e ∷ es

-- the posting of a post is over after the posts that follow it at once; of another entry there is nothing to say
abbrev pub is_in_one_piece : Entry → List Entry → Bool
is_in_one_piece e es = elim e.act [
  | act.Post j i q r ↦ not (list_any (posts_for e.actor j) (behind_posts e.actor j es))
  | _ ↦ true
]

-- the posts of one posting stand next to each other
abbrev pub stand_together : List Entry → Bool
stand_together [] = true
stand_together (e ∷ es) = is_in_one_piece e es && stand_together es
