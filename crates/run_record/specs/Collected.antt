-- Which answers were collected: by the worker that posted the message, once, and before it posts again.
use Rattle.std.specs.Prelude.{◌≡◌, ℕ, Bool, true, not, ◌&&◌, List, [], ◌∷◌, ◌++◌, map, length, is_some}
use Rattle.std.specs.List.{list_all, list_any, filter}
use Rattle.office_core.specs.declared.history.Entry.{Entry}
use Rattle.office_core.specs.Limits.{Setting}
use Rattle.office_core.specs.Past.{Past, some_entry}
use Rattle.office_core.specs.Keys.{first}
use Rattle.office_core.specs.Accepted.{past_of}
use Rattle.office_core.specs.Answers.{answers}
use Rattle.office_core.specs.Legal.{collects, posts_as}
use Rattle.run_record.specs.Order.{messages_for, numbers_from}
use Rattle.run_record.specs.Quiet.{before_stop, begins_posting}

-- the accepted messages that an actor posted, that have an answer, and that nobody collected
abbrev pub uncollected : Setting → Past → ℕ → List ℕ
uncollected w past actor =
    filter
    (λ n. some_entry past (posts_as actor n) && is_some (first (answers w past n)) && not (some_entry past (collects n)))
    (numbers_from 0 (length past.messages))

-- who collected the answer of message n, in order
abbrev pub collectors : ℕ → List Entry → List ℕ
collectors n h = map (λ (e : Entry). e.actor) (filter (collects n) h)

-- the answer of each accepted message of posting j of an actor was collected
abbrev pub was_collected : Past → ℕ → ℕ → Bool
was_collected past actor j = list_all (λ n. some_entry past (collects n)) (messages_for past actor j)

-- Whoever begins a posting collected before that what was answered of its posts.
abbrev pub CollectsFirst : Setting → List Entry → Type 0
CollectsFirst w h =
    (j : ℕ) (before later : List Entry) (e : Entry) → h ≡ before ++ e ∷ later → begins_posting j before e ≡ true
    → uncollected w (past_of w before) e.actor ≡ []

-- What is posted is collected: what was answered, before the next posting and before the stop; and each accepted
-- message once, by the worker that posted it.
pub record AreCollected (w : Setting) (h : List Entry) : Type 0 where
  pub before_posting : CollectsFirst w h
  pub before_stopping : (actor : ℕ) → uncollected w (past_of w (before_stop h)) actor ≡ []
  pub once : (actor n : ℕ) → list_any (posts_as actor n) h ≡ true → collectors n h ≡ actor ∷ []
