-- Whether what was posted was collected, as a value that computes.
use Rattle.std.specs.Prelude.{ℕ, Bool, true, false, ◌&&◌, List, [], ◌∷◌, ◌++◌, nat_eq}
use Rattle.std.specs.List.{list_any, list_all}
use Rattle.office_core.specs.declared.post.PostReply.TheVariants as answer
use Rattle.office_core.specs.declared.history.Act.TheVariants as act
use Rattle.office_core.specs.declared.history.Entry.{Entry}
use Rattle.office_core.specs.Limits.{Setting, first_worker}
use Rattle.office_core.specs.Accepted.{past_of}
use Rattle.run_record.specs.Quiet.{before_stop, posts_for}
use Rattle.run_record.specs.Collected.{collectors, uncollected}
use Rattle.test_trials.specs.Quiet.{is_empty}

-- an entry after others begins no posting, or one before which its actor collected what was answered
abbrev pub collects_first : Setting → List Entry → Entry → Bool
collects_first w before e =
    elim e.act [
      | act.Post j i q r ↦ elim (list_any (posts_for e.actor j) before) [
        | true ↦ true
        | false ↦ is_empty (uncollected w (past_of w before) e.actor)
      ]
      | _ ↦ true
    ]

-- each of the entries from some on
abbrev pub collect_first_after : Setting → List Entry → List Entry → Bool
collect_first_after w before [] = true
collect_first_after w before (e ∷ es) = collects_first w before e && collect_first_after w (before ++ e ∷ []) es

-- a number stands alone
abbrev pub is_alone : ℕ → List ℕ → Bool
is_alone n [] = false
is_alone n (m ∷ []) = nat_eq m n
is_alone n (m ∷ k ∷ ms) = false

-- a post is by the first worker, and where it was accepted its answer was collected by that alone, and once
abbrev pub is_collected : List Entry → Entry → Bool
is_collected h e = elim e.act [
  | act.Post j i q (answer.Accepted n) ↦ nat_eq e.actor first_worker && is_alone first_worker (collectors n h)
  | _ ↦ true
]

-- what was posted was collected
abbrev pub are_collected : Setting → List Entry → Bool
are_collected w h =
    collect_first_after w [] h && is_empty (uncollected w (past_of w (before_stop h)) first_worker)
    && list_all (is_collected h) h
