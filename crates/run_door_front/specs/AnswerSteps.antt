-- These definitions serve the proofs alone: no promise speaks of them.
-- What a front over doors does where an answer is told to it or a text is noted.
use Rattle.std.specs.Prelude.{◌≡◌, ℕ, Bool, false, ◌&&◌, if◌then◌else◌, nat_eq, List, ◌∷◌, [], ◌++◌}
use Rattle.std.specs.Prelude.{Option, None, Some, slice_get, slice_set}
use Rattle.behaviour_tree.specs.Data.{ProgramParts}
use Rattle.behaviour_tree.specs.declared.words.Outcome.{Outcome}
use Rattle.jsonrpc_text.specs.declared.message.Read.{Read}
use Rattle.run_theorem.specs.Exchange.{Told}
use Rattle.jsonrpc_postings.specs.Told.{came_for, response_told}
use Rattle.conn_future.specs.declared.stage.Stage.TheVariants as Stages
use Rattle.conn_future.specs.Stages.{stage_of}
use Rattle.conn_future.specs.Talking.{Seen, IsTalking}
use Rattle.outside_traits.specs.Told.{WireTold}
use Rattle.run_door_front.specs.declared.link.PendingReply.{PendingReply}
use Rattle.run_door_front.specs.Keeping.{ClientTold, Keeping}
use Rattle.run_door_front.specs.Keeping.{owes as owes_answer}

-- ---- who owes an answer

-- the request that has no answer yet is that of the posting of a place
abbrev pub is_pending : ℕ → Option PendingReply → Bool
is_pending place None = false
is_pending place (Some pending) = nat_eq pending.place place

-- a connection owes the answer of the posting of a place
abbrev pub owes : ℕ → ClientTold → Bool
owes place link = owes_answer link && is_pending place link.pending

-- the number of a connection, where it owes the answer of the posting of a place
abbrev pub awaited_at : ℕ → ℕ → Option ClientTold → Option ℕ
awaited_at place number None = None
awaited_at place number (Some link) = if owes place link then Some number else None

-- the same of the connection of a number, where there is one
abbrev pub awaited_by : ℕ → List ClientTold → Option ℕ → Option ℕ
awaited_by place links None = None
awaited_by place links (Some number) = awaited_at place number (slice_get links number)

-- which connection has the posting of a place and owes its answer
abbrev pub awaited : ℕ → List ClientTold → List ℕ → Option ℕ
awaited place links traffics = awaited_by place links (slice_get traffics place)

-- The posting of a place is of the connection of a number, which owes its answer.
abbrev pub Awaits : ℕ → ℕ → Keeping → Type 0
Awaits place number kept = awaited place kept.connections kept.traffics ≡ Some number

-- no connection owes the answer of the posting of a place
abbrev pub AwaitsNone : ℕ → Keeping → Type 0
AwaitsNone place kept = awaited place kept.connections kept.traffics ≡ None

-- ---- what is told

-- what was told of a place
abbrev pub told_of : ℕ → List Outcome → Told
told_of place outcomes = record { place = place; outcomes = outcomes }

-- The request that a connection owes is that of a place, and this is the text of what its calls came to.
pub record IsTextOf (parts : ProgramParts) (told : Told) (link : ClientTold) (text : Option (List ℕ)) : Type 0 where
  pub read : Read
  pub pending : link.pending ≡ Some (record { place = told.place; read = read })
  pub sent : text ≡ response_told parts (came_for link.service read) told.outcomes

-- A connection that owed an answer was told a text.
pub record TellsText (text : Option (List ℕ)) (before now : Seen) : Type 0 where
  pub owing : stage_of before.kept.next ≡ Stages.Owes
  pub writes : stage_of now.kept.next ≡ Stages.Writes
  pub talks : (first : WireTold) (bodies : List (List ℕ)) (texts : List (Option (List ℕ)))
      → IsTalking first before bodies texts → IsTalking first now bodies (texts ++ text ∷ [])

-- A connection that owed the answer of a place was told it, and owes nothing more.
pub record HasTold (parts : ProgramParts) (told : Told) (before now : ClientTold) : Type 0 where
  pub text : Option (List ℕ)
  pub of_place : IsTextOf parts told before text
  pub tells : TellsText text before.seen now.seen
  pub paid : now.pending ≡ None
  pub service : now.service ≡ before.service
  pub waits : now.waits ≡ before.waits
  pub row : now.in_a_row ≡ before.in_a_row
  pub longest : now.longest ≡ before.longest

-- The connection of a place was told so, and all else stays.
pub record HasAnswered (parts : ProgramParts) (told : Told) (before now : Keeping) : Type 0 where
  pub number : ℕ
  pub place : slice_get before.traffics told.place ≡ Some number
  pub link : ClientTold
  pub after : ClientTold
  pub there : slice_get before.connections number ≡ Some link
  pub connections : now.connections ≡ slice_set before.connections number after
  pub tells : HasTold parts told link after
  pub doors : now.doors ≡ before.doors
  pub opened : now.opened ≡ before.opened
  pub queue : now.queue ≡ before.queue
  pub traffics : now.traffics ≡ before.traffics
  pub most : now.most ≡ before.most
  pub halted : now.halted ≡ before.halted
  pub spent : now.spent ≡ before.spent
