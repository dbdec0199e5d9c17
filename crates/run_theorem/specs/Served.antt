-- What a run over connections posted and wrote.
use Rattle.std.specs.Prelude.{◌≡◌, ℕ, suc, ◌<◌, Bool, true, false, List, length, map, nat_eq}
use Rattle.std.specs.Prelude.{Option, Some, slice_get}
use Rattle.std.specs.List.{list_all, AllZip}
use Rattle.office_core.specs.declared.history.Entry.{Entry}
use Rattle.office_core.specs.Limits.{Setting, first_worker}
use Rattle.office_core.specs.Accepted.{past_of}
use Rattle.run_theorem.specs.Exchange.{Asked}
use Rattle.run_record.specs.declared.record.Traffic.{Traffic}
use Rattle.run_record.specs.Postings.{posts_by, posts_of}
use Rattle.run_record.specs.Order.{finished_at}
use Rattle.run_theorem.specs.Texts.{Came, posting_of, response}
use Rattle.run_theorem.specs.Ports.{has_door}
use Rattle.run_theorem.specs.RunConnections.{RunConnection, came_at, AreTaken, HasPassed}

-- whose request each posting is, and what it brings in, in the order of the postings
pub record Requests : Type 0 where
  pub asked : List Asked
  pub came : List Came

-- Each text that was told to a request is the response to its posting.
abbrev pub AreResponses : Setting → List Entry → List RunConnection → Requests → Type 0
AreResponses w h connections all = (j : ℕ) (a : Asked) (c : Came) (connection : RunConnection) (text : Option (List ℕ))
    → slice_get all.asked j ≡ Some a → slice_get all.came j ≡ Some c
    → slice_get connections a.traffic ≡ Some connection → slice_get connection.texts a.request ≡ Some text
    → text ≡ response w (past_of w h) first_worker j c

-- Of two requests of one connection the posting of the first was finished at a posting before that of the second: each
-- of its messages had its answer before the second was posted.
abbrev pub AreOneByOne : Setting → List Entry → List Asked → Type 0
AreOneByOne w h asked = (i j : ℕ) (a b : Asked) → slice_get asked i ≡ Some a → slice_get asked j ≡ Some b
    → a.traffic ≡ b.traffic → i < j → finished_at w (past_of w h) first_worker (length asked) i < j

-- A text was told to each request whose posting was finished at one before the last.
abbrev pub AreToldEarly : Setting → List Entry → List RunConnection → List Asked → Type 0
AreToldEarly w h connections asked = (j : ℕ) (a : Asked) (connection : RunConnection) → slice_get asked j ≡ Some a
    → slice_get connections a.traffic ≡ Some connection
    → suc (finished_at w (past_of w h) first_worker (length asked) j) < length asked → a.request < length connection.texts

-- a text was told to each request that was taken from a connection
abbrev pub is_told : RunConnection → Bool
is_told connection = nat_eq (length connection.texts) (length connection.bodies)

-- The requests that were taken from the connections of this traffic were posted to the services of their doors, each
-- once and those of one connection in their order, by the worker that has the connections; and, whether the front
-- halted or not, each once the one before it on its connection was answered. What was written on each is what is to be
-- written where the responses to its postings are told; where a text goes out on it or a write failed, the last of
-- these, or what is due after it, was cut. The response to each posting was told that was finished before the last one
-- came; and unless the front halted, to each. Whether a connection has failed its wire tells, when it comes back.
pub record IsServed (w : Setting) (h : List Entry) (halted : Bool) (traffic : List Traffic) : Type 0 where
  pub connections : List RunConnection
  pub all : Requests
  pub doors : list_all (λ (connection : RunConnection). has_door w.parts connection.service) connections ≡ true
  pub passed : AllZip HasPassed connections traffic
  pub taken : AreTaken connections all.asked
  pub came : map (came_at connections) all.asked ≡ map Some all.came
  pub posted : posts_by first_worker h ≡ posts_of 0 (map posting_of all.came)
  pub one_by_one : AreOneByOne w h all.asked
  pub responses : AreResponses w h connections all
  pub told_early : AreToldEarly w h connections all.asked
  pub told : halted ≡ false → list_all is_told connections ≡ true
