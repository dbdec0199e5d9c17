-- What connections bring in, and how they stand.
use Rattle.std.specs.Prelude.{◌≡◌, ◌≢◌, ℕ, List, length, take, count_by}
use Rattle.std.specs.Prelude.{Option, option_map, option_and_then, Some, slice_get}
use Rattle.jsonrpc_text.specs.Posted.{posted}
use Rattle.run_theorem.specs.Exchange.{Asked}
use Rattle.run_theorem.specs.Calls.{is_of}
use Rattle.run_theorem.specs.Texts.{Came}
use Rattle.run_record.specs.declared.record.Traffic.{Traffic}
use Rattle.http_port.specs.Connections.{Reading}
use Rattle.conn_future.specs.declared.stage.Stage.{Stage}
use Rattle.conn_future.specs.declared.stage.Stage.TheVariants as Stages
use Rattle.conn_future.specs.Law.{plain_stage}
use Rattle.http_connection.specs.Talking.{log}
use Rattle.http_connection.specs.Law.{holding, Keeps}

-- A connection of a run: the door at which it came, by how many doors had been opened before that, where its wire tells
-- it; the service of its door, how it stands, the bodies of the requests that were taken from it, in order, and the
-- texts that were told to these, each an answer or that there is nothing to say.
pub record RunConnection : Type 0 where
  pub door : Option ℕ
  pub service : ℕ
  pub stage : Stage
  pub bodies : List (List ℕ)
  pub texts : List (Option (List ℕ))

-- what a body brings in for a service
abbrev pub came_with : ℕ → List ℕ → Came
came_with service body = record { service = service; read = posted body }

-- what the request of a number of a connection brings in, none where no such request was taken
abbrev pub came_of : ℕ → RunConnection → Option Came
came_of n connection = option_map (came_with connection.service) (slice_get connection.bodies n)

-- what a request of the connections of a run brings in, none where no such request was taken
abbrev pub came_at : List RunConnection → Asked → Option Came
came_at connections asked = option_and_then (came_of asked.request) (slice_get connections asked.traffic)

-- The requests that were asked are those that were taken from the connections, each once, and those of one connection
-- in their order.
pub record AreTaken (connections : List RunConnection) (asked : List Asked) : Type 0 where
  pub in_order : (j : ℕ) (a : Asked) → slice_get asked j ≡ Some a
      → a.request ≡ count_by (is_of a.traffic) (take j asked)
  pub all : (k : ℕ) (connection : RunConnection) → slice_get connections k ≡ Some connection
      → count_by (is_of k) asked ≡ length connection.bodies

-- The bytes of a connection that stands so. Unless a text goes out on it or a write failed, the bodies are those of the
-- first requests that were read, of all where it reads on or is over; and what was written is what is to be written
-- where these texts are told. While a text goes out, and where a write failed, the bodies are those of the first
-- requests, and a prefix of that was written, in which no more is wanting than the last answer and what is due after it.
pub record HasPassed (connection : RunConnection) (traffic : Traffic) : Type 0 where
  pub stage : connection.stage ≢ Stages.Spent
  pub keeps : (reading : Reading traffic.read)
      → ∥ Keeps (plain_stage connection.stage) (holding traffic.read reading)
      (log traffic.read traffic.written connection.bodies connection.texts) ∥₁
