-- The texts that answer postings, by what their calls came to.
use Rattle.std.specs.Prelude.{ℕ, List, [], ◌∷◌, ◌++◌, Option, Some}
use Rattle.behaviour_tree.specs.Data.{ProgramParts}
use Rattle.behaviour_tree.specs.declared.words.Outcome.{Outcome}
use Rattle.jsonrpc_text.specs.declared.message.Read.{Read}
use Rattle.jsonrpc_text.specs.declared.message.ReadCall.{ReadCall}
use Rattle.run_theorem.specs.Texts.{Came, sent_to, response_of}

-- what a text says, for a service
abbrev pub came_for : ℕ → Read → Came
came_for service read = record { service = service; read = read }

-- the texts of calls of a service that ask for one, by their outcomes in order
abbrev pub texts_told : ProgramParts → ℕ → List ReadCall → List Outcome → List (List ℕ)
texts_told parts service [] outcomes = []
texts_told parts service (c ∷ cs) [] = []
texts_told parts service (c ∷ cs) (o ∷ os) = sent_to parts service c (Some o) ++ texts_told parts service cs os

-- the text that answers what came in, by the outcomes of its calls in order; none where nothing is said
abbrev pub response_told : ProgramParts → Came → List Outcome → Option (List ℕ)
response_told parts came outcomes =
    response_of came.read.batch (texts_told parts came.service came.read.calls outcomes)
