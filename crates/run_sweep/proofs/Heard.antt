-- The trip of a call that goes out.
use Rattle.std.proofs.Common.{◌≡◌, ◌∙◌, ap, ℕ, List, [], ◌∷◌, Result, Ok, Err, IfOk}
use Rattle.outside_links.specs.Trips.{LinkTold}
use Rattle.std.specs.Prelude.{IsErrOf}
use Rattle.outside_traits.specs.declared.errors.CallError.{CallError}
use Rattle.outside_traits.specs.declared.errors.CallError.TheVariants.{Failed}
use Rattle.behaviour_tree.specs.Data.{ProgramParts}
use Rattle.behaviour_tree.specs.declared.words.Outcome.{Outcome}
use Rattle.office_core.specs.declared.outgoing.Outgoing.{Outgoing}
use Rattle.outside_traits.specs.Told.{Lists}
use Rattle.outside_links.specs.Trips.{Made, faults_after, there_alone}
use Rattle.jsonrpc_calls.specs.CallTexts.{location_called, call as call_text}
use Rattle.jsonrpc_calls.specs.Heard.{heard}
use Rattle.run_trip_laws.specs.Going.{IsHeard}
use Rattle.run_theorem.specs.Trips.{HasCounted}

-- a trip that failed is counted
pub counted_alone : {T : Type 0} (r : Result T CallError) (before now : ℕ) (location text : List ℕ) → IsErrOf r Failed
    → now ≡ faults_after r before → HasCounted before now (there_alone location text ∷ [])
counted_alone r before now location text failed counted = counted ∙ ap (λ x. faults_after x before) failed

-- what was heard of a trip that was made
pub heard_of : {E : Type 0} (parts : ProgramParts) (out : Outgoing) (before now : LinkTold) (m : Made)
    (r : Result Outcome E)
    → m.location ≡ location_called parts out → m.text ≡ call_text parts out
    → Lists before.trips now.trips (m ∷ []) → HasCounted before.faults now.faults (m ∷ [])
    → IfOk r (λ o. o ≡ heard out m.came)
    → IfOk r (λ o. (n : Made) × (IsHeard parts out n o) × (Lists before.trips now.trips (n ∷ []))
    × (HasCounted before.faults now.faults (n ∷ [])))
heard_of parts out before now m (Ok o) location text travels counts sent =
    (m, record { location = location; text = text; outcome = sent }, travels, counts)
heard_of parts out before now m (Err e) location text travels counts sent = tt
