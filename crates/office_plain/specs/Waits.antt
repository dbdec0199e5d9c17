-- What waits for a session: the messages that went to it and were not taken, each with its operation.
use Rattle.std.specs.Prelude.{ℕ, suc, ◌++◌, not, ◌&&◌, List, [], ◌∷◌, nat_eq, if◌then◌else◌}
use Rattle.std.specs.List.{list_any}
use Rattle.post_box.specs.declared.mailbox.Waiting.{Waiting}
use Rattle.post_box.specs.Oldest.{waiting}
use Rattle.office_core.specs.declared.message.Message.{Message}
use Rattle.office_core.specs.Past.{Past}
use Rattle.office_core.specs.Boxes.{taken}

-- the messages for a session that are not among those taken; the first message has the number n
abbrev pub waiting_from : List ℕ → ℕ → ℕ → List Message → List Waiting
waiting_from gone s n [] = []
waiting_from gone s n (m ∷ ms) =
    (if nat_eq s m.session && not (list_any (nat_eq n) gone) then waiting m.op n ∷ [] else [])
    ++ waiting_from gone s (suc n) ms

-- the messages that wait for a session, in order
abbrev pub waiting_for : Past → ℕ → List Waiting
waiting_for past s = waiting_from (taken past) s 0 past.messages
