-- What holds of every legal history.
use Rattle.std.specs.Prelude.{◌≡◌, ℕ, true, List, [], ◌∷◌, ◌++◌, length, nat_eq, Option, None, Some, option_map, slice_get}
use Rattle.std.specs.List.{filter}
use Rattle.behaviour_tree.specs.declared.words.Outcome.{Outcome}
use Rattle.reqresp_book.specs.declared.origin.Origin.TheVariants as origin
use Rattle.office_core.specs.declared.history.Act.{Act}
use Rattle.office_core.specs.declared.history.Act.TheVariants as act
use Rattle.office_core.specs.declared.history.Entry.{Entry}
use Rattle.office_core.specs.declared.history.Placed.TheVariants as at
use Rattle.office_core.specs.declared.post.PostReply.TheVariants as answer
use Rattle.office_core.specs.Limits.{Setting}
use Rattle.office_core.specs.Past.{Message, Past, some_entry, stops}
use Rattle.office_core.specs.Accepted.{accepted_in, then_one, past_of, accepted}
use Rattle.office_core.specs.Answers.{answers}
use Rattle.office_core.specs.Calls.{Call, calls}
use Rattle.office_core.specs.Legal.{IsLegalEntry, IsLegal}

-- Once the run stopped, each accepted message of a legal history has exactly one answer.
abbrev pub AnswersOnce : Type 0
AnswersOnce =
    (w : Setting) (h : List Entry) (n : ℕ) (m : Message)
    → IsLegal w h → some_entry (past_of w h) stops ≡ true → slice_get (accepted w h) n ≡ Some m
    → (o : Outcome) × (answers w (past_of w h) n ≡ o ∷ [])

-- The calls of each session of a legal history are numbered from 0, in order.
abbrev pub NumbersCalls : Type 0
NumbersCalls =
    (w : Setting) (h : List Entry) (s k : ℕ) (c : Call)
    → IsLegal w h → slice_get (filter (λ d. nat_eq s d.session) (calls (past_of w h))) k ≡ Some c → c.number ≡ k

-- A call of a legal history that went to a service of the program is the message of that number, which came from it.
abbrev pub SendsMessages : Type 0
SendsMessages =
    (w : Setting) (h : List Entry) (i n : ℕ) (c : Call)
    → IsLegal w h → slice_get (calls (past_of w h)) i ≡ Some c → c.placed ≡ at.At n
    → (m : Message) × ((slice_get (accepted w h) n ≡ Some m) × (m.origin ≡ origin.Session c.session c.number))

-- the number under which the reply of a call says that a message was accepted
abbrev pub number_said : Act → Option ℕ
number_said (act.Post posting index q (answer.Accepted n)) = Some n
number_said (act.Send k port op v wants (at.At n)) = Some n
number_said c = None

-- A legal entry accepts a message exactly where its reply says so, under the number that it says: so the messages of a
-- legal history are those of its posts and sends whose reply is a number.
abbrev pub AcceptsByReply : Type 0
AcceptsByReply =
    (w : Setting) (past : Past) (e : Entry)
    → IsLegalEntry w past e → number_said e.act ≡ option_map (λ m. length past.messages) (accepted_in w past e)

-- What happened in a history with one entry more is what happened and that entry.
abbrev pub GrowsByOne : Type 0
GrowsByOne = (w : Setting) (h : List Entry) (e : Entry) → past_of w (h ++ e ∷ []) ≡ then_one w (past_of w h) e

-- A legal history with one entry more that is legal is legal.
abbrev pub StaysLegal : Type 0
StaysLegal =
    (w : Setting) (h : List Entry) (e : Entry)
    → IsLegal w h → IsLegalEntry w (past_of w h) e → IsLegal w (h ++ e ∷ [])
