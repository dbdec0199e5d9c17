-- The words of the lines of a record's text.
use Rattle.std.specs.Prelude.{ℕ, List, [], ◌∷◌, Bool, if◌then◌else◌, codes, decimal}
use Rattle.std.specs.Fmt.{signed_decimal}
use Rattle.behaviour_tree.specs.declared.words.Event.{Event}
use Rattle.behaviour_tree.specs.declared.words.Kind.{Kind}
use Rattle.behaviour_tree.specs.declared.words.Kind.TheVariants as kind
use Rattle.behaviour_tree.specs.declared.words.Outcome.{Outcome}
use Rattle.behaviour_tree.specs.declared.words.Outcome.TheVariants as outcome
use Rattle.behaviour_tree.specs.declared.words.Reason.{Reason}
use Rattle.behaviour_tree.specs.Reasons.{code_of}
use Rattle.correlation.specs.declared.bind_reply.BindReply.{BindReply}
use Rattle.correlation.specs.declared.bind_reply.BindReply.TheVariants as binding
use Rattle.office_core.specs.declared.post.PostReply.{PostReply}
use Rattle.office_core.specs.declared.post.PostReply.TheVariants as reply
use Rattle.office_core.specs.declared.history.Placed.{Placed}
use Rattle.office_core.specs.declared.history.Placed.TheVariants as placed
use Rattle.office_core.specs.declared.history.Act.{Act}
use Rattle.office_core.specs.declared.history.Act.TheVariants as act
use Rattle.office_core.specs.declared.history.Entry.{Entry}
use Rattle.run_text.specs.Strings.{text_string}
use Rattle.run_text.specs.Nodes.{root_text, tree_text}

-- a word, as it is written
abbrev pub Word : Type 0
Word = List ℕ

-- a refusal: its code
abbrev pub reason_words : Reason → List Word
reason_words r = codes "refused" ∷ (signed_decimal (code_of r) ∷ [])

-- how a request ended
abbrev pub outcome_words : Outcome → List Word
outcome_words (outcome.Value t) = codes "value" ∷ (tree_text t ∷ [])
outcome_words (outcome.Fault name t) = codes "fault" ∷ (text_string name ∷ (tree_text t ∷ []))
outcome_words (outcome.Refused r) = reason_words r

-- what a post answered: the number of the message, or a refusal
abbrev pub reply_words : PostReply → List Word
reply_words (reply.Accepted m) = codes "ok" ∷ (decimal m ∷ [])
reply_words (reply.Refused r) = reason_words r

-- where a message went that a session sent
abbrev pub placed_words : Placed → List Word
placed_words (placed.At m) = codes "ok" ∷ (decimal m ∷ [])
placed_words (placed.Refused r) = reason_words r
placed_words placed.Out = codes "out" ∷ []

-- what a binding answered
abbrev pub binding_words : BindReply → List Word
binding_words binding.Bound = codes "bound" ∷ []
binding_words (binding.Held t) = codes "held" ∷ (decimal t ∷ [])
binding_words binding.Fixed = codes "fixed" ∷ []

-- yes or no
abbrev pub flag_word : Bool → Word
flag_word b = if b then codes "1" else codes "0"

-- a call of the office with its reply
abbrev pub act_words : Act → List Word
act_words (act.Post posting index posted r) =
    codes "post" ∷ (codes "p" ∷ (decimal posting ∷ (decimal index ∷ (decimal posted.service
    ∷ (text_string posted.op ∷ (tree_text posted.value ∷ reply_words r))))))
act_words (act.Adopt service) = codes "adopt" ∷ (decimal service ∷ [])
act_words (act.Take m) = codes "take" ∷ (decimal m ∷ [])
act_words (act.Bind v x r) = codes "bind" ∷ (decimal v ∷ (root_text x ∷ binding_words r))
act_words (act.Reply m o) = codes "reply" ∷ (decimal m ∷ outcome_words o)
act_words (act.Send k port op t wants where_to) =
    codes "send" ∷ (decimal k ∷ (decimal port ∷ (decimal op ∷ (tree_text t ∷ (flag_word wants
    ∷ placed_words where_to)))))
act_words (act.Answer k o) = codes "answer" ∷ (decimal k ∷ outcome_words o)
act_words act.End = codes "end" ∷ []
act_words (act.Collect m o) = codes "collect" ∷ (decimal m ∷ outcome_words o)
act_words (act.Fetch s k) = codes "fetch" ∷ (decimal s ∷ (decimal k ∷ []))
act_words (act.Answered s k o) = codes "answered" ∷ (decimal s ∷ (decimal k ∷ outcome_words o))
act_words act.Close = codes "close" ∷ []
act_words act.Stop = codes "stop" ∷ []

-- an entry of the history: who called, and the call
abbrev pub entry_words : Entry → List Word
entry_words e = codes "entry" ∷ (decimal e.actor ∷ act_words e.act)

-- the name of a kind of event
abbrev pub kind_word : Kind → Word
kind_word kind.Local = codes "Local"
kind_word kind.Install = codes "Install"
kind_word kind.Raise = codes "Raise"
kind_word kind.Handle = codes "Handle"
kind_word kind.EndScope = codes "EndScope"
kind_word kind.Compensate = codes "Compensate"
kind_word kind.In = codes "In"
kind_word kind.Reply = codes "Reply"
kind_word kind.Notify = codes "Notify"
kind_word kind.Solicit = codes "Solicit"
kind_word kind.Answer = codes "Answer"
kind_word kind.Bind = codes "Bind"
kind_word kind.Finish = codes "Finish"

-- an event of the session of a number
abbrev pub event_words : ℕ → Event → List Word
event_words session e =
    codes "event" ∷ (decimal session ∷ (decimal e.strand ∷ (kind_word e.kind ∷ (decimal e.number
    ∷ (decimal e.place ∷ (decimal e.fault ∷ []))))))
