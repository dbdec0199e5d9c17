-- The code and the text of a refusal in an answer.
use Rattle.std.specs.Prelude.{ℕ, ℤ, pos, neg_ℤ, List, codes}
use Rattle.behaviour_tree.specs.declared.words.Reason.{Reason}
use Rattle.behaviour_tree.specs.declared.words.Reason.TheVariants.{UnknownOperation, NotConforming, Correlation}
use Rattle.behaviour_tree.specs.declared.words.Reason.TheVariants.{BoxFull, RunFull, Stopped, SessionEnded, Other}

-- the code of a refusal, a peer's own where a peer refused
abbrev pub code_of : Reason → ℤ
code_of UnknownOperation = neg_ℤ (pos 32601)
code_of NotConforming = neg_ℤ (pos 32602)
code_of Correlation = neg_ℤ (pos 32001)
code_of BoxFull = neg_ℤ (pos 32002)
code_of RunFull = neg_ℤ (pos 32003)
code_of Stopped = neg_ℤ (pos 32004)
code_of SessionEnded = neg_ℤ (pos 32005)
code_of (Other code) = code

-- the text of a refusal
abbrev pub message_of : Reason → List ℕ
message_of UnknownOperation = codes "Method not found"
message_of NotConforming = codes "Invalid params"
message_of Correlation = codes "CorrelationError"
message_of BoxFull = codes "box full"
message_of RunFull = codes "run full"
message_of Stopped = codes "stopped"
message_of SessionEnded = codes "session ended"
message_of (Other code) = codes "refused"
