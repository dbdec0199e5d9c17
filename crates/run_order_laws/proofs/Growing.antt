-- What more entries make of a history: the messages and the entries stay, and its front is legal too.
use Rattle.std.proofs.Common.{◌≡◌, ℕ, List, [], ◌∷◌, ◌++◌, refl, sym, subst, ◌∙◌, Some}
use Rattle.std.specs.Prelude.{slice_get}
use Rattle.office_core.specs.declared.history.Entry.{Entry}
use Rattle.office_core.specs.declared.message.Message.{Message}
use Rattle.office_core.specs.Limits.{Setting}
use Rattle.office_core.specs.Past.{Past, nothing_yet}
use Rattle.office_core.specs.Accepted.{accepted_in, then_one, then_all, past_of}
use Rattle.office_core.specs.Legal.{IsLegalEntry, AreLegal, IsLegal}
use Rattle.office_core.proofs.OneAnswer.{message_stays}
use Rattle.run_order_laws.proofs.Lists.{append_nil, append_assoc}

then_all_append : (w : Setting) (past : Past) (es more : List Entry)
    → then_all w past (es ++ more) ≡ then_all w (then_all w past es) more
then_all_append w past [] more = refl
then_all_append w past (e ∷ es) more = then_all_append w (then_one w past e) es more

-- what happened in a longer history
pub past_then : (w : Setting) (h more : List Entry) → past_of w (h ++ more) ≡ then_all w (past_of w h) more
past_then w h more = then_all_append w nothing_yet h more

entries_then : (w : Setting) (past : Past) (es : List Entry) → (then_all w past es).entries ≡ past.entries ++ es
entries_then w past [] = sym (append_nil past.entries)
entries_then w past (e ∷ es) = entries_then w (then_one w past e) es ∙ append_assoc past.entries (e ∷ []) es

-- the entries of what happened in a history are the history
pub entries_past : (w : Setting) (h : List Entry) → (past_of w h).entries ≡ h
entries_past w h = entries_then w nothing_yet h

-- a message stays
pub message_then : (w : Setting) (past : Past) (es : List Entry) (n : ℕ) (m : Message)
    → slice_get past.messages n ≡ Some m → slice_get (then_all w past es).messages n ≡ Some m
message_then w past [] n m h = h
message_then w past (e ∷ es) n m h =
    message_then w (then_one w past e) es n m (message_stays past.messages (accepted_in w past e) n m h)

-- ---- legal entries

front_legal : (w : Setting) (past : Past) (es more : List Entry) → AreLegal w past (es ++ more) → AreLegal w past es
front_legal w past [] more h = tt
front_legal w past (e ∷ es) more h = (h.0, front_legal w (then_one w past e) es more h.1)

rest_legal : (w : Setting) (past : Past) (es more : List Entry)
    → AreLegal w past (es ++ more) → AreLegal w (then_all w past es) more
rest_legal w past [] more h = h
rest_legal w past (e ∷ es) more h = rest_legal w (then_one w past e) es more h.1

-- the front of a legal history is legal
pub legal_front : (w : Setting) (h more : List Entry) → IsLegal w (h ++ more) → IsLegal w h
legal_front w h more legal = front_legal w nothing_yet h more legal

-- what comes behind it is legal there
pub legal_rest : (w : Setting) (h more : List Entry) → IsLegal w (h ++ more) → AreLegal w (past_of w h) more
legal_rest w h more legal = rest_legal w nothing_yet h more legal

-- What each legal entry keeps holds behind all of them.
pub kept_by_all : (w : Setting) (P : Past → Type 0)
    → ((past : Past) (e : Entry) → IsLegalEntry w past e → P past → P (then_one w past e))
    → (past : Past) (es : List Entry) → AreLegal w past es → P past → P (then_all w past es)
kept_by_all w P step past [] legal h = h
kept_by_all w P step past (e ∷ es) legal h =
    kept_by_all w P step (then_one w past e) es legal.1 (step past e legal.0 h)

-- what each legal entry keeps holds of a longer history
pub kept_longer : (w : Setting) (P : Past → Type 0)
    → ((past : Past) (e : Entry) → IsLegalEntry w past e → P past → P (then_one w past e))
    → (h more : List Entry) → IsLegal w (h ++ more) → P (past_of w h) → P (past_of w (h ++ more))
kept_longer w P step h more legal holds =
    subst P (sym (past_then w h more)) (kept_by_all w P step (past_of w h) more (legal_rest w h more legal) holds)
