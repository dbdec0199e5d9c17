-- What one entry more makes of what happened.
use Rattle.std.proofs.Common.{◌≡◌, ℕ, zero, suc, Bool, true, false, ◌&&◌, ◌||◌, List, [], ◌∷◌, ◌++◌, Option, Some, None, nat_eq, refl, sym, ap, subst, ◌∙◌, append_assoc, slice_get, take}
use Rattle.std.specs.List.{list_any, filter_map}
use Rattle.std.proofs.Math.Bool.{or-false}
use Rattle.std.proofs.lemmas.Bool.{false≢true, or_from}
use Rattle.std.proofs.lemmas.Option.{none-some}
use Rattle.std.proofs.lemmas.List.{append-nil}
use Rattle.std.proofs.lemmas.List.Elements.{filter_map-append}
use Rattle.std.proofs.lemmas.List.Folds.{list_any-append}
use Rattle.office_core.specs.declared.history.Act.{Act}
use Rattle.office_core.specs.declared.history.Act.TheVariants as act
use Rattle.office_core.specs.declared.history.Entry.{Entry}
use Rattle.office_core.specs.Limits.{Setting}
use Rattle.office_core.specs.declared.message.Message.{Message}
use Rattle.office_core.specs.Past.{Past, nothing_yet, some_entry}
use Rattle.office_core.specs.Sessions.{births, ends, service_of, singles_from, started_by}
use Rattle.office_core.specs.Boxes.{takes}
use Rattle.office_core.specs.Legal.{takes_answer}
use Rattle.office_core.specs.Accepted.{accepted_in, past_of, then_all, then_one, with_message}
use Rattle.run_record.specs.Steps.{Called, calls_after, calls_of, is_call_of}
use Rattle.session_turn.specs.Asking.{answers_message}

-- ---- lists

-- a test of a list with one more at its end
pub any_last : {X : Type 0} (f : X → Bool) (xs : List X) (x : X) → list_any f (xs ++ x ∷ []) ≡ (list_any f xs || f x)
any_last f xs x = list_any-append f xs (x ∷ []) ∙ ap (λ b. list_any f xs || b) (or-false (f x))

-- what stands in a list stands there in a longer one
pub stays_there : {A : Type 0} (xs ys : List A) (n : ℕ) (x : A) → slice_get xs n ≡ Some x → slice_get (xs ++ ys) n ≡ Some x
stays_there [] ys n x h = absurd (none-some x h)
stays_there (y ∷ xs) ys zero x h = h
stays_there (y ∷ xs) ys (suc n) x h = stays_there xs ys n x h

-- ---- histories

then_all_both : (w : Setting) (past : Past) (xs ys : List Entry)
    → then_all w past (xs ++ ys) ≡ then_all w (then_all w past xs) ys
then_all_both w past [] ys = refl
then_all_both w past (x ∷ xs) ys = then_all_both w (then_one w past x) xs ys

-- one entry more
pub past_on : (w : Setting) (h : List Entry) (e : Entry) → past_of w (h ++ e ∷ []) ≡ then_one w (past_of w h) e
past_on w h e = then_all_both w nothing_yet h (e ∷ [])

entries_all : (w : Setting) (past : Past) (es : List Entry) → (then_all w past es).entries ≡ past.entries ++ es
entries_all w past [] = sym (append-nil past.entries)
entries_all w past (e ∷ es) = entries_all w (then_one w past e) es ∙ append_assoc past.entries (e ∷ []) es

-- the entries of what happened are the history
pub entries_of : (w : Setting) (h : List Entry) → (past_of w h).entries ≡ h
entries_of w h = entries_all w nothing_yet h

-- whether there is an entry of a kind
pub some_of : (w : Setting) (h : List Entry) (f : Entry → Bool) → some_entry (past_of w h) f ≡ list_any f h
some_of w h f = ap (list_any f) (entries_of w h)

-- ---- messages

-- what an entry brings
abbrev more_of : Option Message → List Message
more_of None = []
more_of (Some m) = m ∷ []

with_more : (ms : List Message) (o : Option Message) → with_message ms o ≡ ms ++ more_of o
with_more ms None = sym (append-nil ms)
with_more ms (Some m) = refl

-- the messages of one entry more
messages_on : (w : Setting) (h : List Entry) (e : Entry)
    → (past_of w (h ++ e ∷ [])).messages ≡ (past_of w h).messages ++ more_of (accepted_in w (past_of w h) e)
messages_on w h e =
    ap (λ (p : Past). p.messages) (past_on w h e) ∙ with_more (past_of w h).messages (accepted_in w (past_of w h) e)

-- a message keeps its number
pub message_stays : (w : Setting) (h : List Entry) (e : Entry) (n : ℕ) (m : Message)
    → slice_get (past_of w h).messages n ≡ Some m
    → slice_get (past_of w (h ++ e ∷ [])).messages n ≡ Some m
message_stays w h e n m k =
    subst (λ (ms : List Message). slice_get ms n ≡ Some m) (sym (messages_on w h e))
    (stays_there (past_of w h).messages (more_of (accepted_in w (past_of w h) e)) n m k)

-- a session stays of its service
pub service_stays : (w : Setting) (h : List Entry) (e : Entry) (s d : ℕ) → service_of w (past_of w h) s ≡ Some d
    → service_of w (past_of w (h ++ e ∷ [])) s ≡ Some d
service_stays w h e s d k =
    let singles = take w.limits.sessions (singles_from 0 w.parts.services) in
    let ms = (past_of w h).messages in
    let more = more_of (accepted_in w (past_of w h) e) in
    let longer : births w (past_of w (h ++ e ∷ [])) ≡ births w (past_of w h) ++ filter_map started_by more
    = ap (λ (x : List Message). singles ++ filter_map started_by x) (messages_on w h e)
    ∙ ap (λ (x : List ℕ). singles ++ x) (filter_map-append started_by ms more)
    ∙ sym (append_assoc singles (filter_map started_by ms) (filter_map started_by more)) in
    subst (λ (x : List ℕ). slice_get x s ≡ Some d) (sym longer)
    (stays_there (births w (past_of w h)) (filter_map started_by more) s d k)

-- ---- entries of others, and those before the first call

-- a test that finds calls of session s alone
abbrev pub IsOwn : ℕ → (Entry → Bool) → Type 0
IsOwn s f = (e : Entry) → is_call_of s e ≡ false → f e ≡ false

pub own-ends : (s : ℕ) → IsOwn s (ends s)
own-ends s e h = go e.actor e.act h
  where
    go : (n : ℕ) (c : Act) → is_call_of s (record { actor = n; act = c }) ≡ false → ends s (record { actor = n; act = c }) ≡ false
    go n act.End h = h
    go n c h = refl

and_left : (a b : Bool) → a ≡ false → (a && b) ≡ false
and_left true b h = absurd (false≢true (sym h))
and_left false b h = refl

pub own-takes : (s m : ℕ) → IsOwn s (takes s m)
own-takes s m e h = go e.actor e.act h
  where
    go : (n : ℕ) (c : Act) → is_call_of s (record { actor = n; act = c }) ≡ false
        → takes s m (record { actor = n; act = c }) ≡ false
    go n (act.Take i) h = and_left (nat_eq s n) (nat_eq m i) h
    go n c h = refl

pub own-answers_message : (s m : ℕ) → IsOwn s (answers_message s m)
own-answers_message s m e h = go e.actor e.act h
  where
    go : (n : ℕ) (c : Act) → is_call_of s (record { actor = n; act = c }) ≡ false
        → answers_message s m (record { actor = n; act = c }) ≡ false
    go n (act.Reply i o) h = and_left (nat_eq s n) (nat_eq m i) h
    go n c h = refl

pub own-takes_answer : (s k : ℕ) → IsOwn s (takes_answer s k)
own-takes_answer s k e h = go e.actor e.act h
  where
    go : (n : ℕ) (c : Act) → is_call_of s (record { actor = n; act = c }) ≡ false
        → takes_answer s k (record { actor = n; act = c }) ≡ false
    go n (act.Answer i o) h = and_left (nat_eq s n) (nat_eq k i) h
    go n c h = refl

-- an entry of another is no call of the session
pub foreign-call : (s : ℕ) (e : Entry) → nat_eq s e.actor ≡ false → is_call_of s e ≡ false
foreign-call s e h = go e.actor e.act h
  where
    go : (n : ℕ) (c : Act) → nat_eq s n ≡ false → is_call_of s (record { actor = n; act = c }) ≡ false
    go n (act.Adopt d) h = refl
    go n c h = h

-- a test that finds calls of the session alone finds no more by an entry of another
pub foreign-last : (s : ℕ) (f : Entry → Bool) (h : List Entry) (e : Entry) → IsOwn s f → nat_eq s e.actor ≡ false
    → list_any f (h ++ e ∷ []) ≡ list_any f h
foreign-last s f h e own k =
    any_last f h e ∙ ap (λ b. list_any f h || b) (own e (foreign-call s e k)) ∙ or-false (list_any f h)

-- the calls behind an entry, by whether it is one
abbrev calls_if : Bool → Past → Act → List Called → List Called
calls_if b past call rest = elim b [ true ↦ record { before = past; act = call } ∷ rest | false ↦ rest ]

cons-nil : {c : Called} {cs : List Called} → c ∷ cs ≡ [] → ⊥
cons-nil e = cc

quiet-here : (past : Past) (call : Act) (rest : List Called) (b x y : Bool) → calls_if b past call rest ≡ []
    → (b ≡ false → x ≡ false)
    → (rest ≡ [] → y ≡ false)
    → (x || y) ≡ false
quiet-here past call rest true x y e here later = absurd (cons-nil e)
quiet-here past call rest false x y e here later = or_from x y (here refl) (later e)

-- where a session made no call, no entry is one
quiet-after : (w : Setting) (s : ℕ) (past : Past) (h : List Entry) (f : Entry → Bool) → IsOwn s f
    → calls_after w s past h ≡ []
    → list_any f h ≡ false
quiet-after w s past [] f own e = refl
quiet-after w s past (x ∷ h) f own e =
    quiet-here past x.act (calls_after w s (then_one w past x) h) (is_call_of s x) (f x) (list_any f h) e (own x)
    (quiet-after w s (then_one w past x) h f own)

pub quiet-own : (w : Setting) (s : ℕ) (h : List Entry) (f : Entry → Bool) → IsOwn s f → calls_of w h s ≡ []
    → list_any f h ≡ false
quiet-own w s h f own e = quiet-after w s nothing_yet h f own e
