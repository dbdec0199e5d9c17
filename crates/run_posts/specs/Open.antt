-- These definitions serve the proofs alone: no promise speaks of them.
-- What holds of a run between two calls, as far as its postings go: what was posted, what waits, and what was told.
use Rattle.std.specs.Prelude.{◌≡◌, ℕ, suc, Bool, true, false, List, [], ◌∷◌, map, length, nat_eq, nat_lt}
use Rattle.std.specs.Prelude.{Option, None, Some, is_some, slice_get}
use Rattle.std.specs.List.{filter_map, list_all, list_any}
use Rattle.office_core.specs.declared.front.CallIn.{CallIn}
use Rattle.office_core.specs.declared.front.CallIn.TheVariants as call
use Rattle.office_core.specs.declared.front.Posting.{Posting}
use Rattle.office_core.specs.declared.history.Entry.{Entry}
use Rattle.office_core.specs.declared.post.Posted.{Posted}
use Rattle.office_core.specs.declared.post.PostReply.TheVariants as answer
use Rattle.office_core.specs.Limits.{Setting, first_worker}
use Rattle.office_core.specs.Past.{Past}
use Rattle.office_core.specs.Keys.{first}
use Rattle.office_core.specs.Accepted.{past_of}
use Rattle.office_core.specs.Answers.{answers}
use Rattle.run_theorem.specs.Exchange.{Told}
use Rattle.run_record.specs.Order.{messages_for}
use Rattle.run_record.specs.Postings.{outcome_of, told}
use Rattle.run_order_laws.specs.Uncollected.{AreUncollected}
use Rattle.run_order_laws.specs.Posting.{ArePosted, reply_of}
use Rattle.run_order_laws.specs.Ordering.{InOrder}
use Rattle.run_posts.specs.declared.pending.CallState.{CallState}
use Rattle.run_posts.specs.declared.pending.CallState.TheVariants.{Message, Known}
use Rattle.run_posts.specs.CallStates.{Wait, messages_of}

-- ---- what a call state is

-- Call i of posting j is a post that was accepted as message n.
pub record IsPostedAs (past : Past) (ji : ℕ × ℕ) (c : CallIn) (n : ℕ) : Type 0 where
  pub posted : Posted
  pub is : c ≡ call.Post posted
  pub reply : reply_of past first_worker ji.0 ji.1 ≡ Some (answer.Accepted n)

-- a message has an answer, where there is a message
abbrev pub answered_if : Setting → Past → Option ℕ → Bool
answered_if w past None = true
answered_if w past (Some n) = is_some (first (answers w past n))

-- a call and the number of its message, where it was accepted
pub record Numbered : Type 0 where
  pub made : CallIn
  pub number : Option ℕ

-- what became of call i of posting j: what is known is its outcome; what is not known is its message
abbrev pub IsCallState : Setting → Past → ℕ × ℕ → Numbered → CallState → Type 0
IsCallState w past ji c (Known o) =
    (outcome_of w past first_worker ji c.made ≡ Some o) × (answered_if w past c.number ≡ true)
IsCallState w past ji c (Message n) = (c.number ≡ Some n) × IsPostedAs past ji c.made n

-- the same of all calls, the first of which has the number i
abbrev pub AreCallStates : Setting → Past → ℕ × ℕ → List Numbered → List CallState → Type 0
AreCallStates w past ji [] [] = Unit {0}
AreCallStates w past ji [] (f ∷ fs) = ⊥
AreCallStates w past ji (c ∷ cs) [] = ⊥
AreCallStates w past ji (c ∷ cs) (f ∷ fs) = IsCallState w past ji c f × AreCallStates w past (ji.0, suc ji.1) cs fs

-- the calls
abbrev pub calls_of : List Numbered → List CallIn
calls_of cs = map (λ (c : Numbered). c.made) cs

-- the numbers of the messages
abbrev pub numbers_of : List Numbered → List ℕ
numbers_of cs = filter_map (λ (c : Numbered). c.number) cs

-- ---- what is open

-- A posting waits: it was given, this became of its calls, and its accepted messages are those of them.
pub record IsWaiting (w : Setting) (past : Past) (all : List Posting) (x : Wait) : Type 0 where
  pub posting : Posting
  pub given : slice_get all x.place ≡ Some posting
  pub calls : List Numbered
  pub are : calls_of calls ≡ posting.calls
  pub call_states : AreCallStates w past (x.place, 0) calls x.call_states
  pub messages : messages_for past first_worker x.place ≡ numbers_of calls

-- each of these postings waits
abbrev pub AreWaiting : Setting → Past → List Posting → List Wait → Type 0
AreWaiting w past all [] = Unit {0}
AreWaiting w past all (x ∷ xs) = IsWaiting w past all x × AreWaiting w past all xs

-- what was told of a place is what the calls of its posting came to
abbrev pub IsTold : Setting → Past → List Posting → Told → Type 0
IsTold w past all t =
    (p : Posting) × (slice_get all t.place ≡ Some p) × (told w past first_worker t.place p ≡ Some t.outcomes)

-- each of these was told so
abbrev pub AreTold : Setting → Past → List Posting → List Told → Type 0
AreTold w past all [] = Unit {0}
AreTold w past all (t ∷ ts) = IsTold w past all t × AreTold w past all ts

-- these numbers stand there once, and not among the others
abbrev pub AreApart : List ℕ → List ℕ → Type 0
AreApart [] ts = Unit {0}
AreApart (n ∷ ns) ts = (list_any (nat_eq n) ns ≡ false) × (list_any (nat_eq n) ts ≡ false) × AreApart ns ts

-- the numbers of postings that wait
abbrev pub places : List Wait → List ℕ
places xs = map (λ (x : Wait). x.place) xs

-- the numbers of postings that were told
abbrev pub told_places : List Told → List ℕ
told_places ts = map (λ (t : Told). t.place) ts

-- Of the postings that were given all that was posted is there; those that wait and what was told are theirs.
pub record IsOpen (w : Setting) (h : List Entry) (all : List Posting) (ts : List Told) (xs : List Wait) : Type 0 where
  pub posted : ArePosted h all
  pub waiting : AreWaiting w (past_of w h) all xs
  pub uncollected : AreUncollected (past_of w h) (messages_of xs)
  pub told : AreTold w (past_of w h) all ts
  pub apart : AreApart (places xs) (told_places ts)
  pub low : list_all (λ n. nat_lt n (length all)) (places xs) ≡ true
  pub low_told : list_all (λ n. nat_lt n (length all)) (told_places ts) ≡ true

-- Those that were told and those that wait, between two postings.
abbrev pub StandsInOrder : Setting → List Entry → ℕ → List Told → List Wait → Type 0
StandsInOrder w h count ts xs = InOrder w h count (told_places ts) (places xs)
