-- An entry of another leaves what a session may ask.
use Rattle.std.proofs.Common.{if◌then◌else◌, ◌≡◌, ℕ, Bool, true, false, not, ◌&&◌, ◌||◌, List, [], ◌∷◌, ◌++◌, Option, None, Some, length, nat_eq, is_some, option_and_then, refl, sym, ap, subst, ◌∙◌, append_assoc, slice_get}
use Rattle.std.specs.List.{filter, filter_map, list_any}
use Rattle.std.proofs.Math.Bool.{or-false}
use Rattle.std.proofs.lemmas.Bool.{false≢true}
use Rattle.std.proofs.lemmas.List.{append-nil}
use Rattle.std.proofs.lemmas.List.Elements.{filter-append, filter_map-append}
use Rattle.behaviour_tree.specs.declared.words.Need.{Need}
use Rattle.behaviour_tree.specs.declared.words.Need.TheVariants as need
use Rattle.office_core.specs.declared.history.Act.{Act}
use Rattle.office_core.specs.declared.history.Act.TheVariants as act
use Rattle.office_core.specs.declared.history.Entry.{Entry}
use Rattle.office_core.specs.declared.message.Call.{Call}
use Rattle.office_core.specs.declared.message.Message.{Message}
use Rattle.office_core.specs.Limits.{Setting}
use Rattle.office_core.specs.Past.{some_entry}
use Rattle.office_core.specs.Sessions.{adopts, ends, service_of}
use Rattle.office_core.specs.Boxes.{takes}
use Rattle.office_core.specs.Keys.{first}
use Rattle.office_core.specs.Accepted.{past_of}
use Rattle.office_core.specs.Bound.{sets_with}
use Rattle.office_core.specs.Calls.{calls, is_call, sent_in}
use Rattle.office_core.specs.Legal.{takes_answer}
use Rattle.session_turn.specs.Asking.{answers_message, has_response, is_at_work, is_request_to, may_call, meets}
use Rattle.session_turn.specs.Seen.{AreForeign, Seat, past_at}
use Rattle.session_turn.proofs.Histories.{any_last, entries_of, foreign-call, message_stays, own-answers_message, own-ends, own-takes, own-takes_answer, service_stays, some_of}

-- ---- truths

and_left : (a b : Bool) → a ≡ false → (a && b) ≡ false
and_left true b h = absurd (false≢true (sym h))
and_left false b h = refl

left : (a b : Bool) → (a && b) ≡ true → a ≡ true
left true b h = refl
left false b h = h

right : (a b : Bool) → (a && b) ≡ true → b ≡ true
right true b h = h
right false b h = absurd (false≢true h)

both : (a b : Bool) → a ≡ true → b ≡ true → (a && b) ≡ true
both a b g h = ap (λ x. x && b) g ∙ h

-- a question that is answered yes of something alone, and of what there is still
up : {A : Type 0} (f : Option A → Bool) → f None ≡ false → (x y : Option A) → ((a : A) → x ≡ Some a → y ≡ Some a)
    → f x ≡ true → f y ≡ true
up f never None y stays h = absurd (false≢true (sym never ∙ h))
up f never (Some a) y stays h = ap f (stays a refl) ∙ h

-- ---- entries of one session alone

-- a test that finds entries of session s alone
abbrev IsMine : ℕ → (Entry → Bool) → Type 0
IsMine s f = (e : Entry) → nat_eq s e.actor ≡ false → f e ≡ false

adopts_mine : (s : ℕ) → IsMine s (adopts s)
adopts_mine s e h = go e.actor e.act h
  where
    go : (n : ℕ) (c : Act) → nat_eq s n ≡ false → adopts s (record { actor = n; act = c }) ≡ false
    go n (act.Adopt d) h = h
    go n c h = refl

-- whether a message is a request, by the service of the session that took it
abbrev asked_by : Setting → Message → Option ℕ → Bool
asked_by w m o = elim o [ None ↦ false | Some d ↦ has_response w d m.op ]

-- the same of what is there under a number
abbrev asked_at : Setting → Option ℕ → Option Message → Bool
asked_at w o g = elim g [ None ↦ false | Some m ↦ asked_by w m o ]

module _ (w : Setting) (s : ℕ) (h : List Entry) (e : Entry) (foreign : nat_eq s e.actor ≡ false) where
  some_on : (f : Entry → Bool) → IsMine s f → some_entry (past_of w (h ++ e ∷ [])) f ≡ some_entry (past_of w h) f
  some_on f mine =
      some_of w (h ++ e ∷ []) f
      ∙ (any_last f h e ∙ (ap (λ b. list_any f h || b) (mine e foreign) ∙ or-false (list_any f h)))
      ∙ sym (some_of w h f)

  at_work_on : is_at_work (past_of w (h ++ e ∷ [])) s ≡ is_at_work (past_of w h) s
  at_work_on =
      λ i. some_on (adopts s) (adopts_mine s) i && not (some_on (ends s) (λ x k. own-ends s x (foreign-call s x k)) i)

  -- no call of the session
  unsent : (p : Call → Bool) → ((c : Call) → nat_eq s c.session ≡ false → p c ≡ false)
      → filter p (filter_map sent_in (e ∷ [])) ≡ []
  unsent p own = go e.actor e.act foreign
    where
      go : (n : ℕ) (c : Act) → nat_eq s n ≡ false
          → filter p (filter_map sent_in (record { actor = n; act = c } ∷ [])) ≡ []
      go n (act.Send k port op v wants r) g =
          ap (λ (b : Bool). if b
          then record { session = n; number = k; port = port; op = op; value = v; wants = wants; placed = r } ∷ []
          else [])
          (own (record { session = n; number = k; port = port; op = op; value = v; wants = wants; placed = r }) g)
      go n c g = refl

  calls_on : (p : Call → Bool) → ((c : Call) → nat_eq s c.session ≡ false → p c ≡ false)
      → filter p (calls (past_of w (h ++ e ∷ []))) ≡ filter p (calls (past_of w h))
  calls_on p own =
      ap (λ es. filter p (filter_map sent_in es)) (entries_of w (h ++ e ∷ []))
      ∙ (ap (filter p) (filter_map-append sent_in h (e ∷ []))
      ∙ (filter-append p (filter_map sent_in h) (filter_map sent_in (e ∷ []))
      ∙ (ap (λ cs. filter p (filter_map sent_in h) ++ cs) (unsent p own)
      ∙ append-nil (filter p (filter_map sent_in h)))))
      ∙ sym (ap (λ es. filter p (filter_map sent_in es)) (entries_of w h))

  -- what is there stays there, and so does the session's service
  request_on : (n : ℕ) → is_request_to w (past_of w h) s n ≡ true
      → is_request_to w (past_of w (h ++ e ∷ [])) s n ≡ true
  request_on n k =
      up (asked_at w (service_of w (past_of w (h ++ e ∷ [])) s)) refl (slice_get (past_of w h).messages n)
      (slice_get (past_of w (h ++ e ∷ [])).messages n) (λ m g. message_stays w h e n m g)
      (by (slice_get (past_of w h).messages n) k)
    where
      by : (m : Option Message) → asked_at w (service_of w (past_of w h) s) m ≡ true
          → asked_at w (service_of w (past_of w (h ++ e ∷ [])) s) m ≡ true
      by None g = g
      by (Some x) g =
          up (asked_by w x) refl (service_of w (past_of w h) s) (service_of w (past_of w (h ++ e ∷ [])) s)
          (λ d j. service_stays w h e s d j) g

  meets_on : (n : Need) → meets w (past_of w h) s n ≡ true → meets w (past_of w (h ++ e ∷ [])) s n ≡ true
  meets_on (need.Answer k) g =
      (λ i. not (some_on (takes_answer s k) (λ x j. own-takes_answer s k x (foreign-call s x j)) i)
      && elim (first (calls_on (is_call s k) (λ c j. and_left (nat_eq s c.session) (nat_eq k c.number) j) i))
      [ None ↦ false | Some c ↦ c.wants ])
      ∙ g
  meets_on (need.Bind v x) g =
      up (λ (o : Option ℕ). is_some (option_and_then (λ d. first (sets_with w d v)) o)) refl
      (service_of w (past_of w h) s) (service_of w (past_of w (h ++ e ∷ [])) s) (λ d j. service_stays w h e s d j) g
  meets_on (need.Reply n o) g =
      let past = past_of w h in
      let a = some_entry past (takes s n) in
      let b = not (some_entry past (answers_message s n)) in
      both _ _
      (both _ _
      (some_on (takes s n) (λ x j. own-takes s n x (foreign-call s x j)) ∙ left a b
      (left (a && b) (is_request_to w past s n) g))
      (ap not (some_on (answers_message s n) (λ x j. own-answers_message s n x (foreign-call s x j)))
      ∙ right a b (left (a && b) (is_request_to w past s n) g)))
      (request_on n (right (a && b) (is_request_to w past s n) g))
  meets_on (need.Send k port op v wants) g =
      ap (λ (cs : List Call). nat_eq k (length cs)) (calls_on (λ c. nat_eq s c.session) (λ c j. j)) ∙ g
  meets_on (need.Take ops) g = g
  meets_on need.Finish g = g
  meets_on need.Nothing g = g

-- ---- entries of others

pub may_still : (a : Seat) (h more : List Entry) (n : Need) → AreForeign a.session more → may_call a h n ≡ true
    → may_call a (h ++ more) n ≡ true
may_still a h [] n f may = subst (λ l. may_call a l n ≡ true) (sym (append-nil h)) may
may_still a h (e ∷ more) n f may =
    subst (λ l. may_call a l n ≡ true) (append_assoc h (e ∷ []) more)
    (may_still a (h ++ e ∷ []) more n f.1
    (both _ _
    (at_work_on a.setting a.session h e f.0 ∙ left (is_at_work (past_at a h) a.session)
    (meets a.setting (past_at a h) a.session n) may)
    (meets_on a.setting a.session h e f.0 n
    (right (is_at_work (past_at a h) a.session) (meets a.setting (past_at a h) a.session n) may))))
