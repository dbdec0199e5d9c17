-- Entries of workers, one after the other: what they leave of quiet, of stillness and of what sessions agree with.
use Rattle.std.proofs.Common.{◌≡◌, ◌≤◌, ℕ, Bool, true, false, not, List, [], ◌∷◌, ◌++◌, length, Option, None, refl, sym, ap, subst, ◌∙◌, append_assoc}
use Rattle.std.specs.List.{list_all, list_any}
use Rattle.std.proofs.lemmas.Bool.{and_left, and_parts, and_right, false≢true, or_left, or_right}
use Rattle.std.proofs.lemmas.List.{append-nil}
use Rattle.std.proofs.lemmas.List.Folds.{list_any-append}
use Rattle.behaviour_tree.specs.declared.words.Event.{Event}
use Rattle.office_core.specs.declared.history.Act.{Act}
use Rattle.office_core.specs.declared.history.Act.TheVariants as act
use Rattle.office_core.specs.declared.history.Entry.{Entry}
use Rattle.office_core.specs.declared.message.Message.{Message}
use Rattle.office_core.specs.Limits.{Setting, first_worker}
use Rattle.office_core.specs.Past.{Past}
use Rattle.office_core.specs.Accepted.{accepted_in, past_of}
use Rattle.run_record.specs.Agrees.{HasSessions}
use Rattle.run_record.specs.Quiet.{IsQuiet, IsStill, MayBegin, begins_posting, posts, posts_for}
pub use Rattle.run_quiet_laws.specs.Ends.{is_by_worker}
use Rattle.run_quiet_laws.proofs.Aside.{is_aside, leaves}
use Rattle.run_quiet_laws.proofs.Quiet.{quiet_by_answer}
use Rattle.run_quiet_laws.proofs.Sessions.{beside_worker, has_sessions_on}
use Rattle.run_quiet_laws.proofs.Still.{HaveMadeAll, begun_posts, one_posting, still_by_other, still_by_posting, stood_before}

-- ---- quiet

-- collects, fetches and a close of workers leave nothing to do where nothing was left
pub quiet_by_answers : (w : Setting) (budget : ℕ) (h more : List Entry) (ss : List (List Event))
    → length ss ≤ first_worker
    → list_all is_aside more ≡ true → list_all is_by_worker more ≡ true → IsQuiet w budget h ss
    → IsQuiet w budget (h ++ more) ss
quiet_by_answers w budget h [] ss few aside workers q =
    subst (λ (x : List Entry). IsQuiet w budget x ss) (sym (append-nil h)) q
quiet_by_answers w budget h (e ∷ more) ss few aside workers q =
    let a = and_parts (is_aside e) (list_all is_aside more) aside in
    let b = and_parts (is_by_worker e) (list_all is_by_worker more) workers in
    subst (λ (x : List Entry). IsQuiet w budget x ss) (append_assoc h (e ∷ []) more)
    (quiet_by_answers w budget (h ++ e ∷ []) more ss few a.1 b.1
    (quiet_by_answer w budget h e ss (leaves e a.0) (beside_worker ss e few b.0) q))

-- ---- sessions

-- an entry that hands in no message
abbrev pub is_unsent : Entry → Bool
is_unsent e = elim e.act [ act.Post j i q r ↦ false | act.Send k port op v wants r ↦ false | _ ↦ true ]

unsent_accepts : (w : Setting) (past : Past) (e : Entry) → is_unsent e ≡ true → accepted_in w past e ≡ None
unsent_accepts w past e h = go e.actor e.act h
  where
    go : (n : ℕ) (a : Act) → is_unsent (record { actor = n; act = a }) ≡ true
        → ◌≡◌ {A = Option Message} (accepted_in w past (record { actor = n; act = a })) None
    go n (act.Post j i q r) h = absurd (false≢true h)
    go n (act.Send k port op v wants r) h = absurd (false≢true h)
    go n a h = refl

-- entries of workers that hand in no message leave what the sessions agree with
pub has_sessions_after : (w : Setting) (h more : List Entry) (ss : List (List Event)) → length ss ≤ first_worker
    → list_all is_unsent more ≡ true → list_all is_by_worker more ≡ true → HasSessions w h ss
    → HasSessions w (h ++ more) ss
has_sessions_after w h [] ss few unsent workers has =
    subst (λ (x : List Entry). HasSessions w x ss) (sym (append-nil h)) has
has_sessions_after w h (e ∷ more) ss few unsent workers has =
    let a = and_parts (is_unsent e) (list_all is_unsent more) unsent in
    let b = and_parts (is_by_worker e) (list_all is_by_worker more) workers in
    subst (λ (x : List Entry). HasSessions w x ss) (append_assoc h (e ∷ []) more)
    (has_sessions_after w (h ++ e ∷ []) more ss few a.1 b.1
    (has_sessions_on w h e ss (unsent_accepts w (past_of w h) e a.0) (beside_worker ss e few b.0) has))

-- ---- stillness

-- entries that are no posts
pub still_by_others : (w : Setting) (budget : ℕ) (h more : List Entry) (ss : List (List Event))
    → list_any posts more ≡ false
    → IsStill w budget h ss → IsStill w budget (h ++ more) ss
still_by_others w budget h more ss other still j before later e p begins =
    let r = stood_before posts h more before later e p other (begun_posts j before e begins) in
    still j before r.0 e r.1 begins

-- a post of a posting of which there is one begins none
pub same_posting : (actor j k : ℕ) (before : List Entry) (e : Entry) → list_any (posts_for actor j) before ≡ true
    → posts_for actor j e ≡ true → begins_posting k before e ≡ false
same_posting actor j k before e there is = go (posts_for e.actor k e) refl
  where
    go : (b : Bool) → posts_for e.actor k e ≡ b → begins_posting k before e ≡ false
    go false other = and_left (posts_for e.actor k e) (not (list_any (posts_for e.actor k) before)) other
    go true this =
        let same = one_posting actor e.actor j k e is this in
        and_right (posts_for e.actor k e) (not (list_any (posts_for e.actor k) before))
        (ap not ((λ i. list_any (posts_for (sym same.0 i) (sym same.1 i)) before) ∙ there))

-- the posts behind the first of their posting
still_by_same : (w : Setting) (budget actor j : ℕ) (h more : List Entry) (ss : List (List Event))
    → list_any (posts_for actor j) h ≡ true → list_all (posts_for actor j) more ≡ true → IsStill w budget h ss
    → IsStill w budget (h ++ more) ss
still_by_same w budget actor j h [] ss there all still =
    subst (λ (x : List Entry). IsStill w budget x ss) (sym (append-nil h)) still
still_by_same w budget actor j h (e ∷ more) ss there all still =
    let a = and_parts (posts_for actor j e) (list_all (posts_for actor j) more) all in
    subst (λ (x : List Entry). IsStill w budget x ss) (append_assoc h (e ∷ []) more)
    (still_by_same w budget actor j (h ++ e ∷ []) more ss
    (list_any-append (posts_for actor j) h (e ∷ [])
    ∙ or_left (list_any (posts_for actor j) h) (list_any (posts_for actor j) (e ∷ [])) there)
    a.1
    (still_by_other w budget h e ss (λ k. same_posting actor j k h e there a.0) still))

-- the posts of a posting that may begin
pub still_by_posts : (w : Setting) (budget actor j : ℕ) (h more : List Entry) (ss : List (List Event))
    → list_all (posts_for actor j) more ≡ true → MayBegin w budget j h ss → HaveMadeAll w h ss → IsStill w budget h ss
    → IsStill w budget (h ++ more) ss
still_by_posts w budget actor j h [] ss all may made still =
    subst (λ (x : List Entry). IsStill w budget x ss) (sym (append-nil h)) still
still_by_posts w budget actor j h (e ∷ more) ss all may made still =
    let a = and_parts (posts_for actor j e) (list_all (posts_for actor j) more) all in
    subst (λ (x : List Entry). IsStill w budget x ss) (append_assoc h (e ∷ []) more)
    (still_by_same w budget actor j (h ++ e ∷ []) more ss
    (list_any-append (posts_for actor j) h (e ∷ [])
    ∙ or_right (list_any (posts_for actor j) h) (list_any (posts_for actor j) (e ∷ []))
    (or_left (posts_for actor j e) false a.0))
    a.1
    (still_by_posting w budget actor j h e ss a.0 may made still))
