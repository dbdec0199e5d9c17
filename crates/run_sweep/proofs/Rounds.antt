-- What a round of a sweep does: the sessions have their turns, and then calls go out and come back.
use Rattle.std.proofs.Common.{if◌then◌else◌, ◌≡◌, ◌<◌, ◌+◌, ◌-◌, ◌*◌, ℕ, Bool, true, false, not, ◌&&◌, ◌||◌}
use Rattle.outside_links.specs.Trips.{LinkTold}
use Rattle.std.proofs.Common.{List, [], ◌∷◌}
use Rattle.std.proofs.Common.{◌++◌, length, refl, sym, ap, subst, ◌∙◌, true≢false, append_assoc}
use Rattle.std.proofs.Common.{append-nil, nat_eq}
use Rattle.std.specs.List.{list_all, list_any}
use Rattle.std.proofs.lemmas.List.Folds.{list_all-append}
use Rattle.office_core.specs.declared.history.Act.{Act}
use Rattle.office_core.specs.declared.history.Act.TheVariants as act
use Rattle.office_core.specs.declared.history.Entry.{Entry}
use Rattle.office_core.specs.declared.outgoing.OutKind.{OutKind}
use Rattle.office_core.specs.declared.outgoing.OutKind.TheVariants as kind
use Rattle.office_core.specs.Limits.{first_worker}
use Rattle.office_core.specs.Accepted.{past_of}
use Rattle.office_core.specs.Calls.{outgoing}
use Rattle.office_core.specs.Legal.{IsLegal}
use Rattle.office_plain.specs.Entries.{entry}
use Rattle.office_plain.proofs.Acting.{left as left_of, right as right_of}
use Rattle.run_theorem.specs.Exchange.{Exchange}
use Rattle.run_record.specs.Quiet.{IsQuiet, IsStill, posts, outstanding}
use Rattle.run_quiet_laws.proofs.Workers.{still_by_others}
use Rattle.run_cells.specs.RunStates.{State, Stays, Team, events_of, past_in}
use Rattle.run_cells.specs.Rounds.{Went, IsQuietAt, IsStillAt, is_by_session, is_adoption, left, events_left}
use Rattle.run_cells.proofs.Resting.{rests_quiet}
use Rattle.run_trip_laws.specs.Going.{is_inward, is_silent, AreSettled, NotedSoFar, Completed}
use Rattle.run_trip_laws.proofs.Settling.{settled_over, noted_over, none_over, none_outstanding, quiet_none}
use Rattle.run_trip_laws.proofs.Completing.{completed_over}
use Rattle.run_sweep.specs.Courses.{Goes, stays, round, adopts, works, is_by_worker}
use Rattle.run_sweep.specs.declared.sweeping.Round.{Round}
use Rattle.run_sweep.specs.declared.sweeping.Round.TheVariants as end
use Rattle.run_sweep.specs.Swept.{is_errand, is_swept, NotesBy, CompletedCallsBy, Errands, Cleared, Swept, StaysQuiet}
use Rattle.run_sweep.proofs.Notes.{notes_on}

-- ---- entries

weaker : (p q : Entry → Bool) (es : List Entry) → ((e : Entry) → p e ≡ true → q e ≡ true) → list_all p es ≡ true
    → list_all q es ≡ true
weaker p q [] imply h = refl
weaker p q (e ∷ es) imply h =
    λ i. imply e (left_of (p e) (list_all p es) h) i && weaker p q es imply (right_of (p e) (list_all p es) h) i

or_left : (a b : Bool) → a ≡ true → (a || b) ≡ true
or_left true b h = refl
or_left false b h = absurd (true≢false (sym h))

or_right : (a b : Bool) → b ≡ true → (a || b) ≡ true
or_right true b h = refl
or_right false b h = h

both_all : (p : Entry → Bool) (xs ys : List Entry) → list_all p xs ≡ true → list_all p ys ≡ true
    → list_all p (xs ++ ys) ≡ true
both_all p xs ys f g = list_all-append p xs ys ∙ (λ i. f i && g i)

adopting_silent : (actor : ℕ) (a : Act) → is_adoption (entry actor a) ≡ true → is_silent (entry actor a) ≡ true
adopting_silent actor (act.Adopt d) h = refl
adopting_silent actor a h = absurd (true≢false (sym h))

-- ---- states

-- nothing is left to do in a state that is the same but for the picks
pub quiet_same : (s t : State) → t.setting ≡ s.setting → t.budget ≡ s.budget → t.history ≡ s.history
    → t.stands ≡ s.stands
    → IsQuietAt s → IsQuietAt t
quiet_same s t w b h e q = coe 1 0 (i. IsQuiet (w i) (b i) (h i) (events_of (e i))) q

left_same : (s t : State) → t.budget ≡ s.budget → t.stands ≡ s.stands → left t ≡ left s
left_same s t b e = λ i. (first_worker - length (e i)) * b i + events_left (b i) (e i)

not_post : (actor : ℕ) (a : Act) → is_errand (entry actor a) ≡ true → posts (entry actor a) ≡ false
not_post actor (act.Post j i q r) h = absurd (true≢false (sym (right_of (nat_eq first_worker actor) false h)))
not_post actor a h = refl

no_posts : (es : List Entry) → list_all is_errand es ≡ true → list_any posts es ≡ false
no_posts [] h = refl
no_posts (e ∷ es) h =
    λ i. not_post e.actor e.act (left_of (is_errand e) (list_all is_errand es) h) i
    || no_posts es (right_of (is_errand e) (list_all is_errand es) h) i

-- errands leave it so that nothing was left to do before each posting
still_errands : (b c : State) (more : List Entry) → Stays b c more → list_all is_errand more ≡ true → IsStillAt b
    → IsStillAt c
still_errands b c more s each z =
    coe 1 0 (i. IsStill (s.setting i) (s.budget i) (s.history i) (events_of (s.stands i)))
    (still_by_others b.setting b.budget b.history more (events_of b.stands) (no_posts more each) z)

-- ---- how a run goes on

-- first so, and then so
pub goes_on : {a b c : State} → Goes a b → Goes b c → Goes a c
goes_on x stays = x
goes_on x (round mid new moved y t b r) = round mid new moved (goes_on x y) t b r
goes_on x (adopts mid new y r) = adopts mid new (goes_on x y) r
goes_on x (works mid new more y s e) = works mid new more (goes_on x y) s e

-- ---- what is swept

-- nothing yet
pub swept_none : (s : State) → AreSettled s.setting s.history → Swept s s
swept_none s settled =
    record {
      setting = refl;
      budget = refl;
      more = [];
      history = sym (append-nil s.history);
      each = refl;
      settled = settled;
      still = λ x. x;
      goes = stays;
    }

-- one sweep after the other
pub swept_on : (a b c : State) → Swept a b → Swept b c → Swept a c
swept_on a b c x y =
    record {
      setting = y.setting ∙ x.setting;
      budget = y.budget ∙ x.budget;
      more = x.more ++ y.more;
      history = y.history ∙ ap (λ h. h ++ y.more) x.history ∙ append_assoc a.history x.more y.more;
      each = both_all is_swept x.more y.more x.each y.each;
      settled = subst (λ w. AreSettled w c.history) x.setting y.settled;
      still = λ z. y.still (x.still z);
      goes = goes_on x.goes y.goes;
    }

-- errands belong to a sweep
pub swept_errands : (a b c : State) (k : OutKind) (moved : Bool) → Swept a b → Errands a.setting k b c moved → Swept a c
swept_errands a b c k moved x y =
    record {
      setting = y.stays.setting ∙ x.setting;
      budget = y.stays.budget ∙ x.budget;
      more = x.more ++ y.more;
      history = y.stays.history ∙ ap (λ h. h ++ y.more) x.history ∙ append_assoc a.history x.more y.more;
      each = both_all is_swept x.more y.more x.each
          (weaker is_errand is_swept y.more (λ e. or_right (is_by_session e) (is_errand e)) y.each);
      settled = y.settled;
      still = λ z. still_errands b c y.more y.stays y.each (x.still z);
      goes = works b c y.more x.goes y.stays
          (weaker is_errand is_by_worker y.more
          (λ e. left_of (nat_eq first_worker e.actor) (not (is_inward e))) y.each);
    }

-- ---- the turns of the sessions

-- The sessions had their turns, where each call had its outcome.
pub record Turns (old one : State) (turned : Bool) : Type 0 where
  pub went : Went old one turned
  pub team : Team one
  pub settled : AreSettled old.setting old.history
  pub start : outstanding (past_in old) ≡ []

pub legal_then : {old one : State} {turned : Bool} → Turns old one turned → IsLegal old.setting one.history
legal_then {old} {one} {turned} x = subst (λ w. IsLegal w one.history) x.went.setting x.team.legal

legal_more : {old one : State} {turned : Bool} (x : Turns old one turned)
    → IsLegal old.setting (old.history ++ x.went.more)
legal_more {old} {one} {turned} x = subst (IsLegal old.setting) x.went.history (legal_then x)

pub settled_then : {old one : State} {turned : Bool} → Turns old one turned → AreSettled old.setting one.history
settled_then {old} {one} {turned} x =
    subst (AreSettled old.setting) (sym x.went.history)
    (settled_over old.setting old.history x.went.more (legal_more x) x.went.sessions x.settled)

-- sessions note nothing themselves
pub noted_then : {old one : State} {turned : Bool} (x : Turns old one turned) (noted : List ℕ)
    → NotedSoFar old.setting old.history noted → NotedSoFar old.setting one.history noted
noted_then {old} {one} {turned} x noted so =
    subst (λ h. NotedSoFar old.setting h noted) (sym x.went.history)
    (noted_over old.setting noted old.history x.went.more (legal_more x) x.went.sessions so)

-- and make no trip
pub completed_then : {old one : State} {turned : Bool} (x : Turns old one turned) (now : LinkTold)
    → CompletedCallsBy old.setting old.history one.history now now
completed_then {old} {one} {turned} x now first t =
    subst (λ h. Completed old.setting h first now) (sym x.went.history)
    (completed_over old.setting first now old.history x.went.more (legal_more x) x.went.sessions t)

pub swept_then : {old one : State} {turned : Bool} → Team old → Turns old one turned → Swept old one
swept_then {old} {one} {turned} team x =
    record {
      setting = x.went.setting;
      budget = x.went.budget;
      more = x.went.more;
      history = x.went.history;
      each = weaker is_by_session is_swept x.went.more (λ e. or_left (is_by_session e) (is_errand e)) x.went.sessions;
      settled = settled_then x;
      still = x.went.still;
      goes = round old one turned stays team x.start x.went.round;
    }

-- where no session did something, no call waits
none_then : {old one : State} {turned : Bool} (x : Turns old one turned) (k : OutKind) → turned ≡ false
    → outgoing old.setting (past_of old.setting one.history) k ≡ []
none_then {old} {one} {turned} x k off =
    let a = x.went.idle off in
    ap (λ h. outgoing old.setting (past_of old.setting h) k) a.is
    ∙ none_over old.setting k old.history a.adoptions
    (weaker is_adoption is_silent a.adoptions (λ e. adopting_silent e.actor e.act) a.only)
    (subst (IsLegal old.setting) a.is (legal_then x))
    (quiet_none old.setting old.history k x.settled x.start)

-- ---- and the errands

not_on : (b : Bool) → (b ≡ true → ⊥) → b ≡ false
not_on true h = absurd (h refl)
not_on false h = refl

-- A round: turns, calls to the console, calls to services elsewhere.
pub record WholeRound (old one two three : State) (turned noted travelled : Bool) : Type 0 where
  pub turns : Turns old one turned
  pub consoles : Cleared old.setting kind.Console one two noted
  pub remotes : Cleared old.setting kind.Remote two three travelled

-- where no session did something, nothing was noted
noted_not : {old one two : State} {turned noted : Bool} → Turns old one turned
    → Cleared old.setting kind.Console one two noted
    → turned ≡ false → noted ≡ false
noted_not {old} {one} {two} {turned} {noted} x c off =
    not_on noted (λ on. c.errands.some on (none_then x kind.Console off))

-- and no trip was made
travelled_not : {old one two three : State} {turned noted travelled : Bool}
    → WholeRound old one two three turned noted travelled
    → turned ≡ false → travelled ≡ false
travelled_not {old} {one} {two} {three} {turned} {noted} {travelled} r off =
    not_on travelled
    (λ on. r.remotes.errands.some on
    (ap (λ h. outgoing old.setting (past_of old.setting h) kind.Remote)
    (r.consoles.errands.unmoved (noted_not r.turns r.consoles off))
    ∙ none_then r.turns kind.Remote off))

-- at the end of a round each call has its outcome
received_by : {old one two three : State} {turned noted travelled : Bool}
    → WholeRound old one two three turned noted travelled
    → outstanding (past_of old.setting three.history) ≡ []
received_by {old} {one} {two} {three} {turned} {noted} {travelled} r =
    none_outstanding old.setting three.history r.remotes.errands.settled
    (r.remotes.errands.others kind.Console refl ∙ r.consoles.none)
    r.remotes.none

setting_then : {old one two three : State} {turned noted travelled : Bool}
    → WholeRound old one two three turned noted travelled
    → three.setting ≡ old.setting
setting_then r = r.remotes.errands.stays.setting ∙ r.consoles.errands.stays.setting ∙ r.turns.went.setting

pub round_received : {old one two three : State} {turned noted travelled : Bool}
    → WholeRound old one two three turned noted travelled
    → outstanding (past_in three) ≡ []
round_received {old} {one} {two} {three} {turned} {noted} {travelled} r =
    ap (λ w. outstanding (past_of w three.history)) (setting_then r) ∙ received_by r

left_then : {old one two three : State} {turned noted travelled : Bool}
    → WholeRound old one two three turned noted travelled
    → left three ≡ left one
left_then {old} {one} {two} {three} {turned} {noted} {travelled} r =
    left_same one three
    (r.remotes.errands.stays.budget ∙ r.consoles.errands.stays.budget)
    (r.remotes.errands.stays.stands ∙ r.consoles.errands.stays.stands)

-- a round that did something leaves fewer events to come
pub round_less : {old one two three : State} {turned noted travelled : Bool}
    → WholeRound old one two three turned noted travelled
    → (turned || noted || travelled) ≡ true → left three < left old
round_less {old} {one} {two} {three} {turned} {noted} {travelled} r on =
    subst (λ n. n < left old) (sym (left_then r)) (r.turns.went.less (by turned refl))
  where
    by : (b : Bool) → turned ≡ b → turned ≡ true
    by true e = e
    by false e =
        absurd (true≢false
        (sym on ∙ (λ i. e i || noted_not r.turns r.consoles e i || travelled_not r e i)))

-- one that did nothing leaves nothing to do
pub round_quiet : {old one two three : State} {turned noted travelled : Bool}
    → WholeRound old one two three turned noted travelled
    → (turned || noted || travelled) ≡ false → IsQuietAt three
round_quiet {old} {one} {two} {three} {turned} {noted} {travelled} r off =
    quiet_same one three
    (r.remotes.errands.stays.setting ∙ r.consoles.errands.stays.setting)
    (r.remotes.errands.stays.budget ∙ r.consoles.errands.stays.budget)
    same
    (r.remotes.errands.stays.stands ∙ r.consoles.errands.stays.stands)
    (rests_quiet one r.turns.team (r.turns.went.rest still) none)
  where
    off_left : (a b : Bool) → (a || b) ≡ false → a ≡ false
    off_left true b h = h
    off_left false b h = refl

    still : turned ≡ false
    still = off_left turned noted (off_left (turned || noted) travelled off)

    same : three.history ≡ one.history
    same = r.remotes.errands.unmoved (travelled_not r still)
        ∙ r.consoles.errands.unmoved (noted_not r.turns r.consoles still)

    none : outstanding (past_in one) ≡ []
    none =
        (λ i. outstanding (past_of (r.turns.went.setting i) (sym same i)))
        ∙ received_by r

-- a round where nothing was left to do does nothing
pub half_still : {old one two : State} {turned noted : Bool} → Turns old one turned
    → Cleared old.setting kind.Console one two noted
    → StaysQuiet old two
half_still {old} {one} {two} {turned} {noted} x c q =
    let y = x.went.quiet q in
    (c.errands.unmoved (noted_not x c y.0) ∙ y.1, c.errands.stays.stands ∙ y.2)

pub round_still : {old one two three : State} {turned noted travelled : Bool}
    → WholeRound old one two three turned noted travelled
    → IsQuietAt old → ((turned || noted || travelled) ≡ false) × StaysQuiet old three
round_still {old} {one} {two} {three} {turned} {noted} {travelled} r q =
    let y = r.turns.went.quiet q in (
      (λ i. y.0 i || noted_not r.turns r.consoles (y.0) i || travelled_not r (y.0) i),
      λ p. (
        r.remotes.errands.unmoved (travelled_not r y.0) ∙ (half_still r.turns r.consoles p).0,
        r.remotes.errands.stays.stands ∙ (half_still r.turns r.consoles p).1,
      ),
    )

-- ---- a round as the calls of sessions tell it

turns_of : {old one : State} {turned : Bool} → Went old one turned → Team one → AreSettled old.setting old.history
    → outstanding (past_in old) ≡ [] → Turns old one turned
turns_of went team settled start = record { went = went; team = team; settled = settled; start = start }

-- all is settled behind the turns
pub settled_one : {old one : State} {turned : Bool} → Went old one turned → Team one
    → AreSettled old.setting old.history
    → outstanding (past_in old) ≡ [] → AreSettled one.setting one.history
settled_one {old} {one} {turned} went team settled start =
    subst (λ w. AreSettled w one.history) (sym went.setting) (settled_then (turns_of went team settled start))

-- and behind the calls to the console
pub settled_two : {old two : State} {k : OutKind} {moved : Bool} → Cleared old.setting k old two moved
    → AreSettled two.setting two.history
settled_two {old} {two} {k} {moved} c =
    subst (λ w. AreSettled w two.history) (sym c.errands.stays.setting) c.errands.settled

-- the turns and the calls to the console
pub half_of : {old one two : State} {turned noted : Bool} → Went old one turned
    → Cleared one.setting kind.Console one two noted
    → Cleared old.setting kind.Console one two noted
half_of {old} {one} {two} {turned} {noted} went c = subst (λ w. Cleared w kind.Console one two noted) went.setting c

pub round_of : {old one two three : State} {turned noted travelled : Bool} → Went old one turned → Team one
    → AreSettled old.setting old.history → outstanding (past_in old) ≡ [] → Cleared one.setting kind.Console one two noted
    → Cleared two.setting kind.Remote two three travelled → WholeRound old one two three turned noted travelled
round_of {old} {one} {two} {three} {turned} {noted} {travelled} went team settled start c d =
    record {
      turns = turns_of went team settled start;
      consoles = half_of went c;
      remotes = subst (λ w. Cleared w kind.Remote two three travelled) (c.errands.stays.setting ∙ went.setting) d;
    }

pub half_swept : {old one two : State} {turned noted : Bool} → Team old → Went old one turned → Team one
    → AreSettled old.setting old.history → outstanding (past_in old) ≡ [] → Cleared one.setting kind.Console one two noted
    → Swept old two
half_swept {old} {one} {two} {turned} {noted} before went team settled start c =
    swept_errands old one two kind.Console noted (swept_then before (turns_of went team settled start))
    (half_of went c).errands

pub round_swept : {old one two three : State} {turned noted travelled : Bool} → Team old
    → WholeRound old one two three turned noted travelled
    → Swept old three
round_swept {old} {one} {two} {three} {turned} {noted} {travelled} team r =
    swept_errands old two three kind.Remote travelled
    (swept_errands old one two kind.Console noted (swept_then team r.turns) r.consoles.errands)
    r.remotes.errands

pub still_half : {old one two : State} {turned noted : Bool} → Went old one turned → Team one
    → AreSettled old.setting old.history → outstanding (past_in old) ≡ [] → Cleared one.setting kind.Console one two noted
    → StaysQuiet old two
still_half went team settled start c = half_still (turns_of went team settled start) (half_of went c)

-- what was noted in the first half of a round
pub half_notes : {old one : State} {turned : Bool} (h : List Entry) → Went old one turned → Team one
    → AreSettled old.setting old.history → outstanding (past_in old) ≡ []
    → (a b : Exchange) → NotesBy one.setting one.history h a b → NotesBy old.setting old.history h a b
half_notes {old} {one} {turned} h went team settled start a b n = (
  n.0,
  λ so. subst (λ w. NotedSoFar w h b.sent.noted) went.setting
      (n.1 (subst (λ w. NotedSoFar w one.history a.sent.noted) (sym went.setting)
      (noted_then (turns_of went team settled start) a.sent.noted so))),
)

-- and in the whole round
pub round_notes : {old one two three : State} {turned noted travelled : Bool}
    → WholeRound old one two three turned noted travelled
    → ((n : List ℕ) → NotedSoFar two.setting two.history n → NotedSoFar two.setting three.history n)
    → (a b : Exchange) → NotesBy old.setting old.history two.history a b
    → NotesBy old.setting old.history three.history a b
round_notes {old} {one} {two} {three} r trips a b n = (
  n.0,
  λ so. subst (λ w. NotedSoFar w three.history b.sent.noted) here
      (trips b.sent.noted (subst (λ w. NotedSoFar w two.history b.sent.noted) (sym here) (n.1 so))),
)
  where
    here : two.setting ≡ old.setting
    here = r.consoles.errands.stays.setting ∙ r.turns.went.setting

-- the trips of the first half: none
pub half_completed_calls : {old one : State} {turned : Bool} (h : List Entry) (now : LinkTold) → Went old one turned
    → Team one
    → AreSettled old.setting old.history → outstanding (past_in old) ≡ []
    → CompletedCallsBy one.setting one.history h now now → CompletedCallsBy old.setting old.history h now now
half_completed_calls {old} {one} {turned} h now went team settled start t first x =
    subst (λ w. Completed w h first now) went.setting
    (t first (subst (λ w. Completed w one.history first now) (sym went.setting)
    (completed_then (turns_of went team settled start) now first x)))

pub round_completed_calls : {old one two three : State} {turned noted travelled : Bool} (now later : LinkTold)
    → WholeRound old one two three turned noted travelled
    → CompletedCallsBy old.setting old.history two.history now now → CompletedCallsBy two.setting two.history three.history now later
    → CompletedCallsBy old.setting old.history three.history now later
round_completed_calls {old} {one} {two} {three} now later r f g first x =
    subst (λ w. Completed w three.history first later) here
    (g first (subst (λ w. Completed w two.history first now) (sym here) (f first x)))
  where
    here : two.setting ≡ old.setting
    here = r.consoles.errands.stays.setting ∙ r.turns.went.setting

-- ---- one round after the other

-- what the rounds so far noted, and one more
pub notes_then : (old mid new : State) → mid.setting ≡ old.setting → (a b c : Exchange)
    → NotesBy old.setting old.history mid.history a b → NotesBy mid.setting mid.history new.history b c
    → NotesBy old.setting old.history new.history a c
notes_then old mid new here a b c x y = (
  notes_on a b c x.0 y.0,
  λ so. subst (λ w. NotedSoFar w new.history c.sent.noted) here
      (y.1 (subst (λ w. NotedSoFar w mid.history b.sent.noted) (sym here) (x.1 so))),
)

pub completed_calls_then : (old mid new : State) (a b c : LinkTold) → mid.setting ≡ old.setting
    → CompletedCallsBy old.setting old.history mid.history a b → CompletedCallsBy mid.setting mid.history new.history b c
    → CompletedCallsBy old.setting old.history new.history a c
completed_calls_then old mid new a b c here f g first x =
    subst (λ w. Completed w new.history first c) here
    (g first (subst (λ w. Completed w mid.history first b) (sym here) (f first x)))

-- where nothing was left to do at first, nothing is
pub quiet_then : (old mid : State) → Swept old mid → StaysQuiet old mid → IsQuietAt old → IsQuietAt mid
quiet_then old mid swept still q =
    quiet_same old mid swept.setting swept.budget (still q).0 (still q).1 q

pub still_then : (old mid new : State) → Swept old mid → StaysQuiet old mid → StaysQuiet mid new → StaysQuiet old new
still_then old mid new swept still next q =
    let n = next (quiet_then old mid swept still q) in
    (n.0 ∙ (still q).0, n.1 ∙ (still q).1)

-- ---- what a round came to

pub again_by : (m : Bool) (r : Round) → r ≡ (if m then end.Again else end.Idle) → r ≡ end.Again → m ≡ true
again_by true r e h = refl
again_by false r e h =
    absurd (true≢false
    (ap (λ x. elim x [ end.Again ↦ true | end.Idle ↦ false | end.Halted ↦ false ]) (sym h ∙ e)))

pub unfailed_by : (m : Bool) (r : Round) → r ≡ (if m then end.Again else end.Idle) → r ≡ end.Idle → m ≡ false
unfailed_by true r e h =
    absurd (true≢false
    (ap (λ x. elim x [ end.Again ↦ true | end.Idle ↦ false | end.Halted ↦ false ]) (sym e ∙ h)))
unfailed_by false r e h = refl

pub not_halted : (m : Bool) (r : Round) → r ≡ (if m then end.Again else end.Idle) → r ≡ end.Halted → ⊥
not_halted true r e h =
    true≢false (ap (λ x. elim x [ end.Again ↦ true | end.Idle ↦ true | end.Halted ↦ false ]) (sym e ∙ h))
not_halted false r e h =
    true≢false (ap (λ x. elim x [ end.Again ↦ true | end.Idle ↦ true | end.Halted ↦ false ]) (sym e ∙ h))

-- a round that was unfailed did not halt
pub unfailed_goes_on : {r : Round} → r ≡ end.Idle → r ≡ end.Halted → ⊥
unfailed_goes_on is halted =
    true≢false (ap (λ x. elim x [ end.Again ↦ false | end.Idle ↦ true | end.Halted ↦ false ]) (sym is ∙ halted))

-- a round that halted is no other
pub halted_only : end.Halted ≡ end.Again → ⊥
halted_only h = true≢false (ap (λ x. elim x [ end.Again ↦ false | end.Idle ↦ false | end.Halted ↦ true ]) h)
