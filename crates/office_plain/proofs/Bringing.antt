-- The outcome of a call is brought from outside: it is kept for that call, and all else stays tied.
use Rattle.std.proofs.Common.{◌≡◌, ◌≢◌, ◌<◌, ◌≤◌, ℕ, zero, suc, ◌+◌, Bool, true, false, not, ◌&&◌, ◌||◌, List, [], ◌∷◌, ◌++◌, length, refl, sym, ap, subst, ◌∙◌, Option, None, Some, option_map, true≢false, zero-add}
use Rattle.std.specs.Prelude.{nat_eq, slice_get, slice_set, is_some, if◌then◌else◌, option_and_then}
use Rattle.std.specs.List.{list_any, filter_map, cons_option}
use Rattle.std.proofs.lemmas.Option.{slice_get_within}
use Rattle.jolie_trees.specs.Limits.{in_u64}
use Rattle.behaviour_tree.specs.declared.words.Outcome.{Outcome}
use Rattle.office_core.specs.declared.message.Call.{Call}
use Rattle.office_core.specs.declared.message.Message.{Message}
use Rattle.office_core.specs.declared.history.Act.{Act}
use Rattle.office_core.specs.declared.history.Act.TheVariants as act
use Rattle.office_core.specs.declared.history.Entry.{Entry}
use Rattle.office_core.specs.declared.outgoing.OutKind.TheVariants as kind
use Rattle.office_core.specs.Limits.{Setting}
use Rattle.office_core.specs.Past.{Past, some_entry}
use Rattle.office_core.specs.Sessions.{service_of, ends}
use Rattle.office_core.specs.Keys.{first}
use Rattle.office_core.specs.Accepted.{then_one}
use Rattle.office_core.specs.Calls.{call, calls, is_call, sent_in, brought_in, brings, fetches}
use Rattle.office_core.specs.Legal.{is_at_work, is_fetched, IsLegalEntry}
use Rattle.office_core.proofs.Longer.{some_same, given_same, given_more, messages_same}
use Rattle.office_core.proofs.Numbers.{calls_by, Numbered}
use Rattle.office_core.proofs.Unborn.{acts_as, IsIdle}
use Rattle.office_plain.specs.declared.kept.Kept.{Kept}
use Rattle.office_plain.specs.Entries.{entry}
use Rattle.office_plain.specs.Kept.{call_places, brought_for}
use Rattle.office_plain.specs.Rows.{place_of}
use Rattle.office_plain.specs.Ties.{Ties}
use Rattle.office_plain.proofs.Acting.{right, not_true}
use Rattle.office_plain.proofs.CallPlaces.{one_place, call_is, seated, Seated}
use Rattle.office_plain.proofs.Lists.{same_of, none_not_some, itself, set_here, set_other, eq_true, eq_false}
use Rattle.office_plain.proofs.Stays.{weight_stays, row_stays, places_stay, waiting_stays, answers_stay, standings_stay, keyed_sessions_stay, calls_stay, unfetched_stays}

-- the outcome that a worker brings for a call that it fetched is legal
pub legal_answered : (w : Setting) (past : Past) (actor s n : ℕ) (o : Outcome)
    → is_at_work past actor ≡ true → is_fetched past actor s n ≡ true
    → IsLegalEntry w past (entry actor (act.Answered s n o))
legal_answered w past actor s n o works fetched =
    record { allowed = ap (λ b. b && is_fetched past actor s n) works ∙ fetched; reply = refl }

-- ---- what was brought

-- a list of which nothing is in it gives nothing
pub nothing_given : (es : List Entry) (f : Entry → Option Outcome) → list_any (λ e. is_some (f e)) es ≡ false → filter_map f es ≡ []
nothing_given [] f h = refl
nothing_given (e ∷ es) f h = by (f e) refl (nothing_given es f)
  where
    by : (o : Option Outcome) → f e ≡ o → (list_any (λ d. is_some (f d)) es ≡ false → filter_map f es ≡ []) → filter_map f (e ∷ es) ≡ []
    by None q next =
        ap (λ x. cons_option x (filter_map f es)) q
        ∙ next (sym (ap (λ x. is_some x || list_any (λ d. is_some (f d)) es) q) ∙ h)
    by (Some x) q next = absurd (true≢false (sym (ap (λ y. is_some y || list_any (λ d. is_some (f d)) es) q) ∙ h))

-- the call was fetched and nothing was brought for it
nothing_brought : (past : Past) (actor s n : ℕ) (c : Call) (g : Option Call) → g ≡ Some c
    → (elim g [ None ↦ false | Some d ↦ some_entry past (λ e. nat_eq actor e.actor && fetches d e) && not (some_entry past (brings d)) ]) ≡ true
    → some_entry past (brings c) ≡ false
nothing_brought past actor s n c None e h = absurd (none_not_some c e)
nothing_brought past actor s n c (Some d) e h =
    ap (λ x. some_entry past (brings x)) (sym (same_of d c e))
    ∙ not_true (some_entry past (brings d)) (right (some_entry past (λ x. nat_eq actor x.actor && fetches d x)) (not (some_entry past (brings d))) h)

-- what was brought for a call, once this outcome was
brought_now : (w : Setting) (past : Past) (actor s n : ℕ) (o : Outcome) (c : Call) → is_call s n c ≡ true
    → some_entry past (brings c) ≡ false → brought_for (then_one w past (entry actor (act.Answered s n o))) c ≡ Some o
brought_now w past actor s n o c is_c none =
    ap first
    (given_more w past (entry actor (act.Answered s n o)) (brought_in c) o (ap (λ b. if b then Some o else None) is_c)
    ∙ ap (λ os. os ++ o ∷ []) (nothing_given past.entries (brought_in c) none))

-- what was brought for another call
brought_else : (w : Setting) (past : Past) (actor s n : ℕ) (o : Outcome) (c : Call) → is_call s n c ≡ false
    → brought_for (then_one w past (entry actor (act.Answered s n o))) c ≡ brought_for past c
brought_else w past actor s n o c other =
    ap first (given_same w past (entry actor (act.Answered s n o)) (brought_in c) (ap (λ b. if b then Some o else None) other))

-- ---- what stays tied

outcomes_answered : (w : Setting) (past : Past) (actor s n p : ℕ) (o : Outcome) (c : Call) (old new : List (Option Outcome))
    → Numbered past s → slice_get (calls past) p ≡ Some c → is_call s n c ≡ true → some_entry past (brings c) ≡ false
    → ((i : ℕ) → slice_get old i ≡ option_map (brought_for past) (slice_get (calls past) i))
    → new ≡ slice_set old p (Some o) → (i : ℕ)
    → slice_get new i ≡ option_map (brought_for (then_one w past (entry actor (act.Answered s n o)))) (slice_get (calls (then_one w past (entry actor (act.Answered s n o)))) i)
outcomes_answered w past actor s n p o c old new numbered there is_c none tied changed i =
    ap (λ os. slice_get os i) changed ∙ by (nat_eq i p) refl
    ∙ sym (ap (λ cs. option_map (brought_for (then_one w past (entry actor (act.Answered s n o)))) (slice_get cs i)) (calls_stay w past (entry actor (act.Answered s n o)) refl))
  where
    elsewhere : i ≢ p → (d : Call) → slice_get (calls past) i ≡ Some d → (b : Bool) → is_call s n d ≡ b → b ≡ false
    elsewhere apart d at_i true e = absurd (apart (one_place past s n i p d c numbered at_i e there is_c))
    elsewhere apart d at_i false e = refl

    others : i ≢ p → (g : Option Call) → slice_get (calls past) i ≡ g
        → option_map (brought_for past) g ≡ option_map (brought_for (then_one w past (entry actor (act.Answered s n o)))) g
    others apart None at_i = refl
    others apart (Some d) at_i = ap Some (sym (brought_else w past actor s n o d (elsewhere apart d at_i (is_call s n d) refl)))

    by : (b : Bool) → nat_eq i p ≡ b
        → slice_get (slice_set old p (Some o)) i ≡ option_map (brought_for (then_one w past (entry actor (act.Answered s n o)))) (slice_get (calls past) i)
    by true e =
        ap (slice_get (slice_set old p (Some o))) (eq_true i p e)
        ∙ set_here old p (brought_for past c) (Some o) (tied p ∙ ap (option_map (brought_for past)) there)
        ∙ sym (ap (option_map (brought_for (then_one w past (entry actor (act.Answered s n o))))) (ap (slice_get (calls past)) (eq_true i p e) ∙ there)
        ∙ ap Some (brought_now w past actor s n o c is_c none))
    by false e =
        set_other old p i (Some o) (eq_false i p e) ∙ tied i ∙ others (eq_false i p e) (slice_get (calls past) i) refl

-- after an answer from outside that is kept for its call
pub ties_answered : (w : Setting) (past : Past) (actor s n p : ℕ) (o : Outcome) (c : Call) (k : Kept) (outcomes : List (Option Outcome))
    → Numbered past s → call past s n ≡ Some c → slice_get (calls past) p ≡ Some c → is_call s n c ≡ true
    → is_fetched past actor s n ≡ true → outcomes ≡ slice_set k.outcomes p (Some o) → Ties w past k
    → Ties w (then_one w past (entry actor (act.Answered s n o))) (record k { outcomes = outcomes })
ties_answered w past actor s n p o c k outcomes numbered named there is_c fetched changed t =
    let e : Entry = entry actor (act.Answered s n o) in
    record {
      messages = t.messages ∙ sym (messages_same w past e refl);
      few = subst (λ ms. length ms ≤ w.limits.messages) (sym (messages_same w past e refl)) t.few;
      weight = t.weight ∙ ap in_u64 (sym (weight_stays past e refl));
      sessions = λ u. t.sessions u ∙ sym (row_stays w past e u refl refl);
      places = λ u. t.places u ∙ sym (places_stay w past e u refl);
      boxes = λ u h. t.boxes u (sym (some_same w past e (ends u) refl) ∙ h) ∙ sym (waiting_stays w past e u refl);
      origins = λ j. t.origins j ∙ ap (λ ms. option_map (λ (m : Message). m.origin) (slice_get ms j)) (sym (messages_same w past e refl));
      standings = standings_stay w past e k.book (λ j m g. answers_stay w past e j m refl refl refl refl) t.standings;
      keys = t.keys ∙ sym (keyed_sessions_stay w past e (λ u. refl) (λ u. refl));
      sent = t.sent ∙ sym (calls_stay w past e refl);
      outcomes = outcomes_answered w past actor s n p o c k.outcomes outcomes numbered there is_c
          (nothing_brought past actor s n c (call past s n) named fetched) t.outcomes changed;
      console = t.console ∙ sym (unfetched_stays w past e kind.Console refl (λ d. refl));
      remote = t.remote ∙ sym (unfetched_stays w past e kind.Remote refl (λ d. refl));
    }

-- ---- the call that is answered

or_right : (a b : Bool) → b ≡ true → (a || b) ≡ true
or_right true b h = refl
or_right false b h = h

-- a session that sent a call acted
acted_head : (actor : ℕ) (a : Act) (es : List Entry) (i : ℕ) (c : Call)
    → ((j : ℕ) → slice_get (filter_map sent_in es) j ≡ Some c → list_any (acts_as c.session) es ≡ true)
    → slice_get (cons_option (sent_in (record { actor = actor; act = a })) (filter_map sent_in es)) i ≡ Some c
    → (acts_as c.session (record { actor = actor; act = a }) || list_any (acts_as c.session) es) ≡ true
acted_head actor (act.Send k port op v wants r) es zero c rest h =
    ap (λ b. b || list_any (acts_as c.session) es) (ap (λ (x : Call). nat_eq x.session actor) (sym (same_of _ c h)) ∙ itself actor)
acted_head actor (act.Send k port op v wants r) es (suc i) c rest h = or_right (nat_eq c.session actor) (list_any (acts_as c.session) es) (rest i h)
acted_head actor a es i c rest h = or_right (acts_as c.session (record { actor = actor; act = a })) (list_any (acts_as c.session) es) (rest i h)

caller_acted : (es : List Entry) (i : ℕ) (c : Call) → slice_get (filter_map sent_in es) i ≡ Some c → list_any (acts_as c.session) es ≡ true
caller_acted [] i c h = absurd (none_not_some c h)
caller_acted (e ∷ es) i c h = acted_head e.actor e.act es i c (λ j g. caller_acted es j c g) h

-- so it was born
caller_born : (w : Setting) (past : Past) (p : ℕ) (c : Call) → IsIdle w past c.session → slice_get (calls past) p ≡ Some c
    → (d : ℕ) × (service_of w past c.session ≡ Some d)
caller_born w past p c idle there = by (service_of w past c.session) refl
  where
    by : (g : Option ℕ) → service_of w past c.session ≡ g → (d : ℕ) × (service_of w past c.session ≡ Some d)
    by None e = absurd (true≢false (sym (caller_acted past.entries p c there) ∙ idle e))
    by (Some d) e = (d, e)

-- the call of a number that was fetched
fetched_call : (past : Past) (actor s n : ℕ) (g : Option Call) → call past s n ≡ g
    → (elim g [ None ↦ false | Some d ↦ some_entry past (λ e. nat_eq actor e.actor && fetches d e) && not (some_entry past (brings d)) ]) ≡ true
    → (c : Call) × (call past s n ≡ Some c)
fetched_call past actor s n None e h = absurd (true≢false (sym h))
fetched_call past actor s n (Some c) e h = (c, e)

-- a call that was sent, and its place, which is kept
pub record CallPlace (past : Past) (kept : Kept) (s n : ℕ) : Type 0 where
  pub found : Call
  pub place : ℕ
  pub named : call past s n ≡ Some found
  pub there : slice_get (calls past) place ≡ Some found
  pub is_it : is_call s n found ≡ true
  pub kept_at : place_of kept s n ≡ Some place

place_is : (w : Setting) (past : Past) (s n : ℕ) (kept : Kept) (c : Call) → IsIdle w past s → Numbered past s → Ties w past kept
    → call past s n ≡ Some c → CallPlace past kept s n
place_is w past s n kept c idle numbered t named =
    let ranks : slice_get (calls_by past s) n ≡ Some c = sym (call_is past s n numbered) ∙ named in
    let seat : Seated (λ x. nat_eq s x.session) 0 (calls past) n c = seated (λ x. nat_eq s x.session) 0 (calls past) n c ranks in
    let its_session : s ≡ c.session = eq_true s c.session seat.is_it in
    let born = caller_born w past seat.place c (subst (IsIdle w past) its_session idle) seat.there in
    let service : service_of w past s ≡ Some born.0 = ap (service_of w past) its_session ∙ born.1 in
    record {
      found = c;
      place = seat.place;
      named = named;
      there = seat.there;
      is_it = ap (λ b. b && nat_eq n c.number) seat.is_it ∙ ap (nat_eq n) (numbered n c ranks) ∙ itself n;
      kept_at = ap (option_and_then (λ ps. slice_get ps n)) (t.places s ∙ ap (option_map (λ d. call_places past s)) service)
          ∙ seat.placed ∙ ap Some (zero-add seat.place);
    }

-- the outcome of a call that was fetched: it is legal, there is a place for it, and what is kept is tied once it is there
pub record IsBrought (w : Setting) (past : Past) (actor s n p : ℕ) (o : Outcome) (kept : Kept) : Type 0 where
  pub legal : IsLegalEntry w past (entry actor (act.Answered s n o))
  pub within : p < length kept.outcomes
  pub tied : Ties w (then_one w past (entry actor (act.Answered s n o))) (record kept { outcomes = slice_set kept.outcomes p (Some o) })

pub is_placed : (w : Setting) (past : Past) (actor s n : ℕ) (kept : Kept) → is_fetched past actor s n ≡ true
    → IsIdle w past s → Numbered past s → Ties w past kept → CallPlace past kept s n
is_placed w past actor s n kept fetched idle numbered t =
    let c = fetched_call past actor s n (call past s n) refl fetched in
    place_is w past s n kept c.0 idle numbered t c.1

pub brought_is : (w : Setting) (past : Past) (actor s n p : ℕ) (o : Outcome) (kept : Kept)
    → is_at_work past actor ≡ true → is_fetched past actor s n ≡ true → IsIdle w past s → Numbered past s → Ties w past kept
    → place_of kept s n ≡ Some p → IsBrought w past actor s n p o kept
brought_is w past actor s n p o kept works fetched idle numbered t at_p =
    let c = is_placed w past actor s n kept fetched idle numbered t in
    let there : slice_get (calls past) p ≡ Some c.found =
    ap (slice_get (calls past)) (same_of p c.place (sym at_p ∙ c.kept_at)) ∙ c.there in
    record {
      legal = legal_answered w past actor s n o works fetched;
      within = slice_get_within kept.outcomes p (brought_for past c.found) (t.outcomes p ∙ ap (option_map (brought_for past)) there);
      tied = ties_answered w past actor s n p o c.found kept (slice_set kept.outcomes p (Some o)) numbered c.named there c.is_it fetched refl t;
    }
