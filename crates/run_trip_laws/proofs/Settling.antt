-- What entries keep of the calls that went out: those that were fetched have their outcomes, that of a call to the
-- console is void, and what was noted is the front of what is to be noted.
use Rattle.std.proofs.Common.{◌≡◌, ◌<◌, ℕ, zero, suc, Bool, true, false, not, ◌&&◌, List, [], ◌∷◌}
use Rattle.std.proofs.Common.{◌++◌, length, refl, sym, ap, subst, ◌∙◌, Option, None, Some, option_map, true≢false}
use Rattle.std.proofs.Common.{slice_get, filter, filter_map, flat_map, is_some, nat_lt, nat_le}
use Rattle.std.proofs.Common.{option_and_then, append_assoc, arith}
use Rattle.std.specs.List.{list_all, cons_option}
use Rattle.std.proofs.lemmas.List.{append-nil}
use Rattle.std.proofs.lemmas.List.Concat.{flat_map-append}
use Rattle.jolie_trees.specs.Trees.{void_tree, root_of}
use Rattle.behaviour_tree.specs.declared.words.Outcome.{Outcome}
use Rattle.behaviour_tree.specs.declared.words.Outcome.TheVariants as outcome
use Rattle.office_core.specs.declared.history.Act.{Act}
use Rattle.office_core.specs.declared.history.Act.TheVariants as act
use Rattle.office_core.specs.declared.history.Entry.{Entry}
use Rattle.office_core.specs.declared.message.Call.{Call}
use Rattle.office_core.specs.declared.outgoing.Outgoing.{Outgoing}
use Rattle.office_core.specs.declared.outgoing.OutKind.{OutKind}
use Rattle.office_core.specs.declared.outgoing.OutKind.TheVariants as kind
use Rattle.office_core.specs.Limits.{Setting, first_worker}
use Rattle.office_core.specs.Past.{Past, nothing_yet, some_entry, is_running}
use Rattle.office_core.specs.Sessions.{service_of}
use Rattle.office_core.specs.Keys.{first}
use Rattle.office_core.specs.Accepted.{past_of, then_one, then_all}
use Rattle.office_core.specs.Calls.{calls, sent_in, fetches, brings, brought_in, goes_out, is_waiting, kind_of}
use Rattle.office_core.specs.Calls.{same_kind, outgoing}
use Rattle.office_core.specs.Legal.{is_at_work, is_allowed, is_fetched, AreLegal, IsLegal}
use Rattle.office_core.proofs.Longer.{given_same}
use Rattle.office_core.proofs.Numbers.{calls_rise}
use Rattle.office_plain.specs.Entries.{entry}
use Rattle.office_plain.specs.Replies.{going, next_outgoing}
use Rattle.office_plain.proofs.Acting.{left, right}
use Rattle.office_plain.proofs.Lists.{none_not_some}
use Rattle.office_plain.proofs.Bringing.{nothing_given}
use Rattle.office_plain.proofs.Fetching.{waits_out}
use Rattle.session_turn.proofs.Histories.{past_on}
use Rattle.run_record.specs.Outside.{note_of, notes, console_calls}
use Rattle.run_record.specs.Quiet.{outstanding}
use Rattle.jsonrpc_calls.specs.Console.{console_line}
use Rattle.run_trip_laws.specs.Going.{is_inward, is_silent, is_of_session, fetch_of, went_out, goes_to}
use Rattle.run_trip_laws.specs.Going.{AllReceived, ReceivedVoid, AreSettled, NotedSoFar}
use Rattle.run_trip_laws.proofs.Places.{none_kept, each_off, no_front}
use Rattle.run_trip_laws.proofs.Growing.{legal_parts, some_stays, caller, calls_on, sent_by, sends_new, fetches_not}
use Rattle.run_trip_laws.proofs.Growing.{brings_not, new_to, outgoing_on, goes_same, consoles_on}
use Rattle.run_trip_laws.proofs.Fetched.{IsNext, next_is, IsOldest, oldest_is, fetching, bringing, is_fetched_now}
use Rattle.run_trip_laws.proofs.Fetched.{out_and_back, back_left, back_others, back_consoles, back_received, back_void}

-- ---- many entries

-- the front of a legal history is legal
legal_front_from : (w : Setting) (past : Past) (xs ys : List Entry) → AreLegal w past (xs ++ ys) → AreLegal w past xs
legal_front_from w past [] ys h = tt
legal_front_from w past (x ∷ xs) ys h = (h.0, legal_front_from w (then_one w past x) xs ys h.1)

pub legal_front : (w : Setting) (xs ys : List Entry) → IsLegal w (xs ++ ys) → IsLegal w xs
legal_front w xs ys h = legal_front_from w nothing_yet xs ys h

-- what each entry of a kind keeps, many keep
pub over_all : (w : Setting) (is_it : Entry → Bool) (P : List Entry → Type 0)
    → ((h : List Entry) (e : Entry) → is_it e ≡ true → IsLegal w (h ++ e ∷ []) → P h → P (h ++ e ∷ []))
    → (h more : List Entry) → list_all is_it more ≡ true → IsLegal w (h ++ more) → P h → P (h ++ more)
over_all w is_it P step h [] each legal p = subst P (sym (append-nil h)) p
over_all w is_it P step h (e ∷ more) each legal p =
    subst P moved
    (over_all w is_it P step (h ++ e ∷ []) more (right (is_it e) (list_all is_it more) each)
    (subst (IsLegal w) (sym moved) legal)
    (step h e (left (is_it e) (list_all is_it more) each)
    (legal_front w (h ++ e ∷ []) more (subst (IsLegal w) (sym moved) legal)) p))
  where
    moved : (h ++ e ∷ []) ++ more ≡ h ++ e ∷ more
    moved = append_assoc h (e ∷ []) more

-- a session fetches nothing and brings nothing
session_inward : (w : Setting) (past : Past) (s : ℕ) (a : Act) → is_allowed w past s a ≡ true
    → nat_lt s first_worker ≡ true
    → is_inward (entry s a) ≡ true
session_inward w past s (act.Fetch t k) allowed below =
    absurd (apart s below (right (is_running past) (nat_le first_worker s) allowed))
  where
    apart : (n : ℕ) → nat_lt n first_worker ≡ true → nat_le first_worker n ≡ true → ⊥
    apart n a b = grind arith
session_inward w past s (act.Answered t k o) allowed below =
    absurd (apart s below
    (right (is_running past) (nat_le first_worker s) (left (is_at_work past s) (is_fetched past s t k) allowed)))
  where
    apart : (n : ℕ) → nat_lt n first_worker ≡ true → nat_le first_worker n ≡ true → ⊥
    apart n a b = grind arith
session_inward w past s a allowed below = refl

sessions_inward_from : (w : Setting) (past : Past) (es : List Entry) → AreLegal w past es
    → list_all is_of_session es ≡ true
    → list_all is_inward es ≡ true
sessions_inward_from w past [] legal below = refl
sessions_inward_from w past (e ∷ es) legal below =
    λ i. session_inward w past e.actor e.act (legal.0).allowed
    (left (is_of_session e) (list_all is_of_session es) below) i
    && sessions_inward_from w (then_one w past e) es legal.1
    (right (is_of_session e) (list_all is_of_session es) below) i

legal_rest_from : (w : Setting) (past : Past) (xs ys : List Entry) → AreLegal w past (xs ++ ys)
    → AreLegal w (then_all w past xs) ys
legal_rest_from w past [] ys h = h
legal_rest_from w past (x ∷ xs) ys h = legal_rest_from w (then_one w past x) xs ys h.1

-- the entries of sessions in a legal history fetch nothing and bring nothing
pub sessions_inward : (w : Setting) (h more : List Entry) → IsLegal w (h ++ more) → list_all is_of_session more ≡ true
    → list_all is_inward more ≡ true
sessions_inward w h more legal below =
    sessions_inward_from w (past_of w h) more (legal_rest_from w nothing_yet h more legal) below

-- ---- one entry that fetches and brings nothing

brings_on : (w : Setting) (h : List Entry) (e : Entry) (c : Call) → is_inward e ≡ true
    → filter_map (brought_in c) (past_of w (h ++ e ∷ [])).entries ≡ filter_map (brought_in c) (past_of w h).entries
brings_on w h e c off =
    ap (λ (p : Past). filter_map (brought_in c) p.entries) (past_on w h e)
    ∙ given_same w (past_of w h) e (brought_in c) (brings_not c e off)

received_on : (w : Setting) (h : List Entry) (e : Entry) → is_inward e ≡ true → AllReceived (past_of w h)
    → AllReceived (past_of w (h ++ e ∷ []))
received_on w h e off received c =
    some_stays w h e (fetches c) (fetches_not c e off) ∙ received c
    ∙ sym (some_stays w h e (brings c) (ap is_some (brings_not c e off)))

-- an element of a list with some more stands in the one or in the other
in_either : {A : Type 0} (xs ys : List A) (i : ℕ) (x : A) (P : Type 0) → slice_get (xs ++ ys) i ≡ Some x
    → ((j : ℕ) → slice_get xs j ≡ Some x → P) → ((j : ℕ) → slice_get ys j ≡ Some x → P) → P
in_either [] ys i x P there old new = new i there
in_either (z ∷ xs) ys zero x P there old new = old 0 there
in_either (z ∷ xs) ys (suc i) x P there old new = in_either xs ys i x P there (λ j t. old (suc j) t) new

the_one : (o : Option Call) (i : ℕ) (c : Call) → slice_get (cons_option o []) i ≡ Some c → o ≡ Some c
the_one None i c there = absurd (none_not_some c there)
the_one (Some d) zero c there = there
the_one (Some d) (suc i) c there = absurd (none_not_some c there)

void_on : (w : Setting) (h : List Entry) (e : Entry) → is_inward e ≡ true → IsLegal w (h ++ e ∷ [])
    → ReceivedVoid w (past_of w h) → ReceivedVoid w (past_of w (h ++ e ∷ []))
void_on w h e off legal void i c o there goes has =
    in_either (calls (past_of w h)) (sent_by e) i c (o ≡ outcome.Value void_tree)
    (ap (λ cs. slice_get cs i) (sym (calls_on w h e)) ∙ there)
    (λ j old. void j c o old (sym (goes_same w h e kind.Console j c (legal_parts w h e legal).0 old) ∙ goes) had)
    (λ j new. absurd (none_not_some o (sym (ap first (nothing_given (past_of w h).entries (brought_in c)
    (sends_new w h e c legal (the_one (sent_in e) j c new)).outstanding)) ∙ had)))
  where
    had : first (filter_map (brought_in c) (past_of w h).entries) ≡ Some o
    had = sym (ap first (brings_on w h e c off)) ∙ has

-- it keeps how it stands with the calls
pub settled_on : (w : Setting) (h : List Entry) (e : Entry) → is_inward e ≡ true → IsLegal w (h ++ e ∷ [])
    → AreSettled w h → AreSettled w (h ++ e ∷ [])
settled_on w h e off legal s =
    record { received = received_on w h e off s.received; void = void_on w h e off legal s.void }

-- and what was noted
pub noted_on : (w : Setting) (noted : List ℕ) (h : List Entry) (e : Entry) → is_inward e ≡ true
    → IsLegal w (h ++ e ∷ []) → NotedSoFar w h noted → NotedSoFar w (h ++ e ∷ []) noted
noted_on w noted h e off legal so =
    ap (flat_map note_of) (consoles_on w h e (legal_parts w h e legal).0)
    ∙ flat_map-append note_of (console_calls w (past_of w h)) new
    ∙ ap (λ ns. ns ++ flat_map note_of new) so
    ∙ append_assoc noted (flat_map note_of waiting) (flat_map note_of new)
    ∙ ap (λ ns. noted ++ ns) (sym (flat_map-append note_of waiting new))
    ∙ ap (λ cs. noted ++ flat_map note_of cs) (sym (outgoing_on w h e kind.Console off legal))
  where
    new : List Call
    new = new_to w (past_of w (h ++ e ∷ [])) kind.Console e

    waiting : List Call
    waiting = outgoing w (past_of w h) kind.Console

-- ---- at the start

pub settled_first : (w : Setting) → AreSettled w []
settled_first w = record { received = λ c. refl; void = λ i c o there goes has. absurd (none_not_some c there) }

pub noted_first : (w : Setting) → NotedSoFar w [] []
noted_first w = refl

-- ---- sessions go on

pub settled_over : (w : Setting) (h more : List Entry) → IsLegal w (h ++ more) → list_all is_of_session more ≡ true
    → AreSettled w h → AreSettled w (h ++ more)
settled_over w h more legal below s =
    over_all w is_inward (AreSettled w) (settled_on w) h more (sessions_inward w h more legal below) legal s

pub noted_over : (w : Setting) (noted : List ℕ) (h more : List Entry) → IsLegal w (h ++ more)
    → list_all is_of_session more ≡ true → NotedSoFar w h noted → NotedSoFar w (h ++ more) noted
noted_over w noted h more legal below so =
    over_all w is_inward (λ g. NotedSoFar w g noted) (noted_on w noted) h more
    (sessions_inward w h more legal below) legal so

-- ---- a call goes out and its outcome comes back

pub past_went : (w : Setting) (h : List Entry) (actor : ℕ) (c : Call) (d : ℕ) (o : Outcome)
    → past_of w (went_out h actor (going c d) o) ≡ out_and_back w (past_of w h) actor c o
past_went w h actor c d o =
    past_on w (h ++ fetching actor c ∷ []) (bringing actor c o)
    ∙ ap (λ p. then_one w p (bringing actor c o)) (past_on w h (fetching actor c))

-- what holds of the call that is next holds of it as it goes out
pub of_next : (w : Setting) (h : List Entry) (k : OutKind) (out : Outgoing) (P : Outgoing → Type 0) → IsLegal w h
    → next_outgoing w (past_of w h) k ≡ Some out
    → ((c : Call) (d : ℕ) → IsOldest w (past_of w h) k c → service_of w (past_of w h) c.session ≡ Some d
    → P (going c d))
    → P out
of_next w h k out P legal next each =
    let n : IsNext w (past_of w h) k out = next_is w (past_of w h) k out next in
    subst P n.is
    (each n.found n.service (oldest_is w (past_of w h) k n.found (λ s. calls_rise w h s legal) n.leads) n.born)

-- a call that is fetched has no outcome yet
pub fetched_is : (w : Setting) (h : List Entry) (actor : ℕ) (k : OutKind) (out : Outgoing) → IsLegal w h
    → AreSettled w h
    → next_outgoing w (past_of w h) k ≡ Some out
    → is_fetched (past_of w (h ++ fetch_of actor out ∷ [])) actor out.session out.call ≡ true
fetched_is w h actor k out legal s next =
    of_next w h k out
    (λ x. is_fetched (past_of w (h ++ fetch_of actor x ∷ [])) actor x.session x.call ≡ true)
    legal next
    (λ c d old born. ap (λ p. is_fetched p actor c.session c.number) (past_on w h (fetching actor c))
    ∙ is_fetched_now w (past_of w h) actor k c s.received old)

-- then all is settled again
pub settled_back : (w : Setting) (h : List Entry) (actor : ℕ) (k : OutKind) (out : Outgoing) (o : Outcome) → IsLegal w h
    → next_outgoing w (past_of w h) k ≡ Some out → (same_kind kind.Console k ≡ true → o ≡ outcome.Value void_tree)
    → AreSettled w h → AreSettled w (went_out h actor out o)
settled_back w h actor k out o legal next void s =
    of_next w h k out (λ x. AreSettled w (went_out h actor x o)) legal next
    (λ c d old born. record {
      received = subst AllReceived (sym (past_went w h actor c d o)) (back_received w (past_of w h) actor c o s.received);
      void = subst (ReceivedVoid w) (sym (past_went w h actor c d o))
          (back_void w (past_of w h) actor k c o (λ t. calls_rise w h t legal) s.received old void s.void);
    })

-- one call less of the kind waits
pub waits_less : (w : Setting) (h : List Entry) (actor : ℕ) (k : OutKind) (out : Outgoing) (o : Outcome) → IsLegal w h
    → next_outgoing w (past_of w h) k ≡ Some out
    → length (outgoing w (past_of w (went_out h actor out o)) k) < length (outgoing w (past_of w h) k)
waits_less w h actor k out o legal next =
    of_next w h k out
    (λ x. length (outgoing w (past_of w (went_out h actor x o)) k) < length (outgoing w (past_of w h) k))
    legal next
    (λ c d old born. less (length (outgoing w (past_of w (went_out h actor (going c d) o)) k))
    (length (outgoing w (past_of w h) k))
    (ap length (back_left w (past_of w h) actor k c o (λ t. calls_rise w h t legal) old.leads
    ∙ ap (λ p. c ∷ outgoing w p k) (sym (past_went w h actor c d o)))))
  where
    less : (m n : ℕ) → n ≡ suc m → m < n
    less m n e = omega arith

-- the calls of another kind wait as before
pub waits_else : (w : Setting) (h : List Entry) (actor : ℕ) (k l : OutKind) (out : Outgoing) (o : Outcome) → IsLegal w h
    → next_outgoing w (past_of w h) k ≡ Some out → same_kind l k ≡ false
    → outgoing w (past_of w (went_out h actor out o)) l ≡ outgoing w (past_of w h) l
waits_else w h actor k l out o legal next differs =
    of_next w h k out (λ x. outgoing w (past_of w (went_out h actor x o)) l ≡ outgoing w (past_of w h) l) legal next
    (λ c d old born. ap (λ p. outgoing w p l) (past_went w h actor c d o)
    ∙ back_others w (past_of w h) actor k l c o (λ t. calls_rise w h t legal) old.leads differs)

-- a call to the console was noted
pub noted_console : (w : Setting) (h : List Entry) (actor : ℕ) (out : Outgoing) (o : Outcome) (noted : List ℕ)
    → IsLegal w h → next_outgoing w (past_of w h) kind.Console ≡ Some out → NotedSoFar w h noted
    → NotedSoFar w (went_out h actor out o) (noted ++ console_line (root_of out.value))
noted_console w h actor out o noted legal next so =
    of_next w h kind.Console out
    (λ x. NotedSoFar w (went_out h actor x o) (noted ++ console_line (root_of x.value))) legal next
    (λ c d old born.
    ap (λ p. flat_map note_of (console_calls w p)) (past_went w h actor c d o)
    ∙ ap (flat_map note_of) (back_consoles w (past_of w h) actor c o)
    ∙ so
    ∙ ap (λ cs. noted ++ flat_map note_of cs)
    (back_left w (past_of w h) actor kind.Console c o (λ t. calls_rise w h t legal) old.leads
    ∙ ap (λ p. c ∷ outgoing w p kind.Console) (sym (past_went w h actor c d o)))
    ∙ sym (append_assoc noted (note_of c)
    (flat_map note_of (outgoing w (past_of w (went_out h actor (going c d) o)) kind.Console))))

-- a call to a service elsewhere is not noted
pub noted_remote : (w : Setting) (h : List Entry) (actor : ℕ) (out : Outgoing) (o : Outcome) (noted : List ℕ)
    → IsLegal w h → next_outgoing w (past_of w h) kind.Remote ≡ Some out → NotedSoFar w h noted
    → NotedSoFar w (went_out h actor out o) noted
noted_remote w h actor out o noted legal next so =
    of_next w h kind.Remote out (λ x. NotedSoFar w (went_out h actor x o) noted) legal next
    (λ c d old born.
    ap (λ p. flat_map note_of (console_calls w p)) (past_went w h actor c d o)
    ∙ ap (flat_map note_of) (back_consoles w (past_of w h) actor c o)
    ∙ so
    ∙ ap (λ cs. noted ++ flat_map note_of cs)
    (sym (ap (λ p. outgoing w p kind.Console) (past_went w h actor c d o)
    ∙ back_others w (past_of w h) actor kind.Remote kind.Console c o (λ t. calls_rise w h t legal) old.leads refl)))

-- ---- nothing waits

-- where no call of a kind is next, none waits
pub none_waits : (w : Setting) (h : List Entry) (k : OutKind) → IsLegal w h → next_outgoing w (past_of w h) k ≡ None
    → outgoing w (past_of w h) k ≡ []
none_waits w h k legal none = no_front (outgoing w past k) (by (first (outgoing w past k)) refl)
  where
    past : Past
    past = past_of w h

    there : (c : Call) → first (outgoing w past k) ≡ Some c → (d : ℕ) × (service_of w past c.session ≡ Some d)
    there c leads =
        let old : IsOldest w past k c = oldest_is w past k c (λ s. calls_rise w h s legal) leads in
        caller w h old.place c legal old.there

    by : (o : Option Call) → first (outgoing w past k) ≡ o → first (outgoing w past k) ≡ None
    by None e = e
    by (Some c) e =
        absurd (none_not_some (going c (there c e).0)
        (sym none ∙ ap (option_and_then (λ (x : Call). option_map (going x) (service_of w past x.session))) e
        ∙ ap (option_map (going c)) (there c e).1))

-- where none waits, no call of the kind is next
pub none_next : (w : Setting) (past : Past) (k : OutKind) → outgoing w past k ≡ [] → next_outgoing w past k ≡ None
none_next w past k none =
    ap (λ cs. option_and_then (λ c. option_map (going c) (service_of w past c.session)) (first cs)) none

-- then all is noted
pub all_noted : (w : Setting) (h : List Entry) (noted : List ℕ) → outgoing w (past_of w h) kind.Console ≡ []
    → NotedSoFar w h noted → noted ≡ notes w h
all_noted w h noted none so =
    sym (so ∙ ap (λ cs. noted ++ flat_map note_of cs) none ∙ append-nil noted)

waits_as : (past : Past) (c : Call) → AllReceived past
    → (goes_out c && not (some_entry past (brings c))) ≡ is_waiting past c
waits_as past c received = ap (λ b. goes_out c && not b) (sym (received c))

-- where no call waits, each has its outcome
pub none_outstanding : (w : Setting) (h : List Entry) → AreSettled w h → outgoing w (past_of w h) kind.Console ≡ []
    → outgoing w (past_of w h) kind.Remote ≡ [] → outstanding (past_of w h) ≡ []
none_outstanding w h s no_console no_remote =
    none_kept (λ c. goes_out c && not (some_entry past (brings c))) (calls past)
    (λ i c there. waits_as past c s.received
    ∙ neither (is_waiting past c) (kind_of w past c)
    (each_off (waits_out w past kind.Console) (calls past) i c no_console there)
    (each_off (waits_out w past kind.Remote) (calls past) i c no_remote there))
  where
    past : Past
    past = past_of w h

    off : (b : Bool) → (b && true) ≡ false → b ≡ false
    off true g = g
    off false g = refl

    neither : (b : Bool) (k : OutKind) → (b && same_kind kind.Console k) ≡ false
        → (b && same_kind kind.Remote k) ≡ false
        → b ≡ false
    neither b kind.Console g r = off b g
    neither b kind.Remote g r = off b r

-- where each has its outcome, none waits
pub quiet_none : (w : Setting) (h : List Entry) (k : OutKind) → AreSettled w h → outstanding (past_of w h) ≡ []
    → outgoing w (past_of w h) k ≡ []
quiet_none w h k s none =
    none_kept (waits_out w past k) (calls past)
    (λ i c there. ap (λ b. b && same_kind k (kind_of w past c))
    (sym (waits_as past c s.received)
    ∙ each_off (λ d. goes_out d && not (some_entry past (brings d))) (calls past) i c none there))
  where
    past : Past
    past = past_of w h

-- ---- entries that have nothing to do with calls

silent_by : (actor : ℕ) (a : Act) → is_silent (entry actor a) ≡ true
    → (is_inward (entry actor a) ≡ true) × (sent_in (entry actor a) ≡ None)
silent_by actor (act.Send k port op v wants r) h = absurd (true≢false (sym h))
silent_by actor (act.Fetch s k) h = absurd (true≢false (sym h))
silent_by actor (act.Answered s k o) h = absurd (true≢false (sym h))
silent_by actor a h = (refl, refl)

-- they let the calls wait as they wait
pub waits_on : (w : Setting) (h : List Entry) (e : Entry) (k : OutKind) → is_silent e ≡ true → IsLegal w (h ++ e ∷ [])
    → outgoing w (past_of w (h ++ e ∷ [])) k ≡ outgoing w (past_of w h) k
waits_on w h e k silent legal =
    let s = silent_by e.actor e.act silent in
    outgoing_on w h e k s.0 legal
    ∙ ap (λ o. outgoing w (past_of w h) k ++ filter (goes_to w (past_of w (h ++ e ∷ [])) k) (cons_option o [])) s.1
    ∙ append-nil (outgoing w (past_of w h) k)

-- so that no call waits where none waited
pub none_over : (w : Setting) (k : OutKind) (h more : List Entry) → list_all is_silent more ≡ true
    → IsLegal w (h ++ more)
    → outgoing w (past_of w h) k ≡ [] → outgoing w (past_of w (h ++ more)) k ≡ []
none_over w k h more silent legal none =
    over_all w is_silent (λ g. outgoing w (past_of w g) k ≡ [])
    (λ g e s l n. waits_on w g e k s l ∙ n) h more silent legal none

-- and each call has its outcome where each had it
pub received_over : (w : Setting) (h more : List Entry) → list_all is_silent more ≡ true → IsLegal w (h ++ more)
    → AreSettled w h → outstanding (past_of w h) ≡ [] → outstanding (past_of w (h ++ more)) ≡ []
received_over w h more silent legal settled none =
    none_outstanding w (h ++ more)
    (over_all w is_silent (AreSettled w)
    (λ g e s l x. settled_on w g e (silent_by e.actor e.act s).0 l x) h more silent legal settled)
    (none_over w kind.Console h more silent legal (quiet_none w h kind.Console settled none))
    (none_over w kind.Remote h more silent legal (quiet_none w h kind.Remote settled none))
