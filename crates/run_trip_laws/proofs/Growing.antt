-- What one entry more of a legal history leaves of calls: their kinds, and what waits.
use Rattle.std.proofs.Common.{◌≡◌, ℕ, Bool, true, false, cond, not, ◌&&◌, List, [], ◌∷◌, ◌++◌, refl}
use Rattle.std.proofs.Common.{sym, ap, subst, ◌∙◌, Option, None, Some, true≢false, slice_get, filter}
use Rattle.std.proofs.Common.{is_some, nat_eq, option_and_then, if◌then◌else◌}
use Rattle.std.specs.List.{cons_option}
use Rattle.std.proofs.lemmas.List.Elements.{filter-append, filter_map-append}
use Rattle.behaviour_tree.specs.Data.{PortPart, ServicePart}
use Rattle.office_core.specs.declared.history.Act.{Act}
use Rattle.office_core.specs.declared.history.Act.TheVariants as act
use Rattle.office_core.specs.declared.history.Entry.{Entry}
use Rattle.office_core.specs.declared.message.Call.{Call}
use Rattle.office_core.specs.declared.outgoing.OutKind.{OutKind}
use Rattle.office_core.specs.declared.outgoing.OutKind.TheVariants as kind
use Rattle.office_core.specs.Limits.{Setting}
use Rattle.office_core.specs.Past.{Past, nothing_yet, some_entry}
use Rattle.office_core.specs.Sessions.{service_of, has_ended}
use Rattle.office_core.specs.Accepted.{past_of, port_of, then_one, then_all}
use Rattle.office_core.specs.Calls.{calls, sent_in, next_call, fetches, brings, brought_in, goes_out}
use Rattle.office_core.specs.Calls.{kind_of, same_kind, outgoing}
use Rattle.office_core.specs.Legal.{is_acting, is_allowed, IsLegalEntry, AreLegal, IsLegal}
use Rattle.office_core.proofs.Longer.{some_same, given_same}
use Rattle.office_core.proofs.Numbers.{calls_rise}
use Rattle.office_core.proofs.Unborn.{unborn_idle}
use Rattle.office_plain.specs.Entries.{entry}
use Rattle.office_plain.proofs.Acting.{left, right, acting_is_live}
use Rattle.office_plain.proofs.Idle.{caller_born}
use Rattle.office_plain.proofs.Lists.{same_of, none_not_some, eq_true}
use Rattle.office_plain.proofs.Fetching.{waits_out}
use Rattle.office_plain.proofs.Sending.{speaks_of, calls_known, unspoken}
use Rattle.session_turn.proofs.Histories.{past_on, service_stays}
use Rattle.run_record.specs.Outside.{console_calls}
use Rattle.run_trip_laws.specs.Going.{is_inward, goes_to}
use Rattle.run_trip_laws.proofs.Places.{filter_same, fewer}

-- ---- histories

legal_parts_from : (w : Setting) (past : Past) (es : List Entry) (e : Entry)
    → AreLegal w past (es ++ e ∷ []) → AreLegal w past es × IsLegalEntry w (then_all w past es) e
legal_parts_from w past [] e h = (tt, h.0)
legal_parts_from w past (d ∷ es) e h =
    let rest = legal_parts_from w (then_one w past d) es e h.1 in
    ((h.0, rest.0), rest.1)

-- a history that is legal with an entry more is legal without it, and so is the entry
pub legal_parts : (w : Setting) (h : List Entry) (e : Entry)
    → IsLegal w (h ++ e ∷ []) → IsLegal w h × IsLegalEntry w (past_of w h) e
legal_parts w h e legal = legal_parts_from w nothing_yet h e legal

-- an entry of another kind
pub some_stays : (w : Setting) (h : List Entry) (e : Entry) (is_it : Entry → Bool) → is_it e ≡ false
    → some_entry (past_of w (h ++ e ∷ [])) is_it ≡ some_entry (past_of w h) is_it
some_stays w h e is_it off = ap (λ p. some_entry p is_it) (past_on w h e) ∙ some_same w (past_of w h) e is_it off

-- ---- who calls

-- the session of a call of a legal history was born
pub caller : (w : Setting) (h : List Entry) (i : ℕ) (c : Call) → IsLegal w h
    → slice_get (calls (past_of w h)) i ≡ Some c
    → (d : ℕ) × (service_of w (past_of w h) c.session ≡ Some d)
caller w h i c legal there = by (service_of w (past_of w h) c.session) refl
  where
    by : (g : Option ℕ) → service_of w (past_of w h) c.session ≡ g
        → (d : ℕ) × (service_of w (past_of w h) c.session ≡ Some d)
    by None e = absurd (caller_born w (past_of w h) i c (unborn_idle w h c.session legal) there e)
    by (Some d) e = (d, e)

-- the ports of a session that was born stay
pub port_stays : (w : Setting) (h : List Entry) (e : Entry) (s n d : ℕ) → service_of w (past_of w h) s ≡ Some d
    → port_of w (past_of w (h ++ e ∷ [])) s n ≡ port_of w (past_of w h) s n
port_stays w h e s n d born =
    ap
    (λ g. option_and_then (λ (x : ServicePart). slice_get x.ports n) (option_and_then (slice_get w.parts.services) g))
    (service_stays w h e s d born ∙ sym born)

-- and so does the kind of its calls
pub kind_stays : (w : Setting) (h : List Entry) (e : Entry) (c : Call) (d : ℕ)
    → service_of w (past_of w h) c.session ≡ Some d
    → kind_of w (past_of w (h ++ e ∷ [])) c ≡ kind_of w (past_of w h) c
kind_stays w h e c d born =
    ap (λ (g : Option PortPart). if is_some g then kind.Remote else kind.Console)
    (port_stays w h e c.session c.port d born)

-- ---- the call that an entry sends

-- the call that an entry sends, where it does
abbrev pub sent_by : Entry → List Call
sent_by e = cons_option (sent_in e) []

pub calls_on : (w : Setting) (h : List Entry) (e : Entry)
    → calls (past_of w (h ++ e ∷ [])) ≡ calls (past_of w h) ++ sent_by e
calls_on w h e = ap calls (past_on w h e) ∙ filter_map-append sent_in (past_of w h).entries (e ∷ [])

pub calls_stay : (w : Setting) (h : List Entry) (e : Entry) → sent_in e ≡ None
    → calls (past_of w (h ++ e ∷ [])) ≡ calls (past_of w h)
calls_stay w h e none = ap calls (past_on w h e) ∙ given_same w (past_of w h) e sent_in none

-- A call that is new: its session was born, and nobody fetched it or received its outcome.
pub record IsNewCall (w : Setting) (past : Past) (c : Call) : Type 0 where
  pub service : ℕ
  pub born : service_of w past c.session ≡ Some service
  pub unfetched : some_entry past (fetches c) ≡ false
  pub outstanding : some_entry past (brings c) ≡ false

fetching_speaks : (c : Call) (actor : ℕ) (a : Act)
    → fetches c (entry actor a) ≡ true → speaks_of c (entry actor a) ≡ true
fetching_speaks c actor (act.Fetch s k) h = h
fetching_speaks c actor a h = absurd (true≢false (sym h))

bringing_speaks : (c : Call) (actor : ℕ) (a : Act)
    → brings c (entry actor a) ≡ true → speaks_of c (entry actor a) ≡ true
bringing_speaks c actor (act.Answered s k o) h = by (nat_eq s c.session && nat_eq k c.number) h
  where
    by : (b : Bool) → is_some (if b then Some o else None) ≡ true → b ≡ true
    by true g = refl
    by false g = absurd (true≢false (sym g))
bringing_speaks c actor a h = absurd (true≢false (sym h))

acting_born : (w : Setting) (past : Past) (s : ℕ) → is_acting w past s ≡ true
    → (d : ℕ) × (service_of w past s ≡ Some d)
acting_born w past s h = by (service_of w past s) refl
  where
    lives : is_some (service_of w past s) ≡ true
    lives = left (is_some (service_of w past s)) (not (has_ended past s)) (acting_is_live w past s h)

    by : (g : Option ℕ) → service_of w past s ≡ g → (d : ℕ) × (service_of w past s ≡ Some d)
    by None e = absurd (true≢false (sym lives ∙ ap is_some e))
    by (Some d) e = (d, e)

new_call : (w : Setting) (h : List Entry) (c : Call) → IsLegal w h → is_acting w (past_of w h) c.session ≡ true
    → nat_eq c.number (next_call (past_of w h) c.session) ≡ true → IsNewCall w (past_of w h) c
new_call w h c legal acts next =
    let past : Past = past_of w h in
    let born = acting_born w past c.session acts in
    let unsaid : some_entry past (speaks_of c) ≡ false =
    unspoken past c (calls_known w h legal) (calls_rise w h c.session legal)
    (eq_true c.number (next_call past c.session) next) in
    record {
      service = born.0;
      born = born.1;
      unfetched = fewer (fetches c) (speaks_of c) past.entries (λ e. fetching_speaks c e.actor e.act) unsaid;
      outstanding = fewer (brings c) (speaks_of c) past.entries (λ e. bringing_speaks c e.actor e.act) unsaid;
    }

new_by : (w : Setting) (h : List Entry) (s : ℕ) (a : Act) (c : Call) → IsLegal w h
    → is_allowed w (past_of w h) s a ≡ true
    → sent_in (entry s a) ≡ Some c → IsNewCall w (past_of w h) c
new_by w h s (act.Send k port op v wants r) c legal allowed sent =
    let x : Call =
    record { session = s; number = k; port = port; op = op; value = v; wants = wants; placed = r } in
    subst (IsNewCall w (past_of w h)) (same_of x c sent)
    (new_call w h x legal
    (left (is_acting w (past_of w h) s) (nat_eq k (next_call (past_of w h) s)) allowed)
    (right (is_acting w (past_of w h) s) (nat_eq k (next_call (past_of w h) s)) allowed))
new_by w h s a c legal allowed sent = absurd (none_not_some c sent)

-- the call that a legal entry sends is new
pub sends_new : (w : Setting) (h : List Entry) (e : Entry) (c : Call) → IsLegal w (h ++ e ∷ []) → sent_in e ≡ Some c
    → IsNewCall w (past_of w h) c
sends_new w h e c legal sent =
    let parts = legal_parts w h e legal in
    new_by w h e.actor e.act c parts.0 (parts.1).allowed sent

-- ---- an entry that fetches nothing and brings nothing

unfetching : (c : Call) (actor : ℕ) (a : Act) → is_inward (entry actor a) ≡ true → fetches c (entry actor a) ≡ false
unfetching c actor (act.Fetch s k) h = absurd (true≢false (sym h))
unfetching c actor a h = refl

unbringing : (c : Call) (actor : ℕ) (a : Act) → is_inward (entry actor a) ≡ true → brought_in c (entry actor a) ≡ None
unbringing c actor (act.Answered s k o) h = absurd (true≢false (sym h))
unbringing c actor a h = refl

-- it fetches no call
pub fetches_not : (c : Call) (e : Entry) → is_inward e ≡ true → fetches c e ≡ false
fetches_not c e h = unfetching c e.actor e.act h

-- it brings nothing for any call
pub brings_not : (c : Call) (e : Entry) → is_inward e ≡ true → brought_in c e ≡ None
brings_not c e h = unbringing c e.actor e.act h

-- ---- what waits

-- a call that was there waits as before
waits_same : (w : Setting) (h : List Entry) (e : Entry) (k : OutKind) (i : ℕ) (c : Call) → IsLegal w h
    → fetches c e ≡ false → slice_get (calls (past_of w h)) i ≡ Some c
    → waits_out w (past_of w (h ++ e ∷ [])) k c ≡ waits_out w (past_of w h) k c
waits_same w h e k i c legal off there =
    let born = caller w h i c legal there in
    λ j. (goes_out c && not (some_stays w h e (fetches c) off j)) && same_kind k (kind_stays w h e c born.0 born.1 j)

-- a new call waits where it goes out
waits_new : (w : Setting) (past : Past) (k : OutKind) (c : Call) → some_entry past (fetches c) ≡ false
    → waits_out w past k c ≡ goes_to w past k c
waits_new w past k c off =
    ap (λ b. (goes_out c && not b) && same_kind k (kind_of w past c)) off
    ∙ ap (λ b. b && same_kind k (kind_of w past c)) (and_true (goes_out c))
  where
    and_true : (b : Bool) → (b && not false) ≡ b
    and_true true = refl
    and_true false = refl

-- the new call among those of a kind
abbrev pub new_to : Setting → Past → OutKind → Entry → List Call
new_to w past k e = filter (goes_to w past k) (sent_by e)

-- what waits is what waited, and the new call
pub outgoing_on : (w : Setting) (h : List Entry) (e : Entry) (k : OutKind) → is_inward e ≡ true
    → IsLegal w (h ++ e ∷ [])
    → outgoing w (past_of w (h ++ e ∷ [])) k
    ≡ outgoing w (past_of w h) k ++ new_to w (past_of w (h ++ e ∷ [])) k e
outgoing_on w h e k off legal =
    ap (filter (waits_out w next k)) (calls_on w h e)
    ∙ filter-append (waits_out w next k) (calls (past_of w h)) (sent_by e)
    ∙ (λ i. old i ++ new (sent_in e) refl i)
  where
    next : Past
    next = past_of w (h ++ e ∷ [])

    old : filter (waits_out w next k) (calls (past_of w h)) ≡ outgoing w (past_of w h) k
    old =
        filter_same (waits_out w (past_of w h) k) (waits_out w next k) (calls (past_of w h))
        (λ i c there. waits_same w h e k i c (legal_parts w h e legal).0 (fetches_not c e off) there)

    new : (o : Option Call) → sent_in e ≡ o
        → filter (waits_out w next k) (cons_option o []) ≡ filter (goes_to w next k) (cons_option o [])
    new None q = refl
    new (Some c) q =
        ap (λ b. cond b (c ∷ []) [])
        (waits_new w next k c
        (some_stays w h e (fetches c) (fetches_not c e off) ∙ (sends_new w h e c legal q).unfetched))

-- a call that was there goes to where it went
pub goes_same : (w : Setting) (h : List Entry) (e : Entry) (k : OutKind) (i : ℕ) (c : Call) → IsLegal w h
    → slice_get (calls (past_of w h)) i ≡ Some c
    → goes_to w (past_of w (h ++ e ∷ [])) k c ≡ goes_to w (past_of w h) k c
goes_same w h e k i c legal there =
    let born = caller w h i c legal there in
    ap (λ x. goes_out c && same_kind k x) (kind_stays w h e c born.0 born.1)

-- the calls to the console are those that were, and the new one
pub consoles_on : (w : Setting) (h : List Entry) (e : Entry) → IsLegal w h
    → console_calls w (past_of w (h ++ e ∷ []))
    ≡ console_calls w (past_of w h) ++ new_to w (past_of w (h ++ e ∷ [])) kind.Console e
consoles_on w h e legal =
    ap (filter (goes_to w next kind.Console)) (calls_on w h e)
    ∙ filter-append (goes_to w next kind.Console) (calls (past_of w h)) (sent_by e)
    ∙ ap (λ cs. cs ++ new_to w next kind.Console e)
    (filter_same (goes_to w (past_of w h) kind.Console) (goes_to w next kind.Console) (calls (past_of w h))
    (λ i c there. goes_same w h e kind.Console i c legal there))
  where
    next : Past
    next = past_of w (h ++ e ∷ [])
