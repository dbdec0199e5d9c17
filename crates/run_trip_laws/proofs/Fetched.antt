-- The oldest call of a kind that waits is fetched, and its outcome is received: what waits then.
use Rattle.std.proofs.Common.{◌≡◌, ℕ, ◌+◌, Bool, true, false, not, ◌&&◌, ◌||◌, List, [], ◌∷◌, ◌++◌}
use Rattle.std.proofs.Common.{drop, refl, sym, ap, subst, ◌∙◌, Option, None, Some, option_map, true≢false, zero-add}
use Rattle.std.proofs.Common.{slice_get, filter, filter_map, is_some, nat_eq, option_and_then, if◌then◌else◌}
use Rattle.std.specs.List.{cons_option}
use Rattle.behaviour_tree.specs.declared.words.Outcome.{Outcome}
use Rattle.behaviour_tree.specs.declared.words.Outcome.TheVariants as outcome
use Rattle.jolie_trees.specs.Trees.{void_tree}
use Rattle.office_core.specs.declared.history.Act.TheVariants as act
use Rattle.office_core.specs.declared.history.Entry.{Entry}
use Rattle.office_core.specs.declared.history.Placed.{Placed}
use Rattle.office_core.specs.declared.history.Placed.TheVariants as at
use Rattle.office_core.specs.declared.message.Call.{Call}
use Rattle.office_core.specs.declared.outgoing.Outgoing.{Outgoing}
use Rattle.office_core.specs.declared.outgoing.OutKind.{OutKind}
use Rattle.office_core.specs.declared.outgoing.OutKind.TheVariants as kind
use Rattle.office_core.specs.Limits.{Setting}
use Rattle.office_core.specs.Past.{Past, some_entry}
use Rattle.office_core.specs.Sessions.{service_of}
use Rattle.office_core.specs.Keys.{first}
use Rattle.office_core.specs.Accepted.{then_one}
use Rattle.office_core.specs.Calls.{calls, call, is_call, fetches, brings, brought_in, goes_out, is_waiting, kind_of}
use Rattle.office_core.specs.Calls.{same_kind, outgoing}
use Rattle.office_core.specs.Legal.{is_fetched}
use Rattle.office_core.proofs.Longer.{some_more, some_same, some_now, given_same, given_more}
use Rattle.office_core.proofs.Numbers.{Numbered}
use Rattle.office_plain.specs.Entries.{entry}
use Rattle.office_plain.specs.Kept.{unfetched}
use Rattle.office_plain.specs.Replies.{going, next_outgoing}
use Rattle.office_plain.proofs.Acting.{left, right, not_true}
use Rattle.office_plain.proofs.CallPlaces.{call_at, one_place, seated, Seated}
use Rattle.office_plain.proofs.Lists.{same_of, none_not_some, itself}
use Rattle.office_plain.proofs.Stays.{calls_stay}
use Rattle.office_plain.proofs.Bringing.{nothing_given}
use Rattle.office_plain.proofs.Fetching.{First, waits_out, waiting_first, no_first, queue_left, queue_stays}
use Rattle.run_record.specs.Outside.{console_calls}
use Rattle.run_trip_laws.specs.Going.{goes_to, AllReceived, ReceivedVoid}
use Rattle.run_trip_laws.proofs.Places.{filter_same, at_front, by_places}

-- ---- the oldest call

-- The oldest call of a kind that waits, as it goes out.
pub record IsNext (w : Setting) (past : Past) (k : OutKind) (out : Outgoing) : Type 0 where
  pub found : Call
  pub service : ℕ
  pub leads : first (outgoing w past k) ≡ Some found
  pub born : service_of w past found.session ≡ Some service
  pub is : going found service ≡ out

next_of : (w : Setting) (past : Past) (k : OutKind) (out : Outgoing) (c : Call) (g : Option ℕ)
    → first (outgoing w past k) ≡ Some c → service_of w past c.session ≡ g → option_map (going c) g ≡ Some out
    → IsNext w past k out
next_of w past k out c None leads born h = absurd (none_not_some out h)
next_of w past k out c (Some d) leads born h =
    record { found = c; service = d; leads = leads; born = born; is = same_of (going c d) out h }

pub next_is : (w : Setting) (past : Past) (k : OutKind) (out : Outgoing) → next_outgoing w past k ≡ Some out
    → IsNext w past k out
next_is w past k out h = by (first (outgoing w past k)) refl h
  where
    by : (o : Option Call) → first (outgoing w past k) ≡ o
        → option_and_then (λ c. option_map (going c) (service_of w past c.session)) o ≡ Some out → IsNext w past k out
    by None e g = absurd (none_not_some out g)
    by (Some c) e g = next_of w past k out c (service_of w past c.session) e refl g

-- A call is the oldest of a kind that waits.
pub record IsOldest (w : Setting) (past : Past) (k : OutKind) (c : Call) : Type 0 where
  pub leads : first (outgoing w past k) ≡ Some c
  pub place : ℕ
  pub there : slice_get (calls past) place ≡ Some c
  pub goes : goes_out c ≡ true
  pub unfetched : some_entry past (fetches c) ≡ false
  pub kind_is : kind_of w past c ≡ k
  pub named : call past c.session c.number ≡ Some c

same_kinds : (k l : OutKind) → same_kind k l ≡ true → l ≡ k
same_kinds kind.Console kind.Console h = refl
same_kinds kind.Remote kind.Remote h = refl
same_kinds kind.Console kind.Remote h = absurd (true≢false (sym h))
same_kinds kind.Remote kind.Console h = absurd (true≢false (sym h))

pub oldest_is : (w : Setting) (past : Past) (k : OutKind) (c : Call) → ((s : ℕ) → Numbered past s)
    → first (outgoing w past k) ≡ Some c → IsOldest w past k c
oldest_is w past k c numbered leads =
    let seat : Seated (waits_out w past k) 0 (calls past) 0 c =
    seated (waits_out w past k) 0 (calls past) 0 c (at_front (outgoing w past k) c leads) in
    let waits : is_waiting past c ≡ true = left (is_waiting past c) (same_kind k (kind_of w past c)) seat.is_it in
    record {
      leads = leads;
      place = seat.place;
      there = seat.there;
      goes = left (goes_out c) (not (some_entry past (fetches c))) waits;
      unfetched = not_true (some_entry past (fetches c))
          (right (goes_out c) (not (some_entry past (fetches c))) waits);
      kind_is = same_kinds k (kind_of w past c)
          (right (is_waiting past c) (same_kind k (kind_of w past c)) seat.is_it);
      named = call_at past seat.place c (numbered c.session) seat.there;
    }

-- a call that goes out is placed there
pub placed_out : (p : Placed) → (elim p [ at.Out ↦ true | at.At n ↦ false | at.Refused why ↦ false ]) ≡ true
    → p ≡ at.Out
placed_out at.Out h = refl
placed_out (at.At n) h = absurd (true≢false (sym h))
placed_out (at.Refused why) h = absurd (true≢false (sym h))

-- ---- it is fetched

-- the entry by which an actor fetches a call
abbrev pub fetching : ℕ → Call → Entry
fetching actor c = entry actor (act.Fetch c.session c.number)

-- the entry by which it brings its outcome
abbrev pub bringing : ℕ → Call → Outcome → Entry
bringing actor c o = entry actor (act.Answered c.session c.number o)

-- the place of the oldest call that waits
waiting_place : (w : Setting) (past : Past) (k : OutKind) (c : Call) → first (outgoing w past k) ≡ Some c
    → (p : ℕ) × (first (unfetched w past k) ≡ Some p)
waiting_place w past k c leads = by (first (unfetched w past k)) refl
  where
    by : (o : Option ℕ) → first (unfetched w past k) ≡ o → (p : ℕ) × (first (unfetched w past k) ≡ Some p)
    by None e = absurd (none_not_some c (sym (no_first (waits_out w past k) 0 (calls past) e) ∙ leads))
    by (Some p) e = (p, e)

-- the calls of a kind that wait, by their places
waiting_at : (w : Setting) (past : Past) (k : OutKind)
    → filter_map (slice_get (calls past)) (unfetched w past k) ≡ outgoing w past k
waiting_at w past k =
    by_places (waits_out w past k) (slice_get (calls past)) 0 (calls past)
    (λ j. ap (slice_get (calls past)) (zero-add j))

-- what stands at places, the first of which is known
first_place_out : (get : ℕ → Option Call) (ps : List ℕ) (p : ℕ) (c : Call) → first ps ≡ Some p → get p ≡ Some c
    → filter_map get ps ≡ c ∷ filter_map get (drop 1 ps)
first_place_out get [] p c h there = absurd (none_not_some p h)
first_place_out get (q ∷ ps) p c h there =
    ap (λ o. cons_option o (filter_map get ps)) (ap get (same_of q p h) ∙ there)

-- the oldest waits no more, and the others as before
pub fetched_left : (w : Setting) (past : Past) (actor : ℕ) (k : OutKind) (c : Call) → ((s : ℕ) → Numbered past s)
    → first (outgoing w past k) ≡ Some c
    → outgoing w past k ≡ c ∷ outgoing w (then_one w past (fetching actor c)) k
fetched_left w past actor k c numbered leads =
    subst (λ x. outgoing w past k ≡ x ∷ outgoing w (then_one w past (fetching actor x)) k) is_c
    (sym (waiting_at w past k)
    ∙ first_place_out (slice_get (calls past)) (unfetched w past k) p.0 f.found p.1 here
    ∙ ap (λ cs. f.found ∷ cs) after)
  where
    p : (n : ℕ) × (first (unfetched w past k) ≡ Some n)
    p = waiting_place w past k c leads

    f : First (waits_out w past k) 0 (calls past) p.0
    f = waiting_first w past k p.0 p.1

    here : slice_get (calls past) p.0 ≡ Some f.found
    here = ap (slice_get (calls past)) (f.number ∙ zero-add f.place) ∙ f.there

    is_c : f.found ≡ c
    is_c = same_of f.found c (sym f.leads ∙ leads)

    e : Entry
    e = fetching actor f.found

    after : filter_map (slice_get (calls past)) (drop 1 (unfetched w past k)) ≡ outgoing w (then_one w past e) k
    after =
        sym (λ i. filter_map (slice_get (calls_stay w past e refl i))
        (queue_left w past actor p.0 k f p.1 (numbered f.found.session) i))
        ∙ waiting_at w (then_one w past e) k

-- the calls of another kind wait as before
pub fetched_others : (w : Setting) (past : Past) (actor : ℕ) (k l : OutKind) (c : Call) → ((s : ℕ) → Numbered past s)
    → first (outgoing w past k) ≡ Some c → same_kind l k ≡ false
    → outgoing w (then_one w past (fetching actor c)) l ≡ outgoing w past l
fetched_others w past actor k l c numbered leads differs =
    subst (λ x. outgoing w (then_one w past (fetching actor x)) l ≡ outgoing w past l) is_c
    (sym (waiting_at w (then_one w past e) l)
    ∙ (λ i. filter_map (slice_get (calls_stay w past e refl i))
    (queue_stays w past actor p.0 k l f differs (numbered f.found.session) i))
    ∙ waiting_at w past l)
  where
    p : (n : ℕ) × (first (unfetched w past k) ≡ Some n)
    p = waiting_place w past k c leads

    f : First (waits_out w past k) 0 (calls past) p.0
    f = waiting_first w past k p.0 p.1

    is_c : f.found ≡ c
    is_c = same_of f.found c (sym f.leads ∙ leads)

    e : Entry
    e = fetching actor f.found

-- while its outcome is not there, it is fetched
pub is_fetched_now : (w : Setting) (past : Past) (actor : ℕ) (k : OutKind) (c : Call) → AllReceived past
    → IsOldest w past k c → is_fetched (then_one w past (fetching actor c)) actor c.session c.number ≡ true
is_fetched_now w past actor k c received old =
    ap
    (λ o. elim o [
      | None ↦ false
      | Some d ↦ some_entry next (λ e. nat_eq actor e.actor && fetches d e) && not (some_entry next (brings d))
    ])
    (ap (λ cs. first (filter (is_call c.session c.number) cs)) (calls_stay w past (fetching actor c) refl) ∙ old.named)
    ∙ (λ i. fetched_by i && not (outstanding i))
  where
    next : Past
    next = then_one w past (fetching actor c)

    mine : (nat_eq actor actor && is_call c.session c.number c) ≡ true
    mine = λ i. itself actor i && (itself c.session i && itself c.number i)

    fetched_by : some_entry next (λ e. nat_eq actor e.actor && fetches c e) ≡ true
    fetched_by = some_now w past (fetching actor c) (λ e. nat_eq actor e.actor && fetches c e) mine

    outstanding : some_entry next (brings c) ≡ false
    outstanding =
        some_same w past (fetching actor c) (brings c) refl ∙ sym (received c) ∙ old.unfetched

-- ---- and its outcome is received

-- what happened once both entries stand
abbrev pub out_and_back : Setting → Past → ℕ → Call → Outcome → Past
out_and_back w past actor c o = then_one w (then_one w past (fetching actor c)) (bringing actor c o)

pub calls_back : (w : Setting) (past : Past) (actor : ℕ) (c : Call) (o : Outcome)
    → calls (out_and_back w past actor c o) ≡ calls past
calls_back w past actor c o =
    calls_stay w (then_one w past (fetching actor c)) (bringing actor c o) refl
    ∙ calls_stay w past (fetching actor c) refl

-- the outcome that is received lets the calls wait as they wait
received_stays : (w : Setting) (past : Past) (actor : ℕ) (c : Call) (o : Outcome) (k : OutKind)
    → outgoing w (then_one w past (bringing actor c o)) k ≡ outgoing w past k
received_stays w past actor c o k =
    ap (filter (waits_out w (then_one w past e) k)) (calls_stay w past e refl)
    ∙ filter_same (waits_out w past k) (waits_out w (then_one w past e) k) (calls past)
    (λ i d there. λ j. (goes_out d && not (some_same w past e (fetches d) refl j)) && same_kind k (kind_of w past d))
  where
    e : Entry
    e = bringing actor c o

-- the oldest waits no more
pub back_left : (w : Setting) (past : Past) (actor : ℕ) (k : OutKind) (c : Call) (o : Outcome)
    → ((s : ℕ) → Numbered past s)
    → first (outgoing w past k) ≡ Some c → outgoing w past k ≡ c ∷ outgoing w (out_and_back w past actor c o) k
back_left w past actor k c o numbered leads =
    fetched_left w past actor k c numbered leads
    ∙ ap (λ cs. c ∷ cs) (sym (received_stays w (then_one w past (fetching actor c)) actor c o k))

-- and those of another kind as before
pub back_others : (w : Setting) (past : Past) (actor : ℕ) (k l : OutKind) (c : Call) (o : Outcome)
    → ((s : ℕ) → Numbered past s)
    → first (outgoing w past k) ≡ Some c → same_kind l k ≡ false
    → outgoing w (out_and_back w past actor c o) l ≡ outgoing w past l
back_others w past actor k l c o numbered leads differs =
    received_stays w (then_one w past (fetching actor c)) actor c o l
    ∙ fetched_others w past actor k l c numbered leads differs

-- the calls to the console are those that were
pub back_consoles : (w : Setting) (past : Past) (actor : ℕ) (c : Call) (o : Outcome)
    → console_calls w (out_and_back w past actor c o) ≡ console_calls w past
back_consoles w past actor c o = ap (filter (goes_to w past kind.Console)) (calls_back w past actor c o)

-- each call that was fetched has its outcome again
pub back_received : (w : Setting) (past : Past) (actor : ℕ) (c : Call) (o : Outcome) → AllReceived past
    → AllReceived (out_and_back w past actor c o)
back_received w past actor c o received d = fetched ∙ by (is_call c.session c.number d) ∙ sym bringed
  where
    one : Past
    one = then_one w past (fetching actor c)

    fetched : some_entry (out_and_back w past actor c o) (fetches d)
        ≡ (some_entry past (fetches d) || is_call c.session c.number d)
    fetched = some_same w one (bringing actor c o) (fetches d) refl ∙ some_more w past (fetching actor c) (fetches d)

    bringed : some_entry (out_and_back w past actor c o) (brings d)
        ≡ (some_entry past (brings d) || is_some (if is_call c.session c.number d then Some o else None))
    bringed =
        some_more w one (bringing actor c o) (brings d)
        ∙ ap (λ b. b || is_some (if is_call c.session c.number d then Some o else None))
        (some_same w past (fetching actor c) (brings d) refl)

    by : (b : Bool)
        → (some_entry past (fetches d) || b) ≡ (some_entry past (brings d) || is_some (if b then Some o else None))
    by true = ap (λ x. x || true) (received d)
    by false = ap (λ x. x || false) (received d)

-- what was received for the call
pub outcome_back : (w : Setting) (past : Past) (actor : ℕ) (k : OutKind) (c : Call) (o : Outcome) → AllReceived past
    → IsOldest w past k c → filter_map (brought_in c) (out_and_back w past actor c o).entries ≡ o ∷ []
outcome_back w past actor k c o received old =
    given_more w (then_one w past (fetching actor c)) (bringing actor c o) (brought_in c) o mine
    ∙ ap (λ os. os ++ o ∷ [])
    (given_same w past (fetching actor c) (brought_in c) refl
    ∙ nothing_given past.entries (brought_in c) (sym (received c) ∙ old.unfetched))
  where
    mine : brought_in c (bringing actor c o) ≡ Some o
    mine = λ i. if itself c.session i && itself c.number i then Some o else None

-- what was received for another call
outcome_else : (w : Setting) (past : Past) (actor : ℕ) (c d : Call) (o : Outcome) → is_call c.session c.number d ≡ false
    → filter_map (brought_in d) (out_and_back w past actor c o).entries ≡ filter_map (brought_in d) past.entries
outcome_else w past actor c d o other =
    given_same w (then_one w past (fetching actor c)) (bringing actor c o) (brought_in d)
    (ap (λ b. if b then Some o else None) other)
    ∙ given_same w past (fetching actor c) (brought_in d) refl

-- what was received for calls to the console is void, where that which is received now is
pub back_void : (w : Setting) (past : Past) (actor : ℕ) (k : OutKind) (c : Call) (o : Outcome)
    → ((s : ℕ) → Numbered past s)
    → AllReceived past → IsOldest w past k c → (same_kind kind.Console k ≡ true → o ≡ outcome.Value void_tree)
    → ReceivedVoid w past → ReceivedVoid w (out_and_back w past actor c o)
back_void w past actor k c o numbered received old is_void void i d x there goes has =
    by (is_call c.session c.number d) refl
  where
    at_i : slice_get (calls past) i ≡ Some d
    at_i = ap (λ cs. slice_get cs i) (sym (calls_back w past actor c o)) ∙ there

    same : is_call c.session c.number d ≡ true → d ≡ c
    same is_it =
        same_of d c
        (sym at_i
        ∙ ap (slice_get (calls past))
        (one_place past c.session c.number i old.place d c (numbered c.session) at_i is_it old.there
        (λ j. itself c.session j && itself c.number j))
        ∙ old.there)

    to_console : d ≡ c → same_kind kind.Console k ≡ true
    to_console q =
        ap (same_kind kind.Console) (sym old.kind_is)
        ∙ ap (λ z. same_kind kind.Console (kind_of w past z)) (sym q)
        ∙ right (goes_out d) (same_kind kind.Console (kind_of w past d)) goes

    by : (b : Bool) → is_call c.session c.number d ≡ b → x ≡ outcome.Value void_tree
    by true is_it =
        let q : d ≡ c = same is_it in
        sym (same_of o x
        (sym (ap first (ap (λ z. filter_map (brought_in z) (out_and_back w past actor c o).entries) q
        ∙ outcome_back w past actor k c o received old))
        ∙ has))
        ∙ is_void (to_console q)
    by false other = void i d x at_i goes (sym (ap first (outcome_else w past actor c d o other)) ∙ has)
