-- A call that goes out is fetched: it leaves its queue, and all else stays tied.
use Rattle.std.proofs.Common.{◌≡◌, ◌≢◌, ◌≤◌, ◌<◌, ℕ, suc, ◌+◌, Bool, true, false, not, ◌&&◌, List, [], ◌∷◌, ◌++◌, length, drop, refl, sym, ap, subst, ◌∙◌, Option, None, Some, option_map, true≢false, zero-add, arith}
use Rattle.std.specs.Prelude.{nat_eq, slice_get, if◌then◌else◌, option_and_then}
use Rattle.std.specs.List.{filter}
use Rattle.jolie_trees.specs.Limits.{in_u64}
use Rattle.office_core.specs.declared.message.Call.{Call}
use Rattle.office_core.specs.declared.message.Message.{Message}
use Rattle.office_core.specs.declared.history.Act.TheVariants as act
use Rattle.office_core.specs.declared.history.Entry.{Entry}
use Rattle.office_core.specs.declared.outgoing.OutKind.{OutKind}
use Rattle.office_core.specs.declared.outgoing.OutKind.TheVariants as kind
use Rattle.office_core.specs.Limits.{Setting}
use Rattle.office_core.specs.Past.{Past}
use Rattle.office_core.specs.declared.outgoing.Outgoing.{Outgoing}
use Rattle.office_core.specs.Sessions.{service_of, was_adopted, has_ended, ends}
use Rattle.office_core.specs.Keys.{first}
use Rattle.office_core.specs.Accepted.{then_one}
use Rattle.office_core.specs.Calls.{call, calls, is_call, fetches, goes_out, is_waiting, kind_of, same_kind, outgoing}
use Rattle.office_core.specs.Legal.{is_at_work, IsLegalEntry}
use Rattle.office_core.proofs.Longer.{some_same, some_now, messages_same}
use Rattle.office_core.proofs.Numbers.{Numbered}
use Rattle.office_plain.specs.declared.kept.Kept.{Kept}
use Rattle.office_plain.specs.declared.kept.SessionRow.{SessionRow}
use Rattle.office_plain.specs.Entries.{entry}
use Rattle.office_plain.specs.Kept.{places_from, unfetched}
use Rattle.office_plain.specs.Replies.{going, next_outgoing}
use Rattle.office_plain.specs.Rows.{going_from, queue_of}
use Rattle.office_plain.specs.Ties.{Ties}
use Rattle.office_plain.proofs.Acting.{right}
use Rattle.office_plain.proofs.CallPlaces.{call_at, one_place}
use Rattle.office_plain.proofs.Lists.{same_of, none_not_some, itself, eq_true, eq_false}
use Rattle.office_plain.specs.Ways.{queue_after}
use Rattle.office_plain.proofs.Stays.{row_by, weight_stays, row_stays, places_stay, waiting_stays, answers_stay, standings_stay, keyed_sessions_stay, calls_stay, brought_stays}

-- ---- the first place

-- the first place of a kind, behind base others: the first call of the kind stands there
pub record First (q : Call → Bool) (base : ℕ) (cs : List Call) (p : ℕ) : Type 0 where
  pub place : ℕ
  pub number : p ≡ base + place
  pub found : Call
  pub there : slice_get cs place ≡ Some found
  pub is_it : q found ≡ true
  pub leads : first (filter q cs) ≡ Some found

behind : (p base j : ℕ) → p ≡ suc base + j → p ≡ base + suc j
behind p base j h = omega arith

itself_more : (base p : ℕ) → base ≡ p → p ≡ base + 0
itself_more base p h = omega arith

first_head : (q : Call → Bool) (base : ℕ) (c : Call) (cs : List Call) (p : ℕ) (b : Bool) → q c ≡ b
    → (first (places_from q (suc base) cs) ≡ Some p → First q (suc base) cs p)
    → first (places_from q base (c ∷ cs)) ≡ Some p → First q base (c ∷ cs) p
first_head q base c cs p true e next h =
    record {
      place = 0;
      number = itself_more base p (same_of base p (sym (ap (λ b. first ((if b then base ∷ [] else []) ++ places_from q (suc base) cs)) e) ∙ h));
      found = c;
      there = refl;
      is_it = e;
      leads = ap (λ b. first (if b then c ∷ filter q cs else filter q cs)) e;
    }
first_head q base c cs p false e next h =
    let seat = next (sym (ap (λ b. first ((if b then base ∷ [] else []) ++ places_from q (suc base) cs)) e) ∙ h) in
    record {
      place = suc seat.place;
      number = behind p base seat.place seat.number;
      found = seat.found;
      there = seat.there;
      is_it = seat.is_it;
      leads = ap (λ b. first (if b then c ∷ filter q cs else filter q cs)) e ∙ seat.leads;
    }

pub first_place : (q : Call → Bool) (base : ℕ) (cs : List Call) (p : ℕ)
    → first (places_from q base cs) ≡ Some p → First q base cs p
first_place q base [] p h = absurd (none_not_some p h)
first_place q base (c ∷ cs) p h = first_head q base c cs p (q c) refl (first_place q (suc base) cs p) h

-- where no place is of a kind, no call is
pub no_first : (q : Call → Bool) (base : ℕ) (cs : List Call) → first (places_from q base cs) ≡ None → first (filter q cs) ≡ None
no_first q base [] h = refl
no_first q base (c ∷ cs) h = by (q c) refl (no_first q (suc base) cs)
  where
    by : (b : Bool) → q c ≡ b → (first (places_from q (suc base) cs) ≡ None → first (filter q cs) ≡ None)
        → first (filter q (c ∷ cs)) ≡ None
    by true e next = absurd (none_not_some base (sym h ∙ ap (λ b. first ((if b then base ∷ [] else []) ++ places_from q (suc base) cs)) e))
    by false e next =
        ap (λ b. first (if b then c ∷ filter q cs else filter q cs)) e
        ∙ next (sym (ap (λ b. first ((if b then base ∷ [] else []) ++ places_from q (suc base) cs)) e) ∙ h)

-- ---- without the first

back : (b j k : ℕ) → b + suc j ≡ k → suc b + j ≡ k
back b j k h = omega arith

forth : (b j k : ℕ) → suc b + j ≡ k → b + suc j ≡ k
forth b j k h = omega arith

above : (b k : ℕ) → k < b → b + 0 ≢ k
above b k h e = omega arith

-- behind the place p two kinds are one
rest_same : (f g : Call → Bool) (p from : ℕ) (ds : List Call)
    → ((j : ℕ) (d : Call) → slice_get ds j ≡ Some d → from + j ≢ p → g d ≡ f d)
    → p < from → places_from g from ds ≡ places_from f from ds
rest_same f g p from [] same less = refl
rest_same f g p from (d ∷ ds) same less =
    let next : p < suc from = omega arith in
    let here : g d ≡ f d = same 0 d refl (above from p less) in
    let after : places_from g (suc from) ds ≡ places_from f (suc from) ds =
    rest_same f g p (suc from) ds (λ j x t n. same (suc j) x t (λ e. n (back from j p e))) next in
    λ i. (if here i then from ∷ [] else []) ++ after i

left_head : (f g : Call → Bool) (base : ℕ) (c : Call) (cs : List Call) (p : ℕ) (b : Bool) → f c ≡ b
    → first (places_from f base (c ∷ cs)) ≡ Some p
    → ((j : ℕ) (d : Call) → slice_get (c ∷ cs) j ≡ Some d → base + j ≡ p → g d ≡ false)
    → ((j : ℕ) (d : Call) → slice_get (c ∷ cs) j ≡ Some d → base + j ≢ p → g d ≡ f d)
    → (first (places_from f (suc base) cs) ≡ Some p → places_from g (suc base) cs ≡ drop 1 (places_from f (suc base) cs))
    → places_from g base (c ∷ cs) ≡ drop 1 (places_from f base (c ∷ cs))
left_head f g base c cs p true e h taken others next =
    let is_base : base ≡ p = same_of base p (sym (ap (λ b. first ((if b then base ∷ [] else []) ++ places_from f (suc base) cs)) e) ∙ h) in
    let none : g c ≡ false = taken 0 c refl (omega arith) in
    let less : p < suc base = omega arith in
    ap (λ b. (if b then base ∷ [] else []) ++ places_from g (suc base) cs) none
    ∙ rest_same f g p (suc base) cs (λ j d t n. others (suc j) d t (λ q. n (back base j p q))) less
    ∙ sym (ap (λ b. drop 1 ((if b then base ∷ [] else []) ++ places_from f (suc base) cs)) e)
left_head f g base c cs p false e h taken others next =
    let later : first (places_from f (suc base) cs) ≡ Some p = sym (ap (λ b. first ((if b then base ∷ [] else []) ++ places_from f (suc base) cs)) e) ∙ h in
    let seat = first_place f (suc base) cs p later in
    let number : p ≡ suc base + seat.place = seat.number in
    let less : base < p = omega arith in
    let none : g c ≡ false = others 0 c refl (below base p less) ∙ e in
    ap (λ b. (if b then base ∷ [] else []) ++ places_from g (suc base) cs) none
    ∙ next later
    ∙ sym (ap (λ b. drop 1 ((if b then base ∷ [] else []) ++ places_from f (suc base) cs)) e)
  where
    below : (b k : ℕ) → b < k → b + 0 ≢ k
    below b k h e = omega arith

-- the places of a kind that all but the first of another kind are of
left_places : (f g : Call → Bool) (base : ℕ) (cs : List Call) (p : ℕ)
    → first (places_from f base cs) ≡ Some p
    → ((j : ℕ) (d : Call) → slice_get cs j ≡ Some d → base + j ≡ p → g d ≡ false)
    → ((j : ℕ) (d : Call) → slice_get cs j ≡ Some d → base + j ≢ p → g d ≡ f d)
    → places_from g base cs ≡ drop 1 (places_from f base cs)
left_places f g base [] p h taken others = refl
left_places f g base (c ∷ cs) p h taken others =
    left_head f g base c cs p (f c) refl h taken others
    (λ q. left_places f g (suc base) cs p q
    (λ j d t e. taken (suc j) d t (forth base j p e))
    (λ j d t n. others (suc j) d t (λ e. n (back base j p e))))

-- the places of kinds that are one at each place
pub places_alike : (f g : Call → Bool) (base : ℕ) (cs : List Call)
    → ((j : ℕ) (d : Call) → slice_get cs j ≡ Some d → g d ≡ f d) → places_from g base cs ≡ places_from f base cs
places_alike f g base [] same = refl
places_alike f g base (c ∷ cs) same =
    let here : g c ≡ f c = same 0 c refl in
    let after : places_from g (suc base) cs ≡ places_from f (suc base) cs = places_alike f g (suc base) cs (λ j d t. same (suc j) d t) in
    λ i. (if here i then base ∷ [] else []) ++ after i

-- ---- the call that is fetched

-- the calls of a kind that wait to be fetched
abbrev pub waits_out : Setting → Past → OutKind → Call → Bool
waits_out w past k c = is_waiting past c && same_kind k (kind_of w past c)

same_kinds : (k l : OutKind) → same_kind k l ≡ true → l ≡ k
same_kinds kind.Console kind.Console h = refl
same_kinds kind.Remote kind.Remote h = refl
same_kinds kind.Console kind.Remote h = absurd (true≢false (sym h))
same_kinds kind.Remote kind.Console h = absurd (true≢false (sym h))

-- the first call that waits to be fetched
pub waiting_first : (w : Setting) (past : Past) (k : OutKind) (p : ℕ)
    → first (unfetched w past k) ≡ Some p → First (waits_out w past k) 0 (calls past) p
waiting_first w past k p h = first_place (waits_out w past k) 0 (calls past) p h

at_its_place : (past : Past) (q : Call → Bool) (p : ℕ) (f : First q 0 (calls past) p) → slice_get (calls past) p ≡ Some f.found
at_its_place past q p f =
    let is_place : p ≡ f.place = f.number ∙ zero-add f.place in
    ap (slice_get (calls past)) is_place ∙ f.there

is_itself : (c : Call) → is_call c.session c.number c ≡ true
is_itself c = ap (λ b. b && nat_eq c.number c.number) (itself c.session) ∙ itself c.number

-- the fetch of the oldest call of a kind is legal
pub legal_fetch : (w : Setting) (past : Past) (actor p : ℕ) (k : OutKind) (f : First (waits_out w past k) 0 (calls past) p)
    → is_at_work past actor ≡ true → Numbered past f.found.session
    → IsLegalEntry w past (entry actor (act.Fetch f.found.session f.found.number))
legal_fetch w past actor p k f works numbered =
    let c : Call = f.found in
    let its_kind : kind_of w past c ≡ k = same_kinds k (kind_of w past c) (right (is_waiting past c) (same_kind k (kind_of w past c)) f.is_it) in
    let named : call past c.session c.number ≡ Some c = call_at past p c numbered (at_its_place past (waits_out w past k) p f) in
    record {
      allowed = works;
      reply = ap (option_map (λ (x : Call). act.Fetch x.session x.number))
          (ap (option_and_then (λ x. first (outgoing w past (kind_of w past x)))) named
          ∙ ap (λ l. first (outgoing w past l)) its_kind ∙ f.leads);
    }

-- ---- what stays tied

-- a call that was fetched waits no more
fetched_now : (w : Setting) (past : Past) (actor : ℕ) (k : OutKind) (c : Call)
    → waits_out w (then_one w past (entry actor (act.Fetch c.session c.number))) k c ≡ false
fetched_now w past actor k c =
    ap (λ b. (goes_out c && not b) && same_kind k (kind_of w (then_one w past e) c)) (some_now w past e (fetches c) (is_itself c))
    ∙ never (goes_out c) (same_kind k (kind_of w (then_one w past e) c))
  where
    e : Entry
    e = entry actor (act.Fetch c.session c.number)

    never : (a b : Bool) → ((a && not true) && b) ≡ false
    never true b = refl
    never false b = refl

-- another call waits as before
fetched_else : (w : Setting) (past : Past) (actor s n : ℕ) (k : OutKind) (d : Call) → is_call s n d ≡ false
    → waits_out w (then_one w past (entry actor (act.Fetch s n))) k d ≡ waits_out w past k d
fetched_else w past actor s n k d other =
    λ i. (goes_out d && not (some_same w past (entry actor (act.Fetch s n)) (fetches d) other i))
    && same_kind k (kind_of w past d)

is_other : (past : Past) (p j : ℕ) (c d : Call) → Numbered past c.session → slice_get (calls past) p ≡ Some c
    → slice_get (calls past) j ≡ Some d → j ≢ p → (b : Bool) → is_call c.session c.number d ≡ b → b ≡ false
is_other past p j c d numbered at_p at_j apart true e =
    absurd (apart (one_place past c.session c.number j p d c numbered at_j e at_p (is_itself c)))
is_other past p j c d numbered at_p at_j apart false e = refl

-- the queue of the kind is without its first
pub queue_left : (w : Setting) (past : Past) (actor p : ℕ) (k : OutKind) (f : First (waits_out w past k) 0 (calls past) p)
    → first (unfetched w past k) ≡ Some p → Numbered past f.found.session
    → unfetched w (then_one w past (entry actor (act.Fetch f.found.session f.found.number))) k ≡ drop 1 (unfetched w past k)
queue_left w past actor p k f h numbered =
    ap (places_from (waits_out w (then_one w past e) k) 0) (calls_stay w past e refl)
    ∙ left_places (waits_out w past k) (waits_out w (then_one w past e) k) 0 (calls past) p h taken others
  where
    e : Entry
    e = entry actor (act.Fetch f.found.session f.found.number)

    here : slice_get (calls past) p ≡ Some f.found
    here = at_its_place past (waits_out w past k) p f

    taken : (j : ℕ) (d : Call) → slice_get (calls past) j ≡ Some d → 0 + j ≡ p → waits_out w (then_one w past e) k d ≡ false
    taken j d t q =
        let is_p : j ≡ p = sym (zero-add j) ∙ q in
        let is_found : d ≡ f.found = same_of d f.found (sym t ∙ ap (slice_get (calls past)) is_p ∙ here) in
        ap (waits_out w (then_one w past e) k) is_found ∙ fetched_now w past actor k f.found

    others : (j : ℕ) (d : Call) → slice_get (calls past) j ≡ Some d → 0 + j ≢ p → waits_out w (then_one w past e) k d ≡ waits_out w past k d
    others j d t n =
        let apart : j ≢ p = λ q. n (zero-add j ∙ q) in
        fetched_else w past actor f.found.session f.found.number k d
        (is_other past p j f.found d numbered here t apart (is_call f.found.session f.found.number d) refl)

-- the queue of the other kind stays
pub queue_stays : (w : Setting) (past : Past) (actor p : ℕ) (k l : OutKind) (f : First (waits_out w past k) 0 (calls past) p)
    → same_kind l k ≡ false → Numbered past f.found.session
    → unfetched w (then_one w past (entry actor (act.Fetch f.found.session f.found.number))) l ≡ unfetched w past l
queue_stays w past actor p k l f differs numbered =
    ap (places_from (waits_out w (then_one w past e) l) 0) (calls_stay w past e refl)
    ∙ places_alike (waits_out w past l) (waits_out w (then_one w past e) l) 0 (calls past) (λ j d t. alike j d t (nat_eq j p) refl)
  where
    e : Entry
    e = entry actor (act.Fetch f.found.session f.found.number)

    here : slice_get (calls past) p ≡ Some f.found
    here = at_its_place past (waits_out w past k) p f

    never : (a b : Bool) → b ≡ false → (a && b) ≡ false
    never true b h = h
    never false b h = refl

    its_kind : kind_of w past f.found ≡ k
    its_kind = same_kinds k (kind_of w past f.found) (right (is_waiting past f.found) (same_kind k (kind_of w past f.found)) f.is_it)

    was_not : waits_out w past l f.found ≡ false
    was_not = never (is_waiting past f.found) (same_kind l (kind_of w past f.found)) (ap (same_kind l) its_kind ∙ differs)

    alike : (j : ℕ) (d : Call) → slice_get (calls past) j ≡ Some d → (b : Bool) → nat_eq j p ≡ b
        → waits_out w (then_one w past e) l d ≡ waits_out w past l d
    alike j d t true q =
        let is_found : d ≡ f.found = same_of d f.found (sym t ∙ ap (slice_get (calls past)) (eq_true j p q) ∙ here) in
        ap (waits_out w (then_one w past e) l) is_found ∙ fetched_now w past actor l f.found
        ∙ sym (ap (waits_out w past l) is_found ∙ was_not)
    alike j d t false q =
        fetched_else w past actor f.found.session f.found.number l d
        (is_other past p j f.found d numbered here t (eq_false j p q) (is_call f.found.session f.found.number d) refl)

queue_fetched : (w : Setting) (past : Past) (actor p : ℕ) (k l : OutKind) (f : First (waits_out w past k) 0 (calls past) p)
    → first (unfetched w past k) ≡ Some p → Numbered past f.found.session
    → queue_after l k (unfetched w past l)
    ≡ unfetched w (then_one w past (entry actor (act.Fetch f.found.session f.found.number))) l
queue_fetched w past actor p kind.Console kind.Console f h numbered = sym (queue_left w past actor p kind.Console f h numbered)
queue_fetched w past actor p kind.Remote kind.Remote f h numbered = sym (queue_left w past actor p kind.Remote f h numbered)
queue_fetched w past actor p kind.Console kind.Remote f h numbered = sym (queue_stays w past actor p kind.Console kind.Remote f refl numbered)
queue_fetched w past actor p kind.Remote kind.Console f h numbered = sym (queue_stays w past actor p kind.Remote kind.Console f refl numbered)

-- after a fetch the call is in no queue
pub ties_fetch : (w : Setting) (past : Past) (actor p : ℕ) (kind_asked : OutKind) (k : Kept) (console remote : List ℕ)
    (f : First (waits_out w past kind_asked) 0 (calls past) p)
    → first (unfetched w past kind_asked) ≡ Some p → Numbered past f.found.session → Ties w past k
    → console ≡ queue_after kind.Console kind_asked k.console
    → remote ≡ queue_after kind.Remote kind_asked k.remote
    → Ties w (then_one w past (entry actor (act.Fetch f.found.session f.found.number)))
    (record k { console = console; remote = remote })
ties_fetch w past actor p kind_asked k console remote f h numbered t console_left remote_left =
    let e : Entry = entry actor (act.Fetch f.found.session f.found.number) in
    record {
      messages = t.messages ∙ sym (messages_same w past e refl);
      few = subst (λ ms. length ms ≤ w.limits.messages) (sym (messages_same w past e refl)) t.few;
      weight = t.weight ∙ ap in_u64 (sym (weight_stays past e refl));
      sessions = λ u. t.sessions u ∙ sym (row_stays w past e u refl refl);
      places = λ u. t.places u ∙ sym (places_stay w past e u refl);
      boxes = λ u q. t.boxes u (sym (some_same w past e (ends u) refl) ∙ q) ∙ sym (waiting_stays w past e u refl);
      origins = λ j. t.origins j ∙ ap (λ ms. option_map (λ (m : Message). m.origin) (slice_get ms j)) (sym (messages_same w past e refl));
      standings = standings_stay w past e k.book (λ j m g. answers_stay w past e j m refl refl refl refl) t.standings;
      keys = t.keys ∙ sym (keyed_sessions_stay w past e (λ u. refl) (λ u. refl));
      sent = t.sent ∙ sym (calls_stay w past e refl);
      outcomes = λ i. t.outcomes i ∙ sym (brought_stays w past e i refl (λ d. refl));
      console = console_left ∙ ap (queue_after kind.Console kind_asked) t.console
          ∙ queue_fetched w past actor p kind_asked kind.Console f h numbered;
      remote = remote_left ∙ ap (queue_after kind.Remote kind_asked) t.remote
          ∙ queue_fetched w past actor p kind_asked kind.Remote f h numbered;
    }

-- ---- what is fetched

-- what is kept of a queue is what waits to be fetched
pub queue_kept : (w : Setting) (past : Past) (k : OutKind) (kept : Kept) → Ties w past kept → slice_get (queue_of kept k) 0 ≡ first (unfetched w past k)
queue_kept w past k kept t = at_first (queue_of kept k) ∙ ap first (by k)
  where
    at_first : (ps : List ℕ) → slice_get ps 0 ≡ first ps
    at_first [] = refl
    at_first (p ∷ ps) = refl

    by : (l : OutKind) → queue_of kept l ≡ unfetched w past l
    by kind.Console = t.console
    by kind.Remote = t.remote

-- the call of the first place of a queue is the next that goes out
pub going_kept : (w : Setting) (past : Past) (p : ℕ) (k : OutKind) (kept : Kept) (f : First (waits_out w past k) 0 (calls past) p)
    → Ties w past kept → going_from kept p ≡ next_outgoing w past k
going_kept w past p k kept f t =
    ap (option_and_then (λ (c : Call). option_map (λ (row : SessionRow). going c row.service) (slice_get kept.sessions c.session)))
    (ap (λ cs. slice_get cs p) t.sent ∙ at_its_place past (waits_out w past k) p f)
    ∙ ap (option_map (λ (row : SessionRow). going f.found row.service)) (t.sessions f.found.session)
    ∙ of_service (service_of w past f.found.session)
    ∙ sym (ap (option_and_then (λ c. option_map (going c) (service_of w past c.session))) f.leads)
  where
    of_service : (o : Option ℕ)
        → option_map (λ (row : SessionRow). going f.found row.service) (option_map (λ d. row_by d (was_adopted past f.found.session) (has_ended past f.found.session)) o)
        ≡ option_map (going f.found) o
    of_service None = refl
    of_service (Some d) = refl

-- where nothing waits in a queue, no call goes out
pub none_going : (w : Setting) (past : Past) (k : OutKind) → first (unfetched w past k) ≡ None → next_outgoing w past k ≡ None
none_going w past k h =
    ap (option_and_then (λ c. option_map (going c) (service_of w past c.session))) (no_first (waits_out w past k) 0 (calls past) h)

-- a call as it goes out has the session and the number of the call
pub goes_as : (w : Setting) (past : Past) (p : ℕ) (k : OutKind) (f : First (waits_out w past k) 0 (calls past) p) (out : Outgoing)
    → next_outgoing w past k ≡ Some out → (out.session ≡ f.found.session) × (out.call ≡ f.found.number)
goes_as w past p k f out h =
    by (service_of w past f.found.session)
    (sym (ap (option_and_then (λ c. option_map (going c) (service_of w past c.session))) f.leads) ∙ h)
  where
    by : (o : Option ℕ) → option_map (going f.found) o ≡ Some out → (out.session ≡ f.found.session) × (out.call ≡ f.found.number)
    by None g = absurd (none_not_some out g)
    by (Some d) g =
        let same : going f.found d ≡ out = same_of (going f.found d) out g in
        (ap (λ (x : Outgoing). x.session) (sym same), ap (λ (x : Outgoing). x.call) (sym same))

-- a fetch from a queue that is kept: it is legal, and what is kept is tied once the first of the queue left
pub record IsFetch (w : Setting) (past : Past) (actor : ℕ) (k : OutKind) (kept : Kept) (out : Outgoing) : Type 0 where
  pub legal : IsLegalEntry w past (entry actor (act.Fetch out.session out.call))
  pub tied : Ties w (then_one w past (entry actor (act.Fetch out.session out.call)))
      (record kept { console = queue_after kind.Console k kept.console; remote = queue_after kind.Remote k kept.remote })

pub fetch_is : (w : Setting) (past : Past) (actor p : ℕ) (k : OutKind) (kept : Kept) (out : Outgoing)
    → is_at_work past actor ≡ true → ((s : ℕ) → Numbered past s) → Ties w past kept
    → slice_get (queue_of kept k) 0 ≡ Some p → going_from kept p ≡ Some out → IsFetch w past actor k kept out
fetch_is w past actor p k kept out works numbered t waits goes =
    let leads : first (unfetched w past k) ≡ Some p = sym (queue_kept w past k kept t) ∙ waits in
    let f : First (waits_out w past k) 0 (calls past) p = waiting_first w past k p leads in
    let same = goes_as w past p k f out (sym (going_kept w past p k kept f t) ∙ goes) in
    let entries : entry actor (act.Fetch f.found.session f.found.number) ≡ entry actor (act.Fetch out.session out.call) =
    λ i. entry actor (act.Fetch (sym same.0 i) (sym same.1 i)) in
    record {
      legal = subst (IsLegalEntry w past) entries (legal_fetch w past actor p k f works (numbered f.found.session));
      tied = subst (λ e. Ties w (then_one w past e) (record kept { console = queue_after kind.Console k kept.console; remote = queue_after kind.Remote k kept.remote })) entries
          (ties_fetch w past actor p k kept (queue_after kind.Console k kept.console) (queue_after kind.Remote k kept.remote) f leads (numbered f.found.session) t refl refl);
    }
