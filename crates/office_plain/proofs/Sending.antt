-- A session sends a call: it is noted, and waits to be fetched where it goes out; all else stays tied.
use Rattle.std.proofs.Common.{◌≡◌, ◌≢◌, ◌<◌, ℕ, zero, suc, ◌+◌, Bool, true, false, not, ◌&&◌, ◌||◌, List, [], ◌∷◌, ◌++◌, length, refl, sym, ap, subst, ◌∙◌, Option, None, Some, option_map, true≢false, add-zero, zero-add, arith}
use Rattle.std.specs.Prelude.{nat_eq, slice_get, slice_set, is_some, if◌then◌else◌, option_and_then}
use Rattle.std.specs.List.{list_any, filter, filter_map}
use Rattle.std.proofs.lemmas.List.Elements.{filter_map-append}
use Rattle.std.proofs.lemmas.List.Folds.{list_any-append}
use Rattle.std.proofs.lemmas.Option.{slice_get_within}
use Rattle.jolie_trees.specs.Data.{Tree}
use Rattle.jolie_trees.specs.Limits.{in_u64}
use Rattle.behaviour_tree.specs.Data.{ServicePart}
use Rattle.behaviour_tree.specs.declared.words.Outcome.{Outcome}
use Rattle.office_core.specs.declared.message.Call.{Call}
use Rattle.office_core.specs.declared.message.Message.{Message}
use Rattle.office_core.specs.declared.history.Act.{Act}
use Rattle.office_core.specs.declared.history.Act.TheVariants as act
use Rattle.office_core.specs.declared.history.Entry.{Entry}
use Rattle.office_core.specs.declared.history.Placed.{Placed}
use Rattle.office_core.specs.declared.history.Placed.TheVariants as at
use Rattle.office_core.specs.declared.post.Posted.{Posted}
use Rattle.reqresp_book.specs.declared.origin.Origin.TheVariants as origin
use Rattle.office_core.specs.declared.outgoing.OutKind.{OutKind}
use Rattle.office_core.specs.declared.outgoing.OutKind.TheVariants as kind
use Rattle.office_core.specs.Limits.{Setting}
use Rattle.office_core.specs.Past.{Past, nothing_yet, some_entry, is_running}
use Rattle.office_core.specs.Sessions.{births, service_of, has_ended, is_live, was_adopted, ends}
use Rattle.office_core.specs.Keys.{first}
use Rattle.office_core.specs.Route.{Way, route, send_reply}
use Rattle.office_core.specs.Accepted.{accepted_in, handed_in, message_of, port_of, then_one, then_all, past_of}
use Rattle.office_core.specs.Calls.{call, calls, is_call, sent_in, next_call, brought_in, brings, fetches, goes_out, kind_of, outgoing, same_kind}
use Rattle.office_core.specs.Legal.{is_at_work, is_acting, is_fetched, is_allowed, placed, replied, IsLegalEntry, AreLegal, IsLegal}
use Rattle.office_core.proofs.Longer.{some_more, some_same, given_same, given_more}
use Rattle.office_core.proofs.Numbers.{calls_by, calls_rise, Numbered}
use Rattle.post_box.specs.View.{box_of}
use Rattle.reqresp_book.specs.View.{origin_of}
use Rattle.correlation.specs.View.{sessions_of}
use Rattle.office_plain.specs.declared.kept.Kept.{Kept}
use Rattle.office_plain.specs.declared.kept.SessionRow.{SessionRow}
use Rattle.office_plain.specs.Accepting.{with_accepted}
use Rattle.office_plain.specs.Entries.{entry}
use Rattle.office_plain.specs.Kept.{places_from, call_places, places_of, row_of, unfetched, brought_for}
use Rattle.office_plain.specs.Rows.{with_place, queued, KeepsMail}
use Rattle.office_plain.specs.Stands.{StandsSo}
use Rattle.office_plain.specs.Ties.{Ties}
use Rattle.office_plain.proofs.Acting.{left, right, acting_is_live}
use Rattle.office_plain.proofs.Births.{births_come}
use Rattle.office_plain.proofs.CallPlaces.{ranked, Ranked}
use Rattle.office_plain.proofs.Keyed.{in_front}
use Rattle.office_plain.proofs.Lists.{none_not_some, itself, eq_true, eq_false, set_here, set_other}
use Rattle.office_plain.proofs.Stays.{row_by, with_one, weight_stays, row_stays, waiting_stays, answers_stay, standings_stay, keyed_sessions_stay}
use Rattle.office_plain.proofs.Bringing.{nothing_given}
use Rattle.office_plain.proofs.Fetching.{places_alike, waits_out}

-- ---- the calls that entries speak of were sent

-- an entry that speaks of a call that went out: it was fetched, or its outcome was brought
abbrev pub speaks_of : Call → Entry → Bool
speaks_of c e = elim e.act [ act.Fetch s k ↦ is_call s k c | act.Answered s k o ↦ is_call s k c | _ ↦ false ]

-- a call of the same session and number was sent
abbrev pub was_sent : Past → Call → Bool
was_sent past c = list_any (is_call c.session c.number) (calls past)

-- each call that an entry speaks of was sent
abbrev pub AreKnown : Past → Type 0
AreKnown past = (c : Call) → some_entry past (speaks_of c) ≡ true → was_sent past c ≡ true

some_first : (p : Call → Bool) (cs : List Call) (d : Call) → first (filter p cs) ≡ Some d → list_any p cs ≡ true
some_first p [] d h = absurd (none_not_some d h)
some_first p (c ∷ cs) d h = by (p c) (some_first p cs d) h
  where
    by : (b : Bool) → (first (filter p cs) ≡ Some d → list_any p cs ≡ true)
        → first (if b then c ∷ filter p cs else filter p cs) ≡ Some d → (b || list_any p cs) ≡ true
    by true next g = refl
    by false next g = next g

is_call_left : (s k : ℕ) (c : Call) → is_call s k c ≡ true → s ≡ c.session
is_call_left s k c h = by (nat_eq s c.session) refl h
  where
    by : (b : Bool) → nat_eq s c.session ≡ b → (b && nat_eq k c.number) ≡ true → s ≡ c.session
    by true e g = eq_true s c.session e
    by false e g = absurd (true≢false (sym g))

is_call_right : (s k : ℕ) (c : Call) → is_call s k c ≡ true → k ≡ c.number
is_call_right s k c h = eq_true k c.number (right (nat_eq s c.session) (nat_eq k c.number) h)

-- a call that is there under the number of another was sent
sent_there : (past : Past) (s k : ℕ) (c d : Call) → is_call s k c ≡ true → call past s k ≡ Some d → was_sent past c ≡ true
sent_there past s k c d e there =
    sym (λ i. list_any (is_call (is_call_left s k c e i) (is_call_right s k c e i)) (calls past))
    ∙ some_first (is_call s k) (calls past) d there

fetched_there : (w : Setting) (past : Past) (s k : ℕ) (c : Call) (g : Option Call) → is_call s k c ≡ true → call past s k ≡ g
    → option_map (λ (x : Call). act.Fetch x.session x.number) (option_and_then (λ x. first (outgoing w past (kind_of w past x))) g) ≡ Some (act.Fetch s k)
    → was_sent past c ≡ true
fetched_there w past s k c None e there r = absurd (none_not_some (act.Fetch s k) r)
fetched_there w past s k c (Some d) e there r = sent_there past s k c d e there

brought_there : (past : Past) (actor s k : ℕ) (c : Call) (g : Option Call) → is_call s k c ≡ true → call past s k ≡ g
    → (elim g [ None ↦ false | Some d ↦ some_entry past (λ e. nat_eq actor e.actor && fetches d e) && not (some_entry past (brings d)) ]) ≡ true
    → was_sent past c ≡ true
brought_there past actor s k c None e there h = absurd (true≢false (sym h))
brought_there past actor s k c (Some d) e there h = sent_there past s k c d e there

known_now : (w : Setting) (past : Past) (actor : ℕ) (a : Act) → is_allowed w past actor a ≡ true → replied w past actor a ≡ Some a
    → (c : Call) → speaks_of c (record { actor = actor; act = a }) ≡ true → was_sent past c ≡ true
known_now w past actor (act.Fetch s k) h r c e = fetched_there w past s k c (call past s k) e refl r
known_now w past actor (act.Answered s k o) h r c e =
    brought_there past actor s k c (call past s k) e refl (right (is_at_work past actor) (is_fetched past actor s k) h)
known_now w past actor a h r c e = absurd (true≢false (sym e))

-- a call that was sent was sent after one entry more
still_sent : (w : Setting) (past : Past) (e : Entry) (c : Call) → was_sent past c ≡ true → was_sent (then_one w past e) c ≡ true
still_sent w past e c h =
    ap (list_any (is_call c.session c.number)) (filter_map-append sent_in past.entries (e ∷ []))
    ∙ list_any-append (is_call c.session c.number) (calls past) (filter_map sent_in (e ∷ []))
    ∙ or_left (was_sent past c) (list_any (is_call c.session c.number) (filter_map sent_in (e ∷ []))) h
  where
    or_left : (a b : Bool) → a ≡ true → (a || b) ≡ true
    or_left true b g = refl
    or_left false b g = absurd (true≢false (sym g))

either : (a b r : Bool) → (a || b) ≡ true → (a ≡ true → r ≡ true) → (b ≡ true → r ≡ true) → r ≡ true
either true b r h f g = f refl
either false b r h f g = g h

known_more : (w : Setting) (past : Past) (e : Entry) → IsLegalEntry w past e → AreKnown past → AreKnown (then_one w past e)
known_more w past e legal known c h =
    still_sent w past e c
    (either (some_entry past (speaks_of c)) (speaks_of c e) (was_sent past c) (sym (some_more w past e (speaks_of c)) ∙ h)
    (known c)
    (known_now w past e.actor e.act legal.allowed legal.reply c))

known_after : (w : Setting) (past : Past) (es : List Entry) → AreLegal w past es → AreKnown past → AreKnown (then_all w past es)
known_after w past [] h known = known
known_after w past (e ∷ es) h known = known_after w (then_one w past e) es h.1 (known_more w past e h.0 known)

-- in a legal history each call that an entry speaks of was sent
pub calls_known : (w : Setting) (h : List Entry) → IsLegal w h → AreKnown (past_of w h)
calls_known w h legal = known_after w nothing_yet h legal (λ c g. absurd (true≢false (sym g)))

-- ---- the next call was not sent

-- a call of a kind that stands in a list
record There (p : Call → Bool) (cs : List Call) : Type 0 where
  place : ℕ
  found : Call
  there : slice_get cs place ≡ Some found
  is_it : p found ≡ true

any_there : (p : Call → Bool) (cs : List Call) → list_any p cs ≡ true → There p cs
any_there p [] h = absurd (true≢false (sym h))
any_there p (c ∷ cs) h = by (p c) refl h (any_there p cs)
  where
    by : (b : Bool) → p c ≡ b → (b || list_any p cs) ≡ true → (list_any p cs ≡ true → There p cs) → There p (c ∷ cs)
    by true e g next = record { place = 0; found = c; there = refl; is_it = e }
    by false e g next =
        let rest = next g in
        record { place = suc rest.place; found = rest.found; there = rest.there; is_it = rest.is_it }

below_itself : (n m k l : ℕ) → n ≡ m → m ≡ k → k < l → n ≡ l → ⊥
below_itself n m k l a b h e = omega arith

-- no call has the number of the next one
sent_below : (past : Past) (c : Call) → Numbered past c.session → c.number ≡ next_call past c.session → was_sent past c ≡ true → ⊥
sent_below past c numbered next h =
    let t : There (is_call c.session c.number) (calls past) = any_there (is_call c.session c.number) (calls past) h in
    let mine : nat_eq c.session t.found.session ≡ true =
    ap (nat_eq c.session) (sym (is_call_left c.session c.number t.found t.is_it)) ∙ itself c.session in
    let r : Ranked (λ x. nat_eq c.session x.session) 0 (calls past) t.place t.found =
    ranked (λ x. nat_eq c.session x.session) 0 (calls past) t.place t.found t.there mine in
    below_itself c.number t.found.number r.rank (length (calls_by past c.session))
    (is_call_right c.session c.number t.found t.is_it)
    (numbered r.rank t.found r.ranks)
    (slice_get_within (calls_by past c.session) r.rank t.found r.ranks)
    next

pub unsent : (past : Past) (c : Call) → Numbered past c.session → c.number ≡ next_call past c.session → was_sent past c ≡ false
unsent past c numbered next = by (was_sent past c) refl
  where
    by : (b : Bool) → was_sent past c ≡ b → b ≡ false
    by true h = absurd (sent_below past c numbered next h)
    by false h = refl

-- so no entry speaks of it
pub unspoken : (past : Past) (c : Call) → AreKnown past → Numbered past c.session → c.number ≡ next_call past c.session
    → some_entry past (speaks_of c) ≡ false
unspoken past c known numbered next = by (some_entry past (speaks_of c)) refl
  where
    by : (b : Bool) → some_entry past (speaks_of c) ≡ b → b ≡ false
    by true h = absurd (true≢false (sym (known c h) ∙ unsent past c numbered next))
    by false h = refl

fewer : (es : List Entry) (p q : Entry → Bool) → ((e : Entry) → p e ≡ true → q e ≡ true) → list_any q es ≡ false → list_any p es ≡ false
fewer [] p q imply h = refl
fewer (e ∷ es) p q imply h = by (p e) refl (fewer es p q imply (rest (q e) (list_any q es) h))
  where
    rest : (a b : Bool) → (a || b) ≡ false → b ≡ false
    rest true b g = absurd (true≢false g)
    rest false b g = g

    here : (a b : Bool) → (a || b) ≡ false → a ≡ false
    here true b g = g
    here false b g = refl

    by : (b : Bool) → p e ≡ b → list_any p es ≡ false → (p e || list_any p es) ≡ false
    by true at_e none = absurd (true≢false (sym (imply e at_e) ∙ here (q e) (list_any q es) h))
    by false at_e none = ap (λ b. b || list_any p es) at_e ∙ none

fetching_speaks : (c : Call) (actor : ℕ) (a : Act) → fetches c (record { actor = actor; act = a }) ≡ true → speaks_of c (record { actor = actor; act = a }) ≡ true
fetching_speaks c actor (act.Fetch s k) h = h
fetching_speaks c actor a h = absurd (true≢false (sym h))

bringing_speaks : (c : Call) (actor : ℕ) (a : Act) → brings c (record { actor = actor; act = a }) ≡ true → speaks_of c (record { actor = actor; act = a }) ≡ true
bringing_speaks c actor (act.Answered s k o) h = by (is_call s k c) h
  where
    by : (b : Bool) → is_some (if b then Some o else None) ≡ true → b ≡ true
    by true g = refl
    by false g = absurd (true≢false (sym g))
bringing_speaks c actor a h = absurd (true≢false (sym h))

unfetched_yet : (past : Past) (c : Call) → some_entry past (speaks_of c) ≡ false → some_entry past (fetches c) ≡ false
unfetched_yet past c h = fewer past.entries (fetches c) (speaks_of c) (λ e. fetching_speaks c e.actor e.act) h

outstanding_yet : (past : Past) (c : Call) → some_entry past (speaks_of c) ≡ false → brought_for past c ≡ None
outstanding_yet past c h =
    ap first (nothing_given past.entries (brought_in c)
    (fewer past.entries (brings c) (speaks_of c) (λ e. bringing_speaks c e.actor e.act) h))

-- ---- lists with the call more

append_nil : {A : Type 0} (xs : List A) → xs ++ [] ≡ xs
append_nil [] = refl
append_nil (x ∷ xs) = ap (λ l. x ∷ l) (append_nil xs)

places_more : (q : Call → Bool) (n : ℕ) (cs : List Call) (c : Call)
    → places_from q n (cs ++ c ∷ []) ≡ places_from q n cs ++ (if q c then (n + length cs) ∷ [] else [])
places_more q n [] c = by (q c)
  where
    by : (b : Bool) → (if b then n ∷ [] else []) ++ [] ≡ [] ++ (if b then (n + 0) ∷ [] else [])
    by true = ap (λ m. m ∷ []) (sym (add-zero n))
    by false = refl
places_more q n (d ∷ cs) c =
    ap (λ l. (if q d then n ∷ [] else []) ++ l) (places_more q (suc n) cs c ∙ ap (λ m. places_from q (suc n) cs ++ (if q c then m ∷ [] else [])) (moved n (length cs)))
    ∙ joined (q d) (places_from q (suc n) cs) (if q c then (n + length (d ∷ cs)) ∷ [] else [])
  where
    moved : (m l : ℕ) → suc m + l ≡ m + suc l
    moved m l = omega arith

    joined : (b : Bool) (xs ys : List ℕ) → (if b then n ∷ [] else []) ++ (xs ++ ys) ≡ ((if b then n ∷ [] else []) ++ xs) ++ ys
    joined true xs ys = refl
    joined false xs ys = refl

-- a list that says something of each of another, with what it says of one more
one_more : {A B : Type 0} (xs : List B) (cs : List A) (f : A → B) (c : A) (x : B)
    → ((i : ℕ) → slice_get xs i ≡ option_map f (slice_get cs i)) → f c ≡ x
    → (i : ℕ) → slice_get (xs ++ x ∷ []) i ≡ option_map f (slice_get (cs ++ c ∷ []) i)
one_more [] [] f c x h e zero = ap Some (sym e)
one_more [] [] f c x h e (suc i) = refl
one_more [] (d ∷ cs) f c x h e i = absurd (none_not_some (f d) (h 0))
one_more (y ∷ xs) [] f c x h e i = absurd (none_not_some y (sym (h 0)))
one_more (y ∷ xs) (d ∷ cs) f c x h e zero = h zero
one_more (y ∷ xs) (d ∷ cs) f c x h e (suc i) = one_more xs cs f c x (λ j. h (suc j)) e i

-- ---- a session that was born stays

pub born_stays : (w : Setting) (past : Past) (m : Option Message) (s d : ℕ)
    → service_of w past s ≡ Some d → service_of w (with_accepted past m) s ≡ Some d
born_stays w past None s d h = h
born_stays w past (Some m) s d h =
    ap (λ l. slice_get l s) (births_come w past m m.starts refl)
    ∙ in_front (births w past) (if m.starts then m.service ∷ [] else []) s d h

-- ---- the entry

-- a call that is sent
abbrev pub sending : ℕ → ℕ → ℕ → ℕ → Tree → Bool → Placed → Entry
sending s k port op v wants r = entry s (act.Send k port op v wants r)

-- a send under the next number is legal, with where its message goes
pub legal_send : (w : Setting) (past : Past) (s k port op : ℕ) (v : Tree) (wants : Bool) (r : Placed)
    → is_acting w past s ≡ true → k ≡ next_call past s
    → r ≡ placed w past (handed_in w past s (act.Send k port op v wants r))
    → IsLegalEntry w past (sending s k port op v wants r)
legal_send w past s k port op v wants r acts next said =
    record {
      allowed = ap (λ b. b && nat_eq k (next_call past s)) acts ∙ ap (nat_eq k) (sym next) ∙ itself k;
      reply = ap (λ x. Some (act.Send k port op v wants x)) (sym said);
    }

-- ---- what stays tied

-- the call that an entry sends
abbrev pub the_call : Entry → ℕ → ℕ → ℕ → Tree → Bool → Placed → Call
the_call e k port op v wants r =
    record { session = e.actor; number = k; port = port; op = op; value = v; wants = wants; placed = r }

-- the queue of a kind with the call, where it goes out and is of the kind
queue_more : (w : Setting) (come : Past) (e : Entry) (c : Call) (l sent : OutKind) → sent_in e ≡ Some c → ((d : Call) → fetches d e ≡ false)
    → some_entry come (fetches c) ≡ false → sent ≡ kind_of w come c
    → unfetched w come l ++ queued l c sent (length (calls come)) ≡ unfetched w (with_one come e) l
queue_more w come e c l sent sends fetched unfetched_c is_kind =
    sym (ap (places_from (waits_out w (with_one come e) l) 0) (given_more w come e sent_in c sends)
    ∙ places_more (waits_out w (with_one come e) l) 0 (calls come) c
    ∙ ap (λ ps. ps ++ (if waits_out w (with_one come e) l c then (0 + length (calls come)) ∷ [] else []))
    (places_alike (waits_out w come l) (waits_out w (with_one come e) l) 0 (calls come) (λ j d t. same d))
    ∙ ap (λ b. unfetched w come l ++ (if b then (0 + length (calls come)) ∷ [] else [])) is_it
    ∙ ap (λ n. unfetched w come l ++ (if goes_out c && same_kind l sent then n ∷ [] else [])) (zero-add (length (calls come))))
  where
    same : (d : Call) → waits_out w (with_one come e) l d ≡ waits_out w come l d
    same d = λ i. (goes_out d && not (some_same w come e (fetches d) (fetched d) i)) && same_kind l (kind_of w come d)

    goes : (a b : Bool) → ((a && not false) && b) ≡ (a && b)
    goes true b = refl
    goes false b = refl

    is_it : waits_out w (with_one come e) l c ≡ (goes_out c && same_kind l sent)
    is_it =
        same c
        ∙ ap (λ b. (goes_out c && not b) && same_kind l (kind_of w come c)) unfetched_c
        ∙ goes (goes_out c) (same_kind l (kind_of w come c))
        ∙ ap (λ x. goes_out c && same_kind l x) (sym is_kind)

-- the places of the calls of each session with the call
places_sent : (w : Setting) (come : Past) (e : Entry) (c : Call) (d : ℕ) (places : List (List ℕ)) → sent_in e ≡ Some c
    → service_of w come c.session ≡ Some d → ((u : ℕ) → slice_get places u ≡ places_of w come u) → (u : ℕ)
    → slice_get (with_place c.session (length (calls come)) places) u ≡ places_of w (with_one come e) u
places_sent w come e c d places sends born tied u =
    ap (λ g. slice_get (elim g [ None ↦ places | Some ps ↦ slice_set places c.session (ps ++ length (calls come) ∷ []) ]) u) there
    ∙ by (nat_eq u c.session) refl
  where
    there : slice_get places c.session ≡ Some (call_places come c.session)
    there = tied c.session ∙ ap (option_map (λ n. call_places come c.session)) born

    more : call_places (with_one come e) u ≡ call_places come u ++ (if nat_eq u c.session then length (calls come) ∷ [] else [])
    more =
        ap (places_from (λ x. nat_eq u x.session) 0) (given_more w come e sent_in c sends)
        ∙ places_more (λ x. nat_eq u x.session) 0 (calls come) c
        ∙ ap (λ n. call_places come u ++ (if nat_eq u c.session then n ∷ [] else [])) (zero-add (length (calls come)))

    of_born : call_places come c.session ++ length (calls come) ∷ [] ≡ call_places (with_one come e) u → u ≡ c.session
        → Some (call_places come c.session ++ length (calls come) ∷ []) ≡ places_of w (with_one come e) u
    of_born h q =
        ap Some h
        ∙ sym (ap (λ n. option_map (λ x. call_places (with_one come e) u) (service_of w come n)) q
        ∙ ap (option_map (λ x. call_places (with_one come e) u)) born)

    by : (b : Bool) → nat_eq u c.session ≡ b
        → slice_get (slice_set places c.session (call_places come c.session ++ length (calls come) ∷ [])) u ≡ places_of w (with_one come e) u
    by true q =
        let is_it : u ≡ c.session = eq_true u c.session q in
        ap (slice_get (slice_set places c.session (call_places come c.session ++ length (calls come) ∷ []))) is_it
        ∙ set_here places c.session (call_places come c.session) (call_places come c.session ++ length (calls come) ∷ []) there
        ∙ of_born
        (sym (more ∙ ap (λ b. call_places come u ++ (if b then length (calls come) ∷ [] else [])) q
        ∙ ap (λ n. call_places come n ++ length (calls come) ∷ []) is_it))
        is_it
    by false q =
        set_other places c.session u (call_places come c.session ++ length (calls come) ∷ []) (eq_false u c.session q)
        ∙ tied u
        ∙ ap (λ ps. option_map (λ x. ps) (service_of w come u))
        (sym (more ∙ ap (λ b. call_places come u ++ (if b then length (calls come) ∷ [] else [])) q ∙ append_nil (call_places come u)))

-- what was brought for each call with the call, for which nothing was
outcomes_sent : (w : Setting) (come : Past) (e : Entry) (c : Call) (os : List (Option Outcome)) → sent_in e ≡ Some c
    → ((d : Call) → brought_in d e ≡ None) → brought_for come c ≡ None
    → ((i : ℕ) → slice_get os i ≡ option_map (brought_for come) (slice_get (calls come) i)) → (i : ℕ)
    → slice_get (os ++ None ∷ []) i ≡ option_map (brought_for (with_one come e)) (slice_get (calls (with_one come e)) i)
outcomes_sent w come e c os sends brought none tied i =
    one_more os (calls come) (brought_for (with_one come e)) c None
    (λ j. tied j ∙ sym (same (slice_get (calls come) j)))
    (ap first (given_same w come e (brought_in c) (brought c)) ∙ none) i
    ∙ sym (ap (λ cs. option_map (brought_for (with_one come e)) (slice_get cs i)) (given_more w come e sent_in c sends))
  where
    same : (o : Option Call) → option_map (brought_for (with_one come e)) o ≡ option_map (brought_for come) o
    same None = refl
    same (Some d) = ap (λ x. Some (first x)) (given_same w come e (brought_in d) (brought d))

-- after a send the call is noted; `come` is what happened, with its message
pub ties_send : (w : Setting) (come : Past) (s k port op : ℕ) (v : Tree) (wants : Bool) (r : Placed) (sent : OutKind) (d : ℕ) (old new : Kept)
    → AreKnown come → Numbered come s → k ≡ next_call come s → service_of w come s ≡ Some d
    → sent ≡ kind_of w come (the_call (sending s k port op v wants r) k port op v wants r)
    → new.calls ≡ old.calls ++ the_call (sending s k port op v wants r) k port op v wants r ∷ []
    → new.outcomes ≡ old.outcomes ++ None ∷ []
    → new.places.items ≡ with_place s (length old.calls) old.places.items
    → new.console ≡ old.console ++ queued kind.Console (the_call (sending s k port op v wants r) k port op v wants r) sent (length old.calls)
    → new.remote ≡ old.remote ++ queued kind.Remote (the_call (sending s k port op v wants r) k port op v wants r) sent (length old.calls)
    → KeepsMail old new → Ties w come old → Ties w (with_one come (sending s k port op v wants r)) new
ties_send w come s k port op v wants r sent d old new known numbered next born is_kind noted blank seated console_more remote_more keeps t =
    let e : Entry = sending s k port op v wants r in
    let c : Call = the_call e k port op v wants r in
    let unspoken_of : some_entry come (speaks_of c) ≡ false = unspoken come c known numbered next in
    let unfetched_c : some_entry come (fetches c) ≡ false = unfetched_yet come c unspoken_of in
    record {
      messages = keeps.messages ∙ t.messages;
      few = t.few;
      weight = keeps.weight ∙ t.weight ∙ ap in_u64 (sym (weight_stays come e refl));
      sessions = λ u. ap (λ l. slice_get l u) keeps.sessions ∙ t.sessions u ∙ sym (row_stays w come e u refl refl);
      places = λ u. ap (λ l. slice_get l u) seated
          ∙ ap (λ cs. slice_get (with_place s (length cs) old.places.items) u) t.sent
          ∙ places_sent w come e c d old.places.items refl born t.places u;
      boxes = λ u h. ap (λ b. box_of b u) keeps.boxes ∙ t.boxes u (sym (some_same w come e (ends u) refl) ∙ h) ∙ sym (waiting_stays w come e u refl);
      origins = λ j. ap (λ b. origin_of b j) keeps.book ∙ t.origins j;
      standings = subst (StandsSo w (with_one come e)) (sym keeps.book)
          (standings_stay w come e old.book (λ j m g. answers_stay w come e j m refl refl refl refl) t.standings);
      keys = ap sessions_of keeps.rows ∙ t.keys ∙ sym (keyed_sessions_stay w come e (λ u. refl) (λ u. refl));
      sent = noted ∙ ap (λ cs. cs ++ c ∷ []) t.sent ∙ sym (given_more w come e sent_in c refl);
      outcomes = λ i. ap (λ os. slice_get os i) blank
          ∙ outcomes_sent w come e c old.outcomes refl (λ x. refl) (outstanding_yet come c unspoken_of) t.outcomes i;
      console = console_more
          ∙ (λ i. t.console i ++ queued kind.Console c sent (length (t.sent i)))
          ∙ queue_more w come e c kind.Console sent refl (λ x. refl) unfetched_c is_kind;
      remote = remote_more
          ∙ (λ i. t.remote i ++ queued kind.Remote c sent (length (t.sent i)))
          ∙ queue_more w come e c kind.Remote sent refl (λ x. refl) unfetched_c is_kind;
    }

-- ---- a send

-- the kind of a call of a session that was born does not turn on messages
kind_stays : (w : Setting) (past : Past) (m : Option Message) (c : Call) (d : ℕ) → service_of w past c.session ≡ Some d
    → kind_of w past c ≡ kind_of w (with_accepted past m) c
kind_stays w past m c d born =
    ap (λ g. if is_some (option_and_then (λ (x : ServicePart). slice_get x.ports c.port) (option_and_then (slice_get w.parts.services) g)) then kind.Remote else kind.Console)
    (born ∙ sym (born_stays w past m c.session d born))

-- a session that acts was born
acting_born : (w : Setting) (past : Past) (s : ℕ) → is_acting w past s ≡ true → (d : ℕ) × (service_of w past s ≡ Some d)
acting_born w past s h = by (service_of w past s) refl
  where
    lives : is_some (service_of w past s) ≡ true
    lives = left (is_some (service_of w past s)) (not (has_ended past s)) (acting_is_live w past s h)

    by : (g : Option ℕ) → service_of w past s ≡ g → (d : ℕ) × (service_of w past s ≡ Some d)
    by None e = absurd (true≢false (sym lives ∙ ap is_some e))
    by (Some d) e = (d, e)

-- what noting a call made of what is kept
pub record IsNoted (c : Call) (sent : OutKind) (old new : Kept) : Type 0 where
  pub calls : new.calls ≡ old.calls ++ c ∷ []
  pub outcomes : new.outcomes ≡ old.outcomes ++ None ∷ []
  pub places : new.places.items ≡ with_place c.session (length old.calls) old.places.items
  pub console : new.console ≡ old.console ++ queued kind.Console c sent (length old.calls)
  pub remote : new.remote ≡ old.remote ++ queued kind.Remote c sent (length old.calls)
  pub others : KeepsMail old new

-- a send of a session, once its message is accepted and its call noted: it is legal, and what is kept is tied
pub record IsSend (w : Setting) (past : Past) (e : Entry) (new : Kept) : Type 0 where
  pub legal : IsLegalEntry w past e
  pub tied : Ties w (then_one w past e) new

pub send_is : (w : Setting) (h : List Entry) (s k port op : ℕ) (v : Tree) (wants : Bool) (r : Placed) (sent : OutKind) (old new : Kept)
    → IsLegal w h → is_acting w (past_of w h) s ≡ true → k ≡ next_call (past_of w h) s
    → r ≡ placed w (past_of w h) (handed_in w (past_of w h) s (act.Send k port op v wants r))
    → sent ≡ kind_of w (past_of w h) (the_call (sending s k port op v wants r) k port op v wants r)
    → Ties w (with_accepted (past_of w h) (accepted_in w (past_of w h) (sending s k port op v wants r))) old
    → IsNoted (the_call (sending s k port op v wants r) k port op v wants r) sent old new
    → IsSend w (past_of w h) (sending s k port op v wants r) new
send_is w h s k port op v wants r sent old new legal acts next said is_kind t noted =
    let past : Past = past_of w h in
    let e : Entry = sending s k port op v wants r in
    let m : Option Message = accepted_in w past e in
    let born = acting_born w past s acts in
    record {
      legal = legal_send w past s k port op v wants r acts next said;
      tied = ties_send w (with_accepted past m) s k port op v wants r sent born.0 old new
          (calls_known w h legal)
          (calls_rise w h s legal)
          next
          (born_stays w past m s born.0 born.1)
          (is_kind ∙ kind_stays w past m (the_call e k port op v wants r) born.0 born.1)
          noted.calls noted.outcomes noted.places noted.console noted.remote noted.others t;
    }

-- a session that acts does so while the run did not stop
pub acting_runs : (w : Setting) (past : Past) (s : ℕ) → is_acting w past s ≡ true → is_running past ≡ true
acting_runs w past s h = left (is_running past) (is_live w past s) (left (is_running past && is_live w past s) (was_adopted past s) h)

-- there are places for the calls of a session that acts
pub seats : (w : Setting) (past : Past) (m : Option Message) (s : ℕ) (k : Kept) → is_acting w past s ≡ true → Ties w (with_accepted past m) k
    → s < length k.places.items
seats w past m s k acts t =
    let born = acting_born w past s acts in
    slice_get_within k.places.items s (call_places (with_accepted past m) s)
    (t.places s ∙ ap (option_map (λ d. call_places (with_accepted past m) s)) (born_stays w past m s born.0 born.1))

-- ---- where its message goes

-- nothing is handed to a service of the program
pub placed_out : (w : Setting) (past : Past) (s k port op : ℕ) (v : Tree) (wants : Bool) (r : Placed)
    → handed_in w past s (act.Send k port op v wants r) ≡ None → at.Out ≡ placed w past (handed_in w past s (act.Send k port op v wants r))
placed_out w past s k port op v wants r h = sym (ap (placed w past) h)

pub kept_out : (w : Setting) (past : Past) (s k port op : ℕ) (v : Tree) (wants : Bool) (r : Placed) (kept : Kept)
    → handed_in w past s (act.Send k port op v wants r) ≡ None → Ties w past kept
    → Ties w (with_accepted past (accepted_in w past (sending s k port op v wants r))) kept
kept_out w past s k port op v wants r kept h t =
    subst (λ g. Ties w (with_accepted past (option_and_then (message_of w past (origin.Session s k)) g)) kept) (sym h) t

-- a message is handed in, and goes its way
pub placed_in : (w : Setting) (past : Past) (s k port op : ℕ) (v : Tree) (wants : Bool) (r p : Placed) (q : Posted) (way : Way)
    → handed_in w past s (act.Send k port op v wants r) ≡ Some q → way ≡ route w past q → p ≡ send_reply past way
    → p ≡ placed w past (handed_in w past s (act.Send k port op v wants r))
placed_in w past s k port op v wants r p q way h goes said = said ∙ ap (send_reply past) goes ∙ sym (ap (placed w past) h)

pub kept_in : (w : Setting) (past : Past) (s k port op : ℕ) (v : Tree) (wants : Bool) (r : Placed) (q : Posted) (kept : Kept)
    → handed_in w past s (act.Send k port op v wants r) ≡ Some q → Ties w (with_accepted past (message_of w past (origin.Session s k) q)) kept
    → Ties w (with_accepted past (accepted_in w past (sending s k port op v wants r))) kept
kept_in w past s k port op v wants r q kept h t =
    subst (λ g. Ties w (with_accepted past (option_and_then (message_of w past (origin.Session s k)) g)) kept) (sym h) t

-- ---- ports

-- the port of a session by what is kept of the session
pub port_kept : (w : Setting) (past : Past) (s n : ℕ) (sessions : List SessionRow) → ((u : ℕ) → slice_get sessions u ≡ row_of w past u)
    → option_and_then (λ (row : SessionRow). option_and_then (λ (d : ServicePart). slice_get d.ports n) (slice_get w.parts.services row.service)) (slice_get sessions s)
    ≡ port_of w past s n
port_kept w past s n sessions tied =
    ap (option_and_then (λ (row : SessionRow). option_and_then (λ (d : ServicePart). slice_get d.ports n) (slice_get w.parts.services row.service))) (tied s)
    ∙ by (service_of w past s)
  where
    by : (o : Option ℕ)
        → option_and_then (λ (row : SessionRow). option_and_then (λ (d : ServicePart). slice_get d.ports n) (slice_get w.parts.services row.service)) (option_map (λ d. row_by d (was_adopted past s) (has_ended past s)) o)
        ≡ option_and_then (λ (d : ServicePart). slice_get d.ports n) (option_and_then (slice_get w.parts.services) o)
    by None = refl
    by (Some d) = refl

-- the kind of a call by its port
pub kind_by : (w : Setting) (past : Past) (c : Call) (s n : ℕ) (b : Bool) → c.session ≡ s → c.port ≡ n → is_some (port_of w past s n) ≡ b
    → (if b then kind.Remote else kind.Console) ≡ kind_of w past c
kind_by w past c s n b session port h =
    sym ((λ i. if is_some (port_of w past (session i) (port i)) then kind.Remote else kind.Console)
    ∙ ap (λ x. if x then kind.Remote else kind.Console) h)
