-- A session ends: its row says so, what waited for it is answered, its keys are free, and all else stays tied.
use Rattle.std.proofs.Common.{◌≡◌, ◌≢◌, ◌≤◌, ◌<◌, ℕ, zero, suc, ◌+◌, Bool, true, false, not, ◌&&◌, ◌||◌, List, [], ◌∷◌, ◌++◌, length, refl, sym, ap, subst, ◌∙◌, Option, None, Some, option_map, true≢false, zero-add, arith}
use Rattle.std.specs.Prelude.{nat_eq, slice_get, slice_set, is_some, if◌then◌else◌}
use Rattle.std.specs.List.{list_any}
use Rattle.std.proofs.lemmas.List.Folds.{list_any-append}
use Rattle.jolie_trees.specs.Limits.{in_u64}
use Rattle.jolie_trees.specs.Trees.{void_tree}
use Rattle.behaviour_tree.specs.declared.words.Outcome.{Outcome}
use Rattle.behaviour_tree.specs.declared.words.Outcome.TheVariants as outcome
use Rattle.behaviour_tree.specs.declared.words.Reason.TheVariants as reason
use Rattle.correlation.specs.declared.session.Session.{Session}
use Rattle.correlation.specs.declared.rows.Rows.{Rows}
use Rattle.correlation.specs.Sessions.{changed, freed}
use Rattle.correlation.specs.Sessions as rows
use Rattle.correlation.specs.View.{sessions_of}
use Rattle.post_box.specs.declared.boxes.Boxes.{Boxes}
use Rattle.post_box.specs.declared.mailbox.Waiting.{Waiting}
use Rattle.post_box.specs.Oldest.{waiting}
use Rattle.post_box.specs.View.{box_of}
use Rattle.reqresp_book.specs.declared.book.Book.{Book}
use Rattle.reqresp_book.specs.View.{standing_of, HaveSameOrigins}
use Rattle.office_core.specs.declared.history.Act.TheVariants as act
use Rattle.office_core.specs.declared.history.Entry.{Entry}
use Rattle.office_core.specs.declared.outgoing.OutKind.TheVariants as kind
use Rattle.office_core.specs.Limits.{Setting}
use Rattle.office_core.specs.declared.message.Message.{Message}
use Rattle.office_core.specs.Past.{Past, some_entry, stops, is_running}
use Rattle.office_core.specs.Sessions.{births, service_of, has_ended, is_live, was_adopted, ends, adopts}
use Rattle.office_core.specs.Boxes.{taken, taken_in, was_taken}
use Rattle.office_core.specs.Accepted.{then_one}
use Rattle.office_core.specs.Answers.{is_request, replies, reply_in, answers_of}
use Rattle.office_core.specs.Legal.{is_acting, IsLegalEntry}
use Rattle.office_core.proofs.Longer.{some_same, given_same, messages_same}
use Rattle.office_core.proofs.OneAnswer.{Replied, none, once}
use Rattle.office_plain.specs.declared.kept.Kept.{Kept}
use Rattle.office_plain.specs.declared.kept.SessionRow.{SessionRow}
use Rattle.office_plain.specs.Entries.{entry}
use Rattle.office_plain.specs.Endings.{answered_with, ended_row, ended_in, is_waiting_in, ended_at}
use Rattle.office_plain.specs.Kept.{row_of, keyed, keyed_from, keyed_sessions}
use Rattle.office_plain.specs.Stands.{standing_by, StandsSo}
use Rattle.office_plain.specs.Ties.{Ties}
use Rattle.office_plain.specs.Waits.{waiting_from, waiting_for}
use Rattle.office_plain.proofs.Lists.{same_of, none_not_some, itself, turned, eq_true, eq_false, not_eq, set_at}
use Rattle.office_plain.proofs.Acting.{left, right, not_true, acting_is_live, acting_lives}
use Rattle.office_plain.proofs.Stays.{answers_by, by_parts, row_by, left_by, weight_stays, places_stay, waiting_stays, handed_before, keyed_with, calls_stay, brought_stays, unfetched_stays}

-- the end of a session that acts is legal
pub legal_end : (w : Setting) (past : Past) (s : ℕ) → is_acting w past s ≡ true → IsLegalEntry w past (entry s act.End)
legal_end w past s acts = record { allowed = acts; reply = refl }

-- while a session acts the run did not stop
pub acting_runs : (w : Setting) (past : Past) (s : ℕ) → is_acting w past s ≡ true → some_entry past stops ≡ false
acting_runs w past s h =
    not_true (some_entry past stops)
    (left (is_running past) (is_live w past s) (left (is_running past && is_live w past s) (was_adopted past s) h))

-- whether a session ended, once one of them did
ended_more : (w : Setting) (past : Past) (s t : ℕ)
    → has_ended (then_one w past (entry s act.End)) t ≡ (has_ended past t || (nat_eq t s || false))
ended_more w past s t = list_any-append (ends t) past.entries (entry s act.End ∷ [])

or_before : (a b : Bool) → (a || b) ≡ false → a ≡ false
or_before true b h = h
or_before false b h = refl

or_behind : (a b : Bool) → (a || (b || false)) ≡ false → b ≡ false
or_behind true true h = h
or_behind true false h = refl
or_behind false true h = h
or_behind false false h = refl

-- ---- rows

row_by_case : (d : ℕ) (adopted ended b : Bool)
    → row_by d adopted (ended || (b || false)) ≡ (if b then ended_row (row_by d adopted ended) else row_by d adopted ended)
row_by_case d adopted true true = refl
row_by_case d adopted true false = refl
row_by_case d adopted false true = refl
row_by_case d adopted false false = refl

row_more : (d : Option ℕ) (adopted ended b : Bool)
    → option_map (λ n. row_by n adopted (ended || (b || false))) d
    ≡ option_map (λ (row : SessionRow). if b then ended_row row else row) (option_map (λ n. row_by n adopted ended) d)
row_more None adopted ended b = refl
row_more (Some d) adopted ended b = ap Some (row_by_case d adopted ended b)

row_ended : (w : Setting) (past : Past) (s t : ℕ)
    → row_of w (then_one w past (entry s act.End)) t
    ≡ option_map (λ (row : SessionRow). if nat_eq t s then ended_row row else row) (row_of w past t)
row_ended w past s t =
    let parts : row_of w (then_one w past (entry s act.End)) t
    ≡ option_map (λ n. row_by n (was_adopted past t) (has_ended past t || (nat_eq t s || false))) (service_of w past t) =
    λ i. option_map
    (λ n. row_by n (some_same w past (entry s act.End) (adopts t) refl i) (ended_more w past s t i))
    (service_of w past t) in
    parts ∙ row_more (service_of w past t) (was_adopted past t) (has_ended past t) (nat_eq t s)

rows_ended : (rows : List SessionRow) (s t : ℕ) (g : Option SessionRow) → slice_get rows s ≡ g
    → slice_get (elim g [ None ↦ rows | Some row ↦ slice_set rows s (ended_row row) ]) t
    ≡ option_map (λ (row : SessionRow). if nat_eq t s then ended_row row else row) (slice_get rows t)
rows_ended rows s t (Some row) there = set_at rows s t row ended_row there
rows_ended rows s t None there = by (nat_eq t s) refl
  where
    stays : (o : Option SessionRow) → o ≡ option_map (λ row. row) o
    stays None = refl
    stays (Some row) = refl

    by : (b : Bool) → nat_eq t s ≡ b
        → slice_get rows t ≡ option_map (λ (row : SessionRow). if b then ended_row row else row) (slice_get rows t)
    by true e =
        let none : slice_get rows t ≡ None = ap (slice_get rows) (eq_true t s e) ∙ there in
        none ∙ sym (ap (option_map ended_row) none)
    by false e = stays (slice_get rows t)

-- ---- what waited

head_waits : (n op k : ℕ) (x : Bool) (ws : List Waiting)
    → is_waiting_in n ((if x then waiting op k ∷ [] else []) ++ ws) ≡ ((x && nat_eq n k) || is_waiting_in n ws)
head_waits n op k true ws = refl
head_waits n op k false ws = refl

none_before : (gone : List ℕ) (s k n : ℕ) (ms : List Message) → n < k → is_waiting_in n (waiting_from gone s k ms) ≡ false
none_before gone s k n [] h = refl
none_before gone s k n (m ∷ ms) h =
    let less : n < suc k = omega arith in
    let waiting_head : Bool = nat_eq s m.session && not (list_any (nat_eq k) gone) in
    let parts : ((waiting_head && nat_eq n k) || is_waiting_in n (waiting_from gone s (suc k) ms)) ≡ ((waiting_head && false) || false) =
    λ i. (waiting_head && not_eq n k (below n k h) i) || none_before gone s (suc k) n ms less i in
    head_waits n m.op k waiting_head (waiting_from gone s (suc k) ms) ∙ parts ∙ never waiting_head
  where
    below : (n k : ℕ) → n < k → n ≢ k
    below n k h e = omega arith

    never : (b : Bool) → ((b && false) || false) ≡ false
    never true = refl
    never false = refl

-- whether a message waits for a session, by its place
waits_from : (gone : List ℕ) (s k j n : ℕ) (ms : List Message) (m : Message) → n ≡ k + j → slice_get ms j ≡ Some m
    → is_waiting_in n (waiting_from gone s k ms) ≡ (nat_eq s m.session && not (list_any (nat_eq n) gone))
waits_from gone s k j n [] m e h = absurd (none_not_some m h)
waits_from gone s k zero n (x ∷ ms) m e h =
    let is_k : n ≡ k = omega arith in
    let less : n < suc k = omega arith in
    let waiting_head : Bool = nat_eq s x.session && not (list_any (nat_eq k) gone) in
    let here : nat_eq n k ≡ true = ap (λ q. nat_eq q k) is_k ∙ itself k in
    let parts : ((waiting_head && nat_eq n k) || is_waiting_in n (waiting_from gone s (suc k) ms)) ≡ ((waiting_head && true) || false) =
    λ i. (waiting_head && here i) || none_before gone s (suc k) n ms less i in
    let is_m : x ≡ m = same_of x m h in
    let is_n : k ≡ n = sym is_k in
    head_waits n x.op k waiting_head (waiting_from gone s (suc k) ms) ∙ parts ∙ shorter waiting_head
    ∙ ap (λ (y : Message). nat_eq s y.session && not (list_any (nat_eq k) gone)) is_m
    ∙ ap (λ q. nat_eq s m.session && not (list_any (nat_eq q) gone)) is_n
  where
    shorter : (b : Bool) → ((b && true) || false) ≡ b
    shorter true = refl
    shorter false = refl
waits_from gone s k (suc j) n (x ∷ ms) m e h =
    let next : n ≡ suc k + j = omega arith in
    let waiting_head : Bool = nat_eq s x.session && not (list_any (nat_eq k) gone) in
    head_waits n x.op k waiting_head (waiting_from gone s (suc k) ms)
    ∙ ap (λ b. (waiting_head && b) || is_waiting_in n (waiting_from gone s (suc k) ms)) (not_eq n k (behind n k j e))
    ∙ passed waiting_head (is_waiting_in n (waiting_from gone s (suc k) ms))
    ∙ waits_from gone s (suc k) j n ms m next h
  where
    behind : (n k j : ℕ) → n ≡ k + suc j → n ≢ k
    behind n k j h e = omega arith

    passed : (b c : Bool) → ((b && false) || c) ≡ c
    passed true c = refl
    passed false c = refl

-- a message waits for a session where it went to it and was not taken
waits : (past : Past) (s n : ℕ) (m : Message) → slice_get past.messages n ≡ Some m
    → is_waiting_in n (waiting_for past s) ≡ (nat_eq s m.session && not (was_taken past n))
waits past s n m there = waits_from (taken past) s 0 n n past.messages m (omega arith) there

-- ---- answers

-- a message that was not taken has no reply
unreplied : (w : Setting) (past : Past) (n : ℕ) → Replied w past n → was_taken past n ≡ false → replies past n ≡ []
unreplied w past n (none r) h = r
unreplied w past n (once o m r taken there request) h = absurd (true≢false (sym taken ∙ h))

-- a message that waited for a session: once that ended, it has this answer, if it had none
left_now : (request : Bool)
    → answered_with (outcome.Refused reason.SessionEnded) (standing_by (answers_by request [] false false))
    ≡ standing_by (answers_by request [] true false)
left_now true = refl
left_now false = refl

-- a message that did not wait for the session that ended has the answers that it had
not_left : (request : Bool) (rs : List Outcome) (ended e taken : Bool) → (e && not taken) ≡ false
    → answers_by request rs (ended || (e || false)) taken ≡ answers_by request rs ended taken
not_left request rs ended e taken h =
    ap (λ os. (if request then [] else outcome.Value void_tree ∷ []) ++ (rs ++ os) ++ []) (same request ended e taken h)
  where
    same : (request ended e taken : Bool) → (e && not taken) ≡ false → left_by request (ended || (e || false)) taken ≡ left_by request ended taken
    same false ended e taken h = refl
    same true true e taken h = refl
    same true false true true h = refl
    same true false true false h = absurd (true≢false h)
    same true false false taken h = refl

standings_end : (w : Setting) (past : Past) (s : ℕ) (old new : Book)
    → some_entry past stops ≡ false → has_ended past s ≡ false → ((n : ℕ) → Replied w past n) → StandsSo w past old
    → ((j : ℕ) → standing_of new j ≡ ended_at j (waiting_for past s) (standing_of old j))
    → StandsSo w (then_one w past (entry s act.End)) new
standings_end w past s old new running lives replied stands changes j m there unhanded =
    by (nat_eq s m.session && not (was_taken past j)) refl
  where
    e : Entry
    e = entry s act.End

    before : slice_get past.messages j ≡ Some m
    before = sym (ap (λ ms. slice_get ms j) (messages_same w past e refl)) ∙ there

    stood : standing_of old j ≡ Some (standing_by (answers_by (is_request w m) (replies past j) (has_ended past m.session) (was_taken past j)))
    stood = stands j m before (handed_before w past e j m.origin unhanded) ∙ ap (λ os. Some (standing_by os)) (by_parts w past j m running)

    is_now : answers_of w (then_one w past e) j m
        ≡ answers_by (is_request w m) (replies past j) (has_ended past m.session || (nat_eq m.session s || false)) (was_taken past j)
    is_now =
        by_parts w (then_one w past e) j m (some_same w past e stops refl ∙ running)
        ∙ (λ i. answers_by (is_request w m) (given_same w past e (reply_in j) refl i) (ended_more w past s m.session i) (list_any (nat_eq j) (given_same w past e taken_in refl i)))

    by : (b : Bool) → (nat_eq s m.session && not (was_taken past j)) ≡ b
        → standing_of new j ≡ Some (standing_by (answers_of w (then_one w past e) j m))
    by true q =
        let here : nat_eq s m.session ≡ true = left (nat_eq s m.session) (not (was_taken past j)) q in
        let untaken : was_taken past j ≡ false = not_true (was_taken past j) (right (nat_eq s m.session) (not (was_taken past j)) q) in
        let living : has_ended past m.session ≡ false = ap (has_ended past) (sym (eq_true s m.session here)) ∙ lives in
        let bare : replies past j ≡ [] = unreplied w past j (replied j) untaken in
        let ended : (has_ended past m.session || (nat_eq m.session s || false)) ≡ true =
        ap (λ b. b || (nat_eq m.session s || false)) living ∙ ap (λ b. b || false) (turned m.session s ∙ here) in
        let old_answers : answers_by (is_request w m) (replies past j) (has_ended past m.session) (was_taken past j) ≡ answers_by (is_request w m) [] false false =
        λ i. answers_by (is_request w m) (bare i) (living i) (untaken i) in
        let new_answers : answers_by (is_request w m) (replies past j) (has_ended past m.session || (nat_eq m.session s || false)) (was_taken past j) ≡ answers_by (is_request w m) [] true false =
        λ i. answers_by (is_request w m) (bare i) (ended i) (untaken i) in
        changes j
        ∙ ap (λ b. if b then option_map (answered_with (outcome.Refused reason.SessionEnded)) (standing_of old j) else standing_of old j) (waits past s j m before ∙ q)
        ∙ ap (option_map (answered_with (outcome.Refused reason.SessionEnded))) (stood ∙ ap (λ os. Some (standing_by os)) old_answers)
        ∙ ap Some (left_now (is_request w m))
        ∙ sym (ap (λ os. Some (standing_by os)) (is_now ∙ new_answers))
    by false q =
        changes j
        ∙ ap (λ b. if b then option_map (answered_with (outcome.Refused reason.SessionEnded)) (standing_of old j) else standing_of old j) (waits past s j m before ∙ q)
        ∙ stood
        ∙ ap (λ os. Some (standing_by os))
        (sym (is_now ∙ not_left (is_request w m) (replies past j) (has_ended past m.session) (nat_eq m.session s) (was_taken past j)
        (ap (λ b. b && not (was_taken past j)) (turned m.session s) ∙ q)))

-- ---- keys

true_or : (b : Bool) → true ≡ (b || (true || false))
true_or true = refl
true_or false = refl

none_or : (b : Bool) → b ≡ (b || (false || false))
none_or true = refl
none_or false = refl

keyed_case : (t : Session) (b : Bool)
    → (if b then freed t else t) ≡ record { number = t.number; sets = t.sets; written = t.written; released = (t.released || (b || false)) }
keyed_case t true = λ i. record { number = t.number; sets = t.sets; written = t.written; released = true_or t.released i }
keyed_case t false = λ i. record { number = t.number; sets = t.sets; written = t.written; released = none_or t.released i }

keyed_ended : (w : Setting) (past : Past) (s t : ℕ) (ds : List ℕ)
    → changed s freed (keyed_from w past t ds) ≡ keyed_from w (then_one w past (entry s act.End)) t ds
keyed_ended w past s t [] = refl
keyed_ended w past s t (d ∷ ds) =
    λ i. (keyed_case (keyed w past t d) (nat_eq t s)
    ∙ sym (keyed_with w past (entry s act.End) t d (has_ended past t || (nat_eq t s || false)) refl (ended_more w past s t))) i
    ∷ keyed_ended w past s (suc t) ds i

keys_ended : (w : Setting) (past : Past) (s : ℕ)
    → changed s freed (keyed_sessions w past) ≡ keyed_sessions w (then_one w past (entry s act.End))
keys_ended w past s = keyed_ended w past s 0 (births w past)

-- a session that was born and has not ended has keys that may be freed
live_from : (w : Setting) (past : Past) (from j s d : ℕ) (ds : List ℕ) → s ≡ from + j → slice_get ds j ≡ Some d
    → has_ended past s ≡ false → rows.is_live (keyed_from w past from ds) s ≡ true
live_from w past from j s d [] e h lives = absurd (none_not_some d h)
live_from w past from zero s d (c ∷ ds) e h lives =
    let is_s : from ≡ s = omega arith in
    ap (λ b. (b && not (has_ended past from)) || rows.is_live (keyed_from w past (suc from) ds) s) (ap (λ q. nat_eq q s) is_s ∙ itself s)
    ∙ ap (λ b. not b || rows.is_live (keyed_from w past (suc from) ds) s) (ap (has_ended past) is_s ∙ lives)
live_from w past from (suc j) s d (c ∷ ds) e h lives =
    let next : s ≡ suc from + j = omega arith in
    ap (λ b. (nat_eq from s && not (has_ended past from)) || b) (live_from w past (suc from) j s d ds next h lives)
    ∙ rest_true (nat_eq from s && not (has_ended past from))
  where
    rest_true : (b : Bool) → (b || true) ≡ true
    rest_true true = refl
    rest_true false = refl

-- a session that acts has keys that may be freed
pub keyed_live : (w : Setting) (past : Past) (s : ℕ) (k : Kept) → Ties w past k → is_acting w past s ≡ true
    → rows.is_live (sessions_of k.rows) s ≡ true
keyed_live w past s k t acts = ap (λ ss. rows.is_live ss s) t.keys ∙ by (service_of w past s) refl born
  where
    born : is_some (service_of w past s) ≡ true
    born = left (is_some (service_of w past s)) (not (has_ended past s)) (acting_is_live w past s acts)

    by : (o : Option ℕ) → service_of w past s ≡ o → is_some o ≡ true → rows.is_live (keyed_sessions w past) s ≡ true
    by None e h = absurd (true≢false (sym h))
    by (Some d) e h = live_from w past 0 s s d (births w past) (sym (zero-add s)) e (acting_lives w past s acts)

-- ---- what stays tied

-- after the end of a session what is kept says so
pub ties_end : (w : Setting) (past : Past) (s : ℕ) (k : Kept) (sessions : List SessionRow) (boxes : Boxes) (book : Book) (rows : Rows)
    → some_entry past stops ≡ false → has_ended past s ≡ false → ((n : ℕ) → Replied w past n) → Ties w past k
    → sessions ≡ ended_in k.sessions s
    → ((t : ℕ) → t ≢ s → box_of boxes t ≡ box_of k.boxes t)
    → HaveSameOrigins k.book book
    → ((j : ℕ) → standing_of book j ≡ ended_at j (box_of k.boxes s) (standing_of k.book j))
    → sessions_of rows ≡ changed s freed (sessions_of k.rows)
    → Ties w (then_one w past (entry s act.End))
    (record k { sessions = sessions; boxes = boxes; book = book; rows = rows })
ties_end w past s k sessions boxes book rows running lives replied t ended others from changes keys =
    let e : Entry = entry s act.End in
    record {
      messages = t.messages ∙ sym (messages_same w past e refl);
      few = subst (λ ms. length ms ≤ w.limits.messages) (sym (messages_same w past e refl)) t.few;
      weight = t.weight ∙ ap in_u64 (sym (weight_stays past e refl));
      sessions = λ u. ap (λ rs. slice_get rs u) ended
          ∙ rows_ended k.sessions s u (slice_get k.sessions s) refl
          ∙ ap (option_map (λ (r : SessionRow). if nat_eq u s then ended_row r else r)) (t.sessions u)
          ∙ sym (row_ended w past s u);
      places = λ u. t.places u ∙ sym (places_stay w past e u refl);
      boxes = λ u h.
          let apart : (has_ended past u || (nat_eq u s || false)) ≡ false = sym (ended_more w past s u) ∙ h in
          others u (eq_false u s (or_behind (has_ended past u) (nat_eq u s) apart))
          ∙ t.boxes u (or_before (has_ended past u) (nat_eq u s || false) apart)
          ∙ sym (waiting_stays w past e u refl);
      origins = λ j. from j ∙ t.origins j ∙ ap (λ ms. option_map (λ (m : Message). m.origin) (slice_get ms j)) (sym (messages_same w past e refl));
      standings = standings_end w past s k.book book running lives replied t.standings
          (λ j. changes j ∙ ap (λ b. ended_at j b (standing_of k.book j)) (t.boxes s lives));
      keys = keys ∙ ap (changed s freed) t.keys ∙ keys_ended w past s;
      sent = t.sent ∙ sym (calls_stay w past e refl);
      outcomes = λ i. t.outcomes i ∙ sym (brought_stays w past e i refl (λ c. refl));
      console = t.console ∙ sym (unfetched_stays w past e kind.Console refl (λ c. refl));
      remote = t.remote ∙ sym (unfetched_stays w past e kind.Remote refl (λ c. refl));
    }
