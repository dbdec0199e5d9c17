-- What came on connections was served, by what passed between their front and a run.
use Rattle.std.proofs.Common.{◌≡◌, ◌<◌, ◌≤◌, ℕ, zero, suc, true, false, List, [], ◌∷◌, length, map, take}
use Rattle.std.proofs.Common.{refl, sym, ap, subst, ◌∙◌, arith, ⊎_elim, true≢false, count_by, nat_eq}
use Rattle.std.proofs.Common.{Option, Some, option_map, slice_get, Contains}
use Rattle.std.specs.List.{list_all, list_any, AllZip}
use Rattle.behaviour_tree.specs.Data.{ProgramParts}
use Rattle.office_core.specs.declared.history.Entry.{Entry}
use Rattle.office_core.specs.Limits.{run_of, first_worker}
use Rattle.office_core.specs.Accepted.{past_of}
use Rattle.run_theorem.specs.Exchange.{Asked, Told, Exchange}
use Rattle.run_theorem.specs.Calls.{is_of}
use Rattle.run_record.specs.Postings.{told, posts_of}
use Rattle.run_record.specs.Order.{finished_at}
use Rattle.run_theorem.specs.Lines.{finished_before}
use Rattle.run_theorem.specs.Texts.{Came, posting_of, response}
use Rattle.jsonrpc_postings.specs.Told.{response_told}
use Rattle.jsonrpc_postings.proofs.Responses.{response_told-of}
use Rattle.run_alone.specs.Ran.{Exchanged}
use Rattle.run_theorem.specs.Ports.{has_door}
use Rattle.run_theorem.specs.RunConnections.{RunConnection, came_at, HasPassed}
use Rattle.run_theorem.specs.Served.{AreOneByOne, AreToldEarly, IsServed, is_told}
use Rattle.http_connection.specs.Law.{holding, Keeps}
use Rattle.http_connection.specs.Talking.{log}
use Rattle.outside_traits.specs.Told.{WireTold}
use Rattle.conn_future.specs.Law.{plain_stage}
use Rattle.conn_future.proofs.Words.{keeps_word}
use Rattle.run_door_front.specs.Keeping.{ClientTold}
use Rattle.run_door_front.specs.Exchanged.{Sides, IsClient, AreClients, IsHeard, IsPending, HasExchanged}
use Rattle.run_doors.specs.Steps.{traffic_of}
use Rattle.run_doors.proofs.Covered.{order_has, before_has, is_in, finished_below}
use Rattle.run_doors.proofs.Requests.{IsNth, nth_of}
use Rattle.run_doors.proofs.Texts.{texts_within}
use Rattle.run_doors.proofs.Lists.{get_past, get_within, get_some, get_map, length_map, all_by_place, any_map, any_first, contains_front}
use Rattle.run_order_laws.proofs.Lists.{same_of, none_not_some, eq_true, itself}

-- ---- connections

module _ (IsMade : WireTold → Type 0) where
  -- the bytes of a connection are what its requests and their texts make
  link_passed : (l : ClientTold) (v : RunConnection) → IsClient IsMade l v → HasPassed v (traffic_of l)
  link_passed l v k = record {
    stage = k.memory;
    keeps = λ reading. subst (λ s. ∥ Keeps (plain_stage s) (holding l.seen.kept.read.items reading) (log l.seen.kept.read.items l.seen.kept.written.items v.bodies v.texts) ∥₁)
        (sym k.stage) ((keeps_word k.first l.seen v.bodies v.texts k.talks).keeps reading);
  }

  pub links_passed : (ls : List ClientTold) (vs : List RunConnection) → AreClients IsMade ls vs → AllZip HasPassed vs (map traffic_of ls)
  links_passed [] [] k = tt
  links_passed [] (v ∷ vs) k = absurd k
  links_passed (l ∷ ls) [] k = absurd k
  links_passed (l ∷ ls) (v ∷ vs) k = (link_passed l v k.0, links_passed ls vs k.1)

  -- each connection has its connection
  pub link_at : (ls : List ClientTold) (vs : List RunConnection) → AreClients IsMade ls vs → (n : ℕ) (v : RunConnection) → slice_get vs n ≡ Some v
      → (l : ClientTold) × (slice_get ls n ≡ Some l) × IsClient IsMade l v
  link_at [] [] k n v h = absurd (none_not_some v h)
  link_at [] (u ∷ vs) k n v h = absurd k
  link_at (l ∷ ls) [] k n v h = absurd k
  link_at (l ∷ ls) (u ∷ vs) k zero v h = (l, refl, subst (IsClient IsMade l) (same_of u v h) k.0)
  link_at (l ∷ ls) (u ∷ vs) k (suc n) v h = link_at ls vs k.1 n v h

  -- they are as many
  pub as_many : (ls : List ClientTold) (vs : List RunConnection) → AreClients IsMade ls vs → length ls ≡ length vs
  as_many [] [] k = refl
  as_many [] (v ∷ vs) k = absurd k
  as_many (l ∷ ls) [] k = absurd k
  as_many (l ∷ ls) (v ∷ vs) k = ap suc (as_many ls vs k.1)

-- ---- the run

module _ {new : Exchange} (IsMade : WireTold → Type 0) (parts : ProgramParts) (h : List Entry) (first now : Sides) (d : Exchange)
    (f : HasExchanged IsMade parts first now d) (k : Exchanged (run_of parts) h new d) where
  -- as many postings came in as requests were asked
  pub came_long : length f.all.asked ≡ length f.all.came
  came_long = sym (length_map (came_at f.connections) f.all.asked) ∙ ap length f.came ∙ length_map Some f.all.came

  pub given_long : length d.received.given ≡ length f.all.asked
  given_long = ap length f.given ∙ length_map posting_of f.all.came ∙ sym came_long

  -- what stands at a place came in
  given_at : (j : ℕ) (c : Came) → slice_get f.all.came j ≡ Some c → slice_get d.received.given j ≡ Some (posting_of c)
  given_at j c h = ap (λ l. slice_get l j) f.given ∙ get_map posting_of f.all.came j ∙ ap (option_map posting_of) h

  -- what was told of a place is the response
  module _ (j : ℕ) (c : Came) (there : slice_get f.all.came j ≡ Some c) where
    told_response : (t : Told) → Contains d.sent.told t → t.place ≡ j
        → response_told parts c t.outcomes ≡ response (run_of parts) (past_of (run_of parts) h) first_worker j c
    told_response t inside place =
        let is = k.told t inside in
        let same : is.0 ≡ posting_of c =
        same_of is.0 (posting_of c) (sym is.1 ∙ ap (slice_get d.received.given) place ∙ given_at j c there) in
        response_told-of (run_of parts) (past_of (run_of parts) h) c j t.outcomes
        (subst (λ n. told (run_of parts) (past_of (run_of parts) h) first_worker n (posting_of c) ≡ Some t.outcomes) place
        (subst (λ p. told (run_of parts) (past_of (run_of parts) h) first_worker t.place p ≡ Some t.outcomes) same is.2))

    heard_response : (at : Option (Option (List ℕ))) (text : Option (List ℕ)) → at ≡ Some text → IsHeard parts f.heard j c at
        → text ≡ response (run_of parts) (past_of (run_of parts) h) first_worker j c
    heard_response at text is heard =
        same_of text (response_told parts c heard.told.outcomes) (sym is ∙ heard.sent)
        ∙ told_response heard.told (contains_front f.heard d.sent.told heard.told f.told heard.there) heard.place

  pending_none : (j : ℕ) (a : Asked) (c : Came) (connection : RunConnection) (text : Option (List ℕ))
      → slice_get connection.texts a.request ≡ Some text → IsPending now.kept.connections j a c connection → ⊥
  pending_none j a c connection text is pending =
      none_not_some text (sym (get_past connection.texts) ∙ ap (slice_get connection.texts) (sym pending.last) ∙ is)

  -- each text is the response to its posting
  pub response_so : (j : ℕ) (a : Asked) (c : Came) (connection : RunConnection) (text : Option (List ℕ))
      → slice_get f.all.asked j ≡ Some a → slice_get f.all.came j ≡ Some c
      → slice_get f.connections a.traffic ≡ Some connection → slice_get connection.texts a.request ≡ Some text
      → text ≡ response (run_of parts) (past_of (run_of parts) h) first_worker j c
  response_so j a c connection text asked came there is =
      ⊎_elim (λ heard. heard_response j c came (slice_get connection.texts a.request) text is heard)
      (λ pending. absurd (pending_none j a c connection text is pending.0)) (f.answers j a c connection asked came there)

  -- ---- one by one

  -- there is a count of what had been told when a posting was asked for
  told_count : (j : ℕ) (a : Asked) → slice_get f.all.asked j ≡ Some a → (n : ℕ) × (slice_get d.received.seens j ≡ Some n)
  told_count j a there =
      get_some d.received.seens j
      (subst (λ n. j < n) (ap length f.asked ∙ sym f.one_by_one.counts) (get_within f.all.asked j a there))

  asked_there : (j : ℕ) (a : Asked) → slice_get f.all.asked j ≡ Some a → slice_get d.received.asked j ≡ Some a
  asked_there j a there = ap (λ l. slice_get l j) (sym f.asked) ∙ there

  -- each request of a connection was finished before the next was posted
  pub one_by_one_so : AreOneByOne (run_of parts) h f.all.asked
  one_by_one_so i j a b early late same less =
      let n = told_count j b late in
      finished_below (run_of parts) h first_worker (length f.all.asked) i j
      (ap (λ c. is_in i (finished_before (run_of parts) h c j)) (sym given_long)
      ∙ ap (is_in i) (sym (k.told_before j n.0 n.1))
      ∙ any_map (nat_eq i) (λ (t : Told). t.place) (take n.0 d.sent.told)
      ∙ f.one_by_one.each i j n.0 a b (asked_there i a early) (asked_there j b late) same less n.1)

  -- what had been told when a posting was asked for has each that was finished before it
  told_by : (i j n : ℕ) → slice_get d.received.seens j ≡ Some n → i < length f.all.asked
      → finished_at (run_of parts) (past_of (run_of parts) h) first_worker (length f.all.asked) i < j
      → list_any (λ (t : Told). nat_eq i t.place) (take n d.sent.told) ≡ true
  told_by i j n seen inside before =
      sym (any_map (nat_eq i) (λ (t : Told). t.place) (take n d.sent.told))
      ∙ ap (is_in i) (k.told_before j n seen)
      ∙ ap (λ c. is_in i (finished_before (run_of parts) h c j)) given_long
      ∙ before_has (run_of parts) h first_worker (length f.all.asked) i j inside before

  -- ---- which were told

  came_there : (j : ℕ) (a : Asked) → slice_get f.all.asked j ≡ Some a → (c : Came) × (slice_get f.all.came j ≡ Some c)
  came_there j a asked =
      get_some f.all.came j (subst (λ n. j < n) came_long (get_within f.all.asked j a asked))

  -- the request of a place that was heard has its text
  text_heard : (j : ℕ) → list_any (λ (t : Told). nat_eq j t.place) f.heard ≡ true → (a : Asked) (connection : RunConnection)
      → slice_get f.all.asked j ≡ Some a → slice_get f.connections a.traffic ≡ Some connection → a.request < length connection.texts
  text_heard j is a connection asked there =
      let came = came_there j a asked in
      ⊎_elim (λ heard. get_within connection.texts a.request (response_told parts came.0 heard.told.outcomes) heard.sent)
      (λ pending. absurd (true≢false (sym is ∙ pending.1)))
      (f.answers j a came.0 connection asked came.1 there)

  -- what had been told when the posting of a number was asked for was heard
  heard_by_then : (i j n : ℕ) → slice_get d.received.seens j ≡ Some n
      → list_any (λ (t : Told). nat_eq i t.place) (take n d.sent.told) ≡ true
      → list_any (λ (t : Told). nat_eq i t.place) f.heard ≡ true
  heard_by_then i j n seen is =
      any_first (λ (t : Told). nat_eq i t.place) n f.heard f.told.0 (f.heard_by j n seen)
      (ap (λ l. list_any (λ (t : Told). nat_eq i t.place) (take n l)) f.told.1 ∙ is)

  one_below : (n : ℕ) → n < suc n
  one_below n = omega arith

  -- so each was heard that was finished before the last posting
  pub told_early_so : AreToldEarly (run_of parts) h f.connections f.all.asked
  told_early_so j a connection asked there early =
      let at : ℕ = finished_at (run_of parts) (past_of (run_of parts) h) first_worker (length f.all.asked) j in
      let next = get_some f.all.asked (suc at) early in
      let n = told_count (suc at) next.0 next.1 in
      text_heard j
      (heard_by_then j (suc at) n.0 n.1 (told_by j (suc at) n.0 n.1 (get_within f.all.asked j a asked) (one_below at)))
      a connection asked there

  -- ---- all were told

  module _ (running : d.sent.halted ≡ false) where
    -- each place was told of
    told_each : (j : ℕ) → j < length f.all.asked → list_any (λ (t : Told). nat_eq j t.place) f.heard ≡ true
    told_each j below =
        ap (list_any (λ (t : Told). nat_eq j t.place)) (f.all_told running)
        ∙ sym (any_map (nat_eq j) (λ (t : Told). t.place) d.sent.told)
        ∙ ap (is_in j) k.order
        ∙ order_has (run_of parts) h first_worker (length d.received.given) j (subst (λ n. j < n) (sym given_long) below)

    -- the last request of a connection has its text
    last_told : (n : ℕ) (connection : RunConnection) → slice_get f.connections n ≡ Some connection → (m : ℕ) → length connection.bodies ≡ suc m
        → m < length connection.texts
    last_told n connection there m long =
        let nth : IsNth (is_of n) f.all.asked m =
        nth_of (is_of n) f.all.asked m (less_than (count_by (is_of n) f.all.asked) m (f.taken.all n connection there ∙ long)) in
        let of : n ≡ nth.item.traffic = eq_true n nth.item.traffic nth.kind in
        let request : nth.item.request ≡ m =
        f.taken.in_order nth.place nth.item nth.there
        ∙ ap (λ t. count_by (is_of t) (take nth.place f.all.asked)) (sym of) ∙ nth.before in
        subst (λ r. r < length connection.texts) request
        (text_heard nth.place (told_each nth.place (get_within f.all.asked nth.place nth.item nth.there)) nth.item connection nth.there
        (ap (slice_get f.connections) (sym of) ∙ there))
      where
        less_than : (c l : ℕ) → c ≡ suc l → l < c
        less_than c l e = omega (arith, e)

    all_told_by : (n : ℕ) (connection : RunConnection) → slice_get f.connections n ≡ Some connection → (b : ℕ) → length connection.bodies ≡ b
        → length connection.texts ≤ b → length connection.texts ≡ b
    all_told_by n connection there zero long most = let none : length connection.texts ≤ 0 = most in omega (arith, none)
    all_told_by n connection there (suc m) long most =
        let last : m < length connection.texts = last_told n connection there m long in omega (arith, last, most)

    same_eq : (m n : ℕ) → m ≡ n → nat_eq m n ≡ true
    same_eq m n e = subst (λ l. nat_eq m l ≡ true) e (itself m)

    told_so : (n : ℕ) (connection : RunConnection) → slice_get f.connections n ≡ Some connection → is_told connection ≡ true
    told_so n connection there =
        let link = link_at IsMade now.kept.connections f.connections f.clients n connection there in
        same_eq (length connection.texts) (length connection.bodies)
        (all_told_by n connection there (length connection.bodies) refl
        (texts_within link.2.first link.0.seen connection.bodies connection.texts
        (λ e. link.2.memory (link.2.stage ∙ e)) link.2.talks))

    pub all_told_so : list_all is_told f.connections ≡ true
    all_told_so = all_by_place is_told f.connections told_so

  -- ---- the whole

  module _ (doors : list_all (λ (connection : RunConnection). has_door parts connection.service) f.connections ≡ true) where
    -- what came on the connections was served
    abbrev pub served_so : IsServed (run_of parts) h d.sent.halted (map traffic_of now.kept.connections)
    served_so = record {
      connections = f.connections;
      all = f.all;
      doors = doors;
      passed = links_passed IsMade now.kept.connections f.connections f.clients;
      taken = record { in_order = f.taken.in_order; all = f.taken.all };
      came = f.came;
      posted = k.posted ∙ ap (posts_of 0) f.given;
      one_by_one = one_by_one_so;
      responses = response_so;
      told_early = told_early_so;
      told = all_told_so;
    }
