-- One request more comes on a connection of a front.
use Rattle.std.proofs.Common.{Option, ◌≡◌, refl, sym, ap, ap₂, ◌∙◌, subst, arith, ℕ, zero, suc, ◌<◌, ◌≤◌, Bool, true, false, ◌&&◌, ◌||◌, ◌⊎◌, inl, inr, List, [], ◌∷◌, ◌++◌, length, map, take, Some, count_by, slice_get, slice_set, nat_eq, nat_lt, append-nil, length-append}
use Rattle.std.specs.List.{list_all, list_any}
use Rattle.std.proofs.lemmas.Bool.{and_parts, and_from, ltb-true, true≢false}
use Rattle.std.proofs.lemmas.Option.{none-some, same_Some, slice_get_within}
use Rattle.std.proofs.lemmas.List.{map-append, take_all}
use Rattle.behaviour_tree.specs.Data.{ProgramParts}
use Rattle.jsonrpc_text.specs.Posted.{posted}
use Rattle.run_theorem.specs.Exchange.{Asked, Told}
use Rattle.run_theorem.specs.Calls.{is_of}
use Rattle.run_theorem.specs.Texts.{Came}
use Rattle.run_theorem.specs.RunConnections.{RunConnection, came_with, came_at, AreTaken}
use Rattle.run_theorem.specs.Served.{Requests}
use Rattle.conn_future.specs.declared.stage.Stage.TheVariants as Stages
use Rattle.outside_traits.specs.Told.{WireTold}
use Rattle.run_door_front.specs.declared.link.PendingReply.{PendingReply}
use Rattle.run_door_front.specs.Keeping.{is_of_door, is_led, Lead, ClientTold, stage_at}
use Rattle.run_door_front.specs.Exchanged.{OwesAt, IsClient, AreClients, IsHeard, IsPending}
use Rattle.run_door_front.specs.NextSteps.{IsAsked, Listing, AsksOne}
use Rattle.run_door_front.proofs.Entries.{get_last, get_cases, take_front, get_set_same, get_set_other, count_no, count_yes, count_append, nat_eq_same, nat_eq_is, nat_eq_less}
use Rattle.run_door_front.proofs.Links.{asks_not_owes}
use Rattle.run_door_front.proofs.Counting.{texts-where_asks}
use Rattle.run_door_front.proofs.Requests.{GrowsTo, Later, Heard, PendingStay, same_door, heard_later, came_made, came_length, all_came_later, Serves}

-- ---- the connection and what passed on it

-- what passed on a connection that handed out one body more
abbrev with_body : List ℕ → RunConnection → RunConnection
with_body body v = record { door = v.door; service = v.service; stage = Stages.Owes; bodies = v.bodies ++ body ∷ []; texts = v.texts }

module _ (IsMade : WireTold → Type 0) (place : ℕ) (body : List ℕ) where
  asked_link : (l m : ClientTold) (v : RunConnection) → IsAsked place body l m → IsClient IsMade l v → IsClient IsMade m (with_body body v)
  asked_link l m v a h = record {
    service = h.service ∙ sym a.service;
    door = same_door h.first l.seen m.seen v.bodies (v.bodies ++ body ∷ []) v.texts v.texts v.door h.door h.talks
        (a.talks h.first v.bodies v.texts h.talks);
    stage = sym a.stage;
    memory = λ e. (let clash : Stages.Owes ≡ Stages.Spent = e in cc);
    owes = subst (λ o. OwesAt o Stages.Owes) (sym a.pending) refl;
    row = λ _. subst (λ n. n ≤ m.longest) (sym a.row) (subst (λ n. l.in_a_row ≤ n) (sym a.longest) (h.row (inl (inl a.asked))));
    first = h.first;
    made = h.made;
    fresh = h.fresh;
    talks = a.talks h.first v.bodies v.texts h.talks;
    ended = λ e. (let clash : Stages.Owes ≡ Stages.Ended = e in cc);
  }

  asked_links : (ls : List ClientTold) (vs : List RunConnection) (k : ℕ) (l m : ClientTold) (v : RunConnection) → slice_get ls k ≡ Some l → slice_get vs k ≡ Some v
      → IsAsked place body l m → AreClients IsMade ls vs → AreClients IsMade (slice_set ls k m) (slice_set vs k (with_body body v))
  asked_links [] vs k l m v x y a h = absurd (none-some l x)
  asked_links (i ∷ ls) [] k l m v x y a h = absurd h
  asked_links (i ∷ ls) (u ∷ vs) zero l m v x y a h =
      let link : IsClient IsMade l v = subst (λ i. IsClient IsMade i v) (same_Some i l x) (subst (IsClient IsMade i) (same_Some u v y) h.0) in
      (asked_link l m v a link, h.1)
  asked_links (i ∷ ls) (u ∷ vs) (suc k) l m v x y a h = (h.0, asked_links ls vs k l m v x y a h.1)

-- what leads to a service by one of these doors leads to one of their services
pub any_service : (door : Option ℕ) (service : ℕ) (leads : List Lead) → list_any (is_led door service) leads ≡ true
    → list_any (nat_eq service) (map (λ (lead : Lead). lead.service) leads) ≡ true
any_service door service [] e = e
any_service door service (l ∷ ls) e =
    by (is_of_door door l.place) (nat_eq service l.service) (any_service door service ls) e
  where
    by : (a b : Bool)
        → (list_any (is_led door service) ls ≡ true → list_any (nat_eq service) (map (λ (lead : Lead). lead.service) ls) ≡ true)
        → (a && b) || list_any (is_led door service) ls ≡ true
        → b || list_any (nat_eq service) (map (λ (lead : Lead). lead.service) ls) ≡ true
    by true true rest h = refl
    by false true rest h = refl
    by true false rest h = rest h
    by false false rest h = rest h

-- a connection and its connection
pub link_there : (IsMade : WireTold → Type 0) (ls : List ClientTold) (vs : List RunConnection) (k : ℕ) (l : ClientTold) → slice_get ls k ≡ Some l → AreClients IsMade ls vs
    → (v : RunConnection) × (slice_get vs k ≡ Some v) × IsClient IsMade l v
link_there IsMade [] vs k l x h = absurd (none-some l x)
link_there IsMade (i ∷ ls) [] k l x h = absurd h
link_there IsMade (i ∷ ls) (u ∷ vs) zero l x h = (u, refl, subst (λ i. IsClient IsMade i u) (same_Some i l x) h.0)
link_there IsMade (i ∷ ls) (u ∷ vs) (suc k) l x h = link_there IsMade ls vs k l x h.1

-- ---- lists with one entry set

all_set : {A : Type 0} (p : A → Bool) (xs : List A) (k : ℕ) (x y : A) → slice_get xs k ≡ Some x → p y ≡ p x → list_all p xs ≡ true
    → list_all p (slice_set xs k y) ≡ true
all_set p [] k x y e same h = refl
all_set p (z ∷ xs) zero x y e same h =
    let both = and_parts (p z) (list_all p xs) h in
    and_from (p y) (list_all p xs) (same ∙ ap p (sym (same_Some z x e)) ∙ both.0) both.1
all_set p (z ∷ xs) (suc k) x y e same h =
    let both = and_parts (p z) (list_all p xs) h in
    and_from (p z) (list_all p (slice_set xs k y)) both.0 (all_set p xs k x y e same both.1)

body_later : (vs : List RunConnection) (k : ℕ) (v : RunConnection) (body : List ℕ) → slice_get vs k ≡ Some v → Later vs (slice_set vs k (with_body body v))
body_later vs k v body is t u e = by_place (nat_eq k t) refl
  where
    by_place : (b : Bool) → nat_eq k t ≡ b → (w : RunConnection) × (slice_get (slice_set vs k (with_body body v)) t ≡ Some w) × GrowsTo u w
    by_place true same =
        let here : k ≡ t = nat_eq_is k t same in
        let one : u ≡ v = same_Some u v (sym e ∙ ap (slice_get vs) (sym here) ∙ is) in (
          with_body body v,
          ap (slice_get (slice_set vs k (with_body body v))) (sym here) ∙ get_set_same vs k v (with_body body v) is,
          subst (λ x. GrowsTo x (with_body body v)) (sym one) (record { service = refl; more = body ∷ []; bodies = refl; texts = refl }),
        )
    by_place false other = (
      u,
      get_set_other vs k t (with_body body v) other ∙ e,
      record { service = refl; more = []; bodies = sym (append-nil u.bodies); texts = refl },
    )

-- a connection that asks owes nothing, so that those that do stay
pending_set : (IsMade : WireTold → Type 0) (ls : List ClientTold) (k : ℕ) (l m : ClientTold) (v : RunConnection) → slice_get ls k ≡ Some l → IsClient IsMade l v → stage_at l ≡ Stages.Asks
    → PendingStay ls (slice_set ls k m)
pending_set IsMade ls k l m v is h e = λ t link o x y. by_place t link o x y (nat_eq k t) refl
  where
    by_place : (t : ℕ) (link : ClientTold) (o : PendingReply) → slice_get ls t ≡ Some link → link.pending ≡ Some o → (b : Bool) → nat_eq k t ≡ b → slice_get (slice_set ls k m) t ≡ Some link
    by_place t link o x y true same =
        let one : l ≡ link = same_Some l link (sym is ∙ ap (slice_get ls) (nat_eq_is k t same) ∙ x) in
        let owing : l.pending ≡ Some o = ap (λ (x : ClientTold). x.pending) one ∙ y in
        let stage : v.stage ≡ Stages.Owes = subst (λ o. OwesAt o v.stage) owing h.owes in
        absurd (asks_not_owes (stage_at l) e (sym h.stage ∙ stage))
    by_place t link o x y false other = get_set_other ls k t m other ∙ x

-- ---- requests

-- one request more
abbrev pub one_more : Requests → Asked → Came → Requests
one_more all a c = record { asked = all.asked ++ a ∷ []; came = all.came ++ c ∷ [] }

-- the next request of a connection
abbrev pub next_of : ℕ → List Asked → Asked
next_of k asked = record { traffic = k; request = count_by (is_of k) asked }

taken_more : (vs : List RunConnection) (asked : List Asked) (k : ℕ) (v : RunConnection) (body : List ℕ) → slice_get vs k ≡ Some v → AreTaken vs asked
    → AreTaken (slice_set vs k (with_body body v)) (asked ++ next_of k asked ∷ [])
taken_more vs asked k v body is t = record {
  in_order = λ j a e. elim (get_cases asked (next_of k asked) j a e) [
    | inl old ↦ t.in_order j a old ∙ ap (count_by (is_of a.traffic)) (sym (take_front asked (next_of k asked ∷ []) j (inside j a old)))
    | inr new ↦
        subst (λ (b : Asked). b.request ≡ count_by (is_of b.traffic) (take j (asked ++ next_of k asked ∷ []))) new.1
        (ap (count_by (is_of k)) (sym (ap (λ i. take i (asked ++ next_of k asked ∷ [])) new.0 ∙ take_front asked (next_of k asked ∷ []) (length asked) (omega arith)
        ∙ take_all (length asked) asked (omega arith))))
  ];
  all = λ m w e. by_place m w e (nat_eq k m) refl;
}
  where
    inside : (j : ℕ) (a : Asked) → slice_get asked j ≡ Some a → j ≤ length asked
    inside j a e = let h = slice_get_within asked j a e in omega arith

    one_here : (m : ℕ) → nat_eq k m ≡ true → count_by (is_of m) (next_of k asked ∷ []) ≡ 1
    one_here m same =
        let here : k ≡ m = nat_eq_is k m same in
        count_yes (is_of m) (next_of k asked) [] (ap (nat_eq m) here ∙ nat_eq_same m)

    none_there : (m : ℕ) → nat_eq k m ≡ false → count_by (is_of m) (next_of k asked ∷ []) ≡ 0
    none_there m other = count_no (is_of m) (next_of k asked) [] (other_way (nat_eq m k) refl)
      where
        other_way : (b : Bool) → nat_eq m k ≡ b → nat_eq m k ≡ false
        other_way true e = absurd (true≢false (sym (ap (λ n. nat_eq n m) (sym (nat_eq_is m k e)) ∙ nat_eq_same m) ∙ other))
        other_way false e = e

    by_place : (m : ℕ) (w : RunConnection) → slice_get (slice_set vs k (with_body body v)) m ≡ Some w → (b : Bool) → nat_eq k m ≡ b
        → count_by (is_of m) (asked ++ next_of k asked ∷ []) ≡ length w.bodies
    by_place m w e true same =
        let here : k ≡ m = nat_eq_is k m same in
        let one : with_body body v ≡ w =
        same_Some (with_body body v) w (sym (get_set_same vs k v (with_body body v) is) ∙ ap (slice_get (slice_set vs k (with_body body v))) here ∙ e) in
        let before : count_by (is_of m) asked ≡ length v.bodies = t.all m v (ap (slice_get vs) (sym here) ∙ is) in
        let more = count_append (is_of m) asked (next_of k asked ∷ []) in
        let last = one_here m same in
        let long = length-append v.bodies (body ∷ []) in
        subst (λ (x : RunConnection). count_by (is_of m) (asked ++ next_of k asked ∷ []) ≡ length x.bodies) one (omega arith)
    by_place m w e false other =
        let before : count_by (is_of m) asked ≡ length w.bodies = t.all m w (sym (get_set_other vs k m (with_body body v) other) ∙ e) in
        let more = count_append (is_of m) asked (next_of k asked ∷ []) in
        let last = none_there m other in
        omega arith

-- places that were told of are not the next
pub untold_next : (n : ℕ) (heard : List Told) → list_all (λ (t : Told). nat_lt t.place n) heard ≡ true → list_any (λ (t : Told). nat_eq n t.place) heard ≡ false
untold_next n [] h = refl
untold_next n (t ∷ heard) h =
    let both = and_parts (nat_lt t.place n) (list_all (λ (t : Told). nat_lt t.place n) heard) h in
    let less : t.place < n = ltb-true t.place n both.0 in
    ap₂ (λ a b. a || b) (nat_eq_less n t.place less) (untold_next n heard both.1)

module _ (IsMade : WireTold → Type 0) (parts : ProgramParts) (leads : List Lead) (before now : Listing) (all : Requests) (heard : List Told) (number : ℕ) (body : List ℕ)
    (places : list_all (λ (t : Told). nat_lt t.place (length all.asked)) heard ≡ true) (long : length before.traffics ≡ length all.asked)
    (one : AsksOne number body before now) (s : Serves IsMade parts leads before.connections all heard) where
  here : (v : RunConnection) × (slice_get s.connections number ≡ Some v) × IsClient IsMade one.link v
  here = link_there IsMade before.connections s.connections number one.link one.there s.are

  abbrev connection : RunConnection
  connection = here.0

  abbrev connections : List RunConnection
  connections = slice_set s.connections number (with_body body connection)

  -- whose request it is
  abbrev pub whose : Asked
  whose = next_of number all.asked

  -- what it brings in
  abbrev pub brings : Came
  brings = came_with one.link.service body

  later : Later s.connections connections
  later = body_later s.connections number connection body here.1

  -- its number is that of the bodies before it
  number_is : whose.request ≡ length connection.bodies
  number_is = s.taken.all number connection here.1

  came_now : came_at connections whose ≡ Some brings
  came_now =
      let link : connection.service ≡ one.link.service = here.2.service in
      let last : slice_get (connection.bodies ++ body ∷ []) whose.request ≡ Some body = ap (slice_get (connection.bodies ++ body ∷ [])) number_is ∙ get_last connection.bodies body in
      came_made connections whose (with_body body connection) body (get_set_same s.connections number connection (with_body body connection) here.1) last
      ∙ ap (λ n. Some (came_with n body)) link

  all_came : map (came_at connections) (all.asked ++ whose ∷ []) ≡ map Some (all.came ++ brings ∷ [])
  all_came =
      map-append (came_at connections) all.asked (whose ∷ [])
      ∙ ap₂ (λ xs ys. xs ++ ys) (all_came_later s.connections connections later all.asked all.came s.came) (ap (λ x. x ∷ []) came_now)
      ∙ sym (map-append Some all.came (brings ∷ []))

  waits_now : IsPending now.connections (length all.asked) whose brings (with_body body connection)
  waits_now = record {
    link = one.later;
    there = ap (λ ls. slice_get ls number) one.set ∙ get_set_same before.connections number one.link one.later one.there;
    pending = one.asked.pending ∙ ap (λ n. Some (record { place = n; read = posted body })) long;
    last = number_is
        ∙ sym (texts-where_asks here.2.first one.link.seen connection.bodies connection.texts here.2.talks one.asking);
  }

  heard_now : Heard parts now.connections connections (one_more all whose brings) heard
  heard_now = λ j a c w x y z. elim (get_cases all.asked whose j a x) [
    | inl old ↦ elim (get_cases all.came brings j c y) [
      | inl came ↦ old_heard j a c w old came z
      | inr late ↦ absurd (clash j a old late.0)
    ]
    | inr new ↦ elim (get_cases all.came brings j c y) [
      | inl came ↦ absurd (clash_came j c came new.0)
      | inr late ↦ inr (new_heard j a c w new late z)
    ]
  ]
    where
      counts : length all.asked ≡ length all.came
      counts = came_length s.connections all.asked all.came s.came

      clash : (j : ℕ) (a : Asked) → slice_get all.asked j ≡ Some a → j ≡ length all.came → ⊥
      clash j a e is = let h = slice_get_within all.asked j a e in let n = counts in omega arith

      clash_came : (j : ℕ) (c : Came) → slice_get all.came j ≡ Some c → j ≡ length all.asked → ⊥
      clash_came j c e is = let h = slice_get_within all.came j c e in let n = counts in omega arith

      old_all : Heard parts (slice_set before.connections number one.later) connections all heard
      old_all =
          heard_later parts before.connections (slice_set before.connections number one.later) s.connections connections all heard later
          (pending_set IsMade before.connections number one.link one.later connection one.there here.2 one.asking) s.came s.answers

      old_heard : (j : ℕ) (a : Asked) (c : Came) (w : RunConnection) → slice_get all.asked j ≡ Some a → slice_get all.came j ≡ Some c → slice_get connections a.traffic ≡ Some w
          → IsHeard parts heard j c (slice_get w.texts a.request) ⊎ (IsPending now.connections j a c w × (list_any (λ (t : Told). nat_eq j t.place) heard ≡ false))
      old_heard = subst (λ ls. Heard parts ls connections all heard) (sym one.set) old_all

      new_heard : (j : ℕ) (a : Asked) (c : Came) (w : RunConnection) → (j ≡ length all.asked) × (whose ≡ a) → (j ≡ length all.came) × (brings ≡ c)
          → slice_get connections a.traffic ≡ Some w → IsPending now.connections j a c w × (list_any (λ (t : Told). nat_eq j t.place) heard ≡ false)
      new_heard j a c w x y z =
          let there : with_body body connection ≡ w =
          same_Some (with_body body connection) w
          (sym (get_set_same s.connections number connection (with_body body connection) here.1) ∙ ap (λ (b : Asked). slice_get connections b.traffic) x.1 ∙ z) in (
            subst (λ i. IsPending now.connections i a c w) (sym x.0)
                (subst (λ b. IsPending now.connections (length all.asked) b c w) x.1
                (subst (λ d. IsPending now.connections (length all.asked) whose d w) y.1
                (subst (IsPending now.connections (length all.asked) whose brings) there waits_now))),
            ap (λ i. list_any (λ (t : Told). nat_eq i t.place) heard) x.0 ∙ untold_next (length all.asked) heard places,
          )

  pub serves-more : Serves IsMade parts leads now.connections (one_more all whose brings) heard
  serves-more = record {
    connections = connections;
    are = subst (λ ls. AreClients IsMade ls connections) (sym one.set)
        (asked_links IsMade (length before.traffics) body before.connections s.connections number one.link one.later connection one.there here.1 one.asked s.are);
    doors = all_set (λ (v : RunConnection). list_any (is_led v.door v.service) leads) s.connections number connection (with_body body connection) here.1 refl s.doors;
    taken = taken_more s.connections all.asked number connection body here.1 s.taken;
    came = all_came;
    answers = heard_now;
  }

  -- the service of the connection is one of the doors'
  pub service_there : list_any (nat_eq one.link.service) (map (λ (lead : Lead). lead.service) leads) ≡ true
  service_there =
      subst (λ n. list_any (nat_eq n) (map (λ (lead : Lead). lead.service) leads) ≡ true) here.2.service
      (any_service connection.door connection.service leads (all_at s.connections number connection here.1 s.doors))
    where
      all_at : (vs : List RunConnection) (k : ℕ) (v : RunConnection) → slice_get vs k ≡ Some v → list_all (λ (v : RunConnection). list_any (is_led v.door v.service) leads) vs ≡ true
          → list_any (is_led v.door v.service) leads ≡ true
      all_at [] k v e h = absurd (none-some v e)
      all_at (u ∷ vs) zero v e h =
          let both = and_parts (list_any (is_led u.door u.service) leads) (list_all (λ (v : RunConnection). list_any (is_led v.door v.service) leads) vs) h in
          subst (λ (x : RunConnection). list_any (is_led x.door x.service) leads ≡ true) (same_Some u v e) both.0
      all_at (u ∷ vs) (suc k) v e h =
          let both = and_parts (list_any (is_led u.door u.service) leads) (list_all (λ (v : RunConnection). list_any (is_led v.door v.service) leads) vs) h in
          all_at vs k v e both.1
