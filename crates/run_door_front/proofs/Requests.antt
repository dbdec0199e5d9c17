-- What was asked of the connections and received in, as they go on and as one request more comes.
use Rattle.std.proofs.Common.{◌≡◌, refl, sym, ap, ap₂, ◌∙◌, subst, arith, ℕ, zero, suc, ◌<◌, ◌≤◌, Bool, true, false, ◌⊎◌, inl, inr, List, [], ◌∷◌, ◌++◌, length, map, Option, None, Some, option_map, count_by, slice_get, nat_eq, append-nil}
use Rattle.conn_future.specs.Talking.{Seen, IsTalking}
use Rattle.std.specs.Option.{option_and_then}
use Rattle.std.specs.List.{list_all, list_any}
use Rattle.std.proofs.lemmas.Bool.{and_parts, and_from}
use Rattle.std.proofs.lemmas.Option.{none-some, same_Some, slice_get_within}
use Rattle.std.proofs.lemmas.List.{length-map}
use Rattle.behaviour_tree.specs.Data.{ProgramParts}
use Rattle.run_theorem.specs.Exchange.{Asked, Told}
use Rattle.run_theorem.specs.Calls.{is_of}
use Rattle.run_theorem.specs.Texts.{Came}
use Rattle.run_theorem.specs.RunConnections.{RunConnection, came_with, came_of, came_at, AreTaken}
use Rattle.run_theorem.specs.Served.{Requests}
use Rattle.conn_future.specs.declared.stage.Stage.TheVariants as Stages
use Rattle.outside_traits.specs.Told.{WireTold}
use Rattle.run_door_front.specs.declared.link.PendingReply.{PendingReply}
use Rattle.run_door_front.specs.Keeping.{is_led, Lead, ClientTold, stage_at}
use Rattle.run_door_front.specs.Exchanged.{OwesAt, IsClient, AreClients, IsHeard, IsPending}
use Rattle.run_door_front.specs.NextSteps.{IsNewClient, ClientGoesOn, LinksGoOn}
use Rattle.run_door_front.proofs.Entries.{get_front, count_no, nat_eq_less}

-- ---- connections grow

-- More bodies may have been handed out, and no text was told.
pub record GrowsTo (before now : RunConnection) : Type 0 where
  pub service : now.service ≡ before.service
  pub more : List (List ℕ)
  pub bodies : now.bodies ≡ before.bodies ++ more
  pub texts : now.texts ≡ before.texts

-- each connection stands where it stood, and grew
abbrev pub Later : List RunConnection → List RunConnection → Type 0
Later vs ws = (t : ℕ) (u : RunConnection) → slice_get vs t ≡ Some u → (w : RunConnection) × (slice_get ws t ≡ Some w) × GrowsTo u w

-- ---- what came in

-- what comes in is what a body of a connection says
came_parts : (vs : List RunConnection) (a : Asked) (c : Came) → came_at vs a ≡ Some c
    → (v : RunConnection) × (slice_get vs a.traffic ≡ Some v) × (body : List ℕ) × (slice_get v.bodies a.request ≡ Some body) × (came_with v.service body ≡ c)
came_parts vs a c e = at_connection (slice_get vs a.traffic) refl e
  where
    at_body : (v : RunConnection) → slice_get vs a.traffic ≡ Some v → (o : Option (List ℕ)) → slice_get v.bodies a.request ≡ o → option_map (came_with v.service) o ≡ Some c
        → (v : RunConnection) × (slice_get vs a.traffic ≡ Some v) × (body : List ℕ) × (slice_get v.bodies a.request ≡ Some body) × (came_with v.service body ≡ c)
    at_body v there None is k = absurd (none-some c k)
    at_body v there (Some body) is k = (v, there, body, is, same_Some (came_with v.service body) c k)

    at_connection : (o : Option RunConnection) → slice_get vs a.traffic ≡ o → option_and_then (came_of a.request) o ≡ Some c
        → (v : RunConnection) × (slice_get vs a.traffic ≡ Some v) × (body : List ℕ) × (slice_get v.bodies a.request ≡ Some body) × (came_with v.service body ≡ c)
    at_connection None is k = absurd (none-some c k)
    at_connection (Some v) is k = at_body v is (slice_get v.bodies a.request) refl k

pub came_made : (vs : List RunConnection) (a : Asked) (v : RunConnection) (body : List ℕ) → slice_get vs a.traffic ≡ Some v → slice_get v.bodies a.request ≡ Some body
    → came_at vs a ≡ Some (came_with v.service body)
came_made vs a v body there is = ap (option_and_then (came_of a.request)) there ∙ ap (option_map (came_with v.service)) is

came_later : (vs ws : List RunConnection) → Later vs ws → (a : Asked) (c : Came) → came_at vs a ≡ Some c → came_at ws a ≡ Some c
came_later vs ws later a c e =
    let found = came_parts vs a c e in
    let w = later a.traffic found.0 found.1 in
    let body : slice_get w.0.bodies a.request ≡ Some found.2 =
    ap (λ bs. slice_get bs a.request) w.2.bodies ∙ get_front found.0.bodies w.2.more a.request found.2 found.3 in
    came_made ws a w.0 found.2 w.1 body ∙ ap (λ s. Some (came_with s found.2)) w.2.service ∙ ap Some found.4

head_same : {A : Type 0} (x y : A) (xs ys : List A) → x ∷ xs ≡ y ∷ ys → x ≡ y
head_same x y xs ys e = cc

tail_same : {A : Type 0} (x y : A) (xs ys : List A) → x ∷ xs ≡ y ∷ ys → xs ≡ ys
tail_same x y xs ys e = cc

pub all_came_later : (vs ws : List RunConnection) → Later vs ws → (asked : List Asked) (came : List Came) → map (came_at vs) asked ≡ map Some came
    → map (came_at ws) asked ≡ map Some came
all_came_later vs ws later [] [] e = refl
all_came_later vs ws later [] (c ∷ came) e = absurd (let clash : [] ≡ Some c ∷ map Some came = e in cc)
all_came_later vs ws later (a ∷ asked) [] e = absurd (let clash : came_at vs a ∷ map (came_at vs) asked ≡ [] = e in cc)
all_came_later vs ws later (a ∷ asked) (c ∷ came) e =
    ap₂ (λ x xs. x ∷ xs) (came_later vs ws later a c (head_same (came_at vs a) (Some c) (map (came_at vs) asked) (map Some came) e))
    (all_came_later vs ws later asked came (tail_same (came_at vs a) (Some c) (map (came_at vs) asked) (map Some came) e))

-- what came in at a place
pub came_there : (vs : List RunConnection) (asked : List Asked) (came : List Came) → map (came_at vs) asked ≡ map Some came
    → (j : ℕ) (a : Asked) (c : Came) → slice_get asked j ≡ Some a → slice_get came j ≡ Some c → came_at vs a ≡ Some c
came_there vs [] came e j a c x y = absurd (none-some a x)
came_there vs (b ∷ asked) [] e j a c x y = absurd (none-some c y)
came_there vs (b ∷ asked) (d ∷ came) e zero a c x y =
    ap (came_at vs) (sym (same_Some b a x)) ∙ head_same (came_at vs b) (Some d) (map (came_at vs) asked) (map Some came) e ∙ y
came_there vs (b ∷ asked) (d ∷ came) e (suc j) a c x y =
    came_there vs asked came (tail_same (came_at vs b) (Some d) (map (came_at vs) asked) (map Some came) e) j a c x y

-- something came in at each place
pub came_some : (vs : List RunConnection) (asked : List Asked) (came : List Came) → map (came_at vs) asked ≡ map Some came
    → (j : ℕ) (a : Asked) → slice_get asked j ≡ Some a → (c : Came) × (slice_get came j ≡ Some c)
came_some vs [] came e j a x = absurd (none-some a x)
came_some vs (b ∷ asked) [] e j a x = absurd (let clash : came_at vs b ∷ map (came_at vs) asked ≡ [] = e in cc)
came_some vs (b ∷ asked) (d ∷ came) e zero a x = (d, refl)
came_some vs (b ∷ asked) (d ∷ came) e (suc j) a x =
    came_some vs asked came (tail_same (came_at vs b) (Some d) (map (came_at vs) asked) (map Some came) e) j a x

-- whose request it is that is asked is there
pub connection_there : (vs : List RunConnection) (asked : List Asked) (came : List Came) → map (came_at vs) asked ≡ map Some came
    → (j : ℕ) (a : Asked) → slice_get asked j ≡ Some a → (v : RunConnection) × (slice_get vs a.traffic ≡ Some v)
connection_there vs asked came e j a x =
    let c = came_some vs asked came e j a x in
    let found = came_parts vs a c.0 (came_there vs asked came e j a c.0 x c.1) in
    (found.0, found.1)

pub came_length : (vs : List RunConnection) (asked : List Asked) (came : List Came) → map (came_at vs) asked ≡ map Some came → length asked ≡ length came
came_length vs asked came e = sym (length-map asked (came_at vs)) ∙ ap length e ∙ length-map came Some

-- nothing was asked of a connection that was not there
untaken : (vs : List RunConnection) (k : ℕ) → length vs ≤ k → (asked : List Asked) (came : List Came) → map (came_at vs) asked ≡ map Some came
    → count_by (is_of k) asked ≡ 0
untaken vs k h [] came e = refl
untaken vs k h (a ∷ asked) [] e = absurd (let clash : came_at vs a ∷ map (came_at vs) asked ≡ [] = e in cc)
untaken vs k h (a ∷ asked) (c ∷ came) e =
    let found = came_parts vs a c (head_same (came_at vs a) (Some c) (map (came_at vs) asked) (map Some came) e) in
    let inside : a.traffic < length vs = slice_get_within vs a.traffic found.0 found.1 in
    count_no (is_of k) a asked (nat_eq_less k a.traffic (omega arith))
    ∙ untaken vs k h asked came (tail_same (came_at vs a) (Some c) (map (came_at vs) asked) (map Some came) e)

-- ---- what was told

-- each posting's request was told what was told of its place, or waits for its answer
abbrev pub Heard : ProgramParts → List ClientTold → List RunConnection → Requests → List Told → Type 0
Heard parts links connections all heard = (j : ℕ) (a : Asked) (c : Came) (connection : RunConnection)
    → slice_get all.asked j ≡ Some a → slice_get all.came j ≡ Some c → slice_get connections a.traffic ≡ Some connection
    → IsHeard parts heard j c (slice_get connection.texts a.request) ⊎
    (IsPending links j a c connection × (list_any (λ (t : Told). nat_eq j t.place) heard ≡ false))

-- a connection that owes an answer stays
abbrev pub PendingStay : List ClientTold → List ClientTold → Type 0
PendingStay ls ms = (k : ℕ) (link : ClientTold) (o : PendingReply) → slice_get ls k ≡ Some link → link.pending ≡ Some o → slice_get ms k ≡ Some link

pub heard_later : (parts : ProgramParts) (ls ms : List ClientTold) (vs ws : List RunConnection) (all : Requests) (heard : List Told) → Later vs ws → PendingStay ls ms
    → map (came_at vs) all.asked ≡ map Some all.came → Heard parts ls vs all heard → Heard parts ms ws all heard
heard_later parts ls ms vs ws all heard later stay came h = λ j a c w x y z.
    let found = connection_there vs all.asked all.came came j a x in
    let there = later a.traffic found.0 found.1 in
    let same : there.0 ≡ w = same_Some there.0 w (sym there.1 ∙ z) in
    let texts : w.texts ≡ found.0.texts = ap (λ (v : RunConnection). v.texts) (sym same) ∙ there.2.texts in
    elim (h j a c found.0 x y found.1) [
      | inl told ↦ inl (subst (λ ts. IsHeard parts heard j c (slice_get ts a.request)) (sym texts) told)
      | inr waits ↦ inr (
        record {
          link = waits.0.link;
          there = stay a.traffic waits.0.link (record { place = j; read = c.read }) waits.0.there waits.0.pending;
          pending = waits.0.pending;
          last = waits.0.last ∙ ap length (sym texts);
        },
        waits.1,
      )
    ]

-- ---- how the connections of a front and their requests stand

-- a connection whose wire was the same before tells the same door
pub same_door : (first : WireTold) (before now : Seen) (bodies later : List (List ℕ)) (texts more : List (Option (List ℕ))) (door : Option ℕ)
    → door ≡ before.line.door → IsTalking first before bodies texts → IsTalking first now later more → door ≡ now.line.door
same_door first before now bodies later texts more door is was talks = is ∙ was.talks.door ∙ sym talks.talks.door

-- What was asked of these connections, of which each came at one of these doors and leads to its service, and what was
-- told to them.
pub record Serves (IsMade : WireTold → Type 0) (parts : ProgramParts) (leads : List Lead) (links : List ClientTold) (all : Requests) (heard : List Told)
    : Type 0 where
  pub connections : List RunConnection
  pub are : AreClients IsMade links connections
  pub doors : list_all (λ (v : RunConnection). list_any (is_led v.door v.service) leads) connections ≡ true
  pub taken : AreTaken connections all.asked
  pub came : map (came_at connections) all.asked ≡ map Some all.came
  pub answers : Heard parts links connections all heard

module _ (IsMade : WireTold → Type 0) where
  -- ---- connections go on without a request

  -- what passed on a connection on which no request came yet
  abbrev fresh_connection : ClientTold → RunConnection
  fresh_connection m = record { door = m.seen.line.door; service = m.service; stage = stage_at m; bodies = []; texts = [] }

  -- what passed on a connection that goes on
  abbrev connection_on : RunConnection → ClientTold → RunConnection
  connection_on v m = record { door = v.door; service = v.service; stage = stage_at m; bodies = v.bodies; texts = v.texts }

  connections_on : List RunConnection → List ClientTold → List RunConnection
  connections_on [] [] = []
  connections_on [] (m ∷ ms) = fresh_connection m ∷ connections_on [] ms
  connections_on (v ∷ vs) [] = []
  connections_on (v ∷ vs) (m ∷ ms) = connection_on v m ∷ connections_on vs ms

  new_link : (m : ClientTold) → IsNewClient IsMade m → IsClient IsMade m (fresh_connection m)
  new_link m g = record {
    service = refl;
    door = refl;
    stage = refl;
    memory = g.memory;
    owes = subst (λ o. OwesAt o (stage_at m)) (sym g.pending) g.unowed;
    row = g.row;
    first = g.first;
    made = g.made;
    fresh = g.fresh;
    talks = g.talks;
    ended = g.talks.ended g.fresh.is_open;
  }

  -- whether an answer is pending stays
  owes_on : (o : Option PendingReply) (l m : ClientTold) → ClientGoesOn l m → OwesAt o (stage_at l) → OwesAt o (stage_at m)
  owes_on None l m g k = λ e. k (g.unowed e)
  owes_on (Some o) l m g k = ap stage_at (g.rests (inl (inr k))) ∙ k

  on_link : (l m : ClientTold) (v : RunConnection) → ClientGoesOn l m → IsClient IsMade l v → IsClient IsMade m (connection_on v m)
  on_link l m v g h = record {
    service = h.service ∙ sym g.service;
    door = same_door h.first l.seen m.seen v.bodies v.bodies v.texts v.texts v.door h.door h.talks (g.talks h.first v.bodies v.texts h.talks);
    stage = refl;
    memory = λ e. h.memory (h.stage ∙ g.memory e);
    owes = subst (λ o. OwesAt o (stage_at m)) (sym g.pending) (owes_on l.pending l m g (subst (OwesAt l.pending) h.stage h.owes));
    row = g.row h.row;
    first = h.first;
    made = h.made;
    fresh = h.fresh;
    talks = g.talks h.first v.bodies v.texts h.talks;
    ended = (g.talks h.first v.bodies v.texts h.talks).ended h.fresh.is_open;
  }

  module _ (leads : List Lead) where
    links_on : (ls ms : List ClientTold) (vs : List RunConnection) → AreClients IsMade ls vs → LinksGoOn IsMade leads ls ms → AreClients IsMade ms (connections_on vs ms)
    unfolding connections_on
    links_on [] [] [] h g = tt
    links_on [] (m ∷ ms) [] h g = (new_link m g.1, links_on [] ms [] tt g.2)
    links_on [] ms (v ∷ vs) h g = absurd h
    links_on (l ∷ ls) ms [] h g = absurd h
    links_on (l ∷ ls) [] (v ∷ vs) h g = absurd g
    links_on (l ∷ ls) (m ∷ ms) (v ∷ vs) h g = (on_link l m v g.0 h.0, links_on ls ms vs h.1 g.1)

    abbrev is_at_door : RunConnection → Bool
    is_at_door v = list_any (is_led v.door v.service) leads

    doors_on : (ls ms : List ClientTold) (vs : List RunConnection) → AreClients IsMade ls vs → LinksGoOn IsMade leads ls ms → list_all is_at_door vs ≡ true
        → list_all is_at_door (connections_on vs ms) ≡ true
    unfolding connections_on
    doors_on [] [] [] h g e = refl
    doors_on [] (m ∷ ms) [] h g e =
        and_from (is_at_door (fresh_connection m)) (list_all is_at_door (connections_on [] ms)) g.0 (doors_on [] ms [] tt g.2 refl)
    doors_on [] ms (v ∷ vs) h g e = absurd h
    doors_on (l ∷ ls) ms [] h g e = absurd h
    doors_on (l ∷ ls) [] (v ∷ vs) h g e = absurd g
    doors_on (l ∷ ls) (m ∷ ms) (v ∷ vs) h g e =
        let both = and_parts (is_at_door v) (list_all is_at_door vs) e in
        and_from (is_at_door (connection_on v m)) (list_all is_at_door (connections_on vs ms)) both.0 (doors_on ls ms vs h.1 g.1 both.1)

    later_on : (ls ms : List ClientTold) (vs : List RunConnection) → AreClients IsMade ls vs → LinksGoOn IsMade leads ls ms → Later vs (connections_on vs ms)
    unfolding connections_on
    later_on ls ms [] h g t u e = absurd (none-some u e)
    later_on [] ms (v ∷ vs) h g t u e = absurd h
    later_on (l ∷ ls) [] (v ∷ vs) h g t u e = absurd g
    later_on (l ∷ ls) (m ∷ ms) (v ∷ vs) h g zero u e =
        let same : v ≡ u = same_Some v u e in
        subst (λ x. (w : RunConnection) × (Some (connection_on v m) ≡ Some w) × GrowsTo x w) same
        (connection_on v m, refl, record { service = refl; more = []; bodies = sym (append-nil v.bodies); texts = refl })
    later_on (l ∷ ls) (m ∷ ms) (v ∷ vs) h g (suc t) u e = later_on ls ms vs h.1 g.1 t u e

    -- a connection is one that was there and has no more bodies, or a new one without any
    old_or_new : (ms : List ClientTold) (vs : List RunConnection) (k : ℕ) (w : RunConnection) → slice_get (connections_on vs ms) k ≡ Some w
        → ((v : RunConnection) × (slice_get vs k ≡ Some v) × (w.bodies ≡ v.bodies)) ⊎ ((length vs ≤ k) × (w.bodies ≡ []))
    unfolding connections_on
    old_or_new [] [] k w e = absurd (none-some w e)
    old_or_new (m ∷ ms) [] zero w e = inr (omega arith, ap (λ (v : RunConnection). v.bodies) (sym (same_Some (fresh_connection m) w e)))
    old_or_new (m ∷ ms) [] (suc k) w e = elim (old_or_new ms [] k w e) [
      | inl old ↦ absurd (none-some old.0 old.1)
      | inr none ↦ inr (omega arith, none.1)
    ]
    old_or_new [] (v ∷ vs) k w e = absurd (none-some w e)
    old_or_new (m ∷ ms) (v ∷ vs) zero w e = inl (v, refl, ap (λ (x : RunConnection). x.bodies) (sym (same_Some (connection_on v m) w e)))
    old_or_new (m ∷ ms) (v ∷ vs) (suc k) w e = elim (old_or_new ms vs k w e) [
      | inl old ↦ inl (old.0, old.1, old.2)
      | inr none ↦ inr ((let few = none.0 in omega arith), none.1)
    ]

    pending_on : (ls ms : List ClientTold) (vs : List RunConnection) → AreClients IsMade ls vs → LinksGoOn IsMade leads ls ms → PendingStay ls ms
    pending_on [] ms vs h g k link o e is = absurd (none-some link e)
    pending_on (l ∷ ls) ms [] h g k link o e is = absurd h
    pending_on (l ∷ ls) [] (v ∷ vs) h g k link o e is = absurd g
    pending_on (l ∷ ls) (m ∷ ms) (v ∷ vs) h g zero link o e is =
        let owing : l.pending ≡ Some o = ap (λ (x : ClientTold). x.pending) (same_Some l link e) ∙ is in
        let stage : v.stage ≡ Stages.Owes = subst (λ x. OwesAt x v.stage) owing h.0.owes in
        ap Some (g.0.rests (inl (inr (sym h.0.stage ∙ stage)))) ∙ e
    pending_on (l ∷ ls) (m ∷ ms) (v ∷ vs) h g (suc k) link o e is = pending_on ls ms vs h.1 g.1 k link o e is

    -- all of it goes on
    pub serves-on : (parts : ProgramParts) (ls ms : List ClientTold) (all : Requests) (heard : List Told) → LinksGoOn IsMade leads ls ms
        → Serves IsMade parts leads ls all heard → Serves IsMade parts leads ms all heard
    serves-on parts ls ms all heard g s =
        let ws = connections_on s.connections ms in
        let later : Later s.connections ws = later_on ls ms s.connections s.are g in
        record {
          connections = ws;
          are = links_on ls ms s.connections s.are g;
          doors = doors_on ls ms s.connections s.are g s.doors;
          taken = record {
            in_order = s.taken.in_order;
            all = λ k w e. elim (old_or_new ms s.connections k w e) [
              | inl old ↦ s.taken.all k old.0 old.1 ∙ ap length (sym old.2)
              | inr none ↦ untaken s.connections k none.0 all.asked all.came s.came ∙ ap length (sym none.1)
            ];
          };
          came = all_came_later s.connections ws later all.asked all.came s.came;
          answers = heard_later parts ls ms s.connections ws all heard later (pending_on ls ms s.connections s.are g) s.came s.answers;
        }
