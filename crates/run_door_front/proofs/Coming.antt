-- Doors and connections as they go on in one call.
use Rattle.std.proofs.Common.{◌≡◌, refl, sym, ap, ap₂, ◌∙◌, subst, arith, ℕ, zero, suc, ◌+◌, ◌-◌, ◌^◌, ◌<◌, ◌≤◌, Bool, true, false, ◌&&◌, ◌||◌, ◌⊎◌, inl, inr, List, [], ◌∷◌, ◌++◌, length, map, take, drop, set, get_or, Option, None, Some, nat_eq, nat_lt, IfSome, append_assoc, append-nil, length-append}
use Rattle.std.proofs.lemmas.List.{map-append, length_push, length-drop, take_more, take_more_set, take_all, drop_more, drop-drop, drop-set-lt}
use Rattle.std.proofs.lemmas.List.Sums.{sum_by-append}
use Rattle.std.proofs.lemmas.List.Folds.{list_all-append}
use Rattle.std.proofs.lemmas.Bool.{and_from, and_parts, lt-ltb, ltb-true, true≢false}
use Rattle.std.specs.List.{list_all, sum_by}
use Rattle.outside_doors.specs.Counts.{added}
use Rattle.outside_doors.specs.Attempts.{ComesAt, IsFresh}
use Rattle.outside_polling.specs.Polls.{PollTold}
use Rattle.conn_future.specs.declared.stage.Stage.TheVariants as Stages
use Rattle.conn_future.specs.Talking.{IsTalking}
use Rattle.outside_traits.specs.Told.{WireTold}
use Rattle.run_door_front.specs.Keeping.{is_led, lead_of, Lead, ListenerTold, ClientTold, stage_at, wires_to, most_open}
use Rattle.run_door_front.specs.Exchanged.{IsNewLine}
use Rattle.run_door_front.specs.NextSteps.{came_by, GoesOn, IsTried, wires_of, has_room, IsNewClient, AreNewLinks, CameInOrder, AllInTurn, doorway, TakesIn, Accepts}
use Rattle.run_door_front.specs.Rounds.{rests_of}
use Rattle.run_door_front.proofs.Entries.{nat_eq_same}
use Rattle.run_door_front.proofs.Leading.{sum_one, plus_none, led-still, led-push, led-both}
use Rattle.run_door_front.proofs.Doors.{goes-same, goes-further, all-push, tried-push, tried-since}
use Rattle.run_door_front.proofs.Links.{no_room-more, new-append, new-among, any-left, any-right}
use Rattle.run_door_front.proofs.InTurn.{turns-push, turns-last, turns-append, turns-on}
use Rattle.run_door_front.proofs.Lining.{ordered-push}

-- ---- a new connection

-- what a new wire tells is nothing, where it tells it
nothing_yet : (told : Option (List ℕ)) → IfSome told (λ bytes. bytes ≡ []) → (told ≡ None) ⊎ (told ≡ Some [])
nothing_yet None h = inl refl
nothing_yet (Some bytes) h = inr (ap Some h)

new_line : (line : WireTold) → IsFresh line → IsNewLine line
new_line line f = record {
  nothing_read = nothing_yet line.read f.nothing_read;
  unwritten = nothing_yet line.written f.unwritten;
  read_unfailed = f.read_unfailed;
  write_unfailed = f.write_unfailed;
  is_open = f.is_open;
}

pub new_link-at : (IsMade : WireTold → Type 0) (line : WireTold) (link : ClientTold) → IsMade line → IsFresh line → link.pending ≡ None
    → link.in_a_row ≡ 0 → stage_at link ≡ Stages.Reads → IsTalking line link.seen [] [] → IsNewClient IsMade link
new_link-at IsMade line link made f pending row stage talks = record {
  pending = pending;
  unowed = λ e. (let clash : Stages.Reads ≡ Stages.Owes = sym stage ∙ e in cc);
  memory = λ e. (let clash : Stages.Reads ≡ Stages.Spent = sym stage ∙ e in cc);
  row = λ a. within link.in_a_row link.longest row;
  first = line;
  made = made;
  fresh = new_line line f;
  talks = talks;
}
  where
    within : (a b : ℕ) → a ≡ 0 → a ≤ b
    within a b e = omega arith

-- a connection on which nothing passed tells the door of its wire
pub door-at : (told : PollTold) (place : ℕ) (link : ClientTold) → ComesAt place told → IsTalking told.wire link.seen [] []
    → link.seen.line.door ≡ Some place
door-at told place link comes talks = talks.talks.door ∙ comes.door

-- one that came at a door and leads to its service
came-there : (p : ListenerTold) (l : ClientTold) → l.seen.line.door ≡ Some p.door.place → l.service ≡ p.service → came_by l (lead_of p) ≡ true
came-there p l door service =
    ap₂ (λ d s. is_led d s (lead_of p)) door service ∙ and_from (nat_eq p.door.place p.door.place) (nat_eq p.service p.service)
    (nat_eq_same p.door.place) (nat_eq_same p.service)

-- where there is room there are fewer than the most, and fewer are open than may be
pub room_fewer : (most accepted opened : ℕ) → has_room most accepted opened ≡ true → (accepted < most) × (opened < most_open)
room_fewer most accepted opened h =
    let both = and_parts (nat_lt accepted most) (nat_lt opened most_open) h in
    (ltb-true accepted most both.0, ltb-true opened most_open both.1)

-- what a test of how many there are tells
pub room-tested : (most a b accepted opened : ℕ) (r test : Bool) → accepted ≡ a → opened ≡ b → r ≡ has_room most accepted opened → r ≡ test → has_room most a b ≡ test
room-tested most a b accepted opened r test p q is passed = ap₂ (has_room most) (sym p) (sym q) ∙ sym is ∙ passed

-- what is left of a list is as it was where its first is set
pub unvisited-step : (ps qs : List ListenerTold) (i : ℕ) (q : ListenerTold) → drop i qs ≡ drop i ps → drop (i + 1) (set qs i q) ≡ drop (i + 1) ps
unvisited-step ps qs i q rest =
    let one : i < i + 1 = omega arith in
    drop-set-lt (i + 1) qs i q one ∙ sym (drop-drop 1 i qs) ∙ ap (drop 1) rest ∙ drop-drop 1 i ps

-- a door was set that was rested at as often
pub rests-set : (ps : List ListenerTold) (i : ℕ) (x q : ListenerTold) → q.door.rests ≡ (get_or ps i x).door.rests → map rests_of (set ps i q) ≡ map rests_of ps
rests-set [] i x q e = refl
rests-set (p ∷ ps) zero x q e = ap (λ n. n ∷ map rests_of ps) e
rests-set (p ∷ ps) (suc i) x q e = ap (λ ns. p.door.rests ∷ ns) (rests-set ps i x q e)

-- ---- in the order of the doors

-- at one door
order_one : (d : Lead) (ls : List ClientTold) → CameInOrder (d ∷ []) ls → list_all (λ link. came_by link d) ls ≡ true
order_one d ls o =
    let all : ls ≡ o.0 = o.2 ∙ ap (λ others. o.0 ++ others) o.4 ∙ append-nil o.0 in
    ap (list_all (λ link. came_by link d)) all ∙ o.3

order_of : (d : Lead) (ls : List ClientTold) → list_all (λ link. came_by link d) ls ≡ true → CameInOrder (d ∷ []) ls
order_of d ls all = (ls, [], sym (append-nil ls), all, refl)

-- at one door more
order_more : (ds : List Lead) (d : Lead) (ls ms : List ClientTold) → CameInOrder ds ls → list_all (λ link. came_by link d) ms ≡ true → CameInOrder (ds ++ d ∷ []) (ls ++ ms)
order_more [] d ls ms o all = (ms, [], ap (λ xs. xs ++ ms) o ∙ sym (append-nil ms), all, refl)
order_more (e ∷ ds) d ls ms o all =
    (o.0, o.1 ++ ms, ap (λ xs. xs ++ ms) o.2 ∙ append_assoc o.0 o.1 ms, o.3, order_more ds d o.1 ms o.4 all)

module _ (IsMade : WireTold → Type 0) (most : ℕ) where
  -- ---- at one door

  -- nobody came yet
  pub takes-none : (p : ListenerTold) (links : List ClientTold) (opened : List ℕ) → TakesIn IsMade most (doorway (p ∷ []) links opened) (doorway (p ∷ []) links opened)
  takes-none p links opened = record {
    goes = (goes-same p, tt);
    more = [];
    grown = sym (append-nil links);
    fresh = tt;
    in_order = order_of (lead_of p) [] refl;
    in_turn = tt;
    shut = λ none. refl;
    ordered = λ queue o. o;
    as_many = plus_none (length opened);
    fits = inl refl;
    wires = λ h. omega arith;
    led = λ h n. plus_none (sum_by (wires_to n) (p ∷ []));
  }

  -- one more came
  pub takes-one : (p q r : ListenerTold) (links now : List ClientTold) (opened among : List ℕ) (l : ClientTold)
      → TakesIn IsMade most (doorway (p ∷ []) links opened) (doorway (q ∷ []) now among)
      → GoesOn q r → wires_of r ≡ added (wires_of q) 1 → IsNewClient IsMade l → stage_at l ≡ Stages.Reads → l.seen.line.door ≡ Some p.door.place → l.service ≡ p.service
      → length now < most → length among < most_open → most < 2 ^ 32
      → TakesIn IsMade most (doorway (p ∷ []) links opened) (doorway (r ∷ []) (now ++ l ∷ []) (among ++ length now ∷ []))
  takes-one p q r links now opened among l t g w new reads door to room few small = record {
    goes = (goes-further p q r t.goes.0 g, tt);
    more = t.more ++ l ∷ [];
    grown = ap (λ ls. ls ++ l ∷ []) t.grown ∙ append_assoc links t.more (l ∷ []);
    fresh = new-append IsMade (lead_of p ∷ []) t.more (l ∷ []) t.fresh (ap (λ b. b || false) (came-there p l door to), new, tt);
    in_order = order_of (lead_of p) (t.more ++ l ∷ [])
        (list_all-append (λ link. came_by link (lead_of p)) t.more (l ∷ [])
        ∙ and_from (list_all (λ link. came_by link (lead_of p)) t.more) (came_by l (lead_of p) && true) (order_one (lead_of p) t.more t.in_order)
        (and_from (came_by l (lead_of p)) true (came-there p l door to) refl));
    in_turn = turns-append (p ∷ []) (r ∷ []) t.more (l ∷ []) (turns-on (p ∷ []) (q ∷ []) (r ∷ []) t.more t.goes (g, tt) t.in_turn) (inl (came-there p l door to), tt);
    shut = λ none. absurd (true≢false (sym (and_from (nat_lt (length now) most) (nat_lt (length among) most_open)
        (lt-ltb (length now) most room) (lt-ltb (length among) most_open few))
        ∙ no_room-more most (length links) (length now) (length opened) (length among) longer wider none));
    ordered = λ queue o. ordered-push now among queue l reads few (t.ordered queue o);
    as_many =
        let long = length_push among (length now) in
        let one = length_push t.more l in
        let before = t.as_many in
        omega (arith, long, one, before);
    fits = inr (let long = length_push now l in omega (arith, long, room));
    wires = λ h.
        let before = t.wires h in
        let q_is = sum_one wires_of q in
        let r_is = sum_one wires_of r in
        let long = length_push t.more l in
        let one = one_wire h in
        omega arith;
    led = λ h n. led-push n p q r t.more l g.service (to ∙ sym t.goes.0.service) (one_wire h) (t.led h n);
  }
    where
      longer : length links ≤ length now
      longer = let grown = ap length t.grown ∙ length-append links t.more in omega (arith, grown)

      wider : length opened ≤ length among
      wider = let grown = t.as_many in omega (arith, grown)

      no_stop : (n : ℕ) → n < 2 ^ 32 → added n 1 ≡ n + 1
      no_stop n h = omega arith

      -- the door's count does not stop, since there are fewer connections
      one_wire : sum_by wires_of (p ∷ []) ≤ length links → wires_of r ≡ wires_of q + 1
      one_wire h =
          let before = t.wires h in
          let q_is = sum_one wires_of q in
          let grown = ap length t.grown ∙ length-append links t.more in
          w ∙ no_stop (wires_of q) (omega arith)

  pub takes-next : (p q r : ListenerTold) (links now later : List ClientTold) (opened among wider : List ℕ) (l : ClientTold)
      → TakesIn IsMade most (doorway (p ∷ []) links opened) (doorway (q ∷ []) now among) → GoesOn q r → wires_of r ≡ added (wires_of q) 1 → IsNewClient IsMade l
      → stage_at l ≡ Stages.Reads → l.seen.line.door ≡ Some q.door.place → l.service ≡ r.service → has_room most (length now) (length among) ≡ true → most < 2 ^ 32
      → later ≡ now ++ l ∷ [] → wider ≡ among ++ length now ∷ []
      → TakesIn IsMade most (doorway (p ∷ []) links opened) (doorway (r ∷ []) later wider)
  takes-next p q r links now later opened among wider l t g w new reads door to room small more numbered =
      let few = room_fewer most (length now) (length among) room in
      subst (λ ls. TakesIn IsMade most (doorway (p ∷ []) links opened) (doorway (r ∷ []) ls wider)) (sym more)
      (subst (λ ns. TakesIn IsMade most (doorway (p ∷ []) links opened) (doorway (r ∷ []) (now ++ l ∷ []) ns)) (sym numbered)
      (takes-one p q r links now opened among l t g w new reads (door ∙ ap Some t.goes.0.place) (to ∙ g.service ∙ t.goes.0.service) few.0 few.1 small))

  -- nobody comes, or there is no more room
  pub accepts-one : (p q : ListenerTold) (links now : List ClientTold) (opened among : List ℕ)
      → TakesIn IsMade most (doorway (p ∷ []) links opened) (doorway (q ∷ []) now among)
      → (has_room most (length now) (length among) ≡ false) ⊎ IsTried p q → Accepts IsMade most (doorway (p ∷ []) links opened) (doorway (q ∷ []) now among)
  accepts-one p q links now opened among t h = record { takes = t; tried = elim h [ inl none ↦ inl none | inr one ↦ inr (one, tt) ] }

  -- the same door was tried since it was another
  pub accepts-tried : (p q r : ListenerTold) (links now : List ClientTold) (opened among : List ℕ)
      → TakesIn IsMade most (doorway (p ∷ []) links opened) (doorway (q ∷ []) now among)
      → GoesOn q r → wires_of r ≡ wires_of q → IsTried q r → Accepts IsMade most (doorway (p ∷ []) links opened) (doorway (r ∷ []) now among)
  accepts-tried p q r links now opened among t g w tried = accepts-one p r links now opened among (record {
    goes = (goes-further p q r t.goes.0 g, tt);
    more = t.more;
    grown = t.grown;
    fresh = t.fresh;
    in_order = t.in_order;
    in_turn = turns-on (p ∷ []) (q ∷ []) (r ∷ []) t.more t.goes (g, tt) t.in_turn;
    shut = t.shut;
    ordered = t.ordered;
    as_many = t.as_many;
    fits = t.fits;
    wires = λ h. sum_one wires_of r ∙ w ∙ sym (sum_one wires_of q) ∙ t.wires h;
    led = λ h n. led-still n p q r t.more g.service w (t.led h n);
  }) (inr (tried-since p q r t.goes.0 g tried))

  -- ---- at all doors

  pub accepts-none : (links : List ClientTold) (opened : List ℕ) → Accepts IsMade most (doorway [] links opened) (doorway [] links opened)
  accepts-none links opened = record {
    takes = record {
      goes = tt;
      more = [];
      grown = sym (append-nil links);
      fresh = tt;
      in_order = refl;
      in_turn = tt;
      shut = λ none. refl;
      ordered = λ queue o. o;
      as_many = plus_none (length opened);
      fits = inl refl;
      wires = λ h. refl;
      led = λ h n. refl;
    };
    tried = inr tt;
  }

  -- at some doors, and at one more
  pub accepts-more : (ps qs : List ListenerTold) (p q : ListenerTold) (links mid now : List ClientTold) (opened among wider : List ℕ)
      → Accepts IsMade most (doorway ps links opened) (doorway qs mid among) → Accepts IsMade most (doorway (p ∷ []) mid among) (doorway (q ∷ []) now wider)
      → Accepts IsMade most (doorway (ps ++ p ∷ []) links opened) (doorway (qs ++ q ∷ []) now wider)
  accepts-more ps qs p q links mid now opened among wider a b =
      let all : map lead_of (ps ++ p ∷ []) ≡ map lead_of ps ++ lead_of p ∷ [] = map-append lead_of ps (p ∷ []) in
      record {
        takes = record {
          goes = all-push ps qs p q a.takes.goes b.takes.goes.0;
          more = a.takes.more ++ b.takes.more;
          grown = b.takes.grown ∙ ap (λ ls. ls ++ b.takes.more) a.takes.grown ∙ append_assoc links a.takes.more b.takes.more;
          fresh = subst (λ ss. AreNewLinks IsMade ss (a.takes.more ++ b.takes.more)) (sym all)
              (new-append IsMade (map lead_of ps ++ lead_of p ∷ []) a.takes.more b.takes.more
              (new-among IsMade (map lead_of ps) (map lead_of ps ++ lead_of p ∷ []) (λ q. any-left q (map lead_of ps) (lead_of p ∷ []))
              a.takes.more a.takes.fresh)
              (new-among IsMade (lead_of p ∷ []) (map lead_of ps ++ lead_of p ∷ []) (λ q. any-right q (map lead_of ps) (lead_of p ∷ []))
              b.takes.more b.takes.fresh));
          in_order = subst (λ ss. CameInOrder ss (a.takes.more ++ b.takes.more)) (sym all)
              (order_more (map lead_of ps) (lead_of p) a.takes.more b.takes.more a.takes.in_order (order_one (lead_of p) b.takes.more b.takes.in_order));
          in_turn = turns-append (ps ++ p ∷ []) (qs ++ q ∷ []) a.takes.more b.takes.more (turns-push ps qs p q a.takes.more a.takes.in_turn) newest;
          shut = λ none. ap₂ (λ ls ms. ls ++ ms) (a.takes.shut none)
              (b.takes.shut (no_room-more most (length links) (length mid) (length opened) (length among) long_first wide_first none));
          ordered = λ queue o. b.takes.ordered queue (a.takes.ordered queue o);
          as_many =
              let one = a.takes.as_many in
              let two = b.takes.as_many in
              let long = length-append a.takes.more b.takes.more in
              omega (arith, one, two, long);
          fits = fits;
          wires = λ h.
              let before = sum_by-append wires_of ps (p ∷ []) in
              let after = sum_by-append wires_of qs (q ∷ []) in
              let long = length-append a.takes.more b.takes.more in
              let first = a.takes.wires (few_first h) in
              let second = b.takes.wires (few_next h) in
              omega arith;
          led = λ h n. led-both n ps qs p q a.takes.more b.takes.more (a.takes.led (few_first h) n) (b.takes.led (few_next h) n);
        };
        tried = elim b.tried [
          | inl none ↦ inl none
          | inr here ↦ elim a.tried [
            | inl none ↦ inl (no_room-more most (length mid) (length now) (length among) (length wider) longer wide none)
            | inr before ↦ inr (tried-push ps qs p q before here.0)
          ]
        ];
      }
    where
      -- who came at the last door
      newest : AllInTurn (ps ++ p ∷ []) (qs ++ q ∷ []) b.takes.more
      newest = elim a.tried [
        | inl none ↦ subst (AllInTurn (ps ++ p ∷ []) (qs ++ q ∷ [])) (sym (b.takes.shut none)) tt
        | inr before ↦ turns-last ps qs p q b.takes.more before (order_one (lead_of p) b.takes.more b.takes.in_order)
      ]

      long_first : length links ≤ length mid
      long_first = let grown = ap length a.takes.grown ∙ length-append links a.takes.more in omega (arith, grown)

      wide_first : length opened ≤ length among
      wide_first = let grown = a.takes.as_many in omega (arith, grown)

      longer : length mid ≤ length now
      longer = let grown = ap length b.takes.grown ∙ length-append mid b.takes.more in omega (arith, grown)

      wide : length among ≤ length wider
      wide = let grown = b.takes.as_many in omega (arith, grown)

      fits : (length (a.takes.more ++ b.takes.more) ≡ 0) ⊎ (length now ≤ most)
      fits = elim b.takes.fits [
        | inr fit ↦ inr fit
        | inl none ↦ elim a.takes.fits [
          | inl nobody ↦ inl (let long = length-append a.takes.more b.takes.more in omega (arith, none, nobody, long))
          | inr fit ↦ inr (let grown = ap length b.takes.grown ∙ length-append mid b.takes.more in omega (arith, none, fit, grown))
        ]
      ]

      part : (a b n : ℕ) → a + b ≤ n → a ≤ n
      part a b n h = omega arith

      rest : (a b n m k : ℕ) → k ≡ n + m → a + b ≤ n → b ≤ k
      rest a b n m k e h = omega arith

      few_all : sum_by wires_of (ps ++ p ∷ []) ≤ length links → sum_by wires_of ps + sum_by wires_of (p ∷ []) ≤ length links
      few_all h = subst (λ n. n ≤ length links) (sum_by-append wires_of ps (p ∷ [])) h

      few_first : sum_by wires_of (ps ++ p ∷ []) ≤ length links → sum_by wires_of ps ≤ length links
      few_first h = part (sum_by wires_of ps) (sum_by wires_of (p ∷ [])) (length links) (few_all h)

      few_next : sum_by wires_of (ps ++ p ∷ []) ≤ length links → sum_by wires_of (p ∷ []) ≤ length mid
      few_next h =
          rest (sum_by wires_of ps) (sum_by wires_of (p ∷ [])) (length links) (length a.takes.more) (length mid)
          (ap length a.takes.grown ∙ length-append links a.takes.more) (few_all h)

  -- the same by the place of the door
  pub accepts-next : (ps qs : List ListenerTold) (i : ℕ) (q : ListenerTold) (d : ListenerTold) (links mid now : List ClientTold) (opened among wider : List ℕ)
      → i < length ps → length qs ≡ length ps
      → Accepts IsMade most (doorway (take i ps) links opened) (doorway (take i qs) mid among)
      → Accepts IsMade most (doorway (get_or ps i d ∷ []) mid among) (doorway (q ∷ []) now wider)
      → Accepts IsMade most (doorway (take (i + 1) ps) links opened) (doorway (take (i + 1) (set qs i q)) now wider)
  accepts-next ps qs i q d links mid now opened among wider lt same a b =
      let inside : i < length qs = subst (λ n. i < n) (sym same) lt in
      subst (λ xs. Accepts IsMade most (doorway xs links opened) (doorway (take (i + 1) (set qs i q)) now wider)) (sym (take_more ps i d lt))
      (subst (λ ys. Accepts IsMade most (doorway (take i ps ++ get_or ps i d ∷ []) links opened) (doorway ys now wider)) (sym (take_more_set qs i q inside))
      (accepts-more (take i ps) (take i qs) (get_or ps i d) q links mid now opened among wider a b))

  -- a loop over the doors goes on
  pub accepts-step : (ps qs : List ListenerTold) (i : ℕ) (x q : ListenerTold) (links mid now : List ClientTold) (opened among wider : List ℕ)
      → i < length ps → drop i qs ≡ drop i ps
      → Accepts IsMade most (doorway (take i ps) links opened) (doorway (take i qs) mid among)
      → Accepts IsMade most (doorway (get_or qs i x ∷ []) mid among) (doorway (q ∷ []) now wider)
      → Accepts IsMade most (doorway (take (i + 1) ps) links opened) (doorway (take (i + 1) (set qs i q)) now wider)
  accepts-step ps qs i x q links mid now opened among wider inside rest a b =
      let long = ap length rest in
      let same : length qs ≡ length ps = as_long (length qs) (length ps) i (sym (length-drop i qs) ∙ long ∙ length-drop i ps) inside in
      let lt : i < length qs = subst (λ n. i < n) (sym same) inside in
      let ends : get_or qs i x ∷ drop (i + 1) qs ≡ get_or ps i x ∷ drop (i + 1) ps = sym (drop_more qs i x lt) ∙ rest ∙ drop_more ps i x inside in
      let here : get_or qs i x ≡ get_or ps i x = head_same (get_or qs i x) (get_or ps i x) (drop (i + 1) qs) (drop (i + 1) ps) ends in
      accepts-next ps qs i q x links mid now opened among wider inside same a
      (subst (λ p. Accepts IsMade most (doorway (p ∷ []) mid among) (doorway (q ∷ []) now wider)) here b)
    where
      as_long : (a b i : ℕ) → a - i ≡ b - i → i < b → a ≡ b
      as_long a b i e h = omega arith

      head_same : (x y : ListenerTold) (xs ys : List ListenerTold) → x ∷ xs ≡ y ∷ ys → x ≡ y
      head_same x y xs ys e = cc

  pub accepts-end : (ps qs : List ListenerTold) (i : ℕ) (links now : List ClientTold) (opened among : List ℕ) → length ps ≤ i → drop i qs ≡ drop i ps
      → Accepts IsMade most (doorway (take i ps) links opened) (doorway (take i qs) now among) → Accepts IsMade most (doorway ps links opened) (doorway qs now among)
  accepts-end ps qs i links now opened among short rest a =
      let past : length qs ≤ i = none_left (length qs) (length ps) i (sym (length-drop i qs) ∙ ap length rest ∙ length-drop i ps) short in
      subst (λ xs. Accepts IsMade most (doorway xs links opened) (doorway qs now among)) (take_all i ps short)
      (subst (λ ys. Accepts IsMade most (doorway (take i ps) links opened) (doorway ys now among)) (take_all i qs past) a)
    where
      none_left : (a b i : ℕ) → a - i ≡ b - i → b ≤ i → a ≤ i
      none_left a b i e h = omega arith
