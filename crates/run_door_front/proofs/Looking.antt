-- What a look comes to.
use Rattle.std.proofs.Common.{◌≡◌, refl, sym, ap, ap₂, ◌∙◌, subst, arith, ℕ, zero, suc, ◌+◌, ◌*◌, ◌-◌, ◌^◌, ◌<◌, ◌≤◌, min, Bool, true, false, ◌&&◌, ◌||◌, ◌⊎◌, inl, inr, List, [], ◌∷◌, ◌++◌, length, map, nat_le, nat_lt, nat_eq, count_by, slice_set, length-append, append-nil}
use Rattle.std.proofs.lemmas.Bool.{and_parts, ltb-true, ltb-false, true≢false}
use Rattle.std.specs.List.{list_all, sum_by}
use Rattle.conn_future.specs.declared.stage.Stage.TheVariants as Stages
use Rattle.conn_future.specs.Stages.{IsOver, IsUnanswered}
use Rattle.outside_doors.specs.Counts.{added}
use Rattle.outside_traits.specs.Told.{WireTold}
use Rattle.office_core.specs.declared.front.Posting.{Posting}
use Rattle.run_theorem.specs.declared.front.Next.{Next}
use Rattle.run_theorem.specs.declared.front.Next.TheVariants as nexts
use Rattle.run_theorem.specs.Calls.{most_postings}
use Rattle.run_door_front.specs.Keeping.{lead_of, Lead, ListenerTold, ClientTold, stage_at, is_open, asks_at, asks, owes, is_so, asks_there, owes_there, rests_at, rests_in_a_row_at, wires_to, leads_to, closed_off, IsOrdered}
use Rattle.run_door_front.specs.NextSteps.{wires_of, all_owing, has_room, after_rest, AreNewLinks, NewInTurn, ClientsGoOn, LinksGoOn, AreTried, doorway, Accepts, lined, IsQueue, IsPaused, IsPausedAt, queued, PollsAll, Listing, listing, Hands, Going, going, Goes, HasPaused, HavePaused, Posts, AreTriedInARow, HasPausedInARow, HavePausedInARow, IsStill, Stays, Looks}
use Rattle.run_door_front.specs.Moving.{has_moved, any_moved, HaveWaited}
use Rattle.run_door_front.proofs.Entries.{one_if, count_cons}
use Rattle.run_door_front.proofs.Leading.{led-more}
use Rattle.run_door_front.proofs.Doors.{leads-same, all-same, all-further, all_tried-since, rests-on, one_more, all-nobody, rows-on, tried-in_a_row}
use Rattle.run_door_front.proofs.Resting.{is_done, all-rested, tried-rested, sums-rested, done-rested, rests-rested, rows-rested}
use Rattle.run_door_front.proofs.Links.{links-same, links-more, links-on, clients-long}
use Rattle.run_door_front.proofs.InTurn.{turns-since, news-same, news-doors, news-more, news-on}
use Rattle.run_door_front.proofs.Lining.{unasked, open_long, opened_owing, first_asks, none_asks, ordered-taken}
use Rattle.run_door_front.proofs.PollingOne.{lines-none, lines-further, paused_since}

-- ---- connections that went on

-- those that do not ask did not, also where more came
pub unasked_links : (IsMade : WireTold → Type 0) (leads : List Lead) (ls ms : List ClientTold) → LinksGoOn IsMade leads ls ms → (k : ℕ) → asks_there ms k ≡ false → asks_there ls k ≡ false
unasked_links IsMade leads [] ms g k e = refl
unasked_links IsMade leads (l ∷ ls) [] g k e = absurd g
unasked_links IsMade leads (l ∷ ls) (m ∷ ms) g zero e = unasked l m g.0 e
unasked_links IsMade leads (l ∷ ls) (m ∷ ms) g (suc k) e = unasked_links IsMade leads ls ms g.1 k e

-- to each service lead as many
pub leads_on : (n : ℕ) (ls ms : List ClientTold) → ClientsGoOn ls ms → count_by (leads_to n) ms ≡ count_by (leads_to n) ls
leads_on n [] [] g = refl
leads_on n [] (m ∷ ms) g = absurd g
leads_on n (l ∷ ls) [] g = absurd g
leads_on n (l ∷ ls) (m ∷ ms) g =
    count_cons (leads_to n) m ms ∙ ap₂ (λ (s : ℕ) (c : ℕ). one_if (nat_eq n s) + c) g.0.service (leads_on n ls ms g.1) ∙ sym (count_cons (leads_to n) l ls)

-- a connection of which nothing comes, and that does not ask
has_paused : (waits : ℕ) (m : ClientTold) → IsPaused waits m → asks m ≡ false → HasPaused waits m
has_paused waits m (inl (inl asking)) e = absurd (true≢false (sym (asks_so asking) ∙ e))
  where
    asks_so : stage_at m ≡ Stages.Asks → asks m ≡ true
    asks_so is = ap asks_at is
has_paused waits m (inl (inr owing)) e = inl owing
has_paused waits m (inr more) e = inr more

-- the same in a row of each, where nothing moved
paused_in_a_row : (ls ms : List ClientTold) → HaveWaited ls ms → any_moved ls ms ≡ false → ((k : ℕ) → asks_there ms k ≡ false) → HavePausedInARow ls ms
paused_in_a_row [] [] w e none = tt
paused_in_a_row [] (m ∷ ms) w e none = absurd w
paused_in_a_row (l ∷ ls) [] w e none = absurd w
paused_in_a_row (l ∷ ls) (m ∷ ms) w e none =
    let both = neither (has_moved l m) (any_moved ls ms) e in
    (one (w.0 both.0) (none 0), paused_in_a_row ls ms w.1 both.1 (λ k. none (suc k)))
  where
    neither : (a b : Bool) → a || b ≡ false → (a ≡ false) × (b ≡ false)
    neither true b e = absurd (true≢false e)
    neither false b e = (refl, e)

    asks_so : stage_at m ≡ Stages.Asks → asks m ≡ true
    asks_so is = ap asks_at is

    one : IsUnanswered (stage_at m) ⊎ (IsOver (stage_at m) ⊎ ((added l.waits 1 ≤ m.waits) × (added l.in_a_row 1 ≤ m.in_a_row))) → asks m ≡ false
        → HasPausedInARow l m
    one (inl (inl asking)) h = absurd (true≢false (sym (asks_so asking) ∙ h))
    one (inl (inr owing)) h = inl owing
    one (inr more) h = inr more

none_fallen : (a cap : ℕ) → min 0 cap ≤ a
none_fallen a cap = omega arith

-- the same of each
pub have_paused : (IsMade : WireTold → Type 0) (leads : List Lead) (ls ms ns : List ClientTold) → LinksGoOn IsMade leads ls ms → ClientsGoOn ms ns
    → ((k : ℕ) → IsPausedAt ms ns k) → ((k : ℕ) → asks_there ns k ≡ false) → HavePaused ls ns
have_paused IsMade leads [] [] [] g h p none = tt
have_paused IsMade leads [] [] (n ∷ ns) g h p none = absurd h
have_paused IsMade leads [] (m ∷ ms) [] g h p none = absurd h
have_paused IsMade leads [] (m ∷ ms) (n ∷ ns) g h p none = (
  has_paused 0 n (paused_since 0 m.waits n (none_fallen m.waits (2 ^ 64 - 1)) (p 0 m n refl refl)) (none 0),
  have_paused IsMade leads [] ms ns g.2 h.1 (λ k. p (suc k)) (λ k. none (suc k)),
)
have_paused IsMade leads (l ∷ ls) [] ns g h p none = absurd g
have_paused IsMade leads (l ∷ ls) (m ∷ ms) [] g h p none = absurd h
have_paused IsMade leads (l ∷ ls) (m ∷ ms) (n ∷ ns) g h p none = (
  has_paused l.waits n (paused_since l.waits m.waits n g.0.waits (p 0 m n refl refl)) (none 0),
  have_paused IsMade leads ls ms ns g.1 h.1 (λ k. p (suc k)) (λ k. none (suc k)),
)

-- ---- whether anything changed

-- there are more connections, or fewer are open
pub changed-so : (known links among opened a b c d : ℕ) (r : Bool) → a ≡ known → b ≡ links → c ≡ among → d ≡ opened → r ≡ (nat_lt a b || nat_lt d c) → r ≡ true
    → (known < links) ⊎ (opened < among)
changed-so known links among opened a b c d r e f g h is so =
    either (nat_lt known links) (nat_lt opened among) refl refl (sym (is ∙ ap₂ (λ p q. p || q) (ap₂ nat_lt e f) (ap₂ nat_lt h g)) ∙ so)
  where
    either : (p q : Bool) → nat_lt known links ≡ p → nat_lt opened among ≡ q → p || q ≡ true → (known < links) ⊎ (opened < among)
    either true q more fewer both = inl (ltb-true known links more)
    either false true more fewer both = inr (ltb-true opened among fewer)
    either false false more fewer both = absurd (true≢false (sym both))

-- there are not
pub unchanged-so : (known links among opened a b c d : ℕ) (r : Bool) → a ≡ known → b ≡ links → c ≡ among → d ≡ opened → r ≡ (nat_lt a b || nat_lt d c)
    → r ≡ false → (links ≤ known) × (among ≤ opened)
unchanged-so known links among opened a b c d r e f g h is so =
    neither (nat_lt known links) (nat_lt opened among) refl refl (sym (is ∙ ap₂ (λ p q. p || q) (ap₂ nat_lt e f) (ap₂ nat_lt h g)) ∙ so)
  where
    neither : (p q : Bool) → nat_lt known links ≡ p → nat_lt opened among ≡ q → p || q ≡ false → (links ≤ known) × (among ≤ opened)
    neither true q more fewer both = absurd (true≢false both)
    neither false true more fewer both = absurd (true≢false both)
    neither false false more fewer both = (ltb-false known links more, ltb-false opened among fewer)

-- ---- how much is left to do

-- the connections that may still come, each for two, and those that may still end
abbrev pub left : ℕ → Going → ℕ
left most x = 2 * (most - length x.connections) + length x.opened

module _ (IsMade : WireTold → Type 0) (most : ℕ) where
  -- ---- all of it goes on

  pub goes-none : (x : Going) → Goes IsMade most x x
  goes-none x = record {
    doors = all-same x.doors;
    connections = links-same IsMade (map lead_of x.doors) x.connections;
    in_turn = news-same x.doors x.connections;
    traffics = refl;
    line = lines-none x.connections x.queue;
    ordered = λ o. o;
    within = λ h. h;
    wires = λ h. h;
    led = λ h all. all;
  }

  -- connections came
  pub goes-accepts : (x y : Going) (doors : List ListenerTold) (links : List ClientTold) (opened : List ℕ) → Goes IsMade most x y
      → Accepts IsMade most (doorway y.doors y.connections y.opened) (doorway doors links opened) → Goes IsMade most x (going doors links opened y.queue y.traffics)
  goes-accepts x y doors links opened g a = record {
    doors = all-further x.doors y.doors doors g.doors a.takes.goes;
    connections = subst (LinksGoOn IsMade (map lead_of x.doors) x.connections) (sym a.takes.grown)
        (links-more IsMade (map lead_of x.doors) x.connections y.connections a.takes.more g.connections
        (subst (λ ss. AreNewLinks IsMade ss a.takes.more) (leads-same x.doors y.doors g.doors) a.takes.fresh));
    in_turn = subst (NewInTurn x.doors doors x.connections) (sym a.takes.grown)
        (news-more x.doors doors x.connections y.connections a.takes.more
        (news-doors x.doors y.doors doors x.connections y.connections g.doors a.takes.goes g.in_turn)
        (turns-since x.doors y.doors doors a.takes.more g.doors a.takes.goes a.takes.in_turn));
    traffics = g.traffics;
    line = g.line;
    ordered = λ o. a.takes.ordered y.queue (g.ordered o);
    within = λ h. elim a.takes.fits [
      | inl none ↦ (let before = g.within h in let long = ap length a.takes.grown ∙ length-append y.connections a.takes.more in omega (arith, before, long, none))
      | inr fit ↦ fit
    ];
    wires = λ h.
        let before : sum_by wires_of y.doors ≡ length y.connections = g.wires h in
        let after = a.takes.wires (omega arith) in
        let long = ap length a.takes.grown ∙ length-append y.connections a.takes.more in
        omega arith;
    led = λ h all. led-more y.doors doors y.connections links a.takes.more a.takes.grown (a.takes.led (no_more _ _ (g.wires h))) (g.led h all);
  }
    where
      no_more : (a b : ℕ) → a ≡ b → a ≤ b
      no_more a b e = omega arith

  -- connections were polled
  pub goes-polls : (x y : Going) (links : List ClientTold) (opened queue : List ℕ) → Goes IsMade most x y
      → PollsAll (queued y.connections y.opened y.queue) (queued links opened queue) → Goes IsMade most x (going y.doors links opened queue y.traffics)
  goes-polls x y links opened queue g p = record {
    doors = g.doors;
    connections = links-on IsMade (map lead_of x.doors) x.connections y.connections links g.connections p.goes;
    in_turn = news-on IsMade (map lead_of x.doors) x.doors y.doors x.connections y.connections links g.connections p.goes g.in_turn;
    traffics = g.traffics;
    line = lines-further x.connections y.connections x.queue y.queue queue (unasked_links IsMade (map lead_of x.doors) x.connections y.connections g.connections) g.line p.line;
    ordered = λ o. p.ordered;
    within = λ h. subst (λ n. n ≤ most) (sym (clients-long y.connections links p.goes)) (g.within h);
    wires = λ h. g.wires h ∙ sym (clients-long y.connections links p.goes);
    led = λ h all n. g.led h all n ∙ sym (leads_on n y.connections links p.goes);
  }

  -- one of the doors was rested at
  pub goes-rests : (x : Going) (doors : List ListenerTold) (links : List ClientTold) (opened queue traffics : List ℕ)
      → Goes IsMade most x (going doors links opened queue traffics) → Goes IsMade most x (going (after_rest doors) links opened queue traffics)
  goes-rests x doors links opened queue traffics g = record {
    doors = all-further x.doors doors (after_rest doors) g.doors (all-rested doors);
    connections = g.connections;
    in_turn = news-doors x.doors doors (after_rest doors) x.connections links g.doors (all-rested doors) g.in_turn;
    traffics = g.traffics;
    line = g.line;
    ordered = g.ordered;
    within = g.within;
    wires = λ h. sums-rested wires_of (λ p. refl) doors ∙ g.wires h;
    led = λ h all n. sums-rested (wires_to n) (λ p. refl) doors ∙ g.led h all n;
  }

  -- ---- one turn of the loop

  module _ (x y : Going) (doors : List ListenerTold) (links now : List ClientTold) (among opened queue : List ℕ) (g : Goes IsMade most x y)
      (a : Accepts IsMade most (doorway y.doors y.connections y.opened) (doorway doors links among))
      (p : PollsAll (queued links among y.queue) (queued now opened queue)) where
    came : Goes IsMade most x (going doors links among y.queue y.traffics)
    came = goes-accepts x y doors links among g a

    pub turned : Goes IsMade most x (going doors now opened queue y.traffics)
    turned = goes-polls x (going doors links among y.queue y.traffics) now opened queue came p

    -- whether each that is open waits for an answer
    owing_is : list_all (owes_there now) opened ≡ all_owing now
    owing_is = ap (list_all (owes_there now)) p.ordered.in_order ∙ opened_owing (owes_there now) now (λ i l is. ap (is_so owes) is)

    -- a request is posted
    pub looks-post : (number : ℕ) (rest : List ℕ) (posting : Posting) (later : Listing) → length x.traffics < most_postings → queue ≡ number ∷ rest
        → Hands number posting (listing now y.traffics) later
        → Looks IsMade most (nexts.Posting posting) x (going doors later.connections opened rest later.traffics)
    looks-post number rest posting later few first h = record {
      fewer = few;
      mid = going doors now opened queue y.traffics;
      goes = turned;
      number = number;
      first = first;
      hands = h;
      doors = refl;
      opened = refl;
    }

    -- which asks
    pub first-asks : (number : ℕ) (rest : List ℕ) → queue ≡ number ∷ rest → asks_there now number ≡ true
    first-asks number rest e = first_asks now number rest (subst (λ q. IsQueue (lined now q)) e p.ordered.queued)

    -- nothing comes any more
    pub looks-end : queue ≡ [] → closed_off most doors now && list_all (owes_there now) opened ≡ true
        → Looks IsMade most nexts.End x (going doors now opened queue y.traffics)
    looks-end none done =
        let both = and_parts (closed_off most doors now) (all_owing now) (ap (λ b. closed_off most doors now && b) (sym owing_is) ∙ done) in
        inr (record { goes = turned; none = none; over = both.0; owing = both.1 })

    nobody-came : length links ≤ length y.connections → length links ≡ length y.connections
    nobody-came few = let grown = ap length a.takes.grown ∙ length-append y.connections a.takes.more in omega (arith, grown, few)

    none-ended : length among ≤ length opened → length opened ≡ length among
    none-ended many = let fewer = p.fewer in omega (arith, fewer, many)

    -- nothing comes for now
    module _ (none : queue ≡ []) (some : closed_off most doors now && list_all (owes_there now) opened ≡ false)
        (few : length links ≤ length y.connections) (many : length among ≤ length opened) where
      unended : length opened ≡ length among
      unended = none-ended many

      more : closed_off most doors now && all_owing now ≡ false
      more = ap (λ b. closed_off most doors now && b) (sym owing_is) ∙ some

      paused : HavePaused x.connections now
      paused = have_paused IsMade (map lead_of x.doors) x.connections links now came.connections p.goes p.paused (none_asks now queue none p.ordered.queued)

      tried : (has_room most (length now) (count_by is_open now) ≡ false) ⊎ AreTried x.doors (after_rest doors)
      tried = elim a.tried [
        | inl full ↦ inl (
            ap₂ (λ m n. has_room most m n) (clients-long links now p.goes) (sym (open_long 0 now) ∙ sym (ap length p.ordered.in_order) ∙ unended) ∙ full)
        | inr all ↦ inr (tried-rested x.doors doors (all_tried-since x.doors y.doors doors g.doors a.takes.goes all))
      ]

      none_more : length a.takes.more ≡ 0
      none_more = let grown = ap length a.takes.grown ∙ length-append y.connections a.takes.more in omega (arith, grown, few)

      no_more : (a b : ℕ) → a ≡ b → a ≤ b
      no_more a b e = omega arith

      -- as many wires as connections
      wires_then : sum_by wires_of y.doors ≡ length y.connections → sum_by wires_of doors ≡ sum_by wires_of y.doors
      wires_then h = let added = a.takes.wires (no_more _ _ h) in let nobody = none_more in omega (arith, added, nobody)

      wires_now : sum_by wires_of y.doors ≡ length y.connections → sum_by wires_of doors ≡ length now
      wires_now h = wires_then h ∙ h ∙ sym (clients-long links now p.goes ∙ nobody-came few)

      -- there is a door
      some_door : sum_by wires_of y.doors ≡ length y.connections → 0 < length doors
      some_door h = by_doors doors refl
        where
          no_links : (ls : List ClientTold) → 0 ≡ length ls → all_owing ls ≡ true
          no_links [] e = refl
          no_links (l ∷ ls) e = absurd (omega (arith, e))

          or_true : (b : Bool) → b || true ≡ true
          or_true true = refl
          or_true false = refl

          by_doors : (ps : List ListenerTold) → doors ≡ ps → 0 < length doors
          by_doors [] e = absurd (true≢false (sym both ∙ more))
            where
              wires : 0 ≡ length now
              wires = ap (sum_by wires_of) (sym e) ∙ wires_now h

              both : closed_off most doors now && all_owing now ≡ true
              both = ap₂ (λ a b. a && b) (ap (λ ps. nat_le most (length now) || list_all is_done ps) e ∙ or_true (nat_le most (length now))) (no_links now wires)
          by_doors (q ∷ qs) e = subst (λ (ps : List ListenerTold). 0 < length ps) (sym e) (omega arith)

      pub looks-stay : (later : List ListenerTold) → later ≡ after_rest doors → Stays IsMade most x (going later now opened queue y.traffics)
      looks-stay later is = subst (λ ps. Stays IsMade most x (going ps now opened queue y.traffics)) (sym is) (record {
        rests = record {
          goes = goes-rests x doors now opened queue y.traffics turned;
          none = none;
          paused = paused;
          tried = tried;
          some = ap (λ b. (nat_le most (length now) || b) && all_owing now) (done-rested doors) ∙ more;
        };
        rested = record { mid = doors; rested = refl; goes = turned.doors };
        more = λ h. one_more (rests_at x.doors) (rests_at doors) (rests_at (after_rest doors)) (2 ^ 64 - 1) (rests-on x.doors doors turned.doors)
            (rests-rested doors (some_door (g.wires h)));
      })

      -- nobody came
      pub same_links : links ≡ y.connections
      same_links = by_more a.takes.more a.takes.grown none_more
        where
          by_more : (more : List ClientTold) → links ≡ y.connections ++ more → length more ≡ 0 → links ≡ y.connections
          by_more [] e n = e ∙ append-nil y.connections
          by_more (m ∷ more) e n = absurd (omega (arith, n))

      -- nothing moved
      module _ (moved : Bool) (is_moved : moved ≡ any_moved links now) (unmoved : moved ≡ false) (waited : HaveWaited links now)
          (o : IsOrdered x.connections x.opened x.queue) (small : length now < 2 ^ 64 - 1) where
        small_then : (a b n cap : ℕ) → a ≡ b → n ≡ b → n < cap → a < cap
        small_then a b n cap e f h = omega arith

        few_wires : sum_by wires_of y.doors ≡ length y.connections → sum_by wires_of y.doors < 2 ^ 64 - 1
        few_wires h =
            small_then (sum_by wires_of y.doors) (length y.connections) (length now) (2 ^ 64 - 1) h (clients-long links now p.goes ∙ nobody-came few) small

        rested_wires : sum_by wires_of y.doors ≡ length y.connections → sum_by wires_of (after_rest doors) ≡ sum_by wires_of y.doors
        rested_wires h = sums-rested wires_of (λ p. refl) doors ∙ wires_then h

        as_wide : length among ≡ length y.opened
        as_wide = let wide = a.takes.as_many in let nobody = none_more in omega (arith, wide, nobody)

        full_or_tried : sum_by wires_of y.doors ≡ length y.connections → (has_room most (length now) (count_by is_open now) ≡ false) ⊎ AreTriedInARow y.doors (after_rest doors)
        full_or_tried h = elim a.tried [
          | inl full ↦ inl (
              ap₂ (λ m n. has_room most m n) (clients-long links now p.goes) (sym (open_long 0 now) ∙ sym (ap length p.ordered.in_order) ∙ unended) ∙ full)
          | inr all ↦ inr (tried-in_a_row y.doors (after_rest doors)
              (all-nobody y.doors (after_rest doors) (all-further y.doors doors (after_rest doors) a.takes.goes (all-rested doors)) (rested_wires h) (few_wires h))
              (tried-rested y.doors doors all))
        ]

        still_then : IsStill most y (going (after_rest doors) now opened queue y.traffics)
        still_then = record {
          as_many = clients-long links now p.goes ∙ nobody-came few;
          as_open = sym (open_long 0 now) ∙ sym (ap length p.ordered.in_order) ∙ unended ∙ as_wide ∙ ap length (g.ordered o).in_order ∙ open_long 0 y.connections;
          unmoved = ap (λ ls. any_moved ls now) (sym same_links) ∙ sym is_moved ∙ unmoved;
          paused = subst (λ ls. HavePausedInARow ls now) same_links
              (paused_in_a_row links now waited (sym is_moved ∙ unmoved) (none_asks now queue none p.ordered.queued));
          tried = full_or_tried;
          rests = λ h. one_more (rests_in_a_row_at y.doors) (rests_in_a_row_at doors) (rests_in_a_row_at (after_rest doors)) (2 ^ 64 - 1)
              (rows-on y.doors doors a.takes.goes (all-nobody y.doors doors a.takes.goes (wires_then h) (few_wires h))) (rows-rested doors (some_door h));
        }

        pub looks-still : y ≡ x → (later : List ListenerTold) → later ≡ after_rest doors → Looks IsMade most nexts.NotYet x (going later now opened queue y.traffics)
        looks-still same later is = (
          looks-stay later is,
          subst (λ ps. IsStill most x (going ps now opened queue y.traffics)) (sym is)
              (subst (λ (v : Going). IsStill most v (going (after_rest doors) now opened queue y.traffics)) same still_then),
        )

    -- ---- less is left

    -- somebody came, or a connection ended
    pub left-less : (length y.connections < length links) ⊎ (length opened < length among) → left most (going doors now opened queue y.traffics) < left most y
    left-less h =
        let grown = ap length a.takes.grown ∙ length-append y.connections a.takes.more in
        let wider = a.takes.as_many in
        let fewer = p.fewer in
        let long = clients-long links now p.goes in
        elim a.takes.fits [
          | inl none ↦ elim h [ inl here ↦ omega (arith, grown, wider, fewer, long, none, here) | inr ended ↦ omega (arith, grown, wider, fewer, long, none, ended) ]
          | inr fit ↦ elim h [ inl here ↦ omega (arith, grown, wider, fewer, long, fit, here) | inr ended ↦ omega (arith, grown, wider, fewer, long, fit, ended) ]
        ]

  -- ---- the order stays

  -- after a request was posted
  posts-ordered : (posting : Posting) (x now : Going) → Posts IsMade most posting x now → IsOrdered x.connections x.opened x.queue
      → IsOrdered now.connections now.opened now.queue
  posts-ordered posting x now p o =
      let one = p.hands.one in
      subst (λ ls. IsOrdered ls now.opened now.queue) (sym one.set)
      (subst (λ ns. IsOrdered (slice_set p.mid.connections p.number one.later) ns now.queue) (sym p.opened)
      (ordered-taken p.mid.connections p.mid.opened now.queue p.number one.link one.later one.there (ap asks_at one.asking) one.asked.stage
      (subst (IsOrdered p.mid.connections p.mid.opened) p.first (p.goes.ordered o))))

  pub looks-ordered : (which : Next) (x now : Going) → Looks IsMade most which x now → IsOrdered x.connections x.opened x.queue
      → IsOrdered now.connections now.opened now.queue
  looks-ordered (nexts.Posting posting) x now l o = posts-ordered posting x now l o
  looks-ordered nexts.Moved x now l o = l.rests.goes.ordered o
  looks-ordered nexts.NotYet x now l o = l.0.rests.goes.ordered o
  looks-ordered nexts.End x now (inl many) o = subst (λ (y : Going). IsOrdered y.connections y.opened y.queue) (sym many.1) o
  looks-ordered nexts.End x now (inr ended) o = ended.goes.ordered o
