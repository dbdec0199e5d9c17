-- Connections are polled.
use Rattle.std.proofs.Common.{◌≡◌, ◌≢◌, refl, sym, ap, ◌∙◌, subst, arith, ℕ, zero, suc, ◌+◌, ◌-◌, ◌^◌, ◌<◌, ◌≤◌, min, Bool, true, false, not, cond, ◌&&◌, ◌||◌, ◌⊎◌, inl, inr, List, [], ◌∷◌, ◌++◌, length, take, get_or, Some, slice_get, slice_set, nat_eq, append_assoc, append-nil}
use Rattle.std.specs.List.{filter, list_all, list_any}
use Rattle.std.proofs.lemmas.Bool.{and_parts, and_from, true≢false}
use Rattle.std.proofs.lemmas.Option.{none-some, same_Some, slice_get_read, slice_get-get_or}
use Rattle.std.proofs.lemmas.List.{take_more, take_all}
use Rattle.std.proofs.lemmas.List.Folds.{list_any-append, list_all-append}
use Rattle.outside_doors.specs.Counts.{added}
use Rattle.outside_polling.specs.Polls.{once_more}
use Rattle.conn_future.specs.declared.stage.Stage.{Stage}
use Rattle.conn_future.specs.declared.stage.Stage.TheVariants as Stages
use Rattle.conn_future.specs.Stages.{IsOver, IsUnanswered, IsMoving, IsAtRest}
use Rattle.conn_future.specs.Talking.{TalksOn}
use Rattle.run_door_front.specs.Keeping.{ClientTold, told_of_wire, stage_at, is_open, asks, asks_there, is_so, open_from, most_open, IsOrdered, IsWithin}
use Rattle.run_door_front.specs.NextSteps.{IsPaused, IsPolled, newly, Lined, lined, IsPolledAt, ClientsGoOn, LinesUp, IsQueue, IsPausedAt, Polls, queued, PollsAll, HasNotFallen}
use Rattle.run_door_front.specs.Moving.{has_moved, HasWaited}
use Rattle.run_door_front.proofs.Entries.{nat_eq_same, nat_eq_is, get_set_same, get_set_other}
use Rattle.run_door_front.proofs.Doors.{not_fallen-same, not_fallen-added}
use Rattle.run_door_front.proofs.Links.{clients-same, clients-further, clients-set, clients-at, clients-long}
use Rattle.run_door_front.proofs.Lining.{closed_over, unasked, opened_filter, opened_there, opened_within, queue-polled}

-- ---- one connection

-- why a poll ended, by what the wire of the connection had waited
paused_pending : (before : ℕ) (now : ClientTold) → ((now.waits ≡ once_more before) × IsMoving (stage_at now)) ⊎ ((now.waits ≡ before) × IsUnanswered (stage_at now))
    → IsPaused before now
paused_pending before now (inl waited) = inr (inr (at_least now.waits (added before 1) waited.0))
  where
    at_least : (a b : ℕ) → a ≡ b → b ≤ a
    at_least a b e = omega arith
paused_pending before now (inr asked) = inl asked.1

-- waits that did not fall, by why a poll ended
pending_waits : (before now : ℕ) (stage : Stage) → ((now ≡ once_more before) × IsMoving stage) ⊎ ((now ≡ before) × IsUnanswered stage) → HasNotFallen before now
pending_waits before now stage (inl waited) = not_fallen-added before now waited.0
pending_waits before now stage (inr asked) = not_fallen-same before now asked.0

-- with any last value of their type
grown : (a b cap : ℕ) → a ≤ b → min a cap ≤ b
grown a b cap h = omega arith

-- a connection of which a poll said so
pub client_polled : (told before now : ClientTold) → told ≡ before → now.service ≡ told.service → now.pending ≡ told.pending
    → (IsAtRest (stage_at told) → (now.seen.kept ≡ told.seen.kept) × (told_of_wire now ≡ told_of_wire told))
    → (stage_at now ≡ Stages.Owes → stage_at told ≡ Stages.Owes) → TalksOn told.seen now.seen
    → told.longest ≤ now.longest → (IsWithin told → IsWithin now)
    → HasNotFallen told.waits now.waits → (stage_at now ≢ Stages.Spent) → IsPaused told.waits now → IsPolled before now
client_polled told before now same service pending rests unowed talks longest row waits memory paused = subst (λ l. IsPolled l now) same (record {
  goes = record {
    service = service;
    pending = pending;
    rests = λ r. let all = rests r in
        (λ i. record {
          service = service i;
          seen = record { kept = all.0 i; line = (all.1 i).wire };
          waits = (all.1 i).waits;
          in_a_row = (all.1 i).in_a_row;
          longest = (all.1 i).longest;
          pending = pending i;
        });
    unowed = unowed;
    memory = λ e. absurd (memory e);
    waits = waits;
    longest = grown told.longest now.longest (2 ^ 64 - 1) longest;
    row = row;
    talks = talks;
  };
  paused = paused;
})

moving_unspent : (stage : Stage) → IsMoving stage → stage ≢ Stages.Spent
moving_unspent stage (inl e) s = let clash : Stages.Reads ≡ Stages.Spent = sym e ∙ s in cc
moving_unspent stage (inr e) s = let clash : Stages.Writes ≡ Stages.Spent = sym e ∙ s in cc

unanswered_unspent : (stage : Stage) → IsUnanswered stage → stage ≢ Stages.Spent
unanswered_unspent stage (inl e) s = let clash : Stages.Asks ≡ Stages.Spent = sym e ∙ s in cc
unanswered_unspent stage (inr e) s = let clash : Stages.Owes ≡ Stages.Spent = sym e ∙ s in cc

pub over_unspent : (stage : Stage) → IsOver stage → stage ≢ Stages.Spent
over_unspent stage (inl e) s = let clash : Stages.Ended ≡ Stages.Spent = sym e ∙ s in cc
over_unspent stage (inr (inl e)) s = let clash : Stages.Closed ≡ Stages.Spent = sym e ∙ s in cc
over_unspent stage (inr (inr (inl e))) s = let clash : Stages.ReadFailed ≡ Stages.Spent = sym e ∙ s in cc
over_unspent stage (inr (inr (inr e))) s = let clash : Stages.WriteFailed ≡ Stages.Spent = sym e ∙ s in cc

pending_unspent : (before now : ℕ) (stage : Stage) → ((now ≡ once_more before) × IsMoving stage) ⊎ ((now ≡ before) × IsUnanswered stage) → stage ≢ Stages.Spent
pending_unspent before now stage (inl waited) = moving_unspent stage waited.1
pending_unspent before now stage (inr asked) = unanswered_unspent stage asked.1

-- of which a poll was pending
pub polled-pending : (told before now : ClientTold) → told ≡ before → now.service ≡ told.service → now.pending ≡ told.pending
    → (IsAtRest (stage_at told) → (now.seen.kept ≡ told.seen.kept) × (told_of_wire now ≡ told_of_wire told))
    → (stage_at now ≡ Stages.Owes → stage_at told ≡ Stages.Owes) → TalksOn told.seen now.seen
    → told.longest ≤ now.longest → (IsWithin told → IsWithin now)
    → ((now.waits ≡ once_more told.waits) × IsMoving (stage_at now)) ⊎ ((now.waits ≡ told.waits) × IsUnanswered (stage_at now)) → IsPolled before now
polled-pending told before now same service pending rests unowed talks longest row ends =
    client_polled told before now same service pending rests unowed talks longest row (pending_waits told.waits now.waits (stage_at now) ends)
    (pending_unspent told.waits now.waits (stage_at now) ends) (paused_pending told.waits now ends)

-- or over
pub polled-over : (told before now : ClientTold) → told ≡ before → now.service ≡ told.service → now.pending ≡ told.pending
    → (IsAtRest (stage_at told) → (now.seen.kept ≡ told.seen.kept) × (told_of_wire now ≡ told_of_wire told))
    → (stage_at now ≡ Stages.Owes → stage_at told ≡ Stages.Owes) → TalksOn told.seen now.seen
    → told.longest ≤ now.longest → (IsWithin told → IsWithin now)
    → (now.waits ≡ told.waits) × IsOver (stage_at now) → IsPolled before now
polled-over told before now same service pending rests unowed talks longest row ends =
    client_polled told before now same service pending rests unowed talks longest row (not_fallen-same told.waits now.waits ends.0)
    (over_unspent (stage_at now) ends.1) (inr (inl ends.1))

-- waits that did not fall from less
waited_since : (a b c cap : ℕ) → min a cap ≤ b → min (b + 1) cap ≤ c → min (a + 1) cap ≤ c
waited_since a b c cap h k = omega arith

pub paused_since : (before mid : ℕ) (now : ClientTold) → HasNotFallen before mid → IsPaused mid now → IsPaused before now
paused_since before mid now h (inl asked) = inl asked
paused_since before mid now h (inr (inl over)) = inr (inl over)
paused_since before mid now h (inr (inr waited)) = inr (inr (waited_since before mid now.waits (2 ^ 64 - 1) h waited))

-- ---- the end of the queue

abbrev AreFresh : List ClientTold → List ℕ → Type 0
AreFresh connections more = list_all (λ number. not (asks_there connections number)) more ≡ true

pub lines-none : (connections : List ClientTold) (queue : List ℕ) → LinesUp connections queue queue
lines-none connections queue = record { more = []; line = sym (append-nil queue); fresh = refl }

-- numbers of connections that did not ask, as they did not before
fresh_since : (ls ms : List ClientTold) → ((k : ℕ) → asks_there ms k ≡ false → asks_there ls k ≡ false) → (more : List ℕ) → AreFresh ms more → AreFresh ls more
fresh_since ls ms h [] f = refl
fresh_since ls ms h (k ∷ more) f =
    let both = and_parts (not (asks_there ms k)) (list_all (λ number. not (asks_there ms number)) more) f in
    and_from (not (asks_there ls k)) (list_all (λ number. not (asks_there ls number)) more)
    (ap not (h k (not_true (asks_there ms k) both.0))) (fresh_since ls ms h more both.1)
  where
    not_true : (b : Bool) → not b ≡ true → b ≡ false
    not_true true e = absurd (true≢false (sym e))
    not_true false e = refl

pub lines-further : (ls ms : List ClientTold) (p q r : List ℕ) → ((k : ℕ) → asks_there ms k ≡ false → asks_there ls k ≡ false) → LinesUp ls p q → LinesUp ms q r
    → LinesUp ls p r
lines-further ls ms p q r h a b = record {
  more = a.more ++ b.more;
  line = b.line ∙ ap (λ xs. xs ++ b.more) a.line ∙ append_assoc p a.more b.more;
  fresh = list_all-append (λ number. not (asks_there ls number)) a.more b.more
      ∙ and_from (list_all (λ number. not (asks_there ls number)) a.more) (list_all (λ number. not (asks_there ls number)) b.more) a.fresh
      (fresh_since ls ms h b.more b.fresh);
}

-- those that do not ask did not
unasked_there : (ls ms : List ClientTold) → ClientsGoOn ls ms → (k : ℕ) → asks_there ms k ≡ false → asks_there ls k ≡ false
unasked_there [] [] g k e = e
unasked_there [] (m ∷ ms) g k e = absurd g
unasked_there (l ∷ ls) [] g k e = absurd g
unasked_there (l ∷ ls) (m ∷ ms) g zero e = unasked l m g.0 e
unasked_there (l ∷ ls) (m ∷ ms) g (suc k) e = unasked_there ls ms g.1 k e

-- one that came to ask did not ask
newly_fresh : (ls : List ClientTold) (n : ℕ) (l m : ClientTold) → slice_get ls n ≡ Some l → AreFresh ls (newly n l m)
newly_fresh ls n l m is = at (asks l) refl (asks m)
  where
    one : asks l ≡ false → not (asks_there ls n) && true ≡ true
    one e = ap (λ b. not b && true) (ap (is_so asks) is ∙ e)

    at : (a : Bool) → asks l ≡ a → (b : Bool) → AreFresh ls (cond (not a && b) (n ∷ []) [])
    at true e b = refl
    at false e true = one e
    at false e false = refl

-- ---- connections, one by one

pub polls-none : (x : Lined) → Polls [] x x
polls-none x = record {
  goes = clients-same x.connections;
  queued = λ q. q;
  paused = λ k e. absurd (true≢false (sym e));
  line = lines-none x.connections x.queue;
}

-- one more of them
pub polls-more : (ns : List ℕ) (n : ℕ) (x y z : Lined) → Polls ns x y → IsPolledAt n y z → Polls (ns ++ n ∷ []) x z
polls-more ns n x y z p at = record {
  goes = goes;
  queued = λ q. subst IsQueue (sym whole) (queue-polled y.connections y.queue n at.link at.later at.there at.polled.goes (p.queued q));
  paused = paused;
  line = lines-further x.connections y.connections x.queue y.queue z.queue (unasked_there x.connections y.connections p.goes) p.line (record {
    more = newly n at.link at.later;
    line = at.line;
    fresh = newly_fresh y.connections n at.link at.later at.there;
  });
}
  where
    whole : z ≡ lined (slice_set y.connections n at.later) (y.queue ++ newly n at.link at.later)
    whole = λ i. record { connections = at.set i; queue = at.line i }

    goes : ClientsGoOn x.connections z.connections
    goes = clients-further x.connections y.connections z.connections p.goes
        (subst (ClientsGoOn y.connections) (sym at.set) (clients-set y.connections n at.link at.later at.there at.polled.goes))

    -- the one that was polled
    here : (k : ℕ) → nat_eq n k ≡ true → IsPausedAt x.connections z.connections k
    here k e link later was now =
        let same : n ≡ k = nat_eq_is n k e in
        let set : at.later ≡ later = same_Some at.later later
        (sym (get_set_same y.connections n at.link at.later at.there) ∙ ap (λ ls. slice_get ls n) (sym at.set) ∙ ap (slice_get z.connections) same ∙ now) in
        let found = clients-at x.connections y.connections k link p.goes was in
        let mid : found.0 ≡ at.link = same_Some found.0 at.link (sym found.1 ∙ ap (slice_get y.connections) (sym same) ∙ at.there) in
        subst (IsPaused link.waits) set
        (paused_since link.waits at.link.waits at.later (subst (λ (l : ClientTold). HasNotFallen link.waits l.waits) mid found.2.waits) at.polled.paused)

    -- the others
    there : (k : ℕ) → nat_eq n k ≡ false → IsPausedAt x.connections y.connections k → IsPausedAt x.connections z.connections k
    there k e h link later was now =
        h link later was (sym (get_set_other y.connections n k at.later e) ∙ ap (λ ls. slice_get ls k) (sym at.set) ∙ now)

    among : (k : ℕ) → list_any (nat_eq k) (ns ++ n ∷ []) ≡ true → nat_eq n k ≡ false → list_any (nat_eq k) ns ≡ true
    among k e other = only (list_any (nat_eq k) ns) (nat_eq k n) (sym (list_any-append (nat_eq k) ns (n ∷ [])) ∙ e) (unlike (nat_eq k n) refl)
      where
        only : (a b : Bool) → a || (b || false) ≡ true → b ≡ false → a ≡ true
        only true b h i = refl
        only false true h i = absurd (true≢false i)
        only false false h i = absurd (true≢false (sym h))

        unlike : (b : Bool) → nat_eq k n ≡ b → nat_eq k n ≡ false
        unlike true h = absurd (true≢false (sym (ap (λ j. nat_eq j k) (sym (nat_eq_is k n h)) ∙ nat_eq_same k) ∙ other))
        unlike false h = h

    paused : (k : ℕ) → list_any (nat_eq k) (ns ++ n ∷ []) ≡ true → IsPausedAt x.connections z.connections k
    paused k e = by_number (nat_eq n k) refl
      where
        by_number : (b : Bool) → nat_eq n k ≡ b → IsPausedAt x.connections z.connections k
        by_number true is = here k is
        by_number false is = there k is (p.paused k (among k e is))

-- a loop over numbers goes on
pub polls-step : (numbers : List ℕ) (i d : ℕ) (x y z : Lined) → i < length numbers → Polls (take i numbers) x y → IsPolledAt (get_or numbers i d) y z
    → Polls (take (i + 1) numbers) x z
polls-step numbers i d x y z inside p at =
    subst (λ ns. Polls ns x z) (sym (take_more numbers i d inside))
    (polls-more (take i numbers) (get_or numbers i d) x y z p at)

pub polls-end : (numbers : List ℕ) (i : ℕ) (x y : Lined) → length numbers ≤ i → Polls (take i numbers) x y → Polls numbers x y
polls-end numbers i x y short p = subst (λ ns. Polls ns x y) (take_all i numbers short) p

-- a number that stands in a list is among its numbers
any_there : (ns : List ℕ) (i n : ℕ) → slice_get ns i ≡ Some n → list_any (nat_eq n) ns ≡ true
any_there [] i n e = absurd (none-some n e)
any_there (k ∷ ns) zero n e = ap (λ b. b || list_any (nat_eq n) ns) (ap (nat_eq n) (same_Some k n e) ∙ nat_eq_same n)
any_there (k ∷ ns) (suc i) n e = or_right (nat_eq n k) (list_any (nat_eq n) ns) (any_there ns i n e)
  where
    or_right : (a b : Bool) → b ≡ true → a || b ≡ true
    or_right true b h = refl
    or_right false b h = h

-- a number among those that are open is of a connection
pub number_within : (ls ms : List ClientTold) (opened queue : List ℕ) (i d : ℕ) → IsOrdered ls opened queue → ClientsGoOn ls ms → i < length opened
    → get_or opened i d < length ms
number_within ls ms opened queue i d o g inside =
    let n = get_or opened i d in
    let there : slice_get opened i ≡ Some n = slice_get-get_or opened i d inside in
    let among : list_any (nat_eq n) (open_from 0 ls) ≡ true = subst (λ ns. list_any (nat_eq n) ns ≡ true) o.in_order (any_there opened i n there) in
    subst (λ k. n < k) (sym (clients-long ls ms g)) (opened_within ls n among)

-- ---- all that are open

filter_fewer : (test : ℕ → Bool) (ns : List ℕ) → length (filter test ns) ≤ length ns
filter_fewer test [] = omega arith
filter_fewer test (n ∷ ns) = at (filter_fewer test ns) (test n)
  where
    at : length (filter test ns) ≤ length ns → (b : Bool) → length (cond b (n ∷ filter test ns) (filter test ns)) ≤ suc (length ns)
    at rest true = omega arith
    at rest false = omega arith

pub polls-all : (test : ℕ → Bool) (ls ms : List ClientTold) (opened later queue line : List ℕ)
    → ((k : ℕ) → test k ≡ is_so is_open (slice_get ms k)) → later ≡ filter test opened
    → IsOrdered ls opened queue → Polls opened (lined ls queue) (lined ms line) → PollsAll (queued ls opened queue) (queued ms later line)
polls-all test ls ms opened later queue line is kept o p = record {
  goes = p.goes;
  ordered = record {
    in_order = kept ∙ ap (filter test) o.in_order ∙ opened_filter test ls ms p.goes (λ i m there. is i ∙ ap (is_so is_open) there);
    few = at_most (length later) (length opened) most_open fewer o.few;
    queued = p.queued o.queued;
  };
  paused = paused;
  line = p.line;
  fewer = fewer;
}
  where
    at_most : (a b c : ℕ) → a ≤ b → b ≤ c → a ≤ c
    at_most a b c h i = omega arith

    fewer : length later ≤ length opened
    fewer = subst (λ xs. length xs ≤ length opened) (sym kept) (filter_fewer test opened)

    paused : (k : ℕ) → IsPausedAt ls ms k
    paused k link now was is = by_open (is_open link) refl
      where
        by_open : (b : Bool) → is_open link ≡ b → IsPaused link.waits now
        by_open true e = p.paused k (subst (λ ns. list_any (nat_eq k) ns ≡ true) (sym o.in_order) (opened_there ls k link was e)) link now was is
        by_open false e =
            let found = clients-at ls ms k link p.goes was in
            let over : IsOver (stage_at link) = closed_over (stage_at link) e in
            let same : now ≡ link = same_Some now found.0 (sym is ∙ found.1) ∙ found.2.rests (inr over) in
            inr (inl (subst (λ (x : ClientTold). IsOver (stage_at x)) (sym same) over))

-- ---- the connection of a number

pub polled-at : (links : List ClientTold) (queue line : List ℕ) (n : ℕ) (l later : ClientTold) (moved : Bool) → n < length links → l ≡ get_or links n l
    → IsPolled l later → line ≡ queue ++ newly n l later → moved ≡ has_moved l later → HasWaited l later
    → (at : IsPolledAt n (lined links queue) (lined (slice_set links n later) line)) × (moved ≡ has_moved at.link at.later) × HasWaited at.link at.later
polled-at links queue line n l later moved inside value p more is waited = (
  record {
    link = l;
    later = later;
    there = slice_get_read links (length links) n l refl inside value;
    set = refl;
    polled = p;
    line = more;
  },
  is,
  waited,
)

-- it came to ask or not
pub newly-yes : (n : ℕ) (l m : ClientTold) (b : Bool) → b ≡ (not (asks l) && asks m) → b ≡ true → newly n l m ≡ n ∷ []
newly-yes n l m b is given = ap (λ c. cond c (n ∷ []) []) (sym is ∙ given)

pub newly-no : (n : ℕ) (l m : ClientTold) (b : Bool) → b ≡ (not (asks l) && asks m) → b ≡ false → newly n l m ≡ []
newly-no n l m b is none = ap (λ c. cond c (n ∷ []) []) (sym is ∙ none)
