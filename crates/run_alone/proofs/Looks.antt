-- Look by look at the front: how it stands, and when no posting is asked for any more.
use Rattle.std.specs.Prelude.{not, ◌&&◌, nat_lt}
use Rattle.std.proofs.Common.{◌≡◌, ◌≤◌, ◌<◌, ◌+◌, ◌-◌, ◌*◌, ◌⊎◌, ℕ, suc, Bool, true, false, List, [], length, None, Some, inl, inr, ⊎_elim, refl, sym, ap, subst, ◌∙◌, arith, le_refl, le_trans, ltb-true, ltb-false}
use Rattle.std.proofs.lemmas.Bool.{and_parts, false≢true}
use Rattle.behaviour_tree.specs.Data.{ProgramParts}
use Rattle.office_core.specs.declared.front.Posting.{Posting}
use Rattle.run_theorem.specs.declared.front.Next.{Next}
use Rattle.run_theorem.specs.declared.front.Next.TheVariants as next
use Rattle.outside_traits.specs.Causes.{Rose}
use Rattle.run_theorem.specs.Calls.{After, Asks, IsQuiet, NoLongerTold, most_postings}
use Rattle.run_theorem.specs.Calls.{IsOver as Over, failed, most, none_left}
use Rattle.run_theorem.specs.Exchange.{Received, Exchange, IsNew, Sent}
use Rattle.run_cells.specs.RunStates.{State}
use Rattle.run_posts.specs.CallStates.{Wait}
use Rattle.run_posts.specs.Telling.{TellsOn}
use Rattle.run_alone.specs.Between.{Answered, Between, Brings, Closed, Passed}
use Rattle.run_alone.specs.Overs.{IsOver, LeavesNone, GaveNone, asks, most_waits, most_moves}
use Rattle.run_alone.proofs.Asking.{brings_next, ends_next, moves_next, taken_looks, waits_next}
use Rattle.run_alone.proofs.Taking.{still_halted}

-- What passed with a front since it was new until a look at it, before which so many in a row found nothing and at so
-- many in all something moved.
pub record IsAt (new : Exchange) (s : State) (xs : List Wait) (n : ℕ) (unfailed : Bool) (looks moves : ℕ) (d : Exchange) : Type 0 where
  pub passed : Passed s xs n d
  pub since : new.received.faults ≤ d.received.faults
  pub waits : d.received.waits ≡ looks
  pub few : looks ≤ most_waits
  pub moved : d.received.moves ≡ moves
  pub few_moves : moves ≤ most_moves
  pub going : d.received.ended ≡ false
  pub notes_failed : unfailed ≡ false → d.sent.notes_failed ≡ true
  pub seen : 0 < looks → d.received.seen ≡ length d.sent.told

-- what a front has when it is asked for a posting
abbrev pub Came : {F : Type 0} → (ProgramParts → F → F → Exchange → Type 0) → ProgramParts → F → F → Next → Type 0
Came {F} exchanged parts old now which =
    (first : F) (before : Exchange) → exchanged parts first old before → before.received.ended ≡ false
    → before.sent.halted ≡ false → IsQuiet before → After (exchanged parts first now) (Asks parts which before)

-- the same of what is told
pub tells_under : {F : Type 0} (exchanged : ProgramParts → F → F → Exchange → Type 0) {p q : ProgramParts} (old now : F) (xs : List Wait)
    (P : Exchange → Exchange → Type 0) → p ≡ q → TellsOn (exchanged p) old now xs P → TellsOn (exchanged q) old now xs P
tells_under exchanged old now xs P e t = coe 0 1 (i. TellsOn (exchanged (e i)) old now xs P) t

-- what passed with a front since some call, where something passed before
abbrev pub Looked : {F : Type 0} → (ProgramParts → F → F → Exchange → Type 0) → ProgramParts → F → F
    → (Exchange → Type 0) → (Exchange → Exchange → Type 0) → Type 0
Looked {F} exchanged parts old now Was Is =
    (first : F) (before : Exchange) → exchanged parts first old before → IsNew before → Was before
    → After (exchanged parts first now) (Is before)

-- before the first look
pub at_first : {s : State} {xs : List Wait} {n : ℕ} (d : Exchange) → Passed s xs n d → IsNew d → IsAt d s xs n true 0 0 d
at_first d passed new = record {
  passed = passed;
  since = le_refl d.received.faults;
  waits = new.waits;
  few = omega arith;
  moved = new.unmoved;
  few_moves = omega arith;
  going = new.open_yet;
  notes_failed = λ e. absurd (false≢true (sym e));
  seen = λ some. absurd (omega (arith, some));
}

-- a look after which nothing was told
pub quiet_at : {new : Exchange} {s : State} {xs : List Wait} {n : ℕ} {unfailed : Bool} {looks moves : ℕ} {d : Exchange}
    → IsAt new s xs n unfailed looks moves d → IsQuiet d
quiet_at x some = x.seen (subst (λ m. 0 < m) x.waits some)

-- ---- what is left

rose_since : (a b c : ℕ) → a ≤ b → Rose b c → Rose a c
rose_since a b c less rose = omega (arith, less, rose)

-- what is told to be left no more is none
no_longer : (before now : Received) → NoLongerTold before now → (ps : List Posting) → now.left ≡ Some ps → ⊥
no_longer before now gone ps is = none_some ps (sym gone.0 ∙ is)
  where
    none_some : (qs : List Posting) → None ≡ Some qs → ⊥
    none_some qs e = cc

-- of a front that has none any more
ends_left : {parts : ProgramParts} (new before now : Exchange) → new.received.faults ≤ before.received.faults
    → Asks parts next.End before now → LeavesNone new now
ends_left new before now since asked ps is =
    ⊎_elim
    (λ (same : now.received.left ≡ before.received.left). by (sym same ∙ is) (asked.came).over)
    (λ (gone : NoLongerTold before.received now.received). absurd (no_longer before.received now.received gone ps is))
    (asked.came).none.left
  where
    by : before.received.left ≡ Some ps → Over before.received now.received
        → (ps ≡ []) ⊎ (now.sent.halted ≡ true) ⊎ (now.received.waits ≡ most_waits)
        ⊎ (now.received.moves ≡ most_moves) ⊎ (most_postings ≤ length now.received.given) ⊎ Rose new.received.faults now.received.faults
    by was (none_left all) = inl (all ps was)
    by was (failed rose) =
        inr (inr (inr (inr (inr (rose_since new.received.faults before.received.faults now.received.faults since rose)))))
    by was (most many) =
        inr (inr (inr (inr (inl (subst (λ (given : List Posting). most_postings ≤ length given) (sym (asked.came).none.given) many)))))

-- of one that was asked no more
over_left : (new d : Exchange) → d.received.ended ≡ false → IsOver d → LeavesNone new d
over_left new d going (inl ended) ps is = absurd (false≢true (sym going ∙ ended))
over_left new d going (inr (inl halted)) ps is = inr (inl halted)
over_left new d going (inr (inr (inl waits))) ps is = inr (inr (inl waits))
over_left new d going (inr (inr (inr (inl moves)))) ps is = inr (inr (inr (inl moves)))
over_left new d going (inr (inr (inr (inr many)))) ps is = inr (inr (inr (inr (inl many))))

-- once more was sent to it
pub left_then : (new before now : Exchange) → now.received ≡ before.received
    → (now.sent.halted ≡ false → before.sent.halted ≡ false) → LeavesNone new before → LeavesNone new now
left_then new before now same unfailed left ps is =
    by (left ps (ap (λ (b : Received). b.left) (sym same) ∙ is))
  where
    by : (ps ≡ []) ⊎ (before.sent.halted ≡ true) ⊎ (before.received.waits ≡ most_waits)
        ⊎ (before.received.moves ≡ most_moves) ⊎ (most_postings ≤ length before.received.given) ⊎ Rose new.received.faults before.received.faults
        → (ps ≡ []) ⊎ (now.sent.halted ≡ true) ⊎ (now.received.waits ≡ most_waits)
        ⊎ (now.received.moves ≡ most_moves) ⊎ (most_postings ≤ length now.received.given) ⊎ Rose new.received.faults now.received.faults
    by (inl none) = inl none
    by (inr (inl halted)) = inr (inl (still_halted before.sent.halted now.sent.halted unfailed halted))
    by (inr (inr (inl waits))) = inr (inr (inl (ap (λ (b : Received). b.waits) same ∙ waits)))
    by (inr (inr (inr (inl moves)))) = inr (inr (inr (inl (ap (λ (b : Received). b.moves) same ∙ moves))))
    by (inr (inr (inr (inr (inl many))))) =
        inr (inr (inr (inr (inl (subst (λ (b : Received). most_postings ≤ length b.given) (sym same) many)))))
    by (inr (inr (inr (inr (inr rose))))) =
        inr (inr (inr (inr (inr (subst (λ (b : Received). Rose new.received.faults b.faults) (sym same) rose)))))

module _ {new : Exchange} {s : State} {xs : List Wait} {n : ℕ} {unfailed : Bool} {looks moves : ℕ} {before : Exchange}
    (x : IsAt new s xs n unfailed looks moves before) {parts : ProgramParts} (exchanged : Exchange → Type 0) where
  -- a posting was given, and taken in
  pub at_posting : {t : State} {ys : List Wait} {m : ℕ} {after : Bool} (p : Posting) (exchanged_now : Exchange → Type 0)
      → before.sent.halted ≡ false → After exchanged (Asks parts (next.Posting p) before)
      → ((mid : Exchange) → exchanged mid → Brings s xs n p mid → After exchanged_now (Answered t ys m after mid))
      → After exchanged_now (IsAt new t ys m after 0 moves)
  at_posting p exchanged_now running asked take =
      let taken = take asked.0 asked.1 (brings_next x.passed running asked.2) in
      let looked = taken_looks (taken.2).sent (asked.2).came.waits (asked.2).came.ended in (
        taken.0,
        taken.1,
        record {
          passed = (taken.2).passed;
          since = subst (λ (b : Received). new.received.faults ≤ b.faults) (sym (taken.2).sent.received)
              (le_trans x.since (asked.2).came.faults);
          waits = looked.0;
          few = omega arith;
          moved = ap (λ (b : Received). b.moves) (taken.2).sent.received ∙ (asked.2).came.moves ∙ x.moved;
          few_moves = x.few_moves;
          going = looked.1;
          notes_failed = (taken.2).notes_failed;
          seen = λ some. absurd (omega (arith, some));
        },
      )

  -- none yet, while something moved
  pub at_move : moves < most_moves → After exchanged (Asks parts next.Moved before) → After exchanged (IsAt new s xs n unfailed 0 (moves + 1))
  at_move few asked =
      let one : suc moves ≡ moves + 1 = omega arith in
      let w = moves_next x.passed asked.2 in (
        asked.0,
        asked.1,
        record {
          passed = w.0;
          since = le_trans x.since (asked.2).came.none.faults;
          waits = w.1;
          few = omega arith;
          moved = (asked.2).came.moves ∙ ap (λ m. suc m) x.moved ∙ one;
          few_moves = omega (arith, few);
          going = w.2;
          notes_failed = λ e. ap (λ (d : Sent). d.notes_failed) (asked.2).silent ∙ x.notes_failed e;
          seen = λ some. absurd (omega (arith, some));
        },
      )

  -- none yet
  pub at_wait : looks < most_waits → After exchanged (Asks parts next.NotYet before) → After exchanged (IsAt new s xs n unfailed (looks + 1) moves)
  at_wait few asked =
      let one : suc looks ≡ looks + 1 = omega arith in
      let w = waits_next x.passed asked.2 in (
        asked.0,
        asked.1,
        record {
          passed = w.0;
          since = le_trans x.since (asked.2).came.none.faults;
          waits = w.1 ∙ ap (λ m. suc m) x.waits ∙ one;
          few = omega (arith, few);
          moved = (asked.2).came.moves ∙ x.moved;
          few_moves = x.few_moves;
          going = w.2;
          notes_failed = λ e. ap (λ (d : Sent). d.notes_failed) (asked.2).silent ∙ x.notes_failed e;
          seen = λ some. (asked.2).seen ∙ ap (λ (d : Sent). length d.told) (sym (asked.2).silent);
        },
      )

  -- none any more
  pub at_end : After exchanged (Asks parts next.End before) → After exchanged (λ now. Closed s xs n unfailed now × LeavesNone new now)
  at_end asked =
      let w = ends_next x.passed asked.2 in (
        asked.0,
        asked.1,
        (
          record {
            passed = w.0;
            over = w.1;
            notes_failed = λ e. ap (λ (d : Sent). d.notes_failed) (asked.2).silent ∙ x.notes_failed e;
            seen = λ none. (asked.2).seen ∙ ap (λ (d : Sent). length d.told) (sym (asked.2).silent);
          },
          ends_left new before asked.0 x.since asked.2,
        ),
      )

-- no look is left, and there were none too many
all_looks : (cap looks : ℕ) → cap ≤ looks → looks ≤ cap → looks ≡ cap
all_looks cap looks least few = omega (arith, least, few)

-- why none is asked for
abbrev pub Stops : ℕ → Bool → ℕ → ℕ → Exchange → Type 0
Stops n unfailed looks moves d =
    (unfailed ≡ false) ⊎ (d.sent.halted ≡ true) ⊎ (most_waits ≤ looks) ⊎ (most_moves ≤ moves) ⊎ (most_postings ≤ n)

pub at_stop : {new : Exchange} {s : State} {xs : List Wait} {n : ℕ} {unfailed : Bool} {looks moves : ℕ} (d : Exchange)
    → IsAt new s xs n unfailed looks moves d → Stops n unfailed looks moves d → Closed s xs n unfailed d × LeavesNone new d
at_stop {new = new} {n = n} {unfailed = unfailed} {looks = looks} {moves = moves} d x stops = (
  record {
    passed = x.passed;
    over = over stops;
    notes_failed = x.notes_failed;
    seen = seen;
  },
  over_left new d x.going (over stops),
)
  where
    seen : GaveNone d → d.received.seen ≡ length d.sent.told
    seen (inl e) = absurd (false≢true (sym x.going ∙ e))
    seen (inr some) = quiet_at x some

    over : Stops n unfailed looks moves d → IsOver d
    over (inl e) = inr (inl (still_halted d.sent.notes_failed d.sent.halted x.passed.mutes (x.notes_failed e)))
    over (inr (inl e)) = inr (inl e)
    over (inr (inr (inl e))) = inr (inr (inl (x.waits ∙ all_looks most_waits looks e x.few)))
    over (inr (inr (inr (inl e)))) = inr (inr (inr (inl (x.moved ∙ all_looks most_moves moves e x.few_moves))))
    over (inr (inr (inr (inr e)))) = inr (inr (inr (inr (subst (λ (m : ℕ). most_postings ≤ m) (sym x.passed.count) e))))

-- why none was asked for
pub stops_by : {n : ℕ} {unfailed : Bool} {looks moves : ℕ} (d : Exchange) (halted going : Bool) → halted ≡ d.sent.halted
    → going ≡ asks unfailed halted looks moves n → going ≡ false → Stops n unfailed looks moves d
stops_by {n} {unfailed} {looks} {moves} d halted going sent is none = by unfailed halted refl sent (sym is ∙ none)
  where
    last : (b c : Bool) → nat_lt looks most_waits ≡ b → nat_lt moves most_moves ≡ c → (b && c && nat_lt n most_postings) ≡ false
        → Stops n unfailed looks moves d
    last false c e f h = inr (inr (inl (ltb-false looks most_waits e)))
    last true false e f h = inr (inr (inr (inl (ltb-false moves most_moves f))))
    last true true e f h = inr (inr (inr (inr (ltb-false n most_postings h))))

    by : (c s : Bool) → unfailed ≡ c → s ≡ d.sent.halted → asks c s looks moves n ≡ false → Stops n unfailed looks moves d
    by false s e f h = inl e
    by true true e f h = inr (inl (sym f))
    by true false e f h = last (nat_lt looks most_waits) (nat_lt moves most_moves) refl refl h

-- one was asked for
pub asks_by : (n looks moves : ℕ) (unfailed halted going : Bool) → going ≡ asks unfailed halted looks moves n → going ≡ true
    → (unfailed ≡ true) × (looks < most_waits) × (moves < most_moves) × (n < most_postings)
asks_by n looks moves unfailed halted going is so =
    let a = and_parts (((unfailed && not halted) && nat_lt looks most_waits) && nat_lt moves most_moves) (nat_lt n most_postings) (sym is ∙ so) in
    let m = and_parts ((unfailed && not halted) && nat_lt looks most_waits) (nat_lt moves most_moves) a.0 in
    let b = and_parts (unfailed && not halted) (nat_lt looks most_waits) m.0 in
    let e = and_parts unfailed (not halted) b.0 in
    (e.0, ltb-true looks most_waits b.1, ltb-true moves most_moves m.1, ltb-true n most_postings a.1)

-- so the front had not halted
pub runs_so : (n looks moves : ℕ) (unfailed halted sent : Bool) → halted ≡ sent → asks unfailed halted looks moves n ≡ true → sent ≡ false
runs_so n looks moves false halted sent is so = absurd (false≢true so)
runs_so n looks moves true true sent is so = absurd (false≢true so)
runs_so n looks moves true false sent is so = sym is

-- how many looks there may still be
abbrev pub looks_left : ℕ → ℕ → ℕ → ℕ
looks_left n looks moves = ((most_postings - n) + (most_moves - moves)) * 1000001 + (most_waits - looks)

pub fewer_posting : (n m looks moves : ℕ) → m ≡ suc n → n < most_postings → looks_left m 0 moves < looks_left n looks moves
fewer_posting n m looks moves e within = omega (arith, e, within)

pub fewer_move : (n looks moves : ℕ) → moves < most_moves → looks_left n 0 (moves + 1) < looks_left n looks moves
fewer_move n looks moves within = omega (arith, within)

pub fewer_wait : (n looks moves : ℕ) → looks < most_waits → looks_left n (looks + 1) moves < looks_left n looks moves
fewer_wait n looks moves within = omega (arith, within)

-- what came, of the same program and the same answer
pub came_as : {F : Type 0} (exchanged : ProgramParts → F → F → Exchange → Type 0) {p q : ProgramParts} (old now : F) {v w : Next}
    → p ≡ q → v ≡ w → Came exchanged p old now v → Came exchanged q old now w
came_as exchanged old now e f t = coe 0 1 (i. Came exchanged (e i) old now (f i)) t

-- a run that is unfailed
pub unfailed_between : {s : State} {xs : List Wait} {n : ℕ} {unfailed : Bool} → unfailed ≡ true → Between s xs n unfailed → Between s xs n true
unfailed_between {s} {xs} {n} e b = subst (λ (x : Bool). Between s xs n x) e b

-- none is asked for, or none came
pub closes_at : {new : Exchange} {s : State} {xs : List Wait} {n : ℕ} {unfailed : Bool} {looks moves : ℕ} {exchanged : Exchange → Type 0} (halted going : Bool)
    → ((d : Exchange) → exchanged d → halted ≡ d.sent.halted) → going ≡ asks unfailed halted looks moves n → going ≡ false
    → After exchanged (IsAt new s xs n unfailed looks moves) → After exchanged (λ now. Closed s xs n unfailed now × LeavesNone new now)
closes_at halted going sent is none at =
    (at.0, at.1, at_stop at.0 at.2 (stops_by at.0 halted going (sent at.0 at.1) is none))

-- ---- as the call hands its number

pub asks_so : (n looks moves : ℕ) (unfailed halted going : Bool) (m : ℕ) → m ≡ n → going ≡ asks unfailed halted looks moves m → going ≡ true
    → (unfailed ≡ true) × (looks < most_waits) × (moves < most_moves) × (n < most_postings)
asks_so n looks moves unfailed halted going m e is so =
    asks_by n looks moves unfailed halted going (subst (λ (k : ℕ). going ≡ asks unfailed halted looks moves k) e is) so

pub closes_so : {new : Exchange} {s : State} {xs : List Wait} {n : ℕ} {unfailed : Bool} {looks moves : ℕ} {exchanged : Exchange → Type 0} (halted going : Bool)
    (m : ℕ) → m ≡ n → ((d : Exchange) → exchanged d → halted ≡ d.sent.halted) → going ≡ asks unfailed halted looks moves m
    → going ≡ false → After exchanged (IsAt new s xs n unfailed looks moves)
    → After exchanged (λ now. Closed s xs n unfailed now × LeavesNone new now)
closes_so {unfailed = unfailed} {looks = looks} {moves = moves} halted going m e sent is none at =
    closes_at halted going sent (subst (λ (k : ℕ). going ≡ asks unfailed halted looks moves k) e is) none at

-- what passed, under the same program
pub after_under : {F : Type 0} {P : Exchange → Type 0} (exchanged : ProgramParts → F → F → Exchange → Type 0) {p q : ProgramParts}
    (first now : F) → p ≡ q → After (exchanged p first now) P → After (exchanged q first now) P
after_under {P = P} exchanged first now e x = coe 0 1 (i. After (exchanged (e i) first now) P) x

pub exchanged_under : {F : Type 0} (exchanged : ProgramParts → F → F → Exchange → Type 0) {p q : ProgramParts} (first now : F)
    (d : Exchange) → p ≡ q → exchanged p first now d → exchanged q first now d
exchanged_under exchanged first now d e x = coe 0 1 (i. exchanged (e i) first now d) x
