-- An office is opened, its session is seated, and a turn is one of the run.
use Rattle.std.proofs.Common.{◌≡◌, ℕ, Bool, true, false, List, [], ◌∷◌, ◌++◌, refl, ap, subst, ◌∙◌, Option, None, Some, true≢false, zero-le}
use Rattle.std.specs.Prelude.{Err, IfOk, Ok, OnOk, Result, length}
use Rattle.behaviour_tree.specs.declared.program.Program.{Program}
use Rattle.behaviour_tree.specs.declared.words.Event.{Event}
use Rattle.behaviour_tree.specs.PartsView.{parts_of}
use Rattle.office_core.specs.declared.history.Act.TheVariants as act
use Rattle.office_core.specs.declared.history.Entry.{Entry}
use Rattle.office_core.specs.declared.post.Birth.{Birth}
use Rattle.office_core.specs.declared.post.Posted.{Posted}
use Rattle.office_core.specs.declared.post.PostReply.{PostReply}
use Rattle.office_core.specs.Accepted.{past_of}
use Rattle.office_core.specs.Limits.{first_worker, run_of}
use Rattle.office_core.specs.Route.{post_reply, route}
use Rattle.office_core.specs.Sessions.{service_of}
use Rattle.office_plain.specs.Entries.{entry, post_entry}
use Rattle.office_plain.specs.Replies.{birth_of}
use Rattle.office_plain.specs.declared.office.Office.{Office}
use Rattle.office_plain.specs.View.{Adds, entries_of, past_in as past_at, setting_of}
use Rattle.reqresp_book.specs.declared.origin.Origin.TheVariants as origin
use Rattle.run_cells.specs.Awake.{IsOn}
use Rattle.run_cells.specs.News.{told_nothing}
use Rattle.run_cells.specs.RunStates.{AtWork, Stand, State, past_in, state_of}
use Rattle.run_cells.specs.Turns.{Adopts, IsAdoption, IsTurn, Turned, fresh, none, one, play, position}
use Rattle.run_cells.proofs.Offices.{Seated as Adopted, nobody_born, post_goes, post_own, somebody_born, somebody_works, works_begun, works_ok}
use Rattle.run_cells.proofs.Rising.{inserted}
use Rattle.run_cells.proofs.Sleeping.{told_begun, told_picks}
use Rattle.test_seats.specs.Opening.{IsOpened, run_state_before, first_entries, state_before}
use Rattle.test_seats.specs.Seats.{IsSeated, run_state_in, stand_in, state_in, state_with}
use Rattle.test_seats.specs.declared.seat.Seat.{Seat}
use Rattle.session_turn.specs.declared.turn.Turn.{Turn}
use Rattle.session_term_turns.specs.declared.seated.Seated.{Seated}

-- ---- before the session is adopted

-- an office in which nothing happened yet
pub opened_ok : {E : Type 0} (r : Result Office E) (program copy : Program) → parts_of copy ≡ parts_of program
    → IfOk r (λ o. parts_of o.program ≡ parts_of copy) → IfOk r (λ o. entries_of o ≡ []) → IfOk r (λ o. o.spent ≡ false)
    → IfOk r (IsOpened program)
opened_ok (Ok o) program copy same ours none_yet ready =
    works_begun {X = Stand} (λ x. x) program o 0 [] [] told_nothing 0 (ours ∙ same) none_yet ready refl refl refl
opened_ok (Err e) program copy same ours none_yet ready = tt

-- a message came in
pub opened_on : (program : Program) (old new : Office) {E : Type 0} (r : Result PostReply E) (q : Posted)
    → IsOpened program old → IfOk r (λ x. Adds (post_entry first_worker (origin.Port 0 0) q x) old new)
    → OnOk r (new.spent ≡ false)
    → OnOk r (IsOpened program new)
opened_on program old new r q opened added ready =
    works_ok (run_state_before program old 0) new r (post_entry first_worker (origin.Port 0 0) q) opened added ready
    (post_own (origin.Port 0 0) q) (post_goes (origin.Port 0 0) q)

-- it is the first of all calls
pub came_first : (program : Program) (old new : Office) {E : Type 0} (r : Result PostReply E) (q : Posted)
    → parts_of old.program ≡ parts_of program → entries_of old ≡ []
    → IfOk r (λ x. x ≡ post_reply (past_at old) (route (setting_of old) (past_at old) q))
    → IfOk r (λ x. Adds (post_entry first_worker (origin.Port 0 0) q x) old new)
    → OnOk r (entries_of new ≡ first_entries (run_of (parts_of program)) (Some q))
came_first program old new (Ok x) q same none_yet reply added =
    added.entries ∙ (λ i. none_yet i ++ entry first_worker (act.Post 0 0 q (is i)) ∷ [])
  where
    is : x ≡ post_reply (past_of (run_of (parts_of program)) []) (route (run_of (parts_of program)) (past_of (run_of (parts_of program)) []) q)
    is = reply ∙ (λ i. post_reply (past_of (run_of (same i)) (none_yet i)) (route (run_of (same i)) (past_of (run_of (same i)) (none_yet i)) q))
came_first program old new (Err e) q same none_yet reply added = tt

not_some : {A : Type 0} (x : A) → None ≡ Some x → ⊥
not_some x e = true≢false (ap (λ o. elim o [ None ↦ true | Some y ↦ false ]) e)

-- the same office under any budget
pub budgeted : {program : Program} {o : Office} (budget : ℕ) → IsOpened program o → AtWork (run_state_before program o budget)
budgeted budget w = record {
  desk = w.desk;
  team = record {
    limits = w.team.limits;
    legal = w.team.legal;
    running = w.team.running;
    adopted = w.team.adopted;
    each = w.team.each;
    within = λ n st h. absurd (not_some st h);
  };
  told = told_begun _ told_nothing refl refl;
}

-- ---- the session is seated

unborn_of : (old new : State) (b : Bool) → Adopts old new b → b ≡ false
    → service_of old.setting (past_in old) (length old.stands) ≡ None
unborn_of old new true (one x) e = absurd (true≢false e)
unborn_of old new false (none x) e = x.unborn

-- nobody was born
pub nobody : (program : Program) (old new : Office) (budget : ℕ) (first : Option Posted) → IsOpened program old
    → entries_of old ≡ first_entries (run_of (parts_of program)) first → Adds None old new
    → None ≡ birth_of (setting_of old) (past_at old) 0
    → service_of (run_of (parts_of program)) (past_in (state_before program budget first)) 0 ≡ None
nobody program old new budget first opened entries added is =
    subst (λ (h : List Entry). service_of (run_of (parts_of program)) (past_of (run_of (parts_of program)) h) 0 ≡ None) entries
    (unborn_of (state_of (run_state_before program old 0)) (state_of (run_state_before program new 0)) false
    (nobody_born {c = run_state_before program old 0} new 0 opened added refl is) refl)

-- the session is awake
pub first_awake : IsOn (0 ∷ []) 0
first_awake = (inserted [] 0 0 zero-le).here

-- The session was born, adopted and seated.
pub record IsBegun (run : Program) (old : Office) (birth : Birth) (s : Seat) : Type 0 where
  pub adopter : Office
  pub added : Adds (Some (entry 0 (act.Adopt birth.service))) old adopter
  pub ready : adopter.spent ≡ false
  pub is : Some birth ≡ birth_of (setting_of old) (past_at old) 0
  pub program : s.program.now ≡ run
  pub office : s.office ≡ adopter
  pub stand : stand_in s ≡ fresh (run_of (parts_of run)) birth.service

adopted_by : (program : Program) (old : Office) (birth : Birth) (s : Seat) → IsBegun program old birth s
    → Adopted (run_state_before program old s.budget) (run_state_in s []) birth
adopted_by program old birth s b = record {
  program = b.program;
  budget = refl;
  picks = refl;
  stands = ap (λ (st : Stand). st ∷ []) b.stand;
  awake = inserted [] 0 0 zero-le;
  senders = refl;
  heard = refl;
}

adoption_of : (program : Program) (old : Office) (birth : Birth) (s : Seat) → IsOpened program old
    → IsBegun program old birth s → IsAdoption (state_of (run_state_before program old s.budget)) (state_in s)
adoption_of program old birth s opened b =
    somebody_born {old = run_state_before program old s.budget} (run_state_in s []) birth 0 b.adopter (budgeted s.budget opened)
    (adopted_by program old birth s b) refl b.office b.added b.is

pub somebody : (program : Program) (old : Office) (budget : ℕ) (first : Option Posted) (birth : Birth) (s : Seat)
    → IsOpened program old → entries_of old ≡ first_entries (run_of (parts_of program)) first
    → IsBegun program old birth s → s.budget ≡ budget
    → IsAdoption (state_before program budget first) (state_in s)
somebody program old budget first birth s opened entries b same =
    subst (λ (n : ℕ). IsAdoption (state_before program n first) (state_in s)) same
    (subst (λ (h : List Entry). IsAdoption (record { setting = run_of (parts_of program); budget = s.budget; history = h; stands = []; picks = [] }) (state_in s)) entries
    (adoption_of program old birth s opened b))

pub somebody_seated : (program : Program) (old : Office) (birth : Birth) (s : Seat) → IsOpened program old
    → IsBegun program old birth s → IsSeated s
somebody_seated program old birth s opened b =
    somebody_works {old = run_state_before program old s.budget} (run_state_in s []) birth 0 b.adopter (budgeted s.budget opened)
    (adopted_by program old birth s b) b.office b.added b.ready (adoption_of program old birth s opened b)

-- ---- a turn

-- the seat after a turn
abbrev pub later : Seat → Office → Seated → List Event → Seat
later s o x es = record s { office = o; session = x; events = es }

-- it is at work with any picks
pub picked : (s : Seat) (picks : List ℕ) → IsSeated s → AtWork (run_state_in s picks)
picked s picks w = record {
  desk = w.desk;
  team = record {
    limits = w.team.limits;
    legal = w.team.legal;
    running = w.team.running;
    adopted = w.team.adopted;
    each = w.team.each;
    within = w.team.within;
  };
  told = told_picks picks w.told;
}

-- what a turn came to is a turn of the run
pub taken : (s : Seat) (o : Office) (x : Seated) (es : List Event) (pick : ℕ) {E : Type 0} (r : Result Turn E)
    → IfOk r (Turned (play (state_with s pick) 0) (position (stand_in s) (entries_of s.office)) (position (stand_in (later s o x es)) (entries_of o)))
    → IfOk r (IsTurn 0 (state_with s pick) (state_in (later s o x es)))
taken s o x es pick (Ok t) h = record {
  was = stand_in s;
  there = refl;
  now = stand_in (later s o x es);
  setting = refl;
  budget = refl;
  stands = refl;
  picks = refl;
  turned = h;
}
taken s o x es pick (Err e) h = tt
