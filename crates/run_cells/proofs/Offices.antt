-- What one call of the office makes of the sessions of a run.
use Rattle.std.proofs.Common.{◌≡◌, ◌≤◌, ◌<◌, ℕ, Fits, w32, arith, Bool, true, false, not, ◌&&◌, List, [], ◌∷◌, ◌++◌, length, refl, sym, ap, subst, ◌∙◌, Option, None, Some, option_map, true≢false}
use Rattle.std.specs.Prelude.{nat_le, if◌then◌else◌, IfOk, OnErr, OnOk, Result, Ok, Err, drop, get_or, map, slice_get, slice_set, unwrap_or}
use Rattle.std.specs.List.{list_all, list_any}
use Rattle.std.proofs.lemmas.List.{length-map, map-set}
use Rattle.std.proofs.lemmas.Option.{slice_get-map, slice_get_read}
use Rattle.behaviour_tree.specs.Data.{ProgramParts}
use Rattle.behaviour_tree.specs.declared.program.Program.{Program}
use Rattle.behaviour_tree.specs.PartsView.{parts_of}
use Rattle.behaviour_tree.specs.declared.words.Outcome.{Outcome}
use Rattle.reqresp_book.specs.declared.origin.Origin.{Origin}
use Rattle.reqresp_book.specs.declared.origin.Origin.TheVariants as origin
use Rattle.office_core.specs.declared.history.Act.TheVariants as act
use Rattle.office_core.specs.declared.history.Entry.{Entry}
use Rattle.office_core.specs.declared.outgoing.Outgoing.{Outgoing}
use Rattle.office_core.specs.declared.post.Birth.{Birth}
use Rattle.office_core.specs.declared.post.Posted.{Posted}
use Rattle.office_core.specs.declared.post.PostReply.{PostReply}
use Rattle.office_core.specs.Limits.{Setting, first_worker, run_of}
use Rattle.office_core.specs.Past.{Past, closes, is_running, some_entry, stops}
use Rattle.office_core.specs.Sessions.{service_of, was_adopted}
use Rattle.office_core.specs.Accepted.{past_of}
use Rattle.office_core.specs.Legal.{IsLegal, is_at_work}
use Rattle.office_plain.specs.Entries.{collect_entry, entry, fetch_entry, post_entry}
use Rattle.office_plain.specs.Replies.{birth_of}
use Rattle.session_turn.specs.Passes.{IsReady}
use Rattle.office_plain.specs.declared.office.Office.{Office}
use Rattle.office_plain.specs.View.{Adds, entries_of, with_entry}
use Rattle.run_cells.specs.Awake.{IsOn, PutsOn}
use Rattle.run_cells.specs.News.{Told}
use Rattle.run_cells.specs.RunStates.{AtWork, RunState, IsOurs, IsTold, State, Stand, Stays, Team, closing, run_state_by, list_of, past_in, state_of}
use Rattle.run_cells.specs.RunStates.{with_told}
use Rattle.run_cells.specs.Turns.{Adopts, IsAdoption, IsTurn, Turned, adoption, fresh as first_stand, none, position}
use Rattle.session_turn.specs.declared.turn.Turn.{Turn}
use Rattle.run_cells.proofs.Sleeping.{told_adopted, told_begun, told_stays, told_turned}
use Rattle.run_cells.proofs.Births.{born_known}
use Rattle.run_cells.proofs.Foreign.{some_with}
use Rattle.run_cells.proofs.Stilling.{next_unadopted}
use Rattle.run_cells.proofs.Teams.{is_of_worker, team_adopted, team_begun, team_stays, team_turn}

-- ---- one program

-- what holds of what happened, by the parts of the one program or of the other
pub along : (P : Setting → Past → Type 0) (h : List Entry) {a b : ProgramParts} → a ≡ b
    → P (run_of a) (past_of (run_of a) h)
    → P (run_of b) (past_of (run_of b) h)
along P h e x = subst (λ (p : ProgramParts). P (run_of p) (past_of (run_of p) h)) e x

-- the history of the office is legal under the program of the run
pub legal_of : (o : Office) {parts : ProgramParts} → parts_of o.program ≡ parts → IsLegal (run_of parts) (entries_of o)
legal_of o e = subst (λ (p : ProgramParts). IsLegal (run_of p) (entries_of o)) e o.legal

-- a worker is at work while the run goes on
pub at_work : (past : Past) → is_running past ≡ true → is_at_work past first_worker ≡ true
at_work past h = ap (λ b. b && nat_le first_worker first_worker) h

-- ---- what stays

-- Beside the office and the sessions nothing changed.
pub record Beside (old new : RunState) : Type 0 where
  pub program : new.program ≡ old.program
  pub budget : new.budget ≡ old.budget
  pub stands : new.stands ≡ old.stands
  pub picks : new.picks ≡ old.picks
  pub told : new.told ≡ old.told
  pub heard : new.heard ≡ old.heard

with_list : (h : List Entry) (more : Option Entry) → with_entry h more ≡ h ++ list_of more
with_list h None = sym (append_nil h)
  where
    append_nil : (xs : List Entry) → xs ++ [] ≡ xs
    append_nil [] = refl
    append_nil (x ∷ xs) = ap (λ l. x ∷ l) (append_nil xs)
with_list h (Some e) = refl

-- a call of the office adds its entry, and nothing else changes
pub stays_by : {old new : RunState} {more : Option Entry} → Beside old new → Adds more old.office new.office
    → Stays (state_of old) (state_of new) (list_of more)
stays_by {old} {new} {more} b a = record {
  setting = ap (λ (p : Program). run_of (parts_of p)) b.program;
  budget = b.budget;
  history = a.entries ∙ with_list (entries_of old.office) more;
  stands = b.stands;
  picks = b.picks;
}

-- the office stays of the program
pub ours_by : {old new : RunState} {more : Option Entry} → Beside old new → Adds more old.office new.office → IsOurs old
    → IsOurs new
ours_by b a o = a.program ∙ o ∙ sym (ap parts_of b.program)

-- the entries stop nothing
abbrev pub NoStops : List Entry → Type 0
NoStops es = list_any stops es ≡ false

running_on : (w : Setting) (h more : List Entry) → NoStops more → is_running (past_of w h) ≡ true
    → is_running (past_of w (h ++ more)) ≡ true
running_on w h more goes runs = ap not (some_with w h more stops goes) ∙ runs

-- what the office is, once it went on by entries that stop nothing
pub ready_by : {parts parts' : ProgramParts} {old new : Office} (more : List Entry) → IsReady parts old → parts' ≡ parts
    → parts_of new.program ≡ parts_of old.program
    → entries_of new ≡ entries_of old ++ more → NoStops more → new.spent ≡ false → IsReady parts' new
ready_by {parts} {parts'} {old} {new} more r same program entries goes ready = record {
  program = program ∙ r.program ∙ sym same;
  ready = ready;
  running = subst (λ (w : Setting). is_running (past_of w (entries_of new)) ≡ true) (sym (ap run_of program))
      (subst (λ (h : List Entry). is_running (past_of (run_of (parts_of old.program)) h) ≡ true) (sym entries)
      (running_on (run_of (parts_of old.program)) (entries_of old) more goes r.running));
}

-- the run goes on, by the program of the run
pub runs_of : {parts : ProgramParts} {o : Office} → IsReady parts o → is_running (past_of (run_of parts) (entries_of o)) ≡ true
runs_of {parts} {o} r = along (λ w p. is_running p ≡ true) (entries_of o) r.program r.running

-- what was told, at the same things
told_as : {s : State} {told told' : Told} {heard heard' : ℕ} → told' ≡ told → heard' ≡ heard → IsTold s told heard
    → IsTold s told' heard'
told_as {s} {told} {told'} {heard} {heard'} p q t =
    subst (λ (x : Told). IsTold s x heard') (sym p) (subst (IsTold s told) (sym q) t)

-- ---- entries of the worker

abbrev pub ByWorker : List Entry → Type 0
ByWorker es = list_all is_of_worker es ≡ true

-- the sessions stay at work when the worker called
pub works_by : {old new : RunState} {more : Option Entry} → AtWork old → Beside old new → Adds more old.office new.office
    → new.office.spent ≡ false
    → ByWorker (list_of more) → NoStops (list_of more) → AtWork new
works_by {old} {new} {more} work b a ready works goes =
    let s : Stays (state_of old) (state_of new) (list_of more) = stays_by b a in
    let r : IsReady (parts_of new.program) new.office
    = ready_by (list_of more) work.desk (ap parts_of b.program) a.program s.history goes ready in
    record {
      desk = r;
      team = team_stays work.team s works (legal_of new.office r.program) (runs_of r);
      told = told_as b.told b.heard (told_stays work.team s works work.told);
    }

-- what each call of the worker adds is its own
pub post_own : (from : Origin) (q : Posted) (r : PostReply) → ByWorker (list_of (post_entry first_worker from q r))
post_own (origin.Port j i) q r = refl
post_own (origin.Session s k) q r = refl

pub post_goes : (from : Origin) (q : Posted) (r : PostReply) → NoStops (list_of (post_entry first_worker from q r))
post_goes (origin.Port j i) q r = refl
post_goes (origin.Session s k) q r = refl

pub collect_own : (n : ℕ) (o : Option Outcome) → ByWorker (list_of (collect_entry first_worker n o))
collect_own n None = refl
collect_own n (Some o) = refl

pub collect_goes : (n : ℕ) (o : Option Outcome) → NoStops (list_of (collect_entry first_worker n o))
collect_goes n None = refl
collect_goes n (Some o) = refl

pub fetch_own : (o : Option Outgoing) → ByWorker (list_of (fetch_entry first_worker o))
fetch_own None = refl
fetch_own (Some o) = refl

pub fetch_goes : (o : Option Outgoing) → NoStops (list_of (fetch_entry first_worker o))
fetch_goes None = refl
fetch_goes (Some o) = refl

-- ---- adoptions

-- a session of a service, as it is born
abbrev born : ℕ → ℕ → Birth
born n d = record { session = n; service = d }

-- the birth that an office gives is that of the next session
unborn-by : (w : Setting) (past : Past) (n : ℕ) → was_adopted past n ≡ false → None ≡ birth_of w past n
    → service_of w past n ≡ None
unborn-by w past n new e =
    by (service_of w past n) (e ∙ ap (λ b. if b then None else option_map (born n) (service_of w past n)) new)
  where
    by : (o : Option ℕ) → None ≡ option_map (born n) o → o ≡ None
    by None f = refl
    by (Some d) f = absurd (true≢false (ap (λ (b : Option Birth). elim b [ None ↦ true | Some x ↦ false ]) f))

born-by : (w : Setting) (past : Past) (n : ℕ) (b : Birth) → Some b ≡ birth_of w past n
    → service_of w past n ≡ Some b.service
born-by w past n b e = by (was_adopted past n) (service_of w past n) e
  where
    by : (a : Bool) (o : Option ℕ) → Some b ≡ (if a then None else option_map (born n) o)
        → o ≡ Some b.service
    by true o f = absurd (true≢false (ap (λ (x : Option Birth). elim x [ None ↦ false | Some y ↦ true ]) f))
    by false None f = absurd (true≢false (ap (λ (x : Option Birth). elim x [ None ↦ false | Some y ↦ true ]) f))
    by false (Some d) f = ap (λ (x : Option Birth). elim x [ None ↦ Some d | Some y ↦ Some y.service ]) (sym f)

-- no session was born; the office has not changed
pub adopts_none : {old new : RunState} → AtWork old → Beside old new → Adds None old.office new.office
    → (n : ℕ) → n ≡ length old.stands
    → None ≡ birth_of (run_of (parts_of old.office.program)) (past_of (run_of (parts_of old.office.program)) (entries_of old.office)) n
    → Adopts (state_of old) (state_of new) false
adopts_none {old} {new} work b a n e birth =
    none (record {
      unborn = subst (λ k. service_of (state_of old).setting (past_in (state_of old)) k ≡ None) e
          (unborn-by (state_of old).setting (past_in (state_of old)) n
          (ap (was_adopted (past_in (state_of old))) e ∙ next_unadopted (state_of old) work.team)
          (along (λ w p. None ≡ birth_of w p n) (entries_of old.office) work.desk.program birth));
      same = λ i. record {
        setting = run_of (parts_of (b.program i));
        budget = b.budget i;
        history = a.entries i;
        stands = b.stands i;
        picks = b.picks i;
      };
    })

pub works_none : {old new : RunState} → AtWork old → Beside old new → Adds None old.office new.office
    → new.office.spent ≡ false → AtWork new
works_none work b a ready = works_by work b a ready refl refl

-- The office adopted the next session, and it was seated.
pub record Seated (old new : RunState) (birth : Birth) : Type 0 where
  pub program : new.program ≡ old.program
  pub budget : new.budget ≡ old.budget
  pub picks : new.picks ≡ old.picks
  pub stands : new.stands ≡ old.stands ++ first_stand (run_of (parts_of old.program)) birth.service ∷ []
  pub awake : PutsOn (length old.stands) old.told.awake new.told.awake
  pub senders : new.told.senders ≡ old.told.senders
  pub heard : new.heard ≡ old.heard

pub adopts_one : {old new : RunState} {birth : Birth} → AtWork old → Seated old new birth → (n : ℕ) → n ≡ length old.stands
    → Adds (Some (entry n (act.Adopt birth.service))) old.office new.office
    → Some birth ≡ birth_of (run_of (parts_of old.office.program)) (past_of (run_of (parts_of old.office.program)) (entries_of old.office)) n
    → IsAdoption (state_of old) (state_of new)
adopts_one {old} {new} {birth} work s n e a is = record {
  service = birth.service;
  born = subst (λ k. service_of (state_of old).setting (past_in (state_of old)) k ≡ Some birth.service) e
      (born-by (state_of old).setting (past_in (state_of old)) n birth
      (along (λ w p. Some birth ≡ birth_of w p n) (entries_of old.office) work.desk.program is));
  setting = ap (λ (p : Program). run_of (parts_of p)) s.program;
  budget = s.budget;
  history = a.entries ∙ ap (λ k. entries_of old.office ++ adoption k birth.service ∷ []) e;
  stands = s.stands;
  picks = s.picks;
}

pub works_one : {old new : RunState} {birth : Birth} (n : ℕ) → AtWork old → Seated old new birth
    → Adds (Some (entry n (act.Adopt birth.service))) old.office new.office
    → new.office.spent ≡ false
    → IsAdoption (state_of old) (state_of new) → AtWork new
works_one {old} {new} {birth} n work s a ready x =
    let r : IsReady (parts_of new.program) new.office
    = ready_by (entry n (act.Adopt birth.service) ∷ []) work.desk (ap parts_of s.program) a.program a.entries refl ready in
    record {
      desk = r;
      team = team_adopted work.team x (legal_of new.office r.program) (runs_of r);
      told = told_as refl s.heard (told_adopted new.told x s.awake s.senders work.told);
    }

-- ---- turns

pub works_turn : {old new : RunState} {n : ℕ} {t : Turn} → AtWork old → IsReady (parts_of new.program) new.office
    → new.told ≡ old.told → new.heard ≡ old.heard → IsOn old.told.awake n → IsTurn n (state_of old) (state_of new) t
    → AtWork new
works_turn {old} {new} work r same heard on x = record {
  desk = r;
  team = team_turn work.team x (legal_of new.office r.program) (runs_of r);
  told = told_as same heard (told_turned x on work.told);
}

-- ---- what a call of the office gave

-- the run state with another office
abbrev pub with_office : RunState → Office → RunState
with_office c o = with_told c.told c.heard (run_state_by c.program o c.budget c.stands c.picks)

unchanged : (c : RunState) (o : Office) → Beside c (with_office c o)
unchanged c o = record { program = refl; budget = refl; stands = refl; picks = refl; told = refl; heard = refl }

pub stays_ok : (c : RunState) (o : Office) {X E : Type 0} (r : Result X E) (f : X → Option Entry)
    → IfOk r (λ x. Adds (f x) c.office o)
    → IfOk r (λ x. Stays (state_of c) (state_of (with_office c o)) (list_of (f x)))
stays_ok c o (Ok x) f a = stays_by (unchanged c o) a
stays_ok c o (Err e) f a = tt

pub stays_work : {c : RunState} (o : Office) {X E : Type 0} (r : Result X E) (f : X → Option Entry) → AtWork c
    → IfOk r (λ x. Adds (f x) c.office o)
    → IfOk r (λ x. Stays (state_of c) (state_of (with_office c o)) (list_of (f x)))
stays_work {c} o r f work a = stays_ok c o r f a

-- where the call failed nothing came
pub stays_not : (c : RunState) (o : Office) {X E : Type 0} (r : Result X E) → OnErr r (Adds None c.office o)
    → OnErr r (Stays (state_of c) (state_of (with_office c o)) [])
stays_not c o (Ok x) failed = tt
stays_not c o (Err e) failed = stays_by (unchanged c o) failed

pub stays_failed : {c : RunState} (o : Office) {X E : Type 0} (r : Result X E) → AtWork c → OnErr r (Adds None c.office o)
    → OnErr r (Stays (state_of c) (state_of (with_office c o)) [])
stays_failed {c} o r work failed = stays_not c o r failed

pub works_ok : (c : RunState) (o : Office) {X E : Type 0} (r : Result X E) (f : X → Option Entry) → AtWork c
    → IfOk r (λ x. Adds (f x) c.office o) → OnOk r (o.spent ≡ false)
    → ((x : X) → ByWorker (list_of (f x))) → ((x : X) → NoStops (list_of (f x)))
    → OnOk r (AtWork (with_office c o))
works_ok c o (Ok x) f work a ready own goes = works_by work (unchanged c o) a ready (own x) (goes x)
works_ok c o (Err e) f work a ready own goes = tt

-- also where the call failed
pub ours_ok : (c : RunState) (o : Office) {X E : Type 0} (r : Result X E) (f : X → Option Entry) → IsOurs c
    → IfOk r (λ x. Adds (f x) c.office o) → OnErr r (Adds None c.office o) → IsOurs (with_office c o)
ours_ok c o (Ok x) f ours a failed = ours_by (unchanged c o) a ours
ours_ok c o (Err e) f ours a failed = ours_by (unchanged c o) failed ours

-- ---- the end

closing-list : (past : Past) (b : Bool) → some_entry past closes ≡ b
    → list_of (if b then None else Some (entry first_worker act.Close)) ≡ closing past
closing-list past true e = sym (ap (λ (x : Bool). if x then [] else entry first_worker act.Close ∷ []) e)
closing-list past false e = sym (ap (λ (x : Bool). if x then [] else entry first_worker act.Close ∷ []) e)

-- the entry of the end of input, where it is added
abbrev pub close_entry : Office → Option Entry
close_entry o =
    if some_entry (past_of (run_of (parts_of o.program)) (entries_of o)) closes then None
    else Some (entry first_worker act.Close)

close-goes : (b : Bool) → list_any stops (list_of (if b then None else Some (entry first_worker act.Close))) ≡ false
close-goes true = refl
close-goes false = refl

-- the worker is at work behind the end of input
pub stop_works : (c : RunState) (o : Office) → AtWork c → Adds (close_entry c.office) c.office o
    → is_at_work (past_of (run_of (parts_of o.program)) (entries_of o)) first_worker ≡ true
stop_works c o work a =
    at_work (past_of (run_of (parts_of o.program)) (entries_of o))
    (subst (λ (w : Setting). is_running (past_of w (entries_of o)) ≡ true) (sym (ap run_of a.program))
    (subst (λ (h : List Entry). is_running (past_of (run_of (parts_of (c.office).program)) h) ≡ true)
    (sym (a.entries ∙ with_list (entries_of c.office) (close_entry c.office)))
    (running_on (run_of (parts_of (c.office).program)) (entries_of c.office) (list_of (close_entry c.office))
    (close-goes (some_entry (past_of (run_of (parts_of (c.office).program)) (entries_of c.office)) closes)) work.desk.running)))

append_all : (xs ys zs : List Entry) → (xs ++ ys) ++ zs ≡ xs ++ (ys ++ zs)
append_all [] ys zs = refl
append_all (x ∷ xs) ys zs = ap (λ l. x ∷ l) (append_all xs ys zs)

pub stopped : (c : RunState) (o o' : Office) → AtWork c → Adds (close_entry c.office) c.office o
    → Adds (Some (entry first_worker act.Stop)) o o'
    → Stays (state_of c) (state_of (with_office c o')) (closing (past_in (state_of c)) ++ entry first_worker act.Stop ∷ [])
stopped c o o' work a b = record {
  setting = refl;
  budget = refl;
  history = b.entries
      ∙ ap (λ (h : List Entry). h ++ entry first_worker act.Stop ∷ []) (a.entries ∙ with_list (entries_of c.office) (close_entry c.office) ∙ ap (λ (es : List Entry). entries_of c.office ++ es) end)
      ∙ append_all (entries_of c.office) (closing (past_in (state_of c))) (entry first_worker act.Stop ∷ []);
  stands = refl;
  picks = refl;
}
  where
    end : list_of (close_entry c.office) ≡ closing (past_in (state_of c))
    end = closing-list (past_of (run_of (parts_of (c.office).program)) (entries_of c.office)) (some_entry (past_of (run_of (parts_of (c.office).program)) (entries_of c.office)) closes) refl
        ∙ along (λ w p. closing (past_of (run_of (parts_of (c.office).program)) (entries_of c.office)) ≡ closing p) (entries_of c.office) work.desk.program refl

pub stopped_ours : (c : RunState) (o o' : Office) → AtWork c → Adds (close_entry c.office) c.office o
    → Adds (Some (entry first_worker act.Stop)) o o' → IsOurs (with_office c o')
stopped_ours c o o' work a b = b.program ∙ a.program ∙ work.desk.program

-- ---- turns of cells

-- a turn of the cell at a place is one of the run state
pub turn_is : {X : Type 0} (f : X → Stand) (program : Program) (o o' : Office) (budget : ℕ) (items : List X) (n : ℕ) (x y : X)
    (picks rest : List ℕ) (pick : ℕ) (t : Turn)
    → slice_get (map f items) n ≡ Some (f x) → pick ≡ unwrap_or (slice_get picks 0) 0 → rest ≡ drop 1 picks
    → Turned (record { setting = run_of (parts_of program); budget = budget; session = n; pick = pick })
    (position (f x) (entries_of o)) (position (f y) (entries_of o')) t
    → IsTurn n (state_of (run_state_by program o budget (map f items) picks))
    (state_of (run_state_by program o' budget (map f (slice_set items n y)) rest)) t
turn_is f program o o' budget items n x y picks rest pick t there first left h = record {
  was = f x;
  there = there;
  now = f y;
  setting = refl;
  budget = refl;
  stands = map-set f items n y;
  picks = left;
  turned = subst (λ (k : ℕ). Turned (record { setting = run_of (parts_of program); budget = budget; session = n; pick = k })
      (position (f x) (entries_of o)) (position (f y) (entries_of o')) t) first h;
}

-- the stand of the cell at a place
pub stand_at : {X : Type 0} (f : X → Stand) (items : List X) (n : ℕ) (x : X) → n < length items → x ≡ get_or items n x
    → slice_get (map f items) n ≡ Some (f x)
stand_at f items n x within value =
    slice_get-map f items n ∙ ap (option_map f) (slice_get_read items (length items) n x refl within value)

-- the number of a cell is small
pub cell_fits : {X : Type 0} (f : X → Stand) (items : List X) (n : ℕ) → length (map f items) ≤ 4096 → n < length items
    → Fits w32 n
cell_fits f items n few within =
    let same : length (map f items) ≡ length items = length-map items f in
    omega arith

pub count_fits : {X : Type 0} (f : X → Stand) (items : List X) (count : ℕ) → count ≡ length items → length (map f items) ≤ 4096
    → Fits w32 count
count_fits f items count e few =
    let same : length (map f items) ≡ length items = length-map items f in
    omega arith

pub works_turn_ok : {old : RunState} (new : RunState) (n : ℕ) {E : Type 0} (r : Result Turn E) → AtWork old
    → OnOk r (IsReady (parts_of new.program) new.office) → new.told ≡ old.told → new.heard ≡ old.heard
    → IsOn old.told.awake n → IfOk r (IsTurn n (state_of old) (state_of new)) → OnOk r (AtWork new)
works_turn_ok new n (Ok t) work ready same heard on x = works_turn work ready same heard on x
works_turn_ok new n (Err e) work ready same heard on x = tt

-- ---- before the first call

pub works_begun : {X : Type 0} (f : X → Stand) (program : Program) (o : Office) (budget : ℕ) (items : List X)
    (picks : List ℕ) (told : Told) (heard : ℕ) → parts_of o.program ≡ parts_of program → entries_of o ≡ [] → o.spent ≡ false → items ≡ []
    → told.awake ≡ [] → heard ≡ 0
    → AtWork (with_told told heard (run_state_by program o budget (map f items) picks))
works_begun f program o budget items picks told heard same none_yet ready nobody_yet nobody_awake none_heard = record {
  desk = record {
    program = same;
    ready = ready;
    running = subst (λ (h : List Entry). is_running (past_of (run_of (parts_of o.program)) h) ≡ true) (sym none_yet) refl;
  };
  team = subst Team (λ i. record {
    setting = run_of (parts_of program);
    budget = budget;
    history = sym none_yet i;
    stands = map f (sym nobody_yet i);
    picks = picks;
  }) (team_begun (run_of (parts_of program)) budget picks refl);
  told = told_as refl none_heard (told_begun (state_of (run_state_by program o budget (map f items) picks)) told (ap (map f) nobody_yet) nobody_awake);
}

-- ---- the next session

-- the service of a session that was born is one of the program
pub seat_known : {c : RunState} → AtWork c → (n : ℕ) (birth : Birth)
    → Some birth ≡ birth_of (run_of (parts_of (c.office).program)) (past_of (run_of (parts_of (c.office).program)) (entries_of c.office)) n
    → birth.service < length (parts_of c.program).services
seat_known {c} work n birth is =
    born_known (run_of (parts_of c.program)) (entries_of c.office) n birth.service
    (born-by (run_of (parts_of c.program)) (past_of (run_of (parts_of c.program)) (entries_of c.office)) n birth
    (along (λ w p. Some birth ≡ birth_of w p n) (entries_of c.office) work.desk.program is))

-- nobody was born
pub nobody_born : {c : RunState} (o : Office) (n : ℕ) → AtWork c → Adds None c.office o → n ≡ length c.stands
    → None ≡ birth_of (run_of (parts_of (c.office).program)) (past_of (run_of (parts_of (c.office).program)) (entries_of c.office)) n
    → Adopts (state_of c) (state_of (with_office c o)) false
nobody_born {c} o n work a e is = adopts_none work (unchanged c o) a n e is

pub nobody_works : {c : RunState} (o : Office) → AtWork c → Adds None c.office o → o.spent ≡ false → AtWork (with_office c o)
nobody_works {c} o work a ready = works_none work (unchanged c o) a ready

-- somebody was born, and was seated at an office
pub somebody_born : {old : RunState} (new : RunState) (birth : Birth) (n : ℕ) (o : Office) → AtWork old → Seated old new birth
    → n ≡ length old.stands → new.office ≡ o
    → Adds (Some (entry n (act.Adopt birth.service))) old.office o
    → Some birth ≡ birth_of (run_of (parts_of (old.office).program)) (past_of (run_of (parts_of (old.office).program)) (entries_of old.office)) n
    → IsAdoption (state_of old) (state_of new)
somebody_born {old} new birth n o work s e same a is =
    adopts_one work s n e (subst (Adds (Some (entry n (act.Adopt birth.service))) old.office) (sym same) a) is

pub somebody_works : {old : RunState} (new : RunState) (birth : Birth) (n : ℕ) (o : Office) → AtWork old → Seated old new birth
    → new.office ≡ o
    → Adds (Some (entry n (act.Adopt birth.service))) old.office o → o.spent ≡ false
    → IsAdoption (state_of old) (state_of new) → AtWork new
somebody_works {old} new birth n o work s same a ready x =
    works_one n work s (subst (Adds (Some (entry n (act.Adopt birth.service))) old.office) (sym same) a)
    (ap (λ (p : Office). p.spent) same ∙ ready) x

-- ---- looks

-- a look leaves all as it was
pub look_same : (c : RunState) (o : Office) {T E : Type 0} (r : Result T E) → OnOk r (entries_of o ≡ entries_of c.office)
    → OnOk r (state_of (with_office c o) ≡ state_of c)
look_same c o (Ok x) e = λ i. record {
  setting = run_of (parts_of c.program);
  budget = c.budget;
  history = e i;
  stands = c.stands;
  picks = c.picks;
}
look_same c o (Err x) e = tt

pub look_works : {c : RunState} (o : Office) {T E : Type 0} (r : Result T E) → AtWork c → OnOk r (IsReady (parts_of c.program) o)
    → OnOk r (entries_of o ≡ entries_of c.office)
    → OnOk r (AtWork (with_office c o))
look_works {c} o (Ok x) work ready e = record {
  desk = ready;
  team = subst Team (λ i. record {
    setting = run_of (parts_of c.program);
    budget = c.budget;
    history = sym e i;
    stands = c.stands;
    picks = c.picks;
  }) work.team;
  told = subst (λ (s : State). IsTold s c.told c.heard) (λ i. record {
    setting = run_of (parts_of c.program);
    budget = c.budget;
    history = sym e i;
    stands = c.stands;
    picks = c.picks;
  }) work.told;
}
look_works {c} o (Err x) work ready e = tt
