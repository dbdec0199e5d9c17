-- What is kept before the first call: the sessions of the single services.
use Rattle.std.proofs.Common.{◌≡◌, ◌≤◌, ◌<◌, ℕ, zero, suc, ◌+◌, ◌-◌, Bool, true, false, not, ◌&&◌, ◌||◌, List, [], ◌∷◌, ◌++◌, length, map, take, take_all, get_or, refl, sym, ap, subst, ◌∙◌, Option, None, Some, option_map, true≢false, zero-add, arith}
use Rattle.std.specs.Prelude.{nat_lt, slice_get, if◌then◌else◌}
use Rattle.std.specs.List.{filter_map, list_any}
use Rattle.std.proofs.lemmas.Bool.Decides.{nat_tests}
use Rattle.std.proofs.lemmas.List.{map_more, map_push}
use Rattle.jolie_trees.specs.Limits.{in_u64}
use Rattle.behaviour_tree.specs.Data.{ServicePart, ProgramParts}
use Rattle.behaviour_tree.specs.FormedSets.{is_concurrent}
use Rattle.behaviour_tree.specs.PartsView.{service_view}
use Rattle.behaviour_tree.specs.declared.program.Service.{Service}
use Rattle.correlation.specs.declared.session.Session.{Session}
use Rattle.correlation.specs.Sessions.{is_born, newborn}
use Rattle.correlation.specs.View.{sessions_of}
use Rattle.reqresp_book.specs.View.{origin_of}
use Rattle.post_box.specs.View.{box_of}
use Rattle.office_core.specs.Limits.{Setting, run_of}
use Rattle.office_core.specs.Past.{nothing_yet}
use Rattle.office_core.specs.Keys.{Variable}
use Rattle.office_core.specs.Sessions.{singles_from}
use Rattle.office_plain.specs.SetNumbers.{numbered_sets}
use Rattle.office_plain.specs.declared.kept.Kept.{Kept}
use Rattle.office_plain.specs.declared.kept.SessionRow.{SessionRow}
use Rattle.office_plain.specs.Accepting.{newborn_row, no_calls, newborns_from, has_session, IsEmpty, Opens, OpensFirst}
use Rattle.office_plain.specs.Kept.{row_of, places_of, keyed_from, keyed_sessions, written_first, variables_of}
use Rattle.office_plain.specs.Ties.{Ties}
use Rattle.office_plain.proofs.Lists.{not_eq, none_not_some}

append_nil : {A : Type 0} (xs : List A) → xs ++ [] ≡ xs
append_nil [] = refl
append_nil (x ∷ xs) = ap (λ l. x ∷ l) (append_nil xs)

-- ---- lists

take_nil : (k : ℕ) → ◌≡◌ {A = List ℕ} (take k []) []
take_nil zero = refl
take_nil (suc k) = refl

take_room : (k : ℕ) (xs : List ℕ) (x : ℕ) → length (take k xs) < k → take k (xs ++ x ∷ []) ≡ take k xs ++ x ∷ []
take_room zero xs x h = absurd (omega (arith, h))
take_room (suc k) [] x h = ap (λ l. x ∷ l) (take_nil k)
take_room (suc k) (y ∷ xs) x h = ap (λ l. y ∷ l) (take_room k xs x (omega (arith, h)))

take_full : (k : ℕ) (xs ys : List ℕ) → k ≤ length (take k xs) → take k (xs ++ ys) ≡ take k xs
take_full zero xs ys h = refl
take_full (suc k) [] ys h = absurd (omega (arith, h))
take_full (suc k) (x ∷ xs) ys h = ap (λ l. x ∷ l) (take_full k xs ys (omega (arith, h)))

length_mapped : {A B : Type 0} (f : A → B) (xs : List A) → length (map f xs) ≡ length xs
length_mapped f [] = refl
length_mapped f (x ∷ xs) = ap suc (length_mapped f xs)

length_first : {A : Type 0} (xs : List A) (i : ℕ) → i < length xs → i ≡ length (take i xs)
length_first [] i h = absurd (omega (arith, h))
length_first (x ∷ xs) zero h = refl
length_first (x ∷ xs) (suc i) h = ap suc (length_first xs i (omega (arith, h)))

map_next : {A B : Type 0} (f : A → B) (xs : List A) (i : ℕ) (x : A) → i < length xs → x ≡ get_or xs i x
    → map f (take (i + 1) xs) ≡ map f (take i xs) ++ f x ∷ []
map_next f xs i x within is = map_more f xs i x within ∙ ap (λ y. map f (take i xs) ++ f y ∷ []) (sym is)

get_mapped : {A B : Type 0} (f : A → B) (xs : List A) (n : ℕ) → slice_get (map f xs) n ≡ option_map f (slice_get xs n)
get_mapped f [] n = refl
get_mapped f (x ∷ xs) zero = refl
get_mapped f (x ∷ xs) (suc n) = get_mapped f xs n

-- ---- one service more

-- the numbers of the first single services among services, as many as a run has sessions
abbrev pub first_singles : List ServicePart → List ℕ
first_singles ds = take 4096 (singles_from 0 ds)

singles_more : (n : ℕ) (ds : List ServicePart) (d : ServicePart)
    → singles_from n (ds ++ d ∷ []) ≡ singles_from n ds ++
    (if is_concurrent d.execution then [] else (n + length ds) ∷ [])
singles_more n [] d =
    append_nil (if is_concurrent d.execution then [] else n ∷ [])
    ∙ ap (λ k. if is_concurrent d.execution then [] else k ∷ []) (same n)
  where
    same : (n : ℕ) → n ≡ n + 0
    same n = omega arith
singles_more n (e ∷ ds) d =
    ap (λ l. (if is_concurrent e.execution then [] else n ∷ []) ++ l)
    (singles_more (suc n) ds d
    ∙ ap (λ k. singles_from (suc n) ds ++ (if is_concurrent d.execution then [] else k ∷ [])) (same n (length ds)))
    ∙ by (is_concurrent e.execution) (singles_from (suc n) ds)
    (if is_concurrent d.execution then [] else (n + suc (length ds)) ∷ [])
  where
    same : (n l : ℕ) → suc n + l ≡ n + suc l
    same n l = omega arith

    by : (b : Bool) (ys zs : List ℕ)
        → (if b then [] else n ∷ []) ++ (ys ++ zs) ≡ ((if b then [] else n ∷ []) ++ ys) ++ zs
    by true ys zs = refl
    by false ys zs = refl

-- a service whose sessions run beside each other has none from the start
concurrent_more : (ds : List ServicePart) (d : ServicePart) → is_concurrent d.execution ≡ true
    → first_singles (ds ++ d ∷ []) ≡ first_singles ds
concurrent_more ds d h =
    ap (take 4096)
    (singles_more 0 ds d ∙ (λ i. singles_from 0 ds ++ (if h i then [] else (0 + length ds) ∷ []))
    ∙ append_nil (singles_from 0 ds))

-- behind the last session a single service has none
full_more : (ds : List ServicePart) (d : ServicePart) → 4096 ≤ length (first_singles ds)
    → first_singles (ds ++ d ∷ []) ≡ first_singles ds
full_more ds d h =
    ap (take 4096) (singles_more 0 ds d)
    ∙ take_full 4096 (singles_from 0 ds) (if is_concurrent d.execution then [] else (0 + length ds) ∷ []) h

-- a single service has a session
single_more : (ds : List ServicePart) (d : ServicePart) (i : ℕ) → is_concurrent d.execution ≡ false → i ≡ length ds
    → length (first_singles ds) < 4096 → first_singles (ds ++ d ∷ []) ≡ first_singles ds ++ i ∷ []
single_more ds d i h number less =
    ap (take 4096)
    (singles_more 0 ds d ∙ (λ j. singles_from 0 ds ++ (if h j then [] else (zero-add (length ds) ∙ sym number) j ∷ [])))
    ∙ take_room 4096 (singles_from 0 ds) i less

-- ---- what is kept of the first sessions

newborns_more : (parts : ProgramParts) (s : ℕ) (ds : List ℕ) (d : ℕ)
    → newborns_from parts s (ds ++ d ∷ []) ≡ newborns_from parts s ds ++ newborn (s + length ds)
    (numbered_sets parts d) ∷ []
newborns_more parts s [] d = ap (λ n. newborn n (numbered_sets parts d) ∷ []) (same s)
  where
    same : (s : ℕ) → s ≡ s + 0
    same s = omega arith
newborns_more parts s (e ∷ ds) d =
    ap (λ l. newborn s (numbered_sets parts e) ∷ l)
    (newborns_more parts (suc s) ds d
    ∙ ap (λ n. newborns_from parts (suc s) ds ++ newborn n (numbered_sets parts d) ∷ []) (same s (length ds)))
  where
    same : (s l : ℕ) → suc s + l ≡ s + suc l
    same s l = omega arith

born_before : (parts : ProgramParts) (s : ℕ) (ds : List ℕ) (t : ℕ) → s + length ds ≤ t
    → is_born (newborns_from parts s ds) t ≡ false
born_before parts s [] t h = refl
born_before parts s (d ∷ ds) t h =
    λ i. (not_eq s t (differ s (length ds) t h) i || born_before parts (suc s) ds t (fewer s (length ds) t h) i)
  where
    differ : (s l t : ℕ) → s + suc l ≤ t → s ≡ t → ⊥
    differ s l t a b = omega arith

    fewer : (s l t : ℕ) → s + suc l ≤ t → suc s + l ≤ t
    fewer s l t a = omega arith

-- how many sessions are kept
pub sessions_count : (parts : ProgramParts) (ds : List ℕ) (old new : Kept) → OpensFirst parts ds old new
    → length new.sessions ≡ length ds
sessions_count parts ds old new o = ap length o.sessions ∙ length_mapped newborn_row ds

-- the next session was not born yet
pub next_unborn : (parts : ProgramParts) (ds : List ℕ) (old new : Kept) → OpensFirst parts ds old new
    → is_born (sessions_of new.rows) (length new.sessions) ≡ false
next_unborn parts ds old new o =
    (λ i. is_born (o.rows i) (sessions_count parts ds old new o i))
    ∙ born_before parts 0 ds (length ds) (at_end (length ds))
  where
    at_end : (l : ℕ) → 0 + l ≤ l
    at_end l = omega arith

-- one session more is opened
pub opens_more : (parts : ProgramParts) (ds : List ℕ) (d : ℕ) (old mid new : Kept) → OpensFirst parts ds old mid
    → Opens parts (length mid.sessions) d mid new → OpensFirst parts (ds ++ d ∷ []) old new
opens_more parts ds d old mid new first more =
    record {
      sessions = more.sessions ∙ ap (λ l. l ++ newborn_row d ∷ []) first.sessions ∙ sym (map_push newborn_row ds d);
      places = more.places ∙ ap (λ l. l ++ [] ∷ []) first.places ∙ sym (map_push no_calls ds d);
      rows =
          more.rows
          ∙ (λ i. first.rows i ++ newborn ((sessions_count parts ds old mid first ∙ sym (zero-add (length ds))) i)
          (numbered_sets parts d) ∷ [])
          ∙ sym (newborns_more parts 0 ds d);
      others = more.others ∙ ap filled first.others;
    }
  where
    filled : Kept → Kept
    filled k = record k { sessions = new.sessions; places = new.places; rows = new.rows }

-- ---- the loop over the services

-- before the first service none is opened
pub opens_none : (parts : ProgramParts) (k : Kept) → IsEmpty k → OpensFirst parts [] k k
opens_none parts k e = record { sessions = e.sessions; places = e.places; rows = e.rows; others = refl }

full : (n m : ℕ) → nat_lt n 4096 ≡ false → n ≡ m → 4096 ≤ m
full n m h e = grind (arith, nat_tests)

room : (n m : ℕ) → nat_lt n 4096 ≡ true → n ≡ m → m < 4096
room n m h e = grind (arith, nat_tests)

-- a service that has none
turn_off : (parts : ProgramParts) (xs : List Service) (i : ℕ) (x : Service) (old new : Kept) → i < length xs
    → x ≡ get_or xs i x
    → has_session (service_view x) (length new.sessions) ≡ false
    → OpensFirst parts (first_singles (map service_view (take i xs))) old new
    → OpensFirst parts (first_singles (map service_view (take (i + 1) xs))) old new
turn_off parts xs i x old new within is none first = subst (λ ds. OpensFirst parts ds old new) (sym same) first
  where
    front : List ServicePart
    front = map service_view (take i xs)

    by : (b : Bool) → is_concurrent (service_view x).execution ≡ b
        → (not b && nat_lt (length new.sessions) 4096) ≡ false
        → first_singles (front ++ service_view x ∷ []) ≡ first_singles front
    by true e h = concurrent_more front (service_view x) e
    by false e h =
        full_more front (service_view x)
        (full (length new.sessions) (length (first_singles front)) h
        (sessions_count parts (first_singles front) old new first))

    same : first_singles (map service_view (take (i + 1) xs)) ≡ first_singles front
    same =
        ap first_singles (map_next service_view xs i x within is)
        ∙ by (is_concurrent (service_view x).execution) refl none

-- a service that has one
turn_on : (parts : ProgramParts) (xs : List Service) (i : ℕ) (x : Service) (old mid new : Kept)
    → i < length xs → x ≡ get_or xs i x
    → has_session (service_view x) (length mid.sessions) ≡ true
    → OpensFirst parts (first_singles (map service_view (take i xs))) old mid
    → Opens parts (length mid.sessions) i mid new
    → OpensFirst parts (first_singles (map service_view (take (i + 1) xs))) old new
turn_on parts xs i x old mid new within is some first opens =
    subst (λ ds. OpensFirst parts ds old new) (sym same)
    (opens_more parts (first_singles front) i old mid new first opens)
  where
    front : List ServicePart
    front = map service_view (take i xs)

    at_end : i ≡ length front
    at_end = length_first xs i within ∙ sym (length_mapped service_view (take i xs))

    by : (b : Bool) → is_concurrent (service_view x).execution ≡ b → (not b && nat_lt (length mid.sessions) 4096) ≡ true
        → first_singles (front ++ service_view x ∷ []) ≡ first_singles front ++ i ∷ []
    by true e h = absurd (true≢false (sym h))
    by false e h =
        single_more front (service_view x) i e at_end
        (room (length mid.sessions) (length (first_singles front)) h
        (sessions_count parts (first_singles front) old mid first))

    same : first_singles (map service_view (take (i + 1) xs)) ≡ first_singles front ++ i ∷ []
    same =
        ap first_singles (map_next service_view xs i x within is)
        ∙ by (is_concurrent (service_view x).execution) refl some

-- one service more, which has a session from the start or none
pub service_turn : (parts : ProgramParts) (xs : List Service) (i : ℕ) (x : Service) (old mid new : Kept)
    → i < length xs → x ≡ get_or xs i x
    → OpensFirst parts (first_singles (map service_view (take i xs))) old mid
    → (has_session (service_view x) (length mid.sessions) ≡ false → new ≡ mid)
    → (has_session (service_view x) (length mid.sessions) ≡ true → Opens parts (length mid.sessions) i mid new)
    → OpensFirst parts (first_singles (map service_view (take (i + 1) xs))) old new
service_turn parts xs i x old mid new within is first none one =
    by (has_session (service_view x) (length mid.sessions)) refl
  where
    by : (b : Bool) → has_session (service_view x) (length mid.sessions) ≡ b
        → OpensFirst parts (first_singles (map service_view (take (i + 1) xs))) old new
    by true e = turn_on parts xs i x old mid new within is e first (one e)
    by false e =
        subst (OpensFirst parts (first_singles (map service_view (take (i + 1) xs))) old) (sym (none e))
        (turn_off parts xs i x old mid within is e first)

-- all services
pub services_end : (parts : ProgramParts) (xs : List Service) (i : ℕ) (old new : Kept) → length xs ≤ i
    → OpensFirst parts (first_singles (map service_view (take i xs))) old new
    → OpensFirst parts (first_singles (map service_view xs)) old new
services_end parts xs i old new past first =
    subst (λ ys. OpensFirst parts (first_singles (map service_view ys)) old new) (take_all i xs past) first

-- the session of a number is opened, however that is written
pub opens_at : (parts : ProgramParts) (s t d e : ℕ) (old new : Kept) → Opens parts s d old new → s ≡ t → d ≡ e
    → Opens parts t e old new
opens_at parts s t d e old new opens session service =
    subst (λ (p : ℕ × ℕ). Opens parts p.0 p.1 old new) (λ j. (session j, service j)) opens

-- ---- before the first call

none_written : (w : Setting) (s : ℕ) (vs : List Variable) → filter_map (written_first w nothing_yet s) vs ≡ []
none_written w s [] = refl
none_written w s (v ∷ vs) = none_written w s vs

newborns_keyed : (w : Setting) (s : ℕ) (ds : List ℕ) → newborns_from w.parts s ds ≡ keyed_from w nothing_yet s ds
newborns_keyed w s [] = refl
newborns_keyed w s (d ∷ ds) =
    λ i. record {
      number = s;
      sets = numbered_sets w.parts d;
      written = nothing i;
      released = false;
    } ∷ newborns_keyed w (suc s) ds i
  where
    nothing : [] ≡ filter_map (written_first w nothing_yet s) (variables_of w.parts d) ++ []
    nothing =
        sym (append_nil (filter_map (written_first w nothing_yet s) (variables_of w.parts d))
        ∙ none_written w s (variables_of w.parts d))

-- what is kept is tied to what happened before the first call
pub ties_first : (parts : ProgramParts) (services : List ServicePart) (empty k : Kept) → services ≡ parts.services
    → IsEmpty empty
    → OpensFirst parts (first_singles services) empty k → Ties (run_of parts) nothing_yet k
ties_first parts services empty k all e first =
    record {
      messages = ap (λ (x : Kept). x.messages) o.others ∙ e.messages;
      few = omega arith;
      weight = ap (λ (x : Kept). x.weight) o.others ∙ e.weight;
      sessions = λ s.
          ap (λ l. slice_get l s) o.sessions ∙ get_mapped newborn_row ds s
          ∙ ap (λ l. option_map newborn_row (slice_get l s)) (sym (append_nil ds));
      places = λ s.
          ap (λ l. slice_get l s) o.places ∙ get_mapped no_calls ds s
          ∙ ap (λ l. option_map no_calls (slice_get l s)) (sym (append_nil ds));
      boxes = λ s h. ap (λ (x : Kept). box_of x.boxes s) o.others ∙ e.boxes s;
      origins = λ n. ap (λ (x : Kept). origin_of x.book n) o.others ∙ e.origins n;
      standings = λ n m there unhanded. absurd (none_not_some m there);
      keys =
          o.rows ∙ newborns_keyed (run_of parts) 0 ds
          ∙ ap (keyed_from (run_of parts) nothing_yet 0) (sym (append_nil ds));
      sent = ap (λ (x : Kept). x.calls) o.others ∙ e.calls;
      outcomes = λ i. ap (λ (x : Kept). slice_get x.outcomes i) o.others ∙ ap (λ l. slice_get l i) e.outcomes;
      console = ap (λ (x : Kept). x.console) o.others ∙ e.console;
      remote = ap (λ (x : Kept). x.remote) o.others ∙ e.remote;
    }
  where
    ds : List ℕ
    ds = first_singles parts.services

    o : OpensFirst parts ds empty k
    o = subst (λ xs. OpensFirst parts (first_singles xs) empty k) all first
