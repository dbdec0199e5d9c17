-- That the Boolean which tries what the office could give says whether a session can act.
use Rattle.std.proofs.Common.{◌≡◌, ℕ, zero, suc, ◌+◌, Bool, true, false, not, ◌&&◌, ◌||◌, List, [], ◌∷◌, ◌++◌, map, refl, sym, ap, subst, ◌∙◌, Option, None, Some, is_some, true≢false, arith}
use Rattle.std.specs.Prelude.{nat_eq, nat_lt, slice_get, option_and_then, if◌then◌else◌}
use Rattle.std.specs.List.{list_any, list_all}
use Rattle.std.proofs.lemmas.Bool.{false≢true}
use Rattle.std.proofs.lemmas.Bool.Decides.{nat_tests}
use Rattle.jolie_trees.specs.Trees.{void_tree}
use Rattle.behaviour_tree.specs.declared.words.Event.{Event}
use Rattle.behaviour_tree.specs.declared.words.Need.{Need}
use Rattle.behaviour_tree.specs.declared.words.Need.TheVariants as need
use Rattle.behaviour_tree.specs.declared.words.Given.{Given}
use Rattle.behaviour_tree.specs.declared.words.Given.TheVariants as given
use Rattle.behaviour_tree.specs.declared.words.Outcome.TheVariants as outcome
use Rattle.behaviour_tree.specs.Data.{ProgramParts}
use Rattle.behaviour_tree.specs.Distinct.{numbers_differ}
use Rattle.session_calculus.specs.After.{Config, Done, after}
use Rattle.session_calculus.specs.Runs.{TakenStep, Leads, start_of}
use Rattle.session_calculus.specs.Sound.{strands_of}
use Rattle.session_laws.proofs.Asking.{asks_one_thing}
use Rattle.session_laws.proofs.Putting.{strands_differ_in_runs}
use Rattle.office_core.specs.declared.history.Entry.{Entry}
use Rattle.office_core.specs.Limits.{Setting}
use Rattle.office_core.specs.Past.{Past}
use Rattle.office_core.specs.declared.message.Message.{Message}
use Rattle.office_core.specs.Sessions.{service_of, has_ended, is_live}
use Rattle.office_core.specs.Boxes.{numbers_without, taken, queue, box}
use Rattle.office_core.specs.Keys.{first}
use Rattle.office_core.specs.Accepted.{past_of}
use Rattle.run_record.specs.Steps.{calls_of, steps_of, mail}
use Rattle.run_record.specs.Agrees.{Agrees}
use Rattle.run_record.specs.Quiet.{CanAct, is_given}
use Rattle.session_turn.proofs.Fitting.{Suits, fits_gift}
use Rattle.test_trials.specs.Quiet.{below, offers, acts_on, acts_after, leads_from, leads_as, leads_to, can_act}
use Rattle.test_trials.proofs.Standing.{or_right, both_left, both_right, acts_below}

pub same_of : {A : Type 0} (x y : A) → Some x ≡ Some y → x ≡ y
same_of x y h = ap (λ o. elim o [ None ↦ x | Some z ↦ z ]) h

pub none_not_some : {A : Type 0} (x : A) → None ≡ Some x → ⊥
none_not_some x h = true≢false (sym (ap (λ o. elim o [ None ↦ false | Some y ↦ true ]) h))

or_left : (a b : Bool) → a ≡ true → (a || b) ≡ true
or_left true b h = refl
or_left false b h = absurd (false≢true h)

-- the value of an option that is there
value_of : {A : Type 0} (o : Option A) → is_some o ≡ true → (x : A) × (o ≡ Some x)
value_of None h = absurd (false≢true h)
value_of (Some x) h = (x, refl)

-- ---- lists

-- one of two lists
any_first : {A : Type 0} (p : A → Bool) (xs ys : List A) → list_any p xs ≡ true → list_any p (xs ++ ys) ≡ true
any_first p [] ys h = absurd (false≢true h)
any_first p (x ∷ xs) ys h = by (p x) refl h (any_first p xs ys)
  where
    by : (b : Bool) → p x ≡ b → (b || list_any p xs) ≡ true → (list_any p xs ≡ true → list_any p (xs ++ ys) ≡ true)
        → (p x || list_any p (xs ++ ys)) ≡ true
    by true e h rest = or_left (p x) (list_any p (xs ++ ys)) e
    by false e h rest = or_right (p x) (list_any p (xs ++ ys)) (rest h)

any_last : {A : Type 0} (p : A → Bool) (xs ys : List A) → list_any p ys ≡ true → list_any p (xs ++ ys) ≡ true
any_last p [] ys h = h
any_last p (x ∷ xs) ys h = or_right (p x) (list_any p (xs ++ ys)) (any_last p xs ys h)

-- a number is below another, or it is its last
last_or_below : (n m : ℕ) (p : ℕ → Bool) → nat_lt n (suc m) ≡ true → p n ≡ true
    → (nat_lt n m ≡ true → list_any p (below m) ≡ true) → list_any p (below m ++ m ∷ []) ≡ true
last_or_below n m p h k rest = by (nat_lt n m) refl
  where
    last : (n m : ℕ) → nat_lt n (suc m) ≡ true → nat_lt n m ≡ false → m ≡ n
    last n m h e = grind (arith, nat_tests)

    by : (b : Bool) → nat_lt n m ≡ b → list_any p (below m ++ m ∷ []) ≡ true
    by true e = any_first p (below m) (m ∷ []) (rest e)
    by false e = any_last p (below m) (m ∷ []) (or_left (p m) false (ap p (last n m h e) ∙ k))

-- what holds of a number below another is found
any_below : (p : ℕ → Bool) (n m : ℕ) → nat_lt n m ≡ true → p n ≡ true → list_any p (below m) ≡ true
any_below p n zero h k = absurd (none_below n h)
  where
    none_below : (n : ℕ) → nat_lt n 0 ≡ true → ⊥
    none_below n h = grind (arith, nat_tests)
any_below p n (suc m) h k = last_or_below n m p h k (λ l. any_below p n m l k)

-- what is found in a list
found : {A : Type 0} (p : A → Bool) (xs : List A) → list_any p xs ≡ true → (x : A) × (p x ≡ true)
found p [] h = absurd (false≢true h)
found {A} p (x ∷ xs) h = by (p x) refl h (found p xs)
  where
    by : (b : Bool) → p x ≡ b → (b || list_any p xs) ≡ true → (list_any p xs ≡ true → (y : A) × (p y ≡ true))
        → (y : A) × (p y ≡ true)
    by true e h rest = (x, e)
    by false e h rest = rest h

-- ---- what is offered

-- a message of one of the operations that waits is offered
offers_mail : (gone : List ℕ) (s : ℕ) (ops : List ℕ) (look : ℕ → Option Message) (q : Given → Bool)
    → ((n : ℕ) (m : Message) → list_any (nat_eq m.op) ops ≡ true → q (given.Mail n m.op m.value) ≡ true)
    → (k : ℕ) (ms : List Message) → ((i : ℕ) → look (i + k) ≡ slice_get ms i)
    → is_some (first (numbers_without gone (λ m. nat_eq s m.session && list_any (nat_eq m.op) ops) k ms)) ≡ true
    → list_any q (map (λ n. mail n (look n)) (numbers_without gone (λ m. nat_eq s m.session) k ms)) ≡ true
offers_mail gone s ops look q suits k [] at h = absurd (false≢true h)
offers_mail gone s ops look q suits k (m ∷ ms) at h =
    by (nat_eq s m.session) (list_any (nat_eq m.op) ops) refl (list_any (nat_eq k) gone) h
    (offers_mail gone s ops look q suits (suc k) ms (λ i. ap look (moved_on i k) ∙ at (suc i)))
  where
    moved_on : (i k : ℕ) → i + suc k ≡ suc i + k
    moved_on i k = omega arith

    zero_first : (k : ℕ) → 0 + k ≡ k
    zero_first k = omega arith

    rest : List ℕ
    rest = numbers_without gone (λ m. nat_eq s m.session && list_any (nat_eq m.op) ops) (suc k) ms

    others : List ℕ
    others = numbers_without gone (λ m. nat_eq s m.session) (suc k) ms

    offered : ℕ → Given
    offered n = mail n (look n)

    by : (a o : Bool) → list_any (nat_eq m.op) ops ≡ o → (g : Bool)
        → is_some (first ((if (a && o) && not g then k ∷ [] else []) ++ rest)) ≡ true
        → (is_some (first rest) ≡ true → list_any q (map offered others) ≡ true)
        → list_any q (map offered ((if a && not g then k ∷ [] else []) ++ others)) ≡ true
    by true true e false l later =
        or_left (q (offered k)) (list_any q (map offered others)) (ap (λ x. q (mail k x)) (ap look (sym (zero_first k)) ∙ at 0) ∙ suits k m e)
    by true false e false l later = or_right (q (offered k)) (list_any q (map offered others)) (later l)
    by true true e true l later = later l
    by true false e true l later = later l
    by false true e true l later = later l
    by false true e false l later = later l
    by false false e true l later = later l
    by false false e false l later = later l

-- where the history has what is asked for, a gift that suits it is offered
offers_suit : (w : Setting) (past : Past) (s : ℕ) (n : Need) (q : Given → Bool) → is_given w past s n ≡ true
    → ((g : Given) → Suits n g → q g ≡ true) → list_any q (offers past s) ≡ true
offers_suit w past s n q h suits = by n h suits
  where
    mails : Bool
    mails = list_any q (map (λ k. mail k (slice_get past.messages k)) (box past s))

    third : Bool
    third = q (given.Answer (outcome.Value void_tree)) || mails

    nothing : q given.Nothing ≡ true → list_any q (offers past s) ≡ true
    nothing e = or_left (q given.Nothing) (q given.Bound || third) e

    zero_more : (i : ℕ) → i + 0 ≡ i
    zero_more i = omega arith

    by : (n : Need) → is_given w past s n ≡ true → ((g : Given) → Suits n g → q g ≡ true)
        → list_any q (offers past s) ≡ true
    by need.Nothing h f = nothing (f given.Nothing tt)
    by (need.Take ops) h f =
        or_right (q given.Nothing) (q given.Bound || third)
        (or_right (q given.Bound) third
        (or_right (q (given.Answer (outcome.Value void_tree))) mails
        (offers_mail (taken past) s ops (slice_get past.messages) q (λ n m e. f (given.Mail n m.op m.value) e) 0 past.messages
        (λ i. ap (slice_get past.messages) (zero_more i)) h)))
    by (need.Answer k) h f =
        or_right (q given.Nothing) (q given.Bound || third)
        (or_right (q given.Bound) third
        (or_left (q (given.Answer (outcome.Value void_tree))) mails (f (given.Answer (outcome.Value void_tree)) tt)))
    by (need.Bind v x) h f =
        or_right (q given.Nothing) (q given.Bound || third) (or_left (q given.Bound) third (f given.Bound tt))
    by (need.Reply m o) h f = nothing (f given.Nothing tt)
    by (need.Send k port op v wants) h f = nothing (f given.Nothing tt)
    by need.Finish h f = nothing (f given.Nothing tt)

-- ---- a strand

-- what a strand does, by what comes after
abbrev acts_by : (w : Setting) (past : Past) (s : ℕ) → Option Done → Bool
acts_by w past s o = elim o [ None ↦ false | Some k ↦ is_given w past s k.need ]

-- a strand that has an event for which the history has what it asks is found
strand_acts : (w : Setting) (past : Past) (s d : ℕ) (c : Config) (n : ℕ) (g : Given) (k : Done)
    → service_of w past s ≡ Some d → list_all (λ m. nat_lt m c.next) (0 ∷ strands_of c.form) ≡ true
    → after w.parts d c n g ≡ Some k → is_given w past s k.need ≡ true → acts_after w past s c ≡ true
strand_acts w past s d c n g k born low event there =
    any_below (λ n. list_any (λ g. acts_on w past s c (n, g)) (offers past s)) n c.next
    (acts_below w.parts d c n g low (ap is_some event))
    (offers_suit w past s k.need (λ g. acts_on w past s c (n, g)) there (λ h suits. acts h suits))
  where
    acts : (h : Given) → Suits k.need h → acts_on w past s c (n, h) ≡ true
    acts h suits =
        let other = value_of (after w.parts d c n h) (fits_gift w.parts d c n g k event h suits) in
        ap (λ o. elim o [ None ↦ false | Some e ↦ acts_by w past s (after w.parts e c n h) ]) born
        ∙ ap (acts_by w past s) other.1
        ∙ ap (is_given w past s) (asks_one_thing w.parts d c n h g other.0 k other.1 event)
        ∙ there

-- ---- where events lead

leads_is : (parts : ProgramParts) (d : ℕ) (from to : Config) (steps : List TakenStep) → Leads parts d from steps to
    → leads_from parts d from steps ≡ Some to
leads_is parts d from to [] l = ap Some l
leads_is parts d from to (s ∷ steps) l =
    ap (λ o. elim o [ None ↦ None | Some k ↦ leads_from parts d k.config steps ]) l.1
    ∙ leads_is parts d l.0.config to steps l.3

-- events that agree lead to where they end
leads_there : (w : Setting) (h : List Entry) (s : ℕ) (events : List Event) (last : Config) → Agrees w h s events last
    → leads_to w h s events ≡ Some last
leads_there w h s events last a =
    ap (option_and_then (leads_as w h s events)) a.born
    ∙ ap (option_and_then (λ c. leads_from w.parts a.service c (steps_of events (calls_of w h s)))) a.run.1
    ∙ leads_is w.parts a.service a.run.0 last (steps_of events (calls_of w h s)) a.run.2

-- a session can act by whether it ended, and where its events lead
abbrev can_act_by : (w : Setting) (h : List Entry) (s : ℕ) → Bool → Option Config → Bool
can_act_by w h s ended o =
    elim ended [ true ↦ false | false ↦ elim o [ None ↦ false | Some c ↦ acts_after w (past_of w h) s c ] ]

not_true : (b : Bool) → not b ≡ true → b ≡ false
not_true true h = sym h
not_true false h = refl

-- a session that can act is found to
pub finds_acting : (w : Setting) (h : List Entry) (s : ℕ) (events : List Event) → CanAct w h s events
    → can_act w h s events ≡ true
finds_acting w h s events x =
    let past = past_of w h in
    let runs = not_true (has_ended past s) (both_right (is_some (service_of w past s)) (not (has_ended past s)) x.acts.live) in
    (λ i. can_act_by w h s (runs i) (leads_there w h s events x.last x.agrees i))
    ∙ strand_acts w past s x.agrees.service x.last x.acts.strand x.acts.gift x.acts.done x.agrees.born
    (both_right (numbers_differ (0 ∷ strands_of x.last.form)) (list_all (λ m. nat_lt m x.last.next) (0 ∷ strands_of x.last.form))
    (strands_differ_in_runs w.parts x.agrees.service (steps_of events (calls_of w h s)) x.last x.agrees.run))
    x.acts.event x.acts.given

-- a session that is found to can act, where its events agree with the history
pub acting_is_found : (w : Setting) (h : List Entry) (s : ℕ) (events : List Event) (last : Config)
    → Agrees w h s events last → can_act w h s events ≡ true → CanAct w h s events
acting_is_found w h s events last a found_so = by (has_ended past s) refl found_so
  where
    past : Past
    past = past_of w h

    acts_so_by : (o : Option Done) → acts_by w past s o ≡ true → (k : Done) × (o ≡ Some k) × (is_given w past s k.need ≡ true)
    acts_so_by None e = absurd (false≢true e)
    acts_so_by (Some k) e = (k, refl, e)

    acting : has_ended past s ≡ false → acts_after w past s last ≡ true → CanAct w h s events
    acting runs e =
        let n = found (λ n. list_any (λ g. acts_on w past s last (n, g)) (offers past s)) (below last.next) e in
        let g = found (λ g. acts_on w past s last (n.0, g)) (offers past s) n.1 in
        let k = acts_so_by (after w.parts a.service last n.0 g.0)
        (sym (ap (λ o. elim o [ None ↦ false | Some e ↦ acts_by w past s (after w.parts e last n.0 g.0) ]) a.born) ∙ g.1) in
        record {
          last = last;
          agrees = a;
          acts = record {
            live = λ i. is_some (a.born i) && not (runs i);
            strand = n.0;
            gift = g.0;
            done = k.0;
            event = k.1;
            given = k.2;
          };
        }

    by : (ended : Bool) → has_ended past s ≡ ended → can_act_by w h s ended (leads_to w h s events) ≡ true → CanAct w h s events
    by true e l = absurd (false≢true l)
    by false e l = acting e (sym (ap (can_act_by w h s false) (leads_there w h s events last a)) ∙ l)
