-- The steps of a session that lives, and what the laws of runs say of them.
use Rattle.std.proofs.Common.{◌≡◌, ℕ, zero, ◌+◌, ◌≤◌, Bool, true, false, cond, not, ◌&&◌, ◌||◌, List, [], ◌∷◌, ◌++◌, Option, Some, None, nat_eq, count_by, refl, sym, ap, subst, ◌∙◌, arith}
use Rattle.std.specs.List.{list_any, filter_map}
use Rattle.std.proofs.Math.Bool.{or-false}
use Rattle.std.proofs.lemmas.Bool.{false≢true, and_parts, eqb-true, or_parts}
use Rattle.std.proofs.lemmas.Option.{none-some}
use Rattle.std.proofs.lemmas.List.{append-nil}
use Rattle.std.proofs.lemmas.List.Folds.{list_any-append}
use Rattle.std.proofs.lemmas.List.Sums.{sum_by-append, sum_by-cons}
use Rattle.behaviour_tree.specs.declared.words.Kind.{Kind}
use Rattle.behaviour_tree.specs.declared.words.Kind.TheVariants as kind
use Rattle.behaviour_tree.specs.declared.words.Event.{Event}
use Rattle.behaviour_tree.specs.declared.words.Need.{Need}
use Rattle.behaviour_tree.specs.declared.words.Need.TheVariants as need
use Rattle.behaviour_tree.specs.declared.words.Given.{Given}
use Rattle.behaviour_tree.specs.Data.{ProgramParts}
use Rattle.session_calculus.specs.After.{Config, Done, after}
use Rattle.session_calculus.specs.Runs.{TakenStep, Leads}
use Rattle.session_laws.proofs.Counting.{once}
use Rattle.office_core.specs.declared.history.Act.{Act}
use Rattle.office_core.specs.declared.history.Act.TheVariants as act
use Rattle.office_core.specs.declared.history.Entry.{Entry}
use Rattle.office_core.specs.Past.{Past}
use Rattle.office_core.specs.Sessions.{adopts, ends, service_of}
use Rattle.office_core.specs.Boxes.{queue, taken_in, takes}
use Rattle.office_core.specs.Keys.{first}
use Rattle.run_record.specs.Agrees.{IsCall}
use Rattle.session_turn.specs.Seen.{Seat, by_session, past_at}
use Rattle.session_turn.specs.Lives.{Gives, Lives, by_call, by_event, by_other, fresh, nothing}
use Rattle.session_turn.proofs.Giving.{number_taken}
use Rattle.session_turn.proofs.Histories.{IsOwn, any_last, entries_of, foreign-last, own-ends, own-takes, quiet-own, service_stays, some_of}
use Rattle.session_turn.proofs.Matching.{Matches, at_kind, matches-own, matches-taken, step_of}
use Rattle.session_turn.proofs.Telling.{Ends, is_told}

-- the steps of a session that lives
abbrev pub steps : {a : Seat} {service : ℕ} {from : Config} {h : List Entry} {es : List Event} {c : Config}
    → Lives a service from h es c → List TakenStep
steps (fresh h f) = []
steps (by_other h es c e l k) = steps l
steps (by_event h es c g d own l e k) = steps l ++ step_of d.event g ∷ []

-- ---- they are a run

pub leads-on : (parts : ProgramParts) (service : ℕ) (from : Config) (xs : List TakenStep) (here : Config) (x : TakenStep) (d : Done)
    → Leads parts service from xs here → after parts service here x.event.strand x.gift ≡ Some d → d.event ≡ x.event
    → Leads parts service from (xs ++ x ∷ []) d.config
leads-on parts service from [] here x d l e f =
    (d, subst (λ (c : Config). after parts service c x.event.strand x.gift ≡ Some d) (sym l) e, f, refl)
leads-on parts service from (y ∷ xs) here x d l e f =
    (l.0, l.1, l.2, leads-on parts service l.0.config xs here x d l.3 e f)

pub leads : {a : Seat} {service : ℕ} {from : Config} {h : List Entry} {es : List Event} {c : Config}
    → (l : Lives a service from h es c)
    → Leads a.setting.parts service from (steps l) c
leads (fresh h f) = refl
leads (by_other h es c e l k) = leads l
leads {a} {service} {from} (by_event h es c g d own l e k) =
    leads-on a.setting.parts service from (steps l) c (step_of d.event g) d (leads l) e refl

-- ---- what the session did, in its entries and in its steps

-- whether there is a step of a kind with a number
abbrev pub some_step : Kind → ℕ → List TakenStep → Bool
some_step j m xs = list_any (λ x. at_kind j x.event.kind (nat_eq m x.event.number)) xs

-- a test of entries that matches one of steps
pub matched : {a : Seat} {service : ℕ} {from : Config} {h : List Entry} {es : List Event} {c : Config} {f : Entry → Bool}
    {j : Kind} {m : ℕ}
    → Matches a.session f j m → IsOwn a.session f → (l : Lives a service from h es c)
    → list_any f h ≡ some_step j m (steps l)
matched {a} {f = f} x own (fresh h r) = quiet-own a.setting a.session h f own r.quiet
matched {a} {f = f} x own (by_other h es c e l k) = foreign-last a.session f h e own k ∙ matched x own l
matched {a} {service} {f = f} {j = j} {m = m} x own (by_event h es c g d mine l e k) =
    let t = is_told a.setting.parts service c d.event.strand g d e in
    list_any-append f h mine ∙ ap (λ b. b || list_any f mine) (matched x own l)
    ∙ ap (λ b. some_step j m (steps l) || b) (matches-own x d.event k t.tells)
    ∙ sym (any_last (λ y. at_kind j y.event.kind (nat_eq m y.event.number)) (steps l) (step_of d.event g))

-- ---- it was adopted, and it did not end before its last event

or-left : (b c : Bool) → b ≡ true → (b || c) ≡ true
or-left true c h = refl
or-left false c h = absurd (false≢true h)

any-more : {X : Type 0} (f : X → Bool) (xs ys : List X) → list_any f xs ≡ true → list_any f (xs ++ ys) ≡ true
any-more f xs ys h = list_any-append f xs ys ∙ or-left (list_any f xs) (list_any f ys) h

pub was_adopted_here : {a : Seat} {service : ℕ} {from : Config} {h : List Entry} {es : List Event} {c : Config}
    → Lives a service from h es c
    → list_any (adopts a.session) h ≡ true
was_adopted_here {a} (fresh h f) = sym (some_of a.setting h (adopts a.session)) ∙ f.adopted
was_adopted_here {a} (by_other h es c e l k) = any-more (adopts a.session) h (e ∷ []) (was_adopted_here l)
was_adopted_here {a} (by_event h es c g d own l e k) = any-more (adopts a.session) h own (was_adopted_here l)

ends-call : (s : ℕ) (past : Past) (n : Need) (call : Act) (b b' : Bool) → IsCall s n past call → Ends b n b'
    → ends s (record { actor = s; act = call }) ≡ true → b' ≡ true
ends-call s past need.Finish act.End b b' c t h = t
ends-call s past (need.Take ops) (act.Take i) b b' c t h = absurd (false≢true h)
ends-call s past (need.Answer k) (act.Answer l o) b b' c t h = absurd (false≢true h)
ends-call s past (need.Bind v x) (act.Bind u y r) b b' c t h = absurd (false≢true h)
ends-call s past (need.Reply i o) (act.Reply l q) b b' c t h = absurd (false≢true h)
ends-call s past (need.Send k port op v w) (act.Send l q p u w' r) b b' c t h = absurd (false≢true h)
ends-call s past n call b b' c t h = absurd c

ends-own : {a : Seat} {h : List Entry} {n : Need} {g : Given} {own : List Entry} (b b' : Bool) → Gives a h n g own
    → Ends b n b' → list_any (ends a.session) own ≡ true → b' ≡ true
ends-own b b' nothing t e = absurd (false≢true e)
ends-own {a} {h} b b' (by_call n g call k) t e =
    ends-call a.session (past_at a h) n call b b' k.is_call t (sym (or-false (ends a.session (by_session a call))) ∙ e)

pub not-ended : (b : Bool) (o : Option Done) (d : Done) → ◌≡◌ {A = Option Done} (elim b [ true ↦ None | false ↦ o ]) (Some d)
    → b ≡ true → ⊥
not-ended true o d e h = none-some d e
not-ended false o d e h = false≢true h

ended-last : (c now x y : Bool) → (c ≡ true → ⊥) → (x ≡ true → c ≡ true)
    → (y ≡ true → now ≡ true) → (x || y) ≡ true → now ≡ true
ended-last c now true y going before last t = absurd (going (before refl))
ended-last c now false true going before last t = last refl
ended-last c now false false going before last t = absurd (false≢true t)

-- a session whose entries have its end has ended
pub has_ended_here : {a : Seat} {service : ℕ} {from : Config} {h : List Entry} {es : List Event} {c : Config}
    → Lives a service from h es c
    → list_any (ends a.session) h ≡ true → c.ended ≡ true
has_ended_here {a} (fresh h f) e =
    absurd (false≢true (sym (quiet-own a.setting a.session h (ends a.session) (own-ends a.session) f.quiet) ∙ e))
has_ended_here {a} (by_other h es c x l k) e =
    has_ended_here l (sym (foreign-last a.session (ends a.session) h x (own-ends a.session) k) ∙ e)
has_ended_here {a} {service} (by_event h es c g d own l e k) t =
    let told = is_told a.setting.parts service c d.event.strand g d e in
    ended-last c.ended d.config.ended (list_any (ends a.session) h) (list_any (ends a.session) own)
    (not-ended c.ended _ d e) (has_ended_here l)
    (ends-own c.ended d.config.ended k told.ends)
    (sym (list_any-append (ends a.session) h own) ∙ t)

-- it is of its service
service-own : {a : Seat} {h : List Entry} {n : Need} {g : Given} {own : List Entry} (d : ℕ) → Gives a h n g own
    → service_of a.setting (past_at a h) a.session ≡ Some d
    → service_of a.setting (past_at a (h ++ own)) a.session ≡ Some d
service-own {a} {h} d nothing e =
    subst (λ (x : List Entry). service_of a.setting (past_at a x) a.session ≡ Some d) (sym (append-nil h)) e
service-own {a} {h} d (by_call n g call k) e = service_stays a.setting h (by_session a call) a.session d e

pub born_here : {a : Seat} {service : ℕ} {from : Config} {h : List Entry} {es : List Event} {c : Config}
    → Lives a service from h es c
    → service_of a.setting (past_at a h) a.session ≡ Some service
born_here (fresh h f) = f.born
born_here {a} {service} (by_other h es c e l k) = service_stays a.setting h e a.session service (born_here l)
born_here {service = service} (by_event h es c g d own l e k) = service-own service k (born_here l)

-- ---- no message comes in twice

-- how often a number stands with a kind
abbrev pub times_step : Kind → ℕ → List TakenStep → ℕ
times_step j m xs = count_by (λ x. at_kind j x.event.kind (nat_eq m x.event.number)) xs

both-zero : (all x y : ℕ) → all ≡ x + y → x ≡ 0 → y ≡ 0 → all ≡ 0
both-zero all x y e f g = omega (arith, e, f, g)

pub none-counts : {X : Type 0} (f : X → Bool) (xs : List X) → list_any f xs ≡ false → count_by f xs ≡ 0
none-counts f [] e = refl
none-counts f (x ∷ xs) e =
    let p = or_parts (f x) (list_any f xs) e in
    both-zero (count_by f (x ∷ xs)) (cond (f x) 1 0) (count_by f xs) (sum_by-cons (λ y. cond (f y) 1 0) x xs)
    (ap once p.0) (none-counts f xs p.1)

some-count : (here all rest : ℕ) (b : Bool) (more : Bool) → here ≡ cond b 1 0 → all ≡ here + rest → (b || more) ≡ true
    → (more ≡ true → 1 ≤ rest)
    → 1 ≤ all
some-count here all rest true more e f t h = omega (arith, e, f)
some-count here all rest false more e f t h = let later = h t in omega (arith, f, later)

pub some-counts : {X : Type 0} (f : X → Bool) (xs : List X) → list_any f xs ≡ true → 1 ≤ count_by f xs
some-counts f [] e = absurd (false≢true e)
some-counts f (x ∷ xs) e =
    some-count (cond (f x) 1 0) (count_by f (x ∷ xs)) (count_by f xs) (f x) (list_any f xs) refl
    (sum_by-cons (λ y. cond (f y) 1 0) x xs) e
    (some-counts f xs)

last-sum : (all before last here : ℕ) → all ≡ before + last → last ≡ here + 0 → all ≡ before + here
last-sum all before last here e f = omega (arith, e, f)

-- how often with one more at the end
pub count-last : {X : Type 0} (f : X → Bool) (xs : List X) (x : X)
    → count_by f (xs ++ x ∷ []) ≡ count_by f xs + cond (f x) 1 0
count-last f xs x =
    last-sum (count_by f (xs ++ x ∷ [])) (count_by f xs) (count_by f (x ∷ [])) (cond (f x) 1 0)
    (sum_by-append (λ y. cond (f y) 1 0) xs (x ∷ [])) (sum_by-cons (λ y. cond (f y) 1 0) x [])

pub count-no : (n : ℕ) (b : Bool) → b ≡ false → n + cond b 1 0 ≡ n
count-no n false e = omega arith
count-no n true e = absurd (false≢true (sym e))

pub count-yes : (n : ℕ) (b : Bool) → b ≡ true → n + cond b 1 0 ≡ n + 1
count-yes n true e = refl
count-yes n false e = absurd (false≢true e)

-- a message that a session took was taken
taken-here : (s m n : ℕ) (c : Act) (rest : List Entry)
    → (list_any (takes s m) rest ≡ true → list_any (nat_eq m) (filter_map taken_in rest) ≡ true)
    → (takes s m (record { actor = n; act = c }) || list_any (takes s m) rest) ≡ true
    → list_any (nat_eq m) (filter_map taken_in (record { actor = n; act = c } ∷ rest)) ≡ true
taken-here s m n (act.Take i) rest later e =
    by_number (nat_eq s n) (nat_eq m i) (list_any (takes s m) rest) (list_any (nat_eq m) (filter_map taken_in rest)) e later
  where
    by_number : (p q r t : Bool) → (p && q || r) ≡ true → (r ≡ true → t ≡ true) → (q || t) ≡ true
    by_number p true r t e f = refl
    by_number true false r t e f = f e
    by_number false false r t e f = f e
taken-here s m n c rest later e = later e

any-taken : (s m : ℕ) (h : List Entry) → list_any (takes s m) h ≡ true → list_any (nat_eq m) (filter_map taken_in h) ≡ true
any-taken s m [] e = absurd (false≢true e)
any-taken s m (x ∷ h) e = taken-here s m x.actor x.act h (any-taken s m h) e

-- what an input takes was not taken before
taken-call-once : (a : Seat) (h : List Entry) (ops : List ℕ) (i m : ℕ)
    → Some i ≡ first (queue (past_at a h) a.session ops)
    → (nat_eq a.session a.session && nat_eq m i || false) ≡ true → list_any (takes a.session m) h ≡ false
taken-call-once a h ops i m first t = go (list_any (takes a.session m) h) refl
  where
    same : m ≡ i
    same = eqb-true m i (and_parts (nat_eq a.session a.session) (nat_eq m i) (sym (or-false (nat_eq a.session a.session && nat_eq m i)) ∙ t)).1

    stays : list_any (nat_eq i) (filter_map taken_in h) ≡ false
    stays = subst (λ (xs : List Entry). list_any (nat_eq i) (filter_map taken_in xs) ≡ false) (entries_of a.setting h) (number_taken a h ops i first).stays

    go : (b : Bool) → list_any (takes a.session m) h ≡ b → b ≡ false
    go false e = refl
    go true e =
        absurd (false≢true (sym stays ∙ subst (λ (n : ℕ). list_any (nat_eq n) (filter_map taken_in h) ≡ true) same (any-taken a.session m h e)))

taken-own : (a : Seat) (h : List Entry) (m : ℕ) (n : Need) (call : Act) → IsCall a.session n (past_at a h) call
    → list_any (takes a.session m) (by_session a call ∷ []) ≡ true → list_any (takes a.session m) h ≡ false
taken-own a h m (need.Take ops) (act.Take i) c t = taken-call-once a h ops i m c t
taken-own a h m need.Finish act.End c t = absurd (false≢true t)
taken-own a h m (need.Answer k) (act.Answer l o) c t = absurd (false≢true t)
taken-own a h m (need.Bind v x) (act.Bind u y r) c t = absurd (false≢true t)
taken-own a h m (need.Reply i o) (act.Reply l q) c t = absurd (false≢true t)
taken-own a h m (need.Send k port op v w) (act.Send l q p u w' r) c t = absurd (false≢true t)
taken-own a h m n call c t = absurd c

taken-once : {a : Seat} {h : List Entry} {n : Need} {g : Given} {own : List Entry} (m : ℕ) → Gives a h n g own
    → list_any (takes a.session m) own ≡ true → list_any (takes a.session m) h ≡ false
taken-once m nothing t = absurd (false≢true t)
taken-once {a} {h} m (by_call n g call k) t = taken-own a h m n call k.is_call t

once-more : (before all : ℕ) (b : Bool) → all ≡ before + cond b 1 0 → before ≤ 1 → (b ≡ true → before ≡ 0) → all ≤ 1
once-more before all true e f g = let none = g refl in omega (arith, e, none)
once-more before all false e f g = omega (arith, e, f)

-- no message comes in twice
pub comes_once : {a : Seat} {service : ℕ} {from : Config} {h : List Entry} {es : List Event} {c : Config}
    → (l : Lives a service from h es c) → (m : ℕ)
    → times_step kind.In m (steps l) ≤ 1
comes_once (fresh h f) m = omega arith
comes_once (by_other h es c e l k) m = comes_once l m
comes_once {a} {service} (by_event h es c g d own l e k) m =
    let told = is_told a.setting.parts service c d.event.strand g d e in
    let f : TakenStep → Bool = λ y. at_kind kind.In y.event.kind (nat_eq m y.event.number) in
    once-more (times_step kind.In m (steps l)) (times_step kind.In m (steps l ++ step_of d.event g ∷ []))
    (at_kind kind.In d.event.kind (nat_eq m d.event.number))
    (count-last f (steps l) (step_of d.event g)) (comes_once l m)
    (λ q. none-counts f (steps l)
    (sym (matched (matches-taken a.session m) (own-takes a.session m) l)
    ∙ taken-once m k (matches-own (matches-taken a.session m) d.event k told.tells ∙ q)))
