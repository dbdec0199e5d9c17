-- The events of a session that lives agree with the history that it sees.
use Rattle.std.proofs.Common.{◌≡◌, ℕ, Bool, true, false, List, [], ◌∷◌, ◌++◌, drop, Option, None, Some, nat_eq, refl, sym, ap, subst, ◌∙◌, eq-eqb}
use Rattle.std.proofs.lemmas.List.{append-nil}
use Rattle.behaviour_tree.specs.declared.words.Kind.TheVariants as kind
use Rattle.behaviour_tree.specs.declared.words.Event.{Event}
use Rattle.behaviour_tree.specs.declared.words.Need.{Need}
use Rattle.behaviour_tree.specs.declared.words.Need.TheVariants as need
use Rattle.behaviour_tree.specs.declared.words.Given.{Given}
use Rattle.behaviour_tree.specs.declared.words.Given.TheVariants as given
use Rattle.behaviour_tree.specs.Data.{ProgramParts}
use Rattle.session_calculus.specs.After.{Config, Done, after}
use Rattle.session_calculus.specs.Runs.{Leads, TakenStep}
use Rattle.office_core.specs.declared.history.Act.{Act}
use Rattle.office_core.specs.declared.history.Act.TheVariants as act
use Rattle.office_core.specs.declared.history.Entry.{Entry}
use Rattle.office_core.specs.Limits.{Setting}
use Rattle.office_core.specs.Past.{Past, nothing_yet}
use Rattle.office_core.specs.Accepted.{then_all, then_one}
use Rattle.office_core.specs.Keys.{first}
use Rattle.run_record.specs.Steps.{Called, calls_after, calls_of, gift_by, gift_of, is_call_of, makes_call, steps_of}
use Rattle.run_record.specs.Agrees.{Agrees, AreCalls, IsCall, asked_by, asked_from, asked_of}
use Rattle.session_turn.specs.Seen.{Seat, by_session, past_at}
use Rattle.session_turn.specs.Lives.{Gives, IsGiven, Kept, Lives, Moment, by_call, by_event, by_other, fresh, nothing}
use Rattle.session_turn.proofs.Histories.{foreign-call}
use Rattle.session_turn.proofs.Matching.{step_of}
use Rattle.session_turn.proofs.Telling.{Tells, is_told}
use Rattle.session_turn.proofs.Walking.{born_here, leads, steps}

-- ---- the calls of a longer history

-- a call more, where an entry is one
abbrev call_if : Bool → Past → Act → List Called
call_if true past call = record { before = past; act = call } ∷ []
call_if false past call = []

calls-last : (w : Setting) (s : ℕ) (past : Past) (h : List Entry) (e : Entry)
    → calls_after w s past (h ++ e ∷ []) ≡ calls_after w s past h ++ call_if (is_call_of s e) (then_all w past h) e.act
calls-last w s past [] e = go (is_call_of s e)
  where
    go : (b : Bool)
        → ◌≡◌ {A = List Called}
        (elim b [ true ↦ record { before = past; act = e.act } ∷ [] | false ↦ [] ])
        (call_if b past e.act)
    go true = refl
    go false = refl
calls-last w s past (x ∷ h) e = go (is_call_of s x) (calls-last w s (then_one w past x) h e)
  where
    go : (b : Bool)
        → calls_after w s (then_one w past x) (h ++ e ∷ [])
        ≡ calls_after w s (then_one w past x) h ++ call_if (is_call_of s e) (then_all w (then_one w past x) h) e.act
        → ◌≡◌ {A = List Called}
        (elim b [
          | true ↦ record { before = past; act = x.act } ∷ calls_after w s (then_one w past x) (h ++ e ∷ [])
          | false ↦ calls_after w s (then_one w past x) (h ++ e ∷ [])
        ])
        ((elim b as (λ _. List Called) [
          | true ↦ record { before = past; act = x.act } ∷ calls_after w s (then_one w past x) h
          | false ↦ calls_after w s (then_one w past x) h
        ]) ++ call_if (is_call_of s e) (then_all w (then_one w past x) h) e.act)
    go true r = ap (λ (cs : List Called). record { before = past; act = x.act } ∷ cs) r
    go false r = r

-- the call of an event is a call of the session
is-own-call : (s : ℕ) (past : Past) (n : Need) (call : Act) → IsCall s n past call
    → is_call_of s (record { actor = s; act = call }) ≡ true
is-own-call s past (need.Take ops) (act.Take i) c = eq-eqb s s refl
is-own-call s past (need.Answer k) (act.Answer l o) c = eq-eqb s s refl
is-own-call s past (need.Bind v x) (act.Bind u y r) c = eq-eqb s s refl
is-own-call s past (need.Reply i o) (act.Reply l q) c = eq-eqb s s refl
is-own-call s past (need.Send k port op v w) (act.Send l q p u w' r) c = eq-eqb s s refl
is-own-call s past need.Finish act.End c = eq-eqb s s refl
is-own-call s past n call c = absurd c

calls-own : (a : Seat) (h : List Entry) (n : Need) (call : Act) → IsCall a.session n (past_at a h) call
    → calls_of a.setting (h ++ by_session a call ∷ []) a.session
    ≡ calls_of a.setting h a.session ++ record { before = past_at a h; act = call } ∷ []
calls-own a h n call c =
    calls-last a.setting a.session nothing_yet h (by_session a call)
    ∙ ap (λ b. calls_of a.setting h a.session ++ call_if b (past_at a h) call) (is-own-call a.session (past_at a h) n call c)

calls-other : (a : Seat) (h : List Entry) (e : Entry) → nat_eq a.session e.actor ≡ false
    → calls_of a.setting (h ++ e ∷ []) a.session ≡ calls_of a.setting h a.session
calls-other a h e k =
    calls-last a.setting a.session nothing_yet h e
    ∙ ap (λ b. calls_of a.setting h a.session ++ call_if b (past_at a h) e.act) (foreign-call a.session e k)
    ∙ append-nil (calls_of a.setting h a.session)

-- ---- events with their calls

-- events and calls, and the steps that they make
pub data Paired : List Event → List Called → List TakenStep → Type 0 where
  done : Paired [] [] []
  called : (e : Event) (c : Called) (es : List Event) (cs : List Called) (xs : List TakenStep) → makes_call e.kind ≡ true
      → Paired es cs xs
      → Paired (e ∷ es) (c ∷ cs) (step_of e (gift_of c) ∷ xs)
  quiet : (e : Event) (es : List Event) (cs : List Called) (xs : List TakenStep) → makes_call e.kind ≡ false
      → Paired es cs xs
      → Paired (e ∷ es) cs (step_of e given.Nothing ∷ xs)

paired-on : {es es' : List Event} {cs cs' : List Called} {xs xs' : List TakenStep} → Paired es cs xs → Paired es' cs' xs'
    → Paired (es ++ es') (cs ++ cs') (xs ++ xs')
paired-on done q = q
paired-on {es' = es'} {cs' = cs'} {xs' = xs'} (called e c es cs xs m p) q =
    called e c (es ++ es') (cs ++ cs') (xs ++ xs') m (paired-on p q)
paired-on {es' = es'} {cs' = cs'} {xs' = xs'} (quiet e es cs xs m p) q =
    quiet e (es ++ es') (cs ++ cs') (xs ++ xs') m (paired-on p q)

steps-are : {es : List Event} {cs : List Called} {xs : List TakenStep} → Paired es cs xs → steps_of es cs ≡ xs
steps-are done = refl
steps-are (called e c es cs xs m p) =
    ap (λ b. elim b as (λ _. List TakenStep) [
      | true ↦ step_of e (gift_of c) ∷ steps_of es cs
      | false ↦ step_of e given.Nothing ∷ steps_of es (c ∷ cs)
    ]) m
    ∙ ap (λ (ys : List TakenStep). step_of e (gift_of c) ∷ ys) (steps-are p)
steps-are (quiet e es cs xs m p) =
    ap (λ b. elim b as (λ _. List TakenStep) [
      | true ↦ step_of e (gift_by (first cs)) ∷ steps_of es (drop 1 cs)
      | false ↦ step_of e given.Nothing ∷ steps_of es cs
    ]) m
    ∙ ap (λ (ys : List TakenStep). step_of e given.Nothing ∷ ys) (steps-are p)

-- ---- what is asked

-- what the last of some steps asks
asked-step : (parts : ProgramParts) (service : ℕ) (c : Config) (x : TakenStep) (xs : List TakenStep) (d : Done)
    → after parts service c x.event.strand x.gift ≡ Some d
    → asked_from parts service c (x ∷ xs) ≡ asked_by d (asked_from parts service d.config xs)
asked-step parts service c x xs d e =
    ap (λ (o : Option Done). elim o as (λ _. List Need) [ None ↦ [] | Some d ↦ asked_by d (asked_from parts service d.config xs) ]) e

asked-before : (d : Done) (xs ys : List Need) → asked_by d (xs ++ ys) ≡ asked_by d xs ++ ys
asked-before d xs ys = go (makes_call d.event.kind)
  where
    go : (b : Bool)
        → ◌≡◌ {A = List Need} (elim b [ true ↦ d.need ∷ (xs ++ ys) | false ↦ xs ++ ys ])
        ((elim b as (λ _. List Need) [ true ↦ d.need ∷ xs | false ↦ xs ]) ++ ys)
    go true = refl
    go false = refl

asked-last : (parts : ProgramParts) (service : ℕ) (from : Config) (xs : List TakenStep) (here : Config) (x : TakenStep) (d : Done)
    → Leads parts service from xs here → after parts service here x.event.strand x.gift ≡ Some d
    → asked_from parts service from (xs ++ x ∷ []) ≡ asked_from parts service from xs ++ asked_by d []
asked-last parts service from [] here x d l e =
    asked-step parts service from x [] d
    (subst (λ (c : Config). after parts service c x.event.strand x.gift ≡ Some d) (sym l) e)
asked-last parts service from (y ∷ xs) here x d l e =
    asked-step parts service from y (xs ++ x ∷ []) l.0 l.1
    ∙ ap (asked_by l.0) (asked-last parts service l.0.config xs here x d l.3 e)
    ∙ asked-before l.0 (asked_from parts service l.0.config xs) (asked_by d [])
    ∙ ap (λ (ys : List Need). ys ++ asked_by d []) (sym (asked-step parts service from y xs l.0 l.1))

are-both : (s : ℕ) (xs ys : List Need) (cs ds : List Called) → AreCalls s xs cs → AreCalls s ys ds
    → AreCalls s (xs ++ ys) (cs ++ ds)
are-both s [] ys [] ds p q = q
are-both s (x ∷ xs) ys (c ∷ cs) ds p q = (p.0, are-both s xs ys cs ds p.1 q)
are-both s [] ys (c ∷ cs) ds p q = absurd p
are-both s (x ∷ xs) ys [] ds p q = absurd p

-- ---- one event

-- the kinds of event that make a call are told by what is asked
makes-none : (g : Given) (e : Event) (n : Need) → n ≡ need.Nothing → Tells g e n → makes_call e.kind ≡ false
makes-none g e n q t = subst (Tells g e) q t

makes-one : (s : ℕ) (past : Past) (g : Given) (e : Event) (n : Need) (call : Act) → IsCall s n past call → Tells g e n
    → makes_call e.kind ≡ true
makes-one s past g e (need.Take ops) (act.Take i) c t = ap makes_call t.0
makes-one s past g e (need.Answer k) (act.Answer l o) c t = ap makes_call t.0
makes-one s past g e (need.Bind v x) (act.Bind u y r) c t = ap makes_call t
makes-one s past g e (need.Reply i o) (act.Reply l q) c t = ap makes_call t.0
makes-one s past g e (need.Send k port op v true) (act.Send l q p u w' r) c t = ap makes_call t.0
makes-one s past g e (need.Send k port op v false) (act.Send l q p u w' r) c t = ap makes_call t.0
makes-one s past g e need.Finish act.End c t = ap makes_call t
makes-one s past g e n call c t = absurd c

-- What one event more makes of the calls, of the steps and of what is asked.
record Goes (a : Seat) (h own : List Entry) (d : Done) (g : Given) : Type 0 where
  pub calls : List Called
  pub calls_are : calls_of a.setting (h ++ own) a.session ≡ calls_of a.setting h a.session ++ calls
  pub paired : Paired (d.event ∷ []) calls (step_of d.event g ∷ [])
  pub asked : AreCalls a.session (asked_by d []) calls

asked-if : (d : Done) {b : Bool} → makes_call d.event.kind ≡ b
    → asked_by d [] ≡ elim b as (λ _. List Need) [ true ↦ d.need ∷ [] | false ↦ [] ]
asked-if d e = ap (λ b. elim b as (λ _. List Need) [ true ↦ d.need ∷ [] | false ↦ [] ]) e

goes-nothing : (a : Seat) (h : List Entry) (d : Done) → makes_call d.event.kind ≡ false → Goes a h [] d given.Nothing
goes-nothing a h d m = record {
  calls = [];
  calls_are = ap (λ (x : List Entry). calls_of a.setting x a.session) (append-nil h) ∙ sym (append-nil (calls_of a.setting h a.session));
  paired = quiet d.event [] [] [] m done;
  asked = subst (λ (ns : List Need). AreCalls a.session ns []) (sym (asked-if d m)) tt;
}

goes-call : (a : Seat) (h : List Entry) (d : Done) (g : Given) (call : Act) → IsGiven a h d.need g call
    → Tells g d.event d.need
    → Goes a h (by_session a call ∷ []) d g
goes-call a h d g call k t =
    let c : Called = record { before = past_at a h; act = call } in
    let m = makes-one a.session (past_at a h) g d.event d.need call k.is_call t in
    record {
      calls = c ∷ [];
      calls_are = calls-own a h d.need call k.is_call;
      paired = subst (λ (x : Given). Paired (d.event ∷ []) (c ∷ []) (step_of d.event x ∷ [])) k.gives (called d.event c [] [] [] m done);
      asked = subst (λ (ns : List Need). AreCalls a.session ns (c ∷ [])) (sym (asked-if d m)) (k.is_call, tt);
    }

goes-own : {a : Seat} {h : List Entry} {n : Need} {g : Given} {own : List Entry} (d : Done) → Gives a h n g own → d.need ≡ n
    → Tells g d.event n
    → Goes a h own d g
goes-own {a} {h} d nothing q t = goes-nothing a h d t
goes-own {a} {h} d (by_call n g call k) q t =
    goes-call a h d g call (subst (λ (x : Need). IsGiven a h x g call) (sym q) k) (subst (Tells g d.event) (sym q) t)

-- ---- a session that lives

pub paired_here : {a : Seat} {service : ℕ} {from : Config} {h : List Entry} {es : List Event} {c : Config}
    → (l : Lives a service from h es c)
    → Paired es (calls_of a.setting h a.session) (steps l)
paired_here (fresh h f) = subst (λ (cs : List Called). Paired [] cs []) (sym f.quiet) done
paired_here {a} (by_other h es c e l k) =
    subst (λ (cs : List Called). Paired es cs (steps l)) (sym (calls-other a h e k)) (paired_here l)
paired_here {a} {service} (by_event h es c g d own l e k) =
    let one = goes-own d k refl (is_told a.setting.parts service c d.event.strand g d e).tells in
    subst (λ (cs : List Called). Paired (es ++ d.event ∷ []) cs (steps l ++ step_of d.event g ∷ [])) (sym one.calls_are)
    (paired-on (paired_here l) one.paired)

asked_here : {a : Seat} {service : ℕ} {from : Config} {h : List Entry} {es : List Event} {c : Config}
    → (l : Lives a service from h es c)
    → AreCalls a.session (asked_from a.setting.parts service from (steps l)) (calls_of a.setting h a.session)
asked_here {a} (fresh h f) = subst (AreCalls a.session []) (sym f.quiet) tt
asked_here {a} {service} {from} (by_other h es c e l k) =
    subst (AreCalls a.session (asked_from a.setting.parts service from (steps l))) (sym (calls-other a h e k)) (asked_here l)
asked_here {a} {service} {from} (by_event h es c g d own l e k) =
    let one = goes-own d k refl (is_told a.setting.parts service c d.event.strand g d e).tells in
    let both = are-both a.session (asked_from a.setting.parts service from (steps l)) (asked_by d [])
    (calls_of a.setting h a.session) one.calls (asked_here l) one.asked in
    subst (AreCalls a.session (asked_from a.setting.parts service from (steps l ++ step_of d.event g ∷ []))) (sym one.calls_are)
    (subst (λ (ns : List Need). AreCalls a.session ns (calls_of a.setting h a.session ++ one.calls))
    (sym (asked-last a.setting.parts service from (steps l) c (step_of d.event g) d (leads l) e)) both)

-- its events agree with the history
pub agrees : {a : Seat} {es : List Event} {now : Moment} → Kept a es now
    → (last : Config) × (now.config ≡ Some last) × Agrees a.setting now.seen a.session es last
agrees {a} {es} {now} k =
    let same : steps_of es (calls_of a.setting now.seen a.session) ≡ steps k.lives = steps-are (paired_here k.lives) in (
      k.here,
      k.at,
      record {
        service = now.service;
        born = born_here k.lives;
        run = (
          k.from,
          k.start,
          subst (λ (xs : List TakenStep). Leads a.setting.parts now.service k.from xs k.here) (sym same) (leads k.lives),
        );
        calls = subst (λ (xs : List TakenStep). AreCalls a.session (asked_of a.setting.parts now.service xs) (calls_of a.setting now.seen a.session))
            (sym same)
            (subst (λ (ns : List Need). AreCalls a.session ns (calls_of a.setting now.seen a.session))
            (sym (ap (λ (o : Option Config). elim o as (λ _. List Need) [ None ↦ [] | Some c ↦ asked_from a.setting.parts now.service c (steps k.lives) ]) k.start))
            (asked_here k.lives));
      },
    )
