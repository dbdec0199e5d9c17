-- The calls that a session sent: their numbers go on from 0, and the one of a request waits for its answer.
use Rattle.std.proofs.Common.{◌≡◌, ℕ, zero, suc, ◌+◌, ◌≤◌, Bool, true, false, cond, not, ◌&&◌, ◌||◌, List, [], ◌∷◌, ◌++◌, Option, None, Some, nat_eq, count_by, refl, sym, ap, ◌∙◌, arith}
use Rattle.std.specs.List.{cons_option, filter, filter_map, list_any}
use Rattle.std.proofs.lemmas.Bool.{false≢true, and_from, eqb-true, eq-eqb, or_from, or_parts}
use Rattle.std.proofs.lemmas.List.{append-nil}
use Rattle.std.proofs.lemmas.List.Elements.{filter-append, filter_map-append}
use Rattle.std.proofs.lemmas.List.Sums.{sum_by-cons}
use Rattle.behaviour_tree.specs.declared.words.Kind.{Kind}
use Rattle.behaviour_tree.specs.declared.words.Kind.TheVariants as kind
use Rattle.behaviour_tree.specs.declared.words.Event.{Event}
use Rattle.behaviour_tree.specs.declared.words.Need.{Need}
use Rattle.behaviour_tree.specs.declared.words.Need.TheVariants as need
use Rattle.behaviour_tree.specs.declared.words.Given.{Given}
use Rattle.session_calculus.specs.After.{Config}
use Rattle.office_core.specs.declared.history.Act.{Act}
use Rattle.office_core.specs.declared.history.Act.TheVariants as act
use Rattle.office_core.specs.declared.history.Entry.{Entry}
use Rattle.office_core.specs.Past.{Past}
use Rattle.office_core.specs.declared.message.Call.{Call}
use Rattle.office_core.specs.Calls.{call, is_call, sent_in}
use Rattle.run_record.specs.Steps.{is_call_of}
use Rattle.run_record.specs.Agrees.{IsCall}
use Rattle.session_turn.specs.Seen.{Seat, past_at}
use Rattle.session_turn.specs.Lives.{Gives, Lives, by_call, by_event, by_other, fresh, nothing}
use Rattle.session_turn.proofs.Histories.{IsOwn, any_last, foreign-call, foreign-last, quiet-own}
use Rattle.session_turn.proofs.Matching.{at_kind, quiet-solicit, step_of}
use Rattle.session_turn.proofs.Telling.{Draws, Tells, is_told}
use Rattle.session_turn.proofs.Walking.{count-last, count-no, none-counts, some_step, steps}

-- ---- what is found among calls is found among entries

-- a test of calls, of an entry
abbrev pub of_sent : (Call → Bool) → Entry → Bool
of_sent p e = elim (sent_in e) [ None ↦ false | Some x ↦ p x ]

-- the calls that some entries send
abbrev pub sent : List Entry → List Call
sent h = filter_map sent_in h

any-option : (p : Call → Bool) (o : Option Call) (xs : List Call) (b : Bool) → list_any p xs ≡ b
    → list_any p (cons_option o xs) ≡ (elim o [ None ↦ false | Some x ↦ p x ] || b)
any-option p None xs b e = e
any-option p (Some x) xs b e = ap (λ c. p x || c) e

any-sent : (p : Call → Bool) (h : List Entry) → list_any p (sent h) ≡ list_any (of_sent p) h
any-sent p [] = refl
any-sent p (e ∷ h) = any-option p (sent_in e) (sent h) (list_any (of_sent p) h) (any-sent p h)

zero-plus : (n : ℕ) → n ≡ 0 + n
zero-plus n = omega arith

count-option : (p : Call → Bool) (o : Option Call) (xs : List Call) (n : ℕ) → count_by p xs ≡ n
    → count_by p (cons_option o xs) ≡ cond (elim o [ None ↦ false | Some x ↦ p x ]) 1 0 + n
count-option p None xs n e = e ∙ zero-plus n
count-option p (Some x) xs n e = sum_by-cons (λ y. cond (p y) 1 0) x xs ∙ ap (λ m. cond (p x) 1 0 + m) e

count-sent : (p : Call → Bool) (h : List Entry) → count_by p (sent h) ≡ count_by (of_sent p) h
count-sent p [] = refl
count-sent p (e ∷ h) =
    count-option p (sent_in e) (sent h) (count_by (of_sent p) h) (count-sent p h)
    ∙ sym (sum_by-cons (λ y. cond (of_sent p y) 1 0) e h)

-- a call of session s
abbrev pub is_of : ℕ → Call → Bool
is_of s x = nat_eq s x.session

own-is_of : (s : ℕ) → IsOwn s (of_sent (is_of s))
own-is_of s e h = go e.actor e.act h
  where
    go : (n : ℕ) (c : Act) → is_call_of s (record { actor = n; act = c }) ≡ false
        → of_sent (is_of s) (record { actor = n; act = c }) ≡ false
    go n (act.Send k port op v w r) h = h
    go n c h = refl

own-is_call : (s k : ℕ) → IsOwn s (of_sent (is_call s k))
own-is_call s k e h = go e.actor e.act h
  where
    go : (n : ℕ) (c : Act) → is_call_of s (record { actor = n; act = c }) ≡ false
        → of_sent (is_call s k) (record { actor = n; act = c }) ≡ false
    go n (act.Send i port op v w r) h = ap (λ b. b && nat_eq k i) h
    go n c h = refl

-- ---- one event

-- what the entries of an event send: nothing, and no number is drawn; or one call, under the next number
data Sends (s before next : ℕ) (e : Event) (own : List Entry) : Type 0 where
  none : sent own ≡ [] → next ≡ before → at_kind kind.Solicit e.kind true ≡ false → Sends s before next e own
  one : (x : Call) → sent own ≡ x ∷ [] → x.session ≡ s → x.number ≡ before → next ≡ suc before → e.number ≡ before
      → x.wants ≡ at_kind kind.Solicit e.kind true
      → Sends s before next e own

is-not : (e : Event) {k : Kind} → e.kind ≡ k → at_kind kind.Solicit k true ≡ false → at_kind kind.Solicit e.kind true ≡ false
is-not e f h = ap (λ x. at_kind kind.Solicit x true) f ∙ h

sends-call : (s before next : ℕ) (past : Past) (n : Need) (g : Given) (e : Event) (call : Act) → IsCall s n past call
    → Tells g e n → Draws before n next → Sends s before next e (record { actor = s; act = call } ∷ [])
sends-call s before next past (need.Take ops) g e (act.Take i) c t d = none refl d (is-not e t.0 refl)
sends-call s before next past (need.Answer k) g e (act.Answer l o) c t d = none refl d (is-not e t.0 refl)
sends-call s before next past (need.Bind v x) g e (act.Bind u y r) c t d = none refl d (is-not e t refl)
sends-call s before next past (need.Reply i o) g e (act.Reply l q) c t d = none refl d (is-not e t.0 refl)
sends-call s before next past (need.Send k port op v true) g e (act.Send l q p u w r) c t d =
    one (record { session = s; number = l; port = q; op = p; value = u; wants = w; placed = r }) refl refl (c.0 ∙ d.0) d.1
    (t.1 ∙ d.0) (c.4 ∙ ap (λ x. at_kind kind.Solicit x true) (sym t.0))
sends-call s before next past (need.Send k port op v false) g e (act.Send l q p u w r) c t d =
    one (record { session = s; number = l; port = q; op = p; value = u; wants = w; placed = r }) refl refl (c.0 ∙ d.0) d.1
    (t.1 ∙ d.0) (c.4 ∙ ap (λ x. at_kind kind.Solicit x true) (sym t.0))
sends-call s before next past need.Finish g e act.End c t d = none refl d (is-not e t refl)
sends-call s before next past n g e call c t d = absurd c

sends-own : {a : Seat} {h : List Entry} {n : Need} {g : Given} {own : List Entry} {before next : ℕ} (e : Event)
    → Gives a h n g own → Tells g e n → Draws before n next
    → Sends a.session before next e own
sends-own e nothing t d = none refl d (quiet-solicit e.kind true t)
sends-own {a} {h} {before = before} {next} e (by_call n g call k) t d =
    sends-call a.session before next (past_at a h) n g e call k.is_call t d

sent-both : (h own : List Entry) → sent (h ++ own) ≡ sent h ++ sent own
sent-both h own = filter_map-append sent_in h own

-- ---- a session that lives

number-next : (before next count : ℕ) (b : Bool) → b ≡ true → next ≡ suc before → count ≡ before → count + cond b 1 0 ≡ next
number-next before next count true e f g = omega (arith, f, g)
number-next before next count false e f g = absurd (false≢true e)

next-last : (s : ℕ) (h own : List Entry) (e : Event) (before next : ℕ) → Sends s before next e own
    → count_by (is_of s) (sent h) ≡ before
    → count_by (is_of s) (sent (h ++ own)) ≡ next
next-last s h own e before next (none nil next_is quiet) k =
    ap (count_by (is_of s)) (sent-both h own ∙ ap (λ (x : List Call). sent h ++ x) nil ∙ append-nil (sent h)) ∙ k ∙ sym next_is
next-last s h own e before next (one x is session number next_is en wants) k =
    ap (count_by (is_of s)) (sent-both h own ∙ ap (λ (y : List Call). sent h ++ y) is)
    ∙ count-last (is_of s) (sent h) x
    ∙ number-next before next (count_by (is_of s) (sent h)) (nat_eq s x.session) (eq-eqb s x.session (sym session)) next_is k

-- the next call of a session is that of its configuration
pub next_here : {a : Seat} {service : ℕ} {from : Config} {h : List Entry} {es : List Event} {c : Config} → from.call ≡ 0
    → Lives a service from h es c
    → count_by (is_of a.session) (sent h) ≡ c.call
next_here {a} start (fresh h f) =
    count-sent (is_of a.session) h
    ∙ none-counts (of_sent (is_of a.session)) h
    (quiet-own a.setting a.session h (of_sent (is_of a.session)) (own-is_of a.session) f.quiet)
    ∙ sym start
next_here {a} start (by_other h es c e l k) =
    count-sent (is_of a.session) (h ++ e ∷ [])
    ∙ count-last (of_sent (is_of a.session)) h e
    ∙ count-no (count_by (of_sent (is_of a.session)) h) (of_sent (is_of a.session) e)
    (own-is_of a.session e (foreign-call a.session e k))
    ∙ sym (count-sent (is_of a.session) h)
    ∙ next_here start l
next_here {a} {service} start (by_event h es c g d own l e k) =
    let t = is_told a.setting.parts service c d.event.strand g d e in
    next-last a.session h own d.event c.call d.config.call (sends-own d.event k t.tells t.draws) (next_here start l)

-- it sent no call under a number that was not drawn
no-call : (s k before : ℕ) (x : Call) → x.number ≡ before → suc before ≤ k → is_call s k x ≡ false
no-call s k before x e h = go (nat_eq k x.number) refl
  where
    go : (b : Bool) → nat_eq k x.number ≡ b → (nat_eq s x.session && nat_eq k x.number) ≡ false
    go false p = ap (λ b. nat_eq s x.session && b) p ∙ and-false (nat_eq s x.session)
      where
        and-false : (b : Bool) → (b && false) ≡ false
        and-false true = refl
        and-false false = refl
    go true p = let same : k ≡ x.number = eqb-true k x.number p in absurd (omega (arith, same, e, h))

unsent-last : (s : ℕ) (h own : List Entry) (e : Event) (before next k : ℕ) → Sends s before next e own → next ≤ k
    → (before ≤ k → list_any (is_call s k) (sent h) ≡ false)
    → list_any (is_call s k) (sent (h ++ own)) ≡ false
unsent-last s h own e before next k (none nil next_is quiet) below rest =
    ap (list_any (is_call s k)) (sent-both h own ∙ ap (λ (x : List Call). sent h ++ x) nil ∙ append-nil (sent h))
    ∙ rest (omega (arith, next_is, below))
unsent-last s h own e before next k (one x is session number next_is en wants) below rest =
    ap (list_any (is_call s k)) (sent-both h own ∙ ap (λ (y : List Call). sent h ++ y) is)
    ∙ any_last (is_call s k) (sent h) x
    ∙ or_from (list_any (is_call s k) (sent h)) (is_call s k x) (rest (omega (arith, next_is, below)))
    (no-call s k before x number (omega (arith, next_is, below)))

pub unsent_here : {a : Seat} {service : ℕ} {from : Config} {h : List Entry} {es : List Event} {c : Config}
    → Lives a service from h es c → (k : ℕ) → c.call ≤ k
    → list_any (is_call a.session k) (sent h) ≡ false
unsent_here {a} (fresh h f) k below =
    any-sent (is_call a.session k) h
    ∙ quiet-own a.setting a.session h (of_sent (is_call a.session k)) (own-is_call a.session k) f.quiet
unsent_here {a} (by_other h es c e l other) k below =
    any-sent (is_call a.session k) (h ++ e ∷ [])
    ∙ foreign-last a.session (of_sent (is_call a.session k)) h e (own-is_call a.session k) other
    ∙ sym (any-sent (is_call a.session k) h)
    ∙ unsent_here l k below
unsent_here {a} {service} (by_event h es c g d own l e given) k below =
    let t = is_told a.setting.parts service c d.event.strand g d e in
    unsent-last a.session h own d.event c.call d.config.call k (sends-own d.event given t.tells t.draws) below (unsent_here l k)

-- whether the first of some calls wants an answer
abbrev pub wants_first : List Call → Bool
wants_first [] = false
wants_first (x ∷ xs) = x.wants

wants-more : (xs ys : List Call) → wants_first xs ≡ true → wants_first (xs ++ ys) ≡ true
wants-more [] ys h = absurd (false≢true h)
wants-more (x ∷ xs) ys h = h

filter-none : {X : Type 0} (p : X → Bool) (xs : List X) → list_any p xs ≡ false → filter p xs ≡ []
filter-none p [] e = refl
filter-none p (x ∷ xs) e =
    let parts = or_parts (p x) (list_any p xs) e in
    ap (λ b. cond b (x ∷ filter p xs) (filter p xs)) parts.0 ∙ filter-none p xs parts.1

filter-one : {X : Type 0} (p : X → Bool) (x : X) → p x ≡ true → filter p (x ∷ []) ≡ x ∷ []
filter-one p x h = ap (λ b. cond b (x ∷ []) []) h

wants-longer : (s k : ℕ) (h own : List Entry) → wants_first (filter (is_call s k) (sent h)) ≡ true
    → wants_first (filter (is_call s k) (sent (h ++ own))) ≡ true
wants-longer s k h own t =
    ap wants_first (ap (filter (is_call s k)) (sent-both h own) ∙ filter-append (is_call s k) (sent h) (sent own))
    ∙ wants-more (filter (is_call s k) (sent h)) (filter (is_call s k) (sent own)) t

solicit-parts : (j : Kind) (b : Bool) → at_kind kind.Solicit j b ≡ true → (at_kind kind.Solicit j true ≡ true) × (b ≡ true)
solicit-parts kind.Solicit b h = (refl, h)
solicit-parts j b h = absurd (false≢true h)

wants-last : (s k : ℕ) (h own : List Entry) (e : Event) (before next : ℕ) (b : Bool) → Sends s before next e own
    → (b ≡ true → wants_first (filter (is_call s k) (sent h)) ≡ true)
    → (before ≤ k → list_any (is_call s k) (sent h) ≡ false)
    → (b || at_kind kind.Solicit e.kind (nat_eq k e.number)) ≡ true
    → wants_first (filter (is_call s k) (sent (h ++ own))) ≡ true
wants-last s k h own e before next true x was unsent t = wants-longer s k h own (was refl)
wants-last s k h own e before next false (none nil next_is quiet) was unsent t =
    absurd (false≢true (sym quiet ∙ (solicit-parts e.kind (nat_eq k e.number) t).0))
wants-last s k h own e before next false (one x is session number next_is en wants) was unsent t =
    let now = solicit-parts e.kind (nat_eq k e.number) t in
    let same : k ≡ e.number = eqb-true k e.number now.1 in
    let nothing-before = filter-none (is_call s k) (sent h) (unsent (omega (arith, same, en))) in
    let found : is_call s k x ≡ true
    = and_from (nat_eq s x.session) (nat_eq k x.number) (eq-eqb s x.session (sym session))
    (eq-eqb k x.number (same ∙ en ∙ sym number)) in
    ap wants_first
    (ap (filter (is_call s k)) (sent-both h own ∙ ap (λ (y : List Call). sent h ++ y) is)
    ∙ filter-append (is_call s k) (sent h) (x ∷ [])
    ∙ ap (λ (y : List Call). y ++ filter (is_call s k) (x ∷ [])) nothing-before
    ∙ filter-one (is_call s k) x found)
    ∙ wants ∙ now.0

-- a call that was sent as a request wants its answer
pub wants_here : {a : Seat} {service : ℕ} {from : Config} {h : List Entry} {es : List Event} {c : Config}
    → (l : Lives a service from h es c) → (k : ℕ) → some_step kind.Solicit k (steps l) ≡ true
    → wants_first (filter (is_call a.session k) (sent h)) ≡ true
wants_here (fresh h f) k t = absurd (false≢true t)
wants_here {a} (by_other h es c e l other) k t = wants-longer a.session k h (e ∷ []) (wants_here l k t)
wants_here {a} {service} (by_event h es c g d own l e given) k t =
    let told = is_told a.setting.parts service c d.event.strand g d e in
    wants-last a.session k h own d.event c.call d.config.call (some_step kind.Solicit k (steps l))
    (sends-own d.event given told.tells told.draws) (wants_here l k) (unsent_here l k)
    (sym (any_last (λ y. at_kind kind.Solicit y.event.kind (nat_eq k y.event.number)) (steps l) (step_of d.event g)) ∙ t)
