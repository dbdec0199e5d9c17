-- The calls of a session in a history, and what a history has of a message that was taken.
use Rattle.std.proofs.Common.{◌≡◌, ℕ, zero, suc, ◌+◌, Bool, true, false, not, ◌&&◌, ◌||◌, List, [], ◌∷◌, ◌++◌, Option, None, Some, option_map, option_and_then, nat_eq, slice_get, if◌then◌else◌, refl, sym, ap, subst, ◌∙◌, arith, eq-eqb, eqb-true}
use Rattle.std.specs.List.{cons_option, filter_map, list_any}
use Rattle.std.proofs.lemmas.Bool.{and_from, and_parts, false≢true}
use Rattle.std.proofs.lemmas.Option.{none-some, same_Some}
use Rattle.behaviour_tree.specs.declared.words.Outcome.{Outcome}
use Rattle.office_core.specs.declared.history.Act.{Act}
use Rattle.office_core.specs.declared.history.Act.TheVariants as act
use Rattle.office_core.specs.declared.history.Entry.{Entry}
use Rattle.office_core.specs.declared.message.Message.{Message}
use Rattle.office_core.specs.Limits.{Setting}
use Rattle.office_core.specs.Past.{Past}
use Rattle.office_core.specs.Boxes.{numbers_without, queue, taken, taken_in, takes}
use Rattle.office_core.specs.Keys.{first}
use Rattle.office_core.specs.Accepted.{then_all, then_one}
use Rattle.office_core.specs.Answers.{reply_in}
use Rattle.office_core.specs.Legal.{AreLegal, IsLegalEntry, oldest}
use Rattle.run_record.specs.Steps.{Called, calls_after, is_call_of}
use Rattle.run_order_laws.proofs.Growing.{message_then}
use Rattle.session_turn.specs.Asking.{answers_message}
use Rattle.session_turn.proofs.Giving.{number_first}
use Rattle.session_turn.proofs.Histories.{IsOwn}
use Rattle.run_answer_laws.proofs.Walking.{AllKnow, some_call}

-- ---- the calls of a session

own-actor : (s : ℕ) (e : Entry) → is_call_of s e ≡ true → nat_eq s e.actor ≡ true
own-actor s e h = go e.actor e.act h
  where
    go : (n : ℕ) (c : Act) → is_call_of s (record { actor = n; act = c }) ≡ true → nat_eq s n ≡ true
    go n (act.Adopt d) h = absurd (false≢true h)
    go n c h = h

abbrev calls_if : Bool → Past → Act → List Called → List Called
calls_if b past call rest = elim b [ true ↦ record { before = past; act = call } ∷ rest | false ↦ rest ]

-- a test that finds calls of session s alone finds the same in the history and in the calls
pub in_calls : (w : Setting) (s : ℕ) (f : Entry → Bool) → IsOwn s f → (past : Past) (es : List Entry)
    → list_any f es ≡ some_call s f (calls_after w s past es)
in_calls w s f own past [] = refl
in_calls w s f own past (e ∷ es) = go (is_call_of s e) refl (in_calls w s f own (then_one w past e) es)
  where
    go : (b : Bool) → is_call_of s e ≡ b → list_any f es ≡ some_call s f (calls_after w s (then_one w past e) es)
        → (f e || list_any f es) ≡ some_call s f (calls_if b past e.act (calls_after w s (then_one w past e) es))
    go true q rest =
        let same : s ≡ e.actor = eqb-true s e.actor (own-actor s e q) in
        ap (λ (n : ℕ). f (record { actor = n; act = e.act }) || list_any f es) (sym same)
        ∙ ap (λ b. f (record { actor = s; act = e.act }) || b) rest
    go false q rest = ap (λ b. b || list_any f es) (own e q) ∙ rest

-- before each call, the message of a number is the one of that number in the end
pub all_know : (w : Setting) (s n : ℕ) (m : Message) (past : Past) (es : List Entry)
    → slice_get (then_all w past es).messages n ≡ Some m → AllKnow n m (calls_after w s past es)
all_know w s n m past [] there = tt
all_know w s n m past (e ∷ es) there = go (is_call_of s e) (all_know w s n m (then_one w past e) es there)
  where
    go : (b : Bool) → AllKnow n m (calls_after w s (then_one w past e) es)
        → AllKnow n m (calls_if b past e.act (calls_after w s (then_one w past e) es))
    go true rest = (λ x k. same_Some x m (sym (message_then w past (e ∷ es) n x k) ∙ there), rest)
    go false rest = rest

-- ---- whoever takes a message is its session

take-oldest : (o : Option ℕ) (n : ℕ) → option_map act.Take o ≡ Some (act.Take n) → o ≡ Some n
take-oldest None n h = absurd (none-some (act.Take n) h)
take-oldest (Some k) n h = ap Some (same h)
  where
    same : Some (act.Take k) ≡ Some (act.Take n) → k ≡ n
    same e = cc

taker-is : (w : Setting) (past : Past) (s n : ℕ) (m : Message)
    → IsLegalEntry w past (record { actor = s; act = act.Take n })
    → ((x : Message) → slice_get past.messages n ≡ Some x → x ≡ m)
    → s ≡ m.session
taker-is w past s n m legal knows =
    go (slice_get past.messages n) refl (take-oldest (oldest past s n) n legal.reply)
  where
    go : (o : Option Message) → slice_get past.messages n ≡ o
        → option_and_then (λ (x : Message). first (queue past s (x.op ∷ []))) o ≡ Some n → s ≡ m.session
    go None q h = absurd (none-some n h)
    go (Some x) q h =
        let found = number_first (taken past) (λ y. nat_eq s y.session && list_any (nat_eq y.op) (x.op ∷ [])) 0
        past.messages n (sym h) in
        let same : n ≡ found.place = omega (arith, found.number) in
        let at : slice_get past.messages n ≡ Some found.message
        = subst (λ (i : ℕ). slice_get past.messages i ≡ Some found.message) (sym same) found.there in
        eqb-true s found.message.session
        (and_parts (nat_eq s found.message.session) (list_any (nat_eq found.message.op) (x.op ∷ [])) found.kind).0
        ∙ ap (λ (y : Message). y.session) (knows found.message at)

or-later : (b c : Bool) → c ≡ true → (b || c) ≡ true
or-later true c h = refl
or-later false c h = h

or-first : (b c : Bool) → b ≡ true → (b || c) ≡ true
or-first true c h = refl
or-first false c h = absurd (false≢true h)

-- a message that was taken, its session took
pub taken_took : (w : Setting) (n : ℕ) (m : Message) (past : Past) (es : List Entry) → AreLegal w past es
    → slice_get (then_all w past es).messages n ≡ Some m
    → list_any (nat_eq n) (filter_map taken_in es) ≡ true
    → list_any (takes m.session n) es ≡ true
taken_took w n m past [] legal there h = absurd (false≢true h)
taken_took w n m past (e ∷ es) legal there h =
    go e.actor e.act legal.0 (λ x k. same_Some x m (sym (message_then w past (e ∷ es) n x k) ∙ there)) h
    (taken_took w n m (then_one w past e) es legal.1 there)
  where
    go : (s : ℕ) (a : Act) → IsLegalEntry w past (record { actor = s; act = a })
        → ((x : Message) → slice_get past.messages n ≡ Some x → x ≡ m)
        → list_any (nat_eq n) (cons_option (taken_in (record { actor = s; act = a })) (filter_map taken_in es)) ≡ true
        → (list_any (nat_eq n) (filter_map taken_in es) ≡ true → list_any (takes m.session n) es ≡ true)
        → (takes m.session n (record { actor = s; act = a }) || list_any (takes m.session n) es) ≡ true
    go s (act.Take k) legal knows h later = by (nat_eq n k) refl h
      where
        by : (b : Bool) → nat_eq n k ≡ b → (b || list_any (nat_eq n) (filter_map taken_in es)) ≡ true
            → ((nat_eq m.session s && nat_eq n k) || list_any (takes m.session n) es) ≡ true
        by true q h =
            or-first (nat_eq m.session s && nat_eq n k) (list_any (takes m.session n) es)
            (and_from (nat_eq m.session s) (nat_eq n k)
            (eq-eqb m.session s
            (sym (taker-is w past s k m legal
            (subst (λ (i : ℕ). (x : Message) → slice_get past.messages i ≡ Some x → x ≡ m) (eqb-true n k q) knows))))
            q)
        by false q h = or-later (nat_eq m.session s && nat_eq n k) (list_any (takes m.session n) es) (later h)
    go s a legal knows h later =
        or-later (takes m.session n (record { actor = s; act = a })) (list_any (takes m.session n) es) (later h)

-- ---- replies

-- an entry by which session s answered message n
pub record Reply (s n : ℕ) (h : List Entry) : Type 0 where
  pub answer : Outcome
  pub place : ℕ
  pub there : slice_get h place ≡ Some (record { actor = s; act = act.Reply n answer })

reply-later : {s n : ℕ} {h : List Entry} (e : Entry) → Reply s n h → Reply s n (e ∷ h)
reply-later e r = record { answer = r.answer; place = suc r.place; there = r.there }

reply-here : (s n i : ℕ) (a : Act) (es : List Entry)
    → answers_message s n (record { actor = i; act = a }) ≡ true → Reply s n (record { actor = i; act = a } ∷ es)
reply-here s n i (act.Reply k o) es h =
    let both = and_parts (nat_eq s i) (nat_eq n k) h in
    let actor : s ≡ i = eqb-true s i both.0 in
    let number : n ≡ k = eqb-true n k both.1 in
    record {
      answer = o;
      place = 0;
      there = ap (λ (x : ℕ). Some (record { actor = x; act = act.Reply k o })) (sym actor)
          ∙ ap (λ (x : ℕ). Some (record { actor = s; act = act.Reply x o })) (sym number);
    }
reply-here s n i a es h = absurd (false≢true h)

pub find_reply : (s n : ℕ) (h : List Entry) → list_any (answers_message s n) h ≡ true → Reply s n h
find_reply s n [] t = absurd (false≢true t)
find_reply s n (e ∷ es) t = go (answers_message s n e) refl t (find_reply s n es)
  where
    go : (b : Bool) → answers_message s n e ≡ b → (b || list_any (answers_message s n) es) ≡ true
        → (list_any (answers_message s n) es ≡ true → Reply s n es) → Reply s n (e ∷ es)
    go true q h later = reply-here s n e.actor e.act es q
    go false q h later = reply-later e (later h)

-- it is among the replies
pub record Among (n : ℕ) (h : List Entry) (o : Outcome) : Type 0 where
  pub place : ℕ
  pub there : slice_get (filter_map (reply_in n) h) place ≡ Some o

pub among_replies : (s n : ℕ) (o : Outcome) (h : List Entry) (i : ℕ)
    → slice_get h i ≡ Some (record { actor = s; act = act.Reply n o }) → Among n h o
among_replies s n o [] i there = absurd (none-some _ there)
among_replies s n o (e ∷ es) zero there = record {
  place = 0;
  there = ap (λ (x : Entry). slice_get (cons_option (reply_in n x) (filter_map (reply_in n) es)) 0)
      (same_Some e (record { actor = s; act = act.Reply n o }) there)
      ∙ ap (λ b. slice_get (cons_option (if b then Some o else None) (filter_map (reply_in n) es)) 0) (eq-eqb n n refl);
}
among_replies s n o (e ∷ es) (suc i) there =
    let k = behind (reply_in n e) (among_replies s n o es i there) in record { place = k.0; there = k.1 }
  where
    behind : (x : Option Outcome) → Among n es o
        → (k : ℕ) × (slice_get (cons_option x (filter_map (reply_in n) es)) k ≡ Some o)
    behind None r = (r.place, r.there)
    behind (Some y) r = (suc r.place, r.there)

-- ---- boxes

zero-more : (i : ℕ) → i + 0 ≡ i
zero-more i = omega arith

-- a message of a kind that is not among others is one of the numbers without them
pub in_numbers : (gone : List ℕ) (is_it : Message → Bool) (k : ℕ) (ms : List Message) (i : ℕ) (m : Message)
    → slice_get ms i ≡ Some m → is_it m ≡ true → list_any (nat_eq (k + i)) gone ≡ false
    → list_any (nat_eq (k + i)) (numbers_without gone is_it k ms) ≡ true
in_numbers gone is_it k [] i m there kind stays = absurd (none-some m there)
in_numbers gone is_it k (x ∷ ms) zero m there kind stays =
    ap (λ (n : ℕ). list_any (nat_eq n) (numbers_without gone is_it k (x ∷ ms))) (zero-more k)
    ∙ go (is_it x) (list_any (nat_eq k) gone) (ap is_it (same_Some x m there) ∙ kind)
    (ap (λ (n : ℕ). list_any (nat_eq n) gone) (sym (zero-more k)) ∙ stays)
  where
    go : (a b : Bool) → a ≡ true → b ≡ false
        → list_any (nat_eq k) ((if a && not b then k ∷ [] else []) ++ numbers_without gone is_it (suc k) ms) ≡ true
    go true false p q = or-first (nat_eq k k) (list_any (nat_eq k) (numbers_without gone is_it (suc k) ms)) (eq-eqb k k refl)
    go true true p q = absurd (false≢true (sym q))
    go false b p q = absurd (false≢true p)
in_numbers gone is_it k (x ∷ ms) (suc i) m there kind stays =
    ap (λ (n : ℕ). list_any (nat_eq n) (numbers_without gone is_it k (x ∷ ms))) (shifted k i)
    ∙ go (is_it x && not (list_any (nat_eq k) gone))
    (in_numbers gone is_it (suc k) ms i m there kind
    (ap (λ (n : ℕ). list_any (nat_eq n) gone) (sym (shifted k i)) ∙ stays))
  where
    shifted : (k i : ℕ) → k + suc i ≡ suc k + i
    shifted k i = omega arith

    go : (b : Bool) → list_any (nat_eq (suc k + i)) (numbers_without gone is_it (suc k) ms) ≡ true
        → list_any (nat_eq (suc k + i)) ((if b then k ∷ [] else []) ++ numbers_without gone is_it (suc k) ms) ≡ true
    go true h = or-later (nat_eq (suc k + i) k) (list_any (nat_eq (suc k + i)) (numbers_without gone is_it (suc k) ms)) h
    go false h = h
