-- Postings are told one by one: what was told and what is still to be told are together all that is told.
use Rattle.std.proofs.Common.{◌≡◌, ℕ, Bool, true, false, not, ◌||◌, List, [], ◌∷◌, ◌++◌, map, cond, refl, sym, ap}
use Rattle.std.proofs.Common.{subst, ◌∙◌, IsErrAnd}
use Rattle.std.specs.Prelude.{nat_eq, slice_get, MatchResult, Result, Ok, Err}
use Rattle.std.specs.List.{list_any, filter}
use Rattle.behaviour_tree.specs.declared.words.Outcome.{Outcome}
use Rattle.run_theorem.specs.Exchange.{Told, Exchange}
use Rattle.run_theorem.specs.Calls.{After, Tells, IsDue}
use Rattle.run_order_laws.proofs.Lists.{false_left, false_right, turned, append_nil, append_assoc, any_append}
use Rattle.run_posts.specs.declared.pending.Pending.{Pending}
use Rattle.run_posts.specs.CallStates.{Wait, is_finished, is_open, outcomes_in, told_of, wait_of}
use Rattle.run_posts.specs.Telling.{Answers, AnswersNone, AreExpected, TellsAll, TellsOn, TellsSome}
use Rattle.run_posts.proofs.Halting.{halts_not, halts_on}

-- ---- the lists

-- the first of a filtered list
pub kept : {A : Type 0} (p : A → Bool) (x : A) (xs : List A) → p x ≡ true → filter p (x ∷ xs) ≡ x ∷ filter p xs
kept p x xs h = ap (λ b. cond b (x ∷ filter p xs) (filter p xs)) h

pub passed : {A : Type 0} (p : A → Bool) (x : A) (xs : List A) → p x ≡ false → filter p (x ∷ xs) ≡ filter p xs
passed p x xs h = ap (λ b. cond b (x ∷ filter p xs) (filter p xs)) h

-- Postings that stay: those that were passed by and are not finished, and those of the others that are not.
pub kept_open : (all done rest : List Wait) (x : Wait) → is_finished x ≡ false
    → done ++ filter is_open (x ∷ rest) ≡ filter is_open all
    → (done ++ x ∷ []) ++ filter is_open rest ≡ filter is_open all
kept_open all done rest x h before =
    append_assoc done (x ∷ []) (filter is_open rest)
    ∙ ap (λ l. done ++ l) (sym (kept is_open x rest (ap not h)))
    ∙ before

pub passed_open : (all done rest : List Wait) (x : Wait) → is_finished x ≡ true
    → done ++ filter is_open (x ∷ rest) ≡ filter is_open all → done ++ filter is_open rest ≡ filter is_open all
passed_open all done rest x h before = ap (λ l. done ++ l) (sym (passed is_open x rest (ap not h))) ∙ before

-- the same of what stands in memory
pub kept_pushed : (all : List Wait) (done now before rest : List Pending) (p : Pending) → before ≡ p ∷ rest
    → is_finished (wait_of p) ≡ false → now ≡ done ++ p ∷ []
    → map wait_of done ++ filter is_open (map wait_of before) ≡ filter is_open all
    → map wait_of now ++ filter is_open (map wait_of rest) ≡ filter is_open all
kept_pushed all done now before rest p steps open_yet pushed h =
    ap (λ l. l ++ filter is_open (map wait_of rest)) (ap (map wait_of) pushed ∙ more done)
    ∙ kept_open all (map wait_of done) (map wait_of rest) (wait_of p) open_yet
    (subst (λ l. map wait_of done ++ filter is_open (map wait_of l) ≡ filter is_open all) steps h)
  where
    more : (xs : List Pending) → map wait_of (xs ++ p ∷ []) ≡ map wait_of xs ++ wait_of p ∷ []
    more [] = refl
    more (x ∷ xs) = ap (λ l. wait_of x ∷ l) (more xs)

-- ---- what passed so far

-- Of all postings those before the rest were told, as far as they are finished, and the rest is expected.
pub record IsTelling (all rest : List Wait) (before now : Exchange) : Type 0 where
  pub sent : List Told
  pub tells : TellsAll sent before now
  pub all_of : sent ++ map told_of (filter is_finished rest) ≡ map told_of (filter is_finished all)
  pub expected : AreExpected rest now

pub telling_starts : (all : List Wait) (d : Exchange) → AreExpected all d → IsTelling all all d d
telling_starts all d h = record {
  sent = [];
  tells = record {
    told = sym (append_nil d.sent.told);
    noted = refl;
    notes_failed = refl;
    halts = halts_not d.sent;
    received = refl;
  };
  all_of = refl;
  expected = h;
}

-- a posting that is not finished is passed by
pub telling_passes : (all rest : List Wait) (x : Wait) (before now : Exchange) → is_finished x ≡ false
    → IsTelling all (x ∷ rest) before now → IsTelling all rest before now
telling_passes all rest x before now h t = record {
  sent = t.sent;
  tells = t.tells;
  all_of = ap (λ l. t.sent ++ map told_of l) (sym (passed is_finished x rest h)) ∙ t.all_of;
  expected = t.expected.2;
}

-- a posting that is finished is due
pub is_due : (all rest : List Wait) (x : Wait) (before now : Exchange) → is_finished x ≡ true
    → IsTelling all (x ∷ rest) before now → IsDue x.place (outcomes_in x.call_states) now
is_due all rest x before now h t = record {
  posting = t.expected.0.posting;
  given = t.expected.0.given;
  fit = t.expected.0.fit h;
  untold = t.expected.0.untold;
}

expected_still : (x : Wait) (outcomes : List Outcome) (xs : List Wait) (now next : Exchange)
    → Tells x.place outcomes now next
    → list_any (λ (y : Wait). nat_eq x.place y.place) xs ≡ false → AreExpected xs now → AreExpected xs next
expected_still x outcomes [] now next t apart h = tt
expected_still x outcomes (y ∷ xs) now next t apart h = (
  record {
    posting = h.0.posting;
    given = ap (λ b. slice_get b.given y.place) t.received ∙ h.0.given;
    fit = h.0.fit;
    untold =
        ap (list_any (λ (u : Told). nat_eq y.place u.place)) t.told
        ∙ any_append (λ (u : Told). nat_eq y.place u.place) now.sent.told
        ((record { place = x.place; outcomes = outcomes }) ∷ [])
        ∙ (λ i. h.0.untold i || (turned y.place x.place i || false))
        ∙ ap (λ b. b || false)
        (false_left (nat_eq x.place y.place) (list_any (λ (z : Wait). nat_eq x.place z.place) xs) apart);
  },
  h.1,
  expected_still x outcomes xs now next t
      (false_right (nat_eq x.place y.place) (list_any (λ (z : Wait). nat_eq x.place z.place) xs) apart) h.2,
)

-- and it is told
pub telling_turn : (all rest : List Wait) (x : Wait) (before now next : Exchange) → is_finished x ≡ true
    → Tells x.place (outcomes_in x.call_states) now next → IsTelling all (x ∷ rest) before now
    → IsTelling all rest before next
telling_turn all rest x before now next h t s = record {
  sent = s.sent ++ told_of x ∷ [];
  tells = record {
    told =
        t.told ∙ ap (λ l. l ++ told_of x ∷ []) s.tells.told
        ∙ append_assoc before.sent.told s.sent (told_of x ∷ []);
    noted = t.noted ∙ s.tells.noted;
    notes_failed = t.notes_failed ∙ s.tells.notes_failed;
    halts = halts_on before.sent now.sent next.sent s.tells.halts t.halts;
    received = t.received ∙ s.tells.received;
  };
  all_of =
      append_assoc s.sent (told_of x ∷ []) (map told_of (filter is_finished rest))
      ∙ ap (λ l. s.sent ++ map told_of l) (sym (kept is_finished x rest h))
      ∙ s.all_of;
  expected = expected_still x (outcomes_in x.call_states) rest now next t s.expected.1 s.expected.2;
}

-- at the end all were told that are finished
pub telling_ends : (all : List Wait) (before now : Exchange) → IsTelling all [] before now
    → TellsAll (map told_of (filter is_finished all)) before now
telling_ends all before now t =
    subst (λ l. TellsAll l before now) (sym (append_nil t.sent) ∙ t.all_of) t.tells

-- the first of them were told
telling_some : (all rest : List Wait) (before now : Exchange) → IsTelling all rest before now
    → TellsSome (map told_of (filter is_finished all)) before now
telling_some all rest before now t = (t.sent, map told_of (filter is_finished rest), t.all_of, t.tells)

-- ---- a front

pub tells_starts : {F : Type 0} (exchanged : F → F → Exchange → Type 0) (f : F) (xs : List Wait)
    → TellsOn exchanged f f xs (IsTelling xs xs)
tells_starts exchanged f xs first before was expected = (before, was, telling_starts xs before expected)

pub tells_passes : {F : Type 0} (exchanged : F → F → Exchange → Type 0) (old now : F) (all rest : List Wait) (x : Wait)
    → is_finished x ≡ false → TellsOn exchanged old now all (IsTelling all (x ∷ rest))
    → TellsOn exchanged old now all (IsTelling all rest)
tells_passes exchanged old now all rest x h t first before was expected =
    let g : After (exchanged first now) (IsTelling all (x ∷ rest) before) = t first before was expected in
    (g.0, g.1, telling_passes all rest x before g.0 h g.2)

-- what a front says of it
pub answer_sent : {F T E : Type 0} (exchanged : F → F → Exchange → Type 0) (old now : F) (x : Wait)
    (outcomes : List Outcome)
    (r : Result T E) → outcomes ≡ outcomes_in x.call_states
    → ((first : F) (before : Exchange) → exchanged first old before → IsDue x.place outcomes before
    → MatchResult r (λ _. After (exchanged first now) (Tells x.place outcomes before)) (λ _. exchanged first now before))
    → MatchResult r (λ _. Answers exchanged old now x) (λ _. AnswersNone exchanged old now x)
answer_sent exchanged old now x outcomes (Ok t) same call = λ first before was due.
    subst (λ os. After (exchanged first now) (Tells x.place os before)) same
    (call first before was (subst (λ os. IsDue x.place os before) (sym same) due))
answer_sent exchanged old now x outcomes (Err e) same call = λ first before was due.
    call first before was (subst (λ os. IsDue x.place os before) (sym same) due)

-- where memory was wanting before, nothing passed
pub answer_not_sent : {F T E : Type 0} (exchanged : F → F → Exchange → Type 0) (f : F) (x : Wait) (r : Result T E) (e : E)
    → r ≡ Err e → MatchResult r (λ _. Answers exchanged f f x) (λ _. AnswersNone exchanged f f x)
answer_not_sent exchanged f x r e is =
    subst (λ v. MatchResult v (λ _. Answers exchanged f f x) (λ _. AnswersNone exchanged f f x)) (sym is)
    (λ first before was due. was)

pub tells_turn : {F : Type 0} (exchanged : F → F → Exchange → Type 0) (old mid now : F) (all rest : List Wait) (x : Wait)
    → is_finished x ≡ true → Answers exchanged mid now x → TellsOn exchanged old mid all (IsTelling all (x ∷ rest))
    → TellsOn exchanged old now all (IsTelling all rest)
tells_turn exchanged old mid now all rest x h call t first before was expected =
    let g : After (exchanged first mid) (IsTelling all (x ∷ rest) before) = t first before was expected in
    let n : After (exchanged first now) (Tells x.place (outcomes_in x.call_states) g.0) =
    call first g.0 g.1 (is_due all rest x before g.0 h g.2) in
    (n.0, n.1, telling_turn all rest x before g.0 n.0 h n.2 g.2)

pub tells_ends : {F : Type 0} (exchanged : F → F → Exchange → Type 0) (old now : F) (all : List Wait)
    → TellsOn exchanged old now all (IsTelling all [])
    → TellsOn exchanged old now all (TellsAll (map told_of (filter is_finished all)))
tells_ends exchanged old now all t first before was expected =
    let g : After (exchanged first now) (IsTelling all [] before) = t first before was expected in
    (g.0, g.1, telling_ends all before g.0 g.2)

-- ---- where memory was wanting

-- what holds where a call failed
pub failing : {T E B : Type 0} (A : Type 0) (Q : E → Type 0) (r : Result T E) → IsErrAnd r Q → B
    → MatchResult r (λ _. A) (λ _. B)
failing A Q (Ok x) h b = absurd h
failing A Q (Err y) h b = b

-- the first of them were told
pub tells_some : {F : Type 0} (exchanged : F → F → Exchange → Type 0) (old now : F) (all rest : List Wait)
    → TellsOn exchanged old now all (IsTelling all rest)
    → TellsOn exchanged old now all (TellsSome (map told_of (filter is_finished all)))
tells_some exchanged old now all rest t first before was expected =
    let g : After (exchanged first now) (IsTelling all rest before) = t first before was expected in
    (g.0, g.1, telling_some all rest before g.0 g.2)

-- and the next was not
pub tells_not : {F : Type 0} (exchanged : F → F → Exchange → Type 0) (old mid now : F) (all rest : List Wait) (x : Wait)
    → is_finished x ≡ true → AnswersNone exchanged mid now x → TellsOn exchanged old mid all (IsTelling all (x ∷ rest))
    → TellsOn exchanged old now all (TellsSome (map told_of (filter is_finished all)))
tells_not exchanged old mid now all rest x h call t first before was expected =
    let g : After (exchanged first mid) (IsTelling all (x ∷ rest) before) = t first before was expected in
    (g.0, call first g.0 g.1 (is_due all rest x before g.0 h g.2), telling_some all (x ∷ rest) before g.0 g.2)
