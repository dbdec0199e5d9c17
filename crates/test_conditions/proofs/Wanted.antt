-- Calls that sessions sent, by what is kept of them.
use Rattle.std.proofs.Common.{◌≡◌, ℕ, zero, suc, ◌+◌, Bool, true, false, not, ◌&&◌, ◌||◌, List, [], ◌∷◌, ◌++◌, length, refl, sym, ap, ◌∙◌, Option, None, Some, option_map, true≢false, arith}
use Rattle.std.specs.Prelude.{nat_eq, slice_get, is_some, option_and_then, if◌then◌else◌}
use Rattle.std.specs.List.{list_any, filter, filter_map}
use Rattle.behaviour_tree.specs.declared.words.Outcome.{Outcome}
use Rattle.office_core.specs.declared.history.Act.{Act}
use Rattle.office_core.specs.declared.history.Act.TheVariants as act
use Rattle.office_core.specs.declared.history.Entry.{Entry}
use Rattle.office_core.specs.declared.message.Call.{Call}
use Rattle.office_core.specs.Limits.{Setting}
use Rattle.office_core.specs.Past.{Past, some_entry}
use Rattle.office_core.specs.Sessions.{service_of}
use Rattle.office_core.specs.Keys.{first}
use Rattle.office_core.specs.Calls.{calls, call, is_call, next_call, fetches, brings, brought_in}
use Rattle.office_core.specs.Legal.{takes_answer, is_wanted, is_fetched}
use Rattle.office_core.proofs.Numbers.{calls_by, Numbered}
use Rattle.office_core.proofs.Unborn.{IsIdle}
use Rattle.office_plain.specs.declared.kept.Kept.{Kept}
use Rattle.office_plain.specs.Kept.{places_from, call_places}
use Rattle.office_plain.specs.Rows.{place_of}
use Rattle.office_plain.specs.Ties.{Ties}
use Rattle.office_plain.proofs.Acting.{left, right}
use Rattle.office_plain.proofs.CallPlaces.{call_is, at_place, seated}
use Rattle.office_plain.proofs.Idle.{unborn_calls, caller_born}
use Rattle.office_plain.proofs.Lists.{same_of, none_not_some, eq_true}
use Rattle.test_history.specs.Kinds.{fetches_as, brings_for}
use Rattle.test_conditions.specs.Told.{count_by}

-- ---- how many

count_from : (q : Call → Bool) (n : ℕ) (cs : List Call) → length (places_from q n cs) ≡ length (filter q cs)
count_from q n [] = refl
count_from q n (c ∷ cs) = by (q c) (count_from q (suc n) cs)
  where
    by : (b : Bool) → length (places_from q (suc n) cs) ≡ length (filter q cs)
        → length ((if b then n ∷ [] else []) ++ places_from q (suc n) cs) ≡ length (if b then c ∷ filter q cs else filter q cs)
    by true h = ap suc h
    by false h = h

-- the number of the next call of a session is how many places it has; one that was not born has none
pub count_is : (w : Setting) (past : Past) (s : ℕ) (k : Kept) → Ties w past k → IsIdle w past s
    → count_by (slice_get k.places.items s) ≡ next_call past s
count_is w past s k t idle = ap count_by (t.places s) ∙ by (service_of w past s) refl
  where
    by : (d : Option ℕ) → service_of w past s ≡ d → count_by (option_map (λ x. call_places past s) d) ≡ next_call past s
    by (Some d) e = count_from (λ (c : Call). nat_eq s c.session) 0 (calls past)
    by None e =
        ap length (sym (unborn_calls w past s idle e)) ∙ count_from (λ (c : Call). nat_eq s c.session) 0 (calls past)

-- ---- the call of a number

-- the call that is kept under a number of a session is the one that the session sent
pub call_kept : (w : Setting) (past : Past) (s n : ℕ) (k : Kept) → Ties w past k → Numbered past s → ((t : ℕ) → IsIdle w past t)
    → option_and_then (slice_get k.calls) (place_of k s n) ≡ call past s n
call_kept w past s n k t numbered idle = born (service_of w past s) refl
  where
    plain : (p j : ℕ) → p ≡ 0 + j → p ≡ j
    plain p j h = omega arith

    missing : (g : Option Call) → call past s n ≡ g → slice_get (call_places past s) n ≡ None → None ≡ g
    missing None e none = refl
    missing (Some c) e none =
        absurd (none_not_some _ (sym none
        ∙ (seated (λ d. nat_eq s d.session) 0 (calls past) n c (sym (call_is past s n numbered) ∙ e)).placed))

    by : (o : Option ℕ) → slice_get (call_places past s) n ≡ o → option_and_then (slice_get k.calls) o ≡ call past s n
    by None e = missing (call past s n) refl e
    by (Some p) e =
        let seat = at_place (λ (d : Call). nat_eq s d.session) 0 (calls past) n p e in
        let stands : p ≡ seat.place = plain p seat.place seat.number in
        ap (slice_get k.calls) stands ∙ ap (λ cs. slice_get cs seat.place) t.sent ∙ seat.there
        ∙ sym (call_is past s n numbered ∙ seat.ranks)

    unborn : (g : Option Call) → call past s n ≡ g → service_of w past s ≡ None → None ≡ g
    unborn None e none = refl
    unborn (Some c) e none =
        let seat = seated (λ (d : Call). nat_eq s d.session) 0 (calls past) n c (sym (call_is past s n numbered) ∙ e) in
        absurd (caller_born w past seat.place c (idle c.session) seat.there
        (ap (service_of w past) (sym (eq_true s c.session seat.is_it)) ∙ none))

    born : (d : Option ℕ) → service_of w past s ≡ d → option_and_then (slice_get k.calls) (place_of k s n) ≡ call past s n
    born (Some d) e =
        ap (λ o. option_and_then (slice_get k.calls) (option_and_then (λ ps. slice_get ps n) o))
        (t.places s ∙ ap (option_map (λ x. call_places past s)) e)
        ∙ by (slice_get (call_places past s) n) refl
    born None e =
        ap (λ o. option_and_then (slice_get k.calls) (option_and_then (λ ps. slice_get ps n) o))
        (t.places s ∙ ap (option_map (λ x. call_places past s)) e)
        ∙ unborn (call past s n) refl e

-- the answer of a call that is there is wanted
pub wanted_is : (past : Past) (s n : ℕ) (c : Call) → call past s n ≡ Some c
    → (not (some_entry past (takes_answer s n)) && c.wants) ≡ is_wanted past s n
wanted_is past s n c there =
    sym (ap (λ o. not (some_entry past (takes_answer s n)) && elim o [ None ↦ false | Some d ↦ d.wants ]) there)

pub none_wanted : (past : Past) (s n : ℕ) → call past s n ≡ None → is_wanted past s n ≡ false
none_wanted past s n none =
    ap (λ o. not (some_entry past (takes_answer s n)) && elim o [ None ↦ false | Some d ↦ d.wants ]) none
    ∙ by (not (some_entry past (takes_answer s n)))
  where
    by : (b : Bool) → (b && false) ≡ false
    by true = refl
    by false = refl

-- ---- calls that were fetched

first_is : (q : Call → Bool) (cs : List Call) (c : Call) → first (filter q cs) ≡ Some c → q c ≡ true
first_is q [] c h = absurd (none_not_some c h)
first_is q (d ∷ cs) c h = by (q d) refl (first_is q cs c)
  where
    by : (b : Bool) → q d ≡ b → (first (filter q cs) ≡ Some c → q c ≡ true) → q c ≡ true
    by true e next =
        ap q (sym (same_of d c (sym (ap (λ b. first (if b then d ∷ filter q cs else filter q cs)) e) ∙ h))) ∙ e
    by false e next = next (sym (ap (λ b. first (if b then d ∷ filter q cs else filter q cs)) e) ∙ h)

same_tests : (p q : Entry → Bool) (es : List Entry) → ((e : Entry) → p e ≡ q e) → list_any p es ≡ list_any q es
same_tests p q [] h = refl
same_tests p q (e ∷ es) h = λ i. h e i || same_tests p q es h i

fetched_one : (actor s n : ℕ) (c : Call) → s ≡ c.session → n ≡ c.number → (by : ℕ) (a : Act)
    → fetches_as actor s n (record { actor = by; act = a })
    ≡ (nat_eq actor by && fetches c (record { actor = by; act = a }))
fetched_one actor s n c e f by (act.Fetch t k) = λ i. nat_eq actor by && (nat_eq t (e i) && nat_eq k (f i))
fetched_one actor s n c e f by a = never (nat_eq actor by)
  where
    never : (b : Bool) → false ≡ (b && false)
    never true = refl
    never false = refl

brought_one : (s n : ℕ) (c : Call) → s ≡ c.session → n ≡ c.number → (by : ℕ) (a : Act)
    → brings_for s n (record { actor = by; act = a }) ≡ brings c (record { actor = by; act = a })
brought_one s n c e f by (act.Answered t k o) =
    (λ i. nat_eq t (e i) && nat_eq k (f i)) ∙ shown (nat_eq t c.session && nat_eq k c.number)
  where
    shown : (b : Bool) → b ≡ is_some (if b then Some o else None)
    shown true = refl
    shown false = refl
brought_one s n c e f by a = refl

-- a call that is there was fetched by an actor, and nobody brought its outcome yet
fetched_is : (past : Past) (actor s n : ℕ) (c : Call) → call past s n ≡ Some c
    → (some_entry past (fetches_as actor s n) && not (some_entry past (brings_for s n))) ≡ is_fetched past actor s n
fetched_is past actor s n c there =
    (λ i. same_tests (fetches_as actor s n) (λ e. nat_eq actor e.actor && fetches c e) past.entries
    (λ e. fetched_one actor s n c session number e.actor e.act) i
    && not (same_tests (brings_for s n) (brings c) past.entries (λ e. brought_one s n c session number e.actor e.act) i))
    ∙ sym (ap (λ o. elim o [
      | None ↦ false
      | Some d ↦ some_entry past (λ e. nat_eq actor e.actor && fetches d e) && not (some_entry past (brings d))
    ]) there)
  where
    is_it : is_call s n c ≡ true
    is_it = first_is (is_call s n) (calls past) c there

    session : s ≡ c.session
    session = eq_true s c.session (left (nat_eq s c.session) (nat_eq n c.number) is_it)

    number : n ≡ c.number
    number = eq_true n c.number (right (nat_eq s c.session) (nat_eq n c.number) is_it)

pub is_fetched_by : (past : Past) (actor s n : ℕ)
    → (is_some (call past s n) && (some_entry past (fetches_as actor s n) && not (some_entry past (brings_for s n))))
    ≡ is_fetched past actor s n
is_fetched_by past actor s n = by (call past s n) refl
  where
    rest : Bool
    rest = some_entry past (fetches_as actor s n) && not (some_entry past (brings_for s n))

    by : (g : Option Call) → call past s n ≡ g → (is_some (call past s n) && rest) ≡ is_fetched past actor s n
    by (Some c) e = ap (λ o. is_some o && rest) e ∙ fetched_is past actor s n c e
    by None e =
        ap (λ o. is_some o && rest) e
        ∙ sym (ap (λ o. elim o [
          | None ↦ false
          | Some d ↦ some_entry past (λ e. nat_eq actor e.actor && fetches d e) && not (some_entry past (brings d))
        ]) e)
