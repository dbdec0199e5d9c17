-- Sessions are born: no more of them than a run has, and each of a service of the program.
use Rattle.std.proofs.Common.{◌≡◌, ◌≤◌, ◌<◌, ℕ, zero, suc, ◌+◌, Bool, true, false, List, [], ◌∷◌, ◌++◌, length, refl, sym, ap, subst, ◌∙◌, Option, None, Some, true≢false, arith}
use Rattle.std.specs.Prelude.{nat_le, slice_get, option_and_then, option_map, if◌then◌else◌, take}
use Rattle.std.specs.List.{filter_map, cons_option}
use Rattle.std.proofs.lemmas.Bool.Decides.{nat_tests}
use Rattle.std.proofs.lemmas.List.{length-append}
use Rattle.std.proofs.lemmas.List.Elements.{filter_map-append}
use Rattle.std.proofs.lemmas.Option.{slice_get_within}
use Rattle.behaviour_tree.specs.Conforms.{conforms}
use Rattle.behaviour_tree.specs.Data.{OperationPart, ServicePart}
use Rattle.behaviour_tree.specs.FormedSets.{is_concurrent}
use Rattle.behaviour_tree.specs.declared.words.Reason.TheVariants as reason
use Rattle.reqresp_book.specs.declared.origin.Origin.{Origin}
use Rattle.office_core.specs.declared.message.Message.{Message}
use Rattle.office_core.specs.declared.post.Posted.{Posted}
use Rattle.office_core.specs.declared.history.Entry.{Entry}
use Rattle.office_core.specs.Limits.{Setting}
use Rattle.office_core.specs.Past.{Past, nothing_yet}
use Rattle.office_core.specs.Sessions.{births, service_of, singles_from, started_by, has_ended}
use Rattle.office_core.specs.Boxes.{box}
use Rattle.office_core.specs.Keys.{session_of}
use Rattle.office_core.specs.Route.{Way, to_session, to_new, refused_for, Asked, asked_at, asked_of, is_full, into_box, begins, named_session, is_starting, to_single, to_named, to_one, admitted, route}
use Rattle.office_core.specs.Accepted.{accepted_in, handed_in, message_to, message_on, message_of, origin_of, past_of, then_all, then_one, with_message}
use Rattle.behaviour_tree.specs.Operations.{number_named, service_operations}

-- ---- lists

not_some : {A : Type 0} (x : A) → None ≡ Some x → ⊥
not_some x e = true≢false (ap (λ o. elim o [ None ↦ true | Some y ↦ false ]) e)

the_same : {A : Type 0} (x y : A) → Some x ≡ Some y → x ≡ y
the_same x y e = ap (λ o. elim o [ None ↦ x | Some z ↦ z ]) e

append_nil : {A : Type 0} (xs : List A) → xs ++ [] ≡ xs
append_nil [] = refl
append_nil (x ∷ xs) = ap (λ l. x ∷ l) (append_nil xs)

append_all : {A : Type 0} (xs ys zs : List A) → xs ++ (ys ++ zs) ≡ (xs ++ ys) ++ zs
append_all [] ys zs = refl
append_all (x ∷ xs) ys zs = ap (λ l. x ∷ l) (append_all xs ys zs)

-- what stands in a list with more stood there, or stands in what is more
either_there : {A : Type 0} (xs ys : List A) (P : A → Type 0)
    → ((n : ℕ) (x : A) → slice_get xs n ≡ Some x → P x) → ((n : ℕ) (x : A) → slice_get ys n ≡ Some x → P x)
    → (n : ℕ) (x : A) → slice_get (xs ++ ys) n ≡ Some x → P x
either_there [] ys P p q n x h = q n x h
either_there (y ∷ xs) ys P p q zero x h = p zero x h
either_there (y ∷ xs) ys P p q (suc n) x h = either_there xs ys P (λ m z g. p (suc m) z g) q n x h

-- ---- what an entry brings

-- the sessions that one message more starts
abbrev pub born_by : Option Message → List ℕ
born_by None = []
born_by (Some m) = filter_map started_by (m ∷ [])

-- the births with an entry more
pub births_then : (w : Setting) (past : Past) (e : Entry)
    → births w (then_one w past e) ≡ births w past ++ born_by (accepted_in w past e)
births_then w past e = by (accepted_in w past e)
  where
    singles : List ℕ
    singles = take w.limits.sessions (singles_from 0 w.parts.services)

    by : (o : Option Message) → singles ++ filter_map started_by (with_message past.messages o) ≡ births w past ++ born_by o
    by None = sym (append_nil (births w past))
    by (Some m) =
        ap (λ l. singles ++ l) (filter_map-append started_by past.messages (m ∷ []))
        ∙ append_all singles (filter_map started_by past.messages) (filter_map started_by (m ∷ []))

-- ---- no more than a run has

-- there is room for one session more
abbrev HasRoom : Setting → Past → Type 0
HasRoom w past = length (births w past) < w.limits.sessions

-- whether a way begins a session
abbrev is_new : Way → Bool
is_new (to_session s) = false
is_new to_new = true
is_new (refused_for why) = false

box-old : (w : Setting) (past : Past) (s : ℕ) → is_new (into_box w past s) ≡ false
box-old w past s = by (nat_le w.limits.box (length (box past s)))
  where
    by : (b : Bool) → is_new (if b then refused_for reason.BoxFull else to_session s) ≡ false
    by true = refl
    by false = refl

begins-room : (w : Setting) (past : Past) → is_new (begins w past) ≡ true → HasRoom w past
begins-room w past h = by (nat_le w.limits.sessions (length (births w past))) refl h
  where
    by : (b : Bool) → nat_le w.limits.sessions (length (births w past)) ≡ b
        → is_new (if b then refused_for reason.RunFull else to_new) ≡ true → HasRoom w past
    by true e g = absurd (true≢false (sym g))
    by false e g = grind (arith, nat_tests)

named-room : (w : Setting) (past : Past) (a : Asked) (o : Option ℕ) → is_new (to_named w past a o) ≡ true → HasRoom w past
named-room w past a (Some s) h = absurd (true≢false (sym h ∙ box-old w past s))
named-room w past a None h = by (is_starting a) h
  where
    by : (b : Bool) → is_new (if b then begins w past else refused_for reason.Correlation) ≡ true → HasRoom w past
    by true g = begins-room w past g
    by false g = absurd (true≢false (sym g))

single-old : (w : Setting) (past : Past) (o : Option ℕ) → is_new (to_single w past o) ≡ false
single-old w past None = refl
single-old w past (Some s) = by (has_ended past s)
  where
    by : (b : Bool) → is_new (if b then refused_for reason.Correlation else into_box w past s) ≡ false
    by true = refl
    by false = box-old w past s

one-room : (w : Setting) (past : Past) (a : Asked) → is_new (to_one w past a) ≡ true → HasRoom w past
one-room w past a h = by (is_concurrent a.service.execution) h
  where
    by : (b : Bool)
        → is_new (elim b [ true ↦ to_named w past a (named_session w past a) | false ↦ to_single w past (session_of w past a.number (λ s. true)) ]) ≡ true
        → HasRoom w past
    by true g = named-room w past a (named_session w past a) g
    by false g = absurd (true≢false (sym g ∙ single-old w past (session_of w past a.number (λ s. true))))

admitted-room : (w : Setting) (past : Past) (o : Option Asked) → is_new (admitted w past o) ≡ true → HasRoom w past
admitted-room w past None h = absurd (true≢false (sym h))
admitted-room w past (Some a) h = by (conforms w.parts.types a.value a.operation.request) h
  where
    by : (b : Bool) → is_new (elim b [ false ↦ refused_for reason.NotConforming | true ↦ to_one w past a ]) ≡ true → HasRoom w past
    by true g = one-room w past a g
    by false g = absurd (true≢false (sym g))

route-room : (w : Setting) (past : Past) (q : Posted) → is_new (route w past q) ≡ true → HasRoom w past
route-room w past q h = by (is_full w past q.value) h
  where
    by : (b : Bool) → is_new (elim b [ true ↦ refused_for reason.RunFull | false ↦ admitted w past (asked_of w q) ]) ≡ true → HasRoom w past
    by true g = absurd (true≢false (sym g))
    by false g = admitted-room w past (asked_of w q) g

-- a message that goes a way starts a session where the way does
starts-new : (w : Setting) (past : Past) (from : Origin) (a : Asked) (way : Way) (m : Message)
    → message_on w past from a way ≡ Some m → m.starts ≡ is_new way
starts-new w past from a (to_session s) m h =
    ap (λ (x : Message). x.starts) (sym (the_same (message_to w from s false a) m h))
starts-new w past from a to_new m h =
    ap (λ (x : Message). x.starts) (sym (the_same (message_to w from (length (births w past)) true a) m h))
starts-new w past from a (refused_for why) m h = absurd (not_some m h)

of-room : (w : Setting) (past : Past) (from : Origin) (q : Posted) (m : Message) → message_of w past from q ≡ Some m
    → m.starts ≡ true → HasRoom w past
of-room w past from q m h s = by (asked_of w q) h
  where
    by : (o : Option Asked) → option_and_then (λ a. message_on w past from a (route w past q)) o ≡ Some m → HasRoom w past
    by None g = absurd (not_some m g)
    by (Some a) g = route-room w past q (sym (starts-new w past from a (route w past q) m g) ∙ s)

in-room : (w : Setting) (past : Past) (from : Origin) (g : Option Posted) (m : Message)
    → option_and_then (message_of w past from) g ≡ Some m → m.starts ≡ true → HasRoom w past
in-room w past from None m h s = absurd (not_some m h)
in-room w past from (Some q) m h s = of-room w past from q m h s

few-then : (w : Setting) (past : Past) (e : Entry) → length (births w past) ≤ w.limits.sessions
    → length (births w (then_one w past e)) ≤ w.limits.sessions
few-then w past e few =
    subst (λ (l : List ℕ). length l ≤ w.limits.sessions) (sym (births_then w past e))
    (subst (λ (n : ℕ). n ≤ w.limits.sessions) (sym (length-append (births w past) (born_by (accepted_in w past e))))
    (by (accepted_in w past e) (λ m h s. in-room w past (origin_of e.actor e.act) (handed_in w past e.actor e.act) m h s)))
  where
    by : (o : Option Message) → ((m : Message) → o ≡ Some m → m.starts ≡ true → HasRoom w past)
        → length (births w past) + length (born_by o) ≤ w.limits.sessions
    by None room = omega arith
    by (Some m) room = start m.starts refl
      where
        start : (b : Bool) → m.starts ≡ b
            → length (births w past) + length (cons_option (if b then Some m.service else None) []) ≤ w.limits.sessions
        start false s = omega arith
        start true s = let r : length (births w past) < w.limits.sessions = room m refl s in omega arith

few-all : (w : Setting) (past : Past) (es : List Entry) → length (births w past) ≤ w.limits.sessions
    → length (births w (then_all w past es)) ≤ w.limits.sessions
few-all w past [] few = few
few-all w past (e ∷ es) few = few-all w (then_one w past e) es (few-then w past e few)

few-taken : (n : ℕ) (xs : List ℕ) → length (take n xs) ≤ n
few-taken zero xs = omega arith
few-taken (suc n) [] = omega arith
few-taken (suc n) (x ∷ xs) = let h : length (take n xs) ≤ n = few-taken n xs in omega arith

-- no more sessions are born than a run has
pub few_births : (w : Setting) (h : List Entry) → length (births w (past_of w h)) ≤ w.limits.sessions
few_births w h =
    few-all w nothing_yet h
    (subst (λ (l : List ℕ). length l ≤ w.limits.sessions) (sym (append_nil (take w.limits.sessions (singles_from 0 w.parts.services))))
    (few-taken w.limits.sessions (singles_from 0 w.parts.services)))

-- ---- each of a service of the program

-- a service of the program
abbrev IsKnown : Setting → ℕ → Type 0
IsKnown w d = d < length w.parts.services

-- each session that was born is of one
abbrev AreKnown : Setting → List ℕ → Type 0
AreKnown w ds = (n d : ℕ) → slice_get ds n ≡ Some d → IsKnown w d

asked-known : (w : Setting) (q : Posted) (a : Asked) → asked_of w q ≡ Some a → IsKnown w a.number
asked-known w q a h = by (slice_get w.parts.services q.service) refl h
  where
    at : (d : ServicePart) (o : Option ℕ) → option_and_then (asked_at w q d) o ≡ Some a → a.number ≡ q.service
    at d None g = absurd (not_some a g)
    at d (Some n) g = with_operation (slice_get (service_operations w.parts d) n) g
      where
        with_operation : (o : Option OperationPart) → option_map (λ (x : OperationPart). record { number = q.service; service = d; op = n; operation = x; value = q.value }) o ≡ Some a
            → a.number ≡ q.service
        with_operation None g = absurd (not_some a g)
        with_operation (Some x) g = ap (λ (y : Asked). y.number) (sym (the_same _ a g))

    by : (o : Option ServicePart) → slice_get w.parts.services q.service ≡ o
        → option_and_then (λ d. option_and_then (asked_at w q d) (number_named w.parts q.op d)) o ≡ Some a → IsKnown w a.number
    by None e g = absurd (not_some a g)
    by (Some d) e g =
        subst (IsKnown w) (sym (at d (number_named w.parts q.op d) g)) (slice_get_within w.parts.services q.service d e)

on-service : (w : Setting) (past : Past) (from : Origin) (a : Asked) (way : Way) (m : Message)
    → message_on w past from a way ≡ Some m → m.service ≡ a.number
on-service w past from a (to_session s) m h =
    ap (λ (x : Message). x.service) (sym (the_same (message_to w from s false a) m h))
on-service w past from a to_new m h =
    ap (λ (x : Message). x.service) (sym (the_same (message_to w from (length (births w past)) true a) m h))
on-service w past from a (refused_for why) m h = absurd (not_some m h)

in-known : (w : Setting) (past : Past) (from : Origin) (g : Option Posted) (m : Message)
    → option_and_then (message_of w past from) g ≡ Some m → IsKnown w m.service
in-known w past from None m h = absurd (not_some m h)
in-known w past from (Some q) m h = by (asked_of w q) refl h
  where
    by : (o : Option Asked) → asked_of w q ≡ o → option_and_then (λ a. message_on w past from a (route w past q)) o ≡ Some m
        → IsKnown w m.service
    by None e g = absurd (not_some m g)
    by (Some a) e g = subst (IsKnown w) (sym (on-service w past from a (route w past q) m g)) (asked-known w q a e)

known-then : (w : Setting) (past : Past) (e : Entry) → AreKnown w (births w past) → AreKnown w (births w (then_one w past e))
known-then w past e known n d h =
    either_there (births w past) (born_by (accepted_in w past e)) (IsKnown w) known
    (by (accepted_in w past e) (λ m g. in-known w past (origin_of e.actor e.act) (handed_in w past e.actor e.act) m g))
    n d (sym (ap (λ l. slice_get l n) (births_then w past e)) ∙ h)
  where
    by : (o : Option Message) → ((m : Message) → o ≡ Some m → IsKnown w m.service) → AreKnown w (born_by o)
    by None known i x g = absurd (not_some x g)
    by (Some m) known i x g = start m.starts i g
      where
        start : (b : Bool) (i : ℕ) → slice_get (cons_option (if b then Some m.service else None) []) i ≡ Some x → IsKnown w x
        start false i g = absurd (not_some x g)
        start true zero g = subst (IsKnown w) (the_same m.service x g) (known m refl)
        start true (suc i) g = absurd (not_some x g)

known-all : (w : Setting) (past : Past) (es : List Entry) → AreKnown w (births w past)
    → AreKnown w (births w (then_all w past es))
known-all w past [] known = known
known-all w past (e ∷ es) known = known-all w (then_one w past e) es (known-then w past e known)

singles-known : (w : Setting) (n : ℕ) (ds : List ServicePart) → n + length ds ≤ length w.parts.services
    → AreKnown w (singles_from n ds)
singles-known w n [] within i d h = absurd (not_some d h)
singles-known w n (x ∷ ds) within i d h =
    either_there (if is_concurrent x.execution then [] else n ∷ []) (singles_from (suc n) ds) (IsKnown w)
    (by (is_concurrent x.execution)) (singles-known w (suc n) ds (omega arith)) i d h
  where
    by : (b : Bool) (i d : ℕ) → slice_get (if b then [] else n ∷ []) i ≡ Some d → IsKnown w d
    by true i d g = absurd (not_some d g)
    by false zero d g = let e : n ≡ d = the_same n d g in omega arith
    by false (suc i) d g = absurd (not_some d g)

taken-there : (n : ℕ) (xs : List ℕ) (i x : ℕ) → slice_get (take n xs) i ≡ Some x → slice_get xs i ≡ Some x
taken-there zero xs i x h = absurd (not_some x h)
taken-there (suc n) [] i x h = h
taken-there (suc n) (y ∷ xs) zero x h = h
taken-there (suc n) (y ∷ xs) (suc i) x h = taken-there n xs i x h

-- a session that was born is of a service of the program
pub born_known : (w : Setting) (h : List Entry) (n d : ℕ) → service_of w (past_of w h) n ≡ Some d
    → d < length w.parts.services
born_known w h =
    known-all w nothing_yet h
    (λ n d g. singles-known w 0 w.parts.services (omega arith) n d
    (taken-there w.limits.sessions (singles_from 0 w.parts.services) n d
    (sym (ap (λ l. slice_get l n) (append_nil (take w.limits.sessions (singles_from 0 w.parts.services)))) ∙ g)))
