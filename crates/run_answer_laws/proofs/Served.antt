-- A message goes to a session of its service.
use Rattle.std.proofs.Common.{◌≡◌, ℕ, zero, suc, ◌+◌, Bool, true, false, ◌&&◌, List, [], ◌∷◌, ◌++◌, length, Option, None, Some, nat_eq, nat_le, slice_get, option_and_then, if◌then◌else◌, refl, sym, ap, subst, ◌∙◌, arith, zero-add}
use Rattle.std.specs.List.{filter_map, cons_option}
use Rattle.std.proofs.lemmas.Option.{none-some, same_Some}
use Rattle.jolie_trees.specs.declared.root.Root.{Root}
use Rattle.behaviour_tree.specs.Conforms.{conforms}
use Rattle.behaviour_tree.specs.FormedSets.{is_concurrent}
use Rattle.behaviour_tree.specs.declared.words.Reason.TheVariants as reason
use Rattle.reqresp_book.specs.declared.origin.Origin.{Origin}
use Rattle.office_core.specs.declared.history.Entry.{Entry}
use Rattle.office_core.specs.declared.message.Message.{Message}
use Rattle.office_core.specs.declared.post.Posted.{Posted}
use Rattle.office_core.specs.Limits.{Setting}
use Rattle.office_core.specs.Past.{Past, nothing_yet}
use Rattle.office_core.specs.Sessions.{births, has_ended, service_of}
use Rattle.office_core.specs.Boxes.{box}
use Rattle.office_core.specs.Keys.{Variable, first, has_key, holder, named_by, session_from, session_of, sets_of}
use Rattle.office_core.specs.Route.{Asked, Way, admitted, asked_of, begins, into_box, is_full, is_starting, named_in, named_session, refused_for, route, to_named, to_new, to_one, to_session, to_single}
use Rattle.office_core.specs.Accepted.{accepted_in, handed_in, message_of, message_on, message_to, origin_of, past_of, then_all, then_one}
use Rattle.office_plain.specs.Accepting.{with_accepted}
use Rattle.office_plain.proofs.Births.{births_come}
use Rattle.office_plain.proofs.Lists.{eq_true}
use Rattle.office_plain.proofs.Unseen.{last_there}
use Rattle.office_plain.proofs.Sending.{born_stays}

-- what stands in a list with one more stood there, or is the last
last_or : {A : Type 0} (xs : List A) (x : A) (P : A → Type 0) (n : ℕ) (y : A)
    → ((k : ℕ) (z : A) → slice_get xs k ≡ Some z → P z) → P x → slice_get (xs ++ x ∷ []) n ≡ Some y → P y
last_or [] x P zero y before now h = subst P (same_Some x y h) now
last_or [] x P (suc n) y before now h = absurd (none-some y h)
last_or (z ∷ xs) x P zero y before now h = before zero y h
last_or (z ∷ xs) x P (suc n) y before now h = last_or xs x P n y (λ k u g. before (suc k) u g) now h

-- ---- sessions of a service

-- a session of a service by its place among the births, the first of which is the session s
record Sits (d s : ℕ) (ds : List ℕ) (t : ℕ) : Type 0 where
  pub place : ℕ
  pub number : t ≡ s + place
  pub there : slice_get ds place ≡ Some d

sits_later : {d s e : ℕ} {ds : List ℕ} {t : ℕ} → Sits d (suc s) ds t → Sits d s (e ∷ ds) t
sits_later x = record { place = suc x.place; number = omega (arith, x.number); there = x.there }

sits : (d : ℕ) (is_it : ℕ → Bool) (s : ℕ) (ds : List ℕ) (t : ℕ) → session_from d is_it s ds ≡ Some t → Sits d s ds t
sits d is_it s [] t h = absurd (none-some t h)
sits d is_it s (e ∷ ds) t h = by (nat_eq d e) (is_it s) refl h (sits d is_it (suc s) ds t)
  where
    by : (a b : Bool) → nat_eq d e ≡ a
        → (if a && b then Some s else session_from d is_it (suc s) ds) ≡ Some t
        → (session_from d is_it (suc s) ds ≡ Some t → Sits d (suc s) ds t)
        → Sits d s (e ∷ ds) t
    by true true k g rest =
        let same : s ≡ t = same_Some s t g in
        record { place = 0; number = omega (arith, same); there = ap Some (sym (eq_true d e k)) }
    by true false k g rest = sits_later (rest g)
    by false b k g rest = sits_later (rest g)

-- the first session of a service that is of a kind is of the service
of_service : (w : Setting) (past : Past) (d : ℕ) (is_it : ℕ → Bool) (t : ℕ) → session_of w past d is_it ≡ Some t
    → service_of w past t ≡ Some d
of_service w past d is_it t h =
    let x = sits d is_it 0 (births w past) t h in
    ap (slice_get (births w past)) (x.number ∙ zero-add x.place) ∙ x.there

-- the first of some results has what each of them has
first_has : {A B : Type 0} (f : A → Option B) (P : B → Type 0) (xs : List A) (y : B)
    → ((x : A) (z : B) → f x ≡ Some z → P z) → first (filter_map f xs) ≡ Some y → P y
first_has f P [] y each h = absurd (none-some y h)
first_has {B = B} f P (x ∷ xs) y each h = by (f x) refl (first_has f P xs y each)
  where
    by : (o : Option B) → f x ≡ o → (first (filter_map f xs) ≡ Some y → P y) → P y
    by None e rest = rest (ap (λ o. first (cons_option o (filter_map f xs))) (sym e) ∙ h)
    by (Some z) e rest =
        subst P (same_Some z y (ap (λ o. first (cons_option o (filter_map f xs))) (sym e) ∙ h)) (each x z e)

-- the session that a message names is of the service that it asks
named_served : (w : Setting) (past : Past) (a : Asked) (t : ℕ) → named_session w past a ≡ Some t
    → service_of w past t ≡ Some a.number
named_served w past a t h =
    first_has (named_in w past a) (λ s. service_of w past s ≡ Some a.number) (sets_of a.service) t
    (λ set s g. of set s (named_by a.operation.request a.value set) g) h
  where
    of : (set : List Variable) (s : ℕ) (o : Option (List Root))
        → option_and_then (holder w past a.number set) o ≡ Some s → service_of w past s ≡ Some a.number
    of set s None g = absurd (none-some s g)
    of set s (Some values) g = of_service w past a.number (has_key w past set values) s g

-- ---- ways

-- where a way leads to a session that is there, that is of the service
abbrev Serves : Setting → Past → ℕ → Way → Type 0
Serves w past d (to_session s) = service_of w past s ≡ Some d
Serves w past d to_new = Unit {0}
Serves w past d (refused_for why) = Unit {0}

into_box_serves : (w : Setting) (past : Past) (d s : ℕ) → service_of w past s ≡ Some d
    → Serves w past d (into_box w past s)
into_box_serves w past d s h = by (nat_le w.limits.box (length (box past s)))
  where
    by : (b : Bool) → Serves w past d (if b then refused_for reason.BoxFull else to_session s)
    by true = tt
    by false = h

begins_serves : (w : Setting) (past : Past) (d : ℕ) → Serves w past d (begins w past)
begins_serves w past d = by (nat_le w.limits.sessions (length (births w past)))
  where
    by : (b : Bool) → Serves w past d (if b then refused_for reason.RunFull else to_new)
    by true = tt
    by false = tt

single_serves : (w : Setting) (past : Past) (d : ℕ) (o : Option ℕ)
    → ((s : ℕ) → o ≡ Some s → service_of w past s ≡ Some d) → Serves w past d (to_single w past o)
single_serves w past d None of = tt
single_serves w past d (Some s) of = by (has_ended past s)
  where
    by : (b : Bool) → Serves w past d (if b then refused_for reason.Correlation else into_box w past s)
    by true = tt
    by false = into_box_serves w past d s (of s refl)

named_serves : (w : Setting) (past : Past) (a : Asked) (d : ℕ) (o : Option ℕ)
    → ((s : ℕ) → o ≡ Some s → service_of w past s ≡ Some d) → Serves w past d (to_named w past a o)
named_serves w past a d (Some s) of = into_box_serves w past d s (of s refl)
named_serves w past a d None of = by (is_starting a)
  where
    by : (b : Bool) → Serves w past d (if b then begins w past else refused_for reason.Correlation)
    by true = begins_serves w past d
    by false = tt

one_serves : (w : Setting) (past : Past) (a : Asked) → Serves w past a.number (to_one w past a)
one_serves w past a = by (is_concurrent a.service.execution)
  where
    by : (b : Bool)
        → Serves w past a.number (elim b [
          | true ↦ to_named w past a (named_session w past a)
          | false ↦ to_single w past (session_of w past a.number (λ s. true))
        ])
    by true = named_serves w past a a.number (named_session w past a) (named_served w past a)
    by false =
        single_serves w past a.number (session_of w past a.number (λ s. true)) (of_service w past a.number (λ s. true))

admitted_serves : (w : Setting) (past : Past) (a : Asked) → Serves w past a.number (admitted w past (Some a))
admitted_serves w past a = by (conforms w.parts.types a.value a.operation.request)
  where
    by : (b : Bool)
        → Serves w past a.number (elim b [ false ↦ refused_for reason.NotConforming | true ↦ to_one w past a ])
    by true = one_serves w past a
    by false = tt

route_serves : (w : Setting) (past : Past) (q : Posted) (a : Asked) → asked_of w q ≡ Some a
    → Serves w past a.number (route w past q)
route_serves w past q a e = by (is_full w past q.value)
  where
    by : (b : Bool)
        → Serves w past a.number
        (elim b [ true ↦ refused_for reason.RunFull | false ↦ admitted w past (asked_of w q) ])
    by true = tt
    by false = subst (λ o. Serves w past a.number (admitted w past o)) (sym e) (admitted_serves w past a)

-- ---- a message that comes

-- once the message is there, its session is of its service
abbrev IsServed : Setting → Past → Message → Type 0
IsServed w past m = service_of w (with_accepted past (Some m)) m.session ≡ Some m.service

new_served : (w : Setting) (past : Past) (m : Message) → m.starts ≡ true → m.session ≡ length (births w past)
    → IsServed w past m
new_served w past m starts next =
    ap (λ l. slice_get l m.session) (births_come w past m true starts)
    ∙ ap (slice_get (births w past ++ m.service ∷ [])) next
    ∙ last_there (births w past) m.service

way_served : (w : Setting) (past : Past) (from : Origin) (a : Asked) (way : Way) (m : Message)
    → Serves w past a.number way → message_on w past from a way ≡ Some m → IsServed w past m
way_served w past from a (to_session s) m serves h =
    subst (IsServed w past) (same_Some (message_to w from s false a) m h)
    (born_stays w past (Some (message_to w from s false a)) s a.number serves)
way_served w past from a to_new m serves h =
    let new : Message = message_to w from (length (births w past)) true a in
    subst (IsServed w past) (same_Some new m h) (new_served w past new refl refl)
way_served w past from a (refused_for why) m serves h = absurd (none-some m h)

posted_served : (w : Setting) (past : Past) (from : Origin) (q : Posted) (m : Message)
    → message_of w past from q ≡ Some m → IsServed w past m
posted_served w past from q m h = by (asked_of w q) refl h
  where
    by : (o : Option Asked) → asked_of w q ≡ o
        → option_and_then (λ a. message_on w past from a (route w past q)) o ≡ Some m → IsServed w past m
    by None e g = absurd (none-some m g)
    by (Some a) e g = way_served w past from a (route w past q) m (route_serves w past q a e) g

accepted_served : (w : Setting) (past : Past) (e : Entry) (m : Message) → accepted_in w past e ≡ Some m
    → IsServed w past m
accepted_served w past e m h = by (handed_in w past e.actor e.act) h
  where
    by : (o : Option Posted) → option_and_then (message_of w past (origin_of e.actor e.act)) o ≡ Some m
        → IsServed w past m
    by None g = absurd (none-some m g)
    by (Some q) g = posted_served w past (origin_of e.actor e.act) q m g

-- ---- histories

-- each message goes to a session of its service
abbrev pub AreServed : Setting → Past → Type 0
AreServed w past =
    (n : ℕ) (m : Message) → slice_get past.messages n ≡ Some m → service_of w past m.session ≡ Some m.service

served_more : (w : Setting) (past : Past) (o : Option Message) → ((m : Message) → o ≡ Some m → IsServed w past m)
    → AreServed w past → AreServed w (with_accepted past o)
served_more w past None now before = before
served_more w past (Some k) now before =
    λ n m h. last_or past.messages k
    (λ (x : Message). service_of w (with_accepted past (Some k)) x.session ≡ Some x.service) n m
    (λ j x g. born_stays w past (Some k) x.session x.service (before j x g)) (now k refl) h

served_after : (w : Setting) (past : Past) (es : List Entry) → AreServed w past → AreServed w (then_all w past es)
served_after w past [] before = before
served_after w past (e ∷ es) before =
    served_after w (then_one w past e) es
    (served_more w past (accepted_in w past e) (accepted_served w past e) before)

-- in each history a message goes to a session of its service
pub served : (w : Setting) (h : List Entry) → AreServed w (past_of w h)
served w h = served_after w nothing_yet h (λ n m g. absurd (none-some m g))
