-- A message that is accepted: there is room for it, and its session lives or is the next one.
use Rattle.std.proofs.Common.{◌≡◌, ◌≤◌, ◌<◌, ℕ, zero, suc, ◌+◌, Bool, true, false, not, ◌&&◌, ◌||◌, List, [], ◌∷◌, length, refl, sym, ap, subst, ◌∙◌, Option, None, Some, true≢false, arith}
use Rattle.std.specs.Prelude.{nat_eq, nat_le, nat_lt, slice_get, option_and_then, if◌then◌else◌}
use Rattle.std.specs.List.{filter_map, cons_option}
use Rattle.std.proofs.lemmas.Bool.Decides.{nat_tests}
use Rattle.jolie_trees.specs.declared.root.Root.{Root}
use Rattle.behaviour_tree.specs.Conforms.{conforms}
use Rattle.behaviour_tree.specs.FormedSets.{is_concurrent}
use Rattle.behaviour_tree.specs.declared.words.Reason.{Reason}
use Rattle.behaviour_tree.specs.declared.words.Reason.TheVariants as reason
use Rattle.reqresp_book.specs.declared.origin.Origin.{Origin}
use Rattle.office_core.specs.declared.message.Message.{Message}
use Rattle.office_core.specs.declared.post.Posted.{Posted}
use Rattle.office_core.specs.Limits.{Setting}
use Rattle.office_core.specs.Past.{Past}
use Rattle.office_core.specs.Sessions.{births, service_of, has_ended}
use Rattle.office_core.specs.Boxes.{box}
use Rattle.office_core.specs.Keys.{first, Variable, sets_of, key, are_equal, named_by, has_key, session_from, session_of, holder}
use Rattle.office_core.specs.Weights.{weight, total_weight}
use Rattle.office_core.specs.Route.{Way, to_session, to_new, refused_for, Asked, asked_of, is_full, into_box, begins, named_in, named_session, is_starting, to_single, to_named, to_one, admitted, route}
use Rattle.office_core.specs.Accepted.{message_to, message_on, message_of}
use Rattle.office_core.proofs.Unborn.{IsIdle}
use Rattle.office_plain.proofs.Acting.{not_true}
use Rattle.office_plain.proofs.Lists.{same_of, none_not_some}
use Rattle.office_plain.proofs.Births.{none_at_end, unended}

-- ---- ways

-- the session that a way leads to
abbrev pub goes_to : Way → Option ℕ
goes_to (to_session s) = Some s
goes_to to_new = None
goes_to (refused_for why) = None

-- whether a way leads to a session that it starts
abbrev is_new : Way → Bool
is_new (to_session s) = false
is_new to_new = true
is_new (refused_for why) = false

into_box_to : (w : Setting) (past : Past) (s t : ℕ) → goes_to (into_box w past s) ≡ Some t → s ≡ t
into_box_to w past s t h = by (nat_le w.limits.box (length (box past s))) h
  where
    by : (b : Bool) → goes_to (if b then refused_for reason.BoxFull else to_session s) ≡ Some t → s ≡ t
    by true g = absurd (none_not_some t g)
    by false g = same_of s t g

begins_nowhere : (w : Setting) (past : Past) (t : ℕ) → goes_to (begins w past) ≡ Some t → ⊥
begins_nowhere w past t h = by (nat_le w.limits.sessions (length (births w past))) h
  where
    by : (b : Bool) → goes_to (if b then refused_for reason.RunFull else to_new) ≡ Some t → ⊥
    by true g = none_not_some t g
    by false g = none_not_some t g

-- ---- the session that values name

-- the first of some results has what each of them has
first_has : {A B : Type 0} (f : A → Option B) (P : B → Type 0) (xs : List A) (y : B)
    → ((x : A) (z : B) → f x ≡ Some z → P z) → first (filter_map f xs) ≡ Some y → P y
first_has f P [] y each h = absurd (none_not_some y h)
first_has {B = B} f P (x ∷ xs) y each h = by (f x) refl (first_has f P xs y each)
  where
    by : (o : Option B) → f x ≡ o → (first (filter_map f xs) ≡ Some y → P y) → P y
    by None e rest = rest (ap (λ o. first (cons_option o (filter_map f xs))) (sym e) ∙ h)
    by (Some z) e rest =
        subst P (same_of z y (ap (λ o. first (cons_option o (filter_map f xs))) (sym e) ∙ h)) (each x z e)

session_from_is : (d : ℕ) (is_it : ℕ → Bool) (s : ℕ) (ds : List ℕ) (t : ℕ) → session_from d is_it s ds ≡ Some t
    → is_it t ≡ true
session_from_is d is_it s [] t h = absurd (none_not_some t h)
session_from_is d is_it s (e ∷ ds) t h = by (nat_eq d e) (is_it s) refl (session_from_is d is_it (suc s) ds t) h
  where
    by : (a b : Bool) → is_it s ≡ b → (session_from d is_it (suc s) ds ≡ Some t → is_it t ≡ true)
        → (if a && b then Some s else session_from d is_it (suc s) ds) ≡ Some t → is_it t ≡ true
    by true true k rest g = ap is_it (sym (same_of s t g)) ∙ k
    by true false k rest g = rest g
    by false b k rest g = rest g

-- whether a key is there and has these values
abbrev has_values : List Root → Option (List Root) → Bool
has_values values k = elim k [ None ↦ false | Some vs ↦ are_equal vs values ]

-- the session that has a key lives
holder_lives : (w : Setting) (past : Past) (d : ℕ) (set : List Variable) (values : List Root) (t : ℕ)
    → holder w past d set values ≡ Some t → has_ended past t ≡ false
holder_lives w past d set values t h =
    by (has_ended past t) (session_from_is d (has_key w past set values) 0 (births w past) t h)
  where
    by : (b : Bool) → (not b && has_values values (key w past t set)) ≡ true → b ≡ false
    by true g = absurd (true≢false (sym g))
    by false g = refl

-- the session that a message names lives
pub named_lives : (w : Setting) (past : Past) (a : Asked) (t : ℕ) → named_session w past a ≡ Some t
    → has_ended past t ≡ false
named_lives w past a t h =
    first_has (named_in w past a) (λ s. has_ended past s ≡ false) (sets_of a.service) t
    (λ set s g. of set s (named_by a.operation.request a.value set) g) h
  where
    of : (set : List Variable) (s : ℕ) (o : Option (List Root))
        → option_and_then (holder w past a.number set) o ≡ Some s → has_ended past s ≡ false
    of set s None g = absurd (none_not_some s g)
    of set s (Some values) g = holder_lives w past a.number set values s g

single_lives : (w : Setting) (past : Past) (o : Option ℕ) (t : ℕ) → goes_to (to_single w past o) ≡ Some t
    → has_ended past t ≡ false
single_lives w past None t h = absurd (none_not_some t h)
single_lives w past (Some s) t h = by (has_ended past s) refl h
  where
    by : (b : Bool) → has_ended past s ≡ b
        → goes_to (if b then refused_for reason.Correlation else into_box w past s) ≡ Some t → has_ended past t ≡ false
    by true e g = absurd (none_not_some t g)
    by false e g = ap (has_ended past) (sym (into_box_to w past s t g)) ∙ e

named_way_lives : (w : Setting) (past : Past) (a : Asked) (o : Option ℕ) (t : ℕ)
    → ((s : ℕ) → o ≡ Some s → has_ended past s ≡ false)
    → goes_to (to_named w past a o) ≡ Some t → has_ended past t ≡ false
named_way_lives w past a (Some s) t lives h = ap (has_ended past) (sym (into_box_to w past s t h)) ∙ lives s refl
named_way_lives w past a None t lives h = by (is_starting a) h
  where
    by : (b : Bool) → goes_to (if b then begins w past else refused_for reason.Correlation) ≡ Some t
        → has_ended past t ≡ false
    by true g = absurd (begins_nowhere w past t g)
    by false g = absurd (none_not_some t g)

one_lives : (w : Setting) (past : Past) (a : Asked) (t : ℕ) → goes_to (to_one w past a) ≡ Some t
    → has_ended past t ≡ false
one_lives w past a t h = by (is_concurrent a.service.execution) h
  where
    by : (b : Bool)
        → goes_to (elim b [
          | true ↦ to_named w past a (named_session w past a)
          | false ↦ to_single w past (session_of w past a.number (λ s. true))
        ]) ≡ Some t → has_ended past t ≡ false
    by true g = named_way_lives w past a (named_session w past a) t (named_lives w past a) g
    by false g = single_lives w past (session_of w past a.number (λ s. true)) t g

admitted_lives : (w : Setting) (past : Past) (o : Option Asked) (t : ℕ) → goes_to (admitted w past o) ≡ Some t
    → has_ended past t ≡ false
admitted_lives w past None t h = absurd (none_not_some t h)
admitted_lives w past (Some a) t h = by (conforms w.parts.types a.value a.operation.request) h
  where
    by : (b : Bool) → goes_to (elim b [ false ↦ refused_for reason.NotConforming | true ↦ to_one w past a ]) ≡ Some t
        → has_ended past t ≡ false
    by true g = one_lives w past a t g
    by false g = absurd (none_not_some t g)

-- the session that a message is routed to lives
pub lives_there : (w : Setting) (past : Past) (q : Posted) (t : ℕ) → goes_to (route w past q) ≡ Some t
    → has_ended past t ≡ false
lives_there w past q t h = by (is_full w past q.value) h
  where
    by : (b : Bool)
        → goes_to (elim b [ true ↦ refused_for reason.RunFull | false ↦ admitted w past (asked_of w q) ]) ≡ Some t
        → has_ended past t ≡ false
    by true g = absurd (none_not_some t g)
    by false g = admitted_lives w past (asked_of w q) t g

-- ---- a message that is accepted

-- there is room for one more message, its session has not ended, and it is the next one where the message starts it
pub record Comes (w : Setting) (past : Past) (m : Message) : Type 0 where
  pub few : length past.messages < w.limits.messages
  pub lives : has_ended past m.session ≡ false
  pub next : m.starts ≡ true → m.session ≡ length (births w past)

-- a way of a message for which there is room
not_full : (w : Setting) (past : Past) (q : Posted) (b : Bool) → is_full w past q.value ≡ b
    → (refused : route w past q ≡ refused_for reason.RunFull → ⊥) → length past.messages < w.limits.messages
not_full w past q true e refused =
    absurd (refused (ap (λ b. elim b [ true ↦ refused_for reason.RunFull | false ↦ admitted w past (asked_of w q) ]) e))
not_full w past q false e refused =
    few (length past.messages) w.limits.messages
    (front (nat_le w.limits.messages (length past.messages))
    (nat_lt w.limits.weight (total_weight past + weight q.value)) e)
  where
    front : (a b : Bool) → (a || b) ≡ false → a ≡ false
    front true b h = h
    front false b h = refl

    few : (n most : ℕ) → nat_le most n ≡ false → n < most
    few n most h = grind (arith, nat_tests)

pub comes : (w : Setting) (past : Past) (from : Origin) (q : Posted) (m : Message)
    → IsIdle w past (length (births w past))
    → message_of w past from q ≡ Some m → Comes w past m
comes w past from q m idle h = by (asked_of w q) h
  where
    on : (a : Asked) (way : Way) → route w past q ≡ way → message_on w past from a way ≡ Some m → Comes w past m
    on a (to_session s) e g =
        let is_m : message_to w from s false a ≡ m = same_of (message_to w from s false a) m g in
        record {
          few =
              not_full w past q (is_full w past q.value) refl
              (λ r. none_not_some s (sym (ap goes_to r) ∙ ap goes_to e));
          lives = ap (λ (x : Message). has_ended past x.session) (sym is_m) ∙ lives_there w past q s (ap goes_to e);
          next = λ starts. absurd (true≢false (sym starts ∙ ap (λ (x : Message). x.starts) (sym is_m)));
        }
    on a to_new e g =
        let is_m : message_to w from (length (births w past)) true a ≡ m = same_of
        (message_to w from (length (births w past)) true a) m g in
        record {
          few = not_full w past q (is_full w past q.value) refl (λ r. true≢false (ap is_new (sym e ∙ r)));
          lives =
              ap (λ (x : Message). has_ended past x.session) (sym is_m)
              ∙ unended w past (length (births w past)) idle (none_at_end (births w past));
          next = λ starts. ap (λ (x : Message). x.session) (sym is_m);
        }
    on a (refused_for why) e g = absurd (none_not_some m g)

    by : (o : Option Asked) → option_and_then (λ a. message_on w past from a (route w past q)) o ≡ Some m
        → Comes w past m
    by None g = absurd (none_not_some m g)
    by (Some a) g = on a (route w past q) refl g
