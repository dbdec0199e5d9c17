-- In a legal history a message that is not there was not taken, and a session that was not born was started by none.
use Rattle.std.proofs.Common.{◌≡◌, ℕ, zero, suc, Bool, true, false, not, ◌&&◌, ◌||◌, List, [], ◌∷◌, ◌++◌, length, refl, sym, ap, ◌∙◌, Option, None, Some, option_map, true≢false}
use Rattle.std.specs.Prelude.{nat_eq, slice_get, option_and_then, take, if◌then◌else◌}
use Rattle.std.specs.List.{list_any, filter_map, cons_option}
use Rattle.std.specs.Cmp.{unsigned_Decides}
use Rattle.std.proofs.lemmas.List.Elements.{filter_map-append}
use Rattle.std.proofs.lemmas.List.Folds.{list_any-append}
use Rattle.behaviour_tree.specs.declared.words.Reason.{Reason}
use Rattle.reqresp_book.specs.declared.origin.Origin.{Origin}
use Rattle.office_core.specs.declared.history.Act.{Act}
use Rattle.office_core.specs.declared.history.Act.TheVariants as act
use Rattle.office_core.specs.declared.history.Entry.{Entry}
use Rattle.office_core.specs.declared.message.Message.{Message}
use Rattle.office_core.specs.declared.post.Posted.{Posted}
use Rattle.office_core.specs.Limits.{Setting}
use Rattle.office_core.specs.Past.{Past, nothing_yet}
use Rattle.office_core.specs.Sessions.{singles_from, started_by, births, service_of}
use Rattle.office_core.specs.Boxes.{taken_in, taken, was_taken, queue}
use Rattle.office_core.specs.Keys.{first}
use Rattle.office_core.specs.Route.{Way, to_session, to_new, refused_for, Asked, asked_of, route}
use Rattle.office_core.specs.Accepted.{accepted_in, handed_in, origin_of, message_to, message_on, message_of, with_message, then_one, then_all, past_of}
use Rattle.office_core.specs.Legal.{oldest, replied, AreLegal, IsLegal}
use Rattle.office_core.proofs.Longer.{given_same}
use Rattle.office_plain.proofs.Lists.{same_of, none_not_some, eq_true, not_eq}

-- ---- lists with one more

none_in_front : {A : Type 0} (xs ys : List A) (n : ℕ) → slice_get (xs ++ ys) n ≡ None → slice_get xs n ≡ None
none_in_front [] ys n h = refl
none_in_front (x ∷ xs) ys zero h = absurd (none_not_some x (sym h))
none_in_front (x ∷ xs) ys (suc n) h = none_in_front xs ys n h

pub last_there : {A : Type 0} (xs : List A) (x : A) → slice_get (xs ++ x ∷ []) (length xs) ≡ Some x
last_there [] x = refl
last_there (y ∷ xs) x = last_there xs x

append_nil : {A : Type 0} (xs : List A) → xs ++ [] ≡ xs
append_nil [] = refl
append_nil (x ∷ xs) = ap (λ l. x ∷ l) (append_nil xs)

append_assoc : {A : Type 0} (xs ys zs : List A) → xs ++ (ys ++ zs) ≡ (xs ++ ys) ++ zs
append_assoc [] ys zs = refl
append_assoc (x ∷ xs) ys zs = ap (λ l. x ∷ l) (append_assoc xs ys zs)

or_both : (a b : Bool) → a ≡ false → b ≡ false → (a || b) ≡ false
or_both true b h g = absurd (true≢false h)
or_both false b h g = g

-- ---- messages that were taken

-- a message that is not there was not taken
abbrev pub NoneTaken : Past → Type 0
NoneTaken past = (n : ℕ) → slice_get past.messages n ≡ None → was_taken past n ≡ false

message_before : (ms : List Message) (more : Option Message) (n : ℕ) → slice_get (with_message ms more) n ≡ None
    → slice_get ms n ≡ None
message_before ms None n h = h
message_before ms (Some m) n h = none_in_front ms (m ∷ []) n h

-- what is taken is there
not_taken : (past : Past) (s k n : ℕ) → option_map act.Take (oldest past s k) ≡ Some (act.Take k)
    → slice_get past.messages n ≡ None
    → nat_eq n k ≡ false
not_taken past s k n reply none = not_eq n k (λ e. missing (ap (slice_get past.messages) (sym e) ∙ none))
  where
    missing : slice_get past.messages k ≡ None → ⊥
    missing h =
        none_not_some (act.Take k)
        (sym (ap (λ o. option_map act.Take (option_and_then (λ (m : Message). first (queue past s (m.op ∷ []))) o)) h)
        ∙ reply)

untaken_by : (w : Setting) (past : Past) (s : ℕ) (a : Act) (n : ℕ) → replied w past s a ≡ Some a
    → slice_get past.messages n ≡ None
    → was_taken past n ≡ false → was_taken (then_one w past (record { actor = s; act = a })) n ≡ false
untaken_by w past s (act.Take k) n reply none h =
    ap (list_any (nat_eq n)) (filter_map-append taken_in past.entries (record { actor = s; act = act.Take k } ∷ []))
    ∙ list_any-append (nat_eq n) (taken past) (k ∷ [])
    ∙ or_both (was_taken past n) (nat_eq n k || false) h (ap (λ b. b || false) (not_taken past s k n reply none))
untaken_by w past s a n reply none h =
    ap (list_any (nat_eq n)) (given_same w past (record { actor = s; act = a }) taken_in refl) ∙ h

taken_after : (w : Setting) (past : Past) (es : List Entry) → AreLegal w past es → NoneTaken past
    → NoneTaken (then_all w past es)
taken_after w past [] h none = none
taken_after w past (e ∷ es) h none =
    taken_after w (then_one w past e) es h.1
    (λ n g.
    let before : slice_get past.messages n ≡ None = message_before past.messages (accepted_in w past e) n g in
    untaken_by w past e.actor e.act n (h.0).reply before (none n before))

pub none_taken : (w : Setting) (h : List Entry) → IsLegal w h → NoneTaken (past_of w h)
none_taken w h legal = taken_after w nothing_yet h legal (λ n g. refl)

-- ---- sessions that were started

-- a message that started session t
abbrev pub starts_it : ℕ → Message → Bool
starts_it t m = m.starts && nat_eq t m.session

-- a session that was not born was started by no message
abbrev pub NoneStarted : Setting → Past → Type 0
NoneStarted w past = (t : ℕ) → service_of w past t ≡ None → list_any (starts_it t) past.messages ≡ false

-- the births before a message more, and that of the session that it starts
abbrev pub born_more : Option Message → List ℕ
born_more None = []
born_more (Some m) = filter_map started_by (m ∷ [])

births_more : (w : Setting) (past : Past) (e : Entry)
    → births w (then_one w past e) ≡ births w past ++ born_more (accepted_in w past e)
births_more w past e = by (accepted_in w past e)
  where
    singles : List ℕ
    singles = take w.limits.sessions (singles_from 0 w.parts.services)

    by : (o : Option Message)
        → singles ++ filter_map started_by (with_message past.messages o) ≡ births w past ++ born_more o
    by None = sym (append_nil (births w past))
    by (Some m) =
        ap (λ l. singles ++ l) (filter_map-append started_by past.messages (m ∷ []))
        ∙ append_assoc singles (filter_map started_by past.messages) (filter_map started_by (m ∷ []))

-- a message that starts a session starts the next one
pub starts_next : (w : Setting) (past : Past) (from : Origin) (q : Posted) (m : Message)
    → message_of w past from q ≡ Some m → m.starts ≡ true → m.session ≡ length (births w past)
starts_next w past from q m h starts = by (asked_of w q) h
  where
    on : (a : Asked) (way : Way) → message_on w past from a way ≡ Some m → m.session ≡ length (births w past)
    on a (to_session s) g =
        absurd (true≢false
        (sym starts ∙ ap (λ (x : Message). x.starts) (sym (same_of (message_to w from s false a) m g))))
    on a to_new g =
        ap (λ (x : Message). x.session) (sym (same_of (message_to w from (length (births w past)) true a) m g))
    on a (refused_for why) g = absurd (none_not_some m g)

    by : (o : Option Asked) → option_and_then (λ a. message_on w past from a (route w past q)) o ≡ Some m
        → m.session ≡ length (births w past)
    by None g = absurd (none_not_some m g)
    by (Some a) g = on a (route w past q) g

accepted_starts_next : (w : Setting) (past : Past) (from : Origin) (g : Option Posted) (m : Message)
    → option_and_then (message_of w past from) g ≡ Some m → m.starts ≡ true → m.session ≡ length (births w past)
accepted_starts_next w past from None m h starts = absurd (none_not_some m h)
accepted_starts_next w past from (Some q) m h starts = starts_next w past from q m h starts

unstarted_by : (w : Setting) (past : Past) (e : Entry) → NoneStarted w past → NoneStarted w (then_one w past e)
unstarted_by w past e none t h = by (accepted_in w past e) refl
  where
    longer : slice_get (births w past ++ born_more (accepted_in w past e)) t ≡ None
    longer = sym (ap (λ l. slice_get l t) (births_more w past e)) ∙ h

    before : list_any (starts_it t) past.messages ≡ false
    before = none t (none_in_front (births w past) (born_more (accepted_in w past e)) t longer)

    next : (m : Message) → m.starts ≡ true → accepted_in w past e ≡ Some m → m.session ≡ length (births w past)
    next m starts is_m =
        accepted_starts_next w past (origin_of e.actor e.act) (handed_in w past e.actor e.act) m is_m starts

    it_is : (m : Message) → m.starts ≡ true → accepted_in w past e ≡ Some m → t ≡ length (births w past) → ⊥
    it_is m starts is_m q =
        none_not_some m.service
        (sym longer ∙ ap (λ o. slice_get (births w past ++ born_more o) t) is_m
        ∙ (λ i. slice_get (births w past ++ cons_option (if starts i then Some m.service else None) []) (q i))
        ∙ last_there (births w past) m.service)

    other : (m : Message) (b : Bool) → m.starts ≡ b → accepted_in w past e ≡ Some m → (b && nat_eq t m.session) ≡ false
    other m true starts is_m = not_eq t m.session (λ q. it_is m starts is_m (q ∙ next m starts is_m))
    other m false starts is_m = refl

    by : (o : Option Message) → accepted_in w past e ≡ o → list_any (starts_it t) (with_message past.messages o) ≡ false
    by None is_m = before
    by (Some m) is_m =
        list_any-append (starts_it t) past.messages (m ∷ [])
        ∙ or_both (list_any (starts_it t) past.messages) ((m.starts && nat_eq t m.session) || false) before
        (ap (λ b. b || false) (other m m.starts refl is_m))

started_after : (w : Setting) (past : Past) (es : List Entry) → NoneStarted w past → NoneStarted w (then_all w past es)
started_after w past [] none = none
started_after w past (e ∷ es) none = started_after w (then_one w past e) es (unstarted_by w past e none)

pub none_started : (w : Setting) (h : List Entry) → NoneStarted w (past_of w h)
none_started w h = started_after w nothing_yet h (λ t g. refl)
