-- A session that did nothing sent no call and wrote nothing; so each call is of a session that was born.
use Rattle.std.proofs.Common.{◌≡◌, ℕ, zero, suc, Bool, true, false, ◌&&◌, ◌||◌, List, [], ◌∷◌, ◌++◌, refl, sym, ap, ◌∙◌, Option, None, Some, true≢false}
use Rattle.std.specs.Prelude.{nat_eq, slice_get, if◌then◌else◌}
use Rattle.std.specs.List.{list_any, filter_map, cons_option}
use Rattle.jolie_trees.specs.declared.root.Root.{Root}
use Rattle.correlation.specs.declared.bind_reply.BindReply.TheVariants as reply
use Rattle.correlation.specs.declared.session.Written.{Written}
use Rattle.office_core.specs.declared.history.Act.{Act}
use Rattle.office_core.specs.declared.history.Act.TheVariants as act
use Rattle.office_core.specs.declared.history.Entry.{Entry}
use Rattle.office_core.specs.declared.message.Call.{Call}
use Rattle.office_core.specs.Limits.{Setting}
use Rattle.office_core.specs.Past.{Past}
use Rattle.office_core.specs.Sessions.{service_of}
use Rattle.office_core.specs.Calls.{calls, sent_in}
use Rattle.office_core.proofs.Unborn.{acts_as, IsIdle}
use Rattle.office_plain.specs.Kept.{places_from, call_places, written_in}
use Rattle.office_plain.proofs.Lists.{same_of, none_not_some, itself}

-- the first entry and the others
first_off : (a b : Bool) → (a || b) ≡ false → a ≡ false
first_off true b h = h
first_off false b h = refl

others_off : (a b : Bool) → (a || b) ≡ false → b ≡ false
others_off true b h = absurd (true≢false h)
others_off false b h = h

others_on : (a b : Bool) → b ≡ true → (a || b) ≡ true
others_on true b h = refl
others_on false b h = h

-- an entry
abbrev entry : ℕ → Act → Entry
entry actor a = record { actor = actor; act = a }

-- ---- calls

no_call : (s actor : ℕ) (a : Act) (cs : List Call) (k : ℕ) → acts_as s (entry actor a) ≡ false
    → ((j : ℕ) → places_from (λ (c : Call). nat_eq s c.session) j cs ≡ [])
    → places_from (λ (c : Call). nat_eq s c.session) k (cons_option (sent_in (entry actor a)) cs) ≡ []
no_call s actor (act.Send n port op v wants r) cs k h none = λ i. (if h i then k ∷ [] else []) ++ none (suc k) i
no_call s actor a cs k h none = none k

no_calls : (s : ℕ) (es : List Entry) → list_any (acts_as s) es ≡ false
    → (k : ℕ) → places_from (λ (c : Call). nat_eq s c.session) k (filter_map sent_in es) ≡ []
no_calls s [] h k = refl
no_calls s (e ∷ es) h k =
    no_call s e.actor e.act (filter_map sent_in es) k (first_off (acts_as s e) (list_any (acts_as s) es) h)
    (no_calls s es (others_off (acts_as s e) (list_any (acts_as s) es) h))

-- a session that was not born has no calls
pub unborn_calls : (w : Setting) (past : Past) (s : ℕ) → IsIdle w past s → service_of w past s ≡ None
    → call_places past s ≡ []
unborn_calls w past s idle none = no_calls s past.entries (idle none) 0

sent_acts : (actor : ℕ) (a : Act) (es : List Entry) (i : ℕ) (c : Call)
    → ((j : ℕ) → slice_get (filter_map sent_in es) j ≡ Some c → list_any (acts_as c.session) es ≡ true)
    → slice_get (cons_option (sent_in (entry actor a)) (filter_map sent_in es)) i ≡ Some c
    → (acts_as c.session (entry actor a) || list_any (acts_as c.session) es) ≡ true
sent_acts actor (act.Send n port op v wants r) es zero c rest h =
    let same : record { session = actor; number = n; port = port; op = op; value = v; wants = wants; placed = r } ≡ c =
    same_of (record { session = actor; number = n; port = port; op = op; value = v; wants = wants; placed = r }) c h in
    ap (λ b. b || list_any (acts_as c.session) es) (ap (λ (x : Call). nat_eq x.session actor) (sym same) ∙ itself actor)
sent_acts actor (act.Send n port op v wants r) es (suc j) c rest h =
    others_on (acts_as c.session (entry actor (act.Send n port op v wants r))) (list_any (acts_as c.session) es)
    (rest j h)
sent_acts actor a es i c rest h =
    others_on (acts_as c.session (entry actor a)) (list_any (acts_as c.session) es) (rest i h)

callers_act : (es : List Entry) (i : ℕ) (c : Call) → slice_get (filter_map sent_in es) i ≡ Some c
    → list_any (acts_as c.session) es ≡ true
callers_act [] i c h = absurd (none_not_some c h)
callers_act (e ∷ es) i c h = sent_acts e.actor e.act es i c (λ j g. callers_act es j c g) h

-- the session of a call was born
pub caller_born : (w : Setting) (past : Past) (i : ℕ) (c : Call) → IsIdle w past c.session
    → slice_get (calls past) i ≡ Some c
    → service_of w past c.session ≡ None → ⊥
caller_born w past i c idle there none = true≢false (sym (callers_act past.entries i c there) ∙ idle none)

-- ---- what is written

no_bind : (s actor : ℕ) (a : Act) (ws : List Written) → acts_as s (entry actor a) ≡ false → ws ≡ []
    → cons_option (written_in s (entry actor a)) ws ≡ []
no_bind s actor (act.Bind v x reply.Bound) ws h none =
    λ i. cons_option (if h i then Some (record { variable = v; value = x }) else None) (none i)
no_bind s actor (act.Bind v x (reply.Held t)) ws h none = none
no_bind s actor (act.Bind v x reply.Fixed) ws h none = none
no_bind s actor a ws h none = none

no_binds : (s : ℕ) (es : List Entry) → list_any (acts_as s) es ≡ false → filter_map (written_in s) es ≡ []
no_binds s [] h = refl
no_binds s (e ∷ es) h =
    no_bind s e.actor e.act (filter_map (written_in s) es) (first_off (acts_as s e) (list_any (acts_as s) es) h)
    (no_binds s es (others_off (acts_as s e) (list_any (acts_as s) es) h))

-- entries wrote nothing into the variables of a session that was not born
pub unborn_writes : (w : Setting) (past : Past) (s : ℕ) → IsIdle w past s → service_of w past s ≡ None
    → filter_map (written_in s) past.entries ≡ []
unborn_writes w past s idle none = no_binds s past.entries (idle none)
