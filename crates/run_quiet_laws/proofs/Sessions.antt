-- Sessions that are kept agree with the history, also when workers made entries since.
use Rattle.std.proofs.Common.{◌≡◌, ◌≤◌, ◌<◌, ℕ, zero, suc, true, false, List, [], ◌∷◌, ◌++◌, length, Option, None, Some, nat_eq, nat_lt, nat_le, sym, ap, ◌∙◌, arith, le_antisymm, le_refl, zero-le}
use Rattle.std.specs.Prelude.{slice_get}
use Rattle.std.proofs.lemmas.Bool.{leb-true, ltb-true, ne_eqb}
use Rattle.std.proofs.lemmas.Option.{slice_get-get_or, slice_get_within}
use Rattle.behaviour_tree.specs.declared.words.Event.{Event}
use Rattle.session_calculus.specs.After.{Config}
use Rattle.office_core.specs.declared.history.Entry.{Entry}
use Rattle.office_core.specs.Limits.{Setting, first_worker}
use Rattle.office_core.specs.Past.{Past}
use Rattle.office_core.specs.Sessions.{births, service_of, was_adopted}
use Rattle.office_core.specs.Accepted.{accepted_in, past_of}
use Rattle.run_record.specs.Steps.{is_call_of}
use Rattle.run_record.specs.Agrees.{HasSessions, IsSession}
use Rattle.session_turn.specs.Seen.{Seat}
use Rattle.session_turn.specs.Lives.{Kept, Moment, by_other}
use Rattle.session_turn.proofs.Agreeing.{agrees}
use Rattle.session_turn.proofs.Histories.{foreign-call, service_stays}
use Rattle.run_quiet_laws.proofs.Aside.{past_unsent}
use Rattle.run_quiet_laws.proofs.CallsOn.{calls_same}
use Rattle.run_quiet_laws.proofs.Once.{agrees_with}
use Rattle.run_quiet_laws.proofs.Quiet.{IsBeside}

-- a kept session stays so when another makes an entry
pub kept_by_other : {a : Seat} {es : List Event} {service : ℕ} {c : Option Config} {h : List Entry} (e : Entry)
    → nat_eq a.session e.actor ≡ false → Kept a es (record { service = service; config = c; seen = h })
    → Kept a es (record { service = service; config = c; seen = h ++ e ∷ [] })
kept_by_other {h = h} e apart k = record {
  from = k.from;
  start = k.start;
  here = k.here;
  at = k.at;
  lives = by_other h _ k.here e k.lives apart;
}

-- a kept session agrees with what it saw
pub is_session : {a : Seat} {es : List Event} {now : Moment} → Kept a es now → IsSession a.setting now.seen a.session es
is_session k = let x = agrees k in (x.0, x.2)

-- and still does after an entry that is no call of it
pub is_session_on : {w : Setting} {h : List Entry} {s : ℕ} {es : List Event} (e : Entry) → is_call_of s e ≡ false
    → IsSession w h s es → IsSession w (h ++ e ∷ []) s es
is_session_on {w} {h} {s} {es} e other x =
    (x.0, agrees_with (λ d born. service_stays w h e s d born) (sym (calls_same w h s e other)) x.1)

-- ---- all of them

least_by : (m n : ℕ) → ((s : ℕ) → s < m → s < n) → m ≤ n
least_by zero n f = zero-le
least_by (suc k) n f = f k (le_refl (suc k))

-- where each session that was born was adopted, and those that were adopted agree with the history, it has them
pub has_sessions : (w : Setting) (h : List Entry) (ss : List (List Event))
    → ((s d : ℕ) → service_of w (past_of w h) s ≡ Some d → was_adopted (past_of w h) s ≡ true)
    → ((s : ℕ) → was_adopted (past_of w h) s ≡ nat_lt s (length ss))
    → ((s : ℕ) (es : List Event) → slice_get ss s ≡ Some es → IsSession w h s es)
    → HasSessions w h ss
has_sessions w h ss all adopted each = record {
  all = le_antisymm
      (least_by (length ss) (length (births w (past_of w h))) born)
      (least_by (length (births w (past_of w h))) (length ss) there);
  each = each;
}
  where
    born : (s : ℕ) → s < length ss → s < length (births w (past_of w h))
    born s within =
        let x = each s _ (slice_get-get_or ss s [] within) in
        slice_get_within (births w (past_of w h)) s x.1.service x.1.born

    there : (s : ℕ) → s < length (births w (past_of w h)) → s < length ss
    there s within =
        ltb-true s (length ss)
        (sym (adopted s) ∙ all s _ (slice_get-get_or (births w (past_of w h)) s 0 within))

-- an entry of others that accepts no message leaves that so
pub has_sessions_on : (w : Setting) (h : List Entry) (e : Entry) (ss : List (List Event))
    → accepted_in w (past_of w h) e ≡ None → IsBeside e ss → HasSessions w h ss → HasSessions w (h ++ e ∷ []) ss
has_sessions_on w h e ss unsent beside has = record {
  all = has.all ∙ ap (λ (p : Past). length (births w p)) (sym (past_unsent w h e unsent));
  each = λ s es there. is_session_on e (beside s es there) (has.each s es there);
}

apart_by : (s n m actor : ℕ) → s < n → n ≤ m → m ≤ actor → s ≡ actor → ⊥
apart_by s n m actor h f g e = omega (arith, h, f, g, e)

-- an entry of a worker is no call of a session
pub beside_worker : (ss : List (List Event)) (e : Entry) → length ss ≤ first_worker
    → nat_le first_worker e.actor ≡ true → IsBeside e ss
beside_worker ss e few worker s es there =
    foreign-call s e
    (ne_eqb s e.actor
    (apart_by s (length ss) first_worker e.actor (slice_get_within ss s es there) few
    (leb-true first_worker e.actor worker)))
