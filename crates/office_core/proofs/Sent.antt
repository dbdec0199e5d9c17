-- In a legal history a call that went to a service of the program is a message that came from it.
use Rattle.std.proofs.Common.{◌≡◌, ℕ, zero, suc, Bool, true, false, List, [], ◌∷◌, ◌++◌, length, refl, sym, ap, subst, ◌∙◌, Option, None, Some, true≢false}
use Rattle.std.specs.Prelude.{slice_get, option_and_then}
use Rattle.jolie_trees.specs.Data.{Tree}
use Rattle.behaviour_tree.specs.declared.words.Reason.{Reason}
use Rattle.behaviour_tree.specs.declared.words.Reason.TheVariants as reason
use Rattle.reqresp_book.specs.declared.origin.Origin.{Origin}
use Rattle.reqresp_book.specs.declared.origin.Origin.TheVariants as origin
use Rattle.office_core.specs.declared.history.Act.{Act}
use Rattle.office_core.specs.declared.history.Act.TheVariants as act
use Rattle.office_core.specs.declared.history.Entry.{Entry}
use Rattle.office_core.specs.declared.history.Placed.{Placed}
use Rattle.office_core.specs.declared.history.Placed.TheVariants as at
use Rattle.office_core.specs.declared.post.Posted.{Posted}
use Rattle.office_core.specs.Limits.{Setting}
use Rattle.office_core.specs.Past.{Message, Past, nothing_yet}
use Rattle.office_core.specs.Sessions.{births}
use Rattle.office_core.specs.Route.{Way, to_session, to_new, refused_for, Asked, asked_of, is_full, admitted, route, send_reply}
use Rattle.office_core.specs.Accepted.{accepted_in, handed_in, message_to, message_on, message_of, then_one, then_all, past_of}
use Rattle.office_core.specs.Calls.{Call, calls, sent_in}
use Rattle.office_core.specs.Legal.{placed, replied, AreLegal, IsLegal}
use Rattle.office_core.proofs.OneAnswer.{message_stays}
use Rattle.office_core.proofs.Longer.{given_same, given_more, messages_more}

-- a call is the message of a number, where it went to one
pub record IsSent (past : Past) (s k n : ℕ) : Type 0 where
  pub message : Message
  pub there : slice_get past.messages n ≡ Some message
  pub from : message.origin ≡ origin.Session s k

-- each call that went to a service of the program is its message
abbrev pub AreSent : Past → Type 0
AreSent past = (i n : ℕ) (c : Call) → slice_get (calls past) i ≡ Some c → c.placed ≡ at.At n → IsSent past c.session c.number n

none_not_some : {A : Type 0} (x : A) → None ≡ Some x → ⊥
none_not_some x h = true≢false (sym (ap (λ o. elim o [ None ↦ false | Some y ↦ true ]) h))

same_of : {A : Type 0} (x y : A) → Some x ≡ Some y → x ≡ y
same_of x y h = ap (λ o. elim o [ None ↦ x | Some z ↦ z ]) h

stays_sent : (w : Setting) (past : Past) (e : Entry) (s k n : ℕ) → IsSent past s k n → IsSent (then_one w past e) s k n
stays_sent w past e s k n h =
    record {
      message = h.message;
      there = message_stays past.messages (accepted_in w past e) n h.message h.there;
      from = h.from;
    }

-- what stands in a list with one more: it stood there, or is the last
one_more : {A : Type 0} (xs : List A) (x : A) (P : A → Type 0) (i : ℕ) (c : A)
    → ((j : ℕ) (d : A) → slice_get xs j ≡ Some d → P d) → P x → slice_get (xs ++ x ∷ []) i ≡ Some c → P c
one_more [] x P zero c h p g = subst P (same_of x c g) p
one_more [] x P (suc i) c h p g = absurd (none_not_some c g)
one_more (y ∷ xs) x P zero c h p g = h zero c g
one_more (y ∷ xs) x P (suc i) c h p g = one_more xs x P i c (λ j d q. h (suc j) d q) p g

last_there : {A : Type 0} (xs : List A) (x : A) → slice_get (xs ++ x ∷ []) (length xs) ≡ Some x
last_there [] x = refl
last_there (y ∷ xs) x = last_there xs x

-- ---- the message of a call

number_of : (n k : ℕ) → at.At n ≡ at.At k → k ≡ n
number_of n k h = ap (λ p. elim p [ at.At j ↦ j | at.Refused why ↦ k | at.Out ↦ k ]) (sym h)

not_refused : (why : Reason) (n : ℕ) → at.Refused why ≡ at.At n → ⊥
not_refused why n h = true≢false (sym (ap (λ p. elim p [ at.At j ↦ true | at.Refused r ↦ false | at.Out ↦ false ]) h))

not_out : (n : ℕ) → at.Out ≡ at.At n → ⊥
not_out n h = true≢false (sym (ap (λ p. elim p [ at.At j ↦ true | at.Refused r ↦ false | at.Out ↦ false ]) h))

goes : (w : Setting) (past : Past) (from : Origin) (a : Asked) (way : Way) (n : ℕ) → send_reply past way ≡ at.At n
    → (m : Message) × ((message_on w past from a way ≡ Some m) × ((m.origin ≡ from) × (n ≡ length past.messages)))
goes w past from a (to_session s) n h =
    (message_to w from s false a, (refl, (refl, number_of (length past.messages) n h)))
goes w past from a to_new n h =
    (message_to w from (length (births w past)) true a, (refl, (refl, number_of (length past.messages) n h)))
goes w past from a (refused_for why) n h = absurd (not_refused why n h)

-- a message to an operation that no port has is refused
unknown_refused : (w : Setting) (past : Past) (q : Posted) → asked_of w q ≡ None → (why : Reason) × (route w past q ≡ refused_for why)
unknown_refused w past q h = by (is_full w past q.value)
  where
    by : (b : Bool) → (why : Reason) × ((elim b [ true ↦ refused_for reason.RunFull | false ↦ admitted w past (asked_of w q) ]) ≡ refused_for why)
    by true = (reason.RunFull, refl)
    by false = (reason.UnknownOperation, ap (admitted w past) h)

-- what a session handed in and what went to a number is accepted with that
sends : (w : Setting) (past : Past) (from : Origin) (n : ℕ) (g : Option Posted) → placed w past g ≡ at.At n
    → (m : Message) × ((option_and_then (message_of w past from) g ≡ Some m) × ((m.origin ≡ from) × (n ≡ length past.messages)))
sends w past from n None h = absurd (not_out n h)
sends w past from n (Some q) h = by (asked_of w q) refl
  where
    by : (a : Option Asked) → asked_of w q ≡ a
        → (m : Message) × ((message_of w past from q ≡ Some m) × ((m.origin ≡ from) × (n ≡ length past.messages)))
    by None e =
        let refused = unknown_refused w past q e in
        absurd (not_refused refused.0 n (sym (ap (send_reply past) refused.1) ∙ h))
    by (Some a) e =
        let there = goes w past from a (route w past q) n h in
        (there.0, (ap (option_and_then (λ x. message_on w past from x (route w past q))) e ∙ there.1.0, there.1.1))

-- ---- each entry

abbrev sending : ℕ → ℕ → ℕ → ℕ → Tree → Bool → Placed → Entry
sending s k port op v wants r = record { actor = s; act = act.Send k port op v wants r }

-- the call that an entry sends went where the office says
sent_now : (w : Setting) (past : Past) (s k port op : ℕ) (v : Tree) (wants : Bool) (r : Placed) (n : ℕ)
    → placed w past (handed_in w past s (act.Send k port op v wants r)) ≡ r → r ≡ at.At n
    → IsSent (then_one w past (sending s k port op v wants r)) s k n
sent_now w past s k port op v wants r n said went =
    let e : Entry = sending s k port op v wants r in
    let m = sends w past (origin.Session s k) n (handed_in w past s (act.Send k port op v wants r)) (said ∙ went) in
    record {
      message = m.0;
      there =
          ap (λ ms. slice_get ms n) (messages_more w past e m.0 m.1.0)
          ∙ ap (slice_get (past.messages ++ m.0 ∷ [])) (m.1.1.1) ∙ last_there past.messages m.0;
      from = m.1.1.0;
    }

-- where the call of an act went
abbrev went_in : Placed → Act → Placed
went_in r a = elim a [ act.Send k port op v wants p ↦ p | _ ↦ r ]

by_act : (w : Setting) (past : Past) (s : ℕ) (a : Act)
    → replied w past s a ≡ Some a → AreSent past → AreSent (then_one w past (record { actor = s; act = a }))
by_act w past s (act.Send k port op v wants r) reply sent i n c there went =
    one_more (calls past)
    (record { session = s; number = k; port = port; op = op; value = v; wants = wants; placed = r })
    (λ (d : Call). (j : ℕ) → d.placed ≡ at.At j → IsSent (then_one w past e) d.session d.number j)
    i c
    (λ j d at_j l q. stays_sent w past e d.session d.number l (sent j l d at_j q))
    (λ l q. sent_now w past s k port op v wants r l said q)
    (sym (ap (λ cs. slice_get cs i) (given_more w past e sent_in (record { session = s; number = k; port = port; op = op; value = v; wants = wants; placed = r }) refl)) ∙ there)
    n went
  where
    e : Entry
    e = sending s k port op v wants r

    said : placed w past (handed_in w past s (act.Send k port op v wants r)) ≡ r
    said = ap (λ o. elim o [ None ↦ r | Some a ↦ went_in r a ]) reply
by_act w past s a reply sent i n c there went =
    stays_sent w past (record { actor = s; act = a }) c.session c.number n
    (sent i n c (sym (ap (λ cs. slice_get cs i) (given_same w past (record { actor = s; act = a }) sent_in refl)) ∙ there) went)

sent_after : (w : Setting) (past : Past) (es : List Entry) → AreLegal w past es → AreSent past → AreSent (then_all w past es)
sent_after w past [] h sent = sent
sent_after w past (e ∷ es) h sent =
    sent_after w (then_one w past e) es h.1 (by_act w past e.actor e.act (h.0).reply sent)

-- each call of a legal history that went to a service of the program is the message of its number
pub calls_are_messages : (w : Setting) (h : List Entry) → IsLegal w h → AreSent (past_of w h)
calls_are_messages w h legal = sent_after w nothing_yet h legal (λ i n c there went. absurd (none_not_some c there))
