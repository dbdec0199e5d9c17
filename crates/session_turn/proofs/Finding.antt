-- What waits for a session, by the mail that is next.
use Rattle.std.proofs.Common.{◌≡◌, ℕ, Bool, ◌&&◌, List, [], ◌∷◌, Option, None, Some, is_some, nat_eq, slice_get, option_map, option_and_then, refl, sym, ap, subst, ◌∙◌, zero-add}
use Rattle.std.specs.List.{list_any}
use Rattle.std.proofs.lemmas.Option.{none-some, same_Some}
use Rattle.office_core.specs.declared.message.Message.{Message}
use Rattle.office_core.specs.declared.post.Mail.{Mail}
use Rattle.office_core.specs.Past.{Past}
use Rattle.office_core.specs.Boxes.{queue, taken}
use Rattle.office_core.specs.Keys.{first}
use Rattle.office_plain.specs.Replies.{mail_of, next_mail}
use Rattle.session_turn.proofs.Giving.{number_first}

-- The mail is the first message of these operations that waits for the session.
pub record Waits (past : Past) (s : ℕ) (ops : List ℕ) (mail : Mail) : Type 0 where
  pub first : Some mail.message ≡ first (queue past s ops)
  pub message : Message
  pub there : slice_get past.messages mail.message ≡ Some message
  pub op : mail.op ≡ message.op
  pub value : mail.value ≡ message.value

module _ (past : Past) (s : ℕ) (ops : List ℕ) where
  -- the mail of a message, where there is a number and a message
  abbrev mail_at : Option ℕ → Option Mail
  mail_at o = option_and_then (λ n. option_map (mail_of n) (slice_get past.messages n)) o

  -- what is first in the queue is there
  there : (n : ℕ) → first (queue past s ops) ≡ Some n → (m : Message) × (slice_get past.messages n ≡ Some m)
  there n h =
      let is_it : Message → Bool = λ m. nat_eq s m.session && list_any (nat_eq m.op) ops in
      let x = number_first (taken past) is_it 0 past.messages n (sym h) in
      (x.message, ap (slice_get past.messages) (x.number ∙ zero-add x.place) ∙ x.there)

  -- where a message waits first, there is a mail
  next_of : (n : ℕ) → first (queue past s ops) ≡ Some n → (mail : Mail) × (next_mail past s ops ≡ Some mail)
  next_of n h =
      let m = there n h in
      (mail_of n m.0, ap mail_at h ∙ ap (option_map (mail_of n)) m.1)

  -- nothing waits where no mail is next
  pub none_waits : next_mail past s ops ≡ None → queue past s ops ≡ []
  none_waits e = by (queue past s ops) refl
    where
      by : (ns : List ℕ) → queue past s ops ≡ ns → ns ≡ []
      by [] h = refl
      by (n ∷ ns) h = let next = next_of n (ap first h) in absurd (none-some next.0 (sym e ∙ next.1))

  -- what waits first is the mail that is next
  pub waits_first : (mail : Mail) → Some mail ≡ next_mail past s ops → Waits past s ops mail
  waits_first mail e = by (first (queue past s ops)) refl e
    where
      at : (n : ℕ) → first (queue past s ops) ≡ Some n → (g : Option Message) → slice_get past.messages n ≡ g
          → Some mail ≡ option_map (mail_of n) g → Waits past s ops mail
      at n h None k f = absurd (none-some mail (sym f))
      at n h (Some m) k f =
          subst (Waits past s ops) (sym (same_Some mail (mail_of n m) f))
          (record { first = sym h; message = m; there = k; op = refl; value = refl })

      by : (o : Option ℕ) → first (queue past s ops) ≡ o → Some mail ≡ mail_at o → Waits past s ops mail
      by None h f = absurd (none-some mail (sym f))
      by (Some n) h f = at n h (slice_get past.messages n) refl f

  -- a mail is next exactly where a message waits
  pub some_waits : is_some (next_mail past s ops) ≡ is_some (first (queue past s ops))
  some_waits = by (first (queue past s ops)) refl
    where
      by : (o : Option ℕ) → first (queue past s ops) ≡ o → is_some (mail_at o) ≡ is_some o
      by None h = refl
      by (Some n) h = ap (λ g. is_some (option_map (mail_of n) g)) (there n h).1
