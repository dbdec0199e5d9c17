-- Which connection owes the answer of a posting, and that one does where the posting is due.
use Rattle.std.proofs.Common.{◌≡◌, refl, sym, ap, ◌∙◌, subst, arith, ℕ, zero, suc, ◌<◌, Bool, true, false, inl, inr, List, [], ◌∷◌, length, Option, None, Some, Result, Ok, Err, IfOk, slice_get, get_or, nat_eq, true≢false}
use Rattle.std.specs.Prelude.{if◌then◌else◌}
use Rattle.std.specs.List.{list_any}
use Rattle.std.proofs.lemmas.Bool.{and_parts, and_from}
use Rattle.std.proofs.lemmas.List.{length-map}
use Rattle.std.proofs.lemmas.Option.{none-some, same_Some, slice_get_within, slice_get_read}
use Rattle.outside_traits.specs.Told.{SinkTold, WireTold}
use Rattle.behaviour_tree.specs.Data.{ProgramParts}
use Rattle.behaviour_tree.specs.declared.words.Outcome.{Outcome}
use Rattle.run_theorem.specs.Exchange.{Asked, Told, Exchange}
use Rattle.run_theorem.specs.Calls.{IsDue}
use Rattle.run_theorem.specs.Texts.{posting_of}
use Rattle.run_theorem.specs.RunConnections.{came_at}
use Rattle.jsonrpc_postings.specs.Told.{came_for, response_told}
use Rattle.conn_future.specs.declared.stage.Stage.{Stage}
use Rattle.conn_future.specs.declared.stage.Stage.TheVariants as Stages
use Rattle.run_door_front.specs.declared.link.PendingReply.{PendingReply}
use Rattle.outside_polling.specs.Polls.{PollTold}
use Rattle.run_door_front.specs.Keeping.{ClientTold, told_of_wire, Keeping, stage_at, owes_at}
use Rattle.run_door_front.specs.Exchanged.{Sides, sides_of, OwesAt, HasExchanged}
use Rattle.run_door_front.specs.AnswerSteps.{is_pending, owes, awaited_at, awaited_by, awaited, Awaits, told_of, IsTextOf, TellsText, HasTold}
use Rattle.run_door_front.proofs.Changing.{slice_get-mapped}
use Rattle.run_door_front.proofs.Entries.{nat_eq_same, nat_eq_is}
use Rattle.run_door_front.proofs.Links.{any-left}
use Rattle.run_door_front.proofs.Requests.{came_some, connection_there}
use Rattle.run_door_front.proofs.OneMore.{link_there}
use Rattle.run_door_front.proofs.Waiting.{told_found}

-- ---- a connection that owes an answer

owing_stage : (s : Stage) → owes_at s ≡ true → s ≡ Stages.Owes
owing_stage Stages.Reads e = absurd (true≢false (sym e))
owing_stage Stages.Asks e = absurd (true≢false (sym e))
owing_stage Stages.Owes e = refl
owing_stage Stages.Writes e = absurd (true≢false (sym e))
owing_stage Stages.Ended e = absurd (true≢false (sym e))
owing_stage Stages.Closed e = absurd (true≢false (sym e))
owing_stage Stages.ReadFailed e = absurd (true≢false (sym e))
owing_stage Stages.WriteFailed e = absurd (true≢false (sym e))
owing_stage Stages.Spent e = absurd (true≢false (sym e))

-- its stage, and its request that has no answer yet
pub owing_is : (place : ℕ) (link : ClientTold) → owes place link ≡ true → (stage_at link ≡ Stages.Owes) × (is_pending place link.pending ≡ true)
owing_is place link owing =
    let both = and_parts (owes_at (stage_at link)) (is_pending place link.pending) owing in
    (owing_stage (stage_at link) both.0, both.1)

pub owing_some : (place : ℕ) (link : ClientTold) → owes place link ≡ true → link.pending ≡ None → ⊥
owing_some place link owing none = true≢false (sym (owing_is place link owing).1 ∙ ap (is_pending place) none)

same_pending : (place : ℕ) (pending : PendingReply) → nat_eq pending.place place ≡ true → pending ≡ record { place = place; read = pending.read }
same_pending place pending e = λ i. record { place = nat_eq_is pending.place place e i; read = pending.read }

-- the text that answers that request
pub text_is : {E : Type 0} (r : Result (Option (List ℕ)) E) (parts : ProgramParts) (place : ℕ) (outcomes : List Outcome) (link : ClientTold) (pending : PendingReply)
    → link.pending ≡ Some pending → owes place link ≡ true → IfOk r (λ text. text ≡ response_told parts (came_for link.service pending.read) outcomes)
    → IfOk r (λ text. IsTextOf parts (told_of place outcomes) link text)
text_is (Ok text) parts place outcomes link pending is owing sent = record {
  read = pending.read;
  pending = is ∙ ap Some (same_pending place pending (ap (is_pending place) (sym is) ∙ (owing_is place link owing).1));
  sent = sent;
}
text_is (Err e) parts place outcomes link pending is owing sent = tt

-- it is told that text
pub client_told : (parts : ProgramParts) (t : Told) (text : Option (List ℕ)) (before now : ClientTold) → IsTextOf parts t before text
    → TellsText text before.seen now.seen → now.pending ≡ None → now.service ≡ before.service
    → told_of_wire now ≡ told_of_wire before → HasTold parts t before now
client_told parts t text before now of_place tells paid service wire = record {
  text = text;
  of_place = of_place;
  tells = tells;
  paid = paid;
  service = service;
  waits = ap (λ (w : PollTold). w.waits) wire;
  row = ap (λ (w : PollTold). w.in_a_row) wire;
  longest = ap (λ (w : PollTold). w.longest) wire;
}

-- ---- which connection that is

pub awaited_there : (place n : ℕ) (links : List ClientTold) (traffics : List ℕ) → awaited place links traffics ≡ Some n
    → (slice_get traffics place ≡ Some n) × (link : ClientTold) × (slice_get links n ≡ Some link) × (owes place link ≡ true)
awaited_there place n links traffics e = by_traffic (slice_get traffics place) refl e
  where
    by_owing : (number : ℕ) (link : ClientTold) → slice_get traffics place ≡ Some number → slice_get links number ≡ Some link
        → (b : Bool) → owes place link ≡ b → (if b then Some number else None) ≡ Some n
        → (slice_get traffics place ≡ Some n) × (link : ClientTold) × (slice_get links n ≡ Some link) × (owes place link ≡ true)
    by_owing number link traffic there true owing is =
        let same : number ≡ n = same_Some number n is in
        (traffic ∙ ap Some same, link, ap (slice_get links) (sym same) ∙ there, owing)
    by_owing number link traffic there false owing is = absurd (none-some n is)

    by_link : (number : ℕ) → slice_get traffics place ≡ Some number → (o : Option ClientTold) → slice_get links number ≡ o → awaited_at place number o ≡ Some n
        → (slice_get traffics place ≡ Some n) × (link : ClientTold) × (slice_get links n ≡ Some link) × (owes place link ≡ true)
    by_link number traffic None there is = absurd (none-some n is)
    by_link number traffic (Some link) there is = by_owing number link traffic there (owes place link) refl is

    by_traffic : (o : Option ℕ) → slice_get traffics place ≡ o → awaited_by place links o ≡ Some n
        → (slice_get traffics place ≡ Some n) × (link : ClientTold) × (slice_get links n ≡ Some link) × (owes place link ≡ true)
    by_traffic None traffic is = absurd (none-some n is)
    by_traffic (Some number) traffic is = by_link number traffic (slice_get links number) refl is

-- the connection itself
pub awaited_is : (place n : ℕ) (links : List ClientTold) (traffics : List ℕ) (x : ClientTold) → awaited place links traffics ≡ Some n → x ≡ get_or links n x
    → (slice_get links n ≡ Some x) × (owes place x ≡ true)
awaited_is place n links traffics x e value =
    let at = awaited_there place n links traffics e in
    let there : slice_get links n ≡ Some x = slice_get_read links (length links) n x refl (slice_get_within links n at.1 at.2) value in
    (there, subst (λ l. owes place l ≡ true) (same_Some at.1 x (sym at.2 ∙ there)) at.3)

awaits_so : (place n : ℕ) (links : List ClientTold) (traffics : List ℕ) (link : ClientTold) → slice_get traffics place ≡ Some n → slice_get links n ≡ Some link
    → owes place link ≡ true → awaited place links traffics ≡ Some n
awaits_so place n links traffics link traffic there owing =
    ap (awaited_by place links) traffic ∙ ap (awaited_at place n) there ∙ ap (λ b. if b then Some n else None) owing

-- ---- a posting that is due

entry_at : {A : Type 0} (xs : List A) (i : ℕ) → i < length xs → (x : A) × (slice_get xs i ≡ Some x)
entry_at [] i less = absurd (omega (arith, less))
entry_at (x ∷ xs) zero less = (x, refl)
entry_at (x ∷ xs) (suc i) less = entry_at xs i (omega (arith, less))

module _ (IsMade : WireTold → Type 0) (parts : ProgramParts) (first : Sides) (old : Keeping) (notes : SinkTold) (d : Exchange) (place : ℕ) (outcomes : List Outcome)
    (h : HasExchanged IsMade parts first (sides_of old notes) d) (due : IsDue place outcomes d) where
  -- its place was given
  pub given_before : place < length h.all.asked
  given_before =
      let inside : place < length d.received.given = slice_get_within d.received.given place due.posting due.given in
      let postings : length d.received.given ≡ length h.all.came = ap length h.given ∙ length-map h.all.came posting_of in
      let requests : length h.all.came ≡ length h.all.asked =
      sym (length-map h.all.came Some) ∙ sym (ap length h.came) ∙ length-map h.all.asked (came_at h.connections) in
      omega arith

  -- so that a connection owes its answer
  pub due_awaits : (n : ℕ) × Awaits place n old
  due_awaits =
      let asked = entry_at h.all.asked place given_before in
      let came = came_some h.connections h.all.asked h.all.came h.came place asked.0 asked.1 in
      let connection = connection_there h.connections h.all.asked h.all.came h.came place asked.0 asked.1 in
      elim (h.answers place asked.0 came.0 connection.0 asked.1 came.1 connection.1) [
        | inl heard ↦
            let found = told_found place h.heard heard.told heard.there heard.place in
            let told = ap (list_any (λ (t : Told). nat_eq place t.place)) (sym h.told.1) ∙ any-left (λ (t : Told). nat_eq place t.place) h.heard h.told.0 found in
            absurd (true≢false (sym told ∙ due.untold))
        | inr waits ↦
            let link = waits.0.link in
            let here = link_there IsMade old.connections h.connections asked.0.traffic link waits.0.there h.clients in
            let stage : here.0.stage ≡ Stages.Owes = subst (λ o. OwesAt o here.0.stage) waits.0.pending here.2.owes in
            let traffic : slice_get old.traffics place ≡ Some asked.0.traffic =
            ap (λ l. slice_get l place) (sym h.traffics) ∙ slice_get-mapped (λ (x : Asked). x.traffic) h.all.asked place asked.0 asked.1 in
            let owing : owes place link ≡ true =
            and_from (owes_at (stage_at link)) (is_pending place link.pending) (ap owes_at (sym here.2.stage ∙ stage)) (ap (is_pending place) waits.0.pending ∙ nat_eq_same place) in
            (asked.0.traffic, awaits_so place asked.0.traffic old.connections old.traffics link traffic waits.0.there owing)
      ]
