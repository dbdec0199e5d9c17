-- How a text goes out.
use Rattle.std.proofs.Common.{◌≡◌, ◌≢◌, ◌<◌, ◌==◌, ℕ, Bool, true, false, List, [], ◌∷◌, ◌++◌, length, sym, refl, ap, ◌∙◌, subst, arith, append-nil}
use Rattle.std.specs.Prelude.{Option, None, Some, MatchOption}
use Rattle.std.specs.Io.KnownBytes.{Appends}
use Rattle.outside_traits.specs.Told.{WireTold}
use Rattle.http_port.specs.Feeding.{Place}
use Rattle.http_port.specs.Responses.{response, interim}
use Rattle.http_port.specs.Serving.{bodies_in}
use Rattle.http_port.specs.Talk.{answer}
use Rattle.http_port.specs.declared.head_reader.Fed.{Fed}
use Rattle.http_port.specs.declared.head_reader.Fed.TheVariants.{Interim, Request, Refused}
use Rattle.http_connection.specs.Seen.{Seen as PlainSeen}
use Rattle.http_connection.specs.Stages.{stage_of as plain_stage_of}
use Rattle.http_connection.specs.Talking.{IsTalking as IsPlainTalking, Log, log, log_of, HasGiven, HasWritten, Passed, WireTells, due, told_to, handed}
use Rattle.http_connection.specs.Steps.{IsCarried, IsFed}
use Rattle.http_connection.proofs.Passing.{Stays, Owed, carried_on, fed_on, holding_fed, asked_talks, owed, spent_talks}
use Rattle.conn_future.specs.declared.stage.Stage.TheVariants as Stages
use Rattle.conn_future.specs.declared.stage.Ending.TheVariants as Ends
use Rattle.conn_future.specs.declared.stage.Standing.{Standing}
use Rattle.conn_future.specs.declared.stage.Standing.TheVariants as Stands
use Rattle.conn_future.specs.declared.kept.Kept.{Kept}
use Rattle.conn_future.specs.Outgoing.{Outgoing}
use Rattle.conn_future.specs.Stages.{plain_standing, stage_of}
use Rattle.conn_future.specs.Talking.{Seen, plain, closes_behind, IsOut, IsWriting, IsTalking}
use Rattle.conn_future.specs.Steps.{outgoing, IsSame, HandsOut}
use Rattle.conn_future.proofs.Standing.{stays, talks_at, carried_spent, spent_now}

-- ---- texts that are not empty

pub response_some : (status : ℕ) (body : List ℕ) (close : Bool) → 0 < length (response status body close)
response_some status body close = omega arith

interim_some : 0 < length interim
interim_some = omega arith

pub answer_some : (text : Option (List ℕ)) (close : Bool) → 0 < length (answer text close)
answer_some (Some text) close = response_some 200 text close
answer_some None close = response_some 204 [] close

pub some_left : (left : List ℕ) → length left == 0 ≡ false → 0 < length left
some_left [] e = absurd (cc)
some_left (x ∷ left) e = omega arith

-- ---- what stays as it was

same_log : (was now : Seen) → IsSame was.kept now.kept → (bodies : List (List ℕ)) (texts : List (Option (List ℕ)))
    → log_of (plain was) bodies texts ≡ log_of (plain now) bodies texts
same_log was now s bodies texts =
    ap (λ r. log r was.kept.written.items bodies texts) (sym s.read) ∙ ap (λ w. log now.kept.read.items w bodies texts) (sym s.written)

written_moved : (last : Fed) (text : Option (List ℕ)) (went : List ℕ) (was now : Place) (l k : Log) → now ≡ was → l ≡ k → HasWritten last text went was l
    → HasWritten last text went now k
written_moved last text went was now l k e f w = subst (λ p. HasWritten last text went p k) (sym e) (subst (HasWritten last text went was) f w)

pub out_moved : (close : Bool) (sent : Outgoing) (was now : Place) (l k : Log) → now ≡ was → l ≡ k → IsOut close sent was l → IsOut close sent now k
out_moved close sent was now l k e f w = record {
  last = w.last;
  text = w.text;
  ending = w.ending;
  whole = w.whole;
  written = written_moved w.last w.text sent.out was now l k e f w.written;
}

writing_moved : (next : Standing) (was now : Kept) (l k : Log) → now.reader ≡ was.reader → now.said ≡ was.said → now.due ≡ was.due → l ≡ k
    → IsWriting next was l → IsWriting next now k
writing_moved Stands.Waits was now l k reader said sent e w = tt
writing_moved (Stands.Holds body close) was now l k reader said sent e w = tt
writing_moved (Stands.Owes close) was now l k reader said sent e w = tt
writing_moved (Stands.Says close) was now l k reader said sent e w = (
  w.0,
  subst (λ t. HasWritten (Request w.0 close) t [] now.reader k) (sym said)
      (written_moved (Request w.0 close) was.said [] was.reader now.reader l k reader e w.1),
)
writing_moved (Stands.Sends close) was now l k reader said sent e w = (
  subst (λ d. IsOut close d now.reader k) (sym sent) (out_moved close was.due was.reader now.reader l k reader e w.0),
  subst (λ (d : Outgoing). 0 < length d.left) (sym sent) w.1,
)
writing_moved (Stands.Over ending) was now l k reader said sent e w = tt
writing_moved Stands.Spent was now l k reader said sent e w = tt

plain_moved : (first : WireTold) (was now : PlainSeen) (bodies : List (List ℕ)) (texts : List (Option (List ℕ))) → IsPlainTalking first was bodies texts
    → Stays was now → now.kept.reader ≡ was.kept.reader → now.kept.next ≡ was.kept.next → log_of was bodies texts ≡ log_of now bodies texts
    → IsPlainTalking first now bodies texts
plain_moved first was now bodies texts t s reader next same = record {
  given = subst (λ (l : WireTold). Appends first.read l.read now.kept.read.items) (sym s.line)
      (subst (Appends first.read was.line.read) (sym s.read) t.given);
  taken = subst (λ (l : WireTold). Appends first.written l.written now.kept.written.items) (sym s.line)
      (subst (Appends first.written was.line.written) (sym s.written) t.taken);
  door = ap (λ (l : WireTold). l.door) s.line ∙ t.door;
  wire = subst (λ n. WireTells (plain_stage_of n) first now.kept.read.items now.line) (sym next)
      (subst (WireTells (plain_stage_of was.kept.next) first now.kept.read.items) (sym s.line)
      (subst (λ l. WireTells (plain_stage_of was.kept.next) first l was.line) (sym s.read) t.wire));
  passed = subst (λ n. Passed n now.kept.reader (log_of now bodies texts)) (sym next)
      (subst (λ p. Passed was.kept.next p (log_of now bodies texts)) (sym reader)
      (subst (Passed was.kept.next was.kept.reader) same t.passed));
}

pub moved : (first : WireTold) (was now : Seen) (bodies : List (List ℕ)) (texts : List (Option (List ℕ))) → IsTalking first was bodies texts
    → IsSame was.kept now.kept → now.kept.said ≡ was.kept.said → now.kept.due ≡ was.kept.due → now.line ≡ was.line → now.kept.next ≡ was.kept.next
    → IsTalking first now bodies texts
moved first was now bodies texts t s said sent line next = record {
  talks = plain_moved first (plain was) (plain now) bodies texts t.talks (stays was now s line) s.reader (ap plain_standing next) (same_log was now s bodies texts);
  writing = subst (λ n. IsWriting n now.kept (log_of (plain now) bodies texts)) (sym next)
      (writing_moved was.kept.next was.kept now.kept (log_of (plain was) bodies texts) (log_of (plain now) bodies texts) s.reader said sent (same_log was now s bodies texts) t.writing);
  ended = λ o e. ap (λ (l : WireTold). l.ended) line ∙ t.ended o (sym (ap stage_of next) ∙ e);
}

-- ---- what is handed out, and what is said

-- a request that is held is handed out
pub hands_out : (first : WireTold) (was now : Seen) (bodies : List (List ℕ)) (texts : List (Option (List ℕ))) (result : Option (List ℕ))
    → IsTalking first was bodies texts → HandsOut was.kept.next result now.kept.next → IsSame was.kept now.kept → now.kept.said ≡ was.kept.said
    → now.kept.due ≡ was.kept.due → now.line ≡ was.line → IsTalking first now (bodies ++ handed result) texts
hands_out first was now bodies texts result t h s said due line = by_next was.kept.next refl h
  where
    same : result ≡ None → now.kept.next ≡ was.kept.next → IsTalking first now (bodies ++ handed result) texts
    same none e =
        subst (λ r. IsTalking first now (bodies ++ handed r) texts) (sym none)
        (subst (λ b. IsTalking first now b texts) (sym (append-nil bodies)) (moved first was now bodies texts t s said due line e))

    by_next : (next : Standing) → was.kept.next ≡ next → HandsOut next result now.kept.next → IsTalking first now (bodies ++ handed result) texts
    by_next Stands.Waits e x = same x.0 (x.1 ∙ sym e)
    by_next (Stands.Holds body close) e x =
        subst (λ r. IsTalking first now (bodies ++ handed r) texts) (sym x.0)
        (talks_at first now (bodies ++ body ∷ []) texts (Stands.Owes close) x.1 tt (λ h. cc)
        (asked_talks first (plain now) body close bodies texts
        (fed_on first (plain was) (plain now) (Request body close) bodies texts
        (holding_fed first (plain was) body close bodies texts t.talks (ap plain_standing e)) (stays was now s line) s.reader) (ap plain_standing x.1)))
    by_next (Stands.Owes close) e x = same x.0 (x.1 ∙ sym e)
    by_next (Stands.Says close) e x = same x.0 (x.1 ∙ sym e)
    by_next (Stands.Sends close) e x = same x.0 (x.1 ∙ sym e)
    by_next (Stands.Over ending) e x = same x.0 (x.1 ∙ sym e)
    by_next Stands.Spent e x = same x.0 (x.1 ∙ sym e)

-- how it stood before, and how it stands then
abbrev Hands : Standing → Standing → Option (List ℕ) → Type 0
Hands was now result = MatchOption result
    ((stage_of now ≡ stage_of was) × (stage_of was ≢ Stages.Asks))
    (λ _. (stage_of was ≡ Stages.Asks) × (stage_of now ≡ Stages.Owes))

pub stage_handed : (was : Standing) (result : Option (List ℕ)) (now : Standing) → HandsOut was result now → Hands was now result
stage_handed was result now h = by_next was h
  where
    same : (was : Standing) → result ≡ None → now ≡ was → (stage_of was ≢ Stages.Asks) → Hands was now result
    same was none e unasked = subst (Hands was now) (sym none) (ap stage_of e, unasked)

    by_next : (was : Standing) → HandsOut was result now → Hands was now result
    by_next Stands.Waits x = same Stands.Waits x.0 x.1 (λ e. cc)
    by_next (Stands.Holds body close) x = subst (Hands (Stands.Holds body close) now) (sym x.0) (refl, ap stage_of x.1)
    by_next (Stands.Owes close) x = same (Stands.Owes close) x.0 x.1 (λ e. cc)
    by_next (Stands.Says close) x = same (Stands.Says close) x.0 x.1 (λ e. cc)
    by_next (Stands.Sends close) x = same (Stands.Sends close) x.0 x.1 (λ e. cc)
    by_next (Stands.Over Ends.Ended) x = same (Stands.Over Ends.Ended) x.0 x.1 (λ e. cc)
    by_next (Stands.Over Ends.Closed) x = same (Stands.Over Ends.Closed) x.0 x.1 (λ e. cc)
    by_next (Stands.Over Ends.ReadFailed) x = same (Stands.Over Ends.ReadFailed) x.0 x.1 (λ e. cc)
    by_next (Stands.Over Ends.WriteFailed) x = same (Stands.Over Ends.WriteFailed) x.0 x.1 (λ e. cc)
    by_next Stands.Spent x = same Stands.Spent x.0 x.1 (λ e. cc)

-- what goes out for what the reader gave last, of which nothing is out
begun : (last : Fed) (text : Option (List ℕ)) (place : Place) (l : Log) → HasGiven last place l
    → HasWritten last text [] place (log l.read l.written (l.bodies ++ bodies_in (last ∷ [])) (l.texts ++ told_to last text))
begun last text place l g = record {
  early = l;
  given = g;
  read = refl;
  bodies = refl;
  texts = refl;
  written = sym (append-nil l.written);
}

-- what is said to the request that was handed out last
pub says : (first : WireTold) (was now : Seen) (close : Bool) (bodies : List (List ℕ)) (texts : List (Option (List ℕ))) (said : Option (List ℕ))
    → IsTalking first was bodies texts → was.kept.next ≡ Stands.Owes close → IsSame was.kept now.kept → now.line ≡ was.line
    → now.kept.said ≡ said → now.kept.next ≡ Stands.Says close → IsTalking first now bodies (texts ++ said ∷ [])
says first was now close bodies texts said t w s line e next =
    let o : Owed first (plain was) close bodies texts = owed first (plain was) close bodies texts t.talks (ap plain_standing w) in
    let f : IsFed first (plain now) (Request o.0 close) o.1 texts =
    fed_on first (plain was) (plain now) (Request o.0 close) o.1 texts o.3 (stays was now s line) s.reader in
    talks_at first now bodies (texts ++ said ∷ []) (Stands.Says close) next (
      o.0,
      subst (λ v. HasWritten (Request o.0 close) v [] now.kept.reader (log_of (plain now) bodies (texts ++ said ∷ []))) (sym e)
          (subst (λ b. HasWritten (Request o.0 close) said [] now.kept.reader (log now.kept.read.items now.kept.written.items b (texts ++ said ∷ []))) (sym o.2)
          (begun (Request o.0 close) said now.kept.reader (log_of (plain now) o.1 texts) f.given)),
    ) (λ h. cc) (spent_talks first (plain now) bodies (texts ++ said ∷ []) f.carried (ap plain_standing next))

-- ---- a text begins to go out

-- a text goes out, so far
pub sends_now : (first : WireTold) (now : Seen) (close : Bool) (bodies : List (List ℕ)) (texts : List (Option (List ℕ))) → IsCarried first (plain now)
    → IsOut close now.kept.due now.kept.reader (log_of (plain now) bodies texts) → 0 < length now.kept.due.left → now.kept.next ≡ Stands.Sends close
    → IsTalking first now bodies texts
sends_now first now close bodies texts c o some e =
    talks_at first now bodies texts (Stands.Sends close) e (o, some) (λ h. cc) (spent_talks first (plain now) bodies texts c (ap plain_standing e))

-- nothing of it is out
out_first : (last : Fed) (told : Option (List ℕ)) (close : Bool) (sent : Outgoing) (text : List ℕ) (place : Place) (l : Log) → closes_behind last ≡ close
    → sent ≡ outgoing text → text ≡ due last told → HasWritten last told [] place l → IsOut close sent place l
out_first last told close sent text place l ending e whole w = subst (λ d. IsOut close d place l) (sym e) (record {
  last = last;
  text = told;
  ending = ending;
  whole = whole;
  written = w;
})

-- the rest of a text goes out
pub rest_goes_out : (first : WireTold) (was now : Seen) (close : Bool) (bodies : List (List ℕ)) (texts : List (Option (List ℕ))) → IsCarried first (plain was)
    → IsOut close was.kept.due was.kept.reader (log_of (plain was) bodies texts) → length was.kept.due.left == 0 ≡ false → IsSame was.kept now.kept
    → now.kept.due ≡ was.kept.due → now.line ≡ was.line → now.kept.next ≡ Stands.Sends close → IsTalking first now bodies texts
rest_goes_out first was now close bodies texts c o some s sent line e =
    sends_now first now close bodies texts (carried_on first (plain was) (plain now) c (stays was now s line))
    (subst (λ d. IsOut close d now.kept.reader (log_of (plain now) bodies texts)) (sym sent)
    (out_moved close was.kept.due was.kept.reader now.kept.reader (log_of (plain was) bodies texts) (log_of (plain now) bodies texts) s.reader (same_log was now s bodies texts) o))
    (subst (λ (d : Outgoing). 0 < length d.left) (sym sent) (some_left was.kept.due.left some)) e

-- a response was made
pub responds : (first : WireTold) (was now : Seen) (close : Bool) (bodies : List (List ℕ)) (texts : List (Option (List ℕ))) → IsTalking first was bodies texts
    → was.kept.next ≡ Stands.Says close → IsSame was.kept now.kept → now.line ≡ was.line → now.kept.due ≡ outgoing (answer was.kept.said close)
    → now.kept.next ≡ Stands.Sends close → IsTalking first now bodies texts
responds first was now close bodies texts t w s line sent next =
    let said : (body : List ℕ) × HasWritten (Request body close) was.kept.said [] was.kept.reader (log_of (plain was) bodies texts) =
    subst (λ n. IsWriting n was.kept (log_of (plain was) bodies texts)) w t.writing in
    sends_now first now close bodies texts
    (carried_on first (plain was) (plain now) (carried_spent first was bodies texts t (ap plain_standing w)) (stays was now s line))
    (out_first (Request said.0 close) was.kept.said close now.kept.due (answer was.kept.said close) now.kept.reader (log_of (plain now) bodies texts) refl sent refl
    (written_moved (Request said.0 close) was.kept.said [] was.kept.reader now.kept.reader (log_of (plain was) bodies texts) (log_of (plain now) bodies texts) s.reader
    (same_log was now s bodies texts) said.1))
    (subst (λ (d : Outgoing). 0 < length d.left) (sym sent) (answer_some was.kept.said close)) next

-- memory ran out
pub responds_not : (first : WireTold) (was now : Seen) (close : Bool) (bodies : List (List ℕ)) (texts : List (Option (List ℕ))) → IsTalking first was bodies texts
    → was.kept.next ≡ Stands.Says close → IsSame was.kept now.kept → now.line ≡ was.line → now.kept.next ≡ Stands.Spent → IsTalking first now bodies texts
responds_not first was now close bodies texts t w s line next =
    spent_now first now bodies texts (carried_on first (plain was) (plain now) (carried_spent first was bodies texts t (ap plain_standing w)) (stays was now s line)) next

-- what is due for what the reader gave, to which nothing is told, goes out
pub invites : (first : WireTold) (was now : Seen) (text : List ℕ) (bodies : List (List ℕ)) (texts : List (Option (List ℕ))) → IsFed first (plain was) Interim bodies texts
    → IsSame was.kept now.kept → now.line ≡ was.line → now.kept.due ≡ outgoing text → text ≡ interim → now.kept.next ≡ Stands.Sends false
    → IsTalking first now bodies texts
invites first was now text bodies texts f s line sent whole next =
    let g : IsFed first (plain now) Interim bodies texts = fed_on first (plain was) (plain now) Interim bodies texts f (stays was now s line) s.reader in
    sends_now first now false bodies texts g.carried
    (out_first Interim None false now.kept.due text now.kept.reader (log_of (plain now) bodies texts) refl sent whole
    (subst (λ b. HasWritten Interim None [] now.kept.reader (log now.kept.read.items now.kept.written.items b texts)) (append-nil bodies)
    (subst (λ t. HasWritten Interim None [] now.kept.reader (log now.kept.read.items now.kept.written.items (bodies ++ []) t)) (append-nil texts)
    (begun Interim None now.kept.reader (log_of (plain now) bodies texts) g.given))))
    (subst (λ (d : Outgoing). 0 < length d.left) (sym sent) (subst (λ l. 0 < length l) (sym whole) interim_some)) next

pub refuses : (first : WireTold) (was now : Seen) (status : ℕ) (text : List ℕ) (bodies : List (List ℕ)) (texts : List (Option (List ℕ)))
    → IsFed first (plain was) (Refused status) bodies texts
    → IsSame was.kept now.kept → now.line ≡ was.line → now.kept.due ≡ outgoing text → text ≡ response status [] true → now.kept.next ≡ Stands.Sends true
    → IsTalking first now bodies texts
refuses first was now status text bodies texts f s line sent whole next =
    let g : IsFed first (plain now) (Refused status) bodies texts = fed_on first (plain was) (plain now) (Refused status) bodies texts f (stays was now s line) s.reader in
    sends_now first now true bodies texts g.carried
    (out_first (Refused status) None true now.kept.due text now.kept.reader (log_of (plain now) bodies texts) refl sent whole
    (subst (λ b. HasWritten (Refused status) None [] now.kept.reader (log now.kept.read.items now.kept.written.items b texts)) (append-nil bodies)
    (subst (λ t. HasWritten (Refused status) None [] now.kept.reader (log now.kept.read.items now.kept.written.items (bodies ++ []) t)) (append-nil texts)
    (begun (Refused status) None now.kept.reader (log_of (plain now) bodies texts) g.given))))
    (subst (λ (d : Outgoing). 0 < length d.left) (sym sent) (subst (λ l. 0 < length l) (sym whole) (response_some status [] true))) next
