-- What comes of a piece that was written, and of a text that is out.
use Rattle.std.proofs.Common.{◌≡◌, ◌<◌, ◌==◌, ◌||◌, not, ℕ, Bool, true, false, List, [], ◌∷◌, ◌++◌, length, take, drop, sym, refl, ap, ap₂, ◌∙◌, subst, arith, append-nil, append_assoc, length-append, take-append-drop}
use Rattle.std.specs.Prelude.{Option, None, Some, IfSome}
use Rattle.std.specs.Io.{StartsWith}
use Rattle.std.specs.Io.KnownBytes.{Appends, Consumes, Keeps}
use Rattle.std.proofs.KnownBytes.{Appends-trans, Appends-kept}
use Rattle.std.proofs.lemmas.Bool.{eqb-true}
use Rattle.std.proofs.Math.Seq.{take-append_seam}
use Rattle.outside_traits.specs.Told.{WireTold}
use Rattle.http_port.specs.Feeding.{Place}
use Rattle.http_port.specs.Serving.{bodies_in}
use Rattle.http_port.specs.declared.head_reader.Fed.{Fed}
use Rattle.http_port.specs.declared.head_reader.Fed.TheVariants.{NotYet, Interim, Request, Refused}
use Rattle.http_connection.specs.Seen.{Failures, failures_of}
use Rattle.http_connection.specs.Stages.{stage_of as plain_stage_of}
use Rattle.http_connection.specs.Talking.{Log, log, log_of, IsAnswered, HasGiven, HasWritten, Closes, Passed, IsShut, WireTells, due, cut_behind_failed_write}
use Rattle.http_connection.specs.Steps.{IsCarried, IsGoing}
use Rattle.http_connection.proofs.Histories.{LetsGo, answered_all}
use Rattle.conn_future.specs.declared.stage.Ending.{Ending}
use Rattle.conn_future.specs.declared.stage.Ending.TheVariants as Ends
use Rattle.conn_future.specs.declared.stage.Standing.TheVariants as Stands
use Rattle.conn_future.specs.Outgoing.{Outgoing}
use Rattle.conn_future.specs.Stages.{plain_standing}
use Rattle.conn_future.specs.Talking.{Seen, plain, closes_behind, IsOut, IsWriting, IsTalking}
use Rattle.conn_future.specs.Steps.{Finishes}
use Rattle.conn_future.proofs.Standing.{talks_at, carried_spent}

-- ---- a piece is written

-- a piece was written and kept, and the wire did not fail
pub record Wrote (piece : List ℕ) (was now : Seen) : Type 0 where
  pub taken : Appends was.line.written now.line.written piece
  pub failures : failures_of now.line ≡ failures_of was.line
  pub given : now.line.read ≡ was.line.read
  pub left : now.line.unread ≡ was.line.unread
  pub closed : now.line.closed ≡ was.line.closed
  pub door : now.line.door ≡ was.line.door
  pub read : now.kept.read.items ≡ was.kept.read.items
  pub written : now.kept.written.items ≡ was.kept.written.items ++ piece
  pub reader : now.kept.reader ≡ was.kept.reader

pub wrote_carried : (first : WireTold) (was now : Seen) (piece : List ℕ) → IsCarried first (plain was) → Wrote piece was now → IsCarried first (plain now)
wrote_carried first was now piece c w = record {
  given = subst (λ g. Appends first.read g now.kept.read.items) (sym w.given)
      (subst (λ v. Appends first.read was.line.read v) (sym w.read) c.given);
  taken = subst (Appends first.written now.line.written) (sym w.written)
      (Appends-trans first.written was.line.written now.line.written was.kept.written.items piece c.taken w.taken);
  door = w.door ∙ c.door;
  wire = record {
    left = subst (λ g. Consumes first.unread g now.kept.read.items) (sym w.left)
        (subst (λ v. Consumes first.unread was.line.unread v) (sym w.read) c.wire.left);
    failures = w.failures ∙ c.wire.failures;
    closed = w.closed ∙ c.wire.closed;
  };
}

-- what is out where so much more is, and nothing else changed
out_from : (now was left : List ℕ) (n : ℕ) → now ++ drop n left ≡ was ++ left → now ≡ was ++ take n left
out_from now was left n e =
    sym (take-append_seam now (drop n left)) ∙ ap (take (length now)) parted ∙ ap (λ k. take k ((was ++ take n left) ++ drop n left)) long
    ∙ take-append_seam (was ++ take n left) (drop n left)
  where
    parted : now ++ drop n left ≡ (was ++ take n left) ++ drop n left
    parted = e ∙ ap (λ x. was ++ x) (sym (take-append-drop n left)) ∙ sym (append_assoc was (take n left) (drop n left))

    long : length now ≡ length (was ++ take n left)
    long = let p = ap length parted in omega (arith, length-append now (drop n left), length-append (was ++ take n left) (drop n left))

-- so much more of the text is out then
pub wrote_out : (was now : Seen) (close : Bool) (n : ℕ) (bodies : List (List ℕ)) (texts : List (Option (List ℕ)))
    → IsOut close was.kept.due was.kept.reader (log_of (plain was) bodies texts) → Wrote (take n was.kept.due.left) was now
    → now.kept.due.out ++ now.kept.due.left ≡ was.kept.due.out ++ was.kept.due.left → now.kept.due.left ≡ drop n was.kept.due.left
    → IsOut close now.kept.due now.kept.reader (log_of (plain now) bodies texts)
wrote_out was now close n bodies texts o w whole left = record {
  last = o.last;
  text = o.text;
  ending = o.ending;
  whole = whole ∙ o.whole;
  written = record {
    early = o.written.early;
    given = subst (λ p. HasGiven o.last p o.written.early) (sym w.reader) o.written.given;
    read = w.read ∙ o.written.read;
    bodies = o.written.bodies;
    texts = o.written.texts;
    written =
        w.written ∙ ap (λ x. x ++ take n was.kept.due.left) o.written.written
        ∙ append_assoc o.written.early.written was.kept.due.out (take n was.kept.due.left)
        ∙ ap (λ x. o.written.early.written ++ x) (sym out);
  };
}
  where
    out : now.kept.due.out ≡ was.kept.due.out ++ take n was.kept.due.left
    out = out_from now.kept.due.out was.kept.due.out was.kept.due.left n (ap (λ x. now.kept.due.out ++ x) (sym left) ∙ whole)

-- ---- all of it is out

-- a text goes out on a connection that stands so
pub sending : (first : WireTold) (was : Seen) (close : Bool) (bodies : List (List ℕ)) (texts : List (Option (List ℕ))) → IsTalking first was bodies texts
    → was.kept.next ≡ Stands.Sends close
    → IsCarried first (plain was) × IsOut close was.kept.due was.kept.reader (log_of (plain was) bodies texts) × (0 < length was.kept.due.left)
sending first was close bodies texts t e =
    let w = subst (λ n. IsWriting n was.kept (log_of (plain was) bodies texts)) e t.writing in
    (carried_spent first was bodies texts t (ap plain_standing e), w.0, w.1)

pub none_left : (left : List ℕ) → length left == 0 ≡ true → left ≡ []
none_left [] e = refl
none_left (x ∷ left) e = absurd (let n = eqb-true (length (x ∷ left)) 0 e in omega (arith, n))

-- of a text that is not empty something is left
pub not_none : (left now : List ℕ) → now ≡ left → 0 < length left → length now == 0 ≡ true → ⊥
not_none left now same some none = let gone = ap length (sym same ∙ none_left now none) in omega (arith, some, gone)

all_out : (close : Bool) (sent : Outgoing) (place : Place) (l : Log) (o : IsOut close sent place l) → sent.left ≡ [] → sent.out ≡ due o.last o.text
all_out close sent place l o e = sym (append-nil sent.out) ∙ ap (λ x. sent.out ++ x) (sym e) ∙ o.whole

lets_go : (last : Fed) → closes_behind last ≡ false → LetsGo last
lets_go NotYet e = tt
lets_go Interim e = tt
lets_go (Request body close) e = e
lets_go (Refused status) e = absurd (cc)

closes : (last : Fed) → closes_behind last ≡ true → Closes last
closes NotYet e = absurd (cc)
closes Interim e = absurd (cc)
closes (Request body close) e = e
closes (Refused status) e = tt

-- the connection goes on with what the reader gives next
pub goes_on : (first : WireTold) (now : Seen) (bodies : List (List ℕ)) (texts : List (Option (List ℕ))) → IsCarried first (plain now)
    → IsOut false now.kept.due now.kept.reader (log_of (plain now) bodies texts) → now.kept.due.left ≡ [] → IsGoing first (plain now) [] bodies texts
goes_on first now bodies texts c o e = record {
  carried = c;
  early = now.kept.read.items;
  whole = sym (append-nil now.kept.read.items);
  answered = answered;
}
  where
    answered : IsAnswered now.kept.reader (log now.kept.read.items now.kept.written.items bodies texts)
    answered =
        subst (λ r. IsAnswered now.kept.reader (log r now.kept.written.items bodies texts)) (sym o.written.read)
        (subst (λ v. IsAnswered now.kept.reader (log o.written.early.read v bodies texts))
        (sym (o.written.written ∙ ap (λ x. o.written.early.written ++ x) (all_out false now.kept.due now.kept.reader (log_of (plain now) bodies texts) o e)))
        (subst (λ b. IsAnswered now.kept.reader (log o.written.early.read (o.written.early.written ++ due o.last o.text) b texts)) (sym o.written.bodies)
        (subst (λ t. IsAnswered now.kept.reader (log o.written.early.read (o.written.early.written ++ due o.last o.text) (o.written.early.bodies ++ bodies_in (o.last ∷ [])) t)) (sym o.written.texts)
        (answered_all o.last o.text now.kept.reader o.written.early (lets_go o.last o.ending) o.written.given))))

-- ---- the wire is closed behind it

starts_so : (known : Option (List ℕ)) (left : Option (List ℕ)) (read : List ℕ) → Consumes known left read → IfSome known (λ all. StartsWith all read)
starts_so None left read c = tt
starts_so (Some all) None read c = absurd c
starts_so (Some all) (Some rest) read c = ap (take (length read)) c ∙ take-append_seam read rest

shut_now : (first : WireTold) (was now : Seen) (ending : Ending) (read : List ℕ) → Consumes first.unread was.line.unread read → read ≡ was.kept.read.items
    → Finishes ending was now → IsShut first now.kept.read.items now.line
shut_now first was now ending read left same f = record {
  front = subst (λ v. IfSome first.unread (λ all. StartsWith all v)) (same ∙ sym f.plainly.read) (starts_so first.unread was.line.unread read left);
  closed = f.plainly.closed;
}

finished_log : (was now : Seen) (ending : Ending) → Finishes ending was now → (last : Fed) (text : Option (List ℕ)) (went : List ℕ) (bodies : List (List ℕ)) (texts : List (Option (List ℕ)))
    → HasWritten last text went was.kept.reader (log_of (plain was) bodies texts) → HasWritten last text went now.kept.reader (log_of (plain now) bodies texts)
finished_log was now ending f last text went bodies texts w =
    subst (λ p. HasWritten last text went p (log_of (plain now) bodies texts)) (sym f.plainly.reader)
    (subst (λ r. HasWritten last text went was.kept.reader (log r now.kept.written.items bodies texts)) (sym f.plainly.read)
    (subst (λ v. HasWritten last text went was.kept.reader (log was.kept.read.items v bodies texts)) (sym f.plainly.written) w))

-- what was written closes the connection
pub closes_now : (first : WireTold) (was now : Seen) (bodies : List (List ℕ)) (texts : List (Option (List ℕ))) → IsCarried first (plain was)
    → IsOut true was.kept.due was.kept.reader (log_of (plain was) bodies texts) → was.kept.due.left ≡ [] → Finishes Ends.Closed was now
    → IsTalking first now bodies texts
closes_now first was now bodies texts c o e f =
    talks_at first now bodies texts (Stands.Over Ends.Closed) f.next tt (λ h. cc) (record {
      given = subst (λ g. Appends first.read g now.kept.read.items) (sym f.plainly.given)
          (subst (λ v. Appends first.read was.line.read v) (sym f.plainly.read) c.given);
      taken = subst (λ g. Appends first.written g now.kept.written.items) (sym f.plainly.taken)
          (subst (λ v. Appends first.written was.line.written v) (sym f.plainly.written) c.taken);
      door = f.plainly.door ∙ c.door;
      wire = subst (λ n. WireTells (plain_stage_of n) first now.kept.read.items now.line) (sym f.plainly.next)
          (shut_now first was now Ends.Closed was.kept.read.items c.wire.left refl f, f.plainly.failures ∙ c.wire.failures);
      passed = subst (λ n. Passed n now.kept.reader (log_of (plain now) bodies texts)) (sym f.plainly.next) (
        o.last,
        o.text,
        closes o.last o.ending,
        finished_log was now Ends.Closed f o.last o.text (due o.last o.text) bodies texts
            (subst (λ w. HasWritten o.last o.text w was.kept.reader (log_of (plain was) bodies texts))
            (all_out true was.kept.due was.kept.reader (log_of (plain was) bodies texts) o e) o.written),
      );
    })

-- a write failed
pub record FailsWrite (was now : Seen) : Type 0 where
  pub taken : Keeps was.line.written now.line.written
  pub read_failed : now.line.read_failed ≡ was.line.read_failed
  pub write_failed : now.line.write_failed ≡ cut_behind_failed_write was.line
  pub given : now.line.read ≡ was.line.read
  pub left : now.line.unread ≡ was.line.unread
  pub door : now.line.door ≡ was.line.door
  pub read : now.kept.read.items ≡ was.kept.read.items
  pub written : now.kept.written.items ≡ was.kept.written.items
  pub reader : now.kept.reader ≡ was.kept.reader

-- which cut the text
pub cut_now : (first : WireTold) (was mid now : Seen) (close : Bool) (bodies : List (List ℕ)) (texts : List (Option (List ℕ))) → IsCarried first (plain was)
    → IsOut close was.kept.due was.kept.reader (log_of (plain was) bodies texts) → 0 < length was.kept.due.left
    → FailsWrite was mid → Finishes Ends.WriteFailed mid now → IsTalking first now bodies texts
cut_now first was mid now close bodies texts c o some w f =
    talks_at first now bodies texts (Stands.Over Ends.WriteFailed) f.next tt (λ h. cc) (record {
      given = subst (λ g. Appends first.read g now.kept.read.items) (sym (f.plainly.given ∙ w.given))
          (subst (λ v. Appends first.read was.line.read v) (sym (f.plainly.read ∙ w.read)) c.given);
      taken = subst (λ g. Appends first.written g now.kept.written.items) (sym f.plainly.taken)
          (subst (λ v. Appends first.written mid.line.written v) (sym (f.plainly.written ∙ w.written))
          (Appends-kept first.written was.line.written mid.line.written was.kept.written.items c.taken w.taken));
      door = f.plainly.door ∙ w.door ∙ c.door;
      wire = subst (λ n. WireTells (plain_stage_of n) first now.kept.read.items now.line) (sym f.plainly.next) (
        shut_now first mid now Ends.WriteFailed was.kept.read.items (subst (λ g. Consumes first.unread g was.kept.read.items) (sym w.left) c.wire.left) (sym w.read) f,
        ap (λ (n : Failures). n.read_failed) f.plainly.failures ∙ w.read_failed ∙ ap (λ (n : Failures). n.read_failed) c.wire.failures,
        ap (λ (n : Failures). n.write_failed) f.plainly.failures ∙ w.write_failed
            ∙ ap₂ (λ (n : Failures) (closed : Bool). n.write_failed || not closed) c.wire.failures c.wire.closed,
      );
      passed = subst (λ n. Passed n now.kept.reader (log_of (plain now) bodies texts)) (sym f.plainly.next) (
        o.last,
        o.text,
        length was.kept.due.out,
        short,
        finished_log mid now Ends.WriteFailed f o.last o.text (take (length was.kept.due.out) (due o.last o.text)) bodies texts
            (failed_log (take (length was.kept.due.out) (due o.last o.text))
            (subst (λ v. HasWritten o.last o.text v was.kept.reader (log_of (plain was) bodies texts)) (sym front) o.written)),
      );
    })
  where
    front : take (length was.kept.due.out) (due o.last o.text) ≡ was.kept.due.out
    front = ap (take (length was.kept.due.out)) (sym o.whole) ∙ take-append_seam was.kept.due.out was.kept.due.left

    short : length was.kept.due.out < length (due o.last o.text)
    short = let e = ap length o.whole in omega (arith, length-append was.kept.due.out was.kept.due.left, some)

    failed_log : (went : List ℕ) → HasWritten o.last o.text went was.kept.reader (log_of (plain was) bodies texts)
        → HasWritten o.last o.text went mid.kept.reader (log_of (plain mid) bodies texts)
    failed_log went h =
        subst (λ p. HasWritten o.last o.text went p (log_of (plain mid) bodies texts)) (sym w.reader)
        (subst (λ r. HasWritten o.last o.text went was.kept.reader (log r mid.kept.written.items bodies texts)) (sym w.read)
        (subst (λ v. HasWritten o.last o.text went was.kept.reader (log was.kept.read.items v bodies texts)) (sym w.written) h))
