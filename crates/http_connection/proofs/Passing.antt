-- What each step of a connection passes on.
use Rattle.std.proofs.Common.{◌≡◌, ◌||◌, inl, inr, ℕ, Bool, true, false, not, ltb, List, [], ◌∷◌, ◌++◌, length, take, Some, None, Result, Ok, Err, IsErr, MatchResult, sym, refl, ap, ap₂, ◌∙◌, subst, arith, append-nil, true≢false}
use Rattle.std.specs.Prelude.{Option, IfSome}
use Rattle.std.proofs.lemmas.Bool.{lt-ltb, le-ltb, cases_lt}
use Rattle.std.proofs.lemmas.List.{take_all}
use Rattle.std.specs.Io.{StartsWith}
use Rattle.std.specs.Io.KnownBytes.{Appends, Consumes, Keeps, IsAtEnd}
use Rattle.std.proofs.KnownBytes.{Appends-nil, Appends-trans, Appends-kept, Consumes-nil, Consumes-trans, Consumes-kept}
use Rattle.std.proofs.Math.Seq.{take-append_seam}
use Rattle.http_port.specs.Feeding.{Open, Feeds}
use Rattle.http_port.specs.Serving.{bodies_in}
use Rattle.http_port.specs.Talk.{answer}
use Rattle.http_port.specs.declared.head_reader.Fed.{Fed}
use Rattle.http_port.specs.declared.head_reader.Fed.TheVariants.{NotYet, Interim, Request, Refused}
use Rattle.http_connection.specs.declared.stage.Stage.TheVariants as Stages
use Rattle.http_connection.specs.declared.stage.Ending.{Ending}
use Rattle.http_connection.specs.declared.stage.Ending.TheVariants as Ends
use Rattle.http_connection.specs.declared.stage.Standing.{Standing}
use Rattle.http_connection.specs.declared.stage.Standing.TheVariants as Stands
use Rattle.http_connection.specs.Stages.{stage_behind, stage_of, is_waiting, MayBeAsked, MayBeTold, IsOver, IsBehindAsking, IsBehindTelling}
use Rattle.outside_traits.specs.Told.{WireTold}
use Rattle.http_connection.specs.Seen.{Failures, Seen, failures_of}
use Rattle.http_connection.specs.Talking.{log, log_of, IsAnswered, HasGiven, due, told_to, Closes, HasWritten, HasAsked, Passed, IsOpen, IsShut, cut_behind_failed_write, WireTells, IsTalking, handed}
use Rattle.http_connection.specs.Steps.{MayHandOut, HandsOut, MayTell, is_interim, Takes, Sends, Finishes, IsCarried, IsGoing, IsFed}
use Rattle.http_connection.proofs.Histories.{LetsGo, answered_all}

-- ---- what stays as it was

-- a connection is as it was, but for what it does next and for its reader
pub record Stays (was now : Seen) : Type 0 where
  pub line : now.line ≡ was.line
  pub read : now.kept.read.items ≡ was.kept.read.items
  pub written : now.kept.written.items ≡ was.kept.written.items

pub carried_on : (first : WireTold) (was now : Seen) → IsCarried first was → Stays was now → IsCarried first now
carried_on first was now c s = record {
  given = subst (λ (l : WireTold). Appends first.read l.read now.kept.read.items) (sym s.line)
      (subst (Appends first.read was.line.read) (sym s.read) c.given);
  taken = subst (λ (l : WireTold). Appends first.written l.written now.kept.written.items) (sym s.line)
      (subst (Appends first.written was.line.written) (sym s.written) c.taken);
  door = ap (λ (l : WireTold). l.door) s.line ∙ c.door;
  wire = subst (IsOpen first now.kept.read.items) (sym s.line) (subst (λ l. IsOpen first l was.line) (sym s.read) c.wire);
}

same_log : (was now : Seen) → Stays was now → (bodies : List (List ℕ)) (texts : List (Option (List ℕ))) → log_of was bodies texts ≡ log_of now bodies texts
same_log was now s bodies texts =
    ap (λ r. log r was.kept.written.items bodies texts) (sym s.read) ∙ ap (λ w. log now.kept.read.items w bodies texts) (sym s.written)

pub fed_on : (first : WireTold) (was now : Seen) (last : Fed) (bodies : List (List ℕ)) (texts : List (Option (List ℕ)))
    → IsFed first was last bodies texts → Stays was now → now.kept.reader ≡ was.kept.reader → IsFed first now last bodies texts
fed_on first was now last bodies texts f s same = record {
  carried = carried_on first was now f.carried s;
  given = subst (λ p. HasGiven last p (log_of now bodies texts)) (sym same)
      (subst (HasGiven last was.kept.reader) (same_log was now s bodies texts) f.given);
}

-- the reader was fed the piece that was read
pub fed_now : (first : WireTold) (was now : Seen) (piece : List ℕ) (last : Fed) (bodies : List (List ℕ)) (texts : List (Option (List ℕ)))
    → IsGoing first was piece bodies texts → Stays was now → Feeds was.kept.reader piece last now.kept.reader → IsFed first now last bodies texts
fed_now first was now piece last bodies texts g s feeds = record {
  carried = carried_on first was now g.carried s;
  given = record {
    early = g.early;
    piece = piece;
    before = was.kept.reader;
    whole = s.read ∙ g.whole;
    answered = subst (λ w. IsAnswered was.kept.reader (log g.early w bodies texts)) (sym s.written) g.answered;
    feeds = feeds;
  };
}

-- ---- how it stands then

-- what the wire tells where it is open
pub talks_so : (first : WireTold) (now : Seen) (bodies : List (List ℕ)) (texts : List (Option (List ℕ))) (next : Standing) → now.kept.next ≡ next
    → IsCarried first now → WireTells (stage_of next) first now.kept.read.items now.line → Passed next now.kept.reader (log_of now bodies texts)
    → IsTalking first now bodies texts
talks_so first now bodies texts next e c wire passed = record {
  given = c.given;
  taken = c.taken;
  door = c.door;
  wire = subst (λ n. WireTells (stage_of n) first now.kept.read.items now.line) (sym e) wire;
  passed = subst (λ n. Passed n now.kept.reader (log_of now bodies texts)) (sym e) passed;
}

pub spent_talks : (first : WireTold) (now : Seen) (bodies : List (List ℕ)) (texts : List (Option (List ℕ))) → IsCarried first now → now.kept.next ≡ Stands.Spent
    → IsTalking first now bodies texts
spent_talks first now bodies texts c e = talks_so first now bodies texts Stands.Spent e c c.wire tt

-- where memory ran out nothing is said of what passed
pub spent_any : (first : WireTold) (now : Seen) (bodies late : List (List ℕ)) (texts later : List (Option (List ℕ))) → IsTalking first now bodies texts
    → now.kept.next ≡ Stands.Spent → IsTalking first now late later
spent_any first now bodies late texts later t e = record {
  given = t.given;
  taken = t.taken;
  door = t.door;
  wire = t.wire;
  passed = subst (λ n. Passed n now.kept.reader (log_of now late later)) (sym e) tt;
}

pub waiting_talks : (first : WireTold) (now : Seen) (bodies : List (List ℕ)) (texts : List (Option (List ℕ))) → IsFed first now NotYet bodies texts
    → now.kept.next ≡ Stands.Waits → IsTalking first now bodies texts
waiting_talks first now bodies texts f e = talks_so first now bodies texts Stands.Waits e f.carried f.carried.wire f.given

pub holding_talks : (first : WireTold) (now : Seen) (body : List ℕ) (close : Bool) (bodies : List (List ℕ)) (texts : List (Option (List ℕ)))
    → IsFed first now (Request body close) bodies texts → now.kept.next ≡ Stands.Holds body close → IsTalking first now bodies texts
holding_talks first now body close bodies texts f e = talks_so first now bodies texts (Stands.Holds body close) e f.carried f.carried.wire f.given

-- a request that is held is handed out
pub asked_talks : (first : WireTold) (now : Seen) (body : List ℕ) (close : Bool) (bodies : List (List ℕ)) (texts : List (Option (List ℕ)))
    → IsFed first now (Request body close) bodies texts → now.kept.next ≡ Stands.Owes close → IsTalking first now (bodies ++ body ∷ []) texts
asked_talks first now body close bodies texts f e =
    talks_so first now (bodies ++ body ∷ []) texts (Stands.Owes close) e f.carried f.carried.wire
    (record { body = body; early = bodies; bodies = refl; given = f.given })

-- ---- what a wire that is open tells

-- what is carried where the wire is open
pub carried_of : (first : WireTold) (now : Seen) (bodies : List (List ℕ)) (texts : List (Option (List ℕ))) → IsTalking first now bodies texts
    → IsOpen first now.kept.read.items now.line → IsCarried first now
carried_of first now bodies texts t wire = record { given = t.given; taken = t.taken; door = t.door; wire = wire }

-- a connection that stands so was fed this last
pub waiting_fed : (first : WireTold) (now : Seen) (bodies : List (List ℕ)) (texts : List (Option (List ℕ))) → IsTalking first now bodies texts
    → now.kept.next ≡ Stands.Waits → IsFed first now NotYet bodies texts
waiting_fed first now bodies texts t e = record {
  carried = carried_of first now bodies texts t (subst (λ n. WireTells (stage_of n) first now.kept.read.items now.line) e t.wire);
  given = subst (λ n. Passed n now.kept.reader (log_of now bodies texts)) e t.passed;
}

pub holding_fed : (first : WireTold) (now : Seen) (body : List ℕ) (close : Bool) (bodies : List (List ℕ)) (texts : List (Option (List ℕ)))
    → IsTalking first now bodies texts → now.kept.next ≡ Stands.Holds body close → IsFed first now (Request body close) bodies texts
holding_fed first now body close bodies texts t e = record {
  carried = carried_of first now bodies texts t (subst (λ n. WireTells (stage_of n) first now.kept.read.items now.line) e t.wire);
  given = subst (λ n. Passed n now.kept.reader (log_of now bodies texts)) e t.passed;
}

-- the request whose answer is owed, and the bodies before it
abbrev pub Owed : WireTold → Seen → Bool → List (List ℕ) → List (Option (List ℕ)) → Type 0
Owed first now close bodies texts = (body : List ℕ) × (early : List (List ℕ)) × (bodies ≡ early ++ body ∷ []) × IsFed first now (Request body close) early texts

pub owed : (first : WireTold) (now : Seen) (close : Bool) (bodies : List (List ℕ)) (texts : List (Option (List ℕ))) → IsTalking first now bodies texts
    → now.kept.next ≡ Stands.Owes close → Owed first now close bodies texts
owed first now close bodies texts t e =
    let a : HasAsked close now.kept.reader (log_of now bodies texts) = subst (λ n. Passed n now.kept.reader (log_of now bodies texts)) e t.passed in (
      a.body,
      a.early,
      a.bodies,
      record {
        carried = carried_of first now bodies texts t (subst (λ n. WireTells (stage_of n) first now.kept.read.items now.line) e t.wire);
        given = a.given;
      },
    )

-- ---- what is written

starts_so : (known : Option (List ℕ)) (left : Option (List ℕ)) (read : List ℕ) → Consumes known left read → IfSome known (λ all. StartsWith all read)
starts_so None left read c = tt
starts_so (Some all) None read c = absurd c
starts_so (Some all) (Some rest) read c = ap (take (length read)) c ∙ take-append_seam read rest

-- what was sent is carried, where the wire is open
sent_given : (first : WireTold) (was now : Seen) (text : List ℕ) (cut : Bool) → IsCarried first was → Sends text cut was now → Appends first.read now.line.read now.kept.read.items
sent_given first was now text cut c s =
    subst (λ g. Appends first.read g now.kept.read.items) (sym s.given) (subst (λ v. Appends first.read was.line.read v) (sym s.read) c.given)

sent_taken : (first : WireTold) (was now : Seen) (text : List ℕ) (cut : Bool) → IsCarried first was → (s : Sends text cut was now) → Appends first.written now.line.written now.kept.written.items
sent_taken first was now text cut c s =
    subst (Appends first.written now.line.written) (sym s.written) (Appends-trans first.written was.line.written now.line.written was.kept.written.items s.went c.taken s.taken)

sent_left : (first : WireTold) (was now : Seen) (text : List ℕ) (cut : Bool) → IsCarried first was → Sends text cut was now → Consumes first.unread now.line.unread now.kept.read.items
sent_left first was now text cut c s =
    subst (λ g. Consumes first.unread g now.kept.read.items) (sym s.left) (subst (λ v. Consumes first.unread was.line.unread v) (sym s.read) c.wire.left)

pub sent_carried : (first : WireTold) (was now : Seen) (text : List ℕ) → IsCarried first was → Sends text false was now → IsCarried first now
sent_carried first was now text c s = record {
  given = sent_given first was now text false c s;
  taken = sent_taken first was now text false c s;
  door = s.door ∙ c.door;
  wire = record { left = sent_left first was now text false c s; failures = s.failures ∙ c.wire.failures; closed = s.closed ∙ c.wire.closed };
}

-- what the reader gave last was answered, and the connection goes on
pub sent_on : (first : WireTold) (was now : Seen) (last : Fed) (text : Option (List ℕ)) (bodies : List (List ℕ)) (texts : List (Option (List ℕ)))
    → IsFed first was last bodies texts → LetsGo last → Sends (due last text) false was now
    → IsGoing first now [] (bodies ++ bodies_in (last ∷ [])) (texts ++ told_to last text)
sent_on first was now last text bodies texts f go s = record {
  carried = sent_carried first was now (due last text) f.carried s;
  early = was.kept.read.items;
  whole = s.read ∙ sym (append-nil was.kept.read.items);
  answered = subst (λ p. IsAnswered p (log was.kept.read.items now.kept.written.items (bodies ++ bodies_in (last ∷ [])) (texts ++ told_to last text))) (sym s.reader)
      (subst (λ w. IsAnswered was.kept.reader (log was.kept.read.items w (bodies ++ bodies_in (last ∷ [])) (texts ++ told_to last text)))
      (sym (s.written ∙ ap (λ w. was.kept.written.items ++ w) s.front))
      (answered_all last text was.kept.reader (log_of was bodies texts) go f.given));
}

-- the same where nothing is told
pub invited_on : (first : WireTold) (was now : Seen) (bodies : List (List ℕ)) (texts : List (Option (List ℕ))) → IsFed first was Interim bodies texts
    → Sends (due Interim None) false was now → IsGoing first now [] bodies texts
invited_on first was now bodies texts f s =
    subst (λ b. IsGoing first now [] b texts) (append-nil bodies)
    (subst (IsGoing first now [] (bodies ++ [])) (append-nil texts) (sent_on first was now Interim None bodies texts f tt s))

-- ---- how it ends

-- the wire is closed behind what was sent
finished_given : (first : WireTold) (was mid now : Seen) (text : List ℕ) (cut : Bool) (ending : Ending) → IsCarried first was → Sends text cut was mid → Finishes ending mid now
    → Appends first.read now.line.read now.kept.read.items
finished_given first was mid now text cut ending c s f =
    subst (λ g. Appends first.read g now.kept.read.items) (sym f.given)
    (subst (λ v. Appends first.read mid.line.read v) (sym f.read) (sent_given first was mid text cut c s))

finished_taken : (first : WireTold) (was mid now : Seen) (text : List ℕ) (cut : Bool) (ending : Ending) → IsCarried first was → Sends text cut was mid → Finishes ending mid now
    → Appends first.written now.line.written now.kept.written.items
finished_taken first was mid now text cut ending c s f =
    subst (λ g. Appends first.written g now.kept.written.items) (sym f.taken)
    (subst (λ v. Appends first.written mid.line.written v) (sym f.written) (sent_taken first was mid text cut c s))

finished_shut : (first : WireTold) (was mid now : Seen) (text : List ℕ) (cut : Bool) (ending : Ending) → IsCarried first was → Sends text cut was mid → Finishes ending mid now
    → IsShut first now.kept.read.items now.line
finished_shut first was mid now text cut ending c s f = record {
  front = subst (λ v. IfSome first.unread (λ all. StartsWith all v)) (sym f.read)
      (starts_so first.unread mid.line.unread mid.kept.read.items (sent_left first was mid text cut c s));
  closed = f.closed;
}

finished_written : (first : WireTold) (was mid now : Seen) (last : Fed) (text : Option (List ℕ)) (bodies : List (List ℕ)) (texts : List (Option (List ℕ))) (cut : Bool) (ending : Ending)
    → IsFed first was last bodies texts → (s : Sends (due last text) cut was mid) → Finishes ending mid now
    → HasWritten last text s.went now.kept.reader (log_of now (bodies ++ bodies_in (last ∷ [])) (texts ++ told_to last text))
finished_written first was mid now last text bodies texts cut ending g s f = record {
  early = log_of was bodies texts;
  given = subst (λ p. HasGiven last p (log_of was bodies texts)) (sym (f.reader ∙ s.reader)) g.given;
  read = (f.read ∙ s.read);
  bodies = refl;
  texts = refl;
  written = f.written ∙ s.written;
}

-- what was sent closes the connection
pub sent_closing : (first : WireTold) (was mid now : Seen) (last : Fed) (text : Option (List ℕ)) (bodies : List (List ℕ)) (texts : List (Option (List ℕ)))
    → IsFed first was last bodies texts → Closes last → Sends (due last text) false was mid → Finishes Ends.Closed mid now
    → IsTalking first now (bodies ++ bodies_in (last ∷ [])) (texts ++ told_to last text)
sent_closing first was mid now last text bodies texts g c s f =
    let bodies_now = bodies ++ bodies_in (last ∷ []) in
    let texts_now = texts ++ told_to last text in
    record {
      given = finished_given first was mid now (due last text) false Ends.Closed g.carried s f;
      taken = finished_taken first was mid now (due last text) false Ends.Closed g.carried s f;
      door = f.door ∙ s.door ∙ g.carried.door;
      wire = subst (λ n. WireTells (stage_of n) first now.kept.read.items now.line) (sym f.next)
          (finished_shut first was mid now (due last text) false Ends.Closed g.carried s f, f.failures ∙ s.failures ∙ g.carried.wire.failures);
      passed = subst (λ n. Passed n now.kept.reader (log_of now bodies_now texts_now)) (sym f.next) (
        last,
        text,
        c,
        subst (λ w. HasWritten last text w now.kept.reader (log_of now bodies_now texts_now)) s.front
            (finished_written first was mid now last text bodies texts false Ends.Closed g s f),
      );
    }

-- what a write that fails tells is the same of a wire as of one before it that was as open and had failed as much
same_cut : (before now : WireTold) → failures_of now ≡ failures_of before → now.closed ≡ before.closed → cut_behind_failed_write now ≡ cut_behind_failed_write before
same_cut before now failures closed = ap₂ (λ (f : Failures) c. f.write_failed || not c) failures closed

-- a write failed
pub sent_failing : (first : WireTold) (was mid now : Seen) (last : Fed) (text : Option (List ℕ)) (bodies : List (List ℕ)) (texts : List (Option (List ℕ)))
    → IsFed first was last bodies texts → Sends (due last text) true was mid → Finishes Ends.WriteFailed mid now
    → IsTalking first now (bodies ++ bodies_in (last ∷ [])) (texts ++ told_to last text)
sent_failing first was mid now last text bodies texts g s f =
    let bodies_now = bodies ++ bodies_in (last ∷ []) in
    let texts_now = texts ++ told_to last text in
    record {
      given = finished_given first was mid now (due last text) true Ends.WriteFailed g.carried s f;
      taken = finished_taken first was mid now (due last text) true Ends.WriteFailed g.carried s f;
      door = f.door ∙ s.door ∙ g.carried.door;
      wire = subst (λ n. WireTells (stage_of n) first now.kept.read.items now.line) (sym f.next) (
        finished_shut first was mid now (due last text) true Ends.WriteFailed g.carried s f,
        ap (λ (n : Failures). n.read_failed) f.failures ∙ s.failures.0 ∙ ap (λ (n : Failures). n.read_failed) g.carried.wire.failures,
        ap (λ (n : Failures). n.write_failed) f.failures ∙ s.failures.1 ∙ same_cut first was.line g.carried.wire.failures g.carried.wire.closed,
      );
      passed = subst (λ n. Passed n now.kept.reader (log_of now bodies_now texts_now)) (sym f.next) (
        last,
        text,
        s.front.0,
        s.front.1,
        subst (λ w. HasWritten last text w now.kept.reader (log_of now bodies_now texts_now)) s.front.2
            (finished_written first was mid now last text bodies texts true Ends.WriteFailed g s f),
      );
    }

-- ---- where nothing is told to what the reader gave

pub untold : (first : WireTold) (now : Seen) (bodies : List (List ℕ)) (texts : List (Option (List ℕ))) → IsTalking first now (bodies ++ []) (texts ++ [])
    → IsTalking first now bodies texts
untold first now bodies texts t =
    subst (λ b. IsTalking first now b texts) (append-nil bodies) (subst (IsTalking first now (bodies ++ [])) (append-nil texts) t)

-- ---- what is read

-- what a read that gave nothing did to a connection
pub record Reads (was now : Seen) (piece : List ℕ) : Type 0 where
  pub given : Appends was.line.read now.line.read piece
  pub left : Consumes was.line.unread now.line.unread piece
  pub taken : now.line.written ≡ was.line.written
  pub failures : failures_of now.line ≡ failures_of was.line
  pub closed : now.line.closed ≡ was.line.closed
  pub door : now.line.door ≡ was.line.door
  pub read : now.kept.read.items ≡ was.kept.read.items ++ piece
  pub written : now.kept.written.items ≡ was.kept.written.items
  pub reader : now.kept.reader ≡ was.kept.reader

read_carried : (first : WireTold) (was now : Seen) (piece : List ℕ) → IsCarried first was → Reads was now piece → IsCarried first now
read_carried first was now piece c r = record {
  given = subst (Appends first.read now.line.read) (sym r.read)
      (Appends-trans first.read was.line.read now.line.read was.kept.read.items piece c.given r.given);
  taken = subst (λ t. Appends first.written t now.kept.written.items) (sym r.taken) (subst (Appends first.written was.line.written) (sym r.written) c.taken);
  door = r.door ∙ c.door;
  wire = record {
    left = subst (Consumes first.unread now.line.unread) (sym r.read)
        (Consumes-trans first.unread was.line.unread now.line.unread was.kept.read.items piece c.wire.left r.left);
    failures = r.failures ∙ c.wire.failures;
    closed = r.closed ∙ c.wire.closed;
  };
}

-- a piece was read, where the reader waited for more
pub read_going : (first : WireTold) (was now : Seen) (piece : List ℕ) (bodies : List (List ℕ)) (texts : List (Option (List ℕ))) → IsFed first was NotYet bodies texts
    → Reads was now piece → IsGoing first now piece bodies texts
read_going first was now piece bodies texts f r =
    let l = log_of was bodies texts in
    let a : IsAnswered was.kept.reader (log l.read (l.written ++ []) (bodies ++ []) (texts ++ [])) = answered_all NotYet None was.kept.reader l tt f.given in
    record {
      carried = read_carried first was now piece f.carried r;
      early = was.kept.read.items;
      whole = r.read;
      answered = subst (λ p. IsAnswered p (log l.read now.kept.written.items bodies texts)) (sym r.reader)
          (subst (λ w. IsAnswered was.kept.reader (log l.read w bodies texts)) (append-nil l.written ∙ sym r.written)
          (subst (λ b. IsAnswered was.kept.reader (log l.read (l.written ++ []) b texts)) (append-nil bodies)
          (subst (λ t. IsAnswered was.kept.reader (log l.read (l.written ++ []) (bodies ++ []) t)) (append-nil texts) a)));
    }

-- what a finish does to what a connection keeps
stays_finished : (mid now : Seen) (ending : Ending) → Finishes ending mid now → (bodies : List (List ℕ)) (texts : List (Option (List ℕ)))
    → log_of mid bodies texts ≡ log_of now bodies texts
stays_finished mid now ending f bodies texts =
    ap (λ r. log r mid.kept.written.items bodies texts) (sym f.read) ∙ ap (λ w. log now.kept.read.items w bodies texts) (sym f.written)

-- the reader waits for more, and the connection is over
ended_given : (first : WireTold) (mid now : Seen) (ending : Ending) → IsCarried first mid → Finishes ending mid now → Appends first.read now.line.read now.kept.read.items
ended_given first mid now ending c f =
    subst (λ g. Appends first.read g now.kept.read.items) (sym f.given) (subst (λ v. Appends first.read mid.line.read v) (sym f.read) c.given)

ended_taken : (first : WireTold) (mid now : Seen) (ending : Ending) → Appends first.written mid.line.written mid.kept.written.items → Finishes ending mid now → Appends first.written now.line.written now.kept.written.items
ended_taken first mid now ending c f =
    subst (λ g. Appends first.written g now.kept.written.items) (sym f.taken) (subst (λ v. Appends first.written mid.line.written v) (sym f.written) c)

ended_passed : (mid now : Seen) (ending : Ending) (bodies : List (List ℕ)) (texts : List (Option (List ℕ))) → HasGiven NotYet mid.kept.reader (log_of mid bodies texts)
    → Finishes ending mid now → HasGiven NotYet now.kept.reader (log_of now bodies texts)
ended_passed mid now ending bodies texts g f =
    subst (λ p. HasGiven NotYet p (log_of now bodies texts)) (sym f.reader)
    (subst (HasGiven NotYet mid.kept.reader) (stays_finished mid now ending f bodies texts) g)

-- a wire that is at its end gave all that it had
at_end : (known : Option (List ℕ)) (left : Option (List ℕ)) (read : List ℕ) → Consumes known left read → IsAtEnd left → IfSome known (λ all. all ≡ read)
at_end None left read c e = tt
at_end (Some all) None read c e = absurd c
at_end (Some all) (Some rest) read c e = c ∙ ap (λ l. read ++ l) e ∙ append-nil read

-- no more comes
pub read_ended : (first : WireTold) (was mid now : Seen) (bodies : List (List ℕ)) (texts : List (Option (List ℕ))) → IsFed first was NotYet bodies texts
    → Reads was mid [] → IsAtEnd mid.line.unread → Finishes Ends.Ended mid now → IsTalking first now bodies texts
read_ended first was mid now bodies texts f r end fin =
    let c = read_carried first was mid [] f.carried r in
    record {
      given = ended_given first mid now Ends.Ended c fin;
      taken = ended_taken first mid now Ends.Ended c.taken fin;
      door = fin.door ∙ c.door;
      wire = subst (λ n. WireTells (stage_of n) first now.kept.read.items now.line) (sym fin.next) (
        record {
          front = subst (λ v. IfSome first.unread (λ all. StartsWith all v)) (sym fin.read)
              (starts_so first.unread mid.line.unread mid.kept.read.items c.wire.left);
          closed = fin.closed;
        },
        fin.failures ∙ c.wire.failures,
        subst (λ v. IfSome first.unread (λ all. all ≡ v)) (sym fin.read) (at_end first.unread mid.line.unread mid.kept.read.items c.wire.left end),
      );
      passed = subst (λ n. Passed n now.kept.reader (log_of now bodies texts)) (sym fin.next)
          (ended_passed mid now Ends.Ended bodies texts (read_given was mid bodies texts f.given r) fin);
    }
  where
    read_given : (was mid : Seen) (bodies : List (List ℕ)) (texts : List (Option (List ℕ))) → HasGiven NotYet was.kept.reader (log_of was bodies texts) → Reads was mid []
        → HasGiven NotYet mid.kept.reader (log_of mid bodies texts)
    read_given was mid bodies texts g r =
        subst (λ p. HasGiven NotYet p (log_of mid bodies texts)) (sym r.reader)
        (subst (HasGiven NotYet was.kept.reader)
        (ap (λ x. log x was.kept.written.items bodies texts) (sym (r.read ∙ append-nil was.kept.read.items)) ∙ ap (λ w. log mid.kept.read.items w bodies texts) (sym r.written)) g)

-- a read that failed
pub record FailsRead (was now : Seen) : Type 0 where
  pub given : Keeps was.line.read now.line.read
  pub left : Keeps was.line.unread now.line.unread
  pub taken : now.line.written ≡ was.line.written
  pub lost : now.line.read_failed ≡ true
  pub uncut : now.line.write_failed ≡ was.line.write_failed
  pub door : now.line.door ≡ was.line.door
  pub read : now.kept.read.items ≡ was.kept.read.items
  pub written : now.kept.written.items ≡ was.kept.written.items
  pub reader : now.kept.reader ≡ was.kept.reader

pub read_failed : (first : WireTold) (was mid now : Seen) (bodies : List (List ℕ)) (texts : List (Option (List ℕ))) → IsFed first was NotYet bodies texts
    → FailsRead was mid → Finishes Ends.ReadFailed mid now → IsTalking first now bodies texts
read_failed first was mid now bodies texts f r fin =
    let c = f.carried in
    let given : Appends first.read mid.line.read mid.kept.read.items =
    subst (Appends first.read mid.line.read) (sym r.read) (Appends-kept first.read was.line.read mid.line.read was.kept.read.items c.given r.given) in
    let left : Consumes first.unread mid.line.unread mid.kept.read.items =
    subst (Consumes first.unread mid.line.unread) (sym r.read) (Consumes-kept first.unread was.line.unread mid.line.unread was.kept.read.items c.wire.left r.left) in
    let taken : Appends first.written mid.line.written mid.kept.written.items =
    subst (λ t. Appends first.written t mid.kept.written.items) (sym r.taken) (subst (Appends first.written was.line.written) (sym r.written) c.taken) in
    let same : log_of was bodies texts ≡ log_of mid bodies texts =
    ap (λ x. log x was.kept.written.items bodies texts) (sym r.read) ∙ ap (λ w. log mid.kept.read.items w bodies texts) (sym r.written) in
    let passed : HasGiven NotYet mid.kept.reader (log_of mid bodies texts) =
    subst (λ p. HasGiven NotYet p (log_of mid bodies texts)) (sym r.reader) (subst (HasGiven NotYet was.kept.reader) same f.given) in
    record {
      given = subst (λ g. Appends first.read g now.kept.read.items) (sym fin.given) (subst (λ v. Appends first.read mid.line.read v) (sym fin.read) given);
      taken = ended_taken first mid now Ends.ReadFailed taken fin;
      door = fin.door ∙ r.door ∙ c.door;
      wire = subst (λ n. WireTells (stage_of n) first now.kept.read.items now.line) (sym fin.next) (
        record {
          front = subst (λ v. IfSome first.unread (λ all. StartsWith all v)) (sym fin.read) (starts_so first.unread mid.line.unread mid.kept.read.items left);
          closed = fin.closed;
        },
        ap (λ (n : Failures). n.read_failed) fin.failures ∙ r.lost,
        ap (λ (n : Failures). n.write_failed) fin.failures ∙ r.uncut ∙ ap (λ (n : Failures). n.write_failed) c.wire.failures,
      );
      passed = subst (λ n. Passed n now.kept.reader (log_of now bodies texts)) (sym fin.next) (ended_passed mid now Ends.ReadFailed bodies texts passed fin);
    }

-- ---- at first

pub talks_first : (first : WireTold) (now : Seen) → now.line ≡ first → now.kept.read.items ≡ [] → now.kept.written.items ≡ [] → now.kept.reader ≡ Open [] false
    → now.kept.next ≡ Stands.Waits → IsTalking first now [] []
talks_first first now line read written reader next = record {
  given = subst (λ (l : WireTold). Appends first.read l.read now.kept.read.items) (sym line) (subst (Appends first.read first.read) (sym read) (Appends-nil first.read));
  taken = subst (λ (l : WireTold). Appends first.written l.written now.kept.written.items) (sym line) (subst (Appends first.written first.written) (sym written) (Appends-nil first.written));
  door = ap (λ (l : WireTold). l.door) line;
  wire = subst (λ n. WireTells (stage_of n) first now.kept.read.items now.line) (sym next)
      (subst (IsOpen first now.kept.read.items) (sym line) (subst (λ l. IsOpen first l first) (sym read) (record { left = Consumes-nil first.unread; failures = refl; closed = refl })));
  passed = subst (λ n. Passed n now.kept.reader (log_of now [] [])) (sym next)
      (subst (λ p. HasGiven NotYet p (log_of now [] [])) (sym reader)
      (subst (λ r. HasGiven NotYet (Open [] false) (log r now.kept.written.items [] [])) (sym read)
      (subst (λ w. HasGiven NotYet (Open [] false) (log [] w [] [])) (sym written) given_first)));
}
  where
    given_first : HasGiven NotYet (Open [] false) (log [] [] [] [])
    given_first = record {
      early = [];
      piece = [];
      before = Open [] false;
      whole = refl;
      answered = record { pieces = []; feds = []; whole = refl; run = refl; answered = (refl, refl); bodies = refl };
      feeds = ∣ (_, refl, refl) ∣₁;
    }

-- ---- what goes out

-- what a wire took is kept
pub sends : (text : List ℕ) (count : ℕ) (was now : Seen) → Takes text count was.line now.line → now.kept.written.items ≡ was.kept.written.items ++ take count text
    → now.kept.read.items ≡ was.kept.read.items → now.kept.reader ≡ was.kept.reader → now.kept.next ≡ was.kept.next → Sends text (ltb count (length text)) was now
sends text count was now t written read reader next = elim (cases_lt count (length text)) [
  | inl short ↦ subst (λ cut. Sends text cut was now) (sym (lt-ltb count (length text) short)) (record {
    went = take count text;
    front = (count, short, refl);
    written = written;
    taken = t.taken;
    failures = t.cause short;
    given = t.given;
    left = t.left;
    closed = t.closed;
    door = t.door;
    read = read;
    reader = reader;
    next = next;
  })
  | inr full ↦ subst (λ cut. Sends text cut was now) (sym (le-ltb count (length text) full)) (record {
    went = take count text;
    front = take_all count text full;
    written = written;
    taken = t.taken;
    failures = let within = t.within in t.unfailed (omega arith);
    given = t.given;
    left = t.left;
    closed = t.closed;
    door = t.door;
    read = read;
    reader = reader;
    next = next;
  })
]

-- ---- what is handed out

-- what comes of an error
pub at_error : {T E : Type 0} (r : Result T E) (P : T → Type 0) (Q : E → Type 0) (e : E) → r ≡ Err e → Q e → MatchResult r P Q
at_error r P Q e is q = subst (λ v. MatchResult v P Q) (sym is) q

-- the same where the error is not named
pub if_error : {T E : Type 0} (r : Result T E) (P : T → Type 0) (Q : Type 0) → IsErr r → Q → MatchResult r P (λ _. Q)
if_error (Ok x) P Q is q = absurd (cc)
if_error (Err e) P Q is q = q

moved : (first : WireTold) (was now : Seen) (bodies : List (List ℕ)) (texts : List (Option (List ℕ))) → IsTalking first was bodies texts
    → Stays was now → now.kept.reader ≡ was.kept.reader → now.kept.next ≡ was.kept.next → IsTalking first now bodies texts
moved first was now bodies texts t s reader next = record {
  given = subst (λ (l : WireTold). Appends first.read l.read now.kept.read.items) (sym s.line)
      (subst (Appends first.read was.line.read) (sym s.read) t.given);
  taken = subst (λ (l : WireTold). Appends first.written l.written now.kept.written.items) (sym s.line)
      (subst (Appends first.written was.line.written) (sym s.written) t.taken);
  door = ap (λ (l : WireTold). l.door) s.line ∙ t.door;
  wire = subst (λ n. WireTells (stage_of n) first now.kept.read.items now.line) (sym next)
      (subst (WireTells (stage_of was.kept.next) first now.kept.read.items) (sym s.line)
      (subst (λ l. WireTells (stage_of was.kept.next) first l was.line) (sym s.read) t.wire));
  passed = subst (λ n. Passed n now.kept.reader (log_of now bodies texts)) (sym next)
      (subst (λ p. Passed was.kept.next p (log_of now bodies texts)) (sym reader)
      (subst (Passed was.kept.next was.kept.reader) (same_log was now s bodies texts) t.passed));
}

-- where a connection that is not over gives up
gives_up : (first : WireTold) (was now : Seen) (bodies : List (List ℕ)) (texts : List (Option (List ℕ))) → IsTalking first was bodies texts
    → IsOpen first was.kept.read.items was.line → Stays was now → now.kept.next ≡ Stands.Spent → IsTalking first now bodies texts
gives_up first was now bodies texts t w s next =
    spent_talks first now bodies texts (carried_on first was now (carried_of first was bodies texts t w) s) next

-- a connection that waits gives up
pub waiting_spent : (first : WireTold) (was now : Seen) (bodies : List (List ℕ)) (texts : List (Option (List ℕ))) → IsTalking first was bodies texts
    → was.kept.next ≡ Stands.Waits → Stays was now → now.kept.next ≡ Stands.Spent → IsTalking first now bodies texts
waiting_spent first was now bodies texts t e s next =
    gives_up first was now bodies texts t (subst (λ n. WireTells (stage_of n) first was.kept.read.items was.line) e t.wire) s next

-- what comes of asking
abbrev pub Handed : {E : Type 0} → WireTold → Seen → List (List ℕ) → List (Option (List ℕ)) → Result (Option (List ℕ)) E → Type 0
Handed first now bodies texts result = MatchResult result (λ came. IsTalking first now (bodies ++ handed came) texts) (λ _. IsTalking first now bodies texts)

pub hands_out : {E : Type 0} (first : WireTold) (was now : Seen) (bodies : List (List ℕ)) (texts : List (Option (List ℕ))) (result : Result (Option (List ℕ)) E)
    → IsTalking first was bodies texts → HandsOut was.kept.next result now.kept.next → Stays was now → now.kept.reader ≡ was.kept.reader
    → Handed first now bodies texts result
hands_out first was now bodies texts result t h s reader = by_next was.kept.next refl h
  where
    wire_at : (next : Standing) → was.kept.next ≡ next → WireTells (stage_of next) first was.kept.read.items was.line
    wire_at next e = subst (λ n. WireTells (stage_of n) first was.kept.read.items was.line) e t.wire

    failed : IsOpen first was.kept.read.items was.line → IsErr result → now.kept.next ≡ Stands.Spent → Handed first now bodies texts result
    failed w is next = if_error result (λ came. IsTalking first now (bodies ++ handed came) texts) (IsTalking first now bodies texts) is (gives_up first was now bodies texts t w s next)

    by_next : (next : Standing) → was.kept.next ≡ next → HandsOut next result now.kept.next → Handed first now bodies texts result
    by_next Stands.Waits e x = absurd x
    by_next (Stands.Holds body close) e x =
        subst (Handed first now bodies texts) (sym x.0)
        (asked_talks first now body close bodies texts (fed_on first was now (Request body close) bodies texts (holding_fed first was body close bodies texts t e) s reader) x.1)
    by_next (Stands.Owes close) e x = absurd x
    by_next (Stands.Over ending) e x =
        subst (Handed first now bodies texts) (sym x.0)
        (subst (λ b. IsTalking first now b texts) (sym (append-nil bodies)) (moved first was now bodies texts t s reader (x.1 ∙ sym e)))
    by_next Stands.Spent e x = failed (wire_at Stands.Spent e) x.0 x.1

-- how the connection stands then
abbrev pub StandsThen : {E : Type 0} → Result (Option (List ℕ)) E → Standing → Type 0
StandsThen result next = MatchResult result (λ came. IsBehindAsking came (stage_of next)) (λ _. stage_of next ≡ Stages.Spent)

over_stage : (ending : Ending) → IsOver (stage_behind ending)
over_stage Ends.Ended = inl refl
over_stage Ends.Closed = inr (inl refl)
over_stage Ends.ReadFailed = inr (inr (inl refl))
over_stage Ends.WriteFailed = inr (inr (inr refl))

pub stands_then : {E : Type 0} (was now : Standing) (result : Result (Option (List ℕ)) E) → HandsOut was result now → StandsThen result now
stands_then Stands.Waits now result x = absurd x
stands_then (Stands.Holds body close) now result x = subst (λ r. StandsThen r now) (sym x.0) (ap stage_of x.1)
stands_then (Stands.Owes close) now result x = absurd x
stands_then (Stands.Over ending) now result x = subst (λ r. StandsThen r now) (sym x.0) (subst (λ n. IsOver (stage_of n)) (sym x.1) (over_stage ending))
stands_then Stands.Spent now result x = if_error result (λ came. IsBehindAsking came (stage_of now)) (stage_of now ≡ Stages.Spent) x.0 (ap stage_of x.1)

pub waits_where : (next : Standing) → is_waiting next ≡ true → next ≡ Stands.Waits
waits_where Stands.Waits e = refl
waits_where (Stands.Holds body close) e = absurd (cc)
waits_where (Stands.Owes close) e = absurd (cc)
waits_where (Stands.Over ending) e = absurd (cc)
waits_where Stands.Spent e = absurd (cc)

pub not_waiting : (next is : Standing) → next ≡ is → is_waiting is ≡ false → is_waiting next ≡ true → ⊥
not_waiting next is e held waits = true≢false (sym waits ∙ ap is_waiting e ∙ held)

-- ---- what may be handed out

-- where the next request may be asked for, and no more bytes are to be read
pub may_hand_out : (next : Standing) → MayBeAsked (stage_of next) → is_waiting next ≡ false → MayHandOut next
may_hand_out Stands.Waits may held = absurd (cc)
may_hand_out (Stands.Holds body close) may held = tt
may_hand_out (Stands.Owes close) (inl e) held = absurd (cc)
may_hand_out (Stands.Owes close) (inr e) held = absurd (cc)
may_hand_out (Stands.Over ending) may held = tt
may_hand_out Stands.Spent may held = tt

-- where the connection is over
pub over_hand_out : (next : Standing) (ending : Ending) → next ≡ Stands.Over ending → MayHandOut next
over_hand_out next ending e = subst MayHandOut (sym e) tt

-- where what is due for a piece was done
behind_hand_out : (next : Standing) → IsBehindTelling (stage_of next) → is_waiting next ≡ false → MayHandOut next
behind_hand_out Stands.Waits behind held = absurd (cc)
behind_hand_out (Stands.Holds body close) behind held = tt
behind_hand_out (Stands.Owes close) (inl e) held = absurd (cc)
behind_hand_out (Stands.Owes close) (inr (inl e)) held = absurd (cc)
behind_hand_out (Stands.Owes close) (inr (inr e)) held = absurd (cc)
behind_hand_out (Stands.Over ending) behind held = tt
behind_hand_out Stands.Spent behind held = tt

-- the same unless memory ran out
pub hands_behind : {T E : Type 0} (r : Result T E) (next : Standing) → MatchResult r (λ _. IsBehindTelling (stage_of next)) (λ _. next ≡ Stands.Spent)
    → MatchResult r (λ _. is_waiting next ≡ false → MayHandOut next) (λ _. next ≡ Stands.Spent)
hands_behind (Ok x) next behind = behind_hand_out next behind
hands_behind (Err e) next spent = spent

-- ---- the interim line

pub interim_fed : (fed : Fed) → is_interim fed ≡ true → fed ≡ Interim
interim_fed NotYet e = absurd (cc)
interim_fed Interim e = refl
interim_fed (Request body close) e = absurd (cc)
interim_fed (Refused status) e = absurd (cc)

-- ---- what is told

-- a connection that owes an answer gives up
pub owing_spent : (first : WireTold) (was now : Seen) (close : Bool) (bodies : List (List ℕ)) (texts : List (Option (List ℕ))) → IsTalking first was bodies texts
    → was.kept.next ≡ Stands.Owes close → Stays was now → now.kept.next ≡ Stands.Spent → IsTalking first now bodies texts
owing_spent first was now close bodies texts t e s next =
    gives_up first was now bodies texts t (subst (λ n. WireTells (stage_of n) first was.kept.read.items was.line) e t.wire) s next

-- an answer is owed, or memory ran out, where one may be told
pub may_tell : (next : Standing) → MayBeTold (stage_of next) → MayTell next
may_tell Stands.Waits (inl e) = absurd (cc)
may_tell Stands.Waits (inr e) = absurd (cc)
may_tell (Stands.Holds body close) (inl e) = absurd (cc)
may_tell (Stands.Holds body close) (inr e) = absurd (cc)
may_tell (Stands.Owes close) may = tt
may_tell (Stands.Over ending) may = absurd (not_over ending may)
  where
    not_over : (ending : Ending) → MayBeTold (stage_behind ending) → ⊥
    not_over Ends.Ended (inl e) = cc
    not_over Ends.Ended (inr e) = cc
    not_over Ends.Closed (inl e) = cc
    not_over Ends.Closed (inr e) = cc
    not_over Ends.ReadFailed (inl e) = cc
    not_over Ends.ReadFailed (inr e) = cc
    not_over Ends.WriteFailed (inl e) = cc
    not_over Ends.WriteFailed (inr e) = cc
may_tell Stands.Spent may = tt

-- the wire failed in the answer
pub answer_failing : (first : WireTold) (was mid now : Seen) (close : Bool) (text : Option (List ℕ)) (bodies : List (List ℕ)) (texts : List (Option (List ℕ)))
    → Owed first was close bodies texts → Sends (answer text close) true was mid → Finishes Ends.WriteFailed mid now → IsTalking first now bodies (texts ++ text ∷ [])
answer_failing first was mid now close text bodies texts o s f =
    subst (λ b. IsTalking first now b (texts ++ text ∷ [])) (sym o.2) (sent_failing first was mid now (Request o.0 close) text o.1 texts o.3 s f)

-- the connection closes with the answer
pub answer_closing : (first : WireTold) (was mid now : Seen) (close : Bool) (text : Option (List ℕ)) (bodies : List (List ℕ)) (texts : List (Option (List ℕ)))
    → Owed first was close bodies texts → close ≡ true → Sends (answer text close) false was mid → Finishes Ends.Closed mid now → IsTalking first now bodies (texts ++ text ∷ [])
answer_closing first was mid now close text bodies texts o c s f =
    subst (λ b. IsTalking first now b (texts ++ text ∷ [])) (sym o.2) (sent_closing first was mid now (Request o.0 close) text o.1 texts o.3 c s f)

-- it goes on behind the answer
pub answer_going : (first : WireTold) (was now : Seen) (close : Bool) (text : Option (List ℕ)) (bodies : List (List ℕ)) (texts : List (Option (List ℕ)))
    → Owed first was close bodies texts → close ≡ false → Sends (answer text close) false was now → IsGoing first now [] bodies (texts ++ text ∷ [])
answer_going first was now close text bodies texts o c s =
    subst (λ b. IsGoing first now [] b (texts ++ text ∷ [])) (sym o.2) (sent_on first was now (Request o.0 close) text o.1 texts o.3 c s)

-- what is owed, where only what comes next was taken out
pub owed_on : (first : WireTold) (was now : Seen) (close : Bool) (bodies : List (List ℕ)) (texts : List (Option (List ℕ))) → IsTalking first was bodies texts
    → was.kept.next ≡ Stands.Owes close → Stays was now → now.kept.reader ≡ was.kept.reader → Owed first now close bodies texts
owed_on first was now close bodies texts t e s reader =
    let o = owed first was close bodies texts t e in
    (o.0, o.1, o.2, fed_on first was now (Request o.0 close) o.1 texts o.3 s reader)

-- where memory ran out behind an answer its text counts for nothing
pub told_or_spent : {T E : Type 0} (r : Result T E) (P : T → Type 0) (first : WireTold) (now : Seen) (bodies : List (List ℕ)) (texts : List (Option (List ℕ))) (text : Option (List ℕ))
    → IsTalking first now bodies (texts ++ text ∷ []) → MatchResult r P (λ _. now.kept.next ≡ Stands.Spent)
    → MatchResult r (λ _. IsTalking first now bodies (texts ++ text ∷ [])) (λ _. IsTalking first now bodies texts)
told_or_spent (Ok x) P first now bodies texts text t next = t
told_or_spent (Err e) P first now bodies texts text t next = spent_any first now bodies bodies (texts ++ text ∷ []) texts t next

pub spent_stage : {T E : Type 0} (r : Result T E) (P : T → Type 0) (next : Standing) → MatchResult r P (λ _. next ≡ Stands.Spent) → MatchResult r P (λ _. stage_of next ≡ Stages.Spent)
spent_stage (Ok x) P next h = h
spent_stage (Err e) P next h = ap stage_of h
