-- What the requests of a connection call for, by what a reader gives of its bytes.
use Rattle.std.proofs.Common.{◌≡◌, ℕ, ◌+◌, Bool, true, false, cond, List, [], ◌∷◌, ◌++◌, length, drop, map, Some, None, sym, refl, ap, ◌∙◌, append_assoc, append-nil}
use Rattle.std.specs.Prelude.{Option}
use Rattle.std.proofs.Math.Seq.{drop-append_seam}
use Rattle.http_port.specs.declared.verdict.Admission.{Admission}
use Rattle.http_port.specs.declared.head_reader.Fed.{Fed}
use Rattle.http_port.specs.declared.head_reader.Fed.TheVariants.{NotYet, Interim, Request, Refused}
use Rattle.http_port.specs.declared.serve.Said.{Said}
use Rattle.http_port.specs.declared.serve.Said.TheVariants as Says
use Rattle.http_port.specs.declared.serving.WireEnd.{WireEnd}
use Rattle.http_port.specs.declared.serving.WireEnd.TheVariants as Ends
use Rattle.http_port.specs.Feeding.{body_of}
use Rattle.http_port.specs.Walks.{Asks}
use Rattle.http_port.specs.Connections.{Reading, waits, refuses, lacks, closes, goes_on, RequestRead, End, Unfinished, WithInterim, Closed, requests, end_of, given}
use Rattle.http_port.specs.Responses.{interim, response}
use Rattle.http_port.specs.Talk.{answer, last_words, talk}
use Rattle.http_port.specs.Serving.{Demand, texts, to_write, serving_end, demand_of, bodies_in}
use Rattle.http_port.proofs.ReadingLemmas.{still, tail_of}

-- what is written for what a reader gives, where these texts are said
abbrev pub spoken : List Fed → List (Option (List ℕ)) → List ℕ
spoken [] texts = []
spoken (NotYet ∷ more) texts = spoken more texts
spoken (Interim ∷ more) texts = interim ++ spoken more texts
spoken (Request body close ∷ more) [] = []
spoken (Request body close ∷ more) (text ∷ texts) = answer text close ++ cond close [] (spoken more texts)
spoken (Refused status ∷ more) texts = response status [] true

-- how serving ends where the connection closes, if nothing more is said
abbrev pub closed_by : List Said → Option WireEnd
closed_by [] = Some Ends.Closed
closed_by (first ∷ said) = None

-- how serving ends for what a reader gives
abbrev pub ended : List Fed → List Said → Option WireEnd
ended [] [] = Some Ends.Ended
ended [] (first ∷ said) = None
ended (NotYet ∷ more) said = ended more said
ended (Interim ∷ more) said = ended more said
ended (Request body close ∷ more) [] = None
ended (Request body close ∷ more) (Says.Text bytes ∷ said) = cond close (closed_by said) (ended more said)
ended (Request body close ∷ more) (Says.Nothing ∷ said) = cond close (closed_by said) (ended more said)
ended (Request body close ∷ more) (Says.Later ∷ []) = Some (Ends.Later close)
ended (Request body close ∷ more) (Says.Later ∷ next ∷ said) = None
ended (Refused status ∷ more) said = closed_by said

-- the interim line of the first head, if it is given
abbrev first_line : Bool → List ℕ
first_line i = cond i interim []

spoken_first : (i : Bool) (gs : List Fed) (ts : List (Option (List ℕ))) → spoken (cond i (Interim ∷ []) [] ++ gs) ts ≡ first_line i ++ spoken gs ts
spoken_first true gs ts = refl
spoken_first false gs ts = refl

ended_first : (i : Bool) (gs : List Fed) (said : List Said) → ended (cond i (Interim ∷ []) [] ++ gs) said ≡ ended gs said
ended_first true gs said = refl
ended_first false gs said = refl

bodies_first : (i : Bool) (gs : List Fed) → bodies_in (cond i (Interim ∷ []) [] ++ gs) ≡ bodies_in gs
bodies_first true gs = refl
bodies_first false gs = refl

lacking_words : (i : Bool) (ts : List (Option (List ℕ))) → last_words (cond i WithInterim Unfinished) ≡ spoken (cond i (Interim ∷ []) []) ts
lacking_words true ts = sym (append-nil interim)
lacking_words false ts = refl

-- the answer of a request that closes is the last
closing : (c : Bool) (text : Option (List ℕ)) (more : List ℕ) → c ≡ true → answer text c ++ cond c [] more ≡ answer text c ++ []
closing c text more e = ap (λ u. answer text c ++ cond u [] more) e

staying : (c : Bool) (text : Option (List ℕ)) (more : List ℕ) → c ≡ false → answer text c ++ cond c [] more ≡ answer text c ++ more
staying c text more e = ap (λ u. answer text c ++ cond u [] more) e

-- what is said on a connection is what is written for what a reader gives of it
pub talk_given : (bytes : List ℕ) (r : Reading bytes) (ts : List (Option (List ℕ))) → talk (requests bytes r) (end_of bytes r) ts ≡ spoken (given bytes r) ts
talk_given bytes (waits _ k) ts = refl
talk_given bytes (refuses _ s k) ts = refl
talk_given bytes (lacks _ a k short) ts = lacking_words a.interim ts
talk_given bytes (closes _ a k whole close) [] = sym (append-nil (first_line a.interim)) ∙ sym (spoken_first a.interim (Request (body_of bytes a) a.close ∷ []) [])
talk_given bytes (closes _ a k whole close) (t ∷ ts) =
    append_assoc (first_line a.interim) (answer t a.close) []
    ∙ ap (λ l. first_line a.interim ++ l) (sym (closing a.close t [] close))
    ∙ sym (spoken_first a.interim (Request (body_of bytes a) a.close ∷ []) (t ∷ ts))
talk_given bytes (goes_on _ a k whole stays rest) [] =
    sym (append-nil (first_line a.interim)) ∙ sym (spoken_first a.interim (Request (body_of bytes a) a.close ∷ given (drop (a.head + a.body) bytes) rest) [])
talk_given bytes (goes_on _ a k whole stays rest) (t ∷ ts) =
    let more = given (drop (a.head + a.body) bytes) rest in
    append_assoc (first_line a.interim) (answer t a.close) (talk (requests (drop (a.head + a.body) bytes) rest) (end_of (drop (a.head + a.body) bytes) rest) ts)
    ∙ ap (λ l. first_line a.interim ++ (answer t a.close ++ l)) (talk_given (drop (a.head + a.body) bytes) rest ts)
    ∙ ap (λ l. first_line a.interim ++ l) (sym (staying a.close t (spoken more ts) stays))
    ∙ sym (spoken_first a.interim (Request (body_of bytes a) a.close ∷ more) (t ∷ ts))

closed_end : (said : List Said) → serving_end [] Closed said ≡ closed_by said
closed_end [] = refl
closed_end (first ∷ said) = refl

lacking_end : (i : Bool) (said : List Said) → serving_end [] (cond i WithInterim Unfinished) said ≡ ended (cond i (Interim ∷ []) []) said
lacking_end true [] = refl
lacking_end true (first ∷ said) = refl
lacking_end false [] = refl
lacking_end false (first ∷ said) = refl

-- how the request of a reading that is last or goes on leads on
request_end : (q : RequestRead) (reqs : List RequestRead) (end : End) (body : List ℕ) (gs : List Fed) (said : List Said)
    → ((later : List Said) → serving_end reqs end later ≡ cond q.close (closed_by later) (ended gs later))
    → serving_end (q ∷ reqs) end said ≡ ended (Request body q.close ∷ gs) said
request_end q reqs end body gs [] on = refl
request_end q reqs end body gs (Says.Text bytes ∷ said) on = on said
request_end q reqs end body gs (Says.Nothing ∷ said) on = on said
request_end q reqs end body gs (Says.Later ∷ []) on = refl
request_end q reqs end body gs (Says.Later ∷ next ∷ said) on = refl

abbrev read_as : List ℕ → Admission → RequestRead
read_as bytes a = record { interim = a.interim; body = body_of bytes a; close = a.close }

-- how serving ends is how it ends for what a reader gives
pub end_given : (bytes : List ℕ) (r : Reading bytes) (said : List Said) → serving_end (requests bytes r) (end_of bytes r) said ≡ ended (given bytes r) said
end_given bytes (waits _ k) [] = refl
end_given bytes (waits _ k) (first ∷ said) = refl
end_given bytes (refuses _ s k) [] = refl
end_given bytes (refuses _ s k) (first ∷ said) = refl
end_given bytes (lacks _ a k short) said = lacking_end a.interim said
end_given bytes (closes _ a k whole close) said =
    request_end (read_as bytes a) [] Closed (body_of bytes a) [] said
    (λ later. closed_end later ∙ sym (ap (λ u. cond u (closed_by later) (ended [] later)) close))
    ∙ sym (ended_first a.interim (Request (body_of bytes a) a.close ∷ []) said)
end_given bytes (goes_on _ a k whole stays rest) said =
    let left = drop (a.head + a.body) bytes in
    request_end (read_as bytes a) (requests left rest) (end_of left rest) (body_of bytes a) (given left rest) said
    (λ later. end_given left rest later ∙ sym (ap (λ u. cond u (closed_by later) (ended (given left rest) later)) stays))
    ∙ sym (ended_first a.interim (Request (body_of bytes a) a.close ∷ given left rest) said)

-- the bodies of the requests are those that a reader gives
pub bodies_given : (bytes : List ℕ) (r : Reading bytes) → map (λ (q : RequestRead). q.body) (requests bytes r) ≡ bodies_in (given bytes r)
bodies_given bytes (waits _ k) = refl
bodies_given bytes (refuses _ s k) = refl
bodies_given bytes (lacks _ a k short) = lacking a.interim
  where
    lacking : (i : Bool) → [] ≡ bodies_in (cond i (Interim ∷ []) [])
    lacking true = refl
    lacking false = refl
bodies_given bytes (closes _ a k whole close) = sym (bodies_first a.interim (Request (body_of bytes a) a.close ∷ []))
bodies_given bytes (goes_on _ a k whole stays rest) =
    let left = drop (a.head + a.body) bytes in
    ap (λ l. body_of bytes a ∷ l) (bodies_given left rest) ∙ sym (bodies_first a.interim (Request (body_of bytes a) a.close ∷ given left rest))

-- what the bytes call for is what these that a reader gives call for
pub record CallsFor (demand : Demand) (fs : List Fed) : Type 0 where
  pub writes : (said : List Said) → to_write demand said ≡ spoken fs (texts said)
  pub ends : (said : List Said) → serving_end demand.queue demand.end said ≡ ended fs said
  pub bodies : map (λ (q : RequestRead). q.body) demand.queue ≡ bodies_in fs

-- where the head at hand asks, its interim line comes first
interim_front : (bytes : List ℕ) → Asks bytes → (r : Reading bytes) → (tail : List Fed) × (given bytes r ≡ Interim ∷ tail)
interim_front bytes x r =
    let t = tail_of bytes x.0 x.1 r in
    (t.0, t.1 ∙ ap (λ u. cond u (Interim ∷ []) [] ++ t.0) x.2)

pub calls_for : (bytes : List ℕ) (asked : Bool) → (asked ≡ true → Asks bytes) → (r : Reading bytes) → CallsFor (demand_of bytes r asked) (still asked (given bytes r))
calls_for bytes false asks r = record {
  writes = λ said. talk_given bytes r (texts said);
  ends = end_given bytes r;
  bodies = bodies_given bytes r;
}
calls_for bytes true asks r =
    let f = interim_front bytes (asks refl) r in
    let tail = f.0 in
    let back : drop 1 (given bytes r) ≡ tail = ap (drop 1) f.1 in
    record {
      writes = λ said.
          ap (drop (length interim)) (talk_given bytes r (texts said) ∙ ap (λ fs. spoken fs (texts said)) f.1)
          ∙ drop-append_seam interim (spoken tail (texts said))
          ∙ sym (ap (λ fs. spoken fs (texts said)) back);
      ends = λ said. end_given bytes r said ∙ ap (λ fs. ended fs said) f.1 ∙ sym (ap (λ fs. ended fs said) back);
      bodies = bodies_given bytes r ∙ ap bodies_in f.1 ∙ sym (ap bodies_in back);
    }
