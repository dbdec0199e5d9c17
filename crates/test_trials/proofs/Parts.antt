-- What makes a run served, by lists that are written out.
use Rattle.std.proofs.Common.{◌≡◌, ◌⊎◌, ◌<◌, ℕ, zero, suc, ◌+◌, List, [], ◌∷◌, length, take, count_by, Option, Some, sym, refl, ap, ◌∙◌, subst, arith, false, ◌++◌}
use Rattle.std.specs.Prelude.{slice_get}
use Rattle.std.specs.Io.{StartsWith}
use Rattle.std.proofs.Math.Seq.{take-length}
use Rattle.std.proofs.lemmas.Option.{none-some, same_Some}
use Rattle.office_core.specs.declared.history.Entry.{Entry}
use Rattle.office_core.specs.Limits.{Setting, first_worker}
use Rattle.office_core.specs.Accepted.{past_of}
use Rattle.run_theorem.specs.Exchange.{Asked}
use Rattle.run_theorem.specs.Calls.{is_of}
use Rattle.run_record.specs.declared.record.Traffic.{Traffic}
use Rattle.run_record.specs.Order.{finished_at}
use Rattle.run_theorem.specs.Texts.{Came, response}
use Rattle.http_port.specs.declared.head_reader.Fed.{Fed}
use Rattle.http_port.specs.Connections.{Reading, end_of, given}
use Rattle.http_port.specs.Serving.{bodies_in}
use Rattle.http_port.proofs.TalkLemmas.{spoken}
use Rattle.conn_future.specs.declared.stage.Stage.TheVariants as Stages
use Rattle.http_connection.proofs.Histories.{closes_in, closing_given, unclosed}
use Rattle.run_theorem.specs.RunConnections.{RunConnection, HasPassed}
use Rattle.run_theorem.specs.Served.{AreOneByOne, AreResponses, AreToldEarly}
use Rattle.test_trials.proofs.Requests.{bodies_by, talk_by}

-- a connection of which a read failed, from which these were taken and which was told these texts
abbrev pub read_failed : List (List ℕ) → List (Option (List ℕ)) → RunConnection
read_failed bodies texts = record { door = Some 0; service = 0; stage = Stages.ReadFailed; bodies = bodies; texts = texts }

-- the same of one of which a write failed
abbrev pub write_failed : List (List ℕ) → List (Option (List ℕ)) → RunConnection
write_failed bodies texts = record { door = Some 0; service = 0; stage = Stages.WriteFailed; bodies = bodies; texts = texts }

-- one of which a read failed has passed, where all was taken and written, and nothing closes it
pub passed_to_the_end : (t : Traffic) (fs : List Fed) (texts : List (Option (List ℕ))) → ((r : Reading t.read) → given t.read r ≡ fs)
    → length texts ≡ length (bodies_in fs) → closes_in fs ≡ false → t.written ≡ spoken fs texts
    → HasPassed (read_failed (bodies_in fs) texts) t
passed_to_the_end t fs texts gives even stays written = record {
  stage = λ e. let clash : Stages.ReadFailed ≡ Stages.Spent = e in cc;
  keeps = λ r. ∣ (
    record { bodies = sym (bodies_by t.read r fs (gives r)); texts = even },
    written ∙ sym (talk_by t.read r fs texts (gives r)),
    unclosed (end_of t.read r) (closing_given t.read r ∙ ap closes_in (gives r) ∙ stays),
  ) ∣₁;
}

-- a connection that ended, whose requests were all taken and told these texts
abbrev pub read_out : List Fed → List (Option (List ℕ)) → RunConnection
read_out fs texts = record { door = Some 0; service = 0; stage = Stages.Ended; bodies = bodies_in fs; texts = texts }

-- it has passed as one of which a read failed
pub passed_out : (t : Traffic) (fs : List Fed) (texts : List (Option (List ℕ))) → ((r : Reading t.read) → given t.read r ≡ fs)
    → length texts ≡ length (bodies_in fs) → closes_in fs ≡ false → t.written ≡ spoken fs texts → HasPassed (read_out fs texts) t
passed_out t fs texts gives even stays written = record {
  stage = λ e. let clash : Stages.Ended ≡ Stages.Spent = e in cc;
  keeps = (passed_to_the_end t fs texts gives even stays written).keeps;
}

-- a connection that reads on, whose requests were all taken and told these texts
abbrev pub read_on : List Fed → List (Option (List ℕ)) → RunConnection
read_on fs texts = record { door = Some 0; service = 0; stage = Stages.Reads; bodies = bodies_in fs; texts = texts }

-- it has passed as one that ended
pub passed_on : (t : Traffic) (fs : List Fed) (texts : List (Option (List ℕ))) → ((r : Reading t.read) → given t.read r ≡ fs)
    → length texts ≡ length (bodies_in fs) → closes_in fs ≡ false → t.written ≡ spoken fs texts → HasPassed (read_on fs texts) t
passed_on t fs texts gives even stays written = record {
  stage = λ e. let clash : Stages.Reads ≡ Stages.Spent = e in cc;
  keeps = (passed_to_the_end t fs texts gives even stays written).keeps;
}

-- What is due last was cut: a front of what is to be written was written, and not all of it; and all that stands before
-- the last answer.
pub record IsCut (fs : List Fed) (texts : List (Option (List ℕ))) (written : List ℕ) : Type 0 where
  pub front : StartsWith (spoken fs texts) written
  pub part : length written < length (spoken fs texts)
  pub before : (early : List (Option (List ℕ))) (last : Option (List ℕ)) → texts ≡ early ++ last ∷ []
      → StartsWith written (spoken fs early)

-- one of which a write failed has passed, where it was cut
pub passed_in_part : (t : Traffic) (fs : List Fed) (bodies : List (List ℕ)) (texts : List (Option (List ℕ)))
    → ((r : Reading t.read) → given t.read r ≡ fs) → bodies ≡ take (length bodies) (bodies_in fs)
    → length bodies ≡ length texts + 0 → IsCut fs texts t.written → HasPassed (write_failed bodies texts) t
passed_in_part t fs bodies texts gives first even p = record {
  stage = λ e. let clash : Stages.WriteFailed ≡ Stages.Spent = e in cc;
  keeps = λ r. ∣ record {
    in_order = record {
      bodies = first ∙ ap (take (length bodies)) (sym (bodies_by t.read r fs (gives r)));
      texts = even;
    };
    front = subst (λ (l : List ℕ). StartsWith l t.written) (sym (talk_by t.read r fs texts (gives r))) p.front;
    part = subst (λ (l : List ℕ). length t.written < length l) (sym (talk_by t.read r fs texts (gives r))) p.part;
    before = λ early last e. subst (StartsWith t.written) (sym (talk_by t.read r fs early (gives r))) (p.before early last e);
  } ∣₁;
}

-- a text that is told to a request is this
abbrev pub IsTextAt : List RunConnection → Asked → Option (List ℕ) → Type 0
IsTextAt connections a text = (v : RunConnection) (t : Option (List ℕ)) → slice_get connections a.traffic ≡ Some v
    → slice_get v.texts a.request ≡ Some t → t ≡ text

-- it is, where this one is told to it
pub text_at : (connections : List RunConnection) (a : Asked) (connection : RunConnection) (text : Option (List ℕ)) → slice_get connections a.traffic ≡ Some connection
    → slice_get connection.texts a.request ≡ Some text → IsTextAt connections a text
text_at connections a connection text there told v t e f =
    sym
    (same_Some text t
    (sym told ∙ ap (λ (u : RunConnection). slice_get u.texts a.request) (same_Some connection v (sym there ∙ e)) ∙ f))

module _ (w : Setting) (h : List Entry) (connections : List RunConnection) where
  -- what is told to requests is the responses of postings, the first of which has this number
  abbrev pub AreTold : ℕ → List Asked → List Came → Type 0
  AreTold j [] came = Unit {0}
  AreTold j (a ∷ asked) [] = Unit {0}
  AreTold j (a ∷ asked) (c ∷ came) = IsTextAt connections a (response w (past_of w h) first_worker j c) × AreTold (suc j) asked came

  told_at : (j : ℕ) (asked : List Asked) (came : List Came) → AreTold j asked came → (i : ℕ) (a : Asked) (c : Came)
      → slice_get asked i ≡ Some a → slice_get came i ≡ Some c → IsTextAt connections a (response w (past_of w h) first_worker (j + i) c)
  told_at j [] came told i a c e f = absurd (none-some a e)
  told_at j (b ∷ asked) [] told i a c e f = absurd (none-some c f)
  told_at j (b ∷ asked) (d ∷ came) told zero a c e f =
      let same : j ≡ j + 0 = omega arith in
      subst (λ (x : Asked). IsTextAt connections x (response w (past_of w h) first_worker (j + 0) c)) (same_Some b a e)
      (subst (λ (y : Came). IsTextAt connections b (response w (past_of w h) first_worker (j + 0) y)) (same_Some d c f)
      (subst (λ (n : ℕ). IsTextAt connections b (response w (past_of w h) first_worker n d)) same told.0))
  told_at j (b ∷ asked) (d ∷ came) told (suc i) a c e f =
      let same : suc j + i ≡ j + suc i = omega arith in
      subst (λ (n : ℕ). IsTextAt connections a (response w (past_of w h) first_worker n c)) same
      (told_at (suc j) asked came told.1 i a c e f)

  pub told_responses : (asked : List Asked) (came : List Came) → AreTold 0 asked came
      → AreResponses w h connections (record { asked = asked; came = came })
  told_responses asked came told j a c v t e f there at =
      let same : 0 + j ≡ j = omega arith in
      told_at 0 asked came told j a c e f v t there at
      ∙ ap (λ (n : ℕ). response w (past_of w h) first_worker n c) same

-- ---- one by one

pub none_below : (i : ℕ) → i < 0 → ⊥
none_below i less = omega (arith, less)

pub none_between : (i : ℕ) → suc i < 1 → ⊥
none_between i less = omega (arith, less)

module _ (w : Setting) (h : List Entry) where
  -- one request alone has none behind it
  pub one_alone : (x : Asked) → AreOneByOne w h (x ∷ [])
  one_alone x i zero a b e f same less = absurd (none_below i less)
  one_alone x i (suc j) a b e f same less = absurd (none-some b f)

  -- of two the first is finished before the second, where they came on one connection
  pub two_by_one : (x y : Asked) → (x.traffic ≡ y.traffic → finished_at w (past_of w h) first_worker 2 0 < 1)
      → AreOneByOne w h (x ∷ y ∷ [])
  two_by_one x y early i zero a b e f same less = absurd (none_below i less)
  two_by_one x y early zero (suc zero) a b e f same less =
      early
      (ap (λ (z : Asked). z.traffic) (same_Some x a e) ∙ same ∙ sym (ap (λ (z : Asked). z.traffic) (same_Some y b f)))
  two_by_one x y early (suc i) (suc zero) a b e f same less = absurd (none_between i less)
  two_by_one x y early i (suc (suc j)) a b e f same less = absurd (none-some b f)

-- ---- told early

-- a text was told to a request
abbrev pub HasText : List RunConnection → Asked → Type 0
HasText connections a = (v : RunConnection) → slice_get connections a.traffic ≡ Some v → a.request < length v.texts

pub has_text : (connections : List RunConnection) (a : Asked) (connection : RunConnection) → slice_get connections a.traffic ≡ Some connection
    → a.request < length connection.texts → HasText connections a
has_text connections a connection there inside v e =
    subst (λ (u : RunConnection). a.request < length u.texts) (same_Some connection v (sym there ∙ e)) inside

module _ (w : Setting) (h : List Entry) (connections : List RunConnection) where
  -- of one posting none was finished before the last
  pub early_alone : (x : Asked) → AreToldEarly w h connections (x ∷ [])
  early_alone x j a v e there early = absurd (none_between (finished_at w (past_of w h) first_worker 1 j) early)

  -- of two both were told
  pub two_told : (x y : Asked) → HasText connections x → HasText connections y → AreToldEarly w h connections (x ∷ y ∷ [])
  two_told x y one two zero a v e there early = subst (HasText connections) (same_Some x a e) one v there
  two_told x y one two (suc zero) a v e there early = subst (HasText connections) (same_Some y a e) two v there
  two_told x y one two (suc (suc j)) a v e there early = absurd (none-some a e)
