-- What holds of all that passes on a connection.
use Rattle.std.proofs.Common.{◌≡◌, ◌<◌, ℕ, ◌+◌, Bool, true, false, cond, List, [], ◌∷◌, ◌++◌, length, take, drop, sym, refl, ap, ◌∙◌, subst, arith, append_assoc, append-nil, length-append, length-take-le, take-append-drop}
use Rattle.std.specs.Prelude.{Option}
use Rattle.std.specs.Io.{StartsWith}
use Rattle.std.proofs.Math.Logic.{∥∥₁_map, ∥∥₁_elim, ∥∥₁_prop}
use Rattle.std.proofs.Math.Seq.{take-append_seam}
use Rattle.http_port.specs.declared.head_reader.Fed.{Fed}
use Rattle.http_port.specs.declared.head_reader.Fed.TheVariants.{NotYet, Interim, Request, Refused}
use Rattle.http_port.specs.Feeding.{Place}
use Rattle.http_port.specs.Connections.{Reading, RequestRead, End}
use Rattle.http_port.specs.Responses.{response}
use Rattle.http_port.specs.Serving.{bodies_in}
use Rattle.http_port.specs.Talk.{answer, interim_of, last_words, talk}
use Rattle.http_port.proofs.ReadingLemmas.{shown, quiet}
use Rattle.http_port.proofs.TalkLemmas.{spoken}
use Rattle.http_port.proofs.TurnLemmas.{bodies_on, Begins, starts_with, begins_behind}
use Rattle.http_connection.specs.declared.stage.Stage.{Stage}
use Rattle.http_connection.specs.declared.stage.Stage.TheVariants as Stages
use Rattle.http_connection.specs.declared.stage.Ending.TheVariants as Ends
use Rattle.http_connection.specs.declared.stage.Standing.{Standing}
use Rattle.http_connection.specs.declared.stage.Standing.TheVariants as Stands
use Rattle.http_connection.specs.Stages.{stage_of}
use Rattle.outside_traits.specs.Told.{WireTold}
use Rattle.http_connection.specs.Seen.{Seen}
use Rattle.http_connection.specs.Talking.{Log, log, log_of, HasGiven, due, told_to, Closes, HasWritten, Passed, IsTalking}
use Rattle.http_connection.specs.Prompt.{IsDone}
use Rattle.http_connection.specs.Law.{Holding, holding, bodies_of, talk_of, IsInOrder, IsComplete, IsAllWritten, HasEnded, IsCutOff, Keeps, StaysFront, KeepsWord}
use Rattle.http_connection.proofs.Histories.{closes_in, behind_close, unclosed, closing, Knows, known}

-- ---- what begins with what

begins_same : (xs ys : List ℕ) → ys ≡ xs → Begins xs ys
begins_same xs ys e = ([], sym e ∙ sym (append-nil ys))

pub begins_from : (xs ys : List ℕ) → StartsWith xs ys → Begins xs ys
begins_from xs ys s = (drop (length ys) xs, sym (take-append-drop (length ys) xs) ∙ ap (λ l. l ++ drop (length ys) xs) s)

begins_trans : (xs ys zs : List ℕ) → Begins xs ys → Begins ys zs → Begins xs zs
begins_trans xs ys zs b c = (c.0 ++ b.0, b.1 ∙ ap (λ l. l ++ b.0) c.1 ∙ append_assoc zs c.0 b.0)

-- what begins with a text is longer than a front of the text that is not all of it
begins_longer : (count : ℕ) (all text : List ℕ) → count < length text → Begins all text → length (take count text) < length all
begins_longer count all text short b =
    let took : length (take count text) ≡ count = length-take-le count text (omega (arith, short)) in
    let whole : length all ≡ length text + length b.0 = ap length b.1 ∙ length-append text b.0 in
    omega (arith, short, took, whole)

pub shorter_behind : (front xs ys : List ℕ) → length xs < length ys → length (front ++ xs) < length (front ++ ys)
shorter_behind front xs ys short = omega (arith, short, length-append front xs, length-append front ys)

-- ---- what is known of a history

front_of : {A : Type 0} (xs ys : List A) → xs ≡ take (length xs) (xs ++ ys)
front_of xs ys = sym (take-append_seam xs ys)

in_order : (h : Holding) (l : Log) (rest : List Fed) → Knows h l rest → IsInOrder h l 0
in_order h l rest k = record {
  bodies = front_of l.bodies (bodies_in rest) ∙ ap (take (length l.bodies)) (sym k.bodies);
  texts = let e = k.count in omega arith;
}

all_written : (h : Holding) (l : Log) (rest : List Fed) → Knows h l rest → spoken rest [] ≡ [] → IsAllWritten h l
all_written h l rest k none =
    sym (ap (talk_of h) (sym (append-nil l.texts)) ∙ k.talks [] ∙ ap (λ v. l.written ++ v) none ∙ append-nil l.written)

complete : (h : Holding) (l : Log) → Knows h l [] → IsComplete h l
complete h l k = record { bodies = sym (k.bodies ∙ append-nil l.bodies); texts = k.count }

-- where nothing is to come all was done
ended_so : (h : Holding) (l : Log) → Knows h l [] → HasEnded h l
ended_so h l k = (complete h l k, all_written h l [] k refl, unclosed h.end k.ends)

-- where the reader waits for more nothing is to come
waits_so : (place : Place) (l : Log) (g : HasGiven NotYet place l) (bytes : List ℕ) → l.read ≡ bytes → (r : Reading bytes) → ∥ Knows (holding bytes r) l [] ∥₁
waits_so place l g bytes e r =
    ∥∥₁_elim (known NotYet place l g bytes e r) ∥∥₁_prop
    (λ x. ∥∥₁_map (quiet g.before g.piece place x.0 g.feeds x.1)
    (λ none. subst (Knows (holding bytes r) l) none x.2))

-- and all is done
pub done_so : (place : Place) (l : Log) → HasGiven NotYet place l → IsDone l
done_so place l g = λ r. ∥∥₁_map (waits_so place l g l.read refl r)
    (λ k. (complete (holding l.read r) l k, all_written (holding l.read r) l [] k refl))

-- ---- what was answered last

due_said : (last : Fed) (text : Option (List ℕ)) → Closes last → spoken (shown last ++ []) (told_to last text) ≡ due last text
due_said NotYet text c = absurd c
due_said Interim text c = absurd c
due_said (Request body close) text c = ap (λ u. answer text close ++ cond u [] []) c ∙ append-nil (answer text close)
due_said (Refused status) text c = refl

closes_shown : (last : Fed) → Closes last → closes_in (shown last ++ []) ≡ true
closes_shown NotYet c = absurd c
closes_shown Interim c = absurd c
closes_shown (Request body close) c = ap (λ u. cond u true false) c
closes_shown (Refused status) c = refl

-- nothing comes behind what closes
nothing_behind : (last : Fed) (gs : List Fed) → Closes last → behind_close (shown last ++ gs) ≡ [] → gs ≡ []
nothing_behind NotYet gs c e = absurd c
nothing_behind Interim gs c e = absurd c
nothing_behind (Request body close) gs c e = sym (ap (λ u. cond u gs (behind_close gs)) c) ∙ e
nothing_behind (Refused status) gs c e = e

told_count : (last : Fed) (text : Option (List ℕ)) → length (told_to last text) ≡ length (bodies_in (last ∷ []))
told_count NotYet text = refl
told_count Interim text = refl
told_count (Request body close) text = refl
told_count (Refused status) text = refl

-- what is written for it begins with what is due for it
due_first : (last : Fed) (text : Option (List ℕ)) (gs : List Fed) → Begins (spoken (shown last ++ gs) (told_to last text)) (due last text)
due_first NotYet text gs = (spoken gs [], refl)
due_first Interim text gs = (spoken gs [], refl)
due_first (Request body close) text gs = (cond close [] (spoken gs []), refl)
due_first (Refused status) text gs = ([], sym (append-nil (response status [] true)))

front_begins : (count : ℕ) (all text : List ℕ) → Begins all text → Begins all (take count text)
front_begins count all text b = (
  drop count text ++ b.0,
  b.1 ∙ ap (λ l. l ++ b.0) (sym (take-append-drop count text)) ∙ append_assoc (take count text) (drop count text) b.0,
)

told_talks : (h : Holding) (l : Log) (last : Fed) (text : Option (List ℕ)) (went : List ℕ) (place : Place) (w : HasWritten last text went place l) (gs : List Fed)
    → Knows h w.early (shown last ++ gs) → talk_of h l.texts ≡ w.early.written ++ spoken (shown last ++ gs) (told_to last text)
told_talks h l last text went place w gs k = ap (talk_of h) w.texts ∙ k.talks (told_to last text)

told_bodies : (h : Holding) (l : Log) (last : Fed) (text : Option (List ℕ)) (went : List ℕ) (place : Place) (w : HasWritten last text went place l) (gs : List Fed)
    → Knows h w.early (shown last ++ gs) → bodies_of h.queue ≡ l.bodies ++ bodies_in gs
told_bodies h l last text went place w gs k =
    k.bodies ∙ ap (λ b. w.early.bodies ++ b) (bodies_on (last ∷ []) gs)
    ∙ sym (append_assoc w.early.bodies (bodies_in (last ∷ [])) (bodies_in gs)) ∙ ap (λ b. b ++ bodies_in gs) (sym w.bodies)

told_counts : (h : Holding) (l : Log) (last : Fed) (text : Option (List ℕ)) (went : List ℕ) (place : Place) (w : HasWritten last text went place l) (gs : List Fed)
    → Knows h w.early (shown last ++ gs) → length l.texts ≡ length l.bodies
told_counts h l last text went place w gs k =
    let e = k.count in
    let f = told_count last text in
    let g = ap length w.texts in
    let b = ap length w.bodies in
    omega (arith, length-append w.early.texts (told_to last text), length-append w.early.bodies (bodies_in (last ∷ [])))

closed_so : (h : Holding) (l : Log) (last : Fed) (text : Option (List ℕ)) (place : Place) → Closes last → (w : HasWritten last text (due last text) place l)
    → Knows h w.early (shown last ++ []) → Keeps Stages.Closed h l
closed_so h l last text place c w k = (
  record {
    bodies = sym (told_bodies h l last text (due last text) place w [] k ∙ append-nil l.bodies);
    texts = told_counts h l last text (due last text) place w [] k;
  },
  w.written ∙ ap (λ v. w.early.written ++ v) (sym (due_said last text c)) ∙ sym (told_talks h l last text (due last text) place w [] k),
  closing h.end (k.ends ∙ closes_shown last c),
)

none_is_last : (xs : List (Option (List ℕ))) (x : Option (List ℕ)) → [] ≡ xs ++ x ∷ [] → ⊥
none_is_last [] x e = cc
none_is_last (y ∷ xs) x e = cc

pub same_early : (xs ys : List (Option (List ℕ))) (x y : Option (List ℕ)) → xs ++ x ∷ [] ≡ ys ++ y ∷ [] → xs ≡ ys
same_early [] [] x y e = refl
same_early [] (z ∷ ys) x y e = let f : [] ≡ ys ++ y ∷ [] = cc in absurd (none_is_last ys y f)
same_early (z ∷ xs) [] x y e = let f : [] ≡ xs ++ x ∷ [] = cc in absurd (none_is_last xs x f)
same_early (z ∷ xs) (u ∷ ys) x y e =
    let f : xs ++ x ∷ [] ≡ ys ++ y ∷ [] = cc in
    let g : z ≡ u = cc in
    ap (λ l. z ∷ l) (same_early xs ys x y f) ∙ ap (λ v. v ∷ ys) g

-- what stands before the answer of the last request that is told a text was written before that
before_last : (h : Holding) (early : Log) (last : Fed) (text : Option (List ℕ)) (gs : List Fed) → Knows h early (shown last ++ gs)
    → (front : List (Option (List ℕ))) (x : Option (List ℕ)) → early.texts ++ told_to last text ≡ front ++ x ∷ [] → Begins early.written (talk_of h front)
before_last h early NotYet text gs k front x e = k.before front x (sym (append-nil early.texts) ∙ e)
before_last h early Interim text gs k front x e = k.before front x (sym (append-nil early.texts) ∙ e)
before_last h early (Request body close) text gs k front x e =
    begins_same early.written (talk_of h front)
    (ap (talk_of h) (sym (same_early early.texts front text x e) ∙ sym (append-nil early.texts)) ∙ k.talks [] ∙ append-nil early.written)
before_last h early (Refused status) text gs k front x e = k.before front x (sym (append-nil early.texts) ∙ e)

-- what is due last was cut
cut_so : (h : Holding) (l : Log) (last : Fed) (text : Option (List ℕ)) (count : ℕ) (place : Place) → count < length (due last text)
    → (w : HasWritten last text (take count (due last text)) place l) (gs : List Fed) → Knows h w.early (shown last ++ gs) → IsCutOff h l
cut_so h l last text count place short w gs k =
    let went = take count (due last text) in
    let said = spoken (shown last ++ gs) (told_to last text) in
    let all = talk_of h l.texts in
    let talks : all ≡ w.early.written ++ said = told_talks h l last text went place w gs k in
    record {
      in_order = record {
        bodies = front_of l.bodies (bodies_in gs) ∙ ap (take (length l.bodies)) (sym (told_bodies h l last text went place w gs k));
        texts = let e = told_counts h l last text went place w gs k in omega arith;
      };
      front = subst (StartsWith all) (sym w.written)
          (starts_with all (w.early.written ++ went)
          (begins_behind w.early.written said went all talks (front_begins count said (due last text) (due_first last text gs))));
      part = subst (λ v. length v < length all) (sym w.written)
          (subst (λ v. length (w.early.written ++ went) < length v) (sym talks)
          (shorter_behind w.early.written went said (begins_longer count said (due last text) short (due_first last text gs))));
      before = λ front x e.
          starts_with l.written (talk_of h front)
          (begins_trans l.written w.early.written (talk_of h front) (went, w.written) (before_last h w.early last text gs k front x (sym w.texts ∙ e)));
    }

-- ---- by the stage

whole_front : (h : Holding) (l : Log) → IsAllWritten h l → StartsWith (talk_of h l.texts) l.written
whole_front h l w = starts_with (talk_of h l.texts) l.written (begins_same (talk_of h l.texts) l.written w)

owes_so : (h : Holding) (l : Log) (body : List ℕ) (early : List (List ℕ)) (close : Bool) (gs : List Fed) → l.bodies ≡ early ++ body ∷ []
    → Knows h (log l.read l.written early l.texts) (Request body close ∷ gs) → Keeps Stages.Owes h l
owes_so h l body early close gs e k =
    let all : bodies_of h.queue ≡ l.bodies ++ bodies_in gs =
    k.bodies ∙ sym (append_assoc early (body ∷ []) (bodies_in gs)) ∙ ap (λ b. b ++ bodies_in gs) (sym e) in (
      record {
        bodies = front_of l.bodies (bodies_in gs) ∙ ap (take (length l.bodies)) (sym all);
        texts = let f = k.count in let g = ap length e in omega (arith, length-append early (body ∷ []));
      },
      sym (ap (talk_of h) (sym (append-nil l.texts)) ∙ k.talks [] ∙ append-nil l.written),
    )

keeps_so : (next : Standing) (place : Place) (l : Log) → Passed next place l → (r : Reading l.read) → ∥ Keeps (stage_of next) (holding l.read r) l ∥₁
keeps_so Stands.Waits place l g r =
    ∥∥₁_map (waits_so place l g l.read refl r) (λ k. (in_order (holding l.read r) l [] k, all_written (holding l.read r) l [] k refl))
keeps_so (Stands.Holds body close) place l g r =
    ∥∥₁_map (known (Request body close) place l g l.read refl r)
    (λ x. (in_order (holding l.read r) l (Request body close ∷ x.0) x.2, all_written (holding l.read r) l (Request body close ∷ x.0) x.2 refl))
keeps_so (Stands.Owes close) place l a r =
    ∥∥₁_map (known (Request a.body close) place (log l.read l.written a.early l.texts) a.given l.read refl r)
    (λ x. owes_so (holding l.read r) l a.body a.early close x.0 a.bodies x.2)
keeps_so (Stands.Over Ends.Ended) place l g r =
    ∥∥₁_map (waits_so place l g l.read refl r) (λ k. ended_so (holding l.read r) l k)
keeps_so (Stands.Over Ends.Closed) place l p r =
    let h = holding l.read r in
    let w = p.3 in
    ∥∥₁_map (known p.0 place w.early w.given l.read (sym w.read) r)
    (λ x. closed_so h l p.0 p.1 place p.2 w (subst (λ gs. Knows h w.early (shown p.0 ++ gs)) (nothing_behind p.0 x.0 p.2 x.2.over) x.2))
keeps_so (Stands.Over Ends.ReadFailed) place l g r =
    ∥∥₁_map (waits_so place l g l.read refl r) (λ k. ended_so (holding l.read r) l k)
keeps_so (Stands.Over Ends.WriteFailed) place l p r =
    let w = p.4 in
    ∥∥₁_map (known p.0 place w.early w.given l.read (sym w.read) r)
    (λ x. cut_so (holding l.read r) l p.0 p.1 p.2 place p.3 w x.0 x.2)
keeps_so Stands.Spent place l p r = ∣ tt ∣₁

-- ---- whatever is told later

talk_grows : (queue : List RequestRead) (end : End) (texts more : List (Option (List ℕ))) → Begins (talk queue end (texts ++ more)) (talk queue end texts)
talk_grows [] end texts more = ([], sym (append-nil (last_words end)))
talk_grows (request ∷ queue) end [] [] = ([], sym (append-nil (interim_of request)))
talk_grows (request ∷ queue) end [] (text ∷ more) =
    (answer text request.close ++ talk queue end more, append_assoc (interim_of request) (answer text request.close) (talk queue end more))
talk_grows (request ∷ queue) end (text ∷ texts) more =
    begins_behind (interim_of request ++ answer text request.close) (talk queue end (texts ++ more)) (talk queue end texts)
    (talk (request ∷ queue) end (text ∷ (texts ++ more))) refl (talk_grows queue end texts more)

stays_so : (h : Holding) (l : Log) → StartsWith (talk_of h l.texts) l.written → (more : List (Option (List ℕ))) → StartsWith (talk_of h (l.texts ++ more)) l.written
stays_so h l s more =
    starts_with (talk_of h (l.texts ++ more)) l.written
    (begins_trans (talk_of h (l.texts ++ more)) (talk_of h l.texts) l.written (talk_grows h.queue h.end l.texts more) (begins_from (talk_of h l.texts) l.written s))

stays : (stage : Stage) (h : Holding) (l : Log) → Keeps stage h l → StaysFront stage h l
stays Stages.Reads h l k = stays_so h l (whole_front h l k.1)
stays Stages.Owes h l k = stays_so h l (whole_front h l k.1)
stays Stages.Ended h l k = stays_so h l (whole_front h l k.1)
stays Stages.Closed h l k = stays_so h l (whole_front h l k.1)
stays Stages.ReadFailed h l k = stays_so h l (whole_front h l k.1)
stays Stages.WriteFailed h l k = stays_so h l k.front
stays Stages.Spent h l k = tt

pub keeps_word : (first : WireTold) (now : Seen) (bodies : List (List ℕ)) (texts : List (Option (List ℕ))) → IsTalking first now bodies texts → KeepsWord first now bodies texts
keeps_word first now bodies texts t =
    let l = log_of now bodies texts in
    record {
      given = t.given;
      taken = t.taken;
      wire = t.wire;
      keeps = λ r. keeps_so now.kept.next now.kept.reader l t.passed r;
      front = λ r. ∥∥₁_map (keeps_so now.kept.next now.kept.reader l t.passed r) (stays (stage_of now.kept.next) (holding now.kept.read.items r) l);
    }
