-- What a run posted first, on which connection it came, and what is written there.
use Rattle.std.proofs.Common.{◌≡◌, ◌<◌, append-nil, ℕ, zero, suc, Bool, true, false, ◌||◌, List, [], ◌∷◌, ◌++◌, length, take, map, Option, Some, None, sym, refl, ap, ◌∙◌, subst, true≢false, arith, ◌≤◌, ◌⊎◌, ◌+◌, inl, inr, length-append, cond}
use Rattle.std.specs.Prelude.{◌≢◌, ◌-◌, ◌≤◌, bytes_eq, slice_get, option_map, option_and_then, nat_eq, count_by, unwrap_or}
use Rattle.std.specs.List.{list_all, filter, AllZip}
use Rattle.std.specs.Io.{StartsWith}
use Rattle.std.proofs.Math.Logic.{∥∥₁_elim}
use Rattle.std.proofs.Math.Seq.{take-length}
use Rattle.std.proofs.lemmas.Bool.{and_parts, eqb-true}
use Rattle.std.proofs.lemmas.Option.{none-some, same_Some, slice_get_within}
use Rattle.office_core.specs.declared.front.CallIn.{CallIn}
use Rattle.office_core.specs.declared.front.CallIn.TheVariants as call
use Rattle.office_core.specs.declared.history.Entry.{Entry}
use Rattle.office_core.specs.Limits.{Setting, first_worker}
use Rattle.office_core.specs.Keys.{first as first_in}
use Rattle.office_core.specs.Accepted.{past_of}
use Rattle.run_theorem.specs.Exchange.{Asked}
use Rattle.run_theorem.specs.Calls.{is_of}
use Rattle.run_record.specs.declared.record.Traffic.{Traffic}
use Rattle.run_record.specs.Postings.{Post, posts_by, posts_from, posts_of}
use Rattle.run_record.specs.Order.{numbers_from, is_finished, finished_at}
use Rattle.run_theorem.specs.Texts.{Came, posting_of, response}
use Rattle.http_port.specs.declared.head_reader.Fed.{Fed}
use Rattle.http_port.specs.declared.head_reader.Fed.TheVariants.{Request}
use Rattle.http_port.specs.Connections.{Reading, given}
use Rattle.http_port.specs.Serving.{bodies_in}
use Rattle.http_port.specs.Talk.{answer}
use Rattle.http_port.proofs.TalkLemmas.{spoken}
use Rattle.conn_future.specs.declared.stage.Stage.{Stage}
use Rattle.conn_future.specs.declared.stage.Stage.TheVariants as Stages
use Rattle.conn_future.specs.Stages.{IsFailed, IsOver}
use Rattle.conn_future.specs.Law.{plain_stage}
use Rattle.http_connection.specs.Talking.{log}
use Rattle.http_connection.specs.Law.{holding, bodies_of, talk_of, IsCutOff, Keeps}
use Rattle.http_connection.proofs.Words.{begins_from}
use Rattle.run_theorem.specs.Ports.{has_door}
use Rattle.run_theorem.specs.RunConnections.{RunConnection, came_with, came_of, came_at, AreTaken, HasPassed}
use Rattle.run_theorem.specs.Served.{Requests, AreOneByOne, AreResponses, AreToldEarly, is_told, IsServed}
use Rattle.test_trials.proofs.Requests.{bodies_by, talk_by, cons_nil, head_same}
use Rattle.test_trials.proofs.Parts.{IsCut}

-- ---- lists and bytes

-- bytes that a test tells apart are not the same
pub differ : (a b : List ℕ) → bytes_eq a b ≡ false → bytes_eq b b ≡ true → a ≡ b → ⊥
differ a b apart same e = true≢false (sym same ∙ ap (λ (l : List ℕ). bytes_eq l b) (sym e) ∙ apart)

take_none : (n : ℕ) → take {A = ℕ} n [] ≡ []
take_none zero = refl
take_none (suc n) = refl

-- what holds of all holds of each
all_at : {A : Type 0} (p : A → Bool) (xs : List A) (k : ℕ) (x : A) → list_all p xs ≡ true → slice_get xs k ≡ Some x → p x ≡ true
all_at p [] k x all there = absurd (none-some x there)
all_at p (y ∷ ys) zero x all there =
    ap p (sym (same_Some y x there)) ∙ (and_parts (p y) (list_all p ys) all).0
all_at p (y ∷ ys) (suc k) x all there = all_at p ys k x (and_parts (p y) (list_all p ys) all).1 there

-- one thing has one place
alone_at : {A : Type 0} (x y : A) (k : ℕ) → slice_get (x ∷ []) k ≡ Some y → (k ≡ 0) × (x ≡ y)
alone_at x y zero there = (refl, same_Some x y there)
alone_at x y (suc k) there = absurd (none-some y there)

-- the first of some is the first of all
first_same : {A : Type 0} (n : ℕ) (x y : A) (xs some : List A) → some ≡ take n (x ∷ xs) → slice_get some 0 ≡ Some y → y ≡ x
first_same {A = A} zero x y xs some e f = absurd (none-some y (ap (λ (l : List A). slice_get l 0) (sym e) ∙ f))
first_same {A = A} (suc n) x y xs some e f = same_Some y x (sym f ∙ ap (λ (l : List A). slice_get l 0) e)

-- of one alone there is no second
no_second : {A : Type 0} (n : ℕ) (x y : A) (some : List A) → some ≡ take n (x ∷ []) → slice_get some 1 ≡ Some y → ⊥
no_second {A = A} zero x y some e f = none-some y (ap (λ (l : List A). slice_get l 1) (sym e) ∙ f)
no_second {A = A} (suc zero) x y some e f = none-some y (ap (λ (l : List A). slice_get l 1) (sym e) ∙ f)
no_second {A = A} (suc (suc n)) x y some e f = none-some y (ap (λ (l : List A). slice_get l 1) (sym e) ∙ f)

-- the second of some is the second of all
second_same : (n : ℕ) (x y z : List ℕ) (xs some : List (List ℕ)) → some ≡ take n (x ∷ y ∷ xs) → slice_get some 1 ≡ Some z → z ≡ y
second_same zero x y z xs some e f = absurd (none-some z (ap (λ (l : List (List ℕ)). slice_get l 1) (sym e) ∙ f))
second_same (suc zero) x y z xs some e f = absurd (none-some z (ap (λ (l : List (List ℕ)). slice_get l 1) (sym e) ∙ f))
second_same (suc (suc n)) x y z xs some e f = same_Some z y (sym f ∙ ap (λ (l : List (List ℕ)). slice_get l 1) e)

-- all but the last, and the last
but_last : (x : Option (List ℕ)) (xs : List (Option (List ℕ)))
    → (early : List (Option (List ℕ))) × (last : Option (List ℕ)) × (x ∷ xs ≡ early ++ last ∷ [])
but_last x [] = ([], x, refl)
but_last x (y ∷ ys) =
    let b = but_last y ys in (x ∷ b.0, b.1, ap (λ (l : List (Option (List ℕ))). x ∷ l) b.2)

fewer : (m n k : ℕ) → m ≡ n + k → n ≤ m
fewer m n k e = omega (arith, e)

as_few : (m n : ℕ) → m ≡ n → m ≤ n
as_few m n e = omega (arith, e)

few_at_most : (n : ℕ) → n ≤ 1 → 1 < n → ⊥
few_at_most n few many = omega (arith, few, many)

two_at_least : (n : ℕ) → 1 < suc (suc n)
two_at_least n = omega arith

below_none : (n : ℕ) → n < 0 → ⊥
below_none n e = omega (arith, e)

below_itself : (n : ℕ) → n < n → ⊥
below_itself n e = omega (arith, e)

-- what begins with two texts is no shorter than the first of them
none_shorter : (xs ys zs : List ℕ) → StartsWith xs (ys ++ zs) → length xs < length ys → ⊥
none_shorter xs ys zs s short =
    let b = begins_from xs (ys ++ zs) s in
    let whole : length xs ≡ length (ys ++ zs) + length b.0 = ap length b.1 ∙ length-append (ys ++ zs) b.0 in
    omega (arith, short, whole, length-append ys zs)

-- a test that holds of one thing
pub holds_alone : (b : Bool) → (b || false) ≡ true → b ≡ true
holds_alone true e = refl
holds_alone false e = e

-- ---- what was posted first

-- A request that came in is one that was taken from its connection.
record IsTaken (connections : List RunConnection) (a : Asked) (c : Came) : Type 0 where
  connection : RunConnection
  there : slice_get connections a.traffic ≡ Some connection
  body : List ℕ
  asked : slice_get connection.bodies a.request ≡ Some body
  brings : c ≡ came_with connection.service body

is_taken : (connections : List RunConnection) (a : Asked) (c : Came) → came_at connections a ≡ Some c → IsTaken connections a c
is_taken connections a c = by_connection (slice_get connections a.traffic) refl
  where
    by_body : (v : RunConnection) (o : Option (List ℕ)) → slice_get connections a.traffic ≡ Some v → slice_get v.bodies a.request ≡ o
        → option_map (came_with v.service) o ≡ Some c → IsTaken connections a c
    by_body v None there e f = absurd (none-some c f)
    by_body v (Some b) there e f =
        record { connection = v; there = there; body = b; asked = e; brings = sym (same_Some (came_with v.service b) c f) }

    by_connection : (o : Option RunConnection) → slice_get connections a.traffic ≡ o → option_and_then (came_of a.request) o ≡ Some c
        → IsTaken connections a c
    by_connection None e f = absurd (none-some c f)
    by_connection (Some v) e f = by_body v (slice_get v.bodies a.request) e refl f

-- The first posting: the connection whose first request it is, and what that is answered.
pub record IsFirst (w : Setting) (h : List Entry) (connections : List RunConnection) (all : List Asked) (came : List Came) : Type 0 where
  pub whose : Asked
  pub is_whose : slice_get all 0 ≡ Some whose
  pub connection : RunConnection
  pub there : slice_get connections whose.traffic ≡ Some connection
  pub body : List ℕ
  pub asked : slice_get connection.bodies 0 ≡ Some body
  pub others : List Came
  pub first : came ≡ came_with connection.service body ∷ others
  pub answered : (text : Option (List ℕ)) → slice_get connection.texts 0 ≡ Some text
      → text ≡ response w (past_of w h) first_worker 0 (came_with connection.service body)

module _ (w : Setting) (h : List Entry) (connections : List RunConnection) where
  first_asked : (a : Asked) (asked : List Asked) (c : Came) (came : List Came) → AreTaken connections (a ∷ asked)
      → AreResponses w h connections (record { asked = a ∷ asked; came = c ∷ came }) → came_at connections a ≡ Some c
      → IsFirst w h connections (a ∷ asked) (c ∷ came)
  first_asked a asked c came taken responses is =
      let t = is_taken connections a c is in
      let request : a.request ≡ 0 = taken.in_order 0 a refl in
      record {
        whose = a;
        is_whose = refl;
        connection = t.connection;
        there = t.there;
        body = t.body;
        asked = subst (λ (n : ℕ). slice_get t.connection.bodies n ≡ Some t.body) request t.asked;
        others = came;
        first = ap (λ (d : Came). d ∷ came) t.brings;
        answered = λ text e.
            responses 0 a c t.connection text refl refl t.there (subst (λ (n : ℕ). slice_get t.connection.texts n ≡ Some text) (sym request) e)
            ∙ ap (response w (past_of w h) first_worker 0) t.brings;
      }

  first_of : (asked : List Asked) (came : List Came) → AreTaken connections asked → map (came_at connections) asked ≡ map Some came
      → AreResponses w h connections (record { asked = asked; came = came }) → posts_of 0 (map posting_of came) ≢ []
      → IsFirst w h connections asked came
  first_of [] [] taken is responses some = absurd (some refl)
  first_of [] (c ∷ came) taken is responses some = absurd (cons_nil (Some c) (map Some came) (sym is))
  first_of (a ∷ asked) [] taken is responses some = absurd (cons_nil (came_at connections a) (map (came_at connections) asked) is)
  first_of (a ∷ asked) (c ∷ came) taken is responses some =
      first_asked a asked c came taken responses
      (head_same (came_at connections a) (Some c) (map (came_at connections) asked) (map Some came) is)

-- a run that posted something posted something first
pub is_first : (w : Setting) (h : List Entry) (halted : Bool) (traffic : List Traffic) (s : IsServed w h halted traffic)
    → posts_by first_worker h ≢ [] → IsFirst w h s.connections s.all.asked s.all.came
is_first w h halted traffic s some =
    first_of w h s.connections s.all.asked s.all.came (record { in_order = s.taken.in_order; all = s.taken.all }) s.came
    s.responses (λ e. some (s.posted ∙ e))

-- ---- how a connection stands

-- no text goes out on a connection, and no write failed
pub record IsUncut (v : RunConnection) : Type 0 where
  pub unsent : v.stage ≢ Stages.Writes
  pub unfailed : v.stage ≢ Stages.WriteFailed

-- The reader of a connection gives this of its bytes: the bodies that were taken are the first of it, no more texts were
-- told, and what was written is a prefix of what is to be written. It is all of that, or it was cut; and all where no
-- text goes out and no write failed. From a connection that is over all was taken, or it was cut.
pub record Stands (fs : List Fed) (v : RunConnection) (written : List ℕ) : Type 0 where
  pub bodies : v.bodies ≡ take (length v.bodies) (bodies_in fs)
  pub told : length v.texts ≤ length v.bodies
  pub front : StartsWith (spoken fs v.texts) written
  pub wrote : (written ≡ spoken fs v.texts) ⊎ IsCut fs v.texts written
  pub whole : IsUncut v → written ≡ spoken fs v.texts
  pub over : IsOver v.stage → (v.bodies ≡ bodies_in fs) ⊎ IsCut fs v.texts written

module _ (t : Traffic) (r : Reading t.read) (fs : List Fed) (gives : given t.read r ≡ fs) where
  first_bodies : (bodies : List (List ℕ)) → bodies ≡ take (length bodies) (bodies_of (holding t.read r).queue)
      → bodies ≡ take (length bodies) (bodies_in fs)
  first_bodies bodies e = e ∙ ap (take (length bodies)) (bodies_by t.read r fs gives)

  all_bodies : (bodies : List (List ℕ)) → bodies ≡ bodies_of (holding t.read r).queue
      → bodies ≡ take (length bodies) (bodies_in fs)
  all_bodies bodies e = sym (take-length bodies) ∙ ap (take (length bodies)) (e ∙ bodies_by t.read r fs gives)

  well : (v : RunConnection) → v.bodies ≡ take (length v.bodies) (bodies_in fs) → length v.texts ≤ length v.bodies
      → t.written ≡ talk_of (holding t.read r) v.texts → (IsOver v.stage → v.bodies ≡ bodies_in fs) → Stands fs v t.written
  well v bodies few e all =
      let whole : t.written ≡ spoken fs v.texts = e ∙ talk_by t.read r fs v.texts gives in
      record {
        bodies = bodies;
        told = few;
        front = subst (λ (l : List ℕ). StartsWith l t.written) whole (take-length t.written);
        wrote = inl whole;
        whole = λ _. whole;
        over = λ over. inl (all over);
      }

  cut_at : (v : RunConnection) → IsCutOff (holding t.read r) (log t.read t.written v.bodies v.texts) → IsCut fs v.texts t.written
  cut_at v k = record {
    front = subst (λ (l : List ℕ). StartsWith l t.written) (talk_by t.read r fs v.texts gives) k.front;
    part = subst (λ (l : List ℕ). length t.written < length l) (talk_by t.read r fs v.texts gives) k.part;
    before = λ early last e. subst (StartsWith t.written) (talk_by t.read r fs early gives) (k.before early last e);
  }

  cut_off_at : (v : RunConnection) → (IsUncut v → ⊥)
      → IsCutOff (holding t.read r) (log t.read t.written v.bodies v.texts) → Stands fs v t.written
  cut_off_at v is_cut k =
      let cut = cut_at v k in
      record {
        bodies = first_bodies v.bodies k.in_order.bodies;
        told = fewer (length v.bodies) (length v.texts) 0 k.in_order.texts;
        front = cut.front;
        wrote = inr cut;
        whole = λ uncut. absurd (is_cut uncut);
        over = λ _. inr cut;
      }

  asks_not_over : IsOver Stages.Asks → ⊥
  asks_not_over (inl e) = let clash : Stages.Asks ≡ Stages.Ended = e in cc
  asks_not_over (inr (inl e)) = let clash : Stages.Asks ≡ Stages.Closed = e in cc
  asks_not_over (inr (inr (inl e))) = let clash : Stages.Asks ≡ Stages.ReadFailed = e in cc
  asks_not_over (inr (inr (inr e))) = let clash : Stages.Asks ≡ Stages.WriteFailed = e in cc

  owes_not_over : IsOver Stages.Owes → ⊥
  owes_not_over (inl e) = let clash : Stages.Owes ≡ Stages.Ended = e in cc
  owes_not_over (inr (inl e)) = let clash : Stages.Owes ≡ Stages.Closed = e in cc
  owes_not_over (inr (inr (inl e))) = let clash : Stages.Owes ≡ Stages.ReadFailed = e in cc
  owes_not_over (inr (inr (inr e))) = let clash : Stages.Owes ≡ Stages.WriteFailed = e in cc

  stands_at : (door : Option ℕ) (service : ℕ) (stage : Stage) (bodies : List (List ℕ)) (texts : List (Option (List ℕ))) → stage ≢ Stages.Spent
      → Keeps (plain_stage stage) (holding t.read r) (log t.read t.written bodies texts)
      → Stands fs (record { door = door; service = service; stage = stage; bodies = bodies; texts = texts }) t.written
  stands_at door service Stages.Reads bodies texts memory k =
      well (record { door = door; service = service; stage = Stages.Reads; bodies = bodies; texts = texts }) (all_bodies bodies k.0.bodies)
      (as_few (length texts) (length bodies) k.0.texts) k.1 (λ _. k.0.bodies ∙ bodies_by t.read r fs gives)
  stands_at door service Stages.Asks bodies texts memory k =
      well (record { door = door; service = service; stage = Stages.Asks; bodies = bodies; texts = texts }) (first_bodies bodies k.0.bodies)
      (fewer (length bodies) (length texts) 0 k.0.texts) k.1 (λ over. absurd (asks_not_over over))
  stands_at door service Stages.Owes bodies texts memory k =
      well (record { door = door; service = service; stage = Stages.Owes; bodies = bodies; texts = texts }) (first_bodies bodies k.0.bodies)
      (fewer (length bodies) (length texts) 1 k.0.texts) k.1 (λ over. absurd (owes_not_over over))
  stands_at door service Stages.Writes bodies texts memory k =
      cut_off_at (record { door = door; service = service; stage = Stages.Writes; bodies = bodies; texts = texts })
      (λ uncut. uncut.unsent refl) k
  stands_at door service Stages.Ended bodies texts memory k =
      well (record { door = door; service = service; stage = Stages.Ended; bodies = bodies; texts = texts }) (all_bodies bodies k.0.bodies)
      (as_few (length texts) (length bodies) k.0.texts) k.1 (λ _. k.0.bodies ∙ bodies_by t.read r fs gives)
  stands_at door service Stages.Closed bodies texts memory k =
      well (record { door = door; service = service; stage = Stages.Closed; bodies = bodies; texts = texts }) (all_bodies bodies k.0.bodies)
      (as_few (length texts) (length bodies) k.0.texts) k.1 (λ _. k.0.bodies ∙ bodies_by t.read r fs gives)
  stands_at door service Stages.ReadFailed bodies texts memory k =
      well (record { door = door; service = service; stage = Stages.ReadFailed; bodies = bodies; texts = texts }) (all_bodies bodies k.0.bodies)
      (as_few (length texts) (length bodies) k.0.texts) k.1 (λ _. k.0.bodies ∙ bodies_by t.read r fs gives)
  stands_at door service Stages.WriteFailed bodies texts memory k =
      cut_off_at (record { door = door; service = service; stage = Stages.WriteFailed; bodies = bodies; texts = texts })
      (λ uncut. uncut.unfailed refl) k
  stands_at door service Stages.Spent bodies texts memory k = absurd (memory refl)

  -- what is false of a connection however it stands
  stands_so : (v : RunConnection) → HasPassed v t → (Stands fs v t.written → ⊥) → ⊥
  stands_so v passed wrong =
      ∥∥₁_elim (passed.keeps r) (λ x y. absurd x) (λ k. wrong (stands_at v.door v.service v.stage v.bodies v.texts passed.stage k))

-- each connection has its bytes
passed_at : (vs : List RunConnection) (ts : List Traffic) → AllZip HasPassed vs ts → (k : ℕ) (v : RunConnection) → slice_get vs k ≡ Some v
    → (t : Traffic) × (slice_get ts k ≡ Some t) × HasPassed v t
passed_at [] ts passed k v there = absurd (none-some v there)
passed_at (u ∷ vs) [] passed k v there = absurd passed
passed_at (u ∷ vs) (t ∷ ts) passed zero v there = (t, refl, subst (λ (x : RunConnection). HasPassed x t) (same_Some u v there) passed.0)
passed_at (u ∷ vs) (t ∷ ts) passed (suc k) v there = passed_at vs ts passed.1 k v there

-- ---- another answer

-- What was written on this connection begins with another answer than its first request has, were that posted first.
pub record IsOther (w : Setting) (h : List Entry) (t : Traffic) : Type 0 where
  pub reading : Reading t.read
  pub body : List ℕ
  pub later : List Fed
  pub gives : given t.read reading ≡ Request body false ∷ later
  pub some : t.written ≢ []
  pub text : Option (List ℕ)
  pub is_text : response w (past_of w h) first_worker 0 (came_with 0 body) ≡ text
  pub apart : (texts : List (Option (List ℕ))) → StartsWith (answer text false ++ spoken later texts) t.written → ⊥

-- the same of each connection
abbrev pub AreOther : Setting → List Entry → List Traffic → Type 0
AreOther w h [] = Unit {0}
AreOther w h (t ∷ ts) = IsOther w h t × AreOther w h ts

-- all doors lead to the service 0
abbrev pub LeadToOne : Setting → Type 0
LeadToOne w = (n : ℕ) → has_door w.parts n ≡ true → n ≡ 0

module _ (w : Setting) (h : List Entry) where
  other_at : (ts : List Traffic) → AreOther w h ts → (k : ℕ) (t : Traffic) → slice_get ts k ≡ Some t → IsOther w h t
  other_at [] others k t there = absurd (none-some t there)
  other_at (u ∷ ts) others zero t there = subst (IsOther w h) (same_Some u t there) others.0
  other_at (u ∷ ts) others (suc k) t there = other_at ts others.1 k t there

  not_answered : (t : Traffic) (o : IsOther w h t) (texts : List (Option (List ℕ)))
      → StartsWith (spoken (Request o.body false ∷ o.later) texts) t.written
      → ((text : Option (List ℕ)) → slice_get texts 0 ≡ Some text → text ≡ o.text) → ⊥
  not_answered t o [] front answered = o.some (sym front ∙ take_none (length t.written))
  not_answered t o (x ∷ texts) front answered =
      o.apart texts
      (subst (λ (y : Option (List ℕ)). StartsWith (answer y false ++ spoken o.later texts) t.written) (answered x refl) front)

  -- Where another answer was written on each connection, the run is refused.
  pub refused : (halted : Bool) (traffic : List Traffic) → posts_by first_worker h ≢ [] → LeadToOne w → AreOther w h traffic
      → IsServed w h halted traffic → ⊥
  refused halted traffic some one others s =
      let f = is_first w h halted traffic s some in
      let at = passed_at s.connections traffic s.passed f.whose.traffic f.connection f.there in
      let o = other_at traffic others f.whose.traffic at.0 at.1 in
      let service : f.connection.service ≡ 0 =
      one f.connection.service (all_at (λ (v : RunConnection). has_door w.parts v.service) s.connections f.whose.traffic f.connection s.doors f.there) in
      stands_so at.0 o.reading (Request o.body false ∷ o.later) o.gives f.connection at.2
      (λ k. not_answered at.0 o f.connection.texts k.front
      (λ text e.
      f.answered text e
      ∙ ap (λ (n : ℕ). response w (past_of w h) first_worker 0 (came_with n f.body)) service
      ∙ ap (λ (b : List ℕ). response w (past_of w h) first_worker 0 (came_with 0 b))
      (first_same (length f.connection.bodies) o.body f.body (bodies_in o.later) f.connection.bodies k.bodies f.asked)
      ∙ o.is_text))

-- ---- one connection

alone : (connections : List RunConnection) (t : Traffic) → AllZip HasPassed connections (t ∷ []) → (v : RunConnection) × (connections ≡ v ∷ [])
alone [] t passed = absurd passed
alone (v ∷ []) t passed = (v, refl)
alone (u ∷ v ∷ connections) t passed = absurd passed.1

count_one : (m n r : ℕ) → m ≡ 0 → n ≡ 0 → count_by (is_of m) (record { traffic = n; request = r } ∷ []) ≡ 1
count_one m n r e f =
    ap (λ (k : ℕ). count_by (is_of k) (record { traffic = n; request = r } ∷ [])) e
    ∙ ap (λ (k : ℕ). count_by (is_of 0) (record { traffic = k; request = r } ∷ [])) f

-- what came in second was taken second from the only connection
second_taken : (v : RunConnection) (a b : Asked) (asked : List Asked) (c d : Came) → AreTaken (v ∷ []) (a ∷ b ∷ asked)
    → came_at (v ∷ []) a ≡ Some c → came_at (v ∷ []) b ≡ Some d
    → (body : List ℕ) × (slice_get v.bodies 1 ≡ Some body) × (d ≡ came_with v.service body)
second_taken v a b asked c d taken is also =
    let s = is_taken (v ∷ []) a c is in
    let t = is_taken (v ∷ []) b d also in
    let first : a.traffic ≡ 0 = (alone_at v s.connection a.traffic s.there).0 in
    let second = alone_at v t.connection b.traffic t.there in
    let request : b.request ≡ 1 = taken.in_order 1 b refl ∙ count_one b.traffic a.traffic a.request second.0 first in (
      t.body,
      subst (λ (u : RunConnection). slice_get u.bodies 1 ≡ Some t.body) (sym second.1)
          (subst (λ (n : ℕ). slice_get t.connection.bodies n ≡ Some t.body) request t.asked),
      subst (λ (u : RunConnection). d ≡ came_with u.service t.body) (sym second.1) t.brings,
    )

-- the operation that is posted first
abbrev pub first_op : List Post → List ℕ
first_op [] = []
first_op (p ∷ ps) = p.posted.op

abbrev pub behind_first : {A : Type 0} → List A → List A
behind_first [] = []
behind_first (x ∷ xs) = xs

-- where one request was taken, no more came in
no_others : (v : RunConnection) (n : ℕ) (body : List ℕ) → v.bodies ≡ take n (body ∷ []) → (asked : List Asked) (c : Came) (others : List Came)
    → AreTaken (v ∷ []) asked → map (came_at (v ∷ [])) asked ≡ map Some (c ∷ others) → others ≡ []
no_others v n body one asked c [] taken is = refl
no_others v n body one [] c (d ∷ others) taken is = absurd (cons_nil (Some c) (map Some (d ∷ others)) (sym is))
no_others v n body one (a ∷ []) c (d ∷ others) taken is =
    absurd (cons_nil (Some d) (map Some others) (sym (ap behind_first is)))
no_others v n body one (a ∷ b ∷ asked) c (d ∷ others) taken is =
    let second = second_taken v a b asked c d taken
    (head_same (came_at (v ∷ []) a) (Some c) (map (came_at (v ∷ [])) (b ∷ asked)) (map Some (d ∷ others)) is)
    (head_same (came_at (v ∷ []) b) (Some d) (map (came_at (v ∷ [])) asked) (map Some others) (ap behind_first is)) in
    absurd (no_second n body second.0 v.bodies one second.1)

-- where more than one came in, more than one was taken
two_taken : (v : RunConnection) (asked : List Asked) (c d : Came) (others : List Came) → AreTaken (v ∷ []) asked
    → map (came_at (v ∷ [])) asked ≡ map Some (c ∷ d ∷ others) → 1 < length v.bodies
two_taken v [] c d others taken is = absurd (cons_nil (Some c) (map Some (d ∷ others)) (sym is))
two_taken v (a ∷ []) c d others taken is = absurd (cons_nil (Some d) (map Some others) (sym (ap behind_first is)))
two_taken v (a ∷ b ∷ asked) c d others taken is =
    let second = second_taken v a b asked c d taken
    (head_same (came_at (v ∷ []) a) (Some c) (map (came_at (v ∷ [])) (b ∷ asked)) (map Some (d ∷ others)) is)
    (head_same (came_at (v ∷ []) b) (Some d) (map (came_at (v ∷ [])) asked) (map Some others) (ap behind_first is)) in
    slice_get_within v.bodies 1 second.0 second.1

-- What came in second: the body that was taken second.
record IsSecond (v : RunConnection) (others : List Came) : Type 0 where
  body : List ℕ
  taken : slice_get v.bodies 1 ≡ Some body
  more : List Came
  came : others ≡ came_with v.service body ∷ more

-- where more than one was taken, more than one came in
second_came : (v : RunConnection) (asked : List Asked) (c : Came) (others : List Came) → AreTaken (v ∷ []) asked
    → map (came_at (v ∷ [])) asked ≡ map Some (c ∷ others) → 1 < length v.bodies → IsSecond v others
second_came v [] c others taken is many = absurd (cons_nil (Some c) (map Some others) (sym is))
second_came v (a ∷ []) c others taken is many =
    let t = is_taken (v ∷ []) a c (head_same (came_at (v ∷ []) a) (Some c) [] (map Some others) is) in
    let first : a.traffic ≡ 0 = (alone_at v t.connection a.traffic t.there).0 in
    let one : length v.bodies ≡ 1 = sym (taken.all 0 v refl) ∙ count_one 0 a.traffic a.request refl first in
    absurd (few_at_most (length v.bodies) (omega (arith, one)) many)
second_came v (a ∷ b ∷ asked) c [] taken is many =
    absurd (cons_nil (came_at (v ∷ []) b) (map (came_at (v ∷ [])) asked) (ap behind_first is))
second_came v (a ∷ b ∷ asked) c (d ∷ others) taken is many =
    let second = second_taken v a b asked c d taken
    (head_same (came_at (v ∷ []) a) (Some c) (map (came_at (v ∷ [])) (b ∷ asked)) (map Some (d ∷ others)) is)
    (head_same (came_at (v ∷ []) b) (Some d) (map (came_at (v ∷ [])) asked) (map Some others) (ap behind_first is)) in
    record { body = second.0; taken = second.1; more = others; came = ap (λ (x : Came). x ∷ others) second.2 }

none_told : 0 < 0 → ⊥
none_told some = omega (arith, some)

-- the first of some numbers that is of a kind, or another where none is
abbrev first_by : (ℕ → Bool) → List ℕ → ℕ → ℕ
first_by p xs other = unwrap_or (first_in (filter p xs)) other

-- where the first of some numbers is of a kind, it is the first of the kind
first_is : (p : ℕ → Bool) (n other : ℕ) → p 0 ≡ true → 0 < n → first_by p (numbers_from 0 n) other ≡ 0
first_is p zero other is some = absurd (none_told some)
first_is p (suc n) other is some =
    ap (λ (b : Bool). unwrap_or (first_in (cond b (0 ∷ filter p (numbers_from 1 n)) (filter p (numbers_from 1 n)))) other) is

some_behind : (n : ℕ) → 0 < suc n - 0
some_behind n = omega arith

before_two : (k n : ℕ) → k ≡ 0 → suc k < suc (suc n)
before_two k n e = omega (arith, e)

-- where more than one came in, and the first posting was finished at itself, its request was told
early_told : (w : Setting) (h : List Entry) → is_finished w (past_of w h) first_worker 0 0 ≡ true
    → (v : RunConnection) (asked : List Asked) (c d : Came) (others : List Came) → AreTaken (v ∷ []) asked
    → map (came_at (v ∷ [])) asked ≡ map Some (c ∷ d ∷ others) → AreToldEarly w h (v ∷ []) asked → 0 < length v.texts
early_told w h first v [] c d others taken is told = absurd (cons_nil (Some c) (map Some (d ∷ others)) (sym is))
early_told w h first v (a ∷ []) c d others taken is told =
    absurd (cons_nil (Some d) (map Some others) (sym (ap behind_first is)))
early_told w h first v (a ∷ b ∷ asked) c d others taken is told =
    let s = is_taken (v ∷ []) a c
    (head_same (came_at (v ∷ []) a) (Some c) (map (came_at (v ∷ [])) (b ∷ asked)) (map Some (d ∷ others)) is) in
    let one : a.traffic ≡ 0 = (alone_at v s.connection a.traffic s.there).0 in
    let request : a.request ≡ 0 = taken.in_order 0 a refl in
    let least : finished_at w (past_of w h) first_worker (length (a ∷ b ∷ asked)) 0 ≡ 0 =
    first_is (is_finished w (past_of w h) first_worker 0) (length (a ∷ b ∷ asked) - 0) (length (a ∷ b ∷ asked)) first
    (some_behind (length (b ∷ asked))) in
    subst (λ (n : ℕ). n < length v.texts) request
    (told 0 a v refl (ap (slice_get (v ∷ [])) one)
    (before_two (finished_at w (past_of w h) first_worker (length (a ∷ b ∷ asked)) 0) (length asked) least))

-- ---- the first posting

module _ {w : Setting} {h : List Entry} {halted : Bool} {t : Traffic} {ts : List Traffic} {body : List ℕ} {later : List Fed}
    (s : IsServed w h halted (t ∷ ts)) where
  first_came : LeadToOne w → (f : IsFirst w h s.connections s.all.asked s.all.came) → Stands (Request body false ∷ later) f.connection t.written
      → came_with f.connection.service f.body ≡ came_with 0 body
  first_came one f k =
      ap (λ (n : ℕ). came_with n f.body)
      (one f.connection.service (all_at (λ (v : RunConnection). has_door w.parts v.service) s.connections f.whose.traffic f.connection s.doors f.there))
      ∙ ap (came_with 0) (first_same (length f.connection.bodies) body f.body (bodies_in later) f.connection.bodies k.bodies f.asked)

  first_response : LeadToOne w → (f : IsFirst w h s.connections s.all.asked s.all.came) → Stands (Request body false ∷ later) f.connection t.written
      → response w (past_of w h) first_worker 0 (came_with f.connection.service f.body)
      ≡ response w (past_of w h) first_worker 0 (came_with 0 body)
  first_response one f k = ap (response w (past_of w h) first_worker 0) (first_came one f k)

  first_posted : LeadToOne w → (f : IsFirst w h s.connections s.all.asked s.all.came) → Stands (Request body false ∷ later) f.connection t.written
      → posts_by first_worker h ≡ posts_of 0 (map posting_of (came_with 0 body ∷ f.others))
  first_posted one f k =
      s.posted
      ∙ ap (λ (came : List Came). posts_of 0 (map posting_of came))
      (f.first ∙ ap (λ (c : Came). c ∷ f.others) (first_came one f k))

  -- how the first connection stands
  stands_first : (reading : Reading t.read) → given t.read reading ≡ Request body false ∷ later → (v : RunConnection) → slice_get s.connections 0 ≡ Some v
      → (Stands (Request body false ∷ later) v t.written → ⊥) → ⊥
  stands_first reading gives v there wrong =
      let at = passed_at s.connections (t ∷ ts) s.passed 0 v there in
      stands_so t reading (Request body false ∷ later) gives v (subst (λ (u : Traffic). HasPassed v u) (sym (same_Some t at.0 at.1)) at.2) wrong

module _ {w : Setting} {h : List Entry} {halted : Bool} {t : Traffic} {body : List ℕ} {later : List Fed} (s : IsServed w h halted (t ∷ [])) where
  -- where there is one connection alone, the first posting is its own
  with_first : (reading : Reading t.read) → given t.read reading ≡ Request body false ∷ later → posts_by first_worker h ≢ []
      → ((f : IsFirst w h s.connections s.all.asked s.all.came) → f.whose.traffic ≡ 0 → Stands (Request body false ∷ later) f.connection t.written → ⊥) → ⊥
  with_first reading gives some wrong =
      let f = is_first w h halted (t ∷ []) s some in
      let v = alone s.connections t s.passed in
      let number : f.whose.traffic ≡ 0 = (alone_at v.0 f.connection f.whose.traffic (ap (λ (l : List RunConnection). slice_get l f.whose.traffic) (sym v.1) ∙ f.there)).0 in
      stands_first s reading gives f.connection (ap (slice_get s.connections) (sym number) ∙ f.there) (wrong f number)

-- ---- spoilt runs

module _ (w : Setting) (h : List Entry) (halted : Bool) (t : Traffic) (reading : Reading t.read) (body : List ℕ)
    (later : List Fed) (gives : given t.read reading ≡ Request body false ∷ later) where
  module _ (s : IsServed w h halted (t ∷ [])) where
    one_alone : later ≡ [] → (f : IsFirst w h s.connections s.all.asked s.all.came) → Stands (Request body false ∷ later) f.connection t.written → f.others ≡ []
    one_alone last f k =
        let v = alone s.connections t s.passed in
        let same : v.0 ≡ f.connection = (alone_at v.0 f.connection f.whose.traffic (ap (λ (l : List RunConnection). slice_get l f.whose.traffic) (sym v.1) ∙ f.there)).1 in
        no_others v.0 (length f.connection.bodies) body
        (ap (λ (u : RunConnection). u.bodies) same ∙ k.bodies ∙ ap (λ (l : List Fed). take (length f.connection.bodies) (body ∷ bodies_in l)) last)
        s.all.asked (came_with f.connection.service f.body) f.others
        (subst (λ (l : List RunConnection). AreTaken l s.all.asked) v.1 (record { in_order = s.taken.in_order; all = s.taken.all }))
        (subst (λ (l : List RunConnection). map (came_at l) s.all.asked ≡ map Some (came_with f.connection.service f.body ∷ f.others)) v.1
        (s.came ∙ ap (map Some) f.first))

    -- the only connection
    only : (f : IsFirst w h s.connections s.all.asked s.all.came) → (v : RunConnection) × (s.connections ≡ v ∷ []) × (v ≡ f.connection)
    only f =
        let v = alone s.connections t s.passed in
        (v.0, v.1, (alone_at v.0 f.connection f.whose.traffic (ap (λ (l : List RunConnection). slice_get l f.whose.traffic) (sym v.1) ∙ f.there)).1)

    only_taken : (v : RunConnection) → s.connections ≡ v ∷ [] → AreTaken (v ∷ []) s.all.asked
    only_taken v e =
        subst (λ (l : List RunConnection). AreTaken l s.all.asked) e (record { in_order = s.taken.in_order; all = s.taken.all })

    only_came : (f : IsFirst w h s.connections s.all.asked s.all.came) (v : RunConnection) → s.connections ≡ v ∷ []
        → map (came_at (v ∷ [])) s.all.asked ≡ map Some (came_with f.connection.service f.body ∷ f.others)
    only_came f v e =
        subst (λ (l : List RunConnection). map (came_at l) s.all.asked ≡ map Some (came_with f.connection.service f.body ∷ f.others)) e
        (s.came ∙ ap (map Some) f.first)

    -- where others came in, more than one was taken
    more_taken : (f : IsFirst w h s.connections s.all.asked s.all.came) (others : List Came) → f.others ≡ others → others ≢ []
        → 1 < length f.connection.bodies
    more_taken f [] e some = absurd (some refl)
    more_taken f (d ∷ others) e some =
        let v = only f in
        subst (λ (u : RunConnection). 1 < length u.bodies) v.2
        (two_taken v.0 s.all.asked (came_with f.connection.service f.body) d others (only_taken v.0 v.1)
        (only_came f v.0 v.1 ∙ ap (λ (l : List Came). map Some (came_with f.connection.service f.body ∷ l)) e))

    -- where more than one was taken, the second was posted
    second_posted : LeadToOne w → (f : IsFirst w h s.connections s.all.asked s.all.came) → Stands (Request body false ∷ later) f.connection t.written
        → (other : List ℕ) (rest : List Fed) → later ≡ Request other false ∷ rest → 1 < length f.connection.bodies
        → (others : List Came) × (posts_by first_worker h ≡ posts_of 0 (map posting_of (came_with 0 body ∷ came_with 0 other ∷ others)))
    second_posted one f k other rest is many =
        let v = only f in
        let z = second_came v.0 s.all.asked (came_with f.connection.service f.body) f.others (only_taken v.0 v.1) (only_came f v.0 v.1)
        (subst (λ (u : RunConnection). 1 < length u.bodies) (sym v.2) many) in
        let service : v.0.service ≡ 0 =
        ap (λ (u : RunConnection). u.service) v.2
        ∙ one f.connection.service (all_at (λ (u : RunConnection). has_door w.parts u.service) s.connections f.whose.traffic f.connection s.doors f.there) in
        let second : z.body ≡ other =
        second_same (length f.connection.bodies) body other z.body (bodies_in rest) f.connection.bodies
        (k.bodies ∙ ap (λ (l : List Fed). take (length f.connection.bodies) (body ∷ bodies_in l)) is)
        (ap (λ (u : RunConnection). slice_get u.bodies 1) (sym v.2) ∙ z.taken) in (
          z.more,
          first_posted s one f k
              ∙ ap (λ (l : List Came). posts_of 0 (map posting_of (came_with 0 body ∷ l)))
              (z.came ∙ ap (λ (n : ℕ). came_with n z.body ∷ z.more) service ∙ ap (λ (b : List ℕ). came_with 0 b ∷ z.more) second),
        )

  -- A run over one connection is refused unless what it posts first is its first request.
  pub refused_first : posts_by first_worker h ≢ [] → LeadToOne w
      → ((others : List Came) → posts_by first_worker h ≡ posts_of 0 (map posting_of (came_with 0 body ∷ others)) → ⊥)
      → IsServed w h halted (t ∷ []) → ⊥
  refused_first some one wrong s = with_first s reading gives some (λ f number k. wrong f.others (first_posted s one f k))

  -- It is refused where there is one request alone, and more is posted.
  pub refused_once : later ≡ [] → posts_by first_worker h ≢ [] → LeadToOne w
      → (posts_by first_worker h ≡ posts_of 0 (map posting_of (came_with 0 body ∷ [])) → ⊥) → IsServed w h halted (t ∷ []) → ⊥
  refused_once last some one wrong s =
      with_first s reading gives some
      (λ f number k. wrong (first_posted s one f k
      ∙ ap (λ (others : List Came). posts_of 0 (map posting_of (came_with 0 body ∷ others))) (one_alone s last f k)))

  -- what was written begins with the first answer, where a request was told its own
  answer_first : (texts : List (Option (List ℕ))) (text : Option (List ℕ)) → 0 < length texts
      → ((x : Option (List ℕ)) → slice_get texts 0 ≡ Some x → x ≡ text)
      → t.written ≡ spoken (Request body false ∷ later) texts
      → (others : List (Option (List ℕ))) × (t.written ≡ answer text false ++ spoken later others)
  answer_first [] text some answered e = absurd (none_told some)
  answer_first (x ∷ texts) text some answered e =
      (texts, e ∙ ap (λ (y : Option (List ℕ)). answer y false ++ spoken later texts) (answered x refl))

  -- It is refused where this is not what was written first, unless it halted, a text goes out or a write failed.
  pub refused_cut : halted ≡ false → posts_by first_worker h ≢ [] → LeadToOne w → (text : Option (List ℕ))
      → response w (past_of w h) first_worker 0 (came_with 0 body) ≡ text
      → ((texts : List (Option (List ℕ))) → t.written ≡ answer text false ++ spoken later texts → ⊥)
      → (s : IsServed w h halted (t ∷ [])) → ((v : RunConnection) → slice_get s.connections 0 ≡ Some v → IsUncut v) → ⊥
  refused_cut goes some one text is_text apart s uncut =
      with_first s reading gives some
      (λ f number k.
      let whole = k.whole (uncut f.connection (subst (λ (n : ℕ). slice_get s.connections n ≡ Some f.connection) number f.there)) in
      let told : length f.connection.texts ≡ length f.connection.bodies =
      eqb-true (length f.connection.texts) (length f.connection.bodies) (all_at is_told s.connections f.whose.traffic f.connection (s.told goes) f.there) in
      let first = answer_first f.connection.texts text
      (subst (λ (n : ℕ). 0 < n) (sym told) (slice_get_within f.connection.bodies 0 f.body f.asked))
      (λ x e. f.answered x e ∙ first_response s one f k ∙ is_text) whole in
      apart first.0 first.1)

  -- the first request was told, whether it halted or not, where others came in and it was answered before them
  first_told : is_finished w (past_of w h) first_worker 0 0 ≡ true → (s : IsServed w h halted (t ∷ []))
      → (f : IsFirst w h s.connections s.all.asked s.all.came) (others : List Came) → f.others ≡ others → others ≢ [] → 0 < length f.connection.texts
  first_told first s f [] e some = absurd (some refl)
  first_told first s f (d ∷ others) e some =
      let v = only s f in
      subst (λ (u : RunConnection). 0 < length u.texts) v.2
      (early_told w h first v.0 s.all.asked (came_with f.connection.service f.body) d others (only_taken s v.0 v.1)
      (only_came s f v.0 v.1 ∙ ap (λ (l : List Came). map Some (came_with f.connection.service f.body ∷ l)) e)
      (subst (λ (l : List RunConnection). AreToldEarly w h l s.all.asked) v.1 s.told_early))

  -- It is refused where this is not what was written first, unless a text goes out or a write failed, also where it
  -- halted, if the first request was answered before another was posted.
  pub refused_untold : is_finished w (past_of w h) first_worker 0 0 ≡ true → posts_by first_worker h ≢ [] → LeadToOne w
      → (text : Option (List ℕ)) → response w (past_of w h) first_worker 0 (came_with 0 body) ≡ text
      → (posts_by first_worker h ≡ posts_of 0 (map posting_of (came_with 0 body ∷ [])) → ⊥)
      → ((texts : List (Option (List ℕ))) → t.written ≡ answer text false ++ spoken later texts → ⊥)
      → (s : IsServed w h halted (t ∷ []))
      → ((v : RunConnection) → slice_get s.connections 0 ≡ Some v → IsUncut v) → ⊥
  refused_untold early some one text is_text more apart s uncut =
      with_first s reading gives some
      (λ f number k.
      let whole = k.whole (uncut f.connection (subst (λ (n : ℕ). slice_get s.connections n ≡ Some f.connection) number f.there)) in
      let first = answer_first f.connection.texts text
      (first_told early s f f.others refl
      (λ none. more (first_posted s one f k ∙ ap (λ (l : List Came). posts_of 0 (map posting_of (came_with 0 body ∷ l))) none)))
      (λ x e. f.answered x e ∙ first_response s one f k ∙ is_text) whole in
      apart first.0 first.1)

  -- what was written begins with the first answer, where more than one request was told its own
  answer_behind : (texts : List (Option (List ℕ))) (text : Option (List ℕ))
      → (t.written ≡ spoken (Request body false ∷ later) texts) ⊎ IsCut (Request body false ∷ later) texts t.written
      → 1 < length texts → ((x : Option (List ℕ)) → slice_get texts 0 ≡ Some x → x ≡ text)
      → (others : List (Option (List ℕ))) × StartsWith t.written (answer text false ++ spoken later others)
  answer_behind [] text wrote many answered = absurd (few_at_most 0 (omega arith) many)
  answer_behind (x ∷ []) text wrote many answered = absurd (few_at_most 1 (omega arith) many)
  answer_behind (x ∷ y ∷ more) text (inl whole) many answered = (
    y ∷ more,
    subst (StartsWith t.written)
        (whole ∙ ap (λ (u : Option (List ℕ)). answer u false ++ spoken later (y ∷ more)) (answered x refl))
        (take-length t.written),
  )
  answer_behind (x ∷ y ∷ more) text (inr cut) many answered =
      let b = but_last y more in (
        b.0,
        subst (λ (u : Option (List ℕ)). StartsWith t.written (answer u false ++ spoken later b.0)) (answered x refl)
            (cut.before (x ∷ b.0) b.1 (ap (λ (l : List (Option (List ℕ))). x ∷ l) b.2)),
      )

  -- It is refused where less was written than the first answer, and another request was posted, unless it halted; also
  -- where the connection has failed.
  pub refused_behind : halted ≡ false → posts_by first_worker h ≢ [] → LeadToOne w → (text : Option (List ℕ))
      → response w (past_of w h) first_worker 0 (came_with 0 body) ≡ text
      → (posts_by first_worker h ≡ posts_of 0 (map posting_of (came_with 0 body ∷ [])) → ⊥)
      → length t.written < length (answer text false) → IsServed w h halted (t ∷ []) → ⊥
  refused_behind goes some one text is_text apart short s =
      with_first s reading gives some
      (λ f number k.
      let many = more_taken s f f.others refl
      (λ none. apart (first_posted s one f k ∙ ap (λ (l : List Came). posts_of 0 (map posting_of (came_with 0 body ∷ l))) none)) in
      let told : length f.connection.texts ≡ length f.connection.bodies =
      eqb-true (length f.connection.texts) (length f.connection.bodies) (all_at is_told s.connections f.whose.traffic f.connection (s.told goes) f.there) in
      let first = answer_behind f.connection.texts text k.wrote (subst (λ (n : ℕ). 1 < n) (sym told) many)
      (λ x e. f.answered x e ∙ first_response s one f k ∙ is_text) in
      none_shorter t.written (answer text false) (spoken later first.0) first.1 short)

  -- not all was cut of what is to be written, where the first answer alone was written
  not_cut : (texts : List (Option (List ℕ))) (text : Option (List ℕ)) → (1 < length texts → ⊥)
      → ((x : Option (List ℕ)) → slice_get texts 0 ≡ Some x → x ≡ text) → (other : List ℕ) (rest : List Fed)
      → later ≡ Request other false ∷ rest → t.written ≡ answer text false
      → length t.written < length (spoken (Request body false ∷ later) texts) → ⊥
  not_cut [] text few answered other rest is wrote part = below_none (length t.written) part
  not_cut (x ∷ []) text few answered other rest is wrote part =
      let same : spoken (Request body false ∷ later) (x ∷ []) ≡ t.written =
      ap (λ (l : List Fed). answer x false ++ spoken l []) is
      ∙ append-nil (answer x false) ∙ ap (λ (u : Option (List ℕ)). answer u false) (answered x refl) ∙ sym wrote in
      below_itself (length t.written) (subst (λ (l : List ℕ). length t.written < length l) same part)
  not_cut (x ∷ y ∷ more) text few answered other rest is wrote part = absurd (few (two_at_least (length more)))

  -- Where the connection has failed, it is refused where the first answer alone was written and the second request, which
  -- is whole, was not posted.
  pub refused_untaken : halted ≡ false → posts_by first_worker h ≢ [] → LeadToOne w → (text : Option (List ℕ))
      → response w (past_of w h) first_worker 0 (came_with 0 body) ≡ text → (other : List ℕ) (rest : List Fed)
      → later ≡ Request other false ∷ rest
      → ((others : List Came) → posts_by first_worker h ≡ posts_of 0 (map posting_of (came_with 0 body ∷ came_with 0 other ∷ others)) → ⊥)
      → t.written ≡ answer text false → (s : IsServed w h halted (t ∷ []))
      → ((v : RunConnection) → slice_get s.connections 0 ≡ Some v → IsFailed v.stage) → ⊥
  refused_untaken goes some one text is_text other rest is apart wrote s failed =
      with_first s reading gives some (λ f number k. wrong f k (k.over (inr (inr (failed f.connection (subst (λ (n : ℕ). slice_get s.connections n ≡ Some f.connection) number f.there))))))
    where
      not_two : (f : IsFirst w h s.connections s.all.asked s.all.came) → Stands (Request body false ∷ later) f.connection t.written
          → 1 < length f.connection.bodies → ⊥
      not_two f k many =
          let z = second_posted s one f k other rest is many in apart z.0 z.1

      wrong : (f : IsFirst w h s.connections s.all.asked s.all.came) → Stands (Request body false ∷ later) f.connection t.written
          → (f.connection.bodies ≡ bodies_in (Request body false ∷ later)) ⊎ IsCut (Request body false ∷ later) f.connection.texts t.written → ⊥
      wrong f k (inl all) =
          let two : length f.connection.bodies ≡ suc (suc (length (bodies_in rest))) =
          ap length all ∙ ap (λ (l : List Fed). suc (length (bodies_in l))) is in
          not_two f k (subst (λ (n : ℕ). 1 < n) (sym two) (two_at_least (length (bodies_in rest))))
      wrong f k (inr cut) =
          let told : length f.connection.texts ≡ length f.connection.bodies =
          eqb-true (length f.connection.texts) (length f.connection.bodies) (all_at is_told s.connections f.whose.traffic f.connection (s.told goes) f.there) in
          not_cut f.connection.texts text (λ many. not_two f k (subst (λ (n : ℕ). 1 < n) told many))
          (λ x e. f.answered x e ∙ first_response s one f k ∙ is_text) other rest is wrote cut.part

-- ---- posted before another is answered

-- the posts of a posting have its number
of_posting : (j i : ℕ) (calls : List CallIn) (k : ℕ) (p : Post) → slice_get (posts_from j i calls) k ≡ Some p → p.posting ≡ j
of_posting j i [] k p there = absurd (none-some p there)
of_posting j i (call.Post q ∷ calls) zero p there =
    sym (ap (λ (x : Post). x.posting) (same_Some (record { posting = j; index = i; posted = q }) p there))
of_posting j i (call.Post q ∷ calls) (suc k) p there = of_posting j (suc i) calls k p there
of_posting j i (call.Answered o ∷ calls) k p there = of_posting j (suc i) calls k p there

zero_one : (n : ℕ) → n ≡ 0 → n ≡ 1 → ⊥
zero_one n none one = omega (arith, none, one)

-- where the second posting has a post, two came in at least
two_came : (came : List Came) (k : ℕ) (p : Post) → slice_get (posts_of 0 (map posting_of came)) k ≡ Some p → p.posting ≡ 1
    → (c : Came) × (d : Came) × (others : List Came) × (came ≡ c ∷ d ∷ others)
two_came [] k p there one = absurd (none-some p there)
two_came (c ∷ []) k p there one =
    let alone : slice_get (posts_from 0 0 (posting_of c).calls) k ≡ Some p =
    ap (λ (l : List Post). slice_get l k) (sym (append-nil (posts_from 0 0 (posting_of c).calls))) ∙ there in
    absurd (zero_one p.posting (of_posting 0 0 (posting_of c).calls k p alone) one)
two_came (c ∷ d ∷ others) k p there one = (c, d, others, refl)

low_by : (b : Bool) (i other : ℕ) (xs : List ℕ) → suc i ≤ unwrap_or (first_in xs) other
    → i ≤ unwrap_or (first_in (cond b (i ∷ xs) xs)) other
low_by true i other xs h = itself i
  where
    itself : (n : ℕ) → n ≤ n
    itself n = omega arith
low_by false i other xs h = lower i (unwrap_or (first_in xs) other) h
  where
    lower : (n r : ℕ) → suc n ≤ r → n ≤ r
    lower n r h = omega (arith, h)

first_low : (p : ℕ → Bool) (i n other : ℕ) → i + n ≤ other → i ≤ first_by p (numbers_from i n) other
first_low p i zero other most = at_end i other most
  where
    at_end : (m k : ℕ) → m + 0 ≤ k → m ≤ k
    at_end m k h = omega (arith, h)
first_low p i (suc n) other most =
    low_by (p i) i other (filter p (numbers_from (suc i) n)) (first_low p (suc i) n other (moved i n other most))
  where
    moved : (m l k : ℕ) → m + suc l ≤ k → suc m + l ≤ k
    moved m l k h = omega (arith, h)

above : (n r : ℕ) → n ≡ r → 1 ≤ r → n < 1 → ⊥
above n r is low less = omega (arith, is, low, less)

-- where the first of some numbers is none of a kind, the first of the kind is another
not_first : (p : ℕ → Bool) (n count : ℕ) → p 0 ≡ false → 0 < n → n ≤ count → first_by p (numbers_from 0 n) count < 1 → ⊥
not_first p zero count other some most less = absurd (none_told some)
not_first p (suc n) count other some most less =
    above (first_by p (numbers_from 0 (suc n)) count) (first_by p (numbers_from 1 n) count)
    (ap
    (λ (b : Bool). unwrap_or (first_in (cond b (0 ∷ filter p (numbers_from 1 n)) (filter p (numbers_from 1 n)))) count)
    other)
    (first_low p 1 n count (all n count most)) less
  where
    all : (l k : ℕ) → suc l ≤ k → 1 + l ≤ k
    all l k h = omega (arith, h)

all_of : (n : ℕ) → n - 0 ≤ n
all_of n = omega arith

module _ (w : Setting) (h : List Entry) (open_yet : is_finished w (past_of w h) first_worker 0 0 ≡ false) where
  not_one_by_one : (v : RunConnection) (asked : List Asked) (c d : Came) (others : List Came)
      → map (came_at (v ∷ [])) asked ≡ map Some (c ∷ d ∷ others) → AreOneByOne w h asked → ⊥
  not_one_by_one v [] c d others is turns = absurd (cons_nil (Some c) (map Some (d ∷ others)) (sym is))
  not_one_by_one v (a ∷ []) c d others is turns =
      absurd (cons_nil (Some d) (map Some others) (sym (ap behind_first is)))
  not_one_by_one v (a ∷ b ∷ asked) c d others is turns =
      let s = is_taken (v ∷ []) a c
      (head_same (came_at (v ∷ []) a) (Some c) (map (came_at (v ∷ [])) (b ∷ asked)) (map Some (d ∷ others)) is) in
      let t = is_taken (v ∷ []) b d
      (head_same (came_at (v ∷ []) b) (Some d) (map (came_at (v ∷ [])) asked) (map Some others) (ap behind_first is)) in
      let one : a.traffic ≡ 0 = (alone_at v s.connection a.traffic s.there).0 in
      let other : b.traffic ≡ 0 = (alone_at v t.connection b.traffic t.there).0 in
      let first : 0 < 1 = omega arith in
      not_first (is_finished w (past_of w h) first_worker 0) (length (a ∷ b ∷ asked) - 0) (length (a ∷ b ∷ asked)) open_yet
      (some_behind (length (b ∷ asked))) (all_of (length (a ∷ b ∷ asked))) (turns 0 1 a b refl refl (one ∙ sym other) first)

  -- A run over one connection is refused where something is posted of the second request before the first is answered.
  pub refused_early : (halted : Bool) (t : Traffic) (p : Post) → slice_get (posts_by first_worker h) 1 ≡ Some p → p.posting ≡ 1
      → IsServed w h halted (t ∷ []) → ⊥
  refused_early halted t p there one s =
      let v = alone s.connections t s.passed in
      let two = two_came s.all.came 1 p (ap (λ (l : List Post). slice_get l 1) (sym s.posted) ∙ there) one in
      not_one_by_one v.0 s.all.asked two.0 two.1 two.2
      (subst (λ (l : List RunConnection). map (came_at l) s.all.asked ≡ map Some (two.0 ∷ two.1 ∷ two.2)) v.1
      (s.came ∙ ap (map Some) two.3))
      s.one_by_one
