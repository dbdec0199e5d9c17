-- The box of a session as the definitions of the office have it: its oldest message, and what is left once that is taken.
use Rattle.std.proofs.Common.{◌≡◌, ◌≢◌, ℕ, zero, suc, ◌+◌, ◌≤◌, ◌<◌, Bool, true, false, not, ◌&&◌, ◌||◌, List, [], ◌∷◌, ◌++◌, length, refl, sym, ap, subst, ◌∙◌, Option, None, Some, true≢false, arith}
use Rattle.std.specs.Prelude.{nat_eq, slice_get, if◌then◌else◌}
use Rattle.std.specs.List.{list_any}
use Rattle.std.proofs.lemmas.List.Folds.{list_any-append}
use Rattle.post_box.specs.declared.mailbox.Waiting.{Waiting}
use Rattle.post_box.specs.Oldest.{waiting, is_of, oldest, without_oldest}
use Rattle.office_core.specs.declared.message.Message.{Message}
use Rattle.office_core.specs.Past.{Past}
use Rattle.office_core.specs.Boxes.{taken, numbers_without, untaken, queue, box}
use Rattle.office_core.specs.Keys.{first}
use Rattle.office_plain.specs.Waits.{waiting_from, waiting_for}
use Rattle.office_plain.proofs.Lists.{same_of, none_not_some, itself, eq_true, not_eq}

-- ---- the oldest

-- a message at the head of those for which a session waits
head_oldest : (ops : List ℕ) (a b g : Bool) (op k : ℕ) (ns : List ℕ) (ws : List Waiting)
    → list_any (nat_eq op) ops ≡ b → first ns ≡ oldest ops ws
    → first ((if (a && b) && not g then k ∷ [] else []) ++ ns) ≡ oldest ops ((if a && not g then waiting op k ∷ [] else []) ++ ws)
head_oldest ops true true true op k ns ws e h = h
head_oldest ops true true false op k ns ws e h = sym (ap (λ c. if c then Some k else oldest ops ws) e)
head_oldest ops true false true op k ns ws e h = h
head_oldest ops true false false op k ns ws e h = h ∙ sym (ap (λ c. if c then Some k else oldest ops ws) e)
head_oldest ops false b true op k ns ws e h = h
head_oldest ops false b false op k ns ws e h = h

oldest_from : (gone : List ℕ) (s : ℕ) (ops : List ℕ) (k : ℕ) (ms : List Message)
    → first (numbers_without gone (λ m. nat_eq s m.session && list_any (nat_eq m.op) ops) k ms)
    ≡ oldest ops (waiting_from gone s k ms)
oldest_from gone s ops k [] = refl
oldest_from gone s ops k (m ∷ ms) =
    head_oldest ops (nat_eq s m.session) (list_any (nat_eq m.op) ops) (list_any (nat_eq k) gone) m.op k
    (numbers_without gone (λ x. nat_eq s x.session && list_any (nat_eq x.op) ops) (suc k) ms)
    (waiting_from gone s (suc k) ms)
    refl
    (oldest_from gone s ops (suc k) ms)

-- the first of a queue is the oldest of what waits
pub queue_oldest : (past : Past) (s : ℕ) (ops : List ℕ) → first (queue past s ops) ≡ oldest ops (waiting_for past s)
queue_oldest past s ops = oldest_from (taken past) s ops 0 past.messages

-- ---- how many

head_count : (a g : Bool) (op k : ℕ) (ns : List ℕ) (ws : List Waiting) → length ns ≡ length ws
    → length ((if a && not g then k ∷ [] else []) ++ ns) ≡ length ((if a && not g then waiting op k ∷ [] else []) ++ ws)
head_count true true op k ns ws h = h
head_count true false op k ns ws h = ap suc h
head_count false true op k ns ws h = h
head_count false false op k ns ws h = h

count_from : (gone : List ℕ) (s k : ℕ) (ms : List Message)
    → length (numbers_without gone (λ m. nat_eq s m.session) k ms) ≡ length (waiting_from gone s k ms)
count_from gone s k [] = refl
count_from gone s k (m ∷ ms) =
    head_count (nat_eq s m.session) (list_any (nat_eq k) gone) m.op k
    (numbers_without gone (λ x. nat_eq s x.session) (suc k) ms)
    (waiting_from gone s (suc k) ms)
    (count_from gone s (suc k) ms)

-- as many messages wait as are in the boxes
pub box_count : (past : Past) (s : ℕ) → length (box past s) ≡ length (waiting_for past s)
box_count past s = count_from (taken past) s 0 past.messages

-- ---- what the oldest is

-- message n, which stands at a place behind k others: it is of one of the operations, went to the session, was not taken,
-- and is the first that waits of its operation
pub record Found (gone : List ℕ) (s : ℕ) (ops : List ℕ) (k : ℕ) (ms : List Message) (n : ℕ) : Type 0 where
  pub place : ℕ
  pub number : n ≡ k + place
  pub message : Message
  pub there : slice_get ms place ≡ Some message
  pub went : nat_eq s message.session ≡ true
  pub asked : list_any (nat_eq message.op) ops ≡ true
  pub alone : first (numbers_without gone (λ m. nat_eq s m.session && list_any (nat_eq m.op) (message.op ∷ [])) k ms) ≡ Some n

both_left : (a b : Bool) → (a && b) ≡ true → a ≡ true
both_left true b h = refl
both_left false b h = h

-- a head that waits and is of the operation
first_here : (a b g : Bool) (k : ℕ) (ns : List ℕ) → (a && not g) ≡ true → b ≡ true
    → first ((if (a && b) && not g then k ∷ [] else []) ++ ns) ≡ Some k
first_here true true true k ns h e = absurd (true≢false (sym h))
first_here true true false k ns h e = refl
first_here true false g k ns h e = absurd (true≢false (sym e))
first_here false b g k ns h e = absurd (true≢false (sym h))

-- a head that does not wait
first_after : (a b g : Bool) (k : ℕ) (ns : List ℕ) → (a && not g) ≡ false
    → first ((if (a && b) && not g then k ∷ [] else []) ++ ns) ≡ first ns
first_after true b true k ns h = ap (λ c. first ((if c then k ∷ [] else []) ++ ns)) (never b)
  where
    never : (b : Bool) → ((true && b) && not true) ≡ false
    never true = refl
    never false = refl
first_after true b false k ns h = absurd (true≢false h)
first_after false b g k ns h = refl

-- a head that is of another operation
first_other : (a b g : Bool) (k : ℕ) (ns : List ℕ) → b ≡ false
    → first ((if (a && b) && not g then k ∷ [] else []) ++ ns) ≡ first ns
first_other true b g k ns h = ap (λ c. first ((if (true && c) && not g then k ∷ [] else []) ++ ns)) h
first_other false b g k ns h = refl

-- the operation of a message that is not asked for is none that is
another : (ops : List ℕ) (o p : ℕ) → list_any (nat_eq o) ops ≡ false → list_any (nat_eq p) ops ≡ true
    → list_any (nat_eq o) (p ∷ []) ≡ false
another ops o p h g = by (nat_eq o p) refl
  where
    by : (b : Bool) → nat_eq o p ≡ b → (b || false) ≡ false
    by true e = absurd (true≢false (sym g ∙ ap (λ q. list_any (nat_eq q) ops) (sym (eq_true o p e)) ∙ h))
    by false e = refl

-- what a head makes of the oldest
oldest_head : (ops : List ℕ) (w b : Bool) (op k : ℕ) (ws : List Waiting) (x : Bool) → x ≡ w → is_of ops (waiting op k) ≡ b
    → oldest ops ((if x then waiting op k ∷ [] else []) ++ ws) ≡ (if w && b then Some k else oldest ops ws)
oldest_head ops true true op k ws x e h =
    ap (λ c. oldest ops ((if c then waiting op k ∷ [] else []) ++ ws)) e ∙ ap (λ c. if c then Some k else oldest ops ws) h
oldest_head ops true false op k ws x e h =
    ap (λ c. oldest ops ((if c then waiting op k ∷ [] else []) ++ ws)) e ∙ ap (λ c. if c then Some k else oldest ops ws) h
oldest_head ops false b op k ws x e h = ap (λ c. oldest ops ((if c then waiting op k ∷ [] else []) ++ ws)) e

later_number : (n k p : ℕ) → n ≡ suc k + p → n ≡ k + suc p
later_number n k p h = omega arith

pub found_from : (gone : List ℕ) (s : ℕ) (ops : List ℕ) (k : ℕ) (ms : List Message) (n : ℕ)
    → oldest ops (waiting_from gone s k ms) ≡ Some n → Found gone s ops k ms n
found_from gone s ops k [] n h = absurd (none_not_some n h)
found_from gone s ops k (m ∷ ms) n h =
    by (found_from gone s ops (suc k) ms n) (nat_eq s m.session && not (list_any (nat_eq k) gone)) (list_any (nat_eq m.op) ops) refl refl
  where
    ws : List Waiting
    ws = waiting_from gone s (suc k) ms

    later : Found gone s ops (suc k) ms n
        → ((op : ℕ) → list_any (nat_eq op) ops ≡ true → first (numbers_without gone (λ x. nat_eq s x.session && list_any (nat_eq x.op) (op ∷ [])) k (m ∷ ms)) ≡ first (numbers_without gone (λ x. nat_eq s x.session && list_any (nat_eq x.op) (op ∷ [])) (suc k) ms))
        → Found gone s ops k (m ∷ ms) n
    later f passed =
        record {
          place = suc f.place;
          number = later_number n k f.place f.number;
          message = f.message;
          there = f.there;
          went = f.went;
          asked = f.asked;
          alone = passed f.message.op f.asked ∙ f.alone;
        }

    by : (oldest ops ws ≡ Some n → Found gone s ops (suc k) ms n)
        → (w b : Bool) → (nat_eq s m.session && not (list_any (nat_eq k) gone)) ≡ w → list_any (nat_eq m.op) ops ≡ b
        → Found gone s ops k (m ∷ ms) n
    by next true true e f =
        let is_k : k ≡ n = same_of k n (sym (oldest_head ops true true m.op k ws _ e f) ∙ h) in
        record {
          place = 0;
          number = omega arith;
          message = m;
          there = refl;
          went = both_left (nat_eq s m.session) (not (list_any (nat_eq k) gone)) e;
          asked = f;
          alone =
              first_here (nat_eq s m.session) (list_any (nat_eq m.op) (m.op ∷ [])) (list_any (nat_eq k) gone) k
              (numbers_without gone (λ x. nat_eq s x.session && list_any (nat_eq x.op) (m.op ∷ [])) (suc k) ms)
              e
              (ap (λ c. c || false) (itself m.op))
              ∙ ap Some is_k;
        }
    by next true false e f =
        later (next (sym (oldest_head ops true false m.op k ws _ e f) ∙ h))
        (λ op asked. first_other (nat_eq s m.session) (list_any (nat_eq m.op) (op ∷ [])) (list_any (nat_eq k) gone) k
        (numbers_without gone (λ x. nat_eq s x.session && list_any (nat_eq x.op) (op ∷ [])) (suc k) ms) (another ops m.op op f asked))
    by next false b e f =
        later (next (sym (oldest_head ops false b m.op k ws _ e f) ∙ h))
        (λ op asked. first_after (nat_eq s m.session) (list_any (nat_eq m.op) (op ∷ [])) (list_any (nat_eq k) gone) k
        (numbers_without gone (λ x. nat_eq s x.session && list_any (nat_eq x.op) (op ∷ [])) (suc k) ms) e)

-- ---- once it is taken

-- the head of what waits for a session
abbrev head : Bool → Bool → ℕ → ℕ → List Waiting
head a g op k = if a && not g then waiting op k ∷ [] else []

-- whether a message is among those taken, once n is
pub gone_more : (gone : List ℕ) (k n : ℕ) → list_any (nat_eq k) (gone ++ n ∷ []) ≡ (list_any (nat_eq k) gone || (nat_eq k n || false))
gone_more gone k n = list_any-append (nat_eq k) gone (n ∷ [])

pub or_off : (g x : Bool) → x ≡ false → (g || (x || false)) ≡ g
or_off true x h = refl
or_off false x h = ap (λ c. c || false) h

pub or_on : (g x : Bool) → x ≡ true → (g || (x || false)) ≡ true
or_on true x h = refl
or_on false x h = ap (λ c. c || false) h

-- another number that is taken leaves the head
head_stays : (gone : List ℕ) (s op session k n : ℕ) → k ≢ n
    → head (nat_eq s session) (list_any (nat_eq k) (gone ++ n ∷ [])) op k ≡ head (nat_eq s session) (list_any (nat_eq k) gone) op k
head_stays gone s op session k n h =
    ap (λ g. head (nat_eq s session) g op k) (gone_more gone k n ∙ or_off (list_any (nat_eq k) gone) (nat_eq k n) (not_eq k n h))

-- a number below all of them
below_from : (gone : List ℕ) (s k j : ℕ) (ms : List Message) → j < k → waiting_from (gone ++ j ∷ []) s k ms ≡ waiting_from gone s k ms
below_from gone s k j [] h = refl
below_from gone s k j (m ∷ ms) h =
    let apart : k ≢ j = λ e. below_not k j h e in
    let less : j < suc k = omega arith in
    λ i. head_stays gone s m.op m.session k j apart i ++ below_from gone s (suc k) j ms less i
  where
    below_not : (k j : ℕ) → j < k → k ≡ j → ⊥
    below_not k j h e = omega arith

later_not : (n k p : ℕ) → n ≡ suc k + p → k ≢ n
later_not n k p h e = omega arith

-- what waits for the session is what waited, without the oldest
pub left_from : (gone : List ℕ) (s : ℕ) (ops : List ℕ) (k : ℕ) (ms : List Message) (n : ℕ)
    → oldest ops (waiting_from gone s k ms) ≡ Some n
    → waiting_from (gone ++ n ∷ []) s k ms ≡ without_oldest ops (waiting_from gone s k ms)
left_from gone s ops k [] n h = refl
left_from gone s ops k (m ∷ ms) n h =
    by (left_from gone s ops (suc k) ms n) (nat_eq s m.session && not (list_any (nat_eq k) gone)) (list_any (nat_eq m.op) ops) refl refl
  where
    ws : List Waiting
    ws = waiting_from gone s (suc k) ms

    taken_head : (a g x : Bool) → x ≡ true → head a (g || (x || false)) m.op k ≡ []
    taken_head true g x e = ap (λ c. head true c m.op k) (or_on g x e)
    taken_head false g x e = refl

    unwaiting : (a g x : Bool) → (a && not g) ≡ false → head a (g || x) m.op k ≡ []
    unwaiting true true x e = refl
    unwaiting true false x e = absurd (true≢false e)
    unwaiting false g x e = refl

    by : (oldest ops ws ≡ Some n → waiting_from (gone ++ n ∷ []) s (suc k) ms ≡ without_oldest ops ws)
        → (w b : Bool) → (nat_eq s m.session && not (list_any (nat_eq k) gone)) ≡ w → list_any (nat_eq m.op) ops ≡ b
        → waiting_from (gone ++ n ∷ []) s k (m ∷ ms) ≡ without_oldest ops (waiting_from gone s k (m ∷ ms))
    by next true true e f =
        let is_k : k ≡ n = same_of k n (sym (oldest_head ops true true m.op k ws _ e f) ∙ h) in
        let less : n < suc k = omega arith in
        let heads : head (nat_eq s m.session) (list_any (nat_eq k) (gone ++ n ∷ [])) m.op k ≡ [] =
        ap (λ g. head (nat_eq s m.session) g m.op k) (gone_more gone k n)
        ∙ taken_head (nat_eq s m.session) (list_any (nat_eq k) gone) (nat_eq k n) (ap (nat_eq k) (sym is_k) ∙ itself k) in
        let joined : waiting_from (gone ++ n ∷ []) s k (m ∷ ms) ≡ ws = λ i. heads i ++ below_from gone s (suc k) n ms less i in
        joined
        ∙ sym (ap (λ c. without_oldest ops ((if c then waiting m.op k ∷ [] else []) ++ ws)) e
        ∙ ap (λ c. if c then ws else waiting m.op k ∷ without_oldest ops ws) f)
    by next true false e f =
        let rest : oldest ops ws ≡ Some n = sym (oldest_head ops true false m.op k ws _ e f) ∙ h in
        let found : Found gone s ops (suc k) ms n = found_from gone s ops (suc k) ms n rest in
        let heads : head (nat_eq s m.session) (list_any (nat_eq k) (gone ++ n ∷ [])) m.op k ≡ waiting m.op k ∷ [] =
        head_stays gone s m.op m.session k n (later_not n k found.place found.number)
        ∙ ap (λ c. if c then waiting m.op k ∷ [] else []) e in
        let joined : waiting_from (gone ++ n ∷ []) s k (m ∷ ms) ≡ waiting m.op k ∷ without_oldest ops ws =
        λ i. heads i ++ next rest i in
        joined
        ∙ sym (ap (λ c. without_oldest ops ((if c then waiting m.op k ∷ [] else []) ++ ws)) e
        ∙ ap (λ c. if c then ws else waiting m.op k ∷ without_oldest ops ws) f)
    by next false b e f =
        let rest : oldest ops ws ≡ Some n = sym (oldest_head ops false b m.op k ws _ e f) ∙ h in
        let heads : head (nat_eq s m.session) (list_any (nat_eq k) (gone ++ n ∷ [])) m.op k ≡ [] =
        ap (λ g. head (nat_eq s m.session) g m.op k) (gone_more gone k n)
        ∙ unwaiting (nat_eq s m.session) (list_any (nat_eq k) gone) (nat_eq k n || false) e in
        let joined : waiting_from (gone ++ n ∷ []) s k (m ∷ ms) ≡ without_oldest ops ws =
        λ i. heads i ++ next rest i in
        joined
        ∙ sym (ap (λ c. without_oldest ops ((if c then waiting m.op k ∷ [] else []) ++ ws)) e)

-- what waits for another session stays
pub others_from : (gone : List ℕ) (s t : ℕ) (ops : List ℕ) (k : ℕ) (ms : List Message) (n : ℕ)
    → t ≢ s → oldest ops (waiting_from gone s k ms) ≡ Some n → waiting_from (gone ++ n ∷ []) t k ms ≡ waiting_from gone t k ms
others_from gone s t ops k [] n d h = refl
others_from gone s t ops k (m ∷ ms) n d h =
    by (others_from gone s t ops (suc k) ms n d) (nat_eq s m.session && not (list_any (nat_eq k) gone)) (list_any (nat_eq m.op) ops) refl refl
  where
    ws : List Waiting
    ws = waiting_from gone s (suc k) ms

    later : (oldest ops ws ≡ Some n → waiting_from (gone ++ n ∷ []) t (suc k) ms ≡ waiting_from gone t (suc k) ms)
        → oldest ops ws ≡ Some n → waiting_from (gone ++ n ∷ []) t k (m ∷ ms) ≡ waiting_from gone t k (m ∷ ms)
    later next rest =
        let found : Found gone s ops (suc k) ms n = found_from gone s ops (suc k) ms n rest in
        λ i. head_stays gone t m.op m.session k n (later_not n k found.place found.number) i
        ++ next rest i

    by : (oldest ops ws ≡ Some n → waiting_from (gone ++ n ∷ []) t (suc k) ms ≡ waiting_from gone t (suc k) ms)
        → (w b : Bool) → (nat_eq s m.session && not (list_any (nat_eq k) gone)) ≡ w → list_any (nat_eq m.op) ops ≡ b
        → waiting_from (gone ++ n ∷ []) t k (m ∷ ms) ≡ waiting_from gone t k (m ∷ ms)
    by next true true e f =
        let is_k : k ≡ n = same_of k n (sym (oldest_head ops true true m.op k ws _ e f) ∙ h) in
        let less : n < suc k = omega arith in
        let here : s ≡ m.session = eq_true s m.session (both_left (nat_eq s m.session) (not (list_any (nat_eq k) gone)) e) in
        let elsewhere : nat_eq t m.session ≡ false = not_eq t m.session (λ q. d (q ∙ sym here)) in
        let heads : head (nat_eq t m.session) (list_any (nat_eq k) (gone ++ n ∷ [])) m.op k ≡ head (nat_eq t m.session) (list_any (nat_eq k) gone) m.op k =
        ap (λ a. head a (list_any (nat_eq k) (gone ++ n ∷ [])) m.op k) elsewhere
        ∙ sym (ap (λ a. head a (list_any (nat_eq k) gone) m.op k) elsewhere) in
        λ i. heads i ++ below_from gone t (suc k) n ms less i
    by next true false e f = later next (sym (oldest_head ops true false m.op k ws _ e f) ∙ h)
    by next false b e f = later next (sym (oldest_head ops false b m.op k ws _ e f) ∙ h)
