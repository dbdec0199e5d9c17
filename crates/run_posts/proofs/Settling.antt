-- Answers are collected as far as they are there, each once; that changes no answer.
use Rattle.std.proofs.Common.{◌≡◌, ℕ, true, false, ◌||◌, List, [], ◌∷◌, ◌++◌, map, refl, sym, ap, subst, ◌∙◌}
use Rattle.std.proofs.Common.{Option, None, Some}
use Rattle.std.specs.Prelude.{nat_eq, flat_map}
use Rattle.std.specs.List.{list_all, list_any, cons_option}
use Rattle.behaviour_tree.specs.declared.words.Outcome.{Outcome}
use Rattle.office_core.specs.declared.history.Act.TheVariants as act
use Rattle.office_core.specs.declared.history.Entry.{Entry}
use Rattle.office_core.specs.Limits.{Setting, first_worker}
use Rattle.office_core.specs.Past.{Past}
use Rattle.office_core.specs.Keys.{first}
use Rattle.office_core.specs.Accepted.{then_one, then_all}
use Rattle.office_core.specs.Answers.{answers}
use Rattle.office_core.specs.Legal.{is_collectable}
use Rattle.office_plain.specs.Entries.{collect_entry}
use Rattle.run_order_laws.specs.Uncollected.{AreUncollected}
use Rattle.run_order_laws.proofs.Lists.{false_left, false_right, any_append, append_nil, append_assoc, all_append}
use Rattle.run_order_laws.proofs.Staying.{adds_none, answers_same_all}
use Rattle.run_order_laws.proofs.Accepting.{all_uncollected_still, uncollected_still, others_of, collectable}
use Rattle.run_cells.specs.RunStates.{State, Stays, list_of, past_in}
use Rattle.run_posts.specs.declared.pending.CallState.{CallState}
use Rattle.run_posts.specs.declared.pending.CallState.TheVariants.{Message, Known}
use Rattle.run_posts.specs.declared.pending.Pending.{Pending}
use Rattle.run_posts.specs.CallStates.{Wait, message_in, messages_in, messages_of, collection, collected, collected_in}
use Rattle.run_posts.specs.CallStates.{all_collected, settled_by, settled, settled_in, wait_of}
use Rattle.run_posts.proofs.Added.{IsSame, itself, same_then, past_stays}

-- ---- an answer is collected

-- the entry of a collection
abbrev pub collect_of : ℕ → Outcome → Entry
collect_of n o = record { actor = first_worker; act = act.Collect n o }

any_middle : (x n : ℕ) (front back : List ℕ) → list_any (nat_eq x) (front ++ n ∷ back) ≡ false
    → (nat_eq x n ≡ false) × (list_any (nat_eq x) (front ++ back) ≡ false)
any_middle x n [] back h =
    (false_left (nat_eq x n) (list_any (nat_eq x) back) h, false_right (nat_eq x n) (list_any (nat_eq x) back) h)
any_middle x n (y ∷ front) back h =
    let rest : (nat_eq x n ≡ false) × (list_any (nat_eq x) (front ++ back) ≡ false) =
    any_middle x n front back (false_right (nat_eq x y) (list_any (nat_eq x) (front ++ n ∷ back)) h) in (
      rest.0,
      (λ i. false_left (nat_eq x y) (list_any (nat_eq x) (front ++ n ∷ back)) h i
          || list_any (nat_eq x) (front ++ back))
          ∙ rest.1,
    )

-- the others stay to be collected
collect_middle : (w : Setting) (past : Past) (n : ℕ) (o : Outcome) (front back : List ℕ)
    → AreUncollected past (front ++ n ∷ back) → AreUncollected (then_one w past (collect_of n o)) (front ++ back)
collect_middle w past n o [] back h = all_uncollected_still w past (collect_of n o) back (others_of n o back h.1) h.2
collect_middle w past n o (x ∷ front) back h =
    let apart : (nat_eq x n ≡ false) × (list_any (nat_eq x) (front ++ back) ≡ false) = any_middle x n front back h.1 in
    (uncollected_still w past (collect_of n o) x apart.0 h.0, apart.1, collect_middle w past n o front back h.2)

-- ---- the answers of calls are collected

none_collection : (n : ℕ) (o : Option Outcome) → list_all adds_none (collection n o) ≡ true
none_collection n None = refl
none_collection n (Some o) = refl

none_collected : (w : Setting) (past : Past) (f : CallState) → list_all adds_none (collected w past f) ≡ true
none_collected w past (Message n) = none_collection n (first (answers w past n))
none_collected w past (Known o) = refl

-- these entries answer nothing
pub none_in : (w : Setting) (past : Past) (call_states : List CallState) → list_all adds_none (collected_in w past call_states) ≡ true
none_in w past [] = refl
none_in w past (f ∷ call_states) =
    all_append adds_none (collected w past f) (collected_in w past call_states) (none_collected w past f)
    (none_in w past call_states)

pub none_of_all : (w : Setting) (past : Past) (xs : List Wait) → list_all adds_none (all_collected w past xs) ≡ true
none_of_all w past [] = refl
none_of_all w past (x ∷ xs) =
    all_append adds_none (collected_in w past x.call_states) (all_collected w past xs) (none_in w past x.call_states)
    (none_of_all w past xs)

-- where answers are the same, so is what is collected
collected_alike : (w : Setting) (past now : Past) → ((n : ℕ) → answers w now n ≡ answers w past n) → (f : CallState)
    → collected w now f ≡ collected w past f
collected_alike w past now same (Message n) = ap (λ os. collection n (first os)) (same n)
collected_alike w past now same (Known o) = refl

settled_alike : (w : Setting) (past now : Past) → ((n : ℕ) → answers w now n ≡ answers w past n) → (f : CallState)
    → settled w now f ≡ settled w past f
settled_alike w past now same (Message n) = ap (λ os. settled_by n (first os)) (same n)
settled_alike w past now same (Known o) = refl

then_all_append : (w : Setting) (past : Past) (es more : List Entry)
    → then_all w past (es ++ more) ≡ then_all w (then_all w past es) more
then_all_append w past [] more = refl
then_all_append w past (e ∷ es) more = then_all_append w (then_one w past e) es more

-- what is to be collected behind that of a call
collect_one : (w : Setting) (past now : Past) (front rest : List ℕ) (n : ℕ) (o : Option Outcome)
    → AreUncollected now (front ++ n ∷ rest)
    → AreUncollected (then_all w now (collection n o)) (front ++ cons_option (message_in (settled_by n o)) rest)
collect_one w past now front rest n None h = h
collect_one w past now front rest n (Some o) h = collect_middle w now n o front rest h

collect_call_state : (w : Setting) (past now : Past) (front rest : List ℕ) (f : CallState)
    → AreUncollected now (front ++ cons_option (message_in f) rest)
    → AreUncollected (then_all w now (collected w past f)) (front ++ cons_option (message_in (settled w past f)) rest)
collect_call_state w past now front rest (Message n) h = collect_one w past now front rest n (first (answers w past n)) h
collect_call_state w past now front rest (Known o) h = h

moved : (o : Option ℕ) (front rest : List ℕ) → front ++ cons_option o rest ≡ (front ++ cons_option o []) ++ rest
moved None front rest = ap (λ l. l ++ rest) (sym (append_nil front))
moved (Some n) front rest = sym (append_assoc front (n ∷ []) rest)

-- what is to be collected behind that of calls
pub collect_call_states : (w : Setting) (past now : Past) (front : List ℕ) (call_states : List CallState) (back : List ℕ)
    → AreUncollected now (front ++ (messages_in call_states ++ back))
    → AreUncollected (then_all w now (collected_in w past call_states))
    (front ++ (messages_in (map (settled w past) call_states) ++ back))
collect_call_states w past now front [] back h = h
collect_call_states w past now front (f ∷ call_states) back h =
    subst (λ p. AreUncollected p (front ++ (messages_in (map (settled w past) (f ∷ call_states)) ++ back)))
    (sym (then_all_append w now (collected w past f) (collected_in w past call_states)))
    (subst (AreUncollected (then_all w (then_all w now (collected w past f)) (collected_in w past call_states)))
    (sym (shape (settled w past f) (messages_in (map (settled w past) call_states))))
    (collect_call_states w past (then_all w now (collected w past f)) (front
    ++ cons_option (message_in (settled w past f)) [])
    call_states back
    (subst (AreUncollected (then_all w now (collected w past f)))
    (moved (message_in (settled w past f)) front (messages_in call_states ++ back))
    (collect_call_state w past now front (messages_in call_states ++ back) f
    (subst (AreUncollected now) (shape_old (message_in f) (messages_in call_states)) h)))))
  where
    shape_old : (o : Option ℕ) (ns : List ℕ) → front ++ (cons_option o ns ++ back) ≡ front ++ cons_option o (ns ++ back)
    shape_old None ns = refl
    shape_old (Some n) ns = refl

    shape : (g : CallState) (ns : List ℕ)
        → front ++ (cons_option (message_in g) ns ++ back) ≡ (front ++ cons_option (message_in g) []) ++ (ns ++ back)
    shape g ns = shape_old (message_in g) ns ∙ moved (message_in g) front (ns ++ back)

-- what is to be collected behind that of postings
pub collect_waits : (w : Setting) (past now : Past) (front : List ℕ) (xs : List Wait)
    → AreUncollected now (front ++ messages_of xs)
    → AreUncollected (then_all w now (all_collected w past xs)) (front ++ messages_of (map (settled_in w past) xs))
collect_waits w past now front [] h = h
collect_waits w past now front (x ∷ xs) h =
    subst (λ p. AreUncollected p (front ++ messages_of (map (settled_in w past) (x ∷ xs))))
    (sym (then_all_append w now (collected_in w past x.call_states) (all_collected w past xs)))
    (subst (AreUncollected (then_all w (then_all w now (collected_in w past x.call_states)) (all_collected w past xs)))
    (append_assoc front (messages_in (map (settled w past) x.call_states)) (messages_of (map (settled_in w past) xs)))
    (collect_waits w past (then_all w now (collected_in w past x.call_states))
    (front ++ messages_in (map (settled w past) x.call_states)) xs
    (subst (AreUncollected (then_all w now (collected_in w past x.call_states)))
    (sym (append_assoc front (messages_in (map (settled w past) x.call_states)) (messages_of xs)))
    (collect_call_states w past now front x.call_states (messages_of xs) h))))

-- ---- where the loops stand

uncollected_front : (past : Past) (xs ys : List ℕ) → AreUncollected past (xs ++ ys) → AreUncollected past xs
uncollected_front past [] ys h = tt
uncollected_front past (x ∷ xs) ys h = (
  h.0,
  false_left (list_any (nat_eq x) xs) (list_any (nat_eq x) ys) (sym (any_append (nat_eq x) xs ys) ∙ h.1),
  uncollected_front past xs ys h.2,
)

uncollected_rest : (past : Past) (xs ys : List ℕ) → AreUncollected past (xs ++ ys) → AreUncollected past ys
uncollected_rest past [] ys h = h
uncollected_rest past (x ∷ xs) ys h = uncollected_rest past xs ys h.2

-- the first of what is to be collected
pub head_of : (past : Past) (f : CallState) (call_states : List CallState)
    → AreUncollected past (messages_in (f ∷ call_states)) → AreUncollected past (messages_in (f ∷ []))
head_of past (Message n) call_states h = (h.0, refl, tt)
head_of past (Known o) call_states h = tt

pub front_of : (past : Past) (x : Wait) (xs : List Wait)
    → AreUncollected past (messages_of (x ∷ xs)) → AreUncollected past (messages_in x.call_states)
front_of past x xs h = uncollected_front past (messages_in x.call_states) (messages_of xs) h

-- it can be collected
pub collects_it : (past : Past) (n : ℕ) → AreUncollected past (messages_in (Message n ∷ []))
    → is_collectable past first_worker n ≡ true
collects_it past n h = collectable past n h.0

-- Of calls the answers are collected, but for those of the last ones.
pub record IsSettling (old now : State) (all left done : List CallState) : Type 0 where
  pub same : IsSame old now
  pub history : now.history ++ collected_in old.setting (past_in old) left
      ≡ old.history ++ collected_in old.setting (past_in old) all
  pub call_states : done ++ map (settled old.setting (past_in old)) left ≡ map (settled old.setting (past_in old)) all
  pub answers : (n : ℕ) → answers old.setting (past_in now) n ≡ answers old.setting (past_in old) n
  pub open_yet : AreUncollected (past_in now) (messages_in left)

pub settling_starts : (s : State) (call_states : List CallState) → AreUncollected (past_in s) (messages_in call_states)
    → IsSettling s s call_states call_states []
settling_starts s call_states h = record { same = itself s; history = refl; call_states = refl; answers = λ n. refl; open_yet = h }

-- what happened so far, in the setting of before
past_now : (old mid new : State) (more : List Entry) → IsSame old mid → Stays mid new more
    → past_in new ≡ then_all old.setting (past_in mid) more
past_now old mid new more same s = past_stays mid new more s ∙ ap (λ w. then_all w (past_in mid) more) same.setting

pub settling_turn : (old mid new : State) (call_states left done : List CallState) (f now : CallState)
    → Stays mid new (collected mid.setting (past_in mid) f) → now ≡ settled mid.setting (past_in mid) f
    → IsSettling old mid call_states (f ∷ left) done → IsSettling old new call_states left (done ++ now ∷ [])
settling_turn old mid new call_states left done f now s is p = record {
  same = same_then old mid new (collected mid.setting (past_in mid) f) p.same s;
  history =
      ap (λ h. h ++ collected_in old.setting (past_in old) left) (s.history ∙ ap (λ es. mid.history ++ es) entries)
      ∙ append_assoc mid.history (collected old.setting (past_in old) f) (collected_in old.setting (past_in old) left)
      ∙ p.history;
  call_states =
      ap (λ g. (done ++ g ∷ []) ++ map (settled old.setting (past_in old)) left) (is ∙ call_state)
      ∙ append_assoc done (settled old.setting (past_in old) f ∷ []) (map (settled old.setting (past_in old)) left)
      ∙ p.call_states;
  answers = λ n.
      ap (λ q. answers old.setting q n) come
      ∙ answers_same_all old.setting (past_in mid) (collected old.setting (past_in old) f)
      (none_collected old.setting (past_in old) f) n
      ∙ p.answers n;
  open_yet =
      subst (λ q. AreUncollected q (messages_in left)) (sym come)
      (uncollected_rest (then_all old.setting (past_in mid) (collected old.setting (past_in old) f))
      (cons_option (message_in (settled old.setting (past_in old) f)) []) (messages_in left)
      (subst (AreUncollected (then_all old.setting (past_in mid) (collected old.setting (past_in old) f)))
      (moved (message_in (settled old.setting (past_in old) f)) [] (messages_in left))
      (collect_call_state old.setting (past_in old) (past_in mid) [] (messages_in left) f p.open_yet)));
}
  where
    entries : collected mid.setting (past_in mid) f ≡ collected old.setting (past_in old) f
    entries =
        ap (λ w. collected w (past_in mid) f) p.same.setting
        ∙ collected_alike old.setting (past_in old) (past_in mid) p.answers f

    call_state : settled mid.setting (past_in mid) f ≡ settled old.setting (past_in old) f
    call_state =
        ap (λ w. settled w (past_in mid) f) p.same.setting
        ∙ settled_alike old.setting (past_in old) (past_in mid) p.answers f

    come : past_in new ≡ then_all old.setting (past_in mid) (collected old.setting (past_in old) f)
    come =
        past_now old mid new (collected mid.setting (past_in mid) f) p.same s
        ∙ ap (then_all old.setting (past_in mid)) entries

-- the same of what stands in memory
pub settling_pushed : (old mid new : State) (all before rest done now : List CallState) (f g : CallState) → before ≡ f ∷ rest
    → now ≡ done ++ g ∷ [] → Stays mid new (collected mid.setting (past_in mid) f)
    → g ≡ settled mid.setting (past_in mid) f → IsSettling old mid all before done → IsSettling old new all rest now
settling_pushed old mid new all before rest done now f g steps pushed s is h =
    subst (IsSettling old new all rest) (sym pushed)
    (settling_turn old mid new all rest done f g s is (subst (λ l. IsSettling old mid all l done) steps h))

pub settling_added : (old now : State) (call_states done : List CallState) → IsSettling old now call_states [] done
    → Stays old now (collected_in old.setting (past_in old) call_states)
settling_added old now call_states done p = record {
  setting = p.same.setting;
  budget = p.same.budget;
  history = sym (append_nil now.history) ∙ p.history;
  stands = p.same.stands;
  picks = p.same.picks;
}

pub settling_call_states : (old now : State) (call_states done : List CallState) → IsSettling old now call_states [] done
    → done ≡ map (settled old.setting (past_in old)) call_states
settling_call_states old now call_states done p = sym (append_nil done) ∙ p.call_states

-- ---- the same of postings

-- Of postings the answers are collected, but for those of the last ones.
pub record IsGathering (old now : State) (all left done : List Wait) : Type 0 where
  pub same : IsSame old now
  pub history : now.history ++ all_collected old.setting (past_in old) left
      ≡ old.history ++ all_collected old.setting (past_in old) all
  pub waits : done ++ map (settled_in old.setting (past_in old)) left ≡ map (settled_in old.setting (past_in old)) all
  pub answers : (n : ℕ) → answers old.setting (past_in now) n ≡ answers old.setting (past_in old) n
  pub open_yet : AreUncollected (past_in now) (messages_of left)

pub gathering_starts : (s : State) (xs : List Wait) → AreUncollected (past_in s) (messages_of xs)
    → IsGathering s s xs xs []
gathering_starts s xs h = record { same = itself s; history = refl; waits = refl; answers = λ n. refl; open_yet = h }

map_alike : {A B : Type 0} (f g : A → B) → ((x : A) → f x ≡ g x) → (xs : List A) → map f xs ≡ map g xs
map_alike f g same [] = refl
map_alike f g same (x ∷ xs) = λ i. same x i ∷ map_alike f g same xs i

flat_map_alike : {A B : Type 0} (f g : A → List B) → ((x : A) → f x ≡ g x) → (xs : List A)
    → flat_map f xs ≡ flat_map g xs
flat_map_alike f g same [] = refl
flat_map_alike f g same (x ∷ xs) = λ i. same x i ++ flat_map_alike f g same xs i

pub gathering_turn : (old mid new : State) (xs left done : List Wait) (x y : Wait)
    → Stays mid new (collected_in mid.setting (past_in mid) x.call_states)
    → y ≡ settled_in mid.setting (past_in mid) x
    → IsGathering old mid xs (x ∷ left) done → IsGathering old new xs left (done ++ y ∷ [])
gathering_turn old mid new xs left done x y s is p = record {
  same = same_then old mid new (collected_in mid.setting (past_in mid) x.call_states) p.same s;
  history =
      ap (λ h. h ++ all_collected old.setting (past_in old) left) (s.history ∙ ap (λ es. mid.history ++ es) entries)
      ∙ append_assoc mid.history (collected_in old.setting (past_in old) x.call_states)
      (all_collected old.setting (past_in old) left)
      ∙ p.history;
  waits =
      ap (λ g. (done ++ g ∷ []) ++ map (settled_in old.setting (past_in old)) left) (is ∙ wait)
      ∙ append_assoc done (settled_in old.setting (past_in old) x ∷ [])
      (map (settled_in old.setting (past_in old)) left)
      ∙ p.waits;
  answers = λ n.
      ap (λ q. answers old.setting q n) come
      ∙ answers_same_all old.setting (past_in mid) (collected_in old.setting (past_in old) x.call_states)
      (none_in old.setting (past_in old) x.call_states) n
      ∙ p.answers n;
  open_yet =
      subst (λ q. AreUncollected q (messages_of left)) (sym come)
      (uncollected_rest (then_all old.setting (past_in mid) (collected_in old.setting (past_in old) x.call_states))
      (messages_in (map (settled old.setting (past_in old)) x.call_states)) (messages_of left)
      (collect_call_states old.setting (past_in old) (past_in mid) [] x.call_states (messages_of left) p.open_yet));
}
  where
    entries : collected_in mid.setting (past_in mid) x.call_states ≡ collected_in old.setting (past_in old) x.call_states
    entries =
        ap (λ w. collected_in w (past_in mid) x.call_states) p.same.setting
        ∙ flat_map_alike (collected old.setting (past_in mid)) (collected old.setting (past_in old))
        (collected_alike old.setting (past_in old) (past_in mid) p.answers) x.call_states

    wait : settled_in mid.setting (past_in mid) x ≡ settled_in old.setting (past_in old) x
    wait =
        ap (λ w. settled_in w (past_in mid) x) p.same.setting
        ∙ (λ i. record {
          place = x.place;
          call_states = map_alike (settled old.setting (past_in mid)) (settled old.setting (past_in old))
              (settled_alike old.setting (past_in old) (past_in mid) p.answers) x.call_states i;
        })

    come : past_in new ≡ then_all old.setting (past_in mid) (collected_in old.setting (past_in old) x.call_states)
    come =
        past_now old mid new (collected_in mid.setting (past_in mid) x.call_states) p.same s
        ∙ ap (then_all old.setting (past_in mid)) entries

-- the same of what stands in memory
pub gathering_pushed : (old mid new : State) (all : List Wait) (p : Pending) (before rest done now : List Pending)
    (q : Pending)
    → before ≡ p ∷ rest → q.place ≡ p.place → Stays mid new (collected_in mid.setting (past_in mid) p.call_states.items)
    → q.call_states.items ≡ map (settled mid.setting (past_in mid)) p.call_states.items → now ≡ done ++ q ∷ []
    → IsGathering old mid all (map wait_of before) (map wait_of done)
    → IsGathering old new all (map wait_of rest) (map wait_of now)
gathering_pushed old mid new all p before rest done now q steps place s call_states pushed g =
    subst (IsGathering old new all (map wait_of rest)) (sym (ap (map wait_of) pushed ∙ map_more done))
    (gathering_turn old mid new all (map wait_of rest) (map wait_of done) (wait_of p) (wait_of q) s
    (λ i. record { place = place i; call_states = call_states i })
    (subst (λ (l : List Pending). IsGathering old mid all (map wait_of l) (map wait_of done)) steps g))
  where
    map_more : (xs : List Pending) → map wait_of (xs ++ q ∷ []) ≡ map wait_of xs ++ wait_of q ∷ []
    map_more [] = refl
    map_more (x ∷ xs) = ap (λ l. wait_of x ∷ l) (map_more xs)

pub gathering_added : (old now : State) (xs done : List Wait) → IsGathering old now xs [] done
    → Stays old now (all_collected old.setting (past_in old) xs)
gathering_added old now xs done p = record {
  setting = p.same.setting;
  budget = p.same.budget;
  history = sym (append_nil now.history) ∙ p.history;
  stands = p.same.stands;
  picks = p.same.picks;
}

pub gathering_waits : (old now : State) (xs done : List Wait) → IsGathering old now xs [] done
    → done ≡ map (settled_in old.setting (past_in old)) xs
gathering_waits old now xs done p = sym (append_nil done) ∙ p.waits

-- ---- a collection

collection_is : (n : ℕ) (o : Option Outcome) → list_of (collect_entry first_worker n o) ≡ collection n o
collection_is n None = refl
collection_is n (Some o) = refl

-- what a collection adds is what its call adds
pub collected_one : (old new : State) (n : ℕ) (o : Option Outcome) → o ≡ first (answers old.setting (past_in old) n)
    → Stays old new (list_of (collect_entry first_worker n o))
    → Stays old new (collected old.setting (past_in old) (Message n))
collected_one old new n o is s = subst (Stays old new) (collection_is n o ∙ ap (collection n) is) s

-- and so is what becomes of it
pub settled_one : (old : State) (n : ℕ) (o : Option Outcome) → o ≡ first (answers old.setting (past_in old) n)
    → settled_by n o ≡ settled old.setting (past_in old) (Message n)
settled_one old n o is = ap (settled_by n) is
