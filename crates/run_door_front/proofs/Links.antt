-- Connections as they come and go on while nothing is posted.
use Rattle.std.proofs.Common.{◌≡◌, refl, sym, ap, ap₂, ◌∙◌, subst, arith, ℕ, zero, suc, ◌-◌, ◌^◌, ◌<◌, ◌≤◌, Bool, true, false, ◌||◌, List, [], ◌∷◌, ◌++◌, length, Some, slice_get, slice_set, nat_lt}
use Rattle.std.proofs.lemmas.Bool.{and_parts, and_from, lt-ltb, ltb-true, true≢false}
use Rattle.std.proofs.lemmas.Option.{none-some, same_Some}
use Rattle.std.proofs.lemmas.List.Folds.{list_any-append}
use Rattle.std.specs.List.{list_any}
use Rattle.conn_future.specs.declared.stage.Stage.{Stage}
use Rattle.conn_future.specs.declared.stage.Stage.TheVariants as Stages
use Rattle.conn_future.specs.Stages.{IsAtRest}
use Rattle.conn_future.specs.Talking.{IsTalking}
use Rattle.outside_traits.specs.Told.{WireTold}
use Rattle.run_door_front.specs.Keeping.{is_led, Lead, ClientTold, stage_at, most_open}
use Rattle.run_door_front.specs.NextSteps.{came_by, has_room, IsNewClient, AreNewLinks, ClientGoesOn, ClientsGoOn, LinksGoOn}
use Rattle.run_door_front.proofs.Doors.{not_fallen, fallen_further}

-- ---- stages

-- a connection that asks does not owe
pub asks_not_owes : (s : Stage) → s ≡ Stages.Asks → s ≡ Stages.Owes → ⊥
asks_not_owes s e o = let clash : Stages.Asks ≡ Stages.Owes = sym e ∙ o in cc

-- ---- room

-- a Bool that can't be true is false
not_true : (b : Bool) → (b ≡ true → ⊥) → b ≡ false
not_true true h = absurd (h refl)
not_true false h = refl

less : (m n k : ℕ) → m ≤ n → n < k → m < k
less m n k h l = omega arith

-- where there is no more room there is none where more came
pub no_room-more : (most a b o p : ℕ) → a ≤ b → o ≤ p → has_room most a o ≡ false → has_room most b p ≡ false
no_room-more most a b o p more wider none = not_true (has_room most b p) (λ e.
    let both = and_parts (nat_lt b most) (nat_lt p most_open) e in
    true≢false (sym (and_from (nat_lt a most) (nat_lt o most_open)
    (lt-ltb a most (less a b most more (ltb-true b most both.0)))
    (lt-ltb o most_open (less o p most_open wider (ltb-true p most_open both.1)))) ∙ none))

-- ---- new connections

module _ (IsMade : WireTold → Type 0) where
  pub new-append : (leads : List Lead) (ls ms : List ClientTold) → AreNewLinks IsMade leads ls → AreNewLinks IsMade leads ms
      → AreNewLinks IsMade leads (ls ++ ms)
  new-append leads [] ms g h = h
  new-append leads (l ∷ ls) ms g h = (g.0, g.1, new-append leads ls ms g.2 h)

  pub new-among : (ss ts : List Lead) → ((p : Lead → Bool) → list_any p ss ≡ true → list_any p ts ≡ true) → (ls : List ClientTold)
      → AreNewLinks IsMade ss ls → AreNewLinks IsMade ts ls
  new-among ss ts f [] g = tt
  new-among ss ts f (l ∷ ls) g = (f (came_by l) g.0, g.1, new-among ss ts f ls g.2)

-- what is among the first or the last is among all
or_left : (a b : Bool) → a ≡ true → a || b ≡ true
or_left true b e = refl
or_left false b e = absurd (true≢false (sym e))

or_right : (a b : Bool) → b ≡ true → a || b ≡ true
or_right true b e = refl
or_right false b e = e

pub any-left : {A : Type 0} (p : A → Bool) (xs ys : List A) → list_any p xs ≡ true → list_any p (xs ++ ys) ≡ true
any-left p xs ys e = list_any-append p xs ys ∙ or_left (list_any p xs) (list_any p ys) e

pub any-right : {A : Type 0} (p : A → Bool) (xs ys : List A) → list_any p ys ≡ true → list_any p (xs ++ ys) ≡ true
any-right p xs ys e = list_any-append p xs ys ∙ or_right (list_any p xs) (list_any p ys) e

-- ---- connections go on

pub client-same : (l : ClientTold) → ClientGoesOn l l
client-same l = record {
  service = refl;
  pending = refl;
  rests = λ r. refl;
  unowed = λ e. e;
  memory = λ e. e;
  waits = not_fallen l.waits (2 ^ 64 - 1);
  longest = not_fallen l.longest (2 ^ 64 - 1);
  row = λ h. h;
  talks = λ first bodies texts t. t;
}

pub client-further : (l m n : ClientTold) → ClientGoesOn l m → ClientGoesOn m n → ClientGoesOn l n
client-further l m n g h = record {
  service = h.service ∙ g.service;
  pending = h.pending ∙ g.pending;
  rests = λ r. h.rests (subst (λ (x : ClientTold). IsAtRest (stage_at x)) (sym (g.rests r)) r) ∙ g.rests r;
  unowed = λ e. g.unowed (h.unowed e);
  memory = λ e. g.memory (h.memory e);
  waits = fallen_further l.waits m.waits n.waits (2 ^ 64 - 1) g.waits h.waits;
  longest = fallen_further l.longest m.longest n.longest (2 ^ 64 - 1) g.longest h.longest;
  row = λ e. h.row (g.row e);
  talks = λ first bodies texts t. h.talks first bodies texts (g.talks first bodies texts t);
}

pub clients-same : (ls : List ClientTold) → ClientsGoOn ls ls
clients-same [] = tt
clients-same (l ∷ ls) = (client-same l, clients-same ls)

pub clients-further : (ls ms ns : List ClientTold) → ClientsGoOn ls ms → ClientsGoOn ms ns → ClientsGoOn ls ns
clients-further [] [] [] g h = tt
clients-further [] [] (n ∷ ns) g h = h
clients-further [] (m ∷ ms) ns g h = absurd g
clients-further (l ∷ ls) [] ns g h = absurd g
clients-further (l ∷ ls) (m ∷ ms) [] g h = h
clients-further (l ∷ ls) (m ∷ ms) (n ∷ ns) g h = (client-further l m n g.0 h.0, clients-further ls ms ns g.1 h.1)

-- one of them goes on
pub clients-set : (ls : List ClientTold) (k : ℕ) (l m : ClientTold) → slice_get ls k ≡ Some l → ClientGoesOn l m → ClientsGoOn ls (slice_set ls k m)
clients-set [] k l m is g = absurd (none-some l is)
clients-set (x ∷ ls) zero l m is g = (subst (λ y. ClientGoesOn y m) (sym (same_Some x l is)) g, clients-same ls)
clients-set (x ∷ ls) (suc k) l m is g = (client-same x, clients-set ls k l m is g)

pub clients-long : (ls ms : List ClientTold) → ClientsGoOn ls ms → length ms ≡ length ls
clients-long [] [] g = refl
clients-long [] (m ∷ ms) g = absurd g
clients-long (l ∷ ls) [] g = absurd g
clients-long (l ∷ ls) (m ∷ ms) g = ap suc (clients-long ls ms g.1)

-- what stands at a place goes on
pub clients-at : (ls ms : List ClientTold) (k : ℕ) (l : ClientTold) → ClientsGoOn ls ms → slice_get ls k ≡ Some l
    → (m : ClientTold) × (slice_get ms k ≡ Some m) × ClientGoesOn l m
clients-at [] ms k l g is = absurd (none-some l is)
clients-at (x ∷ ls) [] k l g is = absurd g
clients-at (x ∷ ls) (m ∷ ms) zero l g is = (m, refl, subst (λ y. ClientGoesOn y m) (same_Some x l is) g.0)
clients-at (x ∷ ls) (m ∷ ms) (suc k) l g is = clients-at ls ms k l g.1 is

-- what stands at a place went on
pub clients-before : (ls ms : List ClientTold) (k : ℕ) (m : ClientTold) → ClientsGoOn ls ms → slice_get ms k ≡ Some m
    → (l : ClientTold) × (slice_get ls k ≡ Some l) × ClientGoesOn l m
clients-before ls [] k m g is = absurd (none-some m is)
clients-before [] (x ∷ ms) k m g is = absurd g
clients-before (l ∷ ls) (x ∷ ms) zero m g is = (l, refl, subst (ClientGoesOn l) (same_Some x m is) g.0)
clients-before (l ∷ ls) (x ∷ ms) (suc k) m g is = clients-before ls ms k m g.1 is

-- a connection that leads where another does, by the same door, came where that did
came_on : (leads : List Lead) (l m : ClientTold) → m.seen.line.door ≡ l.seen.line.door → m.service ≡ l.service
    → list_any (came_by l) leads ≡ true → list_any (came_by m) leads ≡ true
came_on leads l m door service came = ap₂ (λ d s. list_any (is_led d s) leads) door service ∙ came

module _ (IsMade : WireTold → Type 0) (leads : List Lead) where
  pub links-same : (ls : List ClientTold) → LinksGoOn IsMade leads ls ls
  links-same [] = tt
  links-same (l ∷ ls) = (client-same l, links-same ls)

  -- more connections came
  pub links-more : (ls ms more : List ClientTold) → LinksGoOn IsMade leads ls ms → AreNewLinks IsMade leads more
      → LinksGoOn IsMade leads ls (ms ++ more)
  links-more [] ms more g h = new-append IsMade leads ms more g h
  links-more (l ∷ ls) [] more g h = absurd g
  links-more (l ∷ ls) (m ∷ ms) more g h = (g.0, links-more ls ms more g.1 h)

  -- a new one goes on
  new_on : (m n : ClientTold) → ClientGoesOn m n → IsNewClient IsMade m → IsNewClient IsMade n
  new_on m n g h = record {
    pending = g.pending ∙ h.pending;
    unowed = λ e. h.unowed (g.unowed e);
    memory = λ e. h.memory (g.memory e);
    row = g.row h.row;
    first = h.first;
    made = h.made;
    fresh = h.fresh;
    talks = g.talks h.first [] [] h.talks;
  }

  -- its wire tells the same door
  pub door_on : (m n : ClientTold) → ClientGoesOn m n → IsNewClient IsMade m → n.seen.line.door ≡ m.seen.line.door
  door_on m n g h =
      let before : IsTalking h.first m.seen [] [] = h.talks in
      let after : IsTalking h.first n.seen [] [] = g.talks h.first [] [] h.talks in
      after.talks.door ∙ sym before.talks.door

  news_on : (ms ns : List ClientTold) → ClientsGoOn ms ns → AreNewLinks IsMade leads ms → AreNewLinks IsMade leads ns
  news_on [] [] g h = tt
  news_on [] (n ∷ ns) g h = absurd g
  news_on (m ∷ ms) [] g h = absurd g
  news_on (m ∷ ms) (n ∷ ns) g h = (came_on leads m n (door_on m n g.0 h.1) g.0.service h.0, new_on m n g.0 h.1, news_on ms ns g.1 h.2)

  -- all of them go on
  pub links-on : (ls ms ns : List ClientTold) → LinksGoOn IsMade leads ls ms → ClientsGoOn ms ns → LinksGoOn IsMade leads ls ns
  links-on [] ms ns g h = news_on ms ns h g
  links-on (l ∷ ls) [] ns g h = absurd g
  links-on (l ∷ ls) (m ∷ ms) [] g h = absurd h
  links-on (l ∷ ls) (m ∷ ms) (n ∷ ns) g h = (client-further l m n g.0 h.0, links-on ls ms ns g.1 h.1)

  -- one that was there went on
  pub links-at : (ls ms : List ClientTold) (k : ℕ) (l : ClientTold) → LinksGoOn IsMade leads ls ms → slice_get ls k ≡ Some l
      → (m : ClientTold) × (slice_get ms k ≡ Some m) × ClientGoesOn l m
  links-at [] ms k l g is = absurd (none-some l is)
  links-at (x ∷ ls) [] k l g is = absurd g
  links-at (x ∷ ls) (m ∷ ms) zero l g is = (m, refl, subst (λ y. ClientGoesOn y m) (same_Some x l is) g.0)
  links-at (x ∷ ls) (m ∷ ms) (suc k) l g is = links-at ls ms k l g.1 is
