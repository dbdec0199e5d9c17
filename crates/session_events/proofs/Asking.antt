-- What a place asks for is what its event asks for.
use Rattle.std.proofs.Common.{◌≡◌, Bool, true, false, ℕ, Option, Some, None, refl, sym, ap, ◌∙◌}
use Rattle.std.proofs.lemmas.Bool.{eq-eqb}
use Rattle.std.specs.Prelude.{nat_eq, if◌then◌else◌, option_map}
use Rattle.jolie_trees.specs.Data.{Tree}
use Rattle.jolie_trees.specs.Trees.{void_tree}
use Rattle.jolie_trees.specs.declared.root.Root.{Root}
use Rattle.behaviour_tree.specs.declared.words.Given.{Given}
use Rattle.behaviour_tree.specs.declared.words.Given.TheVariants as given
use Rattle.behaviour_tree.specs.declared.words.Need.{Need}
use Rattle.behaviour_tree.specs.declared.words.Need.TheVariants as need
use Rattle.behaviour_tree.specs.Data as plain
use Rattle.behaviour_tree.specs.Data.{Branches, no_branches, one_way, request, Proc, nothing}
use Rattle.behaviour_tree.specs.Values.{truth_of}
use Rattle.session_calculus.specs.After.{act, changes, tests, turn_of}
use Rattle.session_calculus.specs.Calls.{message_value, notifies, solicits, binds}
use Rattle.session_calculus.specs.Effects.{Effect, faults, stores, effect_of, copied, effect_of_undef, received}
use Rattle.session_calculus.specs.Faults.{binding, fault_of, fault_of_effect, fault_of_missing}
use Rattle.behaviour_tree.specs.FormedBehaviours.{branch_operations}
use Rattle.session_calculus.specs.Inputs.{Coming, comes, goes_on, inputs, past, asked as asked_for}
use Rattle.session_calculus.specs.Moves.{Seen, Move, ungiven, within}
use Rattle.session_calculus.specs.Scopes.{installs, compensates}
use Rattle.session_calculus.specs.Terms.{Term, wait}
use Rattle.session_events.specs.Asked.{asked, one_of, AsksForIt, HasEventAt, HasGift}

-- an event for which nothing is given is that event
ungiven_is : (g : Given) (x m : Move Term) → ◌≡◌ {A = Option (Move Term)} (elim g [ given.Nothing ↦ Some x | _ ↦ None ]) (Some m) → x ≡ m
ungiven_is given.Nothing x m h = cc
ungiven_is (given.Mail a b c) x m h = cc
ungiven_is (given.Answer a) x m h = cc
ungiven_is given.Bound x m h = cc
ungiven_is (given.Held a) x m h = cc
ungiven_is given.Fixed x m h = cc

-- a message comes to this branch, or to a later one
first_need : (b : Bool) (n : Need) (x : Move Term) (o : Option (Move Term)) (m : Move Term) → x.made.need ≡ n → (o ≡ Some m → n ≡ m.made.need)
    → (if b then Some x else o) ≡ Some m → n ≡ m.made.need
first_need true n x o m is rest h = let e : x ≡ m = cc in sym is ∙ ap (λ y. y.made.need) e
first_need false n x o m is rest h = rest h

-- what an event asks for
made_need : (x m : Move Term) → Some x ≡ Some m → x.made.need ≡ m.made.need
made_need x m h = let e : x ≡ m = cc in ap (λ y. y.made.need) e

module _ (s : Seen) where
  its_need : (x m : Move Term) → ungiven s x ≡ Some m → x.made.need ≡ m.made.need
  its_need x m h = ap (λ y. y.made.need) (ungiven_is s.gift x m h)

  changes_need : (e : Effect) (m : Move Term) → changes s e ≡ Some m → need.Nothing ≡ m.made.need
  changes_need (faults f) m h = cc
  changes_need (stores t) m h = its_need _ m h

  tests_need : (b : Option Bool) (p q : Proc) (m : Move Term) → tests s b p q ≡ Some m → need.Nothing ≡ m.made.need
  tests_need None p q m h = cc
  tests_need (Some true) p q m h = its_need _ m h
  tests_need (Some false) p q m h = its_need _ m h

  sends_need : (f : Tree → Move Term) (n : Tree → Need) → ((v : Tree) → (f v).made.need ≡ n v) → (v : Option Tree) (m : Move Term)
      → ◌≡◌ {A = Option (Move Term)} (elim v [ None ↦ None | Some w ↦ ungiven s (f w) ]) (Some m) → option_map n v ≡ Some m.made.need
  sends_need f n is None m h = cc
  sends_need f n is (Some v) m h = ap Some (sym (is v) ∙ its_need (f v) m h)

  binds_need : (v : ℕ) (r : Root) (g : Given) (m : Move Term) → binds (record s { gift = g }) v r ≡ Some m → need.Bind v r ≡ m.made.need
  binds_need v r given.Nothing m h = cc
  binds_need v r (given.Mail a b c) m h = cc
  binds_need v r (given.Answer a) m h = cc
  binds_need v r given.Bound m h = made_need _ m h
  binds_need v r (given.Held t) m h = made_need _ m h
  binds_need v r given.Fixed m h = made_need _ m h

  bind_need : (v : ℕ) (o : Option Root) (m : Move Term) → ◌≡◌ {A = Option (Move Term)} (elim o [ None ↦ None | Some r ↦ binds s v r ]) (Some m) → option_map (need.Bind v) o ≡ Some m.made.need
  bind_need v None m h = cc
  bind_need v (Some r) m h = ap Some (binds_need v r s.gift m h)

  goes_need : (c : Coming) (p : Proc) (e : Effect) → (goes_on s c p e).made.need ≡ need.Take c.ops
  goes_need c p (faults f) = refl
  goes_need c p (stores t) = refl

  comes_need : (c : Coming) (bs : Branches) (m : Move Term) → comes s c bs ≡ Some m → need.Take c.ops ≡ m.made.need
  comes_need c no_branches m h = cc
  comes_need c (one_way o x p bs) m h =
      first_need (nat_eq o c.op) (need.Take c.ops) (goes_on s c p (received s.store x c.value)) (comes s (past c) bs) m
      (goes_need c p (received s.store x c.value)) (comes_need (past c) bs m) h
  comes_need c (request o x y body p bs) m h =
      first_need (nat_eq o c.op) (need.Take c.ops) (within (asked_for c y p) (goes_on s c body (received s.store x c.value))) (comes s (past c) bs) m
      (goes_need c body (received s.store x c.value)) (comes_need (past c) bs m) h

  choice_need : (bs : Branches) (c : Coming) (m : Move Term) → c.ops ≡ branch_operations bs → comes s c bs ≡ Some m → one_of (branch_operations bs) ≡ Some m.made.need
  choice_need no_branches c m is h = cc
  choice_need (one_way o x p bs) c m is h = ap Some (ap need.Take (sym is) ∙ comes_need c (one_way o x p bs) m h)
  choice_need (request o x y body p bs) c m is h = ap Some (ap need.Take (sym is) ∙ comes_need c (request o x y body p bs) m h)

-- the event of a choice asks for a message of its operations
inputs_need : (s : Seen) (g : Given) (bs : Branches) (m : Move Term) → inputs (record s { gift = g }) bs ≡ Some m → one_of (branch_operations bs) ≡ Some m.made.need
inputs_need s given.Nothing bs m h = cc
inputs_need s (given.Mail k o v) bs m h =
    choice_need (record s { gift = given.Mail k o v }) bs (record { message = k; op = o; value = v; ops = branch_operations bs; branch = 0 }) m refl h
inputs_need s (given.Answer o) bs m h = cc
inputs_need s given.Bound bs m h = cc
inputs_need s (given.Held t) bs m h = cc
inputs_need s given.Fixed bs m h = cc

pub asks_for_it : AsksForIt
asks_for_it s plain.nothing m h = cc
asks_for_it s (plain.assign p e) m h = ap Some (changes_need s (effect_of s.store p e) m h)
asks_for_it s (plain.undef p) m h = ap Some (changes_need s (effect_of_undef s.store p) m h)
asks_for_it s (plain.copy p e) m h = ap Some (changes_need s (copied s.store p e) m h)
asks_for_it s (plain.bind v e) m h = bind_need s v (binding s.store e) m h
asks_for_it s (plain.sequence ps) m h = cc
asks_for_it s (plain.parallel ps) m h = cc
asks_for_it s (plain.choose e p q) m h = ap Some (tests_need s (truth_of s.store e) p q m h)
asks_for_it s (plain.repeat e p) m h = ap Some (tests_need s (truth_of s.store e) (turn_of e p) nothing m h)
asks_for_it s (plain.choice bs) m h = inputs_need s s.gift bs m h
asks_for_it s (plain.notify port op e) m h =
    sends_need s (λ v. notifies s port op v) (λ v. need.Send s.call port op v false) (λ v. refl) (message_value s port op e) m h
asks_for_it s (plain.solicit port op e x list) m h =
    sends_need s (λ v. solicits s port op v (wait s.call port op x list)) (λ v. need.Send s.call port op v true) (λ v. refl) (message_value s port op e) m h
asks_for_it s (plain.install list) m h = ap Some (its_need s (installs s list) m h)
asks_for_it s (plain.throw f e) m h = cc
asks_for_it s (plain.comp r) m h = ap Some (its_need s (compensates s r) m h)
asks_for_it s plain.inner_handler m h = cc
asks_for_it s (plain.scope q p) m h = cc
asks_for_it s (plain.block p) m h = cc

-- ---- a gift for each

module _ (s : Seen) where
  abbrev alone : Seen
  alone = record s { gift = given.Nothing }

  -- an event for which nothing is given
  abbrev HasOne : Option (Move Term) → Type 0
  HasOne o = (m : Move Term) × (o ≡ Some m)

  changes_there : (e : Effect) → fault_of_effect e ≡ None → HasOne (changes alone e)
  changes_there (faults f) h = absurd cc
  changes_there (stores t) h = (_, refl)

  tests_there : (b : Option Bool) (p q : Proc) → fault_of_missing b ≡ None → HasOne (tests alone b p q)
  tests_there None p q h = absurd cc
  tests_there (Some true) p q h = (_, refl)
  tests_there (Some false) p q h = (_, refl)

  sends_there : (f : Tree → Move Term) (g : Tree → Need) (v : Option Tree) (n : Need) → option_map g v ≡ Some n
      → HasOne (elim v [ None ↦ None | Some w ↦ ungiven alone (f w) ])
  sends_there f g None n h = absurd cc
  sends_there f g (Some v) n h = (_, refl)

  binds_there : (v : ℕ) (o : Option Root) (n : Need) → option_map (need.Bind v) o ≡ Some n
      → HasOne (elim o [ None ↦ None | Some r ↦ binds (record s { gift = given.Bound }) v r ])
  binds_there v None n h = absurd cc
  binds_there v (Some r) n h = (_, refl)

  -- a message for the first branch of a choice
  abbrev mail_for : ℕ → Given
  mail_for o = given.Mail 0 o void_tree

  first_there : (o : ℕ) (x : Move Term) (rest : Option (Move Term)) → (if nat_eq o o then Some x else rest) ≡ Some x
  first_there o x rest = let e = eq-eqb o o refl in rw e refl

  choice_there : (bs : Branches) (n : Need) → one_of (branch_operations bs) ≡ Some n → HasEventAt s (plain.choice bs)
  choice_there no_branches n h = absurd cc
  choice_there (one_way o x p bs) n h = (mail_for o, _, first_there o _ _)
  choice_there (request o x y body p bs) n h = (mail_for o, _, first_there o _ _)

pub has_gift : HasGift
has_gift s plain.nothing n f h = absurd cc
has_gift s (plain.assign p e) n f h = let r = changes_there s (effect_of s.store p e) f in (given.Nothing, r.0, r.1)
has_gift s (plain.undef p) n f h = let r = changes_there s (effect_of_undef s.store p) f in (given.Nothing, r.0, r.1)
has_gift s (plain.copy p e) n f h = let r = changes_there s (copied s.store p e) f in (given.Nothing, r.0, r.1)
has_gift s (plain.bind v e) n f h = let r = binds_there s v (binding s.store e) n h in (given.Bound, r.0, r.1)
has_gift s (plain.sequence ps) n f h = absurd cc
has_gift s (plain.parallel ps) n f h = absurd cc
has_gift s (plain.choose e p q) n f h = let r = tests_there s (truth_of s.store e) p q f in (given.Nothing, r.0, r.1)
has_gift s (plain.repeat e p) n f h = let r = tests_there s (truth_of s.store e) (turn_of e p) nothing f in (given.Nothing, r.0, r.1)
has_gift s (plain.choice bs) n f h = choice_there s bs n h
has_gift s (plain.notify port op e) n f h =
    let r = sends_there s (λ v. notifies (alone s) port op v) (λ v. need.Send s.call port op v false) (message_value s port op e) n h in (given.Nothing, r.0, r.1)
has_gift s (plain.solicit port op e x list) n f h =
    let r = sends_there s (λ v. solicits (alone s) port op v (wait s.call port op x list)) (λ v. need.Send s.call port op v true) (message_value s port op e) n h in (given.Nothing, r.0, r.1)
has_gift s (plain.install list) n f h = (given.Nothing, _, refl)
has_gift s (plain.throw f e) n g h = absurd cc
has_gift s (plain.comp r) n f h = (given.Nothing, _, refl)
has_gift s plain.inner_handler n f h = absurd cc
has_gift s (plain.scope q p) n f h = absurd cc
has_gift s (plain.block p) n f h = absurd cc
