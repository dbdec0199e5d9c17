-- The steps that calls take are allowed.
use Rattle.std.proofs.Common.{◌≡◌, ℕ, ◌+◌, ◌%◌, ◌^◌, ◌==◌, Bool, true, false, List, [], ◌∷◌, ◌++◌, Option, None, Some, length, nat_lt, refl, ap, sym, subst, ◌∙◌, arith, drop, length-append}
use Rattle.std.specs.Prelude.{IfSome, ◌<◌, ◌≤◌}
use Rattle.std.proofs.lemmas.List.{append-nil}
use mathlib.Core.Option.{none}
use prog.Atomic.{either}
use Rattle.atomic_table.specs.Table.{Me, Allows, step}
use Rattle.behaviour_tree.specs.Data.{ProgramParts}
use Rattle.office_core.specs.declared.history.Entry.{Entry}
use Rattle.office_plain.specs.declared.office.Office.{Office}
use Rattle.office_plain.specs.View.{entries_of, with_entry}
use Rattle.office_sharing.specs.declared.view.View.{View}
use Rattle.office_sharing.specs.Rule.{IsShared}
use Rattle.office_sharing.specs.Plays.{Commits, GivesBack, InHand, Looks, TakesTurn, in_hand}
use Rattle.office_sharing.specs.Steps.{IsCall}
use Rattle.office_sharing.specs.Views.{committed}
use Rattle.office_sharing.proofs.Steps.{commits, gives_back, looks, takes_turn}
use Rattle.office_turn.specs.Hands.{HasCall, HasMade}
use Rattle.office_turn.proofs.Hands.{few, hand_log}
use Rattle.office_turn.proofs.Own.{drop_self}

-- the table of a run: its program, and one slot
module _ (ps parts : ProgramParts) (is : ps ≡ parts) (n id : ℕ) (one : n ≡ 1) (m : Me Office View) where
  pub take_allowed : m.1 ≡ [] → m.0.may_call ≡ true
      → Allows (IsShared ps) n id m 0 (λ k. either (k == 0) 1 k) (TakesTurn parts (step n 0 0 1 none) m)
  take_allowed idle may =
      subst (λ (x : ProgramParts × ℕ × List (ℕ × Office)).
      Allows (IsShared x.0) x.1 id (m.0, x.2) 0 (λ k. either (k == 0) 1 k) (TakesTurn parts (step x.1 0 0 1 none) (m.0, x.2)))
      (λ i. (sym is i, sym one i, sym idle i)) (takes_turn parts id m.0 may)

  pub commit_allowed : m.0.turn ≡ true → HasCall parts m
      → Allows (IsShared ps) n id m 1 (λ k. (k + 1) % 2 ^ 64) (Commits (step n 1 1 0 none) m)
  commit_allowed turn c =
      subst (λ (x : ProgramParts × ℕ × List (ℕ × Office)).
      Allows (IsShared x.0) x.1 id (m.0, x.2) 1 (λ k. (k + 1) % 2 ^ 64) (Commits (step x.1 1 1 0 none) (m.0, x.2)))
      (λ i. (sym is i, sym one i, sym c.hand.hand i))
      (commits parts id m.0 c.hand.office c.call turn c.own c.hand.has (few c.hand.office))

  pub give_allowed : m.0.turn ≡ true → InHand parts m.0.seen m
      → Allows (IsShared ps) n id m 0 (λ _. 0) (λ _. GivesBack (step n 0 0 0 none) m 0)
  give_allowed turn h =
      subst (λ (x : ProgramParts × ℕ × List (ℕ × Office)).
      Allows (IsShared x.0) x.1 id (m.0, x.2) 0 (λ _. 0) (λ _. GivesBack (step x.1 0 0 0 none) (m.0, x.2) 0))
      (λ i. (sym is i, sym one i, sym h.hand i)) (gives_back parts id m.0 h.office turn h.has)

  pub look_allowed : m.1 ≡ [] → m.0.turn ≡ false
      → Allows (IsShared ps) n id m 1 (λ k. k) (Looks parts (step n 1 0 0 none) m)
  look_allowed idle turn =
      subst (λ (x : ProgramParts × ℕ × List (ℕ × Office)).
      Allows (IsShared x.0) x.1 id (m.0, x.2) 1 (λ k. k) (Looks parts (step x.1 1 0 0 none) (m.0, x.2)))
      (λ i. (sym is i, sym one i, sym idle i)) (looks parts id m.0 turn)

-- ---- how a call ends

module _ {parts : ProgramParts} (m : Me Office View) (made : HasMade parts m) (before : ℕ) (same : before ≡ length m.0.seen) where
  long : length (in_hand m.1) ≡ length (with_entry m.0.seen made.more)
  long = ap length (hand_log m made.hand)

  -- a longer history has the call
  pub has_call : before < length (in_hand m.1) → HasCall parts m
  has_call longer = by made.more made.own made.hand (omega (arith, longer, same, long))
    where
      by : (o : Option Entry) → IfSome o (IsCall m.0) → InHand parts (with_entry m.0.seen o) m
          → length m.0.seen < length (with_entry m.0.seen o) → HasCall parts m
      by None own hand less = absurd (omega (arith, less))
      by (Some e) own hand less = record { call = e; own = own; hand = hand }

  -- a history that is no longer has none
  pub has_none : length (in_hand m.1) ≤ before → InHand parts m.0.seen m
  has_none shorter = by made.more made.hand (omega (arith, shorter, same, long))
    where
      by : (o : Option Entry) → InHand parts (with_entry m.0.seen o) m
          → length (with_entry m.0.seen o) ≤ length m.0.seen → InHand parts m.0.seen m
      by None hand less = hand
      by (Some e) hand less = absurd (omega (arith, less, length-append m.0.seen (e ∷ [])))

-- what was committed is all of the history
pub committed_hand : {parts : ProgramParts} (m w : Me Office View) → HasMade parts m
    → w ≡ (committed m.0 (in_hand m.1), m.1) → InHand parts w.0.seen w
committed_hand m w made is = record {
  office = made.hand.office;
  hand = ap (λ (x : Me Office View). x.1) is ∙ made.hand.hand;
  has = record {
    program = made.hand.has.program;
    entries = sym (ap in_hand made.hand.hand) ∙ sym (ap (λ (x : Me Office View). x.0.seen) is);
  };
}

-- nothing is committed where the history was seen already
pub committed_none : {parts : ProgramParts} (m : Me Office View) → InHand parts m.0.seen m
    → m ≡ (committed m.0 (in_hand m.1), m.1)
committed_none m h =
    ap (λ (v : View). (v, m.1))
    (sym (ap (committed m.0) (hand_log m h) ∙ (λ i. record m.0 { mine = nothing_more i })))
  where
    nothing_more : m.0.mine ++ drop (length m.0.seen) m.0.seen ≡ m.0.mine
    nothing_more = ap (λ es. m.0.mine ++ es) (drop_self m.0.seen) ∙ append-nil m.0.mine
