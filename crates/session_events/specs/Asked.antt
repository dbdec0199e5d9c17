-- What a place asks of the office for its event, said without the gift.
use Rattle.std.specs.Prelude.{◌≡◌, ℕ, true, false, List, [], ◌∷◌, Option, None, Some, option_map}
use Rattle.behaviour_tree.specs.declared.words.Given.{Given}
use Rattle.behaviour_tree.specs.declared.words.Need.{Need}
use Rattle.behaviour_tree.specs.declared.words.Need.TheVariants as need
use Rattle.behaviour_tree.specs.Data.{Proc, assign, undef, copy, bind, choose}
use Rattle.behaviour_tree.specs.Data.{repeat, choice, notify, solicit, install, comp}
use Rattle.session_calculus.specs.After.{act}
use Rattle.session_calculus.specs.Faults.{binding, fault_of}
use Rattle.behaviour_tree.specs.FormedBehaviours.{branch_operations}
use Rattle.session_calculus.specs.Moves.{Seen, Move}
use Rattle.session_calculus.specs.Terms.{Term}
use Rattle.session_calculus.specs.Calls.{message_value}

-- a message of one of some operations; without operations none comes
abbrev pub one_of : List ℕ → Option Need
one_of [] = None
one_of (o ∷ os) = Some (need.Take (o ∷ os))

-- what a place without a fault asks for its event, none where it has no event
abbrev pub asked : Seen → Proc → Option Need
asked s (assign p e) = Some need.Nothing
asked s (undef p) = Some need.Nothing
asked s (copy p e) = Some need.Nothing
asked s (choose e p q) = Some need.Nothing
asked s (repeat e p) = Some need.Nothing
asked s (install list) = Some need.Nothing
asked s (comp r) = Some need.Nothing
asked s (choice bs) = one_of (branch_operations bs)
asked s (notify port op e) = option_map (λ v. need.Send s.call port op v false) (message_value s port op e)
asked s (solicit port op e x list) = option_map (λ v. need.Send s.call port op v true) (message_value s port op e)
asked s (bind v e) = option_map (need.Bind v) (binding s.store e)
asked s p = None

-- the event of a place asks for what the place asks for, whatever the office gave
abbrev pub AsksForIt : Type 0
AsksForIt = (s : Seen) (p : Proc) (m : Move Term) → act s p ≡ Some m → asked s p ≡ Some m.made.need

-- for some gift a place has an event
abbrev pub HasEventAt : Seen → Proc → Type 0
HasEventAt s p = (g : Given) × (m : Move Term) × (act (record s { gift = g }) p ≡ Some m)

-- a place without a fault that asks for something has an event for some gift
abbrev pub HasGift : Type 0
HasGift = (s : Seen) (p : Proc) (n : Need) → fault_of s p ≡ None → asked s p ≡ Some n → HasEventAt s p
