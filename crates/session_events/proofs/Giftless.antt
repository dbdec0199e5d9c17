-- The fault of a place, and what it asks for, do not hang on the gift.
use Rattle.std.proofs.Common.{◌≡◌, refl}
use Rattle.behaviour_tree.specs.declared.words.Given.{Given}
use Rattle.behaviour_tree.specs.Data as plain
use Rattle.behaviour_tree.specs.Data.{Proc}
use Rattle.session_calculus.specs.Faults.{fault_of, fault_of_message}
use Rattle.session_calculus.specs.Moves.{Seen}
use Rattle.jolie_trees.specs.Data.{Tree}
use Rattle.std.specs.Prelude.{ℕ, Option, None, Some}
use Rattle.session_events.specs.Asked.{asked}

-- the fault of a message
message_for : (s : Seen) (g : Given) (port op : ℕ) (v : Option Tree) → fault_of_message (record s { gift = g }) port op v ≡ fault_of_message s port op v
message_for s g port op None = refl
message_for s g port op (Some v) = refl

pub fault_for : (s : Seen) (g : Given) (p : Proc) → fault_of (record s { gift = g }) p ≡ fault_of s p
fault_for s g plain.nothing = refl
fault_for s g (plain.assign p e) = refl
fault_for s g (plain.undef p) = refl
fault_for s g (plain.copy p e) = refl
fault_for s g (plain.bind v e) = refl
fault_for s g (plain.sequence ps) = refl
fault_for s g (plain.parallel ps) = refl
fault_for s g (plain.choose e p q) = refl
fault_for s g (plain.repeat e p) = refl
fault_for s g (plain.choice bs) = refl
fault_for s g (plain.notify port op e) = message_for s g port op _
fault_for s g (plain.solicit port op e x list) = message_for s g port op _
fault_for s g (plain.install list) = refl
fault_for s g (plain.throw f e) = refl
fault_for s g (plain.comp r) = refl
fault_for s g plain.inner_handler = refl
fault_for s g (plain.scope q p) = refl
fault_for s g (plain.block p) = refl

pub asked_for : (s : Seen) (g : Given) (p : Proc) → asked (record s { gift = g }) p ≡ asked s p
asked_for s g plain.nothing = refl
asked_for s g (plain.assign p e) = refl
asked_for s g (plain.undef p) = refl
asked_for s g (plain.copy p e) = refl
asked_for s g (plain.bind v e) = refl
asked_for s g (plain.sequence ps) = refl
asked_for s g (plain.parallel ps) = refl
asked_for s g (plain.choose e p q) = refl
asked_for s g (plain.repeat e p) = refl
asked_for s g (plain.choice bs) = refl
asked_for s g (plain.notify port op e) = refl
asked_for s g (plain.solicit port op e x list) = refl
asked_for s g (plain.install list) = refl
asked_for s g (plain.throw f e) = refl
asked_for s g (plain.comp r) = refl
asked_for s g plain.inner_handler = refl
asked_for s g (plain.scope q p) = refl
asked_for s g (plain.block p) = refl
