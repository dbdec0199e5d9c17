-- How the walks of the calculus go through a context.
use Rattle.std.specs.Prelude.{◌≡◌, ℕ, true, List, ◌++◌, option_map}
use Rattle.session_calculus.specs.Tables.{Table}
use Rattle.session_calculus.specs.Terms.{Fault, Term, Strands, done, is_within}
use Rattle.session_calculus.specs.Kill.{kill}
use Rattle.session_calculus.specs.Start.{around, normal, normal_members}
use Rattle.session_calculus.specs.Ready.{ready_in}
use Rattle.session_calculus.specs.Throw.{throw}
use Rattle.session_calculus.specs.Faults.{fault_in}
use Rattle.session_calculus.specs.Moves.{Seen}
use Rattle.session_calculus.specs.After.{moves}
use Rattle.session_calculus.specs.Reached.{scopes_around}
use Rattle.session_contexts.specs.Contexts.{Layer, plug, are_open}
use Rattle.session_contexts.specs.Tidy.{tidy, tidied, tidied_fault}
use Rattle.session_contexts.specs.Members.{with_member, HasMember, OthersAreNormal}
use Rattle.session_contexts.specs.Walks.{settled, seen_within, moved_within, looked_within, thrown_within, killed_within, passed_within}

-- A form and the same form said tidily have one normal form.
abbrev pub NormalFormsStayTidy : Type 0
NormalFormsStayTidy = (t : Term) (n : ℕ) → normal (tidy t) n ≡ normal t n

-- The normal form of a form in layers is that of the form, which each layer takes up.
abbrev pub NormalGoesOutward : Type 0
NormalGoesOutward = (ls : List Layer) (t : Term) (n : ℕ) → normal (plug ls t) n ≡ settled ls (normal t n)

-- Where all other members are in normal form, one member comes to it alone.
abbrev pub MembersSettleAlone : Type 0
MembersSettleAlone =
    (ts : Strands) (k : ℕ) (t : Term) (n : ℕ) → HasMember k ts → OthersAreNormal k ts
    → normal_members (with_member k t ts) n ≡ around (λ t'. with_member k t' ts) (normal t n)

-- The strands in a form in layers are those in the form.
abbrev pub StrandsStandInside : Type 0
StrandsStandInside = (ls : List Layer) (t : Term) (n : ℕ) → is_within n (plug ls t) ≡ is_within n t

-- The fault of a form in layers is that of the form, as it is seen there.
abbrev pub FaultsAreSeenInside : Type 0
FaultsAreSeenInside =
    (ls : List Layer) (s : Seen) (k : ℕ) (t : Term) → are_open ls ≡ true
    → fault_in s k (plug ls t) ≡ fault_in (seen_within ls s) k t

-- The strands that go first in a form in layers are those in the form, if it is looked into so far.
abbrev pub ReadyAreSeenInside : Type 0
ReadyAreSeenInside =
    (ls : List Layer) (q : ℕ) (h : Table) (n : ℕ) (t : Term) → (t ≡ done → ⊥)
    → ready_in q h n (plug ls t) ≡ looked_within ls (ready_in q h n t)

-- An event of a form in layers is one of the form, as it is seen there, with the layers around what it made.
abbrev pub MovesGoInside : Type 0
MovesGoInside =
    (ls : List Layer) (s : Seen) (k : ℕ) (t : Term) → are_open ls ≡ true → (t ≡ done → ⊥)
    → option_map tidied (moves s k (plug ls t)) ≡ option_map (λ m. tidied (moved_within ls s m)) (moves (seen_within ls s) k t)

-- A fault of a form in layers is carried out of the form, and then out of one layer after the other.
abbrev pub ThrowsGoOutward : Type 0
ThrowsGoOutward =
    (ls : List Layer) (n : ℕ) (f : Fault) (s : ℕ) (t : Term) → are_open ls ≡ true
    → tidied_fault (throw n f s (plug ls t)) ≡ tidied_fault (thrown_within ls f s t (throw n f s t))

-- A kill of a form in layers goes inward, as far as the layers let it.
abbrev pub KillsGoInward : Type 0
KillsGoInward = (ls : List Layer) (f : Fault) (t : Term) → kill f (plug ls t) ≡ killed_within ls f t (kill f t)

-- The scopes around a place in a form in layers are those around it in the form, and then those of the layers.
abbrev pub ScopesStandOutward : Type 0
ScopesStandOutward =
    (ls : List Layer) (n s : ℕ) (t : Term) → are_open ls ≡ true
    → scopes_around n s (plug ls t) ≡ scopes_around n s t ++ passed_within ls s t
