-- What a session may ask by what its pass has seen stays so, whatever others do.
use Rattle.std.specs.Prelude.{◌≡◌, ℕ, Bool, true, List, ◌++◌, nat_eq}
use Rattle.jolie_trees.specs.Data.{Tree}
use Rattle.jolie_trees.specs.declared.root.Root.{Root}
use Rattle.behaviour_tree.specs.Data.{ProgramParts}
use Rattle.behaviour_tree.specs.declared.words.Need.{Need}
use Rattle.behaviour_tree.specs.declared.words.Need.TheVariants as need
use Rattle.behaviour_tree.specs.declared.words.Outcome.{Outcome}
use Rattle.office_core.specs.declared.history.Entry.{Entry}
use Rattle.office_core.specs.Answers.{is_open}
use Rattle.office_core.specs.Boxes.{took}
use Rattle.office_core.specs.Calls.{next_call}
use Rattle.office_core.specs.Legal.{has_variable, is_acting, is_wanted}
use Rattle.office_sharing.specs.declared.view.View.{View}
use Rattle.office_sharing.specs.Numbers.{entries_by}
use Rattle.office_turn.specs.Calls.{Stays}
use Rattle.session_turn.specs.Asking.{may_call}
use Rattle.session_turn.specs.Seen.{AreForeign, Seat, seat}
use Rattle.session_shared_turns.specs.Passes.{office_shared}

-- Entries of others leave what a session may ask.
abbrev pub MayStill : Type 0
MayStill =
    (a : Seat) (h more : List Entry) (n : Need) → AreForeign a.session more → may_call a h n ≡ true
    → may_call a (h ++ more) n ≡ true

-- the session of a pass at the shared office
abbrev pub seat_of : ProgramParts → View → Seat
seat_of parts v = seat (office_shared parts) v.number

-- the session of a pass may ask this by what the pass has seen, in which its own calls are those that it made
pub record MayAsk (parts : ProgramParts) (v : View) (n : Need) : Type 0 where
  pub may : may_call (seat_of parts v) v.seen n ≡ true
  pub own : entries_by v.number v.seen ≡ v.mine

-- It acts.
abbrev pub ActsStill : Type 0
ActsStill =
    (parts : ProgramParts) (v : View) (n : Need) → MayAsk parts v n
    → Stays parts v (λ w past. is_acting w past v.number)

-- Its call wants the answer that it asks for.
abbrev pub WantsStill : Type 0
WantsStill =
    (parts : ProgramParts) (v : View) (k : ℕ) → MayAsk parts v (need.Answer k)
    → Stays parts v (λ w past. is_wanted past v.number k)

-- Its service has the variable that it binds.
abbrev pub HasStill : Type 0
HasStill =
    (parts : ProgramParts) (v : View) (n : ℕ) (x : Root) → MayAsk parts v (need.Bind n x)
    → Stays parts v (λ w past. has_variable w past v.number n)

-- It took the message that it answers.
abbrev pub TookStill : Type 0
TookStill =
    (parts : ProgramParts) (v : View) (n : ℕ) (o : Outcome) → MayAsk parts v (need.Reply n o)
    → Stays parts v (λ w past. took past v.number n)

-- The message that it answers is open.
abbrev pub IsOpenStill : Type 0
IsOpenStill =
    (parts : ProgramParts) (v : View) (n : ℕ) (o : Outcome) → MayAsk parts v (need.Reply n o)
    → Stays parts v (λ w past. is_open w past n)

-- The call that it sends has the next number.
abbrev pub IsNextStill : Type 0
IsNextStill =
    (parts : ProgramParts) (v : View) (k port op : ℕ) (x : Tree) (wants : Bool)
    → MayAsk parts v (need.Send k port op x wants) → Stays parts v (λ w past. nat_eq k (next_call past v.number))
