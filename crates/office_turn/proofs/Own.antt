-- A pass's own call behind a history.
use Rattle.std.proofs.Common.{if◌then◌else◌, ◌≡◌, ℕ, Bool, true, false, List, [], ◌∷◌, ◌++◌, Option, None, Some, length, drop, refl, ap, sym, subst, ◌∙◌}
use Rattle.std.specs.Prelude.{IfSome}
use Rattle.behaviour_tree.specs.Data.{ProgramParts}
use Rattle.behaviour_tree.specs.declared.words.Outcome.{Outcome}
use Rattle.reqresp_book.specs.declared.origin.Origin.{Origin}
use Rattle.reqresp_book.specs.declared.origin.Origin.TheVariants as origin
use Rattle.office_core.specs.declared.history.Act.TheVariants as act
use Rattle.office_core.specs.declared.history.Entry.{Entry}
use Rattle.office_core.specs.declared.outgoing.Outgoing.{Outgoing}
use Rattle.office_core.specs.declared.post.Birth.{Birth}
use Rattle.office_core.specs.declared.post.Mail.{Mail}
use Rattle.office_core.specs.declared.post.Posted.{Posted}
use Rattle.office_core.specs.declared.post.PostReply.{PostReply}
use Rattle.office_plain.specs.declared.office.Office.{Office}
use Rattle.office_core.specs.Past.{Past, closes, some_entry}
use Rattle.office_plain.specs.Entries.{adopt_entry, answer_entry, collect_entry, entry, fetch_entry, post_entry}
use Rattle.office_plain.specs.Entries.{take_entry}
use Rattle.office_plain.specs.View.{with_entry}
use Rattle.office_sharing.specs.declared.view.View.{View}
use Rattle.office_sharing.specs.Numbers.{entries_by}
use Rattle.office_sharing.specs.Rule.{HasHistory, IsHistory}
use Rattle.office_sharing.specs.Steps.{IsCall}
use Rattle.office_sharing.specs.Views.{in_turn}
use Rattle.office_sharing.proofs.Histories.{by_adds, drop_append, legal_of, runs_more}
use Rattle.office_turn.specs.Calls.{closing_entry}
use Rattle.office_turn.specs.Hands.{settled}

pub drop_self : {A : Type 0} (xs : List A) → drop (length xs) xs ≡ []
drop_self [] = refl
drop_self (x ∷ xs) = drop_self xs

append_none : {A : Type 0} (xs : List A) → xs ++ [] ≡ xs
append_none [] = refl
append_none (x ∷ xs) = ap (λ ys. x ∷ ys) (append_none xs)

-- the same call by a pass of the same number
pub own_at : (v w : View) (more : Option Entry) → w.number ≡ v.number → IfSome more (IsCall v) → IfSome more (IsCall w)
own_at v w None is own = tt
own_at v w (Some e) is own = record { by = own.by ∙ sym is; goes = own.goes }

-- what a pass knows at the end of a call
pub settled_is : (v : View) (log : List Entry) (more : Option Entry) → v.turn ≡ false
    → settled (in_turn v log) (with_entry log more)
    ≡ record v { seen = with_entry log more; mine = with_entry v.mine more }
settled_is v log None off = λ i. record v {
  seen = log;
  mine = (ap (λ es. v.mine ++ es) (drop_self log) ∙ append_none v.mine) i;
  turn = sym off i;
}
settled_is v log (Some e) off = λ i. record v {
  seen = log ++ e ∷ [];
  mine = v.mine ++ drop_append log (e ∷ []) i;
  turn = sym off i;
}

module _ {parts : ProgramParts} (v : View) (log : List Entry) (o : Office) where
  -- the history is one of the shared office still
  pub history_after : (more : Option Entry) → IsHistory parts log → IfSome more (IsCall v)
      → HasHistory parts (with_entry log more) o → IsHistory parts (with_entry log more)
  history_after None h own has = h
  history_after (Some e) h own has = record {
    legal = legal_of parts (log ++ e ∷ []) o has;
    running = runs_more parts log e own.goes h.running;
  }

-- the entries of the pass's number are its calls still
pub own_after : (v : View) (log : List Entry) (more : Option Entry) → entries_by v.number log ≡ v.mine
    → IfSome more (IsCall v) → entries_by v.number (with_entry log more) ≡ with_entry v.mine more
own_after v log None own call = own
own_after v log (Some e) own call = by_adds v.number log e call.by ∙ ap (λ es. es ++ e ∷ []) own

-- ---- the entries of calls are the caller's

pub adopts_own : (v : View) (b : Option Birth) → IfSome (adopt_entry v.number b) (IsCall v)
adopts_own v None = tt
adopts_own v (Some b) = record { by = refl; goes = refl }

pub takes_own : (v : View) (m : Option Mail) → IfSome (take_entry v.number m) (IsCall v)
takes_own v None = tt
takes_own v (Some m) = record { by = refl; goes = refl }

pub answers_own : (v : View) (k : ℕ) (o : Option Outcome) → IfSome (answer_entry v.number k o) (IsCall v)
answers_own v k None = tt
answers_own v k (Some o) = record { by = refl; goes = refl }

pub collects_own : (v : View) (n : ℕ) (o : Option Outcome) → IfSome (collect_entry v.number n o) (IsCall v)
collects_own v n None = tt
collects_own v n (Some o) = record { by = refl; goes = refl }

pub fetches_own : (v : View) (c : Option Outgoing) → IfSome (fetch_entry v.number c) (IsCall v)
fetches_own v None = tt
fetches_own v (Some c) = record { by = refl; goes = refl }

pub posts_own : (v : View) (from : Origin) (q : Posted) (r : PostReply) → IfSome (post_entry v.number from q r) (IsCall v)
posts_own v (origin.Port j i) q r = record { by = refl; goes = refl }
posts_own v (origin.Session s k) q r = tt

pub closes_own : (v : View) (past : Past) → IfSome (closing_entry past v.number) (IsCall v)
closes_own v past = by (some_entry past closes)
  where
    by : (b : Bool) → IfSome (if b then None else Some (entry v.number act.Close)) (IsCall v)
    by true = tt
    by false = record { by = refl; goes = refl }
