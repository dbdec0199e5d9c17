-- What a pass knows that took another in.
use Rattle.std.proofs.Common.{◌≡◌, ℕ, Bool, true, List, [], refl, ap, sym, subst, ◌∙◌}
use mathlib.Core.List.{IsPrefix}
use Rattle.behaviour_tree.specs.Data.{ProgramParts}
use Rattle.office_core.specs.declared.history.Entry.{Entry}
use Rattle.office_sharing.specs.declared.view.View.{View}
use Rattle.office_sharing.specs.Numbers.{entries_by}
use Rattle.office_sharing.specs.Rule.{IsHistory}
use Rattle.office_sharing.specs.Plays.{HasLooked}
use Rattle.office_sharing.specs.Views.{looked, merged}
use Rattle.office_turn.specs.Calls.{TookIn}

-- a look behind a join
joined : {parts : ProgramParts} (v w b : View) (n : ℕ) → HasLooked parts (merged v w) n b → TookIn parts v w b
joined {parts} v w b n h =
    let seen : b.seen ≡ h.log = ap (λ (x : View). x.seen) h.view in
    record {
      begins = subst (IsPrefix v.seen) (sym seen) h.begins;
      told = subst (IsPrefix w.seen) (sym seen) h.told;
      history = subst (IsHistory parts) (sym seen) h.history;
      own = λ may. subst (λ (x : View). entries_by x.number x.seen ≡ x.mine) (sym h.view) (h.own may);
      same = h.view ∙ ap (λ (es : List Entry). record (merged v w) { seen = es; told = [] }) (sym seen);
    }

-- the same, of passes with these views
pub took_in : {parts : ProgramParts} {u other : View} (v w m b : View) (n : ℕ) → m ≡ merged v w → v ≡ u → w ≡ other
    → HasLooked parts m n b → TookIn parts u other b
took_in {parts} v w m b n is view view' h =
    subst (λ (x : View × View). TookIn parts x.0 x.1 b) (λ i. (view i, view' i))
    (joined v w b n (subst (λ (x : View). HasLooked parts x n b) is h))
