-- The branches of a choice, one by one.
use Rattle.std.proofs.Common.{◌≡◌, ℕ, suc, ◌+◌, ◌<◌, false, List, [], map, drop, length, get_or, Option, Some, None, refl, sym, ap, ◌∙◌, ◌∷◌, add-one, arith, drop-cons}
use Rattle.std.specs.Prelude.{nat_eq, if◌then◌else◌, ◌==◌}
use Rattle.std.proofs.lemmas.Bool.{eq-eqb}
use Rattle.std.proofs.lemmas.Bool.Decides.{nat_tests}
use Rattle.behaviour_tree.specs.Data.{PathTree, Proc, Branches}
use Rattle.behaviour_tree.specs.View.{BranchView, ReplyView, branch_of, branch_view, branches_of}
use Rattle.behaviour_tree.specs.declared.behaviour.Behaviour.TheFolds.{fold_out-Branch, fold_out-ReplyPart}
use Rattle.behaviour_tree.specs.declared.behaviour.Branch.{Branch, out-Branch}
use Rattle.behaviour_tree.specs.declared.behaviour.ReplyPart.{ReplyPart, out-ReplyPart}
use Rattle.behaviour_tree.specs.View.{HandlerView, behaviour_level, branch_level, handler_level, handlers_level, reply_level, behaviour_view, path_view, reply_view}
use Rattle.behaviour_tree.specs.Data.{HandlerList}
use Rattle.behaviour_tree.specs.declared.words.Need.TheVariants as need
use Rattle.behaviour_tree.specs.FormedBehaviours.{branch_operations}
use Rattle.session_calculus.specs.Inputs.{comes}
use Rattle.session_events.specs.Asked.{one_of}
use Rattle.session_calculus.specs.Moves.{Seen}
use Rattle.std.specs.Prelude.{option_map}
use Rattle.session_events.specs.Comes.{arrives, coming}
use Rattle.session_events.specs.declared.choice.Mail.{Mail}

-- the first of what is left
taken_off : {A : Type 0} (xs : List A) (i : ℕ) (x : A) → i < length xs → x ≡ get_or xs i x → drop i xs ≡ x ∷ drop (i + 1) xs
taken_off xs i x h is = let f : i + 1 ≡ suc i = omega arith in rw f (drop-cons xs i x h ∙ ap (λ y. y ∷ drop (suc i) xs) (sym is))

differs : (a b : ℕ) → (a ≡ b → ⊥) → nat_eq a b ≡ false
differs a b h = grind (arith, nat_tests)

-- the branches from a place on
abbrev pub rest_from : List Branch → ℕ → Branches
rest_from xs i = branches_of (map branch_view (drop i xs))

-- a branch before others
abbrev pub before : BranchView → Branches → Branches
before b bs = branch_of b.op b.target b.reply b.after bs

pub branch_off : (xs : List Branch) (i : ℕ) (x : Branch) → i < length xs → x ≡ get_or xs i x → rest_from xs i ≡ before (branch_view x) (rest_from xs (i + 1))
branch_off xs i x h is = rw (taken_off xs i x h is)

-- a branch and others take a message of their operations
one_of_first : (o : ℕ) (x : Option PathTree) (r : Option ReplyView) (p : Proc) (bs : Branches)
    → one_of (branch_operations (branch_of o x r p bs)) ≡ Some (need.Take (branch_operations (branch_of o x r p bs)))
one_of_first o x None p bs = refl
one_of_first o x (Some r) p bs = refl

pub one_of_some : (xs : List Branch) → (length xs == 0) ≡ false
    → one_of (branch_operations (branches_of (map branch_view xs))) ≡ Some (need.Take (branch_operations (branches_of (map branch_view xs))))
one_of_some [] h = absurd cc
one_of_some (x ∷ xs) h = let b = branch_view x in one_of_first b.op b.target b.reply b.after (branches_of (map branch_view xs))

module _ (s : Seen) (m : Mail) (ops : List ℕ) where
  comes_branch : (i o : ℕ) (x : Option PathTree) (r : Option ReplyView) (p : Proc) (bs : Branches)
      → comes s (coming m ops i) (branch_of o x r p bs)
      ≡ (if nat_eq o m.op then Some (arrives s (coming m ops i) (record { op = o; target = x; reply = r; after = p })) else comes s (coming m ops (suc i)) bs)
  comes_branch i o x None p bs = refl
  comes_branch i o x (Some r) p bs = refl

  pub passes_branch : (xs : List Branch) (i : ℕ) (x : Branch) → i < length xs → x ≡ get_or xs i x → ((branch_view x).op ≡ m.op → ⊥)
      → comes s (coming m ops (i + 1)) (rest_from xs (i + 1)) ≡ comes s (coming m ops i) (rest_from xs i)
  passes_branch xs i x h is other =
      let b = branch_view x in
      let e = ap (comes s (coming m ops i)) (branch_off xs i x h is) ∙ comes_branch i b.op b.target b.reply b.after (rest_from xs (i + 1)) in
      let f = differs b.op m.op other in
      sym (e ∙ rw (f, add-one))

  pub arrives_first : (xs : List Branch) (i : ℕ) (x : Branch) → i < length xs → x ≡ get_or xs i x → (branch_view x).op ≡ m.op
      → Some (arrives s (coming m ops i) (branch_view x)) ≡ comes s (coming m ops i) (rest_from xs i)
  arrives_first xs i x h is same =
      let b = branch_view x in
      let e = ap (comes s (coming m ops i)) (branch_off xs i x h is) ∙ comes_branch i b.op b.target b.reply b.after (rest_from xs (i + 1)) in
      let f = eq-eqb b.op m.op same in
      sym (e ∙ rw f)

-- ---- the parts of a branch

-- the path of a reply
pub reply_path : (r : ReplyPart) → option_map path_view (out-ReplyPart r).path ≡ (reply_view r).path
reply_path r = sym (ap (λ v. v.path) (fold_out-ReplyPart Proc BranchView HandlerView HandlerList ReplyView behaviour_level branch_level handler_level handlers_level reply_level r))

-- its body
pub reply_body : (r : ReplyPart) → behaviour_view (out-ReplyPart r).body ≡ (reply_view r).body
reply_body r = sym (ap (λ v. v.body) (fold_out-ReplyPart Proc BranchView HandlerView HandlerList ReplyView behaviour_level branch_level handler_level handlers_level reply_level r))

-- the operation of a branch
pub branch_op : (b : Branch) → (out-Branch b).op ≡ (branch_view b).op
branch_op b = sym (ap (λ v. v.op) (fold_out-Branch Proc BranchView HandlerView HandlerList ReplyView behaviour_level branch_level handler_level handlers_level reply_level b))

-- its target
pub branch_target : (b : Branch) → option_map path_view (out-Branch b).target ≡ (branch_view b).target
branch_target b = sym (ap (λ v. v.target) (fold_out-Branch Proc BranchView HandlerView HandlerList ReplyView behaviour_level branch_level handler_level handlers_level reply_level b))

-- what comes after it
pub branch_after : (b : Branch) → behaviour_view (out-Branch b).after ≡ (branch_view b).after
branch_after b = sym (ap (λ v. v.after) (fold_out-Branch Proc BranchView HandlerView HandlerList ReplyView behaviour_level branch_level handler_level handlers_level reply_level b))
