-- Every entry of a legal history counts: a history of which fewer entries count is not legal.
use Rattle.std.proofs.Common.{◌≡◌, ℕ, suc, Bool, true, false, List, [], ◌∷◌, length, refl, sym, ap, subst, Option, Some}
use Rattle.std.specs.Prelude.{ℤ, nat_eq, bytes_eq}
use Rattle.std.specs.Ordering.{int_eq}
use Rattle.std.specs.Cmp.{unsigned_Decides, signed_Decides}
use Rattle.std.specs.Cmp.Derive.{both_true}
use Rattle.std.proofs.lemmas.Slice.Eq.{bytes_eq-Decides}
use Rattle.jolie_trees.specs.declared.root.Root.{Root}
use Rattle.jolie_trees.specs.declared.root.Root.TheVariants as root
use Rattle.jolie_trees.specs.Data.{Tree, node, Fields, no_fields, field, Trees, no_trees, tree}
use Rattle.behaviour_tree.specs.declared.words.Outcome.{Outcome}
use Rattle.behaviour_tree.specs.declared.words.Outcome.TheVariants as outcome
use Rattle.behaviour_tree.specs.declared.words.Reason.{Reason}
use Rattle.behaviour_tree.specs.declared.words.Reason.TheVariants as reason
use Rattle.correlation.specs.declared.bind_reply.BindReply.{BindReply}
use Rattle.correlation.specs.declared.bind_reply.BindReply.TheVariants as binding
use Rattle.office_core.specs.declared.post.PostReply.{PostReply}
use Rattle.office_core.specs.declared.post.PostReply.TheVariants as answer
use Rattle.office_core.specs.declared.history.Placed.{Placed}
use Rattle.office_core.specs.declared.history.Placed.TheVariants as at
use Rattle.office_core.specs.declared.history.Act.{Act}
use Rattle.office_core.specs.declared.history.Act.TheVariants as act
use Rattle.office_core.specs.declared.history.Entry.{Entry}
use Rattle.office_core.specs.Limits.{Setting}
use Rattle.office_core.specs.Past.{Past, nothing_yet}
use Rattle.office_core.specs.Accepted.{then_one}
use Rattle.office_core.specs.Legal.{is_allowed, replied, IsLegalEntry, AreLegal, IsLegal}
use Rattle.test_trials.specs.Same.{same_bool, same_root, same_tree, same_fields, same_trees, same_reason, same_outcome, same_post_reply, same_placed, same_binding, same_reply}
use Rattle.test_trials.specs.Counts.{gives, is_legal_entry, legal_from, legal_entries}

-- ---- each is the same as itself

pub number_itself : (n : ℕ) → nat_eq n n ≡ true
number_itself n = (unsigned_Decides n n).1 refl

int_itself : (n : ℤ) → int_eq n n ≡ true
int_itself n = (signed_Decides n n).1 refl

text_itself : (t : List ℕ) → bytes_eq t t ≡ true
text_itself t = (bytes_eq-Decides t t).1 refl

pub bool_itself : (b : Bool) → same_bool b b ≡ true
bool_itself true = refl
bool_itself false = refl

pub root_itself : (r : Root) → same_root r r ≡ true
root_itself root.Void = refl
root_itself (root.Bool b) = bool_itself b
root_itself (root.Int n) = int_itself n
root_itself (root.Long n) = int_itself n
root_itself (root.Text t) = text_itself t

mutual
  pub tree_itself : (t : Tree) → same_tree t t ≡ true
  tree_itself (node r fs) = both_true (root_itself r) (fields_itself fs)

  fields_itself : (fs : Fields) → same_fields fs fs ≡ true
  fields_itself no_fields = refl
  fields_itself (field n ts fs) = both_true (both_true (text_itself n) (trees_itself ts)) (fields_itself fs)

  trees_itself : (ts : Trees) → same_trees ts ts ≡ true
  trees_itself no_trees = refl
  trees_itself (tree t ts) = both_true (tree_itself t) (trees_itself ts)

reason_itself : (r : Reason) → same_reason r r ≡ true
reason_itself reason.UnknownOperation = refl
reason_itself reason.NotConforming = refl
reason_itself reason.Correlation = refl
reason_itself reason.BoxFull = refl
reason_itself reason.RunFull = refl
reason_itself reason.Stopped = refl
reason_itself reason.SessionEnded = refl
reason_itself (reason.Other c) = int_itself c

pub outcome_itself : (o : Outcome) → same_outcome o o ≡ true
outcome_itself (outcome.Value t) = tree_itself t
outcome_itself (outcome.Fault f t) = both_true (text_itself f) (tree_itself t)
outcome_itself (outcome.Refused r) = reason_itself r

post_reply_itself : (r : PostReply) → same_post_reply r r ≡ true
post_reply_itself (answer.Accepted m) = number_itself m
post_reply_itself (answer.Refused r) = reason_itself r

placed_itself : (r : Placed) → same_placed r r ≡ true
placed_itself (at.At m) = number_itself m
placed_itself (at.Refused r) = reason_itself r
placed_itself at.Out = refl

binding_itself : (b : BindReply) → same_binding b b ≡ true
binding_itself binding.Bound = refl
binding_itself (binding.Held t) = number_itself t
binding_itself binding.Fixed = refl

reply_itself : (a : Act) → same_reply a a ≡ true
reply_itself (act.Post j i q r) = post_reply_itself r
reply_itself (act.Adopt d) = number_itself d
reply_itself (act.Take m) = number_itself m
reply_itself (act.Bind v x r) = binding_itself r
reply_itself (act.Reply m o) = refl
reply_itself (act.Send k p o v w r) = placed_itself r
reply_itself (act.Answer k o) = outcome_itself o
reply_itself act.End = refl
reply_itself (act.Collect m o) = outcome_itself o
reply_itself (act.Fetch s k) = both_true (number_itself s) (number_itself k)
reply_itself (act.Answered s k o) = refl
reply_itself act.Close = refl
reply_itself act.Stop = refl

-- ---- the count

-- a call that is allowed and has its reply
abbrev counts : Bool → Option Act → Act → Bool
counts b given a = elim b [ true ↦ gives given a | false ↦ false ]

call_counts : (b : Bool) (given : Option Act) (a : Act) → b ≡ true → given ≡ Some a → counts b given a ≡ true
call_counts b given a allowed reply =
    subst (λ b. counts b given a ≡ true) (sym allowed)
    (subst (λ g. gives g a ≡ true) (sym reply) (reply_itself a))

entry_counts : (w : Setting) (past : Past) (e : Entry) → IsLegalEntry w past e → is_legal_entry w past e ≡ true
entry_counts w past e legal =
    call_counts (is_allowed w past e.actor e.act) (replied w past e.actor e.act) e.act legal.allowed legal.reply

one_more : (b : Bool) (n m : ℕ) → b ≡ true → n ≡ m → (elim b [ true ↦ suc n | false ↦ 0 ]) ≡ suc m
one_more b n m e k = subst (λ b. (elim b [ true ↦ suc n | false ↦ 0 ]) ≡ suc m) (sym e) (ap suc k)

counts_from : (w : Setting) (past : Past) (es : List Entry) → AreLegal w past es → legal_from w past es ≡ length es
counts_from w past [] legal = refl
counts_from w past (e ∷ es) legal =
    one_more
    (is_legal_entry w past e)
    (legal_from w (then_one w past e) es)
    (length es)
    (entry_counts w past e legal.0)
    (counts_from w (then_one w past e) es legal.1)

-- all entries of a legal history count
pub all_count : (w : Setting) (h : List Entry) → IsLegal w h → legal_entries w h ≡ length h
all_count w h legal = counts_from w nothing_yet h legal
