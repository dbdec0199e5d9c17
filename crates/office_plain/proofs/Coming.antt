-- A message is accepted: what it makes of the weight and of what waits for sessions.
use Rattle.std.proofs.Common.{◌≡◌, ◌≢◌, ◌≤◌, ◌<◌, ℕ, zero, suc, ◌+◌, ◌-◌, ◌^◌, min, Bool, true, false, not, ◌&&◌, List, [], ◌∷◌, ◌++◌, length, refl, sym, ap, subst, ◌∙◌, Option, None, Some, true≢false, zero-add, arith}
use Rattle.std.specs.Prelude.{nat_eq, sum_by, if◌then◌else◌}
use Rattle.std.specs.List.{list_any}
use Rattle.std.proofs.lemmas.List.Sums.{sum_by-append}
use Rattle.jolie_trees.specs.Limits.{in_u64}
use Rattle.post_box.specs.declared.boxes.Boxes.{Boxes}
use Rattle.post_box.specs.declared.mailbox.Waiting.{Waiting}
use Rattle.post_box.specs.Oldest.{waiting}
use Rattle.post_box.specs.View.{box_of, ChangesOnly}
use Rattle.office_core.specs.declared.message.Message.{Message}
use Rattle.office_core.specs.Past.{Past}
use Rattle.office_core.specs.Sessions.{has_ended}
use Rattle.office_core.specs.Boxes.{taken}
use Rattle.office_core.specs.Weights.{weight, reply_weight, total_weight}
use Rattle.office_plain.specs.Accepting.{with_accepted}
use Rattle.office_plain.specs.Waits.{waiting_from, waiting_for}
use Rattle.office_plain.proofs.Lists.{itself, eq_true, eq_false, not_eq, turned}
use Rattle.office_plain.proofs.Stays.{saturates}

-- the weight with a message more
pub weight_come : (past : Past) (m : Message)
    → in_u64 (in_u64 (total_weight past) + in_u64 (weight m.value))
    ≡ in_u64 (total_weight (with_accepted past (Some m)))
weight_come past m = saturates (total_weight past) (weight m.value) ∙ ap in_u64 sums
  where
    sums : total_weight past + weight m.value ≡ total_weight (with_accepted past (Some m))
    sums =
        let more : sum_by (λ (x : Message). weight x.value) (past.messages ++ m ∷ [])
        ≡ sum_by (λ (x : Message). weight x.value) past.messages + sum_by (λ (x : Message). weight x.value) (m ∷ []) =
        sum_by-append (λ (x : Message). weight x.value) past.messages (m ∷ []) in
        let last : sum_by (λ (x : Message). weight x.value) (m ∷ []) ≡ weight m.value = zero-add (weight m.value) in
        omega arith

-- ---- boxes

-- what waits for a session with one message more, which was not taken
come_from : (gone : List ℕ) (s k n : ℕ) (ms : List Message) (m : Message) → n ≡ k + length ms
    → list_any (nat_eq n) gone ≡ false
    → waiting_from gone s k (ms ++ m ∷ [])
    ≡ waiting_from gone s k ms ++ (if nat_eq s m.session then waiting m.op n ∷ [] else [])
come_from gone s k n [] m e untaken =
    let is_k : k ≡ n = later k n e in
    ap (λ j. (if nat_eq s m.session && not (list_any (nat_eq j) gone) then waiting m.op j ∷ [] else []) ++ []) is_k
    ∙ ap (λ b. (if nat_eq s m.session && not b then waiting m.op n ∷ [] else []) ++ []) untaken
    ∙ by (nat_eq s m.session)
  where
    later : (k n : ℕ) → n ≡ k + 0 → k ≡ n
    later k n e = omega arith

    by : (b : Bool)
        → (if b && not false then waiting m.op n ∷ [] else []) ++ [] ≡ [] ++ (if b then waiting m.op n ∷ [] else [])
    by true = refl
    by false = refl
come_from gone s k n (x ∷ ms) m e untaken =
    let next : n ≡ suc k + length ms = later k n (length ms) e in
    ap (λ l. (if nat_eq s x.session && not (list_any (nat_eq k) gone) then waiting x.op k ∷ [] else []) ++ l)
    (come_from gone s (suc k) n ms m next untaken)
    ∙ joined (nat_eq s x.session && not (list_any (nat_eq k) gone))
    (waiting_from gone s (suc k) ms) (if nat_eq s m.session then waiting m.op n ∷ [] else [])
  where
    later : (k n l : ℕ) → n ≡ k + suc l → n ≡ suc k + l
    later k n l e = omega arith

    joined : (b : Bool) (ys zs : List Waiting)
        → (if b then waiting x.op k ∷ [] else []) ++ (ys ++ zs) ≡ ((if b then waiting x.op k ∷ [] else []) ++ ys) ++ zs
    joined true ys zs = refl
    joined false ys zs = refl

append_nil : (xs : List Waiting) → xs ++ [] ≡ xs
append_nil [] = refl
append_nil (x ∷ xs) = ap (λ l. x ∷ l) (append_nil xs)

-- the boxes once the message was put into that of its session
pub boxes_come : (past : Past) (n : ℕ) (m : Message) (old new : Boxes)
    → n ≡ length past.messages → list_any (nat_eq n) (taken past) ≡ false
    → ((s : ℕ) → has_ended past s ≡ false → box_of old s ≡ waiting_for past s)
    → ChangesOnly m.session (box_of old m.session ++ waiting m.op n ∷ []) old new
    → has_ended past m.session ≡ false
    → (s : ℕ) → has_ended past s ≡ false → box_of new s ≡ waiting_for (with_accepted past (Some m)) s
boxes_come past n m old new number untaken tied changes lives s live = by (nat_eq s m.session) refl
  where
    at_end : n ≡ 0 + length past.messages
    at_end = number ∙ sym (zero-add (length past.messages))

    more : waiting_for (with_accepted past (Some m)) s
        ≡ waiting_for past s ++ (if nat_eq s m.session then waiting m.op n ∷ [] else [])
    more = come_from (taken past) s 0 n past.messages m at_end untaken

    by : (b : Bool) → nat_eq s m.session ≡ b → box_of new s ≡ waiting_for (with_accepted past (Some m)) s
    by true e =
        ap (box_of new) (eq_true s m.session e) ∙ changes.changed
        ∙ ap (λ l. l ++ waiting m.op n ∷ [])
        (tied m.session lives ∙ ap (waiting_for past) (sym (eq_true s m.session e)))
        ∙ sym (more ∙ ap (λ b. waiting_for past s ++ (if b then waiting m.op n ∷ [] else [])) e)
    by false e =
        changes.others s (eq_false s m.session e) ∙ tied s live
        ∙ sym (more ∙ ap (λ b. waiting_for past s ++ (if b then waiting m.op n ∷ [] else [])) e
        ∙ append_nil (waiting_for past s))
