-- What is lent and comes back.
use Rattle.std.proofs.Common.{◌≡◌, sym, ap, ◌∙◌, refl, subst, arith, ℕ, ◌≤◌, false, List, ◌++◌, length, take, drop, append-nil}
use Rattle.std.proofs.lemmas.List.{drop_all, take_all}
use Rattle.outside_traits.specs.Told.{WireTold}
use Rattle.run_theorem.specs.declared.front.Next.{Next}
use Rattle.run_door_front.specs.Keeping.{ListenerTold, ClientTold, Keeping}
use Rattle.run_door_front.specs.NextSteps.{going, going_of, Looks}
use Rattle.run_door_front.specs.Rounds.{ByRounds}

-- a vector that was written through a slice of it has what was written
pub written_all : {A : Type 0} (n : ℕ) (now items lent : List A) → n ≡ length items → lent ≡ items → length now ≡ length lent
    → take n (now ++ drop (length now) items) ≡ now
written_all n now items lent long same as_many =
    let all : length items ≤ length now = at_least (length now) (length lent) (length items) as_many (ap length same) in
    let whole : n ≡ length now = long ∙ sym (ap length same) ∙ sym as_many in
    ap (λ ls. take n (now ++ ls)) (drop_all (length now) items all) ∙ ap (take n) (append-nil now) ∙ take_all n now (no_more (length now) n whole)
  where
    at_least : (a b c : ℕ) → a ≡ b → b ≡ c → c ≤ a
    at_least a b c e f = omega arith

    no_more : (a n : ℕ) → n ≡ a → a ≤ n
    no_more a n e = omega arith

-- what the call came to, of what a front keeps
pub looks-kept : (IsMade : WireTold → Type 0) (which : Next) (told before : Keeping) (doors later written : List ListenerTold) (links : List ClientTold)
    (opened queue traffics : List ℕ) → told ≡ before → told.spent ≡ false → doors ≡ told.doors → written ≡ later
    → Looks IsMade told.most which (going doors told.connections told.opened told.queue told.traffics) (going later links opened queue traffics)
    → (before.spent ≡ false) × (false ≡ false) × Looks IsMade before.most which (going_of before) (going written links opened queue traffics)
looks-kept IsMade which told before doors later written links opened queue traffics same unspent lent wrote l =
    subst (λ (k : Keeping). (k.spent ≡ false) × (false ≡ false) × Looks IsMade k.most which (going_of k) (going written links opened queue traffics)) same (
      unspent,
      refl,
      subst (λ ps. Looks IsMade told.most which (going ps told.connections told.opened told.queue told.traffics) (going written links opened queue traffics)) lent
          (subst (λ ws. Looks IsMade told.most which (going doors told.connections told.opened told.queue told.traffics) (going ws links opened queue traffics)) (sym wrote) l),
    )

-- by which rounds
pub rounds-kept : (IsMade : WireTold → Type 0) (which : Next) (told before : Keeping) (doors later written : List ListenerTold) (links : List ClientTold)
    (opened queue traffics : List ℕ) → told ≡ before → doors ≡ told.doors → written ≡ later
    → ByRounds IsMade told.most which (going doors told.connections told.opened told.queue told.traffics) (going later links opened queue traffics)
    → ByRounds IsMade before.most which (going_of before) (going written links opened queue traffics)
rounds-kept IsMade which told before doors later written links opened queue traffics same lent wrote r =
    subst (λ (k : Keeping). ByRounds IsMade k.most which (going_of k) (going written links opened queue traffics)) same
    (subst (λ ps. ByRounds IsMade told.most which (going ps told.connections told.opened told.queue told.traffics) (going written links opened queue traffics)) lent
    (subst (λ ws. ByRounds IsMade told.most which (going doors told.connections told.opened told.queue told.traffics) (going ws links opened queue traffics)) (sym wrote) r))
