-- What holds of the form that a carried fault leaves.
use Rattle.std.proofs.Common.{ℕ, Bool, true, false, List, [], ◌∷◌, if◌then◌else◌}
use Rattle.session_calculus.specs.Terms.{Term}
use Rattle.session_calculus.specs.Throw.{Carried, up, caught_at, ended_at, blocked, absent, surrounded, reaches}

-- P holds of what a fault leaves that goes on upward, Q where a scope kept it
abbrev pub Carries : {A : Type 0} → (A → Type 0) → (A → Type 0) → Carried A → Type 0
Carries P Q (up t) = P t
Carries P Q (caught_at t q) = Q t
Carries P Q (ended_at t q) = Q t
Carries P Q (blocked n) = Unit {0}
Carries P Q absent = Unit {0}

-- a fault that is there or not
pub carries-if : (P Q : Term → Type 0) (b : Bool) (c : Carried Term) → Carries P Q c
    → Carries P Q (if b then c else absent)
carries-if P Q true c h = h
carries-if P Q false c h = tt

-- within what stands around
pub carries-surrounded : {A B : Type 0} (P Q : A → Type 0) (R S : B → Type 0) (f g : A → B) (c : Carried A)
    → ((t : A) → P t → R (f t))
    → ((t : A) → Q t → S (g t)) → Carries P Q c → Carries R S (surrounded f g c)
carries-surrounded P Q R S f g (up t) p q h = p t h
carries-surrounded P Q R S f g (caught_at t n) p q h = q t h
carries-surrounded P Q R S f g (ended_at t n) p q h = q t h
carries-surrounded P Q R S f g (blocked n) p q h = tt
carries-surrounded P Q R S f g absent p q h = tt

-- at a scope
pub carries-reaches : (P Q R S : Term → Type 0) (rs : List ℕ) (comes : Term → Carried Term) (keeps : Term → Term)
    (c : Carried Term)
    → ((t : Term) → P t → Carries R S (comes t)) → ((t : Term) → Q t → S (keeps t)) → Carries P Q c
    → Carries R S (reaches rs comes keeps c)
carries-reaches P Q R S [] comes keeps (up t) p q h = p t h
carries-reaches P Q R S (r ∷ rs) comes keeps (up t) p q h = tt
carries-reaches P Q R S [] comes keeps (caught_at t n) p q h = q t h
carries-reaches P Q R S (r ∷ rs) comes keeps (caught_at t n) p q h = q t h
carries-reaches P Q R S [] comes keeps (ended_at t n) p q h = q t h
carries-reaches P Q R S (r ∷ rs) comes keeps (ended_at t n) p q h = q t h
carries-reaches P Q R S [] comes keeps (blocked n) p q h = tt
carries-reaches P Q R S (r ∷ rs) comes keeps (blocked n) p q h = tt
carries-reaches P Q R S [] comes keeps absent p q h = tt
carries-reaches P Q R S (r ∷ rs) comes keeps absent p q h = tt

-- what holds of a fault on two grounds
pub carries-both : {A : Type 0} (P Q R S : A → Type 0) (c : Carried A) → Carries P Q c → Carries R S c
    → Carries (λ t. P t × R t) (λ t. Q t × S t) c
carries-both P Q R S (up t) h k = (h, k)
carries-both P Q R S (caught_at t n) h k = (h, k)
carries-both P Q R S (ended_at t n) h k = (h, k)
carries-both P Q R S (blocked n) h k = tt
carries-both P Q R S absent h k = tt
