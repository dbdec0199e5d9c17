-- What holds of the value of an option, where it has one.
use Rattle.std.proofs.Common.{◌≡◌, ℕ, Bool, true, false, Option, None, Some, option_map, if◌then◌else◌, refl, subst}

-- it holds of the value of an option
abbrev pub OnValue : {A : Type 0} → (A → Type 0) → Option A → Type 0
OnValue P None = Unit {0}
OnValue P (Some x) = P x

-- of a value that the option has
pub OnValue-some : {A : Type 0} (P : A → Type 0) (o : Option A) (x : A) → o ≡ Some x → OnValue P o → P x
OnValue-some P o x e h = subst (OnValue P) e h

-- where an option is mapped
pub OnValue-lift : {A B : Type 0} (P : A → Type 0) (R : B → Type 0) (f : A → B) (o : Option A)
    → ((x : A) → P x → R (f x))
    → OnValue P o → OnValue R (option_map f o)
OnValue-lift P R f None h k = tt
OnValue-lift P R f (Some x) h k = h x k

-- of one that there is by a test alone
pub OnValue-test : {A : Type 0} (b : Bool) (P : A → Type 0) (o : Option A) → (b ≡ true → OnValue P o)
    → OnValue P (if b then o else None)
OnValue-test true P o h = h refl
OnValue-test false P o h = tt

-- of one of two options
pub OnValue-if : {A : Type 0} (b : Bool) (P : A → Type 0) (o o' : Option A) → OnValue P o → OnValue P o'
    → OnValue P (if b then o else o')
OnValue-if true P o o' h h' = h
OnValue-if false P o o' h h' = h'

-- what holds of each value of an option holds of its value
pub OnValue-imp : {A : Type 0} (P Q : A → Type 0) (o : Option A) → ((x : A) → P x → Q x) → OnValue P o → OnValue Q o
OnValue-imp P Q None f h = tt
OnValue-imp P Q (Some x) f h = f x h

-- what holds of everything
pub OnValue-all : {A : Type 0} (P : A → Type 0) (o : Option A) → ((x : A) → P x) → OnValue P o
OnValue-all P None h = tt
OnValue-all P (Some x) h = h x

-- what holds of a value on two grounds
pub OnValue-both : {A : Type 0} (P Q : A → Type 0) (o : Option A) → OnValue P o → OnValue Q o
    → OnValue (λ x. P x × Q x) o
OnValue-both P Q None h k = tt
OnValue-both P Q (Some x) h k = (h, k)

-- what holds of a value for each number
pub OnValue-every : {A : Type 0} (P : ℕ → A → Type 0) (o : Option A) → ((n : ℕ) → OnValue (P n) o)
    → OnValue (λ x. (n : ℕ) → P n x) o
OnValue-every P None h = tt
OnValue-every P (Some x) h = h

-- what holds of a value on two conditions
pub OnValue-under : {A : Type 0} (H K : Type 0) (P : A → Type 0) (o : Option A) → (H → K → OnValue P o)
    → OnValue (λ x. H → K → P x) o
OnValue-under H K P None f = tt
OnValue-under H K P (Some x) f = f
