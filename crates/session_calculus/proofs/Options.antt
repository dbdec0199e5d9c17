-- What holds of the value of an option, where it has one.
use Rattle.std.proofs.Common.{◌≡◌, Bool, true, false, Option, None, Some, option_map, if◌then◌else◌, subst}

-- it holds of the value of an option
abbrev pub OnValue : {A : Type 0} → (A → Type 0) → Option A → Type 0
OnValue P None = Unit {0}
OnValue P (Some x) = P x

-- of the value of a mapped option
pub OnValue-map : {A B : Type 0} (P : B → Type 0) (f : A → B) (o : Option A) → OnValue (λ x. P (f x)) o → OnValue P (option_map f o)
OnValue-map P f None h = tt
OnValue-map P f (Some x) h = h

-- what holds of everything
pub OnValue-all : {A : Type 0} (P : A → Type 0) (o : Option A) → ((x : A) → P x) → OnValue P o
OnValue-all P None h = tt
OnValue-all P (Some x) h = h x

-- of one of two options
pub OnValue-if : {A : Type 0} (b : Bool) (P : A → Type 0) (o o' : Option A) → OnValue P o → OnValue P o' → OnValue P (if b then o else o')
OnValue-if true P o o' h h' = h
OnValue-if false P o o' h h' = h'

-- what holds of each value of an option holds of its value
pub OnValue-imp : {A : Type 0} (P Q : A → Type 0) (o : Option A) → ((x : A) → P x → Q x) → OnValue P o → OnValue Q o
OnValue-imp P Q None f h = tt
OnValue-imp P Q (Some x) f h = f x h

-- of a value that the option has
pub OnValue-some : {A : Type 0} (P : A → Type 0) (o : Option A) (x : A) → o ≡ Some x → OnValue P o → P x
OnValue-some P o x e h = subst (OnValue P) e h

-- of what follows from the value of another option
pub OnValue-elim : {A B : Type 0} (P : B → Type 0) (o : Option A) (f : A → Option B) → ((x : A) → OnValue P (f x))
    → OnValue P (elim o [ None ↦ None | Some x ↦ f x ])
OnValue-elim P None f h = tt
OnValue-elim P (Some x) f h = h x
