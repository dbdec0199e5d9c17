-- A fault that is carried upward leaves every request open and every call waiting.
use Rattle.std.proofs.Common.{◌≡◌, ℕ, Bool, true, false, List, [], ◌∷◌, ◌++◌, Option, None, Some, if◌then◌else◌, nat_eq, refl, ap, ◌∙◌, subst}
use Rattle.behaviour_tree.specs.Data.{Proc}
use Rattle.session_calculus.specs.Tables.{Table, entry}
use Rattle.session_calculus.specs.Terms.{Fault, Term, Strands, done, place, thrown, seq, par, in_scope, exec, fail, prot, no_strands, strand, State, live, last, stands_in}
use Rattle.session_calculus.specs.Kill.{kill, kill_members}
use Rattle.session_calculus.specs.Ready.{ready}
use Rattle.session_calculus.specs.Throw.{Carried, up, caught_at, ended_at, blocked, absent, surrounded, at_live, at_scope, reaches, throw, throw_among}
use Rattle.session_calculus.specs.Open.{held, held_among, only, none}
use Rattle.session_calculus.specs.Reached.{form_left, ThrowKeepsCalls}
use Rattle.session_calculus.proofs.Options.{OnValue, OnValue-some}
use Rattle.session_calculus.proofs.Kept.{held-kill, held-kill_members}

-- what a carried fault leaves holds these
abbrev pub Leaves : {A : Type 0} → (A → List ℕ) → List ℕ → Carried A → Type 0
Leaves f ns (up t) = f t ≡ ns
Leaves f ns (caught_at t q) = f t ≡ ns
Leaves f ns (ended_at t q) = f t ≡ ns
Leaves f ns (blocked n) = Unit {0}
Leaves f ns absent = Unit {0}

-- a fault that is there or not
Leaves-if : (f : Term → List ℕ) (b : Bool) (ns : List ℕ) (c : Carried Term) → Leaves f ns c → Leaves f ns (if b then c else absent)
Leaves-if f true ns c e = e
Leaves-if f false ns c e = tt

-- what stands around changes what is held the same way wherever the fault is
Leaves-surrounded : {A B : Type 0} (f : A → List ℕ) (g : B → List ℕ) (passed kept : A → B) (h : List ℕ → List ℕ) (ns : List ℕ) (c : Carried A)
    → ((t : A) → g (passed t) ≡ h (f t)) → ((t : A) → g (kept t) ≡ h (f t)) → Leaves f ns c → Leaves g (h ns) (surrounded passed kept c)
Leaves-surrounded f g passed kept h ns (up t) e k l = e t ∙ ap h l
Leaves-surrounded f g passed kept h ns (caught_at t q) e k l = k t ∙ ap h l
Leaves-surrounded f g passed kept h ns (ended_at t q) e k l = k t ∙ ap h l
Leaves-surrounded f g passed kept h ns (blocked n) e k l = tt
Leaves-surrounded f g passed kept h ns absent e k l = tt

-- where strands may be ready
Leaves-reaches : (f : Term → List ℕ) (rs : List ℕ) (comes : Term → Carried Term) (stays : Term → Term) (ns : List ℕ) (c : Carried Term)
    → ((t : Term) → Leaves f (f t) (comes t)) → ((t : Term) → f (stays t) ≡ f t) → Leaves f ns c → Leaves f ns (reaches rs comes stays c)
Leaves-reaches f [] comes stays ns (up t) k e l = subst (λ ms. Leaves f ms (comes t)) l (k t)
Leaves-reaches f (r ∷ rs) comes stays ns (up t) k e l = tt
Leaves-reaches f [] comes stays ns (caught_at t q) k e l = e t ∙ l
Leaves-reaches f (r ∷ rs) comes stays ns (caught_at t q) k e l = e t ∙ l
Leaves-reaches f [] comes stays ns (ended_at t q) k e l = e t ∙ l
Leaves-reaches f (r ∷ rs) comes stays ns (ended_at t q) k e l = e t ∙ l
Leaves-reaches f [] comes stays ns (blocked n) k e l = tt
Leaves-reaches f (r ∷ rs) comes stays ns (blocked n) k e l = tt
Leaves-reaches f [] comes stays ns absent k e l = tt
Leaves-reaches f (r ∷ rs) comes stays ns absent k e l = tt

module _ (requests calls : ℕ → List ℕ) where
  -- at a live scope
  Leaves-at_live : (p : Option Proc) (q : ℕ) (h : Table) (f : Fault) (t : Term)
      → Leaves (held requests calls) (held requests calls t) (at_live p q h f t)
  Leaves-at_live None q h f t = refl
  Leaves-at_live (Some p) q h f t = refl

  -- at any scope
  Leaves-at_scope : (q : ℕ) (h : Table) (u : State) (f : Fault) (t : Term)
      → Leaves (held requests calls) (held requests calls t) (at_scope q h u f t)
  Leaves-at_scope q h live f t = Leaves-at_live (entry f.name h.faults) q h f t
  Leaves-at_scope q h last f t = refl
  Leaves-at_scope q h u f t = tt

  -- whichever member it is
  Leaves-member : (n : ℕ) (f : Fault) (k : ℕ) (t : Term) (ts : Strands) (b : Bool)
      → Leaves (held requests calls) (held requests calls t) (throw n f k t)
      → Leaves (held_among requests calls) (held_among requests calls ts) (throw_among n f ts)
      → Leaves (held_among requests calls) (held requests calls t ++ held_among requests calls ts)
      (elim b [
        | true ↦ surrounded (λ t'. strand k t' (kill_members f ts)) (λ t'. strand k t' ts) (throw n f k t)
        | false ↦ surrounded (strand k (kill f t)) (strand k t) (throw_among n f ts)
      ])
  Leaves-member n f k t ts true here there =
      Leaves-surrounded (held requests calls) (held_among requests calls) (λ t'. strand k t' (kill_members f ts)) (λ t'. strand k t' ts)
      (λ ms. ms ++ held_among requests calls ts) (held requests calls t) (throw n f k t)
      (λ t'. ap (λ ms. held requests calls t' ++ ms) (held-kill_members requests calls f ts)) (λ t'. refl) here
  Leaves-member n f k t ts false here there =
      Leaves-surrounded (held_among requests calls) (held_among requests calls) (strand k (kill f t)) (strand k t)
      (λ ms. held requests calls t ++ ms) (held_among requests calls ts) (throw_among n f ts)
      (λ ts'. ap (λ ms. ms ++ held_among requests calls ts') (held-kill requests calls f t)) (λ t'. refl) there

  mutual
    -- a fault that is thrown leaves what is held as it is
    pub held-throw : (n : ℕ) (f : Fault) (s : ℕ) (t : Term) → Leaves (held requests calls) (held requests calls t) (throw n f s t)
    held-throw n f s (place p) = Leaves-if (held requests calls) (nat_eq n s) [] (up done) refl
    held-throw n f s (thrown g) = Leaves-if (held requests calls) (nat_eq n s) [] (up done) refl
    held-throw n f s (seq t rest) =
        Leaves-surrounded (held requests calls) (held requests calls) (λ t'. t') (λ t'. seq t' rest) (λ ms. ms)
        (held requests calls t) (throw n f s t) (λ t'. refl) (λ t'. refl) (held-throw n f s t)
    held-throw n f s (par ts) =
        Leaves-surrounded (held_among requests calls) (held requests calls) par par (λ ms. ms)
        (held_among requests calls ts) (throw_among n f ts) (λ t'. refl) (λ t'. refl) (held-throw_among n f ts)
    held-throw n f s (in_scope q t h u) =
        Leaves-reaches (held requests calls) (ready q h s t) (at_scope q h u f) (λ t'. in_scope q t' h u) (held requests calls t) (throw n f s t)
        (Leaves-at_scope q h u f) (λ t'. refl) (held-throw n f s t)
    held-throw n f s (exec m o y t) =
        Leaves-surrounded (held requests calls) (held requests calls) (λ t'. prot (fail m f t')) (exec m o y) (λ ms. requests m ++ ms)
        (held requests calls t) (throw n f s t) (λ t'. refl) (λ t'. refl) (held-throw n f s t)
    held-throw n f s (prot t) =
        Leaves-surrounded (held requests calls) (held requests calls) prot prot (λ ms. ms)
        (held requests calls t) (throw n f s t) (λ t'. refl) (λ t'. refl) (held-throw n f s t)
    held-throw n f s t = tt

    -- so does one in a member
    pub held-throw_among : (n : ℕ) (f : Fault) (ts : Strands)
        → Leaves (held_among requests calls) (held_among requests calls ts) (throw_among n f ts)
    held-throw_among n f no_strands = tt
    held-throw_among n f (strand k t ts) = Leaves-member n f k t ts (stands_in n k t) (held-throw n f k t) (held-throw_among n f ts)

-- of the form that is left
on_left : (f : Term → List ℕ) (ns : List ℕ) (c : Carried Term) → Leaves f ns c → OnValue (λ t. f t ≡ ns) (form_left c)
on_left f ns (up t) l = l
on_left f ns (caught_at t q) l = l
on_left f ns (ended_at t q) l = l
on_left f ns (blocked n) l = tt
on_left f ns absent l = tt

-- a throw keeps the open requests and the waiting calls
pub throw_keeps_calls : ThrowKeepsCalls
throw_keeps_calls n s f t t' e =
    let P : (Term → List ℕ) → Term → Type 0 = λ held_by x. held_by x ≡ held_by t in (
      OnValue-some (P (held only none)) (form_left (throw n f s t)) t' e
          (on_left (held only none) (held only none t) (throw n f s t) (held-throw only none n f s t)),
      OnValue-some (P (held none only)) (form_left (throw n f s t)) t' e
          (on_left (held none only) (held none only t) (throw n f s t) (held-throw none only n f s t)),
    )
