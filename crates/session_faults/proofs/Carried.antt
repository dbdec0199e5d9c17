-- Where a fault has come to, by the decision and what is left.
use Rattle.std.proofs.Common.{◌≡◌, ℕ, Bool, true, false, List, [], ◌∷◌, None, Some, refl, sym, ap, ◌∙◌}
use Rattle.std.proofs.lemmas.Bool.{false≢true}
use Rattle.session_calculus.specs.Terms.{Fault, Term, Strands, no_strands, strand, stands_in, is_among}
use Rattle.session_calculus.specs.Kill.{kill, kill_members}
use Rattle.session_calculus.specs.Throw.{Carried, up, caught_at, ended_at, blocked, absent, surrounded, reaches, throw, throw_among}
use Rattle.session_faults.specs.declared.decision.Decision.{Decision}
use Rattle.session_faults.specs.declared.decision.Decision.TheVariants.{Up, Caught, Ended, Blocked, Absent}
use Rattle.session_faults.specs.Decisions.{carried_by, is_up, decided, decision_view}
use Rattle.session_faults.specs.Least.{first}
use Rattle.session_faults.specs.Places.{joined}
use Rattle.session_faults.proofs.Tests.{left_false, right_false}

-- a fault that goes on changes what stands around in one way
pub passed_up : {A B : Type 0} (passed kept : A → B) (d : Decision) (t : A) (c : Carried A) → carried_by d t ≡ c → is_up d ≡ true → up (passed t) ≡ surrounded passed kept c
passed_up passed kept Up t c e u = ap (surrounded passed kept) e
passed_up passed kept d t c e u = absurd (false≢true u)

-- one that was kept changes it in the other
pub kept_there : {A B : Type 0} (passed kept : A → B) (d : Decision) (t : A) (c : Carried A) → carried_by d t ≡ c → is_up d ≡ false → carried_by d (kept t) ≡ surrounded passed kept c
kept_there passed kept Up t c e u = absurd (false≢true (sym u))
kept_there passed kept (Caught q) t c e u = ap (surrounded passed kept) e
kept_there passed kept (Ended q) t c e u = ap (surrounded passed kept) e
kept_there passed kept (Blocked n) t c e u = ap (surrounded passed kept) e
kept_there passed kept Absent t c e u = ap (surrounded passed kept) e

-- what stands around what stands around
pub surrounded-twice : {A B C : Type 0} (passed kept : B → C) (passed' kept' : A → B) (c : Carried A)
    → surrounded passed kept (surrounded passed' kept' c) ≡ surrounded (λ t. passed (passed' t)) (λ t. kept (kept' t)) c
surrounded-twice passed kept passed' kept' (up t) = refl
surrounded-twice passed kept passed' kept' (caught_at t q) = refl
surrounded-twice passed kept passed' kept' (ended_at t q) = refl
surrounded-twice passed kept passed' kept' (blocked n) = refl
surrounded-twice passed kept passed' kept' absent = refl

-- what stands around does not change where a fault has come to
pub decided-surrounded : {A B : Type 0} (passed kept : A → B) (c : Carried A) → decided c ≡ decided (surrounded passed kept c)
decided-surrounded passed kept c = sym (surrounded-twice (λ t. tt) (λ t. tt) passed kept c)

-- whether a fault goes on upward
abbrev goes_up : {A : Type 0} → Carried A → Bool
goes_up (up t) = true
goes_up (caught_at t q) = false
goes_up (ended_at t q) = false
goes_up (blocked n) = false
goes_up absent = false

goes_up-decided : {A : Type 0} (c : Carried A) → goes_up (decided c) ≡ goes_up c
goes_up-decided (up t) = refl
goes_up-decided (caught_at t q) = refl
goes_up-decided (ended_at t q) = refl
goes_up-decided (blocked n) = refl
goes_up-decided absent = refl

is_up-goes_up : (d : Decision) → is_up d ≡ goes_up (decision_view d)
is_up-goes_up Up = refl
is_up-goes_up (Caught q) = refl
is_up-goes_up (Ended q) = refl
is_up-goes_up (Blocked n) = refl
is_up-goes_up Absent = refl

-- the decision says whether a fault goes on
told_up : {A : Type 0} (d : Decision) (c : Carried A) (b : Bool) → decision_view d ≡ decided c → is_up d ≡ b → goes_up c ≡ b
told_up d c b e u = sym (goes_up-decided c) ∙ sym (ap goes_up e) ∙ sym (is_up-goes_up d) ∙ u

reached-kept : (ns : List ℕ) (comes : Term → Carried Term) (stays : Term → Term) (c : Carried Term) → goes_up c ≡ false → decided c ≡ decided (reaches ns comes stays c)
reached-kept ns comes stays (up t) u = absurd (false≢true (sym u))
reached-kept [] comes stays (caught_at t q) u = refl
reached-kept [] comes stays (ended_at t q) u = refl
reached-kept [] comes stays (blocked n) u = refl
reached-kept [] comes stays absent u = refl
reached-kept (n ∷ ns) comes stays (caught_at t q) u = refl
reached-kept (n ∷ ns) comes stays (ended_at t q) u = refl
reached-kept (n ∷ ns) comes stays (blocked m) u = refl
reached-kept (n ∷ ns) comes stays absent u = refl

-- a fault that was kept in the body of a scope
pub decided-kept : (ns : List ℕ) (comes : Term → Carried Term) (stays : Term → Term) (d : Decision) (c : Carried Term) → decision_view d ≡ decided c → is_up d ≡ false
    → decision_view d ≡ decided (reaches ns comes stays c)
decided-kept ns comes stays d c e u = e ∙ reached-kept ns comes stays c (told_up d c false e u)

reached-blocked : (ns : List ℕ) (comes : Term → Carried Term) (stays : Term → Term) (c : Carried Term) (n : ℕ) → Some n ≡ first ns → goes_up c ≡ true → blocked n ≡ decided (reaches ns comes stays c)
reached-blocked [] comes stays c n e u = cc
reached-blocked (m ∷ ns) comes stays (up t) n e u = let same : n ≡ m = cc in ap (λ k. blocked k) same
reached-blocked (m ∷ ns) comes stays (caught_at t q) n e u = absurd (false≢true u)
reached-blocked (m ∷ ns) comes stays (ended_at t q) n e u = absurd (false≢true u)
reached-blocked (m ∷ ns) comes stays (blocked k) n e u = absurd (false≢true u)
reached-blocked (m ∷ ns) comes stays absent n e u = absurd (false≢true u)

-- one that a ready strand blocks at the scope
pub decided-blocked : (ns : List ℕ) (comes : Term → Carried Term) (stays : Term → Term) (d : Decision) (c : Carried Term) (n : ℕ) → decision_view d ≡ decided c → is_up d ≡ true → Some n ≡ first ns
    → blocked n ≡ decided (reaches ns comes stays c)
decided-blocked ns comes stays d c n e u r = reached-blocked ns comes stays c n r (told_up d c true e u)

reached-scope : (ns : List ℕ) (comes : Term → Carried Term) (stays : Term → Term) (c : Carried Term) (a : Carried (Unit {0})) → None ≡ first ns → goes_up c ≡ true → ((t : Term) → a ≡ decided (comes t))
    → a ≡ decided (reaches ns comes stays c)
reached-scope (m ∷ ns) comes stays c a e u h = cc
reached-scope [] comes stays (up t) a e u h = h t
reached-scope [] comes stays (caught_at t q) a e u h = absurd (false≢true u)
reached-scope [] comes stays (ended_at t q) a e u h = absurd (false≢true u)
reached-scope [] comes stays (blocked k) a e u h = absurd (false≢true u)
reached-scope [] comes stays absent a e u h = absurd (false≢true u)

-- one that comes to the scope
pub decided-arrived : (ns : List ℕ) (comes : Term → Carried Term) (stays : Term → Term) (d : Decision) (c : Carried Term) (a : Carried (Unit {0})) → decision_view d ≡ decided c → is_up d ≡ true → None ≡ first ns
    → ((t : Term) → a ≡ decided (comes t)) → a ≡ decided (reaches ns comes stays c)
decided-arrived ns comes stays d c a e u r h = reached-scope ns comes stays c a r (told_up d c true e u) h

-- the form that a scope is around when a fault was kept in its body
pub kept_in_scope : (ns : List ℕ) (comes : Term → Carried Term) (stays : Term → Term) (d : Decision) (t : Term) (c : Carried Term) → carried_by d t ≡ c → is_up d ≡ false
    → carried_by d (stays t) ≡ reaches ns comes stays c
kept_in_scope ns comes stays Up t c e u = absurd (false≢true (sym u))
kept_in_scope [] comes stays (Caught q) t c e u = ap (reaches [] comes stays) e
kept_in_scope [] comes stays (Ended q) t c e u = ap (reaches [] comes stays) e
kept_in_scope [] comes stays (Blocked k) t c e u = ap (reaches [] comes stays) e
kept_in_scope [] comes stays Absent t c e u = ap (reaches [] comes stays) e
kept_in_scope (n ∷ ns) comes stays (Caught q) t c e u = ap (reaches (n ∷ ns) comes stays) e
kept_in_scope (n ∷ ns) comes stays (Ended q) t c e u = ap (reaches (n ∷ ns) comes stays) e
kept_in_scope (n ∷ ns) comes stays (Blocked k) t c e u = ap (reaches (n ∷ ns) comes stays) e
kept_in_scope (n ∷ ns) comes stays Absent t c e u = ap (reaches (n ∷ ns) comes stays) e

-- the first of two where a test says so
abbrev chosen : {A : Type 0} → A → A → Bool → A
chosen x y b = elim b [ true ↦ x | false ↦ y ]

-- a strand that stands in no member has no place there
pub throw_among-none : (n : ℕ) (f : Fault) (ts : Strands) → is_among n ts ≡ false → throw_among n f ts ≡ absent
throw_among-none n f no_strands h = refl
throw_among-none n f (strand k t ts) h =
    let passed : Strands → Strands = strand k (kill f t) in
    let kept : Strands → Strands = strand k t in
    let stopped = surrounded (λ t'. strand k t' (kill_members f ts)) (λ t'. strand k t' ts) (throw n f k t) in
    ap (chosen stopped (surrounded passed kept (throw_among n f ts))) (left_false (stands_in n k t) (is_among n ts) h)
    ∙ ap (surrounded passed kept) (throw_among-none n f ts (right_false (stands_in n k t) (is_among n ts) h))

-- a fault in a member, behind those in which its strand does not stand
pub throw_among-at : (n : ℕ) (f : Fault) (ts : Strands) (k : ℕ) (t : Term) (us : Strands) → is_among n ts ≡ false → stands_in n k t ≡ true
    → throw_among n f (joined ts (strand k t us))
    ≡ surrounded (λ t'. joined (kill_members f ts) (strand k t' (kill_members f us))) (λ t'. joined ts (strand k t' us)) (throw n f k t)
throw_among-at n f no_strands k t us h here =
    let stopped = surrounded (λ t'. strand k t' (kill_members f us)) (λ t'. strand k t' us) (throw n f k t) in
    ap (chosen stopped (surrounded (strand k (kill f t)) (strand k t) (throw_among n f us))) here
throw_among-at n f (strand j s ts) k t us h here =
    let others = joined ts (strand k t us) in
    let passed : Strands → Strands = strand j (kill f s) in
    let kept : Strands → Strands = strand j s in
    let stopped = surrounded (λ t'. strand j t' (kill_members f others)) (λ t'. strand j t' others) (throw n f j s) in
    ap (chosen stopped (surrounded passed kept (throw_among n f others))) (left_false (stands_in n j s) (is_among n ts) h)
    ∙ ap (surrounded passed kept) (throw_among-at n f ts k t us (right_false (stands_in n j s) (is_among n ts) h) here)
    ∙ surrounded-twice passed kept (λ t'. joined (kill_members f ts) (strand k t' (kill_members f us))) (λ t'. joined ts (strand k t' us)) (throw n f k t)
