-- Reading a file gives an answer that is right of its tokens.
use Rattle.std.proofs.Common.{◌≡◌, ◌⊎◌, inl, inr, ℕ, List, [], ◌∷◌, ◌++◌, length, refl, sym, ap, subst, ◌∙◌, arith, append_assoc, append-nil, length-append}
use Rattle.jolie_ast.specs.declared.tree.Definition.{Definition}
use Rattle.jolie_parse.specs.Classes.{Spelled}
use Rattle.jolie_parse.specs.Grammar.{file, IsFile}
use Rattle.jolie_parse.specs.Reading.{Outcome, got, refused, too_deep, read}
use Rattle.jolie_parse.specs.Levels.{OpensNext, NoneOpens, IsRefused, IsTooDeep}
use Rattle.jolie_parse.specs.WholeFiles.{whole, read_file, IsAnswer}
use Rattle.jolie_parse.specs.Laws.{HaveAnAnswer}
use Rattle.jolie_parse.proofs.OneToken.{file_decided}
use Rattle.jolie_parse.proofs.Equal.{file_factored, file_spread}
use Rattle.jolie_parse.proofs.Stops.{file_read, begins_file, Facts, file_facts, left_stops, refused_stops}
use Rattle.jolie_parse.proofs.Passes.{file_plain}
use Rattle.jolie_parse.proofs.Opens.{DeepBy, opens_read}
use Rattle.jolie_parse.proofs.SameLevels.{opens_factored, opens_spread}

-- a file is read as the definitions that it is
pub complete_file : (n : ℕ) (ts : List Spelled) (f : List Definition) → IsFile n ts f → read_file n ts ≡ got f []
complete_file n ts f d = ap whole (file_read n ts f (file_factored n ts f d))

-- ---- no token opens a level too many

-- where a token opens a level too many, reading says so of it or of one before it, whatever follows
opens_deep : (n : ℕ) (x y z : List Spelled) → OpensNext n x y → (t : Spelled) × (q : List Spelled) × (y ≡ t ∷ q) × DeepBy (read n file (x ++ (y ++ z))) (y ++ z)
opens_deep n x y z o =
    let (t, q, e, l) = opens_factored n x y o in
    let k = opens_read n file file_decided file_plain t x (q ++ z) l in
    (t, q, e, subst (λ v. DeepBy (read n file (x ++ (v ++ z))) (v ++ z)) (sym e) k)

-- nowhere, where reading does not end so
none_opens : (n : ℕ) (ts : List Spelled) → ((r : List Spelled) → read n file ts ≡ too_deep r → ⊥) → NoneOpens n ts
none_opens n ts h x y eq o =
    let k = opens_deep n x y [] o in
    h (k.3.0 ++ (y ++ [])) (ap (read n file) (eq ∙ ap (λ z. x ++ z) (sym (append-nil y))) ∙ k.3.1)

not_too_deep : (o : Outcome (List Definition)) (f : List Definition) (r : List Spelled) → whole o ≡ got f [] → o ≡ too_deep r → ⊥
not_too_deep o f r h e = let never : too_deep r ≡ got f [] = ap whole (sym e) ∙ h in cc

-- no token of a file
pub none_opens_in : (n : ℕ) (ts : List Spelled) (f : List Definition) → IsFile n ts f → NoneOpens n ts
none_opens_in n ts f d = none_opens n ts (λ r e. not_too_deep (read n file ts) f r (complete_file n ts f d) e)

left_longer : (o : Outcome (List Definition)) (a y z : List Spelled) (t : Spelled) (q : List Spelled) → y ≡ t ∷ q → o ≡ too_deep (a ++ (y ++ z)) → o ≡ too_deep z → ⊥
left_longer o a y z t q e h g =
    let same : a ++ (y ++ z) ≡ z = cc in
    let l = length-append a (y ++ z) in
    let m = length-append y z in
    omega (arith, ap length same, ap length e)

-- nor before the place where it ends so
none_before : (n : ℕ) (ts w r : List Spelled) → ts ≡ w ++ r → read n file ts ≡ too_deep r → NoneOpens n w
none_before n ts w r e was x y eq o =
    let k = opens_deep n x y r o in
    let again : ts ≡ x ++ (y ++ r) = e ∙ ap (λ z. z ++ r) eq ∙ append_assoc x y r in
    left_longer (read n file ts) k.3.0 y r k.0 k.1 k.2 (ap (read n file) again ∙ k.3.1) was

-- ---- answers

answer : (n : ℕ) (ts : List Spelled) (o : Outcome (List Definition)) → read n file ts ≡ o → Facts n ts o → IsAnswer n ts (whole o)
answer n ts (got f []) was ex = let e = ex n (omega arith) in (refl, file_spread n ts f (rw (e.1, append-nil) e.2))
answer n ts (got f (t ∷ r)) was ex =
    let e = left_stops n ts f t r ex in
    (e.0, e.1, e.2.0, e.2.1, none_opens n ts (λ q h. let k : got f (t ∷ r) ≡ too_deep q = sym was ∙ h in cc))
answer n ts (refused r) was ex =
    let e = refused_stops n ts r ex in
    (e.0, e.1, e.2.0, e.2.1, none_opens n ts (λ q h. let k : refused r ≡ too_deep q = sym was ∙ h in cc))
answer n ts (too_deep r) was ex =
    let e = ex n (omega arith) in
    (e.0, e.1, begins_file e.0 e.2.0, opens_spread n e.0 r e.2.1, none_before n ts e.0 r e.1 was)

-- what reading a file gives is right of its tokens
pub answers : (n : ℕ) (ts : List Spelled) → IsAnswer n ts (read_file n ts)
answers n ts = answer n ts (read n file ts) refl (file_facts n ts)

-- an answer is one of the three
one_of_three : (n : ℕ) (ts : List Spelled) (o : Outcome (List Definition)) → IsAnswer n ts o
    → ((f : List Definition) × IsFile n ts f) ⊎ (((r : List Spelled) × IsRefused n ts r) ⊎ ((r : List Spelled) × IsTooDeep n ts r))
one_of_three n ts (got f r) h = inl (f, h.1)
one_of_three n ts (refused r) h = inr (inl (r, h))
one_of_three n ts (too_deep r) h = inr (inr (r, h))

-- the law
pub have_an_answer : HaveAnAnswer
have_an_answer n ts = one_of_three n ts (read_file n ts) (answers n ts)
