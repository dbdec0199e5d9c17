-- Runs of bytes at the front.
use Rattle.std.proofs.Common.{◌≡◌, ℕ, suc, ◌+◌, ◌<◌, ◌≤◌, Bool, true, false, cond, List, [], ◌∷◌, ◌++◌, length, take, drop, get_or, refl, subst, arith}
use Rattle.std.specs.List.{prefix_len, AllPass}
use Rattle.std.proofs.lemmas.List.Sums.{prefix_len_is}
use Rattle.std.proofs.lemmas.List.Elements.{All-nil, All-cons, All-head, All-tail}
use Rattle.jolie_tokens.specs.Bytes.{begins}

-- bytes that pass up to one that fails are the longest front that passes
pub run_is : (p : ℕ → Bool) (bs : List ℕ) (n : ℕ) → n ≤ length bs → ((k : ℕ) → k < n → p (get_or bs k 0) ≡ true) → (n < length bs → p (get_or bs n 0) ≡ false) → prefix_len p bs ≡ n
run_is p bs n le all stop = prefix_len_is p bs n 0 le all stop

one_more : (n : ℕ) → suc n ≡ 1 + n
one_more n = omega arith

passes_on : (p : ℕ → Bool) (b : ℕ) (bs : List ℕ) → AllPass p (take (prefix_len p bs) bs) → (c : Bool) → p b ≡ c → AllPass p (take (cond c (1 + prefix_len p bs) 0) (b ∷ bs))
passes_on p b bs h true e = subst (λ n. AllPass p (take n (b ∷ bs))) (one_more (prefix_len p bs)) (All-cons (λ x. p x ≡ true) b (take (prefix_len p bs) bs) e h)
passes_on p b bs h false e = All-nil (λ x. p x ≡ true)

-- each byte of the longest front that passes does pass
pub run_passes : (p : ℕ → Bool) (bs : List ℕ) → AllPass p (take (prefix_len p bs) bs)
run_passes p [] = All-nil (λ x. p x ≡ true)
run_passes p (b ∷ bs) = passes_on p b bs (run_passes p bs) (p b) refl

stops_on : (p : ℕ → Bool) (b : ℕ) (bs : List ℕ) → begins p (drop (prefix_len p bs) bs) ≡ false → (c : Bool) → p b ≡ c → begins p (drop (cond c (1 + prefix_len p bs) 0) (b ∷ bs)) ≡ false
stops_on p b bs h true e = subst (λ n. begins p (drop n (b ∷ bs)) ≡ false) (one_more (prefix_len p bs)) h
stops_on p b bs h false e = e

-- what follows it begins with no byte that passes
pub run_stops : (p : ℕ → Bool) (bs : List ℕ) → begins p (drop (prefix_len p bs) bs) ≡ false
run_stops p [] = refl
run_stops p (b ∷ bs) = stops_on p b bs (run_stops p bs) (p b) refl

-- bytes that pass, before what begins with none that does, are the longest front that passes
pub run_of : (p : ℕ → Bool) (run rest : List ℕ) → AllPass p run → begins p rest ≡ false → prefix_len p (run ++ rest) ≡ length run
run_of p [] [] all stop = refl
run_of p [] (b ∷ rest) all stop = rw stop refl
run_of p (b ∷ run) rest all stop =
    let here : p b ≡ true = All-head (λ x. p x ≡ true) b run all in
    let more : prefix_len p (run ++ rest) ≡ length run = run_of p run rest (All-tail (λ x. p x ≡ true) b run all) stop in
    rw (here, more) (omega arith)
