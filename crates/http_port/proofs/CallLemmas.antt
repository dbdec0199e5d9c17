-- The calls of a wire while it is served, and what was done before each read.
use Rattle.std.proofs.Common.{◌≡◌, ◌<◌, ℕ, ◌+◌, Bool, true, false, ◌⊎◌, inl, inr, List, [], ◌∷◌, ◌++◌, length, take, None, Some, sym, refl, ap, ◌∙◌, subst, arith, length-append, append_assoc, append-nil}
use Rattle.std.specs.Prelude.{Option}
use Rattle.std.proofs.Math.Seq.{take-append_seam}
use Rattle.outside_traits.specs.Told.{Lists}
use Rattle.outside_traits.specs.declared.calls.WireCall.{WireCall}
use Rattle.outside_traits.specs.declared.calls.WireCall.TheVariants.{Read, Wrote}
use Rattle.http_port.specs.Feeding.{Place}
use Rattle.http_port.specs.Serving.{Service, Serves}
use Rattle.http_port.specs.Prompt.{bytes_of, read_in, written_in, done_by, IsPrompt, StopsAtNothing}
use Rattle.http_port.specs.Writing.{AllMove, AreWrites, IsWritten, Moves}
use Rattle.http_port.specs.declared.serve.Said.{Said}
use Rattle.http_port.specs.declared.serving.WireEnd.TheVariants as Ends

pub Notes-nil : (a : Option (List WireCall)) → Lists a a []
Notes-nil None = tt
Notes-nil (Some x) = sym (append-nil x)

Notes-trans : (a b c : Option (List WireCall)) (xs ys : List WireCall) → Lists a b xs → Lists b c ys → Lists a c (xs ++ ys)
Notes-trans None None None xs ys p q = tt
Notes-trans None None (Some z) xs ys p q = absurd q
Notes-trans None (Some y) c xs ys p q = absurd p
Notes-trans (Some x) None None xs ys p q = tt
Notes-trans (Some x) None (Some z) xs ys p q = absurd q
Notes-trans (Some x) (Some y) None xs ys p q = tt
Notes-trans (Some x) (Some y) (Some z) xs ys p q = q ∙ ap (λ l. l ++ ys) p ∙ append_assoc x xs ys

read_in-append : (xs ys : List WireCall) → read_in (xs ++ ys) ≡ read_in xs + read_in ys
read_in-append [] ys = omega arith
read_in-append (Read n ∷ xs) ys = let e = read_in-append xs ys in omega arith
read_in-append (Wrote n ∷ xs) ys = read_in-append xs ys

written_in-append : (xs ys : List WireCall) → written_in (xs ++ ys) ≡ written_in xs + written_in ys
written_in-append [] ys = omega arith
written_in-append (Read n ∷ xs) ys = written_in-append xs ys
written_in-append (Wrote n ∷ xs) ys = let e = written_in-append xs ys in omega arith

writes_read_nothing : (ws : List WireCall) → AreWrites ws → read_in ws ≡ 0
writes_read_nothing [] are = refl
writes_read_nothing (Read n ∷ ws) are = absurd are
writes_read_nothing (Wrote n ∷ ws) are = writes_read_nothing ws are

writes-append : (xs ys : List WireCall) → AreWrites xs → AreWrites ys → AreWrites (xs ++ ys)
writes-append [] ys p q = q
writes-append (Read n ∷ xs) ys p q = absurd p
writes-append (Wrote n ∷ xs) ys p q = writes-append xs ys p q

-- ---- calls that move something

pub all-append : (xs ys : List WireCall) → AllMove xs → AllMove ys → AllMove (xs ++ ys)
all-append [] ys p q = q
all-append (x ∷ xs) ys p q = (p.0, all-append xs ys p.1 q)

stops_behind : (x : WireCall) (xs : List WireCall) → 0 < bytes_of x → StopsAtNothing xs → StopsAtNothing (x ∷ xs)
stops_behind x [] p q = tt
stops_behind x (y ∷ xs) p q = (p, q)

pub stops-append : (xs ys : List WireCall) → AllMove xs → StopsAtNothing ys → StopsAtNothing (xs ++ ys)
stops-append [] ys p q = q
stops-append (x ∷ xs) ys p q = stops_behind x (xs ++ ys) p.0 (stops-append xs ys p.1 q)

all_stop : (xs : List WireCall) → AllMove xs → StopsAtNothing xs
all_stop [] p = tt
all_stop (x ∷ xs) p = stops_behind x xs p.0 (all_stop xs p.1)

pub moves_stop : (whole : Bool) (xs : List WireCall) → Moves whole xs → StopsAtNothing xs
moves_stop true xs p = all_stop xs p
moves_stop false xs p = p

nothing_moves : (whole : Bool) → Moves whole []
nothing_moves true = tt
nothing_moves false = tt

-- ---- bytes that are written

pub nothing_written : (a : Option (List WireCall)) (whole : Bool) → IsWritten a a [] whole
nothing_written a whole = record { calls = []; noted = Notes-nil a; writes = tt; count = refl; moves = nothing_moves whole }

-- what was written without a failure
pub written_so : (a b : Option (List WireCall)) (xs : List ℕ) (whole : Bool) → IsWritten a b xs true → IsWritten a b xs whole
written_so a b xs true w = w
written_so a b xs false w = record { calls = w.calls; noted = w.noted; writes = w.writes; count = w.count; moves = all_stop w.calls w.moves }

-- one write more, of these bytes
pub written_more : (a b c : Option (List WireCall)) (xs ys : List ℕ) (n : ℕ) → IsWritten a b xs true → Lists b c (Wrote n ∷ []) → n ≡ length ys → 0 < n → IsWritten a c (xs ++ ys) true
written_more a b c xs ys n w p e some = record {
  calls = w.calls ++ Wrote n ∷ [];
  noted = Notes-trans a b c w.calls (Wrote n ∷ []) w.noted p;
  writes = writes-append w.calls (Wrote n ∷ []) w.writes tt;
  count =
      let f = w.count in
      omega (arith, written_in-append w.calls (Wrote n ∷ []), length-append xs ys);
  moves = all-append w.calls (Wrote n ∷ []) w.moves (some, tt);
}

-- a write that failed
pub written_still : (a b c : Option (List WireCall)) (xs : List ℕ) → IsWritten a b xs true → Lists b c (Wrote 0 ∷ []) → IsWritten a c xs false
written_still a b c xs w p = record {
  calls = w.calls ++ Wrote 0 ∷ [];
  noted = Notes-trans a b c w.calls (Wrote 0 ∷ []) w.noted p;
  writes = writes-append w.calls (Wrote 0 ∷ []) w.writes tt;
  count =
      let f = w.count in
      omega (arith, written_in-append w.calls (Wrote 0 ∷ []));
  moves = stops-append w.calls (Wrote 0 ∷ []) w.moves tt;
}

-- ---- which call of some is a read

no_read : (ws front after : List WireCall) (count : ℕ) → AreWrites ws → ws ≡ front ++ Read count ∷ after → ⊥
no_read [] [] after count are e = cc
no_read [] (y ∷ front) after count are e = cc
no_read (Read n ∷ ws) front after count are e = are
no_read (Wrote n ∷ ws) [] after count are e = cc
no_read (Wrote n ∷ ws) (y ∷ front) after count are e =
    let f : ws ≡ front ++ Read count ∷ after = cc in no_read ws front after count are f

read_before_writes : (calls ws front after : List WireCall) (count : ℕ) → AreWrites ws → calls ++ ws ≡ front ++ Read count ∷ after
    → (rest : List WireCall) × (calls ≡ front ++ Read count ∷ rest)
read_before_writes [] ws front after count are e = absurd (no_read ws front after count are e)
read_before_writes (x ∷ calls) ws [] after count are e = let f : x ≡ Read count = cc in (calls, ap (λ y. y ∷ calls) f)
read_before_writes (x ∷ calls) ws (y ∷ front) after count are e =
    let f : calls ++ ws ≡ front ++ Read count ∷ after = cc in
    let g : x ≡ y = cc in
    let s = read_before_writes calls ws front after count are f in
    (s.0, ap (λ l. x ∷ l) s.1 ∙ ap (λ z. z ∷ (front ++ Read count ∷ s.0)) g)

last_read_or_before : (calls : List WireCall) (n : ℕ) (front after : List WireCall) (count : ℕ) → calls ++ Read n ∷ [] ≡ front ++ Read count ∷ after
    → (front ≡ calls) ⊎ ((rest : List WireCall) × (calls ≡ front ++ Read count ∷ rest))
last_read_or_before [] n [] after count e = inl refl
last_read_or_before [] n (y ∷ front) after count e =
    let f : [] ≡ front ++ Read count ∷ after = cc in absurd (no_read [] front after count tt f)
last_read_or_before (x ∷ calls) n [] after count e = let f : x ≡ Read count = cc in inr (calls, ap (λ y. y ∷ calls) f)
last_read_or_before (x ∷ calls) n (y ∷ front) after count e =
    let f : calls ++ Read n ∷ [] ≡ front ++ Read count ∷ after = cc in
    let g : x ≡ y = cc in
    elim (last_read_or_before calls n front after count f) [
      | inl same ↦ inl (ap (λ l. y ∷ l) same ∙ ap (λ z. z ∷ calls) (sym g))
      | inr s ↦ inr (s.0, ap (λ l. x ∷ l) s.1 ∙ ap (λ z. z ∷ (front ++ Read count ∷ s.0)) g)
    ]

-- ---- what was done before each read

-- xs begins with front
pub record Front {A : Type 0} (xs front : List A) : Type 0 where
  pub rest : List A
  pub is : xs ≡ front ++ rest

Front-refl : {A : Type 0} (xs : List A) → Front xs xs
Front-refl xs = record { rest = []; is = sym (append-nil xs) }

Front-on : {A : Type 0} (xs ys front : List A) → Front xs front → Front (xs ++ ys) front
Front-on xs ys front f = record { rest = f.rest ++ ys; is = ap (λ l. l ++ ys) f.is ∙ append_assoc front f.rest ys }

taken_front : {A : Type 0} (n : ℕ) (xs front : List A) → n ≡ length front → Front xs front → take n xs ≡ front
taken_front n xs front e f = ap (λ k. take k xs) e ∙ ap (take (length front)) f.is ∙ take-append_seam front f.rest

-- what was done
abbrev pub done : List ℕ → List (List ℕ) → List Said → List ℕ → Service
done came bodies said went = record { came = came; bodies = bodies; said = said; went = went }

-- a front of what was done, with these calls, after which serving could have ended
pub record Stop (was : Place) (did : Service) (calls : List WireCall) : Type 0 where
  pub came : List ℕ
  pub bodies : List (List ℕ)
  pub said : List Said
  pub went : List ℕ
  pub of_came : Front did.came came
  pub of_bodies : Front did.bodies bodies
  pub of_said : Front did.said said
  pub of_went : Front did.went went
  pub read : read_in calls ≡ length came
  pub written : written_in calls ≡ length went
  pub each : length bodies ≡ length said
  pub serves : Serves was (done came bodies said went) Ends.Ended

-- at each read of these calls there is one
abbrev pub Stops : Place → Service → List WireCall → Type 0
Stops was did calls = (front after : List WireCall) (count : ℕ) → calls ≡ front ++ Read count ∷ after → Stop was did front

-- the calls of a wire that tells them so, with which this was done
pub record Called (was : Place) (before now : Option (List WireCall)) (did : Service) (calls : List WireCall) : Type 0 where
  pub noted : Lists before now calls
  pub read : read_in calls ≡ length did.came
  pub written : written_in calls ≡ length did.went
  pub stops : Stops was did calls

pub called_first : (was : Place) (a : Option (List WireCall)) → Called was a a (done [] [] [] []) []
called_first was a = record {
  noted = Notes-nil a;
  read = refl;
  written = refl;
  stops = λ front after count e. absurd (no_read [] front after count tt e);
}

-- a turn more, in which this was written
pub called_turn : (was : Place) (a b c : Option (List WireCall)) (came : List ℕ) (bodies : List (List ℕ)) (said : List Said) (went : List ℕ) (calls : List WireCall)
    → Called was a b (done came bodies said went) calls
    → (more_bodies : List (List ℕ)) (more_said : List Said) (more_went : List ℕ) (whole : Bool) → (w : IsWritten b c more_went whole)
    → Called was a c (done came (bodies ++ more_bodies) (said ++ more_said) (went ++ more_went)) (calls ++ w.calls)
called_turn was a b c came bodies said went calls k more_bodies more_said more_went whole w = record {
  noted = Notes-trans a b c calls w.calls k.noted w.noted;
  read =
      let e = k.read in
      let f = writes_read_nothing w.calls w.writes in
      omega (arith, read_in-append calls w.calls);
  written =
      let e = k.written in
      let f = w.count in
      omega (arith, written_in-append calls w.calls, length-append went more_went);
  stops = λ front after count e.
      let s = read_before_writes calls w.calls front after count w.writes e in
      on front (k.stops front s.0 count s.1);
}
  where
    on : (front : List WireCall) → Stop was (done came bodies said went) front → Stop was (done came (bodies ++ more_bodies) (said ++ more_said) (went ++ more_went)) front
    on front s = record {
      came = s.came;
      bodies = s.bodies;
      said = s.said;
      went = s.went;
      of_came = s.of_came;
      of_bodies = Front-on bodies more_bodies s.bodies s.of_bodies;
      of_said = Front-on said more_said s.said s.of_said;
      of_went = Front-on went more_went s.went s.of_went;
      read = s.read;
      written = s.written;
      each = s.each;
      serves = s.serves;
    }

-- a read more, of these bytes, where serving could have ended
pub called_read : (was : Place) (a b c : Option (List WireCall)) (came : List ℕ) (bodies : List (List ℕ)) (said : List Said) (went : List ℕ) (calls : List WireCall)
    → Called was a b (done came bodies said went) calls → length bodies ≡ length said → Serves was (done came bodies said went) Ends.Ended
    → (next : List ℕ) (n : ℕ) → Lists b c (Read n ∷ []) → n ≡ length next
    → Called was a c (done (came ++ next) bodies said went) (calls ++ Read n ∷ [])
called_read was a b c came bodies said went calls k each serves next n noted count = record {
  noted = Notes-trans a b c calls (Read n ∷ []) k.noted noted;
  read =
      let e = k.read in
      omega (arith, read_in-append calls (Read n ∷ []), length-append came next);
  written =
      let e = k.written in
      omega (arith, written_in-append calls (Read n ∷ []));
  stops = λ front after m e. elim (last_read_or_before calls n front after m e) [
    | inl same ↦ subst (Stop was (done (came ++ next) bodies said went)) (sym same) here
    | inr s ↦ on front (k.stops front s.0 m s.1)
  ];
}
  where
    here : Stop was (done (came ++ next) bodies said went) calls
    here = record {
      came = came;
      bodies = bodies;
      said = said;
      went = went;
      of_came = Front-on came next came (Front-refl came);
      of_bodies = Front-refl bodies;
      of_said = Front-refl said;
      of_went = Front-refl went;
      read = k.read;
      written = k.written;
      each = each;
      serves = serves;
    }

    on : (front : List WireCall) → Stop was (done came bodies said went) front → Stop was (done (came ++ next) bodies said went) front
    on front s = record {
      came = s.came;
      bodies = s.bodies;
      said = s.said;
      went = s.went;
      of_came = Front-on came next s.came s.of_came;
      of_bodies = s.of_bodies;
      of_said = s.of_said;
      of_went = s.of_went;
      read = s.read;
      written = s.written;
      each = s.each;
      serves = s.serves;
    }

-- whatever is due is done before each read
pub is_prompt : (was : Place) (did : Service) (calls : List WireCall) → Stops was did calls → IsPrompt was did calls
is_prompt was did calls stops = λ front after count e. let s = stops front after count e in (length s.bodies, stopped front s)
  where
    stopped : (front : List WireCall) → (s : Stop was did front) → Serves was (done_by did front (length s.bodies)) Ends.Ended
    stopped front s =
        let handed = length s.bodies in
        let came = taken_front (read_in front) did.came s.came s.read s.of_came in
        let bodies = taken_front handed did.bodies s.bodies refl s.of_bodies in
        let said = taken_front handed did.said s.said s.each s.of_said in
        let went = taken_front (written_in front) did.went s.went s.written s.of_went in
        subst (λ l. Serves was (done l (take handed did.bodies) (take handed did.said) (take (written_in front) did.went)) Ends.Ended) (sym came)
        (subst (λ l. Serves was (done s.came l (take handed did.said) (take (written_in front) did.went)) Ends.Ended) (sym bodies)
        (subst (λ l. Serves was (done s.came s.bodies l (take (written_in front) did.went)) Ends.Ended) (sym said)
        (subst (λ l. Serves was (done s.came s.bodies s.said l) Ends.Ended) (sym went) s.serves)))
