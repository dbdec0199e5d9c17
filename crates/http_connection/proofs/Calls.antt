-- The calls of a wire, and what was done before each read.
use Rattle.std.proofs.Common.{◌≡◌, ℕ, ◌+◌, ◌⊎◌, inl, inr, Bool, List, [], ◌∷◌, ◌++◌, length, take, None, Some, sym, refl, ap, ◌∙◌, subst, arith, length-append, append_assoc, append-nil}
use Rattle.std.specs.Prelude.{Option}
use Rattle.std.proofs.Math.Seq.{take-append_seam}
use Rattle.outside_traits.specs.Told.{Lists}
use Rattle.outside_traits.specs.declared.calls.WireCall.{WireCall}
use Rattle.outside_traits.specs.declared.calls.WireCall.TheVariants.{Read, Wrote}
use Rattle.http_port.specs.Prompt.{read_in, written_in}
use Rattle.http_port.specs.Writing.{AreWrites, IsWritten}
use Rattle.http_connection.specs.Talking.{Log, log}
use Rattle.http_connection.specs.Prompt.{IsDone, log_by, IsPrompt, OnlyWrites}
use Rattle.http_connection.specs.Steps.{Front, Stop, Called}

Notes-nil : (a b : Option (List WireCall)) → b ≡ a → Lists a b []
Notes-nil None b e = subst (λ x. Lists None x []) (sym e) tt
Notes-nil (Some x) b e = subst (λ y. Lists (Some x) y []) (sym e) (sym (append-nil x))

Notes-trans : (a b c : Option (List WireCall)) (xs ys : List WireCall) → Lists a b xs → Lists b c ys → Lists a c (xs ++ ys)
Notes-trans None None None xs ys p q = tt
Notes-trans None None (Some z) xs ys p q = absurd q
Notes-trans None (Some y) c xs ys p q = absurd p
Notes-trans (Some x) None None xs ys p q = tt
Notes-trans (Some x) None (Some z) xs ys p q = absurd q
Notes-trans (Some x) (Some y) None xs ys p q = tt
Notes-trans (Some x) (Some y) (Some z) xs ys p q = q ∙ ap (λ l. l ++ ys) p ∙ append_assoc x xs ys

read_in-append : (xs ys : List WireCall) → read_in (xs ++ ys) ≡ read_in xs + read_in ys
read_in-append [] ys = omega arith
read_in-append (Read n ∷ xs) ys = let e = read_in-append xs ys in omega arith
read_in-append (Wrote n ∷ xs) ys = read_in-append xs ys

written_in-append : (xs ys : List WireCall) → written_in (xs ++ ys) ≡ written_in xs + written_in ys
written_in-append [] ys = omega arith
written_in-append (Read n ∷ xs) ys = written_in-append xs ys
written_in-append (Wrote n ∷ xs) ys = let e = written_in-append xs ys in omega arith

writes-append : (xs ys : List WireCall) → AreWrites xs → AreWrites ys → AreWrites (xs ++ ys)
writes-append [] ys p q = q
writes-append (Read n ∷ xs) ys p q = absurd p
writes-append (Wrote n ∷ xs) ys p q = writes-append xs ys p q

writes_read_nothing : (ws : List WireCall) → AreWrites ws → read_in ws ≡ 0
writes_read_nothing [] are = refl
writes_read_nothing (Read n ∷ ws) are = absurd are
writes_read_nothing (Wrote n ∷ ws) are = writes_read_nothing ws are

-- no write is a read
no_read : (ws front after : List WireCall) (count : ℕ) → AreWrites ws → ws ≡ front ++ Read count ∷ after → ⊥
no_read [] [] after count are e = cc
no_read [] (y ∷ front) after count are e = cc
no_read (Read n ∷ ws) front after count are e = are
no_read (Wrote n ∷ ws) [] after count are e = cc
no_read (Wrote n ∷ ws) (y ∷ front) after count are e =
    let f : ws ≡ front ++ Read count ∷ after = cc in no_read ws front after count are f

-- in which of two lists of calls a read stands
abbrev InFirst : List WireCall → List WireCall → ℕ → Type 0
InFirst xs front count = (rest : List WireCall) × (xs ≡ front ++ Read count ∷ rest)

abbrev InSecond : List WireCall → List WireCall → List WireCall → List WireCall → ℕ → Type 0
InSecond xs ys front after count = (rest : List WireCall) × (front ≡ xs ++ rest) × (ys ≡ rest ++ Read count ∷ after)

read_in_one : (xs ys front after : List WireCall) (count : ℕ) → xs ++ ys ≡ front ++ Read count ∷ after
    → InFirst xs front count ⊎ InSecond xs ys front after count
read_in_one [] ys front after count e = inr (front, refl, e)
read_in_one (x ∷ xs) ys [] after count e = let f : x ≡ Read count = cc in inl (xs, ap (λ y. y ∷ xs) f)
read_in_one (x ∷ xs) ys (y ∷ front) after count e =
    let f : xs ++ ys ≡ front ++ Read count ∷ after = cc in
    let g : x ≡ y = cc in
    elim (read_in_one xs ys front after count f) [
      | inl s ↦ inl (s.0, ap (λ l. x ∷ l) s.1 ∙ ap (λ z. z ∷ (front ++ Read count ∷ s.0)) g)
      | inr s ↦ inr (s.0, ap (λ l. y ∷ l) s.1 ∙ ap (λ z. z ∷ (xs ++ s.0)) (sym g), s.2)
    ]

-- ---- writes alone

pub writes_nothing : (a b : Option (List WireCall)) (was is : List ℕ) → b ≡ a → is ≡ was → OnlyWrites a b was is
writes_nothing a b was is e same = record {
  went = [];
  grows = same ∙ sym (append-nil was);
  calls = [];
  noted = Notes-nil a b e;
  writes = tt;
  count = refl;
}

pub writes_so : (a b : Option (List WireCall)) (was is went : List ℕ) (whole : Bool) → IsWritten a b went whole → is ≡ was ++ went → OnlyWrites a b was is
writes_so a b was is went whole w grows = record {
  went = went;
  grows = grows;
  calls = w.calls;
  noted = w.noted;
  writes = w.writes;
  count = w.count;
}

pub writes_on : (a b c : Option (List WireCall)) (was mid is : List ℕ) → OnlyWrites a b was mid → OnlyWrites b c mid is → OnlyWrites a c was is
writes_on a b c was mid is w v = record {
  went = w.went ++ v.went;
  grows = v.grows ∙ ap (λ l. l ++ v.went) w.grows ∙ append_assoc was w.went v.went;
  calls = w.calls ++ v.calls;
  noted = Notes-trans a b c w.calls v.calls w.noted v.noted;
  writes = writes-append w.calls v.calls w.writes v.writes;
  count =
      let e = w.count in
      let f = v.count in
      omega (arith, written_in-append w.calls v.calls, length-append w.went v.went);
}

-- the same of what is written alike
pub writes_alike : (a b : Option (List WireCall)) (was is old new : List ℕ) → OnlyWrites a b was is → old ≡ was → new ≡ is → OnlyWrites a b old new
writes_alike a b was is old new w e f =
    subst (λ l. OnlyWrites a b l new) (sym e) (subst (OnlyWrites a b was) (sym f) w)

-- ---- reads, and what was done before them

front_on : (xs ys front : List ℕ) → Front xs front → Front (xs ++ ys) front
front_on xs ys front f = (f.0 ++ ys, ap (λ l. l ++ ys) f.1 ∙ append_assoc front f.0 ys)

front_same : (xs ys front : List ℕ) → ys ≡ xs → Front xs front → Front ys front
front_same xs ys front e f = (f.0, e ∙ f.1)

-- nothing was called
pub called_nothing : (a b : Option (List WireCall)) (was is : Log) → b ≡ a → is.read ≡ was.read → is.written ≡ was.written → Called a b was is
called_nothing a b was is e read written = record {
  calls = [];
  came = [];
  went = [];
  noted = Notes-nil a b e;
  read = read ∙ sym (append-nil was.read);
  written = written ∙ sym (append-nil was.written);
  reads = refl;
  writes = refl;
  stops = λ front after count e. absurd (no_read [] front after count tt e);
}

-- it was called to write
pub called_writes : (a b : Option (List WireCall)) (was is : Log) → OnlyWrites a b was.written is.written → is.read ≡ was.read → Called a b was is
called_writes a b was is w read = record {
  calls = w.calls;
  came = [];
  went = w.went;
  noted = w.noted;
  read = read ∙ sym (append-nil was.read);
  written = w.grows;
  reads = writes_read_nothing w.calls w.writes;
  writes = w.count;
  stops = λ front after count e. absurd (no_read w.calls front after count w.writes e);
}

-- it was read once, where all was done
pub called_read : (a b : Option (List WireCall)) (was is : Log) (came : List ℕ) (n : ℕ) → Lists a b (Read n ∷ []) → n ≡ length came
    → is.read ≡ was.read ++ came → is.written ≡ was.written → IsDone was → Called a b was is
called_read a b was is came n noted count read written done = record {
  calls = Read n ∷ [];
  came = came;
  went = [];
  noted = noted;
  read = read;
  written = written ∙ sym (append-nil was.written);
  reads = omega arith;
  writes = refl;
  stops = at;
}
  where
    first : Stop was is []
    first = record {
      came = was.read;
      went = was.written;
      of_read = (came, read);
      of_written = ([], written ∙ sym (append-nil was.written));
      read = omega arith;
      written = omega arith;
      done = done;
    }

    at : (front after : List WireCall) (count : ℕ) → Read n ∷ [] ≡ front ++ Read count ∷ after → Stop was is front
    at [] after count e = first
    at (y ∷ front) after count e =
        let f : [] ≡ front ++ Read count ∷ after = cc in absurd (no_read [] front after count tt f)

-- calls behind one another, between which no body was handed out and no text told
pub called_on : (a b c : Option (List WireCall)) (was mid is : Log) → mid.bodies ≡ was.bodies → mid.texts ≡ was.texts
    → Called a b was mid → Called b c mid is → Called a c was is
called_on a b c was mid is bodies texts w v = record {
  calls = w.calls ++ v.calls;
  came = w.came ++ v.came;
  went = w.went ++ v.went;
  noted = Notes-trans a b c w.calls v.calls w.noted v.noted;
  read = v.read ∙ ap (λ l. l ++ v.came) w.read ∙ append_assoc was.read w.came v.came;
  written = v.written ∙ ap (λ l. l ++ v.went) w.written ∙ append_assoc was.written w.went v.went;
  reads =
      let e = w.reads in
      let f = v.reads in
      omega (arith, read_in-append w.calls v.calls, length-append w.came v.came);
  writes =
      let e = w.writes in
      let f = v.writes in
      omega (arith, written_in-append w.calls v.calls, length-append w.went v.went);
  stops = λ front after count e. elim (read_in_one w.calls v.calls front after count e) [
    | inl s ↦ early front (w.stops front s.0 count s.1)
    | inr s ↦ subst (Stop was is) (sym s.1) (late s.0 (v.stops s.0 after count s.2))
  ];
}
  where
    early : (front : List WireCall) → Stop was mid front → Stop was is front
    early front s = record {
      came = s.came;
      went = s.went;
      of_read = front_same (mid.read ++ v.came) is.read s.came v.read (front_on mid.read v.came s.came s.of_read);
      of_written = front_same (mid.written ++ v.went) is.written s.went v.written (front_on mid.written v.went s.went s.of_written);
      read = s.read;
      written = s.written;
      done = s.done;
    }

    late : (rest : List WireCall) → Stop mid is rest → Stop was is (w.calls ++ rest)
    late rest s = record {
      came = s.came;
      went = s.went;
      of_read = s.of_read;
      of_written = s.of_written;
      read =
          let e = ap length w.read in
          let f = w.reads in
          let g = s.read in
          omega (arith, read_in-append w.calls rest, length-append was.read w.came);
      written =
          let e = ap length w.written in
          let f = w.writes in
          let g = s.written in
          omega (arith, written_in-append w.calls rest, length-append was.written w.went);
      done = subst (λ t. IsDone (log s.came s.went was.bodies t)) texts (subst (λ b. IsDone (log s.came s.went b mid.texts)) bodies s.done);
    }

taken_front : (n : ℕ) (xs front : List ℕ) → n ≡ length front → Front xs front → take n xs ≡ front
taken_front n xs front e f = ap (λ k. take k xs) e ∙ ap (take (length front)) f.1 ∙ take-append_seam front f.0

-- nothing that is due waits for more bytes
pub is_prompt : (a b : Option (List WireCall)) (was is : Log) → Called a b was is → IsPrompt a b was is
is_prompt a b was is c = record {
  calls = c.calls;
  noted = c.noted;
  prompt = λ early late count e. done early (c.stops early late count e);
}
  where
    done : (early : List WireCall) → Stop was is early → IsDone (log_by was is early)
    done early s =
        let read = taken_front (length was.read + read_in early) is.read s.came s.read s.of_read in
        let written = taken_front (length was.written + written_in early) is.written s.went s.written s.of_written in
        subst (λ r. IsDone (log r (take (length was.written + written_in early) is.written) was.bodies was.texts)) (sym read)
        (subst (λ w. IsDone (log s.came w was.bodies was.texts)) (sym written) s.done)
