-- How a front over lines looks for its next line.
use Rattle.std.proofs.Common.{◌≡◌, refl, sym, ap, ap₂, subst, ◌∙◌, ℕ, ◌+◌, ◌<◌, ◌≤◌, Bool, true, false, cond, arith, List, [], ◌∷◌, ◌++◌, length, take, drop, append_assoc, append-nil, Option, None, Some, Result, Ok, Err, MatchResult}
use Rattle.std.specs.Prelude.{is_err, IfOk}
use Rattle.std.proofs.Common.{◌-◌, ◌^◌, length-append, length-drop}
use Rattle.std.proofs.lemmas.List.{length-take-le}
use Rattle.std.specs.Io.KnownBytes.{Consumes, IsAtEnd}
use Rattle.std.proofs.KnownBytes.{Consumes-nil, Consumes-trans}
use Rattle.outside_traits.specs.Causes.{Rose}
use Rattle.run_theorem.specs.Split.{IsOpen, split, whole_lines, is_blank, sent_lines}
use Rattle.run_lines.specs.Passing.{Passing, read_in, longest_piece, IsLine, IsNear}
use Rattle.run_lines.specs.declared.piece.Piece.{Piece}
use Rattle.run_lines.specs.declared.piece.Piece.TheVariants as piece
use Rattle.run_lines.specs.declared.next_line.Step.{Step}
use Rattle.run_lines.specs.declared.next_line.Step.TheVariants as step
use Rattle.run_lines.specs.Reading.{Fails}
use Rattle.run_lines.specs.FrontSteps.{Reading, reading, Grows, ReadsPiece, IsAsBefore, IsNext, Looks, IsIdle, Comes, progress, ComesFurther, IsMore, last_step, step_after}
use Rattle.run_lines.proofs.Splitting.{lines-passed, line_inside, near_more, near_passed, same_behind}
use Rattle.run_lines.proofs.Postings.{sent_lines-more_blank}

-- ---- one thing after another

-- what was read in two steps
Grows-trans : (a b c : Reading) → Grows a b → Grows b c → Grows a c
Grows-trans a b c f g =
    let one : a.faults ≤ b.faults = f.later in
    let two : b.faults ≤ c.faults = g.later in
    record {
      bytes = f.bytes ++ g.bytes;
      read = g.read ∙ ap (λ l. l ++ g.bytes) f.read ∙ append_assoc (read_in a.passing) f.bytes g.bytes;
      given = Consumes-trans a.left b.left c.left f.bytes g.bytes f.given g.given;
      later = omega arith;
    }

-- before anything is read
Grows-nothing : (a : Reading) → Grows a a
Grows-nothing a = record { bytes = []; read = sym (append-nil (read_in a.passing)); given = Consumes-nil a.left; later = omega arith }

-- before anything is passed
pub idle-start : (a : Reading) → IsIdle a a
idle-start a = (record { grows = Grows-nothing a; near = λ near. near; lines = refl }, refl)

-- lines were passed in two steps
IsAsBefore-trans : (a b c : Reading) → IsAsBefore a b → IsAsBefore b c → IsAsBefore a c
IsAsBefore-trans a b c f g = record { grows = Grows-trans a b c f.grows g.grows; near = λ near. g.near (f.near near); lines = g.lines ∙ f.lines }

-- nothing came twice
pub idle-trans : (a b c : Reading) → IsIdle a b → IsIdle b c → IsIdle a c
idle-trans a b c f g = (IsAsBefore-trans a b c f.0 g.0, g.1 ∙ f.1)

-- what comes next does so after nothing came
next-trans : (s : Step) (a b c : Reading) → b.faults ≡ a.faults → IsNext s b c → IsNext s a c
next-trans (step.Line n) a b c unfailed k = (k.0 ∙ unfailed, k.1, k.2)
next-trans step.Last a b c unfailed k = (k.0 ∙ unfailed, k.1, k.2, k.3)
next-trans step.End a b c unfailed k = (k.0 ∙ unfailed, k.1, k.2, k.3)
next-trans step.Cut a b c unfailed k = (subst (λ n. Rose n c.faults) unfailed k.0, k.1)

-- the same of what was looked for
pub looks-trans : (s : Step) (a b c : Reading) → IsIdle a b → Looks s b c → Looks s a c
looks-trans s a b c f g =
    record { same = IsAsBefore-trans a b c f.0 g.same; ended = g.ended; found = next-trans s a b c f.1 g.found }

-- a look after nothing came, by what it came to
pub comes_nothing : (o : Option Step) (a b c : Reading) → o ≡ None → IsIdle a b → Comes o b c → IsIdle a c
comes_nothing o a b c is f g = idle-trans a b c f (subst (λ v. Comes v b c) is g)

pub comes_next : (o : Option Step) (s : Step) (a b c : Reading) → o ≡ Some s → IsIdle a b → Comes o b c → Looks s a c
comes_next o s a b c is f g = looks-trans s a b c f (subst (λ v. Comes v b c) is g)

-- ---- a line that is there

module _ (n : ℕ) (before : Passing) (left : Option (List ℕ)) (faults : ℕ) (l : IsLine n before.rest) (ended : (split before.passed).1 ≡ []) where
  -- it is blank, and passed
  pub blank_passed : (now : Passing) → now.passed ≡ before.passed ++ take n before.rest ++ 10 ∷ [] → now.rest ≡ drop (n + 1) before.rest
      → is_blank (take n before.rest) ≡ true → IsIdle (reading before left faults) (reading now left faults)
  blank_passed now passed rest blank =
      let line : List ℕ = take n before.rest in
      let read : read_in now ≡ read_in before =
      ap₂ (λ x y. x ++ y) passed rest
      ∙ append_assoc (before.passed ++ line) (10 ∷ []) (drop (n + 1) before.rest)
      ∙ append_assoc before.passed line (10 ∷ drop (n + 1) before.rest)
      ∙ ap (λ r. before.passed ++ r) (sym l.whole) in (
        record {
          grows = record { bytes = []; read = read ∙ sym (append-nil (read_in before)); given = Consumes-nil left; later = omega arith };
          near = near_passed before now n l rest;
          lines =
              ap sent_lines (ap whole_lines passed ∙ lines-passed before.passed line ended l.inside)
              ∙ sent_lines-more_blank (whole_lines before.passed) line blank;
        },
        refl,
      )

  -- it is not
  pub line_found : is_blank (take n before.rest) ≡ false → Looks (step.Line n) (reading before left faults) (reading before left faults)
  line_found sent = record { same = (idle-start (reading before left faults)).0; ended = ended; found = (refl, l, sent) }

-- ---- a piece that is read

-- what the last line is
last_is : (before now : Reading) (blank : Bool) → is_blank now.passing.rest ≡ blank → now.faults ≡ before.faults → IsOpen now.passing.rest → IsAtEnd now.left
    → IsNext (last_step now.passing.rest) before now
last_is before now true is unfailed open_yet at_end =
    subst (λ (b : Bool). IsNext (cond b step.End step.Last) before now) (sym is) (unfailed, open_yet, is, at_end)
last_is before now false is unfailed open_yet at_end =
    subst (λ (b : Bool). IsNext (cond b step.End step.Last) before now) (sym is) (unfailed, open_yet, is, at_end)

module _ (before now : Reading) (unended : IsOpen before.passing.rest) (ended : (split before.passing.passed).1 ≡ [])
    (short : length now.passing.rest ≤ length before.passing.rest + longest_piece) where
  -- what stands behind the lines that were passed grew by the piece
  grown : (p : Piece) → (r : ReadsPiece p before now) → now.passing.rest ≡ before.passing.rest ++ r.grows.bytes
  grown p r = same_behind before.passing.passed now.passing.rest (before.passing.rest ++ r.grows.bytes)
      (ap (λ l. l ++ now.passing.rest) (sym r.passed) ∙ r.grows.read ∙ append_assoc before.passing.passed before.passing.rest r.grows.bytes)

  -- it is as before, with the lines that were passed
  as_before : (p : Piece) → ReadsPiece p before now → IsAsBefore before now
  as_before p r = record {
    grows = r.grows;
    near = λ near. near_more before.passing now.passing r.grows.bytes unended (grown p r) short;
    lines = ap (λ q. sent_lines (whole_lines q)) r.passed;
  }

  -- what a piece came to
  pub piece_comes : (p : Piece) → ReadsPiece p before now → Comes (step_after p now.passing.rest) before now
  piece_comes piece.More r = (as_before piece.More r, r.ends)
  piece_comes piece.End r = record {
    same = as_before piece.End r;
    ended = ap (λ p. (split p).1) r.passed ∙ ended;
    found = last_is before now (is_blank now.passing.rest) refl r.ends.0 (subst (λ (p : Passing). IsOpen p.rest) (sym r.ends.1) unended) r.ends.2;
  }
  piece_comes piece.Failed r = record {
    same = as_before piece.Failed r;
    ended = ap (λ p. (split p).1) r.passed ∙ ended;
    found = (r.ends.0, subst (λ (p : Passing). IsOpen p.rest) (sym r.ends.1) unended);
  }

  -- by the step that it is
  pub piece_comes-as : (o : Option Step) (p : Piece) → o ≡ step_after p now.passing.rest → ReadsPiece p before now → Comes o before now
  piece_comes-as o p is r = subst (λ v. Comes v before now) (sym is) (piece_comes p r)

-- ---- how far it came

-- behind a blank line
pub passed_further : (n : ℕ) (before now : Passing) → IsLine n before.rest → now.passed ≡ before.passed ++ take n before.rest ++ 10 ∷ []
    → now.rest ≡ drop (n + 1) before.rest → ComesFurther None before now
passed_further n before now l passed rest =
    let inside : n < length before.rest = line_inside n before.rest l in
    let line : length (take n before.rest) ≡ n = length-take-le n before.rest (omega arith) in
    let behind : length now.rest ≡ length before.rest - (n + 1) = ap length rest ∙ length-drop (n + 1) before.rest in
    let front : length (before.passed ++ take n before.rest) ≡ length before.passed + length (take n before.rest) =
    length-append before.passed (take n before.rest) in
    let ended : length now.passed ≡ length (before.passed ++ take n before.rest) + 1 =
    ap length passed ∙ length-append (before.passed ++ take n before.rest) (10 ∷ []) in
    omega (arith, inside, line, behind, front, ended)

-- by the step that a piece comes to
step_further : (p : Piece) (before now : Passing) → now.passed ≡ before.passed → IsMore p before now → ComesFurther (step_after p now.rest) before now
step_further piece.More before now passed more = let same : length now.passed ≡ length before.passed = ap length passed in omega arith
step_further piece.End before now passed more = tt
step_further piece.Failed before now passed more = tt

-- behind a piece
pub piece_further : (o : Option Step) (p : Piece) (before now : Passing) → o ≡ step_after p now.rest → now.passed ≡ before.passed → IsMore p before now
    → ComesFurther o before now
piece_further o p before now is passed more = subst (λ v. ComesFurther v before now) (sym is) (step_further p before now passed more)

-- where memory ran out nothing is sent of it
pub nothing_further : {E : Type 0} (r : Result (Option Step) E) (e : E) (before now : Passing) → r ≡ Err e
    → IfOk r (λ o. ComesFurther o before now)
nothing_further r e before now is = subst (λ v. IfOk v (λ o. ComesFurther o before now)) (sym is) tt

-- what was read is in memory
pub within_memory : (bytes : List ℕ) (passed : ℕ) → passed ≤ length bytes → length bytes < 2 ^ 63
    → progress (record { passed = take passed bytes; rest = drop passed bytes }) < 2 ^ 64
within_memory bytes passed le small =
    let front : length (take passed bytes) ≡ passed = length-take-le passed bytes le in
    let back : length (drop passed bytes) ≡ length bytes - passed = length-drop passed bytes in
    omega (arith, front, back, le, small)

-- less is left of it
pub further_left : (o : Option Step) (before now : Passing) → o ≡ None → progress before < 2 ^ 64 → ComesFurther o before now
    → 2 ^ 64 - progress now < 2 ^ 64 - progress before
further_left o before now is within further =
    let more : progress before < progress now = subst (λ v. ComesFurther v before now) is further in omega (arith, within, more)

-- ---- what was found

-- the line that comes next is there
pub line_there : (s : Step) (n : ℕ) (before now : Reading) → s ≡ step.Line n → Looks s before now → IsLine n now.passing.rest
line_there s n before now is looks = let k : IsNext (step.Line n) before now = subst (λ v. IsNext v before now) is looks.found in k.1

-- what was found, by the step that it is
pub found_as : (s t : Step) (before now : Reading) → s ≡ t → Looks s before now → IsNext t before now
found_as s t before now is looks = subst (λ v. IsNext v before now) is looks.found

-- ---- failures

-- where the source did not fail, what was sent of it still holds
pub fails-unfailed : (failed later : Bool) (count before now : ℕ) → later ≡ failed → now ≡ before → Fails failed count before → Fails later count now
fails-unfailed failed later count before now same unfailed h = subst (λ b. Fails b count now) (sym same) (subst (Fails failed count) (sym unfailed) h)

-- where it failed, it failed since
pub fails-cut : (failed later : Bool) (count before now : ℕ) → later ≡ true → Rose before now → before ≤ now → Fails failed count before → Fails later count now
fails-cut false later count before now is rose more h = subst (λ b. Fails b count now) (sym is) (subst (λ n. Rose n now) h rose)
fails-cut true later count before now is rose more h =
    let since : Rose count now = omega arith in subst (λ b. Fails b count now) (sym is) since

-- ---- want of memory

-- what is sent of an error is sent at the end of a call that passes it on
pub at_error : {T E : Type 0} (r : Result T E) (P : T → Type 0) (Q : E → Type 0) (e : E) → r ≡ Err e → Q e → MatchResult r P Q
at_error r P Q e is q = subst (λ v. MatchResult v P Q) (sym is) q

-- a call that is only made where memory never ran out before, and notes whether it did
pub memory-noted : {T E : Type 0} (r : Result T E) (before now : Bool) → before ≡ false → now ≡ is_err r
    → MatchResult r (λ _. (before ≡ false) × (now ≡ false)) (λ _. now ≡ true)
memory-noted (Ok v) before now was is = (was, is)
memory-noted (Err e) before now was is = is
