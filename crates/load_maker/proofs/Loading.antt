-- What the run of a load leaves, from what a run over its lines does.
use Rattle.std.proofs.Common.{◌≡◌, ◌∙◌, refl, sym, ap, subst, ℕ, suc, ◌+◌, ◌≤◌, Bool, true, false, not, cond, arith, List, [], ◌∷◌, ◌++◌, length, map, append-nil, length-append, inl, inr}
use Rattle.std.proofs.Common.{Some, None, Result, Ok, Err, IfOk, true≢false}
use Rattle.std.specs.Prelude.{◌⊎◌}
use Rattle.std.specs.List.{filter}
use Rattle.std.specs.declared.alloc.AllocError.{AllocError}
use Rattle.std.proofs.lemmas.List.{length-map, take_all}
use Rattle.behaviour_tree.specs.Data.{ProgramParts}
use Rattle.outside_doors.specs.Returns.{DoorsTold}
use Rattle.outside_links.specs.Trips.{LinkTold}
use Rattle.run_theorem.specs.declared.ended.Ended.{Ended}
use Rattle.run_theorem.specs.Lines.{CameIn, come_in, line_in, most_postings, whole, cut, halted, halted_at_end}
use Rattle.run_theorem.specs.Split.{all_lines, is_blank, sent_lines, split}
use Rattle.run_theorem.specs.Statuses.{Causes, Failed, halts}
use Rattle.run_theorem.specs.Texts.{Came, posting_of}
use Rattle.run_theorem.specs.Theorem.{Around, IsLined, Outside}
use Rattle.run_record.specs.Postings.{posts_of}
use Rattle.run_lines.proofs.Splitting.{split-append}
use Rattle.load_maker.specs.Lines.{lines, with_ends}
use Rattle.load_maker.specs.Loaded.{IsLoaded, task}
use Rattle.load_maker.proofs.LinesCut.{as_many, cut as lines_cut, sent}

-- what never failed is no cause
no_failure : (did : Bool) → Failed did 0 0 → did ≡ false
no_failure true rose = absurd (omega (arith, rose))
no_failure false same = refl

-- ---- what was read

-- some of what was kept are no more than all
filter_less : {A : Type 0} (keeps : A → Bool) (xs : List A) → length (filter keeps xs) ≤ length xs
filter_less keeps [] = omega arith
filter_less keeps (x ∷ xs) = kept (keeps x) (filter_less keeps xs)
  where
    kept : (c : Bool) → length (filter keeps xs) ≤ length xs → length (cond c (x ∷ filter keeps xs) (filter keeps xs)) ≤ suc (length xs)
    kept true less = omega (arith, less)
    kept false less = omega (arith, less)

-- a front of bytes has no more lines than the bytes
lines_less : (read left : List ℕ) → length (all_lines read) ≤ length (all_lines (read ++ left))
lines_less read left =
    let more = (split ((split read).1 ++ left)).0 in
    let counted : length (split (read ++ left)).0 ≡ length (split read).0 + length more =
    ap (λ (p : List (List ℕ) × List ℕ). length p.0) (split-append read left) ∙ length-append (split read).0 more in
    let few : length (all_lines read) ≡ length (split read).0 + 1 = length-append (split read).0 ((split read).1 ∷ []) in
    let many : length (all_lines (read ++ left)) ≡ length (split (read ++ left)).0 + 1 =
    length-append (split (read ++ left)).0 ((split (read ++ left)).1 ∷ []) in
    omega (arith, counted, few, many)

-- a load has few lines
few_lines : (n : ℕ) → n ≤ 600 → length (all_lines (with_ends (lines n))) ≤ 601
few_lines n h =
    let same : length (all_lines (with_ends (lines n))) ≡ length (lines n) + 1 =
    ap (λ (p : List (List ℕ) × List ℕ). length (p.0 ++ p.1 ∷ [])) (lines_cut n n (omega (arith, h)))
    ∙ length-append (lines n) ([] ∷ []) in
    omega (arith, h, same, as_many n n)

module _ (n : ℕ) (small : n ≤ 600) (read left : List ℕ) (all : with_ends (lines n) ≡ read ++ left) where
  too_many : most_postings ≤ length (sent_lines (all_lines read)) → ⊥
  too_many many =
      let sent_less = filter_less (λ line. not (is_blank line)) (all_lines read) in
      let less = subst (λ bytes. length (all_lines read) ≤ length (all_lines bytes)) (sym all) (lines_less read left) in
      omega (arith, many, sent_less, less, few_lines n small)

  -- all of it
  all_read : (left ≡ []) ⊎ (most_postings ≤ length (sent_lines (all_lines read))) → read ≡ with_ends (lines n)
  all_read (inl none) = sym (all ∙ ap (λ l. read ++ l) none ∙ append-nil read)
  all_read (inr many) = absurd (too_many many)

  -- and so the lines came in
  lines_came : (came : List Came) → read ≡ with_ends (lines n) → came ≡ come_in (sent_lines (all_lines read))
      → came ≡ map line_in (lines n)
  lines_came came entire is =
      is ∙ ap (λ bytes. come_in (sent_lines (all_lines bytes))) entire
      ∙ ap come_in (sent n (omega (arith, small)))
      ∙ take_all most_postings (map line_in (lines n)) (omega (arith, small, length-map (lines n) line_in, as_many n n))

-- what comes in, where nothing fails: all that was read, once all was read
record IsEntire (left read : List ℕ) (came : List Came) : Type 0 where
  over : (left ≡ []) ⊎ (most_postings ≤ length (sent_lines (all_lines read)))
  came_in : came ≡ come_in (sent_lines (all_lines read))

nothing_halts : (c : Causes) → c.output ≡ false → c.notes ≡ false → halts c ≡ true → ⊥
nothing_halts c output notes h = true≢false (sym h ∙ rw (output, notes) refl)

module _ (c : Causes) (output : c.output ≡ false) (notes : c.notes ≡ false) (bytes left read : List ℕ) (came : List Came) where
  is_entire : CameIn c (record { unread = Some bytes; faults = 0 }) (record { unread = Some left; faults = 0 }) read came
      → IsEntire left read came
  is_entire (whole same goes over is) = record { over = over; came_in = is }
  is_entire (cut rose goes is) = absurd (true≢false (no_failure true rose))
  is_entire (halted h part) = absurd (nothing_halts c output notes h)
  is_entire (halted_at_end h same over part) = absurd (nothing_halts c output notes h)

-- ---- the run of a load

-- what it meets: a source of bytes, and sinks that keep nothing
abbrev meets : List ℕ → DoorsTold → LinkTold → Outside
meets unread doors link = record {
  source = record { unread = Some unread; faults = 0 };
  output = record { written = None; faults = 0 };
  notes = record { written = None; faults = 0 };
  doors = doors;
  link = link;
}

abbrev met : List ℕ → List ℕ → DoorsTold → LinkTold → LinkTold → Around
met bytes left doors link link_now = record { before = meets bytes doors link; now = meets left doors link_now }

module _ (parts : ProgramParts) (text : List ℕ) (n : ℕ) (small : n ≤ 600) (left : List ℕ) (doors : DoorsTold) (link link_now : LinkTold) where
  loaded : (ended : Ended) → IsLined (task parts text) (met (with_ends (lines n)) left doors link link_now) ended → IsLoaded parts text n ended
  loaded ended lined =
      let causes = lined.ran.status.causes in
      let output = no_failure causes.output lined.ran.status.output in
      let notes = no_failure causes.notes lined.ran.status.notes in
      let entire = is_entire causes output notes (with_ends (lines n)) left lined.traffic.read lined.ran.came lined.came_in in
      let read = all_read n small lined.traffic.read left lined.read entire.over in
      record {
        around = met (with_ends (lines n)) left doors link link_now;
        lined = lined;
        given = refl;
        source = no_failure causes.source lined.ran.status.source;
        output = output;
        notes = notes;
        read = read;
        posted = lined.ran.posted
            ∙ ap (λ came. posts_of 0 (map posting_of came)) (lines_came n small lined.traffic.read left lined.read lined.ran.came read entire.came_in);
      }

  pub run_loaded : (bytes : List ℕ) (r : Result Ended AllocError) → bytes ≡ with_ends (lines n)
      → IfOk r (IsLined (task parts text) (met bytes left doors link link_now)) → IfOk r (IsLoaded parts text n)
  run_loaded bytes (Ok ended) is lined =
      loaded ended (subst (λ b. IsLined (task parts text) (met b left doors link link_now) ended) is lined)
  run_loaded bytes (Err e) is lined = tt
