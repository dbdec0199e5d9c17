-- What a front over lines wrote, as more is sent to it.
use Rattle.std.proofs.Common.{◌≡◌, ◌≢◌, refl, sym, ap, subst, ◌∙◌, ℕ, ◌+◌, ◌-◌, ◌^◌, ◌<◌, ◌≤◌, min, nat_lt, Bool, true, false, arith, List, [], ◌∷◌, ◌++◌, length, take, drop}
use Rattle.std.proofs.Common.{append_assoc, append-nil, inl, inr}
use Rattle.std.specs.Io.KnownBytes.{Appends}
use Rattle.std.proofs.KnownBytes.{Appends-trans}
use Rattle.std.proofs.lemmas.Bool.{ltb-true, ltb-false, true≢false}
use Rattle.std.proofs.lemmas.List.{take_all, take-append-drop, length-drop}
use Rattle.std.proofs.lemmas.List.Concat.{flat_map-append}
use Rattle.outside_traits.specs.Causes.{Rose}
use Rattle.behaviour_tree.specs.Data.{ProgramParts}
use Rattle.run_theorem.specs.Exchange.{Told, Sent}
use Rattle.run_theorem.specs.Calls.{Halts}
use Rattle.run_theorem.specs.Texts.{Came}
use Rattle.run_theorem.specs.Lines.{IsPrefix, IsProperPrefix}
use Rattle.run_lines.specs.Told.{line_told, lines_told}
use Rattle.outside_traits.specs.Told.{SinkTold}
use Rattle.outside_writing.specs.Sinks.{Takes}
use Rattle.run_lines.specs.Writing.{Output, faults_of, Due, HasWritten, entire, in_lines, in_notes, HasSent}

-- ---- fronts of longer lists

-- a front stays one where more stands behind
IsPrefix-longer : (xs ys zs : List ℕ) → IsPrefix xs ys → IsPrefix xs (ys ++ zs)
IsPrefix-longer xs ys zs f = (f.0 ++ zs, sym (append_assoc xs f.0 zs) ∙ ap (λ l. l ++ zs) f.1)

-- what is not empty stays so
longer_is_some : (xs ys : List ℕ) → xs ≢ [] → (xs ++ ys) ≢ []
longer_is_some [] ys some none = some refl
longer_is_some (x ∷ xs) ys some none = let clash : (x ∷ (xs ++ ys)) ≡ [] = none in cc

-- so does one that is not all of it
IsProperPrefix-longer : (xs ys zs : List ℕ) → IsProperPrefix xs ys → IsProperPrefix xs (ys ++ zs)
IsProperPrefix-longer xs ys zs f = (f.0 ++ zs, longer_is_some f.0 zs f.1, sym (append_assoc xs f.0 zs) ∙ ap (λ l. l ++ zs) f.2)

-- what is left of a text that was not taken whole
dropped_is_some : (n : ℕ) (text : List ℕ) → n < length text → drop n text ≢ []
dropped_is_some n text lt none =
    let long : length (drop n text) ≡ length text - n = length-drop n text in let short : length (drop n text) ≡ 0 = ap length none in omega arith

-- a part of a text behind others
part_is_proper : (xs text : List ℕ) (n : ℕ) → n < length text → IsProperPrefix (xs ++ take n text) (xs ++ text)
part_is_proper xs text n lt = (
  drop n text,
  dropped_is_some n text lt,
  append_assoc xs (take n text) (drop n text) ∙ ap (λ l. xs ++ l) (take-append-drop n text),
)

-- all stands at its front
front_of_all : (xs ys : List ℕ) → xs ≡ ys → IsPrefix xs ys
front_of_all xs ys e = ([], append-nil xs ∙ e)

-- ---- counts

-- two counts together rise where one does
rose_left : (a b n : ℕ) → Rose a b → Rose (min (a + n) (2 ^ 64 - 1)) (min (b + n) (2 ^ 64 - 1))
rose_left a b n rose = omega arith

rose_right : (a b n : ℕ) → Rose a b → Rose (min (n + a) (2 ^ 64 - 1)) (min (n + b) (2 ^ 64 - 1))
rose_right a b n rose = omega arith

-- ---- lines

-- the lines of one place more
pub lines_told-more : (parts : ProgramParts) (came : List Came) (told : List Told) (t : Told)
    → lines_told parts came (told ++ t ∷ []) ≡ lines_told parts came told ++ line_told parts came t
lines_told-more parts came told t =
    flat_map-append (line_told parts came) told (t ∷ []) ∙ ap (λ l. lines_told parts came told ++ l) (append-nil (line_told parts came t))

-- ---- what is due grows

-- a front that halted writes nothing more where it is told more
lines_cut : (first now : Output) (notes_failed : Bool) (noted : List ℕ) (old new : Due) (text : List ℕ) → now.halted ≡ true
    → new.lines ≡ old.lines ++ text → new.notes ≡ old.notes → HasWritten first now notes_failed noted old → HasWritten first now notes_failed noted new
lines_cut first now notes_failed noted old new text halted l n (entire running u a b c d) = absurd (true≢false (sym halted ∙ running))
lines_cut first now notes_failed noted old new text halted l n (in_lines e u rose unfailed all part) =
    in_lines e u rose unfailed (all ∙ sym n) (subst (IsProperPrefix now.written) (sym l) (IsProperPrefix-longer now.written old.lines text part))
lines_cut first now notes_failed noted old new text halted l n (in_notes e m rose unfailed front part) =
    in_notes e m rose unfailed (subst (IsPrefix now.written) (sym l) (IsPrefix-longer now.written old.lines text front))
    (subst (IsProperPrefix noted) (sym n) part)

-- nor where a text is noted behind a note that failed
notes_cut : (first now : Output) (notes_failed : Bool) (noted : List ℕ) (old new : Due) (text : List ℕ) → notes_failed ≡ true
    → new.lines ≡ old.lines → new.notes ≡ old.notes ++ text → HasWritten first now notes_failed noted old → HasWritten first now notes_failed noted new
notes_cut first now notes_failed noted old new text is l n (entire running u a b c d) = absurd (true≢false (sym is ∙ u))
notes_cut first now notes_failed noted old new text is l n (in_lines e u rose unfailed all part) = absurd (true≢false (sym is ∙ u))
notes_cut first now notes_failed noted old new text is l n (in_notes e m rose unfailed front part) =
    in_notes e m rose unfailed (subst (IsPrefix now.written) (sym l) front)
    (subst (IsProperPrefix noted) (sym n) (IsProperPrefix-longer noted old.notes text part))

-- what is known of a front that did not halt
record IsWhole (first now : Output) (notes_failed : Bool) (noted : List ℕ) (due : Due) : Type 0 where
  notes_unfailed : notes_failed ≡ false
  lines_unfailed : now.lines.faults ≡ first.lines.faults
  notes_silent : now.notes.faults ≡ first.notes.faults
  written : now.written ≡ due.lines
  all_noted : noted ≡ due.notes

whole_so : (first now : Output) (notes_failed : Bool) (noted : List ℕ) (due : Due) → now.halted ≡ false → HasWritten first now notes_failed noted due
    → IsWhole first now notes_failed noted due
whole_so first now notes_failed noted due running (entire e u a b c d) =
    record { notes_unfailed = u; lines_unfailed = a; notes_silent = b; written = c; all_noted = d }
whole_so first now notes_failed noted due running (in_lines e u rose unfailed all part) = absurd (true≢false (sym e ∙ running))
whole_so first now notes_failed noted due running (in_notes e m rose unfailed front part) = absurd (true≢false (sym e ∙ running))

-- a text behind the lines that were written
lines_go : (first before now : Output) (notes_failed : Bool) (noted text : List ℕ) (old new : Due) (count : ℕ) (short : Bool) → nat_lt count (length text) ≡ short → now.halted ≡ short
    → Takes text count before.lines now.lines → now.notes ≡ before.notes → now.written ≡ before.written ++ take count text
    → new.lines ≡ old.lines ++ text → new.notes ≡ old.notes → IsWhole first before notes_failed noted old → HasWritten first now notes_failed noted new
lines_go first before now notes_failed noted text old new count true test halted takes same written l n w =
    let lt : count < length text = ltb-true count (length text) test in
    let is : now.written ≡ old.lines ++ take count text = written ∙ ap (λ b. b ++ take count text) w.written in
    in_lines halted w.notes_unfailed (subst (λ k. Rose k now.lines.faults) w.lines_unfailed (takes.cause lt))
    (ap (λ (t : SinkTold). t.faults) same ∙ w.notes_silent) (w.all_noted ∙ sym n)
    (subst (λ b. IsProperPrefix b new.lines) (sym is) (subst (IsProperPrefix (old.lines ++ take count text)) (sym l) (part_is_proper old.lines text count lt)))
lines_go first before now notes_failed noted text old new count false test halted takes same written l n w =
    let le : length text ≤ count = ltb-false count (length text) test in
    let within = takes.within in
    let full : take count text ≡ text = take_all count text le in
    entire halted w.notes_unfailed (takes.unfailed (omega arith) ∙ w.lines_unfailed) (ap (λ (t : SinkTold). t.faults) same ∙ w.notes_silent)
    (written ∙ ap (λ b. b ++ take count text) w.written ∙ ap (λ t. old.lines ++ t) full ∙ sym l) (w.all_noted ∙ sym n)

-- a text behind the notes that were written
notes_go : (first before now : Output) (notes_failed : Bool) (noted text : List ℕ) (old new : Due) (count : ℕ) (short : Bool) → nat_lt count (length text) ≡ short → now.halted ≡ short
    → Takes text count before.notes now.notes → now.lines ≡ before.lines → now.written ≡ before.written
    → new.lines ≡ old.lines → new.notes ≡ old.notes ++ text → IsWhole first before notes_failed noted old
    → HasWritten first now short (noted ++ take count text) new
notes_go first before now notes_failed noted text old new count true test halted takes same written l n w =
    let lt : count < length text = ltb-true count (length text) test in
    let is : noted ++ take count text ≡ old.notes ++ take count text = ap (λ b. b ++ take count text) w.all_noted in
    in_notes halted refl (subst (λ k. Rose k now.notes.faults) w.notes_silent (takes.cause lt))
    (ap (λ (t : SinkTold). t.faults) same ∙ w.lines_unfailed) (front_of_all now.written new.lines (written ∙ w.written ∙ sym l))
    (subst (λ b. IsProperPrefix b new.notes) (sym is) (subst (IsProperPrefix (old.notes ++ take count text)) (sym n) (part_is_proper old.notes text count lt)))
notes_go first before now notes_failed noted text old new count false test halted takes same written l n w =
    let le : length text ≤ count = ltb-false count (length text) test in
    let within = takes.within in
    let full : take count text ≡ text = take_all count text le in
    entire halted refl (ap (λ (t : SinkTold). t.faults) same ∙ w.lines_unfailed) (takes.unfailed (omega arith) ∙ w.notes_silent)
    (written ∙ w.written ∙ sym l) (ap (λ b. b ++ take count text) w.all_noted ∙ ap (λ t. old.notes ++ t) full ∙ sym n)

-- ---- halts

-- nothing was written
halts_still : (before now : Sent) → now.halted ≡ before.halted → now.faults ≡ before.faults → Halts before now
halts_still before now same unfailed = record {
  cause = λ e. inl (sym same ∙ e);
  unfailed = λ e. (sym same ∙ e, unfailed);
  faults = omega arith;
}

-- a text was written as far as a sink took it
halts_so : (before now : Sent) (text : List ℕ) (count : ℕ) (old new : SinkTold) → before.halted ≡ false → now.halted ≡ nat_lt count (length text)
    → Takes text count old new → (old.faults ≡ new.faults → now.faults ≡ before.faults) → (Rose old.faults new.faults → Rose before.faults now.faults) → before.faults ≤ now.faults
    → Halts before now
halts_so before now text count old new running halted takes unfailed rose later = record {
  cause = λ e. inr (rose (takes.cause (ltb-true count (length text) (sym halted ∙ e))));
  unfailed = λ e.
      let le : length text ≤ count = ltb-false count (length text) (sym halted ∙ e) in
      let within = takes.within in (running, unfailed (sym (takes.unfailed (omega arith))));
  faults = later;
}

-- ---- what is sent

module _ (parts : ProgramParts) (came : List Came) (first before : Output) (s : Sent) (h : HasSent parts came first before s) where
  -- a front that halted is told of a place
  pub told-halted : (t : Told) → before.halted ≡ true
      → (after : Sent) × (it : HasSent parts came first before after) × (after.told ≡ s.told ++ t ∷ []) × (after.noted ≡ s.noted)
      × (after.notes_failed ≡ s.notes_failed) × Halts s after × IsPrefix before.written before.written × IsPrefix h.notes it.notes
  told-halted t halted =
      let after : Sent = record { told = s.told ++ t ∷ []; noted = s.noted; halted = s.halted; notes_failed = s.notes_failed; faults = s.faults } in (
        after,
        record {
          written = h.written;
          notes = h.notes;
          noted = h.noted;
          halted = h.halted;
          wrote = lines_cut first before s.notes_failed h.notes (record { lines = lines_told parts came s.told; notes = s.noted })
              (record { lines = lines_told parts came (s.told ++ t ∷ []); notes = s.noted }) (line_told parts came t) halted
              (lines_told-more parts came s.told t) refl h.wrote;
          faults = h.faults;
        },
        refl,
        refl,
        refl,
        halts_still s after refl refl,
        front_of_all before.written before.written refl,
        front_of_all h.notes h.notes refl,
      )

  -- a text is noted to a front that halted, by no answer
  pub noted-halted : (text : List ℕ) → before.halted ≡ true → s.notes_failed ≡ s.halted
      → (after : Sent) × (it : HasSent parts came first before after) × (after.told ≡ s.told) × (after.noted ≡ s.noted ++ text)
      × (after.notes_failed ≡ after.halted) × Halts s after × IsPrefix before.written before.written × IsPrefix h.notes it.notes
  noted-halted text halted mutes =
      let after : Sent = record { told = s.told; noted = s.noted ++ text; halted = s.halted; notes_failed = s.notes_failed; faults = s.faults } in (
        after,
        record {
          written = h.written;
          notes = h.notes;
          noted = h.noted;
          halted = h.halted;
          wrote = notes_cut first before s.notes_failed h.notes (record { lines = lines_told parts came s.told; notes = s.noted })
              (record { lines = lines_told parts came s.told; notes = s.noted ++ text }) text (mutes ∙ h.halted ∙ halted)
              refl refl h.wrote;
          faults = h.faults;
        },
        refl,
        refl,
        mutes,
        halts_still s after refl refl,
        front_of_all before.written before.written refl,
        front_of_all h.notes h.notes refl,
      )

  -- what is due so far was written whole
  whole_now : before.halted ≡ false → IsWhole first before s.notes_failed h.notes (record { lines = lines_told parts came s.told; notes = s.noted })
  whole_now running = whole_so first before s.notes_failed h.notes (record { lines = lines_told parts came s.told; notes = s.noted }) running h.wrote

  -- a front is told of a place, and its line is written as far as the output takes it
  pub told-written : (t : Told) (now : Output) (text : List ℕ) (count : ℕ) → before.halted ≡ false → text ≡ line_told parts came t
      → Takes text count before.lines now.lines → now.notes ≡ before.notes → now.written ≡ before.written ++ take count text → now.halted ≡ nat_lt count (length text)
      → (after : Sent) × (it : HasSent parts came first now after) × (after.told ≡ s.told ++ t ∷ []) × (after.noted ≡ s.noted)
      × (after.notes_failed ≡ s.notes_failed) × Halts s after × IsPrefix before.written now.written × IsPrefix h.notes it.notes
  told-written t now text count running is takes same written halted =
      let after : Sent = record { told = s.told ++ t ∷ []; noted = s.noted; halted = now.halted; notes_failed = s.notes_failed; faults = faults_of now } in
      let other : now.notes.faults ≡ before.notes.faults = ap (λ (x : SinkTold). x.faults) same in
      let later = takes.later in
      let count_is : s.faults ≡ min (before.lines.faults + before.notes.faults) (2 ^ 64 - 1) = h.faults in (
        after,
        record {
          written = subst (Appends first.lines.written now.lines.written) (sym written)
              (Appends-trans first.lines.written before.lines.written now.lines.written before.written (take count text) h.written takes.taken);
          notes = h.notes;
          noted = subst (λ x. Appends first.notes.written x h.notes) (sym (ap (λ (x : SinkTold). x.written) same)) h.noted;
          halted = refl;
          wrote = lines_go first before now s.notes_failed h.notes text (record { lines = lines_told parts came s.told; notes = s.noted })
              (record { lines = lines_told parts came (s.told ++ t ∷ []); notes = s.noted }) count now.halted (sym halted) refl takes same written
              (lines_told-more parts came s.told t ∙ ap (λ l. lines_told parts came s.told ++ l) (sym is)) refl (whole_now running);
          faults = refl;
        },
        refl,
        refl,
        refl,
        halts_so s after text count before.lines now.lines (h.halted ∙ running) halted takes
            (λ e. ap (λ k. min (k + now.notes.faults) (2 ^ 64 - 1)) (sym e) ∙ ap (λ k. min (before.lines.faults + k) (2 ^ 64 - 1)) other ∙ sym h.faults)
            (λ rose. subst (λ k. Rose k (faults_of now)) (ap (λ k. min (before.lines.faults + k) (2 ^ 64 - 1)) other ∙ sym h.faults) (rose_left before.lines.faults now.lines.faults now.notes.faults rose))
            (omega arith),
        (take count text, sym written),
        front_of_all h.notes h.notes refl,
      )

  -- a text is noted, as far as the notes' sink takes it
  pub noted-written : (now : Output) (text : List ℕ) (count : ℕ) → before.halted ≡ false
      → Takes text count before.notes now.notes → now.lines ≡ before.lines → now.written ≡ before.written → now.halted ≡ nat_lt count (length text)
      → (after : Sent) × (it : HasSent parts came first now after) × (after.told ≡ s.told) × (after.noted ≡ s.noted ++ text)
      × (after.notes_failed ≡ after.halted) × Halts s after × IsPrefix before.written now.written × IsPrefix h.notes it.notes
  noted-written now text count running takes same written halted =
      let after : Sent = record { told = s.told; noted = s.noted ++ text; halted = now.halted; notes_failed = now.halted; faults = faults_of now } in
      let other : now.lines.faults ≡ before.lines.faults = ap (λ (x : SinkTold). x.faults) same in
      let later = takes.later in
      let count_is : s.faults ≡ min (before.lines.faults + before.notes.faults) (2 ^ 64 - 1) = h.faults in (
        after,
        record {
          written = subst (Appends first.lines.written now.lines.written) (sym written) (subst (λ x. Appends first.lines.written x before.written) (sym (ap (λ (x : SinkTold). x.written) same)) h.written);
          notes = h.notes ++ take count text;
          noted = Appends-trans first.notes.written before.notes.written now.notes.written h.notes (take count text) h.noted takes.taken;
          halted = refl;
          wrote = notes_go first before now s.notes_failed h.notes text (record { lines = lines_told parts came s.told; notes = s.noted })
              (record { lines = lines_told parts came s.told; notes = s.noted ++ text }) count now.halted (sym halted) refl takes same written
              refl refl (whole_now running);
          faults = refl;
        },
        refl,
        refl,
        refl,
        halts_so s after text count before.notes now.notes (h.halted ∙ running) halted takes
            (λ e. ap (λ k. min (now.lines.faults + k) (2 ^ 64 - 1)) (sym e) ∙ ap (λ k. min (k + before.notes.faults) (2 ^ 64 - 1)) other ∙ sym h.faults)
            (λ rose. subst (λ k. Rose k (faults_of now)) (ap (λ k. min (k + before.notes.faults) (2 ^ 64 - 1)) other ∙ sym h.faults) (rose_right before.notes.faults now.notes.faults now.lines.faults rose))
            (omega arith),
        front_of_all before.written now.written (sym written),
        (take count text, refl),
      )
