-- What a front over doors noted, as more is sent to it.
use Rattle.std.proofs.Common.{◌≡◌, ◌≢◌, refl, sym, ap, subst, ◌∙◌, ℕ, ◌+◌, ◌-◌, ◌<◌, ◌≤◌, nat_lt, Bool, true, false, arith, List, [], ◌∷◌, ◌++◌, length, take, drop}
use Rattle.std.proofs.Common.{append_assoc, append-nil, inl, inr, true≢false}
use Rattle.std.proofs.KnownBytes.{Appends-trans}
use Rattle.std.proofs.lemmas.Bool.{ltb-true, ltb-false}
use Rattle.std.proofs.lemmas.List.{take_all, take-append-drop, length-drop}
use Rattle.outside_traits.specs.Causes.{Rose}
use Rattle.run_theorem.specs.Exchange.{Told, Sent}
use Rattle.run_theorem.specs.Calls.{Halts}
use Rattle.run_theorem.specs.Lines.{IsPrefix, IsProperPrefix}
use Rattle.run_door_front.specs.Keeping.{Keeping}
use Rattle.outside_traits.specs.Told.{SinkTold}
use Rattle.outside_writing.specs.Sinks.{Takes}
use Rattle.run_door_front.specs.Exchanged.{Sides, sides_of, HasNoted, entire, in_part, HasSent}

-- ---- fronts of longer lists

-- what is not empty stays so
longer_is_some : (xs ys : List ℕ) → xs ≢ [] → (xs ++ ys) ≢ []
longer_is_some [] ys some none = some refl
longer_is_some (x ∷ xs) ys some none = let clash : (x ∷ (xs ++ ys)) ≡ [] = none in cc

-- a front that is not all of it stays so
IsProperPrefix-longer : (xs ys zs : List ℕ) → IsProperPrefix xs ys → IsProperPrefix xs (ys ++ zs)
IsProperPrefix-longer xs ys zs f = (f.0 ++ zs, longer_is_some f.0 zs f.1, sym (append_assoc xs f.0 zs) ∙ ap (λ l. l ++ zs) f.2)

-- what is left of a text that was not taken whole
dropped_is_some : (n : ℕ) (text : List ℕ) → n < length text → drop n text ≢ []
dropped_is_some n text lt none =
    let long : length (drop n text) ≡ length text - n = length-drop n text in let short : length (drop n text) ≡ 0 = ap length none in omega arith

-- a part of a text behind others
part_is_proper : (xs text : List ℕ) (n : ℕ) → n < length text → IsProperPrefix (xs ++ take n text) (xs ++ text)
part_is_proper xs text n lt = (
  drop n text,
  dropped_is_some n text lt,
  append_assoc xs (take n text) (drop n text) ∙ ap (λ l. xs ++ l) (take-append-drop n text),
)

-- ---- what was sent, by the same notes

-- a front is told more
pub noted_told : (first now : SinkTold) (s after : Sent) (notes : List ℕ) → after.halted ≡ s.halted → after.noted ≡ s.noted
    → HasNoted first now s notes → HasNoted first now after notes
noted_told first now s after notes halted same (entire running unfailed is) = entire (halted ∙ running) unfailed (is ∙ sym same)
noted_told first now s after notes halted same (in_part cut rose part) =
    in_part (halted ∙ cut) rose (subst (IsProperPrefix notes) (sym same) part)

-- a text is noted behind a cut
noted_cut : (first now : SinkTold) (s after : Sent) (notes text : List ℕ) → s.halted ≡ true → after.halted ≡ true
    → after.noted ≡ s.noted ++ text → HasNoted first now s notes → HasNoted first now after notes
noted_cut first now s after notes text cut halted more (entire running unfailed is) = absurd (true≢false (sym cut ∙ running))
noted_cut first now s after notes text cut halted more (in_part is_cut rose part) =
    in_part halted rose (subst (IsProperPrefix notes) (sym more) (IsProperPrefix-longer notes s.noted text part))

-- ---- what was sent, by more notes

-- A front that did not halt noted all.
record IsWhole (first now : SinkTold) (s : Sent) (notes : List ℕ) : Type 0 where
  unfailed : now.faults ≡ first.faults
  noted : notes ≡ s.noted

whole_so : (first now : SinkTold) (s : Sent) (notes : List ℕ) → s.halted ≡ false → HasNoted first now s notes → IsWhole first now s notes
whole_so first now s notes running (entire is unfailed same) = record { unfailed = unfailed; noted = same }
whole_so first now s notes running (in_part cut rose part) = absurd (true≢false (sym cut ∙ running))

-- so the sink took all of it
pub noted_all : (first now : SinkTold) (s : Sent) (notes : List ℕ) → s.halted ≡ false → HasNoted first now s notes
    → IsPrefix s.noted notes
noted_all first now s notes running k = ([], append-nil s.noted ∙ sym (whole_so first now s notes running k).noted)

-- a text is noted, as far as the sink takes it
noted_more : (first before now : SinkTold) (s after : Sent) (notes text : List ℕ) (count : ℕ) (short : Bool) → nat_lt count (length text) ≡ short
    → after.halted ≡ short → after.noted ≡ s.noted ++ text → Takes text count before now → IsWhole first before s notes
    → HasNoted first now after (notes ++ take count text)
noted_more first before now s after notes text count true test halted more takes w =
    let lt : count < length text = ltb-true count (length text) test in
    in_part halted (subst (λ k. Rose k now.faults) w.unfailed (takes.cause lt))
    (subst (λ x. IsProperPrefix (x ++ take count text) after.noted) (sym w.noted)
    (subst (IsProperPrefix (s.noted ++ take count text)) (sym more) (part_is_proper s.noted text count lt)))
noted_more first before now s after notes text count false test halted more takes w =
    let le : length text ≤ count = ltb-false count (length text) test in
    let within = takes.within in
    let full : take count text ≡ text = take_all count text le in
    entire halted (takes.unfailed (omega arith) ∙ w.unfailed)
    (ap (λ t. notes ++ t) full ∙ ap (λ x. x ++ text) w.noted ∙ sym more)

-- ---- halts

-- nothing was written
pub halts_still : (before now : Sent) → now.halted ≡ before.halted → now.faults ≡ before.faults → Halts before now
halts_still before now same unfailed = record {
  cause = λ e. inl (sym same ∙ e);
  unfailed = λ e. (sym same ∙ e, unfailed);
  faults = omega arith;
}

-- a text was written as far as the sink took it
halts_so : (before now : Sent) (text : List ℕ) (count : ℕ) (old new : SinkTold) → before.halted ≡ false → now.halted ≡ nat_lt count (length text)
    → before.faults ≡ old.faults → now.faults ≡ new.faults → Takes text count old new → Halts before now
halts_so before now text count old new running halted was is takes =
    let later = takes.later in
    record {
      cause = λ e.
          let rose : Rose old.faults new.faults = takes.cause (ltb-true count (length text) (sym halted ∙ e)) in
          inr (subst (λ n. Rose n now.faults) (sym was) (subst (Rose old.faults) (sym is) rose));
      unfailed = λ e.
          let le : length text ≤ count = ltb-false count (length text) (sym halted ∙ e) in
          let within = takes.within in
          let unfailed : new.faults ≡ old.faults = takes.unfailed (omega arith) in (running, is ∙ unfailed ∙ sym was);
      faults = omega arith;
    }

-- memory ran out, and it may have halted since
pub halts_unknown : (before now : Sent) → now.faults ≡ before.faults + 1 → now.halted ≡ true → Halts before now
halts_unknown before now more cut = record {
  cause = λ e. inr (let rose : Rose before.faults now.faults = omega arith in rose);
  unfailed = λ e. absurd (true≢false (sym cut ∙ e));
  faults = omega arith;
}

-- ---- what is sent

-- A text was noted, behind what the sink had taken.
pub record NotesSo (first now : Sides) (s : Sent) (taken text : List ℕ) : Type 0 where
  pub after : Sent
  pub sent : HasSent first now after
  pub grew : IsPrefix taken sent.notes
  pub told : after.told ≡ s.told
  pub noted : after.noted ≡ s.noted ++ text
  pub notes_failed : after.notes_failed ≡ after.halted
  pub halts : Halts s after
  pub stays : after.halted ≡ false → s.halted ≡ false

module _ (first before : Sides) (s : Sent) (h : HasSent first before s) where
  -- a front is told of a place
  abbrev pub sent_told : (kept : Keeping) (t : Told) → kept.halted ≡ before.kept.halted
      → HasSent first (sides_of kept before.notes) (record s { told = s.told ++ t ∷ [] })
  sent_told kept t same = record {
    notes = h.notes;
    written = h.written;
    noted = noted_told first.notes before.notes s (record s { told = s.told ++ t ∷ [] }) h.notes refl refl h.noted;
    halted = h.halted ∙ sym same;
    notes_failed = h.notes_failed;
    faults = h.faults;
  }

  -- a text is noted to a front that halted
  pub sent_cut : (text : List ℕ) → before.kept.halted ≡ true → NotesSo first before s h.notes text
  sent_cut text cut =
      let after : Sent = record s { noted = s.noted ++ text } in
      record {
        after = after;
        sent = record {
          notes = h.notes;
          written = h.written;
          noted = noted_cut first.notes before.notes s after h.notes text (h.halted ∙ cut) (h.halted ∙ cut) refl h.noted;
          halted = h.halted;
          notes_failed = h.notes_failed;
          faults = h.faults;
        };
        grew = ([], append-nil h.notes);
        told = refl;
        noted = refl;
        notes_failed = h.notes_failed;
        halts = halts_still s after refl refl;
        stays = λ e. e;
      }

  -- a text is noted, as far as the sink takes it
  pub sent_noted : (halted : Bool) (notes : SinkTold) (text : List ℕ) (count : ℕ) → before.kept.halted ≡ false
      → halted ≡ nat_lt count (length text) → Takes text count before.notes notes
      → NotesSo first (sides_of (record before.kept { halted = halted }) notes) s h.notes text
  sent_noted halted notes text count running cut takes =
      let after : Sent = record { told = s.told; noted = s.noted ++ text; halted = halted; notes_failed = halted; faults = notes.faults } in
      record {
        after = after;
        sent = record {
          notes = h.notes ++ take count text;
          written = Appends-trans first.notes.written before.notes.written notes.written h.notes (take count text) h.written takes.taken;
          noted = noted_more first.notes before.notes notes s after h.notes text count halted (sym cut) refl refl takes
              (whole_so first.notes before.notes s h.notes (h.halted ∙ running) h.noted);
          halted = refl;
          notes_failed = refl;
          faults = refl;
        };
        grew = (take count text, refl);
        told = refl;
        noted = refl;
        notes_failed = refl;
        halts = halts_so s after text count before.notes notes (h.halted ∙ running) cut h.faults refl takes;
        stays = λ e. h.halted ∙ running;
      }
