-- Reads in a row.
use Rattle.std.proofs.Common.{◌≡◌, ◌<◌, ◌≤◌, ℕ, ◌==◌, Bool, true, false, not, ◌&&◌, ◌||◌, List, [], ◌∷◌, ◌++◌, length, Some, None, sym, refl, ap, ◌∙◌, subst, arith, length-append, append_assoc, append-nil}
use Rattle.std.proofs.lemmas.Bool.{ne_eqb}
use Rattle.std.specs.Prelude.{Option, MatchResult, Result, Ok, Err}
use Rattle.std.specs.Io.KnownBytes.{Appends}
use Rattle.std.proofs.KnownBytes.{Appends-nil, Appends-trans}
use Rattle.outside_traits.specs.Calls.{tells_end}
use Rattle.outside_traits.specs.Told.{Lists}
use Rattle.outside_traits.specs.declared.calls.WireCall.{WireCall}
use Rattle.outside_traits.specs.declared.calls.WireCall.TheVariants.{Read}
use Rattle.outside_dials.specs.Dials.{WireTraffic}
use Rattle.http_port.proofs.CallLemmas.{Notes-nil}
use Rattle.http_link.specs.Responses.{IsUnfinished}
use Rattle.http_link.specs.Trips.{Reads, no_more, gives, ends, most_read}
use Rattle.http_link.specs.Steps.{IsUnfailed, IsLost, IsCut, Heard, HeardInPart}

-- ---- what a wire tells of its failures and its end

or_false : (b : Bool) → b ≡ (b || false)
or_false true = refl
or_false false = refl

pub or_true : (b : Bool) → (b || true) ≡ true
or_true true = refl
or_true false = refl

-- no call of it failed or told the end
pub unmoved : (before now : WireTraffic) → now.read_failed ≡ before.read_failed → now.write_failed ≡ before.write_failed → now.ended ≡ before.ended → IsUnfailed before now false
unmoved before now lost cut ended = record { lost = lost; cut = cut; end = ended ∙ or_false before.ended }

-- nothing failed, and then nothing more
pub unfailed_on : (first mid now : WireTraffic) (ended : Bool) → IsUnfailed first mid false → IsUnfailed mid now ended → IsUnfailed first now ended
unfailed_on first mid now ended before c = record {
  lost = c.lost ∙ before.lost;
  cut = c.cut ∙ before.cut;
  end = c.end ∙ ap (λ b. b || ended) (before.end ∙ sym (or_false first.ended));
}

-- a read of an open wire, with room for some bytes, tells the end where it gives none
tells_none : (was now closed : Bool) (room count : ℕ) → now ≡ (was || (not closed && (not (room == 0) && (count == 0))))
    → closed ≡ false → 0 < room → now ≡ (was || (count == 0))
tells_none was now closed room count told is_open some =
    let roomy : (room == 0) ≡ false = ne_eqb room 0 (λ e. omega arith) in
    told
    ∙ ap (λ b. was || (not b && (not (room == 0) && (count == 0)))) is_open
    ∙ ap (λ b. was || (not b && (count == 0))) roomy

-- so a read that did not fail leaves the wire unfailed, and one that failed lost it
pub read_unfailingly : {E : Type 0} (r : Result ℕ E) (before now : WireTraffic) (closed : Bool) (room : ℕ)
    → MatchResult r (λ _. now.read_failed ≡ before.read_failed) (λ _. now.read_failed ≡ true) → now.write_failed ≡ before.write_failed
    → now.ended ≡ (before.ended || tells_end closed room r) → closed ≡ false → 0 < room
    → MatchResult r (λ count. IsUnfailed before now (count == 0)) (λ _. IsLost before now)
read_unfailingly (Ok count) before now closed room lost cut told is_open some =
    record { lost = lost; cut = cut; end = tells_none before.ended now.ended closed room count told is_open some }
read_unfailingly (Err error) before now closed room lost cut told is_open some =
    record { lost = lost; cut = cut; end = told ∙ sym (or_false before.ended) }

-- a write of an open wire that failed cut it
pub cuts : (before now : WireTraffic) (closed : Bool) → now.read_failed ≡ before.read_failed → now.write_failed ≡ (before.write_failed || not closed)
    → now.ended ≡ before.ended → closed ≡ false → IsCut before now
cuts before now closed lost told ended is_open = record {
  lost = lost;
  cut = told ∙ ap (λ b. before.write_failed || not b) is_open ∙ or_true before.write_failed;
  end = ended;
}

-- nothing failed, and then a read did
pub lost_on : (first mid now : WireTraffic) → IsUnfailed first mid false → IsLost mid now → IsLost first now
lost_on first mid now before f = record {
  lost = f.lost;
  cut = f.cut ∙ before.cut;
  end = f.end ∙ before.end ∙ sym (or_false first.ended);
}

-- ---- reads

-- calls behind calls
pub Notes-trans : (a b c : Option (List WireCall)) (xs ys : List WireCall) → Lists a b xs → Lists b c ys → Lists a c (xs ++ ys)
Notes-trans None None None xs ys p q = tt
Notes-trans None None (Some z) xs ys p q = absurd q
Notes-trans None (Some y) c xs ys p q = absurd p
Notes-trans (Some x) None None xs ys p q = tt
Notes-trans (Some x) None (Some z) xs ys p q = absurd q
Notes-trans (Some x) (Some y) None xs ys p q = tt
Notes-trans (Some x) (Some y) (Some z) xs ys p q = q ∙ ap (λ l. l ++ ys) p ∙ append_assoc x xs ys

-- reads behind reads
pub reads_on : (a b c : List ℕ) (xs ys : List WireCall) (ended : Bool) → Reads a xs b false → Reads b ys c ended → Reads a (xs ++ ys) c ended
reads_on a b c xs ys ended p (no_more was) = subst (λ l. Reads a l b false) (sym (append-nil xs)) p
reads_on a b c xs ys ended p (gives was came piece calls q open_ some) =
    subst (λ l. Reads a l (came ++ piece) false) (append_assoc xs calls (Read (length piece) ∷ []))
    (gives a came piece (xs ++ calls) (reads_on a b came xs calls false p q) open_ some)
reads_on a b c xs ys ended p (ends was came calls q open_) =
    subst (λ l. Reads a l came true) (append_assoc xs calls (Read 0 ∷ []))
    (ends a came (xs ++ calls) (reads_on a b came xs calls false p q) open_)

-- no read
pub heard_nothing : (t : WireTraffic) (was : List ℕ) → length was ≤ most_read → Heard t t was was false
heard_nothing t was bounded = record {
  piece = [];
  grown = sym (append-nil was);
  given = Appends-nil t.read;
  taken = refl;
  calls = [];
  noted = Notes-nil t.calls;
  reads = no_more was;
  bounded = bounded;
  unfailed = unmoved t t refl refl refl;
}

-- what one read did to what is told of its wire
pub record Did (before now : WireTraffic) (piece : List ℕ) (count : ℕ) : Type 0 where
  pub given : Appends before.read now.read piece
  pub taken : now.written ≡ before.written
  pub noted : Lists before.calls now.calls (Read count ∷ [])
  pub unfailed : IsUnfailed before now (count == 0)

-- one more, which gave some bytes
pub heard_more : (first before now : WireTraffic) (was came next piece : List ℕ) (count : ℕ) → Heard first before was came false → IsUnfinished came
    → Did before now piece count → next ≡ came ++ piece → length piece ≡ count → 0 < count → length next ≤ most_read → Heard first now was next false
heard_more first before now was came next piece count h open_ did e long some bounded = record {
  piece = h.piece ++ piece;
  grown = e ∙ ap (λ l. l ++ piece) h.grown ∙ append_assoc was h.piece piece;
  given = Appends-trans first.read before.read now.read h.piece piece h.given did.given;
  taken = did.taken ∙ h.taken;
  calls = h.calls ++ Read count ∷ [];
  noted = Notes-trans first.calls before.calls now.calls h.calls (Read count ∷ []) h.noted did.noted;
  reads = subst (λ l. Reads was (h.calls ++ Read count ∷ []) l false) (sym e)
      (subst (λ n. Reads was (h.calls ++ Read n ∷ []) (came ++ piece) false) long
      (gives was came piece h.calls h.reads open_ (subst (λ (n : ℕ). 0 < n) (sym long) some)));
  bounded = bounded;
  unfailed = unfailed_on first before now false h.unfailed (subst (λ e. IsUnfailed before now e) (ne_eqb count 0 (λ e. omega arith)) did.unfailed);
}

-- one more, which found that no more come
pub heard_end : (first before now : WireTraffic) (was came next piece : List ℕ) (count : ℕ) → Heard first before was came false → IsUnfinished came
    → Did before now piece count → next ≡ came ++ piece → length piece ≡ count → count ≡ 0 → length next ≤ most_read → Heard first now was next true
heard_end first before now was came next [] count h open_ did e long none bounded = record {
  piece = h.piece;
  grown = e ∙ append-nil came ∙ h.grown;
  given = subst (Appends first.read now.read) (append-nil h.piece) (Appends-trans first.read before.read now.read h.piece [] h.given did.given);
  taken = did.taken ∙ h.taken;
  calls = h.calls ++ Read 0 ∷ [];
  noted = subst (λ n. Lists first.calls now.calls (h.calls ++ Read n ∷ [])) none
      (Notes-trans first.calls before.calls now.calls h.calls (Read count ∷ []) h.noted did.noted);
  reads = subst (λ l. Reads was (h.calls ++ Read 0 ∷ []) l true) (sym (e ∙ append-nil came)) (ends was came h.calls h.reads open_);
  bounded = bounded;
  unfailed = unfailed_on first before now true h.unfailed (subst (λ n. IsUnfailed before now (n == 0)) none did.unfailed);
}
heard_end first before now was came next (b ∷ piece) count h open_ did e long none bounded = absurd (omega arith)

-- one more, which failed
pub heard_cut : (first before now : WireTraffic) (was came next : List ℕ) → Heard first before was came false → IsUnfinished came → next ≡ came
    → Appends before.read now.read [] → now.written ≡ before.written → Lists before.calls now.calls (Read 0 ∷ [])
    → IsLost before now → HeardInPart first now was next
heard_cut first before now was came next h open_ e given taken noted failed = record {
  piece = h.piece;
  grown = e ∙ h.grown;
  given = subst (Appends first.read now.read) (append-nil h.piece) (Appends-trans first.read before.read now.read h.piece [] h.given given);
  taken = taken ∙ h.taken;
  calls = h.calls;
  noted = Notes-trans first.calls before.calls now.calls h.calls (Read 0 ∷ []) h.noted noted;
  reads = subst (λ l. Reads was h.calls l false) (sym e) h.reads;
  unfinished = subst IsUnfinished (sym e) open_;
  bounded = subst (λ l. length l ≤ most_read) (sym e) h.bounded;
  failed = lost_on first before now h.unfailed failed;
}

-- reads behind reads, with what is told of their wire
pub heard_on : (first mid now : WireTraffic) (was came next : List ℕ) (ended : Bool) → Heard first mid was came false → Heard mid now came next ended
    → Heard first now was next ended
heard_on first mid now was came next ended h k = record {
  piece = h.piece ++ k.piece;
  grown = k.grown ∙ ap (λ l. l ++ k.piece) h.grown ∙ append_assoc was h.piece k.piece;
  given = Appends-trans first.read mid.read now.read h.piece k.piece h.given k.given;
  taken = k.taken ∙ h.taken;
  calls = h.calls ++ k.calls;
  noted = Notes-trans first.calls mid.calls now.calls h.calls k.calls h.noted k.noted;
  reads = reads_on was came next h.calls k.calls ended h.reads k.reads;
  bounded = k.bounded;
  unfailed = unfailed_on first mid now ended h.unfailed k.unfailed;
}

pub heard_on_cut : (first mid now : WireTraffic) (was came next : List ℕ) → Heard first mid was came false → HeardInPart mid now came next
    → HeardInPart first now was next
heard_on_cut first mid now was came next h k = record {
  piece = h.piece ++ k.piece;
  grown = k.grown ∙ ap (λ l. l ++ k.piece) h.grown ∙ append_assoc was h.piece k.piece;
  given = Appends-trans first.read mid.read now.read h.piece k.piece h.given k.given;
  taken = k.taken ∙ h.taken;
  calls = h.calls ++ k.calls;
  noted = subst (Lists first.calls now.calls) (sym (append_assoc h.calls k.calls (Read 0 ∷ [])))
      (Notes-trans first.calls mid.calls now.calls h.calls (k.calls ++ Read 0 ∷ []) h.noted k.noted);
  reads = reads_on was came next h.calls k.calls false h.reads k.reads;
  unfinished = k.unfinished;
  bounded = k.bounded;
  failed = lost_on first mid now h.unfailed k.failed;
}

-- what was read stays unfinished while it is shorter than this
pub unfinished_on : (old came piece : List ℕ) (end : ℕ) → ((more : List ℕ) → length (old ++ more) < end → IsUnfinished (old ++ more))
    → came ≡ old ++ piece → length came < end → IsUnfinished came
unfinished_on old came piece end all e short = subst IsUnfinished (sym e) (all piece (subst (λ l. length l < end) e short))

-- a read that gave nothing leaves it so
pub still_short : (came next piece : List ℕ) (end : ℕ) → next ≡ came ++ piece → length piece ≡ 0 → length came < end → length next < end
still_short came next piece end e none short =
    let long = ap length e in
    omega (arith, length-append came piece)
