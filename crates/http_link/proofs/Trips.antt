-- What passed on the wire of a trip, and what the dialler tells of it.
use Rattle.std.proofs.Common.{◌≡◌, ◌<◌, ℕ, min, Bool, true, false, ◌||◌, List, [], ◌∷◌, ◌++◌, length, take, Some, None, Ok, Err, sym, refl, ap, ◌∙◌, subst, arith}
use Rattle.std.specs.Prelude.{Option, IfSome, Result, MatchResult}
use Rattle.httparse.specs.declared.spans.Span.{Span}
use Rattle.std.specs.Io.{StartsWith}
use Rattle.std.specs.Io.KnownBytes.{Appends}
use Rattle.std.proofs.KnownBytes.{Appends-nil}
use Rattle.std.proofs.lemmas.List.{length-take}
use Rattle.outside_traits.specs.Told.{Lists}
use Rattle.outside_traits.specs.Causes.{Rose}
use Rattle.outside_traits.specs.declared.calls.WireCall.{WireCall}
use Rattle.outside_traits.specs.declared.calls.WireCall.TheVariants.{Read}
use Rattle.outside_dials.specs.Dials.{WireTraffic, IsNew, Tells, CountsWire}
use Rattle.http_port.specs.Writing.{IsWritten}
use Rattle.http_port.proofs.PartLemmas.{take_min}
use Rattle.http_link.specs.Trips.{Telling, telling, Shows, TellsEnd, Exchange, Failing, unsent, unheard, unanswered}
use Rattle.http_link.specs.Steps.{IsUnfailed, IsLost, IsCut, Heard, HeardInPart, Exchanged, CutOff, in_writing, in_reading, Finds}
use Rattle.http_link.specs.Responses.{IsNoResponse}
use Rattle.http_link.proofs.Heard.{or_true, unfailed_on, lost_on, Notes-trans, heard_on, heard_on_cut}

-- ---- on one wire

-- what was written, by itself
own_writes : (before now : Option (List WireCall)) (went : List ℕ) (whole : Bool) (w : IsWritten before now went whole)
    → IsWritten (Some []) (Some w.calls) went whole
own_writes before now went whole w = record { calls = w.calls; noted = refl; writes = w.writes; count = w.count; moves = w.moves }

-- a request that was written, and reads behind it
pub exchanged : (before mid now : WireTraffic) (sent came : List ℕ) (ended : Bool) → Appends before.written mid.written sent
    → IsWritten before.calls mid.calls sent true → mid.read ≡ before.read → IsUnfailed before mid false → Heard mid now [] came ended
    → Exchanged before now sent came ended
exchanged before mid now sent came ended taken w given unfailed h = record {
  taken = subst (λ t. Appends before.written t sent) (sym h.taken) taken;
  given = subst (λ g. Appends g now.read came) given (subst (Appends mid.read now.read) (sym h.grown) h.given);
  writes = w.calls;
  reads = h.calls;
  noted = Notes-trans before.calls mid.calls now.calls w.calls h.calls w.noted h.noted;
  written = own_writes before.calls mid.calls sent true w;
  read = h.reads;
  bounded = h.bounded;
  unfailed = unfailed_on before mid now ended unfailed h.unfailed;
}

-- a request that was written, and a read behind it that failed
pub cut_in_reading : (before mid now : WireTraffic) (sent came : List ℕ) → Appends before.written mid.written sent
    → IsWritten before.calls mid.calls sent true → mid.read ≡ before.read → IsUnfailed before mid false → HeardInPart mid now [] came
    → CutOff before now sent
cut_in_reading before mid now sent came taken w given unfailed h =
    in_reading came w.calls h.calls
    (subst (λ t. Appends before.written t sent) (sym h.taken) taken)
    (subst (λ g. Appends g now.read came) given (subst (Appends mid.read now.read) (sym h.grown) h.given))
    (Notes-trans before.calls mid.calls now.calls w.calls (h.calls ++ Read 0 ∷ []) w.noted h.noted)
    (own_writes before.calls mid.calls sent true w)
    h.reads h.unfinished h.bounded (lost_on before mid now unfailed h.failed)

-- a write that failed
pub cut_in_writing : (before now : WireTraffic) (sent : List ℕ) (count : ℕ) → count < length sent
    → Appends before.written now.written (take count sent) → IsWritten before.calls now.calls (take count sent) false → now.read ≡ before.read → IsCut before now
    → CutOff before now sent
cut_in_writing before now sent count short taken w given cut =
    in_writing count w.calls short taken (subst (λ g. Appends before.read g []) (sym given) (Appends-nil before.read)) w.noted
    (own_writes before.calls now.calls (take count sent) false w) cut

-- ---- by the dialler

-- what is told of a wire that came back
shows : (blank : WireTraffic) (told : Option WireTraffic) (t : WireTraffic) (went came : List ℕ) (calls : List WireCall) → Tells told t
    → Appends blank.written t.written went → Appends blank.read t.read came → Lists blank.calls t.calls calls
    → Shows blank told went came calls
shows blank None t went came calls e taken given noted = tt
shows blank (Some last) t went came calls e taken given noted =
    subst (λ (x : WireTraffic). Appends blank.written x.written went × Appends blank.read x.read came × Lists blank.calls x.calls calls)
    (sym e) (taken, given, noted)

-- what holds of a wire is told of it
pub told_so : (P : WireTraffic → Type 0) (told : Option WireTraffic) (t : WireTraffic) → Tells told t → P t → IfSome told P
told_so P None t e holds = tt
told_so P (Some last) t e holds = subst P (sym e) holds

-- a new wire on which nothing failed
unfailed_end : (blank t : WireTraffic) (ended : Bool) → IsNew blank → IsUnfailed blank t ended → TellsEnd false false ended t
unfailed_end blank t ended new unfailed = record {
  lost = unfailed.lost ∙ new.read_failed;
  cut = unfailed.cut ∙ new.write_failed;
  end = unfailed.end ∙ ap (λ b. b || ended) new.ended;
}

-- one on which a write failed
cut_end : (blank t : WireTraffic) → IsNew blank → IsCut blank t → TellsEnd false true false t
cut_end blank t new c = record { lost = c.lost ∙ new.read_failed; cut = c.cut; end = c.end ∙ new.ended }

-- one on which a read failed
lost_end : (blank t : WireTraffic) → IsNew blank → IsLost blank t → TellsEnd true false false t
lost_end blank t new l = record { lost = l.lost; cut = l.cut ∙ new.write_failed; end = l.end ∙ new.ended }

-- the exchange on a new wire that came back
pub exchange_told : (blank t : WireTraffic) (dialled : Option (List (List ℕ))) (last : Option WireTraffic) (faults : ℕ) (sent came : List ℕ)
    (ended : Bool) → IsNew blank → Tells last t → Exchanged blank t sent came ended → Exchange (telling blank (record { dialled = dialled; last = last; faults = faults })) sent came ended
exchange_told blank t dialled last faults sent came ended new e x = record {
  writes = x.writes;
  reads = x.reads;
  shown = shows blank last t sent came (x.writes ++ x.reads) e x.taken x.given x.noted;
  written = x.written;
  read = x.read;
  bounded = x.bounded;
  end = told_so (TellsEnd false false ended) last t e (unfailed_end blank t ended new x.unfailed);
}

starts_with : (count : ℕ) (sent : List ℕ) → StartsWith sent (take count sent)
starts_with count sent =
    let long : length (take count sent) ≡ min (length sent) count = omega (arith, length-take count sent) in
    ap (λ k. take k sent) long ∙ take_min count sent

shorter : (count : ℕ) (sent : List ℕ) → count < length sent → length (take count sent) < length sent
shorter count sent short = omega (arith, short, length-take count sent)

-- a wire that failed and came back
pub failing_told : (blank t : WireTraffic) (before : Telling) (dialled : Option (List (List ℕ))) (last : Option WireTraffic) (faults : ℕ)
    (sent : List ℕ) → IsNew blank → Tells last t → CutOff blank t sent → Rose before.faults faults
    → Failing sent before (telling blank (record { dialled = dialled; last = last; faults = faults }))
failing_told blank t before dialled last faults sent new e (in_writing count writes short taken given noted written cut) risen =
    unsent (take count sent) writes (shows blank last t (take count sent) [] writes e taken given noted) (starts_with count sent)
    (shorter count sent short) written (told_so (TellsEnd false true false) last t e (cut_end blank t new cut)) risen
failing_told blank t before dialled last faults sent new e (in_reading came writes reads taken given noted written read open_ bounded lost) risen =
    unheard came writes reads (shows blank last t sent came (writes ++ (reads ++ Read 0 ∷ [])) e taken given noted) written read open_ bounded
    (told_so (TellsEnd true false false) last t e (lost_end blank t new lost)) risen

-- a dialler's count stands where the wire did not fail
pub count_stands : (blank t : WireTraffic) (sent came : List ℕ) (ended : Bool) (before now : ℕ) → IsNew blank → Exchanged blank t sent came ended
    → CountsWire (t.read_failed || t.write_failed) before now → now ≡ before
count_stands blank t sent came ended before now new x counts =
    counts.unfailed (ap (λ b. b || t.write_failed) (x.unfailed.lost ∙ new.read_failed) ∙ x.unfailed.cut ∙ new.write_failed)

-- and rises where it failed
pub count_rises : (blank t : WireTraffic) (sent : List ℕ) (before now : ℕ) → CutOff blank t sent → CountsWire (t.read_failed || t.write_failed) before now
    → Rose before now
count_rises blank t sent before now (in_writing count writes short taken given noted written cut) counts =
    counts.failed (ap (λ b. t.read_failed || b) cut.cut ∙ or_true t.read_failed)
count_rises blank t sent before now (in_reading came writes reads taken given noted written read open_ bounded lost) counts =
    counts.failed (ap (λ b. b || t.write_failed) lost.lost)

-- ---- by what a call answers

-- a request that was written, and what came of the reads behind it
pub exchanged_or_cut : {E : Type 0} (r : Result (Option Span) E) (before mid now : WireTraffic) (sent was came : List ℕ) → was ≡ []
    → Appends before.written mid.written sent → IsWritten before.calls mid.calls sent true → mid.read ≡ before.read
    → IsUnfailed before mid false
    → MatchResult r (λ found. (ended : Bool) × Finds came ended found × Heard mid now was came ended) (λ _. HeardInPart mid now was came)
    → MatchResult r (λ found. (ended : Bool) × Finds came ended found × Exchanged before now sent came ended) (λ _. CutOff before now sent)
exchanged_or_cut (Ok found) before mid now sent was came e taken w given unfailed m =
    (m.0, m.1, exchanged before mid now sent came m.0 taken w given unfailed (subst (λ l. Heard mid now l came m.0) e m.2))
exchanged_or_cut (Err x) before mid now sent was came e taken w given unfailed m =
    cut_in_reading before mid now sent came taken w given unfailed (subst (λ l. HeardInPart mid now l came) e m)

-- reads of a head, and what came of the reads behind them
pub found_on : {E : Type 0} (r : Result (Option Span) E) (first mid now : WireTraffic) (was came next : List ℕ) → Heard first mid was came false
    → MatchResult r (λ found. (ended : Bool) × Finds next ended found × Heard mid now came next ended) (λ _. HeardInPart mid now came next)
    → MatchResult r (λ found. (ended : Bool) × Finds next ended found × Heard first now was next ended) (λ _. HeardInPart first now was next)
found_on (Ok found) first mid now was came next h m = (m.0, m.1, heard_on first mid now was came next m.0 h m.2)
found_on (Err x) first mid now was came next h m = heard_on_cut first mid now was came next h m

-- what came of the exchange on a wire that came back
pub visited : {E : Type 0} (r : Result (Option Span) E) (blank new t : WireTraffic) (sent came : List ℕ) (before : Telling)
    (dialled : Option (List (List ℕ))) (last : Option WireTraffic) (mid faults : ℕ) → new ≡ blank → IsNew blank
    → MatchResult r (λ found. (ended : Bool) × Finds came ended found × Exchanged new t sent came ended) (λ _. CutOff new t sent)
    → Tells last t → CountsWire (t.read_failed || t.write_failed) mid faults → mid ≡ before.faults
    → MatchResult r (λ found. (ended : Bool) × Finds came ended found × Exchange (telling blank (record { dialled = dialled; last = last; faults = faults })) sent came ended
    × (faults ≡ before.faults)) (λ _. Failing sent before (telling blank (record { dialled = dialled; last = last; faults = faults })))
visited (Ok found) blank new t sent came before dialled last mid faults fresh is m told counts same =
    let x : Exchanged blank t sent came m.0 = subst (λ (n : WireTraffic). Exchanged n t sent came m.0) fresh m.2 in
    (m.0, m.1, exchange_told blank t dialled last faults sent came m.0 is told x, count_stands blank t sent came m.0 mid faults is x counts ∙ same)
visited (Err e) blank new t sent came before dialled last mid faults fresh is m told counts same =
    let x : CutOff blank t sent = subst (λ (n : WireTraffic). CutOff n t sent) fresh m in
    failing_told blank t before dialled last faults sent is told x (subst (λ n. Rose n faults) same (count_rises blank t sent mid faults x counts))

-- a trip fails where what was asked brought no response
pub fails_unanswered : (sent asked came : List ℕ) (ended : Bool) (before now : Telling) → asked ≡ sent → Exchange now asked came ended
    → IsNoResponse came ended → now.faults ≡ before.faults → Failing sent before now
fails_unanswered sent asked came ended before now e x none faults =
    subst (λ l. Failing l before now) e (unanswered came ended x none faults)

-- and where what was asked failed
pub fails_by : (sent asked : List ℕ) (before now : Telling) → asked ≡ sent → Failing asked before now → Failing sent before now
fails_by sent asked before now e x = subst (λ l. Failing l before now) e x
