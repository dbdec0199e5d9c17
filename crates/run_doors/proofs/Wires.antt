-- The wires that come back are those of the connections.
use Rattle.std.proofs.Common.{◌≡◌, ◌≢◌, ◌↔◌, ◌||◌, ◌⊎◌, ◌≤◌, ◌+◌, ◌-◌, ◌^◌, min, ℕ, Bool, true, false, not, List, [], ◌∷◌, map}
use Rattle.std.proofs.Common.{refl, sym, ap, ap₂, subst, ◌∙◌, inl, inr, ⊎_elim, true≢false, arith}
use Rattle.std.specs.List.{AllZip}
use Rattle.run_theorem.specs.RunConnections.{RunConnection}
use Rattle.conn_future.specs.declared.stage.Stage.{Stage}
use Rattle.conn_future.specs.declared.stage.Stage.TheVariants as Stages
use Rattle.conn_future.specs.declared.stage.Ending.TheVariants as Ends
use Rattle.conn_future.specs.declared.stage.Standing.{Standing}
use Rattle.conn_future.specs.declared.stage.Standing.TheVariants as Stands
use Rattle.conn_future.specs.Stages.{stage_of, plain_standing}
use Rattle.conn_future.proofs.Words.{keeps_word}
use Rattle.outside_traits.specs.Told.{WireTold}
use Rattle.http_connection.specs.Seen.{Failures, failures_of}
use Rattle.http_connection.specs.Stages.{stage_of as plain_stage_of}
use Rattle.http_connection.specs.Talking.{WireTells}
use Rattle.run_theorem.specs.Lines.{most_waits}
use Rattle.run_door_front.specs.Keeping.{ClientTold, stage_at}
use Rattle.run_door_front.specs.Exchanged.{IsClient, AreClients}
use Rattle.run_door_front.specs.Draining.{HaveDrained}
use Rattle.run_doors.specs.Steps.{traffic_of, wire_of}
use Rattle.run_theorem.specs.Used.{IsWireOf, AreWires, IsWrittenOut}

none_lost : (line first : WireTold) → failures_of line ≡ failures_of first → first.read_failed ≡ false → line.read_failed ≡ false
none_lost line first e none = ap (λ (g : Failures). g.read_failed) e ∙ none

none_cut : (line first : WireTold) → failures_of line ≡ failures_of first → first.write_failed ≡ false → line.write_failed ≡ false
none_cut line first e none = ap (λ (g : Failures). g.write_failed) e ∙ none

-- a read of the wire failed
abbrev is_lost : Stage → Bool
is_lost Stages.Reads = false
is_lost Stages.Asks = false
is_lost Stages.Owes = false
is_lost Stages.Writes = false
is_lost Stages.Ended = false
is_lost Stages.Closed = false
is_lost Stages.ReadFailed = true
is_lost Stages.WriteFailed = false
is_lost Stages.Spent = false

-- at such a stage none has failed
unlost_at : (s : Stage) (lost : Bool) → is_lost s ≡ false → lost ≡ false → (s ≡ Stages.ReadFailed) ↔ (lost ≡ true)
unlost_at s lost unfailed none =
    (λ e. absurd (true≢false (sym (ap is_lost e) ∙ unfailed)), λ some. absurd (true≢false (sym some ∙ none)))

-- of a wire that had not failed a read has failed exactly at one stage
lost_at : (next : Standing) (first line : WireTold) (read : List ℕ) → first.read_failed ≡ false → stage_of next ≢ Stages.Spent
    → WireTells (plain_stage_of (plain_standing next)) first read line → (stage_of next ≡ Stages.ReadFailed) ↔ (line.read_failed ≡ true)
lost_at Stands.Waits first line read none some k = unlost_at Stages.Reads line.read_failed refl (none_lost line first k.failures none)
lost_at (Stands.Holds body close) first line read none some k = unlost_at Stages.Asks line.read_failed refl (none_lost line first k.failures none)
lost_at (Stands.Owes close) first line read none some k = unlost_at Stages.Owes line.read_failed refl (none_lost line first k.failures none)
lost_at (Stands.Says close) first line read none some k = unlost_at Stages.Writes line.read_failed refl (none_lost line first k.failures none)
lost_at (Stands.Sends close) first line read none some k = unlost_at Stages.Writes line.read_failed refl (none_lost line first k.failures none)
lost_at (Stands.Over Ends.Ended) first line read none some k = unlost_at Stages.Ended line.read_failed refl (none_lost line first k.1 none)
lost_at (Stands.Over Ends.Closed) first line read none some k = unlost_at Stages.Closed line.read_failed refl (none_lost line first k.1 none)
lost_at (Stands.Over Ends.ReadFailed) first line read none some k = (λ e. k.1, λ h. refl)
lost_at (Stands.Over Ends.WriteFailed) first line read none some k = unlost_at Stages.WriteFailed line.read_failed refl (k.1 ∙ none)
lost_at Stands.Spent first line read none some k = absurd (some refl)

-- a write of the wire failed
abbrev is_cut : Stage → Bool
is_cut Stages.Reads = false
is_cut Stages.Asks = false
is_cut Stages.Owes = false
is_cut Stages.Writes = false
is_cut Stages.Ended = false
is_cut Stages.Closed = false
is_cut Stages.ReadFailed = false
is_cut Stages.WriteFailed = true
is_cut Stages.Spent = false

-- at such a stage none has failed
uncut_at : (s : Stage) (cut : Bool) → is_cut s ≡ false → cut ≡ false → (s ≡ Stages.WriteFailed) ↔ (cut ≡ true)
uncut_at s cut unfailed none =
    (λ e. absurd (true≢false (sym (ap is_cut e) ∙ unfailed)), λ some. absurd (true≢false (sym some ∙ none)))

-- of an open wire that had not failed a write has failed exactly at one stage
cut_at : (next : Standing) (first line : WireTold) (read : List ℕ) → first.write_failed ≡ false → first.closed ≡ false → stage_of next ≢ Stages.Spent
    → WireTells (plain_stage_of (plain_standing next)) first read line → (stage_of next ≡ Stages.WriteFailed) ↔ (line.write_failed ≡ true)
cut_at Stands.Waits first line read none is_open some k = uncut_at Stages.Reads line.write_failed refl (none_cut line first k.failures none)
cut_at (Stands.Holds body close) first line read none is_open some k = uncut_at Stages.Asks line.write_failed refl (none_cut line first k.failures none)
cut_at (Stands.Owes close) first line read none is_open some k = uncut_at Stages.Owes line.write_failed refl (none_cut line first k.failures none)
cut_at (Stands.Says close) first line read none is_open some k = uncut_at Stages.Writes line.write_failed refl (none_cut line first k.failures none)
cut_at (Stands.Sends close) first line read none is_open some k = uncut_at Stages.Writes line.write_failed refl (none_cut line first k.failures none)
cut_at (Stands.Over Ends.Ended) first line read none is_open some k = uncut_at Stages.Ended line.write_failed refl (none_cut line first k.1 none)
cut_at (Stands.Over Ends.Closed) first line read none is_open some k = uncut_at Stages.Closed line.write_failed refl (none_cut line first k.1 none)
cut_at (Stands.Over Ends.ReadFailed) first line read none is_open some k = uncut_at Stages.ReadFailed line.write_failed refl (k.2 ∙ none)
cut_at (Stands.Over Ends.WriteFailed) first line read none is_open some k =
    (λ e. k.2 ∙ ap₂ (λ (failed closed : Bool). failed || not closed) none is_open, λ h. refl)
cut_at Stands.Spent first line read none is_open some k = absurd (some refl)

-- no text goes out on these connections, or their wires could move nothing as often in a row as a run looks
abbrev pub AreOut : List ClientTold → Type 0
AreOut [] = Unit {0}
AreOut (m ∷ ms) = ((stage_at m ≢ Stages.Writes) ⊎ ((most_waits ≤ m.waits) × (most_waits ≤ m.in_a_row))) × AreOut ms

-- with any last value of their type
as_often : (w m cap : ℕ) → min (w + most_waits) cap ≤ m → most_waits ≤ cap → most_waits ≤ m
as_often w m cap h k = omega arith

small : most_waits ≤ 2 ^ 64 - 1
small = omega arith

pub drained_out : (ls ms : List ClientTold) → HaveDrained ls ms → AreOut ms
drained_out [] [] h = tt
drained_out [] (m ∷ ms) h = absurd h
drained_out (l ∷ ls) [] h = absurd h
drained_out (l ∷ ls) (m ∷ ms) h =
    (⊎_elim (λ out. inl out) (λ waited. inr (as_often l.waits m.waits (2 ^ 64 - 1) waited.0 small, waited.1)) h.0, drained_out ls ms h.1)

module _ (IsMade : WireTold → Type 0) where
  -- a wire of a connection
  wire_is : (l : ClientTold) (v : RunConnection) → IsClient IsMade l v → IsWireOf IsMade v (traffic_of l) (wire_of l).wire
  wire_is l v k =
      let word = (keeps_word k.first l.seen v.bodies v.texts k.talks).word in
      record {
        first = k.first;
        came = k.made;
        fresh = k.fresh;
        door = sym k.door;
        read = word.given;
        written = word.taken;
        lost = subst (λ s. (s ≡ Stages.ReadFailed) ↔ (l.seen.line.read_failed ≡ true)) (sym k.stage)
            (lost_at l.seen.kept.next k.first l.seen.line l.seen.kept.read.items k.fresh.read_unfailed
            (λ e. k.memory (k.stage ∙ e)) word.wire);
        cut = subst (λ s. (s ≡ Stages.WriteFailed) ↔ (l.seen.line.write_failed ≡ true)) (sym k.stage)
            (cut_at l.seen.kept.next k.first l.seen.line l.seen.kept.read.items k.fresh.write_unfailed k.fresh.is_open
            (λ e. k.memory (k.stage ∙ e)) word.wire);
        ended = k.ended;
      }

  -- the wires of all
  pub wires_are : (ls : List ClientTold) (vs : List RunConnection) → AreClients IsMade ls vs
      → AreWires IsMade vs (map traffic_of ls) (map wire_of ls)
  wires_are [] [] k = tt
  wires_are [] (v ∷ vs) k = absurd k
  wires_are (l ∷ ls) [] k = absurd k
  wires_are (l ∷ ls) (v ∷ vs) k = (wire_is l v k.0, wires_are ls vs k.1)

  -- what was due was written on each
  pub written_out : (ms : List ClientTold) (vs : List RunConnection) → AreClients IsMade ms vs → AreOut ms
      → AllZip IsWrittenOut vs (map wire_of ms)
  written_out [] [] k h = tt
  written_out [] (v ∷ vs) k h = absurd k
  written_out (m ∷ ms) [] k h = absurd k
  written_out (m ∷ ms) (v ∷ vs) k h = (
    ⊎_elim (λ out. inl (λ e. out (sym k.0.stage ∙ e))) (λ waited. inr waited) h.0,
    written_out ms vs k.1 h.1,
  )
