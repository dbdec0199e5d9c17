-- The end of input is noted: what is kept stays tied.
use Rattle.std.proofs.Common.{◌≡◌, ◌≤◌, ℕ, ◌+◌, Bool, true, false, not, ◌&&◌, List, [], ◌∷◌, ◌++◌, length, refl, sym, ap, subst, ◌∙◌, option_map, arith}
use Rattle.std.specs.Prelude.{slice_get}
use Rattle.jolie_trees.specs.Limits.{in_u64}
use Rattle.office_core.specs.declared.history.Act.TheVariants as act
use Rattle.office_core.specs.declared.history.Entry.{Entry}
use Rattle.office_core.specs.declared.outgoing.OutKind.TheVariants as kind
use Rattle.office_core.specs.Limits.{Setting}
use Rattle.office_core.specs.declared.message.Message.{Message}
use Rattle.office_core.specs.Past.{Past, some_entry, closes, stops}
use Rattle.office_core.specs.Sessions.{ends}
use Rattle.office_core.specs.Accepted.{then_one, past_of}
use Rattle.office_core.specs.Legal.{is_at_work, IsLegalEntry}
use Rattle.office_core.proofs.Longer.{some_same, some_now, messages_same}
use Rattle.office_plain.specs.declared.kept.Kept.{Kept}
use Rattle.office_plain.specs.Places.{places_kept}
use Rattle.office_plain.specs.Entries.{entry}
use Rattle.office_plain.specs.Ties.{Ties}
use Rattle.office_plain.proofs.Grows.{past_after, places_by}
use Rattle.office_plain.proofs.Stays.{weight_stays, row_stays, places_stay, waiting_stays, standings_stay, answers_stay, keyed_sessions_stay, calls_stay, brought_stays, unfetched_stays}

both : (a b : Bool) → a ≡ true → b ≡ false → (a && not b) ≡ true
both a b x y = ap (λ c. c && not b) x ∙ ap not y

-- a close by a worker is legal where there is none before
pub legal_close : (w : Setting) (past : Past) (actor : ℕ)
    → is_at_work past actor ≡ true → some_entry past closes ≡ false → IsLegalEntry w past (entry actor act.Close)
legal_close w past actor works unclosed_yet =
    record { allowed = both (is_at_work past actor) (some_entry past closes) works unclosed_yet; reply = refl }

-- the place that was kept for the close is used then
pub places_after_close : (w : Setting) (old new : List Entry) (actor kept : ℕ) → new ≡ old ++ entry actor act.Close ∷ []
    → some_entry (past_of w old) closes ≡ false → kept + 1 ≡ places_kept (past_of w old) → kept ≡ places_kept (past_of w new)
places_after_close w old new actor kept added unclosed_yet h =
    let e : Entry = entry actor act.Close in
    let before : places_kept (past_of w old) ≡ places_by false (some_entry (past_of w old) stops) = ap (λ b. places_by b (some_entry (past_of w old) stops)) unclosed_yet in
    let after : places_kept (past_of w new) ≡ places_by true (some_entry (past_of w old) stops) =
    ap places_kept (past_after w old new e added)
    ∙ (λ i. places_by (some_now w (past_of w old) e closes refl i) (some_same w (past_of w old) e stops refl i)) in
    one_less (some_entry (past_of w old) stops) kept (h ∙ before) ∙ sym after
  where
    one_less : (b : Bool) (n : ℕ) → n + 1 ≡ places_by false b → n ≡ places_by true b
    one_less true n h = omega arith
    one_less false n h = omega arith

-- the input is closed then
pub closed_now : (w : Setting) (old new : List Entry) (actor : ℕ) → new ≡ old ++ entry actor act.Close ∷ []
    → true ≡ some_entry (past_of w new) closes
closed_now w old new actor added =
    sym (ap (λ p. some_entry p closes) (past_after w old new (entry actor act.Close) added)
    ∙ some_now w (past_of w old) (entry actor act.Close) closes refl)

-- after a close everything is kept as it was
pub ties_close : (w : Setting) (past : Past) (actor : ℕ) (k : Kept)
    → Ties w past k → Ties w (then_one w past (entry actor act.Close)) k
ties_close w past actor k t =
    let e : Entry = entry actor act.Close in
    record {
      messages = t.messages ∙ sym (messages_same w past e refl);
      few = subst (λ ms. length ms ≤ w.limits.messages) (sym (messages_same w past e refl)) t.few;
      weight = t.weight ∙ ap in_u64 (sym (weight_stays past e refl));
      sessions = λ s. t.sessions s ∙ sym (row_stays w past e s refl refl);
      places = λ s. t.places s ∙ sym (places_stay w past e s refl);
      boxes = λ s h. t.boxes s (sym (some_same w past e (ends s) refl) ∙ h) ∙ sym (waiting_stays w past e s refl);
      origins = λ n. t.origins n ∙ ap (λ ms. option_map (λ (m : Message). m.origin) (slice_get ms n)) (sym (messages_same w past e refl));
      standings = standings_stay w past e k.book (λ n m g. answers_stay w past e n m refl refl refl refl) t.standings;
      keys = t.keys ∙ sym (keyed_sessions_stay w past e (λ s. refl) (λ s. refl));
      sent = t.sent ∙ sym (calls_stay w past e refl);
      outcomes = λ i. t.outcomes i ∙ sym (brought_stays w past e i refl (λ c. refl));
      console = t.console ∙ sym (unfetched_stays w past e kind.Console refl (λ c. refl));
      remote = t.remote ∙ sym (unfetched_stays w past e kind.Remote refl (λ c. refl));
    }
