-- A session is adopted: its row says so, and all else stays tied.
use Rattle.std.proofs.Common.{◌≤◌, length, subst, ◌≡◌, ℕ, Bool, true, false, not, ◌&&◌, ◌||◌, List, [], ◌∷◌, refl, sym, ap, ◌∙◌, Option, None, Some, option_map}
use Rattle.std.specs.Prelude.{nat_eq, slice_get, slice_set, if◌then◌else◌}
use Rattle.std.proofs.lemmas.List.Folds.{list_any-append}
use Rattle.jolie_trees.specs.Limits.{in_u64}
use Rattle.office_core.specs.declared.history.Act.TheVariants as act
use Rattle.office_core.specs.declared.history.Entry.{Entry}
use Rattle.office_core.specs.declared.outgoing.OutKind.TheVariants as kind
use Rattle.office_core.specs.declared.post.Birth.{Birth}
use Rattle.office_core.specs.Limits.{Setting}
use Rattle.office_core.specs.declared.message.Message.{Message}
use Rattle.office_core.specs.Past.{Past, is_running}
use Rattle.office_core.specs.Sessions.{service_of, was_adopted, has_ended, adopts, ends}
use Rattle.office_core.specs.Accepted.{then_one}
use Rattle.office_core.specs.Legal.{IsLegalEntry}
use Rattle.office_core.proofs.Longer.{some_same, messages_same}
use Rattle.office_plain.specs.declared.kept.Kept.{Kept}
use Rattle.office_plain.specs.declared.kept.SessionRow.{SessionRow}
use Rattle.office_plain.specs.Entries.{entry}
use Rattle.office_plain.specs.Kept.{row_of}
use Rattle.office_plain.specs.Replies.{birth_of}
use Rattle.office_plain.specs.Rows.{unadopted_in}
use Rattle.office_plain.specs.Ties.{Ties}
use Rattle.office_plain.proofs.Stays.{row_by, weight_stays, places_stay, waiting_stays, standings_stay, answers_stay, keyed_sessions_stay, calls_stay, brought_stays, unfetched_stays}
use Rattle.office_plain.proofs.Lists.{same_of, none_not_some, set_at}

-- ---- whether a session may be adopted

-- a session that was born and not adopted
pub record Unadopted (w : Setting) (past : Past) (s : ℕ) (row : SessionRow) : Type 0 where
  pub new : was_adopted past s ≡ false
  pub born : service_of w past s ≡ Some row.service

pub unadopted : (w : Setting) (past : Past) (s : ℕ) (row : SessionRow)
    → unadopted_in (row_of w past s) ≡ Some row → Unadopted w past s row
unadopted w past s row h = by (was_adopted past s) (service_of w past s) refl refl h
  where
    by : (b : Bool) (o : Option ℕ) → was_adopted past s ≡ b → service_of w past s ≡ o
        → unadopted_in (option_map (λ d. row_by d b (has_ended past s)) o) ≡ Some row → Unadopted w past s row
    by b None adopted born g = absurd (none_not_some row g)
    by true (Some d) adopted born g = absurd (none_not_some row g)
    by false (Some d) adopted born g =
        record {
          new = adopted;
          born = born ∙ ap (λ (r : SessionRow). Some r.service) (same_of (row_by d false (has_ended past s)) row g);
        }

-- what stands where a session may be adopted
pub row_there : (o : Option SessionRow) (row : SessionRow) → unadopted_in o ≡ Some row → o ≡ Some row
row_there None row h = absurd (none_not_some row h)
row_there (Some r) row h = by r.adopted h
  where
    by : (b : Bool) → (if b then None else Some r) ≡ Some row → Some r ≡ Some row
    by true g = absurd (none_not_some row g)
    by false g = g

-- a session of a service, as it is born
abbrev pub born : ℕ → ℕ → Birth
born s d = record { session = s; service = d }

-- the birth of a session, as its row has it
pub birth_is : (w : Setting) (past : Past) (s : ℕ) (o : Option SessionRow) → unadopted_in (row_of w past s) ≡ o
    → option_map (λ (row : SessionRow). born s row.service) o ≡ birth_of w past s
birth_is w past s o h =
    ap (option_map (λ (row : SessionRow). born s row.service)) (sym h)
    ∙ by (was_adopted past s) (has_ended past s) (service_of w past s)
  where
    by : (adopted ended : Bool) (d : Option ℕ)
        → option_map (λ (row : SessionRow). born s row.service) (unadopted_in (option_map (λ n. row_by n adopted ended) d))
        ≡ (if adopted then None else option_map (born s) d)
    by true ended None = refl
    by true ended (Some d) = refl
    by false ended None = refl
    by false ended (Some d) = refl

-- the adoption of a session that was born and not adopted is legal
pub legal_adopt : (w : Setting) (past : Past) (s d : ℕ)
    → is_running past ≡ true → was_adopted past s ≡ false → service_of w past s ≡ Some d
    → IsLegalEntry w past (entry s (act.Adopt d))
legal_adopt w past s d runs new born =
    record {
      allowed = ap (λ b. b && not (was_adopted past s)) runs ∙ ap not new;
      reply = ap (option_map act.Adopt) born;
    }

-- a row as an adoption leaves it
abbrev pub adopted_row : SessionRow → SessionRow
adopted_row row = record { service = row.service; adopted = true; ended = row.ended }

row_by_case : (d : ℕ) (adopted ended b : Bool)
    → row_by d (adopted || (b || false)) ended ≡ (if b then adopted_row (row_by d adopted ended) else row_by d adopted ended)
row_by_case d true ended true = refl
row_by_case d true ended false = refl
row_by_case d false ended true = refl
row_by_case d false ended false = refl

row_more : (d : Option ℕ) (adopted ended b : Bool)
    → option_map (λ n. row_by n (adopted || (b || false)) ended) d
    ≡ option_map (λ (row : SessionRow). if b then adopted_row row else row) (option_map (λ n. row_by n adopted ended) d)
row_more None adopted ended b = refl
row_more (Some d) adopted ended b = ap Some (row_by_case d adopted ended b)

-- the row of a session after an adoption
row_adopted : (w : Setting) (past : Past) (s d t : ℕ)
    → row_of w (then_one w past (entry s (act.Adopt d))) t
    ≡ option_map (λ (row : SessionRow). if nat_eq t s then adopted_row row else row) (row_of w past t)
row_adopted w past s d t =
    let parts : row_of w (then_one w past (entry s (act.Adopt d))) t
    ≡ option_map (λ n. row_by n (was_adopted past t || (nat_eq t s || false)) (has_ended past t)) (service_of w past t) =
    λ i. option_map
    (λ n. row_by n (more i) (some_same w past (entry s (act.Adopt d)) (ends t) refl i))
    (service_of w past t) in
    parts ∙ row_more (service_of w past t) (was_adopted past t) (has_ended past t) (nat_eq t s)
  where
    more : was_adopted (then_one w past (entry s (act.Adopt d))) t ≡ (was_adopted past t || (nat_eq t s || false))
    more = list_any-append (adopts t) past.entries (entry s (act.Adopt d) ∷ [])

-- after an adoption the row of the session says so
pub ties_adopt : (w : Setting) (past : Past) (s d : ℕ) (row : SessionRow) (k : Kept) (rows : List SessionRow)
    → slice_get k.sessions s ≡ Some row → rows ≡ slice_set k.sessions s (adopted_row row) → Ties w past k
    → Ties w (then_one w past (entry s (act.Adopt d))) (record k { sessions = rows })
ties_adopt w past s d row k rows there changed t =
    let e : Entry = entry s (act.Adopt d) in
    record {
      messages = t.messages ∙ sym (messages_same w past e refl);
      few = subst (λ ms. length ms ≤ w.limits.messages) (sym (messages_same w past e refl)) t.few;
      weight = t.weight ∙ ap in_u64 (sym (weight_stays past e refl));
      sessions = λ u. ap (λ rs. slice_get rs u) changed
          ∙ set_at k.sessions s u row adopted_row there
          ∙ ap (option_map (λ (r : SessionRow). if nat_eq u s then adopted_row r else r)) (t.sessions u)
          ∙ sym (row_adopted w past s d u);
      places = λ u. t.places u ∙ sym (places_stay w past e u refl);
      boxes = λ u h. t.boxes u (sym (some_same w past e (ends u) refl) ∙ h) ∙ sym (waiting_stays w past e u refl);
      origins = λ n. t.origins n ∙ ap (λ ms. option_map (λ (m : Message). m.origin) (slice_get ms n)) (sym (messages_same w past e refl));
      standings = standings_stay w past e k.book (λ n m g. answers_stay w past e n m refl refl refl refl) t.standings;
      keys = t.keys ∙ sym (keyed_sessions_stay w past e (λ u. refl) (λ u. refl));
      sent = t.sent ∙ sym (calls_stay w past e refl);
      outcomes = λ i. t.outcomes i ∙ sym (brought_stays w past e i refl (λ c. refl));
      console = t.console ∙ sym (unfetched_stays w past e kind.Console refl (λ c. refl));
      remote = t.remote ∙ sym (unfetched_stays w past e kind.Remote refl (λ c. refl));
    }
