-- A session is sound where it begins, and stays sound.
use Rattle.std.proofs.Common.{◌≡◌, ℕ, suc, ◌+◌, ◌≤◌, Bool, true, false, [], ◌∷◌, Option, Some, nat_eq, refl, ap, ◌∙◌, arith}
use Rattle.std.proofs.lemmas.Bool.{false≢true, eqb-true, and_parts}
use Rattle.behaviour_tree.specs.declared.words.Given.{Given}
use Rattle.behaviour_tree.specs.declared.words.Given.TheVariants as given
use Rattle.behaviour_tree.specs.Data.{Proc, choice, ProgramParts}
use Rattle.behaviour_tree.specs.Distinct.{numbers_differ}
use Rattle.session_calculus.specs.Start.{begin}
use Rattle.session_calculus.specs.After.{Config, Done, after}
use Rattle.session_calculus.specs.Open.{only, none, open_requests, waiting}
use Rattle.session_calculus.specs.Runs.{TakenStep}
use Rattle.session_calculus.specs.Laws.{place_in, asks, is_asked, is_request_of, times_open, times_waiting, GoesOn, AnswersAll, WaitsForAll}
use Rattle.session_calculus.specs.Sound.{strands_of, are_below, IsNew, BeginsSound, StaysSound}
use Rattle.session_laws.proofs.Counting.{once, once-same, times, times-cons, below, below-suc, below-zero, below-grows, sound-times, times-sound, differ-times, times-differ, times-not_among}
use Rattle.session_laws.proofs.Fresh.{fresh-begin, fresh-exposed, fresh-held}
use Rattle.session_laws.proofs.Answering.{asked-cons}
use Rattle.session_laws.proofs.Sending.{sends_call, sends-after, sent-cons}
use Rattle.session_laws.proofs.Shapes.{exposed-after}
use Rattle.session_laws.proofs.Drawing.{drawn-begin, draws-after}

-- ---- where a session begins

-- the strands of what begins differ, and are below the next
pub strands-begin : (p : Proc) → are_below (begin p 1).next (0 ∷ strands_of (begin p 1).form) ≡ true
strands-begin p =
    let b = begin p 1 in
    times-sound b.next (0 ∷ strands_of b.form) (λ x.
    omega (arith, times-cons x 0 (strands_of b.form), drawn-begin x p 1, below-suc x 0, below-zero x))

-- a session is sound where it begins
pub begins_sound : BeginsSound
begins_sound p =
    let b = begin p 1 in
    record {
      shape = fresh-exposed b.form (fresh-begin p 1);
      strands = strands-begin p;
      calls = ap (are_below 0) (fresh-held none only b.form (fresh-begin p 1));
      requests = ap numbers_differ (fresh-held only none b.form (fresh-begin p 1));
    }

-- ---- an event

-- after an event they still do
pub strands-stay : (parts : ProgramParts) (service : ℕ) (c : Config) (n : ℕ) (g : Given) (d : Done)
    → are_below c.next (0 ∷ strands_of c.form) ≡ true → after parts service c n g ≡ Some d
    → are_below d.config.next (0 ∷ strands_of d.config.form) ≡ true
strands-stay parts service c n g d sound e =
    times-sound d.config.next (0 ∷ strands_of d.config.form) (λ x.
    omega (
      arith,
      times-cons x 0 (strands_of d.config.form),
      times-cons x 0 (strands_of c.form),
      sound-times c.next (0 ∷ strands_of c.form) sound x,
      draws-after x parts service c n g d e,
    ))

-- what an event and its gift are as a step
abbrev step_of : Done → Given → TakenStep
step_of d g = record { event = d.event; gift = g }

-- a call that is sent is the next one, and the next rises
calls-step : (b : Bool) (k before next now later : ℕ) → before ≤ next → (b ≡ true → (k ≡ before) × (next ≡ suc before))
    → later ≤ once b + now → now ≤ below before k → later ≤ below next k
calls-step true k before next now later le h sum old =
    let sent = h refl in
    omega (arith, sum, old, below-suc k before, once-same k before sent.0, ap (λ n. below n k) sent.1)
calls-step false k before next now later le h sum old = omega (arith, sum, old, below-grows k before next le)

-- what asks is not open yet
new-request : (m : ℕ) (c : Config) (p : Option Proc) (g : Given) → IsNew c g → asks m p g ≡ true
    → times m (open_requests c.form) ≡ 0
new-request m c (Some (choice bs)) (given.Mail k o v) new h =
    let same : m ≡ k = eqb-true m k (and_parts (is_request_of o bs) (nat_eq m k) h).1 in
    ap (λ n. times n (open_requests c.form)) same ∙ times-not_among k (open_requests c.form) new
new-request m c p g new h = absurd (false≢true h)

-- a request that comes, or none
requests-step : (b : Bool) (now later : ℕ) → later ≤ once b + now → now ≤ 1 → (b ≡ true → now ≡ 0) → later ≤ 1
requests-step true now later sum old none = omega (arith, none refl)
requests-step false now later sum old none = omega arith

-- a session stays sound
pub stays_sound : GoesOn → WaitsForAll → AnswersAll → StaysSound
stays_sound goes_on waits answers parts service c n g d sound new e =
    let s = step_of d g in
    let w = goes_on parts service c c [] n g d refl e in
    record {
      shape = exposed-after parts service c n g d sound.shape e;
      strands = strands-stay parts service c n g d sound.strands e;
      calls = times-sound d.config.call (waiting d.config.form) (λ k.
          let sends = sends-after k parts service c n g d e in
          calls-step (sends_call k d.event) k c.call d.config.call (times_waiting k c.form)
          (times_waiting k d.config.form) sends.0 sends.1
          (omega (arith, waits parts service (s ∷ []) c d.config w k, sent-cons k s []))
          (sound-times c.call (waiting c.form) sound.calls k));
      requests = times-differ (open_requests d.config.form) (λ m.
          requests-step (is_asked m c s) (times_open m c.form) (times_open m d.config.form)
          (omega (arith, answers parts service (s ∷ []) c d.config w m, asked-cons parts service m c s [] w.0 w.1))
          (differ-times (open_requests c.form) sound.requests m)
          (new-request m c (place_in s.event.strand 0 c.form) g new));
    }
