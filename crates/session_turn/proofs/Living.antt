-- A session's events stay a run that agrees with what it sees.
use Rattle.std.proofs.Common.{◌≡◌, ℕ, List, [], ◌∷◌, ◌++◌, Some, sym, subst, ◌∙◌, append_assoc}
use Rattle.std.proofs.lemmas.List.{append-nil}
use Rattle.behaviour_tree.specs.declared.words.Event.{Event}
use Rattle.session_calculus.specs.After.{Config, after}
use Rattle.session_calculus.specs.Runs.{start_of}
use Rattle.office_core.specs.declared.history.Entry.{Entry}
use Rattle.session_turn.specs.Seen.{AreForeign, Grew, Seat}
use Rattle.session_turn.specs.Lives.{Kept, Lives, Moment, by_event, by_other}
use Rattle.session_turn.specs.Turns.{FirstDone, Happened, NoneAllowed, Order}
use Rattle.session_turn.proofs.Looking.{same_some}
use Rattle.session_turn.proofs.Telling.{is_told}

module _ {a : Seat} {service : ℕ} {from : Config} where
  -- others make entries
  pub lives_on : (h : List Entry) (es : List Event) (c : Config) (more : List Entry) → Lives a service from h es c
      → AreForeign a.session more
      → Lives a service from (h ++ more) es c
  lives_on h es c [] l f = subst (λ (x : List Entry). Lives a service from x es c) (sym (append-nil h)) l
  lives_on h es c (e ∷ more) l f =
      subst (λ (x : List Entry). Lives a service from x es c) (append_assoc h (e ∷ []) more)
      (lives_on (h ++ e ∷ []) es c more (by_other h es c e l f.0) f.1)

module _ {a : Seat} {es : List Event} {old new : Moment} where
  -- a session is kept while it only sees more
  pub kept_on : Kept a es old → Grew a old.seen new.seen → new.config ≡ old.config → new.service ≡ old.service
      → Kept a es new
  kept_on k g c s =
      let lives : Lives a old.service k.from new.seen es k.here
      = subst (λ (x : List Entry). Lives a old.service k.from x es k.here) (sym g.is)
      (lives_on old.seen es k.here g.others k.lives g.foreign) in
      record {
        from = k.from;
        start = subst (λ (n : ℕ). start_of a.setting.parts n ≡ Some k.from) (sym s) k.start;
        here = k.here;
        at = c ∙ k.at;
        lives = subst (λ (n : ℕ). Lives a n k.from new.seen es k.here) (sym s) lives;
      }

  -- and by an event that happened
  pub kept_by_event : {n : ℕ} {event : Event} → Kept a es old → Happened a n old new event
      → Kept a (es ++ event ∷ []) new
  kept_by_event {n} {event} k p =
      let d = p.done in
      let now : Lives a old.service k.from p.before es k.here
      = subst (λ (x : List Entry). Lives a old.service k.from x es k.here) (sym p.grew.is)
      (lives_on old.seen es k.here p.grew.others k.lives p.grew.foreign) in
      let here : k.here ≡ p.config = same_some (sym k.at ∙ p.at) in
      let lives : Lives a old.service k.from p.before es p.config
      = subst (λ (c : Config). Lives a old.service k.from p.before es c) here now in
      let strand : n ≡ d.event.strand
      = sym (is_told a.setting.parts old.service p.config n p.gift d p.after_is).strand in
      let is : after a.setting.parts old.service p.config d.event.strand p.gift ≡ Some d
      = subst (λ (i : ℕ). after a.setting.parts old.service p.config i p.gift ≡ Some d) strand p.after_is in
      let on : Lives a old.service k.from (p.before ++ p.own) (es ++ d.event ∷ []) d.config
      = by_event p.before es p.config p.gift d p.own lives is p.given in
      let seen : Lives a old.service k.from new.seen (es ++ d.event ∷ []) d.config
      = subst (λ (x : List Entry). Lives a old.service k.from x (es ++ d.event ∷ []) d.config) (sym p.seen) on in
      let told : Lives a old.service k.from new.seen (es ++ event ∷ []) d.config
      = subst (λ (e : Event). Lives a old.service k.from new.seen (es ++ e ∷ []) d.config) (sym p.event_is) seen in
      record {
        from = k.from;
        start = subst (λ (i : ℕ). start_of a.setting.parts i ≡ Some k.from) (sym p.service) k.start;
        here = d.config;
        at = p.now_at;
        lives = subst (λ (i : ℕ). Lives a i k.from new.seen (es ++ event ∷ []) d.config) (sym p.service) told;
      }

  -- after a turn
  pub kept_did : {es' : List Event} {o : Order} {event : Event} → FirstDone a o old new event → es' ≡ es ++ event ∷ []
      → Kept a es old
      → Kept a es' new
  kept_did f e k = subst (λ (v : List Event). Kept a v new) (sym e) (kept_by_event k f.happened)

  pub kept_idle : {o : Order} → NoneAllowed a o old new → Kept a es old → Kept a es new
  kept_idle n k = kept_on k n.grew n.config n.service
