-- Adoptions alone leave a session that could not act so, and what was absent absent.
use Rattle.std.proofs.Common.{◌≡◌, ℕ, true, false, List, [], ◌∷◌, ◌++◌, Some, refl, sym, ap, subst, ◌∙◌, append_assoc}
use Rattle.std.specs.List.{list_all}
use Rattle.std.proofs.lemmas.Bool.{and_parts, false≢true}
use Rattle.std.proofs.lemmas.List.{append-nil}
use Rattle.behaviour_tree.specs.declared.words.Event.{Event}
use Rattle.behaviour_tree.specs.declared.words.Need.{Need}
use Rattle.session_calculus.specs.After.{after}
use Rattle.office_core.specs.declared.history.Act.{Act}
use Rattle.office_core.specs.declared.history.Act.TheVariants as act
use Rattle.office_core.specs.declared.history.Entry.{Entry}
use Rattle.office_core.specs.Limits.{Setting}
use Rattle.office_core.specs.Accepted.{past_of}
use Rattle.run_record.specs.Steps.{is_call_of}
use Rattle.run_record.specs.Quiet.{is_given}
use Rattle.session_turn.specs.Seen.{Seat, past_at}
use Rattle.session_turn.specs.Lives.{Kept, Moment}
use Rattle.session_turn.specs.Turns.{AreEnabled, NoneAllowed, Passed, from_pick}
pub use Rattle.run_quiet_laws.specs.Ends.{is_adoption}
use Rattle.run_quiet_laws.proofs.Acting.{CannotAct, acted, cannot_still, each_turn, passed_not}
use Rattle.run_quiet_laws.proofs.Aside.{Leaves, given_aside, is_aside, leaves}
use Rattle.run_quiet_laws.proofs.Once.{same_of}

-- it hands no session anything
pub adoption_leaves : (e : Entry) → is_adoption e ≡ true → Leaves e
adoption_leaves e h = leaves e (go e.actor e.act h)
  where
    go : (n : ℕ) (a : Act) → is_adoption (record { actor = n; act = a }) ≡ true
        → is_aside (record { actor = n; act = a }) ≡ true
    go n (act.Adopt d) h = refl
    go n a h = absurd (false≢true h)

-- and is no call
pub adoption_no_call : (s : ℕ) (e : Entry) → is_adoption e ≡ true → is_call_of s e ≡ false
adoption_no_call s e h = go e.actor e.act h
  where
    go : (n : ℕ) (a : Act) → is_adoption (record { actor = n; act = a }) ≡ true
        → is_call_of s (record { actor = n; act = a }) ≡ false
    go n (act.Adopt d) h = refl
    go n a h = absurd (false≢true h)

-- after an adoption a session that could not act can not
pub cannot_act_adopt : {w : Setting} {h : List Entry} {s : ℕ} {es : List Event} (e : Entry) → is_adoption e ≡ true
    → CannotAct w h s es → CannotAct w (h ++ e ∷ []) s es
cannot_act_adopt {w} {h} {s} e is not =
    cannot_still {w = w} {h = h} {s = s} (adoption_leaves e is) (adoption_no_call s e is) not

-- after adoptions
pub cannot_act_adoptions : (w : Setting) (h : List Entry) (s : ℕ) (es : List Event) (more : List Entry)
    → list_all is_adoption more ≡ true → CannotAct w h s es → CannotAct w (h ++ more) s es
cannot_act_adoptions w h s es [] all not =
    subst (λ (x : List Entry). CannotAct w x s es) (sym (append-nil h)) not
cannot_act_adoptions w h s es (e ∷ more) all not =
    let both = and_parts (is_adoption e) (list_all is_adoption more) all in
    subst (λ (x : List Entry). CannotAct w x s es) (append_assoc h (e ∷ []) more)
    (cannot_act_adoptions w (h ++ e ∷ []) s es more both.1 (cannot_act_adopt {w = w} {h = h} {s = s} e both.0 not))

-- what is there after adoptions was there before
pub given_before : (w : Setting) (h : List Entry) (s : ℕ) (n : Need) (more : List Entry)
    → list_all is_adoption more ≡ true → is_given w (past_of w (h ++ more)) s n ≡ is_given w (past_of w h) s n
given_before w h s n [] all = ap (λ (x : List Entry). is_given w (past_of w x) s n) (append-nil h)
given_before w h s n (e ∷ more) all =
    let both = and_parts (is_adoption e) (list_all is_adoption more) all in
    ap (λ (x : List Entry). is_given w (past_of w x) s n) (sym (append_assoc h (e ∷ []) more))
    ∙ given_before w (h ++ e ∷ []) s n more both.1
    ∙ given_aside w h (adoption_leaves e both.0) s n

-- a session that was idle, and where nothing came since of which it might have an event, can not act
pub idle_since : {a : Seat} {es : List Event} {strands : List ℕ} {pick : ℕ} {old new now : Moment} → a.alone ≡ true
    → Kept a es now → now.config ≡ old.config → now.service ≡ old.service
    → AreEnabled a old strands → NoneAllowed a (from_pick strands pick) old new
    → ((n : Need)
    → is_given a.setting (past_at a now.seen) a.session n ≡ is_given a.setting (past_at a old.seen) a.session n)
    → CannotAct a.setting now.seen a.session es
idle_since {a} {es} {strands} {pick} {old} {new} {now} alone k config service enabled stood same x =
    let here : enabled.config ≡ k.here = same_of (sym enabled.at ∙ sym config ∙ k.at) in
    let y = x.acts in
    let has : after a.setting.parts old.service enabled.config y.strand y.gift ≡ Some y.done
    = sym (λ i. after a.setting.parts (service i) (sym here i) y.strand y.gift) ∙ acted k x in
    passed_not {new = new} alone
    (each_turn (λ n. Passed a n old new) strands pick stood.passed y.strand
    ((enabled.exact y.strand).1 (y.gift, y.done, has)))
    enabled.config enabled.at y.gift y.done has
    (sym (same y.done.need) ∙ y.given)
