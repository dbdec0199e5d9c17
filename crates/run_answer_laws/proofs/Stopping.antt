-- What was before the stop: all messages, and all that sessions did.
use Rattle.std.proofs.Common.{◌≡◌, ℕ, Bool, true, false, not, ◌||◌, List, [], ◌∷◌, ◌++◌, if◌then◌else◌, refl, sym, ap, subst, ◌∙◌}
use Rattle.std.proofs.lemmas.Bool.{false≢true}
use Rattle.office_core.specs.declared.history.Act.{Act}
use Rattle.office_core.specs.declared.history.Act.TheVariants as act
use Rattle.office_core.specs.declared.history.Entry.{Entry}
use Rattle.office_core.specs.Limits.{Setting}
use Rattle.office_core.specs.Past.{Past, some_entry, stops}
use Rattle.office_core.specs.Accepted.{past_of, then_all, then_one}
use Rattle.office_core.specs.Legal.{AreLegal, IsLegal}
use Rattle.office_core.proofs.Longer.{some_more}
use Rattle.run_order_laws.specs.Entries.{is_collect}
use Rattle.run_order_laws.proofs.Growing.{legal_rest, past_then}
use Rattle.run_order_laws.proofs.Staying.{needs_run}
use Rattle.run_record.specs.Quiet.{before_stop}

-- all of some entries are collects
abbrev pub AreCollects : List Entry → Type 0
AreCollects [] = Unit {0}
AreCollects (e ∷ es) = (is_collect e ≡ true) × AreCollects es

-- a stop and collects, or nothing
abbrev pub IsEnd : List Entry → Type 0
IsEnd [] = Unit {0}
IsEnd (e ∷ es) = (stops e ≡ true) × AreCollects es

-- ---- behind the stop

collects-behind : (w : Setting) (past : Past) (es : List Entry) → some_entry past stops ≡ true → AreLegal w past es
    → AreCollects es
collects-behind w past [] stopped legal = tt
collects-behind w past (e ∷ es) stopped legal = (
  collect (is_collect e) refl,
  collects-behind w (then_one w past e) es
      (some_more w past e stops ∙ ap (λ b. b || stops e) stopped) legal.1,
)
  where
    collect : (b : Bool) → is_collect e ≡ b → b ≡ true
    collect true q = refl
    collect false q =
        absurd (false≢true (ap not (sym stopped) ∙ needs_run w past e.actor e.act (legal.0).allowed q))

-- the first of them is the stop
abbrev FirstStops : List Entry → Type 0
FirstStops [] = Unit {0}
FirstStops (e ∷ es) = stops e ≡ true

-- a history is what was before its stop, and its end
record Cut (h : List Entry) : Type 0 where
  pub later : List Entry
  pub is : h ≡ before_stop h ++ later
  pub first : FirstStops later

cut : (h : List Entry) → Cut h
cut [] = record { later = []; is = refl; first = tt }
cut (e ∷ es) = go (stops e) refl (cut es)
  where
    go : (b : Bool) → stops e ≡ b → Cut es → Cut (e ∷ es)
    go true q c = record {
      later = e ∷ es;
      is = ap (λ (b : Bool). (if b then [] else e ∷ before_stop es) ++ e ∷ es) (sym q);
      first = q;
    }
    go false q c = record {
      later = c.later;
      is = ap (λ (xs : List Entry). e ∷ xs) c.is
          ∙ ap (λ (b : Bool). (if b then [] else e ∷ before_stop es) ++ c.later) (sym q);
      first = c.first;
    }

or-true : (b c : Bool) → c ≡ true → (b || c) ≡ true
or-true true c q = refl
or-true false c q = q

-- a legal history is what was before its stop, with that and collects behind it
pub record Ends (h : List Entry) : Type 0 where
  pub later : List Entry
  pub is : h ≡ before_stop h ++ later
  pub end : IsEnd later

pub ends_so : (w : Setting) (h : List Entry) → IsLegal w h → Ends h
ends_so w h legal =
    let c = cut h in
    record { later = c.later; is = c.is; end = go c.later c.first (subst (IsLegal w) c.is legal) }
  where
    go : (later : List Entry) → FirstStops later → IsLegal w (before_stop h ++ later) → IsEnd later
    go [] first legal = tt
    go (e ∷ es) first legal =
        let rest = legal_rest w (before_stop h) (e ∷ es) legal in
        let past = past_of w (before_stop h) in (
          first,
          collects-behind w (then_one w past e) es
              (some_more w past e stops ∙ or-true (some_entry past stops) (stops e) first) rest.1,
        )

-- ---- no message comes behind it

stop-brings : (w : Setting) (past : Past) (s : ℕ) (a : Act) → stops (record { actor = s; act = a }) ≡ true
    → (then_one w past (record { actor = s; act = a })).messages ≡ past.messages
stop-brings w past s act.Stop h = refl
stop-brings w past s a h = absurd (false≢true h)

collect-brings : (w : Setting) (past : Past) (s : ℕ) (a : Act) → is_collect (record { actor = s; act = a }) ≡ true
    → (then_one w past (record { actor = s; act = a })).messages ≡ past.messages
collect-brings w past s (act.Collect n o) h = refl
collect-brings w past s a h = absurd (false≢true h)

collects-bring : (w : Setting) (past : Past) (es : List Entry) → AreCollects es
    → (then_all w past es).messages ≡ past.messages
collects-bring w past [] h = refl
collects-bring w past (e ∷ es) h =
    collects-bring w (then_one w past e) es h.1 ∙ collect-brings w past e.actor e.act h.0

end-brings : (w : Setting) (past : Past) (es : List Entry) → IsEnd es → (then_all w past es).messages ≡ past.messages
end-brings w past [] h = refl
end-brings w past (e ∷ es) h =
    collects-bring w (then_one w past e) es h.1 ∙ stop-brings w past e.actor e.act h.0

-- all messages came before the stop
pub messages_before : (w : Setting) (h : List Entry) → Ends h
    → (past_of w h).messages ≡ (past_of w (before_stop h)).messages
messages_before w h x =
    ap (λ (es : List Entry). (past_of w es).messages) x.is
    ∙ ap (λ (p : Past). p.messages) (past_then w (before_stop h) x.later)
    ∙ end-brings w (past_of w (before_stop h)) x.later x.end
