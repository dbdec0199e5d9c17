-- Entries of one session leave what is said of others.
use Rattle.std.proofs.Common.{◌≡◌, ℕ, Bool, true, false, ◌&&◌, ◌||◌, List, [], ◌∷◌, ◌++◌, refl, sym, ap, ◌∙◌, true≢false}
use Rattle.std.specs.Prelude.{nat_eq}
use Rattle.std.specs.List.{list_all, list_any}
use Rattle.std.specs.Cmp.{unsigned_Decides}
use Rattle.std.proofs.lemmas.List.Folds.{list_any-append}
use Rattle.behaviour_tree.specs.declared.words.Need.{Need}
use Rattle.behaviour_tree.specs.declared.words.Need.TheVariants as need
use Rattle.behaviour_tree.specs.declared.words.Given.{Given}
use Rattle.office_core.specs.declared.history.Act.{Act}
use Rattle.office_core.specs.declared.history.Act.TheVariants as act
use Rattle.office_core.specs.declared.history.Entry.{Entry}
use Rattle.office_core.specs.Limits.{Setting}
use Rattle.office_core.specs.Past.{Past, some_entry}
use Rattle.office_core.specs.Sessions.{adopts}
use Rattle.office_core.specs.Accepted.{past_of}
use Rattle.run_record.specs.Steps.{is_call_of}
use Rattle.run_record.specs.Agrees.{IsCall}
use Rattle.session_turn.specs.Seen.{AreForeign, Seat, past_at}
use Rattle.session_turn.specs.Lives.{Gives, by_call, nothing}
use Rattle.session_turn.proofs.Histories.{some_of}

-- ---- a session's own entries

-- entries of session s, none of which is its adoption
abbrev pub AreOwn : ℕ → List Entry → Type 0
AreOwn s es = list_all (is_call_of s) es ≡ true

pub left : (a b : Bool) → (a && b) ≡ true → a ≡ true
left true b h = refl
left false b h = h

pub right : (a b : Bool) → (a && b) ≡ true → b ≡ true
right true b h = h
right false b h = absurd (true≢false (sym h))

eq-self : (n : ℕ) → nat_eq n n ≡ true
eq-self n = (unsigned_Decides n n).1 refl

-- the call that an event asks for is no adoption
call-own : (s : ℕ) (n : Need) (past : Past) (a : Act) → IsCall s n past a → is_call_of s (record { actor = s; act = a }) ≡ true
call-own s (need.Take ops) past (act.Take m) h = eq-self s
call-own s (need.Bind v x) past (act.Bind u y r) h = eq-self s
call-own s (need.Reply m o) past (act.Reply n q) h = eq-self s
call-own s (need.Send k port op v wants) past (act.Send l q p u wanted r) h = eq-self s
call-own s (need.Answer k) past (act.Answer l o) h = eq-self s
call-own s need.Finish past act.End h = eq-self s
call-own s n past a h = absurd h

-- what the office gives an event adds entries of the session
pub gives_own : {a : Seat} {h : List Entry} {n : Need} {g : Given} {own : List Entry} → Gives a h n g own → AreOwn a.session own
gives_own nothing = refl
gives_own {a} {h} (by_call n g call is) =
    ap (λ b. b && true) (call-own a.session n (past_at a h) call is.is_call)

-- an entry of session s is of nobody else
own-foreign : (s n : ℕ) (e : Entry) → (n ≡ s → ⊥) → is_call_of s e ≡ true → nat_eq n e.actor ≡ false
own-foreign s n e unlike h = go e.actor e.act h
  where
    by : (t : ℕ) (b : Bool) → nat_eq n t ≡ b → nat_eq s t ≡ true → b ≡ false
    by t false e k = refl
    by t true e k = absurd (unlike ((unsigned_Decides n t).0 e ∙ sym ((unsigned_Decides s t).0 k)))

    go : (t : ℕ) (c : Act) → is_call_of s (record { actor = t; act = c }) ≡ true → nat_eq n t ≡ false
    go t (act.Adopt d) k = absurd (true≢false (sym k))
    go t c k = by t (nat_eq n t) refl k

pub own_foreign : (s n : ℕ) (es : List Entry) → (n ≡ s → ⊥) → AreOwn s es → AreForeign n es
own_foreign s n [] unlike h = tt
own_foreign s n (e ∷ es) unlike h = (
  own-foreign s n e unlike (left (is_call_of s e) (list_all (is_call_of s) es) h),
  own_foreign s n es unlike (right (is_call_of s e) (list_all (is_call_of s) es) h),
)

-- and adopts nobody
own-adopts : (s n : ℕ) (e : Entry) → is_call_of s e ≡ true → adopts n e ≡ false
own-adopts s n e h = go e.actor e.act h
  where
    go : (t : ℕ) (c : Act) → is_call_of s (record { actor = t; act = c }) ≡ true → adopts n (record { actor = t; act = c }) ≡ false
    go t (act.Adopt d) k = absurd (true≢false (sym k))
    go t c k = refl

pub own_adopts : (s n : ℕ) (es : List Entry) → AreOwn s es → list_any (adopts n) es ≡ false
own_adopts s n [] h = refl
own_adopts s n (e ∷ es) h =
    ap (λ b. b || list_any (adopts n) es) (own-adopts s n e (left (is_call_of s e) (list_all (is_call_of s) es) h))
    ∙ own_adopts s n es (right (is_call_of s e) (list_all (is_call_of s) es) h)

-- ---- more entries

or-none : (a b : Bool) → b ≡ false → (a || b) ≡ a
or-none true b h = refl
or-none false b h = h

-- an entry of a kind that more entries do not have
pub some_with : (w : Setting) (h more : List Entry) (f : Entry → Bool) → list_any f more ≡ false
    → some_entry (past_of w (h ++ more)) f ≡ some_entry (past_of w h) f
some_with w h more f none =
    some_of w (h ++ more) f ∙ list_any-append f h more ∙ or-none (list_any f h) (list_any f more) none ∙ sym (some_of w h f)
