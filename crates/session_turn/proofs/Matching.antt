-- The call that an event makes is the one that its kind and number tell.
use Rattle.std.proofs.Common.{◌≡◌, ℕ, Bool, true, false, not, ◌&&◌, List, Option, Some, None, nat_eq, refl, sym, ap, ◌∙◌, slice_get, eq-eqb}
use Rattle.std.specs.List.{list_any}
use Rattle.std.proofs.Math.Bool.{or-false}
use Rattle.std.proofs.lemmas.Bool.{true≢false}
use Rattle.jolie_trees.specs.Data.{Tree}
use Rattle.behaviour_tree.specs.declared.words.Kind.{Kind}
use Rattle.behaviour_tree.specs.declared.words.Kind.TheVariants as kind
use Rattle.behaviour_tree.specs.declared.words.Event.{Event}
use Rattle.behaviour_tree.specs.declared.words.Need.{Need}
use Rattle.behaviour_tree.specs.declared.words.Need.TheVariants as need
use Rattle.behaviour_tree.specs.declared.words.Given.{Given}
use Rattle.behaviour_tree.specs.declared.words.Given.TheVariants as given
use Rattle.session_calculus.specs.Runs.{TakenStep}
use Rattle.office_core.specs.declared.history.Act.{Act}
use Rattle.office_core.specs.declared.history.Act.TheVariants as act
use Rattle.office_core.specs.declared.history.Entry.{Entry}
use Rattle.office_core.specs.declared.message.Message.{Message}
use Rattle.office_core.specs.Past.{Past}
use Rattle.office_core.specs.Boxes.{takes}
use Rattle.office_core.specs.Legal.{takes_answer}
use Rattle.run_record.specs.Steps.{gift_of, mail, makes_call}
use Rattle.run_record.specs.Agrees.{IsCall}
use Rattle.session_turn.specs.Asking.{answers_message}
use Rattle.session_turn.specs.Seen.{Seat, by_session, past_at}
use Rattle.session_turn.specs.Lives.{Gives, by_call, nothing}
use Rattle.session_turn.proofs.Telling.{Tells}

-- a step by its event and its gift
abbrev pub step_of : Event → Given → TakenStep
step_of e g = record { event = e; gift = g }

-- what a kind of event tells of a number
abbrev pub at_kind : Kind → Kind → Bool → Bool
at_kind kind.In k b = elim k [ kind.In ↦ b | _ ↦ false ]
at_kind kind.Reply k b = elim k [ kind.Reply ↦ b | _ ↦ false ]
at_kind kind.Solicit k b = elim k [ kind.Solicit ↦ b | _ ↦ false ]
at_kind kind.Answer k b = elim k [ kind.Answer ↦ b | _ ↦ false ]
at_kind j k b = false

-- ---- where nothing is asked

quiet-in : (k : Kind) (b : Bool) → makes_call k ≡ false → at_kind kind.In k b ≡ false
quiet-in kind.In b h = absurd (true≢false h)
quiet-in k b h = refl

quiet-reply : (k : Kind) (b : Bool) → makes_call k ≡ false → at_kind kind.Reply k b ≡ false
quiet-reply kind.Reply b h = absurd (true≢false h)
quiet-reply k b h = refl

pub quiet-solicit : (k : Kind) (b : Bool) → makes_call k ≡ false → at_kind kind.Solicit k b ≡ false
quiet-solicit kind.Solicit b h = absurd (true≢false h)
quiet-solicit k b h = refl

quiet-answer : (k : Kind) (b : Bool) → makes_call k ≡ false → at_kind kind.Answer k b ≡ false
quiet-answer kind.Answer b h = absurd (true≢false h)
quiet-answer k b h = refl

-- ---- the number of a message that was taken

mail-number : (m i o : ℕ) (v : Tree) (x : Option Message) → mail m x ≡ given.Mail i o v → m ≡ i
mail-number m i o v None e = absurd (no-mail e)
  where
    no-mail : given.Nothing ≡ given.Mail i o v → ⊥
    no-mail e = cc
mail-number m i o v (Some x) e = same e
  where
    same : given.Mail m x.op x.value ≡ given.Mail i o v → m ≡ i
    same e = cc

-- a call of the session itself, which has a number
own-number : (s m n : ℕ) → (nat_eq s s && nat_eq m n) ≡ nat_eq m n
own-number s m n = ap (λ b. b && nat_eq m n) (eq-eqb s s refl)

-- a number that an event has, where its kind is known
tells-it : (j : Kind) {k k' : Kind} (m n : ℕ) {n' : ℕ} → k' ≡ k → n' ≡ n → at_kind j k (nat_eq m n) ≡ at_kind j k' (nat_eq m n')
tells-it j {k} {k'} m n {n'} f g = ap (λ x. at_kind j x (nat_eq m n)) (sym f) ∙ ap (λ x. at_kind j k' (nat_eq m x)) (sym g)

-- an event of another kind
tells-not : (j : Kind) {k k' : Kind} (b : Bool) → k' ≡ k → at_kind j k b ≡ at_kind j k' b
tells-not j b f = ap (λ x. at_kind j x b) (sym f)

-- ---- what a call is by the event that makes it

taken-call : (s m : ℕ) (past : Past) (n : Need) (g : Given) (e : Event) (call : Act) → IsCall s n past call
    → gift_of (record { before = past; act = call }) ≡ g → Tells g e n
    → takes s m (record { actor = s; act = call }) ≡ at_kind kind.In e.kind (nat_eq m e.number)
taken-call s m past (need.Take ops) g e (act.Take i) c f t =
    own-number s m i ∙ tells-it kind.In m i t.0 (sym (mail-number i e.number t.1 t.2 (slice_get past.messages i) (f ∙ t.3)))
taken-call s m past (need.Answer k) g e (act.Answer l o) c f t = tells-not kind.In (nat_eq m e.number) t.0
taken-call s m past (need.Bind v x) g e (act.Bind u y r) c f t = tells-not kind.In (nat_eq m e.number) t
taken-call s m past (need.Reply i o) g e (act.Reply l q) c f t = tells-not kind.In (nat_eq m e.number) t.0
taken-call s m past (need.Send k port op v true) g e (act.Send l q p u w r) c f t =
    tells-not kind.In (nat_eq m e.number) t.0
taken-call s m past (need.Send k port op v false) g e (act.Send l q p u w r) c f t =
    tells-not kind.In (nat_eq m e.number) t.0
taken-call s m past need.Finish g e act.End c f t = tells-not kind.In (nat_eq m e.number) t
taken-call s m past n g e call c f t = absurd c

replied-call : (s m : ℕ) (past : Past) (n : Need) (g : Given) (e : Event) (call : Act) → IsCall s n past call
    → Tells g e n
    → answers_message s m (record { actor = s; act = call }) ≡ at_kind kind.Reply e.kind (nat_eq m e.number)
replied-call s m past (need.Take ops) g e (act.Take i) c t = tells-not kind.Reply (nat_eq m e.number) t.0
replied-call s m past (need.Answer k) g e (act.Answer l o) c t = tells-not kind.Reply (nat_eq m e.number) t.0
replied-call s m past (need.Bind v x) g e (act.Bind u y r) c t = tells-not kind.Reply (nat_eq m e.number) t
replied-call s m past (need.Reply i o) g e (act.Reply l q) c t =
    own-number s m l ∙ tells-it kind.Reply m l t.0 (t.1 ∙ sym c.0)
replied-call s m past (need.Send k port op v true) g e (act.Send l q p u w r) c t =
    tells-not kind.Reply (nat_eq m e.number) t.0
replied-call s m past (need.Send k port op v false) g e (act.Send l q p u w r) c t =
    tells-not kind.Reply (nat_eq m e.number) t.0
replied-call s m past need.Finish g e act.End c t = tells-not kind.Reply (nat_eq m e.number) t
replied-call s m past n g e call c t = absurd c

answered-call : (s m : ℕ) (past : Past) (n : Need) (g : Given) (e : Event) (call : Act) → IsCall s n past call
    → Tells g e n
    → takes_answer s m (record { actor = s; act = call }) ≡ at_kind kind.Answer e.kind (nat_eq m e.number)
answered-call s m past (need.Take ops) g e (act.Take i) c t = tells-not kind.Answer (nat_eq m e.number) t.0
answered-call s m past (need.Answer k) g e (act.Answer l o) c t =
    own-number s m l ∙ tells-it kind.Answer m l t.0 (t.1 ∙ sym c)
answered-call s m past (need.Bind v x) g e (act.Bind u y r) c t = tells-not kind.Answer (nat_eq m e.number) t
answered-call s m past (need.Reply i o) g e (act.Reply l q) c t = tells-not kind.Answer (nat_eq m e.number) t.0
answered-call s m past (need.Send k port op v true) g e (act.Send l q p u w r) c t =
    tells-not kind.Answer (nat_eq m e.number) t.0
answered-call s m past (need.Send k port op v false) g e (act.Send l q p u w r) c t =
    tells-not kind.Answer (nat_eq m e.number) t.0
answered-call s m past need.Finish g e act.End c t = tells-not kind.Answer (nat_eq m e.number) t
answered-call s m past n g e call c t = absurd c

-- ---- the same of the entries that an event makes

-- a test of entries and one of events that agree where an event makes its call
pub record Matches (s : ℕ) (f : Entry → Bool) (j : Kind) (m : ℕ) : Type 0 where
  pub quiet : (k : Kind) (b : Bool) → makes_call k ≡ false → at_kind j k b ≡ false
  pub call : (past : Past) (n : Need) (g : Given) (e : Event) (call : Act) → IsCall s n past call
      → gift_of (record { before = past; act = call }) ≡ g → Tells g e n
      → f (record { actor = s; act = call }) ≡ at_kind j e.kind (nat_eq m e.number)

pub matches-taken : (s m : ℕ) → Matches s (takes s m) kind.In m
matches-taken s m = record { quiet = quiet-in; call = taken-call s m }

pub matches-replied : (s m : ℕ) → Matches s (answers_message s m) kind.Reply m
matches-replied s m = record { quiet = quiet-reply; call = λ past n g e call c f t. replied-call s m past n g e call c t }

pub matches-answered : (s k : ℕ) → Matches s (takes_answer s k) kind.Answer k
matches-answered s k = record { quiet = quiet-answer; call = λ past n g e call c f t. answered-call s k past n g e call c t }

-- what the test finds in the entries of an event
pub matches-own : {a : Seat} {f : Entry → Bool} {j : Kind} {m : ℕ} {h : List Entry} {n : Need} {g : Given} {own : List Entry}
    → Matches a.session f j m → (e : Event) → Gives a h n g own → Tells g e n
    → list_any f own ≡ at_kind j e.kind (nat_eq m e.number)
matches-own {m = m} x e nothing t = sym (x.quiet e.kind (nat_eq m e.number) t)
matches-own {a} {f = f} {h = h} x e (by_call n g call k) t =
    or-false (f (by_session a call)) ∙ x.call (past_at a h) n g e call k.is_call k.gives t
