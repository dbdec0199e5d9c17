-- The events of a session beside its calls, one for one: what it took, what it answered, and whether it ended.
use Rattle.std.proofs.Common.{◌≡◌, ℕ, ◌+◌, ◌≤◌, Bool, true, false, ◌||◌, List, [], ◌∷◌, drop, Option, None, Some, slice_get, nat_eq, cond, refl, sym, ap, subst, ◌∙◌, arith, eqb-true}
use Rattle.std.specs.List.{list_any}
use Rattle.std.proofs.lemmas.Bool.{and_parts, false≢true}
use Rattle.std.proofs.lemmas.List.Sums.{sum_by-cons}
use Rattle.jolie_trees.specs.Data.{Tree}
use Rattle.behaviour_tree.specs.declared.words.Event.{Event}
use Rattle.behaviour_tree.specs.declared.words.Kind.TheVariants as kind
use Rattle.behaviour_tree.specs.declared.words.Need.{Need}
use Rattle.behaviour_tree.specs.declared.words.Need.TheVariants as need
use Rattle.behaviour_tree.specs.declared.words.Given.{Given}
use Rattle.behaviour_tree.specs.declared.words.Given.TheVariants as given
use Rattle.behaviour_tree.specs.Data.{ProgramParts}
use Rattle.session_calculus.specs.After.{Config, Done, after}
use Rattle.session_calculus.specs.Runs.{Leads, TakenStep}
use Rattle.session_calculus.specs.Laws.{asks, is_asked, is_event, place_in, times_asked, times_replied}
use Rattle.session_laws.proofs.Answering.{asked-cons}
use Rattle.session_laws.proofs.Counting.{once}
use Rattle.office_core.specs.declared.history.Act.{Act}
use Rattle.office_core.specs.declared.history.Act.TheVariants as act
use Rattle.office_core.specs.declared.history.Entry.{Entry}
use Rattle.office_core.specs.declared.message.Message.{Message}
use Rattle.office_core.specs.Past.{Past}
use Rattle.office_core.specs.Boxes.{takes}
use Rattle.office_core.specs.Keys.{first}
use Rattle.office_core.specs.Sessions.{ends as ends_it}
use Rattle.run_record.specs.Steps.{Called, gift_by, gift_of, mail, makes_call, steps_of}
use Rattle.run_record.specs.Agrees.{AreCalls, IsCall, asked_by, asked_from}
use Rattle.session_turn.specs.Asking.{answers_message}
use Rattle.session_turn.proofs.Matching.{matches-replied}
use Rattle.session_turn.proofs.Telling.{Ends, Tells, is_told}
use Rattle.session_turn.proofs.Walking.{not-ended}
use Rattle.run_answer_laws.proofs.Asking.{Fits, asks_taken, fits_on, has_answer}
use Rattle.run_answer_laws.proofs.Taking.{is_take}

-- an event that makes no call
pub record Quietly (parts : ProgramParts) (service : ℕ) (c : Config) (x : TakenStep) : Type 0 where
  pub done : Done
  pub came : after parts service c x.event.strand x.gift ≡ Some done
  pub is : done.event ≡ x.event
  pub quiet : makes_call x.event.kind ≡ false

-- an event that makes a call of session s
pub record Makes (parts : ProgramParts) (service s : ℕ) (c : Config) (x : TakenStep) (call : Called) : Type 0 where
  pub done : Done
  pub came : after parts service c x.event.strand x.gift ≡ Some done
  pub is : done.event ≡ x.event
  pub gift : gift_of call ≡ x.gift
  pub asked : IsCall s done.need call.before call.act

-- steps of session s beside its calls, from a configuration to another
pub data Walks (parts : ProgramParts) (service s : ℕ) : Config → List Called → List TakenStep → Config → Type 0 where
  ends : (c : Config) → Walks parts service s c [] [] c
  quietly : (c : Config) (x : TakenStep) (q : Quietly parts service c x) (cs : List Called) (xs : List TakenStep) (to : Config)
      → Walks parts service s q.done.config cs xs to → Walks parts service s c cs (x ∷ xs) to
  calling : (c : Config) (x : TakenStep) (call : Called) (m : Makes parts service s c x call) (cs : List Called) (xs : List TakenStep) (to : Config)
      → Walks parts service s m.done.config cs xs to → Walks parts service s c (call ∷ cs) (x ∷ xs) to

-- ---- the events of a record

abbrev steps_if : Bool → Event → List Event → List Called → List TakenStep
steps_if b e es cs = elim b [
  | true ↦ record { event = e; gift = gift_by (first cs) } ∷ steps_of es (drop 1 cs)
  | false ↦ record { event = e; gift = given.Nothing } ∷ steps_of es cs
]

abbrev asked_if : Bool → Need → List Need → List Need
asked_if b n ns = elim b [ true ↦ n ∷ ns | false ↦ ns ]

abbrev asked_at : ProgramParts → ℕ → Option Done → List TakenStep → List Need
asked_at parts service o xs = elim o [ None ↦ [] | Some d ↦ asked_by d (asked_from parts service d.config xs) ]

module _ (parts : ProgramParts) (service s : ℕ) where
  -- what a first step asks
  asked-first : (c : Config) (x : TakenStep) (xs : List TakenStep) (cs : List Called) (b : Bool) (d : Done)
      → after parts service c x.event.strand x.gift ≡ Some d → d.event ≡ x.event → makes_call x.event.kind ≡ b
      → AreCalls s (asked_from parts service c (x ∷ xs)) cs
      → AreCalls s (asked_if b d.need (asked_from parts service d.config xs)) cs
  asked-first c x xs cs b d e is q a =
      subst (λ (ns : List Need). AreCalls s ns cs)
      (ap (λ (o : Option Done). asked_at parts service o xs) e
      ∙ ap (λ (k : Bool). asked_if k d.need (asked_from parts service d.config xs))
      (ap (λ (v : Event). makes_call v.kind) is ∙ q)) a

  pub walk : (es : List Event) (cs : List Called) (c to : Config) → Leads parts service c (steps_of es cs) to
      → AreCalls s (asked_from parts service c (steps_of es cs)) cs
      → Walks parts service s c cs (steps_of es cs) to
  walk [] [] c to l a = subst (λ (k : Config). Walks parts service s c [] [] k) l (ends c)
  walk [] (call ∷ cs) c to l a = absurd a
  walk (e ∷ es) cs c to l a = by (makes_call e.kind) refl cs (λ ds k. walk es ds k to) l a
    where
      by : (b : Bool) → makes_call e.kind ≡ b → (cs : List Called)
          → ((ds : List Called) (k : Config) → Leads parts service k (steps_of es ds) to
          → AreCalls s (asked_from parts service k (steps_of es ds)) ds → Walks parts service s k ds (steps_of es ds) to)
          → Leads parts service c (steps_if b e es cs) to
          → AreCalls s (asked_from parts service c (steps_if b e es cs)) cs
          → Walks parts service s c cs (steps_if b e es cs) to
      by false q cs on l a =
          let x : TakenStep = record { event = e; gift = given.Nothing } in
          quietly c x (record { done = l.0; came = l.1; is = l.2; quiet = q }) cs (steps_of es cs) to
          (on cs l.0.config l.3 (asked-first c x (steps_of es cs) cs false l.0 l.1 l.2 q a))
      by true q [] on l a =
          let x : TakenStep = record { event = e; gift = given.Nothing } in
          absurd (asked-first c x (steps_of es []) [] true l.0 l.1 l.2 q a)
      by true q (call ∷ cs) on l a =
          let x : TakenStep = record { event = e; gift = gift_of call } in
          let asked = asked-first c x (steps_of es cs) (call ∷ cs) true l.0 l.1 l.2 q a in
          calling c x call (record { done = l.0; came = l.1; is = l.2; gift = refl; asked = asked.0 }) cs (steps_of es cs) to
          (on cs l.0.config l.3 asked.1)

-- ---- what it answered

-- a test of a session's calls
abbrev pub some_call : ℕ → (Entry → Bool) → List Called → Bool
some_call s f cs = list_any (λ (c : Called). f (record { actor = s; act = c.act })) cs

counts-one : (all here rest : ℕ) (b more : Bool) → all ≡ here + rest → here ≡ once b → 1 ≤ all → (1 ≤ rest → more ≡ true)
    → (b || more) ≡ true
counts-one all here rest true more e f h k = refl
counts-one all here rest false more e f h k = k (omega (arith, e, f, h))

counts-none : (all here rest : ℕ) (b : Bool) → all ≡ here + rest → here ≡ once b → b ≡ false → 1 ≤ all → 1 ≤ rest
counts-none all here rest true e f q h = absurd (false≢true (sym q))
counts-none all here rest false e f q h = omega (arith, e, f, h)

told_at : (parts : ProgramParts) (service : ℕ) (c : Config) (x : TakenStep) (d : Done)
    → after parts service c x.event.strand x.gift ≡ Some d → d.event ≡ x.event → Tells x.gift x.event d.need
told_at parts service c x d e is =
    subst (λ (v : Event). Tells x.gift v d.need) is (is_told parts service c x.event.strand x.gift d e).tells

-- who answered by an event did so by a call
pub some_reply : (parts : ProgramParts) (service s n : ℕ) (from to : Config) (cs : List Called) (xs : List TakenStep)
    → Walks parts service s from cs xs to → 1 ≤ times_replied n xs → some_call s (answers_message s n) cs ≡ true
some_reply parts service s n from to cs xs (ends c) h = absurd (omega (arith, h))
some_reply parts service s n from to cs xs (quietly c x q ds ys end w) h =
    some_reply parts service s n q.done.config end ds ys w
    (counts-none (times_replied n (x ∷ ys)) (once (is_event kind.Reply n x)) (times_replied n ys)
    (is_event kind.Reply n x) (sum_by-cons (λ y. cond (is_event kind.Reply n y) 1 0) x ys) refl
    ((matches-replied s n).quiet x.event.kind (nat_eq n x.event.number) q.quiet) h)
some_reply parts service s n from to cs xs (calling c x call m ds ys end w) h =
    let is : answers_message s n (record { actor = s; act = call.act }) ≡ is_event kind.Reply n x
    = (matches-replied s n).call call.before m.done.need x.gift x.event call.act m.asked m.gift
    (told_at parts service c x m.done m.came m.is) in
    counts-one (times_replied n (x ∷ ys)) (once (is_event kind.Reply n x)) (times_replied n ys)
    (answers_message s n (record { actor = s; act = call.act })) (some_call s (answers_message s n) ds)
    (sum_by-cons (λ y. cond (is_event kind.Reply n y) 1 0) x ys) (ap once (sym is)) h
    (some_reply parts service s n m.done.config end ds ys w)

-- ---- what it took

-- what a call knows of message n is the message
abbrev pub AllKnow : ℕ → Message → List Called → Type 0
AllKnow n m [] = Unit {0}
AllKnow n m (c ∷ cs) = ((x : Message) → slice_get c.before.messages n ≡ Some x → x ≡ m) × AllKnow n m cs

-- message n was taken
record IsTaken (past : Past) (asked : Need) (g : Given) (n : ℕ) : Type 0 where
  take : is_take asked ≡ true
  message : Message
  there : slice_get past.messages n ≡ Some message
  gift : g ≡ given.Mail n message.op message.value

no-mail : (i o : ℕ) (v : Tree) → given.Nothing ≡ given.Mail i o v → ⊥
no-mail i o v e = cc

taken-by : (s n : ℕ) (past : Past) (asked : Need) (g : Given) (e : Event) (call : Act) → IsCall s asked past call
    → takes s n (record { actor = s; act = call }) ≡ true
    → gift_of (record { before = past; act = call }) ≡ g → Tells g e asked
    → IsTaken past asked g n
taken-by s n past (need.Take ops) g e (act.Take i) c t f tells = go (slice_get past.messages i) refl
  where
    same : n ≡ i
    same = eqb-true n i (and_parts (nat_eq s s) (nat_eq n i) t).1

    go : (o : Option Message) → slice_get past.messages i ≡ o → IsTaken past (need.Take ops) g n
    go None q = absurd (no-mail e.number tells.1 tells.2 (ap (mail i) (sym q) ∙ f ∙ tells.3))
    go (Some y) q = record {
      take = refl;
      message = y;
      there = subst (λ (k : ℕ). slice_get past.messages k ≡ Some y) (sym same) q;
      gift = sym f ∙ ap (mail i) q ∙ ap (λ (k : ℕ). given.Mail k y.op y.value) (sym same);
    }
taken-by s n past (need.Answer k) g e (act.Answer l o) c t f tells = absurd (false≢true t)
taken-by s n past (need.Bind v x) g e (act.Bind u y r) c t f tells = absurd (false≢true t)
taken-by s n past (need.Reply i o) g e (act.Reply l q) c t f tells = absurd (false≢true t)
taken-by s n past (need.Send k port op v w) g e (act.Send l q p u w' r) c t f tells = absurd (false≢true t)
taken-by s n past need.Finish g e act.End c t f tells = absurd (false≢true t)
taken-by s n past asked g e call c t f tells = absurd c

-- the event that takes it asks for it as a request
asked-by-it : (parts : ProgramParts) (service s n : ℕ) (m : Message) (c : Config) (x : TakenStep) (call : Called)
    (k : Makes parts service s c x call)
    → has_answer parts service m.op ≡ true → Fits parts service c
    → ((y : Message) → slice_get call.before.messages n ≡ Some y → y ≡ m)
    → takes s n (record { actor = s; act = call.act }) ≡ true
    → is_asked n c x ≡ true
asked-by-it parts service s n m c x call k answers fits knows t =
    let it = taken-by s n call.before k.done.need x.gift x.event call.act k.asked t k.gift
    (told_at parts service c x k.done k.came k.is) in
    ap (asks n (place_in x.event.strand 0 c.form)) it.gift
    ∙ asks_taken parts service c x.event.strand k.done n it.message.op it.message.value fits
    (subst (λ (g : Given). after parts service c x.event.strand g ≡ Some k.done) it.gift k.came) it.take
    (ap (λ (y : Message). has_answer parts service y.op) (knows it.message it.there) ∙ answers)

asked-here : (all here rest : ℕ) (b : Bool) → all ≡ here + rest → here ≡ once b → b ≡ true → 1 ≤ all
asked-here all here rest true e f q = omega (arith, e, f)
asked-here all here rest false e f q = absurd (false≢true q)

asked-later : (all here rest : ℕ) → all ≡ here + rest → 1 ≤ rest → 1 ≤ all
asked-later all here rest e f = omega (arith, e, f)

-- a request that a session takes comes as one
pub some_asked : (parts : ProgramParts) (service s n : ℕ) (m : Message) (from to : Config) (cs : List Called) (xs : List TakenStep)
    → Walks parts service s from cs xs to → has_answer parts service m.op ≡ true → Fits parts service from
    → AllKnow n m cs → some_call s (takes s n) cs ≡ true
    → 1 ≤ times_asked parts service n from xs
some_asked parts service s n m from to cs xs (ends c) answers fits knows t = absurd (false≢true t)
some_asked parts service s n m from to cs xs (quietly c x q ds ys end w) answers fits knows t =
    asked-later (times_asked parts service n c (x ∷ ys)) (once (is_asked n c x)) (times_asked parts service n q.done.config ys)
    (asked-cons parts service n c x ys q.done q.came)
    (some_asked parts service s n m q.done.config end ds ys w answers
    (fits_on parts service c x.event.strand x.gift q.done fits q.came) knows t)
some_asked parts service s n m from to cs xs (calling c x call k ds ys end w) answers fits knows t =
    go (takes s n (record { actor = s; act = call.act })) refl t
    (some_asked parts service s n m k.done.config end ds ys w answers
    (fits_on parts service c x.event.strand x.gift k.done fits k.came) knows.1)
  where
    go : (b : Bool) → takes s n (record { actor = s; act = call.act }) ≡ b → (b || some_call s (takes s n) ds) ≡ true
        → (some_call s (takes s n) ds ≡ true → 1 ≤ times_asked parts service n k.done.config ys)
        → 1 ≤ times_asked parts service n c (x ∷ ys)
    go true q h later =
        asked-here (times_asked parts service n c (x ∷ ys)) (once (is_asked n c x)) (times_asked parts service n k.done.config ys)
        (is_asked n c x) (asked-cons parts service n c x ys k.done k.came) refl
        (asked-by-it parts service s n m c x call k answers fits knows.0 q)
    go false q h later =
        asked-later (times_asked parts service n c (x ∷ ys)) (once (is_asked n c x)) (times_asked parts service n k.done.config ys)
        (asked-cons parts service n c x ys k.done k.came) (later h)

-- ---- whether it ended

ends-call : (s : ℕ) (past : Past) (n : Need) (call : Act) (b b' : Bool) → IsCall s n past call → Ends b n b'
    → ends_it s (record { actor = s; act = call }) ≡ true → b' ≡ true
ends-call s past need.Finish act.End b b' c t h = t
ends-call s past (need.Take ops) (act.Take i) b b' c t h = absurd (false≢true h)
ends-call s past (need.Answer k) (act.Answer l o) b b' c t h = absurd (false≢true h)
ends-call s past (need.Bind v x) (act.Bind u y r) b b' c t h = absurd (false≢true h)
ends-call s past (need.Reply i o) (act.Reply l q) b b' c t h = absurd (false≢true h)
ends-call s past (need.Send k port op v w) (act.Send l q p u w' r) b b' c t h = absurd (false≢true h)
ends-call s past n call b b' c t h = absurd c

-- behind its end a session has no event
stays-ended : (parts : ProgramParts) (service s : ℕ) (from to : Config) (cs : List Called) (xs : List TakenStep)
    → Walks parts service s from cs xs to → from.ended ≡ true → to.ended ≡ true
stays-ended parts service s from to cs xs (ends c) h = h
stays-ended parts service s from to cs xs (quietly c x q ds ys end w) h = absurd (not-ended c.ended _ q.done q.came h)
stays-ended parts service s from to cs xs (calling c x call k ds ys end w) h = absurd (not-ended c.ended _ k.done k.came h)

-- a session that made its last call ended
pub some_end : (parts : ProgramParts) (service s : ℕ) (from to : Config) (cs : List Called) (xs : List TakenStep)
    → Walks parts service s from cs xs to → some_call s (ends_it s) cs ≡ true → to.ended ≡ true
some_end parts service s from to cs xs (ends c) t = absurd (false≢true t)
some_end parts service s from to cs xs (quietly c x q ds ys end w) t =
    some_end parts service s q.done.config end ds ys w t
some_end parts service s from to cs xs (calling c x call k ds ys end w) t =
    go (ends_it s (record { actor = s; act = call.act })) refl t (some_end parts service s k.done.config end ds ys w)
  where
    go : (b : Bool) → ends_it s (record { actor = s; act = call.act }) ≡ b → (b || some_call s (ends_it s) ds) ≡ true
        → (some_call s (ends_it s) ds ≡ true → end.ended ≡ true)
        → end.ended ≡ true
    go true q h later =
        stays-ended parts service s k.done.config end ds ys w
        (ends-call s call.before k.done.need call.act c.ended k.done.config.ended k.asked
        (is_told parts service c x.event.strand x.gift k.done k.came).ends q)
    go false q h later = later h
