-- What the calls of a desk gave is what an event asks for, and suits it.
use Rattle.std.proofs.Common.{◌≡◌, ℕ, suc, ◌+◌, Bool, true, false, not, ◌&&◌, List, [], ◌∷◌, ◌++◌, Option, Some, if◌then◌else◌, nat_eq, refl, sym, ap, subst, ◌∙◌, arith, slice_get}
use Rattle.std.specs.List.{list_any}
use Rattle.std.proofs.lemmas.List.{append-nil}
use Rattle.std.proofs.lemmas.Bool.{and_parts}
use Rattle.std.specs.Prelude.{IfSome, IsSome}
use Rattle.std.proofs.lemmas.Option.{none-some}
use Rattle.jolie_trees.specs.declared.root.Root.{Root}
use Rattle.jolie_trees.specs.Data.{Tree}
use Rattle.behaviour_tree.specs.Data.{ProgramParts}
use Rattle.behaviour_tree.specs.WellFormed.{is_well_formed}
use Rattle.behaviour_tree.specs.declared.words.Event.{Event}
use Rattle.behaviour_tree.specs.declared.words.Need.{Need}
use Rattle.behaviour_tree.specs.declared.words.Need.TheVariants as need
use Rattle.behaviour_tree.specs.declared.words.Given.{Given}
use Rattle.behaviour_tree.specs.declared.words.Given.TheVariants as given
use Rattle.behaviour_tree.specs.declared.words.Outcome.{Outcome}
use Rattle.session_calculus.specs.After.{Config, Done, HasEvent, after as after_of}
use Rattle.correlation.specs.declared.bind_reply.BindReply.{BindReply}
use Rattle.correlation.specs.declared.bind_reply.BindReply.TheVariants as reply
use Rattle.office_core.specs.declared.history.Act.{Act}
use Rattle.office_core.specs.declared.history.Act.TheVariants as act
use Rattle.office_core.specs.declared.history.Entry.{Entry}
use Rattle.office_core.specs.declared.history.Placed.{Placed}
use Rattle.office_core.specs.declared.post.Mail.{Mail}
use Rattle.office_core.specs.declared.message.Message.{Message}
use Rattle.office_core.specs.Limits.{Setting, run_of}
use Rattle.office_core.specs.Boxes.{numbers_without, queue, taken}
use Rattle.office_core.specs.Keys.{first}
use Rattle.run_record.specs.Steps.{binding, gift_of, mail}
use Rattle.run_record.specs.Agrees.{IsCall}
use Rattle.session_turn.specs.Asking.{may_call}
use Rattle.session_turn.specs.Seen.{Called, FoundNone, HasNone, Seat, Took, by_session, past_at}
use Rattle.session_turn.specs.Lives.{Gives, by_call, nothing}
use Rattle.session_turn.specs.Attempts.{Asks, Gave, GaveNone, Standing, WentOn, standing}
use Rattle.session_turn.proofs.Growing.{grew_not}
use Rattle.session_turn.proofs.Fitting.{Suits, fits_gift}

module _ {a : Seat} {old new : List Entry} where
  -- a call gave what was asked
  pub gave_by : {asked : Need} {call : Act} (gift : Given) → (c : Called a old new call)
      → IsCall a.session asked (past_at a c.before) call
      → gift_of (record { before = past_at a c.before; act = call }) ≡ gift
      → Gave a asked old new gift
  gave_by {asked} {call} gift c is g = record {
    before = c.before;
    grew = c.grew;
    own = by_session a call ∷ [];
    given = by_call asked gift call (record { is_call = is; reply = c.reply; gives = g });
    is = c.is;
  }

-- where nothing is asked, nothing is given
pub gave_nothing : {a : Seat} (h : List Entry) → Gave a need.Nothing h h given.Nothing
gave_nothing h = record { before = h; grew = grew_not h; own = []; given = nothing; is = sym (append-nil h) }

module _ {a : Seat} {old new : List Entry} where
  pub gave_mail : {ops : List ℕ} {m : Mail} → Took a ops old new m
      → Gave a (need.Take ops) old new (given.Mail m.message m.op m.value)
  gave_mail {ops} {m} t =
      gave_by (given.Mail m.message m.op m.value) t.called t.first
      (ap (mail m.message) t.is ∙ ap (λ (o : ℕ). given.Mail m.message o t.message.value) (sym t.op)
      ∙ ap (λ (v : Tree). given.Mail m.message m.op v) (sym t.value))

  pub gave_mail_of : {ops ops' : List ℕ} {m : Mail} → ops' ≡ ops → Took a ops' old new m
      → Gave a (need.Take ops) old new (given.Mail m.message m.op m.value)
  gave_mail_of {m = m} e t =
      subst (λ (os : List ℕ). Gave a (need.Take os) old new (given.Mail m.message m.op m.value)) e (gave_mail t)

  pub gave_answer : {k : ℕ} {o : Outcome} → Called a old new (act.Answer k o)
      → Gave a (need.Answer k) old new (given.Answer o)
  gave_answer {o = o} c = gave_by (given.Answer o) c refl refl

  pub gave_bound : {v : ℕ} {x : Root} (r : BindReply) → Called a old new (act.Bind v x r)
      → Gave a (need.Bind v x) old new (binding r)
  gave_bound r c = gave_by (binding r) c (refl, refl) refl

  pub gave_reply : {m : ℕ} {o : Outcome} → Called a old new (act.Reply m o)
      → Gave a (need.Reply m o) old new given.Nothing
  gave_reply c = gave_by given.Nothing c (refl, refl) refl

  pub gave_send : {k port op : ℕ} {v : Tree} {wants : Bool} {p : Placed} → Called a old new (act.Send k port op v wants p)
      → Gave a (need.Send k port op v wants) old new given.Nothing
  gave_send c = gave_by given.Nothing c (refl, refl, refl, refl, refl) refl

  pub gave_end : Called a old new act.End → Gave a need.Finish old new given.Nothing
  gave_end c = gave_by given.Nothing c tt refl

  pub gave_no_mail : {ops : List ℕ} → FoundNone a ops old new → GaveNone a (need.Take ops) old new
  gave_no_mail f = record { grew = f.grew; absent = f.empty }

  pub gave_no_answer : {k : ℕ} → HasNone a k old new → GaveNone a (need.Answer k) old new
  gave_no_answer f = record { grew = f.grew; absent = f.none }

-- what was given for a need, and as a gift, that is another by its form
pub gave_at : {a : Seat} {old new : List Entry} {asked asked' : Need} {g g' : Given} → asked ≡ asked' → g ≡ g'
    → Gave a asked' old new g'
    → Gave a asked old new g
gave_at {a} {old} {new} {asked} {asked'} {g} {g'} e f x =
    subst (λ (n : Need). Gave a n old new g) (sym e) (subst (λ (y : Given). Gave a asked' old new y) (sym f) x)

-- ---- the gift suits

same_number : (k n : ℕ) → Some k ≡ Some n → k ≡ n
same_number k n e = cc

-- the numbers from a message on, by whether it counts
abbrev numbers_if : Bool → ℕ → List ℕ → List ℕ
numbers_if b n rest = (if b then n ∷ [] else []) ++ rest

-- What the first of some numbers without others is: that of a message of the kind, which is not among the others.
pub record IsNumber (gone : List ℕ) (is_it : Message → Bool) (n : ℕ) (ms : List Message) (k : ℕ) : Type 0 where
  pub place : ℕ
  pub message : Message
  pub number : k ≡ n + place
  pub there : slice_get ms place ≡ Some message
  pub kind : is_it message ≡ true
  pub stays : list_any (nat_eq k) gone ≡ false

number-later : {gone : List ℕ} {is_it : Message → Bool} {n : ℕ} {m : Message} {ms : List Message} {k : ℕ}
    → IsNumber gone is_it (suc n) ms k
    → IsNumber gone is_it n (m ∷ ms) k
number-later {n = n} {k = k} r = record {
  place = suc r.place;
  message = r.message;
  number = omega (arith, r.number);
  there = r.there;
  kind = r.kind;
  stays = r.stays;
}

number-here : (gone : List ℕ) (is_it : Message → Bool) (n : ℕ) (m : Message) (ms : List Message) (k : ℕ) (b g : Bool)
    → is_it m ≡ b → list_any (nat_eq n) gone ≡ g
    → Some k ≡ first (numbers_if (b && not g) n (numbers_without gone is_it (suc n) ms))
    → (Some k ≡ first (numbers_without gone is_it (suc n) ms) → IsNumber gone is_it (suc n) ms k)
    → IsNumber gone is_it n (m ∷ ms) k
number-here gone is_it n m ms k true false b g e rest =
    let same : k ≡ n = same_number k n e in
    record {
      place = 0;
      message = m;
      number = omega (arith, same);
      there = refl;
      kind = b;
      stays = subst (λ (i : ℕ). list_any (nat_eq i) gone ≡ false) (sym same) g;
    }
number-here gone is_it n m ms k true true b g e rest = number-later (rest e)
number-here gone is_it n m ms k false g b h e rest = number-later (rest e)

pub number_first : (gone : List ℕ) (is_it : Message → Bool) (n : ℕ) (ms : List Message) (k : ℕ)
    → Some k ≡ first (numbers_without gone is_it n ms)
    → IsNumber gone is_it n ms k
number_first gone is_it n [] k e = absurd (none-some k (sym e))
number_first gone is_it n (m ∷ ms) k e =
    number-here gone is_it n m ms k (is_it m) (list_any (nat_eq n) gone) refl refl e
    (number_first gone is_it (suc n) ms k)

-- the message that an input takes
pub number_taken : (a : Seat) (h : List Entry) (ops : List ℕ) (m : ℕ) → Some m ≡ first (queue (past_at a h) a.session ops)
    → IsNumber (taken (past_at a h)) (λ x. nat_eq a.session x.session && list_any (nat_eq x.op) ops) 0
    (past_at a h).messages m
number_taken a h ops m e =
    number_first (taken (past_at a h)) (λ x. nat_eq a.session x.session && list_any (nat_eq x.op) ops) 0
    (past_at a h).messages m e

-- a message that is taken has an operation that was asked for
suits-mail : (a : Seat) (h : List Entry) (ops : List ℕ) (m : ℕ) (g : Given)
    → Some m ≡ first (queue (past_at a h) a.session ops)
    → mail m (slice_get (past_at a h).messages m) ≡ g → Suits (need.Take ops) g
suits-mail a h ops m g e gives =
    let r = number_taken a h ops m e in
    let same : m ≡ r.place = omega (arith, r.number) in
    let there : slice_get (past_at a h).messages m ≡ Some r.message
    = subst (λ (i : ℕ). slice_get (past_at a h).messages i ≡ Some r.message) (sym same) r.there in
    subst (Suits (need.Take ops)) (ap (mail m) (sym there) ∙ gives)
    (and_parts (nat_eq a.session r.message.session) (list_any (nat_eq r.message.op) ops) r.kind).1

suits-bound : (v : ℕ) (x : Root) (r : BindReply) → Suits (need.Bind v x) (binding r)
suits-bound v x reply.Bound = tt
suits-bound v x (reply.Held s) = tt
suits-bound v x reply.Fixed = tt

suits-call : (a : Seat) (h : List Entry) (n : Need) (g : Given) (call : Act) → IsCall a.session n (past_at a h) call
    → gift_of (record { before = past_at a h; act = call }) ≡ g → Suits n g
suits-call a h (need.Take ops) g (act.Take m) i e = suits-mail a h ops m g i e
suits-call a h (need.Answer k) g (act.Answer l o) i e = subst (Suits (need.Answer k)) e tt
suits-call a h (need.Bind v x) g (act.Bind u y r) i e = subst (Suits (need.Bind v x)) e (suits-bound v x r)
suits-call a h (need.Reply m o) g (act.Reply n q) i e = subst (Suits (need.Reply m o)) e tt
suits-call a h (need.Send k port op v wants) g (act.Send l q p u w r) i e =
    subst (Suits (need.Send k port op v wants)) e tt
suits-call a h need.Finish g act.End i e = subst (Suits need.Finish) e tt
suits-call a h n g call i e = absurd i

-- what the office gives suits what was asked
pub suits : {a : Seat} {h : List Entry} {n : Need} {g : Given} {own : List Entry} → Gives a h n g own → Suits n g
suits nothing = tt
suits {a} {h} (by_call n g call k) = suits-call a h n g call k.is_call k.gives

-- ---- in a turn

module _ {a : Seat} {n : ℕ} {old : Standing} where
  -- the strand has an event for what the office gave
  pub event_fits : {asked : Need} {before after : List Entry} {gift : Given} → Asks old n asked
      → Gave a asked before after gift
      → IfSome old.config (λ c. IsSome (after_of old.parts old.service c n gift))
  event_fits {asked} {gift = gift} x gave =
      let g = x.enabled.0 in
      let d = x.enabled.1 in
      let e = x.enabled.2 in
      let suit : Suits d.need gift = subst (λ y. Suits y gift) (sym (x.each g d e)) (suits gave.given) in
      subst (λ (o : Option Config). IfSome o (λ c. IsSome (after_of old.parts old.service c n gift))) (sym x.at)
      (fits_gift old.parts old.service x.config n g d e gift suit)

-- the parts that the office works by are those of the program
pub parts_same : (w : Setting) (parts : ProgramParts) → w ≡ run_of parts → w.parts ≡ parts
parts_same w parts e = ap (λ (x : Setting). x.parts) e

-- they are well formed
pub formed_in : {w : Setting} {parts : ProgramParts} → w ≡ run_of parts → is_well_formed parts ≡ true
    → is_well_formed w.parts ≡ true
formed_in {w} {parts} e h = ap is_well_formed (parts_same w parts e) ∙ h

-- a strand that has an event in what the office works by has it in the program
pub enabled_in : {w : Setting} {parts : ProgramParts} (config : Option Config) (s n : ℕ) → w ≡ run_of parts
    → IfSome config (λ c. HasEvent w.parts s c n)
    → IfSome config (λ c. HasEvent parts s c n)
enabled_in {w} {parts} config s n e h =
    subst (λ (p : ProgramParts). IfSome config (λ c. HasEvent p s c n)) (parts_same w parts e) h

pub asks_in : {w : Setting} {parts : ProgramParts} {s : ℕ} {c : Option Config} {n : ℕ} {asked : Need} → w ≡ run_of parts
    → Asks (standing parts s c) n asked
    → Asks (standing w.parts s c) n asked
asks_in {w} {parts} {s} {c} {n} {asked} e x =
    subst (λ (p : ProgramParts). Asks (standing p s c) n asked) (sym (parts_same w parts e)) x

pub went_in : {w : Setting} {parts : ProgramParts} {s s' : ℕ} {c c' : Option Config} {n : ℕ} {g : Given} {event : Event}
    → w ≡ run_of parts → WentOn (standing parts s c) (standing parts s' c') n g event
    → WentOn (standing w.parts s c) (standing w.parts s' c') n g event
went_in {w} {parts} {s} {s'} {c} {c'} {n} {g} {event} e x =
    subst (λ (p : ProgramParts). WentOn (standing p s c) (standing p s' c') n g event) (sym (parts_same w parts e)) x

-- what may be asked for every gift may be asked
pub may_from : {parts : ProgramParts} {service : ℕ} {config : Option Config} {n : ℕ} {asked : Need} (a : Seat) (h : List Entry)
    → (x : Asks (standing parts service config) n asked)
    → ((c : Config) (g : Given) (d : Done) → config ≡ Some c → after_of parts service c n g ≡ Some d → may_call a h d.need ≡ true)
    → may_call a h asked ≡ true
may_from a h x may =
    subst (λ (y : Need). may_call a h y ≡ true) (x.each x.enabled.0 x.enabled.1 x.enabled.2)
    (may x.config x.enabled.0 x.enabled.1 x.at x.enabled.2)
