-- What an event tells of what it asks: its strand, its kind and number, the next call, and whether it is the last.
use Rattle.std.proofs.Common.{◌≡◌, ℕ, zero, suc, Bool, true, false, Some, if◌then◌else◌, nat_eq, refl, sym, ap, subst, ◌∙◌}
use Rattle.jolie_trees.specs.Data.{Tree}
use Rattle.behaviour_tree.specs.declared.words.Kind.TheVariants as kind
use Rattle.behaviour_tree.specs.declared.words.Event.{Event}
use Rattle.behaviour_tree.specs.declared.words.Need.{Need}
use Rattle.behaviour_tree.specs.declared.words.Need.TheVariants as need
use Rattle.behaviour_tree.specs.declared.words.Given.{Given}
use Rattle.behaviour_tree.specs.declared.words.Given.TheVariants as given
use Rattle.behaviour_tree.specs.Data.{Proc, choice, Branches, no_branches, one_way, request, ProgramParts}
use Rattle.session_calculus.specs.Terms.{Term, Strands, place}
use Rattle.session_calculus.specs.Throw.{Carried, up, caught_at, ended_at, blocked, absent, throw}
use Rattle.session_calculus.specs.Moves.{Seen, Move}
use Rattle.session_calculus.specs.Effects.{Effect, faults, stores, received}
use Rattle.session_calculus.specs.Inputs.{Coming, past, goes_on, comes}
use Rattle.session_calculus.specs.After.{Config, Done, moves, raised, moved, finishes, seen_by, after}
use Rattle.session_laws.proofs.Options.{OnValue, OnValue-if, OnValue-imp}
use Rattle.session_laws.proofs.Moving.{coming, Keeps, keeps-moves}
use Rattle.session_laws.proofs.Events.{of_event}
use Rattle.run_record.specs.Steps.{makes_call}

-- how the kind and the number of an event tell what it asks, and a message the gift
abbrev pub Tells : Given → Event → Need → Type 0
Tells g e need.Nothing = makes_call e.kind ≡ false
Tells g e (need.Take ops) = (e.kind ≡ kind.In) × (o : ℕ) × (v : Tree) × (g ≡ given.Mail e.number o v)
Tells g e (need.Answer k) = (e.kind ≡ kind.Answer) × (e.number ≡ k)
Tells g e (need.Bind v x) = e.kind ≡ kind.Bind
Tells g e (need.Reply m o) = (e.kind ≡ kind.Reply) × (e.number ≡ m)
Tells g e (need.Send k port op v true) = (e.kind ≡ kind.Solicit) × (e.number ≡ k)
Tells g e (need.Send k port op v false) = (e.kind ≡ kind.Notify) × (e.number ≡ k)
Tells g e need.Finish = e.kind ≡ kind.Finish

-- a message that is sent has the next call number
abbrev pub Draws : ℕ → Need → ℕ → Type 0
Draws before (need.Send k port op v wants) next = (k ≡ before) × (next ≡ suc before)
Draws before n next = next ≡ before

-- the last event ends the session, and no other does
abbrev pub Ends : Bool → Need → Bool → Type 0
Ends before need.Finish now = now ≡ true
Ends before n now = now ≡ before

-- not the last
abbrev IsGoing : Need → Type 0
IsGoing need.Finish = ⊥
IsGoing n = Unit {0}

-- what a move tells
abbrev Told : Given → ℕ → ℕ → Event → Need → ℕ → Type 0
Told g n call e asked next = (e.strand ≡ n) × Tells g e asked × Draws call asked next × IsGoing asked

abbrev ToldIn : Seen → ℕ → Term → Move Term → Type 0
ToldIn s k t m = Told s.gift s.strand s.call m.made.event m.made.need m.made.call

abbrev ToldAmong : Seen → Strands → Move Strands → Type 0
ToldAmong s ts m = Told s.gift s.strand s.call m.made.event m.made.need m.made.call

-- a message that came, and what it makes
abbrev Came : Seen → Coming → Move Term → Type 0
Came s c m =
    (m.made.event.strand ≡ s.strand) × (m.made.event.kind ≡ kind.In) × (m.made.event.number ≡ c.message)
    × (m.made.need ≡ need.Take c.ops)
    × (m.made.call ≡ s.call)

came-goes_on : (s : Seen) (c : Coming) (p : Proc) (e : Effect) → Came s c (goes_on s c p e)
came-goes_on s c p (faults f) = (refl, refl, refl, refl, refl)
came-goes_on s c p (stores x) = (refl, refl, refl, refl, refl)

came-comes : (s : Seen) (c : Coming) (bs : Branches) → OnValue (Came s c) (comes s c bs)
came-comes s c no_branches = tt
came-comes s c (one_way o x p bs) =
    OnValue-if (nat_eq o c.op) (Came s c) (Some (goes_on s c p (received s.store x c.value))) (comes s (past c) bs)
    (came-goes_on s c p (received s.store x c.value)) (came-comes s (past c) bs)
came-comes s c (request o x y body p bs) =
    OnValue-if (nat_eq o c.op) (Came s c) _ (comes s (past c) bs) (came-goes_on s c body (received s.store x c.value))
    (came-comes s (past c) bs)

told-came : (s : Seen) (k : ℕ) (t : Term) (c : Coming) (o : ℕ) (v : Tree) (m : Move Term) → s.gift ≡ given.Mail c.message o v
    → Came s c m → ToldIn s k t m
told-came s k t c o v m e h =
    subst (λ (n : Need). Told s.gift s.strand s.call m.made.event n m.made.call) (sym h.3) (
      h.0,
      (h.1, o, v, e ∙ ap (λ i. given.Mail i o v) (sym h.2)),
      h.4,
      tt,
    )

told-keeps : Keeps ToldIn ToldAmong
told-keeps = record {
  store = λ s i p x w a. (refl, refl, refl, tt);
  first = λ s i e p q a. (refl, refl, refl, tt);
  second = λ s i e p q a. (refl, refl, refl, tt);
  turn = λ s i e p a. (refl, refl, refl, tt);
  leave = λ s i e p a. (refl, refl, refl, tt);
  installed = λ s i list a. (refl, refl, refl, tt);
  compensated = λ s i r a. (refl, refl, refl, tt);
  came = λ s i bs m o v own e.
      OnValue-imp (Came s (coming m o v bs)) (ToldIn s i (place (choice bs))) (comes s (coming m o v bs) bs)
      (λ x h. told-came s i (place (choice bs)) (coming m o v bs) o v x e h) (came-comes s (coming m o v bs) bs);
  notified = λ s i port op e v a eq. (refl, (refl, refl), (refl, refl), tt);
  solicited = λ s i port op e x list v a eq. (refl, (refl, refl), (refl, refl), tt);
  bound = λ s i v e r own eq. (refl, refl, refl, tt);
  unbound = λ s i v e r own eq. (refl, refl, refl, tt);
  answer_faults = λ s i n port op x list f own. (refl, (refl, refl), refl, tt);
  answer_overflows = λ s i n port op x list f own fit. (refl, (refl, refl), refl, tt);
  answer_sets = λ s i n port op x list y own fit. (refl, (refl, refl), refl, tt);
  dead_installs = λ s i n port op list own fit. (refl, (refl, refl), refl, tt);
  dead_ends = λ s i n port op list own. (refl, (refl, refl), refl, tt);
  ended = λ s i q h a. (refl, refl, refl, tt);
  handled = λ s i q h f a. (refl, refl, refl, tt);
  terminated = λ s i q h a. (refl, refl, refl, tt);
  replied = λ s i m o y a. (refl, (refl, refl), refl, tt);
  told = λ s i m f t a. (refl, (refl, refl), refl, tt);
  in_head = λ s i t rest m h. h;
  in_members = λ s i ts m h. h;
  in_body = λ s i q t h u m d x. x;
  in_request = λ s i n o y t m d h. h;
  in_prot = λ s i t m h. h;
  in_member = λ s i t ts m e h. h;
  in_others = λ s i t ts m e h. h;
}

-- ---- an event

-- what an event tells
pub record IsTold (c : Config) (n : ℕ) (g : Given) (d : Done) : Type 0 where
  pub strand : d.event.strand ≡ n
  pub tells : Tells g d.event d.need
  pub draws : Draws c.call d.need d.config.call
  pub ends : Ends c.ended d.need d.config.ended

ends-going : (n : Need) (b : Bool) → IsGoing n → Ends b n b
ends-going need.Finish b k = absurd k
ends-going need.Nothing b k = refl
ends-going (need.Take ops) b k = refl
ends-going (need.Answer i) b k = refl
ends-going (need.Bind v x) b k = refl
ends-going (need.Reply m o) b k = refl
ends-going (need.Send i port op v wants) b k = refl

told-raised : (c : Config) (n : ℕ) (g : Given) (f : ℕ) (x : Carried Term) → OnValue (IsTold c n g) (raised c n f x)
told-raised c n g f (up t) = record { strand = refl; tells = refl; draws = refl; ends = refl }
told-raised c n g f (caught_at t q) = record { strand = refl; tells = refl; draws = refl; ends = refl }
told-raised c n g f (ended_at t q) = record { strand = refl; tells = refl; draws = refl; ends = refl }
told-raised c n g f (blocked m) = tt
told-raised c n g f absent = tt

told-finishes : (c : Config) (n : ℕ) (g : Given) → OnValue (IsTold c n g) (finishes c n g)
told-finishes c zero given.Nothing = record { strand = refl; tells = refl; draws = refl; ends = refl }
told-finishes c n g = tt

-- an event tells what it asks
pub is_told : (parts : ProgramParts) (service : ℕ) (c : Config) (n : ℕ) (g : Given) (d : Done)
    → after parts service c n g ≡ Some d → IsTold c n g d
is_told parts service c n g =
    let s = seen_by parts service c n g in
    of_event (IsTold c n g) parts service c n g (λ ended finished. told-finishes c n g)
    (λ f going e there. told-raised c n g f.name (throw n f 0 c.form))
    (λ going none.
    OnValue-imp (ToldIn s 0 c.form) (λ m. IsTold c n g (moved c m)) (moves s 0 c.form)
    (λ m h. record { strand = h.0; tells = h.1; draws = h.2; ends = ends-going m.made.need c.ended h.3 })
    (keeps-moves ToldIn ToldAmong told-keeps s 0 c.form))
