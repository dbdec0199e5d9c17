-- In every run of a service of a checked program, a message that is taken and whose operation has an answer comes as a
-- request.
use Rattle.std.proofs.Common.{◌≡◌, ℕ, zero, suc, Bool, true, false, List, [], ◌∷◌, Option, None, Some, is_some, option_map, option_and_then, slice_get, nat_eq, refl, sym, ap, subst, ◌∙◌}
use Rattle.std.specs.List.{list_all}
use Rattle.std.proofs.lemmas.Bool.{and_parts}
use Rattle.std.proofs.lemmas.Option.{none-some, same_Some}
use Rattle.jolie_trees.specs.Data.{Tree}
use Rattle.behaviour_tree.specs.declared.words.Given.{Given}
use Rattle.behaviour_tree.specs.declared.words.Given.TheVariants as given
use Rattle.behaviour_tree.specs.Data.{ServicePart, ProgramParts, behaviour_of}
use Rattle.behaviour_tree.specs.FormedBehaviours.{Reach}
use Rattle.behaviour_tree.specs.FormedPorts.{input_locations}
use Rattle.behaviour_tree.specs.FormedServices.{is_service, reach_of, runs_well}
use Rattle.behaviour_tree.specs.Operations.{operation_at, service_operations}
use Rattle.behaviour_tree.specs.WellFormed.{is_well_formed}
use Rattle.session_calculus.specs.Terms.{Term, Strands, place, seq, par, in_scope, exec, prot, no_strands, strand, stands_in}
use Rattle.session_calculus.specs.After.{Config, Done, after, first_config}
use Rattle.session_calculus.specs.Runs.{start_of}
use Rattle.session_calculus.specs.Laws.{asks, place_among, place_in}
use Rattle.session_laws.proofs.Options.{OnValue, OnValue-test}
use Rattle.run_answer_laws.proofs.OneWays.{OneWaysFit, fits_well}
use Rattle.run_answer_laws.proofs.OneWayForms.{FormFits, MembersFit, fits_after, fits_first}
use Rattle.run_answer_laws.proofs.Taking.{asks_by, is_take, takes_after}

-- the behaviour of a strand, in one member or in the others
fits-one : (r : Reach) (n s : ℕ) (t : Term) (ts : Strands) (b : Bool) → OnValue (OneWaysFit r) (place_in n s t)
    → OnValue (OneWaysFit r) (place_among n ts)
    → OnValue (OneWaysFit r) (elim b [ true ↦ place_in n s t | false ↦ place_among n ts ])
fits-one r n s t ts true here there = here
fits-one r n s t ts false here there = there

mutual
  -- in a form
  fits-place : (r : Reach) (n s : ℕ) (t : Term) → FormFits r t → OnValue (OneWaysFit r) (place_in n s t)
  fits-place r n s (place p) h = OnValue-test (nat_eq n s) (OneWaysFit r) (Some p) (λ own. h)
  fits-place r n s (seq t rest) h = fits-place r n s t h.0
  fits-place r n s (par ts) h = fits-place_among r n ts h
  fits-place r n s (in_scope q t x u) h = fits-place r n s t h.0
  fits-place r n s (exec m o y t) h = fits-place r n s t h
  fits-place r n s (prot t) h = fits-place r n s t h
  fits-place r n s t h = tt

  -- in members
  fits-place_among : (r : Reach) (n : ℕ) (ts : Strands) → MembersFit r ts → OnValue (OneWaysFit r) (place_among n ts)
  fits-place_among r n no_strands h = tt
  fits-place_among r n (strand s t ts) h =
      fits-one r n s t ts (stands_in n s t) (fits-place r n s t h.0) (fits-place_among r n ts h.1)

-- ---- a program that was checked

-- what holds of each of a list
at-place : {X : Type 0} (f : X → Bool) (xs : List X) (n : ℕ) (x : X) → list_all f xs ≡ true → slice_get xs n ≡ Some x
    → f x ≡ true
at-place f [] n x h e = absurd (none-some x e)
at-place f (y ∷ xs) zero x h e = ap f (sym (same_Some y x e)) ∙ (and_parts (f y) (list_all f xs) h).0
at-place f (y ∷ xs) (suc n) x h e = at-place f xs n x (and_parts (f y) (list_all f xs) h).1 e

-- the behaviours of its services
service-runs : (parts : ProgramParts) (n : ℕ) (s : ServicePart) → is_well_formed parts ≡ true
    → slice_get parts.services n ≡ Some s
    → runs_well parts s ≡ true
unfolding is_well_formed
service-runs parts n s h e =
    let each = (and_parts _ _ (and_parts _ _ (and_parts _ _ h).0).1).1 in
    let well = at-place (is_service parts (input_locations parts.services)) parts.services n s each e in
    (and_parts _ _ (and_parts _ _ (and_parts _ _ well).0).0).1

service-fits : (parts : ProgramParts) (s : ServicePart) → runs_well parts s ≡ true
    → OneWaysFit (reach_of parts s) (behaviour_of s)
service-fits parts s h =
    let both = and_parts _ _ h in
    let r = reach_of parts s in
    (fits_well r false s.init (and_parts _ _ both.0).1, (fits_well r false s.main both.1, tt))

-- a session of a service that is there, each of whose one-ways takes an operation without an answer
pub record Fits (parts : ProgramParts) (service : ℕ) (c : Config) : Type 0 where
  pub part : ServicePart
  pub there : slice_get parts.services service ≡ Some part
  pub fits : FormFits (reach_of parts part) c.form

-- where it begins
pub fits_start : (parts : ProgramParts) (service : ℕ) (from : Config) → is_well_formed parts ≡ true
    → start_of parts service ≡ Some from
    → Fits parts service from
fits_start parts service from well e = go (slice_get parts.services service) refl e
  where
    go : (o : Option ServicePart) → slice_get parts.services service ≡ o
        → option_map (λ s. first_config (behaviour_of s)) o ≡ Some from
        → Fits parts service from
    go None q f = absurd (none-some from f)
    go (Some s) q f = record {
      part = s;
      there = q;
      fits = subst (λ (c : Config). FormFits (reach_of parts s) c.form)
          (same_Some (first_config (behaviour_of s)) from f)
          (fits_first (reach_of parts s) (behaviour_of s) (service-fits parts s (service-runs parts service s well q)));
    }

-- and after one event more
pub fits_on : (parts : ProgramParts) (service : ℕ) (c : Config) (n : ℕ) (g : Given) (d : Done)
    → Fits parts service c → after parts service c n g ≡ Some d → Fits parts service d.config
fits_on parts service c n g d x e = record {
  part = x.part;
  there = x.there;
  fits = fits_after (reach_of parts x.part) parts service c n g d x.fits e;
}

-- whether an operation of a service has an answer
abbrev pub has_answer : ProgramParts → ℕ → ℕ → Bool
has_answer parts service op = elim (operation_at parts service op) [ None ↦ false | Some o ↦ is_some o.response ]

-- a message that is taken, whose operation has an answer, comes as a request
pub asks_taken : (parts : ProgramParts) (service : ℕ) (c : Config) (n : ℕ) (d : Done) (m o : ℕ) (v : Tree)
    → Fits parts service c → after parts service c n (given.Mail m o v) ≡ Some d → is_take d.need ≡ true
    → has_answer parts service o ≡ true
    → asks m (place_in n 0 c.form) (given.Mail m o v) ≡ true
asks_taken parts service c n d m o v x e take answers =
    let r = reach_of parts x.part in
    asks_by r m o v (place_in n 0 c.form) (fits-place r n 0 c.form x.fits)
    (sym (ap (λ (y : Option ServicePart). elim (option_and_then (λ s. slice_get (service_operations parts s) o) y) as (λ _. Bool) [ None ↦ false | Some z ↦ is_some z.response ]) x.there)
    ∙ answers)
    (takes_after parts service c n (given.Mail m o v) d e take)
