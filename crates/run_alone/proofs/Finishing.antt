-- The end of a run: what is open is stopped, collected and told, and that is the order of the record.
use Rattle.std.proofs.Common.{◌≡◌, ◌<◌, ◌≤◌, ℕ, Bool, true, false, List, [], ◌∷◌, ◌++◌, map, length, take, Option, None, Some, nat_lt, refl, sym, ap, subst, ◌∙◌, append_assoc, lt_of_lt_of_le, le_trans, flat_map}
use Rattle.std.specs.Prelude.{if◌then◌else◌, option_map}
use Rattle.std.specs.List.{filter, list_all, list_any}
use Rattle.std.proofs.lemmas.Bool.{and_from, and_parts, false≢true, lt-ltb, or_left, or_right}
use Rattle.std.proofs.lemmas.List.Folds.{list_any-append}
use Rattle.std.proofs.lemmas.Option.{slice_get_within}
use Rattle.office_core.specs.declared.front.Posting.{Posting}
use Rattle.office_core.specs.declared.history.Act.{Act}
use Rattle.office_core.specs.declared.history.Act.TheVariants as act
use Rattle.office_core.specs.declared.history.Entry.{Entry}
use Rattle.office_core.specs.Limits.{Setting, first_worker}
use Rattle.office_core.specs.Past.{Past, closes, some_entry, stops}
use Rattle.office_core.specs.Sessions.{births, service_of}
use Rattle.office_core.specs.Accepted.{past_of}
use Rattle.office_core.specs.Legal.{IsLegal, replied}
use Rattle.run_theorem.specs.Exchange.{Told}
use Rattle.run_order_laws.specs.Entries.{adds_none, cuts, is_other, posts_over}
use Rattle.run_order_laws.specs.Ordering.{Grows}
use Rattle.run_order_laws.proofs.Growing.{legal_front, legal_rest}
use Rattle.run_order_laws.proofs.Ordering.{before_ends, unfailed_at_stop, unfailed_behind}
use Rattle.run_quiet_laws.specs.Ends.{is_adoption, is_close, stop_entry}
use Rattle.run_quiet_laws.proofs.Within.{births_within}
use Rattle.run_record.specs.Order.{before_first, finished_there, numbers_from, order_alone}
use Rattle.run_record.specs.Run.{alone, ends_with, is_hand, is_of_hand}
use Rattle.session_turn.proofs.Histories.{some_of}
use Rattle.run_posts.specs.CallStates.{Wait, all_collected, is_finished, is_open, settled_in, told_of}
use Rattle.run_posts.proofs.Ending.{StandsInOrder, all_finished, open_collected, open_told, other_all, settled_collected, stands_early, stands_ended}
use Rattle.run_posts.proofs.Opening.{IsOpen, is_between, open_between, told_places}
use Rattle.run_trip_laws.specs.Going.{is_silent}
use Rattle.run_theorem.specs.Lines.{finished_before}
use Rattle.run_alone.proofs.Earlier.{first_told}
use Rattle.run_alone.proofs.Stepping.{all_append, all_weaker, between_other, other_over, places_settled}

-- ---- adoptions

some_of_map : (f : ℕ → Act) (o : Option ℕ) (a : Act) → option_map f o ≡ Some a → (d : ℕ) × (o ≡ Some d)
some_of_map f None a e = absurd (none e)
  where
    none : None ≡ Some a → ⊥
    none e = cc
some_of_map f (Some d) a e = (d, refl)

-- an adoption is of a session that was born
adopted_born : (w : Setting) (past : Past) (n : ℕ) (a : Act) → is_adoption (record { actor = n; act = a }) ≡ true
    → replied w past n a ≡ Some a → (d : ℕ) × (service_of w past n ≡ Some d)
adopted_born w past n (act.Adopt d) h r = some_of_map act.Adopt (service_of w past n) (act.Adopt d) r
adopted_born w past n a h r = absurd (false≢true h)

between_adoption : (n : ℕ) (a : Act) → is_adoption (record { actor = n; act = a }) ≡ true
    → nat_lt n first_worker ≡ true → is_between (record { actor = n; act = a }) ≡ true
between_adoption n (act.Adopt d) h less =
    and_from (is_of_hand alone (record { actor = n; act = act.Adopt d })) true
    (or_left (nat_lt n first_worker) (is_hand alone n) less) refl
between_adoption n a h less = absurd (false≢true h)

pub adoptions_between : (w : Setting) (h es : List Entry) → w.limits.sessions ≤ first_worker → IsLegal w (h ++ es)
    → list_all is_adoption es ≡ true → list_all is_between es ≡ true
adoptions_between w h [] limit legal all = refl
adoptions_between w h (e ∷ es) limit legal all =
    let both = and_parts (is_adoption e) (list_all is_adoption es) all in
    let first = (legal_rest w h (e ∷ es) legal).0 in
    let born = adopted_born w (past_of w h) e.actor e.act both.0 first.reply in
    let low : e.actor < first_worker
    = lt_of_lt_of_le (slice_get_within (births w (past_of w h)) e.actor born.0 born.1)
    (le_trans (births_within w h) limit) in
    and_from (is_between e) (list_all is_between es)
    (between_adoption e.actor e.act both.0 (lt-ltb e.actor first_worker low))
    (adoptions_between w (h ++ e ∷ []) es limit
    (subst (IsLegal w) (sym (append_assoc h (e ∷ []) es)) legal) both.1)

none_adopted : (n : ℕ) (a : Act) → is_adoption (record { actor = n; act = a }) ≡ true
    → adds_none (record { actor = n; act = a }) ≡ true
none_adopted n (act.Adopt d) h = refl
none_adopted n a h = absurd (false≢true h)

pub adoptions_add : (es : List Entry) → list_all is_adoption es ≡ true → list_all adds_none es ≡ true
adoptions_add es all = all_weaker is_adoption adds_none (λ e g. none_adopted e.actor e.act g) es all

none_sent : (n : ℕ) (a : Act) → is_adoption (record { actor = n; act = a }) ≡ true
    → is_silent (record { actor = n; act = a }) ≡ true
none_sent n (act.Adopt d) h = refl
none_sent n a h = absurd (false≢true h)

pub adoptions_silent : (es : List Entry) → list_all is_adoption es ≡ true → list_all is_silent es ≡ true
adoptions_silent es all = all_weaker is_adoption is_silent (λ e g. none_sent e.actor e.act g) es all

-- ---- the end of input

-- the end of input, where it is to be noted
abbrev pub closing_by : Bool → List Entry
closing_by b = if b then [] else record { actor = first_worker; act = act.Close } ∷ []

pub closing_between : (b : Bool) → list_all is_between (closing_by b) ≡ true
closing_between true = refl
closing_between false = refl

pub closing_adds : (b : Bool) → list_all adds_none (closing_by b) ≡ true
closing_adds true = refl
closing_adds false = refl

pub closing_silent : (b : Bool) → list_all is_silent (closing_by b) ≡ true
closing_silent true = refl
closing_silent false = refl

pub closing_closes : (b : Bool) → list_all is_close (closing_by b) ≡ true
closing_closes true = refl
closing_closes false = refl

-- it is the last entry then
ends_last : (h : List Entry) (e : Entry) → closes e ≡ true → ends_with closes (h ++ e ∷ []) ≡ true
ends_last [] e is = is
ends_last (x ∷ []) e is = is
ends_last (x ∷ y ∷ h) e is = ends_last (y ∷ h) e is

pub closed_by : (h : List Entry) (b : Bool) → b ≡ false → ends_with closes (h ++ closing_by b) ≡ true
closed_by h true e = absurd (false≢true (sym e))
closed_by h false e = ends_last h (record { actor = first_worker; act = act.Close }) refl

-- ---- the end

-- How a run ends: a last sweep, adoptions, the end of input, the stop, and collects.
module _ (w : Setting) (h : List Entry) (all : List Posting) (xs : List Wait) (swept adoptions closing : List Entry) where
  abbrev pub before_end : List Entry
  before_end = (h ++ swept) ++ adoptions

  abbrev pub after_stop : List Entry
  after_stop = (before_end ++ closing) ++ stop_entry ∷ []

  abbrev pub gathered : List Entry
  gathered = all_collected w (past_of w after_stop) xs

  abbrev pub settled_waits : List Wait
  settled_waits = map (settled_in w (past_of w after_stop)) xs

  abbrev pub at_end : List Entry
  at_end = (before_end ++ closing) ++ stop_entry ∷ gathered

  -- What it needs.
  pub record CanEnd (ts : List Told) : Type 0 where
    pub legal : IsLegal w at_end
    pub running : some_entry (past_of w h) stops ≡ false
    pub between : list_all is_between swept ≡ true
    pub adopted : list_all is_between adoptions ≡ true
    pub adopts : list_all adds_none adoptions ≡ true
    pub ends : list_all is_between closing ≡ true
    pub ends_none : list_all adds_none closing ≡ true
    pub unfailed : 0 < length all → swept ≡ []
    pub opens : IsOpen w h all ts xs
    pub order : StandsInOrder w h (length all) ts xs

  module _ (ts : List Told) (can : CanEnd ts) where
    abbrev pub sent_all : List Told
    sent_all = ts ++ map told_of (filter is_finished settled_waits)

    pub stop_gathers : after_stop ++ gathered ≡ at_end
    stop_gathers = append_assoc (before_end ++ closing) (stop_entry ∷ []) gathered

    legal_stop : IsLegal w after_stop
    legal_stop = legal_front w after_stop gathered (subst (IsLegal w) (sym stop_gathers) can.legal)

    -- all that comes before the collects
    abbrev pub rest : List Entry
    rest = swept ++ (adoptions ++ (closing ++ stop_entry ∷ []))

    pub rest_is : h ++ rest ≡ after_stop
    rest_is =
        sym (append_assoc h swept (adoptions ++ (closing ++ stop_entry ∷ [])))
        ∙ sym (append_assoc (h ++ swept) adoptions (closing ++ stop_entry ∷ []))
        ∙ sym (append_assoc before_end closing (stop_entry ∷ []))

    pub between_rest : list_all is_between rest ≡ true
    between_rest =
        all_append is_between swept (adoptions ++ (closing ++ stop_entry ∷ [])) can.between
        (all_append is_between adoptions (closing ++ stop_entry ∷ []) can.adopted
        (all_append is_between closing (stop_entry ∷ []) can.ends refl))

    pub open_stop : IsOpen w after_stop all ts xs
    open_stop =
        subst (λ (l : List Entry). IsOpen w l all ts xs) rest_is
        (open_between w h rest all ts xs (subst (IsLegal w) (sym rest_is) legal_stop) between_rest can.opens)

    pub open_gathered : IsOpen w (after_stop ++ gathered) all ts settled_waits
    open_gathered = open_collected w after_stop all ts xs (subst (IsLegal w) (sym stop_gathers) can.legal) open_stop

    -- what is open then
    pub open_end : IsOpen w at_end all sent_all (filter is_open settled_waits)
    open_end =
        subst (λ (l : List Entry). IsOpen w l all sent_all (filter is_open settled_waits)) stop_gathers
        (open_told w (after_stop ++ gathered) all ts settled_waits open_gathered)

    pub stopped_end : some_entry (past_of w (after_stop ++ gathered)) stops ≡ true
    stopped_end =
        some_of w (after_stop ++ gathered) stops ∙ ap (list_any stops) stop_gathers
        ∙ list_any-append stops (before_end ++ closing) (stop_entry ∷ gathered)
        ∙ or_right (list_any stops (before_end ++ closing)) (list_any stops (stop_entry ∷ gathered)) refl

    -- all that comes
    abbrev pub more : List Entry
    more = swept ++ ((adoptions ++ closing) ++ stop_entry ∷ gathered)

    pub more_is : h ++ more ≡ at_end
    more_is =
        sym (append_assoc h swept ((adoptions ++ closing) ++ stop_entry ∷ gathered))
        ∙ sym (append_assoc (h ++ swept) (adoptions ++ closing) (stop_entry ∷ gathered))
        ∙ ap (λ (l : List Entry). l ++ stop_entry ∷ gathered) (sym (append_assoc (h ++ swept) adoptions closing))

    unfailed_end : list_all adds_none (before_first (cuts (length all)) ((adoptions ++ closing) ++ stop_entry ∷ gathered)) ≡ true
    unfailed_end =
        unfailed_behind (length all) (adoptions ++ closing) (stop_entry ∷ gathered)
        (all_append adds_none adoptions closing can.adopts can.ends_none)
        (unfailed_at_stop (length all) first_worker gathered)

    over : (es : List Entry) → list_all is_between es ≡ true → list_all (posts_over (length all)) es ≡ true
    over es h =
        all_weaker is_between (posts_over (length all)) (λ e g. other_over (length all) e (between_other e g)) es h

    grows : Grows w h more (length all)
    grows = record {
      legal = subst (IsLegal w) (sym more_is) can.legal;
      running = can.running;
      under = can.opens.posted.under;
      over =
          all_append (posts_over (length all)) swept ((adoptions ++ closing) ++ stop_entry ∷ gathered) (over swept can.between)
          (all_append (posts_over (length all)) (adoptions ++ closing) (stop_entry ∷ gathered)
          (all_append (posts_over (length all)) adoptions closing (over adoptions can.adopted) (over closing can.ends))
          (all_weaker is_other (posts_over (length all)) (other_over (length all)) gathered
          (other_all w (past_of w after_stop) xs)));
      unfailed = λ some.
          subst
          (λ (l : List Entry). list_all adds_none (before_first (cuts (length all)) (l ++ ((adoptions ++ closing) ++ stop_entry ∷ gathered))) ≡ true)
          (sym (can.unfailed some)) unfailed_end;
    }

    -- those that were told before are those that are finished before the end
    pub early_end : told_places ts ≡ flat_map (finished_there w (past_of w at_end) first_worker (length all)) (numbers_from 0 (length all))
    early_end =
        stands_early w h more (length all) ts xs grows can.order
        ∙ ap (λ (l : List Entry). flat_map (finished_there w (past_of w l) first_worker (length all)) (numbers_from 0 (length all))) more_is

    -- those that had been told when a posting was asked for are those that are finished before that one
    pub earlier_end : (j k : ℕ) → k ≤ length ts → told_places (take k ts) ≡ finished_before w h (length all) j
        → told_places (take k sent_all) ≡ finished_before w at_end (length all) j
    earlier_end j k within are =
        first_told k ts (map told_of (filter is_finished settled_waits)) within
        ∙ are
        ∙ before_ends w h more (length all) j grows
        ∙ ap (λ (l : List Entry). finished_before w l (length all) j) more_is

    -- and those that were told are in the order of the record
    pub order_end : told_places sent_all ≡ order_alone w at_end first_worker (length all)
    order_end =
        stands_ended w h more (length all) ts xs settled_waits grows (places_settled w after_stop xs)
        (all_finished w (after_stop ++ gathered) settled_waits (subst (IsLegal w) (sym stop_gathers) can.legal) stopped_end
        (settled_collected w after_stop all ts xs open_stop))
        can.order
        ∙ ap (λ (l : List Entry). order_alone w l first_worker (length all)) more_is
