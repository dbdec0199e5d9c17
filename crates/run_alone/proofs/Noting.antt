-- What the history notes before the last posting was asked for, while it grows.
use Rattle.std.proofs.Common.{◌≡◌, ◌<◌, ◌≤◌, ◌-◌, ℕ, zero, suc, Bool, true, false, ◌&&◌, List, [], ◌∷◌, ◌++◌, length, Option, None, refl, sym, ap, subst, ◌∙◌, append_assoc, append-nil, arith, nat_eq, nat_lt}
use Rattle.std.specs.Prelude.{flat_map, if◌then◌else◌}
use Rattle.std.specs.List.{filter, list_all, list_any, cons_option}
use Rattle.std.proofs.lemmas.Bool.{and_from, and_parts, eq-eqb, false≢true, lt-ltb, or_left}
use Rattle.office_core.specs.declared.front.Posting.{Posting}
use Rattle.office_core.specs.declared.history.Act.{Act}
use Rattle.office_core.specs.declared.history.Act.TheVariants as act
use Rattle.office_core.specs.declared.history.Entry.{Entry}
use Rattle.office_core.specs.declared.message.Call.{Call}
use Rattle.office_core.specs.declared.outgoing.OutKind.TheVariants as kind
use Rattle.office_core.specs.Limits.{Setting, first_worker}
use Rattle.office_core.specs.Past.{Past, some_entry, stops}
use Rattle.office_core.specs.Accepted.{past_of}
use Rattle.office_core.specs.Calls.{sent_in}
use Rattle.office_core.specs.Legal.{IsLegal}
use Rattle.run_theorem.specs.Exchange.{Told}
use Rattle.run_order_laws.specs.Entries.{posts_under}
use Rattle.run_order_laws.proofs.Growing.{entries_past, legal_front}
use Rattle.run_order_laws.proofs.Ordering.{before_none, before_cut, before_uncut, cut_at, whole_past}
use Rattle.run_quiet_laws.specs.Ends.{stop_entry}
use Rattle.run_record.specs.Order.{before_first}
use Rattle.run_record.specs.Outside.{note_of, notes, console_calls}
use Rattle.run_posts.specs.CallStates.{Wait}
use Rattle.run_posts.proofs.Opening.{all_posts_of}
use Rattle.run_trip_laws.specs.Going.{goes_to, is_silent}
use Rattle.run_trip_laws.proofs.Growing.{consoles_on, legal_parts}
use Rattle.run_trip_laws.proofs.Settling.{over_all}
use Rattle.run_theorem.specs.Lines.{noted_before, IsPrefix}
use Rattle.run_alone.proofs.Stepping.{CanStep, after_step, after_sweep, all_append, collected_all, gathered, in_one, posted, waiting}
use Rattle.run_alone.proofs.Finishing.{CanEnd, at_end, more as at_end_more, more_is}
use Rattle.run_alone.proofs.Finishing.{gathered as at_end_gathered}

-- ---- fronts

-- all stands at its front
pub front_all : (xs ys : List ℕ) → xs ≡ ys → IsPrefix xs ys
front_all xs ys e = ([], append-nil xs ∙ e)

-- a front of a front
pub front_longer : (xs ys zs : List ℕ) → IsPrefix xs ys → IsPrefix ys zs → IsPrefix xs zs
front_longer xs ys zs f g = (f.0 ++ g.0, sym (append_assoc xs f.0 g.0) ∙ ap (λ l. l ++ g.0) f.1 ∙ g.1)

-- before the first posting nothing is noted
pub noted_none : (w : Setting) (h : List Entry) (n : ℕ) (noted : List ℕ) → n ≡ 0 → IsPrefix (noted_before w h n) noted
noted_none w h n noted e = subst (λ (k : ℕ). IsPrefix (noted_before w h k) noted) (sym e) (noted, refl)

-- ---- the entries before the first of a kind

-- they stand at the front
front_before : (c : Entry → Bool) (es : List Entry) → (rest : List Entry) × (before_first c es ++ rest ≡ es)
front_before c [] = ([], refl)
front_before c (e ∷ es) = by (front_before c es) (c e) refl
  where
    by : ((rest : List Entry) × (before_first c es ++ rest ≡ es)) → (b : Bool) → c e ≡ b
        → (rest : List Entry) × ((if c e then [] else e ∷ before_first c es) ++ rest ≡ e ∷ es)
    by f true q = (e ∷ es, ap (λ b. (if b then [] else e ∷ before_first c es) ++ e ∷ es) q)
    by f false q =
        (f.0, ap (λ b. (if b then [] else e ∷ before_first c es) ++ f.0) q ∙ ap (λ (l : List Entry). e ∷ l) f.1)

-- silent ones before them do no harm
silent_behind : (c : Entry → Bool) (es more : List Entry) → list_all is_silent es ≡ true
    → list_all is_silent (before_first c more) ≡ true → list_all is_silent (before_first c (es ++ more)) ≡ true
silent_behind c [] more h g = g
silent_behind c (e ∷ es) more h g =
    by (silent_behind c es more (and_parts (is_silent e) (list_all is_silent es) h).1 g) (c e)
  where
    by : list_all is_silent (before_first c (es ++ more)) ≡ true → (b : Bool)
        → list_all is_silent (if b then [] else e ∷ before_first c (es ++ more)) ≡ true
    by next true = refl
    by next false =
        and_from (is_silent e) (list_all is_silent (before_first c (es ++ more)))
        (and_parts (is_silent e) (list_all is_silent es) h).0 next

silent_before : (c : Entry → Bool) (es : List Entry) → list_all is_silent es ≡ true
    → list_all is_silent (before_first c es) ≡ true
silent_before c es h =
    subst (λ (l : List Entry). list_all is_silent (before_first c l) ≡ true) (append-nil es) (silent_behind c es [] h refl)

-- where posts come there is nothing before the first of them; else what is before what follows
silent_posted : (c : Entry → Bool) (es more : List Entry) → list_all c es ≡ true
    → (es ≡ [] → list_all is_silent (before_first c more) ≡ true)
    → list_all is_silent (before_first c (es ++ more)) ≡ true
silent_posted c [] more h f = f refl
silent_posted c (e ∷ es) more h f =
    ap (λ b. list_all is_silent (if b then [] else e ∷ before_first c (es ++ more))) (and_parts (c e) (list_all c es) h).0

-- ---- notes

sends_none : (n : ℕ) (a : Act) → is_silent (record { actor = n; act = a }) ≡ true
    → sent_in (record { actor = n; act = a }) ≡ None
sends_none n (act.Send k port op v wants r) h = absurd (false≢true h)
sends_none n a h = refl

-- a silent entry leaves what is noted
notes_on : (w : Setting) (h : List Entry) (e : Entry) → is_silent e ≡ true → IsLegal w (h ++ e ∷ [])
    → notes w (h ++ e ∷ []) ≡ notes w h
notes_on w h e silent legal =
    ap (flat_map note_of)
    (consoles_on w h e (legal_parts w h e legal).0
    ∙ ap
    (λ (o : Option Call). console_calls w (past_of w h) ++ filter (goes_to w (past_of w (h ++ e ∷ [])) kind.Console) (cons_option o []))
    (sends_none e.actor e.act silent)
    ∙ append-nil (console_calls w (past_of w h)))

notes_over : (w : Setting) (h more : List Entry) → list_all is_silent more ≡ true → IsLegal w (h ++ more)
    → notes w (h ++ more) ≡ notes w h
notes_over w h more silent legal =
    over_all w is_silent (λ (g : List Entry). notes w g ≡ notes w h) (λ g e s l same. notes_on w g e s l ∙ same) h more silent
    legal refl

-- ---- what is noted before a posting

noted_at : (w : Setting) (h : List Entry) (i : ℕ) → noted_before w h (suc i) ≡ notes w (before_first (cut_at i) h)
noted_at w h i = ap (λ (es : List Entry). notes w (before_first (cut_at i) es)) (entries_past w h)

-- it stays where nothing that comes before the posting sends a call
noted_goes_on : (w : Setting) (h more : List Entry) (i : ℕ) → IsLegal w (h ++ more)
    → list_all is_silent (before_first (cut_at i) more) ≡ true
    → noted_before w (h ++ more) (suc i) ≡ noted_before w h (suc i)
noted_goes_on w h more i legal silent =
    noted_at w (h ++ more) i ∙ by (list_any (cut_at i) h) refl ∙ sym (noted_at w h i)
  where
    legal_then : IsLegal w (h ++ before_first (cut_at i) more)
    legal_then =
        let f = front_before (cut_at i) more in
        legal_front w (h ++ before_first (cut_at i) more) f.0
        (subst (IsLegal w)
        (sym (append_assoc h (before_first (cut_at i) more) f.0 ∙ ap (λ (l : List Entry). h ++ l) f.1)) legal)

    by : (b : Bool) → list_any (cut_at i) h ≡ b
        → notes w (before_first (cut_at i) (h ++ more)) ≡ notes w (before_first (cut_at i) h)
    by true e = ap (λ (l : List Entry). notes w l) (before_cut (cut_at i) h more e)
    by false e =
        ap (λ (l : List Entry). notes w l) (before_uncut (cut_at i) h more e)
        ∙ notes_over w h (before_first (cut_at i) more) silent legal_then
        ∙ ap (λ (l : List Entry). notes w l) (sym (before_none (cut_at i) h e))

-- where no later posting was posted yet it is all that is noted
noted_so_far : (w : Setting) (h : List Entry) (count i : ℕ) → count ≤ suc i → list_all (posts_under count) h ≡ true
    → some_entry (past_of w h) stops ≡ false → noted_before w h (suc i) ≡ notes w h
noted_so_far w h count i most under running =
    ap (λ (p : Past). notes w p.entries) (whole_past w h count i most under running)
    ∙ ap (λ (l : List Entry). notes w l) (entries_past w h)

-- ---- a posting is taken in

-- what was noted before it was asked for
pub noted_step : (w : Setting) (h : List Entry) (all : List Posting) (xs : List Wait) (p : Posting) (swept : List Entry) (ts : List Told)
    → CanStep w h all xs p swept ts → (noted : List ℕ) → notes w h ≡ noted
    → IsPrefix (noted_before w (after_step w h all xs p swept) (length all)) noted
noted_step w h all xs p swept ts can noted is = by (length all) refl
  where
    rest : List Entry
    rest = posted w h all xs p swept ++ (swept ++ gathered w h all xs p swept)

    legal : IsLegal w (h ++ rest)
    legal = subst (IsLegal w) (sym (in_one w h all xs p swept ts can)) can.legal

    same : nat_eq first_worker first_worker ≡ true
    same = eq-eqb first_worker first_worker refl

    below : (k : ℕ) → length all ≡ suc k → k < length all
    below k e = omega (arith, e)

    most : (k : ℕ) → length all ≡ suc k → length all ≤ suc k
    most k e = omega (arith, e)

    some : (k : ℕ) → length all ≡ suc k → 0 < length all
    some k e = omega (arith, e)

    posts_cut : (k : ℕ) → length all ≡ suc k → list_all (cut_at k) (posted w h all xs p swept) ≡ true
    posts_cut k e =
        all_posts_of w (past_of w h) (length all, 0) p.calls (cut_at k)
        (λ i q r. or_left (nat_eq first_worker first_worker && nat_lt k (length all)) false
        (and_from (nat_eq first_worker first_worker) (nat_lt k (length all)) same (lt-ltb k (length all) (below k e))))

    silent : (k : ℕ) → length all ≡ suc k → list_all is_silent (before_first (cut_at k) rest) ≡ true
    silent k e =
        silent_posted (cut_at k) (posted w h all xs p swept) (swept ++ gathered w h all xs p swept) (posts_cut k e)
        (λ none.
        subst (λ (l : List Entry). list_all is_silent (before_first (cut_at k) (l ++ gathered w h all xs p swept)) ≡ true)
        (sym (can.unfailed (some k e) none))
        (silent_before (cut_at k) (gathered w h all xs p swept)
        (collected_all is_silent (λ m o. refl) w (past_of w (after_sweep w h all xs p swept)) (waiting w h all xs p swept))))

    by : (m : ℕ) → length all ≡ m → IsPrefix (noted_before w (after_step w h all xs p swept) m) noted
    by zero e = (noted, refl)
    by (suc k) e =
        front_all (noted_before w (after_step w h all xs p swept) (suc k)) noted
        (ap (λ (l : List Entry). noted_before w l (suc k)) (sym (in_one w h all xs p swept ts can))
        ∙ noted_goes_on w h rest k legal (silent k e)
        ∙ noted_so_far w h (length all) k (most k e) can.opens.posted.under can.running
        ∙ is)

-- ---- the end

-- it is the same at the end
pub noted_end : (w : Setting) (h : List Entry) (all : List Posting) (xs : List Wait) (swept adoptions closing : List Entry)
    (ts : List Told) → CanEnd w h all xs swept adoptions closing ts → list_all is_silent adoptions ≡ true
    → list_all is_silent closing ≡ true → (noted : List ℕ) → IsPrefix (noted_before w h (length all - 1)) noted
    → IsPrefix (noted_before w (at_end w h all xs swept adoptions closing) (length all - 1)) noted
noted_end w h all xs swept adoptions closing ts can adopts closes noted was = by (length all - 1) refl was
  where
    some : (i : ℕ) → length all - 1 ≡ suc i → 0 < length all
    some i e = omega (arith, e)

    silent : (i : ℕ) → length all - 1 ≡ suc i
        → list_all is_silent (before_first (cut_at i) (at_end_more w h all xs swept adoptions closing ts can)) ≡ true
    silent i e =
        subst
        (λ (l : List Entry). list_all is_silent (before_first (cut_at i)
        (l ++ ((adoptions ++ closing) ++ stop_entry ∷ at_end_gathered w h all xs swept adoptions closing))) ≡ true)
        (sym (can.unfailed (some i e)))
        (silent_behind (cut_at i) (adoptions ++ closing)
        (stop_entry ∷ at_end_gathered w h all xs swept adoptions closing)
        (all_append is_silent adoptions closing adopts closes) refl)

    by : (m : ℕ) → length all - 1 ≡ m → IsPrefix (noted_before w h m) noted
        → IsPrefix (noted_before w (at_end w h all xs swept adoptions closing) m) noted
    by zero e f = (noted, refl)
    by (suc i) e f =
        subst (λ (l : List ℕ). IsPrefix l noted)
        (sym (ap (λ (l : List Entry). noted_before w l (suc i)) (sym (more_is w h all xs swept adoptions closing ts can))
        ∙ noted_goes_on w h (at_end_more w h all xs swept adoptions closing ts can) i
        (subst (IsLegal w) (sym (more_is w h all xs swept adoptions closing ts can)) can.legal) (silent i e)))
        f
