-- What holds of a run between two calls, as far as its postings go: what was posted, what waits, and what was told.
use Rattle.std.proofs.Common.{◌≡◌, ◌<◌, ℕ, suc, Bool, true, false, not, ◌&&◌, ◌||◌, List, [], ◌∷◌}
use Rattle.std.proofs.Common.{◌++◌, length, refl, sym, ap, subst, ◌∙◌, Option, None, Some, true≢false}
use Rattle.std.proofs.Common.{ltb-true, lt-ltb, arith}
use Rattle.std.specs.Prelude.{nat_eq, nat_lt, is_some, slice_get, if◌then◌else◌}
use Rattle.std.specs.List.{list_all, list_any, filter_map, cons_option}
use Rattle.office_core.specs.declared.front.CallIn.{CallIn}
use Rattle.office_core.specs.declared.front.CallIn.TheVariants as call
use Rattle.office_core.specs.declared.front.Posting.{Posting}
use Rattle.office_core.specs.declared.history.Act.{Act}
use Rattle.office_core.specs.declared.history.Act.TheVariants as act
use Rattle.office_core.specs.declared.history.Entry.{Entry}
use Rattle.office_core.specs.declared.post.Posted.{Posted}
use Rattle.office_core.specs.declared.post.PostReply.{PostReply}
use Rattle.office_core.specs.declared.post.PostReply.TheVariants as answer
use Rattle.office_core.specs.Limits.{Setting, first_worker}
use Rattle.office_core.specs.Past.{Past}
use Rattle.office_core.specs.Accepted.{then_one, then_all, past_of}
use Rattle.office_core.specs.Legal.{collects, IsLegalEntry, AreLegal, IsLegal}
use Rattle.run_theorem.specs.Exchange.{Told}
use Rattle.run_record.specs.Order.{accepted_as, message_in as accepted_by, messages_for}
use Rattle.run_record.specs.Postings.{reply_in}
use Rattle.run_order_laws.specs.Uncollected.{IsUncollected, AreUncollected}
use Rattle.run_order_laws.proofs.Lists.{left_true, right_true, both_true, false_left, false_right, eq_true, itself}
use Rattle.run_order_laws.proofs.Lists.{not_eq, turned, append_nil, append_assoc, all_append, all_weaker, none_given}
use Rattle.run_order_laws.proofs.Lists.{given_append, any_append, stays_there}
use Rattle.run_order_laws.proofs.Growing.{past_then, entries_past, legal_front, legal_rest}
use Rattle.run_order_laws.proofs.Staying.{is_collect}
use Rattle.run_order_laws.proofs.Telling.{told_stays}
use Rattle.run_order_laws.proofs.Posting.{is_other, posts_under, ArePosted, IsPosting, posting_begins, posting_goes_on}
use Rattle.run_order_laws.proofs.Posting.{posting_passes, posting_ends, posted_others}
use Rattle.run_order_laws.proofs.Accepting.{AreOther, all_uncollected_still, uncollected_first, post_accepted}
pub use Rattle.run_posts.specs.Open.{IsWaiting, AreWaiting, IsTold, AreTold, AreApart, places, told_places, IsOpen}
use Rattle.run_posts.specs.CallStates.{Wait, message_in, messages_in, messages_of, call_state_of, reply_to, call_entries}
use Rattle.run_posts.specs.CallStates.{state_of_call, posted_entries, call_states_of}
use Rattle.run_posts.proofs.CallStates.{NoReply, numbers_of, numbered, numbered_calls}
use Rattle.run_posts.proofs.CallStates.{calls_become, messages_come, call_states_stay}

-- ---- what holds

-- an entry is no post and no collection, and of a session or of the worker
abbrev pub is_between : Entry → Bool
is_between e = is_other e && not (is_collect e)

pub nothing_open : (w : Setting) → IsOpen w [] [] [] []
nothing_open w = record {
  posted = record { posted = refl; under = refl; together = refl; posters = refl; hands = refl };
  waiting = tt;
  uncollected = tt;
  told = tt;
  apart = tt;
  low = refl;
  low_told = refl;
}

-- ---- what waits stays

-- messages of the postings below a number stay
abbrev SameMessages : Setting → Past → List Entry → ℕ → Type 0
SameMessages w past es count =
    (j : ℕ) → nat_lt j count ≡ true → messages_for (then_all w past es) first_worker j
    ≡ messages_for past first_worker j

waiting_then : (w : Setting) (past : Past) (es : List Entry) (all more : List Posting) (xs : List Wait)
    → AreLegal w past es → SameMessages w past es (length all)
    → list_all (λ n. nat_lt n (length all)) (places xs) ≡ true
    → AreWaiting w past all xs → AreWaiting w (then_all w past es) (all ++ more) xs
waiting_then w past es all more [] legal same low h = tt
waiting_then w past es all more (x ∷ xs) legal same low h = (
  record {
    posting = h.0.posting;
    given = stays_there all more x.place h.0.posting h.0.given;
    calls = h.0.calls;
    are = h.0.are;
    call_states = call_states_stay w (x.place, 0) h.0.calls x.call_states past es legal h.0.call_states;
    messages =
        same x.place (left_true (nat_lt x.place (length all)) (list_all (λ n. nat_lt n (length all)) (places xs)) low)
        ∙ h.0.messages;
  },
  waiting_then w past es all more xs legal same
      (right_true (nat_lt x.place (length all)) (list_all (λ n. nat_lt n (length all)) (places xs)) low) h.1,
)

pub told_then : (w : Setting) (h more : List Entry) (all p : List Posting) (ts : List Told) → IsLegal w (h ++ more)
    → AreTold w (past_of w h) all ts → AreTold w (past_of w (h ++ more)) (all ++ p) ts
told_then w h more all p [] legal g = tt
told_then w h more all p (t ∷ ts) legal g = (
  (g.0.0, stays_there all p t.place g.0.0 g.0.1, told_stays w first_worker t.place g.0.0 t.outcomes h more legal g.0.2),
  told_then w h more all p ts legal g.1,
)

-- ---- entries between

and_true : (b : Bool) → not b ≡ true → b ≡ false
and_true true h = absurd (true≢false (sym h))
and_true false h = refl

no_collect : (n : ℕ) (e : Entry) → is_collect e ≡ false → collects n e ≡ false
no_collect n e h = by e.act h
  where
    by : (a : Act) → is_collect (record { actor = e.actor; act = a }) ≡ false
        → collects n (record { actor = e.actor; act = a }) ≡ false
    by (act.Collect m o) g = absurd (true≢false g)
    by a g = refl

none_other : (e : Entry) (ns : List ℕ) → is_collect e ≡ false → AreOther e ns
none_other e [] h = refl
none_other e (n ∷ ns) h = λ i. no_collect n e h i || none_other e ns h i

uncollected_then : (w : Setting) (past : Past) (es : List Entry) (ns : List ℕ) → list_all is_between es ≡ true
    → AreUncollected past ns → AreUncollected (then_all w past es) ns
uncollected_then w past [] ns between h = h
uncollected_then w past (e ∷ es) ns between h =
    uncollected_then w (then_one w past e) es ns (right_true (is_between e) (list_all is_between es) between)
    (all_uncollected_still w past e ns
    (none_other e ns (and_true (is_collect e)
    (right_true (is_other e) (not (is_collect e)) (left_true (is_between e) (list_all is_between es) between)))) h)

no_message : (j : ℕ) (e : Entry) → is_other e ≡ true → accepted_by first_worker j e ≡ None
no_message j e h = by e.act h
  where
    by : (a : Act) → is_other (record { actor = e.actor; act = a }) ≡ true
        → accepted_by first_worker j (record { actor = e.actor; act = a }) ≡ None
    by (act.Post k i q r) g = absurd (true≢false (sym g))
    by a g = refl

entries_then : (w : Setting) (past : Past) (es : List Entry) → (then_all w past es).entries ≡ past.entries ++ es
entries_then w past [] = sym (append_nil past.entries)
entries_then w past (e ∷ es) = entries_then w (then_one w past e) es ∙ append_assoc past.entries (e ∷ []) es

pub others_same : (w : Setting) (past : Past) (es : List Entry) → list_all is_other es ≡ true → (j : ℕ)
    → messages_for (then_all w past es) first_worker j ≡ messages_for past first_worker j
others_same w past es other j =
    ap (filter_map (accepted_by first_worker j)) (entries_then w past es)
    ∙ given_append (accepted_by first_worker j) past.entries es
    ∙ ap (λ l. messages_for past first_worker j
    ++ l) (none_given (accepted_by first_worker j) is_other (no_message j) es other)
    ∙ append_nil (messages_for past first_worker j)

others_of_between : (es : List Entry) → list_all is_between es ≡ true → list_all is_other es ≡ true
others_of_between es h = all_weaker is_between is_other (λ e g. left_true (is_other e) (not (is_collect e)) g) es h

-- with entries between, what is open stays so
pub open_between : (w : Setting) (h more : List Entry) (all : List Posting) (ts : List Told) (xs : List Wait)
    → IsLegal w (h ++ more) → list_all is_between more ≡ true → IsOpen w h all ts xs → IsOpen w (h ++ more) all ts xs
open_between w h more all ts xs legal between o = record {
  posted = posted_others h more all (others_of_between more between) o.posted;
  waiting =
      subst (λ l. AreWaiting w (past_of w (h ++ more)) l xs) (append_nil all)
      (subst (λ p. AreWaiting w p (all ++ []) xs) (sym (past_then w h more))
      (waiting_then w (past_of w h) more all [] xs (legal_rest w h more legal)
      (λ j low. others_same w (past_of w h) more (others_of_between more between) j) o.low o.waiting));
  uncollected =
      subst (λ p. AreUncollected p (messages_of xs)) (sym (past_then w h more))
      (uncollected_then w (past_of w h) more (messages_of xs) between o.uncollected);
  told =
      subst (λ l. AreTold w (past_of w (h ++ more)) l ts) (append_nil all) (told_then w h more all [] ts legal o.told);
  apart = o.apart;
  low = o.low;
  low_told = o.low_told;
}

-- ---- a posting

posting_all : (w : Setting) (past : Past) (h : List Entry) (all : List Posting) (begun cs : List CallIn) (i : ℕ)
    → length begun ≡ i → IsPosting h all begun
    → IsPosting (h ++ posted_entries w past (length all, i) cs) all (begun ++ cs)
posting_all w past h all begun [] i number p =
    subst (λ l. IsPosting (h ++ []) all l) (sym (append_nil begun))
    (subst (λ l. IsPosting l all begun) (sym (append_nil h)) p)
posting_all w past h all begun (call.Post q ∷ cs) i number p =
    subst (λ l. IsPosting (h ++ posted_entries w past (length all, i) (call.Post q ∷ cs)) all l)
    (append_assoc begun (call.Post q ∷ []) cs)
    (subst (λ l. IsPosting l all ((begun ++ call.Post q ∷ []) ++ cs))
    (append_assoc h (call_entries w past (length all, i) (call.Post q)) (posted_entries w now (length all, suc i) cs))
    (posting_all w now (h ++ call_entries w past (length all, i) (call.Post q)) all (begun
    ++ call.Post q ∷ []) cs (suc i)
    (longer begun (call.Post q) ∙ ap suc number)
    (posting_goes_on h all begun i q (reply_to w past q) number p)))
  where
    now : Past
    now = then_all w past (call_entries w past (length all, i) (call.Post q))

    longer : (xs : List CallIn) (c : CallIn) → length (xs ++ c ∷ []) ≡ suc (length xs)
    longer [] c = refl
    longer (x ∷ xs) c = ap suc (longer xs c)
posting_all w past h all begun (call.Answered o ∷ cs) i number p =
    subst (λ l. IsPosting (h ++ posted_entries w past (length all, suc i) cs) all l)
    (append_assoc begun (call.Answered o ∷ []) cs)
    (posting_all w past h all (begun ++ call.Answered o ∷ []) cs (suc i)
    (longer begun (call.Answered o) ∙ ap suc number)
    (posting_passes h all begun (call.Answered o) (λ j k. refl) p))
  where
    longer : (xs : List CallIn) (c : CallIn) → length (xs ++ c ∷ []) ≡ suc (length xs)
    longer [] c = refl
    longer (x ∷ xs) c = ap suc (longer xs c)

-- what was posted with one posting more
pub posted_next : (w : Setting) (past : Past) (h : List Entry) (all : List Posting) (p : Posting) → ArePosted h all
    → ArePosted (h ++ posted_entries w past (length all, 0) p.calls) (all ++ p ∷ [])
posted_next w past h all p g =
    posting_ends (h ++ posted_entries w past (length all, 0) p.calls) all p
    (posting_all w past h all [] p.calls 0 refl (posting_begins h all g))

-- each entry that calls of posting j add is a post of it
pub all_posts_of : (w : Setting) (past : Past) (ji : ℕ × ℕ) (cs : List CallIn) (p : Entry → Bool)
    → ((i : ℕ) (q : Posted) (r : PostReply) → p (record { actor = first_worker; act = act.Post ji.0 i q r }) ≡ true)
    → list_all p (posted_entries w past ji cs) ≡ true
all_posts_of w past ji [] p is = refl
all_posts_of w past ji (c ∷ cs) p is =
    all_append p (call_entries w past ji c)
    (posted_entries w (then_all w past (call_entries w past ji c)) (ji.0, suc ji.1) cs)
    (by c) (all_posts_of w (then_all w past (call_entries w past ji c)) (ji.0, suc ji.1) cs p is)
  where
    by : (d : CallIn) → list_all p (call_entries w past ji d) ≡ true
    by (call.Post q) =
        both_true (p (record { actor = first_worker; act = act.Post ji.0 ji.1 q (reply_to w past q) })) true
        (is ji.1 q (reply_to w past q)) refl
    by (call.Answered o) = refl

abbrev is_for : ℕ → Entry → Bool
is_for j e = elim e.act [ act.Post k i q r ↦ nat_eq j k | _ ↦ false ]

for_another : (j k : ℕ) (e : Entry) → nat_eq j k ≡ false → is_for k e ≡ true → accepted_by first_worker j e ≡ None
for_another j k e apart h = by e.act h
  where
    by : (a : Act) → is_for k (record { actor = e.actor; act = a }) ≡ true
        → accepted_by first_worker j (record { actor = e.actor; act = a }) ≡ None
    by (act.Post l i q r) g = none (nat_eq first_worker e.actor) (nat_eq j l) (ap (nat_eq j) (sym (is g)) ∙ apart)
      where
        is : nat_eq k l ≡ true → k ≡ l
        is x = eq_true k l x

        none : (b c : Bool) → c ≡ false → (if b && c then accepted_as r else None) ≡ None
        none true c x = ap (λ y. if y then accepted_as r else None) x
        none false c x = refl
    by a g = absurd (true≢false (sym g))

other_number : (j k : ℕ) → nat_lt j k ≡ true → nat_eq j k ≡ false
other_number j k h = let less : j < k = ltb-true j k h in not_eq j k (λ e. omega (arith, less, e))

posts_same : (w : Setting) (past : Past) (count : ℕ) (cs : List CallIn)
    → SameMessages w past (posted_entries w past (count, 0) cs) count
posts_same w past count cs j low =
    ap (filter_map (accepted_by first_worker j)) (entries_then w past (posted_entries w past (count, 0) cs))
    ∙ given_append (accepted_by first_worker j) past.entries (posted_entries w past (count, 0) cs)
    ∙ ap (λ l. messages_for past first_worker j ++ l)
    (none_given (accepted_by first_worker j) (is_for count) (λ e. for_another j count e (other_number j count low))
    (posted_entries w past (count, 0) cs)
    (all_posts_of w past (count, 0) cs (is_for count) (λ i q r. itself count)))
    ∙ append_nil (messages_for past first_worker j)

under_reply : (count k : ℕ) (e : Entry) → posts_under count e ≡ true → reply_in first_worker count k e ≡ None
under_reply count k e h = by e.act h
  where
    by : (a : Act) → posts_under count (record { actor = e.actor; act = a }) ≡ true
        → reply_in first_worker count k (record { actor = e.actor; act = a }) ≡ None
    by (act.Post l i q r) g =
        none (nat_eq first_worker e.actor) (nat_eq count l) (nat_eq k i) (turned count l ∙ other_number l count g)
      where
        none : (b c d : Bool) → c ≡ false → (if b && c && d then Some r else None) ≡ None
        none true c d x = ap (λ y. if y && d then Some r else None) x
        none false c d x = refl
    by a g = refl

under_message : (count : ℕ) (e : Entry) → posts_under count e ≡ true → accepted_by first_worker count e ≡ None
under_message count e h = by e.act h
  where
    by : (a : Act) → posts_under count (record { actor = e.actor; act = a }) ≡ true
        → accepted_by first_worker count (record { actor = e.actor; act = a }) ≡ None
    by (act.Post l i q r) g =
        none (nat_eq first_worker e.actor) (nat_eq count l) (turned count l ∙ other_number l count g)
      where
        none : (b c : Bool) → c ≡ false → (if b && c then accepted_as r else None) ≡ None
        none true c x = ap (λ y. if y then accepted_as r else None) x
        none false c x = refl
    by a g = refl

no_reply : (w : Setting) (h : List Entry) (count : ℕ) → list_all (posts_under count) h ≡ true
    → NoReply (past_of w h) count 0
no_reply w h count under k above =
    ap (filter_map (reply_in first_worker count k)) (entries_past w h)
    ∙ none_given (reply_in first_worker count k) (posts_under count) (under_reply count k) h under

-- ---- what can be collected of it

append_one : (past : Past) (ns : List ℕ) (n : ℕ) → list_any (λ k. nat_eq k n) ns ≡ false → AreUncollected past ns
    → IsUncollected past n → AreUncollected past (ns ++ n ∷ [])
append_one past [] n apart h u = (u, refl, tt)
append_one past (k ∷ ns) n apart h u = (
  h.0,
  any_append (nat_eq k) ns (n ∷ [])
      ∙ (λ i. h.1 i || (false_left (nat_eq k n) (list_any (λ m. nat_eq m n) ns) apart i || false)),
  append_one past ns n (false_right (nat_eq k n) (list_any (λ m. nat_eq m n) ns) apart) h.2 u,
)

beyond : {A : Type 0} (xs : List A) → is_some (slice_get xs (length xs)) ≡ false
beyond [] = refl
beyond (x ∷ xs) = beyond xs

-- the number of the next message is none of those
next_apart : (past : Past) (ns : List ℕ) (n : ℕ) → n ≡ length past.messages → AreUncollected past ns
    → list_any (λ k. nat_eq k n) ns ≡ false
next_apart past [] n number h = refl
next_apart past (k ∷ ns) n number h =
    (λ i. not_eq k n here i || list_any (λ m. nat_eq m n) ns) ∙ next_apart past ns n number h.2
  where
    here : k ≡ n → ⊥
    here e =
        true≢false
        (sym (ap is_some h.0.there)
        ∙ ap (λ m. is_some (slice_get past.messages m)) (e ∙ number) ∙ beyond past.messages)

post_uncollected : (w : Setting) (h : List Entry) (ns : List ℕ) (j i : ℕ) (q : Posted) (r : PostReply) → IsLegal w h
    → IsLegalEntry w (past_of w h) (record { actor = first_worker; act = act.Post j i q r })
    → AreUncollected (past_of w h) ns
    → AreUncollected (then_one w (past_of w h) (record { actor = first_worker; act = act.Post j i q r }))
    (ns ++ cons_option (message_in (call_state_of r)) [])
post_uncollected w h ns j i q (answer.Accepted n) legal fits u =
    append_one (then_one w (past_of w h)
    (record { actor = first_worker; act = act.Post j i q (answer.Accepted n) })) ns n
    (next_apart (past_of w h) ns n (post_accepted w (past_of w h) first_worker j i q n fits).number u)
    (all_uncollected_still w (past_of w h)
    (record { actor = first_worker; act = act.Post j i q (answer.Accepted n) }) ns
    (none_other (record { actor = first_worker; act = act.Post j i q (answer.Accepted n) }) ns refl) u)
    (uncollected_first w h j i q n legal fits)
post_uncollected w h ns j i q (answer.Refused why) legal fits u =
    subst (AreUncollected
    (then_one w (past_of w h) (record { actor = first_worker; act = act.Post j i q (answer.Refused why) })))
    (sym (append_nil ns))
    (all_uncollected_still w (past_of w h)
    (record { actor = first_worker; act = act.Post j i q (answer.Refused why) }) ns
    (none_other (record { actor = first_worker; act = act.Post j i q (answer.Refused why) }) ns refl) u)

call_uncollected : (w : Setting) (h : List Entry) (ns : List ℕ) (ji : ℕ × ℕ) (c : CallIn) → IsLegal w h
    → AreLegal w (past_of w h) (call_entries w (past_of w h) ji c) → AreUncollected (past_of w h) ns
    → AreUncollected (then_all w (past_of w h) (call_entries w (past_of w h) ji c))
    (ns ++ cons_option (message_in (state_of_call w (past_of w h) c)) [])
call_uncollected w h ns ji (call.Post q) legal fits u =
    post_uncollected w h ns ji.0 ji.1 q (reply_to w (past_of w h) q) legal fits.0 u
call_uncollected w h ns ji (call.Answered o) legal fits u =
    subst (AreUncollected (past_of w h)) (sym (append_nil ns)) u

moved : (o : Option ℕ) (front rest : List ℕ) → (front ++ cons_option o []) ++ rest ≡ front ++ cons_option o rest
moved None front rest = ap (λ l. l ++ rest) (append_nil front)
moved (Some n) front rest = append_assoc front (n ∷ []) rest

posts_uncollected : (w : Setting) (h : List Entry) (past : Past) (ns : List ℕ) (ji : ℕ × ℕ) (cs : List CallIn)
    → past_of w h ≡ past → IsLegal w (h ++ posted_entries w past ji cs) → AreUncollected past ns
    → AreUncollected (then_all w past (posted_entries w past ji cs)) (ns ++ messages_in (call_states_of w past ji cs))
posts_uncollected w h past ns ji [] is legal u = subst (AreUncollected past) (sym (append_nil ns)) u
posts_uncollected w h past ns ji (c ∷ cs) is legal u =
    subst (λ p. AreUncollected p (ns ++ messages_in (call_states_of w past ji (c ∷ cs))))
    (sym (append_then w past (call_entries w past ji c) (posted_entries w now (ji.0, suc ji.1) cs)))
    (subst (AreUncollected (then_all w now (posted_entries w now (ji.0, suc ji.1) cs)))
    (moved (message_in (state_of_call w past c)) ns (messages_in (call_states_of w now (ji.0, suc ji.1) cs)))
    (posts_uncollected w (h ++ call_entries w past ji c) now (ns ++ cons_option (message_in (state_of_call w past c)) [])
    (ji.0, suc ji.1) cs here longer
    (subst (λ p. AreUncollected (then_all w p (call_entries w p ji c)) (ns
    ++ cons_option (message_in (state_of_call w p c)) [])) is
    (call_uncollected w h ns ji c
    (legal_front w h (call_entries w past ji c) (legal_front w (h
    ++ call_entries w past ji c) (posted_entries w now (ji.0, suc ji.1) cs) longer))
    (subst (λ p. AreLegal w (past_of w h) (call_entries w p ji c)) (sym is)
    (legal_rest w h (call_entries w past ji c)
    (legal_front w (h ++ call_entries w past ji c) (posted_entries w now (ji.0, suc ji.1) cs) longer)))
    (subst (λ p. AreUncollected p ns) (sym is) u)))))
  where
    now : Past
    now = then_all w past (call_entries w past ji c)

    here : past_of w (h ++ call_entries w past ji c) ≡ now
    here = past_then w h (call_entries w past ji c) ∙ ap (λ p. then_all w p (call_entries w past ji c)) is

    longer : IsLegal w ((h ++ call_entries w past ji c) ++ posted_entries w now (ji.0, suc ji.1) cs)
    longer =
        subst (IsLegal w) (sym
        (append_assoc h (call_entries w past ji c) (posted_entries w now (ji.0, suc ji.1) cs))) legal

    append_then : (v : Setting) (p : Past) (es more : List Entry)
        → then_all v p (es ++ more) ≡ then_all v (then_all v p es) more
    append_then v p [] more = refl
    append_then v p (e ∷ es) more = append_then v (then_one v p e) es more

-- ---- one posting more

slice_end : {A : Type 0} (xs : List A) (x : A) → slice_get (xs ++ x ∷ []) (length xs) ≡ Some x
slice_end [] x = refl
slice_end (y ∷ xs) x = slice_end xs x

waiting_append : (w : Setting) (past : Past) (all : List Posting) (xs : List Wait) (x : Wait)
    → AreWaiting w past all xs → IsWaiting w past all x → AreWaiting w past all (xs ++ x ∷ [])
waiting_append w past all [] x h g = (g, tt)
waiting_append w past all (y ∷ xs) x h g = (h.0, waiting_append w past all xs x h.1 g)

places_append : (xs : List Wait) (x : Wait) → places (xs ++ x ∷ []) ≡ places xs ++ x.place ∷ []
places_append [] x = refl
places_append (y ∷ xs) x = ap (λ l. y.place ∷ l) (places_append xs x)

messages_append : (xs : List Wait) (x : Wait) → messages_of (xs ++ x ∷ []) ≡ messages_of xs ++ messages_in x.call_states
messages_append [] x = append_nil (messages_in x.call_states)
messages_append (y ∷ xs) x =
    ap (λ l. messages_in y.call_states ++ l) (messages_append xs x)
    ∙ sym (append_assoc (messages_in y.call_states) (messages_of xs) (messages_in x.call_states))

pub low_apart : (ns : List ℕ) (n : ℕ) → list_all (λ k. nat_lt k n) ns ≡ true → list_any (nat_eq n) ns ≡ false
low_apart [] n h = refl
low_apart (k ∷ ns) n h =
    (λ i. (turned n k ∙ other_number k n (left_true (nat_lt k n) (list_all (λ m. nat_lt m n) ns) h)) i
    || list_any (nat_eq n) ns)
    ∙ low_apart ns n (right_true (nat_lt k n) (list_all (λ m. nat_lt m n) ns) h)

apart_append : (ns ts : List ℕ) (n : ℕ) → list_all (λ k. nat_lt k n) ns ≡ true → list_any (nat_eq n) ts ≡ false
    → AreApart ns ts → AreApart (ns ++ n ∷ []) ts
apart_append [] ts n low out h = (refl, out, tt)
apart_append (k ∷ ns) ts n low out h = (
  any_append (nat_eq k) ns (n ∷ [])
      ∙ (λ i. h.0 i || (other_number k n (left_true (nat_lt k n) (list_all (λ m. nat_lt m n) ns) low) i || false)),
  h.1,
  apart_append ns ts n (right_true (nat_lt k n) (list_all (λ m. nat_lt m n) ns) low) out h.2,
)

longer_all : (all : List Posting) (p : Posting) → length (all ++ p ∷ []) ≡ suc (length all)
longer_all [] p = refl
longer_all (x ∷ all) p = ap suc (longer_all all p)

lower : (count k : ℕ) → nat_lt k count ≡ true → nat_lt k (suc count) ≡ true
lower count k h = let less : k < count = ltb-true k count h in lt-ltb k (suc count) (omega (arith, less))

low_more : (count : ℕ) (ns : List ℕ) → list_all (λ k. nat_lt k count) ns ≡ true
    → list_all (λ k. nat_lt k (suc count)) ns ≡ true
low_more count ns h = all_weaker (λ k. nat_lt k count) (λ k. nat_lt k (suc count)) (lower count) ns h

-- a posting that was just posted
abbrev pub next_wait : (w : Setting) (past : Past) (count : ℕ) (p : Posting) → Wait
next_wait w past count p = record { place = count; call_states = call_states_of w past (count, 0) p.calls }

-- with one posting more, what is open is it too
pub open_posts : (w : Setting) (h : List Entry) (all : List Posting) (ts : List Told) (xs : List Wait) (p : Posting)
    → IsLegal w (h ++ posted_entries w (past_of w h) (length all, 0) p.calls) → IsOpen w h all ts xs
    → IsOpen w (h ++ posted_entries w (past_of w h) (length all, 0) p.calls) (all ++ p ∷ []) ts
    (xs ++ next_wait w (past_of w h) (length all) p ∷ [])
open_posts w h all ts xs p legal o = record {
  posted = posted_next w (past_of w h) h all p o.posted;
  waiting =
      subst (λ q. AreWaiting w q (all ++ p ∷ []) (xs
      ++ next_wait w (past_of w h) (length all) p ∷ [])) (sym (past_then w h es))
      (waiting_append w (then_all w (past_of w h) es) (all ++ p ∷ []) xs (next_wait w (past_of w h) (length all) p)
      (waiting_then w (past_of w h) es all (p ∷ []) xs (legal_rest w h es legal)
      (posts_same w (past_of w h) (length all) p.calls) o.low o.waiting)
      (record {
        posting = p;
        given = slice_end all p;
        calls = numbered w (past_of w h) (length all, 0) p.calls;
        are = numbered_calls w (past_of w h) (length all, 0) p.calls;
        call_states =
            calls_become w (past_of w h) (length all, 0) p.calls (legal_rest w h es legal)
            (no_reply w h (length all) o.posted.under);
        messages =
            messages_come w (past_of w h) (length all, 0) p.calls
            ∙ ap (λ l. l ++ numbers_of (numbered w (past_of w h) (length all, 0) p.calls))
            (ap (filter_map (accepted_by first_worker (length all))) (entries_past w h)
            ∙ none_given (accepted_by first_worker (length all)) (posts_under (length all))
            (under_message (length all)) h
            o.posted.under);
      }));
  uncollected =
      subst (AreUncollected (past_of w (h ++ es))) (sym (messages_append xs (next_wait w (past_of w h) (length all) p)))
      (subst (λ q. AreUncollected q (messages_of xs ++ messages_in (call_states_of w (past_of w h) (length all, 0) p.calls)))
      (sym (past_then w h es))
      (posts_uncollected w h (past_of w h) (messages_of xs) (length all, 0) p.calls refl legal o.uncollected));
  told = told_then w h es all (p ∷ []) ts legal o.told;
  apart =
      subst (λ l. AreApart l (told_places ts)) (sym (places_append xs (next_wait w (past_of w h) (length all) p)))
      (apart_append (places xs) (told_places ts) (length all) o.low
      (low_apart (told_places ts) (length all) o.low_told) o.apart);
  low =
      ap (λ l. list_all (λ n. nat_lt n (length (all
      ++ p ∷ []))) l) (places_append xs (next_wait w (past_of w h) (length all) p))
      ∙ ap (λ m. list_all (λ n. nat_lt n m) (places xs ++ length all ∷ [])) (longer_all all p)
      ∙ all_append (λ n. nat_lt n (suc (length all))) (places xs) (length all ∷ [])
      (low_more (length all) (places xs) o.low)
      (both_true (nat_lt (length all) (suc (length all))) true
      (lt-ltb (length all) (suc (length all)) (omega arith)) refl);
  low_told =
      ap (λ m. list_all (λ n. nat_lt n m) (told_places ts)) (longer_all all p)
      ∙ low_more (length all) (told_places ts) o.low_told;
}
  where
    es : List Entry
    es = posted_entries w (past_of w h) (length all, 0) p.calls
