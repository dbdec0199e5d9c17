-- What was posted: the posts of a history are those that the postings so far ask for, each posting in one piece.
use Rattle.std.proofs.Common.{◌≡◌, ◌<◌, ℕ, suc, ◌+◌, Bool, true, false, not, ◌&&◌, ◌||◌, List, [], ◌∷◌, ◌++◌}
use Rattle.std.proofs.Common.{length, refl, sym, ap, subst, ◌∙◌, None, true≢false, ltb-true, lt-ltb}
use Rattle.std.proofs.Common.{arith}
use Rattle.std.specs.Prelude.{nat_eq, nat_lt, if◌then◌else◌}
use Rattle.std.specs.List.{list_all, list_any, cons_option}
use Rattle.office_core.specs.declared.front.CallIn.{CallIn}
use Rattle.office_core.specs.declared.front.CallIn.TheVariants as call
use Rattle.office_core.specs.declared.front.Posting.{Posting}
use Rattle.office_core.specs.declared.history.Act.{Act}
use Rattle.office_core.specs.declared.history.Act.TheVariants as act
use Rattle.office_core.specs.declared.history.Entry.{Entry}
use Rattle.office_core.specs.declared.post.Posted.{Posted}
use Rattle.office_core.specs.declared.post.PostReply.{PostReply}
use Rattle.office_core.specs.Limits.{first_worker}
use Rattle.run_record.specs.Postings.{post_by, posts_by, post_for, posts_from, posts_of}
use Rattle.run_record.specs.Quiet.{posts, posts_for}
use Rattle.run_record.specs.Answered.{behind_posts, is_in_one_piece, stand_together}
use Rattle.run_record.specs.Run.{alone, is_of_hand}
pub use Rattle.run_order_laws.specs.Entries.{is_by_first, posts_under, is_other}
pub use Rattle.run_order_laws.specs.Posting.{goes_on, ArePosted, IsPosting}
use Rattle.run_order_laws.proofs.Lists.{left_true, right_true, both_true, itself, not_eq, turned, eq_true, append_nil}
use Rattle.run_order_laws.proofs.Lists.{append_assoc, all_append, all_weaker, any_append}
use Rattle.run_order_laws.proofs.Lists.{given_append}

-- ---- numbers

pub lt_true : (m n : ℕ) → m < n → nat_lt m n ≡ true
lt_true m n h = lt-ltb m n h

pub lt_is : (m n : ℕ) → nat_lt m n ≡ true → m < n
lt_is m n h = ltb-true m n h

wider : (count j : ℕ) → nat_lt j count ≡ true → nat_lt j (suc count) ≡ true
wider count j h = let less : j < count = lt_is j count h in lt_true j (suc count) (omega (arith, less))

differs : (j k : ℕ) → nat_lt k j ≡ true → nat_eq j k ≡ false
differs j k h = let less : k < j = lt_is k j h in not_eq j k (λ e. omega (arith, less, e))

-- ---- one entry more

and_false : (b : Bool) → (b && false) ≡ false
and_false true = refl
and_false false = refl

under_wider : (count : ℕ) (e : Entry) → posts_under count e ≡ true → posts_under (suc count) e ≡ true
under_wider count e h = by e.act h
  where
    by : (a : Act) → posts_under count (record { actor = e.actor; act = a }) ≡ true
        → posts_under (suc count) (record { actor = e.actor; act = a }) ≡ true
    by (act.Post j i q r) g = wider count j g
    by a g = refl

under_not_for : (count : ℕ) (e : Entry) → posts_under count e ≡ true → posts_for first_worker count e ≡ false
under_not_for count e h = by e.act h
  where
    by : (a : Act) → posts_under count (record { actor = e.actor; act = a }) ≡ true
        → posts_for first_worker count (record { actor = e.actor; act = a }) ≡ false
    by (act.Post j i q r) g =
        ap (λ b. nat_eq first_worker e.actor && b) (differs count j g) ∙ and_false (nat_eq first_worker e.actor)
    by a g = refl

-- where nothing is posted for a posting, it can begin
goes_on_from : (j : ℕ) (h : List Entry) → list_all (posts_under j) h ≡ true → goes_on j h ≡ true
goes_on_from j [] g = refl
goes_on_from j (e ∷ es) g =
    ap (λ b. if b then list_all (posts_for first_worker j) es else goes_on j es)
    (under_not_for j e (left_true (posts_under j e) (list_all (posts_under j) es) g))
    ∙ goes_on_from j es (right_true (posts_under j e) (list_all (posts_under j) es) g)

goes_on_more : (j : ℕ) (h : List Entry) (e : Entry) → goes_on j h ≡ true → posts_for first_worker j e ≡ true
    → goes_on j (h ++ e ∷ []) ≡ true
goes_on_more j [] e g p = by (posts_for first_worker j e)
  where
    by : (b : Bool) → (if b then true else true) ≡ true
    by true = refl
    by false = refl
goes_on_more j (d ∷ h) e g p = by (posts_for first_worker j d) g (goes_on_more j h e)
  where
    by : (b : Bool) → (if b then list_all (posts_for first_worker j) h else goes_on j h) ≡ true
        → (goes_on j h ≡ true → posts_for first_worker j e ≡ true → goes_on j (h ++ e ∷ []) ≡ true)
        → (if b then list_all (posts_for first_worker j) (h ++ e ∷ []) else goes_on j (h ++ e ∷ [])) ≡ true
    by true all next =
        all_append (posts_for first_worker j) h (e ∷ []) all
        (both_true (posts_for first_worker j e) true p refl)
    by false all next = next all p

-- ---- in one piece

behind_more : (actor j : ℕ) (es : List Entry) (e : Entry) → posts_for actor j e ≡ false
    → behind_posts actor j (es ++ e ∷ []) ≡ behind_posts actor j es ++ e ∷ []
behind_more actor j [] e h = ap (λ b. if b then [] else e ∷ []) h
behind_more actor j (d ∷ es) e h = by (posts_for actor j d) (behind_more actor j es e h)
  where
    by : (b : Bool) → behind_posts actor j (es ++ e ∷ []) ≡ behind_posts actor j es ++ e ∷ []
        → (if b then behind_posts actor j (es ++ e ∷ []) else d ∷ (es ++ e ∷ []))
        ≡ (if b then behind_posts actor j es else d ∷ es) ++ e ∷ []
    by true next = next
    by false next = refl

behind_all : (actor j : ℕ) (es : List Entry) → list_all (posts_for actor j) es ≡ true → behind_posts actor j es ≡ []
behind_all actor j [] h = refl
behind_all actor j (e ∷ es) h =
    ap (λ b. if b then behind_posts actor j es else e ∷ es)
    (left_true (posts_for actor j e) (list_all (posts_for actor j) es) h)
    ∙ behind_all actor j es (right_true (posts_for actor j e) (list_all (posts_for actor j) es) h)

-- an entry that is no post of the posting
piece_stays : (d e : Entry) (es : List Entry)
    → ((j i : ℕ) (q : Posted) (r : PostReply) → d.act ≡ act.Post j i q r → posts_for d.actor j e ≡ false)
    → is_in_one_piece d es ≡ true → is_in_one_piece d (es ++ e ∷ []) ≡ true
piece_stays d e es other h = by d.act refl h
  where
    by : (a : Act) → d.act ≡ a → is_in_one_piece (record { actor = d.actor; act = a }) es ≡ true
        → is_in_one_piece (record { actor = d.actor; act = a }) (es ++ e ∷ []) ≡ true
    by (act.Post j i q r) same g =
        ap (λ l. not (list_any (posts_for d.actor j) l)) (behind_more d.actor j es e (other j i q r same))
        ∙ ap not (any_append (posts_for d.actor j) (behind_posts d.actor j es) (e ∷ []))
        ∙ (λ k. not (list_any (posts_for d.actor j) (behind_posts d.actor j es) || (other j i q r same k || false)))
        ∙ ap not (or_false (list_any (posts_for d.actor j) (behind_posts d.actor j es))) ∙ g
      where
        or_false : (b : Bool) → (b || false) ≡ b
        or_false true = refl
        or_false false = refl
    by a same g = refl

not_post : (actor j : ℕ) (e : Entry) → posts e ≡ false → posts_for actor j e ≡ false
not_post actor j e h = by e.act h
  where
    by : (a : Act) → posts (record { actor = e.actor; act = a }) ≡ false
        → posts_for actor j (record { actor = e.actor; act = a }) ≡ false
    by (act.Post k i q r) g = absurd (true≢false g)
    by a g = refl

-- with an entry that is no post, posts stand together as before
pub together_other : (h : List Entry) (e : Entry) → posts e ≡ false → stand_together h ≡ true
    → stand_together (h ++ e ∷ []) ≡ true
together_other [] e p h = by e.act
  where
    by : (a : Act) → (is_in_one_piece (record { actor = e.actor; act = a }) [] && true) ≡ true
    by (act.Post j i q r) = refl
    by a = refl
together_other (d ∷ h) e p g =
    both_true (is_in_one_piece d (h ++ e ∷ [])) (stand_together (h ++ e ∷ []))
    (piece_stays d e h (λ j i q r s. not_post d.actor j e p)
    (left_true (is_in_one_piece d h) (stand_together h) g))
    (together_other h e p (right_true (is_in_one_piece d h) (stand_together h) g))

-- an entry that is a post of the posting goes on with it where nothing else came since
piece_goes_on : (d e : Entry) (es : List Entry) (j : ℕ) → posts_for first_worker j d ≡ true
    → posts_for first_worker j e ≡ true → list_all (posts_for first_worker j) es ≡ true
    → is_in_one_piece d (es ++ e ∷ []) ≡ true
piece_goes_on d e es j is_d is_e all = by d.act refl is_d
  where
    by : (a : Act) → d.act ≡ a → posts_for first_worker j (record { actor = d.actor; act = a }) ≡ true
        → is_in_one_piece (record { actor = d.actor; act = a }) (es ++ e ∷ []) ≡ true
    by (act.Post k i q r) same g =
        ap (λ l. not (list_any (posts_for d.actor k) l))
        ((λ n. behind_posts (actor n) (number n) (es ++ e ∷ []))
        ∙ behind_all first_worker j (es ++ e ∷ [])
        (all_append (posts_for first_worker j) es (e ∷ []) all (both_true (posts_for first_worker j e) true is_e refl)))
      where
        actor : d.actor ≡ first_worker
        actor = sym (eq_true first_worker d.actor (left_true (nat_eq first_worker d.actor) (nat_eq j k) g))

        number : k ≡ j
        number = sym (eq_true j k (right_true (nat_eq first_worker d.actor) (nat_eq j k) g))
    by a same g = refl

-- a post of another posting, or by somebody else
other_post : (j k i : ℕ) (q : Posted) (r : PostReply) (d e : Entry) → posts_for first_worker j d ≡ false
    → posts_for first_worker j e ≡ true → d.act ≡ act.Post k i q r → posts_for d.actor k e ≡ false
other_post j k i q r d e not_d is_e same = by e.act is_e
  where
    d_is : (nat_eq first_worker d.actor && nat_eq j k) ≡ false
    d_is = ap (λ a. posts_for first_worker j (record { actor = d.actor; act = a })) (sym same) ∙ not_d

    by : (a : Act) → posts_for first_worker j (record { actor = e.actor; act = a }) ≡ true
        → posts_for d.actor k (record { actor = e.actor; act = a }) ≡ false
    by (act.Post l m p s) g =
        (λ n. nat_eq d.actor (actor n) && nat_eq k (number n))
        ∙ (λ n. turned d.actor first_worker n && turned k j n) ∙ d_is
      where
        actor : e.actor ≡ first_worker
        actor = sym (eq_true first_worker e.actor (left_true (nat_eq first_worker e.actor) (nat_eq j l) g))

        number : l ≡ j
        number = sym (eq_true j l (right_true (nat_eq first_worker e.actor) (nat_eq j l) g))
    by a g = absurd (true≢false (sym g))

-- with a post of the posting that is being posted, posts stand together as before
pub together_post : (j : ℕ) (h : List Entry) (e : Entry) → posts_for first_worker j e ≡ true → goes_on j h ≡ true
    → stand_together h ≡ true → stand_together (h ++ e ∷ []) ≡ true
together_post j [] e p g h = by e.act
  where
    by : (a : Act) → (is_in_one_piece (record { actor = e.actor; act = a }) [] && true) ≡ true
    by (act.Post k i q r) = refl
    by a = refl
together_post j (d ∷ h) e p g s = by (λ on. together_post j h e p on others) (posts_for first_worker j d) refl g
  where
    piece : is_in_one_piece d h ≡ true
    piece = left_true (is_in_one_piece d h) (stand_together h) s

    others : stand_together h ≡ true
    others = right_true (is_in_one_piece d h) (stand_together h) s

    all_go_on : (es : List Entry) → list_all (posts_for first_worker j) es ≡ true → goes_on j es ≡ true
    all_go_on [] all = refl
    all_go_on (c ∷ es) all =
        ap (λ b. if b then list_all (posts_for first_worker j) es else goes_on j es)
        (left_true (posts_for first_worker j c) (list_all (posts_for first_worker j) es) all)
        ∙ right_true (posts_for first_worker j c) (list_all (posts_for first_worker j) es) all

    by : (goes_on j h ≡ true → stand_together (h ++ e ∷ []) ≡ true) → (b : Bool) → posts_for first_worker j d ≡ b
        → (if b then list_all (posts_for first_worker j) h else goes_on j h) ≡ true
        → (is_in_one_piece d (h ++ e ∷ []) && stand_together (h ++ e ∷ [])) ≡ true
    by next true is all =
        both_true (is_in_one_piece d (h ++ e ∷ [])) (stand_together (h ++ e ∷ []))
        (piece_goes_on d e h j is p all) (next (all_go_on h all))
    by next false is on =
        both_true (is_in_one_piece d (h ++ e ∷ [])) (stand_together (h ++ e ∷ []))
        (piece_stays d e h (λ k i q r same. other_post j k i q r d e is p same) piece) (next on)

-- ---- the postings

posts_of_more : (j : ℕ) (given : List Posting) (p : Posting)
    → posts_of j (given ++ p ∷ []) ≡ posts_of j given ++ posts_from (j + length given) 0 p.calls
posts_of_more j [] p = append_nil (posts_from j 0 p.calls) ∙ ap (λ n. posts_from n 0 p.calls) (number j)
  where
    number : (k : ℕ) → k ≡ k + 0
    number k = omega arith
posts_of_more j (g ∷ given) p =
    ap (λ l. posts_from j 0 g.calls ++ l) (posts_of_more (suc j) given p)
    ∙ sym (append_assoc (posts_from j 0 g.calls) (posts_of (suc j) given) (posts_from (suc j + length given) 0 p.calls))
    ∙ ap (λ n. (posts_from j 0 g.calls ++ posts_of (suc j) given) ++ posts_from n 0 p.calls) (number j (length given))
  where
    number : (k l : ℕ) → suc k + l ≡ k + suc l
    number k l = omega arith

posts_from_more : (j i : ℕ) (begun : List CallIn) (c : CallIn)
    → posts_from j i (begun ++ c ∷ []) ≡ posts_from j i begun ++ post_for j (i + length begun) c
posts_from_more j i [] c = append_nil (post_for j i c) ∙ ap (λ n. post_for j n c) (number i)
  where
    number : (k : ℕ) → k ≡ k + 0
    number k = omega arith
posts_from_more j i (b ∷ begun) c =
    ap (λ l. post_for j i b ++ l) (posts_from_more j (suc i) begun c)
    ∙ sym (append_assoc (post_for j i b) (posts_from j (suc i) begun) (post_for j (suc i + length begun) c))
    ∙ ap (λ n. (post_for j i b ++ posts_from j (suc i) begun) ++ post_for j n c) (number i (length begun))
  where
    number : (k l : ℕ) → suc k + l ≡ k + suc l
    number k l = omega arith

zero_and : (n : ℕ) → 0 + n ≡ n
zero_and n = omega arith

-- a posting is come to
pub posting_begins : (h : List Entry) (given : List Posting) → ArePosted h given → IsPosting h given []
posting_begins h given p = record {
  posted = p.posted ∙ sym (append_nil (posts_of 0 given));
  under =
      all_weaker (posts_under (length given)) (posts_under (suc (length given))) (under_wider (length given)) h p.under;
  open_end = goes_on_from (length given) h p.under;
  together = p.together;
  posters = p.posters;
  hands = p.hands;
}

-- the entry of the next post
abbrev pub post_entry : ℕ → ℕ → Posted → PostReply → Entry
post_entry j i q r = record { actor = first_worker; act = act.Post j i q r }

below_next : (n : ℕ) → nat_lt n (suc n) ≡ true
below_next n = lt_true n (suc n) (omega arith)

-- a call of it is posted
pub posting_goes_on : (h : List Entry) (given : List Posting) (begun : List CallIn) (i : ℕ) (q : Posted) (r : PostReply)
    → length begun ≡ i → IsPosting h given begun
    → IsPosting (h ++ post_entry (length given) i q r ∷ []) given (begun ++ call.Post q ∷ [])
posting_goes_on h given begun i q r number p = record {
  posted =
      given_append (post_by first_worker) h (e ∷ [])
      ∙ ap (λ l. l ++ (record { posting = length given; index = i; posted = q }) ∷ []) p.posted
      ∙ append_assoc (posts_of 0 given) (posts_from (length given) 0 begun)
      ((record { posting = length given; index = i; posted = q }) ∷ [])
      ∙ ap (λ n. posts_of 0 given ++ (posts_from (length given) 0 begun ++ post_for (length given) n (call.Post q)))
      (sym number ∙ sym (zero_and (length begun)))
      ∙ ap (λ l. posts_of 0 given ++ l) (sym (posts_from_more (length given) 0 begun (call.Post q)));
  under =
      all_append (posts_under (suc (length given))) h (e ∷ []) p.under
      (both_true (nat_lt (length given) (suc (length given))) true (below_next (length given)) refl);
  open_end = goes_on_more (length given) h e p.open_end is_e;
  together = together_post (length given) h e is_e p.open_end p.together;
  posters = all_append is_by_first h (e ∷ []) p.posters refl;
  hands = all_append (is_of_hand alone) h (e ∷ []) p.hands refl;
}
  where
    e : Entry
    e = post_entry (length given) i q r

    is_e : posts_for first_worker (length given) e ≡ true
    is_e = itself (length given)

-- a call of it was answered before
pub posting_passes : (h : List Entry) (given : List Posting) (begun : List CallIn) (c : CallIn)
    → ((j i : ℕ) → post_for j i c ≡ []) → IsPosting h given begun → IsPosting h given (begun ++ c ∷ [])
posting_passes h given begun c none p = record {
  posted =
      p.posted
      ∙ ap (λ l. posts_of 0 given ++ l)
      (sym (posts_from_more (length given) 0 begun c
      ∙ ap (λ l. posts_from (length given) 0 begun ++ l) (none (length given) (0 + length begun))
      ∙ append_nil (posts_from (length given) 0 begun)));
  under = p.under;
  open_end = p.open_end;
  together = p.together;
  posters = p.posters;
  hands = p.hands;
}

-- all of its calls were come to
pub posting_ends : (h : List Entry) (given : List Posting) (p : Posting)
    → IsPosting h given p.calls → ArePosted h (given ++ p ∷ [])
posting_ends h given p g = record {
  posted =
      g.posted
      ∙ ap (λ n. posts_of 0 given ++ posts_from n 0 p.calls) (sym (zero_and (length given)))
      ∙ sym (posts_of_more 0 given p);
  under = subst (λ n. list_all (posts_under n) h ≡ true) (sym (count given)) g.under;
  together = g.together;
  posters = g.posters;
  hands = g.hands;
}
  where
    count : (ps : List Posting) → length (ps ++ p ∷ []) ≡ suc (length ps)
    count [] = refl
    count (x ∷ ps) = ap suc (count ps)

-- ---- all else

other_no_post : (e : Entry) → posts e ≡ false → (post_by first_worker e ≡ None) × (is_by_first e ≡ true)
other_no_post e h = by e.act h
  where
    by : (a : Act) → posts (record { actor = e.actor; act = a }) ≡ false
        → (post_by first_worker (record { actor = e.actor; act = a }) ≡ None)
        × (is_by_first (record { actor = e.actor; act = a }) ≡ true)
    by (act.Post k i q r) g = absurd (true≢false g)
    by a g = (refl, refl)

other_under : (count : ℕ) (e : Entry) → posts e ≡ false → posts_under count e ≡ true
other_under count e h = by e.act h
  where
    by : (a : Act) → posts (record { actor = e.actor; act = a }) ≡ false
        → posts_under count (record { actor = e.actor; act = a }) ≡ true
    by (act.Post k i q r) g = absurd (true≢false g)
    by a g = refl

not_posts : (e : Entry) → is_other e ≡ true → posts e ≡ false
not_posts e h = by (posts e) (left_true (not (posts e)) (is_of_hand alone e) h)
  where
    by : (b : Bool) → not b ≡ true → b ≡ false
    by true g = absurd (true≢false (sym g))
    by false g = refl

posted_other : (h : List Entry) (given : List Posting) (e : Entry) → is_other e ≡ true → ArePosted h given
    → ArePosted (h ++ e ∷ []) given
posted_other h given e other p =
    let no_post : posts e ≡ false = not_posts e other in
    record {
      posted =
          given_append (post_by first_worker) h (e ∷ [])
          ∙ ap (λ o. posts_by first_worker h ++ cons_option o []) (other_no_post e no_post).0
          ∙ append_nil (posts_by first_worker h) ∙ p.posted;
      under =
          all_append (posts_under (length given)) h (e ∷ []) p.under
          (both_true (posts_under (length given) e) true (other_under (length given) e no_post) refl);
      together = together_other h e no_post p.together;
      posters =
          all_append is_by_first h (e ∷ []) p.posters (both_true (is_by_first e) true (other_no_post e no_post).1 refl);
      hands =
          all_append (is_of_hand alone) h (e ∷ []) p.hands
          (both_true (is_of_hand alone e) true (right_true (not (posts e)) (is_of_hand alone e) other) refl);
    }

-- with entries that are no posts, what was posted stays
pub posted_others : (h more : List Entry) (given : List Posting) → list_all is_other more ≡ true → ArePosted h given
    → ArePosted (h ++ more) given
posted_others h [] given other p = subst (λ l. ArePosted l given) (sym (append_nil h)) p
posted_others h (e ∷ more) given other p =
    subst (λ l. ArePosted l given) (append_assoc h (e ∷ []) more)
    (posted_others (h ++ e ∷ []) more given (right_true (is_other e) (list_all is_other more) other)
    (posted_other h given e (left_true (is_other e) (list_all is_other more) other) p))
