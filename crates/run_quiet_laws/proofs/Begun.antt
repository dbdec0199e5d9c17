-- What holds where a posting begins, entry by entry.
use Rattle.std.proofs.Common.{◌≡◌, ℕ, Bool, true, false, not, List, [], ◌∷◌, ◌++◌, refl, sym, ap, subst, ◌∙◌, append_assoc}
use Rattle.std.specs.List.{list_all, list_any}
use Rattle.std.proofs.lemmas.Bool.{and_parts, false≢true, or_left, or_right}
use Rattle.std.proofs.lemmas.List.{append-nil}
use Rattle.std.proofs.lemmas.List.Folds.{list_any-append}
use Rattle.office_core.specs.declared.history.Entry.{Entry}
use Rattle.run_record.specs.Quiet.{begins_posting, posts, posts_for}
use Rattle.run_quiet_laws.proofs.Still.{Stands, at_end, begun_posts, one_posting, stands_at, stood_before, within}
use Rattle.run_quiet_laws.proofs.Workers.{same_posting}

-- where a posting begins it is so
abbrev pub BeginWell : (ℕ → List Entry → Entry → Type 0) → List Entry → Type 0
BeginWell P h =
    (j : ℕ) (before later : List Entry) (e : Entry) → h ≡ before ++ e ∷ later → begins_posting j before e ≡ true
    → P j before e

not_nil : (xs ys : List Entry) (y : Entry) → [] ≡ xs ++ y ∷ ys → ⊥
not_nil [] ys y e = cc
not_nil (x ∷ xs) ys y e = cc

module _ (P : ℕ → List Entry → Entry → Type 0) where
  pub well_first : BeginWell P []
  well_first j before later e p begins = absurd (not_nil before later e p)

  -- behind entries that are no posts
  pub well_by_others : (h more : List Entry) → list_any posts more ≡ false → BeginWell P h → BeginWell P (h ++ more)
  well_by_others h more other well j before later e p begins =
      let r = stood_before posts h more before later e p other (begun_posts j before e begins) in
      well j before r.0 e r.1 begins

  -- behind an entry that begins a posting where it is so, or none
  well_by_one : (h : List Entry) (e : Entry) → ((j : ℕ) → begins_posting j h e ≡ true → P j h e) → BeginWell P h
      → BeginWell P (h ++ e ∷ [])
  well_by_one h e first well j before later x p begins = go (stands_at h before later e x p)
    where
      go : Stands h before e x → P j before x
      go (at_end q r) =
          coe 0 1 (i. P j (q i) (r i)) (first j ((λ i. begins_posting j (q i) (r i)) ∙ begins))
      go (within rest q) = well j before rest x q begins

  -- behind the posts that follow the first of their posting
  well_by_same : (actor j : ℕ) (h more : List Entry) → list_any (posts_for actor j) h ≡ true
      → list_all (posts_for actor j) more ≡ true → BeginWell P h → BeginWell P (h ++ more)
  well_by_same actor j h [] there all well = subst (λ (x : List Entry). BeginWell P x) (sym (append-nil h)) well
  well_by_same actor j h (e ∷ more) there all well =
      let a = and_parts (posts_for actor j e) (list_all (posts_for actor j) more) all in
      subst (λ (x : List Entry). BeginWell P x) (append_assoc h (e ∷ []) more)
      (well_by_same actor j (h ++ e ∷ []) more
      (list_any-append (posts_for actor j) h (e ∷ [])
      ∙ or_left (list_any (posts_for actor j) h) (list_any (posts_for actor j) (e ∷ [])) there)
      a.1
      (well_by_one h e (λ k begins. absurd (false≢true (sym (same_posting actor j k h e there a.0) ∙ begins))) well))

  -- behind the posts of a posting
  pub well_by_posts : (actor j : ℕ) (h more : List Entry) → list_all (posts_for actor j) more ≡ true
      → ((e : Entry) → posts_for actor j e ≡ true → P j h e) → BeginWell P h → BeginWell P (h ++ more)
  well_by_posts actor j h [] all first well = subst (λ (x : List Entry). BeginWell P x) (sym (append-nil h)) well
  well_by_posts actor j h (e ∷ more) all first well =
      let a = and_parts (posts_for actor j e) (list_all (posts_for actor j) more) all in
      subst (λ (x : List Entry). BeginWell P x) (append_assoc h (e ∷ []) more)
      (well_by_same actor j (h ++ e ∷ []) more
      (list_any-append (posts_for actor j) h (e ∷ [])
      ∙ or_right (list_any (posts_for actor j) h) (list_any (posts_for actor j) (e ∷ []))
      (or_left (posts_for actor j e) false a.0))
      a.1
      (well_by_one h e (λ k begins. begun e k a.0 begins) well))
    where
      begun : (x : Entry) (k : ℕ) → posts_for actor j x ≡ true → begins_posting k h x ≡ true → P k h x
      begun x k is begins =
          subst (λ (m : ℕ). P m h x)
          (one_posting actor x.actor j k x is (and_parts (posts_for x.actor k x) (not (list_any (posts_for x.actor k) h)) begins).0).1
          (first x is)
