-- A message is noted in the book: where it came from, and how it stands with it from the start.
use Rattle.std.proofs.Common.{◌≡◌, ◌≢◌, ℕ, zero, suc, Bool, true, false, not, ◌&&◌, List, [], ◌∷◌, ◌++◌, length, refl, sym, ap, ◌∙◌, Option, None, Some, option_map, true≢false}
use Rattle.std.specs.Prelude.{nat_eq, slice_get, if◌then◌else◌}
use Rattle.jolie_trees.specs.Trees.{void_tree}
use Rattle.behaviour_tree.specs.declared.words.Outcome.{Outcome}
use Rattle.behaviour_tree.specs.declared.words.Outcome.TheVariants as outcome
use Rattle.reqresp_book.specs.declared.book.Book.{Book}
use Rattle.reqresp_book.specs.declared.place.Standing.{Standing}
use Rattle.reqresp_book.specs.declared.place.Standing.TheVariants.{Open, Answered}
use Rattle.reqresp_book.specs.View.{standing_of, origin_of}
use Rattle.office_core.specs.declared.message.Message.{Message}
use Rattle.office_core.specs.Limits.{Setting}
use Rattle.office_core.specs.Past.{Past, some_entry, stops}
use Rattle.office_core.specs.Sessions.{has_ended}
use Rattle.office_core.specs.Boxes.{was_taken}
use Rattle.office_core.specs.Answers.{is_request, replies, answers_of}
use Rattle.office_core.proofs.OneAnswer.{Replied, none, once}
use Rattle.office_plain.specs.Accepting.{with_accepted, standing_first}
use Rattle.office_plain.specs.Stands.{standing_by, StandsSo}
use Rattle.office_plain.proofs.Births.{none_at_end}
use Rattle.office_plain.proofs.Lists.{same_of, none_not_some, eq_true, eq_false}
use Rattle.office_plain.proofs.Stays.{answers_by, by_parts}

-- ---- one more in a list

at_end : {A : Type 0} (xs : List A) (x : A) → slice_get (xs ++ x ∷ []) (length xs) ≡ Some x
at_end [] x = refl
at_end (y ∷ xs) x = at_end xs x

elsewhere : {A : Type 0} (xs : List A) (x : A) (j : ℕ) → j ≢ length xs → slice_get (xs ++ x ∷ []) j ≡ slice_get xs j
elsewhere [] x zero d = absurd (d refl)
elsewhere [] x (suc j) d = refl
elsewhere (y ∷ xs) x zero d = refl
elsewhere (y ∷ xs) x (suc j) d = elsewhere xs x j (λ e. d (ap suc e))

-- ---- where messages came from

pub origins_come : (past : Past) (n : ℕ) (m : Message) (old new : Book) → n ≡ length past.messages
    → ((j : ℕ) → origin_of old j ≡ option_map (λ (x : Message). x.origin) (slice_get past.messages j))
    → origin_of new n ≡ Some m.origin → ((j : ℕ) → j ≢ n → origin_of new j ≡ origin_of old j)
    → (j : ℕ)
    → origin_of new j ≡ option_map (λ (x : Message). x.origin) (slice_get (with_accepted past (Some m)).messages j)
origins_come past n m old new number tied noted others j = by (nat_eq j n) refl
  where
    by : (b : Bool) → nat_eq j n ≡ b
        → origin_of new j ≡ option_map (λ (x : Message). x.origin) (slice_get (past.messages ++ m ∷ []) j)
    by true e =
        ap (origin_of new) (eq_true j n e) ∙ noted
        ∙ sym (ap (option_map (λ (x : Message). x.origin))
        (ap (slice_get (past.messages ++ m ∷ [])) (eq_true j n e ∙ number) ∙ at_end past.messages m))
    by false e =
        others j (eq_false j n e) ∙ tied j
        ∙ sym (ap (option_map (λ (x : Message). x.origin))
        (elsewhere past.messages m j (λ q. eq_false j n e (q ∙ sym number))))

-- ---- how it stands

-- a number that no message has was replied to by none
never_replied : (w : Setting) (past : Past) (n : ℕ) → Replied w past n → n ≡ length past.messages → replies past n ≡ []
never_replied w past n (none r) number = r
never_replied w past n (once o m r taken there request) number =
    absurd (none_not_some m (sym (ap (slice_get past.messages) number ∙ none_at_end past.messages) ∙ there))

-- from the start
first_standing : (request taken : Bool) → standing_by (answers_by request [] false taken) ≡ standing_first request
first_standing true taken = refl
first_standing false taken = refl

pub standings_come : (w : Setting) (past : Past) (n : ℕ) (m : Message) (old new : Book) → n ≡ length past.messages
    → some_entry past stops ≡ false → has_ended past m.session ≡ false → Replied w past n → StandsSo w past old
    → standing_of new n ≡ Some (standing_first (is_request w m))
    → ((j : ℕ) → j ≢ n → standing_of new j ≡ standing_of old j)
    → StandsSo w (with_accepted past (Some m)) new
standings_come w past n m old new number running lives replied stands noted others j x there unhanded =
    by (nat_eq j n) refl
  where
    come : Past
    come = with_accepted past (Some m)

    first : answers_of w come n m ≡ answers_by (is_request w m) [] false (was_taken past n)
    first =
        by_parts w come n m running
        ∙ (λ i. answers_by (is_request w m) (never_replied w past n replied number i) (lives i) (was_taken past n))

    by : (b : Bool) → nat_eq j n ≡ b → standing_of new j ≡ Some (standing_by (answers_of w come j x))
    by true e =
        let at_n : slice_get (past.messages ++ m ∷ []) j ≡ Some m =
        ap (slice_get (past.messages ++ m ∷ [])) (eq_true j n e ∙ number) ∙ at_end past.messages m in
        let is_m : x ≡ m = same_of x m (sym there ∙ at_n) in
        ap (standing_of new) (eq_true j n e) ∙ noted
        ∙ sym (ap (λ q. Some (standing_by (answers_of w come q x))) (eq_true j n e)
        ∙ ap (λ y. Some (standing_by (answers_of w come n y))) is_m
        ∙ ap (λ os. Some (standing_by os)) first
        ∙ ap Some (first_standing (is_request w m) (was_taken past n)))
    by false e =
        others j (eq_false j n e)
        ∙ stands j x (sym (elsewhere past.messages m j (λ q. eq_false j n e (q ∙ sym number))) ∙ there) unhanded
