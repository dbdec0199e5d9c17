-- The names of a file are well formed: the standard ones stand first, none stands twice, and each that the file mentions is there.
use Rattle.std.proofs.Common.{◌≡◌, ℕ, Bool, true, false, List, [], ◌∷◌, ◌++◌, flat_map, refl, ap, sym, ◌∙◌, bytes_eq}
use Rattle.std.specs.Prelude.{not, ◌||◌, if◌then◌else◌}
use Rattle.std.specs.List.{list_all}
use Rattle.std.proofs.lemmas.Bool.{and_from, or_left, or_right, or_from, not_from_false, false≢true}
use Rattle.std.proofs.lemmas.Slice.Eq.{bytes_eq-Decides}
use Rattle.jolie_ast.specs.declared.tree.Definition.{Definition}
use Rattle.behaviour_tree.specs.Distinct.{texts_differ, is_in}
use Rattle.behaviour_tree.specs.WellFormed.{begin_with, standard_names, are_names}
use Rattle.check_base.specs.Repeated.{firsts}
use Rattle.check_base.specs.OnceEach.{firsts_after}
use Rattle.service_check.specs.Mentioned.{definition_texts, standard, names_of}
use Rattle.service_check.proofs.Emptied.{another_text, in_first, in_last, all_are_in}

-- ---- texts that are taken once each

free_turn : (b : Bool) (x t : List ℕ) (before rest : List (List ℕ)) → is_in t before ≡ b → is_in x before ≡ true → is_in x rest ≡ false → is_in x ((if b then [] else t ∷ []) ++ rest) ≡ false
free_turn true x t before rest known there free = free
free_turn false x t before rest new there free = or_from (bytes_eq t x) (is_in x rest) (another_text (bytes_eq t x) t x before refl new there) free

-- a text that is among those before is not taken
pub not_taken : (x : List ℕ) (before ts : List (List ℕ)) → is_in x before ≡ true → is_in x (firsts_after before ts) ≡ false
not_taken x before [] there = refl
not_taken x before (t ∷ ts) there =
    free_turn (is_in t before) x t before (firsts_after (t ∷ before) ts) refl there (not_taken x (t ∷ before) ts (or_right (bytes_eq t x) (is_in x before) there))

differ_turn : (b : Bool) (t : List ℕ) (rest : List (List ℕ)) → is_in t rest ≡ false → texts_differ rest ≡ true → texts_differ ((if b then [] else t ∷ []) ++ rest) ≡ true
differ_turn true t rest new differ = differ
differ_turn false t rest new differ = and_from (not (is_in t rest)) (texts_differ rest) (not_from_false (is_in t rest) new) differ

-- texts that are taken once each differ
pub taken_differ : (before ts : List (List ℕ)) → texts_differ (firsts_after before ts) ≡ true
taken_differ before [] = refl
taken_differ before (t ∷ ts) =
    differ_turn (is_in t before) t (firsts_after (t ∷ before) ts) (not_taken t (t ∷ before) ts (in_first t before)) (taken_differ (t ∷ before) ts)

taken_here : (b : Bool) (x t : List ℕ) (rest : List (List ℕ)) → b ≡ false → bytes_eq t x ≡ true → is_in x ((if b then [] else t ∷ []) ++ rest) ≡ true
taken_here true x t rest new same = absurd (false≢true (sym new))
taken_here false x t rest new same = or_left (bytes_eq t x) (is_in x rest) same

taken_behind : (b : Bool) (x t : List ℕ) (rest : List (List ℕ)) → is_in x rest ≡ true → is_in x ((if b then [] else t ∷ []) ++ rest) ≡ true
taken_behind true x t rest there = there
taken_behind false x t rest there = or_right (bytes_eq t x) (is_in x rest) there

taken_turn : (c : Bool) (x t : List ℕ) (before ts : List (List ℕ)) → bytes_eq t x ≡ c → is_in x before ≡ false → (bytes_eq t x ≡ false → is_in x (firsts_after (t ∷ before) ts) ≡ true) → is_in x (firsts_after before (t ∷ ts)) ≡ true
taken_turn true x t before ts same new rest =
    taken_here (is_in t before) x t (firsts_after (t ∷ before) ts) (ap (λ y. is_in y before) ((bytes_eq-Decides t x).0 same) ∙ new) same
taken_turn false x t before ts other new rest = taken_behind (is_in t before) x t (firsts_after (t ∷ before) ts) (rest other)

-- a text that is new is taken
pub is_taken : (x : List ℕ) (before ts : List (List ℕ)) → is_in x before ≡ false → is_in x ts ≡ true → is_in x (firsts_after before ts) ≡ true
is_taken x before [] new there = there
is_taken x before (t ∷ ts) new there =
    taken_turn (bytes_eq t x) x t before ts refl new (λ other. is_taken x (t ∷ before) ts (or_from (bytes_eq t x) (is_in x before) other new) (ap (λ b. b || is_in x ts) (sym other) ∙ there))

-- ---- the names of a file

-- the standard names stand first
pub standard_first : (ts : List (List ℕ)) → begin_with standard_names (firsts (standard ++ ts)) ≡ true
unfolding standard
standard_first ts = refl

-- the names are well formed
pub names_formed : (file : List Definition) → are_names (names_of file) ≡ true
unfolding names_of
names_formed file =
    and_from (begin_with standard_names (firsts (standard ++ flat_map definition_texts file))) (texts_differ (firsts (standard ++ flat_map definition_texts file)))
    (standard_first (flat_map definition_texts file)) (taken_differ [] (standard ++ flat_map definition_texts file))

-- each text that the file mentions is among the names
pub all_named : (file : List Definition) → list_all (λ t. is_in t (names_of file)) (flat_map definition_texts file) ≡ true
unfolding names_of
all_named file =
    all_are_in (firsts (standard ++ flat_map definition_texts file)) (flat_map definition_texts file)
    (λ x there. is_taken x [] (standard ++ flat_map definition_texts file) refl (in_last x standard (flat_map definition_texts file) there))
