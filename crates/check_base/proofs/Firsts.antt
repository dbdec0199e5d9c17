-- Texts and names that are taken once each, where they first stand.
use Rattle.std.proofs.Common.{◌≡◌, ℕ, Bool, true, false, List, [], ◌∷◌, ◌++◌, map, refl, ap, sym, ◌∙◌, bytes_eq, append_assoc, append-nil}
use Rattle.std.specs.Prelude.{◌||◌, if◌then◌else◌}
use Rattle.std.proofs.lemmas.Slice.Eq.{bytes_eq-Decides}
use Rattle.behaviour_tree.specs.Distinct.{is_in}
use Rattle.jolie_ast.specs.declared.name.Name.{Name}
use Rattle.check_base.specs.Repeated.{first_names, firsts, Texts, with_text, with_texts}
use Rattle.check_base.specs.OnceEach.{first_names_after, firsts_after, each_once_after}
use Rattle.check_base.specs.Files.{Operation, each_once}
use Rattle.check_base.proofs.Repetitions.{in_any_order, or_false}

-- a text that is there adds nothing
pub known_text : (ts : Texts) (t : List ℕ) → is_in t ts ≡ true → ts ≡ with_text ts t
unfolding with_text
known_text ts t known = sym (ap (λ b. if b then ts else ts ++ t ∷ []) known)

-- a text that is not there comes behind the others
pub new_text : (ts : Texts) (t : List ℕ) → is_in t ts ≡ false → ts ++ t ∷ [] ≡ with_text ts t
unfolding with_text
new_text ts t new = sym (ap (λ b. if b then ts else ts ++ t ∷ []) new)

-- the order of two tests does not matter
pub either_way : (a b c : Bool) → (a || (b || c)) ≡ (b || (a || c))
either_way true true c = refl
either_way true false c = refl
either_way false true c = refl
either_way false false c = refl

-- a text among others with one behind them
pub in_behind : (x t : List ℕ) (ts : Texts) → is_in x (ts ++ t ∷ []) ≡ (bytes_eq t x || is_in x ts)
in_behind x t [] = refl
in_behind x t (s ∷ ts) = ap (λ b. bytes_eq s x || b) (in_behind x t ts) ∙ either_way (bytes_eq s x) (bytes_eq t x) (is_in x ts)

-- a text that is there already adds nothing
pub again : (b : Bool) (x t : List ℕ) (ts : Texts) → bytes_eq t x ≡ b → is_in t ts ≡ true → (b || is_in x ts) ≡ is_in x ts
again true x t ts same there = sym (ap (λ y. is_in y ts) (sym ((bytes_eq-Decides t x).0 same)) ∙ there)
again false x t ts other there = refl

-- a text and then those behind it
pub firsts_turn : (b : Bool) (before acc : Texts) (t : List ℕ) (ts : Texts) → is_in t before ≡ b → ((x : List ℕ) → is_in x before ≡ is_in x acc)
    → ((next : Texts) → ((x : List ℕ) → is_in x (t ∷ before) ≡ is_in x next) → next ++ firsts_after (t ∷ before) ts ≡ with_texts next ts)
    → acc ++ ((if b then [] else t ∷ []) ++ firsts_after (t ∷ before) ts) ≡ with_texts (if b then acc else acc ++ t ∷ []) ts
firsts_turn true before acc t ts there same rest = rest acc (λ x. again (bytes_eq t x) x t before refl there ∙ same x)
firsts_turn false before acc t ts there same rest =
    sym (append_assoc acc (t ∷ []) (firsts_after (t ∷ before) ts))
    ∙ rest (acc ++ t ∷ []) (λ x. ap (λ b. bytes_eq t x || b) (same x) ∙ sym (in_behind x t acc))

-- texts behind others, each where it first stands
pub firsts_behind : (before acc : Texts) (ts : Texts) → ((x : List ℕ) → is_in x before ≡ is_in x acc) → acc ++ firsts_after before ts ≡ with_texts acc ts
unfolding with_text
firsts_behind before acc [] same = append-nil acc
firsts_behind before acc (t ∷ ts) same =
    firsts_turn (is_in t before) before acc t ts refl same (λ next known. firsts_behind (t ∷ before) next ts known)
    ∙ ap (λ b. with_texts (if b then acc else acc ++ t ∷ []) ts) (same t)

-- each text once is what is taken one after the other
pub with_none : (ts : Texts) → with_texts [] ts ≡ firsts ts
with_none ts = sym (firsts_behind [] [] ts (λ x. refl))

-- the name of an operation that may be left out
pub one_text : (b : Bool) (o : Operation) (os : List Operation) → map (λ (o : Operation). o.name.text) ((if b then [] else o ∷ []) ++ os) ≡ (if b then [] else o.name.text ∷ []) ++ map (λ (o : Operation). o.name.text) os
one_text true o os = refl
one_text false o os = refl

-- the names of operations that are taken once each
pub once_texts : (before : Texts) (os : List Operation) → map (λ (o : Operation). o.name.text) (each_once_after before os) ≡ firsts_after before (map (λ (o : Operation). o.name.text) os)
once_texts before [] = refl
once_texts before (o ∷ os) =
    one_text (is_in o.name.text before) o (each_once_after (o.name.text ∷ before) os)
    ∙ ap (λ ts. (if is_in o.name.text before then [] else o.name.text ∷ []) ++ ts) (once_texts (o.name.text ∷ before) os)

-- the names of operations that are taken one after the other are those of the operations once each
pub once_taken : (os : List Operation) → with_texts [] (map (λ (o : Operation). o.name.text) os) ≡ map (λ (o : Operation). o.name.text) (each_once os)
once_taken os = with_none (map (λ (o : Operation). o.name.text) os) ∙ sym (once_texts [] os)

-- ---- names that are taken once each

-- a name, but not one that is known
abbrev pub unless_known : Bool → Name → List Name
unless_known known n = if known then [] else n ∷ []

-- one name more behind others
pub first_names_behind : (before : List (List ℕ)) (ns : List Name) (n : Name) → first_names_after before (ns ++ n ∷ []) ≡ first_names_after before ns ++ unless_known (is_in n.text before || is_in n.text (map (λ (m : Name). m.text) ns)) n
first_names_behind before [] n = append-nil (unless_known (is_in n.text before) n) ∙ ap (λ b. unless_known b n) (sym (or_false (is_in n.text before)))
first_names_behind before (m ∷ ns) n =
    ap (λ rest. unless_known (is_in m.text before) m ++ rest) (first_names_behind (m.text ∷ before) ns n)
    ∙ ap (λ b. unless_known (is_in m.text before) m ++ (first_names_after (m.text ∷ before) ns ++ unless_known b n)) (in_any_order (bytes_eq m.text n.text) (is_in n.text before) (is_in n.text (map (λ (m : Name). m.text) ns)))
    ∙ sym (append_assoc (unless_known (is_in m.text before) m) (first_names_after (m.text ∷ before) ns) (unless_known (is_in n.text before || is_in n.text (map (λ (m : Name). m.text) (m ∷ ns))) n))

-- a turn of a loop that takes names once each
pub firsts_more : (fs gs ns ms : List Name) (n : Name) (known : Bool) → ms ≡ ns ++ n ∷ [] → known ≡ is_in n.text (map (λ (m : Name). m.text) ns) → fs ≡ first_names ns → gs ≡ fs ++ unless_known known n → gs ≡ first_names ms
firsts_more fs gs ns ms n known more there before turn =
    turn
    ∙ ap (λ xs. xs ++ unless_known known n) before
    ∙ ap (λ b. first_names ns ++ unless_known b n) there
    ∙ sym (first_names_behind [] ns n)
    ∙ ap first_names (sym more)
