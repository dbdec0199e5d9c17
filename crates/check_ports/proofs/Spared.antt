-- Operations that are kept short are refused as all of them are.
use Rattle.std.proofs.Common.{◌≡◌, ℕ, Bool, true, false, List, [], ◌∷◌, ◌++◌, map, Option, Some, None, refl, ap, sym, ◌∙◌, subst, bytes_eq, append_assoc, append-nil}
use Rattle.std.specs.Prelude.{◌||◌, if◌then◌else◌}
use Rattle.std.proofs.lemmas.Bool.{or_left, or_right, false≢true}
use Rattle.std.proofs.lemmas.List.Folds.{list_any-append}
use Rattle.std.proofs.lemmas.Slice.Eq.{bytes_eq-Decides}
use Rattle.jolie_ast.specs.declared.name.Name.{Name}
use Rattle.jolie_ast.specs.declared.interface.Interface.{Interface}
use Rattle.jolie_ast.specs.declared.service.Port.{Port}
use Rattle.behaviour_tree.specs.Distinct.{is_in}
use Rattle.check_base.specs.declared.refusal.CheckName.TheVariants.{DuplicateName}
use Rattle.check_base.specs.declared.refusal.Refusal.{Refusal}
use Rattle.check_base.specs.Files.{Operation, operations_named}
use Rattle.check_base.specs.Least.{comes_first, joined, offered, refusal, refused}
use Rattle.check_ports.specs.PortRules.{brought, brought_by, brought_in, operation_at}
use Rattle.check_ports.specs.PortParts.{brought_unless}
use Rattle.check_base.specs.Repeated.{repeated, repeated_after}
use Rattle.check_ports.specs.Spared.{first_alone, spared, spared_after, spared_in, spared_unless}
use Rattle.check_base.proofs.Joined.{joined_append, refused_append}
use Rattle.check_base.proofs.Repetitions.{second}
use Rattle.check_base.proofs.Loops.{mapped_twice}
use Rattle.check_base.proofs.Firsts.{again as known_again, either_way}

-- ---- a refusal that is offered again

either_is : (b : Bool) (r : Refusal) → (if b then r else r) ≡ r
either_is true r = refl
either_is false r = refl

again_by : (b : Bool) (so r : Refusal) → comes_first so r ≡ b → offered (Some (if b then so else r)) r ≡ Some (if b then so else r)
again_by true so r e = ap (λ (c : Bool). Some (if c then so else r)) e
again_by false so r e = ap Some (either_is (comes_first r r) r)

-- what is offered again changes nothing
pub offered_again : (p : Option Refusal) (r : Refusal) → offered (offered p r) r ≡ offered p r
offered_again None r = ap Some (either_is (comes_first r r) r)
offered_again (Some so) r = again_by (comes_first so r) so r refl

-- ---- texts that are there

-- a text among two lists is in one of them
in_either : (x : List ℕ) (ts us : List (List ℕ)) → is_in x (ts ++ us) ≡ (is_in x ts || is_in x us)
in_either x ts us = list_any-append (λ t. bytes_eq t x) ts us

-- the same texts are there
abbrev pub Same : List (List ℕ) → List (List ℕ) → Type 0
Same ts us = (x : List ℕ) → is_in x ts ≡ is_in x us

-- texts are among others
abbrev pub Among : List (List ℕ) → List (List ℕ) → Type 0
Among ts us = (x : List ℕ) → is_in x ts ≡ true → is_in x us ≡ true

one_more : (a t u : Bool) → (t ≡ true → u ≡ true) → (a || t) ≡ true → (a || u) ≡ true
one_more true t u h e = refl
one_more false t u h e = h e

-- one text more on both sides
among_more : (t : List ℕ) (ts us : List (List ℕ)) → Among ts us → Among (t ∷ ts) (t ∷ us)
among_more t ts us among = λ x. one_more (bytes_eq t x) (is_in x ts) (is_in x us) (among x)

-- texts are among themselves with one more
among_one_more : (t : List ℕ) (ts us : List (List ℕ)) → Among ts us → Among ts (t ∷ us)
among_one_more t ts us among = λ x e. or_right (bytes_eq t x) (is_in x us) (among x e)

-- a text that is there already adds nothing
same_again : (t : List ℕ) (ts us : List (List ℕ)) → Same ts us → is_in t ts ≡ true → Same (t ∷ ts) us
same_again t ts us same there = λ x. known_again (bytes_eq t x) x t ts refl there ∙ same x

-- a text may stand before or between
moved : (t : List ℕ) (ts us : List (List ℕ)) → Among (t ∷ ts ++ us) (ts ++ t ∷ us)
moved t ts us = λ x e.
    in_either x ts (t ∷ us)
    ∙ sym (either_way (bytes_eq t x) (is_in x ts) (is_in x us))
    ∙ ap (λ b. bytes_eq t x || b) (sym (in_either x ts us))
    ∙ e

-- ---- names of which the same is refused

-- the texts of names
abbrev pub texts : List Name → List (List ℕ)
texts ns = map (λ (n : Name). n.text) ns

-- the same is refused of names that stand a second time, behind texts among which known ones are
abbrev pub Alike : List (List ℕ) → List Name → List Name → Type 0
Alike known xs ys = (p : Option Refusal) (b c : List (List ℕ)) → Same b c → Among known b → joined p (refused DuplicateName (repeated_after b xs)) ≡ joined p (refused DuplicateName (repeated_after c ys))

-- the first name, and then the others
first_name : (p : Option Refusal) (b : List (List ℕ)) (n : Name) (xs : List Name)
    → joined p (refused DuplicateName (repeated_after b (n ∷ xs))) ≡ joined (joined p (refused DuplicateName (second (is_in n.text b) n))) (refused DuplicateName (repeated_after (n.text ∷ b) xs))
first_name p b n xs =
    ap (joined p) (refused_append DuplicateName (second (is_in n.text b) n) (repeated_after (n.text ∷ b) xs))
    ∙ joined_append p (refused DuplicateName (second (is_in n.text b) n)) (refused DuplicateName (repeated_after (n.text ∷ b) xs))

alike_more : (known : List (List ℕ)) (n : Name) (xs ys : List Name) → Alike (n.text ∷ known) xs ys → Alike known (n ∷ xs) (n ∷ ys)
alike_more known n xs ys alike = λ p b c same among.
    first_name p b n xs
    ∙ ap (λ k. joined (joined p (refused DuplicateName (second k n))) (refused DuplicateName (repeated_after (n.text ∷ b) xs))) (same n.text)
    ∙ alike (joined p (refused DuplicateName (second (is_in n.text c) n))) (n.text ∷ b) (n.text ∷ c) (λ x. ap (λ k. bytes_eq n.text x || k) (same x)) (among_more n.text known b among)
    ∙ sym (first_name p c n ys)

alike_knowing : (known more : List (List ℕ)) (xs ys : List Name) → Among known more → Alike known xs ys → Alike more xs ys
alike_knowing known more xs ys within alike = λ p b c same among. alike p b c same (λ x e. among x (within x e))

-- the same names before
alike_behind : (ns : List Name) (known : List (List ℕ)) (xs ys : List Name) → Alike (texts ns ++ known) xs ys → Alike known (ns ++ xs) (ns ++ ys)
alike_behind [] known xs ys alike = alike
alike_behind (n ∷ ns) known xs ys alike =
    alike_more known n (ns ++ xs) (ns ++ ys)
    (alike_behind ns (n.text ∷ known) xs ys (alike_knowing (n.text ∷ texts ns ++ known) (texts ns ++ n.text ∷ known) xs ys (moved n.text (texts ns) known) alike))

-- the texts of operations
abbrev pub operation_texts : List Operation → List (List ℕ)
operation_texts os = map (λ (o : Operation). o.name.text) os

-- operations at a place that is refused already add nothing where they are known
alike_again : (os : List Operation) (at : ℕ) (known : List (List ℕ)) (xs ys : List Name) → Among (operation_texts os) known → Alike known xs ys
    → (p : Option Refusal) (b c : List (List ℕ)) → offered p (refusal DuplicateName at) ≡ p → Same b c → Among known b
    → joined p (refused DuplicateName (repeated_after b (map (operation_at at) os ++ xs))) ≡ joined p (refused DuplicateName (repeated_after c ys))
alike_again [] at known xs ys within alike p b c again same among = alike p b c same among
alike_again (o ∷ os) at known xs ys within alike p b c again same among =
    let there : is_in o.name.text b ≡ true = among o.name.text (within o.name.text (or_left (bytes_eq o.name.text o.name.text) (is_in o.name.text (operation_texts os)) ((bytes_eq-Decides o.name.text o.name.text).1 refl))) in
    first_name p b (operation_at at o) (map (operation_at at) os ++ xs)
    ∙ ap (λ k. joined (joined p (refused DuplicateName (second k (operation_at at o)))) (refused DuplicateName (repeated_after (o.name.text ∷ b) (map (operation_at at) os ++ xs)))) there
    ∙ ap (λ q. joined q (refused DuplicateName (repeated_after (o.name.text ∷ b) (map (operation_at at) os ++ xs)))) again
    ∙ alike_again os at known xs ys (λ x e. within x (or_right (bytes_eq o.name.text x) (is_in x (operation_texts os)) e)) alike p (o.name.text ∷ b) c again (same_again o.name.text b c same there) (among_one_more o.name.text known b among)

-- operations that are known are refused as the first of them is
alike_first : (os : List Operation) (at : ℕ) (known : List (List ℕ)) (xs ys : List Name) → Among (operation_texts os) known → Alike known xs ys → Alike known (map (operation_at at) os ++ xs) (first_alone (map (operation_at at) os) ++ ys)
alike_first [] at known xs ys within alike = alike
alike_first (o ∷ os) at known xs ys within alike = λ p b c same among.
    let here : is_in o.name.text known ≡ true = within o.name.text (or_left (bytes_eq o.name.text o.name.text) (is_in o.name.text (operation_texts os)) ((bytes_eq-Decides o.name.text o.name.text).1 refl)) in
    let there : is_in o.name.text b ≡ true = among o.name.text here in
    first_name p b (operation_at at o) (map (operation_at at) os ++ xs)
    ∙ ap (λ k. joined (joined p (refused DuplicateName (second k (operation_at at o)))) (refused DuplicateName (repeated_after (o.name.text ∷ b) (map (operation_at at) os ++ xs)))) there
    ∙ alike_again os at known xs ys (λ x e. within x (or_right (bytes_eq o.name.text x) (is_in x (operation_texts os)) e)) alike
    (offered p (refusal DuplicateName at)) (o.name.text ∷ b) (o.name.text ∷ c) (offered_again p (refusal DuplicateName at))
    (λ x. ap (λ k. bytes_eq o.name.text x || k) (same x)) (among_one_more o.name.text known b among)
    ∙ ap (λ k. joined (joined p (refused DuplicateName (second k (operation_at at o)))) (refused DuplicateName (repeated_after (o.name.text ∷ c) ys))) (sym (sym (same o.name.text) ∙ there))
    ∙ sym (first_name p c (operation_at at o) ys)

-- ---- names of interfaces

-- the operations of the interfaces that were named, but those among others, are known
abbrev pub Known : List Interface → List (List ℕ) → List (List ℕ) → List (List ℕ) → Type 0
Known is others seen known = (t : List ℕ) → is_in t seen ≡ true → is_in t others ≡ false → Among (operation_texts (operations_named is t)) known

-- a text among others with one behind them
seen_more : (t u : List ℕ) (seen : List (List ℕ)) (b : Bool) → bytes_eq u t ≡ b → is_in t (seen ++ u ∷ []) ≡ true → (is_in t seen ≡ false) → u ≡ t
seen_more t u seen true same e fresh = (bytes_eq-Decides u t).0 same
seen_more t u seen false other e fresh =
    absurd (false≢true (sym (in_either t seen (u ∷ []) ∙ ap (λ b. b || (bytes_eq u t || false)) fresh ∙ ap (λ b. b || false) other) ∙ e))

known_case : (is : List Interface) (others seen known : List (List ℕ)) (u t : List ℕ) (b : Bool) → is_in t seen ≡ b → Known is others seen known → (is_in u others ≡ false → Among (operation_texts (operations_named is u)) known)
    → is_in t (seen ++ u ∷ []) ≡ true → is_in t others ≡ false → Among (operation_texts (operations_named is t)) known
known_case is others seen known u t true there before now e out = before t there out
known_case is others seen known u t false fresh before now e out =
    subst (λ s. is_in s others ≡ false → Among (operation_texts (operations_named is s)) known) (seen_more t u seen (bytes_eq u t) refl e fresh) now out

-- one name more
known_more : (is : List Interface) (others seen known : List (List ℕ)) (u : List ℕ) → Known is others seen known → (is_in u others ≡ false → Among (operation_texts (operations_named is u)) known) → Known is others (seen ++ u ∷ []) known
known_more is others seen known u before now = λ t. known_case is others seen known u t (is_in t seen) refl before now

-- the texts of operations at a place
texts_at : (at : ℕ) (os : List Operation) → texts (map (operation_at at) os) ≡ operation_texts os
texts_at at os = mapped_twice (λ (n : Name). n.text) (operation_at at) os

spared_step : (is : List Interface) (others : List (List ℕ)) (n : Name) (seen known : List (List ℕ)) (xs ys : List Name) (ko ks : Bool) → is_in n.text others ≡ ko → is_in n.text seen ≡ ks → Known is others seen known
    → ((more : List (List ℕ)) → Known is others (seen ++ n.text ∷ []) more → Alike more xs ys)
    → Alike known ((if ko then [] else brought_by is n) ++ xs) ((if ko then [] else if ks then first_alone (brought_by is n) else brought_by is n) ++ ys)
spared_step is others n seen known xs ys true ks other here before rest =
    rest known (known_more is others seen known n.text before (λ out. absurd (false≢true (sym out ∙ other))))
spared_step is others n seen known xs ys false true out here before rest =
    alike_first (operations_named is n.text) n.at known xs ys (before n.text here out) (rest known (known_more is others seen known n.text before (λ _. before n.text here out)))
spared_step is others n seen known xs ys false false out fresh before rest =
    let ts : List (List ℕ) = texts (brought_by is n) in
    alike_behind (brought_by is n) known xs ys
    (rest (ts ++ known)
    (known_more is others seen (ts ++ known) n.text
    (λ t there other x e. in_either x ts known ∙ or_right (is_in x ts) (is_in x known) (before t there other x e))
    (λ _ x e. in_either x ts known ∙ or_left (is_in x ts) (is_in x known) (ap (is_in x) (texts_at n.at (operations_named is n.text)) ∙ e))))

alike_grouped : (known : List (List ℕ)) (us vs xs ws zs ys : List Name) → Alike known (us ++ (vs ++ xs)) (ws ++ (zs ++ ys)) → Alike known ((us ++ vs) ++ xs) ((ws ++ zs) ++ ys)
alike_grouped known us vs xs ws zs ys alike = λ p b c same among.
    ap (λ ns. joined p (refused DuplicateName (repeated_after b ns))) (append_assoc us vs xs)
    ∙ alike p b c same among
    ∙ ap (λ ns. joined p (refused DuplicateName (repeated_after c ns))) (sym (append_assoc ws zs ys))

-- what a port brings is refused as what is kept of it
spared_alike : (is : List Interface) (others : List (List ℕ)) (ns : List Name) (seen known : List (List ℕ)) (xs ys : List Name) → Known is others seen known → Alike [] xs ys
    → Alike known (brought is others ns ++ xs) (spared_after is others seen ns ++ ys)
spared_alike is others [] seen known xs ys before alike = alike_knowing [] known xs ys (λ x e. absurd (false≢true e)) alike
spared_alike is others (n ∷ ns) seen known xs ys before alike =
    alike_grouped known (brought_unless is others n) (brought is others ns) xs (spared_unless is others seen n) (spared_after is others (seen ++ n.text ∷ []) ns) ys
    (spared_step is others n seen known (brought is others ns ++ xs) (spared_after is others (seen ++ n.text ∷ []) ns ++ ys) (is_in n.text others) (is_in n.text seen) refl refl before
    (λ more known_then. spared_alike is others ns (seen ++ n.text ∷ []) more xs ys known_then alike))

nothing_known : (is : List Interface) (others : List (List ℕ)) → Known is others [] []
nothing_known is others = λ t e out. absurd (false≢true e)

nothing_alike : Alike [] [] []
nothing_alike = λ p b c same among. refl

-- what input ports bring is refused as what is kept of it
spared_in_alike : (is : List Interface) (ports : List Port) (earlier : List (List ℕ)) → Alike [] (brought_in is earlier ports) (spared_in is earlier ports)
spared_in_alike is [] earlier = nothing_alike
spared_in_alike is (p ∷ ports) earlier =
    spared_alike is earlier p.interfaces [] [] (brought_in is (earlier ++ texts p.interfaces) ports) (spared_in is (earlier ++ texts p.interfaces) ports) (nothing_known is earlier) (spared_in_alike is ports (earlier ++ texts p.interfaces))

pub input_spared : (so : Option Refusal) (is : List Interface) (ports : List Port) → joined so (refused DuplicateName (repeated (spared_in is [] ports))) ≡ joined so (refused DuplicateName (repeated (brought_in is [] ports)))
input_spared so is ports = sym (spared_in_alike is ports [] so [] [] (λ x. refl) (λ x e. e))

pub output_spared : (so : Option Refusal) (is : List Interface) (ns : List Name) → joined so (refused DuplicateName (repeated (spared is [] ns))) ≡ joined so (refused DuplicateName (repeated (brought is [] ns)))
output_spared so is ns =
    ap (λ ms. joined so (refused DuplicateName (repeated ms))) (sym (append-nil (spared is [] ns)))
    ∙ sym (spared_alike is [] ns [] [] [] [] (nothing_known is []) nothing_alike so [] [] (λ x. refl) (λ x e. e))
    ∙ ap (λ ms. joined so (refused DuplicateName (repeated ms))) (append-nil (brought is [] ns))
