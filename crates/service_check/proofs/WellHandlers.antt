-- The keys of handlers of which none is refused differ.
use Rattle.std.proofs.Common.{◌≡◌, ℕ, suc, true, false, List, [], ◌∷◌, ◌++◌, map, flat_map, refl, ap, sym, ◌∙◌, bytes_eq, codes}
use Rattle.std.specs.Prelude.{not, nat_le}
use Rattle.std.proofs.lemmas.Bool.{and_from, and_parts, or_from, or_parts, not_from_false, false≢true, not-true}
use Rattle.jolie_ast.specs.declared.name.Name.{Name}
use Rattle.jolie_ast.specs.declared.process.Handler.{Handler, out-Handler}
use Rattle.jolie_ast.specs.declared.process.HandlerKey.{HandlerKey}
use Rattle.jolie_ast.specs.declared.process.HandlerKey.TheVariants as key
use Rattle.behaviour_tree.specs.Data as plain
use Rattle.behaviour_tree.specs.Data.{HandlerList, Proc}
use Rattle.behaviour_tree.specs.View.{HandlerView, handlers_of}
use Rattle.behaviour_tree.specs.Distinct.{numbers_differ, texts_differ, is_in}
use Rattle.behaviour_tree.specs.FormedBehaviours.{handler_faults, handlers_of_this, keys_differ}
use Rattle.check_base.specs.declared.refusal.CheckName.TheVariants.{DuplicateName}
use Rattle.check_base.specs.Least.{refused}
use Rattle.check_base.specs.Repeated.{repeated}
use Rattle.check_base.specs.Files.{place_in}
use Rattle.lower_processes.specs.Behaviours.{Numbering, key_of, lowered_handler, lowered_process}
use Rattle.service_check.specs.Mentioned.{key_texts}
use Rattle.check_processes.specs.ProcessParts.{handler_name}
use Rattle.check_processes.specs.ProcessRules.{key_name}
use Rattle.service_check.proofs.Emptied.{names_differ}
use Rattle.lower_processes.proofs.LoweredProcesses as means
use Rattle.service_check.proofs.WellInterfaces.{all_in, places_differ}
use Rattle.check_base.proofs.Loops.{mapped_twice}

-- ---- keys

-- the key of a handler
abbrev pub handler_key : Handler → HandlerKey
handler_key f = (out-Handler f).key

-- the names of keys
abbrev key_names : List HandlerKey → List (List ℕ)
key_names ks = map (λ (k : HandlerKey). (key_name k).text) ks

-- the faults among keys
abbrev pub fault_texts : List HandlerKey → List (List ℕ)
fault_texts ks = flat_map key_texts ks

-- what the body of a handler means
abbrev lowered_body : Numbering → Handler → Proc
lowered_body m f = lowered_process m (out-Handler f).body

-- how many keys are the scope's own
abbrev these : List HandlerKey → ℕ
these [] = 0
these (key.This at ∷ ks) = suc (these ks)
these (key.Named n ∷ ks) = these ks

fault_turn : (names : List (List ℕ)) (k : HandlerKey) (body : Proc) (rest : HandlerList) (ts : List (List ℕ)) → handler_faults rest ≡ map (place_in names) ts → handler_faults (plain.handler (key_of names k) body rest) ≡ map (place_in names) (key_texts k ++ ts)
fault_turn names (key.This at) body rest ts e = e
fault_turn names (key.Named n) body rest ts e = ap (λ ns. place_in names n.text ∷ ns) e

-- the faults of handlers
pub faults_are : (m : Numbering) (fs : List Handler) → handler_faults (handlers_of (map (lowered_handler m) fs)) ≡ map (place_in m.names) (fault_texts (map handler_key fs))
faults_are m [] = refl
faults_are m (f ∷ fs) =
    ap (λ (v : HandlerView). handler_faults (plain.handler v.key v.body (handlers_of (map (lowered_handler m) fs)))) (means.handler_is m f)
    ∙ fault_turn m.names (handler_key f) (lowered_body m f) (handlers_of (map (lowered_handler m) fs)) (fault_texts (map handler_key fs)) (faults_are m fs)

this_turn : (names : List (List ℕ)) (k : HandlerKey) (body : Proc) (rest : HandlerList) (ks : List HandlerKey) → handlers_of_this rest ≡ these ks → handlers_of_this (plain.handler (key_of names k) body rest) ≡ these (k ∷ ks)
this_turn names (key.This at) body rest ks e = ap suc e
this_turn names (key.Named n) body rest ks e = e

-- those for the scope itself
these_are : (m : Numbering) (fs : List Handler) → handlers_of_this (handlers_of (map (lowered_handler m) fs)) ≡ these (map handler_key fs)
these_are m [] = refl
these_are m (f ∷ fs) =
    ap (λ (v : HandlerView). handlers_of_this (plain.handler v.key v.body (handlers_of (map (lowered_handler m) fs)))) (means.handler_is m f)
    ∙ this_turn m.names (handler_key f) (lowered_body m f) (handlers_of (map (lowered_handler m) fs)) (map handler_key fs) (these_are m fs)

-- ---- keys that differ

-- a fault is among the names of keys
fault_is_name : (x : List ℕ) (ks : List HandlerKey) → is_in x (key_names ks) ≡ false → is_in x (fault_texts ks) ≡ false
fault_is_name x [] e = refl
fault_is_name x (key.This at ∷ ks) e = fault_is_name x ks (or_parts (bytes_eq (codes "this") x) (is_in x (key_names ks)) e).1
fault_is_name x (key.Named n ∷ ks) e =
    let parts : (bytes_eq n.text x ≡ false) × (is_in x (key_names ks) ≡ false) = or_parts (bytes_eq n.text x) (is_in x (key_names ks)) e in
    or_from (bytes_eq n.text x) (is_in x (fault_texts ks)) parts.0 (fault_is_name x ks parts.1)

faults_differ : (ks : List HandlerKey) → texts_differ (key_names ks) ≡ true → texts_differ (fault_texts ks) ≡ true
faults_differ [] e = refl
faults_differ (key.This at ∷ ks) e = faults_differ ks (and_parts (not (is_in (codes "this") (key_names ks))) (texts_differ (key_names ks)) e).1
faults_differ (key.Named n ∷ ks) e =
    let parts : (not (is_in n.text (key_names ks)) ≡ true) × (texts_differ (key_names ks) ≡ true) = and_parts (not (is_in n.text (key_names ks))) (texts_differ (key_names ks)) e in
    and_from (not (is_in n.text (fault_texts ks))) (texts_differ (fault_texts ks))
    (not_from_false (is_in n.text (fault_texts ks)) (fault_is_name n.text ks (not-true (is_in n.text (key_names ks)) parts.0)))
    (faults_differ ks parts.1)

none_of_these : (ks : List HandlerKey) → is_in (codes "this") (key_names ks) ≡ false → these ks ≡ 0
none_of_these [] e = refl
none_of_these (key.This at ∷ ks) e = absurd (false≢true (sym e))
none_of_these (key.Named n ∷ ks) e = none_of_these ks (or_parts (bytes_eq n.text (codes "this")) (is_in (codes "this") (key_names ks)) e).1

one_of_these : (ks : List HandlerKey) → texts_differ (key_names ks) ≡ true → nat_le (these ks) 1 ≡ true
one_of_these [] e = refl
one_of_these (key.This at ∷ ks) e =
    ap (λ n. nat_le (suc n) 1) (none_of_these ks (not-true (is_in (codes "this") (key_names ks)) (and_parts (not (is_in (codes "this") (key_names ks))) (texts_differ (key_names ks)) e).0))
one_of_these (key.Named n ∷ ks) e = one_of_these ks (and_parts (not (is_in n.text (key_names ks))) (texts_differ (key_names ks)) e).1

-- the keys of handlers of which none is refused, and whose faults are among the names
pub handler_keys : (m : Numbering) (fs : List Handler) → refused DuplicateName (repeated (map handler_name fs)) ≡ [] → all_in m.names (fault_texts (map handler_key fs)) ≡ true → keys_differ (handlers_of (map (lowered_handler m) fs)) ≡ true
handler_keys m fs none all =
    let ks : List HandlerKey = map handler_key fs in
    let differ : texts_differ (key_names ks) ≡ true =
    ap texts_differ (mapped_twice (λ (k : HandlerKey). (key_name k).text) handler_key fs ∙ sym (mapped_twice (λ (n : Name). n.text) handler_name fs)) ∙ names_differ DuplicateName (map handler_name fs) none in
    and_from (numbers_differ (handler_faults (handlers_of (map (lowered_handler m) fs)))) (nat_le (handlers_of_this (handlers_of (map (lowered_handler m) fs))) 1)
    (ap numbers_differ (faults_are m fs) ∙ places_differ m.names (fault_texts ks) (faults_differ ks differ) all)
    (ap (λ n. nat_le n 1) (these_are m fs) ∙ one_of_these ks differ)
