-- Operations that ports bring, name by name and port by port.
use Rattle.std.proofs.Common.{◌≡◌, ℕ, ◌+◌, ◌<◌, List, [], ◌∷◌, ◌++◌, map, length, get_or, take, drop, Option, Some, None, refl, ap, sym, ◌∙◌, flat_map, append_assoc, append-nil}
use Rattle.std.specs.Option.{option_to_list}
use Rattle.std.proofs.lemmas.List.{at_drop_more, take_more}
use Rattle.jolie_ast.specs.declared.name.Name.{Name}
use Rattle.jolie_ast.specs.declared.interface.Interface.{Interface}
use Rattle.jolie_ast.specs.declared.interface.OperationGroup.{OperationGroup}
use Rattle.jolie_ast.specs.declared.service.Port.{Port}
use Rattle.check_base.specs.Files.{Operation, first_there, group_operations}
use Rattle.check_ports.specs.PortRules.{group_at, operation_at}
use Rattle.check_base.specs.Repeated.{named}
use Rattle.check_ports.specs.Spared.{first_alone, group_texts, spared, spared_after, spared_in, spared_unless}
use Rattle.check_base.specs.MaybeThere.{if_there}
use Rattle.check_ports.proofs.BroughtGroups.{brought_groups}
use Rattle.check_ports.proofs.Spared.{texts}
use Rattle.check_base.proofs.Loops.{mapped_each}
use Rattle.check_base.proofs.FirstFound.{first_passes, first_stops}

-- ---- the first operation of an interface

-- a group without operations is passed
pub group_passes : (groups : List OperationGroup) (i : ℕ) (g : OperationGroup) → i < length groups → g ≡ get_or groups i g → first_there (group_texts g) ≡ None
    → first_there (flat_map group_texts (drop (i + 1) groups)) ≡ first_there (flat_map group_texts (drop i groups))
group_passes groups i g below item none =
    sym (at_drop_more (λ gs. first_there (flat_map group_texts gs)) groups i g below
    ∙ ap (λ h. first_there (group_texts h ++ flat_map group_texts (drop (i + 1) groups))) (sym item)
    ∙ first_passes (group_texts g) (flat_map group_texts (drop (i + 1) groups)) none)

-- the first operation is that of the first group with one
pub group_stops : (groups : List OperationGroup) (i : ℕ) (g : OperationGroup) (t : List ℕ) → i < length groups → g ≡ get_or groups i g → first_there (group_texts g) ≡ Some t
    → first_there (flat_map group_texts (drop i groups)) ≡ Some t
group_stops groups i g t below item some =
    at_drop_more (λ gs. first_there (flat_map group_texts gs)) groups i g below
    ∙ ap (λ h. first_there (group_texts h ++ flat_map group_texts (drop (i + 1) groups))) (sym item)
    ∙ first_stops (group_texts g) (flat_map group_texts (drop (i + 1) groups)) t some

-- the name of a thing that may be there, at a place
abbrev pub named_there : ℕ → Option (List ℕ) → List Name
named_there at None = []
named_there at (Some t) = named t at ∷ []

first_named : (at : ℕ) (os : List Operation) → first_alone (map (operation_at at) os) ≡ named_there at (first_there (map (λ (o : Operation). o.name.text) os))
first_named at [] = refl
first_named at (o ∷ os) = refl

-- the first operation of groups by its name
pub first_of_groups : (at : ℕ) (groups : List OperationGroup) → first_alone (flat_map (group_at at) groups) ≡ named_there at (first_there (flat_map group_texts groups))
first_of_groups at groups =
    ap first_alone (sym (brought_groups at groups))
    ∙ first_named at (flat_map group_operations groups)
    ∙ ap (λ ts. named_there at (first_there ts)) (mapped_each (λ (o : Operation). o.name.text) group_operations groups)

-- ---- the names of a port

-- one item more is taken
pub taken : {X : Type 0} (xs : List X) (i : ℕ) (x : X) → i < length xs → x ≡ get_or xs i x → take (i + 1) xs ≡ take i xs ++ x ∷ []
taken xs i x below item = take_more xs i x below ∙ ap (λ y. take i xs ++ y ∷ []) (sym item)

spared_behind : (is : List Interface) (others seen : List (List ℕ)) (ns : List Name) (n : Name)
    → spared_after is others seen (ns ++ n ∷ []) ≡ spared_after is others seen ns ++ spared_unless is others (seen ++ texts ns) n
spared_behind is others seen [] n =
    append-nil (spared_unless is others seen n) ∙ ap (λ ts. spared_unless is others ts n) (sym (append-nil seen))
spared_behind is others seen (m ∷ ns) n =
    ap (λ rest. spared_unless is others seen m ++ rest) (spared_behind is others (seen ++ m.text ∷ []) ns n)
    ∙ sym (append_assoc (spared_unless is others seen m) (spared_after is others (seen ++ m.text ∷ []) ns) (spared_unless is others ((seen ++ m.text ∷ []) ++ texts ns) n))
    ∙ ap (λ ts. (spared_unless is others seen m ++ spared_after is others (seen ++ m.text ∷ []) ns) ++ spared_unless is others ts n) (append_assoc seen (m.text ∷ []) (texts ns))

-- one name more of a port
pub spared_more : (is : List Interface) (others seen : List (List ℕ)) (m0 m1 m2 ns ms : List Name) (n : Name) → ms ≡ ns ++ n ∷ [] → seen ≡ texts ns → m1 ≡ m0 ++ spared is others ns
    → m2 ≡ m1 ++ spared_unless is others seen n → m2 ≡ m0 ++ spared is others ms
spared_more is others seen m0 m1 m2 ns ms n more known before turn =
    turn
    ∙ ap (λ xs. xs ++ spared_unless is others seen n) before
    ∙ append_assoc m0 (spared is others ns) (spared_unless is others seen n)
    ∙ ap (λ ts. m0 ++ (spared is others ns ++ spared_unless is others ts n)) known
    ∙ ap (λ xs. m0 ++ xs) (sym (spared_behind is others [] ns n) ∙ ap (spared is others) (sym more))

-- ---- ports

-- the interfaces of a port
abbrev pub port_interfaces : Port → List (List ℕ)
port_interfaces p = texts p.interfaces

-- one port more behind others
brought_behind : (is : List Interface) (earlier : List (List ℕ)) (ports : List Port) (p : Port)
    → spared_in is earlier (ports ++ p ∷ []) ≡ spared_in is earlier ports ++ spared is (earlier ++ flat_map port_interfaces ports) p.interfaces
brought_behind is earlier [] p =
    append-nil (spared is earlier p.interfaces) ∙ ap (λ ts. spared is ts p.interfaces) (sym (append-nil earlier))
brought_behind is earlier (q ∷ ports) p =
    ap (λ ns. spared is earlier q.interfaces ++ ns) (brought_behind is (earlier ++ port_interfaces q) ports p)
    ∙ sym (append_assoc (spared is earlier q.interfaces) (spared_in is (earlier ++ port_interfaces q) ports) (spared is ((earlier ++ port_interfaces q) ++ flat_map port_interfaces ports) p.interfaces))
    ∙ ap (λ ts. (spared is earlier q.interfaces ++ spared_in is (earlier ++ port_interfaces q) ports) ++ spared is ts p.interfaces) (append_assoc earlier (port_interfaces q) (flat_map port_interfaces ports))

-- a port more, where there is one
pub brought_more : (is : List Interface) (o : Option Port) (ports : List Port) (e : List (List ℕ)) (m1 m2 : List Name)
    → e ≡ flat_map port_interfaces ports → m1 ≡ spared_in is [] ports → m2 ≡ m1 ++ if_there (λ (p : Port). spared is e p.interfaces) o
    → m2 ≡ spared_in is [] (ports ++ option_to_list o)
brought_more is None ports e m1 m2 earlier before turn =
    turn ∙ append-nil m1 ∙ before ∙ ap (spared_in is []) (sym (append-nil ports))
brought_more is (Some p) ports e m1 m2 earlier before turn =
    turn
    ∙ ap (λ ns. ns ++ spared is e p.interfaces) before
    ∙ ap (λ ts. spared_in is [] ports ++ spared is ts p.interfaces) earlier
    ∙ sym (brought_behind is [] ports p)
