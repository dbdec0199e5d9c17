-- Laws of output ports that are found by their names.
use Rattle.std.proofs.Common.{◌≡◌, ℕ, suc, Bool, true, false, List, [], ◌∷◌, ◌++◌, map, Option, Some, None, refl, ap, ◌∙◌, bytes_eq}
use Rattle.std.specs.Prelude.{if◌then◌else◌, option_map, option_and_then, slice_get, unwrap_or}
use Rattle.std.proofs.lemmas.List.{map-append}
use Rattle.lower_processes.specs.Behaviours.{NumberedPort, port_among}
use Rattle.lower_processes.specs.Numbers.{port_named}
use Rattle.check_base.specs.Repeated.{place_of}

-- the names of ports
abbrev pub port_names : List NumberedPort → List (List ℕ)
port_names ps = map (λ (p : NumberedPort). p.name) ps

-- the first port is it, or one behind it
pub port_first : (b : Bool) (p : NumberedPort) (ps : List NumberedPort) (none other : NumberedPort) (o : Option ℕ) → other ≡ unwrap_or (option_and_then (λ place. slice_get ps place) o) none
    → (if b then p else other) ≡ unwrap_or (option_and_then (λ place. slice_get (p ∷ ps) place) (if b then Some 0 else option_map suc o)) none
port_first true p ps none other o e = refl
port_first false p ps none other None e = e
port_first false p ps none other (Some place) e = e

-- a port is found at the place of its name
pub port_found : (ps : List NumberedPort) (none : NumberedPort) (q : List ℕ) → port_among ps none q ≡ unwrap_or (port_named ps q) none
port_found [] none q = refl
port_found (p ∷ ps) none q = port_first (bytes_eq p.name q) p ps none (port_among ps none q) (place_of (port_names ps) q) (port_found ps none q)

-- the names of ports and one more
pub names_more : (ps new : List NumberedPort) (p : NumberedPort) → new ≡ ps ++ p ∷ [] → port_names new ≡ port_names ps ++ p.name ∷ []
names_more ps new p e = ap port_names e ∙ map-append (λ (x : NumberedPort). x.name) ps (p ∷ [])
