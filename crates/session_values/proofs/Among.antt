-- Which operation stands at a place among those that are sent to.
use Rattle.std.proofs.Common.{◌≡◌, ◌<◌, ◌∷◌, [], ℕ, zero, suc, List, length, map, Some, None, arith, refl}
use Rattle.std.specs.Prelude.{slice_get}
use Rattle.behaviour_tree.specs.Data.{InterfacePart, PortPart}
use Rattle.behaviour_tree.specs.FormedServices.{println, sent_to}
use Rattle.session_values.specs.Sends.{operation_at_port}

-- an operation of a port of the service
pub sent_before : (interfaces : List InterfacePart) (ports : List PortPart) (port op : ℕ) (p : PortPart) → slice_get ports port ≡ Some p
    → operation_at_port (map (sent_to interfaces) ports) port op ≡ slice_get (sent_to interfaces p) op
sent_before interfaces [] port op p h = cc
sent_before interfaces (q ∷ qs) zero op p h = let e : q ≡ p = cc in rw e refl
sent_before interfaces (q ∷ qs) (suc port) op p h = sent_before interfaces qs port op p h

-- the operation of Console
pub sent_behind : (interfaces : List InterfacePart) (ports : List PortPart) (port op : ℕ) → port ≡ length ports
    → operation_at_port (map (sent_to interfaces) ports) port op ≡ slice_get (println ∷ []) op
sent_behind interfaces [] port op h = rw h refl
sent_behind interfaces (q ∷ qs) zero op h = absurd (omega arith)
sent_behind interfaces (q ∷ qs) (suc port) op h = sent_behind interfaces qs port op (omega arith)

-- Console has one operation
pub one_alone : (op : ℕ) → (op ≡ 0 → ⊥) → slice_get (println ∷ []) op ≡ None
one_alone zero h = absurd (h refl)
one_alone (suc op) h = refl

-- no port stands further behind
pub sent_past : (interfaces : List InterfacePart) (ports : List PortPart) (port op : ℕ) → length ports < port
    → operation_at_port (map (sent_to interfaces) ports) port op ≡ None
sent_past interfaces [] zero op h = absurd (omega arith)
sent_past interfaces [] (suc port) op h = refl
sent_past interfaces (q ∷ qs) zero op h = absurd (omega arith)
sent_past interfaces (q ∷ qs) (suc port) op h = sent_past interfaces qs port op (omega arith)
