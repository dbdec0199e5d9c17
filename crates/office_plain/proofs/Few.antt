-- There are so few messages and sessions that their numbers have 32 bits.
use Rattle.std.proofs.Common.{◌≡◌, ◌≤◌, ◌<◌, ◌+◌, ◌^◌, ℕ, suc, true, not, List, [], ◌∷◌, ◌++◌, length, length-append, take, Option, None, Some, sym, subst, arith}
use Rattle.std.specs.Prelude.{nat_lt, slice_get}
use Rattle.std.specs.List.{filter_map, cons_option}
use Rattle.std.proofs.lemmas.Bool.{and_parts}
use Rattle.std.proofs.lemmas.Bool.Decides.{nat_tests}
use Rattle.std.proofs.lemmas.List.{length-take}
use Rattle.behaviour_tree.specs.Data.{ProgramParts, ServicePart}
use Rattle.behaviour_tree.specs.FormedSets.{is_concurrent}
use Rattle.office_core.specs.declared.message.Message.{Message}
use Rattle.office_core.specs.Limits.{run_of}
use Rattle.office_core.specs.Past.{Past}
use Rattle.office_core.specs.Sessions.{births, singles_from, started_by}
use Rattle.office_plain.specs.declared.kept.SessionRow.{SessionRow}
use Rattle.office_plain.specs.Accepting.{has_session}
use Rattle.office_plain.specs.Kept.{row_of}
use Rattle.office_plain.proofs.Routing.{sessions_born}

-- ---- messages

few : (n : ℕ) → n ≤ 65536 → n < 2 ^ 32
few n h = omega arith

-- the messages that are kept, which are those of the history
pub few_messages : (kept past : List Message) → kept ≡ past → length past ≤ 65536 → length kept < 2 ^ 32
few_messages kept past same most = subst (λ ms. length ms < 2 ^ 32) (sym same) (few (length past) most)

-- ---- sessions

-- the sessions before one that a service has from the start
pub few_singles : (d : ServicePart) (n : ℕ) → has_session d n ≡ true → n < 2 ^ 32
few_singles d n h = below n (and_parts (not (is_concurrent d.execution)) (nat_lt n 4096) h).1
  where
    below : (n : ℕ) → nat_lt n 4096 ≡ true → n < 2 ^ 32
    below n h = grind (arith, nat_tests)

-- no more is left than there was
sifted : {A B : Type 0} (f : A → Option B) (xs : List A) → length (filter_map f xs) ≤ length xs
sifted f [] = omega arith
sifted {B = B} f (x ∷ xs) = by (f x) (sifted f xs)
  where
    by : (o : Option B) → length (filter_map f xs) ≤ length xs
        → length (cons_option o (filter_map f xs)) ≤ suc (length xs)
    by None h = omega (arith, h)
    by (Some y) h = omega (arith, h)

-- of the births the first are as many as there may be at most, and each of the others is by a message
born_by : (most : ℕ) (singles : List ℕ) (messages : List Message)
    → length (take most singles ++ filter_map started_by messages) ≤ most + length messages
born_by most singles messages =
    omega (
      arith,
      length-append (take most singles) (filter_map started_by messages),
      length-take most singles,
      sifted started_by messages,
    )

-- the sessions that are kept, of which there are as many as births
pub few_sessions : (parts : ProgramParts) (past : Past) (rows : List SessionRow)
    → ((s : ℕ) → slice_get rows s ≡ row_of (run_of parts) past s) → length past.messages ≤ 65536
    → length rows < 2 ^ 32
few_sessions parts past rows each most =
    let many : length rows ≡ length (births (run_of parts) past) = sessions_born (run_of parts) past rows each in
    let born : length (births (run_of parts) past) ≤ 4096 + length past.messages =
    born_by 4096 (singles_from 0 parts.services) past.messages in
    omega (arith, many, born, most)
