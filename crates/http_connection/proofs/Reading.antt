-- Each turn of reading brings bytes or is the last, and memory has an end; the interim line of a head is given once.
use Rattle.std.proofs.Common.{◌≡◌, ℕ, ◌-◌, ◌^◌, ◌<◌, Bool, true, false, List, length, sym, refl, ap, subst, arith, true≢false}
use Rattle.std.specs.Prelude.{if◌then◌else◌}
use Rattle.std.proofs.Math.Logic.{∥∥₁_elim}
use Rattle.std.proofs.Math.Bool.{Bool-set}
use Rattle.http_port.specs.Feeding.{Place, Open, Over, Spent, Feeds}
use Rattle.http_port.specs.declared.head_reader.Fed.{Fed}
use Rattle.http_port.specs.declared.head_reader.Fed.TheVariants.{Interim}
use Rattle.http_port.proofs.InterimLemmas.{given_then, given_once}
use Rattle.http_connection.specs.declared.kept.Kept.{Kept}
use Rattle.http_connection.specs.Stages.{is_waiting}
use Rattle.http_connection.specs.Steps.{is_interim, is_invited, left_to_read}
use Rattle.http_connection.proofs.Passing.{interim_fed}

-- fewer bytes are left that may be read
pub reads_less : (before now : Kept) → is_waiting before.next ≡ true → (is_waiting now.next ≡ true → length before.read.items < length now.read.items)
    → length before.read.items < 2 ^ 63 → length now.read.items < 2 ^ 63 → left_to_read now < left_to_read before
reads_less before now waits further few fits = by (is_waiting now.next) refl
  where
    left : left_to_read before ≡ 2 ^ 63 - length before.read.items
    left = ap (λ b. if b then 2 ^ 63 - length before.read.items else 0) waits

    by : (b : Bool) → is_waiting now.next ≡ b → left_to_read now < left_to_read before
    by true e =
        let is : left_to_read now ≡ 2 ^ 63 - length now.read.items = ap (λ b. if b then 2 ^ 63 - length now.read.items else 0) e in
        let more : length before.read.items < length now.read.items = further e in
        omega (arith, left, is, more, few, fits)
    by false e =
        let is : left_to_read now ≡ 0 = ap (λ b. if b then 2 ^ 63 - length now.read.items else 0) e in
        omega (arith, left, is, few)

-- ---- the interim line

-- a reader that gives an interim line gave it of the head that comes next
pub invited_then : (before after : Place) (piece : List ℕ) → Feeds before piece Interim after → is_invited after ≡ true
invited_then before after piece feeds = ∥∥₁_elim (given_then before after piece feeds) (Bool-set _ _) (λ x. ap is_invited x.1)

-- and gives no second one of it
pub invited_once : (before after : Place) (piece : List ℕ) (fed : Fed) → is_invited before ≡ true → Feeds before piece fed after → is_interim fed ≡ false
invited_once (Open left true) after piece fed was feeds = by (is_interim fed) refl
  where
    by : (b : Bool) → is_interim fed ≡ b → b ≡ false
    by true e = absurd (given_once left after piece (subst (λ f. Feeds (Open left true) piece f after) (interim_fed fed e) feeds))
    by false e = refl
invited_once (Open left false) after piece fed was feeds = absurd (true≢false (sym was))
invited_once Over after piece fed was feeds = absurd (true≢false (sym was))
invited_once Spent after piece fed was feeds = absurd (true≢false (sym was))
