-- What the value of a text is, case by case.
use Rattle.std.proofs.Common.{◌≡◌, refl, ℕ, ◌<◌, ◌≤◌, List, [], ◌∷◌, length, arith, None, false}
use Rattle.std.specs.Str.{IsUtf8, is_utf8}
use Rattle.std.proofs.lemmas.Bool.{le-leb, lt-leb, false_from_ne_true}
use Rattle.std.proofs.lemmas.Str.{IsUtf8-from_is_utf8, is_utf8-from_IsUtf8}
use Rattle.serde_json.specs.Data.{array}
use Rattle.serde_json.specs.Read.{read}
use Rattle.serde_json.specs.View.{items_view}
use Rattle.serde_json.specs.declared.value.Value.{Value}
use Rattle.jsonrpc_text.specs.declared.message.Id.TheVariants as id
use Rattle.jsonrpc_text.specs.Posted.{value_of, posted, posted_in, posted_by, batch_of, one, invalid}

pub value_of-text : (bytes : List ℕ) → IsUtf8 bytes → value_of bytes ≡ read bytes
value_of-text bytes h = rw (is_utf8-from_IsUtf8 bytes h)

when_not_utf8 : (bytes : List ℕ) → ¬ (IsUtf8 bytes) → (is_utf8 bytes ≡ false)
when_not_utf8 bytes h = false_from_ne_true (is_utf8 bytes) (λ e. h (IsUtf8-from_is_utf8 bytes e))

pub value_of-broken : (bytes : List ℕ) → ¬ (IsUtf8 bytes) → value_of bytes ≡ None
value_of-broken bytes h = rw (when_not_utf8 bytes h)

pub posted-long : (bytes : List ℕ) → 65536 < length bytes → posted bytes ≡ one (invalid id.Null)
unfolding posted
posted-long bytes h = rw (lt-leb (length bytes) 65536 h)

pub posted-short : (bytes : List ℕ) → length bytes ≤ 65536 → posted bytes ≡ posted_by (value_of bytes)
unfolding posted
posted-short bytes h = rw (le-leb (length bytes) 65536 h)

pub posted_in-array : (vs : List Value) → 1 ≤ length vs → batch_of (items_view vs) ≡ posted_in (array (items_view vs))
posted_in-array [] h = absurd (omega (arith, h))
posted_in-array (v ∷ vs) h = refl
