-- A text posts one call, or a batch of at least one.
use Rattle.std.proofs.Common.{◌≡◌, refl, ℕ, ◌≤◌, arith, List, length, nat_le, Bool, true, false, true≢false, if◌then◌else◌, Option, None, Some}
use Rattle.serde_json.specs.Data.{Data, null, boolean, number, string, array, object, no_items, item}
use Rattle.jsonrpc_text.specs.declared.message.Id.TheVariants as id
use Rattle.jsonrpc_text.specs.declared.message.Early.TheVariants as early
use Rattle.jsonrpc_text.specs.declared.message.ReadCall.{ReadCall}
use Rattle.jsonrpc_text.specs.declared.message.Read.{Read}
use Rattle.jsonrpc_text.specs.Posted.{longest, value_of, refused, invalid, call_in, one, posted_in, posted_by, posted}

-- at least one call, and just one where it is no batch
abbrev pub PostsEnough : Read → Type 0
PostsEnough r = (1 ≤ length r.calls) × (r.batch ≡ false → length r.calls ≡ 1)

one-fits : (call : ReadCall) → PostsEnough (one call)
one-fits call = (omega arith, λ h. refl)

posted_in-fits : (d : Data) → PostsEnough (posted_in d)
posted_in-fits null = one-fits (call_in null)
posted_in-fits (boolean b) = one-fits (call_in (boolean b))
posted_in-fits (number n) = one-fits (call_in (number n))
posted_in-fits (string s) = one-fits (call_in (string s))
posted_in-fits (object ms) = one-fits (call_in (object ms))
posted_in-fits (array no_items) = one-fits (invalid id.Null)
posted_in-fits (array (item d ds)) = (omega arith, λ h. absurd (true≢false h))

posted_by-fits : (o : Option Data) → PostsEnough (posted_by o)
posted_by-fits None = one-fits (refused id.Null early.Parse)
posted_by-fits (Some d) = posted_in-fits d

either-fits : (b : Bool) (x y : Read) → PostsEnough x → PostsEnough y → PostsEnough (if b then x else y)
either-fits true x y h k = h
either-fits false x y h k = k

pub posted-fits : (bytes : List ℕ) → PostsEnough (posted bytes)
unfolding posted
posted-fits bytes = either-fits (nat_le (length bytes) longest) _ _ (posted_by-fits (value_of bytes)) (one-fits (invalid id.Null))
