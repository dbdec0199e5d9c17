-- How it stands with a message once a session took the answer of its call.
use Rattle.std.specs.Prelude.{ℕ, nat_eq, if◌then◌else◌, Option, None, Some}
use Rattle.reqresp_book.specs.declared.place.Standing.{Standing}
use Rattle.reqresp_book.specs.Standing.{collected_at}

-- how it stands with message n once the answer of the message that a call became, if it became one, was taken out
abbrev pub taken_out : Option ℕ → ℕ → Option Standing → Option Standing
taken_out None n s = s
taken_out (Some m) n s = if nat_eq n m then collected_at s else s
