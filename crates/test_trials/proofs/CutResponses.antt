-- A response in pieces: before it is whole it is neither a response nor none.
use Rattle.std.proofs.Common.{◌≡◌, ◌<◌, ◌+◌, ℕ, true, false, List, [], ◌∷◌, ◌++◌, length, take, drop, Some, refl, arith}
use Rattle.std.specs.Prelude.{codes}
use Rattle.httparse.proofs.OnLiterals.{httparse_on_literals}
use Rattle.http1.specs.Text.{eq_ignore_case}
use Rattle.http_link.specs.Responses.{IsResponse, IsNoResponse, IsUnfinished}
use Rattle.http_link.proofs.Heads.{head_of_part, sized_unfinished, sized_short, open_unfinished}
use Rattle.test_trials.proofs.CheckedHeads.{a_response, whole_head, still_open}
use Rattle.test_trials.proofs.Responses.{length_of, head_with}

-- a response, and its bytes before the last
abbrev text : List ℕ
text = codes "HTTP/1.1 200 OK\r\nContent-Length: 5\r\n\r\nhello"

abbrev short : List ℕ
short = codes "HTTP/1.1 200 OK\r\nContent-Length: 5\r\n\r\nhell"

-- no cut makes it none
pub cut_anywhere : (k : ℕ) → ¬ (IsNoResponse (take k text) false)
unfolding httparse_on_literals eq_ignore_case
cut_anywhere =
    still_open text (codes "hello")
    (a_response _ 38 (head_with (codes "200") (codes "OK") (length_of (codes " 5") ∷ [])) true _ refl refl refl refl (omega arith, refl))

-- without its last byte it is not finished
pub not_whole : IsUnfinished short
unfolding httparse_on_literals eq_ignore_case
not_whole =
    sized_unfinished short 38 5
    (head_of_part short 38 (head_with (codes "200") (codes "OK") (length_of (codes " 5") ∷ [])) refl (whole_head short 38 (head_with (codes "200") (codes "OK") (length_of (codes " 5") ∷ [])) refl refl refl)) [] (omega arith)

-- and it is none where no more comes
pub stopped : IsNoResponse short true
unfolding httparse_on_literals eq_ignore_case
stopped =
    sized_short short 38 5
    (head_of_part short 38 (head_with (codes "200") (codes "OK") (length_of (codes " 5") ∷ [])) refl (whole_head short 38 (head_with (codes "200") (codes "OK") (length_of (codes " 5") ∷ [])) refl refl refl)) (omega arith)

-- without a length it is not finished before the end
pub no_end : IsUnfinished (codes "HTTP/1.1 200 OK\r\n\r\nhello")
unfolding httparse_on_literals eq_ignore_case
no_end =
    open_unfinished (codes "HTTP/1.1 200 OK\r\n\r\nhello") 19
    (head_of_part (codes "HTTP/1.1 200 OK\r\n\r\nhello") 19 (head_with (codes "200") (codes "OK") []) refl (whole_head (codes "HTTP/1.1 200 OK\r\n\r\nhello") 19 (head_with (codes "200") (codes "OK") []) refl refl refl)) []
