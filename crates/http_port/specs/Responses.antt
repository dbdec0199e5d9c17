-- The bytes of responses.
use Rattle.std.specs.Prelude.{ℕ, Bool, if◌then◌else◌, ◌==◌, List, [], ◌++◌, length, codes}
use Rattle.std.specs.Fmt.{decimal}
use Rattle.httparse.specs.Ascii.{crlf_bytes}

-- the reason phrase of each status that is sent; another has none
abbrev pub reason_of : ℕ → List ℕ
reason_of status =
    if status == 200 then codes "OK"
    else (if status == 204 then codes "No Content"
    else (if status == 400 then codes "Bad Request"
    else (if status == 405 then codes "Method Not Allowed"
    else (if status == 411 then codes "Length Required"
    else (if status == 413 then codes "Content Too Large"
    else (if status == 431 then codes "Request Header Fields Too Large" else []))))))

-- a line, where the test holds
abbrev pub line_if : Bool → List ℕ → List ℕ
line_if test text = if test then text ++ crlf_bytes else []

-- the status line
abbrev pub status_line : ℕ → List ℕ
status_line status = codes "HTTP/1.1 " ++ (decimal status ++ (codes " " ++ (reason_of status ++ crlf_bytes)))

-- Content-Length, which a 204 has none of
abbrev pub length_line : ℕ → ℕ → List ℕ
length_line status length = if status == 204 then [] else codes "Content-Length: " ++ (decimal length ++ crlf_bytes)

-- the lines of a response before its body, which has so many bytes
abbrev pub head_text : ℕ → ℕ → Bool → List ℕ
head_text status length close =
    status_line status
    ++ line_if (status == 405) (codes "Allow: POST")
    ++ line_if (status == 200) (codes "Content-Type: application/json")
    ++ length_line status length
    ++ line_if close (codes "Connection: close")
    ++ crlf_bytes

-- the body that is sent: a 204 has none
abbrev pub content : ℕ → List ℕ → List ℕ
content status body = if status == 204 then [] else body

-- the bytes of a response
abbrev pub response : ℕ → List ℕ → Bool → List ℕ
response status body close = head_text status (length (content status body)) close ++ content status body

-- the interim line and the empty line behind it
abbrev pub interim : List ℕ
interim = codes "HTTP/1.1 100 Continue" ++ crlf_bytes ++ crlf_bytes
